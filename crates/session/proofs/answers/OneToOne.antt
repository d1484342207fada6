-- An answer is known from its number and values.
use Prim.Native.Nat.{ℕ, ◌<◌}
use mathlib.Core.Path.{◌≡◌, refl, sym, ap, ◌∙◌}
use mathlib.Core.Bool.{cond}
use mathlib.Core.List.{List, [], ◌∷◌}
use mathlib.Core.Option.{some}
use lib.ListN.{get_or}
use lib.Dec.{ltb, eqb}
use borrow.Author.Tests.{lt-ltb}
use Rattle.lists.proofs.Cases.{cond-true}
use Rattle.session.specs.declared.Commit.TheVariants as commit
use Rattle.session.specs.declared.Answer.{Answer}
use Rattle.session.specs.declared.Answer.TheVariants as answer
use Rattle.session.specs.Answers.{answer_number, answer_values, refusal_of}

-- the answer that a number and values stand for
others : ℕ → List ℕ → Answer
others n vs =
    cond (eqb n 256) answer.More
    (cond (eqb n 257) (answer.Hello (get_or vs 0 0) (get_or vs 1 0))
    (cond (eqb n 258) answer.Status
    (cond (eqb n 259) answer.Request
    (cond (eqb n 260) answer.Finished
    (cond (eqb n 261) answer.Partial
    (cond (eqb n 262) answer.Confirmed
    (cond (eqb n 263) answer.Heartbeat
    (cond (eqb n 264) (answer.Error (get_or vs 0 0))
    (cond (eqb n 265) (answer.Table (get_or vs 0 0))
    (cond (eqb n 266) (answer.Switch (get_or vs 0 0))
    (cond (eqb n 267) (answer.Update (get_or vs 0 0) (get_or vs 1 0) (get_or vs 2 0) (cond (eqb (get_or vs 3 0) 0) commit.New commit.Replaced))
    (cond (eqb n 268) (answer.Acknowledgement (get_or vs 0 0) (get_or vs 1 0))
    (answer.Skipped (get_or vs 0 0))))))))))))))

refusal : ℕ → List ℕ → Answer
refusal n [] = answer.Refused n
refusal n (offset ∷ vs) = answer.RefusedAt n offset

named : ℕ → List ℕ → Answer
named n vs = cond (ltb n 256) (refusal n vs) (others n vs)

-- a refusal's number is a byte, as the enum's is
abbrev pub RefusedByte : Answer → Type 0
RefusedByte a = (n : ℕ) → refusal_of a ≡ some n → n < 256

named_back : (a : Answer) → RefusedByte a → named (answer_number a) (answer_values a) ≡ a
unfolding answer_number answer_values refusal_of named refusal others
named_back answer.More h = refl
named_back (answer.Hello process relative) h = refl
named_back answer.Status h = refl
named_back answer.Request h = refl
named_back answer.Finished h = refl
named_back answer.Partial h = refl
named_back answer.Confirmed h = refl
named_back answer.Heartbeat h = refl
named_back (answer.Error type) h = refl
named_back (answer.Table place) h = refl
named_back (answer.Switch place) h = refl
named_back (answer.Update table id entry commit.New) h = refl
named_back (answer.Update table id entry commit.Replaced) h = refl
named_back (answer.Acknowledgement id update) h = refl
named_back (answer.Skipped type) h = refl
named_back (answer.Refused number) h = cond-true (ltb number 256) _ _ (lt-ltb number 256 (h number refl))
named_back (answer.RefusedAt number offset) h = cond-true (ltb number 256) _ _ (lt-ltb number 256 (h number refl))

-- two answers with one number and the same values are equal
pub answers-one-to-one : (a b : Answer) → RefusedByte a → RefusedByte b → answer_number a ≡ answer_number b → answer_values a ≡ answer_values b
    → a ≡ b
answers-one-to-one a b h k e f = sym (named_back a h) ∙ ap (λ (n : ℕ). named n (answer_values a)) e ∙ ap (named (answer_number b)) f ∙ named_back b k
