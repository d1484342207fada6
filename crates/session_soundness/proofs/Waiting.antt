-- Bytes that end nothing and show no refusal: so do their first parts, and testing the whole is enough.
use Prim.Native.Nat.{ℕ, ◌≤◌}
use native.Mathlib.Omega.{arith}
use mathlib.Core.Path.{◌≡◌, refl, sym, ap, ◌∙◌}
use mathlib.Core.Bool.{Bool, true, ◌&&◌}
use mathlib.Core.List.{List, [], ◌∷◌, ◌++◌, map}
use lib.ListN.{length}
use mathlib.Core.Logic.{⊎_elim}
use borrow.Author.Tests.{eq-eqb, ne_eqb}
use Rattle.lists.specs.Lists.{every}
use Rattle.lists.proofs.Cases.{by-test, never, not-passed, and_first, and_second, and_intro, cond-true, cond-false, eq-or-ne}
use Rattle.handshake.specs.declared.Hello.{Hello}
use Rattle.handshake.specs.declared.Hello.TheVariants as hello
use Rattle.handshake.specs.declared.Status.{Status}
use Rattle.handshake.specs.declared.Status.TheVariants as status
use Rattle.handshake.specs.Handshake.{judge_hello, judge_status}
use Rattle.handshake.proofs.HelloLaws.{hello-waited, hello-empty, hello-short, status-waited, status-empty, status-short}
use Rattle.frame.specs.declared.Frame.{Frame}
use Rattle.frame.specs.declared.Frame.TheVariants as frame
use Rattle.frame.specs.Frame.{judge_frame}
use Rattle.frame.proofs.Behind.{waiting_none, waiting-first-part}
use Rattle.frame.proofs.Limits.{waiting-short}
use Rattle.session.specs.declared.Connection.{Connection}
use Rattle.session.specs.Session.{local_name, remote_name}
use Rattle.session_soundness.specs.Sound.{hello_waits, status_waits, frame_waits, waits, first_parts}

-- ---- what waiting is

pub hello-is-waiting : (h : Hello) → hello_waits h ≡ true → h ≡ hello.Waiting
hello-is-waiting hello.Waiting e = refl
hello-is-waiting (hello.Accepted process relative) e = never refl (sym e)
hello-is-waiting (hello.Refused n) e = never refl (sym e)

pub status-is-waiting : (s : Status) → status_waits s ≡ true → s ≡ status.Waiting
status-is-waiting status.Waiting e = refl
status-is-waiting status.Accepted e = never refl (sym e)
status-is-waiting (status.Refused n) e = never refl (sym e)

pub frame-is-waiting : (f : Frame) → frame_waits f ≡ true → f ≡ frame.Waiting
frame-is-waiting frame.Waiting e = refl
frame-is-waiting (frame.Control type) e = never refl (sym e)
frame-is-waiting (frame.Error type) e = never refl (sym e)
frame-is-waiting (frame.Body kind start end) e = never refl (sym e)
frame-is-waiting (frame.Refused n) e = never refl (sym e)

-- ---- by the phase

module _ (c : Connection) where
  pub waits-hello : (u : List ℕ) → c.phase ≡ 0 → waits c u ≡ hello_waits (judge_hello (local_name c) (remote_name c) u)
  unfolding waits
  waits-hello u e = cond-true _ _ _ (eq-eqb c.phase 0 e)

  pub waits-status : (u : List ℕ) → c.phase ≡ 1 → waits c u ≡ status_waits (judge_status u)
  unfolding waits
  waits-status u e = cond-false _ _ _ (ne_eqb c.phase 0 (λ z. omega arith)) ∙ cond-true _ _ _ (eq-eqb c.phase 1 e)

  pub waits-frame : (u : List ℕ) → (c.phase ≡ 0 → ⊥) → (c.phase ≡ 1 → ⊥) → waits c u ≡ frame_waits (judge_frame u)
  unfolding waits
  waits-frame u e f = cond-false _ _ _ (ne_eqb c.phase 0 e) ∙ cond-false _ _ _ (ne_eqb c.phase 1 f)

  -- what holds in each of the three phases
  by-phase : {P : Type 0} → (c.phase ≡ 0 → P) → (c.phase ≡ 1 → P) → ((c.phase ≡ 0 → ⊥) → (c.phase ≡ 1 → ⊥) → P) → P
  by-phase p q r = ⊎_elim p (λ e. ⊎_elim q (λ f. r e f) (eq-or-ne c.phase 1)) (eq-or-ne c.phase 0)

  -- nothing yet
  pub waits-none : waits c [] ≡ true
  waits-none =
      by-phase
      (λ e. waits-hello [] e ∙ ap hello_waits (hello-empty (local_name c) (remote_name c)))
      (λ e. waits-status [] e ∙ ap status_waits status-empty)
      (λ e f. waits-frame [] e f ∙ ap frame_waits waiting_none)

  -- a first part
  pub waits-before : (u v : List ℕ) → waits c (u ++ v) ≡ true → waits c u ≡ true
  waits-before u v h =
      by-phase
      (λ e.
      waits-hello u e
      ∙ ap hello_waits (hello-waited (local_name c) (remote_name c) u v (hello-is-waiting _ (sym (waits-hello (u ++ v) e) ∙ h))))
      (λ e. waits-status u e ∙ ap status_waits (status-waited u v (status-is-waiting _ (sym (waits-status (u ++ v) e) ∙ h))))
      (λ e f. waits-frame u e f ∙ ap frame_waits (waiting-first-part u v (frame-is-waiting _ (sym (waits-frame (u ++ v) e f) ∙ h))))

  -- as many bytes as the buffer has, at most
  pub waits-few : (u : List ℕ) → waits c u ≡ true → length u ≤ 1027
  waits-few u h =
      by-phase
      (λ e. let l = hello-short (local_name c) (remote_name c) u (hello-is-waiting _ (sym (waits-hello u e) ∙ h)) in omega arith)
      (λ e. let l = status-short u (status-is-waiting _ (sym (waits-status u e) ∙ h)) in omega arith)
      (λ e f. waiting-short u (frame-is-waiting _ (sym (waits-frame u e f) ∙ h)))

-- ---- first parts

every_map : (p : List ℕ → Bool) (b : ℕ) (us : List (List ℕ)) → every p (map (λ v. b ∷ v) us) ≡ every (λ v. p (b ∷ v)) us
unfolding every
every_map p b [] = refl
every_map p b (u ∷ us) = ap (λ (t : Bool). p (b ∷ u) && t) (every_map p b us)

parts-pass : (p : List ℕ → Bool) → ((u v : List ℕ) → p (u ++ v) ≡ true → p u ≡ true) → (u : List ℕ) → p u ≡ true → every p (first_parts u) ≡ true
unfolding every first_parts
parts-pass p f [] h = and_intro (p []) true h refl
parts-pass p f (b ∷ u) h =
    and_intro (p []) _ (f [] (b ∷ u) h)
    (every_map p b (first_parts u) ∙ parts-pass (λ v. p (b ∷ v)) (λ v w. f (b ∷ v) w) u h)

whole-passes : (p : List ℕ → Bool) (u : List ℕ) → every p (first_parts u) ≡ true → p u ≡ true
unfolding every first_parts
whole-passes p [] h = and_first (p []) true h
whole-passes p (b ∷ u) h = whole-passes (λ v. p (b ∷ v)) u (sym (every_map p b (first_parts u)) ∙ and_second (p []) _ h)

module _ (c : Connection) (u : List ℕ) where
  pub waits-first-parts : waits c u ≡ true → every (waits c) (first_parts u) ≡ true
  waits-first-parts h = parts-pass (waits c) (waits-before c) u h

  pub first-parts-wait : every (waits c) (first_parts u) ≡ true → waits c u ≡ true
  first-parts-wait h = whole-passes (waits c) u h

  -- so testing the whole is enough
  pub waits-whole : waits c u ≡ every (waits c) (first_parts u)
  waits-whole =
      by-test (waits c u)
      (λ t. t ∙ sym (waits-first-parts t))
      (λ t. t ∙ sym (not-passed (every (waits c) (first_parts u)) (λ h. never (first-parts-wait h) t)))
