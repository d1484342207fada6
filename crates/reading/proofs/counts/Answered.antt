-- The counts after an answer are those of the store that the message leaves.
use Prim.Native.Nat.{ℕ, ◌<◌, ◌-◌}
use native.Mathlib.Omega.{arith}
use mathlib.Core.Path.{◌≡◌, refl, sym, ap, subst, ◌∙◌}
use mathlib.Core.Bool.{true, false}
use mathlib.Core.List.{List, [], ◌∷◌}
use lib.ListN.{length, get_or, set}
use lib.Dec.{eqb, leb}
use borrow.Author.Tests.{eq-eqb, eqb-true}
use types.Run.{OneOf}
use denote.Enum.Declared.{tag_of}
use Rattle.lists.specs.Lists.{among}
use Rattle.lists.proofs.Cases.{never, and_second, and_intro, among-yes}
use Rattle.store.specs.declared.Entry.{Entry}
use Rattle.store.specs.declared.Store.{Store}
use Rattle.store.specs.Store.{entry_held, entry_free, entry_keyed, key_of, owned_by, counts_of, raised, with_entries, make_entry, put_table, put_entry, no_entry}
use Rattle.store.proofs.Facts.{keyed-facts}
use Rattle.store.proofs.Counting.{counts-new, counts-replaced}
use Rattle.store.proofs.CountLaws.{same-owner}
use Rattle.session.specs.declared.Connection.{Connection}
use Rattle.session.specs.declared.Commit.{Commit}
use Rattle.session.specs.declared.Commit.TheVariants as commit
use Rattle.session.specs.declared.Answer.{Answer}
use Rattle.session.specs.declared.Answer.TheVariants as answer
use Rattle.session.specs.Answers.{refusal_of}
use Rattle.session.specs.contracts.Answer.{the_type}
use Rattle.session.proofs.answers.Refusals.{no_number}
use Rattle.message.specs.Changes.{changed, no_change, table_change, entry_change}
use Rattle.message.specs.Targets.{keyed_as}
use Rattle.message.specs.Effects.{Effect, refuse_with, note, peer_error, define_at, updated_entry, commit_at}
use Rattle.reassembly.specs.Judge.{Judged, waiting, settled, effect_of, judge}
use Rattle.receiver.proofs.EffectKinds.{Noted, Finds, Kind, kind-of}
use Rattle.receiver.proofs.EffectKinds as kinds
use Rattle.reading.specs.Counts.{committed_counts, answered_counts}

-- ---- in the form of the code

-- an answer that is no update
abbrev pub NoUpdate : Answer → Type 0
NoUpdate a = (table id place : ℕ) (how : Commit) → a ≡ answer.Update table id place how → ⊥

module _ where
  pub other-counts : (a : Answer) (cs : List ℕ) → NoUpdate a → answered_counts a cs ≡ cs
  unfolding answered_counts
  other-counts (answer.Update table id place how) cs f = absurd (f table id place how refl)
  other-counts answer.More cs f = refl
  other-counts (answer.Hello process relative) cs f = refl
  other-counts answer.Status cs f = refl
  other-counts answer.Request cs f = refl
  other-counts answer.Finished cs f = refl
  other-counts answer.Partial cs f = refl
  other-counts answer.Confirmed cs f = refl
  other-counts answer.Heartbeat cs f = refl
  other-counts (answer.Error type) cs f = refl
  other-counts (answer.Table place) cs f = refl
  other-counts (answer.Switch place) cs f = refl
  other-counts (answer.Acknowledgement id update) cs f = refl
  other-counts (answer.Skipped kind) cs f = refl
  other-counts (answer.Refused n) cs f = refl
  other-counts (answer.RefusedAt n offset) cs f = refl

pub update-counts : (a : Answer) (cs r : List ℕ) {table id place : ℕ} {how : Commit} → a ≡ answer.Update table id place how → r ≡ committed_counts table how cs
    → r ≡ answered_counts a cs
unfolding answered_counts
update-counts a cs r e q = q ∙ ap (λ (b : Answer). answered_counts b cs) (sym e)

-- every tag but that of an update
abbrev others : List ℕ
others = 0 ∷ 1 ∷ 2 ∷ 3 ∷ 4 ∷ 5 ∷ 6 ∷ 7 ∷ 8 ∷ 9 ∷ 10 ∷ 12 ∷ 13 ∷ 14 ∷ 15 ∷ []

pub kept-counts : (a : Answer) (cs : List ℕ) → OneOf (0 ∷ 1 ∷ 2 ∷ 3 ∷ 4 ∷ 5 ∷ 6 ∷ 7 ∷ 8 ∷ 9 ∷ 10 ∷ 12 ∷ 13 ∷ 14 ∷ 15 ∷ []) (tag_of the_type a) → cs ≡ answered_counts a cs
kept-counts a cs q =
    sym (other-counts a cs
    (λ table id place how e.
    never (sym (among-yes others (tag_of the_type a) q)) (ap (λ (b : Answer). among others (tag_of the_type b)) e ∙ (unfold among in refl))))

pub ruleset answering = (update-counts, kept-counts)

-- ---- a committed entry

free-held : (e : Entry) → entry_free e ≡ true → entry_held e ≡ false
unfolding entry_free entry_held
free-held e h = rw (eqb-true e.held 0 h)

old-owner : (e old : Entry) → keyed_as e old ≡ true → owned_by e.table old ≡ true
unfolding keyed_as owned_by
old-owner e old k =
    let f = keyed-facts e.table (key_of e) old (and_second (leb e.key_len 64) (entry_keyed e.table (key_of e) old) k) in
    and_intro (entry_held old) (eqb old.table e.table) f.held (eq-eqb old.table e.table f.owner)

module _ (t : Store) (size : length t.entries ≡ 128) (right : t.counts ≡ counts_of t.entries) where
  commit-counts : (how : Commit) (e : Entry) (place : ℕ) → place < length t.entries → e.held ≡ 1 → Finds how e (get_or t.entries place no_entry)
      → committed_counts e.table how t.counts ≡ counts_of (set t.entries place e)
  unfolding committed_counts Finds entry_held
  commit-counts commit.New e place l h f =
      ap (raised e.table) right
      ∙ counts-new t.entries place e l (omega (arith, size)) (free-held (get_or t.entries place no_entry) f) (eq-eqb e.held 1 h)
  commit-counts commit.Replaced e place l h f =
      right
      ∙ counts-replaced t.entries place e l
      (same-owner e (get_or t.entries place no_entry) (old-owner e (get_or t.entries place no_entry) f) (eq-eqb e.held 1 h))

  module _ (c : Connection) (u : List ℕ) where
    kind-counts : (e : Effect) → Kind c t u e → answered_counts e.answer t.counts ≡ (changed t e.change).counts
    unfolding answered_counts refuse_with note peer_error define_at commit_at changed no_change table_change entry_change put_table put_entry with_entries
    kind-counts e (kinds.refused n a h r o) =
        other-counts a t.counts (λ table id place how q. no_number n (unfold refusal_of in sym (ap refusal_of q) ∙ r))
    kind-counts e (kinds.noted d a reply h) = other-counts a t.counts (λ table id place how q. subst Noted q h)
    kind-counts e (kinds.errored type) = refl
    kind-counts e (kinds.defined fields body place k) = refl
    kind-counts e (kinds.committed fields body place how k) =
        commit-counts how (updated_entry body (c.current - 1) fields) place k.inside (unfold updated_entry make_entry in refl) k.finds

    judged-as : (j : Judged Effect) → judge c t u ≡ j → answered_counts (effect_of c j).answer t.counts ≡ (changed t (effect_of c j).change).counts
    unfolding effect_of
    judged-as waiting q = unfold answered_counts note changed no_change in refl
    judged-as (settled e) q = kind-counts e (kind-of c t u e q)

    -- of the message that the bytes end, if they end one
    pub judged-counts : answered_counts (effect_of c (judge c t u)).answer t.counts ≡ (changed t (effect_of c (judge c t u)).change).counts
    judged-counts = judged-as (judge c t u) refl
