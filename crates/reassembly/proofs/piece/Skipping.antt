-- Bytes that need no judging: inside a body of known length nothing ends and nothing is refused.
use Rattle.std.specs.Prelude.{Err, None, Ok, Option, Result, Some}
use Prim.Native.Nat.{ℕ, ◌+◌, ◌≤◌, ◌<◌}
use native.Mathlib.Omega.{arith}
use native.Mathlib.Numerals.{add-one}
use mathlib.Core.Path.{◌≡◌, refl, sym, ap, ◌∙◌, subst}
use mathlib.Core.Bool.{Bool, true, false}
use mathlib.Core.List.{List, [], ◌∷◌, ◌++◌, append_assoc}
use lib.ListN.{length, take, get_or}
use borrow.Author.Rules.{rules}
use borrow.Author.Tests.{lt-ltb, le-ltb, eq-eqb, ne_eqb}
use Rattle.lists.proofs.Cases.{cond-true, cond-false, eq-or-ne, lt-or-le, split}
use Rattle.frame.specs.declared.Header.{Header}
use Rattle.wire.specs.declared.IntError.{IntError}
use Rattle.wire.specs.declared.IntError.TheVariants as int
use Rattle.wire.specs.Integer.{read_int}
use Rattle.wire.proofs.Advance.{advance}
use Rattle.wire.proofs.Behind.{int-value-behind}
use Rattle.frame.specs.declared.Header.TheVariants as header
use Rattle.frame.specs.declared.Frame.TheVariants as frame
use Rattle.frame.specs.Frame.{header_of, with_header, judge_frame}
use Rattle.frame.proofs.Judging.{by-header, body-waits}
use Rattle.frame.proofs.Behind.{by-header-behind}
use Rattle.session.specs.declared.Connection.{Connection}
use Rattle.session.proofs.Basics.{told}
use Rattle.session_soundness.specs.Sound.{frame_waits, waits}
use Rattle.session_soundness.proofs.Waiting.{frame-is-waiting, waits-frame}
use Rattle.reassembly.proofs.Taking.{Taking, start, room-left, goes_on, ends}
use Rattle.reassembly.specs.Pieces.{Part, take_piece}
use Rattle.reassembly.specs.Skip.{message_end, waits_until}

-- ---- bytes that wait while they are fewer than n, whatever comes behind them
pub record Quiet (c : Connection) (u : List ℕ) (n : ℕ) : Type 0 where
  pub on : (w : List ℕ) → length (u ++ w) < n → waits c (u ++ w) ≡ true

quiet_none : (c : Connection) (u : List ℕ) → Quiet c u 0
quiet_none c u = record { on = λ w l. absurd (omega (arith, l)) }

quiet-behind : (c : Connection) (u v : List ℕ) (n : ℕ) → Quiet c u n → Quiet c (u ++ v) n
quiet-behind c u v n q =
    record {
      on =
          λ w l.
          let e : (u ++ v) ++ w ≡ u ++ (v ++ w) = append_assoc u v w in
          ap (waits c) e ∙ q.on (v ++ w) (subst (λ (x : List ℕ). length x < n) e l);
    }

-- a body of n bytes that starts at `start`, its length being there, waits until it is whole
module _ (u w : List ℕ) (n start : ℕ) (e : read_int u 2 ≡ Ok (n, start)) (few : n ≤ 1024) (l : length (u ++ w) < start + n) where
  header-waits-on : (h : (Option Header)) → with_header u h ≡ frame.Waiting → with_header (u ++ w) h ≡ frame.Waiting
  unfolding with_header
  header-waits-on (Some (header.Control type)) q = absurd (let z : ◌≡◌ {A = ℕ} 0 1 = cc in omega arith)
  header-waits-on (Some (header.Error type)) q = absurd (let z : ◌≡◌ {A = ℕ} 0 1 = cc in omega arith)
  header-waits-on (Some (header.StickTable type)) q = sym (body-waits (u ++ w) _ refl type n start (int-value-behind u w 2 n start e) few l)
  header-waits-on None q = absurd (let z : ◌≡◌ {A = ℕ} 0 1 = cc in omega arith)

  frame-waits-on : judge_frame u ≡ frame.Waiting → judge_frame (u ++ w) ≡ frame.Waiting
  frame-waits-on q =
      let a = advance u 2 n start e in
      let m : 2 ≤ length u = omega (arith, a.0, a.1) in
      let h : (Option Header) = header_of (get_or u 0 0) (get_or u 1 0) in
      sym (by-header-behind u w m) ∙ header-waits-on h (by-header u h m refl ∙ q)

module _ (c : Connection) (u : List ℕ) (h : waits c u ≡ true) where
  message-quiet : c.phase ≡ 2 → (i : (Result (ℕ × ℕ) IntError)) → i ≡ read_int u 2 → Quiet c u (message_end i)
  unfolding message_end
  message-quiet e (Err (int.Short k)) p = quiet_none c u
  message-quiet e (Err (int.Overflow k)) p = quiet_none c u
  message-quiet e (Ok (n, start)) p =
      let judged : (v : List ℕ) → waits c v ≡ frame_waits (judge_frame v) = λ v. waits-frame c v (λ z. omega arith) (λ z. omega arith) in
      split (lt-or-le 1024 n)
      (λ l. rw (lt-ltb 1024 n l) (quiet_none c u))
      (λ l.
      rw (le-ltb 1024 n l)
      (record {
        on = λ w k. judged (u ++ w) ∙ ap frame_waits (frame-waits-on u w n start (sym p) l k (frame-is-waiting _ (sym (judged u) ∙ h)));
      }))

  until-quiet : Quiet c u (waits_until c.phase u)
  unfolding waits_until
  until-quiet =
      split (eq-or-ne c.phase 2)
      (λ e. rw (eq-eqb c.phase 2 e) (message-quiet e (read_int u 2) refl))
      (λ e. rw (ne_eqb c.phase 2 e) (quiet_none c u))

-- ---- the loop
pub record Skipping (piece : List ℕ) (c : Connection) (u₀ u : List ℕ) (i until : ℕ) : Type 0 where
  pub state : Taking piece c u₀ u i
  pub quiet : Quiet c u until

pub begins : (piece : List ℕ) (c : Connection) (u : List ℕ) → length u ≤ 1027 → Skipping piece c u u 0 0
begins piece c u l = record { state = start piece c u l; quiet = quiet_none c u }

module _ {piece : List ℕ} {c : Connection} {u₀ u : List ℕ} {i until : ℕ} (t : Skipping piece c u₀ u i until) (b : ℕ) (e : b ≡ get_or piece i 0)
    (l : i < length piece) where
  abbrev behind : List ℕ
  behind = u ++ (b ∷ [])

  -- where v are the bytes with this one behind them
  module _ (v : List ℕ) (p : v ≡ behind) where
    -- a byte that is judged, and x are the bytes that are lent for it
    module _ (x : List ℕ) (q : x ≡ v) (w : Bool) (r : w ≡ waits c x) where
      was : waits c behind ≡ w
      was = ap (waits c) (sym (q ∙ p)) ∙ sym r

      pub judged-on : true ≡ w → (n : ℕ) → n ≡ waits_until c.phase x → Skipping piece c u₀ v (i + 1) n
      judged-on h n m =
          let k : waits c behind ≡ true = was ∙ sym h in
          rw (m, q, p) (record { state = goes_on t.state b e l k; quiet = until-quiet c behind k })

      pub ends-here : false ≡ w → ◌≡◌ {A = Part} (record { bytes = v; taken = i + 1; ended = true }) (take_piece c u₀ piece)
      ends-here h = rw p (ends t.state b e l (was ∙ sym h))

    -- a byte that isn't
    pub skips-on : (n : ℕ) → n ≡ length v → n < until → Skipping piece c u₀ v (i + 1) until
    skips-on n m h =
        let k : length behind < until = omega (arith, h, m, ap length p) in
        rw p (record { state = goes_on t.state b e l (t.quiet.on (b ∷ []) k); quiet = quiet-behind c u (b ∷ []) until t.quiet })

pub ruleset skipping = (told, room-left, begins)
