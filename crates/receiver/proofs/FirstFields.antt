-- The first field of a body, seen from the whole message.
use Rattle.std.specs.Prelude.{Err, None, Ok, Option, Result, Some}
use Prim.Native.Nat.{ℕ, ◌+◌, ◌-◌, ◌≤◌}
use native.Mathlib.Omega.{arith}
use mathlib.Core.Path.{◌≡◌, refl, sym, ap, subst, ◌∙◌}
use mathlib.Core.List.{List, ◌++◌}
use mathlib.Core.Bool.{true}
use lib.ListN.{length, take, drop, get_or, take-append-drop}
use lib.Seq.{length-take-le}
use lib.Dec.{ltb}
use Rattle.lists.proofs.Cases.{by-test, cond-true}
use Rattle.frame.specs.declared.Header.{Header}
use Rattle.wire.specs.declared.IntError.{IntError}
use Rattle.wire.specs.declared.IntError.TheVariants as int
use Rattle.wire.specs.Integer.{read_int}
use Rattle.wire.specs.Number.{read_number}
use Rattle.wire.proofs.Behind.{int-value-behind, moved_int, int-moved, number-value-behind, moved_number, number-moved}
use Rattle.store.specs.declared.Table.{Table}
use Rattle.store.specs.Limits.{name_max}
use Rattle.frame.specs.declared.Header.TheVariants as header
use Rattle.frame.specs.declared.Frame.{Frame}
use Rattle.frame.specs.declared.Frame.TheVariants as frame
use Rattle.frame.specs.Frame.{header_of, with_length, with_header, judge_frame}
use Rattle.body.specs.Fields.{Read, got, failed, and_then, integer, between, integer_of, number_read, number4}
use Rattle.body.specs.declared.definition.Named.{Named}
use Rattle.body.specs.declared.definition.Definition.{Definition}
use Rattle.body.specs.declared.update.Time.{Time}
use Rattle.body.specs.declared.update.Update.{Update}
use Rattle.body.specs.Bodies.{name_field, named_fields, shape_fields, times_fields, rest_fields, definition_fields, switch_fields, number_or, time_mark, timed_fields, update_fields}
use Rattle.body.specs.declared.update.Form.{Form}
use Rattle.body.proofs.Holds.{held, then-got}
use Rattle.body.proofs.Taken.{Taken, integer-value}
use Rattle.body.proofs.Within.{EntryWithin, entry-holds}
use Rattle.receiver.specs.Ledger.{after_int, body_start, value_of, table_id, number_value, explicit_id}

-- ---- where the body starts

Starts : ℕ → Frame → Type 0
Starts n frame.Waiting = Unit {0}
Starts n (frame.Control type) = Unit {0}
Starts n (frame.Error type) = Unit {0}
Starts n (frame.Body kind start end) = n ≡ start
Starts n (frame.Refused k) = Unit {0}

length-starts : (kind : ℕ) (u : List ℕ) (r : (Result (ℕ × ℕ) IntError)) → Starts (after_int r) (with_length kind u r)
unfolding Starts after_int with_length
length-starts kind u (Err (int.Short k)) = tt
length-starts kind u (Err (int.Overflow k)) = tt
length-starts kind u (Ok (n, start)) =
    by-test (ltb 1024 n) (λ a. rw a tt) (λ a. rw a (by-test (ltb (length u) (start + n)) (λ b. rw b tt) (λ b. rw b refl)))

header-starts : (u : List ℕ) (h : (Option Header)) → Starts (after_int (read_int u 2)) (with_header u h)
unfolding with_header
header-starts u (Some (header.Control type)) = unfold Starts in tt
header-starts u (Some (header.Error type)) = unfold Starts in tt
header-starts u (Some (header.StickTable type)) = length-starts type u (read_int u 2)
header-starts u None = unfold Starts in tt

frame-starts : (u : List ℕ) → Starts (after_int (read_int u 2)) (judge_frame u)
unfolding judge_frame
frame-starts u =
    by-test (ltb (length u) 2)
    (λ a. rw a (unfold Starts in tt))
    (λ a. rw a (header-starts u (header_of (get_or u 0 0) (get_or u 1 0))))

pub body-starts : (u : List ℕ) (kind start end : ℕ) → judge_frame u ≡ frame.Body kind start end → body_start u ≡ start
unfolding body_start Starts
body-starts u kind start end e = subst (Starts (after_int (read_int u 2))) e (frame-starts u)

-- ---- a field that a part begins with, read in the whole

module _ (u : List ℕ) (start n : ℕ) (h : start ≤ length u) where
  size : length (take start u) ≡ start
  size = length-take-le start u h

  whole : take start u ++ (take n (drop start u) ++ drop n (drop start u)) ≡ u
  whole = ap (λ (l : List ℕ). take start u ++ l) (take-append-drop n (drop start u)) ∙ take-append-drop start u

  pub int-there : (v next : ℕ) → read_int (take n (drop start u)) 0 ≡ Ok (v, next) → read_int u start ≡ Ok (v, (start + next))
  int-there v next e =
      let p = take start u in
      let b = int-value-behind (take n (drop start u)) (drop n (drop start u)) 0 v next e in
      let m = int-moved p (take n (drop start u) ++ drop n (drop start u)) 0 in
      let k : length p + 0 ≡ start = omega (arith, size) in
      let q : read_int (p ++ (take n (drop start u) ++ drop n (drop start u))) start ≡ Ok (v, (start + next)) =
      subst (λ (x : ℕ). read_int (p ++ (take n (drop start u) ++ drop n (drop start u))) x ≡ Ok (v, (start + next))) k
      (m ∙ (ap (moved_int (length p)) b ∙ (unfold moved_int in ap (λ (x : ℕ). Ok (v, (x + next))) size))) in
      subst (λ (l : List ℕ). read_int l start ≡ Ok (v, (start + next))) whole q

  pub number-there : (v next : ℕ) → read_number (take n (drop start u)) 0 ≡ Some (v, next) → read_number u start ≡ Some (v, (start + next))
  number-there v next e =
      let p = take start u in
      let b = number-value-behind (take n (drop start u)) (drop n (drop start u)) 0 v next e in
      let m = number-moved p (take n (drop start u) ++ drop n (drop start u)) 0 in
      let k : length p + 0 ≡ start = omega (arith, size) in
      let q : read_number (p ++ (take n (drop start u) ++ drop n (drop start u))) start ≡ Some (v, (start + next)) =
      subst (λ (x : ℕ). read_number (p ++ (take n (drop start u) ++ drop n (drop start u))) x ≡ Some (v, (start + next))) k
      (m ∙ (ap (moved_number (length p)) b ∙ (unfold moved_number in ap (λ (x : ℕ). Some (v, (x + next))) size))) in
      subst (λ (l : List ℕ). read_number l start ≡ Some (v, (start + next))) whole q

-- ---- the first field of a body

named-id : (body : List ℕ) (m : Named) (k : ℕ) → named_fields body 0 ≡ got m k → (n : ℕ) × (read_int body 0 ≡ Ok (m.id, n))
unfolding named_fields integer_of
named-id body m k e =
    let a = then-got (integer_of 32 body 0) _ m k e in
    let b = then-got (integer (between 1 name_max) body a.1) _ m k a.3 in
    let c = then-got (name_field b.0 body b.1) _ m k b.3 in
    let q : m.id ≡ a.0 = sym (ap (read_named a.0) c.3) in
    (a.1, integer-value _ body 0 m.id a.1 (a.2 ∙ ap (λ (x : ℕ). got x a.1) (sym q)))
  where
    read_named : ℕ → Read Named → ℕ
    read_named d (got x y) = x.id
    read_named d (failed g) = d

defined-id : (m : Named) (body : List ℕ) (at : ℕ) (d : Definition) (next : ℕ) → rest_fields m body at ≡ got d next → d.id ≡ m.id
unfolding rest_fields
defined-id m body at d next e =
    let a = then-got (shape_fields body at) _ d next e in
    let b = then-got (times_fields a.0.data_types body a.1) _ d next a.3 in
    sym (ap (read_id m.id) b.3)
  where
    read_id : ℕ → Read Definition → ℕ
    read_id x (got y k) = y.id
    read_id x (failed g) = x

-- the ID of a definition is the integer that its body begins with
pub definition-id : (u : List ℕ) (kind start end : ℕ) (d : Definition) (next : ℕ) → judge_frame u ≡ frame.Body kind start end → start ≤ length u
    → definition_fields (take (end - start) (drop start u)) ≡ got d next → table_id u ≡ d.id
unfolding table_id value_of definition_fields
definition-id u kind start end d next e h g =
    let body = take (end - start) (drop start u) in
    let a = then-got (named_fields body 0) _ d next g in
    let r = named-id body a.0 a.1 a.2 in
    let i = int-there u start (end - start) h a.0.id r.0 r.1 in
    ap value_of (ap (read_int u) (body-starts u kind start end e) ∙ i) ∙ sym (defined-id a.0 body a.1 d next a.3)

-- so is a switch's
pub switch-id : (u : List ℕ) (kind start end : ℕ) (id next : ℕ) → judge_frame u ≡ frame.Body kind start end → start ≤ length u
    → switch_fields (take (end - start) (drop start u)) ≡ got id next → table_id u ≡ id
unfolding table_id value_of switch_fields integer_of
switch-id u kind start end id next e h g =
    let body = take (end - start) (drop start u) in
    ap value_of (ap (read_int u) (body-starts u kind start end e) ∙ int-there u start (end - start) h id next (integer-value _ body 0 id next g))

number-got : (at : ℕ) (r : (Option (ℕ × ℕ))) (v n : ℕ) → number_read at r ≡ got v n → r ≡ Some (v, n)
unfolding number_read
number-got at (Some (w, k)) v n e = cc
number-got at None v n e = absurd (let z : ◌≡◌ {A = ℕ} 0 1 = cc in omega arith)

-- the ID of an update that has one is the number that its body begins with
pub update-explicit : (u : List ℕ) (kind start end : ℕ) (form : Form) (t : Table) (following : ℕ) (x : Update) (next : ℕ)
    → judge_frame u ≡ frame.Body kind start end → start ≤ length u → form.explicit ≡ true
    → update_fields form t following (take (end - start) (drop start u)) ≡ got x next → explicit_id u ≡ x.id
unfolding explicit_id number_value update_fields timed_fields number_or number4
update-explicit u kind start end form t following x next e h own g =
    let body = take (end - start) (drop start u) in
    let a = then-got (number_or form.explicit following body 0) _ x next g in
    let f : number4 body 0 ≡ got a.0 a.1 = sym (cond-true form.explicit (number4 body 0) (got following 0) own) ∙ a.2 in
    let r = number-got 0 (read_number body 0) a.0 a.1 f in
    let b = then-got (number_or form.timed t.expiry body a.1) _ x next a.3 in
    let time : Time = record { timed = time_mark form t; remaining = b.0 } in
    let w = held (Taken (EntryWithin t a.0 time body) body b.1) _ (entry-holds t a.0 time body b.1) x next b.3 in
    let i = number-there u start (end - start) h a.0 a.1 r in
    ap number_value (ap (read_number u) (body-starts u kind start end e) ∙ i) ∙ sym w.fact.same
