-- A part that lies within a body: its length, its bytes, and that more bytes behind the body don't change it.
use Prim.Native.Nat.{ℕ, ◌+◌, ◌≤◌}
use native.Mathlib.Omega.{arith}
use mathlib.Core.Path.{◌≡◌}
use mathlib.Core.List.{List, ◌++◌}
use lib.ListN.{length, take, drop, length-take, length-drop, get_or-eq_default}
use lib.Seq.{take-append-le, drop-append-le, get_or-take, get_or-drop}
use Rattle.lists.proofs.Cases.{lt-or-le, split}
use Rattle.wire.specs.Value.{Bytes}
use Rattle.body.specs.Fields.{Span, span_in}

module _ (body : List ℕ) (span : Span) (h : span.start + span.len ≤ length body) where
  pub span-length : length (span_in body span) ≡ span.len
  unfolding span_in
  span-length = simp (length-take, length-drop) (omega arith)

  pub span-behind : (more : List ℕ) → span_in (body ++ more) span ≡ span_in body span
  unfolding span_in
  span-behind more =
      let l : span.start ≤ length body = omega arith in
      let k : span.len ≤ length (drop span.start body) = simp length-drop (omega arith) in
      rw (drop-append-le span.start body more l, take-append-le span.len (drop span.start body) more k)

  pub span-bytes : Bytes body → Bytes (span_in body span)
  unfolding span_in
  span-bytes b = record {
    byte = λ i.
        split (lt-or-le i span.len)
        (λ l. rw (get_or-take span.len (drop span.start body) i 0 l, get_or-drop span.start body i 0) (b.byte (span.start + i)))
        (λ l.
        let k : length (take span.len (drop span.start body)) ≤ i = simp (length-take, length-drop) (omega arith) in
        rw (get_or-eq_default (take span.len (drop span.start body)) 0 k) (omega arith));
  }
