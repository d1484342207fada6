-- A copy and zeros after it, for `pad`.
use Prim.Native.Nat.{ℕ, ◌-◌, min}
use native.Mathlib.Omega.{arith}
use mathlib.Core.Path.{◌≡◌, sym, ap, ◌∙◌}
use mathlib.Core.List.{List, [], ◌++◌}
use lib.ListN.{length, take, drop, replicate, drop_of_length-le, length-append, length-drop}
use lib.Seq.{length-take-le, take_at}
use borrow.Rule.Slice.PartMut.{put_mid}
use Rattle.std.proofs.Common.{append-nil}
use Rattle.lists.specs.Lists.{pad_to}
use Rattle.lists.proofs.Bytes.{pad-part, pad-fits}

-- what the bytes that fit and then zeros are
pad-two : (m n : ℕ) (bytes : List ℕ) → n ≡ min (length bytes) m → pad_to m bytes ≡ take n bytes ++ replicate (m - n) 0
pad-two m n bytes e =
    let t : length (take n bytes) ≡ n = length-take-le n bytes (omega arith) in
    sym (pad-part m n bytes (omega arith)) ∙ pad-fits m (take n bytes) (omega arith) ∙ ap (λ (k : ℕ). take n bytes ++ replicate (m - k) 0) t

pub copied-cleared : (room bytes xs ys : List ℕ) (n k : ℕ) → n ≡ min (length bytes) (length room) → xs ≡ take n bytes
    → k ≡ length (xs ++ drop n room) - n → ys ≡ replicate (length (take k (drop n (xs ++ drop n room)))) 0
    → put_mid n k (xs ++ drop n room) ys ≡ pad_to (length room) bytes
copied-cleared room bytes xs ys n k e x q y =
    let t : length xs ≡ n = ap length x ∙ length-take-le n bytes (omega arith) in
    let s : length (xs ++ drop n room) ≡ length room = omega (arith, length-append xs (drop n room), length-drop n room) in
    let z : drop k (drop n (xs ++ drop n room)) ≡ [] = drop_of_length-le (drop n (xs ++ drop n room)) {i = k} (omega (arith, length-drop n (xs ++ drop n room))) in
    let w : length (take k (drop n (xs ++ drop n room))) ≡ length room - n = omega (arith, length-take-le k (drop n (xs ++ drop n room)) (omega (arith, length-drop n (xs ++ drop n room)))) in
    ap (λ (l : List ℕ). take n (xs ++ drop n room) ++ (ys ++ l)) z
    ∙ ap (λ (l : List ℕ). l ++ (ys ++ [])) (take_at xs (drop n room) n t)
    ∙ ap (λ (l : List ℕ). xs ++ l) (append-nil ys)
    ∙ rw (x, y, w) (sym (pad-two (length room) n bytes e))
