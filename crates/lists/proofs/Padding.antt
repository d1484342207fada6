-- One byte more, and some bytes more, in an array with zeros behind its bytes.
use Prim.Native.Nat.{ℕ, zero, suc, ◌+◌, ◌-◌, ◌≤◌, ◌<◌}
use native.Mathlib.Omega.{arith}
use native.Mathlib.Numerals.{add-one}
use mathlib.Core.Path.{◌≡◌, refl, sym, ap, ◌∙◌}
use mathlib.Core.List.{List, [], ◌∷◌, ◌++◌}
use mathlib.Core.List.{append_assoc}
use lib.ListN.{length, take, drop, set, replicate, length-append}
use lib.Seq.{take-suc-set}
use Rattle.lists.specs.Lists.{pad_to}
use Rattle.lists.specs.Padded.{Padded, pad_size, padded_size}
use Rattle.lists.proofs.Bytes.{pad-nil, pad-fits, pad-take, pad-drop}
use Rattle.std.proofs.lemmas.List.{drop-replicate}

pub padded-none : (n : ℕ) → Padded n (replicate n 0) 0
padded-none n = (omega arith, sym (pad-nil n))

pad-push : (n : ℕ) (xs : List ℕ) (b : ℕ) → length xs < n → set (pad_to n xs) (length xs) b ≡ pad_to n (xs ++ b ∷ [])
unfolding pad_to
pad-push zero xs b l = absurd (omega arith)
pad-push (suc n) [] b l = refl
pad-push (suc n) (x ∷ xs) b l = ap (λ (ys : List ℕ). x ∷ ys) (pad-push n xs b (omega arith))

pub padded-push : (n : ℕ) (bytes : List ℕ) (len b : ℕ) → len < n → Padded n bytes len → Padded n (set bytes len b) (len + 1)
padded-push n bytes len b l p =
    let front = take len bytes in
    let z : length bytes ≡ n = ap length p.1 ∙ pad_size n front in
    let t : take (len + 1) (set bytes len b) ≡ front ++ b ∷ [] = rw (add-one len, take-suc-set bytes len b (omega arith)) refl in
    let q : set (pad_to n front) len b ≡ pad_to n (front ++ b ∷ []) =
    ap (λ (k : ℕ). set (pad_to n front) k b) (sym (padded_size n bytes len p)) ∙ pad-push n front b (omega (arith, padded_size n bytes len p)) in
    (omega arith, ap (λ (ys : List ℕ). set ys len b) p.1 ∙ q ∙ ap (pad_to n) (sym t))

-- the array with s behind its bytes is the one that pads both
more-pads : (n : ℕ) (front s : List ℕ) → length front + length s ≤ n
    → front ++ (s ++ drop (length s) (drop (length front) (pad_to n front))) ≡ pad_to n (front ++ s)
more-pads n front s l =
    let e : length (front ++ s) ≤ n = rw length-append l in
    let z : n - length (front ++ s) ≡ n - length front - length s = rw length-append (omega arith) in
    rw (pad-drop n front (omega arith), drop-replicate {X = ℕ} (length s) (n - length front) 0, pad-fits n (front ++ s) e, z)
    (sym (append_assoc front s (replicate (n - length front - length s) 0)))

pub padded-more : (n : ℕ) (bytes s t : List ℕ) (len k : ℕ) → len + length s ≤ n → k ≡ length s → t ≡ s → Padded n bytes len
    → Padded n (take len bytes ++ (t ++ drop k (drop len bytes))) (len + length s)
padded-more n bytes s t len k l d u p =
    let front = take len bytes in
    let z : length front ≡ len = padded_size n bytes len p in
    let room : length front + length s ≤ n = omega (arith, z, l) in
    let q : drop len bytes ≡ drop (length front) (pad_to n front) = ap (drop len) p.1 ∙ ap (λ (j : ℕ). drop j (pad_to n front)) (sym z) in
    let w : front ++ (t ++ drop k (drop len bytes)) ≡ pad_to n (front ++ s) = rw (u, d, q) (more-pads n front s room) in
    let j : len + length s ≡ length (front ++ s) = rw (length-append, z) in
    let v : take (len + length s) (pad_to n (front ++ s)) ≡ front ++ s = rw j (pad-take n (front ++ s) (omega (arith, j, l))) in
    (l, w ∙ ap (pad_to n) (sym (ap (take (len + length s)) w ∙ v)))
