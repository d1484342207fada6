-- More bytes behind, and the position: what was read stays as it was when more bytes follow, and depends only on the bytes from its
-- position on. For the encoded integer, the 4-byte number, the value with a limit and the server ID.
use Rattle.std.specs.Prelude.{Err, None, Ok, Option, Result, Some}
use Prim.Native.Nat.{ℕ, zero, suc, ◌+◌, ◌-◌, ◌^◌, ◌≤◌}
use native.Mathlib.Omega.{arith}
use mathlib.Core.Logic.{◌⊎◌, inl, inr}
use mathlib.Core.Path.{◌≡◌, refl, sym, ◌∙◌}
use mathlib.Core.List.{List, [], ◌∷◌, ◌++◌}
use lib.ListN.{length, drop, length-append, length-drop, get_or-append}
use lib.Seq.{drop-append-le, drop-append-add, get_or-append-add}
use borrow.Author.Tests.{lt-ltb, le-ltb}
use Rattle.wire.specs.declared.IntError.{IntError}
use Rattle.wire.specs.declared.IntError.TheVariants as int
use Rattle.wire.specs.declared.values.FieldError.TheVariants as server
use Rattle.wire.specs.Integer.{Later, ended, cut, endless, before, later_bytes, weighted, with_later, read_first, read_int}
use Rattle.wire.specs.Number.{read_number}
use Rattle.wire.specs.Server.{server_of, read_server_id}
use Rattle.lists.proofs.Cases.{lt-or-le, split}
use Rattle.wire.proofs.Read.{fitting-value, fitting-over, first-end}
use Rattle.wire.proofs.Numbers.{number_short, number-value}

-- ---- the encoded integer: it is short, with all bytes looked at, or more bytes behind change nothing
later-behind : (n : ℕ) (s t : List ℕ) → (later_bytes n s ≡ cut (length s)) ⊎ (later_bytes n (s ++ t) ≡ later_bytes n s)
unfolding later_bytes before
later-behind zero s t = inr refl
later-behind (suc n) [] t = inl refl
later-behind (suc n) (b ∷ s) t =
    split (lt-or-le b 128)
    (λ l. inr (rw (lt-ltb b 128 l)))
    (λ l. split (later-behind n s t) (λ e. inl (rw (le-ltb b 128 l, e))) (λ e. inr (rw (le-ltb b 128 l, e))))

first-behind : (at : ℕ) (s t : List ℕ) → (read_first at s ≡ Err (int.Short (length s))) ⊎ (read_first at (s ++ t) ≡ read_first at s)
unfolding read_first with_later
first-behind at [] t = inl refl
first-behind at (b ∷ s) t =
    let k : 1 + length s ≡ suc (length s) = omega arith in
    split (lt-or-le b 240)
    (λ l. inr (rw (lt-ltb b 240 l)))
    (λ l. split (later-behind 9 s t) (λ e. inl (rw (le-ltb b 240 l, e, k))) (λ e. inr (rw (le-ltb b 240 l, e))))

pub int-behind : (s t : List ℕ) (at : ℕ) → (read_int s at ≡ Err (int.Short (length s - at))) ⊎ (read_int (s ++ t) at ≡ read_int s at)
unfolding read_int
int-behind s t at =
    split (lt-or-le (length s) at)
    (λ l. let z : 0 ≡ length s - at = omega arith in inl (first-end s at (omega arith) ∙ rw z))
    (λ l. rw (drop-append-le at s t l, ← length-drop at s) (first-behind at (drop at s) t))

pub int-value-behind : (s t : List ℕ) (at v next : ℕ) → read_int s at ≡ Ok (v, next) → read_int (s ++ t) at ≡ Ok (v, next)
int-value-behind s t at v next e = split (int-behind s t at) (λ q. cc) (λ q. q ∙ e)

pub int-overflow-behind : (s t : List ℕ) (at k : ℕ) → read_int s at ≡ Err (int.Overflow k) → read_int (s ++ t) at ≡ Err (int.Overflow k)
int-overflow-behind s t at k e = split (int-behind s t at) (λ q. cc) (λ q. q ∙ e)

-- ---- the position: n bytes more before it move the next position by n
unfoldable pub moved_int : ℕ → Result (ℕ × ℕ) IntError → Result (ℕ × ℕ) IntError
moved_int n (Ok (v, next)) = Ok (v, (n + next))
moved_int n (Err (int.Short k)) = Err (int.Short k)
moved_int n (Err (int.Overflow k)) = Err (int.Overflow k)

moved_later : (n at b : ℕ) (l : Later) → with_later (n + at) b l ≡ moved_int n (with_later at b l)
unfolding with_later moved_int
moved_later n at b (ended bs) =
    let k : ℕ = 1 + length bs in
    let e : n + at + 1 + length bs ≡ n + (at + 1 + length bs) = omega arith in
    split (lt-or-le (b + weighted 0 bs) (2 ^ 64))
    (λ f. rw (fitting-value (b + weighted 0 bs) k (n + at + 1 + length bs) f, fitting-value (b + weighted 0 bs) k (at + 1 + length bs) f, e))
    (λ f. rw (fitting-over (b + weighted 0 bs) k (n + at + 1 + length bs) f, fitting-over (b + weighted 0 bs) k (at + 1 + length bs) f))
moved_later n at b (cut k) = refl
moved_later n at b endless = refl

moved-first : (n at : ℕ) (s : List ℕ) → read_first (n + at) s ≡ moved_int n (read_first at s)
unfolding read_first moved_int
moved-first n at [] = refl
moved-first n at (b ∷ s) =
    let e : n + at + 1 ≡ n + (at + 1) = omega arith in
    split (lt-or-le b 240) (λ l. rw (lt-ltb b 240 l, e)) (λ l. rw (le-ltb b 240 l) (moved_later n at b (later_bytes 9 s)))

pub int-moved : (p s : List ℕ) (at : ℕ) → read_int (p ++ s) (length p + at) ≡ moved_int (length p) (read_int s at)
unfolding read_int
int-moved p s at = rw (drop-append-add p s at) (moved-first (length p) at (drop at s))

-- ---- the 4-byte number
pub number_behind : (s t : List ℕ) (at : ℕ) → (read_number s at ≡ None) ⊎ (read_number (s ++ t) at ≡ read_number s at)
number_behind s t at =
    split (lt-or-le (length s) (at + 4))
    (λ l. inl (number_short s at l))
    (λ l.
    let k : at + 4 ≤ length (s ++ t) = rw length-append (omega arith) in
    inr
    (number-value (s ++ t) at k
    ∙ rw (get_or-append s t 0 at (omega arith), get_or-append s t 0 (at + 1) (omega arith), get_or-append s t 0 (at + 2) (omega arith), get_or-append s t 0 (at + 3) (omega arith)) (sym (number-value s at l))))

pub number-value-behind : (s t : List ℕ) (at v next : ℕ) → read_number s at ≡ Some (v, next) → read_number (s ++ t) at ≡ Some (v, next)
number-value-behind s t at v next e = split (number_behind s t at) (λ q. cc) (λ q. q ∙ e)

unfoldable pub moved_number : ℕ → Option (ℕ × ℕ) → Option (ℕ × ℕ)
moved_number n (Some (v, next)) = Some (v, (n + next))
moved_number n None = None

pub number-moved : (p s : List ℕ) (at : ℕ) → read_number (p ++ s) (length p + at) ≡ moved_number (length p) (read_number s at)
unfolding moved_number
number-moved p s at =
    split (lt-or-le (length s) (at + 4))
    (λ l. number_short (p ++ s) (length p + at) (rw length-append (omega arith)) ∙ rw (number_short s at l))
    (λ l.
    let k : length p + at + 4 ≤ length (p ++ s) = rw length-append (omega arith) in
    let e₁ : length p + at + 1 ≡ length p + (at + 1) = omega arith in
    let e₂ : length p + at + 2 ≡ length p + (at + 2) = omega arith in
    let e₃ : length p + at + 3 ≡ length p + (at + 3) = omega arith in
    let e₄ : length p + at + 4 ≡ length p + (at + 4) = omega arith in
    number-value (p ++ s) (length p + at) k
    ∙ rw (e₁, e₂, e₃, e₄, get_or-append-add p s at 0, get_or-append-add p s (at + 1) 0, get_or-append-add p s (at + 2) 0, get_or-append-add p s (at + 3) 0, number-value s at l))

-- ---- the server ID
pub server-behind : (s t : List ℕ) (at : ℕ) → (read_server_id s at ≡ (Err server.Short)) ⊎ (read_server_id (s ++ t) at ≡ read_server_id s at)
unfolding read_server_id server_of
server-behind s t at = split (int-behind s t at) (λ e. inl (rw e)) (λ e. inr (rw e))
