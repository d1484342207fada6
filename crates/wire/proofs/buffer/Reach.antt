-- Bytes put into a room as far as it reaches: nothing, one byte, two one after the other.
use Prim.Native.Nat.{ℕ, zero, suc, ◌+◌, ◌-◌, ◌≤◌, ◌<◌}
use native.Mathlib.Omega.{arith}
use native.Mathlib.Numerals.{add-one}
use native.Mathlib.Nat.{zero-min, min-zero, suc-min-suc}
use mathlib.Core.Path.{◌≡◌, refl, sym, ap, ◌∙◌}
use mathlib.Core.List.{List, [], ◌∷◌, ◌++◌}
use lib.ListN.{length, set, get_or, take, drop, take-append-drop}
use lib.Seq.{take-suc}
use Rattle.lists.specs.Lists.{front, overlay}
use Rattle.wire.specs.Room.{filled, reached, Wrote}

-- ---- the next position, case by case
reached-none : (at : ℕ) (text : List ℕ) → reached [] at text ≡ at
unfolding reached
reached-none at text =
    let e : 0 - at ≡ 0 = omega arith in
    rw (e, min-zero (length text)) (omega arith)

reached-past : (x : ℕ) (room : List ℕ) (at : ℕ) (text : List ℕ) → reached (x ∷ room) (suc at) text ≡ suc (reached room at text)
unfolding reached
reached-past x room at text =
    let e : suc (length room) - suc at ≡ length room - at = omega arith in
    rw e (omega arith)

reached-end : (room : List ℕ) → reached room 0 [] ≡ 0
unfolding reached
reached-end room = rw (zero-min (length room - 0))

reached-next : (x b : ℕ) (room text : List ℕ) → reached (x ∷ room) 0 (b ∷ text) ≡ suc (reached room 0 text)
unfolding reached
reached-next x b room text =
    let e : suc (length room) - 0 ≡ suc (length room) = omega arith in
    let f : length room - 0 ≡ length room = omega arith in
    rw (e, f, suc-min-suc (length text) (length room)) (omega arith)

-- ---- two one after the other
filled-twice : (room : List ℕ) (at : ℕ) (s t : List ℕ) → filled (filled room at s) (reached room at s) t ≡ filled room at (s ++ t)
unfolding filled
filled-twice [] at s t = refl
filled-twice (x ∷ room) (suc at) s t = rw (reached-past x room at s) (ap (λ (l : List ℕ). x ∷ l) (filled-twice room at s t))
filled-twice (x ∷ room) zero [] t = rw (reached-end (x ∷ room))
filled-twice (x ∷ room) zero (b ∷ s) t = rw (reached-next x b room s) (ap (λ (l : List ℕ). b ∷ l) (filled-twice room zero s t))

reached-twice : (room : List ℕ) (at : ℕ) (s t : List ℕ) → reached (filled room at s) (reached room at s) t ≡ reached room at (s ++ t)
unfolding filled
reached-twice [] at s t = rw (reached-none at s, reached-none at t, reached-none at (s ++ t))
reached-twice (x ∷ room) (suc at) s t =
    rw (reached-past x room at s, reached-past x (filled room at s) (reached room at s) t, reached-past x room at (s ++ t))
    (ap suc (reached-twice room at s t))
reached-twice (x ∷ room) zero [] t = rw (reached-end (x ∷ room))
reached-twice (x ∷ room) zero (b ∷ s) t =
    rw (reached-next x b room s, reached-past b (filled room zero s) (reached room zero s) t, reached-next x b room (s ++ t))
    (ap suc (reached-twice room zero s t))

module _ {room s x t y : List ℕ} {at k m : ℕ} where
  pub joined : Wrote room at s x k → Wrote x k t y m → Wrote room at (s ++ t) y m
  joined p q = record {
    content = q.content ∙ rw (p.content, p.position) (filled-twice room at s t);
    position = q.position ∙ rw (p.content, p.position) (reached-twice room at s t);
  }

-- the same bytes under another name
pub retold : {room s t x : List ℕ} {at k : ℕ} → s ≡ t → Wrote room at s x k → Wrote room at t x k
retold {room} {s} {t} {x} {at} {k} e w = record { content = w.content ∙ ap (filled room at) e; position = w.position ∙ ap (reached room at) e }

-- ---- nothing, one byte, and any bytes where the room is full
filled-nil : (room : List ℕ) (at : ℕ) → filled room at [] ≡ room
unfolding filled
filled-nil [] at = refl
filled-nil (x ∷ room) (suc at) = ap (λ (l : List ℕ). x ∷ l) (filled-nil room at)
filled-nil (x ∷ room) zero = refl

pub nothing : (room : List ℕ) (at : ℕ) → Wrote room at [] room at
unfolding reached
nothing room at = record { content = sym (filled-nil room at); position = rw (zero-min (length room - at)) (omega arith) }

filled-full : (room : List ℕ) (at : ℕ) (text : List ℕ) → length room ≤ at → filled room at text ≡ room
unfolding filled
filled-full [] at text h = refl
filled-full (x ∷ room) (suc at) text h = ap (λ (l : List ℕ). x ∷ l) (filled-full room at text (omega arith))
filled-full (x ∷ room) zero text h = absurd (omega arith)

pub full : (room : List ℕ) (at : ℕ) (text : List ℕ) → length room ≤ at → Wrote room at text room at
unfolding reached
full room at text h =
    let e : length room - at ≡ 0 = omega arith in
    record { content = sym (filled-full room at text h); position = rw (e, min-zero (length text)) (omega arith) }

filled-one : (room : List ℕ) (at b : ℕ) → at < length room → set room at b ≡ filled room at (b ∷ [])
unfolding filled
filled-one [] at b h = absurd (omega arith)
filled-one (x ∷ room) (suc at) b h = ap (λ (l : List ℕ). x ∷ l) (filled-one room at b (omega arith))
filled-one (x ∷ room) zero b h = ap (λ (l : List ℕ). b ∷ l) (sym (filled-nil room zero))

pub one : (room : List ℕ) (at b : ℕ) → at < length room → Wrote room at (b ∷ []) (set room at b) (at + 1)
unfolding reached
one room at b h =
    let e : length room - at ≡ suc (length room - at - 1) = omega arith in
    record { content = filled-one room at b h; position = rw (e, suc-min-suc 0 (length room - at - 1), zero-min (length room - at - 1)) }

-- ---- the loop of `put`: so many bytes are in the room
module _ {room now : List ℕ} {at next : ℕ} (bytes : List ℕ) (i : ℕ) (p : Wrote room at (take i bytes) now next) where
  pub put_full : length now ≤ next → Wrote room at bytes now next
  put_full h = retold (take-append-drop i bytes) (joined p (full now next (drop i bytes) h))

  pub put-turn : i < length bytes → next < length now → Wrote room at (take (i + 1) bytes) (set now next (get_or bytes i 0)) (next + 1)
  put-turn h l = rw (add-one i) (retold (sym (take-suc bytes i 0 h)) (joined p (one now next (get_or bytes i 0) l)))

-- ---- bytes that fit
filled-fits : (room : List ℕ) (at : ℕ) (bytes : List ℕ) → at + length bytes ≤ length room → filled room at bytes ≡ overlay at bytes room
unfolding filled overlay
filled-fits [] zero [] h = refl
filled-fits [] zero (b ∷ bytes) h = absurd (omega arith)
filled-fits [] (suc at) bytes h = absurd (omega arith)
filled-fits (x ∷ room) (suc at) bytes h =
    let e : suc at + length bytes ≡ suc (at + length bytes) = omega arith in
    rw e (ap (λ (l : List ℕ). x ∷ l) (filled-fits room at bytes (omega arith)))
filled-fits (x ∷ room) zero [] h = refl
filled-fits (x ∷ room) zero (b ∷ bytes) h =
    let e : 0 + suc (length bytes) ≡ suc (0 + length bytes) = omega arith in
    rw e (ap (λ (l : List ℕ). b ∷ l) (filled-fits room zero bytes (omega arith)))

module _ {room x bytes : List ℕ} {at k : ℕ} (w : Wrote room at bytes x k) (h : at + length bytes ≤ length room) where
  -- all are there, everything else stays, and the position is the one behind them
  pub wrote-fits : x ≡ overlay at bytes room
  wrote-fits = w.content ∙ filled-fits room at bytes h

  pub wrote-behind : k ≡ at + length bytes
  unfolding reached
  wrote-behind = w.position ∙ omega arith

-- at the front of the room
module _ {room x bytes : List ℕ} {k : ℕ} (w : Wrote room 0 bytes x k) (h : length bytes ≤ length room) where
  pub wrote-front : x ≡ front bytes room
  unfolding overlay front
  wrote-front =
      let e : 0 + length bytes ≡ length bytes = omega arith in
      wrote-fits w (omega arith) ∙ rw e

  pub wrote-long : k ≡ length bytes
  wrote-long = wrote-behind w (omega arith) ∙ omega arith
