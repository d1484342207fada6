-- Laws of `header_of`, of a length and of a whole frame. Where a law has an m, it is the number that the code tests, and the law holds
-- for more numbers than that one.
use Rattle.std.specs.Prelude.{Err, Ok, Option, Result, Some}
use Prim.Native.Nat.{ℕ, ◌+◌, ◌^◌, ◌≤◌, ◌<◌}
use native.Mathlib.Omega.{arith}
use mathlib.Core.Path.{◌≡◌, sym}
use mathlib.Core.List.{List}
use mathlib.Core.Bool.{true}
use lib.Dec.{leb}
use lib.ListN.{length, get_or}
use borrow.Author.Tests.{lt-ltb, le-ltb, le-leb, leb-true}
use mir.Syntax.{w64}
use mir.Val.{Fits}
use Rattle.frame.specs.declared.Header.{Header}
use Rattle.wire.specs.declared.IntError.{IntError}
use Rattle.wire.specs.declared.IntError.TheVariants as int
use Rattle.wire.specs.Integer.{read_int}
use Rattle.wire.proofs.Advance.{at-most-ten}
use Rattle.frame.specs.declared.Header.TheVariants as header
use Rattle.frame.specs.declared.Frame.{Frame}
use Rattle.frame.specs.declared.Frame.TheVariants as frame
use Rattle.frame.specs.Frame.{header_of, with_length, with_header, judge_frame}

-- ---- the header
pub stick-table : (class kind : ℕ) → class ≡ 10 → 128 ≤ kind → Some (header.StickTable kind) ≡ header_of class kind
unfolding header_of
stick-table class kind e h = rw (e, le-leb 128 kind h)

-- ---- the length
-- The end of a body fits: it begins at most ten bytes behind the header.
pub end_fits : (s : List ℕ) (n start : ℕ) → Ok (n, start) ≡ read_int s 2 → n < 2 ^ 32 → Fits w64 (start + n)
end_fits s n start e h = let l : start ≤ 2 + 10 = at-most-ten s 2 n start (sym e) in record { fits = omega arith }

-- i is what reads at position 2
module _ (s : List ℕ) (i : Result (ℕ × ℕ) IntError) (p : i ≡ read_int s 2) (kind : ℕ) where
  pub length-short : (k : ℕ) → i ≡ Err (int.Short k) → frame.Waiting ≡ with_length kind s (read_int s 2)
  unfolding with_length
  length-short k e = rw (← p, e)

  pub length_over : (k : ℕ) → i ≡ Err (int.Overflow k) → frame.Refused 21 ≡ with_length kind s (read_int s 2)
  unfolding with_length
  length_over k e = rw (← p, e)

  module _ (n start : ℕ) (e : i ≡ Ok (n, start)) where
    pub too_long : (m : ℕ) → m < n → leb 1024 m ≡ true → frame.Refused 22 ≡ with_length kind s (read_int s 2)
    unfolding with_length
    too_long m h t = rw (← p, e, lt-ltb 1024 n (omega (arith, leb-true 1024 m t)))

    pub body-waits : n ≤ 1024 → length s < start + n → frame.Waiting ≡ with_length kind s (read_int s 2)
    unfolding with_length
    body-waits h l = rw (← p, e, le-ltb 1024 n h, lt-ltb (length s) (start + n) l)

    pub body-whole : n ≤ 1024 → start + n ≤ length s → frame.Body kind start (start + n) ≡ with_length kind s (read_int s 2)
    unfolding with_length
    body-whole h l = rw (← p, e, le-ltb 1024 n h, le-ltb (length s) (start + n) l)

-- ---- the frame
pub header-waits : (s : List ℕ) → length s < 2 → frame.Waiting ≡ judge_frame s
unfolding judge_frame
header-waits s h = rw (lt-ltb (length s) 2 h)

-- h is what the first two bytes say
module _ (s : List ℕ) (h : (Option Header)) (l : 2 ≤ length s) (p : h ≡ header_of (get_or s 0 0) (get_or s 1 0)) where
  pub by-header : with_header s h ≡ judge_frame s
  unfolding judge_frame
  by-header = rw (le-ltb (length s) 2 l, ← p)

  pub body-judged : (kind : ℕ) (f : Frame) → h ≡ Some (header.StickTable kind) → f ≡ with_length kind s (read_int s 2) → f ≡ judge_frame s
  unfolding with_header
  body-judged kind f e q = rw (← by-header, e) q
