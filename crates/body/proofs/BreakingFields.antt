-- Where a body broke: of each field at its position, and of whole bodies.
use Rattle.std.specs.Prelude.{Err, None, Ok, Option, Result, Some}
use Prim.Native.Nat.{ℕ, ◌+◌, ◌≤◌, ◌<◌}
use native.Mathlib.Omega.{arith}
use mathlib.Core.Path.{◌≡◌, refl, sym, ap, subst, ◌∙◌}
use mathlib.Core.Logic.{◌⊎◌, inl, inr}
use mathlib.Core.List.{List, [], ◌++◌}
use mathlib.Core.Bool.{Bool, cond}
use lib.ListN.{length, take, drop, get_or, length-append, length-take, take-append-drop}
use lib.Seq.{take-add, drop_at, get_or-take}
use lib.IntN.{ℤ, pos}
use lib.Dec.{eqb}
use borrow.Author.Tests.{le-leb, lt-leb}
use Rattle.lists.proofs.Cases.{lt-or-le, split, by-test}
use Rattle.wire.specs.declared.IntError.{IntError}
use Rattle.wire.specs.declared.IntError.TheVariants as int
use Rattle.wire.specs.Integer.{read_int}
use Rattle.wire.specs.Number.{number_of}
use Rattle.wire.specs.Server.{server_before, server_id_of, server_of, read_server_id}
use Rattle.wire.proofs.Read.{first-end}
use Rattle.wire.proofs.Numbers.{number_short, number-value}
use Rattle.store.specs.Limits.{name_max, plain_name, key_length_ok, data_types_ok, present, width_of, slot_types, rate_types}
use Rattle.wire.proofs.Advance.{advance, short-looked, overflow-inside}
use Rattle.wire.proofs.Decided.{value-decided, overflow-decided}
use Rattle.body.specs.declared.Failure.TheVariants as failure
use Rattle.body.specs.declared.Fault.{Fault}
use Rattle.body.specs.Fields.{Read, got, failed, fault, short, outside, unplain, Reader, tested, integer, between, integer_of, Span, span_in, bytes, field_read, number_read, number4, server_id}
use Rattle.body.specs.Bodies.{name_field, named_fields, is_key_type, shape_fields, pair_field, period_field, period_fields, times_there, server_field, slot_field, value_fields, data_fields, string_field}
use Rattle.body.specs.Breaks.{definition_sized, NotBefore, Sized, EndsInside, cut_integer, cut_sized, Ends, whole_integer, overflowing, whole_name, ByFailure}
use Rattle.body.proofs.Taken.{integer-value, integer-passed, between-low}
use Rattle.body.proofs.Breaking.{agree-fewer, Whole, BrokeAt, BreaksAt, Regular, Ordinary, reached-short, then-regular, next-regular, got-regular, cond-regular, each-regular}
use Rattle.body.proofs.Holds.{same_next}

-- ---- the bytes of an integer and then others
pub like-value : (s t : List ℕ) (at v next : ℕ) → read_int s at ≡ Ok (v, next) → take next t ≡ take next s → read_int t at ≡ Ok (v, next)
like-value s t at v next e k =
    let both : take next s ++ drop next t ≡ t = ap (λ (p : List ℕ). p ++ drop next t) (sym k) ∙ take-append-drop next t in
    subst (λ (l : List ℕ). read_int l at ≡ Ok (v, next)) both (value-decided s (drop next t) at v next next (omega arith) e)

like-overflow : (s t : List ℕ) (at n : ℕ) → read_int s at ≡ Err (int.Overflow n) → take (at + n) t ≡ take (at + n) s → read_int t at ≡ Err (int.Overflow n)
like-overflow s t at n e k =
    let both : take (at + n) s ++ drop (at + n) t ≡ t = ap (λ (p : List ℕ). p ++ drop (at + n) t) (sym k) ∙ take-append-drop (at + n) t in
    subst (λ (l : List ℕ). read_int l at ≡ Err (int.Overflow n)) both (overflow-decided s (drop (at + n) t) at n (at + n) (omega arith) e)

-- ---- a field that an encoded integer decides: F gives a value up to where the integer ends, or it is out of range
module _ {A : Type 0} (sized : Sized) (F : ℕ → Result (ℕ × ℕ) IntError → Read A)
    (of-short : (start k : ℕ) → F start (Err (int.Short k)) ≡ short start)
    (of-overflow : (start k : ℕ) → F start (Err (int.Overflow k)) ≡ outside start)
    (of-value : (start v next : ℕ) → ((a : A) × (F start (Ok (v, next)) ≡ got a next)) ⊎ (F start (Ok (v, next)) ≡ outside start)) where
  abbrev field : Reader A
  field s at = F at (read_int s at)

  -- an overflow has a byte at least
  overflow-some : (s : List ℕ) (at n : ℕ) → read_int s at ≡ Err (int.Overflow n) → at < at + n
  overflow-some s at n e =
      split (lt-or-le at (at + n)) (λ l. l)
      (λ l.
      let k : length (take at s ++ []) ≤ at = simp (length-append, length-take) (omega arith) in
      let q : Err (int.Short 0) ≡ Err (int.Overflow n) = sym (first-end (take at s ++ []) at k) ∙ overflow-decided s [] at n at (omega arith) e in
      absurd (let w : ◌≡◌ {A = ℕ} 0 1 = cc in omega (arith, w)))

  never-earlier : (at : ℕ) (i : (Result (ℕ × ℕ) IntError)) → NotBefore at (F at i)
  unfolding NotBefore
  never-earlier at (Ok (v, next)) =
      split (of-value at v next) (λ w. rw w.1 tt) (λ w. rw w (omega arith))
  never-earlier at (Err (int.Short k)) = rw (of-short at k) (omega arith)
  never-earlier at (Err (int.Overflow k)) = rw (of-overflow at k) (omega arith)

  strict-field : (s : List ℕ) (at : ℕ) → at ≤ length s → field (take at s) at ≡ short at
  strict-field s at l =
      let k : length (take at s) ≤ at = rw length-take (omega arith) in
      ap (F at) (first-end (take at s) at k) ∙ of-short at 0

  module _ (s : List ℕ) (at : ℕ) (l : at ≤ length s) where
    -- out of range, by the bytes up to `end`
    out-broke : (end : ℕ) → at < end → end ≤ length s → Ends sized s at end failure.OutOfRange
        → ((other : List ℕ) → take end other ≡ take end s → field other at ≡ outside at) → BrokeAt field s at sized (fault failure.OutOfRange at)
    unfolding ByFailure
    out-broke end some i e alike = record {
      from = omega arith;
      inside = l;
      before = reached-short at _ (strict-field s at l);
      why = record { end = end; some = some; inside = i; field = e; alike = alike };
    }

    short-broke : (k : ℕ) → read_int s at ≡ Err (int.Short k) → BrokeAt field s at sized (fault failure.Short at)
    unfolding ByFailure
    short-broke k e = record {
      from = omega arith;
      inside = l;
      before = reached-short at _ (strict-field s at l);
      why = record { ends = cut_integer k e (short-looked s at k l e).0; longer = λ more. never-earlier at (read_int (s ++ more) at) };
    }

    fault-of : (x y : Fault) → ◌≡◌ {A = Read A} (failed x) (failed y) → x ≡ y
    fault-of x y e = cc

    no_value : (a : A) (n : ℕ) (x : Fault) → ◌≡◌ {A = Read A} (failed x) (got a n) → ⊥
    no_value a n x e = let w : ◌≡◌ {A = ℕ} 0 1 = cc in omega (arith, w)

    -- a failing field fails at its start
    fails : (i : (Result (ℕ × ℕ) IntError)) → read_int s at ≡ i → (x : Fault) → F at i ≡ failed x → BrokeAt field s at sized x
    fails (Err (int.Short k)) e x q = subst (BrokeAt field s at sized) (fault-of _ x (sym (of-short at k) ∙ q)) (short-broke k e)
    fails (Err (int.Overflow k)) e x q =
        subst (BrokeAt field s at sized) (fault-of _ x (sym (of-overflow at k) ∙ q))
        (out-broke (at + k) (overflow-some s at k e) (overflow-inside s at k e).0 (overflowing k e refl)
        (λ other r. ap (F at) (like-overflow s other at k e r) ∙ of-overflow at k))
    fails (Ok (v, next)) e x q =
        let a = advance s at v next e in
        split (of-value at v next)
        (λ w. absurd (no_value w.0 next x (sym q ∙ w.1)))
        (λ w.
        subst (BrokeAt field s at sized) (fault-of _ x (sym w ∙ q))
        (out-broke next a.0 a.1 (whole_integer v e) (λ other r. ap (F at) (like-value s other at v next e r) ∙ w)))

    starts : (i : (Result (ℕ × ℕ) IntError)) (x : Fault) → F at i ≡ failed x → x.start ≡ at
    starts (Err (int.Short k)) x q = sym (ap (λ (y : Fault). y.start) (fault-of _ x (sym (of-short at k) ∙ q)))
    starts (Err (int.Overflow k)) x q = sym (ap (λ (y : Fault). y.start) (fault-of _ x (sym (of-overflow at k) ∙ q)))
    starts (Ok (v, next)) x q =
        split (of-value at v next)
        (λ w. absurd (no_value w.0 next x (sym q ∙ w.1)))
        (λ w. sym (ap (λ (y : Fault). y.start) (fault-of _ x (sym w ∙ q))))

    whole : (i : (Result (ℕ × ℕ) IntError)) → read_int s at ≡ i → (a : A) (n : ℕ) → F at i ≡ got a n → Whole field s at a n
    whole (Err (int.Short k)) e a n q = absurd (no_value a n _ (sym (of-short at k) ∙ q))
    whole (Err (int.Overflow k)) e a n q = absurd (no_value a n _ (sym (of-overflow at k) ∙ q))
    whole (Ok (v, next)) e a n q =
        let p = advance s at v next e in
        split (of-value at v next)
        (λ w.
        let same : got w.0 next ≡ got a n = sym w.1 ∙ q in
        let m : next ≡ n = same_next w.0 a next n same in
        record {
          on = omega (arith, p.0, m);
          end = omega (arith, p.1, m);
          same = λ t r. ap (F at) (like-value s t at v next e (subst (λ (k : ℕ). take k t ≡ take k s) (sym m) r)) ∙ q;
        })
        (λ w. absurd (no_value a n _ (sym w ∙ q)))

  pub int-regular : Ordinary sized field
  int-regular s at l = record {
    values = whole s at l (read_int s at) refl;
    strict = λ x e. let z = starts s at l (read_int s at) x e in subst (λ (n : ℕ). field (take n s) at ≡ short n) (sym z) (strict-field s at l);
    breaks = fails s at l (read_int s at) refl;
  }

-- an integer with a test, and a server ID
module _ (sized : Sized) where
  pub integer-regular : (ok : ℕ → Bool) → Ordinary sized (integer ok)
  unfolding integer tested
  integer-regular ok =
      int-regular sized (tested ok) (λ start k. refl) (λ start k. refl)
      (λ start v next. by-test (ok v) (λ e. inl (v, rw e)) (λ e. inr (rw e)))

  pub width-regular : (k : ℕ) → Ordinary sized (integer_of k)
  unfolding integer_of
  width-regular k = integer-regular _

  server-value : (start next : ℕ) (z : (Option ℤ)) → ((a : ℤ) × (field_read start (server_before next z) ≡ got a next)) ⊎ (field_read start (server_before next z) ≡ outside start)
  unfolding field_read server_before
  server-value start next (Some id) = inl (id, refl)
  server-value start next None = inr refl

  pub server-regular : Ordinary sized server_id
  unfolding server_id read_server_id server_of
  server-regular =
      int-regular sized (λ start i. field_read start (server_of i)) (λ start k. unfold field_read in refl) (λ start k. unfold field_read in refl)
      (λ start v next. server-value start next (server_id_of v))

-- ---- a field of n bytes from `at` on: short where they aren't there, else decided by them
module _ {A : Type 0} (sized : Sized) (f : Reader A) (n : ℕ) (s : List ℕ) (at : ℕ) (l : at ≤ length s)
    (missing : (t : List ℕ) → length t < at + n → f t at ≡ short at)
    (cut : length s < at + n → EndsInside sized s at)
    (same : (t : List ℕ) → at + n ≤ length s → take (at + n) t ≡ take (at + n) s → f t at ≡ f s at)
    (there : at + n ≤ length s
    → ((a : A) × (f s at ≡ got a (at + n))) ⊎ ((f s at ≡ failed (fault failure.NotPlain at)) × ((0 < n) × Ends sized s at (at + n) failure.NotPlain)))
    (earlier : (t : List ℕ) → NotBefore at (f t at)) where
  same-fault : (x y : Fault) → ◌≡◌ {A = Read A} (failed x) (failed y) → x ≡ y
  same-fault x y e = cc

  not-got : (a : A) (m : ℕ) (x : Fault) → ◌≡◌ {A = Read A} (failed x) (got a m) → ⊥
  not-got a m x e = let w : ◌≡◌ {A = ℕ} 0 1 = cc in omega (arith, w)

  before-it : 0 < n → f (take at s) at ≡ short at
  before-it z = missing (take at s) (rw length-take (omega arith))

  bytes-values : (a : A) (m : ℕ) → f s at ≡ got a m → Whole f s at a m
  bytes-values a m e =
      split (lt-or-le (length s) (at + n))
      (λ k. absurd (not-got a m _ (sym (missing s k) ∙ e)))
      (λ k.
      split (there k)
      (λ w.
      let q : got w.0 (at + n) ≡ got a m = sym w.1 ∙ e in
      let z : at + n ≡ m = same_next w.0 a (at + n) m q in
      record {
        on = omega (arith, z);
        end = omega (arith, z, k);
        same = λ t r. same t k (subst (λ (j : ℕ). take j t ≡ take j s) (sym z) r) ∙ e;
      })
      (λ w. absurd (not-got a m _ (sym w.0 ∙ e))))

  short-bytes : length s < at + n → BrokeAt f s at sized (fault failure.Short at)
  unfolding ByFailure
  short-bytes k = record {
    from = omega arith;
    inside = l;
    before = reached-short at _ (before-it (omega arith));
    why = record { ends = cut k; longer = λ more. earlier (s ++ more) };
  }

  other-bytes : at + n ≤ length s → 0 < n → Ends sized s at (at + n) failure.NotPlain → f s at ≡ failed (fault failure.NotPlain at)
      → BrokeAt f s at sized (fault failure.NotPlain at)
  unfolding ByFailure
  other-bytes k z h e = record {
    from = omega arith;
    inside = l;
    before = reached-short at _ (before-it z);
    why = record { end = at + n; some = omega arith; inside = k; field = h; alike = λ other r. same other k r ∙ e };
  }

  bytes-breaks : BreaksAt f s at sized
  bytes-breaks x e =
      split (lt-or-le (length s) (at + n))
      (λ k. subst (BrokeAt f s at sized) (same-fault _ x (sym (missing s k) ∙ e)) (short-bytes k))
      (λ k.
      split (there k)
      (λ w. absurd (not-got w.0 (at + n) x (sym e ∙ w.1)))
      (λ w. subst (BrokeAt f s at sized) (same-fault _ x (sym w.0 ∙ e)) (other-bytes k w.1.0 w.1.1 w.0)))

  bytes-strict : (x : Fault) → f s at ≡ failed x → f (take x.start s) at ≡ short x.start
  bytes-strict x e =
      let at-it : (y : Fault) → y.start ≡ at → 0 < n → f s at ≡ failed y → f (take x.start s) at ≡ short x.start =
      λ y p z q.
      let r : x.start ≡ at = ap (λ (w : Fault). w.start) (same-fault x y (sym e ∙ q)) ∙ p in
      subst (λ (j : ℕ). f (take j s) at ≡ short j) (sym r) (before-it z) in
      split (lt-or-le (length s) (at + n))
      (λ k. at-it (fault failure.Short at) refl (omega arith) (missing s k))
      (λ k.
      split (there k)
      (λ w. absurd (not-got w.0 (at + n) x (sym e ∙ w.1)))
      (λ w. at-it (fault failure.NotPlain at) refl w.1.0 w.0))

  pub sized-regular : Regular f s at sized
  sized-regular = record { values = bytes-values; strict = bytes-strict; breaks = bytes-breaks }

-- ---- bytes, a name and a 4-byte number
-- so many bytes are there, where the first ones agree
pub as_long : (s t : List ℕ) (m : ℕ) → m ≤ length s → take m t ≡ take m s → m ≤ length t
as_long s t m k e =
    let p : length (take m t) ≡ length (take m s) = ap length e in
    omega (arith, length-take m t, length-take m s, p)

-- the n bytes from `at` on, of lists that agree up to them
like-span : (s t : List ℕ) (at n : ℕ) → at + n ≤ length s → take (at + n) t ≡ take (at + n) s → take n (drop at t) ≡ take n (drop at s)
like-span s t at n k e =
    let len : at ≤ length (take at s) = rw length-take (omega arith) in
    let both : (u : List ℕ) → at + n ≤ length u → drop at (take (at + n) u) ≡ take n (drop at u) =
    λ u h. ap (drop at) (take-add at n u) ∙ drop_at (take at u) (take n (drop at u)) at (rw length-take (omega arith)) in
    sym (both t (as_long s t (at + n) k e)) ∙ (ap (drop at) e ∙ both s k)

module _ (sized : Sized) (n : ℕ) (s : List ℕ) (at : ℕ) (l : at ≤ length s) (cut : length s < at + n → EndsInside sized s at) where
  abbrev part : Span
  part = record { start = at; len = n }

  part-there : (t : List ℕ) → at + n ≤ length t → bytes n t at ≡ got part (at + n)
  unfolding bytes
  part-there t k = rw (le-leb (at + n) (length t) k)

  part-missing : (t : List ℕ) → length t < at + n → bytes n t at ≡ short at
  unfolding bytes
  part-missing t k = rw (lt-leb (at + n) (length t) k)

  part-earlier : (t : List ℕ) → NotBefore at (bytes n t at)
  unfolding NotBefore
  part-earlier t = split (lt-or-le (length t) (at + n)) (λ k. rw (part-missing t k) (omega arith)) (λ k. rw (part-there t k) tt)

  pub bytes-regular : Regular (bytes n) s at sized
  bytes-regular =
      sized-regular sized (bytes n) n s at l part-missing cut
      (λ t k e. part-there t (as_long s t (at + n) k e) ∙ sym (part-there s k))
      (λ k. inl (part, part-there s k))
      part-earlier

  -- a name, whose length stands before it
  module _ (some : 0 < n) (name-ends : Ends sized s at (at + n) failure.NotPlain) where
    name-there : (t : List ℕ) → at + n ≤ length t → name_field n t at ≡ cond (plain_name (take n (drop at t))) (got part (at + n)) (unplain at)
    unfolding name_field span_in
    name-there t k = rw (part-there t k)

    name-missing : (t : List ℕ) → length t < at + n → name_field n t at ≡ short at
    unfolding name_field
    name-missing t k = rw (part-missing t k)

    name-earlier : (t : List ℕ) → NotBefore at (name_field n t at)
    unfolding NotBefore
    name-earlier t =
        split (lt-or-le (length t) (at + n))
        (λ k. rw (name-missing t k) (omega arith))
        (λ k. rw (name-there t k) (by-test (plain_name (take n (drop at t))) (λ e. rw e tt) (λ e. rw e (omega arith))))

    pub name-regular : Regular (name_field n) s at sized
    name-regular =
        sized-regular sized (name_field n) n s at l name-missing cut
        (λ t k e. name-there t (as_long s t (at + n) k e) ∙ (rw (like-span s t at n k e) (sym (name-there s k))))
        (λ k.
        by-test (plain_name (take n (drop at s)))
        (λ e. inl (part, name-there s k ∙ rw e))
        (λ e. inr (name-there s k ∙ rw e, (some, name-ends))))
        name-earlier

module _ (sized : Sized) (s : List ℕ) (at : ℕ) (l : at ≤ length s) (is-sized : sized s at 4) where
  abbrev value_in : List ℕ → ℕ
  value_in t = number_of (get_or t at 0) (get_or t (at + 1) 0) (get_or t (at + 2) 0) (get_or t (at + 3) 0)

  number-there : (t : List ℕ) → at + 4 ≤ length t → number4 t at ≡ got (value_in t) (at + 4)
  unfolding number4 number_read
  number-there t k = rw (number-value t at k)

  number-missing : (t : List ℕ) → length t < at + 4 → number4 t at ≡ short at
  unfolding number4 number_read
  number-missing t k = rw (number_short t at k)

  number-earlier : (t : List ℕ) → NotBefore at (number4 t at)
  unfolding NotBefore
  number-earlier t = split (lt-or-le (length t) (at + 4)) (λ k. rw (number-missing t k) (omega arith)) (λ k. rw (number-there t k) tt)

  like-byte : (t : List ℕ) (i : ℕ) → i < at + 4 → take (at + 4) t ≡ take (at + 4) s → get_or t i 0 ≡ get_or s i 0
  like-byte t i h e = sym (get_or-take (at + 4) t i 0 h) ∙ (ap (λ (u : List ℕ). get_or u i 0) e ∙ get_or-take (at + 4) s i 0 h)

  pub number-regular : Regular number4 s at sized
  number-regular =
      sized-regular sized number4 4 s at l number-missing (λ k. cut_sized 4 is-sized k)
      (λ t k e.
      number-there t (as_long s t (at + 4) k e)
      ∙ (rw (like-byte t at (omega arith) e, like-byte t (at + 1) (omega arith) e, like-byte t (at + 2) (omega arith) e, like-byte t (at + 3) (omega arith) e)
      (sym (number-there s k))))
      (λ k. inl (value_in s, number-there s k))
      number-earlier

-- ---- the fields of a definition
module _ (sized : Sized) where
  pub shape-regular : Ordinary sized shape_fields
  unfolding shape_fields
  shape-regular s at l =
      next-regular sized (integer is_key_type) _ at s l (integer-regular sized is_key_type) λ t key_type n k e.
      next-regular sized (integer (key_length_ok key_type)) _ n t k (integer-regular sized (key_length_ok key_type)) λ u key_length m i q.
      next-regular sized (integer data_types_ok) _ m u i (integer-regular sized data_types_ok) λ v types o j w.
      got-regular sized _ v o j

  period-regular : (types t : ℕ) → Ordinary sized (period_field types t)
  unfolding period_field pair_field
  period-regular types t s at l =
      cond-regular sized (present types t) (pair_field t) (λ b n. got 0 n) s at
      (λ p. unfold pair_field in next-regular sized (integer λ n. eqb n t) _ at s l (integer-regular sized λ n. eqb n t) λ u v n k e. width-regular sized 32 u n k)
      (λ p. got-regular sized 0 s at l)

  pub times-regular : (types : ℕ) → Ordinary sized (times_there types)
  unfolding times_there
  times-regular types s at l =
      next-regular sized (integer_of 32) _ at s l (width-regular sized 32) λ t expiry n k e.
      next-regular sized (period_fields types) _ n t k (each-regular sized (period_field types) (period-regular types) rate_types) λ u periods m i q.
      got-regular sized _ u m i

  -- ---- the fields of an update behind its ID
  server-field-regular : (types : ℕ) → Ordinary sized (server_field types)
  unfolding server_field
  server-field-regular types s at l =
      cond-regular sized (present types 0) server_id (λ b n. got (pos 0) n) s at (λ p. server-regular sized s at l) (λ p. got-regular sized (pos 0) s at l)

  slot-regular : (types t : ℕ) → Ordinary sized (slot_field types t)
  unfolding slot_field
  slot-regular types t s at l =
      cond-regular sized (present types t) (integer_of (width_of t)) (λ b n. got 0 n) s at
      (λ p. width-regular sized (width_of t) s at l) (λ p. got-regular sized 0 s at l)

  pub data-regular : (types : ℕ) → Ordinary sized (data_fields types)
  unfolding data_fields
  data-regular types s at l =
      next-regular sized (server_field types) _ at s l (server-field-regular types) λ t z n k e.
      next-regular sized (value_fields types) _ n t k (each-regular sized (slot_field types) (slot-regular types) slot_types) λ u vs m i q.
      got-regular sized _ u m i

  -- a string, behind its length
  pub string-regular : (key_length at : ℕ) → ((t : List ℕ) (start n : ℕ) → read_int t at ≡ Ok (n, start) → sized t start n)
      → (s : List ℕ) → at ≤ length s → Regular (string_field key_length) s at sized
  unfolding string_field
  string-regular key_length at is-sized s l =
      next-regular sized (integer (between 0 key_length)) (λ len t n. bytes len t n) at s l (integer-regular sized (between 0 key_length)) λ t len n k e.
      bytes-regular sized len t n k (λ z. cut_sized len (is-sized t n len (integer-value (between 0 key_length) t at len n e)) z)

-- ---- a definition's ID and name
module _ (id n : ℕ) (t : List ℕ) (e : integer_of 32 t 0 ≡ got id n) where
  id-there : read_int t 0 ≡ Ok (id, n)
  unfolding integer_of
  id-there = integer-value _ t 0 id n e

  -- the name, in bodies that begin as u up to its start
  name-behind : (u : List ℕ) → take n u ≡ take n t → (len m : ℕ) → integer (between 1 name_max) u n ≡ got len m
      → (v : List ℕ) → m ≤ length v → take m v ≡ take m u → Regular (name_field len) v m definition_sized
  name-behind u b len m q v l c =
      let w = integer-value (between 1 name_max) u n len m q in
      let o = (advance u n len m w).0 in
      let there = like-value u v n len m w c in
      let d : take n v ≡ take n t = agree-fewer u v n m (omega (arith, o)) c ∙ b in
      let first = like-value t v 0 id n id-there d in
      let is_name : definition_sized v m len = (id, (n, (first, there))) in
      let low = between-low 1 name_max len (integer-passed (between 1 name_max) u n len m q) in
      name-regular definition_sized len v m l (λ k. cut_sized len is_name k) (omega (arith, low)) (whole_name len is_name refl)

pub named-regular : (s : List ℕ) → Regular named_fields s 0 definition_sized
unfolding named_fields
named-regular s =
    next-regular definition_sized (integer_of 32) _ 0 s (omega arith) (width-regular definition_sized 32) λ t id n k e.
    then-regular definition_sized (integer (between 1 name_max)) _ n t (λ u i b. integer-regular definition_sized (between 1 name_max) u n i)
    (λ u len m i b q.
    then-regular definition_sized (name_field len) _ m u (name-behind id n t e u b len m q) (λ v name o j c w. got-regular definition_sized _ v o j) u i refl)
    t k refl

-- ---- a field fails at its start
pub fault-start : {A : Type 0} (x y : Fault) → ◌≡◌ {A = Read A} (failed x) (failed y) → y.start ≡ x.start
fault-start x y e = let z : x ≡ y = cc in ap (λ (w : Fault). w.start) (sym z)

got-not : {A : Type 0} (a : A) (n : ℕ) (x : Fault) → ◌≡◌ {A = Read A} (got a n) (failed x) → ⊥
got-not a n x e = let w : ◌≡◌ {A = ℕ} 0 1 = cc in omega (arith, w)

tested-starts : (ok : ℕ → Bool) (at : ℕ) (i : (Result (ℕ × ℕ) IntError)) (x : Fault) → tested ok at i ≡ failed x → x.start ≡ at
unfolding tested
tested-starts ok at (Ok (v, next)) x e =
    by-test (ok v)
    (λ t. absurd (got-not v next x (rw t at e)))
    (λ t. fault-start {A = ℕ} (fault failure.OutOfRange at) x (rw t at e))
tested-starts ok at (Err (int.Short k)) x e = fault-start {A = ℕ} (fault failure.Short at) x e
tested-starts ok at (Err (int.Overflow k)) x e = fault-start {A = ℕ} (fault failure.OutOfRange at) x e

pub integer-starts : (ok : ℕ → Bool) (s : List ℕ) (at : ℕ) (x : Fault) → integer ok s at ≡ failed x → x.start ≡ at
unfolding integer
integer-starts ok s at x e = tested-starts ok at (read_int s at) x e

pub width-starts : (k : ℕ) (s : List ℕ) (at : ℕ) (x : Fault) → integer_of k s at ≡ failed x → x.start ≡ at
unfolding integer_of
width-starts k s at x e = integer-starts _ s at x e

pub bytes-starts : (n : ℕ) (s : List ℕ) (at : ℕ) (x : Fault) → bytes n s at ≡ failed x → x.start ≡ at
unfolding bytes
bytes-starts n s at x e =
    split (lt-or-le (length s) (at + n))
    (λ k. fault-start {A = Span} (fault failure.Short at) x (rw (lt-leb (at + n) (length s) k) at e))
    (λ k. absurd (got-not {A = Span} _ _ x (rw (le-leb (at + n) (length s) k) at e)))

pub number-starts : (s : List ℕ) (at : ℕ) (x : Fault) → number4 s at ≡ failed x → x.start ≡ at
unfolding number4 number_read
number-starts s at x e =
    split (lt-or-le (length s) (at + 4))
    (λ k. fault-start {A = ℕ} (fault failure.Short at) x (rw (number_short s at k) at e))
    (λ k. absurd (got-not {A = ℕ} _ _ x (rw (number-value s at k) at e)))

pub name-starts : (n : ℕ) (s : List ℕ) (at : ℕ) (x : Fault) → name_field n s at ≡ failed x → x.start ≡ at
unfolding name_field bytes
name-starts n s at x e =
    split (lt-or-le (length s) (at + n))
    (λ k. fault-start {A = Span} (fault failure.Short at) x (rw (lt-leb (at + n) (length s) k) at e))
    (λ k.
    let q : cond (plain_name (span_in s (record { start = at; len = n }))) (got (record { start = at; len = n }) (at + n)) (unplain at) ≡ failed x =
    rw (le-leb (at + n) (length s) k) at e in
    by-test (plain_name (span_in s (record { start = at; len = n })))
    (λ t. absurd (got-not {A = Span} _ _ x (rw t at q)))
    (λ t. fault-start {A = Span} (fault failure.NotPlain at) x (rw t at q)))
