-- The lookup of an entry: the loops over entries and key bytes.
use Rattle.std.specs.Prelude.{None, Some}
use Prim.Native.Nat.{ℕ, ◌+◌, ◌≤◌, ◌<◌}
use native.Mathlib.Omega.{arith}
use mathlib.Core.Path.{◌≡◌, sym, ap, ◌∙◌}
use mathlib.Core.Bool.{true, false, ◌&&◌}
use mathlib.Core.List.{List}
use lib.ListN.{length, get_or, drop, length-take}
use lib.Seq.{get_or-take}
use lib.Dec.{eqb, leb}
use borrow.Author.Tests.{eqb-true, leb-true}
use Rattle.lists.specs.Lists.{first_place, eq_bytes}
use Rattle.lists.proofs.Cases.{by-test, not-passed, and_first, and_second, and-true, and-false}
use Rattle.lists.proofs.Bytes.{bytes-stop, bytes_next, bytes-end}
use Rattle.lists.proofs.Searching.{Searching, search-start, search-here, search-next, search-end}
use Rattle.std.proofs.lemmas.List.{get_or_default}
use Rattle.store.specs.declared.Entry.{Entry}
use Rattle.store.specs.Shape.{EntryShape}
use Rattle.store.specs.Store.{entry_held, entry_of, entry_keyed, key_of, no_entry}
use Rattle.message.specs.Targets.{keyed_as}
use Rattle.store_scan.specs.Scan.{may_equal, Coded}

-- ---- what is compared besides the bytes

module _ (entry e : Entry) where
  pub may-short : may_equal entry e ≡ true → entry.key_len ≤ 64
  unfolding may_equal
  may-short h = leb-true entry.key_len 64 (and_first (leb entry.key_len 64) (entry_of entry.table entry.key_len e) h)

  may-long : may_equal entry e ≡ true → e.key_len ≡ entry.key_len
  unfolding may_equal entry_of
  may-long h =
      eqb-true e.key_len entry.key_len
      (and_second (eqb e.table entry.table) (eqb e.key_len entry.key_len)
      (and_second (entry_held e) (eqb e.table entry.table && eqb e.key_len entry.key_len)
      (and_second (leb entry.key_len 64) (entry_of entry.table entry.key_len e) h)))

-- ---- the loop over the key's bytes: those of `entry`, and those of an entry e of the store

module _ (entry e : Entry) where
  -- from byte j on the keys say what they say as a whole
  pub record Matching (j : ℕ) : Type 0 where
    pub may : may_equal entry e ≡ true
    pub within : j ≤ entry.key_len
    pub rest : eq_bytes (key_of e) (key_of entry) ≡ eq_bytes (drop j (key_of e)) (drop j (key_of entry))

  pub byte-within : {j : ℕ} → Matching j → j < entry.key_len → j < 64
  byte-within r l = omega (arith, may-short entry e r.may)

module _ (entry e : Entry) (long : length entry.key ≡ 64) (e-long : length e.key ≡ 64) where
  abbrev n : ℕ
  n = entry.key_len

  -- the lengths of the two keys, where they can be equal
  length-of : n ≤ 64 → length (key_of entry) ≡ n
  unfolding key_of
  length-of l = omega (arith, length-take n entry.key, long)

  e-length-of : may_equal entry e ≡ true → length (key_of e) ≡ n
  unfolding key_of
  e-length-of h = omega (arith, length-take e.key_len e.key, e-long, may-long entry e h, may-short entry e h)

  pub may-not : may_equal entry e ≡ false → keyed_as entry e ≡ false
  unfolding keyed_as entry_keyed may_equal
  may-not h =
      by-test (leb n 64)
      (λ t.
      and-true (leb n 64) _ t
      ∙ and-false (entry_of entry.table (length (key_of entry)) e) (eq_bytes (key_of e) (key_of entry))
      (ap (λ (m : ℕ). entry_of entry.table m e) (length-of (leb-true n 64 t)) ∙ (sym (and-true (leb n 64) _ t) ∙ h)))
      (λ t. and-false (leb n 64) _ t)

  may-keyed : may_equal entry e ≡ true → keyed_as entry e ≡ eq_bytes (key_of e) (key_of entry)
  unfolding keyed_as entry_keyed may_equal
  may-keyed h =
      let t = and_first (leb n 64) (entry_of entry.table n e) h in
      and-true (leb n 64) _ t
      ∙ and-true (entry_of entry.table (length (key_of entry)) e) (eq_bytes (key_of e) (key_of entry))
      (ap (λ (m : ℕ). entry_of entry.table m e) (length-of (leb-true n 64 t)) ∙ and_second (leb n 64) (entry_of entry.table n e) h)

  module _ {j : ℕ} (r : Matching entry e j) where
    byte : j < n → get_or (key_of entry) j 0 ≡ get_or entry.key j 0
    unfolding key_of
    byte l = get_or-take n entry.key j 0 l

    e-byte : j < n → get_or (key_of e) j 0 ≡ get_or e.key j 0
    unfolding key_of
    e-byte l = get_or-take e.key_len e.key j 0 (omega (arith, may-long entry e r.may))

    inside : j < n → j < length (key_of entry)
    inside l = omega (arith, length-of (may-short entry e r.may))

    e-inside : j < n → j < length (key_of e)
    e-inside l = omega (arith, e-length-of r.may)

    pub match-next : j < n → get_or e.key j 0 ≡ get_or entry.key j 0 → Matching entry e (j + 1)
    match-next l q =
        record {
          may = r.may;
          within = omega arith;
          rest = r.rest ∙ bytes_next (key_of e) (key_of entry) j (e-inside l) (inside l) (e-byte l ∙ q ∙ sym (byte l));
        }

    pub byte-differs : j < n → (get_or e.key j 0 ≡ get_or entry.key j 0 → ⊥) → keyed_as entry e ≡ false
    byte-differs l f = may-keyed r.may ∙ (r.rest ∙ bytes-stop (key_of e) (key_of entry) j (e-inside l) (inside l) (λ q. f (sym (e-byte l) ∙ q ∙ byte l)))

    pub matched : n ≤ j → keyed_as entry e ≡ true
    matched l = may-keyed r.may ∙ (r.rest ∙ bytes-end (key_of e) (key_of entry) j (omega (arith, e-length-of r.may)) (omega (arith, length-of (may-short entry e r.may))))

-- ---- the loop over the entries

-- each place's key is as long as the code has room for
pub key-long : (es : List Entry) → (length es ≡ 128) × ((k : ℕ) → k < 128 → EntryShape (get_or es k no_entry)) → (i : ℕ) (d : Entry) → i < 128 → length (get_or es i d).key ≡ 64
key-long es h i d l = ap (λ (e : Entry). length e.key) (get_or_default es i d no_entry (omega (arith, h.0))) ∙ (h.1 i l).key.size

module _ (entry : Entry) (hash : ℕ) (codes : List ℕ) (entries : List Entry) where
  -- no entry before place i has the key, where each entry with the key has this code
  abbrev pub Looking : ℕ → Type 0
  Looking i = Coded entry hash codes entries → Searching (keyed_as entry) entries 128 i

  pub look : length entries ≡ 128 → Looking 0
  look n c = search-start n

  pub look-next : (i : ℕ) (d : Entry) → i < 128 → Looking i → keyed_as entry (get_or entries i d) ≡ false → Looking (i + 1)
  look-next i d l r t c = search-next (r c) d l t

  pub look-past : (i : ℕ) → i < 128 → Looking i → (get_or codes i 0 ≡ hash → ⊥) → Looking (i + 1)
  look-past i l r f c = search-next (r c) no_entry l (not-passed (keyed_as entry (get_or entries i no_entry)) (λ t. f (c i l t)))

  pub look-here : (i : ℕ) (d : Entry) → i < 128 → Looking i → keyed_as entry (get_or entries i d) ≡ true → Coded entry hash codes entries → Some i ≡ first_place (keyed_as entry) entries
  look-here i d l r t c = search-here (r c) d l t

  pub look-end : (i : ℕ) → 128 ≤ i → Looking i → Coded entry hash codes entries → None ≡ first_place (keyed_as entry) entries
  look-end i l r c = search-end (r c) l
