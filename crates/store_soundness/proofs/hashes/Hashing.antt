-- Hashes: along the loops over a key, in the loops over pairs of hashes, and what distinct hashes say of the keys.
use Prim.Native.Nat.{ℕ, zero, suc, ◌+◌, ◌*◌, ◌-◌, ◌/◌, ◌%◌, ◌^◌, ◌≤◌, ◌<◌, min}
use native.Mathlib.Omega.{arith}
use mathlib.Core.Path.{◌≡◌, refl, sym, ap, ◌∙◌, subst}
use mathlib.Core.Bool.{Bool, true, false, not, ◌&&◌}
use mathlib.Core.Logic.{⊎_elim}
use mathlib.Core.List.{List, [], ◌∷◌, map}
use lib.ListN.{length, get_or, take, drop, length-map, length-drop, drop_of_length-le}
use lib.Seq.{take_all, get_or-drop, drop-drop}
use lib.Dec.{eqb, ltb, leb}
use mir.Val.{Fits}
use mir.Syntax.{w32}
use borrow.Author.Rules.{rules}
use borrow.Author.Tests.{le-leb, eqb-true, eq-eqb, ne_eqb, lt-ltb, le-ltb}
use Rattle.lists.specs.Lists.{distinct, every, eq_bytes}
use Rattle.lists.proofs.Cases.{and_first, and_second, and-true, and-false, by-test, cond-true, never, eq-or-ne}
use Rattle.lists.proofs.Maps.{mapped_at}
use Rattle.lists.proofs.Prefix.{shorter-bytes, prefix-shorter}
use Rattle.lists.proofs.Every.{drop-step}
use Rattle.lists.proofs.Bytes.{eq-bytes}
use Rattle.lists.proofs.Distinct.{distinct-at, distinct_from}
use Rattle.store_soundness.proofs.Pairs.{every_true, every_same}
use Rattle.store.specs.declared.Entry.{Entry}
use Rattle.store.specs.Store.{entry_held, entry_of, entry_keyed, key_of}
use Rattle.store.specs.Sound.{same_key}
use Rattle.store.proofs.Lookup.{blank_entry}
use Rattle.store_soundness.specs.Hashes.{hash_end, mixed, word_of, hash_words, hash_bytes, hash_key, entry_hash, same_hash, other_hash}

-- ---- a number more of a key

pub mix-small : (h n : ℕ) → mixed h n < hash_end
mix-small h n = omega arith

-- ---- the words of a key

pub word-is : (key : List ℕ) (at a b c d : ℕ) → a ≡ get_or key at 0 → b ≡ get_or key (at + 1) 0 → c ≡ get_or key (at + 2) 0 → d ≡ get_or key (at + 3) 0
    → a + 256 * b + 65536 * (c + 256 * d) ≡ word_of (drop at key)
word-is key at a b c d p q r t =
    let e₀ : get_or (drop at key) 0 0 ≡ a = get_or-drop at key 0 0 ∙ ap (λ (k : ℕ). get_or key k 0) (omega arith) ∙ sym p in
    let e₁ : get_or (drop at key) 1 0 ≡ b = get_or-drop at key 1 0 ∙ sym q in
    let e₂ : get_or (drop at key) 2 0 ≡ c = get_or-drop at key 2 0 ∙ sym r in
    let e₃ : get_or (drop at key) 3 0 ≡ d = get_or-drop at key 3 0 ∙ sym t in
    rw (e₀, e₁, e₂, e₃) (omega arith)

words-none : (h : ℕ) (bs : List ℕ) → hash_words 0 h bs ≡ h
unfolding hash_words
words-none h bs = refl

words_more : (n m h : ℕ) (bs : List ℕ) → n ≡ suc m → hash_words n h bs ≡ hash_words m (mixed h (word_of bs)) (drop 4 bs)
unfolding hash_words
words_more n m h bs e = rw e

pub record Words (words start : ℕ) (key : List ℕ) (hash k : ℕ) : Type 0 where
  pub small : hash < hash_end
  pub within : k ≤ words
  pub fits : 4 * words ≤ length key
  pub rest : hash_words words start key ≡ hash_words (words - k) hash (drop (4 * k) key)

pub words-start : {words start : ℕ} {key : List ℕ} → start < hash_end → 4 * words ≤ length key → Words words start key start 0
words-start {words} {start} {key} l f =
    let z : words ≡ words - 0 = omega arith in
    record { small = l; within = omega arith; fits = f; rest = ap (λ (n : ℕ). hash_words n start key) z }

module _ {words start : ℕ} {key : List ℕ} {hash k : ℕ} (r : Words words start key hash k) where
  pub word-inside : k < words → 4 * k + 4 ≤ length key
  word-inside l = omega (arith, r.fits)

  pub words-next : {w after : ℕ} → k < words → w ≡ word_of (drop (4 * k) key) → after ≡ mixed hash w → after < hash_end
      → Words words start key after (k + 1)
  words-next {w} {after} l e q s =
      let z : words - k ≡ suc (words - (k + 1)) = omega arith in
      let y : 4 * k + 4 ≡ 4 * (k + 1) = omega arith in
      record {
        small = s;
        within = omega arith;
        fits = r.fits;
        rest =
            r.rest
            ∙ words_more (words - k) (words - (k + 1)) hash (drop (4 * k) key) z
            ∙ ap (λ (x : ℕ). hash_words (words - (k + 1)) (mixed hash x) (drop 4 (drop (4 * k) key))) (sym e)
            ∙ ap (λ (x : ℕ). hash_words (words - (k + 1)) x (drop 4 (drop (4 * k) key))) (sym q)
            ∙ ap (hash_words (words - (k + 1)) after) (drop-drop 4 (4 * k) key ∙ ap (λ (i : ℕ). drop i key) y);
      }

  pub words-end : words ≤ k → hash ≡ hash_words words start key
  words-end l =
      let z : words - k ≡ 0 = omega arith in
      sym (r.rest ∙ ap (λ (n : ℕ). hash_words n hash (drop (4 * k) key)) z ∙ words-none hash (drop (4 * k) key))

  pub words_small : hash < hash_end
  words_small = r.small

pub ruleset wording = (rules, word-is, words-start, word-inside, words-next, words-end, words_small)

-- ---- the bytes that are left

bytes-nil : (h : ℕ) → hash_bytes h [] ≡ h
unfolding hash_bytes
bytes-nil h = refl

bytes-cons : (h b : ℕ) (bs : List ℕ) → hash_bytes h (b ∷ bs) ≡ hash_bytes (mixed h b) bs
unfolding hash_bytes
bytes-cons h b bs = refl

pub record Hashing (start : ℕ) (bytes : List ℕ) (hash i : ℕ) : Type 0 where
  pub small : hash < hash_end
  pub rest : hash_bytes start bytes ≡ hash_bytes hash (drop i bytes)

pub hash-start : {start : ℕ} {bytes : List ℕ} → start < hash_end → Hashing start bytes start 0
hash-start l = record { small = l; rest = refl }

module _ {start : ℕ} {bytes : List ℕ} {hash i : ℕ} (r : Hashing start bytes hash i) where
  pub hash-next : {b after : ℕ} → i < length bytes → b ≡ get_or bytes i 0 → after ≡ mixed hash b → after < hash_end → Hashing start bytes after (i + 1)
  hash-next {b} {after} l e q s =
      record {
        small = s;
        rest =
            r.rest
            ∙ ap (hash_bytes hash) (drop-step bytes i 0 l)
            ∙ bytes-cons hash (get_or bytes i 0) (drop (i + 1) bytes)
            ∙ ap (λ (x : ℕ). hash_bytes (mixed hash x) (drop (i + 1) bytes)) (sym e)
            ∙ ap (λ (x : ℕ). hash_bytes x (drop (i + 1) bytes)) (sym q);
      }

  pub hash-end : length bytes ≤ i → hash ≡ hash_bytes start bytes
  hash-end l = sym (r.rest ∙ ap (hash_bytes hash) (drop_of_length-le bytes l) ∙ bytes-nil hash)

  pub hash-small : hash < hash_end
  hash-small = r.small

pub byte_small : {b : ℕ} → b < 256 → b < 2 ^ 32
byte_small l = omega arith

pub ruleset hashing = (rules, byte_small, hash-start, hash-next, hash-end, hash-small)

-- ---- a key

pub key-hashed : (start words m r : ℕ) (key : List ℕ) → words ≡ length key / 4 → m ≡ hash_words words start key → r ≡ hash_bytes m (take (length key - 4 * words) (drop (4 * words) key))
    → r ≡ hash_key start key
unfolding hash_key
key-hashed start words m r key e p q =
    q
    ∙ ap (hash_bytes m) (take_all (length key - 4 * words) (drop (4 * words) key) (omega (arith, length-drop (4 * words) key)))
    ∙ ap (λ (x : ℕ). hash_bytes x (drop (4 * words) key)) p
    ∙ ap (λ (w : ℕ). hash_bytes (hash_words w start key) (drop (4 * w) key)) e

pub words_inside : (words n : ℕ) → words ≡ n / 4 → 4 * words ≤ n
words_inside words n e = omega arith

words-below : (n h : ℕ) (bs : List ℕ) → h < hash_end → hash_words n h bs < hash_end
words-below zero h bs l = rw (words-none h bs) l
words-below (suc n) h bs l = rw (words_more (suc n) n h bs refl) (words-below n (mixed h (word_of bs)) (drop 4 bs) (mix-small h (word_of bs)))

bytes_below : (h : ℕ) (bs : List ℕ) → h < hash_end → hash_bytes h bs < hash_end
bytes_below h [] l = rw (bytes-nil h) l
bytes_below h (b ∷ bs) l = rw (bytes-cons h b bs) (bytes_below (mixed h b) bs (mix-small h b))

pub key_below : (h : ℕ) (bs : List ℕ) → h < hash_end → hash_key h bs < hash_end
unfolding hash_key
key_below h bs l = bytes_below (hash_words (length bs / 4) h bs) (drop (4 * (length bs / 4)) bs) (words-below (length bs / 4) h bs l)

pub ruleset key_hashing = (rules, key-hashed, words_inside)

-- ---- the hash of an entry

module _ (e : Entry) (n : ℕ) (z : length e.key ≡ 64) (q : n ≡ min e.key_len 64) where
  pub held-hash : {m start : ℕ} → start ≡ e.table % hash_end → m ≡ hash_key start (take n e.key) → m ≡ hash_key (e.table % hash_end) (key_of e)
  unfolding key_of
  held-hash {m} {start} s p =
      p
      ∙ ap (λ (x : ℕ). hash_key x (take n e.key)) s
      ∙ ap (hash_key (e.table % hash_end)) (ap (λ (k : ℕ). take k e.key) q ∙ prefix-shorter e.key e.key_len 64 z)

pub start_small : (t : ℕ) → t % hash_end < hash_end
start_small t = omega arith

pub hash-narrow : {m : ℕ} → m < hash_end → Fits w32 m
hash-narrow l = record { fits = omega arith }

pub ruleset entry_hashes = (rules, shorter-bytes, held-hash, start_small, hash-narrow)

-- ---- pairs of hashes

free-alike : (a b : ℕ) → hash_end ≤ a → same_hash a b ≡ false
unfolding same_hash
free-alike a b l = and-false (ltb a hash_end) (eqb a b) (le-ltb a hash_end l)

pub same_alike : (a b : ℕ) → a < hash_end → b ≡ a → same_hash a b ≡ true
unfolding same_hash
same_alike a b l e = and-true (ltb a hash_end) (eqb a b) (lt-ltb a hash_end l) ∙ eq-eqb a b (sym e)

eqb-turned : (a b : ℕ) → eqb a b ≡ eqb b a
eqb-turned a b = ⊎_elim (λ e. eq-eqb a b e ∙ sym (eq-eqb b a (sym e))) (λ f. ne_eqb a b f ∙ sym (ne_eqb b a (λ z. f (sym z)))) (eq-or-ne a b)

-- of a held entry's hash, the others are told by equality alone
unlike-other : (a : ℕ) → a < hash_end → (b : ℕ) → not (same_hash a b) ≡ other_hash a b
unfolding same_hash
unlike-other a l b = ap not (and-true (ltb a hash_end) (eqb a b) (lt-ltb a hash_end l) ∙ eqb-turned a b)

module _ (hash : ℕ) (others : List ℕ) where
  pub free_apart : hash_end ≤ hash → leb hash_end hash ≡ every (λ (y : ℕ). not (same_hash hash y)) others
  free_apart l = le-leb hash_end hash l ∙ sym (every_true (λ (y : ℕ). not (same_hash hash y)) others (λ y. ap not (free-alike hash y l)))

  pub held_apart : (b : Bool) → hash < hash_end → b ≡ every (other_hash hash) others → b ≡ every (λ (y : ℕ). not (same_hash hash y)) others
  held_apart b l q = q ∙ sym (every_same (λ (y : ℕ). not (same_hash hash y)) (other_hash hash) others (unlike-other hash l))

-- ---- entries with one table and key have one hash, so distinct hashes are of distinct keys

pub held-is : (e : Entry) → entry_held e ≡ true → entry_hash e ≡ hash_key (e.table % hash_end) (key_of e)
unfolding entry_hash
held-is e h = cond-true (entry_held e) _ _ h

one-hash : (e f : Entry) → same_key e f ≡ true → same_hash (entry_hash e) (entry_hash f) ≡ true
unfolding same_key entry_keyed entry_of
one-hash e f h =
    let k = and_second (entry_held e) (entry_keyed e.table (key_of e) f) h in
    let o = and_first (entry_of e.table (length (key_of e)) f) (eq_bytes (key_of f) (key_of e)) k in
    let t = and_second (entry_held f) (eqb f.table e.table && eqb f.key_len (length (key_of e))) o in
    let same-table = eqb-true f.table e.table (and_first (eqb f.table e.table) (eqb f.key_len (length (key_of e))) t) in
    let same_bytes = eq-bytes (key_of f) (key_of e) (and_second (entry_of e.table (length (key_of e)) f) (eq_bytes (key_of f) (key_of e)) k) in
    let p = held-is e (and_first (entry_held e) (entry_keyed e.table (key_of e) f) h) in
    let q = held-is f (and_first (entry_held f) (eqb f.table e.table && eqb f.key_len (length (key_of e))) o) in
    same_alike (entry_hash e) (entry_hash f) (subst (λ (m : ℕ). m < hash_end) (sym p) (key_below (e.table % hash_end) (key_of e) (start_small e.table)))
    (q ∙ ap (λ (x : ℕ). hash_key (x % hash_end) (key_of f)) same-table ∙ ap (hash_key (e.table % hash_end)) same_bytes ∙ sym p)

pub hashes-tell : (entries : List Entry) → distinct same_hash (map entry_hash entries) ≡ true → distinct same_key entries ≡ true
hashes-tell entries h =
    distinct_from same_key entries blank_entry
    (λ i j l m.
    let e = get_or entries i blank_entry in
    let f = get_or entries j blank_entry in
    let n = length-map entries entry_hash in
    let a = mapped_at entry_hash entries i blank_entry 0 (omega arith) in
    let b = mapped_at entry_hash entries j blank_entry 0 m in
    let d = distinct-at same_hash (map entry_hash entries) 0 i j h l (omega (arith, n)) in
    by-test (same_key e f)
    (λ t. never (one-hash e f t) (ap (λ (x : ℕ). same_hash x (entry_hash f)) (sym a) ∙ ap (same_hash (get_or (map entry_hash entries) i 0)) (sym b) ∙ d))
    (λ t. t))
