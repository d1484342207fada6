-- A scan of a store's entries: what its steps say gives what it promises.
use Rattle.std.specs.Prelude.{Option, None, Some, is_some}
use Prim.Native.Nat.{ℕ, ◌%◌, ◌<◌}
use native.Mathlib.Omega.{arith}
use mathlib.Core.Path.{◌≡◌, refl, sym, ap, ◌∙◌}
use mathlib.Core.Bool.{Bool, true, false, cond, ◌&&◌}
use mathlib.Core.List.{List, map}
use lib.ListN.{length, get_or, length-map}
use lib.Dec.{eqb, leb}
use borrow.Author.Tests.{eqb-true}
use Rattle.lists.specs.Lists.{every, distinct, first_place, eq_bytes}
use Rattle.lists.proofs.Cases.{by-test, and_first, and_second, and-true, and-true-second, and-false, and-false-second, never}
use Rattle.lists.proofs.Every.{every-at}
use Rattle.lists.proofs.Bytes.{eq-bytes}
use Rattle.lists.proofs.Places.{first-agree}
use Rattle.store.specs.declared.Entry.{Entry}
use Rattle.store.specs.declared.Store.{Store}
use Rattle.store.specs.declared.entries.Place.{Place}
use Rattle.store.specs.Store.{entry_held, entry_free, entry_of, entry_keyed, key_of, no_entry}
use Rattle.store.specs.Sound.{sound_entry, same_key, counts_right}
use Rattle.store.proofs.Lookup.{blank_entry}
use Rattle.lists.proofs.Maps.{mapped_at}
use Rattle.store_soundness.specs.Hashes.{hash_end, hash_key, entry_hash, same_hash}
use Rattle.store_soundness.proofs.hashes.Hashing.{held-is, hashes-tell}
use Rattle.store_soundness.specs.Codes.{entry_code, store_codes, sound_code, is_code}
use Rattle.store_soundness.proofs.codes.Coding.{right-codes, wrong-codes, codes-sound, codes-hashes, free-hashed}
use Rattle.store.specs.Places.{place_of}
use Rattle.message.specs.Targets.{keyed_as, goes_to}
use Rattle.store_scan.specs.declared.Query.{Query}
use Rattle.store_scan.specs.Scan.{Scans, Coded, ScansByHashes, ScansByKeys}

-- ---- places of codes and of entries

-- an entry that has the table and the key has their hash
keyed-hash : (table : ℕ) (key : List ℕ) (e : Entry) → entry_keyed table key e ≡ true → entry_hash e ≡ hash_key (table % hash_end) key
unfolding entry_keyed entry_of
keyed-hash table key e h =
    let o = and_first (entry_of table (length key) e) (eq_bytes (key_of e) key) h in
    let t = and_second (entry_held e) (eqb e.table table && eqb e.key_len (length key)) o in
    let same-table = eqb-true e.table table (and_first (eqb e.table table) (eqb e.key_len (length key)) t) in
    let same_bytes = eq-bytes (key_of e) key (and_second (entry_of table (length key) e) (eq_bytes (key_of e) key) h) in
    held-is e (and_first (entry_held e) (eqb e.table table && eqb e.key_len (length key)) o)
    ∙ ap (λ (x : ℕ). hash_key (x % hash_end) (key_of e)) same-table
    ∙ ap (hash_key (table % hash_end)) same_bytes

-- ---- a place that is told where a test holds

module _ (p : Place) where
  some-told : (b : Bool) → is_some (cond b (Some p) None) ≡ b
  some-told true = refl
  some-told false = refl

  abbrev told_or : (Option Place) → Place
  told_or None = p
  told_or (Some x) = x

  or-told : (b : Bool) → told_or (cond b (Some p) None) ≡ p
  or-told true = refl
  or-told false = refl

  is-told : {b : Bool} {r : (Option Place)} → r ≡ cond b (Some p) None → is_some r ≡ b
  is-told e = ap is_some e ∙ some-told _

  the-told : (b : Bool) {r : (Option Place)} → r ≡ cond b (Some p) None → (x : Place) → r ≡ Some x → x ≡ p
  the-told b e x h = ap told_or (sym h ∙ e) ∙ or-told b

-- ---- what a scan promises

-- of the entries alone, by their own codes
record Tells (q : Query) (entries : List Entry) (r : (Option Place)) : Type 0 where
  sound : is_some r ≡ (every (sound_entry q.tables) entries && distinct same_key entries)
  place : (p : Place) → r ≡ Some p → p ≡ goes_to entries q.entry

module _ (q : Query) (entries : List Entry) (codes : List ℕ) (size : length codes ≡ 128) (ce : codes ≡ map (entry_code q.tables) entries) (sought : ℕ) (gs : sought ≡ hash_key (q.entry.table % hash_end) (key_of q.entry))
    (f : (Option ℕ)) (fe : Coded q.entry sought codes entries → f ≡ first_place (keyed_as q.entry) entries) where
  abbrev there : Place
  there = place_of f (first_place (is_code hash_end) codes)

  many : length codes ≡ length entries
  many = ap length ce ∙ length-map entries (entry_code q.tables)

  told-sound : every sound_code codes ≡ every (sound_entry q.tables) entries
  told-sound = ap (every sound_code) ce ∙ codes-sound q.tables entries

  -- where all entries are sound, the codes are their hashes
  module _ (all : every (sound_entry q.tables) entries ≡ true) where
    hashes-are : codes ≡ map entry_hash entries
    hashes-are = ce ∙ codes-hashes q.tables entries all

    hash_at : (i : ℕ) (d : Entry) → i < 128 → get_or codes i 0 ≡ entry_hash (get_or entries i d)
    hash_at i d l = ap (λ (xs : List ℕ). get_or xs i 0) hashes-are ∙ mapped_at entry_hash entries i d 0 (omega (arith, many, size))

    free-place : first_place (is_code hash_end) codes ≡ first_place entry_free entries
    free-place =
        first-agree (is_code hash_end) entry_free 0 blank_entry codes entries many
        (λ i l.
        ap (is_code hash_end) (hash_at i blank_entry (omega (arith, size)))
        ∙ free-hashed q.tables (get_or entries i blank_entry) (every-at (sound_entry q.tables) entries blank_entry i all (omega (arith, many))))

    coded : Coded q.entry sought codes entries
    unfolding keyed_as
    coded i l h =
        hash_at i no_entry l
        ∙ keyed-hash q.entry.table (key_of q.entry) (get_or entries i no_entry)
        (and_second (leb q.entry.key_len 64) (entry_keyed q.entry.table (key_of q.entry) (get_or entries i no_entry)) h)
        ∙ sym gs

    goes-there : there ≡ goes_to entries q.entry
    unfolding goes_to
    goes-there = ap (λ (x : (Option ℕ)). place_of x (first_place (is_code hash_end) codes)) (fe coded) ∙ ap (place_of (first_place (keyed_as q.entry) entries)) free-place

  tell-by-keys : (r : (Option Place)) → ScansByKeys codes f entries r → Tells q entries r
  tell-by-keys r x =
      let told = is-told there x ∙ ap (λ (b : Bool). b && distinct same_key entries) told-sound in
      record {
        sound = told;
        place = λ p s. the-told there _ x p s ∙ goes-there (and_first (every (sound_entry q.tables) entries) (distinct same_key entries) (sym told ∙ ap is_some s));
      }

  module _ (nm : true ≡ distinct same_hash codes) where
    keys-apart : every (sound_entry q.tables) entries ≡ true → distinct same_key entries ≡ true
    keys-apart all = hashes-tell entries (ap (distinct same_hash) (sym (hashes-are all)) ∙ sym nm)

    tell-by-hashes : (r : (Option Place)) → ScansByHashes codes f r → Tells q entries r
    tell-by-hashes r x =
        record {
          sound = by-test (every (sound_entry q.tables) entries)
              (λ h. is-told there x ∙ told-sound ∙ sym (and-true (every (sound_entry q.tables) entries) (distinct same_key entries) h ∙ (keys-apart h ∙ sym h)))
              (λ h. is-told there x ∙ told-sound ∙ (h ∙ sym (and-false (every (sound_entry q.tables) entries) (distinct same_key entries) h)));
          place = λ p s. the-told there _ x p s ∙ goes-there (sym told-sound ∙ (sym (is-told there x) ∙ ap is_some s));
        }

-- of a store: where its counts aren't right, no code is of a sound entry
module _ (q : Query) (s : Store) where
  abbrev whole : Bool
  whole = every (sound_entry q.tables) s.entries

  abbrev apart : Bool
  apart = distinct same_key s.entries

  counted-scan : (r : (Option Place)) → counts_right s ≡ true → Tells q s.entries r → Scans q s r
  counted-scan r h t =
      record {
        sound = t.sound ∙ ap (λ (b : Bool). whole && b) (sym (and-true-second apart (counts_right s) h));
        place = t.place;
      }

  unsound-scan : (r : (Option Place)) → counts_right s ≡ false → is_some r ≡ false → Scans q s r
  unsound-scan r h f =
      record {
        sound = f ∙ sym (and-false-second whole (apart && counts_right s) (and-false-second apart (counts_right s) h));
        place = λ p e. never (ap is_some e) f;
      }

  module _ (codes : List ℕ) (size : length codes ≡ 128) (ce : codes ≡ store_codes q.tables s) (sought : ℕ) (gs : sought ≡ hash_key (q.entry.table % hash_end) (key_of q.entry))
      (f : (Option ℕ)) (fe : Coded q.entry sought codes s.entries → f ≡ first_place (keyed_as q.entry) s.entries) where
    none-sound : counts_right s ≡ false → every sound_code codes ≡ false
    none-sound h = ap (every sound_code) ce ∙ wrong-codes q.tables s h

    pub scan-by-keys : (r : (Option Place)) → ScansByKeys codes f s.entries r → Scans q s r
    scan-by-keys r x =
        by-test (counts_right s)
        (λ h. counted-scan r h (tell-by-keys q s.entries codes size (ce ∙ right-codes q.tables s h) sought gs f fe r x))
        (λ h. unsound-scan r h (is-told (place_of f (first_place (is_code hash_end) codes)) x ∙ and-false (every sound_code codes) apart (none-sound h)))

    pub scan-by-hashes : true ≡ distinct same_hash codes → (r : (Option Place)) → ScansByHashes codes f r → Scans q s r
    scan-by-hashes nm r x =
        by-test (counts_right s)
        (λ h. counted-scan r h (tell-by-hashes q s.entries codes size (ce ∙ right-codes q.tables s h) sought gs f fe nm r x))
        (λ h. unsound-scan r h (is-told (place_of f (first_place (is_code hash_end) codes)) x ∙ none-sound h))
