-- Codes of entries: of one entry, and what the codes of all entries say of the entries.
use Prim.Native.Nat.{ℕ, ◌%◌, ◌<◌}
use native.Mathlib.Omega.{arith}
use mathlib.Core.Path.{◌≡◌, refl, sym, ap, ◌∙◌, subst}
use mathlib.Core.Bool.{true, false}
use mathlib.Core.List.{List, map}
use lib.ListN.{length, get_or, replicate, length-map}
use lib.Seq.{ext_get_or}
use lib.Dec.{eqb}
use borrow.Author.Tests.{eq-eqb, ne_eqb, lt-ltb}
use Rattle.lists.specs.Lists.{every, eq_bytes}
use mathlib.Core.Logic.{⊎_elim}
use Rattle.lists.proofs.Cases.{by-test, never, cond-true, cond-false, eq-or-ne}
use Rattle.lists.proofs.Every.{every-at, every-agree}
use Rattle.store.specs.declared.Table.{Table}
use Rattle.store.specs.declared.Entry.{Entry}
use Rattle.store.specs.declared.Store.{Store}
use Rattle.store.specs.Store.{entry_held, entry_free, key_of, counts_of}
use Rattle.store.specs.Sound.{sound_entry, counts_right}
use Rattle.store.proofs.Lookup.{blank_entry}
use Rattle.lists.proofs.Maps.{mapped_at}
use Rattle.store_soundness.proofs.entry.EntryTests.{free-entry-sound, entry-flag-unsound}
use Rattle.store_soundness.specs.Hashes.{hash_end, hash_key, entry_hash}
use Rattle.store_soundness.proofs.hashes.Hashing.{key_below, start_small, held-is}
use Rattle.store_soundness.specs.Codes.{unsound_code, entry_code, counted_codes, store_codes, sound_code, is_code}

-- ---- one entry

module _ (tables : List Table) (e : Entry) where
  sound-code : sound_entry tables e ≡ true → entry_code tables e ≡ entry_hash e
  unfolding entry_code
  sound-code h = cond-true _ _ _ h

  bad-code : sound_entry tables e ≡ false → entry_code tables e ≡ unsound_code
  unfolding entry_code
  bad-code h = cond-false _ _ _ h

  free-hash : e.held ≡ 0 → entry_hash e ≡ hash_end
  unfolding entry_hash entry_held
  free-hash h = cond-false (eqb e.held 1) _ _ (ne_eqb e.held 1 (λ z. omega arith))

  key-hash : e.held ≡ 1 → entry_hash e ≡ hash_key (e.table % hash_end) (key_of e)
  unfolding entry_hash entry_held
  key-hash h = cond-true (eqb e.held 1) _ _ (eq-eqb e.held 1 h)

  pub free-code : e.held ≡ 0 → entry_code tables e ≡ 2147483647
  free-code h = sound-code (free-entry-sound tables e h) ∙ free-hash h

-- ---- the codes of a store whose counts are those found, or others

module _ (tables : List Table) (s : Store) where
  pub right-codes : counts_right s ≡ true → store_codes tables s ≡ map (entry_code tables) s.entries
  unfolding store_codes counted_codes counts_right
  right-codes h = cond-true (eq_bytes s.counts (counts_of s.entries)) (map (entry_code tables) s.entries) (replicate 128 unsound_code) h

  pub wrong-codes : counts_right s ≡ false → every sound_code (store_codes tables s) ≡ false
  unfolding store_codes counted_codes counts_right
  wrong-codes h =
      ap (every sound_code) (cond-false (eq_bytes s.counts (counts_of s.entries)) (map (entry_code tables) s.entries) (replicate 128 unsound_code) h) ∙ none-sound
    where
      none-sound : every sound_code (replicate 128 unsound_code) ≡ false
      none-sound = unfold every in refl

-- a sound entry is free or held
held_one : (tables : List Table) (e : Entry) → sound_entry tables e ≡ true → (e.held ≡ 0 → ⊥) → e.held ≡ 1
held_one tables e h f = ⊎_elim (λ z. z) (λ g. never h (entry-flag-unsound tables e f g)) (eq-or-ne e.held 1)

-- ---- what the codes of all entries say

-- of a sound entry, the hash tells whether its place is free
pub free-hashed : (tables : List Table) (e : Entry) → sound_entry tables e ≡ true → is_code hash_end (entry_hash e) ≡ entry_free e
unfolding entry_free
free-hashed tables e h =
    ⊎_elim
    (λ z. eq-eqb (entry_hash e) hash_end (free-hash tables e z) ∙ sym (eq-eqb e.held 0 z))
    (λ f.
    let one = held_one tables e h f in
    let l = subst (λ (m : ℕ). m < hash_end) (sym (key-hash tables e one)) (key_below (e.table % hash_end) (key_of e) (start_small e.table)) in
    ne_eqb (entry_hash e) hash_end (λ z. omega (arith, l)) ∙ sym (ne_eqb e.held 0 f))
    (eq-or-ne e.held 0)

unheld-hash : (e : Entry) → entry_held e ≡ false → entry_hash e ≡ hash_end
unfolding entry_hash
unheld-hash e h = cond-false (entry_held e) _ _ h

hash-within : (e : Entry) → entry_hash e < unsound_code
hash-within e =
    by-test (entry_held e)
    (λ h. subst (λ (m : ℕ). m < unsound_code) (sym (held-is e h)) (let l = key_below (e.table % hash_end) (key_of e) (start_small e.table) in omega (arith, l)))
    (λ h. subst (λ (m : ℕ). m < unsound_code) (sym (unheld-hash e h)) (omega arith))

-- the code of an entry is that of a sound one if the entry is sound
pub tells-sound : (tables : List Table) (e : Entry) → sound_code (entry_code tables e) ≡ sound_entry tables e
tells-sound tables e =
    by-test (sound_entry tables e)
    (λ h. ap sound_code (sound-code tables e h) ∙ lt-ltb (entry_hash e) unsound_code (hash-within e) ∙ sym h)
    (λ h. ap sound_code (bad-code tables e h) ∙ sym h)

module _ (tables : List Table) (entries : List Entry) where
  -- all codes are of sound entries if all entries are sound
  pub codes-sound : every sound_code (map (entry_code tables) entries) ≡ every (sound_entry tables) entries
  codes-sound =
      every-agree sound_code (sound_entry tables) 0 blank_entry (map (entry_code tables) entries) entries (length-map entries (entry_code tables))
      (λ k l.
      ap sound_code (mapped_at (entry_code tables) entries k blank_entry 0 (omega (arith, length-map entries (entry_code tables))))
      ∙ tells-sound tables (get_or entries k blank_entry))

  -- the codes of sound entries are their hashes
  pub codes-hashes : every (sound_entry tables) entries ≡ true → map (entry_code tables) entries ≡ map entry_hash entries
  codes-hashes h =
      ext_get_or 0 (map (entry_code tables) entries) (map entry_hash entries) (length-map entries (entry_code tables) ∙ sym (length-map entries entry_hash))
      (λ k l.
      let m : k < length entries = omega (arith, length-map entries (entry_code tables)) in
      mapped_at (entry_code tables) entries k blank_entry 0 m
      ∙ sound-code tables (get_or entries k blank_entry) (every-at (sound_entry tables) entries blank_entry k h m)
      ∙ sym (mapped_at entry_hash entries k blank_entry 0 m))
