-- Time that passes: of one entry, one time after another, and that a store keeps its shape and stays sound.
use Rattle.std.proofs.Common.{◌≡◌, ℕ, ◌+◌, ◌-◌, ◌<◌, ◌≤◌, true, false, cond, eqb, leb, List, [], ◌∷◌, map, length, get_or, sym, refl, ap, ◌∙◌, subst, ⊎_elim, arith, ne_eqb, le-leb}
use lib.ListN.{length-map, get_or-map}
use borrow.Author.Tests.{lt-leb}
use Rattle.lists.proofs.Cases.{by-test, never, and-false, and-false-second, cond-true, cond-false, lt-or-le}
use Rattle.lists.proofs.Maps.{mapped_at}
use Rattle.store.specs.declared.Table.{Table}
use Rattle.store.specs.declared.Entry.{Entry}
use Rattle.store.specs.declared.Store.{Store}
use Rattle.store.specs.Store.{entry_held, entry_of, entry_keyed, key_of, with_entries, no_entry}
use Rattle.store.specs.Shape.{EntryShape, StoreShape}
use Rattle.store.specs.Sound.{entry_key_length_ok, key_rest_zero, values_ok, same_key, sound_store}
use Rattle.store.specs.Time.{entry_timed, lowered, pass_entry, pass_time, pass_number, pass_store, PassedTwice}
use Rattle.store.proofs.Facts.{EntryFacts, SoundStore, sound-facts, facts-sound}
use Rattle.store.proofs.Counting.{counts-cells}
use Rattle.store.proofs.Kept.{entry_zero}

-- ---- the cases of an entry

module _ (e : ℕ) (x : Entry) where
  pub pass-stays : entry_timed x ≡ false → pass_entry e x ≡ x
  unfolding pass_entry
  pass-stays h = cond-false (entry_timed x) (cond (leb x.remaining e) no_entry (lowered e x)) x h

  pub pass-removes : entry_timed x ≡ true → x.remaining ≤ e → pass_entry e x ≡ no_entry
  unfolding pass_entry
  pass-removes h l =
      cond-true (entry_timed x) (cond (leb x.remaining e) no_entry (lowered e x)) x h
      ∙ cond-true (leb x.remaining e) no_entry (lowered e x) (le-leb x.remaining e l)

  pub pass-lowers : entry_timed x ≡ true → e < x.remaining → pass_entry e x ≡ lowered e x
  unfolding pass_entry
  pass-lowers h l =
      cond-true (entry_timed x) (cond (leb x.remaining e) no_entry (lowered e x)) x h
      ∙ cond-false (leb x.remaining e) no_entry (lowered e x) (lt-leb x.remaining e l)

  -- what holds in each case holds of the entry
  pub passed : (P : Entry → Type 0) → P x → P no_entry → P (lowered e x) → P (pass_entry e x)
  passed P stays removed lower =
      by-test (entry_timed x)
      (λ h.
      ⊎_elim
      (λ l. subst P (sym (pass-lowers h l)) lower)
      (λ l. subst P (sym (pass-removes h l)) removed)
      (lt-or-le e x.remaining))
      (λ h. subst P (sym (pass-stays h)) stays)

-- ---- in the form of the code

module _ (e : ℕ) (x : Entry) where
  pub flag-stays : (x.held ≡ 1 → ⊥) → x ≡ pass_entry e x
  unfolding entry_timed entry_held
  flag-stays f = sym (pass-stays e x (and-false (eqb x.held 1) (eqb x.timed 1) (ne_eqb x.held 1 f)))

-- ---- "Passing a and then b leaves what passing a + b leaves"

pub no-entry-timed : entry_timed no_entry ≡ false
unfolding entry_timed entry_held no_entry
no-entry-timed = refl

pub lowered-timed : (e : ℕ) (x : Entry) → entry_timed (lowered e x) ≡ entry_timed x
unfolding entry_timed entry_held lowered
lowered-timed e x = refl

pub lowered-left : (e : ℕ) (x : Entry) → (lowered e x).remaining ≡ x.remaining - e
unfolding lowered
lowered-left e x = refl

pub lowered-twice : (a b : ℕ) (x : Entry) → lowered b (lowered a x) ≡ lowered (a + b) x
unfolding lowered
lowered-twice a b x = let q : x.remaining - a - b ≡ x.remaining - (a + b) = omega arith in rw q

pub entry-add : (a b : ℕ) (x : Entry) → pass_entry b (pass_entry a x) ≡ pass_entry (a + b) x
entry-add a b x =
    by-test (entry_timed x)
    (λ h.
    ⊎_elim
    (λ l.
    let t = lowered-timed a x ∙ h in
    let z = lowered-left a x in
    ap (pass_entry b) (pass-lowers a x h l)
    ∙ ⊎_elim
    (λ m. pass-lowers b (lowered a x) t (omega arith) ∙ lowered-twice a b x ∙ sym (pass-lowers (a + b) x h m))
    (λ m. pass-removes b (lowered a x) t (omega arith) ∙ sym (pass-removes (a + b) x h m))
    (lt-or-le (a + b) x.remaining))
    (λ l.
    ap (pass_entry b) (pass-removes a x h l) ∙ pass-stays b no_entry no-entry-timed ∙ sym (pass-removes (a + b) x h (omega arith)))
    (lt-or-le a x.remaining))
    (λ h. ap (pass_entry b) (pass-stays a x h) ∙ pass-stays b x h ∙ sym (pass-stays (a + b) x h))

entries-add : (a b : ℕ) (xs : List Entry) → map (pass_entry b) (map (pass_entry a) xs) ≡ map (pass_entry (a + b)) xs
entries-add a b [] = refl
entries-add a b (x ∷ xs) = rw (entry-add a b x, entries-add a b xs)

pub pass-add : (a b : ℕ) (s : Store) → pass_time b (pass_time a s) ≡ pass_time (a + b) s
unfolding pass_time with_entries
pass-add a b s = rw (entries-add a b s.entries)

-- ---- the shape

pub passed-shape : (e : ℕ) (x : Entry) → EntryShape x → EntryShape (pass_entry e x)
passed-shape e x h = passed e x EntryShape h entry_zero (lower h)
  where
    lower : EntryShape x → EntryShape (lowered e x)
    lower h = unfold lowered in record {
      held = h.held;
      server = h.server;
      timed = h.timed;
      remaining = omega (arith, h.remaining);
      table = h.table;
      key_length = h.key_length;
      key = h.key;
      values = h.values;
    }

-- an entry after e milliseconds
pub passed-at : (e : ℕ) (xs : List Entry) (i : ℕ) → i < length xs → get_or (map (pass_entry e) xs) i no_entry ≡ pass_entry e (get_or xs i no_entry)
passed-at e xs i l = mapped_at (pass_entry e) xs i no_entry no_entry l

pub entry-passes : (e : ℕ) (s : Store) (i : ℕ) → get_or (pass_time e s).entries i no_entry ≡ pass_entry e (get_or s.entries i no_entry)
unfolding pass_time with_entries
entry-passes e s i =
    ap (get_or (map (pass_entry e) s.entries) i) (sym (pass-stays e no_entry no-entry-timed)) ∙ get_or-map (pass_entry e) s.entries i no_entry

pub pass_shape : (e : ℕ) (s : Store) → StoreShape s → StoreShape (pass_time e s)
unfolding pass_time with_entries
pass_shape e s h =
    record {
      tables = h.tables;
      counts = counts-cells (map (pass_entry e) s.entries) (omega (arith, length-map s.entries (pass_entry e), h.entries));
      entries = length-map s.entries (pass_entry e) ∙ h.entries;
      table = h.table;
      entry = λ i l.
          subst EntryShape (sym (passed-at e s.entries i (omega (arith, h.entries))))
          (passed-shape e (get_or s.entries i no_entry) (h.entry i l));
    }

pub pass-tables : (e : ℕ) (s : Store) → (pass_time e s).tables ≡ s.tables
unfolding pass_time with_entries
pass-tables e s = refl

-- ---- a sound store stays sound

pub no-entry-held : entry_held no_entry ≡ false
unfolding entry_held no_entry
no-entry-held = refl

no-entry-flag : no_entry.held ≤ 1
unfolding no_entry
no-entry-flag = omega arith

lowered-facts : (tables : List Table) (e : ℕ) (x : Entry) → (entry_held x ≡ true → EntryFacts tables x) → entry_held (lowered e x) ≡ true
    → EntryFacts tables (lowered e x)
unfolding lowered entry_held entry_key_length_ok key_rest_zero values_ok
lowered-facts tables e x f h =
    let r = f h in
    record {
      place = r.place;
      table_held = r.table_held;
      timed = r.timed;
      key_length = r.key_length;
      key_rest = r.key_rest;
      values = r.values;
    }

-- a removed entry has no key in common with another, and one with less time left has the same key
none_first : (y : Entry) → same_key no_entry y ≡ false
unfolding same_key
none_first y = and-false (entry_held no_entry) (entry_keyed no_entry.table (key_of no_entry) y) no-entry-held

none-second : (x : Entry) → same_key x no_entry ≡ false
unfolding same_key entry_keyed entry_of entry_held no_entry
none-second x = and-false-second (entry_held x) _ refl

lowered-first : (e : ℕ) (x y : Entry) → same_key (lowered e x) y ≡ same_key x y
unfolding same_key entry_held key_of lowered
lowered-first e x y = refl

lowered-second : (e : ℕ) (x y : Entry) → same_key x (lowered e y) ≡ same_key x y
unfolding same_key entry_keyed entry_of entry_held key_of lowered
lowered-second e x y = refl

keys-apart : (e : ℕ) (x y : Entry) → same_key x y ≡ false → same_key (pass_entry e x) (pass_entry e y) ≡ false
keys-apart e x y h =
    passed e x (λ (u : Entry). same_key u (pass_entry e y) ≡ false) other (none_first (pass_entry e y)) (lowered-first e x (pass_entry e y) ∙ other)
  where
    other : same_key x (pass_entry e y) ≡ false
    other = passed e y (λ (u : Entry). same_key x u ≡ false) h (none-second x) (lowered-second e x y ∙ h)

lowered-flag : (e : ℕ) (x : Entry) → x.held ≤ 1 → (lowered e x).held ≤ 1
unfolding lowered
lowered-flag e x h = h

pub pass-facts : (e : ℕ) (s : Store) → SoundStore s → SoundStore (pass_time e s)
unfolding pass_time with_entries
pass-facts e s r =
    record {
      table_flag = r.table_flag;
      table = r.table;
      names = r.names;
      entry_flag = λ i l. subst (λ (u : Entry). u.held ≤ 1) (sym (at i l))
          (passed e (old i) (λ (u : Entry). u.held ≤ 1) (r.entry_flag i (within i l)) no-entry-flag (lowered-flag e (old i) (r.entry_flag i (within i l))));
      entry = λ i l. subst (λ (u : Entry). entry_held u ≡ true → EntryFacts s.tables u) (sym (at i l))
          (passed e (old i) (λ (u : Entry). entry_held u ≡ true → EntryFacts s.tables u) (r.entry i (within i l))
          (λ q. never q no-entry-held) (lowered-facts s.tables e (old i) (r.entry i (within i l))));
      keys = λ i j l m.
          rw (at i (omega arith), at j m) (keys-apart e (old i) (old j) (r.keys i j l (within j m)));
      counts = refl;
    }
  where
    old : ℕ → Entry
    old i = get_or s.entries i no_entry

    within : (i : ℕ) → i < length (map (pass_entry e) s.entries) → i < length s.entries
    within i l = omega (arith, length-map s.entries (pass_entry e))

    at : (i : ℕ) → i < length (map (pass_entry e) s.entries) → get_or (map (pass_entry e) s.entries) i no_entry ≡ pass_entry e (old i)
    at i l = passed-at e s.entries i (within i l)

pub pass-sound : (e : ℕ) (s : Store) → sound_store s ≡ true → sound_store (pass_time e s) ≡ true
pass-sound e s h = facts-sound (pass_time e s) (pass-facts e s (sound-facts s h))

-- ---- the call

-- on a sound store time passes, and 0 is returned; an unsound one stays, and 4 is returned
pub store-passes : (e : ℕ) (t : Store) → sound_store t ≡ true → pass_store e t ≡ pass_time e t
unfolding pass_store
store-passes e t h = cond-true (sound_store t) (pass_time e t) t h

pub store-stays : (e : ℕ) (t : Store) → sound_store t ≡ false → pass_store e t ≡ t
unfolding pass_store
store-stays e t h = cond-false (sound_store t) (pass_time e t) t h

pub number-sound : (t : Store) → sound_store t ≡ true → pass_number t ≡ 0
unfolding pass_number
number-sound t h = cond-true (sound_store t) 0 4 h

pub number-unsound : (t : Store) → sound_store t ≡ false → pass_number t ≡ 4
unfolding pass_number
number-unsound t h = cond-false (sound_store t) 0 4 h

-- a call leaves the store as sound as it was
pub passed-sound : (e : ℕ) (t : Store) → sound_store (pass_store e t) ≡ sound_store t
passed-sound e t =
    by-test (sound_store t)
    (λ h. ap sound_store (store-passes e t h) ∙ pass-sound e t h ∙ sym h)
    (λ h. ap sound_store (store-stays e t h))

pub passed-twice : PassedTwice
passed-twice t first second both p q r e =
    let a = first.milliseconds in
    let b = second.milliseconds in
    let n : pass_number first.store ≡ pass_number t = unfold pass_number in rw (p.store, passed-sound a t) in
    (q.store ∙ ap (pass_store b) p.store ∙ stores a b ∙ sym (r.store ∙ ap (λ (k : ℕ). pass_store k t) e), q.number ∙ n ∙ sym r.number)
  where
    stores : (a b : ℕ) → pass_store b (pass_store a t) ≡ pass_store (a + b) t
    stores a b =
        by-test (sound_store t)
        (λ h.
        ap (pass_store b) (store-passes a t h)
        ∙ store-passes b (pass_time a t) (pass-sound a t h)
        ∙ pass-add a b t
        ∙ sym (store-passes (a + b) t h))
        (λ h. ap (pass_store b) (store-stays a t h) ∙ store-stays b t h ∙ sym (store-stays (a + b) t h))
