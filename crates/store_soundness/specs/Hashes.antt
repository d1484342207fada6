-- A hash for each entry, by which most keys are told apart without a look at them. No rule of document 01 speaks of it.
use Rattle.std.specs.Prelude.{ℕ, zero, suc, ◌+◌, ◌*◌, ◌-◌, ◌/◌, ◌%◌, ◌^◌, List, [], ◌∷◌, Bool, cond, not, ◌&&◌, eqb, ltb, length, get_or, drop}
use Rattle.store.specs.declared.Entry.{Entry}
use Rattle.store.specs.Store.{entry_held, key_of}

-- hashes of held entries are below this prime
abbrev pub hash_end : ℕ
hash_end = 2 ^ 31 - 1

-- a number more of a key
abbrev pub mixed : ℕ → ℕ → ℕ
mixed h n = (h * 65599 + n) % hash_end

-- the first four bytes as a number
abbrev pub word_of : List ℕ → ℕ
word_of bs = get_or bs 0 0 + 256 * get_or bs 1 0 + 65536 * get_or bs 2 0 + 16777216 * get_or bs 3 0

-- after k words of four bytes
unfoldable pub hash_words : ℕ → ℕ → List ℕ → ℕ
hash_words zero h bs = h
hash_words (suc k) h bs = hash_words k (mixed h (word_of bs)) (drop 4 bs)

-- after single bytes
unfoldable pub hash_bytes : ℕ → List ℕ → ℕ
hash_bytes h [] = h
hash_bytes h (b ∷ bs) = hash_bytes (mixed h b) bs

-- after a key: its words, then the bytes that are left
unfoldable pub hash_key : ℕ → List ℕ → ℕ
hash_key h bs = hash_bytes (hash_words (length bs / 4) h bs) (drop (4 * (length bs / 4)) bs)

-- held entries of one table and key have one hash; a free place has the hash of no key
unfoldable pub entry_hash : Entry → ℕ
entry_hash e = cond (entry_held e) (hash_key (e.table % hash_end) (key_of e)) hash_end

-- the hashes of two held entries are equal
unfoldable pub same_hash : ℕ → ℕ → Bool
same_hash a b = ltb a hash_end && eqb a b

abbrev pub other_hash : ℕ → ℕ → Bool
other_hash a b = not (eqb b a)
