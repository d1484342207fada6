-- The tests of a record at worked examples.
use Rattle.std.specs.Prelude.{◌≡◌, refl, true, false, ℕ, [], ◌∷◌, map}
use Rattle.lists.specs.Lists.{every, distinct}
use Rattle.store.specs.declared.Table.{Table}
use Rattle.store.specs.Store.{table_held, no_table}
use Rattle.session.specs.declared.Binding.{Binding}
use Rattle.session.specs.declared.Sending.{Sending}
use Rattle.session.specs.Session.{is_bound, is_updated, bound_to, no_binding, nothing_sent}
use Rattle.session_soundness.specs.Sound.{refuses_opening, is_closing, flags_ok, no_ids, free_places_ok, same_id, defined_ok, sending_ok, sent_nothing, first_parts}

-- which numbers close a session
closing : map is_closing (0 ∷ 1 ∷ 2 ∷ 3 ∷ 4 ∷ 9 ∷ 10 ∷ 15 ∷ 16 ∷ 19 ∷ 20 ∷ 29 ∷ 30 ∷ 31 ∷ [])
    ≡ true ∷ true ∷ false ∷ true ∷ false ∷ false ∷ true ∷ true ∷ false ∷ false ∷ true ∷ true ∷ true ∷ false ∷ []
unfolding is_closing refuses_opening
closing = refl

-- a table with ID 7, and one with a previous ID alone
abbrev with_id : Binding
with_id = record { bound = 1; updated = 0; id = 7; previous = 0 }

abbrev with_previous : Binding
with_previous = record { bound = 0; updated = 1; id = 0; previous = 4 }

abbrev held : Table
held = record {
  held = 1;
  key_type = 2;
  timed = 0;
  data_types = 4;
  name_len = 2;
  key_len = 4;
  expiry = 0;
  periods = [];
  name = 116 ∷ 49 ∷ [];
}

-- at a held table, at a free place and past the last place
places : free_places_ok (held ∷ []) (with_id ∷ [])
    ∷ free_places_ok (no_table ∷ []) (with_id ∷ [])
    ∷ free_places_ok (no_table ∷ []) (with_previous ∷ [])
    ∷ free_places_ok [] (with_previous ∷ [])
    ∷ free_places_ok (no_table ∷ []) (no_binding ∷ [])
    ∷ []
    ≡ true ∷ false ∷ false ∷ false ∷ true ∷ []
unfolding free_places_ok no_ids table_held no_table is_bound is_updated no_binding
places = refl

-- one ID at two tables; places without ID don't count
ids : distinct same_id (with_id ∷ no_binding ∷ with_id ∷ []) ∷ distinct same_id (with_id ∷ no_binding ∷ no_binding ∷ []) ∷ [] ≡ false ∷ true ∷ []
unfolding distinct every same_id bound_to is_bound no_binding
ids = refl

flag-values : every flags_ok (record { bound = 2; updated = 0; id = 0; previous = 0 } ∷ []) ≡ false
unfolding every flags_ok
flag-values = refl

-- the sending state, at a store with a table at place 0 alone: nothing; that table defined last, and an entry sent since; the free place 1; place 8;
-- the mark 2; a last ID without a table defined last
abbrev known : ℕ → ℕ → ℕ → Sending
known defined sent last = record { defined = defined; sent = sent; last = last }

sendings : map (sending_ok (held ∷ no_table ∷ [])) (nothing_sent ∷ known 1 1 9 ∷ known 2 0 0 ∷ known 9 0 0 ∷ known 1 2 0 ∷ known 0 1 9 ∷ [])
    ≡ true ∷ true ∷ false ∷ false ∷ false ∷ true ∷ []
unfolding sending_ok defined_ok table_held no_table nothing_sent
sendings = refl

-- which of them a refused opening's record may have
none-sent : map sent_nothing (nothing_sent ∷ known 1 0 0 ∷ known 0 1 0 ∷ known 0 0 9 ∷ []) ≡ true ∷ false ∷ false ∷ false ∷ []
unfolding sent_nothing nothing_sent
none-sent = refl

parts : first_parts (1 ∷ 2 ∷ []) ≡ [] ∷ (1 ∷ []) ∷ (1 ∷ 2 ∷ []) ∷ []
unfolding first_parts
parts = refl
