-- Soundness of a record with a store: document 01's "Not sound means", as far as it concerns the session record. Each kind of fault is a
-- test of its own.
use Rattle.std.specs.Prelude.{ℕ, ◌-◌, List, [], ◌∷◌, ◌++◌, map, Bool, true, false, cond, not, ◌&&◌, ◌||◌, take, get_or, ltb, leb, eqb}
use Rattle.lists.specs.Lists.{all_of, every, distinct, is_zero}
use Rattle.store.specs.declared.Table.{Table}
use Rattle.store.specs.declared.Store.{Store}
use Rattle.store.specs.Limits.{table_places}
use Rattle.store.specs.Store.{table_held, no_table}
use Rattle.store.specs.Sound.{sound_store}
use Rattle.handshake.specs.declared.Hello.{Hello}
use Rattle.handshake.specs.declared.Hello.TheVariants as hello
use Rattle.handshake.specs.declared.Status.{Status}
use Rattle.handshake.specs.declared.Status.TheVariants as status
use Rattle.handshake.specs.Handshake.{name_ok, peer_name_max, judge_hello, judge_status}
use Rattle.frame.specs.declared.Frame.{Frame}
use Rattle.frame.specs.declared.Frame.TheVariants as frame
use Rattle.frame.specs.Frame.{judge_frame}
use Rattle.session.specs.declared.Binding.{Binding}
use Rattle.session.specs.declared.Connection.{Connection}
use Rattle.session.specs.declared.Sending.{Sending}
use Rattle.session.specs.declared.Session.{Session}
use Rattle.session.specs.Session.{unfinished, unfinished_max, is_closed, local_name, remote_name, is_bound, is_updated, bound_to, binding_at, awaiting_hello, awaiting_status, established}

-- ---- "a count, length, place, field or value outside the limits here"

unfoldable pub phase_ok : Connection → Bool
phase_ok c = leb c.phase established

unfoldable pub closed_ok : Connection → Bool
closed_ok c = leb c.closed 1

-- "1 and 3 in opening return a closed record with that number"
unfoldable pub refuses_opening : ℕ → Bool
refuses_opening n = eqb n 1 || eqb n 3

-- the numbers that close a session: 0 for a peer's error, 1 and 3 in opening, and from 10 up those of the table of refusals and request 8's 30
unfoldable pub is_closing : ℕ → Bool
is_closing n = eqb n 0 || (refuses_opening n || ((leb 10 n && leb n 15) || (leb 20 n && leb n 30)))

-- an open record has the number 0
unfoldable pub number_ok : Connection → Bool
number_ok c = cond (is_closed c) (is_closing c.number) (eqb c.number 0)

-- how many bytes of a name's array are the name: the whole array, where the length is past it
unfoldable pub name_length : ℕ → ℕ
name_length n = cond (ltb peer_name_max n) peer_name_max n

-- a name's length is within its array, and the name as opening asks
unfoldable pub name_within : ℕ → List ℕ → Bool
name_within n bytes = leb n peer_name_max && name_ok (take n bytes)

-- "with our name and the one accepted peer's name, each 1 to 32 bytes from 33 to 126"
unfoldable pub names_ok : Connection → Bool
names_ok c = name_within c.local_len c.local && name_within c.remote_len c.remote

-- the flags of a binding are 0 or 1
unfoldable pub flags_ok : Binding → Bool
flags_ok b = leb b.bound 1 && leb b.updated 1

-- ---- "an entry, bound ID, previous ID or current mark whose table isn't held"

-- neither a bound ID nor a previous ID
unfoldable pub no_ids : Binding → Bool
no_ids b = not (is_bound b) && not (is_updated b)

-- bound IDs and previous IDs stand at places of held tables alone
unfoldable pub free_places_ok : List Table → List Binding → Bool
free_places_ok ts [] = true
free_places_ok [] (b ∷ bs) = no_ids b && free_places_ok [] bs
free_places_ok (t ∷ ts) (b ∷ bs) = (table_held t || no_ids b) && free_places_ok ts bs

-- "two tables with .. one bound ID"
unfoldable pub same_id : Binding → Binding → Bool
same_id a b = is_bound a && bound_to a.id b

abbrev pub other_id : Binding → Binding → Bool
other_id a b = not (same_id a b)

-- there is no current table, or it is held and has an ID: "or current mark whose table isn't held, or a current table without an ID"
unfoldable pub current_ok : List Table → Connection → Bool
current_ok tables c =
    eqb c.current 0
    || (leb c.current table_places && (table_held (get_or tables (c.current - 1) no_table) && is_bound (binding_at c (c.current - 1))))

-- ---- request 3: the sending state

-- "A record whose table defined last isn't held is not sound.": there is none, or its place is one of 8 and held
unfoldable pub defined_ok : List Table → Sending → Bool
defined_ok tables x = eqb x.defined 0 || (leb x.defined table_places && table_held (get_or tables (x.defined - 1) no_table))

-- the mark of a last ID is 0 or 1; a last ID without a table defined last is sound
unfoldable pub sending_ok : List Table → Sending → Bool
sending_ok tables x = leb x.sent 1 && defined_ok tables x

-- ---- "unfinished bytes of which any first part, or all, already ends a message or shows a refusal, or in a closed record"

-- what was judged ends nothing and shows no refusal
abbrev pub hello_waits : Hello → Bool
hello_waits hello.Waiting = true
hello_waits (hello.Accepted process relative) = false
hello_waits (hello.Refused n) = false

abbrev pub status_waits : Status → Bool
status_waits status.Waiting = true
status_waits status.Accepted = false
status_waits (status.Refused n) = false

abbrev pub frame_waits : Frame → Bool
frame_waits frame.Waiting = true
frame_waits (frame.Control type) = false
frame_waits (frame.Error type) = false
frame_waits (frame.Body kind start end) = false
frame_waits (frame.Refused n) = false

-- the bytes end nothing and show no refusal: they are a hello's, a status's or a message's by the phase
unfoldable pub waits : Connection → List ℕ → Bool
waits c u =
    cond (eqb c.phase awaiting_hello) (hello_waits (judge_hello (local_name c) (remote_name c) u))
    (cond (eqb c.phase awaiting_status) (status_waits (judge_status u)) (frame_waits (judge_frame u)))

-- the first parts of a list, the empty one and all of it included
unfoldable pub first_parts : List ℕ → List (List ℕ)
first_parts [] = [] ∷ []
first_parts (b ∷ u) = [] ∷ map (λ v. b ∷ v) (first_parts u)

unfoldable pub unfinished_ok : Session → Bool
unfinished_ok s =
    leb s.len unfinished_max
    && cond (is_closed s.connection) (eqb s.len 0) (every (waits s.connection) (first_parts (unfinished s)))

-- ---- the record

abbrev pub field_tests : Connection → List Bool
field_tests c = phase_ok c ∷ closed_ok c ∷ number_ok c ∷ names_ok c ∷ []

abbrev pub binding_tests : List Table → Connection → List Bool
binding_tests tables c =
    every flags_ok c.bindings ∷ free_places_ok tables c.bindings ∷ distinct same_id c.bindings ∷ current_ok tables c ∷ []

unfoldable pub sound_connection : List Table → Connection → Bool
sound_connection tables c = all_of (field_tests c ++ binding_tests tables c)

-- ---- "1 and 3 in opening return a closed record with that number, all else empty or zero, which counts as sound"

abbrev pub binding_zeros : Binding → List Bool
binding_zeros b = is_zero b.bound ∷ is_zero b.updated ∷ is_zero b.id ∷ is_zero b.previous ∷ []

unfoldable pub empty_binding : Binding → Bool
empty_binding b = all_of (binding_zeros b)

abbrev pub name_zeros : Connection → List Bool
name_zeros c = is_zero c.local_len ∷ is_zero c.remote_len ∷ every is_zero c.local ∷ every is_zero c.remote ∷ []

abbrev pub connection_zeros : Connection → List Bool
connection_zeros c = is_zero c.phase ∷ is_zero c.current ∷ all_of (name_zeros c) ∷ every empty_binding c.bindings ∷ []

unfoldable pub empty_buffer : Session → Bool
empty_buffer s = is_zero s.len && every is_zero s.buffer

-- neither a table defined last nor a last ID
unfoldable pub sent_nothing : Sending → Bool
sent_nothing x = is_zero x.defined && (is_zero x.sent && is_zero x.last)

abbrev pub refused_opening_tests : Session → List Bool
refused_opening_tests s =
    eqb s.connection.closed 1
    ∷ refuses_opening s.connection.number
    ∷ sent_nothing s.sending
    ∷ empty_buffer s
    ∷ all_of (connection_zeros s.connection)
    ∷ []

unfoldable pub is_refused_opening : Session → Bool
is_refused_opening s = all_of (refused_opening_tests s)

-- ---- record and store

unfoldable pub sound_session : List Table → Session → Bool
sound_session tables s =
    is_refused_opening s || (sound_connection tables s.connection && (unfinished_ok s && sending_ok tables s.sending))

-- record and store together
unfoldable pub sound : Session → Store → Bool
sound s t = sound_store t && sound_session t.tables s
