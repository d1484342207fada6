-- The session record: what it says, and how a refusal or an accepted handshake changes it.
use Rattle.std.specs.Prelude.{ℕ, ◌+◌, min, List, [], ◌∷◌, Bool, cond, ◌&&◌, length, take, get_or, set, eqb, ltb, Option}
use Rattle.lists.specs.Lists.{pad_to, first_place}
use Rattle.store.specs.Limits.{table_places}
use Rattle.session.specs.declared.Binding.{Binding}
use Rattle.session.specs.declared.Connection.{Connection}
use Rattle.session.specs.declared.Sending.{Sending}
use Rattle.session.specs.declared.Session.{Session}

-- ---- what a record says

-- at most 1,027 bytes are unfinished: two of a header, two of a length and 1,023 of a body
abbrev pub unfinished_max : ℕ
unfinished_max = 1027

-- the bytes of a record's buffer: those past the limit are never unfinished; with them the record has no padding
abbrev pub buffer_size : ℕ
buffer_size = 1032

-- the first `len` bytes of the buffer; no more than the limit, where the length is past it
unfoldable pub unfinished : Session → List ℕ
unfinished s = take (min s.len unfinished_max) s.buffer

unfoldable pub is_closed : Connection → Bool
is_closed c = eqb c.closed 1

unfoldable pub local_name : Connection → List ℕ
local_name c = take c.local_len c.local

unfoldable pub remote_name : Connection → List ℕ
remote_name c = take c.remote_len c.remote

-- a place without ID and previous ID
unfoldable pub no_binding : Binding
no_binding = record { bound = 0; updated = 0; id = 0; previous = 0 }

unfoldable pub binding_at : Connection → ℕ → Binding
binding_at c place = get_or c.bindings place no_binding

unfoldable pub is_bound : Binding → Bool
is_bound b = eqb b.bound 1

unfoldable pub is_updated : Binding → Bool
is_updated b = eqb b.updated 1

unfoldable pub bound_to : ℕ → Binding → Bool
bound_to id b = is_bound b && eqb b.id id

-- "the table bound to it"
unfoldable pub find_bound : Connection → ℕ → Option ℕ
find_bound c id = first_place (bound_to id) c.bindings

-- ---- request 3: the sending state

-- no table was defined, and no entry sent
unfoldable pub nothing_sent : Sending
nothing_sent = record { defined = 0; sent = 0; last = 0 }

-- "all of the record that reading uses, as it was": another `sending`, and all else stays
unfoldable pub with_sending : Session → Sending → Session
with_sending s x = record { connection = s.connection; len = s.len; buffer = s.buffer; sending = x }

-- ---- a record with given unfinished bytes: zeros stand behind them

unfoldable pub holding : Sending → Connection → List ℕ → Session
holding x c u = record { connection = c; len = length u; buffer = pad_to buffer_size u; sending = x }

-- ---- changes of a record

abbrev pub awaiting_hello : ℕ
awaiting_hello = 0

abbrev pub awaiting_status : ℕ
awaiting_status = 1

abbrev pub established : ℕ
established = 2

-- another phase, and open or closed with a number; all else stays
abbrev pub with_state : Connection → ℕ → ℕ → ℕ → Connection
with_state c phase closed number = record {
  phase = phase;
  closed = closed;
  number = number;
  current = c.current;
  local_len = c.local_len;
  remote_len = c.remote_len;
  local = c.local;
  remote = c.remote;
  bindings = c.bindings;
}

-- "the record is closed with that number", and all else stays
unfoldable pub closed_with : Connection → ℕ → Connection
closed_with c n = with_state c c.phase 1 n

-- an accepted hello or status: the handshake is done, and all else stays
unfoldable pub establish : Connection → Connection
establish c = with_state c established c.closed c.number

-- another current table and other bindings, and all else stays
unfoldable pub with_tables : Connection → ℕ → List Binding → Connection
with_tables c current bindings = record {
  phase = c.phase;
  closed = c.closed;
  number = c.number;
  current = current;
  local_len = c.local_len;
  remote_len = c.remote_len;
  local = c.local;
  remote = c.remote;
  bindings = bindings;
}

-- what `current` holds for the table at a place: its place plus 1, and 0 past the last place
unfoldable pub current_of : ℕ → ℕ
current_of place = cond (ltb place table_places) (place + 1) 0

-- "this table becomes current"
unfoldable pub make_current : Connection → ℕ → Connection
make_current c place = with_tables c (current_of place) c.bindings

-- the place without its ID; its previous ID stays
unfoldable pub unbind : Binding → Binding
unbind b = record { bound = 0; updated = b.updated; id = 0; previous = b.previous }

unfoldable pub bind_to : ℕ → Binding → Binding
bind_to id b = record { bound = 1; updated = b.updated; id = id; previous = b.previous }

-- "The ID is then this table's only one, another table that had it loses it": what stands at place i then
unfoldable pub rebind : ℕ → ℕ → ℕ → Binding → Binding
rebind i place id b = cond (eqb i place) (bind_to id b) (cond (bound_to id b) (unbind b) b)

-- at each place, the list's first having place i
unfoldable pub rebind_from : ℕ → ℕ → ℕ → List Binding → List Binding
rebind_from i place id [] = []
rebind_from i place id (b ∷ bs) = rebind i place id b ∷ rebind_from (i + 1) place id bs

-- ".. and this table becomes current."
unfoldable pub bind : Connection → ℕ → ℕ → Connection
bind c place id = with_tables c (current_of place) (rebind_from 0 place id c.bindings)

-- "its last committed update ID"
unfoldable pub commit_to : ℕ → Binding → Binding
commit_to update b = record { bound = b.bound; updated = 1; id = b.id; previous = update }

unfoldable pub committed : Connection → ℕ → ℕ → Connection
committed c place update = with_tables c c.current (set c.bindings place (commit_to update (binding_at c place)))
