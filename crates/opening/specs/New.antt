-- A connection that starts.
use Rattle.std.specs.Prelude.{ℕ, List, length, replicate}
use Rattle.lists.specs.Lists.{pad_to}
use Rattle.store.specs.Limits.{table_places}
use Rattle.handshake.specs.Handshake.{peer_name_max}
use Rattle.session.specs.declared.Connection.{Connection}
use Rattle.session.specs.Session.{no_binding}

-- a connection with these names: nothing bound, no current table
unfoldable pub new_connection : (phase closed number : ℕ) (local remote : List ℕ) → Connection
new_connection phase closed number local remote = record {
  phase = phase;
  closed = closed;
  number = number;
  current = 0;
  local_len = length local;
  remote_len = length remote;
  local = pad_to peer_name_max local;
  remote = pad_to peer_name_max remote;
  bindings = replicate table_places no_binding;
}
