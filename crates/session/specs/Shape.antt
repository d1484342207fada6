-- The shape of Rattle's values: how many elements each array has, and how large each number can be.
use Rattle.std.specs.Prelude.{ℕ, ◌^◌, ◌<◌, ◌≡◌, length}
use Rattle.handshake.specs.Handshake.{peer_name_max}
use Rattle.store.specs.Limits.{table_places}
use Rattle.store.specs.Shape.{Cells}
use Rattle.session.specs.declared.Binding.{Binding}
use Rattle.session.specs.declared.Connection.{Connection}
use Rattle.session.specs.declared.Sending.{Sending}
use Rattle.session.specs.declared.Session.{Session}
use Rattle.session.specs.Session.{buffer_size, binding_at}

pub record BindingShape (b : Binding) : Type 0 where
  pub bound : b.bound < 2 ^ 32
  pub updated : b.updated < 2 ^ 32
  pub id : b.id < 2 ^ 32
  pub previous : b.previous < 2 ^ 32

pub record ConnectionShape (c : Connection) : Type 0 where
  pub phase : c.phase < 2 ^ 32
  pub closed : c.closed < 2 ^ 32
  pub number : c.number < 2 ^ 32
  pub current : c.current < 2 ^ 32
  pub local_length : c.local_len < 2 ^ 64
  pub remote_length : c.remote_len < 2 ^ 64
  pub local : Cells peer_name_max 8 c.local
  pub remote : Cells peer_name_max 8 c.remote
  pub places : length c.bindings ≡ table_places
  pub binding : (i : ℕ) → i < table_places → BindingShape (binding_at c i)

pub record SendingShape (x : Sending) : Type 0 where
  pub defined : x.defined < 2 ^ 64
  pub sent : x.sent < 2 ^ 32
  pub last : x.last < 2 ^ 32

pub record SessionShape (s : Session) : Type 0 where
  pub connection : ConnectionShape s.connection
  pub len : s.len < 2 ^ 64
  pub buffer : Cells buffer_size 8 s.buffer
  pub sending : SendingShape s.sending
