-- A new record, made.
use Prim.Native.Nat.{ℕ}
use mathlib.Core.Path.{◌≡◌}
use mathlib.Core.List.{List, []}
use lib.ListN.{length, replicate}
use Rattle.lists.specs.Lists.{pad_to}
use Rattle.lists.proofs.Bytes.{pad-nil}
use Rattle.session.specs.declared.Binding.{Binding}
use Rattle.session.specs.declared.Sending.{Sending}
use Rattle.session.specs.declared.Session.{Session}
use Rattle.session.specs.Session.{holding, nothing_sent, no_binding}
use Rattle.opening.specs.New.{new_connection}

pub session-made : (phase closed number : ℕ) (local remote ours theirs : List ℕ) (free : Binding) (sending : Sending) → ours ≡ pad_to 32 local
    → theirs ≡ pad_to 32 remote
    → free ≡ no_binding
    → sending ≡ nothing_sent
    → ◌≡◌ {A = Session}
    (record {
      connection = record {
        phase = phase;
        closed = closed;
        number = number;
        current = 0;
        local_len = length local;
        remote_len = length remote;
        local = ours;
        remote = theirs;
        bindings = replicate 8 free;
      };
      len = 0;
      buffer = replicate 1032 0;
      sending = sending;
    })
    (holding nothing_sent (new_connection phase closed number local remote) [])
unfolding holding new_connection
session-made phase closed number local remote ours theirs free sending e f g h = rw (e, f, g, h, pad-nil 1032)
