-- What the types of the code say of a binding, a connection, the sending state, and a session.
use mathlib.Core.List.{List}
use lib.ListN.{get_or}
use mir.Val.{Val, Fits}
use mir.Syntax.{w8}
use borrow.Author.Rules.{rules}
use denote.Laws.{Is}
use denote.Struct.Declared.{row}
use Rattle.lists.proofs.Elements.{each-element}
use Rattle.session.specs.declared.Binding.{Binding}
use Rattle.session.specs.declared.Connection.{Connection}
use Rattle.session.specs.declared.Sending.{Sending}
use Rattle.session.specs.declared.Session.{Session}
use Rattle.session.specs.Session.{binding_at, no_binding}
use Rattle.session.specs.Shape.{BindingShape, ConnectionShape, SendingShape, SessionShape}
use Rattle.lists.proofs.Maps.{length-mapped}
use Rattle.session.specs.contracts.Binding as binding-type
use Rattle.session.specs.contracts.Connection as connection-type
use Rattle.session.specs.contracts.Sending as sending-type
use Rattle.session.specs.contracts.Session as session-type

pub binding-shape : (b : Binding) (vs : List Val) → Is (row binding-type.the_type) b vs → BindingShape b
binding-shape b vs p = record { bound = search rules; updated = search rules; id = search rules; previous = search rules }

pub connection-shape : (c : Connection) (vs : List Val) → Is (row connection-type.the_type) c vs → ConnectionShape c
unfolding binding_at
connection-shape c vs p =
    record {
      phase = search rules;
      closed = search rules;
      number = search rules;
      current = search rules;
      local_length = search rules;
      remote_length = search rules;
      local = record { size = search rules; small = λ i. let f : Fits w8 (get_or c.local i 0) = search rules in f.fits };
      remote = record { size = search rules; small = λ i. let f : Fits w8 (get_or c.remote i 0) = search rules in f.fits };
      places = search (rules, length-mapped);
      binding =
          each-element (row binding-type.the_type) BindingShape binding-shape 8 c.bindings _ p.1.1.1.1.1.1.1.1.1.1.0 no_binding;
    }

pub sending-shape : (x : Sending) (vs : List Val) → Is (row sending-type.the_type) x vs → SendingShape x
sending-shape x vs p = record { defined = search rules; sent = search rules; last = search rules }

pub session-shape : (s : Session) (vs : List Val) → Is (row session-type.the_type) s vs → SessionShape s
session-shape s vs p =
    record {
      connection = search (rules, connection-shape);
      len = search rules;
      buffer = record { size = search rules; small = λ i. let f : Fits w8 (get_or s.buffer i 0) = search rules in f.fits };
      sending = search (rules, sending-shape);
    }
