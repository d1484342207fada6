-- The listing's stream of document 01, with the key type of request 1 and the acknowledgement's number of request 2, and its answers, replies and end state.
use Rattle.std.specs.Prelude.{ℕ, List, [], ◌∷◌, ◌++◌, replicate, pos}
use Rattle.store.specs.declared.Table.{Table}
use Rattle.store.specs.declared.Entry.{Entry}
use Rattle.store.specs.declared.Store.{Store}
use Rattle.session.specs.declared.Connection.{Connection}
use Rattle.session.specs.declared.Commit.TheVariants as commit
use Rattle.session.specs.declared.Answer.{Answer}
use Rattle.session.specs.declared.Answer.TheVariants as answer
use Rattle.streams.specs.Calls.{Response, Result}
use Rattle.receiver.specs.Model.{State}
use Rattle.worked_cases.specs.Cases.{hello}

unfoldable pub listing : List ℕ
listing =
    hello
    ++ (0x0A ∷ 0x82 ∷ 0x0A ∷ 0x01 ∷ 0x02 ∷ 0x74 ∷ 0x31 ∷ 0x02 ∷ 0x04 ∷ 0x04 ∷ 0xF0 ∷ 0x97 ∷ 0x1C
    ∷ 0x0A ∷ 0x80 ∷ 0x0B ∷ 0xFF ∷ 0xFF ∷ 0xFF ∷ 0xFF ∷ 0x00 ∷ 0x00 ∷ 0x00 ∷ 0x2A ∷ 0xF4 ∷ 0x94 ∷ 0x01
    ∷ 0x0A ∷ 0x81 ∷ 0x05 ∷ 0x00 ∷ 0x00 ∷ 0x00 ∷ 0x2A ∷ 0x05
    ∷ 0x00 ∷ 0x01 ∷ [])

-- "hello west 7 0", "table 0 7431", "update 0 4294967295 0 new", "update 0 0 0 replaced", "finished", each with its reply line
unfoldable pub listed : List (Response Answer)
listed =
    record { answer = answer.Hello 7 0; reply = 0x32 ∷ 0x30 ∷ 0x30 ∷ 0x0A ∷ [] }
    ∷ record { answer = answer.Table 0; reply = [] }
    ∷ record { answer = answer.Update 0 4294967295 0 commit.New; reply = 0x0A ∷ 0x84 ∷ 0x05 ∷ 0x01 ∷ 0xFF ∷ 0xFF ∷ 0xFF ∷ 0xFF ∷ [] }
    ∷ record { answer = answer.Update 0 0 0 commit.Replaced; reply = 0x0A ∷ 0x84 ∷ 0x05 ∷ 0x01 ∷ 0x00 ∷ 0x00 ∷ 0x00 ∷ 0x00 ∷ [] }
    ∷ record { answer = answer.Finished; reply = 0x00 ∷ 0x03 ∷ [] }
    ∷ []

-- one table, `t1`: key type 2, key length 4, data types 4 (the bit of type 2), expiry 60000; the other places are free
unfoldable pub listed_tables : List Table
listed_tables =
    record {
      held = 1;
      key_type = 2;
      timed = 1;
      data_types = 4;
      name_len = 2;
      key_len = 4;
      expiry = 60000;
      periods = replicate 8 0;
      name = 0x74 ∷ 0x31 ∷ replicate 30 0;
    }
    ∷ replicate 7
    (record {
      held = 0;
      key_type = 0;
      timed = 0;
      data_types = 0;
      name_len = 0;
      key_len = 0;
      expiry = 0;
      periods = replicate 8 0;
      name = replicate 32 0;
    })

-- one entry, whose value of data type 2 is 5, with the table's expiry as its remaining time; the other places are free
unfoldable pub listed_entries : List Entry
listed_entries =
    record {
      held = 1;
      server_id = pos 0;
      timed = 1;
      remaining = 60000;
      table = 0;
      key_len = 4;
      key = 0x00 ∷ 0x00 ∷ 0x00 ∷ 0x2A ∷ replicate 60 0;
      values = 0 ∷ 5 ∷ replicate 32 0;
    }
    ∷ replicate 127
    (record {
      held = 0;
      server_id = pos 0;
      timed = 0;
      remaining = 0;
      table = 0;
      key_len = 0;
      key = replicate 64 0;
      values = replicate 34 0;
    })

unfoldable pub listed_store : Store
listed_store = record { tables = listed_tables; counts = 1 ∷ 0 ∷ 0 ∷ 0 ∷ 0 ∷ 0 ∷ 0 ∷ 0 ∷ []; entries = listed_entries }

-- the handshake is done; the table at place 0 is current, bound to ID 1, and its last update has ID 0
unfoldable pub listed_connection : Connection
listed_connection = record {
  phase = 2;
  closed = 0;
  number = 0;
  current = 1;
  local_len = 4;
  remote_len = 4;
  local = 0x65 ∷ 0x61 ∷ 0x73 ∷ 0x74 ∷ replicate 28 0;
  remote = 0x77 ∷ 0x65 ∷ 0x73 ∷ 0x74 ∷ replicate 28 0;
  bindings = record { bound = 1; updated = 1; id = 1; previous = 0 } ∷ replicate 7 (record { bound = 0; updated = 0; id = 0; previous = 0 });
}

-- "end open 0"
unfoldable pub listed_state : State
listed_state = record { connection = listed_connection; unfinished = []; store = listed_store }

-- all that the stream comes to
unfoldable pub listed_result : Result State Answer
listed_result = record {
  responses = listed;
  replies =
      0x32 ∷ 0x30 ∷ 0x30 ∷ 0x0A
      ∷ 0x0A ∷ 0x84 ∷ 0x05 ∷ 0x01 ∷ 0xFF ∷ 0xFF ∷ 0xFF ∷ 0xFF
      ∷ 0x0A ∷ 0x84 ∷ 0x05 ∷ 0x01 ∷ 0x00 ∷ 0x00 ∷ 0x00 ∷ 0x00
      ∷ 0x00 ∷ 0x03 ∷ [];
  state = listed_state;
}
