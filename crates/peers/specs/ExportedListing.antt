-- The listing of document 01, with the key type of request 1 and the acknowledgement of request 2, through the exported calls, in the numbers
-- that a host has.
use Rattle.std.specs.Prelude.{ℕ, ◌≤◌, ◌≡◌, length}
use mathlib.Core.List.{List, [], ◌∷◌, flatten}
use Rattle.store.specs.Store.{empty_store}
use Rattle.session.specs.declared.Session.{Session}
use Rattle.session.specs.Session.{holding, nothing_sent}
use Rattle.opening.specs.Opening.{answerer, opening_room, «open», opened_of}
use Rattle.streams.specs.Model.{bytes}
use Rattle.streams.specs.Calls.{pieces}
use Rattle.receiver.specs.Model.{reply_room}
use Rattle.worked_cases.specs.Cases.{east, west}
use Rattle.worked_cases.specs.Listing.{listing, listed_result, listed_connection, listed_store}
use Rattle.peers.specs.declared.numbers.RawOpened.{RawOpened}
use Rattle.peers.specs.Numbers.{raw_opened}
use Rattle.peers.specs.ExportedDemand3.{RawCalled, RawChain, RawResponse, raw_responses, raw_replies, raw_last_session, raw_last_store, RawOffersTo, RawOffering}

-- "hello west 7 0", "table 0 7431", "update 0 4294967295 0 new", "update 0 0 0 replaced", "finished", each with its reply line
unfoldable pub listed_numbers : List RawResponse
listed_numbers =
    record { number = 257; values = 7 ∷ 0 ∷ []; reply = 0x32 ∷ 0x30 ∷ 0x30 ∷ 0x0A ∷ [] }
    ∷ record { number = 265; values = 0 ∷ []; reply = [] }
    ∷ record { number = 267; values = 0 ∷ 4294967295 ∷ 0 ∷ 0 ∷ []; reply = 0x0A ∷ 0x84 ∷ 0x05 ∷ 0x01 ∷ 0xFF ∷ 0xFF ∷ 0xFF ∷ 0xFF ∷ [] }
    ∷ record { number = 267; values = 0 ∷ 0 ∷ 0 ∷ 1 ∷ []; reply = 0x0A ∷ 0x84 ∷ 0x05 ∷ 0x01 ∷ 0x00 ∷ 0x00 ∷ 0x00 ∷ 0x00 ∷ [] }
    ∷ record { number = 260; values = []; reply = 0x00 ∷ 0x03 ∷ [] }
    ∷ []

-- what `peers_open_answerer` returns "as answerer `east`, accepting `west`", with room enough
abbrev pub OpenedEast : RawOpened → Type 0
OpenedEast o = (room : List ℕ) × ((opening_room ≤ length room) × (o ≡ raw_opened (opened_of («open» answerer east west (length room)))))

-- what calls that offer the listing's stream give and leave; "end open 0"
pub record RawListingCame (s : Session) (calls : List RawCalled) : Type 0 where
  pub responses : raw_responses calls ≡ listed_numbers
  -- a call that ends no message writes nothing
  pub replies : raw_replies calls ≡ listed_result.replies
  pub session : raw_last_session s calls ≡ holding nothing_sent listed_connection []
  pub store : raw_last_store empty_store calls ≡ listed_store

-- in any division, with any rooms
abbrev pub RawListingByCalls : Type 0
RawListingByCalls =
    (o : RawOpened) (calls : List RawCalled) → OpenedEast o → RawChain o.session empty_store calls → RawOffersTo o.session (bytes listing) calls
    → RawListingCame o.session calls

-- and there are such calls: for every cutting of it into pieces, with any room of at least 12 bytes
abbrev pub RawListingOffered : Type 0
RawListingOffered =
    (o : RawOpened) (cuts : List (List ℕ)) (room : List ℕ) → OpenedEast o → flatten cuts ≡ listing → reply_room ≤ length room
    → RawOffering o.session empty_store (pieces cuts) room
