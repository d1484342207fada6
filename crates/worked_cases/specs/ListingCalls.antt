-- The listing's stream, offered by calls.
use Rattle.std.specs.Prelude.{ℕ, ◌≤◌, ◌≡◌, length}
use mathlib.Core.List.{List, [], flatten}
use Rattle.store.specs.Store.{empty_store}
use Rattle.session.specs.Session.{holding, nothing_sent}
use Rattle.opening.specs.Opening.{answerer, opened}
use Rattle.receiver.specs.Model.{reply_room}
use Rattle.streams.specs.Model.{bytes}
use Rattle.streams.specs.Calls.{pieces}
use Rattle.receiver.specs.Demand3.{Called, Chain, OffersTo, came_to, last_session, last_store, Offering}
use Rattle.worked_cases.specs.Cases.{east, west}
use Rattle.worked_cases.specs.Listing.{listing, listed_result, listed_connection, listed_store}

-- calls that offer the listing's stream, in any division, give its answers and replies and leave its store and record
pub record ListingCame (calls : List Called) : Type 0 where
  pub came : came_to (opened answerer east west) empty_store calls ≡ listed_result
  pub session : last_session (opened answerer east west) calls ≡ holding nothing_sent listed_connection []
  pub store : last_store empty_store calls ≡ listed_store

abbrev pub ListingByCalls : Type 0
ListingByCalls =
    (calls : List Called) → Chain (opened answerer east west) empty_store calls → OffersTo (opened answerer east west) (bytes listing) calls → ListingCame calls

-- and there are such calls: for every cutting of it into pieces, with any room of at least 12 bytes
abbrev pub ListingOffered : Type 0
ListingOffered =
    (cuts : List (List ℕ)) (room : List ℕ) → flatten cuts ≡ listing → reply_room ≤ length room → Offering (opened answerer east west) empty_store (pieces cuts) room
