-- The listing's stream through the exported calls, in any division; and it can be offered in every cutting.
use mathlib.Core.Path.{◌≡◌, refl, sym, ap, ◌∙◌, subst}
use mathlib.Core.Bool.{false, ◌||◌}
use mathlib.Core.List.{List, [], flatten}
use lib.ListN.{length}
use lib.Dec.{eqb}
use Rattle.lists.proofs.Cases.{cond-false}
use Rattle.store.specs.Store.{empty_store}
use Rattle.session.specs.declared.Sending.{Sending}
use Rattle.session.specs.declared.Session.{Session}
use Rattle.session.specs.declared.Answer.{Answer}
use Rattle.session.specs.Answers.{answer_number, answer_values}
use Rattle.session.specs.Session.{is_closed, holding}
use Rattle.opening.specs.Opening.{answerer, opened, opened_of, new_connection}
use Rattle.streams.specs.Model.{bytes}
use Rattle.streams.specs.Calls.{Result}
use Rattle.receiver.specs.Model.{State, held_by}
use Rattle.worked_cases.specs.Cases.{hello, east, west}
use Rattle.worked_cases.specs.Listing.{listing, listed, listed_result, listed_connection, listed_state}
use Rattle.worked_cases.proofs.ListingHolds.{listing-holds}
use Rattle.worked_cases.proofs.ListingByCalls.{opening-accepted, start-sending, listing-cut}
use Rattle.peers.specs.declared.numbers.RawOpened.{RawOpened}
use Rattle.peers.specs.Numbers.{raw_opened}
use Rattle.peers.specs.ExportedDemand3.{RawCalled, RawChain, RawResult, raw_came_to, in_numbers, RawOffersTo}
use Rattle.peers.specs.ExportedCorollaries.{Started}
use Rattle.peers.specs.ExportedListing.{listed_numbers, OpenedEast, RawListingCame, RawListingByCalls, RawListingOffered}
use Rattle.peers.proofs.ExportedCorollaries.{raw-bytes-record}
use Rattle.peers.proofs.FromTheStart.{from-the-empty-store}

abbrev start : Session
start = opened answerer east west

-- ---- the record

start-opened : (o : RawOpened) → OpenedEast o → o.session ≡ start
unfolding raw_opened opened_of
start-opened o h = ap (λ (x : RawOpened). x.session) h.1.1 ∙ opening-accepted h.0 h.1.0

open-start : (eqb (length listing) 0 || is_closed start.connection) ≡ false
unfolding listing hello flatten opened new_connection holding is_closed
open-start = refl

-- ---- what the calls come to

in-numbers : (in_numbers listed_result).responses ≡ listed_numbers
unfolding in_numbers listed_result listed listed_numbers answer_number answer_values
in-numbers = refl

module _ (calls : List RawCalled) (d : Started start empty_store calls) (c : RawChain start empty_store calls) (o : RawOffersTo start (bytes listing) calls) where
  came : raw_came_to start empty_store calls ≡ in_numbers listed_result
  came = d.demand.whole (bytes listing) o ∙ ap in_numbers listing-holds

  listed-by-calls : RawListingCame start calls
  unfolding raw_came_to in_numbers listed_result listed_state held_by
  listed-by-calls = record {
    responses = ap (λ (r : RawResult). r.responses) came ∙ in-numbers;
    replies = ap (λ (r : RawResult). r.replies) came;
    session =
        raw-bytes-record start empty_store listing calls d.sound c o
        ∙ (cond-false (eqb (length listing) 0 || is_closed start.connection) _ _ open-start
        ∙ (ap (λ (r : Result State Answer). holding start.sending r.state.connection r.state.unfinished) listing-holds
        ∙ ap (λ (x : Sending). holding x listed_connection []) start-sending));
    store = ap (λ (r : RawResult). r.state.store) came;
  }

pub raw-listing-by-calls : RawListingByCalls
raw-listing-by-calls o calls h c q =
    subst (λ (s : Session). Started s empty_store calls → RawChain s empty_store calls → RawOffersTo s (bytes listing) calls → RawListingCame s calls)
    (sym (start-opened o h)) (listed-by-calls calls) (from-the-empty-store answerer east west h.0 o empty_store calls h.1.1 refl c) c q

-- ---- and they can be offered in every cutting

pub raw-listing-offered : RawListingOffered
unfolding RawChain
raw-listing-offered o cuts room h e l =
    (from-the-empty-store answerer east west h.0 o empty_store [] h.1.1 refl tt).offered cuts room (listing-cut cuts e) l
