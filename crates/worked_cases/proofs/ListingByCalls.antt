-- The listing's stream, in any division, gives the listing; and it can be offered in every cutting.
use Prim.Native.Nat.{ℕ, ◌≤◌}
use mathlib.Core.Path.{◌≡◌, refl, sym, ap, ◌∙◌}
use mathlib.Core.Bool.{true, false, ◌||◌}
use mathlib.Core.List.{List, [], ◌∷◌, flatten}
use lib.ListN.{length}
use lib.Dec.{eqb}
use borrow.Author.Tests.{le-ltb}
use Rattle.lists.specs.Lists.{every}
use Rattle.lists.proofs.Cases.{cond-false, and_first, and_second, and_intro}
use Rattle.lists.proofs.Every.{every-nil, every-cons, every_append}
use Rattle.store.specs.Store.{empty_store}
use Rattle.store.proofs.Ruled.{empty-sound}
use Rattle.store.proofs.Kept.{empty-shape}
use Rattle.handshake.specs.Bytes.{within}
use Rattle.handshake.specs.Handshake.{name_ok}
use Rattle.session.specs.declared.Sending.{Sending}
use Rattle.session.specs.declared.Session.{Session}
use Rattle.session.specs.declared.Answer.{Answer}
use Rattle.session.specs.Session.{is_closed, holding, nothing_sent}
use Rattle.session_soundness.specs.Sound.{sound}
use Rattle.session_soundness.proofs.Records.{sound-both}
use Rattle.opening.specs.Opening.{answerer, opening_room, Opening, «open», opened, new_connection}
use Rattle.opening.proofs.SoundOpening.{opened-sound}
use Rattle.opening.proofs.ShapedOpening.{opened-shape}
use Rattle.streams.specs.Calls.{Result}
use Rattle.receiver.specs.Model.{State, held_by, is_byte}
use Rattle.receiver.specs.Promise.{Shaped}
use Rattle.receiver.specs.Demand3.{Called, Chain, OffersTo, came_to}
use Rattle.worked_cases.specs.Cases.{hello, east, west}
use Rattle.worked_cases.specs.Listing.{listing, listed_result, listed_connection, listed_state}
use Rattle.worked_cases.specs.ListingCalls.{ListingCame, ListingByCalls, ListingOffered}
use Rattle.receiver.proofs.Acknowledging.{opens-accepted}
use Rattle.receiver.proofs.Demand3.{demand-3}
use Rattle.receiver.proofs.Corollaries.{bytes-offered, bytes-record}
use Rattle.streams.specs.Model.{bytes}
use Rattle.worked_cases.proofs.ListingHolds.{listing-holds}

abbrev start : Session
start = opened answerer east west

names-ok : (name_ok east ≡ true) × (name_ok west ≡ true)
unfolding name_ok within east west
names-ok = (refl, refl)

pub opening-accepted : (room : List ℕ) → opening_room ≤ length room → («open» answerer east west (length room)).session ≡ start
opening-accepted room l =
    ap (λ (x : Opening). x.session)
    (opens-accepted answerer east west room (le-ltb (length room) opening_room l) (and_intro (name_ok east) (name_ok west) names-ok.0 names-ok.1))

start-sound : sound start empty_store ≡ true
start-sound = sound-both start empty_store empty-sound (opened-sound empty_store.tables answerer east west names-ok.0 names-ok.1)

open-start : (eqb (length listing) 0 || is_closed start.connection) ≡ false
unfolding listing hello flatten opened new_connection holding is_closed
open-start = refl

pub start-sending : start.sending ≡ nothing_sent
unfolding opened holding
start-sending = refl

module _ (calls : List Called) (c : Chain start empty_store calls) (o : OffersTo start (bytes listing) calls) where
  came : came_to start empty_store calls ≡ listed_result
  came = (demand-3 start empty_store calls start-sound c).whole (bytes listing) o ∙ listing-holds

  listed-by-calls : ListingCame calls
  unfolding came_to listed_result listed_state held_by
  listed-by-calls = record {
    came = came;
    session =
        bytes-record start empty_store listing calls start-sound c o
        ∙ (cond-false (eqb (length listing) 0 || is_closed start.connection) _ _ open-start
        ∙ (ap (λ (r : Result State Answer). holding start.sending r.state.connection r.state.unfinished) listing-holds
        ∙ ap (λ (x : Sending). holding x listed_connection []) start-sending));
    store = ap (λ (r : Result State Answer). r.state.store) came;
  }

pub listing-by-calls : ListingByCalls
listing-by-calls = listed-by-calls

-- ---- and it can be offered in every cutting

start-shaped : Shaped start empty_store
start-shaped = record { session = opened-shape answerer east west names-ok.0 names-ok.1; store = empty-shape }

listing-bytes : every is_byte listing ≡ true
unfolding every listing hello flatten
listing-bytes = refl

pub cut-bytes : (cuts : List (List ℕ)) → every is_byte (flatten cuts) ≡ true → every (every is_byte) cuts ≡ true
unfolding flatten
cut-bytes [] h = every-nil (every is_byte)
cut-bytes (c ∷ cs) h =
    let k = sym (every_append is_byte c (flatten cs)) ∙ h in
    every-cons (every is_byte) c cs
    ∙ and_intro (every is_byte c) (every (every is_byte) cs) (and_first (every is_byte c) _ k) (cut-bytes cs (and_second (every is_byte c) _ k))

pub listing-cut : (cuts : List (List ℕ)) → flatten cuts ≡ listing → every (every is_byte) cuts ≡ true
listing-cut cuts e = cut-bytes cuts (ap (every is_byte) e ∙ listing-bytes)

pub listing-offered : ListingOffered
listing-offered cuts room e l = bytes-offered start empty_store start-sound start-shaped cuts room (listing-cut cuts e) l
