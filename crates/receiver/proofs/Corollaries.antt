-- Another division of the same stream leaves the same table and record. Which streams are offered, and those of bytes alone.
use Prim.Native.Nat.{ℕ}
use mathlib.Core.Path.{◌≡◌, refl, sym, ap, ◌∙◌}
use mathlib.Core.Logic.{⊎_elim}
use mathlib.Core.Bool.{true, true≢false, cond, ◌||◌}
use mathlib.Core.List.{List, [], ◌∷◌, ◌++◌, map, flatten, map-append}
use lib.ListN.{length, take}
use lib.Dec.{eqb}
use Rattle.lists.specs.Lists.{every}
use Rattle.store.specs.declared.Store.{Store}
use Rattle.session.specs.declared.Session.{Session}
use Rattle.session.specs.declared.Answer.{Answer}
use Rattle.session.specs.Session.{is_closed, holding}
use Rattle.session_soundness.specs.Sound.{sound}
use Rattle.streams.specs.Model.{Item, byte, bytes}
use Rattle.streams.specs.Calls.{Result, piece, pieces, on_part, eventless, reachable}
use Rattle.lists.proofs.Every.{every-nil}
use Rattle.streams.proofs.Basics.{every-cons, every-both}
use Rattle.streams.proofs.Timeline.{only-bytes}
use Rattle.streams.proofs.Reachable.{bytes-eventless, bytes-reachable, pieces-reachable, offered-reachable}
use Rattle.receiver.specs.Model.{State, Event, held_by, is_byte, is_time, peers}
use Rattle.receiver.specs.Promise.{Made, Shaped}
use Rattle.receiver.specs.Demand3.{Called, reads, passes, Chain, OffersTo, taken_by, model_ran, came_to, last_session}
use Rattle.receiver.specs.Corollaries.{SameByAnyDivision, AnyDivision, OfferedReachable, BytesOffered, BytesByReading, BytesRecord, ReadingTakes}
use Rattle.receiver.proofs.Lawfully.{lawful}
use Rattle.receiver.proofs.Chained.{steps_of, good-held, offers}
use Rattle.receiver.proofs.OnePass.{passed-keeps-sound, passed-state}
use Rattle.receiver.proofs.Demand3.{demand-3}

module _ (s : Session) (t : Store) (stream : List (Item Event)) (calls others : List Called) (f : sound s t ≡ true) (c : Chain s t calls) (d : Chain s t others)
    (o : OffersTo s stream calls) (q : OffersTo s stream others) where
  same-came : came_to s t calls ≡ came_to s t others
  same-came = (demand-3 s t calls f c).whole stream o ∙ sym ((demand-3 s t others f d).whole stream q)

  same-session : last_session s calls ≡ last_session s others
  same-session = (demand-3 s t calls f c).whole-record stream o ∙ sym ((demand-3 s t others f d).whole-record stream q)

  divided : SameByAnyDivision s t stream calls others
  unfolding came_to held_by
  divided = record {
    came = same-came;
    store = ap (λ (r : Result State Answer). r.state.store) same-came;
    session = same-session;
    replies = ap (λ (r : Result State Answer). r.replies) same-came;
  }

pub any-division : AnyDivision
any-division = divided

-- ---- which streams are offered

chain-reachable : (s : Session) (t : Store) (stream : List (Item Event)) (calls : List Called) → sound s t ≡ true → Shaped s t → Chain s t calls
    → OffersTo s stream calls → reachable peers (held_by s t) stream ≡ true
chain-reachable s t stream calls f sh c o =
    offered-reachable peers lawful (held_by s t) stream (steps_of calls) (offers lawful s t calls stream c f (good-held s t sh f) o)

none-reachable : (s : Session) (t : Store) (stream : List (Item Event)) → OffersTo s stream [] → reachable peers (held_by s t) stream ≡ true
unfolding OffersTo
none-reachable s t stream o =
    ⊎_elim
    (λ e. ap (reachable peers (held_by s t)) e ∙ bytes-reachable peers (held_by s t) [])
    (λ k. ap (reachable peers (held_by s t)) k.1.1 ∙ bytes-reachable peers (held_by s t) k.1.0)
    o

pub only-reachable : OfferedReachable
unfolding Chain OffersTo reachable
only-reachable s t stream [] f c o = none-reachable s t stream o
only-reachable s t stream (reads m ∷ cs) f c o = chain-reachable s t stream (reads m ∷ cs) f c.0.shaped c o
only-reachable s t stream (passes p ∷ cs) f c o =
    ap (reachable peers (held_by s t)) (sym o.1)
    ∙ (ap (λ (k : State). reachable peers k o.0) (sym (passed-state t p c.0 s f))
    ∙ only-reachable s p.store o.0 cs (passed-keeps-sound t p c.0 s f) c.1 o.2)

-- ---- bytes alone

pieces-parts : (cuts : List (List ℕ)) → every (every is_byte) cuts ≡ true → every (on_part (every is_byte) is_time) (pieces cuts) ≡ true
pieces-parts [] q = every-nil (on_part (every is_byte) is_time)
pieces-parts (c ∷ cuts) q =
    let d = every-cons (every is_byte) c cuts q in
    every-both (on_part (every is_byte) is_time) (piece c) (pieces cuts) d.0 (pieces-parts cuts d.1)

pub bytes-offered : BytesOffered
bytes-offered s t f sh cuts room q l =
    (demand-3 s t [] f (unfold Chain in tt)).exists sh (pieces cuts) room (pieces-parts cuts q) l (pieces-reachable peers (held_by s t) cuts)

behind-eventless : (xs : List ℕ) (later : List (Item Event)) → eventless (bytes xs ++ later) ≡ eventless later
unfolding eventless
behind-eventless [] later = refl
behind-eventless (x ∷ xs) later = behind-eventless xs later

by-reading : (s : Session) (stream : List (Item Event)) (calls : List Called) → eventless stream ≡ true → OffersTo s stream calls
    → (ms : List Made) × (calls ≡ map reads ms)
unfolding OffersTo
by-reading s stream [] q o = ([], refl)
by-reading s stream (reads m ∷ cs) q o =
    let left = sym (behind-eventless (take m.outcome.taken m.piece) o.1) ∙ (ap eventless o.2 ∙ q) in
    let r = by-reading m.session o.1 cs left o.3 in
    (m ∷ r.0, ap (reads m ∷◌) r.1)
by-reading s stream (passes p ∷ cs) q o = absurd (true≢false (sym (ap eventless o.1 ∙ q) ∙ unfold eventless in refl))

pub bytes-by-reading : BytesByReading
bytes-by-reading s stream calls o = by-reading s (bytes stream) calls (bytes-eventless Event stream) o

pub bytes-record : BytesRecord
bytes-record s t stream calls f c o =
    (demand-3 s t calls f c).whole-record (bytes stream) o
    ∙ (let end = (model_ran s t (bytes stream)).state in
    ap (λ (xs : List ℕ). cond (eqb (length xs) 0 || is_closed s.connection) s (holding s.sending end.connection end.unfinished)) (only-bytes Event stream))

pub reading-takes : ReadingTakes
unfolding taken_by flatten
reading-takes [] = refl
reading-takes (m ∷ ms) =
    let now = take m.outcome.taken m.piece in
    ap (bytes now ++◌) (reading-takes ms) ∙ sym (map-append byte now (flatten (map (λ (m : Made). take m.outcome.taken m.piece) ms)))
