-- Each exported call is a call with the answer enum, in numbers: what is proved of lists of those carries over.
use Prim.Native.Nat.{◌≤◌}
use native.Mathlib.Omega.{arith}
use mathlib.Core.Path.{◌≡◌, refl}
use mathlib.Core.List.{List, [], ◌∷◌, map}
use lib.ListN.{length}
use Rattle.lists.proofs.Bytes.{pad-take}
use Rattle.store.specs.declared.Store.{Store}
use Rattle.session.specs.declared.Session.{Session}
use Rattle.session.specs.declared.Answer.{Answer}
use Rattle.session.specs.declared.Answer.TheVariants as answer
use Rattle.session.specs.Answers.{answer_values}
use Rattle.receiver.specs.Promise.{Made, ReadPromise, call_of, outcome_of}
use Rattle.receiver.specs.Demand3.{Called, reads, passes, Chain}
use Rattle.peers.specs.Numbers.{raw_outcome}
use Rattle.peers.specs.Reading.{RawMade, RawPromise}
use Rattle.peers.specs.ExportedDemand3.{RawCalled, raw_reads, raw_passes, RawChain, raw_values}
use Rattle.peers.proofs.Promising.{raw-promised}

-- ---- one call

-- a call with its answer in numbers
abbrev pub raw_of : Made → RawMade
raw_of m = record {
  piece = m.piece;
  room = m.room;
  outcome = raw_outcome m.outcome;
  session = m.session;
  store = m.store;
  final = m.final;
}

-- the call that an exported one made
abbrev pub made_by : Session → Store → RawMade → Made
made_by s t m = record {
  piece = m.piece;
  room = m.room;
  outcome = outcome_of (call_of s t m.piece (length m.room));
  session = m.session;
  store = m.store;
  final = m.final;
}

pub made-promised : (s : Session) (t : Store) (m : RawMade) → RawPromise s t m → ReadPromise s t (made_by s t m)
made-promised s t m p = record {
  outcome = refl;
  session = p.session;
  store = p.store;
  final = p.final;
  shaped = p.shaped;
  bytes = p.bytes;
}

pub made-same : (s : Session) (t : Store) (m : RawMade) → RawPromise s t m → m ≡ raw_of (made_by s t m)
made-same s t m p = λ i. record {
  piece = m.piece;
  room = m.room;
  outcome = p.outcome i;
  session = m.session;
  store = m.store;
  final = m.final;
}

pub raw-promise : (s : Session) (t : Store) (m : Made) → ReadPromise s t m → RawPromise s t (raw_of m)
raw-promise s t m p = raw-promised (raw_outcome m.outcome) refl p

-- ---- a list of calls

-- a call of a list with its answer in numbers; a passing call returns one already
abbrev pub raw_called : Called → RawCalled
raw_called (reads m) = raw_reads (raw_of m)
raw_called (passes p) = raw_passes p

unfoldable pub mades_by : Session → Store → List RawCalled → List Called
mades_by s t [] = []
mades_by s t (raw_reads m ∷ cs) = reads (made_by s t m) ∷ mades_by m.session m.store cs
mades_by s t (raw_passes p ∷ cs) = passes p ∷ mades_by s p.store cs

pub mades-chain : (s : Session) (t : Store) (cs : List RawCalled) → RawChain s t cs → Chain s t (mades_by s t cs)
unfolding RawChain Chain mades_by
mades-chain s t [] c = tt
mades-chain s t (raw_reads m ∷ cs) c = (made-promised s t m c.0, mades-chain m.session m.store cs c.1)
mades-chain s t (raw_passes p ∷ cs) c = (c.0, mades-chain s p.store cs c.1)

pub mades-same : (s : Session) (t : Store) (cs : List RawCalled) → RawChain s t cs → cs ≡ map raw_called (mades_by s t cs)
unfolding RawChain mades_by
mades-same s t [] c = refl
mades-same s t (raw_reads m ∷ cs) c = λ i. raw_reads (made-same s t m c.0 i) ∷ mades-same m.session m.store cs c.1 i
mades-same s t (raw_passes p ∷ cs) c = λ i. raw_passes p ∷ mades-same s p.store cs c.1 i

pub raw-chain : (s : Session) (t : Store) (cs : List Called) → Chain s t cs → RawChain s t (map raw_called cs)
unfolding RawChain Chain
raw-chain s t [] c = tt
raw-chain s t (reads m ∷ cs) c = (raw-promise s t m c.0, raw-chain m.session m.store cs c.1)
raw-chain s t (passes p ∷ cs) c = (c.0, raw-chain s p.store cs c.1)

-- ---- numbers

-- an answer has four values at most, so that all of them are told
pub values-most : (a : Answer) → length (answer_values a) ≤ 4
unfolding answer_values
values-most answer.More = omega arith
values-most (answer.Hello process relative) = omega arith
values-most answer.Status = omega arith
values-most answer.Request = omega arith
values-most answer.Finished = omega arith
values-most answer.Partial = omega arith
values-most answer.Confirmed = omega arith
values-most answer.Heartbeat = omega arith
values-most (answer.Error type) = omega arith
values-most (answer.Table place) = omega arith
values-most (answer.Switch place) = omega arith
values-most (answer.Update table id entry how) = omega arith
values-most (answer.Acknowledgement id update) = omega arith
values-most (answer.Skipped type) = omega arith
values-most (answer.Refused number) = omega arith
values-most (answer.RefusedAt number offset) = omega arith

pub values-told : (m : Made) → raw_values (raw_of m) ≡ answer_values m.outcome.answer
unfolding raw_values raw_outcome
values-told m = pad-take 4 (answer_values m.outcome.answer) (values-most m.outcome.answer)
