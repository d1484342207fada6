-- The counts after a call that kept its promise, on any record and store, sound or not.
use mathlib.Core.Path.{◌≡◌, sym, ap, ◌∙◌}
use mathlib.Core.List.{◌++◌}
use lib.ListN.{length, take}
use Rattle.store.specs.declared.Store.{Store}
use Rattle.store.proofs.Facts.{sound-facts}
use Rattle.session.specs.declared.Session.{Session}
use Rattle.session.specs.declared.Answer.{Answer}
use Rattle.session.specs.Session.{unfinished}
use Rattle.session_soundness.proofs.Records.{sound-store}
use Rattle.message.specs.Changes.{changed}
use Rattle.message.specs.Effects.{Effect}
use Rattle.reassembly.specs.Judge.{effect_of}
use Rattle.streams.specs.Calls.{Call}
use Rattle.receiver.specs.Model.{State, held_by}
use Rattle.receiver.specs.Promise.{Made, ReadPromise, call_of}
use Rattle.receiver.proofs.Ways.{Way, Judging, staying, waiting-on, judging, ways, answer-is}
use Rattle.reading.specs.Counts.{answered_counts}
use Rattle.reading.proofs.counts.Answered.{judged-counts}

module _ (s : Session) (t : Store) (m : Made) (p : ReadPromise s t m) where
  abbrev call : Call State Answer
  call = call_of s t m.piece (length m.room)

  -- the message that the bytes ended
  counts-judged : (e : Effect) → Judging s t m.piece call e → answered_counts e.answer t.counts ≡ (changed t e.change).counts
  unfolding effect_of
  counts-judged e j =
      let c = s.connection in
      let b = unfinished s ++ take call.taken m.piece in
      let it = ap (effect_of c) j.judged in
      ap (λ (x : Effect). answered_counts x.answer t.counts) (sym it)
      ∙ (judged-counts t p.shaped.store.entries (sound-facts t (sound-store s t j.sound)).counts c b
      ∙ ap (λ (x : Effect). (changed t x.change).counts) it)

  by_way : Way s t m.piece call → call.state.store.counts ≡ answered_counts call.answer t.counts
  unfolding answered_counts held_by
  by_way (staying n h q) = rw q
  by_way (waiting-on w) = rw (w.state, w.answer)
  by_way (judging e j) = rw (j.state, j.answer) (sym (counts-judged e j))

  pub read-counts : m.store.counts ≡ answered_counts m.outcome.answer t.counts
  read-counts =
      ap (λ (x : Store). x.counts) p.store
      ∙ (by_way (ways s t m p) ∙ ap (λ (a : Answer). answered_counts a t.counts) (sym (answer-is s t m p)))
