-- A record and the state that it holds.
use Prim.Native.Nat.{ℕ, ◌≤◌}
use native.Mathlib.Omega.{arith}
use mathlib.Core.Path.{◌≡◌}
use mathlib.Core.List.{List}
use mathlib.Core.Bool.{true}
use lib.ListN.{length}
use borrow.Author.Tests.{leb-true}
use Rattle.lists.proofs.Cases.{by-test, and_first, and_second, and_intro}
use Rattle.store.specs.declared.Table.{Table}
use Rattle.store.specs.declared.Store.{Store}
use Rattle.store.specs.Sound.{sound_store}
use Rattle.session.specs.declared.Connection.{Connection}
use Rattle.session.specs.declared.Sending.{Sending}
use Rattle.session.specs.declared.Session.{Session}
use Rattle.session.specs.Session.{unfinished, holding, nothing_sent}
use Rattle.session.proofs.Holding.{unfinished-held}
use Rattle.session_soundness.specs.Sound.{sound, sound_session, is_refused_opening, unfinished_ok}
use Rattle.session_soundness.proofs.Records.{refused-len, session-parts, held-session, held-sending}
use Rattle.receiver.specs.Model.{State, held_by, sound_state}

-- ---- the state of a record that holds it

pub held-holding : (x : Sending) (c : Connection) (u : List ℕ) (t : Store) → length u ≤ 1027
    → held_by (holding x c u) t ≡ record { connection = c; unfinished = u; store = t }
unfolding held_by holding
held-holding x c u t h = λ i. record { connection = c; unfinished = unfinished-held x c u h i; store = t }

-- ---- a sound record's bytes fit its buffer

unfinished-fits : (s : Session) → unfinished_ok s ≡ true → s.len ≤ 1027
unfolding unfinished_ok
unfinished-fits s h = leb-true s.len 1027 (and_first _ _ h)

pub session-fits : (ts : List Table) (s : Session) → sound_session ts s ≡ true → s.len ≤ 1027
session-fits ts s h =
    by-test (is_refused_opening s)
    (λ r. let e = refused-len s r in omega arith)
    (λ r. unfinished-fits s (session-parts ts s r h).unfinished)

pub state-fits : (s : State) → sound_state s ≡ true → length s.unfinished ≤ 1027
unfolding sound_state sound holding
state-fits s h =
    session-fits s.store.tables (holding nothing_sent s.connection s.unfinished)
    (and_second (sound_store s.store) (sound_session s.store.tables (holding nothing_sent s.connection s.unfinished)) h)

-- ---- the state that a sound record holds is sound, with nothing sent and with what the record knows of it

pub sound-held : (s : Session) (t : Store) → length s.buffer ≡ 1032 → sound s t ≡ true → sound_state (held_by s t) ≡ true
unfolding sound_state sound held_by
sound-held s t b h =
    let f = sound_session t.tables s in
    let q = and_second (sound_store t) f h in
    and_intro (sound_store t) _ (and_first (sound_store t) f h) (held-session t.tables s b q)

pub sound-sending : (s : Session) (t : Store) → length s.buffer ≡ 1032 → sound s t ≡ true → sound (holding s.sending s.connection (unfinished s)) t ≡ true
unfolding sound
sound-sending s t b h =
    let f = sound_session t.tables s in
    let q = and_second (sound_store t) f h in
    and_intro (sound_store t) _ (and_first (sound_store t) f h) (held-sending t.tables s b q)
