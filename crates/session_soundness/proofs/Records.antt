-- Soundness of whole records: the record of a refused opening, a record with given unfinished bytes, another `sending`, and what a sound open
-- record says.
use Prim.Native.Nat.{ℕ, zero, suc, ◌≤◌}
use native.Mathlib.Omega.{arith}
use mathlib.Core.Path.{◌≡◌, refl, sym, ap, subst, ◌∙◌}
use mathlib.Core.Bool.{true, false, cond}
use mathlib.Core.List.{List, []}
use lib.ListN.{length, take}
use lib.Seq.{length-take-le}
use lib.Dec.{leb, eqb}
use borrow.Author.Tests.{le-leb, leb-true, eqb-true}
use Rattle.lists.specs.Lists.{every, pad_to, is_zero}
use Rattle.lists.proofs.Cases.{by-test, and_first, and_second, and_intro, or-true, or-false, cond-true, cond-false, all_first, all_rest, all-intro, all-false}
use Rattle.store.specs.declared.Table.{Table}
use Rattle.store.specs.declared.Store.{Store}
use Rattle.store.specs.Sound.{sound_store}
use Rattle.session.specs.declared.Connection.{Connection}
use Rattle.session.specs.declared.Sending.{Sending}
use Rattle.session.specs.declared.Session.{Session}
use Rattle.session.specs.Session.{is_closed, unfinished, holding, nothing_sent, with_sending}
use Rattle.session.proofs.Holding.{unfinished-held}
use Rattle.session.proofs.Unfinished.{unfinished-within}
use Rattle.session_soundness.specs.Sound.{waits, first_parts, unfinished_ok, defined_ok, sending_ok, sent_nothing, empty_buffer, is_refused_opening, sound_connection, sound_session, sound}
use Rattle.session_soundness.proofs.Facts.{SoundConnection, connection-facts, facts-connection}
use Rattle.session_soundness.proofs.Waiting.{waits-none, waits-few, waits-first-parts, first-parts-wait}

-- ---- record and store

module _ (s : Session) (t : Store) where
  pub sound-store : sound s t ≡ true → sound_store t ≡ true
  unfolding sound
  sound-store h = and_first (sound_store t) (sound_session t.tables s) h

  pub sound-session : sound s t ≡ true → sound_session t.tables s ≡ true
  unfolding sound
  sound-session h = and_second (sound_store t) (sound_session t.tables s) h

  pub sound-both : sound_store t ≡ true → sound_session t.tables s ≡ true → sound s t ≡ true
  unfolding sound
  sound-both p q = and_intro (sound_store t) (sound_session t.tables s) p q

-- ---- a record from its parts

module _ (ts : List Table) (s : Session) where
  pub record-refused : is_refused_opening s ≡ true → sound_session ts s ≡ true
  unfolding sound_session
  record-refused h = or-true (is_refused_opening s) _ h

  pub record-sound : sound_connection ts s.connection ≡ true → unfinished_ok s ≡ true → sending_ok ts s.sending ≡ true → sound_session ts s ≡ true
  unfolding sound_session
  record-sound p q r =
      by-test (is_refused_opening s)
      (λ t. or-true (is_refused_opening s) _ t)
      (λ t. or-false (is_refused_opening s) _ t ∙ and_intro (sound_connection ts s.connection) _ p (and_intro (unfinished_ok s) _ q r))

-- a sound record that no refused opening returned, in parts
pub record Parts (ts : List Table) (s : Session) : Type 0 where
  pub connection : sound_connection ts s.connection ≡ true
  pub unfinished : unfinished_ok s ≡ true
  pub sending : sending_ok ts s.sending ≡ true

pub session-parts : (ts : List Table) (s : Session) → is_refused_opening s ≡ false → sound_session ts s ≡ true → Parts ts s
unfolding sound_session
session-parts ts s r h =
    let k = sym (or-false (is_refused_opening s) _ r) ∙ h in
    let u = and_second (sound_connection ts s.connection) _ k in
    record {
      connection = and_first (sound_connection ts s.connection) _ k;
      unfinished = and_first (unfinished_ok s) _ u;
      sending = and_second (unfinished_ok s) _ u;
    }

-- ---- the sending state

pub nothing-sent-ok : (ts : List Table) → sending_ok ts nothing_sent ≡ true
unfolding sending_ok defined_ok nothing_sent
nothing-sent-ok ts = refl

nothing-sent : sent_nothing nothing_sent ≡ true
unfolding sent_nothing nothing_sent
nothing-sent = refl

-- ---- the record of a refused opening

zeros-pass : (n : ℕ) → every is_zero (pad_to n []) ≡ true
unfolding every pad_to
zeros-pass zero = refl
zeros-pass (suc n) = zeros-pass n

empty-buffer : (x : Sending) (c : Connection) → empty_buffer (holding x c []) ≡ true
unfolding empty_buffer holding
empty-buffer x c = zeros-pass 1032

module _ (s : Session) (h : is_refused_opening s ≡ true) where
  refused-buffer : empty_buffer s ≡ true
  unfolding is_refused_opening
  refused-buffer = all_first _ _ (all_rest _ _ (all_rest _ _ (all_rest _ _ h)))

  pub refused-len : s.len ≡ 0
  unfolding empty_buffer
  refused-len = eqb-true s.len 0 (and_first (is_zero s.len) (every is_zero s.buffer) refused-buffer)

  refused_none : unfinished s ≡ []
  refused_none = unfinished-within s (omega (arith, refused-len)) ∙ ap (λ (n : ℕ). take n s.buffer) refused-len

  pub refused-sent : sent_nothing s.sending ≡ true
  unfolding is_refused_opening
  refused-sent = all_first _ _ (all_rest _ _ (all_rest _ _ h))

  refused-again : (x : Sending) → sent_nothing x ≡ true → is_refused_opening (holding x s.connection []) ≡ true
  unfolding is_refused_opening holding
  refused-again x n =
      all-intro _ _ (all_first _ _ h)
      (all-intro _ _ (all_first _ _ (all_rest _ _ h))
      (all-intro _ _ n
      (all-intro _ _ (empty-buffer x s.connection) (all_rest _ _ (all_rest _ _ (all_rest _ _ (all_rest _ _ h)))))))

  refused-held : (x : Sending) → sent_nothing x ≡ true → is_refused_opening (holding x s.connection (unfinished s)) ≡ true
  refused-held x n = ap (λ (u : List ℕ). is_refused_opening (holding x s.connection u)) refused_none ∙ refused-again x n

-- ---- a record with its unfinished bytes alone

holds-well : (x : Sending) (c : Connection) (u : List ℕ) → length u ≤ 1027 → cond (is_closed c) (eqb (length u) 0) (every (waits c) (first_parts u)) ≡ true
    → unfinished_ok (holding x c u) ≡ true
unfolding unfinished_ok holding
holds-well x c u l h =
    and_intro (leb (length u) 1027) _ (le-leb (length u) 1027 l)
    (ap (λ (v : List ℕ). cond (is_closed c) (eqb (length u) 0) (every (waits c) (first_parts v))) (unfinished-held x c u l) ∙ h)

unfinished-alone : (x : Sending) (s : Session) → length s.buffer ≡ 1032 → unfinished_ok s ≡ true → unfinished_ok (holding x s.connection (unfinished s)) ≡ true
unfolding unfinished_ok
unfinished-alone x s b h =
    let l : s.len ≤ 1027 = leb-true s.len 1027 (and_first (leb s.len 1027) _ h) in
    let k : s.len ≤ length s.buffer = omega arith in
    let e : length (unfinished s) ≡ s.len = ap length (unfinished-within s l) ∙ length-take-le s.len s.buffer k in
    holds-well x s.connection (unfinished s) (omega (arith, e, l))
    (subst (λ (n : ℕ). cond (is_closed s.connection) (eqb n 0) (every (waits s.connection) (first_parts (unfinished s))) ≡ true) (sym e)
    (and_second (leb s.len 1027) _ h))

module _ (ts : List Table) (s : Session) (b : length s.buffer ≡ 1032) (h : sound_session ts s ≡ true) where
  -- with what sending may know beside it
  held_with : (x : Sending) → (is_refused_opening s ≡ true → sent_nothing x ≡ true) → (is_refused_opening s ≡ false → sending_ok ts x ≡ true)
      → sound_session ts (holding x s.connection (unfinished s)) ≡ true
  unfolding holding
  held_with x f g =
      let alone = holding x s.connection (unfinished s) in
      by-test (is_refused_opening s)
      (λ r. record-refused ts alone (refused-held s r x (f r)))
      (λ r. let k = session-parts ts s r h in record-sound ts alone k.connection (unfinished-alone x s b k.unfinished) (g r))

  -- with nothing sent, and with what it knows itself
  pub held-session : sound_session ts (holding nothing_sent s.connection (unfinished s)) ≡ true
  held-session = held_with nothing_sent (λ r. nothing-sent) (λ r. nothing-sent-ok ts)

  pub held-sending : sound_session ts (holding s.sending s.connection (unfinished s)) ≡ true
  held-sending = held_with s.sending (λ r. refused-sent s r) (λ r. (session-parts ts s r h).sending)

-- ---- a record with given unfinished bytes

module _ {ts : List Table} {c : Connection} (f : SoundConnection ts c) (x : Sending) (k : sending_ok ts x ≡ true) where
  none-held : is_closed c ≡ true → unfinished_ok (holding x c []) ≡ true
  none-held o = holds-well x c [] (omega arith) (cond-true (is_closed c) _ _ o)

  -- waiting bytes in an open record
  pub holding-sound : (u : List ℕ) → is_closed c ≡ false → waits c u ≡ true → sound_session ts (holding x c u) ≡ true
  unfolding holding
  holding-sound u o w =
      record-sound ts (holding x c u) (facts-connection f)
      (holds-well x c u (waits-few c u w) (cond-false (is_closed c) _ _ o ∙ waits-first-parts c u w)) k

  -- no unfinished bytes, open or closed
  pub empty-sound : sound_session ts (holding x c []) ≡ true
  unfolding holding
  empty-sound =
      by-test (is_closed c)
      (λ o. record-sound ts (holding x c []) (facts-connection f) (none-held o) k)
      (λ o. holding-sound [] o (waits-none c))

-- ---- an open sound record

pub record SoundOpen (ts : List Table) (s : Session) : Type 0 where
  pub connection : SoundConnection ts s.connection
  pub room : s.len ≤ 1027
  pub waiting : waits s.connection (unfinished s) ≡ true
  pub sending : sending_ok ts s.sending ≡ true

module _ (ts : List Table) (s : Session) (o : is_closed s.connection ≡ false) where
  pub not-refused : is_refused_opening s ≡ false
  unfolding is_refused_opening is_closed
  not-refused = all-false _ _ o

  pub open-facts : sound_session ts s ≡ true → SoundOpen ts s
  unfolding unfinished_ok
  open-facts h =
      let b = session-parts ts s not-refused h in
      let u = b.unfinished in
      record {
        connection = connection-facts ts s.connection b.connection;
        room = leb-true s.len 1027 (and_first (leb s.len 1027) _ u);
        waiting =
            first-parts-wait s.connection (unfinished s) (sym (cond-false (is_closed s.connection) _ _ o) ∙ and_second (leb s.len 1027) _ u);
        sending = b.sending;
      }

-- ---- another `sending`

-- an open sound record with another `sending` that is allowed
pub sending-sound : (ts : List Table) (s : Session) (x : Sending) → is_closed s.connection ≡ false → sound_session ts s ≡ true → sending_ok ts x ≡ true
    → sound_session ts (with_sending s x) ≡ true
unfolding with_sending unfinished_ok unfinished
sending-sound ts s x o h k =
    let b = session-parts ts s (not-refused ts s o) h in
    record-sound ts (with_sending s x) b.connection b.unfinished k
