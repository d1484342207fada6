-- The messages of tables and their entries, fed one after another: after each the reader holds one table or entry more, and it acknowledges each entry.
use Prim.Native.Nat.{ℕ, ◌+◌, ◌^◌, ◌≤◌, ◌<◌}
use native.Mathlib.Omega.{arith}
use mathlib.Core.Path.{◌≡◌, refl, sym, ap, subst, ◌∙◌}
use mathlib.Core.List.{List, [], ◌∷◌, ◌++◌, map, flatten, append-nil, append_assoc}
use mathlib.Core.Bool.{Bool, true, false, not}
use lib.ListN.{length, get_or, length-append}
use lib.Seq.{get_or-append_seam}
use borrow.Author.Tests.{ltb-true}
use Rattle.lists.specs.Lists.{every, distinct}
use Rattle.lists.proofs.Cases.{and_first, and_second}
use Rattle.store.specs.declared.Table.{Table}
use Rattle.store.specs.declared.Entry.{Entry}
use Rattle.store.specs.declared.Store.{Store}
use Rattle.store.specs.Limits.{table_places, entry_places}
use Rattle.store.specs.Store.{table_held, table_free, entry_free, table_named, name_of, no_table}
use Rattle.store.specs.Shape.{TableShape}
use Rattle.store.specs.Sound.{sound_table}
use Rattle.store.specs.Contents.{table_at, entry_at}
use Rattle.session.specs.declared.Connection.{Connection}
use Rattle.session.specs.declared.Answer.{Answer}
use Rattle.session.specs.Session.{is_closed}
use Rattle.body.specs.declared.update.Form.{Form}
use Rattle.body.specs.Encodings.{message_bytes, definition_bytes, update_bytes}
use Rattle.body.specs.ReadBack.{Sendable}
use Rattle.body.proofs.DefinitionBack.{definitions-read-back}
use Rattle.body.proofs.Longest.{definitions-fit, updates-fit}
use Rattle.message.specs.Changes.{changed}
use Rattle.message.specs.Targets.{keyed_as}
use Rattle.message.specs.declared.Effect.{Effect}
use Rattle.message.specs.Effects.{acknowledge, define_at, commit_at, stick_table, done}
use Rattle.session.specs.declared.Commit.TheVariants as commit
use Rattle.streams.specs.Model.{byte, Item, bytes, Ended, Ran, ending, feed_all}
use Rattle.streams.proofs.Basics.{fed-none}
use Rattle.receiver.specs.Model.{State, peers, Event}
use Rattle.session.specs.declared.Sending.{Sending}
use Rattle.sending.specs.Sending.{Asked, form_for, type_of, entry_message, definition_message, message_for}
use Rattle.teaching.specs.Teaching.{TableIds, places_of, is32_bit, asked_entries, asked_for, messages_for, acknowledgements_for}
use Rattle.teaching.proofs.Members.{Each}
use Rattle.teaching.proofs.Filled.{filled, none, none_before, every-before}
use Rattle.teaching.proofs.WholeMessages.{whole-fed}
use Rattle.teaching.proofs.OneMessage.{read_table, read_entry, Reading, Current, defines, defined-reply, defined-reading, defined-current, commits-new, commit-reply, committed-reading, committed-current, name-kept}

abbrev pub state : Connection → Store → State
state c s = record { connection = c; unfinished = []; store = s }

-- ---- what the model comes to

pub record Outcome (start : Store) (ts : List Table) (es : List Entry) (acknowledged : List ℕ) (r : Ran State Answer) : Type 0 where
  pub opened : is_closed r.state.connection ≡ false
  pub none-unfinished : r.state.unfinished ≡ []
  pub tables : r.state.store.tables ≡ filled start.tables ts
  pub entries : r.state.store.entries ≡ filled start.entries es
  pub replies : flatten (map (λ (e : Ended Answer). e.reply) r.ended) ≡ acknowledged

after : (start : Store) (ts : List Table) (es : List Entry) (replies reply : List ℕ) (e : Ended Answer) (r : Ran State Answer) → e.reply ≡ reply → Outcome start ts es replies r
    → Outcome start ts es (reply ++ replies) (ending e r)
unfolding flatten
after start ts es replies reply e r q o = record {
  opened = o.opened;
  none-unfinished = o.none-unfinished;
  tables = o.tables;
  entries = o.entries;
  replies = rw (q, o.replies);
}

bytes-append : (xs ys : List ℕ) → ◌≡◌ {A = List (Item Event)} (bytes (xs ++ ys)) (bytes xs ++ bytes ys)
bytes-append [] ys = refl
bytes-append (x ∷ xs) ys = ap (λ (l : List (Item Event)). byte x ∷ l) (bytes-append xs ys)

-- a message whose effect is known, and what follows it
module _ (start : Store) (ts : List Table) (es : List Entry) (replies reply : List ℕ) (kind : ℕ) (body : List ℕ) (high : 128 ≤ kind) (small : length body ≤ 1024)
    (c : Connection) (s : Store) (opened : is_closed c ≡ false) (phase : c.phase ≡ 2) (f : Effect)
    (does : done c s.entries (stick_table c s.tables kind body) ≡ f) (gives : f.reply ≡ reply) where
  fed-message : (rest : List ℕ)
      → Outcome start ts es replies (feed_all peers (state f.connection (changed s f.change)) [] (bytes rest))
      → Outcome start ts es (reply ++ replies) (feed_all peers (state c s) [] (bytes (message_bytes kind body ++ rest)))
  fed-message rest o =
      let m = message_bytes kind body in
      let q : feed_all peers (state c s) [] (bytes (m ++ rest))
      ≡ ending (record { message = m; answer = f.answer; reply = f.reply }) (feed_all peers (state f.connection (changed s f.change)) [] (bytes rest)) =
      ap (feed_all peers (state c s) []) (bytes-append m rest)
      ∙ (whole-fed kind body high small c s opened phase (bytes rest)
      ∙ ap (λ (g : Effect). ending (record { message = m; answer = g.answer; reply = g.reply }) (feed_all peers (state g.connection (changed s g.change)) [] (bytes rest))) does) in
      subst (Outcome start ts es (reply ++ replies)) (sym q)
      (after start ts es replies reply (record { message = m; answer = f.answer; reply = f.reply }) (feed_all peers (state f.connection (changed s f.change)) [] (bytes rest)) gives o)

pub type-high : (form : Form) → 128 ≤ type_of form
unfolding type_of
type-high form = by_form form.explicit form.timed
  where
    by_form : (explicit timed : Bool) → 128 ≤ type_of (record { explicit = explicit; timed = timed })
    by_form true true = omega arith
    by_form true false = omega arith
    by_form false true = omega arith
    by_form false false = omega arith

-- ---- the sender's side

-- an entry place of the table
pub record Sent (t : Store) (table place : ℕ) : Type 0 where
  pub owner : (entry_at t place).table ≡ table
  pub sendable : Sendable (table_at t table) (entry_at t place)

pub record Ready (t : Store) (l : TableIds) : Type 0 where
  pub id : l.id < 2 ^ 32
  pub shape : TableShape (table_at t l.table)
  pub held : table_held (table_at t l.table) ≡ true
  pub sound : sound_table (table_at t l.table) ≡ true
  pub entries : Each (Sent t l.table) (places_of t l.table)
  pub updates : every is32_bit l.updates ≡ true
  pub count : length l.updates ≡ length (places_of t l.table)

-- what the reader makes of the entry at a place, where k is its table's place there
abbrev pub made : Store → ℕ → ℕ → ℕ → Entry
made t k table place = read_entry k (table_at t table) (entry_at t place)

abbrev pub taught_tables : Store → List TableIds → List Table
taught_tables t ids = map (λ (l : TableIds). read_table (table_at t l.table)) ids

-- the entries that it makes, where the first table has place k there
unfoldable pub places_taught : Store → ℕ → List TableIds → List Entry
places_taught t k [] = []
places_taught t k (l ∷ ids) = map (made t k l.table) (places_of t l.table) ++ places_taught t (k + 1) ids

-- ---- the run on a store without any, where ts and es are what the reader holds in the end: no two tables of one name, no two entries of one table and key

abbrev pub named_before : Table → Table → Bool
named_before t u = table_named (name_of u) t

abbrev pub keyed_before : Entry → Entry → Bool
keyed_before e f = keyed_as f e

pub record Fits (ts : List Table) (es : List Entry) : Type 0 where
  pub tables : length ts ≤ table_places
  pub entries : length es ≤ entry_places
  pub tables-held : none table_free ts ≡ true
  pub entries-held : none entry_free es ≡ true
  pub names : distinct named_before ts ≡ true
  pub keys : distinct keyed_before es ≡ true

module _ (t start : Store) (all_tables : List Table) (all_entries : List Entry) (fits : Fits all_tables all_entries) where
  -- what is known where these tables stand and the next is u
  module _ (ts : List Table) (u : Table) (later : List Table) (q : ts ++ (u ∷ later) ≡ all_tables) where
    table-room : length ts < 8
    table-room = omega (arith, length-append ts (u ∷ later), ap length q, fits.tables)

    tables-held : none table_free ts ≡ true
    tables-held = every-before (λ x. not (table_free x)) ts (u ∷ later) (rw q fits.tables-held)

    name_new : none (table_named (name_of u)) ts ≡ true
    name_new = none_before named_before ts u later (rw q fits.names)

  module _ (es : List Entry) (e : Entry) (later : List Entry) (q : es ++ (e ∷ later) ≡ all_entries) where
    entry-room : length es < 128
    entry-room = omega (arith, length-append es (e ∷ later), ap length q, fits.entries)

    entries-held : none entry_free es ≡ true
    entries-held = every-before (λ x. not (entry_free x)) es (e ∷ later) (rw q fits.entries-held)

    key-new : none (keyed_as e) es ≡ true
    key-new = none_before keyed_before es e later (rw q fits.keys)

  -- ---- the entries of a table, where what follows them does as it should
  module _ (ts : List Table) (k id table : ℕ) (few : k < length ts) (most : length ts ≤ 8) (there : get_or ts k no_table ≡ read_table (table_at t table))
      (rest : List Asked) (later : List Entry) (replies : List ℕ)
      (then : (x : Sending) (c : Connection) (s : Store) (es : List Entry) → es ++ later ≡ all_entries → Reading start c s ts es
      → Outcome start all_tables all_entries replies (feed_all peers (state c s) [] (bytes (flatten (messages_for t x rest))))) where
    entries-run : (places ids : List ℕ) (x : Sending) (c : Connection) (s : Store) (es : List Entry) → Reading start c s ts es → Current c x k id
        → Each (Sent t table) places → length ids ≡ length places → every is32_bit ids ≡ true → es ++ (map (made t k table) places ++ later) ≡ all_entries
        → Outcome start all_tables all_entries (flatten (map (acknowledge id) ids) ++ replies)
        (feed_all peers (state c s) [] (bytes (flatten (messages_for t x (asked_entries places ids ++ rest)))))
    unfolding Each every flatten asked_entries messages_for message_for entry_message
    entries-run [] [] x c s es r now each n small q = then x c s es q r
    entries-run [] (i ∷ ids) x c s es r now each n small q = absurd (omega arith)
    entries-run (p ∷ places) [] x c s es r now each n small q = absurd (omega arith)
    entries-run (p ∷ places) (i ∷ ids) x c s es r now each n small q =
        let e = entry_at t p in
        let u = table_at t table in
        let form = form_for x e i in
        let mine : Entry = made t k table p in
        let others : List Entry = map (made t k table) places ++ later in
        let z : Sendable u e = each.0.sendable in
        let il : i < 2 ^ 32 = ltb-true i (2 ^ 32) (and_first (is32_bit i) (every is32_bit ids) small) in
        let next : Sending = record { defined = x.defined; sent = 1; last = i } in
        let room = entry-room es mine others q in
        let held = entries-held es mine others q in
        let new = key-new es mine others q in
        let goes = commits-new start c s ts es r x k id now u few there i il e z room held new in
        let reads = committed-reading start c s ts es r x k id now u few there i il e z room held new in
        let now-next = committed-current start c s ts es r x k id now u few there i il e z room held new next refl (omega arith) in
        let q-next : (es ++ (mine ∷ [])) ++ others ≡ all_entries = append_assoc es (mine ∷ []) others ∙ q in
        let o = entries-run places ids next _ _ (es ++ (mine ∷ [])) reads now-next each.1 (omega arith)
        (and_second (is32_bit i) (every is32_bit ids) small) q-next in
        let replies-on : List ℕ = flatten (map (acknowledge id) ids) ++ replies in
        let rest-bytes : List ℕ = flatten (messages_for t next (asked_entries places ids ++ rest)) in
        let fed : Outcome start all_tables all_entries (acknowledge id i ++ replies-on)
        (feed_all peers (state c s) [] (bytes (message_bytes (type_of form) (update_bytes form u i e) ++ rest-bytes))) =
        fed-message start all_tables all_entries replies-on (acknowledge id i) (type_of form) (update_bytes form u i e) (type-high form)
        (omega (arith, updates-fit form u i e z.shape)) c s r.opened r.phase (commit_at c i mine (length es) commit.New) goes
        (commit-reply start c s ts es r x k id now u few there i il e z room held new) rest-bytes o in
        rw (each.0.owner, append_assoc (acknowledge id i) (flatten (map (acknowledge id) ids)) replies) fed

  pub tables-run : (ids : List TableIds) (x : Sending) (c : Connection) (s : Store) (ts : List Table) (es : List Entry) → Reading start c s ts es
      → Each (Ready t) ids → ts ++ taught_tables t ids ≡ all_tables → es ++ places_taught t (length ts) ids ≡ all_entries
      → Outcome start all_tables all_entries (acknowledgements_for ids)
      (feed_all peers (state c s) [] (bytes (flatten (messages_for t x (asked_for t ids)))))
  unfolding Each flatten asked_for messages_for message_for definition_message acknowledgements_for places_taught
  tables-run [] x c s ts es r each p q =
      rw (fed-none peers (state c s) [])
      (record {
        opened = r.opened;
        none-unfinished = refl;
        tables = r.tables ∙ ap (filled start.tables) (sym (append-nil ts) ∙ p);
        entries = r.entries ∙ ap (filled start.entries) (sym (append-nil es) ∙ q);
        replies = refl;
      })
  tables-run (l ∷ ids) x c s ts es r each p q =
      let u = table_at t l.table in
      let ready = each.0 in
      let mine : Table = read_table u in
      let later : List Table = taught_tables t ids in
      let back = definitions-read-back l.id u ready.id ready.shape ready.held ready.sound in
      let room = table-room ts mine later p in
      let held = tables-held ts mine later p in
      let new : none (table_named (name_of u)) ts ≡ true =
      subst (λ (name : List ℕ). none (table_named name) ts ≡ true) (name-kept u ready.shape) (name_new ts mine later p) in
      let next : Sending = record { defined = l.table + 1; sent = 0; last = 0 } in
      let goes = defines start c s ts es r l.id u back room held new in
      let reads = defined-reading start c s ts es r l.id u back room held new in
      let now = defined-current start c s ts es r l.id u back room held new next refl in
      let more : List Table = ts ++ (mine ∷ []) in
      let n : length more ≡ length ts + 1 = length-append ts (mine ∷ []) in
      let p-next : more ++ later ≡ all_tables = append_assoc ts (mine ∷ []) later ∙ p in
      let there : get_or more (length ts) no_table ≡ mine = get_or-append_seam ts mine [] no_table in
      let then : (y : Sending) (d : Connection) (v : Store) (fs : List Entry) → fs ++ places_taught t (length ts + 1) ids ≡ all_entries → Reading start d v more fs
      → Outcome start all_tables all_entries (acknowledgements_for ids) (feed_all peers (state d v) [] (bytes (flatten (messages_for t y (asked_for t ids))))) =
      λ y d v fs w reading. tables-run ids y d v more fs reading each.1 p-next (rw n w) in
      let o = entries-run more (length ts) l.id l.table (omega arith) (omega arith) there (asked_for t ids) (places_taught t (length ts + 1) ids)
      (acknowledgements_for ids) then (places_of t l.table) l.updates next _ _ es reads now ready.entries ready.count ready.updates q in
      fed-message start all_tables all_entries _ [] 130 (definition_bytes l.id u) (omega arith) (omega (arith, definitions-fit l.id u ready.id ready.shape))
      c s r.opened r.phase (define_at c l.id mine (length ts)) goes
      (defined-reply start c s ts es r l.id u back room held new) _ o
