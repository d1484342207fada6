-- Where a body broke, by request 10: what "the offset in the body, from 0, at which the failing field starts" says of the body.
use Rattle.std.specs.Prelude.{ℕ, ◌+◌, ◌≤◌, ◌<◌, ◌≡◌, List, ◌++◌, true, false, ◌⊎◌, length, take, Err, Ok}
use Rattle.wire.specs.declared.IntError.TheVariants as int
use Rattle.wire.specs.Integer.{read_int}
use Rattle.store.specs.declared.Table.{Table}
use Rattle.store.specs.Limits.{key_kind, is_string}
use Rattle.body.specs.declared.Failure.{Failure}
use Rattle.body.specs.declared.Failure.TheVariants as failure
use Rattle.body.specs.declared.Fault.{Fault}
use Rattle.body.specs.Fields.{Read, got, failed, fault}
use Rattle.body.specs.Bodies.{definition_fields, switch_fields, acknowledgement_fields, update_fields}
use Rattle.body.specs.declared.update.Form.{Form}
use Rattle.body.specs.Encodings.{entry_start}

module _ {A : Type 0} where
  -- reading came as far as `start`: all is read there, or what is missing is the field that starts there
  unfoldable pub Reached : ℕ → Read A → Type 0
  Reached start (got a next) = next ≡ start
  Reached start (failed f) = f ≡ fault failure.Short start

  -- no field that starts before `start` fails
  unfoldable pub NotBefore : ℕ → Read A → Type 0
  NotBefore start (got a next) = Unit {0}
  NotBefore start (failed f) = start ≤ f.start

-- ---- fields that aren't encoded integers: where they start in a body, and how many bytes they are

abbrev pub Sized : Type 1
Sized = List ℕ → ℕ → ℕ → Type 0

abbrev pub none_sized : Sized
none_sized body start n = ⊥

-- a definition's name, behind ID and length
abbrev pub definition_sized : Sized
definition_sized body start n = (id : ℕ) × ((at : ℕ) × ((read_int body 0 ≡ Ok (id, at)) × (read_int body at ≡ Ok (n, start))))

-- an acknowledgement's 4-byte update ID, behind its ID
abbrev pub acknowledgement_sized : Sized
acknowledgement_sized body start n = ((id : ℕ) × (read_int body 0 ≡ Ok (id, start))) × (n ≡ 4)

-- a key: a string, behind its length that stands at a position; another, with its table's key length, at that position
abbrev pub key_sized : Table → ℕ → Sized
key_sized t at body start n =
    ((is_string (key_kind t.key_type) ≡ true) × (read_int body at ≡ Ok (n, start)))
    ⊎ ((is_string (key_kind t.key_type) ≡ false) × ((start ≡ at) × (n ≡ t.key_len)))

-- an update's 4-byte update ID, its 4-byte remaining time behind that, and its key behind both, where its form has them
abbrev pub update_sized : Form → Table → Sized
update_sized form t body start n =
    ((form.explicit ≡ true) × ((start ≡ 0) × (n ≡ 4)))
    ⊎ (((form.timed ≡ true) × ((start + 4 ≡ entry_start form) × (n ≡ 4))) ⊎ key_sized t (entry_start form) body start n)

-- ---- the failing field

-- 23: the body ends inside the field that starts at `start`
pub data EndsInside (sized : Sized) (body : List ℕ) (start : ℕ) : Type 0 where
  -- an encoded integer: its offset plus the bytes looked at is the body's length
  cut_integer : (looked : ℕ) → read_int body start ≡ Err (int.Short looked) → start + looked ≡ length body → EndsInside sized body start
  -- another field: its offset plus its length is more than the body's length
  cut_sized : (n : ℕ) → sized body start n → length body < start + n → EndsInside sized body start

-- 24, 30: the field that starts at `start` is whole, and `end` is the position after it
pub data Ends (sized : Sized) (body : List ℕ) (start end : ℕ) : Failure → Type 0 where
  whole_integer : (v : ℕ) → read_int body start ≡ Ok (v, end) → Ends sized body start end failure.OutOfRange
  -- an integer that overflows, with the bytes looked at
  overflowing : (looked : ℕ) → read_int body start ≡ Err (int.Overflow looked) → start + looked ≡ end → Ends sized body start end failure.OutOfRange
  -- a name
  whole_name : (n : ℕ) → sized body start n → start + n ≡ end → Ends sized body start end failure.NotPlain

module _ {A : Type 0} (fields : List ℕ → Read A) (sized : Sized) (body : List ℕ) (f : Fault) where
  -- 23: every longer body that begins with this one fails at no earlier field
  pub record CutShort : Type 0 where
    pub ends : EndsInside sized body f.start
    pub longer : (more : List ℕ) → NotBefore f.start (fields (body ++ more))

  -- 24, 30: a body that agrees up to and with the failing field's bytes fails alike, whatever follows
  pub record Decided : Type 0 where
    pub end : ℕ
    pub some : f.start < end
    pub inside : end ≤ length body
    pub field : Ends sized body f.start end f.failure
    pub alike : (other : List ℕ) → take end other ≡ take end body → fields other ≡ failed f

  unfoldable pub ByFailure : Failure → Type 0
  ByFailure failure.Short = CutShort
  ByFailure failure.OutOfRange = Decided
  ByFailure failure.NotPlain = Decided

  pub record Broke : Type 0 where
    -- the offset is at most the body's length
    pub inside : f.start ≤ length body
    -- every field before it was read: reading the bytes before it comes as far as the offset
    pub before : Reached f.start (fields (take f.start body))
    pub why : ByFailure f.failure
    -- no field of a length that starts before the offset reaches past it
    pub apart : (at n : ℕ) → sized body at n → at < f.start → at + n ≤ f.start

-- of every body that fails
abbrev pub Breaks : {A : Type 0} → (List ℕ → Read A) → Sized → Type 0
Breaks fields sized = (body : List ℕ) (f : Fault) → fields body ≡ failed f → Broke fields sized body f

-- of every message that has fields
pub record BodiesBreak : Type 1 where
  pub definition : Breaks definition_fields definition_sized
  pub switch : Breaks switch_fields none_sized
  pub acknowledgement : Breaks acknowledgement_fields acknowledgement_sized
  pub update : (form : Form) (t : Table) (following : ℕ) → Breaks (update_fields form t following) (update_sized form t)
