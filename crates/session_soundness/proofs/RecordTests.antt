-- What the tests of a record lean on: names and bytes that are the first part of an array, and places beside their tables.
use Prim.Native.Nat.{ℕ, ◌≤◌}
use native.Mathlib.Omega.{arith}
use mathlib.Core.Path.{◌≡◌, refl, sym, ap, ◌∙◌}
use mathlib.Core.Logic.{⊎_elim}
use mathlib.Core.Bool.{Bool, ◌&&◌, ◌||◌}
use mathlib.Core.List.{List, [], ◌∷◌}
use lib.ListN.{length, take}
use lib.Seq.{take_all}
use lib.Dec.{eqb, ltb}
use borrow.Author.Tests.{lt-ltb, le-ltb}
use Rattle.std.specs.List.{list_all, zip}
use Rattle.lists.specs.Lists.{every}
use Rattle.lists.proofs.Cases.{lt-or-le, cond-true, cond-false}
use Rattle.store.specs.declared.Table.{Table}
use Rattle.store.specs.Store.{table_held}
use Rattle.session.specs.declared.Binding.{Binding}
use Rattle.session.specs.declared.Session.{Session}
use Rattle.session.specs.Session.{unfinished}
use Rattle.session.proofs.Unfinished.{unfinished-within}
use Rattle.session_soundness.specs.Sound.{name_length, first_parts, waits, no_ids, free_places_ok}
use Rattle.session_soundness.proofs.Waiting.{waits-whole}

-- a name's length, past its array or not, takes the same bytes
pub name_taken : (n : ℕ) (bytes : List ℕ) → length bytes ≡ 32 → take (name_length n) bytes ≡ take n bytes
unfolding name_length
name_taken n bytes l =
    ⊎_elim
    (λ h. ap (λ (k : ℕ). take k bytes) (cond-true (ltb 32 n) 32 n (lt-ltb 32 n h)) ∙ take_all 32 bytes (omega arith) ∙ sym (take_all n bytes (omega arith)))
    (λ h. ap (λ (k : ℕ). take k bytes) (cond-false (ltb 32 n) 32 n (le-ltb 32 n h)))
    (lt-or-le 32 n)

-- all first parts wait where the whole does
pub parts_wait : (s : Session) → s.len ≤ 1027 → every (waits s.connection) (first_parts (unfinished s)) ≡ waits s.connection (take s.len s.buffer)
parts_wait s l = sym (ap (waits s.connection) (sym (unfinished-within s l)) ∙ waits-whole s.connection (unfinished s))

-- each place beside its table
pub places_zipped : (ts : List Table) (bs : List Binding) → length ts ≡ length bs
    → list_all (λ (p : Table × Binding). eqb p.0.held 1 || no_ids p.1) (zip ts bs) ≡ free_places_ok ts bs
unfolding free_places_ok table_held
places_zipped [] [] l = refl
places_zipped [] (b ∷ bs) l = absurd (omega arith)
places_zipped (t ∷ ts) [] l = absurd (omega arith)
places_zipped (t ∷ ts) (b ∷ bs) l = ap (λ (r : Bool). (eqb t.held 1 || no_ids b) && r) (places_zipped ts bs (omega arith))
