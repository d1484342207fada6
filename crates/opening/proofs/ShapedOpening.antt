-- The record that opening returns has the shape that every value of its type has.
use Prim.Native.Nat.{ℕ, zero, suc, ◌^◌, ◌≤◌, ◌<◌}
use native.Mathlib.Omega.{arith}
use mathlib.Core.Path.{◌≡◌, refl, sym, subst}
use mathlib.Core.Bool.{true}
use mathlib.Core.List.{List, [], ◌∷◌}
use lib.ListN.{length, get_or, get_or-replicate}
use lib.Dec.{lit<}
use Rattle.store.proofs.Kept.{pad-cells}
use Rattle.handshake.specs.Bytes.{within}
use Rattle.handshake.specs.Handshake.{name_ok}
use Rattle.handshake.proofs.RoundTrip.{name-most, name-graphic}
use Rattle.handshake.proofs.NameBytes.{within-head, within-tail}
use Rattle.session.specs.Session.{no_binding, binding_at, holding, nothing_sent}
use Rattle.session.specs.Shape.{BindingShape, ConnectionShape, SessionShape}
use Rattle.session.proofs.Shapes.{holding-shape, nothing-shape}
use Rattle.opening.specs.Opening.{Role, answerer, caller, first_phase, new_connection, opened, refused_opening, Opening, «open»}
use Rattle.opening.proofs.SoundOpening.{open-cases}

-- the bytes of a name are bytes
graphic-small : (xs : List ℕ) → within 33 126 xs ≡ true → (i : ℕ) → get_or xs i 0 < 2 ^ 8
graphic-small [] h i = lit< tt
graphic-small (x ∷ xs) h zero = let l = within-head 33 126 x xs h in omega arith
graphic-small (x ∷ xs) h (suc i) = graphic-small xs (within-tail 33 126 x xs h) i

none-shape : BindingShape no_binding
unfolding no_binding
none-shape = record { bound = lit< tt; updated = lit< tt; id = lit< tt; previous = lit< tt }

module _ (phase closed number : ℕ) (local remote : List ℕ) (p : phase < 2 ^ 32) (c : closed < 2 ^ 32) (n : number < 2 ^ 32) (a : length local ≤ 32)
    (b : length remote ≤ 32) (f : (i : ℕ) → get_or local i 0 < 2 ^ 8) (g : (i : ℕ) → get_or remote i 0 < 2 ^ 8) where
  new-shape : ConnectionShape (new_connection phase closed number local remote)
  unfolding new_connection binding_at
  new-shape = record {
    phase = p;
    closed = c;
    number = n;
    current = lit< tt;
    local_length = omega arith;
    remote_length = omega arith;
    local = pad-cells 32 local f;
    remote = pad-cells 32 remote g;
    places = refl;
    binding = λ i l. subst BindingShape (sym (get_or-replicate 8 i no_binding no_binding l)) none-shape;
  }

  empty-holding : SessionShape (holding nothing_sent (new_connection phase closed number local remote) [])
  empty-holding = holding-shape new-shape nothing-shape [] (omega arith) (λ i. lit< tt)

phase-small : (role : Role) → first_phase role < 2 ^ 32
phase-small answerer = lit< tt
phase-small (caller process relative) = lit< tt

pub opened-shape : (role : Role) (local remote : List ℕ) → name_ok local ≡ true → name_ok remote ≡ true → SessionShape (opened role local remote)
unfolding opened
opened-shape role local remote a b =
    empty-holding (first_phase role) 0 0 local remote (phase-small role) (lit< tt) (lit< tt) (name-most local a) (name-most remote b)
    (graphic-small local (name-graphic local a)) (graphic-small remote (name-graphic remote b))

refused-shape : (n : ℕ) → n < 2 ^ 32 → SessionShape (refused_opening n)
unfolding refused_opening
refused-shape n l = empty-holding 0 1 n [] [] (lit< tt) (lit< tt) l (omega arith) (omega arith) (λ i. lit< tt) (λ i. lit< tt)

pub open-shape : (role : Role) (local remote : List ℕ) (room : ℕ) → SessionShape («open» role local remote room).session
open-shape role local remote room =
    open-cases (λ (o : Opening). SessionShape o.session) role local remote room
    (refused-shape 1 (lit< tt))
    (refused-shape 3 (lit< tt))
    (λ a b. opened-shape role local remote a b)
