-- Demand 3 for every list of exported calls on an opened record and any sound store.
use Prim.Native.Nat.{ℕ}
use mathlib.Core.Path.{◌≡◌, sym, subst}
use mathlib.Core.Bool.{true}
use mathlib.Core.List.{List}
use lib.ListN.{length}
use Rattle.store.specs.declared.Store.{Store}
use Rattle.store.specs.Shape.{StoreShape}
use Rattle.store.specs.Sound.{sound_store}
use Rattle.store.proofs.Kept.{empty-shape}
use Rattle.store.proofs.Ruled.{empty-sound}
use Rattle.session.specs.declared.Session.{Session}
use Rattle.opening.specs.Opening.{Role, «open», opened_of}
use Rattle.opening.proofs.SoundOpening.{open-sound}
use Rattle.opening.proofs.ShapedOpening.{open-shape}
use Rattle.receiver.specs.Promise.{Shaped}
use Rattle.peers.specs.declared.numbers.RawOpened.{RawOpened}
use Rattle.peers.specs.Numbers.{raw_opened}
use Rattle.peers.specs.ExportedDemand3.{RawCalled, RawChain}
use Rattle.peers.specs.ExportedCorollaries.{Started, FromTheStart, FromTheEmptyStore}
use Rattle.peers.proofs.ExportedDemand3.{exported-demand-3}
use Rattle.peers.proofs.ExportedCorollaries.{raw-bytes-offered}

module _ (role : Role) (local remote room : List ℕ) (t : Store) (f : sound_store t ≡ true) (shape : StoreShape t) where
  abbrev new : Session
  new = («open» role local remote (length room)).session

  started : (calls : List RawCalled) → RawChain new t calls → Started new t calls
  started calls c =
      let h = open-sound role local remote (length room) t f in
      let shaped : Shaped new t = record { session = open-shape role local remote (length room); store = shape } in
      let d = exported-demand-3 new t calls h c in
      record { sound = h; demand = d; exists = d.exists shaped; offered = raw-bytes-offered new t h shaped }

pub from-the-start : FromTheStart
unfolding raw_opened opened_of
from-the-start role local remote room o t calls e f shape =
    subst (λ (x : RawOpened). RawChain x.session t calls → Started x.session t calls) (sym e) (started role local remote room t f shape calls)

pub from-the-empty-store : FromTheEmptyStore
from-the-empty-store role local remote room o t calls e q =
    from-the-start role local remote room o t calls e (rw q empty-sound) (rw q empty-shape)
