-- Demand 3, for every sound record and store and every list of calls that kept their promise.
use mathlib.Core.Path.{◌≡◌, refl}
use mathlib.Core.List.{List}
use mathlib.Core.Bool.{true}
use Rattle.store.specs.declared.Store.{Store}
use Rattle.session.specs.declared.Session.{Session}
use Rattle.session.specs.Session.{unfinished}
use Rattle.session_soundness.specs.Sound.{sound}
use Rattle.receiver.specs.Ledger.{start_ledger}
use Rattle.receiver.specs.Demand3.{Called, Chain, Demand3}
use Rattle.receiver.proofs.Following.{starts-following}
use Rattle.receiver.proofs.LedgerAlong.{ledger-along}
use Rattle.receiver.proofs.Lawfully.{lawful, replies-short, folds, along-start}
use Rattle.receiver.proofs.Claimed.{claimed}

pub demand-3 : (s : Session) (t : Store) (calls : List Called) → sound s t ≡ true → Chain s t calls → Demand3 s t calls
demand-3 =
    claimed lawful replies-short folds along-start
    (λ s t cs c f g. ledger-along s t cs c f g (start_ledger s.connection) (starts-following s.connection) (unfinished s) (λ o. refl))
