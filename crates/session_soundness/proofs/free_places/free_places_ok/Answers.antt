use Rattle.std.proofs.Common.{rules, tests, ◌∙◌, ◌||◌, eqb}
use Rattle.std.proofs.lemmas.Iterator.{YieldsList-from_slice, YieldsList-from_zip}
use Rattle.std.proofs.lemmas.Iterator.Search.{all_from_yields_List}
use Rattle.lists.proofs.Maps.{length-mapped}
use Rattle.session_soundness.specs.Sound.{no_ids}
use Rattle.session_soundness.proofs.RecordTests.{places_zipped}
use Rattle.session_soundness.proofs.free_places.free_places_ok.Goals as goal

pub returns : goal.returns
returns c =
    all_from_yields_List (λ p. eqb p.0.held 1 || no_ids p.1) c.all.new.self _ _ c.all.ensures.ran
    (YieldsList-from_zip {s = c.zip.result} (YieldsList-from_slice c.args.tables (cc)) (YieldsList-from_slice c.args.bindings (cc)))
    (λ x b q k. search (rules, tests))
    ∙ places_zipped c.args.tables c.args.bindings (search (rules, length-mapped))
