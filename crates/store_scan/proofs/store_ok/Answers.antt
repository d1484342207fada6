use mathlib.Core.Path.{◌∙◌}
use Rattle.store_scan.proofs.Testing.{tables-fail, entries-tell}
use Rattle.store_scan.proofs.store_ok.Goals as goal

pub returns-then-not-tables_ok : goal.returns-then-not-tables_ok
returns-then-not-tables_ok c = tables-fail _ _ c.tables_ok.ensures c.if-not-tables_ok.true

pub returns : goal.returns
returns c = c.is_some.ensures ∙ entries-tell _ _ c.tables_ok.ensures c.if-not-tables_ok.false _ _ c.scan.ensures
