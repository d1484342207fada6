use Rattle.std.proofs.Common.{rules, ◌≡◌, length, ◌∙◌, sym}
use Rattle.store_scan.proofs.Scanning.{scan-by-keys, scan-by-hashes}
use Rattle.store_scan.proofs.scan.Goals as goal

pub returns-then-hashes_distinct : goal.returns-then-hashes_distinct
returns-then-hashes_distinct c =
    let size : length c.codes_of-codes.result ≡ 128 = search rules in
    scan-by-hashes _ _ _ size c.codes_of-codes.ensures _ c.held_hash.ensures _ c.held_place-found.ensures (sym c.if-hashes_distinct.true ∙ c.hashes_distinct.ensures) _ c.by_hashes.ensures

pub returns-else-hashes_distinct : goal.returns-else-hashes_distinct
returns-else-hashes_distinct c =
    let size : length c.codes_of-codes.result ≡ 128 = search rules in
    scan-by-keys _ _ _ size c.codes_of-codes.ensures _ c.held_hash.ensures _ c.held_place-found.ensures _ c.by_keys.ensures
