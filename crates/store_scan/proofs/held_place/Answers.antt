use Rattle.std.proofs.Common.{rules, ◌≡◌, get_or, length, sym, ◌∙◌}
use Rattle.store.proofs.Lookup.{blank_entry}
use Rattle.store_scan.proofs.Looking.{look, look-next, look-past, look-here, look-end, match-next, byte-within, byte-differs, matched, may-not, key-long}
use Rattle.store.proofs.Typed.{entries-shape}
use Rattle.store_scan.proofs.held_place.Goals as goal
use Rattle.store_scan.proofs.held_place.Goals.{then-codes-i+then-may_equal+else-n-j+then-bytes-j, then-codes-i+else-may_equal, else-codes-i}

pub entries-init : goal.entries-init
entries-init c =
    let n : length c.args.store.now.entries ≡ 128 = search rules in
    record { size = n; looking = look _ _ _ _ n }

pub bounds-bytes-j : goal.bounds-bytes-j
bounds-bytes-j c = byte-within _ _ c.bytes.invariant c.if-n-j.false

pub bounds-key-j : goal.bounds-key-j
bounds-key-j c = byte-within _ _ c.bytes.invariant c.if-n-j.false

pub bytes-preserved : goal.bytes-preserved
bytes-preserved c =
    let long : length c.args.entry.key ≡ 64 = search rules in
    let e-long : length (get_or c.args.store.now.entries c.entries.i blank_entry).key ≡ 64 = key-long _ (entries-shape _ _ c.type_inv.store.1.1.0) _ blank_entry c.if-i-ge-ENTRIES.false in
    match-next _ _ long e-long c.bytes.invariant c.if-n-j.false c.if-bytes-j.false

pub entries-preserved : goal.entries-preserved
entries-preserved c =
    let long : length c.args.entry.key ≡ 64 = search rules in
    elim c.if-codes-i.branch [
      | then-codes-i+then-may_equal+else-n-j+then-bytes-j w ↦
          let e-long : length (get_or c.args.store.now.entries c.entries.i blank_entry).key ≡ 64 = key-long _ (entries-shape _ _ c.type_inv.store.1.1.0) _ blank_entry c.if-i-ge-ENTRIES.false in
          record { size = c.entries.invariant.size; looking = look-next _ _ _ _ _ blank_entry c.if-i-ge-ENTRIES.false c.entries.invariant.looking (byte-differs _ _ long e-long w.bytes.invariant w.if-n-j.false w.if-bytes-j.true) }
      | then-codes-i+else-may_equal w ↦
          let e-long : length (get_or c.args.store.now.entries c.entries.i blank_entry).key ≡ 64 = key-long _ (entries-shape _ _ c.type_inv.store.1.1.0) _ blank_entry c.if-i-ge-ENTRIES.false in
          record { size = c.entries.invariant.size; looking = look-next _ _ _ _ _ blank_entry c.if-i-ge-ENTRIES.false c.entries.invariant.looking (may-not _ _ long e-long (sym w.may_equal.ensures ∙ w.if-may_equal.false)) }
      | else-codes-i w ↦
          record { size = c.entries.invariant.size; looking = look-past _ _ _ _ _ c.if-i-ge-ENTRIES.false c.entries.invariant.looking w.if-codes-i.false }
    ]

pub returns-then-i-ge-ENTRIES : goal.returns-then-i-ge-ENTRIES
returns-then-i-ge-ENTRIES c = look-end _ _ _ _ _ c.if-i-ge-ENTRIES.true c.entries.invariant.looking

pub returns-then-n-j : goal.returns-then-n-j
returns-then-n-j c =
    let long : length c.args.entry.key ≡ 64 = search rules in
    let e-long : length (get_or c.args.store.now.entries c.entries.i blank_entry).key ≡ 64 = key-long _ (entries-shape _ _ c.type_inv.store.1.1.0) _ blank_entry c.if-i-ge-ENTRIES.false in
    look-here _ _ _ _ _ blank_entry c.if-i-ge-ENTRIES.false c.entries.invariant.looking (matched _ _ long e-long c.bytes.invariant c.if-n-j.true)
