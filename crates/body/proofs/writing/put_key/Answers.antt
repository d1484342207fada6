use Rattle.std.proofs.Common.{rules, sym, ap, ◌∙◌, ℕ, List, ◌++◌, length}
use Rattle.lists.proofs.Cases.{cond-true, cond-false}
use Rattle.store.specs.Limits.{key_kind, is_string}
use Rattle.wire.specs.Integer.{encode_int}
use Rattle.wire.proofs.Writing.{writes-as}
use Rattle.body.specs.Encodings.{key_bytes}
use Rattle.body.proofs.writing.WritingLaws.{key-taken}
use Rattle.body.proofs.writing.put_key.Goals as goal

pub returns-then-is_string : goal.returns-then-is_string
unfolding key_bytes
returns-then-is_string c =
    let same = key-taken c.args.entry c.min-n.result c.min-n.ensures (search rules) in
    let test = sym (c.if-is_string.ensures ∙ ap is_string c.key_kind.ensures) in
    writes-as (ap (λ (l : List ℕ). encode_int (length l) ++ l) same ∙ sym (cond-true (is_string (key_kind c.args.key_type)) _ _ test)) c.put_counted.ensures

pub returns-else-is_string : goal.returns-else-is_string
unfolding key_bytes
returns-else-is_string c =
    let same = key-taken c.args.entry c.min-n.result c.min-n.ensures (search rules) in
    let test = sym (c.if-is_string.ensures ∙ ap is_string c.key_kind.ensures) in
    writes-as (same ∙ sym (cond-false (is_string (key_kind c.args.key_type)) _ _ test)) c.put.ensures
