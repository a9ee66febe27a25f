use Rattle.std.proofs.Common.{rules, ◌<◌, ◌++◌, List, length, map, take, ap, sym, ◌∙◌, arith}
use Rattle.std.specs.List.{flat_map}
use Rattle.std.proofs.lemmas.List.{length-map, take-map, get_or-map}
use Rattle.lt_modes.specs.State.{Entry}
use Rattle.lt_table.specs.Seen.{entry_seen}
use Rattle.lt_letters.specs.Spelling.{entry_bytes}
use Rattle.lt_letters.proofs.Puts.{part_fails, next_within}
use Rattle.lt_letters.proofs.writing.put_each_entry.Goals as goal

pub returns-in_err-put_entry : goal.returns-in_err-put_entry
returns-in_err-put_entry c =
    let xs = c.args.entries.now in
    let i = c.loop-entry.entry-index in
    let below : i < length xs = search rules in
    let inside : i < length (map entry_seen xs) = omega (arith, below, length-map xs entry_seen) in
    part_fails (flat_map entry_bytes (take i (map entry_seen xs))) (entry_bytes (entry_seen c.entry-item.result)) (flat_map entry_bytes (map entry_seen xs))
    c.args.out.now c.loop-entry.out c.put_entry.new.out c.put_entry.result c.from_residual.result c.in_err-put_entry.field-0.0
    (next_within entry_bytes (map entry_seen xs) i _ (entry_seen c.entry-item.result) inside
    (ap entry_seen c.entry-item.is ∙ sym (get_or-map entry_seen xs i _ (entry_seen c.entry-item.result) below)))
    (c.loop-entry.invariant.0 ∙ ap (λ (list : List Entry). c.args.out.now.items ++ flat_map entry_bytes list) (sym (take-map entry_seen i xs)))
    c.loop-entry.invariant.1 c.put_entry.ensures c.in_err-put_entry.was c.from_residual.ensures.0
