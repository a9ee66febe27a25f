use Rattle.std.proofs.Common.{map, arith}
use Rattle.std.proofs.lemmas.List.{length-map}
use Rattle.lt_table.specs.Seen.{entry_seen}
use Rattle.lt_letters.specs.Spelling.{EntryFits}
use Rattle.lt_letters.proofs.Passes.{next_passes, all_pass, map_at}
use Rattle.lt_letters.proofs.fitting.entries_fit.Goals as goal

pub loop-entry-preserved : goal.loop-entry-preserved
loop-entry-preserved c =
    let item = c.entry-item.result in
    next_passes EntryFits (map entry_seen c.args.entries.now) c.loop-entry.entry-index (entry_seen item) (entry_seen item)
    (map_at entry_seen c.args.entries.now c.loop-entry.entry-index item c.loop-entry-test.true c.entry-item.is) c.entry_fits.ensures c.loop-entry.invariant

pub returns : goal.returns
returns c = all_pass EntryFits (map entry_seen c.args.entries.now) c.loop-entry.entry-index (omega (arith, length-map c.args.entries.now entry_seen, c.loop-entry-test.false)) c.loop-entry.invariant
