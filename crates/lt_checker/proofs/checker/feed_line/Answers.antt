use Rattle.std.proofs.Common.{◌∙◌, sym}
use Rattle.lt_checker.proofs.FirstTaken.{no_bytes}
use Rattle.lt_checker.proofs.checker.feed_line.Goals as goal

pub feed_first-requires : goal.feed_first-requires
feed_first-requires c = no_bytes c.args.rest.now.items (sym c.is_empty-begins.ensures ∙ c.if-begins.true)
