use Rattle.std.proofs.Common.{rules, ◌++◌, take, arith, length-take, length-append}
use Rattle.lt_io.proofs.Pieces.{read_more, fails_later, gives_up}
use Rattle.lt_checker.proofs.Feeding.{fed_more}
use Rattle.lt_checker.proofs.rest.feed_all.Goals as goal

pub returns-in_err-count-clause-err : goal.returns-in_err-count-clause-err
returns-in_err-count-clause-err g c =
    let read = c.loop-count.invariant in
    let fails = fails_later _ read.0 _ c.args.limit _ _ _ read.2 read.3 c.in_err-count.ensures.err in
    search (rules, fails)

pub returns-in_err-feed-clause-err : goal.returns-in_err-feed-clause-err
returns-in_err-feed-clause-err g c =
    let read = c.loop-count.invariant in
    let piece = take c.in_ok-count.count c.read_piece.new.buf in
    let more = read_more read.0 piece _ _ _ read.3 (c.in_ok-count.ensures.piece (omega (arith, c.if-count-eq0.false))) in
    let fails = gives_up (read.0 ++ piece) c.args.limit _ _
    (omega (arith, length-append read.0 piece, length-take c.in_ok-count.count c.read_piece.new.buf, read.2, c.in_ok-count.ensures.within.0)) more in
    search (rules, fails)

pub loop-count-preserved : goal.loop-count-preserved
loop-count-preserved g c =
    let read = c.loop-count.invariant in
    let piece = take c.in_ok-count.count c.read_piece.new.buf in (
      read.0 ++ piece,
      fed_more read.0 piece _ _ _ read.1 c.in_ok-feed.ensures.ok c.in_ok-feed.ensures.stands,
      omega (arith, length-append read.0 piece, length-take c.in_ok-count.count c.read_piece.new.buf, read.2, c.in_ok-count.ensures.within.0, c.in_ok-count.ensures.within.1),
      read_more read.0 piece _ _ _ read.3 (c.in_ok-count.ensures.piece (omega (arith, c.if-count-eq0.false))),
    )
