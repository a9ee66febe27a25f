use Rattle.std.proofs.Common.{rules, ◌<◌, ◌++◌, length, take, arith, length-take, length-append}
use Rattle.lt_io.proofs.Pieces.{read_more, fails_later, gives_up, some_given}
use Rattle.lt_io.proofs.whole.read_all.Goals as goal

pub returns-in_err-count-clause-err : goal.returns-in_err-count-clause-err
returns-in_err-count-clause-err g c =
    let so_far = c.loop-bytes.invariant in
    let fails = fails_later _ c.loop-bytes.bytes.items _ c.args.limit _ _ _ (omega (arith, so_far.no_longer)) so_far.read c.in_err-count.ensures.err in
    search (rules, fails)

pub returns-in_err-extend_from_slice-clause-err : goal.returns-in_err-extend_from_slice-clause-err
returns-in_err-extend_from_slice-clause-err g c =
    let so_far = c.loop-bytes.invariant in
    let first = c.loop-bytes.bytes.items in
    let piece = take c.in_ok-count.count c.read_piece.new.buf in
    let all = read_more first piece _ _ _ so_far.read (c.in_ok-count.ensures.piece (omega (arith, c.if-count-eq0.false))) in
    let fails = gives_up (first ++ piece) c.args.limit _ _ (omega (arith, so_far.no_longer, length-append first piece, length-take c.in_ok-count.count c.read_piece.new.buf, c.in_ok-count.ensures.within.0)) all in
    search (rules, fails)

pub returns-in_err-extend_from_slice-clause-memory : goal.returns-in_err-extend_from_slice-clause-memory
returns-in_err-extend_from_slice-clause-memory g c =
    let so_far = c.loop-bytes.invariant in
    let first = c.loop-bytes.bytes.items in
    let piece = take c.in_ok-count.count c.read_piece.new.buf in
    let some_came : 0 < c.in_ok-count.count = omega (arith, c.if-count-eq0.false) in
    let all = read_more first piece _ _ _ so_far.read (c.in_ok-count.ensures.piece some_came) in
    let long : 0 < length (first ++ piece) = omega (arith, length-append first piece, length-take c.in_ok-count.count c.read_piece.new.buf, c.in_ok-count.ensures.within.1, some_came) in
    let came = some_given _ _ _ long all in
    search (rules, came)
