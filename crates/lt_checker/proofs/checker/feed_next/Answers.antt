use Rattle.std.proofs.Common.{◌+◌, ap, arith, length, length-drop, refl}
use Rattle.lt_checker.proofs.Pieces.{none_found, one_found, next_line, first_cut}
use Rattle.lt_checker.proofs.checker.feed_next.Goals as goal

pub returns-in_default-clause-fed : goal.returns-in_default-clause-fed
returns-in_default-clause-fed c = (none_found c.args.bytes.now c.in_default.ensures, refl)

pub returns-clause-fed : goal.returns-clause-fed
returns-clause-fed c =
    let bytes = c.args.bytes.now in
    let cut = first_cut bytes c.in-Some.end c.in-Some.ensures in
    record {
      shorter = omega (arith, ap length c.split_at-2.ensures.back, length-drop (c.in-Some.end + 1) bytes, cut.inside);
      ends = one_found bytes c.in-Some.end c.in-Some.ensures;
      fed = next_line c.args.reader.now.script c.args.reader.now.reader c.end_line.new.reader.reader c.args.rest.now.items c.end_line.new.rest.items bytes c.split_at.result.0.now
          c.split_at-2.result.1.now c.in-Some.end c.end_line.ensures.few c.in-Some.ensures c.split_at.ensures.front c.split_at-2.ensures.back c.in_ok-end_line.ensures.read c.in_ok-end_line.ensures.empty;
    }
