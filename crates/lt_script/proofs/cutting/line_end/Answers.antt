use Rattle.lt_script.proofs.FirstLineEnd.{place_found}
use Rattle.lt_script.proofs.cutting.line_end.Goals as goal

pub returns : goal.returns
returns c = place_found c.args.bytes.now c.memchr.result c.memchr.ensures
