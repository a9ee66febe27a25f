use Rattle.std.proofs.Common.{Some, None}
use Rattle.clap.specs.Words.{found_of}
use Rattle.lt_words.proofs.Forms.{text_is}
use Rattle.lt_words.proofs.command.text_at.Goals as goal

pub returns-in-Some : goal.returns-in-Some
returns-in-Some c = text_is (found_of c.args.matches.now) c.args.id.now (Some c.in-Some.text.now) c.in-Some.ensures

pub returns-in-None : goal.returns-in-None
returns-in-None c = text_is (found_of c.args.matches.now) c.args.id.now None c.in-None.ensures
