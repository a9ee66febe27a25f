-- The new ring and where its ends are.
use Rattle.lt_mail.proofs.opening.add_link.Goals as goal

pub returns : goal.returns
returns c = record {
  out = c.in_ok-out.out;
  into = c.in_ok-out.into;
  mid = c.add_out.new.mails.items;
  outs = c.in_ok-add_out.ensures;
  ins = c.in_ok-add_in.ensures;
  new = c.in_ok-out.ensures;
}
