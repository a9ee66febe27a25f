-- What a result says of the room that was made.
use Rattle.std.proofs.Common.{◌≡◌, ℕ, true, false, Option, Result, Ok, Err, OnOk, refl, ap, ◌∙◌}
use Rattle.std.specs.Prelude.{is_err}
use Rattle.lt_desk.specs.DeskData.{OutData}
use Rattle.lt_log.specs.LogData.{LogData}
use Rattle.lt_node.specs.NodeData.{NodeData, SameNode}
use Rattle.lt_mail.specs.Words.{SameEnds, sent_to, in_at, on_in, taken}
use Rattle.lt_mail.specs.declared.lane.InLane.{InLane}
use Rattle.lt_mail.specs.declared.mail.Mail.{Mail}
use Rattle.lt_mail.proofs.LookLemmas.{ends_same}
use Rattle.lt_runner.specs.declared.parts.Parts.{Parts}
use Rattle.lt_runner.specs.Kept.{AsSeen}
use Rattle.lt_runner.proofs.KeptLemmas.{holds_same}

-- where it is no error
pub no_error : {T E P : Type 0} (result : Result T E) → is_err result ≡ false → OnOk result P → P
no_error (Ok value) e p = p
no_error (Err error) e p = absurd (cc)

-- what holds with more
pub with_more : {T E P Q : Type 0} (result : Result T E) → (P → Q) → OnOk result P → OnOk result Q
with_more (Ok value) more p = more p
with_more (Err error) more p = tt

-- What only memory differs in.

-- the node's
pub node_seen : (a : Parts) (node : NodeData) (out : OutData) → SameNode a.node node → AsSeen a (record a { node = node; out = out })
node_seen a node out same = record {
  same = record { script = same.script; me = same.me; limit = refl; gone = refl; commands_gone = same.gone; ends = ends_same a.mail };
  state = same.state;
  log = refl;
  sent = λ to. refl;
  used = λ from letters e. e;
  hand = holds_same a.hand;
}

-- the log's and the mail's
pub rest_seen : (a : Parts) (log : LogData) (mail : Mail) → log.entries ≡ a.log.entries → log.gone ≡ a.log.gone
    → ((to : ℕ) → sent_to mail to ≡ sent_to a.mail to) → ((from : ℕ) → in_at mail from ≡ in_at a.mail from) → SameEnds a.mail mail
    → AsSeen a (record a { log = log; mail = mail })
rest_seen a log mail entries gone sent ins ends = record {
  same = record { script = refl; me = refl; limit = refl; gone = gone; commands_gone = refl; ends = ends };
  state = refl;
  log = entries;
  sent = sent;
  used = λ from letters e. ap (λ (o : Option InLane). on_in taken o) (ins from) ∙ e;
  hand = holds_same a.hand;
}
