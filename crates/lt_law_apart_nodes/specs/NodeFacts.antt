-- What a runner says of its node, as a law.
use Rattle.std.specs.Prelude.{◌≡◌, ◌≢◌, ◌++◌, ℕ}
use Rattle.lt_modes.specs.Script.{ScriptData}
use Rattle.lt_spec.specs.NodeMove.{with_commands, AreAt}
use Rattle.lt_spec.specs.Script.{IsScript}
use Rattle.lt_mail.specs.declared.mail.Mail.{Mail}
use Rattle.lt_mail.specs.Words.{sent_to, given_to, taken_from, known_from}
use Rattle.lt_runner.specs.declared.parts.Parts.{Parts}
use Rattle.lt_runner.specs.Kept.{RunnerInvariant}
use Rattle.lt_threads.specs.Meeting.{part_of}
use Rattle.lt_law_apart.specs.Apart.{NodeNow, IsNodeNow}

-- of each other node there is a mail, by which its letters come in and those for it go out: the runner of node x and it
-- have looked at the rings between them
pub record HasLooked (x : ℕ) (p : Parts) (far : ℕ → Mail) : Type 0 where
  pub came : (q : ℕ) → q ≢ x → taken_from p.mail q ++ known_from p.mail q ≡ given_to (far q) x
  pub went : (q : ℕ) → q ≢ x → taken_from (far q) x ++ known_from (far q) x ≡ given_to p.mail q

-- what was brought was put into those mails, and what was given out was taken from them
abbrev pub now_of : ℕ → Parts → (ℕ → Mail) → NodeNow
now_of x p far = record {
  commands = p.node.script.commands;
  part = part_of p;
  brought = λ q. sent_to (far q) x;
  given = λ q. taken_from (far q) x;
}

-- so the node is one of those whose letters are carried
abbrev pub NodeIsNow : Type 0
NodeIsNow = (first : ScriptData) (x : ℕ) (p : Parts) (far : ℕ → Mail)
    → IsScript p.node.script → p.node.script ≡ with_commands first p.node.script.commands
    → AreAt first x p.node.script.commands → p.node.me ≡ x → RunnerInvariant p → HasLooked x p far
    → IsNodeNow first x (now_of x p far)
