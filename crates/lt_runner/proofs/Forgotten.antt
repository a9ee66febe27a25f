-- A runner that forgot its moves, or the commands, is one still.
use Rattle.std.proofs.Common.{◌≡◌, ℕ, List, length, sym, ap, subst, arith}
use Rattle.lt_spec.specs.World.{Logged, start}
use Rattle.lt_spec.specs.Plays.{Plays}
use Rattle.lt_log.specs.LogData.{LogData}
use Rattle.lt_mail.specs.Words.{sent_to}
use Rattle.lt_node.specs.NodeData.{state_of}
use Rattle.lt_runner.specs.declared.parts.Parts.{Parts}
use Rattle.lt_runner.specs.Kept.{RunnerInvariant}

pub kept_forgotten : (p : Parts) (log : LogData) → RunnerInvariant p → log.entries ≡ p.log.entries → RunnerInvariant (record p { log = log })
kept_forgotten p log h same = record {
  used = h.used;
  me = h.me;
  below = h.below;
  outs = h.outs;
  ins = h.ins;
  plays = subst (λ (entries : List Logged). Plays p.node.script p.node.me ((start p.node.script).node p.node.me) entries h.used (sent_to p.mail) (state_of p.node))
      (sym same) h.plays;
  taken = h.taken;
  hand = h.hand;
  names = h.names;
  bounded = omega (arith, h.bounded, ap (λ (entries : List Logged). length entries) same);
  posts = h.posts;
  events = h.events;
  idle = h.idle;
}

pub kept_without : (p : Parts) (gone : ℕ) → RunnerInvariant p → RunnerInvariant (record p { node = record p.node { gone = gone } })
kept_without p gone h = record {
  used = h.used;
  me = h.me;
  below = h.below;
  outs = h.outs;
  ins = h.ins;
  plays = h.plays;
  taken = h.taken;
  hand = h.hand;
  names = h.names;
  bounded = h.bounded;
  posts = h.posts;
  events = h.events;
  idle = h.idle;
}
