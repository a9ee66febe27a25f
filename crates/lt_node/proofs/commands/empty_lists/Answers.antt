use Rattle.std.proofs.Common.{◌∙◌, ◌+◌, ℕ, List, ap, arith, length, refl}
use Rattle.std.proofs.lemmas.List.{length_push}
use Rattle.lt_node.specs.Clients.{Progress, no_progress, progress_of}
use Rattle.lt_node.proofs.RequestLemmas.{idle_more}
use Rattle.lt_node.proofs.commands.empty_lists.Goals as goal

pub loop-client-preserved : goal.loop-client-preserved
loop-client-preserved c =
    let pushed = c.in_ok-push_idle.ensures in
    record {
      count = ap (λ (l : List Progress). length l) pushed ∙ length_push c.loop-client.lists.items no_progress ∙ ap (λ (n : ℕ). n + 1) c.loop-client.invariant.count;
      idle = λ k. idle_more c.loop-client.lists.items c.push_idle.new.clients.items no_progress k pushed refl c.loop-client.invariant.idle;
    }

pub loop-client-init : goal.loop-client-init
loop-client-init c = record {
  count = ap (λ (l : List Progress). length l) c.in_ok-lists.ensures.items;
  idle = λ k. ap (λ (l : List Progress). progress_of l k) c.in_ok-lists.ensures.items;
}

pub returns-clause-count : goal.returns-clause-count
returns-clause-count c = omega (arith, c.loop-client.invariant.count, c.loop-client-test.false, c.clients-count.ensures.clients)

pub returns-clause-idle : goal.returns-clause-idle
returns-clause-idle c = c.loop-client.invariant.idle
