use Rattle.std.proofs.Common.{◌≡◌, ◌<◌, ◌+◌, ◌-◌, ◌∙◌, ◌==◌, ◌&&◌, ◌||◌, ℕ, Bool, ap, subst, sym, arith, drop, length, slice_index_or}
use Rattle.lt_modes.specs.declared.ask.Ask.{Ask}
use Rattle.lt_modes.specs.Fits.{has_client}
use Rattle.lt_modes.specs.Serving.{queue_of}
use Rattle.lt_modes.specs.State.{no_ask}
use Rattle.lt_modes.specs.Waiting.{is_before}
use Rattle.lt_node.specs.Marks.{AreAdded}
use Rattle.lt_node.proofs.AddedLemmas.{before_none, later_none, before_more, later_more}
use Rattle.lt_node.proofs.behind.mark_queued.Goals as goal

pub loop-k-init : goal.loop-k-init
loop-k-init c =
    let queue = queue_of c.args.core.now.state in
    record {
      within = omega (arith, c.queue_len-k.ensures);
      later = later_none c.args.client queue ∙ ap (λ (n : ℕ). has_client c.args.client (drop n queue)) (sym c.queue_len-k.ensures);
      added = subst (λ (n : ℕ). AreAdded (λ other. is_before other c.args.client (drop n queue)) c.args.marks.now.items c.args.marks.now.items) (sym c.queue_len-k.ensures)
          (before_none c.args.client queue c.args.marks.now.items);
    }

pub loop-k-preserved : goal.loop-k-preserved
loop-k-preserved c =
    let queue = queue_of c.args.core.now.state in
    let client = c.args.client in
    let k = c.loop-k.k - 1 in
    let one_more : c.loop-k.k ≡ k + 1 = omega arith in
    let inside : k < length queue = omega (arith, c.loop-k.invariant.within) in
    let later : c.loop-k.later ≡ has_client client (drop (k + 1) queue) = c.loop-k.invariant.later ∙ ap (λ (n : ℕ). has_client client (drop n queue)) one_more in
    let before : AreAdded (λ other. is_before other client (drop (k + 1) queue)) c.args.marks.now.items c.loop-k.marks.items =
    subst (λ (n : ℕ). AreAdded (λ other. is_before other client (drop n queue)) c.args.marks.now.items c.loop-k.marks.items) one_more c.loop-k.invariant.added in
    let here : AreAdded (λ other. (slice_index_or queue k no_ask).client == other && c.loop-k.later) c.loop-k.marks.items c.mark_if.new.marks.items =
    subst (λ (ask : Ask). AreAdded (λ other. ask.client == other && c.loop-k.later) c.loop-k.marks.items c.mark_if.new.marks.items) c.queued-other.ensures c.mark_if.ensures in
    record {
      within = omega (arith, c.loop-k.invariant.within);
      later = ap (λ (ask : Ask). ask.client == client) c.queued-other.ensures
          ∙ ap (λ (b : Bool). b || ((slice_index_or queue k no_ask).client == client)) (sym c.if-later.false)
          ∙ later_more client k c.loop-k.later queue inside later;
      added = before_more client k c.loop-k.later queue c.args.marks.now.items c.loop-k.marks.items c.mark_if.new.marks.items inside later before here;
    }
