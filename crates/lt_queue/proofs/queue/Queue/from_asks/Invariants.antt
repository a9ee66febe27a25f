use Rattle.std.proofs.Common.{◌≡◌, ◌≤◌, ◌<◌, ◌^◌, length, take}
use Rattle.lt_queue.proofs.queue.Queue.from_asks.Given as goal

abbrev pub invariant-loop-ask : goal.invariant-loop-ask
invariant-loop-ask l = (l.queue.asks ≡ take l.ask-index l.asks) × (length l.asks ≤ l.queue.room)
