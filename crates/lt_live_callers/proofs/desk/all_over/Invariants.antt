-- The callers before this one were asked.
use Rattle.std.proofs.Common.{◌≡◌, true}
use Rattle.lt_live_callers.specs.Desks.{IsAsked}
use Rattle.lt_live_callers.proofs.Asked.{FirstOver}
use Rattle.lt_live_callers.proofs.Places.{FirstGo}
use Rattle.lt_live_callers.proofs.desk.all_over.Given as goal

abbrev pub invariant-loop-place : goal.invariant-loop-place
invariant-loop-place g l = record {
  asked : FirstGo (IsAsked g.C.Caller.says) l.place l.initial.desks.items l.desks.items;
  over : l.over ≡ true → FirstOver l.place l.desks.items;
}
