use Rattle.std.proofs.Common.{◌≡◌, List, sym, ap, ◌∙◌, slice_set}
use Rattle.std.proofs.lemmas.List.{get_or_default}
use Rattle.std.proofs.lemmas.Result.{on_ok_weaker}
use Rattle.lt_nest.specs.declared.answers.Asked.TheVariants.{Granted, Waits}
use Rattle.lt_nest.specs.Locks.{LockSet, no_set, with_lock}
use Rattle.lt_nest.specs.Calls.{queued, sets_asked}
use Rattle.lt_nest.proofs.sets.take_in.Goals as goal

pub returns-in-Granted-clause-sets : goal.returns-in-Granted-clause-sets
returns-in-Granted-clause-sets c =
    let sets : List LockSet = c.args.sets.now in
    on_ok_weaker c.lock.result (λ locked.
    ap (slice_set sets c.args.set) (locked ∙ ap (λ (s : LockSet). with_lock s c.args.x c.args.mode) (get_or_default sets c.args.set c.index-sets-k.result no_set c.requires.set))
    ∙ ap (sets_asked sets c.args.x c.args.set c.args.mode) (sym c.in-Granted.is))
    c.lock.ensures.locked

pub returns-in-Granted-clause-room : goal.returns-in-Granted-clause-room
returns-in-Granted-clause-room c =
    on_ok_weaker c.lock.result (λ locked waits.
    let wrong : Granted ≡ Waits = sym c.in-Granted.is ∙ waits in
    absurd (cc wrong))
    c.lock.ensures.locked

pub returns-in_ok-reserve-in-Waits-clause-sets : goal.returns-in_ok-reserve-in-Waits-clause-sets
returns-in_ok-reserve-in-Waits-clause-sets c =
    let sets : List LockSet = c.args.sets.now in
    on_ok_weaker c.wait.result (λ waits.
    ap (slice_set sets c.args.set) (waits ∙ ap (λ (s : LockSet). queued s c.args.x c.args.mode) (get_or_default sets c.args.set c.index-sets-k-in-Waits.result no_set c.requires.set))
    ∙ ap (sets_asked sets c.args.x c.args.set c.args.mode) (sym c.in-Waits.is))
    c.wait.ensures.queued
