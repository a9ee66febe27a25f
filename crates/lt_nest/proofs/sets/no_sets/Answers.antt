use Rattle.std.proofs.Common.{◌≡◌, ◌++◌, [], ◌∷◌, List, ap, ap₂, arith, replicate, ◌∙◌}
use Rattle.std.proofs.lemmas.List.{replicate-append-replicate}
use Rattle.lt_nest.specs.Locks.{LockSet, no_set}
use Rattle.lt_nest.proofs.sets.no_sets.Goals as goal

pub loop-k-init : goal.loop-k-init
loop-k-init c = c.new-made.ensures.items

pub loop-k-preserved : goal.loop-k-preserved
loop-k-preserved c =
    c.in_ok-push.ensures.items
    ∙ ap₂ (λ (sets : List LockSet) (s : LockSet). sets ++ s ∷ []) c.loop-k.invariant c.new.ensures
    ∙ replicate-append-replicate c.loop-k.k 1 no_set

pub returns : goal.returns
returns c =
    let all : c.loop-k.k ≡ c.args.sets = omega (arith, c.loop-k.auto.k-end, c.loop-k-test.false) in
    c.loop-k.invariant ∙ ap (λ n. replicate n no_set) all
