use Rattle.std.proofs.Common.{rules, ◌≢◌, ◌<◌, ◌≤◌, ◌++◌, append-nil, List, ℕ, length, map, arith, ap, refl, sym, subst, ◌∙◌, slice_index_or, append_assoc, length-append, length-set, get_or-set_other}
use Rattle.std.proofs.lemmas.List.{length-map, get_or_default}
use Rattle.std.proofs.lemmas.List.Elements.{All-get_or}
use Rattle.std.proofs.lemmas.List.Sums.{sum_by-set, get_or-le-sum_by}
use Rattle.lt_nest.specs.declared.locks.Ask.{Ask}
use Rattle.lt_nest.specs.Locks.{LockSet, no_set, Grant, serve_set, grant_in}
use Rattle.lt_nest.specs.Kept.{NoneFree, load, tallies_granted, after_change}
use Rattle.lt_nest.proofs.ServedSets.{load_served, asks_served}
use Rattle.lt_nest.proofs.ChangedSets.{load_changed, asks_changed, next_changed, next_grants, sets_left, grants_left}
use Rattle.lt_nest.proofs.GrantedWishes.{granted_append}
use Rattle.lt_nest.proofs.serving.serve_changed.Goals as goal

pub serve_if_changed-requires-clause-none_free : goal.serve_if_changed-requires-clause-none_free
serve_if_changed-requires-clause-none_free c =
    let sets : List LockSet = c.loop-k.sets in
    let within : c.loop-k.k < length sets = rw c.loop-k.auto.sets c.loop-k-test.true in
    subst (λ (s : LockSet). NoneFree c.args.transactions.now s) (get_or_default sets c.loop-k.k no_set c.index-sets-k.result within) (c.loop-k.invariant.none_free c.loop-k.k (omega arith) within)

pub loop-k-preserved : goal.loop-k-preserved
loop-k-preserved c =
    let k : ℕ = c.loop-k.k in
    let sets : List LockSet = c.loop-k.sets in
    let d : LockSet = c.index-sets-k.result in
    let s : LockSet = slice_index_or sets k d in
    let within : k < length sets = rw c.loop-k.auto.sets c.loop-k-test.true in
    let queued : LockSet → ℕ = λ t. length t.queue in
    let changed : LockSet = after_change c.args.transactions.now c.args.change s in
    let made : List Ask = (serve_set c.args.transactions.now changed).grants in
    let after : LockSet = (serve_set c.args.transactions.now changed).set in
    let told = next_grants c.args.transactions.now c.args.change k sets d s within refl in
    record {
      sets = rw c.serve_if_changed.ensures.set (next_changed c.args.transactions.now c.args.change k sets d s within refl ∙ c.loop-k.invariant.sets);
      grants = rw (c.serve_if_changed.ensures.grants, c.serve_if_changed.ensures.set)
          (append_assoc c.loop-k.grants.items (map (grant_in k) made) _
          ∙ ap (λ (more : List Grant). c.loop-k.grants.items ++ more) (sym told) ∙ c.loop-k.invariant.grants);
      tallies = rw (c.serve_if_changed.ensures.tallies, c.serve_if_changed.ensures.set)
          (sym (granted_append c.loop-k.tallies.items (map (grant_in k) made) _)
          ∙ ap (λ (more : List Grant). tallies_granted c.loop-k.tallies.items more) (sym told) ∙ c.loop-k.invariant.tallies);
      none_free = λ j from below.
          let other : j ≢ k = λ same. omega (arith, from, same) in
          subst (λ (t : LockSet). NoneFree c.args.transactions.now t) (sym (get_or-set_other sets k j _ no_set other))
          (c.loop-k.invariant.none_free j (omega (arith, from)) (omega (arith, below, length-set sets k c.serve_if_changed.new.set)));
      count = rw c.serve_if_changed.ensures.set
          (omega (
            arith,
            sum_by-set load sets k after d within,
            load_served c.args.transactions.now changed,
            load_changed c.args.transactions.now c.args.change s,
            c.loop-k.invariant.count,
          ));
      room = rw (c.serve_if_changed.ensures.set, c.serve_if_changed.ensures.capacity)
          (omega (
            arith,
            sum_by-set queued sets k after d within,
            asks_served c.args.transactions.now changed,
            asks_changed c.args.transactions.now c.args.change s,
            ap length c.serve_if_changed.ensures.grants,
            length-append c.loop-k.grants.items (map (grant_in k) made),
            length-map made (grant_in k),
            c.loop-k.invariant.room,
          ));
      capacity = c.serve_if_changed.ensures.capacity ∙ c.loop-k.invariant.capacity;
    }

pub loop-k-init : goal.loop-k-init
loop-k-init c = record {
  sets = refl;
  grants = refl;
  tallies = refl;
  none_free = λ j from below. All-get_or (NoneFree c.args.transactions.now) c.args.sets.now j no_set below c.requires.none_free;
  count = omega arith;
  room = c.requires.room;
  capacity = refl;
}

pub serve_if_changed-requires-clause-forest : goal.serve_if_changed-requires-clause-forest
serve_if_changed-requires-clause-forest c = c.requires.forest

pub serve_if_changed-requires-clause-count : goal.serve_if_changed-requires-clause-count
serve_if_changed-requires-clause-count c =
    let within : c.loop-k.k < length c.loop-k.sets = rw c.loop-k.auto.sets c.loop-k-test.true in
    omega (arith, get_or-le-sum_by load c.loop-k.sets c.loop-k.k c.index-sets-k.result within, c.loop-k.invariant.count, c.requires.count)

pub serve_if_changed-requires-clause-may : goal.serve_if_changed-requires-clause-may
serve_if_changed-requires-clause-may c = c.requires.may

pub serve_if_changed-requires-clause-room : goal.serve_if_changed-requires-clause-room
serve_if_changed-requires-clause-room c =
    let within : c.loop-k.k < length c.loop-k.sets = rw c.loop-k.auto.sets c.loop-k-test.true in
    omega (arith, get_or-le-sum_by (λ (t : LockSet). length t.queue) c.loop-k.sets c.loop-k.k c.index-sets-k.result within, c.loop-k.invariant.room)

pub returns-clause-sets : goal.returns-clause-sets
returns-clause-sets c =
    let whole : length c.loop-k.sets ≤ c.loop-k.k = rw c.loop-k.auto.sets c.loop-k-test.false in
    sym (sets_left c.args.transactions.now c.args.change c.loop-k.k c.loop-k.sets whole) ∙ c.loop-k.invariant.sets

pub returns-clause-grants : goal.returns-clause-grants
returns-clause-grants c =
    let whole : length c.loop-k.sets ≤ c.loop-k.k = rw c.loop-k.auto.sets c.loop-k-test.false in
    sym (ap (λ (more : List Grant). c.loop-k.grants.items ++ more) (grants_left c.args.transactions.now c.args.change c.loop-k.k c.loop-k.sets whole) ∙ append-nil c.loop-k.grants.items)
    ∙ c.loop-k.invariant.grants

pub returns-clause-tallies : goal.returns-clause-tallies
returns-clause-tallies c =
    let whole : length c.loop-k.sets ≤ c.loop-k.k = rw c.loop-k.auto.sets c.loop-k-test.false in
    sym (ap (λ (more : List Grant). tallies_granted c.loop-k.tallies.items more) (grants_left c.args.transactions.now c.args.change c.loop-k.k c.loop-k.sets whole))
    ∙ c.loop-k.invariant.tallies

pub returns-clause-capacity : goal.returns-clause-capacity
returns-clause-capacity c = c.loop-k.invariant.capacity
