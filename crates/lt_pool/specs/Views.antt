-- What each step makes of the view of a badge.
use Rattle.std.specs.Prelude.{◌+◌, ℕ, true, false, List, [], ◌∷◌, ◌++◌}
use Rattle.atomic_table.specs.Seated.{TableId}
use Rattle.lt_pool.specs.declared.view.View.{View}
use Rattle.lt_pool.specs.declared.view.Access.{Access}
use Rattle.lt_pool.specs.History.{claim_access, refusal_access, give_access, longer}
use Rattle.lt_pool.specs.Rule.{without_first}
use Rattle.lt_pool.specs.PoolData.{BadgeData}

module _ {T : Type 0} where
  -- what contracts see of the badge with this view
  abbrev pub badge_data : TableId → View T → BadgeData T
  badge_data table v = record {
    pool = record { table = table; firsts = v.firsts };
    number = v.number;
    claimed = v.claimed;
    refused = v.refused;
    splits = v.splits;
    joined = v.joined;
    history = v.history;
  }

  -- a live badge with this number that has done nothing
  abbrev pub new_view : List T → ℕ → View T
  new_view firsts number = record {
    number = number;
    live = true;
    claimed = [];
    refused = [];
    splits = 0;
    out = [];
    joined = [];
    history = [];
    firsts = firsts;
  }

  -- the first badge as it begins
  abbrev pub first_view : List T → View T
  first_view firsts = new_view firsts 0

  -- slot i was claimed, after these accesses
  abbrev pub claimed_more : ℕ → List Access → View T → View T
  claimed_more i before v = record v { claimed = i ∷ v.claimed; history = claim_access v.number i ∷ before }

  -- slot i was refused, for this word, after these accesses
  abbrev pub refused_more : ℕ → ℕ → List Access → View T → View T
  refused_more i word before v =
      record v { refused = v.refused ++ (i, word) ∷ []; history = refusal_access v.number i word ∷ before }

  -- slot i was given back, after these accesses
  abbrev pub claimed_less : ℕ → List Access → View T → View T
  claimed_less i before v =
      record v { claimed = without_first i v.claimed; history = give_access v.number i ∷ before }

  -- slot i stands before the others that were claimed
  abbrev pub brought_forward : ℕ → View T → View T
  brought_forward i v = record v { claimed = i ∷ without_first i v.claimed }

  -- a badge was split off
  abbrev pub split_more : View T → View T
  split_more v = record v { splits = v.splits + 1; out = (v.splits + 1) ∷ v.out }

  -- the badge that was split off the one with this view
  abbrev pub split_off : View T → View T
  split_off v = new_view v.firsts (v.splits + 1)

  -- the badge with the second view was joined in
  abbrev pub joined_more : View T → View T → View T
  joined_more v w = record v {
    out = without_first w.number v.out;
    joined = v.joined ++ w.number ∷ [];
    history = longer v.history w.history;
  }

  -- what is left of the view of a badge that was joined into the first one
  abbrev pub spent_view : View T
  spent_view = record (new_view [] 0) { live = false }
