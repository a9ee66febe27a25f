-- What the calls on locks and waits say, opened by their codes.
use Rattle.std.proofs.Common.{◌≡◌, ◌∙◌, ◌⊎◌, if◌then◌else◌, ℕ, Bool, true, false, inl, inr, refl, sym, ap, subst, IsTrue, IsFalse, Option, Some, None, length}
use Rattle.lt_modes.specs.declared.mode.Mode.{Mode}
use Rattle.lt_node.specs.NodeData.{NodeData, state_of}
use Rattle.lt_view.specs.View.{first_held, holds_in, wait_of, queues_before}
use Rattle.lt_view.specs.ViewLaws.{IsFirstHeld, FindsHeld, FindsNoneHeld}
use Rattle.lt_live_c.specs.declared.content.Content.{Content}
use Rattle.lt_live_c.specs.Calls.{TellsNumber}
use Rattle.lt_live_c.specs.Viewing.{node_behind, TellsHeld, TellsAsked, TellsAskedOf, locks_seen, tells_behind, number_of_mode}
use Rattle.lt_live_c.specs.ViewTold.{HasNoNode, AfterHeld, HeldTold, LocksTold, AfterAsked, IsWaitFor, AskedTold, BehindTold}

found_code : (o : Option ℕ) (was set : ℕ) → TellsNumber o 0 was set → o ≡ Some set
found_code (Some found) was set tells = ap Some (sym tells.1)
found_code None was set tells = let no : ◌≡◌ {A = ℕ} 0 1 = tells.0 in cc

none_code : (o : Option ℕ) (was set : ℕ) → TellsNumber o 1 was set → (o ≡ None) × (set ≡ was)
none_code None was set tells = (refl, tells.1)
none_code (Some found) was set tells = let no : ◌≡◌ {A = ℕ} 1 0 = tells.0 in cc

number_codes : (o : Option ℕ) (code was set : ℕ) → TellsNumber o code was set → (code ≡ 0) ⊎ (code ≡ 1)
number_codes None code was set tells = inr tells.0
number_codes (Some found) code was set tells = inl tells.0

held_wrong : (o : Option NodeData) → o ≡ None → (code was set : ℕ) → TellsHeld o 2 3 code was set → (code ≡ 2) × (set ≡ was)
held_wrong None e code was set tells = tells
held_wrong (Some node) e code was set tells = cc

pub held_told : FindsHeld → FindsNoneHeld → HeldTold
held_told finds none_held = record {
  found = λ node was set tells. finds node.script (state_of node) 2 3 set
      (found_code (first_held node.script (state_of node) 2 3) was set tells);
  none = λ node was set tells. none_held node.script (state_of node) 2 3
      (none_code (first_held node.script (state_of node) 2 3) was set tells).0;
  stays = λ node was set tells. (none_code (first_held node.script (state_of node) 2 3) was set tells).1;
  only = λ code node was set tells. number_codes (first_held node.script (state_of node) 2 3) code was set tells;
  wrong = λ content e code was set tells. held_wrong (node_behind content) e code was set tells;
}

locks_wrong : (o : Option NodeData) (mode : Option Mode) → o ≡ None → locks_seen o 2 7 mode ≡ 0
locks_wrong None mode e = refl
locks_wrong (Some node) mode e = cc

pub locks_told : LocksTold
locks_told = record {
  write = λ node. refl;
  read = λ node. refl;
  no_mode = λ node. refl;
  wrong = λ content e. locks_wrong (node_behind content) _ e;
}

waits_code : (node : NodeData) (o : Option (ℕ × Mode)) → wait_of node.script (state_of node) 2 ≡ o → (was_set was_mode set mode : ℕ)
    → TellsAskedOf o 0 was_set was_mode set mode → IsWaitFor node set mode
waits_code node (Some found) is was_set was_mode set mode tells = record {
  mode = found.1;
  wait = is ∙ ap (λ (s : ℕ). Some (s, found.1)) (sym tells.1);
  is_number = tells.2;
}
waits_code node None is was_set was_mode set mode tells = let no : ◌≡◌ {A = ℕ} 0 1 = tells.0 in cc

rests_code : (o : Option (ℕ × Mode)) (was_set was_mode set mode : ℕ)
    → TellsAskedOf o 1 was_set was_mode set mode → (o ≡ None) × ((set ≡ was_set) × (mode ≡ was_mode))
rests_code None was_set was_mode set mode tells = (refl, (tells.1, tells.2))
rests_code (Some found) was_set was_mode set mode tells = let no : ◌≡◌ {A = ℕ} 1 0 = tells.0 in cc

asked_codes : (o : Option (ℕ × Mode)) (code was_set was_mode set mode : ℕ)
    → TellsAskedOf o code was_set was_mode set mode → (code ≡ 0) ⊎ (code ≡ 1)
asked_codes None code was_set was_mode set mode tells = inr tells.0
asked_codes (Some found) code was_set was_mode set mode tells = inl tells.0

asked_wrong : (o : Option NodeData) → o ≡ None → (code was_set was_mode set mode : ℕ)
    → TellsAsked o 2 code was_set was_mode set mode → (code ≡ 2) × (set ≡ was_set) × (mode ≡ was_mode)
asked_wrong None e code was_set was_mode set mode tells = tells
asked_wrong (Some node) e code was_set was_mode set mode tells = cc

pub asked_told : AskedTold
asked_told = record {
  waits = λ node was_set was_mode set mode tells.
      waits_code node (wait_of node.script (state_of node) 2) refl was_set was_mode set mode tells;
  none = λ node was_set was_mode set mode tells.
      (rests_code (wait_of node.script (state_of node) 2) was_set was_mode set mode tells).0;
  stays = λ node was_set was_mode set mode tells.
      (rests_code (wait_of node.script (state_of node) 2) was_set was_mode set mode tells).1;
  only = λ code node was_set was_mode set mode tells.
      asked_codes (wait_of node.script (state_of node) 2) code was_set was_mode set mode tells;
  wrong = λ content e code was_set was_mode set mode tells. asked_wrong (node_behind content) e code was_set was_mode set mode tells;
  intention_read = refl;
  reads = refl;
  upgrade = refl;
  intention_write = refl;
  read_intention_write = refl;
  writes = refl;
}

code_true : (b : Bool) → ◌≡◌ {A = ℕ} (if b then 0 else 1) 0 → IsTrue b
code_true true e = refl
code_true false e = let no : ◌≡◌ {A = ℕ} 1 0 = e in cc

code_false : (b : Bool) → ◌≡◌ {A = ℕ} (if b then 0 else 1) 1 → IsFalse b
code_false false e = refl
code_false true e = let no : ◌≡◌ {A = ℕ} 0 1 = e in cc

behind_wrong : (o : Option NodeData) → o ≡ None → tells_behind o 7 2 3 ≡ 2
behind_wrong None e = refl
behind_wrong (Some node) e = cc

pub behind_told : BehindTold
behind_told = record {
  stands = λ node e. code_true (queues_before node.script (state_of node) 7 3 2) e;
  not = λ node e. code_false (queues_before node.script (state_of node) 7 3 2) e;
  wrong = λ content e. behind_wrong (node_behind content) e;
}
