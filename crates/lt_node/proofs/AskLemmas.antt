-- Which ask of a client a node finds, set by set.
use Rattle.std.proofs.Common.{◌≡◌, ◌∙◌, ◌≤◌, ℕ, zero, suc, ◌||◌, Bool, Option, Some, None, inl, inr, refl, sym, ap, ap₂, arith, is_some}
use Rattle.std.specs.Option.{option_or}
use Rattle.std.proofs.lemmas.Bool.{cases_eq}
use Rattle.lt_modes.specs.declared.ask.Ask.{Ask}
use Rattle.lt_modes.specs.Waiting.{waits}
use Rattle.lt_lists.specs.Below.{any_below}
use Rattle.lt_spec.specs.NodeMove.{NodeState}
use Rattle.lt_core.specs.Steps.{live_ask}
use Rattle.lt_core.proofs.MarkLemmas.{live_some}
use Rattle.lt_node.specs.NodeData.{ask_with_set, ask_below}

-- what is found among the first sets stays
pub ask_stays : (n : NodeState) (client k sets : ℕ) (found : ℕ × Ask) → k ≤ sets → ask_below n client k ≡ Some found → ask_below n client sets ≡ Some found
ask_stays n client zero zero found h e = e
ask_stays n client (suc k) zero found h e = absurd (omega (arith, h))
ask_stays n client k (suc sets) found h e = elim (cases_eq k (suc sets)) [
  | inl same ↦ ap (ask_below n client) (sym same) ∙ e
  | inr less ↦ ap (λ (o : Option (ℕ × Ask)). option_or o (ask_with_set n client sets)) (ask_stays n client k sets found (omega (arith, h, less)) e)
]

some_of_two : {X : Type 0} (a b : Option X) → is_some (option_or a b) ≡ (is_some a || is_some b)
some_of_two None b = refl
some_of_two (Some x) b = refl

some_with_set : (n : NodeState) (client s : ℕ) (o : Option Ask) → live_ask (n.set s) client ≡ o → is_some (ask_with_set n client s) ≡ is_some o
some_with_set n client s None e = rw e refl
some_with_set n client s (Some ask) e = rw e refl

-- some ask is found exactly where the client waits
pub ask_found : (n : NodeState) (client sets : ℕ) → is_some (ask_below n client sets) ≡ any_below sets (λ s. waits (n.set s) client)
ask_found n client zero = refl
ask_found n client (suc s) =
    some_of_two (ask_below n client s) (ask_with_set n client s)
    ∙ ap₂ (λ (a b : Bool). a || b) (ask_found n client s)
    (some_with_set n client s (live_ask (n.set s) client) refl ∙ live_some (n.set s) client)
