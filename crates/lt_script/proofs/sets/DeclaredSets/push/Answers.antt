use Rattle.std.proofs.Common.{◌≡◌, ◌∙◌, ◌≤◌, ◌<◌, ◌^◌, ◌++◌, ◌∷◌, [], ℕ, List, None, length, position, sym, ap, subst, bytes_eq}
use Rattle.lt_modes.specs.Script.{SetData, family_at}
use Rattle.lt_script.proofs.ChainLemmas.{set_chained, family_inside, link_inside, few_places}
use Rattle.lt_script.proofs.sets.DeclaredSets.push.Goals as goal

pub push-requires-clause-new : goal.push-requires-clause-new
push-requires-clause-new c = subst (λ (l : List SetData). position (λ (y : SetData). bytes_eq y.name c.args.set.name) l ≡ None) (sym c.self.view_is) c.requires.new

pub push-requires-clause-few : goal.push-requires-clause-few
push-requires-clause-few c = subst (λ (l : List SetData). length l < 2 ^ 31) (sym c.self.view_is) c.requires.few

pub chain-requires-clause-family : goal.chain-requires-clause-family
chain-requires-clause-family c =
    let fits = subst (λ (l : List SetData). c.args.set.family ≤ length l) (sym c.self.view_is) c.requires.family in
    family_inside c.args.set.family c.family-family.result (length c.self.inside.index) c.self.inside.lasts.items c.push_reserved.new.self.items c.family-family.ensures fits c.self.invariant.families
    (c.push_reserved.ensures.items ∙ ap (λ (l : List ℕ). l ++ 0 ∷ []) c.reserve_both.ensures.items)

pub chain-requires-clause-last : goal.chain-requires-clause-last
chain-requires-clause-last c =
    let fits = subst (λ (l : List SetData). c.args.set.family ≤ length l) (sym c.self.view_is) c.requires.family in
    let within = subst (λ (n : ℕ). n ≤ length c.self.inside.index) (sym c.family-family.ensures) fits in
    link_inside (family_at c.self.inside.index) c.family-family.result (length c.self.inside.index) c.self.inside.lasts.items c.self.inside.nexts.items c.push_reserved.new.self.items
    c.push_reserved-2.new.self.items within c.self.invariant (c.push_reserved.ensures.items ∙ ap (λ (l : List ℕ). l ++ 0 ∷ []) c.reserve_both.ensures.items)
    (c.push_reserved-2.ensures.items ∙ ap (λ (l : List ℕ). l ++ 0 ∷ []) c.reserve_both.ensures.others)

pub chain-requires-clause-few : goal.chain-requires-clause-few
chain-requires-clause-few c =
    let few = subst (λ (l : List SetData). length l < 2 ^ 31) (sym c.self.view_is) c.requires.few in
    few_places (length c.self.inside.index) c.self.inside.nexts.items c.push_reserved-2.new.self.items few c.self.invariant.places
    (c.push_reserved-2.ensures.items ∙ ap (λ (l : List ℕ). l ++ 0 ∷ []) c.reserve_both.ensures.others)

pub invariant_of-self : goal.invariant_of-self
invariant_of-self c = rw (c.reserve_both.ensures.items, c.reserve_both.ensures.others) c.self.invariant

pub invariant_of-self-in_err-push : goal.invariant_of-self-in_err-push
invariant_of-self-in_err-push c = rw (c.in_err-push.ensures.unchanged, c.reserve_both.ensures.items, c.reserve_both.ensures.others) c.self.invariant

pub invariant_of-self-2 : goal.invariant_of-self-2
invariant_of-self-2 c =
    let sets : List SetData = c.self.inside.index in
    let lasts : List ℕ = c.self.inside.lasts.items in
    let nexts : List ℕ = c.self.inside.nexts.items in
    let more_lasts : c.push_reserved.new.self.items ≡ lasts ++ 0 ∷ [] = c.push_reserved.ensures.items ∙ ap (λ (l : List ℕ). l ++ 0 ∷ []) c.reserve_both.ensures.items in
    let more_nexts : c.push_reserved-2.new.self.items ≡ nexts ++ 0 ∷ [] = c.push_reserved-2.ensures.items ∙ ap (λ (l : List ℕ). l ++ 0 ∷ []) c.reserve_both.ensures.others in
    let fits : c.args.set.family ≤ length sets = subst (λ (l : List SetData). c.args.set.family ≤ length l) (sym c.self.view_is) c.requires.family in
    rw (c.in_ok-push.ensures.pushed, c.chain.ensures.lasts, c.chain.ensures.nexts, more_lasts, more_nexts, c.family-family.ensures)
    (set_chained sets c.args.set lasts nexts fits c.self.invariant)

pub returns-clause-pushed : goal.returns-clause-pushed
returns-clause-pushed c = c.in_ok-push.ensures.pushed ∙ ap (λ (l : List SetData). l ++ c.args.set ∷ []) c.self.view_is
