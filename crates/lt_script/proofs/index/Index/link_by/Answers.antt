use Rattle.std.proofs.Common.{rules, ◌≡◌, ◌∙◌, ◌≤◌, ◌^◌, ℕ, List, length, replicate, sym, ap, subst}
use Rattle.lt_script.proofs.IndexLemmas.{all_zero}
use Rattle.lt_script.proofs.index.Index.link_by.Goals as goal

pub linked-requires-clause-none : goal.linked-requires-clause-none
linked-requires-clause-none g c =
    let none : c.in_ok-lasts.lasts.items ≡ replicate c.args.spots 0 = search rules in
    subst (λ (l : List ℕ). l ≡ replicate (length l) 0) (sym c.deref_mut.ensures.value) (all_zero c.in_ok-lasts.lasts.items c.args.spots none)

pub linked-requires-clause-same : goal.linked-requires-clause-same
linked-requires-clause-same g c = ap length c.deref_mut-2.ensures.value ∙ c.self.invariant.count ∙ sym (ap length c.deref.ensures.value)

pub linked-requires-clause-few : goal.linked-requires-clause-few
linked-requires-clause-few g c = subst (λ (l : List g.row.T.Denot). length l ≤ 2 ^ 31) (sym c.deref.ensures.value) c.self.invariant.few

pub returns : goal.returns
returns g c = c.self.view_is
