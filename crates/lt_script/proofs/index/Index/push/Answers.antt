use Rattle.std.proofs.Common.{◌≡◌, ◌∙◌, ◌<◌, ◌^◌, ◌++◌, ◌∷◌, [], ℕ, None, List, length, position, sym, ap, subst, bytes_eq}
use Rattle.lt_script.proofs.IndexLemmas.{index_pushed_so}
use Rattle.lt_script.proofs.index.Index.push.Goals as goal

pub invariant_of-self : goal.invariant_of-self
invariant_of-self g c = rw (c.reserve_both.ensures.items, c.reserve_both.ensures.others) c.self.invariant

pub link_last-requires-clause-some : goal.link_last-requires-clause-some
link_last-requires-clause-some g c = c.self.invariant.some

pub link_last-requires-clause-few : goal.link_last-requires-clause-few
link_last-requires-clause-few g c =
    let few = subst (λ (l : List g.row.T.Denot). length l < 2 ^ 31) (sym (c.self.view_is ∙ c.in_ok-grow.ensures)) c.requires.few in
    subst (λ (n : ℕ). n < 2 ^ 31) (sym (ap length c.reserve_both.ensures.others ∙ c.self.invariant.count)) few

pub invariant_of-self-2 : goal.invariant_of-self-2
invariant_of-self-2 g c =
    let name_of = g.T.Named.name_of in
    let items : List g.row.T.Denot = c.self.inside.items.items in
    let x = c.args.item in
    let old = c.self.view_is ∙ c.in_ok-grow.ensures in
    let new : position (λ y. bytes_eq (name_of y) (name_of x)) items ≡ None = subst (λ (l : List g.row.T.Denot). position (λ y. bytes_eq (name_of y) (name_of x)) l ≡ None) (sym old) c.requires.new in
    let few : length items < 2 ^ 31 = subst (λ (l : List g.row.T.Denot). length l < 2 ^ 31) (sym old) c.requires.few in
    index_pushed_so name_of items c.reserve_both.new.items.items c.push_reserved.new.self.items x c.self.inside.lasts.items c.link_last.new.lasts.items c.self.inside.befores.items c.reserve_both.new.others.items
    c.link_last.new.befores.items c.args.hash c.self.invariant new few c.requires.hash c.reserve_both.ensures.items c.push_reserved.ensures.items c.reserve_both.ensures.others c.link_last.ensures.lasts c.link_last.ensures.befores

pub returns-clause-pushed : goal.returns-clause-pushed
returns-clause-pushed g c =
    c.push_reserved.ensures.items ∙ ap (λ (l : List g.row.T.Denot). l ++ c.args.item ∷ []) (c.reserve_both.ensures.items ∙ c.self.view_is ∙ c.in_ok-grow.ensures)
