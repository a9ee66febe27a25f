-- What paths say of the desk of a set: its entries, and that there is one of it.
use Rattle.std.proofs.Common.{◌≡◌, ℕ, ◌<◌, inl, inr, length, Option, Some, None, false, refl, sym, ap, subst, arith, ◌∙◌, Contains, is_some, sum_by, slice_index, slice_index_or, ne_eqb}
use Rattle.std.proofs.lemmas.Bool.{cases_eq}
use Rattle.lt_modes.specs.Script.{ScriptData}
use Rattle.lt_modes.specs.State.{Desk, TokenBody, Letter}
use Rattle.lt_lists.specs.Below.{one_if, sum_below}
use Rattle.lt_spec.specs.World.{World}
use Rattle.lt_spec.specs.Facts.{state_at, tokens_in, OnWay, DeskIs, Comes}
use Rattle.lt_model.specs.OnWay.{is_at}
use Rattle.lt_model.specs.Invariant.{Paths, DeskOnPath, HasWay, BodyOnPath}
use Rattle.lt_model.specs.PathEffects.{token_weight}
use Rattle.lt_lists.proofs.Sums.{sum_below-at, sum_below-two, two_places}
use Rattle.lt_model.proofs.Letters.{mail_weight-at}
use Rattle.lt_model.proofs.PathsMove.{desk_somewhere}
use Rattle.lt_model.proofs.PathsRoutes.{link_named}
use Rattle.lt_model.proofs.PathsWorld.{weighs_tokens}
use Rattle.std.proofs.lemmas.List.Sums.{get_or-le-sum_by}
use Rattle.lt_lists.proofs.Members.{some_equal}
use Rattle.std.proofs.lemmas.List.{get_or_default}
use Rattle.lt_law_invariant.proofs.OwnSteps.{HasDesk}

pub named_firm : (script : ScriptData) (w : World) (s x : ℕ) → 0 < script.nodes → Paths script w s → x < script.nodes
    → (state_at w s x).firm.node < script.nodes
named_firm script w s x some paths below = link_named script.nodes (w.went s) (state_at w s x).firm (record { some = some; known = paths.went }) (paths.states x below).link

pub entries_on : (script : ScriptData) (w : World) (s : ℕ) → Paths script w s → (place : Option ℕ) (desk : Desk)
    → DeskIs script w s place desk → length desk.entries ≡ script.nodes
entries_on script w s paths (Some t) desk h = (subst (HasWay script.nodes (w.went s) t (state_at w s t).firm) h.1 (paths.states t h.0).way).0.entries
entries_on script w s paths None desk (q, below, (p, letter, under, on, says)) =
    let on_path : DeskOnPath script.nodes (w.went s) q desk = subst (BodyOnPath script.nodes (w.went s) q) says (paths.letters p q letter under on).body in
    on_path.entries

-- the desk of a world, as node q sees it
pub desk_seen : (script : ScriptData) (w : World) (s q : ℕ) → Paths script w s → q < script.nodes
    → (place : Option ℕ) × (desk : Desk) × DeskIs script w s place desk × HasDesk place desk q (state_at w s q).desk
desk_seen script w s q paths below = by_desk (state_at w s q).desk refl
  where
    elsewhere_than : (place : Option ℕ) (desk : Desk) → DeskIs script w s place desk → (state_at w s q).desk ≡ None → is_at place q ≡ false
    elsewhere_than None desk h away = refl
    elsewhere_than (Some p) desk h away = ne_eqb q p (λ e. no_desk (sym away ∙ ap (λ (y : ℕ). (state_at w s y).desk) e ∙ h.1))
      where
        no_desk : None ≡ Some desk → ⊥
        no_desk e = cc

    by_desk : (o : Option Desk) → (state_at w s q).desk ≡ o
        → (place : Option ℕ) × (desk : Desk) × DeskIs script w s place desk × HasDesk place desk q o
    by_desk (Some desk) e = (Some q, desk, (below, e), (refl, refl))
    by_desk None e = let found = desk_somewhere script w s paths in (found.0, found.1, found.2, elsewhere_than found.0 found.1 found.2 e)

token_equal : (a b : Desk) → TokenBody a ≡ TokenBody b → a ≡ b
token_equal a b e = cc

-- the desk is at one place alone
pub one_desk : (script : ScriptData) (w : World) (s : ℕ) → Paths script w s → (place other : Option ℕ) (desk more : Desk)
    → DeskIs script w s place desk → DeskIs script w s other more
    → (place ≡ other) × (desk ≡ more)
one_desk script w s paths place other desk more h g = by_places place other h g
  where
    at_node : (t : ℕ) (d : Desk) → DeskIs script w s (Some t) d → DeskOnPath script.nodes (w.went s) t d
    at_node t d (below, here) = (subst (HasWay script.nodes (w.went s) t (state_at w s t).firm) here (paths.states t below).way).0

    in_letter : (q : ℕ) (d : Desk) → Comes script w s q (TokenBody d) → DeskOnPath script.nodes (w.went s) q d
    in_letter q d (p, letter, under, on, says) = subst (BodyOnPath script.nodes (w.went s) q) says (paths.letters p q letter under on).body

    same_node : (t r : ℕ) (d e : Desk) → DeskOnPath script.nodes (w.went s) t d → DeskOnPath script.nodes (w.went s) r e → t ≡ r
    same_node t r d e first second =
        let epochs : d.epoch ≡ e.epoch = omega (arith, first.epoch, second.epoch) in
        sym first.node ∙ ap (λ (k : ℕ). slice_index (w.went s) k) epochs ∙ second.node

    weighs : (letter : Letter) (d : Desk) → letter.set ≡ s → letter.body ≡ TokenBody d → token_weight s letter ≡ 1
    weighs letter d set says = weighs_tokens s letter set ∙ ap tokens_in says

    not_both : {A : Type 0} (t : ℕ) (d e : Desk) → DeskIs script w s (Some t) d → DeskIs script w s None e → A
    not_both t d e (below, here) (q, under, (p, letter, from, on, says)) = absurd (omega (
      arith,
      paths.one_token,
      sum_below-at script.nodes t (λ k. one_if (is_some (state_at w s k).desk)) below,
      ap (λ (o : Option Desk). one_if (is_some o)) here,
      mail_weight-at script.nodes p q (token_weight s) w.mail letter from under on.among,
      weighs letter e on.set says,
    ))

    letters_same : (p r q : ℕ) (a b : Letter) (d e : Desk) → p < script.nodes → r < script.nodes → q < script.nodes → OnWay w s p q a
        → OnWay w s r q b
        → a.body ≡ TokenBody d → b.body ≡ TokenBody e → a ≡ b
    letters_same p r q a b d e hp hr hq first second says says_too = elim (cases_eq p r) [
      | inr apart ↦ absurd (omega (
        arith,
        paths.one_token,
        sum_below-two script.nodes p r (λ k. sum_below script.nodes (λ j. sum_by (token_weight s) (w.mail k j))) hp hr apart,
        sum_below-at script.nodes q (λ j. sum_by (token_weight s) (w.mail p j)) hq,
        sum_below-at script.nodes q (λ j. sum_by (token_weight s) (w.mail r j)) hq,
        get_or-le-sum_by (token_weight s) (w.mail p q) first.among.0 a first.among.1,
        ap (token_weight s) first.among.2,
        weighs a d first.set says,
        get_or-le-sum_by (token_weight s) (w.mail r q) second.among.0 b second.among.1,
        ap (token_weight s) second.among.2,
        weighs b e second.set says_too,
      ))
      | inl same ↦ one_list (subst (λ (k : ℕ). Contains (w.mail k q) b) (sym same) second.among)
    ]
      where
        one_list : Contains (w.mail p q) b → a ≡ b
        one_list (j, within, at) = elim (cases_eq first.among.0 j) [
          | inl same ↦ sym first.among.2 ∙ ap (λ (k : ℕ). slice_index_or (w.mail p q) k a) same ∙ get_or_default (w.mail p q) j a b within ∙ at
          | inr other ↦ absurd (omega (
            arith,
            paths.one_token,
            two_places (token_weight s) (w.mail p q) first.among.0 j a other first.among.1 within,
            ap (token_weight s) first.among.2,
            ap (token_weight s) (get_or_default (w.mail p q) j a b within ∙ at),
            weighs a d first.set says,
            weighs b e second.set says_too,
            sum_below-at script.nodes q (λ k. sum_by (token_weight s) (w.mail p k)) hq,
            sum_below-at script.nodes p (λ k. sum_below script.nodes (λ i. sum_by (token_weight s) (w.mail k i))) hp,
          ))
        ]

    by_places : (place other : Option ℕ) → DeskIs script w s place desk → DeskIs script w s other more → (place ≡ other) × (desk ≡ more)
    by_places (Some t) (Some r) first second =
        let same = same_node t r desk more (at_node t desk first) (at_node r more second) in
        (ap Some same, some_equal desk more (sym first.1 ∙ ap (λ (k : ℕ). (state_at w s k).desk) same ∙ second.1))
    by_places (Some t) None first second = not_both t desk more first second
    by_places None (Some r) first second = not_both r more desk second first
    by_places None None (q, below, (p, letter, from, on, says)) (r, under, (o, another, from_too, on_too, says_too)) =
        let same : q ≡ r = same_node q r desk more (in_letter q desk (p, letter, from, on, says)) (in_letter r more (o, another, from_too, on_too, says_too)) in
        let one = letters_same p o q letter another desk more from from_too below on (subst (λ (k : ℕ). OnWay w s o k another) (sym same) on_too) says says_too in
        (refl, token_equal desk more (sym says ∙ ap (λ (l : Letter). l.body) one ∙ says_too))
