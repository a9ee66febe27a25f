-- What was carried in sealed frames is a first part of what was given out.
use Rattle.std.proofs.Common.{◌≡◌, ◌≢◌, ℕ, List, [], Option, Bool, cond, slice_get, refl, ap, subst, ◌∙◌, eq-eqb, ◌==◌}
use Rattle.std.proofs.lemmas.Bool.{ne_eqb}
use mathlib.Core.List.{IsPrefix}
use Rattle.lt_modes.specs.State.{Letter}
use Rattle.lt_frames.specs.declared.frame.Wire.{Wire}
use Rattle.lt_frames.proofs.Numbers.{sealed_are_prefix}
use Rattle.lt_law_apart.specs.Apart.{NodeNow}
use Rattle.lt_law_apart_sessions.specs.SealedNodes.{by_wire, given_of, brought_of, given_by, taken_by, CarriedIfSealed}

-- between two nodes of the service
by_own_wire : (service p q : ℕ) (letters : ℕ → ℕ → List Letter) → p ≢ q
    → by_wire service letters (record { service = service; from = p; to = q }) ≡ letters p q
by_own_wire service p q letters apart =
    ap (λ (b : Bool). cond b (cond (p == q) [] (letters p q)) []) (eq-eqb service service refl)
    ∙ ap (λ (b : Bool). cond b [] (letters p q)) (ne_eqb p q apart)

pub carried_if_sealed : CarriedIfSealed
carried_if_sealed key service nodes sealed p q a b here there apart =
    let wire : Wire = record { service = service; from = p; to = q } in
    let given : given_by service nodes wire ≡ a.given q =
    by_own_wire service p q (λ x y. given_of (slice_get nodes x) y) apart ∙ ap (λ (o : Option NodeNow). given_of o q) here in
    let taken : taken_by service nodes wire ≡ b.brought p =
    by_own_wire service p q (λ x y. brought_of (slice_get nodes y) x) apart ∙ ap (λ (o : Option NodeNow). brought_of o p) there in
    subst (λ (list : List Letter). IsPrefix list (a.given q)) taken
    (subst (λ (list : List Letter). IsPrefix (taken_by service nodes wire) list) given
    (sealed_are_prefix key (given_by service nodes) (taken_by service nodes) sealed.bear sealed.alone wire))
