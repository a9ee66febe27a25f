-- What asks and tells do to the weight of a set at a node: at the desk, parked, or sent on.
use Rattle.std.proofs.Common.{◌≡◌, ℕ, ◌+◌, ◌≤◌, List, [], ◌∷◌, ◌++◌, Option, Some, None, Bool, true, false, refl, ap, subst, arith, take as take_first, drop as drop_front, length-set, ◌==◌, ◌&&◌, ◌-◌, not, if◌then◌else◌, IfSome, fold, sum_by, take-append-drop}
use Rattle.std.proofs.lemmas.List.Sums.{sum_by-append, sum_by-cons, sum_by_push}
use Rattle.lt_modes.specs.declared.stamp.Stamp.{Stamp}
use Rattle.lt_modes.specs.declared.ask.Ask.{Ask}
use Rattle.lt_modes.specs.Modes.{excludes_itself, bars, same_modes, held_modes}
use Rattle.lt_modes.specs.State.{SetState, Desk, Parked, ParkedAsk, ParkedTell, silent, place, entry_of}
use Rattle.lt_modes.specs.Freezing.{frozen_by}
use Rattle.lt_modes.specs.Telling.{told, tell_of}
use Rattle.lt_modes.specs.SetMove.{make_tell, asked}
use Rattle.lt_modes.specs.Routing.{Way, Parks, Goes, dealt, body_of, reversed, sent_on, route, way, way_onward}
use Rattle.lt_model.proofs.Effects.{route_ways}
use Rattle.lt_law_ends.specs.Weights.{tell_weight, queued_weight, ask_weight, is_untold, desk_weight, parked_weight, body_weight, due_weight, here_weight, state_weight}
use Rattle.lt_law_ends.proofs.EffectWeights.{IsDeskFit, IsFit, Weighs, count-set, few_untold, same_itself}

-- what the desk deals with

dealt_fit : (nodes most : ℕ) (desk : Desk) (item : Parked) → IsDeskFit nodes most desk → IsDeskFit nodes most (dealt desk item)
dealt_fit nodes most desk (ParkedAsk ask) fits = fits
dealt_fit nodes most desk (ParkedTell tell) fits =
    (fits.0, omega (arith, fits.1, length-set desk.entries tell.node (told tell (entry_of desk tell.node))))

dealt_weight : (nodes most : ℕ) (desk : Desk) (item : Parked) → IsDeskFit nodes most desk
    → desk_weight nodes most (dealt desk item) ≤ desk_weight nodes most desk + parked_weight nodes most item
dealt_weight nodes most desk (ParkedTell tell) fits =
    omega (arith, count-set (is_untold (frozen_by desk.queue)) desk.entries tell.node (told tell (entry_of desk tell.node)))
dealt_weight nodes most desk (ParkedAsk ask) fits =
    let f : Ask → ℕ = λ a. queued_weight nodes most in
    let k = place desk.queue ask.holder in
    omega (
      arith,
      sum_by-append f (take_first k desk.queue) (ask ∷ drop_front k desk.queue),
      sum_by-cons f ask (drop_front k desk.queue),
      sum_by-append f (take_first k desk.queue) (drop_front k desk.queue),
      ap (sum_by f) (take-append-drop k desk.queue),
      few_untold nodes most (dealt desk (ParkedAsk ask)) fits,
    )

pub all_dealt_fit : (nodes most : ℕ) (items : List Parked) (desk : Desk) → IsDeskFit nodes most desk → IsDeskFit nodes most (fold dealt desk items)
all_dealt_fit nodes most [] desk fits = fits
all_dealt_fit nodes most (item ∷ rest) desk fits = all_dealt_fit nodes most rest (dealt desk item) (dealt_fit nodes most desk item fits)

pub all_dealt_weight : (nodes most : ℕ) (items : List Parked) (desk : Desk) → IsDeskFit nodes most desk
    → desk_weight nodes most (fold dealt desk items) ≤ desk_weight nodes most desk + sum_by (parked_weight nodes most) items
all_dealt_weight nodes most [] desk fits = omega arith
all_dealt_weight nodes most (item ∷ rest) desk fits =
    let first = dealt_weight nodes most desk item fits in
    let others = all_dealt_weight nodes most rest (dealt desk item) (dealt_fit nodes most desk item fits) in
    omega (arith, first, others, sum_by-cons (parked_weight nodes most) item rest)

-- routing

reversed_weight : (nodes most me : ℕ) (item : Parked) (t : SetState) → IsFit nodes most t
    → IsFit nodes most (reversed me item t) × (state_weight nodes most (reversed me item t) ≡ state_weight nodes most t)
reversed_weight nodes most me (ParkedTell tell) t fit = (fit, refl)
reversed_weight nodes most me (ParkedAsk ask) t fit = by_test (excludes_itself ask.mode && not (ask.node == me))
  where
    by_test : (other : Bool)
        → IsFit nodes most (if other then record t { hoped = Some (record { node = ask.node; stamp = ask.stamp }) } else t)
        × (state_weight nodes most (if other then record t { hoped = Some (record { node = ask.node; stamp = ask.stamp }) } else t) ≡ state_weight nodes most t)
    by_test true = (fit, refl)
    by_test false = (fit, refl)

pub route_weight : (nodes most more set : ℕ) (stamp : Stamp) (marked : Bool) (item : Parked) (t : SetState) → IsFit nodes most t
    → parked_weight nodes most item ≤ more
    → (t.desk ≡ None → (t.firm.node == stamp.node) ≡ false → (to : ℕ) (mark : Bool) → way_onward marked item t ≡ Goes to mark
    → body_weight nodes most (most - t.firm.epoch) (body_of item mark) ≤ more)
    → Weighs nodes most more t (route set stamp marked item t)
route_weight nodes most more set stamp marked item t fit stays onward =
    route_ways (Weighs nodes most more t) set stamp marked item t at_desk (λ away w e. goes away w e)
  where
    at_desk : (desk : Desk) → t.desk ≡ Some desk → Weighs nodes most more t (silent (record t { desk = Some (dealt desk item) }))
    at_desk desk e =
        let fits = subst (λ (o : Option Desk). IfSome o (IsDeskFit nodes most)) e fit in
        record {
          fit = dealt_fit nodes most desk item fits;
          weight = omega (arith, ap (here_weight nodes most t.held t.charge) e, dealt_weight nodes most desk item fits, stays);
        }

    onto : t.desk ≡ None → (to : ℕ) (mark : Bool) → (here : Bool) → (t.firm.node == stamp.node) ≡ here
        → (if here then Parks else way_onward marked item t) ≡ Goes to mark → body_weight nodes most (most - t.firm.epoch) (body_of item mark) ≤ more
    onto away to mark true e f = cc
    onto away to mark false e f = onward away e to mark f

    goes : t.desk ≡ None → (w : Way) → way stamp.node marked item t ≡ w → Weighs nodes most more t (sent_on set stamp item t w)
    goes away Parks e = record { fit = fit; weight = omega (arith, stays, sum_by_push (parked_weight nodes most) t.parked item) }
    goes away (Goes to mark) e =
        let same = reversed_weight nodes most stamp.node item t fit in
        record {
          fit = same.0;
          weight = omega (arith, same.1, onto away to mark (t.firm.node == stamp.node) refl e);
        }

pub mark_weight : (mark : Bool) → (if mark then 2 else 1) ≤ 2
mark_weight true = omega arith
mark_weight false = omega arith

-- a new ask
pub asks_weight : (nodes most set : ℕ) (stamp : Stamp) (ask : Ask) (t : SetState) → IsFit nodes most t
    → Weighs nodes most (ask_weight nodes most) t (asked set stamp ask t)
asks_weight nodes most set stamp ask t fit =
    let routed = route_weight nodes most (ask_weight nodes most) set stamp false (ParkedAsk ask) (record t { pending = t.pending ++ ask ∷ [] }) fit
    (omega arith) (λ away other to mark e. omega (arith, mark_weight mark)) in
    record { fit = routed.fit; weight = routed.weight }

-- a tell that is due
pub tells_weight : (nodes most set : ℕ) (stamp : Stamp) (t : SetState) → IsFit nodes most t → t.desk ≡ None
    → same_modes (bars (held_modes t.held)) (bars t.charge) ≡ false → Weighs nodes most 0 t (make_tell set stamp t)
tells_weight nodes most set stamp t fit away differs =
    let routed = route_weight nodes most (tell_weight most) set stamp false (ParkedTell (tell_of stamp t)) (record t { charge = held_modes t.held }) fit
    (omega arith) (λ gone other to mark e. omega arith) in
    record {
      fit = routed.fit;
      weight = omega (
        arith,
        routed.weight,
        ap (here_weight nodes most t.held (held_modes t.held)) away,
        ap (due_weight most) (same_itself (bars (held_modes t.held))),
        ap (here_weight nodes most t.held t.charge) away,
        ap (due_weight most) differs,
      );
    }
