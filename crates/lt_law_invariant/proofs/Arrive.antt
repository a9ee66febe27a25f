-- A letter arrives: from the ledgers before the move to those in the middle of it.
use Rattle.std.proofs.Common.{◌≡◌, ℕ, ◌<◌, inl, inr, List, [], ◌∷◌, length, Option, Some, None, Bool, true, false, refl, sym, ap, subst, ◌∙◌, if◌then◌else◌, Contains, fold, nat_lt, length-set}
use Rattle.std.specs.List.{AllByRecursion}
use Rattle.lt_modes.specs.declared.stamp.Stamp.{Stamp}
use Rattle.lt_modes.specs.Script.{ScriptData}
use Rattle.lt_modes.specs.State.{SetState, Desk, Body, AskBody, TellBody, CopyBody, TokenBody, FreezeBody, Parked, ParkedAsk, ParkedTell, Made, silent, entry_of}
use Rattle.lt_modes.specs.Telling.{told, tell_applied}
use Rattle.lt_modes.specs.Routing.{dealt, route, route_by}
use Rattle.lt_modes.specs.Taking.{take_body, take_copy, take_freeze, take_token}
use Rattle.lt_spec.specs.World.{World}
use Rattle.lt_spec.specs.Facts.{state_at, DeskIs}
use Rattle.lt_model.specs.OnWay.{Acting, copies_to}
use Rattle.lt_model.specs.AccountRules.{IsParkedOf}
use Rattle.lt_model.specs.Invariant.{DeskKept}
use Rattle.lt_law_invariant.specs.InvariantLaws.{after_effect}
use Rattle.lt_law_invariant.proofs.AfterEffect.{state_here}
use Rattle.lt_law_invariant.proofs.OwnSteps.{HasDesk}
use Rattle.lt_law_invariant.proofs.InHand.{InHand}
use Rattle.lt_law_invariant.proofs.TakeTell.{nothing_in_hand, take_copy_keeps, apply_keeps, route_tell_keeps}
use Rattle.lt_law_invariant.proofs.Freezes.{take_freeze_keeps}
use Rattle.lt_law_invariant.proofs.TakeToken.{token_keeps}
use Rattle.lt_law_invariant.proofs.Ledgers.{Ledger, ledger_here, kept_here, desk_stays, routed, routed_desk, with_item}

-- with a letter in hand that isn't the token the desk is where it was
desk_hand : (script : ScriptData) (w base : World) (s q : ℕ) (body : Body) (place : Option ℕ) (desk : Desk) → InHand script w base s q body
    → ((d : Desk) → TokenBody d ≡ body → ⊥) → DeskIs script w s place desk → DeskIs script base s place desk
desk_hand script w base s q body (Some p) desk hand other h = (h.0, hand.desk p ∙ h.1)
desk_hand script w base s q body None desk hand other h = (
  h.0,
  h.1,
  elim (hand.left h.0 (TokenBody desk) h.2) [
    | inl old ↦ old
    | inr taken ↦ absurd (other desk taken.1)
  ],
)

-- the ledgers once it is in hand
ledger_hand : (script : ScriptData) (w base : World) (s q : ℕ) (body : Body) → InHand script w base s q body → ((d : Desk) → TokenBody d ≡ body → ⊥)
    → (l : Ledger script (Acting q) w s q (state_at w s q).desk) → DeskKept script (Acting q) base s l.place l.desk
    → Ledger script (Acting q) base s q (state_at base s q).desk
ledger_hand script w base s q body hand other l kept = record {
  place = l.place;
  desk = l.desk;
  there = desk_hand script w base s q body l.place l.desk hand other l.there;
  has = subst (HasDesk l.place l.desk q) (sym (hand.desk q)) l.has;
  entries = l.entries;
  kept = kept;
}

entries_dealt : (items : List Parked) (desk : Desk) → length (fold dealt desk items).entries ≡ length desk.entries
entries_dealt [] desk = refl
entries_dealt (ParkedAsk ask ∷ rest) desk = entries_dealt rest (dealt desk (ParkedAsk ask))
entries_dealt (ParkedTell tell ∷ rest) desk =
    entries_dealt rest (dealt desk (ParkedTell tell)) ∙ length-set desk.entries tell.node (told tell (entry_of desk tell.node))

-- what is asked of the letter that is taken
abbrev pub IsFair : ScriptData → World → World → ℕ → ℕ → Body → Type 0
IsFair script w base s q (AskBody ask marked) = Unit {0}
IsFair script w base s q (TellBody tell) = tell.node < script.nodes
IsFair script w base s q (CopyBody ask) = Contains (copies_to script base s q) ask → ⊥
IsFair script w base s q (TokenBody desk) = (length desk.entries ≡ script.nodes) × ((state_at w s q).desk ≡ None) × AllByRecursion (IsParkedOf script.nodes) (state_at base s q).parked
    × DeskKept script (Acting q) w s None desk
IsFair script w base s q (FreezeBody number modes) = Unit {0}

-- what the letter says is done
pub body_done : (script : ScriptData) (w base : World) (s : ℕ) (stamp : Stamp) (body : Body) → stamp.node < script.nodes
    → InHand script w base s stamp.node body
    → (state_at base s stamp.node).firm.node < script.nodes → IsFair script w base s stamp.node body
    → Ledger script (Acting stamp.node) w s stamp.node (state_at w s stamp.node).desk
    → Ledger script (Acting stamp.node) (after_effect base stamp.node s (take_body s stamp body (state_at base s stamp.node))) s stamp.node (take_body s stamp body (state_at base s stamp.node)).state.desk
body_done script w base s stamp (AskBody ask marked) below hand firm fair l =
    routed script base s stamp.node stamp marked ask below
    (ledger_hand script w base s stamp.node (AskBody ask marked) hand (λ d e. not_token d e) l
    (nothing_in_hand script w base s stamp.node (AskBody ask marked) l.place l.desk hand (λ x. refl) refl refl l.kept))
  where
    not_token : (d : Desk) → TokenBody d ≡ AskBody ask marked → ⊥
    not_token d e = cc
body_done script w base s stamp (TellBody tell) below hand firm fair l = by_desk (state_at base s q).desk refl
  where
    q : ℕ
    q = stamp.node

    t : SetState
    t = state_at base s q

    not_token : (d : Desk) → TokenBody d ≡ TellBody tell → ⊥
    not_token d e = cc

    by_desk : (o : Option Desk) → t.desk ≡ o
        → Ledger script (Acting q) (after_effect base q s (route s stamp false (ParkedTell tell) t)) s q (route s stamp false (ParkedTell tell) t).state.desk
    by_desk (Some desk) here =
        let old = kept_here script (Acting q) w s q desk (subst (Ledger script (Acting q) w s q) (sym (hand.desk q) ∙ here) l) in
        let m : Made = silent (record t { desk = Some (tell_applied tell desk) }) in
        subst (λ (o : Option Desk). Ledger script (Acting q) (after_effect base q s (route_by s stamp false (ParkedTell tell) t o)) s q (route_by s stamp false (ParkedTell tell) t o).state.desk) (sym here)
        (ledger_here script (Acting q) (after_effect base q s m) s q (tell_applied tell desk) below (ap (λ (u : SetState). u.desk) (state_here base q s m))
        (length-set desk.entries tell.node (told tell (entry_of desk tell.node)) ∙ old.1)
        (apply_keeps script w base s q tell desk below hand fair old.1 old.0))
    by_desk None away =
        let m = route s stamp false (ParkedTell tell) t in
        let same : m.state.desk ≡ t.desk = routed_desk s stamp false (ParkedTell tell) t ∙ ap (λ (o : Option Desk). with_item o (ParkedTell tell)) away ∙ sym away in
        record {
          place = l.place;
          desk = l.desk;
          there = desk_stays script base q s m l.place l.desk same (desk_hand script w base s q (TellBody tell) l.place l.desk hand not_token l.there);
          has = subst (HasDesk l.place l.desk q) (sym (same ∙ hand.desk q)) l.has;
          entries = l.entries;
          kept = route_tell_keeps script w base s q stamp false tell l.place l.desk below hand fair away firm l.kept;
        }
body_done script w base s stamp (CopyBody ask) below hand firm fair l =
    let q = stamp.node in
    let m = take_copy s ask (state_at base s q) in
    record {
      place = l.place;
      desk = l.desk;
      there = desk_stays script base q s m l.place l.desk refl (desk_hand script w base s q (CopyBody ask) l.place l.desk hand not_token l.there);
      has = subst (HasDesk l.place l.desk q) (sym (hand.desk q)) l.has;
      entries = l.entries;
      kept = take_copy_keeps script w base s q ask l.place l.desk below hand (subst (HasDesk l.place l.desk q) (sym (hand.desk q)) l.has) fair l.kept;
    }
  where
    not_token : (d : Desk) → TokenBody d ≡ CopyBody ask → ⊥
    not_token d e = cc
body_done script w base s stamp (TokenBody desk) below hand firm (entries, away, named, kept) l =
    let q = stamp.node in
    let m = silent (take_token q desk (state_at base s q)) in
    ledger_here script (Acting q) (after_effect base q s m) s q (fold dealt desk (state_at base s q).parked) below (ap (λ (u : SetState). u.desk) (state_here base q s m))
    (entries_dealt (state_at base s q).parked desk ∙ entries)
    (token_keeps script base s q desk below entries named (nothing_in_hand script w base s q (TokenBody desk) None desk hand (λ x. refl) refl refl kept))
body_done script w base s stamp (FreezeBody number modes) below hand firm fair l =
    let q = stamp.node in
    let m = silent (take_freeze number modes (state_at base s q)) in
    let same : m.state.desk ≡ (state_at base s q).desk = by_test (state_at base s q) (nat_lt (state_at base s q).number number) in
    record {
      place = l.place;
      desk = l.desk;
      there = desk_stays script base q s m l.place l.desk same (desk_hand script w base s q (FreezeBody number modes) l.place l.desk hand not_token l.there);
      has = subst (HasDesk l.place l.desk q) (sym (same ∙ hand.desk q)) l.has;
      entries = l.entries;
      kept = take_freeze_keeps script w base s q number modes l.place l.desk below hand l.kept;
    }
  where
    not_token : (d : Desk) → TokenBody d ≡ FreezeBody number modes → ⊥
    not_token d e = cc

    by_test : (t : SetState) (newer : Bool) → (if newer then record t { frozen = modes; number = number } else t).desk ≡ t.desk
    by_test t true = refl
    by_test t false = refl
