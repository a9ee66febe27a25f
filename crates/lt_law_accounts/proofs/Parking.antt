-- What is parked, and which freeze is kept.
use Rattle.std.proofs.Common.{◌≡◌, Bool, true, false, ℕ, Option, Some, None, inl, inr, refl, arith, if◌then◌else◌, ◌==◌, ◌&&◌, ◌⊎◌, nat_lt, eqb-true, eq-eqb, lt-ltb, ltb-true}
use Rattle.std.proofs.lemmas.Bool.{and_parts, and_from, false_from_ne_true}
use Rattle.lt_modes.specs.declared.ask.Ask.{Ask}
use Rattle.lt_modes.specs.declared.parts.Hoped.{Hoped}
use Rattle.lt_modes.specs.Modes.{excludes_itself}
use Rattle.lt_modes.specs.State.{SetState, Parked, ParkedAsk, ParkedTell}
use Rattle.lt_modes.specs.Routing.{Parks, Goes, way, way_onward, hoped_way, is_behind}
use Rattle.lt_modes.specs.Telling.{is_newer}
use Rattle.lt_lists.proofs.Members.{list_any-at, list_any-which}
use Rattle.lt_law_accounts.specs.Account.{IsBehindTaking, IsMarkedBehind, ParksBehindTakingAsk, KeepsFreezeOfSameNumber, TakesLaterFreeze}

is_older : Ask → Ask → Bool
is_older ask own = excludes_itself own.mode && is_newer ask.stamp own.stamp

behind_which : (s : SetState) (ask : Ask) → is_behind s.pending ask ≡ true → IsBehindTaking s ask
behind_which s ask e =
    let found = list_any-which (λ (own : Ask). excludes_itself own.mode && is_newer ask.stamp own.stamp) s.pending e in
    let parts = and_parts (excludes_itself found.0.mode) (is_newer ask.stamp found.0.stamp) found.2 in
    (found.0, found.1, parts.0, parts.1)

behind_at : (s : SetState) (ask : Ask) → IsBehindTaking s ask → is_behind s.pending ask ≡ true
behind_at s ask (own, known, taking, newer) =
    list_any-at (λ (own : Ask). excludes_itself own.mode && is_newer ask.stamp own.stamp) s.pending own known (and_from (excludes_itself own.mode) (is_newer ask.stamp own.stamp) taking newer)

never_parks : (hoped : Option Hoped) (firm : ℕ) (ask : Ask) → hoped_way hoped firm ask ≡ Parks → ⊥
never_parks None firm ask e = absurd (cc)
never_parks (Some hoped) firm ask e = elim (is_newer ask.stamp hoped.stamp) as (λ t. (if t then Goes hoped.node true else Goes firm false) ≡ Parks → ⊥) [
  | true ↦ λ e. absurd (cc)
  | false ↦ λ e. absurd (cc)
] e

onward_parks : (marked : Bool) (item : Parked) (s : SetState) → way_onward marked item s ≡ Parks → IsMarkedBehind marked item s
onward_parks marked (ParkedTell tell) s e = absurd (cc)
onward_parks false (ParkedAsk ask) s e = absurd (never_parks s.hoped s.firm.node ask e)
onward_parks true (ParkedAsk ask) s e =
    elim (is_behind s.pending ask) as (λ t. is_behind s.pending ask ≡ t → (if t then Parks else Goes s.firm.node false) ≡ Parks → IsMarkedBehind true (ParkedAsk ask) s) [
      | true ↦ λ behind e. (refl, ask, refl, behind_which s ask behind)
      | false ↦ λ behind e. absurd (cc)
    ] refl e

parks_onward : (marked : Bool) (item : Parked) (s : SetState) → IsMarkedBehind marked item s → way_onward marked item s ≡ Parks
parks_onward marked item s (is_marked, ask, is_ask, behind) = rw (is_marked, is_ask, behind_at s ask behind) refl

pub parks_behind : ParksBehindTakingAsk
parks_behind me marked item s = (only, all)
  where
    only : way me marked item s ≡ Parks → (s.firm.node ≡ me) ⊎ IsMarkedBehind marked item s
    only e = elim (s.firm.node == me) as (λ t. s.firm.node == me ≡ t → (if t then Parks else way_onward marked item s) ≡ Parks → (s.firm.node ≡ me) ⊎ IsMarkedBehind marked item s) [
      | true ↦ λ here e. inl (eqb-true s.firm.node me here)
      | false ↦ λ away e. inr (onward_parks marked item s e)
    ] refl e

    all : (s.firm.node ≡ me) ⊎ IsMarkedBehind marked item s → way me marked item s ≡ Parks
    all (inl here) = rw (eq-eqb s.firm.node me here) refl
    all (inr behind) = elim (s.firm.node == me) as (λ t. (if t then Parks else way_onward marked item s) ≡ Parks) [
      | true ↦ refl
      | false ↦ parks_onward marked item s behind
    ]

pub same_freeze : KeepsFreezeOfSameNumber
same_freeze number frozen s h =
    let fails : nat_lt s.number number ≡ false = false_from_ne_true (nat_lt s.number number) (λ e. absurd (omega (arith, h, ltb-true s.number number e))) in
    rw fails refl

pub later_freeze : TakesLaterFreeze
later_freeze number frozen s h = rw (lt-ltb s.number number h) refl
