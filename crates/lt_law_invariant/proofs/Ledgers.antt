-- The ledgers of a set wherever its desk is, through the effects of a move of node q.
use Rattle.lt_model.specs.AccountRules.{IsLocallyFree}
use Rattle.std.proofs.lemmas.Bool.{and_parts, eqb-true, false≢true}
use Rattle.std.proofs.Common.{◌≡◌, ℕ, ◌+◌, ◌<◌, inl, inr, [], ◌∷◌, ◌++◌, length, Option, Some, None, Bool, true, false, refl, sym, ap, subst, arith, ◌∙◌, if◌then◌else◌, Contains, remove, eq-eqb, ne_eqb, length-set, List, ◌&&◌, ◌==◌}
use Rattle.std.proofs.lemmas.List.Elements.{Contains-get_or}
use Rattle.lt_modes.specs.declared.mode.Mode.{Mode}
use Rattle.lt_modes.specs.declared.stamp.Stamp.{Stamp}
use Rattle.lt_modes.specs.declared.ask.Ask.{Ask}
use Rattle.lt_modes.specs.Modes.{bars, same_modes, held_modes, take_lock}
use Rattle.lt_modes.specs.Script.{ScriptData}
use Rattle.lt_modes.specs.State.{SetState, Desk, TokenBody, Parked, ParkedAsk, ParkedTell, Made, Post, silent, no_ask, entry_of}
use Rattle.lt_modes.specs.Freezing.{frozen_by, freeze, freeze_at}
use Rattle.lt_modes.specs.Granting.{can_grant}
use Rattle.lt_modes.specs.Serving.{ask_at, queue_of, next_service, next_at, owed_at, owing, put_queue, serve_one, serve_local, serve_copy, is_gone, is_void}
use Rattle.lt_modes.specs.HandingOver.{leaving, hand_over_to}
use Rattle.lt_modes.specs.SetMove.{make_tell, given, asked, dropped}
use Rattle.lt_modes.specs.Routing.{Way, Parks, Goes, dealt, sent_on, route}
use Rattle.lt_modes.specs.Telling.{tell_of}
use Rattle.lt_spec.specs.World.{World}
use Rattle.lt_spec.specs.Facts.{state_at, DeskIs}
use Rattle.lt_model.specs.OnWay.{Moment, Between, Acting, Frozen, copies_to}
use Rattle.lt_model.specs.NewsRules.{frozen_desk}
use Rattle.lt_model.specs.Invariant.{DeskKept}
use Rattle.lt_model.proofs.AccountRules.{serves_by_rule}
use Rattle.lt_model.proofs.PathsQuiet.{length-map_from}
use Rattle.lt_model.proofs.PathsRoutes.{reversed_desk}
use Rattle.lt_model.proofs.Effects.{route_ways, next_service-within}
use Rattle.lt_law_invariant.specs.InvariantLaws.{after_effect, copied, IsWaiting}
use Rattle.lt_law_invariant.proofs.AfterEffect.{state_here, part_stays, comes_still, comes_sent}
use Rattle.lt_law_invariant.proofs.CopyService.{copy_service_keeps}
use Rattle.lt_law_invariant.proofs.TakeToken.{hand_over_keeps}
use Rattle.lt_law_invariant.proofs.Freezes.{freeze_keeps}
use Rattle.lt_law_invariant.proofs.OwnSteps.{HasDesk, grant_keeps, unlock_keeps, drop_keeps, route_ask_keeps, asked_keeps, local_service_keeps, stays_keeps, desk_with, gone_keeps}
use Rattle.lt_law_invariant.proofs.Tells.{tell_keeps, no_tell_keeps}

-- the ledgers with the desk where it is; node q keeps this desk, or none
pub record Ledger (script : ScriptData) (moment : Moment) (w : World) (s q : ℕ) (o : Option Desk) : Type 0 where
  pub place : Option ℕ
  pub desk : Desk
  pub there : DeskIs script w s place desk
  pub has : HasDesk place desk q o
  pub entries : length desk.entries ≡ script.nodes
  pub kept : DeskKept script moment w s place desk

-- the desk is at q
pub ledger_here : (script : ScriptData) (moment : Moment) (w : World) (s q : ℕ) (desk : Desk) → q < script.nodes → (state_at w s q).desk ≡ Some desk
    → length desk.entries ≡ script.nodes → DeskKept script moment w s (Some q) desk → Ledger script moment w s q (Some desk)
ledger_here script moment w s q desk below here entries kept =
    record { place = Some q; desk = desk; there = (below, here); has = (refl, refl); entries = entries; kept = kept }

-- what a ledger with the desk here says
pub kept_here : (script : ScriptData) (moment : Moment) (w : World) (s q : ℕ) (desk : Desk) → Ledger script moment w s q (Some desk)
    → DeskKept script moment w s (Some q) desk × (length desk.entries ≡ script.nodes)
kept_here script moment w s q desk l = (
  subst (λ (p : Option ℕ). DeskKept script moment w s p desk) l.has.0 (subst (DeskKept script moment w s l.place) (sym l.has.1) l.kept),
  subst (λ (d : Desk). length d.entries ≡ script.nodes) (sym l.has.1) l.entries,
)

-- the desk stays where it is
pub desk_stays : (script : ScriptData) (w : World) (q s : ℕ) (m : Made) (place : Option ℕ) (desk : Desk)
    → m.state.desk ≡ (state_at w s q).desk → DeskIs script w s place desk
    → DeskIs script (after_effect w q s m) s place desk
desk_stays script w q s m (Some p) desk same h = (h.0, part_stays (λ (t : SetState). t.desk) w q s m same p ∙ h.1)
desk_stays script w q s m None desk same h = (h.0, h.1, comes_still script w q s m h.0 (TokenBody desk) h.2)

-- an effect that leaves the desk
stay : (script : ScriptData) (moment later : Moment) (w : World) (s q : ℕ) (m : Made) → m.state.desk ≡ (state_at w s q).desk
    → (l : Ledger script moment w s q (state_at w s q).desk) → DeskKept script later (after_effect w q s m) s l.place l.desk
    → Ledger script later (after_effect w q s m) s q m.state.desk
stay script moment later w s q m same l kept = record {
  place = l.place;
  desk = l.desk;
  there = desk_stays script w q s m l.place l.desk same l.there;
  has = subst (HasDesk l.place l.desk q) (sym same) l.has;
  entries = l.entries;
  kept = kept;
}

pub granted : (script : ScriptData) (w : World) (s q client : ℕ) (mode : Mode) (gives_up : Option Mode) → q < script.nodes
    → can_grant q (state_at w s q) client mode ≡ true
    → ((state_at w s q).desk ≡ None → bars (held_modes (state_at w s q).held) ≡ bars (state_at w s q).charge)
    → Ledger script (Acting q) w s q (state_at w s q).desk
    → Ledger script (Acting q) (after_effect w q s (silent (given client mode gives_up (state_at w s q)))) s q (state_at w s q).desk
granted script w s q client mode gives_up below can charge l =
    stay script (Acting q) (Acting q) w s q (silent (given client mode gives_up (state_at w s q))) refl l
    (grant_keeps script w s q client mode gives_up l.place l.desk below l.has l.entries can charge l.kept)

pub unlocked : (script : ScriptData) (w : World) (s q client : ℕ) (mode : Mode) → q < script.nodes
    → Ledger script (Acting q) w s q (state_at w s q).desk
    → Ledger script (Acting q) (after_effect w q s (silent (record (state_at w s q) { held = take_lock (state_at w s q).held client mode }))) s q (state_at w s q).desk
unlocked script w s q client mode below l =
    stay script (Acting q) (Acting q) w s q (silent (record (state_at w s q) { held = take_lock (state_at w s q).held client mode })) refl l
    (unlock_keeps script w s q client mode l.place l.desk below l.kept)

pub all_dropped : (script : ScriptData) (w : World) (s q client : ℕ) → q < script.nodes → Ledger script (Acting q) w s q (state_at w s q).desk
    → Ledger script (Acting q) (after_effect w q s (silent (dropped client (state_at w s q)))) s q (state_at w s q).desk
all_dropped script w s q client below l =
    stay script (Acting q) (Acting q) w s q (silent (dropped client (state_at w s q))) refl l (drop_keeps script w s q client l.place l.desk below l.kept)

pub regarded : (script : ScriptData) (w : World) (s q : ℕ) (gone : List ℕ) → Ledger script (Acting q) w s q (state_at w s q).desk
    → Ledger script (Acting q) (after_effect w q s (silent (record (state_at w s q) { gone = gone }))) s q (state_at w s q).desk
regarded script w s q gone l =
    stay script (Acting q) (Acting q) w s q (silent (record (state_at w s q) { gone = gone })) refl l (gone_keeps script w s q gone l.place l.desk l.kept)

-- what the node keeps of the desk once it has dealt with this
abbrev pub with_item : Option Desk → Parked → Option Desk
with_item None item = None
with_item (Some desk) item = Some (dealt desk item)

pub routed_desk : (set : ℕ) (stamp : Stamp) (marked : Bool) (item : Parked) (t : SetState)
    → (route set stamp marked item t).state.desk ≡ with_item t.desk item
routed_desk set stamp marked item t =
    route_ways (λ (m : Made). m.state.desk ≡ with_item t.desk item) set stamp marked item t
    (λ desk e. ap (λ (o : Option Desk). with_item o item) (sym e))
    (λ away w e. by_way w ∙ away ∙ ap (λ (o : Option Desk). with_item o item) (sym away))
  where
    by_way : (w : Way) → (sent_on set stamp item t w).state.desk ≡ t.desk
    by_way Parks = refl
    by_way (Goes to mark) = reversed_desk stamp.node item t

-- an ask that the node deals with, parks or sends on
ask_ledger : (script : ScriptData) (w : World) (s q : ℕ) (m : Made) (ask : Ask) (o : Option Desk) → q < script.nodes
    → (state_at w s q).desk ≡ o → m.state.desk ≡ with_item o (ParkedAsk ask)
    → (l : Ledger script (Acting q) w s q o) → DeskKept script (Acting q) (after_effect w q s m) s l.place (desk_with o l.desk (ParkedAsk ask))
    → Ledger script (Acting q) (after_effect w q s m) s q m.state.desk
ask_ledger script w s q m ask None below e after l kept = record {
  place = l.place;
  desk = l.desk;
  there = desk_stays script w q s m l.place l.desk (after ∙ sym e) l.there;
  has = subst (HasDesk l.place l.desk q) (sym after) l.has;
  entries = l.entries;
  kept = kept;
}
ask_ledger script w s q m ask (Some desk) below e after l kept =
    let here : m.state.desk ≡ Some (dealt l.desk (ParkedAsk ask)) = after ∙ ap (λ (d : Desk). Some (dealt d (ParkedAsk ask))) l.has.1 in
    subst (Ledger script (Acting q) (after_effect w q s m) s q) (sym here)
    (ledger_here script (Acting q) (after_effect w q s m) s q (dealt l.desk (ParkedAsk ask)) below (ap (λ (t : SetState). t.desk) (state_here w q s m) ∙ here) l.entries
    (subst (λ (p : Option ℕ). DeskKept script (Acting q) (after_effect w q s m) s p (dealt l.desk (ParkedAsk ask))) l.has.0 kept))

pub routed : (script : ScriptData) (w : World) (s q : ℕ) (stamp : Stamp) (marked : Bool) (ask : Ask) → q < script.nodes
    → Ledger script (Acting q) w s q (state_at w s q).desk
    → Ledger script (Acting q) (after_effect w q s (route s stamp marked (ParkedAsk ask) (state_at w s q))) s q (route s stamp marked (ParkedAsk ask) (state_at w s q)).state.desk
routed script w s q stamp marked ask below l =
    ask_ledger script w s q (route s stamp marked (ParkedAsk ask) (state_at w s q)) ask (state_at w s q).desk below refl (routed_desk s stamp marked (ParkedAsk ask) (state_at w s q)) l
    (route_ask_keeps script w s q stamp marked ask l.place l.desk l.has l.kept)

pub waited : (script : ScriptData) (w : World) (s q : ℕ) (stamp : Stamp) (ask : Ask) → q < script.nodes → ask.stamp.clock ≡ (w.node q).clock
    → ((own : Ask) → Contains (state_at w s q).pending own → own.stamp.clock < (w.node q).clock)
    → Ledger script (Acting q) w s q (state_at w s q).desk
    → Ledger script (Acting q) (after_effect w q s (asked s stamp ask (state_at w s q))) s q (asked s stamp ask (state_at w s q)).state.desk
waited script w s q stamp ask below now first l =
    let t = state_at w s q in
    ask_ledger script w s q (asked s stamp ask t) ask t.desk below refl (routed_desk s stamp false (ParkedAsk ask) (record t { pending = t.pending ++ ask ∷ [] })) l
    (asked_keeps script w s q stamp ask l.place l.desk below l.has now first l.kept)

none_some : {A : Type 0} (k : ℕ) → None ≡ Some k → A
none_some k e = cc

-- one service; asks of the queue wait at their nodes, and no copy for an own one is on its way here
pub serves : (script : ScriptData) (w : World) (s k : ℕ) (stamp : Stamp) → stamp.node < script.nodes
    → next_service stamp.node (state_at w s stamp.node) ≡ Some k
    → ((ask : Ask) → Contains (queue_of (state_at w s stamp.node)) ask → IsWaiting script w s ask)
    → ((ask : Ask) → Contains (queue_of (state_at w s stamp.node)) ask → ask.node ≡ stamp.node → Contains (copies_to script w s stamp.node) ask → ⊥)
    → Ledger script (Acting stamp.node) w s stamp.node (state_at w s stamp.node).desk
    → Ledger script (Acting stamp.node) (after_effect w stamp.node s (serve_one s stamp k (state_at w s stamp.node))) s stamp.node (serve_one s stamp k (state_at w s stamp.node)).state.desk
serves script w s k stamp below next waiting alone l = by_desk (state_at w s stamp.node).desk refl l
  where
    q : ℕ
    q = stamp.node

    t : SetState
    t = state_at w s q

    ask : Ask
    ask = ask_at t k

    among : Contains (queue_of t) ask
    among = Contains-get_or (queue_of t) k no_ask (next_service-within q t k next)

    by_desk : (o : Option Desk) → t.desk ≡ o → Ledger script (Acting q) w s q o
        → Ledger script (Acting q) (after_effect w q s (serve_one s stamp k t)) s q (serve_one s stamp k t).state.desk
    by_desk None away h = none_some k (sym (ap (next_at q t) away) ∙ next)
    by_desk (Some desk) here h = elim (serves_by_rule q k t desk here next) [
      | inl void ↦
          let parts = and_parts (ask.node == q) (is_gone t ask.client) void in
          own_service (eqb-true ask.node q parts.0) (λ live. absurd (false≢true (sym live ∙ parts.1)))
      | inr (inl free) ↦ own_service free.node (λ live. free)
      | inr (inr free) ↦
          let m = serve_copy s stamp k ask t in
          let now : m.state.desk ≡ Some (copied ask k desk) = ap (owed_at ask k) here in
          subst (λ (b : Bool). Ledger script (Acting q) (after_effect w q s (if b then serve_local s k t else serve_copy s stamp k ask t)) s q
          (if b then serve_local s k t else serve_copy s stamp k ask t).state.desk) (sym (ne_eqb ask.node q free.node))
          (subst (Ledger script (Acting q) (after_effect w q s m) s q) (sym now)
          (ledger_here script (Acting q) (after_effect w q s m) s q (copied ask k desk) below (ap (λ (u : SetState). u.desk) (state_here w q s m) ∙ now)
          (length-set desk.entries ask.node (owing ask (entry_of desk ask.node)) ∙ old.1)
          (copy_service_keeps script w s q k stamp desk ask (record { node = below; here = here; entries = old.1 }) (waiting ask among) free old.0)))
    ]
      where
        old : DeskKept script (Acting q) w s (Some q) desk × (length desk.entries ≡ script.nodes)
        old = kept_here script (Acting q) w s q desk h

        own_service : ask.node ≡ q → (is_gone t ask.client ≡ false → IsLocallyFree q t desk ask)
            → Ledger script (Acting q) (after_effect w q s (serve_one s stamp k t)) s q (serve_one s stamp k t).state.desk
        own_service node free =
            let m = serve_local s k t in
            let left : Desk = record desk { queue = remove (queue_of t) k } in
            let now : m.state.desk ≡ Some left = ap (λ (o : Option Desk). put_queue (remove (queue_of t) k) o) here in
            let waits : Contains t.pending ask = subst (λ (y : ℕ). Contains (state_at w s y).pending ask) node (waiting ask among).waits in
            subst (λ (b : Bool). Ledger script (Acting q) (after_effect w q s (if b then serve_local s k t else serve_copy s stamp k ask t)) s q
            (if b then serve_local s k t else serve_copy s stamp k ask t).state.desk) (sym (eq-eqb ask.node q node))
            (subst (Ledger script (Acting q) (after_effect w q s m) s q) (sym now)
            (ledger_here script (Acting q) (after_effect w q s m) s q left below (ap (λ (u : SetState). u.desk) (state_here w q s m) ∙ now) old.1
            (local_service_keeps script w s q k desk below here old.1 free waits (alone ask among node) old.0)))

-- the desk here has frozen
pub record FrozenHere (script : ScriptData) (w : World) (s q : ℕ) (o : Option Desk) : Type 0 where
  pub desk : Desk
  pub same : o ≡ Some desk
  pub here : (state_at w s q).desk ≡ Some desk
  pub entries : length desk.entries ≡ script.nodes
  pub knows : (entry_of desk q).frozen_told ≡ frozen_by desk.queue
  pub kept : DeskKept script (Frozen q) w s (Some q) desk

pub freezes : (script : ScriptData) (w : World) (s : ℕ) (stamp : Stamp) (desk : Desk) → stamp.node < script.nodes
    → (state_at w s stamp.node).desk ≡ Some desk
    → Ledger script (Acting stamp.node) w s stamp.node (Some desk)
    → FrozenHere script (after_effect w stamp.node s (freeze s stamp (state_at w s stamp.node))) s stamp.node (freeze s stamp (state_at w s stamp.node)).state.desk
freezes script w s stamp desk below here l =
    let t = state_at w s stamp.node in
    let old = kept_here script (Acting stamp.node) w s stamp.node desk l in
    let m = freeze_at s stamp t (Some desk) in
    let leads = freeze_keeps script w s stamp desk (record { node = below; here = here; entries = old.1 }) old.0 in
    subst (λ (o : Option Desk). FrozenHere script (after_effect w stamp.node s (freeze_at s stamp t o)) s stamp.node (freeze_at s stamp t o).state.desk) (sym here)
    (record {
      desk = frozen_desk stamp.node desk;
      same = refl;
      here = ap (λ (u : SetState). u.desk) (state_here w stamp.node s m);
      entries = length-map_from _ 0 desk.entries ∙ old.1;
      knows = leads.knows;
      kept = leads.kept;
    })

-- the ledgers between moves
pub record Ended (script : ScriptData) (w : World) (s : ℕ) : Type 0 where
  pub place : Option ℕ
  pub desk : Desk
  pub there : DeskIs script w s place desk
  pub kept : DeskKept script Between w s place desk

pub stays : (script : ScriptData) (w : World) (s q : ℕ) → q < script.nodes → FrozenHere script w s q (state_at w s q).desk → Ended script w s
stays script w s q below f = record { place = Some q; desk = f.desk; there = (below, f.here); kept = stays_keeps script w s q f.desk below f.kept }

pub leaves : (script : ScriptData) (w : World) (s v : ℕ) (stamp : Stamp) → stamp.node < script.nodes → v < script.nodes
    → stamp.clock ≡ (w.node stamp.node).clock
    → FrozenHere script w s stamp.node (state_at w s stamp.node).desk
    → Ended script (after_effect w stamp.node s (hand_over_to s stamp (state_at w s stamp.node) v (state_at w s stamp.node).desk)) s
leaves script w s v stamp below named now f =
    let t = state_at w s stamp.node in
    let m = hand_over_to s stamp t v (Some f.desk) in
    let left = leaving stamp t f.desk in
    let post : Post = record { to = v; letter = record { stamp = stamp; set = s; link = record { node = v; epoch = f.desk.epoch + 1 }; body = TokenBody left } } in
    subst (λ (o : Option Desk). Ended script (after_effect w stamp.node s (hand_over_to s stamp t v o)) s) (sym f.here)
    (record {
      place = None;
      desk = left;
      there = (v, named, comes_sent script w stamp.node s m post below (0, omega arith, refl) refl);
      kept = hand_over_keeps script w s v stamp f.desk (record { node = below; here = f.here; entries = f.entries }) now f.knows f.kept;
    })

pub tells : (script : ScriptData) (w : World) (s : ℕ) (stamp : Stamp) → stamp.node < script.nodes → (state_at w s stamp.node).desk ≡ None
    → stamp.clock ≡ (w.node stamp.node).clock → (state_at w s stamp.node).firm.node < script.nodes
    → Ledger script (Acting stamp.node) w s stamp.node (state_at w s stamp.node).desk
    → Ended script (after_effect w stamp.node s (make_tell s stamp (state_at w s stamp.node))) s
tells script w s stamp below away now named l =
    let t = state_at w s stamp.node in
    let m = make_tell s stamp t in
    let elsewhere = subst (HasDesk l.place l.desk stamp.node) away l.has in
    let same : m.state.desk ≡ t.desk = routed_desk s stamp false (ParkedTell (tell_of stamp t)) (record t { charge = held_modes t.held })
    ∙ ap (λ (o : Option Desk). with_item o (ParkedTell (tell_of stamp t))) away ∙ sym away in
    record {
      place = l.place;
      desk = l.desk;
      there = desk_stays script w stamp.node s m l.place l.desk same l.there;
      kept = tell_keeps script w s stamp l.place l.desk below away elsewhere now named l.kept;
    }

pub tells_not : (script : ScriptData) (w : World) (s q : ℕ) → q < script.nodes → (state_at w s q).desk ≡ None
    → same_modes (bars (held_modes (state_at w s q).held)) (bars (state_at w s q).charge) ≡ true
    → Ledger script (Acting q) w s q (state_at w s q).desk → Ended script w s
tells_not script w s q below away same l = record {
  place = l.place;
  desk = l.desk;
  there = l.there;
  kept = no_tell_keeps script w s q l.place l.desk below (subst (HasDesk l.place l.desk q) away l.has) same l.kept;
}
