-- The effects of a move name nodes of the script, and their letters are for other nodes of it.
use Rattle.std.proofs.Common.{◌≡◌, ◌≢◌, ℕ, ◌+◌, ◌<◌, ◌≤◌, List, [], ◌∷◌, ◌++◌, length, map, Option, Some, None, Bool, true, false, refl, sym, subst, arith, zero, suc, ap, ◌∙◌, take as take_first, drop as drop_front, ◌==◌, not, if◌then◌else◌, IfSome, All, remove, slice_index_or, ◌||◌, fold, position, ne_eqb, length-set, append-nil}
use Rattle.std.specs.List.{AllByRecursion, list_any}
use Rattle.std.proofs.lemmas.Bool.{eqb-false, and_parts}
use Rattle.std.proofs.lemmas.List.Elements.{All-nil, All-append, All-cons, All-take, All-drop}
use Rattle.std.proofs.lemmas.List.Quantifiers.{position-Some}
use Rattle.lt_modes.specs.declared.mode.Mode.{Mode}
use Rattle.lt_modes.specs.declared.stamp.Stamp.{Stamp}
use Rattle.lt_modes.specs.declared.ask.Ask.{Ask}
use Rattle.lt_modes.specs.Modes.{held_modes, take_lock, Modes}
use Rattle.lt_modes.specs.State.{SetState, Desk, Entry, FreezeBody, ParkedAsk, ParkedTell, Post, post_of, entry_of, no_ask, Parked, has_stamp, without, without_at, entered, place}
use Rattle.lt_modes.specs.Freezing.{cons_if, places_from, freeze, freeze_at, frozen_by, frozen_entry, is_target, targets, number_after}
use Rattle.lt_modes.specs.Serving.{queue_of, queue_of_desk, put_queue, owed_at, owing, ask_at, next_service, serve_one, serve_local, serve_copy, answer_event, answer_by, without_gone as left_gone}
use Rattle.lt_modes.specs.HandingOver.{next_draw, hand_over_to}
use Rattle.lt_modes.specs.SetMove.{answers, given, ask_of, asked, dropped}
use Rattle.lt_modes.specs.Telling.{tell_of}
use Rattle.lt_modes.specs.Routing.{route, dealt}
use Rattle.lt_modes.specs.declared.event.Event.TheVariants.{Wait}
use Rattle.lt_modes.specs.declared.event.Event.{Event}
use Rattle.lt_lists.proofs.AllLemmas.{all_append, remove_all}
use Rattle.lt_spec.specs.World.{line_client}
use Rattle.lt_law_accounts.specs.Account.{IsFirstDrawing}
use Rattle.lt_law_accounts.proofs.Drawing.{drawn_by_first}
use Rattle.lt_law_accounts.proofs.Asks.{has_stamp-true}
use Rattle.lt_model.proofs.Effects.{HoldsOf, holds_silent, holds_then, EndEffects, ActEffects, next_service-within, quiet_made}
use Rattle.lt_model.proofs.PathsQuiet.{length-map_from}
use Rattle.lt_model.specs.Invariant.{IsNamed}
use Rattle.lt_law_own_lines.specs.WaitingLaws.{IsForPeer, NamesNodes}
use Rattle.lt_law_own_lines.proofs.Routes.{named, desk_of_state, route_named, post_last}

-- rows, asks and charges don't matter
pub same_names : (nodes me : ℕ) (t u : SetState) → u.desk ≡ t.desk → u.parked ≡ t.parked → u.firm ≡ t.firm → u.hoped ≡ t.hoped
    → NamesNodes nodes me t → NamesNodes nodes me u
same_names nodes me t u desk parked firm hoped h = record {
  queue = rw desk h.queue;
  parked = rw parked h.parked;
  firm = rw firm h.firm;
  hoped = rw hoped h.hoped;
  entries = rw desk h.entries;
}

queue_kept : (nodes k : ℕ) (o : Option Desk) → All (IsNamed nodes) (queue_of_desk o)
    → All (IsNamed nodes) (queue_of_desk (put_queue (remove (queue_of_desk o) k) o))
queue_kept nodes k None h = h
queue_kept nodes k (Some desk) h = remove_all (IsNamed nodes) desk.queue k h

entries_kept : (nodes : ℕ) (queue : List Ask) (o : Option Desk) → IfSome o (λ (desk : Desk). length desk.entries ≤ nodes)
    → IfSome (put_queue queue o) (λ (desk : Desk). length desk.entries ≤ nodes)
entries_kept nodes queue None h = h
entries_kept nodes queue (Some desk) h = h

queue_owed : (nodes k : ℕ) (ask : Ask) (o : Option Desk) → All (IsNamed nodes) (queue_of_desk o) → All (IsNamed nodes) (queue_of_desk (owed_at ask k o))
queue_owed nodes k ask None h = h
queue_owed nodes k ask (Some desk) h = remove_all (IsNamed nodes) desk.queue k h

entries_owed : (nodes k : ℕ) (ask : Ask) (o : Option Desk) → IfSome o (λ (desk : Desk). length desk.entries ≤ nodes)
    → IfSome (owed_at ask k o) (λ (desk : Desk). length desk.entries ≤ nodes)
entries_owed nodes k ask None h = h
entries_owed nodes k ask (Some desk) h = omega (arith, h, length-set desk.entries ask.node (owing ask (entry_of desk ask.node)))

serves_named : (nodes set : ℕ) (stamp : Stamp) (t : SetState) (posts : List Post) (k : ℕ) → next_service stamp.node t ≡ Some k
    → named nodes stamp.node t posts → HoldsOf (named nodes stamp.node) posts (serve_one set stamp k t)
serves_named nodes set stamp t posts k next h = by_test ((ask_at t k).node == stamp.node) refl
  where
    names : NamesNodes nodes stamp.node t
    names = h.0

    by_test : (here : Bool) → ((ask_at t k).node == stamp.node) ≡ here
        → HoldsOf (named nodes stamp.node) posts (if here then serve_local set k t else serve_copy set stamp k (ask_at t k) t)
    by_test true e =
        let state : NamesNodes nodes stamp.node (serve_local set k t).state = record {
          queue = queue_kept nodes k t.desk names.queue;
          parked = names.parked;
          firm = names.firm;
          hoped = names.hoped;
          entries = entries_kept nodes (remove (queue_of t) k) t.desk names.entries;
        } in
        quiet_made (named nodes stamp.node) posts (serve_local set k t) refl (state, h.1)
    by_test false e =
        let state : NamesNodes nodes stamp.node (serve_copy set stamp k (ask_at t k) t).state = record {
          queue = queue_owed nodes k (ask_at t k) t.desk names.queue;
          parked = names.parked;
          firm = names.firm;
          hoped = names.hoped;
          entries = entries_owed nodes k (ask_at t k) t.desk names.entries;
        } in (
          state,
          post_last nodes stamp.node posts _ h.1 (record {
            node = names.queue k no_ask (next_service-within stamp.node t k next);
            other = eqb-false (ask_at t k).node stamp.node e;
          }),
        )

is_not : (b : Bool) → not b ≡ true → b ≡ false
is_not true e = sym e
is_not false e = refl

-- the targets of a freeze are other nodes that the desk knows
told_named : (nodes set : ℕ) (stamp : Stamp) (t : SetState) (frozen : Modes) (number k : ℕ) (entries : List Entry) → k + length entries ≤ nodes
    → AllByRecursion (IsForPeer nodes stamp.node) (map (λ x. post_of set stamp t x (FreezeBody number frozen)) (places_from (is_target stamp.node frozen) k entries))
told_named nodes set stamp t frozen number k [] few = tt
told_named nodes set stamp t frozen number k (entry ∷ rest) few =
    by_test (told_named nodes set stamp t frozen number (k + 1) rest (omega (arith, few))) (is_target stamp.node frozen k entry) refl
  where
    by_test : AllByRecursion (IsForPeer nodes stamp.node) (map (λ x. post_of set stamp t x (FreezeBody number frozen)) (places_from (is_target stamp.node frozen) (k + 1) rest))
        → (told : Bool) → is_target stamp.node frozen k entry ≡ told
        → AllByRecursion (IsForPeer nodes stamp.node)
        (map (λ x. post_of set stamp t x (FreezeBody number frozen)) (cons_if told k (places_from (is_target stamp.node frozen) (k + 1) rest)))
    by_test later false e = later
    by_test later true e =
        let other = eqb-false k stamp.node (is_not (k == stamp.node) (and_parts (not (k == stamp.node)) _ e).0) in
        (record { node = omega (arith, few); other = other }, later)

freezes_named : (nodes set : ℕ) (stamp : Stamp) (t : SetState) (posts : List Post) → named nodes stamp.node t posts
    → HoldsOf (named nodes stamp.node) posts (freeze set stamp t)
freezes_named nodes set stamp t posts h = by_desk t.desk refl
  where
    by_desk : (desk : Option Desk) → t.desk ≡ desk → HoldsOf (named nodes stamp.node) posts (freeze_at set stamp t desk)
    by_desk None e = holds_silent (named nodes stamp.node) posts t h
    by_desk (Some desk) e =
        let names = h.0 in
        let d = desk_of_state nodes stamp.node t desk e names in
        let frozen = frozen_by desk.queue in
        let told = targets stamp.node frozen desk in
        let number = number_after told desk.number in
        let few : 0 + length desk.entries ≤ nodes = omega (arith, d.entries) in
        let state : NamesNodes nodes stamp.node (freeze_at set stamp t (Some desk)).state = record {
          queue = d.queue;
          parked = names.parked;
          firm = names.firm;
          hoped = names.hoped;
          entries = omega (arith, d.entries, length-map_from (frozen_entry stamp.node frozen) 0 desk.entries);
        } in (
          state,
          all_append (IsForPeer nodes stamp.node) posts (map (λ x. post_of set stamp t x (FreezeBody number frozen)) told) h.1
              (told_named nodes set stamp t frozen number 0 desk.entries few),
        )

leaves_named : (nodes set : ℕ) (stamp : Stamp) (t : SetState) (posts : List Post) (k : ℕ) → next_draw stamp.node t ≡ Some k
    → named nodes stamp.node t posts → HoldsOf (named nodes stamp.node) posts (hand_over_to set stamp t (ask_at t k).node t.desk)
leaves_named nodes set stamp t posts k next h = by_desk t.desk refl
  where
    by_desk : (desk : Option Desk) → t.desk ≡ desk → HoldsOf (named nodes stamp.node) posts (hand_over_to set stamp t (ask_at t k).node desk)
    by_desk None e = holds_silent (named nodes stamp.node) posts t h
    by_desk (Some desk) e =
        let names = h.0 in
        let drawn : IsFirstDrawing stamp.node t desk (Some k) = subst (IsFirstDrawing stamp.node t desk) next (drawn_by_first stamp.node t desk e) in
        let (within, draws, first) = drawn in
        let below = (desk_of_state nodes stamp.node t desk e names).queue k no_ask within in
        let node = subst (λ (o : Option Desk). (slice_index_or (queue_of_desk o) k no_ask).node < nodes) (sym e) below in
        let other = subst (λ (o : Option Desk). (slice_index_or (queue_of_desk o) k no_ask).node ≢ stamp.node) (sym e) draws.elsewhere in
        let state : NamesNodes nodes stamp.node (hand_over_to set stamp t (ask_at t k).node (Some desk)).state = record {
          queue = All-nil (IsNamed nodes);
          parked = names.parked;
          firm = node;
          hoped = tt;
          entries = tt;
        } in
        (state, post_last nodes stamp.node posts _ h.1 (record { node = node; other = other }))

pub named_ends : (nodes set : ℕ) (stamp : Stamp) → EndEffects set stamp (named nodes stamp.node) (named nodes stamp.node) (named nodes stamp.node)
named_ends nodes set stamp = record {
  serves = serves_named nodes set stamp;
  freezes = λ t posts desk e none h. freezes_named nodes set stamp t posts h;
  leaves = leaves_named nodes set stamp;
  stays = λ t posts none h. h;
  tells = λ t posts away other h.
      route_named nodes set stamp false (ParkedTell (tell_of stamp t)) (record t { charge = held_modes t.held }) posts tt
      (same_names nodes stamp.node t (record t { charge = held_modes t.held }) refl refl refl refl h.0, h.1);
  tells_not = λ t posts away same h. h;
}

asks_named : (nodes set : ℕ) (stamp : Stamp) → stamp.node < nodes → (client : ℕ) (mode : Mode) (gives_up : Option Mode) (t : SetState) (posts : List Post)
    → named nodes stamp.node t posts → HoldsOf (named nodes stamp.node) posts (asked set stamp (ask_of stamp client mode gives_up t) t)
asks_named nodes set stamp here client mode gives_up t posts h =
    let ask = ask_of stamp client mode gives_up t in
    let more : SetState = record t { pending = t.pending ++ ask ∷ [] } in
    let first : named nodes stamp.node more (posts ++ []) =
    (same_names nodes stamp.node t more refl refl refl refl h.0, subst (AllByRecursion (IsForPeer nodes stamp.node)) (sym (append-nil posts)) h.1) in
    holds_then (named nodes stamp.node) posts (answers (Wait ask.client set ask.mode) more) (route set stamp false (ParkedAsk ask))
    (route_named nodes set stamp false (ParkedAsk ask) more (posts ++ []) here first)

pub named_acts : (nodes set : ℕ) (stamp : Stamp) → stamp.node < nodes → ActEffects set stamp (named nodes stamp.node) (named nodes stamp.node)
named_acts nodes set stamp here = record {
  nothing = λ t posts h. h;
  grants = λ client mode t posts can h. (same_names nodes stamp.node t (given client mode None t) refl refl refl refl h.0, h.1);
  changes = λ client gives_up mode t posts holds can h. (same_names nodes stamp.node t (given client mode (Some gives_up) t) refl refl refl refl h.0, h.1);
  releases = λ client mode t posts holds h.
      (same_names nodes stamp.node t (record t { held = take_lock t.held client mode }) refl refl refl refl h.0, h.1);
  drops = λ client t posts h. (same_names nodes stamp.node t (dropped client t) refl refl refl refl h.0, h.1);
  withdraws = λ other t posts waiting h. (same_names nodes stamp.node t (record t { gone = other ∷ t.gone }) refl refl refl refl h.0, h.1);
  retakes = λ ask t posts gone same h. (same_names nodes stamp.node t (record t { gone = left_gone t.gone ask.client }) refl refl refl refl h.0, h.1);
  asks = λ client mode t posts can free h. asks_named nodes set stamp here client mode None t posts h;
  change_asks = λ client gives_up mode t posts holds can free h. asks_named nodes set stamp here client mode (Some gives_up) t posts h;
}

-- Which client made each ask, and who waits where one is answered or more are made.

-- which client made the ask that has the stamp
abbrev pub Maker : Type 0
Maker = Stamp → ℕ

abbrev pub IsMadeBy : Maker → Ask → Type 0
IsMadeBy maker ask = maker ask.stamp ≡ ask.client

-- where the ask is of node q
abbrev pub IsOwnMadeBy : Maker → ℕ → Ask → Type 0
IsOwnMadeBy maker q ask = ask.node ≡ q → maker ask.stamp ≡ ask.client

abbrev pub IsParkedMadeBy : Maker → ℕ → Parked → Type 0
IsParkedMadeBy maker q (ParkedAsk ask) = IsOwnMadeBy maker q ask
IsParkedMadeBy maker q (ParkedTell tell) = Unit {0}

-- the unanswered asks, and those of node q that are here, were made by these clients
pub record AreMadeBy (maker : Maker) (q : ℕ) (t : SetState) : Type 0 where
  pub pending : All (IsMadeBy maker) t.pending
  pub parked : All (IsParkedMadeBy maker q) t.parked
  pub queue : All (IsOwnMadeBy maker q) (queue_of t)

abbrev pub OthersLines : ℕ → List Event → Type 0
OthersLines other lines = AllByRecursion (λ (line : Event). line_client line ≢ Some other) lines

-- an element that doesn't pass is taken out
any_removed : (test : Ask → Bool) (asks : List Ask) (k : ℕ) → k < length asks → test (slice_index_or asks k no_ask) ≡ false
    → list_any test (remove asks k) ≡ list_any test asks
any_removed test [] k within e = absurd (omega (arith, within))
any_removed test (ask ∷ rest) zero within e = ap (λ (b : Bool). b || list_any test rest) (sym e)
any_removed test (ask ∷ rest) (suc k) within e = ap (λ (b : Bool). test ask || b) (any_removed test rest k (omega (arith, within)) e)

-- an ask of another client is answered
waits_without : (maker : Maker) (asks : List Ask) (stamp : Stamp) (other : ℕ) → All (IsMadeBy maker) asks → (maker stamp ≢ other)
    → list_any (λ (ask : Ask). ask.client == other) (without asks stamp) ≡ list_any (λ (ask : Ask). ask.client == other) asks
waits_without maker asks stamp other h differ = by_place (position (has_stamp stamp) asks) refl
  where
    by_place : (o : Option ℕ) → position (has_stamp stamp) asks ≡ o
        → list_any (λ (ask : Ask). ask.client == other) (without_at asks o) ≡ list_any (λ (ask : Ask). ask.client == other) asks
    by_place None e = refl
    by_place (Some k) e =
        let found = position-Some (has_stamp stamp) asks k no_ask e in
        let own = slice_index_or asks k no_ask in
        let made : maker stamp ≡ own.client = ap maker (sym (has_stamp-true stamp own found.1)) ∙ h k no_ask found.0 in
        any_removed _ asks k found.0 (ne_eqb own.client other (λ same. differ (made ∙ same)))

pub answer_client : (set : ℕ) (ask : Ask) → line_client (answer_event set ask) ≡ Some ask.client
answer_client set ask = by_choice ask.gives_up
  where
    by_choice : (gives_up : Option Mode) → line_client (answer_by set ask gives_up) ≡ Some ask.client
    by_choice None = refl
    by_choice (Some mode) = refl

-- the client whose ask is answered is named
pub answered_leaves : (maker : Maker) (set other : ℕ) (ask : Ask) (asks : List Ask) → All (IsMadeBy maker) asks → IsMadeBy maker ask
    → (ask.client ≢ other)
    → list_any (λ (own : Ask). own.client == other) (without asks ask.stamp) ≡ list_any (λ (own : Ask). own.client == other) asks
answered_leaves maker set other ask asks h made differ =
    waits_without maker asks ask.stamp other h (λ same. differ (sym made ∙ same))

enter_made : (P : Ask → Type 0) (queue : List Ask) (ask : Ask) → All P queue → P ask → All P (entered queue ask)
enter_made P queue ask h own =
    let k = place queue ask.holder in
    All-append P (take_first k queue) (ask ∷ drop_front k queue) (All-take P k queue h) (All-cons P ask (drop_front k queue) own (All-drop P k queue h))

pub dealt_made : (maker : Maker) (q : ℕ) (desk : Desk) (item : Parked) → All (IsOwnMadeBy maker q) desk.queue → IsParkedMadeBy maker q item
    → All (IsOwnMadeBy maker q) (dealt desk item).queue
dealt_made maker q desk (ParkedAsk ask) h own = enter_made (IsOwnMadeBy maker q) desk.queue ask h own
dealt_made maker q desk (ParkedTell tell) h own = h

pub all_dealt_made : (maker : Maker) (q : ℕ) (items : List Parked) (desk : Desk) → All (IsOwnMadeBy maker q) desk.queue
    → AllByRecursion (IsParkedMadeBy maker q) items → All (IsOwnMadeBy maker q) (fold dealt desk items).queue
all_dealt_made maker q [] desk h own = h
all_dealt_made maker q (item ∷ rest) desk h own = all_dealt_made maker q rest (dealt desk item) (dealt_made maker q desk item h own.0) own.1

-- an ask more
pub any_pushed : (test : Ask → Bool) (asks : List Ask) (ask : Ask) → test ask ≡ false → list_any test (asks ++ ask ∷ []) ≡ list_any test asks
any_pushed test [] ask e = ap (λ (b : Bool). b || false) e
any_pushed test (first ∷ rest) ask e = ap (λ (b : Bool). test first || b) (any_pushed test rest ask e)
