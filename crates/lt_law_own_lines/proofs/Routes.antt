-- Asks and tells that are dealt with, parked or sent on go to other nodes of the script.
use Rattle.std.proofs.Common.{◌≡◌, ◌≢◌, ℕ, suc, ◌<◌, ◌≤◌, List, [], ◌∷◌, ◌++◌, length, Option, Some, None, Bool, true, false, refl, sym, subst, arith, take as take_first, drop as drop_front, ◌==◌, ◌&&◌, not, if◌then◌else◌, nat_lt, IfSome, All, fold, length-set}
use Rattle.std.specs.List.{AllByRecursion}
use Rattle.std.proofs.lemmas.Bool.{eqb-false, and_parts}
use Rattle.std.proofs.lemmas.List.Elements.{All-push, All-append, All-cons, All-take, All-drop}
use Rattle.lt_lists.proofs.AllLemmas.{all_append}
use Rattle.lt_modes.specs.declared.stamp.Stamp.{Stamp}
use Rattle.lt_modes.specs.declared.ask.Ask.{Ask}
use Rattle.lt_modes.specs.declared.parts.Link.{Link}
use Rattle.lt_modes.specs.declared.parts.Hoped.{Hoped}
use Rattle.lt_modes.specs.Modes.{excludes_itself}
use Rattle.lt_modes.specs.State.{SetState, Desk, Parked, ParkedAsk, ParkedTell, Post, entered, place, entry_of}
use Rattle.lt_modes.specs.Serving.{queue_of_desk}
use Rattle.lt_modes.specs.Telling.{is_newer, told}
use Rattle.lt_modes.specs.Routing.{Way, Parks, Goes, learn, dealt, is_behind, hoped_way, ask_way, way_onward, way, reversed, sent_on, route}
use Rattle.lt_model.proofs.Effects.{Fact, HoldsOf, holds_silent, route_ways}
use Rattle.lt_model.specs.Invariant.{IsNamed, IsParkedNamed}
use Rattle.lt_law_own_lines.specs.WaitingLaws.{IsForPeer, NamesNodes}

-- the state names nodes of the script, and the letters are for other nodes of it
abbrev pub named : ℕ → ℕ → Fact
named nodes me t posts = NamesNodes nodes me t × AllByRecursion (IsForPeer nodes me) posts

enter_named : (nodes : ℕ) (queue : List Ask) (ask : Ask) → All (IsNamed nodes) queue → IsNamed nodes ask → All (IsNamed nodes) (entered queue ask)
enter_named nodes queue ask h own =
    let k = place queue ask.holder in
    let P : Ask → Type 0 = IsNamed nodes in
    All-append P (take_first k queue) (ask ∷ drop_front k queue) (All-take P k queue h) (All-cons P ask (drop_front k queue) own (All-drop P k queue h))

-- what a desk names
pub record DeskNames (nodes : ℕ) (desk : Desk) : Type 0 where
  pub queue : All (IsNamed nodes) desk.queue
  pub entries : length desk.entries ≤ nodes

pub dealt_named : (nodes : ℕ) (desk : Desk) (item : Parked) → DeskNames nodes desk → IsParkedNamed nodes item → DeskNames nodes (dealt desk item)
dealt_named nodes desk (ParkedAsk ask) h own = record { queue = enter_named nodes desk.queue ask h.queue own; entries = h.entries }
dealt_named nodes desk (ParkedTell tell) h own =
    record { queue = h.queue; entries = omega (arith, h.entries, length-set desk.entries tell.node (told tell (entry_of desk tell.node))) }

pub all_dealt : (nodes : ℕ) (items : List Parked) (desk : Desk) → DeskNames nodes desk → All (IsParkedNamed nodes) items
    → DeskNames nodes (fold dealt desk items)
all_dealt nodes [] desk h own = h
all_dealt nodes (item ∷ rest) desk h own =
    all_dealt nodes rest (dealt desk item) (dealt_named nodes desk item h (own 0 item (omega arith))) (λ k d within. own (suc k) d (omega (arith, within)))

-- the desk here names what the state names
pub desk_of_state : (nodes me : ℕ) (t : SetState) (desk : Desk) → t.desk ≡ Some desk → NamesNodes nodes me t → DeskNames nodes desk
desk_of_state nodes me t desk e h = record {
  queue = subst (λ (o : Option Desk). All (IsNamed nodes) (queue_of_desk o)) e h.queue;
  entries = subst (λ (o : Option Desk). IfSome o (λ (d : Desk). length d.entries ≤ nodes)) e h.entries;
}

-- a state with this desk in place of its own
pub with_desk : (nodes me : ℕ) (t : SetState) (desk : Desk) → NamesNodes nodes me t → DeskNames nodes desk → NamesNodes nodes me (record t { desk = Some desk })
with_desk nodes me t desk h d = record { queue = d.queue; parked = h.parked; firm = h.firm; hoped = h.hoped; entries = d.entries }

-- a way to another node of the script
abbrev IsWayNamed : ℕ → ℕ → Way → Type 0
IsWayNamed nodes me Parks = Unit {0}
IsWayNamed nodes me (Goes to mark) = (to < nodes) × (to ≢ me)

way_named : (nodes me : ℕ) (marked : Bool) (item : Parked) (t : SetState) → NamesNodes nodes me t → IsWayNamed nodes me (way me marked item t)
way_named nodes me marked item t h = by_firm (t.firm.node == me) refl
  where
    by_hoped : t.firm.node ≢ me → (hoped : Option Hoped) → IfSome hoped (λ (link : Hoped). (link.node < nodes) × (link.node ≢ me)) → (ask : Ask)
        → IsWayNamed nodes me (hoped_way hoped t.firm.node ask)
    by_hoped other None named ask = (h.firm, other)
    by_hoped other (Some link) named ask = by_test (is_newer ask.stamp link.stamp)
      where
        by_test : (newer : Bool) → IsWayNamed nodes me (if newer then Goes link.node true else Goes t.firm.node false)
        by_test true = named
        by_test false = (h.firm, other)

    by_mark : t.firm.node ≢ me → (mark : Bool) (ask : Ask) → IsWayNamed nodes me (ask_way mark ask t)
    by_mark other false ask = by_hoped other t.hoped h.hoped ask
    by_mark other true ask = by_test (is_behind t.pending ask)
      where
        by_test : (behind : Bool) → IsWayNamed nodes me (if behind then Parks else Goes t.firm.node false)
        by_test true = tt
        by_test false = (h.firm, other)

    onward : t.firm.node ≢ me → (it : Parked) → IsWayNamed nodes me (way_onward marked it t)
    onward other (ParkedAsk ask) = by_mark other marked ask
    onward other (ParkedTell tell) = (h.firm, other)

    by_firm : (here : Bool) → (t.firm.node == me) ≡ here → IsWayNamed nodes me (if here then Parks else way_onward marked item t)
    by_firm true e = tt
    by_firm false e = onward (eqb-false t.firm.node me e) item

is_not : (b : Bool) → not b ≡ true → b ≡ false
is_not true e = sym e
is_not false e = refl

reversed_named : (nodes me : ℕ) (item : Parked) (t : SetState) → IsParkedNamed nodes item → NamesNodes nodes me t → NamesNodes nodes me (reversed me item t)
reversed_named nodes me (ParkedTell tell) t own h = h
reversed_named nodes me (ParkedAsk ask) t own h = by_test (excludes_itself ask.mode && not (ask.node == me)) refl
  where
    by_test : (other : Bool) → (excludes_itself ask.mode && not (ask.node == me)) ≡ other
        → NamesNodes nodes me (if other then record t { hoped = Some (record { node = ask.node; stamp = ask.stamp }) } else t)
    by_test false e = h
    by_test true e =
        let away : ask.node ≢ me = eqb-false ask.node me (is_not (ask.node == me) (and_parts (excludes_itself ask.mode) (not (ask.node == me)) e).1) in
        record { queue = h.queue; parked = h.parked; firm = h.firm; hoped = (own, away); entries = h.entries }

pub post_last : (nodes me : ℕ) (posts : List Post) (post : Post) → AllByRecursion (IsForPeer nodes me) posts → IsForPeer nodes me post
    → AllByRecursion (IsForPeer nodes me) (posts ++ post ∷ [])
post_last nodes me posts post h own = all_append (IsForPeer nodes me) posts (post ∷ []) h (own, tt)

-- an ask or a tell that names nodes of the script
pub route_named : (nodes set : ℕ) (stamp : Stamp) (marked : Bool) (item : Parked) (t : SetState) (posts : List Post) → IsParkedNamed nodes item
    → named nodes stamp.node t posts → HoldsOf (named nodes stamp.node) posts (route set stamp marked item t)
route_named nodes set stamp marked item t posts own h =
    route_ways (HoldsOf (named nodes stamp.node) posts) set stamp marked item t
    (λ desk e.
    let state = with_desk nodes stamp.node t (dealt desk item) h.0 (dealt_named nodes desk item (desk_of_state nodes stamp.node t desk e h.0) own) in
    holds_silent (named nodes stamp.node) posts _ (state, h.1))
    (λ away w e. goes w (subst (IsWayNamed nodes stamp.node) e (way_named nodes stamp.node marked item t h.0)))
  where
    goes : (w : Way) → IsWayNamed nodes stamp.node w → HoldsOf (named nodes stamp.node) posts (sent_on set stamp item t w)
    goes Parks to =
        let names = h.0 in
        let state : NamesNodes nodes stamp.node (record t { parked = t.parked ++ item ∷ [] }) = record {
          queue = names.queue;
          parked = All-push (IsParkedNamed nodes) t.parked item names.parked own;
          firm = names.firm;
          hoped = names.hoped;
          entries = names.entries;
        } in
        holds_silent (named nodes stamp.node) posts _ (state, h.1)
    goes (Goes to mark) way =
        (reversed_named nodes stamp.node item t own h.0, post_last nodes stamp.node posts _ h.1 (record { node = way.0; other = way.1 }))

-- a link to a node of the script
pub learn_named : (nodes me : ℕ) (link : Link) (t : SetState) → link.node < nodes → NamesNodes nodes me t → NamesNodes nodes me (learn link t)
learn_named nodes me link t below h = by_test (nat_lt t.firm.epoch link.epoch)
  where
    by_test : (greater : Bool) → NamesNodes nodes me (if greater then record t { firm = link; hoped = None } else t)
    by_test true = record { queue = h.queue; parked = h.parked; firm = below; hoped = tt; entries = h.entries }
    by_test false = h
