-- Asks and tells that are routed, and links that are learnt, stay on the path.
use Rattle.std.proofs.Common.{◌≡◌, ◌≢◌, ℕ, suc, ◌<◌, inl, inr, List, [], ◌∷◌, Option, Some, None, Bool, true, false, refl, sym, ap, subst, arith, ◌∙◌, take, drop, ◌==◌, ◌&&◌, not, nat_lt, if◌then◌else◌, IfSome, All, is_some, fold, remove, ltb-true, length-set}
use Rattle.std.specs.List.{AllByRecursion}
use Rattle.std.proofs.lemmas.Bool.{eqb-false, not-true, and_parts}
use Rattle.std.proofs.lemmas.List.Elements.{All-append, All-take, All-drop, All-cons, All-push}
use Rattle.lt_modes.specs.declared.stamp.Stamp.{Stamp}
use Rattle.lt_modes.specs.declared.ask.Ask.{Ask}
use Rattle.lt_modes.specs.declared.parts.Link.{Link}
use Rattle.lt_modes.specs.declared.parts.Hoped.{Hoped}
use Rattle.lt_modes.specs.Modes.{excludes_itself}
use Rattle.lt_modes.specs.State.{SetState, Desk, Parked, ParkedAsk, ParkedTell, entered, place, Made, then_do}
use Rattle.lt_modes.specs.SetMove.{tell}
use Rattle.lt_modes.specs.Routing.{Way, Parks, Goes, learn, dealt, is_behind, hoped_way, way, way_onward, body_of, reversed, sent_on, route, route_by}
use Rattle.lt_spec.specs.Facts.{tokens_in}
use Rattle.lt_lists.specs.Below.{one_if}
use Rattle.lt_model.specs.Invariant.{IsTrueLink, IsNamed, IsParkedNamed, DeskOnPath, HasWay, StateOnPath, BodyOnPath}
use Rattle.lt_model.specs.PathEffects.{Ground, Quiet}
use Rattle.lt_lists.proofs.AllLemmas.{all_append}

pub link_named : (nodes : ℕ) (went : List ℕ) (link : Link) → Ground nodes went → IsTrueLink went link → link.node < nodes
link_named nodes went link g true_link = subst (λ (x : ℕ). x < nodes) true_link.node (g.known link.epoch 0 true_link.epoch)

pub quiet_then : (nodes : ℕ) (went : List ℕ) (x k : ℕ) (m : Made) (rule : SetState → Made)
    → Quiet nodes went x k m → Quiet nodes went x k (rule m.state) → Quiet nodes went x k (then_do m rule)
quiet_then nodes went x k m rule first second = record {
  state = second.state;
  posts = all_append _ m.posts (rule m.state).posts first.posts second.posts;
  desk = second.desk;
}

pub entered_named : (nodes : ℕ) (queue : List Ask) (ask : Ask) → All (IsNamed nodes) queue → IsNamed nodes ask → All (IsNamed nodes) (entered queue ask)
entered_named nodes queue ask h named =
    let k = place queue ask.holder in
    All-append (IsNamed nodes) (take k queue) (ask ∷ drop k queue) (All-take (IsNamed nodes) k queue h)
    (All-cons (IsNamed nodes) ask (drop k queue) named (All-drop (IsNamed nodes) k queue h))

pub removed_named : (nodes : ℕ) (queue : List Ask) (k : ℕ) → All (IsNamed nodes) queue → All (IsNamed nodes) (remove queue k)
removed_named nodes queue k h =
    All-append (IsNamed nodes) (take k queue) (drop (suc k) queue) (All-take (IsNamed nodes) k queue h) (All-drop (IsNamed nodes) (suc k) queue h)

pub dealt_on_path : (nodes : ℕ) (went : List ℕ) (x : ℕ) (desk : Desk) (item : Parked)
    → DeskOnPath nodes went x desk → IsParkedNamed nodes item → DeskOnPath nodes went x (dealt desk item)
dealt_on_path nodes went x desk (ParkedAsk ask) d named =
    record { epoch = d.epoch; node = d.node; entries = d.entries; queue = entered_named nodes desk.queue ask d.queue named }
dealt_on_path nodes went x desk (ParkedTell tell) d named =
    record { epoch = d.epoch; node = d.node; entries = length-set desk.entries tell.node _ ∙ d.entries; queue = d.queue }

pub dealt_epoch : (desk : Desk) (item : Parked) → (dealt desk item).epoch ≡ desk.epoch
dealt_epoch desk (ParkedAsk ask) = refl
dealt_epoch desk (ParkedTell tell) = refl

pub all_dealt_on_path : (nodes : ℕ) (went : List ℕ) (x : ℕ) (items : List Parked) (desk : Desk)
    → AllByRecursion (IsParkedNamed nodes) items → DeskOnPath nodes went x desk → DeskOnPath nodes went x (fold dealt desk items)
all_dealt_on_path nodes went x [] desk named d = d
all_dealt_on_path nodes went x (item ∷ rest) desk named d =
    all_dealt_on_path nodes went x rest (dealt desk item) named.1 (dealt_on_path nodes went x desk item d named.0)

pub all_dealt_epoch : (items : List Parked) (desk : Desk) → (fold dealt desk items).epoch ≡ desk.epoch
all_dealt_epoch [] desk = refl
all_dealt_epoch (item ∷ rest) desk = all_dealt_epoch rest (dealt desk item) ∙ dealt_epoch desk item

abbrev pub IsWayOn : ℕ → ℕ → Way → Type 0
IsWayOn nodes x Parks = Unit {0}
IsWayOn nodes x (Goes to marked) = (to < nodes) × (to ≢ x)

pub hoped_way_on : (nodes x firm : ℕ) (ask : Ask) (hoped : Option Hoped) → IfSome hoped (λ (link : Hoped). (link.node < nodes) × (link.node ≢ x))
    → (firm < nodes) × (firm ≢ x) → IsWayOn nodes x (hoped_way hoped firm ask)
hoped_way_on nodes x firm ask None h other = other
hoped_way_on nodes x firm ask (Some link) h other = by_test _
  where
    by_test : (older : Bool) → IsWayOn nodes x (if older then Goes link.node true else Goes firm false)
    by_test true = h
    by_test false = other

pub way_on : (nodes : ℕ) (went : List ℕ) (x : ℕ) (s : SetState) (marked : Bool) (item : Parked)
    → Ground nodes went → StateOnPath nodes went x s → IsWayOn nodes x (way x marked item s)
way_on nodes went x s marked item g h = by_test (s.firm.node == x) refl
  where
    behind : (ask : Ask) → s.firm.node ≢ x → (stands : Bool) → IsWayOn nodes x (if stands then Parks else Goes s.firm.node false)
    behind ask d true = tt
    behind ask d false = (link_named nodes went s.firm g h.link, d)

    onward : (mark : Bool) (thing : Parked) → s.firm.node ≢ x → IsWayOn nodes x (way_onward mark thing s)
    onward true (ParkedAsk ask) d = behind ask d (is_behind s.pending ask)
    onward false (ParkedAsk ask) d = hoped_way_on nodes x s.firm.node ask s.hoped h.hoped (link_named nodes went s.firm g h.link, d)
    onward mark (ParkedTell tell) d = (link_named nodes went s.firm g h.link, d)

    by_test : (here : Bool) → (s.firm.node == x) ≡ here → IsWayOn nodes x (if here then Parks else way_onward marked item s)
    by_test true e = tt
    by_test false e = onward marked item (eqb-false s.firm.node x e)

pub reversed_on_path : (nodes : ℕ) (went : List ℕ) (x : ℕ) (item : Parked) (s : SetState)
    → IsParkedNamed nodes item → StateOnPath nodes went x s → StateOnPath nodes went x (reversed x item s)
reversed_on_path nodes went x (ParkedTell tell) s named h = h
reversed_on_path nodes went x (ParkedAsk ask) s named h = by_test (excludes_itself ask.mode && not (ask.node == x)) refl
  where
    by_test : (other : Bool) → (excludes_itself ask.mode && not (ask.node == x)) ≡ other
        → StateOnPath nodes went x (if other then record s { hoped = Some (record { node = ask.node; stamp = ask.stamp }) } else s)
    by_test true e = record {
      link = h.link;
      way = h.way;
      hoped = (named, eqb-false ask.node x (not-true _ (and_parts _ _ e).1));
      parked = h.parked;
    }
    by_test false e = h

pub reversed_desk : (x : ℕ) (item : Parked) (s : SetState) → (reversed x item s).desk ≡ s.desk
reversed_desk x (ParkedTell tell) s = refl
reversed_desk x (ParkedAsk ask) s = by_test (excludes_itself ask.mode && not (ask.node == x))
  where
    by_test : (other : Bool) → (if other then record s { hoped = Some (record { node = ask.node; stamp = ask.stamp }) } else s).desk ≡ s.desk
    by_test true = refl
    by_test false = refl

pub item_on_path : (nodes : ℕ) (went : List ℕ) (q : ℕ) (item : Parked) (marked : Bool) → IsParkedNamed nodes item → BodyOnPath nodes went q (body_of item marked)
item_on_path nodes went q (ParkedAsk ask) marked named = named
item_on_path nodes went q (ParkedTell tell) marked named = tt

pub item_tokens : (item : Parked) (marked : Bool) → tokens_in (body_of item marked) ≡ 0
item_tokens (ParkedAsk ask) marked = refl
item_tokens (ParkedTell tell) marked = refl

pub sent_on-quiet : (nodes : ℕ) (went : List ℕ) (k set : ℕ) (stamp : Stamp) (item : Parked) (s : SetState)
    → StateOnPath nodes went stamp.node s → IsParkedNamed nodes item → one_if (is_some s.desk) ≡ k
    → (w : Way) → IsWayOn nodes stamp.node w → Quiet nodes went stamp.node k (sent_on set stamp item s w)
sent_on-quiet nodes went k set stamp item s h named here Parks on = record {
  state = record { link = h.link; way = h.way; hoped = h.hoped; parked = All-push (IsParkedNamed nodes) s.parked item h.parked named };
  posts = tt;
  desk = here;
}
sent_on-quiet nodes went k set stamp item s h named here (Goes to marked) on = record {
  state = reversed_on_path nodes went stamp.node item s named h;
  posts = ((record { to = on.0; other = on.1; link = h.link; body = item_on_path nodes went to item marked named }, item_tokens item marked), tt);
  desk = ap (λ (o : Option Desk). one_if (is_some o)) (reversed_desk stamp.node item s) ∙ here;
}

-- an ask or a tell is dealt with, parked or sent on
pub route-quiet : (nodes : ℕ) (went : List ℕ) (k set : ℕ) (stamp : Stamp) (marked : Bool) (item : Parked) (s : SetState)
    → Ground nodes went → StateOnPath nodes went stamp.node s → IsParkedNamed nodes item → one_if (is_some s.desk) ≡ k
    → Quiet nodes went stamp.node k (route set stamp marked item s)
route-quiet nodes went k set stamp marked item s g h named here = by_desk s.desk h.way here
  where
    by_desk : (desk : Option Desk) → HasWay nodes went stamp.node s.firm desk → one_if (is_some desk) ≡ k
        → Quiet nodes went stamp.node k (route_by set stamp marked item s desk)
    by_desk (Some desk) d e = record {
      state = record {
        link = h.link;
        way = (dealt_on_path nodes went stamp.node desk item d.0 named, d.1, d.2 ∙ sym (dealt_epoch desk item));
        hoped = h.hoped;
        parked = h.parked;
      };
      posts = tt;
      desk = e;
    }
    by_desk None d e = sent_on-quiet nodes went k set stamp item s h named here (way stamp.node marked item s)
        (way_on nodes went stamp.node s marked item g h)

-- a link is learnt
pub learn_on_path : (nodes : ℕ) (went : List ℕ) (x : ℕ) (link : Link) (s : SetState)
    → IsTrueLink went link → StateOnPath nodes went x s → StateOnPath nodes went x (learn link s)
learn_on_path nodes went x link s true_link h = by_test (nat_lt s.firm.epoch link.epoch) refl
  where
    later : s.firm.epoch < link.epoch → (desk : Option Desk) → HasWay nodes went x s.firm desk → HasWay nodes went x link desk
    later less None known = λ epoch below node. elim (known epoch below node) [
      | inl before ↦ inl (omega (arith, before, less))
      | inr last ↦ inr last
    ]
    later less (Some desk) d = absurd (omega (arith, less, d.2, d.0.epoch, true_link.epoch))

    by_test : (greater : Bool) → nat_lt s.firm.epoch link.epoch ≡ greater
        → StateOnPath nodes went x (if greater then record s { firm = link; hoped = None } else s)
    by_test true e = record { link = true_link; way = later (ltb-true _ _ e) s.desk h.way; hoped = tt; parked = h.parked }
    by_test false e = h

pub learn_desk : (link : Link) (s : SetState) → (learn link s).desk ≡ s.desk
learn_desk link s = by_test (nat_lt s.firm.epoch link.epoch)
  where
    by_test : (greater : Bool) → (if greater then record s { firm = link; hoped = None } else s).desk ≡ s.desk
    by_test true = refl
    by_test false = refl
