-- The effects of a move on a set leave a client that no line names waiting as before.
use Rattle.lt_modes.specs.declared.event.Event.{Event}
use Rattle.lt_spec.specs.World.{line_client}
use Rattle.std.specs.List.{list_any}
use Rattle.lt_model.proofs.Voids.{withdraws_ways}
use Rattle.lt_modes.specs.declared.event.Event.TheVariants.{Void}
use Rattle.std.proofs.Common.{◌≡◌, ℕ, ◌<◌, [], ◌∷◌, ◌++◌, length, Option, Some, None, Bool, true, false, refl, ap, subst, ◌∙◌, ◌==◌, ◌&&◌, not, nat_lt, if◌then◌else◌, All, remove, eqb-true, ne_eqb, List, ◌≢◌, ◌||◌, sym}
use Rattle.std.proofs.lemmas.List.Elements.{All-push, All-nil, recursion_from_All}
use Rattle.lt_modes.specs.declared.mode.Mode.{Mode}
use Rattle.lt_modes.specs.declared.stamp.Stamp.{Stamp}
use Rattle.lt_modes.specs.declared.ask.Ask.{Ask}
use Rattle.lt_modes.specs.declared.parts.Link.{Link}
use Rattle.lt_modes.specs.Modes.{excludes_itself, held_modes}
use Rattle.lt_modes.specs.State.{SetState, Desk, Body, AskBody, TellBody, CopyBody, TokenBody, FreezeBody, Letter, Parked, ParkedAsk, ParkedTell, Made, silent, then_do, no_ask, without}
use Rattle.lt_modes.specs.Serving.{queue_of, queue_of_desk, put_queue, owed_at, ask_at, serve_one, serve_local, serve_copy, is_gone, without_gone as left_gone, answer_event}
use Rattle.lt_modes.specs.Waiting.{waits}
use Rattle.lt_modes.specs.HandingOver.{hand_over_to}
use Rattle.lt_modes.specs.Freezing.{freeze, freeze_at}
use Rattle.lt_modes.specs.SetMove.{finish, ask_of, asked, dropped, drop, withdrawn, withdraw}
use Rattle.lt_modes.specs.Routing.{Way, Parks, Goes, learn, reversed, sent_on, route}
use Rattle.lt_modes.specs.Telling.{tell_of}
use Rattle.lt_modes.specs.Taking.{take_body, arrive, take}
use Rattle.lt_lists.proofs.AllLemmas.{all_front, all_back, remove_all}
use Rattle.lt_model.proofs.Effects.{route_ways}
use Rattle.lt_model.proofs.HomesRows.{without_home}
use Rattle.lt_model.proofs.TryEffects.{Between, EndRules, ActRules, finish_rule, take_rule}
use Rattle.lt_law_own_lines.proofs.Ends.{Maker, IsMadeBy, IsOwnMadeBy, IsParkedMadeBy, AreMadeBy, OthersLines, answered_leaves, dealt_made, all_dealt_made, any_pushed, answer_client}

-- so it stays, and a client that no line names waits as before
pub record Leaves (maker : Maker) (q other : ℕ) (t : SetState) (m : Made) : Type 0 where
  pub made : AreMadeBy maker q m.state
  pub waiting : OthersLines other m.events → waits m.state other ≡ waits t other

abbrev pub leaves : Maker → ℕ → ℕ → Between
leaves maker q other t m = AreMadeBy maker q t → Leaves maker q other t m

joined_leaves : (maker : Maker) (q other : ℕ) (t : SetState) (m : Made) (rule : SetState → Made) → leaves maker q other t m
    → leaves maker q other m.state (rule m.state) → leaves maker q other t (then_do m rule)
joined_leaves maker q other t m rule first second h =
    let one = first h in
    let two = second one.made in
    record {
      made = two.made;
      waiting = λ lines. two.waiting (all_back _ m.events (rule m.state).events lines) ∙ one.waiting (all_front _ m.events (rule m.state).events lines);
    }

reversed_leaves : (maker : Maker) (q other me : ℕ) (item : Parked) (t : SetState) → AreMadeBy maker q t
    → AreMadeBy maker q (reversed me item t) × (waits (reversed me item t) other ≡ waits t other)
reversed_leaves maker q other me (ParkedTell tell) t h = (h, refl)
reversed_leaves maker q other me (ParkedAsk ask) t h = by_test (excludes_itself ask.mode && not (ask.node == me))
  where
    turned : SetState
    turned = record t { hoped = Some (record { node = ask.node; stamp = ask.stamp }) }

    by_test : (away : Bool) → AreMadeBy maker q (if away then turned else t) × (waits (if away then turned else t) other ≡ waits t other)
    by_test true = (record { pending = h.pending; parked = h.parked; queue = h.queue }, refl)
    by_test false = (h, refl)

route_leaves : (maker : Maker) (q other set : ℕ) (stamp : Stamp) (marked : Bool) (item : Parked) → IsParkedMadeBy maker q item
    → (t : SetState) → leaves maker q other t (route set stamp marked item t)
route_leaves maker q other set stamp marked item own t h =
    route_ways (Leaves maker q other t) set stamp marked item t
    (λ desk e. record {
      made = record {
        pending = h.pending;
        parked = h.parked;
        queue = dealt_made maker q desk item (subst (λ (o : Option Desk). All (IsOwnMadeBy maker q) (queue_of_desk o)) e h.queue) own;
      };
      waiting = λ lines. refl;
    })
    (λ away w e. goes w)
  where
    goes : (w : Way) → Leaves maker q other t (sent_on set stamp item t w)
    goes Parks = record {
      made = record { pending = h.pending; parked = All-push (IsParkedMadeBy maker q) t.parked item h.parked own; queue = h.queue };
      waiting = λ lines. refl;
    }
    goes (Goes to mark) =
        let turned = reversed_leaves maker q other stamp.node item t h in record { made = turned.0; waiting = λ lines. turned.1 }

-- the marks of the others stay
gone_stays : (gone : List ℕ) (client c : ℕ) → c ≢ client → list_any (λ other. other == c) (left_gone gone client) ≡ list_any (λ other. other == c) gone
gone_stays [] client c d = refl
gone_stays (x ∷ rest) client c d = by_test (x == client) refl (gone_stays rest client c d)
  where
    by_test : (own : Bool) → (x == client) ≡ own → list_any (λ other. other == c) (left_gone rest client) ≡ list_any (λ other. other == c) rest
        → list_any (λ other. other == c) (if not own then x ∷ left_gone rest client else left_gone rest client) ≡ ((x == c) || list_any (λ other. other == c) rest)
    by_test true e again = again ∙ sym (ap (λ (b : Bool). b || list_any (λ other. other == c) rest) (ne_eqb x c (λ f. d (sym f ∙ eqb-true x client e))))
    by_test false e again = ap (λ (b : Bool). (x == c) || b) again

end_client : (set : ℕ) (ask : Ask) (gone : Bool) → line_client (if gone then Void ask.client set ask.mode else answer_event set ask) ≡ Some ask.client
end_client set ask true = refl
end_client set ask false = answer_client set ask

-- an ask that leaves, given up or not, leaves others waiting as before
ended_leaves : (maker : Maker) (set other : ℕ) (t : SetState) (ask : Ask) (gone : Bool) → All (IsMadeBy maker) t.pending → IsMadeBy maker ask
    → OthersLines other ((if gone then Void ask.client set ask.mode else answer_event set ask) ∷ [])
    → (list_any (λ (own : Ask). own.client == other) (without t.pending ask.stamp) && not (list_any (λ x. x == other) (left_gone t.gone ask.client))) ≡ waits t other
ended_leaves maker set other t ask gone h made lines =
    let differ : ask.client ≢ other = λ same. lines.0 (end_client set ask gone ∙ ap (λ (c : ℕ). Some c) same) in
    let asks = answered_leaves maker set other ask t.pending h made differ in
    let marks = gone_stays t.gone ask.client other (λ same. differ (sym same)) in
    λ i. asks i && not (marks i)

serves_leaves : (maker : Maker) (other set : ℕ) (stamp : Stamp) (t : SetState) (k : ℕ) → k < length (queue_of t)
    → leaves maker stamp.node other t (serve_one set stamp k t)
serves_leaves maker other set stamp t k within h = by_test ((ask_at t k).node == stamp.node) refl
  where
    ask : Ask
    ask = ask_at t k

    put_made : (desk : Option Desk) → All (IsOwnMadeBy maker stamp.node) (queue_of_desk desk)
        → All (IsOwnMadeBy maker stamp.node) (queue_of_desk (put_queue (remove (queue_of_desk desk) k) desk))
    put_made None all = all
    put_made (Some desk) all = remove_all (IsOwnMadeBy maker stamp.node) desk.queue k all

    owed_made : (desk : Option Desk) → All (IsOwnMadeBy maker stamp.node) (queue_of_desk desk)
        → All (IsOwnMadeBy maker stamp.node) (queue_of_desk (owed_at ask k desk))
    owed_made None all = all
    owed_made (Some desk) all = remove_all (IsOwnMadeBy maker stamp.node) desk.queue k all

    by_test : (here : Bool) → ((ask_at t k).node == stamp.node) ≡ here
        → Leaves maker stamp.node other t (if here then serve_local set k t else serve_copy set stamp k (ask_at t k) t)
    by_test true e = record {
      made = record {
        pending = without_home (IsMadeBy maker) t.pending ask.stamp h.pending;
        parked = h.parked;
        queue = put_made t.desk h.queue;
      };
      waiting = ended_leaves maker set other t ask (is_gone t ask.client) h.pending (h.queue k no_ask within (eqb-true ask.node stamp.node e));
    }
    by_test false e = record {
      made = record { pending = h.pending; parked = h.parked; queue = owed_made t.desk h.queue };
      waiting = λ lines. refl;
    }

freezes_leaves : (maker : Maker) (q other set : ℕ) (stamp : Stamp) (t : SetState) → leaves maker q other t (freeze set stamp t)
freezes_leaves maker q other set stamp t h = by_desk t.desk h.queue
  where
    by_desk : (desk : Option Desk) → All (IsOwnMadeBy maker q) (queue_of_desk desk) → Leaves maker q other t (freeze_at set stamp t desk)
    by_desk None queue = record { made = h; waiting = λ lines. refl }
    by_desk (Some desk) queue = record {
      made = record { pending = h.pending; parked = h.parked; queue = queue };
      waiting = λ lines. refl;
    }

hands_over_leaves : (maker : Maker) (q other set : ℕ) (stamp : Stamp) (t : SetState) (v : ℕ) → leaves maker q other t (hand_over_to set stamp t v t.desk)
hands_over_leaves maker q other set stamp t v h = by_desk t.desk
  where
    by_desk : (desk : Option Desk) → Leaves maker q other t (hand_over_to set stamp t v desk)
    by_desk None = record { made = h; waiting = λ lines. refl }
    by_desk (Some desk) = record {
      made = record { pending = h.pending; parked = h.parked; queue = All-nil (IsOwnMadeBy maker q) };
      waiting = λ lines. refl;
    }

leaving_ends : (maker : Maker) (other set : ℕ) (stamp : Stamp) → EndRules set stamp (leaves maker stamp.node other)
leaving_ends maker other set stamp = record {
  silent = λ t h. record { made = h; waiting = λ lines. refl };
  joined = joined_leaves maker stamp.node other;
  serves = serves_leaves maker other set stamp;
  freezes = freezes_leaves maker stamp.node other set stamp;
  leaves = hands_over_leaves maker stamp.node other set stamp;
  tells = λ t h.
      let told = record t { charge = held_modes t.held } in
      let routed =
      route_leaves maker stamp.node other set stamp false (ParkedTell (tell_of stamp t)) tt told (record { pending = h.pending; parked = h.parked; queue = h.queue }) in
      record { made = routed.made; waiting = routed.waiting };
}

pub finish_leaves : (maker : Maker) (other set : ℕ) (stamp : Stamp) (t : SetState) → leaves maker stamp.node other t (finish set stamp t)
finish_leaves maker other set stamp t = finish_rule set stamp (leaves maker stamp.node other) (leaving_ends maker other set stamp) t

pub drop_leaves : (maker : Maker) (other set : ℕ) (stamp : Stamp) (client : ℕ) (t : SetState) → leaves maker stamp.node other t (drop set stamp client t)
drop_leaves maker other set stamp client t h =
    let ended = finish_leaves maker other set stamp (dropped client t) (record { pending = h.pending; parked = h.parked; queue = h.queue }) in
    record { made = ended.made; waiting = ended.waiting }

pub withdraw_leaves : (maker : Maker) (other set : ℕ) (stamp : Stamp) (client whose : ℕ) (t : SetState)
    → leaves maker stamp.node other t (withdraw set stamp client whose t)
withdraw_leaves maker other set stamp client whose t =
    joined_leaves maker stamp.node other t (withdrawn set client whose t) (finish set stamp)
    (λ h. withdraws_ways (Leaves maker stamp.node other t) set client whose t
    (λ waiting. record {
      made = record { pending = h.pending; parked = h.parked; queue = h.queue };
      waiting = λ lines. ap (λ (b : Bool). list_any (λ (own : Ask). own.client == other) t.pending && not (b || is_gone t other))
          (ne_eqb whose other (λ same. lines.0 (ap (λ (c : ℕ). Some c) same)));
    })
    (λ idle. record { made = h; waiting = λ lines. refl }))
    (finish_leaves maker other set stamp (withdrawn set client whose t).state)

asks_leaves : (maker : Maker) (other set : ℕ) (stamp : Stamp) (client : ℕ) → maker stamp ≡ client → (mode : Mode) (gives_up : Option Mode) (t : SetState)
    → leaves maker stamp.node other t (asked set stamp (ask_of stamp client mode gives_up t) t)
asks_leaves maker other set stamp client by mode gives_up t h =
    let ask = ask_of stamp client mode gives_up t in
    let more : SetState = record t { pending = t.pending ++ ask ∷ [] } in
    let routed = route_leaves maker stamp.node other set stamp false (ParkedAsk ask) (λ own. by) more
    (record { pending = All-push (IsMadeBy maker) t.pending ask h.pending by; parked = h.parked; queue = h.queue }) in
    record {
      made = routed.made;
      waiting = λ lines.
          routed.waiting lines.1
          ∙ ap (λ (b : Bool). b && not (is_gone t other)) (any_pushed (λ (own : Ask). own.client == other) t.pending ask (ne_eqb client other (λ same. lines.0 (ap (λ (c : ℕ). Some c) same))));
    }

pub leaving_acts : (maker : Maker) (other set : ℕ) (stamp : Stamp) (client : ℕ) → maker stamp ≡ client
    → ActRules set stamp client (leaves maker stamp.node other)
leaving_acts maker other set stamp client by = record {
  tries_not = λ mode t h. record { made = h; waiting = λ lines. refl };
  holds_not = λ mode t h. record { made = h; waiting = λ lines. refl };
  grants = λ mode t h. record { made = record { pending = h.pending; parked = h.parked; queue = h.queue }; waiting = λ lines. refl };
  tries = λ mode t h. record { made = record { pending = h.pending; parked = h.parked; queue = h.queue }; waiting = λ lines. refl };
  changes = λ gives_up mode t h. record { made = record { pending = h.pending; parked = h.parked; queue = h.queue }; waiting = λ lines. refl };
  releases = λ mode t h. record { made = record { pending = h.pending; parked = h.parked; queue = h.queue }; waiting = λ lines. refl };
  asks = asks_leaves maker other set stamp client by;
  retakes = λ mode t h. record {
    made = record { pending = h.pending; parked = h.parked; queue = h.queue };
    waiting = λ lines. ap (λ (b : Bool). list_any (λ (own : Ask). own.client == other) t.pending && not b)
        (gone_stays t.gone client other (λ same. lines.0 (ap (λ (c : ℕ). Some c) (sym same))));
  };
  withheld = λ mode t h. record { made = h; waiting = λ lines. refl };
  ended = λ t m a. joined_leaves maker stamp.node other t m (finish set stamp) a (finish_leaves maker other set stamp m.state);
}

-- what the letter brings: the node's own asks were made by these clients
abbrev pub BringsMadeBy : Maker → ℕ → Body → Type 0
BringsMadeBy maker q (AskBody ask marked) = IsOwnMadeBy maker q ask
BringsMadeBy maker q (TellBody tell) = Unit {0}
BringsMadeBy maker q (CopyBody ask) = IsMadeBy maker ask
BringsMadeBy maker q (TokenBody desk) = All (IsOwnMadeBy maker q) desk.queue
BringsMadeBy maker q (FreezeBody number modes) = Unit {0}

learn_leaves : (maker : Maker) (q other : ℕ) (link : Link) (t : SetState) → AreMadeBy maker q t
    → AreMadeBy maker q (learn link t) × (waits (learn link t) other ≡ waits t other)
learn_leaves maker q other link t h = by_test (nat_lt t.firm.epoch link.epoch)
  where
    learned : SetState
    learned = record t { firm = link; hoped = None }

    by_test : (greater : Bool) → AreMadeBy maker q (if greater then learned else t) × (waits (if greater then learned else t) other ≡ waits t other)
    by_test true = (record { pending = h.pending; parked = h.parked; queue = h.queue }, refl)
    by_test false = (h, refl)

arrives_leaves : (maker : Maker) (other : ℕ) (stamp : Stamp) (letter : Letter) → BringsMadeBy maker stamp.node letter.body
    → (t : SetState) → leaves maker stamp.node other t (arrive stamp letter t)
arrives_leaves maker other stamp letter own t h =
    let learned = learn_leaves maker stamp.node other letter.link t h in
    let done = by_body letter.body own (learn letter.link t) learned.0 in
    record { made = done.made; waiting = λ lines. done.waiting lines ∙ learned.1 }
  where
    by_body : (body : Body) → BringsMadeBy maker stamp.node body → (u : SetState) → leaves maker stamp.node other u (take_body letter.set stamp body u)
    by_body (AskBody ask marked) by u hu = route_leaves maker stamp.node other letter.set stamp marked (ParkedAsk ask) by u hu
    by_body (TellBody tell) by u hu = route_leaves maker stamp.node other letter.set stamp false (ParkedTell tell) by u hu
    by_body (CopyBody ask) by u hu = record {
      made = record {
        pending = without_home (IsMadeBy maker) u.pending ask.stamp hu.pending;
        parked = hu.parked;
        queue = hu.queue;
      };
      waiting = ended_leaves maker letter.set other u ask (is_gone u ask.client) hu.pending by;
    }
    by_body (TokenBody desk) by u hu = record {
      made = record {
        pending = hu.pending;
        parked = All-nil (IsParkedMadeBy maker stamp.node);
        queue = all_dealt_made maker stamp.node u.parked desk by (recursion_from_All (IsParkedMadeBy maker stamp.node) u.parked hu.parked);
      };
      waiting = λ lines. refl;
    }
    by_body (FreezeBody number modes) by u hu = by_test (nat_lt u.number number)
      where
        by_test : (newer : Bool) → Leaves maker stamp.node other u (silent (if newer then record u { frozen = modes; number = number } else u))
        by_test true = record { made = record { pending = hu.pending; parked = hu.parked; queue = hu.queue }; waiting = λ lines. refl }
        by_test false = record { made = hu; waiting = λ lines. refl }

pub take_leaves : (maker : Maker) (other : ℕ) (stamp : Stamp) (letter : Letter) → BringsMadeBy maker stamp.node letter.body
    → (t : SetState) → leaves maker stamp.node other t (take stamp letter t)
take_leaves maker other stamp letter own t =
    take_rule stamp letter (leaves maker stamp.node other) (leaves maker stamp.node other)
    (λ u m. joined_leaves maker stamp.node other u m (finish letter.set stamp)) (leaving_ends maker other letter.set stamp) t
    (arrives_leaves maker other stamp letter own t)
