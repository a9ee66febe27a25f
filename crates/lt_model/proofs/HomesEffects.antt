-- The effects of a move leave locks and asks at home, and their lines name what is of the script.
use Rattle.lt_model.proofs.Voids.{local_by, copy_by, withdraws_ways}
use Rattle.lt_model.proofs.HomesRows.{IsPostWithin, MadeAtHome, at_home, said_nothing, said_line, joined_home, less_home, answered_home, given_home, without_home, answer_within}
use Rattle.lt_lists.proofs.AllLemmas.{remove_all, all_map, all_any}
use Rattle.std.proofs.Common.{◌≡◌, ℕ, ◌<◌, ◌≤◌, List, [], ◌∷◌, ◌++◌, length, map, Option, Some, None, Bool, true, false, refl, subst, take as take_first, drop as drop_front, ◌==◌, ◌&&◌, not, nat_lt, if◌then◌else◌, All, fold, remove, eqb-true}
use Rattle.std.specs.List.{AllByRecursion}
use Rattle.std.proofs.lemmas.List.Elements.{All-push, All-append, All-cons, All-take, All-drop, All-filter, All-nil, recursion_from_All}
use Rattle.lt_modes.specs.declared.mode.Mode.{Mode}
use Rattle.lt_modes.specs.declared.stamp.Stamp.{Stamp}
use Rattle.lt_modes.specs.declared.ask.Ask.{Ask}
use Rattle.lt_modes.specs.declared.parts.Link.{Link}
use Rattle.lt_modes.specs.declared.event.Event.TheVariants.{Freeze, Void}
use Rattle.lt_modes.specs.Modes.{Modes, excludes_itself, is_of, held_modes}
use Rattle.lt_modes.specs.Script.{ScriptData}
use Rattle.lt_modes.specs.State.{SetState, Desk, Body, AskBody, TellBody, CopyBody, TokenBody, FreezeBody, Letter, Parked, ParkedAsk, ParkedTell, Post, silent, no_ask, entered, place}
use Rattle.lt_modes.specs.Serving.{queue_of, queue_of_desk, put_queue, owed_at, answer_event, ask_at, serve_one, serve_local, serve_copy, is_gone}
use Rattle.lt_modes.specs.HandingOver.{hand_over_to}
use Rattle.lt_modes.specs.Freezing.{freeze, freeze_at, frozen_by, targets}
use Rattle.lt_modes.specs.SetMove.{finish, ask_of, asked, dropped, drop, withdrawn, withdraw}
use Rattle.lt_modes.specs.Routing.{Way, Parks, Goes, learn, dealt, body_of, reversed, sent_on, route}
use Rattle.lt_modes.specs.Telling.{tell_of}
use Rattle.lt_modes.specs.Taking.{take_body, arrive, take}
use Rattle.lt_spec.specs.NodeMove.{home}
use Rattle.lt_model.specs.Homes.{IsRowAtHome, IsAskAtHome, IsAskOf, IsParkedAtHome, IsBodyAtHome, IsStateAtHome, IsLineWithin}
use Rattle.lt_model.proofs.Effects.{route_ways}
use Rattle.lt_model.proofs.TryEffects.{EndRules, ActRules, finish_rule, take_rule}

enter_home : (P : Ask → Type 0) (queue : List Ask) (ask : Ask) → All P queue → P ask → All P (entered queue ask)
enter_home P queue ask h own =
    let k = place queue ask.holder in
    All-append P (take_first k queue) (ask ∷ drop_front k queue) (All-take P k queue h) (All-cons P ask (drop_front k queue) own (All-drop P k queue h))

dealt_home : (script : ScriptData) (desk : Desk) (item : Parked) → All (IsAskAtHome script) desk.queue → IsParkedAtHome script item
    → All (IsAskAtHome script) (dealt desk item).queue
dealt_home script desk (ParkedAsk ask) h own = enter_home (IsAskAtHome script) desk.queue ask h own
dealt_home script desk (ParkedTell tell) h own = h

all_dealt_home : (script : ScriptData) (items : List Parked) (desk : Desk) → All (IsAskAtHome script) desk.queue → AllByRecursion (IsParkedAtHome script) items
    → All (IsAskAtHome script) (fold dealt desk items).queue
all_dealt_home script [] desk h own = h
all_dealt_home script (item ∷ rest) desk h own = all_dealt_home script rest (dealt desk item) (dealt_home script desk item h own.0) own.1

item_home : (script : ScriptData) (to : ℕ) (item : Parked) (mark : Bool) → IsParkedAtHome script item → IsBodyAtHome script to (body_of item mark)
item_home script to (ParkedAsk ask) mark own = own
item_home script to (ParkedTell tell) mark own = own

reversed_home : (script : ScriptData) (q me : ℕ) (item : Parked) (t : SetState) → IsStateAtHome script q t → IsStateAtHome script q (reversed me item t)
reversed_home script q me (ParkedTell tell) t h = h
reversed_home script q me (ParkedAsk ask) t h = by_test (excludes_itself ask.mode && not (ask.node == me))
  where
    by_test : (other : Bool) → IsStateAtHome script q (if other then record t { hoped = Some (record { node = ask.node; stamp = ask.stamp }) } else t)
    by_test true = record { rows = h.rows; pending = h.pending; parked = h.parked; queue = h.queue }
    by_test false = h

route_home : (script : ScriptData) (bound q set : ℕ) (stamp : Stamp) (marked : Bool) (item : Parked) → IsParkedAtHome script item
    → (t : SetState) → at_home script bound q t (route set stamp marked item t)
route_home script bound q set stamp marked item own t h =
    route_ways (MadeAtHome script bound q) set stamp marked item t
    (λ desk e. record {
      state = record {
        rows = h.rows;
        pending = h.pending;
        parked = h.parked;
        queue = dealt_home script desk item (subst (λ (o : Option Desk). All (IsAskAtHome script) (queue_of_desk o)) e h.queue) own;
      };
      said = said_nothing script bound;
    })
    (λ away w e. goes w)
  where
    goes : (w : Way) → MadeAtHome script bound q (sent_on set stamp item t w)
    goes Parks = record {
      state = record { rows = h.rows; pending = h.pending; parked = All-push (IsParkedAtHome script) t.parked item h.parked own; queue = h.queue };
      said = said_nothing script bound;
    }
    goes (Goes to mark) = record {
      state = reversed_home script q stamp.node item t h;
      said = record { bodies = (item_home script to item mark own, tt); lines = λ within. tt };
    }

serves_home : (script : ScriptData) (bound set : ℕ) (stamp : Stamp) → set < length script.sets → (t : SetState) (k : ℕ) → k < length (queue_of t)
    → at_home script bound stamp.node t (serve_one set stamp k t)
serves_home script bound set stamp in_sets t k within h = by_test ((ask_at t k).node == stamp.node) refl
  where
    ask : Ask
    ask = ask_at t k

    own : IsAskAtHome script ask
    own = h.queue k no_ask within

    put_home : (desk : Option Desk) → All (IsAskAtHome script) (queue_of_desk desk) → All (IsAskAtHome script) (queue_of_desk (put_queue (remove (queue_of_desk desk) k) desk))
    put_home None all = all
    put_home (Some desk) all = remove_all (IsAskAtHome script) desk.queue k all

    owed_home : (desk : Option Desk) → All (IsAskAtHome script) (queue_of_desk desk) → All (IsAskAtHome script) (queue_of_desk (owed_at ask k desk))
    owed_home None all = all
    owed_home (Some desk) all = remove_all (IsAskAtHome script) desk.queue k all

    by_test : (here : Bool) → ((ask_at t k).node == stamp.node) ≡ here
        → MadeAtHome script bound stamp.node (if here then serve_local set k t else serve_copy set stamp k (ask_at t k) t)
    by_test true e = by_gone (is_gone t ask.client)
      where
        by_gone : (gone : Bool) → MadeAtHome script bound stamp.node (local_by set k t gone)
        by_gone true = record {
          state = record {
            rows = h.rows;
            pending = without_home (IsAskOf script stamp.node) t.pending ask.stamp h.pending;
            parked = h.parked;
            queue = put_home t.desk h.queue;
          };
          said = said_line script bound (Void ask.client set ask.mode) (own.client, in_sets);
        }
        by_gone false = record {
          state = record {
            rows = answered_home script stamp.node ask t.held (own, eqb-true ask.node stamp.node e) h.rows;
            pending = without_home (IsAskOf script stamp.node) t.pending ask.stamp h.pending;
            parked = h.parked;
            queue = put_home t.desk h.queue;
          };
          said = said_line script bound (answer_event set ask) (answer_within script bound set ask in_sets own.client);
        }
    by_test false e = record {
      state = record { rows = h.rows; pending = h.pending; parked = h.parked; queue = owed_home t.desk h.queue };
      said = record { bodies = ((own, refl), tt); lines = λ within. ((in_sets, within.0.0, own.client), tt) };
    }

freezes_home : (script : ScriptData) (bound q set : ℕ) (stamp : Stamp) → set < length script.sets → (t : SetState)
    → at_home script bound q t (freeze set stamp t)
freezes_home script bound q set stamp in_sets t h = by_desk t.desk h.queue
  where
    told_within : (number : ℕ) (modes : Modes) (to_post : ℕ → Post) → ((x : ℕ) → IsPostWithin script bound (to_post x) → (x < script.nodes) × (number ≤ bound))
        → (told : List ℕ) → AllByRecursion (IsPostWithin script bound) (map to_post told)
        → AllByRecursion (IsLineWithin script bound) (map (λ x. Freeze set x number modes) told)
    told_within number modes to_post each [] within = tt
    told_within number modes to_post each (x ∷ rest) within =
        let here = each x within.0 in ((in_sets, here.0, here.1), told_within number modes to_post each rest within.1)

    by_desk : (desk : Option Desk) → All (IsAskAtHome script) (queue_of_desk desk) → MadeAtHome script bound q (freeze_at set stamp t desk)
    by_desk None queue = record { state = h; said = said_nothing script bound }
    by_desk (Some desk) queue =
        let told = targets stamp.node (frozen_by desk.queue) desk in
        record {
          state = record { rows = h.rows; pending = h.pending; parked = h.parked; queue = queue };
          said = record {
            bodies = all_map _ _ told (all_any _ (λ x. tt) told);
            lines = λ within. told_within _ _ _ (λ x post. post) told within;
          };
        }

leaves_home : (script : ScriptData) (bound q set : ℕ) (stamp : Stamp) → set < length script.sets → (t : SetState) (v : ℕ)
    → at_home script bound q t (hand_over_to set stamp t v t.desk)
leaves_home script bound q set stamp in_sets t v h = by_desk t.desk h.queue
  where
    by_desk : (desk : Option Desk) → All (IsAskAtHome script) (queue_of_desk desk) → MadeAtHome script bound q (hand_over_to set stamp t v desk)
    by_desk None queue = record { state = h; said = said_nothing script bound }
    by_desk (Some desk) queue = record {
      state = record { rows = h.rows; pending = h.pending; parked = h.parked; queue = All-nil (IsAskAtHome script) };
      said = record { bodies = (queue, tt); lines = λ within. ((in_sets, within.0.0, within.0.1), tt) };
    }

pub home_ends : (script : ScriptData) (bound set : ℕ) (stamp : Stamp) → set < length script.sets → stamp.node < script.nodes
    → EndRules set stamp (at_home script bound stamp.node)
home_ends script bound set stamp in_sets in_nodes = record {
  silent = λ t h. record { state = h; said = said_nothing script bound };
  joined = joined_home script bound stamp.node;
  serves = serves_home script bound set stamp in_sets;
  freezes = freezes_home script bound stamp.node set stamp in_sets;
  leaves = leaves_home script bound stamp.node set stamp in_sets;
  tells = λ t h.
      route_home script bound stamp.node set stamp false (ParkedTell (tell_of stamp t)) in_nodes (record t { charge = held_modes t.held })
      (record { rows = h.rows; pending = h.pending; parked = h.parked; queue = h.queue });
}

asks_home : (script : ScriptData) (bound set : ℕ) (stamp : Stamp) (client : ℕ) → set < length script.sets → client < length script.clients
    → home script client ≡ stamp.node → (mode : Mode) (gives_up : Option Mode) (t : SetState)
    → at_home script bound stamp.node t (asked set stamp (ask_of stamp client mode gives_up t) t)
asks_home script bound set stamp client in_sets known own mode gives_up t h =
    let ask = ask_of stamp client mode gives_up t in
    let made : IsAskAtHome script ask = record { client = known; home = own; maker = refl } in
    let more : SetState = record t { pending = t.pending ++ ask ∷ [] } in
    let routed = route_home script bound stamp.node set stamp false (ParkedAsk ask) made more
    (record { rows = h.rows; pending = All-push (IsAskOf script stamp.node) t.pending ask h.pending (made, refl); parked = h.parked; queue = h.queue }) in
    record {
      state = routed.state;
      said = record { bodies = routed.said.bodies; lines = λ within. ((known, in_sets), routed.said.lines within) };
    }

pub home_acts : (script : ScriptData) (bound set : ℕ) (stamp : Stamp) (client : ℕ) → set < length script.sets → client < length script.clients
    → home script client ≡ stamp.node → stamp.node < script.nodes → ActRules set stamp client (at_home script bound stamp.node)
home_acts script bound set stamp client in_sets known own in_nodes = record {
  tries_not = λ mode t h. record { state = h; said = said_line script bound _ (known, in_sets) };
  holds_not = λ mode t h. record { state = h; said = said_line script bound _ (known, in_sets) };
  grants = λ mode t h. record {
    state = given_home script stamp.node client mode None t known own h;
    said = said_line script bound _ (known, in_sets);
  };
  tries = λ mode t h. record {
    state = given_home script stamp.node client mode None t known own h;
    said = said_line script bound _ (known, in_sets);
  };
  changes = λ gives_up mode t h. record {
    state = given_home script stamp.node client mode (Some gives_up) t known own h;
    said = said_line script bound _ (known, in_sets);
  };
  releases = λ mode t h. record {
    state = record { rows = less_home script stamp.node client mode t.held h.rows; pending = h.pending; parked = h.parked; queue = h.queue };
    said = said_line script bound _ (known, in_sets);
  };
  asks = λ mode gives_up t. asks_home script bound set stamp client in_sets known own mode gives_up t;
  retakes = λ mode t h. record {
    state = record { rows = h.rows; pending = h.pending; parked = h.parked; queue = h.queue };
    said = said_line script bound _ (known, in_sets);
  };
  withheld = λ mode t h. record { state = h; said = said_line script bound _ (known, in_sets) };
  ended = λ t m a. joined_home script bound stamp.node t m (finish set stamp) a
      (finish_rule set stamp (at_home script bound stamp.node) (home_ends script bound set stamp in_sets in_nodes) m.state);
}

pub finish_home : (script : ScriptData) (bound set : ℕ) (stamp : Stamp) → set < length script.sets → stamp.node < script.nodes → (t : SetState)
    → at_home script bound stamp.node t (finish set stamp t)
finish_home script bound set stamp in_sets in_nodes t =
    finish_rule set stamp (at_home script bound stamp.node) (home_ends script bound set stamp in_sets in_nodes) t

pub drop_home : (script : ScriptData) (bound set : ℕ) (stamp : Stamp) (other : ℕ) → set < length script.sets → stamp.node < script.nodes
    → (t : SetState) → at_home script bound stamp.node t (drop set stamp other t)
drop_home script bound set stamp other in_sets in_nodes t h =
    finish_home script bound set stamp in_sets in_nodes (dropped other t) (record {
      rows = All-filter (λ row. not (is_of other row)) (IsRowAtHome script stamp.node) t.held h.rows;
      pending = h.pending;
      parked = h.parked;
      queue = h.queue;
    })

pub withdraw_home : (script : ScriptData) (bound set : ℕ) (stamp : Stamp) (client other : ℕ) → set < length script.sets → stamp.node < script.nodes
    → client < length script.clients → other < length script.clients
    → (t : SetState) → at_home script bound stamp.node t (withdraw set stamp client other t)
withdraw_home script bound set stamp client other in_sets in_nodes known named t =
    joined_home script bound stamp.node t (withdrawn set client other t) (finish set stamp)
    (λ h. withdraws_ways (MadeAtHome script bound stamp.node) set client other t
    (λ waiting. record {
      state = record { rows = h.rows; pending = h.pending; parked = h.parked; queue = h.queue };
      said = record { bodies = tt; lines = λ within. ((named, in_sets), ((known, named, in_sets), tt)) };
    })
    (λ idle. record { state = h; said = said_line script bound _ (known, named, in_sets) }))
    (finish_home script bound set stamp in_sets in_nodes (withdrawn set client other t).state)

learn_home : (script : ScriptData) (q : ℕ) (link : Link) (t : SetState) → IsStateAtHome script q t → IsStateAtHome script q (learn link t)
learn_home script q link t h = by_test (nat_lt t.firm.epoch link.epoch)
  where
    by_test : (greater : Bool) → IsStateAtHome script q (if greater then record t { firm = link; hoped = None } else t)
    by_test true = record { rows = h.rows; pending = h.pending; parked = h.parked; queue = h.queue }
    by_test false = h

pub arrives_home : (script : ScriptData) (bound : ℕ) (stamp : Stamp) (letter : Letter) → letter.set < length script.sets
    → IsBodyAtHome script stamp.node letter.body → (t : SetState) → at_home script bound stamp.node t (arrive stamp letter t)
arrives_home script bound stamp letter in_sets own t h = by_body letter.body own (learn letter.link t) (learn_home script stamp.node letter.link t h)
  where
    by_body : (body : Body) → IsBodyAtHome script stamp.node body → (u : SetState) → at_home script bound stamp.node u (take_body letter.set stamp body u)
    by_body (AskBody ask marked) at u hu = route_home script bound stamp.node letter.set stamp marked (ParkedAsk ask) at u hu
    by_body (TellBody tell) at u hu = route_home script bound stamp.node letter.set stamp false (ParkedTell tell) at u hu
    by_body (CopyBody ask) at u hu = by_gone (is_gone u ask.client)
      where
        by_gone : (gone : Bool) → MadeAtHome script bound stamp.node (copy_by letter.set ask u gone)
        by_gone true = record {
          state = record {
            rows = hu.rows;
            pending = without_home (IsAskOf script stamp.node) u.pending ask.stamp hu.pending;
            parked = hu.parked;
            queue = hu.queue;
          };
          said = said_line script bound (Void ask.client letter.set ask.mode) (at.0.client, in_sets);
        }
        by_gone false = record {
          state = record {
            rows = answered_home script stamp.node ask u.held at hu.rows;
            pending = without_home (IsAskOf script stamp.node) u.pending ask.stamp hu.pending;
            parked = hu.parked;
            queue = hu.queue;
          };
          said = said_line script bound (answer_event letter.set ask) (answer_within script bound letter.set ask in_sets at.0.client);
        }
    by_body (TokenBody desk) at u hu = record {
      state = record {
        rows = hu.rows;
        pending = hu.pending;
        parked = All-nil (IsParkedAtHome script);
        queue = all_dealt_home script u.parked desk at (recursion_from_All (IsParkedAtHome script) u.parked hu.parked);
      };
      said = said_nothing script bound;
    }
    by_body (FreezeBody number modes) at u hu = by_test (nat_lt u.number number)
      where
        by_test : (newer : Bool) → MadeAtHome script bound stamp.node (silent (if newer then record u { frozen = modes; number = number } else u))
        by_test true = record {
          state = record { rows = hu.rows; pending = hu.pending; parked = hu.parked; queue = hu.queue };
          said = said_nothing script bound;
        }
        by_test false = record { state = hu; said = said_nothing script bound }

pub take_home : (script : ScriptData) (bound : ℕ) (stamp : Stamp) (letter : Letter) → letter.set < length script.sets
    → IsBodyAtHome script stamp.node letter.body → stamp.node < script.nodes → (t : SetState) → at_home script bound stamp.node t (take stamp letter t)
take_home script bound stamp letter in_sets own in_nodes t =
    take_rule stamp letter (at_home script bound stamp.node) (at_home script bound stamp.node)
    (λ u m. joined_home script bound stamp.node u m (finish letter.set stamp)) (home_ends script bound letter.set stamp in_sets in_nodes) t
    (arrives_home script bound stamp letter in_sets own t)
