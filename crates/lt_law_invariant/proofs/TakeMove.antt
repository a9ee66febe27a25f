-- Where a move begins: the ledgers of a set as its node has set its clock.
use Rattle.std.proofs.Common.{◌≡◌, ℕ, ◌<◌, Option, Some, None, refl, sym, ap, subst, arith, ◌∙◌, ◌+◌, [], ◌≤◌, List, ◌∷◌, Bool, true, false, Contains, if◌then◌else◌, is_some, nat_lt, eq-eqb}
use Rattle.std.specs.List.{AllByRecursion}
use Rattle.lt_modes.specs.declared.ask.Ask.{Ask}
use Rattle.lt_modes.specs.Modes.{bars, held_modes}
use Rattle.lt_modes.specs.Script.{ScriptData}
use Rattle.lt_modes.specs.State.{SetState, Desk, Body, AskBody, TellBody, CopyBody, TokenBody, FreezeBody, Letter, Tell, ParkedAsk, ParkedTell, Made}
use Rattle.lt_modes.specs.declared.stamp.Stamp.{Stamp}
use Rattle.lt_modes.specs.declared.moves.Step.TheVariants.{Act, Take}
use Rattle.lt_modes.specs.declared.parts.Link.{Link}
use Rattle.lt_modes.specs.Routing.{learn}
use Rattle.lt_modes.specs.Taking.{arrive, take_body, take}
use Rattle.lt_lists.specs.Below.{put, one_if}
use Rattle.lt_lists.proofs.Puts.{put-same}
use Rattle.lt_spec.specs.World.{World, after, opened, after_made, sent}
use Rattle.lt_spec.specs.Facts.{state_at, DeskIs, tokens_in, places_in_body, OnWay}
use Rattle.lt_spec.specs.NodeMove.{NodeState, NodeMade, next_command, act_stamp, at_clock, one_made, node_act, take_stamp, node_take}
use Rattle.lt_spec.specs.Promised.{sets_of_command}
use Rattle.lt_law_accounts.proofs.Asks.{same_ask-itself}
use Rattle.lt_model.specs.OnWay.{Acting}
use Rattle.lt_model.specs.Invariant.{Paths, DeskKept, AsksStand, LetterOnPath, BodyOnPath}
use Rattle.lt_model.specs.Laws.{begun}
use Rattle.lt_model.proofs.ExactTry.{same_set}
use Rattle.lt_model.proofs.BeginsMove.{ledger_goes, begun_state, begun_goes}
use Rattle.lt_model.proofs.NodeEffects.{obey-stamped, both_of_set, IsOnce, obey_by_effects}
use Rattle.lt_model.proofs.SentInMove.{Stands, stands, places_weight}
use Rattle.lt_model.proofs.StandingBegins.{elsewhere, unanswered, stands_before, none_in_hand, stands_of_set, stands_arrived, LetterTaken, letter_taken}
use Rattle.lt_model.proofs.Effects.{both, HoldsOf, EndEffects, take_by_effects}
use Rattle.lt_model.specs.AccountRules.{IsParkedOf}
use Rattle.lt_model.proofs.PathsRoutes.{link_named}
use Rattle.lt_law_invariant.specs.InvariantLaws.{LedgersKept}
use Rattle.lt_law_invariant.proofs.OwnSteps.{HasDesk}
use Rattle.lt_law_invariant.proofs.Ledgers.{Ledger, Ended}
use Rattle.lt_law_invariant.proofs.OtherSets.{begun_clock, clocks_as, states_as, ended_same, ledger_of_set, begins_of_set, ended_of_set}
use Rattle.lt_law_invariant.proofs.OneDesk.{desk_seen, entries_on, named_firm}
use Rattle.lt_law_invariant.proofs.MidMove.{world_of, Scene, Begun, leads, at_now, no_copy}
use Rattle.lt_law_invariant.proofs.MoveEffects.{begins, ended_fact, ledger_moves, route_firm, midway, frozen_fact, ledger_ends}
use Rattle.lt_law_invariant.proofs.InHand.{InHand, in_hand}
use Rattle.lt_law_invariant.proofs.Arrive.{IsFair, body_done}

-- what the ledgers are at the beginning of a move of q
pub record Beginning (script : ScriptData) (w base : World) (s q : ℕ) : Type 0 where
  pub ledger : Ledger script (Acting q) base s q (state_at base s q).desk
  pub charge : (state_at base s q).desk ≡ None → bars (held_modes (state_at base s q).held) ≡ bars (state_at base s q).charge
  pub asks : (own : Ask) → Contains (state_at base s q).pending own → own.stamp.clock < (base.node q).clock
  pub kept : (place : Option ℕ) (desk : Desk) → DeskIs script w s place desk → DeskKept script (Acting q) base s place desk

pub beginning : (script : ScriptData) (w : World) (s q clock : ℕ) → Paths script w s → LedgersKept script w s → q < script.nodes
    → (w.node q).clock < clock → Beginning script w (begun w q clock) s q
beginning script w s q clock paths known below later = record {
  ledger = record {
    place = found.0;
    desk = found.1;
    there = begun_desk found.0 found.1 found.2;
    has = subst (λ (t : SetState). HasDesk found.0 found.1 q t.desk) (sym same) found.3;
    entries = entries_on script w s paths found.0 found.1 found.2;
    kept = kept found.0 found.1 found.2;
  };
  charge = subst (λ (t : SetState). t.desk ≡ None → bars (held_modes t.held) ≡ bars t.charge) (sym same)
      (λ away. (((known found.0 found.1 found.2).accounts q below).charge (subst (HasDesk found.0 found.1 q) away found.3)));
  asks = λ own c.
      let made = ((known found.0 found.1 found.2).accounts q below).clocks.asks own (subst (λ (t : SetState). Contains t.pending own) same c) in
      omega (arith, made, later, begun_clock w q clock);
  kept = kept;
}
  where
    found : (place : Option ℕ) × (desk : Desk) × DeskIs script w s place desk × HasDesk place desk q (state_at w s q).desk
    found = desk_seen script w s q paths below

    same : state_at (begun w q clock) s q ≡ state_at w s q
    same = begun_state w q clock s q

    kept : (place : Option ℕ) (desk : Desk) → DeskIs script w s place desk → DeskKept script (Acting q) (begun w q clock) s place desk
    kept place desk there = ledger_goes script (Acting q) w (begun w q clock) s place desk (same_set script w (begun w q clock) s (begun_state w q clock s) (λ a b. refl) refl)
        (λ x. begun_goes w q clock x later) (known place desk there)

    begun_desk : (place : Option ℕ) (desk : Desk) → DeskIs script w s place desk → DeskIs script (begun w q clock) s place desk
    begun_desk (Some t) desk h = (h.0, ap (λ (u : SetState). u.desk) (begun_state w q clock s t) ∙ h.1)
    begun_desk None desk (t, under, (p, letter, from, on, says)) = (t, under, (p, letter, from, record { among = on.among; set = on.set }, says))

-- The move of a command keeps the ledgers of a set that it touches.

-- the move of a command that touches the set
pub act_ended : (script : ScriptData) (w : World) (s q client : ℕ) → 0 < script.nodes → Paths script w s → AsksStand script w s
    → LedgersKept script w s → q < script.nodes
    → IsOnce s (sets_of_command script (next_command script (w.node q) client))
    → Ended script (after script w q (Act client)) s
act_ended script w s q client some paths stood known below once =
    ended_same script (world_of base q s (made.node.set s) made.posts) (after script w q (Act client)) s
    (clocks_as w base q s (n.clock + 1) made.node (made.node.set s) made.posts refl (obey-stamped script stamp client (next_command script n client) (one_made client (at_clock (n.clock + 1) n))).clock)
    (states_as w base q s (n.clock + 1) made.node (made.node.set s) made.posts refl refl) refl ended.1
  where
    n : NodeState
    n = w.node q

    stamp : Stamp
    stamp = act_stamp q n

    base : World
    base = begun w q (n.clock + 1)

    made : NodeMade
    made = node_act script q client n

    begin : Beginning script w base s q
    begin = beginning script w s q (n.clock + 1) paths known below (omega arith)

    scene : Scene script w base s q
    scene = record { node = below; there = λ x d. begun_state w q (n.clock + 1) s x; stood = stood }

    same : state_at base s q ≡ n.set s
    same = begun_state w q (n.clock + 1) s q

    first : Begun script base s q (n.set s) []
    first = record {
      mid = record {
        ledger = ledger_of_set script (Acting q) base q s (n.set s) [] (n.set s).desk same tt (subst (λ (t : SetState). Ledger script (Acting q) base s q t.desk) same begin.ledger);
        firm = named_firm script w s q some paths below;
      };
      charge = subst (λ (t : SetState). t.desk ≡ None → bars (held_modes t.held) ≡ bars t.charge) same begin.charge;
      asks = subst (λ (t : SetState). (own : Ask) → Contains t.pending own → own.stamp.clock < (base.node q).clock) same begin.asks;
    }

    standing : Stands s q n.clock (elsewhere script w s q w.mail) (unanswered script w s q) (n.set s) []
    standing = none_in_hand s q n.clock (elsewhere script w s q w.mail) (unanswered script w s q) (λ a. 0) (n.set s) [] (λ a. refl) (stands_before script w s q w.mail (λ a. 0) stood below (λ a. omega arith))

    ended : both (stands s q stamp.clock (elsewhere script w s q base.mail) (unanswered script w s q)) (ended_fact script base s q) (made.node.set s) made.posts
    ended = obey_by_effects script s client stamp
        (both (stands s q n.clock (elsewhere script w s q base.mail) (unanswered script w s q)) (begins script base s q))
        (both (stands s q stamp.clock (elsewhere script w s q base.mail) (unanswered script w s q)) (ended_fact script base s q))
        (both_of_set s _ _ (stands_of_set s q n.clock (elsewhere script w s q w.mail) (unanswered script w s q)) (begins_of_set script base s q))
        (both_of_set s _ _ (stands_of_set s q stamp.clock (elsewhere script w s q w.mail) (unanswered script w s q)) (ended_of_set script base s q))
        (ledger_moves script w base s n.clock stamp scene (sym (begun_clock w q (n.clock + 1))) refl)
        (next_command script n client) (one_made client (at_clock (n.clock + 1) n)) once (standing, first)

-- The take of a letter keeps the ledgers of its set.

-- what a node learns is named
learnt_firm : (nodes : ℕ) (link : Link) (t : SetState) → link.node < nodes → t.firm.node < nodes → (learn link t).firm.node < nodes
learnt_firm nodes link t named before = by_test (nat_lt t.firm.epoch link.epoch)
  where
    by_test : (greater : Bool) → (if greater then record t { firm = link; hoped = None } else t).firm.node < nodes
    by_test true = named
    by_test false = before

-- and so it is after the letter was dealt with
done_firm : (nodes s : ℕ) (stamp : Stamp) (body : Body) (t : SetState) → stamp.node < nodes → t.firm.node < nodes
    → (take_body s stamp body t).state.firm.node < nodes
done_firm nodes s stamp (AskBody ask marked) t below named = subst (λ (l : Link). l.node < nodes) (sym (route_firm s stamp marked (ParkedAsk ask) t)) named
done_firm nodes s stamp (TellBody tell) t below named = subst (λ (l : Link). l.node < nodes) (sym (route_firm s stamp false (ParkedTell tell) t)) named
done_firm nodes s stamp (CopyBody ask) t below named = named
done_firm nodes s stamp (TokenBody desk) t below named = below
done_firm nodes s stamp (FreezeBody number modes) t below named = by_test (nat_lt t.number number)
  where
    by_test : (newer : Bool) → (if newer then record t { frozen = modes; number = number } else t).firm.node < nodes
    by_test true = named
    by_test false = named

none_left : (k : ℕ) (o : Option Desk) → one_if (is_some o) + 1 ≤ 1 → o ≡ None
none_left k None h = refl
none_left k (Some desk) h = absurd (omega (arith, h))

-- the take of a letter of the set
pub take_ended : (script : ScriptData) (w : World) (s p q : ℕ) (letter : Letter) (rest : List Letter) → 0 < script.nodes → Paths script w s
    → AsksStand script w s → LedgersKept script w s
    → p < script.nodes → q < script.nodes → w.mail p q ≡ letter ∷ rest → letter.set ≡ s
    → ((tell : Tell) → letter.body ≡ TellBody tell → tell.node < script.nodes)
    → AllByRecursion (IsParkedOf script.nodes) ((w.node q).set s).parked
    → Ended script (after_made q (node_take q letter (w.node q)) (opened w q (Take p))) s
take_ended script w s p q letter rest some paths stood known from below front set tell_named items_named =
    ended_same script (world_of base q s m.state m.posts) (after_made q made (opened w q (Take p))) s
    (clocks_as w base q s stamp.clock made.node m.state m.posts refl refl) (states_as w base q s stamp.clock made.node m.state m.posts refl here) mails ended.1
  where
    n : NodeState
    n = w.node q

    stamp : Stamp
    stamp = take_stamp q n letter

    b1 : World
    b1 = begun w q stamp.clock

    base : World
    base = opened b1 q (Take p)

    t : SetState
    t = state_at b1 s q

    same : t ≡ n.set s
    same = begun_state w q stamp.clock s q

    u : SetState
    u = learn letter.link t

    learnt : World
    learnt = world_of base q s u []

    m : Made
    m = take stamp letter t

    made : NodeMade
    made = node_take q letter n

    begin : Beginning script w b1 s q
    begin = beginning script w s q stamp.clock paths known below (omega arith)

    scene : Scene script w base s q
    scene = record { node = below; there = λ x d. begun_state w q stamp.clock s x; stood = stood }

    hand : InHand script b1 learnt s q letter.body
    hand = in_hand script b1 s p q letter rest from front set

    on : OnWay w s p q letter
    on = record { among = subst (λ (l : List Letter). Contains l letter) (sym front) (0, omega arith, refl); set = set }

    on_path : LetterOnPath script.nodes (w.went s) p q letter
    on_path = paths.letters p q letter from on

    taken : LetterTaken script w s q letter base.mail
    taken = letter_taken script w s p q letter rest paths stood from below front set

    weighs : (a : Ask) → places_weight s a letter ≡ places_in_body a letter.body
    weighs a = rw (eq-eqb letter.set s set) refl

    arrived : HoldsOf (stands s q stamp.clock (elsewhere script w s q base.mail) (unanswered script w s q)) [] (arrive stamp letter t)
    arrived = subst (λ (v : SetState). HoldsOf (stands s q stamp.clock (elsewhere script w s q base.mail) (unanswered script w s q)) [] (arrive stamp letter v)) (sym same)
        (stands_arrived script w s p q letter rest paths stood from below front set)

    fair : (body : Body) → letter.body ≡ body → IsFair script b1 learnt s q body
    fair (AskBody ask marked) says = tt
    fair (TellBody tell) says = tell_named tell says
    fair (CopyBody ask) says = no_copy script w base s q n.clock (n.set s) [] (λ a. places_weight s a letter) scene taken.before ask
        (let one : places_weight s ask letter ≡ 1 = weighs ask ∙ ap (places_in_body ask) says ∙ ap one_if (same_ask-itself ask) in omega (arith, one)) (taken.home ask says)
    fair (TokenBody desk) says = (
      (subst (BodyOnPath script.nodes (w.went s) q) says on_path.body).entries,
      ap (λ (v : SetState). v.desk) same ∙ none_left 0 (n.set s).desk (subst (λ (b : Body). one_if (is_some (n.set s).desk) + tokens_in b ≤ 1) says taken.few),
      subst (AllByRecursion (IsParkedOf script.nodes)) (sym (hand.parked q ∙ ap (λ (v : SetState). v.parked) same))
          items_named,
      begin.kept None desk (q, below, (p, letter, from, on, says)),
    )
    fair (FreezeBody number modes) says = tt

    firm : u.firm.node < script.nodes
    firm = learnt_firm script.nodes letter.link t (link_named script.nodes (w.went s) letter.link (record { some = some; known = paths.went }) on_path.link)
        (subst (λ (v : SetState). v.firm.node < script.nodes) (sym same) (named_firm script w s q some paths below))

    middle : HoldsOf (midway script base s q) [] (arrive stamp letter t)
    middle = subst (λ (k : ℕ). HoldsOf (midway script base s q) [] (take_body k stamp letter.body u)) (sym set)
        (record {
          ledger = leads base q s (λ v o. Ledger script (Acting q) v s q o) (take_body s stamp letter.body) u []
              (body_done script b1 learnt s stamp letter.body below hand (at_now base q s (λ v. v.firm.node < script.nodes) u [] firm) (fair letter.body refl) begin.ledger);
          firm = done_firm script.nodes s stamp letter.body u below firm;
        })

    ended : both (stands s q stamp.clock (elsewhere script w s q base.mail) (unanswered script w s q)) (ended_fact script base s q) m.state m.posts
    ended = take_by_effects stamp letter
        (both (stands s q stamp.clock (elsewhere script w s q base.mail) (unanswered script w s q)) (midway script base s q))
        (both (stands s q stamp.clock (elsewhere script w s q base.mail) (unanswered script w s q)) (frozen_fact script base s q))
        (both (stands s q stamp.clock (elsewhere script w s q base.mail) (unanswered script w s q)) (ended_fact script base s q))
        (subst (λ (k : ℕ). EndEffects k stamp
        (both (stands s q stamp.clock (elsewhere script w s q base.mail) (unanswered script w s q)) (midway script base s q))
        (both (stands s q stamp.clock (elsewhere script w s q base.mail) (unanswered script w s q)) (frozen_fact script base s q))
        (both (stands s q stamp.clock (elsewhere script w s q base.mail) (unanswered script w s q)) (ended_fact script base s q))) (sym set)
        (ledger_ends script w base s stamp scene (sym (begun_clock w q stamp.clock)))) t [] (arrived, middle)

    made_is : take stamp letter (n.set letter.set) ≡ m
    made_is = ap (λ (k : ℕ). take stamp letter (n.set k)) set ∙ ap (take stamp letter) (sym same)

    here : made.node.set s ≡ m.state
    here = ap (put n.set letter.set (take stamp letter (n.set letter.set)).state) (sym set) ∙ put-same n.set letter.set (take stamp letter (n.set letter.set)).state ∙ ap (λ (k : Made). k.state) made_is

    mails : (after_made q made (opened w q (Take p))).mail ≡ (world_of base q s m.state m.posts).mail
    mails = ap (λ (k : Made). sent q k.posts base.mail) made_is
