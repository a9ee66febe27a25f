-- The effects of a move keep the ledgers, as facts of the move.
use Rattle.std.proofs.Common.{◌≡◌, ℕ, ◌+◌, ◌<◌, List, [], ◌∷◌, ◌++◌, length, Option, Some, None, Bool, true, false, refl, sym, ap, subst, arith, ◌∙◌, ◌==◌, ◌&&◌, not, if◌then◌else◌, Contains, append-nil}
use Rattle.std.proofs.lemmas.List.Elements.{Contains-get_or}
use Rattle.lt_modes.specs.declared.mode.Mode.{Mode}
use Rattle.lt_modes.specs.declared.stamp.Stamp.{Stamp}
use Rattle.lt_modes.specs.declared.ask.Ask.{Ask}
use Rattle.lt_modes.specs.declared.parts.Hoped.{Hoped}
use Rattle.lt_modes.specs.Modes.{Modes, bars, same_modes, excludes_itself, with_mode, held_modes, take_lock}
use Rattle.lt_modes.specs.Script.{ScriptData}
use Rattle.lt_modes.specs.State.{SetState, Desk, Parked, ParkedAsk, ParkedTell, Made, Post, silent, no_ask}
use Rattle.lt_modes.specs.Freezing.{freeze}
use Rattle.lt_modes.specs.Granting.{can_grant}
use Rattle.lt_modes.specs.Serving.{ask_at, queue_of, queue_of_desk, next_service, serve_one, serve_local, serve_copy, without_gone}
use Rattle.lt_modes.specs.HandingOver.{next_draw, draw_from, move_at, may_draw, hand_over_to}
use Rattle.lt_modes.specs.SetMove.{make_tell, given, asked, ask_of, dropped}
use Rattle.lt_modes.specs.Routing.{Way, Parks, Goes, reversed, sent_on, route}
use Rattle.lt_spec.specs.World.{World}
use Rattle.lt_spec.specs.Facts.{state_at}
use Rattle.lt_model.specs.OnWay.{Acting, copies_to}
use Rattle.lt_law_accounts.proofs.Asks.{times_in-some}
use Rattle.lt_model.proofs.Effects.{both, Fact, HoldsOf, EndEffects, ActEffects, ByEffects, route_ways, acts_by_effects}
use Rattle.lt_model.proofs.StandingEffects.{standing_ends, standing_acts}
use Rattle.lt_model.proofs.SentInMove.{Stands, stands}
use Rattle.lt_model.proofs.StandingBegins.{elsewhere, unanswered, only_here}
use Rattle.lt_law_invariant.specs.InvariantLaws.{after_effect, IsWaiting}
use Rattle.lt_law_invariant.proofs.AfterEffect.{clock_stays}
use Rattle.lt_law_invariant.proofs.Ledgers.{Ledger, FrozenHere, Ended, granted, unlocked, all_dropped, waited, serves, freezes, stays, leaves, tells, tells_not, regarded}
use Rattle.lt_law_invariant.proofs.MidMove.{made_of, world_of, leads, at_now, Scene, queue_waits, no_copy, Mid, Begun}

-- the place of the ask that draws the desk is one of the queue
move_within : (me : ℕ) (s : SetState) (desk : Desk) (before : Modes) (place : ℕ) (queue : List Ask) (k : ℕ)
    → draw_from me s desk before place queue ≡ Some k → k < place + length queue
move_within me s desk before place [] k e = cc
move_within me s desk before place (ask ∷ rest) k e =
    by_test (λ f. move_within me s desk (with_mode before ask.mode) (place + 1) rest k f) (may_draw me s desk before place ask) e
  where
    by_test : (draw_from me s desk (with_mode before ask.mode) (place + 1) rest ≡ Some k → k < place + 1 + length rest)
        → (here : Bool) → (if here then Some place else draw_from me s desk (with_mode before ask.mode) (place + 1) rest) ≡ Some k
        → k < place + length (ask ∷ rest)
    by_test again true f = let same : place ≡ k = cc in omega (arith, same)
    by_test again false f = omega (arith, again f)

next_move-within : (me : ℕ) (s : SetState) (k : ℕ) → next_draw me s ≡ Some k → k < length (queue_of s)
next_move-within me s k e = by_desk s.desk e
  where
    by_desk : (desk : Option Desk) → move_at me s desk ≡ Some k → k < length (queue_of_desk desk)
    by_desk None f = cc
    by_desk (Some desk) f = omega (arith, move_within me s desk _ 0 desk.queue k f)

-- the firm link stays
pub route_firm : (set : ℕ) (stamp : Stamp) (marked : Bool) (item : Parked) (t : SetState) → (route set stamp marked item t).state.firm ≡ t.firm
route_firm set stamp marked item t = route_ways (λ (m : Made). m.state.firm ≡ t.firm) set stamp marked item t (λ desk e. refl) (λ away w e. by_way w)
  where
    turned : (turns : Bool) (hoped : Option Hoped) → (if turns then record t { hoped = hoped } else t).firm ≡ t.firm
    turned true hoped = refl
    turned false hoped = refl

    by_item : (i : Parked) → (reversed stamp.node i t).firm ≡ t.firm
    by_item (ParkedTell tell) = refl
    by_item (ParkedAsk ask) = turned (excludes_itself ask.mode && not (ask.node == stamp.node)) (Some (record { node = ask.node; stamp = ask.stamp }))

    by_way : (w : Way) → (sent_on set stamp item t w).state.firm ≡ t.firm
    by_way Parks = refl
    by_way (Goes to mark) = by_item item

serve_firm : (set k : ℕ) (stamp : Stamp) (t : SetState) → (serve_one set stamp k t).state.firm ≡ t.firm
serve_firm set k stamp t = by_test ((ask_at t k).node == stamp.node)
  where
    by_test : (own : Bool) → (if own then serve_local set k t else serve_copy set stamp k (ask_at t k) t).state.firm ≡ t.firm
    by_test true = refl
    by_test false = refl

abbrev pub midway : ScriptData → World → ℕ → ℕ → Fact
midway script base s q t posts = Mid script base s q t posts

abbrev pub begins : ScriptData → World → ℕ → ℕ → Fact
begins script base s q t posts = Begun script base s q t posts

abbrev pub frozen_fact : ScriptData → World → ℕ → ℕ → Fact
frozen_fact script base s q t posts = FrozenHere script (world_of base q s t posts) s q t.desk

abbrev pub ended_fact : ScriptData → World → ℕ → ℕ → Fact
ended_fact script base s q t posts = Ended script (world_of base q s t posts) s

-- from the first service to the end of the move
pub ledger_ends : (script : ScriptData) (w base : World) (s : ℕ) (stamp : Stamp) → Scene script w base s stamp.node
    → stamp.clock ≡ (base.node stamp.node).clock
    → EndEffects s stamp
    (both (stands s stamp.node stamp.clock (elsewhere script w s stamp.node base.mail) (unanswered script w s stamp.node)) (midway script base s stamp.node))
    (both (stands s stamp.node stamp.clock (elsewhere script w s stamp.node base.mail) (unanswered script w s stamp.node)) (frozen_fact script base s stamp.node))
    (both (stands s stamp.node stamp.clock (elsewhere script w s stamp.node base.mail) (unanswered script w s stamp.node)) (ended_fact script base s stamp.node))
ledger_ends script w base s stamp scene clock = record {
  serves = λ t posts k e h. (
    standing.serves t posts k e h.0,
    record {
      ledger = leads base q s (λ v o. Ledger script (Acting q) v s q o) (serve_one s stamp k) t posts
          (serves script (world_of base q s t posts) s k stamp scene.node (at_now base q s (λ u. next_service q u ≡ Some k) t posts e)
          (at_now base q s (λ u. (ask : Ask) → Contains (queue_of u) ask → IsWaiting script (world_of base q s t posts) s ask) t posts
          (queue_waits script w base s q stamp.clock t posts scene h.0))
          (at_now base q s (λ u. (ask : Ask) → Contains (queue_of u) ask → ask.node ≡ q → Contains (copies_to script (world_of base q s t posts) s q) ask → ⊥) t posts
          (λ ask among me. no_copy script w base s q stamp.clock t posts (λ a. 0) scene (unhanded t posts h.0) ask (omega (arith, times_in-some ask (queue_of t) among)) me))
          (at_now base q s (λ u. Ledger script (Acting q) (world_of base q s t posts) s q u.desk) t posts h.1.ledger));
      firm = subst (λ link. link.node < script.nodes) (sym (serve_firm s k stamp t)) h.1.firm;
    },
  );
  freezes = λ t posts desk here none h. (
    standing.freezes t posts desk here none h.0,
    leads base q s (λ v o. FrozenHere script v s q o) (freeze s stamp) t posts
        (freezes script (world_of base q s t posts) s stamp desk scene.node (at_now base q s (λ u. u.desk ≡ Some desk) t posts here)
        (subst (Ledger script (Acting q) (world_of base q s t posts) s q) here h.1.ledger)),
  );
  leaves = λ t posts k e h.
      let among = Contains-get_or (queue_of t) k no_ask (next_move-within q t k e) in (
        standing.leaves t posts k e h.0,
        leads base q s (λ v o. Ended script v s) (λ u. hand_over_to s stamp u (ask_at t k).node u.desk) t posts
            (leaves script (world_of base q s t posts) s (ask_at t k).node stamp scene.node (queue_waits script w base s q stamp.clock t posts scene h.0 (ask_at t k) among).node
            (clock ∙ sym (clock_stays base q s (made_of t posts) q))
            (at_now base q s (λ u. FrozenHere script (world_of base q s t posts) s q u.desk) t posts h.1)),
      );
  stays = λ t posts e h. (
    standing.stays t posts e h.0,
    stays script (world_of base q s t posts) s q scene.node (at_now base q s (λ u. FrozenHere script (world_of base q s t posts) s q u.desk) t posts h.1),
  );
  tells = λ t posts away differs h. (
    standing.tells t posts away differs h.0,
    leads base q s (λ v o. Ended script v s) (make_tell s stamp) t posts
        (tells script (world_of base q s t posts) s stamp scene.node (at_now base q s (λ u. u.desk ≡ None) t posts away) (clock ∙ sym (clock_stays base q s (made_of t posts) q))
        (at_now base q s (λ u. u.firm.node < script.nodes) t posts h.1.firm)
        (at_now base q s (λ u. Ledger script (Acting q) (world_of base q s t posts) s q u.desk) t posts h.1.ledger)),
  );
  tells_not = λ t posts away same h. (
    standing.tells_not t posts away same h.0,
    tells_not script (world_of base q s t posts) s q scene.node (at_now base q s (λ u. u.desk ≡ None) t posts away)
        (at_now base q s (λ u. same_modes (bars (held_modes u.held)) (bars u.charge) ≡ true) t posts same)
        (at_now base q s (λ u. Ledger script (Acting q) (world_of base q s t posts) s q u.desk) t posts h.1.ledger),
  );
}
  where
    q : ℕ
    q = stamp.node

    standing : EndEffects s stamp (stands s q stamp.clock (elsewhere script w s q base.mail) (unanswered script w s q))
        (stands s q stamp.clock (elsewhere script w s q base.mail) (unanswered script w s q)) (stands s q stamp.clock (elsewhere script w s q base.mail) (unanswered script w s q))
    standing = standing_ends s stamp.clock (elsewhere script w s q base.mail) (unanswered script w s q) stamp (only_here script w s q scene.stood scene.node)

    unhanded : (t : SetState) (posts : List Post) → Stands s q stamp.clock (elsewhere script w s q base.mail) (unanswered script w s q) t posts
        → Stands s q stamp.clock (λ a. elsewhere script w s q base.mail a + 0) (unanswered script w s q) t posts
    unhanded t posts h = record { once = λ a. omega (arith, h.once a); own = h.own; apart = h.apart; copies = h.copies }

-- the commands
pub ledger_acts : (script : ScriptData) (w base : World) (s below : ℕ) (stamp : Stamp) → Scene script w base s stamp.node
    → stamp.clock ≡ (base.node stamp.node).clock → stamp.clock ≡ below + 1
    → ActEffects s stamp
    (both (stands s stamp.node below (elsewhere script w s stamp.node base.mail) (unanswered script w s stamp.node)) (begins script base s stamp.node))
    (both (stands s stamp.node stamp.clock (elsewhere script w s stamp.node base.mail) (unanswered script w s stamp.node)) (midway script base s stamp.node))
ledger_acts script w base s below stamp scene clock next = record {
  nothing = λ t posts h. (standing.nothing t posts h.0, h.1.mid);
  grants = λ client mode t posts can h. (standing.grants client mode t posts can h.0, grants client mode None t posts can h.1);
  changes = λ client gives_up mode t posts holds can h. (standing.changes client gives_up mode t posts holds can h.0, grants client mode (Some gives_up) t posts can h.1);
  releases = λ client mode t posts e h. (
    standing.releases client mode t posts e h.0,
    record {
      ledger = quiet (λ u. record u { held = take_lock u.held client mode }) t posts
          (unlocked script (world_of base q s t posts) s q client mode scene.node (at_now base q s (λ u. Ledger script (Acting q) (world_of base q s t posts) s q u.desk) t posts h.1.mid.ledger));
      firm = h.1.mid.firm;
    },
  );
  drops = λ client t posts h. (
    standing.drops client t posts h.0,
    record {
      ledger = quiet (dropped client) t posts
          (all_dropped script (world_of base q s t posts) s q client scene.node (at_now base q s (λ u. Ledger script (Acting q) (world_of base q s t posts) s q u.desk) t posts h.1.mid.ledger));
      firm = h.1.mid.firm;
    },
  );
  withdraws = λ other t posts waiting h. (
    standing.withdraws other t posts waiting h.0,
    record {
      ledger = quiet (λ u. record u { gone = other ∷ u.gone }) t posts
          (regarded script (world_of base q s t posts) s q _ (at_now base q s (λ u. Ledger script (Acting q) (world_of base q s t posts) s q u.desk) t posts h.1.mid.ledger));
      firm = h.1.mid.firm;
    },
  );
  retakes = λ ask t posts gone same h. (
    standing.retakes ask t posts gone same h.0,
    record {
      ledger = quiet (λ u. record u { gone = without_gone u.gone ask.client }) t posts
          (regarded script (world_of base q s t posts) s q _ (at_now base q s (λ u. Ledger script (Acting q) (world_of base q s t posts) s q u.desk) t posts h.1.mid.ledger));
      firm = h.1.mid.firm;
    },
  );
  asks = λ client mode t posts can free h. (standing.asks client mode t posts can free h.0, asks (λ u. ask_of stamp client mode None u) (λ u. refl) t posts h.1);
  change_asks = λ client gives_up mode t posts holds can free h.
      (standing.change_asks client gives_up mode t posts holds can free h.0, asks (λ u. ask_of stamp client mode (Some gives_up) u) (λ u. refl) t posts h.1);
}
  where
    q : ℕ
    q = stamp.node

    standing : ActEffects s stamp (stands s q below (elsewhere script w s q base.mail) (unanswered script w s q)) (stands s q stamp.clock (elsewhere script w s q base.mail) (unanswered script w s q))
    standing = standing_acts s below (elsewhere script w s q base.mail) (unanswered script w s q) stamp next

    -- an effect without letters
    quiet : (effect : SetState → SetState) (t : SetState) (posts : List Post)
        → Ledger script (Acting q) (after_effect (world_of base q s t posts) q s (silent (effect (state_at (world_of base q s t posts) s q)))) s q (effect (state_at (world_of base q s t posts) s q)).desk
        → Ledger script (Acting q) (world_of base q s (effect t) posts) s q (effect t).desk
    quiet effect t posts h =
        subst (λ l. Ledger script (Acting q) (world_of base q s (effect t) l) s q (effect t).desk) (append-nil posts)
        (leads base q s (λ v o. Ledger script (Acting q) v s q o) (λ u. silent (effect u)) t posts h)

    grants : (client : ℕ) (mode : Mode) (gives_up : Option Mode) (t : SetState) (posts : List Post) → can_grant q t client mode ≡ true
        → Begun script base s q t posts
        → Mid script base s q (given client mode gives_up t) posts
    grants client mode gives_up t posts can h = record {
      ledger = quiet (given client mode gives_up) t posts
          (granted script (world_of base q s t posts) s q client mode gives_up scene.node (at_now base q s (λ u. can_grant q u client mode ≡ true) t posts can)
          (at_now base q s (λ u. u.desk ≡ None → bars (held_modes u.held) ≡ bars u.charge) t posts h.charge)
          (at_now base q s (λ u. Ledger script (Acting q) (world_of base q s t posts) s q u.desk) t posts h.mid.ledger));
      firm = h.mid.firm;
    }

    asks : (ask : SetState → Ask) → ((u : SetState) → (ask u).stamp ≡ stamp) → (t : SetState) (posts : List Post) → Begun script base s q t posts
        → HoldsOf (midway script base s q) posts (asked s stamp (ask t) t)
    asks ask own t posts h = record {
      ledger = leads base q s (λ v o. Ledger script (Acting q) v s q o) (asked s stamp (ask t)) t posts
          (waited script (world_of base q s t posts) s q stamp (ask t) scene.node (ap (λ (z : Stamp). z.clock) (own t) ∙ clock ∙ sym (clock_stays base q s (made_of t posts) q))
          (at_now base q s (λ u. (a : Ask) → Contains u.pending a → a.stamp.clock < ((world_of base q s t posts).node q).clock) t posts
          (λ a c. subst (λ (k : ℕ). a.stamp.clock < k) (sym (clock_stays base q s (made_of t posts) q)) (h.asks a c)))
          (at_now base q s (λ u. Ledger script (Acting q) (world_of base q s t posts) s q u.desk) t posts h.mid.ledger));
      firm = subst (λ link. link.node < script.nodes) (sym (route_firm s stamp false (ParkedAsk (ask t)) (record t { pending = t.pending ++ ask t ∷ [] }))) h.mid.firm;
    }

-- commands of a client, from their beginning to the end of the move
pub ledger_moves : (script : ScriptData) (w base : World) (s below : ℕ) (stamp : Stamp) → Scene script w base s stamp.node
    → stamp.clock ≡ (base.node stamp.node).clock → stamp.clock ≡ below + 1
    → ByEffects s stamp
    (both (stands s stamp.node below (elsewhere script w s stamp.node base.mail) (unanswered script w s stamp.node)) (begins script base s stamp.node))
    (both (stands s stamp.node stamp.clock (elsewhere script w s stamp.node base.mail) (unanswered script w s stamp.node)) (ended_fact script base s stamp.node))
ledger_moves script w base s below stamp scene clock next =
    acts_by_effects s stamp _ _ _ _ (ledger_acts script w base s below stamp scene clock next) (ledger_ends script w base s stamp scene clock)
