-- What is parked at a node stays held up through its moves.
use Rattle.std.proofs.Common.{◌≡◌, ◌≢◌, ℕ, inl, inr, List, [], ◌∷◌, ◌++◌, Option, Some, None, Bool, true, false, refl, sym, ap, subst, ◌∙◌, ◌==◌, ◌⊎◌, ◌&&◌, not, nat_lt, if◌then◌else◌, Contains, is_some, All, IsTrue, eqb-true}
use Rattle.std.proofs.lemmas.Bool.{cases_eq, and_parts}
use Rattle.std.proofs.lemmas.List.Elements.{All-nil, All-push, All-weaker, Contains-append_left}
use Rattle.lt_modes.specs.declared.stamp.Stamp.{Stamp}
use Rattle.lt_modes.specs.declared.ask.Ask.{Ask}
use Rattle.lt_modes.specs.declared.parts.Hoped.{Hoped}
use Rattle.lt_modes.specs.Modes.{excludes_itself, held_modes}
use Rattle.lt_modes.specs.State.{SetState, Desk, Body, AskBody, TellBody, CopyBody, TokenBody, FreezeBody, Letter, Parked, ParkedAsk, ParkedTell, Made, without}
use Rattle.lt_modes.specs.Serving.{ask_at, next_service, next_at, serve_one, serve_local, serve_copy}
use Rattle.lt_modes.specs.Telling.{is_newer, tell_of}
use Rattle.lt_modes.specs.HandingOver.{next_draw, move_at, hand_over_to}
use Rattle.lt_modes.specs.Freezing.{freeze, freeze_at}
use Rattle.lt_modes.specs.SetMove.{ask_of, asked}
use Rattle.lt_modes.specs.Routing.{Way, Parks, Goes, is_behind, ask_way, hoped_way, way, way_onward, reversed, sent_on, route, learn}
use Rattle.lt_modes.specs.Taking.{arrive, take_body, take_copy}
use Rattle.lt_model.proofs.Effects.{Fact, EndEffects, ActEffects, ByEffects, route_ways, acts_by_effects}
use Rattle.lt_lists.proofs.Members.{list_any-which}
use Rattle.lt_law_invariant.specs.InvariantLaws.{IsHeldUp, HeldUp}

abbrev pub held_up : ℕ → Fact
held_up x t posts = HeldUp x t

-- what is read of a state here
pub record SameHolds (t u : SetState) : Type 0 where
  pub desk : u.desk ≡ t.desk
  pub parked : u.parked ≡ t.parked
  pub firm : u.firm.node ≡ t.firm.node
  pub pending : (ask : Ask) → Contains t.pending ask → Contains u.pending ask

item_holds : (x : ℕ) (t u : SetState) → u.firm.node ≡ t.firm.node → ((ask : Ask) → Contains t.pending ask → Contains u.pending ask)
    → (item : Parked) → IsHeldUp x t item → IsHeldUp x u item
item_holds x t u firm pending (ParkedTell tell) h = firm ∙ h
item_holds x t u firm pending (ParkedAsk ask) h = elim h [
  | inl comes ↦ inl (firm ∙ comes)
  | inr behind ↦ inr (behind.0, pending behind.0 behind.1, behind.2, behind.3)
]

pub same_holds : (x : ℕ) (t u : SetState) → SameHolds t u → HeldUp x t → HeldUp x u
same_holds x t u same h = record {
  none = λ here. same.parked ∙ h.none (subst (λ (o : Option Desk). IsTrue (is_some o)) same.desk here);
  held = subst (λ (l : List Parked). All (IsHeldUp x u) l) (sym same.parked)
      (All-weaker (IsHeldUp x t) (IsHeldUp x u) (λ item. item_holds x t u same.firm same.pending item) t.parked h.held);
}

-- where nothing is parked
pub none_held : (x : ℕ) (t : SetState) → t.parked ≡ [] → HeldUp x t
none_held x t none = record { none = λ here. none; held = subst (λ (l : List Parked). All (IsHeldUp x t) l) (sym none) (All-nil (IsHeldUp x t)) }

-- a rule at the desk's node that leaves the parked letters
at_desk : (x : ℕ) (t u : SetState) → IsTrue (is_some t.desk) → u.parked ≡ t.parked → HeldUp x t → HeldUp x u
at_desk x t u here same h = none_held x u (same ∙ h.none here)

-- an ask or a tell is parked only where it is held up
parks_held : (x : ℕ) (marked : Bool) (item : Parked) (t : SetState) → way x marked item t ≡ Parks → IsHeldUp x t item
parks_held x marked item t e = by_own (t.firm.node == x) refl e
  where
    onward : (i : Parked) → way_onward marked i t ≡ Parks → IsHeldUp x t i
    onward (ParkedTell tell) f = cc
    onward (ParkedAsk ask) f = by_mark marked f
      where
        hoped_goes : (o : Option Hoped) → hoped_way o t.firm.node ask ≡ Parks → IsHeldUp x t (ParkedAsk ask)
        hoped_goes None g = cc
        hoped_goes (Some hoped) g = by_order (is_newer ask.stamp hoped.stamp) g
          where
            by_order : (older : Bool) → (if older then Goes hoped.node true else Goes t.firm.node false) ≡ Parks → IsHeldUp x t (ParkedAsk ask)
            by_order true h = cc
            by_order false h = cc

        by_mark : (mark : Bool) → ask_way mark ask t ≡ Parks → IsHeldUp x t (ParkedAsk ask)
        by_mark false g = hoped_goes t.hoped g
        by_mark true g = by_behind (is_behind t.pending ask) refl g
          where
            by_behind : (behind : Bool) → is_behind t.pending ask ≡ behind → (if behind then Parks else Goes t.firm.node false) ≡ Parks
                → IsHeldUp x t (ParkedAsk ask)
            by_behind false b h = cc
            by_behind true b h =
                let older = list_any-which (λ (own : Ask). excludes_itself own.mode && is_newer ask.stamp own.stamp) t.pending b in
                let tests = and_parts (excludes_itself older.0.mode) (is_newer ask.stamp older.0.stamp) older.2 in
                inr (older.0, older.1, tests.0, tests.1)

    named : (i : Parked) → t.firm.node ≡ x → IsHeldUp x t i
    named (ParkedTell tell) me = me
    named (ParkedAsk ask) me = inl me

    by_own : (own : Bool) → (t.firm.node == x) ≡ own → (if own then Parks else way_onward marked item t) ≡ Parks → IsHeldUp x t item
    by_own true own f = named item (eqb-true t.firm.node x own)
    by_own false own f = onward item f

route_held : (set : ℕ) (stamp : Stamp) (marked : Bool) (item : Parked) (t : SetState) → HeldUp stamp.node t
    → HeldUp stamp.node (route set stamp marked item t).state
route_held set stamp marked item t h = route_ways (λ (m : Made). HeldUp stamp.node m.state) set stamp marked item t
    (λ desk here. none_held stamp.node _ (h.none (ap is_some here)))
    (λ away w e. by_way away w e)
  where
    turned : (turns : Bool) (hoped : Option Hoped) → SameHolds t (if turns then record t { hoped = hoped } else t)
    turned true hoped = record { desk = refl; parked = refl; firm = refl; pending = λ ask c. c }
    turned false hoped = record { desk = refl; parked = refl; firm = refl; pending = λ ask c. c }

    by_item : (i : Parked) → SameHolds t (reversed stamp.node i t)
    by_item (ParkedTell tell) = record { desk = refl; parked = refl; firm = refl; pending = λ ask c. c }
    by_item (ParkedAsk ask) = turned (excludes_itself ask.mode && not (ask.node == stamp.node)) (Some (record { node = ask.node; stamp = ask.stamp }))

    no_desk : {A : Type 0} (o : Option Desk) → o ≡ None → IsTrue (is_some o) → A
    no_desk None e here = cc
    no_desk (Some desk) e here = cc

    same_item : (i : Parked) → IsHeldUp stamp.node t i → IsHeldUp stamp.node (record t { parked = t.parked ++ item ∷ [] }) i
    same_item (ParkedTell tell) g = g
    same_item (ParkedAsk ask) g = g

    by_way : t.desk ≡ None → (w : Way) → way stamp.node marked item t ≡ w → HeldUp stamp.node (sent_on set stamp item t w).state
    by_way away Parks e = record {
      none = λ here. no_desk t.desk away here;
      held = All-push (IsHeldUp stamp.node (record t { parked = t.parked ++ item ∷ [] })) t.parked item
          (All-weaker (IsHeldUp stamp.node t) (IsHeldUp stamp.node (record t { parked = t.parked ++ item ∷ [] })) same_item t.parked h.held)
          (same_item item (parks_held stamp.node marked item t e));
    }
    by_way away (Goes to mark) e = same_holds stamp.node t (reversed stamp.node item t) (by_item item) h

some_service : (me k : ℕ) (t : SetState) → next_service me t ≡ Some k → IsTrue (is_some t.desk)
some_service me k t e = by_desk t.desk e
  where
    by_desk : (o : Option Desk) → next_at me t o ≡ Some k → IsTrue (is_some o)
    by_desk None f = cc
    by_desk (Some desk) f = refl

some_move : (me k : ℕ) (t : SetState) → next_draw me t ≡ Some k → IsTrue (is_some t.desk)
some_move me k t e = by_desk t.desk e
  where
    by_desk : (o : Option Desk) → move_at me t o ≡ Some k → IsTrue (is_some o)
    by_desk None f = cc
    by_desk (Some desk) f = refl

pub held_ends : (s : ℕ) (stamp : Stamp) → EndEffects s stamp (held_up stamp.node) (held_up stamp.node) (held_up stamp.node)
held_ends s stamp = record {
  serves = λ t posts k e h. at_desk stamp.node t (serve_one s stamp k t).state (some_service stamp.node k t e) (served_parked t k ((ask_at t k).node == stamp.node)) h;
  freezes = λ t posts desk here none h. at_desk stamp.node t (freeze s stamp t).state (ap is_some here) (frozen_parked t t.desk) h;
  leaves = λ t posts k e h. at_desk stamp.node t (hand_over_to s stamp t (ask_at t k).node t.desk).state (some_move stamp.node k t e) (left_parked t (ask_at t k).node t.desk) h;
  stays = λ t posts e h. h;
  tells = λ t posts away differs h. route_held s stamp false (ParkedTell (tell_of stamp t)) (record t { charge = held_modes t.held })
      (same_holds stamp.node t (record t { charge = held_modes t.held }) (record { desk = refl; parked = refl; firm = refl; pending = λ ask c. c }) h);
  tells_not = λ t posts away same h. h;
}
  where
    served_parked : (t : SetState) (k : ℕ) (own : Bool)
        → (if own then serve_local s k t else serve_copy s stamp k (ask_at t k) t).state.parked ≡ t.parked
    served_parked t k true = refl
    served_parked t k false = refl

    frozen_parked : (t : SetState) (o : Option Desk) → (freeze_at s stamp t o).state.parked ≡ t.parked
    frozen_parked t None = refl
    frozen_parked t (Some desk) = refl

    left_parked : (t : SetState) (v : ℕ) (o : Option Desk) → (hand_over_to s stamp t v o).state.parked ≡ t.parked
    left_parked t v None = refl
    left_parked t v (Some desk) = refl

held_acts : (s : ℕ) (stamp : Stamp) → ActEffects s stamp (held_up stamp.node) (held_up stamp.node)
held_acts s stamp = record {
  nothing = λ t posts h. h;
  grants = λ client mode t posts e h. same_holds stamp.node t _ (record { desk = refl; parked = refl; firm = refl; pending = λ ask c. c }) h;
  changes = λ client gives_up mode t posts holds e h. same_holds stamp.node t _ (record { desk = refl; parked = refl; firm = refl; pending = λ ask c. c }) h;
  releases = λ client mode t posts e h. same_holds stamp.node t _ (record { desk = refl; parked = refl; firm = refl; pending = λ ask c. c }) h;
  drops = λ client t posts h. same_holds stamp.node t _ (record { desk = refl; parked = refl; firm = refl; pending = λ ask c. c }) h;
  withdraws = λ other t posts waiting h. same_holds stamp.node t _ (record { desk = refl; parked = refl; firm = refl; pending = λ ask c. c }) h;
  retakes = λ ask t posts gone same h. same_holds stamp.node t _ (record { desk = refl; parked = refl; firm = refl; pending = λ a c. c }) h;
  asks = λ client mode t posts e free h. waits (ask_of stamp client mode None t) t h;
  change_asks = λ client gives_up mode t posts holds e free h. waits (ask_of stamp client mode (Some gives_up) t) t h;
}
  where
    waits : (ask : Ask) (t : SetState) → HeldUp stamp.node t → HeldUp stamp.node (asked s stamp ask t).state
    waits ask t h = route_held s stamp false (ParkedAsk ask) (record t { pending = t.pending ++ ask ∷ [] })
        (same_holds stamp.node t (record t { pending = t.pending ++ ask ∷ [] })
        (record { desk = refl; parked = refl; firm = refl; pending = λ a c. Contains-append_left t.pending (ask ∷ []) a c }) h)

pub held_moves : (s : ℕ) (stamp : Stamp) → ByEffects s stamp (held_up stamp.node) (held_up stamp.node)
held_moves s stamp = acts_by_effects s stamp (held_up stamp.node) (held_up stamp.node) (held_up stamp.node) (held_up stamp.node) (held_acts s stamp) (held_ends s stamp)

-- a letter arrives; the link isn't newer where the firm link names this node, and the ask of a copy isn't taking
pub arrive_held : (stamp : Stamp) (letter : Letter) (t : SetState)
    → (t.firm.node ≡ stamp.node → IsTrue (is_some t.desk) ⊎ (nat_lt t.firm.epoch letter.link.epoch ≡ false))
    → ((ask : Ask) → letter.body ≡ CopyBody ask → (older : Ask) → Contains t.pending older → IsTrue (excludes_itself older.mode) → Contains (without t.pending ask.stamp) older)
    → HeldUp stamp.node t → HeldUp stamp.node (arrive stamp letter t).state
arrive_held stamp letter t settled stays h = by_body letter.body refl
  where
    u : SetState
    u = learn letter.link t

    learnt : HeldUp stamp.node u
    learnt = by_link (nat_lt t.firm.epoch letter.link.epoch) refl
      where
        by_link : (newer : Bool) → nat_lt t.firm.epoch letter.link.epoch ≡ newer
            → HeldUp stamp.node (if newer then record t { firm = letter.link; hoped = None } else t)
        by_link false e = h
        by_link true e = elim (cases_eq t.firm.node stamp.node) [
          | inl me ↦ elim (settled me) [
            | inl here ↦ none_held stamp.node (record t { firm = letter.link; hoped = None }) (h.none here)
            | inr old ↦ let no : true ≡ false = sym e ∙ old in cc
          ]
          | inr other ↦ record {
            none = h.none;
            held = All-weaker (IsHeldUp stamp.node t) (IsHeldUp stamp.node (record t { firm = letter.link; hoped = None })) (λ item g. behind_still other item g) t.parked h.held;
          }
        ]
          where
            behind_still : t.firm.node ≢ stamp.node → (item : Parked) → IsHeldUp stamp.node t item
                → IsHeldUp stamp.node (record t { firm = letter.link; hoped = None }) item
            behind_still other (ParkedTell tell) g = absurd (other g)
            behind_still other (ParkedAsk ask) g = elim g [ inl me ↦ absurd (other me) | inr behind ↦ inr behind ]

    pending_same : (newer : Bool) → (if newer then record t { firm = letter.link; hoped = None } else t).pending ≡ t.pending
    pending_same true = refl
    pending_same false = refl

    by_body : (body : Body) → letter.body ≡ body → HeldUp stamp.node (take_body letter.set stamp body u).state
    by_body (AskBody ask marked) says = route_held letter.set stamp marked (ParkedAsk ask) u learnt
    by_body (TellBody tell) says = route_held letter.set stamp false (ParkedTell tell) u learnt
    by_body (CopyBody ask) says = record {
      none = learnt.none;
      held = All-weaker (IsHeldUp stamp.node u) (IsHeldUp stamp.node (take_copy letter.set ask u).state) taken u.parked learnt.held;
    }
      where
        taken : (item : Parked) → IsHeldUp stamp.node u item → IsHeldUp stamp.node (take_copy letter.set ask u).state item
        taken (ParkedTell tell) g = g
        taken (ParkedAsk other) g = elim g [
          | inl me ↦ inl me
          | inr behind ↦
              let same = pending_same (nat_lt t.firm.epoch letter.link.epoch) in
              inr (
                behind.0,
                subst (λ (l : List Ask). Contains (without l ask.stamp) behind.0) (sym same)
                    (stays ask says behind.0 (subst (λ (l : List Ask). Contains l behind.0) same behind.1) behind.2),
                behind.2,
                behind.3,
              )
        ]
    by_body (TokenBody desk) says = none_held stamp.node (take_body letter.set stamp (TokenBody desk) u).state refl
    by_body (FreezeBody number modes) says = by_test (nat_lt u.number number)
      where
        by_test : (newer : Bool) → HeldUp stamp.node (if newer then record u { frozen = modes; number = number } else u)
        by_test true = same_holds stamp.node u (record u { frozen = modes; number = number }) (record { desk = refl; parked = refl; firm = refl; pending = λ a c. c }) learnt
        by_test false = learnt
