-- What else a node keeps for a set, through the effects of a move: rows and asks of its own clients, links to nodes of the
-- script, and numbers that are earlier than its clock.
use Rattle.std.proofs.Common.{◌≡◌, ◌≢◌, ℕ, ◌<◌, ◌≤◌, List, [], ◌∷◌, ◌++◌, length, Option, Some, None, Bool, true, false, refl, sym, ap, subst, arith, ◌∙◌, ◌==◌, ◌&&◌, not, if◌then◌else◌, All, Contains, fold, is_some, length-set}
use Rattle.std.proofs.lemmas.Bool.{eqb-false, and_parts}
use Rattle.std.proofs.lemmas.List.Elements.{All-push, All-contains}
use Rattle.lt_modes.specs.declared.stamp.Stamp.{Stamp}
use Rattle.lt_modes.specs.declared.ask.Ask.{Ask}
use Rattle.lt_modes.specs.Modes.{excludes_itself, bars, held_modes, same_modes}
use Rattle.lt_modes.specs.Script.{ScriptData}
use Rattle.lt_modes.specs.State.{SetState, Desk, Parked, ParkedAsk, ParkedTell, Made, entry_of}
use Rattle.lt_modes.specs.Serving.{ask_at, is_gone, put_queue, owed_at, owing, served, serve_copy}
use Rattle.lt_modes.specs.HandingOver.{hand_over_to}
use Rattle.lt_modes.specs.Telling.{told, tell_of}
use Rattle.lt_modes.specs.Freezing.{freeze, freeze_at, frozen_by, frozen_entry, targets, number_after}
use Rattle.lt_modes.specs.SetMove.{make_tell}
use Rattle.lt_modes.specs.Routing.{Way, Parks, Goes, dealt, reversed, sent_on, route}
use Rattle.lt_modes.specs.Fits.{numbers_of}
use Rattle.lt_modes.specs.Sound.{IsNoLater, SoundHoped, SoundParked}
use Rattle.lt_modes.proofs.ModeAlgebra.{same_modes-true}
use Rattle.lt_model.specs.Homes.{IsRowAtHome, IsAskOf}
use Rattle.lt_model.proofs.Effects.{route_ways}
use Rattle.lt_model.proofs.HomesRows.{answered_home, without_home}
use Rattle.lt_model.proofs.PathsQuiet.{length-map_from}
use Rattle.lt_model.proofs.Voids.{local_by}
use Rattle.lt_law_invariant.proofs.OwnSteps.{route_same}
use Rattle.lt_law_invariant.proofs.Seen.{SameOwn}
use Rattle.lt_law_invariant.proofs.RowsApart.{Single, single_answered}

-- a desk that is here: nothing is parked, its numbers are no later than the clock, and it has an entry for each node
abbrev pub DeskTimed : ℕ → Bool → Bool → ℕ → List Parked → Option Desk → Type 0
DeskTimed nodes moving unfrozen clock parked None = Unit {0}
DeskTimed nodes moving unfrozen clock parked (Some desk) =
    (parked ≡ []) × IsNoLater moving clock desk.epoch × IsNoLater unfrozen clock desk.number × (length desk.entries ≡ nodes)

-- the parts of a sound state that no effect of another node touches
pub record Kept (script : ScriptData) (q : ℕ) (moving unfrozen : Bool) (clock : ℕ) (t : SetState) : Type 0 where
  pub rows : All (IsRowAtHome script q) t.held
  pub single : Single t.held
  pub own : All (IsAskOf script q) t.pending
  pub epoch : IsNoLater moving clock t.firm.epoch
  pub number : IsNoLater unfrozen clock t.number
  pub firm : t.firm.node < script.nodes
  pub hoped : SoundHoped (numbers_of script) q t.hoped
  pub parked : All (SoundParked (numbers_of script)) t.parked
  pub desk : DeskTimed script.nodes moving unfrozen clock t.parked t.desk

-- The desk.

put_timed : (nodes clock : ℕ) (moving unfrozen : Bool) (parked : List Parked) (queue : List Ask) (o : Option Desk)
    → DeskTimed nodes moving unfrozen clock parked o → DeskTimed nodes moving unfrozen clock parked (put_queue queue o)
put_timed nodes clock moving unfrozen parked queue None h = h
put_timed nodes clock moving unfrozen parked queue (Some desk) h = h

owed_timed : (nodes clock k : ℕ) (moving unfrozen : Bool) (parked : List Parked) (ask : Ask) (o : Option Desk)
    → DeskTimed nodes moving unfrozen clock parked o → DeskTimed nodes moving unfrozen clock parked (owed_at ask k o)
owed_timed nodes clock k moving unfrozen parked ask None h = h
owed_timed nodes clock k moving unfrozen parked ask (Some desk) h =
    (h.0, h.1, h.2, length-set desk.entries ask.node (owing ask (entry_of desk ask.node)) ∙ h.3)

dealt_timed : (nodes clock : ℕ) (moving unfrozen : Bool) (parked : List Parked) (item : Parked) (desk : Desk)
    → DeskTimed nodes moving unfrozen clock parked (Some desk) → DeskTimed nodes moving unfrozen clock parked (Some (dealt desk item))
dealt_timed nodes clock moving unfrozen parked (ParkedAsk ask) desk h = h
dealt_timed nodes clock moving unfrozen parked (ParkedTell tell) desk h =
    (h.0, h.1, h.2, length-set desk.entries tell.node (told tell (entry_of desk tell.node)) ∙ h.3)

pub all_dealt_timed : (nodes clock : ℕ) (moving unfrozen : Bool) (parked items : List Parked) (desk : Desk)
    → DeskTimed nodes moving unfrozen clock parked (Some desk) → DeskTimed nodes moving unfrozen clock parked (Some (fold dealt desk items))
all_dealt_timed nodes clock moving unfrozen parked [] desk h = h
all_dealt_timed nodes clock moving unfrozen parked (item ∷ rest) desk h =
    all_dealt_timed nodes clock moving unfrozen parked rest (dealt desk item) (dealt_timed nodes clock moving unfrozen parked item desk h)

-- The end of a move.

-- an ask of the node is answered, which was given up or not
pub local_kept : (script : ScriptData) (q clock k : ℕ) (moving unfrozen : Bool) (t : SetState) → Contains t.pending (ask_at t k)
    → Kept script q moving unfrozen clock t → Kept script q moving unfrozen clock (served t k)
local_kept script q clock k moving unfrozen t there h = by_gone (is_gone t (ask_at t k).client)
  where
    a : Ask
    a = ask_at t k

    rows : (gone : Bool) → All (IsRowAtHome script q) (local_by 0 k t gone).state.held
    rows true = h.rows
    rows false = answered_home script q a t.held (All-contains (IsAskOf script q) t.pending a h.own there) h.rows

    single : (gone : Bool) → Single (local_by 0 k t gone).state.held
    single true = h.single
    single false = single_answered t.held a.client a.mode a.gives_up h.single

    by_gone : (gone : Bool) → Kept script q moving unfrozen clock (local_by 0 k t gone).state
    by_gone gone = record {
      rows = rows gone;
      single = single gone;
      own = without_home (IsAskOf script q) t.pending a.stamp h.own;
      epoch = h.epoch;
      number = h.number;
      firm = h.firm;
      hoped = h.hoped;
      parked = h.parked;
      desk = put_timed script.nodes clock moving unfrozen t.parked _ t.desk h.desk;
    }

pub copied_kept : (script : ScriptData) (q clock set k : ℕ) (moving unfrozen : Bool) (stamp : Stamp) (a : Ask) (t : SetState)
    → Kept script q moving unfrozen clock t → Kept script q moving unfrozen clock (serve_copy set stamp k a t).state
copied_kept script q clock set k moving unfrozen stamp a t h = record {
  rows = h.rows;
  single = h.single;
  own = h.own;
  epoch = h.epoch;
  number = h.number;
  firm = h.firm;
  hoped = h.hoped;
  parked = h.parked;
  desk = owed_timed script.nodes clock k moving unfrozen t.parked a t.desk h.desk;
}

after_number : (told : List ℕ) (number clock : ℕ) → number < clock → number_after told number ≤ clock
after_number [] number clock h = omega (arith, h)
after_number (x ∷ rest) number clock h = omega (arith, h)

-- with the desk here, which has frozen
abbrev pub KeptHere : ScriptData → ℕ → ℕ → SetState → Type 0
KeptHere script q clock t = Kept script q true false clock t × (is_some t.desk ≡ true)

pub frozen_kept : (script : ScriptData) (q clock set : ℕ) (stamp : Stamp) (t : SetState) (desk : Desk) → t.desk ≡ Some desk
    → Kept script q true true clock t → KeptHere script q clock (freeze set stamp t).state
frozen_kept script q clock set stamp t desk here h = by_desk t.desk here h.desk
  where
    by_desk : (o : Option Desk) → o ≡ Some desk → DeskTimed script.nodes true true clock t.parked o
        → KeptHere script q clock (freeze_at set stamp t o).state
    by_desk None e d = cc
    by_desk (Some own) e d =
        let frozen = frozen_by own.queue in
        let few = after_number (targets stamp.node frozen own) own.number clock d.2 in (
          record {
            rows = h.rows;
            single = h.single;
            own = h.own;
            epoch = h.epoch;
            number = few;
            firm = h.firm;
            hoped = h.hoped;
            parked = h.parked;
            desk = (d.0, d.1, few, length-map_from (frozen_entry stamp.node frozen) 0 own.entries ∙ d.3);
          },
          refl,
        )

-- a state at the end of a move: where the desk isn't here, what is held is charged
abbrev pub KeptDone : ScriptData → ℕ → ℕ → SetState → Type 0
KeptDone script q clock t = Kept script q false false clock t × (t.desk ≡ None → bars (held_modes t.held) ≡ bars t.charge)

no_longer : (script : ScriptData) (q clock : ℕ) (unfrozen : Bool) (t : SetState) → Kept script q true unfrozen clock t → IsNoLater false clock t.number
    → DeskTimed script.nodes false false clock t.parked t.desk → Kept script q false false clock t
no_longer script q clock unfrozen t h number desk = record {
  rows = h.rows;
  single = h.single;
  own = h.own;
  epoch = omega (arith, h.epoch);
  number = number;
  firm = h.firm;
  hoped = h.hoped;
  parked = h.parked;
  desk = desk;
}

pub stays_kept : (script : ScriptData) (q clock : ℕ) (t : SetState) → KeptHere script q clock t → KeptDone script q clock t
stays_kept script q clock t h = (
  no_longer script q clock false t h.0 h.0.number (by_desk t.desk h.0.desk),
  λ none. let gone : false ≡ true = sym (ap is_some none) ∙ h.1 in cc,
)
  where
    by_desk : (o : Option Desk) → DeskTimed script.nodes true false clock t.parked o → DeskTimed script.nodes false false clock t.parked o
    by_desk None d = d
    by_desk (Some desk) d = (d.0, omega (arith, d.1), d.2, d.3)

pub leaves_kept : (script : ScriptData) (q clock set v : ℕ) (stamp : Stamp) (t : SetState) → v < script.nodes → KeptHere script q clock t
    → KeptDone script q clock (hand_over_to set stamp t v t.desk).state
leaves_kept script q clock set v stamp t below h = by_desk t.desk h.1 h.0.desk
  where
    by_desk : (o : Option Desk) → is_some o ≡ true → DeskTimed script.nodes true false clock t.parked o
        → KeptDone script q clock (hand_over_to set stamp t v o).state
    by_desk None e d = cc
    by_desk (Some desk) e d = (
      record {
        rows = h.0.rows;
        single = h.0.single;
        own = h.0.own;
        epoch = omega (arith, d.1);
        number = h.0.number;
        firm = below;
        hoped = tt;
        parked = h.0.parked;
        desk = tt;
      },
      λ none. refl,
    )

-- Asks and tells on their way.

-- it names a node of the script
abbrev pub NamesNode : ScriptData → Parked → Type 0
NamesNode script (ParkedAsk ask) = ask.node < script.nodes
NamesNode script (ParkedTell tell) = tell.node < script.nodes

parks : (script : ScriptData) (item : Parked) → NamesNode script item → SoundParked (numbers_of script) item
parks script (ParkedAsk ask) h = tt
parks script (ParkedTell tell) h = h

is_not : (b : Bool) → not b ≡ true → b ≡ false
is_not true e = sym e
is_not false e = refl

reversed_kept : (script : ScriptData) (q clock : ℕ) (moving unfrozen : Bool) (item : Parked) (t : SetState) → NamesNode script item
    → Kept script q moving unfrozen clock t → Kept script q moving unfrozen clock (reversed q item t)
reversed_kept script q clock moving unfrozen (ParkedTell tell) t named h = h
reversed_kept script q clock moving unfrozen (ParkedAsk ask) t named h = by_test (excludes_itself ask.mode && not (ask.node == q)) refl
  where
    by_test : (other : Bool) → (excludes_itself ask.mode && not (ask.node == q)) ≡ other
        → Kept script q moving unfrozen clock (if other then record t { hoped = Some (record { node = ask.node; stamp = ask.stamp }) } else t)
    by_test false e = h
    by_test true e =
        let away : ask.node ≢ q = eqb-false ask.node q (is_not (ask.node == q) (and_parts (excludes_itself ask.mode) (not (ask.node == q)) e).1) in
        record {
          rows = h.rows;
          single = h.single;
          own = h.own;
          epoch = h.epoch;
          number = h.number;
          firm = h.firm;
          hoped = (named, away);
          parked = h.parked;
          desk = h.desk;
        }

pub route_kept : (script : ScriptData) (clock set : ℕ) (moving unfrozen : Bool) (stamp : Stamp) (marked : Bool) (item : Parked) (t : SetState)
    → NamesNode script item → Kept script stamp.node moving unfrozen clock t
    → Kept script stamp.node moving unfrozen clock (route set stamp marked item t).state
route_kept script clock set moving unfrozen stamp marked item t named h =
    route_ways (λ (m : Made). Kept script stamp.node moving unfrozen clock m.state) set stamp marked item t
    (λ desk e. record {
      rows = h.rows;
      single = h.single;
      own = h.own;
      epoch = h.epoch;
      number = h.number;
      firm = h.firm;
      hoped = h.hoped;
      parked = h.parked;
      desk = dealt_timed script.nodes clock moving unfrozen t.parked item desk
          (subst (DeskTimed script.nodes moving unfrozen clock t.parked) e h.desk);
    })
    (λ away w e. goes away w)
  where
    goes : t.desk ≡ None → (w : Way) → Kept script stamp.node moving unfrozen clock (sent_on set stamp item t w).state
    goes away Parks = record {
      rows = h.rows;
      single = h.single;
      own = h.own;
      epoch = h.epoch;
      number = h.number;
      firm = h.firm;
      hoped = h.hoped;
      parked = All-push (SoundParked (numbers_of script)) t.parked item h.parked (parks script item named);
      desk = subst (DeskTimed script.nodes moving unfrozen clock (t.parked ++ item ∷ [])) (sym away) tt;
    }
    goes away (Goes to mark) = reversed_kept script stamp.node clock moving unfrozen item t named h

pub tells_kept : (script : ScriptData) (clock set : ℕ) (stamp : Stamp) (t : SetState) → stamp.node < script.nodes → t.desk ≡ None
    → Kept script stamp.node true true clock t → KeptDone script stamp.node clock (make_tell set stamp t).state
tells_kept script clock set stamp t here away h = (
  route_kept script clock set false false stamp false (ParkedTell (tell_of stamp t)) charged here
      (record {
        rows = h.rows;
        single = h.single;
        own = h.own;
        epoch = omega (arith, h.epoch);
        number = omega (arith, h.number);
        firm = h.firm;
        hoped = h.hoped;
        parked = h.parked;
        desk = subst (DeskTimed script.nodes false false clock t.parked) (sym away) tt;
      }),
  λ none. ap (λ rows. bars (held_modes rows)) same.held ∙ ap bars (sym same.charge),
)
  where
    charged : SetState
    charged = record t { charge = held_modes t.held }

    same : SameOwn charged (make_tell set stamp t).state
    same = (route_same set stamp false (ParkedTell (tell_of stamp t)) charged).1

pub tells_not_kept : (script : ScriptData) (q clock : ℕ) (t : SetState) → t.desk ≡ None → same_modes (bars (held_modes t.held)) (bars t.charge) ≡ true
    → Kept script q true true clock t → KeptDone script q clock t
tells_not_kept script q clock t away same h = (
  no_longer script q clock true t h (omega (arith, h.number)) (subst (DeskTimed script.nodes false false clock t.parked) (sym away) tt),
  λ none. same_modes-true (bars (held_modes t.held)) (bars t.charge) same,
)
