-- What else a node keeps for a set, through a command and through what a letter says.
use Rattle.std.proofs.Common.{◌≡◌, ℕ, ◌<◌, List, [], ◌∷◌, ◌++◌, length, Option, None, Bool, true, false, refl, not, nat_lt, if◌then◌else◌, All, Contains}
use Rattle.std.proofs.lemmas.List.Elements.{All-push, All-filter, All-contains, All-nil}
use Rattle.lt_modes.specs.declared.mode.Mode.{Mode}
use Rattle.lt_modes.specs.declared.stamp.Stamp.{Stamp}
use Rattle.lt_modes.specs.declared.ask.Ask.{Ask}
use Rattle.lt_modes.specs.declared.parts.Link.{Link}
use Rattle.lt_modes.specs.Modes.{Modes, is_of, take_lock}
use Rattle.lt_modes.specs.Script.{ScriptData}
use Rattle.lt_modes.specs.State.{SetState, Desk, ParkedAsk}
use Rattle.lt_modes.specs.Serving.{is_gone}
use Rattle.lt_modes.specs.SetMove.{given, ask_of, asked, dropped}
use Rattle.lt_modes.specs.Routing.{learn}
use Rattle.lt_modes.specs.Taking.{take_copy, take_freeze, take_token}
use Rattle.lt_modes.specs.Fits.{numbers_of}
use Rattle.lt_modes.specs.Sound.{SoundParked}
use Rattle.lt_spec.specs.NodeMove.{home}
use Rattle.lt_model.specs.Homes.{IsRowAtHome, IsAskOf}
use Rattle.lt_model.proofs.HomesRows.{more_home, less_home, give_up_home, answered_home, without_home}
use Rattle.lt_model.proofs.Voids.{copy_by}
use Rattle.lt_law_invariant.proofs.RowsApart.{Single, single_taken, single_dropped, single_answered}
use Rattle.lt_law_sound.proofs.KeptParts.{Kept, all_dealt_timed, route_kept}

-- Commands.

pub given_kept : (script : ScriptData) (q clock client : ℕ) (moving unfrozen : Bool) (mode : Mode) (gives_up : Option Mode) (t : SetState)
    → client < length script.clients → home script client ≡ q → Kept script q moving unfrozen clock t
    → Kept script q moving unfrozen clock (given client mode gives_up t)
given_kept script q clock client moving unfrozen mode gives_up t known own h = record {
  rows = more_home script q client mode _ known own (give_up_home script q client gives_up t.held h.rows);
  single = single_answered t.held client mode gives_up h.single;
  own = h.own;
  epoch = h.epoch;
  number = h.number;
  firm = h.firm;
  hoped = h.hoped;
  parked = h.parked;
  desk = h.desk;
}

pub released_kept : (script : ScriptData) (q clock client : ℕ) (moving unfrozen : Bool) (mode : Mode) (t : SetState) → Kept script q moving unfrozen clock t
    → Kept script q moving unfrozen clock (record t { held = take_lock t.held client mode })
released_kept script q clock client moving unfrozen mode t h = record {
  rows = less_home script q client mode t.held h.rows;
  single = single_taken t.held client mode h.single;
  own = h.own;
  epoch = h.epoch;
  number = h.number;
  firm = h.firm;
  hoped = h.hoped;
  parked = h.parked;
  desk = h.desk;
}

pub dropped_kept : (script : ScriptData) (q clock client : ℕ) (moving unfrozen : Bool) (t : SetState) → Kept script q moving unfrozen clock t
    → Kept script q moving unfrozen clock (dropped client t)
dropped_kept script q clock client moving unfrozen t h = record {
  rows = All-filter (λ row. not (is_of client row)) (IsRowAtHome script q) t.held h.rows;
  single = single_dropped t.held client h.single;
  own = h.own;
  epoch = h.epoch;
  number = h.number;
  firm = h.firm;
  hoped = h.hoped;
  parked = h.parked;
  desk = h.desk;
}

-- other asks may be given up
pub marked_kept : (script : ScriptData) (q clock : ℕ) (moving unfrozen : Bool) (gone : List ℕ) (t : SetState) → Kept script q moving unfrozen clock t
    → Kept script q moving unfrozen clock (record t { gone = gone })
marked_kept script q clock moving unfrozen gone t h = record {
  rows = h.rows;
  single = h.single;
  own = h.own;
  epoch = h.epoch;
  number = h.number;
  firm = h.firm;
  hoped = h.hoped;
  parked = h.parked;
  desk = h.desk;
}

pub asked_kept : (script : ScriptData) (clock set client : ℕ) (moving unfrozen : Bool) (stamp : Stamp) (mode : Mode) (gives_up : Option Mode) (t : SetState)
    → client < length script.clients → home script client ≡ stamp.node → stamp.node < script.nodes → Kept script stamp.node moving unfrozen clock t
    → Kept script stamp.node moving unfrozen clock (asked set stamp (ask_of stamp client mode gives_up t) t).state
asked_kept script clock set client moving unfrozen stamp mode gives_up t known own below h =
    let ask = ask_of stamp client mode gives_up t in
    let made : IsAskOf script stamp.node ask = (record { client = known; home = own; maker = refl }, refl) in
    route_kept script clock set moving unfrozen stamp false (ParkedAsk ask) (record t { pending = t.pending ++ ask ∷ [] }) below (record {
      rows = h.rows;
      single = h.single;
      own = All-push (IsAskOf script stamp.node) t.pending ask h.own made;
      epoch = h.epoch;
      number = h.number;
      firm = h.firm;
      hoped = h.hoped;
      parked = h.parked;
      desk = h.desk;
    })

-- Letters.

pub learn_kept : (script : ScriptData) (q clock : ℕ) (link : Link) (t : SetState) → link.node < script.nodes → link.epoch < clock
    → Kept script q true true clock t → Kept script q true true clock (learn link t)
learn_kept script q clock link t below earlier h = by_test (nat_lt t.firm.epoch link.epoch)
  where
    by_test : (greater : Bool) → Kept script q true true clock (if greater then record t { firm = link; hoped = None } else t)
    by_test false = h
    by_test true = record {
      rows = h.rows;
      single = h.single;
      own = h.own;
      epoch = earlier;
      number = h.number;
      firm = below;
      hoped = tt;
      parked = h.parked;
      desk = h.desk;
    }

pub copy_kept : (script : ScriptData) (q clock set : ℕ) (a : Ask) (t : SetState) → Contains t.pending a → Kept script q true true clock t
    → Kept script q true true clock (take_copy set a t).state
copy_kept script q clock set a t there h = by_gone (is_gone t a.client)
  where
    rows : (gone : Bool) → All (IsRowAtHome script q) (copy_by set a t gone).state.held
    rows true = h.rows
    rows false = answered_home script q a t.held (All-contains (IsAskOf script q) t.pending a h.own there) h.rows

    single : (gone : Bool) → Single (copy_by set a t gone).state.held
    single true = h.single
    single false = single_answered t.held a.client a.mode a.gives_up h.single

    by_gone : (gone : Bool) → Kept script q true true clock (copy_by set a t gone).state
    by_gone gone = record {
      rows = rows gone;
      single = single gone;
      own = without_home (IsAskOf script q) t.pending a.stamp h.own;
      epoch = h.epoch;
      number = h.number;
      firm = h.firm;
      hoped = h.hoped;
      parked = h.parked;
      desk = h.desk;
    }

pub token_kept : (script : ScriptData) (q clock : ℕ) (desk : Desk) (t : SetState) → q < script.nodes → desk.epoch < clock → desk.number < clock
    → length desk.entries ≡ script.nodes → Kept script q true true clock t → Kept script q true true clock (take_token q desk t)
token_kept script q clock desk t below epoch number entries h = record {
  rows = h.rows;
  single = h.single;
  own = h.own;
  epoch = epoch;
  number = h.number;
  firm = below;
  hoped = tt;
  parked = All-nil (SoundParked (numbers_of script));
  desk = all_dealt_timed script.nodes clock true true [] t.parked desk (refl, epoch, number, entries);
}

pub freeze_kept : (script : ScriptData) (q clock number : ℕ) (frozen : Modes) (t : SetState) → number < clock → Kept script q true true clock t
    → Kept script q true true clock (take_freeze number frozen t)
freeze_kept script q clock number frozen t earlier h = by_test (nat_lt t.number number)
  where
    by_test : (newer : Bool) → Kept script q true true clock (if newer then record t { frozen = frozen; number = number } else t)
    by_test false = h
    by_test true = record {
      rows = h.rows;
      single = h.single;
      own = h.own;
      epoch = h.epoch;
      number = earlier;
      firm = h.firm;
      hoped = h.hoped;
      parked = h.parked;
      desk = h.desk;
    }
