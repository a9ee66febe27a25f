-- From a sound set to what its moves keep of it, and back.
use Rattle.std.proofs.Common.{◌≡◌, ℕ, ◌<◌, ◌≤◌, inl, inr, List, length, Option, Some, None, Bool, true, false, refl, sym, ap, subst, arith, ◌∙◌, if◌then◌else◌, All, Contains, slice_index_or}
use Rattle.std.proofs.lemmas.List.{length-map}
use Rattle.std.proofs.lemmas.List.Elements.{All-contains, All-weaker}
use Rattle.std.proofs.lemmas.List.Quantifiers.{position-Some}
use Rattle.lt_modes.specs.declared.mode.Mode.{Mode}
use Rattle.lt_modes.specs.declared.stamp.Stamp.{Stamp}
use Rattle.lt_modes.specs.declared.ask.Ask.{Ask}
use Rattle.lt_modes.specs.declared.parts.Row.{Row}
use Rattle.lt_modes.specs.Modes.{is_row_of, no_row, row_place, count_of, count_at, bars, held_modes}
use Rattle.lt_modes.specs.Script.{ScriptData, ClientData}
use Rattle.lt_modes.specs.State.{SetState, Desk, Post}
use Rattle.lt_modes.specs.Fits.{asks_here, numbers_of}
use Rattle.lt_modes.specs.Sound.{SoundRow, HoldsGivenUp, SoundPending, SoundHere, SoundDesk, SoundSet}
use Rattle.lt_lists.proofs.Members.{all_of}
use Rattle.lt_lists.proofs.Sums.{none_found, sum_by-zero}
use Rattle.lt_spec.specs.NodeMove.{IsWhole}
use Rattle.lt_spec.specs.Facts.{places_in_state}
use Rattle.lt_law_accounts.proofs.Asks.{times_in-some}
use Rattle.lt_law_accounts.proofs.RowTotals.{row_count, total}
use Rattle.lt_model.specs.Homes.{IsRowAtHome, IsAskOf}
use Rattle.lt_model.specs.Invariant.{IsMadeBy}
use Rattle.lt_model.proofs.Effects.{Fact, both}
use Rattle.lt_model.proofs.HomesSound.{home_among, known_among}
use Rattle.lt_model.proofs.SentInMove.{stands}
use Rattle.lt_law_invariant.proofs.ClientCounts.{SomeEach}
use Rattle.lt_law_invariant.proofs.ClientEffects.{GivenBy, Clients, clients}
use Rattle.lt_law_invariant.proofs.FittingLetters.{apart_by, one_each, here_times}
use Rattle.lt_law_invariant.proofs.RowsApart.{rows_apart, single_of}
use Rattle.lt_law_sound.proofs.Around.{IsNamedHome, home_named, named_home, known_is, known_among_own, one_of_each, AreKnown, asked_elsewhere, stands_known, stands_named, stands_apart}
use Rattle.lt_law_sound.proofs.KeptParts.{DeskTimed, Kept, KeptDone}

-- What a sound set says of its rows and asks.

row_at_home : (script : ScriptData) (q : ℕ) (row : Row) → SoundRow (numbers_of script) q row → IsRowAtHome script q row
row_at_home script q row h =
    let known : row.client < length script.clients = omega (arith, h.client, length-map script.clients (λ (client : ClientData). client.node)) in
    record { client = known; home = sym (home_among script.clients row.client known) ∙ h.home; count = h.count }

row_sound : (script : ScriptData) (q : ℕ) (row : Row) → IsRowAtHome script q row → SoundRow (numbers_of script) q row
row_sound script q row h = record {
  client = known_among script row.client h.client;
  home = home_among script.clients row.client h.client ∙ h.home;
  count = h.count;
}

own_ask : (script : ScriptData) (q : ℕ) (t : SetState) (ask : Ask) → SoundPending (numbers_of script) q t ask → IsAskOf script q ask
own_ask script q t ask h =
    let named = home_named script ask h.home in
    (record { client = named.client; home = named.home; maker = h.maker ∙ sym h.node }, h.node)

pub rows_at_home : (script : ScriptData) (q clock : ℕ) (t : SetState) → SoundSet (numbers_of script) q false false clock t → All (IsRowAtHome script q) t.held
rows_at_home script q clock t h = All-weaker (SoundRow (numbers_of script) q) (IsRowAtHome script q) (row_at_home script q) t.held h.rows

pub own_asks : (script : ScriptData) (q clock : ℕ) (t : SetState) → SoundSet (numbers_of script) q false false clock t → All (IsAskOf script q) t.pending
own_asks script q clock t h = All-weaker (SoundPending (numbers_of script) q t) (IsAskOf script q) (own_ask script q t) t.pending h.pending

-- the asks that stand there
pub known_here : (script : ScriptData) (q clock : ℕ) (t : SetState) → SoundSet (numbers_of script) q false false clock t → AreKnown script q t.pending (asks_here t)
known_here script q clock t h = record {
  named = λ a there. home_named script a (All-contains (SoundHere (numbers_of script) q t) (asks_here t) a h.here there).home;
  own = λ a there. known_among_own q t a (All-contains (SoundHere (numbers_of script) q t) (asks_here t) a h.here there).known;
  few = one_of_each (asks_here t) h.apart;
}

-- at the beginning of a move with a later clock
pub opened : (script : ScriptData) (q before clock : ℕ) (t : SetState) → before < clock → SoundSet (numbers_of script) q false false before t
    → Kept script q true true clock t
opened script q before clock t later h = record {
  rows = rows_at_home script q before t h;
  single = single_of t.held h.rows_apart;
  own = own_asks script q before t h;
  epoch = omega (arith, h.epoch, later);
  number = omega (arith, h.number, later);
  firm = h.firm;
  hoped = h.hoped;
  parked = h.parked;
  desk = by_desk t.desk h.desk;
}
  where
    by_desk : (o : Option Desk) → SoundDesk (numbers_of script) false false before t o → DeskTimed script.nodes true true clock t.parked o
    by_desk None d = tt
    by_desk (Some desk) d = (d.0, omega (arith, d.1, later), omega (arith, d.2, later), d.3)

pub made_here : (script : ScriptData) (q clock : ℕ) (t : SetState) → SoundSet (numbers_of script) q false false clock t → All (IsMadeBy q clock) t.pending
made_here script q clock t h = all_of (IsMadeBy q clock) t.pending (λ ask there. (
  (All-contains (SoundPending (numbers_of script) q t) t.pending ask h.pending there).node,
  All-contains (λ (a : Ask). a.stamp.clock ≤ clock) t.pending ask h.made there,
))

-- a set that isn't touched is sound at a later clock
pub sound_later : (script : ScriptData) (q before clock : ℕ) (t : SetState) → before ≤ clock → SoundSet (numbers_of script) q false false before t
    → SoundSet (numbers_of script) q false false clock t
sound_later script q before clock t later h = record {
  rows = h.rows;
  rows_apart = h.rows_apart;
  pending = h.pending;
  one_ask = h.one_ask;
  stamps_apart = h.stamps_apart;
  made = All-weaker (λ (a : Ask). a.stamp.clock ≤ before) (λ (a : Ask). a.stamp.clock ≤ clock) (λ a made. omega (arith, made, later)) t.pending h.made;
  here = h.here;
  apart = h.apart;
  desk = by_desk t.desk h.desk;
  epoch = omega (arith, h.epoch, later);
  number = omega (arith, h.number, later);
  firm = h.firm;
  hoped = h.hoped;
  parked = h.parked;
}
  where
    by_desk : (o : Option Desk) → SoundDesk (numbers_of script) false false before t o → SoundDesk (numbers_of script) false false clock t o
    by_desk None d = d
    by_desk (Some desk) d = (d.0, omega (arith, d.1, later), omega (arith, d.2, later), d.3)

-- Back to a sound set.

-- what is held is counted in its first row
first_counted : (rows : List Row) (client : ℕ) (mode : Mode) → SomeEach rows → 1 ≤ total rows client mode → 1 ≤ count_of rows client mode
first_counted rows client mode some h = by_place (row_place rows client mode) refl
  where
    by_place : (o : Option ℕ) → row_place rows client mode ≡ o → 1 ≤ count_at rows o
    by_place None e =
        let nothing =
        sum_by-zero (row_count client mode) rows
        (λ i d within. ap (λ (b : Bool). if b then (slice_index_or rows i d).count else 0) (none_found (is_row_of client mode) rows e i d within)) in
        absurd (omega (arith, h, nothing))
    by_place (Some k) e = some k no_row (position-Some (is_row_of client mode) rows k no_row e).0

held_given_up : (rows : List Row) (client : ℕ) (o : Option Mode) → SomeEach rows → GivenBy rows client o → HoldsGivenUp rows client o
held_given_up rows client None some h = tt
held_given_up rows client (Some mode) some h = first_counted rows client mode some h

-- what holds at the end of the move of a set
abbrev pub ended : ScriptData → ℕ → Stamp → (Ask → ℕ) → List Ask → (ℕ → ℕ) → SetState → Fact
ended script s stamp others asks bonus first =
    both (both (stands s stamp.node stamp.clock others (asked_elsewhere stamp.node asks)) (clients bonus first))
    (λ t posts. KeptDone script stamp.node stamp.clock t)

-- the set is sound, and clients have no more of it than this
pub record Outcome (script : ScriptData) (q clock : ℕ) (bonus : ℕ → ℕ) (first t : SetState) : Type 0 where
  pub sound : SoundSet (numbers_of script) q false false clock t
  pub clients : Clients bonus first t

pub outcome : (script : ScriptData) (s : ℕ) (stamp : Stamp) (others : Ask → ℕ) (pending asks : List Ask) (bonus : ℕ → ℕ) (first t : SetState) (posts : List Post)
    → IsWhole script → AreKnown script stamp.node pending asks → ended script s stamp others asks bonus first t posts
    → Outcome script stamp.node stamp.clock bonus first t
outcome script s stamp others pending asks bonus first t posts whole known ((stood, held), (kept, charge)) = record {
  sound = record {
    rows = All-weaker (IsRowAtHome script stamp.node) (SoundRow (numbers_of script) stamp.node) (row_sound script stamp.node) t.held kept.rows;
    rows_apart = rows_apart t.held kept.single;
    pending = all_of (SoundPending (numbers_of script) stamp.node t) t.pending (λ ask there.
        let own = All-contains (IsAskOf script stamp.node) t.pending ask kept.own there in
        record {
          home = named_home script ask (named_own ask own);
          node = own.1;
          maker = own.0.maker ∙ own.1;
          gives_up = λ live. held_given_up t.held ask.client ask.gives_up held.some (held.gives ask there live);
        });
    one_ask = one_each t.pending held.one;
    stamps_apart = stood.apart;
    made = All-weaker (IsMadeBy stamp.node stamp.clock) (λ (a : Ask). a.stamp.clock ≤ stamp.clock) (λ a made. made.1) t.pending stood.own;
    here = all_of (SoundHere (numbers_of script) stamp.node t) (asks_here t) (λ ask there.
        record {
          home = named_home script ask (stands_named script stamp.node s stamp.clock pending asks others t posts ask whole known stood kept.own (some ask there));
          known = known_is stamp.node t ask (λ own. found ask own there);
        });
    apart = apart_by (asks_here t) (stands_apart script stamp.node s stamp.clock pending asks others t posts whole known stood kept.own held.one);
    desk = by_desk t.desk kept.desk charge;
    epoch = kept.epoch;
    number = kept.number;
    firm = kept.firm;
    hoped = kept.hoped;
    parked = kept.parked;
  };
  clients = held;
}
  where
    named_own : (ask : Ask) → IsAskOf script stamp.node ask → IsNamedHome script ask
    named_own ask own = record {
      client = own.0.client;
      home = own.0.home;
      node = subst (λ (x : ℕ). x < script.nodes) own.0.home (whole.homes ask.client own.0.client);
    }

    some : (ask : Ask) → Contains (asks_here t) ask → 1 ≤ places_in_state ask t
    some ask there = omega (arith, here_times ask t, times_in-some ask (asks_here t) there)

    found : (ask : Ask) → ask.node ≡ stamp.node → Contains (asks_here t) ask → Contains t.pending ask
    found ask own there = elim (stands_known script stamp.node s stamp.clock asks others t posts ask stood kept.own (some ask there)) [
      | inl here ↦ here.1
      | inr other ↦ absurd (other.0 own)
    ]

    by_desk : (o : Option Desk) → DeskTimed script.nodes false false stamp.clock t.parked o → (o ≡ None → bars (held_modes t.held) ≡ bars t.charge)
        → SoundDesk (numbers_of script) false false stamp.clock t o
    by_desk None d charge = charge refl
    by_desk (Some desk) d charge = d
