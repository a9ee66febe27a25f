-- A set of which nothing changes but that clocks go on: it stays kept, and a node whose clock went on may be in its move.
use Rattle.std.proofs.Common.{◌≡◌, ℕ, ◌<◌, ◌≤◌, inl, inr, List, [], ◌∷◌, length, Option, Some, None, Bool, true, false, refl, sym, ap, subst, arith, ◌∙◌, ◌==◌, if◌then◌else◌, is_some, All, Contains, filter_map, eq-eqb, eqb-true}
use Rattle.std.specs.List.{cons_option}
use Rattle.std.proofs.lemmas.List.Elements.{All-weaker}
use Rattle.lt_modes.specs.declared.ask.Ask.{Ask}
use Rattle.lt_modes.specs.Modes.{Modes, bars, held_modes}
use Rattle.lt_modes.specs.Script.{ScriptData}
use Rattle.lt_modes.specs.State.{SetState, Desk, Tell, Body, Letter, Parked, ParkedAsk, ParkedTell, entry_of, times_in}
use Rattle.lt_modes.specs.Serving.{next_service}
use Rattle.lt_modes.specs.HandingOver.{next_draw}
use Rattle.lt_modes.specs.Fits.{Numbers, numbers_of}
use Rattle.lt_modes.specs.Sound.{IsNoLater, ChargeKept, SoundDesk, SoundSet}
use Rattle.lt_lists.specs.Below.{one_if}
use Rattle.lt_spec.specs.World.{World, after}
use Rattle.lt_spec.specs.Facts.{state_at, tokens_in, places_in_state, places_in_body, OnWay, Comes, DeskIs}
use Rattle.lt_model.specs.OnWay.{in_set, tell_in, tell_parked, copy_in, freeze_in, tells_of, copies_to, freezes_to, account_of, news_of, Moment, Between, Acting, Frozen, is_at, is_moving, is_unfrozen, is_serving}
use Rattle.lt_law_accounts.specs.Account.{Account, AccountKept, AreClear, counted}
use Rattle.lt_law_accounts.specs.News.{News, NewsKept, Notice}
use Rattle.lt_model.specs.Invariant.{Paths, StateOnPath, LetterOnPath, PlacesKept, IsParkedFor, DeskKept, SetKept}
use Rattle.lt_spec.specs.Promised.{of_set, SameSet}
use Rattle.lt_model.specs.Laws.{begun, MoveBegins, AsideStays}
use Rattle.lt_lists.proofs.Sums.{sum_below-same}
use Rattle.lt_lists.proofs.Members.{contains_filter, contains_filtered}
use Rattle.lt_lists.proofs.Gathering.{gather_same}
use Rattle.lt_model.specs.AccountRules.{account_with}
use Rattle.lt_model.specs.NewsRules.{news_with}
use Rattle.lt_model.proofs.StandingBegins.{tells_alike}
use Rattle.lt_model.proofs.ExactTry.{same_set, others_stay}
use Rattle.lt_model.proofs.PathsMove.{desk_somewhere}
use Rattle.lt_model.proofs.ClocksGrow.{clocks_grow}
use Rattle.lt_law_accounts.proofs.AccountFacts.{held_below_charge}
use Rattle.lt_law_accounts.proofs.AccountAsks.{ticks_kept, ages_kept}
use Rattle.lt_law_accounts.proofs.NewsLemmas.{begins_kept}

-- the clock stays or goes on, and goes on where the node is in its move
abbrev pub Goes : Bool → ℕ → ℕ → Type 0
Goes false old new = old ≤ new
Goes true old new = old < new

pub goes_on : (moving : Bool) (old new : ℕ) → Goes moving old new → old ≤ new
goes_on false old new h = h
goes_on true old new h = omega (arith, h)

no_later : (moving : Bool) (old new k : ℕ) → Goes moving old new → k ≤ old → IsNoLater moving new k
no_later false old new k goes h = omega (arith, goes, h)
no_later true old new k goes h = omega (arith, goes, h)

on_way_same : (w later : World) (s p q : ℕ) (letter : Letter) → of_set s (later.mail p q) ≡ of_set s (w.mail p q) → OnWay later s p q letter → OnWay w s p q letter
on_way_same w later s p q letter same on =
    let kept = contains_filter (λ (l : Letter). l.set == s) (later.mail p q) letter on.among (eq-eqb letter.set s on.set) in
    record {
      among = (contains_filtered (λ (l : Letter). l.set == s) (w.mail p q) letter (subst (λ (ls : List Letter). Contains ls letter) same kept)).0;
      set = on.set;
    }

pub comes_same : (script : ScriptData) (w later : World) (s x : ℕ) (body : Body) → ((p q : ℕ) → of_set s (later.mail p q) ≡ of_set s (w.mail p q))
    → Comes script later s x body → Comes script w s x body
comes_same script w later s x body same h = (h.0, h.1, h.2, on_way_same w later s h.0 x h.1 (same h.0 x) h.3, h.4)

-- what is read from the letters of the set is read from them alone
read_of_set : {X : Type 0} (s : ℕ) (read : Body → Option X) (letters : List Letter)
    → filter_map (in_set s read) letters ≡ filter_map (λ (letter : Letter). read letter.body) (of_set s letters)
read_of_set s read [] = refl
read_of_set {X = X} s read (letter ∷ rest) = by_set (letter.set == s) (read_of_set s read rest)
  where
    by_set : (own : Bool) → filter_map (in_set s read) rest ≡ filter_map (λ (l : Letter). read l.body) (of_set s rest)
        → cons_option (if own then read letter.body else None) (filter_map (in_set s read) rest)
        ≡ filter_map (λ (l : Letter). read l.body) (if own then letter ∷ of_set s rest else of_set s rest)
    by_set true again = ap (cons_option (read letter.body)) again
    by_set false again = again

read_same : {X : Type 0} (s : ℕ) (read : Body → Option X) (letters others : List Letter) → of_set s letters ≡ of_set s others
    → filter_map (in_set s read) letters ≡ filter_map (in_set s read) others
read_same s read letters others same =
    read_of_set s read letters ∙ ap (filter_map (λ (letter : Letter). read letter.body)) same ∙ sym (read_of_set s read others)

pub tells_same : (script : ScriptData) (w later : World) (s x : ℕ) → SameSet script w later s → tells_of script later s x ≡ tells_of script w s x
tells_same script w later s x same = tells_alike script w later s x (λ p q. read_same s (tell_in x) (later.mail p q) (w.mail p q) (same.letters p q))
    (λ q. ap (λ (t : SetState). filter_map (tell_parked x) t.parked) (same.states q))

pub copies_same : (script : ScriptData) (w later : World) (s x : ℕ) → SameSet script w later s → copies_to script later s x ≡ copies_to script w s x
copies_same script w later s x same = gather_same script.nodes (λ p. filter_map (in_set s copy_in) (later.mail p x)) (λ p. filter_map (in_set s copy_in) (w.mail p x))
    (λ p. read_same s copy_in (later.mail p x) (w.mail p x) (same.letters p x))

pub freezes_same : (script : ScriptData) (w later : World) (s x : ℕ) → SameSet script w later s → freezes_to script later s x ≡ freezes_to script w s x
freezes_same script w later s x same = gather_same script.nodes (λ p. filter_map (in_set s freeze_in) (later.mail p x)) (λ p. filter_map (in_set s freeze_in) (w.mail p x))
    (λ p. read_same s freeze_in (later.mail p x) (w.mail p x) (same.letters p x))

pub account_same : (script : ScriptData) (moment : Moment) (w later : World) (s : ℕ) (place : Option ℕ) (desk : Desk) (x : ℕ) → SameSet script w later s
    → account_of script moment later s place desk x ≡ record (account_of script Between w s place desk x) { clock = (later.node x).clock; moving = is_moving moment x }
account_same script moment w later s place desk x same =
    let clock = (later.node x).clock in
    let make = account_with clock (is_at place x) (is_moving moment x) (entry_of desk x) in
    ap (λ (t : SetState). make t (tells_of script later s x) (copies_to script later s x)) (same.states x)
    ∙ ap (λ (l : List Tell). make (state_at w s x) l (copies_to script later s x)) (tells_same script w later s x same)
    ∙ ap (λ (l : List Ask). make (state_at w s x) (tells_of script w s x) l) (copies_same script w later s x same)

pub account_goes : (a : Account) (moving : Bool) (clock : ℕ) → AccountKept a → a.moving ≡ false → Goes moving a.clock clock → AccountKept (record a { clock = clock; moving = moving })
account_goes a true clock h between goes = (ticks_kept a clock h (record { between = between; later = goes })).0
account_goes a false clock h between goes =
    subst (λ (m : Bool). AccountKept (record a { clock = clock; moving = m })) between (ages_kept a clock h between goes)

pub news_same : (script : ScriptData) (moment : Moment) (w later : World) (s : ℕ) (place : Option ℕ) (desk : Desk) (x : ℕ) → SameSet script w later s
    → news_of script moment later s place desk x ≡ record (news_of script Between w s place desk x) { serving = is_serving moment place }
news_same script moment w later s place desk x same =
    ap (λ (t : SetState). news_with t (freezes_to script later s x) (entry_of desk x) desk (is_at place x) (is_serving moment place)) (same.states x)
    ∙ ap (λ (l : List Notice). news_with (state_at w s x) l (entry_of desk x) desk (is_at place x) (is_serving moment place)) (freezes_same script w later s x same)

pub news_goes : (n : News) (serving : Bool) → NewsKept n → n.serving ≡ false → NewsKept (record n { serving = serving })
news_goes n true h between = begins_kept n h
news_goes n false h between = subst (λ (b : Bool). NewsKept (record n { serving = b })) between h

pub desk_same : (script : ScriptData) (w later : World) (s : ℕ) (place : Option ℕ) (desk : Desk) → SameSet script w later s → DeskIs script later s place desk → DeskIs script w s place desk
desk_same script w later s (Some t) desk same h = (h.0, ap (λ (u : SetState). u.desk) (sym (same.states t)) ∙ h.1)
desk_same script w later s None desk same h = (h.0, h.1, comes_same script w later s h.0 _ same.letters h.2)

parked_same : (script : ScriptData) (w later : World) (s x : ℕ) (item : Parked) → SameSet script w later s → IsParkedFor script w s x item → IsParkedFor script later s x item
parked_same script w later s x (ParkedTell tell) same h = (h.0, comes_same script later w s x _ (λ p q. sym (same.letters p q)) h.1)
parked_same script w later s x (ParkedAsk ask) same h = elim h [
  | inl comes ↦ inl (comes.0, comes_same script later w s x _ (λ p q. sym (same.letters p q)) comes.1)
  | inr behind ↦ inr (behind.0, subst (λ (t : SetState). Contains t.pending behind.0) (sym (same.states x)) behind.1, behind.2, behind.3)
]

goes_unfrozen : (moment : Moment) (x old new : ℕ) → Goes (is_moving moment x) old new → Goes (is_unfrozen moment x) old new
goes_unfrozen Between x old new h = h
goes_unfrozen (Acting q) x old new h = h
goes_unfrozen (Frozen q) x old new h = goes_on (x == q) old new h

-- what a node keeps stays sound as its clock goes on
sound_goes : (numbers : Numbers) (x : ℕ) (moving unfrozen : Bool) (old new : ℕ) (t : SetState) → Goes moving old new → Goes unfrozen old new
    → SoundSet numbers x false false old t → SoundSet numbers x moving unfrozen new t
sound_goes numbers x moving unfrozen old new t goes too h = record {
  rows = h.rows;
  rows_apart = h.rows_apart;
  pending = h.pending;
  one_ask = h.one_ask;
  stamps_apart = h.stamps_apart;
  made = All-weaker (λ (ask : Ask). ask.stamp.clock ≤ old) (λ (ask : Ask). ask.stamp.clock ≤ new)
      (λ ask no_later. omega (arith, no_later, goes_on moving old new goes)) t.pending h.made;
  here = h.here;
  apart = h.apart;
  desk = by_desk t.desk h.desk;
  epoch = no_later moving old new t.firm.epoch goes h.epoch;
  number = no_later unfrozen old new t.number too h.number;
  firm = h.firm;
  hoped = h.hoped;
  parked = h.parked;
}
  where
    charge : (m : Bool) → ChargeKept false (held_modes t.held) t.charge → ChargeKept m (held_modes t.held) t.charge
    charge true e = held_below_charge false (held_modes t.held) t.charge e
    charge false e = e

    by_desk : (o : Option Desk) → SoundDesk numbers false false old t o → SoundDesk numbers moving unfrozen new t o
    by_desk None e = charge moving e
    by_desk (Some desk) e = (e.0, no_later moving old new desk.epoch goes e.1, no_later unfrozen old new desk.number too e.2, e.3)

paths_same : (script : ScriptData) (w later : World) (s : ℕ) → SameSet script w later s → Paths script w s → Paths script later s
paths_same script w later s same h = record {
  went = subst (λ (l : List ℕ). All (λ x. x < script.nodes) l) (sym same.went) h.went;
  some = omega (arith, h.some, ap length same.went);
  states = λ x below.
      subst (λ (l : List ℕ). StateOnPath script.nodes l x (state_at later s x)) (sym same.went)
      (subst (λ (t : SetState). StateOnPath script.nodes (w.went s) x t) (sym (same.states x)) (h.states x below));
  beyond = λ x above. ap (λ (t : SetState). t.desk) (same.states x) ∙ h.beyond x above;
  letters = λ p q letter below on.
      subst (λ (l : List ℕ). LetterOnPath script.nodes l p q letter) (sym same.went)
      (h.letters p q letter below (on_way_same w later s p q letter (same.letters p q) on));
  one_token = same.weights (λ t. one_if (is_some t.desk)) tokens_in ∙ h.one_token;
}

places_same : (script : ScriptData) (w later : World) (s : ℕ) → SameSet script w later s → PlacesKept script w s → PlacesKept script later s
places_same script w later s same h = record {
  once = λ ask. same.weights (places_in_state ask) (places_in_body ask) ∙ h.once ask
      ∙ sum_below-same script.nodes (λ x. times_in ask (state_at w s x).pending) (λ x. times_in ask (state_at later s x).pending)
      (λ x below. ap (λ (t : SetState). times_in ask t.pending) (sym (same.states x)));
  home = λ x ask below comes. h.home x ask below (comes_same script w later s x _ same.letters comes);
}

-- accounts and news of a set of which nothing changes but that clocks go on
pub ledger_goes : (script : ScriptData) (moment : Moment) (w later : World) (s : ℕ) (place : Option ℕ) (desk : Desk) → SameSet script w later s
    → ((x : ℕ) → Goes (is_moving moment x) (w.node x).clock (later.node x).clock) → DeskKept script Between w s place desk → DeskKept script moment later s place desk
ledger_goes script moment w later s place desk same goes k = record {
  accounts = λ x below.
      subst AccountKept (sym (account_same script moment w later s place desk x same))
      (account_goes (account_of script Between w s place desk x) (is_moving moment x) (later.node x).clock (k.accounts x below) refl (goes x));
  clear = λ x y hx hy d.
      subst (λ (m : Modes). AreClear m (counted (account_of script moment later s place desk y))) (sym (ap counted (account_same script moment w later s place desk x same)))
      (subst (λ (m : Modes). AreClear (counted (account_of script Between w s place desk x)) m) (sym (ap counted (account_same script moment w later s place desk y same)))
      (k.clear x y hx hy d));
  news = λ x below.
      subst NewsKept (sym (news_same script moment w later s place desk x same))
      (news_goes (news_of script Between w s place desk x) (is_serving moment place) (k.news x below) refl);
}

-- the set stays kept, between moves or at the beginning of one
stays_kept : (script : ScriptData) (moment : Moment) (w later : World) (s : ℕ) → SameSet script w later s
    → ((x : ℕ) → Goes (is_moving moment x) (w.node x).clock (later.node x).clock) → SetKept script Between w s → SetKept script moment later s
stays_kept script moment w later s same goes h = record {
  paths = paths_same script w later s same h.paths;
  letters = λ p q letter hp hq on.
      let kept = h.letters p q letter hp hq (on_way_same w later s p q letter (same.letters p q) on) in
      record {
        clock = omega (arith, kept.clock, goes_on (is_moving moment p) (w.node p).clock (later.node p).clock (goes p));
        sender = kept.sender;
        epoch = kept.epoch;
        body = kept.body;
      };
  states = λ x below.
      subst (λ (t : SetState). SoundSet (numbers_of script) x (is_moving moment x) (is_unfrozen moment x) (later.node x).clock t) (sym (same.states x))
      (sound_goes (numbers_of script) x (is_moving moment x) (is_unfrozen moment x) (w.node x).clock (later.node x).clock (state_at w s x) (goes x)
      (goes_unfrozen moment x (w.node x).clock (later.node x).clock (goes x)) (h.states x below));
  places = places_same script w later s same h.places;
  parked = λ x below.
      subst (λ (t : SetState). All (IsParkedFor script later s x) t.parked) (sym (same.states x))
      (All-weaker (IsParkedFor script w s x) (IsParkedFor script later s x) (λ item. parked_same script w later s x item same) (state_at w s x).parked (h.parked x below));
  known = λ place desk is_desk. ledger_goes script moment w later s place desk same goes (h.known place desk (desk_same script w later s place desk same is_desk));
  served = λ t desk idle is_desk.
      subst (λ (u : SetState). (next_service t u ≡ None) × (next_draw t u ≡ None)) (sym (same.states t))
      (h.served t desk refl (desk_same script w later s (Some t) desk same is_desk));
}

-- a move that has begun has changed one clock
pub begun_state : (w : World) (q clock s x : ℕ) → state_at (begun w q clock) s x ≡ state_at w s x
begun_state w q clock s x = by_node (x == q) refl
  where
    by_node : (own : Bool) → (x == q) ≡ own → (if own then record (w.node q) { clock = clock } else w.node x).set s ≡ state_at w s x
    by_node true e = ap (λ (y : ℕ). state_at w s y) (sym (eqb-true x q e))
    by_node false e = refl

pub begun_goes : (w : World) (q clock x : ℕ) → (w.node q).clock < clock → Goes (x == q) (w.node x).clock ((begun w q clock).node x).clock
begun_goes w q clock x later = by_node (x == q) refl
  where
    by_node : (own : Bool) → (x == q) ≡ own → Goes own (w.node x).clock (if own then record (w.node q) { clock = clock } else w.node x).clock
    by_node true e = subst (λ (y : ℕ). (w.node y).clock < clock) (sym (eqb-true x q e)) later
    by_node false e = omega arith

pub move_begins : MoveBegins
move_begins script w s q clock h below later = (
  stays_kept script (Acting q) w (begun w q clock) s (same_set script w (begun w q clock) s (begun_state w q clock s) (λ a b. refl) refl) (λ x. begun_goes w q clock x later) h,
  record {
    asks = λ ask found. omega (arith, later, asked_by (desk_somewhere script w s h.paths) ask found);
    charge = λ away. charge_of (state_at w s q).desk away (h.states q below).desk;
  },
)
  where
    asked_by : (place : Option ℕ) × (desk : Desk) × DeskIs script w s place desk → (ask : Ask) → Contains (state_at w s q).pending ask → ask.stamp.clock ≤ (w.node q).clock
    asked_by found ask there = ((h.known found.0 found.1 found.2).accounts q below).clocks.asks ask there

    charge_of : (o : Option Desk) → o ≡ None → SoundDesk (numbers_of script) false false (w.node q).clock (state_at w s q) o
        → bars (held_modes (state_at w s q).held) ≡ bars (state_at w s q).charge
    charge_of None e sound = sound
    charge_of (Some desk) e sound = cc

pub aside_stays : AsideStays
aside_stays script w s q step h enabled aside =
    stays_kept script Between w (after script w q step) s (others_stay script w s q step aside) (λ x. clocks_grow script w q step x) h
