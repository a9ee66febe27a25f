-- The start of each script has the invariant.
use Rattle.lt_law_accounts.proofs.AccountTells.{empty_account, empty_is_kept}
use Rattle.lt_modes.proofs.ModeAlgebra.{none_in_none, bars_of_none}
use Rattle.lt_lists.proofs.Sums.{sum_below-none, sum_first}
use Rattle.lt_lists.proofs.Gathering.{gather_none}
use Rattle.std.proofs.lemmas.List.Elements.{All-nil}
use Rattle.lt_lists.proofs.Members.{none_in}
use Rattle.std.proofs.Common.{◌≡◌, ◌≢◌, ℕ, zero, suc, ◌<◌, inl, inr, List, [], ◌∷◌, ◌++◌, length, Option, Some, None, Bool, true, false, refl, sym, ap, subst, arith, ◌∙◌, ◌==◌, if◌then◌else◌, IfSome, IsTrue, is_some, slice_index_or, unwrap_or, ne_eqb, eqb-true, append-nil, filter_map}
use Rattle.std.proofs.lemmas.List.{length-replicate, get_or-replicate}
use Rattle.lt_modes.specs.declared.ask.Ask.{Ask}
use Rattle.lt_modes.specs.Modes.{Modes, no_modes, has, bars}
use Rattle.lt_modes.specs.Script.{ScriptData}
use Rattle.lt_modes.specs.State.{SetState, Desk, Entry, Tell, Body, first_state, first_desk, first_entry, entry_of, record_of, times_in}
use Rattle.lt_modes.specs.Serving.{next_service}
use Rattle.lt_modes.specs.HandingOver.{next_draw}
use Rattle.lt_modes.specs.Fits.{Numbers, numbers_of}
use Rattle.lt_modes.specs.Sound.{SoundSet}
use Rattle.lt_lists.specs.Below.{sum_below, gather_below, one_if}
use Rattle.lt_spec.specs.World.{start}
use Rattle.lt_model.specs.OnWay.{Between, is_at, in_set, tell_in, tell_parked, copy_in, freeze_in, tells_of, copies_to, freezes_to, account_of, news_of}
use Rattle.lt_spec.specs.Facts.{Comes, DeskIs, state_at, places_in_state, place_count}
use Rattle.lt_law_accounts.specs.Account.{Account, AccountKept, counted}
use Rattle.lt_law_accounts.specs.News.{News, Notice, NewsKept}
use Rattle.lt_model.specs.Invariant.{DeskKept, SetKept, WorldInvariant, LinesKept, HasWay, Paths, ClientsKept}
use Rattle.lt_modes.specs.declared.parts.Hoped.{Hoped}

-- what a node keeps at the start, with the desk or without
abbrev state_if : ℕ → Bool → SetState
state_if nodes here = record (first_state nodes 0) { desk = if here then Some (first_desk nodes) else None }

sound_if : (numbers : Numbers) (q : ℕ) (here : Bool) → 0 < numbers.nodes → SoundSet numbers q false false 0 (state_if numbers.nodes here)
sound_if numbers q true h = record {
  rows = All-nil _;
  rows_apart = λ i j d before below. absurd (omega (arith, below));
  pending = All-nil _;
  one_ask = λ i j d before below. absurd (omega (arith, below));
  stamps_apart = λ i j d before below. absurd (omega (arith, below));
  made = All-nil _;
  here = All-nil _;
  apart = refl;
  desk = (refl, omega arith, omega arith, length-replicate numbers.nodes _);
  epoch = omega arith;
  number = omega arith;
  firm = h;
  hoped = tt;
  parked = All-nil _;
}
sound_if numbers q false h = record {
  rows = All-nil _;
  rows_apart = λ i j d before below. absurd (omega (arith, below));
  pending = All-nil _;
  one_ask = λ i j d before below. absurd (omega (arith, below));
  stamps_apart = λ i j d before below. absurd (omega (arith, below));
  made = All-nil _;
  here = All-nil _;
  apart = refl;
  desk = refl;
  epoch = omega arith;
  number = omega arith;
  firm = h;
  hoped = tt;
  parked = All-nil _;
}

clients_start : (script : ScriptData) (q : ℕ) → ClientsKept script ((start script).node q)
clients_start script q = record {
  one_ask = λ client. omega (arith, sum_below-none (length script.sets) (λ k. 0) (λ k below. refl));
  counts = λ client. omega (arith, sum_below-none (length script.sets) (λ k. 0) (λ k below. refl));
}

no_comes : {A : Type 0} (script : ScriptData) (s q : ℕ) (body : Body) → Comes script (start script) s q body → A
no_comes script s q body h = none_in h.1 h.3.among

no_tells : (script : ScriptData) (s x : ℕ) → tells_of script (start script) s x ≡ []
no_tells script s x =
    let parked = gather_none script.nodes (λ q. filter_map (tell_parked x) (state_at (start script) s q).parked) (λ q. refl) in
    ap (λ (l : List Tell). gather_below script.nodes (λ p. gather_below script.nodes (λ q. filter_map (in_set s (tell_in x)) ((start script).mail p q))) ++ l) parked
    ∙ append-nil (gather_below script.nodes (λ p. gather_below script.nodes (λ q. filter_map (in_set s (tell_in x)) ((start script).mail p q))))
    ∙ gather_none script.nodes (λ p. gather_below script.nodes (λ q. filter_map (in_set s (tell_in x)) ((start script).mail p q)))
    (λ p. gather_none script.nodes (λ q. filter_map (in_set s (tell_in x)) ((start script).mail p q)) (λ q. refl))

no_copies : (script : ScriptData) (s x : ℕ) → copies_to script (start script) s x ≡ []
no_copies script s x = gather_none script.nodes (λ p. filter_map (in_set s copy_in) ((start script).mail p x)) (λ p. refl)

no_freezes : (script : ScriptData) (s x : ℕ) → freezes_to script (start script) s x ≡ []
no_freezes script s x = gather_none script.nodes (λ p. filter_map (in_set s freeze_in) ((start script).mail p x)) (λ p. refl)

entry_first : (nodes x : ℕ) → x < nodes → entry_of (first_desk nodes) x ≡ first_entry
entry_first nodes x h = get_or-replicate nodes x first_entry first_entry h

desk_if : (nodes : ℕ) (here : Bool) (desk : Desk) → (state_if nodes here).desk ≡ Some desk → desk ≡ first_desk nodes
desk_if nodes true desk e = ap (λ (o : Option Desk). unwrap_or o desk) (sym e)
desk_if nodes false desk e = cc

desk_first : (script : ScriptData) (s : ℕ) (place : Option ℕ) (desk : Desk) → DeskIs script (start script) s place desk → desk ≡ first_desk script.nodes
desk_first script s (Some t) desk h = desk_if script.nodes (t == 0) desk h.1
desk_first script s None desk h = no_comes script s h.0 _ h.2

pub served_if : (nodes t : ℕ) (here : Bool) → (next_service t (state_if nodes here) ≡ None) × (next_draw t (state_if nodes here) ≡ None)
served_if nodes t true = (refl, refl)
served_if nodes t false = (refl, refl)

-- an account by what is gathered for it
abbrev account_by : ℕ → Bool → Entry → List Tell → List Ask → Account
account_by clock here entry tells copies = record {
  clock = clock;
  held = [];
  charge = no_modes;
  pending = [];
  entry = entry;
  tells = tells;
  copies = copies;
  here = here;
  moving = false;
}

account_start : (script : ScriptData) (s : ℕ) (place : Option ℕ) (x : ℕ) → x < script.nodes
    → account_of script Between (start script) s place (first_desk script.nodes) x ≡ empty_account 0 (is_at place x)
account_start script s place x h =
    ap (λ (e : Entry). account_by 0 (is_at place x) e (tells_of script (start script) s x) (copies_to script (start script) s x)) (entry_first script.nodes x h)
    ∙ ap (λ (t : List Tell). account_by 0 (is_at place x) first_entry t (copies_to script (start script) s x)) (no_tells script s x)
    ∙ ap (λ (c : List Ask). account_by 0 (is_at place x) first_entry [] c) (no_copies script s x)

abbrev news_wanting : Modes → Bool → Entry → List Notice → News
news_wanting wanted here entry coming = record {
  number = 0;
  frozen = no_modes;
  coming = coming;
  recorded = record_of entry;
  told = entry.frozen_told;
  last = 0;
  wanted = wanted;
  here = here;
  serving = false;
}

abbrev news_by : Bool → Entry → List Notice → News
news_by here entry coming = news_wanting no_modes here entry coming

news_start : (script : ScriptData) (s : ℕ) (place : Option ℕ) (x : ℕ) → x < script.nodes
    → news_of script Between (start script) s place (first_desk script.nodes) x ≡ news_by (is_at place x) first_entry []
news_start script s place x h =
    ap (λ (e : Entry). news_wanting (bars no_modes) (is_at place x) e (freezes_to script (start script) s x)) (entry_first script.nodes x h)
    ∙ ap (λ (c : List Notice). news_wanting (bars no_modes) (is_at place x) first_entry c) (no_freezes script s x)
    ∙ ap (λ (w : Modes). news_wanting w (is_at place x) first_entry []) bars_of_none

news_first : (here : Bool) → NewsKept (news_by here first_entry [])
news_first here = record {
  kept = omega arith;
  sent = λ notice h. none_in notice h;
  here = λ at between. (refl, refl);
  last_notice = λ away notice last. elim last.0 [
    | inl own ↦ ap (λ (x : Notice). x.modes) own
    | inr coming ↦ none_in notice coming.0
  ];
  told = λ away between some. refl;
}

counted_first : (clock : ℕ) (here : Bool) → counted (empty_account clock here) ≡ no_modes
counted_first clock true = refl
counted_first clock false = refl

desk_kept : (script : ScriptData) (s : ℕ) (place : Option ℕ) → DeskKept script Between (start script) s place (first_desk script.nodes)
desk_kept script s place = record {
  accounts = λ x h. subst AccountKept (sym (account_start script s place x h)) (empty_is_kept 0 (is_at place x));
  clear = λ x y hx hy d mode member.
      none_in_none mode (subst (λ (modes : Modes). IsTrue (has mode modes)) (ap counted (account_start script s place x hx) ∙ counted_first 0 (is_at place x)) member);
  news = λ x h. subst NewsKept (sym (news_start script s place x h)) (news_first (is_at place x));
}

sum_tokens : (n nodes : ℕ) → 0 < n → sum_below n (λ q. one_if (is_some (state_if nodes (q == 0)).desk)) ≡ 1
sum_tokens zero nodes h = absurd (omega (arith, h))
sum_tokens (suc n) nodes h = sum_first n (λ q. one_if (is_some (state_if nodes (q == 0)).desk)) refl (λ k.
    ap (λ (b : Bool). one_if (is_some (state_if nodes b).desk)) (ne_eqb (suc k) 0 (λ e. omega (arith, e))))

letters_zero : (n : ℕ) → sum_below n (λ p. sum_below n (λ q. 0)) ≡ 0
letters_zero n = sum_below-none n (λ p. sum_below n (λ q. 0)) (λ p below. sum_below-none n (λ q. 0) (λ q under. refl))

places_if : (ask : Ask) (nodes : ℕ) (here : Bool) → places_in_state ask (state_if nodes here) ≡ 0
places_if ask nodes true = refl
places_if ask nodes false = refl

pub places_start : (script : ScriptData) (s : ℕ) (ask : Ask)
    → place_count script (start script) s ask ≡ sum_below script.nodes (λ x. times_in ask (state_at (start script) s x).pending)
places_start script s ask = omega (
  arith,
  sum_below-none script.nodes (λ q. places_in_state ask (state_if script.nodes (q == 0))) (λ q below. places_if ask script.nodes (q == 0)),
  sum_below-none script.nodes (λ q. 0) (λ q below. refl),
  letters_zero script.nodes,
)

way_start : (nodes x : ℕ) (here : Bool) → (x == 0) ≡ here → HasWay nodes (0 ∷ []) x (record { node = 0; epoch = 0 }) (state_if nodes here).desk
way_start nodes x true e = (
  record {
    epoch = refl;
    node = sym (eqb-true x 0 e);
    entries = length-replicate nodes _;
    queue = All-nil _;
  },
  sym (eqb-true x 0 e),
  refl,
)
way_start nodes x false e = λ epoch below node. inr (omega (arith, below))

hoped_start : (nodes x : ℕ) (here : Bool) → IfSome (state_if nodes here).hoped (λ (link : Hoped). (link.node < nodes) × (link.node ≢ x))
hoped_start nodes x here = tt

pub paths_start : (script : ScriptData) (s : ℕ) → 0 < script.nodes → Paths script (start script) s
paths_start script s some = record {
  went = λ k d below. went_all k d below;
  some = omega arith;
  states = λ x below. record {
    link = record { epoch = omega arith; node = refl };
    way = way_start script.nodes x (x == 0) refl;
    hoped = hoped_start script.nodes x (x == 0);
    parked = All-nil _;
  };
  beyond = λ x above. ap (λ (here : Bool). (state_if script.nodes here).desk) (ne_eqb x 0 (λ e. omega (arith, e, above, some)));
  letters = λ p q letter below on. none_in letter on.among;
  one_token = omega (arith, sum_tokens script.nodes script.nodes some, letters_zero script.nodes);
}
  where
    went_all : (k d : ℕ) → k < length {A = ℕ} (0 ∷ []) → slice_index_or (0 ∷ []) k d < script.nodes
    went_all zero d below = some
    went_all (suc k) d below = absurd (omega (arith, below))

set_start : (script : ScriptData) (s : ℕ) → 0 < script.nodes → SetKept script Between (start script) s
set_start script s some = record {
  paths = paths_start script s some;
  letters = λ p q letter hp hq on. none_in letter on.among;
  states = λ x h. sound_if (numbers_of script) x (x == 0) some;
  places = record { once = λ ask. places_start script s ask; home = λ x ask h c. no_comes script s x _ c };
  parked = λ x h. All-nil _;
  known = λ place desk h.
      subst (λ (d : Desk). DeskKept script Between (start script) s place d) (sym (desk_first script s place desk h)) (desk_kept script s place);
  served = λ t desk between h. served_if script.nodes t (t == 0);
}

pub start_kept : (script : ScriptData) → 0 < script.nodes → WorldInvariant script (start script)
start_kept script some = record {
  clients = λ q h. clients_start script q;
  letters = λ p q hp hq. All-nil _;
  none_to_itself = λ q h. refl;
  sets = λ s h. set_start script s some;
}

-- before any line nothing is held, and nobody waits
pub lines_start : (script : ScriptData) → LinesKept script [] (start script)
lines_start script = record {
  named = λ lock h. none_in lock h;
  held = λ client s mode hc hs. refl;
  waits = λ client s mode hc hs. ((λ e. cc), (λ waits. none_in waits.0 waits.1));
}
