-- The lines of a rule tell what it changed in the rows.
use Rattle.lt_model.proofs.Voids.{local_by, copy_by, withdraws_ways}
use Rattle.std.proofs.Common.{◌≡◌, ◌≢◌, ℕ, ◌+◌, ◌-◌, ◌<◌, ◌≤◌, inl, inr, List, [], ◌∷◌, ◌++◌, length, map, Option, Some, None, Bool, true, false, refl, sym, ap, ◌∙◌, ◌⊎◌, ◌==◌, ◌&&◌, not, nat_lt, if◌then◌else◌, All, fold, slice_index_or, eq-eqb, ne_eqb, eqb-true}
use Rattle.std.proofs.lemmas.Bool.{and_left, and_right}
use Rattle.std.proofs.lemmas.List.Elements.{All-contains, Contains-get_or}
use Rattle.std.proofs.lemmas.List.Sums.{fold-append}
use Rattle.lt_modes.specs.declared.mode.Mode.{Mode}
use Rattle.lt_modes.specs.declared.stamp.Stamp.{Stamp}
use Rattle.lt_modes.specs.declared.ask.Ask.{Ask}
use Rattle.lt_modes.specs.declared.parts.Row.{Row}
use Rattle.lt_modes.specs.declared.parts.Hoped.{Hoped}
use Rattle.lt_modes.specs.declared.event.Event.{Event}
use Rattle.lt_modes.specs.declared.event.Event.TheVariants.{Grant, Change, Freeze}
use Rattle.lt_modes.specs.Modes.{Modes, same_mode, excludes_itself, no_row, add_lock, take_lock, held_modes}
use Rattle.lt_modes.specs.Script.{ScriptData}
use Rattle.lt_modes.specs.State.{SetState, Desk, Body, AskBody, TellBody, CopyBody, TokenBody, FreezeBody, Letter, Parked, ParkedAsk, ParkedTell, Made, silent, then_do, no_ask}
use Rattle.lt_modes.specs.Serving.{ask_at, queue_of, give_up, answered, answer_by, answer_event, serve_local, serve_copy, is_gone}
use Rattle.lt_modes.specs.HandingOver.{hand_over_to}
use Rattle.lt_modes.specs.Freezing.{freeze_at, frozen_by, targets}
use Rattle.lt_modes.specs.SetMove.{make_tell, finish, ask_of, withdrawn, withdraw}
use Rattle.lt_modes.specs.Routing.{Way, Parks, Goes, reversed, sent_on, route, learn}
use Rattle.lt_modes.specs.Telling.{tell_of}
use Rattle.lt_modes.specs.Taking.{take_body, take}
use Rattle.lt_spec.specs.NodeMove.{home}
use Rattle.lt_spec.specs.Holdings.{Holding, holding, same_holding}
use Rattle.lt_model.specs.Homes.{IsRowAtHome, IsAskAtHome, IsStateAtHome, IsBodyAtHome}
use Rattle.lt_model.proofs.Effects.{route_ways}
use Rattle.lt_model.proofs.TryEffects.{Between, EndRules, ActRules, finish_rule, take_rule}
use Rattle.lt_model.proofs.HomesEffects.{home_ends, home_acts, arrives_home}
use Rattle.lt_model.proofs.HomesRows.{at_home}
use Rattle.lt_law_accounts.proofs.RowTotals.{total, is_key, total_added, total_taken}
use Rattle.lt_law_lines.proofs.LineCounts.{count_after}

-- the lines count what the rows of the set count, and no other locks
pub record LinesFollow (script : ScriptData) (q set : ℕ) (held : List Row) (m : Made) : Type 0 where
  pub own : (c : ℕ) (mode : Mode) → total m.state.held c mode ≡ fold (count_after script (holding c set mode)) (total held c mode) m.events
  pub aside : (k : Holding) (n : ℕ) → (k.set ≢ set) ⊎ (home script k.client ≢ q) → fold (count_after script k) n m.events ≡ n

abbrev pub follows : ScriptData → ℕ → ℕ → Between
follows script q set t m = IsStateAtHome script q t → IsStateAtHome script q m.state × LinesFollow script q set t.held m

-- nothing is said and nothing changed
quiet : (script : ScriptData) (q set : ℕ) (t : SetState) (m : Made) → m.events ≡ [] → m.state.held ≡ t.held → LinesFollow script q set t.held m
quiet script q set t m none same = record {
  own = λ c mode. ap (λ (rows : List Row). total rows c mode) same ∙ ap (λ (l : List Event). fold (count_after script (holding c set mode)) (total t.held c mode) l) (sym none);
  aside = λ k n other. ap (λ (l : List Event). fold (count_after script k) n l) none;
}

pub key_is : (c client set : ℕ) (mode m : Mode) → same_holding (holding c set mode) (holding client set m) ≡ is_key c mode client m
key_is c client set mode m = ap (λ (b : Bool). c == client && (b && same_mode mode m)) (eq-eqb set set refl)

-- a lock of another set, or of a client of another node, is another one
other_key : (script : ScriptData) (q set client : ℕ) (mode : Mode) (k : Holding) → home script client ≡ q → (k.set ≢ set) ⊎ (home script k.client ≢ q)
    → same_holding k (holding client set mode) ≡ false
other_key script q set client mode k own (inl sets) = and_right (k.client == client) _ (and_left (k.set == set) (same_mode k.mode mode) (ne_eqb k.set set sets))
other_key script q set client mode k own (inr homes) = and_left (k.client == client) _ (ne_eqb k.client client (λ same. homes (ap (home script) same ∙ own)))

-- rows that hold some lock each
some_each : (script : ScriptData) (q : ℕ) (rows : List Row) → All (IsRowAtHome script q) rows → (k : ℕ) → k < length rows → 1 ≤ (slice_index_or rows k no_row).count
some_each script q rows h k within = (h k no_row within).count

-- a grant, and a change
pub grant_total : (script : ScriptData) (set client : ℕ) (mode : Mode) (rows : List Row) (c : ℕ) (m : Mode)
    → total (add_lock rows client mode) c m ≡ count_after script (holding c set m) (total rows c m) (Grant client set mode)
grant_total script set client mode rows c m =
    total_added rows client c mode m ∙ ap (λ (b : Bool). if b then total rows c m + 1 else total rows c m) (sym (key_is c client set m mode))

change_total : (script : ScriptData) (q set client : ℕ) (gives_up mode : Mode) (rows : List Row) → All (IsRowAtHome script q) rows → (c : ℕ) (m : Mode)
    → total (add_lock (take_lock rows client gives_up) client mode) c m ≡ count_after script (holding c set m) (total rows c m) (Change client set gives_up mode)
change_total script q set client gives_up mode rows h c m =
    total_added (take_lock rows client gives_up) client c mode m
    ∙ (λ i. if sym (key_is c client set m mode) i then taken i + 1 else taken i)
  where
    taken : total (take_lock rows client gives_up) c m ≡ (if same_holding (holding c set m) (holding client set gives_up) then total rows c m - 1 else total rows c m)
    taken = total_taken rows client c gives_up m (some_each script q rows h) ∙ ap (λ (b : Bool). if b then total rows c m - 1 else total rows c m) (sym (key_is c client set m gives_up))

answer_total : (script : ScriptData) (q set : ℕ) (ask : Ask) (rows : List Row) → All (IsRowAtHome script q) rows → (c : ℕ) (m : Mode)
    → total (answered rows ask) c m ≡ count_after script (holding c set m) (total rows c m) (answer_event set ask)
answer_total script q set ask rows h c m = by_choice ask.gives_up
  where
    by_choice : (o : Option Mode) → total (add_lock (give_up rows ask.client o) ask.client ask.mode) c m ≡ count_after script (holding c set m) (total rows c m) (answer_by set ask o)
    by_choice None = grant_total script set ask.client ask.mode rows c m
    by_choice (Some gives_up) = change_total script q set ask.client gives_up ask.mode rows h c m

grant_aside : (script : ScriptData) (q set client : ℕ) (mode : Mode) (k : Holding) (n : ℕ) → home script client ≡ q → (k.set ≢ set) ⊎ (home script k.client ≢ q)
    → count_after script k n (Grant client set mode) ≡ n
grant_aside script q set client mode k n own other = ap (λ (b : Bool). if b then n + 1 else n) (other_key script q set client mode k own other)

change_aside : (script : ScriptData) (q set client : ℕ) (gives_up mode : Mode) (k : Holding) (n : ℕ) → home script client ≡ q → (k.set ≢ set) ⊎ (home script k.client ≢ q)
    → count_after script k n (Change client set gives_up mode) ≡ n
change_aside script q set client gives_up mode k n own other =
    λ i. if other_key script q set client mode k own other i then (if other_key script q set client gives_up k own other i then n - 1 else n) + 1
    else (if other_key script q set client gives_up k own other i then n - 1 else n)

answer_aside : (script : ScriptData) (q set : ℕ) (ask : Ask) (k : Holding) (n : ℕ) → home script ask.client ≡ q → (k.set ≢ set) ⊎ (home script k.client ≢ q)
    → count_after script k n (answer_event set ask) ≡ n
answer_aside script q set ask k n own other = by_choice ask.gives_up
  where
    by_choice : (o : Option Mode) → count_after script k n (answer_by set ask o) ≡ n
    by_choice None = grant_aside script q set ask.client ask.mode k n own other
    by_choice (Some gives_up) = change_aside script q set ask.client gives_up ask.mode k n own other

joined_lines : (script : ScriptData) (q set : ℕ) (held : List Row) (m : Made) (rule : SetState → Made) → LinesFollow script q set held m → LinesFollow script q set m.state.held (rule m.state)
    → LinesFollow script q set held (then_do m rule)
joined_lines script q set held m rule first second = record {
  own = λ c mode. second.own c mode ∙ ap (λ (n : ℕ). fold (count_after script (holding c set mode)) n (rule m.state).events) (first.own c mode)
      ∙ sym (fold-append (count_after script (holding c set mode)) (total held c mode) m.events (rule m.state).events);
  aside = λ k n other. fold-append (count_after script k) n m.events (rule m.state).events
      ∙ ap (λ (x : ℕ). fold (count_after script k) x (rule m.state).events) (first.aside k n other) ∙ second.aside k n other;
}

joined : (script : ScriptData) (q set : ℕ) (t : SetState) (m : Made) (rule : SetState → Made) → follows script q set t m → follows script q set m.state (rule m.state) → follows script q set t (then_do m rule)
joined script q set t m rule first second h =
    let one = first h in
    let two = second one.0 in
    (two.0, joined_lines script q set t.held m rule one.1 two.1)

-- an ask or a tell that is routed says nothing
pub route_says : (set : ℕ) (stamp : Stamp) (marked : Bool) (item : Parked) (t : SetState) → ((route set stamp marked item t).events ≡ []) × ((route set stamp marked item t).state.held ≡ t.held)
route_says set stamp marked item t = route_ways (λ (m : Made). (m.events ≡ []) × (m.state.held ≡ t.held)) set stamp marked item t (λ desk e. (refl, refl)) (λ away w e. by_way w)
  where
    turned : (turns : Bool) (hoped : Option Hoped) → (if turns then record t { hoped = hoped } else t).held ≡ t.held
    turned true hoped = refl
    turned false hoped = refl

    by_item : (i : Parked) → (reversed stamp.node i t).held ≡ t.held
    by_item (ParkedTell tell) = refl
    by_item (ParkedAsk ask) = turned (excludes_itself ask.mode && not (ask.node == stamp.node)) (Some (record { node = ask.node; stamp = ask.stamp }))

    by_way : (w : Way) → ((sent_on set stamp item t w).events ≡ []) × ((sent_on set stamp item t w).state.held ≡ t.held)
    by_way Parks = (refl, refl)
    by_way (Goes to mark) = (refl, by_item item)

frozen_lines : (script : ScriptData) (set number : ℕ) (frozen : Modes) (k : Holding) (n : ℕ) (told : List ℕ) → fold (count_after script k) n (map (λ x. Freeze set x number frozen) told) ≡ n
frozen_lines script set number frozen k n [] = refl
frozen_lines script set number frozen k n (x ∷ rest) = frozen_lines script set number frozen k n rest

pub line_ends : (script : ScriptData) (set : ℕ) (stamp : Stamp) → set < length script.sets → stamp.node < script.nodes → EndRules set stamp (follows script stamp.node set)
line_ends script set stamp in_sets in_nodes = record {
  silent = λ t h. (h, quiet script stamp.node set t (silent t) refl refl);
  joined = joined script stamp.node set;
  serves = λ t k within h. ((homes.serves t k within h).state, served t k within h ((ask_at t k).node == stamp.node) refl);
  freezes = λ t h. ((homes.freezes t h).state, frozen t t.desk);
  leaves = λ t v h. ((homes.leaves t v h).state, left t v t.desk);
  tells = λ t h. (
    (homes.tells t h).state,
    let says = route_says set stamp false (ParkedTell (tell_of stamp t)) (record t { charge = held_modes t.held }) in
        quiet script stamp.node set t (make_tell set stamp t) says.0 says.1,
  );
}
  where
    homes : EndRules set stamp (at_home script 0 stamp.node)
    homes = home_ends script 0 set stamp in_sets in_nodes

    served : (t : SetState) (k : ℕ) → k < length (queue_of t) → IsStateAtHome script stamp.node t → (own : Bool) → ((ask_at t k).node == stamp.node) ≡ own
        → LinesFollow script stamp.node set t.held (if own then serve_local set k t else serve_copy set stamp k (ask_at t k) t)
    served t k within h true e =
        let ask = ask_at t k in
        let at_home = All-contains (IsAskAtHome script) (queue_of t) ask h.queue (Contains-get_or (queue_of t) k no_ask within) in
        by_gone ask at_home (is_gone t ask.client)
      where
        by_gone : (ask : Ask) → IsAskAtHome script ask → (gone : Bool) → LinesFollow script stamp.node set t.held (local_by set k t gone)
        by_gone ask at_home true = record { own = λ c mode. refl; aside = λ key n other. refl }
        by_gone ask at_home false = record {
          own = answer_total script stamp.node set (ask_at t k) t.held h.rows;
          aside = λ key n other. answer_aside script stamp.node set (ask_at t k) key n (own_home ∙ eqb-true (ask_at t k).node stamp.node e) other;
        }
          where
            own_home : home script (ask_at t k).client ≡ (ask_at t k).node
            own_home = (All-contains (IsAskAtHome script) (queue_of t) (ask_at t k) h.queue (Contains-get_or (queue_of t) k no_ask within)).home
    served t k within h false e = record { own = λ c mode. refl; aside = λ key n other. refl }

    frozen : (t : SetState) (o : Option Desk) → LinesFollow script stamp.node set t.held (freeze_at set stamp t o)
    frozen t None = quiet script stamp.node set t (silent t) refl refl
    frozen t (Some desk) = record {
      own = λ c mode. sym (frozen_lines script set _ _ (holding c set mode) (total t.held c mode) (targets stamp.node (frozen_by desk.queue) desk));
      aside = λ key n other. frozen_lines script set _ _ key n (targets stamp.node (frozen_by desk.queue) desk);
    }

    left : (t : SetState) (v : ℕ) (o : Option Desk) → LinesFollow script stamp.node set t.held (hand_over_to set stamp t v o)
    left t v None = quiet script stamp.node set t (silent t) refl refl
    left t v (Some desk) = record { own = λ c mode. refl; aside = λ key n other. refl }

pub line_acts : (script : ScriptData) (set : ℕ) (stamp : Stamp) (client : ℕ) → set < length script.sets → client < length script.clients → home script client ≡ stamp.node
    → stamp.node < script.nodes → ActRules set stamp client (follows script stamp.node set)
line_acts script set stamp client in_sets known own in_nodes = record {
  tries_not = λ mode t h. (h, record { own = λ c m. refl; aside = λ key n other. refl });
  holds_not = λ mode t h. (h, record { own = λ c m. refl; aside = λ key n other. refl });
  grants = λ mode t h. (
    (homes.grants mode t h).state,
    record {
      own = grant_total script set client mode t.held;
      aside = λ key n other. grant_aside script stamp.node set client mode key n own other;
    },
  );
  tries = λ mode t h. (
    (homes.tries mode t h).state,
    record {
      own = grant_total script set client mode t.held;
      aside = λ key n other. grant_aside script stamp.node set client mode key n own other;
    },
  );
  changes = λ gives_up mode t h. (
    (homes.changes gives_up mode t h).state,
    record {
      own = change_total script stamp.node set client gives_up mode t.held h.rows;
      aside = λ key n other. change_aside script stamp.node set client gives_up mode key n own other;
    },
  );
  releases = λ mode t h. (
    (homes.releases mode t h).state,
    record {
      own = λ c m. total_taken t.held client c mode m (some_each script stamp.node t.held h.rows)
          ∙ ap (λ (b : Bool). if b then total t.held c m - 1 else total t.held c m) (sym (key_is c client set m mode));
      aside = λ key n other. ap (λ (b : Bool). if b then n - 1 else n) (other_key script stamp.node set client mode key own other);
    },
  );
  asks = λ mode gives_up t h. (
    (homes.asks mode gives_up t h).state,
    let ask = ask_of stamp client mode gives_up t in
        let says = route_says set stamp false (ParkedAsk ask) (record t { pending = t.pending ++ ask ∷ [] }) in
        record {
          own = λ c m. ap (λ (rows : List Row). total rows c m) says.1 ∙ ap (λ (l : List Event). fold (count_after script (holding c set m)) (total t.held c m) l) (sym says.0);
          aside = λ key n other. ap (λ (l : List Event). fold (count_after script key) n l) says.0;
        },
  );
  retakes = λ mode t h. ((homes.retakes mode t h).state, record { own = λ c m. refl; aside = λ key n other. refl });
  withheld = λ mode t h. (h, record { own = λ c m. refl; aside = λ key n other. refl });
  ended = λ t m a. joined script stamp.node set t m (finish set stamp) a (finish_rule set stamp (follows script stamp.node set) (line_ends script set stamp in_sets in_nodes) m.state);
}
  where
    homes : ActRules set stamp client (at_home script 0 stamp.node)
    homes = home_acts script 0 set stamp client in_sets known own in_nodes

pub finish_lines : (script : ScriptData) (set : ℕ) (stamp : Stamp) → set < length script.sets → stamp.node < script.nodes → (t : SetState) → follows script stamp.node set t (finish set stamp t)
finish_lines script set stamp in_sets in_nodes t = finish_rule set stamp (follows script stamp.node set) (line_ends script set stamp in_sets in_nodes) t

pub withdraw_lines : (script : ScriptData) (set : ℕ) (stamp : Stamp) (client other : ℕ) → set < length script.sets → stamp.node < script.nodes → (t : SetState)
    → follows script stamp.node set t (withdraw set stamp client other t)
withdraw_lines script set stamp client other in_sets in_nodes t =
    joined script stamp.node set t (withdrawn set client other t) (finish set stamp)
    (λ h. withdraws_ways (λ (m : Made). IsStateAtHome script stamp.node m.state × LinesFollow script stamp.node set t.held m) set client other t
    (λ waiting. (record { rows = h.rows; pending = h.pending; parked = h.parked; queue = h.queue }, record { own = λ c m. refl; aside = λ key n away. refl }))
    (λ idle. (h, record { own = λ c m. refl; aside = λ key n away. refl })))
    (finish_lines script set stamp in_sets in_nodes (withdrawn set client other t).state)

pub take_lines : (script : ScriptData) (stamp : Stamp) (letter : Letter) → letter.set < length script.sets → IsBodyAtHome script stamp.node letter.body → stamp.node < script.nodes
    → (t : SetState) → follows script stamp.node letter.set t (take stamp letter t)
take_lines script stamp letter in_sets own in_nodes t =
    take_rule stamp letter (follows script stamp.node letter.set) (follows script stamp.node letter.set)
    (λ u m. joined script stamp.node letter.set u m (finish letter.set stamp)) (line_ends script letter.set stamp in_sets in_nodes) t
    (λ h. ((arrives_home script 0 stamp letter in_sets own t h).state, arrived (learnt (nat_lt t.firm.epoch letter.link.epoch)) letter.body own h))
  where
    learnt : (newer : Bool) → (if newer then record t { firm = letter.link; hoped = None } else t).held ≡ t.held
    learnt true = refl
    learnt false = refl

    u : SetState
    u = learn letter.link t

    arrived : u.held ≡ t.held → (body : Body) → IsBodyAtHome script stamp.node body → IsStateAtHome script stamp.node t → LinesFollow script stamp.node letter.set t.held (take_body letter.set stamp body u)
    arrived same (AskBody ask marked) b h = let says = route_says letter.set stamp marked (ParkedAsk ask) u in quiet script stamp.node letter.set t (take_body letter.set stamp (AskBody ask marked) u) says.0 (says.1 ∙ same)
    arrived same (TellBody tell) b h = let says = route_says letter.set stamp false (ParkedTell tell) u in quiet script stamp.node letter.set t (take_body letter.set stamp (TellBody tell) u) says.0 (says.1 ∙ same)
    arrived same (CopyBody ask) b h = by_gone (is_gone u ask.client)
      where
        by_gone : (gone : Bool) → LinesFollow script stamp.node letter.set t.held (copy_by letter.set ask u gone)
        by_gone true = record { own = λ c m. ap (λ (rows : List Row). total rows c m) same; aside = λ key n other. refl }
        by_gone false = record {
          own = λ c m. ap (λ (rows : List Row). total (answered rows ask) c m) same ∙ answer_total script stamp.node letter.set ask t.held h.rows c m;
          aside = λ key n other. answer_aside script stamp.node letter.set ask key n (b.0.home ∙ b.1) other;
        }
    arrived same (TokenBody desk) b h = quiet script stamp.node letter.set t (take_body letter.set stamp (TokenBody desk) u) refl same
    arrived same (FreezeBody number modes) b h = by_test (nat_lt u.number number)
      where
        by_test : (newer : Bool) → LinesFollow script stamp.node letter.set t.held (silent (if newer then record u { frozen = modes; number = number } else u))
        by_test true = quiet script stamp.node letter.set t (silent (record u { frozen = modes; number = number })) refl same
        by_test false = quiet script stamp.node letter.set t (silent u) refl same
