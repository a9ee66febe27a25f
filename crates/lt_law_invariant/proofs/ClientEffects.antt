-- What clients hold and wait for in a set, through answers and the end of a move.
use Rattle.std.proofs.lemmas.List.Sums.{sum_by-le-sum_by}
use Rattle.lt_modes.specs.declared.parts.Hoped.{Hoped}
use Rattle.lt_model.specs.Invariant.{is_live}
use Rattle.std.specs.List.{list_any}
use Rattle.std.specs.Prelude.{not, filter, ◌||◌, [], ◌∷◌, ◌<◌}
use Rattle.std.proofs.Common.{◌≡◌, ◌≢◌, ℕ, ◌+◌, ◌-◌, ◌≤◌, inl, inr, List, Option, Some, None, Bool, true, false, refl, sym, ap, subst, arith, ◌∙◌, ◌==◌, ◌&&◌, if◌then◌else◌, Contains, AllPairs, count_by, slice_index_or, is_none, eq-eqb, ne_eqb, eqb-true}
use Rattle.std.proofs.lemmas.Bool.{cases_eq, and_left}
use Rattle.std.proofs.lemmas.List.{get_or_default}
use Rattle.std.proofs.lemmas.List.Elements.{Contains-get_or}
use Rattle.lt_modes.specs.declared.mode.Mode.{Mode}
use Rattle.lt_modes.specs.declared.stamp.Stamp.{Stamp}
use Rattle.lt_modes.specs.declared.ask.Ask.{Ask}
use Rattle.lt_modes.specs.declared.parts.Row.{Row}
use Rattle.lt_modes.specs.Modes.{same_mode, add_lock, take_lock, locks_of, held_modes, excludes_itself}
use Rattle.lt_modes.specs.State.{SetState, Desk, ParkedTell, Post, no_ask, without, Made, Parked, ParkedAsk}
use Rattle.lt_modes.specs.Serving.{ask_at, queue_of, next_service, give_up, answered, serve_local, serve_copy, is_gone, rows_after, without_gone as left_gone}
use Rattle.lt_modes.specs.HandingOver.{hand_over_to}
use Rattle.lt_modes.specs.Freezing.{freeze_at}
use Rattle.lt_modes.specs.SetMove.{make_tell}
use Rattle.lt_modes.specs.Telling.{tell_of}
use Rattle.lt_modes.specs.Routing.{Way, Parks, Goes, reversed, sent_on, route}
use Rattle.lt_law_accounts.proofs.Asks.{times_in-some, without_only, without_gone}
use Rattle.lt_model.proofs.Effects.{Fact, EndEffects, next_service-within, both, route_ways}
use Rattle.lt_model.proofs.StandingEffects.{standing_ends, found_here}
use Rattle.lt_model.proofs.SentInMove.{Stands, stands}
use Rattle.lt_law_invariant.proofs.OwnSteps.{route_same}
use Rattle.lt_lists.proofs.Sums.{counted_twice, sum_by-zero}
use Rattle.lt_law_accounts.proofs.RowTotals.{total, total_added, total_taken}
use Rattle.lt_law_invariant.proofs.ClientCounts.{SomeEach, each_some, some_added, some_taken, locks_added, locks_taken, locks_fewer, asks_without}

-- the asks of a client, and those that give up no mode
abbrev pub is_asks : ℕ → Ask → Bool
is_asks client ask = ask.client == client

-- those that weren't given up, by whether the client's ask was
abbrev pub live_by : Bool → ℕ → Ask → Bool
live_by gone client ask = not gone && ask.client == client

abbrev pub new_by : Bool → ℕ → Ask → Bool
new_by gone client ask = live_by gone client ask && is_none ask.gives_up

none_counted : (asks : List Ask) → count_by (λ (ask : Ask). false) asks ≡ 0
none_counted asks = sum_by-zero (λ (ask : Ask). 0) asks (λ i d within. refl)

pub live_fewer : (gone : Bool) (c : ℕ) (asks : List Ask) → count_by (live_by gone c) asks ≤ count_by (is_asks c) asks
live_fewer true c asks = let none : count_by (live_by true c) asks ≡ 0 = none_counted asks in omega (arith, none)
live_fewer false c asks = let same : count_by (live_by false c) asks ≡ count_by (is_asks c) asks = refl in omega (arith, same)

pub new_fewer : (gone : Bool) (c : ℕ) (asks : List Ask) → count_by (new_by gone c) asks ≤ count_by (is_asks c) asks
new_fewer true c asks = let none : count_by (new_by true c) asks ≡ 0 = none_counted asks in omega (arith, none)
new_fewer false c asks =
    sum_by-le-sum_by (λ (a : Ask). if new_by false c a then 1 else 0) (λ (a : Ask). if is_asks c a then 1 else 0) asks (λ a. by_own (a.client == c) (is_none a.gives_up))
  where
    by_own : (own new : Bool) → (if own && new then 1 else 0) ≤ (if own then 1 else 0)
    by_own true true = omega arith
    by_own true false = omega arith
    by_own false new = omega arith

pub live_less : (more gone : Bool) (c : ℕ) (asks : List Ask) → count_by (live_by (more || gone) c) asks ≤ count_by (live_by gone c) asks
live_less true gone c asks = let none : count_by (live_by true c) asks ≡ 0 = none_counted asks in omega (arith, none)
live_less false gone c asks = let same : count_by (live_by (false || gone) c) asks ≡ count_by (live_by gone c) asks = refl in omega (arith, same)

pub new_less : (more gone : Bool) (c : ℕ) (asks : List Ask) → count_by (new_by (more || gone) c) asks ≤ count_by (new_by gone c) asks
new_less true gone c asks = let none : count_by (new_by true c) asks ≡ 0 = none_counted asks in omega (arith, none)
new_less false gone c asks = let same : count_by (new_by (false || gone) c) asks ≡ count_by (new_by gone c) asks = refl in omega (arith, same)

-- the marks of the others stay
pub gone_same : (gone : List ℕ) (client c : ℕ) → c ≢ client → list_any (λ other. other == c) (left_gone gone client) ≡ list_any (λ other. other == c) gone
gone_same [] client c d = refl
gone_same (x ∷ rest) client c d = by_test (x == client) refl (gone_same rest client c d)
  where
    by_test : (own : Bool) → (x == client) ≡ own → list_any (λ other. other == c) (left_gone rest client) ≡ list_any (λ other. other == c) rest
        → list_any (λ other. other == c) (if not own then x ∷ left_gone rest client else left_gone rest client) ≡ ((x == c) || list_any (λ other. other == c) rest)
    by_test true e again = again ∙ sym (ap (λ (b : Bool). b || list_any (λ other. other == c) rest) (ne_eqb x c (λ f. d (sym f ∙ eqb-true x client e))))
    by_test false e again = ap (λ (b : Bool). (x == c) || b) again

-- routing leaves them
pub route_gone : (set : ℕ) (stamp : Stamp) (marked : Bool) (item : Parked) (t : SetState) → (route set stamp marked item t).state.gone ≡ t.gone
route_gone set stamp marked item t = route_ways (λ (m : Made). m.state.gone ≡ t.gone) set stamp marked item t (λ desk e. refl) (λ away w e. by_way w)
  where
    turned : (turns : Bool) (hoped : Option Hoped) → (if turns then record t { hoped = hoped } else t).gone ≡ t.gone
    turned true hoped = refl
    turned false hoped = refl

    by_item : (i : Parked) → (reversed stamp.node i t).gone ≡ t.gone
    by_item (ParkedTell tell) = refl
    by_item (ParkedAsk ask) = turned (excludes_itself ask.mode && not (ask.node == stamp.node)) (Some (record { node = ask.node; stamp = ask.stamp }))

    by_way : (w : Way) → (sent_on set stamp item t w).state.gone ≡ t.gone
    by_way Parks = refl
    by_way (Goes to mark) = by_item item

-- what the ask gives up is held
abbrev pub GivenBy : List Row → ℕ → Option Mode → Type 0
GivenBy held client None = Unit {0}
GivenBy held client (Some mode) = 1 ≤ total held client mode

-- since the state at the beginning, clients have no more live asks, nor more locks with new ones, but for these; and one ask each, live or not
pub record Clients (bonus : ℕ → ℕ) (first t : SetState) : Type 0 where
  pub asks : (c : ℕ) → count_by (live_by (is_gone t c) c) t.pending ≤ count_by (live_by (is_gone first c) c) first.pending + bonus c
  pub counts : (c : ℕ) → locks_of t.held c + count_by (new_by (is_gone t c) c) t.pending ≤ locks_of first.held c + count_by (new_by (is_gone first c) c) first.pending + bonus c
  pub one : (c : ℕ) → count_by (is_asks c) t.pending ≤ 1
  pub gives : (ask : Ask) → Contains t.pending ask → is_gone t ask.client ≡ false → GivenBy t.held ask.client ask.gives_up
  pub some : SomeEach t.held

abbrev pub clients : (ℕ → ℕ) → SetState → Fact
clients bonus first t posts = Clients bonus first t

-- rows, asks and marks as they were
pub same_clients : (bonus : ℕ → ℕ) (first t u : SetState) → u.held ≡ t.held → u.pending ≡ t.pending → u.gone ≡ t.gone → Clients bonus first t → Clients bonus first u
same_clients bonus first t u held pending gone h = record { asks = all.asks; counts = all.counts; one = all.one; gives = all.gives; some = all.some }
  where
    rows : Clients bonus first (record t { held = u.held })
    rows = subst (λ (r : List Row). Clients bonus first (record t { held = r })) (sym held) h

    asks : Clients bonus first (record t { held = u.held; pending = u.pending })
    asks = subst (λ (l : List Ask). Clients bonus first (record t { held = u.held; pending = l })) (sym pending) rows

    all : Clients bonus first (record t { held = u.held; pending = u.pending; gone = u.gone })
    all = subst (λ (g : List ℕ). Clients bonus first (record t { held = u.held; pending = u.pending; gone = g })) (sym gone) asks

-- two of one client are one
pub one_of_client : (asks : List Ask) (a b : Ask) → count_by (is_asks a.client) asks ≤ 1 → Contains asks a → Contains asks b → b.client ≡ a.client → a ≡ b
one_of_client asks a b few ha hb same = elim (cases_eq ha.0 hb.0) [
  | inl places ↦ sym ha.2 ∙ get_or_default asks ha.0 a b ha.1 ∙ ap (λ (k : ℕ). slice_index_or asks k b) places ∙ hb.2
  | inr apart ↦
      let two = counted_twice (is_asks a.client) asks ha.0 hb.0 a apart ha.1 hb.1 (ap (is_asks a.client) ha.2 ∙ eq-eqb a.client a.client refl)
      (ap (is_asks a.client) (get_or_default asks hb.0 a b hb.1 ∙ hb.2) ∙ eq-eqb b.client a.client same) in
      absurd (omega (arith, two, few))
]

-- what another client gives up is held still
pub others_given : (rows : List Row) (client c : ℕ) (mode : Mode) (gives_up : Option Mode) (o : Option Mode) → SomeEach rows → c ≢ client → GivenBy rows c o
    → GivenBy (add_lock (give_up rows client gives_up) client mode) c o
others_given rows client c mode gives_up None some d h = tt
others_given rows client c mode gives_up (Some m) some d h = by_choice gives_up
  where
    kept : (xs : List Row) → total (add_lock xs client mode) c m ≡ total xs c m
    kept xs =
        total_added xs client c mode m ∙ ap (λ (b : Bool). if b then total xs c m + 1 else total xs c m)
        (and_left (c == client) (same_mode m mode) (ne_eqb c client d))

    by_choice : (g : Option Mode) → 1 ≤ total (add_lock (give_up rows client g) client mode) c m
    by_choice None = omega (arith, h, kept rows)
    by_choice (Some g) = omega (
      arith,
      h,
      kept (take_lock rows client g),
      total_taken rows client c g m (each_some rows some) ∙ ap (λ (b : Bool). if b then total rows c m - 1 else total rows c m)
          (and_left (c == client) (same_mode m g) (ne_eqb c client d)),
    )

pub some_given : (rows : List Row) (client : ℕ) (mode : Mode) (gives_up : Option Mode) → SomeEach rows → SomeEach (add_lock (give_up rows client gives_up) client mode)
some_given rows client mode None some = some_added rows client mode some
some_given rows client mode (Some g) some = some_added (take_lock rows client g) client mode (some_taken rows client g some)

-- an ask is answered, or void where it was given up
pub answers_kept : (bonus : ℕ → ℕ) (first t u : SetState) (a : Ask) → Clients bonus first t → Contains t.pending a → AllPairs (λ (x y : Ask). x.stamp ≢ y.stamp) t.pending
    → u.held ≡ rows_after t a → u.pending ≡ without t.pending a.stamp → u.gone ≡ left_gone t.gone a.client → Clients bonus first u
answers_kept bonus first t u a h there apart held pending gone =
    same_clients bonus first (record t { held = rows_after t a; pending = without t.pending a.stamp; gone = left_gone t.gone a.client }) u held pending gone
    (by_gone (is_gone t a.client) refl)
  where
    left : List Ask
    left = without t.pending a.stamp

    gone_left : ℕ → Bool
    gone_left c = list_any (λ other. other == c) (left_gone t.gone a.client)

    others : (b : Ask) → Contains left b → b.client ≢ a.client
    others b found same = without_gone t.pending a apart there
        (subst (Contains left) (sym (one_of_client t.pending a b (h.one a.client) there (without_only t.pending a.stamp b found) same)) found)

    was_free : (b : Ask) → Contains left b → gone_left b.client ≡ false → is_gone t b.client ≡ false
    was_free b found free = sym (gone_same t.gone a.client b.client (others b found)) ∙ free

    none_left : (c : ℕ) → c ≡ a.client → count_by (is_asks c) left ≡ 0
    none_left c e =
        let one : ◌≡◌ {A = ℕ} (if a.client == c then 1 else 0) 1 = ap (λ (b : Bool). if b then 1 else 0) (eq-eqb a.client c (sym e)) in
        omega (arith, asks_without (is_asks c) t.pending a apart there, h.one c, one)

    live_left : (c : ℕ) → count_by (live_by (gone_left c) c) left ≤ count_by (live_by (is_gone t c) c) t.pending
    live_left c = elim (cases_eq c a.client) [
      | inl e ↦ omega (arith, live_fewer (gone_left c) c left, none_left c e)
      | inr d ↦ omega (arith, ap (λ (g : Bool). count_by (live_by g c) left) (gone_same t.gone a.client c d), asks_without (live_by (is_gone t c) c) t.pending a apart there)
    ]

    new_left : (c : ℕ) → count_by (new_by (gone_left c) c) left ≤ count_by (new_by (is_gone t c) c) t.pending
    new_left c = elim (cases_eq c a.client) [
      | inl e ↦ omega (arith, new_fewer (gone_left c) c left, none_left c e)
      | inr d ↦ omega (arith, ap (λ (g : Bool). count_by (new_by g c) left) (gone_same t.gone a.client c d), asks_without (new_by (is_gone t c) c) t.pending a apart there)
    ]

    one : (c : ℕ) → count_by (is_asks c) left ≤ 1
    one c = omega (arith, h.one c, asks_without (is_asks c) t.pending a apart there)

    own_count : is_gone t a.client ≡ false → (o : Option Mode) → a.gives_up ≡ o → (c : ℕ)
        → locks_of (add_lock (give_up t.held a.client a.gives_up) a.client a.mode) c + count_by (new_by false c) left ≤ locks_of t.held c + count_by (new_by false c) t.pending
    own_count free None e c =
        let gone_one = asks_without (new_by false c) t.pending a apart there in
        let own : (if new_by false c a then 1 else 0) ≡ (if a.client == c then 1 else 0) =
        ap (λ (o : Option Mode). if a.client == c && is_none o then 1 else 0) e ∙ by_own (a.client == c) in
        let rows : locks_of (add_lock (give_up t.held a.client a.gives_up) a.client a.mode) c ≡ locks_of t.held c + (if a.client == c then 1 else 0) =
        ap (λ (o : Option Mode). locks_of (add_lock (give_up t.held a.client o) a.client a.mode) c) e ∙ locks_added t.held a.client c a.mode in
        omega (arith, gone_one, own, rows)
      where
        by_own : (b : Bool) → ◌≡◌ {A = ℕ} (if b && true then 1 else 0) (if b then 1 else 0)
        by_own true = refl
        by_own false = refl
    own_count free (Some g) e c =
        let gone_one = asks_without (new_by false c) t.pending a apart there in
        let holds : 1 ≤ total t.held a.client g = subst (GivenBy t.held a.client) e (h.gives a there free) in
        let rows : locks_of (add_lock (give_up t.held a.client a.gives_up) a.client a.mode) c ≡ locks_of (take_lock t.held a.client g) c +
        (if a.client == c then 1 else 0) =
        ap (λ (o : Option Mode). locks_of (add_lock (give_up t.held a.client o) a.client a.mode) c) e ∙ locks_added (take_lock t.held a.client g) a.client c a.mode in
        omega (arith, gone_one, rows, locks_taken t.held a.client c g h.some holds)

    fewer : (g : Option Mode) (c : ℕ) → c ≢ a.client → locks_of (add_lock (give_up t.held a.client g) a.client a.mode) c ≤ locks_of t.held c
    fewer None c d =
        let none : ◌≡◌ {A = ℕ} (if a.client == c then 1 else 0) 0 = ap (λ (b : Bool). if b then 1 else 0) (ne_eqb a.client c (λ e. d (sym e))) in
        omega (arith, locks_added t.held a.client c a.mode, none)
    fewer (Some g) c d =
        let none : ◌≡◌ {A = ℕ} (if a.client == c then 1 else 0) 0 = ap (λ (b : Bool). if b then 1 else 0) (ne_eqb a.client c (λ e. d (sym e))) in
        omega (arith, locks_added (take_lock t.held a.client g) a.client c a.mode, locks_fewer t.held a.client c g, none)

    counts_answered : is_gone t a.client ≡ false → (c : ℕ)
        → locks_of (answered t.held a) c + count_by (new_by (gone_left c) c) left ≤ locks_of t.held c + count_by (new_by (is_gone t c) c) t.pending
    counts_answered free c = elim (cases_eq c a.client) [
      | inl e ↦
          let own = own_count free a.gives_up refl c in
          let live : count_by (new_by (is_gone t c) c) t.pending ≡ count_by (new_by false c) t.pending =
          ap (λ (g : Bool). count_by (new_by g c) t.pending) (ap (is_gone t) e ∙ free) in
          omega (arith, own, live, new_fewer (gone_left c) c left, none_left c e)
      | inr d ↦ omega (arith, fewer a.gives_up c d, new_left c)
    ]

    by_gone : (g : Bool) → is_gone t a.client ≡ g
        → Clients bonus first (record t { held = if g then t.held else answered t.held a; pending = without t.pending a.stamp; gone = left_gone t.gone a.client })
    by_gone true e = record {
      asks = λ c. omega (arith, h.asks c, live_left c);
      counts = λ c. omega (arith, h.counts c, new_left c);
      one = one;
      gives = λ b found free. h.gives b (without_only t.pending a.stamp b found) (was_free b found free);
      some = h.some;
    }
    by_gone false e = record {
      asks = λ c. omega (arith, h.asks c, live_left c);
      counts = λ c. omega (arith, h.counts c, counts_answered e c);
      one = one;
      gives = λ b found free.
          others_given t.held a.client b.client a.mode a.gives_up b.gives_up h.some (others b found)
          (h.gives b (without_only t.pending a.stamp b found) (was_free b found free));
      some = some_given t.held a.client a.mode a.gives_up h.some;
    }

pub clients_ends : (s : ℕ) (stamp : Stamp) (elsewhere unanswered : Ask → ℕ) (bonus : ℕ → ℕ) (first : SetState) → ((a : Ask) → a.node ≡ stamp.node → unanswered a ≡ 0)
    → EndEffects s stamp (both (stands s stamp.node stamp.clock elsewhere unanswered) (clients bonus first))
    (both (stands s stamp.node stamp.clock elsewhere unanswered) (clients bonus first))
    (both (stands s stamp.node stamp.clock elsewhere unanswered) (clients bonus first))
clients_ends s stamp elsewhere unanswered bonus first only = record {
  serves = λ t posts k e h. (standing.serves t posts k e h.0, served t posts k e h ((ask_at t k).node == stamp.node) refl);
  freezes = λ t posts desk here none h. (standing.freezes t posts desk here none h.0, frozen t h.1 t.desk);
  leaves = λ t posts k e h. (standing.leaves t posts k e h.0, left t (ask_at t k).node h.1 t.desk);
  stays = λ t posts e h. (standing.stays t posts e h.0, h.1);
  tells = λ t posts away differs h. (
    standing.tells t posts away differs h.0,
    let same = (route_same s stamp false (ParkedTell (tell_of stamp t)) (record t { charge = held_modes t.held })).1 in
        same_clients bonus first t (make_tell s stamp t).state same.held same.pending
        (route_gone s stamp false (ParkedTell (tell_of stamp t)) (record t { charge = held_modes t.held })) h.1,
  );
  tells_not = λ t posts away same h. (standing.tells_not t posts away same h.0, h.1);
}
  where
    standing : EndEffects s stamp (stands s stamp.node stamp.clock elsewhere unanswered) (stands s stamp.node stamp.clock elsewhere unanswered)
        (stands s stamp.node stamp.clock elsewhere unanswered)
    standing = standing_ends s stamp.clock elsewhere unanswered stamp only

    served : (t : SetState) (posts : List Post) (k : ℕ) → next_service stamp.node t ≡ Some k
        → Stands s stamp.node stamp.clock elsewhere unanswered t posts × Clients bonus first t → (own : Bool)
        → ((ask_at t k).node == stamp.node) ≡ own → Clients bonus first (if own then serve_local s k t else serve_copy s stamp k (ask_at t k) t).state
    served t posts k e h true me =
        let b = ask_at t k in
        let among = Contains-get_or (queue_of t) k no_ask (next_service-within stamp.node t k e) in
        let found =
        found_here s stamp.node stamp.clock elsewhere unanswered t posts b h.0 (only b (eqb-true b.node stamp.node me))
        (omega (arith, times_in-some b (queue_of t) among)) in
        answers_kept bonus first t (serve_local s k t).state b h.1 found h.0.apart refl refl refl
    served t posts k e h false me = same_clients bonus first t (serve_copy s stamp k (ask_at t k) t).state refl refl refl h.1

    frozen : (t : SetState) → Clients bonus first t → (o : Option Desk) → Clients bonus first (freeze_at s stamp t o).state
    frozen t h None = h
    frozen t h (Some desk) = same_clients bonus first t (freeze_at s stamp t (Some desk)).state refl refl refl h

    left : (t : SetState) (v : ℕ) → Clients bonus first t → (o : Option Desk) → Clients bonus first (hand_over_to s stamp t v o).state
    left t v h None = h
    left t v h (Some desk) = same_clients bonus first t (hand_over_to s stamp t v (Some desk)).state refl refl refl h
