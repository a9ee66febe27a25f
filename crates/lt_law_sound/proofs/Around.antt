-- What stands at one node of a set of which nothing else is known: the node's own asks that aren't there stand elsewhere,
-- and those of other nodes are unanswered there.
use Rattle.std.proofs.Common.{◌≡◌, ◌≢◌, ℕ, ◌+◌, ◌-◌, ◌<◌, ◌≤◌, inl, inr, List, [], ◌∷◌, ◌++◌, length, Bool, true, false, refl, sym, ap, subst, arith, ◌∙◌, ◌⊎◌, ◌==◌, ◌||◌, not, nat_lt, if◌then◌else◌, All, AllPairs, Contains, count_by, slice_index_or, eq-eqb, ne_eqb, eqb-true, ltb-true, lt-ltb, true≢false}
use Rattle.std.proofs.lemmas.Bool.{cases_eq, and_parts, and_from, or_right}
use Rattle.std.proofs.lemmas.List.{length-map}
use Rattle.std.proofs.lemmas.List.Elements.{All-contains, Contains-get_or}
use Rattle.std.proofs.lemmas.List.Sums.{sum_by-cons, sum_by-append}
use Rattle.lt_modes.specs.declared.ask.Ask.{Ask}
use Rattle.lt_modes.specs.Script.{ScriptData, ClientData}
use Rattle.lt_modes.specs.State.{SetState, Post, same_ask, times_in}
use Rattle.lt_modes.specs.Fits.{is_at_home, has_client, is_pending, is_known, are_apart, asks_here, numbers_of}
use Rattle.lt_lists.proofs.Members.{list_any-at, list_any-which}
use Rattle.lt_lists.proofs.Sums.{counted_twice}
use Rattle.lt_spec.specs.NodeMove.{home, IsWhole}
use Rattle.lt_spec.specs.Facts.{places_in_state}
use Rattle.lt_law_accounts.proofs.Asks.{times_in-some, times_in-found, times_in-none, times_in-once, same_ask-true, same_ask-itself}
use Rattle.lt_model.specs.Homes.{IsAskOf}
use Rattle.lt_model.specs.Invariant.{IsMadeBy}
use Rattle.lt_model.proofs.HomesSound.{home_among, known_among}
use Rattle.lt_model.proofs.SentInMove.{Stands}
use Rattle.lt_law_invariant.proofs.ClientEffects.{is_asks, one_of_client}
use Rattle.lt_law_invariant.proofs.FittingLetters.{here_times}

-- the ask is of a client of its node
pub record IsNamedHome (script : ScriptData) (ask : Ask) : Type 0 where
  pub client : ask.client < length script.clients
  pub home : home script ask.client ≡ ask.node
  pub node : ask.node < script.nodes

pub home_named : (script : ScriptData) (ask : Ask) → is_at_home (numbers_of script) ask ≡ true → IsNamedHome script ask
home_named script ask h =
    let first = and_parts (nat_lt ask.node script.nodes) _ h in
    let second = and_parts (nat_lt ask.client (length (numbers_of script).homes)) _ first.1 in
    let known : ask.client < length script.clients =
    omega (arith, ltb-true ask.client (length (numbers_of script).homes) second.0, length-map script.clients (λ (client : ClientData). client.node)) in
    record {
      client = known;
      home = sym (home_among script.clients ask.client known) ∙ eqb-true _ ask.node second.1;
      node = ltb-true ask.node script.nodes first.0;
    }

pub named_home : (script : ScriptData) (ask : Ask) → IsNamedHome script ask → is_at_home (numbers_of script) ask ≡ true
named_home script ask h =
    and_from _ _ (lt-ltb ask.node script.nodes h.node)
    (and_from _ _ (lt-ltb ask.client (length (numbers_of script).homes) (known_among script ask.client h.client))
    (eq-eqb _ ask.node (home_among script.clients ask.client h.client ∙ h.home)))

-- an ask of the node itself
pub own_named : (script : ScriptData) (q : ℕ) (ask : Ask) → IsWhole script → IsAskOf script q ask → IsNamedHome script ask
own_named script q ask whole own = record {
  client = own.0.client;
  home = own.0.home;
  node = subst (λ (x : ℕ). x < script.nodes) own.0.home (whole.homes ask.client own.0.client);
}

-- where the ask is of node q, it is one of its unanswered ones
pub known_is : (q : ℕ) (t : SetState) (ask : Ask) → (ask.node ≡ q → Contains t.pending ask) → is_known q t ask ≡ true
known_is q t ask h = elim (cases_eq ask.node q) [
  | inr other ↦ ap (λ (b : Bool). not b || is_pending t ask) (ne_eqb ask.node q other)
  | inl own ↦ or_right (not (ask.node == q)) (is_pending t ask) (list_any-at (same_ask ask) t.pending ask (h own) (same_ask-itself ask))
]

pub pending_among : (t : SetState) (ask : Ask) → is_pending t ask ≡ true → Contains t.pending ask
pending_among t ask e =
    let found = list_any-which (same_ask ask) t.pending e in
    subst (λ (a : Ask). Contains t.pending a) (sym (same_ask-true ask found.0 found.2)) found.1

pub known_among_own : (q : ℕ) (t : SetState) (ask : Ask) → is_known q t ask ≡ true → ask.node ≡ q → Contains t.pending ask
known_among_own q t ask e own =
    pending_among t ask (subst (λ (b : Bool). (not b || is_pending t ask) ≡ true) (eq-eqb ask.node q own) e)

-- An ask stands no more often than asks of its client do.

times_within : (a : Ask) (asks : List Ask) → times_in a asks ≤ count_by (is_asks a.client) asks
times_within a [] = omega arith
times_within a (b ∷ rest) = by_test (times_within a rest) (same_ask a b) refl
  where
    f : Ask → ℕ
    f x = if same_ask a x then 1 else 0

    g : Ask → ℕ
    g x = if is_asks a.client x then 1 else 0

    by_test : times_in a rest ≤ count_by (is_asks a.client) rest → (same : Bool) → same_ask a b ≡ same
        → times_in a (b ∷ rest) ≤ count_by (is_asks a.client) (b ∷ rest)
    by_test again true e =
        let here : f b ≡ 1 = ap (λ (t : Bool). if t then 1 else 0) e in
        let own : g b ≡ 1 = ap (λ (t : Bool). if t then 1 else 0) (eq-eqb b.client a.client (ap (λ (x : Ask). x.client) (sym (same_ask-true a b e)))) in
        omega (arith, again, here, own, sum_by-cons f b rest, sum_by-cons g b rest)
    by_test again false e =
        let none : f b ≡ 0 = ap (λ (t : Bool). if t then 1 else 0) e in
        omega (arith, again, none, sum_by-cons f b rest, sum_by-cons g b rest)

is_not : (b : Bool) → not b ≡ true → b ≡ false
is_not true e = sym e
is_not false e = refl

none_of : (c : ℕ) (asks : List Ask) → has_client c asks ≡ false → count_by (is_asks c) asks ≡ 0
none_of c [] e = refl
none_of c (ask ∷ rest) e = by_test (none_of c rest) (ask.client == c) refl e
  where
    f : Ask → ℕ
    f x = if is_asks c x then 1 else 0

    by_test : (has_client c rest ≡ false → count_by (is_asks c) rest ≡ 0) → (same : Bool) → (ask.client == c) ≡ same
        → (same || has_client c rest) ≡ false → count_by (is_asks c) (ask ∷ rest) ≡ 0
    by_test again true t h = absurd (true≢false h)
    by_test again false t h =
        let here : f ask ≡ 0 = ap (λ (b : Bool). if b then 1 else 0) t in
        omega (arith, here, again h, sum_by-cons f ask rest)

-- asks that are apart have each client once at most
pub one_of_each : (asks : List Ask) → are_apart asks ≡ true → (c : ℕ) → count_by (is_asks c) asks ≤ 1
one_of_each [] h c = omega arith
one_of_each (ask ∷ rest) h c =
    let parts = and_parts (not (has_client ask.client rest)) (are_apart rest) h in
    by_client (one_of_each rest parts.1 c) (none_of ask.client rest (is_not (has_client ask.client rest) parts.0)) (cases_eq ask.client c)
  where
    f : Ask → ℕ
    f x = if is_asks c x then 1 else 0

    by_client : count_by (is_asks c) rest ≤ 1 → count_by (is_asks ask.client) rest ≡ 0 → (ask.client ≡ c) ⊎ (ask.client ≢ c)
        → count_by (is_asks c) (ask ∷ rest) ≤ 1
    by_client few none (inl e) =
        let here : f ask ≡ 1 = ap (λ (b : Bool). if b then 1 else 0) (eq-eqb ask.client c e) in
        let nothing : count_by (is_asks c) rest ≡ 0 = subst (λ (k : ℕ). count_by (is_asks k) rest ≡ 0) e none in
        omega (arith, here, nothing, sum_by-cons f ask rest)
    by_client few none (inr d) =
        let here : f ask ≡ 0 = ap (λ (b : Bool). if b then 1 else 0) (ne_eqb ask.client c d) in
        omega (arith, here, few, sum_by-cons f ask rest)

-- What stands at a node as its move begins, with what a letter brings.

-- each ask is of a client of its node, unanswered where it is of node q, and no two are of one client
pub record AreKnown (script : ScriptData) (q : ℕ) (pending asks : List Ask) : Type 0 where
  pub named : (a : Ask) → Contains asks a → IsNamedHome script a
  pub own : (a : Ask) → Contains asks a → a.node ≡ q → Contains pending a
  pub few : (c : ℕ) → count_by (is_asks c) asks ≤ 1

-- how often an ask is unanswered at other nodes than q
abbrev pub asked_elsewhere : ℕ → List Ask → Ask → ℕ
asked_elsewhere q asks a = if a.node == q then 0 else times_in a asks

-- how often one of the unanswered asks of q stands elsewhere
abbrev pub stood_elsewhere : List Ask → List Ask → Ask → ℕ
stood_elsewhere pending asks a = times_in a pending - times_in a asks

pub own_asked : (q : ℕ) (asks : List Ask) (a : Ask) → a.node ≡ q → asked_elsewhere q asks a ≡ 0
own_asked q asks a own = ap (λ (b : Bool). if b then 0 else times_in a asks) (eq-eqb a.node q own)

other_asked : (q : ℕ) (asks : List Ask) (a : Ask) → a.node ≢ q → asked_elsewhere q asks a ≡ times_in a asks
other_asked q asks a other = ap (λ (b : Bool). if b then 0 else times_in a asks) (ne_eqb a.node q other)

not_own : (script : ScriptData) (q : ℕ) (pending : List Ask) (a : Ask) → All (IsAskOf script q) pending → a.node ≢ q → times_in a pending ≡ 0
not_own script q pending a own other = times_in-none a pending (λ there. other (All-contains (IsAskOf script q) pending a own there).1)

minus_back : (x y : ℕ) → y ≤ x → y + (x - y) ≡ x
minus_back x y h = omega (arith, h)

none_less : (x y : ℕ) → x ≡ 0 → x - y ≡ 0
none_less x y h = omega (arith, h)

-- the asks and what stands elsewhere are what is unanswered
evens : (script : ScriptData) (q : ℕ) (pending asks : List Ask) (a : Ask) → AreKnown script q pending asks → All (IsAskOf script q) pending
    → times_in a asks + stood_elsewhere pending asks a ≡ times_in a pending + asked_elsewhere q asks a
evens script q pending asks a h own = elim (cases_eq a.node q) [
  | inl here ↦ omega (arith, own_asked q asks a here, minus_back (times_in a pending) (times_in a asks) (within here))
  | inr other ↦
      let none = not_own script q pending a own other in
      omega (arith, none, other_asked q asks a other, none_less (times_in a pending) (times_in a asks) none)
]
  where
    within : a.node ≡ q → times_in a asks ≤ times_in a pending
    within here = elim (cases_eq (times_in a asks) 0) [
      | inl e ↦ omega (arith, e)
      | inr d ↦ omega (
        arith,
        times_within a asks,
        h.few a.client,
        times_in-some a pending (h.own a (times_in-found a asks (omega (arith, d))) here),
      )
    ]

-- what stands at the node before its move, and in a letter that it takes
pub stands_first : (script : ScriptData) (q s clock : ℕ) (t : SetState) (brought : List Ask) (hand : Ask → ℕ)
    → ((a : Ask) → hand a ≡ times_in a brought) → AreKnown script q t.pending (brought ++ asks_here t) → All (IsAskOf script q) t.pending
    → All (IsMadeBy q clock) t.pending → AllPairs (λ (a b : Ask). a.stamp ≢ b.stamp) t.pending
    → Stands s q clock (λ a. stood_elsewhere t.pending (brought ++ asks_here t) a + hand a) (asked_elsewhere q (brought ++ asks_here t)) t []
stands_first script q s clock t brought hand holds known own made apart = record {
  once = λ a. omega (
    arith,
    evens script q t.pending (brought ++ asks_here t) a known own,
    holds a,
    here_times a t,
    sum_by-append (λ (x : Ask). if same_ask a x then 1 else 0) brought (asks_here t),
  );
  own = made;
  apart = apart;
  copies = tt;
}

-- What stands at the node later.

-- an ask that stands there is one of its unanswered ones, or was known of another node
pub stands_known : (script : ScriptData) (q s clock : ℕ) (asks : List Ask) (others : Ask → ℕ) (t : SetState) (posts : List Post) (a : Ask)
    → Stands s q clock others (asked_elsewhere q asks) t posts → All (IsAskOf script q) t.pending → 1 ≤ places_in_state a t
    → ((a.node ≡ q) × Contains t.pending a) ⊎ ((a.node ≢ q) × Contains asks a)
stands_known script q s clock asks others t posts a h own some = elim (cases_eq a.node q) [
  | inl here ↦ inl (here, times_in-found a t.pending (omega (arith, h.once a, own_asked q asks a here, some)))
  | inr other ↦ inr (
    other,
    times_in-found a asks (omega (arith, h.once a, other_asked q asks a other, not_own script q t.pending a own other, some)),
  )
]

pub stands_named : (script : ScriptData) (q s clock : ℕ) (pending asks : List Ask) (others : Ask → ℕ) (t : SetState) (posts : List Post) (a : Ask)
    → IsWhole script → AreKnown script q pending asks → Stands s q clock others (asked_elsewhere q asks) t posts → All (IsAskOf script q) t.pending
    → 1 ≤ places_in_state a t → IsNamedHome script a
stands_named script q s clock pending asks others t posts a whole known h own some =
    elim (stands_known script q s clock asks others t posts a h own some) [
      | inl here ↦ own_named script q a whole (All-contains (IsAskOf script q) t.pending a own here.1)
      | inr other ↦ known.named a other.1
    ]

-- asks that stand there are of different clients
pub stands_apart : (script : ScriptData) (q s clock : ℕ) (pending asks : List Ask) (others : Ask → ℕ) (t : SetState) (posts : List Post)
    → IsWhole script → AreKnown script q pending asks → Stands s q clock others (asked_elsewhere q asks) t posts → All (IsAskOf script q) t.pending
    → ((c : ℕ) → count_by (is_asks c) t.pending ≤ 1) → AllPairs (λ (a b : Ask). a.client ≢ b.client) (asks_here t)
stands_apart script q s clock pending asks others t posts whole known h own one i j d before within same =
    by_places (stands_known script q s clock asks others t posts a h own some_a) (stands_known script q s clock asks others t posts b h own some_b)
  where
    here : List Ask
    here = asks_here t

    a : Ask
    a = slice_index_or here i d

    b : Ask
    b = slice_index_or here j d

    some_a : 1 ≤ places_in_state a t
    some_a = omega (arith, here_times a t, times_in-some a here (Contains-get_or here i d (omega (arith, before, within))))

    some_b : 1 ≤ places_in_state b t
    some_b = omega (arith, here_times b t, times_in-some b here (Contains-get_or here j d within))

    named : (x : Ask) → 1 ≤ places_in_state x t → IsNamedHome script x
    named x some = stands_named script q s clock pending asks others t posts x whole known h own some

    nodes : a.node ≡ b.node
    nodes = sym (named a some_a).home ∙ ap (home script) same ∙ (named b some_b).home

    most : times_in a here ≤ 1
    most = elim (cases_eq a.node q) [
      | inl own_a ↦ omega (arith, here_times a t, h.once a, own_asked q asks a own_a, times_in-once a t.pending h.apart)
      | inr other ↦ omega (
        arith,
        here_times a t,
        h.once a,
        other_asked q asks a other,
        not_own script q t.pending a own other,
        times_within a asks,
        known.few a.client,
      )
    ]

    twice : a ≡ b → ⊥
    twice e =
        let two = counted_twice (same_ask a) here i j d (λ f. omega (arith, before, f)) (omega (arith, before, within)) within
        (same_ask-itself a) (ap (same_ask a) (sym e) ∙ same_ask-itself a) in
        omega (arith, two, most)

    by_places : ((a.node ≡ q) × Contains t.pending a) ⊎ ((a.node ≢ q) × Contains asks a)
        → ((b.node ≡ q) × Contains t.pending b) ⊎ ((b.node ≢ q) × Contains asks b) → ⊥
    by_places (inl x) (inl y) = twice (one_of_client t.pending a b (one a.client) x.1 y.1 (sym same))
    by_places (inr x) (inr y) = twice (one_of_client asks a b (known.few a.client) x.1 y.1 (sym same))
    by_places (inl x) (inr y) = y.0 (sym nodes ∙ x.0)
    by_places (inr x) (inl y) = x.0 (nodes ∙ y.0)
