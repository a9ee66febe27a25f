-- The asks of different clients stand apart: at a node, in a letter, and in both.
use Rattle.std.proofs.Common.{◌≡◌, ◌≢◌, ℕ, suc, ◌+◌, ◌<◌, ◌≤◌, inl, inr, List, [], ◌∷◌, Bool, true, false, refl, sym, ap, subst, arith, ◌∙◌, ◌^◌, ◌++◌, length, Option, Some, None, ◌==◌, ◌||◌, not, if◌then◌else◌, Contains, All, AllPairs, count_by, sum_by, slice_index_or, is_none, filter_map, eq-eqb, ne_eqb, eqb-true, lt-ltb, le-leb}
use Rattle.std.specs.List.{list_all}
use Rattle.std.proofs.lemmas.Bool.{cases_eq, and_from, or_right, and_parts}
use Rattle.std.proofs.lemmas.List.Elements.{All-contains, Contains-get_or}
use Rattle.std.proofs.lemmas.List.Sums.{sum_by-cons, sum_by-append, list_all-from_AllPass}
use Rattle.lt_modes.specs.declared.ask.Ask.{Ask}
use Rattle.lt_modes.specs.Script.{ScriptData}
use Rattle.lt_modes.specs.State.{SetState, Parked, ParkedAsk, ParkedTell, same_ask, times_in, Desk, Body, AskBody, TellBody, CopyBody, TokenBody, FreezeBody, Letter}
use Rattle.lt_modes.specs.Serving.{queue_of}
use Rattle.lt_modes.specs.Fits.{ask_if, parked_asks, asks_here, has_client, is_pending, is_known, are_apart, is_at_home, queue_fits, body_fits, numbers_of}
use Rattle.lt_lists.specs.Below.{one_if}
use Rattle.lt_lists.proofs.Members.{list_any-at, list_any-which}
use Rattle.lt_lists.proofs.Sums.{counted_twice, sum_below-at, sum_by-zero}
use Rattle.lt_spec.specs.NodeMove.{home, IsWhole}
use Rattle.lt_spec.specs.World.{World}
use Rattle.lt_spec.specs.Facts.{state_at, times_parked, places_in_state, place_count, places_in_body, OnWay}
use Rattle.lt_law_accounts.proofs.Asks.{times_in-some, same_ask-itself}
use Rattle.lt_model.specs.Homes.{IsAskOf, IsAskAtHome, IsLetterAtHome, IsBodyAtHome}
use Rattle.lt_model.specs.Invariant.{AsksStand, LetterOnPath, BodyOnPath, BodyKept, LetterKept, SetKept, WorldInvariant}
use Rattle.lt_model.proofs.Runs.{stands_once}
use Rattle.lt_model.specs.OnWay.{Between}
use Rattle.lt_model.proofs.HomesSound.{sound_ask}
use Rattle.lt_model.proofs.Letters.{mail_weight-at}
use Rattle.lt_model.proofs.PathsRoutes.{link_named}
use Rattle.lt_model.proofs.SentInMove.{places_weight}
use Rattle.lt_model.proofs.PathsMove.{kept_stands}
use Rattle.lt_law_invariant.proofs.ClientEffects.{is_asks, one_of_client}
use Rattle.lt_law_invariant.specs.InvariantLaws.{LettersFit}
use Rattle.lt_law_invariant.proofs.KeptHomes.{kept_homes}
use Rattle.lt_law_invariant.proofs.KeptParked.{not_both}

-- asks of different clients
pub apart_by : (asks : List Ask) → AllPairs (λ (a b : Ask). a.client ≢ b.client) asks → are_apart asks ≡ true
apart_by [] h = refl
apart_by (ask ∷ rest) h =
    and_from _ _ (by_test (has_client ask.client rest) refl)
    (apart_by rest (λ i j d before within. h (suc i) (suc j) d (omega (arith, before)) (omega (arith, within))))
  where
    by_test : (found : Bool) → has_client ask.client rest ≡ found → not found ≡ true
    by_test false e = refl
    by_test true e =
        let other = list_any-which (λ (a : Ask). a.client == ask.client) rest e in
        absurd
        (h 0 (suc other.1.0) other.0 (omega arith) (omega (arith, other.1.1))
        (sym (ap (λ (a : Ask). a.client) other.1.2 ∙ eqb-true other.0.client ask.client other.2)))

pub one_each : (asks : List Ask) → ((c : ℕ) → count_by (is_asks c) asks ≤ 1) → AllPairs (λ (a b : Ask). a.client ≢ b.client) asks
one_each asks few i j d before within same =
    let a = slice_index_or asks i d in
    let b = slice_index_or asks j d in
    let two = counted_twice (is_asks a.client) asks i j d (λ e. omega (arith, before, e)) (omega (arith, before, within)) within
    (eq-eqb a.client a.client refl) (eq-eqb b.client a.client (sym same)) in
    omega (arith, two, few a.client)

-- parked asks as asks
pub parked_times : (a : Ask) (items : List Parked) → times_in a (filter_map ask_if items) ≡ sum_by (times_parked a) items
parked_times a [] = refl
parked_times a (ParkedTell tell ∷ rest) = omega (arith, parked_times a rest, sum_by-cons (times_parked a) (ParkedTell tell) rest)
parked_times a (ParkedAsk other ∷ rest) =
    omega (
      arith,
      parked_times a rest,
      sum_by-cons (times_parked a) (ParkedAsk other) rest,
      sum_by-cons (λ (x : Ask). if same_ask a x then 1 else 0) other (filter_map ask_if rest),
      ones (same_ask a other),
    )
  where
    ones : (same : Bool) → (if same then 1 else 0) ≡ one_if same
    ones true = refl
    ones false = refl

pub here_times : (a : Ask) (t : SetState) → times_in a (asks_here t) ≡ places_in_state a t
here_times a t =
    sum_by-append (λ (x : Ask). if same_ask a x then 1 else 0) (parked_asks t) (queue_of t) ∙ ap (λ (n : ℕ). n + times_in a (queue_of t))
    (parked_times a t.parked)

-- and asks of different clients are one of each at most
pub few_each : (asks : List Ask) → AllPairs (λ (a b : Ask). a.client ≢ b.client) asks → (c : ℕ) → count_by (is_asks c) asks ≤ 1
few_each [] h c = omega arith
few_each (ask ∷ rest) h c =
    by_test (ask.client == c) refl (few_each rest (λ i j d before within. h (suc i) (suc j) d (omega (arith, before)) (omega (arith, within))) c)
    (sum_by-cons (λ (x : Ask). if is_asks c x then 1 else 0) ask rest)
  where
    by_test : (own : Bool) → (ask.client == c) ≡ own → count_by (is_asks c) rest ≤ 1
        → count_by (is_asks c) (ask ∷ rest) ≡ (if ask.client == c then 1 else 0) + count_by (is_asks c) rest → count_by (is_asks c) (ask ∷ rest) ≤ 1
    by_test false e few sum =
        let none : ◌≡◌ {A = ℕ} (if ask.client == c then 1 else 0) 0 = ap (λ (b : Bool). if b then 1 else 0) e in
        omega (arith, few, sum, none)
    by_test true e few sum =
        let one : ◌≡◌ {A = ℕ} (if ask.client == c then 1 else 0) 1 = ap (λ (b : Bool). if b then 1 else 0) e in
        let none = sum_by-zero (λ (x : Ask). if is_asks c x then 1 else 0) rest
        (λ i d within. ap (λ (b : Bool). if b then 1 else 0)
        (ne_eqb (slice_index_or rest i d).client c (λ same. h 0 (suc i) d (omega arith) (omega (arith, within)) (eqb-true ask.client c e ∙ sym same)))) in
        omega (arith, sum, one, none)

-- the asks of a set stand in one place each, are at home, and are of different clients at a node
pub record OwnAsks (script : ScriptData) (w : World) (s : ℕ) : Type 0 where
  pub stood : AsksStand script w s
  pub own : (x : ℕ) → x < script.nodes → All (IsAskOf script x) (state_at w s x).pending
  pub few : (x : ℕ) → x < script.nodes → (client : ℕ) → count_by (is_asks client) (state_at w s x).pending ≤ 1

-- asks of one client that stand anywhere are one
same_client : (script : ScriptData) (w : World) (s : ℕ) (a b : Ask) → OwnAsks script w s → 1 ≤ place_count script w s a → 1 ≤ place_count script w s b
    → a.client ≡ b.client → a ≡ b
same_client script w s a b h some more same =
    let first = stands_once script w s a h.stood some in
    let second = stands_once script w s b h.stood more in
    let home_a = All-contains (IsAskOf script a.node) (state_at w s a.node).pending a (h.own a.node first.0) first.1 in
    let home_b = All-contains (IsAskOf script b.node) (state_at w s b.node).pending b (h.own b.node second.0) second.1 in
    let nodes : b.node ≡ a.node = sym home_b.0.home ∙ ap (home script) (sym same) ∙ home_a.0.home in
    one_of_client (state_at w s a.node).pending a b (h.few a.node first.0 a.client) first.1
    (subst (λ (y : ℕ). Contains (state_at w s y).pending b) nodes second.1) (sym same)

-- asks that stand in different places are of different clients
pub standing_apart : (script : ScriptData) (w : World) (s : ℕ) (asks : List Ask) → OwnAsks script w s → ((a : Ask) → times_in a asks ≤ place_count script w s a)
    → AllPairs (λ (a b : Ask). a.client ≢ b.client) asks
standing_apart script w s asks h places i j d before within same =
    let a = slice_index_or asks i d in
    let b = slice_index_or asks j d in
    let some = times_in-some a asks (Contains-get_or asks i d (omega (arith, before, within))) in
    let more = times_in-some b asks (Contains-get_or asks j d within) in
    let one : a ≡ b = same_client script w s a b h (omega (arith, some, places a)) (omega (arith, more, places b)) same in
    let two = counted_twice (same_ask a) asks i j d (λ e. omega (arith, before, e)) (omega (arith, before, within)) within
    (same_ask-itself a) (ap (same_ask a) (sym one) ∙ same_ask-itself a) in
    omega (arith, two, places a, (stands_once script w s a h.stood (omega (arith, some, places a))).2)

-- an ask that stands anywhere is known at each node
pub standing_known : (script : ScriptData) (w : World) (s x : ℕ) (ask : Ask) → AsksStand script w s → 1 ≤ place_count script w s ask
    → is_known x (state_at w s x) ask ≡ true
standing_known script w s x ask stood some = elim (cases_eq ask.node x) [
  | inr other ↦ ap (λ (b : Bool). not b || is_pending (state_at w s x) ask) (ne_eqb ask.node x other)
  | inl own ↦
      let waits = (stands_once script w s ask stood some).1 in
      or_right (not (ask.node == x)) (is_pending (state_at w s x) ask)
      (list_any-at (same_ask ask) (state_at w s x).pending ask (subst (λ (y : ℕ). Contains (state_at w s y).pending ask) own waits) (same_ask-itself ask))
]

-- In a world that is kept each letter on its way fits its receiver.

-- the asks of a set of a world that is kept
pub kept_asks : (script : ScriptData) (w : World) (s : ℕ) → WorldInvariant script w → s < length script.sets → OwnAsks script w s
kept_asks script w s h under = record {
  stood = kept_stands script w s (h.sets s under);
  own = λ x below. ((kept_homes script w h).states x s below under).pending;
  few = λ x below client. few_each (state_at w s x).pending ((h.sets s under).states x below).one_ask client;
}

-- a letter of a set of the script that is on its way
record FitFacts (script : ScriptData) (w : World) (p q : ℕ) (letter : Letter) : Type 0 where
  whole : IsWhole script
  sender : p < script.nodes
  receiver : q < script.nodes
  among : Contains (w.mail p q) letter
  kept : SetKept script Between w letter.set
  asks : OwnAsks script w letter.set
  home : IsLetterAtHome script q letter

-- what a letter says stands besides what stands at its receiver
said_and_here : (script : ScriptData) (w : World) (p q : ℕ) (letter : Letter) → FitFacts script w p q letter → (a : Ask)
    → places_in_body a letter.body + places_in_state a (state_at w letter.set q) ≤ place_count script w letter.set a
said_and_here script w p q letter f a =
    let weighs : places_weight letter.set a letter ≡ places_in_body a letter.body = rw (eq-eqb letter.set letter.set refl) refl in
    omega (
      arith,
      weighs,
      mail_weight-at script.nodes p q (places_weight letter.set a) w.mail letter f.sender f.receiver f.among,
      sum_below-at script.nodes q (λ y. places_in_state a (state_at w letter.set y)) f.receiver,
    )

-- an ask that a letter says alone
ask_alone : (script : ScriptData) (w : World) (p q : ℕ) (letter : Letter) (ask : Ask) → FitFacts script w p q letter
    → ((a : Ask) → places_in_body a letter.body ≡ one_if (same_ask a ask))
    → (1 ≤ place_count script w letter.set ask) × (not (has_client ask.client (asks_here (state_at w letter.set q))) ≡ true)
ask_alone script w p q letter ask f says = (
  omega (arith, one ask, said_and_here script w p q letter f ask, ap one_if (same_ask-itself ask)),
  (and_parts (not (has_client ask.client (asks_here t))) (are_apart (asks_here t))
      (apart_by (ask ∷ asks_here t) (standing_apart script w letter.set (ask ∷ asks_here t) f.asks
      (λ a. omega (
        arith,
        one a,
        said_and_here script w p q letter f a,
        here_times a t,
        sum_by-cons (λ (x : Ask). if same_ask a x then 1 else 0) ask
            (asks_here t),
        ones (same_ask a ask),
      ))))).0,
)
  where
    t : SetState
    t = state_at w letter.set q

    one : (a : Ask) → places_in_body a letter.body ≡ one_if (same_ask a ask)
    one a = says a

    ones : (same : Bool) → (if same then 1 else 0) ≡ one_if same
    ones true = refl
    ones false = refl

-- the asks that the token brings
queue_alone : (script : ScriptData) (w : World) (p q : ℕ) (letter : Letter) (desk : Desk) → FitFacts script w p q letter → letter.body ≡ TokenBody desk
    → queue_fits (numbers_of script) q (state_at w letter.set q) desk.queue ≡ true
queue_alone script w p q letter desk f says = and_from _ _
    (all_pass (is_at_home (numbers_of script)) desk.queue (λ ask there. sound_ask script ask f.whole
    (All-contains (IsAskAtHome script) desk.queue ask (subst (IsBodyAtHome script q) says f.home.body) there)))
    (and_from _ _ (apart_by both (standing_apart script w letter.set both f.asks places))
    (all_pass (is_known q t) both (λ ask there. standing_known script w letter.set q ask f.asks.stood (omega (arith, places ask, times_in-some ask both there)))))
  where
    t : SetState
    t = state_at w letter.set q

    both : List Ask
    both = desk.queue ++ parked_asks t

    all_pass : (test : Ask → Bool) (asks : List Ask) → ((ask : Ask) → Contains asks ask → test ask ≡ true) → list_all test asks ≡ true
    all_pass test asks each = list_all-from_AllPass test asks (λ k d within. each _ (Contains-get_or asks k d within))

    places : (a : Ask) → times_in a both ≤ place_count script w letter.set a
    places a = omega (
      arith,
      sum_by-append (λ (x : Ask). if same_ask a x then 1 else 0) desk.queue (parked_asks t),
      parked_times a t.parked,
      ap (places_in_body a) says,
      said_and_here script w p q letter f a,
    )

none_here : (o : Option Desk) → ((desk : Desk) → o ≡ Some desk → ⊥) → is_none o ≡ true
none_here None away = refl
none_here (Some desk) away = absurd (away desk refl)

said_fits : (script : ScriptData) (w : World) (p q : ℕ) (letter : Letter) → FitFacts script w p q letter
    → body_fits (numbers_of script) q (state_at w letter.set q) letter.stamp.clock letter.body ≡ true
said_fits script w p q letter f = by_body letter.body refl
  where
    t : SetState
    t = state_at w letter.set q

    on : OnWay w letter.set p q letter
    on = record { among = f.among; set = refl }

    on_path : LetterOnPath script.nodes (w.went letter.set) p q letter
    on_path = f.kept.paths.letters p q letter f.sender on

    timed : LetterKept script w p letter
    timed = f.kept.letters p q letter f.sender f.receiver on

    by_body : (body : Body) → letter.body ≡ body → body_fits (numbers_of script) q t letter.stamp.clock body ≡ true
    by_body (AskBody ask marked) says =
        let alone = ask_alone script w p q letter ask f (λ a. ap (places_in_body a) says) in
        and_from _ _ (sound_ask script ask f.whole (subst (IsBodyAtHome script q) says f.home.body))
        (and_from _ _ (standing_known script w letter.set q ask f.asks.stood alone.0) alone.1)
    by_body (TellBody tell) says =
        let kept = subst (BodyKept script letter.stamp.clock) says timed.body in
        and_from _ _ (lt-ltb tell.node script.nodes kept.1) (le-leb tell.stamp.clock letter.stamp.clock kept.0)
    by_body (CopyBody ask) says =
        let alone = ask_alone script w p q letter ask f (λ a. ap (places_in_body a) says) in
        let own = subst (IsBodyAtHome script q) says f.home.body in
        let waits = (stands_once script w letter.set ask f.asks.stood alone.0).1 in
        and_from _ _ (sound_ask script ask f.whole own.0)
        (and_from _ _ (eq-eqb ask.node q own.1)
        (and_from _ _ (list_any-at (same_ask ask) t.pending ask (subst (λ (y : ℕ). Contains (state_at w letter.set y).pending ask) own.1 waits)
        (same_ask-itself ask)) alone.1))
    by_body (TokenBody desk) says =
        let path = subst (BodyOnPath script.nodes (w.went letter.set) q) says on_path.body in
        let kept = subst (BodyKept script letter.stamp.clock) says timed.body in
        let firm = (f.kept.paths.states q f.receiver).link in
        and_from _ _ (none_here t.desk (λ other here. not_both script w letter.set q other f.kept.paths (f.receiver, here) q (desk, (p, letter, f.sender, on, says))))
        (and_from _ _ (le-leb t.firm.epoch desk.epoch (omega (arith, firm.epoch, path.epoch)))
        (and_from _ _ (le-leb desk.epoch letter.stamp.clock kept.0)
        (and_from _ _ (le-leb desk.number letter.stamp.clock kept.1)
        (and_from _ _ (eq-eqb (length desk.entries) script.nodes path.entries) (queue_alone script w p q letter desk f says)))))
    by_body (FreezeBody number modes) says = le-leb number letter.stamp.clock (subst (BodyKept script letter.stamp.clock) says timed.body)

pub letters_fit : LettersFit
letters_fit script w p q letter whole h hp hq among sent_before now_before =
    let home = (kept_homes script w h).letters p q letter hp hq among in
    let kept = h.sets letter.set home.set in
    let facts : FitFacts script w p q letter =
    record { whole = whole; sender = hp; receiver = hq; among = among; kept = kept; asks = kept_asks script w letter.set h home.set; home = home } in
    let on : OnWay w letter.set p q letter = record { among = among; set = refl } in
    let on_path = kept.paths.letters p q letter hp on in
    and_from _ _
    (and_from _ _ (lt-ltb letter.set (length script.sets) home.set)
    (and_from _ _ (lt-ltb letter.link.node script.nodes
    (link_named script.nodes (w.went letter.set) letter.link (record { some = whole.some_node; known = kept.paths.went }) on_path.link))
    (and_from _ _ (le-leb letter.link.epoch letter.stamp.clock (kept.letters p q letter hp hq on).epoch)
    (and_from _ _ (lt-ltb (letter.stamp.clock + 1) (2 ^ 62) sent_before) (lt-ltb ((w.node q).clock + 1) (2 ^ 62) now_before)))))
    (said_fits script w p q letter facts)
