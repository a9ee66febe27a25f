-- Commands in hand were submitted, and there is room for them.
use Rattle.std.proofs.Common.{◌≡◌, ◌≢◌, ◌<◌, ◌≤◌, ◌+◌, ◌*◌, ◌++◌, ℕ, zero, suc, List, [], ◌∷◌, length, Option, Some, None, true, refl, sym, ap, subst, arith, ◌∙◌, inl, inr, slice_get, filter_map, nat_lt, ◌⊎◌, option_map, suc-mul, lt-ltb, ne_eqb, length-append, if◌then◌else◌}
use Rattle.std.specs.List.{cons_option}
use Rattle.std.proofs.Math.Nat.{mul-div-le}
use Rattle.std.proofs.lemmas.Bool.{cases_eq, false≢true, and_from}
use Rattle.std.proofs.lemmas.List.Elements.{recursion_from_All}
use Rattle.std.proofs.lemmas.Option.{same_Some, slice_get-map}
use Rattle.lt_modes.specs.declared.command.Command.{Command}
use Rattle.lt_modes.specs.Script.{ScriptData}
use Rattle.lt_lists.specs.Below.{sum_below}
use Rattle.lt_lists.proofs.AllLemmas.{all_weaker}
use Rattle.lt_script.proofs.NameLemmas.{element_at}
use Rattle.lt_spec.specs.NodeMove.{home, commands_of, command_if, AreAt}
use Rattle.lt_spec.specs.Script.{IsRequest, HasTargets, IsOfVersion}
use Rattle.lt_spec.specs.declared.limits.TheConstants.{MAX_COMMANDS_OF_SERVICE}
use Rattle.lt_threads.specs.Meeting.{InShares}
use Rattle.lt_threads.proofs.Shares.{counted}
use Rattle.lt_live.specs.declared.ends.Session.{Session}
use Rattle.lt_live.specs.declared.ends.Seat.{Seat}
use Rattle.lt_live.specs.Words.{submitted, taken, known_commands, command_held}
use Rattle.lt_live.specs.Submitting.{may_ask, MayAskAll}
use Rattle.lt_live.specs.Seats.{KnowAll}
use Rattle.lt_live.specs.Stations.{StationData, IsSeatOf, most_share, may_append, runner_of}
use Rattle.lt_live.specs.Live.{IsSessionOf}
use Rattle.lt_live.specs.InHand.{KnowsAllAt, KnowAllAt, StandsAt, HandMayAsk, HandsCanAppend, LooksLeaveHands, NoneStaysInHand}
use Rattle.lt_live.proofs.TurnParts.{asks, ask_same}
use Rattle.lt_live.proofs.SeatLists.{pushed}

-- a command more is submitted
pub one_more : (script : ScriptData) (client : ℕ) (command : Command) (old new : List Command) → MayAskAll script client old
    → HasTargets script.sets script.clients client command → IsOfVersion script.version command → new ≡ old ++ command ∷ [] → MayAskAll script client new
one_more script client command old new all targets modes more k other here =
    by_place (pushed old command k other (ap (λ (list : List Command). slice_get list k) (sym more) ∙ here))
  where
    by_place : (slice_get old k ≡ Some other) ⊎ ((k ≡ length old) × (command ≡ other)) → may_ask script client other ≡ true
    by_place (inl before) = all k other before
    by_place (inr last) = subst (λ (x : Command). may_ask script client x ≡ true) last.1 (asks script client command targets modes)

-- or none is
pub no_more : (script : ScriptData) (client : ℕ) (old new : List Command) → MayAskAll script client old → new ≡ old → MayAskAll script client new
no_more script client old new all same k other here = all k other (ap (λ (list : List Command). slice_get list k) (sym same) ∙ here)

-- Where all was submitted.

-- what stands after the first ones
middle : (xs : List Command) (x : Command) (ys : List Command) → slice_get ((xs ++ x ∷ []) ++ ys) (length xs) ≡ Some x
middle [] x ys = refl
middle (z ∷ xs) x ys = middle xs x ys

-- what the seat took, and knows, is what was submitted
in_order : (s : Session) (seat : Seat) (list : List Command) → taken seat ≡ list ++ command_held seat.hand → KnowAll s seat
    → (list ++ command_held seat.hand) ++ known_commands seat ≡ submitted s
in_order s seat list took beside = ap (λ (l : List Command). l ++ known_commands seat) (sym took) ∙ beside.commands

hand_may : (s : Session) (seat : Seat) (list : List Command) → taken seat ≡ list ++ command_held seat.hand → KnowAll s seat
    → (command : Command) → seat.hand ≡ Some command → may_ask s.script s.client command ≡ true
hand_may s seat list took beside command hand =
    s.asks (length list) command
    (ap (λ (commands : List Command). slice_get commands (length list))
    (sym (in_order s seat list took beside) ∙ ap (λ (h : Option Command). (list ++ command_held h) ++ known_commands seat) hand)
    ∙ middle list command (known_commands seat))

pub hand_may_ask : HandMayAsk
hand_may_ask s seat list log kept beside command hand = hand_may s seat list kept.taken beside command hand

-- so the list and the one in hand are within the share
within_share : (s : Session) (seat : Seat) (list : List Command) → taken seat ≡ list ++ command_held seat.hand → KnowAll s seat
    → length list + length (command_held seat.hand) ≤ s.share
within_share s seat list took beside =
    let all = ap (λ (l : List Command). length l) (in_order s seat list took beside) in
    let first = length-append (list ++ command_held seat.hand) (known_commands seat) in
    let second = length-append list (command_held seat.hand) in
    let spent = s.spent in
    omega (arith, all, first, second, spent)

-- Sums of shares.

-- so many numbers, each of which is at most this one, and one of them is less
sum_most : (n most : ℕ) (f : ℕ → ℕ) → ((k : ℕ) → k < n → f k ≤ most) → sum_below n f ≤ n * most
sum_most zero most f h = omega arith
sum_most (suc n) most f h =
    let rest = sum_most n most f (λ k below. h k (omega (arith, below))) in
    let last = h n (omega arith) in
    let more : suc n * most ≡ n * most + most = suc-mul n most in
    omega (arith, rest, last, more)

sum_fewer : (n most i : ℕ) (f : ℕ → ℕ) → ((k : ℕ) → k < n → f k ≤ most) → i < n → f i < most → sum_below n f < n * most
sum_fewer zero most i f h below less = absurd (omega (arith, below))
sum_fewer (suc n) most i f h below less =
    let more : suc n * most ≡ n * most + most = suc-mul n most in
    elim (cases_eq i n) [
      | inl e ↦
          let rest = sum_most n most f (λ k inside. h k (omega (arith, inside))) in
          let last : f n < most = subst (λ (k : ℕ). f k < most) e less in
          omega (arith, rest, last, more)
      | inr apart ↦
          let rest = sum_fewer n most i f (λ k inside. h k (omega (arith, inside))) (omega (arith, below, apart)) less in
          let last = h n (omega arith) in
          omega (arith, rest, last, more)
    ]

-- a client of another node has no commands among these
none_apart : (script : ScriptData) (q client : ℕ) (commands : List (ℕ × Command)) → AreAt script q commands → home script client ≢ q
    → filter_map (command_if client) commands ≡ []
none_apart script q client [] h apart = refl
none_apart script q client (request ∷ rest) h apart =
    ap (λ t. cons_option (if t then Some request.1 else None) (filter_map (command_if client) rest))
    (ne_eqb request.0 client (λ e. apart (ap (home script) (sym e) ∙ h.0)))
    ∙ none_apart script q client rest h.1 apart

-- A station at whose rings all looked.

-- a client of its node, with its session and its seat
record ClientAt (script : ScriptData) (stations : List StationData) (station : StationData) (client : ℕ) : Type 0 where
  s : Session
  session : IsSessionOf script stations client s
  knows : KnowsAllAt s station.seats
  kept : IsSeatOf station.runner knows.seat
  client_is : knows.seat.client ≡ client

module _ (script : ScriptData) (stations : List StationData) (sessions : List Session) (q : ℕ) (station : StationData)
    (h : StandsAt script stations sessions q station) (know : KnowAllAt script q sessions station.seats) where
  abbrev own : ScriptData
  own = station.runner.node.script

  share_is : InShares script q station.runner
  share_is = h.live.runners.each q station.runner (slice_get-map runner_of stations q ∙ ap (option_map runner_of) h.here)

  client_at : (client : ℕ) → client < length script.clients → home script client ≡ q → ClientAt script stations station client
  client_at client below at =
      let (s, e) = element_at sessions client (omega (arith, below, h.live.count)) in
      let session = h.live.each client s e in
      let knows = know client s e at in
      record {
        s = s;
        session = session;
        knows = knows;
        kept = h.kept.each s.place knows.seat knows.here;
        client_is = knows.link.0 ∙ session.client_is;
      }

  took : (client : ℕ) (c : ClientAt script stations station client) → taken c.knows.seat ≡ commands_of own client ++ command_held c.knows.seat.hand
  took client c =
      c.kept.kept.taken ∙ ap (λ (k : ℕ). commands_of own k ++ command_held c.knows.seat.hand) c.client_is

  within : (client : ℕ) (c : ClientAt script stations station client) → length (commands_of own client) + length (command_held c.knows.seat.hand) ≤ most_share script
  within client c =
      let few = within_share c.s c.knows.seat (commands_of own client) (took client c) c.knows.beside in
      let share = c.session.share in
      omega (arith, few, share)

  -- no client has more than its share
  few_of : (client : ℕ) → client < length script.clients → length (commands_of own client) ≤ most_share script
  few_of client below = elim (cases_eq (home script client) q) [
    | inl at ↦ let few = within client (client_at client below at) in omega (arith, few)
    | inr apart ↦
        let none = ap (λ (l : List Command). length l) (none_apart script q client own.commands share_is.own apart) in
        omega (arith, none)
  ]

  counted_all : sum_below (length script.clients) (λ client. length (commands_of own client)) ≡ length own.commands
  counted_all =
      counted (length script.clients) own.commands
      (all_weaker (IsRequest own.sets own.clients) (λ (request : ℕ × Command). request.0 < length script.clients)
      (λ request is. subst (λ (x : ScriptData). request.0 < length x.clients) share_is.script_is is.0) own.commands
      (recursion_from_All (IsRequest own.sets own.clients) own.commands h.is_script.requests))

  -- while one has a command in hand, there is room for it
  has_room : (client : ℕ) → client < length script.clients → length (commands_of own client) < most_share script → length own.commands < MAX_COMMANDS_OF_SERVICE
  has_room client below less =
      let fewer = sum_fewer (length script.clients) (most_share script) client (λ k. length (commands_of own k)) few_of below less in
      let most = mul-div-le MAX_COMMANDS_OF_SERVICE (length script.clients) in
      omega (arith, fewer, most, counted_all)

  can_append : (k : ℕ) (seat : Seat) (command : Command) → slice_get station.seats k ≡ Some seat → seat.hand ≡ Some command
      → may_append own seat.client command ≡ true
  can_append k seat command here hand =
      let is = h.kept.each k seat here in
      let below : seat.client < length script.clients = subst (λ (x : ScriptData). seat.client < length x.clients) share_is.script_is is.client in
      let at : home script seat.client ≡ q = sym (ap (λ (x : ScriptData). home x seat.client) share_is.script_is) ∙ is.home ∙ share_is.me in
      let c = client_at seat.client below at in
      let place : c.s.place ≡ k = h.kept.apart c.s.place k c.knows.seat seat c.knows.here here c.client_is in
      let same : c.knows.seat ≡ seat = same_Some c.knows.seat seat (sym c.knows.here ∙ ap (slice_get station.seats) place ∙ here) in
      let held : c.knows.seat.hand ≡ Some command = ap (λ (z : Seat). z.hand) same ∙ hand in
      let few = within seat.client c in
      let one = ap (λ (o : Option Command). length (command_held o)) held in
      let room = has_room seat.client below (omega (arith, few, one)) in
      let may = hand_may c.s c.knows.seat (commands_of own seat.client) (took seat.client c) c.knows.beside command held in
      let may_own : may_ask own seat.client command ≡ true =
      ap (λ (x : ScriptData). may_ask x seat.client command) share_is.script_is
      ∙ ask_same script own.commands seat.client command
      ∙ ap (λ (x : ScriptData). may_ask x seat.client command) (sym c.session.script_is)
      ∙ ap (λ (j : ℕ). may_ask c.s.script j command) (sym c.session.client_is)
      ∙ may in
      and_from (nat_lt (length own.commands) MAX_COMMANDS_OF_SERVICE) (may_ask own seat.client command)
      (lt-ltb (length own.commands) MAX_COMMANDS_OF_SERVICE room) may_own

pub hands_can_append : HandsCanAppend
hands_can_append script stations sessions q station h know k seat command here hand =
    can_append script stations sessions q station h know k seat command here hand

pub none_stays_in_hand : NoneStaysInHand
none_stays_in_hand script stations sessions q station h know none k seat here = by_hand seat.hand refl
  where
    by_hand : (hand : Option Command) → seat.hand ≡ hand → seat.hand ≡ None
    by_hand None e = e
    by_hand (Some command) e =
        absurd (false≢true (sym (none k seat here command e) ∙ can_append script stations sessions q station h know k seat command here e))

-- a look leaves what is in hand
pub looks_leave_hands : LooksLeaveHands
looks_leave_hands p s t old new looks none k seat here command hand = elim (cases_eq k s.place) [
  | inl at ↦
      let same : looks.y ≡ seat = same_Some looks.y seat (sym looks.now ∙ ap (slice_get new) (sym at) ∙ here) in
      let was : looks.x.hand ≡ Some command = sym looks.looks.taken.1 ∙ ap (λ (z : Seat). z.hand) same ∙ hand in
      ap (λ (c : ℕ). may_append p.node.script c command) (sym (ap (λ (z : Seat). z.client) same) ∙ looks.looks.seat.client)
      ∙ none s.place looks.x looks.before command was
  | inr apart ↦ none k seat (sym (looks.others k apart) ∙ here) command hand
]
