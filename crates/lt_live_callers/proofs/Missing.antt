-- While a client's command is missing at its station, the station has room for it.
use Rattle.std.proofs.Common.{◌≡◌, ◌≢◌, ◌≤◌, ◌<◌, ◌+◌, ◌*◌, ◌++◌, ◌⊎◌, ℕ, zero, suc, List, [], ◌∷◌, Option, Some, None, Bool, true, false, length, refl, sym, ap, subst, arith, ◌∙◌, inl, inr, append-nil, filter_map, slice_get, if◌then◌else◌, nat_lt, ne_eqb, lt-ltb, suc-mul, length-append}
use Rattle.std.specs.List.{cons_option, AllByRecursion}
use Rattle.std.proofs.lemmas.Bool.{cases_eq, false≢true, and_from}
use Rattle.std.proofs.lemmas.List.Elements.{recursion_from_All}
use Rattle.std.proofs.Math.Nat.{mul-div-le}
use Rattle.lt_modes.specs.declared.command.Command.{Command}
use Rattle.lt_modes.specs.Script.{ScriptData}
use Rattle.lt_lists.specs.Below.{sum_below}
use Rattle.lt_lists.proofs.AllLemmas.{all_weaker}
use Rattle.lt_spec.specs.NodeMove.{command_if, commands_of, home, AreAt}
use Rattle.lt_spec.specs.Script.{IsScript, IsRequest}
use Rattle.lt_spec.specs.declared.limits.TheConstants.{MAX_COMMANDS, MAX_COMMANDS_OF_SERVICE}
use Rattle.lt_spec.specs.World.{Logged}
use Rattle.lt_threads.proofs.Shares.{counted}
use Rattle.lt_live.specs.declared.ends.Seat.{Seat}
use Rattle.lt_live.specs.declared.reply.Reply.{Reply}
use Rattle.lt_live.specs.Submitting.{may_ask}
use Rattle.lt_live.specs.Stations.{may_append, equal_share, SeatTurns, HandMayGo}
use Rattle.lt_live.specs.Words.{taken, known_commands, outbox_replies, command_held}
use Rattle.lt_live_callers.specs.Taking.{SeatKeepsHand}

-- the taken commands stay where the one in hand goes
gone_taken : (s t : Seat) → HandMayGo s t → taken t ≡ taken s
gone_taken s t (inl gone) = ap taken gone
gone_taken s t (inr still) = ap taken still

some_none : {X : Type 0} (x : X) → Some x ≡ None → ⊥
some_none x f = cc

-- between two looks a turn took a command in, where there was one
module _ (log : List Logged) (old new all : List Command) (x y z : Seat) (turn : SeatTurns log x y) (look : SeatKeepsHand y z)
    (before : taken x ≡ old ++ command_held x.hand) (after : taken z ≡ new ++ command_held z.hand)
    (rest : (old ++ command_held x.hand) ++ known_commands x ≡ all) (empty : outbox_replies x ≡ []) (none : z.hand ≡ None) where
  grown : new ≡ old ++ command_held turn.held.hand
  grown =
      sym (append-nil new)
      ∙ ap (λ (hand : Option Command). new ++ command_held hand) (sym none)
      ∙ sym after
      ∙ look.taken
      ∙ turn.tells.on.rest.taken
      ∙ gone_taken turn.held turn.left turn.hand
      ∙ turn.takes.taken old before

  none_left : x.hand ≡ None → known_commands x ≡ [] → all ≡ old
  none_left no_hand no_known =
      sym rest
      ∙ ap (λ (more : List Command). (old ++ command_held x.hand) ++ more) no_known
      ∙ append-nil (old ++ command_held x.hand)
      ∙ ap (λ (hand : Option Command). old ++ command_held hand) no_hand
      ∙ append-nil old

  by_first : (first : Option Command) → x.hand ≡ first → turn.held.hand ≡ None → all ≡ old
  by_first None e held = elim (turn.takes.none e held) [
    | inl no_known ↦ none_left e no_known
    | inr some ↦ let count = ap (λ (replies : List Reply). length replies) empty in absurd (omega (arith, some, count))
  ]
  by_first (Some command) e held = absurd (some_none command (sym e ∙ sym (ap (λ (s : Seat). s.hand) (turn.takes.stays command e)) ∙ held))

  by_hand : (hand : Option Command) → turn.held.hand ≡ hand → (length old < length new) ⊎ (all ≡ old)
  by_hand (Some command) e =
      let count = ap (λ (xs : List Command). length xs) (grown ∙ ap (λ (hand : Option Command). old ++ command_held hand) e) in
      inl (omega (arith, count, length-append old (command ∷ [])))
  by_hand None e = inr (by_first x.hand refl e)

  pub advances : (length old < length new) ⊎ (all ≡ old)
  advances = by_hand turn.held.hand refl

-- How many commands a station has.

requests_below : (script : ScriptData) → IsScript script → AllByRecursion (λ (request : ℕ × Command). request.0 < length script.clients) script.commands
requests_below script is_script =
    all_weaker (IsRequest script.sets script.clients) (λ (request : ℕ × Command). request.0 < length script.clients) (λ request is. is.0) script.commands
    (recursion_from_All (IsRequest script.sets script.clients) script.commands is_script.requests)

all_counted : (script : ScriptData) → IsScript script → sum_below (length script.clients) (λ client. length (commands_of script client)) ≡ length script.commands
all_counted script is_script = counted (length script.clients) script.commands (requests_below script is_script)

-- where no command is the client's it has none
none_of : (client : ℕ) (commands : List (ℕ × Command)) → AllByRecursion (λ (request : ℕ × Command). request.0 ≢ client) commands
    → filter_map (command_if client) commands ≡ []
none_of client [] h = refl
none_of client (request ∷ rest) h =
    ap (λ (b : Bool). cons_option (if b then Some request.1 else None) (filter_map (command_if client) rest)) (ne_eqb request.0 client h.0)
    ∙ none_of client rest h.1

-- so it is of a client of another node
pub none_apart : (script : ScriptData) (q client : ℕ) (commands : List (ℕ × Command)) → AreAt script q commands → home script client ≢ q
    → filter_map (command_if client) commands ≡ []
none_apart script q client commands at apart =
    none_of client commands
    (all_weaker (λ (request : ℕ × Command). home script request.0 ≡ q) (λ (request : ℕ × Command). request.0 ≢ client)
    (λ request here e. apart (sym (ap (home script) e) ∙ here)) commands at)

-- each client has no more commands there than a share
abbrev pub Within : ℕ → ScriptData → ℕ → Type 0
Within n own most = (client : ℕ) → client < n → length (commands_of own client) ≤ most

-- numbers of which none is more than another, and one is less
sum_few : (n most : ℕ) (f : ℕ → ℕ) → ((k : ℕ) → k < n → f k ≤ most) → sum_below n f ≤ n * most
sum_few zero most f h = omega arith
sum_few (suc n) most f h =
    let rest = sum_few n most f (λ k below. h k (omega (arith, below))) in
    let last = h n (omega arith) in
    let more : suc n * most ≡ n * most + most = suc-mul n most in
    omega (arith, rest, last, more)

sum_less : (n i most : ℕ) (f : ℕ → ℕ) → i < n → ((k : ℕ) → k < n → f k ≤ most) → f i < most → sum_below n f < n * most
sum_less zero i most f below h less = absurd (omega (arith, below))
sum_less (suc n) i most f below h less = elim (cases_eq i n) [
  | inl e ↦
      let here : f n < most = subst (λ (k : ℕ). f k < most) e less in
      let rest = sum_few n most f (λ k inside. h k (omega (arith, inside))) in
      let more : suc n * most ≡ n * most + most = suc-mul n most in
      omega (arith, here, rest, more)
  | inr apart ↦
      let rest = sum_less n i most f (omega (arith, below, apart)) (λ k inside. h k (omega (arith, inside))) less in
      let last = h n (omega arith) in
      let more : suc n * most ≡ n * most + most = suc-mul n most in
      omega (arith, rest, last, more)
]

module _ (script own : ScriptData) (is_own : IsScript own) (same : length own.clients ≡ length script.clients) (within : Within (length script.clients) own (equal_share script)) where
  -- a client that has fewer than its share can have one more
  has_room : (client : ℕ) → client < length script.clients → length (commands_of own client) < equal_share script
      → length own.commands < MAX_COMMANDS_OF_SERVICE
  has_room client below less =
      let count : sum_below (length script.clients) (λ k. length (commands_of own k)) ≡ length own.commands =
      ap (λ n. sum_below n (λ k. length (commands_of own k))) (sym same) ∙ all_counted own is_own in
      let few = sum_less (length script.clients) client (equal_share script) (λ k. length (commands_of own k)) below within less in
      let all = mul-div-le MAX_COMMANDS (length script.clients) in
      omega (arith, count, few, all)

  -- so a command that may be asked doesn't stay in hand
  pub no_hand : (client : ℕ) (hand : Option Command) (known all : List Command) → client < length script.clients → length all ≤ equal_share script
      → (commands_of own client ++ command_held hand) ++ known ≡ all
      → ((command : Command) → hand ≡ Some command → may_ask own client command ≡ true)
      → ((command : Command) → hand ≡ Some command → may_append own client command ≡ false) → hand ≡ None
  no_hand client None known all below share sum asks can_not = refl
  no_hand client (Some command) known all below share sum asks can_not =
      let count = ap (λ (xs : List Command). length xs) sum in
      let first = length-append (commands_of own client ++ command ∷ []) known in
      let second = length-append (commands_of own client) (command ∷ []) in
      let room = has_room client below (omega (arith, count, first, second, share)) in
      let may = and_from (nat_lt (length own.commands) MAX_COMMANDS_OF_SERVICE) (may_ask own client command) (lt-ltb (length own.commands) MAX_COMMANDS_OF_SERVICE room) (asks command refl) in
      absurd (false≢true (sym (can_not command refl) ∙ may))

-- what stands after the first ones
pub middle : {X : Type 0} (xs : List X) (x : X) (ys : List X) → slice_get ((xs ++ x ∷ []) ++ ys) (length xs) ≡ Some x
middle [] x ys = refl
middle (z ∷ xs) x ys = middle xs x ys
