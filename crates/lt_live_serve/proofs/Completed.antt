-- The commands of a client, one command of the script after the other.
use Rattle.std.proofs.Common.{◌≡◌, ◌≢◌, ◌≤◌, ◌+◌, ◌++◌, ℕ, zero, suc, List, [], ◌∷◌, Some, None, Bool, length, take, sym, ap, arith, ◌∙◌, append-nil, take_all, ◌<◌, ◌⊎◌, Option, true, false, refl, subst, inl, inr, filter_map, slice_get, if◌then◌else◌, nat_lt, eq-eqb, ne_eqb, lt-ltb, length-append}
use Rattle.std.specs.List.{cons_option, AllByRecursion}
use Rattle.std.proofs.lemmas.Bool.{cases_eq, false≢true, and_from}
use Rattle.std.proofs.lemmas.List.Elements.{filter_map-append, recursion_from_All}
use Rattle.lt_modes.specs.declared.command.Command.{Command}
use Rattle.lt_modes.specs.Script.{ScriptData}
use Rattle.lt_modes.specs.declared.command.Command.TheVariants as command
use Rattle.lt_lists.proofs.Members.{some_equal}
use Rattle.lt_lists.specs.Below.{sum_below}
use Rattle.lt_lists.proofs.AllLemmas.{all_weaker}
use Rattle.lt_lists.proofs.Sums.{sum_below-most}
use Rattle.lt_spec.specs.NodeMove.{command_if, commands_of, home, with_commands, AreAt}
use Rattle.lt_spec.specs.Script.{IsScript, IsRequest}
use Rattle.lt_spec.specs.declared.limits.TheConstants.{MAX_COMMANDS_OF_SERVICE}
use Rattle.lt_spec.specs.World.{Logged}
use Rattle.lt_threads.proofs.Shares.{counted}
use Rattle.lt_live.specs.declared.ends.Seat.{Seat}
use Rattle.lt_live.specs.declared.reply.Reply.{Reply}
use Rattle.lt_live.specs.Submitting.{may_ask}
use Rattle.lt_live.specs.Stations.{may_append, SeatTurns, HandMayGo}
use Rattle.lt_live.specs.Words.{taken, known_commands, outbox_replies, command_held}
use Rattle.lt_live_serve.specs.Serves.{among}
use Rattle.lt_live_serve.specs.Completing.{SameHand}

take_next : {X : Type 0} (xs : List X) (k : ℕ) (x : X) → slice_get xs k ≡ Some x → take (k + 1) xs ≡ take k xs ++ x ∷ []
take_next [] k x e = cc
take_next (y ∷ ys) zero x e = ap (λ v. v ∷ []) (some_equal y x e)
take_next (y ∷ ys) (suc k) x e =
    let on : suc k + 1 ≡ suc (k + 1) = omega arith in
    ap (λ n. take n (y ∷ ys)) on ∙ ap (λ zs. y ∷ zs) (take_next ys k x e)

among_next : (script : ScriptData) (client k : ℕ) (request : ℕ × Command) → slice_get script.commands k ≡ Some request
    → among script client (k + 1) ≡ among script client k ++ filter_map (command_if client) (request ∷ [])
among_next script client k request e =
    ap (filter_map (command_if client)) (take_next script.commands k request e)
    ∙ filter_map-append (command_if client) (take k script.commands) (request ∷ [])

-- a command of this client
pub among_own : (script : ScriptData) (client k : ℕ) (request : ℕ × Command) → slice_get script.commands k ≡ Some request → request.0 ≡ client
    → among script client (k + 1) ≡ among script client k ++ request.1 ∷ []
among_own script client k request e own =
    among_next script client k request e
    ∙ ap (λ (b : Bool). among script client k ++ cons_option (if b then Some request.1 else None) []) (eq-eqb request.0 client own)

-- and one of another
pub among_other : (script : ScriptData) (client k : ℕ) (request : ℕ × Command) → slice_get script.commands k ≡ Some request → request.0 ≢ client
    → among script client (k + 1) ≡ among script client k
among_other script client k request e other =
    among_next script client k request e
    ∙ ap (λ (b : Bool). among script client k ++ cons_option (if b then Some request.1 else None) []) (ne_eqb request.0 client other)
    ∙ append-nil (among script client k)

pub among_all : (script : ScriptData) (client k : ℕ) → length script.commands ≤ k → among script client k ≡ commands_of script client
among_all script client k long = ap (filter_map (command_if client)) (take_all k script.commands long)

pub count_own : (script : ScriptData) (client k : ℕ) (request : ℕ × Command) → slice_get script.commands k ≡ Some request → request.0 ≡ client
    → length (among script client (k + 1)) ≡ length (among script client k) + 1
count_own script client k request e own =
    ap (λ (xs : List Command). length xs) (among_own script client k request e own) ∙ length-append (among script client k) (request.1 ∷ [])

pub count_other : (script : ScriptData) (client k : ℕ) (request : ℕ × Command) → slice_get script.commands k ≡ Some request → request.0 ≢ client
    → length (among script client (k + 1)) ≡ length (among script client k)
count_other script client k request e other = ap (λ (xs : List Command). length xs) (among_other script client k request e other)

pub count_all : (script : ScriptData) (client k : ℕ) → length script.commands ≤ k → length (among script client k) ≡ length (commands_of script client)
count_all script client k long = ap (λ (xs : List Command). length xs) (among_all script client k long)

pub pushed_own : (script : ScriptData) (client k : ℕ) (request : ℕ × Command) (old new : List Command) → slice_get script.commands k ≡ Some request → request.0 ≡ client
    → old ≡ among script client k → new ≡ old ++ request.1 ∷ [] → new ≡ among script client (k + 1)
pushed_own script client k request old new e own before added =
    added ∙ ap (λ (xs : List Command). xs ++ request.1 ∷ []) before ∙ sym (among_own script client k request e own)

pub pushed_other : (script : ScriptData) (client k : ℕ) (request : ℕ × Command) (old : List Command) → slice_get script.commands k ≡ Some request → request.0 ≢ client
    → old ≡ among script client k → old ≡ among script client (k + 1)
pushed_other script client k request old e other before = before ∙ sym (among_other script client k request e other)

-- The commands of each client come to its station.

-- the taken commands stay where the one in hand goes
gone_taken : (s t : Seat) → HandMayGo s t → taken t ≡ taken s
gone_taken s t (inl gone) = ap taken gone
gone_taken s t (inr still) = ap taken still

some_none : {X : Type 0} (x : X) → Some x ≡ None → ⊥
some_none x f = cc

-- between two looks a turn took a command in, where there was one
module _ (log : List Logged) (old new all : List Command) (x y z : Seat) (turn : SeatTurns log x y) (look : SameHand y z)
    (before : taken x ≡ old ++ command_held x.hand) (after : taken z ≡ new ++ command_held z.hand)
    (rest : (old ++ command_held x.hand) ++ known_commands x ≡ all) (empty : outbox_replies x ≡ []) (none : z.hand ≡ None) where
  grown : new ≡ old ++ command_held turn.held.hand
  grown =
      sym (append-nil new)
      ∙ ap (λ (hand : Option Command). new ++ command_held hand) (sym none)
      ∙ sym after
      ∙ look.taken
      ∙ turn.tells.on.rest.taken
      ∙ gone_taken turn.held turn.left turn.hand
      ∙ turn.takes.taken old before

  none_left : x.hand ≡ None → known_commands x ≡ [] → all ≡ old
  none_left no_hand no_known =
      sym rest
      ∙ ap (λ (more : List Command). (old ++ command_held x.hand) ++ more) no_known
      ∙ append-nil (old ++ command_held x.hand)
      ∙ ap (λ (hand : Option Command). old ++ command_held hand) no_hand
      ∙ append-nil old

  by_first : (first : Option Command) → x.hand ≡ first → turn.held.hand ≡ None → all ≡ old
  by_first None e held = elim (turn.takes.none e held) [
    | inl no_known ↦ none_left e no_known
    | inr some ↦ let count = ap (λ (replies : List Reply). length replies) empty in absurd (omega (arith, some, count))
  ]
  by_first (Some command) e held = absurd (some_none command (sym e ∙ sym (ap (λ (s : Seat). s.hand) (turn.takes.stays command e)) ∙ held))

  by_hand : (hand : Option Command) → turn.held.hand ≡ hand → (length old < length new) ⊎ (all ≡ old)
  by_hand (Some command) e =
      let count = ap (λ (xs : List Command). length xs) (grown ∙ ap (λ (hand : Option Command). old ++ command_held hand) e) in
      inl (omega (arith, count, length-append old (command ∷ [])))
  by_hand None e = inr (by_first x.hand refl e)

  pub advances : (length old < length new) ⊎ (all ≡ old)
  advances = by_hand turn.held.hand refl

requests_below : (script : ScriptData) → IsScript script → AllByRecursion (λ (request : ℕ × Command). request.0 < length script.clients) script.commands
requests_below script is_script =
    all_weaker (IsRequest script.sets script.clients) (λ (request : ℕ × Command). request.0 < length script.clients) (λ request is. is.0) script.commands
    (recursion_from_All (IsRequest script.sets script.clients) script.commands is_script.requests)

all_counted : (script : ScriptData) → IsScript script → sum_below (length script.clients) (λ client. length (commands_of script client)) ≡ length script.commands
all_counted script is_script = counted (length script.clients) script.commands (requests_below script is_script)

-- where no command is the client's it has none
none_of : (client : ℕ) (commands : List (ℕ × Command)) → AllByRecursion (λ (request : ℕ × Command). request.0 ≢ client) commands
    → filter_map (command_if client) commands ≡ []
none_of client [] h = refl
none_of client (request ∷ rest) h =
    ap (λ (b : Bool). cons_option (if b then Some request.1 else None) (filter_map (command_if client) rest)) (ne_eqb request.0 client h.0)
    ∙ none_of client rest h.1

-- so it is of a number that no client has
pub none_outside : (script : ScriptData) (client : ℕ) → IsScript script → length script.clients ≤ client → commands_of script client ≡ []
none_outside script client is_script past =
    none_of client script.commands
    (all_weaker (λ (request : ℕ × Command). request.0 < length script.clients) (λ (request : ℕ × Command). request.0 ≢ client)
    (λ request below e. absurd (omega (arith, below, e, past))) script.commands (requests_below script is_script))

-- and of a client of another node
pub none_apart : (script : ScriptData) (q client : ℕ) (commands : List (ℕ × Command)) → AreAt script q commands → home script client ≢ q
    → filter_map (command_if client) commands ≡ []
none_apart script q client commands at apart =
    none_of client commands
    (all_weaker (λ (request : ℕ × Command). home script request.0 ≡ q) (λ (request : ℕ × Command). request.0 ≢ client)
    (λ request here e. apart (sym (ap (home script) e) ∙ here)) commands at)

-- one sum is less than another where one of its numbers is less, and none is more
sum_less : (n i : ℕ) (f g : ℕ → ℕ) → i < n → ((k : ℕ) → k < n → f k ≤ g k) → f i < g i → sum_below n f < sum_below n g
sum_less zero i f g below most less = absurd (omega (arith, below))
sum_less (suc n) i f g below most less = elim (cases_eq i n) [
  | inl e ↦
      let here : f n < g n = subst (λ (k : ℕ). f k < g k) e less in
      let rest = sum_below-most n f g (λ k inside. most k (omega (arith, inside))) in
      omega (arith, here, rest)
  | inr apart ↦
      let rest = sum_less n i f g (omega (arith, below, apart)) (λ k inside. most k (omega (arith, inside))) less in
      let last = most n (omega arith) in
      omega (arith, rest, last)
]

-- the script of a node has no more commands of a client than the whole one
abbrev pub Within : ScriptData → ScriptData → Type 0
Within script own = (k : ℕ) → k < length script.clients → length (commands_of own k) ≤ length (commands_of script k)

module _ (script own : ScriptData) (is_script : IsScript script) (is_own : IsScript own) (same : length own.clients ≡ length script.clients) (within : Within script own) where
  own_sum : sum_below (length script.clients) (λ k. length (commands_of own k)) ≡ length own.commands
  own_sum = ap (λ n. sum_below n (λ k. length (commands_of own k))) (sym same) ∙ all_counted own is_own

  -- so it has no more in all
  pub no_more : length own.commands ≤ length script.commands
  no_more =
      let most = sum_below-most (length script.clients) (λ k. length (commands_of own k)) (λ k. length (commands_of script k)) within in
      omega (arith, most, own_sum, all_counted script is_script)

  -- while a client's command is missing there, it has room for it
  has_room : (client : ℕ) → client < length script.clients → length (commands_of own client) < length (commands_of script client)
      → length own.commands < MAX_COMMANDS_OF_SERVICE
  has_room client below less =
      let few = is_script.few_commands in
      let all = sum_less (length script.clients) client (λ k. length (commands_of own k)) (λ k. length (commands_of script k)) below within less in
      omega (arith, few, all, own_sum, all_counted script is_script)

  -- so a command that may be asked doesn't stay in hand
  pub no_hand : (client : ℕ) (hand : Option Command) (known : List Command) → client < length script.clients
      → (commands_of own client ++ command_held hand) ++ known ≡ commands_of script client
      → ((command : Command) → hand ≡ Some command → may_ask own client command ≡ true)
      → ((command : Command) → hand ≡ Some command → may_append own client command ≡ false) → hand ≡ None
  no_hand client None known below all asks can_not = refl
  no_hand client (Some command) known below all asks can_not =
      let count = ap (λ (xs : List Command). length xs) all in
      let first = length-append (commands_of own client ++ command ∷ []) known in
      let second = length-append (commands_of own client) (command ∷ []) in
      let room = has_room client below (omega (arith, count, first, second)) in
      let may = and_from (nat_lt (length own.commands) MAX_COMMANDS_OF_SERVICE) (may_ask own client command) (lt-ltb (length own.commands) MAX_COMMANDS_OF_SERVICE room) (asks command refl) in
      absurd (false≢true (sym (can_not command refl) ∙ may))

-- which command may be asked depends on no other command
pub same_ask : (script : ScriptData) (commands : List (ℕ × Command)) (client : ℕ) (c : Command)
    → may_ask (with_commands script commands) client c ≡ may_ask script client c
same_ask script commands client (command.Lock set mode) = refl
same_ask script commands client (command.Try set mode) = refl
same_ask script commands client (command.Unlock set mode) = refl
same_ask script commands client (command.Change set gives_up mode) = refl
same_ask script commands client (command.DropAll other set) = refl
same_ask script commands client (command.Withdraw other set) = refl

-- what stands after the first ones
pub middle : {X : Type 0} (xs : List X) (x : X) (ys : List X) → slice_get ((xs ++ x ∷ []) ++ ys) (length xs) ≡ Some x
middle [] x ys = refl
middle (z ∷ xs) x ys = middle xs x ys
