-- Which runners show a move: those whose node can make one.
use Rattle.std.proofs.Common.{◌≡◌, ℕ, List, Option, Some, None, Bool, true, false, length, refl, sym, ap, subst, ◌∙◌, ◌≢◌, zero, suc, ◌<◌, inl, inr, [], ◌∷◌, ◌++◌, map, arith, ◌==◌, ◌&&◌, not, nat_lt, if◌then◌else◌, ◌⊎◌, ◌||◌, IsTrue, Contains, slice_get, eq-eqb, ne_eqb, lt-ltb, ltb-true, option_map}
use Rattle.std.proofs.lemmas.Bool.{cases_eq, and_from, and_parts, or_left, or_right}
use Rattle.std.proofs.lemmas.Option.{slice_get-map}
use Rattle.lt_modes.specs.Script.{ScriptData}
use Rattle.lt_modes.specs.Fits.{fits, numbers_of}
use Rattle.lt_modes.specs.State.{Letter}
use Rattle.lt_lists.specs.Below.{any_below}
use Rattle.lt_lists.proofs.Members.{contains_first}
use Rattle.lt_lists.proofs.Searches.{any_below_at}
use Rattle.lt_spec.specs.NodeMove.{home, NodeState, node_waits}
use Rattle.lt_spec.specs.Limits.{node_within}
use Rattle.lt_spec.specs.Plays.{can_act}
use Rattle.lt_spec.specs.World.{is_some_letter, has_mail, can_move, is_waiting}
use Rattle.lt_script.proofs.NameLemmas.{element_at}
use Rattle.lt_law_plays.specs.Merged.{Part, Joined}
use Rattle.lt_law_merged.specs.JoinedRun.{IsJoinedRun}
use Rattle.lt_law_merged.specs.States.{FewMoves}
use Rattle.lt_law_merged.proofs.PartLogs.{joined_merges, can_move_is_seen, states_within, drops_are_within, asks_have_place, clocks_below, letters_left_fit}
use Rattle.lt_desk.specs.LetterSeen.{letter_seen}
use Rattle.lt_core.specs.declared.fits.TheConstants.{LAST_CLOCK}
use Rattle.lt_node.specs.NodeData.{state_of}
use Rattle.lt_node.proofs.TouchedLemmas.{room_to_act, room_to_take}
use Rattle.lt_mail.specs.Words.{known_from, waiting_to}
use Rattle.lt_runner.specs.declared.choice.Choice.TheVariants.{Nothing, Act, Take}
use Rattle.lt_runner.specs.declared.parts.Hand.{Hand}
use Rattle.lt_runner.specs.Choices.{least_below, has_time, may_act, may_take, act_if, act_choice, choice_by, or_this, next_choice}
use Rattle.lt_runner.proofs.ChoiceLemmas.{first_can, fitting_set}
use Rattle.lt_runner.specs.declared.parts.Parts.{Parts}
use Rattle.lt_runner.specs.Kept.{in_hand, IsFromPeer, HasFetched, is_move}
use Rattle.lt_threads.specs.Meeting.{part_of, crew_run, crew_world, IsCrew, AreKept, AreMet, AnyTwo}
use Rattle.lt_threads.proofs.Joined.{left_for, left_is, part_from, joined}
use Rattle.lt_threads.proofs.SameChoice.{choice_same, nodes_same, waits_same}

-- all that is known of runners that have met
record CrewMet (script : ScriptData) (rs : List Parts) : Type 0 where
  crew : IsCrew script rs
  kept : AreKept rs
  met : AreMet AnyTwo rs

none_below : (n : ℕ) (test : ℕ → Bool) → ((k : ℕ) → k < n → test k ≡ false) → any_below n test ≡ false
none_below zero test h = refl
none_below (suc n) test h = rw (none_below n test (λ k below. h k (omega (arith, below))), h n (omega arith)) refl

-- the least number that passes is there exactly where some number passes
least_none : (n : ℕ) (test : ℕ → Bool) → any_below n test ≡ false → least_below n test ≡ None
least_none zero test h = refl
least_none (suc n) test h = by_test (any_below n test) (test n) refl refl h (least_none n test)
  where
    by_test : (earlier last : Bool) → any_below n test ≡ earlier → test n ≡ last → (earlier || last) ≡ false
        → (any_below n test ≡ false → least_below n test ≡ None) → or_this (least_below n test) test n ≡ None
    by_test false false e f g again = rw (again e, f) refl
    by_test true last e f g again = cc
    by_test false true e f g again = cc

least_some : (n : ℕ) (test : ℕ → Bool) → any_below n test ≡ true → (k : ℕ) × (least_below n test ≡ Some k)
least_some zero test h = cc
least_some (suc n) test h = by_test (any_below n test) (test n) refl refl h (least_some n test)
  where
    by_test : (earlier last : Bool) → any_below n test ≡ earlier → test n ≡ last → (earlier || last) ≡ true
        → (any_below n test ≡ true → (k : ℕ) × (least_below n test ≡ Some k)) → (k : ℕ) × (or_this (least_below n test) test n ≡ Some k)
    by_test true last e f g again = let found = again e in (found.0, rw found.1 refl)
    by_test false true e f g again = (n, rw (least_none n test e, f) refl)
    by_test false false e f g again = cc

pub part_here : (rs : List Parts) (k : ℕ) (p : Parts) → slice_get rs k ≡ Some p → slice_get (map part_of rs) k ≡ Some (part_of p)
part_here rs k p e = slice_get-map part_of rs k ∙ ap (option_map part_of) e

-- no node made more moves than one of a service may
pub few_moves : (script : ScriptData) (rs : List Parts) → IsCrew script rs → AreKept rs → FewMoves (map part_of rs)
few_moves script rs crew kept k part e =
    let (p, here, same) = part_from rs k part e in
    omega (arith, (kept k p here).bounded, (crew.each k p here).limit, ap (λ (x : Part). length x.log) same)

-- what is known of the runner of node k
record Seen (script : ScriptData) (rs : List Parts) (k : ℕ) (p : Parts) : Type 0 where
  met_crew : CrewMet script rs
  here : slice_get rs k ≡ Some p
  plays : Joined script (map part_of rs)
  few : FewMoves (map part_of rs)
  run : IsJoinedRun script (map part_of rs) (crew_run script rs)

seen_at : (script : ScriptData) (rs : List Parts) (k : ℕ) (p : Parts) → CrewMet script rs → slice_get rs k ≡ Some p → Seen script rs k p
seen_at script rs k p s here =
    let plays = joined script rs s.crew s.kept s.met in
    record { met_crew = s; here = here; plays = plays; few = few_moves script rs s.crew s.kept; run = joined_merges script (map part_of rs) plays }

-- its clock is not at its bound
in_time : (script : ScriptData) (rs : List Parts) (k : ℕ) (p : Parts) → Seen script rs k p → has_time (state_of p.node) ≡ true
in_time script rs k p seen =
    let low = clocks_below script (map part_of rs) seen.met_crew.crew.is_script seen.plays seen.few k (part_of p) (part_here rs k p seen.here) in
    lt-ltb p.node.clock LAST_CLOCK (omega (arith, low))

-- and what it keeps leaves room
is_within : (script : ScriptData) (rs : List Parts) (k : ℕ) (p : Parts) → Seen script rs k p → IsTrue (node_within script (state_of p.node))
is_within script rs k p seen =
    states_within script (map part_of rs) seen.met_crew.crew.is_script seen.plays k (part_of p) (part_here rs k p seen.here)

-- a letter that fits may be taken
takes : (script : ScriptData) (rs : List Parts) (k : ℕ) (p : Parts) → Seen script rs k p → (letter : Letter)
    → IsTrue (fits (numbers_of script) k (state_of p.node).clock ((state_of p.node).set letter.set) letter) → may_take script k (state_of p.node) letter ≡ true
takes script rs k p seen letter fitting =
    let n = state_of p.node in
    let inside = fitting_set (numbers_of script) k n.clock (n.set letter.set) letter fitting in
    and_from _ _ (in_time script rs k p seen)
    (and_from _ _ fitting (room_to_take script n letter (is_within script rs k p seen) inside))

-- a client that can act may
acts : (script : ScriptData) (rs : List Parts) (k : ℕ) (p : Parts) → Seen script rs k p → (client : ℕ) → IsTrue (can_act script k (state_of p.node) client)
    → may_act script (state_of p.node) client ≡ true
acts script rs k p seen client can =
    let is_script = seen.met_crew.crew.is_script in
    let here = part_here rs k p seen.here in
    let places = asks_have_place script (map part_of rs) is_script seen.plays k client (part_of p) here can in
    let drops = drops_are_within script (map part_of rs) is_script seen.plays k (part_of p) here in
    and_from _ _ (in_time script rs k p seen)
    (room_to_act script (state_of p.node) client is_script (is_within script rs k p seen) places drops)

-- the letters on their way to node k in the world of the crew
mail_is : (script : ScriptData) (rs : List Parts) (k : ℕ) (p : Parts) → Seen script rs k p → (a : ℕ) (x : Parts) → slice_get rs a ≡ Some x → a ≢ k
    → (crew_world script rs).mail a k ≡ left_for a k x p
mail_is script rs k p seen a x there apart =
    let s = seen.met_crew in
    seen.run.mail a k (part_of x) (part_of p) (left_for a k x p) (part_here rs a x there) (part_here rs k p seen.here)
    (left_is a k x p (s.kept k p seen.here) (s.met a k x p tt apart there seen.here))

-- with a letter in hand the node can take it
takes_hand : (script : ScriptData) (rs : List Parts) (k : ℕ) (p : Parts) → Seen script rs k p → (hand : Hand) → p.hand ≡ Some hand
    → (may_take script k (state_of p.node) (letter_seen hand.letter) ≡ true) × (has_mail script (crew_world script rs) hand.from k ≡ true)
takes_hand script rs k p seen hand e =
    let s = seen.met_crew in
    let known = s.kept k p seen.here in
    let in_crew = s.crew.each k p seen.here in
    let from : (hand.from < p.node.script.nodes) × (hand.from ≢ p.node.me) = subst (IsFromPeer p.node.script.nodes p.node.me) e known.hand in
    let below : hand.from < script.nodes = omega (arith, from.0, nodes_same k p.node.script script in_crew.script_is) in
    let apart : hand.from ≢ k = λ same. from.1 (same ∙ sym in_crew.me) in
    let (x, there) = element_at rs hand.from (omega (arith, below, s.crew.count)) in
    let mine : k < script.nodes = omega (arith, known.below, in_crew.me, nodes_same k p.node.script script in_crew.script_is) in
    let in_front : in_hand hand.from p.hand ≡ letter_seen hand.letter ∷ [] =
    ap (in_hand hand.from) e ∙ ap (λ (b : Bool). if b then letter_seen hand.letter ∷ [] else []) (eq-eqb hand.from hand.from refl) in
    let left : left_for hand.from k x p ≡ letter_seen hand.letter ∷ (known_from p.mail hand.from ++ waiting_to x.mail k) =
    ap (λ (letters : List Letter). letters ++ (known_from p.mail hand.from ++ waiting_to x.mail k)) in_front in
    let comes = left_is hand.from k x p known (s.met hand.from k x p tt apart there seen.here) in
    let first : Contains (left_for hand.from k x p) (letter_seen hand.letter) =
    subst (λ (letters : List Letter). Contains letters (letter_seen hand.letter)) (sym left)
    (contains_first (letter_seen hand.letter) (letter_seen hand.letter) (known_from p.mail hand.from ++ waiting_to x.mail k) refl) in
    let fitting = letters_left_fit script (map part_of rs) s.crew.is_script seen.plays seen.few hand.from k (part_of x) (part_of p) (left_for hand.from k x p)
    (letter_seen hand.letter) (part_here rs hand.from x there) (part_here rs k p seen.here) comes first in
    let mail = mail_is script rs k p seen hand.from x there apart ∙ left in (
      takes script rs k p seen (letter_seen hand.letter) fitting,
      and_from _ _ (lt-ltb hand.from script.nodes below)
          (and_from _ _ (lt-ltb k script.nodes mine)
          (and_from _ _ (ap not (ne_eqb hand.from k apart)) (ap is_some_letter mail))),
    )

-- where no letter is in hand, none is on its way
no_mail : (script : ScriptData) (rs : List Parts) (k : ℕ) (p : Parts) → Seen script rs k p → HasFetched p → p.hand ≡ None
    → any_below script.nodes (λ a. has_mail script (crew_world script rs) a k) ≡ false
no_mail script rs k p seen fetched empty = none_below script.nodes (λ a. has_mail script (crew_world script rs) a k) (λ a below. each a below)
  where
    none_on : (a : ℕ) → a < script.nodes → a ≢ k → (crew_world script rs).mail a k ≡ []
    none_on a below apart =
        let s = seen.met_crew in
        let in_crew = s.crew.each k p seen.here in
        let (x, there) = element_at rs a (omega (arith, below, s.crew.count)) in
        let known = fetched empty a (λ same. apart (same ∙ in_crew.me)) in
        let waiting = (s.met a k x p tt apart there seen.here).moves empty known in
        let hand : in_hand a p.hand ≡ [] = ap (in_hand a) empty in
        let left : left_for a k x p ≡ [] = rw (hand, known, waiting) refl in
        mail_is script rs k p seen a x there apart ∙ left

    is_none : (a : ℕ) → (apart : Bool) → (a == k) ≡ apart → (is_some_letter ((crew_world script rs).mail a k) ≡ false) ⊎ (apart ≡ true)
        → (nat_lt a script.nodes && (nat_lt k script.nodes && (not (a == k) && is_some_letter ((crew_world script rs).mail a k)))) ≡ false
    is_none a apart e (inl empty) = rw empty (no_and (nat_lt a script.nodes) (nat_lt k script.nodes) (not (a == k)))
      where
        no_and : (b c d : Bool) → (b && (c && (d && false))) ≡ false
        no_and true true true = refl
        no_and true true false = refl
        no_and true false d = refl
        no_and false c d = refl
    is_none a apart e (inr same) = rw (e ∙ same) (no_and (nat_lt a script.nodes) (nat_lt k script.nodes))
      where
        no_and : (b c : Bool) → (b && (c && false)) ≡ false
        no_and true true = refl
        no_and true false = refl
        no_and false c = refl

    each : (a : ℕ) → a < script.nodes → has_mail script (crew_world script rs) a k ≡ false
    each a below = elim (cases_eq a k) [
      | inl e ↦ is_none a (a == k) refl (inr (eq-eqb a k e))
      | inr d ↦ is_none a (a == k) refl (inl (ap is_some_letter (none_on a below d)))
    ]

-- a runner that has met all others and fetched what came shows a move exactly where its node can make one
pub shows_is : (script : ScriptData) (rs : List Parts) → IsCrew script rs → AreKept rs → AreMet AnyTwo rs → (k : ℕ) (p : Parts) → slice_get rs k ≡ Some p
    → HasFetched p → is_move (next_choice p) ≡ can_move script (crew_world script rs) k
shows_is script rs crew kept met k p here fetched =
    let in_crew = crew.each k p here in
    let state = state_of p.node in
    let named : is_move (next_choice p) ≡ is_move (choice_by script k state p.hand) =
    ap (λ (m : ℕ). is_move (choice_by p.node.script m state p.hand)) in_crew.me
    ∙ ap is_move (choice_same k p.node.script script in_crew.script_is state p.hand) in
    named ∙ by_hand p.hand refl
  where
    seen : Seen script rs k p
    seen = seen_at script rs k p (record { crew = crew; kept = kept; met = met }) here

    node : (crew_world script rs).node k ≡ state_of p.node
    node = seen.run.node k (part_of p) (part_here rs k p here)

    found_in : (found : Bool) → any_below (length script.clients) (can_act script k (state_of p.node)) ≡ found
        → any_below (length script.clients) (can_act script k ((crew_world script rs).node k)) ≡ found
    found_in found e = ap (λ (n : NodeState). any_below (length script.clients) (can_act script k n)) node ∙ e

    -- a letter is on its way to the node, or a client can act by what the node knows
    sees : Bool
    sees = any_below script.nodes (λ a. has_mail script (crew_world script rs) a k)
        || any_below (length script.clients) (can_act script k ((crew_world script rs).node k))

    by_seen : can_move script (crew_world script rs) k ≡ sees
    by_seen = can_move_is_seen script (crew_world script rs) k

    by_act : p.hand ≡ None → (found : Bool) → any_below (length script.clients) (can_act script k (state_of p.node)) ≡ found
        → is_move (act_choice script k (state_of p.node)) ≡ can_move script (crew_world script rs) k
    by_act empty true e =
        let (first, is_first) = least_some (length script.clients) (can_act script k (state_of p.node)) e in
        let may = acts script rs k p seen first (first_can script k (state_of p.node) first is_first) in
        let left : is_move (act_choice script k (state_of p.node)) ≡ true =
        ap (λ (o : Option ℕ). is_move (act_if script (state_of p.node) o)) is_first
        ∙ ap (λ (b : Bool). is_move (if b then Act first else Nothing)) may in
        left ∙ sym (by_seen ∙ or_right _ _ (found_in true e))
    by_act empty false e =
        let none = least_none (length script.clients) (can_act script k (state_of p.node)) e in
        let left : is_move (act_choice script k (state_of p.node)) ≡ false =
        ap (λ (o : Option ℕ). is_move (act_if script (state_of p.node) o)) none in
        let right : sees ≡ false = rw (found_in false e, no_mail script rs k p seen fetched empty) refl in
        left ∙ sym (by_seen ∙ right)

    by_hand : (o : Option Hand) → p.hand ≡ o → is_move (choice_by script k (state_of p.node) o) ≡ can_move script (crew_world script rs) k
    by_hand None e = by_act e (any_below (length script.clients) (can_act script k (state_of p.node))) refl
    by_hand (Some hand) e =
        let (takes, mail) = takes_hand script rs k p seen hand e in
        let left : is_move (choice_by script k (state_of p.node) (Some hand)) ≡ true =
        ap (λ (b : Bool). is_move (if b then Take else act_choice script k (state_of p.node))) takes in
        let from : hand.from < script.nodes = from_below mail in
        left ∙ sym (by_seen ∙ or_left _ _ (any_below_at script.nodes hand.from (λ a. has_mail script (crew_world script rs) a k) from mail))
      where
        from_below : has_mail script (crew_world script rs) hand.from k ≡ true → hand.from < script.nodes
        from_below m = ltb-true hand.from script.nodes (and_parts (nat_lt hand.from script.nodes) _ m).0

-- Who waits in the world of a crew.

-- a client waits where its node says so
pub waits_here : (script : ScriptData) (rs : List Parts) → IsCrew script rs → AreKept rs → AreMet AnyTwo rs → (client : ℕ) (p : Parts)
    → slice_get rs (home script client) ≡ Some p → node_waits p.node.script (state_of p.node) client ≡ is_waiting script (crew_world script rs) client
waits_here script rs crew kept met client p e =
    let k = home script client in
    let in_crew = crew.each k p e in
    let run = joined_merges script _ (joined script rs crew kept met) in
    let node : (crew_world script rs).node k ≡ state_of p.node = run.node k (part_of p) (part_here rs k p e) in
    waits_same k p.node.script script in_crew.script_is (state_of p.node) client ∙ sym (ap (λ (n : NodeState). node_waits script n client) node)
