-- The client so many places further on.
use Rattle.std.proofs.Common.{◌≡◌, ℕ, zero, suc, ◌<◌, ◌-◌, Option, Some, None, refl, subst, arith, ◌≢◌, ◌+◌, ◌≤◌, Bool, true, false, List, [], ◌∷◌, length, inl, inr, ◌⊎◌, sym, ap, ◌∙◌, length-set, get_or-set_same, get_or-set_other, option_and_then, ◌&&◌, ◌||◌, ◌==◌, nat_lt, if◌then◌else◌, is_some, count_by, slice_index_or, IfSome, lt-ltb, eq-eqb, eqb-true}
use Rattle.std.proofs.lemmas.Bool.{cases_eq, cases_lt, and_parts, and_from, or_left, or_right, false≢true, false_from_ne_true}
use Rattle.std.proofs.lemmas.List.{get_or_past, get_or_default}
use Rattle.std.proofs.lemmas.List.Sums.{sum_by-cons}
use Rattle.lt_modes.specs.Script.{ScriptData}
use Rattle.lt_modes.specs.declared.event.Event.{Event}
use Rattle.lt_modes.specs.declared.moves.Step.{Step}
use Rattle.lt_modes.specs.declared.moves.Step.TheVariants.{Act, Take}
use Rattle.lt_lists.specs.Below.{count_below}
use Rattle.lt_lists.proofs.Members.{some_equal}
use Rattle.lt_lists.proofs.Searches.{IsStrictOrder, Found, found, any_below_at, none_counted, same_count}
use Rattle.lt_spec.specs.World.{World, made_by, is_runnable, line_client}
use Rattle.lt_spec.specs.FixedOrder.{next_act, act_after, acts_before}
use Rattle.lt_law_enabled.proofs.Acts.{after_this, acts_order, by_two}
use Rattle.lt_turns.specs.Turns.{IsFirst, IsNext, IsAfter}
use Rattle.lt_world.specs.Fields.{AreTurns, turn_of, NoneNames, OthersStand, with_turn, is_act_of, other_named}

act_after_more : (script : ScriptData) (w : World) (earlier : Option ℕ) (k : ℕ) → 0 < k
    → act_after script w earlier k ≡ option_and_then (λ next. act_after script w (Some next) (k - 1)) (next_act script w earlier)
act_after_more script w earlier zero h = absurd (omega arith)
act_after_more script w earlier (suc k) h =
    subst (λ (j : ℕ). option_and_then (λ next. act_after script w (Some next) k) (next_act script w earlier) ≡ option_and_then (λ next. act_after script w (Some next) j) (next_act script w earlier))
    (omega arith) refl

-- one place further on
pub act_after_next : (script : ScriptData) (w : World) (earlier : Option ℕ) (next k : ℕ) → 0 < k → next_act script w earlier ≡ Some next
    → act_after script w earlier k ≡ act_after script w (Some next) (k - 1)
act_after_next script w earlier next k h e = rw (act_after_more script w earlier k h, e) refl

pub act_after_none : (script : ScriptData) (w : World) (earlier : Option ℕ) (k : ℕ) → 0 < k → next_act script w earlier ≡ None
    → act_after script w earlier k ≡ None
act_after_none script w earlier k h e = rw (act_after_more script w earlier k h, e) refl

-- The order of the clients that can act, by their turns.

-- a search finds what passes and leads
found_alone : (n : ℕ) (test : ℕ → Bool) (before : ℕ → ℕ → Bool) (a b : Option ℕ) → IsStrictOrder before → Found n test before a → Found n test before b → a ≡ b
found_alone n test before None None order h g = refl
found_alone n test before None (Some b) order h g = absurd (false≢true (sym (none_counted n test h) ∙ any_below_at n b test g.inside g.passes))
found_alone n test before (Some a) None order h g = absurd (false≢true (sym (none_counted n test g) ∙ any_below_at n a test h.inside h.passes))
found_alone n test before (Some a) (Some b) order h g = elim (cases_eq a b) [
  | inl same ↦ ap Some same
  | inr apart ↦ absurd (false≢true (sym (order.never a) ∙ order.through a b a (h.leads b g.inside g.passes (λ e. apart (sym e))) (g.leads a h.inside h.passes apart)))
]

next_is : (script : ScriptData) (w : World) (earlier o : Option ℕ) → Found (length script.clients) (after_this script w earlier) (acts_before script w) o → o ≡ next_act script w earlier
next_is script w earlier o h =
    found_alone (length script.clients) (after_this script w earlier) (acts_before script w) o (next_act script w earlier) (acts_order script w) h
    (found (length script.clients) (after_this script w earlier) (acts_before script w) (acts_order script w))

none_pass : (n : ℕ) (test : ℕ → Bool) → ((k : ℕ) → k < n → test k ≡ false) → count_below n test ≡ 0
none_pass zero test none = refl
none_pass (suc n) test none =
    rw (none n (omega arith)) (omega (arith, none_pass n test (λ k below. none k (omega (arith, below)))))

-- a turn says that its client can act, and how many commands it has made
record Has (script : ScriptData) (w : World) (client made : ℕ) : Type 0 where
  pub inside : client < length script.clients
  pub runs : is_runnable script w client ≡ true
  pub made_is : made ≡ made_by script w client

has : (script : ScriptData) (w : World) (turns : List (Option ℕ)) (client made : ℕ) → AreTurns script turns w
    → slice_index_or turns client None ≡ Some made → Has script w client made
has script w turns client made h e = by_test (is_runnable script w client) refl (sym (h.turns_are client inside) ∙ e)
  where
    none_some : None ≡ Some made → ⊥
    none_some f = cc

    inside : client < length script.clients
    inside = elim (cases_lt client (length turns)) [
      | inl below ↦ omega (arith, below, h.count)
      | inr past ↦ absurd (none_some (sym (get_or_past turns client None past) ∙ e))
    ]

    by_test : (t : Bool) → is_runnable script w client ≡ t → (if t then Some (made_by script w client) else None) ≡ Some made → Has script w client made
    by_test true f g = record { inside = inside; runs = f; made_is = sym (some_equal (made_by script w client) made g) }
    by_test false f g = absurd (none_some g)

-- and a client that can act has one
can : (script : ScriptData) (w : World) (turns : List (Option ℕ)) (client : ℕ) → AreTurns script turns w → client < length script.clients
    → is_runnable script w client ≡ true → slice_index_or turns client None ≡ Some (made_by script w client)
can script w turns client h below runs = h.turns_are client below ∙ ap (λ (t : Bool). if t then Some (made_by script w client) else None) runs

from_two : (m n a b : ℕ) → (m < n) ⊎ ((m ≡ n) × (a < b)) → nat_lt m n || (m == n && nat_lt a b) ≡ true
from_two m n a b (inl less) = or_left (nat_lt m n) _ (lt-ltb m n less)
from_two m n a b (inr same) = or_right (nat_lt m n) _ (and_from (m == n) (nat_lt a b) (eq-eqb m n same.0) (lt-ltb a b same.1))

-- one that comes no later, and is another one, comes before
before_other : (script : ScriptData) (w : World) (a b made : ℕ) → made ≡ made_by script w a → (made < made_by script w b) ⊎ ((made ≡ made_by script w b) × (a ≤ b)) → b ≢ a
    → acts_before script w a b ≡ true
before_other script w a b made is leads other = from_two (made_by script w a) (made_by script w b) a b (elim leads [
  | inl less ↦ inl (omega (arith, is, less))
  | inr same ↦ inr (omega (arith, is, same.0), omega (arith, same.1, other))
])

pub first_is : (script : ScriptData) (w : World) (turns : List (Option ℕ)) (o : Option ℕ) → AreTurns script turns w → IsFirst turns o → o ≡ next_act script w None
first_is script w turns None h first = next_is script w None None (none_pass (length script.clients) (after_this script w None) (λ k below.
    false_from_ne_true (after_this script w None k) (λ e.
    none_some (made_by script w k) (sym (first k) ∙ can script w turns k h below (and_parts (is_runnable script w k) true e).0))))
  where
    none_some : (made : ℕ) → None ≡ Some made → ⊥
    none_some made f = cc
first_is script w turns (Some client) h first =
    let this = has script w turns client first.0 h first.1.can_act in
    next_is script w None (Some client) (record {
      inside = this.inside;
      passes = and_from (is_runnable script w client) true this.runs refl;
      leads = λ k below passes other. before_other script w client k first.0 this.made_is
          (first.1.leads k (made_by script w k) (can script w turns k h below (and_parts (is_runnable script w k) true passes).0)) other;
    })

pub after_is : (script : ScriptData) (w : World) (turns : List (Option ℕ)) (earlier : ℕ) (o : Option ℕ) → AreTurns script turns w
    → earlier < length script.clients → is_runnable script w earlier ≡ true → IsNext turns earlier o → o ≡ next_act script w (Some earlier)
after_is script w turns earlier None h inside runs next = next_is script w (Some earlier) None (none_pass (length script.clients) (after_this script w (Some earlier)) (λ k below.
    false_from_ne_true (after_this script w (Some earlier) k) (λ e.
    let parts = and_parts (is_runnable script w k) (acts_before script w earlier k) e in
    next (made_by script w earlier) k (made_by script w k) (can script w turns earlier h inside runs) (can script w turns k h below parts.0)
    (by_two (made_by script w earlier) (made_by script w k) earlier k parts.1))))
after_is script w turns earlier (Some client) h inside runs next =
    let at = has script w turns earlier next.0 h next.2 in
    let this = has script w turns client next.1 h next.3.can_act in
    next_is script w (Some earlier) (Some client) (record {
      inside = this.inside;
      passes = and_from (is_runnable script w client) (acts_before script w earlier client) this.runs
          (from_two (made_by script w earlier) (made_by script w client) earlier client
          (subst (λ (m : ℕ). IsAfter m earlier (made_by script w client) client) at.made_is
          (subst (λ (m : ℕ). IsAfter next.0 earlier m client) this.made_is next.3.after)));
      leads = λ k below passes other.
          let parts = and_parts (is_runnable script w k) (acts_before script w earlier k) passes in
          before_other script w client k next.1 this.made_is
          (next.3.leads k (made_by script w k) (can script w turns k h below parts.0)
          (subst (λ (m : ℕ). IsAfter m earlier (made_by script w k) k) (sym at.made_is) (by_two (made_by script w earlier) (made_by script w k) earlier k parts.1))) other;
    })

-- a client that is found can act
pub can_act_next : (script : ScriptData) (w : World) (earlier o : Option ℕ) → o ≡ next_act script w earlier
    → IfSome o (λ client. (client < length script.clients) × (is_runnable script w client ≡ true))
can_act_next script w earlier o e = by_client o (subst (Found (length script.clients) (after_this script w earlier) (acts_before script w)) (sym e)
    (found (length script.clients) (after_this script w earlier) (acts_before script w) (acts_order script w)))
  where
    by_client : (o : Option ℕ) → Found (length script.clients) (after_this script w earlier) (acts_before script w) o
        → IfSome o (λ client. (client < length script.clients) × (is_runnable script w client ≡ true))
    by_client None h = tt
    by_client (Some client) h = (h.inside, (and_parts (is_runnable script w client) _ h.passes).0)

-- a client has a turn where it can act
pub runs_by_turn : (script : ScriptData) (w : World) (turns : List (Option ℕ)) (client : ℕ) → AreTurns script turns w → client < length script.clients
    → is_some (slice_index_or turns client None) ≡ is_runnable script w client
runs_by_turn script w turns client h below = ap is_some (h.turns_are client below) ∙ by_test (is_runnable script w client)
  where
    by_test : (t : Bool) → is_some (if t then Some (made_by script w client) else None) ≡ t
    by_test true = refl
    by_test false = refl

-- a count from the first number on
counted_first : (n : ℕ) (test : ℕ → Bool) → count_below (suc n) test ≡ (if test 0 then 1 else 0) + count_below n (λ k. test (suc k))
counted_first zero test = omega arith
counted_first (suc n) test = omega (arith, counted_first n test)

counted_places : (turns : List (Option ℕ)) → count_by is_some turns ≡ count_below (length turns) (λ k. is_some (slice_index_or turns k None))
counted_places [] = refl
counted_places (first ∷ rest) =
    omega (arith, sum_by-cons (λ (o : Option ℕ). if is_some o then 1 else 0) first rest, counted_places rest, counted_first (length rest) (λ k. is_some (slice_index_or (first ∷ rest) k None)))

-- as many clients can act as have a turn
pub counted : (script : ScriptData) (w : World) (turns : List (Option ℕ)) → AreTurns script turns w → count_by is_some turns ≡ count_below (length script.clients) (is_runnable script w)
counted script w turns h =
    counted_places turns
    ∙ (ap (λ (n : ℕ). count_below n (λ k. is_some (slice_index_or turns k None))) h.count
    ∙ same_count (length script.clients) (λ k. is_some (slice_index_or turns k None)) (is_runnable script w) (λ k below. runs_by_turn script w turns k h below))

-- The turns as clients are noted one after the other.

pub with_turn_count : (script : ScriptData) (w : World) (named : Option ℕ) (turns : List (Option ℕ)) → length (with_turn script w named turns) ≡ length turns
with_turn_count script w None turns = refl
with_turn_count script w (Some client) turns = length-set turns client (turn_of script w client)

-- one that is noted has its turn
turn_here : (script : ScriptData) (w : World) (client : ℕ) (turns : List (Option ℕ)) → length turns ≡ length script.clients → client < length script.clients
    → slice_index_or (with_turn script w (Some client) turns) client None ≡ turn_of script w client
turn_here script w client turns count below = get_or-set_same turns client (turn_of script w client) None (omega (arith, count, below))

-- and each other one what it had
turn_there : (script : ScriptData) (w : World) (named : Option ℕ) (c : ℕ) (turns : List (Option ℕ)) → named ≢ Some c
    → slice_index_or (with_turn script w named turns) c None ≡ slice_index_or turns c None
turn_there script w None c turns other = refl
turn_there script w (Some client) c turns other = get_or-set_other turns client c (turn_of script w client) None (λ e. other (ap Some (sym e)))

-- a step that is a command of the client
act_of : (step : Step) (client : ℕ) → is_act_of step client ≡ true → step ≡ Act client
act_of (Act actor) client e = ap Act (eqb-true actor client e)
act_of (Take sender) client e = absurd (false≢true e)

-- one line more
pub line_noted : (script : ScriptData) (w : World) (step : Step) (lines : List Event) (k : ℕ) (line : Event) (turns : List (Option ℕ))
    → length turns ≡ length script.clients → k < length lines → line ≡ slice_index_or lines k line
    → OthersStand script turns w step lines k → OthersStand script (with_turn script w (other_named step (line_client line)) turns) w step lines (k + 1)
line_noted script w step lines k line turns count inside at h = λ c below other none.
    by_line c below other none (line_client line) refl
  where
    none_from : (c : ℕ) → line_client line ≢ Some c → NoneNames c lines (k + 1) → NoneNames c lines k
    none_from c differs none = λ j d after within. elim (cases_eq j k) [
      | inl same ↦ subst (λ (i : ℕ). line_client (slice_index_or lines i d) ≢ Some c) (sym same)
          (subst (λ (e : Event). line_client e ≢ Some c) (at ∙ get_or_default lines k line d inside) differs)
      | inr apart ↦ none j d (omega (arith, after, apart)) within
    ]

    by_line : (c : ℕ) → c < length script.clients → step ≢ Act c → NoneNames c lines (k + 1) → (named : Option ℕ) → line_client line ≡ named
        → slice_index_or (with_turn script w (other_named step named) turns) c None ≡ turn_of script w c
    by_line c below other none None e = h c below other (none_from c (λ f. none_some (sym e ∙ f)) none)
      where
        none_some : None ≡ Some c → ⊥
        none_some f = cc
    by_line c below other none (Some client) e = by_step (is_act_of step client) refl
      where
        some_same : Some client ≡ Some c → client ≡ c
        some_same f = some_equal client c f

        by_step : (t : Bool) → is_act_of step client ≡ t → slice_index_or (with_turn script w (if t then None else Some client) turns) c None ≡ turn_of script w c
        by_step true acts = h c below other (none_from c (λ f. other (act_of step c (ap (is_act_of step) (sym (some_same (sym e ∙ f))) ∙ acts))) none)
        by_step false acts = elim (cases_eq client c) [
          | inl same ↦ subst (λ (i : ℕ). slice_index_or (with_turn script w (Some i) turns) c None ≡ turn_of script w c) (sym same) (turn_here script w c turns count below)
          | inr apart ↦ turn_there script w (Some client) c turns (λ f. apart (some_same f)) ∙ h c below other (none_from c (λ f. apart (some_same (sym e ∙ f))) none)
        ]

-- once all lines are noted
pub lines_noted : (script : ScriptData) (w : World) (step : Step) (lines : List Event) (k : ℕ) (turns : List (Option ℕ)) → length lines ≤ k
    → OthersStand script turns w step lines k → (c : ℕ) → c < length script.clients → step ≢ Act c → slice_index_or turns c None ≡ turn_of script w c
lines_noted script w step lines k turns past h = λ c below other. h c below other (λ j d after within. absurd (omega (arith, past, after, within)))

-- and the client whose command it was
pub actor_noted : (script : ScriptData) (w : World) (client : ℕ) (turns : List (Option ℕ)) → length turns ≡ length script.clients
    → ((c : ℕ) → c < length script.clients → Act client ≢ Act c → slice_index_or turns c None ≡ turn_of script w c)
    → AreTurns script (with_turn script w (Some client) turns) w
actor_noted script w client turns count h = record {
  count = length-set turns client (turn_of script w client) ∙ count;
  turns_are = λ c below. elim (cases_eq client c) [
    | inl same ↦ subst (λ (i : ℕ). slice_index_or (with_turn script w (Some i) turns) c None ≡ turn_of script w c) (sym same) (turn_here script w c turns count below)
    | inr apart ↦ turn_there script w (Some client) c turns (λ f. apart (some_equal client c f)) ∙ h c below (λ e. apart (same_client client c e))
  ];
}
  where
    same_client : (a b : ℕ) → Act a ≡ Act b → a ≡ b
    same_client a b e = cc

-- a take is no client's command
pub none_acted : (script : ScriptData) (w : World) (sender : ℕ) (turns : List (Option ℕ)) → length turns ≡ length script.clients
    → ((c : ℕ) → c < length script.clients → Take sender ≢ Act c → slice_index_or turns c None ≡ turn_of script w c) → AreTurns script turns w
none_acted script w sender turns count h = record { count = count; turns_are = λ c below. h c below (no_act c) }
  where
    no_act : (c : ℕ) → Take sender ≢ Act c
    no_act c e = cc

-- the first of the clients, as all are noted at the start
pub client_noted : (script : ScriptData) (w : World) (client : ℕ) (turns : List (Option ℕ)) → length turns ≡ length script.clients → client < length script.clients
    → ((c : ℕ) → c < client → slice_index_or turns c None ≡ turn_of script w c)
    → (c : ℕ) → c < client + 1 → slice_index_or (with_turn script w (Some client) turns) c None ≡ turn_of script w c
client_noted script w client turns count inside h c below = elim (cases_eq client c) [
  | inl same ↦ subst (λ (i : ℕ). slice_index_or (with_turn script w (Some i) turns) c None ≡ turn_of script w c) (sym same) (turn_here script w c turns count (omega (arith, inside, same)))
  | inr apart ↦ turn_there script w (Some client) c turns (λ f. apart (some_equal client c f)) ∙ h c (omega (arith, below, apart))
]
