-- Where a world rests, which moves are enabled, and which of them is first.
use Rattle.std.specs.List.{list_any}
use Rattle.std.proofs.Common.{◌≡◌, ◌≢◌, Bool, true, false, ℕ, zero, suc, ◌<◌, ◌≤◌, ◌-◌, List, [], ◌∷◌, length, Option, Some, None, inl, inr, refl, sym, ap, subst, ◌∙◌, arith, ◌&&◌, ◌==◌, ◌↔◌, not, nat_lt, if◌then◌else◌, IsTrue, IsFalse, IsNone, Contains, is_some, slice_get, option_map, eqb-true, eq-eqb, ne_eqb, ltb-true, ltb-false, lt-ltb, ◌⊎◌, ◌||◌}
use Rattle.std.proofs.lemmas.Bool.{and_parts, and_from, or_cases, not-true, false_from_ne_true, false≢true, cases_eq, or_left, or_right}
use Rattle.lt_modes.specs.declared.ask.Ask.{Ask}
use Rattle.lt_modes.specs.declared.moves.Step.{Step}
use Rattle.lt_modes.specs.declared.moves.Step.TheVariants.{Act, Take}
use Rattle.lt_modes.specs.Script.{ScriptData}
use Rattle.lt_modes.specs.State.{Letter}
use Rattle.lt_modes.specs.Serving.{is_gone}
use Rattle.lt_modes.specs.Waiting.{waits}
use Rattle.lt_spec.specs.NodeMove.{home, commands_of, node_waits, has_command, next_command, withdraws_itself, is_free_at}
use Rattle.lt_spec.specs.World.{World, made_by, is_waiting, is_runnable, is_some_letter, has_mail, is_enabled, is_at_rest, is_free_to_act}
use Rattle.lt_spec.specs.FixedOrder.{Turn, act_turn, takes, next_act, act_after, acts_before, count_turns}
use Rattle.lt_lists.specs.Below.{any_below}
use Rattle.lt_lists.proofs.Searches.{any_below_at, Found, IsFirst, found}
use Rattle.lt_lists.proofs.Members.{list_any-at, list_any-which, some_equal}
use Rattle.lt_law_enabled.specs.OrderLaws.{RestsWithoutMove, MayAct, ActsWhereItMay, HasLetter, TakesWhereMailIs, StepBefore, IsFirstTurn, PicksFirst, PicksWithinCount, WaitsForNothing}
use Rattle.lt_law_enabled.proofs.Acts.{by_two, acts_order, after_this, no_place}
use Rattle.lt_law_enabled.proofs.Takes.{IsFirstTake, first_take, none_taken, receiver_inside}

any_below_which : (n : ℕ) (test : ℕ → Bool) → any_below n test ≡ true → (k : ℕ) × (k < n) × (test k ≡ true)
any_below_which zero test e = absurd (false≢true e)
any_below_which (suc n) test e = elim (or_cases (any_below n test) (test n) e) [
  | inl before ↦
      let found = any_below_which n test before in
      (found.0, omega (arith, found.1), found.2)
  | inr here ↦ (n, omega arith, here)
]

any_below_not : (n : ℕ) (test : ℕ → Bool) → ((k : ℕ) → k < n → test k ≡ true → ⊥) → any_below n test ≡ false
any_below_not n test none =
    false_from_ne_true (any_below n test) (λ e. let found = any_below_which n test e in none found.0 found.1 found.2)

-- acts

act_parts : (script : ScriptData) (w : World) (q client : ℕ) → is_enabled script w q (Act client) ≡ true
    → (client < length script.clients) × (home script client ≡ q) × (is_runnable script w client ≡ true)
act_parts script w q client e =
    let parts = and_parts (nat_lt client (length script.clients)) (home script client == q && is_runnable script w client) e in
    let rest = and_parts (home script client == q) (is_runnable script w client) parts.1 in
    (ltb-true client (length script.clients) parts.0, eqb-true (home script client) q rest.0, rest.1)

act_from : (script : ScriptData) (w : World) (client : ℕ) → client < length script.clients → is_runnable script w client ≡ true
    → is_enabled script w (home script client) (Act client) ≡ true
act_from script w client inside runs =
    and_from (nat_lt client (length script.clients)) (home script client == home script client && is_runnable script w client) (lt-ltb client (length script.clients) inside)
    (and_from (home script client == home script client) (is_runnable script w client) (eq-eqb (home script client) (home script client) refl) runs)

runs_where : (script : ScriptData) (w : World) (client : ℕ) → is_runnable script w client ≡ true
    → (is_free_to_act script w client ≡ true) × (made_by script w client < length (commands_of script client))
runs_where script w client e =
    let parts = and_parts (is_free_to_act script w client) (has_command script (w.node (home script client)) client) e in
    (parts.0, ltb-true (made_by script w client) (length (commands_of script client)) parts.1)

waits_not : (script : ScriptData) (w : World) (client q : ℕ) → node_waits script (w.node q) client ≡ false
    → WaitsForNothing script (w.node q) client
waits_not script w client q fails s inside ask known live same =
    let t = (w.node q).set s in
    false≢true (sym fails ∙ any_below_at (length script.sets) s (λ s. waits ((w.node q).set s) client) inside
    (and_from (list_any (λ (ask : Ask). ask.client == client) t.pending) (not (is_gone t client))
    (list_any-at (λ (ask : Ask). ask.client == client) t.pending ask known (eq-eqb ask.client client same)) (ap not live)))

no_wait : (script : ScriptData) (w : World) (client q : ℕ) → WaitsForNothing script (w.node q) client
    → node_waits script (w.node q) client ≡ false
no_wait script w client q none = any_below_not (length script.sets) (λ s. waits ((w.node q).set s) client) (λ s inside e.
    let t = (w.node q).set s in
    let parts = and_parts (list_any (λ (ask : Ask). ask.client == client) t.pending) (not (is_gone t client)) e in
    let found = list_any-which (λ (ask : Ask). ask.client == client) t.pending parts.0 in
    none s inside found.0 found.1 (not-true (is_gone t client) parts.1) (eqb-true found.0.client client found.2))

-- the client is free to act exactly where it waits for nothing, or gives up what it waits for
free_where : (script : ScriptData) (w : World) (client q : ℕ) → is_free_at script (w.node q) client ≡ true
    → WaitsForNothing script (w.node q) client ⊎ (withdraws_itself (w.node q) client (next_command script (w.node q) client) ≡ true)
free_where script w client q e = elim (or_cases (not (node_waits script (w.node q) client)) (withdraws_itself (w.node q) client (next_command script (w.node q) client)) e) [
  | inl idle ↦ inl (waits_not script w client q (not-true (node_waits script (w.node q) client) idle))
  | inr itself ↦ inr itself
]

free_from : (script : ScriptData) (w : World) (client q : ℕ)
    → WaitsForNothing script (w.node q) client ⊎ (withdraws_itself (w.node q) client (next_command script (w.node q) client) ≡ true) → is_free_at script (w.node q) client ≡ true
free_from script w client q (inl none) = or_left (not (node_waits script (w.node q) client)) _ (ap not (no_wait script w client q none))
free_from script w client q (inr itself) = or_right (not (node_waits script (w.node q) client)) _ itself

pub acts_where : ActsWhereItMay
acts_where script w q client = (only, all)
  where
    only : IsTrue (is_enabled script w q (Act client)) → MayAct script w q client
    only e =
        let parts = act_parts script w q client e in
        let runs = runs_where script w client parts.2 in
        record {
          declared = parts.0;
          at_home = parts.1;
          answered = free_where script w client q (subst (λ (x : ℕ). is_free_at script (w.node x) client ≡ true) parts.1 runs.0);
          command_left = subst (λ (x : ℕ). (w.node x).made client < length (commands_of script client)) parts.1 runs.1;
        }

    all : MayAct script w q client → IsTrue (is_enabled script w q (Act client))
    all may =
        subst (λ (x : ℕ). is_enabled script w x (Act client) ≡ true) may.at_home
        (act_from script w client may.declared
        (and_from (is_free_to_act script w client) (has_command script (w.node (home script client)) client)
        (subst (λ (x : ℕ). is_free_at script (w.node x) client ≡ true) (sym may.at_home) (free_from script w client q may.answered))
        (lt-ltb (made_by script w client) (length (commands_of script client)) (subst (λ (x : ℕ). (w.node x).made client < length (commands_of script client)) (sym may.at_home) may.command_left))))

-- takes

some_letter : (letters : List Letter) → is_some_letter letters ≡ true → letters ≢ []
some_letter [] e same = false≢true e
some_letter (letter ∷ rest) e same = absurd (cc)

letter_there : (letters : List Letter) → letters ≢ [] → is_some_letter letters ≡ true
letter_there [] some = absurd (some refl)
letter_there (letter ∷ rest) some = refl

pub takes_where : TakesWhereMailIs
takes_where script w p q = (only, all)
  where
    only : IsTrue (is_enabled script w q (Take p)) → HasLetter script w p q
    only e =
        let a = and_parts (nat_lt p script.nodes) (nat_lt q script.nodes && (not (p == q) && is_some_letter (w.mail p q))) e in
        let b = and_parts (nat_lt q script.nodes) (not (p == q) && is_some_letter (w.mail p q)) a.1 in
        let c = and_parts (not (p == q)) (is_some_letter (w.mail p q)) b.1 in
        record {
          sender = ltb-true p script.nodes a.0;
          receiver = ltb-true q script.nodes b.0;
          apart = λ same. false≢true (sym (not-true (p == q) c.0) ∙ eq-eqb p q same);
          letter = some_letter (w.mail p q) c.1;
        }

    all : HasLetter script w p q → IsTrue (is_enabled script w q (Take p))
    all has =
        and_from (nat_lt p script.nodes) (nat_lt q script.nodes && (not (p == q) && is_some_letter (w.mail p q))) (lt-ltb p script.nodes has.sender)
        (and_from (nat_lt q script.nodes) (not (p == q) && is_some_letter (w.mail p q)) (lt-ltb q script.nodes has.receiver)
        (and_from (not (p == q)) (is_some_letter (w.mail p q)) (ap not (ne_eqb p q has.apart)) (letter_there (w.mail p q) has.letter)))

-- rest

pub rests : RestsWithoutMove
rests script w = (only, all)
  where
    only : IsTrue (is_at_rest script w) → (q : ℕ) (step : Step) → IsFalse (is_enabled script w q step)
    only e q (Act client) = false_from_ne_true (is_enabled script w q (Act client)) (λ enabled.
        let parts = and_parts (not (any_below (length script.clients) (is_runnable script w))) _ e in
        let act = act_parts script w q client enabled in
        false≢true (sym (not-true _ parts.0) ∙ any_below_at (length script.clients) client (is_runnable script w) act.0 act.2))
    only e q (Take p) = false_from_ne_true (is_enabled script w q (Take p)) (λ enabled.
        let parts = and_parts (not (any_below (length script.clients) (is_runnable script w))) _ e in
        let has = (takes_where script w p q).0 enabled in
        false≢true (sym (not-true _ parts.1) ∙ any_below_at script.nodes p (λ p. any_below script.nodes (has_mail script w p)) has.sender
        (any_below_at script.nodes q (has_mail script w p) has.receiver enabled)))

    all : ((q : ℕ) (step : Step) → IsFalse (is_enabled script w q step)) → IsTrue (is_at_rest script w)
    all none =
        and_from (not (any_below (length script.clients) (is_runnable script w))) (not (any_below script.nodes (λ p. any_below script.nodes (has_mail script w p))))
        (ap not (any_below_not (length script.clients) (is_runnable script w) (λ client inside runs.
        false≢true (sym (none (home script client) (Act client)) ∙ act_from script w client inside runs))))
        (ap not (any_below_not script.nodes (λ p. any_below script.nodes (has_mail script w p)) (λ p inside e.
        let found = any_below_which script.nodes (has_mail script w p) e in
        false≢true (sym (none found.0 (Take p)) ∙ found.2))))

-- the first move

act_leads : (script : ScriptData) (w : World) (first : ℕ) → takes script w ≡ [] → IsFirst (length script.clients) (after_this script w None) (acts_before script w) first
    → (q : ℕ) (step : Step) → is_enabled script w q step ≡ true → StepBefore script w q (home script first) step (Act first) → ⊥
act_leads script w first none h q (Take p) enabled before =
    none_taken script w 0 script.nodes none q p (omega arith) (omega (arith, receiver_inside script w p q enabled)) enabled
act_leads script w first none h q (Act client) enabled before =
    let act = act_parts script w q client enabled in
    elim (cases_eq client first) [
      | inl same ↦
          let as_many : made_by script w client ≡ made_by script w first = ap (made_by script w) same in
          elim before [
            | inl less ↦ omega (arith, less, as_many)
            | inr less ↦ omega (arith, less.1, same)
          ]
      | inr apart ↦
          elim (by_two (made_by script w first) (made_by script w client) first client (h.leads client act.0 (and_from (is_runnable script w client) true act.2 refl) apart)) [
            | inl fewer ↦ elim before [
              | inl less ↦ omega (arith, less, fewer)
              | inr less ↦ omega (arith, less.0, fewer)
            ]
            | inr earlier ↦ elim before [
              | inl less ↦ omega (arith, less, earlier.0)
              | inr less ↦ omega (arith, less.1, earlier.1)
            ]
          ]
    ]

first_act : (script : ScriptData) (w : World) (o : Option ℕ) (turn : Turn) → takes script w ≡ []
    → Found (length script.clients) (after_this script w None) (acts_before script w) o → option_map (act_turn script) o ≡ Some turn → IsFirstTurn script w turn
first_act script w None turn none h e = absurd (cc)
first_act script w (Some client) turn none h e =
    let is_turn : act_turn script client ≡ turn = cc in
    subst (IsFirstTurn script w) is_turn (record {
      enabled = act_from script w client h.inside (and_parts (is_runnable script w client) true h.passes).0;
      leads = act_leads script w client none h;
    })

take_leads : (script : ScriptData) (w : World) (turn : Turn) (first : IsFirstTake script w 0 turn) → (q : ℕ) (step : Step) → is_enabled script w q step ≡ true
    → StepBefore script w q first.q step (Take first.p) → ⊥
take_leads script w turn first q (Take o) enabled before = first.leads q o (omega arith) enabled before
take_leads script w turn first q (Act client) enabled before = before

pub picks_first : PicksFirst
picks_first script w turn e =
    elim (takes script w) as (λ ts. takes script w ≡ ts
    → (if nat_lt 0 (length ts) then slice_get ts 0 else option_map (act_turn script) (act_after script w None (0 - length ts))) ≡ Some turn → IsFirstTurn script w turn) [
      | [] ↦ λ none e. first_act script w (next_act script w None) turn none (found (length script.clients) (after_this script w None) (acts_before script w) (acts_order script w)) e
      | (first ∷ rest) ↦ λ some e.
          let inside : nat_lt 0 (suc (length rest)) ≡ true = lt-ltb 0 (suc (length rest)) (omega arith) in
          let same : first ≡ turn = some_equal first turn (rw inside at e) in
          let t = first_take script w 0 script.nodes first rest some in
          subst (IsFirstTurn script w) (sym t.is_take ∙ same) (record { enabled = t.mail; leads = take_leads script w first t })
    ] refl e

-- how many moves there are

get_inside : {X : Type 0} (xs : List X) (k : ℕ) → k < length xs → is_some (slice_get xs k) ≡ false → ⊥
get_inside [] k inside e = omega (arith, inside)
get_inside (x ∷ xs) zero inside e = false≢true (sym e)
get_inside (x ∷ xs) (suc k) inside e = get_inside xs k (omega (arith, inside)) e

map_none : {X Y : Type 0} (f : X → Y) (o : Option X) → is_some (option_map f o) ≡ is_some o
map_none f None = refl
map_none f (Some x) = refl

pub picks_within : PicksWithinCount
picks_within script w k =
    elim (nat_lt k (length (takes script w))) as (λ t. nat_lt k (length (takes script w)) ≡ t
    → IsNone (if t then slice_get (takes script w) k else option_map (act_turn script) (act_after script w None (k - length (takes script w)))) ↔ (count_turns script w ≤ k)) [
      | true ↦ λ e.
          let inside : k < length (takes script w) = ltb-true k (length (takes script w)) e in
          (λ x. absurd (get_inside (takes script w) k inside x), λ h. absurd (omega (arith, inside, h)))
      | false ↦ λ e.
          let past : length (takes script w) ≤ k = ltb-false k (length (takes script w)) e in
          let places = no_place script w (k - length (takes script w)) in
          let same = map_none (act_turn script) (act_after script w None (k - length (takes script w))) in
          (λ x. omega (arith, places.0 (sym same ∙ x), past), λ h. same ∙ places.1 (omega (arith, h)))
    ] refl
