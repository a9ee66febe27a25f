-- The commands of all clients, and how each node takes those of its own ones.
use Rattle.std.proofs.Common.{◌≡◌, ◌+◌, ◌<◌, ◌≤◌, ◌==◌, ◌++◌, ℕ, List, [], ◌∷◌, length, take, arith, refl, sym, ap, subst, ◌∙◌, slice_index_or, slice_set, if◌then◌else◌, inl, inr, ◌≢◌, Bool, slice_get, Some, take_all, get_or-set_same, get_or-set_other, length-set, filter_map}
use Rattle.std.proofs.lemmas.Bool.{cases_eq, cases_lt, cases_Bool, eqb-true}
use Rattle.std.proofs.lemmas.Option.{slice_get-get_or}
use Rattle.std.proofs.lemmas.List.{length_push, get_or_append_left, get_or_push}
use Rattle.lt_modes.specs.Script.{ScriptData}
use Rattle.lt_modes.specs.declared.command.Command.{Command}
use Rattle.lt_spec.specs.Script.{IsScript}
use Rattle.lt_spec.specs.NodeMove.{commands_of, home, command_if}
use Rattle.lt_node.specs.Clients.{Progress, no_progress, progress_of, with_command, with_request_at, unstarted, HaveAmong, CommandsData, HaveFrom, ListsFrom, AreAtStart, homes_in}
use Rattle.lt_node.proofs.RequestLemmas.{among_more, none_of, one_of, client_of_request}

pub none_among : (script : ScriptData) (lists : List Progress) → ((c : ℕ) → progress_of lists c ≡ no_progress) → HaveAmong script 0 lists
none_among script lists idle = λ client within. idle client

-- with one command more
module _ (script : ScriptData) (k : ℕ) (lists : List Progress) (request : ℕ × Command) where
  abbrev among : ℕ → List Command
  among client = filter_map (command_if client) (take k script.commands)

  abbrev longer : Progress
  longer = with_command (progress_of lists request.0) request.1

  list_added : k < length script.commands → slice_get script.commands k ≡ Some request → request.0 < length lists → HaveAmong script k lists
      → HaveAmong script (k + 1) (slice_set lists request.0 longer)
  list_added inside is known have = λ client within. elim (cases_eq request.0 client) [
    | inl same ↦ subst (λ (c : ℕ). progress_of (slice_set lists request.0 longer) c ≡ unstarted (filter_map (command_if c) (take (k + 1) script.commands))) same
        (get_or-set_same lists request.0 longer no_progress known
        ∙ ap (λ (p : Progress). with_command p request.1) (have request.0 known)
        ∙ ap unstarted (sym (among_more script k request.0 request inside is ∙ one_of request request.0 (among request.0) refl)))
    | inr other ↦ get_or-set_other lists request.0 client longer no_progress (λ e. other (sym e))
        ∙ have client (omega (arith, within, length-set lists request.0 longer))
        ∙ ap unstarted (sym (among_more script k client request inside is ∙ none_of request client (among client) other))
  ]

-- the list that a request goes to
pub list_of_request : (script : ScriptData) (k : ℕ) (requests : List (ℕ × Command)) (d : ℕ × Command) (lists : List Progress) → IsScript script → requests ≡ script.commands → k < length requests
    → length lists ≡ length script.clients → (slice_index_or requests k d).0 < length lists
list_of_request script k requests d lists known same inside count = omega (arith, client_of_request script k requests d known same inside, count)

pub request_met : (script : ScriptData) (k : ℕ) (requests : List (ℕ × Command)) (d : ℕ × Command) (lists new : List Progress) → IsScript script
    → requests ≡ script.commands → k < length requests → length lists ≡ length script.clients → HaveAmong script k lists
    → new ≡ with_request_at (slice_index_or requests k d) lists → (length new ≡ length script.clients) × HaveAmong script (k + 1) new
request_met script k requests d lists new known same inside count have is =
    let request = slice_index_or requests k d in
    let within : k < length script.commands = omega (arith, inside, ap (λ (l : List (ℕ × Command)). length l) same) in
    let at : slice_get script.commands k ≡ Some request =
    slice_get-get_or script.commands k d within ∙ ap (λ (l : List (ℕ × Command)). Some (slice_index_or l k d)) (sym same) in
    let of_script : request.0 < length script.clients = client_of_request script k requests d known same inside in (
      ap (λ (l : List Progress). length l) is ∙ length-set lists request.0 (with_command (progress_of lists request.0) request.1) ∙ count,
      subst (HaveAmong script (k + 1)) (sym is) (list_added script k lists request within at (omega (arith, of_script, count)) have),
    )

-- so all commands are in the lists
from_first : (script : ScriptData) (lists : List Progress) → length lists ≡ length script.clients → HaveAmong script (length script.commands) lists → ListsFrom script 0 lists
from_first script lists count have = record {
  count = count;
  each = λ client within least. have client within
      ∙ ap (λ (cs : List (ℕ × Command)). unstarted (filter_map (command_if client) cs)) (take_all (length script.commands) script.commands (omega arith));
}

pub have_first : (script : ScriptData) (lists : List Progress) (homes : List ℕ) → IsScript script → length lists ≡ length script.clients
    → HaveAmong script (length script.commands) lists → homes ≡ homes_in script → HaveFrom script 0 (record { lists = lists; homes = homes })
have_first script lists homes known count have same = record { is_script = known; lists_are = from_first script lists count have; homes_are = same }

-- a node took those of its own ones
pub have_left : (script : ScriptData) (q : ℕ) (old new : CommandsData) → HaveFrom script q old → new.homes ≡ old.homes → ListsFrom script (q + 1) new.lists
    → HaveFrom script (q + 1) new
have_left script q old new have same left = record { is_script = have.is_script; lists_are = left; homes_are = same ∙ have.homes_are }

-- The node has the first k clients as it keeps them; of the lists it took those of its own ones among them.
pub record AreTaken (script : ScriptData) (q k : ℕ) (lists clients : List Progress) : Type 0 where
  pub made : length clients ≡ k
  pub count : length lists ≡ length script.clients
  pub each : AreAtStart script q clients
  pub later : (client : ℕ) → k ≤ client → client < length lists → q ≤ home script client → progress_of lists client ≡ unstarted (commands_of script client)
  pub left : (client : ℕ) → client < length lists → q + 1 ≤ home script client → progress_of lists client ≡ unstarted (commands_of script client)

pub taken_none : (script : ScriptData) (q : ℕ) (lists clients : List Progress) → clients ≡ [] → ListsFrom script q lists → AreTaken script q 0 lists clients
taken_none script q lists clients none from = record {
  made = ap (λ (l : List Progress). length l) none;
  count = from.count;
  each = subst (AreAtStart script q) (sym none) (λ client within. absurd (omega (arith, within)));
  later = λ client above within here. from.each client within here;
  left = λ client within here. from.each client within (omega (arith, here));
}

module _ (script : ScriptData) (q k : ℕ) (lists clients : List Progress) where
  -- the clients with one more, which is as it is at the start
  abbrev IsStart : ℕ → Progress → Type 0
  IsStart client p = p ≡ record { commands = if home script client == q then commands_of script client else []; made = 0 }

  each_more : (next : Progress) → AreTaken script q k lists clients → IsStart k next → AreAtStart script q (clients ++ next ∷ [])
  each_more next taken is = λ client within. elim (cases_lt client (length clients)) [
    | inl below ↦ get_or_append_left clients (next ∷ []) no_progress client below ∙ taken.each client below
    | inr above ↦
        let same : k ≡ client = omega (arith, above, within, length_push clients next, taken.made) in
        get_or_push clients next no_progress client (taken.made ∙ same) ∙ subst (λ (c : ℕ). IsStart c next) same is
  ]

  pub taken_more : (next : Progress) (new : List Progress) → AreTaken script q k lists clients → k < length script.clients
      → next ≡ (if home script k == q then progress_of lists k else no_progress) → new ≡ (if home script k == q then slice_set lists k no_progress else lists)
      → AreTaken script q (k + 1) new (clients ++ next ∷ [])
  taken_more next new taken inside next_is new_is = elim (cases_Bool (home script k == q)) [
    | inl mine ↦
        let here : home script k ≡ q = eqb-true (home script k) q mine in
        let known : k < length lists = omega (arith, inside, taken.count) in
        let set : new ≡ slice_set lists k no_progress = new_is ∙ ap (λ (b : Bool). if b then slice_set lists k no_progress else lists) mine in
        let same : (client : ℕ) → client ≢ k → progress_of new client ≡ progress_of lists client =
        λ client other. ap (λ (l : List Progress). progress_of l client) set ∙ get_or-set_other lists k client no_progress no_progress other in
        let long : length new ≡ length lists = ap (λ (l : List Progress). length l) set ∙ length-set lists k no_progress in
        let started : IsStart k next =
        next_is ∙ ap (λ (b : Bool). if b then progress_of lists k else no_progress) mine
        ∙ taken.later k (omega arith) known (omega (arith, here))
        ∙ ap (λ (b : Bool). unstarted (if b then commands_of script k else [])) (sym mine) in record {
          made = omega (arith, taken.made, length_push clients next);
          count = long ∙ taken.count;
          each = each_more next taken started;
          later = λ client after within from. same client (λ e. absurd (omega (arith, after, e))) ∙ taken.later client (omega (arith, after)) (omega (arith, within, long)) from;
          left = λ client within from. same client (λ e. absurd (omega (arith, here, from, ap (home script) e))) ∙ taken.left client (omega (arith, within, long)) from;
        }
    | inr theirs ↦
        let set : new ≡ lists = new_is ∙ ap (λ (b : Bool). if b then slice_set lists k no_progress else lists) theirs in
        let started : IsStart k next =
        next_is ∙ ap (λ (b : Bool). if b then progress_of lists k else no_progress) theirs
        ∙ ap (λ (b : Bool). unstarted (if b then commands_of script k else [])) (sym theirs) in
        subst (λ (l : List Progress). AreTaken script q (k + 1) l (clients ++ next ∷ [])) (sym set) record {
          made = omega (arith, taken.made, length_push clients next);
          count = taken.count;
          each = each_more next taken started;
          later = λ client after within from. taken.later client (omega (arith, after)) within from;
          left = taken.left;
        }
  ]
