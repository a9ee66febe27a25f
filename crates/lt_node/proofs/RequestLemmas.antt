-- A node at the start.
use Rattle.std.proofs.Common.{◌≡◌, ◌+◌, ◌-◌, ◌<◌, ◌≤◌, ◌==◌, ◌++◌, ℕ, List, [], ◌∷◌, length, map, take, arith, refl, sym, ap, subst, ◌∙◌, slice_index_or, if◌then◌else◌, inl, inr, ◌≢◌, Some, None, Bool, true, false, zero, suc, slice_get, slice_set, append-nil, take_all, eq-eqb, ne_eqb, get_or-set_same, get_or-set_other, length-set, filter_map}
use Rattle.std.proofs.Math.Path.{fun_ext}
use Rattle.std.proofs.lemmas.Bool.{cases_eq, cases_lt, cases_Bool}
use Rattle.std.proofs.lemmas.Option.{slice_get-get_or}
use Rattle.std.proofs.lemmas.List.{length-take, take_more, map-append, length-map, get_or_default, get_or_past}
use Rattle.std.proofs.Math.ListN.{get_or-append, get_or-map as map_read}
use Rattle.std.proofs.Math.Seq.{get_or-append_right}
use Rattle.std.specs.List.{cons_option}
use Rattle.std.proofs.lemmas.List.Elements.{filter_map-append}
use Rattle.lt_modes.specs.Script.{ScriptData, ClientData, home_at, node_of_client}
use Rattle.lt_modes.specs.State.{first_state}
use Rattle.lt_modes.specs.declared.command.Command.{Command}
use Rattle.lt_spec.specs.Script.{IsScript}
use Rattle.lt_spec.specs.NodeMove.{commands_of, home, command_if}
use Rattle.lt_spec.specs.World.{start}
use Rattle.lt_core.specs.CoreData.{CoreData}
use Rattle.lt_node.specs.NodeData.{IsNode, IsCoreOf, state_of, first_core, untouched}
use Rattle.lt_node.specs.Sets.{AreSetsOf, SetsData, core_in}
use Rattle.lt_node.specs.Clients.{Progress, KnowsClients, homes_in, no_progress, progress_made, HaveFirst, progress_of, no_command, with_command, with_own_request, first_commands}

abbrev no_client : ClientData
no_client = record { name = []; node = 0 }

-- one client more, with no command
pub idle_more : (clients more : List Progress) (client : Progress) (k : ℕ) → more ≡ clients ++ client ∷ [] → client ≡ no_progress
    → ((j : ℕ) → progress_of clients j ≡ no_progress) → progress_of more k ≡ no_progress
idle_more clients more client k is new idle =
    ap (λ (l : List Progress). progress_of l k) (is ∙ ap (λ (x : Progress). clients ++ x ∷ []) new)
    ∙ elim (cases_lt k (length clients)) as (λ _. progress_of (clients ++ no_progress ∷ []) k ≡ no_progress) [
      | inl inside ↦ get_or-append clients (no_progress ∷ []) no_progress k inside ∙ idle k
      | inr past ↦ get_or-append_right clients (no_progress ∷ []) k no_progress past ∙ none (k - length clients)
    ]
  where
    none : (j : ℕ) → progress_of (no_progress ∷ []) j ≡ no_progress
    none zero = refl
    none (suc j) = refl

-- the homes of the first k clients are no more than k
pub homes_met : (clients : List ClientData) (k : ℕ) (homes : List ℕ) → homes ≡ map (λ (client : ClientData). client.node) (take k clients) → length homes ≤ k
homes_met clients k homes so =
    let node : ClientData → ℕ = λ client. client.node in
    omega (arith, ap (λ (l : List ℕ). length l) so, length-map (take k clients) node, length-take k clients)

pub home_more : (clients : List ClientData) (k home : ℕ) (homes : List ℕ) → k < length clients → home ≡ home_at clients k → homes ≡ map (λ (client : ClientData). client.node) (take k clients)
    → homes ++ home ∷ [] ≡ map (λ (client : ClientData). client.node) (take (k + 1) clients)
home_more clients k home homes inside is so =
    let node : ClientData → ℕ = λ client. client.node in
    let here : home ≡ node (slice_index_or clients k no_client) = is ∙ ap node_of_client (slice_get-get_or clients k no_client inside) in
    ap (λ (l : List ℕ). l ++ home ∷ []) so ∙ ap (λ (x : ℕ). map node (take k clients) ++ x ∷ []) here
    ∙ sym (map-append node (take k clients) (slice_index_or clients k no_client ∷ [])) ∙ ap (map node) (sym (take_more clients k no_client inside))

-- what is read of the nodes of the clients
pub home_is : (script : ScriptData) (homes : List ℕ) (client : ℕ) → homes ≡ homes_in script → client < length homes → slice_index_or homes client 0 ≡ home script client
home_is script homes client same inside =
    let node : ClientData → ℕ = λ client. client.node in
    let within : client < length script.clients = omega (arith, inside, ap (λ (l : List ℕ). length l) same, length-map script.clients node) in
    ap (λ (l : List ℕ). slice_index_or l client 0) same ∙ map_read node script.clients client no_client
    ∙ sym (ap node_of_client (slice_get-get_or script.clients client no_client within))

pub homes_count : (script : ScriptData) (homes : List ℕ) → homes ≡ homes_in script → length homes ≡ length script.clients
homes_count script homes same = ap (λ (l : List ℕ). length l) same ∙ length-map script.clients (λ (client : ClientData). client.node)

-- the clients at the start
abbrev pub AreNew : ScriptData → ℕ → List Progress → Type 0
AreNew script q clients = (c : ℕ) → c < length clients → slice_index_or clients c no_progress ≡ record { commands = if home script c == q then commands_of script c else []; made = 0 }

nothing_made : (script : ScriptData) (q : ℕ) (clients : List Progress) (k : ℕ) → AreNew script q clients → progress_made (slice_index_or clients k no_progress) ≡ 0
nothing_made script q clients k new = elim (cases_lt k (length clients)) [
  | inl below ↦ ap progress_made (new k below)
  | inr above ↦ ap progress_made (get_or_past clients k no_progress above)
]

pub state_at_start : (script : ScriptData) (q : ℕ) (clients : List Progress) (cores : List CoreData) → AreNew script q clients
    → ((s : ℕ) → (slice_index_or cores s (first_core script q s)).state ≡ (first_core script q s).state)
    → state_of (record { script = script; gone = 0; me = q; clock = 0; made = map progress_made clients; cores = cores }) ≡ (start script).node q
state_at_start script q clients cores new states =
    let made : (λ (c : ℕ). slice_index_or (map progress_made clients) c 0) ≡ (λ c. 0) =
    fun_ext (λ c. map_read progress_made clients c no_progress ∙ nothing_made script q clients c new) in
    let sets : (λ (s : ℕ). (slice_index_or cores s (first_core script q s)).state) ≡ (λ s. first_state script.nodes q) = fun_ext states in
    λ i. record { clock = 0; made = made i; set = sets i }

pub clients_known : (script : ScriptData) (q : ℕ) (homes : List ℕ) (clients : List Progress) → homes ≡ map (λ (client : ClientData). client.node) script.clients → AreNew script q clients
    → KnowsClients script q homes clients
clients_known script q homes clients same new = record {
  homes_are = same;
  own = λ client inside own. ap (λ (p : Progress). p.commands) (new client inside) ∙ rw (eq-eqb (home script client) q own) refl;
}

pub node_at_start : (script : ScriptData) (q : ℕ) (clients : List Progress) (sets : SetsData) → IsScript script → q < script.nodes → length clients ≡ length script.clients → AreSetsOf script q sets
    → IsNode (record { script = script; gone = 0; me = q; clock = 0; made = map progress_made clients; cores = sets.cores })
node_at_start script q clients sets known within count of = record {
  is_script = known;
  within = within;
  clients = length-map clients progress_made ∙ count;
  sets = of.count;
  places = λ s inside.
      subst (λ (c : CoreData). IsCoreOf q s c) (get_or_default sets.cores s (untouched sets.nodes sets.me s) (first_core script q s) inside) (of.places s);
}

-- each set is in its first state
pub sets_at_start : (script : ScriptData) (q : ℕ) (sets : SetsData) → AreSetsOf script q sets → ((s : ℕ) → core_in sets s ≡ first_core script q s)
    → (s : ℕ) → (slice_index_or sets.cores s (first_core script q s)).state ≡ (first_core script q s).state
sets_at_start script q sets of first s =
    let same : slice_index_or sets.cores s (first_core script q s) ≡ core_in sets s = λ i. slice_index_or sets.cores s (untouched (sym of.nodes i) (sym of.node i) s) in
    ap (λ (c : CoreData). c.state) (same ∙ first s)

-- The clients get their commands one after the other.

no_request : ℕ × Command
no_request = (0, no_command)

-- the request that stands at a place
slice_at : (xs : List (ℕ × Command)) (k : ℕ) (r : ℕ × Command) → slice_get xs k ≡ Some r → slice_index_or xs k no_request ≡ r
slice_at [] k r e = absurd (cc)
slice_at (x ∷ xs) zero r e = cc
slice_at (x ∷ xs) (suc k) r e = slice_at xs k r e

-- is that of a client of the script
pub client_of_request : (script : ScriptData) (k : ℕ) (requests : List (ℕ × Command)) (d : ℕ × Command) → IsScript script → requests ≡ script.commands → k < length requests
    → (slice_index_or requests k d).0 < length script.clients
client_of_request script k requests d known same inside =
    subst (λ (l : List (ℕ × Command)). (slice_index_or l k d).0 < length script.clients) (sym same)
    (known.requests k d (omega (arith, inside, ap (λ (l : List (ℕ × Command)). length l) same))).0

pub home_of_request : (script : ScriptData) (homes : List ℕ) (k : ℕ) (requests : List (ℕ × Command)) (d : ℕ × Command) → IsScript script → homes ≡ homes_in script → requests ≡ script.commands → k < length requests
    → (slice_index_or requests k d).0 < length homes
home_of_request script homes k requests d known at_homes same inside = omega (arith, client_of_request script k requests d known same inside, homes_count script homes at_homes)

-- the commands of a client among one more
pub among_more : (script : ScriptData) (k client : ℕ) (request : ℕ × Command) → k < length script.commands → slice_get script.commands k ≡ Some request
    → filter_map (command_if client) (take (k + 1) script.commands) ≡ filter_map (command_if client) (take k script.commands) ++ filter_map (command_if client) (request ∷ [])
among_more script k client request inside is =
    let here : slice_index_or script.commands k no_request ≡ request = slice_at script.commands k request is in
    ap (filter_map (command_if client)) (take_more script.commands k no_request inside ∙ ap (λ (r : ℕ × Command). take k script.commands ++ r ∷ []) here)
    ∙ filter_map-append (command_if client) (take k script.commands) (request ∷ [])

-- one of another client adds nothing
pub none_of : (request : ℕ × Command) (client : ℕ) (xs : List Command) → request.0 ≢ client → xs ++ filter_map (command_if client) (request ∷ []) ≡ xs
none_of request client xs other =
    ap (λ (b : Bool). xs ++ cons_option (if b then Some request.1 else None) []) (ne_eqb request.0 client other) ∙ append-nil xs

pub one_of : (request : ℕ × Command) (client : ℕ) (xs : List Command) → request.0 ≡ client → xs ++ filter_map (command_if client) (request ∷ []) ≡ xs ++ request.1 ∷ []
one_of request client xs same = ap (λ (b : Bool). xs ++ cons_option (if b then Some request.1 else None) []) (eq-eqb request.0 client same)

-- the clients with this command where its client is one of node q
abbrev added : ScriptData → ℕ → ℕ × Command → List Progress → List Progress
added script q request clients =
    if home script request.0 == q then slice_set clients request.0 (with_command (progress_of clients request.0) request.1) else clients

-- a client before its first command
abbrev fresh : List Command → Progress
fresh commands = record { commands = commands; made = 0 }

-- the clients with one command more
module _ (script : ScriptData) (q k : ℕ) (clients : List Progress) (request : ℕ × Command) where
  abbrev among : ℕ → List Command
  among client = filter_map (command_if client) (take k script.commands)

  abbrev more : ℕ → List Command
  more client = filter_map (command_if client) (take (k + 1) script.commands)

  abbrev longer : Progress
  longer = with_command (progress_of clients request.0) request.1

  -- another client has no command more
  unchanged : k < length script.commands → slice_get script.commands k ≡ Some request → HaveFirst script q k clients
      → (client : ℕ) → request.0 ≢ client → client < length clients → progress_of clients client ≡ fresh (first_commands script q (k + 1) client)
  unchanged inside is first client other within =
      first client within
      ∙ ap (λ (cs : List Command). fresh (if home script client == q then cs else []))
      (sym (among_more script k client request inside is ∙ none_of request client (among client) other))

  changed : k < length script.commands → slice_get script.commands k ≡ Some request → request.0 < length clients → HaveFirst script q k clients → home script request.0 == q ≡ true
      → longer ≡ fresh (first_commands script q (k + 1) request.0)
  changed inside is known first mine =
      let before : progress_of clients request.0 ≡ fresh (among request.0) =
      first request.0 known ∙ ap (λ (b : Bool). fresh (if b then among request.0 else [])) mine in
      let after : first_commands script q (k + 1) request.0 ≡ among request.0 ++ request.1 ∷ [] =
      ap (λ (b : Bool). if b then more request.0 else []) mine ∙ (among_more script k request.0 request inside is ∙ one_of request request.0 (among request.0) refl) in
      ap (λ (p : Progress). with_command p request.1) before ∙ ap fresh (sym after)

  own_added : k < length script.commands → slice_get script.commands k ≡ Some request → request.0 < length clients → HaveFirst script q k clients → home script request.0 == q ≡ true
      → HaveFirst script q (k + 1) (slice_set clients request.0 longer)
  own_added inside is known first mine = λ client within. elim (cases_eq request.0 client) [
    | inl same ↦ subst (λ (c : ℕ). progress_of (slice_set clients request.0 longer) c ≡ fresh (first_commands script q (k + 1) c)) same
        (get_or-set_same clients request.0 longer no_progress known ∙ changed inside is known first mine)
    | inr other ↦ get_or-set_other clients request.0 client longer no_progress (λ e. other (sym e))
        ∙ unchanged inside is first client other (omega (arith, within, length-set clients request.0 longer))
  ]

  other_added : k < length script.commands → slice_get script.commands k ≡ Some request → HaveFirst script q k clients → home script request.0 == q ≡ false
      → HaveFirst script q (k + 1) clients
  other_added inside is first theirs = λ client within. elim (cases_eq request.0 client) [
    | inl same ↦
        let none : home script client == q ≡ false = subst (λ (c : ℕ). home script c == q ≡ false) same theirs in
        first client within
        ∙ (ap (λ (b : Bool). fresh (if b then among client else [])) none ∙ sym (ap (λ (b : Bool). fresh (if b then more client else [])) none))
    | inr other ↦ unchanged inside is first client other within
  ]

  pub request_added : k < length script.commands → slice_get script.commands k ≡ Some request → request.0 < length clients → HaveFirst script q k clients
      → HaveFirst script q (k + 1) (added script q request clients)
  request_added inside is known first = elim (cases_Bool (home script request.0 == q)) [
    | inl mine ↦ subst (HaveFirst script q (k + 1)) (sym (ap (λ (b : Bool). if b then slice_set clients request.0 longer else clients) mine)) (own_added inside is known first mine)
    | inr theirs ↦ subst (HaveFirst script q (k + 1)) (sym (ap (λ (b : Bool). if b then slice_set clients request.0 longer else clients) theirs)) (other_added inside is first theirs)
  ]

pub count_kept : (script : ScriptData) (q : ℕ) (request : ℕ × Command) (clients : List Progress) → length (added script q request clients) ≡ length clients
count_kept script q request clients = elim (cases_Bool (home script request.0 == q)) [
  | inl mine ↦ ap (λ (b : Bool). length (if b then slice_set clients request.0 longer else clients)) mine ∙ length-set clients request.0 longer
  | inr theirs ↦ ap (λ (b : Bool). length (if b then slice_set clients request.0 longer else clients)) theirs
]
  where
    longer : Progress
    longer = with_command (progress_of clients request.0) request.1

-- so the clients have one command more
pub one_more : (script : ScriptData) (homes : List ℕ) (q k : ℕ) (requests : List (ℕ × Command)) (d : ℕ × Command) (clients new : List Progress) → IsScript script → homes ≡ homes_in script
    → requests ≡ script.commands → k < length requests → length clients ≡ length script.clients → HaveFirst script q k clients
    → new ≡ with_own_request homes q (slice_index_or requests k d) clients → (length new ≡ length script.clients) × HaveFirst script q (k + 1) new
one_more script homes q k requests d clients new known at_homes same inside count first is =
    let request = slice_index_or requests k d in
    let within : k < length script.commands = omega (arith, inside, ap (λ (l : List (ℕ × Command)). length l) same) in
    let at : slice_get script.commands k ≡ Some request =
    slice_get-get_or script.commands k d within ∙ ap (λ (l : List (ℕ × Command)). Some (slice_index_or l k d)) (sym same) in
    let of_script : request.0 < length script.clients = client_of_request script k requests d known same inside in
    let here : slice_index_or homes request.0 0 ≡ home script request.0 =
    home_is script homes request.0 at_homes (omega (arith, of_script, homes_count script homes at_homes)) in
    let made : new ≡ added script q request clients =
    is ∙ ap (λ (h : ℕ). if h == q then slice_set clients request.0 (with_command (progress_of clients request.0) request.1) else clients) here in (
      ap (λ (l : List Progress). length l) made ∙ count_kept script q request clients ∙ count,
      subst (HaveFirst script q (k + 1)) (sym made) (request_added script q k clients request within at (omega (arith, of_script, count)) first),
    )

abbrev no_commands : List Command
no_commands = []

pub none_yet : (script : ScriptData) (q : ℕ) (clients : List Progress) → ((c : ℕ) → progress_of clients c ≡ no_progress) → HaveFirst script q 0 clients
none_yet script q clients idle = λ client within. idle client ∙ sym (ap (λ (cs : List Command). record { commands = cs; made = 0 }) (none_of_node (home script client == q)))
  where
    none_of_node : (b : Bool) → (if b then no_commands else no_commands) ≡ no_commands
    none_of_node true = refl
    none_of_node false = refl

pub all_added : (script : ScriptData) (q : ℕ) (clients : List Progress) → HaveFirst script q (length script.commands) clients
    → (c : ℕ) → c < length clients → progress_of clients c ≡ record { commands = if home script c == q then commands_of script c else []; made = 0 }
all_added script q clients first = λ c within.
    first c within
    ∙ ap (λ (cs : List (ℕ × Command)). record { commands = if home script c == q then filter_map (command_if c) cs else []; made = 0 })
    (take_all (length script.commands) script.commands (omega arith))
