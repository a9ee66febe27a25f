-- What is added to a script leaves a script.
use Rattle.std.proofs.Common.{◌≡◌, ◌≢◌, ℕ, zero, suc, ◌+◌, ◌^◌, ◌<◌, ◌≤◌, ◌==◌, ◌⊎◌, cond, List, [], ◌∷◌, ◌++◌, length, Option, Some, None, is_some, true, false, slice_get, get_or, refl, sym, ap, subst, ◌∙◌, inl, inr, arith, eq-eqb, ne_eqb, lt-ltb, le-ltb, if◌then◌else◌, bytes_eq}
use Rattle.std.proofs.lemmas.Bool.{cases_eq, cases_lt}
use Rattle.std.proofs.lemmas.List.{length_push}
use Rattle.std.proofs.lemmas.List.Elements.{All-nil, All-push}
use Rattle.std.proofs.lemmas.List.Sums.{sum_by-append}
use Rattle.std.proofs.lemmas.Option.{slice_get_read}
use Rattle.lt_modes.specs.declared.command.Command.{Command}
use Rattle.lt_modes.specs.declared.command.Command.TheVariants.{Lock, Try, Unlock, Change, DropAll, Withdraw}
use Rattle.lt_modes.specs.Script.{ScriptData, SetData, ClientData, family_at, home_at, name_of_set, family_of_set, name_of_client, node_of_client}
use Rattle.lt_spec.specs.declared.limits.TheConstants.{MAX_SETS_OF_SERVICE, MAX_CLIENTS, MAX_CLIENTS_OF_FIRST, MAX_CLIENTS_OF_SECOND, MAX_CLIENTS_OF_NODE, MAX_COMMANDS_OF_SERVICE}
use Rattle.lt_spec.specs.Script.{is_name, IsScript, IsFamilyOfNext, IsRequest, IsOfVersion, HasTargets, most_clients, load_of, set_number, client_number, is_declared}
use Rattle.lt_script.specs.ByName.{has_parent, new_set}
use Rattle.lt_script.specs.declared.script.by_name.SetByName.TheVariants.{Set, TooMany}
use Rattle.lt_script.proofs.NameLemmas.{found_stays, found_last, found_never, is_new, same_name, set_not_client}

pub get_front : {X : Type 0} → (xs : List X) (y : X) (k : ℕ) → k < length xs → slice_get (xs ++ y ∷ []) k ≡ slice_get xs k
get_front [] y k inside = absurd (omega arith)
get_front (x ∷ xs) y zero inside = refl
get_front (x ∷ xs) y (suc k) inside = get_front xs y k (omega arith)

pub get_last : {X : Type 0} → (xs : List X) (y : X) → slice_get (xs ++ y ∷ []) (length xs) ≡ Some y
get_last [] y = refl
get_last (x ∷ xs) y = get_last xs y

-- the names of earlier sets stay
set_name_front : (sets : List SetData) (x : SetData) (set : ℕ) → set < length sets → name_of_set (slice_get (sets ++ x ∷ []) set) ≡ name_of_set (slice_get sets set)
set_name_front sets x set inside = ap name_of_set (get_front sets x set inside)

set_name_last : (sets : List SetData) (x : SetData) (set : ℕ) → set ≡ length sets → name_of_set (slice_get (sets ++ x ∷ []) set) ≡ x.name
set_name_last sets x set e = ap (λ k. name_of_set (slice_get (sets ++ x ∷ []) k)) e ∙ ap name_of_set (get_last sets x)

client_name_front : (clients : List ClientData) (x : ClientData) (client : ℕ) → client < length clients → name_of_client (slice_get (clients ++ x ∷ []) client) ≡ name_of_client (slice_get clients client)
client_name_front clients x client inside = ap name_of_client (get_front clients x client inside)

client_name_last : (clients : List ClientData) (x : ClientData) (client : ℕ) → client ≡ length clients → name_of_client (slice_get (clients ++ x ∷ []) client) ≡ x.name
client_name_last clients x client e = ap (λ k. name_of_client (slice_get (clients ++ x ∷ []) k)) e ∙ ap name_of_client (get_last clients x)

-- the families of earlier sets stay, and the last set has its own
pub family_front : (sets : List SetData) (x : SetData) (set : ℕ) → set < length sets → family_at (sets ++ x ∷ []) set ≡ family_at sets set
family_front sets x set inside = ap family_of_set (get_front sets x set inside)

pub family_last : (sets : List SetData) (x : SetData) (set : ℕ) → set ≡ length sets → family_at (sets ++ x ∷ []) set ≡ x.family
family_last sets x set e = ap (family_at (sets ++ x ∷ [])) e ∙ ap family_of_set (get_last sets x)

home_front : (clients : List ClientData) (x : ClientData) (client : ℕ) → client < length clients → home_at (clients ++ x ∷ []) client ≡ home_at clients client
home_front clients x client inside = ap node_of_client (get_front clients x client inside)

home_last : (clients : List ClientData) (x : ClientData) (client : ℕ) → client ≡ length clients → home_at (clients ++ x ∷ []) client ≡ x.node
home_last clients x client e = ap (home_at (clients ++ x ∷ [])) e ∙ ap node_of_client (get_last clients x)

-- a number of the longer list is one of the shorter, or its length
numbers_push : {X : Type 0} → (xs : List X) (y : X) (k : ℕ) → k < length (xs ++ y ∷ []) → (k < length xs) ⊎ (k ≡ length xs)
numbers_push xs y k inside = elim (cases_lt k (length xs)) [
  | inl below ↦ inl below
  | inr above ↦ inr (omega (arith, length_push xs y))
]

more_sets : (sets : List SetData) (x : SetData) (clients : List ClientData) (client : ℕ) (command : Command) → HasTargets sets clients client command
    → HasTargets (sets ++ x ∷ []) clients client command
more_sets sets x clients client (Lock set mode) h = omega (arith, length_push sets x)
more_sets sets x clients client (Try set mode) h = omega (arith, length_push sets x)
more_sets sets x clients client (Unlock set mode) h = omega (arith, length_push sets x)
more_sets sets x clients client (Change set gives_up mode) h = omega (arith, length_push sets x)
more_sets sets x clients client (DropAll other set) h = (omega (arith, length_push sets x), h.1, h.2)
more_sets sets x clients client (Withdraw other set) h = (omega (arith, length_push sets x), h.1, h.2)

more_clients : (sets : List SetData) (clients : List ClientData) (x : ClientData) (client : ℕ) (command : Command) → client < length clients → HasTargets sets clients client command
    → HasTargets sets (clients ++ x ∷ []) client command
more_clients sets clients x client (Lock set mode) inside h = h
more_clients sets clients x client (Try set mode) inside h = h
more_clients sets clients x client (Unlock set mode) inside h = h
more_clients sets clients x client (Change set gives_up mode) inside h = h
more_clients sets clients x client (DropAll other set) inside h =
    (h.0, omega (arith, length_push clients x), home_front clients x other h.1 ∙ h.2 ∙ sym (home_front clients x client inside))
more_clients sets clients x client (Withdraw other set) inside h =
    (h.0, omega (arith, length_push clients x), home_front clients x other h.1 ∙ h.2 ∙ sym (home_front clients x client inside))

pub family_not_later : (sets : List SetData) (family : ℕ) → IsFamilyOfNext sets family → family ≤ length sets
family_not_later sets family h = elim h [ inl own ↦ omega arith | inr earlier ↦ omega arith ]

pub set_added : (s : ScriptData) (x : SetData) → IsScript s → is_name x.name ≡ true → is_declared s x.name ≡ false → length s.sets < MAX_SETS_OF_SERVICE → IsFamilyOfNext s.sets x.family
    → IsScript (record s { sets = s.sets ++ x ∷ [] })
set_added s x good named undeclared room fits =
    let sets : List SetData = s.sets ++ x ∷ [] in
    let new = is_new s x.name undeclared in
    record {
      version = good.version;
      some_node = good.some_node;
      few_nodes = good.few_nodes;
      nodes_of_version = good.nodes_of_version;
      few_sets = omega (arith, length_push s.sets x);
      sets_named = λ set inside. elim (numbers_push s.sets x set inside) [
        | inl below ↦ rw (set_name_front s.sets x set below) (good.sets_named set below)
        | inr last ↦ rw (set_name_last s.sets x set last) named
      ];
      sets_found = λ set inside. elim (numbers_push s.sets x set inside) [
        | inl below ↦
            rw (set_name_front s.sets x set below)
            (found_stays (λ (y : SetData). bytes_eq y.name (name_of_set (slice_get s.sets set))) s.sets (x ∷ []) set (good.sets_found set below))
        | inr last ↦
            rw (set_name_last s.sets x set last)
            (found_last (λ (y : SetData). bytes_eq y.name x.name) s.sets x new.no_set (same_name x.name) ∙ ap Some (sym last))
      ];
      families_not_later = λ set inside. elim (numbers_push s.sets x set inside) [
        | inl below ↦ rw (family_front s.sets x set below) (good.families_not_later set below)
        | inr last ↦ rw (family_last s.sets x set last) (omega (arith, last, family_not_later s.sets x.family fits))
      ];
      families_first = λ set inside. elim (numbers_push s.sets x set inside) [
        | inl below ↦
            ap (family_at sets) (family_front s.sets x set below)
            ∙ family_front s.sets x (family_at s.sets set) (omega (arith, below, good.families_not_later set below))
            ∙ good.families_first set below
            ∙ sym (family_front s.sets x set below)
        | inr last ↦
            ap (family_at sets) (family_last s.sets x set last) ∙ first_of_last s.sets x fits ∙ sym (family_last s.sets x set last)
      ];
      few_clients = good.few_clients;
      clients_of_version = good.clients_of_version;
      clients_named = good.clients_named;
      clients_found = good.clients_found;
      clients_no_sets = λ client inside.
          found_never (λ (y : SetData). bytes_eq y.name (name_of_client (slice_get s.clients client))) s.sets x (good.clients_no_sets client inside)
          (set_not_client s x.name client inside new.no_client);
      homes = good.homes;
      loads = good.loads;
      few_commands = good.few_commands;
      requests = λ k d inside. (
        (good.requests k d inside).0,
        more_sets s.sets x s.clients _ _ (good.requests k d inside).1,
      );
      modes = good.modes;
    }
  where
    first_of_last : (sets : List SetData) (x : SetData) → IsFamilyOfNext sets x.family → family_at (sets ++ x ∷ []) x.family ≡ x.family
    first_of_last sets x fits = elim fits [
      | inl own ↦ family_last sets x x.family own
      | inr earlier ↦ family_front sets x x.family earlier.0 ∙ earlier.1
    ]

load_push : (clients : List ClientData) (x : ClientData) (node : ℕ) → load_of (clients ++ x ∷ []) node ≡ load_of clients node + cond (x.node == node) 1 0
load_push clients x node = omega (arith, sum_by-append (λ (y : ClientData). cond (y.node == node) 1 0) clients (x ∷ []))

most_within : (version : ℕ) → most_clients version ≤ MAX_CLIENTS
most_within version = elim (version == 1) as (λ t. (if t then MAX_CLIENTS_OF_FIRST else if version == 2 then MAX_CLIENTS_OF_SECOND else MAX_CLIENTS) ≤ MAX_CLIENTS) [
  | true ↦ omega arith
  | false ↦ elim (version == 2) as (λ t. (if t then MAX_CLIENTS_OF_SECOND else MAX_CLIENTS) ≤ MAX_CLIENTS) [
    | true ↦ omega arith
    | false ↦ omega arith
  ]
]

-- what is read at a place of the same list
pub read_at : {X : Type 0} (xs read : List X) (k : ℕ) (x : X) → read ≡ xs → k < length xs → x ≡ get_or read k x → slice_get xs k ≡ Some x
read_at {X} xs read k x same inside is = slice_get_read xs (length xs) k x refl inside (is ∙ ap (λ (l : List X). get_or l k x) same)

-- no set before the first one of a family is of it
pub none_earlier : (s : ScriptData) (set family k : ℕ) → IsScript s → set < length s.sets → family ≤ set → k < family → family_at s.sets k ≢ family
none_earlier s set family k good inside earlier before = λ same. omega (arith, before, same, good.families_not_later k (omega (arith, before, earlier, inside)))

-- a name that neither a set nor a client has is not declared
pub not_declared : (s : ScriptData) (name : List ℕ) → set_number s name ≡ None → is_some (client_number s name) ≡ false → is_declared s name ≡ false
not_declared s name no_set no_client = rw (no_set, no_client) refl

-- what such a name comes to, where the parent is a set of the script
pub set_new : (s : ScriptData) (name : List ℕ) (parent : Option ℕ) (set : ℕ) → is_name name ≡ true → is_some (client_number s name) ≡ false → has_parent s parent ≡ true → set ≡ length s.sets
    → set < MAX_SETS_OF_SERVICE → Set set ≡ new_set s name parent
set_new s name parent set named no_client there last room = rw (named, no_client, there, sym last, lt-ltb set MAX_SETS_OF_SERVICE room) refl

pub sets_too_many : (s : ScriptData) (name : List ℕ) (parent : Option ℕ) (set : ℕ) → is_name name ≡ true → is_some (client_number s name) ≡ false → has_parent s parent ≡ true → set ≡ length s.sets
    → MAX_SETS_OF_SERVICE ≤ set → TooMany ≡ new_set s name parent
sets_too_many s name parent set named no_client there last full = rw (named, no_client, there, sym last, le-ltb set MAX_SETS_OF_SERVICE full) refl

-- there are few sets and clients for their numbers
pub few_sets : (count : ℕ) → count < MAX_SETS_OF_SERVICE → count < 2 ^ 31
few_sets count room = omega (arith, room)

pub few_clients : (version count : ℕ) → count < most_clients version → count < 2 ^ 31
few_clients version count room = omega (arith, room, most_within version)

pub client_added : (s : ScriptData) (x : ClientData) → IsScript s → is_name x.name ≡ true → is_declared s x.name ≡ false → length s.clients < most_clients s.version → x.node < s.nodes → load_of s.clients x.node < MAX_CLIENTS_OF_NODE
    → IsScript (record s { clients = s.clients ++ x ∷ [] })
client_added s x good named undeclared room on_node load =
    let new = is_new s x.name undeclared in
    record {
      version = good.version;
      some_node = good.some_node;
      few_nodes = good.few_nodes;
      nodes_of_version = good.nodes_of_version;
      few_sets = good.few_sets;
      sets_named = good.sets_named;
      sets_found = good.sets_found;
      families_not_later = good.families_not_later;
      families_first = good.families_first;
      few_clients = omega (arith, length_push s.clients x, room, most_within s.version);
      clients_of_version = omega (arith, length_push s.clients x, room);
      clients_named = λ client inside. elim (numbers_push s.clients x client inside) [
        | inl below ↦ rw (client_name_front s.clients x client below) (good.clients_named client below)
        | inr last ↦ rw (client_name_last s.clients x client last) named
      ];
      clients_found = λ client inside. elim (numbers_push s.clients x client inside) [
        | inl below ↦
            rw (client_name_front s.clients x client below)
            (found_stays (λ (y : ClientData). bytes_eq y.name (name_of_client (slice_get s.clients client))) s.clients (x ∷ []) client (good.clients_found client below))
        | inr last ↦
            rw (client_name_last s.clients x client last)
            (found_last (λ (y : ClientData). bytes_eq y.name x.name) s.clients x new.no_client (same_name x.name) ∙ ap Some (sym last))
      ];
      clients_no_sets = λ client inside. elim (numbers_push s.clients x client inside) [
        | inl below ↦ rw (client_name_front s.clients x client below) (good.clients_no_sets client below)
        | inr last ↦ rw (client_name_last s.clients x client last) new.no_set
      ];
      homes = λ client inside. elim (numbers_push s.clients x client inside) [
        | inl below ↦ rw (home_front s.clients x client below) (good.homes client below)
        | inr last ↦ rw (home_last s.clients x client last) on_node
      ];
      loads = λ node. rw (load_push s.clients x node) (elim (cases_eq x.node node) [
        | inl same ↦ rw (eq-eqb x.node node same) (omega (arith, subst (λ n. load_of s.clients n < MAX_CLIENTS_OF_NODE) same load))
        | inr other ↦ rw (ne_eqb x.node node other) (omega (arith, good.loads node))
      ]);
      few_commands = good.few_commands;
      requests = λ k d inside. (
        omega (arith, (good.requests k d inside).0, length_push s.clients x),
        more_clients s.sets s.clients x _ _ (good.requests k d inside).0 (good.requests k d inside).1,
      );
      modes = good.modes;
    }

pub command_added : (s : ScriptData) (client : ℕ) (command : Command) → IsScript s → length s.commands < MAX_COMMANDS_OF_SERVICE → IsRequest s.sets s.clients (client, command) → IsOfVersion s.version command
    → IsScript (record s { commands = s.commands ++ (client, command) ∷ [] })
command_added s client command good room request modes = record {
  version = good.version;
  some_node = good.some_node;
  few_nodes = good.few_nodes;
  nodes_of_version = good.nodes_of_version;
  few_sets = good.few_sets;
  sets_named = good.sets_named;
  sets_found = good.sets_found;
  families_not_later = good.families_not_later;
  families_first = good.families_first;
  few_clients = good.few_clients;
  clients_of_version = good.clients_of_version;
  clients_named = good.clients_named;
  clients_found = good.clients_found;
  clients_no_sets = good.clients_no_sets;
  homes = good.homes;
  loads = good.loads;
  few_commands = omega (arith, length_push s.commands (client, command), room);
  requests = All-push (IsRequest s.sets s.clients) s.commands (client, command) good.requests request;
  modes = All-push (λ (request : ℕ × Command). IsOfVersion s.version request.1) s.commands (client, command) good.modes modes;
}

-- a script stays one without its commands
pub commands_taken_away : (s : ScriptData) → IsScript s → IsScript (record s { commands = [] })
commands_taken_away s good = record {
  version = good.version;
  some_node = good.some_node;
  few_nodes = good.few_nodes;
  nodes_of_version = good.nodes_of_version;
  few_sets = good.few_sets;
  sets_named = good.sets_named;
  sets_found = good.sets_found;
  families_not_later = good.families_not_later;
  families_first = good.families_first;
  few_clients = good.few_clients;
  clients_of_version = good.clients_of_version;
  clients_named = good.clients_named;
  clients_found = good.clients_found;
  clients_no_sets = good.clients_no_sets;
  homes = good.homes;
  loads = good.loads;
  few_commands = omega arith;
  requests = All-nil (IsRequest s.sets s.clients);
  modes = All-nil (λ (request : ℕ × Command). IsOfVersion s.version request.1);
}
