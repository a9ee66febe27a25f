-- What is written, line by line.
use Rattle.std.proofs.Common.{◌≡◌, ℕ, List, [], ◌∷◌, ◌++◌, map, refl, sym, ap, ◌∙◌, append_assoc, append-nil, ◌+◌, true, false, Option, Ok, Err, zero, suc, ◌<◌, ◌≤◌, length, get_or, Some, None, position, slice_get, subst, inl, inr, arith, length-append, codes, ◌==◌, cond, flat_map, bytes_eq, eq-eqb, lt-ltb, decimal}
use Rattle.std.specs.List.{AllByRecursion}
use Rattle.std.proofs.lemmas.Bool.{cases_Bool, cases_eq, lt-leb}
use Rattle.std.proofs.lemmas.Slice.Eq.{bytes_eq-Decides}
use Rattle.std.proofs.lemmas.List.Sums.{sum_by-append, sum_by-cons}
use Rattle.lt_modes.specs.Script.{ScriptData, SetData, ClientData, set_name, name_of_set, family_of_set, family_at, client_name, name_of_client, node_of_client, home_at}
use Rattle.lt_modes.specs.declared.command.Command.{Command}
use Rattle.lt_spec.specs.Script.{is_name, IsScript, IsShort, set_number, most_clients, load_of, client_number}
use Rattle.lt_spec.specs.declared.limits.TheConstants.{MAX_CLIENTS_OF_NODE, MAX_NODES}
use Rattle.lt_text.specs.Text.{spaced, text}
use Rattle.lt_text.specs.Number.{number}
use Rattle.lt_text.proofs.NumberLemmas.{number_decimal}
use Rattle.lt_script.specs.Printing.{ended_line, version_words, nodes_words, set_words, client_words, command_words, print_of, first_name}
use Rattle.lt_script.specs.declared.fault.Fault.{Fault}
use Rattle.lt_script.specs.Reading.{is_skipped, version_said, line_step, read_from, script_body, at_end}
use Rattle.lt_script.specs.Forms.{SetForm, SetWithForm, ClientForm}
use Rattle.lt_script.proofs.NameLemmas.{found_in_front, not_in_front}
use Rattle.lt_script.proofs.PrintedLines.{IsPrintedLine, line_read, name_printed, ArePrinted, number_printed}

text_of : {X : Type 0} → (f : X → List (List ℕ)) (xs : List X) (rest : List (List (List ℕ))) → text (map spaced (map f xs ++ rest)) ≡ flat_map (λ x. ended_line (f x)) xs ++ text (map spaced rest)
text_of f [] rest = refl
text_of f (x ∷ xs) rest = rw (text_of f xs rest) (simp append_assoc)

text_of_all : {X : Type 0} → (f : X → List (List ℕ)) (xs : List X) → text (map spaced (map f xs)) ≡ flat_map (λ x. ended_line (f x)) xs
text_of_all f xs = ap (λ ls. text (map spaced ls)) (sym (append-nil (map f xs))) ∙ text_of f xs [] ∙ append-nil (flat_map (λ x. ended_line (f x)) xs)

-- the text as it is written, part after part
pub print_parts : (s : ScriptData) → print_of s
    ≡ (((flat_map ended_line (version_words s.version) ++ ended_line (nodes_words s.nodes)) ++ flat_map (λ x. ended_line (set_words s.sets x)) s.sets) ++ flat_map (λ x. ended_line (client_words x)) s.clients) ++ flat_map (λ x. ended_line (command_words s x)) s.commands
unfolding print_of
print_parts s =
    let version : List ℕ = flat_map ended_line (version_words s.version) in
    let nodes : List ℕ = spaced (nodes_words s.nodes) in
    let sets : List ℕ = flat_map (λ x. ended_line (set_words s.sets x)) s.sets in
    let clients : List ℕ = flat_map (λ x. ended_line (client_words x)) s.clients in
    let commands : List ℕ = flat_map (λ x. ended_line (command_words s x)) s.commands in
    text_of_lines (version_words s.version) (nodes_words s.nodes ∷ (map (set_words s.sets) s.sets ++ (map client_words s.clients ++ map (command_words s) s.commands)))
    ∙ ap (λ t. version ++ (nodes ++ 10 ∷ t))
    (text_of (set_words s.sets) s.sets (map client_words s.clients ++ map (command_words s) s.commands)
    ∙ ap (λ t. sets ++ t) (text_of client_words s.clients (map (command_words s) s.commands) ∙ ap (λ t. clients ++ t) (text_of_all (command_words s) s.commands)))
    ∙ grouped version nodes sets clients commands
  where
    text_of_lines : (xs rest : List (List (List ℕ))) → text (map spaced (xs ++ rest)) ≡ flat_map ended_line xs ++ text (map spaced rest)
    text_of_lines [] rest = refl
    text_of_lines (x ∷ xs) rest = rw (text_of_lines xs rest) (simp append_assoc)

    grouped : (v a b c d : List ℕ) → v ++ (a ++ 10 ∷ (b ++ (c ++ d))) ≡ (((v ++ (a ++ 10 ∷ [])) ++ b) ++ c) ++ d
    grouped v a b c d = simp append_assoc

-- Reading line by line.

pub read_fault : (v : ℕ) (ls rest : List (List ℕ)) (line : List ℕ) (k : ℕ) (st : Option ScriptData) (fault : Fault) → ls ≡ line ∷ rest → line_step v st line ≡ Err fault
    → read_from v ls k st ≡ Err (record { line = k; fault = fault })
unfolding read_from
read_fault v ls rest line k st fault e step = rw (e, step)

pub read_more : (v : ℕ) (ls rest : List (List ℕ)) (line : List ℕ) (k : ℕ) (st next : Option ScriptData) → ls ≡ line ∷ rest → line_step v st line ≡ Ok next
    → read_from v ls k st ≡ read_from v rest (k + 1) next
unfolding read_from
read_more v ls rest line k st next e step = rw (e, step)

pub read_end : (v : ℕ) (ls : List (List ℕ)) (k : ℕ) (st : Option ScriptData) → ls ≡ [] → read_from v ls k st ≡ at_end k st
unfolding read_from
read_end v ls k st e = rw e

pub body_skipped : (ls rest : List (List ℕ)) (line : List ℕ) (k : ℕ) → ls ≡ line ∷ rest → is_skipped line ≡ true → script_body ls k ≡ script_body rest (k + 1)
unfolding script_body
body_skipped ls rest line k e skipped = rw (e, skipped) refl

pub body_later : (ls rest : List (List ℕ)) (line : List ℕ) (k v : ℕ) → ls ≡ line ∷ rest → is_skipped line ≡ false → v ≡ version_said line → (v == 1) ≡ false
    → script_body ls k ≡ record { version = v; first = k + 1; lines = rest }
unfolding script_body
body_later ls rest line k v e kept says later = rw (e, kept, sym says, later) refl

pub body_first : (ls rest : List (List ℕ)) (line : List ℕ) (k v : ℕ) → ls ≡ line ∷ rest → is_skipped line ≡ false → v ≡ version_said line → v ≡ 1
    → script_body ls k ≡ record { version = v; first = k; lines = ls }
unfolding script_body
body_first ls rest line k v e kept says first = rw (e, kept, sym says, first) refl

pub body_end : (ls : List (List ℕ)) (k : ℕ) → ls ≡ [] → script_body ls k ≡ record { version = 1; first = k; lines = ls }
unfolding script_body
body_end ls k e = rw e refl

-- The lines of sets, printed, are read as the sets.

-- the element behind a front
pub get_middle : {X : Type 0} → (front : List X) (x : X) (rest : List X) → slice_get (front ++ x ∷ rest) (length front) ≡ Some x
get_middle [] x rest = refl
get_middle (y ∷ front) x rest = get_middle front x rest

pub get_or_middle : {X : Type 0} → (front : List X) (x : X) (rest : List X) (d : X) → get_or (front ++ x ∷ rest) (length front) d ≡ x
get_or_middle [] x rest d = refl
get_or_middle (y ∷ front) x rest d = get_or_middle front x rest d

pub get_in_front : {X : Type 0} → (front rest : List X) (k : ℕ) → k < length front → slice_get (front ++ rest) k ≡ slice_get front k
get_in_front [] rest k inside = absurd (omega arith)
get_in_front (x ∷ front) rest zero inside = refl
get_in_front (x ∷ front) rest (suc k) inside = get_in_front front rest k (omega arith)

-- the lines make this of that script, whatever follows them
abbrev pub Walks : ℕ → List (List ℕ) → ScriptData → ScriptData → Type 0
Walks v ls s next = (k : ℕ) (after : List (List ℕ)) → (m : ℕ) × (read_from v (ls ++ after) k (Some s) ≡ read_from v after m (Some next))

pub walk_none : (v : ℕ) (s : ScriptData) → Walks v [] s s
walk_none v s k after = (k, refl)

pub walk_more : (v : ℕ) (line : List ℕ) (ls : List (List ℕ)) (s mid next : ScriptData) → line_step v (Some s) line ≡ Ok (Some mid) → Walks v ls mid next → Walks v (line ∷ ls) s next
walk_more v line ls s mid next step walks k after =
    let rest = walks (k + 1) after in
    (rest.0, read_more v ((line ∷ ls) ++ after) (ls ++ after) line k (Some s) (Some mid) refl step ∙ rest.1)

pub walk_both : (v : ℕ) (ls later : List (List ℕ)) (s mid next : ScriptData) → Walks v ls s mid → Walks v later mid next → Walks v (ls ++ later) s next
walk_both v ls later s mid next first second k after =
    let one = first k (later ++ after) in
    let two = second one.0 after in
    (two.0, ap (λ l. read_from v l k (Some s)) (append_assoc ls later after) ∙ one.1 ∙ two.1)

-- the script with the first of its sets alone
abbrev pub sets_only : ScriptData → List SetData → ScriptData
sets_only s done = record { version = s.version; nodes = s.nodes; sets = done; clients = []; commands = [] }

-- with all sets, and the first of its clients
abbrev pub clients_only : ScriptData → List ClientData → ScriptData
clients_only s done = record { version = s.version; nodes = s.nodes; sets = s.sets; clients = done; commands = [] }

-- with all but the last of its commands
abbrev pub commands_only : ScriptData → List (ℕ × Command) → ScriptData
commands_only s done = record { version = s.version; nodes = s.nodes; sets = s.sets; clients = s.clients; commands = done }

-- a set of a script, as the sets before it see it
pub record SetFits (s : ScriptData) (done : List SetData) (x : SetData) : Type 0 where
  pub at : slice_get s.sets (length done) ≡ Some x
  pub named : is_name x.name ≡ true
  pub is_new : set_number (sets_only s done) x.name ≡ None
  pub not_later : x.family ≤ length done
  pub first_named : is_name (first_name s.sets x) ≡ true
  pub first_found : set_number s (first_name s.sets x) ≡ Some x.family
  pub found : set_number s x.name ≡ Some (length done)
  pub first_first : family_at s.sets x.family ≡ x.family

pub set_fits : (s : ScriptData) → IsScript s → (done : List SetData) (x : SetData) (rest : List SetData) → done ++ x ∷ rest ≡ s.sets → SetFits s done x
set_fits s good done x rest e =
    let j : ℕ = length done in
    let at : slice_get s.sets j ≡ Some x = subst (λ (l : List SetData). slice_get l j ≡ Some x) e (get_middle done x rest) in
    let inside : j < length s.sets = omega (arith, length-append done (x ∷ rest), ap length e) in
    let name_at : set_name s j ≡ x.name = ap name_of_set at in
    let family_is : family_at s.sets j ≡ x.family = ap family_of_set at in
    let found : set_number s x.name ≡ Some j = subst (λ w. set_number s w ≡ Some j) name_at (good.sets_found j inside) in
    let not_later : x.family ≤ j = omega (arith, good.families_not_later j inside, family_is) in
    record {
      at = at;
      named = subst (λ w. is_name w ≡ true) name_at (good.sets_named j inside);
      is_new = not_in_front (λ (y : SetData). bytes_eq y.name x.name) done (x ∷ rest) (subst (λ (l : List SetData). position (λ (y : SetData). bytes_eq y.name x.name) l ≡ Some j) (sym e) found);
      not_later = not_later;
      first_named = good.sets_named x.family (omega arith);
      first_found = good.sets_found x.family (omega arith);
      found = found;
      first_first = subst (λ f. family_at s.sets f ≡ f) family_is (good.families_first j inside);
    }

pub one_number : (i k : ℕ) → Some i ≡ Some k → i ≡ k
one_number i k e = cc

pub set_printed : (name : List ℕ) → is_name name ≡ true → IsPrintedLine (codes "set" ∷ name ∷ [])
set_printed name named = record { are_printed = (refl, (name_printed name named, tt)); few = omega arith; says = refl }

pub set_with_printed : (name first : List ℕ) → is_name name ≡ true → is_name first ≡ true → IsPrintedLine (codes "set" ∷ name ∷ codes "with" ∷ first ∷ [])
set_with_printed name first named first_named = record { are_printed = (refl, (name_printed name named, (refl, (name_printed first first_named, tt)))); few = omega arith; says = refl }

pub set_read : (s : ScriptData) → IsScript s → IsShort s → (done : List SetData) (x : SetData) (rest : List SetData) → done ++ x ∷ rest ≡ s.sets
    → line_step s.version (Some (sets_only s done)) (spaced (set_words s.sets x)) ≡ Ok (Some (sets_only s (done ++ x ∷ [])))
set_read s good short done x rest e =
    let fits = set_fits s good done x rest e in
    let few : length done < 8 = omega (arith, length-append done (x ∷ rest), ap length e, short.sets) in
    let st : ScriptData = sets_only s done in
    let first : List ℕ = first_name s.sets x in
    elim (cases_Bool (bytes_eq first x.name)) [
      | inl same ↦
          let names : first ≡ x.name = (bytes_eq-Decides first x.name).0 same in
          let own : x.family ≡ length done = one_number x.family (length done) (sym fits.first_found ∙ ap (set_number s) names ∙ fits.found) in
          rw same
          (line_read s.version (Some st) (codes "set" ∷ x.name ∷ []) (SetForm x.name) (set_printed x.name fits.named) refl
          (rw (fits.named, fits.is_new, lt-leb 8 (length done) few))
          ∙ ap (λ (f : ℕ). Ok (Some (sets_only s (done ++ record { name = x.name; family = f } ∷ [])))) (sym own))
      | inr other ↦
          let earlier : x.family < length done = elim (cases_eq x.family (length done)) [
            | inl own ↦ absurd (let again : first ≡ x.name = ap (λ k. set_name s k) own ∙ ap name_of_set fits.at in let e : bytes_eq first x.name ≡ true = (bytes_eq-Decides first x.name).1 again in cc)
            | inr not_own ↦ let h = fits.not_later in omega (arith, not_own)
          ] in
          let known : set_number st first ≡ Some x.family =
          found_in_front (λ (y : SetData). bytes_eq y.name first) done (x ∷ rest) x.family
          (subst (λ (l : List SetData). position (λ (y : SetData). bytes_eq y.name first) l ≡ Some x.family) (sym e) fits.first_found) earlier in
          let family : family_at done x.family ≡ x.family =
          ap family_of_set (sym (get_in_front done (x ∷ rest) x.family earlier)) ∙ ap (λ (l : List SetData). family_at l x.family) e ∙ fits.first_first in
          rw other
          (line_read s.version (Some st) (codes "set" ∷ x.name ∷ codes "with" ∷ first ∷ []) (SetWithForm x.name first) (set_with_printed x.name first fits.named fits.first_named) refl
          (rw (fits.named, fits.is_new, known, lt-leb 8 (length done) few))
          ∙ rw (known, family) refl)
    ]

pub sets_walk : (s : ScriptData) → IsScript s → IsShort s → (done rest : List SetData) → done ++ rest ≡ s.sets → Walks s.version (map spaced (map (set_words s.sets) rest)) (sets_only s done) (sets_only s s.sets)
sets_walk s good short done [] e = subst (λ (l : List SetData). Walks s.version [] (sets_only s done) (sets_only s l)) (sym (append-nil done) ∙ e) (walk_none s.version (sets_only s done))
sets_walk s good short done (x ∷ rest) e =
    walk_more s.version (spaced (set_words s.sets x)) (map spaced (map (set_words s.sets) rest)) (sets_only s done) (sets_only s (done ++ x ∷ [])) (sets_only s s.sets)
    (set_read s good short done x rest e)
    (sets_walk s good short (done ++ x ∷ []) rest (append_assoc done (x ∷ []) rest ∙ e))

-- The lines of clients, printed, are read as the clients.

-- a client of a script, as the clients before it see it
record ClientFits (s : ScriptData) (done : List ClientData) (x : ClientData) : Type 0 where
  pub named : is_name x.name ≡ true
  pub no_set : set_number s x.name ≡ None
  pub is_new : client_number (clients_only s done) x.name ≡ None
  pub few : length done < most_clients s.version
  pub on_node : x.node < s.nodes
  pub few_nodes : x.node < MAX_NODES
  pub load : load_of done x.node < MAX_CLIENTS_OF_NODE

client_fits : (s : ScriptData) → IsScript s → (done : List ClientData) (x : ClientData) (rest : List ClientData) → done ++ x ∷ rest ≡ s.clients → ClientFits s done x
client_fits s good done x rest e =
    let j : ℕ = length done in
    let at : slice_get s.clients j ≡ Some x = subst (λ (l : List ClientData). slice_get l j ≡ Some x) e (get_middle done x rest) in
    let inside : j < length s.clients = omega (arith, length-append done (x ∷ rest), ap length e) in
    let name_at : client_name s j ≡ x.name = ap name_of_client at in
    let node_at : home_at s.clients j ≡ x.node = ap node_of_client at in
    let on_node : x.node < s.nodes = subst (λ n. n < s.nodes) node_at (good.homes j inside) in
    let found : client_number s x.name ≡ Some j = subst (λ w. client_number s w ≡ Some j) name_at (good.clients_found j inside) in
    let load : load_of (done ++ x ∷ rest) x.node ≤ MAX_CLIENTS_OF_NODE = subst (λ (l : List ClientData). load_of l x.node ≤ MAX_CLIENTS_OF_NODE) (sym e) (good.loads x.node) in
    let here : load_of (x ∷ rest) x.node ≡ 1 + load_of rest x.node =
    sum_by-cons (λ (y : ClientData). cond (y.node == x.node) 1 0) x rest ∙ ap (λ t. cond t 1 0 + load_of rest x.node) (eq-eqb x.node x.node refl) in
    record {
      named = subst (λ w. is_name w ≡ true) name_at (good.clients_named j inside);
      no_set = subst (λ w. set_number s w ≡ None) name_at (good.clients_no_sets j inside);
      is_new = not_in_front (λ (y : ClientData). bytes_eq y.name x.name) done (x ∷ rest) (subst (λ (l : List ClientData). position (λ (y : ClientData). bytes_eq y.name x.name) l ≡ Some j) (sym e) found);
      few = omega (arith, good.clients_of_version);
      on_node = on_node;
      few_nodes = omega (arith, good.few_nodes);
      load = omega (arith, sum_by-append (λ (y : ClientData). cond (y.node == x.node) 1 0) done (x ∷ rest));
    }

client_printed : (name : List ℕ) (node : ℕ) → is_name name ≡ true → node < MAX_NODES → IsPrintedLine (codes "client" ∷ name ∷ codes "at" ∷ decimal node ∷ [])
client_printed name node named small = record {
  are_printed = (refl, (name_printed name named, (refl, (number_printed node (omega arith), tt))));
  few = omega arith;
  says = refl;
}

client_read : (s : ScriptData) → IsScript s → (done : List ClientData) (x : ClientData) (rest : List ClientData) → done ++ x ∷ rest ≡ s.clients
    → line_step s.version (Some (clients_only s done)) (spaced (client_words x)) ≡ Ok (Some (clients_only s (done ++ x ∷ [])))
client_read s good done x rest e =
    let fits = client_fits s good done x rest e in
    let st : ScriptData = clients_only s done in
    let number_is : number (decimal x.node) ≡ Some x.node = number_decimal x.node (omega (arith, fits.few_nodes)) in
    line_read s.version (Some st) (client_words x) (ClientForm x.name (decimal x.node)) (client_printed x.name x.node fits.named fits.few_nodes) refl
    (rw (number_is, lt-ltb x.node s.nodes fits.on_node, fits.named, fits.no_set, fits.is_new, lt-leb (most_clients s.version) (length done) fits.few, lt-leb MAX_CLIENTS_OF_NODE (load_of done x.node) fits.load))
    ∙ rw number_is refl

pub clients_walk : (s : ScriptData) → IsScript s → (done rest : List ClientData) → done ++ rest ≡ s.clients → Walks s.version (map spaced (map client_words rest)) (clients_only s done) (clients_only s s.clients)
clients_walk s good done [] e = subst (λ (l : List ClientData). Walks s.version [] (clients_only s done) (clients_only s l)) (sym (append-nil done) ∙ e) (walk_none s.version (clients_only s done))
clients_walk s good done (x ∷ rest) e =
    walk_more s.version (spaced (client_words x)) (map spaced (map client_words rest)) (clients_only s done) (clients_only s (done ++ x ∷ [])) (clients_only s s.clients)
    (client_read s good done x rest e)
    (clients_walk s good (done ++ x ∷ []) rest (append_assoc done (x ∷ []) rest ∙ e))

pub clients_printed : (s : ScriptData) → IsScript s → (done rest : List ClientData) → done ++ rest ≡ s.clients → AllByRecursion ArePrinted (map client_words rest)
clients_printed s good done [] e = tt
clients_printed s good done (x ∷ rest) e =
    let fits = client_fits s good done x rest e in
    ((client_printed x.name x.node fits.named fits.few_nodes).are_printed, clients_printed s good (done ++ x ∷ []) rest (append_assoc done (x ∷ []) rest ∙ e))
