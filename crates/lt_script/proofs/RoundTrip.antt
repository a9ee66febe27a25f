-- The text of a script is read as that script.
use Rattle.lt_script.proofs.RoundTrips.{clients_walk, clients_printed, get_or_middle, Walks, walk_none, walk_more, walk_both, sets_only, clients_only, commands_only, set_fits, set_printed, set_with_printed, sets_walk, read_more, read_end}
use Rattle.std.proofs.Common.{◌≡◌, ℕ, ◌+◌, ◌<◌, ◌≤◌, ◌==◌, Bool, true, false, nat_lt, cond, List, [], ◌∷◌, ◌++◌, length, map, get_or, Some, None, Ok, refl, sym, ap, subst, ◌∙◌, inl, inr, arith, append_assoc, append-nil, length-append, codes, IsTrue, bytes_eq, decimal, eq-eqb, lt-ltb, le-ltb}
use Rattle.std.specs.List.{AllByRecursion}
use Rattle.std.proofs.lemmas.Bool.{cases_Bool, lt-leb}
use Rattle.lt_modes.specs.declared.mode.Mode.{Mode}
use Rattle.lt_modes.specs.declared.mode.Mode.TheVariants.{IntentionRead, Read, Upgrade, IntentionWrite, ReadIntentionWrite, Write}
use Rattle.lt_modes.specs.declared.command.Command.{Command}
use Rattle.lt_modes.specs.declared.command.Command.TheVariants.{Lock, Try, Unlock, Change, DropAll, Withdraw}
use Rattle.lt_modes.specs.Modes.{mode_of, word_of}
use Rattle.lt_modes.specs.FiveModes.{is_of_version}
use Rattle.lt_modes.specs.Script.{ScriptData, SetData, set_name, client_name, home_at}
use Rattle.lt_text.specs.Text.{spaced, lines, IsLine}
use Rattle.lt_text.specs.Number.{number}
use Rattle.lt_text.proofs.TextLemmas.{lines_text, words_spaced}
use Rattle.lt_spec.specs.declared.limits.TheConstants.{MAX_LINE}
use Rattle.lt_text.proofs.NumberLemmas.{number_decimal}
use Rattle.lt_spec.specs.Script.{is_name, IsScript, IsShort, IsRequest, IsOfVersion, HasTargets, most_nodes}
use Rattle.lt_script.specs.Forms.{NodesForm, CommandForm, CommandWordsData, LockWords, TryWords, UnlockWords, ChangeWords, DropWords, WithdrawWords, form_in, is_asked_in, asked_of}
use Rattle.lt_script.specs.Faults.{only_nodes, mode_in}
use Rattle.lt_script.specs.Reading.{ScriptBody, line_step, read_from, script_body, read_body, read_of}
use Rattle.lt_script.specs.Printing.{version_words, nodes_words, first_name, set_words, client_words, asked_words, command_words, script_words, print_of}
use Rattle.lt_script.proofs.PrintedLines.{ArePrinted, printed_words, IsPrintedLine, is_printed, line_read, name_printed, number_printed, printed_line, name_begins}

mode_read : (mode : Mode) → mode_of (word_of mode) ≡ Some mode
mode_read IntentionRead = refl
mode_read Read = refl
mode_read Upgrade = refl
mode_read IntentionWrite = refl
mode_read ReadIntentionWrite = refl
mode_read Write = refl

-- so is the mode of a version, where it is one of it
mode_read_in : (version : ℕ) (mode : Mode) → IsTrue (is_of_version version mode) → mode_in version (word_of mode) ≡ Some mode
mode_read_in version mode own = rw (mode_read mode, own) refl

mode_printed : (mode : Mode) → is_printed (word_of mode) ≡ true
mode_printed IntentionRead = refl
mode_printed Read = refl
mode_printed Upgrade = refl
mode_printed IntentionWrite = refl
mode_printed ReadIntentionWrite = refl
mode_printed Write = refl

-- a line that begins with a name is a command's
command_form : (v : ℕ) (name : List ℕ) (ws : List (List ℕ)) (asked : CommandWordsData) → is_name name ≡ true → asked_of ws ≡ Some asked → is_asked_in v asked ≡ true
    → form_in v (name ∷ ws) ≡ Some (CommandForm name asked)
command_form v name ws asked named e own =
    let begins = name_begins name named in
    rw (begins.not_version, begins.not_nodes, begins.not_set, begins.not_client, e, own)

command_printed : (name : List ℕ) (ws : List (List ℕ)) → is_name name ≡ true → ArePrinted ws → length ws ≤ 4 → IsPrintedLine (name ∷ ws)
command_printed name ws named good few = record {
  are_printed = (name_printed name named, good);
  few = omega arith;
  says = (name_begins name named).no_comment;
}

-- what stands behind the client's name
asked_printed : (s : ScriptData) → IsScript s → (client : ℕ) (command : Command) → HasTargets s.sets s.clients client command → ArePrinted (asked_words s command)
asked_printed s good client (Lock set mode) targets = (refl, (name_printed (set_name s set) (good.sets_named set targets), (mode_printed mode, tt)))
asked_printed s good client (Try set mode) targets = (refl, (name_printed (set_name s set) (good.sets_named set targets), (mode_printed mode, tt)))
asked_printed s good client (Unlock set mode) targets = (refl, (name_printed (set_name s set) (good.sets_named set targets), (mode_printed mode, tt)))
asked_printed s good client (Change set gives_up mode) targets = (refl, (name_printed (set_name s set) (good.sets_named set targets), (mode_printed gives_up, (mode_printed mode, tt))))
asked_printed s good client (DropAll other set) targets = (refl, (name_printed (client_name s other) (good.clients_named other targets.1), (name_printed (set_name s set) (good.sets_named set targets.0), tt)))
asked_printed s good client (Withdraw other set) targets = (refl, (name_printed (client_name s other) (good.clients_named other targets.1), (name_printed (set_name s set) (good.sets_named set targets.0), tt)))

command_read : (s : ScriptData) → IsScript s → (done : List (ℕ × Command)) (client : ℕ) (command : Command) → length done < 4096 → IsRequest s.sets s.clients (client, command) → IsOfVersion s.version command
    → line_step s.version (Some (commands_only s done)) (spaced (command_words s (client, command))) ≡ Ok (Some (commands_only s (done ++ (client, command) ∷ [])))
command_read s good done client (Lock set mode) few request modes =
    let st : ScriptData = commands_only s done in
    let name : List ℕ = client_name s client in
    let named = good.clients_named client request.0 in
    let own = good.clients_found client request.0 in
    let found = good.sets_found set request.1 in
    line_read s.version (Some st) (name ∷ asked_words s (Lock set mode)) (CommandForm name (LockWords (set_name s set) (word_of mode)))
    (command_printed name (asked_words s (Lock set mode)) named (asked_printed s good client (Lock set mode) request.1) (omega arith))
    (command_form s.version name (asked_words s (Lock set mode)) (LockWords (set_name s set) (word_of mode)) named refl refl)
    (rw (own, found, lt-leb 4096 (length done) few, mode_read_in s.version mode modes))
    ∙ rw (own, found, mode_read mode) refl
command_read s good done client (Try set mode) few request modes =
    let st : ScriptData = commands_only s done in
    let name : List ℕ = client_name s client in
    let named = good.clients_named client request.0 in
    let own = good.clients_found client request.0 in
    let found = good.sets_found set request.1 in
    line_read s.version (Some st) (name ∷ asked_words s (Try set mode)) (CommandForm name (TryWords (set_name s set) (word_of mode)))
    (command_printed name (asked_words s (Try set mode)) named (asked_printed s good client (Try set mode) request.1) (omega arith))
    (command_form s.version name (asked_words s (Try set mode)) (TryWords (set_name s set) (word_of mode)) named refl refl)
    (rw (own, found, lt-leb 4096 (length done) few, mode_read_in s.version mode modes))
    ∙ rw (own, found, mode_read mode) refl
command_read s good done client (Unlock set mode) few request modes =
    let st : ScriptData = commands_only s done in
    let name : List ℕ = client_name s client in
    let named = good.clients_named client request.0 in
    let own = good.clients_found client request.0 in
    let found = good.sets_found set request.1 in
    line_read s.version (Some st) (name ∷ asked_words s (Unlock set mode)) (CommandForm name (UnlockWords (set_name s set) (word_of mode)))
    (command_printed name (asked_words s (Unlock set mode)) named (asked_printed s good client (Unlock set mode) request.1) (omega arith))
    (command_form s.version name (asked_words s (Unlock set mode)) (UnlockWords (set_name s set) (word_of mode)) named refl refl)
    (rw (own, found, lt-leb 4096 (length done) few, mode_read_in s.version mode modes))
    ∙ rw (own, found, mode_read mode) refl
command_read s good done client (Change set gives_up mode) few request modes =
    let st : ScriptData = commands_only s done in
    let name : List ℕ = client_name s client in
    let ws : List (List ℕ) = asked_words s (Change set gives_up mode) in
    let asked : CommandWordsData = ChangeWords (set_name s set) (word_of gives_up) (word_of mode) in
    let named = good.clients_named client request.0 in
    let own = good.clients_found client request.0 in
    let found = good.sets_found set request.1 in
    line_read s.version (Some st) (name ∷ ws) (CommandForm name asked)
    (command_printed name ws named (asked_printed s good client (Change set gives_up mode) request.1) (omega arith))
    (command_form s.version name ws asked named refl refl)
    (rw (own, found, lt-leb 4096 (length done) few, mode_read_in s.version gives_up modes.0, mode_read_in s.version mode modes.1))
    ∙ rw (own, found, mode_read gives_up, mode_read mode) refl
command_read s good done client (DropAll other set) few request modes =
    let st : ScriptData = commands_only s done in
    let name : List ℕ = client_name s client in
    let ws : List (List ℕ) = asked_words s (DropAll other set) in
    let asked : CommandWordsData = DropWords (client_name s other) (set_name s set) in
    let named = good.clients_named client request.0 in
    let own = good.clients_found client request.0 in
    let other_found = good.clients_found other request.1.1 in
    let found = good.sets_found set request.1.0 in
    line_read s.version (Some st) (name ∷ ws) (CommandForm name asked)
    (command_printed name ws named (asked_printed s good client (DropAll other set) request.1) (omega arith))
    (command_form s.version name ws asked named refl refl)
    (rw (own, other_found, found, lt-leb 4096 (length done) few, eq-eqb (home_at s.clients other) (home_at s.clients client) request.1.2))
    ∙ rw (own, other_found, found) refl
command_read s good done client (Withdraw other set) few request modes =
    let st : ScriptData = commands_only s done in
    let name : List ℕ = client_name s client in
    let ws : List (List ℕ) = asked_words s (Withdraw other set) in
    let asked : CommandWordsData = WithdrawWords (client_name s other) (set_name s set) in
    let named = good.clients_named client request.0 in
    let own = good.clients_found client request.0 in
    let other_found = good.clients_found other request.1.1 in
    let found = good.sets_found set request.1.0 in
    line_read s.version (Some st) (name ∷ ws) (CommandForm name asked)
    (command_printed name ws named (asked_printed s good client (Withdraw other set) request.1) (omega arith))
    (command_form s.version name ws asked named refl (eq-eqb s.version 3 modes))
    (rw (own, other_found, found, lt-leb 4096 (length done) few, eq-eqb (home_at s.clients other) (home_at s.clients client) request.1.2))
    ∙ rw (own, other_found, found) refl

request_at : (s : ScriptData) → IsScript s → (done : List (ℕ × Command)) (x : ℕ × Command) (rest : List (ℕ × Command)) → done ++ x ∷ rest ≡ s.commands → IsRequest s.sets s.clients x
request_at s good done x rest e =
    let inside : length done < length s.commands = omega (arith, length-append done (x ∷ rest), ap length e) in
    let here : get_or s.commands (length done) x ≡ x = subst (λ (l : List (ℕ × Command)). get_or l (length done) x ≡ x) e (get_or_middle done x rest x) in
    subst (IsRequest s.sets s.clients) here (good.requests (length done) x inside)

modes_at : (s : ScriptData) → IsScript s → (done : List (ℕ × Command)) (x : ℕ × Command) (rest : List (ℕ × Command)) → done ++ x ∷ rest ≡ s.commands → IsOfVersion s.version x.1
modes_at s good done x rest e =
    let inside : length done < length s.commands = omega (arith, length-append done (x ∷ rest), ap length e) in
    let here : get_or s.commands (length done) x ≡ x = subst (λ (l : List (ℕ × Command)). get_or l (length done) x ≡ x) e (get_or_middle done x rest x) in
    subst (λ (request : ℕ × Command). IsOfVersion s.version request.1) here (good.modes (length done) x inside)

commands_walk : (s : ScriptData) → IsScript s → IsShort s → (done rest : List (ℕ × Command)) → done ++ rest ≡ s.commands → Walks s.version (map spaced (map (command_words s) rest)) (commands_only s done) (commands_only s s.commands)
commands_walk s good short done [] e = subst (λ (l : List (ℕ × Command)). Walks s.version [] (commands_only s done) (commands_only s l)) (sym (append-nil done) ∙ e) (walk_none s.version (commands_only s done))
commands_walk s good short done (x ∷ rest) e =
    walk_more s.version (spaced (command_words s x)) (map spaced (map (command_words s) rest)) (commands_only s done) (commands_only s (done ++ x ∷ [])) (commands_only s s.commands)
    (command_read s good done x.0 x.1 (omega (arith, length-append done (x ∷ rest), ap length e, short.commands)) (request_at s good done x rest e) (modes_at s good done x rest e))
    (commands_walk s good short (done ++ x ∷ []) rest (append_assoc done (x ∷ []) rest ∙ e))

nodes_printed : (nodes : ℕ) → nodes ≤ 64 → IsPrintedLine (nodes_words nodes)
nodes_printed nodes few = record { are_printed = (refl, (number_printed nodes (omega arith), tt)); few = omega arith; says = refl }

-- the line `nodes` begins the script
nodes_read : (v nodes : ℕ) → 0 < nodes → nodes ≤ 64 → nodes ≤ most_nodes v → line_step v None (spaced (nodes_words nodes)) ≡ Ok (Some (only_nodes v nodes))
nodes_read v nodes some few own =
    let number_is : number (decimal nodes) ≡ Some nodes = number_decimal nodes (omega (arith, few)) in
    line_read v None (nodes_words nodes) (NodesForm (decimal nodes)) (nodes_printed nodes few) refl (rw (number_is, lt-ltb 0 nodes some, le-ltb (most_nodes v) nodes own))
    ∙ rw number_is refl

sets_printed : (s : ScriptData) → IsScript s → (done rest : List SetData) → done ++ rest ≡ s.sets → AllByRecursion ArePrinted (map (set_words s.sets) rest)
sets_printed s good done [] e = tt
sets_printed s good done (x ∷ rest) e = (here, sets_printed s good (done ++ x ∷ []) rest (append_assoc done (x ∷ []) rest ∙ e))
  where
    here : ArePrinted (set_words s.sets x)
    here =
        let fits = set_fits s good done x rest e in
        elim (cases_Bool (bytes_eq (first_name s.sets x) x.name)) [
          | inl same ↦ rw same (set_printed x.name fits.named).are_printed
          | inr other ↦ rw other (set_with_printed x.name (first_name s.sets x) fits.named fits.first_named).are_printed
        ]

commands_printed : (s : ScriptData) → IsScript s → (done rest : List (ℕ × Command)) → done ++ rest ≡ s.commands → AllByRecursion ArePrinted (map (command_words s) rest)
commands_printed s good done [] e = tt
commands_printed s good done (x ∷ rest) e =
    let request = request_at s good done x rest e in (
      (name_printed (client_name s x.0) (good.clients_named x.0 request.0), asked_printed s good x.0 x.1 request.1),
      commands_printed s good (done ++ x ∷ []) rest (append_assoc done (x ∷ []) rest ∙ e),
    )

all_both : (xs ys : List (List (List ℕ))) → AllByRecursion ArePrinted xs → AllByRecursion ArePrinted ys → AllByRecursion ArePrinted (xs ++ ys)
all_both [] ys good later = later
all_both (x ∷ xs) ys good later = (good.0, all_both xs ys good.1 later)

are_lines : (wss : List (List (List ℕ))) → AllByRecursion ArePrinted wss → AllByRecursion IsLine (map spaced wss)
are_lines [] good = tt
are_lines (ws ∷ wss) good = (printed_line ws good.0, are_lines wss good.1)

map_both : (xs ys : List (List (List ℕ))) → map spaced (xs ++ ys) ≡ map spaced xs ++ map spaced ys
map_both [] ys = refl
map_both (x ∷ xs) ys = ap (λ l. spaced x ∷ l) (map_both xs ys)

version_printed : (v : ℕ) → AllByRecursion ArePrinted (version_words v)
version_printed v =
    let second : List (List (List ℕ)) = (codes "version" ∷ codes "2" ∷ []) ∷ [] in
    let third : List (List (List ℕ)) = (codes "version" ∷ codes "3" ∷ []) ∷ [] in
    elim (v == 1) as (λ t. AllByRecursion ArePrinted (cond t [] (cond (v == 2) second third))) [
      | true ↦ tt
      | false ↦ elim (v == 2) as (λ t. AllByRecursion ArePrinted (cond t second third)) [
        | true ↦ ((refl, (refl, tt)), tt)
        | false ↦ ((refl, (refl, tt)), tt)
      ]
    ]

-- the words of the line `nodes` and of those behind it
abbrev later_words : ScriptData → List (List (List ℕ))
later_words s = nodes_words s.nodes ∷ (map (set_words s.sets) s.sets ++ (map client_words s.clients ++ map (command_words s) s.commands))

-- the lines of the text
lines_printed : (s : ScriptData) → IsScript s → lines (print_of s) ≡ map spaced (version_words s.version ++ later_words s)
unfolding print_of
lines_printed s good =
    let sets : List (List (List ℕ)) = map (set_words s.sets) s.sets in
    let clients : List (List (List ℕ)) = map client_words s.clients in
    let commands : List (List (List ℕ)) = map (command_words s) s.commands in
    lines_text (map spaced (script_words s))
    (are_lines (script_words s)
    (all_both (version_words s.version) (later_words s) (version_printed s.version) (
      (nodes_printed s.nodes good.few_nodes).are_printed,
      all_both sets (clients ++ commands) (sets_printed s good [] s.sets refl)
          (all_both clients commands (clients_printed s good [] s.clients refl) (commands_printed s good [] s.commands refl)),
    )))

-- the lines behind the line `nodes` make the script
script_walk : (s : ScriptData) → IsScript s → IsShort s
    → Walks s.version (map spaced (map (set_words s.sets) s.sets ++ (map client_words s.clients ++ map (command_words s) s.commands))) (only_nodes s.version s.nodes) s
script_walk s good short =
    let sets : List (List (List ℕ)) = map (set_words s.sets) s.sets in
    let clients : List (List (List ℕ)) = map client_words s.clients in
    let commands : List (List (List ℕ)) = map (command_words s) s.commands in
    let parts : map spaced (sets ++ (clients ++ commands)) ≡ map spaced sets ++ (map spaced clients ++ map spaced commands) =
    map_both sets (clients ++ commands) ∙ ap (λ l. map spaced sets ++ l) (map_both clients commands) in
    subst (λ (ls : List (List ℕ)). Walks s.version ls (only_nodes s.version s.nodes) s) (sym parts)
    (walk_both s.version (map spaced sets) (map spaced clients ++ map spaced commands) (only_nodes s.version s.nodes) (sets_only s s.sets) s
    (sets_walk s good short [] s.sets refl)
    (walk_both s.version (map spaced clients) (map spaced commands) (sets_only s s.sets) (clients_only s s.clients) s
    (clients_walk s good [] s.clients refl)
    (commands_walk s good short [] s.commands refl)))

-- the lines from the line `nodes` on are read as the script
later_read : (s : ScriptData) → IsScript s → IsShort s → (k : ℕ) → read_from s.version (map spaced (later_words s)) k None ≡ Ok s
later_read s good short k =
    let v = s.version in
    let rest : List (List ℕ) = map spaced (map (set_words s.sets) s.sets ++ (map client_words s.clients ++ map (command_words s) s.commands)) in
    let walk = script_walk s good short (k + 1) [] in
    read_more v (map spaced (later_words s)) rest (spaced (nodes_words s.nodes)) k None (Some (only_nodes v s.nodes)) refl (nodes_read v s.nodes good.some_node good.few_nodes good.nodes_of_version)
    ∙ ap (λ ls. read_from v ls (k + 1) (Some (only_nodes v s.nodes))) (sym (append-nil rest))
    ∙ walk.1
    ∙ read_end v [] walk.0 (Some s) refl

abbrev body : ℕ → ℕ → List (List ℕ) → ScriptBody
body version first ls = record { version = version; first = first; lines = ls }

-- the line `nodes` isn't skipped, and says no version
first_body : (nodes : ℕ) (rest : List (List ℕ)) (k : ℕ) → nodes ≤ 64 → script_body (spaced (nodes_words nodes) ∷ rest) k ≡ body 1 k (spaced (nodes_words nodes) ∷ rest)
unfolding script_body
first_body nodes rest k few =
    let good = nodes_printed nodes few in
    rw (words_spaced (nodes_words nodes) (printed_words (nodes_words nodes) good.are_printed)) (one_said (nat_lt MAX_LINE (length (spaced (nodes_words nodes)))))
  where
    one_said : (t : Bool) → cond (cond t 1 1 == 1) (body 1 k (spaced (nodes_words nodes) ∷ rest)) (body (cond t 1 1) (k + 1) rest) ≡ body 1 k (spaced (nodes_words nodes) ∷ rest)
    one_said true = refl
    one_said false = refl

-- the line `version 2` or `version 3` stands before the others
second_body : (rest : List (List ℕ)) (k : ℕ) → script_body (spaced (codes "version" ∷ codes "2" ∷ []) ∷ rest) k ≡ body 2 (k + 1) rest
unfolding script_body
second_body rest k = rw (words_spaced (codes "version" ∷ codes "2" ∷ []) (printed_words (codes "version" ∷ codes "2" ∷ []) (refl, (refl, tt)))) refl

third_body : (rest : List (List ℕ)) (k : ℕ) → script_body (spaced (codes "version" ∷ codes "3" ∷ []) ∷ rest) k ≡ body 3 (k + 1) rest
unfolding script_body
third_body rest k = rw (words_spaced (codes "version" ∷ codes "3" ∷ []) (printed_words (codes "version" ∷ codes "3" ∷ []) (refl, (refl, tt)))) refl

pub read_printed : (s : ScriptData) → IsScript s → IsShort s → read_of (print_of s) ≡ Ok s
read_printed s good short =
    ap (λ ls. read_body (script_body ls 1)) (lines_printed s good) ∙ elim good.version [
      | inl one ↦
          ap (λ v. read_body (script_body (map spaced (version_words v ++ later_words s)) 1)) one
          ∙ ap read_body (first_body s.nodes (map spaced (map (set_words s.sets) s.sets ++ (map client_words s.clients ++ map (command_words s) s.commands))) 1 good.few_nodes)
          ∙ ap (λ v. read_from v (map spaced (later_words s)) 1 None) (sym one)
          ∙ later_read s good short 1
      | inr later ↦ elim later [
        | inl two ↦
            ap (λ v. read_body (script_body (map spaced (version_words v ++ later_words s)) 1)) two
            ∙ ap read_body (second_body (map spaced (later_words s)) 1)
            ∙ ap (λ v. read_from v (map spaced (later_words s)) 2 None) (sym two)
            ∙ later_read s good short 2
        | inr three ↦
            ap (λ v. read_body (script_body (map spaced (version_words v ++ later_words s)) 1)) three
            ∙ ap read_body (third_body (map spaced (later_words s)) 1)
            ∙ ap (λ v. read_from v (map spaced (later_words s)) 2 None) (sym three)
            ∙ later_read s good short 2
      ]
    ]
