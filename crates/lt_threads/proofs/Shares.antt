-- Runners that each appended commands are a crew of the script with the commands of all.
use Rattle.std.proofs.Common.{◌≡◌, ℕ, zero, suc, ◌+◌, ◌<◌, ◌≤◌, inl, inr, List, [], ◌∷◌, ◌++◌, Bool, true, false, Option, Some, None, length, refl, sym, ap, subst, arith, ◌∙◌, take, drop, get_or, take-add, ◌==◌, if◌then◌else◌, filter_map, slice_get, eq-eqb, ne_eqb, append_assoc, append-nil, length-append, length-take, take_all}
use Rattle.std.specs.List.{AllByRecursion, cons_option}
use mathlib.Core.List.{IsPrefix}
use Rattle.std.proofs.lemmas.Bool.{cases_eq}
use Rattle.std.proofs.lemmas.List.Elements.{recursion_from_All}
use Rattle.std.proofs.lemmas.Option.{slice_get-get_or, slice_get_within}
use Rattle.lt_modes.specs.declared.command.Command.{Command}
use Rattle.lt_modes.specs.Script.{ScriptData}
use Rattle.lt_spec.specs.Script.{IsScript, IsRequest}
use Rattle.lt_spec.specs.declared.limits.TheConstants.{MAX_COMMANDS}
use Rattle.lt_script.proofs.NameLemmas.{element_at}
use Rattle.lt_spec.specs.NodeMove.{command_if, with_commands, SameAt, AreAt, share_of}
use Rattle.lt_spec.specs.World.{Logged}
use Rattle.lt_merge.specs.Merging.{RunData, Merges}
use Rattle.lt_lists.specs.Below.{gather_below, sum_below}
use Rattle.lt_lists.proofs.AllLemmas.{all_append, all_weaker}
use Rattle.lt_lists.proofs.Sums.{sum_below-same, sum_below-none, sum_below-add, sum_below-at, sum_below-one}
use Rattle.lt_lists.proofs.Members.{some_equal}
use Rattle.lt_law_plays.specs.AppendLaws.{AreOwnCommands as EachIsAt}
use Rattle.lt_law_plays.proofs.Appending.{share_is_same}
use Rattle.lt_runner.specs.declared.parts.Parts.{Parts}
use Rattle.lt_threads.specs.Meeting.{AreShares, ShareScript, AreScripts, commands_in, command_count, AreTooMany, IsJoined, IsSharedRun, AreCrewLogs}

-- the commands of the runner, if there is one
abbrev commands_or : Option Parts → List (ℕ × Command)
commands_or (Some p) = p.node.script.commands
commands_or None = []

gathered_first : {X : Type 0} (n : ℕ) (f : ℕ → List X) → gather_below (suc n) f ≡ f 0 ++ gather_below n (λ k. f (suc k))
gathered_first zero f = sym (append-nil (f 0))
gathered_first (suc n) f =
    ap (λ xs. xs ++ f (suc n)) (gathered_first n f) ∙ append_assoc (f 0) (gather_below n (λ k. f (suc k))) (f (suc n))

gathered : (rs : List Parts) → gather_below (length rs) (λ k. commands_or (slice_get rs k)) ≡ commands_in rs
gathered [] = refl
gathered (p ∷ rs) =
    gathered_first (length rs) (λ k. commands_or (slice_get (p ∷ rs) k))
    ∙ ap (λ (commands : List (ℕ × Command)). p.node.script.commands ++ commands) (gathered rs)

-- each node sees the same in its runner's script as in the one with all commands
pub same_in_joined : (script : ScriptData) (rs : List Parts) → AreShares script rs → (k : ℕ) (p : Parts) → slice_get rs k ≡ Some p
    → SameAt k p.node.script (with_commands script (commands_in rs))
same_in_joined script rs h k p here =
    subst (λ (s : ScriptData). SameAt k s (with_commands script (commands_in rs))) (sym (h.each k p here).script_is)
    (subst (λ (commands : List (ℕ × Command)). SameAt k (with_commands script commands) (with_commands script (commands_in rs))) own
    (subst (λ (commands : List (ℕ × Command)). SameAt k (share_of bare shares k) (with_commands script commands)) all
    (share_is_same bare shares at k (omega (arith, slice_get_within rs k p here, h.count)))))
  where
    bare : ScriptData
    bare = with_commands script []

    shares : ℕ → List (ℕ × Command)
    shares q = commands_or (slice_get rs q)

    own : shares k ≡ p.node.script.commands
    own = ap commands_or here

    all : gather_below script.nodes shares ≡ commands_in rs
    all = ap (λ (n : ℕ). gather_below n shares) (sym h.count) ∙ gathered rs

    at : EachIsAt bare shares
    at q below =
        let (x, there) = element_at rs q (omega (arith, below, h.count)) in
        subst (λ (o : Option Parts). AreAt script q (commands_or o)) (sym there) (h.each q x there).own

pub joined_crew : (script made : ScriptData) (rs : List Parts) → AreShares script rs → made ≡ with_commands script (commands_in rs) → IsScript made
    → length (commands_in rs) ≤ MAX_COMMANDS → IsJoined rs made
joined_crew script made rs h e is_script few = record {
  crew = record {
    is_script = is_script;
    count = h.count ∙ sym (ap (λ (s : ScriptData). s.nodes) e);
    each = λ k p here. record {
      script_is = subst (λ (s : ScriptData). SameAt k p.node.script s) (sym e) (same_in_joined script rs h k p here);
      me = (h.each k p here).me;
      limit = (h.each k p here).limit;
    };
    links = h.links;
  };
  commands = ap (λ (s : ScriptData). s.commands) e;
  few_commands = omega (arith, few, ap (λ (s : ScriptData). length s.commands) e);
}

-- the commands of the first k runners, and then those of the next one
pub commands_next : (rs : List Parts) (k : ℕ) (p : Parts) → slice_get rs k ≡ Some p
    → commands_in (take (k + 1) rs) ≡ commands_in (take k rs) ++ p.node.script.commands
commands_next [] k p here = cc
commands_next (q ∷ rs) zero p here = ap (λ (x : Parts). x.node.script.commands ++ []) (some_equal q p here) ∙ append-nil p.node.script.commands
commands_next (q ∷ rs) (suc k) p here =
    let on : suc k + 1 ≡ suc (k + 1) = omega arith in
    ap (λ (n : ℕ). commands_in (take n (q ∷ rs))) on
    ∙ ap (λ (commands : List (ℕ × Command)). q.node.script.commands ++ commands) (commands_next rs k p here)
    ∙ sym (append_assoc q.node.script.commands (commands_in (take k rs)) p.node.script.commands)

-- the commands of the first ones are the first ones of all
commands_few : (rs : List Parts) (k : ℕ) → IsPrefix (commands_in (take k rs)) (commands_in rs)
commands_few rs zero = (commands_in rs, refl)
commands_few [] (suc k) = ([], refl)
commands_few (p ∷ rs) (suc k) =
    let rest = commands_few rs k in (
      rest.0,
      append_assoc p.node.script.commands (commands_in (take k rs)) rest.0 ∙ ap (λ (commands : List (ℕ × Command)). p.node.script.commands ++ commands) rest.1,
    )

-- each number below n is met once
one_at : (n t : ℕ) → t < n → sum_below n (λ k. if k == t then 1 else 0) ≡ 1
one_at n t below =
    let least : (if t == t then 1 else 0) ≤ sum_below n (λ k. if k == t then 1 else 0) = sum_below-at n t (λ k. if k == t then 1 else 0) below in
    let here : ◌≡◌ {A = ℕ} (if t == t then 1 else 0) 1 = ap (λ (b : Bool). if b then 1 else 0) (eq-eqb t t refl) in
    omega (arith, least, here, sum_below-one n t 1)

same_test : (a b : ℕ) → (a == b) ≡ (b == a)
same_test a b = elim (cases_eq a b) [
  | inl e ↦ eq-eqb a b e ∙ sym (eq-eqb b a (sym e))
  | inr d ↦ ne_eqb a b d ∙ sym (ne_eqb b a (λ e. d (sym e)))
]

-- all commands of these clients are counted once
pub counted : (n : ℕ) (commands : List (ℕ × Command)) → AllByRecursion (λ (request : ℕ × Command). request.0 < n) commands
    → sum_below n (λ client. length (filter_map (command_if client) commands)) ≡ length commands
counted n [] h = sum_below-none n (λ client. 0) (λ k below. refl)
counted n (request ∷ rest) h =
    let each = sum_below-same n (λ client. length (filter_map (command_if client) (request ∷ rest)))
    (λ client. (if client == request.0 then 1 else 0) + length (filter_map (command_if client) rest)) (λ client below.
    by_tests (filter_map (command_if client) rest) (request.0 == client) (client == request.0) (same_test request.0 client)) in
    let parts = sum_below-add n (λ client. if client == request.0 then 1 else 0) (λ client. length (filter_map (command_if client) rest)) in
    omega (arith, each, parts, one_at n request.0 h.0, counted n rest h.1)
  where
    by_tests : (more : List Command) (t u : Bool) → t ≡ u → length (cons_option (if t then Some request.1 else None) more) ≡ (if u then 1 else 0) + length more
    by_tests more true true e = omega arith
    by_tests more false false e = omega arith
    by_tests more true false e = cc
    by_tests more false true e = cc

-- each command is of a client of the script
in_range : (n : ℕ) (rs : List Parts) → ((k : ℕ) (p : Parts) → slice_get rs k ≡ Some p → IsScript p.node.script × (length p.node.script.clients ≡ n))
    → AllByRecursion (λ (request : ℕ × Command). request.0 < n) (commands_in rs)
in_range n [] h = tt
in_range n (p ∷ rs) h =
    let known = h 0 p refl in
    let s : ScriptData = p.node.script in
    let requests = recursion_from_All (IsRequest s.sets s.clients) s.commands known.0.requests in
    all_append (λ (request : ℕ × Command). request.0 < n) s.commands (commands_in rs)
    (all_weaker (IsRequest s.sets s.clients) (λ (request : ℕ × Command). request.0 < n) (λ (request : ℕ × Command) is. omega (arith, is.0, known.1)) s.commands requests)
    (in_range n rs (λ k q there. h (suc k) q there))

-- counted by clients they are as many
by_clients : (rs : List Parts) (script : ScriptData) → AreScripts rs → AreShares script rs
    → command_count (with_commands script (commands_in rs)) ≡ length (commands_in rs)
by_clients rs script scripts h = counted (length script.clients) (commands_in rs) (in_range (length script.clients) rs
    (λ k p here. (scripts k p here, ap (λ (s : ScriptData). length s.clients) (h.each k p here).script_is)))

-- more commands than a text may have are also more where they are counted by clients
pub too_many : (rs : List Parts) → AreScripts rs → MAX_COMMANDS < length (commands_in rs) → AreTooMany rs
too_many rs scripts many script h = let all = by_clients rs script scripts h in omega (arith, many, all)

-- and where they are more so, a text may not have them
pub many : (rs : List Parts) → AreScripts rs → ShareScript rs → AreTooMany rs → MAX_COMMANDS < length (commands_in rs)
many rs scripts shares too_many =
    let all = by_clients rs shares.0 scripts shares.1 in let more = too_many shares.0 shares.1 in omega (arith, more, all)

-- what is joined, and why not
pub joined_all : (rs : List Parts) (made : ScriptData) → ShareScript rs → IsScript made → length (commands_in rs) ≤ MAX_COMMANDS
    → ((script : ScriptData) → AreShares script rs → made ≡ with_commands script (commands_in rs)) → IsJoined rs made
joined_all rs made shares is_script few is = joined_crew shares.0 made rs shares.1 (is shares.0 shares.1) is_script few

pub shared_run : (rs : List Parts) (script : ScriptData) (logs : List RunData) (run : List Logged) → IsJoined rs script → AreCrewLogs script rs logs → Merges logs run
    → IsSharedRun rs script run
shared_run rs script logs run joined finished merges = record {
  joined = joined;
  is_run = finished.is_run run merges;
  rising = merges.order.rising;
  is_crew_run = finished.is_crew_run run merges;
  moves = finished.moves run merges;
}

-- counting the commands of one runner after the other

at_next : (rs : List Parts) (k : ℕ) (d : Parts) → k < length rs → commands_in (take (k + 1) rs) ≡ commands_in (take k rs) ++ (get_or rs k d).node.script.commands
at_next rs k d inside = commands_next rs k (get_or rs k d) (slice_get-get_or rs k d inside)

length_next : (rs : List Parts) (k : ℕ) (d : Parts) → k < length rs
    → length (commands_in (take (k + 1) rs)) ≡ length (commands_in (take k rs)) + length (get_or rs k d).node.script.commands
length_next rs k d inside = ap length (at_next rs k d inside) ∙ length-append (commands_in (take k rs)) (get_or rs k d).node.script.commands

no_more : (rs : List Parts) (k : ℕ) → length (commands_in (take k rs)) ≤ length (commands_in rs)
no_more rs k =
    let more = commands_few rs k in
    omega (arith, ap length more.1, length-append (commands_in (take k rs)) more.0)

pub count_next : (rs : List Parts) (k count own : ℕ) (d : Parts) (s : ScriptData) → k < length rs → count ≡ length (commands_in (take k rs))
    → s ≡ (get_or rs k d).node.script → own ≡ length s.commands → count + own ≡ length (commands_in (take (k + 1) rs))
count_next rs k count own d s inside so_far is counts =
    omega (arith, so_far, counts, ap (λ (x : ScriptData). length x.commands) is, length_next rs k d inside)

pub count_past : (rs : List Parts) (k count own : ℕ) (d : Parts) (s : ScriptData) → k < length rs → count ≡ length (commands_in (take k rs))
    → s ≡ (get_or rs k d).node.script → own ≡ length s.commands → MAX_COMMANDS < count + own → MAX_COMMANDS < length (commands_in rs)
count_past rs k count own d s inside so_far is counts past = omega (arith, past, count_next rs k count own d s inside so_far is counts, no_more rs (k + 1))

pub count_all : (rs : List Parts) (k count : ℕ) → length rs ≤ k → count ≡ length (commands_in (take k rs)) → count ≤ MAX_COMMANDS
    → length (commands_in rs) ≤ MAX_COMMANDS
count_all rs k count long so_far few = omega (arith, so_far, few, ap (λ (xs : List Parts). length (commands_in xs)) (take_all k rs long))

-- the first n runners have scripts
abbrev pub ScriptsTo : ℕ → List Parts → Type 0
ScriptsTo n rs = (k : ℕ) (p : Parts) → k < n → slice_get rs k ≡ Some p → IsScript p.node.script

pub next_script : (n : ℕ) (rs : List Parts) (d : Parts) → n < length rs → ScriptsTo n rs → IsScript (get_or rs n d).node.script → ScriptsTo (n + 1) rs
next_script n rs d inside before here k p below e = elim (cases_eq k n) [
  | inl at ↦ subst (λ (q : Parts). IsScript q.node.script)
      (some_equal (get_or rs n d) p (sym (slice_get-get_or rs n d inside) ∙ ap (slice_get rs) (sym at) ∙ e)) here
  | inr apart ↦ before k p (omega (arith, below, apart)) e
]

pub all_scripts : (n : ℕ) (rs : List Parts) → length rs ≤ n → ScriptsTo n rs → AreScripts rs
all_scripts n rs long scripts k p e = let inside = slice_get_within rs k p e in scripts k p (omega (arith, inside, long)) e

-- the script with the commands of the first k runners
abbrev pub Gathers : ℕ → List Parts → ScriptData → Type 0
Gathers k rs made = (script : ScriptData) → AreShares script rs → made ≡ with_commands script (commands_in (take k rs))

get_is : (script : ScriptData) (rs : List Parts) (k : ℕ) (d : Parts) → AreShares script rs → k < length rs
    → (get_or rs k d).node.script ≡ with_commands script (get_or rs k d).node.script.commands
get_is script rs k d h inside = (h.each k (get_or rs k d) (slice_get-get_or rs k d inside)).script_is

pub gather_first : (rs : List Parts) (d : Parts) (made s : ScriptData) → 0 < length rs → s ≡ (get_or rs 0 d).node.script → made ≡ s → Gathers 1 rs made
gather_first rs d made s some is copied script h =
    copied ∙ (is ∙ (get_is script rs 0 d h some ∙ ap (with_commands script) (sym (at_next rs 0 d some))))

pub gather_same : (rs : List Parts) (k : ℕ) (d : Parts) (made s : ScriptData) → ShareScript rs → k < length rs → Gathers k rs made → s ≡ (get_or rs k d).node.script
    → s ≡ with_commands made s.commands
gather_same rs k d made s shares inside so_far is =
    let script = shares.0 in
    let own : s ≡ with_commands script s.commands =
    subst (λ (x : ScriptData). x ≡ with_commands script x.commands) (sym is) (get_is script rs k d shares.1 inside) in
    own ∙ sym (ap (λ (x : ScriptData). with_commands x s.commands) (so_far script shares.1))

pub gather_room : (rs : List Parts) (k : ℕ) (d : Parts) (made s : ScriptData) → ShareScript rs → k < length rs → Gathers k rs made → s ≡ (get_or rs k d).node.script
    → length (commands_in rs) ≤ MAX_COMMANDS → length made.commands + length s.commands ≤ MAX_COMMANDS
gather_room rs k d made s shares inside so_far is room =
    omega (
      arith,
      ap (λ (x : ScriptData). length x.commands) (so_far shares.0 shares.1),
      ap (λ (x : ScriptData). length x.commands) is,
      length_next rs k d inside,
      no_more rs (k + 1),
      room,
    )

pub gather_next : (rs : List Parts) (k : ℕ) (d : Parts) (made s new : ScriptData) → k < length rs → Gathers k rs made → s ≡ (get_or rs k d).node.script
    → new ≡ with_commands made (made.commands ++ s.commands) → Gathers (k + 1) rs new
gather_next rs k d made s new inside so_far is added script h =
    added
    ∙ (ap (λ (x : ScriptData). with_commands x (x.commands ++ s.commands)) (so_far script h)
    ∙ (ap (λ (x : ScriptData). with_commands script (commands_in (take k rs) ++ x.commands)) is
    ∙ ap (with_commands script) (sym (at_next rs k d inside))))

pub gather_all : (rs : List Parts) (k : ℕ) (made : ScriptData) → length rs ≤ k → Gathers k rs made
    → (script : ScriptData) → AreShares script rs → made ≡ with_commands script (commands_in rs)
gather_all rs k made long so_far script h = so_far script h ∙ ap (λ (xs : List Parts). with_commands script (commands_in xs)) (take_all k rs long)

-- adding the commands of another script

pub one_taken : {X : Type 0} (xs : List X) (k : ℕ) (x : X) → slice_get xs k ≡ Some x → take 1 (drop k xs) ≡ x ∷ []
one_taken [] k x here = cc
one_taken (y ∷ ys) zero x here = ap (λ v. v ∷ []) (some_equal y x here)
one_taken (y ∷ ys) (suc k) x here = one_taken ys k x here

-- the script with the first k of the further commands
abbrev pub Adds : ℕ → List (ℕ × Command) → ScriptData → ScriptData → Type 0
Adds k more old made = made ≡ with_commands old (old.commands ++ take k more)

pub add_first : (more : List (ℕ × Command)) (old : ScriptData) → Adds 0 more old old
add_first more old = ap (with_commands old) (sym (append-nil old.commands))

pub add_same : (k : ℕ) (old made other : ScriptData) → other ≡ with_commands old other.commands → Adds k other.commands old made
    → other ≡ with_commands made other.commands
add_same k old made other same so_far = same ∙ sym (ap (λ (s : ScriptData). with_commands s other.commands) so_far)

pub add_room : (k : ℕ) (old made other : ScriptData) → k < length other.commands → Adds k other.commands old made
    → length old.commands + length other.commands ≤ MAX_COMMANDS → length made.commands < MAX_COMMANDS
add_room k old made other inside so_far room =
    omega (
      arith,
      inside,
      room,
      ap (λ (s : ScriptData). length s.commands) so_far,
      length-append old.commands (take k other.commands),
      length-take k other.commands,
    )

pub add_next : (k : ℕ) (old made new other : ScriptData) → Adds k other.commands old made
    → new ≡ with_commands made (made.commands ++ take 1 (drop k other.commands)) → Adds (k + 1) other.commands old new
add_next k old made new other so_far added =
    let more = other.commands in
    added
    ∙ (ap (λ (s : ScriptData). with_commands s (s.commands ++ take 1 (drop k more))) so_far
    ∙ ap (with_commands old) (append_assoc old.commands (take k more) (take 1 (drop k more)) ∙ ap (λ xs. old.commands ++ xs) (sym (take-add k 1 more))))

pub add_all : (k : ℕ) (old made other : ScriptData) → length other.commands ≤ k → Adds k other.commands old made
    → made ≡ with_commands old (old.commands ++ other.commands)
add_all k old made other long so_far = so_far ∙ ap (λ (xs : List (ℕ × Command)). with_commands old (old.commands ++ xs)) (take_all k other.commands long)
