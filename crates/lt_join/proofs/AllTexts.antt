-- The texts of all nodes are joined to the text of their run.
use Rattle.std.proofs.Common.{◌≡◌, ◌<◌, ◌==◌, not, ℕ, zero, suc, Bool, true, false, cond, is_none, inl, inr, List, [], ◌∷◌, ◌++◌, length, map, Option, Some, None, refl, sym, ap, ap₂, ◌∙◌, arith, slice_get, append-nil, append_assoc, eq-eqb, ne_eqb, le-leb, bytes_eq, nat_le, Contains}
use Rattle.std.specs.List.{AllByRecursion, list_all}
use Rattle.std.proofs.lemmas.Bool.{cases_eq, and_from}
use Rattle.lt_modes.specs.declared.command.Command.{Command}
use Rattle.lt_modes.specs.Script.{ScriptData}
use Rattle.lt_lists.specs.Below.{any_below, gather_below}
use Rattle.lt_lists.proofs.Members.{contains_cases, none_in, some_equal}
use Rattle.lt_spec.specs.NodeMove.{with_commands}
use Rattle.lt_spec.specs.declared.limits.TheConstants.{MAX_COMMANDS}
use Rattle.lt_script.specs.Printing.{print_of}
use Rattle.lt_script.proofs.NameLemmas.{same_name, element_at}
use Rattle.lt_journal.specs.RunLines.{text_of}
use Rattle.lt_law_plays.specs.Merged.{merged, Part, logs_of}
use Rattle.lt_law_merged.proofs.PartLogs.{part_is}
use Rattle.lt_law_apart.specs.Apart.{NodeNow, part_now, commands_apart, script_apart, run_apart}
use Rattle.lt_join.specs.Parts.{RunText, NodeSaid, text_of_node, said_in, shown_entry, said_and, all_said, said_of_node, commands_said, log_said, has_script, are_of_all, text_of_all, joined_said, joined_text}
use Rattle.lt_join.specs.JoinLaws.{AreShortApart, IsTextOfOne, AreTextsOfAll, text_apart, JoinsToRun}
use Rattle.lt_join.proofs.Shown.{text_shown, merged_shown}
use Rattle.lt_join.proofs.NodeTexts.{parts_are_read}

-- The commands of all nodes, gathered by number.

abbrev commands_at : Option NodeNow → List (ℕ × Command)
commands_at (Some n) = n.commands
commands_at None = []

gathered_first : {X : Type 0} (n : ℕ) (f : ℕ → List X) → gather_below (suc n) f ≡ f 0 ++ gather_below n (λ k. f (suc k))
gathered_first zero f = sym (append-nil (f 0))
gathered_first (suc n) f =
    ap (λ xs. xs ++ f (suc n)) (gathered_first n f) ∙ append_assoc (f 0) (gather_below n (λ k. f (suc k))) (f (suc n))

gathered : (nodes : List NodeNow) → gather_below (length nodes) (λ k. commands_at (slice_get nodes k)) ≡ commands_apart nodes
gathered [] = refl
gathered (n ∷ nodes) =
    gathered_first (length nodes) (λ k. commands_at (slice_get (n ∷ nodes) k))
    ∙ ap (λ (commands : List (ℕ × Command)). n.commands ++ commands) (gathered nodes)

gathered_same : {X : Type 0} (n : ℕ) (f g : ℕ → List X) → ((k : ℕ) → k < n → f k ≡ g k) → gather_below n f ≡ gather_below n g
gathered_same zero f g same = refl
gathered_same {X = X} (suc n) f g same =
    ap₂ (λ (xs ys : List X). xs ++ ys) (gathered_same n f g (λ k below. same k (omega (arith, below)))) (same n (omega arith))

none_below : (n : ℕ) (test : ℕ → Bool) → ((k : ℕ) → k < n → test k ≡ false) → any_below n test ≡ false
none_below zero test none = refl
none_below (suc n) test none =
    rw (none_below n test (λ k below. none k (omega (arith, below)))) (none n (omega arith))

-- the log of a node among those of all
log_there : (script : ScriptData) (nodes : List NodeNow) (x : ℕ) (n : NodeNow) → slice_get nodes x ≡ Some n
    → (logs_of script (map part_now nodes)).log x ≡ n.part.log
log_there script nodes x n here = ap (λ (part : Part). part.log) (part_is script (map part_now nodes) x n.part (part_there nodes x here))
  where
    part_there : (all : List NodeNow) (k : ℕ) → slice_get all k ≡ Some n → slice_get (map part_now all) k ≡ Some n.part
    part_there [] k e = cc
    part_there (m ∷ all) zero e = ap (λ (o : NodeNow). Some o.part) (some_equal m n e)
    part_there (m ∷ all) (suc k) e = part_there all k e

module _ (first : ScriptData) (nodes : List NodeNow) (h : AreShortApart first nodes) where
  abbrev saying : ℕ → NodeNow → NodeSaid
  saying x n = record { script = with_commands first n.commands; node = x; log = map (shown_entry first.version) n.part.log }

  abbrev AreOfOne : List RunText → Type 0
  AreOfOne texts = AllByRecursion (IsTextOfOne first nodes) texts

  -- what the texts say
  abbrev sayings : (texts : List RunText) → AreOfOne texts → List NodeSaid
  sayings [] all = []
  sayings (text ∷ texts) all = saying all.0.place all.0.node ∷ sayings texts all.1

  said_one : (text : RunText) (one : IsTextOfOne first nodes text) → said_in text ≡ Some (saying one.place one.node)
  said_one text one = ap said_in one.text_is ∙ parts_are_read first nodes one.place one.node h one.here

  said_each : (texts : List RunText) (all : AreOfOne texts) → all_said texts ≡ Some (sayings texts all)
  said_each [] all = refl
  said_each (text ∷ texts) all = ap₂ said_and (said_one text all.0) (said_each texts all.1)

  counted : (texts : List RunText) (all : AreOfOne texts) → length (sayings texts all) ≡ length texts
  counted [] all = refl
  counted (text ∷ texts) all = ap suc (counted texts all.1)

  -- each node's is found by its number
  found : (texts : List RunText) (all : AreOfOne texts) (x : ℕ) (n : NodeNow) → slice_get nodes x ≡ Some n
      → Contains texts (text_of_node first x n) → said_of_node (sayings texts all) x ≡ Some (saying x n)
  found [] all x n here there = none_in (text_of_node first x n) there
  found (text ∷ texts) all x n here there = elim (cases_eq all.0.place x) [
    | inl same ↦
        let node : all.0.node ≡ n = some_equal all.0.node n (sym all.0.here ∙ ap (slice_get nodes) same ∙ here) in
        rw (eq-eqb all.0.place x same) (λ i. Some (saying (same i) (node i)))
    | inr apart ↦ rw (ne_eqb all.0.place x apart) (found texts all.1 x n here (elim (contains_cases text (text_of_node first x n) texts there) [
      | inl e ↦
          let both = sym (said_one text all.0) ∙ ap said_in e ∙ parts_are_read first nodes x n h here in
          absurd (apart (ap (λ (said : NodeSaid). said.node) (some_equal (saying all.0.place all.0.node) (saying x n) both)))
      | inr later ↦ later
    ]))
  ]

  same_scripts : (commands : List (ℕ × Command)) (texts : List RunText) (all : AreOfOne texts)
      → list_all (has_script (with_commands first commands)) (sayings texts all) ≡ true
  same_scripts commands [] all = refl
  same_scripts commands (text ∷ texts) all =
      and_from (bytes_eq (print_of (with_commands first [])) (print_of (with_commands first []))) _
      (same_name (print_of (with_commands first []))) (same_scripts commands texts all.1)

  module _ (texts : List RunText) (are : AreTextsOfAll first nodes texts) where
    abbrev all : List NodeSaid
    all = sayings texts are.each

    -- what is found of each node
    at : (x : ℕ) → x < first.nodes → (n : NodeNow) × (slice_get nodes x ≡ Some n) × (said_of_node all x ≡ Some (saying x n))
    at x below =
        let (n, here) = element_at nodes x (omega (arith, below, h.apart.count)) in
        (n, here, found texts are.each x n here (are.all x n here))

    commands_are : gather_below first.nodes (λ x. commands_said (said_of_node all x)) ≡ commands_apart nodes
    commands_are =
        gathered_same first.nodes (λ x. commands_said (said_of_node all x)) (λ x. commands_at (slice_get nodes x))
        (λ x below. let (n, here, said) = at x below in ap commands_said said ∙ sym (ap commands_at here))
        ∙ ap (λ (k : ℕ). gather_below k (λ x. commands_at (slice_get nodes x))) (sym h.apart.count)
        ∙ gathered nodes

    run_is : merged first.nodes (λ x. log_said (said_of_node all x)) ≡ map (shown_entry first.version) (run_apart first nodes)
    run_is =
        merged_shown first.version first.nodes (logs_of (script_apart first nodes) (map part_now nodes)).log
        (λ x. log_said (said_of_node all x))
        (λ x below.
        let (n, here, said) = at x below in
        ap log_said said ∙ ap (map (shown_entry first.version)) (sym (log_there (script_apart first nodes) nodes x n here)))

    text_is : (commands : List (ℕ × Command)) → text_of_all (with_commands first commands) all ≡ text_apart first nodes
    text_is commands =
        (λ i. record {
          script = print_of (with_commands first (commands_are i));
          moves = text_of (with_commands first (commands_are i)) (run_is i) None;
        })
        ∙ ap (λ (moves : List ℕ). written moves) (text_shown (script_apart first nodes) (run_apart first nodes))
      where
        written : List ℕ → RunText
        written moves = record { script = print_of (script_apart first nodes); moves = moves }

    of_all : (commands : List (ℕ × Command)) → are_of_all (with_commands first commands) all ≡ true
    of_all commands =
        and_from (length all == first.nodes) _
        (eq-eqb (length all) first.nodes (counted texts are.each ∙ are.count ∙ h.apart.count))
        (and_from (not (any_below first.nodes (λ x. is_none (said_of_node all x)))) _
        (ap not (none_below first.nodes (λ x. is_none (said_of_node all x)) (λ x below. ap is_none (at x below).2)))
        (and_from (list_all (has_script (with_commands first commands)) all) _ (same_scripts commands texts are.each)
        (ap (λ (list : List (ℕ × Command)). nat_le (length list) MAX_COMMANDS) commands_are
        ∙ le-leb (length (commands_apart nodes)) MAX_COMMANDS h.short.commands)))

  joined_all : (texts : List RunText) → AreTextsOfAll first nodes texts → joined_text texts ≡ Some (text_apart first nodes)
  joined_all [] are = absurd (omega (arith, are.count, h.apart.count, h.apart.some))
  joined_all (text ∷ texts) are =
      let commands = are.each.0.node.commands in
      ap joined_said (said_each (text ∷ texts) are.each)
      ∙ ap (λ (is_all : Bool). cond is_all (Some (text_of_all (with_commands first commands) (all (text ∷ texts) are))) None) (of_all (text ∷ texts) are commands)
      ∙ ap Some (text_is (text ∷ texts) are commands)

pub joins_to_run : JoinsToRun
joins_to_run first nodes texts h are = joined_all first nodes h texts are
