-- What nothing is joined of.
use Rattle.std.proofs.Common.{◌≡◌, ◌≢◌, ◌<◌, ◌==◌, not, ℕ, suc, Bool, true, false, cond, is_none, inl, inr, List, [], ◌∷◌, length, map, Option, Some, None, refl, sym, ap, subst, ◌∙◌, eqb-true, ne_eqb, bytes_eq, Contains}
use Rattle.std.specs.List.{AllByRecursion, list_all}
use Rattle.std.proofs.lemmas.Bool.{cases_Bool, and_parts, not-true, false≢true}
use Rattle.lt_modes.specs.Script.{ScriptData}
use Rattle.lt_lists.specs.Below.{any_below}
use Rattle.lt_lists.proofs.Members.{contains_cases, contains_first, contains_later, none_in, some_equal}
use Rattle.lt_lists.proofs.Searches.{any_below_at}
use Rattle.lt_spec.specs.NodeMove.{with_commands}
use Rattle.lt_script.specs.Printing.{print_of}
use Rattle.lt_script.proofs.NameLemmas.{same_name}
use Rattle.lt_journal.proofs.Written.{same_word}
use Rattle.lt_law_apart.specs.Apart.{NodeNow}
use Rattle.lt_join.specs.Parts.{RunText, NodeSaid, shown_entry, said_in, said_and, all_said, said_of_node, has_script, are_of_all, text_of_all, joined_said, joined_text}
use Rattle.lt_join.specs.JoinLaws.{IsSaid, IsTextOfOne, JoinRefuses}
use Rattle.lt_join.proofs.NodeTexts.{parts_are_read}

none_with : (said : Option NodeSaid) → said_and said None ≡ None
none_with None = refl
none_with (Some said) = refl

-- one text that says nothing
one_unread : (texts : List RunText) (text : RunText) → Contains texts text → said_in text ≡ None → all_said texts ≡ None
one_unread [] text there none = none_in text there
one_unread (first ∷ texts) text there none = elim (contains_cases first text texts there) [
  | inl same ↦ ap (λ said. said_and said (all_said texts)) (ap said_in same ∙ none)
  | inr later ↦ ap (said_and (said_in first)) (one_unread texts text later none) ∙ none_with (said_in first)
]

-- What is said by all texts.
pub record AreSaid (texts : List RunText) (all : List NodeSaid) : Type 0 where
  pub count : length all ≡ length texts
  pub from : (said : NodeSaid) → Contains all said → (text : RunText) × IsSaid texts text said
  pub has : (text : RunText) (said : NodeSaid) → IsSaid texts text said → Contains all said

are_said : (texts : List RunText) (all : List NodeSaid) → all_said texts ≡ Some all → AreSaid texts all
are_said [] all e =
    let none : [] ≡ all = some_equal [] all e in
    subst (λ (l : List NodeSaid). AreSaid [] l) none (record {
      count = refl;
      from = λ said there. none_in said there;
      has = λ text said is_said. none_in text is_said.0;
    })
are_said (text ∷ texts) all e = by_parts (said_in text) refl (all_said texts) refl (λ others told. are_said texts others told) e
  where
    both : (said : NodeSaid) (others : List NodeSaid) → said_in text ≡ Some said → AreSaid texts others → AreSaid (text ∷ texts) (said ∷ others)
    both said others here later = record {
      count = ap suc later.count;
      from = λ other there. elim (contains_cases said other others there) [
        | inl same ↦ (text, (contains_first text text texts refl, here ∙ ap Some same))
        | inr among ↦
            let found = later.from other among in
            (found.0, (contains_later text found.0 texts found.1.0, found.1.1))
      ];
      has = λ other told is_said. elim (contains_cases text other texts is_said.0) [
        | inl same ↦ contains_first said told others (some_equal said told (sym here ∙ ap said_in same ∙ is_said.1))
        | inr among ↦ contains_later said told others (later.has other told (among, is_said.1))
      ];
    }

    by_parts : (o : Option NodeSaid) → said_in text ≡ o → (p : Option (List NodeSaid)) → all_said texts ≡ p
        → ((others : List NodeSaid) → all_said texts ≡ Some others → AreSaid texts others) → said_and o p ≡ Some all → AreSaid (text ∷ texts) all
    by_parts None f p g again told = absurd (cc)
    by_parts (Some said) f None g again told = absurd (cc)
    by_parts (Some said) f (Some others) g again told =
        subst (λ (l : List NodeSaid). AreSaid (text ∷ texts) l) (some_equal (said ∷ others) all told)
        (both said others f (again others g))

-- what is so of texts that are joined
record AreOfAll (script : ScriptData) (all : List NodeSaid) : Type 0 where
  count : length all ≡ script.nodes
  each : any_below script.nodes (λ x. is_none (said_of_node all x)) ≡ false
  same : list_all (has_script script) all ≡ true

parts_of_all : (script : ScriptData) (all : List NodeSaid) → are_of_all script all ≡ true → AreOfAll script all
parts_of_all script all e =
    let first = and_parts (length all == script.nodes) _ e in
    let second = and_parts (not (any_below script.nodes (λ x. is_none (said_of_node all x)))) _ first.1 in
    let third = and_parts (list_all (has_script script) all) _ second.1 in
    record {
      count = eqb-true (length all) script.nodes first.0;
      each = not-true (any_below script.nodes (λ x. is_none (said_of_node all x))) second.0;
      same = third.0;
    }

-- nothing is joined of texts where that isn't so
refused : (texts : List RunText)
    → ((first : NodeSaid) (others : List NodeSaid) → AreSaid texts (first ∷ others) → AreOfAll first.script (first ∷ others) → ⊥)
    → joined_text texts ≡ None
refused texts never = by_said (all_said texts) refl
  where
    by_test : (first : NodeSaid) (others : List NodeSaid) → AreSaid texts (first ∷ others) → joined_said (Some (first ∷ others)) ≡ None
    by_test first others are = elim (cases_Bool (are_of_all first.script (first ∷ others))) [
      | inl all ↦ absurd (never first others are (parts_of_all first.script (first ∷ others) all))
      | inr not_all ↦ ap (λ (b : Bool). cond b (Some (text_of_all first.script (first ∷ others))) None) not_all
    ]

    by_said : (o : Option (List NodeSaid)) → all_said texts ≡ o → joined_said o ≡ None
    by_said None e = refl
    by_said (Some []) e = refl
    by_said (Some (first ∷ others)) e = by_test first others (are_said texts (first ∷ others) e)

none_of_node : (all : List NodeSaid) (x : ℕ) → ((said : NodeSaid) → Contains all said → said.node ≢ x) → said_of_node all x ≡ None
none_of_node [] x apart = refl
none_of_node (said ∷ others) x apart =
    rw (ne_eqb said.node x (apart said (contains_first said said others refl)))
    (none_of_node others x (λ other there. apart other (contains_later said other others there)))

passes : {X : Type 0} (test : X → Bool) (xs : List X) (x : X) → list_all test xs ≡ true → Contains xs x → test x ≡ true
passes test [] x all there = none_in x there
passes test (y ∷ ys) x all there =
    let parts = and_parts (test y) (list_all test ys) all in
    elim (contains_cases y x ys there) [
      | inl same ↦ ap test (sym same) ∙ parts.0
      | inr later ↦ passes test ys x parts.1 later
    ]

head_said : (texts : List RunText) (first : NodeSaid) (others : List NodeSaid) → AreSaid texts (first ∷ others)
    → (text : RunText) × IsSaid texts text first
head_said texts first others are = are.from first (contains_first first first others refl)

-- no text of some node
missing : (texts : List RunText) (x : ℕ)
    → ((text : RunText) (said : NodeSaid) → IsSaid texts text said → (x < said.script.nodes) × (said.node ≢ x))
    → joined_text texts ≡ None
missing texts x none = refused texts (λ first others are all.
    let head = head_said texts first others are in
    let absent = none_of_node (first ∷ others) x (λ said there. let found = are.from said there in (none found.0 said found.1).1) in
    let some = any_below_at first.script.nodes x (λ k. is_none (said_of_node (first ∷ others) k)) (none head.0 first head.1).0 (ap is_none absent) in
    false≢true (sym all.each ∙ some))

pub join_refuses : JoinRefuses
join_refuses = record {
  none = refl;
  unread = λ texts text there none. ap joined_said (one_unread texts text there none);
  missing = missing;
  left_out = λ first nodes texts x h below one. missing texts x (λ text said is_said.
      let found = among first nodes x texts text one is_said.0 in
      let saying : NodeSaid = record {
        script = with_commands first found.0.node.commands;
        node = found.0.place;
        log = map (shown_entry first.version) found.0.node.part.log;
      } in
      let same = some_equal saying said (sym (ap said_in found.0.text_is ∙ parts_are_read first nodes found.0.place found.0.node h found.0.here) ∙ is_said.1) in (
        subst (λ (told : NodeSaid). x < told.script.nodes) same below,
        subst (λ (told : NodeSaid). told.node ≢ x) same found.1,
      ));
  counted = λ texts differ. refused texts (λ first others are all.
      let head = head_said texts first others are in
      differ head.0 first head.1 (sym are.count ∙ all.count));
  other = λ texts text second said told here there differ. refused texts (λ first others are all.
      let its = print_of (with_commands first.script []) in
      let one = same_word (print_of (with_commands said.script [])) its (passes (has_script first.script) (first ∷ others) said all.same (are.has text said here)) in
      let two = same_word (print_of (with_commands told.script [])) its (passes (has_script first.script) (first ∷ others) told all.same (are.has second told there)) in
      let same = subst (λ (bytes : List ℕ). bytes_eq (print_of (with_commands said.script [])) bytes ≡ true) (one ∙ sym two)
      (same_name (print_of (with_commands said.script []))) in
      false≢true (sym differ ∙ same));
}
  where
    among : (first : ScriptData) (nodes : List NodeNow) (x : ℕ) (texts : List RunText) (text : RunText)
        → AllByRecursion (λ (t : RunText). (one : IsTextOfOne first nodes t) × (one.place ≢ x)) texts → Contains texts text
        → (one : IsTextOfOne first nodes text) × (one.place ≢ x)
    among first nodes x [] text all there = none_in text there
    among first nodes x (t ∷ texts) text all there = elim (contains_cases t text texts there) [
      | inl same ↦ subst (λ (s : RunText). (one : IsTextOfOne first nodes s) × (one.place ≢ x)) same all.0
      | inr later ↦ among first nodes x texts text all.1 later
    ]
