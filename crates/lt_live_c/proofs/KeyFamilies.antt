-- The sets of keys are families of as many members as they are to have.
use Rattle.std.proofs.Common.{◌≡◌, ◌≢◌, ◌<◌, ◌≤◌, ◌+◌, ◌-◌, ◌*◌, ◌/◌, ◌%◌, ◌==◌, ◌&&◌, ◌||◌, ◌++◌, ◌∷◌, [], ℕ, zero, suc, List, Bool, true, false, not, Option, Some, None, is_some, inl, inr, refl, sym, ap, subst, ◌∙◌, arith, bytes_eq, eqb-true, length, position, if◌then◌else◌, option_map, option_and_then}
use Rattle.std.proofs.lemmas.Bool.{and_parts, cases_lt, false≢true}
use Rattle.std.proofs.lemmas.List.{length_push}
use Rattle.std.proofs.lemmas.Nat.{div-add-mod', mod-mul-add, mul-add-lt}
use Rattle.std.proofs.lemmas.Option.{same_Some}
use Rattle.std.proofs.Math.Nat.{mod-lt}
use Rattle.lt_modes.specs.Script.{ScriptData, SetData, family_at}
use Rattle.lt_spec.specs.Script.{is_name, is_declared, set_number, client_number}
use Rattle.lt_script.proofs.NameLemmas.{found_stays, found_last, same_name}
use Rattle.lt_script.proofs.ScriptLemmas.{family_front, family_last}
use Rattle.lt_keys.specs.Keys.{key_name}
use Rattle.lt_live_c.specs.NewSets.{SetWords, family_of_next, in_family, is_new_name, with_next_set, with_next_sets}
use Rattle.lt_live_c.specs.KeySets.{key_words, key_sets_from, key_sets}

unnumbered : (o : Option ℕ) (other : Bool) → not (is_some o || other) ≡ true → o ≡ None
unnumbered None other e = refl
unnumbered (Some number) other e = absurd (false≢true e)

-- what was added
pub record IsAdded (s t : ScriptData) (set : SetWords) : Type 0 where
  pub family : ℕ
  pub family_is : family_of_next s set.parent ≡ Some family
  pub new : set_number s set.name ≡ None
  pub then_is : t ≡ in_family s set.name family

is_added : (s t : ScriptData) (set : SetWords) → with_next_set s set ≡ Some t → IsAdded s t set
is_added s t set = by_parts (is_new_name s set.name) (family_of_next s set.parent) refl refl
  where
    by_parts : (b : Bool) (family : Option ℕ) → is_new_name s set.name ≡ b → family_of_next s set.parent ≡ family
        → (if b then option_map (in_family s set.name) family else None) ≡ Some t → IsAdded s t set
    by_parts false family new is e = absurd (cc)
    by_parts true None new is e = absurd (cc)
    by_parts true (Some family) new is e = record {
      family = family;
      family_is = is;
      new = unnumbered (set_number s set.name) (is_some (client_number s set.name)) (and_parts (is_name set.name) (not (is_declared s set.name)) new).1;
      then_is = sym (same_Some (in_family s set.name family) t e);
    }

module _ (members first : ℕ) (some : 0 < members) where
  -- each of the first k is found by its name, and its family has the number of its root
  pub record AreFamilies (k : ℕ) (s : ScriptData) : Type 0 where
    pub count : length s.sets ≡ first + k
    pub named : (j : ℕ) → j < k → set_number s (key_name j) ≡ Some (first + j)
    pub families : (j : ℕ) → j < k → family_at s.sets (first + j) ≡ first + (j - j % members)

  -- a root is the first of its family
  root_first : (k : ℕ) → (k - k % members) % members ≡ 0
  root_first k =
      let quotient : k - k % members ≡ k / members * members + 0 = omega (arith, div-add-mod' k members) in
      ap (λ (n : ℕ). n % members) quotient ∙ mod-mul-add (k / members) members 0 some

  -- the family of the next one
  next_family : (k : ℕ) (s : ScriptData) → AreFamilies k s → (b : Bool) → (k % members == 0) ≡ b
      → family_of_next s (if b then [] else key_name (k - k % members)) ≡ Some (first + (k - k % members))
  next_family k s so_far true e =
      let none = eqb-true (k % members) 0 e in
      ap (λ (n : ℕ). Some n) (omega (arith, so_far.count, none))
  next_family k s so_far false e =
      let root = k - k % members in
      let within = mod-lt k {m = members} some in
      let some_more : 0 < k % members = positive (k % members) e in
      let least : k % members ≤ k = omega (arith, div-add-mod' k members) in
      let before : root < k = omega (arith, some_more, least) in
      ap (option_map (family_at s.sets)) (so_far.named root before)
      ∙ ap (λ (n : ℕ). Some n) (so_far.families root before ∙ omega (arith, root_first k))
    where
      positive : (n : ℕ) → (n == 0) ≡ false → 0 < n
      positive zero f = absurd (false≢true (sym f))
      positive (suc n) f = omega arith

  family_added : (k : ℕ) (s t : ScriptData) → AreFamilies k s → with_next_set s (key_words members k) ≡ Some t → AreFamilies (k + 1) t
  family_added k s t so_far e =
      let is = is_added s t (key_words members k) e in
      let family : is.family ≡ first + (k - k % members) = same_Some is.family (first + (k - k % members)) (sym is.family_is ∙ next_family k s so_far (k % members == 0) refl) in
      subst (λ (x : ScriptData). AreFamilies (k + 1) x) (sym is.then_is) (record {
        count = length_push s.sets (the_set is.family) ∙ omega (arith, so_far.count);
        named = λ j below. elim (cases_lt j k) [
          | inl before ↦ found_stays (λ (x : SetData). bytes_eq x.name (key_name j)) s.sets (the_set is.family ∷ []) (first + j) (so_far.named j before)
          | inr last ↦
              let here : j ≡ k = omega (arith, below, last) in
              subst (λ (i : ℕ). set_number (in_family s (key_name k) is.family) (key_name i) ≡ Some (first + i)) (sym here)
              (found_last (λ (x : SetData). bytes_eq x.name (key_name k)) s.sets (the_set is.family) is.new (same_name (key_name k)) ∙ ap (λ (n : ℕ). Some n) so_far.count)
        ];
        families = λ j below. elim (cases_lt j k) [
          | inl before ↦ family_front s.sets (the_set is.family) (first + j) (omega (arith, before, so_far.count)) ∙ so_far.families j before
          | inr last ↦
              let here : j ≡ k = omega (arith, below, last) in
              subst (λ (i : ℕ). family_at (s.sets ++ the_set is.family ∷ []) (first + i) ≡ first + (i - i % members)) (sym here)
              (family_last s.sets (the_set is.family) (first + k) (sym so_far.count) ∙ family)
        ];
      })
    where
      the_set : ℕ → SetData
      the_set family = record { name = key_name k; family = family }

  pub all_families : (k n : ℕ) (s whole : ScriptData) → AreFamilies k s → with_next_sets s (key_sets_from members k n) ≡ Some whole → AreFamilies (k + n) whole
  all_families k zero s whole so_far e =
      subst (λ (i : ℕ). AreFamilies i whole) (omega arith) (subst (λ (x : ScriptData). AreFamilies k x) (same_Some s whole e) so_far)
  all_families k (suc n) s whole so_far e =
      by_next (with_next_set s (key_words members k)) refl e (λ t more rest. all_families (k + 1) n t whole more rest)
    where
      by_next : (o : Option ScriptData) → with_next_set s (key_words members k) ≡ o
          → option_and_then (λ (more : ScriptData). with_next_sets more (key_sets_from members (k + 1) n)) o ≡ Some whole
          → ((t : ScriptData) → AreFamilies (k + 1) t → with_next_sets t (key_sets_from members (k + 1) n) ≡ Some whole → AreFamilies ((k + 1) + n) whole)
          → AreFamilies (k + suc n) whole
      by_next None is f go_on = absurd (cc)
      by_next (Some t) is f go_on =
          subst (λ (i : ℕ). AreFamilies i whole) (omega arith) (go_on t (family_added k s t so_far is) f)

pub families_so : (script whole : ScriptData) (families members family member : ℕ) → with_next_sets script (key_sets families members) ≡ Some whole
    → family < families → member < members
    → family_at whole.sets (length script.sets + (family * members + member)) ≡ length script.sets + family * members
families_so script whole families members family member e below within =
    let some : 0 < members = omega (arith, within) in
    let none : AreFamilies members (length script.sets) some 0 script =
    record { count = omega arith; named = λ j less. absurd (omega (arith, less)); families = λ j less. absurd (omega (arith, less)) } in
    let all = all_families members (length script.sets) some 0 (members * families) script whole none e in
    let place = family * members + member in
    let inside = mul-add-lt family members member families below within in
    let rest : place % members ≡ member = mod-mul-add family members member within in
    all.families place (omega (arith, inside)) ∙ omega (arith, rest)
