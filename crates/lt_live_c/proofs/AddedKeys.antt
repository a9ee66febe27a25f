-- Sets of keys are added to a script one after another.
use Rattle.std.proofs.Common.{◌≡◌, ◌<◌, ◌≤◌, ◌+◌, ◌-◌, ◌*◌, ◌∷◌, inl, inr, ℕ, zero, suc, List, Bool, true, false, Option, Some, None, refl, sym, ap, subst, ◌∙◌, arith, length, option_and_then}
use Rattle.lt_modes.specs.Script.{ScriptData}
use Rattle.lt_spec.specs.declared.limits.TheConstants.{MAX_SETS_OF_SERVICE}
use Rattle.lt_live_c.specs.declared.code.TheConstants.{TOO_MANY, BAD_SET, NO_MEMORY}
use Rattle.lt_live_c.specs.Opening.{SetsRefused}
use Rattle.lt_live_c.specs.NewSets.{SetWords, with_next_set, with_next_sets, AddsSet, AddsSets}
use Rattle.lt_live_c.specs.KeySets.{key_words, key_sets_from, key_sets}
use Rattle.lt_live_c.proofs.AddedSets.{one_more}

pub count_from : (members number more : ℕ) → length (key_sets_from members number more) ≡ more
count_from members number zero = refl
count_from members number (suc more) = ap suc (count_from members (number + 1) more)

pub count_all : (families members : ℕ) → length (key_sets families members) ≡ members * families
count_all families members = count_from members 0 (members * families)

-- the first k of n were added, and those behind them are still to be added
pub record AddingKeys (members k n : ℕ) (old now : ScriptData) : Type 0 where
  pub left : with_next_sets now (key_sets_from members k (n - k)) ≡ with_next_sets old (key_sets_from members 0 n)
  pub count : length now.sets ≡ length old.sets + k

pub none_yet : (members n : ℕ) (s : ScriptData) → AddingKeys members 0 n s s
none_yet members n s = record {
  left = ap (λ (k : ℕ). with_next_sets s (key_sets_from members 0 k)) (omega arith);
  count = omega arith;
}

-- the next one is the first of those that are still to be added
next_first : (members k n : ℕ) → k < n → key_sets_from members k (n - k) ≡ key_words members k ∷ key_sets_from members (k + 1) (n - (k + 1))
next_first members k n below =
    let more : n - k ≡ suc (n - (k + 1)) = omega (arith, below) in ap (key_sets_from members k) more

next_left : (members k n : ℕ) (old now : ScriptData) → k < n → AddingKeys members k n old now
    → option_and_then (λ (more : ScriptData). with_next_sets more (key_sets_from members (k + 1) (n - (k + 1)))) (with_next_set now (key_words members k))
    ≡ with_next_sets old (key_sets_from members 0 n)
next_left members k n old now below so_far =
    sym (ap (with_next_sets now) (next_first members k n below)) ∙ so_far.left

pub key_added : (members k n : ℕ) (added : Bool) (old now next : ScriptData) → AddingKeys members k n old now
    → AddsSet added (key_words members k) now next → added ≡ true → k < n → AddingKeys members (k + 1) n old next
key_added members k n false old now next so_far adds is below = absurd (cc)
key_added members k n true old now next so_far adds is below = record {
  left = sym (ap (option_and_then (λ (more : ScriptData). with_next_sets more (key_sets_from members (k + 1) (n - (k + 1))))) adds)
      ∙ next_left members k n old now below so_far;
  count = omega (arith, one_more now next (key_words members k) adds, so_far.count);
}

pub key_refused : (members k n : ℕ) (added : Bool) (old now next : ScriptData) → AddingKeys members k n old now
    → AddsSet added (key_words members k) now next → added ≡ false → k < n → AddsSets false (key_sets_from members 0 n) old next
key_refused members k n true old now next so_far adds is below = absurd (cc)
key_refused members k n false old now next so_far adds is below =
    sym (next_left members k n old now below so_far)
    ∙ ap (option_and_then (λ (more : ScriptData). with_next_sets more (key_sets_from members (k + 1) (n - (k + 1))))) adds

-- all were added
pub all_added : (members k n : ℕ) (old now : ScriptData) → AddingKeys members k n old now → k ≡ n → AddsSets true (key_sets_from members 0 n) old now
all_added members k n old now so_far is =
    let none : n - k ≡ 0 = omega (arith, is) in
    sym so_far.left ∙ ap (λ (left : ℕ). with_next_sets now (key_sets_from members k left)) none

-- all together are more sets than a service may have
pub too_many_keys : (families members : ℕ) (script : ScriptData) → MAX_SETS_OF_SERVICE < length script.sets + members * families
    → SetsRefused TOO_MANY (key_sets families members) script
too_many_keys families members script many = record {
  too_many = λ e. omega (arith, many, count_all families members);
  many = λ again. refl;
  bad_set = λ e. absurd (omega (arith, e));
  only = inl refl;
}

-- where they are no more, and there is no memory for them, or one of them can't be added
pub no_memory_for_keys : (families members : ℕ) (script : ScriptData)
    → length script.sets + members * families ≤ MAX_SETS_OF_SERVICE
    → SetsRefused NO_MEMORY (key_sets families members) script
no_memory_for_keys families members script few = record {
  too_many = λ e. absurd (omega (arith, e));
  many = λ more. absurd (omega (arith, few, more, count_all families members));
  bad_set = λ e. absurd (omega (arith, e));
  only = inr (inr refl);
}

pub bad_key : (families members n : ℕ) (script same new : ScriptData) (added : Bool) → added ≡ false → same ≡ script
    → n ≡ members * families → length script.sets + members * families ≤ MAX_SETS_OF_SERVICE
    → AddsSets added (key_sets_from members 0 n) same new → SetsRefused BAD_SET (key_sets families members) script
bad_key families members n script same new added none kept is few adds = record {
  too_many = λ e. absurd (omega (arith, e));
  many = λ more. absurd (omega (arith, few, more, count_all families members));
  bad_set = λ e. ap (λ (k : ℕ). with_next_sets script (key_sets_from members 0 k)) (sym is) ∙ not;
  only = inr (inl refl);
}
  where
    of_script : AddsSets added (key_sets_from members 0 n) script new
    of_script = subst (λ (s : ScriptData). AddsSets added (key_sets_from members 0 n) s new) kept adds

    not : with_next_sets script (key_sets_from members 0 n) ≡ None
    not = subst (λ (b : Bool). AddsSets b (key_sets_from members 0 n) script new) none of_script
