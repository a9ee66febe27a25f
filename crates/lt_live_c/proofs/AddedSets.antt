-- Sets are added to a script one after another.
use Rattle.std.proofs.Common.{◌≡◌, ◌<◌, ◌+◌, [], ℕ, List, Bool, true, false, Option, Some, None, if◌then◌else◌, sym, ap, ◌∙◌, arith, length, map, drop, slice_index_or, option_map, option_and_then}
use Rattle.std.proofs.lemmas.List.{drop_more, length_push}
use Rattle.std.proofs.lemmas.Option.{same_Some}
use Rattle.lt_modes.specs.Script.{ScriptData}
use Rattle.lt_live_c.specs.declared.new_sets.NewSet.{NewSet}
use Rattle.lt_live_c.specs.NewSets.{SetWords, words_of_set, family_of_next, in_family, is_new_name, with_next_set, with_next_sets, AddsSet}

-- the script with the set has one more
pub one_more : (s t : ScriptData) (set : SetWords) → with_next_set s set ≡ Some t → length t.sets ≡ length s.sets + 1
one_more s t set = by_parts (is_new_name s set.name) (family_of_next s set.parent)
  where
    by_parts : (b : Bool) (family : Option ℕ) → (if b then option_map (in_family s set.name) family else None) ≡ Some t
        → length t.sets ≡ length s.sets + 1
    by_parts false family e = absurd (cc)
    by_parts true None e = absurd (cc)
    by_parts true (Some family) e =
        ap (λ (x : ScriptData). length x.sets) (sym (same_Some (in_family s set.name family) t e))
        ∙ length_push s.sets (record { name = set.name; family = family })

-- the first k were added, and those behind them are still to be added
pub record Adding (k : ℕ) (sets : List NewSet) (old now : ScriptData) : Type 0 where
  pub left : with_next_sets now (map words_of_set (drop k sets)) ≡ with_next_sets old (map words_of_set sets)
  pub count : length now.sets ≡ length old.sets + k

-- what is read of a place that a list doesn't have
abbrev pub no_set : NewSet
no_set = record { name = record { ref_ptr = (0, 0); now = [] }; parent = record { ref_ptr = (0, 0); now = [] } }

-- what comes of the next one, and then of those behind it
next_left : (k : ℕ) (sets : List NewSet) (d : NewSet) (old now : ScriptData) → k < length sets → Adding k sets old now
    → option_and_then (λ (more : ScriptData). with_next_sets more (map words_of_set (drop (k + 1) sets))) (with_next_set now (words_of_set (slice_index_or sets k d)))
    ≡ with_next_sets old (map words_of_set sets)
next_left k sets d old now below so_far =
    sym (ap (λ (xs : List NewSet). with_next_sets now (map words_of_set xs)) (drop_more sets k d below)) ∙ so_far.left

pub adding_on : (k : ℕ) (sets : List NewSet) (d : NewSet) (added : Bool) (old now next : ScriptData) → Adding k sets old now
    → AddsSet added (words_of_set (slice_index_or sets k d)) now next → added ≡ true → k < length sets → Adding (k + 1) sets old next
adding_on k sets d false old now next so_far adds is below = absurd (cc)
adding_on k sets d true old now next so_far adds is below = record {
  left = sym (ap (option_and_then (λ (more : ScriptData). with_next_sets more (map words_of_set (drop (k + 1) sets)))) adds)
      ∙ next_left k sets d old now below so_far;
  count = omega (arith, one_more now next (words_of_set (slice_index_or sets k d)) adds, so_far.count);
}
