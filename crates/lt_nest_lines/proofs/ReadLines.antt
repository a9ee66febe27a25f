-- Reading line by line.
use Rattle.std.proofs.Common.{◌≡◌, ◌∙◌, ℕ, ◌+◌, List, [], ◌∷◌, ◌++◌, Option, Some, None, Ok, Err, refl, sym, ap, append_assoc}
use Rattle.lt_nest_lines.specs.Input.{BeginsWell, InputData, IsAdded, input_after_line, no_input, read_further, read_lines_from}

pub read_refused : (ls rest : List (List ℕ)) (line : List ℕ) (k : ℕ) (d : InputData) → ls ≡ line ∷ rest → input_after_line d line ≡ None → read_lines_from ls k d ≡ Err k
unfolding read_lines_from
read_refused ls rest line k d e step = rw (e, step)

pub read_more : (ls rest : List (List ℕ)) (line : List ℕ) (k : ℕ) (d next : InputData) → ls ≡ line ∷ rest → input_after_line d line ≡ Some next
    → read_lines_from ls k d ≡ read_lines_from rest (k + 1) next
unfolding read_lines_from
read_more ls rest line k d next e step = rw (e, step)

pub read_end : (ls : List (List ℕ)) (k : ℕ) (d : InputData) → ls ≡ [] → read_lines_from ls k d ≡ Ok d
unfolding read_lines_from
read_end ls k d e = rw e

-- a good line more
read_next : (first : List (List ℕ)) (line : List ℕ) (k : ℕ) (d now next : InputData) → read_lines_from first k d ≡ Ok now → input_after_line now line ≡ Some next
    → read_lines_from (first ++ line ∷ []) k d ≡ Ok next
unfolding read_lines_from
read_next [] line k d now next read step =
    let same : d ≡ now = cc in
    rw (same, step) refl
read_next (x ∷ first) line k d now next read step = by_step (input_after_line d x) (λ next_d. read_next first line (k + 1) next_d now next) read
  where
    by_step : (after : Option InputData)
        → ((d : InputData) → read_lines_from first (k + 1) d ≡ Ok now → input_after_line now line ≡ Some next → read_lines_from (first ++ line ∷ []) (k + 1) d ≡ Ok next)
        → read_further k (read_lines_from first (k + 1)) after ≡ Ok now → read_further k (read_lines_from (first ++ line ∷ []) (k + 1)) after ≡ Ok next
    by_step None again read = absurd (cc)
    by_step (Some d) again read = again d read step

-- of all lines those before the ones that are left are good, and make this input
pub record HasRead (all left : List (List ℕ)) (now : InputData) : Type 0 where
  pub first : List (List ℕ)
  pub parts : all ≡ first ++ left
  pub good : read_lines_from first 1 no_input ≡ Ok now

pub none_read : (all : List (List ℕ)) → HasRead all all no_input
unfolding read_lines_from
none_read all = record { first = []; parts = refl; good = refl }

pub one_read : (all left rest : List (List ℕ)) (line : List ℕ) (now next : InputData) → HasRead all left now → left ≡ line ∷ rest → input_after_line now line ≡ Some next
    → HasRead all rest next
one_read all left rest line now next read e step = record {
  first = read.first ++ line ∷ [];
  parts = read.parts ∙ ap (λ (ls : List (List ℕ)). read.first ++ ls) e ∙ sym (append_assoc read.first (line ∷ []) rest);
  good = read_next read.first line 1 no_input now next read.good step;
}

-- a line that is good and isn't skipped
pub added_well : (all left rest : List (List ℕ)) (line : List ℕ) (now : InputData) → HasRead all left now → left ≡ line ∷ rest → IsAdded (input_after_line now line)
    → BeginsWell all
added_well all left rest line now read e added = by_step (input_after_line now line) refl added
  where
    by_step : (step : Option InputData) → input_after_line now line ≡ step → IsAdded step → BeginsWell all
    by_step None is added = absurd added
    by_step (Some next) is added =
        let so_far = one_read all left rest line now next read e is in
        record { first = so_far.first; later = rest; read = next; parts = so_far.parts; good = so_far.good; some = added }
