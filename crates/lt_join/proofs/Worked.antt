-- Small texts, joined by computing.
use Rattle.std.proofs.Common.{refl}
use Rattle.lt_text.specs.Text as text
use Rattle.lt_script.specs.Reading as reading
use Rattle.lt_join.specs.JoinRows.{JoinRows}

pub join_rows : JoinRows
unfolding reading.script_body reading.read_from text.lines text.cut_at reading.line_step text.words text.before_space text.later_fields
join_rows = record {
  first = refl;
  one_missing = refl;
  one_twice = refl;
  one_more = refl;
  no_cut = refl;
  behind_cut = refl;
  no_move = refl;
  of_other = refl;
  not_rising = refl;
}
