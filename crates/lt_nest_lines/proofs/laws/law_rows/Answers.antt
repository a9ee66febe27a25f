use Rattle.std.proofs.Common.{refl}
use Rattle.std.specs.Fmt.{digits}
use Rattle.lt_modes.specs.Modes.{conflicts}
use Rattle.lt_text.specs.Text.{cut_at, lines, words}
use Rattle.lt_nest.specs.Forest.{is_ancestor}
use Rattle.lt_nest.specs.Locks.{pass, first_free, serve_set}
use Rattle.lt_nest_lines.specs.Input.{input_after_line, read_lines_from}
use Rattle.lt_nest_lines.specs.Written.{after_orders, orders_text}
use Rattle.lt_nest_lines.proofs.laws.law_rows.Goals as goal

pub returns : goal.returns
unfolding conflicts cut_at lines words is_ancestor pass first_free serve_set input_after_line read_lines_from after_orders orders_text digits
returns c = record {
  child_beside_parent = refl;
  siblings_wait = refl;
  empty_input = refl;
  holder_waits_behind_outsider = refl;
  parent_holds = refl;
  unknown_set = refl;
  repeated = refl;
  begin_is_no_name = refl;
}
