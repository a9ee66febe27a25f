-- What a reader's place says of the lines that it has read.
use Rattle.std.proofs.Common.{◌≡◌, ℕ, zero, suc, ◌<◌, ◌==◌, ◌&&◌, not, cond, Bool, true, false, nat_lt, List, [], ◌∷◌, ◌++◌, length, Some, None, refl, sym, ap, ap₂, subst, ◌∙◌, inl, inr, arith, bytes_eq, append_assoc, append-nil, eqb-true, ltb-true}
use Rattle.std.proofs.lemmas.Bool.{cases_Bool, cases_lt, and_parts, or_left, or_right}
use Rattle.std.proofs.lemmas.List.{map-append}
use Rattle.std.proofs.lemmas.List.Concat.{flat_map-append}
use Rattle.std.proofs.lemmas.Slice.Eq.{bytes_eq-Decides}
use Rattle.lt_modes.specs.declared.moves.Step.{Step}
use Rattle.lt_modes.specs.declared.moves.Step.TheVariants.{Act, Take}
use Rattle.lt_modes.specs.Script.{ScriptData}
use Rattle.lt_modes.specs.State.{Letter}
use Rattle.lt_spec.specs.World.{Logged, World, start, world_after, is_runnable, has_mail, is_some_letter, is_enabled, is_at_rest, front_stamp, move_stamp, logged, IsMove}
use Rattle.lt_lists.specs.Below.{any_below}
use Rattle.lt_spec.specs.NodeMove.{home}
use Rattle.lt_model.proofs.Runs.{IsRunFrom-push}
use Rattle.lt_journal.specs.declared.line.Line.{Line}
use Rattle.lt_journal.specs.declared.line.Line.TheVariants.{Version2, Version3, Move as MoveLine, Event as EventLine, Held, Waiting, Owner, End, Cut, Bad}
use Rattle.lt_journal.specs.Grammar.{read_line}
use Rattle.lt_journal.specs.RunLines.{IsAsWritten, first_lines, event_lines, entry_lines, moves_lines}
use Rattle.lt_journal.proofs.Found.{as_written}
use Rattle.lt_law_journals.specs.Checking.{Place, written, closing_at_rest, first_place, moved, is_next, by_move, by_due, place_after, lines_so_far, BeginsWith}

any_below_at : (n k : ℕ) (test : ℕ → Bool) → k < n → test k ≡ true → any_below n test ≡ true
any_below_at zero k test inside e = absurd (omega (arith, inside))
any_below_at (suc n) k test inside e = elim (cases_lt k n) [
  | inl below ↦ or_left (any_below n test) (test n) (any_below_at n k test below e)
  | inr other ↦
      let same : k ≡ n = omega arith in
      or_right (any_below n test) (test n) (subst (λ (i : ℕ). test i ≡ true) same e)
]

no_rest : (a b : Bool) → a ≡ true → not a && b ≡ false
no_rest true b e = refl
no_rest false b e = absurd (cc)

no_rest_either : (a b : Bool) → b ≡ true → a && not b ≡ false
no_rest_either true true e = refl
no_rest_either false true e = refl
no_rest_either a false e = absurd (cc)

-- where a move is enabled the world isn't at rest
pub not_at_rest : (script : ScriptData) (w : World) (q : ℕ) (step : Step) → is_enabled script w q step ≡ true → is_at_rest script w ≡ false
not_at_rest script w q (Act client) e =
    let parts = and_parts (nat_lt client (length script.clients)) (home script client == q && is_runnable script w client) e in
    let more = and_parts (home script client == q) (is_runnable script w client) parts.1 in
    no_rest (any_below (length script.clients) (is_runnable script w)) _
    (any_below_at (length script.clients) client (is_runnable script w) (ltb-true client (length script.clients) parts.0) more.1)
not_at_rest script w q (Take p) e =
    let parts = and_parts (nat_lt p script.nodes) (nat_lt q script.nodes && (not (p == q) && is_some_letter (w.mail p q))) e in
    let more = and_parts (nat_lt q script.nodes) (not (p == q) && is_some_letter (w.mail p q)) parts.1 in
    no_rest_either _ (any_below script.nodes (λ p. any_below script.nodes (has_mail script w p)))
    (any_below_at script.nodes p (λ p. any_below script.nodes (has_mail script w p)) (ltb-true p script.nodes parts.0)
    (any_below_at script.nodes q (has_mail script w p) (ltb-true q script.nodes more.0) e))

-- a move's stamp is of its node
pub stamp_node : (w : World) (q : ℕ) (step : Step) → (move_stamp w q step).node ≡ q
stamp_node w q (Act client) = refl
stamp_node w q (Take p) = by_letters (w.mail p q)
  where
    by_letters : (letters : List Letter) → (front_stamp q (w.node q) letters).node ≡ q
    by_letters [] = refl
    by_letters (letter ∷ rest) = refl

-- an enabled move is one, as it is logged
pub is_logged : (script : ScriptData) (w : World) (q : ℕ) (step : Step) → is_enabled script w q step ≡ true → IsMove script w (logged script w q step)
is_logged script w q step e = record {
  enabled = ap (λ (n : ℕ). is_enabled script w n step) (stamp_node w q step) ∙ e;
  made = ap (λ (n : ℕ). logged script w n step) (sym (stamp_node w q step));
}

pub first_begins : (script : ScriptData) → BeginsWith script [] (first_place script)
first_begins script = record { is_run = tt; told = []; parts = refl; lines = refl }

-- the line of a next move
pub record IsNextMove (script : ScriptData) (run : List Logged) (line : List ℕ) (place : Place) : Type 0 where
  pub node : ℕ
  pub step : Step
  pub enabled : is_enabled script (world_after script run) node step ≡ true
  pub place_is : place ≡ moved script run (logged script (world_after script run) node step)
  pub line_is : line ≡ written script (MoveLine (move_stamp (world_after script run) node step).clock node step)

pub not_bad : (script : ScriptData) (line : List ℕ) → (read_line script line ≡ Bad → ⊥) → line ≡ written script (read_line script line)
not_bad script line some = by_case (as_written script line)
  where
    by_case : IsAsWritten script line (read_line script line) → line ≡ written script (read_line script line)
    by_case (inl bad) = absurd (some bad)
    by_case (inr same) = sym same

pub next_move : (script : ScriptData) (run : List Logged) (line : List ℕ) (place : Place) (x : Line) → ((x ≡ Bad → ⊥) → line ≡ written script x) → by_move script run x ≡ Some place
    → IsNextMove script run line place
next_move script run line place (MoveLine clock node step) same e = elim (cases_Bool (is_next script run clock node step)) [
  | inl next ↦
      let w = world_after script run in
      let parts = and_parts (is_enabled script w node step) (clock == (move_stamp w node step).clock) next in
      let e' : Some (moved script run (logged script w node step)) ≡ Some place = sym (ap (λ (b : Bool). cond b (Some (moved script run (logged script w node step))) None) next) ∙ e in
      record {
        node = node;
        step = step;
        enabled = parts.0;
        place_is = cc;
        line_is = same (λ bad. absurd (cc)) ∙ ap (λ (c : ℕ). written script (MoveLine c node step)) (eqb-true clock (move_stamp w node step).clock parts.1);
      }
  | inr none ↦ absurd (let e' : None ≡ Some place = sym (ap (λ (b : Bool). cond b (Some (moved script run (logged script (world_after script run) node step))) None) none) ∙ e in cc)
]
next_move script run line place Version2 same e = absurd (cc)
next_move script run line place Version3 same e = absurd (cc)
next_move script run line place (EventLine event) same e = absurd (cc)
next_move script run line place (Held client set mode count) same e = absurd (cc)
next_move script run line place (Waiting client set mode) same e = absurd (cc)
next_move script run line place (Owner set node epoch) same e = absurd (cc)
next_move script run line place (End count) same e = absurd (cc)
next_move script run line place (Cut node) same e = absurd (cc)
next_move script run line place Bad same e = absurd (cc)

closing_none : (script : ScriptData) (run : List Logged) → is_at_rest script (world_after script run) ≡ false → closing_at_rest script run ≡ []
closing_none script run e = rw e

push_lines : (v : ℕ) (run : List Logged) (entry : Logged) → moves_lines v (run ++ entry ∷ []) ≡ moves_lines v run ++ entry_lines v entry
push_lines v run entry = flat_map-append (entry_lines v) run (entry ∷ []) ∙ ap (λ (t : List Line). moves_lines v run ++ t) (append-nil (entry_lines v entry))

-- a line more was read and isn't bad
pub begins_moved : (script : ScriptData) (read : List (List ℕ)) (run : List Logged) (line : List ℕ) (place : Place) → BeginsWith script read (record { run = run; due = [] }) → IsNextMove script run line place
    → BeginsWith script (read ++ line ∷ []) place
begins_moved script read run line place b m =
    let w = world_after script run in
    let entry = logged script w m.node m.step in
    let x = MoveLine (move_stamp w m.node m.step).clock m.node m.step in
    let v = script.version in
    let first = first_lines v in
    let before = moves_lines v run in
    let events = event_lines v entry.events in
    let head : entry_lines v entry ≡ x ∷ events = ap (λ (n : ℕ). MoveLine (move_stamp w m.node m.step).clock n m.step ∷ events) (stamp_node w m.node m.step) in
    let none = closing_none script run (not_at_rest script w m.node m.step m.enabled) in
    let told_is : b.told ≡ first ++ before = sym (append-nil b.told) ∙ (b.parts ∙ ap (λ (t : List Line). first ++ t) (ap (λ (t : List Line). before ++ t) none ∙ append-nil before)) in
    let closing = closing_at_rest script (run ++ entry ∷ []) in
    let moves : (b.told ++ x ∷ []) ++ (events ++ closing) ≡ lines_so_far script (run ++ entry ∷ []) =
    append_assoc b.told (x ∷ []) (events ++ closing)
    ∙ (sym (append_assoc b.told (x ∷ events) closing)
    ∙ (ap (λ (t : List Line). t ++ closing) (ap₂ (λ (s t : List Line). s ++ t) told_is (sym head) ∙ (append_assoc first before (entry_lines v entry) ∙ ap (λ (t : List Line). first ++ t) (sym (push_lines v run entry))))
    ∙ append_assoc first (moves_lines v (run ++ entry ∷ [])) closing)) in
    let at : BeginsWith script (read ++ line ∷ []) (moved script run entry) = record {
      is_run = IsRunFrom-push script (start script) run entry b.is_run (is_logged script w m.node m.step m.enabled);
      told = b.told ++ x ∷ [];
      parts = moves;
      lines = ap₂ (λ (s : List (List ℕ)) (t : List ℕ). s ++ t ∷ []) b.lines m.line_is ∙ sym (map-append (written script) b.told (x ∷ []));
    } in
    subst (λ (p : Place). BeginsWith script (read ++ line ∷ []) p) (sym m.place_is) at

begins_due : (script : ScriptData) (read : List (List ℕ)) (run : List Logged) (due : List Line) (line : List ℕ) (place : Place) → BeginsWith script read (record { run = run; due = due })
    → by_due script run due line ≡ Some place → BeginsWith script (read ++ line ∷ []) place
begins_due script read run [] line place b e = begins_moved script read run line place b (next_move script run line place (read_line script line) (not_bad script line) e)
begins_due script read run (x ∷ due) line place b e = elim (cases_Bool (bytes_eq line (written script x))) [
  | inl same ↦
      let e' : Some (record { run = run; due = due }) ≡ Some place = sym (ap (λ (b : Bool). cond b (Some (record { run = run; due = due })) None) same) ∙ e in
      let is : record { run = run; due = due } ≡ place = cc in
      let at : BeginsWith script (read ++ line ∷ []) (record { run = run; due = due }) = record {
        is_run = b.is_run;
        told = b.told ++ x ∷ [];
        parts = append_assoc b.told (x ∷ []) due ∙ b.parts;
        lines = ap₂ (λ (s : List (List ℕ)) (t : List ℕ). s ++ t ∷ []) b.lines ((bytes_eq-Decides line (written script x)).0 same) ∙ sym (map-append (written script) b.told (x ∷ []));
      } in
      subst (λ (p : Place). BeginsWith script (read ++ line ∷ []) p) is at
  | inr other ↦ absurd (let e' : None ≡ Some place = sym (ap (λ (b : Bool). cond b (Some (record { run = run; due = due })) None) other) ∙ e in cc)
]

pub begins_after : (script : ScriptData) (read : List (List ℕ)) (place : Place) (line : List ℕ) (next : Place) → BeginsWith script read place → place_after script place line ≡ Some next
    → BeginsWith script (read ++ line ∷ []) next
begins_after script read place line next b e = begins_due script read place.run place.due line next b e
