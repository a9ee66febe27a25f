-- No bad line is further on than there are bytes.
use Rattle.std.proofs.Common.{◌≡◌, ℕ, suc, ◌+◌, ◌*◌, ◌≤◌, Bool, true, false, List, [], ◌∷◌, ◌++◌, Option, Some, None, Result, Ok, Err, length, drop, position, fold, if◌then◌else◌, refl, arith, ap, length-append, length-drop, ◌∙◌, take, append-nil, subst, ◌-◌, ◌<◌, ◌==◌, ◌&&◌, cond, slice_get, sym, option_map, eq-eqb, ne_eqb}
use Rattle.std.proofs.lemmas.List.{length-map, take-append-le, drop-append-le, length_push}
use Rattle.std.proofs.lemmas.List.Quantifiers.{position-Some}
use Rattle.std.proofs.lemmas.Bool.{and_from}
use Rattle.std.proofs.lemmas.List.Sums.{count_by-le-length}
use Rattle.lt_modes.specs.Script.{ScriptData}
use Rattle.lt_modes.specs.declared.moves.Move.{Move}
use Rattle.lt_modes.specs.declared.moves.Step.{Step}
use Rattle.lt_spec.specs.World.{Logged, world_after, is_enabled, is_of_node, move_stamp, logged, moves_of, is_at_rest}
use Rattle.lt_io.specs.Streams.{SourceState}
use Rattle.lt_text.specs.Text.{cut_at, lines, put_front, is_line_end, without_return}
use Rattle.lt_merge.specs.Merging.{made_at, events_at, RunData}
use Rattle.lt_journal.specs.Split.{is_journal_line, parts_at, input_parts}
use Rattle.lt_journal.specs.declared.splitting.Parts.{Parts}
use Rattle.lt_journal.specs.declared.line.Line.{Line}
use Rattle.lt_journal.specs.declared.line.Line.TheVariants.{Move as MoveLine}
use Rattle.lt_law_ends.proofs.Short.{runs_are_short}
use Rattle.lt_law_journals.specs.Checking.{Place, Reader, checked, first_reader, reader_after, place_after, is_complete, led_to, read_at, read_on, verdict_at, HasCome, moved, by_move, verdict}
use Rattle.lt_law_journals.proofs.Feeds.{come_due, come_moved}
use Rattle.lt_world.specs.Fields.{WorldData, world_of}
use Rattle.lt_checker.specs.Checker.{IsWorldAnswer, IsPlace, place_now, IsAnswer, EndsIn}
use Rattle.lt_checker.specs.declared.error.ReplayError.{ReplayError}
use Rattle.lt_checker.specs.declared.error.ReplayError.TheVariants.{Memory, Bad}
use Rattle.lt_checker.specs.declared.limits.TheConstants.{MAX_JOURNAL}
use Rattle.lt_checker.specs.Heads.{IsRest, IsRoom, IsLineOf, IsHeadCut}

few_fronts : (byte : ℕ) (pieces : List (List ℕ)) → length (put_front byte pieces) ≤ suc (length pieces)
few_fronts byte [] = omega arith
few_fronts byte (piece ∷ pieces) = omega arith

few_pieces : (ends : ℕ → Bool) (bytes : List ℕ) → length (cut_at ends bytes) ≤ length bytes
unfolding cut_at
few_pieces ends [] = omega arith
few_pieces ends (byte ∷ bytes) = by_end (few_pieces ends bytes) (ends byte)
  where
    by_end : length (cut_at ends bytes) ≤ length bytes → (t : Bool)
        → length (if t then [] ∷ cut_at ends bytes else put_front byte (cut_at ends bytes)) ≤ suc (length bytes)
    by_end few true = omega (arith, few)
    by_end few false = omega (arith, few, few_fronts byte (cut_at ends bytes))

pub few_lines : (bytes : List ℕ) → length (lines bytes) ≤ length bytes
unfolding lines
few_lines bytes = omega (arith, length-map (cut_at is_line_end bytes) without_return, few_pieces is_line_end bytes)

-- a line more is at most one good line more
one_more : (script : ScriptData) (reader : Reader) (line : List ℕ) → (read_on script reader line).good ≤ suc reader.good
one_more script reader line = by_place reader.place
  where
    by_next : (next : Option Place) → (led_to reader next).good ≤ suc reader.good
    by_next None = omega arith
    by_next (Some place) = omega arith

    by_place : (place : Option Place) → (read_at script reader line place).good ≤ suc reader.good
    by_place None = omega arith
    by_place (Some place) = by_next (place_after script place line)

few_good : (script : ScriptData) (ls : List (List ℕ)) (reader : Reader) → (fold (read_on script) reader ls).good ≤ reader.good + length ls
few_good script [] reader = omega arith
few_good script (line ∷ ls) reader = omega (arith, one_more script reader line, few_good script ls (read_on script reader line))

next_bad : (script : ScriptData) (good line : ℕ) (place : Option Place) → verdict_at script good place ≡ Err line → line ≡ suc good
next_bad script good line None e = cc
next_bad script good line (Some place) e = by_end (is_complete script place.run place.due) e
  where
    by_end : (t : Bool) → (if t then Ok place.run else Err (suc good)) ≡ Err line → line ≡ suc good
    by_end true e = absurd (cc)
    by_end false e = cc

-- what is told of so many bytes
pub line_within : (script : ScriptData) (bytes : List ℕ) (told : Result WorldData ReplayError) (size : ℕ) → IsWorldAnswer script (checked script (lines bytes)) told
    → length bytes ≤ size → IsLineOf size told
line_within script bytes (Ok world) size answers few = tt
line_within script bytes (Err Memory) size answers few = tt
line_within script bytes (Err (Bad line)) size answers few =
    let last = reader_after script (lines bytes) in
    omega (arith, few, next_bad script last.good line last.place answers, few_good script (lines bytes) (first_reader script), few_lines bytes)

-- the bytes of a journal, those that come after the first ones too
pub journal_few : (bytes rest : List ℕ) (at : ℕ) (room : Option ℕ) (y z : SourceState) → length bytes ≤ MAX_JOURNAL → IsRoom room → IsRest room rest y z
    → length (drop at bytes ++ rest) ≤ 2 * MAX_JOURNAL
journal_few bytes rest at None y z few fits (none, kept) =
    omega (arith, few, length-append (drop at bytes) rest, length-drop at bytes, ap length none)
journal_few bytes rest at (Some room) y z few fits tail =
    omega (arith, few, length-append (drop at bytes) rest, length-drop at bytes, fits, tail.0)

-- the lines before the journal
pub lines_few : (bytes : List ℕ) → length bytes ≤ MAX_JOURNAL → (input_parts bytes).lines ≤ MAX_JOURNAL
lines_few bytes few = omega (arith, few, few_lines bytes, at (position is_journal_line (lines bytes)) refl)
  where
    at : (o : Option ℕ) → position is_journal_line (lines bytes) ≡ o → (parts_at bytes o).lines ≤ length (lines bytes)
    at None e = omega arith
    at (Some k) e = omega (arith, (position-Some is_journal_line (lines bytes) k [] e).0)

-- An input that was read in two parts is cut as its first part is.

-- the parts of the whole input, by its first bytes
pub record SameParts (bytes rest : List ℕ) : Type 0 where
  pub parts : input_parts (bytes ++ rest) ≡ input_parts bytes
  pub script : take (input_parts (bytes ++ rest)).script (bytes ++ rest) ≡ take (input_parts bytes).script bytes
  pub journal : drop (input_parts (bytes ++ rest)).journal (bytes ++ rest) ≡ drop (input_parts bytes).journal bytes ++ rest

-- the parts end within the bytes
pub record AreWithin (bytes : List ℕ) : Type 0 where
  pub script : (input_parts bytes).script ≤ length bytes
  pub journal : (input_parts bytes).journal ≤ length bytes

pub within : (bytes : List ℕ) → AreWithin bytes
within bytes = record { script = script_at (position is_journal_line (lines bytes)); journal = journal_at (position is_journal_line (lines bytes)) }
  where
    script_at : (o : Option ℕ) → (parts_at bytes o).script ≤ length bytes
    script_at None = omega arith
    script_at (Some k) = omega arith

    journal_at : (o : Option ℕ) → (parts_at bytes o).journal ≤ length bytes
    journal_at None = omega arith
    journal_at (Some k) = omega arith

same : (bytes rest : List ℕ) → input_parts (bytes ++ rest) ≡ input_parts bytes → SameParts bytes rest
same bytes rest e =
    let inside = within bytes in
    record {
      parts = e;
      script = ap (λ (p : Parts). take p.script (bytes ++ rest)) e ∙ take-append-le (input_parts bytes).script bytes rest inside.script;
      journal = ap (λ (p : Parts). drop p.journal (bytes ++ rest)) e ∙ drop-append-le (input_parts bytes).journal bytes rest inside.journal;
    }

pub same_parts : (bytes rest : List ℕ) (room : Option ℕ) (y z : SourceState) → IsHeadCut bytes room → IsRest room rest y z → SameParts bytes rest
same_parts bytes rest None y z cut (none, kept) =
    same bytes rest (ap (λ (t : List ℕ). input_parts (bytes ++ t)) none ∙ ap input_parts (append-nil bytes))
same_parts bytes rest (Some room) y z cut tail = same bytes rest (cut rest)

-- What a line makes of a place where lines are due.

pub due_place : (script : ScriptData) (world : WorldData) (all due : List Line) (x : Line) → all ≡ x ∷ due → IsPlace script world all
    → IsPlace script world due
due_place script world all due x e place = record {
  is_script = place.is_script;
  is_short = place.is_short;
  script_is = place.script_is;
  limit = place.limit;
  come = come_due script world.run x due (subst (λ (d : List Line). HasCome script (record { run = world.run; due = d })) e place.come);
}

-- What the next move makes of a place.

-- a move that may be the next one was made
pub record IsStepped (script : ScriptData) (world : WorldData) (node : ℕ) (step : Step) (next : WorldData) : Type 0 where
  pub place : IsPlace script world []
  pub enabled : is_enabled script (world_after script world.run) node step ≡ true
  pub next_is : next ≡ record world { run = world.run ++ logged script (world_after script world.run) node step ∷ [] }

-- no node has made 2^30 moves
pub room_for_move : (script : ScriptData) (world : WorldData) (node : ℕ) → IsPlace script world [] → moves_of node world.run < world.limit
room_for_move script world node place =
    omega (arith, runs_are_short script world.run place.is_script place.is_short place.come.1.is_run, count_by-le-length (is_of_node node) world.run, place.limit)

pub stepped : (script : ScriptData) (world : WorldData) (node : ℕ) (step : Step) (next : WorldData) → IsPlace script world []
    → is_enabled world.script (world_of world) node step ≡ true
    → next ≡ record world { run = world.run ++ logged world.script (world_of world) node step ∷ [] }
    → IsStepped script world node step next
stepped script world node step next place enabled next_is = record {
  place = place;
  enabled = subst (λ (s : ScriptData). is_enabled s (world_after s world.run) node step ≡ true) place.script_is enabled;
  next_is = subst (λ (s : ScriptData). next ≡ record world { run = world.run ++ logged s (world_after s world.run) node step ∷ [] }) place.script_is next_is;
}

pub next_run : (script : ScriptData) (world : WorldData) (node : ℕ) (step : Step) (next : WorldData) → IsStepped script world node step next
    → next.run ≡ world.run ++ logged script (world_after script world.run) node step ∷ []
next_run script world node step next s = ap (λ (w : WorldData). w.run) s.next_is

last_get : (run : List Logged) (entry : Logged) → slice_get (run ++ entry ∷ []) (length run) ≡ Some entry
last_get [] entry = refl
last_get (first ∷ run) entry = last_get run entry

pub last_of : (run : List Logged) (entry : Logged) → events_at (run ++ entry ∷ []) (length (run ++ entry ∷ []) - 1) ≡ Some entry.events
last_of run entry =
    let place : length (run ++ entry ∷ []) - 1 ≡ length run = omega (arith, length_push run entry) in
    ap (events_at (run ++ entry ∷ [])) place ∙ ap (option_map (λ (e : Logged). e.events)) (last_get run entry)

-- what stands last in the run is the move
last_made : (run : List Logged) (entry : Logged) (k : ℕ) (made : Move) → suc k ≡ length (run ++ entry ∷ []) → made_at (run ++ entry ∷ []) k ≡ Some made → entry.made ≡ made
last_made run entry k made last is =
    let place : k ≡ length run = omega (arith, last, length_push run entry) in
    let found : Some entry.made ≡ Some made = sym (ap (option_map (λ (e : Logged). e.made)) (last_get run entry)) ∙ (ap (made_at (run ++ entry ∷ [])) (sym place) ∙ is) in
    cc

pub next_clock : (script : ScriptData) (world : WorldData) (node : ℕ) (step : Step) (next : WorldData) (k : ℕ) (made : Move) → IsStepped script world node step next
    → suc k ≡ length next.run → made_at next.run k ≡ Some made → (move_stamp (world_after script world.run) node step).clock ≡ made.stamp.clock
next_clock script world node step next k made s last is =
    let run_is = next_run script world node step next s in
    ap (λ (m : Move). m.stamp.clock)
    (last_made world.run (logged script (world_after script world.run) node step) k made (last ∙ ap (λ (r : List Logged). length r) run_is) (ap (λ (r : List Logged). made_at r k) (sym run_is) ∙ is))

no_next : (a b : Bool) → b ≡ false → a && b ≡ false
no_next true false e = refl
no_next false false e = refl
no_next a true e = absurd (cc)

pub wrong_clock : (script : ScriptData) (run : List Logged) (clock node : ℕ) (step : Step) → (clock ≡ (move_stamp (world_after script run) node step).clock → ⊥)
    → by_move script run (MoveLine clock node step) ≡ None
wrong_clock script run clock node step apart =
    let w = world_after script run in
    ap (λ (b : Bool). cond b (Some (moved script run (logged script w node step))) None)
    (no_next (is_enabled script w node step) (clock == (move_stamp w node step).clock) (ne_eqb clock (move_stamp w node step).clock apart))

pub right_move : (script : ScriptData) (world : WorldData) (node : ℕ) (step : Step) (next : WorldData) (clock : ℕ) → IsStepped script world node step next
    → clock ≡ (move_stamp (world_after script world.run) node step).clock
    → by_move script world.run (MoveLine clock node step) ≡ Some (moved script world.run (logged script (world_after script world.run) node step))
right_move script world node step next clock s same =
    let w = world_after script world.run in
    ap (λ (b : Bool). cond b (Some (moved script world.run (logged script w node step))) None)
    (and_from (is_enabled script w node step) (clock == (move_stamp w node step).clock) s.enabled (eq-eqb clock (move_stamp w node step).clock same))

-- and a reader can come to it
pub next_is_place : (script : ScriptData) (world : WorldData) (node : ℕ) (step : Step) (next : WorldData) (line : Line) (due : List Line)
    → IsStepped script world node step next → by_move script world.run line ≡ Some (record { run = next.run; due = due })
    → IsPlace script next due
next_is_place script world node step next line due s led =
    let run_is = next_run script world node step next s in
    let entry = logged script (world_after script world.run) node step in
    record {
      is_script = s.place.is_script;
      is_short = s.place.is_short;
      script_is = ap (λ (w : WorldData). w.script) s.next_is ∙ s.place.script_is;
      limit = ap (λ (w : WorldData). w.limit) s.next_is ∙ s.place.limit;
      come = come_moved script world.run line (record { run = next.run; due = due }) s.place.come led;
    }

-- the place of the last move of the next run
pub last_place : (script : ScriptData) (world : WorldData) (node : ℕ) (step : Step) (next : WorldData) (n : ℕ) → IsStepped script world node step next
    → n ≡ length next.run → suc (n - 1) ≡ length next.run
last_place script world node step next n s is =
    let entry = logged script (world_after script world.run) node step in
    omega (arith, is, ap (λ (r : List Logged). length r) (next_run script world node step next s), length_push world.run entry)

-- What an answer with the world in which a run ended says of the run.

-- the run of the world in which it ended is the answer
pub run_told : (script : ScriptData) (told : Result (List Logged) ℕ) (world : WorldData) (run : RunData) → EndsIn script told world
    → run.entries ≡ world.run → IsAnswer told (Ok run)
run_told script told world run ended same = ended.run_is ∙ ap (λ (entries : List Logged). Ok entries) (sym same)

-- an error is the same answer
pub error_told : (script : ScriptData) (told : Result (List Logged) ℕ) (error : ReplayError) → IsWorldAnswer script told (Err error)
    → IsAnswer told (Err error)
error_told script told Memory same = same
error_told script told (Bad line) same = same

-- at rest, where no line is due, the run ended in the world
pub ends_in : (script : ScriptData) (world : WorldData) (good : ℕ) → IsPlace script world []
    → is_at_rest world.script (world_of world) ≡ true
    → EndsIn script (verdict script (record { place = place_now false world.run []; good = good })) world
ends_in script world good place rests =
    let rest : is_at_rest script (world_after script world.run) ≡ true =
    subst (λ (s : ScriptData). is_at_rest s (world_after s world.run) ≡ true) place.script_is rests in
    record {
      script_is = place.script_is;
      run_is = rw rest refl;
      finished = record { is_run = place.come.1.is_run; at_rest = rest };
    }
