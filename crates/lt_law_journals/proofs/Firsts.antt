-- The first bad line, and what may follow the lines before it.
use Rattle.std.proofs.Common.{◌≡◌, ℕ, zero, suc, ◌+◌, ◌<◌, ◌≤◌, cond, Bool, true, List, [], ◌∷◌, ◌++◌, length, map, take, drop, fold, Option, Some, None, Result, Ok, Err, refl, sym, ap, ◌∙◌, inl, inr, arith, bytes_eq, append_assoc, append-nil, ◌↔◌, take-append-drop}
use Rattle.std.proofs.lemmas.Bool.{cases_Bool, cases_order}
use Rattle.std.proofs.lemmas.List.{map-append}
use Rattle.std.proofs.lemmas.List.Concat.{flat_map-append}
use Rattle.std.proofs.lemmas.List.Sums.{fold-append}
use Rattle.lt_modes.specs.Script.{ScriptData}
use Rattle.lt_spec.specs.World.{Logged, World, start, world_after, after_run, is_at_rest, logged, IsRunFrom}
use Rattle.lt_spec.specs.World as world
use Rattle.lt_spec.specs.Script.{IsScript, IsShort}
use Rattle.lt_journal.specs.declared.line.Line.{Line}
use Rattle.lt_journal.specs.Grammar.{read_line}
use Rattle.lt_journal.specs.RunLines.{first_lines, entry_lines, moves_lines, closing_lines, run_lines}
use Rattle.lt_law_journals.specs.Checking.{Place, Reader, written, closing_at_rest, first_place, by_due, place_after, first_reader, read_on, reader_after, led_to, verdict, verdict_at, checked, IsFinished, IsFirstBad, IsContinued, BeginsWith, IsBeginning, BeginsJournal}
use Rattle.lt_law_journals.proofs.Accepting.{journal_written, at_place, stays_bad, begins_all, accepted_at, all_lines, means, accepts, begun}
use Rattle.lt_law_journals.proofs.Places.{not_bad, next_move, not_at_rest, first_begins}
use Rattle.lt_law_journals.proofs.Short.{whole}
use Rattle.lt_law_ends.proofs.Reach.{runs_reach_rest}

-- where the first bad line is, of lines that are read from this place on
record Met (script : ScriptData) (place : Place) (n : ℕ) (ls : List (List ℕ)) (k : ℕ) : Type 0 where
  at : ℕ
  k_is : k ≡ suc (n + at)
  within : at ≤ length ls
  before : (j : ℕ) → j ≤ at → (q : Place) × ((fold (read_on script) (at_place place n) (take j ls)).place ≡ Some q)
  ends : at < length ls → (fold (read_on script) (at_place place n) (take (suc at) ls)).place ≡ None
  stays : at < length ls → (more : List (List ℕ)) → verdict script (fold (read_on script) (at_place place n) (take (suc at) ls ++ more)) ≡ Err k

end_missing : (script : ScriptData) (run : List Logged) (due : List Line) (n k : ℕ) → verdict_at script n (Some (record { run = run; due = due })) ≡ Err k → k ≡ suc n
end_missing script run [] n k e = elim (cases_Bool (is_at_rest script (world_after script run))) [
  | inl rest ↦ absurd (let e' : Ok run ≡ Err k = sym (ap (λ (b : Bool). cond b (Ok run) (Err (suc n))) rest) ∙ e in cc)
  | inr moves ↦
      let e' : Err (suc n) ≡ Err k = sym (ap (λ (b : Bool). cond b (Ok run) (Err (suc n))) moves) ∙ e in
      let same : suc n ≡ k = cc in
      sym same
]
end_missing script run (x ∷ due) n k e = let same : suc n ≡ k = cc in sym same

met : (script : ScriptData) (place : Place) (n : ℕ) (ls : List (List ℕ)) (k : ℕ) → verdict script (fold (read_on script) (at_place place n) ls) ≡ Err k → Met script place n ls k
met script place n [] k e = record {
  at = 0;
  k_is = omega (arith, end_missing script place.run place.due n k e);
  within = omega arith;
  before = before_end;
  ends = λ lt. absurd (omega (arith, lt));
  stays = λ lt more. absurd (omega (arith, lt));
}
  where
    before_end : (j : ℕ) → j ≤ 0 → (q : Place) × ((fold (read_on script) (at_place place n) (take j [])).place ≡ Some q)
    before_end zero le = (place, refl)
    before_end (suc j) le = absurd (omega (arith, le))
met script place n (line ∷ ls) k e = by_next (place_after script place line) refl (λ next rest. met script next (suc n) ls k rest) e
  where
    by_next : (next : Option Place) → place_after script place line ≡ next
        → ((next : Place) → verdict script (fold (read_on script) (at_place next (suc n)) ls) ≡ Err k → Met script next (suc n) ls k)
        → verdict script (fold (read_on script) (led_to (at_place place n) next) ls) ≡ Err k → Met script place n (line ∷ ls) k
    by_next None came again e =
        let bad : Err (suc n) ≡ Err k = sym (ap (verdict script) (stays_bad script n ls)) ∙ e in
        let same : suc n ≡ k = cc in
        record {
          at = 0;
          k_is = omega (arith, same);
          within = omega arith;
          before = before_none;
          ends = λ lt. ap (λ (next : Option Place). (led_to (at_place place n) next).place) came;
          stays = λ lt more. ap (λ (next : Option Place). verdict script (fold (read_on script) (led_to (at_place place n) next) more)) came
              ∙ (ap (verdict script) (stays_bad script n more) ∙ bad);
        }
      where
        before_none : (j : ℕ) → j ≤ 0 → (q : Place) × ((fold (read_on script) (at_place place n) (take j (line ∷ ls))).place ≡ Some q)
        before_none zero le = (place, refl)
        before_none (suc j) le = absurd (omega (arith, le))
    by_next (Some next) came again e =
        let rest = again next e in
        record {
          at = suc rest.at;
          k_is = omega (arith, rest.k_is);
          within = omega (arith, rest.within);
          before = before_some rest;
          ends = λ lt. ap (λ (o : Option Place). (fold (read_on script) (led_to (at_place place n) o) (take (suc rest.at) ls)).place) came ∙ rest.ends (omega (arith, lt));
          stays = λ lt more. ap (λ (o : Option Place). verdict script (fold (read_on script) (led_to (at_place place n) o) (take (suc rest.at) ls ++ more))) came
              ∙ rest.stays (omega (arith, lt)) more;
        }
      where
        before_some : (rest : Met script next (suc n) ls k) (j : ℕ) → j ≤ suc rest.at → (q : Place) × ((fold (read_on script) (at_place place n) (take j (line ∷ ls))).place ≡ Some q)
        before_some rest zero le = (place, refl)
        before_some rest (suc j) le =
            let b = rest.before j (omega (arith, le)) in
            (b.0, ap (λ (o : Option Place). (fold (read_on script) (led_to (at_place place n) o) (take j ls)).place) came ∙ b.1)

-- the moves of a reader stay
grows_due : (script : ScriptData) (run : List Logged) (due : List Line) (line : List ℕ) (next : Place) → by_due script run due line ≡ Some next → (later : List Logged) × (next.run ≡ run ++ later)
grows_due script run [] line next e =
    let m = next_move script run line next (read_line script line) (not_bad script line) e in
    (logged script (world_after script run) m.node m.step ∷ [], ap (λ (p : Place). p.run) m.place_is)
grows_due script run (x ∷ due) line next e = elim (cases_Bool (bytes_eq line (written script x))) [
  | inl same ↦
      let e' : Some (record { run = run; due = due }) ≡ Some next = sym (ap (λ (b : Bool). cond b (Some (record { run = run; due = due })) None) same) ∙ e in
      let is : record { run = run; due = due } ≡ next = cc in
      ([], ap (λ (p : Place). p.run) (sym is) ∙ sym (append-nil run))
  | inr other ↦ absurd (let e' : None ≡ Some next = sym (ap (λ (b : Bool). cond b (Some (record { run = run; due = due })) None) other) ∙ e in cc)
]

grows : (script : ScriptData) (place : Place) (n : ℕ) (ls : List (List ℕ)) (last : Place) → (fold (read_on script) (at_place place n) ls).place ≡ Some last
    → (later : List Logged) × (last.run ≡ place.run ++ later)
grows script place n [] last e =
    let is : place ≡ last = cc in
    ([], ap (λ (p : Place). p.run) (sym is) ∙ sym (append-nil place.run))
grows script place n (line ∷ ls) last e = by_next (place_after script place line) refl (λ next rest. grows script next (suc n) ls last rest) e
  where
    by_next : (next : Option Place) → place_after script place line ≡ next
        → ((next : Place) → (fold (read_on script) (at_place next (suc n)) ls).place ≡ Some last → (later : List Logged) × (last.run ≡ next.run ++ later))
        → (fold (read_on script) (led_to (at_place place n) next) ls).place ≡ Some last
        → (later : List Logged) × (last.run ≡ place.run ++ later)
    by_next None came again e = absurd (let bad = ap (λ (r : Reader). r.place) (stays_bad script n ls) in cc)
    by_next (Some next) came again e =
        let first = grows_due script place.run place.due line next came in
        let rest = again next e in
        (first.0 ++ rest.0, rest.1 ∙ (ap (λ (r : List Logged). r ++ rest.0) first.1 ∙ append_assoc place.run first.0 rest.0))

reader_is : (reader : Reader) (place : Place) → reader.place ≡ Some place → reader ≡ at_place place reader.good
reader_is reader place e = λ i. record { place = e i; good = reader.good }

run_from : (script : ScriptData) (w : World) (first later : List Logged) → IsRunFrom script w (first ++ later) → IsRunFrom script (after_run script w first) later
run_from script w [] later h = h
run_from script w (entry ∷ first) later h = run_from script (world.after script w entry.made.stamp.node entry.made.step) first later h.1

pub continued : (script : ScriptData) (read : List (List ℕ)) (place : Place) → IsScript script → IsShort script → (reader_after script read).place ≡ Some place → IsContinued script read place
continued script read place is_script is_short e = record { only = only; each = each }
  where
    b : BeginsWith script read place
    b = begins_all script [] (first_place script) 0 read place (first_begins script) e

    only : (more : List (List ℕ)) (run : List Logged) → checked script (read ++ more) ≡ Ok run → IsFinished script run × ((later : List Logged) × (run ≡ place.run ++ later))
    only more run accepted =
        let end = accepted_at script (reader_after script (read ++ more)) run accepted in
        let split : reader_after script (read ++ more) ≡ fold (read_on script) (at_place place (reader_after script read).good) more =
        fold-append (read_on script) (first_reader script) read more ∙ ap (λ (r : Reader). fold (read_on script) r more) (reader_is (reader_after script read) place e) in (
          (means script (read ++ more) run is_script is_short accepted).0,
          grows script place (reader_after script read).good more (record { run = run; due = [] }) (ap (λ (r : Reader). r.place) (sym split) ∙ end.place),
        )

    left : (later : List Logged) → IsFinished script (place.run ++ later) → (left : List Line) × (run_lines script (place.run ++ later) None ≡ b.told ++ left)
    left [] done =
        let same : place.run ++ [] ≡ place.run = append-nil place.run in
        let rest : is_at_rest script (world_after script place.run) ≡ true = ap (λ (r : List Logged). is_at_rest script (world_after script r)) (sym same) ∙ done.at_rest in
        (place.due, ap (λ (r : List Logged). run_lines script r None) same ∙ (sym (all_lines script place.run rest) ∙ sym b.parts))
    left (entry ∷ later) done =
        let from = run_from script (start script) place.run (entry ∷ later) done.is_run in
        let none : closing_at_rest script place.run ≡ [] =
        ap (λ (b : Bool). cond b (closing_lines script place.run None) []) (not_at_rest script (world_after script place.run) entry.made.stamp.node entry.made.step from.0.enabled) in
        let v = script.version in
        let first = first_lines v in
        let before = moves_lines v place.run in
        let moves : first ++ before ≡ b.told ++ place.due = ap (λ (t : List Line). first ++ t) (sym (append-nil before) ∙ ap (λ (t : List Line). before ++ t) (sym none)) ∙ sym b.parts in
        let closing = closing_lines script (place.run ++ entry ∷ later) None in
        let tail = moves_lines v (entry ∷ later) in (
          (place.due ++ tail) ++ closing,
          ap (λ (t : List Line). first ++ (t ++ closing)) (flat_map-append (entry_lines v) place.run (entry ∷ later))
              ∙ (sym (append_assoc first (before ++ tail) closing)
              ∙ (ap (λ (t : List Line). t ++ closing) (sym (append_assoc first before tail) ∙ (ap (λ (t : List Line). t ++ tail) moves ∙ append_assoc b.told place.due tail))
              ∙ append_assoc b.told (place.due ++ tail) closing)),
        )

    each : (later : List Logged) → IsFinished script (place.run ++ later) → (more : List (List ℕ)) × (checked script (read ++ more) ≡ Ok (place.run ++ later))
    each later done =
        let rest = left later done in (
          map (written script) rest.0,
          ap (λ (ls : List (List ℕ)). checked script (ls ++ map (written script) rest.0)) b.lines
              ∙ (ap (checked script) (sym (map-append (written script) b.told rest.0) ∙ (ap (map (written script)) (sym rest.1) ∙ sym (journal_written script (place.run ++ later) is_script is_short done.is_run)))
              ∙ accepts script (place.run ++ later) is_script is_short done),
        )

-- with lines that are right so far a journal begins: the moves so far go on to a finished run
pub begins_journal : (script : ScriptData) (read : List (List ℕ)) (place : Place) → IsScript script → IsShort script → (reader_after script read).place ≡ Some place → BeginsJournal script read
begins_journal script read place is_script is_short e =
    let b = begins_all script [] (first_place script) 0 read place (first_begins script) e in
    let rest = runs_reach_rest script place.run (whole script is_script) b.is_run in
    let done : IsFinished script (place.run ++ rest.0) = record { is_run = rest.1; at_rest = rest.2 } in
    let told = (continued script read place is_script is_short e).each rest.0 done in
    (place.run ++ rest.0, told.0, done, sym (means script (read ++ told.0) (place.run ++ rest.0) is_script is_short told.1).1)

-- a journal begins with lines that are right so far, and with no others
pub begins_where_right : (script : ScriptData) (read : List (List ℕ)) → IsScript script → IsShort script → IsBeginning script read ↔ BeginsJournal script read
begins_where_right script read is_script is_short = (
  λ beginning.
      let here = begun script read beginning.0 is_script is_short beginning.1 in
      begins_journal script read here.0 is_script is_short here.1,
  λ begins. right_so_far begins (reader_after script read).place refl,
)
  where
    right_so_far : BeginsJournal script read → (o : Option Place) → (reader_after script read).place ≡ o → IsBeginning script read
    right_so_far begins (Some place) e = (place, begins_all script [] (first_place script) 0 read place (first_begins script) e)
    right_so_far (run, more, done, same) None e =
        let reader = reader_after script read in
        let is_bad : reader ≡ record { place = None; good = reader.good } = λ i. record { place = e i; good = reader.good } in
        let read_more = fold-append (read_on script) (first_reader script) read more
        ∙ (ap (λ (r : Reader). fold (read_on script) r more) is_bad ∙ stays_bad script reader.good more) in
        let clash : Ok run ≡ Err (suc reader.good) = sym (accepts script run is_script is_short done) ∙ (ap (checked script) same ∙ ap (verdict script) read_more) in
        absurd (cc)

-- whatever follows a line that is bad, it stays the first bad one
pub bad_stays : (script : ScriptData) (all : List (List ℕ)) (k : ℕ) → checked script all ≡ Err k → k ≤ length all
    → (more : List (List ℕ)) → checked script (take k all ++ more) ≡ Err k
bad_stays script all k e le more =
    let m = met script (first_place script) 0 all k e in
    let k_is : k ≡ suc m.at = omega (arith, m.k_is) in
    ap (λ (n : ℕ). checked script (take n all ++ more)) k_is ∙ m.stays (omega (arith, k_is, le)) more

pub first_bad : (script : ScriptData) (all : List (List ℕ)) (k : ℕ) → IsScript script → IsShort script → checked script all ≡ Err k → IsFirstBad script all k
first_bad script all k is_script is_short e =
    let m = met script (first_place script) 0 all k e in
    let k_is : k ≡ suc m.at = omega (arith, m.k_is) in
    record {
      some = omega (arith, k_is);
      within = omega (arith, k_is, m.within);
      before = λ j lt.
          let b = m.before j (omega (arith, k_is, lt)) in
          begins_journal script (take j all) b.0 is_script is_short b.1;
      not_with = λ le begins.
          let stays : checked script (take k all ++ begins.1) ≡ Err k = bad_stays script all k e le begins.1 in
          let clash : Ok begins.0 ≡ Err k = sym (accepts script begins.0 is_script is_short begins.2) ∙ (ap (checked script) begins.3 ∙ stays) in
          cc;
      missing = λ is_last run done same.
          let clash : Ok run ≡ Err k = sym (accepts script run is_script is_short done) ∙ (ap (checked script) same ∙ e) in
          cc;
    }

-- there is one first bad line
one_bad : (script : ScriptData) (all : List (List ℕ)) (j k : ℕ) → IsFirstBad script all j → IsFirstBad script all k → j ≡ k
one_bad script all j k one other = elim (cases_order j k) [
  | inl same ↦ same
  | inr (inl lt) ↦ absurd (one.not_with (omega (arith, lt, other.within)) (other.before j lt))
  | inr (inr lt) ↦ absurd (other.not_with (omega (arith, lt, one.within)) (one.before k lt))
]

-- and the lines are refused at it
pub refused : (script : ScriptData) (all : List (List ℕ)) (k : ℕ) → IsScript script → IsShort script → IsFirstBad script all k → checked script all ≡ Err k
refused script all k is_script is_short bad = by_answer (checked script all) refl
  where
    by_answer : (answer : Result (List Logged) ℕ) → checked script all ≡ answer → checked script all ≡ Err k
    by_answer (Err other) e = e ∙ ap Err (one_bad script all other k (first_bad script all other is_script is_short e) bad)
    by_answer (Ok run) e =
        let m = means script all run is_script is_short e in
        let within : length all < k = not_within (λ le. bad.not_with le (run, drop k all, m.0, sym m.1 ∙ sym (take-append-drop k all))) in
        absurd (bad.missing (omega (arith, within, bad.within)) run m.0 (sym m.1))
      where
        not_within : (k ≤ length all → ⊥) → length all < k
        not_within never = elim (cases_order k (length all)) [
          | inl same ↦ absurd (never (omega (arith, same)))
          | inr (inl lt) ↦ absurd (never (omega (arith, lt)))
          | inr (inr lt) ↦ lt
        ]
