-- Where memory may be wanting: once the last line of a journal is read, no line before it was bad.
use Rattle.std.proofs.Common.{◌≡◌, ◌≢◌, ◌∙◌, ℕ, suc, ◌+◌, ◌≤◌, Bool, true, false, cond, List, [], ◌∷◌, ◌++◌, Option, Some, None, Result, Ok, Err, length, take, drop, if◌then◌else◌, refl, sym, ap, subst, arith}
use Rattle.std.proofs.lemmas.List.{length-map}
use Rattle.lt_modes.specs.Script.{ScriptData}
use Rattle.lt_spec.specs.World.{Logged}
use Rattle.lt_spec.specs.Script.{IsScript, IsShort}
use Rattle.lt_text.specs.Text.{cut_at, lines, put_front, is_filled, is_line_end, without_return}
use Rattle.lt_journal.specs.Split.{input_parts}
use Rattle.lt_law_journals.specs.Checking.{Place, Reader, Feed, led_to, read_at, read_on, place_after, is_complete, verdict, verdict_at, checked, new_feed, fed, fed_piece, line_ended, last_ended, ended}
use Rattle.lt_law_journals.proofs.Accepting.{accepts}
use Rattle.lt_law_journals.proofs.Feeds.{fed_all}
use Rattle.lt_law_journals.proofs.Firsts.{refused}
use Rattle.lt_world.specs.Fields.{WorldData}
use Rattle.lt_checker.specs.Checker.{AreGoodToLast, MayReadLast}
use Rattle.lt_checker.specs.Input.{IsEndedRun, IsGoodToLast}

-- after a bad line no line counts
still_bad : (script : ScriptData) (bytes : List ℕ) (f : Feed) → f.reader.place ≡ None → (fed_piece script f bytes).reader.place ≡ None
still_bad script [] f bad = bad
still_bad script (byte ∷ bytes) f bad = still_bad script bytes (fed script f byte) (by_end (is_line_end byte))
  where
    by_end : (b : Bool) → (cond b (line_ended script f) (record f { rest = take 201 (f.rest ++ byte ∷ []) })).reader.place ≡ None
    by_end true = ap (λ (place : Option Place). (read_at script f.reader (without_return f.rest) place).place) bad ∙ bad
    by_end false = bad

-- with a line more no fewer are good
no_fewer : (script : ScriptData) (reader : Reader) (line : List ℕ) (place : Option Place) → reader.good ≤ (read_at script reader line place).good
no_fewer script reader line None = omega arith
no_fewer script reader line (Some place) = by_next (place_after script place line)
  where
    by_next : (next : Option Place) → reader.good ≤ (led_to reader next).good
    by_next None = omega arith
    by_next (Some next) = omega arith

more_good : (script : ScriptData) (bytes : List ℕ) (f : Feed) → f.reader.good ≤ (fed_piece script f bytes).reader.good
more_good script [] f = omega arith
more_good script (byte ∷ bytes) f = omega (arith, by_end (is_line_end byte), more_good script bytes (fed script f byte))
  where
    by_end : (b : Bool) → f.reader.good ≤ (cond b (line_ended script f) (record f { rest = take 201 (f.rest ++ byte ∷ []) })).reader.good
    by_end true = no_fewer script f.reader (without_return f.rest) f.reader.place
    by_end false = omega arith

-- while no line is bad, all of them are counted as good but a last one that isn't whole
pub all_good : (script : ScriptData) (bytes : List ℕ) (f : Feed) → (fed_piece script f bytes).reader.place ≢ None
    → length (cut_at is_line_end bytes) + f.reader.good ≤ (fed_piece script f bytes).reader.good + 1
unfolding cut_at
all_good script [] f good = omega arith
all_good script (byte ∷ bytes) f good = by_end (is_line_end byte) (all_good script bytes) good
  where
    kept : Feed
    kept = record f { rest = take 201 (f.rest ++ byte ∷ []) }

    fronts : (pieces : List (List ℕ)) (last : ℕ) → f.reader.good ≤ last → length pieces + f.reader.good ≤ last + 1 → length (put_front byte pieces) + f.reader.good ≤ last + 1
    fronts [] last more count = omega (arith, more)
    fronts (piece ∷ pieces) last more count = omega (arith, count)

    by_reader : (reader : Reader) (place : Option Place) → reader.place ≡ place → (fed_piece script (record { reader = read_at script reader (without_return f.rest) place; rest = [] }) bytes).reader.place ≢ None
        → (read_at script reader (without_return f.rest) place).good ≡ suc reader.good
    by_reader reader None is good = absurd (good (still_bad script bytes (record { reader = reader; rest = [] }) is))
    by_reader reader (Some place) is good = by_next (place_after script place (without_return f.rest)) good
      where
        by_next : (next : Option Place) → (fed_piece script (record { reader = led_to reader next; rest = [] }) bytes).reader.place ≢ None → (led_to reader next).good ≡ suc reader.good
        by_next None good = absurd (good (still_bad script bytes (record { reader = led_to reader None; rest = [] }) refl))
        by_next (Some next) good = refl

    by_end : (b : Bool) → ((g : Feed) → (fed_piece script g bytes).reader.place ≢ None → length (cut_at is_line_end bytes) + g.reader.good ≤ (fed_piece script g bytes).reader.good + 1)
        → (fed_piece script (if b then line_ended script f else kept) bytes).reader.place ≢ None
        → length (if b then [] ∷ cut_at is_line_end bytes else put_front byte (cut_at is_line_end bytes)) + f.reader.good
        ≤ (fed_piece script (if b then line_ended script f else kept) bytes).reader.good + 1
    by_end true again good =
        let one : (line_ended script f).reader.good ≡ suc f.reader.good = by_reader f.reader f.reader.place refl good in
        omega (arith, one, again (line_ended script f) good)
    by_end false again good =
        fronts (cut_at is_line_end bytes) (fed_piece script kept bytes).reader.good (more_good script bytes kept) (again kept good)

-- the first bad line comes after the good ones
bad_later : (script : ScriptData) (good k : ℕ) (place : Option Place) → verdict_at script good place ≡ Err k → suc good ≤ k
bad_later script good k None e = let same : suc good ≡ k = cc in omega (arith, same)
bad_later script good k (Some place) e = by_end (is_complete script place.run place.due) e
  where
    by_end : (b : Bool) → (if b then Ok place.run else Err (suc good)) ≡ Err k → suc good ≤ k
    by_end true at = absurd (cc)
    by_end false at = let same : suc good ≡ k = cc in omega (arith, same)

-- the lines before the last were read, and none of them was bad
pub good_to_last : (script : ScriptData) (bytes : List ℕ) (feed : Feed) → IsScript script → IsShort script → feed ≡ fed_piece script (new_feed script) bytes → MayReadLast feed
    → AreGoodToLast script (lines bytes)
unfolding lines
good_to_last script bytes feed is_script short is may k bad =
    let told : ended script (fed_piece script (new_feed script) bytes) ≡ Err k = fed_all script bytes is_script short ∙ refused script (lines bytes) k is_script short bad in
    let last : verdict script (last_ended script feed).reader ≡ Err k = ap (ended script) is ∙ told in
    let later : suc feed.reader.good ≤ k = by_rest feed.rest refl last in
    let good : (fed_piece script (new_feed script) bytes).reader.place ≢ None = subst (λ (f : Feed). f.reader.place ≢ None) is may.good in
    omega (arith, later, all_good script bytes (new_feed script) good, ap (λ (f : Feed). f.reader.good) is, length-map (cut_at is_line_end bytes) without_return)
  where
    by_rest : (rest : List ℕ) → feed.rest ≡ rest → verdict script (last_ended script feed).reader ≡ Err k → suc feed.reader.good ≤ k
    by_rest [] e at = absurd (may.kept e)
    by_rest (byte ∷ rest) e at =
        let read : verdict script (read_on script feed.reader (without_return feed.rest)) ≡ Err k =
        sym (ap (λ (b : Bool). verdict script (cond b (line_ended script feed) feed).reader) (ap is_filled e)) ∙ at in
        let more = no_fewer script feed.reader (without_return feed.rest) feed.reader.place in
        let after = read_on script feed.reader (without_return feed.rest) in
        omega (arith, more, bad_later script after.good k after.place read)

-- of a journal that was accepted no line is bad
pub ended_good : (bytes : List ℕ) (script : ScriptData) (world : WorldData) → IsScript script → IsShort script → IsEndedRun (Some bytes) script world → IsGoodToLast bytes
ended_good bytes script world is_script short ended = record {
  script = script;
  is_script = is_script;
  denoted = ended.denoted;
  last = λ k bad.
      let all = lines (drop (input_parts bytes).journal bytes) in
      let good : checked script all ≡ Ok world.run = ap (checked script) ended.accepted ∙ accepts script world.run is_script short ended.finished in
      absurd (not_both (checked script all) k world.run (refused script all k is_script short bad) good);
}
  where
    not_both : (told : Result (List Logged) ℕ) (k : ℕ) (run : List Logged) → told ≡ Err k → told ≡ Ok run → ⊥
    not_both told k run bad good = cc
