use Rattle.std.proofs.Common.{rules, ◌∙◌, List, ℕ, IsTrue, IsFalse, Option, Some, ap, subst, sym, refl}
use denote.Ref.{Bor}
use Rattle.lt_modes.specs.Script.{ScriptData}
use Rattle.lt_text.specs.Text.{is_line_end, HasNone}
use Rattle.lt_law_journals.specs.Checking.{Reader, Feed, fed_piece}
use Rattle.lt_checker.specs.First.{FeedsLine}
use Rattle.lt_checker.proofs.Pieces.{fed_part}
use Rattle.lt_checker.proofs.checker.feed_all.Goals as goal

pub loop-reader-init : goal.loop-reader-init
loop-reader-init c = record {
  script = refl;
  good = λ bad. bad;
  tail = λ none. none;
  fed = refl;
}

abbrev kept_with : Reader → List ℕ → Feed
kept_with reader rest = record { reader = reader; rest = rest }

pub loop-reader-preserved : goal.loop-reader-preserved
loop-reader-preserved c =
    let before = c.loop-reader in
    let script = c.args.reader.now.script in
    let good : IsFalse c.is_bad.result = search rules in
    let old = kept_with before.reader.reader before.rest.items in
    let new = kept_with c.feed_line.new.reader.reader c.feed_line.new.rest.items in
    let told = subst (λ (o : Option (Bor (List ℕ))). FeedsLine before.reader.script old before.left.now o new) c.in-Some.is c.in_ok-later.ensures.fed in
    let fed = subst (λ (s : ScriptData). FeedsLine s old before.left.now (Some c.in-Some.later) new) before.invariant.script told in
    record {
      script = c.feed_line.ensures.script ∙ before.invariant.script;
      fed = fed.fed ∙ before.invariant.fed;
      good = λ bad. absurd (c.is_bad.ensures.good good (before.invariant.good bad));
      tail = λ none. absurd (told.ends (before.invariant.tail none));
    }

pub returns-in_default-clause-fed : goal.returns-in_default-clause-fed
returns-in_default-clause-fed c =
    let before = c.loop-reader in
    let script = c.args.reader.now.script in
    let reader = c.feed_line.new.reader.reader in
    let rest = c.feed_line.new.rest.items in
    let left = before.left.now in
    let old = kept_with before.reader.reader before.rest.items in
    let told = subst (λ (o : Option (Bor (List ℕ))). FeedsLine before.reader.script old left o (kept_with reader rest)) c.in_default.is c.in_ok-later.ensures.fed in
    ap (kept_with reader) c.keep.ensures.kept
    ∙ (sym (fed_part script reader rest left c.keep.ensures.few told.0) ∙ (ap (λ (f : Feed). fed_piece script f left) told.1 ∙ before.invariant.fed))

pub returns-clause-fed : goal.returns-clause-fed
returns-clause-fed c =
    let before = c.loop-reader in
    let bad : IsTrue c.is_bad.result = search rules in
    c.skip_lines.ensures c.args.reader.now.script before.reader.reader (c.is_bad.ensures.bad bad) ∙ before.invariant.fed

pub returns-in_err-later-clause-cause : goal.returns-in_err-later-clause-cause
returns-in_err-later-clause-cause c =
    let before = c.loop-reader in
    let good : IsFalse c.is_bad.result = search rules in
    let ends : HasNone is_line_end before.left.now → ⊥ = search rules in
    λ failed. record {
      good = λ bad. c.is_bad.ensures.good good (before.invariant.good bad);
      ends = λ none. ends (before.invariant.tail none);
    }
