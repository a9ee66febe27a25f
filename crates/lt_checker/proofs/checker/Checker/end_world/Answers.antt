use Rattle.std.proofs.Common.{rules, ◌≡◌, ◌∙◌, List, ℕ, Option, Some, Result, ap, sym, subst}
use Rattle.lt_spec.specs.World.{Logged}
use Rattle.lt_spec.specs.Script.{IsScript, IsShort}
use Rattle.lt_law_journals.specs.Checking.{Feed, new_feed, fed_piece, ended}
use Rattle.lt_law_journals.proofs.Feeds.{fed_all}
use Rattle.lt_checker.specs.Checker.{CheckerData, IsWorldAnswer, MayReadLast, ReaderData, feed_of}
use Rattle.lt_checker.proofs.Wanting.{good_to_last}
use Rattle.lt_checker.proofs.checker.Checker.end_world.Goals as goal

pub returns-clause-answers : goal.returns-clause-answers
returns-clause-answers c = λ bytes stands.
    let script = c.args.self.script in
    let is_script : IsScript script = search rules in
    let short : IsShort script = search rules in
    let told : IsWorldAnswer script (ended script (fed_piece script (new_feed script) bytes)) c.finish_world.result = search rules in
    subst (λ (t : Result (List Logged) ℕ). IsWorldAnswer script t c.finish_world.result) (fed_all script bytes is_script short) told

pub returns-in_err-end_last_line-clause-memory : goal.returns-in_err-end_last_line-clause-memory
returns-in_err-end_last_line-clause-memory c = λ refused bytes stands.
    let script = c.args.self.script in
    let rest = c.self.inside.rest.items in
    let feed : Feed = record { reader = c.in-Some.reader.reader; rest = rest } in
    let is_script : IsScript script = search rules in
    let short : IsShort script = search rules in
    let kept : Some feed ≡ c.args.self.feed =
    ap (λ (r : Option ReaderData). feed_of r rest) (sym c.in-Some.is) ∙ ap (λ (v : CheckerData). v.feed) c.self.view_is in
    let both : Some feed ≡ Some (fed_piece script (new_feed script) bytes) = kept ∙ stands in
    let is : feed ≡ fed_piece script (new_feed script) bytes = cc in
    let may : MayReadLast feed = search rules in
    good_to_last script bytes feed is_script short is may
