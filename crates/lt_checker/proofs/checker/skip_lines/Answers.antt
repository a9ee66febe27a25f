use Rattle.std.proofs.Common.{◌++◌, ◌∙◌, List, ℕ, take, ap, ap₂, sym}
use Rattle.lt_law_journals.specs.Checking.{Reader, Feed}
use Rattle.lt_checker.proofs.Pieces.{fed_part, none_found_back, skipped_to}
use Rattle.lt_checker.proofs.checker.skip_lines.Goals as goal

abbrev kept_with : Reader → List ℕ → Feed
kept_with reader rest = record { reader = reader; rest = rest }

pub returns-in-Some : goal.returns-in-Some
returns-in-Some c = λ script reader bad.
    ap (kept_with reader)
    (c.keep.ensures.kept ∙ ap₂ (λ (a b : List ℕ). take 201 (a ++ b)) c.clear.ensures c.split_at.ensures.back)
    ∙ sym (skipped_to script reader c.args.rest.now.items c.args.piece.now c.in-Some.end bad c.in-Some.ensures)

pub returns-in-None : goal.returns-in-None
returns-in-None c = λ script reader bad.
    let fed = fed_part script reader c.args.rest.now.items c.args.piece.now c.keep-in-None.ensures.few (none_found_back c.args.piece.now c.in-None.ensures) in
    ap (kept_with reader) c.keep-in-None.ensures.kept ∙ sym fed
