use Rattle.std.proofs.Common.{◌≡◌, ◌+◌, ◌∙◌, ℕ, List, [], map, fold, drop, ap, ap₂, sym, arith}
use Rattle.std.proofs.lemmas.List.{drop_all}
use Rattle.lt_modes.specs.Script.{ScriptData}
use Rattle.lt_journal.specs.declared.line.Line.{Line}
use Rattle.lt_law_journals.specs.Checking.{Reader, written, read_on}
use Rattle.lt_checker.specs.Checker.{ReaderData}
use Rattle.lt_checker.proofs.LeftLines.{drop_get}
use Rattle.lt_checker.proofs.replaying.read_all.Goals as goal

pub loop-k-init : goal.loop-k-init
loop-k-init c =
    let script = c.args.script.now in
    let begun = c.in_ok-reader.ensures in
    record {
      script = ap (λ (r : ReaderData). r.script) begun;
      reader = ap (λ (r : ReaderData). fold (read_on script) r.reader (map (written script) c.args.journal.now)) begun;
    }

pub returns-clause-reader : goal.returns-clause-reader
returns-clause-reader c =
    let script = c.args.script.now in
    let journal = c.args.journal.now in
    let none : drop c.loop-k.k journal ≡ [] = drop_all c.loop-k.k journal (omega (arith, c.loop-k-test.false, c.len-k-end.ensures)) in
    sym (ap (λ (left : List Line). fold (read_on script) c.loop-k.reader.reader (map (written script) left)) none) ∙ c.loop-k.invariant.reader

pub loop-k-preserved : goal.loop-k-preserved
loop-k-preserved c =
    let script = c.args.script.now in
    let journal = c.args.journal.now in
    let k = c.loop-k.k in
    let old = c.loop-k.reader in
    let said = c.line.result in
    let words : c.deref.result.now ≡ written script said = c.deref.ensures.value ∙ c.in_ok-line.ensures in
    let read : c.take.new.self.reader ≡ read_on script old.reader (written script said) =
    c.in_ok-take.ensures.reader ∙ ap₂ (λ (s : ScriptData) (line : List ℕ). read_on s old.reader line) c.loop-k.invariant.script words in
    record {
      script = c.take.ensures.script ∙ c.loop-k.invariant.script;
      reader = ap (λ (r : Reader). fold (read_on script) r (map (written script) (drop (k + 1) journal))) read
          ∙ (ap (λ (left : List Line). fold (read_on script) old.reader (map (written script) left)) (sym (drop_get journal k said c.line.ensures))
          ∙ c.loop-k.invariant.reader);
    }
