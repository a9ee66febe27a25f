use Rattle.std.proofs.Common.{◌≡◌, ◌++◌, ◌∙◌, ◌==◌, ℕ, List, [], ◌∷◌, true, take, length, min, ap, refl, sym, arith, eqb-true}
use Rattle.std.proofs.lemmas.List.{take_min}
use Rattle.lt_text.specs.Text.{without_return}
use Rattle.lt_law_journals.specs.Checking.{read_on}
use Rattle.lt_checker.proofs.checker.end_line.Goals as goal

none_kept : (rest : List ℕ) → (length rest == 0) ≡ true → rest ≡ []
none_kept [] e = refl
none_kept (byte ∷ rest) e = let none = eqb-true (length (byte ∷ rest)) 0 e in absurd (omega (arith, none))

pub returns-then-is_empty-clause-read : goal.returns-then-is_empty-clause-read
returns-then-is_empty-clause-read c =
    let rest = c.args.rest.now.items in
    let last = c.args.last.now in
    let size : c.min.result ≡ min 201 (length last) = omega (arith, c.min.ensures) in
    let none : rest ≡ [] = none_kept rest (sym c.is_empty.ensures ∙ c.if-is_empty.true) in
    c.in_ok-take.ensures.reader
    ∙ ap (λ (line : List ℕ). read_on c.args.reader.now.script c.args.reader.now.reader line)
    (c.trim_return.ensures
    ∙ ap without_return (c.split_at.ensures.front ∙ (ap (λ (n : ℕ). take n last) size ∙ (take_min 201 last ∙ sym (ap (λ (kept : List ℕ). take 201 (kept ++ last)) none)))))
