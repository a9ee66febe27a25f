use Rattle.std.proofs.Common.{◌≡◌, ◌∙◌, [], ◌∷◌, ◌++◌, refl, arith, ap, ap₂, List, ℕ, codes, ◌+◌, ◌/◌, ◌%◌, ◌^◌, ◌≤◌, ◌<◌, decimal}
use Rattle.std.proofs.lemmas.Fmt.{decimal_digit, decimal_step}
use Rattle.lt_serve.proofs.laws.law_literals.Goals as goal

one_text : decimal 1 ≡ codes "1"
one_text = decimal_digit 1 (omega arith)

two_text : decimal 2 ≡ codes "2"
two_text = decimal_digit 2 (omega arith)

four_text : decimal 4 ≡ codes "4"
four_text = decimal_digit 4 (omega arith)

five_text : decimal 5 ≡ codes "5"
five_text = decimal_digit 5 (omega arith)

six_text : decimal 6 ≡ codes "6"
six_text = decimal_digit 6 (omega arith)

seven_text : decimal 7 ≡ codes "7"
seven_text = decimal_digit 7 (omega arith)

-- a number by its last digit and those before it
with_last : (n : ℕ) (front : List ℕ) → 10 ≤ n → n < 2 ^ 64 → decimal (n / 10) ≡ front → decimal n ≡ front ++ (48 + n % 10) ∷ []
with_last n front more fits before = decimal_step n more fits ∙ ap (λ (digits : List ℕ). digits ++ (48 + n % 10) ∷ []) before

sixteen_text : decimal 16 ≡ codes "16"
sixteen_text = with_last 16 (codes "1") (omega arith) (omega arith) one_text

sixty_four_text : decimal 64 ≡ codes "64"
sixty_four_text = with_last 64 (codes "6") (omega arith) (omega arith) six_text

most_commands_text : decimal 4096 ≡ codes "4096"
most_commands_text =
    with_last 4096 (codes "409") (omega arith) (omega arith)
    (with_last 409 (codes "40") (omega arith) (omega arith)
    (with_last 40 (codes "4") (omega arith) (omega arith) four_text))

pub returns-clause-texts : goal.returns-clause-texts
returns-clause-texts c = record {
  done = refl;
  stuck = refl;
  usage = refl;
  refused = ap₂ (λ (line number : List ℕ). codes "lockrun: " ++ (codes "line " ++ line ++ codes ": S" ++ number)) one_text five_text;
  too_long = refl;
  read_fault = refl;
  write_fault = refl;
  no_memory = refl;
  cut = ap (λ (node : List ℕ). codes "lockrun: cut at node " ++ node) seven_text;
  bad_journal = ap (λ (line : List ℕ). codes "lockrun: line " ++ line ++ codes ": journal") four_text;
}

pub returns-clause-soak : goal.returns-clause-soak
returns-clause-soak c = record {
  sizes = λ seed. c.law_generated.ensures.sizes 1 16 64 4096 seed;
  text = rw (sixteen_text, four_text, sixty_four_text, most_commands_text, one_text, two_text) refl;
}
