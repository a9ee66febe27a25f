-- How small numbers are written.
use Rattle.std.proofs.Common.{arith, ◌≡◌, refl, ◌∙◌, codes, decimal}
use Rattle.std.proofs.lemmas.Fmt.{decimal_digit, decimal-digits_of}

pub zero_text : decimal 0 ≡ codes "0"
zero_text = decimal_digit 0 (omega arith)

pub one_text : decimal 1 ≡ codes "1"
one_text = decimal_digit 1 (omega arith)

pub two_text : decimal 2 ≡ codes "2"
two_text = decimal_digit 2 (omega arith)

pub three_text : decimal 3 ≡ codes "3"
three_text = decimal_digit 3 (omega arith)

pub four_text : decimal 4 ≡ codes "4"
four_text = decimal_digit 4 (omega arith)

pub five_text : decimal 5 ≡ codes "5"
five_text = decimal_digit 5 (omega arith)

pub six_text : decimal 6 ≡ codes "6"
six_text = decimal_digit 6 (omega arith)

pub seven_text : decimal 7 ≡ codes "7"
seven_text = decimal_digit 7 (omega arith)

pub eight_text : decimal 8 ≡ codes "8"
eight_text = decimal_digit 8 (omega arith)

pub nine_text : decimal 9 ≡ codes "9"
nine_text = decimal_digit 9 (omega arith)

pub ten_text : decimal 10 ≡ codes "10"
ten_text = decimal-digits_of 10 (omega arith) (omega arith) ∙ refl

pub eleven_text : decimal 11 ≡ codes "11"
eleven_text = decimal-digits_of 11 (omega arith) (omega arith) ∙ refl

pub twelve_text : decimal 12 ≡ codes "12"
twelve_text = decimal-digits_of 12 (omega arith) (omega arith) ∙ refl

pub thirteen_text : decimal 13 ≡ codes "13"
thirteen_text = decimal-digits_of 13 (omega arith) (omega arith) ∙ refl

pub nineteen_text : decimal 19 ≡ codes "19"
nineteen_text = decimal-digits_of 19 (omega arith) (omega arith) ∙ refl
