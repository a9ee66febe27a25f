-- Numbers in decimal digits.
use Rattle.std.specs.Prelude.{ℕ, ◌^◌, Bool, ◌&&◌, not, List, length, slice_index, Option, Some, None, ◌==◌, nat_lt, nat_le, if◌then◌else◌}
use Rattle.std.specs.List.{list_all}
use Rattle.std.specs.Char.{is_ascii_digit}
use Rattle.std.specs.Str.Parse.{digits_value}

abbrev pub are_digits : List ℕ → Bool
are_digits word = list_all is_ascii_digit word

-- from one digit to this many
abbrev pub is_numeral : List ℕ → ℕ → Bool
is_numeral word most = nat_lt 0 (length word) && nat_le (length word) most && are_digits word

-- the first of several digits is 0
abbrev pub has_leading_zero : List ℕ → Bool
has_leading_zero word = nat_lt 1 (length word) && slice_index word 0 == 48

-- the number that 1 to 9 digits write
abbrev pub number : List ℕ → Option ℕ
number word = if is_numeral word 9 then Some (digits_value 10 word) else None

-- the number below 2 ^ 64 that digits with no leading zero write
abbrev pub exact_number : List ℕ → Option ℕ
exact_number word =
    if is_numeral word 20 && not (has_leading_zero word) && nat_lt (digits_value 10 word) (2 ^ 64) then Some (digits_value 10 word) else None
