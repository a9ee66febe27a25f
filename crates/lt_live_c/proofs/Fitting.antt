-- What it means that numbers are in range.
use Rattle.std.proofs.Common.{◌≡◌, ◌<◌, ◌≤◌, ◌^◌, ◌-◌, ◌&&◌, ℕ, List, length, nat_lt, nat_le, true, arith, leb-true, ltb-true}
use Rattle.std.proofs.lemmas.Bool.{and_parts}
use Rattle.lt_spec.specs.declared.moves.TheConstants.{MAX_MOVES_OF_SERVICE}
use Rattle.lt_spec.specs.declared.limits.TheConstants.{MAX_COMMANDS}
use Rattle.lt_live_c.specs.declared.limits.TheConstants.{MAX_BYTES}
use Rattle.lt_live_c.specs.Opening.{fits_for_c}

module _ (text : List ℕ) (limit places : ℕ) (h : fits_for_c text limit places ≡ true) where
  rest : (nat_lt 0 limit && nat_le limit MAX_MOVES_OF_SERVICE ≡ true) × (nat_lt 0 places && nat_le places MAX_COMMANDS ≡ true)
  rest =
      and_parts (nat_lt 0 limit && nat_le limit MAX_MOVES_OF_SERVICE) (nat_lt 0 places && nat_le places MAX_COMMANDS)
      (and_parts (nat_le (length text) MAX_BYTES) ((nat_lt 0 limit && nat_le limit MAX_MOVES_OF_SERVICE) && (nat_lt 0 places && nat_le places MAX_COMMANDS)) h).1

  pub limit_fits : (0 < limit) × (limit ≤ MAX_MOVES_OF_SERVICE)
  limit_fits =
      let both = and_parts (nat_lt 0 limit) (nat_le limit MAX_MOVES_OF_SERVICE) rest.0 in
      (ltb-true 0 limit both.0, leb-true limit MAX_MOVES_OF_SERVICE both.1)

  pub places_fit : (0 < places) × (places ≤ MAX_COMMANDS)
  places_fit =
      let both = and_parts (nat_lt 0 places) (nat_le places MAX_COMMANDS) rest.1 in
      (ltb-true 0 places both.0, leb-true places MAX_COMMANDS both.1)

  pub length_fits : length text < 2 ^ 32 - 1
  length_fits =
      let few = leb-true (length text) MAX_BYTES
      (and_parts (nat_le (length text) MAX_BYTES) ((nat_lt 0 limit && nat_le limit MAX_MOVES_OF_SERVICE) && (nat_lt 0 places && nat_le places MAX_COMMANDS)) h).0 in
      omega (arith, few)
