-- Equal shares are within all bounds.
use Rattle.std.proofs.Common.{◌≡◌, ◌≤◌, ◌*◌, ◌/◌, ℕ, zero, suc, length, sym, ap, ◌∙◌, arith}
use Rattle.std.proofs.Math.Nat.{mul-div-le, div-zero, div-le_self, mul_comm}
use Rattle.std.proofs.lemmas.Nat.{le-div}
use Rattle.lt_modes.specs.Script.{ScriptData}
use Rattle.lt_spec.specs.declared.limits.TheConstants.{MAX_COMMANDS, MAX_COMMANDS_OF_SERVICE}
use Rattle.lt_live.specs.Stations.{most_share, equal_share}

-- of no clients none has a share
pub none_of : (most n : ℕ) → n ≡ 0 → 0 ≡ most / n
none_of most n none = sym (ap (λ (k : ℕ). most / k) none ∙ div-zero most)

pub equal_few : (script : ScriptData) → equal_share script ≤ MAX_COMMANDS
equal_few script = div-le_self MAX_COMMANDS (length script.clients)

less_of_each : (n few many : ℕ) → few ≤ many → few / n ≤ many / n
less_of_each zero few many h = omega (arith, div-zero few, div-zero many)
less_of_each (suc n) few many h =
    let all : (few / suc n) * suc n ≤ few = omega (arith, mul-div-le few (suc n), mul_comm (few / suc n) (suc n)) in
    le-div (few / suc n) many (suc n) (omega arith) (omega (arith, all, h))

pub equal_within : (script : ScriptData) → equal_share script ≤ most_share script
equal_within script = less_of_each (length script.clients) MAX_COMMANDS MAX_COMMANDS_OF_SERVICE (omega arith)
