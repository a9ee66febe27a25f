-- The lines of a run are of the version of its script: those that came with version 3 stand in runs of such scripts alone.
use Rattle.std.proofs.Common.{◌≡◌, ◌≢◌, ◌⊎◌, ℕ, List, inl, inr, arith}
use Rattle.std.specs.List.{AllByRecursion}
use Rattle.std.proofs.lemmas.List.Elements.{All-weaker, recursion_from_All}
use Rattle.lt_modes.specs.declared.command.Command.{Command}
use Rattle.lt_modes.specs.declared.command.Command.TheVariants.{Lock, Try, Unlock, Change, DropAll, Withdraw}
use Rattle.lt_modes.specs.declared.event.Event.{Event}
use Rattle.lt_modes.specs.Script.{ScriptData}
use Rattle.lt_lists.proofs.AllLemmas.{all_weaker, all_any}
use Rattle.lt_spec.specs.Script.{IsScript, IsOfVersion}
use Rattle.lt_spec.specs.World.{Logged, IsRun}
use Rattle.lt_law_own_lines.specs.OldLaws.{IsOldCommand, IsOldLine, IsOldScript}
use Rattle.lt_law_own_lines.proofs.OldLines.{old_lines_in_runs}

-- the line is one of each version, or the script has version 3
abbrev pub IsLineOf : ScriptData → Event → Type 0
IsLineOf script line = IsOldLine line ⊎ (script.version ≡ 3)

-- a line that came with version 3
pub of_third : {version : ℕ} → ⊥ ⊎ (version ≡ 3) → version ≡ 3
of_third own = elim own [ inl none ↦ absurd none | inr third ↦ third ]

old_command : (version : ℕ) (command : Command) → version ≢ 3 → IsOfVersion version command → IsOldCommand command
old_command version (Lock set mode) other own = tt
old_command version (Try set mode) other own = tt
old_command version (Unlock set mode) other own = tt
old_command version (Change set gives_up mode) other own = tt
old_command version (DropAll client set) other own = tt
old_command version (Withdraw client set) other own = absurd (other own)

old_script : (script : ScriptData) → IsScript script → script.version ≢ 3 → IsOldScript script
old_script script is_script other =
    All-weaker (λ (request : ℕ × Command). IsOfVersion script.version request.1) (λ (request : ℕ × Command). IsOldCommand request.1)
    (λ request own. old_command script.version request.1 other own) script.commands is_script.modes

old_lines : (script : ScriptData) (entries : List Logged) → IsScript script → IsRun script entries → script.version ≢ 3
    → AllByRecursion (λ (entry : Logged). AllByRecursion (IsLineOf script) entry.events) entries
old_lines script entries is_script is_run other =
    all_weaker (λ (entry : Logged). AllByRecursion IsOldLine entry.events) (λ (entry : Logged). AllByRecursion (IsLineOf script) entry.events)
    (λ entry old. all_weaker IsOldLine (IsLineOf script) (λ line h. inl h) entry.events old) entries
    (recursion_from_All (λ (entry : Logged). AllByRecursion IsOldLine entry.events) entries (old_lines_in_runs script entries (old_script script is_script other) is_run))

pub own_lines : (script : ScriptData) (entries : List Logged) → IsScript script → IsRun script entries
    → AllByRecursion (λ (entry : Logged). AllByRecursion (IsLineOf script) entry.events) entries
own_lines script entries is_script is_run = elim is_script.version [
  | inl one ↦ old_lines script entries is_script is_run (λ three. omega (arith, one, three))
  | inr later ↦ elim later [
    | inl two ↦ old_lines script entries is_script is_run (λ three. omega (arith, two, three))
    | inr three ↦
        all_any (λ (entry : Logged). AllByRecursion (IsLineOf script) entry.events)
        (λ entry. all_any (IsLineOf script) (λ line. inr three) entry.events) entries
  ]
]
