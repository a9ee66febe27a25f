-- Whether a client that waits may go on.
use Rattle.std.proofs.Common.{◌≡◌, ◌⊎◌, ◌∙◌, ◌&&◌, Bool, false, true, ℕ, Some, ap, inl, inr, sym}
use Rattle.std.proofs.Math.Bool.{and-false, and-true}
use Rattle.lt_modes.specs.declared.command.Command.{Command}
use Rattle.lt_modes.specs.declared.command.Command.TheVariants as commands
use Rattle.lt_modes.specs.declared.mode.Mode.{Mode}
use Rattle.lt_spec.specs.NodeMove.{NodeState, withdraws_itself}

-- the command is another one than a `withdraw`
abbrev pub IsOther : Command → Type 0
IsOther command =
    ((s : ℕ) × (m : Mode) × (command ≡ commands.Lock s m))
    ⊎ (((s : ℕ) × (m : Mode) × (command ≡ commands.Try s m))
    ⊎ (((s : ℕ) × (m : Mode) × (command ≡ commands.Unlock s m))
    ⊎ (((s : ℕ) × (g : Mode) × (m : Mode) × (command ≡ commands.Change s g m))
    ⊎ ((other : ℕ) × (s : ℕ) × (command ≡ commands.DropAll other s)))))

pub other_is : (n : NodeState) (client : ℕ) (command : Command) → IsOther command → false ≡ withdraws_itself n client (Some command)
other_is n client command is = elim is [
  | inl h ↦ sym (ap (λ (c : Command). withdraws_itself n client (Some c)) h.2)
  | inr a ↦ elim a [
    | inl h ↦ sym (ap (λ (c : Command). withdraws_itself n client (Some c)) h.2)
    | inr b ↦ elim b [
      | inl h ↦ sym (ap (λ (c : Command). withdraws_itself n client (Some c)) h.2)
      | inr d ↦ elim d [
        | inl h ↦ sym (ap (λ (c : Command). withdraws_itself n client (Some c)) h.3)
        | inr h ↦ sym (ap (λ (c : Command). withdraws_itself n client (Some c)) h.2)
      ]
    ]
  ]
]

pub none_left : (free left : Bool) → left ≡ false → false ≡ (free && left)
none_left free left isnt = sym (ap (λ (b : Bool). free && b) isnt ∙ and-false free)

pub some_left : (free left : Bool) → left ≡ true → free ≡ (free && left)
some_left free left is = sym (ap (λ (b : Bool). free && b) is ∙ and-true free)
