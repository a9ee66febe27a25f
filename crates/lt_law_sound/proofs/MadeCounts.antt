-- What a command does to sets leaves the counts of commands.
use Rattle.std.proofs.Common.{◌≡◌, ℕ, List, [], ◌∷◌, Option, Some, None, Bool, true, false, refl}
use Rattle.lt_modes.specs.declared.stamp.Stamp.{Stamp}
use Rattle.lt_modes.specs.declared.command.Command.{Command}
use Rattle.lt_modes.specs.declared.command.Command.TheVariants.{Lock, Unlock, Try, Change, DropAll, Withdraw}
use Rattle.lt_modes.specs.Script.{ScriptData}
use Rattle.lt_modes.specs.State.{SetState, Made}
use Rattle.lt_modes.specs.SetMove.{finish, drop}
use Rattle.lt_spec.specs.NodeMove.{related, NodeState, node_waits, touched, each_touched, drop_all, obey}

each_counts : (rule : ℕ → SetState → Made) (sets : List ℕ) (n : NodeState) (c : ℕ) → (each_touched rule sets n).node.made c ≡ n.made c
each_counts rule [] n c = refl
each_counts rule (s ∷ rest) n c = each_counts rule rest (touched n s (rule s (n.set s))).node c

drop_counts : (waiting : Bool) (stamp : Stamp) (client other s : ℕ) (sets : List ℕ) (n : NodeState) (c : ℕ)
    → (drop_all waiting stamp client other s sets n).node.made c ≡ n.made c
drop_counts true stamp client other s sets n c = each_counts (λ k. finish k stamp) sets n c
drop_counts false stamp client other s sets n c = each_counts (λ k. drop k stamp other) sets n c

-- what a command does to sets counts none
pub obey_counts : (script : ScriptData) (stamp : Stamp) (client : ℕ) (command : Option Command) (n : NodeState) (c : ℕ)
    → (obey script stamp client command n).node.made c ≡ n.made c
obey_counts script stamp client None n c = refl
obey_counts script stamp client (Some (Lock s mode)) n c = refl
obey_counts script stamp client (Some (Try s mode)) n c = refl
obey_counts script stamp client (Some (Unlock s mode)) n c = refl
obey_counts script stamp client (Some (Change s gives_up mode)) n c = refl
obey_counts script stamp client (Some (Withdraw other s)) n c = refl
obey_counts script stamp client (Some (DropAll other s)) n c =
    drop_counts (node_waits script n other) stamp client other s (related script s) n c
