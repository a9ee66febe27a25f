-- What a node sees in scripts that differ in the commands of clients of other nodes alone.
use Rattle.std.proofs.Common.{◌≡◌, ℕ, List, Option, Some, None, Bool, true, false, length, refl, sym, ap, subst, ◌∙◌, ◌==◌, ◌&&◌, not, nat_lt, if◌then◌else◌, eqb-true, slice_get, ◌||◌}
use Rattle.std.proofs.Math.Path.{fun_ext}
use Rattle.lt_modes.specs.declared.command.Command.{Command}
use Rattle.lt_modes.specs.declared.command.Command.TheVariants.{Lock, Try, Unlock, Change, DropAll, Withdraw}
use Rattle.lt_modes.specs.Script.{ScriptData}
use Rattle.lt_spec.specs.NodeMove.{home, NodeState, node_waits, withdraws_itself, commands_of, with_commands, SameAt}
use Rattle.lt_spec.specs.Plays.{can_act}
use Rattle.lt_desk.specs.LetterSeen.{letter_seen}
use Rattle.lt_node.specs.Touched.{leaves_room_to_obey, leaves_room_to_act}
use Rattle.lt_runner.specs.declared.choice.Choice.{Choice}
use Rattle.lt_runner.specs.declared.choice.Choice.TheVariants.{Nothing, Act, Take}
use Rattle.lt_runner.specs.declared.parts.Hand.{Hand}
use Rattle.lt_runner.specs.Choices.{least_below, first_client, has_time, may_take, act_if, act_choice, choice_by}
use Rattle.lt_runner.proofs.ChoiceLemmas.{first_can, is_runnable}

pub same_itself : (k : ℕ) (script : ScriptData) → SameAt k script script
same_itself k script = record { rest = refl; own = λ client at. refl }

-- where the first one is the same
pub same_before : (k : ℕ) (a b script : ScriptData) → b ≡ a → SameAt k a script → SameAt k b script
same_before k a b script e h = subst (λ (s : ScriptData). SameAt k s script) (sym e) h

pub nodes_same : (k : ℕ) (a b : ScriptData) → SameAt k a b → a.nodes ≡ b.nodes
nodes_same k a b h = sym (ap (λ (s : ScriptData). s.nodes) h.rest)

pub waits_same : (k : ℕ) (a b : ScriptData) → SameAt k a b → (n : NodeState) (client : ℕ) → node_waits a n client ≡ node_waits b n client
waits_same k a b h n client = sym (ap (λ (s : ScriptData). node_waits s n client) h.rest)

-- the same clients can act
acts_same : (k : ℕ) (a b : ScriptData) → SameAt k a b → (n : NodeState) (client : ℕ) → can_act (with_commands a b.commands) k n client ≡ can_act a k n client
acts_same k a b h n client = by_home (home a client == k) refl
  where
    acts : Bool → List Command → Bool
    acts here commands =
        nat_lt client (length a.clients)
        && (here && ((not (node_waits a n client) || withdraws_itself n client (slice_get commands (n.made client))) && nat_lt (n.made client) (length commands)))

    by_home : (here : Bool) → (home a client == k) ≡ here → can_act (with_commands a b.commands) k n client ≡ can_act a k n client
    by_home true e = ap (λ (commands : List Command). acts (home a client == k) commands) (h.own client (eqb-true (home a client) k e))
    by_home false e = rw e refl

-- the first one is the same
first_same : (k : ℕ) (a b : ScriptData) → SameAt k a b → (n : NodeState) → first_client (with_commands a b.commands) k n ≡ first_client a k n
first_same k a b h n =
    ap (λ (test : ℕ → Bool). least_below (length a.clients) test) (fun_ext (λ client. acts_same k a b h n client))

-- a command touches the same sets, whatever the other commands are
obeys_same : (a : ScriptData) (commands : List (ℕ × Command)) (n : NodeState) (client : ℕ) (o : Option Command)
    → leaves_room_to_obey (with_commands a commands) n client o ≡ leaves_room_to_obey a n client o
obeys_same a commands n client None = refl
obeys_same a commands n client (Some (Lock s mode)) = refl
obeys_same a commands n client (Some (Try s mode)) = refl
obeys_same a commands n client (Some (Unlock s mode)) = refl
obeys_same a commands n client (Some (Change s gives_up mode)) = refl
obeys_same a commands n client (Some (DropAll other s)) = refl
obeys_same a commands n client (Some (Withdraw other s)) = refl

-- there is room for the same command of a client of the node
room_same : (k : ℕ) (a b : ScriptData) → SameAt k a b → (n : NodeState) (client : ℕ) → home a client ≡ k
    → leaves_room_to_act (with_commands a b.commands) n client ≡ leaves_room_to_act a n client
room_same k a b h n client at =
    obeys_same a b.commands n client (slice_get (commands_of (with_commands a b.commands) client) (n.made client))
    ∙ ap (λ (commands : List Command). leaves_room_to_obey a n client (slice_get commands (n.made client))) (h.own client at)

-- so the node shows the same move
pub choice_same : (k : ℕ) (a b : ScriptData) → SameAt k a b → (n : NodeState) (hand : Option Hand) → choice_by a k n hand ≡ choice_by b k n hand
choice_same k a b h n hand = sym (ap (λ (s : ScriptData). choice_by s k n hand) h.rest ∙ by_hand hand)
  where
    by_client : (o : Option ℕ) → first_client a k n ≡ o → act_if (with_commands a b.commands) n o ≡ act_if a n o
    by_client None e = refl
    by_client (Some client) e =
        let at = (is_runnable a k n client (first_can a k n client e)).home in
        ap (λ (room : Bool). if has_time n && room then Act client else Nothing) (room_same k a b h n client at)

    acting : act_choice (with_commands a b.commands) k n ≡ act_choice a k n
    acting =
        ap (λ (o : Option ℕ). act_if (with_commands a b.commands) n o) (first_same k a b h n)
        ∙ by_client (first_client a k n) refl

    by_hand : (o : Option Hand) → choice_by (with_commands a b.commands) k n o ≡ choice_by a k n o
    by_hand None = acting
    by_hand (Some letter) = ap (λ (choice : Choice). if may_take a k n (letter_seen letter.letter) then Take else choice) acting
