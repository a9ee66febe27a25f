-- A move is made of small steps of the world, part by part.
use Rattle.std.proofs.Common.{◌≡◌, ℕ, ◌+◌, List, [], ◌∷◌, ◌++◌, map, Option, Some, None, Bool, true, false, sym, ap, ◌∙◌, append-nil, if◌then◌else◌, fold, filter_map, append_assoc}
use Rattle.std.proofs.Math.Path.{fun_ext}
use Rattle.std.proofs.lemmas.List.Elements.{filter_map-append}
use Rattle.lt_modes.specs.declared.stamp.Stamp.{Stamp}
use Rattle.lt_modes.specs.declared.command.Command.{Command}
use Rattle.lt_modes.specs.declared.command.Command.TheVariants.{Lock, Try, Unlock, Change, DropAll, Withdraw}
use Rattle.lt_modes.specs.declared.moves.Step.TheVariants.{Act, Take}
use Rattle.lt_modes.specs.Script.{ScriptData}
use Rattle.lt_modes.specs.State.{SetState, Letter, Made, joined, then_do}
use Rattle.lt_modes.specs.SetMove.{finish, locked, tried, unlocked, changed, drop, withdrawn}
use Rattle.lt_modes.specs.Taking.{arrive}
use Rattle.lt_lists.specs.Below.{put}
use Rattle.lt_spec.specs.NodeMove.{related, NodeState, NodeMade, no_move, node_waits, next_command, touched, each_touched, drop_all, act_stamp, take_stamp, at_clock, one_made, obey}
use Rattle.lt_spec.specs.World.{World, is_some_letter, opened, front_stamp, take_front, token_to, after_made}
use Rattle.lt_model.specs.Laws.{MovesInSteps, MovesAreParts, MovePart, part_on, applied, with_end, parts_of_command, parts_of_front}
use Rattle.lt_model.proofs.PathsMove.{has_mail_parts}
use Rattle.lt_model.proofs.PathsGoing.{sent-sent, sent-none}
use Rattle.lt_lists.proofs.Puts.{put-put, put-same}

pub moves_in_steps : MovesInSteps
moves_in_steps = record {
  world = λ w q first second. λ i. record {
    node = sym (put-put w.node q first.node second.node) i;
    mail = sym (sent-sent q first.posts second.posts w.mail) i;
    went = fun_ext (went_twice w first second) i;
  };
  set = λ n s first second.
      ap (λ (sets : ℕ → SetState). record (touched n s (joined first second)) { node = record n { set = sets } }) (sym (put-put n.set s first.state second.state));
}
  where
    went_twice : (w : World) (first second : NodeMade) (s : ℕ) → w.went s ++ filter_map (token_to s) (first.posts ++ second.posts)
        ≡ (w.went s ++ filter_map (token_to s) first.posts) ++ filter_map (token_to s) second.posts
    went_twice w first second s =
        ap (λ (l : List ℕ). w.went s ++ l) (filter_map-append (token_to s) first.posts second.posts)
        ∙ sym (append_assoc (w.went s) (filter_map (token_to s) first.posts) (filter_map (token_to s) second.posts))

-- the world with node q like this
abbrev at_node : ℕ → NodeState → World → World
at_node q n w = record w { node = put w.node q n }

nothing_made : (q : ℕ) (n : NodeState) (w : World) → after_made q (no_move n) w ≡ at_node q n w
nothing_made q n w = λ i. record {
  node = put w.node q n;
  mail = sym (sent-none q w.mail) i;
  went = fun_ext (λ s. append-nil (w.went s)) i;
}

-- what is made of a node forgets how the world had it
node_made : (q : ℕ) (n : NodeState) (made : NodeMade) (w : World) → after_made q made (at_node q n w) ≡ after_made q made w
node_made q n made w = λ i. record {
  node = put-put w.node q n made.node i;
  mail = (after_made q made w).mail;
  went = (after_made q made w).went;
}

made_node : (q : ℕ) (made : NodeMade) (w : World) → at_node q made.node (after_made q made w) ≡ after_made q made w
made_node q made w = λ i. record {
  node = put-put w.node q made.node made.node i;
  mail = (after_made q made w).mail;
  went = (after_made q made w).went;
}

-- a part that node q applies, where the world has the node like this
applied_at : (q : ℕ) (n : NodeState) (w : World) (part : MovePart) → w.node q ≡ n
    → applied q w part ≡ after_made q (touched n part.set (part.rule (n.set part.set))) w
applied_at q n w part e = ap (λ (k : NodeState). after_made q (touched k part.set (part.rule (k.set part.set))) w) e

-- the first part of a move
applied_first : (q : ℕ) (n : NodeState) (w : World) (part : MovePart)
    → applied q (at_node q n w) part ≡ after_made q (touched n part.set (part.rule (n.set part.set))) w
applied_first q n w part =
    applied_at q n (at_node q n w) part (put-same w.node q n) ∙ node_made q n (touched n part.set (part.rule (n.set part.set))) w

two_parts : (q s : ℕ) (stamp : Stamp) (rule : SetState → Made) (n : NodeState) (w : World)
    → after_made q (touched n s (then_do (rule (n.set s)) (finish s stamp))) w ≡ fold (applied q) (at_node q n w) (with_end s stamp rule)
two_parts q s stamp rule n w =
    ap (λ (made : NodeMade). after_made q made w) (moves_in_steps.set n s m (finish s stamp m.state))
    ∙ moves_in_steps.world w q made (touched made.node s (finish s stamp m.state))
    ∙ ap (λ (t : SetState). after_made q (touched made.node s (finish s stamp t)) (after_made q made w)) (sym (put-same n.set s m.state))
    ∙ sym (applied_at q made.node (after_made q made w) (part_on s (finish s stamp)) (put-same w.node q made.node))
    ∙ ap (λ (v : World). applied q v (part_on s (finish s stamp))) (sym (applied_first q n w (part_on s rule)))
  where
    m : Made
    m = rule (n.set s)

    made : NodeMade
    made = touched n s m

each_part : (q : ℕ) (rule : ℕ → SetState → Made) (sets : List ℕ) (n : NodeState) (w : World)
    → after_made q (each_touched rule sets n) w ≡ fold (applied q) (at_node q n w) (map (λ k. part_on k (rule k)) sets)
each_part q rule [] n w = nothing_made q n w
each_part q rule (s ∷ rest) n w =
    let made = touched n s (rule s (n.set s)) in
    moves_in_steps.world w q made (each_touched rule rest made.node)
    ∙ each_part q rule rest made.node (after_made q made w)
    ∙ ap (λ (v : World). fold (applied q) v (map (λ k. part_on k (rule k)) rest))
    (made_node q made w ∙ sym (applied_first q n w (part_on s (rule s))))

act_parts : (script : ScriptData) (q client : ℕ) (stamp : Stamp) (command : Option Command) (n : NodeState) (w : World)
    → after_made q (obey script stamp client command n) w ≡ fold (applied q) (at_node q n w) (parts_of_command script stamp client (node_waits script n) command)
act_parts script q client stamp None n w = nothing_made q n w
act_parts script q client stamp (Some (Lock s mode)) n w = two_parts q s stamp (locked s stamp client mode) n w
act_parts script q client stamp (Some (Try s mode)) n w = two_parts q s stamp (tried s stamp client mode) n w
act_parts script q client stamp (Some (Unlock s mode)) n w = two_parts q s stamp (unlocked s client mode) n w
act_parts script q client stamp (Some (Change s gives_up mode)) n w = two_parts q s stamp (changed s stamp client gives_up mode) n w
act_parts script q client stamp (Some (Withdraw other s)) n w = two_parts q s stamp (withdrawn s client other) n w
act_parts script q client stamp (Some (DropAll other s)) n w = by_test (node_waits script n other)
  where
    by_test : (waiting : Bool) → after_made q (drop_all waiting stamp client other s (related script s) n) w
        ≡ fold (applied q) (at_node q n w)
        (if waiting then map (λ k. part_on k (finish k stamp)) (related script s) else map (λ k. part_on k (drop k stamp other)) (related script s))
    by_test true = each_part q (λ k. finish k stamp) (related script s) n w
    by_test false = each_part q (λ k. drop k stamp other) (related script s) n w

pub moves_are_parts : MovesAreParts
moves_are_parts script w q (Act client) enabled =
    act_parts script q client (act_stamp q (w.node q)) (next_command script (w.node q) client) (one_made client (at_clock ((w.node q).clock + 1) (w.node q))) w
moves_are_parts script w q (Take p) enabled = by_letters (w.mail p q) (has_mail_parts script w p q enabled).letter
  where
    by_letters : (letters : List Letter) → is_some_letter letters ≡ true → after_made q (take_front q (w.node q) letters) (opened w q (Take p))
        ≡ fold (applied q) (record (opened w q (Take p)) { node = put w.node q (at_clock (front_stamp q (w.node q) letters).clock (w.node q)) })
        (parts_of_front q (w.node q) letters)
    by_letters [] e = cc
    by_letters (letter ∷ rest) e =
        let stamp = take_stamp q (w.node q) letter in
        two_parts q letter.set stamp (arrive stamp letter) (at_clock stamp.clock (w.node q)) (opened w q (Take p))
