-- Where no command gives up a wait no set is ever marked, and the lines are those of the older formats.
use Rattle.std.proofs.Common.{◌≡◌, ℕ, zero, suc, List, [], ◌∷◌, ◌++◌, length, Option, Some, None, Bool, true, false, refl, sym, ap, subst, ◌∙◌, ◌==◌, ◌+◌, ◌&&◌, not, nat_lt, if◌then◌else◌, inl, inr, take as take_first, filter_map, slice_get, eqb-true, All}
use Rattle.std.specs.List.{AllByRecursion, list_any}
use Rattle.std.proofs.lemmas.Bool.{cases_eq}
use Rattle.std.proofs.lemmas.List.Elements.{recursion_from_All, All-from_recursion}
use Rattle.lt_modes.specs.declared.mode.Mode.{Mode}
use Rattle.lt_modes.specs.declared.stamp.Stamp.{Stamp}
use Rattle.lt_modes.specs.declared.ask.Ask.{Ask}
use Rattle.lt_modes.specs.declared.parts.Link.{Link}
use Rattle.lt_modes.specs.declared.moves.Step.{Step}
use Rattle.lt_modes.specs.declared.moves.Step.TheVariants.{Act, Take}
use Rattle.lt_modes.specs.declared.command.Command.{Command}
use Rattle.lt_modes.specs.declared.command.Command.TheVariants.{Lock, Unlock, Try, Change, DropAll, Withdraw}
use Rattle.lt_modes.specs.declared.event.Event.{Event}
use Rattle.lt_modes.specs.declared.event.Event.TheVariants.{Freeze, Void, Try as TryLine, NotHeld, Unlock as Unlocked, Change as Changed}
use Rattle.lt_modes.specs.Modes.{Modes, excludes_itself, held_modes, count_of, take_lock}
use Rattle.lt_modes.specs.Script.{ScriptData}
use Rattle.lt_modes.specs.State.{SetState, Desk, Body, AskBody, TellBody, CopyBody, TokenBody, FreezeBody, Letter, Parked, ParkedAsk, ParkedTell, Made, then_do, silent}
use Rattle.lt_modes.specs.Serving.{answer_event, answer_by, ask_at, serve_one, serve_local, serve_copy, is_gone, without_gone as left_gone}
use Rattle.lt_modes.specs.HandingOver.{hand_over_to}
use Rattle.lt_modes.specs.Freezing.{freeze, freeze_at, frozen_by, targets, number_after}
use Rattle.lt_modes.specs.Granting.{can_grant}
use Rattle.lt_modes.specs.SetMove.{finish, ask_of, asked, asked_or_not, retaken, answers, given, granted, locked, tried, unlocked, changed, change_held, lock, try, unlock, change, dropped, drop}
use Rattle.lt_modes.specs.Routing.{Way, Parks, Goes, learn, reversed, sent_on, route}
use Rattle.lt_modes.specs.Telling.{tell_of}
use Rattle.lt_modes.specs.Taking.{take_body, take_freeze, arrive, take}
use Rattle.lt_lists.proofs.AllLemmas.{all_append, all_any, all_map}
use Rattle.lt_lists.specs.Below.{put}
use Rattle.lt_lists.proofs.Puts.{put-same, put-other}
use Rattle.lt_spec.specs.NodeMove.{command_if, commands_of, related, NodeState, NodeMade, node_waits, next_command, touched, each_touched, drop_all, act_stamp, take_stamp, at_clock, one_made, obey, node_act}
use Rattle.lt_spec.specs.World.{Logged, World, start, opened, take_front, node_move, after, after_run, IsRunFrom, IsUnmarked}
use Rattle.lt_model.proofs.Effects.{route_ways}
use Rattle.lt_model.proofs.ClocksGrow.{opened-node}
use Rattle.lt_model.proofs.TryEffects.{Between, EndRules, finish_rule}
use Rattle.lt_law_own_lines.specs.OldLaws.{IsOldCommand, IsOldLine, IsOldScript, UnmarkedInRuns, OldLinesInRuns}

abbrev pub AreOldLines : List Event → Type 0
AreOldLines lines = AllByRecursion IsOldLine lines

abbrev pub unmarked : SetState → Type 0
unmarked t = t.gone ≡ []

abbrev pub IsOldMade : Made → Type 0
IsOldMade m = unmarked m.state × AreOldLines m.events

-- a set without a mark stays so, and the lines are of the older formats
abbrev pub old_lines : Between
old_lines t m = unmarked t → IsOldMade m

joined_old : (t : SetState) (m : Made) (rule : SetState → Made) → old_lines t m → old_lines m.state (rule m.state) → old_lines t (then_do m rule)
joined_old t m rule first second h =
    let one = first h in
    let two = second one.0 in
    (two.0, all_append IsOldLine m.events (rule m.state).events one.1 two.1)

live : (t : SetState) (client : ℕ) → unmarked t → is_gone t client ≡ false
live t client h = ap (λ (g : List ℕ). list_any (λ other. other == client) g) h

left_unmarked : (t : SetState) (client : ℕ) → unmarked t → left_gone t.gone client ≡ []
left_unmarked t client h = ap (λ (g : List ℕ). left_gone g client) h

answer_old : (set : ℕ) (ask : Ask) (gives_up : Option Mode) → IsOldLine (answer_by set ask gives_up)
answer_old set ask None = tt
answer_old set ask (Some mode) = tt

end_old : (set : ℕ) (ask : Ask) (gone : Bool) → gone ≡ false → IsOldLine (if gone then Void ask.client set ask.mode else answer_event set ask)
end_old set ask true e = cc
end_old set ask false e = answer_old set ask ask.gives_up

reversed_old : (me : ℕ) (item : Parked) (t : SetState) → unmarked t → unmarked (reversed me item t)
reversed_old me (ParkedTell tell) t h = h
reversed_old me (ParkedAsk ask) t h = by_test (excludes_itself ask.mode && not (ask.node == me))
  where
    by_test : (away : Bool) → unmarked (if away then record t { hoped = Some (record { node = ask.node; stamp = ask.stamp }) } else t)
    by_test true = h
    by_test false = h

route_old : (set : ℕ) (stamp : Stamp) (marked : Bool) (item : Parked) (t : SetState) → old_lines t (route set stamp marked item t)
route_old set stamp marked item t h = route_ways IsOldMade set stamp marked item t (λ desk e. (h, tt)) (λ away w e. goes w)
  where
    goes : (w : Way) → IsOldMade (sent_on set stamp item t w)
    goes Parks = (h, tt)
    goes (Goes to mark) = (reversed_old stamp.node item t h, tt)

serves_old : (set : ℕ) (stamp : Stamp) (t : SetState) (k : ℕ) → old_lines t (serve_one set stamp k t)
serves_old set stamp t k h = by_test ((ask_at t k).node == stamp.node)
  where
    by_test : (here : Bool) → IsOldMade (if here then serve_local set k t else serve_copy set stamp k (ask_at t k) t)
    by_test true = (
      left_unmarked t (ask_at t k).client h,
      (end_old set (ask_at t k) (is_gone t (ask_at t k).client) (live t (ask_at t k).client h), tt),
    )
    by_test false = (h, (tt, tt))

freezes_old : (set : ℕ) (stamp : Stamp) (t : SetState) → old_lines t (freeze set stamp t)
freezes_old set stamp t h = by_desk t.desk
  where
    by_desk : (desk : Option Desk) → IsOldMade (freeze_at set stamp t desk)
    by_desk None = (h, tt)
    by_desk (Some desk) =
        let told = targets stamp.node (frozen_by desk.queue) desk in
        (h, all_map IsOldLine (λ x. Freeze set x (number_after told desk.number) (frozen_by desk.queue)) told (all_any _ (λ x. tt) told))

leaves_old : (set : ℕ) (stamp : Stamp) (t : SetState) (v : ℕ) → old_lines t (hand_over_to set stamp t v t.desk)
leaves_old set stamp t v h = by_desk t.desk
  where
    by_desk : (desk : Option Desk) → IsOldMade (hand_over_to set stamp t v desk)
    by_desk None = (h, tt)
    by_desk (Some desk) = (h, (tt, tt))

old_ends : (set : ℕ) (stamp : Stamp) → EndRules set stamp old_lines
old_ends set stamp = record {
  silent = λ t h. (h, tt);
  joined = joined_old;
  serves = λ t k within. serves_old set stamp t k;
  freezes = freezes_old set stamp;
  leaves = leaves_old set stamp;
  tells = λ t h. route_old set stamp false (ParkedTell (tell_of stamp t)) (record t { charge = held_modes t.held }) h;
}

finish_old : (set : ℕ) (stamp : Stamp) (t : SetState) → old_lines t (finish set stamp t)
finish_old set stamp t = finish_rule set stamp old_lines (old_ends set stamp) t

-- Commands of the older formats.

asked_old : (set : ℕ) (stamp : Stamp) (ask : Ask) (t : SetState) → old_lines t (asked_or_not set stamp ask t)
asked_old set stamp ask t h = by_gone (is_gone t ask.client) (live t ask.client h)
  where
    by_gone : (gone : Bool) → gone ≡ false → IsOldMade (if gone then retaken set ask t else asked set stamp ask t)
    by_gone true e = cc
    by_gone false e =
        let out = route_old set stamp false (ParkedAsk ask) (record t { pending = t.pending ++ ask ∷ [] }) h in (out.0, (tt, out.1))

lock_old : (set : ℕ) (stamp : Stamp) (client : ℕ) (mode : Mode) (t : SetState) → old_lines t (lock set stamp client mode t)
lock_old set stamp client mode t =
    joined_old t (locked set stamp client mode t) (finish set stamp) (by_test (can_grant stamp.node t client mode))
    (finish_old set stamp (locked set stamp client mode t).state)
  where
    by_test : (can : Bool) → unmarked t
        → IsOldMade (if can then granted set client mode t else asked_or_not set stamp (ask_of stamp client mode None t) t)
    by_test true h = (h, (tt, tt))
    by_test false h = asked_old set stamp (ask_of stamp client mode None t) t h

try_old : (set : ℕ) (stamp : Stamp) (client : ℕ) (mode : Mode) (t : SetState) → old_lines t (try set stamp client mode t)
try_old set stamp client mode t =
    joined_old t (tried set stamp client mode t) (finish set stamp) (by_test (can_grant stamp.node t client mode))
    (finish_old set stamp (tried set stamp client mode t).state)
  where
    by_test : (can : Bool) → unmarked t
        → IsOldMade (if can then answers (TryLine client set mode true) (given client mode None t) else answers (TryLine client set mode false) t)
    by_test true h = (h, (tt, tt))
    by_test false h = (h, (tt, tt))

unlock_old : (set : ℕ) (stamp : Stamp) (client : ℕ) (mode : Mode) (t : SetState) → old_lines t (unlock set stamp client mode t)
unlock_old set stamp client mode t =
    joined_old t (unlocked set client mode t) (finish set stamp) (by_test (count_of t.held client mode == 0))
    (finish_old set stamp (unlocked set client mode t).state)
  where
    by_test : (none : Bool) → unmarked t → IsOldMade (if none then answers (NotHeld client set mode) t
        else answers (Unlocked client set mode) (record t { held = take_lock t.held client mode }))
    by_test true h = (h, (tt, tt))
    by_test false h = (h, (tt, tt))

change_old : (set : ℕ) (stamp : Stamp) (client : ℕ) (gives_up mode : Mode) (t : SetState) → old_lines t (change set stamp client gives_up mode t)
change_old set stamp client gives_up mode t =
    joined_old t (changed set stamp client gives_up mode t) (finish set stamp)
    (by_count (count_of t.held client gives_up == 0) (by_test (can_grant stamp.node t client mode)))
    (finish_old set stamp (changed set stamp client gives_up mode t).state)
  where
    by_test : (can : Bool) → unmarked t → IsOldMade (if can then answers (Changed client set gives_up mode) (given client mode (Some gives_up) t)
        else asked_or_not set stamp (ask_of stamp client mode (Some gives_up) t) t)
    by_test true h = (h, (tt, tt))
    by_test false h = asked_old set stamp (ask_of stamp client mode (Some gives_up) t) t h

    by_count : (none : Bool) → (unmarked t → IsOldMade (change_held set stamp client gives_up mode t)) → unmarked t
        → IsOldMade (if none then answers (NotHeld client set gives_up) t else change_held set stamp client gives_up mode t)
    by_count true held h = (h, (tt, tt))
    by_count false held h = held h

drop_old : (set : ℕ) (stamp : Stamp) (other : ℕ) (t : SetState) → old_lines t (drop set stamp other t)
drop_old set stamp other t h = finish_old set stamp (dropped other t) h

-- Letters.

learned_old : (link : Link) (t : SetState) → unmarked t → unmarked (learn link t)
learned_old link t h = by_test (nat_lt t.firm.epoch link.epoch)
  where
    by_test : (later : Bool) → unmarked (if later then record t { firm = link; hoped = None } else t)
    by_test true = h
    by_test false = h

frozen_old : (number : ℕ) (frozen : Modes) (t : SetState) → unmarked t → unmarked (take_freeze number frozen t)
frozen_old number frozen t h = by_test (nat_lt t.number number)
  where
    by_test : (later : Bool) → unmarked (if later then record t { frozen = frozen; number = number } else t)
    by_test true = h
    by_test false = h

take_old : (stamp : Stamp) (letter : Letter) (t : SetState) → old_lines t (take stamp letter t)
take_old stamp letter t =
    joined_old t (arrive stamp letter t) (finish letter.set stamp) (λ h. by_body letter.body (learn letter.link t) (learned_old letter.link t h))
    (finish_old letter.set stamp (arrive stamp letter t).state)
  where
    by_body : (body : Body) (u : SetState) → unmarked u → IsOldMade (take_body letter.set stamp body u)
    by_body (AskBody ask marked) u h = route_old letter.set stamp marked (ParkedAsk ask) u h
    by_body (TellBody tell) u h = route_old letter.set stamp false (ParkedTell tell) u h
    by_body (CopyBody ask) u h = (left_unmarked u ask.client h, (end_old letter.set ask (is_gone u ask.client) (live u ask.client h), tt))
    by_body (TokenBody desk) u h = (h, tt)
    by_body (FreezeBody number modes) u h = (frozen_old number modes u h, tt)

-- Moves of a node.

abbrev pub IsNodeUnmarked : NodeState → Type 0
IsNodeUnmarked n = (s : ℕ) → unmarked (n.set s)

abbrev pub IsOldMove : NodeMade → Type 0
IsOldMove made = IsNodeUnmarked made.node × AreOldLines made.events

touched_old : (set : ℕ) (n : NodeState) (m : Made) → IsNodeUnmarked n → IsOldMade m → IsOldMove (touched n set m)
touched_old set n m h made = (each, made.1)
  where
    each : (s : ℕ) → unmarked (put n.set set m.state s)
    each s = elim (cases_eq s set) [
      | inl e ↦ subst (λ (k : ℕ). unmarked (put n.set set m.state k)) (sym e) (subst unmarked (sym (put-same n.set set m.state)) made.0)
      | inr d ↦ subst unmarked (sym (put-other n.set set m.state s d)) (h s)
    ]

each_old : (rule : ℕ → SetState → Made) → ((set : ℕ) (t : SetState) → old_lines t (rule set t)) → (sets : List ℕ) (n : NodeState) → IsNodeUnmarked n
    → IsOldMove (each_touched rule sets n)
each_old rule leads [] n h = (h, tt)
each_old rule leads (set ∷ rest) n h =
    let m = rule set (n.set set) in
    let first = touched_old set n m h (leads set (n.set set) (h set)) in
    let later = each_old rule leads rest (touched n set m).node first.0 in
    (later.0, all_append IsOldLine m.events (each_touched rule rest (touched n set m).node).events first.1 later.1)

drops_old : (stamp : Stamp) (client other s : ℕ) (sets : List ℕ) (n : NodeState) (waiting : Bool) → IsNodeUnmarked n
    → IsOldMove (drop_all waiting stamp client other s sets n)
drops_old stamp client other s sets n true h =
    let made = each_old (λ k. finish k stamp) (λ k t. finish_old k stamp t) sets n h in (made.0, (tt, made.1))
drops_old stamp client other s sets n false h =
    let made = each_old (λ k. drop k stamp other) (λ k t. drop_old k stamp other t) sets n h in (made.0, (tt, made.1))

obey_old : (script : ScriptData) (stamp : Stamp) (client : ℕ) (command : Command) (n : NodeState) → IsOldCommand command → IsNodeUnmarked n
    → IsOldMove (obey script stamp client (Some command) n)
obey_old script stamp client (Lock s mode) n old h = touched_old s n (lock s stamp client mode (n.set s)) h (lock_old s stamp client mode (n.set s) (h s))
obey_old script stamp client (Try s mode) n old h = touched_old s n (try s stamp client mode (n.set s)) h (try_old s stamp client mode (n.set s) (h s))
obey_old script stamp client (Unlock s mode) n old h = touched_old s n (unlock s stamp client mode (n.set s)) h (unlock_old s stamp client mode (n.set s) (h s))
obey_old script stamp client (Change s gives_up mode) n old h = touched_old s n (change s stamp client gives_up mode (n.set s)) h
    (change_old s stamp client gives_up mode (n.set s) (h s))
obey_old script stamp client (DropAll other s) n old h = drops_old stamp client other s (related script s) n (node_waits script n other) h
obey_old script stamp client (Withdraw other s) n old h = absurd old

chosen_old : (client : ℕ) (requests : List (ℕ × Command)) → AllByRecursion (λ (request : ℕ × Command). IsOldCommand request.1) requests
    → AllByRecursion IsOldCommand (filter_map (command_if client) requests)
chosen_old client [] h = tt
chosen_old client (request ∷ rest) h = by_test (request.0 == client) refl (chosen_old client rest h.1)
  where
    by_test : (own : Bool) → (request.0 == client) ≡ own → AllByRecursion IsOldCommand (filter_map (command_if client) rest)
        → AllByRecursion IsOldCommand (filter_map (command_if client) (request ∷ rest))
    by_test true e later = rw e (h.0, later)
    by_test false e later = rw e later

at_place : (commands : List Command) (k : ℕ) (command : Command) → AllByRecursion IsOldCommand commands → slice_get commands k ≡ Some command → IsOldCommand command
at_place [] k command h e = cc
at_place (c ∷ rest) zero command h e = subst IsOldCommand (same e) h.0
  where
    same : Some c ≡ Some command → c ≡ command
    same f = cc
at_place (c ∷ rest) (suc k) command h e = at_place rest k command h.1 e

act_old : (script : ScriptData) (q client : ℕ) (n : NodeState) → IsOldScript script → IsNodeUnmarked n → IsOldMove (node_act script q client n)
act_old script q client n old h = by_command (next_command script n client) refl
  where
    by_command : (command : Option Command) → next_command script n client ≡ command
        → IsOldMove (obey script (act_stamp q n) client command (one_made client (at_clock (n.clock + 1) n)))
    by_command None e = (h, tt)
    by_command (Some command) e =
        obey_old script (act_stamp q n) client command (one_made client (at_clock (n.clock + 1) n))
        (at_place (commands_of script client) (n.made client) command
        (chosen_old client script.commands (recursion_from_All _ script.commands old)) e) h

move_old : (script : ScriptData) (w : World) → IsOldScript script → IsUnmarked w → (q : ℕ) (step : Step) → IsOldMove (node_move script w q step)
move_old script w old h q (Act client) = act_old script q client (w.node q) old (h q)
move_old script w old h q (Take p) = by_letters (w.mail p q)
  where
    by_letters : (letters : List Letter) → IsOldMove (take_front q (w.node q) letters)
    by_letters [] = (h q, tt)
    by_letters (letter ∷ rest) =
        let stamp = take_stamp q (w.node q) letter in
        touched_old letter.set (at_clock stamp.clock (w.node q)) (take stamp letter ((w.node q).set letter.set)) (h q)
        (take_old stamp letter ((w.node q).set letter.set) (h q letter.set))

-- Runs.

after_old : (script : ScriptData) (w : World) → IsOldScript script → IsUnmarked w → (q : ℕ) (step : Step) → IsUnmarked (after script w q step)
after_old script w old h q step x = elim (cases_eq x q) [
  | inl e ↦ subst (λ (y : ℕ). IsNodeUnmarked ((after script w q step).node y)) (sym e)
      (subst IsNodeUnmarked (sym (put-same (opened w q step).node q (node_move script w q step).node)) (move_old script w old h q step).0)
  | inr d ↦ subst IsNodeUnmarked (sym (put-other (opened w q step).node q (node_move script w q step).node x d ∙ opened-node w q step x)) (h x)
]

run_unmarked : (script : ScriptData) (run : List Logged) (w : World) → IsOldScript script → IsUnmarked w → (k : ℕ)
    → IsUnmarked (after_run script w (take_first k run))
run_unmarked script run w old h zero = h
run_unmarked script [] w old h (suc k) = h
run_unmarked script (entry ∷ rest) w old h (suc k) =
    let q = entry.made.stamp.node in
    let step = entry.made.step in
    run_unmarked script rest (after script w q step) old (after_old script w old h q step) k

pub unmarked_in_runs : UnmarkedInRuns
unmarked_in_runs script run old is_run k = run_unmarked script run (start script) old (λ q s. refl) k

lines_from : (script : ScriptData) (run : List Logged) (w : World) → IsOldScript script → IsUnmarked w → IsRunFrom script w run
    → AllByRecursion (λ (entry : Logged). AreOldLines entry.events) run
lines_from script [] w old h is_run = tt
lines_from script (entry ∷ rest) w old h is_run =
    let q = entry.made.stamp.node in
    let step = entry.made.step in (
      subst AreOldLines (sym (ap (λ (e : Logged). e.events) is_run.0.made)) (move_old script w old h q step).1,
      lines_from script rest (after script w q step) old (after_old script w old h q step) is_run.1,
    )

pub old_lines_in_runs : OldLinesInRuns
old_lines_in_runs script run old is_run =
    All-from_recursion (λ (entry : Logged). AreOldLines entry.events) run (lines_from script run (start script) old (λ q s. refl) is_run)
