-- An ask that leaves a queue by being served conflicts with no ask that stands before it.
use Rattle.std.proofs.Common.{◌≡◌, ◌≢◌, ℕ, zero, suc, ◌+◌, ◌<◌, inl, inr, List, [], ◌∷◌, ◌++◌, length, Option, Some, None, Bool, true, false, refl, sym, ap, subst, arith, take, ◌∙◌, ◌⊎◌, ◌||◌, not, if◌then◌else◌, All, Contains, IsTrue, IsFalse, slice_index_or, ◌==◌, ◌&&◌}
use Rattle.std.specs.List.{AllByRecursion}
use Rattle.std.proofs.lemmas.Bool.{and_parts}
use Rattle.std.proofs.lemmas.List.Elements.{All-nil, All-cons}
use Rattle.lt_modes.specs.declared.mode.Mode.{Mode}
use Rattle.lt_modes.specs.declared.stamp.Stamp.{Stamp}
use Rattle.lt_modes.specs.declared.ask.Ask.{Ask}
use Rattle.lt_modes.specs.declared.command.Command.{Command}
use Rattle.lt_modes.specs.declared.command.Command.TheVariants.{Lock, Unlock, Try, Change, DropAll, Withdraw}
use Rattle.lt_modes.specs.declared.event.Event.{Event}
use Rattle.lt_modes.specs.declared.moves.Step.{Step}
use Rattle.lt_modes.specs.declared.moves.Step.TheVariants.{Act, Take}
use Rattle.lt_modes.specs.Modes.{Modes, conflicts, has, no_modes, union, bars, with_mode}
use Rattle.lt_modes.specs.Script.{ScriptData}
use Rattle.lt_modes.specs.State.{SetState, Desk, Letter, Made, no_ask, others}
use Rattle.lt_modes.specs.Serving.{queue_of, queue_of_desk, is_free, is_local, is_copy, is_served, next_from, next_at, next_service, serve_one, serve_up_to, serve_step, is_gone, is_void, is_ready}
use Rattle.lt_modes.specs.SetMove.{dropped, lock, try, unlock, change, drop, finish, withdraw}
use Rattle.lt_modes.specs.Taking.{take as take_letter, arrive}
use Rattle.lt_modes.proofs.ModeAlgebra.{bars_by_table}
use Rattle.lt_lists.specs.Below.{put}
use Rattle.lt_lists.proofs.Puts.{put-same, put-other}
use Rattle.lt_lists.proofs.Members.{contains_cases}
use Rattle.lt_law_accounts.proofs.AccountFacts.{has-kept, has-added, has-right}
use Rattle.lt_spec.specs.NodeMove.{related, NodeState, node_waits, next_command, act_stamp, take_stamp, at_clock, one_made, touched, each_touched, drop_all, obey}
use Rattle.lt_spec.specs.World.{World, front_stamp, move_stamp, opened, take_front, node_move, after, world_after}
use Rattle.lt_spec.specs.Promised.{sets_of_step, sets_of_command, sets_of_front, services_up_to, services_then, lines_of_services, made_by_command, made_by_front, before_end, IsInTurn, ServesInTurn, LinesOfServices, ServedInTurn}
use Rattle.lt_model.proofs.NodeEffects.{IsOnce, once_or_aside}

not_false : (t : Bool) → not t ≡ true → t ≡ false
not_false true e = cc
not_false false e = refl

-- the ask conflicts with no mode that stands before it
free_of : (me : ℕ) (s : SetState) (desk : Desk) (before : Modes) (ask : Ask) → is_gone s ask.client ≡ false → is_served me s desk before ask ≡ true → (other : Mode)
    → IsTrue (has other before) → IsFalse (conflicts ask.mode other)
free_of me s desk before ask live e other member = by_test (conflicts ask.mode other) refl
  where
    no_void : (own gone : Bool) → gone ≡ false → (own && gone) ≡ false
    no_void true gone f = f
    no_void false gone f = refl

    second : (first rest : Bool) → first ≡ false → (first || rest) ≡ true → rest ≡ true
    second true rest f g = cc
    second false rest f g = g

    ready : is_ready me s desk before ask ≡ true
    ready = second (is_void me s ask) (is_ready me s desk before ask) (no_void (ask.node == me) (is_gone s ask.client) live) e

    free : has ask.mode (bars (union (others me s desk ask.node) before)) ≡ false
    free =
        not_false (has ask.mode (bars (union (others me s desk ask.node) before)))
        (and_parts (is_free me s desk before ask) (is_local me s desk ask || is_copy me s desk ask) ready).0

    by_test : (t : Bool) → conflicts ask.mode other ≡ t → t ≡ false
    by_test false f = refl
    by_test true f =
        let barred = (bars_by_table (union (others me s desk ask.node) before) ask.mode).1 (other, f, has-right other (others me s desk ask.node) before member) in
        let no : true ≡ false = sym barred ∙ free in
        cc

-- the ask that is next conflicts neither with a mode from before these asks, nor with one of them that stands before it
next_in_turn : (me : ℕ) (s : SetState) (desk : Desk) (before : Modes) (first : ℕ) (queue : List Ask) (k : ℕ) → next_from me s desk before first queue ≡ Some k
    → (i : ℕ) × (k ≡ first + i)
    × (is_gone s (slice_index_or queue i no_ask).client ≡ false → (other : Mode) → IsTrue (has other before) → IsFalse (conflicts (slice_index_or queue i no_ask).mode other))
    × (is_gone s (slice_index_or queue i no_ask).client ≡ false → (j : ℕ) → j < i → IsFalse (conflicts (slice_index_or queue i no_ask).mode (slice_index_or queue j no_ask).mode))
next_in_turn me s desk before first [] k e = cc
next_in_turn me s desk before first (ask ∷ rest) k e =
    by_test (is_served me s desk before ask) refl e (λ f. next_in_turn me s desk (with_mode before ask.mode) (first + 1) rest k f)
  where
    by_test : (now : Bool) → is_served me s desk before ask ≡ now
        → (if now then Some first else next_from me s desk (with_mode before ask.mode) (first + 1) rest) ≡ Some k
        → (next_from me s desk (with_mode before ask.mode) (first + 1) rest ≡ Some k
        → (i : ℕ) × (k ≡ first + 1 + i) × (is_gone s (slice_index_or rest i no_ask).client ≡ false → (other : Mode) → IsTrue (has other (with_mode before ask.mode)) → IsFalse
        (conflicts (slice_index_or rest i no_ask).mode other))
        × (is_gone s (slice_index_or rest i no_ask).client ≡ false → (j : ℕ) → j < i → IsFalse (conflicts (slice_index_or rest i no_ask).mode (slice_index_or rest j no_ask).mode)))
        → (i : ℕ) × (k ≡ first + i)
        × (is_gone s (slice_index_or (ask ∷ rest) i no_ask).client ≡ false → (other : Mode) → IsTrue (has other before) → IsFalse (conflicts (slice_index_or (ask ∷ rest) i no_ask).mode other))
        × (is_gone s (slice_index_or (ask ∷ rest) i no_ask).client ≡ false → (j : ℕ) → j < i → IsFalse (conflicts (slice_index_or (ask ∷ rest) i no_ask).mode (slice_index_or (ask ∷ rest) j no_ask).mode))
    by_test true test f again = let same : first ≡ k = cc in (0, omega (arith, same), λ live. free_of me s desk before ask live test, λ live j none. absurd (omega (arith, none)))
    by_test false test f again =
        let found = again f in
        (suc found.0, omega (arith, found.1), λ live other member. found.2 live other (has-kept other ask.mode before member), λ live. behind found.0 (found.2 live) (found.3 live))
      where
        behind : (i : ℕ) → ((other : Mode) → IsTrue (has other (with_mode before ask.mode)) → IsFalse (conflicts (slice_index_or rest i no_ask).mode other))
            → ((j : ℕ) → j < i → IsFalse (conflicts (slice_index_or rest i no_ask).mode (slice_index_or rest j no_ask).mode))
            → (j : ℕ) → j < suc i → IsFalse (conflicts (slice_index_or rest i no_ask).mode (slice_index_or (ask ∷ rest) j no_ask).mode)
        behind i clear more zero before_it = clear ask.mode (has-added ask.mode before)
        behind i clear more (suc j) before_it = more j (omega (arith, before_it))

pub service_in_turn : (me k : ℕ) (s : SetState) → next_service me s ≡ Some k → IsInTurn (record { state = s; place = k })
service_in_turn me k s e = by_desk s.desk refl e
  where
    by_desk : (o : Option Desk) → s.desk ≡ o → next_at me s o ≡ Some k → IsInTurn (record { state = s; place = k })
    by_desk None here f = cc
    by_desk (Some desk) here f =
        let found = next_in_turn me s desk no_modes 0 desk.queue k f in
        let queue : queue_of s ≡ desk.queue = ap queue_of_desk here in
        let place : found.0 ≡ k = omega (arith, found.1) in
        λ j before_it live. subst (λ (l : List Ask). IsFalse (conflicts (slice_index_or l k no_ask).mode (slice_index_or l j no_ask).mode)) (sym queue)
        (subst (λ (i : ℕ). IsFalse (conflicts (slice_index_or desk.queue i no_ask).mode (slice_index_or desk.queue j no_ask).mode)) place
        (found.3 (ap (λ (i : ℕ). is_gone s (slice_index_or desk.queue i no_ask).client) place ∙ (ap (λ (l : List Ask). is_gone s (slice_index_or l k no_ask).client) (sym queue) ∙ live))
        j (omega (arith, before_it, place))))

services_in_turn : (n set : ℕ) (stamp : Stamp) (s : SetState) → All IsInTurn (services_up_to n set stamp s)
services_in_turn zero set stamp s = All-nil IsInTurn
services_in_turn (suc n) set stamp s = by_next (next_service stamp.node s) refl (λ t. services_in_turn n set stamp t)
  where
    by_next : (o : Option ℕ) → next_service stamp.node s ≡ o → ((t : SetState) → All IsInTurn (services_up_to n set stamp t))
        → All IsInTurn (services_then (services_up_to n set stamp) set stamp s o)
    by_next None e again = All-nil IsInTurn
    by_next (Some k) e again =
        All-cons IsInTurn (record { state = s; place = k }) (services_up_to n set stamp (serve_one set stamp k s).state) (service_in_turn stamp.node k s e)
        (again (serve_one set stamp k s).state)

lines_up_to : (n set : ℕ) (stamp : Stamp) (s : SetState) → (serve_up_to n set stamp s).events ≡ lines_of_services set stamp (services_up_to n set stamp s)
lines_up_to zero set stamp s = refl
lines_up_to (suc n) set stamp s = by_next (next_service stamp.node s) (λ t. lines_up_to n set stamp t)
  where
    by_next : (o : Option ℕ) → ((t : SetState) → (serve_up_to n set stamp t).events ≡ lines_of_services set stamp (services_up_to n set stamp t))
        → (serve_step set stamp (serve_up_to n set stamp) s o).events ≡ lines_of_services set stamp (services_then (services_up_to n set stamp) set stamp s o)
    by_next None again = refl
    by_next (Some k) again = ap (λ (l : List Event). (serve_one set stamp k s).events ++ l) (again (serve_one set stamp k s).state)

pub lines_are_of_services : LinesOfServices
lines_are_of_services set stamp s = lines_up_to (length (queue_of s)) set stamp s

-- the state of a set that is among these once, after the rule on each of them
each_at : (s : ℕ) (rule : ℕ → SetState → Made) (sets : List ℕ) (n : NodeState) → IsOnce s sets → (each_touched rule sets n).node.set s ≡ (rule s (n.set s)).state
each_at s rule [] n once = absurd once
each_at s rule (set ∷ rest) n (inl own) =
    aside rest own.1 (touched n set (rule set (n.set set))).node
    ∙ ap (λ (k : ℕ). put n.set k (rule k (n.set k)).state s) own.0 ∙ put-same n.set s (rule s (n.set s)).state
  where
    aside : (sets : List ℕ) → AllByRecursion (λ k. k ≢ s) sets → (m : NodeState) → (each_touched rule sets m).node.set s ≡ m.set s
    aside [] others m = refl
    aside (k ∷ more) others m = aside more others.1 (touched m k (rule k (m.set k))).node ∙ put-other m.set k (rule k (m.set k)).state s (λ e. others.0 (sym e))
each_at s rule (set ∷ rest) n (inr later) =
    let next = (touched n set (rule set (n.set set))).node in
    each_at s rule rest next later.1 ∙ ap (λ (t : SetState). (rule s t).state) (put-other n.set set (rule set (n.set set)).state s (λ e. later.0 (sym e)))

aside_not : {A : Type 0} (s : ℕ) (sets : List ℕ) → AllByRecursion (λ k. k ≢ s) sets → Contains sets s → A
aside_not s [] aside there = absurd (omega (arith, there.1))
aside_not s (set ∷ rest) aside there = elim (contains_cases set s rest there) [
  | inl same ↦ absurd (aside.0 same)
  | inr later ↦ aside_not s rest aside.1 later
]

own_set : (set s : ℕ) → Contains (set ∷ []) s → set ≡ s
own_set set s there = elim (contains_cases set s [] there) [
  | inl same ↦ same
  | inr none ↦ absurd (omega (arith, none.1))
]

obey_ends : (script : ScriptData) (stamp : Stamp) (client s : ℕ) (command : Option Command) (n : NodeState) → Contains (sets_of_command script command) s
    → (obey script stamp client command n).node.set s ≡ (finish s stamp (made_by_command script stamp client command n s)).state
obey_ends script stamp client s None n there = absurd (omega (arith, there.1))
obey_ends script stamp client s (Some (Lock set mode)) n there =
    ap (λ (k : ℕ). put n.set k (lock k stamp client mode (n.set k)).state s) (own_set set s there) ∙ put-same n.set s (lock s stamp client mode (n.set s)).state
obey_ends script stamp client s (Some (Try set mode)) n there =
    ap (λ (k : ℕ). put n.set k (try k stamp client mode (n.set k)).state s) (own_set set s there) ∙ put-same n.set s (try s stamp client mode (n.set s)).state
obey_ends script stamp client s (Some (Unlock set mode)) n there =
    ap (λ (k : ℕ). put n.set k (unlock k stamp client mode (n.set k)).state s) (own_set set s there) ∙ put-same n.set s (unlock s stamp client mode (n.set s)).state
obey_ends script stamp client s (Some (Change set gives_up mode)) n there =
    ap (λ (k : ℕ). put n.set k (change k stamp client gives_up mode (n.set k)).state s) (own_set set s there) ∙ put-same n.set s
    (change s stamp client gives_up mode (n.set s)).state
obey_ends script stamp client s (Some (Withdraw other set)) n there =
    ap (λ (k : ℕ). put n.set k (withdraw k stamp client other (n.set k)).state s) (own_set set s there) ∙ put-same n.set s (withdraw s stamp client other (n.set s)).state
obey_ends script stamp client s (Some (DropAll other set)) n there = by_once (once_or_aside script s (Some (DropAll other set)))
  where
    by_waits : IsOnce s (related script set) → (waiting : Bool)
        → (drop_all waiting stamp client other set (related script set) n).node.set s ≡ (finish s stamp (if waiting then n.set s else dropped other (n.set s))).state
    by_waits once true = each_at s (λ k. finish k stamp) (related script set) n once
    by_waits once false = each_at s (λ k. drop k stamp other) (related script set) n once

    by_once : IsOnce s (related script set) ⊎ AllByRecursion (λ k. k ≢ s) (related script set)
        → (drop_all (node_waits script n other) stamp client other set (related script set) n).node.set s
        ≡ (finish s stamp (if node_waits script n other then n.set s else dropped other (n.set s))).state
    by_once (inl once) = by_waits once (node_waits script n other)
    by_once (inr aside) = aside_not s (related script set) aside there

move_ends : (script : ScriptData) (w : World) (q : ℕ) (step : Step) (s : ℕ) → Contains (sets_of_step script w q step) s
    → (node_move script w q step).node.set s ≡ (finish s (move_stamp w q step) (before_end script w q step s)).state
move_ends script w q (Act client) s there =
    let n = w.node q in
    obey_ends script (act_stamp q n) client s (next_command script n client) (one_made client (at_clock (n.clock + 1) n)) there
    ∙ ap (λ (t : SetState). (finish s (act_stamp q n) t).state) (same (next_command script n client))
  where
    same : (command : Option Command) → made_by_command script (act_stamp q (w.node q)) client command (one_made client (at_clock ((w.node q).clock + 1) (w.node q))) s
        ≡ made_by_command script (act_stamp q (w.node q)) client command (w.node q) s
    same None = refl
    same (Some (Lock set mode)) = refl
    same (Some (Try set mode)) = refl
    same (Some (Unlock set mode)) = refl
    same (Some (Change set gives_up mode)) = refl
    same (Some (DropAll other set)) = refl
    same (Some (Withdraw other set)) = refl
move_ends script w q (Take p) s there = by_letters (w.mail p q) there
  where
    by_letters : (letters : List Letter) → Contains (sets_of_front letters) s
        → (take_front q (w.node q) letters).node.set s ≡ (finish s (front_stamp q (w.node q) letters) (made_by_front q letters (w.node q) s)).state
    by_letters [] none = absurd (omega (arith, none.1))
    by_letters (letter ∷ rest) found =
        let n = w.node q in
        let stamp = take_stamp q n letter in
        let set : letter.set ≡ s = own_set letter.set s found in
        ap (λ (k : ℕ). put n.set k (take_letter stamp letter (n.set k)).state s) set ∙ put-same n.set s (take_letter stamp letter (n.set s)).state
        ∙ ap (λ (k : ℕ). (finish k stamp (arrive stamp letter (n.set s)).state).state) set

pub serves_in_turn : (script : ScriptData) (w : World) (q : ℕ) (step : Step) (s : ℕ) → Contains (sets_of_step script w q step) s → ServesInTurn script w q step s
serves_in_turn script w q step s there = record {
  ends = ap (λ (n : NodeState). n.set s) (own step) ∙ move_ends script w q step s there;
  in_turn = services_in_turn (length (queue_of (before_end script w q step s))) s (move_stamp w q step) (before_end script w q step s);
}
  where
    own : (step : Step) → (after script w q step).node q ≡ (node_move script w q step).node
    own step = put-same (opened w q step).node q (node_move script w q step).node

pub served_in_turn : ServedInTurn
served_in_turn script run is_run k s q step enabled there = serves_in_turn script (world_after script (take k run)) q step s there
