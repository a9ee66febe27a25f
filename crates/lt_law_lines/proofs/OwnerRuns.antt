-- What each move of a kept world keeps of the lines so far and the world holds after each prefix of each run.
use Rattle.std.proofs.Common.{ℕ, zero, suc, List, [], ◌∷◌, ◌++◌, sym, ap, subst, take, ◌+◌, ◌<◌, inl, inr, length, Option, Some, None, Bool, true, false, refl, ◌∙◌, ◌≢◌, arith, ◌≤◌, ◌≡◌, IsTrue, ◌==◌, if◌then◌else◌, Contains, fold, ◌⊎◌, append-nil, append_assoc, filter_map, eq-eqb}
use Rattle.std.proofs.lemmas.Bool.{cases_eq}
use Rattle.std.proofs.lemmas.List.Elements.{Contains-append_right, All-contains}
use Rattle.std.proofs.lemmas.List.Sums.{fold-append}
use Rattle.lt_modes.specs.declared.event.Event.{Event}
use Rattle.lt_modes.specs.declared.moves.Step.{Step}
use Rattle.lt_modes.specs.Script.{ScriptData}
use Rattle.lt_modes.specs.declared.stamp.Stamp.{Stamp}
use Rattle.lt_modes.specs.declared.parts.Link.{Link}
use Rattle.lt_modes.specs.declared.command.Command.{Command}
use Rattle.lt_modes.specs.declared.command.Command.TheVariants.{Lock, Unlock, Try, Change, DropAll, Withdraw}
use Rattle.lt_modes.specs.declared.moves.Step.TheVariants.{Act, Take}
use Rattle.lt_modes.specs.State.{SetState, Body, Letter, Made, Post}
use Rattle.lt_modes.specs.SetMove.{finish, drop, dropped}
use Rattle.lt_lists.proofs.Members.{filter_map-at}
use Rattle.lt_lists.proofs.Puts.{put-same, put-other}
use Rattle.lt_spec.specs.Holdings.{lines_of, owner_of, owner_after, wanted, wanted_after, Holding, after_line, holdings, times_held}
use Rattle.lt_spec.specs.World.{Logged, World, start, is_enabled, node_move, after, after_run, world_after, IsRunFrom, IsRun, take_front, letter_for, token_to}
use Rattle.lt_spec.specs.NodeMove.{IsWhole, related, NodeState, NodeMade, node_waits, next_command, act_stamp, take_stamp, at_clock, one_made, touched, each_touched, drop_all, obey, home}
use Rattle.lt_spec.specs.Facts.{OnWay, state_at}
use Rattle.lt_model.specs.Homes.{Homes, IsAskOf}
use Rattle.lt_model.specs.Invariant.{WorldInvariant, BodyOnPath}
use Rattle.lt_model.proofs.HomesMove.{homes_kept, homes_start, maker}
use Rattle.lt_model.proofs.StartKept.{start_kept}
use Rattle.lt_model.proofs.PathsMove.{has_mail_parts}
use Rattle.lt_model.proofs.TryEffects.{command_rules}
use Rattle.lt_model.proofs.NodeEffects.{after_node}
use Rattle.lt_law_invariant.proofs.SoundStates.{kept_stays}
use Rattle.lt_law_lines.specs.LineLaws.{IsLastMove, LinesTellOwners}
use Rattle.lt_law_lines.proofs.OwnerRules.{TokenTold, none_told, then_told, tokens_told, finish_tokens, act_tokens, take_tokens, withdraw_tokens}
use Rattle.lt_law_lines.proofs.WaitMoves.{Told, IsFree}
use Rattle.lt_law_lines.proofs.WaitSteps.{MoveTold, move_told}
use Rattle.lt_law_lines.proofs.HeldMoves.{NodeFollows, held_at, step_follows}
use Rattle.lt_law_lines.proofs.LineCounts.{count_after, lines_count}

-- a move keeps it, with its lines after those so far
abbrev pub EachMoveKeeps : ScriptData → (List Event → World → Type 0) → Type 0
EachMoveKeeps script P = (w : World) (lines : List Event) (q : ℕ) (step : Step) → WorldInvariant script w → Homes script w → IsTrue (is_enabled script w q step)
    → P lines w → P (lines ++ (node_move script w q step).events) (after script w q step)

along : (script : ScriptData) (P : List Event → World → Type 0) → IsWhole script → EachMoveKeeps script P → (run : List Logged) (w : World) (lines : List Event)
    → WorldInvariant script w → Homes script w → P lines w → IsRunFrom script w run → (k : ℕ) → P (lines ++ lines_of (take k run)) (after_run script w (take k run))
along script P whole keeps run w lines kept homes h is_run zero = subst (λ (l : List Event). P l w) (sym (append-nil lines)) h
along script P whole keeps [] w lines kept homes h is_run (suc k) = subst (λ (l : List Event). P l w) (sym (append-nil lines)) h
along script P whole keeps (entry ∷ rest) w lines kept homes h is_run (suc k) =
    let q = entry.made.stamp.node in
    let step = entry.made.step in
    let events : entry.events ≡ (node_move script w q step).events = ap (λ (e : Logged). e.events) is_run.0.made in
    let next = subst (λ (l : List Event). P (lines ++ l) (after script w q step)) (sym events) (keeps w lines q step kept homes is_run.0.enabled h) in
    subst (λ (l : List Event). P l (after_run script (after script w q step) (take k rest))) (append_assoc lines entry.events (lines_of (take k rest)))
    (along script P whole keeps rest (after script w q step) (lines ++ entry.events) (kept_stays script w q step whole kept is_run.0.enabled)
    (homes_kept script w whole homes q step is_run.0.enabled) next is_run.1 k)

pub along_runs : (script : ScriptData) (P : List Event → World → Type 0) → IsWhole script → EachMoveKeeps script P → P [] (start script)
    → (run : List Logged) → IsRun script run → (k : ℕ) → P (lines_of (take k run)) (world_after script (take k run))
along_runs script P whole keeps first run is_run k = along script P whole keeps run (start script) [] (start_kept script whole.some_node) (homes_start script) first is_run k

-- The last `token` line of a set is of the token's last move.

-- the lines of what a node made tell its token moves
abbrev NodeTokens : NodeMade → Type 0
NodeTokens made = (s : ℕ) → TokenTold s made.events made.posts

each_tokens : (rule : ℕ → SetState → Made) → ((k : ℕ) (t : SetState) → tokens_told t (rule k t)) → (sets : List ℕ) (n : NodeState) → NodeTokens (each_touched rule sets n)
each_tokens rule tells [] n = none_told
each_tokens rule tells (k ∷ rest) n = λ s.
    let m = rule k (n.set k) in
    let next = (touched n k m).node in
    then_told s m.events (each_touched rule rest next).events m.posts (each_touched rule rest next).posts (tells k (n.set k) s) (each_tokens rule tells rest next s)

quiet_first : (event : Event) (made : NodeMade) → ((s : ℕ) (owner : Link) → owner_after s owner event ≡ owner) → NodeTokens made → (s : ℕ) → TokenTold s (event ∷ made.events) made.posts
quiet_first event made quiet tells s = then_told s (event ∷ []) made.events [] made.posts (inl (record { said = quiet s; sent = refl })) (tells s)

obey_tokens : (script : ScriptData) (stamp : Stamp) (client : ℕ) (command : Option Command) (n : NodeState) → NodeTokens (obey script stamp client command n)
obey_tokens script stamp client None n = none_told
obey_tokens script stamp client (Some (Lock s mode)) n = (command_rules s stamp client tokens_told (act_tokens s stamp client)).locks mode (n.set s)
obey_tokens script stamp client (Some (Try s mode)) n = (command_rules s stamp client tokens_told (act_tokens s stamp client)).tries mode (n.set s)
obey_tokens script stamp client (Some (Unlock s mode)) n = (command_rules s stamp client tokens_told (act_tokens s stamp client)).unlocks mode (n.set s)
obey_tokens script stamp client (Some (Change s gives_up mode)) n = (command_rules s stamp client tokens_told (act_tokens s stamp client)).changes gives_up mode (n.set s)
obey_tokens script stamp client (Some (Withdraw other s)) n = withdraw_tokens s stamp client other (n.set s)
obey_tokens script stamp client (Some (DropAll other s)) n = by_waits (node_waits script n other)
  where
    by_waits : (waiting : Bool) → NodeTokens (drop_all waiting stamp client other s (related script s) n)
    by_waits true = quiet_first _ (each_touched (λ k. finish k stamp) (related script s) n) (λ k owner. refl) (each_tokens (λ k. finish k stamp) (λ k t. finish_tokens k stamp t) (related script s) n)
    by_waits false = quiet_first _ (each_touched (λ k. drop k stamp other) (related script s) n) (λ k owner. refl)
        (each_tokens (λ k. drop k stamp other) (λ k t. finish_tokens k stamp (dropped other t)) (related script s) n)

move_tokens : (script : ScriptData) (w : World) (q : ℕ) (step : Step) → NodeTokens (node_move script w q step)
move_tokens script w q (Act client) =
    let n = w.node q in
    obey_tokens script (act_stamp q n) client (next_command script n client) (one_made client (at_clock (n.clock + 1) n))
move_tokens script w q (Take p) = by_letters (w.mail p q)
  where
    by_letters : (letters : List Letter) → NodeTokens (take_front q (w.node q) letters)
    by_letters [] = none_told
    by_letters (letter ∷ rest) = take_tokens (take_stamp q (w.node q) letter) letter ((w.node q).set letter.set)

-- the mover is a node of the script
mover_named : (script : ScriptData) (w : World) (q : ℕ) (step : Step) → IsWhole script → IsTrue (is_enabled script w q step) → q < script.nodes
mover_named script w q (Act client) whole enabled = let own = maker script w q client enabled in subst (λ (x : ℕ). x < script.nodes) own.own (whole.homes client own.known)
mover_named script w q (Take p) whole enabled = (has_mail_parts script w p q enabled).receiver

-- a letter that is sent is on its way
sent_on_way : (script : ScriptData) (w : World) (q : ℕ) (step : Step) (to : ℕ) (letter : Letter) → Contains (node_move script w q step).posts (record { to = to; letter = letter })
    → Contains ((after script w q step).mail q to) letter
sent_on_way script w q step to letter there = by_step step there
  where
    mine : (posts : List Post) (old : List Letter) → Contains posts (record { to = to; letter = letter }) → Contains (old ++ (if q == q then filter_map (letter_for to) posts else [])) letter
    mine posts old found = Contains-append_right old (if q == q then filter_map (letter_for to) posts else []) letter
        (subst (λ (own : Bool). Contains (if own then filter_map (letter_for to) posts else []) letter) (sym (eq-eqb q q refl))
        (filter_map-at (letter_for to) posts (record { to = to; letter = letter }) letter found (ap (λ (own : Bool). if own then Some letter else None) (eq-eqb to to refl))))

    by_step : (step : Step) → Contains (node_move script w q step).posts (record { to = to; letter = letter }) → Contains ((after script w q step).mail q to) letter
    by_step (Act client) found = mine (node_move script w q (Act client)).posts (w.mail q to) found
    by_step (Take p) found = mine (node_move script w q (Take p)).posts _ found

went_after : (script : ScriptData) (w : World) (q : ℕ) (step : Step) (s : ℕ) → (after script w q step).went s ≡ w.went s ++ filter_map (token_to s) (node_move script w q step).posts
went_after script w q (Act client) s = refl
went_after script w q (Take p) s = refl

-- what the lines say of each set's owner
abbrev pub OwnersTold : ScriptData → List Event → World → Type 0
OwnersTold script lines w = (s : ℕ) → s < length script.sets → IsLastMove (w.went s) (owner_of s lines)

owners_after : (script : ScriptData) (w : World) (lines : List Event) (q : ℕ) (step : Step) → IsWhole script → WorldInvariant script w → Homes script w → IsTrue (is_enabled script w q step)
    → OwnersTold script lines w → OwnersTold script (lines ++ (node_move script w q step).events) (after script w q step)
owners_after script w lines q step whole kept homes enabled h s below =
    subst (IsLastMove ((after script w q step).went s)) (sym (fold-append (owner_after s) (record { node = 0; epoch = 0 }) lines (node_move script w q step).events))
    (by_token (move_tokens script w q step s))
  where
    by_token : TokenTold s (node_move script w q step).events (node_move script w q step).posts
        → IsLastMove ((after script w q step).went s) (fold (owner_after s) (owner_of s lines) (node_move script w q step).events)
    by_token (inl stays) =
        let went : (after script w q step).went s ≡ w.went s = went_after script w q step s ∙ ap (λ (l : List ℕ). w.went s ++ l) stays.sent ∙ append-nil (w.went s) in
        subst (λ (l : List ℕ). IsLastMove l (fold (owner_after s) (owner_of s lines) (node_move script w q step).events)) (sym went)
        (subst (IsLastMove (w.went s)) (sym (stays.said (owner_of s lines))) (h s below))
    by_token (inr goes) =
        let on : OnWay (after script w q step) s q goes.to goes.letter = record { among = sent_on_way script w q step goes.to goes.letter goes.sent; set = goes.set } in
        let path = (((kept_stays script w q step whole kept enabled).sets s below).paths).letters q goes.to goes.letter (mover_named script w q step whole enabled) on in
        let desk = subst (λ (body : Body). BodyOnPath script.nodes ((after script w q step).went s) goes.to body) goes.body path.body in
        subst (IsLastMove ((after script w q step).went s)) (sym (goes.said (owner_of s lines))) (desk.epoch, desk.node)

pub lines_tell_owners : LinesTellOwners
lines_tell_owners script run whole is_run k =
    along_runs script (OwnersTold script) whole (λ w lines q step kept homes enabled h. owners_after script w lines q step whole kept homes enabled h)
    (λ s below. (refl, refl)) run is_run k

-- The lines of a run tell who waits.

-- of each client of the script the lines say what its node has
abbrev pub WaitsTold : ScriptData → List Event → World → Type 0
WaitsTold script lines w = (c : ℕ) → c < length script.clients → Told (length script.sets) (w.node (home script c)).set c (wanted c lines)

-- a node has no asks of clients of other nodes
foreign_free : (script : ScriptData) (w : World) (q c : ℕ) → Homes script w → home script c ≢ q → IsFree (length script.sets) (w.node q).set c
foreign_free script w q c homes away s below ask live own =
    let at_home = All-contains (IsAskOf script q) (state_at w s q).pending ask (homes.states q s).pending live.0 in
    away (ap (home script) (sym own) ∙ at_home.0.home ∙ at_home.1)

waits_after : (script : ScriptData) (w : World) (lines : List Event) (q : ℕ) (step : Step) → IsWhole script → WorldInvariant script w → Homes script w → IsTrue (is_enabled script w q step)
    → WaitsTold script lines w → WaitsTold script (lines ++ (node_move script w q step).events) (after script w q step)
waits_after script w lines q step whole kept homes enabled h c known =
    subst (Told (length script.sets) ((after script w q step).node (home script c)).set c) (sym (fold-append (wanted_after c) None lines (node_move script w q step).events))
    (by_home (cases_eq (home script c) q))
  where
    moved : MoveTold script q (w.node q) (node_move script w q step)
    moved = move_told script w q step whole kept enabled

    by_home : (home script c ≡ q) ⊎ (home script c ≢ q)
        → Told (length script.sets) ((after script w q step).node (home script c)).set c (fold (wanted_after c) (wanted c lines) (node_move script w q step).events)
    by_home (inl e) =
        let now : (after script w q step).node (home script c) ≡ (node_move script w q step).node = ap (after script w q step).node e ∙ after_node script w q step q ∙ put-same w.node q (node_move script w q step).node in
        subst (λ (n : NodeState). Told (length script.sets) n.set c (fold (wanted_after c) (wanted c lines) (node_move script w q step).events)) (sym now)
        (moved.told c (wanted c lines) (subst (λ (x : ℕ). Told (length script.sets) (w.node x).set c (wanted c lines)) e (h c known)))
    by_home (inr d) =
        let now : (after script w q step).node (home script c) ≡ w.node (home script c) = after_node script w q step (home script c) ∙ put-other w.node q (node_move script w q step).node (home script c) d in
        subst (λ (n : NodeState). Told (length script.sets) n.set c (fold (wanted_after c) (wanted c lines) (node_move script w q step).events)) (sym now)
        (subst (Told (length script.sets) (w.node (home script c)).set c) (sym (moved.aside c d (foreign_free script w q c homes d) (wanted c lines))) (h c known))

nothing_waits : (script : ScriptData) → WaitsTold script [] (start script)
nothing_waits script c known = record {
  says = λ k e. cc;
  told = λ s below ask live own. absurd (omega (arith, live.0.1));
}

pub waits_in_runs : (script : ScriptData) (run : List Logged) → IsWhole script → IsRun script run → (k : ℕ) → WaitsTold script (lines_of (take k run)) (world_after script (take k run))
waits_in_runs script run whole is_run k =
    along_runs script (WaitsTold script) whole (λ w lines q step kept homes enabled h. waits_after script w lines q step whole kept homes enabled h)
    (nothing_waits script) run is_run k

-- The lines of a run count what is held.

-- the lines so far tell what is held
pub record LinesHold (script : ScriptData) (lines : List Event) (w : World) : Type 0 where
  pub own : (k : Holding) → k.set < length script.sets → times_held (holdings script lines) k ≡ held_at (w.node (home script k.client)) k
  pub beyond : (k : Holding) → length script.sets ≤ k.set → times_held (holdings script lines) k ≡ 0

lines_after : (script : ScriptData) (w : World) (lines : List Event) (q : ℕ) (step : Step) → IsWhole script → Homes script w → IsTrue (is_enabled script w q step) → LinesHold script lines w
    → LinesHold script (lines ++ (node_move script w q step).events) (after script w q step)
lines_after script w lines q step whole homes enabled h = record {
  own = λ k below. more k ∙ ap (λ (c : ℕ). fold (count_after script k) c made.events) (h.own k below) ∙ by_home k below (cases_eq (home script k.client) q);
  beyond = λ k above. more k ∙ ap (λ (c : ℕ). fold (count_after script k) c made.events) (h.beyond k above) ∙ follow.beyond k above;
}
  where
    made : NodeMade
    made = node_move script w q step

    follow : NodeFollows script q (w.node q) made
    follow = step_follows script w q step whole homes enabled

    more : (k : Holding) → times_held (holdings script (lines ++ made.events)) k ≡ fold (count_after script k) (times_held (holdings script lines) k) made.events
    more k = ap (λ (l : List Holding). times_held l k) (fold-append (after_line script) [] lines made.events) ∙ lines_count script k (holdings script lines) made.events

    by_home : (k : Holding) → k.set < length script.sets → (home script k.client ≡ q) ⊎ (home script k.client ≢ q)
        → fold (count_after script k) (held_at (w.node (home script k.client)) k) made.events ≡ held_at ((after script w q step).node (home script k.client)) k
    by_home k below (inl e) =
        ap (λ (x : ℕ). fold (count_after script k) (held_at (w.node x) k) made.events) e ∙ sym (follow.own k e below)
        ∙ ap (λ (n : NodeState). held_at n k) (sym (after_node script w q step q ∙ put-same w.node q made.node)) ∙ ap (λ (x : ℕ). held_at ((after script w q step).node x) k) (sym e)
    by_home k below (inr d) = follow.aside k (held_at (w.node (home script k.client)) k) d ∙ ap (λ (n : NodeState). held_at n k) (sym (after_node script w q step (home script k.client) ∙ put-other w.node q made.node (home script k.client) d))

pub held_in_runs : (script : ScriptData) (run : List Logged) → IsWhole script → IsRun script run → (k : ℕ) → LinesHold script (lines_of (take k run)) (world_after script (take k run))
held_in_runs script run whole is_run k =
    along_runs script (LinesHold script) whole (λ w lines q step kept homes enabled h. lines_after script w lines q step whole homes enabled h)
    (record { own = λ key below. refl; beyond = λ key above. refl }) run is_run k
