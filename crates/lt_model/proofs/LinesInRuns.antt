-- What the lines of a run name and count.
use Rattle.std.proofs.Common.{◌≡◌, ℕ, ◌+◌, ◌<◌, ◌≤◌, inl, inr, List, [], ◌∷◌, length, refl, sym, ap, subst, arith, true, All, Contains, IsTrue, slice_index_or}
use Rattle.std.specs.List.{AllByRecursion}
use Rattle.std.proofs.lemmas.Bool.{cases_eq}
use Rattle.std.proofs.lemmas.List.Elements.{All-from_recursion, recursion_from_All, Contains-get_or}
use Rattle.std.proofs.lemmas.List.Sums.{sum_by-append}
use Rattle.lt_modes.specs.declared.moves.Step.{Step}
use Rattle.lt_modes.specs.declared.moves.Step.TheVariants.{Act, Take}
use Rattle.lt_modes.specs.declared.event.Event.{Event}
use Rattle.lt_modes.specs.Script.{ScriptData}
use Rattle.lt_modes.specs.State.{Body, AskBody, TellBody, CopyBody, TokenBody, FreezeBody, Letter, Post}
use Rattle.lt_spec.specs.World.{Logged, World, start, is_some_letter, is_enabled, opened, front_stamp, move_stamp, take_front, node_move, after_made, after, IsMove, IsRunFrom}
use Rattle.lt_spec.specs.NodeMove.{node_act, IsWhole}
use Rattle.lt_spec.specs.Facts.{OnWay}
use Rattle.lt_spec.specs.Holdings.{lines_of}
use Rattle.lt_model.specs.Invariant.{BodyKept, Paths, Timed}
use Rattle.lt_spec.specs.Promised.{AreStamped}
use Rattle.lt_model.specs.Homes.{adds, added_by, Homes, HasMaker, IsLineWithin, IsEntryWithin, LinesInRuns, FewAdded}
use Rattle.lt_model.proofs.Letters.{IsCounted, sent_on_way}
use Rattle.lt_model.proofs.StartKept.{paths_start}
use Rattle.lt_lists.proofs.Members.{none_in}
use Rattle.lt_model.proofs.PathsMove.{has_mail_parts, move_kept}
use Rattle.lt_model.proofs.ClocksGrow.{clock_moves, other_clocks_stay, stamps_kept}
use Rattle.lt_model.proofs.TimedMove.{timed_kept, timed_in_runs}
use Rattle.lt_model.proofs.HomesRows.{IsBodyWithin, IsPostWithin, asks_carried}
use Rattle.lt_model.proofs.HomesMove.{IsMoveAtHome, maker, step_home, homes_kept, homes_start}
use Rattle.lt_model.proofs.CountMove.{world_asks, world_locks, StepCounted, act_step_count, take_step_count, few_dropped, count_start}

-- a world after this many moves, whose lines added this many locks
record Along (script : ScriptData) (w : World) (moves added : ℕ) : Type 0 where
  homes : Homes script w
  paths : (s : ℕ) → Paths script w s
  timed : (s : ℕ) → Timed script w s
  stamped : AreStamped w
  clocks : (x : ℕ) → (w.node x).clock ≤ moves
  asks : added + world_asks script w ≤ moves
  locks : world_locks script w ≤ added

-- the clock of a move
clock_bound : (w : World) (moves q : ℕ) (step : Step) → AreStamped w → ((x : ℕ) → (w.node x).clock ≤ moves)
    → (move_stamp w q step).clock ≤ moves + 1
clock_bound w moves q (Act client) stamped clocks = omega (arith, clocks q)
clock_bound w moves q (Take p) stamped clocks = by_letters (w.mail p q) (λ letter h. (stamped p q letter h).1)
  where
    by_letters : (letters : List Letter) → ((letter : Letter) → Contains letters letter → letter.stamp.clock ≤ (w.node p).clock)
        → (front_stamp q (w.node q) letters).clock ≤ moves + 1
    by_letters [] each = omega (arith, clocks q)
    by_letters (letter ∷ rest) each = omega (arith, each letter (0, omega arith, refl), clocks p, clocks q)

-- who moves is a node of the script
moves_in : (script : ScriptData) (w : World) (q : ℕ) (step : Step) → IsWhole script → IsTrue (is_enabled script w q step)
    → (q < script.nodes) × HasMaker script step
moves_in script w q (Act client) whole enabled =
    let own = maker script w q client enabled in
    (subst (λ (x : ℕ). x < script.nodes) own.own (whole.homes client own.known), own.known)
moves_in script w q (Take p) whole enabled = let there = has_mail_parts script w p q enabled in (there.receiver, there.sender)

-- what holds of each letter that was sent
of_posts : (P : Post → Type 0) (posts : List Post) → ((post : Post) → Contains posts post → P post) → AllByRecursion P posts
of_posts P posts each = recursion_from_All P posts (λ k d within. each (slice_index_or posts k d) (Contains-get_or posts k d within))

sent_on : (script : ScriptData) (w : World) (q : ℕ) (step : Step) (post : Post) → Contains (node_move script w q step).posts post
    → OnWay (after script w q step) post.letter.set q post.to post.letter
sent_on script w q step post among =
    record { among = sent_on_way q (node_move script w q step).posts (opened w q step).mail post among; set = refl }

posts_within : (script : ScriptData) (w : World) (bound q : ℕ) (step : Step) → q < script.nodes
    → ((s : ℕ) → Paths script (after script w q step) s) → ((s : ℕ) → Timed script (after script w q step) s)
    → ((after script w q step).node q).clock ≤ bound → AllByRecursion (IsPostWithin script bound) (node_move script w q step).posts
posts_within script w bound q step below paths timed clock =
    of_posts (IsPostWithin script bound) (node_move script w q step).posts (λ post among.
    let on = sent_on script w q step post among in
    let kept = (timed post.letter.set).letters q post.to post.letter below on in
    (((paths post.letter.set).letters q post.to post.letter below on).to, by_body post.letter.body post.letter.stamp.clock (omega (arith, kept.clock, clock)) kept.body))
  where
    by_body : (body : Body) (later : ℕ) → later ≤ bound → BodyKept script later body → IsBodyWithin bound body
    by_body (AskBody ask marked) later up h = tt
    by_body (TellBody tell) later up h = tt
    by_body (CopyBody ask) later up h = tt
    by_body (TokenBody desk) later up h = omega (arith, h.0, up)
    by_body (FreezeBody number modes) later up h = omega (arith, h, up)

step_count : (script : ScriptData) (w : World) (q : ℕ) (step : Step) → IsWhole script → Homes script w
    → ((s : ℕ) → Paths script (after script w q step) s) → IsTrue (is_enabled script w q step)
    → StepCounted script w (after script w q step) (node_move script w q step).events
step_count script w q (Act client) whole homes paths enabled =
    let below = (moves_in script w q (Act client) whole enabled).0 in
    act_step_count script w q client whole below
    (of_posts (IsCounted script.nodes asks_carried) (node_act script q client (w.node q)).posts (λ post among.
    inl ((paths post.letter.set).letters q post.to post.letter below (sent_on script w q (Act client) post among)).to))
step_count script w q (Take p) whole homes paths enabled =
    let there = has_mail_parts script w p q enabled in
    by_letters (w.mail p q) refl there.letter there.sender there.receiver
    (of_posts (IsCounted script.nodes asks_carried) (node_move script w q (Take p)).posts (λ post among.
    inl ((paths post.letter.set).letters q post.to post.letter there.receiver (sent_on script w q (Take p) post among)).to))
    (λ letter on. (homes.letters p q letter on).set)
  where
    by_letters : (letters : List Letter) → w.mail p q ≡ letters → is_some_letter letters ≡ true → p < script.nodes → q < script.nodes
        → AllByRecursion (IsCounted script.nodes asks_carried) (take_front q (w.node q) letters).posts
        → ((letter : Letter) → Contains letters letter → letter.set < length script.sets)
        → StepCounted script w (after_made q (take_front q (w.node q) letters) (opened w q (Take p))) (take_front q (w.node q) letters).events
    by_letters [] e none from below counted sets = cc
    by_letters (letter ∷ rest) e some from below counted sets =
        take_step_count script w p q letter rest from below e (sets letter (0, omega arith, refl)) counted

along_step : (script : ScriptData) (w : World) (moves added q : ℕ) (step : Step) → IsWhole script → Along script w moves added
    → IsTrue (is_enabled script w q step) → Along script (after script w q step) (moves + 1) (added + added_by (node_move script w q step).events)
along_step script w moves added q step whole h enabled =
    let later = after script w q step in
    let paths = λ (s : ℕ). move_kept script w s whole.some_node (h.paths s) q step enabled in
    let counts = step_count script w q step whole h.homes paths enabled in
    record {
      homes = homes_kept script w whole h.homes q step enabled;
      paths = paths;
      timed = λ s. timed_kept script w s (h.timed s) q step enabled;
      stamped = stamps_kept script w q step h.stamped;
      clocks = λ x. elim (cases_eq x q) [
        | inl e ↦ omega (arith, ap (λ (y : ℕ). (later.node y).clock) e, (clock_moves script w q step enabled).0, clock_bound w moves q step h.stamped h.clocks)
        | inr d ↦ omega (arith, other_clocks_stay script w q step x d, h.clocks x)
      ];
      asks = omega (arith, h.asks, counts.asks);
      locks = omega (arith, h.locks, counts.locks);
    }

-- an entry of a run
entry_within : (script : ScriptData) (w : World) (moves added bound : ℕ) (entry : Logged) → IsWhole script → Along script w moves added → moves + 1 ≤ bound
    → IsMove script w entry → IsEntryWithin script bound entry
entry_within script w moves added bound entry whole h room move = record {
  made = record {
    clock = omega (arith, ap (λ (e : Logged). e.made.stamp.clock) move.made, clock_bound w moves q step h.stamped h.clocks, room);
    node = mover.0;
    maker = mover.1;
  };
  lines = subst (λ (l : List Event). All (IsLineWithin script bound) l) (sym (ap (λ (e : Logged). e.events) move.made))
      (All-from_recursion (IsLineWithin script bound) (node_move script w q step).events (said.said.lines within));
}
  where
    q : ℕ
    q = entry.made.stamp.node

    step : Step
    step = entry.made.step

    mover : (q < script.nodes) × HasMaker script step
    mover = moves_in script w q step whole move.enabled

    next : Along script (after script w q step) (moves + 1) (added + added_by (node_move script w q step).events)
    next = along_step script w moves added q step whole h move.enabled

    within : AllByRecursion (IsPostWithin script bound) (node_move script w q step).posts
    within = posts_within script w bound q step mover.0 next.paths next.timed (omega (arith, next.clocks q, room))

    said : IsMoveAtHome script bound q (node_move script w q step)
    said = step_home script w bound q step whole h.homes move.enabled (omega (arith, few_dropped script w q step mover.0, h.locks, h.asks, room))

record RunWithin (script : ScriptData) (bound added : ℕ) (run : List Logged) : Type 0 where
  entries : AllByRecursion (IsEntryWithin script bound) run
  few : added + added_by (lines_of run) ≤ bound

run_within : (script : ScriptData) (bound : ℕ) (run : List Logged) (w : World) (moves added : ℕ) → IsWhole script → Along script w moves added
    → IsRunFrom script w run → moves + length run ≤ bound → RunWithin script bound added run
run_within script bound [] w moves added whole h is_run room = record { entries = tt; few = omega (arith, h.asks, room) }
run_within script bound (entry ∷ rest) w moves added whole h is_run room =
    let q = entry.made.stamp.node in
    let step = entry.made.step in
    let next = along_step script w moves added q step whole h is_run.0.enabled in
    let later = run_within script bound rest (after script w q step) (moves + 1) (added + added_by (node_move script w q step).events) whole next is_run.1
    (omega (arith, room)) in
    record {
      entries = (entry_within script w moves added bound entry whole h (omega (arith, room)) is_run.0, later.entries);
      few = omega (
        arith,
        later.few,
        sum_by-append adds entry.events (lines_of rest),
        ap (λ (e : Logged). added_by e.events) is_run.0.made,
      );
    }

along_start : (script : ScriptData) → IsWhole script → Along script (start script) 0 0
along_start script whole =
    let none = count_start script in
    record {
      homes = homes_start script;
      paths = λ s. paths_start script s whole.some_node;
      timed = λ s. timed_in_runs script [] tt 0 s;
      stamped = λ p q letter on. none_in letter on;
      clocks = λ x. omega arith;
      asks = omega (arith, none.0);
      locks = omega (arith, none.1);
    }

whole_run : (script : ScriptData) (run : List Logged) → IsWhole script → IsRunFrom script (start script) run → RunWithin script (length run) 0 run
whole_run script run whole is_run = run_within script (length run) run (start script) 0 0 whole (along_start script whole) is_run (omega arith)

pub lines_in_runs : LinesInRuns
lines_in_runs script run whole is_run =
    All-from_recursion (IsEntryWithin script (length run)) run (whole_run script run whole is_run).entries

pub few_added : FewAdded
few_added script run whole is_run = omega (arith, (whole_run script run whole is_run).few)
