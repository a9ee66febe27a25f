-- Replies and the lines that say them.
use Rattle.std.proofs.Common.{◌≡◌, ◌==◌, ℕ, zero, suc, List, [], ◌∷◌, Bool, true, false, Option, Some, None, refl, sym, ap, ◌∙◌, slice_get, if◌then◌else◌, ◌<◌, ◌≤◌, ◌+◌, ◌*◌, length, map, filter, subst, arith, option_and_then, option_map, suc-mul, length-append}
use Rattle.std.specs.List.{cons_option}
use Rattle.std.proofs.Math.Nat.{mul-div-le}
use Rattle.std.proofs.lemmas.Option.{same_Some, slice_get-map, slice_get_within}
use mathlib.Core.List.{IsPrefix}
use Rattle.lt_modes.specs.declared.event.Event.{Event}
use Rattle.lt_modes.specs.declared.event.Event.TheVariants.{Grant, Wait, Try, Unlock, NotHeld as NoLock, Change, DropAll, Busy as Waiting, Withdraw, Withdrawn as GivenUp, Void, Withheld as HeldBack, Copy, Freeze, Token}
use Rattle.lt_modes.specs.declared.command.Command.{Command}
use Rattle.lt_modes.specs.Script.{ScriptData}
use Rattle.lt_lists.specs.Below.{sum_below}
use Rattle.lt_spec.specs.Holdings.{lines_of}
use Rattle.lt_spec.specs.World.{is_reply_to, replies_of, Logged, is_of_node}
use Rattle.lt_spec.specs.declared.limits.TheConstants.{MAX_COMMANDS, MAX_COMMANDS_OF_SERVICE}
use Rattle.lt_spec.specs.NodeMove.{commands_of, home, with_commands}
use Rattle.lt_spec.specs.Script.{IsScript}
use Rattle.lt_script.proofs.NameLemmas.{element_at}
use Rattle.lt_law_invariant.proofs.FewAsks.{whole}
use Rattle.lt_law_own_lines.proofs.OwnRuns.{replies_of_log}
use Rattle.lt_law_plays.specs.Merged.{Part, logs_of, part_at, merged}
use Rattle.lt_law_merged.specs.JoinedRun.{IsJoinedRun}
use Rattle.lt_law_merged.proofs.PartLogs.{joined_merges, part_is}
use Rattle.lt_mail.specs.Words.{Alike}
use Rattle.lt_runner.specs.declared.parts.Parts.{Parts}
use Rattle.lt_runner.specs.Kept.{SameRunner, AsSeen}
use Rattle.lt_threads.specs.Meeting.{AreShares, ShareScript, AreTooMany, IsSharedRun, commands_in, command_count, part_of, IsCrew, crew_run}
use Rattle.lt_threads.proofs.Shares.{same_in_joined}
use Rattle.lt_threads.proofs.Each.{each_weaker}
use Rattle.lt_threads.proofs.Logs.{crew_last, SameLog, same_run}
use Rattle.lt_threads.proofs.Joined.{joined}
use Rattle.lt_threads.proofs.Shown.{part_here}
use Rattle.lt_live.specs.declared.reply.Reply.{Reply}
use Rattle.lt_live.specs.declared.reply.Reply.TheVariants.{Granted, True, False, Unlocked, NotHeld, Changed, Dropped, Busy, Withdrawn, Withheld}
use Rattle.lt_live.specs.Seats.{told_if, reply_to, replies_in, IsServedSession}
use Rattle.lt_live.specs.Live.{RepliesOfLines, RepliesInLog, AreLive, LiveScript, IsServedRun, IsRunOfAll, ServedBy, SaysSame, Settled, SharedNow, ServedNow}
use Rattle.lt_live.specs.declared.ends.Session.{Session}
use Rattle.lt_live.specs.Words.{submitted, polled}
use Rattle.lt_live.specs.Stations.{StationData, most_share, equal_share, HaveEqualShares, runner_of}
use Rattle.lt_live.proofs.SeatLists.{alike_after, alike_len}

-- the line is no reply to the client, and says nothing to it; or it is one, and says this
abbrev Says : Bool → Option Reply → Type 0
Says false said = said ≡ None
Says true said = (reply : Reply) × (said ≡ Some reply)

says_if : (client other : ℕ) (reply : Reply) → Says (other == client) (told_if client other reply)
says_if client other reply = by_test (other == client)
  where
    by_test : (t : Bool) → Says t (if t then Some reply else None)
    by_test true = (reply, refl)
    by_test false = refl

says : (client : ℕ) (line : Event) → Says (is_reply_to client line) (reply_to client line)
says client (Grant other s mode) = says_if client other Granted
says client (Wait other s mode) = refl
says client (Try other s mode got) = says_if client other (if got then True else False)
says client (Unlock other s mode) = says_if client other Unlocked
says client (NoLock other s mode) = says_if client other NotHeld
says client (Change other s gives_up mode) = says_if client other Changed
says client (DropAll other whose s count) = says_if client other (Dropped count)
says client (Waiting other whose s) = says_if client other Busy
says client (Withdraw other whose s got) = says_if client other (if got then True else False)
says client (GivenUp other s mode) = says_if client other Withdrawn
says client (Void other s mode) = refl
says client (HeldBack other s mode) = says_if client other Withheld
says client (Copy s to other mode) = refl
says client (Freeze s to number modes) = refl
says client (Token s to epoch) = refl

pub replies_of_lines : RepliesOfLines
replies_of_lines client [] k = refl
replies_of_lines client (line ∷ rest) k =
    by_test (is_reply_to client line) (reply_to client line) refl (says client line) (λ j. replies_of_lines client rest j) k
  where
    by_test : (t : Bool) (said : Option Reply) → reply_to client line ≡ said → Says t said
        → ((j : ℕ) → slice_get (replies_in client rest) j ≡ option_and_then (reply_to client) (slice_get (replies_of client rest) j))
        → (j : ℕ) → slice_get (cons_option said (replies_in client rest)) j
        ≡ option_and_then (reply_to client) (slice_get (if t then line ∷ replies_of client rest else replies_of client rest) j)
    by_test true None e h again j = absurd (cc)
    by_test true (Some reply) e h again zero = sym e
    by_test true (Some reply) e h again (suc j) = again j
    by_test false None e h again j = again j
    by_test false (Some reply) e h again j = absurd (cc)

-- only the lines of replies say something
of_replies : (client : ℕ) (lines : List Event) → replies_in client (replies_of client lines) ≡ replies_in client lines
of_replies client [] = refl
of_replies client (line ∷ rest) = by_test (is_reply_to client line) (says client line) (of_replies client rest)
  where
    by_test : (t : Bool) → Says t (reply_to client line) → replies_in client (replies_of client rest) ≡ replies_in client rest
        → replies_in client (if t then line ∷ replies_of client rest else replies_of client rest) ≡ cons_option (reply_to client line) (replies_in client rest)
    by_test true h again = ap (λ (list : List Reply). cons_option (reply_to client line) list) again
    by_test false h again = again ∙ sym (ap (λ (said : Option Reply). cons_option said (replies_in client rest)) h)

pub replies_in_log : RepliesInLog
replies_in_log script run log whole is_run client own =
    sym (of_replies client (lines_of run)) ∙ ap (replies_in client) (replies_of_log script run log whole is_run client own) ∙ of_replies client (lines_of log)

-- The run that stations made is one in which all sessions were served.

-- so many numbers, each of which is at most this one
sum_few : (n most : ℕ) (f : ℕ → ℕ) → ((k : ℕ) → k < n → f k ≤ most) → sum_below n f ≤ n * most
sum_few zero most f h = omega arith
sum_few (suc n) most f h =
    let rest = sum_few n most f (λ k below. h k (omega (arith, below))) in
    let last = h n (omega arith) in
    let more : suc n * most ≡ n * most + most = suc-mul n most in
    omega (arith, rest, last, more)

pub first_few : {X : Type 0} (xs ys : List X) → IsPrefix xs ys → length xs ≤ length ys
first_few xs ys h = let sum = length-append xs h.0 in let all = ap length h.1 in omega (arith, sum, all)

-- the session of each client at the end, and the runner that served it
record At (script : ScriptData) (rs : List Parts) (sessions : List Session) (client : ℕ) : Type 0 where
  before : Session
  now : Session
  runner : Parts
  was : slice_get sessions client ≡ Some before
  says : SaysSame before now
  here : slice_get rs (home script client) ≡ Some runner
  served : ServedBy runner client now

module _ (script : ScriptData) (stations later : List StationData) (sessions after : List Session) (rs : List Parts)
    (settled : Settled script stations sessions later after) (taken : rs ≡ map runner_of later) where
  at_end : (client : ℕ) (s : Session) → slice_get sessions client ≡ Some s → At script rs sessions client
  at_end client s e =
      let now = alike_after SaysSame sessions after settled.each client s e in
      let live = settled.live.each client now.0 now.1 in
      let there : slice_get (map runner_of later) (home script client) ≡ Some live.station.runner =
      slice_get-map runner_of later (home script client) ∙ ap (option_map runner_of) live.here in
      record {
        before = s;
        now = now.0;
        runner = live.station.runner;
        was = e;
        says = now.2;
        here = ap (λ (ps : List Parts). slice_get ps (home script client)) taken ∙ there;
        served = settled.served client now.0 (slice_get_within sessions client s e) now.1 live.station.runner
            (ap (λ (ps : List Parts). slice_get ps (home script client)) (sym settled.runners) ∙ there);
      }

  shares : AreShares script rs
  shares = subst (λ (ps : List Parts). AreShares script ps) (sym taken) settled.live.runners

  -- the session's script is this one, and its share no more than all may have
  of_script : (client : ℕ) (s : Session) → slice_get sessions client ≡ Some s → (s.script ≡ script) × (s.share ≤ most_share script)
  of_script client s e =
      let now = alike_after SaysSame sessions after settled.each client s e in
      let says : SaysSame s now.0 = now.2 in
      let live = settled.live.each client now.0 now.1 in
      (sym says.same.script ∙ live.script_is, omega (arith, says.same.share, live.share))

  -- where no share is more than this
  abbrev AreWithin : ℕ → Type 0
  AreWithin most = (client : ℕ) (s : Session) → slice_get sessions client ≡ Some s → s.share ≤ most

  -- no client has more commands
  few_of : (most : ℕ) → AreWithin most → (client : ℕ) → client < length script.clients
      → length (commands_of (with_commands script (commands_in rs)) client) ≤ most
  few_of most within client below =
      let (s, e) = element_at sessions client (omega (arith, below, settled.live.count, alike_len SaysSame sessions after settled.each)) in
      let at = at_end client s e in
      let p = at.runner in
      let own = (shares.each (home script client) p at.here).script_is in
      let joined : commands_of (with_commands script (commands_in rs)) client ≡ commands_of p.node.script client =
      (same_in_joined script rs shares (home script client) p at.here).own client (ap (λ (x : ScriptData). home x client) own) in
      let served = first_few (commands_of p.node.script client) (submitted at.now) at.served.commands in
      let spent = at.now.spent in
      let share = at.says.same.share in
      let own = within client at.before at.was in
      let same = ap (λ (list : List Command). length list) joined in
      omega (arith, same, served, spent, share, own)

  -- and all have no more together
  together : (most : ℕ) → AreWithin most → command_count (with_commands script (commands_in rs)) ≤ length script.clients * most
  together most within =
      sum_few (length script.clients) most (λ client. length (commands_of (with_commands script (commands_in rs)) client)) (few_of most within)

  pub few_for_service : command_count (with_commands script (commands_in rs)) ≤ MAX_COMMANDS_OF_SERVICE
  few_for_service =
      let few = together (most_share script) (λ client s e. (of_script client s e).1) in
      let all = mul-div-le MAX_COMMANDS_OF_SERVICE (length script.clients) in
      omega (arith, few, all)

  pub not_many : HaveEqualShares sessions → ¬ AreTooMany rs
  not_many equal many =
      let past = many script shares in
      let few = together (equal_share script) (λ client s e. subst (λ (x : ScriptData). s.share ≤ equal_share x) (of_script client s e).0 (equal client s e)) in
      let all = mul-div-le MAX_COMMANDS (length script.clients) in
      omega (arith, past, few, all)

  pub served_run : (made : ScriptData) (run : List Logged) → IsRunOfAll rs made run → IsServedRun script sessions made run
  served_run made run shared = record {
    is_script = shared.crew.is_script;
    same = same;
    is_run = shared.is_run;
    rising = shared.rising;
    each = each;
  }
    where
      same : made ≡ with_commands script made.commands
      same =
          let (p, here) = element_at rs 0 (omega (arith, shares.some, shares.count)) in
          (shared.crew.each 0 p here).script_is.rest ∙ ap (λ (x : ScriptData). with_commands x made.commands) (shares.each 0 p here).script_is

      each : (client : ℕ) (s : Session) → slice_get sessions client ≡ Some s → IsServedSession (commands_of made client) (lines_of run) client s
      each client s e =
          let at = at_end client s e in
          let p = at.runner in
          let k = home script client in
          let own = (shares.each k p at.here).script_is in
          let listed : commands_of made client ≡ commands_of p.node.script client =
          (shared.crew.each k p at.here).script_is.own client (ap (λ (x : ScriptData). home x client) own) in
          let logged : filter (is_of_node (home made client)) run ≡ p.log.entries =
          ap (λ (x : ScriptData). filter (is_of_node (home x client)) run) same ∙ shared.moves k p at.here in
          let told : replies_in client (lines_of run) ≡ replies_in client (lines_of p.log.entries) =
          replies_in_log made run p.log.entries (whole made shared.crew.is_script) shared.is_run client logged in
          let is : at.before ≡ s = same_Some at.before s (sym at.was ∙ e) in
          subst (λ (u : Session). IsServedSession (commands_of made client) (lines_of run) client u) is
          (record {
            commands = subst (λ (list : List Command). IsPrefix list (submitted at.before)) (sym listed)
                (subst (λ (list : List Command). IsPrefix (commands_of p.node.script client) list) at.says.submitted at.served.commands);
            replies = subst (λ (list : List Reply). IsPrefix (polled at.before) list) (sym told)
                (subst (λ (list : List Reply). IsPrefix list (replies_in client (lines_of p.log.entries))) at.says.polled at.served.replies);
          })

pub run_of_all : (rs : List Parts) (made : ScriptData) (run : List Logged) → IsSharedRun rs made run → IsRunOfAll rs made run
run_of_all rs made run shared = record {
  crew = shared.joined.crew;
  commands = shared.joined.commands;
  is_run = shared.is_run;
  rising = shared.rising;
  is_crew_run = shared.is_crew_run;
  moves = shared.moves;
}

-- what is known once all looked at their rings
abbrev pub AllSettled : List StationData → List Session → List StationData → List Session → Type 0
AllSettled stations sessions later after = (script : ScriptData) → AreLive script stations sessions → Settled script stations sessions later after

pub are_shares : (stations later : List StationData) (sessions after : List Session) (rs : List Parts) → LiveScript stations sessions
    → AllSettled stations sessions later after → rs ≡ map runner_of later → ShareScript rs
are_shares stations later sessions after rs live settled taken =
    (live.0, shares live.0 stations later sessions after rs (settled live.0 live.1) taken)

pub never_many : (stations later : List StationData) (sessions after : List Session) (rs : List Parts) → LiveScript stations sessions
    → AllSettled stations sessions later after → rs ≡ map runner_of later → HaveEqualShares sessions → ¬ AreTooMany rs
never_many stations later sessions after rs live settled taken =
    not_many live.0 stations later sessions after rs (settled live.0 live.1) taken

-- the runners that were taken are those that were there before
pub same_taken : (stations later : List StationData) (sessions after : List Session) (rs : List Parts) → LiveScript stations sessions
    → AllSettled stations sessions later after → rs ≡ map runner_of later → rs ≡ map runner_of stations
same_taken stations later sessions after rs live settled taken = taken ∙ (settled live.0 live.1).runners

-- The run that stations have made so far, though nobody merged their logs.

-- runners that each appended commands are a crew of the script with all of them, however many these are
all_crew : (script : ScriptData) (rs : List Parts) → AreShares script rs → IsScript (with_commands script (commands_in rs))
    → IsCrew (with_commands script (commands_in rs)) rs
all_crew script rs shares is_script = record {
  is_script = is_script;
  count = shares.count;
  each = λ k p here.
      let own = shares.each k p here in
      record { script_is = same_in_joined script rs shares k p here; me = own.me; limit = own.limit };
  links = shares.links;
}

pub shared_now : SharedNow
shared_now script rs looked shares is_script seen met kept = record {
  crew = whole;
  commands = refl;
  is_run = run.is_run;
  rising = run.is_merged.rising;
  is_crew_run = same_run made rs looked (each_weaker AsSeen SameLog (λ a b s. s.log) rs looked seen);
  moves = λ k p e. run.is_merged.parts k ∙ own k p e;
}
  where
    made : ScriptData
    made = with_commands script (commands_in rs)

    whole : IsCrew made rs
    whole = all_crew script rs shares is_script

    crew : IsCrew made looked
    crew = crew_last made rs looked (each_weaker AsSeen SameRunner (λ a b s. s.same) rs looked seen) whole

    run : IsJoinedRun made (map part_of looked) (merged made.nodes (logs_of made (map part_of looked)).log)
    run = joined_merges made (map part_of looked) (joined made looked crew kept met)

    own : (k : ℕ) (p : Parts) → slice_get rs k ≡ Some p → (part_at made (map part_of looked) k).log ≡ p.log.entries
    own k p e = by_place (slice_get looked k) refl (subst (λ (o : Option Parts). Alike AsSeen o (slice_get looked k)) e (seen k))
      where
        by_place : (o : Option Parts) → slice_get looked k ≡ o → Alike AsSeen (Some p) (slice_get looked k) → (part_at made (map part_of looked) k).log ≡ p.log.entries
        by_place None f a = absurd (subst (λ (o : Option Parts). Alike AsSeen (Some p) o) f a)
        by_place (Some q) f a =
            let seen_too : AsSeen p q = subst (λ (o : Option Parts). Alike AsSeen (Some p) o) f a in
            ap (λ (part : Part). part.log) (part_is made (map part_of looked) k (part_of q) (part_here looked k q f)) ∙ seen_too.log

pub served_now : ServedNow
served_now script stations later sessions after looked settled is_script seen met kept =
    let rs = map runner_of later in
    let made = with_commands script (commands_in rs) in
    let shared = shared_now script rs looked settled.live.runners is_script seen met kept in
    (made, crew_run made looked, served_run script stations later sessions after rs settled refl made (crew_run made looked) shared)
