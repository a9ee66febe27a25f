-- What has_after says of a lock that was granted last, and of one more command.
use Rattle.std.proofs.Common.{◌≡◌, ◌≤◌, ℕ, List, [], ◌∷◌, ◌++◌, length, Bool, true, false, refl, ap, arith, ◌==◌, ◌<◌, zero, suc, Some, None, sym, subst, ◌∙◌, slice_get, if◌then◌else◌, ◌≢◌, Option, slice_index_or, inl, inr, ◌&&◌, ◌||◌, not, filter_map, fold, eqb-true, eq-eqb, option_and_then}
use Rattle.std.specs.List.{cons_option}
use Rattle.std.proofs.lemmas.Bool.{cases_lt, cases_eq, false≢true}
use Rattle.std.proofs.lemmas.List.Elements.{All-contains}
use Rattle.std.proofs.lemmas.Option.{slice_get_within, get_or_from_slice_get, slice_get-get_or, same_Some}
use Rattle.std.proofs.Math.Seq.{take-length}
use Rattle.std.proofs.lemmas.List.Sums.{sum_by-cons}
use mathlib.Core.List.{IsPrefix}
use Rattle.lt_modes.specs.declared.command.Command.{Command}
use Rattle.lt_modes.specs.declared.command.Command.TheVariants.{Lock, Try, Unlock, Change, DropAll, Withdraw}
use Rattle.lt_modes.specs.declared.mode.Mode.{Mode}
use Rattle.lt_modes.specs.Script.{ScriptData}
use Rattle.lt_modes.specs.declared.event.Event.{Event}
use Rattle.lt_modes.specs.Modes.{conflicts}
use Rattle.lt_modes.proofs.ModeAlgebra.{conflicts-sym}
use Rattle.lt_spec.specs.Holdings.{Holding, holding, same_holding, holdings, lines_of, times_held, agree, IsLawful}
use Rattle.lt_spec.specs.Script.{IsScript, IsRequest, AnswersAt, AnswersInTurn}
use Rattle.lt_spec.specs.NodeMove.{command_if, commands_of, with_commands}
use Rattle.lt_spec.specs.World.{Logged, replies_of}
use Rattle.lt_script.proofs.RoundTrips.{get_in_front}
use Rattle.lt_law_invariant.proofs.FewAsks.{whole}
use Rattle.lt_law_lines.proofs.LineCounts.{same_holding-itself, lines_count, count_after, same_holding-true}
use Rattle.lt_law_lines.proofs.KeptLines.{holdings_are_lawful}
use Rattle.lt_law_replies.proofs.ReplyRuns.{replies_in_turn}
use Rattle.lt_live.specs.declared.reply.Reply.{Reply}
use Rattle.lt_live.specs.declared.reply.Reply.TheVariants.{Granted, True, Changed}
use Rattle.lt_live.specs.declared.ends.Session.{Session}
use Rattle.lt_live.specs.Seats.{reply_to, replies_in}
use Rattle.lt_live.specs.Words.{submitted, polled}
use Rattle.lt_live.specs.Live.{IsServedRun}
use Rattle.lt_live.proofs.Finished.{replies_of_lines}
use Rattle.lt_law_sessions.specs.SessionLaws.{may_take_away, leaves_locks, took_away, gives, has_after, GrantedIsHad, HadUnlessTaken, HadAsBefore, StillHolds, StillIsHeld, SessionsExclude}
use Rattle.lt_law_sessions.proofs.LineEffects.{takes, not_taken, not_taken_by, line_given, held_after}
use Rattle.lt_law_sessions.proofs.GivenLocks.{GivenAt, taken_by, given_at}

had_at_last : (script : ScriptData) (client set : ℕ) (mode : Mode) (commands : List Command) (replies : List Reply) (has : Bool) → length replies ≡ length commands
    → has_after script client (holding client set mode) (commands ++ Lock set mode ∷ []) (replies ++ Granted ∷ []) has ≡ true
had_at_last script client set mode [] [] has same =
    ap (λ (b : Bool). b || (has && not false)) (same_holding-itself (holding client set mode))
had_at_last script client set mode [] (r ∷ rs) has same = absurd (omega (arith, same))
had_at_last script client set mode (c ∷ cs) [] has same = absurd (omega (arith, same))
had_at_last script client set mode (c ∷ cs) (r ∷ rs) has same =
    had_at_last script client set mode cs rs
    (gives client (holding client set mode) c r || (has && not (took_away script client (holding client set mode) c r))) (omega (arith, same))

one_more : (script : ScriptData) (client : ℕ) (lock : Holding) (commands : List Command) (replies : List Reply) (command : Command) (has : Bool)
    → length replies ≤ length commands
    → has_after script client lock (commands ++ command ∷ []) replies has ≡ (has_after script client lock commands replies has && not (may_take_away script client lock command))
one_more script client lock [] [] command has few = refl
one_more script client lock [] (r ∷ rs) command has few = absurd (omega (arith, few))
one_more script client lock (c ∷ cs) [] command has few =
    one_more script client lock cs [] command (has && not (may_take_away script client lock c)) (omega arith)
one_more script client lock (c ∷ cs) (r ∷ rs) command has few =
    one_more script client lock cs rs command (gives client lock c r || (has && not (took_away script client lock c r))) (omega (arith, few))

-- a reply that leaves all locks gives none
none_given : (client : ℕ) (lock : Holding) (command : Command) (reply : Reply) → leaves_locks reply ≡ true → gives client lock command reply ≡ false
none_given client lock (Lock set mode) Granted e = absurd (false≢true e)
none_given client lock (Lock set mode) reply e = refl
none_given client lock (Try set mode) True e = absurd (false≢true e)
none_given client lock (Try set mode) reply e = refl
none_given client lock (Change set gives_up mode) Changed e = absurd (false≢true e)
none_given client lock (Change set gives_up mode) reply e = refl
none_given client lock (Unlock set mode) reply e = refl
none_given client lock (DropAll other set) reply e = refl
none_given client lock (Withdraw other set) reply e = refl

left_by_one : (script : ScriptData) (client : ℕ) (lock : Holding) (commands : List Command) (replies : List Reply) (command : Command) (reply : Reply) (has : Bool)
    → length replies ≡ length commands → leaves_locks reply ≡ true
    → has_after script client lock (commands ++ command ∷ []) (replies ++ reply ∷ []) has ≡ has_after script client lock commands replies has
left_by_one script client lock [] [] command reply has same leaves =
    ap (λ (b : Bool). b || (has && not (took_away script client lock command reply))) (none_given client lock command reply leaves)
    ∙ ap (λ (b : Bool). has && not (not b && may_take_away script client lock command)) leaves ∙ alone has
  where
    alone : (x : Bool) → (x && true) ≡ x
    alone true = refl
    alone false = refl
left_by_one script client lock [] (r ∷ rs) command reply has same leaves = absurd (omega (arith, same))
left_by_one script client lock (c ∷ cs) [] command reply has same leaves = absurd (omega (arith, same))
left_by_one script client lock (c ∷ cs) (r ∷ rs) command reply has same leaves =
    left_by_one script client lock cs rs command reply (gives client lock c r || (has && not (took_away script client lock c r))) (omega (arith, same)) leaves

pub granted_is_had : GrantedIsHad
granted_is_had script client set mode commands replies same = had_at_last script client set mode commands replies false same

pub had_unless_taken : HadUnlessTaken
had_unless_taken script client lock commands replies command few = one_more script client lock commands replies command false few

pub had_as_before : HadAsBefore
had_as_before script client lock commands replies command reply same leaves =
    left_by_one script client lock commands replies command reply false same leaves

-- A client that has a command is one of the script.

below_by : (requests : List (ℕ × Command)) (client n q : ℕ) (command : Command) → slice_get (filter_map (command_if client) requests) q ≡ Some command
    → ((k : ℕ) (r : ℕ × Command) → slice_get requests k ≡ Some r → r.0 < n) → client < n
below_by [] client n zero command e all = absurd (cc)
below_by [] client n (suc q) command e all = absurd (cc)
below_by (r ∷ rest) client n q command e all =
    by_test (r.0 == client) refl (λ p f. below_by rest client n p command f (λ k x g. all (suc k) x g))
  where
    by_test : (b : Bool) → (r.0 == client) ≡ b → ((p : ℕ) → slice_get (filter_map (command_if client) rest) p ≡ Some command → client < n) → client < n
    by_test true is again = subst (λ (c : ℕ). c < n) (eqb-true r.0 client is) (all 0 r refl)
    by_test false is again =
        again q (sym (ap (λ (b : Bool). slice_get (cons_option (if b then Some r.1 else None) (filter_map (command_if client) rest)) q) is) ∙ e)

pub client_below : (script : ScriptData) → IsScript script → (client q : ℕ) (command : Command) → slice_get (commands_of script client) q ≡ Some command
    → client < length script.clients
client_below script is client q command e =
    below_by script.commands client (length script.clients) q command e
    (λ k r at. (All-contains (IsRequest script.sets script.clients) script.commands r is.requests
    (k, slice_get_within script.commands k r at, get_or_from_slice_get script.commands k r r at)).0)

-- What sessions hold for sure is held, and doesn't conflict.

in_prefix : {X : Type 0} (xs ys : List X) → IsPrefix xs ys → (k : ℕ) (x : X) → slice_get xs k ≡ Some x → slice_get ys k ≡ Some x
in_prefix xs ys h k x at =
    ap (λ list. slice_get list k) (sym h.1) ∙ get_in_front xs h.0 k (slice_get_within xs k x at) ∙ at

-- the commands of a script say nothing of what a command may take
same_take : (first : ScriptData) (commands : List (ℕ × Command)) (client : ℕ) (lock : Holding) (command : Command)
    → may_take_away (with_commands first commands) client lock command ≡ may_take_away first client lock command
same_take first commands client lock (Lock set mode) = refl
same_take first commands client lock (Try set mode) = refl
same_take first commands client lock (Unlock set mode) = refl
same_take first commands client lock (Change set gives_up mode) = refl
same_take first commands client lock (DropAll other set) = refl
same_take first commands client lock (Withdraw other set) = refl

module _ (first script : ScriptData) (sessions : List Session) (run : List Logged) (served : IsServedRun first sessions script run)
    (count : length sessions ≡ length first.clients) where
  turn : (client : ℕ) → AnswersInTurn client (commands_of script client) (replies_of client (lines_of run))
  turn client =
      subst (λ (list : List Logged). AnswersInTurn client (commands_of script client) (replies_of client (lines_of list))) (take-length run)
      (replies_in_turn script run (whole script served.is_script) served.is_run (length run) client)

  takes_same : (client : ℕ) (lock : Holding) (command : Command) → may_take_away script client lock command ≡ may_take_away first client lock command
  takes_same client lock command =
      ap (λ (s : ScriptData). may_take_away s client lock command) served.same ∙ same_take first script.commands client lock command

  takes_not : (client : ℕ) (lock : Holding) (command : Command) → may_take_away first client lock command ≡ false → may_take_away script client lock command ≡ false
  takes_not client lock command e = takes_same client lock command ∙ e

  -- a reply to another client doesn't take the lock
  other_takes_not : (client other : ℕ) (s : Session) (lock : Holding) → StillHolds first sessions client s lock → other ≢ client
      → (q : ℕ) (line : Event) → slice_get (replies_of other (lines_of run)) q ≡ Some line → takes script lock line ≡ false
  other_takes_not client other s lock holds apart q line e =
      let answers = turn other q line e in
      let known = client_below script served.is_script other q answers.0 answers.1 in
      let inside : other < length sessions =
      subst (λ (n : ℕ). other < n) (sym count) (subst (λ (d : ScriptData). other < length d.clients) served.same known) in
      let t = slice_index_or sessions other s in
      let here = slice_get-get_or sessions other s inside in
      let given = in_prefix (commands_of script other) (submitted t) (served.each other t here).commands q answers.0 answers.1 in
      not_taken script other lock answers.0 line answers.2
      (takes_not other lock answers.0 (holds.others other t q answers.0 apart here given))

  -- nor does a later one to the client itself
  own_takes_not : (client : ℕ) (s : Session) (lock : Holding) → slice_get sessions client ≡ Some s
      → (at : GivenAt first client lock (submitted s) (polled s))
      → (q : ℕ) (line : Event) → at.place < q → slice_get (replies_of client (lines_of run)) q ≡ Some line → takes script lock line ≡ false
  own_takes_not client s lock here at q line past e =
      by_reply (slice_get (polled s) q) refl (at.later q answers.0 past given)
    where
      answers : AnswersAt client (commands_of script client) q line
      answers = turn client q line e

      given : slice_get (submitted s) q ≡ Some answers.0
      given = in_prefix (commands_of script client) (submitted s) (served.each client s here).commands q answers.0 answers.1

      said : (reply : Reply) → slice_get (polled s) q ≡ Some reply → reply_to client line ≡ Some reply
      said reply is =
          sym (ap (option_and_then (reply_to client)) e)
          ∙ (sym (replies_of_lines client (lines_of run) q)
          ∙ in_prefix (polled s) (replies_in client (lines_of run)) (served.each client s here).replies q reply is)

      by_reply : (o : Option Reply) → slice_get (polled s) q ≡ o → taken_by first client lock answers.0 o ≡ false → takes script lock line ≡ false
      by_reply None is free = not_taken script client lock answers.0 line answers.2 (takes_not client lock answers.0 free)
      by_reply (Some reply) is free =
          not_taken_by script client lock answers.0 line reply answers.2 (said reply is)
          (ap (λ (b : Bool). not (leaves_locks reply) && b) (takes_same client lock answers.0) ∙ free)

  by_line : (client : ℕ) (s : Session) (lock : Holding) → slice_get sessions client ≡ Some s → StillHolds first sessions client s lock
      → (at : GivenAt first client lock (submitted s) (polled s))
      → (found : Option Event) → slice_get (replies_of client (lines_of run)) at.place ≡ found → option_and_then (reply_to client) found ≡ Some at.reply
      → 1 ≤ fold (count_after script lock) 0 (lines_of run)
  by_line client s lock here holds at None there said = absurd (cc)
  by_line client s lock here holds at (Some line) there said =
      let answers = turn client at.place line there in
      let given = in_prefix (commands_of script client) (submitted s) (served.each client s here).commands at.place answers.0 answers.1 in
      let same : answers.0 ≡ at.command = same_Some answers.0 at.command (sym given ∙ at.asked) in
      held_after script lock client (lines_of run) at.place 0 line there
      (line_given client lock answers.0 line at.reply answers.2 said
      (ap (λ (c : Command). gives client lock c at.reply) same ∙ at.given))
      (own_takes_not client s lock here at)
      (λ other apart. other_takes_not client other s lock holds apart)

  pub held_still : (client : ℕ) (s : Session) (lock : Holding) → slice_get sessions client ≡ Some s → StillHolds first sessions client s lock
      → 1 ≤ times_held (holdings script (lines_of run)) lock
  held_still client s lock here holds =
      let at = given_at first client lock (submitted s) (polled s) holds.has in
      let told : slice_get (replies_in client (lines_of run)) at.place ≡ Some at.reply =
      in_prefix (polled s) (replies_in client (lines_of run)) (served.each client s here).replies at.place at.reply at.told in
      subst (λ (n : ℕ). 1 ≤ n) (sym (lines_count script lock [] (lines_of run)))
      (by_line client s lock here holds at (slice_get (replies_of client (lines_of run)) at.place) refl
      (sym (replies_of_lines client (lines_of run) at.place) ∙ told))

-- a lock that counts stands at some place
found : (held : List Holding) (lock : Holding) → 1 ≤ times_held held lock
    → (i : ℕ) × (i < length held) × ((d : Holding) → slice_index_or held i d ≡ lock)
found [] lock some = absurd (omega (arith, some))
found (x ∷ rest) lock some = by_test (same_holding lock x) refl (λ more. found rest lock more)
  where
    by_test : (b : Bool) → same_holding lock x ≡ b
        → (1 ≤ times_held rest lock → (i : ℕ) × (i < length rest) × ((d : Holding) → slice_index_or rest i d ≡ lock))
        → (i : ℕ) × (i < length (x ∷ rest)) × ((d : Holding) → slice_index_or (x ∷ rest) i d ≡ lock)
    by_test true e again = (0, omega arith, λ d. sym (same_holding-true lock x e))
    by_test false e again =
        let none : ◌≡◌ {A = ℕ} (if same_holding lock x then 1 else 0) 0 = ap (λ (b : Bool). if b then 1 else 0) e in
        let there = again (omega (arith, some, none, sum_by-cons (λ (y : Holding). if same_holding lock y then 1 else 0) x rest)) in
        (suc there.0, omega (arith, there.1), λ d. there.2 d)

-- locks of one set and two clients that agree don't conflict
clear : (a b set : ℕ) (m n : Mode) → a ≢ b → agree (holding a set m) (holding b set n) ≡ true → conflicts m n ≡ false
clear a b set m n apart e = by_tests (set == set) (a == b) (conflicts m n) (eq-eqb set set refl) refl e
  where
    by_tests : (sets clients bad : Bool) → sets ≡ true → (a == b) ≡ clients → (not sets || (clients || not bad)) ≡ true → bad ≡ false
    by_tests false clients bad s c h = absurd (false≢true s)
    by_tests true true bad s c h = absurd (apart (eqb-true a b c))
    by_tests true false true s c h = absurd (false≢true h)
    by_tests true false false s c h = refl

exclude_in : (held : List Holding) (a b set : ℕ) (m n : Mode) → IsLawful held → a ≢ b → 1 ≤ times_held held (holding a set m) → 1 ≤ times_held held (holding b set n)
    → conflicts m n ≡ false
exclude_in held a b set m n lawful apart one two =
    let x = found held (holding a set m) one in
    let y = found held (holding b set n) two in
    elim (cases_lt x.0 y.0) [
      | inl before ↦
          let h = lawful x.0 y.0 (holding a set m) before y.1 in
          clear a b set m n apart
          (subst (λ (u : Holding). agree u (holding b set n) ≡ true) (x.2 (holding a set m))
          (subst (λ (u : Holding). agree (slice_index_or held x.0 (holding a set m)) u ≡ true) (y.2 (holding a set m)) h))
      | inr rest ↦ elim (cases_eq x.0 y.0) [
        | inl same ↦
            let is : holding a set m ≡ holding b set n =
            sym (x.2 (holding a set m)) ∙ ap (λ i. slice_index_or held i (holding a set m)) same ∙ y.2 (holding a set m) in
            absurd (apart (ap (λ (h : Holding). h.client) is))
        | inr differ ↦
            let h = lawful y.0 x.0 (holding a set m) (omega (arith, rest, differ)) x.1 in
            conflicts-sym m n ∙ clear b a set n m (λ e. apart (sym e))
            (subst (λ (u : Holding). agree u (holding a set m) ≡ true) (y.2 (holding a set m))
            (subst (λ (u : Holding). agree (slice_index_or held y.0 (holding a set m)) u ≡ true) (x.2 (holding a set m)) h))
      ]
    ]

pub still_is_held : StillIsHeld
still_is_held first script sessions run served count client s lock here holds = held_still first script sessions run served count client s lock here holds

pub sessions_exclude : SessionsExclude
sessions_exclude first script sessions run served count a b s t apart here there set m n one two =
    let lawful : IsLawful (holdings script (lines_of run)) =
    subst (λ (list : List Logged). IsLawful (holdings script (lines_of list))) (take-length run)
    (holdings_are_lawful script run (whole script served.is_script) served.is_run (length run)) in
    exclude_in (holdings script (lines_of run)) a b set m n lawful apart
    (held_still first script sessions run served count a s (holding a set m) here one)
    (held_still first script sessions run served count b t (holding b set n) there two)
