-- The replies in the lines of a node's move keep the turn of the client's commands.
use Rattle.std.proofs.Common.{◌≡◌, ◌≢◌, ℕ, zero, suc, ◌+◌, ◌<◌, inl, inr, List, [], ◌∷◌, ◌++◌, length, Some, refl, sym, ap, subst, arith, ◌∙◌, ◌⊎◌, slice_get, append-nil, append_assoc}
use Rattle.std.specs.List.{AllByRecursion}
use Rattle.std.proofs.lemmas.Bool.{cases_eq}
use Rattle.std.proofs.lemmas.List.{length_push}
use Rattle.std.proofs.lemmas.Option.{same_Some}
use Rattle.lt_modes.specs.declared.ask.Ask.{Ask}
use Rattle.lt_modes.specs.declared.command.Command.{Command}
use Rattle.lt_modes.specs.declared.event.Event.{Event}
use Rattle.lt_modes.specs.State.{SetState, Made}
use Rattle.lt_lists.specs.Below.{put}
use Rattle.lt_lists.proofs.Puts.{put-same, put-other}
use Rattle.lt_spec.specs.NodeMove.{NodeState, touched, each_touched}
use Rattle.lt_model.proofs.NodeEffects.{IsOnce}
use Rattle.lt_law_lines.proofs.WaitRules.{IsLive}
use Rattle.lt_law_lines.proofs.WaitActs.{NoneOf}
use Rattle.lt_law_lines.proofs.WaitMoves.{IsFree}
use Rattle.lt_spec.specs.World.{replies_of}
use Rattle.lt_law_own_lines.proofs.OwnRuns.{replies_append}
use Rattle.lt_spec.specs.Script.{AnswersAt, AnswersInTurn}
use Rattle.lt_law_replies.specs.ReplyLaws.{EndsAsk}
use Rattle.lt_law_replies.proofs.ReplyRules.{NoReply, OneReply, Replies, AllReplies}
use Rattle.lt_law_replies.proofs.ReplyActs.{Answered, Asks, ActReplies}
use Rattle.lt_law_replies.proofs.ReplyWithdraws.{EndsItself}

-- the client waits for nothing in these sets, and each command that it has made has its reply
pub record IsDone (count : ℕ) (sets : ℕ → SetState) (c made : ℕ) (replies : List Event) : Type 0 where
  pub free : IsFree count sets c
  pub all : length replies ≡ made

-- an ask of the client is unanswered, in one set, and what ends it answers the last command, the only one with no reply
pub record IsOpen (count : ℕ) (sets : ℕ → SetState) (c : ℕ) (commands : List Command) (made : ℕ) (replies : List Event) : Type 0 where
  pub at : ℕ
  pub inside : at < count
  pub ask : Ask
  pub there : IsLive (sets at) c ask
  pub own : ask.client ≡ c
  pub all_but_one : length replies + 1 ≡ made
  pub only : (s : ℕ) → s < count → (other : Ask) → IsLive (sets s) c other → other.client ≡ c
      → (s ≡ at) × ((line : Event) → EndsAsk s other line → AnswersAt c commands (length replies) line)

-- the replies so far answer the commands in turn, and those made are all answered, or all but the one that waits
pub record InTurn (count : ℕ) (sets : ℕ → SetState) (c : ℕ) (commands : List Command) (made : ℕ) (replies : List Event) : Type 0 where
  pub turn : AnswersInTurn c commands replies
  pub rest : IsDone count sets c made replies ⊎ IsOpen count sets c commands made replies

-- with the replies of these lines, and no command more, they are so of other sets
abbrev pub Follows : ℕ → (ℕ → SetState) → (ℕ → SetState) → ℕ → List Event → Type 0
Follows count before after c lines = (commands : List Command) (made : ℕ) (replies : List Event)
    → InTurn count before c commands made replies → InTurn count after c commands made (replies ++ replies_of c lines)

-- a line is one of the list or the one that was pushed
pushed : (lines : List Event) (last : Event) (k : ℕ) (line : Event) → slice_get (lines ++ last ∷ []) k ≡ Some line
    → (slice_get lines k ≡ Some line) ⊎ ((k ≡ length lines) × (last ≡ line))
pushed [] last zero line e = inr (refl, same_Some last line e)
pushed [] last (suc k) line e = cc
pushed (first ∷ rest) last zero line e = inl e
pushed (first ∷ rest) last (suc k) line e = elim (pushed rest last k line e) [
  | inl old ↦ inl old
  | inr new ↦ inr (omega (arith, new.0), new.1)
]

-- one reply more
answers_more : (c : ℕ) (commands : List Command) (replies : List Event) (line : Event) → AnswersInTurn c commands replies
    → AnswersAt c commands (length replies) line → AnswersInTurn c commands (replies ++ line ∷ [])
answers_more c commands replies line turn now k other e = elim (pushed replies line k other e) [
  | inl old ↦ turn k other old
  | inr new ↦ subst (λ (x : Event). AnswersAt c commands k x) new.1 (subst (λ (i : ℕ). AnswersAt c commands i line) (sym new.0) now)
]

pub stays_so : (count : ℕ) (sets : ℕ → SetState) (c : ℕ) → Follows count sets sets c []
stays_so count sets c commands made replies h = subst (InTurn count sets c commands made) (sym (append-nil replies)) h

pub then_follows : (count : ℕ) (f g h : ℕ → SetState) (c : ℕ) (first later : List Event) → Follows count f g c first
    → Follows count g h c later → Follows count f h c (first ++ later)
then_follows count f g h c first later one two commands made replies before =
    subst (InTurn count h c commands made)
    (append_assoc replies (replies_of c first) (replies_of c later) ∙ ap (λ (l : List Event). replies ++ l) (sym (replies_append c first later)))
    (two commands made (replies ++ replies_of c first) (one commands made replies before))

-- an ask in a set that was put there, or in another one
put_cases : {A : Type 0} (sets : ℕ → SetState) (s : ℕ) (now : SetState) (x c : ℕ) (ask : Ask) → IsLive (put sets s now x) c ask
    → (x ≡ s → IsLive now c ask → A) → (x ≢ s → IsLive (sets x) c ask → A) → A
put_cases sets s now x c ask live here aside = elim (cases_eq x s) [
  | inl e ↦ here e (subst (λ (t : SetState). IsLive t c ask) (ap (put sets s now) e ∙ put-same sets s now) live)
  | inr d ↦ aside d (subst (λ (t : SetState). IsLive t c ask) (put-other sets s now x d) live)
]

put_here : (sets : ℕ → SetState) (s : ℕ) (now : SetState) (c : ℕ) (ask : Ask) → IsLive now c ask → IsLive (put sets s now s) c ask
put_here sets s now c ask live = subst (λ (t : SetState). IsLive t c ask) (sym (put-same sets s now)) live

-- a rule on one set that leaves a client's asks
put_silent : (count : ℕ) (sets : ℕ → SetState) (s : ℕ) (m : Made) (c : ℕ) → NoReply c (sets s) m → Follows count sets (put sets s m.state) c m.events
put_silent count sets s m c n commands made replies h =
    subst (InTurn count (put sets s m.state) c commands made) (sym (ap (λ (l : List Event). replies ++ l) n.said ∙ append-nil replies))
    (record { turn = h.turn; rest = by_rest h.rest })
  where
    kept : (x : ℕ) (ask : Ask) → ask.client ≡ c → IsLive (sets x) c ask → IsLive (put sets s m.state x) c ask
    kept x ask own live = elim (cases_eq x s) [
      | inl e ↦ subst (λ (k : ℕ). IsLive (put sets s m.state k) c ask) (sym e)
          (put_here sets s m.state c ask (n.stays ask own (subst (λ (k : ℕ). IsLive (sets k) c ask) e live)))
      | inr d ↦ subst (λ (t : SetState). IsLive t c ask) (sym (put-other sets s m.state x d)) live
    ]

    older : (x : ℕ) (ask : Ask) → ask.client ≡ c → IsLive (put sets s m.state x) c ask → IsLive (sets x) c ask
    older x ask own live = put_cases sets s m.state x c ask live
        (λ e now. subst (λ (k : ℕ). IsLive (sets k) c ask) (sym e) (n.older ask own now)) (λ d now. now)

    by_rest : IsDone count sets c made replies ⊎ IsOpen count sets c commands made replies
        → IsDone count (put sets s m.state) c made replies ⊎ IsOpen count (put sets s m.state) c commands made replies
    by_rest (inl done) = inl (record { free = λ x below ask there own. done.free x below ask (older x ask own there) own; all = done.all })
    by_rest (inr waits) = inr (record {
      at = waits.at;
      inside = waits.inside;
      ask = waits.ask;
      there = kept waits.at waits.ask waits.own waits.there;
      own = waits.own;
      all_but_one = waits.all_but_one;
      only = λ x below other there own. waits.only x below other (older x other own there) own;
    })

-- an ask of the client in one set ends, with this line
put_ends : (count : ℕ) (sets : ℕ → SetState) (s : ℕ) (now : SetState) (c : ℕ) (ask : Ask) (line : Event) → s < count → IsLive (sets s) c ask → ask.client ≡ c
    → EndsAsk s ask line → NoneOf c now → (commands : List Command) (made : ℕ) (replies : List Event) → InTurn count sets c commands made replies
    → AnswersInTurn c commands (replies ++ line ∷ []) × IsDone count (put sets s now) c made (replies ++ line ∷ [])
put_ends count sets s now c ask line inside live own ends none commands made replies h = by_rest h.rest
  where
    by_rest : IsDone count sets c made replies ⊎ IsOpen count sets c commands made replies
        → AnswersInTurn c commands (replies ++ line ∷ []) × IsDone count (put sets s now) c made (replies ++ line ∷ [])
    by_rest (inl done) = absurd (done.free s inside ask live own)
    by_rest (inr waits) =
        let found = waits.only s inside ask live own in (
          answers_more c commands replies line h.turn (found.1 line ends),
          record {
            free = λ x below other there mine. put_cases sets s now x c other there
                (λ e here. none other here mine) (λ d here. d ((waits.only x below other here mine).0 ∙ sym found.0));
            all = omega (arith, length_push replies line, waits.all_but_one);
          },
        )

-- a rule on one set that ends the client's ask
put_answer : (count : ℕ) (sets : ℕ → SetState) (s : ℕ) (m : Made) (c : ℕ) → s < count → OneReply c s (sets s) m
    → Follows count sets (put sets s m.state) c m.events
put_answer count sets s m c inside o commands made replies h =
    let ended = put_ends count sets s m.state c o.ask o.line inside o.asked o.own o.ends o.none commands made replies h in
    subst (InTurn count (put sets s m.state) c commands made) (sym (ap (λ (l : List Event). replies ++ l) o.said))
    (record { turn = ended.0; rest = inl ended.1 })

-- a rule on one set
pub put_follows : (count : ℕ) (sets : ℕ → SetState) (s : ℕ) (m : Made) (c : ℕ) → s < count → Replies c s (sets s) m
    → Follows count sets (put sets s m.state) c m.events
put_follows count sets s m c inside (inl n) = put_silent count sets s m c n
put_follows count sets s m c inside (inr o) = put_answer count sets s m c inside o

-- who is free has a reply to each command
pub all_answered : (count : ℕ) (sets : ℕ → SetState) (c : ℕ) (commands : List Command) (made : ℕ) (replies : List Event)
    → InTurn count sets c commands made replies → IsFree count sets c → length replies ≡ made
all_answered count sets c commands made replies h free = by_rest h.rest
  where
    by_rest : IsDone count sets c made replies ⊎ IsOpen count sets c commands made replies → length replies ≡ made
    by_rest (inl done) = done.all
    by_rest (inr waits) = absurd (free waits.at waits.inside waits.ask waits.there waits.own)

-- a command that is answered at once, of a client that is free
pub one_more : (count : ℕ) (sets : ℕ → SetState) (c : ℕ) (commands : List Command) (made : ℕ) (replies : List Event) (line : Event)
    → AnswersInTurn c commands replies → AnswersAt c commands (length replies) line → IsFree count sets c → length replies ≡ made
    → InTurn count sets c commands (made + 1) (replies ++ line ∷ [])
one_more count sets c commands made replies line turn now free all = record {
  turn = answers_more c commands replies line turn now;
  rest = inl (record { free = free; all = omega (arith, length_push replies line, all) });
}

-- a command of a client that is free, on one set
pub act_follows : (count : ℕ) (sets : ℕ → SetState) (s : ℕ) (m : Made) (client : ℕ) (command : Command) → s < count → IsFree count sets client
    → ActReplies client s command (sets s) m → (commands : List Command) (made : ℕ) (replies : List Event) → slice_get commands made ≡ Some command
    → InTurn count sets client commands made replies → InTurn count (put sets s m.state) client commands (made + 1) (replies ++ replies_of client m.events)
act_follows count sets s m client command inside free act commands made replies next h = by_cases (act.own (free s inside))
  where
    all : length replies ≡ made
    all = all_answered count sets client commands made replies h free

    at : slice_get commands (length replies) ≡ Some command
    at = ap (slice_get commands) all ∙ next

    by_cases : Answered client command m ⊎ Asks client s command m
        → InTurn count (put sets s m.state) client commands (made + 1) (replies ++ replies_of client m.events)
    by_cases (inl a) =
        subst (InTurn count (put sets s m.state) client commands (made + 1)) (sym (ap (λ (l : List Event). replies ++ l) a.said))
        (one_more count (put sets s m.state) client commands made replies a.line h.turn (command, at, a.answers)
        (λ x below ask there own. put_cases sets s m.state x client ask there (λ e now. a.none ask now own) (λ d now. free x below ask now own)) all)
    by_cases (inr a) =
        subst (InTurn count (put sets s m.state) client commands (made + 1)) (sym (ap (λ (l : List Event). replies ++ l) a.said ∙ append-nil replies))
        (record {
          turn = h.turn;
          rest = inr (record {
            at = s;
            inside = inside;
            ask = a.ask;
            there = put_here sets s m.state client a.ask a.there;
            own = a.own;
            all_but_one = omega (arith, all);
            only = λ x below other there own. put_cases sets s m.state x client other there
                (λ e now. (e, λ line ends. (command, at, a.only other now own line (subst (λ (k : ℕ). EndsAsk k other line) e ends))))
                (λ d now. absurd (free x below other now own));
          });
        })

-- a command of a client that gives up what it waits for in this set: two replies, to the command that waits and to this one
pub itself_follows : (count : ℕ) (sets : ℕ → SetState) (s : ℕ) (m : Made) (client : ℕ) (command : Command) → s < count
    → EndsItself client s command (sets s) m → (commands : List Command) (made : ℕ) (replies : List Event) → slice_get commands made ≡ Some command
    → InTurn count sets client commands made replies → InTurn count (put sets s m.state) client commands (made + 1) (replies ++ replies_of client m.events)
itself_follows count sets s m client command inside gone commands made replies next h =
    let ended = put_ends count sets s m.state client gone.ask gone.first inside gone.asked gone.own gone.ends gone.none commands made replies h in
    let before = replies ++ gone.first ∷ [] in
    subst (InTurn count (put sets s m.state) client commands (made + 1))
    (append_assoc replies (gone.first ∷ []) (gone.second ∷ []) ∙ ap (λ (l : List Event). replies ++ l) (sym gone.said))
    (one_more count (put sets s m.state) client commands made before gone.second ended.0
    (command, ap (slice_get commands) ended.1.all ∙ next, gone.answers) ended.1.free ended.1.all)

-- a rule on each of several sets that differ
pub each_follows : (count : ℕ) (rule : ℕ → SetState → Made) (c : ℕ) (sets : List ℕ) → ((s : ℕ) → IsOnce s sets ⊎ AllByRecursion (λ k. k ≢ s) sets)
    → AllByRecursion (λ s. s < count) sets → (n : NodeState) → AllByRecursion (λ s. AllReplies s (n.set s) (rule s (n.set s))) sets
    → Follows count n.set (each_touched rule sets n).node.set c (each_touched rule sets n).events
each_follows count rule c [] once inside n replies = stays_so count n.set c
each_follows count rule c (s ∷ rest) once inside n replies =
    let m = rule s (n.set s) in
    let next = (touched n s m).node in
    then_follows count n.set next.set (each_touched rule rest next).node.set c m.events (each_touched rule rest next).events
    (put_follows count n.set s m c inside.0 (replies.0 c))
    (each_follows count rule c rest (λ k. later k (once k)) inside.1 next (still rest (first (once s)) replies.1))
  where
    later : (k : ℕ) → IsOnce k (s ∷ rest) ⊎ AllByRecursion (λ x. x ≢ k) (s ∷ rest) → IsOnce k rest ⊎ AllByRecursion (λ x. x ≢ k) rest
    later k (inl (inl own)) = inr own.1
    later k (inl (inr more)) = inl more.1
    later k (inr aside) = inr aside.1

    first : IsOnce s (s ∷ rest) ⊎ AllByRecursion (λ x. x ≢ s) (s ∷ rest) → AllByRecursion (λ x. x ≢ s) rest
    first (inl (inl own)) = own.1
    first (inl (inr more)) = absurd (more.0 refl)
    first (inr aside) = absurd (aside.0 refl)

    still : (others : List ℕ) → AllByRecursion (λ x. x ≢ s) others → AllByRecursion (λ k. AllReplies k (n.set k) (rule k (n.set k))) others
        → AllByRecursion (λ k. AllReplies k (put n.set s (rule s (n.set s)).state k) (rule k (put n.set s (rule s (n.set s)).state k))) others
    still [] apart h = tt
    still (k ∷ more) apart h = (
      subst (λ (t : SetState). AllReplies k t (rule k t)) (sym (put-other n.set s (rule s (n.set s)).state k apart.0)) h.0,
      still more apart.1 h.1,
    )
