-- The replies in the lines of a client's command.
use Rattle.std.proofs.Common.{inl, inr, ◌≡◌, ◌≢◌, ◌≤◌, ℕ, List, [], ◌∷◌, ◌++◌, Option, Some, None, Bool, true, false, refl, sym, ap, subst, ◌∙◌, ◌⊎◌, ◌==◌, if◌then◌else◌, Contains, count_by, not, ◌||◌, eq-eqb, eqb-true, ne_eqb}
use Rattle.std.specs.List.{list_any}
use Rattle.std.proofs.lemmas.Bool.{and_parts, false≢true}
use Rattle.std.proofs.lemmas.List.Elements.{Contains-push_cases, Contains-push, Contains-append_left}
use Rattle.lt_modes.specs.declared.command.Command.TheVariants.{Change, Lock, Try, Unlock}
use Rattle.lt_modes.specs.declared.event.Event.TheVariants.{Wait, NotHeld, Grant, Try as Tried, Unlock as Unlocked, Change as Changed, Withdrawn, Withheld}
use Rattle.lt_modes.specs.declared.mode.Mode.{Mode}
use Rattle.lt_modes.specs.declared.stamp.Stamp.{Stamp}
use Rattle.lt_modes.specs.declared.ask.Ask.{Ask}
use Rattle.lt_modes.specs.declared.command.Command.{Command}
use Rattle.lt_modes.specs.declared.event.Event.{Event}
use Rattle.lt_modes.specs.State.{SetState, ParkedAsk, Made, then_do, same_choice}
use Rattle.lt_modes.specs.Modes.{count_of, take_lock, same_mode}
use Rattle.lt_modes.specs.Granting.{can_grant}
use Rattle.lt_modes.specs.Serving.{answer_by, is_gone, without_gone as left_gone}
use Rattle.lt_modes.specs.Waiting.{pending_ask}
use Rattle.lt_modes.proofs.ModeAlgebra.{same_mode-true}
use Rattle.lt_modes.specs.SetMove.{answers, given, granted, ask_of, asked, asked_or_not, same_wish, locked, tried, unlocked, change_held, changed}
use Rattle.lt_spec.specs.Script.{AnswersCommand}
use Rattle.lt_spec.specs.World.{replies_of}
use Rattle.lt_model.proofs.Voids.{asks_ways}
use Rattle.lt_law_invariant.proofs.OwnSteps.{route_same}
use Rattle.lt_law_invariant.proofs.ClientEffects.{is_asks, one_of_client, gone_same, route_gone}
use Rattle.lt_law_invariant.proofs.ClientCommands.{find_is}
use Rattle.lt_law_lines.proofs.LineRules.{route_says}
use Rattle.lt_law_lines.proofs.WaitRules.{IsLive, live_as}
use Rattle.lt_law_lines.proofs.WaitActs.{NoneOf}
use Rattle.lt_law_own_lines.proofs.OwnRuns.{replies_append}
use Rattle.lt_law_replies.specs.ReplyLaws.{EndsAsk}
use Rattle.lt_law_replies.proofs.ReplyRules.{Replies, AllReplies, then_replies, no_reply}

-- the command has its reply, and no ask of the client is left that it didn't give up
pub record Answered (client : ℕ) (command : Command) (m : Made) : Type 0 where
  pub line : Event
  pub said : replies_of client m.events ≡ line ∷ []
  pub answers : AnswersCommand client command line
  pub none : NoneOf client m.state

-- there is no reply, but an ask of the client, and what ends such an ask answers the command
pub record Asks (client s : ℕ) (command : Command) (m : Made) : Type 0 where
  pub said : replies_of client m.events ≡ []
  pub ask : Ask
  pub there : IsLive m.state client ask
  pub own : ask.client ≡ client
  pub only : (other : Ask) → IsLive m.state client other → other.client ≡ client → (line : Event) → EndsAsk s other line
      → AnswersCommand client command line

-- the replies that the client's command makes: others', and its own where it waited for nothing
pub record ActReplies (client s : ℕ) (command : Command) (t : SetState) (m : Made) : Type 0 where
  pub others : (c : ℕ) → c ≢ client → Replies c s t m
  pub own : NoneOf client t → Answered client command m ⊎ Asks client s command m

-- and then the end of the move
pub act_ends : (client s : ℕ) (command : Command) (t : SetState) (m : Made) (rule : SetState → Made)
    → ActReplies client s command t m → AllReplies s m.state (rule m.state) → ActReplies client s command t (then_do m rule)
act_ends client s command t m rule first second = record {
  others = λ c d. then_replies c s t m rule (first.others c d) (second c);
  own = λ idle. by_cases (first.own idle) (second client);
}
  where
    more : replies_of client (m.events ++ (rule m.state).events) ≡ replies_of client m.events ++ replies_of client (rule m.state).events
    more = replies_append client m.events (rule m.state).events

    by_cases : Answered client command m ⊎ Asks client s command m → Replies client s m.state (rule m.state)
        → Answered client command (then_do m rule) ⊎ Asks client s command (then_do m rule)
    by_cases (inl a) (inl n) = inl (record {
      line = a.line;
      said = more ∙ (λ i. a.said i ++ n.said i);
      answers = a.answers;
      none = λ ask there own. a.none ask (n.older ask own there) own;
    })
    by_cases (inl a) (inr o) = absurd (a.none o.ask o.asked o.own)
    by_cases (inr a) (inl n) = inr (record {
      said = more ∙ (λ i. a.said i ++ n.said i);
      ask = a.ask;
      there = n.stays a.ask a.own a.there;
      own = a.own;
      only = λ ask there own line ends. a.only ask (n.older ask own there) own line ends;
    })
    by_cases (inr a) (inr o) = inl (record {
      line = o.line;
      said = more ∙ (λ i. a.said i ++ o.said i);
      answers = a.only o.ask o.asked o.own o.line o.ends;
      none = o.none;
    })

-- one line, a reply to the client, and the asks as they were
pub answers_at_once : (client s : ℕ) (command : Command) (line : Event) (t : SetState) (m : Made)
    → ((c : ℕ) → replies_of c m.events ≡ (if client == c then line ∷ [] else [])) → AnswersCommand client command line
    → m.state.pending ≡ t.pending → m.state.gone ≡ t.gone → ActReplies client s command t m
answers_at_once client s command line t m says answers same marks = record {
  others = λ c d. no_reply c s t m (says c ∙ ap (λ (own : Bool). if own then line ∷ [] else []) (ne_eqb client c (λ e. d (sym e)))) same marks;
  own = λ idle. inl (record {
    line = line;
    said = says client ∙ ap (λ (own : Bool). if own then line ∷ [] else []) (eq-eqb client client refl);
    answers = answers;
    none = λ ask live. idle ask (live_as m.state t client ask (sym same) (sym marks) live);
  });
}

-- the client waits, and its ask goes to the desk
asks_first : (client s : ℕ) (command : Command) (stamp : Stamp) (mode : Mode) (gives_up : Option Mode) (t : SetState)
    → is_gone t client ≡ false → ((line : Event) → EndsAsk s (ask_of stamp client mode gives_up t) line → AnswersCommand client command line)
    → ActReplies client s command t (asked s stamp (ask_of stamp client mode gives_up t) t)
asks_first client s command stamp mode gives_up t free ended = record {
  others = λ c d. inl (record {
    said = said c;
    stays = λ other mine live. (
      subst (λ (l : List Ask). Contains l other) (sym pending) (Contains-append_left t.pending (ask ∷ []) other live.0),
      marked c ∙ live.1,
    );
    older = λ other mine live. elim (Contains-push_cases t.pending ask other (subst (λ (l : List Ask). Contains l other) pending live.0)) [
      | inl old ↦ (old, sym (marked c) ∙ live.1)
      | inr new ↦ absurd (d (sym mine ∙ ap (λ (x : Ask). x.client) (sym new)))
    ];
  });
  own = λ idle. inr (record {
    said = said client;
    ask = ask;
    there = (subst (λ (l : List Ask). Contains l ask) (sym pending) (Contains-push t.pending ask), marked client ∙ free);
    own = refl;
    only = λ other live mine line ends. elim (Contains-push_cases t.pending ask other (subst (λ (l : List Ask). Contains l other) pending live.0)) [
      | inl old ↦ absurd (idle other (old, free) mine)
      | inr new ↦ ended line (subst (λ (x : Ask). EndsAsk s x line) (sym new) ends)
    ];
  });
}
  where
    ask : Ask
    ask = ask_of stamp client mode gives_up t

    more : SetState
    more = record t { pending = t.pending ++ ask ∷ [] }

    marked : (c : ℕ) → is_gone (asked s stamp ask t).state c ≡ is_gone t c
    marked c = ap (λ (g : List ℕ). list_any (λ other. other == c) g) (route_gone s stamp false (ParkedAsk ask) more)

    pending : (asked s stamp ask t).state.pending ≡ t.pending ++ ask ∷ []
    pending = (route_same s stamp false (ParkedAsk ask) more).1.pending

    said : (c : ℕ) → replies_of c (asked s stamp ask t).events ≡ []
    said c = ap (λ (l : List Event). replies_of c (Wait client s mode ∷ l)) (route_says s stamp false (ParkedAsk ask) more).0

-- none of these clients is the one that was taken out
none_marked : (marks : List ℕ) (client : ℕ) → list_any (λ other. other == client) (left_gone marks client) ≡ false
none_marked [] client = refl
none_marked (x ∷ rest) client = by_test (x == client) refl (none_marked rest client)
  where
    by_test : (here : Bool) → (x == client) ≡ here → list_any (λ other. other == client) (left_gone rest client) ≡ false
        → list_any (λ other. other == client) (if not here then x ∷ left_gone rest client else left_gone rest client) ≡ false
    by_test true e again = again
    by_test false e again = ap (λ (b : Bool). b || list_any (λ other. other == client) (left_gone rest client)) e ∙ again

same_choice-true : (a b : Option Mode) → same_choice a b ≡ true → a ≡ b
same_choice-true None None e = refl
same_choice-true None (Some b) e = cc
same_choice-true (Some a) None e = cc
same_choice-true (Some a) (Some b) e = ap Some (same_mode-true a b e)

-- asks of one client that want the same end with the same lines
same_ends : (s : ℕ) (a b : Ask) (line : Event) → a.client ≡ b.client → a.mode ≡ b.mode → a.gives_up ≡ b.gives_up → EndsAsk s a line → EndsAsk s b line
same_ends s a b line client mode choice (inl e) = inl (e ∙ (by_choice a.gives_up ∙ ap (answer_by s b) choice))
  where
    by_choice : (o : Option Mode) → answer_by s a o ≡ answer_by s b o
    by_choice None = λ i. Grant (client i) s (mode i)
    by_choice (Some given) = λ i. Changed (client i) s given (mode i)
same_ends s a b line client mode choice (inr e) = inr (e ∙ (λ i. Withdrawn (client i) s (mode i)))

-- the client takes an ask up again that it gave up
retaken_replies : (client s : ℕ) (command : Command) (ask : Ask) (t : SetState) → ask.client ≡ client → count_by (is_asks client) t.pending ≤ 1
    → same_wish ask (pending_ask t client) ≡ true → ((line : Event) → EndsAsk s ask line → AnswersCommand client command line)
    → ActReplies client s command t (answers (Wait client s ask.mode) (record t { gone = left_gone t.gone client }))
retaken_replies client s command ask t own few wish ended = record {
  others = λ c d. inl (record {
    said = refl;
    stays = λ other mine live. (live.0, gone_same t.gone client c d ∙ live.1);
    older = λ other mine live. (live.0, sym (gone_same t.gone client c d) ∙ live.1);
  });
  own = λ idle. inr (by_ask (pending_ask t client) refl);
}
  where
    by_ask : (o : Option Ask) → pending_ask t client ≡ o
        → Asks client s command (answers (Wait client s ask.mode) (record t { gone = left_gone t.gone client }))
    by_ask None e = absurd (false≢true (ap (same_wish ask) (sym e) ∙ wish))
    by_ask (Some old) e =
        let found = find_is (is_asks client) t.pending old e in
        let theirs = eqb-true old.client client found.1 in
        let parts = and_parts (same_mode ask.mode old.mode) (same_choice ask.gives_up old.gives_up) (ap (same_wish ask) (sym e) ∙ wish) in
        let one : count_by (is_asks old.client) t.pending ≤ 1 = subst (λ (c : ℕ). count_by (is_asks c) t.pending ≤ 1) (sym theirs) few in
        record {
          said = refl;
          ask = old;
          there = (found.0, none_marked t.gone client);
          own = theirs;
          only = λ other live mine line ends. ended line
              (same_ends s old ask line (theirs ∙ sym own) (sym (same_mode-true ask.mode old.mode parts.0))
              (sym (same_choice-true ask.gives_up old.gives_up parts.1))
              (subst (λ (x : Ask). EndsAsk s x line) (sym (one_of_client t.pending old other one found.0 live.0 (mine ∙ sym theirs))) ends));
        }

-- the client asks, or takes an ask up again that it gave up, or is told to try later
ask_replies : (client s : ℕ) (command : Command) (stamp : Stamp) (mode : Mode) (gives_up : Option Mode) (t : SetState)
    → count_by (is_asks client) t.pending ≤ 1
    → ((line : Event) → EndsAsk s (ask_of stamp client mode gives_up t) line → AnswersCommand client command line)
    → AnswersCommand client command (Withheld client s mode)
    → ActReplies client s command t (asked_or_not s stamp (ask_of stamp client mode gives_up t) t)
ask_replies client s command stamp mode gives_up t few ended withheld =
    asks_ways (ActReplies client s command t) s stamp (ask_of stamp client mode gives_up t) t
    (λ free. asks_first client s command stamp mode gives_up t free ended)
    (λ gone same. retaken_replies client s command (ask_of stamp client mode gives_up t) t refl few same ended)
    (answers_at_once client s command (Withheld client s mode) t (answers (Withheld client s mode) t) (λ c. refl) withheld refl refl)

pub locked_replies : (client s : ℕ) (stamp : Stamp) (mode : Mode) (t : SetState) → count_by (is_asks client) t.pending ≤ 1
    → ActReplies client s (Lock s mode) t (locked s stamp client mode t)
locked_replies client s stamp mode t few = by_test (can_grant stamp.node t client mode)
  where
    ended : (line : Event) → EndsAsk s (ask_of stamp client mode None t) line → AnswersCommand client (Lock s mode) line
    ended line (inl e) = inl e
    ended line (inr e) = inr (inl e)

    by_test : (can : Bool) → ActReplies client s (Lock s mode) t
        (if can then granted s client mode t else asked_or_not s stamp (ask_of stamp client mode None t) t)
    by_test true = answers_at_once client s (Lock s mode) (Grant client s mode) t (granted s client mode t) (λ c. refl) (inl refl) refl refl
    by_test false = ask_replies client s (Lock s mode) stamp mode None t few ended (inr (inr refl))

pub tried_replies : (client s : ℕ) (stamp : Stamp) (mode : Mode) (t : SetState)
    → ActReplies client s (Try s mode) t (tried s stamp client mode t)
tried_replies client s stamp mode t = by_test (can_grant stamp.node t client mode)
  where
    by_test : (can : Bool) → ActReplies client s (Try s mode) t
        (if can then answers (Tried client s mode true) (given client mode None t) else answers (Tried client s mode false) t)
    by_test true = answers_at_once client s (Try s mode) (Tried client s mode true) t
        (answers (Tried client s mode true) (given client mode None t)) (λ c. refl) (true, refl) refl refl
    by_test false = answers_at_once client s (Try s mode) (Tried client s mode false) t
        (answers (Tried client s mode false) t) (λ c. refl) (false, refl) refl refl

pub unlocked_replies : (client s : ℕ) (mode : Mode) (t : SetState)
    → ActReplies client s (Unlock s mode) t (unlocked s client mode t)
unlocked_replies client s mode t = by_test (count_of t.held client mode == 0)
  where
    by_test : (none : Bool) → ActReplies client s (Unlock s mode) t
        (if none then answers (NotHeld client s mode) t else answers (Unlocked client s mode) (record t { held = take_lock t.held client mode }))
    by_test true = answers_at_once client s (Unlock s mode) (NotHeld client s mode) t
        (answers (NotHeld client s mode) t) (λ c. refl) (inr refl) refl refl
    by_test false = answers_at_once client s (Unlock s mode) (Unlocked client s mode) t
        (answers (Unlocked client s mode) (record t { held = take_lock t.held client mode })) (λ c. refl) (inl refl) refl refl

pub changed_replies : (client s : ℕ) (stamp : Stamp) (gives_up mode : Mode) (t : SetState) → count_by (is_asks client) t.pending ≤ 1
    → ActReplies client s (Change s gives_up mode) t (changed s stamp client gives_up mode t)
changed_replies client s stamp gives_up mode t few = by_count (count_of t.held client gives_up == 0)
  where
    ended : (line : Event) → EndsAsk s (ask_of stamp client mode (Some gives_up) t) line → AnswersCommand client (Change s gives_up mode) line
    ended line (inl e) = inl e
    ended line (inr e) = inr (inr (inl e))

    by_test : (can : Bool) → ActReplies client s (Change s gives_up mode) t
        (if can then answers (Changed client s gives_up mode) (given client mode (Some gives_up) t)
        else asked_or_not s stamp (ask_of stamp client mode (Some gives_up) t) t)
    by_test true = answers_at_once client s (Change s gives_up mode) (Changed client s gives_up mode) t
        (answers (Changed client s gives_up mode) (given client mode (Some gives_up) t)) (λ c. refl) (inl refl) refl refl
    by_test false = ask_replies client s (Change s gives_up mode) stamp mode (Some gives_up) t few ended (inr (inr (inr refl)))

    by_count : (none : Bool) → ActReplies client s (Change s gives_up mode) t
        (if none then answers (NotHeld client s gives_up) t else change_held s stamp client gives_up mode t)
    by_count true = answers_at_once client s (Change s gives_up mode) (NotHeld client s gives_up) t
        (answers (NotHeld client s gives_up) t) (λ c. refl) (inr (inl refl)) refl refl
    by_count false = by_test (can_grant stamp.node t client mode)
