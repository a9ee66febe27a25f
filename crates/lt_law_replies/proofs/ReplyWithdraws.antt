-- The replies in the lines of a `withdraw`.
use Rattle.std.proofs.Common.{◌≡◌, ◌≢◌, ℕ, inl, inr, List, [], ◌∷◌, ◌++◌, Some, Bool, true, false, refl, sym, ap, subst, ◌∙◌, ◌⊎◌, ◌==◌, ◌||◌, not, if◌then◌else◌, eq-eqb, eqb-true, ne_eqb}
use Rattle.std.specs.Prelude.{find}
use Rattle.std.specs.List.{list_any}
use Rattle.std.proofs.lemmas.Bool.{and_parts, cases_eq, false≢true}
use Rattle.lt_modes.specs.declared.ask.Ask.{Ask}
use Rattle.lt_modes.specs.declared.command.Command.{Command}
use Rattle.lt_modes.specs.declared.command.Command.TheVariants.{Withdraw}
use Rattle.lt_modes.specs.declared.event.Event.{Event}
use Rattle.lt_modes.specs.declared.event.Event.TheVariants.{Withdraw as WithdrawLine, Withdrawn}
use Rattle.lt_modes.specs.State.{SetState, Made, then_do}
use Rattle.lt_modes.specs.Serving.{is_gone}
use Rattle.lt_modes.specs.Waiting.{waits, pending_ask}
use Rattle.lt_modes.specs.SetMove.{answers, given_up, mode_wanted, withdrawn}
use Rattle.lt_spec.specs.Script.{AnswersCommand}
use Rattle.lt_spec.specs.World.{replies_of}
use Rattle.lt_model.proofs.Voids.{withdraws_ways}
use Rattle.lt_law_invariant.proofs.ClientEffects.{is_asks}
use Rattle.lt_law_invariant.proofs.ClientCommands.{find_is}
use Rattle.lt_law_lines.proofs.WaitRules.{IsLive}
use Rattle.lt_law_lines.proofs.WaitActs.{NoneOf}
use Rattle.lt_law_own_lines.proofs.OwnRuns.{replies_append}
use Rattle.lt_law_replies.specs.ReplyLaws.{EndsAsk}
use Rattle.lt_law_replies.proofs.ReplyRules.{Replies, AllReplies}
use Rattle.lt_law_replies.proofs.ReplyActs.{ActReplies, answers_at_once}

-- a search finds something where something passes
finds : (test : Ask → Bool) (asks : List Ask) → list_any test asks ≡ true → (ask : Ask) × (find test asks ≡ Some ask)
finds test [] e = absurd (false≢true e)
finds test (ask ∷ rest) e = by_test (test ask) e (finds test rest)
  where
    by_test : (now : Bool) → (now || list_any test rest) ≡ true → (list_any test rest ≡ true → (found : Ask) × (find test rest ≡ Some found))
        → (found : Ask) × ((if now then Some ask else find test rest) ≡ Some found)
    by_test true f again = (ask, refl)
    by_test false f again = again f

-- the ask for which a client waits here
record Wanted (t : SetState) (client : ℕ) : Type 0 where
  ask : Ask
  live : IsLive t client ask
  own : ask.client ≡ client
  found : pending_ask t client ≡ Some ask

wanted_here : (t : SetState) (client : ℕ) → waits t client ≡ true → Wanted t client
wanted_here t client waiting =
    let parts = and_parts (list_any (is_asks client) t.pending) (not (is_gone t client)) waiting in
    let found = finds (is_asks client) t.pending parts.0 in
    let there = find_is (is_asks client) t.pending found.0 found.1 in
    record { ask = found.0; live = (there.0, not_true (is_gone t client) parts.1); own = eqb-true found.0.client client there.1; found = found.1 }
  where
    not_true : (b : Bool) → not b ≡ true → b ≡ false
    not_true true e = cc
    not_true false e = refl

-- the marks are those of before, and the client that gives up
either : (x y : Bool) → (x || y) ≡ false → (x ≡ false) × (y ≡ false)
either true y e = cc
either false y e = (refl, e)

-- the line that tells that the ask was given up
ends_so : (s client : ℕ) (t : SetState) (w : Wanted t client) → EndsAsk s w.ask (Withdrawn client s (mode_wanted (pending_ask t client)))
ends_so s client t w = inr (λ i. Withdrawn (sym w.own i) s (ap mode_wanted w.found i))

-- the lines of a `withdraw` that gives something up
abbrev gave : ℕ → ℕ → ℕ → SetState → ℕ → List Event
gave client other s t c = if client == c then WithdrawLine client other s true ∷ [] else []

gave_said : (client other s c : ℕ) (t : SetState)
    → replies_of c (given_up s client other t).events
    ≡ (if other == c then Withdrawn other s (mode_wanted (pending_ask t other)) ∷ gave client other s t c else gave client other s t c)
gave_said client other s c t = refl

-- the client whose ask is given up has none any more that it didn't give up
none_after : (s client other : ℕ) (t : SetState) → NoneOf other (given_up s client other t).state
none_after s client other t ask live own = false≢true (sym (either (other == other) (is_gone t other) live.1).0 ∙ eq-eqb other other refl)

-- a client gives up what another one waits for
pub withdrawn_replies : (client other s : ℕ) (t : SetState) → ActReplies client s (Withdraw other s) t (withdrawn s client other t)
withdrawn_replies client other s t =
    withdraws_ways (ActReplies client s (Withdraw other s) t) s client other t gives
    (λ none. answers_at_once client s (Withdraw other s) (WithdrawLine client other s false) t (answers (WithdrawLine client other s false) t)
    (λ c. refl) (false, refl) refl refl)
  where
    gives : waits t other ≡ true → ActReplies client s (Withdraw other s) t (given_up s client other t)
    gives waiting = record {
      others = λ c d. by_other c d (cases_eq other c);
      own = λ idle. inl (record {
        line = WithdrawLine client other s true;
        said = gave_said client other s client t
            ∙ (ap (λ (own : Bool). if own then Withdrawn other s (mode_wanted (pending_ask t other)) ∷ gave client other s t client else gave client other s t client)
            (ne_eqb other client (differs idle)) ∙ ap (λ (own : Bool). if own then WithdrawLine client other s true ∷ [] else []) (eq-eqb client client refl));
        answers = (true, refl);
        none = λ ask live mine. idle ask (live.0, (either (other == client) (is_gone t client) live.1).1) mine;
      });
    }
      where
        w : Wanted t other
        w = wanted_here t other waiting

        differs : NoneOf client t → other ≢ client
        differs idle e = idle w.ask (subst (λ (x : ℕ). IsLive t x w.ask) e w.live) (w.own ∙ e)

        aside : (c : ℕ) → c ≢ client → gave client other s t c ≡ []
        aside c d = ap (λ (own : Bool). if own then WithdrawLine client other s true ∷ [] else []) (ne_eqb client c (λ e. d (sym e)))

        by_other : (c : ℕ) → c ≢ client → (other ≡ c) ⊎ (other ≢ c) → Replies c s t (given_up s client other t)
        by_other c d (inl e) = inr (record {
          ask = w.ask;
          line = Withdrawn other s (mode_wanted (pending_ask t other));
          ends = ends_so s other t w;
          said = gave_said client other s c t
              ∙ (ap (λ (own : Bool). if own then Withdrawn other s (mode_wanted (pending_ask t other)) ∷ gave client other s t c else gave client other s t c)
              (eq-eqb other c e) ∙ ap (λ (l : List Event). Withdrawn other s (mode_wanted (pending_ask t other)) ∷ l) (aside c d));
          asked = subst (λ (x : ℕ). IsLive t x w.ask) e w.live;
          own = w.own ∙ e;
          none = subst (λ (x : ℕ). NoneOf x (given_up s client other t).state) e (none_after s client other t);
        })
        by_other c d (inr apart) = inl (record {
          said = gave_said client other s c t
              ∙ (ap (λ (own : Bool). if own then Withdrawn other s (mode_wanted (pending_ask t other)) ∷ gave client other s t c else gave client other s t c)
              (ne_eqb other c apart) ∙ aside c d);
          stays = λ ask own live. (live.0, ap (λ (b : Bool). b || is_gone t c) (ne_eqb other c apart) ∙ live.1);
          older = λ ask own live. (live.0, (either (other == c) (is_gone t c) live.1).1);
        })

-- a client gives up its own ask: one line ends the ask, the next one answers the command
pub record EndsItself (client s : ℕ) (command : Command) (t : SetState) (m : Made) : Type 0 where
  pub ask : Ask
  pub asked : IsLive t client ask
  pub own : ask.client ≡ client
  pub first : Event
  pub ends : EndsAsk s ask first
  pub second : Event
  pub answers : AnswersCommand client command second
  pub said : replies_of client m.events ≡ first ∷ second ∷ []
  pub none : NoneOf client m.state

pub ends_itself : (client s : ℕ) (t : SetState) → waits t client ≡ true → EndsItself client s (Withdraw client s) t (withdrawn s client client t)
ends_itself client s t waiting =
    withdraws_ways (EndsItself client s (Withdraw client s) t) s client client t (λ again. gives)
    (λ idle. absurd (false≢true (sym idle ∙ waiting)))
  where
    gives : EndsItself client s (Withdraw client s) t (given_up s client client t)
    gives =
        let w = wanted_here t client waiting in
        record {
          ask = w.ask;
          asked = w.live;
          own = w.own;
          first = Withdrawn client s (mode_wanted (pending_ask t client));
          ends = ends_so s client t w;
          second = WithdrawLine client client s true;
          answers = (true, refl);
          said = gave_said client client s client t
              ∙ ap (λ (own : Bool). if own
              then Withdrawn client s (mode_wanted (pending_ask t client)) ∷ (if own then WithdrawLine client client s true ∷ [] else [])
              else (if own then WithdrawLine client client s true ∷ [] else []))
              (eq-eqb client client refl);
          none = none_after s client client t;
        }

-- and then the end of the move
pub itself_ends : (client s : ℕ) (command : Command) (t : SetState) (m : Made) (rule : SetState → Made) → EndsItself client s command t m
    → AllReplies s m.state (rule m.state) → EndsItself client s command t (then_do m rule)
itself_ends client s command t m rule h after = by_reply (after client)
  where
    by_reply : Replies client s m.state (rule m.state) → EndsItself client s command t (then_do m rule)
    by_reply (inl n) = record {
      ask = h.ask;
      asked = h.asked;
      own = h.own;
      first = h.first;
      ends = h.ends;
      second = h.second;
      answers = h.answers;
      said = replies_append client m.events (rule m.state).events ∙ (λ i. h.said i ++ n.said i);
      none = λ ask live mine. h.none ask (n.older ask mine live) mine;
    }
    by_reply (inr o) = absurd (h.none o.ask o.asked o.own)
