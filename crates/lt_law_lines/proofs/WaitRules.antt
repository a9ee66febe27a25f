-- The lines of a rule tell whose asks were answered.
use Rattle.std.specs.List.{list_any}
use Rattle.lt_model.proofs.Voids.{local_by, copy_by}
use Rattle.std.proofs.Common.{◌≡◌, ◌≢◌, ℕ, zero, suc, ◌<◌, ◌≤◌, inl, inr, List, [], ◌∷◌, ◌++◌, length, map, Option, Some, None, Bool, true, false, refl, sym, ap, subst, arith, ◌∙◌, ◌⊎◌, ◌==◌, if◌then◌else◌, AllPairs, Contains, count_by, fold, slice_index_or, eq-eqb, ne_eqb, eqb-true}
use Rattle.std.proofs.lemmas.Bool.{cases_eq, cases_order, false≢true}
use Rattle.std.proofs.lemmas.List.{get_or_default}
use Rattle.std.proofs.lemmas.List.Elements.{Contains-get_or}
use Rattle.std.proofs.lemmas.List.Sums.{fold-append}
use Rattle.lt_modes.specs.declared.mode.Mode.{Mode}
use Rattle.lt_modes.specs.declared.stamp.Stamp.{Stamp}
use Rattle.lt_modes.specs.declared.ask.Ask.{Ask}
use Rattle.lt_modes.specs.declared.event.Event.{Event}
use Rattle.lt_modes.specs.declared.event.Event.TheVariants.{Freeze, Void}
use Rattle.lt_modes.specs.Modes.{Modes, bars, same_modes, held_modes}
use Rattle.lt_modes.specs.State.{SetState, Desk, ParkedTell, Made, Post, silent, then_do, no_ask, without}
use Rattle.lt_modes.specs.Serving.{ask_at, queue_of, next_service, serve, serve_up_to, serve_step, serve_one, serve_local, serve_copy, answer_by, answer_event, is_gone, end_event, without_gone as left_gone}
use Rattle.lt_modes.specs.HandingOver.{next_draw, hand_over, hand_over_for, hand_over_to}
use Rattle.lt_modes.specs.Freezing.{freeze, freeze_at, frozen_by, targets}
use Rattle.lt_modes.specs.SetMove.{make_tell, finish, finish_by}
use Rattle.lt_modes.specs.Telling.{tell_of}
use Rattle.lt_spec.specs.Holdings.{Holding, wanted_after}
use Rattle.lt_law_accounts.proofs.Asks.{times_in-some, without_only, without_kept, without_gone}
use Rattle.lt_model.proofs.Effects.{EndEffects, next_service-within, both}
use Rattle.lt_model.proofs.StandingEffects.{found_here}
use Rattle.lt_model.proofs.SentInMove.{stands}
use Rattle.lt_law_invariant.proofs.OwnSteps.{route_same}
use Rattle.lt_law_invariant.proofs.ClientEffects.{is_asks, clients, one_of_client, clients_ends, gone_same, route_gone}
use Rattle.lt_law_lines.proofs.LineRules.{route_says}

-- the ask is unanswered here, and its client didn't give it up
abbrev pub IsLive : SetState → ℕ → Ask → Type 0
IsLive t c ask = Contains t.pending ask × (is_gone t c ≡ false)

-- so it is where asks and marks are as they were
pub live_as : (t u : SetState) (c : ℕ) (ask : Ask) → u.pending ≡ t.pending → u.gone ≡ t.gone → IsLive t c ask → IsLive u c ask
live_as t u c ask pending gone live =
    (subst (λ (l : List Ask). Contains l ask) (sym pending) live.0, ap (λ (g : List ℕ). list_any (λ other. other == c) g) gone ∙ live.1)

-- the lines say nothing of what the client waits for, and its asks stay
pub record Unsaid (c : ℕ) (t : SetState) (m : Made) : Type 0 where
  pub said : (lock : Option Holding) → fold (wanted_after c) lock m.events ≡ lock
  pub stays : (ask : Ask) → ask.client ≡ c → IsLive t c ask → IsLive m.state c ask
  pub older : (ask : Ask) → ask.client ≡ c → IsLive m.state c ask → IsLive t c ask

-- the lines say that the client's ask was answered, and it has none any more
pub record Answered (c : ℕ) (t : SetState) (m : Made) : Type 0 where
  pub said : (lock : Option Holding) → fold (wanted_after c) lock m.events ≡ None
  pub asked : (ask : Ask) × IsLive t c ask × (ask.client ≡ c)
  pub none : (ask : Ask) → IsLive m.state c ask → ask.client ≢ c

abbrev pub Answers : SetState → Made → Type 0
Answers t m = (c : ℕ) → Unsaid c t m ⊎ Answered c t m

pub then_says : (c : ℕ) (t : SetState) (m : Made) (rule : SetState → Made) → Unsaid c t m ⊎ Answered c t m → Unsaid c m.state (rule m.state) ⊎ Answered c m.state (rule m.state)
    → Unsaid c t (then_do m rule) ⊎ Answered c t (then_do m rule)
then_says c t m rule first second = by_cases first second
  where
    more : (lock : Option Holding) → fold (wanted_after c) lock (m.events ++ (rule m.state).events) ≡ fold (wanted_after c) (fold (wanted_after c) lock m.events) (rule m.state).events
    more lock = fold-append (wanted_after c) lock m.events (rule m.state).events

    by_cases : Unsaid c t m ⊎ Answered c t m → Unsaid c m.state (rule m.state) ⊎ Answered c m.state (rule m.state) → Unsaid c t (then_do m rule) ⊎ Answered c t (then_do m rule)
    by_cases (inl a) (inl b) = inl (record {
      said = λ lock. more lock ∙ b.said (fold (wanted_after c) lock m.events) ∙ a.said lock;
      stays = λ ask own there. b.stays ask own (a.stays ask own there);
      older = λ ask own there. a.older ask own (b.older ask own there);
    })
    by_cases (inl a) (inr b) = inr (record {
      said = λ lock. more lock ∙ b.said (fold (wanted_after c) lock m.events);
      asked = (b.asked.0, a.older b.asked.0 b.asked.2 b.asked.1, b.asked.2);
      none = b.none;
    })
    by_cases (inr a) (inl b) = inr (record {
      said = λ lock. more lock ∙ b.said (fold (wanted_after c) lock m.events) ∙ a.said lock;
      asked = a.asked;
      none = λ ask there own. a.none ask (b.older ask own there) own;
    })
    by_cases (inr a) (inr b) = absurd (a.none b.asked.0 b.asked.1 b.asked.2)

pub then_answers : (t : SetState) (m : Made) (rule : SetState → Made) → Answers t m → Answers m.state (rule m.state) → Answers t (then_do m rule)
then_answers t m rule first second c = then_says c t m rule (first c) (second c)

-- lines that name no client that waits, and the asks as they were
pub quiet_answers : (t : SetState) (m : Made) → ((c : ℕ) (lock : Option Holding) → fold (wanted_after c) lock m.events ≡ lock) → m.state.pending ≡ t.pending
    → m.state.gone ≡ t.gone → Answers t m
quiet_answers t m says same gone c = inl (record {
  said = says c;
  stays = λ ask own live. live_as t m.state c ask same gone live;
  older = λ ask own live. live_as m.state t c ask (sym same) (sym gone) live;
})

no_lines : (m : Made) → m.events ≡ [] → (c : ℕ) (lock : Option Holding) → fold (wanted_after c) lock m.events ≡ lock
no_lines m none c lock = ap (λ (l : List Event). fold (wanted_after c) lock l) none

pub routed_answers : (t : SetState) (m : Made) → m.events ≡ [] → m.state.pending ≡ t.pending → m.state.gone ≡ t.gone → Answers t m
routed_answers t m none same gone = quiet_answers t m (no_lines m none) same gone

-- an answer is of the ask's client
answer_said : (c s : ℕ) (b : Ask) (lock : Option Holding) → wanted_after c lock (answer_event s b) ≡ (if b.client == c then None else lock)
answer_said c s b lock = by_choice b.gives_up
  where
    by_choice : (o : Option Mode) → wanted_after c lock (answer_by s b o) ≡ (if b.client == c then None else lock)
    by_choice None = refl
    by_choice (Some mode) = refl

-- two asks of one stamp are one
one_stamp : (asks : List Ask) → AllPairs (λ (x y : Ask). x.stamp ≢ y.stamp) asks → (a b : Ask) → Contains asks a → Contains asks b → a.stamp ≡ b.stamp → a ≡ b
one_stamp asks apart a b here there same = by_order (cases_order here.0 there.0)
  where
    by_order : (here.0 ≡ there.0) ⊎ ((here.0 < there.0) ⊎ (there.0 < here.0)) → a ≡ b
    by_order (inr (inl before)) = absurd (apart here.0 there.0 a before there.1 (ap (λ (x : Ask). x.stamp) here.2 ∙ same ∙ ap (λ (x : Ask). x.stamp) (sym there.2 ∙ get_or_default asks there.0 b a there.1)))
    by_order (inl equal) = sym here.2 ∙ get_or_default asks here.0 a b here.1 ∙ ap (λ (k : ℕ). slice_index_or asks k b) equal ∙ there.2
    by_order (inr (inr after)) = absurd (apart there.0 here.0 a after here.1 (ap (λ (x : Ask). x.stamp) (get_or_default asks there.0 a b there.1 ∙ there.2) ∙ sym same ∙ ap (λ (x : Ask). x.stamp) (sym here.2)))

-- an ask that was given up is told as void, and what is live stays so
void_answers : (s : ℕ) (t : SetState) (m : Made) (b : Ask) → is_gone t b.client ≡ true → m.events ≡ Void b.client s b.mode ∷ [] → m.state.pending ≡ without t.pending b.stamp
    → m.state.gone ≡ left_gone t.gone b.client
    → Contains t.pending b → count_by (is_asks b.client) t.pending ≤ 1 → AllPairs (λ (x y : Ask). x.stamp ≢ y.stamp) t.pending → Answers t m
void_answers s t m b void line left marks there few apart c = inl (record {
  said = λ lock. ap (λ (l : List Event). fold (wanted_after c) lock l) line;
  stays = λ ask own live. elim (cases_eq c b.client) [
    | inl e ↦ absurd (false≢true (sym live.1 ∙ (ap (is_gone t) e ∙ void)))
    | inr d ↦ (
      subst (λ (l : List Ask). Contains l ask) (sym left)
          (without_kept t.pending b.stamp ask live.0 (λ same. d (sym own ∙ ap (λ (x : Ask). x.client) (one_stamp t.pending apart ask b live.0 there same)))),
      ap (λ (g : List ℕ). list_any (λ other. other == c) g) marks ∙ (gone_same t.gone b.client c d ∙ live.1),
    )
  ];
  older = λ ask own live. elim (cases_eq c b.client) [
    | inl e ↦
        let found : Contains (without t.pending b.stamp) ask = subst (λ (l : List Ask). Contains l ask) left live.0 in
        let before = without_only t.pending b.stamp ask found in
        absurd (without_gone t.pending b apart there (subst (Contains (without t.pending b.stamp)) (sym (one_of_client t.pending b ask few there before (own ∙ e))) found))
    | inr d ↦ (
      without_only t.pending b.stamp ask (subst (λ (l : List Ask). Contains l ask) left live.0),
      sym (gone_same t.gone b.client c d) ∙ (ap (λ (g : List ℕ). list_any (λ other. other == c) g) (sym marks) ∙ live.1),
    )
  ];
})

-- an unanswered ask is answered, and it was the only one of its client
live_answers : (s : ℕ) (t : SetState) (m : Made) (b : Ask) → is_gone t b.client ≡ false → m.events ≡ answer_event s b ∷ [] → m.state.pending ≡ without t.pending b.stamp
    → m.state.gone ≡ left_gone t.gone b.client
    → Contains t.pending b → count_by (is_asks b.client) t.pending ≤ 1 → AllPairs (λ (x y : Ask). x.stamp ≢ y.stamp) t.pending → Answers t m
live_answers s t m b free line left marks there few apart c = by_client (cases_eq b.client c)
  where
    said : (lock : Option Holding) → fold (wanted_after c) lock m.events ≡ (if b.client == c then None else lock)
    said lock = ap (λ (l : List Event). fold (wanted_after c) lock l) line ∙ answer_said c s b lock

    before : (ask : Ask) → Contains m.state.pending ask → Contains t.pending ask
    before ask found = without_only t.pending b.stamp ask (subst (λ (l : List Ask). Contains l ask) left found)

    gone : Contains m.state.pending b → ⊥
    gone found = without_gone t.pending b apart there (subst (λ (l : List Ask). Contains l b) left found)

    others : (ask : Ask) → Contains t.pending ask → ask.client ≢ b.client → Contains m.state.pending ask
    others ask found differ = subst (λ (l : List Ask). Contains l ask) (sym left) (without_kept t.pending b.stamp ask found (λ same. differ (ap (λ (x : Ask). x.client) (one_of_stamp ask found same))))
      where
        one_of_stamp : (ask : Ask) → Contains t.pending ask → ask.stamp ≡ b.stamp → ask ≡ b
        one_of_stamp ask found same = one_stamp t.pending apart ask b found there same

    by_client : (b.client ≡ c) ⊎ (b.client ≢ c) → Unsaid c t m ⊎ Answered c t m
    by_client (inl e) = inr (record {
      said = λ lock. said lock ∙ ap (λ (own : Bool). if own then None else lock) (eq-eqb b.client c e);
      asked = (b, (there, ap (is_gone t) (sym e) ∙ free), e);
      none = λ ask found own. gone (subst (λ (x : Ask). Contains m.state.pending x) (sym (one_of_client t.pending b ask few there (before ask found.0) (own ∙ sym e))) found.0);
    })
    by_client (inr d) = inl (record {
      said = λ lock. said lock ∙ ap (λ (own : Bool). if own then None else lock) (ne_eqb b.client c d);
      stays = λ ask own live. (
        others ask live.0 (λ same. d (sym same ∙ own)),
        ap (λ (g : List ℕ). list_any (λ other. other == c) g) marks ∙ (gone_same t.gone b.client c (λ same. d (sym same)) ∙ live.1),
      );
      older = λ ask own live. (
        before ask live.0,
        sym (gone_same t.gone b.client c (λ same. d (sym same))) ∙ (ap (λ (g : List ℕ). list_any (λ other. other == c) g) (sym marks) ∙ live.1),
      );
    })

-- an ask that leaves, given up or not
pub answer_answers : (s : ℕ) (t u : SetState) (m : Made) (b : Ask) → m.events ≡ end_event s u b ∷ [] → is_gone u b.client ≡ is_gone t b.client
    → m.state.pending ≡ without t.pending b.stamp → m.state.gone ≡ left_gone t.gone b.client
    → Contains t.pending b → count_by (is_asks b.client) t.pending ≤ 1 → AllPairs (λ (x y : Ask). x.stamp ≢ y.stamp) t.pending → Answers t m
answer_answers s t u m b line alike left marks there few apart = by_gone (is_gone u b.client) refl line
  where
    by_gone : (gone : Bool) → is_gone u b.client ≡ gone → m.events ≡ (if gone then Void b.client s b.mode else answer_event s b) ∷ [] → Answers t m
    by_gone true e said = void_answers s t m b (sym alike ∙ e) said left marks there few apart
    by_gone false e said = live_answers s t m b (sym alike ∙ e) said left marks there few apart

-- what a service says and leaves
service_answers : (s : ℕ) (stamp : Stamp) (elsewhere unanswered : Ask → ℕ) (bonus : ℕ → ℕ) (first : SetState) → ((a : Ask) → a.node ≡ stamp.node → unanswered a ≡ 0)
    → (t : SetState) (posts : List Post) (k : ℕ) → next_service stamp.node t ≡ Some k
    → both (stands s stamp.node stamp.clock elsewhere unanswered) (clients bonus first) t posts → Answers t (serve_one s stamp k t)
service_answers s stamp elsewhere unanswered bonus first only t posts k e h = by_own ((ask_at t k).node == stamp.node) refl
  where
    by_own : (own : Bool) → ((ask_at t k).node == stamp.node) ≡ own → Answers t (if own then serve_local s k t else serve_copy s stamp k (ask_at t k) t)
    by_own false me = quiet_answers t (serve_copy s stamp k (ask_at t k) t) (λ c lock. refl) refl refl
    by_own true me =
        let b = ask_at t k in
        let among = Contains-get_or (queue_of t) k no_ask (next_service-within stamp.node t k e) in
        let found = found_here s stamp.node stamp.clock elsewhere unanswered t posts b h.0 (only b (eqb-true b.node stamp.node me)) (omega (arith, times_in-some b (queue_of t) among)) in
        answer_answers s t t (serve_local s k t) b refl refl refl refl found (h.1.one b.client) h.0.apart

frozen_said : (s number : ℕ) (frozen : Modes) (c : ℕ) (lock : Option Holding) (told : List ℕ) → fold (wanted_after c) lock (map (λ x. Freeze s x number frozen) told) ≡ lock
frozen_said s number frozen c lock [] = refl
frozen_said s number frozen c lock (x ∷ rest) = frozen_said s number frozen c lock rest

-- what the end of a move says and leaves
pub finish_answers : (s : ℕ) (stamp : Stamp) (elsewhere unanswered : Ask → ℕ) (bonus : ℕ → ℕ) (first : SetState) → ((a : Ask) → a.node ≡ stamp.node → unanswered a ≡ 0)
    → (t : SetState) (posts : List Post) → both (stands s stamp.node stamp.clock elsewhere unanswered) (clients bonus first) t posts → Answers t (finish s stamp t)
finish_answers s stamp elsewhere unanswered bonus first only t posts h = by_desk t.desk
  where
    ends : EndEffects s stamp (both (stands s stamp.node stamp.clock elsewhere unanswered) (clients bonus first)) (both (stands s stamp.node stamp.clock elsewhere unanswered) (clients bonus first))
        (both (stands s stamp.node stamp.clock elsewhere unanswered) (clients bonus first))
    ends = clients_ends s stamp elsewhere unanswered bonus first only

    serves : (n : ℕ) (u : SetState) (more : List Post) → both (stands s stamp.node stamp.clock elsewhere unanswered) (clients bonus first) u more → Answers u (serve_up_to n s stamp u)
    serves zero u more g = quiet_answers u (silent u) (λ c lock. refl) refl refl
    serves (suc n) u more g = by_next (next_service stamp.node u) refl (serves n)
      where
        by_next : (o : Option ℕ) → next_service stamp.node u ≡ o
            → ((v : SetState) (later : List Post) → both (stands s stamp.node stamp.clock elsewhere unanswered) (clients bonus first) v later → Answers v (serve_up_to n s stamp v))
            → Answers u (serve_step s stamp (serve_up_to n s stamp) u o)
        by_next None e again = quiet_answers u (silent u) (λ c lock. refl) refl refl
        by_next (Some k) e again =
            let m = serve_one s stamp k u in
            then_answers u m (serve_up_to n s stamp) (service_answers s stamp elsewhere unanswered bonus first only u more k e g) (again m.state (more ++ m.posts) (ends.serves u more k e g))

    freezes : (u : SetState) → Answers u (freeze s stamp u)
    freezes u = by_place u.desk
      where
        by_place : (o : Option Desk) → Answers u (freeze_at s stamp u o)
        by_place None = quiet_answers u (silent u) (λ c lock. refl) refl refl
        by_place (Some desk) = quiet_answers u (freeze_at s stamp u (Some desk)) (λ c lock. frozen_said s _ _ c lock (targets stamp.node (frozen_by desk.queue) desk)) refl refl

    leaves : (u : SetState) (o : Option ℕ) → Answers u (hand_over_for s stamp u o)
    leaves u None = quiet_answers u (silent u) (λ c lock. refl) refl refl
    leaves u (Some k) = by_place u.desk
      where
        by_place : (o : Option Desk) → Answers u (hand_over_to s stamp u (ask_at u k).node o)
        by_place None = quiet_answers u (silent u) (λ c lock. refl) refl refl
        by_place (Some desk) = quiet_answers u (hand_over_to s stamp u (ask_at u k).node (Some desk)) (λ c lock. refl) refl refl

    by_test : (same : Bool) → Answers t (if same then silent t else make_tell s stamp t)
    by_test true = quiet_answers t (silent t) (λ c lock. refl) refl refl
    by_test false =
        let charged : SetState = record t { charge = held_modes t.held } in
        let item = ParkedTell (tell_of stamp t) in
        routed_answers t (make_tell s stamp t) (route_says s stamp false item charged).0 (route_same s stamp false item charged).1.pending (route_gone s stamp false item charged)

    by_desk : (desk : Option Desk) → Answers t (finish_by s stamp t desk)
    by_desk None = by_test (same_modes (bars (held_modes t.held)) (bars t.charge))
    by_desk (Some desk) =
        let m = serve s stamp t in
        let told = then_do m (freeze s stamp) in
        then_answers t told (hand_over s stamp)
        (then_answers t m (freeze s stamp) (serves (length (queue_of t)) t posts h) (freezes m.state))
        (leaves told.state (next_draw stamp.node told.state))
