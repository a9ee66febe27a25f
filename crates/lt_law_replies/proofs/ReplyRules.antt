-- The replies in the lines of a rule are answers to asks that it takes away.
use Rattle.std.proofs.Common.{◌≡◌, ◌≢◌, ℕ, zero, suc, ◌<◌, ◌≤◌, inl, inr, List, [], ◌∷◌, ◌++◌, length, map, Option, Some, None, Bool, true, false, refl, sym, ap, subst, arith, ◌∙◌, ◌⊎◌, ◌==◌, if◌then◌else◌, AllPairs, Contains, count_by, slice_index_or, eq-eqb, ne_eqb, eqb-true}
use Rattle.std.specs.List.{list_any}
use Rattle.std.proofs.lemmas.Bool.{cases_eq, cases_order, false≢true}
use Rattle.std.proofs.lemmas.List.{get_or_default}
use Rattle.std.proofs.lemmas.List.Elements.{Contains-get_or}
use Rattle.lt_modes.specs.declared.mode.Mode.{Mode}
use Rattle.lt_modes.specs.declared.stamp.Stamp.{Stamp}
use Rattle.lt_modes.specs.declared.ask.Ask.{Ask}
use Rattle.lt_modes.specs.declared.event.Event.{Event}
use Rattle.lt_modes.specs.declared.event.Event.TheVariants.{Freeze, Void}
use Rattle.lt_modes.specs.Modes.{Modes, bars, same_modes, held_modes}
use Rattle.lt_modes.specs.State.{SetState, Desk, ParkedTell, Made, Post, silent, then_do, no_ask, without}
use Rattle.lt_modes.specs.Serving.{ask_at, queue_of, next_service, serve, serve_up_to, serve_step, serve_one, serve_local, serve_copy, answer_by, answer_event, is_gone, end_event, without_gone as left_gone}
use Rattle.lt_modes.specs.HandingOver.{next_draw, hand_over, hand_over_for, hand_over_to}
use Rattle.lt_modes.specs.Freezing.{freeze, freeze_at, frozen_by, targets}
use Rattle.lt_modes.specs.SetMove.{make_tell, finish, finish_by}
use Rattle.lt_modes.specs.Telling.{tell_of}
use Rattle.lt_law_accounts.proofs.Asks.{times_in-some, without_only, without_kept, without_gone}
use Rattle.lt_model.proofs.Effects.{Fact, EndEffects, next_service-within, both}
use Rattle.lt_model.proofs.StandingEffects.{found_here}
use Rattle.lt_model.proofs.SentInMove.{stands}
use Rattle.lt_law_invariant.proofs.OwnSteps.{route_same}
use Rattle.lt_law_invariant.proofs.ClientEffects.{is_asks, clients, one_of_client, clients_ends, gone_same, route_gone}
use Rattle.lt_law_lines.proofs.LineRules.{route_says}
use Rattle.lt_law_lines.proofs.WaitRules.{IsLive, live_as}
use Rattle.lt_law_lines.proofs.WaitActs.{NoneOf}
use Rattle.lt_spec.specs.World.{replies_of}
use Rattle.lt_law_own_lines.proofs.OwnRuns.{replies_append}
use Rattle.lt_law_replies.specs.ReplyLaws.{EndsAsk}

-- no line is a reply to the client, and its asks stay as they are
pub record NoReply (c : ℕ) (t : SetState) (m : Made) : Type 0 where
  pub said : replies_of c m.events ≡ []
  pub stays : (ask : Ask) → ask.client ≡ c → IsLive t c ask → IsLive m.state c ask
  pub older : (ask : Ask) → ask.client ≡ c → IsLive m.state c ask → IsLive t c ask

-- one line is a reply to the client, which ends an ask of it, and it has none any more that it didn't give up
pub record OneReply (c s : ℕ) (t : SetState) (m : Made) : Type 0 where
  pub ask : Ask
  pub line : Event
  pub ends : EndsAsk s ask line
  pub said : replies_of c m.events ≡ line ∷ []
  pub asked : IsLive t c ask
  pub own : ask.client ≡ c
  pub none : NoneOf c m.state

abbrev pub Replies : ℕ → ℕ → SetState → Made → Type 0
Replies c s t m = NoReply c t m ⊎ OneReply c s t m

abbrev pub AllReplies : ℕ → SetState → Made → Type 0
AllReplies s t m = (c : ℕ) → Replies c s t m

pub then_replies : (c s : ℕ) (t : SetState) (m : Made) (rule : SetState → Made) → Replies c s t m
    → Replies c s m.state (rule m.state) → Replies c s t (then_do m rule)
then_replies c s t m rule first second = by_cases first second
  where
    more : replies_of c (m.events ++ (rule m.state).events) ≡ replies_of c m.events ++ replies_of c (rule m.state).events
    more = replies_append c m.events (rule m.state).events

    by_cases : Replies c s t m → Replies c s m.state (rule m.state) → Replies c s t (then_do m rule)
    by_cases (inl a) (inl b) = inl (record {
      said = more ∙ (λ i. a.said i ++ b.said i);
      stays = λ ask own there. b.stays ask own (a.stays ask own there);
      older = λ ask own there. a.older ask own (b.older ask own there);
    })
    by_cases (inl a) (inr b) = inr (record {
      ask = b.ask;
      line = b.line;
      ends = b.ends;
      said = more ∙ (λ i. a.said i ++ b.said i);
      asked = a.older b.ask b.own b.asked;
      own = b.own;
      none = b.none;
    })
    by_cases (inr a) (inl b) = inr (record {
      ask = a.ask;
      line = a.line;
      ends = a.ends;
      said = more ∙ (λ i. a.said i ++ b.said i);
      asked = a.asked;
      own = a.own;
      none = λ other there own. a.none other (b.older other own there) own;
    })
    by_cases (inr a) (inr b) = absurd (a.none b.ask b.asked b.own)

pub then_all : (s : ℕ) (t : SetState) (m : Made) (rule : SetState → Made) → AllReplies s t m
    → AllReplies s m.state (rule m.state) → AllReplies s t (then_do m rule)
then_all s t m rule first second c = then_replies c s t m rule (first c) (second c)

-- no reply to the client, and the asks as they were
pub no_reply : (c s : ℕ) (t : SetState) (m : Made) → replies_of c m.events ≡ [] → m.state.pending ≡ t.pending → m.state.gone ≡ t.gone
    → Replies c s t m
no_reply c s t m none same marks = inl (record {
  said = none;
  stays = λ ask own live. live_as t m.state c ask same marks live;
  older = λ ask own live. live_as m.state t c ask (sym same) (sym marks) live;
})

-- no lines, and the asks as they were
pub no_lines : (s : ℕ) (t : SetState) (m : Made) → m.events ≡ [] → m.state.pending ≡ t.pending → m.state.gone ≡ t.gone → AllReplies s t m
no_lines s t m none same marks c = no_reply c s t m (ap (replies_of c) none) same marks

-- an answer is a reply to the ask's client
answer_said : (c s : ℕ) (b : Ask) → replies_of c (answer_event s b ∷ []) ≡ (if b.client == c then answer_event s b ∷ [] else [])
answer_said c s b = by_choice b.gives_up
  where
    by_choice : (o : Option Mode) → replies_of c (answer_by s b o ∷ []) ≡ (if b.client == c then answer_by s b o ∷ [] else [])
    by_choice None = refl
    by_choice (Some mode) = refl

-- two asks of one stamp are one
one_stamp : (asks : List Ask) → AllPairs (λ (x y : Ask). x.stamp ≢ y.stamp) asks → (a b : Ask) → Contains asks a → Contains asks b
    → a.stamp ≡ b.stamp → a ≡ b
one_stamp asks apart a b here there same = by_order (cases_order here.0 there.0)
  where
    stamp_at : (k : ℕ) (ask : Ask) → slice_index_or asks k a ≡ ask → (slice_index_or asks k a).stamp ≡ ask.stamp
    stamp_at k ask e = ap (λ (x : Ask). x.stamp) e

    at : slice_index_or asks there.0 a ≡ b
    at = get_or_default asks there.0 a b there.1 ∙ there.2

    by_order : (here.0 ≡ there.0) ⊎ ((here.0 < there.0) ⊎ (there.0 < here.0)) → a ≡ b
    by_order (inl equal) = sym here.2 ∙ ap (λ (k : ℕ). slice_index_or asks k a) equal ∙ at
    by_order (inr (inl before)) = absurd (apart here.0 there.0 a before there.1
        (stamp_at here.0 a here.2 ∙ same ∙ sym (stamp_at there.0 b at)))
    by_order (inr (inr after)) = absurd (apart there.0 here.0 a after here.1
        (stamp_at there.0 b at ∙ sym same ∙ sym (stamp_at here.0 a here.2)))

-- an unanswered ask leaves, answered or void, and it was the only one of its client
pub answer_replies : (s : ℕ) (t u : SetState) (m : Made) (b : Ask) → m.events ≡ end_event s u b ∷ [] → is_gone u b.client ≡ is_gone t b.client
    → m.state.pending ≡ without t.pending b.stamp → m.state.gone ≡ left_gone t.gone b.client → Contains t.pending b
    → count_by (is_asks b.client) t.pending ≤ 1 → AllPairs (λ (x y : Ask). x.stamp ≢ y.stamp) t.pending → AllReplies s t m
answer_replies s t u m b line alike left marks there few apart c = by_client (cases_eq b.client c)
  where
    before : (ask : Ask) → Contains m.state.pending ask → Contains t.pending ask
    before ask found = without_only t.pending b.stamp ask (subst (λ (l : List Ask). Contains l ask) left found)

    none : (ask : Ask) → b.client ≡ c → IsLive m.state c ask → ask.client ≢ c
    none ask e live own = without_gone t.pending b apart there
        (subst (Contains (without t.pending b.stamp)) (sym (one_of_client t.pending b ask few there (before ask live.0) (own ∙ sym e)))
        (subst (λ (l : List Ask). Contains l ask) left live.0))

    others : (ask : Ask) → Contains t.pending ask → ask.client ≢ b.client → Contains m.state.pending ask
    others ask found differ = subst (λ (l : List Ask). Contains l ask) (sym left)
        (without_kept t.pending b.stamp ask found (λ same. differ (ap (λ (x : Ask). x.client) (one_stamp t.pending apart ask b found there same))))

    marked : b.client ≢ c → is_gone m.state c ≡ is_gone t c
    marked d = ap (λ (g : List ℕ). list_any (λ other. other == c) g) marks ∙ gone_same t.gone b.client c (λ e. d (sym e))

    none_said : b.client ≢ c → (gone : Bool) → replies_of c ((if gone then Void b.client s b.mode else answer_event s b) ∷ []) ≡ []
    none_said d true = refl
    none_said d false = answer_said c s b ∙ ap (λ (own : Bool). if own then answer_event s b ∷ [] else []) (ne_eqb b.client c d)

    mine : b.client ≡ c → (gone : Bool) → is_gone t b.client ≡ gone
        → replies_of c m.events ≡ replies_of c ((if gone then Void b.client s b.mode else answer_event s b) ∷ []) → Replies c s t m
    mine e true void said = inl (record {
      said = said;
      stays = λ ask own live. absurd (false≢true (sym live.1 ∙ (ap (is_gone t) (sym e) ∙ void)));
      older = λ ask own live. absurd (none ask e live own);
    })
    mine e false free said = inr (record {
      ask = b;
      line = answer_event s b;
      ends = inl refl;
      said = said ∙ (answer_said c s b ∙ ap (λ (own : Bool). if own then answer_event s b ∷ [] else []) (eq-eqb b.client c e));
      asked = (there, ap (is_gone t) (sym e) ∙ free);
      own = e;
      none = λ ask live own. none ask e live own;
    })

    by_client : (b.client ≡ c) ⊎ (b.client ≢ c) → Replies c s t m
    by_client (inl e) = mine e (is_gone u b.client) (sym alike) (ap (replies_of c) line)
    by_client (inr d) = inl (record {
      said = ap (replies_of c) line ∙ none_said d (is_gone u b.client);
      stays = λ ask own live. (others ask live.0 (λ same. d (sym same ∙ own)), marked d ∙ live.1);
      older = λ ask own live. (before ask live.0, sym (marked d) ∙ live.1);
    })

-- what holds of a set within a move: its asks stand where they should, and clients wait for one each
abbrev pub stands_so : ℕ → Stamp → (Ask → ℕ) → (Ask → ℕ) → (ℕ → ℕ) → SetState → Fact
stands_so s stamp elsewhere unanswered bonus first =
    both (stands s stamp.node stamp.clock elsewhere unanswered) (clients bonus first)

-- the replies of a service
service_replies : (s : ℕ) (stamp : Stamp) (elsewhere unanswered : Ask → ℕ) (bonus : ℕ → ℕ) (first : SetState)
    → ((a : Ask) → a.node ≡ stamp.node → unanswered a ≡ 0) → (t : SetState) (posts : List Post) (k : ℕ)
    → next_service stamp.node t ≡ Some k → stands_so s stamp elsewhere unanswered bonus first t posts → AllReplies s t (serve_one s stamp k t)
service_replies s stamp elsewhere unanswered bonus first only t posts k e h = by_own ((ask_at t k).node == stamp.node) refl
  where
    by_own : (own : Bool) → ((ask_at t k).node == stamp.node) ≡ own
        → AllReplies s t (if own then serve_local s k t else serve_copy s stamp k (ask_at t k) t)
    by_own false me = λ c. no_reply c s t (serve_copy s stamp k (ask_at t k) t) refl refl refl
    by_own true me =
        let b = ask_at t k in
        let among = Contains-get_or (queue_of t) k no_ask (next_service-within stamp.node t k e) in
        let found = found_here s stamp.node stamp.clock elsewhere unanswered t posts b h.0
        (only b (eqb-true b.node stamp.node me)) (omega (arith, times_in-some b (queue_of t) among)) in
        answer_replies s t t (serve_local s k t) b refl refl refl refl found (h.1.one b.client) h.0.apart

frozen_said : (s number : ℕ) (frozen : Modes) (c : ℕ) (told : List ℕ) → replies_of c (map (λ x. Freeze s x number frozen) told) ≡ []
frozen_said s number frozen c [] = refl
frozen_said s number frozen c (x ∷ rest) = frozen_said s number frozen c rest

-- the replies of the end of a move
pub finish_replies : (s : ℕ) (stamp : Stamp) (elsewhere unanswered : Ask → ℕ) (bonus : ℕ → ℕ) (first : SetState)
    → ((a : Ask) → a.node ≡ stamp.node → unanswered a ≡ 0) → (t : SetState) (posts : List Post)
    → stands_so s stamp elsewhere unanswered bonus first t posts → AllReplies s t (finish s stamp t)
finish_replies s stamp elsewhere unanswered bonus first only t posts h = by_desk t.desk
  where
    ends : EndEffects s stamp (stands_so s stamp elsewhere unanswered bonus first) (stands_so s stamp elsewhere unanswered bonus first)
        (stands_so s stamp elsewhere unanswered bonus first)
    ends = clients_ends s stamp elsewhere unanswered bonus first only

    serves : (n : ℕ) (u : SetState) (more : List Post) → stands_so s stamp elsewhere unanswered bonus first u more
        → AllReplies s u (serve_up_to n s stamp u)
    serves zero u more g = no_lines s u (silent u) refl refl refl
    serves (suc n) u more g = by_next (next_service stamp.node u) refl (serves n)
      where
        by_next : (o : Option ℕ) → next_service stamp.node u ≡ o
            → ((v : SetState) (later : List Post) → stands_so s stamp elsewhere unanswered bonus first v later → AllReplies s v (serve_up_to n s stamp v))
            → AllReplies s u (serve_step s stamp (serve_up_to n s stamp) u o)
        by_next None e again = no_lines s u (silent u) refl refl refl
        by_next (Some k) e again =
            let m = serve_one s stamp k u in
            then_all s u m (serve_up_to n s stamp) (service_replies s stamp elsewhere unanswered bonus first only u more k e g)
            (again m.state (more ++ m.posts) (ends.serves u more k e g))

    freezes : (u : SetState) → AllReplies s u (freeze s stamp u)
    freezes u = by_place u.desk
      where
        by_place : (o : Option Desk) → AllReplies s u (freeze_at s stamp u o)
        by_place None = no_lines s u (silent u) refl refl refl
        by_place (Some desk) = λ c. no_reply c s u (freeze_at s stamp u (Some desk))
            (frozen_said s _ _ c (targets stamp.node (frozen_by desk.queue) desk)) refl refl

    leaves : (u : SetState) (o : Option ℕ) → AllReplies s u (hand_over_for s stamp u o)
    leaves u None = no_lines s u (silent u) refl refl refl
    leaves u (Some k) = by_place u.desk
      where
        by_place : (o : Option Desk) → AllReplies s u (hand_over_to s stamp u (ask_at u k).node o)
        by_place None = no_lines s u (silent u) refl refl refl
        by_place (Some desk) = λ c. no_reply c s u (hand_over_to s stamp u (ask_at u k).node (Some desk)) refl refl refl

    by_test : (same : Bool) → AllReplies s t (if same then silent t else make_tell s stamp t)
    by_test true = no_lines s t (silent t) refl refl refl
    by_test false =
        let charged : SetState = record t { charge = held_modes t.held } in
        let item = ParkedTell (tell_of stamp t) in
        no_lines s t (make_tell s stamp t) (route_says s stamp false item charged).0 (route_same s stamp false item charged).1.pending
        (route_gone s stamp false item charged)

    by_desk : (desk : Option Desk) → AllReplies s t (finish_by s stamp t desk)
    by_desk None = by_test (same_modes (bars (held_modes t.held)) (bars t.charge))
    by_desk (Some desk) =
        let m = serve s stamp t in
        let told = then_do m (freeze s stamp) in
        then_all s t told (hand_over s stamp)
        (then_all s t m (freeze s stamp) (serves (length (queue_of t)) t posts h) (freezes m.state))
        (leaves told.state (next_draw stamp.node told.state))
