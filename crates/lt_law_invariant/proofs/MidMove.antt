-- At rest each unanswered ask is in the queue, or led to it.
use Rattle.std.proofs.Common.{◌≡◌, ◌≢◌, ℕ, zero, suc, ◌<◌, ◌≤◌, inl, inr, List, [], ◌∷◌, Bool, true, false, refl, sym, ap, subst, arith, ◌+◌, ◌++◌, Option, None, ◌∙◌, ◌⊎◌, ◌&&◌, ◌==◌, if◌then◌else◌, Contains, IsTrue, nat_lt, sum_by, slice_index_or, eqb-true, ltb-true, eq-eqb, ne_eqb}
use Rattle.std.proofs.lemmas.Bool.{cases_eq, and_parts, or_cases}
use Rattle.std.proofs.lemmas.List.Elements.{All-contains, recursion_from_All, Contains-get_or}
use Rattle.std.proofs.lemmas.List.Sums.{sum_by-cons, get_or-le-sum_by}
use Rattle.lt_modes.specs.declared.stamp.Stamp.{Stamp}
use Rattle.lt_modes.specs.declared.ask.Ask.{Ask}
use Rattle.lt_modes.specs.Script.{ScriptData}
use Rattle.lt_modes.specs.State.{TokenBody, Letter, Parked, ParkedAsk, ParkedTell, same_ask, times_in, SetState, Desk, CopyBody, Made, Post}
use Rattle.lt_modes.specs.Serving.{queue_of}
use Rattle.lt_modes.specs.Telling.{is_newer}
use Rattle.lt_modes.specs.Fits.{numbers_of}
use Rattle.lt_modes.specs.Sound.{SoundPending}
use Rattle.lt_modes.specs.Modes.{bars, held_modes}
use Rattle.lt_lists.specs.Below.{sum_below, one_if}
use Rattle.lt_lists.proofs.Sums.{sum_below-some, sum_below-none, sum_below-change}
use Rattle.lt_lists.proofs.Puts.{put-same}
use Rattle.lt_spec.specs.World.{World, is_at_rest, after_made}
use Rattle.lt_spec.specs.Facts.{state_at, times_parked, places_in_state, places_in_body, StandsBehind, IsLedToQueue, Comes}
use Rattle.lt_spec.specs.NodeMove.{NodeState, touched}
use Rattle.lt_law_accounts.proofs.Asks.{times_in-found, same_ask-true, times_in-some, times_in-once, same_ask-itself}
use Rattle.lt_model.specs.OnWay.{Between, Acting, copies_to}
use Rattle.lt_model.proofs.PathsMove.{kept_stands}
use Rattle.lt_model.specs.Invariant.{IsParkedFor, SetKept, IsMadeBy, AsksStand}
use Rattle.lt_model.proofs.Runs.{one_place_of}
use Rattle.lt_model.proofs.Letters.{mail_weight-at, all_sent}
use Rattle.lt_model.proofs.SmallSteps.{moves_in_steps}
use Rattle.lt_model.proofs.SentInMove.{places_weight, places_sent, Stands}
use Rattle.lt_model.proofs.StandingBegins.{elsewhere, unanswered, only_here, copies_are_on_way}
use Rattle.lt_law_invariant.proofs.FirstWaiter.{no_letters}
use Rattle.lt_law_invariant.specs.InvariantLaws.{AsksAreLed, after_effect, IsWaiting}
use Rattle.lt_law_invariant.proofs.AfterEffect.{state_here, state_there}
use Rattle.lt_law_invariant.proofs.Ledgers.{Ledger}

sum_by-none : {X : Type 0} (f : X → ℕ) (xs : List X) → ((x : X) → Contains xs x → f x ≡ 0) → sum_by f xs ≡ 0
sum_by-none f [] none = refl
sum_by-none f (x ∷ rest) none =
    omega (arith, sum_by-cons f x rest, none x (0, omega arith, refl), sum_by-none f rest (λ y c. none y (suc c.0, omega (arith, c.1), c.2)))

-- an ask that stands parked
parked_some : (a : Ask) (items : List Parked) → 1 ≤ sum_by (times_parked a) items → Contains items (ParkedAsk a)
parked_some a [] h = absurd (omega (arith, h))
parked_some a (ParkedTell tell ∷ rest) h =
    let found = parked_some a rest (omega (arith, h, sum_by-cons (times_parked a) (ParkedTell tell) rest)) in
    (suc found.0, omega (arith, found.1), found.2)
parked_some a (ParkedAsk other ∷ rest) h = by_test (same_ask a other) refl (λ more. parked_some a rest more)
  where
    by_test : (same : Bool) → same_ask a other ≡ same → (1 ≤ sum_by (times_parked a) rest → Contains rest (ParkedAsk a)) → Contains (ParkedAsk other ∷ rest) (ParkedAsk a)
    by_test true e again = (0, omega arith, ap ParkedAsk (sym (same_ask-true a other e)))
    by_test false e again =
        let none : times_parked a (ParkedAsk other) ≡ 0 = ap one_if e in
        let found = again (omega (arith, h, none, sum_by-cons (times_parked a) (ParkedAsk other) rest)) in
        (suc found.0, omega (arith, found.1), found.2)

-- where an unanswered ask stands at rest
record StandsAtRest (script : ScriptData) (w : World) (s : ℕ) (a older : Ask) (q : ℕ) : Type 0 where
  node : q < script.nodes
  waits : Contains (state_at w s q).pending older
  behind : StandsBehind w s a older

stands_at_rest : (script : ScriptData) (w : World) (s x : ℕ) (a : Ask) → SetKept script Between w s → IsTrue (is_at_rest script w) → x < script.nodes
    → Contains (state_at w s x).pending a
    → ((q : ℕ) × (q < script.nodes) × Contains (queue_of (state_at w s q)) a) ⊎ ((q : ℕ) × (older : Ask) × StandsAtRest script w s a older q)
stands_at_rest script w s x a h rest below waits =
    let one = one_place_of script w s x a (kept_stands script w s h) below waits in
    let mail_none : sum_below script.nodes (λ p. sum_below script.nodes
    (λ q. sum_by (λ (l : Letter). if l.set == s then places_in_body a l.body else 0) (w.mail p q))) ≡ 0 =
    sum_below-none script.nodes _ (λ p hp. sum_below-none script.nodes _
    (λ q hq. sum_by-none (λ (l : Letter). if l.set == s then places_in_body a l.body else 0) (w.mail p q)
    (λ l c. weighs_none p q l hp c (l.set == s) refl))) in
    let found = sum_below-some script.nodes (λ q. places_in_state a (state_at w s q)) (omega (arith, one, mail_none)) in
    at_node found.0 found.1 found.2 (cases_eq (times_in a (queue_of (state_at w s found.0))) 0)
  where
    weighs_none : (p q : ℕ) (l : Letter) → p < script.nodes → Contains (w.mail p q) l → (own : Bool) → (l.set == s) ≡ own
        → (if own then places_in_body a l.body else 0) ≡ 0
    weighs_none p q l hp c true e = absurd (no_letters script w s q l.body h.paths rest (p, l, hp, record { among = c; set = eqb-true l.set s e }, refl))
    weighs_none p q l hp c false e = refl

    at_node : (q : ℕ) → q < script.nodes → 0 < places_in_state a (state_at w s q)
        → (times_in a (queue_of (state_at w s q)) ≡ 0) ⊎ (times_in a (queue_of (state_at w s q)) ≢ 0)
        → ((q : ℕ) × (q < script.nodes) × Contains (queue_of (state_at w s q)) a) ⊎ ((q : ℕ) × (older : Ask) × StandsAtRest script w s a older q)
    at_node q hq some (inr here) = inl (q, hq, times_in-found a (queue_of (state_at w s q)) (omega (arith, here)))
    at_node q hq some (inl none) = inr (held (parked_some a (state_at w s q).parked (omega (arith, some, none))))
      where
        held : Contains (state_at w s q).parked (ParkedAsk a) → (q : ℕ) × (older : Ask) × StandsAtRest script w s a older q
        held parked = elim (All-contains (IsParkedFor script w s q) (state_at w s q).parked (ParkedAsk a) (h.parked q hq) parked) [
          | inl comes ↦ absurd (no_letters script w s q (TokenBody comes.0) h.paths rest comes.1)
          | inr behind ↦
              let own =
              (All-contains (SoundPending (numbers_of script) q (state_at w s q)) (state_at w s q).pending behind.0
              (h.states q hq).pending behind.1).node in (
                q,
                behind.0,
                record {
                  node = hq;
                  waits = behind.1;
                  behind = record {
                    parked = subst (λ (y : ℕ). Contains (state_at w s y).parked (ParkedAsk a)) (sym own) parked;
                    unanswered = subst (λ (y : ℕ). Contains (state_at w s y).pending behind.0) (sym own) behind.1;
                    taking = behind.2;
                    younger = behind.3;
                  };
                },
              )
        ]

-- before this clock, or of it and before this node
abbrev IsBefore : ℕ → ℕ → Stamp → Type 0
IsBefore c v stamp = (stamp.clock < c) ⊎ ((stamp.clock ≡ c) × (stamp.node < v))

older_before : (c v : ℕ) (a older : Stamp) → a.clock ≡ c → a.node < suc v → is_newer a older ≡ true → IsBefore c v older
older_before c v a older now below e = elim (or_cases (nat_lt older.clock a.clock) (a.clock == older.clock && nat_lt older.node a.node) e) [
  | inl earlier ↦ inl (omega (arith, ltb-true older.clock a.clock earlier, now))
  | inr same ↦
      let parts = and_parts (a.clock == older.clock) (nat_lt older.node a.node) same in
      inr (omega (arith, eqb-true a.clock older.clock parts.0, now), omega (arith, ltb-true older.node a.node parts.1, below))
]

led : (script : ScriptData) (w : World) (s : ℕ) → SetKept script Between w s → IsTrue (is_at_rest script w) → (c v x : ℕ) (a : Ask) → x < script.nodes
    → Contains (state_at w s x).pending a
    → IsBefore c v a.stamp → IsLedToQueue script w s a
led script w s h rest c zero x a hx waits (inr (same, none)) = absurd (omega (arith, none))
led script w s h rest zero v x a hx waits (inl none) = absurd (omega (arith, none))
led script w s h rest (suc c) v x a hx waits (inl before) = elim (cases_eq a.stamp.clock c) [
  | inr other ↦ led script w s h rest c v x a hx waits (inl (omega (arith, before, other)))
  | inl same ↦
      let own = All-contains (SoundPending (numbers_of script) x (state_at w s x)) (state_at w s x).pending a (h.states x hx).pending waits in
      led script w s h rest c script.nodes x a hx waits (inr (same, omega (arith, own.maker, hx)))
]
led script w s h rest c (suc v) x a hx waits (inr (same, below)) = elim (stands_at_rest script w s x a h rest hx waits) [
  | inl queued ↦ ([], queued)
  | inr found ↦
      let further = led script w s h rest c v found.0 found.1 found.2.node found.2.waits (older_before c v a.stamp found.1.stamp same below found.2.behind.younger) in
      (found.1 ∷ further.0, (found.2.behind, further.1))
]

pub asks_are_led : AsksAreLed
asks_are_led script w s x ask h under rest waits = led script w s h rest (suc ask.stamp.clock) 0 x ask under waits (inl (omega arith))

-- The middle of a move: the world by the state by now and the letters sent so far, and what holds of it.

abbrev pub made_of : SetState → List Post → Made
made_of t posts = record { state = t; posts = posts; events = [] }

-- the world in the middle of a move of q
abbrev pub world_of : World → ℕ → ℕ → SetState → List Post → World
world_of base q s t posts = after_effect base q s (made_of t posts)

-- one effect more
pub again : (base : World) (q s : ℕ) (t : SetState) (posts : List Post) (m : Made)
    → after_effect (world_of base q s t posts) q s m ≡ world_of base q s m.state (posts ++ m.posts)
again base q s t posts m =
    let first = touched (base.node q) s (made_of t posts) in
    ap (λ (n : NodeState). after_made q (touched n s m) (world_of base q s t posts)) (put-same base.node q first.node)
    ∙ sym (moves_in_steps.world base q first (touched first.node s m))
    ∙ ap (λ made. after_made q made base) (sym (moves_in_steps.set (base.node q) s (made_of t posts) m))

-- what an effect on the state by now leads to
pub leads : (base : World) (q s : ℕ) (B : World → Option Desk → Type 0) (effect : SetState → Made) (t : SetState) (posts : List Post)
    → B (after_effect (world_of base q s t posts) q s (effect (state_at (world_of base q s t posts) s q))) (effect (state_at (world_of base q s t posts) s q)).state.desk
    → B (world_of base q s (effect t).state (posts ++ (effect t).posts)) (effect t).state.desk
leads base q s B effect t posts h =
    subst (λ (w : World). B w (effect t).state.desk) (again base q s t posts (effect t))
    (subst (λ (u : SetState). B (after_effect (world_of base q s t posts) q s (effect u)) (effect u).state.desk) (state_here base q s (made_of t posts)) h)

-- a fact of the state by now, of the world
pub at_now : (base : World) (q s : ℕ) (P : SetState → Type 0) (t : SetState) (posts : List Post) → P t → P (state_at (world_of base q s t posts) s q)
at_now base q s P t posts h = subst P (sym (state_here base q s (made_of t posts))) h

-- where a move begins: which other nodes and which letters are as they were before it
pub record Scene (script : ScriptData) (w base : World) (s q : ℕ) : Type 0 where
  pub node : q < script.nodes
  pub there : (x : ℕ) → x ≢ q → state_at base s x ≡ state_at w s x
  pub stood : AsksStand script w s

-- an ask of the queue waits at its node
pub queue_waits : (script : ScriptData) (w base : World) (s q clock : ℕ) (t : SetState) (posts : List Post) → Scene script w base s q
    → Stands s q clock (elsewhere script w s q base.mail) (unanswered script w s q) t posts → (a : Ask) → Contains (queue_of t) a
    → IsWaiting script (world_of base q s t posts) s a
queue_waits script w base s q clock t posts scene h a among = elim (cases_eq (times_in a t.pending) 0) [
  | inr own ↦
      let found = times_in-found a t.pending (omega (arith, own)) in
      let me = (All-contains (IsMadeBy q clock) t.pending a h.own found).0 in
      record {
        node = omega (arith, me, scene.node);
        waits = subst (λ (y : ℕ). Contains (state_at (world_of base q s t posts) s y).pending a) (sym me)
            (at_now base q s (λ (u : SetState). Contains u.pending a) t posts found);
      }
  | inl none ↦
      let some = times_in-some a (queue_of t) among in
      let change = sum_below-change script.nodes q others asked scene.node (λ x below d. rw (ne_eqb x q d) refl) in
      let zero_at : others q ≡ 0 = rw (eq-eqb q q refl) refl in
      let found = sum_below-some script.nodes others (omega (arith, h.once a, some, none, change, zero_at)) in
      at_other found.0 found.1 found.2 (cases_eq found.0 q)
]
  where
    asked : ℕ → ℕ
    asked x = times_in a (state_at w s x).pending

    others : ℕ → ℕ
    others x = if x == q then 0 else asked x

    at_other : (x : ℕ) → x < script.nodes → 0 < others x → (x ≡ q) ⊎ (x ≢ q) → IsWaiting script (world_of base q s t posts) s a
    at_other x below some (inl e) =
        let zero_at : others x ≡ 0 = rw (eq-eqb x q e) refl in
        absurd (omega (arith, some, zero_at))
    at_other x below some (inr d) =
        let here : others x ≡ asked x = rw (ne_eqb x q d) refl in
        let found = times_in-found a (state_at w s x).pending (omega (arith, some, here)) in
        let own = (All-contains (IsMadeBy x (w.node x).clock) (state_at w s x).pending a (scene.stood.own x below) found).0 in
        record {
          node = omega (arith, own, below);
          waits = subst (λ (y : ℕ). Contains (state_at (world_of base q s t posts) s y).pending a) (sym own)
              (subst (λ (u : SetState). Contains u.pending a) (sym (state_there base q s (made_of t posts) x d ∙ scene.there x d)) found);
        }

-- no copy is on its way here for an own ask that stands here, or that is in hand
pub no_copy : (script : ScriptData) (w base : World) (s q clock : ℕ) (t : SetState) (posts : List Post) (hand : Ask → ℕ) → Scene script w base s q
    → Stands s q clock (λ a. elsewhere script w s q base.mail a + hand a) (unanswered script w s q) t posts → (a : Ask)
    → 1 ≤ places_in_state a t + hand a → a.node ≡ q
    → Contains (copies_to script (world_of base q s t posts) s q) a → ⊥
no_copy script w base s q clock t posts hand scene h a here me c = from ((copies_are_on_way script (world_of base q s t posts) s q a).0 c)
  where
    few : places_in_state a t + places_sent s a posts + (elsewhere script w s q base.mail a + hand a) ≤ 1
    few = omega (arith, h.once a, only_here script w s q scene.stood scene.node a me, times_in-once a t.pending h.apart)

    weighs : (letter : Letter) → letter.set ≡ s → letter.body ≡ CopyBody a → places_weight s a letter ≡ 1
    weighs letter set says = rw (eq-eqb letter.set s set) (ap (places_in_body a) says ∙ ap one_if (same_ask-itself a))

    from : Comes script (world_of base q s t posts) s q (CopyBody a) → ⊥
    from (p, letter, below, on, says) =
        elim (all_sent (λ x y l. Contains (base.mail x y) l ⊎ ((post : Post) × Contains posts post × (post.letter ≡ l))) q posts base.mail (λ x y l old. inl old)
        (recursion_from_All (λ (post : Post). Contains (base.mail q post.to) post.letter ⊎ ((other : Post) × Contains posts other × (other.letter ≡ post.letter))) posts
        (λ k d within. inr (slice_index_or posts k d, Contains-get_or posts k d within, refl))) p q letter on.among) [
          | inl old ↦
              let weight = mail_weight-at script.nodes p q (places_weight s a) base.mail letter below scene.node old in
              omega (arith, few, here, weight, weighs letter on.set says)
          | inr new ↦
              let part = get_or-le-sum_by (λ (post : Post). places_weight s a post.letter) posts new.1.0 new.0 new.1.1 in
              let one : places_weight s a (slice_index_or posts new.1.0 new.0).letter ≡ 1 =
              ap (λ (post : Post). places_weight s a post.letter) new.1.2 ∙ ap (places_weight s a) new.2 ∙ weighs letter on.set says in
              omega (arith, few, here, part, one)
        ]

-- what holds in the middle of a move
pub record Mid (script : ScriptData) (base : World) (s q : ℕ) (t : SetState) (posts : List Post) : Type 0 where
  pub ledger : Ledger script (Acting q) (world_of base q s t posts) s q t.desk
  pub firm : t.firm.node < script.nodes

-- and where it begins
pub record Begun (script : ScriptData) (base : World) (s q : ℕ) (t : SetState) (posts : List Post) : Type 0 where
  pub mid : Mid script base s q t posts
  pub charge : t.desk ≡ None → bars (held_modes t.held) ≡ bars t.charge
  pub asks : (own : Ask) → Contains t.pending own → own.stamp.clock < (base.node q).clock
