-- What clients hold and ask for in a set, mode by mode, grows in no answer and in no end of a move.
use Rattle.std.proofs.Common.{◌≡◌, ◌≢◌, ℕ, ◌+◌, ◌-◌, ◌≤◌, inl, inr, List, Option, Some, None, Bool, true, false, refl, sym, ap, arith, ◌∙◌, ◌⊎◌, ◌==◌, ◌&&◌, not, nat_lt, if◌then◌else◌, Contains, AllPairs, count_by, eq-eqb, ne_eqb, eqb-true}
use Rattle.std.specs.List.{list_any}
use Rattle.std.proofs.lemmas.Bool.{cases_eq, and_left}
use Rattle.std.proofs.lemmas.List.Elements.{Contains-get_or}
use Rattle.std.proofs.lemmas.List.Sums.{sum_by-le-sum_by}
use Rattle.lt_modes.specs.declared.mode.Mode.{Mode}
use Rattle.lt_modes.specs.declared.stamp.Stamp.{Stamp}
use Rattle.lt_modes.specs.declared.ask.Ask.{Ask}
use Rattle.lt_modes.specs.declared.parts.Row.{Row}
use Rattle.lt_modes.specs.State.{SetState, Desk, Body, AskBody, TellBody, CopyBody, TokenBody, FreezeBody, Letter, ParkedAsk, ParkedTell, Post, no_ask, without}
use Rattle.lt_modes.specs.Modes.{same_mode, add_lock, take_lock, held_modes}
use Rattle.lt_modes.specs.Serving.{ask_at, queue_of, next_service, give_up, answered, serve_local, serve_copy, is_gone, rows_after, without_gone as left_gone}
use Rattle.lt_modes.specs.HandingOver.{hand_over_to}
use Rattle.lt_modes.specs.Freezing.{freeze_at}
use Rattle.lt_modes.specs.SetMove.{make_tell}
use Rattle.lt_modes.specs.Routing.{learn}
use Rattle.lt_modes.specs.Taking.{arrive, take_body}
use Rattle.lt_modes.specs.Telling.{tell_of}
use Rattle.lt_law_accounts.proofs.Asks.{times_in-some}
use Rattle.lt_law_accounts.proofs.RowTotals.{total, is_key, total_added, total_taken}
use Rattle.lt_model.proofs.Effects.{Fact, EndEffects, next_service-within, both}
use Rattle.lt_model.proofs.StandingEffects.{found_here}
use Rattle.lt_model.proofs.SentInMove.{stands}
use Rattle.lt_law_invariant.proofs.OwnSteps.{route_same}
use Rattle.lt_law_invariant.proofs.ClientCounts.{SomeEach, each_some, asks_without}
use Rattle.lt_law_invariant.proofs.ClientEffects.{clients, clients_ends, is_asks, live_by, live_fewer, gone_same, route_gone}

-- the ask is one of the client for the mode, and wasn't given up, by whether the client's ask was
abbrev pub is_for : Bool → ℕ → Mode → Ask → Bool
is_for gone client mode ask = not gone && is_key client mode ask.client ask.mode

-- how many asks of the client for the mode are unanswered, and weren't given up
abbrev pub asks_for : SetState → ℕ → Mode → ℕ
asks_for t client mode = count_by (is_for (is_gone t client) client mode) t.pending

-- each is one of the client's
pub for_live : (gone : Bool) (c : ℕ) (mode : Mode) (asks : List Ask) → count_by (is_for gone c mode) asks ≤ count_by (live_by gone c) asks
for_live gone c mode asks =
    sum_by-le-sum_by (λ (a : Ask). if is_for gone c mode a then 1 else 0) (λ (a : Ask). if live_by gone c a then 1 else 0) asks (λ a. by_own a gone (c == a.client) refl)
  where
    at_most : (wants : Bool) → (if wants then 1 else 0) ≤ 1
    at_most true = omega arith
    at_most false = omega arith

    by_own : (a : Ask) (away own : Bool) → (c == a.client) ≡ own → (if not away && (own && same_mode mode a.mode) then 1 else 0) ≤ (if not away && a.client == c then 1 else 0)
    by_own a true own e = omega arith
    by_own a false false e = omega arith
    by_own a false true e =
        let one : ◌≡◌ {A = ℕ} (if a.client == c then 1 else 0) 1 = ap (λ (b : Bool). if b then 1 else 0) (eq-eqb a.client c (sym (eqb-true c a.client e))) in
        omega (arith, one, at_most (same_mode mode a.mode))

pub for_fewer : (gone : Bool) (c : ℕ) (mode : Mode) (asks : List Ask) → count_by (is_for gone c mode) asks ≤ count_by (is_asks c) asks
for_fewer gone c mode asks = omega (arith, for_live gone c mode asks, live_fewer gone c asks)

-- since the first state no client has more asks, nor more locks and asks together, of any mode
pub record Loans (first t : SetState) : Type 0 where
  pub asks : (c : ℕ) (mode : Mode) → asks_for t c mode ≤ asks_for first c mode
  pub counts : (c : ℕ) (mode : Mode) → total t.held c mode + asks_for t c mode ≤ total first.held c mode + asks_for first c mode

abbrev pub loans : SetState → Fact
loans first t posts = Loans first t

pub no_more : (t : SetState) → Loans t t
no_more t = record { asks = λ c mode. omega arith; counts = λ c mode. omega arith }

-- rows, asks and marks as they were
pub same_loans : (first t u : SetState) → u.held ≡ t.held → u.pending ≡ t.pending → u.gone ≡ t.gone → Loans first t → Loans first u
same_loans first t u held pending gone h = record {
  asks = λ c mode. omega (arith, h.asks c mode, same c mode);
  counts = λ c mode. omega (arith, h.counts c mode, same c mode, ap (λ (rows : List Row). total rows c mode) held);
}
  where
    same : (c : ℕ) (mode : Mode) → asks_for u c mode ≡ asks_for t c mode
    same c mode = λ i. count_by (is_for (list_any (λ other. other == c) (gone i)) c mode) (pending i)

-- an answer adds one lock of its client and mode at most
answer_adds : (rows : List Row) (a : Ask) → SomeEach rows → (c : ℕ) (mode : Mode)
    → total (answered rows a) c mode ≤ total rows c mode + (if is_key c mode a.client a.mode then 1 else 0)
answer_adds rows a some c mode = by_choice a.gives_up
  where
    added : (xs : List Row) → total (add_lock xs a.client a.mode) c mode ≡ total xs c mode + (if is_key c mode a.client a.mode then 1 else 0)
    added xs = total_added xs a.client c a.mode mode ∙ by_key (is_key c mode a.client a.mode)
      where
        by_key : (key : Bool) → (if key then total xs c mode + 1 else total xs c mode) ≡ total xs c mode + (if key then 1 else 0)
        by_key true = refl
        by_key false = omega arith

    fewer : (g : Mode) → total (take_lock rows a.client g) c mode ≤ total rows c mode
    fewer g = by_key (is_key c mode a.client g) (total_taken rows a.client c g mode (each_some rows some))
      where
        by_key : (key : Bool) → total (take_lock rows a.client g) c mode ≡ (if key then total rows c mode - 1 else total rows c mode)
            → total (take_lock rows a.client g) c mode ≤ total rows c mode
        by_key true e = omega (arith, e)
        by_key false e = omega (arith, e)

    by_choice : (o : Option Mode) → total (add_lock (give_up rows a.client o) a.client a.mode) c mode ≤ total rows c mode + (if is_key c mode a.client a.mode then 1 else 0)
    by_choice None = omega (arith, added rows)
    by_choice (Some g) = omega (arith, added (take_lock rows a.client g), fewer g)

-- an unanswered ask is answered, or void where it was given up
pub answers_loans : (first t u : SetState) (a : Ask) → Loans first t → SomeEach t.held → ((c : ℕ) → count_by (is_asks c) t.pending ≤ 1) → Contains t.pending a
    → AllPairs (λ (x y : Ask). x.stamp ≢ y.stamp) t.pending → u.held ≡ rows_after t a → u.pending ≡ without t.pending a.stamp → u.gone ≡ left_gone t.gone a.client → Loans first u
answers_loans first t u a h some one there apart held pending gone =
    same_loans first (record t { held = rows_after t a; pending = left; gone = left_gone t.gone a.client }) u held pending gone (record {
      asks = λ c mode. omega (arith, h.asks c mode, asks_left c mode);
      counts = λ c mode. omega (arith, h.counts c mode, by_gone c mode (is_gone t a.client) refl (cases_eq c a.client));
    })
  where
    left : List Ask
    left = without t.pending a.stamp

    gone_left : ℕ → Bool
    gone_left c = list_any (λ other. other == c) (left_gone t.gone a.client)

    none_left : (c : ℕ) (mode : Mode) → c ≡ a.client → count_by (is_for (gone_left c) c mode) left ≡ 0
    none_left c mode e =
        let own : ◌≡◌ {A = ℕ} (if a.client == c then 1 else 0) 1 = ap (λ (b : Bool). if b then 1 else 0) (eq-eqb a.client c (sym e)) in
        omega (arith, for_fewer (gone_left c) c mode left, asks_without (is_asks c) t.pending a apart there, one c, own)

    asks_left : (c : ℕ) (mode : Mode) → count_by (is_for (gone_left c) c mode) left ≤ asks_for t c mode
    asks_left c mode = elim (cases_eq c a.client) [
      | inl e ↦ omega (arith, none_left c mode e)
      | inr d ↦ omega
          (arith, ap (λ (g : Bool). count_by (is_for g c mode) left) (gone_same t.gone a.client c d), asks_without (is_for (is_gone t c) c mode) t.pending a apart there)
    ]

    by_gone : (c : ℕ) (mode : Mode) (g : Bool) → is_gone t a.client ≡ g → (c ≡ a.client) ⊎ (c ≢ a.client)
        → total (if g then t.held else answered t.held a) c mode + count_by (is_for (gone_left c) c mode) left ≤ total t.held c mode + asks_for t c mode
    by_gone c mode true e same = omega (arith, asks_left c mode)
    by_gone c mode false e (inr d) =
        let none : ◌≡◌ {A = ℕ} (if is_key c mode a.client a.mode then 1 else 0) 0 =
        ap (λ (b : Bool). if b then 1 else 0) (and_left (c == a.client) (same_mode mode a.mode) (ne_eqb c a.client d)) in
        omega (arith, asks_left c mode, answer_adds t.held a some c mode, none)
    by_gone c mode false e (inl same) =
        let part : count_by (is_for false c mode) left + (if is_key c mode a.client a.mode then 1 else 0) ≡ count_by (is_for false c mode) t.pending =
        asks_without (is_for false c mode) t.pending a apart there in
        let live : asks_for t c mode ≡ count_by (is_for false c mode) t.pending = ap (λ (g : Bool). count_by (is_for g c mode) t.pending) (ap (is_gone t) same ∙ e) in
        omega (arith, none_left c mode same, answer_adds t.held a some c mode, part, live)

-- the end of a move
pub loans_ends : (s : ℕ) (stamp : Stamp) (elsewhere unanswered : Ask → ℕ) (bonus : ℕ → ℕ) (begin first : SetState) → ((a : Ask) → a.node ≡ stamp.node → unanswered a ≡ 0)
    → EndEffects s stamp (both (both (stands s stamp.node stamp.clock elsewhere unanswered) (clients bonus begin)) (loans first))
    (both (both (stands s stamp.node stamp.clock elsewhere unanswered) (clients bonus begin)) (loans first))
    (both (both (stands s stamp.node stamp.clock elsewhere unanswered) (clients bonus begin)) (loans first))
loans_ends s stamp elsewhere unanswered bonus begin first only = record {
  serves = λ t posts k e h. (base.serves t posts k e h.0, served t posts k e h ((ask_at t k).node == stamp.node) refl);
  freezes = λ t posts desk here none h. (base.freezes t posts desk here none h.0, frozen t h.1 t.desk);
  leaves = λ t posts k e h. (base.leaves t posts k e h.0, left t (ask_at t k).node h.1 t.desk);
  stays = λ t posts e h. (base.stays t posts e h.0, h.1);
  tells = λ t posts away differs h. (
    base.tells t posts away differs h.0,
    let same = (route_same s stamp false (ParkedTell (tell_of stamp t)) (record t { charge = held_modes t.held })).1 in
        same_loans first t (make_tell s stamp t).state same.held same.pending
        (route_gone s stamp false (ParkedTell (tell_of stamp t)) (record t { charge = held_modes t.held })) h.1,
  );
  tells_not = λ t posts away same h. (base.tells_not t posts away same h.0, h.1);
}
  where
    base : EndEffects s stamp (both (stands s stamp.node stamp.clock elsewhere unanswered) (clients bonus begin))
        (both (stands s stamp.node stamp.clock elsewhere unanswered) (clients bonus begin))
        (both (stands s stamp.node stamp.clock elsewhere unanswered) (clients bonus begin))
    base = clients_ends s stamp elsewhere unanswered bonus begin only

    served : (t : SetState) (posts : List Post) (k : ℕ) → next_service stamp.node t ≡ Some k
        → both (both (stands s stamp.node stamp.clock elsewhere unanswered) (clients bonus begin)) (loans first) t posts → (own : Bool)
        → ((ask_at t k).node == stamp.node) ≡ own → Loans first (if own then serve_local s k t else serve_copy s stamp k (ask_at t k) t).state
    served t posts k e h true me =
        let b = ask_at t k in
        let among = Contains-get_or (queue_of t) k no_ask (next_service-within stamp.node t k e) in
        let found =
        found_here s stamp.node stamp.clock elsewhere unanswered t posts b h.0.0 (only b (eqb-true b.node stamp.node me))
        (omega (arith, times_in-some b (queue_of t) among)) in
        answers_loans first t (serve_local s k t).state b h.1 h.0.1.some h.0.1.one found h.0.0.apart refl refl refl
    served t posts k e h false me = same_loans first t (serve_copy s stamp k (ask_at t k) t).state refl refl refl h.1

    frozen : (t : SetState) → Loans first t → (o : Option Desk) → Loans first (freeze_at s stamp t o).state
    frozen t h None = h
    frozen t h (Some desk) = same_loans first t (freeze_at s stamp t (Some desk)).state refl refl refl h

    left : (t : SetState) (v : ℕ) → Loans first t → (o : Option Desk) → Loans first (hand_over_to s stamp t v o).state
    left t v h None = h
    left t v h (Some desk) = same_loans first t (hand_over_to s stamp t v (Some desk)).state refl refl refl h

-- a letter arrives
pub loans_arrived : (stamp : Stamp) (letter : Letter) (t : SetState) → SomeEach t.held → ((c : ℕ) → count_by (is_asks c) t.pending ≤ 1) → AllPairs (λ (x y : Ask). x.stamp ≢ y.stamp) t.pending
    → ((ask : Ask) → letter.body ≡ CopyBody ask → Contains t.pending ask) → Loans t (arrive stamp letter t).state
loans_arrived stamp letter t some one apart waits = by_body letter.body refl
  where
    u : SetState
    u = learn letter.link t

    learnt : (newer : Bool)
        → ((if newer then record t { firm = letter.link; hoped = None } else t).held ≡ t.held) ×
        ((if newer then record t { firm = letter.link; hoped = None } else t).pending ≡ t.pending) ×
        ((if newer then record t { firm = letter.link; hoped = None } else t).gone ≡ t.gone)
    learnt true = (refl, refl, refl)
    learnt false = (refl, refl, refl)

    same : (u.held ≡ t.held) × (u.pending ≡ t.pending) × (u.gone ≡ t.gone)
    same = learnt (nat_lt t.firm.epoch letter.link.epoch)

    by_body : (body : Body) → letter.body ≡ body → Loans t (take_body letter.set stamp body u).state
    by_body (AskBody ask marked) says =
        let r = (route_same letter.set stamp marked (ParkedAsk ask) u).1 in same_loans t t _ (r.held ∙ same.0) (r.pending ∙ same.1) (route_gone letter.set stamp marked (ParkedAsk ask) u ∙ same.2) (no_more t)
    by_body (TellBody tell) says =
        let r = (route_same letter.set stamp false (ParkedTell tell) u).1 in same_loans t t _ (r.held ∙ same.0) (r.pending ∙ same.1) (route_gone letter.set stamp false (ParkedTell tell) u ∙ same.2) (no_more t)
    by_body (CopyBody ask) says = answers_loans t t (take_body letter.set stamp (CopyBody ask) u).state ask (no_more t) some one (waits ask says) apart
        (λ i. if list_any (λ other. other == ask.client) (same.2 i) then same.0 i else answered (same.0 i) ask)
        (ap (λ (l : List Ask). without l ask.stamp) same.1) (ap (λ (g : List ℕ). left_gone g ask.client) same.2)
    by_body (TokenBody desk) says = same_loans t t _ same.0 same.1 same.2 (no_more t)
    by_body (FreezeBody number modes) says = by_test (nat_lt u.number number)
      where
        by_test : (newer : Bool) → Loans t (if newer then record u { frozen = modes; number = number } else u)
        by_test true = same_loans t t _ same.0 same.1 same.2 (no_more t)
        by_test false = same_loans t t _ same.0 same.1 same.2 (no_more t)
