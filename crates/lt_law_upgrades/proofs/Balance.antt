-- What clients hold and ask for in a set, less what their asks give up, grows in no answer and in no end of a move.
use Rattle.std.proofs.Common.{◌≡◌, ◌≢◌, ℕ, ◌+◌, ◌-◌, ◌≤◌, inl, inr, List, Option, Some, None, Bool, true, false, refl, sym, ap, subst, arith, ◌∙◌, ◌⊎◌, ◌==◌, ◌&&◌, not, nat_lt, if◌then◌else◌, Contains, AllPairs, count_by, ne_eqb, eqb-true, eq-eqb}
use Rattle.std.specs.List.{list_any}
use Rattle.std.proofs.lemmas.Bool.{cases_eq, and_left, and_parts, and_right}
use Rattle.std.proofs.lemmas.List.Elements.{Contains-get_or}
use Rattle.lt_modes.specs.declared.mode.Mode.{Mode}
use Rattle.lt_modes.specs.declared.stamp.Stamp.{Stamp}
use Rattle.lt_modes.specs.declared.ask.Ask.{Ask}
use Rattle.lt_modes.specs.declared.parts.Row.{Row}
use Rattle.lt_modes.specs.Modes.{same_mode, add_lock, take_lock, held_modes}
use Rattle.lt_modes.specs.State.{SetState, Desk, Body, AskBody, TellBody, CopyBody, TokenBody, FreezeBody, Letter, ParkedAsk, ParkedTell, Post, no_ask, without}
use Rattle.lt_modes.specs.Serving.{ask_at, queue_of, next_service, give_up, answered, serve_local, serve_copy, is_gone, rows_after, without_gone as left_gone}
use Rattle.lt_modes.specs.HandingOver.{hand_over_to}
use Rattle.lt_modes.specs.Freezing.{freeze_at}
use Rattle.lt_modes.specs.SetMove.{make_tell}
use Rattle.lt_modes.specs.Routing.{learn}
use Rattle.lt_modes.specs.Taking.{arrive, take_body}
use Rattle.lt_modes.specs.Telling.{tell_of}
use Rattle.lt_modes.proofs.ModeAlgebra.{same_mode-true}
use Rattle.lt_law_accounts.proofs.Asks.{times_in-some, without_only, without_gone}
use Rattle.lt_law_accounts.proofs.RowTotals.{total, is_key, total_added, total_taken}
use Rattle.lt_model.proofs.Effects.{Fact, EndEffects, next_service-within, both}
use Rattle.lt_model.proofs.StandingEffects.{found_here, standing_ends}
use Rattle.lt_model.proofs.SentInMove.{stands}
use Rattle.lt_law_invariant.proofs.OwnSteps.{route_same}
use Rattle.lt_law_invariant.proofs.ClientCounts.{SomeEach, each_some, asks_without}
use Rattle.lt_law_invariant.proofs.ClientEffects.{GivenBy, Clients, is_asks, answers_kept, gone_same, one_of_client, route_gone, same_clients}
use Rattle.lt_lists.proofs.Sums.{sum_by-zero}
use Rattle.lt_law_ordered.proofs.Loans.{is_for, asks_for, for_fewer}
use Rattle.lt_law_upgrades.proofs.LiveAsks.{gives, is_giving, asks_giving, giving_fewer, other_giving, gone_fewer}

-- since the first state no client asks more, nor holds and asks for more of a mode than what its asks give up
pub record Balance (first t : SetState) : Type 0 where
  pub clients : Clients (λ c. 0) first t
  pub asks : (ask : Ask) → Contains t.pending ask → is_gone t ask.client ≡ false → Contains first.pending ask × (is_gone first ask.client ≡ false)
  pub marks : (c : ℕ) → is_gone t c ≡ true → is_gone first c ≡ true
  pub gives : (c : ℕ) (mode : Mode) → asks_giving t c mode ≤ asks_giving first c mode
  pub counts : (c : ℕ) (mode : Mode)
      → total t.held c mode + asks_for t c mode + asks_giving first c mode ≤ total first.held c mode + asks_for first c mode + asks_giving t c mode

abbrev pub balance : SetState → Fact
balance first t posts = Balance first t

pub even : (t : SetState) → Clients (λ c. 0) t t → Balance t t
even t sound = record {
  clients = sound;
  asks = λ ask there live. (there, live);
  marks = λ c e. e;
  gives = λ c mode. omega arith;
  counts = λ c mode. omega arith;
}

-- what clients have by now is sound by itself
pub clients_now : (bonus : ℕ → ℕ) (first t : SetState) → Clients bonus first t → Clients (λ c. 0) t t
clients_now bonus first t h = record { asks = λ c. omega arith; counts = λ c. omega arith; one = h.one; gives = h.gives; some = h.some }

-- rows, asks and marks as they were
pub same_balance : (first t u : SetState) → u.held ≡ t.held → u.pending ≡ t.pending → u.gone ≡ t.gone → Balance first t → Balance first u
same_balance first t u held pending gone h = record { clients = same_clients (λ c. 0) first t u held pending gone h.clients; asks = all.asks; marks = all.marks; gives = all.gives; counts = all.counts }
  where
    rows : Balance first (record t { held = u.held })
    rows = subst (λ (r : List Row). Balance first (record t { held = r })) (sym held) h

    asks : Balance first (record t { held = u.held; pending = u.pending })
    asks = subst (λ (l : List Ask). Balance first (record t { held = u.held; pending = l })) (sym pending) rows

    all : Balance first (record t { held = u.held; pending = u.pending; gone = u.gone })
    all = subst (λ (g : List ℕ). Balance first (record t { held = u.held; pending = u.pending; gone = g })) (sym gone) asks

-- an answer adds one lock of its client and mode, and takes away the one that is given up
answer_adds : (rows : List Row) (a : Ask) → SomeEach rows → GivenBy rows a.client a.gives_up → (c : ℕ) (mode : Mode)
    → total (answered rows a) c mode + (if is_giving false c mode a then 1 else 0) ≡ total rows c mode + (if is_key c mode a.client a.mode then 1 else 0)
answer_adds rows a some holds c mode = by_choice a.gives_up holds
  where
    added : (xs : List Row) → total (add_lock xs a.client a.mode) c mode ≡ total xs c mode + (if is_key c mode a.client a.mode then 1 else 0)
    added xs = total_added xs a.client c a.mode mode ∙ by_key (is_key c mode a.client a.mode)
      where
        by_key : (key : Bool) → (if key then total xs c mode + 1 else total xs c mode) ≡ total xs c mode + (if key then 1 else 0)
        by_key true = refl
        by_key false = omega arith

    no_key : (b : Bool) → ◌≡◌ {A = ℕ} (if b && false then 1 else 0) 0
    no_key true = refl
    no_key false = refl

    fewer : (g : Mode) → 1 ≤ total rows a.client g → total (take_lock rows a.client g) c mode + (if is_key c mode a.client g then 1 else 0) ≡ total rows c mode
    fewer g h = by_key (is_key c mode a.client g) refl (total_taken rows a.client c g mode (each_some rows some))
      where
        by_key : (key : Bool) → is_key c mode a.client g ≡ key → total (take_lock rows a.client g) c mode ≡ (if key then total rows c mode - 1 else total rows c mode)
            → total (take_lock rows a.client g) c mode + (if key then 1 else 0) ≡ total rows c mode
        by_key true e taken =
            let parts = and_parts (c == a.client) (same_mode mode g) e in
            let own : total rows c mode ≡ total rows a.client g = (λ i. total rows (eqb-true c a.client parts.0 i) (same_mode-true mode g parts.1 i)) in
            omega (arith, taken, own, h)
        by_key false e taken = omega (arith, taken)

    by_choice : (o : Option Mode) → GivenBy rows a.client o
        → total (add_lock (give_up rows a.client o) a.client a.mode) c mode + (if c == a.client && gives o mode then 1 else 0)
        ≡ total rows c mode + (if is_key c mode a.client a.mode then 1 else 0)
    by_choice None h = omega (arith, added rows, no_key (c == a.client))
    by_choice (Some g) h = omega (arith, added (take_lock rows a.client g), fewer g h)

-- an unanswered ask is answered, or void where it was given up
pub answers_balance : (first t u : SetState) (a : Ask) → Balance first t → Contains t.pending a → AllPairs (λ (x y : Ask). x.stamp ≢ y.stamp) t.pending
    → u.held ≡ rows_after t a → u.pending ≡ without t.pending a.stamp → u.gone ≡ left_gone t.gone a.client → Balance first u
answers_balance first t u a h there apart held pending gone = same_balance first v u held pending gone (record {
  clients = answers_kept (λ c. 0) first t v a h.clients there apart refl refl refl;
  asks = λ ask found live.
      h.asks ask (without_only t.pending a.stamp ask found) (sym (gone_same t.gone a.client ask.client (others ask found)) ∙ live);
  marks = λ c e. h.marks c (gone_fewer t.gone a.client c e);
  gives = λ c mode. omega (arith, h.gives c mode, giving_less c mode (cases_eq c a.client));
  counts = λ c mode. omega (arith, h.counts c mode, counted c mode (cases_eq c a.client));
})
  where
    left : List Ask
    left = without t.pending a.stamp

    v : SetState
    v = record t { held = rows_after t a; pending = left; gone = left_gone t.gone a.client }

    others : (b : Ask) → Contains left b → b.client ≢ a.client
    others b found same = without_gone t.pending a apart there
        (subst (Contains left) (sym (one_of_client t.pending a b (h.clients.one a.client) there (without_only t.pending a.stamp b found) same)) found)

    -- of this client none is left
    none_left : (c : ℕ) → c ≡ a.client → count_by (is_asks c) left ≡ 0
    none_left c e =
        let one : ◌≡◌ {A = ℕ} (if a.client == c then 1 else 0) 1 = ap (λ (b : Bool). if b then 1 else 0) (eq-eqb a.client c (sym e)) in
        omega (arith, asks_without (is_asks c) t.pending a apart there, h.clients.one c, one)

    giving_less : (c : ℕ) (mode : Mode) → (c ≡ a.client) ⊎ (c ≢ a.client) → asks_giving v c mode ≤ asks_giving t c mode
    giving_less c mode (inl e) = omega (arith, giving_fewer (is_gone v c) c mode left, none_left c e)
    giving_less c mode (inr d) = omega (
      arith,
      ap (λ (g : Bool). count_by (is_giving g c mode) left) (gone_same t.gone a.client c d),
      asks_without (is_giving (is_gone t c) c mode) t.pending a apart there,
    )

    no_key : (c : ℕ) (mode : Mode) → c ≢ a.client → is_key c mode a.client a.mode ≡ false
    no_key c mode d = and_left (c == a.client) (same_mode mode a.mode) (ne_eqb c a.client d)

    -- what it holds and what its ask gave up
    own : (c : ℕ) (mode : Mode) → c ≡ a.client → (gone : Bool) → is_gone t a.client ≡ gone
        → total (if gone then t.held else answered t.held a) c mode + asks_giving t c mode ≤ total t.held c mode + asks_for t c mode
    own c mode e true f =
        let marked : is_gone t c ≡ true = ap (is_gone t) e ∙ f in
        let none : asks_giving t c mode ≡ count_by (is_giving true c mode) t.pending = ap (λ (g : Bool). count_by (is_giving g c mode) t.pending) marked in
        omega (arith, none, none_void t.pending c mode)
      where
        none_void : (asks : List Ask) (c : ℕ) (mode : Mode) → count_by (is_giving true c mode) asks ≡ 0
        none_void asks c mode = sum_by-zero (λ (ask : Ask). 0) asks (λ i b within. refl)
    own c mode e false f =
        let live : is_gone t c ≡ false = ap (is_gone t) e ∙ f in
        let giving : asks_giving t c mode ≡ count_by (is_giving false c mode) t.pending = ap (λ (g : Bool). count_by (is_giving g c mode) t.pending) live in
        let asking : asks_for t c mode ≡ count_by (is_for false c mode) t.pending = ap (λ (g : Bool). count_by (is_for g c mode) t.pending) live in
        omega (
          arith,
          giving,
          asking,
          asks_without (is_giving false c mode) t.pending a apart there,
          asks_without (is_for false c mode) t.pending a apart there,
          giving_fewer false c mode left,
          none_left c e,
          answer_adds t.held a h.clients.some (h.clients.gives a there f) c mode,
        )

    aside : (c : ℕ) (mode : Mode) → c ≢ a.client → (gone : Bool) → is_gone t a.client ≡ gone → total (if gone then t.held else answered t.held a) c mode ≡ total t.held c mode
    aside c mode d true f = refl
    aside c mode d false f = omega (
      arith,
      answer_adds t.held a h.clients.some (h.clients.gives a there f) c mode,
      other_giving false c mode a d,
      ap {B = ℕ} (λ (b : Bool). if b then 1 else 0) (no_key c mode d),
    )

    counted : (c : ℕ) (mode : Mode) → (c ≡ a.client) ⊎ (c ≢ a.client)
        → total v.held c mode + asks_for v c mode + asks_giving t c mode ≤ total t.held c mode + asks_for t c mode + asks_giving v c mode
    counted c mode (inl e) = omega (arith, own c mode e (is_gone t a.client) refl, for_fewer (is_gone v c) c mode left, none_left c e)
    counted c mode (inr d) = omega (
      arith,
      aside c mode d (is_gone t a.client) refl,
      ap (λ (g : Bool). count_by (is_giving g c mode) left) (gone_same t.gone a.client c d),
      asks_without (is_giving (is_gone t c) c mode) t.pending a apart there,
      other_giving (is_gone t c) c mode a d,
      ap (λ (g : Bool). count_by (is_for g c mode) left) (gone_same t.gone a.client c d),
      asks_without (is_for (is_gone t c) c mode) t.pending a apart there,
      ap {B = ℕ} (λ (b : Bool). if b then 1 else 0) (and_right (not (is_gone t c)) _ (no_key c mode d)),
    )

-- what the end of a move keeps: where asks stand, what clients hold, and the balance
abbrev pub with_balance : ℕ → Stamp → (Ask → ℕ) → (Ask → ℕ) → SetState → Fact
with_balance s stamp elsewhere unanswered first = both (stands s stamp.node stamp.clock elsewhere unanswered) (balance first)

pub balance_ends : (s : ℕ) (stamp : Stamp) (elsewhere unanswered : Ask → ℕ) (first : SetState) → ((a : Ask) → a.node ≡ stamp.node → unanswered a ≡ 0)
    → EndEffects s stamp (with_balance s stamp elsewhere unanswered first) (with_balance s stamp elsewhere unanswered first)
    (with_balance s stamp elsewhere unanswered first)
balance_ends s stamp elsewhere unanswered first only = record {
  serves = λ t posts k e h. (base.serves t posts k e h.0, served t posts k e h ((ask_at t k).node == stamp.node) refl);
  freezes = λ t posts desk here none h. (base.freezes t posts desk here none h.0, frozen t h.1 t.desk);
  leaves = λ t posts k e h. (base.leaves t posts k e h.0, left t (ask_at t k).node h.1 t.desk);
  stays = λ t posts e h. (base.stays t posts e h.0, h.1);
  tells = λ t posts away differs h. (
    base.tells t posts away differs h.0,
    let same = (route_same s stamp false (ParkedTell (tell_of stamp t)) (record t { charge = held_modes t.held })).1 in
        same_balance first t (make_tell s stamp t).state same.held same.pending
        (route_gone s stamp false (ParkedTell (tell_of stamp t)) (record t { charge = held_modes t.held })) h.1,
  );
  tells_not = λ t posts away same h. (base.tells_not t posts away same h.0, h.1);
}
  where
    base : EndEffects s stamp (stands s stamp.node stamp.clock elsewhere unanswered) (stands s stamp.node stamp.clock elsewhere unanswered)
        (stands s stamp.node stamp.clock elsewhere unanswered)
    base = standing_ends s stamp.clock elsewhere unanswered stamp only

    served : (t : SetState) (posts : List Post) (k : ℕ) → next_service stamp.node t ≡ Some k
        → with_balance s stamp elsewhere unanswered first t posts → (own : Bool)
        → ((ask_at t k).node == stamp.node) ≡ own → Balance first (if own then serve_local s k t else serve_copy s stamp k (ask_at t k) t).state
    served t posts k e h true me =
        let b = ask_at t k in
        let among = Contains-get_or (queue_of t) k no_ask (next_service-within stamp.node t k e) in
        let found =
        found_here s stamp.node stamp.clock elsewhere unanswered t posts b h.0 (only b (eqb-true b.node stamp.node me))
        (omega (arith, times_in-some b (queue_of t) among)) in
        answers_balance first t (serve_local s k t).state b h.1 found h.0.apart refl refl refl
    served t posts k e h false me = same_balance first t (serve_copy s stamp k (ask_at t k) t).state refl refl refl h.1

    frozen : (t : SetState) → Balance first t → (o : Option Desk) → Balance first (freeze_at s stamp t o).state
    frozen t h None = h
    frozen t h (Some desk) = same_balance first t (freeze_at s stamp t (Some desk)).state refl refl refl h

    left : (t : SetState) (v : ℕ) → Balance first t → (o : Option Desk) → Balance first (hand_over_to s stamp t v o).state
    left t v h None = h
    left t v h (Some desk) = same_balance first t (hand_over_to s stamp t v (Some desk)).state refl refl refl h

-- a letter arrives
pub balance_arrived : (stamp : Stamp) (letter : Letter) (t : SetState) → Clients (λ c. 0) t t → AllPairs (λ (x y : Ask). x.stamp ≢ y.stamp) t.pending
    → ((ask : Ask) → letter.body ≡ CopyBody ask → Contains t.pending ask) → Balance t (arrive stamp letter t).state
balance_arrived stamp letter t sound apart waits = by_body letter.body refl
  where
    u : SetState
    u = learn letter.link t

    learnt : (newer : Bool)
        → ((if newer then record t { firm = letter.link; hoped = None } else t).held ≡ t.held) ×
        ((if newer then record t { firm = letter.link; hoped = None } else t).pending ≡ t.pending) ×
        ((if newer then record t { firm = letter.link; hoped = None } else t).gone ≡ t.gone)
    learnt true = (refl, refl, refl)
    learnt false = (refl, refl, refl)

    same : (u.held ≡ t.held) × (u.pending ≡ t.pending) × (u.gone ≡ t.gone)
    same = learnt (nat_lt t.firm.epoch letter.link.epoch)

    by_body : (body : Body) → letter.body ≡ body → Balance t (take_body letter.set stamp body u).state
    by_body (AskBody ask marked) says =
        let r = (route_same letter.set stamp marked (ParkedAsk ask) u).1 in
        same_balance t t _ (r.held ∙ same.0) (r.pending ∙ same.1) (route_gone letter.set stamp marked (ParkedAsk ask) u ∙ same.2) (even t sound)
    by_body (TellBody tell) says =
        let r = (route_same letter.set stamp false (ParkedTell tell) u).1 in
        same_balance t t _ (r.held ∙ same.0) (r.pending ∙ same.1) (route_gone letter.set stamp false (ParkedTell tell) u ∙ same.2) (even t sound)
    by_body (CopyBody ask) says = answers_balance t t (take_body letter.set stamp (CopyBody ask) u).state ask (even t sound) (waits ask says) apart
        (λ i. if list_any (λ other. other == ask.client) (same.2 i) then same.0 i else answered (same.0 i) ask)
        (ap (λ (l : List Ask). without l ask.stamp) same.1) (ap (λ (g : List ℕ). left_gone g ask.client) same.2)
    by_body (TokenBody desk) says = same_balance t t _ same.0 same.1 same.2 (even t sound)
    by_body (FreezeBody number modes) says = by_test (nat_lt u.number number)
      where
        by_test : (newer : Bool) → Balance t (if newer then record u { frozen = modes; number = number } else u)
        by_test true = same_balance t t _ same.0 same.1 same.2 (even t sound)
        by_test false = same_balance t t _ same.0 same.1 same.2 (even t sound)
