-- What clients hold and wait for in a set, through the commands of one of them.
use Rattle.lt_lists.proofs.Members.{list_any-at}
use Rattle.lt_modes.proofs.ModeAlgebra.{same_mode-true}
use Rattle.lt_model.proofs.Voids.{asks_ways, withdraws_ways}
use Rattle.std.specs.Prelude.{find, not, ◌||◌}
use Rattle.std.specs.List.{list_any}
use Rattle.lt_modes.specs.Waiting.{pending_ask, waits}
use Rattle.std.proofs.Common.{◌≡◌, ◌≢◌, ℕ, ◌+◌, ◌-◌, ◌≤◌, inl, inr, List, [], ◌∷◌, ◌++◌, Option, Some, None, Bool, true, false, refl, sym, ap, subst, arith, ◌∙◌, ◌⊎◌, ◌==◌, ◌&&◌, if◌then◌else◌, Contains, All, AllPairs, count_by, slice_index_or, is_none, sum_by, eq-eqb, ne_eqb, suc}
use Rattle.std.proofs.lemmas.Bool.{cases_eq, and_left, and_parts, eqb-true, false≢true}
use Rattle.std.proofs.lemmas.List.Elements.{Contains-push_cases, Contains-get_or}
use Rattle.std.proofs.lemmas.List.Quantifiers.{position-Some}
use Rattle.std.proofs.lemmas.List.Sums.{get_or-le-sum_by}
use Rattle.lt_modes.specs.declared.mode.Mode.{Mode}
use Rattle.lt_modes.specs.declared.stamp.Stamp.{Stamp}
use Rattle.lt_modes.specs.declared.ask.Ask.{Ask}
use Rattle.lt_modes.specs.declared.parts.Row.{Row}
use Rattle.lt_modes.specs.declared.event.Event.TheVariants.{Try, Unlock, NotHeld, Change, Wait, Withheld, Withdraw}
use Rattle.lt_modes.specs.Modes.{same_mode, is_row_of, no_row, row_place, count_at, count_of, add_lock, take_lock, without_client, locks_of}
use Rattle.lt_modes.specs.State.{SetState, Desk, Parked, ParkedAsk, Post, times_in, same_choice}
use Rattle.lt_modes.specs.Granting.{can_grant}
use Rattle.lt_modes.specs.Serving.{queue_of_desk, give_up, is_gone, without_gone as left_gone}
use Rattle.lt_modes.specs.SetMove.{answers, given, granted, ask_of, asked, locked, tried, unlocked, change_held, changed, dropped, asked_or_not, same_wish, given_up, withdrawn}
use Rattle.lt_spec.specs.Facts.{times_parked}
use Rattle.lt_model.specs.Invariant.{IsMadeBy}
use Rattle.lt_model.proofs.Effects.{Fact, HoldsOf, ActEffects, quiet_made, both}
use Rattle.lt_model.proofs.StandingEffects.{standing_acts, asks-stands}
use Rattle.lt_model.proofs.SentInMove.{Stands, stands}
use Rattle.lt_law_invariant.proofs.OwnSteps.{route_same}
use Rattle.lt_law_accounts.proofs.RowTotals.{row_count, total, total_taken, total_dropped}
use Rattle.lt_law_invariant.proofs.ClientCounts.{each_some, some_taken, some_dropped, locks_added, locks_fewer, locks_dropped, asks_pushed}
use Rattle.lt_lists.proofs.Sums.{counted_some, sum_by-zero}
use Rattle.lt_law_invariant.proofs.ClientEffects.{is_asks, GivenBy, Clients, clients, same_clients, others_given, some_given, live_by, new_by, live_fewer, new_fewer, live_less, new_less, gone_same, route_gone, one_of_client}

-- a count of rows is a part of the total
pub count_within : (rows : List Row) (client : ℕ) (mode : Mode) → count_of rows client mode ≤ total rows client mode
count_within rows client mode = by_place (row_place rows client mode) refl
  where
    by_place : (o : Option ℕ) → row_place rows client mode ≡ o → count_at rows o ≤ total rows client mode
    by_place None e = omega arith
    by_place (Some k) e =
        let found = position-Some (is_row_of client mode) rows k no_row e in
        let part = get_or-le-sum_by (row_count client mode) rows k no_row found.0 in
        let here : row_count client mode (slice_index_or rows k no_row) ≡ (slice_index_or rows k no_row).count =
        ap (λ (b : Bool). if b then (slice_index_or rows k no_row).count else 0) found.1 in
        omega (arith, part, here)

-- one command more of this client
abbrev pub one_for : ℕ → ℕ → ℕ
one_for client c = if client == c then 1 else 0

-- the client waits for nothing here
abbrev pub IsIdle : ℕ → SetState → Type 0
IsIdle client t = count_by (live_by (is_gone t client) client) t.pending ≡ 0

-- who doesn't wait has no ask that wasn't given up
no_asks : (asks : List Ask) (client : ℕ) → list_any (is_asks client) asks ≡ false → count_by (is_asks client) asks ≡ 0
no_asks asks client none =
    sum_by-zero (λ (ask : Ask). if is_asks client ask then 1 else 0) asks
    (λ i d within. by_test (is_asks client (slice_index_or asks i d)) refl (Contains-get_or asks i d within))
  where
    by_test : {x : Ask} (own : Bool) → is_asks client x ≡ own → Contains asks x → ◌≡◌ {A = ℕ} (if own then 1 else 0) 0
    by_test false e there = refl
    by_test {x = x} true e there = absurd (false≢true (sym none ∙ list_any-at (is_asks client) asks x there e))

pub idle_live : (t : SetState) (client : ℕ) → waits t client ≡ false → IsIdle client t
idle_live t client none = by_gone (is_gone t client) none
  where
    alone : (x : Bool) → (x && true) ≡ false → x ≡ false
    alone true e = e
    alone false e = refl

    by_gone : (g : Bool) → (list_any (is_asks client) t.pending && not g) ≡ false → count_by (live_by g client) t.pending ≡ 0
    by_gone true e = sum_by-zero (λ (ask : Ask). 0) t.pending (λ i d within. refl)
    by_gone false e = no_asks t.pending client (alone (list_any (is_asks client) t.pending) e)

abbrev pub idle : ℕ → SetState → Fact
idle client first t posts = Clients (λ c. 0) first t × IsIdle client t

pub no_ask_of : (client : ℕ) (t : SetState) → IsIdle client t → (ask : Ask) → Contains t.pending ask → is_gone t ask.client ≡ false → ask.client ≢ client
no_ask_of client t none ask there free same =
    omega (
      arith,
      none,
      counted_some (live_by (is_gone t client) client) t.pending ask there
          (ap (λ (g : Bool). not g && ask.client == client) (ap (is_gone t) (sym same) ∙ free) ∙ eq-eqb ask.client client same),
    )

more_allowed : (bonus more : ℕ → ℕ) (first t : SetState) → ((c : ℕ) → bonus c ≤ more c) → Clients bonus first t → Clients more first t
more_allowed bonus more first t grows h = record {
  asks = λ c. omega (arith, h.asks c, grows c);
  counts = λ c. omega (arith, h.counts c, grows c);
  one = h.one;
  gives = h.gives;
  some = h.some;
}

grants_kept : (client : ℕ) (mode : Mode) (gives_up : Option Mode) (first t : SetState) → Clients (λ c. 0) first t × IsIdle client t
    → Clients (one_for client) first (given client mode gives_up t)
grants_kept client mode gives_up first t (h, none) = record {
  asks = λ c. omega (arith, h.asks c);
  counts = λ c. omega (arith, h.counts c, fewer gives_up c);
  one = h.one;
  gives = λ b there free. others_given t.held client b.client mode gives_up b.gives_up h.some (no_ask_of client t none b there free) (h.gives b there free);
  some = some_given t.held client mode gives_up h.some;
}
  where
    fewer : (g : Option Mode) (c : ℕ) → locks_of (add_lock (give_up t.held client g) client mode) c ≤ locks_of t.held c + one_for client c
    fewer None c = omega (arith, locks_added t.held client c mode)
    fewer (Some g) c = omega (arith, locks_added (take_lock t.held client g) client c mode, locks_fewer t.held client c g)

releases_kept : (client : ℕ) (mode : Mode) (first t : SetState) → Clients (λ c. 0) first t × IsIdle client t
    → Clients (one_for client) first (record t { held = take_lock t.held client mode })
releases_kept client mode first t (h, none) = record {
  asks = λ c. omega (arith, h.asks c);
  counts = λ c. omega (arith, h.counts c, locks_fewer t.held client c mode);
  one = h.one;
  gives = λ b there free. still b.gives_up b.client (no_ask_of client t none b there free) (h.gives b there free);
  some = some_taken t.held client mode h.some;
}
  where
    still : (o : Option Mode) (c : ℕ) → c ≢ client → GivenBy t.held c o → GivenBy (take_lock t.held client mode) c o
    still None c d g = tt
    still (Some m) c d g =
        omega (
          arith,
          g,
          total_taken t.held client c mode m (each_some t.held h.some) ∙ ap (λ (b : Bool). if b then total t.held c m - 1 else total t.held c m)
              (and_left (c == client) (same_mode m mode) (ne_eqb c client d)),
        )

pub drops_kept : (client : ℕ) (first t : SetState) → Clients (λ c. 0) first t × IsIdle client t → Clients (λ c. 0) first (dropped client t)
drops_kept client first t (h, none) = record {
  asks = λ c. omega (arith, h.asks c);
  counts = λ c. omega (arith, h.counts c, locks_dropped t.held client c);
  one = h.one;
  gives = λ b there free. still b.gives_up b.client (no_ask_of client t none b there free) (h.gives b there free);
  some = some_dropped t.held client h.some;
}
  where
    still : (o : Option Mode) (c : ℕ) → c ≢ client → GivenBy t.held c o → GivenBy (without_client t.held client) c o
    still None c d g = tt
    still (Some m) c d g = omega (arith, g, total_dropped t.held client c m ∙ ap (λ (b : Bool). if b then 0 else total t.held c m) (ne_eqb c client d))

-- a client gives up what it waits for
pub withdraws_kept : (other : ℕ) (first t : SetState) → Clients (λ c. 0) first t → Clients (λ c. 0) first (record t { gone = other ∷ t.gone })
withdraws_kept other first t h = record {
  asks = λ c. omega (arith, h.asks c, live_less (other == c) (is_gone t c) c t.pending);
  counts = λ c. omega (arith, h.counts c, new_less (other == c) (is_gone t c) c t.pending);
  one = h.one;
  gives = λ b there live. h.gives b there (either (other == b.client) (is_gone t b.client) live);
  some = h.some;
}
  where
    either : (x y : Bool) → (x || y) ≡ false → y ≡ false
    either true y e = cc
    either false y e = e

-- what a search finds is there and passes
pub find_is : {X : Type 0} (test : X → Bool) (xs : List X) (d : X) → find test xs ≡ Some d → Contains xs d × (test d ≡ true)
find_is test [] d e = cc
find_is test (x ∷ rest) d e = by_test (test x) refl e (find_is test rest d)
  where
    by_test : (now : Bool) → test x ≡ now → (if now then Some x else find test rest) ≡ Some d → (find test rest ≡ Some d → Contains rest d × (test d ≡ true))
        → Contains (x ∷ rest) d × (test d ≡ true)
    by_test true passes e again = let same : x ≡ d = cc in ((0, omega arith, same), subst (λ (y : _). test y ≡ true) same passes)
    by_test false passes e again = let found = again e in ((suc found.0.0, omega (arith, found.0.1), found.0.2), found.1)

same_choice-true : (a b : Option Mode) → same_choice a b ≡ true → a ≡ b
same_choice-true None None e = refl
same_choice-true None (Some b) e = cc
same_choice-true (Some a) None e = cc
same_choice-true (Some a) (Some b) e = ap Some (same_mode-true a b e)

-- an ask that was given up is taken up again
retakes_kept : (client : ℕ) (ask : Ask) (first t : SetState) → ask.client ≡ client → same_wish ask (pending_ask t client) ≡ true
    → GivenBy t.held client ask.gives_up → Clients (λ c. 0) first t × IsIdle client t
    → Clients (one_for client) first (record t { gone = left_gone t.gone client })
retakes_kept client ask first t own wish holds (h, none) = record {
  asks = λ c. by_client c (cases_eq c client);
  counts = λ c. by_count c (cases_eq c client);
  one = h.one;
  gives = λ b there free. by_ask b there free (cases_eq b.client client) (pending_ask t client) refl;
  some = h.some;
}
  where
    gone_left : ℕ → Bool
    gone_left c = list_any (λ other. other == c) (left_gone t.gone client)

    one_more : (c : ℕ) → c ≡ client → ◌≡◌ {A = ℕ} (if client == c then 1 else 0) 1
    one_more c e = ap (λ (b : Bool). if b then 1 else 0) (eq-eqb client c (sym e))

    by_client : (c : ℕ) → (c ≡ client) ⊎ (c ≢ client) → count_by (live_by (gone_left c) c) t.pending ≤ count_by (live_by (is_gone first c) c) first.pending + one_for client c
    by_client c (inl e) = omega (arith, live_fewer (gone_left c) c t.pending, h.one c, one_more c e)
    by_client c (inr d) = omega (arith, h.asks c, ap (λ (g : Bool). count_by (live_by g c) t.pending) (gone_same t.gone client c d))

    by_count : (c : ℕ) → (c ≡ client) ⊎ (c ≢ client)
        → locks_of t.held c + count_by (new_by (gone_left c) c) t.pending ≤ locks_of first.held c + count_by (new_by (is_gone first c) c) first.pending + one_for client c
    by_count c (inl e) = omega (arith, new_fewer (gone_left c) c t.pending, h.one c, h.counts c, one_more c e)
    by_count c (inr d) = omega (arith, h.counts c, ap (λ (g : Bool). count_by (new_by g c) t.pending) (gone_same t.gone client c d))

    by_ask : (b : Ask) → Contains t.pending b → gone_left b.client ≡ false → (b.client ≡ client) ⊎ (b.client ≢ client) → (o : Option Ask) → pending_ask t client ≡ o
        → GivenBy t.held b.client b.gives_up
    by_ask b there free (inr d) o e = h.gives b there (sym (gone_same t.gone client b.client d) ∙ free)
    by_ask b there free (inl same) None e = absurd (false≢true (ap (same_wish ask) (sym e) ∙ wish))
    by_ask b there free (inl same) (Some old) e =
        let found = find_is (λ (x : Ask). x.client == client) t.pending old e in
        let theirs = eqb-true old.client client found.1 in
        let is_b : old ≡ b = one_of_client t.pending old b (h.one old.client) found.0 there (same ∙ sym theirs) in
        let parts = and_parts (same_mode ask.mode old.mode) (same_choice ask.gives_up old.gives_up) (ap (same_wish ask) (sym e) ∙ wish) in
        let choice : ask.gives_up ≡ b.gives_up = same_choice-true ask.gives_up old.gives_up parts.1 ∙ ap (λ (x : Ask). x.gives_up) is_b in
        subst (λ (c : ℕ). GivenBy t.held c b.gives_up) (sym same) (subst (GivenBy t.held client) choice holds)

asks_kept : (s : ℕ) (stamp : Stamp) (client : ℕ) (mode : Mode) (gives_up : Option Mode) (first t : SetState) → GivenBy t.held client gives_up → is_gone t client ≡ false
    → Clients (λ c. 0) first t × IsIdle client t
    → Clients (one_for client) first (asked s stamp (ask_of stamp client mode gives_up t) t).state
asks_kept s stamp client mode gives_up first t holds free (h, none) =
    let ask = ask_of stamp client mode gives_up t in
    let more : SetState = record t { pending = t.pending ++ ask ∷ [] } in
    let same = (route_same s stamp false (ParkedAsk ask) more).1 in
    same_clients (one_for client) first more (asked s stamp ask t).state same.held same.pending (route_gone s stamp false (ParkedAsk ask) more) (record {
      asks = λ c. omega (arith, h.asks c, asks_pushed (live_by (is_gone t c) c) t.pending ask, live_one (is_gone t c) (client == c));
      counts = λ c. omega (arith, h.counts c, asks_pushed (new_by (is_gone t c) c) t.pending ask, new_one (is_gone t c) (client == c) (is_none gives_up));
      one = λ c. by_own c (cases_eq client c) (asks_pushed (is_asks c) t.pending ask);
      gives = λ b there live. elim (Contains-push_cases t.pending ask b there) [
        | inl old ↦ h.gives b old live
        | inr new ↦ subst (λ (x : Ask). GivenBy t.held x.client x.gives_up) new holds
      ];
      some = h.some;
    })
  where
    live_one : (gone own : Bool) → (if not gone && own then 1 else 0) ≤ (if own then 1 else 0)
    live_one true own = omega arith
    live_one false own = omega arith

    new_one : (gone own new : Bool) → (if (not gone && own) && new then 1 else 0) ≤ (if own then 1 else 0)
    new_one true own new = omega arith
    new_one false true true = omega arith
    new_one false true false = omega arith
    new_one false false new = omega arith

    none_here : count_by (is_asks client) t.pending ≡ 0
    none_here = subst (λ (g : Bool). count_by (live_by g client) t.pending ≡ 0) free none

    by_own : (c : ℕ) → (client ≡ c) ⊎ (client ≢ c)
        → count_by (is_asks c) (t.pending ++ ask_of stamp client mode gives_up t ∷ []) ≡ count_by (is_asks c) t.pending + (if client == c then 1 else 0)
        → count_by (is_asks c) (t.pending ++ ask_of stamp client mode gives_up t ∷ []) ≤ 1
    by_own c (inl e) pushed =
        let zero_here : count_by (is_asks c) t.pending ≡ 0 = subst (λ (x : ℕ). count_by (is_asks x) t.pending ≡ 0) e none_here in
        let one : ◌≡◌ {A = ℕ} (if client == c then 1 else 0) 1 = ap (λ (b : Bool). if b then 1 else 0) (eq-eqb client c e) in
        omega (arith, pushed, zero_here, one)
    by_own c (inr d) pushed =
        let nothing : ◌≡◌ {A = ℕ} (if client == c then 1 else 0) 0 = ap (λ (b : Bool). if b then 1 else 0) (ne_eqb client c d) in
        omega (arith, pushed, nothing, h.one c)

-- what the commands of one client lead to
pub record ActsOf (set : ℕ) (stamp : Stamp) (client : ℕ) (begun mid : Fact) : Type 0 where
  pub nothing : (t : SetState) (posts : List Post) → begun t posts → mid t posts
  pub grants : (mode : Mode) (t : SetState) (posts : List Post) → begun t posts → mid (given client mode None t) posts
  pub changes : (gives_up mode : Mode) (t : SetState) (posts : List Post) → begun t posts → mid (given client mode (Some gives_up) t) posts
  pub releases : (mode : Mode) (t : SetState) (posts : List Post) → begun t posts → mid (record t { held = take_lock t.held client mode }) posts
  pub retakes : (mode : Mode) (gives_up : Option Mode) (t : SetState) (posts : List Post) → same_wish (ask_of stamp client mode gives_up t) (pending_ask t client) ≡ true
      → GivenBy t.held client gives_up → begun t posts → mid (record t { gone = left_gone t.gone client }) posts
  pub asks : (mode : Mode) (t : SetState) (posts : List Post) → is_gone t client ≡ false → begun t posts → HoldsOf mid posts (asked set stamp (ask_of stamp client mode None t) t)
  pub change_asks : (gives_up mode : Mode) (t : SetState) (posts : List Post) → (count_of t.held client gives_up == 0) ≡ false → is_gone t client ≡ false → begun t posts
      → HoldsOf mid posts (asked set stamp (ask_of stamp client mode (Some gives_up) t) t)

some_one : (n : ℕ) → (n == 0) ≡ false → 1 ≤ n
some_one n e = grind (arith, e)

-- an ask that can't be granted at once
ask_of_client : (set : ℕ) (stamp : Stamp) (client : ℕ) (begun mid : Fact) → ActsOf set stamp client begun mid → (mode : Mode) (gives_up : Option Mode) (t : SetState)
    (posts : List Post) → GivenBy t.held client gives_up → begun t posts
    → (is_gone t client ≡ false → HoldsOf mid posts (asked set stamp (ask_of stamp client mode gives_up t) t))
    → HoldsOf mid posts (asked_or_not set stamp (ask_of stamp client mode gives_up t) t)
ask_of_client set stamp client begun mid acts mode gives_up t posts holds h asks =
    asks_ways (HoldsOf mid posts) set stamp (ask_of stamp client mode gives_up t) t asks
    (λ gone same. quiet_made mid posts (answers (Wait client set mode) (record t { gone = left_gone t.gone client })) refl (acts.retakes mode gives_up t posts same holds h))
    (quiet_made mid posts (answers (Withheld client set mode) t) refl (acts.nothing t posts h))

pub locked_of : (set : ℕ) (stamp : Stamp) (client : ℕ) (begun mid : Fact) → ActsOf set stamp client begun mid
    → (mode : Mode) (t : SetState) (posts : List Post) → begun t posts → HoldsOf mid posts (locked set stamp client mode t)
locked_of set stamp client begun mid acts mode t posts h = by_test (can_grant stamp.node t client mode)
  where
    by_test : (can : Bool) → HoldsOf mid posts (if can then granted set client mode t else asked_or_not set stamp (ask_of stamp client mode None t) t)
    by_test true = quiet_made mid posts (granted set client mode t) refl (acts.grants mode t posts h)
    by_test false = ask_of_client set stamp client begun mid acts mode None t posts tt h (λ free. acts.asks mode t posts free h)

pub tried_of : (set : ℕ) (stamp : Stamp) (client : ℕ) (begun mid : Fact) → ActsOf set stamp client begun mid
    → (mode : Mode) (t : SetState) (posts : List Post) → begun t posts → HoldsOf mid posts (tried set stamp client mode t)
tried_of set stamp client begun mid acts mode t posts h = by_test (can_grant stamp.node t client mode)
  where
    by_test : (can : Bool) → HoldsOf mid posts (if can then answers (Try client set mode true) (given client mode None t) else answers (Try client set mode false) t)
    by_test true = quiet_made mid posts (answers (Try client set mode true) (given client mode None t)) refl (acts.grants mode t posts h)
    by_test false = quiet_made mid posts (answers (Try client set mode false) t) refl (acts.nothing t posts h)

pub unlocked_of : (set : ℕ) (stamp : Stamp) (client : ℕ) (begun mid : Fact) → ActsOf set stamp client begun mid
    → (mode : Mode) (t : SetState) (posts : List Post) → begun t posts → HoldsOf mid posts (unlocked set client mode t)
unlocked_of set stamp client begun mid acts mode t posts h = by_test (count_of t.held client mode == 0)
  where
    by_test : (none : Bool)
        → HoldsOf mid posts (if none then answers (NotHeld client set mode) t else answers (Unlock client set mode) (record t { held = take_lock t.held client mode }))
    by_test true = quiet_made mid posts (answers (NotHeld client set mode) t) refl (acts.nothing t posts h)
    by_test false = quiet_made mid posts (answers (Unlock client set mode) (record t { held = take_lock t.held client mode })) refl (acts.releases mode t posts h)

pub changed_of : (set : ℕ) (stamp : Stamp) (client : ℕ) (begun mid : Fact) → ActsOf set stamp client begun mid
    → (gives_up mode : Mode) (t : SetState) (posts : List Post) → begun t posts
    → HoldsOf mid posts (changed set stamp client gives_up mode t)
changed_of set stamp client begun mid acts gives_up mode t posts h = by_count (count_of t.held client gives_up == 0) refl
  where
    by_test : (count_of t.held client gives_up == 0) ≡ false → (can : Bool)
        → HoldsOf mid posts (if can then answers (Change client set gives_up mode) (given client mode (Some gives_up) t) else asked_or_not set stamp
        (ask_of stamp client mode (Some gives_up) t) t)
    by_test holds true =
        quiet_made mid posts (answers (Change client set gives_up mode) (given client mode (Some gives_up) t)) refl (acts.changes gives_up mode t posts h)
    by_test holds false = ask_of_client set stamp client begun mid acts mode (Some gives_up) t posts
        (omega (arith, count_within t.held client gives_up, some_one (count_of t.held client gives_up) holds)) h (λ free. acts.change_asks gives_up mode t posts holds free h)

    by_count : (none : Bool) → (count_of t.held client gives_up == 0) ≡ none
        → HoldsOf mid posts (if none then answers (NotHeld client set gives_up) t else change_held set stamp client gives_up mode t)
    by_count true e = quiet_made mid posts (answers (NotHeld client set gives_up) t) refl (acts.nothing t posts h)
    by_count false e = by_test e (can_grant stamp.node t client mode)

pub clients_acts : (s below : ℕ) (stamp : Stamp) (client : ℕ) (elsewhere unanswered : Ask → ℕ) (first : SetState) → stamp.clock ≡ below + 1
    → ActsOf s stamp client (both (stands s stamp.node below elsewhere unanswered) (idle client first))
    (both (stands s stamp.node stamp.clock elsewhere unanswered) (clients (one_for client) first))
clients_acts s below stamp client elsewhere unanswered first next = record {
  nothing = λ t posts h. (standing.nothing t posts h.0, more_allowed (λ c. 0) (one_for client) first t (λ c. omega arith) h.1.0);
  grants = λ mode t posts h. (stood t (given client mode None t) posts refl refl refl h.0, grants_kept client mode None first t h.1);
  changes = λ gives_up mode t posts h. (stood t (given client mode (Some gives_up) t) posts refl refl refl h.0, grants_kept client mode (Some gives_up) first t h.1);
  releases = λ mode t posts h. (stood t (record t { held = take_lock t.held client mode }) posts refl refl refl h.0, releases_kept client mode first t h.1);
  retakes = λ mode gives_up t posts same holds h. (
    stood t (record t { gone = left_gone t.gone client }) posts refl refl refl h.0,
    retakes_kept client (ask_of stamp client mode gives_up t) first t refl same holds h.1,
  );
  asks = λ mode t posts free h. (asks_stand (ask_of stamp client mode None t) t posts refl refl h.0, asks_kept s stamp client mode None first t tt free h.1);
  change_asks = λ gives_up mode t posts holds free h. (
    asks_stand (ask_of stamp client mode (Some gives_up) t) t posts refl refl h.0,
    asks_kept s stamp client mode (Some gives_up) first t (omega (arith, count_within t.held client gives_up, some_one (count_of t.held client gives_up) holds)) free h.1,
  );
}
  where
    standing : ActEffects s stamp (stands s stamp.node below elsewhere unanswered) (stands s stamp.node stamp.clock elsewhere unanswered)
    standing = standing_acts s below elsewhere unanswered stamp next

    stood : (t u : SetState) (posts : List Post) → u.pending ≡ t.pending → u.parked ≡ t.parked → u.desk ≡ t.desk → Stands s stamp.node below elsewhere unanswered t posts
        → Stands s stamp.node stamp.clock elsewhere unanswered u posts
    stood t u posts pending parked desk h =
        let n = standing.nothing t posts h in
        record {
          once = λ a. omega (
            arith,
            n.once a,
            ap (λ (l : List Parked). sum_by (times_parked a) l) parked,
            ap
                (λ (o : Option Desk). times_in a (queue_of_desk o)) desk,
            ap (times_in a) pending,
          );
          own = subst (λ (l : List Ask). All (IsMadeBy stamp.node stamp.clock) l) (sym pending) n.own;
          apart = subst (λ (l : List Ask). AllPairs (λ (a b : Ask). a.stamp ≢ b.stamp) l) (sym pending) n.apart;
          copies = n.copies;
        }

    asks_stand : (ask : Ask) (t : SetState) (posts : List Post) → ask.stamp ≡ stamp → ask.node ≡ stamp.node → Stands s stamp.node below elsewhere unanswered t posts
        → HoldsOf (stands s stamp.node stamp.clock elsewhere unanswered) posts (asked s stamp ask t)
    asks_stand ask t posts made me h = asks-stands s below elsewhere unanswered stamp ask t posts (omega (arith, next)) made me h

-- a client gives up what another one, or it itself, waits for
pub withdrawn_of : (s below : ℕ) (stamp : Stamp) (client other : ℕ) (elsewhere unanswered : Ask → ℕ) (first : SetState) → stamp.clock ≡ below + 1
    → (t : SetState) (posts : List Post) → both (stands s stamp.node below elsewhere unanswered) (clients (λ c. 0) first) t posts
    → HoldsOf (both (stands s stamp.node stamp.clock elsewhere unanswered) (clients (λ c. 0) first)) posts (withdrawn s client other t)
withdrawn_of s below stamp client other elsewhere unanswered first next t posts h =
    withdraws_ways (HoldsOf (both (stands s stamp.node stamp.clock elsewhere unanswered) (clients (λ c. 0) first)) posts) s client other t
    (λ waiting. quiet_made (both (stands s stamp.node stamp.clock elsewhere unanswered) (clients (λ c. 0) first)) posts (given_up s client other t) refl
    (standing.withdraws other t posts waiting h.0, withdraws_kept other first t h.1))
    (λ idle_there. quiet_made (both (stands s stamp.node stamp.clock elsewhere unanswered) (clients (λ c. 0) first)) posts (answers (Withdraw client other s false) t) refl
    (standing.nothing t posts h.0, h.1))
  where
    standing : ActEffects s stamp (stands s stamp.node below elsewhere unanswered) (stands s stamp.node stamp.clock elsewhere unanswered)
    standing = standing_acts s below elsewhere unanswered stamp next
