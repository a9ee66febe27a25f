-- What is granted and asked is a step of the account.
use Rattle.lt_modes.specs.Waiting.{pending_ask, waits}
use Rattle.std.proofs.Common.{◌≡◌, ℕ, inl, inr, List, [], ◌∷◌, ◌++◌, Option, Some, None, Bool, true, false, refl, sym, ap, subst, ◌∙◌, ◌≢◌, zero, suc, ◌+◌, ◌<◌, length, arith, ◌&&◌, ◌==◌, not, IsTrue, IsFalse, if◌then◌else◌, is_some, ◌⊎◌, ◌||◌, nat_lt, slice_index_or, eq-eqb, ne_eqb, get_or-set_same}
use Rattle.std.proofs.lemmas.Bool.{not-true, and_parts, or_cases, or_right}
use Rattle.lt_modes.specs.declared.mode.Mode.{Mode}
use Rattle.lt_modes.specs.declared.ask.Ask.{Ask}
use Rattle.lt_modes.specs.Modes.{excludes_itself, Modes, has, union, bars, covers, count_of, take_lock, own_modes, other_modes, has_none, same_modes}
use Rattle.lt_modes.specs.State.{SetState, Desk, Entry, Tell, Parked, ParkedAsk, ParkedTell, modes_of_asks, own_owed, others, Made, first_entry, entry_of, record_of}
use Rattle.lt_modes.specs.Freezing.{places_from, map_from, cons_if, frozen_by, is_target, targets, number_after, frozen_entry, freeze_at}
use Rattle.lt_modes.specs.Granting.{may_join, against, asks_before}
use Rattle.lt_modes.specs.declared.stamp.Stamp.{Stamp}
use Rattle.lt_modes.specs.declared.event.Event.TheVariants.{Unlock, NotHeld, Wait, Withheld, Withdraw}
use Rattle.lt_modes.specs.SetMove.{answers, same_wish, given_up}
use Rattle.lt_modes.specs.Routing.{Way, Parks, Goes, reversed, sent_on, route}
use Rattle.lt_modes.specs.declared.parts.Hoped.{Hoped}
use Rattle.lt_modes.specs.Serving.{without_gone}
use Rattle.lt_modes.specs.HandingOver.{settled, leaving, without_desk}
use Rattle.lt_law_accounts.specs.Account.{owed_and_waiting}
use Rattle.lt_law_accounts.specs.AccountSteps.{MayJoin, unlocking}
use Rattle.lt_law_accounts.proofs.AccountFacts.{bars_not, not_bars, below_by_members, has-union, has-left, has-right}
use Rattle.lt_law_accounts.specs.News.{sending}
use Rattle.lt_model.specs.AccountRules.{own_account, GrantsByRule, FrozenIsNotGranted, CommandsAreSteps}
use Rattle.lt_model.proofs.Effects.{route_ways}
use Rattle.lt_model.specs.NewsRules.{news_with, number_by, frozen_desk, FreezingIsSteps, FreezesAreTaken, DesksComeAndGo}

-- a test that fails against a union fails against its parts
pub fails_within : (mode : Mode) (more fewer : Modes) → ((m : Mode) → IsTrue (has m fewer) → IsTrue (has m more)) → IsFalse (has mode (bars more))
    → IsFalse (has mode (bars fewer))
fails_within mode more fewer within fails = not_bars fewer mode (λ bar. bars_not more mode fails (below_by_members fewer more within mode bar))

pub grants_by_rule : GrantsByRule
grants_by_rule me clock client mode s entry tells copies against_all can own charge =
    elim (or_cases (covers (own_modes s.held client) mode) (not (has mode (bars (other_modes s.held client))) && may_join me s client mode s.desk) can) [
      | inl covered ↦ inl covered
      | inr joins ↦
          let parts = and_parts (not (has mode (bars (other_modes s.held client)))) (may_join me s client mode s.desk) joins in
          inr (not-true (has mode (bars (other_modes s.held client))) parts.0, by_desk s.desk refl parts.1)
    ]
  where
    by_desk : (o : Option Desk) → s.desk ≡ o → may_join me s client mode o ≡ true
        → MayJoin against_all mode (own_account true clock entry tells copies s) (is_some o)
    by_desk None away e = (charge away, (and_parts (covers s.charge mode) (not (has mode s.frozen)) e).0)
    by_desk (Some desk) here e =
        let fails = not-true (has mode (bars (against me s client desk))) e in
        let waiting = asks_before s client desk in
        fails_within mode (against me s client desk) (union against_all (owed_and_waiting (own_account true clock entry tells copies s)))
        (λ m member. elim (has-union m against_all (owed_and_waiting (own_account true clock entry tells copies s)) member) [
          | inl other ↦ has-left m (others me s desk me) (union (own_owed me s desk) (modes_of_asks waiting))
              (subst (λ (x : Modes). IsTrue (has m x)) (own desk here).1 other)
          | inr owed ↦ has-right m (others me s desk me) (union (own_owed me s desk) (modes_of_asks waiting))
              (has-left m (own_owed me s desk) (modes_of_asks waiting)
              (subst (λ (x : Entry). IsTrue (has m (owed_and_waiting (own_account true clock x tells copies s)))) (own desk here).0 owed))
        ])
        fails

pub frozen_is_not_granted : FrozenIsNotGranted
frozen_is_not_granted me client mode s away can =
    elim (or_cases (covers (own_modes s.held client) mode) (not (has mode (bars (other_modes s.held client))) && may_join me s client mode s.desk) can) [
      | inl covered ↦ inl covered
      | inr joins ↦
          let joined = (and_parts (not (has mode (bars (other_modes s.held client)))) (may_join me s client mode s.desk) joins).1 in
          let alone : may_join me s client mode None ≡ true = ap (may_join me s client mode) (sym away) ∙ joined in
          inr (not-true (has mode s.frozen) (and_parts (covers s.charge mode) (not (has mode s.frozen)) alone).1)
    ]

-- routing changes neither rows, charge nor unanswered asks, and leaves the desk where it is
pub routed : (moving : Bool) (set clock : ℕ) (stamp : Stamp) (marked : Bool) (item : Parked) (s : SetState) (entry : Entry) (tells : List Tell) (copies : List Ask)
    → own_account moving clock entry tells copies (route set stamp marked item s).state ≡ own_account moving clock entry tells copies s
routed moving set clock stamp marked item s entry tells copies =
    route_ways (λ (m : Made). own_account moving clock entry tells copies m.state ≡ own_account moving clock entry tells copies s) set stamp marked item s
    (λ desk here. ap (λ (o : Option Desk). record (own_account moving clock entry tells copies s) { here = is_some o }) (sym here))
    (λ away w e. by_way w)
  where
    turned : (turns : Bool) (hoped : Option Hoped) → own_account moving clock entry tells copies (if turns then record s { hoped = hoped } else s) ≡ own_account moving clock entry tells copies s
    turned true hoped = refl
    turned false hoped = refl

    by_item : (i : Parked) → own_account moving clock entry tells copies (reversed stamp.node i s) ≡ own_account moving clock entry tells copies s
    by_item (ParkedTell tell) = refl
    by_item (ParkedAsk ask) = turned (excludes_itself ask.mode && not (ask.node == stamp.node)) (Some (record { node = ask.node; stamp = ask.stamp }))

    by_way : (w : Way) → own_account moving clock entry tells copies (sent_on set stamp item s w).state ≡ own_account moving clock entry tells copies s
    by_way Parks = refl
    by_way (Goes to mark) = by_item item

pub commands_are_steps : CommandsAreSteps
commands_are_steps = record {
  gives = λ clock client mode gives_up s entry tells copies. refl;
  unlocks = λ set clock client mode s entry tells copies. by_count set clock client mode s entry tells copies (count_of s.held client mode == 0);
  asks = λ set clock stamp ask s entry tells copies.
      routed true set clock stamp false (ParkedAsk ask) (record s { pending = s.pending ++ ask ∷ [] }) entry tells copies;
  drops = λ clock client s entry tells copies. refl;
  withdraws = λ set clock client other s entry tells copies. by_waits set clock client other s entry tells copies (waits s other);
  retakes = λ set clock ask s entry tells copies. by_wish set clock ask s entry tells copies (same_wish ask (pending_ask s ask.client));
}
  where
    by_waits : (set clock client other : ℕ) (s : SetState) (entry : Entry) (tells : List Tell) (copies : List Ask) (waiting : Bool)
        → own_account true clock entry tells copies
        (if waiting then given_up set client other s else answers (Withdraw client other set false) s).state
        ≡ own_account true clock entry tells copies s
    by_waits set clock client other s entry tells copies true = refl
    by_waits set clock client other s entry tells copies false = refl

    by_wish : (set clock : ℕ) (ask : Ask) (s : SetState) (entry : Entry) (tells : List Tell) (copies : List Ask) (same : Bool)
        → own_account true clock entry tells copies
        (if same then answers (Wait ask.client set ask.mode) (record s { gone = without_gone s.gone ask.client }) else answers (Withheld ask.client set ask.mode) s).state
        ≡ own_account true clock entry tells copies s
    by_wish set clock ask s entry tells copies true = refl
    by_wish set clock ask s entry tells copies false = refl

    by_count : (set clock client : ℕ) (mode : Mode) (s : SetState) (entry : Entry) (tells : List Tell) (copies : List Ask) (none : Bool)
        → own_account true clock entry tells copies
        (if none then answers (NotHeld client set mode) s else answers (Unlock client set mode) (record s { held = take_lock s.held client mode })).state
        ≡ (if none then own_account true clock entry tells copies s else unlocking client mode (own_account true clock entry tells copies s))
    by_count set clock client mode s entry tells copies true = refl
    by_count set clock client mode s entry tells copies false = refl

-- Rules of a node are steps of news.

-- what is made of the item at a place
map_from-at : {X Y : Type 0} (f : ℕ → X → Y) (first : ℕ) (xs : List X) (i : ℕ) (d : X) (e : Y) → i < length xs
    → slice_index_or (map_from f first xs) i e ≡ f (first + i) (slice_index_or xs i d)
map_from-at f first [] i d e within = absurd (omega (arith, within))
map_from-at f first (x ∷ rest) zero d e within = ap (λ (k : ℕ). f k x) (omega arith)
map_from-at f first (x ∷ rest) (suc i) d e within =
    map_from-at f (first + 1) rest i d e (omega (arith, within)) ∙ ap (λ (k : ℕ). f k (slice_index_or rest i d)) (omega arith)

-- some place passes, so there is a first one
some_place : {X : Type 0} (test : ℕ → X → Bool) (first : ℕ) (xs : List X) (i : ℕ) (d : X) → i < length xs → test (first + i) (slice_index_or xs i d) ≡ true
    → 0 < length (places_from test first xs)
some_place test first [] i d within e = absurd (omega (arith, within))
some_place test first (x ∷ rest) zero d within e =
    let here : test first x ≡ true = ap (λ (k : ℕ). test k x) (omega arith) ∙ e in
    subst (λ (b : Bool). 0 < length (cons_if b first (places_from test (first + 1) rest))) (sym here) (omega arith)
some_place test first (x ∷ rest) (suc i) d within e =
    let later = some_place test (first + 1) rest i d (omega (arith, within)) (ap (λ (k : ℕ). test k (slice_index_or rest i d)) (omega arith) ∙ e) in
    by_test (test first x) later
  where
    by_test : (here : Bool) → 0 < length (places_from test (first + 1) rest) → 0 < length (cons_if here first (places_from test (first + 1) rest))
    by_test true later = omega arith
    by_test false later = later

number_after-some : (told : List ℕ) (number : ℕ) → 0 < length told → number_after told number ≡ number + 1
number_after-some [] number some = absurd (omega (arith, some))
number_after-some (x ∷ rest) number some = refl

-- the entry of node x after the freeze
pub frozen_at : (me x : ℕ) (desk : Desk) → x < length desk.entries → entry_of (frozen_desk me desk) x ≡ frozen_entry me (frozen_by desk.queue) x (entry_of desk x)
frozen_at me x desk within =
    map_from-at (frozen_entry me (frozen_by desk.queue)) 0 desk.entries x first_entry first_entry within
    ∙ ap (λ (k : ℕ). frozen_entry me (frozen_by desk.queue) k (entry_of desk x)) (omega arith)

-- an entry that says what was told
abbrev told_now : Modes → Entry → Entry
told_now frozen entry = record entry { frozen_told = frozen }

own_frozen : (me : ℕ) (desk : Desk) → me < length desk.entries → entry_of (frozen_desk me desk) me ≡ told_now (frozen_by desk.queue) (entry_of desk me)
own_frozen me desk within =
    frozen_at me me desk within
    ∙ ap (λ (b : Bool). if b || is_target me (frozen_by desk.queue) me (entry_of desk me) then told_now (frozen_by desk.queue) (entry_of desk me) else entry_of desk me)
    (eq-eqb me me refl)

target_frozen : (me x : ℕ) (desk : Desk) → x < length desk.entries → IsTrue (is_target me (frozen_by desk.queue) x (entry_of desk x))
    → entry_of (frozen_desk me desk) x ≡ told_now (frozen_by desk.queue) (entry_of desk x)
target_frozen me x desk within target =
    frozen_at me x desk within
    ∙ ap (λ (b : Bool). if b then told_now (frozen_by desk.queue) (entry_of desk x) else entry_of desk x)
    (or_right (x == me) (is_target me (frozen_by desk.queue) x (entry_of desk x)) target)

other_frozen : (me x : ℕ) (desk : Desk) → x < length desk.entries → x ≢ me → IsFalse (is_target me (frozen_by desk.queue) x (entry_of desk x))
    → entry_of (frozen_desk me desk) x ≡ entry_of desk x
other_frozen me x desk within other spared =
    frozen_at me x desk within
    ∙ ap (λ (b : Bool). if b || is_target me (frozen_by desk.queue) x (entry_of desk x) then told_now (frozen_by desk.queue) (entry_of desk x) else entry_of desk x)
    (ne_eqb x me other)
    ∙ ap (λ (b : Bool). if b then told_now (frozen_by desk.queue) (entry_of desk x) else entry_of desk x) spared

target_number : (me x : ℕ) (desk : Desk) → x < length desk.entries → IsTrue (is_target me (frozen_by desk.queue) x (entry_of desk x)) → number_by me desk ≡ desk.number + 1
target_number me x desk within target =
    number_after-some (targets me (frozen_by desk.queue) desk) desk.number
    (some_place (is_target me (frozen_by desk.queue)) 0 desk.entries x first_entry within
    (ap (λ (k : ℕ). is_target me (frozen_by desk.queue) k (entry_of desk x)) (omega arith) ∙ target))

-- one of the three tests of a target fails
spared_knows : (other none same : Bool) → other ≡ false → (not other && (not none && not same)) ≡ false → (none ≡ true) ⊎ (same ≡ true)
spared_knows true none same o e = cc
spared_knows false true same o e = inl refl
spared_knows false false true o e = inr refl
spared_knows false false false o e = cc

pub freezing_is_steps : FreezingIsSteps
freezing_is_steps = record {
  desk = λ set stamp s desk. refl;
  keeps = λ set stamp s desk coming within.
      ap (λ (e : Entry). news_with (freeze_at set stamp s (Some desk)).state coming e (frozen_desk stamp.node desk) true false) (own_frozen stamp.node desk within);
  sends = λ me x s desk former coming within target.
      ap (λ (e : Entry). news_with s coming e (frozen_desk me desk) false false) (target_frozen me x desk within target)
      ∙ ap (λ (n : ℕ). record (sending coming (news_with s former (entry_of desk x) desk false true)) { last = n }) (target_number me x desk within target);
  spares = λ me x s desk coming within other spared.
      ap (λ (e : Entry). news_with s coming e (frozen_desk me desk) false false) (other_frozen me x desk within other spared);
  knows = λ me x desk other spared.
      spared_knows (x == me) (has_none (record_of (entry_of desk x))) (same_modes (entry_of desk x).frozen_told (frozen_by desk.queue)) (ne_eqb x me other) spared;
}

pub freezes_are_taken : FreezesAreTaken
freezes_are_taken number modes s former coming entry desk here serving = by_test (nat_lt s.number number)
  where
    by_test : (newer : Bool)
        → news_with (if newer then record s { frozen = modes; number = number } else s) coming entry desk here serving
        ≡ record (news_with s coming entry desk here serving) {
          number = if newer then number else s.number;
          frozen = if newer then modes else s.frozen;
        }
    by_test true = refl
    by_test false = refl

pub desks_come_and_go : DesksComeAndGo
desks_come_and_go = record {
  leaves = λ v epoch stamp s desk coming within.
      ap (λ (e : Entry). news_with (without_desk s v epoch) coming e (leaving stamp s desk) false false)
      (get_or-set_same desk.entries stamp.node (settled stamp s (entry_of desk stamp.node)) first_entry within);
  arrives = λ me s desk coming entry serving. refl;
}
