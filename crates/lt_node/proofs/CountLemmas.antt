-- In how many sets a client waits.
use Rattle.std.proofs.Common.{◌≡◌, ◌≢◌, ◌+◌, ◌<◌, ◌≤◌, ◌==◌, ◌||◌, ◌&&◌, ◌∙◌, Bool, true, false, ℕ, zero, suc, List, length, take, refl, sym, ap, arith, inl, inr, not, slice_index_or, if◌then◌else◌, eq-eqb, ne_eqb}
use Rattle.std.specs.List.{list_any}
use Rattle.std.proofs.Math.Bool.{or-false, or-true}
use Rattle.std.proofs.lemmas.Bool.{and_parts, cases_eq, cases_lt, cases_Bool, eqb-true, not-true}
use Rattle.std.proofs.lemmas.List.Folds.{list_any_more}
use Rattle.std.proofs.lemmas.List.{get_or_default, get_or_past, get_or-take, length-take-le}
use Rattle.lt_modes.specs.declared.ask.Ask.{Ask}
use Rattle.lt_modes.specs.Fits.{has_client}
use Rattle.lt_modes.specs.State.{SetState, no_ask}
use Rattle.lt_lists.specs.Below.{any_below, count_below}
use Rattle.lt_lists.proofs.Members.{list_any-at}
use Rattle.lt_lists.proofs.Searches.{same_count}
use Rattle.lt_spec.specs.declared.limits.TheConstants.{MAX_SETS_OF_SERVICE}
use Rattle.lt_core.specs.CoreData.{CoreData}
use Rattle.lt_modes.specs.Waiting.{waits}
use Rattle.lt_node.specs.Sets.{WaitLess, WaitMore, TellWaiting, asks_of}

abbrev one_here : Bool → ℕ
one_here b = if b then 1 else 0

-- Counts of the numbers below a bound.

pub count_most : (n : ℕ) (test : ℕ → Bool) → count_below n test ≤ n
count_most zero test = omega arith
count_most (suc n) test = elim (test n) as (λ t. count_below n test + (if t then 1 else 0) ≤ suc n) [
  | true ↦ omega (arith, count_most n test)
  | false ↦ omega (arith, count_most n test)
]

pub count_none : (n : ℕ) (test : ℕ → Bool) → ((k : ℕ) → test k ≡ false) → count_below n test ≡ 0
count_none zero test none = refl
count_none (suc n) test none =
    ap (λ (t : Bool). count_below n test + (if t then 1 else 0)) (none n) ∙ omega (arith, count_none n test none)

-- one that passes is counted
pub count_at : (n k : ℕ) (test : ℕ → Bool) → k < n → test k ≡ true → 1 ≤ count_below n test
count_at zero k test inside passes = absurd (omega (arith, inside))
count_at (suc n) k test inside passes = elim (cases_eq k n) [
  | inl same ↦
      let here = ap one_here (ap test (sym same) ∙ passes) in
      omega (arith, here)
  | inr apart ↦
      let before = count_at n k test (omega (arith, inside, apart)) passes in
      omega (arith, before)
]

-- some pass where their count isn't 0
pub some_counted : (n : ℕ) (test : ℕ → Bool) → not (count_below n test == 0) ≡ any_below n test
some_counted zero test = refl
some_counted (suc n) test = elim (test n) as (λ t. not (count_below n test + (if t then 1 else 0) == 0) ≡ (any_below n test || t)) [
  | true ↦ ap not (ne_eqb (count_below n test + 1) 0 (λ e. omega (arith, e))) ∙ sym (or-true (any_below n test))
  | false ↦
      let same : count_below n test + 0 ≡ count_below n test = omega arith in
      ap (λ (k : ℕ). not (k == 0)) same ∙ some_counted n test ∙ sym (or-false (any_below n test))
]

-- where one number changes, the counts differ by it
pub count_changed : (n s : ℕ) (test other : ℕ → Bool) → s < n → ((k : ℕ) → k ≢ s → other k ≡ test k)
    → count_below n other + (if test s then 1 else 0) ≡ count_below n test + (if other s then 1 else 0)
count_changed zero s test other inside same = absurd (omega (arith, inside))
count_changed (suc n) s test other inside same = elim (cases_eq n s) [
  | inl here ↦
      let rest = same_count n other test (λ k below. same k (λ e. omega (arith, below, here, e))) in
      let old = ap (λ (k : ℕ). one_here (test k)) here in
      let new = ap (λ (k : ℕ). one_here (other k)) here in
      omega (arith, rest, old, new)
  | inr apart ↦
      let rest = count_changed n s test other (omega (arith, inside, apart)) same in
      let last = ap one_here (same n apart) in
      omega (arith, rest, last)
]

-- an ask that stands before another one of its client
pub found_before : (asks : List Ask) (j k : ℕ) → j < k → k < length asks → (slice_index_or asks j no_ask).client ≡ (slice_index_or asks k no_ask).client
    → has_client (slice_index_or asks k no_ask).client (take k asks) ≡ true
found_before asks j k before inside same =
    let ask = slice_index_or asks j no_ask in
    let client = (slice_index_or asks k no_ask).client in
    let within : j < length (take k asks) = omega (arith, before, length-take-le k asks (omega (arith, inside))) in
    let here = get_or-take k asks j ask before ∙ get_or_default asks j ask no_ask (omega (arith, before, inside)) in
    list_any-at (λ (a : Ask). a.client == client) (take k asks) ask (j, within, here) (eq-eqb ask.client client same)

-- The next ask of a list, at place k.

abbrev client_at : List Ask → ℕ → ℕ
client_at asks k = (slice_index_or asks k no_ask).client

-- the client isn't among these
abbrev lives : List ℕ → ℕ → Bool
lives gone client = not (list_any (λ other. other == client) gone)

-- no ask before it is of its client, and it wasn't given up
abbrev IsNew : List Ask → List ℕ → ℕ → Type 0
IsNew asks gone k = (not (has_client (client_at asks k) (take k asks)) && lives gone (client_at asks k)) ≡ true

abbrev IsOld : List Ask → List ℕ → ℕ → Type 0
IsOld asks gone k = (not (has_client (client_at asks k) (take k asks)) && lives gone (client_at asks k)) ≡ false

-- what counts in a list of asks, where one is of the client
abbrev counted : List ℕ → ℕ → Bool → ℕ
counted gone client b = one_here (b && lives gone client)

none_yet : (asks : List Ask) (gone : List ℕ) (k : ℕ) → IsNew asks gone k → asks_of (take k asks) gone (client_at asks k) ≡ 0
none_yet asks gone k new = ap (counted gone (client_at asks k)) (not-true _ (and_parts _ _ new).0)

asks_more : (asks : List Ask) (gone : List ℕ) (k client : ℕ) → k < length asks
    → asks_of (take (k + 1) asks) gone client ≡ counted gone client (has_client client (take k asks) || (client_at asks k == client))
asks_more asks gone k client inside = ap (counted gone client) (list_any_more (λ (a : Ask). a.client == client) asks k no_ask inside)

-- an ask of another client changes nothing
other_more : (asks : List Ask) (gone : List ℕ) (k client : ℕ) → k < length asks → (client_at asks k == client) ≡ false
    → asks_of (take (k + 1) asks) gone client ≡ asks_of (take k asks) gone client
other_more asks gone k client inside other =
    asks_more asks gone k client inside ∙ ap (λ (b : Bool). counted gone client (has_client client (take k asks) || b)) other
    ∙ ap (counted gone client) (or-false (has_client client (take k asks)))

-- it is of one client more
new_more : (asks : List Ask) (gone : List ℕ) (k client : ℕ) → k < length asks → IsNew asks gone k
    → asks_of (take (k + 1) asks) gone client ≡ asks_of (take k asks) gone client + (if client_at asks k == client then 1 else 0)
new_more asks gone k client inside new = elim (cases_Bool (client_at asks k == client)) [
  | inl same ↦
      let is = eqb-true _ _ same in
      let none : asks_of (take k asks) gone client ≡ 0 = ap (asks_of (take k asks) gone) (sym is) ∙ none_yet asks gone k new in
      let live : lives gone client ≡ true =
      ap (lives gone) (sym is) ∙ (and_parts (not (has_client (client_at asks k) (take k asks))) (lives gone (client_at asks k)) new).1 in
      let more : asks_of (take (k + 1) asks) gone client ≡ 1 =
      asks_more asks gone k client inside ∙ ap (λ (b : Bool). counted gone client (has_client client (take k asks) || b)) same
      ∙ ap (counted gone client) (or-true (has_client client (take k asks))) ∙ ap one_here live in
      let one : one_here (client_at asks k == client) ≡ 1 = ap one_here same in
      omega (arith, none, more, one)
  | inr other ↦
      let zero_here : one_here (client_at asks k == client) ≡ 0 = ap one_here other in
      omega (arith, other_more asks gone k client inside other, zero_here)
]

dead_counts : (b live : Bool) → live ≡ false → one_here (b && live) ≡ 0
dead_counts true live dead = ap one_here dead
dead_counts false live dead = refl

-- where an ask before it is of its client, or it was given up, it counts nothing
same_again : (asks : List Ask) (gone : List ℕ) (k client : ℕ) → k < length asks
    → (has live : Bool) → has_client client (take k asks) ≡ has → lives gone client ≡ live → (not has && live) ≡ false
    → asks_of (take (k + 1) asks) gone client ≡ asks_of (take k asks) gone client
same_again asks gone k client inside true live here is old =
    asks_more asks gone k client inside ∙ ap (λ (b : Bool). counted gone client (b || (client_at asks k == client))) here
    ∙ sym (ap (counted gone client) here)
same_again asks gone k client inside false live here is old =
    asks_more asks gone k client inside ∙ dead_counts _ _ (is ∙ old) ∙ sym (dead_counts _ _ (is ∙ old))

-- it is of one that was there, or was given up
old_more : (asks : List Ask) (gone : List ℕ) (k client : ℕ) → k < length asks → IsOld asks gone k
    → asks_of (take (k + 1) asks) gone client ≡ asks_of (take k asks) gone client
old_more asks gone k client inside old = elim (cases_Bool (client_at asks k == client)) [
  | inl same ↦
      same_again asks gone k client inside (has_client client (take k asks)) (lives gone client) refl refl
      (ap (λ (c : ℕ). not (has_client c (take k asks)) && lives gone c) (sym (eqb-true _ _ same)) ∙ old)
  | inr other ↦ other_more asks gone k client inside other
]

pub WaitMore_new : (asks : List Ask) (gone : List ℕ) (k : ℕ) (old mid new : List ℕ) → k < length asks → IsNew asks gone k
    → WaitMore (take k asks) gone old mid → length new ≡ length mid
    → ((other : ℕ) → other < length mid → slice_index_or new other 0 ≡ slice_index_or mid other 0 + (if client_at asks k == other then 1 else 0))
    → WaitMore (take (k + 1) asks) gone old new
WaitMore_new asks gone k old mid new inside is_new more count each = record {
  count = count ∙ more.count;
  each = λ client within. omega (arith, each client (omega (arith, within, more.count)), more.each client within, new_more asks gone k client inside is_new);
}

pub WaitMore_old : (asks : List Ask) (gone : List ℕ) (k : ℕ) (old mid : List ℕ) → k < length asks → IsOld asks gone k
    → WaitMore (take k asks) gone old mid → WaitMore (take (k + 1) asks) gone old mid
WaitMore_old asks gone k old mid inside is_old more = record {
  count = more.count;
  each = λ client within. more.each client within ∙ ap (λ (n : ℕ). slice_index_or old client 0 + n) (sym (old_more asks gone k client inside is_old));
}

pub WaitLess_new : (asks : List Ask) (gone : List ℕ) (k : ℕ) (old mid new : List ℕ) → k < length asks → IsNew asks gone k
    → WaitLess (take k asks) gone old mid → length new ≡ length mid
    → ((other : ℕ) → other < length mid → slice_index_or new other 0 + (if client_at asks k == other then 1 else 0) ≡ slice_index_or mid other 0)
    → WaitLess (take (k + 1) asks) gone old new
WaitLess_new asks gone k old mid new inside is_new less count each = record {
  count = count ∙ less.count;
  each = λ client within. omega (arith, each client (omega (arith, within, less.count)), less.each client within, new_more asks gone k client inside is_new);
}

pub WaitLess_old : (asks : List Ask) (gone : List ℕ) (k : ℕ) (old mid : List ℕ) → k < length asks → IsOld asks gone k
    → WaitLess (take k asks) gone old mid → WaitLess (take (k + 1) asks) gone old mid
WaitLess_old asks gone k old mid inside is_old less = record {
  count = less.count;
  each = λ client within. ap (λ (n : ℕ). slice_index_or mid client 0 + n) (old_more asks gone k client inside is_old) ∙ less.each client within;
}

-- its client's number is still as it was
pub still_few : (asks : List Ask) (gone : List ℕ) (k : ℕ) (old mid : List ℕ) → IsNew asks gone k → WaitMore (take k asks) gone old mid
    → ((client : ℕ) → slice_index_or old client 0 ≤ MAX_SETS_OF_SERVICE)
    → slice_index_or mid (client_at asks k) 0 ≤ MAX_SETS_OF_SERVICE
still_few asks gone k old mid new more few = elim (cases_lt (client_at asks k) (length old)) [
  | inl within ↦ omega (arith, few (client_at asks k), more.each (client_at asks k) within, none_yet asks gone k new)
  | inr past ↦ omega (arith, get_or_past mid (client_at asks k) 0 (omega (arith, past, more.count)))
]

pub some_left : (asks : List Ask) (gone : List ℕ) (k : ℕ) (old mid : List ℕ) → k < length asks → IsNew asks gone k → WaitLess (take k asks) gone old mid
    → ((client : ℕ) → client < length old → asks_of asks gone client ≤ slice_index_or old client 0) → client_at asks k < length mid
    → 0 < slice_index_or mid (client_at asks k) 0
some_left asks gone k old mid inside new less enough within =
    let client = client_at asks k in
    let in_old : client < length old = omega (arith, within, less.count) in
    let some = list_any-at (λ (a : Ask). a.client == client) asks (slice_index_or asks k no_ask) (k, inside, get_or_default asks k (slice_index_or asks k no_ask) no_ask inside) (eq-eqb client client refl) in
    let one : asks_of asks gone client ≡ 1 = ap (counted gone client) some
    ∙ ap one_here (and_parts (not (has_client client (take k asks))) (lives gone client) new).1 in
    omega (arith, enough client in_old, less.each client in_old, none_yet asks gone k new, one)

-- The counts of a node's sets.

-- those who wait in a set may wait in one less
pub may_less : (sets s : ℕ) (core : ℕ → CoreData) (asks : List Ask) (gone counts : List ℕ) → TellWaiting sets core counts → s < sets
    → asks ≡ (core s).state.pending → gone ≡ (core s).state.gone
    → (client : ℕ) → client < length counts → asks_of asks gone client ≤ slice_index_or counts client 0
may_less sets s core asks gone counts tells inside are marked client within = elim (cases_Bool (has_client client asks && lives gone client)) [
  | inl waiting ↦
      let one = ap one_here waiting in
      let some = count_at sets s (λ k. waits (core k).state client) inside (sym (λ i. has_client client (are i) && lives (marked i) client) ∙ waiting) in
      omega (arith, one, some, tells client within)
  | inr none ↦
      let zero_here = ap one_here none in
      omega (arith, zero_here)
]

-- and then all wait in few
pub few_left : (sets : ℕ) (core : ℕ → CoreData) (asks : List Ask) (gone old mid : List ℕ) → TellWaiting sets core old → sets ≤ MAX_SETS_OF_SERVICE
    → WaitLess asks gone old mid → (client : ℕ) → slice_index_or mid client 0 ≤ MAX_SETS_OF_SERVICE
few_left sets core asks gone old mid tells few less client = elim (cases_lt client (length old)) [
  | inl inside ↦
      let most = count_most sets (λ s. waits (core s).state client) in
      omega (arith, most, few, tells client inside, less.each client inside)
  | inr past ↦ omega (arith, get_or_past mid client 0 (omega (arith, past, less.count)))
]

-- one set changed
pub waiting_changed : (sets s : ℕ) (core new : ℕ → CoreData) (asks later : List Ask) (gone left old mid counts : List ℕ) → TellWaiting sets core old → s < sets
    → asks ≡ (core s).state.pending → gone ≡ (core s).state.gone → later ≡ (new s).state.pending → left ≡ (new s).state.gone
    → ((k : ℕ) → k ≢ s → new k ≡ core k) → WaitLess asks gone old mid → WaitMore later left mid counts → TellWaiting sets new counts
waiting_changed sets s core new asks later gone left old mid counts tells inside are marked become remarked others less more = λ client within.
    let in_mid : client < length mid = omega (arith, within, more.count) in
    let in_old : client < length old = omega (arith, in_mid, less.count) in
    let changed = count_changed sets s (λ k. waits (core k).state client) (λ k. waits (new k).state client) inside
    (λ k apart. ap (λ (c : CoreData). waits c.state client) (others k apart)) in
    let was : asks_of asks gone client ≡ asks_of (core s).state.pending (core s).state.gone client = λ i. asks_of (are i) (marked i) client in
    let is : asks_of later left client ≡ asks_of (new s).state.pending (new s).state.gone client = λ i. asks_of (become i) (remarked i) client in
    omega (arith, tells client in_old, less.each client in_old, more.each client in_mid, changed, was, is)

-- where memory is taken, all wait as before
pub waiting_kept : (sets : ℕ) (core new : ℕ → CoreData) (counts : List ℕ) → TellWaiting sets core counts → ((s : ℕ) → (new s).state ≡ (core s).state) → TellWaiting sets new counts
waiting_kept sets core new counts tells same = λ client within.
    tells client within
    ∙ same_count sets (λ s. waits (core s).state client) (λ s. waits (new s).state client) (λ s below. ap (λ (t : SetState). waits t client) (sym (same s)))
