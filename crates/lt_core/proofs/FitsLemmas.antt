-- Tests of all asks, or of some, from a place on.
use Rattle.std.proofs.Common.{◌≡◌, ◌==◌, ◌∙◌, ◌+◌, ◌<◌, ◌++◌, ◌||◌, ◌&&◌, not, ◌≤◌, ℕ, Bool, List, [], ◌∷◌, length, map, drop, refl, sym, ap, subst, arith, zero, suc, eq-eqb, ne_eqb, find, Some, if◌then◌else◌, ◌≢◌, true, false, filter_map, slice_index_or}
use Rattle.std.specs.List.{list_all}
use Rattle.std.proofs.lemmas.List.Folds.{list_any-append}
use Rattle.lt_modes.specs.declared.ask.Ask.{Ask}
use Rattle.lt_modes.specs.State as rules
use Rattle.lt_modes.specs.State.{SetState, no_ask}
use Rattle.std.proofs.lemmas.List.{drop_more, drop_all}
use Rattle.lt_modes.specs.Fits.{has_client, are_apart, is_known, ask_if}
use Rattle.lt_desk.specs.declared.parked.Parked.{Parked}
use Rattle.lt_desk.specs.declared.parked.Parked.TheVariants.{Ask as WaitingAsk, Tell as WaitingTell}
use Rattle.lt_desk.specs.LetterSeen.{parked_seen}
use Rattle.lt_core.specs.Steps.{is_known_item, is_apart_from}

-- A test of a list that asks of each item whether it passes, with what stands after it: the item at a place settles it,
-- or it goes on.

pub all_stops : {X : Type 0} (P : List X → Bool) (test : X → List X → Bool) (xs : List X) (d : X) (k : ℕ) (b : Bool)
    → ((x : X) (rest : List X) → P (x ∷ rest) ≡ (test x rest && P rest))
    → k < length xs → b ≡ test (slice_index_or xs k d) (drop (k + 1) xs) → b ≡ false → false ≡ P (drop k xs)
all_stops P test xs d k b cons h is e =
    sym (ap P (drop_more xs k d h) ∙ (cons (slice_index_or xs k d) (drop (k + 1) xs) ∙ ap (λ t. t && P (drop (k + 1) xs)) (sym is ∙ e)))

pub all_goes_on : {X : Type 0} (P : List X → Bool) (test : X → List X → Bool) (xs : List X) (d : X) (k : ℕ) (b : Bool)
    → ((x : X) (rest : List X) → P (x ∷ rest) ≡ (test x rest && P rest))
    → k < length xs → b ≡ test (slice_index_or xs k d) (drop (k + 1) xs) → b ≡ true → P (drop (k + 1) xs) ≡ P (drop k xs)
all_goes_on P test xs d k b cons h is e =
    sym (ap P (drop_more xs k d h) ∙ (cons (slice_index_or xs k d) (drop (k + 1) xs) ∙ ap (λ t. t && P (drop (k + 1) xs)) (sym is ∙ e)))

pub any_stops : {X : Type 0} (P : List X → Bool) (test : X → List X → Bool) (xs : List X) (d : X) (k : ℕ) (b : Bool)
    → ((x : X) (rest : List X) → P (x ∷ rest) ≡ (test x rest || P rest))
    → k < length xs → b ≡ test (slice_index_or xs k d) (drop (k + 1) xs) → b ≡ true → true ≡ P (drop k xs)
any_stops P test xs d k b cons h is e =
    sym (ap P (drop_more xs k d h) ∙ (cons (slice_index_or xs k d) (drop (k + 1) xs) ∙ ap (λ t. t || P (drop (k + 1) xs)) (sym is ∙ e)))

pub any_goes_on : {X : Type 0} (P : List X → Bool) (test : X → List X → Bool) (xs : List X) (d : X) (k : ℕ) (b : Bool)
    → ((x : X) (rest : List X) → P (x ∷ rest) ≡ (test x rest || P rest))
    → k < length xs → b ≡ test (slice_index_or xs k d) (drop (k + 1) xs) → b ≡ false → P (drop (k + 1) xs) ≡ P (drop k xs)
any_goes_on P test xs d k b cons h is e =
    sym (ap P (drop_more xs k d h) ∙ (cons (slice_index_or xs k d) (drop (k + 1) xs) ∙ ap (λ t. t || P (drop (k + 1) xs)) (sym is ∙ e)))

-- the item at a place of what is parked, as the rules see it
item_at : (items : List Parked) (k : ℕ) (x : Parked) → k < length (map parked_seen items) → x ≡ slice_index_or items k x
    → slice_index_or (map parked_seen items) k (rules.ParkedAsk no_ask) ≡ parked_seen x
item_at [] k x h is = absurd (omega arith)
item_at (y ∷ rest) zero x h is = ap parked_seen (sym is)
item_at (y ∷ rest) (suc k) x h is = item_at rest k x (omega (arith, h)) is

pub item_is : (parked : List rules.Parked) (items : List Parked) (k : ℕ) (x : Parked) → map parked_seen items ≡ parked → k < length parked → x ≡ slice_index_or items k x
    → slice_index_or parked k (rules.ParkedAsk no_ask) ≡ parked_seen x
item_is parked items k x seen h is =
    subst (λ list. slice_index_or list k (rules.ParkedAsk no_ask) ≡ parked_seen x) seen (item_at items k x (subst (λ list. k < length list) (sym seen) h) is)

-- the first ask of a client
pub found_here : (client : ℕ) (xs : List Ask) (k : ℕ) (x : Ask) → k < length xs → x ≡ slice_index_or xs k no_ask → x.client ≡ client
    → Some x ≡ find (λ (ask : Ask). ask.client == client) (drop k xs)
found_here client xs k x h is e =
    let rest = find (λ (ask : Ask). ask.client == client) (drop (k + 1) xs) in
    sym (ap (find (λ (ask : Ask). ask.client == client)) (drop_more xs k no_ask h)
    ∙ (ap (λ (a : Ask). if a.client == client then Some a else rest) (sym is) ∙ ap (λ (t : Bool). if t then Some x else rest) (eq-eqb x.client client e)))

pub found_later : (client : ℕ) (xs : List Ask) (k : ℕ) (x : Ask) → k < length xs → x ≡ slice_index_or xs k no_ask → x.client ≢ client
    → find (λ (ask : Ask). ask.client == client) (drop (k + 1) xs) ≡ find (λ (ask : Ask). ask.client == client) (drop k xs)
found_later client xs k x h is e =
    let rest = find (λ (ask : Ask). ask.client == client) (drop (k + 1) xs) in
    sym (ap (find (λ (ask : Ask). ask.client == client)) (drop_more xs k no_ask h)
    ∙ (ap (λ (a : Ask). if a.client == client then Some a else rest) (sym is) ∙ ap (λ (t : Bool). if t then Some x else rest) (ne_eqb x.client client e)))

-- no item is left
pub none_left : {X : Type 0} (P : List X → Bool) (xs : List X) (n k : ℕ) → n ≡ length xs → n ≤ k → P [] ≡ P (drop k xs)
none_left P xs n k is h = sym (ap P (drop_all k xs (subst (λ m. m ≤ k) is h)))

pub is_place : (k n m : ℕ) → k < n → n ≡ m → k < m
is_place k n m h is = subst (λ x. k < x) is h

-- from a place on
from_place : {X : Type 0} → (xs : List X) (d : X) (k : ℕ) → k < length xs → drop k xs ≡ slice_index_or xs k d ∷ drop (suc k) xs
from_place [] d k h = absurd (omega (arith, h))
from_place (x ∷ rest) d zero h = refl
from_place (x ∷ rest) d (suc k) h = from_place rest d k (omega (arith, h))

pub any_step : (client : ℕ) (queue : List Ask) (k : ℕ) → k < length queue
    → has_client client (drop k queue) ≡ ((slice_index_or queue k no_ask).client == client || has_client client (drop (suc k) queue))
any_step client queue k h = ap (λ (asks : List Ask). has_client client asks) (from_place queue no_ask k h)

-- two asks are of one client, among the asks before and those after
pub apart_step : (queue more : List Ask) (k : ℕ) → k < length queue
    → are_apart (drop k queue ++ more)
    ≡ (not (has_client (slice_index_or queue k no_ask).client (drop (k + 1) queue) || has_client (slice_index_or queue k no_ask).client more) && are_apart (drop (k + 1) queue ++ more))
apart_step queue more k h =
    ap (λ (asks : List Ask). are_apart (asks ++ more)) (drop_more queue k no_ask h)
    ∙ ap (λ b. not b && are_apart (drop (k + 1) queue ++ more)) (list_any-append (λ (ask : Ask). ask.client == (slice_index_or queue k no_ask).client) (drop (k + 1) queue) more)

apart_first : (item : Parked) (rest : List Parked)
    → are_apart (filter_map ask_if (map parked_seen (item ∷ rest)))
    ≡ (is_apart_from (parked_seen item) (filter_map ask_if (map parked_seen rest)) && are_apart (filter_map ask_if (map parked_seen rest)))
apart_first (WaitingAsk ask) rest = refl
apart_first (WaitingTell tell) rest = refl

pub apart_parked : (items : List Parked) (k : ℕ) → k < length items
    → are_apart (filter_map ask_if (map parked_seen (drop k items)))
    ≡ (is_apart_from (parked_seen (slice_index_or items k (WaitingAsk no_ask))) (filter_map ask_if (map parked_seen (drop (k + 1) items)))
    && are_apart (filter_map ask_if (map parked_seen (drop (k + 1) items))))
apart_parked items k h =
    ap (λ (rest : List Parked). are_apart (filter_map ask_if (map parked_seen rest))) (drop_more items k (WaitingAsk no_ask) h)
    ∙ apart_first (slice_index_or items k (WaitingAsk no_ask)) (drop (k + 1) items)

-- the test of one item settles the test of all from its place on
pub apart_refused : (items : List Parked) (k : ℕ) (b : Bool) → k < length items
    → b ≡ is_apart_from (parked_seen (slice_index_or items k (WaitingAsk no_ask))) (filter_map ask_if (map parked_seen (drop (k + 1) items)))
    → b ≡ false
    → false ≡ are_apart (filter_map ask_if (map parked_seen (drop k items)))
apart_refused items k b h e f = sym (apart_parked items k h ∙ ap (λ t. t && are_apart (filter_map ask_if (map parked_seen (drop (k + 1) items)))) (sym e ∙ f))

pub apart_passed : (items : List Parked) (k : ℕ) (b : Bool) → k < length items
    → b ≡ is_apart_from (parked_seen (slice_index_or items k (WaitingAsk no_ask))) (filter_map ask_if (map parked_seen (drop (k + 1) items)))
    → b ≡ true
    → are_apart (filter_map ask_if (map parked_seen (drop (k + 1) items))) ≡ are_apart (filter_map ask_if (map parked_seen (drop k items)))
apart_passed items k b h e f = sym (apart_parked items k h ∙ ap (λ t. t && are_apart (filter_map ask_if (map parked_seen (drop (k + 1) items)))) (sym e ∙ f))

pub known_first : (q : ℕ) (s : SetState) (item : rules.Parked) (rest : List rules.Parked)
    → list_all (is_known q s) (filter_map ask_if (item ∷ rest)) ≡ (is_known_item q s item && list_all (is_known q s) (filter_map ask_if rest))
known_first q s (rules.ParkedAsk ask) rest = refl
known_first q s (rules.ParkedTell tell) rest = refl
