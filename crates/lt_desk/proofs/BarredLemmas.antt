-- What is barred stays barred along the queue: where all that is asked for is barred, no later ask is served, and none draws the desk.
use Rattle.std.specs.List.{list_any}
use Rattle.std.proofs.Common.{◌≡◌, ◌∙◌, ℕ, zero, suc, ◌+◌, ◌<◌, Bool, true, false, List, [], ◌∷◌, length, drop, take, Some, None, refl, sym, ap, fold, ◌==◌, ◌&&◌, ◌||◌, not, if◌then◌else◌, slice_index_or}
use Rattle.std.proofs.lemmas.Bool.{or_left, or_right}
use Rattle.std.proofs.lemmas.List.Sums.{fold_more}
use Rattle.lt_modes.specs.declared.mode.Mode.{Mode}
use Rattle.lt_modes.specs.declared.ask.Ask.{Ask}
use Rattle.lt_modes.specs.Modes.{Modes, has, bars, union, one, no_modes, with_mode, is_within, same_mode}
use Rattle.lt_modes.specs.State.{SetState, Desk, others, modes_of_asks, no_ask}
use Rattle.lt_modes.specs.Serving.{is_local, is_copy, is_clear_at_home, is_free, next_from, is_void}
use Rattle.lt_modes.specs.HandingOver.{draw_from}
use Rattle.lt_modes.proofs.ModeAlgebra.{has-union, has-modes_by, has-itself, every_mode-at, same_members}
use Rattle.lt_desk.proofs.BarsLemmas.{bars_union}

-- a union bars what the two bar
pub bars_of_union : (a b : Modes) → bars (union a b) ≡ union (bars a) (bars b)
bars_of_union a b = same_members _ _ (λ m. bars_union m a b ∙ sym (has-union m (bars a) (bars b)))

-- the modes of the asks are all barred
abbrev pub AreBarred : Modes → List Ask → Type 0
AreBarred barred [] = Unit {0}
AreBarred barred (ask ∷ rest) = (has ask.mode barred ≡ true) × AreBarred barred rest

barred_more : (before more : Modes) (asks : List Ask) → AreBarred (bars before) asks → AreBarred (bars (union before more)) asks
barred_more before more [] h = h
barred_more before more (ask ∷ rest) h = (
  bars_union ask.mode before more ∙ or_left (has ask.mode (bars before)) (has ask.mode (bars more)) h.0,
  barred_more before more rest h.1,
)

not_free : (me : ℕ) (s : SetState) (d : Desk) (before : Modes) (ask : Ask) → has ask.mode (bars before) ≡ true → is_free me s d before ask ≡ false
not_free me s d before ask h =
    ap not (bars_union ask.mode (others me s d ask.node) before ∙ or_right (has ask.mode (bars (others me s d ask.node))) (has ask.mode (bars before)) h)

not_void : (me : ℕ) (s : SetState) (ask : Ask) → s.gone ≡ [] → is_void me s ask ≡ false
not_void me s ask none = ap (λ (g : List ℕ). (ask.node == me) && list_any (λ other. other == ask.client) g) none ∙ neither (ask.node == me)
  where
    neither : (own : Bool) → (own && false) ≡ false
    neither true = refl
    neither false = refl

not_drawn : (own free clear : Bool) → free ≡ false → (not own && (free && clear)) ≡ false
not_drawn true free clear e = refl
not_drawn false true clear e = cc
not_drawn false false clear e = refl

pub none_next : (me : ℕ) (s : SetState) (d : Desk) (before : Modes) (k : ℕ) (asks : List Ask) → s.gone ≡ [] → AreBarred (bars before) asks
    → next_from me s d before k asks ≡ None
none_next me s d before k [] none h = refl
none_next me s d before k (ask ∷ rest) none h =
    ap (λ (b : Bool). if b || (is_free me s d before ask && (is_local me s d ask || is_copy me s d ask)) then Some k else next_from me s d (with_mode before ask.mode) (k + 1) rest)
    (not_void me s ask none) ∙
    ap (λ (b : Bool). if b && (is_local me s d ask || is_copy me s d ask) then Some k else next_from me s d (with_mode before ask.mode) (k + 1) rest)
    (not_free me s d before ask h.0)
    ∙ none_next me s d (with_mode before ask.mode) (k + 1) rest none (barred_more before (one ask.mode) rest h.1)

pub none_drawn : (me : ℕ) (s : SetState) (d : Desk) (before : Modes) (k : ℕ) (asks : List Ask) → AreBarred (bars before) asks
    → draw_from me s d before k asks ≡ None
none_drawn me s d before k [] h = refl
none_drawn me s d before k (ask ∷ rest) h =
    ap (λ (b : Bool). if b then Some k else draw_from me s d (with_mode before ask.mode) (k + 1) rest)
    (not_drawn (ask.node == me) (is_free me s d before ask) (k == 0 || is_clear_at_home me s d ask) (not_free me s d before ask h.0))
    ∙ none_drawn me s d (with_mode before ask.mode) (k + 1) rest (barred_more before (one ask.mode) rest h.1)

-- ---- the modes of all asks

abbrev all_of : Modes → List Ask → Modes
all_of first asks = fold (λ modes (ask : Ask). with_mode modes ask.mode) first asks

stays : (first : Modes) (asks : List Ask) (m : Mode) → has m first ≡ true → has m (all_of first asks) ≡ true
stays first [] m h = h
stays first (ask ∷ rest) m h =
    stays (with_mode first ask.mode) rest m (has-union m first (one ask.mode) ∙ or_left (has m first) (has m (one ask.mode)) h)

barred_from : (first barred : Modes) (asks : List Ask) → ((m : Mode) → has m (all_of first asks) ≡ true → has m barred ≡ true) → AreBarred barred asks
barred_from first barred [] h = tt
barred_from first barred (ask ∷ rest) h =
    let own : has ask.mode (one ask.mode) ≡ true = has-modes_by (same_mode ask.mode) ask.mode ∙ has-itself ask.mode in (
      h ask.mode (stays (with_mode first ask.mode) rest ask.mode
          (has-union ask.mode first (one ask.mode) ∙ or_right (has ask.mode first) (has ask.mode (one ask.mode)) own)),
      barred_from (with_mode first ask.mode) barred rest h,
    )

barred_drop : (barred : Modes) (n : ℕ) (asks : List Ask) → AreBarred barred asks → AreBarred barred (drop n asks)
barred_drop barred zero asks h = h
barred_drop barred (suc n) [] h = tt
barred_drop barred (suc n) (ask ∷ rest) h = barred_drop barred n rest h.1

not_or : (a b : Bool) → (not a || b) ≡ true → a ≡ true → b ≡ true
not_or true b e h = e
not_or false b e h = cc

-- where the asks' modes are within what is barred, those from any place on are barred
pub all_barred : (asks : List Ask) (wanted barred : Modes) (n : ℕ) → wanted ≡ modes_of_asks asks → is_within wanted barred ≡ true
    → AreBarred barred (drop n asks)
all_barred asks wanted barred n is within =
    barred_drop barred n asks (barred_from no_modes barred asks (λ m h.
    not_or (has m wanted) (has m barred) (every_mode-at (λ x. not (has x wanted) || has x barred) m within) (ap (λ (w : Modes). has m w) is ∙ h)))

-- ---- one ask further

-- the modes of the asks up to this place
pub modes_further : (asks : List Ask) (k : ℕ) → k < length asks
    → modes_of_asks (take (k + 1) asks) ≡ with_mode (modes_of_asks (take k asks)) (slice_index_or asks k no_ask).mode
modes_further asks k h = fold_more (λ modes (ask : Ask). with_mode modes ask.mode) no_modes asks k no_ask h

pub barred_further : (asks : List Ask) (k : ℕ) (ask : Ask) (barred more : Modes) → k < length asks → ask ≡ slice_index_or asks k no_ask
    → barred ≡ bars (modes_of_asks (take k asks)) → more ≡ bars (one ask.mode)
    → union barred more ≡ bars (modes_of_asks (take (k + 1) asks))
barred_further asks k ask barred more h here is is_more =
    (λ i. union (is i) (is_more i))
    ∙ sym (ap bars (modes_further asks k h ∙ ap (λ (a : Ask). with_mode (modes_of_asks (take k asks)) a.mode) (sym here))
    ∙ bars_of_union (modes_of_asks (take k asks)) (one ask.mode))
