-- What becomes of an ask, by what stands against it.
use Rattle.std.proofs.Common.{◌≡◌, ◌∙◌, ℕ, Bool, true, false, List, Option, Some, None, refl, sym, ap, ◌==◌, ◌&&◌, ◌||◌, not, if◌then◌else◌, slice_index_or}
use Rattle.std.proofs.lemmas.Bool.{or_left, or_right}
use Rattle.lt_modes.specs.declared.ask.Ask.{Ask}
use Rattle.lt_modes.specs.Modes.{Modes, has, bars, union, covers, other_modes}
use Rattle.lt_modes.specs.State.{SetState, Desk, own_owed, others, no_ask}
use Rattle.lt_modes.specs.Serving.{is_served, is_clear_at_home, next_service, queue_of, is_void, is_ready}
use Rattle.lt_modes.specs.HandingOver.{may_draw, next_draw}
use Rattle.lt_desk.specs.Picks.{picked, picked_by, hand_over_or_none, first_of, turn_by, is_service, is_draw}
use Rattle.lt_desk.specs.declared.pick.Pick.TheVariants.{Local, Copy}
use Rattle.lt_desk.specs.declared.pick.Turn.{Turn}
use Rattle.lt_desk.specs.declared.pick.Turn.TheVariants.{Later, Served}
use Rattle.lt_desk.specs.Sights.{is_clear}
use Rattle.lt_desk.proofs.BarsLemmas.{bars_union}

-- by whether it is barred, of the desk's node, clear there, covered, clear at home, and the first one
abbrev turns : Bool → Bool → Bool → Bool → Bool → Bool → Turn
turns barred own clear covered home first =
    turn_by (not barred && ((own && clear) || (not own && (covered && home)))) (not own && (not barred && (first || home)))

shut : (barred own clear covered home first : Bool) → barred ≡ true → Later ≡ turns barred own clear covered home first
shut true true clear covered home first e = refl
shut true false clear covered home first e = refl
shut false own clear covered home first e = cc

open_local : (barred own clear covered home first : Bool) → barred ≡ false → own ≡ true → turn_by clear false ≡ turns barred own clear covered home first
open_local false true true covered home first e f = refl
open_local false true false covered home first e f = refl
open_local false false clear covered home first e f = cc
open_local true own clear covered home first e f = cc

open_remote : (barred own clear covered home first : Bool) → barred ≡ false → own ≡ false
    → turn_by (covered && home) (first || home) ≡ turns barred own clear covered home first
open_remote false false clear covered home first e f = refl
open_remote false true clear covered home first e f = cc
open_remote true own clear covered home first e f = cc

neither : (x y : Bool) → x ≡ false → y ≡ false → (x || y) ≡ false
neither false y e f = f
neither true y e f = cc

abbrev pub turn_of : ℕ → SetState → Desk → Modes → ℕ → Ask → Turn
turn_of me s d before k ask = turn_by (is_served me s d before ask) (may_draw me s d before k ask)

-- the other nodes or the asks before it bar the mode
abbrev is_barred : ℕ → SetState → Desk → Modes → Ask → Bool
is_barred me s d before ask = has ask.mode (bars (others me s d ask.node)) || has ask.mode (bars before)

abbrev is_clear_here : ℕ → SetState → Desk → Ask → Bool
is_clear_here me s d ask = is_clear ask.mode (union (other_modes s.held ask.client) (own_owed me s d))

by_void : (me : ℕ) (s : SetState) (d : Desk) (before : Modes) (k : ℕ) (ask : Ask) → is_void me s ask ≡ false
    → turn_by (is_ready me s d before ask) (may_draw me s d before k ask) ≡ turn_of me s d before k ask
by_void me s d before k ask live = ap (λ (v : Bool). turn_by (v || is_ready me s d before ask) (may_draw me s d before k ask)) (sym live)

-- an ask of the desk's node that was given up is served, whatever stands against it
pub void_is : (me : ℕ) (s : SetState) (d : Desk) (before : Modes) (k : ℕ) (ask : Ask) → is_void me s ask ≡ true → Served ≡ turn_of me s d before k ask
void_is me s d before k ask void = ap (λ (v : Bool). turn_by (v || is_ready me s d before ask) (may_draw me s d before k ask)) (sym void)

turns_is : (me : ℕ) (s : SetState) (d : Desk) (before : Modes) (k : ℕ) (ask : Ask) → is_void me s ask ≡ false
    → turns (is_barred me s d before ask) (ask.node == me) (is_clear_here me s d ask) (covers (others me s d ask.node) ask.mode) (is_clear_at_home me s d ask) (k == 0)
    ≡ turn_of me s d before k ask
turns_is me s d before k ask live =
    ap (λ (b : Bool). turns b (ask.node == me) (is_clear_here me s d ask) (covers (others me s d ask.node) ask.mode) (is_clear_at_home me s d ask) (k == 0))
    (sym (bars_union ask.mode (others me s d ask.node) before))
    ∙ by_void me s d before k ask live

pub later_barred : (me : ℕ) (s : SetState) (d : Desk) (before : Modes) (k : ℕ) (ask : Ask) (barred : Modes) → barred ≡ bars before
    → has ask.mode barred ≡ true → is_void me s ask ≡ false → Later ≡ turn_of me s d before k ask
later_barred me s d before k ask barred is hit live =
    shut (is_barred me s d before ask) (ask.node == me) (is_clear_here me s d ask) (covers (others me s d ask.node) ask.mode) (is_clear_at_home me s d ask) (k == 0)
    (or_right (has ask.mode (bars (others me s d ask.node))) (has ask.mode (bars before)) (ap (λ (b : Modes). has ask.mode b) (sym is) ∙ hit))
    ∙ turns_is me s d before k ask live

pub later_others : (me : ℕ) (s : SetState) (d : Desk) (before : Modes) (k : ℕ) (ask : Ask)
    → has ask.mode (bars (others me s d ask.node)) ≡ true → is_void me s ask ≡ false → Later ≡ turn_of me s d before k ask
later_others me s d before k ask hit live =
    shut (is_barred me s d before ask) (ask.node == me) (is_clear_here me s d ask) (covers (others me s d ask.node) ask.mode) (is_clear_at_home me s d ask) (k == 0)
    (or_left (has ask.mode (bars (others me s d ask.node))) (has ask.mode (bars before)) hit)
    ∙ turns_is me s d before k ask live

pub local_is : (me : ℕ) (s : SetState) (d : Desk) (before : Modes) (k : ℕ) (ask : Ask) (barred : Modes) (clear : Bool) → barred ≡ bars before
    → has ask.mode barred ≡ false → has ask.mode (bars (others me s d ask.node)) ≡ false → (ask.node == me) ≡ true
    → clear ≡ is_clear_here me s d ask → is_void me s ask ≡ false → turn_by clear false ≡ turn_of me s d before k ask
local_is me s d before k ask barred clear is miss free own is_clear live =
    ap (λ (b : Bool). turn_by b false) is_clear
    ∙ open_local (is_barred me s d before ask) (ask.node == me) (is_clear_here me s d ask) (covers (others me s d ask.node) ask.mode) (is_clear_at_home me s d ask) (k == 0)
    (neither (has ask.mode (bars (others me s d ask.node))) (has ask.mode (bars before)) free (ap (λ (b : Modes). has ask.mode b) (sym is) ∙ miss)) own
    ∙ turns_is me s d before k ask live

pub remote_is : (me : ℕ) (s : SetState) (d : Desk) (before : Modes) (k : ℕ) (ask : Ask) (barred : Modes) (covered home : Bool) → barred ≡ bars before
    → has ask.mode barred ≡ false → has ask.mode (bars (others me s d ask.node)) ≡ false → (ask.node == me) ≡ false
    → covered ≡ covers (others me s d ask.node) ask.mode → home ≡ is_clear_at_home me s d ask → is_void me s ask ≡ false
    → turn_by (covered && home) (k == 0 || home) ≡ turn_of me s d before k ask
remote_is me s d before k ask barred covered home is miss free other is_covered is_home live =
    (λ i. turn_by (is_covered i && is_home i) (k == 0 || is_home i))
    ∙ open_remote (is_barred me s d before ask) (ask.node == me) (is_clear_here me s d ask) (covers (others me s d ask.node) ask.mode) (is_clear_at_home me s d ask) (k == 0)
    (neither (has ask.mode (bars (others me s d ask.node))) (has ask.mode (bars before)) free (ap (λ (b : Modes). has ask.mode b) (sym is) ∙ miss)) other
    ∙ turns_is me s d before k ask live

-- ---- what a turn says

service_by : (served draws : Bool) → is_service (turn_by served draws) ≡ served
service_by true draws = refl
service_by false true = refl
service_by false false = refl

draw_by : (served draws : Bool) → served ≡ false → is_draw (turn_by served draws) ≡ draws
draw_by true draws e = cc
draw_by false true e = refl
draw_by false false e = refl

pub turn_service : (me : ℕ) (s : SetState) (d : Desk) (before : Modes) (k : ℕ) (ask : Ask) (turn : Turn) → turn ≡ turn_of me s d before k ask
    → is_service turn ≡ is_served me s d before ask
turn_service me s d before k ask turn is = ap is_service is ∙ service_by (is_served me s d before ask) (may_draw me s d before k ask)

pub turn_draw : (me : ℕ) (s : SetState) (d : Desk) (before : Modes) (k : ℕ) (ask : Ask) (turn : Turn) → turn ≡ turn_of me s d before k ask
    → is_service turn ≡ false → is_draw turn ≡ may_draw me s d before k ask
turn_draw me s d before k ask turn is fails =
    ap is_draw is ∙ draw_by (is_served me s d before ask) (may_draw me s d before k ask) (sym (turn_service me s d before k ask turn is) ∙ fails)

pub picked_place : (me : ℕ) (s : SetState) (k : ℕ) (ask : Ask) → ask ≡ slice_index_or (queue_of s) k no_ask → next_service me s ≡ Some k
    → (if ask.node == me then Local k else Copy k) ≡ picked me s
picked_place me s k ask here found =
    ap (λ (a : Ask). if a.node == me then Local k else Copy k) here
    ∙ ap (λ (o : Option ℕ). picked_by me (queue_of s) o (next_draw me s)) (sym found)

-- ---- no service is left

drawn_by : (me : ℕ) (queue : List Ask) (draw : Option ℕ) → hand_over_or_none draw ≡ picked_by me queue None draw
drawn_by me queue (Some k) = refl
drawn_by me queue None = refl

first_or_none : (draw : Option ℕ) → draw ≡ first_of draw None
first_or_none (Some k) = refl
first_or_none None = refl

pub picked_draw : (me : ℕ) (s : SetState) (draw rest : Option ℕ) → next_service me s ≡ None → rest ≡ None → first_of draw rest ≡ next_draw me s
    → hand_over_or_none draw ≡ picked me s
picked_draw me s draw rest none no_rest is =
    drawn_by me (queue_of s) draw
    ∙ (λ i. picked_by me (queue_of s) (sym none i) ((first_or_none draw ∙ ap (first_of draw) (sym no_rest) ∙ is) i))
