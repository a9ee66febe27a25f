-- Which ask draws the desk.
use Rattle.std.proofs.Common.{◌≡◌, true, false, ℕ, zero, suc, ◌+◌, ◌<◌, List, [], ◌∷◌, ◌++◌, Option, Some, length, take, inl, inr, refl, sym, ap, subst, ◌∙◌, arith, append_assoc, append-nil, if◌then◌else◌, ◌==◌, ◌&&◌, ◌||◌, not, IsFalse, slice_index_or, eqb-true, eq-eqb, ne_eqb, length-append, take_at}
use Rattle.std.proofs.lemmas.Bool.{and_parts, and_from, or_cases, or_left, or_right, not-true, false_from_ne_true, false≢true, cases_lt}
use Rattle.std.proofs.lemmas.Grind.{fold-append}
use Rattle.lt_modes.specs.declared.mode.Mode.{Mode}
use Rattle.lt_modes.specs.declared.ask.Ask.{Ask}
use Rattle.lt_modes.specs.Modes.{Modes, no_modes, has, union, bars, with_mode, conflicts}
use Rattle.lt_modes.specs.State.{SetState, Desk, no_ask, modes_of_asks, others, modes_at}
use Rattle.lt_modes.specs.Serving.{is_free, is_clear_at_home}
use Rattle.lt_modes.specs.HandingOver.{may_draw, draw_from, move_at}
use Rattle.lt_modes.proofs.ModeAlgebra.{bars_by_table}
use Rattle.lt_law_accounts.proofs.AccountFacts.{has-union, has-left, has-right, mode_which, mode_at}
use Rattle.lt_law_accounts.specs.Account.{AgreesWith, MayDraw, DrawsAt, IsFirstDrawing, DrawnByFirst}

-- a set bars no mode with which it agrees, and no other
agrees : (modes : Modes) (mode : Mode) → has mode (bars modes) ≡ false → AgreesWith modes mode
agrees modes mode fails member known =
    false_from_ne_true (conflicts mode member) (λ e. false≢true (sym fails ∙ (bars_by_table modes mode).1 (member, e, known)))

bars_not : (modes : Modes) (mode : Mode) → AgreesWith modes mode → has mode (bars modes) ≡ false
bars_not modes mode agree =
    false_from_ne_true (has mode (bars modes)) (λ e. let found = (bars_by_table modes mode).0 e in false≢true (sym (agree found.0 found.2) ∙ found.1))

draws : (me : ℕ) (s : SetState) (desk : Desk) (k : ℕ) (earlier : List Ask) (ask : Ask) → may_draw me s desk (modes_of_asks earlier) k ask ≡ true
    → MayDraw me s desk k earlier ask
draws me s desk k earlier ask e =
    let parts = and_parts (not (ask.node == me)) (is_free me s desk (modes_of_asks earlier) ask && (k == 0 || is_clear_at_home me s desk ask)) e in
    let rest = and_parts (is_free me s desk (modes_of_asks earlier) ask) (k == 0 || is_clear_at_home me s desk ask) parts.1 in
    let free = agrees (union (others me s desk ask.node) (modes_of_asks earlier)) ask.mode (not-true _ rest.0) in
    record {
      elsewhere = λ same. false≢true (sym (not-true (ask.node == me) parts.0) ∙ eq-eqb ask.node me same);
      others_agree = λ member known. free member (has-left member (others me s desk ask.node) (modes_of_asks earlier) known);
      earlier_agree = λ before known. free before.mode (has-right before.mode (others me s desk ask.node) (modes_of_asks earlier) (mode_at (λ (a : Ask). a.mode) earlier before known));
      first_or_clear = elim (or_cases (k == 0) (is_clear_at_home me s desk ask) rest.1) [
        | inl first ↦ inl (eqb-true k 0 first)
        | inr clear ↦ inr (agrees (modes_at me s desk ask.node) ask.mode (not-true _ clear))
      ];
    }

draws_not : (me : ℕ) (s : SetState) (desk : Desk) (k : ℕ) (earlier : List Ask) (ask : Ask) → may_draw me s desk (modes_of_asks earlier) k ask ≡ false
    → MayDraw me s desk k earlier ask → ⊥
draws_not me s desk k earlier ask fails draw =
    let away : ask.node == me ≡ false = ne_eqb ask.node me draw.elsewhere in
    let free : has ask.mode (bars (union (others me s desk ask.node) (modes_of_asks earlier))) ≡ false =
    bars_not (union (others me s desk ask.node) (modes_of_asks earlier)) ask.mode (λ member known. elim (has-union member (others me s desk ask.node) (modes_of_asks earlier) known) [
      | inl other ↦ draw.others_agree member other
      | inr before ↦
          let found = mode_which (λ (a : Ask). a.mode) earlier member before in
          subst (λ (m : Mode). IsFalse (conflicts ask.mode m)) found.2 (draw.earlier_agree found.0 found.1)
    ]) in
    let last : (k == 0 || is_clear_at_home me s desk ask) ≡ true = elim draw.first_or_clear [
      | inl first ↦ or_left (k == 0) (is_clear_at_home me s desk ask) (eq-eqb k 0 first)
      | inr clear ↦ or_right (k == 0) (is_clear_at_home me s desk ask) (ap not (bars_not (modes_at me s desk ask.node) ask.mode clear))
    ] in
    false≢true (sym fails ∙ and_from (not (ask.node == me)) (is_free me s desk (modes_of_asks earlier) ask && (k == 0 || is_clear_at_home me s desk ask)) (ap not away)
    (and_from (is_free me s desk (modes_of_asks earlier) ask) (k == 0 || is_clear_at_home me s desk ask) (ap not free) last))

-- the ask behind these stands at place k
at_place : (done rest : List Ask) (ask : Ask) (k : ℕ) → length done ≡ k → slice_index_or (done ++ ask ∷ rest) k no_ask ≡ ask
at_place [] rest ask zero e = refl
at_place [] rest ask (suc k) e = absurd (omega arith)
at_place (x ∷ done) rest ask zero e = absurd (omega arith)
at_place (x ∷ done) rest ask (suc k) e = at_place done rest ask k (omega arith)

walk : (me : ℕ) (s : SetState) (desk : Desk) (done rest : List Ask) (k : ℕ) (before : Modes) → desk.queue ≡ done ++ rest → length done ≡ k → before ≡ modes_of_asks done
    → ((i : ℕ) → i < k → DrawsAt me s desk i → ⊥) → IsFirstDrawing me s desk (draw_from me s desk before k rest)
walk me s desk done [] k before is_queue is_k is_before none = λ i inside draw. none i (omega (arith, inside, ap length (is_queue ∙ append-nil done), is_k)) draw
walk me s desk done (ask ∷ rest) k before is_queue is_k is_before none =
    let is_ask : slice_index_or desk.queue k no_ask ≡ ask = ap (λ l. slice_index_or l k no_ask) is_queue ∙ at_place done rest ask k is_k in
    let are_earlier : take k desk.queue ≡ done = ap (λ l. take k l) is_queue ∙ take_at done (ask ∷ rest) k is_k in
    let inside : k < length desk.queue = subst (λ (n : ℕ). k < n) (sym (ap length is_queue ∙ length-append done (ask ∷ rest))) (omega (arith, is_k)) in
    elim (may_draw me s desk before k ask) as (λ t. may_draw me s desk before k ask ≡ t
    → IsFirstDrawing me s desk (if t then Some k else draw_from me s desk (with_mode before ask.mode) (k + 1) rest)) [
      | true ↦ λ e. (
        inside,
        subst (λ (a : Ask). MayDraw me s desk k (take k desk.queue) a) (sym is_ask) (subst (λ (l : List Ask). MayDraw me s desk k l ask) (sym are_earlier)
            (draws me s desk k done ask (subst (λ (m : Modes). may_draw me s desk m k ask ≡ true) is_before e))),
        none,
      )
      | false ↦ λ e. walk me s desk (done ++ ask ∷ []) rest (k + 1) (with_mode before ask.mode)
          (is_queue ∙ sym (append_assoc done (ask ∷ []) rest))
          (length-append done (ask ∷ []) ∙ omega (arith, is_k))
          (ap (λ m. with_mode m ask.mode) is_before ∙ sym (fold-append (λ modes (a : Ask). with_mode modes a.mode) no_modes done (ask ∷ [])))
          (λ i below draw. elim (cases_lt i k) [
            | inl early ↦ none i early draw
            | inr late ↦
                let same : i ≡ k = omega (arith, below, late) in
                let here : DrawsAt me s desk k = subst (λ (j : ℕ). DrawsAt me s desk j) same draw in
                draws_not me s desk k done ask (subst (λ (m : Modes). may_draw me s desk m k ask ≡ false) is_before e)
                (subst (λ (l : List Ask). MayDraw me s desk k l ask) are_earlier (subst (λ (a : Ask). MayDraw me s desk k (take k desk.queue) a) is_ask here))
          ])
    ] refl

pub drawn_by_first : DrawnByFirst
drawn_by_first me s desk is_desk =
    subst (λ (o : Option Desk). IsFirstDrawing me s desk (move_at me s o)) (sym is_desk)
    (walk me s desk [] desk.queue 0 no_modes refl refl refl (λ i below. absurd (omega (arith, below))))
