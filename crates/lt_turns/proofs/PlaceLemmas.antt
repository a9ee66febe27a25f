-- The places of turns, and the first one of them.
use Rattle.std.proofs.Common.{◌≡◌, ℕ, ◌+◌, ◌*◌, ◌%◌, ◌^◌, ◌<◌, ◌≤◌, Bool, true, false, not, List, length, Option, Some, None, inl, inr, ◌⊎◌, refl, sym, ap, ◌∙◌, subst, arith, if◌then◌else◌, eq-eqb, nat_lt, ◌&&◌, ltb-true, lt-ltb}
use Rattle.std.proofs.lemmas.List.{get_or_past}
use Rattle.std.proofs.lemmas.Bool.{cases_eq, cases_lt, ne_eqb, and_parts, and_from, false≢true, ltb-false, not-true}
use Rattle.lt_turns.specs.Turns.{number_at, AreSmall, IsFirst, IsAfter, IsNext, turn_place, player_at_place, nearer_place, IsTurnPlace, IsLeastFrom}

pub none_some : (number : ℕ) → None ≡ Some number → ⊥
none_some number e = cc

same_number : (a b : ℕ) → Some a ≡ Some b → a ≡ b
same_number a b e = cc

-- a player that can act is one of them
pub outside : (numbers : List (Option ℕ)) (player number : ℕ) → number_at numbers player ≡ Some number → player < length numbers
outside numbers player number e = elim (cases_lt player (length numbers)) [
  | inl inside ↦ inside
  | inr past ↦ absurd (none_some number (sym (get_or_past numbers player None past) ∙ e))
]

-- the order of places is that of turns
pub not_before : (a p b q : ℕ) → q < 65536 → a * 65536 + p ≤ b * 65536 + q → (a < b) ⊎ ((a ≡ b) × (p ≤ q))
not_before a p b q few h = elim (cases_lt a b) [
  | inl less ↦ inl less
  | inr more ↦ inr (omega (arith, more, few, h), omega (arith, more, few, h))
]

pub after_by_rank : (a p b q : ℕ) → q < 65536 → a * 65536 + p < b * 65536 + q → IsAfter a p b q
after_by_rank a p b q few h = elim (cases_lt a b) [
  | inl less ↦ inl less
  | inr more ↦ inr (omega (arith, more, few, h), omega (arith, more, few, h))
]

pub rank_by_after : (a p b q : ℕ) → p < 65536 → IsAfter a p b q → a * 65536 + p < b * 65536 + q
rank_by_after a p b q few (inl less) = omega (arith, few, less)
rank_by_after a p b q few (inr same) = omega (arith, same.0, same.1)

nobody_at : (place : ℕ) → place ≡ 2 ^ 80 → player_at_place place ≡ None
nobody_at place e = ap (λ (t : Bool). if t then None else Some (place % 65536)) (eq-eqb place (2 ^ 80) e)

player_at : (place number player : ℕ) → place ≡ number * 65536 + player → player < 2 ^ 16 → number < 2 ^ 64 → player_at_place place ≡ Some player
player_at place number player e few small =
    ap (λ (t : Bool). if t then None else Some (place % 65536)) (ne_eqb place (2 ^ 80) (λ f. omega (arith, e, f, few, small)))
    ∙ ap Some (omega (arith, e, few))

-- none of those before the first player
pub none_yet : (numbers : List (Option ℕ)) (from : ℕ) → IsLeastFrom numbers from 0 (2 ^ 80)
none_yet numbers from = record {
  either = inl refl;
  leads = λ player number inside can after. absurd (omega (arith, inside));
}

within : (numbers : List (Option ℕ)) (from end first : ℕ) → IsLeastFrom numbers from end first → AreSmall numbers → end < 2 ^ 16 → first ≤ 2 ^ 80
within numbers from end first h small few = elim h.either [
  | inl none ↦ omega (arith, none)
  | inr at ↦ omega (arith, few, at.1.inside, at.1.is, small at.1.player at.1.number at.1.can_act)
]

-- with one player more, where the first place is the one that it was
place_kept : (numbers : List (Option ℕ)) (from player first next : ℕ) → IsLeastFrom numbers from player first → next ≡ first
    → ((number : ℕ) → number_at numbers player ≡ Some number → from ≤ number * 65536 + player → first ≤ number * 65536 + player)
    → IsLeastFrom numbers from (player + 1) next
place_kept numbers from player first next h g own = record {
  either = elim h.either [
    | inl none ↦ inl (g ∙ none)
    | inr at ↦ inr (omega (arith, g, at.0), record { player = at.1.player; number = at.1.number; inside = omega (arith, at.1.inside); can_act = at.1.can_act; is = g ∙ at.1.is })
  ];
  leads = λ other later inside can after. elim (cases_eq other player) [
    | inl same ↦ omega (arith, g, same, own later (sym (ap (number_at numbers) same) ∙ can) (omega (arith, after, same)))
    | inr apart ↦ omega (arith, g, h.leads other later (omega (arith, inside, apart)) can after)
  ];
}

-- or the place of the player's turn
place_taken : (numbers : List (Option ℕ)) (from player first next number : ℕ) → IsLeastFrom numbers from player first → number_at numbers player ≡ Some number
    → next ≡ number * 65536 + player → from ≤ number * 65536 + player → number * 65536 + player < first → IsLeastFrom numbers from (player + 1) next
place_taken numbers from player first next number h at g least less = record {
  either = inr (omega (arith, g, least), record { player = player; number = number; inside = omega arith; can_act = at; is = g });
  leads = λ other later inside can after. elim (cases_eq other player) [
    | inl same ↦ omega (arith, g, same, same_number later number (sym can ∙ (ap (number_at numbers) same ∙ at)))
    | inr apart ↦ omega (arith, g, less, h.leads other later (omega (arith, inside, apart)) can after)
  ];
}

not_before_from : (place from : ℕ) → from ≤ place → not (nat_lt place from) ≡ true
not_before_from place from h = elim (nat_lt place from) as (λ t. nat_lt place from ≡ t → not t ≡ true) [
  | true ↦ λ e. absurd (omega (arith, h, ltb-true place from e))
  | false ↦ λ e. refl
] refl

-- whether a place lies before the first one, but not before where to begin
abbrev is_nearer : ℕ → ℕ → ℕ → Bool
is_nearer from first second = not (nat_lt second from) && nat_lt second first

pub place_more : (numbers : List (Option ℕ)) (from player first next : ℕ) → IsLeastFrom numbers from player first → AreSmall numbers → player < 2 ^ 16
    → next ≡ nearer_place from first (turn_place (number_at numbers player) player) → IsLeastFrom numbers from (player + 1) next
place_more numbers from player first next h small few e =
    by_turn (number_at numbers player) refl e
  where
    by_turn : (o : Option ℕ) → number_at numbers player ≡ o → next ≡ nearer_place from first (turn_place o player) → IsLeastFrom numbers from (player + 1) next
    by_turn None at e = by_test (is_nearer from first (2 ^ 80)) refl e
      where
        by_test : (t : Bool) → is_nearer from first (2 ^ 80) ≡ t → next ≡ (if t then 2 ^ 80 else first) → IsLeastFrom numbers from (player + 1) next
        by_test true f g =
            let parts = and_parts (not (nat_lt (2 ^ 80) from)) (nat_lt (2 ^ 80) first) f in
            absurd (omega (arith, within numbers from player first h small few, ltb-true (2 ^ 80) first parts.1))
        by_test false f g = place_kept numbers from player first next h g (λ number can after. absurd (none_some number (sym at ∙ can)))
    by_turn (Some number) at e = by_test (is_nearer from first (number * 65536 + player)) refl e
      where
        by_test : (t : Bool) → is_nearer from first (number * 65536 + player) ≡ t → next ≡ (if t then number * 65536 + player else first)
            → IsLeastFrom numbers from (player + 1) next
        by_test true f g =
            let place = number * 65536 + player in
            let parts = and_parts (not (nat_lt place from)) (nat_lt place first) f in
            place_taken numbers from player first next number h at g (ltb-false place from (not-true (nat_lt place from) parts.0)) (ltb-true place first parts.1)
        by_test false f g = place_kept numbers from player first next h g (λ later can after.
            let place = number * 65536 + player in
            let same = same_number later number (sym can ∙ at) in
            elim (cases_lt place first) [
              | inl less ↦ absurd (false≢true (sym f ∙ and_from (not (nat_lt place from)) (nat_lt place first) (not_before_from place from (omega (arith, same, after))) (lt-ltb place first less)))
              | inr more ↦ omega (arith, same, more)
            ])

-- the player of the least place of all is the first one
pub first_by_place : (numbers : List (Option ℕ)) (first : ℕ) → length numbers < 2 ^ 16 → AreSmall numbers → IsLeastFrom numbers 0 (length numbers) first
    → IsFirst numbers (player_at_place first)
first_by_place numbers first few small h = elim h.either [
  | inl none ↦ subst (IsFirst numbers) (sym (nobody_at first none)) (λ player. by_number none player (number_at numbers player) refl)
  | inr at ↦
      let turn = at.1 in
      subst (IsFirst numbers) (sym (player_at first turn.number turn.player turn.is (omega (arith, turn.inside, few)) (small turn.player turn.number turn.can_act))) (
        turn.number,
        record {
          can_act = turn.can_act;
          leads = λ other later can.
              let inside = outside numbers other later can in
              not_before turn.number turn.player later other (omega (arith, inside, few)) (omega (arith, turn.is, h.leads other later inside can (omega arith)));
        },
      )
]
  where
    by_number : first ≡ 2 ^ 80 → (player : ℕ) (o : Option ℕ) → number_at numbers player ≡ o → o ≡ None
    by_number none player None f = refl
    by_number none player (Some number) f =
        let inside = outside numbers player number f in
        absurd (omega (arith, none, inside, few, small player number f, h.leads player number inside f (omega arith)))

-- that of the least one of those after a player's turn is the next one
pub next_by_place : (numbers : List (Option ℕ)) (player first : ℕ) → length numbers < 2 ^ 16 → AreSmall numbers → player < length numbers
    → IsLeastFrom numbers (turn_place (number_at numbers player) player + 1) (length numbers) first → IsNext numbers player (player_at_place first)
next_by_place numbers player first few small inside h = elim h.either [
  | inl none ↦ subst (IsNext numbers player) (sym (nobody_at first none)) (λ number other later has can after.
      let there = outside numbers other later can in
      absurd (omega (
        arith,
        none,
        there,
        few,
        small other later can,
        h.leads other later there can (omega (arith, here number has, rank_by_after number player later other (omega (arith, inside, few)) after)),
      )))
  | inr at ↦
      let turn = at.1 in
      subst (IsNext numbers player) (sym (player_at first turn.number turn.player turn.is (omega (arith, turn.inside, few)) (small turn.player turn.number turn.can_act)))
      (by_number turn at.0 (number_at numbers player) refl)
]
  where
    here : (number : ℕ) → number_at numbers player ≡ Some number → turn_place (number_at numbers player) player ≡ number * 65536 + player
    here number has = ap (λ (o : Option ℕ). turn_place o player) has

    by_number : (turn : IsTurnPlace numbers (length numbers) first) → turn_place (number_at numbers player) player + 1 ≤ first
        → (o : Option ℕ) → number_at numbers player ≡ o → IsNext numbers player (Some turn.player)
    by_number turn more None f =
        let last : turn_place (number_at numbers player) player ≡ 2 ^ 80 = ap (λ (o : Option ℕ). turn_place o player) f in
        absurd (omega (arith, last, more, turn.is, turn.inside, few, small turn.player turn.number turn.can_act))
    by_number turn more (Some number) f = (
      number,
      turn.number,
      f,
      record {
        can_act = turn.can_act;
        after = after_by_rank number player turn.number turn.player (omega (arith, turn.inside, few)) (omega (arith, here number f, turn.is, more));
        leads = λ other last can after.
            let there = outside numbers other last can in
            not_before turn.number turn.player last other (omega (arith, there, few))
            (omega (arith, turn.is, h.leads other last there can (omega (arith, here number f, rank_by_after number player last other (omega (arith, inside, few)) after))));
      },
    )
