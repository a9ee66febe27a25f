-- Stamps are in one order.
use Rattle.std.proofs.Common.{◌≡◌, ◌<◌, ◌≤◌, inl, inr, Bool, true, false, refl, arith, ◌∙◌, ◌&&◌, ◌==◌, nat_lt, IsTrue, IsFalse, eq-eqb, eqb-true, ltb-true, lt-ltb}
use Rattle.std.proofs.lemmas.Bool.{both_ways, and_parts, and_from, or_cases, or_left, or_right}
use Rattle.lt_modes.specs.declared.stamp.Stamp.{Stamp}
use Rattle.lt_modes.specs.Telling.{is_newer}

-- stamps
pub newer_by_clock : (x y : Stamp) → y.clock < x.clock → IsTrue (is_newer x y)
newer_by_clock x y h = or_left (nat_lt y.clock x.clock) (x.clock == y.clock && nat_lt y.node x.node) (lt-ltb y.clock x.clock h)

pub newer_not_before : (x y : Stamp) → IsTrue (is_newer x y) → y.clock ≤ x.clock
newer_not_before x y h = elim (or_cases (nat_lt y.clock x.clock) (x.clock == y.clock && nat_lt y.node x.node) h) [
  | inl later ↦ let l = ltb-true y.clock x.clock later in omega (arith, l)
  | inr same ↦ let e = eqb-true x.clock y.clock (and_parts (x.clock == y.clock) (nat_lt y.node x.node) same).0 in omega (arith, e)
]

pub newer_in_turn : (x y z : Stamp) → IsTrue (is_newer x y) → IsTrue (is_newer y z) → IsTrue (is_newer x z)
newer_in_turn x y z xy yz =
    elim (or_cases (nat_lt y.clock x.clock) (x.clock == y.clock && nat_lt y.node x.node) xy) [
      | inl later ↦ newer_by_clock x z (let l = ltb-true y.clock x.clock later in omega (arith, l, newer_not_before y z yz))
      | inr same ↦
          let parts = and_parts (x.clock == y.clock) (nat_lt y.node x.node) same in
          let clocks = eqb-true x.clock y.clock parts.0 in
          let nodes = ltb-true y.node x.node parts.1 in
          elim (or_cases (nat_lt z.clock y.clock) (y.clock == z.clock && nat_lt z.node y.node) yz) [
            | inl later ↦ newer_by_clock x z (let l = ltb-true z.clock y.clock later in omega (arith, l, clocks))
            | inr too ↦
                let more = and_parts (y.clock == z.clock) (nat_lt z.node y.node) too in
                let clocks_too = eqb-true y.clock z.clock more.0 in
                let nodes_too = ltb-true z.node y.node more.1 in
                or_right (nat_lt z.clock x.clock) (x.clock == z.clock && nat_lt z.node x.node)
                (and_from (x.clock == z.clock) (nat_lt z.node x.node) (eq-eqb x.clock z.clock (clocks ∙ clocks_too)) (lt-ltb z.node x.node (omega (arith, nodes, nodes_too))))
          ]
    ]

pub newer_one_way : (x y : Stamp) → IsTrue (is_newer x y) → IsFalse (is_newer y x)
newer_one_way x y xy = by_test (is_newer y x) refl
  where
    by_test : (t : Bool) → is_newer y x ≡ t → t ≡ false
    by_test false e = refl
    by_test true e =
        elim (or_cases (nat_lt x.clock y.clock) (y.clock == x.clock && nat_lt x.node y.node) e) [
          | inl later ↦ absurd (omega (arith, ltb-true x.clock y.clock later, newer_not_before x y xy))
          | inr same ↦
              let parts = and_parts (y.clock == x.clock) (nat_lt x.node y.node) same in
              let clocks = eqb-true y.clock x.clock parts.0 in
              let nodes = ltb-true x.node y.node parts.1 in
              elim (or_cases (nat_lt y.clock x.clock) (x.clock == y.clock && nat_lt y.node x.node) xy) [
                | inl earlier ↦ absurd (omega (arith, ltb-true y.clock x.clock earlier, clocks))
                | inr too ↦ absurd (omega (arith, ltb-true y.node x.node (and_parts (x.clock == y.clock) (nat_lt y.node x.node) too).1, nodes))
              ]
        ]

pub not_after_itself : (x : Stamp) → IsTrue (is_newer x x) → ⊥
not_after_itself x h = both_ways (is_newer x x) (newer_one_way x x h) h
