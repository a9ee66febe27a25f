-- What holds of the commands of a drawn group.
use Rattle.std.proofs.Common.{IsTrue, if◌then◌else◌, ◌≡◌, ◌≢◌, ℕ, zero, suc, get_or, ◌+◌, ◌-◌, ◌*◌, ◌/◌, ◌%◌, ◌<◌, ◌≤◌, ◌==◌, nat_lt, nat_le, not, true, List, length, refl, inl, inr, arith, eq-eqb, ne_eqb, eqb-true, leb-true, ◌∙◌, ap}
use Rattle.std.specs.List.{AllByRecursion}
use Rattle.std.proofs.lemmas.Bool.{cases_eq, cases_Bool}
use Rattle.std.proofs.lemmas.Nat.{mod_below, mul-le}
use Rattle.std.proofs.Math.Nat.{div-mul-le_self, add-mul-mod_self_right, mod-mod, mod-le}
use Rattle.rand_pcg.specs.Lcg.{Lcg}
use Rattle.rand_pcg.specs.Pcg.{pcg32}
use Rattle.lt_modes.specs.Script.{SetData, ClientData, home_at}
use Rattle.lt_modes.specs.declared.command.Command.{Command}
use Rattle.lt_modes.specs.declared.mode.Mode.{Mode}
use Rattle.lt_modes.specs.declared.mode.Mode.TheVariants as modes
use Rattle.lt_modes.specs.declared.mode.TheConstants.{MODES}
use Rattle.lt_modes.specs.Modes.{modes_in_order}
use Rattle.lt_modes.specs.FiveModes.{is_of_five, is_of_version}
use Rattle.lt_spec.specs.Script.{IsRequest, IsOfVersion}
use Rattle.lt_gen.specs.declared.group.Group.{Group}
use Rattle.lt_gen.specs.declared.group.Group.TheVariants.{Last, Lock, Try, Upgrade, Change, GiveUp, Release, Withdraw}
use Rattle.lt_gen.specs.declared.group.Sizes.{Sizes}
use Rattle.lt_gen.specs.Generator.{draw_of, nth_mode, mode_among, modes_drawn, drawn_beside, count_beside, nth_beside, group_of, group_by, third_by, set_of, group_commands, IsGroupOf, IsOnSameNode, NamesBeside}

-- A client on the node of another one.

pub some_beside : (sizes : Sizes) (client k : ℕ) → client < sizes.clients → k < count_beside sizes client
    → k * sizes.nodes + client % sizes.nodes < sizes.clients
some_beside sizes client k inside small =
    let room = sizes.clients - 1 - client % sizes.nodes in
    let rounds : k * sizes.nodes ≤ room / sizes.nodes * sizes.nodes = mul-le k sizes.nodes (room / sizes.nodes) sizes.nodes (omega (arith, small)) (omega arith) in
    omega (arith, inside, rounds, div-mul-le_self room sizes.nodes, mod-le client sizes.nodes)

pub is_beside : (sizes : Sizes) (client k : ℕ) → 0 < sizes.nodes → client < sizes.clients → k < count_beside sizes client
    → IsOnSameNode sizes client (nth_beside sizes client k)
is_beside sizes client k some inside small = record {
  inside = omega (arith, some_beside sizes client k inside small);
  together = add-mul-mod_self_right (client % sizes.nodes) k sizes.nodes ∙ mod-mod client sizes.nodes;
}

drawn_is_beside : (sizes : Sizes) (client : ℕ) (g : Lcg) → 0 < sizes.nodes → client < sizes.clients → IsOnSameNode sizes client (drawn_beside sizes client g).0
unfolding draw_of
drawn_is_beside sizes client g some inside = is_beside sizes client _ some inside (mod_below (pcg32 g).0 (count_beside sizes client) (omega arith))

-- Drawn modes.

-- one of the five is drawn as such
mode_five : (k : ℕ) → is_of_five (nth_mode (modes_drawn 1) k) ≡ true
mode_five zero = refl
mode_five (suc zero) = refl
mode_five (suc (suc zero)) = refl
mode_five (suc (suc (suc zero))) = refl
mode_five (suc (suc (suc (suc k)))) = by_rest k
  where
    by_rest : (k : ℕ) → is_of_five (nth_mode (modes_drawn 1) (suc (suc (suc (suc k))))) ≡ true
    by_rest zero = refl
    by_rest (suc k) = refl

-- a mode at some place among those of the version is one of the version
pub mode_of_version : (version k : ℕ) → is_of_version version (nth_mode (modes_drawn version) k) ≡ true
mode_of_version version k = elim (cases_eq version 1) [
  | inl first ↦ rw first (mode_five k)
  | inr later ↦ rw (ne_eqb version 1 later) refl
]

-- a drawn one of all modes, and `write` in the place of the one that isn't one of the five
pub drawn_is_nth : (k : ℕ) (other : Mode) → k < 5 → (if is_of_five (get_or MODES k other) then get_or MODES k other else modes.Write) ≡ nth_mode (modes_drawn 1) k
drawn_is_nth zero other below = refl
drawn_is_nth (suc zero) other below = refl
drawn_is_nth (suc (suc zero)) other below = refl
drawn_is_nth (suc (suc (suc zero))) other below = refl
drawn_is_nth (suc (suc (suc (suc k)))) other below = by_rest k below
  where
    by_rest : (k : ℕ) → suc (suc (suc (suc k))) < 5
        → (if is_of_five (get_or MODES (suc (suc (suc (suc k)))) other) then get_or MODES (suc (suc (suc (suc k)))) other else modes.Write) ≡ nth_mode (modes_drawn 1) (suc (suc (suc (suc k))))
    by_rest zero below = refl
    by_rest (suc k) below = absurd (omega (arith, below))

-- each of the six is drawn as such
pub six_is_nth : (k : ℕ) (other : Mode) → k < 6 → get_or MODES k other ≡ nth_mode modes_in_order k
six_is_nth zero other below = refl
six_is_nth (suc zero) other below = refl
six_is_nth (suc (suc zero)) other below = refl
six_is_nth (suc (suc (suc zero))) other below = refl
six_is_nth (suc (suc (suc (suc zero)))) other below = refl
six_is_nth (suc (suc (suc (suc (suc k))))) other below = by_rest k below
  where
    by_rest : (k : ℕ) → suc (suc (suc (suc (suc k)))) < 6 → get_or MODES (suc (suc (suc (suc (suc k))))) other ≡ nth_mode modes_in_order (suc (suc (suc (suc (suc k)))))
    by_rest zero below = refl
    by_rest (suc k) below = absurd (omega (arith, below))

-- the mode at a drawn place
pub drawn_as : (among : List Mode) (g : Lcg) (drawn : ℕ × Lcg) (mode : Mode) → drawn ≡ draw_of (length among) g → mode ≡ nth_mode among drawn.0
    → (mode, drawn.1) ≡ mode_among among g
drawn_as among g drawn mode e is = ap (λ (m : Mode). (m, drawn.1)) is ∙ ap (λ (d : ℕ × Lcg). (nth_mode among d.0, d.1)) e

-- What holds of a drawn group.

-- it holds of each group that may be drawn for the client
pub record HoldsOfEach (P : Group → Type 0) (sizes : Sizes) (client left : ℕ) : Type 0 where
  pub last : left ≡ 1 → P Last
  pub lock : (set : ℕ) (mode : Mode) → set < 4 → left ≢ 1 → IsTrue (is_of_version sizes.version mode) → P (Lock set mode)
  pub tries : (set : ℕ) (mode : Mode) → set < 4 → left ≢ 1 → IsTrue (is_of_version sizes.version mode) → P (Try set mode)
  pub upgrade : (set : ℕ) → set < 4 → left ≢ 1 → P (Upgrade set)
  pub change : (set : ℕ) → set < 4 → 3 ≤ left → P (Change set)
  pub give_up : (set : ℕ) (mode : Mode) → set < 4 → 3 ≤ left → sizes.version ≡ 3 → P (GiveUp client set mode)
  pub release : (set : ℕ) → set < 4 → 3 ≤ left → sizes.version ≡ 3 → P (Release client set)
  pub withdraw : (set other : ℕ) → set < 4 → left ≢ 1 → sizes.version ≡ 3
      → (0 < sizes.nodes → client < sizes.clients → IsOnSameNode sizes client other) → P (Withdraw other set)

module _ (P : Group → Type 0) (sizes : Sizes) (client left : ℕ) (each : HoldsOfEach P sizes client left) (more : left ≢ 1) (set : ℕ) (fits : set < 4) where
  of_first : (kind : ℕ) (g : Lcg) → P (group_by sizes.version left set kind g).0
  of_first kind g = elim (cases_Bool (nat_lt kind 2)) [
    | inl low ↦ rw low (each.lock set _ fits more (mode_of_version sizes.version _))
    | inr high ↦ rw high (elim (cases_Bool (kind == 2)) [
      | inl two ↦ rw two (elim (cases_Bool (nat_le 3 left)) [ inl three ↦ rw three (each.change set fits (leb-true 3 left three)) | inr less ↦ rw less (each.upgrade set fits more) ])
      | inr other ↦ rw other (each.tries set _ fits more (mode_of_version sizes.version _))
    ])
  ]

  of_third : (kind : ℕ) (g : Lcg) → sizes.version ≡ 3 → P (third_by sizes client left set kind g).0
  of_third kind g third =
      let mode_fits : (mode : Mode) → IsTrue (is_of_version sizes.version mode) = λ mode. rw third refl in
      let lock : (mode : Mode) → P (Lock set mode) = λ mode. each.lock set mode fits more (mode_fits mode) in
      elim (cases_Bool (nat_lt kind 4)) [
        | inl low ↦ rw low (lock _)
        | inr high ↦ rw high (elim (cases_Bool (kind == 4)) [
          | inl four ↦ rw four (elim (cases_Bool (nat_le 3 left)) [ inl three ↦ rw three (each.release set fits (leb-true 3 left three) third) | inr less ↦ rw less (each.upgrade set fits more) ])
          | inr not_four ↦ rw not_four (elim (cases_Bool (kind == 5)) [
            | inl five ↦ rw five (each.tries set _ fits more (mode_fits _))
            | inr not_five ↦ rw not_five (elim (cases_Bool (kind == 6)) [
              | inl six ↦ rw six (elim (cases_Bool (nat_le 3 left)) [ inl three ↦ rw three (each.give_up set _ fits (leb-true 3 left three) third) | inr less ↦ rw less (lock _) ])
              | inr seven ↦ rw seven (each.withdraw set _ fits more third (drawn_is_beside sizes client g))
            ])
          ])
        ])
      ]

pub of_drawn : (P : Group → Type 0) (sizes : Sizes) (client left : ℕ) (g : Lcg) → HoldsOfEach P sizes client left → P (group_of sizes client left g).0
unfolding draw_of
of_drawn P sizes client left g each = elim (cases_eq left 1) [
  | inl last ↦ rw (eq-eqb left 1 last) (each.last last)
  | inr more ↦
      rw (ne_eqb left 1 more)
      (let fits : (draw_of 4 g).0 < 4 = mod_below (pcg32 g).0 4 (omega arith) in
      elim (cases_Bool (sizes.version == 3)) [
        | inl third ↦ rw third (of_third P sizes client left each more (draw_of 4 g).0 fits (draw_of 8 (draw_of 4 g).1).0 (draw_of 8 (draw_of 4 g).1).1 (eqb-true sizes.version 3 third))
        | inr before ↦ rw before (of_first P sizes client left each more (draw_of 4 g).0 fits (draw_of 4 (draw_of 4 g).1).0 (draw_of 4 (draw_of 4 g).1).1)
      ])
]

-- the set of a drawn group is one of the four
pub set_drawn : (sizes : Sizes) (client left : ℕ) (g : Lcg) → set_of (group_of sizes client left g).0 < 4
set_drawn sizes client left g = of_drawn (λ group. set_of group < 4) sizes client left g (record {
  last = λ e. omega arith;
  lock = λ set mode fits more ok. fits;
  tries = λ set mode fits more ok. fits;
  upgrade = λ set fits more. fits;
  change = λ set fits three. fits;
  give_up = λ set mode fits three third. fits;
  release = λ set fits three third. fits;
  withdraw = λ set other fits more third beside. fits;
})

-- a drawn group is one of the version
pub version_drawn : (sizes : Sizes) (client left : ℕ) (g : Lcg) → IsGroupOf sizes.version (group_of sizes client left g).0
version_drawn sizes client left g = of_drawn (IsGroupOf sizes.version) sizes client left g (record {
  last = λ e. tt;
  lock = λ set mode fits more ok. ok;
  tries = λ set mode fits more ok. ok;
  upgrade = λ set fits more. tt;
  change = λ set fits three. tt;
  give_up = λ set mode fits three third. third;
  release = λ set fits three third. third;
  withdraw = λ set other fits more third beside. third;
})

-- the client that a drawn group names is beside the one that makes it
pub beside_drawn : (sizes : Sizes) (client left : ℕ) (g : Lcg) → 0 < sizes.nodes → client < sizes.clients → NamesBeside sizes client (group_of sizes client left g).0
beside_drawn sizes client left g some inside = of_drawn (NamesBeside sizes client) sizes client left g (record {
  last = λ e. tt;
  lock = λ set mode fits more ok. tt;
  tries = λ set mode fits more ok. tt;
  upgrade = λ set fits more. tt;
  change = λ set fits three. tt;
  give_up = λ set mode fits three third. itself;
  release = λ set fits three third. itself;
  withdraw = λ set other fits more third beside. beside some inside;
})
  where
    itself : IsOnSameNode sizes client client
    itself = record { inside = inside; together = refl }

-- a drawn group has no more commands than are left
pub few_drawn : (sizes : Sizes) (client left : ℕ) (g : Lcg) → left ≢ 0 → length (group_commands (group_of sizes client left g).0) ≤ left
few_drawn sizes client left g some = of_drawn (λ group. length (group_commands group) ≤ left) sizes client left g (record {
  last = λ e. omega (arith, e);
  lock = λ set mode fits more ok. two more;
  tries = λ set mode fits more ok. two more;
  upgrade = λ set fits more. two more;
  change = λ set fits three. three;
  give_up = λ set mode fits three third. three;
  release = λ set fits three third. three;
  withdraw = λ set other fits more third beside. omega (arith, some);
})
  where
    two : left ≢ 1 → 2 ≤ left
    two more = omega (arith, some, more)

-- What a group names is of the script.

module _ (sets : List SetData) (clients : List ClientData) (sizes : Sizes) (client : ℕ) (inside : client < length clients) (four : 4 ≤ length sets)
    (beside : (other : ℕ) → IsOnSameNode sizes client other → (other < length clients) × (home_at clients other ≡ home_at clients client)) where
  found : (set : ℕ) → set < 4 → set < length sets
  found set fits = omega (arith, four, fits)

  -- what a group names is of a script with this client, its set and the clients beside it
  pub group_targets : (group : Group) → NamesBeside sizes client group → set_of group < 4
      → AllByRecursion (λ (command : Command). IsRequest sets clients (client, command)) (group_commands group)
  group_targets Last named fits = ((inside, found 0 fits), tt)
  group_targets (Lock set mode) named fits = ((inside, found set fits), ((inside, found set fits), tt))
  group_targets (Try set mode) named fits = ((inside, found set fits), ((inside, found set fits), tt))
  group_targets (Upgrade set) named fits = ((inside, found set fits), ((inside, found set fits), tt))
  group_targets (Change set) named fits = ((inside, found set fits), ((inside, found set fits), ((inside, found set fits), tt)))
  group_targets (GiveUp other set mode) named fits =
      let there = beside other named in
      ((inside, found set fits), ((inside, (found set fits, there.0, there.1)), ((inside, found set fits), tt)))
  group_targets (Release other set) named fits =
      let there = beside other named in
      ((inside, found set fits), ((inside, found set fits), ((inside, (found set fits, there.0, there.1)), tt)))
  group_targets (Withdraw other set) named fits = let there = beside other named in ((inside, (found set fits, there.0, there.1)), tt)

-- the five are modes of each version
of_version : (version : ℕ) (mode : Mode) → IsTrue (is_of_five mode) → IsTrue (is_of_version version mode)
of_version version mode five = elim (cases_Bool (not (version == 1))) [ inl later ↦ rw later refl | inr first ↦ rw first five ]

-- the commands of a group of the version are commands of the version
pub group_modes : (version : ℕ) (group : Group) → IsGroupOf version group → AllByRecursion (IsOfVersion version) (group_commands group)
group_modes version Last ok = (of_version version modes.Read refl, tt)
group_modes version (Lock set mode) ok = (ok, (ok, tt))
group_modes version (Try set mode) ok = (ok, (ok, tt))
group_modes version (Upgrade set) ok = let mode = of_version version modes.Upgrade refl in (mode, (mode, tt))
group_modes version (Change set) ok =
    let gives_up = of_version version modes.Upgrade refl in
    let mode = of_version version modes.Write refl in
    (gives_up, ((gives_up, mode), (mode, tt)))
group_modes version (GiveUp client set mode) third = let ok : IsTrue (is_of_version version mode) = rw third refl in (ok, (third, (ok, tt)))
group_modes version (Release client set) third =
    let gives_up = of_version version modes.Upgrade refl in
    let mode = of_version version modes.Write refl in
    (gives_up, ((gives_up, mode), (tt, tt)))
group_modes version (Withdraw client set) third = (third, tt)
