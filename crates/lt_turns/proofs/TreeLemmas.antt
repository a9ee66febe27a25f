-- The ranks of a tree, as one of them changes, and the first turn of all.
use Rattle.std.proofs.Common.{◌≡◌, ℕ, zero, suc, ◌+◌, ◌-◌, ◌*◌, ◌/◌, ◌%◌, ◌^◌, ◌<◌, ◌≤◌, Bool, true, false, List, [], ◌∷◌, length, Option, Some, None, inl, inr, ◌⊎◌, refl, sym, ap, ◌∙◌, subst, arith, if◌then◌else◌, count_by, is_some, eq-eqb, nat_lt, ◌&&◌, ltb-true, lt-ltb}
use Rattle.std.proofs.lemmas.List.Sums.{sum_by-cons}
use Rattle.std.proofs.lemmas.Bool.{cases_eq, cases_lt, ne_eqb, and_parts, and_from, false≢true}
use Rattle.lt_turns.specs.Turns.{number_at, IsFirst, IsNext, rank_of, player_of, rank_at, AreLeast, IsLeaf, IsFirstAfter, nearest_leaf, IsTree}
use Rattle.lt_turns.proofs.PlaceLemmas.{none_some, outside, not_before, after_by_rank, rank_by_after}

-- the root's rank is the least of all
least_of : (ranks : List ℕ) → AreLeast ranks → length ranks % 2 ≡ 0 → (fuel node : ℕ) → node ≤ fuel → 0 < node → node < length ranks
    → rank_at ranks 1 ≤ rank_at ranks node
least_of ranks h even zero node within some inside = absurd (omega (arith, within, some))
least_of ranks h even (suc fuel) node within some inside = elim (cases_eq node 1) [
  | inl root ↦ subst (λ (x : ℕ). rank_at ranks 1 ≤ rank_at ranks x) (sym root) (omega arith)
  | inr lower ↦
      let above = least_of ranks h even fuel (node / 2) (omega (arith, within, some)) (omega (arith, some, lower)) (omega (arith, inside)) in
      let least = h (node / 2) (omega (arith, some, lower)) (omega (arith, inside, even)) in
      elim (cases_eq node (2 * (node / 2))) [
        | inl left ↦ subst (λ (x : ℕ). rank_at ranks 1 ≤ rank_at ranks x) (sym left) (omega (arith, above, least))
        | inr right ↦
            let odd : 2 * (node / 2) + 1 ≡ node = omega (arith, right) in
            subst (λ (x : ℕ). rank_at ranks 1 ≤ rank_at ranks x) odd (omega (arith, above, least))
      ]
]

-- each node has the rank of a leaf
leaf_of : (ranks : List ℕ) → AreLeast ranks → length ranks % 2 ≡ 0 → (fuel node : ℕ) → length ranks ≤ node + fuel → 0 < node → node < length ranks
    → IsLeaf ranks (length ranks) (rank_at ranks node)
leaf_of ranks h even zero node within some inside = absurd (omega (arith, within, inside))
leaf_of ranks h even (suc fuel) node within some inside = elim (cases_lt (2 * node + 1) (length ranks)) [
  | inl inner ↦
      let least = h node some inner in
      elim (cases_lt (rank_at ranks (2 * node)) (rank_at ranks (2 * node + 1))) [
        | inl left ↦ subst (IsLeaf ranks (length ranks)) (omega (arith, left, least)) (leaf_of ranks h even fuel (2 * node) (omega (arith, within, some)) (omega (arith, some)) (omega (arith, inner)))
        | inr right ↦ subst (IsLeaf ranks (length ranks)) (omega (arith, right, least)) (leaf_of ranks h even fuel (2 * node + 1) (omega (arith, within, some)) (omega (arith, some)) inner)
      ]
  | inr outer ↦ record { leaf = node; is_leaf = omega (arith, outer, even); inside = inside; has = refl }
]

-- the rank of a player that can act, where its number has one
rank_is : (numbers : List (Option ℕ)) (ranks : List ℕ) (count player number : ℕ) → IsTree numbers ranks count → number_at numbers player ≡ Some number
    → number < 2 ^ 47 → rank_at ranks (length numbers + player) ≡ number * 65536 + player
rank_is numbers ranks count player number tree e near =
    tree.leaves player (outside numbers player number e)
    ∙ (ap (λ (o : Option ℕ). rank_of o player) e
    ∙ ap (λ (t : Bool). if t then number * 65536 + player else 2 ^ 63) (lt-ltb number (2 ^ 47) near))

-- and where it has none
far_rank : (number player : ℕ) → 2 ^ 47 ≤ number → rank_of (Some number) player ≡ 2 ^ 63
far_rank number player far = elim (nat_lt number (2 ^ 47)) as (λ t. nat_lt number (2 ^ 47) ≡ t → (if t then number * 65536 + player else 2 ^ 63) ≡ 2 ^ 63) [
  | true ↦ λ e. absurd (omega (arith, far, ltb-true number (2 ^ 47) e))
  | false ↦ λ e. refl
] refl

-- whose rank a leaf has: a player that can act, or no one
data Owner (numbers : List (Option ℕ)) (rank : ℕ) : Type 0 where
  Nobody : rank ≡ 2 ^ 63 → Owner numbers rank
  Player : (player number : ℕ) → number_at numbers player ≡ Some number → number < 2 ^ 47 → rank ≡ number * 65536 + player → Owner numbers rank

owner : (numbers : List (Option ℕ)) (ranks : List ℕ) (count rank : ℕ) → IsTree numbers ranks count → IsLeaf ranks (length ranks) rank → Owner numbers rank
owner numbers ranks count rank tree at = by_number (number_at numbers (at.leaf - length numbers)) refl
  where
    is : rank ≡ rank_of (number_at numbers (at.leaf - length numbers)) (at.leaf - length numbers)
    is =
        sym at.has
        ∙ (ap (rank_at ranks) (omega (arith, at.is_leaf, tree.nodes))
        ∙ tree.leaves (at.leaf - length numbers) (omega (arith, at.is_leaf, at.inside, tree.nodes)))

    by_number : (o : Option ℕ) → number_at numbers (at.leaf - length numbers) ≡ o → Owner numbers rank
    by_number None e = Nobody (is ∙ ap (λ (o : Option ℕ). rank_of o (at.leaf - length numbers)) e)
    by_number (Some number) e =
        let player = at.leaf - length numbers in
        let of_turn : rank ≡ rank_of (Some number) player = is ∙ ap (λ (o : Option ℕ). rank_of o player) e in
        elim (cases_lt number (2 ^ 47)) [
          | inl near ↦ Player player number e near (of_turn ∙ ap (λ (t : Bool). if t then number * 65536 + player else 2 ^ 63) (lt-ltb number (2 ^ 47) near))
          | inr far ↦ Nobody (of_turn ∙ far_rank number player far)
        ]

nobody_of : (rank : ℕ) → rank ≡ 2 ^ 63 → player_of rank ≡ None
nobody_of rank e = ap (λ (t : Bool). if t then None else Some (rank % 65536)) (eq-eqb rank (2 ^ 63) e)

player_is : (rank number player : ℕ) → rank ≡ number * 65536 + player → player < 2 ^ 16 → number < 2 ^ 47 → player_of rank ≡ Some player
player_is rank number player e few small =
    ap (λ (t : Bool). if t then None else Some (rank % 65536)) (ne_eqb rank (2 ^ 63) (λ f. omega (arith, e, f, few, small)))
    ∙ ap Some (omega (arith, e, few))

-- the first player of those that can act, where its number has a rank
abbrev pub IsNearFirst : List (Option ℕ) → Option ℕ → Type 0
IsNearFirst numbers None = Unit {0}
IsNearFirst numbers (Some player) = IsFirst numbers (Some player)

-- the player of the root's rank is the first one
pub is_first : (numbers : List (Option ℕ)) (ranks : List ℕ) (count : ℕ) → IsTree numbers ranks count → 0 < length numbers
    → IsNearFirst numbers (player_of (rank_at ranks 1))
is_first numbers ranks count tree some = by_owner (owner numbers ranks count (rank_at ranks 1) tree (leaf_of ranks tree.least (omega (arith, tree.nodes)) (length ranks) 1 (omega arith) (omega arith) (omega (arith, some, tree.nodes))))
  where
    root_least : (player number : ℕ) → number_at numbers player ≡ Some number → number < 2 ^ 47 → rank_at ranks 1 ≤ number * 65536 + player
    root_least player number e near =
        let inside = outside numbers player number e in
        omega (arith, rank_is numbers ranks count player number tree e near, least_of ranks tree.least (omega (arith, tree.nodes)) (length numbers + player) (length numbers + player) (omega arith) (omega (arith, some)) (omega (arith, inside, tree.nodes)))

    by_owner : Owner numbers (rank_at ranks 1) → IsNearFirst numbers (player_of (rank_at ranks 1))
    by_owner (Nobody e) = subst (IsNearFirst numbers) (sym (nobody_of (rank_at ranks 1) e)) tt
    by_owner (Player player number e near is) =
        let inside = outside numbers player number e in
        subst (IsNearFirst numbers) (sym (player_is (rank_at ranks 1) number player is (omega (arith, inside, tree.few)) near)) (
          number,
          record {
            can_act = e;
            leads = λ other later f. elim (cases_lt later (2 ^ 47)) [
              | inl low ↦
                  let there = outside numbers other later f in
                  let least : number * 65536 + player ≤ later * 65536 + other = omega (arith, is, root_least other later f low) in
                  not_before number player later other (omega (arith, there, tree.few)) least
              | inr high ↦ inl (omega (arith, near, high))
            ];
          },
        )

-- where no player can act, none is counted
pub none_counted : (numbers : List (Option ℕ)) → ((player : ℕ) → number_at numbers player ≡ None) → 0 ≡ count_by is_some numbers
none_counted [] none = refl
none_counted (first ∷ rest) none =
    let one : Option ℕ → ℕ = λ o. if is_some o then 1 else 0 in
    omega (arith, ap one (none 0), none_counted rest (λ player. none (suc player)), sum_by-cons one first rest)

-- where no player can act
pub none_can : (numbers : List (Option ℕ)) (ranks : List ℕ) → length ranks ≡ 2 * length numbers → length numbers < 2 ^ 16
    → ((player : ℕ) → number_at numbers player ≡ None) → ((node : ℕ) → node < length ranks → rank_at ranks node ≡ 2 ^ 63) → IsTree numbers ranks 0
none_can numbers ranks nodes few none nobody = record {
  nodes = nodes;
  few = few;
  small = λ player number e. absurd (none_some number (sym (none player) ∙ e));
  leaves = λ player inside. nobody (length numbers + player) (omega (arith, nodes, inside)) ∙ sym (ap (λ (o : Option ℕ). rank_of o player) (none player));
  least = λ node above inside.
      omega (arith, nobody node (omega (arith, inside)), nobody (2 * node) (omega (arith, inside)), nobody (2 * node + 1) inside);
  counted = none_counted numbers none;
}

-- the first player of those that come after this one, where its number has a rank
abbrev pub IsNearNext : List (Option ℕ) → ℕ → Option ℕ → Type 0
IsNearNext numbers player None = Unit {0}
IsNearNext numbers player (Some next) = IsNext numbers player (Some next)

-- the player of the least rank of those greater than this player's
pub is_next : (numbers : List (Option ℕ)) (ranks : List ℕ) (count player first : ℕ) → IsTree numbers ranks count → player < length numbers
    → IsFirstAfter ranks (rank_at ranks (length numbers + player)) (length ranks) first → IsNearNext numbers player (player_of first)
is_next numbers ranks count player first tree inside h = elim h.either [
  | inl e ↦ none e
  | inr at ↦ by_owner at.0 (owner numbers ranks count first tree at.1)
]
  where
    none : first ≡ 2 ^ 63 → IsNearNext numbers player (player_of first)
    none e = subst (IsNearNext numbers player) (sym (nobody_of first e)) tt

    by_owner : rank_at ranks (length numbers + player) < first → Owner numbers first → IsNearNext numbers player (player_of first)
    by_owner more (Nobody e) = none e
    by_owner more (Player next later e low is) =
        let that = outside numbers next later e in
        subst (IsNearNext numbers player) (sym (player_is first later next is (omega (arith, that, tree.few)) low))
        (by_number (number_at numbers player) refl)
      where
        own : (o : Option ℕ) → number_at numbers player ≡ o → rank_at ranks (length numbers + player) ≡ rank_of o player
        own o f = tree.leaves player inside ∙ ap (λ (o : Option ℕ). rank_of o player) f

        by_number : (o : Option ℕ) → number_at numbers player ≡ o → IsNext numbers player (Some next)
        by_number None f = absurd (omega (arith, more, is, low, own None f, outside numbers next later e, tree.few))
        by_number (Some number) f = elim (cases_lt number (2 ^ 47)) [
          | inr far ↦ absurd (omega (arith, more, is, low, own (Some number) f ∙ far_rank number player far, outside numbers next later e, tree.few))
          | inl near ↦
              let here = rank_is numbers ranks count player number tree f near in (
                number,
                later,
                f,
                record {
                  can_act = e;
                  after = after_by_rank number player later next (omega (arith, outside numbers next later e, tree.few)) (omega (arith, here, is, more));
                  leads = λ other last can after. elim (cases_lt last (2 ^ 47)) [
                    | inr high ↦ inl (omega (arith, low, high))
                    | inl short ↦
                        let inner = outside numbers other last can in
                        let there = rank_is numbers ranks count other last tree can short in
                        let less : rank_at ranks (length numbers + player) < rank_at ranks (length numbers + other) =
                        omega (arith, here, there, rank_by_after number player last other (omega (arith, inside, tree.few)) after) in
                        not_before later next last other (omega (arith, inner, tree.few))
                        (omega (arith, is, there, h.leads (length numbers + other) (omega (arith, tree.nodes)) (omega (arith, tree.nodes, inner)) less (omega (arith, there, inner, short, tree.few))))
                  ];
                },
              )
        ]

-- with one leaf more
pub leaf_more : (ranks : List ℕ) (here leaf first next : ℕ) → IsFirstAfter ranks here leaf first → length ranks ≤ 2 * leaf
    → next ≡ nearest_leaf here first (rank_at ranks leaf) → IsFirstAfter ranks here (leaf + 1) next
leaf_more ranks here leaf first next h is_leaf e = by_test (nat_lt here (rank_at ranks leaf) && nat_lt (rank_at ranks leaf) first) refl e
  where
    by_test : (t : Bool) → nat_lt here (rank_at ranks leaf) && nat_lt (rank_at ranks leaf) first ≡ t → next ≡ (if t then rank_at ranks leaf else first)
        → IsFirstAfter ranks here (leaf + 1) next
    by_test true f g =
        let parts = and_parts (nat_lt here (rank_at ranks leaf)) (nat_lt (rank_at ranks leaf) first) f in
        let more : here < rank_at ranks leaf = ltb-true here (rank_at ranks leaf) parts.0 in
        let less : rank_at ranks leaf < first = ltb-true (rank_at ranks leaf) first parts.1 in
        record {
          either = inr (omega (arith, g, more), record { leaf = leaf; is_leaf = is_leaf; inside = omega arith; has = sym g });
          leads = λ k is inside after small. elim (cases_eq k leaf) [
            | inl same ↦ omega (arith, g, ap (rank_at ranks) same)
            | inr other ↦ omega (arith, g, less, h.leads k is (omega (arith, inside, other)) after small)
          ];
        }
    by_test false f g = record {
      either = elim h.either [
        | inl none ↦ inl (g ∙ none)
        | inr at ↦ inr (omega (arith, g, at.0), record { leaf = at.1.leaf; is_leaf = at.1.is_leaf; inside = omega (arith, at.1.inside); has = at.1.has ∙ sym g })
      ];
      leads = λ k is inside after small. elim (cases_eq k leaf) [
        | inl same ↦ elim (cases_lt (rank_at ranks leaf) first) [
          | inl less ↦
              absurd (false≢true (sym f ∙ and_from (nat_lt here (rank_at ranks leaf)) (nat_lt (rank_at ranks leaf) first) (lt-ltb here (rank_at ranks leaf) (omega (arith, after, ap (rank_at ranks) same))) (lt-ltb (rank_at ranks leaf) first less)))
          | inr more ↦ omega (arith, g, more, ap (rank_at ranks) same)
        ]
        | inr other ↦ omega (arith, g, h.leads k is (omega (arith, inside, other)) after small)
      ];
    }
