-- Which players can act, and the first of them.
use Rattle.std.specs.Prelude.{◌≡◌, ◌≢◌, ◌<◌, ◌≤◌, ◌+◌, ◌*◌, ◌%◌, ◌^◌, ◌==◌, ◌&&◌, ◌⊎◌, not, nat_lt, ℕ, List, Option, Some, None, length, min, count_by, is_some, slice_index_or, slice_set, if◌then◌else◌}

-- the number of the player's next turn, where it can act
abbrev pub number_at : List (Option ℕ) → ℕ → Option ℕ
number_at numbers player = slice_index_or numbers player None

-- the player can act with this number, and no other one that can act comes before it
pub record Leads (numbers : List (Option ℕ)) (player number : ℕ) : Type 0 where
  pub can_act : number_at numbers player ≡ Some number
  pub leads : (other later : ℕ) → number_at numbers other ≡ Some later
      → (number < later) ⊎ ((number ≡ later) × (player ≤ other))

-- the first player of those that can act
abbrev pub IsFirst : List (Option ℕ) → Option ℕ → Type 0
IsFirst numbers None = (player : ℕ) → number_at numbers player ≡ None
IsFirst numbers (Some player) = (number : ℕ) × Leads numbers player number

-- the second turn comes after the first one
abbrev pub IsAfter : ℕ → ℕ → ℕ → ℕ → Type 0
IsAfter number player later other = (number < later) ⊎ ((number ≡ later) × (player < other))

-- the player comes after this turn, and no other one that does comes before it
pub record LeadsAfter (numbers : List (Option ℕ)) (number player next later : ℕ) : Type 0 where
  pub can_act : number_at numbers next ≡ Some later
  pub after : IsAfter number player later next
  pub leads : (other last : ℕ) → number_at numbers other ≡ Some last → IsAfter number player last other
      → (later < last) ⊎ ((later ≡ last) × (next ≤ other))

-- the first player of those that come after this one, where it can act
abbrev pub IsNext : List (Option ℕ) → ℕ → Option ℕ → Type 0
IsNext numbers player None =
    (number other later : ℕ) → number_at numbers player ≡ Some number → number_at numbers other ≡ Some later
    → ¬ (IsAfter number player later other)
IsNext numbers player (Some next) =
    (number later : ℕ) × (number_at numbers player ≡ Some number) × LeadsAfter numbers number player next later

-- the rank of a turn: none has the greatest one, and so have turns with numbers that have no rank
abbrev pub rank_of : Option ℕ → ℕ → ℕ
rank_of None player = 2 ^ 63
rank_of (Some number) player = if nat_lt number (2 ^ 47) then number * 65536 + player else 2 ^ 63

-- the player whose turn has this rank
abbrev pub player_of : ℕ → Option ℕ
player_of rank = if rank == 2 ^ 63 then None else Some (rank % 65536)

abbrev pub rank_at : List ℕ → ℕ → ℕ
rank_at ranks node = slice_index_or ranks node 0

-- the node has the least rank of the two nodes below it
abbrev pub IsLeastRank : List ℕ → ℕ → Type 0
IsLeastRank ranks node = rank_at ranks node ≡ min (rank_at ranks (2 * node)) (rank_at ranks (2 * node + 1))

-- so it is at each node that isn't a leaf
abbrev pub AreLeast : List ℕ → Type 0
AreLeast ranks = (node : ℕ) → 0 < node → 2 * node + 1 < length ranks → IsLeastRank ranks node

-- and at each but this one
abbrev pub AreLeastBut : List ℕ → ℕ → Type 0
AreLeastBut ranks but = (node : ℕ) → 0 < node → 2 * node + 1 < length ranks → node ≢ but → IsLeastRank ranks node

-- the leaves have the ranks that they had, but this one the rank that is given
abbrev pub AreLeaves : List ℕ → ℕ → ℕ → List ℕ → Type 0
AreLeaves old leaf rank new =
    (node : ℕ) → length old ≤ 2 * node → rank_at new node ≡ rank_at (slice_set old leaf rank) node

-- the second rank where it lies between the other two, else the first one
abbrev pub nearest_leaf : ℕ → ℕ → ℕ → ℕ
nearest_leaf here first second = if nat_lt here second && nat_lt second first then second else first

-- a leaf before the end, whose rank is this one
pub record IsLeaf (ranks : List ℕ) (end rank : ℕ) : Type 0 where
  pub leaf : ℕ
  pub is_leaf : length ranks ≤ 2 * leaf
  pub inside : leaf < end
  pub has : rank_at ranks leaf ≡ rank

-- the least rank, greater than this one, of the leaves before the end, or that of no turn
pub record IsFirstAfter (ranks : List ℕ) (here end first : ℕ) : Type 0 where
  pub either : (first ≡ 2 ^ 63) ⊎ ((here < first) × IsLeaf ranks end first)
  pub leads : (leaf : ℕ) → length ranks ≤ 2 * leaf → leaf < end → here < rank_at ranks leaf → rank_at ranks leaf < 2 ^ 63
      → first ≤ rank_at ranks leaf

-- The places of all turns, whatever their numbers.

-- the place of a turn: that of none comes last
abbrev pub turn_place : Option ℕ → ℕ → ℕ
turn_place None player = 2 ^ 80
turn_place (Some number) player = number * 65536 + player

-- the player whose turn has this place
abbrev pub player_at_place : ℕ → Option ℕ
player_at_place place = if place == 2 ^ 80 then None else Some (place % 65536)

-- the second place where it lies before the first one, but not before where to begin, else the first one
abbrev pub nearer_place : ℕ → ℕ → ℕ → ℕ
nearer_place from first second = if not (nat_lt second from) && nat_lt second first then second else first

-- a player before the end has a turn with this place
pub record IsTurnPlace (numbers : List (Option ℕ)) (end place : ℕ) : Type 0 where
  pub player : ℕ
  pub number : ℕ
  pub inside : player < end
  pub can_act : number_at numbers player ≡ Some number
  pub is : place ≡ number * 65536 + player

-- the least place, from this one on, of the turns of the players before the end, or that of no turn
pub record IsLeastFrom (numbers : List (Option ℕ)) (from end first : ℕ) : Type 0 where
  pub either : (first ≡ 2 ^ 80) ⊎ ((from ≤ first) × IsTurnPlace numbers end first)
  pub leads : (player number : ℕ) → player < end → number_at numbers player ≡ Some number → from ≤ number * 65536 + player
      → first ≤ number * 65536 + player

-- the numbers of turns have 64 bits
abbrev pub AreSmall : List (Option ℕ) → Type 0
AreSmall numbers = (player number : ℕ) → number_at numbers player ≡ Some number → number < 2 ^ 64

-- a tree over these players, of which so many can act
pub record IsTree (numbers : List (Option ℕ)) (ranks : List ℕ) (count : ℕ) : Type 0 where
  pub nodes : length ranks ≡ 2 * length numbers
  pub few : length numbers < 2 ^ 16
  pub small : (player number : ℕ) → number_at numbers player ≡ Some number → number < 2 ^ 64
  pub leaves : (player : ℕ) → player < length numbers
      → rank_at ranks (length numbers + player) ≡ rank_of (number_at numbers player) player
  pub least : AreLeast ranks
  pub counted : count ≡ count_by is_some numbers
