-- The search for those from whom clients wait in a row to one client, in rounds.
use Rattle.std.specs.Prelude.{◌≡◌, ◌⊎◌, ◌<◌, ◌≤◌, ◌+◌, ◌*◌, ◌==◌, ◌&&◌, ℕ, true, false, List, [], Contains, length, nat_lt, slice_index_or}
use Rattle.lt_lists.specs.Below.{count_below}
use Rattle.lt_spec.specs.Rings.{Graph}
use Rattle.lt_waits.specs.Bits.{row_has, words_for}
use Rattle.lt_waits.specs.Serves.{GraphData, graph_of}
use Rattle.lt_waits.specs.declared.search.Search.{Search}

-- the row has a bit for each client that waits for this one
pub record IsRow (g : GraphData) (client : ℕ) (row : List ℕ) : Type 0 where
  pub words : length row ≡ words_for g.clients
  pub waiters : (other : ℕ) → other < 64 * words_for g.clients → row_has row other
      ≡ (nat_lt other g.clients && graph_of g other client)

-- there is a row for each of the first so many clients
pub record HasRows (g : GraphData) (rows : List (List ℕ)) (many : ℕ) : Type 0 where
  pub count : length rows ≡ many
  pub each : (client : ℕ) → client < many → IsRow g client (slice_index_or rows client [])

-- in how many steps the client comes to the goal; 0 if it wasn't found
abbrev pub steps_of : Search → ℕ → ℕ
steps_of s client = slice_index_or s.steps.items client 0

-- the client to which it goes by the first of these steps
abbrev pub next_step_of : Search → ℕ → ℕ
next_step_of s client = slice_index_or s.next.items client 0

-- how many of the n clients weren't found yet
abbrev pub unreached_in : ℕ → Search → ℕ
unreached_in n s = count_below n (λ client. steps_of s client == 0)

-- the search keeps something of each of the n clients, and those that weren't found have their bits
pub record IsSearch (n : ℕ) (s : Search) : Type 0 where
  pub steps : length s.steps.items ≡ n
  pub next : length s.next.items ≡ n
  pub words : length s.left ≡ words_for n
  pub left : (client : ℕ) → client < n → row_has s.left client ≡ (steps_of s client == 0)

-- a client that wasn't found: it isn't found still, or it waits for one of those and is found now, in so many steps
abbrev pub IsReached : Graph → List ℕ → ℕ → List ℕ → Search → ℕ → Type 0
IsReached graph those steps found s client =
    (steps_of s client ≡ 0)
    ⊎ ((steps_of s client ≡ steps)
    × (Contains those (next_step_of s client) × ((graph client (next_step_of s client) ≡ true) × Contains found client)))

-- clients that wait for one of those are found, in so many steps, and stand behind those that were found before
pub record Reaches (n : ℕ) (graph : Graph) (those : List ℕ) (steps : ℕ) (before found : List ℕ)
    (old new : Search) : Type 0 where
  pub search : IsSearch n new
  pub kept : (client : ℕ) → client < n → 0 < steps_of old client
      → (steps_of new client ≡ steps_of old client) × (next_step_of new client ≡ next_step_of old client)
  pub reached : (client : ℕ) → client < n → steps_of old client ≡ 0
      → IsReached graph those steps found new client
  pub all : (client : ℕ) → Contains found client
      → Contains before client ⊎ ((client < n) × (steps_of new client ≡ steps))
  pub more : (client : ℕ) → Contains before client → Contains found client
  pub fewer : unreached_in n new + length found ≤ unreached_in n old + length before

-- each client that waits for one of those is found
abbrev pub IsSearched : ℕ → Graph → List ℕ → Search → Type 0
IsSearched n graph those s = (client other : ℕ) → client < n → steps_of s client ≡ 0 → Contains those other
    → graph client other ≡ false

-- by its first step a client comes nearer to the goal, or to the goal itself
abbrev pub GoesNearer : Graph → ℕ → Search → ℕ → Type 0
GoesNearer graph goal s client =
    (graph client (next_step_of s client) ≡ true)
    × (((steps_of s client ≡ 1) × (next_step_of s client ≡ goal))
    ⊎ ((0 < steps_of s (next_step_of s client)) × (steps_of s (next_step_of s client) + 1 ≡ steps_of s client)))

-- of each of the n clients the fewest steps to the goal are known, and where its first step goes
pub record HasSteps (n : ℕ) (graph : Graph) (goal : ℕ) (s : Search) : Type 0 where
  pub search : IsSearch n s
  pub next_below : (client : ℕ) → client < n → 0 < steps_of s client → next_step_of s client < n
  pub first : (client : ℕ) → client < n → graph client goal ≡ true → steps_of s client ≡ 1
  pub further : (client other : ℕ) → client < n → other < n → graph client other ≡ true
      → 0 < steps_of s other
      → (0 < steps_of s client) × (steps_of s client ≤ steps_of s other + 1)
  pub nearer : (client : ℕ) → client < n → 0 < steps_of s client → GoesNearer graph goal s client
