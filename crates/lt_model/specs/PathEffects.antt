-- What each effect of a node's move on a set does to the token's path.
use Rattle.std.specs.Prelude.{◌≡◌, ◌⊎◌, ◌==◌, ◌≤◌, ◌<◌, Bool, ℕ, ◌+◌, List, [], ◌∷◌, ◌++◌, if◌then◌else◌, length, slice_index, All, is_some, filter_map, sum_by}
use Rattle.std.specs.List.{AllByRecursion}
use Rattle.lt_modes.specs.declared.mode.Mode.{Mode}
use Rattle.lt_modes.specs.declared.stamp.Stamp.{Stamp}
use Rattle.lt_modes.specs.declared.parts.Link.{Link}
use Rattle.lt_modes.specs.State.{SetState, Desk, Letter, Parked, Made, Post}
use Rattle.lt_modes.specs.Serving.{serve}
use Rattle.lt_modes.specs.HandingOver.{hand_over}
use Rattle.lt_modes.specs.Freezing.{freeze}
use Rattle.lt_modes.specs.SetMove.{tell, finish, lock, try, unlock, change, drop, withdraw}
use Rattle.lt_modes.specs.Routing.{learn, route}
use Rattle.lt_modes.specs.Taking.{take_token, take}
use Rattle.lt_spec.specs.World.{token_to}
use Rattle.lt_spec.specs.Facts.{tokens_in}
use Rattle.lt_lists.specs.Below.{one_if}
use Rattle.lt_model.specs.Invariant.{IsTrueLink, IsParkedNamed, DeskOnPath, StateOnPath, LetterOnPath}

-- there are nodes, and the token went to nodes
pub record Ground (nodes : ℕ) (went : List ℕ) : Type 0 where
  pub some : 0 < nodes
  pub known : All (λ x. x < nodes) went

-- the letter is on its path and carries no token
abbrev pub IsQuiet : ℕ → List ℕ → ℕ → Post → Type 0
IsQuiet nodes went x post = LetterOnPath nodes went x post.to post.letter × (tokens_in post.letter.body ≡ 0)

-- node x stays on the path, its letters too, none carries the token, and k says whether the desk is there
pub record Quiet (nodes : ℕ) (went : List ℕ) (x k : ℕ) (m : Made) : Type 0 where
  pub state : StateOnPath nodes went x m.state
  pub posts : AllByRecursion (IsQuiet nodes went x) m.posts
  pub desk : one_if (is_some m.state.desk) ≡ k

-- the tokens of the set that a letter carries
abbrev pub token_weight : ℕ → Letter → ℕ
token_weight s letter = if letter.set == s then tokens_in letter.body else 0

-- what the letters of these posts weigh together
abbrev pub posts_weight : (Letter → ℕ) → List Post → ℕ
posts_weight of_letter posts = sum_by (λ (post : Post). of_letter post.letter) posts

-- the token goes from x, where it was, to another node
pub record HandsOver (nodes : ℕ) (went : List ℕ) (x k : ℕ) (now : List ℕ) : Type 0 where
  pub to : ℕ
  pub grown : now ≡ went ++ to ∷ []
  pub named : to < nodes
  pub here : k ≡ 1
  pub last : (epoch : ℕ) → epoch + 1 ≡ length went → slice_index went epoch ≡ x

-- node x and its letters are on the path, with one token where there was one before (k), at x or in hand
pub record Moved (nodes : ℕ) (went : List ℕ) (set x k : ℕ) (m : Made) : Type 0 where
  pub now : List ℕ
  pub grown : now ≡ went ++ filter_map (token_to set) m.posts
  pub state : StateOnPath nodes now x m.state
  pub posts : AllByRecursion (λ (post : Post). LetterOnPath nodes now x post.to post.letter) m.posts
  pub count : one_if (is_some m.state.desk) + posts_weight (token_weight set) m.posts ≡ k
  pub others : (now ≡ went) ⊎ HandsOver nodes went x k now

-- the effect keeps a node on the path, and neither brings nor sends the token
abbrev pub KeepsToken : (Stamp → SetState → Made) → Type 0
KeepsToken effect = (nodes : ℕ) (went : List ℕ) (stamp : Stamp) (s : SetState) → Ground nodes went → StateOnPath nodes went stamp.node s
    → Quiet nodes went stamp.node (one_if (is_some s.desk)) (effect stamp s)

-- the effect keeps a node on the path, and the token stays there or goes on
abbrev pub KeepsPath : ℕ → (Stamp → SetState → Made) → Type 0
KeepsPath set effect = (nodes : ℕ) (went : List ℕ) (stamp : Stamp) (s : SetState) → stamp.node < nodes
    → Ground nodes went → StateOnPath nodes went stamp.node s → Moved nodes went set stamp.node (one_if (is_some s.desk)) (effect stamp s)

-- each effect of a move on a set keeps the token's path
pub record EffectsOnPath : Type 0 where
  pub routes : (nodes : ℕ) (went : List ℕ) (set : ℕ) (stamp : Stamp) (marked : Bool) (item : Parked) (s : SetState)
      → Ground nodes went → StateOnPath nodes went stamp.node s → IsParkedNamed nodes item
      → Quiet nodes went stamp.node (one_if (is_some s.desk)) (route set stamp marked item s)
  pub serves : (set : ℕ) → KeepsToken (serve set)
  pub freezes : (set : ℕ) → KeepsToken (freeze set)
  pub tells : (set : ℕ) → KeepsToken (tell set)
  pub hands_over : (set : ℕ) → KeepsPath set (hand_over set)
  pub finishes : (set : ℕ) → KeepsPath set (finish set)
  pub learns : (nodes : ℕ) (went : List ℕ) (x : ℕ) (link : Link) (s : SetState)
      → IsTrueLink went link → StateOnPath nodes went x s → StateOnPath nodes went x (learn link s)
  pub takes_token : (nodes : ℕ) (went : List ℕ) (x : ℕ) (desk : Desk) (s : SetState)
      → DeskOnPath nodes went x desk → StateOnPath nodes went x s → StateOnPath nodes went x (take_token x desk s)
  pub locks : (set client : ℕ) (mode : Mode) → KeepsPath set (λ stamp. lock set stamp client mode)
  pub tries : (set client : ℕ) (mode : Mode) → KeepsPath set (λ stamp. try set stamp client mode)
  pub unlocks : (set client : ℕ) (mode : Mode) → KeepsPath set (λ stamp. unlock set stamp client mode)
  pub changes : (set client : ℕ) (gives_up mode : Mode) → KeepsPath set (λ stamp. change set stamp client gives_up mode)
  pub drops : (set client : ℕ) → KeepsPath set (λ stamp. drop set stamp client)
  pub withdraws : (set client other : ℕ) → KeepsPath set (λ stamp. withdraw set stamp client other)
  pub takes : (nodes : ℕ) (went : List ℕ) (p : ℕ) (stamp : Stamp) (letter : Letter) (s : SetState)
      → Ground nodes went → StateOnPath nodes went stamp.node s → LetterOnPath nodes went p stamp.node letter
      → one_if (is_some s.desk) + tokens_in letter.body ≤ 1
      → Moved nodes went letter.set stamp.node (one_if (is_some s.desk) + tokens_in letter.body) (take stamp letter s)
