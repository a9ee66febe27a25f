-- Lists, place by place.
use Rattle.std.specs.Prelude.{◌≡◌, ◌≢◌, ℕ, List, Some, length, slice_get}
use Rattle.lt_mail.specs.Words.{Alike}

module _ {X : Type 0} where
  -- those at the same places go together
  abbrev pub Each : (X → X → Type 0) → List X → List X → Type 0
  Each R old new = (k : ℕ) → Alike R (slice_get old k) (slice_get new k)

  -- the one at this place went on so, and the others stay
  pub record OneAt (R : X → X → Type 0) (place : ℕ) (old new : List X) : Type 0 where
    pub x : X
    pub y : X
    pub before : slice_get old place ≡ Some x
    pub now : slice_get new place ≡ Some y
    pub one : R x y
    pub count : length new ≡ length old
    pub others : (k : ℕ) → k ≢ place → slice_get new k ≡ slice_get old k
