-- A page that is written from the front: what stands on it, and the room behind that.
use Rattle.std.specs.Prelude.{List, ℕ}

pub record PageData : Type 0 where
  -- what is written so far
  pub text : List ℕ
  -- how many bytes more may be written before room is made
  pub room : ℕ
