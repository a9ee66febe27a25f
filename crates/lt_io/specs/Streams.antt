-- Counts of faults, of ends and of bytes. A count is a `u64` that stops at its last value.
use Rattle.std.specs.Prelude.{◌≡◌, ℕ, zero, suc, ◌+◌, ◌-◌, ◌^◌, ◌≤◌, min, Result, OnOk, OnErr, ◌<◌, List, Option, Ok, Err, Some, None, ◌≢◌, IfSome, length, ◌*◌, take, ⊤, IfOk}
use Rattle.std.specs.Io.KnownBytes.{Consumes, IsAtEnd, Appends}
use Rattle.lt_io.specs.declared.whole.ReadFailure.{ReadFailure}
use Rattle.lt_io.specs.declared.whole.ReadFailure.TheVariants.{Failed, TooLong}

-- a count after n more
abbrev pub count_after : ℕ → ℕ → ℕ
count_after before n = min (before + n) (2 ^ 64 - 1)

-- the count rose by n, or to its last value, and did not fall
pub record CountsFaults (n before now : ℕ) : Type 0 where
  pub later : before ≤ now
  pub count : now ≡ count_after before n

-- the count rose by n or more, or stands at its last value
abbrev pub RoseBy : ℕ → ℕ → ℕ → Type 0
RoseBy n before now = count_after before n ≤ now

-- the count rose, or stands at its last value
abbrev pub Rose : ℕ → ℕ → Type 0
Rose before now = RoseBy 1 before now

-- a success leaves the count of faults as it was, and a failure raises it by one
pub record HasCause {T E : Type 0} (before now : ℕ) (result : Result T E) : Type 0 where
  pub without_fault : OnOk result (now ≡ before)
  pub one_fault : OnErr result (CountsFaults 1 before now)

-- a count after so many calls more
abbrev pub calls_after : ℕ → ℕ → ℕ
calls_after calls zero = calls
calls_after calls (suc n) = count_after (calls_after calls n) 1

-- What a source tells of itself, and what one read does to its counts of ends and of bytes given.

-- the bytes that are left, where the source tells them; how many it gave, how often it failed, and how often it was found at its end
pub record SourceState : Type 0 where
  pub left : Option (List ℕ)
  pub given : ℕ
  pub faults : ℕ
  pub ends : ℕ

-- a count of ends after a read that gave so many bytes to a buffer with so much room: a read of nothing
-- into a buffer with room is an end, and no other read is
pub record CountsEnd (before now room count : ℕ) : Type 0 where
  pub at_end : count ≡ 0 → 0 < room → CountsFaults 1 before now
  pub with_bytes : 0 < count → now ≡ before
  pub without_room : room ≡ 0 → now ≡ before

-- a read that fails is no end
abbrev pub Ends : {E : Type 0} → ℕ → ℕ → ℕ → Result ℕ E → Type 0
Ends before now room (Ok n) = CountsEnd before now room n
Ends before now room (Err e) = now ≡ before

-- the count of bytes given grows by what the read gave
abbrev pub Gives : {E : Type 0} → ℕ → ℕ → Result ℕ E → Type 0
Gives before now (Ok n) = CountsFaults n before now
Gives before now (Err e) = now ≡ before

-- known bytes lose a first part
abbrev pub LosesPart : Option (List ℕ) → Option (List ℕ) → Type 0
LosesPart old new = (bytes : List ℕ) × Consumes old new bytes

-- What reading a whole input comes to.

-- if the bytes that were left are known, they are these
abbrev pub Left : Option (List ℕ) → List ℕ → Type 0
Left None bytes = Unit {0}
Left (Some left) bytes = left ≡ bytes

-- the source came to its end, and if it tells its bytes, it has none left; no read failed, and it gave no more bytes than
-- the input may have
pub record IsReadWhole (limit : ℕ) (before after : SourceState) : Type 0 where
  pub ended : CountsFaults 1 before.ends after.ends
  pub at_end : IsAtEnd after.left
  pub few : after.given ≤ before.given + limit
  pub without_fault : after.faults ≡ before.faults

-- What reading a source piece by piece comes to.

-- these bytes were read: no read failed, and none was an end
pub record ReadsOn (bytes : List ℕ) (before after : SourceState) : Type 0 where
  pub consumed : Consumes before.left after.left bytes
  pub all_counted : count_after after.given 0 ≡ count_after before.given (length bytes)
  pub none_uncounted : before.given ≤ after.given
  pub none_made_up : after.given ≤ before.given + length bytes
  pub no_fault : after.faults ≡ before.faults
  pub no_end : after.ends ≡ before.ends

-- these bytes were all that was left: no read failed, and the last one was an end
pub record ReadsOut (bytes : List ℕ) (before after : SourceState) : Type 0 where
  pub consumed : Consumes before.left after.left bytes
  pub at_end : IsAtEnd after.left
  pub counted : CountsFaults (length bytes) before.given after.given
  pub no_more : after.given ≤ before.given + length bytes
  pub no_fault : after.faults ≡ before.faults
  pub ended : CountsFaults 1 before.ends after.ends

-- reading failed for this reason, where so many bytes might come
pub record FailsBy (why : ReadFailure) (limit : ℕ) (before after : SourceState) : Type 0 where
  pub failed : why ≡ Failed → CountsFaults 1 before.faults after.faults
  pub no_other_fault : why ≢ Failed → after.faults ≡ before.faults
  pub too_long : why ≡ TooLong → CountsFaults (limit + 1) before.given after.given
  pub too_many_left : why ≡ TooLong → IfSome before.left (λ bytes. limit < length bytes)
  pub no_more : why ≢ TooLong → after.given ≤ before.given + limit
  pub none_uncounted : before.given ≤ after.given
  pub part_taken : LosesPart before.left after.left
  pub no_end : after.ends ≡ before.ends

-- What one write takes, what a failed run of writes leaves, and how many calls a whole one and a failed one make.

-- an Ok takes a first part of the piece, and one that is not empty where the piece is not
abbrev pub TakesSome : {E : Type 0} → Result ℕ E → List ℕ → Type 0
TakesSome result piece = IfOk result (λ n. (n ≤ length piece) × (0 < length piece → 0 < n))

-- known bytes grow by a first part of these bytes, and not by all of them
abbrev pub AppendsPart : Option (List ℕ) → Option (List ℕ) → List ℕ → Type 0
AppendsPart old new bytes = (n : ℕ) × (n < length bytes) × Appends old new (take n bytes)

-- of a sink that takes as much of each piece as it can: how much that is, and how many calls were made
pub record Pace : Type 0 where
  pub per_write : ℕ
  pub calls : ℕ

-- one call more, which took as much as it could
abbrev pub KeepsPace : {E : Type 0} → Option Pace → Option Pace → Result ℕ E → List ℕ → Type 0
KeepsPace None new result piece = ⊤
KeepsPace (Some pace) new result piece =
    (new ≡ Some (record pace { calls = count_after pace.calls 1 })) × IfOk result (λ n. n ≡ min pace.per_write (length piece))

-- n pieces are enough for so many bytes, and fewer are not
pub record IsFewest (per_write size n : ℕ) : Type 0 where
  pub enough : size ≤ n * per_write
  pub fewer : (k : ℕ) → k < n → k * per_write < size

-- so many bytes were written by as few calls as can be
abbrev pub WritesByFewest : Option Pace → Option Pace → ℕ → Type 0
WritesByFewest None new size = ⊤
WritesByFewest (Some pace) new size =
    (n : ℕ) × IsFewest pace.per_write size n × (new ≡ Some (record pace { calls = calls_after pace.calls n }))

-- n calls took as much as they could, which is not all of these bytes yet, and one call more was made
pub record StopsAfter (pace : Pace) (new : Option Pace) (held held_new : Option (List ℕ)) (bytes : List ℕ) (n : ℕ) : Type 0 where
  pub some_each : 0 < n → 0 < pace.per_write
  pub not_all : n * pace.per_write < length bytes
  pub written : Appends held held_new (take (n * pace.per_write) bytes)
  pub counted : new ≡ Some (record pace { calls = calls_after pace.calls (suc n) })

-- a first part of these bytes was written by as few calls as can be, and one call more failed
abbrev pub StopsByFewest : Option Pace → Option Pace → Option (List ℕ) → Option (List ℕ) → List ℕ → Type 0
StopsByFewest None new held held_new bytes = ⊤
StopsByFewest (Some pace) new held held_new bytes = (n : ℕ) × StopsAfter pace new held held_new bytes n
