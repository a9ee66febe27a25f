-- What the answer of a program that takes no words says of the words, the source and the sink, whatever they were.
use Rattle.std.specs.Prelude.{◌≡◌, ◌≢◌, ◌<◌, ◌≤◌, ◌+◌, ◌-◌, ◌^◌, ◌⊎◌, ℕ, List, Option, Some, min, length}
use Rattle.lt_io.specs.Streams.{SourceState}
use Rattle.lt_call.specs.declared.outcome.Outcome.{Outcome}
use Rattle.lt_call.specs.declared.outcome.Outcome.TheVariants.{Done, Usage, Refused, TooLong, ReadFault, WriteFault, NoMemory, BadJournal, Share, Stuck, Cut}

-- so a count of 64 bits stands that rose by n
abbrev pub raised : ℕ → ℕ → ℕ
raised before n = min (before + n) (2 ^ 64 - 1)

-- the program answered after it read to the end of its input
abbrev pub ReadAll : Outcome → Type 0
ReadAll end =
    (end ≡ Done)
    ⊎ ((end ≡ Stuck)
    ⊎ ((end ≡ Cut) ⊎ ((end ≡ WriteFault) ⊎ ((end ≡ Refused) ⊎ ((end ≡ BadJournal) ⊎ (end ≡ Share))))))

-- it wrote nothing
abbrev pub WroteNothing : Outcome → Type 0
WroteNothing end =
    (end ≡ Usage)
    ⊎ ((end ≡ Refused)
    ⊎ ((end ≡ BadJournal) ⊎ ((end ≡ Share) ⊎ ((end ≡ TooLong) ⊎ ((end ≡ ReadFault) ⊎ (end ≡ NoMemory))))))

module _ {A S K : Type 0} (outcome : A → Outcome) (serves : ℕ → A → S → S → K → K → Type 0) (limit : ℕ)
    (state : S → SourceState) (faults : K → ℕ) where
  -- a fact of how many words there were, of the answer, and of the source and the sink before and after it
  abbrev pub OfCalls : (ℕ → Outcome → S → S → K → K → Type 0) → Type 0
  OfCalls fact =
      (words : ℕ) (answer : A) (s t : S) (k l : K) → serves words answer s t k l → fact words (outcome answer) s t k l

  pub record CallSays : Type 0 where
    -- with words nothing is read and nothing is done, and this is so with words alone
    pub words : OfCalls (λ words end s t k l. 0 < words → end ≡ Usage)
    pub no_words : OfCalls (λ words end s t k l. words ≡ 0 → end ≢ Usage)
    pub unread : OfCalls (λ words end s t k l. end ≡ Usage → t ≡ s)
    pub unwritten : OfCalls (λ words end s t k l. WroteNothing end → l ≡ k)
    -- what is counted
    pub too_long : OfCalls (λ words end s t k l. end ≡ TooLong → (state t).given ≡ raised (state s).given (limit + 1))
    pub had_more : OfCalls (λ words end s t k l. (bytes : List ℕ) → end ≡ TooLong → (state s).left ≡ Some bytes
        → limit < length bytes)
    pub not_too_long : OfCalls (λ words end s t k l. end ≢ TooLong → end ≢ Usage
        → (state t).given ≤ (state s).given + limit)
    pub read_fault : OfCalls (λ words end s t k l. end ≡ ReadFault → (state t).faults ≡ raised (state s).faults 1)
    pub no_read_fault : OfCalls (λ words end s t k l. end ≢ ReadFault → end ≢ Usage
        → (state t).faults ≡ (state s).faults)
    pub whole : OfCalls (λ words end s t k l. ReadAll end → (state t).ends ≡ raised (state s).ends 1)
    pub write_fault : OfCalls (λ words end s t k l. end ≡ WriteFault → faults l ≡ raised (faults k) 1)
    pub no_write_fault : OfCalls (λ words end s t k l. end ≢ WriteFault → faults l ≡ faults k)

-- nothing failed: the source gave no more than so many bytes, no read and no write failed, and no count was at its end
pub record IsSmooth (limit : ℕ) (before after : SourceState) (writes writes_after : ℕ) : Type 0 where
  pub given : after.given ≤ before.given + limit
  pub room : before.given + limit + 1 < 2 ^ 64
  pub read : (after.faults ≡ before.faults) × (before.faults + 1 < 2 ^ 64)
  pub written : (writes_after ≡ writes) × (writes + 1 < 2 ^ 64)
