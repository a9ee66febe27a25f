-- What the number of a reply says.
use Rattle.std.proofs.Common.{◌≡◌, ◌≢◌, ◌≤◌, ◌⊎◌, ◌++◌, ◌∷◌, [], inl, inr, ℕ, refl, sym, ap, subst, arith, ◌∙◌}
use Rattle.lt_live.specs.declared.ends.Session.{Session}
use Rattle.lt_live.specs.declared.reply.Reply.{Reply}
use Rattle.lt_live.specs.declared.reply.Reply.TheVariants as replies
use Rattle.lt_live.specs.Words.{polled}
use Rattle.lt_live_c.specs.Calls.{number_of_reply, Polls, PollEnds, HasNoReply, TellsReply}

pub bounds : (reply : Reply) → (16 ≤ number_of_reply reply) × (number_of_reply reply ≤ 25)
bounds replies.Granted = (omega arith, omega arith)
bounds replies.True = (omega arith, omega arith)
bounds replies.False = (omega arith, omega arith)
bounds replies.Unlocked = (omega arith, omega arith)
bounds replies.NotHeld = (omega arith, omega arith)
bounds replies.Changed = (omega arith, omega arith)
bounds (replies.Dropped count) = (omega arith, omega arith)
bounds replies.Busy = (omega arith, omega arith)
bounds replies.Withdrawn = (omega arith, omega arith)
bounds replies.Withheld = (omega arith, omega arith)

pub nothing_so : (was count : ℕ) (s t : Session) → Polls 1 was count s t → HasNoReply 1 was count s t
nothing_so was count s t h = elim h.ends [
  | inl none ↦ none
  | inr some ↦ absurd (omega (arith, some.1.code_is, (bounds some.0).0))
]

-- a reply was told
reply_so : (code was count : ℕ) (s t : Session) → code ≢ 1 → PollEnds code was count s t
    → (reply : Reply) × TellsReply reply code was count s t
reply_so code was count s t other (inl none) = absurd (other none.code_is)
reply_so code was count s t other (inr some) = some

granted_reply : (reply : Reply) → 16 ≡ number_of_reply reply → reply ≡ replies.Granted
granted_reply replies.Granted e = refl
granted_reply replies.True e = absurd (omega (arith, e))
granted_reply replies.False e = absurd (omega (arith, e))
granted_reply replies.Unlocked e = absurd (omega (arith, e))
granted_reply replies.NotHeld e = absurd (omega (arith, e))
granted_reply replies.Changed e = absurd (omega (arith, e))
granted_reply (replies.Dropped count) e = absurd (omega (arith, e))
granted_reply replies.Busy e = absurd (omega (arith, e))
granted_reply replies.Withdrawn e = absurd (omega (arith, e))
granted_reply replies.Withheld e = absurd (omega (arith, e))

pub granted_so : (was count : ℕ) (s t : Session) → Polls 16 was count s t
    → TellsReply replies.Granted 16 was count s t
granted_so was count s t h =
    let some = reply_so 16 was count s t (λ e. omega (arith, e)) h.ends in
    subst (λ (reply : Reply). TellsReply reply 16 was count s t) (granted_reply some.0 some.1.code_is) some.1

dropped_of : (was count : ℕ) (s t : Session) (reply : Reply) → TellsReply reply 22 was count s t
    → polled t ≡ polled s ++ replies.Dropped count ∷ []
dropped_of was count s t replies.Granted h = absurd (omega (arith, h.code_is))
dropped_of was count s t replies.True h = absurd (omega (arith, h.code_is))
dropped_of was count s t replies.False h = absurd (omega (arith, h.code_is))
dropped_of was count s t replies.Unlocked h = absurd (omega (arith, h.code_is))
dropped_of was count s t replies.NotHeld h = absurd (omega (arith, h.code_is))
dropped_of was count s t replies.Changed h = absurd (omega (arith, h.code_is))
dropped_of was count s t (replies.Dropped n) h =
    h.polled ∙ ap (λ (k : ℕ). polled s ++ replies.Dropped k ∷ []) (sym h.tells)
dropped_of was count s t replies.Busy h = absurd (omega (arith, h.code_is))
dropped_of was count s t replies.Withdrawn h = absurd (omega (arith, h.code_is))
dropped_of was count s t replies.Withheld h = absurd (omega (arith, h.code_is))

pub dropped_so : (was count : ℕ) (s t : Session) → Polls 22 was count s t
    → polled t ≡ polled s ++ replies.Dropped count ∷ []
dropped_so was count s t h =
    let some = reply_so 22 was count s t (λ e. omega (arith, e)) h.ends in
    dropped_of was count s t some.0 some.1

-- the other replies that tell of a wait that was given up
pub withdrawn_of : (was count : ℕ) (s t : Session) (reply : Reply) → TellsReply reply 24 was count s t
    → polled t ≡ polled s ++ replies.Withdrawn ∷ []
withdrawn_of was count s t replies.Granted h = absurd (omega (arith, h.code_is))
withdrawn_of was count s t replies.True h = absurd (omega (arith, h.code_is))
withdrawn_of was count s t replies.False h = absurd (omega (arith, h.code_is))
withdrawn_of was count s t replies.Unlocked h = absurd (omega (arith, h.code_is))
withdrawn_of was count s t replies.NotHeld h = absurd (omega (arith, h.code_is))
withdrawn_of was count s t replies.Changed h = absurd (omega (arith, h.code_is))
withdrawn_of was count s t (replies.Dropped n) h = absurd (omega (arith, h.code_is))
withdrawn_of was count s t replies.Busy h = absurd (omega (arith, h.code_is))
withdrawn_of was count s t replies.Withdrawn h = h.polled
withdrawn_of was count s t replies.Withheld h = absurd (omega (arith, h.code_is))

pub withheld_of : (was count : ℕ) (s t : Session) (reply : Reply) → TellsReply reply 25 was count s t
    → polled t ≡ polled s ++ replies.Withheld ∷ []
withheld_of was count s t replies.Granted h = absurd (omega (arith, h.code_is))
withheld_of was count s t replies.True h = absurd (omega (arith, h.code_is))
withheld_of was count s t replies.False h = absurd (omega (arith, h.code_is))
withheld_of was count s t replies.Unlocked h = absurd (omega (arith, h.code_is))
withheld_of was count s t replies.NotHeld h = absurd (omega (arith, h.code_is))
withheld_of was count s t replies.Changed h = absurd (omega (arith, h.code_is))
withheld_of was count s t (replies.Dropped n) h = absurd (omega (arith, h.code_is))
withheld_of was count s t replies.Busy h = absurd (omega (arith, h.code_is))
withheld_of was count s t replies.Withdrawn h = absurd (omega (arith, h.code_is))
withheld_of was count s t replies.Withheld h = h.polled

-- the reply of this number
pub told_of : (code : ℕ) (reply : Reply)
    → ((was count : ℕ) (s t : Session) (other : Reply) → TellsReply other code was count s t
    → polled t ≡ polled s ++ reply ∷ [])
    → code ≢ 1 → (was count : ℕ) (s t : Session) → Polls code was count s t
    → polled t ≡ polled s ++ reply ∷ []
told_of code reply tells other was count s t h =
    let some = reply_so code was count s t other h.ends in
    tells was count s t some.0 some.1

pub poll_code : (code was count : ℕ) (s t : Session) → PollEnds code was count s t
    → (code ≡ 1) ⊎ ((16 ≤ code) × (code ≤ 25))
poll_code code was count s t (inl none) = inl none.code_is
poll_code code was count s t (inr some) =
    inr (subst (λ (n : ℕ). (16 ≤ n) × (n ≤ 25)) (sym some.1.code_is) (bounds some.0))
