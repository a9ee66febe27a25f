-- A lock that a client holds still was given by a reply, and none of its later commands may take it.
use Rattle.std.proofs.Common.{◌≡◌, ◌⊎◌, ◌<◌, ℕ, zero, suc, List, [], ◌∷◌, Bool, true, false, Option, Some, None, refl, sym, ap, ◌∙◌, arith, slice_get, inl, inr, ◌&&◌, ◌||◌, not}
use Rattle.std.proofs.lemmas.Bool.{false≢true}
use Rattle.std.proofs.lemmas.Option.{same_Some}
use Rattle.lt_modes.specs.declared.command.Command.{Command}
use Rattle.lt_modes.specs.Script.{ScriptData}
use Rattle.lt_spec.specs.Holdings.{Holding}
use Rattle.lt_live.specs.declared.reply.Reply.{Reply}
use Rattle.lt_law_sessions.specs.SessionLaws.{may_take_away, took_away, gives, has_after}

-- by the reply that the command has, if it has one, it may have taken the lock
abbrev pub taken_by : ScriptData → ℕ → Holding → Command → Option Reply → Bool
taken_by script client lock command None = may_take_away script client lock command
taken_by script client lock command (Some reply) = took_away script client lock command reply

-- the reply at this place gave the lock, and no later command may have taken it
pub record GivenAt (script : ScriptData) (client : ℕ) (lock : Holding) (commands : List Command) (replies : List Reply) : Type 0 where
  pub place : ℕ
  pub command : Command
  pub reply : Reply
  pub asked : slice_get commands place ≡ Some command
  pub told : slice_get replies place ≡ Some reply
  pub given : gives client lock command reply ≡ true
  pub later : (k : ℕ) (c : Command) → place < k → slice_get commands k ≡ Some c → taken_by script client lock c (slice_get replies k) ≡ false

module _ (script : ScriptData) (client : ℕ) (lock : Holding) where
  -- none of these commands, with these replies to the first of them, may have taken the lock
  abbrev NoneTakes : List Command → List Reply → Type 0
  NoneTakes commands replies = (k : ℕ) (c : Command) → slice_get commands k ≡ Some c → taken_by script client lock c (slice_get replies k) ≡ false

  -- it was had before, and none takes it, or it was given among these
  abbrev Had : List Command → List Reply → Bool → Type 0
  Had commands replies has = ((has ≡ true) × NoneTakes commands replies) ⊎ GivenAt script client lock commands replies

  both : (x y : Bool) → (x && not y) ≡ true → (x ≡ true) × (y ≡ false)
  both true true e = absurd (false≢true e)
  both true false e = (refl, refl)
  both false y e = absurd (false≢true e)

  one_of : (x y : Bool) → (x || y) ≡ true → (x ≡ true) ⊎ (y ≡ true)
  one_of true y e = inl refl
  one_of false y e = inr e

  nothing_said : (k : ℕ) → ◌≡◌ {A = Option Reply} (slice_get [] k) None
  nothing_said zero = refl
  nothing_said (suc k) = refl

  none_more : (c : Command) (cs : List Command) (r : Reply) (rs : List Reply) → took_away script client lock c r ≡ false → NoneTakes cs rs
      → NoneTakes (c ∷ cs) (r ∷ rs)
  none_more c cs r rs first rest zero d at = ap (λ (x : Command). took_away script client lock x r) (sym (same_Some c d at)) ∙ first
  none_more c cs r rs first rest (suc k) d at = rest k d at

  none_more_made : (c : Command) (cs : List Command) → may_take_away script client lock c ≡ false → NoneTakes cs [] → NoneTakes (c ∷ cs) []
  none_more_made c cs first rest zero d at = ap (may_take_away script client lock) (sym (same_Some c d at)) ∙ first
  none_more_made c cs first rest (suc k) d at = ap (taken_by script client lock d) (sym (nothing_said k)) ∙ rest k d at

  still_had : (c : Command) (cs : List Command) (r : Reply) (rs : List Reply) (has : Bool) → (has && not (took_away script client lock c r)) ≡ true → NoneTakes cs rs
      → (has ≡ true) × NoneTakes (c ∷ cs) (r ∷ rs)
  still_had c cs r rs has e rest = let (had, kept) = both has (took_away script client lock c r) e in (had, none_more c cs r rs kept rest)

  still_had_made : (c : Command) (cs : List Command) (has : Bool) → (has && not (may_take_away script client lock c)) ≡ true → NoneTakes cs []
      → (has ≡ true) × NoneTakes (c ∷ cs) []
  still_had_made c cs has e rest = let (had, kept) = both has (may_take_away script client lock c) e in (had, none_more_made c cs kept rest)

  later_shifted : (c : Command) (cs : List Command) (r : Reply) (rs : List Reply) (place : ℕ)
      → ((k : ℕ) (d : Command) → place < k → slice_get cs k ≡ Some d → taken_by script client lock d (slice_get rs k) ≡ false)
      → (k : ℕ) (d : Command) → suc place < k → slice_get (c ∷ cs) k ≡ Some d → taken_by script client lock d (slice_get (r ∷ rs) k) ≡ false
  later_shifted c cs r rs place h zero d past at = absurd (omega (arith, past))
  later_shifted c cs r rs place h (suc k) d past at = h k d (omega (arith, past)) at

  later_first : (c : Command) (cs : List Command) (r : Reply) (rs : List Reply) → NoneTakes cs rs
      → (k : ℕ) (d : Command) → 0 < k → slice_get (c ∷ cs) k ≡ Some d → taken_by script client lock d (slice_get (r ∷ rs) k) ≡ false
  later_first c cs r rs h zero d past at = absurd (omega (arith, past))
  later_first c cs r rs h (suc k) d past at = h k d at

  shifted : (c : Command) (cs : List Command) (r : Reply) (rs : List Reply) → GivenAt script client lock cs rs → GivenAt script client lock (c ∷ cs) (r ∷ rs)
  shifted c cs r rs g = record {
    place = suc g.place;
    command = g.command;
    reply = g.reply;
    asked = g.asked;
    told = g.told;
    given = g.given;
    later = later_shifted c cs r rs g.place g.later;
  }

  no_reply : (place : ℕ) (reply : Reply) → slice_get [] place ≡ Some reply → ⊥
  no_reply zero reply at = absurd (cc)
  no_reply (suc place) reply at = absurd (cc)

  had : (commands : List Command) (replies : List Reply) (has : Bool) → has_after script client lock commands replies has ≡ true → Had commands replies has
  had [] replies has e = inl (e, λ k c at. absurd (no_command k c at))
    where
      no_command : (k : ℕ) (c : Command) → slice_get [] k ≡ Some c → ⊥
      no_command zero c at = absurd (cc)
      no_command (suc k) c at = absurd (cc)
  had (c ∷ cs) [] has e = elim (had cs [] (has && not (may_take_away script client lock c)) e) [
    | inl rest ↦ inl (still_had_made c cs has rest.0 rest.1)
    | inr g ↦ absurd (no_reply g.place g.reply g.told)
  ]
  had (c ∷ cs) (r ∷ rs) has e = elim (had cs rs (gives client lock c r || (has && not (took_away script client lock c r))) e) [
    | inl rest ↦ elim (one_of (gives client lock c r) (has && not (took_away script client lock c r)) rest.0) [
      | inl now ↦ inr (record { place = 0; command = c; reply = r; asked = refl; told = refl; given = now; later = later_first c cs r rs rest.1 })
      | inr before ↦ inl (still_had c cs r rs has before rest.1)
    ]
    | inr g ↦ inr (shifted c cs r rs g)
  ]

  pub given_at : (commands : List Command) (replies : List Reply) → has_after script client lock commands replies false ≡ true
      → GivenAt script client lock commands replies
  given_at commands replies e = elim (had commands replies false e) [
    | inl before ↦ absurd (false≢true before.0)
    | inr g ↦ g
  ]
