-- What C is told of a command that is served in one call, and handles that stand for nothing.
use Rattle.std.proofs.Common.{◌≡◌, ◌≢◌, ◌≤◌, ◌⊎◌, ◌++◌, ◌∷◌, [], ℕ, zero, suc, List, Option, Some, None, inl, inr, refl, sym, ap, arith, ◌∙◌}
use Rattle.lt_modes.specs.declared.command.Command.{Command}
use Rattle.lt_runner.specs.declared.turning.Turned.TheVariants as turns
use Rattle.lt_live.specs.declared.ends.Session.{Session}
use Rattle.lt_live.specs.declared.obeying.Obeyed.{Obeyed}
use Rattle.lt_live.specs.declared.obeying.Obeyed.TheVariants.{Refused, Told, Waits, Full, NoMemory}
use Rattle.lt_live.specs.declared.reply.Reply.{Reply}
use Rattle.lt_live.specs.Obeying.{Obeys, IsObeyed, MakesMoves}
use Rattle.lt_live.specs.Stations.{StationData}
use Rattle.lt_live.specs.Words.{submitted, polled, known_replies}
use Rattle.lt_live_c.specs.Calls.{number_of_reply}
use Rattle.lt_live_c.specs.Doing.{number_of_obeyed, WasGiven, WasNotGiven}
use Rattle.lt_live_c.proofs.RepliesOpened.{bounds}
use Rattle.lt_live_c.specs.DoingTold.{DoingTold, AfterDoing, MadeTurns}

told_or_waits : (reply : Reply) → Told reply ≡ Waits → ⊥
told_or_waits reply e = cc

-- What follows where the station was given the command.
module _ (command : Command) (s t : Session) (a b : StationData) where
  told_next : (reply : Reply) → IsObeyed (Told reply) command s t a b → polled t ≡ polled s ++ reply ∷ []
  told_next reply h = elim h.turns [
    | inl ends ↦ ends.last.stops ∙ ap (λ (xs : List Reply). xs ++ reply ∷ []) h.submits.polled
    | inr out ↦ absurd (told_or_waits reply out.waits)
  ]

  reply_told : (obeyed : Obeyed) (code : ℕ) → 16 ≤ code → code ≡ number_of_obeyed obeyed → Obeys obeyed command s t a b
      → (reply : Reply) × (code ≡ number_of_reply reply) × (polled t ≡ polled s ++ reply ∷ [])
  reply_told Refused code many is h = absurd (omega (arith, many, is))
  reply_told (Told reply) code many is h = (reply, is, told_next reply h)
  reply_told Waits code many is h = absurd (omega (arith, many, is))
  reply_told Full code many is h = absurd (omega (arith, many, is))
  reply_told NoMemory code many is h = absurd (omega (arith, many, is))

  obeyed_submits : (obeyed : Obeyed) → IsObeyed obeyed command s t a b → submitted t ≡ submitted s ++ command ∷ []
  obeyed_submits obeyed h = elim h.turns [
    | inl ends ↦ ends.last.keeps.submitted ∙ h.submits.submitted
    | inr out ↦ out.keeps.submitted ∙ h.submits.submitted
  ]

  given_submits : (obeyed : Obeyed) (code : ℕ) → code ≢ 7 → code ≡ number_of_obeyed obeyed → Obeys obeyed command s t a b
      → submitted t ≡ submitted s ++ command ∷ []
  given_submits Refused code other is h = absurd (other is)
  given_submits (Told reply) code other is h = obeyed_submits (Told reply) h
  given_submits Waits code other is h = obeyed_submits Waits h
  given_submits Full code other is h = obeyed_submits Full h
  given_submits NoMemory code other is h = obeyed_submits NoMemory h

  waits_alone : IsObeyed Waits command s t a b → (polled t ≡ polled s) × (known_replies t ≡ [])
  waits_alone h = elim h.turns [
    | inl ends ↦ (ends.last.stops.0.polled ∙ h.submits.polled, ends.last.stops.0.none)
    | inr out ↦ (out.polls.polled ∙ h.submits.polled, out.polls.none)
  ]

  none_known : (obeyed : Obeyed) → 1 ≡ number_of_obeyed obeyed → Obeys obeyed command s t a b
      → (polled t ≡ polled s) × (known_replies t ≡ [])
  none_known Refused is h = absurd (omega (arith, is))
  none_known (Told reply) is h = absurd (omega (arith, is, (bounds reply).0))
  none_known Waits is h = waits_alone h
  none_known Full is h = absurd (omega (arith, is))
  none_known NoMemory is h = absurd (omega (arith, is))

  turned_away : (obeyed : Obeyed) (code : ℕ) → (code ≡ 4) ⊎ ((code ≡ 6) ⊎ (code ≡ 7)) → code ≡ number_of_obeyed obeyed
      → Obeys obeyed command s t a b → (submitted t ≡ submitted s) × ((polled t ≡ polled s) × (b ≡ a))
  turned_away Refused code one is h = (h.keeps.submitted, (h.polled, h.station))
  turned_away (Told reply) code one is h = absurd (elim one [
    | inl e ↦ omega (arith, e, is, (bounds reply).0)
    | inr (inl e) ↦ omega (arith, e, is, (bounds reply).0)
    | inr (inr e) ↦ omega (arith, e, is, (bounds reply).0)
  ])
  turned_away Waits code one is h = absurd (elim one [
    | inl e ↦ omega (arith, e, is)
    | inr (inl e) ↦ omega (arith, e, is)
    | inr (inr e) ↦ omega (arith, e, is)
  ])
  turned_away Full code one is h = absurd (elim one [
    | inl e ↦ omega (arith, e, is)
    | inr (inl e) ↦ omega (arith, e, is)
    | inr (inr e) ↦ omega (arith, e, is)
  ])
  turned_away NoMemory code one is h = absurd (elim one [
    | inl e ↦ omega (arith, e, is)
    | inr (inl e) ↦ omega (arith, e, is)
    | inr (inr e) ↦ omega (arith, e, is)
  ])

made : (n : ℕ) (a b : StationData) → MakesMoves n a b → MadeTurns n a b
made zero a b h = h
made (suc n) a c h = (h.0, made n a h.0 h.1, (turns.Moved, h.2))

few_of : (obeyed : Obeyed) (command : Command) (s t : Session) (a b : StationData) → IsObeyed obeyed command s t a b
    → (n : ℕ) × (n ≤ 64) × MadeTurns n a b
few_of obeyed command s t a b h = elim h.turns [
  | inl ends ↦ (
    suc ends.before,
    omega (arith, ends.few),
    (ends.b, made ends.before a ends.b ends.moves, (ends.last.turned, ends.last.turn)),
  )
  | inr out ↦ (out.count, omega (arith, out.all), made out.count a b out.moves)
]

few_made : (obeyed : Obeyed) (command : Command) (s t : Session) (a b : StationData) → Obeys obeyed command s t a b
    → (n : ℕ) × (n ≤ 64) × MadeTurns n a b
few_made Refused command s t a b h = (0, omega arith, h.station)
few_made (Told reply) command s t a b h = few_of (Told reply) command s t a b h
few_made Waits command s t a b h = few_of Waits command s t a b h
few_made Full command s t a b h = few_of Full command s t a b h
few_made NoMemory command s t a b h = few_of NoMemory command s t a b h

-- what follows of a call, of what was given and of what was not
doing : (code : ℕ) (Says : Option Command → StationData → StationData → Session → Session → Type 0)
    → ((given : Command) (was count : ℕ) (a b : StationData) (s t : Session) → WasGiven code given was count a b s t
    → Says (Some given) a b s t)
    → ((command : Option Command) (was count : ℕ) (a b : StationData) (s t : Session)
    → WasNotGiven code command was count a b s t → Says command a b s t) → AfterDoing code Says
doing code Says given none None was count sent told a b s t h = elim h.ends [
  | inl never ↦ absurd never
  | inr not ↦ none None was count a b s t not
]
doing code Says given none (Some command) was count sent told a b s t h = elim h.ends [
  | inl is ↦ given command was count a b s t is
  | inr not ↦ none (Some command) was count a b s t not
]

pub doing_told : DoingTold
doing_told = record {
  refused = refl;
  granted = refl;
  waits = refl;
  full = refl;
  no_memory = refl;
  dropped = refl;
  count_stays = refl;
  next_reply = λ code many. doing code _
      (λ given was count a b s t h. reply_told given s t a b h.obeyed code many h.code_is h.obeys)
      (λ command was count a b s t h. absurd (elim h.why.only [ inl e ↦ omega (arith, e, many) | inr e ↦ omega (arith, e, many) ]));
  was_submitted = λ code unnamed spent full. doing code _
      (λ given was count a b s t h. given_submits given s t a b h.obeyed code full h.code_is h.obeys)
      (λ command was count a b s t h. absurd (elim h.why.only [ inl e ↦ unnamed e | inr e ↦ spent e ]));
  no_reply = doing 1 _
      (λ given was count a b s t h. none_known given s t a b h.obeyed h.code_is h.obeys)
      (λ command was count a b s t h. absurd (elim h.why.only [ inl e ↦ omega (arith, e) | inr e ↦ omega (arith, e) ]));
  not_submitted = λ code one. doing code _
      (λ given was count a b s t h. turned_away given s t a b h.obeyed code one h.code_is h.obeys)
      (λ command was count a b s t h. (
        ap (λ (x : Session). submitted x) h.stays.1.0,
        (ap (λ (x : Session). polled x) h.stays.1.0, h.stays.0),
      ));
  few_turns = λ code. doing code _
      (λ given was count a b s t h. few_made h.obeyed given s t a b h.obeys)
      (λ command was count a b s t h. (0, omega arith, h.stays.0));
  bad_mode = λ code s h. h.barred tt;
  bad_set = λ code s few h. h.barred (λ may. omega (arith, may.0, few));
  no_station = λ code was count sent told command b c d h. h;
  no_session = λ code was count sent told command a b d h. h;
}
