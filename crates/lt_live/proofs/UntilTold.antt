-- Turns that are made for a command.
use Rattle.std.proofs.Common.{◌≡◌, ◌≢◌, ◌<◌, ◌≤◌, ◌+◌, ◌++◌, ◌∷◌, ◌∙◌, [], ℕ, suc, inl, inr, refl, sym, ap, subst, arith, rules, List}
use Rattle.lt_modes.specs.declared.command.Command.{Command}
use Rattle.lt_runner.specs.declared.turning.Turned.TheVariants as turns
use Rattle.lt_live.specs.declared.ends.Session.{Session}
use Rattle.lt_live.specs.declared.reply.Reply.{Reply}
use Rattle.lt_live.specs.declared.obeying.Obeyed.{Obeyed}
use Rattle.lt_live.specs.declared.obeying.Obeyed.TheVariants.{Refused, Told, Waits, Full, NoMemory}
use Rattle.lt_live.specs.declared.obeying.TheConstants.{MOST_TURNS}
use Rattle.lt_live.specs.Obeying.{MakesTurn, MakesMoves, KeepsCommands, PollsNone, StopsBy, StopsTurning, GoesOnTurning, EndsInTurn, RunsOut, ObeyTurns, IsGivenCommand, IsObeyed, Obeys}
use Rattle.lt_live.specs.Stations.{StationData}
use Rattle.lt_live.specs.Words.{SameSession, submitted, polled, known_replies}

pub keeps_none : (s : Session) → KeepsCommands s s
keeps_none s = record { submitted = refl; left = refl }

pub keeps_join : (s t u : Session) → KeepsCommands s t → KeepsCommands t u → KeepsCommands s u
keeps_join s t u h k = record { submitted = k.submitted ∙ h.submitted; left = k.left ∙ h.left }

-- one more turn that made a move
pub moves_more : (n : ℕ) (a b c : StationData) → MakesMoves n a b → MakesTurn turns.Moved b c → MakesMoves (n + 1) a c
moves_more n a b c h turn =
    let next : suc n ≡ n + 1 = omega arith in
    subst (λ (k : ℕ). MakesMoves k a c) next (b, h, turn)

none_from : (s m t : Session) → polled m ≡ polled s → PollsNone m t → PollsNone s t
none_from s m t same h = record { polled = h.polled ∙ same; none = h.none }

stops_from : (obeyed : Obeyed) (turned : _) (s m t : Session) → polled m ≡ polled s → StopsBy obeyed turned m t → StopsBy obeyed turned s t
stops_from Refused turned s m t same h = h
stops_from (Told reply) turned s m t same h = h ∙ ap (λ (replies : List Reply). replies ++ reply ∷ []) same
stops_from Waits turned s m t same h = (none_from s m t same h.0, h.1)
stops_from Full turned s m t same h = (none_from s m t same h.0, h.1)
stops_from NoMemory turned s m t same h = (none_from s m t same h.0, h.1)

-- the last turn
pub ends_in_turn : (n : ℕ) (obeyed : Obeyed) (s m t : Session) (a b c : StationData) → n < MOST_TURNS → MakesMoves n a b → KeepsCommands s m → polled m ≡ polled s
    → StopsTurning obeyed m t b c → ObeyTurns obeyed s t a c
ends_in_turn n obeyed s m t a b c few moves keeps same h = inl (record {
  before = n;
  few = few;
  b = b;
  moves = moves;
  last = record {
    keeps = keeps_join s m t keeps h.keeps;
    turned = h.turned;
    turn = h.turn;
    stops = stops_from obeyed h.turned s m t same h.stops;
  };
})

-- there were as many turns as there may be
pub runs_out : (n : ℕ) (s t : Session) (a c : StationData) → n ≡ MOST_TURNS → MakesMoves n a c → KeepsCommands s t → polled t ≡ polled s → known_replies t ≡ []
    → ObeyTurns Waits s t a c
runs_out n s t a c all moves keeps same none = inr (record {
  waits = refl;
  keeps = keeps;
  count = n;
  all = all;
  moves = moves;
  polls = record { polled = same; none = none };
})

pub not_refused : (obeyed : Obeyed) (s t : Session) (a c : StationData) → ObeyTurns obeyed s t a c → obeyed ≢ Refused
not_refused Refused s t a c (inl h) is = h.last.stops
not_refused Refused s t a c (inr h) is = let waits = h.waits in absurd (cc)
not_refused (Told reply) s t a c h is = absurd (cc)
not_refused Waits s t a c h is = absurd (cc)
not_refused Full s t a c h is = absurd (cc)
not_refused NoMemory s t a c h is = absurd (cc)

pub obeys_turns : (obeyed : Obeyed) (command : Command) (s t u : Session) (a c : StationData) → IsGivenCommand command s t → ObeyTurns obeyed t u a c
    → Obeys obeyed command s u a c
obeys_turns Refused command s t u a c submits h = absurd (not_refused Refused t u a c h refl)
obeys_turns (Told reply) command s t u a c submits h = record { t = t; submits = submits; turns = h }
obeys_turns Waits command s t u a c submits h = record { t = t; submits = submits; turns = h }
obeys_turns Full command s t u a c submits h = record { t = t; submits = submits; turns = h }
obeys_turns NoMemory command s t u a c submits h = record { t = t; submits = submits; turns = h }

-- A session that stays the same.

pub same_itself : (s : Session) → SameSession s s
same_itself s = record { script = refl; client = refl; place = refl; share = refl; commands = search rules; replies = search rules }

pub same_session_join : (s t u : Session) → SameSession s t → SameSession t u → SameSession s u
same_session_join s t u h k = record {
  script = k.script ∙ h.script;
  client = k.client ∙ h.client;
  place = k.place ∙ h.place;
  share = k.share ∙ h.share;
  commands = search rules;
  replies = search rules;
}
