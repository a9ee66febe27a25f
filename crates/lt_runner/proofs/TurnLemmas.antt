-- What a turn says after a look.
use Rattle.std.proofs.Common.{◌≡◌, ◌≢◌, ℕ, ◌+◌, ◌<◌, inl, inr, List, [], ◌∷◌, ◌++◌, Option, Some, None, Bool, true, false, length, refl, sym, ap, subst, arith, ◌∙◌, if◌then◌else◌, ◌⊎◌, append-nil, append_assoc, length-append}
use Rattle.std.proofs.lemmas.List.{length_push}
use mathlib.Core.List.{IsPrefix}
use Rattle.lt_modes.specs.Script.{ScriptData}
use Rattle.lt_modes.specs.State as rules
use Rattle.lt_desk.specs.LetterSeen.{letter_seen}
use Rattle.lt_spec.specs.World.{Logged}
use Rattle.lt_spec.specs.NodeMove.{NodeState}
use Rattle.lt_node.specs.NodeData.{state_of}
use Rattle.lt_mail.specs.Words.{outbox_letters, on_out, out_at, sent_to, given_to, waiting_to, IsFullTo, OutLane}
use Rattle.lt_runner.specs.declared.choice.Choice.{Choice}
use Rattle.lt_runner.specs.declared.choice.Choice.TheVariants.{Nothing, Act, Take}
use Rattle.lt_runner.specs.declared.turning.Found.TheVariants as found
use Rattle.lt_runner.specs.declared.turning.Worked.TheVariants as worked
use Rattle.lt_runner.specs.declared.turning.Turned.{Turned}
use Rattle.lt_runner.specs.declared.turning.Turned.TheVariants.{Moved, Quiet, Full, NoMemory}
use Rattle.lt_runner.specs.declared.parts.Hand.{Hand}
use Rattle.lt_runner.specs.declared.parts.Parts.{Parts}
use Rattle.lt_runner.specs.Kept.{HandStays, SameRunner, AsSeen, CouldMove, IsFlushed, HasPassedOn, KeepsRings, MovedOne, TurnEnds, Grew}
use Rattle.lt_runner.specs.Choices.{may_take, act_choice, choice_by, next_choice}
use Rattle.lt_runner.proofs.ChoiceLemmas.{act_takes_nothing}
use Rattle.lt_mail.proofs.LookLemmas.{ends_same}
use Rattle.lt_mail.proofs.RingLemmas.{given_all, given_stays, full_stays}
use Rattle.lt_runner.proofs.KeptLemmas.{same_join, seen_join, resting}

-- What is found or told is one thing alone.

pub full_found : found.Full ≢ found.Quiet
full_found same = absurd (cc)

pub move_found : (choice : Choice) → found.Move choice ≢ found.Quiet
move_found choice same = absurd (cc)

pub not_idle : worked.NoMemory ≢ worked.Idle
not_idle same = absurd (cc)

pub full_tells : Full ≢ Quiet
full_tells same = absurd (cc)

pub moved_tells : Moved ≢ Quiet
moved_tells same = absurd (cc)

pub no_memory_tells : NoMemory ≢ Quiet
no_memory_tells same = absurd (cc)

pub quiet_not_moved : Quiet ≢ Moved
quiet_not_moved same = absurd (cc)

pub full_not_moved : Full ≢ Moved
full_not_moved same = absurd (cc)

pub no_memory_not_moved : NoMemory ≢ Moved
no_memory_not_moved same = absurd (cc)

-- Turns one after the other.

pub same_later : (a b c : Parts) → AsSeen a b → SameRunner b c → SameRunner a c
same_later a b c h k = same_join a b c h.same k

pub turn_later : (r : Turned) (a b c : Parts) → AsSeen a b → TurnEnds r b c → TurnEnds r a c
turn_later Moved a b c h k = (
  (k.0.0, k.0.1 ∙ ap (λ (log : List Logged). log ++ k.0.0 ∷ []) h.log),
  omega (arith, k.1, ap (λ (log : List Logged). length log) h.log, h.same.limit),
)
turn_later Quiet a b c h k = (seen_join a b c h k.0, k.1)
turn_later Full a b c h k = (seen_join a b c h k.0, k.1)
turn_later NoMemory a b c h k = (seen_join a b c h k.0, k.1)

-- the choice is one of script, node and state
choice_as : (a b : Parts) (hand : Option Hand) → AsSeen a b
    → choice_by b.node.script b.node.me (state_of b.node) hand ≡ choice_by a.node.script a.node.me (state_of a.node) hand
choice_as a b hand h =
    ap (λ (script : ScriptData). choice_by script b.node.me (state_of b.node) hand) h.same.script
    ∙ (ap (λ (me : ℕ). choice_by a.node.script me (state_of b.node) hand) h.same.me
    ∙ ap (λ (n : NodeState). choice_by a.node.script a.node.me n hand) h.state)

-- with the same letter in hand
pub choice_stays : (a b : Parts) → AsSeen a b → b.hand ≡ a.hand → next_choice b ≡ next_choice a
choice_stays a b h same = ap (λ (o : Option Hand). choice_by b.node.script b.node.me (state_of b.node) o) same ∙ choice_as a b a.hand h

held_choice : (script : ScriptData) (me : ℕ) (n : NodeState) (x y : Hand) → HandStays (Some x) (Some y) → choice_by script me n (Some y) ≡ choice_by script me n (Some x)
held_choice script me n x y h = ap (λ (l : rules.Letter). if may_take script me n l then Take else act_choice script me n) h.1

-- what was there to be done is there to be done
pub choice_lasts : (a b : Parts) → AsSeen a b → next_choice a ≢ Nothing → next_choice b ≢ Nothing
choice_lasts a b h some none = by_hands a.hand b.hand h.hand some (sym (choice_as a b b.hand h) ∙ none)
  where
    by_may : (script : ScriptData) (me : ℕ) (n : NodeState) (t : Bool) → (if t then Take else act_choice script me n) ≡ Nothing → act_choice script me n ≡ Nothing
    by_may script me n true e = absurd (cc)
    by_may script me n false e = e

    by_hands : (x y : Option Hand) → HandStays x y → choice_by a.node.script a.node.me (state_of a.node) x ≢ Nothing
        → choice_by a.node.script a.node.me (state_of a.node) y ≢ Nothing
    by_hands None None holds some e = some e
    by_hands None (Some y) holds some e = some (by_may a.node.script a.node.me (state_of a.node) (may_take a.node.script a.node.me (state_of a.node) (letter_seen y.letter)) e)
    by_hands (Some x) None holds some e = absurd holds
    by_hands (Some x) (Some y) holds some e = some (sym (held_choice a.node.script a.node.me (state_of a.node) x y holds) ∙ e)

-- the letter that was there to be taken is there to be taken
pub take_lasts : (a b : Parts) → AsSeen a b → next_choice a ≡ Take → next_choice b ≡ Take
take_lasts a b h takes = choice_as a b b.hand h ∙ by_hands a.hand b.hand h.hand takes
  where
    by_hands : (x y : Option Hand) → HandStays x y → choice_by a.node.script a.node.me (state_of a.node) x ≡ Take
        → choice_by a.node.script a.node.me (state_of a.node) y ≡ Take
    by_hands None y holds e = absurd (act_takes_nothing a.node.script a.node.me (state_of a.node) e)
    by_hands (Some x) None holds e = absurd holds
    by_hands (Some x) (Some y) holds e = held_choice a.node.script a.node.me (state_of a.node) x y holds ∙ e

-- a move that is there to be made stays so
pub could_later : (a b : Parts) → AsSeen a b → length a.log.entries < a.limit → next_choice a ≢ Nothing → CouldMove b
could_later a b h place some = record {
  place = omega (arith, place, ap (λ (log : List Logged). length log) h.log, h.same.limit);
  choice = choice_lasts a b h some;
}

pub could_act : (a b : Parts) (client : ℕ) → AsSeen a b → length a.log.entries < a.limit → next_choice a ≡ Act client → CouldMove b
could_act a b client h place e = could_later a b h place (λ none. absurd (cc))

pub could_take : (a b : Parts) → AsSeen a b → length a.log.entries < a.limit → next_choice a ≡ Take → CouldMove b
could_take a b h place e = could_later a b h place (λ none. absurd (cc))

-- the same outboxes and rings are flushed
pub flushed_later : (a b : Parts) → ((node : ℕ) → out_at b.mail node ≡ out_at a.mail node) → IsFlushed a → IsFlushed b
flushed_later a b outs h node = by_end (h node)
  where
    by_end : (waiting_to a.mail node ≡ []) ⊎ IsFullTo a.mail node → (waiting_to b.mail node ≡ []) ⊎ IsFullTo b.mail node
    by_end (inl none) = inl (ap (λ (o : Option OutLane). on_out outbox_letters o) (outs node) ∙ none)
    by_end (inr full) = inr (full.0, outs node ∙ full.1, full.2)

-- What was flushed is passed on, and is so after letters are put into the outboxes.

pub passed_on : (a m b : Parts) → AsSeen a m → IsFlushed m → KeepsRings m b → HasPassedOn a b
passed_on a m b h flushed rings node = by_end (flushed node)
  where
    by_end : (waiting_to m.mail node ≡ []) ⊎ IsFullTo m.mail node → IsPrefix (sent_to a.mail node) (given_to b.mail node) ⊎ IsFullTo b.mail node
    by_end (inl none) = inl (
      [],
      append-nil (sent_to a.mail node)
          ∙ (sym (h.sent node) ∙ (given_all m.mail node none ∙ sym (given_stays m.mail b.mail node (rings node)))),
    )
    by_end (inr full) = inr (full_stays m.mail b.mail node (rings node) full)

pub rings_same : (a : Parts) → KeepsRings a a
rings_same a node = refl

-- what was sent before a look was sent after it
pub passed_later : (a m b : Parts) → AsSeen a m → HasPassedOn m b → HasPassedOn a b
passed_later a m b h passed node =
    subst (λ (letters : List rules.Letter). IsPrefix letters (given_to b.mail node) ⊎ IsFullTo b.mail node) (h.sent node) (passed node)

-- the log goes on where nothing happened
pub seen_grew : (a b c : Parts) → Grew a b → AsSeen b c → Grew a c
seen_grew a b c h k = record { same = same_join a b c h.same k.same; log = (h.log.0, h.log.1 ∙ sym k.log) }

-- the log goes on through a turn
pub turn_grew : (r : Turned) (a b c : Parts) → Grew a b → SameRunner b c → TurnEnds r b c → Grew a c
turn_grew Moved a b c h s k = record {
  same = same_join a b c h.same s;
  log = (h.log.0 ++ k.0.0 ∷ [], sym (append_assoc a.log.entries h.log.0 (k.0.0 ∷ [])) ∙ (ap (λ (log : List Logged). log ++ k.0.0 ∷ []) h.log.1 ∙ sym k.0.1));
}
turn_grew Quiet a b c h s k = record { same = same_join a b c h.same s; log = (h.log.0, h.log.1 ∙ sym k.0.log) }
turn_grew Full a b c h s k = record { same = same_join a b c h.same s; log = (h.log.0, h.log.1 ∙ sym k.0.log) }
turn_grew NoMemory a b c h s k = record { same = same_join a b c h.same s; log = (h.log.0, h.log.1 ∙ sym k.0.log) }

-- the log goes on twice
pub grew_join : (a b c : Parts) → Grew a b → Grew b c → Grew a c
grew_join a b c h k = record {
  same = same_join a b c h.same k.same;
  log = (h.log.0 ++ k.log.0, sym (append_assoc a.log.entries h.log.0 k.log.0) ∙ (ap (λ (log : List Logged). log ++ k.log.0) h.log.1 ∙ k.log.1));
}

-- after a move the log is longer
pub moved_more : (a b : Parts) → MovedOne a b → length a.log.entries < length b.log.entries
moved_more a b m = omega (arith, ap (λ (log : List Logged). length log) m.1, length_push a.log.entries m.0)

-- and it stays so, whatever follows
pub moved_longer : (a b c : Parts) → MovedOne a b → Grew b c → length a.log.entries < length c.log.entries
moved_longer a b c m k = omega (
  arith,
  moved_more a b m,
  ap (λ (log : List Logged). length log) k.log.1,
  length-append b.log.entries k.log.0,
)

-- a move after a look
pub later_moved : (a b c : Parts) → AsSeen a b → MovedOne b c → MovedOne a c
later_moved a b c h m = (m.0, m.1 ∙ ap (λ (log : List Logged). log ++ m.0 ∷ []) h.log)

pub later_grew : (a b c : Parts) → AsSeen a b → SameRunner b c → MovedOne b c → Grew a c
later_grew a b c h s m = record { same = same_join a b c h.same s; log = (m.0 ∷ [], sym (m.1 ∙ ap (λ (log : List Logged). log ++ m.0 ∷ []) h.log)) }

-- a client's command that is shown could be made
pub could_act_now : (a : Parts) (client : ℕ) → length a.log.entries < a.limit → next_choice a ≡ Act client → CouldMove a
could_act_now a client place e = record { place = place; choice = λ none. absurd (cc) }

pub same_self : (a : Parts) → SameRunner a a
same_self a = record { script = refl; me = refl; limit = refl; gone = refl; commands_gone = refl; ends = ends_same a.mail }

pub grew_self : (a : Parts) → Grew a a
grew_self a = record { same = same_self a; log = ([], append-nil a.log.entries) }

-- no client was found that can act
pub grew_resting : (a : Parts) → Grew a (resting a)
grew_resting a = record { same = record { script = refl; me = refl; limit = refl; gone = refl; commands_gone = refl; ends = ends_same a.mail }; log = ([], append-nil a.log.entries) }

-- a turn adds no more than one move
pub turn_left : (r : Turned) (a b : Parts) → SameRunner a b → TurnEnds r a b
    → (r ≡ Moved → (length b.log.entries ≡ length a.log.entries + 1) × (length a.log.entries < a.limit)) × (r ≡ Quiet → length b.log.entries ≡ length a.log.entries)
turn_left Moved a b s k =
    ((λ e. (ap (λ (log : List Logged). length log) k.0.1 ∙ length_push a.log.entries k.0.0, k.1)), (λ e. absurd (cc)))
turn_left Quiet a b s k = ((λ e. absurd (cc)), (λ e. ap (λ (log : List Logged). length log) k.0.log))
turn_left Full a b s k = ((λ e. absurd (cc)), (λ e. absurd (cc)))
turn_left NoMemory a b s k = ((λ e. absurd (cc)), (λ e. absurd (cc)))
