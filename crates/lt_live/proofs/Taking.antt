-- What a seat takes, and what it knows.
use Rattle.std.proofs.Common.{◌≡◌, ◌++◌, List, [], ◌∷◌, length, Option, Some, None, refl, sym, ap, arith, ◌∙◌, inl, inr, append_assoc, append-nil}
use Rattle.std.proofs.lemmas.List.{append_cancel_left}
use mathlib.Core.List.{IsPrefix}
use Rattle.lt_modes.specs.declared.command.Command.{Command}
use Rattle.lt_live.specs.declared.ends.Seat.{Seat}
use Rattle.lt_live.specs.declared.reply.Reply.{Reply}
use Rattle.lt_live.specs.Words.{taken, known_commands, taken_or_known, command_held}
use Rattle.lt_live.specs.Stations.{HandMayGo}
use Rattle.lt_live.specs.InHand.{TurnsKeepKnown, TurnTakesNext}

prefix_join : {X : Type 0} (xs ys zs : List X) → IsPrefix xs ys → IsPrefix ys zs → IsPrefix xs zs
prefix_join {X = X} xs ys zs h k = (h.0 ++ k.0, sym (append_assoc xs h.0 k.0) ∙ ap (λ (list : List X). list ++ k.0) h.1 ∙ k.1)

-- a command was taken
pub known_popped : (a b : Seat) (command : Command) → taken b ≡ taken a ++ command ∷ [] → IsPrefix (known_commands a) (command ∷ known_commands b)
    → IsPrefix (taken_or_known a) (taken_or_known b)
known_popped a b command took known = (
  known.0,
  append_assoc (taken a) (known_commands a) known.0
      ∙ ap (λ (list : List Command). taken a ++ list) known.1
      ∙ sym (append_assoc (taken a) (command ∷ []) (known_commands b))
      ∙ ap (λ (list : List Command). list ++ known_commands b) (sym took),
)

-- none was
pub known_stays : (a b : Seat) → taken b ≡ taken a → known_commands b ≡ known_commands a → IsPrefix (taken_or_known a) (taken_or_known b)
known_stays a b took known = (
  [],
  append-nil (taken_or_known a)
      ∙ ap (λ (list : List Command). list ++ known_commands a) (sym took)
      ∙ ap (λ (list : List Command). taken b ++ list) (sym known),
)

-- Turns.

gone_taken : (s t : Seat) → HandMayGo s t → (taken t ≡ taken s) × (known_commands t ≡ known_commands s)
gone_taken s t (inl gone) = (ap taken gone, ap known_commands gone)
gone_taken s t (inr still) = (ap taken still, ap known_commands still)

pub turns_keep_known : TurnsKeepKnown
turns_keep_known log s t turn =
    let gone = gone_taken turn.held turn.left turn.hand in
    let rest = turn.tells.on.rest in
    prefix_join (taken_or_known s) (taken_or_known turn.held) (taken_or_known t) turn.takes.known
    (known_stays turn.held t (rest.taken ∙ gone.0) (rest.known ∙ gone.1))

-- the first of what comes after the same list
first_after : (xs rest more : List Command) (x y : Command) → IsPrefix (xs ++ x ∷ rest) ((xs ++ y ∷ []) ++ more) → (y ≡ x) × IsPrefix rest more
first_after xs rest more x y h = same_first
    (append_cancel_left xs (x ∷ (rest ++ h.0)) (y ∷ more) (sym (append_assoc xs (x ∷ rest) h.0) ∙ h.1 ∙ append_assoc xs (y ∷ []) more))
  where
    same_first : x ∷ (rest ++ h.0) ≡ y ∷ more → (y ≡ x) × IsPrefix rest more
    same_first e = (cc, (h.0, cc))

pub turn_takes_next : TurnTakesNext
turn_takes_next log s t command rest turn no_hand empty known = by_hand turn.held.hand refl
  where
    took : taken turn.held ≡ taken s ++ command_held turn.held.hand
    took = turn.takes.taken (taken s) (sym (append-nil (taken s)) ∙ ap (λ (hand : Option Command). taken s ++ command_held hand) (sym no_hand))

    gone : (taken turn.left ≡ taken turn.held) × (known_commands turn.left ≡ known_commands turn.held)
    gone = gone_taken turn.held turn.left turn.hand

    by_hand : (hand : Option Command) → turn.held.hand ≡ hand → (taken t ≡ taken s ++ command ∷ []) × IsPrefix rest (known_commands t)
    by_hand None e = elim (turn.takes.none no_hand e) [
      | inl none ↦ absurd (omega (arith, ap (λ (list : List Command). length list) (sym known ∙ none)))
      | inr some ↦ absurd (omega (arith, some, ap (λ (replies : List Reply). length replies) empty))
    ]
    by_hand (Some x) e =
        let now : taken turn.held ≡ taken s ++ x ∷ [] = took ∙ ap (λ (hand : Option Command). taken s ++ command_held hand) e in
        let h : IsPrefix (taken s ++ command ∷ rest) ((taken s ++ x ∷ []) ++ known_commands turn.held) = (
          turn.takes.known.0,
          ap (λ (list : List Command). (taken s ++ list) ++ turn.takes.known.0) (sym known)
              ∙ turn.takes.known.1
              ∙ ap (λ (list : List Command). list ++ known_commands turn.held) now,
        ) in
        let both = first_after (taken s) rest (known_commands turn.held) command x h in
        let after = turn.tells.on.rest in (
          after.taken ∙ gone.0 ∙ now ∙ ap (λ (c : Command). taken s ++ c ∷ []) both.0,
          (both.1.0, both.1.1 ∙ sym (after.known ∙ gone.1)),
        )
