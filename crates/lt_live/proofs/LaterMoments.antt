-- What holds from one moment to a later one.
use Rattle.std.proofs.Common.{◌≡◌, ◌≢◌, List, [], ◌∷◌, ◌++◌, refl, sym, ap, ◌∙◌, inl, inr, append_assoc}
use mathlib.Core.List.{IsPrefix}
use Rattle.lt_modes.specs.declared.command.Command.{Command}
use Rattle.lt_spec.specs.NodeMove.{commands_of}
use Rattle.lt_spec.specs.Holdings.{lines_of}
use Rattle.lt_live.specs.declared.ends.Session.{Session}
use Rattle.lt_live.specs.Seats.{replies_in}
use Rattle.lt_live.specs.Words.{submitted, polled}
use Rattle.lt_live.specs.Served.{SaysMore, OneGoesOn, ServedGoesOn, MomentsFollow}
use Rattle.lt_live.proofs.SeatLists.{alike_join, alike_after}
use Rattle.lt_live.proofs.Settling.{same_sessions}
use Rattle.lt_live.proofs.Telling.{polled_in_turn}

-- two first parts of one list
comparable : (xs ys zs : List Command) → IsPrefix xs zs → IsPrefix ys zs → OneGoesOn xs ys
comparable [] ys zs h k = inl (ys, refl)
comparable (x ∷ xs) [] zs h k = inr (x ∷ xs, refl)
comparable (x ∷ xs) (y ∷ ys) [] h k = absurd (none (xs ++ h.0) h.1)
  where
    none : (rest : List Command) → x ∷ rest ≢ []
    none rest e = cc
comparable (x ∷ xs) (y ∷ ys) (z ∷ zs) h k = longer (comparable xs ys zs (h.0, tails h.1) (k.0, tails k.1))
  where
    tails : {a b : Command} {us vs : List Command} → a ∷ us ≡ b ∷ vs → us ≡ vs
    tails e = cc

    heads : {a b : Command} {us vs : List Command} → a ∷ us ≡ b ∷ vs → a ≡ b
    heads e = cc

    first : x ≡ y
    first = heads h.1 ∙ sym (heads k.1)

    longer : OneGoesOn xs ys → OneGoesOn (x ∷ xs) (y ∷ ys)
    longer (inl on) = inl (on.0, ap (λ (c : Command). c ∷ (xs ++ on.0)) first ∙ ap (λ (list : List Command). y ∷ list) on.1)
    longer (inr on) = inr (on.0, ap (λ (c : Command). c ∷ (ys ++ on.0)) (sym first) ∙ ap (λ (list : List Command). x ∷ list) on.1)

prefix_join : {X : Type 0} (xs ys zs : List X) → IsPrefix xs ys → IsPrefix ys zs → IsPrefix xs zs
prefix_join {X = X} xs ys zs h k = (h.0 ++ k.0, sym (append_assoc xs h.0 k.0) ∙ ap (λ (list : List X). list ++ k.0) h.1 ∙ k.1)

more_join : (a b c : Session) → SaysMore a b → SaysMore b c → SaysMore a c
more_join a b c h k = record {
  same = same_sessions a b c h.same k.same;
  submitted = prefix_join (submitted a) (submitted b) (submitted c) h.submitted k.submitted;
  polled = prefix_join (polled a) (polled b) (polled c) h.polled k.polled;
}

pub moments_follow : MomentsFollow
moments_follow one two three h k = alike_join SaysMore more_join one two three h k

pub served_goes_on : ServedGoesOn
served_goes_on first script sessions after run now more later client s e =
    let found = alike_after SaysMore sessions after more client s e in
    let t = found.0 in
    let says : SaysMore s t = found.2 in
    let at = later.each client t found.1 in
    record {
      commands = comparable (commands_of script client) (submitted s) (submitted t) at.commands says.submitted;
      replies = prefix_join (polled s) (polled t) (replies_in client (lines_of run)) says.polled at.replies;
      answers = polled_in_turn first now.0 sessions now.1 now.2 client s e;
    }
