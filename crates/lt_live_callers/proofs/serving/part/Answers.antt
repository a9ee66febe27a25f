-- One desk more.
use Rattle.std.proofs.Common.{◌≡◌, ◌++◌, ◌∷◌, [], List, ap, map, sym, ◌∙◌}
use Rattle.std.proofs.lemmas.List.{map-append}
use Rattle.lt_live_callers.specs.Desks.{called_of, session_of}
use Rattle.lt_live_callers.proofs.serving.part.Goals as goal

one_mapped : {X Y : Type 0} (f : X → Y) (xs : List X) (x : X) (ys zs : List Y) → ys ≡ map f xs → zs ≡ ys ++ f x ∷ [] → zs ≡ map f (xs ++ x ∷ [])
one_mapped {Y = Y} f xs x ys zs before more = more ∙ ap (λ (front : List Y). front ++ f x ∷ []) before ∙ sym (map-append f xs (x ∷ []))

pub loop-desk-preserved : goal.loop-desk-preserved
loop-desk-preserved g c = record {
  callers = one_mapped called_of c.loop-desk.yielded c.in-Some.desk c.loop-desk.callers.items c.push-in-loop-desk.new.self.items c.loop-desk.invariant.callers
      c.in_ok-push-2.ensures.items;
  sessions = one_mapped session_of c.loop-desk.yielded c.in-Some.desk c.loop-desk.sessions.items c.push.new.self.items c.loop-desk.invariant.sessions
      c.in_ok-push.ensures.items;
}
