-- One step and the next.
use Rattle.std.proofs.Common.{◌≡◌, ℕ, ◌+◌, Bool, true, false, true≢false, rules, arith, inl, inr, slice_get, List, [], ◌∷◌, ◌++◌, length, Option, Some, None, refl, sym, ap, subst, ◌∙◌, is_some, append-nil, append_assoc, length-append}
use mathlib.Core.List.{IsPrefix}
use Rattle.lt_modes.specs.declared.command.Command.{Command}
use Rattle.lt_modes.specs.Script.{ScriptData}
use Rattle.lt_spec.specs.Script.{HasTargets, IsOfVersion}
use Rattle.lt_live.specs.declared.reply.Reply.{Reply}
use Rattle.lt_live.specs.declared.ends.Session.{Session}
use Rattle.lt_live.specs.Words.{submitted, polled, known_replies, command_held, SameSession}
use Rattle.lt_live.proofs.SeatLists.{pushed}
use Rattle.lt_live.proofs.Settling.{session_itself, same_sessions}
use Rattle.lt_live_callers.specs.declared.desk.Desk.{Desk}
use Rattle.lt_live_callers.specs.Desks.{reply_told, HearsAtDesk, SubmitsAtDesk, KnowsMore, StepOf, HearsInStep, Heard, Went, replies_in_steps, commands_in_steps, called_of, LastAnswers, AreSteps, DeskGoesOn, IsAsked}
use Rattle.lt_live_callers.specs.Refused.{NamesOwn, NamesAll, CanSubmit}
use Rattle.lt_live_callers.specs.Served.{CallsIn}

pub nothing : (o : Option Command) → false ≡ is_some o → o ≡ None
nothing None is = refl
nothing (Some command) is = search rules

pub heard_none : (old new : Session) → SameSession old new → polled new ≡ polled old → submitted new ≡ submitted old → known_replies old ≡ []
    → HearsAtDesk None old new
heard_none old new same p s none = record {
  same = same;
  polled = p ∙ sym (append-nil (polled old));
  submitted = s;
  known = subst (λ (list : List Reply). IsPrefix list (known_replies new)) (sym none) (known_replies new, refl);
  none = λ _. none;
}

pub heard_some : (reply : Reply) (old new : Session) → SameSession old new → polled new ≡ polled old ++ reply ∷ [] → submitted new ≡ submitted old
    → IsPrefix (known_replies old) (reply ∷ known_replies new) → HearsAtDesk (Some reply) old new
heard_some reply old new same p s known = record { same = same; polled = p; submitted = s; known = known; none = λ is. absurd (cc) }

-- What was submitted names what it may.

names_as : (a b : Session) (command : Command) → SameSession a b → NamesOwn a.script a.client command → NamesOwn b.script b.client command
names_as a b command same names =
    subst (λ (first : ScriptData). NamesOwn first b.client command) (sym same.script)
    (subst (λ (c : ℕ). NamesOwn a.script c command) (sym same.client) names)

pub names_same : (a b : Session) → SameSession a b → submitted b ≡ submitted a → NamesAll a → NamesAll b
names_same a b same none all k command here =
    names_as a b command same (all k command (ap (λ (list : List Command). slice_get list k) (sym none) ∙ here))

pub names_more : (a b : Session) (command : Command) → SameSession a b → submitted b ≡ submitted a ++ command ∷ []
    → HasTargets a.script.sets a.script.clients a.client command → IsOfVersion a.script.version command → NamesAll a → NamesAll b
names_more a b command same more targets modes all k other here =
    elim (pushed (submitted a) command k other (ap (λ (list : List Command). slice_get list k) (sym more) ∙ here)) [
      | inl old ↦ names_as a b other same (all k other old)
      | inr new ↦ names_as a b other same (subst (λ (c : Command). NamesOwn a.script a.client c) new.1 (record { targets = targets; modes = modes }))
    ]

-- What was known.

pub prefix_same : {X : Type 0} (xs ys : List X) → ys ≡ xs → IsPrefix xs ys
prefix_same xs ys same = ([], append-nil xs ∙ sym same)

pub prefix_join : {X : Type 0} (xs ys zs : List X) → IsPrefix xs ys → IsPrefix ys zs → IsPrefix xs zs
prefix_join xs ys zs h g = (h.0 ++ g.0, sym (append_assoc xs h.0 g.0) ∙ ap (λ list. list ++ g.0) h.1 ∙ g.1)

pub knows_same : (a b : Session) → b ≡ a → KnowsMore a b
knows_same a b same = subst (λ (s : Session). KnowsMore a s) (sym same)
    (record { same = session_itself a; polled = refl; known = prefix_same (known_replies a) (known_replies a) refl })

knows_join : (a b c : Session) → KnowsMore a b → KnowsMore b c → KnowsMore a c
knows_join a b c first second = record {
  same = same_sessions a b c first.same second.same;
  polled = second.polled ∙ first.polled;
  known = prefix_join (known_replies a) (known_replies b) (known_replies c) first.known second.known;
}

module _ {C : Type 0} where
  knows_then : (a b c : Session) (steps : List (StepOf C)) → KnowsMore a b → Heard b steps c → Heard a steps c
  knows_then a b c [] first second = knows_join a b c first second
  knows_then a b c (s ∷ rest) first second = (knows_join a b s.session first second.0, second.1, second.2)

  heard_on : (a b c : Session) (xs ys : List (StepOf C)) → Heard a xs b → Heard b ys c → Heard a (xs ++ ys) c
  heard_on a b c [] ys first second = knows_then a b c ys first second
  heard_on a b c (x ∷ xs) ys first second = (first.0, first.1, heard_on x.later b c xs ys first.2 second)

  -- the reply of one step, and then its command
  hears_one : (s : StepOf C) (mid : Session) (o : Option Command) → HearsAtDesk s.reply s.session mid → SubmitsAtDesk s.command o mid s.later → HearsInStep s
  hears_one s mid o hears submits = record {
    same = same_sessions s.session mid s.later hears.same submits.same;
    polled = submits.replies.0 ∙ hears.polled;
    known = subst (λ (list : List Reply). IsPrefix (known_replies s.session) (reply_told s.reply ++ list)) (sym submits.replies.1) hears.known;
    none = hears.none;
  }

-- How many steps were made.

module _ {C : Type 0} where
  -- none were made, and none was refused
  pub no_steps : (n : ℕ) (o : Option Command) (steps : List (StepOf C)) → o ≡ None → length steps ≡ n → AreSteps n o steps
  no_steps n None steps free none = none
  no_steps n (Some command) steps free none = absurd (cc (free))

  -- one was made, whose command was refused or not
  one_more : (s : StepOf C) (o : Option Command) → ((held : Command) → o ≡ Some held → s.command ≡ Some held) → AreSteps 1 o (s ∷ [])
  one_more s None back = refl
  one_more s (Some command) back = (omega arith, record { front = []; last = s; all = refl; answer = back command refl })

  last_later : (command : Command) (xs ys : List (StepOf C)) → LastAnswers command ys → LastAnswers command (xs ++ ys)
  last_later command xs ys h = record {
    front = xs ++ h.front;
    last = h.last;
    all = ap (λ (rest : List (StepOf C)). xs ++ rest) h.all ∙ sym (append_assoc xs h.front (h.last ∷ []));
    answer = h.answer;
  }

  -- so many, none of which was refused, and then so many more
  more_steps : (n m k : ℕ) (o : Option Command) (xs ys : List (StepOf C)) → k ≡ n + m → length xs ≡ n → AreSteps m o ys → AreSteps k o (xs ++ ys)
  more_steps n m k None xs ys sum first second = omega (arith, sum, first, second, length-append xs ys)
  more_steps n m k (Some command) xs ys sum first second =
      (omega (arith, sum, first, second.0, length-append xs ys), last_later command xs ys second.1)

  -- steps up to one whose command was refused, and then none
  then_none : (n m k : ℕ) (command : Command) (o : Option Command) (xs ys : List (StepOf C)) → k ≡ n + m → AreSteps n (Some command) xs → ys ≡ [] → o ≡ Some command
      → AreSteps k o (xs ++ ys)
  then_none n m k command o xs ys sum first none same =
      subst (λ (p : Option Command). AreSteps k p (xs ++ ys)) (sym same)
      (subst (λ (zs : List (StepOf C)). AreSteps k (Some command) zs) (sym (append-nil xs) ∙ ap (λ (rest : List (StepOf C)). xs ++ rest) (sym none))
      (omega (arith, sum, first.0), first.1))

  -- so many steps up to here, where a command may have been refused, and then so many more
  steps_join : (n m k : ℕ) (b c : Option Command) (xs ys : List (StepOf C)) → k ≡ n + m → AreSteps n b xs → (b ≡ None → AreSteps m c ys)
      → ((command : Command) → b ≡ Some command → (ys ≡ []) × (c ≡ Some command)) → AreSteps k c (xs ++ ys)
  steps_join n m k None c xs ys sum first free over = more_steps n m k c xs ys sum first (free refl)
  steps_join n m k (Some command) c xs ys sum first free over = then_none n m k command c xs ys sum first (over command refl).0 (over command refl).1

module _ {C : Type 0} (goes : C → Option Reply → Option Command → C → Type 0) where
  -- a caller that is only asked, or of which a command was refused before
  stays : (n : ℕ) (a b : Desk C) → b.caller ≡ a.caller → b.session ≡ a.session → b.refused ≡ a.refused → (a.refused ≡ None → n ≡ 0) → DeskGoesOn goes n a b
  stays n a b caller session refused none = record {
    same = subst (λ (s : Session). SameSession a.session s) (sym session) (session_itself a.session);
    steps = [];
    went = caller;
    told = ap polled session ∙ sym (append-nil (polled a.session));
    heard = knows_same a.session b.session session;
    asked = ap (λ (s : Session). submitted s ++ command_held b.refused) session
        ∙ ap (λ (o : Option Command). submitted a.session ++ command_held o) refused
        ∙ sym (append-nil (submitted a.session ++ command_held a.refused));
    many = λ free. no_steps n b.refused [] (refused ∙ free) (sym (none free));
    over = λ command was. (refl, refused ∙ was);
    barred = λ h back is can. h back (sym refused ∙ is) (subst (λ (s : Session). CanSubmit s back) session can);
    names = λ h. subst (λ (s : Session). NamesAll s) (sym session) h;
  }

  pub desk_itself : (a : Desk C) → DeskGoesOn goes 0 a a
  desk_itself a = stays 0 a a refl refl refl (λ free. refl)

  pub refused_stays : (a : Desk C) → is_some a.refused ≡ true → DeskGoesOn goes 1 a a
  refused_stays a some = stays 1 a a refl refl refl (λ none. absurd (true≢false (sym some ∙ ap is_some none)))

  pub asked_stays : (says : C → Bool → Type 0) (a b : Desk C) → IsAsked says a b → DeskGoesOn goes 0 a b
  asked_stays says a b h =
      stays 0 a b (ap (λ (d : Desk C). d.caller) h.same) (ap (λ (d : Desk C). d.session) h.same) (ap (λ (d : Desk C). d.refused) h.same) (λ free. refl)

  pub one_step : (a b : Desk C) (reply : Option Reply) (command : Option Command) (mid : Session) → a.refused ≡ None
      → HearsAtDesk reply a.session mid → goes a.caller reply command b.caller → SubmitsAtDesk command b.refused mid b.session → DeskGoesOn goes 1 a b
  one_step a b reply command mid free hears did submits =
      let the_step : StepOf C = record { session = a.session; reply = reply; command = command; after = b.caller; later = b.session } in record {
        same = same_sessions a.session mid b.session hears.same submits.same;
        steps = the_step ∷ [];
        went = (did, refl);
        heard = (knows_same a.session a.session refl, hears_one the_step mid b.refused hears submits, knows_same b.session b.session refl);
        told = submits.replies.0 ∙ hears.polled ∙ sym (ap (λ (rest : List Reply). polled a.session ++ rest) (append-nil (reply_told reply)));
        asked = submits.submitted ∙ ap (λ (xs : List Command). xs ++ command_held command) hears.submitted
            ∙ sym (ap (λ (xs : List Command). xs ++ command_held command)
            (ap (λ (o : Option Command). submitted a.session ++ command_held o) free ∙ append-nil (submitted a.session)))
            ∙ sym (ap (λ (rest : List Command). (submitted a.session ++ command_held a.refused) ++ rest) (append-nil (command_held command)));
        many = λ none. one_more {C = C} the_step b.refused submits.back;
        over = λ held was. absurd (cc (free, was));
        barred = λ _. submits.barred;
        names = λ all. submits.names (names_same a.session mid hears.same hears.submitted all);
      }

  went_on : (a b c : C) (xs ys : List (StepOf C)) → Went goes a xs b → Went goes b ys c → Went goes a (xs ++ ys) c
  went_on a b c [] ys first second = subst (λ (x : C). Went goes x ys c) first second
  went_on a b c (x ∷ xs) ys first second = (first.0, went_on x.after b c xs ys first.1 second)

  replies_append : (xs ys : List (StepOf C)) → replies_in_steps (xs ++ ys) ≡ replies_in_steps xs ++ replies_in_steps ys
  replies_append [] ys = refl
  replies_append (x ∷ xs) ys = ap (λ (rest : List Reply). reply_told x.reply ++ rest) (replies_append xs ys) ∙ sym (append_assoc (reply_told x.reply) (replies_in_steps xs) (replies_in_steps ys))

  commands_append : (xs ys : List (StepOf C)) → commands_in_steps (xs ++ ys) ≡ commands_in_steps xs ++ commands_in_steps ys
  commands_append [] ys = refl
  commands_append (x ∷ xs) ys = ap (λ (rest : List Command). command_held x.command ++ rest) (commands_append xs ys) ∙ sym (append_assoc (command_held x.command) (commands_in_steps xs) (commands_in_steps ys))

  pub desk_join : (n m k : ℕ) (a b c : Desk C) → k ≡ n + m → DeskGoesOn goes n a b → DeskGoesOn goes m b c → DeskGoesOn goes k a c
  desk_join n m k a b c sum first second = record {
    same = same_sessions a.session b.session c.session first.same second.same;
    steps = first.steps ++ second.steps;
    went = went_on a.caller b.caller c.caller first.steps second.steps first.went second.went;
    told = second.told ∙ ap (λ (xs : List Reply). xs ++ replies_in_steps second.steps) first.told
        ∙ append_assoc (polled a.session) (replies_in_steps first.steps) (replies_in_steps second.steps)
        ∙ sym (ap (λ (rest : List Reply). polled a.session ++ rest) (replies_append first.steps second.steps));
    heard = heard_on a.session b.session c.session first.steps second.steps first.heard second.heard;
    asked = second.asked ∙ ap (λ (xs : List Command). xs ++ commands_in_steps second.steps) first.asked
        ∙ append_assoc (submitted a.session ++ command_held a.refused) (commands_in_steps first.steps) (commands_in_steps second.steps)
        ∙ sym (ap (λ (rest : List Command). (submitted a.session ++ command_held a.refused) ++ rest) (commands_append first.steps second.steps));
    many = λ free. steps_join n m k b.refused c.refused first.steps second.steps sum (first.many free) second.many second.over;
    over = λ command was.
        let before = first.over command was in
        let after = second.over command before.1 in
        (ap (λ (xs : List (StepOf C)). xs ++ second.steps) before.0 ∙ after.0, after.1);
    barred = λ h. second.barred (first.barred h);
    names = λ h. second.names (first.names h);
  }

  -- who called went on calling
  pub calls_go_on : (n m k : ℕ) (a : Option C) (b c : Desk C) → k ≡ n + m → CallsIn goes n a b.session (Some (called_of b)) → DeskGoesOn goes m b c
      → CallsIn goes k a c.session (Some (called_of c))
  calls_go_on n m k None b c sum first second = absurd first.0
  calls_go_on n m k (Some a) b c sum (calls, steps) second = (
    record {
      steps = calls.steps ++ second.steps;
      went = went_on a b.caller c.caller calls.steps second.steps calls.went second.went;
      first = calls.first;
      fresh = calls.fresh;
      heard = heard_on calls.first b.session c.session calls.steps second.steps calls.heard second.heard;
      told = second.told ∙ ap (λ (xs : List Reply). xs ++ replies_in_steps second.steps) calls.told ∙ sym (replies_append calls.steps second.steps);
      asked = second.asked ∙ ap (λ (xs : List Command). xs ++ commands_in_steps second.steps) calls.asked ∙ sym (commands_append calls.steps second.steps);
    },
    steps_join n m k b.refused c.refused calls.steps second.steps sum steps second.many second.over,
  )
