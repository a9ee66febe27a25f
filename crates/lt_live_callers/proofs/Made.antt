-- Desks are made, and what callers made at them.
use Rattle.std.proofs.Common.{◌≡◌, ℕ, zero, suc, Bool, List, [], ◌∷◌, ◌++◌, ◌<◌, ◌≤◌, length, map, Option, Some, None, refl, sym, ap, subst, ◌∙◌, rules, arith, slice_get, slice_index_or, remove, option_map, append-nil}
use Rattle.std.proofs.lemmas.Option.{same_Some, slice_get-map}
use Rattle.lt_modes.specs.declared.command.Command.{Command}
use Rattle.lt_modes.specs.Script.{ScriptData}
use Rattle.lt_spec.specs.NodeMove.{home}
use Rattle.lt_live.specs.declared.reply.Reply.{Reply}
use Rattle.lt_live.specs.declared.ends.Seat.{Seat}
use Rattle.lt_live.specs.declared.ends.Session.{Session}
use Rattle.lt_live.specs.Words.{submitted, outbox_replies, command_held, places}
use Rattle.lt_live.specs.Stations.{StationData, IsOpen, equal_share}
use Rattle.lt_live.specs.Live.{AreLive, IsSessionOf, OpenedAreLive}
use Rattle.lt_live.proofs.SeatLists.{none_here}
use Rattle.lt_live_callers.specs.declared.desk.Desk.{Desk}
use Rattle.lt_live_callers.specs.declared.served.Called.{Called}
use Rattle.lt_live_callers.specs.declared.served.Served.{Served}
use Rattle.lt_live_callers.specs.Refused.{NamesOwn, CanSubmit, MayCommand}
use Rattle.lt_live_callers.specs.Desks.{caller_of, called_of, session_of, StationsGoOn}
use Rattle.lt_live_callers.specs.Over.{MadeRounds}
use Rattle.lt_live_callers.specs.Served.{CallsIn, NoneRefused, AreDesks, AreServing, AreEnded, IsServedBy, IsServedIn, WereOpened, CallersAreServed}
use Rattle.lt_live_callers.proofs.Steps.{no_steps, knows_same}
use Rattle.lt_live_callers.proofs.Taken.{have_made}

-- of a session whose ring has a place for each command of its share, a command that has no room might not be submitted
barred : (script : ScriptData) (stations : List StationData) (client : ℕ) (s : Session) → IsSessionOf script stations client s → s.share ≡ equal_share script → s.share ≤ places s
    → (command : Command) → ¬ CanSubmit s command → ¬ MayCommand script client s command
barred script stations client s is share roomy command none may =
    let left : length (submitted s) < s.share = omega (arith, may.left, share) in
    none (record {
      left = left;
      place = omega (arith, left, roomy);
      names = subst (λ (first : ScriptData). NamesOwn first s.client command) (sym is.script_is)
          (subst (λ (c : ℕ). NamesOwn script c command) (sym is.client_is) may.names);
    })

module _ {C : Type 0} where
  no_more : (xs : List C) → length xs ≡ 0 → xs ≡ []
  no_more [] none = refl
  no_more (x ∷ xs) none = absurd (omega (arith, none))

  pub are_desks : (callers rest : List C) (sessions left : List Session) (desks : List (Desk C)) → left ≡ [] → length rest ≡ length left
      → map caller_of desks ++ rest ≡ callers → map session_of desks ++ left ≡ sessions → NoneRefused desks → AreDesks callers sessions desks
  are_desks callers rest sessions left desks empty same first second free = record {
    seated = sym (append-nil (map caller_of desks)) ∙ ap (λ (xs : List C). map caller_of desks ++ xs) (sym (no_more rest (same ∙ ap length empty))) ∙ first;
    given = sym (append-nil (map session_of desks)) ∙ ap (λ (xs : List Session). map session_of desks ++ xs) (sym empty) ∙ second;
    free = free;
  }

  pub one_more : (desks : List (Desk C)) (d : Desk C) → d.refused ≡ None → NoneRefused desks → NoneRefused (desks ++ d ∷ [])
  one_more [] d free all = (free, tt)
  one_more (x ∷ xs) d free all = (all.0, one_more xs d free all.1)

  free_at : (desks : List (Desk C)) (k : ℕ) (d : Desk C) → slice_get desks k ≡ Some d → NoneRefused desks → d.refused ≡ None
  free_at [] k d at all = search rules
  free_at (x ∷ xs) zero d at all = search (rules, at, all)
  free_at (x ∷ xs) (suc k) d at all = free_at xs k d at all.1

  -- the session of a desk is the one at its place
  session_there : (callers : List C) (sessions : List Session) (desks : List (Desk C)) (client : ℕ) (d : Desk C) → AreDesks callers sessions desks
      → slice_get desks client ≡ Some d → slice_get sessions client ≡ Some d.session
  session_there callers sessions desks client d are here =
      sym (ap (λ (xs : List Session). slice_get xs client) are.given) ∙ slice_get-map session_of desks client ∙ ap (option_map session_of) here

  -- nobody has called yet
  pub begun : (goes : C → Option Reply → Option Command → C → Type 0) → OpenedAreLive → (script : ScriptData) (limit capacity : ℕ) (stations : List StationData)
      (sessions : List Session) (callers : List C) (desks : List (Desk C)) → script.commands ≡ [] → IsOpen script limit capacity (equal_share script) stations sessions
      → equal_share script ≤ capacity → AreDesks callers sessions desks
      → AreServing goes 0 script limit callers stations desks
  begun goes opened_live script limit capacity stations sessions callers desks empty opened room are = record {
    limits = opened.runners.limits;
    all = opened.runners.have_all;
    live = subst (λ (all : List Session). AreLive script stations all) (sym are.given) (opened_live script limit capacity (equal_share script) stations sessions empty opened);
    each = λ client d here.
        let new = (opened.each client d.session (session_there callers sessions desks client d are here)).0 in
        subst (λ (o : Option C). CallsIn goes 0 o d.session (Some (called_of d)))
        (sym (slice_get-map caller_of desks client ∙ ap (option_map caller_of) here) ∙ ap (λ (xs : List C). slice_get xs client) are.seated) (
          record {
            steps = [];
            went = refl;
            told = new.replies.0;
            first = d.session;
            fresh = new.replies;
            heard = knows_same d.session d.session refl;
            asked = ap (λ (o : Option Command). submitted d.session ++ command_held o) (free_at desks client d here are.free) ∙ append-nil (submitted d.session) ∙ new.commands;
          },
          no_steps 0 d.refused [] (free_at desks client d here are.free) refl,
        );
    shares = λ client d here. (opened.each client d.session (session_there callers sessions desks client d are here)).0.share.0;
    roomy = λ client d here.
        let there = session_there callers sessions desks client d are here in
        let new = (opened.each client d.session there).0 in
        omega (arith, new.share.0, new.places, room);
    barred = λ client d here back is.
        let none = free_at desks client d here are.free in
        absurd (cc);
    names = λ client d here k command at.
        let new = (opened.each client d.session (session_there callers sessions desks client d are here)).0 in
        none_here k command (ap (λ (list : List Command). slice_get list k) (sym new.commands) ∙ at);
    hears = λ client d here station there seat at.
        let both = opened.each client d.session (session_there callers sessions desks client d are here) in
        let is : both.1.station ≡ station = same_Some both.1.station station
        (sym both.1.here ∙ ap (λ (c : ℕ). slice_get stations (home script c)) both.0.client_is ∙ there) in
        let same : both.1.seated.seat ≡ seat = same_Some both.1.seated.seat seat
        (sym both.1.seated.here ∙ ap (λ (x : StationData). slice_get x.seats d.session.place) is ∙ at) in
        subst (λ (x : Seat). outbox_replies x ≡ []) same both.1.waits;
  }

  module _ (goes : C → Option Reply → Option Command → C → Type 0) (n : ℕ) (script : ScriptData) (limit : ℕ) (callers : List C) (stations : List StationData)
      (desks : List (Desk C)) (served : Served C) (serving : AreServing goes n script limit callers stations desks)
      (ended : AreEnded script limit stations desks served) where
    called_there : (client : ℕ) → slice_get served.callers.items client ≡ option_map called_of (slice_get desks client)
    called_there client = sym (ap (λ (xs : List (Called C)). slice_get xs client) ended.callers) ∙ slice_get-map called_of desks client

    calls_there : (client : ℕ) (s : Session) (o : Option (Desk C)) → slice_get desks client ≡ o → option_map session_of o ≡ Some s
        → CallsIn goes n (slice_get callers client) s (option_map called_of o)
    calls_there client s None e is = absurd (cc)
    calls_there client s (Some d) e is =
        subst (λ (t : Session). CallsIn goes n (slice_get callers client) t (Some (called_of d))) (same_Some d.session s is) (serving.each client d e)

    refused_there : (client : ℕ) (s : Session) (called : Called C) (o : Option (Desk C)) → slice_get desks client ≡ o → option_map session_of o ≡ Some s
        → option_map called_of o ≡ Some called → (command : Command) → called.refused ≡ Some command → ¬ MayCommand script client s command
    refused_there client s called None e is was = absurd (cc)
    refused_there client s called (Some d) e is was =
        let session = serving.live.each client d.session (slice_get-map session_of desks client ∙ ap (option_map session_of) e) in
        subst (λ (b : Called C). (command : Command) → b.refused ≡ Some command → ¬ MayCommand script client s command) (same_Some (called_of d) called was)
        (subst (λ (t : Session). (command : Command) → d.refused ≡ Some command → ¬ MayCommand script client t command) (same_Some d.session s is)
        (λ command back. barred script stations client d.session session (serving.shares client d e) (serving.roomy client d e) command (serving.barred client d e command back)))

    calls_so : (client : ℕ) (s : Session) → slice_get (map session_of desks) client ≡ Some s
        → CallsIn goes n (slice_get callers client) s (slice_get served.callers.items client)
    calls_so client s here =
        subst (λ (o : Option (Called C)). CallsIn goes n (slice_get callers client) s o) (sym (called_there client))
        (calls_there client s (slice_get desks client) refl (sym (slice_get-map session_of desks client) ∙ here))

    -- what the desks did, as what their callers did
    abbrev served_by : IsServedBy goes script callers served
    served_by = record {
      sessions = map session_of desks;
      count = serving.live.count;
      serves = ended.serves;
      few_commands = ended.few_commands;
      all = ended.all;
      ends = ended.ends;
      each = λ client s here. (calls_so client s here).0;
      refused = λ client s called here there.
          refused_there client s called (slice_get desks client) refl (sym (slice_get-map session_of desks client) ∙ here) (sym (called_there client) ∙ there);
    }

    pub served_in : IsServedIn goes n script callers served
    served_in = record { by_callers = served_by; steps = λ client s here. (calls_so client s here).1 }

  -- from the stations that were opened to the end, after so many rounds
  pub are_served : (goes : C → Option Reply → Option Command → C → Type 0) (says : C → Bool → Type 0) (times : ℕ → ℕ) (rounds made : ℕ) (script : ScriptData) (limit : ℕ)
      (callers : List C) (opened stations : List StationData) (desks : List (Desk C)) (served : Served C)
      → WereOpened script limit opened → StationsGoOn (times made) opened stations → AreServing goes (times made) script limit callers stations desks
      → MadeRounds says rounds made (map called_of desks) → AreEnded script limit stations desks served → served.rounds ≡ made
      → CallersAreServed goes says rounds (times served.rounds) limit script callers served
  are_served goes says times rounds made script limit callers opened stations desks served fresh turns serving worked ended same =
      subst (λ (k : ℕ). CallersAreServed goes says rounds (times k) limit script callers served) (sym same)
      (record {
        called = served_in goes (times made) script limit callers stations desks served serving ended;
        worked = subst (λ (k : ℕ). MadeRounds says rounds k served.callers.items) (sym same)
            (subst (λ (xs : List (Called C)). MadeRounds says rounds made xs) ended.callers worked);
        turned = record { opened = opened; turned = stations; fresh = fresh; passed = turns; made = have_made stations served.script served.run.entries ended.made; whole = ended.made };
        within = ended.within;
        far = ended.far;
      })

-- the first of those that are left was taken
module _ {X Y : Type 0} (f : Y → X) where
  after_one : (ys : List Y) (y : Y) (rest : List X) → map f (ys ++ y ∷ []) ++ rest ≡ map f ys ++ (f y ∷ rest)
  after_one [] y rest = refl
  after_one (z ∷ ys) y rest = ap (λ (xs : List X). f z ∷ xs) (after_one ys y rest)

  pub took_one : (ys zs : List Y) (y : Y) (rest left all : List X) → zs ≡ ys ++ y ∷ [] → f y ≡ slice_index_or rest 0 (f y) → left ≡ remove rest 0
      → 0 < length rest → map f ys ++ rest ≡ all → map f zs ++ left ≡ all
  took_one ys zs y [] left all more first less some before = absurd (omega (arith, some))
  took_one ys zs y (x ∷ xs) left all more first less some before =
      ap (λ (ds : List Y). map f ds ++ left) more ∙ ap (λ (ls : List X). map f (ys ++ y ∷ []) ++ ls) less ∙ after_one ys y xs
      ∙ ap (λ (z : X). map f ys ++ (z ∷ xs)) first ∙ before
