-- Turns that the caller makes: one runner's, and what it does among all.
use Rattle.std.proofs.Common.{◌≡◌, ◌≢◌, ℕ, zero, suc, ◌-◌, ◌<◌, ◌≤◌, inl, inr, List, [], ◌∷◌, ◌++◌, length, Option, Some, refl, sym, ap, subst, arith, ◌∙◌, ◌⊎◌, ◌+◌, None, true, false, slice_get, slice_set, slice_index_or, true≢false, append-nil, append_assoc, length-append}
use Rattle.std.proofs.lemmas.Bool.{cases_eq, cases_lt}
use Rattle.std.proofs.lemmas.List.{length_push}
use Rattle.std.proofs.lemmas.List.Sums.{sum_by-cons}
use Rattle.std.proofs.lemmas.Option.{slice_get_within}
use Rattle.lt_modes.specs.Script.{ScriptData}
use Rattle.lt_lists.proofs.Members.{some_equal}
use Rattle.lt_spec.specs.World.{Logged, World, world_after, can_move}
use Rattle.lt_mail.specs.Words.{Alike}
use Rattle.lt_runner.specs.declared.parts.Parts.{Parts}
use Rattle.lt_runner.specs.declared.choice.Choice.TheVariants as choices
use Rattle.lt_runner.specs.Choices.{next_choice}
use Rattle.lt_runner.specs.Kept.{RunnerInvariant, SameRunner, AsSeen, MovedOne, Grew, TurnEnds, is_move}
use Rattle.lt_runner.specs.declared.turning.Turned.{Turned}
use Rattle.lt_runner.specs.declared.turning.Turned.TheVariants.{Moved, Quiet, Full, NoMemory}
use Rattle.lt_runner.proofs.KeptLemmas.{same_join, seen_join}
use Rattle.lt_runner.proofs.TurnLemmas.{choice_lasts}
use Rattle.lt_threads.specs.Meeting.{EachIs, room_of, IsCrew, SomeCouldMove, crew_world}
use Rattle.lt_threads.specs.Pushes.{PushedEnds, OnePushed, PushedAt, CanPush, PushedOn, PushEnds}
use Rattle.lt_threads.proofs.Each.{same_self, each_self, each_weaker, set_here, set_other, seen_self, each_join, each_before}
use Rattle.lt_threads.specs.declared.rounds.Ended.{Ended}
use Rattle.lt_threads.specs.declared.rounds.Ended.TheVariants as ended
use Rattle.lt_threads.proofs.Logs.{crew_last, SameLog, same_run}

pub seen_grew : (a b : Parts) → AsSeen a b → Grew a b
seen_grew a b h = record { same = h.same; log = ([], append-nil a.log.entries ∙ sym h.log) }

grew_self : (a : Parts) → Grew a a
grew_self a = record { same = same_self a; log = ([], append-nil a.log.entries) }

pub grew_join : (a b c : Parts) → Grew a b → Grew b c → Grew a c
grew_join a b c h k = record {
  same = same_join a b c h.same k.same;
  log = (h.log.0 ++ k.log.0, sym (append_assoc a.log.entries h.log.0 k.log.0) ∙ (ap (λ (log : List Logged). log ++ k.log.0) h.log.1 ∙ k.log.1));
}

-- one move more
pub moved_grew : (a b c : Parts) → Grew a b → SameRunner b c → MovedOne b c → Grew a c
moved_grew a b c h s k = record {
  same = same_join a b c h.same s;
  log = (h.log.0 ++ k.0 ∷ [], sym (append_assoc a.log.entries h.log.0 (k.0 ∷ [])) ∙ (ap (λ (log : List Logged). log ++ k.0 ∷ []) h.log.1 ∙ sym k.1));
}

longer : (a b : Parts) → Grew a b → length a.log.entries ≤ length b.log.entries
longer a b h = omega (arith, ap (λ (log : List Logged). length log) h.log.1, length-append a.log.entries h.log.0)

-- one turn

turn_ends : (turned : Turned) (a b : Parts) → TurnEnds turned a b → PushedEnds turned a b
turn_ends Moved a b h = omega (arith, ap (λ (log : List Logged). length log) h.0.1, length_push a.log.entries h.0.0)
turn_ends Quiet a b h = h.0
turn_ends Full a b h = (h.0, h.1.log)
turn_ends NoMemory a b h = h

pub one_pushed : (turned : Turned) (a b : Parts) → Grew a b → RunnerInvariant b → TurnEnds turned a b → (next_choice a ≢ choices.Nothing → turned ≢ Quiet)
    → OnePushed turned a b
one_pushed turned a b grew kept ends shown = record { grew = grew; ends = turn_ends turned a b ends; bounded = kept.bounded; shown = shown }

-- how many moves are left, place by place

pub each_longer : (xs ys : List Parts) → EachIs Grew xs ys → room_of ys ≤ room_of xs
each_longer [] [] h = omega arith
each_longer [] (y ∷ ys) h = absurd (h 0)
each_longer (x ∷ xs) [] h = absurd (h 0)
each_longer (x ∷ xs) (y ∷ ys) h =
    let first : Grew x y = h 0 in
    let rest = each_longer xs ys (λ k. h (suc k)) in
    omega (
      arith,
      sum_by-cons (λ (p : Parts). p.limit - length p.log.entries) x xs,
      sum_by-cons (λ (p : Parts). p.limit - length p.log.entries) y ys,
      rest,
      longer x y first,
      first.same.limit,
    )

each_less : (xs ys : List Parts) → EachIs Grew xs ys → (k : ℕ) (a b : Parts) → slice_get xs k ≡ Some a → slice_get ys k ≡ Some b
    → length a.log.entries < length b.log.entries → length b.log.entries ≤ b.limit → room_of ys < room_of xs
each_less [] ys h k a b e f more within = cc
each_less (x ∷ xs) [] h k a b e f more within = absurd (h 0)
each_less (x ∷ xs) (y ∷ ys) h zero a b e f more within =
    let first : Grew x y = h 0 in
    let rest = each_longer xs ys (λ j. h (suc j)) in
    let was = some_equal x a e in
    let is = some_equal y b f in
    omega (
      arith,
      sum_by-cons (λ (p : Parts). p.limit - length p.log.entries) x xs,
      sum_by-cons (λ (p : Parts). p.limit - length p.log.entries) y ys,
      rest,
      ap (λ (p : Parts). length p.log.entries) was,
      ap (λ (p : Parts). length p.log.entries) is,
      ap (λ (p : Parts). p.limit) is,
      more,
      within,
      first.same.limit,
    )
each_less (x ∷ xs) (y ∷ ys) h (suc k) a b e f more within =
    let first : Grew x y = h 0 in
    let rest = each_less xs ys (λ j. h (suc j)) k a b e f more within in
    omega (
      arith,
      sum_by-cons (λ (p : Parts). p.limit - length p.log.entries) x xs,
      sum_by-cons (λ (p : Parts). p.limit - length p.log.entries) y ys,
      rest,
      longer x y first,
      first.same.limit,
    )

-- one runner's turn, among all

pub at_each : (R : Parts → Parts → Type 0) → ((p : Parts) → R p p) → (pushed : Turned) (k : ℕ) (old new : List Parts) (h : PushedAt pushed k old new) → R h.x h.y
    → EachIs R old new
at_each R self pushed k old new h here j = elim (cases_eq j k) [
  | inl e ↦ subst (λ (i : ℕ). Alike R (slice_get old i) (slice_get new i)) (sym e)
      (subst (λ (o : Option Parts). Alike R o (slice_get new k)) (sym h.before) (subst (λ (o : Option Parts). Alike R (Some h.x) o) (sym h.now) here))
  | inr d ↦ subst (λ (o : Option Parts). Alike R (slice_get old j) o) (sym (h.others j d)) (each_self R self old j)
]

pub at_grew : (pushed : Turned) (k : ℕ) (old new : List Parts) → PushedAt pushed k old new → EachIs Grew old new
at_grew pushed k old new h = at_each Grew grew_self pushed k old new h h.one.grew

pub at_less : (k : ℕ) (old new : List Parts) → PushedAt Moved k old new → room_of new < room_of old
at_less k old new h = each_less old new (at_grew Moved k old new h) k h.x h.y h.before h.now h.one.ends h.one.bounded

pub each_seen : (old new : List Parts) → EachIs AsSeen old new → EachIs Grew old new
each_seen old new h = each_weaker AsSeen Grew seen_grew old new h

-- a list with another runner at one place

pub get_is : (xs : List Parts) (k : ℕ) (d : Parts) → k < length xs → slice_get xs k ≡ Some (slice_index_or xs k d)
get_is [] k d within = absurd (omega (arith, within))
get_is (x ∷ xs) zero d within = refl
get_is (x ∷ xs) (suc k) d within = get_is xs k d (omega (arith, within))

pub pushed_at : (pushed : Turned) (k : ℕ) (rs : List Parts) (d y : Parts) → k < length rs → OnePushed pushed (slice_index_or rs k d) y
    → PushedAt pushed k rs (slice_set rs k y)
pushed_at pushed k rs d y within one = record {
  x = slice_index_or rs k d;
  y = y;
  before = get_is rs k d within;
  now = set_here rs k y within;
  one = one;
  others = λ j apart. set_other rs k y j apart;
}

-- Rounds: turns that the caller makes, where a move is enabled.

grew_same : (old new : List Parts) → EachIs Grew old new → EachIs SameRunner old new
grew_same old new h = each_weaker Grew SameRunner (λ a b grew. grew.same) old new h

-- the crew stays a crew
pub crew_grew : (script : ScriptData) (old new : List Parts) → EachIs Grew old new → IsCrew script old → IsCrew script new
crew_grew script old new h crew = crew_last script old new (grew_same old new h) crew

-- the world stays where no runner moved
pub same_world : (script : ScriptData) (old new : List Parts) → EachIs AsSeen old new → crew_world script new ≡ crew_world script old
same_world script old new h = ap (world_after script) (same_run script old new (each_weaker AsSeen SameLog (λ a b seen. seen.log) old new h))

-- turns of one runner after the other that make no move

-- of the runners from the first place on, before the second one, each that shows a move has a full log
abbrev pub FullBetween : ℕ → ℕ → List Parts → Type 0
FullBetween first place rs = (k : ℕ) (p : Parts) → first ≤ k → k < place → slice_get rs k ≡ Some p → next_choice p ≢ choices.Nothing
    → length p.log.entries ≡ p.limit

-- the turn came to nothing
abbrev pub IsStill : Turned → Type 0
IsStill Moved = ⊥
IsStill NoMemory = ⊥
IsStill Quiet = Unit {0}
IsStill Full = Unit {0}

pub is_still : (pushed : Turned) → (pushed ≡ Quiet) ⊎ (pushed ≡ Full) → IsStill pushed
is_still Quiet e = tt
is_still Full e = tt
is_still Moved (inl e) = cc
is_still Moved (inr e) = cc
is_still NoMemory (inl e) = cc
is_still NoMemory (inr e) = cc

pub still_seen : (pushed : Turned) (k : ℕ) (old mid new : List Parts) → IsStill pushed → EachIs AsSeen old mid → PushedAt pushed k mid new → EachIs AsSeen old new
still_seen Moved k old mid new still h at = absurd still
still_seen NoMemory k old mid new still h at = absurd still
still_seen Quiet k old mid new still h at = each_join AsSeen seen_join old mid new h (at_each AsSeen seen_self Quiet k mid new at at.one.ends)
still_seen Full k old mid new still h at = each_join AsSeen seen_join old mid new h (at_each AsSeen seen_self Full k mid new at at.one.ends.0)

-- a runner that shows a move has a full log where its turn came to nothing
still_full : (pushed : Turned) (a b : Parts) → IsStill pushed → OnePushed pushed a b → next_choice a ≢ choices.Nothing → length a.log.entries ≡ a.limit
still_full Moved a b still one shows = absurd still
still_full NoMemory a b still one shows = absurd still
still_full Quiet a b still one shows = absurd (one.shown shows refl)
still_full Full a b still one shows = sym (ap (λ (log : List Logged). length log) one.ends.0.log) ∙ (one.ends.1 ∙ one.ends.0.same.limit)

pub next_full : (pushed : Turned) (first place : ℕ) (old mid new : List Parts) → IsStill pushed → EachIs AsSeen old mid → PushedAt pushed place mid new
    → FullBetween first place old → FullBetween first (place + 1) old
next_full pushed first place old mid new still seen at before k p from below here shows = elim (cases_eq k place) [
  | inl e ↦ at_place (subst (λ (i : ℕ). slice_get old i ≡ Some p) e here)
  | inr apart ↦ before k p from (omega (arith, below, apart)) here shows
]
  where
    at_place : slice_get old place ≡ Some p → length p.log.entries ≡ p.limit
    at_place there =
        let same : AsSeen p at.x =
        subst (λ (o : Option Parts). Alike AsSeen (Some p) o) at.before
        (subst (λ (o : Option Parts). Alike AsSeen o (slice_get mid place)) there (seen place)) in
        let full = still_full pushed at.x at.y still at.one (choice_lasts p at.x same shows) in
        sym (ap (λ (log : List Logged). length log) same.log) ∙ (full ∙ same.same.limit)

-- where a move is enabled

pub push_moved : (k : ℕ) (script : ScriptData) (old mid new : List Parts) → IsCrew script old → EachIs AsSeen old mid → PushedAt Moved k mid new
    → PushEnds None script old new
push_moved k script old mid new crew seen at =
    let grew = each_join Grew grew_join old mid new (each_seen old mid seen) (at_grew Moved k mid new at) in
    record {
      crew = crew_grew script old new grew crew;
      grew = grew;
      ends = omega (arith, at_less k mid new at, each_longer old mid (each_seen old mid seen));
    }

pub push_over : (k : ℕ) (script : ScriptData) (old mid new : List Parts) → IsCrew script old → EachIs AsSeen old mid → PushedAt NoMemory k mid new
    → PushEnds (Some ended.NoMemory) script old new
push_over k script old mid new crew seen at =
    let grew = each_join Grew grew_join old mid new (each_seen old mid seen) (at_grew NoMemory k mid new at) in
    record { crew = crew_grew script old new grew crew; grew = grew; ends = (k, at.y, at.now, at.one.ends.1) }

-- where memory was wanting in a crew
pub crew_over : (script : ScriptData) (old new : List Parts) → IsCrew script old → EachIs Grew old new → SomeCouldMove new
    → PushEnds (Some ended.NoMemory) script old new
crew_over script old new crew grew some = record { crew = crew_grew script old new grew crew; grew = grew; ends = some }

-- where none of the nodes that can make a move may make one
pub push_cut : (node place : ℕ) (script : ScriptData) (old new : List Parts) → IsCrew script old → CanPush script node old → EachIs AsSeen old new
    → length old ≤ place → FullBetween node place old → PushEnds (Some (ended.Cut node)) script old new
push_cut node place script old new crew can seen passed full = record {
  crew = crew_grew script old new (each_seen old new seen) crew;
  grew = each_seen old new seen;
  ends = record {
    below = can.least.0;
    moves = subst (λ (w : World). can_move script w node ≡ true) (sym world) can.least.1;
    least = λ j below. subst (λ (w : World). can_move script w j ≡ false) (sym world) (can.least.2 j below);
    full = λ j p here moves. by_runner j p (each_before AsSeen old new seen j p here) (subst (λ (w : World). can_move script w j ≡ true) world moves);
  };
}
  where
    world : crew_world script new ≡ crew_world script old
    world = same_world script old new seen

    by_runner : (j : ℕ) (p : Parts) → (x : Parts) × (slice_get old j ≡ Some x) × AsSeen x p → can_move script (crew_world script old) j ≡ true
        → length p.log.entries ≡ p.limit
    by_runner j p was moves =
        let same : AsSeen was.0 p = was.2 in
        let shows : next_choice was.0 ≢ choices.Nothing = λ none. true≢false (sym (can.shows j was.0 was.1 ∙ moves) ∙ ap is_move none) in
        let from : node ≤ j = elim (cases_lt j node) [
          | inl less ↦ absurd (true≢false (sym moves ∙ can.least.2 j less))
          | inr more ↦ more
        ] in
        let inside = slice_get_within old j was.0 was.1 in
        let made = full j was.0 from (omega (arith, inside, passed)) was.1 shows in
        ap (λ (log : List Logged). length log) same.log ∙ (made ∙ sym same.same.limit)

-- what was before it goes on
pub after_grew : (e : Option Ended) (script : ScriptData) (old mid new : List Parts) → EachIs Grew old mid → PushEnds e script mid new → PushEnds e script old new
after_grew e script old mid new g h =
    record { crew = h.crew; grew = each_join Grew grew_join old mid new g h.grew; ends = by_end e h.ends (each_longer old mid g) }
  where
    by_end : (o : Option Ended) → PushedOn o script mid new → room_of mid ≤ room_of old → PushedOn o script old new
    by_end None less more = omega (arith, less, more)
    by_end (Some x) end more = end

pub after_seen : (e : Option Ended) (script : ScriptData) (old mid new : List Parts) → EachIs AsSeen old mid → PushEnds e script mid new → PushEnds e script old new
after_seen e script old mid new seen = after_grew e script old mid new (each_seen old mid seen)
