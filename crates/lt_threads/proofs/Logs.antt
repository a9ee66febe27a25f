-- The least node that can make a move, as its runner shows it.
use Rattle.std.proofs.Common.{◌≡◌, ◌<◌, ◌≤◌, ◌+◌, ℕ, inl, inr, List, get_or, Option, Some, None, true, false, length, sym, ap, subst, arith, ◌∙◌, refl, map, [], ◌∷◌, ◌++◌, slice_get, option_map, remove, append_assoc}
use Rattle.std.proofs.lemmas.Bool.{cases_eq}
use Rattle.std.proofs.lemmas.Option.{slice_get_cases, slice_get-get_or, slice_get_within, slice_get-map}
use Rattle.std.proofs.Math.Path.{fun_ext}
use Rattle.std.proofs.lemmas.List.{map-append}
use Rattle.lt_modes.specs.Script.{ScriptData}
use Rattle.lt_spec.specs.declared.moves.TheConstants.{MAX_MOVES_OF_SERVICE}
use Rattle.lt_spec.specs.World.{can_move, Logged}
use Rattle.lt_merge.specs.Merging.{RunData}
use Rattle.lt_law_plays.specs.Merged.{merged, Part, part_or, logs_of, part_at}
use Rattle.lt_law_plays.proofs.MergedLogs.{merged_is_one}
use Rattle.lt_law_merged.specs.States.{RestIsNoMove}
use Rattle.lt_law_merged.proofs.PartLogs.{joined_merges, part_is, logs_of_parts}
use Rattle.lt_mail.specs.Words.{Alike}
use Rattle.lt_runner.specs.declared.parts.Parts.{Parts}
use Rattle.lt_runner.specs.Kept.{SameRunner, AsSeen, is_move}
use Rattle.lt_runner.specs.Choices.{next_choice}
use Rattle.lt_runner.proofs.KeptLemmas.{seen_join}
use Rattle.lt_threads.specs.Meeting.{InCrew, EachIs, AreKept, IsCrew, crew_world, RunnersLinked, AreMet, AnyTwo, HaveFetched, IsLeastEnabled, EachShows, IsFirstMove, NoneShows, part_of, crew_run, run_entries, log_of, AreCrewLogs}
use Rattle.lt_threads.proofs.Each.{each_before, each_join, each_len, each_weaker, links_last}
use Rattle.lt_threads.proofs.SameChoice.{same_before}
use Rattle.lt_threads.proofs.Shown.{shows_is, part_here}
use Rattle.lt_threads.proofs.Joined.{joined}

pub crew_linked : (script : ScriptData) (rs : List Parts) → IsCrew script rs → RunnersLinked rs
crew_linked script rs crew = record { me = λ k p e. (crew.each k p e).me; links = crew.links }

pub crew_last : (script : ScriptData) (old new : List Parts) → EachIs SameRunner old new → IsCrew script old → IsCrew script new
crew_last script old new same crew = record {
  is_script = crew.is_script;
  count = each_len SameRunner old new same ∙ crew.count;
  each = each;
  links = links_last old new same crew.links;
}
  where
    each : (k : ℕ) (p : Parts) → slice_get new k ≡ Some p → InCrew script k p
    each k p e =
        let was = each_before SameRunner old new same k p e in
        let is : SameRunner was.0 p = was.2 in
        let before = crew.each k was.0 was.1 in record {
          script_is = same_before k was.0.node.script p.node.script script is.script before.script_is;
          me = is.me ∙ before.me;
          limit = subst (λ (n : ℕ). n ≤ MAX_MOVES_OF_SERVICE) (sym is.limit) before.limit;
        }

-- a crew whose runners looked twice is that crew
pub crew_seen : (script : ScriptData) (old mid new : List Parts) → EachIs AsSeen old mid → EachIs AsSeen mid new → IsCrew script old → IsCrew script new
crew_seen script old mid new first second crew =
    crew_last script old new (each_weaker AsSeen SameRunner (λ a b seen. seen.same) old new (each_join AsSeen seen_join old mid new first second)) crew

same : {a b : Parts} → Some a ≡ Some b → a ≡ b
same e = cc

pub next_shows : (n : ℕ) (rs : List Parts) (d : Parts) → n < length rs → NoneShows n rs → is_move (next_choice (get_or rs n d)) ≡ false → NoneShows (n + 1) rs
next_shows n rs d inside before here k p below e = elim (cases_eq k n) [
  | inl at ↦ subst (λ (q : Parts). is_move (next_choice q) ≡ false) (same (sym (slice_get-get_or rs n d inside) ∙ ap (slice_get rs) (sym at) ∙ e)) here
  | inr apart ↦ before k p (omega (arith, below, apart)) e
]

pub first_shows : (n : ℕ) (rs : List Parts) (d : Parts) → n < length rs → NoneShows n rs → is_move (next_choice (get_or rs n d)) ≡ true → IsFirstMove rs (Some n)
first_shows n rs d inside before here = (record { p = get_or rs n d; here = slice_get-get_or rs n d inside; shows = here }, before)

pub none_shows : (n : ℕ) (rs : List Parts) → length rs ≤ n → NoneShows n rs → IsFirstMove rs None
none_shows n rs long before k p e = let inside = slice_get_within rs k p e in before k p (omega (arith, inside, long)) e

-- with a letter known to come fetched, each shows whether its node can move
pub all_show : (script : ScriptData) (rs : List Parts) (n : ℕ) → IsCrew script rs → AreKept rs → AreMet AnyTwo rs → HaveFetched n rs → length rs ≤ n → EachShows script rs
all_show script rs n crew kept met fetched long k p here =
    shows_is script rs crew kept met k p here (fetched k p (omega (arith, slice_get_within rs k p here, long)) here)

pub least_is : RestIsNoMove → (script : ScriptData) (rs : List Parts) (first : Option ℕ) → IsCrew script rs → EachShows script rs → IsFirstMove rs first
    → IsLeastEnabled script (crew_world script rs) first
least_is rest script rs None crew all none = (rest script (crew_world script rs) crew.is_script).1 (λ q below. still q below)
  where
    still : (q : ℕ) → q < script.nodes → can_move script (crew_world script rs) q ≡ false
    still q below = elim (slice_get_cases rs q).1 [
      | inl there ↦ sym (all q there.0 there.2) ∙ none q there.0 there.2
      | inr past ↦ absurd (omega (arith, past.0, crew.count, below))
    ]
least_is rest script rs (Some k) crew all first =
    let inside = slice_get_within rs k first.0.p first.0.here in (
      omega (arith, inside, crew.count),
      sym (all k first.0.p first.0.here) ∙ first.0.shows,
      λ j below. still j below,
    )
  where
    still : (j : ℕ) → j < k → can_move script (crew_world script rs) j ≡ false
    still j below = elim (slice_get_cases rs j).1 [
      | inl there ↦ sym (all j there.0 there.2) ∙ first.1 j there.0 below there.2
      | inr past ↦ let inside = slice_get_within rs k first.0.p first.0.here in absurd (omega (arith, past.0, inside, below))
    ]

-- The run of a crew is that of its logs.

-- the logs are the same
abbrev pub SameLog : Parts → Parts → Type 0
SameLog a b = b.log.entries ≡ a.log.entries

pub same_run : (script : ScriptData) (old new : List Parts) → EachIs SameLog old new → crew_run script new ≡ crew_run script old
same_run script old new each = ap (merged script.nodes) (fun_ext (λ x. same x))
  where
    by_two : (x : ℕ) (a b : Option Parts) → Alike SameLog a b → (part_or script x (option_map part_of b)).log ≡ (part_or script x (option_map part_of a)).log
    by_two x None None h = refl
    by_two x None (Some b) h = absurd h
    by_two x (Some a) None h = absurd h
    by_two x (Some a) (Some b) h = h

    same : (x : ℕ) → (logs_of script (map part_of new)).log x ≡ (logs_of script (map part_of old)).log x
    same x =
        ap (λ (o : Option Part). (part_or script x o).log) (slice_get-map part_of new x)
        ∙ (by_two x (slice_get old x) (slice_get new x) (each x) ∙ sym (ap (λ (o : Option Part). (part_or script x o).log) (slice_get-map part_of old x)))

-- The logs of a crew are those of its parts.

part_logs : (rs : List Parts) → map (λ (part : Part). part.log) (map part_of rs) ≡ map log_of rs
part_logs [] = refl
part_logs (p ∷ rs) = ap (λ (logs : List (List Logged)). p.log.entries ∷ logs) (part_logs rs)

pub crew_logs : (script : ScriptData) (old rs : List Parts) (logs : List RunData) → IsCrew script old → EachIs AsSeen old rs → AreMet AnyTwo rs → AreKept rs
    → map run_entries logs ≡ map log_of rs → AreCrewLogs script old logs
crew_logs script old rs logs was seen met kept same =
    let crew = crew_last script old rs (each_weaker AsSeen SameRunner (λ a b s. s.same) old rs seen) was in
    let plays = joined script rs crew kept met in
    let of_parts = logs_of_parts script (map part_of rs) logs plays (same ∙ sym (part_logs rs)) in record {
      are_logs = of_parts.are_logs;
      is_run = λ run merges. (of_parts.runs run merges).is_run;
      is_crew_run = λ run merges.
          merged_is_one (logs_of script (map part_of rs)).log run (merged script.nodes (logs_of script (map part_of rs)).log)
          (of_parts.runs run merges).is_merged (joined_merges script (map part_of rs) plays).is_merged
          ∙ same_run script old rs (each_weaker AsSeen SameLog (λ a b s. s.log) old rs seen);
      moves = λ run merges k p e. (of_parts.runs run merges).is_merged.parts k ∙ own k p e;
      within = λ k p e. held k p (slice_get rs k) refl (subst (λ (o : Option Parts). Alike AsSeen o (slice_get rs k)) e (seen k));
    }
  where
    own : (k : ℕ) (p : Parts) → slice_get old k ≡ Some p → (part_at script (map part_of rs) k).log ≡ p.log.entries
    own k p e = by_place (slice_get rs k) refl (subst (λ (o : Option Parts). Alike AsSeen o (slice_get rs k)) e (seen k))
      where
        by_place : (o : Option Parts) → slice_get rs k ≡ o → Alike AsSeen (Some p) (slice_get rs k) → (part_at script (map part_of rs) k).log ≡ p.log.entries
        by_place None f a = absurd (subst (λ (o : Option Parts). Alike AsSeen (Some p) o) f a)
        by_place (Some q) f a =
            let seen_too : AsSeen p q = subst (λ (o : Option Parts). Alike AsSeen (Some p) o) f a in
            ap (λ (part : Part). part.log) (part_is script (map part_of rs) k (part_of q) (part_here rs k q f)) ∙ seen_too.log

    held : (k : ℕ) (p : Parts) (o : Option Parts) → slice_get rs k ≡ o → Alike AsSeen (Some p) o → length p.log.entries ≤ p.limit
    held k p None f a = absurd a
    held k p (Some q) f a = omega (arith, (kept k q f).bounded, ap (λ (log : List Logged). length log) a.log, a.same.limit)

-- the logs that were taken and those that are left are all
pub log_taken : (all : List (List Logged)) (logs : List RunData) (log : RunData) (rs : List Parts) (p : Parts) → map run_entries logs ++ map log_of rs ≡ all
    → 0 < length rs → p ≡ get_or rs 0 p → log.entries ≡ p.log.entries → map run_entries (logs ++ log ∷ []) ++ map log_of (remove rs 0) ≡ all
log_taken all logs log [] p e some first same = absurd (omega (arith, some))
log_taken all logs log (q ∷ rs) p e some first same =
    ap (λ (xs : List (List Logged)). xs ++ map log_of rs) (map-append run_entries logs (log ∷ []))
    ∙ append_assoc (map run_entries logs) (log.entries ∷ []) (map log_of rs)
    ∙ ap (λ (x : List Logged). map run_entries logs ++ x ∷ map log_of rs) (same ∙ ap log_of first)
    ∙ e
