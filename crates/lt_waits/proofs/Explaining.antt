-- The report at the end of a run at rest tells why each client waits.
use Rattle.std.proofs.Common.{◌≡◌, ◌≢◌, ℕ, List, [], ◌∷◌, ◌++◌, Bool, false, length, take, refl, subst, sym, ap, ap₂, arith, IsTrue, take_all, map, filter, flat_map, if◌then◌else◌}
use Rattle.lt_modes.specs.declared.command.Command.{Command}
use Rattle.lt_modes.specs.declared.command.Command.TheVariants.{Lock, Unlock, Try, Change, DropAll, Withdraw}
use Rattle.lt_modes.specs.Script.{ScriptData}
use Rattle.lt_spec.specs.Script.{IsScript, IsOfVersion}
use Rattle.lt_spec.specs.World.{Logged, World, world_after, IsRun, IsUnmarked, is_at_rest}
use Rattle.lt_spec.specs.Holdings.{lines_of, waits_for, waits_behind_void}
use Rattle.lt_spec.specs.Rings.{Graph, ReportLine, numbers_below, void_lines}
use Rattle.lt_spec.specs.NodeMove.{IsWhole}
use Rattle.lt_law_invariant.proofs.FewAsks.{whole}
use Rattle.lt_law_journals.specs.Checking.{IsFinished}
use Rattle.lt_law_own_lines.specs.OldLaws.{IsOldCommand, IsOldScript, UnmarkedInRuns}
use Rattle.lt_law_waiting.specs.ReportLaws.{CyclesAreRings, RingsAreTold}
use Rattle.lt_law_waiting.specs.WaitingLaws.{EachHasReason, EachWaitsForSome, EndsHaveReasons, EndsAreReported, WaitersHaveLines, WaitersAreReported, VoidPairsAreReported, UnmarkedReport}
use Rattle.lt_law_waiting.proofs.Unmarked.{none_behind}
use Rattle.lt_law_waiting.proofs.VoidReports.{cycle_is_told}
use Rattle.lt_waits.specs.Edges.{edge, pairs_with}
use Rattle.lt_waits.specs.Reasons.{voids_text}
use Rattle.lt_waits.specs.Serves.{Explains, ExplainsUnmarked}
use Rattle.lt_waits.specs.Why.{void_text}

-- the laws of waiting clients and their reports
pub record WaitLaws : Type 0 where
  pub each : EachHasReason
  pub each_unmarked : EachWaitsForSome
  pub cycles : CyclesAreRings
  pub rings : RingsAreTold
  pub ends : EndsHaveReasons
  pub ends_unmarked : EndsAreReported
  pub waiters : WaitersHaveLines
  pub waiters_unmarked : WaitersAreReported
  pub voids : VoidPairsAreReported
  pub no_void : UnmarkedReport
  pub old : UnmarkedInRuns

-- a command of version 1 or 2 gives no wait up
old_command : (version : ℕ) (command : Command) → version ≢ 3 → IsOfVersion version command → IsOldCommand command
old_command version (Lock s mode) older is = tt
old_command version (Try s mode) older is = tt
old_command version (Unlock s mode) older is = tt
old_command version (Change s gives_up mode) older is = tt
old_command version (DropAll other s) older is = tt
old_command version (Withdraw other s) older is = older is

old_script : (script : ScriptData) → IsScript script → script.version ≢ 3 → IsOldScript script
old_script script is_script older = λ k d within. old_command script.version _ older (is_script.modes k d within)

-- so that no ask is given up
pub old_unmarked : (script : ScriptData) (run : List Logged) → UnmarkedInRuns → IsScript script → IsRun script run → script.version ≢ 3
    → IsUnmarked (world_after script run)
old_unmarked script run unmarked is_script is_run older =
    subst (λ (r : List Logged). IsUnmarked (world_after script r)) (take_all (length run) run (omega arith))
    (unmarked script run (old_script script is_script older) is_run (length run))

-- and nobody waits behind a void ask
none_pass : (test : ℕ → Bool) (clients : List ℕ) → ((c : ℕ) → test c ≡ false) → filter test clients ≡ []
none_pass test [] none = refl
none_pass test (c ∷ rest) none = ap₂ (λ (b : Bool) (l : List ℕ). if b then c ∷ l else l) (none c) (none_pass test rest none)

no_pairs : (n : ℕ) (graph : Graph) (clients : List ℕ) → ((c d : ℕ) → graph c d ≡ false) → flat_map (λ c. pairs_with graph c n) clients ≡ []
no_pairs n graph [] none = refl
no_pairs n graph (c ∷ rest) none =
    ap₂ ◌++◌ (ap (map (edge c)) (none_pass (graph c) (numbers_below n) (none c))) (no_pairs n graph rest none)

pub no_void_text : (script : ScriptData) (run : List Logged) → IsUnmarked (world_after script run) → void_text script run ≡ []
no_void_text script run unmarked =
    ap (voids_text script (lines_of run))
    (no_pairs (length script.clients) (waits_behind_void script (world_after script run)) (numbers_below (length script.clients)) (none_behind script (world_after script run) unmarked))

explained_unmarked : (script : ScriptData) (run : List Logged) (k : ℕ) → WaitLaws → IsWhole script → IsRun script run
    → IsTrue (is_at_rest script (world_after script (take k run))) → IsUnmarked (world_after script (take k run)) → ExplainsUnmarked script (take k run)
explained_unmarked script run k laws is_whole is_run rests unmarked = record {
  some = λ client below waiting. laws.each_unmarked script run is_whole is_run k client below rests unmarked waiting;
  ends = λ client last told. laws.ends_unmarked script run is_whole is_run k client last rests unmarked told;
  all = λ client below none waiting. laws.waiters_unmarked script run is_whole is_run k client below rests unmarked none waiting;
  no_void = laws.no_void script (world_after script (take k run)) unmarked;
}

explained_at : (script : ScriptData) (run : List Logged) (k : ℕ) → WaitLaws → IsScript script
    → IsRun script run → IsTrue (is_at_rest script (world_after script (take k run))) → Explains script (take k run)
explained_at script run k laws is_script is_run rests = record {
  some = λ client below waiting. laws.each script run (whole script is_script) is_run k client below rests waiting;
  cycles = λ ring told. laws.cycles n (waits_for script w) ring (cycle_is_told n (waits_for script w) (waits_behind_void script w) ring told);
  rings = λ waiting.
      let line = laws.rings n (waits_for script w) waiting.0 waiting.1 waiting.2 in
      (line.0, ap (λ (l : List ReportLine). l ++ void_lines n (waits_behind_void script w)) line.1);
  ends = λ client last told. laws.ends script run (whole script is_script) is_run k client last rests told;
  all = λ client below none waiting. laws.waiters script run (whole script is_script) is_run k client below rests none waiting;
  voids = λ client other. laws.voids script w client other;
  unmarked = λ unmarked. explained_unmarked script run k laws (whole script is_script) is_run rests unmarked;
  old = λ older.
      explained_unmarked script run k laws (whole script is_script) is_run rests (laws.old script run (old_script script is_script older) is_run k);
}
  where
    w : World
    w = world_after script (take k run)

    n : ℕ
    n = length script.clients

pub explained : (script : ScriptData) (run : List Logged) → WaitLaws → IsScript script → IsFinished script run → Explains script run
explained script run laws is_script finished =
    let all = take_all (length run) run (omega arith) in
    let rests : IsTrue (is_at_rest script (world_after script (take (length run) run))) =
    subst (λ (r : List Logged). IsTrue (is_at_rest script (world_after script r))) (sym all) finished.at_rest in
    subst (Explains script) all (explained_at script run (length run) laws is_script finished.is_run rests)
