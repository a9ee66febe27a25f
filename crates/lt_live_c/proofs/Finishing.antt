-- The journal of the run that was made is that of the service, or there is none.
use Rattle.std.proofs.Common.{◌≡◌, ◌≢◌, ◌≤◌, ◌<◌, List, Result, Ok, Err, length, inl, inr, refl, arith, ap}
use Rattle.std.specs.Prelude.{IfOk, IfErr}
use Rattle.lt_modes.specs.Script.{ScriptData}
use Rattle.lt_spec.specs.declared.limits.TheConstants.{MAX_COMMANDS, MAX_SETS}
use Rattle.lt_spec.specs.World.{Logged}
use Rattle.lt_live.specs.Live.{AreLive, IsRunOfService}
use Rattle.lt_live.specs.declared.finishing.FinishError.{FinishError}
use Rattle.lt_live.specs.declared.finishing.FinishError.TheVariants as errors
use Rattle.lt_live_c.specs.declared.code.TheConstants.{WRONG_HANDLE, NO_MEMORY, FORGOTTEN, TOO_MANY}
use Rattle.lt_live_c.specs.declared.content.Content.TheVariants as contents
use Rattle.lt_live_c.specs.declared.journal.Journal.{Journal}
use Rattle.lt_live_c.specs.declared.service.Service.{Service}
use Rattle.lt_live_c.specs.Journals.{TellsOf, IsJournalOfService, SomeForgot, HaveTooMany, FinishRefused}

-- it is the run that the service's stations have made
abbrev ServesAll : Service → ScriptData → List Logged → Type 0
ServesAll s script run =
    (first : ScriptData) → AreLive first s.stations.items s.sessions.items → IsRunOfService first s.stations.items s.sessions.items script run

-- what is made of the script and the run, and why nothing is
abbrev pub IsMade : ScriptData → List Logged → Journal → Type 0
IsMade script run journal = (length script.sets ≤ MAX_SETS) × TellsOf script run journal

abbrev pub HasMany : ScriptData → FinishError → Type 0
HasMany script error = (error ≢ errors.Forgotten) × (error ≡ errors.TooMany → MAX_SETS < length script.sets)

module _ (s : Service) (script : ScriptData) (run : List Logged) where
  pub is_journal : (made : Result Journal FinishError) → ServesAll s script run → length script.commands ≤ MAX_COMMANDS
      → IfOk made (IsMade script run) → IfOk made (IsJournalOfService s)
  is_journal (Ok journal) served commands is = λ first live.
      (script, run, served first live, record { sets = is.0; commands = commands }, is.1)
  is_journal (Err error) served commands is = tt

  -- it is never for what was forgotten
  pub none_forgot : (made : Result Journal FinishError) → IfErr made (HasMany script)
      → IfErr made (λ error. error ≡ errors.Forgotten → SomeForgot s)
  none_forgot (Ok journal) many = tt
  none_forgot (Err error) many = λ is. absurd (many.0 is)

  -- more sets than a text may have
  pub many_sets : (made : Result Journal FinishError) → ServesAll s script run → IfErr made (HasMany script)
      → IfErr made (λ error. error ≡ errors.TooMany → HaveTooMany s)
  many_sets (Ok journal) served many = tt
  many_sets (Err error) served many = λ is. inr (λ first live.
      let same = ap (λ (x : ScriptData). length x.sets) (served first live).served.same in omega (arith, many.1 is, same))

-- The codes.

pub forgotten_so : (s : Service) → SomeForgot s → (FORGOTTEN ≢ WRONG_HANDLE) × FinishRefused FORGOTTEN (contents.Service s)
forgotten_so s forgot = (
  λ e. omega (arith, e),
  record {
    forgotten = λ e. forgot;
    forgot = λ again. refl;
    many = λ e. absurd (omega (arith, e));
    only = inr (inr (inl refl));
  },
)

pub many_so : (s : Service) → HaveTooMany s → (SomeForgot s → ⊥) → (TOO_MANY ≢ WRONG_HANDLE) × FinishRefused TOO_MANY (contents.Service s)
many_so s many all = (
  λ e. omega (arith, e),
  record {
    forgotten = λ e. absurd (omega (arith, e));
    forgot = λ forgot. absurd (all forgot);
    many = λ e. many;
    only = inr (inr (inr refl));
  },
)

pub no_memory_so : (s : Service) → (SomeForgot s → ⊥) → (NO_MEMORY ≢ WRONG_HANDLE) × FinishRefused NO_MEMORY (contents.Service s)
no_memory_so s all = (
  λ e. omega (arith, e),
  record {
    forgotten = λ e. absurd (omega (arith, e));
    forgot = λ forgot. absurd (all forgot);
    many = λ e. absurd (omega (arith, e));
    only = inr (inl refl);
  },
)
