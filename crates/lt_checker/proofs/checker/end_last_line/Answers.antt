use Rattle.std.proofs.Common.{◌≡◌, ◌≢◌, ◌∙◌, ◌==◌, ℕ, List, [], ◌∷◌, Bool, false, length, ap, refl, sym}
use Rattle.lt_modes.specs.Script.{ScriptData}
use Rattle.lt_text.specs.Text.{without_return}
use Rattle.lt_law_journals.specs.Checking.{Reader, read_on, last_ended}
use Rattle.lt_checker.specs.Checker.{ReaderData}
use Rattle.lt_checker.proofs.FirstTaken.{no_bytes}
use Rattle.lt_checker.proofs.checker.end_last_line.Goals as goal
use Rattle.lt_checker.proofs.checker.end_last_line.Goals.{then-not-is_empty+in_ok-take, else-not-is_empty}

some_kept : (rest : List ℕ) (none : Bool) → none ≡ (length rest == 0) → none ≡ false → rest ≢ []
some_kept [] none is some = λ e. absurd (cc)
some_kept (byte ∷ rest) none is some = λ e. absurd (cc)

ended_some : (script : ScriptData) (reader : Reader) (rest : List ℕ) → rest ≢ [] → read_on script reader (without_return rest) ≡ (last_ended script (record { reader = reader; rest = rest })).reader
ended_some script reader [] some = absurd (some refl)
ended_some script reader (byte ∷ rest) some = refl

ended_none : (script : ScriptData) (reader : Reader) (rest : List ℕ) → rest ≡ [] → reader ≡ (last_ended script (record { reader = reader; rest = rest })).reader
ended_none script reader [] none = refl
ended_none script reader (byte ∷ rest) none = absurd (cc)

pub returns-in_err-take-clause-cause : goal.returns-in_err-take-clause-cause
returns-in_err-take-clause-cause c = λ _. record {
  good = c.in_err-take.ensures.cause refl;
  kept = some_kept c.args.rest.now.items c.is_empty.result c.is_empty.ensures c.if-not-is_empty.true;
}

pub returns-clause-script : goal.returns-clause-script
returns-clause-script c = elim c.if-not-is_empty.branch [
  | then-not-is_empty+in_ok-take w ↦ ap (λ (r : ReaderData). r.script) w.reader-is ∙ w.take.ensures.script
  | else-not-is_empty w ↦ ap (λ (r : ReaderData). r.script) w.reader-is
]

pub returns-clause-ended : goal.returns-clause-ended
returns-clause-ended c =
    let script = c.args.reader.script in
    let reader = c.args.reader.reader in
    let rest = c.args.rest.now.items in
    elim c.if-not-is_empty.branch [
      | then-not-is_empty+in_ok-take w ↦
          ap (λ (r : ReaderData). r.reader) w.reader-is
          ∙ (w.in_ok-take.ensures.reader
          ∙ (ap (read_on script reader) (w.trim_return.ensures ∙ ap without_return w.deref.ensures.0)
          ∙ ended_some script reader rest (some_kept rest c.is_empty.result c.is_empty.ensures w.if-not-is_empty.true)))
      | else-not-is_empty w ↦
          ap (λ (r : ReaderData). r.reader) w.reader-is
          ∙ ended_none script reader rest (no_bytes rest (sym c.is_empty.ensures ∙ w.if-not-is_empty.false))
    ]
