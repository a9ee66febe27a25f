-- Commands that are forgotten.
use Rattle.std.proofs.Common.{Result, Ok, Err, OnOk, ◌<◌, ◌≡◌, ◌+◌, ◌++◌, ◌≤◌, ◌∙◌, ℕ, List, [], ◌∷◌, append-nil, append_assoc, length, sym, ap, subst, arith}
use Rattle.std.specs.Prelude.{OnErr}
use Rattle.std.proofs.lemmas.Result.{on_err_weaker, on_ok_weaker}
use Rattle.std.proofs.lemmas.List.{flat_map_more, length_push}
use Rattle.lt_modes.specs.declared.command.Command.{Command}
use Rattle.lt_modes.specs.Script.{ScriptData}
use Rattle.lt_node.specs.Clients.{Progress, with_command, with_request}
use Rattle.lt_node.specs.declared.client.KeptCommands.{KeptCommands}
use Rattle.lt_node.specs.Forgetting.{HasMade, LongScriptData, IsLongScript, past_commands, past_made, with_past}
use Rattle.lt_spec.specs.declared.limits.TheConstants.{MAX_COMMANDS_OF_SERVICE}

past_more : (past : List ScriptData) (kept : ScriptData) → past_commands (past ++ kept ∷ []) ≡ past_commands past ++ kept.commands
past_more past kept = sym (flat_map_more (λ (script : ScriptData). script.commands) [] past kept)

-- all commands of a script are forgotten
module _ (past more : List ScriptData) (kept bare : ScriptData) (gone count : ℕ) (old : LongScriptData) (seen : (let s : LongScriptData = record { whole = with_past past kept; gone = gone } in s) ≡ old)
    (is_more : more ≡ past ++ kept ∷ []) (is_bare : bare ≡ record kept { commands = [] }) (counted : count ≡ length old.whole.commands) where
  all : past_commands more ≡ past_commands past ++ kept.commands
  all = ap past_commands is_more ∙ past_more past kept

  none_left : past_commands more ++ bare.commands ≡ past_commands past ++ kept.commands
  none_left = ap (λ (l : List (ℕ × Command)). past_commands more ++ l) (ap (λ (s : ScriptData). s.commands) is_bare) ∙ append-nil (past_commands more) ∙ all

  count_is : length (past_commands past ++ kept.commands) ≡ count
  count_is = ap (λ (s : LongScriptData). length s.whole.commands) seen ∙ sym counted

  pub long_still : IsLongScript past kept gone → IsLongScript more bare count
  long_still long = record {
    gone_is = ap (λ (l : List (ℕ × Command)). length l) all ∙ count_is;
    few = subst (λ (l : List (ℕ × Command)). length l ≤ MAX_COMMANDS_OF_SERVICE) (sym none_left) long.few;
  }

  pub all_forgotten : (let s : LongScriptData = record { whole = with_past more bare; gone = count } in s) ≡ record old { gone = length old.whole.commands }
  all_forgotten =
      ap (λ (b : ScriptData). let s : LongScriptData = record { whole = with_past more b; gone = count } in s) is_bare
      ∙ ap (λ (l : List (ℕ × Command)). let s : LongScriptData = record { whole = record kept { commands = l }; gone = count } in s)
      (append-nil (past_commands more) ∙ all)
      ∙ ap (λ (whole : ScriptData). let s : LongScriptData = record { whole = whole; gone = count } in s) (ap (λ (s : LongScriptData). s.whole) seen)
      ∙ ap (λ (n : ℕ). let s : LongScriptData = record old { gone = n } in s) counted

-- A command is added, where there is memory for it.

module _ {T E : Type 0} (r : Result T E) (past : List ScriptData) (kept new : ScriptData) (gone client : ℕ) (command : Command) (old : LongScriptData)
    (seen : (let s : LongScriptData = record { whole = with_past past kept; gone = gone } in s) ≡ old) (added : OnOk r (new ≡ record kept { commands = kept.commands ++ (client, command) ∷ [] })) where
  pub long_more : OnErr r (new ≡ kept) → length old.whole.commands < MAX_COMMANDS_OF_SERVICE → IsLongScript past kept gone → IsLongScript past new gone
  long_more same room long = by_result r added same
    where
      few : length (past_commands past ++ kept.commands) < MAX_COMMANDS_OF_SERVICE
      few = subst (λ (s : LongScriptData). length s.whole.commands < MAX_COMMANDS_OF_SERVICE) (sym seen) room

      by_result : (r : Result T E) → OnOk r (new ≡ record kept { commands = kept.commands ++ (client, command) ∷ [] }) → OnErr r (new ≡ kept) → IsLongScript past new gone
      by_result (Ok x) is same = record {
        gone_is = long.gone_is;
        few = subst (λ (l : List (ℕ × Command)). length (past_commands past ++ l) ≤ MAX_COMMANDS_OF_SERVICE) (sym (ap (λ (s : ScriptData). s.commands) is))
            (subst (λ (l : List (ℕ × Command)). length l ≤ MAX_COMMANDS_OF_SERVICE) (append_assoc (past_commands past) kept.commands ((client, command) ∷ []))
            (omega (arith, few, length_push (past_commands past ++ kept.commands) (client, command))));
      }
      by_result (Err e) is same = subst (λ (s : ScriptData). IsLongScript past s gone) (sym same) long

  pub request_added : OnOk r ((let s : LongScriptData = record { whole = with_past past new; gone = gone } in s) ≡ record old { whole = with_request old.whole client command })
  request_added = on_ok_weaker r (λ is.
      ap (λ (k : ScriptData). let s : LongScriptData = record { whole = with_past past k; gone = gone } in s) is
      ∙ ap (λ (l : List (ℕ × Command)). let s : LongScriptData = record { whole = record kept { commands = l }; gone = gone } in s)
      (sym (append_assoc (past_commands past) kept.commands ((client, command) ∷ [])))
      ∙ ap (λ (s : LongScriptData). let t : LongScriptData = record s { whole = with_request s.whole client command } in t) seen) added

  pub none_added : OnErr r (new ≡ kept) → OnErr r ((let s : LongScriptData = record { whole = with_past past new; gone = gone } in s) ≡ old)
  none_added same = on_err_weaker r (λ is. ap (λ (k : ScriptData). let s : LongScriptData = record { whole = with_past past k; gone = gone } in s) is ∙ seen) same

-- A client's list grows.

module _ (past : List KeptCommands) (gone : ℕ) (kept new : KeptCommands) (made_is : new.made ≡ kept.made) where
  pub made_same : new.commands.items ≡ kept.commands.items → HasMade past gone kept → HasMade past gone new
  made_same same has = record {
    gone_is = has.gone_is;
    within = omega (arith, has.within, made_is, ap (λ (l : List Command). length l) same);
    few = omega (arith, has.few, made_is);
  }

  pub made_more : (command : Command) → new.commands.items ≡ kept.commands.items ++ command ∷ [] → HasMade past gone kept → HasMade past gone new
  made_more command more has = record {
    gone_is = has.gone_is;
    within = omega (arith, has.within, made_is, ap (λ (l : List Command). length l) more, length_push kept.commands.items command);
    few = omega (arith, has.few, made_is);
  }

pub seen_more : (past : List KeptCommands) (gone : ℕ) (kept : KeptCommands) (items : List Command) (command : Command) (old : Progress)
    → (let p : Progress = record { commands = past_made past ++ kept.commands.items; made = gone + kept.made } in p) ≡ old → items ≡ kept.commands.items ++ command ∷ []
    → (let p : Progress = record { commands = past_made past ++ items; made = gone + kept.made } in p) ≡ with_command old command
seen_more past gone kept items command old seen more =
    ap (λ (l : List Command). let p : Progress = record { commands = l; made = gone + kept.made } in p)
    (ap (λ (l : List Command). past_made past ++ l) more ∙ sym (append_assoc (past_made past) kept.commands.items (command ∷ [])))
    ∙ ap (λ (p : Progress). with_command p command) seen
