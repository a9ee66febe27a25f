use Rattle.std.proofs.Common.{◌∙◌, sym, ap, string_bytes, map}
use Rattle.lt_words.specs.Grammar.{command_of, command_in}
use Rattle.lt_words.proofs.Forms.{form_found}
use Rattle.lt_words.proofs.NoForm.{no_form, none_found}
use Rattle.lt_words.proofs.command.Command.from_words.Goals as goal

pub returns-then-not-is_form-clause-command : goal.returns-then-not-is_form-clause-command
returns-then-not-is_form-clause-command c = sym (no_form (map string_bytes c.args.words.now) (sym c.if-not-is_form.ensures))

pub returns-in-Ok-clause-command : goal.returns-in-Ok-clause-command
returns-in-Ok-clause-command c = c.found.ensures ∙ ap command_in c.in-Ok.ensures.ok ∙ form_found (map string_bytes c.args.words.now) (sym c.is_form.ensures ∙ c.if-not-is_form.false)

pub returns-clause-command : goal.returns-clause-command
returns-clause-command c = none_found (command_of (map string_bytes c.args.words.now)) (sym c.is_command.ensures ∙ c.if-is_command.false)
