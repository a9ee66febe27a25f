use Rattle.std.proofs.Common.{◌∙◌, sym, refl, string_bytes}
use Rattle.std.proofs.lemmas.List.Folds.{list_all-map}
use Rattle.lt_words.specs.Grammar.{is_plain}
use Rattle.lt_words.proofs.command.is_form.Goals as goal

pub returns-then-has_verb : goal.returns-then-has_verb
returns-then-has_verb c = c.are_plain.ensures ∙ sym (list_all-map is_plain string_bytes c.args.words.now) ∙ rw (sym c.if-has_verb.ensures) refl
