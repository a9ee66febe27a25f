use Rattle.std.proofs.Common.{◌∙◌, ◌∷◌, Option, None, Some, option_map, sym, ap}
use Rattle.lt_modes.specs.Script.{ScriptData}
use Rattle.lt_script.specs.Forms.{form_seen}
use Rattle.lt_script.specs.Faults.{form_fault, declared, after_form}
use Rattle.lt_text.specs.Text.{words}
use Rattle.lt_script.proofs.FaultOrder.{first_step, told_step, clean_step}
use Rattle.lt_script.proofs.reading.begin.Goals as goal

pub returns-in_default : goal.returns-in_default
returns-in_default c =
    first_step c.args.version c.args.script.now (c.args.word.now ∷ words c.args.rest.now) None c.requires.none (sym c.form_in.ensures.form ∙ ap (option_map form_seen) c.in_default.is)

pub returns-in-Some-fault_before_nodes : goal.returns-in-Some-fault_before_nodes
returns-in-Some-fault_before_nodes c =
    let version = c.args.version in
    let form = form_seen c.in-Some.form in
    first_step version c.args.script.now (c.args.word.now ∷ words c.args.rest.now) (Some form) c.requires.none (sym c.form_in.ensures.form ∙ ap (option_map form_seen) c.in-Some.is)
    ∙ told_step version c.args.script.now form c.in-Some-fault_before_nodes.fault
    (ap (λ (st : Option ScriptData). form_fault version st form) c.requires.none ∙ sym c.fault_before_nodes.ensures ∙ c.in-Some-fault_before_nodes.is)

pub start-requires-clause-clean : goal.start-requires-clause-clean
start-requires-clause-clean c = sym c.fault_before_nodes.ensures ∙ c.in_default-fault_before_nodes.is

pub returns : goal.returns
returns c =
    let version = c.args.version in
    let form = form_seen c.in-Some.form in
    first_step version c.args.script.now (c.args.word.now ∷ words c.args.rest.now) (Some form) c.requires.none (sym c.form_in.ensures.form ∙ ap (option_map form_seen) c.in-Some.is)
    ∙ clean_step version c.args.script.now form c.in_ok-start.field-0
    (ap (λ (st : Option ScriptData). form_fault version st form) c.requires.none ∙ sym c.fault_before_nodes.ensures ∙ c.in_default-fault_before_nodes.is)
    (c.in_ok-start.ensures ∙ ap (λ (st : Option ScriptData). after_form (declared version st) form) (sym c.requires.none))
