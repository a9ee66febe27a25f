use Rattle.std.proofs.Common.{◌≡◌, Option, Some, Err, sym, subst, IfOk}
use Rattle.lt_script.specs.declared.fault.Fault.{Fault}
use Rattle.lt_script.specs.declared.form.Form.{Form}
use Rattle.lt_script.specs.Forms.{form_seen, NodesForm}
use Rattle.lt_script.specs.Reading.{ReadsLine}
use Rattle.lt_script.specs.Steps.{form_step}
use Rattle.lt_script.proofs.FaultOrder.{told_step}
use Rattle.lt_script.proofs.later_lines.add_form.Goals as goal

pub returns-in-Nodes : goal.returns-in-Nodes
returns-in-Nodes c =
    subst (λ (form : Form). form_step c.args.script.now.version (Some c.args.script.now) (form_seen form) ≡ Err c.later_nodes_fault.result) (sym c.in-Nodes.is)
    (told_step c.args.script.now.version (Some c.args.script.now) (NodesForm c.in-Nodes.nodes.now) c.later_nodes_fault.result c.later_nodes_fault.ensures)

pub returns-in-Client : goal.returns-in-Client
returns-in-Client c =
    subst
    (λ (form : Form). IfOk c.add_client_line.result (λ (fault : Option Fault). ReadsLine fault (Some c.add_client_line.new.script) (form_step c.args.script.now.version (Some c.args.script.now) (form_seen form))))
    (sym c.in-Client.is) c.add_client_line.ensures
