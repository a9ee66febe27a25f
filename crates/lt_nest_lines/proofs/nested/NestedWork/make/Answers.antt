use Rattle.std.proofs.Common.{sym, subst, List, ℕ}
use Rattle.std.proofs.lemmas.Result.{IfOk-weaker, IfErr-weaker}
use Rattle.lt_io.specs.Streams.{Left}
use Rattle.lt_nest_lines.proofs.Judged.{text_written, fault_refusal, fault_reading, fault_wants}
use Rattle.lt_nest_lines.proofs.nested.NestedWork.make.Goals as goal

pub returns-clause-text : goal.returns-clause-text
returns-clause-text g c =
    let left = (g.S.Source.state c.args.source.now).left in
    let is : Left left c.deref.result.now = subst (λ (b : List ℕ). Left left b) (sym c.deref.ensures.value) c.in_ok-bytes.ensures.bytes in
    IfOk-weaker c.text_of.result _ _ (λ text h. text_written left c.deref.result.now text.items is h) c.text_of.ensures.text

pub returns-clause-reading : goal.returns-clause-reading
returns-clause-reading g c =
    IfErr-weaker c.text_of.result _ _
    (λ answer h. fault_reading c.deref.result.now answer (g.S.Source.state c.args.source.now) (g.S.Source.state c.read_bytes.new.source) c.in_ok-bytes.ensures.whole h)
    c.text_of.ensures.refused

pub returns-clause-refused : goal.returns-clause-refused
returns-clause-refused g c =
    let left = (g.S.Source.state c.args.source.now).left in
    let is : Left left c.deref.result.now = subst (λ (b : List ℕ). Left left b) (sym c.deref.ensures.value) c.in_ok-bytes.ensures.bytes in
    IfErr-weaker c.text_of.result _ _ (λ answer h. fault_refusal left c.deref.result.now answer is h) c.text_of.ensures.refused

pub returns-clause-memory : goal.returns-clause-memory
returns-clause-memory g c =
    let before = g.S.Source.state c.args.source.now in
    let is : Left before.left c.deref.result.now = subst (λ (b : List ℕ). Left before.left b) (sym c.deref.ensures.value) c.in_ok-bytes.ensures.bytes in
    IfErr-weaker c.text_of.result _ _
    (λ answer h. fault_wants c.deref.result.now answer before (g.S.Source.state c.read_bytes.new.source) is c.in_ok-bytes.ensures.whole h)
    c.text_of.ensures.refused
