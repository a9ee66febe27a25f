use Rattle.std.proofs.Common.{◌≡◌, ◌∙◌, ◌++◌, IfSome, List, ℕ, ap, sym, subst}
use Rattle.std.proofs.lemmas.List.Elements.{All-push}
use Rattle.lt_modes.specs.Script.{set_name}
use Rattle.lt_text.specs.Text.{after_space}
use Rattle.lt_journal.specs.declared.wording.SetWord.{SetWord}
use Rattle.lt_journal.specs.Wording.{AreSetWords}
use Rattle.lt_journal.proofs.wording.set_words.Goals as goal

pub loop-set-preserved : goal.loop-set-preserved
loop-set-preserved c =
    let script = c.args.script.now in
    let set = c.loop-set.set in
    let spelled : c.bytes.result.now ≡ after_space (set_name script set) =
    c.bytes.ensures ∙ c.in_ok-word.ensures.text ∙ ap (λ (t : List ℕ). t ++ after_space c.set_name.result.now) c.clear.ensures ∙ ap after_space c.set_name.ensures in
    let own : IfSome c.new-word.result (λ word. word ≡ after_space (set_name script set)) =
    subst (λ (t : List ℕ). IfSome c.new-word.result (λ word. word ≡ t)) spelled c.new-word.ensures in
    subst (AreSetWords script) (sym c.in_ok-push.ensures.items)
    (All-push (λ (own : SetWord). IfSome own.word (λ word. word ≡ after_space (set_name script own.set))) c.loop-set.sets.items _ c.loop-set.invariant own)
