use Rattle.std.proofs.Common.{◌≡◌, ◌∙◌, ◌++◌, IfSome, List, ℕ, ap, sym, subst}
use Rattle.std.proofs.lemmas.List.Elements.{All-push}
use Rattle.lt_modes.specs.Script.{client_name}
use Rattle.lt_text.specs.Text.{after_space}
use Rattle.lt_journal.specs.declared.wording.ClientWord.{ClientWord}
use Rattle.lt_journal.specs.Wording.{AreClientWords}
use Rattle.lt_journal.proofs.wording.client_words.Goals as goal

pub loop-client-preserved : goal.loop-client-preserved
loop-client-preserved c =
    let script = c.args.script.now in
    let client = c.loop-client.client in
    let spelled : c.bytes.result.now ≡ after_space (client_name script client) =
    c.bytes.ensures ∙ c.in_ok-word.ensures.text ∙ ap (λ (t : List ℕ). t ++ after_space c.client_name.result.now) c.clear.ensures ∙ ap after_space c.client_name.ensures in
    let own : IfSome c.new-word.result (λ word. word ≡ after_space (client_name script client)) =
    subst (λ (t : List ℕ). IfSome c.new-word.result (λ word. word ≡ t)) spelled c.new-word.ensures in
    subst (AreClientWords script) (sym c.in_ok-push.ensures.items)
    (All-push (λ (own : ClientWord). IfSome own.word (λ word. word ≡ after_space (client_name script own.client))) c.loop-client.clients.items _ c.loop-client.invariant own)
