use Rattle.std.proofs.Common.{◌≡◌, ◌∙◌, ◌++◌, IfSome, List, ℕ, ap, sym, subst}
use Rattle.std.proofs.lemmas.List.Elements.{All-push}
use Rattle.lt_modes.specs.Modes.{word_of}
use Rattle.lt_modes.specs.Script.{set_name}
use Rattle.lt_text.specs.Text.{after_space}
use Rattle.lt_journal.specs.declared.wording.LockWords.{LockWords}
use Rattle.lt_journal.specs.Wording.{AreLockWords}
use Rattle.lt_journal.proofs.wording.push_mode.Goals as goal

pub returns : goal.returns
returns c =
    let script = c.args.script.now in
    let mode = c.word-2.result.now in
    let set_spelled : c.word.new.self ≡ after_space (set_name script c.args.set) =
    c.in_ok-word.ensures.text ∙ ap (λ (t : List ℕ). t ++ after_space c.set_name.result.now) c.clear.ensures ∙ ap after_space c.set_name.ensures in
    let spelled : c.bytes.result.now ≡ after_space (set_name script c.args.set) ++ after_space mode =
    c.bytes.ensures ∙ c.in_ok-word-2.ensures.text ∙ ap (λ (t : List ℕ). c.word.new.self ++ after_space t) c.as_bytes.ensures.value
    ∙ ap (λ (t : List ℕ). t ++ after_space mode) set_spelled in
    let named = spelled ∙ ap (λ (t : List ℕ). after_space (set_name script c.args.set) ++ after_space t) c.word-2.ensures in
    let own = subst (λ (t : List ℕ). IfSome c.new-words.result (λ words. words ≡ t)) named c.new-words.ensures in
    subst (AreLockWords script) (sym c.in_ok-push.ensures.items)
    (All-push
    (λ (own : LockWords). IfSome own.words (λ words. words ≡ after_space (set_name script own.set) ++ after_space (word_of own.mode)))
    c.args.locks.now.items _ c.requires own)
