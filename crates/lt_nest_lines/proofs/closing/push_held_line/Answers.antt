use Rattle.std.proofs.Common.{◌≡◌, ◌++◌, ◌∷◌, [], List, ℕ, ap, ap₂, ◌∙◌, codes, decimal}
use Rattle.std.proofs.lemmas.Result.{on_ok_weaker}
use Rattle.lt_text.specs.Text.{each_after_space}
use Rattle.lt_modes.specs.Modes.{word_of}
use Rattle.lt_nest_lines.specs.Input.{InputData}
use Rattle.lt_nest_lines.specs.Play.{name_at}
use Rattle.lt_nest_lines.proofs.Pieces.{held_joined}
use Rattle.lt_nest_lines.proofs.closing.push_held_line.Goals as goal

pub returns : goal.returns
returns c =
    let d : InputData = c.args.input.now in
    let three = λ (a b : List ℕ). each_after_space (a ∷ b ∷ word_of c.args.mode ∷ []) in
    let names = ap₂ three (c.transaction_name-name.ensures ∙ ap (name_at d.transactions) c.from.ensures) c.set_name.ensures in
    on_ok_weaker {P = c.push_last_number.new.out.items ≡ (c.push_lock_words.new.out.items ++ 32 ∷ decimal c.args.count) ++ 10 ∷ []} c.push_last_number.result (λ told.
    held_joined d c.args.transaction c.args.set c.args.mode c.args.count c.args.out.now.items c.push_last_number.new.out.items c.if-count-eq0.false
    (told ∙ ap (λ (text : List ℕ). (text ++ 32 ∷ decimal c.args.count) ++ 10 ∷ []) (c.in_ok-push_lock_words.ensures ∙ ap₂ (λ (text words : List ℕ). text ++ words) c.in_ok-push_text.ensures names)))
    c.push_last_number.ensures
