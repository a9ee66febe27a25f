use Rattle.std.proofs.Common.{◌≡◌, ◌∙◌, ◌*◌, ◌<◌, ◌-◌, ◌^◌, ℕ, List, true, ap, replicate}
use Rattle.std.proofs.lemmas.Result.{IfOk-weaker}
use Rattle.lt_waits.specs.Bits.{row_has, words_for}
use Rattle.lt_waits.proofs.BitLemmas.{each_bit}
use Rattle.lt_waits.proofs.bits.Bits.all.Goals as goal

pub returns-clause-all : goal.returns-clause-all
returns-clause-all c =
    IfOk-weaker c.filled.result (λ bits. bits ≡ replicate (words_for c.args.clients) (2 ^ 64 - 1))
    (λ bits. (client : ℕ) → client < 64 * words_for c.args.clients → row_has bits client ≡ true)
    (λ bits is client few. ap (λ (words : List ℕ). row_has words client) is ∙ each_bit (words_for c.args.clients) client few) c.filled.ensures.words
