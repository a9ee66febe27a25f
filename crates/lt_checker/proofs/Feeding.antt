-- A checker that is fed piece by piece.
use Rattle.std.proofs.Common.{◌≡◌, ◌∙◌, ℕ, List, ◌++◌, ap, subst, append_assoc}
use Rattle.lt_checker.specs.Checker.{CheckerData, StandsFor, with_piece}
use Rattle.lt_checker.specs.Heads.{IsFed}

pub fed_more : (a b : List ℕ) (x y z : CheckerData) → IsFed a x y → z ≡ with_piece y b
    → ((bytes : List ℕ) → StandsFor y bytes → StandsFor z (bytes ++ b)) → IsFed (a ++ b) x z
fed_more a b x y z first is next = record {
  script = ap (λ (c : CheckerData). c.script) is ∙ first.script;
  stands = λ bytes h. subst (StandsFor z) (append_assoc bytes a b) (next (bytes ++ a) (first.stands bytes h));
}
