-- Sets of the five modes by the table of six and by that of five: tables that the check computes.
use Rattle.std.proofs.Common.{◌≡◌, Bool, true, false, refl, ◌&&◌, not, IsTrue}
use Rattle.std.proofs.lemmas.Bool.{and_parts}
use Rattle.lt_modes.specs.declared.mode.Mode.TheVariants.{IntentionRead, Read, Upgrade, IntentionWrite, ReadIntentionWrite, Write}
use Rattle.lt_modes.specs.Modes.{Modes, conflicts, same_modes, has, bars, covers, has_none}
use Rattle.lt_modes.specs.FiveModes.{five_of, has_five_alone, bars_of_five, covers_of_five, has_below_write, TableAsBefore, TakingAsBefore, BarsAsBefore, SixthByOthers, CoversAsBefore, SameBarsAsBefore, NoneBarredAsBefore}
use Rattle.lt_modes.proofs.ModeAlgebra.{same_modes-true}

abbrev same_bool : Bool → Bool → Bool
same_bool true b = b
same_bool false b = not b

same_bool_eq : (a b : Bool) → same_bool a b ≡ true → a ≡ b
same_bool_eq true true e = refl
same_bool_eq true false e = cc
same_bool_eq false true e = cc
same_bool_eq false false e = refl

-- the test passes for both
abbrev both : (Bool → Bool) → Bool
both test = test true && test false

both_at : (test : Bool → Bool) (b : Bool) → both test ≡ true → test b ≡ true
both_at test true e = (and_parts (test true) (test false) e).0
both_at test false e = (and_parts (test true) (test false) e).1

-- the set of the five modes with these members
abbrev five : Bool → Bool → Bool → Bool → Bool → Modes
five a b c d e = record {
  intention_read = a;
  read = b;
  upgrade = c;
  intention_write = d;
  read_intention_write = false;
  write = e;
}

-- the test passes for each set of the five
abbrev every_set : (Modes → Bool) → Bool
every_set test = both (λ a. both (λ b. both (λ c. both (λ d. both (λ e. test (five a b c d e))))))

five_itself : (s : Modes) → has ReadIntentionWrite s ≡ false → s ≡ five s.intention_read s.read s.upgrade s.intention_write s.write
five_itself s h = λ i. record {
  intention_read = s.intention_read;
  read = s.read;
  upgrade = s.upgrade;
  intention_write = s.intention_write;
  read_intention_write = h i;
  write = s.write;
}

without_sixth : (b : Bool) → not b ≡ true → b ≡ false
without_sixth true h = cc
without_sixth false h = refl

every_set_at : (test : Modes → Bool) (s : Modes) → IsTrue (has_five_alone s) → every_set test ≡ true → test s ≡ true
every_set_at test s h e =
    rw (five_itself s (without_sixth (has ReadIntentionWrite s) h))
    (both_at (λ x. test (five s.intention_read s.read s.upgrade s.intention_write x)) s.write
    (both_at (λ d. both (λ x. test (five s.intention_read s.read s.upgrade d x))) s.intention_write
    (both_at (λ c. both (λ d. both (λ x. test (five s.intention_read s.read c d x)))) s.upgrade
    (both_at (λ b. both (λ c. both (λ d. both (λ x. test (five s.intention_read b c d x))))) s.read
    (both_at (λ a. both (λ b. both (λ c. both (λ d. both (λ x. test (five a b c d x)))))) s.intention_read e)))))

pub table_kept : TableAsBefore
unfolding conflicts
table_kept IntentionRead IntentionRead p q = refl
table_kept IntentionRead Read p q = refl
table_kept IntentionRead Upgrade p q = refl
table_kept IntentionRead IntentionWrite p q = refl
table_kept IntentionRead ReadIntentionWrite p q = cc
table_kept IntentionRead Write p q = refl
table_kept Read IntentionRead p q = refl
table_kept Read Read p q = refl
table_kept Read Upgrade p q = refl
table_kept Read IntentionWrite p q = refl
table_kept Read ReadIntentionWrite p q = cc
table_kept Read Write p q = refl
table_kept Upgrade IntentionRead p q = refl
table_kept Upgrade Read p q = refl
table_kept Upgrade Upgrade p q = refl
table_kept Upgrade IntentionWrite p q = refl
table_kept Upgrade ReadIntentionWrite p q = cc
table_kept Upgrade Write p q = refl
table_kept IntentionWrite IntentionRead p q = refl
table_kept IntentionWrite Read p q = refl
table_kept IntentionWrite Upgrade p q = refl
table_kept IntentionWrite IntentionWrite p q = refl
table_kept IntentionWrite ReadIntentionWrite p q = cc
table_kept IntentionWrite Write p q = refl
table_kept ReadIntentionWrite b p q = cc
table_kept Write IntentionRead p q = refl
table_kept Write Read p q = refl
table_kept Write Upgrade p q = refl
table_kept Write IntentionWrite p q = refl
table_kept Write ReadIntentionWrite p q = cc
table_kept Write Write p q = refl

pub taking_kept : TakingAsBefore
taking_kept mode f = table_kept mode mode f f

pub bars_kept : BarsAsBefore
unfolding conflicts
bars_kept s h = same_modes-true _ _ (every_set_at (λ s. same_modes (five_of (bars s)) (bars_of_five s)) s h refl)

pub sixth_by_others : SixthByOthers
unfolding conflicts
sixth_by_others s h =
    same_bool_eq _ _ (every_set_at (λ s. same_bool (has ReadIntentionWrite (bars s)) (has_below_write (bars_of_five s))) s h refl)

pub covers_kept : CoversAsBefore
unfolding conflicts
covers_kept s IntentionRead h f = same_bool_eq _ _ (every_set_at (λ s. same_bool (covers s IntentionRead) (covers_of_five s IntentionRead)) s h refl)
covers_kept s Read h f = same_bool_eq _ _ (every_set_at (λ s. same_bool (covers s Read) (covers_of_five s Read)) s h refl)
covers_kept s Upgrade h f = same_bool_eq _ _ (every_set_at (λ s. same_bool (covers s Upgrade) (covers_of_five s Upgrade)) s h refl)
covers_kept s IntentionWrite h f = same_bool_eq _ _ (every_set_at (λ s. same_bool (covers s IntentionWrite) (covers_of_five s IntentionWrite)) s h refl)
covers_kept s ReadIntentionWrite h f = cc
covers_kept s Write h f = same_bool_eq _ _ (every_set_at (λ s. same_bool (covers s Write) (covers_of_five s Write)) s h refl)

pub same_kept : SameBarsAsBefore
unfolding conflicts
same_kept s t h k =
    same_bool_eq _ _
    (every_set_at (λ t. same_bool (same_modes (bars s) (bars t)) (same_modes (bars_of_five s) (bars_of_five t))) t k
    (every_set_at (λ s. every_set (λ t. same_bool (same_modes (bars s) (bars t)) (same_modes (bars_of_five s) (bars_of_five t)))) s h refl))

pub none_kept : NoneBarredAsBefore
unfolding conflicts
none_kept s h = same_bool_eq _ _ (every_set_at (λ s. same_bool (has_none (bars s)) (has_none (bars_of_five s))) s h refl)
