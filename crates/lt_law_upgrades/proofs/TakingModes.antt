-- What the conflict table says of modes that exclude themselves.
use Rattle.std.proofs.Common.{◌≡◌, Bool, true, false, refl, ◌&&◌, ◌||◌, not}
use Rattle.std.proofs.lemmas.Bool.{and_parts}
use Rattle.lt_modes.specs.declared.mode.Mode.{Mode}
use Rattle.lt_modes.specs.declared.mode.Mode.TheVariants.{Read, Upgrade, IntentionWrite}
use Rattle.lt_modes.specs.Modes.{conflicts, excludes_itself, same_mode, one, covers}
use Rattle.lt_modes.proofs.ModeAlgebra.{each_mode, same_mode-true}

implies_at : (a b : Bool) → (not a || b) ≡ true → a ≡ true → b ≡ true
implies_at true b h e = h
implies_at false b h e = cc

unless_at : (a b : Bool) → (a || b) ≡ true → a ≡ false → b ≡ true
unless_at true b h e = cc
unless_at false b h e = h

-- two of them conflict
clash : (a b : Mode) → (not (excludes_itself a) || (not (excludes_itself b) || conflicts a b)) ≡ true
unfolding conflicts
clash = each_mode (λ a. (b : Mode) → (not (excludes_itself a) || (not (excludes_itself b) || conflicts a b)) ≡ true)
    (each_mode _ refl refl refl refl refl refl) (each_mode _ refl refl refl refl refl refl) (each_mode _ refl refl refl refl refl refl)
    (each_mode _ refl refl refl refl refl refl) (each_mode _ refl refl refl refl refl refl) (each_mode _ refl refl refl refl refl refl)

pub taking_clash : (a b : Mode) → excludes_itself a ≡ true → excludes_itself b ≡ true → conflicts a b ≡ true
taking_clash a b e f = implies_at (excludes_itself b) (conflicts a b) (implies_at (excludes_itself a) _ (clash a b) e) f

-- one of them covers each mode that doesn't conflict with it
cover : (a b : Mode) → (not (excludes_itself a) || (conflicts b a || covers (one a) b)) ≡ true
unfolding conflicts
cover = each_mode (λ a. (b : Mode) → (not (excludes_itself a) || (conflicts b a || covers (one a) b)) ≡ true)
    (each_mode _ refl refl refl refl refl refl) (each_mode _ refl refl refl refl refl refl) (each_mode _ refl refl refl refl refl refl)
    (each_mode _ refl refl refl refl refl refl) (each_mode _ refl refl refl refl refl refl) (each_mode _ refl refl refl refl refl refl)

pub taking_covers : (a b : Mode) → excludes_itself a ≡ true → conflicts b a ≡ false → covers (one a) b ≡ true
taking_covers a b e f = unless_at (conflicts b a) _ (implies_at (excludes_itself a) _ (cover a b) e) f

-- and each mode covers itself
pub covers_itself : (a : Mode) → covers (one a) a ≡ true
unfolding conflicts
covers_itself = each_mode (λ a. covers (one a) a ≡ true) refl refl refl refl refl refl

-- `intention_write` and `upgrade` conflict with each of them
barred : (a : Mode) → (not (excludes_itself a) || (conflicts IntentionWrite a && conflicts Upgrade a)) ≡ true
unfolding conflicts
barred = each_mode _ refl refl refl refl refl refl

pub taking_barred : (a : Mode) → excludes_itself a ≡ true → (conflicts IntentionWrite a ≡ true) × (conflicts Upgrade a ≡ true)
taking_barred a e = and_parts _ _ (implies_at (excludes_itself a) _ (barred a) e)

-- of all others only `read` conflicts with `intention_write`, and only `intention_write` with `upgrade`
only_read_test : (a : Mode) → (excludes_itself a || (not (conflicts IntentionWrite a) || same_mode a Read)) ≡ true
unfolding conflicts
only_read_test = each_mode _ refl refl refl refl refl refl

only_write_test : (a : Mode) → (excludes_itself a || (not (conflicts Upgrade a) || same_mode a IntentionWrite)) ≡ true
unfolding conflicts
only_write_test = each_mode _ refl refl refl refl refl refl

pub only_read : (a : Mode) → excludes_itself a ≡ false → conflicts IntentionWrite a ≡ true → a ≡ Read
only_read a e f = same_mode-true a Read (implies_at _ _ (unless_at (excludes_itself a) _ (only_read_test a) e) f)

pub only_write : (a : Mode) → excludes_itself a ≡ false → conflicts Upgrade a ≡ true → a ≡ IntentionWrite
only_write a e f = same_mode-true a IntentionWrite (implies_at _ _ (unless_at (excludes_itself a) _ (only_write_test a) e) f)

-- neither of the two excludes itself, and they conflict
pub read_is_gentle : excludes_itself Read ≡ false
unfolding conflicts
read_is_gentle = refl

pub write_is_gentle : excludes_itself IntentionWrite ≡ false
unfolding conflicts
write_is_gentle = refl

pub read_write : conflicts Read IntentionWrite ≡ true
unfolding conflicts
read_write = refl
