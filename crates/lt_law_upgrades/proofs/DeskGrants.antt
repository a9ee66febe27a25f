-- The desk stays with a mode that excludes itself as modes are granted and released.
use Rattle.std.proofs.Common.{◌≡◌, ℕ, inl, inr, List, Option, Some, None, Bool, true, false, refl, sym, subst, not, IsTrue, is_some}
use Rattle.std.proofs.lemmas.Bool.{and_parts, or_cases}
use Rattle.lt_modes.specs.declared.mode.Mode.{Mode}
use Rattle.lt_modes.specs.declared.parts.Row.{Row}
use Rattle.lt_modes.specs.Modes.{Modes, conflicts, excludes_itself, has, one, bars, covers, held_modes, is_within, own_modes, other_modes, add_lock}
use Rattle.lt_modes.specs.State.{SetState, Desk}
use Rattle.lt_modes.specs.Serving.{give_up}
use Rattle.lt_modes.proofs.ModeAlgebra.{covers_by_table}
use Rattle.lt_modes.specs.declared.mode.Mode.TheVariants.{Read, Upgrade, IntentionWrite}
use Rattle.lt_modes.specs.ModeLaws.{BarsBy}
use Rattle.lt_modes.specs.Granting.{may_join, can_grant}
use Rattle.lt_modes.specs.SetMove.{given}
use Rattle.lt_law_accounts.proofs.AccountFacts.{has-with_mode}
use Rattle.lt_law_accounts.proofs.Rows.{AreFewer, held_fewer, held_one_more, rows_granted, own_is_held}
use Rattle.lt_law_upgrades.proofs.TakingModes.{taking_barred, only_read, only_write}
use Rattle.lt_law_upgrades.proofs.DeskStays.{KeepsDesk, AreLive, not_here}

-- what is so as a command begins: between moves the charge bars what the held modes bar, and nobody holds both `read` and
-- `intention_write`
pub record Begins (nodes : ℕ) (t : SetState) : Type 0 where
  pub keeps : KeepsDesk nodes t
  pub live : AreLive t
  pub charge : t.desk ≡ None → bars (held_modes t.held) ≡ bars t.charge
  pub apart : IsTrue (has Read (held_modes t.held)) → IsTrue (has IntentionWrite (held_modes t.held)) → ⊥

-- away from the desk no mode that excludes itself is granted
away_granted : (nodes me client : ℕ) (mode : Mode) (t : SetState) → Begins nodes t → t.desk ≡ None → can_grant me t client mode ≡ true → IsTrue (excludes_itself mode) → ⊥
away_granted nodes me client mode t h away can taking = h.apart
    (subst (λ (m : Mode). IsTrue (has m held)) (only_read reads.0 (gentle reads.0 reads.2) reads.1) reads.2)
    (subst (λ (m : Mode). IsTrue (has m held)) (only_write writes.0 (gentle writes.0 writes.2) writes.1) writes.2)
  where
    held : Modes
    held = held_modes t.held

    gentle : (m : Mode) → IsTrue (has m held) → excludes_itself m ≡ false
    gentle m there = by_test (excludes_itself m) refl
      where
        by_test : (b : Bool) → excludes_itself m ≡ b → b ≡ false
        by_test false e = refl
        by_test true e = not_here t.desk away (h.keeps.desk m there e)

    barred : (other : Mode) → conflicts other mode ≡ true → BarsBy conflicts held other
    barred other conflict = elim (or_cases (covers (own_modes t.held client) mode) _ can) [
      | inl own ↦
          let bar = covers_by_table (own_modes t.held client) mode own other conflict in
          (bar.0, bar.1, own_is_held t.held client bar.0 bar.2)
      | inr joins ↦
          let joined = (and_parts (not (has mode (bars (other_modes t.held client)))) (may_join me t client mode t.desk) joins).1 in
          let charged = (and_parts (covers t.charge mode) (not (has mode t.frozen)) (subst (λ (o : Option Desk). may_join me t client mode o ≡ true) away joined)).0 in
          covers_by_table held mode (subst (λ (b : Modes). is_within (bars (one mode)) b ≡ true) (sym (h.charge away)) charged) other conflict
    ]

    reads : BarsBy conflicts held IntentionWrite
    reads = barred IntentionWrite (taking_barred mode taking).0

    writes : BarsBy conflicts held Upgrade
    writes = barred Upgrade (taking_barred mode taking).1

-- a mode is granted
pub granted_keeps : (nodes me client : ℕ) (mode : Mode) (gives_up : Option Mode) (t : SetState) → Begins nodes t → can_grant me t client mode ≡ true
    → KeepsDesk nodes (given client mode gives_up t)
granted_keeps nodes me client mode gives_up t h can = record {
  entries = h.keeps.entries;
  desk = λ m there taking.
      elim (has-with_mode m mode (held_modes t.held) (held_one_more client mode t.held (add_lock (give_up t.held client gives_up) client mode) (rows_granted t.held client mode gives_up) m there)) [
        | inl old ↦ h.keeps.desk m old taking
        | inr same ↦ by_desk t.desk refl (subst (λ (x : Mode). IsTrue (excludes_itself x)) (sym same) taking)
      ];
  fresh = h.keeps.fresh;
  next = λ ask g there e. let n = h.keeps.next ask g there e in record { taking = n.taking; higher = n.higher; holder = n.holder; rest = n.rest; queue = n.queue };
}
  where
    by_desk : (o : Option Desk) → t.desk ≡ o → IsTrue (excludes_itself mode) → is_some o ≡ true
    by_desk None away taking = absurd (away_granted nodes me client mode t h away can taking)
    by_desk (Some desk) here taking = refl

-- no row is new
pub fewer_keeps : (nodes : ℕ) (t : SetState) (rows : List Row) → AreFewer t.held rows → KeepsDesk nodes t → KeepsDesk nodes (record t { held = rows })
fewer_keeps nodes t rows fewer h = record {
  entries = h.entries;
  desk = λ m there taking. h.desk m (held_fewer t.held rows fewer m there) taking;
  fresh = h.fresh;
  next = λ ask g there e. let n = h.next ask g there e in record { taking = n.taking; higher = n.higher; holder = n.holder; rest = n.rest; queue = n.queue };
}
