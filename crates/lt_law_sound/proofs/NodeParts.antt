-- Sets of a sound node, before and after a move of one of them.
use Rattle.std.proofs.Common.{ℕ, ◌<◌, ◌≤◌, inl, inr, List, length, Option, Some, None, Bool, refl, sym, subst, arith, if◌then◌else◌, eq-eqb}
use Rattle.std.proofs.lemmas.Bool.{cases_eq}
use Rattle.std.proofs.lemmas.List.Elements.{All-contains, All-weaker}
use Rattle.lt_modes.specs.declared.mode.Mode.{Mode}
use Rattle.lt_modes.specs.declared.parts.Row.{Row}
use Rattle.lt_modes.specs.Script.{ScriptData}
use Rattle.lt_modes.specs.State.{SetState, Made}
use Rattle.lt_modes.specs.Fits.{numbers_of}
use Rattle.lt_modes.specs.Sound.{SoundRow, HoldsGivenUp, SoundPending}
use Rattle.lt_lists.specs.Below.{put}
use Rattle.lt_lists.proofs.Puts.{put-same, put-other}
use Rattle.lt_spec.specs.NodeMove.{NodeState}
use Rattle.lt_model.specs.Invariant.{SoundNode}
use Rattle.lt_law_invariant.proofs.ClientEffects.{GivenBy}
use Rattle.lt_law_invariant.proofs.ClientCommands.{count_within}
use Rattle.lt_law_invariant.proofs.FittingLetters.{few_each}
use Rattle.lt_law_invariant.proofs.ClientMoves.{SoundClients, bonus_at, at_first}
use Rattle.lt_law_sound.proofs.SoundParts.{Outcome, sound_later}

-- what clients of a sound node hold and wait for
pub clients_of : (script : ScriptData) (q : ℕ) (n : NodeState) → SoundNode script q n → SoundClients script n
clients_of script q n h = record {
  kept = h.clients;
  gives =
      λ s under ask there live. given (n.set s).held ask.gives_up ask.client
      ((All-contains (SoundPending (numbers_of script) q (n.set s)) (n.set s).pending ask (h.sets s under).pending there).gives_up live);
  one = λ s under c. few_each (n.set s).pending (h.sets s under).one_ask c;
  some = λ s under. All-weaker (SoundRow (numbers_of script) q) (λ (row : Row). 1 ≤ row.count) (λ row own. own.count) (n.set s).held (h.sets s under).rows;
}
  where
    given : (rows : List Row) (o : Option Mode) (client : ℕ) → HoldsGivenUp rows client o → GivenBy rows client o
    given rows None client held = tt
    given rows (Some mode) client held = omega (arith, held, count_within rows client mode)

-- more may be allowed
pub widened : (script : ScriptData) (q clock : ℕ) (bonus more : ℕ → ℕ) (t u : SetState) → ((c : ℕ) → bonus c ≤ more c)
    → Outcome script q clock bonus t u → Outcome script q clock more t u
widened script q clock bonus more t u grows h = record {
  sound = h.sound;
  clients = record {
    asks = λ c. omega (arith, h.clients.asks c, grows c);
    counts = λ c. omega (arith, h.clients.counts c, grows c);
    one = h.clients.one;
    gives = h.clients.gives;
    some = h.clients.some;
  };
}

-- a set that isn't touched
pub untouched : (script : ScriptData) (q clock s : ℕ) (n : NodeState) → n.clock ≤ clock → SoundNode script q n → s < length script.sets
    → Outcome script q clock (λ c. 0) (n.set s) (n.set s)
untouched script q clock s n later h under = record {
  sound = sound_later script q n.clock clock (n.set s) later (h.sets s under);
  clients = at_first script n (clients_of script q n h) s under;
}

-- one set of the node is in this state now
pub one_touched : (script : ScriptData) (q clock set : ℕ) (bonus : ℕ → ℕ) (n : NodeState) (m : Made) → n.clock ≤ clock → SoundNode script q n
    → Outcome script q clock bonus (n.set set) m.state → (s : ℕ) → s < length script.sets
    → Outcome script q clock (bonus_at set bonus s) (n.set s) (put n.set set m.state s)
one_touched script q clock set bonus n m later h ended s under = elim (cases_eq s set) [
  | inl e ↦ subst (λ (k : ℕ). Outcome script q clock (bonus_at set bonus k) (n.set k) (put n.set set m.state k)) (sym e)
      (subst (λ (b : Bool). Outcome script q clock (λ c. if b then bonus c else 0) (n.set set) (put n.set set m.state set)) (sym (eq-eqb set set refl))
      (subst (Outcome script q clock bonus (n.set set)) (sym (put-same n.set set m.state)) ended))
  | inr d ↦ widened script q clock (λ c. 0) (bonus_at set bonus s) (n.set s) (put n.set set m.state s) (λ c. omega arith)
      (subst (Outcome script q clock (λ c. 0) (n.set s)) (sym (put-other n.set set m.state s d)) (untouched script q clock s n later h under))
]
