-- What the call that counts says, opened by its codes.
use Rattle.std.proofs.Common.{◌≡◌, ◌≢◌, ◌<◌, ◌⊎◌, ◌∙◌, ℕ, Bool, true, false, inl, inr, refl, sym, if◌then◌else◌, Option, Some, None, length, nat_lt}
use Rattle.std.proofs.lemmas.Bool.{ltb-true}
use Rattle.lt_log.specs.LogData.{LogData}
use Rattle.lt_counts.specs.CountLaws.{CountAll}
use Rattle.lt_counts.specs.declared.counted.Counted.TheVariants.{Grants, Changes, Refusals, Waits, Withdrawals, Copies, Freezes, Tokens}
use Rattle.lt_live_c.specs.Counting.{log_behind, CountedInC, code_of_count, TellsCounts}
use Rattle.lt_live_c.specs.CountingTold.{CountsTold}

gone_code : (forgotten beyond : Bool) → ◌≡◌ {A = ℕ} 9 (if forgotten then 9 else (if beyond then 4 else 0)) → forgotten ≡ true
gone_code true beyond e = refl
gone_code false true e = let no : ◌≡◌ {A = ℕ} 9 4 = e in cc
gone_code false false e = let no : ◌≡◌ {A = ℕ} 9 0 = e in cc

beyond_code : (forgotten beyond : Bool) → ◌≡◌ {A = ℕ} 4 (if forgotten then 9 else (if beyond then 4 else 0)) → beyond ≡ true
beyond_code true beyond e = let no : ◌≡◌ {A = ℕ} 4 9 = e in cc
beyond_code false true e = refl
beyond_code false false e = let no : ◌≡◌ {A = ℕ} 4 0 = e in cc

each_code : (code : ℕ) (forgotten beyond : Bool) → code ≡ (if forgotten then 9 else (if beyond then 4 else 0)) → (code ≡ 0) ⊎ ((code ≡ 9) ⊎ (code ≡ 4))
each_code code true beyond e = inr (inl e)
each_code code false true e = inr (inr e)
each_code code false false e = inl e

no_log : (o : Option LogData) → o ≡ None → (code : ℕ) (old new : CountedInC) → TellsCounts o code old new → (code ≡ 2) × (new ≡ old)
no_log None e code old new tells = tells
no_log (Some log) e code old new tells = cc

pub counts_told : CountAll → CountsTold
counts_told all = record {
  read = λ log old new tells. (tells.counts refl).read;
  letters = λ log old new tells. (tells.counts refl).taken;
  places = λ log old new tells. (tells.counts refl).counts.places;
  grants = λ log old new tells. (tells.counts refl).counts.each 7 Grants;
  changes = λ log old new tells. (tells.counts refl).counts.each 7 Changes;
  refusals = λ log old new tells. (tells.counts refl).counts.each 7 Refusals;
  waits = λ log old new tells. (tells.counts refl).counts.each 7 Waits;
  withdrawals = λ log old new tells. (tells.counts refl).counts.each 7 Withdrawals;
  copies = λ log old new tells. (tells.counts refl).counts.each 7 Copies;
  freezes = λ log old new tells. (tells.counts refl).counts.each 7 Freezes;
  tokens = λ log old new tells. (tells.counts refl).counts.each 7 Tokens;
  all = λ log old new tells are. all log.entries old.read old.counts new.counts are (tells.counts refl).counts;
  forgotten = λ log old new tells. ltb-true old.read log.gone (gone_code (nat_lt old.read log.gone) (nat_lt (length log.entries) old.read) tells.told);
  beyond = λ log old new tells.
      ltb-true (length log.entries) old.read (beyond_code (nat_lt old.read log.gone) (nat_lt (length log.entries) old.read) tells.told);
  stays = λ code not log old new tells. tells.keeps not;
  only = λ code log old new tells. each_code code (nat_lt old.read log.gone) (nat_lt (length log.entries) old.read) tells.told;
  wrong = λ content e code old new tells. no_log (log_behind content) e code old new tells;
  granted = refl;
  got = refl;
  refused = refl;
  changed = refl;
  waited = refl;
  withdrawn = refl;
  copied = refl;
  moved = refl;
}
