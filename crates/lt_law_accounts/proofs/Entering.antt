-- Where an ask enters the queue.
use Rattle.std.proofs.Common.{◌≡◌, true, false, ℕ, ◌+◌, ◌-◌, List, [], ◌∷◌, ◌++◌, length, inl, inr, refl, sym, ap, subst, ◌∙◌, arith, append_assoc, append-nil, if◌then◌else◌, IsFalse, insert, length-append}
use Rattle.std.specs.List.{AllByRecursion}
use Rattle.std.proofs.lemmas.List.Edits.{insert-append_right}
use Rattle.lt_modes.specs.declared.ask.Ask.{Ask}
use Rattle.lt_modes.specs.State.{after_holders_from, place}
use Rattle.lt_lists.proofs.AllLemmas.{all_append}
use Rattle.lt_law_accounts.specs.Account.{EndsWithHolder, HolderEntersAfterHolders, OthersEnterLast}

abbrev IsNoHolder : Ask → Type 0
IsNoHolder ask = IsFalse ask.holder

-- the asks, cut after the last holder's ask, which is at this place
record IsCut (asks : List Ask) (place : ℕ) : Type 0 where
  before : List Ask
  after : List Ask
  was : asks ≡ before ++ after
  size : length before ≡ place
  last_holder : EndsWithHolder before
  no_holders : AllByRecursion IsNoHolder after

cut : (front back rest : List Ask) (k found : ℕ) → length front ≡ found → length (front ++ back) ≡ k → EndsWithHolder front → AllByRecursion IsNoHolder back
    → IsCut ((front ++ back) ++ rest) (after_holders_from k found rest)
cut front back [] k found is_found is_k last none = record {
  before = front;
  after = back ++ [];
  was = append_assoc front back [];
  size = is_found;
  last_holder = last;
  no_holders = subst (AllByRecursion IsNoHolder) (sym (append-nil back)) none;
}
cut front back (ask ∷ rest) k found is_found is_k last none =
    elim (ask.holder) as (λ t. ask.holder ≡ t → IsCut ((front ++ back) ++ ask ∷ rest) (after_holders_from (k + 1) (if t then k + 1 else found) rest)) [
      | true ↦ λ e.
          let all : List Ask = (front ++ back) ++ ask ∷ [] in
          let size : length all ≡ k + 1 = length-append (front ++ back) (ask ∷ []) ∙ omega (arith, is_k) in
          subst (λ (l : List Ask). IsCut l (after_holders_from (k + 1) (k + 1) rest))
          (ap (λ l. l ++ rest) (append-nil all) ∙ append_assoc (front ++ back) (ask ∷ []) rest)
          (cut all [] rest (k + 1) (k + 1) size (ap length (append-nil all) ∙ size) (inr (front ++ back, ask, refl, e)) tt)
      | false ↦ λ e.
          let more : List Ask = back ++ ask ∷ [] in
          let size : length (front ++ more) ≡ k + 1 = ap length (sym (append_assoc front back (ask ∷ []))) ∙ length-append (front ++ back) (ask ∷ []) ∙ omega (arith, is_k) in
          subst (λ (l : List Ask). IsCut l (after_holders_from (k + 1) found rest))
          (ap (λ l. l ++ rest) (sym (append_assoc front back (ask ∷ []))) ∙ append_assoc (front ++ back) (ask ∷ []) rest)
          (cut front more rest (k + 1) found is_found size last (all_append IsNoHolder back (ask ∷ []) none (e, tt)))
    ] refl

put_between : (before after : List Ask) (ask : Ask) (k : ℕ) → length before ≡ k → insert (before ++ after) k ask ≡ before ++ ask ∷ after
put_between before after ask k size =
    let first : k - k ≡ 0 = omega arith in
    insert-append_right before after k k ask size (omega arith) ∙ ap (λ j. before ++ insert after j ask) first

pub holder_enters : HolderEntersAfterHolders
holder_enters queue ask e =
    let c = cut [] [] queue 0 0 refl refl (inl refl) tt in
    record {
      before = c.before;
      after = c.after;
      was = c.was;
      is = ap (λ h. insert queue (place queue h) ask) e ∙ ap (λ l. insert l (after_holders_from 0 0 queue) ask) c.was
          ∙ put_between c.before c.after ask (after_holders_from 0 0 queue) c.size;
      last_holder = c.last_holder;
      no_holders = c.no_holders;
    }

pub other_enters : OthersEnterLast
other_enters queue ask e =
    ap (λ h. insert queue (place queue h) ask) e ∙ ap (λ l. insert l (length queue) ask) (sym (append-nil queue)) ∙ put_between queue [] ask (length queue) refl
