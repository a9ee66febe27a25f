-- What the rule tells of the numbers of badges, and of refused claims.
use Rattle.std.proofs.Common.{◌≡◌, ◌∷◌, sym, refl, ap, ◌∙◌, subst, ⊎_elim}
use mathlib.Core.Logic.{dite}
use native.Mathlib.Decide.{ℕ_discrete}
use Rattle.lt_pool.specs.declared.view.View.{View}
use Rattle.lt_pool.specs.History.{word_left_in, refusal_access, KnowsAllBy}
use Rattle.lt_pool.specs.Rule.{IsLive, AreJoined}
use Rattle.lt_pool.specs.PoolLaws.{EachNumberIsOne, EachRefusalIsTrue}
use Rattle.lt_pool.proofs.ViewLemmas.{one_live, live_set}
use Rattle.lt_pool.proofs.HistoryLemmas.{left_here, known_length, own_is_known_later}
use Rattle.lt_pool.proofs.Recording.{number_low}

module _ {T : Type 0} (continues : T → T → Type 0) where
  pub each_number : EachNumberIsOne continues
  each_number firsts s r first p =
      let f = r.first in
      let one : f.view ≡ first = one_live s.views 0 0 f.view first f.is p refl in
      let a = subst (AreJoined s.views) one f.joined in (
        sym (ap (λ (x : View T). x.number) one) ∙ f.number,
        record { live = r.apart; joined = a.differ; spent = a.spent },
        record { live = λ j v is. number_low s.views j v f is first p; joined = a.below },
      )

  pub each_refusal : EachRefusalIsTrue continues
  each_refusal firsts s t before after id i word inside h =
      let r = before.recorded in
      let q = after.recorded in
      let l = q.latest in
      let a = refusal_access h.old.number i word in
      dite (ℕ_discrete l.0 id)
      (λ e.
      let now : q.history ≡ a ∷ h.before =
      sym l.3 ∙ (ap (λ (x : View T). x.history) (one_live t.views l.0 id l.1 h.new l.2 h.is e) ∙ h.last) in
      q.left i inside ∙ (ap (word_left_in i) now ∙ left_here i a h.before refl))
      (λ ne.
      let was : IsLive s.views l.0 l.1 = ⊎_elim
      (λ x. absurd (ne x.0))
      (λ x. x.1)
      (live_set s.views id l.0 h.new l.1 (subst (λ views. IsLive views l.0 l.1) h.else l.2)) in
      let later : KnowsAllBy l.1.number q.history r.history =
      subst (λ all. KnowsAllBy l.1.number all r.history) l.3 (r.known l.0 l.1 was) in
      let own : KnowsAllBy h.new.number (a ∷ h.before) q.history =
      subst (λ all. KnowsAllBy h.new.number all q.history) h.last (q.known id h.new h.is) in
      absurd (own_is_known_later h.old.number h.new.number l.1.number h.old.history a h.before q.history r.history
      (r.known id h.old h.was) own later refl (known_length h.old.number h.old.history h.before h.others)))
