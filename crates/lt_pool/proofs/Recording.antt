-- How the history of a pool goes on.
use Rattle.std.proofs.Common.{◌≡◌, ◌≢◌, ℕ, ◌+◌, ◌<◌, ◌≤◌, true, List, [], ◌∷◌, ◌++◌, length, slice_index, slice_set, sym, refl, ap, ◌∙◌, subst, inl, inr, ⊎_elim, arith}
use mathlib.Core.Logic.{dite}
use native.Mathlib.Decide.{ℕ_discrete}
use Rattle.lt_pool.specs.declared.view.View.{View}
use Rattle.lt_pool.specs.declared.view.Access.{Access}
use Rattle.lt_pool.specs.History.{AreByUpTo, KnowsAllBy}
use Rattle.lt_pool.specs.Rule.{IsLive, Apart, First, Recorded}
use Rattle.lt_pool.specs.Views.{split_more, split_off, joined_more, spent_view}
use Rattle.lt_pool.proofs.HistoryLemmas.{left_here, left_else, by_more, knows_all, all_by_first, all_by_second, longer_knows}
use Rattle.lt_pool.proofs.ViewLemmas.{there_below, one_live, live_set, set_live, else_live, live_push, push_live, left_live}

module _ {T : Type 0} where
  abbrev history_of : View T → List Access
  history_of v = v.history

  abbrev splits_of : View T → ℕ
  splits_of v = v.splits

  -- what a badge with this view knows of a history
  abbrev Knowing : List Access → View T → Type 0
  Knowing all v = KnowsAllBy v.number v.history all

  -- no live badge has a number above that of the badges that were split off
  pub number_low : (views : List (View T)) (id : ℕ) (v : View T) → First views → IsLive views id v
      → (u : View T) → IsLive views 0 u → v.number ≤ u.splits
  number_low views id v f is u p =
      subst (λ (x : View T). v.number ≤ x.splits) (one_live views 0 0 f.view u f.is p refl)
      (dite (ℕ_discrete id 0)
      (λ z.
      let nought : v.number ≡ 0 =
      ap (λ (x : View T). x.number) (one_live views id 0 v f.view is f.is z) ∙ f.number in
      omega arith)
      (λ ne. (f.below v.number (f.others id v is ne)).1))

  -- a live badge makes this access
  pub records : (firsts : List T) (words after : List ℕ) (views : List (View T)) (id : ℕ) (v w : View T) (a : Access)
      → Apart views → First views → IsLive views id v → w.live ≡ true → w.splits ≡ v.splits
      → (r : Recorded firsts words views) → a.by ≡ v.number → w.history ≡ a ∷ r.history
      → a.slot < length firsts → a.found ≡ slice_index words (a.slot + 1)
      → slice_index after (a.slot + 1) ≡ a.left
      → ((i : ℕ) → i ≢ a.slot → slice_index after (i + 1) ≡ slice_index words (i + 1))
      → Recorded firsts after (slice_set views id w)
  records firsts words after views id v w a apart first is live splits r by now inside found here else =
      let low : (u : View T) → IsLive views 0 u → a.by ≤ u.splits = λ u p.
      subst (λ n. n ≤ u.splits) (sym by) (number_low views id v first is u p) in
      record {
        history = a ∷ r.history;
        found = (found ∙ r.left a.slot inside, r.found);
        left = λ i li. dite (ℕ_discrete i a.slot)
            (λ e. ap (λ x. slice_index after (x + 1)) e ∙ (here ∙ sym (left_here i a r.history e)))
            (λ ne. else i ne ∙ (r.left i li ∙ sym (left_else i a r.history ne)));
        known = λ j u p. ⊎_elim
            (λ t. subst (Knowing (a ∷ r.history)) t.1 (inl now))
            (λ t. inr ((λ e. t.0 (apart j id u v t.1 is (sym e ∙ by))), r.known j u t.1))
            (live_set views id j w u p);
        latest = (id, w, set_live views id v w is live, now);
        by = λ u p. ⊎_elim
            (λ t.
            let was : IsLive views 0 v = subst (λ k. IsLive views k v) (sym t.0) is in
            let as_many : v.splits ≡ u.splits = sym splits ∙ ap splits_of t.1 in
            subst (λ n. AreByUpTo n (a ∷ r.history)) as_many (low v was, r.by v was))
            (λ t. (low u t.1, r.by u t.1))
            (live_set views id 0 w u p);
      }

  -- a badge's view changes, and no slot was accessed
  pub record_stays : (firsts : List T) (words : List ℕ) (views : List (View T)) (id : ℕ) (v w : View T)
      → IsLive views id v → w.live ≡ true → w.number ≡ v.number → w.splits ≡ v.splits → w.history ≡ v.history
      → Recorded firsts words views → Recorded firsts words (slice_set views id w)
  record_stays firsts words views id v w is live number splits same r = record {
    history = r.history;
    found = r.found;
    left = r.left;
    known = λ j u p. ⊎_elim
        (λ t. subst (Knowing r.history) t.1
        (subst (λ h. KnowsAllBy w.number h r.history) (sym same)
        (subst (λ n. KnowsAllBy n v.history r.history) (sym number) (r.known id v is))))
        (λ t. r.known j u t.1)
        (live_set views id j w u p);
    latest = let l = r.latest in dite (ℕ_discrete l.0 id)
        (λ e.
        let all = sym (ap history_of (one_live views l.0 id l.1 v l.2 is e)) ∙ l.3 in
        (id, w, set_live views id v w is live, same ∙ all))
        (λ ne. (l.0, l.1, else_live views id l.0 l.1 w ne l.2, l.3));
    by = λ u p. ⊎_elim
        (λ t.
        let was : IsLive views 0 v = subst (λ k. IsLive views k v) (sym t.0) is in
        let as_many : v.splits ≡ u.splits = sym splits ∙ ap splits_of t.1 in
        subst (λ n. AreByUpTo n r.history) as_many (r.by v was))
        (λ t. r.by u t.1)
        (live_set views id 0 w u p);
  }

  pub record_splits : (firsts : List T) (words : List ℕ) (views : List (View T)) (id : ℕ) (v : View T)
      → IsLive views id v → id ≡ 0 → Recorded firsts words views
      → Recorded firsts words (slice_set views id (split_more v) ++ split_off v ∷ [])
  record_splits firsts words views id v is place r =
      let w = split_more v in
      let new = split_off v in
      let after = slice_set views id w in
      let by = r.by v (subst (λ k. IsLive views k v) place is) in
      let first : IsLive after 0 w = subst (λ k. IsLive after k w) place (set_live views id v w is is.live) in
      record {
        history = r.history;
        found = r.found;
        left = r.left;
        known = λ j u p. ⊎_elim
            (λ old. ⊎_elim
            (λ t. subst (Knowing r.history) t.1 (r.known id v is))
            (λ t. r.known j u t.1)
            (live_set views id j w u old))
            (λ t. subst (Knowing r.history) t.1 (knows_all v.splits (v.splits + 1) (omega arith) r.history by))
            (live_push after new u j p);
        latest = let l = r.latest in dite (ℕ_discrete l.0 id)
            (λ e.
            let all = sym (ap history_of (one_live views l.0 id l.1 v l.2 is e)) ∙ l.3 in
            (id, w, push_live after new w id (set_live views id v w is is.live), all))
            (λ ne. (l.0, l.1, push_live after new l.1 l.0 (else_live views id l.0 l.1 w ne l.2), l.3));
        by = λ u p. ⊎_elim
            (λ old. ⊎_elim
            (λ t.
            let more : v.splits + 1 ≡ u.splits = ap splits_of t.1 in
            by_more v.splits u.splits (omega arith) r.history by)
            (λ t. absurd (t.0 (sym place)))
            (live_set views id 0 w u old))
            (λ t. let inside = there_below after 0 w first.there in let end = t.0 in absurd (omega arith))
            (live_push after new u 0 p);
      }

  pub record_joins : (firsts : List T) (words : List ℕ) (views : List (View T)) (id other : ℕ) (v w : View T)
      → IsLive views id v → IsLive views other w → other ≢ id → Recorded firsts words views
      → Recorded firsts words (slice_set (slice_set views id (joined_more v w)) other spent_view)
  record_joins firsts words views id other v w is was apart r =
      let both = joined_more v w in
      let after = slice_set views id both in
      let end = slice_set after other spent_view in
      let first : IsLive end id both =
      else_live after other id both spent_view (λ e. apart (sym e)) (set_live views id v both is is.live) in
      record {
        history = r.history;
        found = r.found;
        left = r.left;
        known = λ j u p. ⊎_elim
            (λ t. subst (Knowing r.history) t.1
            (longer_knows v.number w.number v.history w.history r.history (r.known id v is) (r.known other w was)))
            (λ t. r.known j u t.1)
            (live_set views id j both u (left_live after other j u spent_view refl p).1);
        latest = let l = r.latest in dite (ℕ_discrete l.0 id)
            (λ e.
            let all = sym (ap history_of (one_live views l.0 id l.1 v l.2 is e)) ∙ l.3 in
            (id, both, first, all_by_first w.number v.history w.history r.history (r.known other w was) all))
            (λ ne. dite (ℕ_discrete l.0 other)
            (λ e.
            let all = sym (ap history_of (one_live views l.0 other l.1 w l.2 was e)) ∙ l.3 in
            (id, both, first, all_by_second v.number v.history w.history r.history (r.known id v is) all))
            (λ nor.
            let live = else_live after other l.0 l.1 spent_view nor (else_live views id l.0 l.1 both ne l.2) in
            (l.0, l.1, live, l.3)));
        by = λ u p. ⊎_elim
            (λ t.
            let at : IsLive views 0 v = subst (λ k. IsLive views k v) (sym t.0) is in
            subst (λ n. AreByUpTo n r.history) (ap splits_of t.1) (r.by v at))
            (λ t. r.by u t.1)
            (live_set views id 0 both u (left_live after other 0 u spent_view refl p).1);
      }
