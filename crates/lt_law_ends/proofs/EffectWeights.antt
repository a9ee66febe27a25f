-- What a service, freezes and the desk that leaves do to the weight of a set at its node and of the letters sent.
use Rattle.std.proofs.Common.{◌≡◌, inl, inr, ℕ, ◌+◌, ◌<◌, ◌≤◌, List, [], ◌∷◌, length, map, Option, Some, None, Bool, true, false, refl, sym, ap, subst, arith, length-set, ◌==◌, ◌&&◌, ◌||◌, not, if◌then◌else◌, IfSome, remove, count_by, slice_set}
use Rattle.std.proofs.Math.Seq.{set_out}
use Rattle.std.proofs.lemmas.Bool.{cases_lt}
use Rattle.std.proofs.lemmas.List.Sums.{sum_by-cons, sum_by-set, sum_by-remove, count_by-le-length}
use Rattle.lt_modes.specs.declared.mode.Mode.TheVariants.{IntentionRead, Read, Upgrade, IntentionWrite, ReadIntentionWrite, Write}
use Rattle.lt_modes.specs.declared.stamp.Stamp.{Stamp}
use Rattle.lt_modes.specs.declared.ask.Ask.{Ask}
use Rattle.lt_modes.specs.Modes.{Modes, has, bars, has_none, is_within, same_modes, held_modes}
use Rattle.lt_modes.specs.State.{SetState, Desk, Entry, FreezeBody, Made, Post, post_of, no_ask, record_of, entry_of}
use Rattle.lt_modes.specs.Freezing.{cons_if, places_from, map_from, freeze, freeze_at, frozen_by, is_target, targets, frozen_entry, number_after}
use Rattle.lt_modes.specs.Serving.{queue_of, queue_of_desk, put_queue, owed_at, owing, ask_at, served, serve_one, serve_local, serve_copy}
use Rattle.lt_modes.specs.HandingOver.{hand_over_to, settled}
use Rattle.lt_model.specs.PathEffects.{posts_weight}
use Rattle.lt_law_ends.specs.Weights.{queued_weight, is_untold, untold, letter_weight, due_weight, here_weight, state_weight}

-- sets of modes are the same as themselves

within_itself : (a : Modes) → is_within a a ≡ true
within_itself a =
    rw (each (has IntentionRead a), each (has Read a), each (has Upgrade a), each (has IntentionWrite a), each (has ReadIntentionWrite a), each (has Write a)) refl
  where
    each : (x : Bool) → (not x || x) ≡ true
    each true = refl
    each false = refl

pub same_itself : (a : Modes) → same_modes a a ≡ true
same_itself a = rw (within_itself a) refl

-- an entry put in place of another

pub count-set : {X : Type 0} (test : X → Bool) (xs : List X) (i : ℕ) (x : X) → count_by test (slice_set xs i x) ≤ count_by test xs + 1
count-set test xs i x = elim (cases_lt i (length xs)) [
  | inl within ↦ omega (arith, sum_by-set (λ y. if test y then 1 else 0) xs i x x within, at_most (test x))
  | inr out ↦ omega (arith, ap (count_by test) (set_out xs i x (omega (arith, out))))
]
  where
    at_most : (b : Bool) → (if b then 1 else 0) ≤ 1
    at_most true = omega arith
    at_most false = omega arith

-- the desk is fit: its epoch is below `most`, and it has no more entries than there are nodes
abbrev pub IsDeskFit : ℕ → ℕ → Desk → Type 0
IsDeskFit nodes most desk = (desk.epoch < most) × (length desk.entries ≤ nodes)

abbrev pub IsFit : ℕ → ℕ → SetState → Type 0
IsFit nodes most t = IfSome t.desk (IsDeskFit nodes most)

pub few_untold : (nodes most : ℕ) (desk : Desk) → IsDeskFit nodes most desk → untold desk ≤ nodes
few_untold nodes most desk fit = omega (arith, fit.1, count_by-le-length (is_untold (frozen_by desk.queue)) desk.entries)

-- what an effect makes is fit, and weighs at most so much more than what was there
pub record Weighs (nodes most more : ℕ) (t : SetState) (m : Made) : Type 0 where
  pub fit : IsFit nodes most m.state
  pub weight : state_weight nodes most m.state + posts_weight (letter_weight nodes most) m.posts ≤ state_weight nodes most t + more

-- services

pub serves_weight : (nodes most set : ℕ) (stamp : Stamp) (t : SetState) (k : ℕ) → k < length (queue_of t) → IsFit nodes most t
    → Weighs nodes most 0 t (serve_one set stamp k t)
serves_weight nodes most set stamp t k within fit = by_desk t.desk refl
  where
    by_desk : (desk : Option Desk) → t.desk ≡ desk → Weighs nodes most 0 t (serve_one set stamp k t)
    by_desk None e = absurd (omega (arith, within, ap (λ (o : Option Desk). length (queue_of_desk o)) e))
    by_desk (Some desk) e = by_test ((ask_at t k).node == stamp.node)
      where
        fits : IsDeskFit nodes most desk
        fits = subst (λ (o : Option Desk). IfSome o (IsDeskFit nodes most)) e fit

        inside : k < length desk.queue
        inside = omega (arith, within, ap (λ (o : Option Desk). length (queue_of_desk o)) e)

        by_test : (own : Bool) → Weighs nodes most 0 t (if own then serve_local set k t else serve_copy set stamp k (ask_at t k) t)
        by_test true =
            let after : Desk = record desk { queue = remove desk.queue k } in
            let there : put_queue (remove (queue_of t) k) t.desk ≡ Some after = ap (λ (o : Option Desk). put_queue (remove (queue_of_desk o) k) o) e in
            record {
              fit = subst (λ (o : Option Desk). IfSome o (IsDeskFit nodes most)) (sym there) fits;
              weight = omega (
                arith,
                ap (here_weight nodes most t.held t.charge) e,
                ap (here_weight nodes most (served t k).held t.charge) there,
                sum_by-remove (λ (ask : Ask). queued_weight nodes most) desk.queue k no_ask inside,
                few_untold nodes most after fits,
              );
            }
        by_test false =
            let ask = ask_at t k in
            let after : Desk = record (record desk { entries = slice_set desk.entries ask.node (owing ask (entry_of desk ask.node)) }) { queue = remove desk.queue k } in
            let there : owed_at ask k t.desk ≡ Some after = ap (owed_at ask k) e in
            let fits_after : IsDeskFit nodes most after = (fits.0, omega (arith, fits.1, length-set desk.entries ask.node (owing ask (entry_of desk ask.node)))) in
            record {
              fit = subst (λ (o : Option Desk). IfSome o (IsDeskFit nodes most)) (sym there) fits_after;
              weight = omega (
                arith,
                ap (here_weight nodes most t.held t.charge) e,
                ap (here_weight nodes most t.held t.charge) there,
                sum_by-remove (λ (a : Ask). queued_weight nodes most) desk.queue k no_ask inside,
                few_untold nodes most after fits_after,
              );
            }

-- freezes: who is told is no longer to be told

freeze_entries : (me : ℕ) (frozen : Modes) (k : ℕ) (entries : List Entry)
    → count_by (is_untold frozen) (map_from (frozen_entry me frozen) k entries) + length (places_from (is_target me frozen) k entries)
    ≤ count_by (is_untold frozen) entries
freeze_entries me frozen k [] = omega arith
freeze_entries me frozen k (entry ∷ rest) =
    let again = freeze_entries me frozen (k + 1) rest in
    by_test (k == me) (is_untold frozen entry) refl again
  where
    knows : is_untold frozen (record entry { frozen_told = frozen }) ≡ false
    knows = by_none (has_none (record_of entry))
      where
        by_none : (none : Bool) → (not none && not (same_modes frozen frozen)) ≡ false
        by_none true = refl
        by_none false = rw (same_itself frozen) refl

    others : List Entry
    others = map_from (frozen_entry me frozen) (k + 1) rest

    more : List ℕ
    more = places_from (is_target me frozen) (k + 1) rest

    one : Bool → ℕ
    one b = if b then 1 else 0

    by_test : (own untold_yet : Bool) → is_untold frozen entry ≡ untold_yet
        → count_by (is_untold frozen) others + length more ≤ count_by (is_untold frozen) rest
        → count_by (is_untold frozen) ((if own || (not own && untold_yet) then record entry { frozen_told = frozen } else entry) ∷ others)
        + length (cons_if (not own && untold_yet) k more) ≤ count_by (is_untold frozen) (entry ∷ rest)
    by_test true b e again = omega (
      arith,
      again,
      sum_by-cons (λ (x : Entry). if is_untold frozen x then 1 else 0) (record entry { frozen_told = frozen }) others,
      sum_by-cons (λ (x : Entry). if is_untold frozen x then 1 else 0) entry rest,
      ap one knows,
    )
    by_test false true e again = omega (
      arith,
      again,
      sum_by-cons (λ (x : Entry). if is_untold frozen x then 1 else 0) (record entry { frozen_told = frozen }) others,
      sum_by-cons (λ (x : Entry). if is_untold frozen x then 1 else 0) entry rest,
      ap one knows,
      ap one e,
    )
    by_test false false e again = omega (
      arith,
      again,
      sum_by-cons (λ (x : Entry). if is_untold frozen x then 1 else 0) entry others,
      sum_by-cons (λ (x : Entry). if is_untold frozen x then 1 else 0) entry rest,
    )

frozen_length : (me : ℕ) (frozen : Modes) (k : ℕ) (entries : List Entry) → length (map_from (frozen_entry me frozen) k entries) ≡ length entries
frozen_length me frozen k [] = refl
frozen_length me frozen k (entry ∷ rest) = omega (arith, frozen_length me frozen (k + 1) rest)

pub freezes_weight : (nodes most set : ℕ) (stamp : Stamp) (t : SetState) → IsFit nodes most t → Weighs nodes most 0 t (freeze set stamp t)
freezes_weight nodes most set stamp t fit = by_desk t.desk refl
  where
    letters : (number : ℕ) (frozen : Modes) (told_nodes : List ℕ)
        → posts_weight (letter_weight nodes most) (map (λ x. post_of set stamp t x (FreezeBody number frozen)) told_nodes) ≡ length told_nodes
    letters number frozen [] = refl
    letters number frozen (x ∷ rest) = omega (
      arith,
      letters number frozen rest,
      sum_by-cons (λ (post : Post). letter_weight nodes most post.letter) (post_of set stamp t x (FreezeBody number frozen))
          (map (λ y. post_of set stamp t y (FreezeBody number frozen)) rest),
    )

    by_desk : (desk : Option Desk) → t.desk ≡ desk → Weighs nodes most 0 t (freeze_at set stamp t desk)
    by_desk None e = record { fit = fit; weight = omega arith }
    by_desk (Some desk) e =
        let fits = subst (λ (o : Option Desk). IfSome o (IsDeskFit nodes most)) e fit in
        let frozen = frozen_by desk.queue in
        let told_nodes = targets stamp.node frozen desk in
        record {
          fit = (fits.0, omega (arith, fits.1, frozen_length stamp.node frozen 0 desk.entries));
          weight = omega (
            arith,
            ap (here_weight nodes most t.held t.charge) e,
            letters (number_after told_nodes desk.number) frozen told_nodes,
            freeze_entries stamp.node frozen 0 desk.entries,
          );
        }

-- the desk leaves: an epoch more

pub leaves_weight : (nodes most set : ℕ) (stamp : Stamp) (t : SetState) (v : ℕ) → IsFit nodes most t → Weighs nodes most 0 t (hand_over_to set stamp t v t.desk)
leaves_weight nodes most set stamp t v fit = by_desk t.desk refl
  where
    by_desk : (desk : Option Desk) → t.desk ≡ desk → Weighs nodes most 0 t (hand_over_to set stamp t v desk)
    by_desk None e = record { fit = fit; weight = omega arith }
    by_desk (Some desk) e =
        let fits = subst (λ (o : Option Desk). IfSome o (IsDeskFit nodes most)) e fit in
        let entry = settled stamp t (entry_of desk stamp.node) in
        record {
          fit = tt;
          weight = omega (
            arith,
            fits.0,
            ap (here_weight nodes most t.held t.charge) e,
            ap (due_weight most) (same_itself (bars (held_modes t.held))),
            count-set (is_untold (frozen_by desk.queue)) desk.entries stamp.node entry,
          );
        }
