-- Runners at the start.
use Rattle.std.proofs.Common.{◌≡◌, ℕ, zero, suc, ◌+◌, ◌<◌, ◌≤◌, inl, inr, List, [], ◌∷◌, ◌++◌, length, Some, None, refl, sym, ap, subst, arith, ◌∙◌, drop, ◌⊎◌, slice_get, slice_index_or, remove, length-append, length-drop}
use Rattle.lt_modes.specs.Script.{ScriptData}
use Rattle.lt_spec.specs.Script.{IsScript}
use Rattle.lt_lists.proofs.Members.{some_equal}
use Rattle.lt_spec.specs.declared.moves.TheConstants.{MAX_MOVES_OF_SERVICE}
use Rattle.lt_desk.specs.declared.letter.Letter.{Letter}
use Rattle.lt_mail.specs.declared.mail.Mail.{Mail}
use Rattle.lt_mail.specs.declared.lane.OutEnd.{OutEnd}
use Rattle.lt_mail.specs.Words.{OutLane, lane_of, letters_to, out_at, in_at, places_of, IsOpenLink, Both}
use Rattle.lt_mail.specs.Opening.{Opened, IsFresh}
use Rattle.lt_runner.specs.declared.parts.Parts.{Parts}
use Rattle.lt_runner.specs.Kept.{HasAll}
use Rattle.lt_runner.specs.Ready.{StartsWith}
use Rattle.lt_threads.specs.Pushes.{IsFirstRunner, Starting, IsFirstCrew}
use Rattle.lt_threads.proofs.SameChoice.{same_itself, same_before}

-- before the first runner
pub starting : (script : ScriptData) (capacity limit : ℕ) (mails : List Mail) → Opened script.nodes capacity mails → Starting script capacity limit 0 mails []
starting script capacity limit mails opened = record {
  all = mails;
  opened = opened;
  left_is = refl;
  count = refl;
  each = λ j p e. none p e;
}
  where
    none : (p : Parts) {A : Type 0} → None ≡ Some p → A
    none p e = cc

pub has_mail : (script : ScriptData) (capacity limit k : ℕ) (left : List Mail) (rs : List Parts) → Starting script capacity limit k left rs → k < script.nodes → 0 < length left
has_mail script capacity limit k left rs h below =
    omega (arith, below, h.opened.count, ap (λ (ms : List Mail). length ms) h.left_is, length-drop k h.all)

first_left : (k : ℕ) (all : List Mail) (d : Mail) → k < length all → slice_get all k ≡ Some (slice_index_or (drop k all) 0 d)
first_left zero [] d h = absurd (omega (arith, h))
first_left zero (m ∷ ms) d h = refl
first_left (suc k) [] d h = absurd (omega (arith, h))
first_left (suc k) (m ∷ ms) d h = first_left k ms d (omega (arith, h))

rest_left : (k : ℕ) (all : List Mail) → k < length all → remove (drop k all) 0 ≡ drop (k + 1) all
rest_left zero [] h = absurd (omega (arith, h))
rest_left zero (m ∷ ms) h = refl
rest_left (suc k) [] h = absurd (omega (arith, h))
rest_left (suc k) (m ∷ ms) h =
    let same : suc (k + 1) ≡ suc k + 1 = omega arith in
    rest_left k ms (omega (arith, h)) ∙ ap (λ (n : ℕ). drop n (m ∷ ms)) same

pub next_fresh : (script : ScriptData) (capacity limit k : ℕ) (left : List Mail) (rs : List Parts) (d : Mail) → Starting script capacity limit k left rs → k < script.nodes
    → IsFresh script.nodes k (slice_index_or left 0 d)
next_fresh script capacity limit k left rs d h below =
    let here = first_left k h.all d (omega (arith, below, h.opened.count)) in
    rw h.left_is (h.opened.fresh k (slice_index_or (drop k h.all) 0 d) here)

get_push : (rs : List Parts) (p : Parts) (j : ℕ) (q : Parts) → slice_get (rs ++ p ∷ []) j ≡ Some q → (slice_get rs j ≡ Some q) ⊎ ((j ≡ length rs) × (p ≡ q))
get_push [] p zero q e = inr (refl, some_equal p q e)
get_push [] p (suc j) q e = cc
get_push (x ∷ rs) p zero q e = inl e
get_push (x ∷ rs) p (suc j) q e = later (get_push rs p j q e)
  where
    later : (slice_get rs j ≡ Some q) ⊎ ((j ≡ length rs) × (p ≡ q)) → (slice_get rs j ≡ Some q) ⊎ ((suc j ≡ suc (length rs)) × (p ≡ q))
    later (inl old) = inl old
    later (inr new) = inr (ap suc new.0, new.1)

pub one_more : (script : ScriptData) (capacity limit k : ℕ) (left : List Mail) (rs : List Parts) (d : Mail) (p : Parts) → Starting script capacity limit k left rs → k < script.nodes
    → StartsWith script k (slice_index_or left 0 d) limit p → HasAll p → Starting script capacity limit (k + 1) (remove left 0) (rs ++ p ∷ [])
one_more script capacity limit k left rs d p h below starts all = record {
  all = h.all;
  opened = h.opened;
  left_is = ap (λ (ms : List Mail). remove ms 0) h.left_is ∙ rest_left k h.all within;
  count = omega (arith, length-append rs (p ∷ []), h.count);
  each = λ j q e. by_place j q (get_push rs p j q e);
}
  where
    within : k < length h.all
    within = omega (arith, below, h.opened.count)

    mail : slice_get h.all k ≡ Some p.mail
    mail =
        let here = first_left k h.all d within in
        here ∙ ap Some (sym (ap (λ (ms : List Mail). slice_index_or ms 0 d) h.left_is) ∙ sym starts.mail_is)

    by_place : (j : ℕ) (q : Parts) → (slice_get rs j ≡ Some q) ⊎ ((j ≡ length rs) × (p ≡ q)) → IsFirstRunner script limit j h.all q
    by_place j q (inl old) = h.each j q old
    by_place j q (inr new) =
        let at : j ≡ k = new.0 ∙ h.count in
        subst (λ (x : Parts). IsFirstRunner script limit j h.all x) new.1
        (subst (λ (i : ℕ). IsFirstRunner script limit i h.all p) (sym at)
        (record { script_is = starts.script_is; me = starts.me; limit_is = starts.limit_is; log = starts.log; has_all = all; mail = mail }))

-- a ring to each node, with these places
places_at : (capacity : ℕ) (letters : List Letter) (ends : List OutEnd) (other : ℕ) → other < length ends
    → ((lane : OutLane) → lane_of letters (slice_get ends other) ≡ Some lane → places_of (Some lane) ≡ capacity)
    → places_of (lane_of letters (slice_get ends other)) ≡ capacity
places_at capacity letters [] other below h = absurd (omega (arith, below))
places_at capacity letters (end ∷ ends) zero below h = h (record { end = end; outbox = letters }) refl
places_at capacity letters (end ∷ ends) (suc other) below h = places_at capacity letters ends other (omega (arith, below)) h

pub first_crew : (script : ScriptData) (capacity limit : ℕ) (left : List Mail) (rs : List Parts) → IsScript script → limit ≤ MAX_MOVES_OF_SERVICE
    → Starting script capacity limit script.nodes left rs → IsFirstCrew script capacity limit rs
first_crew script capacity limit left rs is_script few h = record {
  crew = record {
    is_script = is_script;
    count = h.count;
    each = λ k p e. let first = h.each k p e in record {
      script_is = same_before k script p.node.script script first.script_is (same_itself k script);
      me = first.me;
      limit = omega (arith, first.limit_is, few);
    };
    links = λ a b x y ea eb apart.
        let one = h.each a x ea in
        let two = h.each b y eb in
        let fresh = h.opened.fresh a x.mail one.mail in
        let also = h.opened.fresh b y.mail two.mail in
        let linked = h.opened.links a b x.mail y.mail one.mail two.mail in
        subst (λ (i : ℕ). Both IsOpenLink (out_at x.mail b) (in_at y.mail i)) fresh.me
        (subst (λ (i : ℕ). Both IsOpenLink (out_at x.mail i) (in_at y.mail x.mail.me)) also.me linked);
  };
  scripts = λ k p e. (h.each k p e).script_is;
  logs = λ k p e. (h.each k p e).log;
  have_all = λ k p e. (h.each k p e).has_all;
  limits = λ k p e. (h.each k p e).limit_is;
  places = λ k other p e below.
      let mail = (h.each k p e).mail in
      let fresh = h.opened.fresh k p.mail mail in
      places_at capacity (letters_to other p.mail.waiting.items) p.mail.outs.items other (omega (arith, fresh.outs, below))
      (λ lane there. h.opened.places k other p.mail lane mail there);
}
