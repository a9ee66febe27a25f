-- A flush that tells which rings it gave letters.
use Rattle.std.proofs.Common.{◌≡◌, ◌≢◌, ◌<◌, ◌≤◌, ◌+◌, ◌*◌, ◌%◌, ◌^◌, ◌==◌, ◌⊎◌, ◌++◌, ◌∷◌, [], ◌∙◌, ℕ, Bool, true, false, cond, nat_lt, ◌||◌, max, List, Option, Some, None, MatchBool, zero, suc, inl, inr, refl, sym, ap, subst, arith, length, slice_get, bit_or, w64, append-nil, append_assoc, length-append, eq-eqb, ne_eqb, lt-ltb}
use Rattle.std.specs.Int.{bit_at}
use Rattle.std.specs.List.{count_by}
use Rattle.std.proofs.lemmas.Bool.{cases_eq, cases_lt, le-ltb}
use Rattle.std.proofs.lemmas.List.{length-map}
use Rattle.std.proofs.lemmas.List.Sums.{sum_by-cons}
use Rattle.std.proofs.lemmas.Nat.Bits.{bit_at-zero, bit_at-lt, bit_at_or, bit_at_set_same, bit_at_set_other}
use Rattle.std.proofs.lemmas.Option.{slice_get_cases}
use mathlib.Core.List.{IsPrefix}
use Rattle.rtrb.specs.Ring.{known_free}
use Rattle.lt_modes.specs.State as rules
use Rattle.lt_desk.specs.declared.letter.Letter.{Letter}
use Rattle.lt_desk.specs.declared.letter.Post.{Post}
use Rattle.lt_desk.specs.LetterSeen.{letter_seen}
use Rattle.lt_mail.specs.declared.lane.OutEnd.{OutEnd}
use Rattle.lt_mail.specs.declared.mail.Mail.{Mail}
use Rattle.lt_mail.specs.Words.{OutLane, ring_given, outbox_letters, seen, letters_to, lane_of, outs_count, out_at, on_out, given_to, waiting_to, places_of, places_to, IsFullTo, Both, Alike}
use Rattle.lt_mail.specs.Passing.{OutChanges, Flushes, KeepsSent}
use Rattle.lt_mail.specs.Telling.{GrewIf, has_number, TellsGiven, FlushesFirst}
use Rattle.lt_mail.proofs.LookLemmas.{ends_same, kept_join, flushes_given, flushes_stop}
use Rattle.lt_mail.proofs.PassLemmas.{first_here, first_other}
use Rattle.lt_mail.proofs.RingLemmas.{passed_first}

-- How many letters wait.

letters_count : (node : ℕ) (posts : List Post) → length (letters_to node posts) ≡ count_by (λ (post : Post). post.to == node) posts
letters_count node [] = refl
letters_count node (post ∷ posts) = elim (cases_eq post.to node) [
  | inl same ↦
      ap (λ (letters : List Letter). length letters) (first_here node post posts same)
      ∙ sym (sum_by-cons (λ (p : Post). cond (p.to == node) 1 0) post posts
      ∙ (ap (λ (t : Bool). cond t 1 0 + count_by (λ (p : Post). p.to == node) posts) (eq-eqb post.to node same)
      ∙ (let rest = letters_count node posts in omega (arith, rest))))
  | inr apart ↦
      ap (λ (letters : List Letter). length letters) (first_other node post posts apart)
      ∙ sym (sum_by-cons (λ (p : Post). cond (p.to == node) 1 0) post posts
      ∙ (ap (λ (t : Bool). cond t 1 0 + count_by (λ (p : Post). p.to == node) posts) (ne_eqb post.to node apart)
      ∙ (let rest = letters_count node posts in omega (arith, rest))))
]

pub count_waiting : (m : Mail) (to n : ℕ) → to < outs_count m → n ≡ count_by (λ (post : Post). post.to == to) m.waiting.items → n ≡ length (waiting_to m to)
count_waiting m to n below e = elim (slice_get_cases m.outs.items to).1 [
  | inl there ↦
      e ∙ sym (ap (λ (o : Option OutEnd). length (on_out outbox_letters (lane_of (letters_to to m.waiting.items) o))) there.2
      ∙ (length-map (letters_to to m.waiting.items) letter_seen ∙ letters_count to m.waiting.items))
  | inr past ↦ absurd (omega (arith, past.0, below))
]

-- One outbox that is flushed.

-- a list that is no longer than one that it goes on from is the same
same_length : (xs ys rest : List Letter) → xs ++ rest ≡ ys → length ys ≤ length xs → ys ≡ xs
same_length xs ys [] e short = sym e ∙ append-nil xs
same_length xs ys (letter ∷ rest) e short =
    absurd (omega (arith, length-append xs (letter ∷ rest), ap (λ (letters : List Letter). length letters) e, short))

-- its ring was given letters where fewer wait
pub flushed_told : (a b : Mail) (to fewer waited : ℕ) → OutChanges Flushes a b to → fewer ≡ length (waiting_to b to) → waited ≡ length (waiting_to a to)
    → GrewIf (nat_lt fewer waited) (given_to a to) (given_to b to)
flushed_told a b to fewer waited h now before =
    subst (λ (n : ℕ). GrewIf (nat_lt n waited) (given_to a to) (given_to b to)) (sym now)
    (subst (λ (n : ℕ). GrewIf (nat_lt (length (waiting_to b to)) n) (given_to a to) (given_to b to)) (sym before)
    (here (out_at a to) (out_at b to) h.lane))
  where
    by_lengths : (x y : OutLane) → Flushes x y
        → GrewIf (nat_lt (length (seen (outbox_letters y))) (length (seen (outbox_letters x)))) (seen (ring_given x)) (seen (ring_given y))
    by_lengths x y q =
        let all : length (ring_given y) + length (outbox_letters y) ≡ length (ring_given x) + length (outbox_letters x) =
        sym (length-append (ring_given y) (outbox_letters y)) ∙ (ap (λ (letters : List Letter). length letters) q.sent
        ∙ length-append (ring_given x) (outbox_letters x)) in
        let gx = length-map (ring_given x) letter_seen in
        let gy = length-map (ring_given y) letter_seen in
        let ox = length-map (outbox_letters x) letter_seen in
        let oy = length-map (outbox_letters y) letter_seen in
        elim (cases_lt (length (seen (outbox_letters y))) (length (seen (outbox_letters x)))) [
          | inl less ↦
              subst (λ (t : Bool). GrewIf t (seen (ring_given x)) (seen (ring_given y)))
              (sym (lt-ltb (length (seen (outbox_letters y))) (length (seen (outbox_letters x))) less))
              (omega (arith, all, gx, gy, ox, oy, less))
          | inr more ↦
              subst (λ (t : Bool). GrewIf t (seen (ring_given x)) (seen (ring_given y)))
              (sym (le-ltb (length (seen (outbox_letters y))) (length (seen (outbox_letters x))) more))
              (ap seen (same_length (ring_given x) (ring_given y) q.grew.0 q.grew.1 (omega (arith, all, ox, oy, more))))
        ]

    here : (x y : Option OutLane) → Both Flushes x y
        → GrewIf (nat_lt (length (on_out outbox_letters y)) (length (on_out outbox_letters x))) (on_out ring_given x) (on_out ring_given y)
    here None y q = absurd q
    here (Some x) None q = absurd q
    here (Some x) (Some y) q = by_lengths x y q

kept_itself : (a : Mail) → KeepsSent a a
kept_itself a = record { sent = λ node. refl; ins = λ node. refl; ends = ends_same a }

no_letters : (letters : List Letter) → length (seen letters) ≡ 0 → letters ≡ []
no_letters [] e = refl
no_letters (letter ∷ letters) e = absurd (omega (arith, e))

-- where no letter waits, nothing is to be done
pub none_flushed_to : (a : Mail) (to : ℕ) → to < outs_count a → length (waiting_to a to) ≡ 0 → OutChanges Flushes a a to × KeepsSent a a
none_flushed_to a to below none = (
  record { me = refl; counts = (refl, refl); ins = λ node. refl; lane = there; others = λ node apart. refl },
  kept_itself a,
)
  where
    still : (lane : OutLane) → outbox_letters lane ≡ [] → Flushes lane lane
    still lane empty = record {
      ring = ((refl, refl, refl, refl), refl);
      sent = refl;
      grew = ([], append-nil (ring_given lane));
      places = omega arith;
      first = λ few. empty;
      stops = inl empty;
    }

    here : (o : Option OutEnd) → slice_get a.outs.items to ≡ o → length (on_out outbox_letters (lane_of (letters_to to a.waiting.items) o)) ≡ 0
        → (end : OutEnd) → o ≡ Some end → Both Flushes (lane_of (letters_to to a.waiting.items) o) (lane_of (letters_to to a.waiting.items) o)
    here None at e end is = absurd (cc)
    here (Some x) at e end is = still (record { end = x; outbox = letters_to to a.waiting.items }) (no_letters (letters_to to a.waiting.items) e)

    there : Both Flushes (out_at a to) (out_at a to)
    there = elim (slice_get_cases a.outs.items to).1 [
      | inl at ↦ here (slice_get a.outs.items to) refl none at.0 at.2
      | inr past ↦ absurd (omega (arith, past.0, below))
    ]

-- Outboxes that are flushed one after the other.

tells_nothing : (a : Mail) → TellsGiven 0 a a
tells_nothing a node = subst (λ (bit : ℕ). GrewIf (bit == 1) (given_to a node) (given_to a node)) (sym (bit_at-zero node)) refl

pub first_flushes : (a : Mail) → FlushesFirst 0 0 a a
first_flushes a = record {
  kept = kept_itself a;
  given = λ node. ([], append-nil (given_to a node));
  first = λ node below. absurd (omega (arith, below));
  stops = λ node below. absurd (omega (arith, below));
  later = λ node past. refl;
  told = tells_nothing a;
}

prefix_on : (xs ys zs : List rules.Letter) → IsPrefix xs ys → IsPrefix ys zs → IsPrefix xs zs
prefix_on xs ys zs h k = (h.0 ++ k.0, sym (append_assoc xs h.0 k.0) ∙ (ap (λ (l : List rules.Letter). l ++ k.0) h.1 ∙ k.1))

-- the ring, where it has no free place
abbrev IsFullLane : Option OutLane → Type 0
IsFullLane o = (lane : OutLane) × (o ≡ Some lane) × (known_free lane.end.ring ≡ 0)

module _ (n mask : ℕ) (a b c : Mail) (h : FlushesFirst n mask a b) (one : OutChanges Flushes b c n) (kept : KeepsSent b c) where
  same_given : (node : ℕ) → node ≢ n → given_to c node ≡ given_to b node
  same_given node apart = ap (λ (o : Option OutLane). on_out ring_given o) (one.others node apart)

  given_first : given_to b n ≡ given_to a n
  given_first = ap (λ (o : Option OutLane). on_out ring_given o) (h.later n (omega arith))

  both_alike : (x y : Option OutLane) → Both Flushes x y → Alike Flushes x y
  both_alike None y q = absurd q
  both_alike (Some x) None q = absurd q
  both_alike (Some x) (Some y) q = q

  -- whatever is told of it
  flushed_on : (now : ℕ) → ((node : ℕ) → node ≢ n → has_number now node ≡ has_number mask node)
      → GrewIf (has_number now n) (given_to a n) (given_to c n) → FlushesFirst (n + 1) now a c
  flushed_on now others own = record {
    kept = kept_join a b c h.kept kept;
    given = λ node. elim (cases_eq node n) [
      | inl same ↦ subst (λ (k : ℕ). IsPrefix (given_to a k) (given_to c k)) (sym same)
          (prefix_on (given_to a n) (given_to b n) (given_to c n) (h.given n) (flushes_given b c n one))
      | inr apart ↦ subst (λ (letters : List rules.Letter). IsPrefix (given_to a node) letters) (sym (same_given node apart)) (h.given node)
    ];
    first = λ node below. elim (cases_eq node n) [
      | inl same ↦ subst (λ (k : ℕ). length (given_to c k) < places_to c k → waiting_to c k ≡ []) (sym same)
          (passed_first (out_at b n) (out_at c n) (both_alike (out_at b n) (out_at c n) one.lane))
      | inr apart ↦ subst (λ (o : Option OutLane). length (on_out ring_given o) < places_of o → on_out outbox_letters o ≡ []) (sym (one.others node apart))
          (h.first node (omega (arith, below, apart)))
    ];
    stops = λ node below. elim (cases_eq node n) [
      | inl same ↦ subst (λ (k : ℕ). (waiting_to c k ≡ []) ⊎ IsFullTo c k) (sym same) (flushes_stop b c n one)
      | inr apart ↦ subst (λ (o : Option OutLane). (on_out outbox_letters o ≡ []) ⊎ IsFullLane o) (sym (one.others node apart))
          (h.stops node (omega (arith, below, apart)))
    ];
    later = λ node past. one.others node (λ e. absurd (omega (arith, past, e))) ∙ h.later node (omega (arith, past));
    told = λ node. elim (cases_eq node n) [
      | inl same ↦ subst (λ (k : ℕ). GrewIf (has_number now k) (given_to a k) (given_to c k)) (sym same) own
      | inr apart ↦
          subst (λ (t : Bool). GrewIf t (given_to a node) (given_to c node)) (sym (others node apart))
          (subst (λ (letters : List rules.Letter). GrewIf (has_number mask node) (given_to a node) letters) (sym (same_given node apart)) (h.told node))
    ];
  }

  -- the ring was given letters
  pub marks_one : n < 64 → GrewIf true (given_to b n) (given_to c n) → FlushesFirst (n + 1) (bit_or mask (1 * 2 ^ n % 2 ^ 64)) a c
  marks_one few grew = flushed_on (bit_or mask (1 * 2 ^ n % 2 ^ 64))
      (λ node apart. ap (λ (bit : ℕ). bit == 1) (bit_at_set_other w64 mask n few node apart))
      (subst (λ (t : Bool). GrewIf t (given_to a n) (given_to c n)) (sym (ap (λ (bit : ℕ). bit == 1) (bit_at_set_same w64 mask n few)))
      (subst (λ (letters : List rules.Letter). length letters < length (given_to c n)) given_first grew))

  -- it wasn't
  pub marks_none : GrewIf false (given_to b n) (given_to c n) → FlushesFirst (n + 1) mask a c
  marks_none same = flushed_on mask (λ node apart. refl)
      (subst (λ (letters : List rules.Letter). GrewIf (has_number mask n) (given_to a n) letters) (sym same) (h.told n))

-- no lane is beyond the last one
beyond : (m : Mail) (node : ℕ) → outs_count m ≤ node → waiting_to m node ≡ []
beyond m node past = elim (slice_get_cases m.outs.items node).1 [
  | inl there ↦ absurd (omega (arith, there.1, past))
  | inr none ↦ ap (λ (o : Option OutEnd). on_out outbox_letters (lane_of (letters_to node m.waiting.items) o)) none.1
]

-- all were flushed
pub each_first : (mask : ℕ) (a b : Mail) → FlushesFirst (outs_count a) mask a b → (node : ℕ) → length (given_to b node) < places_to b node → waiting_to b node ≡ []
each_first mask a b h node few = elim (cases_lt node (outs_count a)) [
  | inl below ↦ h.first node below few
  | inr past ↦ beyond b node (omega (arith, past, h.kept.ends.counts.0))
]

pub each_stops : (mask : ℕ) (a b : Mail) → FlushesFirst (outs_count a) mask a b → (node : ℕ) → (waiting_to b node ≡ []) ⊎ IsFullTo b node
each_stops mask a b h node = elim (cases_lt node (outs_count a)) [
  | inl below ↦ h.stops node below
  | inr past ↦ inl (beyond b node (omega (arith, past, h.kept.ends.counts.0)))
]

-- no letter waits at all
pub none_flushed : (a : Mail) → a.waiting.items ≡ [] → FlushesFirst (outs_count a) 0 a a
none_flushed a none = record {
  kept = kept_itself a;
  given = λ node. ([], append-nil (given_to a node));
  first = λ node below few. empty node;
  stops = λ node below. inl (empty node);
  later = λ node past. refl;
  told = tells_nothing a;
}
  where
    by_end : (node : ℕ) (o : Option OutEnd) → on_out outbox_letters (lane_of [] o) ≡ []
    by_end node None = refl
    by_end node (Some end) = refl

    empty : (node : ℕ) → waiting_to a node ≡ []
    empty node = ap (λ (posts : List Post). on_out outbox_letters (lane_of (letters_to node posts) (slice_get a.outs.items node))) none
        ∙ by_end node (slice_get a.outs.items node)

-- Flushes one after the other.

pub grew_join : {X : Type 0} (t u : Bool) (xs ys zs : List X) → GrewIf t xs ys → GrewIf u ys zs → GrewIf (t || u) xs zs
grew_join true true xs ys zs h k = omega (arith, h, k)
grew_join {X = X} true false xs ys zs h k = omega (arith, h, ap (λ (l : List X). length l) k)
grew_join {X = X} false true xs ys zs h k = omega (arith, ap (λ (l : List X). length l) h, k)
grew_join false false xs ys zs h k = k ∙ h

one_of_two : (p q : ℕ) → p < 2 → q < 2 → (max p q == 1) ≡ ((p == 1) || (q == 1))
one_of_two zero zero few less = refl
one_of_two zero (suc zero) few less = refl
one_of_two (suc zero) zero few less = refl
one_of_two (suc zero) (suc zero) few less = refl
one_of_two zero (suc (suc q)) few less = absurd (omega (arith, less))
one_of_two (suc zero) (suc (suc q)) few less = absurd (omega (arith, less))
one_of_two (suc (suc p)) q few less = absurd (omega (arith, few))

pub number_of_either : (m n number : ℕ) → has_number (bit_or m n) number ≡ (has_number m number || has_number n number)
number_of_either m n number =
    ap (λ (bit : ℕ). bit == 1) (bit_at_or m n number)
    ∙ one_of_two (bit_at m number) (bit_at n number) (bit_at-lt m number) (bit_at-lt n number)

pub tells_join : (m n : ℕ) (a b c : Mail) → TellsGiven m a b → TellsGiven n b c → TellsGiven (bit_or m n) a c
tells_join m n a b c h k node =
    subst (λ (t : Bool). GrewIf t (given_to a node) (given_to c node)) (sym (number_of_either m n node))
    (grew_join (has_number m node) (has_number n node) (given_to a node) (given_to b node) (given_to c node) (h node) (k node))

-- the rings were given no letters later
pub tells_later : (mask : ℕ) (a b c : Mail) → TellsGiven mask a b → ((node : ℕ) → given_to c node ≡ given_to b node) → TellsGiven mask a c
tells_later mask a b c h same node =
    subst (λ (letters : List rules.Letter). GrewIf (has_number mask node) (given_to a node) letters) (sym (same node)) (h node)

-- nor before
pub tells_before : (mask : ℕ) (a b c : Mail) → ((node : ℕ) → given_to b node ≡ given_to a node) → TellsGiven mask b c → TellsGiven mask a c
tells_before mask a b c same k node =
    subst (λ (letters : List rules.Letter). GrewIf (has_number mask node) letters (given_to c node)) (same node) (k node)

pub outs_given : (a b : Mail) → ((node : ℕ) → out_at b node ≡ out_at a node) → (node : ℕ) → given_to b node ≡ given_to a node
outs_given a b outs node = ap (λ (o : Option OutLane). on_out ring_given o) (outs node)
