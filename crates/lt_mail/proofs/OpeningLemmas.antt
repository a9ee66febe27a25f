-- One ring more.
use Rattle.std.proofs.Common.{◌≡◌, ◌≢◌, ℕ, ◌+◌, ◌<◌, inl, inr, List, [], ◌∷◌, ◌++◌, Option, Some, None, length, refl, sym, ap, subst, arith, ◌∙◌, ◌⊎◌, slice_get, zero, suc}
use Rattle.std.proofs.lemmas.Bool.{cases_eq}
use Rattle.std.proofs.lemmas.List.{length_push}
use Rattle.std.proofs.lemmas.Option.{slice_get_within}
use Rattle.lt_mail.specs.declared.lane.OutEnd.{OutEnd}
use Rattle.lt_mail.specs.declared.lane.InLane.{InLane}
use Rattle.lt_mail.specs.declared.mail.Mail.{Mail}
use Rattle.lt_mail.specs.Words.{AreRingEnds, end_at, in_at, outs_count, ins_count, Both}
use Rattle.lt_mail.specs.Opening.{IsNewOut, IsNewIn, AtOne, GainsOut, GainsIn, GainsLink, Opening, AreEmpty, IsEmpty}

pub some_same : {X : Type 0} (x y : X) → Some x ≡ Some y → x ≡ y
some_same x y e = cc

pub none_is_some : {X : Type 0} (x : X) → None ≡ Some x → ⊥
none_is_some x e = absurd (cc)

pushed_cases : {X : Type 0} (xs : List X) (y : X) (j : ℕ) (x : X) → slice_get (xs ++ y ∷ []) j ≡ Some x → (slice_get xs j ≡ Some x) ⊎ ((j ≡ length xs) × (x ≡ y))
pushed_cases [] y zero x e = inr (refl, some_same x y (sym e))
pushed_cases [] y (suc j) x e = absurd (none_is_some x e)
pushed_cases (z ∷ xs) y zero x e = inl e
pushed_cases (z ∷ xs) y (suc j) x e = elim (pushed_cases xs y j x e) [
  | inl there ↦ inl there
  | inr last ↦ inr (omega (arith, last.0), last.1)
]

-- the mail at a place before
record Before (R : Mail → Mail → Type 0) (place : ℕ) (ms : List Mail) (k : ℕ) (n : Mail) : Type 0 where
  m : Mail
  there : slice_get ms k ≡ Some m
  here : k ≡ place → R m n
  other : k ≢ place → n ≡ m

before : (R : Mail → Mail → Type 0) (place : ℕ) (ms ns : List Mail) → AtOne R place ms ns → (k : ℕ) (n : Mail) → slice_get ns k ≡ Some n → Before R place ms k n
before R place ms ns h k n e = elim (cases_eq k place) [
  | inl same ↦ was (slice_get ms k) refl (subst (λ (p : ℕ). Both R (slice_get ms p) (slice_get ns p)) (sym same) h.here) same
  | inr apart ↦ record { m = n; there = sym (h.others k apart) ∙ e; here = λ same. absurd (apart same); other = λ _. refl }
]
  where
    was : (o : Option Mail) → slice_get ms k ≡ o → Both R o (slice_get ns k) → k ≡ place → Before R place ms k n
    was None there q same = absurd q
    was (Some m) there q same = record {
      m = m;
      there = there;
      here = λ _. subst (λ (o : Option Mail). Both R (Some m) o) e q;
      other = λ apart. absurd (apart same);
    }

-- what the mail at a place gained
record WasAt (a b k : ℕ) (out : OutEnd) (into : InLane) (ms : List Mail) (n : Mail) : Type 0 where
  m : Mail
  there : slice_get ms k ≡ Some m
  me : n.me ≡ m.me
  waiting : n.waiting.items ≡ m.waiting.items
  out_here : k ≡ a → n.outs.items ≡ m.outs.items ++ out ∷ []
  out_other : k ≢ a → n.outs.items ≡ m.outs.items
  in_here : k ≡ b → n.ins ≡ m.ins ++ into ∷ []
  in_other : k ≢ b → n.ins ≡ m.ins

was_at : (capacity a b : ℕ) (ms ns : List Mail) (h : GainsLink capacity a b ms ns) (k : ℕ) (n : Mail) → slice_get ns k ≡ Some n → WasAt a b k h.out h.into ms n
was_at capacity a b ms ns h k n e = record {
  m = first.m;
  there = first.there;
  me = late_me ∙ early_me;
  waiting = late_waiting ∙ early_waiting;
  out_here = λ same. late_outs ∙ (first.here same).1;
  out_other = λ apart. late_outs ∙ ap (λ (m : Mail). m.outs.items) (first.other apart);
  in_here = λ same. (second.here same).2 ∙ ap (λ (items : List InLane). items ++ h.into ∷ []) early_ins;
  in_other = λ apart. ap (λ (m : Mail). m.ins) (second.other apart) ∙ early_ins;
}
  where
    second : Before (GainsIn h.into) b h.mid k n
    second = before (GainsIn h.into) b h.mid ns h.ins k n e

    first : Before (GainsOut h.out) a ms k second.m
    first = before (GainsOut h.out) a ms h.mid h.outs k second.m second.there

    late_outs : n.outs.items ≡ second.m.outs.items
    late_outs = elim (cases_eq k b) [
      | inl same ↦ (second.here same).1
      | inr apart ↦ ap (λ (m : Mail). m.outs.items) (second.other apart)
    ]

    late_me : n.me ≡ second.m.me
    late_me = elim (cases_eq k b) [
      | inl same ↦ (second.here same).0
      | inr apart ↦ ap (λ (m : Mail). m.me) (second.other apart)
    ]

    late_waiting : n.waiting.items ≡ second.m.waiting.items
    late_waiting = elim (cases_eq k b) [
      | inl same ↦ (second.here same).3
      | inr apart ↦ ap (λ (m : Mail). m.waiting.items) (second.other apart)
    ]

    early_waiting : second.m.waiting.items ≡ first.m.waiting.items
    early_waiting = elim (cases_eq k a) [
      | inl same ↦ (first.here same).3
      | inr apart ↦ ap (λ (m : Mail). m.waiting.items) (first.other apart)
    ]

    early_ins : second.m.ins ≡ first.m.ins
    early_ins = elim (cases_eq k a) [
      | inl same ↦ (first.here same).2
      | inr apart ↦ ap (λ (m : Mail). m.ins) (first.other apart)
    ]

    early_me : second.m.me ≡ first.m.me
    early_me = elim (cases_eq k a) [
      | inl same ↦ (first.here same).0
      | inr apart ↦ ap (λ (m : Mail). m.me) (first.other apart)
    ]

out_cases : (a b k : ℕ) (out : OutEnd) (into : InLane) (ms : List Mail) (n : Mail) (w : WasAt a b k out into ms n) (j : ℕ) (lane : OutEnd) → end_at n j ≡ Some lane
    → (end_at w.m j ≡ Some lane) ⊎ ((k ≡ a) × (j ≡ outs_count w.m) × (lane ≡ out))
out_cases a b k out into ms n w j lane e = elim (cases_eq k a) [
  | inl same ↦ elim (pushed_cases w.m.outs.items out j lane (subst (λ (items : List OutEnd). slice_get items j ≡ Some lane) (w.out_here same) e)) [
    | inl old ↦ inl old
    | inr new ↦ inr (same, new.0, new.1)
  ]
  | inr apart ↦ inl (subst (λ (items : List OutEnd). slice_get items j ≡ Some lane) (w.out_other apart) e)
]

in_cases : (a b k : ℕ) (out : OutEnd) (into : InLane) (ms : List Mail) (n : Mail) (w : WasAt a b k out into ms n) (j : ℕ) (lane : InLane) → in_at n j ≡ Some lane
    → (in_at w.m j ≡ Some lane) ⊎ ((k ≡ b) × (j ≡ ins_count w.m) × (lane ≡ into))
in_cases a b k out into ms n w j lane e = elim (cases_eq k b) [
  | inl same ↦ elim (pushed_cases w.m.ins into j lane (subst (λ (items : List InLane). slice_get items j ≡ Some lane) (w.in_here same) e)) [
    | inl old ↦ inl old
    | inr new ↦ inr (same, new.0, new.1)
  ]
  | inr apart ↦ inl (subst (λ (items : List InLane). slice_get items j ≡ Some lane) (w.in_other apart) e)
]

-- the new ring is between a and b, and each other one as it was
links_more : (nodes capacity a b : ℕ) (ms ns : List Mail) → Opening nodes capacity a b ms → GainsLink capacity a b ms ns
    → (k j : ℕ) (x y : Mail) (out : OutEnd) (into : InLane) → slice_get ns k ≡ Some x → slice_get ns j ≡ Some y
    → end_at x j ≡ Some out → in_at y k ≡ Some into → AreRingEnds out into
links_more nodes capacity a b ms ns h g k j x y out into x_at y_at out_there into_there =
    by_cases (out_cases a b k g.out g.into ms x sender j out out_there) (in_cases a b j g.out g.into ms y taker k into into_there)
  where
    sender : WasAt a b k g.out g.into ms x
    sender = was_at capacity a b ms ns g k x x_at

    taker : WasAt a b j g.out g.into ms y
    taker = was_at capacity a b ms ns g j y y_at

    sent_rows : k ≡ a → outs_count sender.m ≡ b
    sent_rows same = h.outs_at sender.m (subst (λ (p : ℕ). slice_get ms p ≡ Some sender.m) same sender.there)

    taken_rows : j ≡ b → ins_count taker.m ≡ a
    taken_rows same = h.ins_after j taker.m taker.there (omega (arith, same))

    by_cases : (end_at sender.m j ≡ Some out) ⊎ ((k ≡ a) × (j ≡ outs_count sender.m) × (out ≡ g.out))
        → (in_at taker.m k ≡ Some into) ⊎ ((j ≡ b) × (k ≡ ins_count taker.m) × (into ≡ g.into)) → AreRingEnds out into
    by_cases (inl o) (inl i) = h.links k j sender.m taker.m out into sender.there taker.there o i
    by_cases (inl o) (inr i) =
        let row = sent_rows (i.1 ∙ taken_rows i.0) in
        let below = slice_get_within sender.m.outs.items j out o in
        absurd (omega (arith, row, below, i.0))
    by_cases (inr o) (inl i) =
        let row = taken_rows (o.1 ∙ sent_rows o.0) in
        let below = slice_get_within taker.m.ins k into i in
        absurd (omega (arith, row, below, o.0))
    by_cases (inr o) (inr i) = subst (λ (l : OutEnd). AreRingEnds l into) (sym o.2) (subst (λ (l : InLane). AreRingEnds g.out l) (sym i.2) g.new.link)

one_more : (nodes capacity a b : ℕ) (ms ns : List Mail) → Opening nodes capacity a b ms → GainsLink capacity a b ms ns → Opening nodes capacity a (b + 1) ns
one_more nodes capacity a b ms ns h g = record {
  count = g.ins.count ∙ (g.outs.count ∙ h.count);
  me = λ k n there. let w = was k n there in w.me ∙ h.me k w.m w.there;
  waiting = λ k n there. let w = was k n there in w.waiting ∙ h.waiting k w.m w.there;
  outs_before = λ k n there before. let w = was k n there in
      ap (λ (items : List OutEnd). length items) (w.out_other (λ e. omega (arith, e, before))) ∙ h.outs_before k w.m w.there before;
  outs_at = λ n there. let w = was a n there in
      ap (λ (items : List OutEnd). length items) (w.out_here refl) ∙ omega (arith, length_push w.m.outs.items g.out, h.outs_at w.m w.there);
  outs_after = λ k n there after. let w = was k n there in
      ap (λ (items : List OutEnd). length items) (w.out_other (λ e. omega (arith, e, after))) ∙ h.outs_after k w.m w.there after;
  ins_before = ins_before;
  ins_after = λ k n there after. let w = was k n there in
      ap (λ (items : List InLane). length items) (w.in_other (λ e. omega (arith, e, after))) ∙ h.ins_after k w.m w.there (omega (arith, after));
  new_out = λ k j n lane there e. let w = was k n there in elim (out_cases a b k g.out g.into ms n w j lane e) [
    | inl old ↦ h.new_out k j w.m lane w.there old
    | inr new ↦ subst (λ (l : OutEnd). IsNewOut capacity l) (sym new.2) g.new.new_out
  ];
  new_in = λ k j n lane there e. let w = was k n there in elim (in_cases a b k g.out g.into ms n w j lane e) [
    | inl old ↦ h.new_in k j w.m lane w.there old
    | inr new ↦ subst (λ (l : InLane). IsNewIn l) (sym new.2) g.new.new_in
  ];
  links = links_more nodes capacity a b ms ns h g;
}
  where
    was : (k : ℕ) (n : Mail) → slice_get ns k ≡ Some n → WasAt a b k g.out g.into ms n
    was k n there = was_at capacity a b ms ns g k n there

    ins_before : (k : ℕ) (n : Mail) → slice_get ns k ≡ Some n → k < b + 1 → ins_count n ≡ a + 1
    ins_before k n there below = elim (cases_eq k b) [
      | inl same ↦ let w = was k n there in
          ap (λ (items : List InLane). length items) (w.in_here same) ∙ omega (arith, length_push w.m.ins g.into, h.ins_after k w.m w.there (omega (arith, same)))
      | inr apart ↦ let w = was k n there in
          ap (λ (items : List InLane). length items) (w.in_other apart) ∙ h.ins_before k w.m w.there (omega (arith, below, apart))
    ]

next_row : (nodes capacity a : ℕ) (ms : List Mail) → Opening nodes capacity a nodes ms → Opening nodes capacity (a + 1) 0 ms
next_row nodes capacity a ms h = record {
  count = h.count;
  me = h.me;
  waiting = h.waiting;
  outs_before = λ k m there before. elim (cases_eq k a) [
    | inl same ↦ h.outs_at m (subst (λ (p : ℕ). slice_get ms p ≡ Some m) same there)
    | inr apart ↦ h.outs_before k m there (omega (arith, before, apart))
  ];
  outs_at = λ m there. h.outs_after (a + 1) m there (omega arith);
  outs_after = λ k m there after. h.outs_after k m there (omega (arith, after));
  ins_before = λ k m there before. absurd (omega (arith, before));
  ins_after = λ k m there after. h.ins_before k m there (omega (arith, slice_get_within ms k m there, h.count));
  new_out = h.new_out;
  new_in = h.new_in;
  links = h.links;
}

-- one more has no ring
pub next_empty : (n : ℕ) (ms : List Mail) (m : Mail) → AreEmpty n ms → IsEmpty n m → AreEmpty (n + 1) (ms ++ m ∷ [])
next_empty n ms m h e = record {
  count = length_push ms m ∙ ap (λ (k : ℕ). k + 1) h.count;
  each = λ k q there. elim (pushed_cases ms m k q there) [
    | inl old ↦ h.each k q old
    | inr new ↦ subst (λ (x : Mail). IsEmpty k x) (sym new.1) (e.0 ∙ sym (new.0 ∙ h.count), e.1, e.2, e.3)
  ];
}

pub first_row : (nodes capacity : ℕ) (ms : List Mail) → AreEmpty nodes ms → Opening nodes capacity 0 0 ms
first_row nodes capacity ms h = record {
  count = h.count;
  me = λ k m there. (h.each k m there).0;
  waiting = λ k m there. (h.each k m there).3;
  outs_before = λ k m there before. absurd (omega (arith, before));
  outs_at = λ m there. ap (λ (items : List OutEnd). length items) (h.each 0 m there).1;
  outs_after = λ k m there after. ap (λ (items : List OutEnd). length items) (h.each k m there).1;
  ins_before = λ k m there before. absurd (omega (arith, before));
  ins_after = λ k m there after. ap (λ (items : List InLane). length items) (h.each k m there).2;
  new_out = λ k j m lane there e. absurd (no_out j lane m.outs.items (h.each k m there).1 e);
  new_in = λ k j m lane there e. absurd (no_in j lane m.ins (h.each k m there).2 e);
  links = λ k j x y out into x_at y_at e i. absurd (no_out j out x.outs.items (h.each k x x_at).1 e);
}
  where
    no_out : (j : ℕ) (lane : OutEnd) (items : List OutEnd) → items ≡ [] → slice_get items j ≡ Some lane → ⊥
    no_out j lane items none e = absurd (omega (arith, slice_get_within items j lane e, ap (λ (xs : List OutEnd). length xs) none))

    no_in : (j : ℕ) (lane : InLane) (items : List InLane) → items ≡ [] → slice_get items j ≡ Some lane → ⊥
    no_in j lane items none e = absurd (omega (arith, slice_get_within items j lane e, ap (λ (xs : List InLane). length xs) none))

-- where the places are told by other names
pub one_more_at : (nodes capacity a b from to : ℕ) (ms ns : List Mail) → from ≡ a → to ≡ b → Opening nodes capacity a b ms
    → GainsLink capacity from to ms ns → Opening nodes capacity a (b + 1) ns
one_more_at nodes capacity a b from to ms ns is_a is_b h g =
    one_more nodes capacity a b ms ns h (subst (λ (x : ℕ). GainsLink capacity x b ms ns) is_a (subst (λ (y : ℕ). GainsLink capacity from y ms ns) is_b g))

pub row_ends : (nodes capacity a b : ℕ) (ms : List Mail) → b ≡ nodes → Opening nodes capacity a b ms → Opening nodes capacity (a + 1) 0 ms
row_ends nodes capacity a b ms all h = next_row nodes capacity a ms (subst (λ (n : ℕ). Opening nodes capacity a n ms) all h)
