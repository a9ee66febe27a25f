-- Each two runners look at the rings between them.
use Rattle.std.proofs.Common.{◌≡◌, ◌≢◌, ◌<◌, ◌+◌, ◌-◌, ℕ, inl, inr, List, [], ◌∷◌, ◌++◌, get_or, take, drop, Option, Some, length, refl, sym, ap, subst, arith, ◌∙◌, slice_get, slice_set, length-set, take_at}
use Rattle.std.proofs.lemmas.Bool.{cases_eq, cases_order}
use Rattle.std.proofs.lemmas.List.{length_push}
use Rattle.std.proofs.lemmas.Option.{slice_get_cases, slice_get-get_or}
use Rattle.lt_mail.specs.Words.{out_at, in_at, on_out, on_in, Alike, Both, IsOpenLink, ring_given, outbox_letters, taken, known}
use Rattle.lt_mail.specs.declared.lane.InLane.{InLane}
use Rattle.lt_runner.specs.declared.parts.Parts.{Parts}
use Rattle.lt_runner.specs.Kept.{AsSeen, AreBeside, HasMet, LooksTo, LooksFrom}
use Rattle.lt_threads.specs.Meeting.{EachIs, AreMet, AnyTwo, AmongFirst, RunnersLinked, LooksAtNode, BothLook, PairMeets, Meeting}
use Rattle.lt_runner.proofs.KeptLemmas.{seen_join}
use Rattle.lt_threads.proofs.Each.{seen_self, each_self, each_join, each_len, each_push, slice_left, slice_right, set_here, set_other, linked_last}

-- what two runners know of each other is seen from the lanes between them and from the hand
pub met_stays : (a b : ℕ) (x y u v : Parts) → out_at u.mail b ≡ out_at x.mail b → in_at v.mail a ≡ in_at y.mail a → v.hand ≡ y.hand → HasMet a b x y → HasMet a b u v
met_stays a b x y u v out into hand met = record {
  whole = ap (λ (i : Option InLane). on_in taken i ++ on_in known i) into ∙ met.whole ∙ ap (on_out ring_given) (sym out);
  moves = λ none empty. ap (on_out outbox_letters) out ∙ met.moves (sym hand ∙ none) (ap (on_in known) (sym into) ∙ empty);
}

pub both_look : (m n : ℕ) (x y x1 y1 u v : Parts) → m ≢ n → LooksTo n x x1 → LooksFrom m y y1 → HasMet m n x1 y1 → LooksTo m y1 v → LooksFrom n x1 u → HasMet n m v u
    → BothLook m n x y u v
both_look m n x y x1 y1 u v apart to from met back_to back_from back = record {
  first = record {
    seen = seen_join x x1 u to.seen back_from.seen;
    hand = back_from.hand ∙ to.hand;
    outs = λ node other. back_from.outs node ∙ to.outs node other;
    ins = λ node other. back_from.ins node other ∙ to.ins node;
  };
  second = record {
    seen = seen_join y y1 v from.seen back_to.seen;
    hand = back_to.hand ∙ from.hand;
    outs = λ node other. back_to.outs node other ∙ from.outs node;
    ins = λ node other. back_to.ins node ∙ from.ins node other;
  };
  there = met_stays m n x1 y1 u v (back_from.outs n) (back_to.ins m) back_to.hand met;
  back = back;
}

-- each runner is as seen
pair_seen : (m n : ℕ) (old new : List Parts) → PairMeets m n old new → EachIs AsSeen old new
pair_seen m n old new h k = elim (cases_eq k m) [
  | inl e ↦ subst (λ (j : ℕ). Alike AsSeen (slice_get old j) (slice_get new j)) (sym e)
      (at (slice_get old m) (slice_get new m) h.x h.u h.old_first h.new_first h.look.first.seen)
  | inr d ↦ elim (cases_eq k n) [
    | inl f ↦ subst (λ (j : ℕ). Alike AsSeen (slice_get old j) (slice_get new j)) (sym f)
        (at (slice_get old n) (slice_get new n) h.y h.v h.old_second h.new_second h.look.second.seen)
    | inr g ↦ subst (λ (o : Option Parts). Alike AsSeen (slice_get old k) o) (sym (h.others k d g)) (each_self AsSeen seen_self old k)
  ]
]
  where
    at : (o p : Option Parts) (x y : Parts) → o ≡ Some x → p ≡ Some y → AsSeen x y → Alike AsSeen o p
    at o p x y e f seen = subst (λ (q : Option Parts). Alike AsSeen q p) (sym e) (subst (λ (q : Option Parts). Alike AsSeen (Some x) q) (sym f) seen)

-- not the two of the pair
abbrev pub IsApart : ℕ → ℕ → ℕ → ℕ → Type 0
IsApart m n k other = (k ≡ m → other ≢ n) × (k ≡ n → other ≢ m)

record Was (m n k : ℕ) (old : List Parts) (p : Parts) : Type 0 where
  was : Parts
  here : slice_get old k ≡ Some was
  hand : p.hand ≡ was.hand
  outs : (other : ℕ) → IsApart m n k other → out_at p.mail other ≡ out_at was.mail other
  ins : (other : ℕ) → IsApart m n k other → in_at p.mail other ≡ in_at was.mail other

was_at : (m n : ℕ) (old new : List Parts) → PairMeets m n old new → (k : ℕ) (p : Parts) → slice_get new k ≡ Some p → Was m n k old p
was_at m n old new h k p e = elim (cases_eq k m) [
  | inl f ↦ looked k p n h.x h.u (ap (slice_get old) f ∙ h.old_first) (same (sym e ∙ ap (slice_get new) f ∙ h.new_first)) h.look.first (λ other apart. apart.0 f)
  | inr d ↦ elim (cases_eq k n) [
    | inl f ↦ looked k p m h.y h.v (ap (slice_get old) f ∙ h.old_second) (same (sym e ∙ ap (slice_get new) f ∙ h.new_second)) h.look.second (λ other apart. apart.1 f)
    | inr g ↦ record { was = p; here = sym (h.others k d g) ∙ e; hand = refl; outs = λ other apart. refl; ins = λ other apart. refl }
  ]
]
  where
    same : {a b : Parts} → Some a ≡ Some b → a ≡ b
    same e = cc

    looked : (k : ℕ) (p : Parts) (side : ℕ) (x u : Parts) → slice_get old k ≡ Some x → p ≡ u → LooksAtNode side x u → ((other : ℕ) → IsApart m n k other → other ≢ side)
        → Was m n k old p
    looked k p side x u here is look apart = subst (λ (q : Parts). Was m n k old q) (sym is) (record {
      was = x;
      here = here;
      hand = look.hand;
      outs = λ other far. look.outs other (apart other far);
      ins = λ other far. look.ins other (apart other far);
    })

pub next_pair : (m n : ℕ) (old now new : List Parts) → m < n → Meeting n m old now → PairMeets m n now new → Meeting n (m + 1) old new
next_pair m n old now new order s h =
    let seen = pair_seen m n now new h in record {
      linked = linked_last now new seen s.linked;
      seen = each_join AsSeen seen_join old now new s.seen seen;
      met = met;
    }
  where
    same : {a b : Parts} → Some a ≡ Some b → a ≡ b
    same e = cc

    at_two : (a b i j : ℕ) (x y p q : Parts) → a ≡ i → b ≡ j → x ≡ p → y ≡ q → HasMet i j p q → HasMet a b x y
    at_two a b i j x y p q e f g k met = subst (λ (o : ℕ). HasMet o b x y) (sym e)
        (subst (λ (o : ℕ). HasMet i o x y) (sym f) (subst (λ (o : Parts). HasMet i j o y) (sym g) (subst (λ (o : Parts). HasMet i j p o) (sym k) met)))

    apart_met : (a b : ℕ) (x y : Parts) → AmongFirst n (m + 1) a b → a ≢ b → (a ≡ m → b ≢ n) → (a ≡ n → b ≢ m) → slice_get new a ≡ Some x → slice_get new b ≡ Some y → HasMet a b x y
    apart_met a b x y pass other there back ea eb =
        let wa = was_at m n now new h a x ea in
        let wb = was_at m n now new h b y eb in
        let far : IsApart m n b a = ((λ e f. back f e), (λ e f. there f e)) in
        met_stays a b wa.was wb.was x y (wa.outs b (there, back)) (wb.ins a far) wb.hand
        (s.met a b wa.was wb.was (earlier pass) other wa.here wb.here)
      where
        earlier : AmongFirst n (m + 1) a b → AmongFirst n m a b
        earlier (inl both) = inl both
        earlier (inr (inl one)) = inr (inl (one.0, omega (arith, one.1, back one.0)))
        earlier (inr (inr one)) = let far : a ≢ m = λ e. there e one.1 in inr (inr (omega (arith, one.0, far), one.1))

    met : AreMet (AmongFirst n (m + 1)) new
    met a b x y pass other ea eb = elim (cases_eq a m) [
      | inl e ↦ elim (cases_eq b n) [
        | inl f ↦ at_two a b m n x y h.u h.v e f (same (sym ea ∙ ap (slice_get new) e ∙ h.new_first)) (same (sym eb ∙ ap (slice_get new) f ∙ h.new_second)) h.look.there
        | inr g ↦ apart_met a b x y pass other (λ i j. g j) (λ i j. omega (arith, order, e, i)) ea eb
      ]
      | inr d ↦ elim (cases_eq a n) [
        | inl e ↦ elim (cases_eq b m) [
          | inl f ↦ at_two a b n m x y h.v h.u e f (same (sym ea ∙ ap (slice_get new) e ∙ h.new_second)) (same (sym eb ∙ ap (slice_get new) f ∙ h.new_first)) h.look.back
          | inr g ↦ apart_met a b x y pass other (λ i. absurd (d i)) (λ i j. g j) ea eb
        ]
        | inr g ↦ apart_met a b x y pass other (λ i. absurd (d i)) (λ i. absurd (g i)) ea eb
      ]
    ]

pub row_starts : (n : ℕ) (rs : List Parts) → RunnersLinked rs → AreMet (AmongFirst n 0) rs → Meeting n 0 rs rs
row_starts n rs linked met = record { linked = linked; seen = each_self AsSeen seen_self rs; met = met }

pub row_ends : (n : ℕ) (old new : List Parts) → Meeting n n old new → Meeting (n + 1) 0 old new
row_ends n old new s = record { linked = s.linked; seen = s.seen; met = met }
  where
    met : AreMet (AmongFirst (n + 1) 0) new
    met a b x y pass apart ea eb = s.met a b x y (before pass) apart ea eb
      where
        before : AmongFirst (n + 1) 0 a b → AmongFirst n n a b
        before (inl both) = elim (cases_eq a n) [
          | inl e ↦ inr (inl (e, omega (arith, both.1, apart, e)))
          | inr d ↦ elim (cases_eq b n) [
            | inl f ↦ inr (inr (omega (arith, both.0, d), f))
            | inr g ↦ inl (omega (arith, both.0, d), omega (arith, both.1, g))
          ]
        ]
        before (inr (inl one)) = absurd (omega (arith, one.1))
        before (inr (inr one)) = absurd (omega (arith, one.0))

pub all_met : (old new : List Parts) → Meeting (length new) 0 old new → AreMet AnyTwo new
all_met old new s a b x y pass apart ea eb = s.met a b x y (inl (below a x ea, below b y eb)) apart ea eb
  where
    below : (k : ℕ) (p : Parts) → slice_get new k ≡ Some p → k < length new
    below k p e = elim (slice_get_cases new k).1 [
      | inl there ↦ there.1
      | inr past ↦ cc
    ]

-- a runner of the front and the first one of the back, with where they stand in the whole
record Across (front back : List Parts) (m : ℕ) (x y : Parts) : Type 0 where
  first : slice_get (front ++ back) m ≡ Some x
  second : slice_get (front ++ back) (length front) ≡ Some y

across : (front back : List Parts) (m : ℕ) (x y d e : Parts) → m < length front → 0 < length back → x ≡ get_or front m d → y ≡ get_or back 0 e
    → Across front back m x y
across front back m x y d e order some ex ey = record {
  first = slice_left front back m order ∙ slice_get-get_or front m d order ∙ ap Some (sym ex);
  second = slice_right front back (length front) 0 (omega arith) ∙ slice_get-get_or back 0 e some ∙ ap Some (sym ey);
}

pub beside_across : (front back : List Parts) (m : ℕ) (d e : Parts) → m < length front → 0 < length back → RunnersLinked (front ++ back)
    → AreBeside (get_or front m d) (get_or back 0 e)
beside_across front back m d e order some linked =
    let x = get_or front m d in
    let y = get_or back 0 e in
    let at = across front back m x y d e order some refl refl in
    subst (λ (i : ℕ). Both IsOpenLink (out_at x.mail i) (in_at y.mail x.node.me)) (sym (linked.me (length front) y at.second))
    (subst (λ (i : ℕ). Both IsOpenLink (out_at x.mail (length front)) (in_at y.mail i)) (sym (linked.me m x at.first))
    (linked.links m (length front) x y at.first at.second (λ e. omega (arith, e, order))))

pub beside_back : (front back : List Parts) (m : ℕ) (d e : Parts) → m < length front → 0 < length back → RunnersLinked (front ++ back)
    → AreBeside (get_or back 0 e) (get_or front m d)
beside_back front back m d e order some linked =
    let x = get_or front m d in
    let y = get_or back 0 e in
    let at = across front back m x y d e order some refl refl in
    subst (λ (i : ℕ). Both IsOpenLink (out_at y.mail x.node.me) (in_at x.mail i)) (sym (linked.me (length front) y at.second))
    (subst (λ (i : ℕ). Both IsOpenLink (out_at y.mail i) (in_at x.mail (length front))) (sym (linked.me m x at.first))
    (linked.links (length front) m y x at.second at.first (λ e. omega (arith, e, order))))

-- the two looked at each other, and stand where they stood
pub pair_meets : (front back : List Parts) (m : ℕ) (d e u v : Parts) → m < length front → 0 < length back → RunnersLinked (front ++ back)
    → BothLook (get_or front m d).node.me (get_or back 0 e).node.me (get_or front m d) (get_or back 0 e) u v
    → PairMeets m (length front) (front ++ back) (slice_set front m u ++ slice_set back 0 v)
pair_meets front back m d e u v order some linked look = record {
  x = x;
  y = y;
  u = u;
  v = v;
  old_first = at.first;
  old_second = at.second;
  new_first = slice_left (slice_set front m u) (slice_set back 0 v) m (omega (arith, order, set_len)) ∙ set_here front m u order;
  new_second = slice_right (slice_set front m u) (slice_set back 0 v) (length front) 0 (omega (arith, set_len)) ∙ set_here back 0 v some;
  look = subst (λ (i : ℕ). BothLook i (length front) x y u v) (linked.me m x at.first)
      (subst (λ (i : ℕ). BothLook x.node.me i x y u v) (linked.me (length front) y at.second) look);
  others = others;
}
  where
    x : Parts
    x = get_or front m d

    y : Parts
    y = get_or back 0 e

    at : Across front back m x y
    at = across front back m x y d e order some refl refl

    set_len : length (slice_set front m u) ≡ length front
    set_len = length-set front m u

    others : (k : ℕ) → k ≢ m → k ≢ length front → slice_get (slice_set front m u ++ slice_set back 0 v) k ≡ slice_get (front ++ back) k
    others k far apart = elim (cases_order k (length front)) [
      | inl same ↦ absurd (apart same)
      | inr (inl below) ↦ slice_left (slice_set front m u) (slice_set back 0 v) k (omega (arith, below, set_len))
          ∙ set_other front m u k far ∙ sym (slice_left front back k below)
      | inr (inr above) ↦ slice_right (slice_set front m u) (slice_set back 0 v) k (k - length front) (omega (arith, above, set_len))
          ∙ set_other back 0 v (k - length front) (λ e. omega (arith, e, above)) ∙ sym (slice_right front back k (k - length front) (omega (arith, above)))
    ]

pub last_starts : (rs : List Parts) (last : Parts) → RunnersLinked (rs ++ last ∷ []) → AreMet AnyTwo rs → Meeting (length rs) 0 (rs ++ last ∷ []) (rs ++ last ∷ [])
last_starts rs last linked met = row_starts (length rs) (rs ++ last ∷ []) linked among
  where
    among : AreMet (AmongFirst (length rs) 0) (rs ++ last ∷ [])
    among a b x y (inl both) apart ea eb =
        met a b x y tt apart (sym (slice_left rs (last ∷ []) a both.0) ∙ ea) (sym (slice_left rs (last ∷ []) b both.1) ∙ eb)
    among a b x y (inr (inl one)) apart ea eb = absurd (omega (arith, one.1))
    among a b x y (inr (inr one)) apart ea eb = absurd (omega (arith, one.0))

-- the last one met all others, which have met before
pub record HaveMet (old new : List Parts) : Type 0 where
  pub seen : EachIs AsSeen old new
  pub met : AreMet AnyTwo new

pub met_none : (rs : List Parts) → length rs ≡ 0 → HaveMet rs rs
met_none [] e = record { seen = each_self AsSeen seen_self []; met = none }
  where
    none : AreMet AnyTwo []
    none a b x y pass apart ea eb = absurd (cc)
met_none (p ∷ rs) e = absurd (omega (arith, e))

pub met_last : (rest after final : List Parts) (last last_after : Parts) → EachIs AsSeen rest after
    → Meeting (length after) (length after) (after ++ last ∷ []) (final ++ last_after ∷ []) → HaveMet (rest ++ last ∷ []) (final ++ last_after ∷ [])
met_last rest after final last last_after seen s =
    let ended = row_ends (length after) (after ++ last ∷ []) (final ++ last_after ∷ []) s in
    let first : EachIs AsSeen (rest ++ last ∷ []) (after ++ last ∷ []) = each_push AsSeen rest after last last seen (seen_self last) in
    let len = each_len AsSeen (after ++ last ∷ []) (final ++ last_after ∷ []) s.seen in
    let long = length_push after last in
    record {
      seen = each_join AsSeen seen_join (rest ++ last ∷ []) (after ++ last ∷ []) (final ++ last_after ∷ []) first s.seen;
      met = all_met (after ++ last ∷ []) (final ++ last_after ∷ [])
          (subst (λ (n : ℕ). Meeting n 0 (after ++ last ∷ []) (final ++ last_after ∷ [])) (omega (arith, len, long)) ended);
    }

pub met_vec : (old rest after mid final new : List Parts) (last last_after : Parts) (n : ℕ) → old ≡ rest ++ last ∷ [] → mid ≡ after → n ≡ length mid
    → length final ≡ length mid → new ≡ take n (final ++ drop (length final) after) ++ last_after ∷ [] → EachIs AsSeen rest after
    → Meeting (length mid) (length mid) (mid ++ last ∷ []) (final ++ last_after ∷ []) → HaveMet old new
met_vec old rest after mid final new last last_after n was same len long is seen s =
    let whole : take n (final ++ drop (length final) after) ≡ final = take_at final (drop (length final) after) n (omega (arith, len, long)) in
    subst (λ (rs : List Parts). HaveMet rs new) (sym was)
    (subst (λ (rs : List Parts). HaveMet (rest ++ last ∷ []) rs) (sym (is ∙ ap (λ (rs : List Parts). rs ++ last_after ∷ []) whole))
    (met_last rest after final last last_after seen
    (subst (λ (rs : List Parts). Meeting (length rs) (length rs) (rs ++ last ∷ []) (final ++ last_after ∷ [])) same s)))
