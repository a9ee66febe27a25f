-- Lists of runners, place by place.
use Rattle.std.proofs.Common.{◌≡◌, ◌≢◌, ◌<◌, ◌+◌, ℕ, zero, suc, List, [], ◌∷◌, ◌++◌, length, Option, Some, None, refl, ap, subst, arith, sym, ◌∙◌, ◌≤◌, inl, inr, get_or, slice_get, slice_set}
use Rattle.std.proofs.lemmas.Option.{slice_get_within, slice_get-get_or}
use Rattle.std.proofs.lemmas.Bool.{cases_eq}
use Rattle.lt_mail.specs.Words.{out_at, in_at, Alike, SameOut, SameIn, SameEnds, OutLane, Both, IsOpenLink, ring_given, outbox_letters, on_out}
use Rattle.lt_mail.specs.declared.mail.Mail.{Mail}
use Rattle.lt_mail.specs.declared.lane.InLane.{InLane}
use Rattle.lt_runner.specs.declared.parts.Hand.{Hand}
use Rattle.lt_runner.specs.declared.parts.Parts.{Parts}
use Rattle.lt_runner.specs.Kept.{HandStays, SameRunner, AsSeen, RunnerInvariant, HasMet, HasFetched, Fetches}
use Rattle.lt_runner.proofs.KeptLemmas.{seen_join}
use Rattle.lt_threads.specs.Meeting.{EachIs, RunnersLinked, AreKept, AreMet, AnyTwo, HaveFetched, Fetching}

pub ends_same : (m : Mail) → SameEnds m m
ends_same m = record {
  me = refl;
  counts = (refl, refl);
  outs = λ node. out_same (out_at m node);
  ins = λ node. in_same (in_at m node);
}
  where
    out_same : (o : Option OutLane) → Alike SameOut o o
    out_same None = tt
    out_same (Some lane) = ((refl, refl, refl, refl), refl)

    in_same : (i : Option InLane) → Alike SameIn i i
    in_same None = tt
    in_same (Some lane) = ((refl, refl, refl, refl), refl)

pub same_self : (a : Parts) → SameRunner a a
same_self a = record { script = refl; me = refl; limit = refl; gone = refl; commands_gone = refl; ends = ends_same a.mail }

pub seen_self : (a : Parts) → AsSeen a a
seen_self a = record {
  same = same_self a;
  state = refl;
  log = refl;
  sent = λ node. refl;
  used = λ node letters e. e;
  hand = holds a.hand;
}
  where
    holds : (x : Option Hand) → HandStays x x
    holds None = tt
    holds (Some x) = (refl, refl)

pub each_self : (R : Parts → Parts → Type 0) → ((a : Parts) → R a a) → (rs : List Parts) → EachIs R rs rs
each_self R self rs k = here (slice_get rs k)
  where
    here : (o : Option Parts) → Alike R o o
    here None = tt
    here (Some p) = self p

pub each_join : (R : Parts → Parts → Type 0) → ((a b c : Parts) → R a b → R b c → R a c) → (xs ys zs : List Parts)
    → EachIs R xs ys → EachIs R ys zs → EachIs R xs zs
each_join R join xs ys zs h g k = here (slice_get xs k) (slice_get ys k) (slice_get zs k) (h k) (g k)
  where
    here : (x y z : Option Parts) → Alike R x y → Alike R y z → Alike R x z
    here None None None p q = tt
    here None None (Some z) p q = q
    here None (Some y) z p q = absurd p
    here (Some x) None z p q = absurd p
    here (Some x) (Some y) None p q = absurd q
    here (Some x) (Some y) (Some z) p q = join x y z p q

pub each_weaker : (R S : Parts → Parts → Type 0) → ((a b : Parts) → R a b → S a b) → (xs ys : List Parts) → EachIs R xs ys → EachIs S xs ys
each_weaker R S weaker xs ys h k = here (slice_get xs k) (slice_get ys k) (h k)
  where
    here : (x y : Option Parts) → Alike R x y → Alike S x y
    here None None p = tt
    here None (Some y) p = p
    here (Some x) None p = p
    here (Some x) (Some y) p = weaker x y p

-- the runner that was at this place before
pub each_before : (R : Parts → Parts → Type 0) (xs ys : List Parts) → EachIs R xs ys → (k : ℕ) (y : Parts) → slice_get ys k ≡ Some y
    → (x : Parts) × (slice_get xs k ≡ Some x) × R x y
each_before R xs ys h k y e = here (slice_get xs k) refl (subst (λ (o : Option Parts). Alike R (slice_get xs k) o) e (h k))
  where
    here : (o : Option Parts) → slice_get xs k ≡ o → Alike R o (Some y) → (x : Parts) × (slice_get xs k ≡ Some x) × R x y
    here None e p = absurd p
    here (Some x) e p = (x, e, p)

pub slice_left : (front back : List Parts) (k : ℕ) → k < length front → slice_get (front ++ back) k ≡ slice_get front k
slice_left [] back k below = absurd (omega (arith, below))
slice_left (p ∷ front) back zero below = refl
slice_left (p ∷ front) back (suc k) below = slice_left front back k (omega (arith, below))

pub slice_right : (front back : List Parts) (i k : ℕ) → i ≡ length front + k → slice_get (front ++ back) i ≡ slice_get back k
slice_right [] back i k e = ap (slice_get back) (omega (arith, e))
slice_right (p ∷ front) back zero k e = absurd (omega (arith, e))
slice_right (p ∷ front) back (suc i) k e = slice_right front back i k (omega (arith, e))

pub set_here : (rs : List Parts) (k : ℕ) (p : Parts) → k < length rs → slice_get (slice_set rs k p) k ≡ Some p
set_here [] k p below = absurd (omega (arith, below))
set_here (q ∷ rs) zero p below = refl
set_here (q ∷ rs) (suc k) p below = set_here rs k p (omega (arith, below))

pub set_other : (rs : List Parts) (k : ℕ) (p : Parts) (other : ℕ) → other ≢ k → slice_get (slice_set rs k p) other ≡ slice_get rs other
set_other [] k p other apart = refl
set_other (q ∷ rs) zero p zero apart = absurd (apart refl)
set_other (q ∷ rs) zero p (suc other) apart = refl
set_other (q ∷ rs) (suc k) p zero apart = refl
set_other (q ∷ rs) (suc k) p (suc other) apart = set_other rs k p other (λ e. apart (ap suc e))

pub each_len : (R : Parts → Parts → Type 0) (xs ys : List Parts) → EachIs R xs ys → length ys ≡ length xs
each_len R [] [] h = refl
each_len R [] (y ∷ ys) h = absurd (h 0)
each_len R (x ∷ xs) [] h = absurd (h 0)
each_len R (x ∷ xs) (y ∷ ys) h = let rest = each_len R xs ys (λ k. h (suc k)) in omega (arith, rest)

pub each_push : (R : Parts → Parts → Type 0) (xs ys : List Parts) (x y : Parts) → EachIs R xs ys → R x y → EachIs R (xs ++ x ∷ []) (ys ++ y ∷ [])
each_push R [] [] x y h r zero = r
each_push R [] [] x y h r (suc k) = tt
each_push R [] (z ∷ ys) x y h r k = absurd (h 0)
each_push R (z ∷ xs) [] x y h r k = absurd (h 0)
each_push R (z ∷ xs) (w ∷ ys) x y h r zero = h 0
each_push R (z ∷ xs) (w ∷ ys) x y h r (suc k) = each_push R xs ys x y (λ j. h (suc j)) r k

-- Runners whose ends are linked stay so.

links_stay : (o p : Option OutLane) (i j : Option InLane) → Alike SameOut o p → Alike SameIn i j → Both IsOpenLink o i → Both IsOpenLink p j
links_stay None p i j u v e = absurd e
links_stay (Some o) p None j u v e = absurd e
links_stay (Some o) None (Some i) j u v e = absurd u
links_stay (Some o) (Some p) (Some i) None u v e = absurd v
links_stay (Some o) (Some p) (Some i) (Some j) u v e =
    ((v.0.0 ∙ e.0.0 ∙ sym u.0.0, v.0.1 ∙ e.0.1 ∙ sym u.0.1, v.0.2 ∙ e.0.2 ∙ sym u.0.2, v.0.3 ∙ e.0.3 ∙ sym u.0.3), subst (λ (n : ℕ). 0 < n) (sym u.1) e.1)

pub links_last : (old new : List Parts) → EachIs SameRunner old new
    → ((a b : ℕ) (x y : Parts) → slice_get old a ≡ Some x → slice_get old b ≡ Some y → a ≢ b → Both IsOpenLink (out_at x.mail b) (in_at y.mail a))
    → (a b : ℕ) (x y : Parts) → slice_get new a ≡ Some x → slice_get new b ≡ Some y → a ≢ b → Both IsOpenLink (out_at x.mail b) (in_at y.mail a)
links_last old new each links a b x y ea eb apart =
    let was_a = each_before SameRunner old new each a x ea in
    let was_b = each_before SameRunner old new each b y eb in
    let sends : SameRunner was_a.0 x = was_a.2 in
    let takes : SameRunner was_b.0 y = was_b.2 in
    links_stay (out_at was_a.0.mail b) (out_at x.mail b) (in_at was_b.0.mail a) (in_at y.mail a) (sends.ends.outs b) (takes.ends.ins a)
    (links a b was_a.0 was_b.0 was_a.1 was_b.1 apart)

pub linked_last : (old new : List Parts) → EachIs AsSeen old new → RunnersLinked old → RunnersLinked new
linked_last old new each h =
    let same : EachIs SameRunner old new = each_weaker AsSeen SameRunner (λ a b seen. seen.same) old new each in
    record {
      me = λ k p e. let was = each_before SameRunner old new same k p e in let is : SameRunner was.0 p = was.2 in is.me ∙ h.me k was.0 was.1;
      links = links_last old new same h.links;
    }

pub linked_rest : (rest : List Parts) (last : Parts) → RunnersLinked (rest ++ last ∷ []) → RunnersLinked rest
linked_rest rest last h = record {
  me = λ k p e. h.me k p (in_rest k p e);
  links = λ a b x y ea eb apart. h.links a b x y (in_rest a x ea) (in_rest b y eb) apart;
}
  where
    in_rest : (k : ℕ) (p : Parts) → slice_get rest k ≡ Some p → slice_get (rest ++ last ∷ []) k ≡ Some p
    in_rest k p e = slice_left rest (last ∷ []) k (slice_get_within rest k p e) ∙ e

pub linked_after : (rest after : List Parts) (last : Parts) → RunnersLinked (rest ++ last ∷ []) → EachIs AsSeen rest after → RunnersLinked (after ++ last ∷ [])
linked_after rest after last h seen =
    linked_last (rest ++ last ∷ []) (after ++ last ∷ []) (each_push AsSeen rest after last last seen (seen_self last)) h

-- Runners that take the letters which came.

abbrev pub KeptTo : ℕ → List Parts → Type 0
KeptTo n rs = (k : ℕ) (p : Parts) → k < n → slice_get rs k ≡ Some p → RunnerInvariant p

same : {a b : Parts} → Some a ≡ Some b → a ≡ b
same e = cc

pub next_kept : (n : ℕ) (rs : List Parts) (d : Parts) → n < length rs → KeptTo n rs → RunnerInvariant (get_or rs n d) → KeptTo (n + 1) rs
next_kept n rs d inside before here k p below e = elim (cases_eq k n) [
  | inl at ↦ subst (λ (q : Parts). RunnerInvariant q) (same (sym (slice_get-get_or rs n d inside) ∙ ap (slice_get rs) (sym at) ∙ e)) here
  | inr apart ↦ before k p (omega (arith, below, apart)) e
]

pub all_kept : (n : ℕ) (rs : List Parts) → length rs ≤ n → KeptTo n rs → AreKept rs
all_kept n rs long kept k p e = let inside = slice_get_within rs k p e in kept k p (omega (arith, inside, long)) e

-- the runner that was at a place, and how it went on
record Was (old : List Parts) (k : ℕ) (p : Parts) : Type 0 where
  was : Parts
  here : slice_get old k ≡ Some was
  outs : (node : ℕ) → out_at p.mail node ≡ out_at was.mail node
  met : (a : ℕ) (x u : Parts) → out_at u.mail k ≡ out_at x.mail k → HasMet a k x was → HasMet a k u p

-- what the sender and the taker know stays when the taker takes a letter into its hand
met_fetched : (a k : ℕ) (x u y v : Parts) → out_at u.mail k ≡ out_at x.mail k → Fetches y v → HasMet a k x y → HasMet a k u v
met_fetched a k x u y v out f met = record {
  whole = f.whole a ∙ met.whole ∙ ap (on_out ring_given) (sym out);
  moves = λ none empty. ap (on_out outbox_letters) out ∙ met.moves (was_none y.hand v.hand f.seen.hand none) (sym (f.none none a) ∙ empty);
}
  where
    was_none : (h g : Option Hand) → HandStays h g → g ≡ None → h ≡ None
    was_none None g holds e = refl
    was_none (Some h) None holds e = absurd holds
    was_none (Some h) (Some g) holds e = absurd (cc)

fetches_self : (y : Parts) → Fetches y y
fetches_self y = record { seen = seen_self y; outs = λ node. refl; whole = λ node. refl; none = λ none node. refl }

was_at : (now : List Parts) (n : ℕ) (d u : Parts) → n < length now → Fetches (get_or now n d) u → (k : ℕ) (p : Parts) → slice_get (slice_set now n u) k ≡ Some p
    → Was now k p
was_at now n d u inside f k p e = elim (cases_eq k n) [
  | inl at ↦ record {
    was = get_or now n d;
    here = ap (slice_get now) at ∙ slice_get-get_or now n d inside;
    outs = λ node. subst (λ (q : Parts). out_at q.mail node ≡ out_at (get_or now n d).mail node) (is_u at) (f.outs node);
    met = λ a x v out met. met_fetched a k x v (get_or now n d) p out (subst (λ (q : Parts). Fetches (get_or now n d) q) (is_u at) f) met;
  }
  | inr apart ↦ record {
    was = p;
    here = sym (set_other now n u k apart) ∙ e;
    outs = λ node. refl;
    met = λ a x v out met. met_fetched a k x v p p out (fetches_self p) met;
  }
]
  where
    is_u : k ≡ n → u ≡ p
    is_u at = same (sym (set_here now n u inside) ∙ ap (slice_get (slice_set now n u)) (sym at) ∙ e)

pub next_fetched : (n : ℕ) (old now : List Parts) (d u : Parts) → n < length now → Fetching n old now → Fetches (get_or now n d) u → HasFetched u
    → Fetching (n + 1) old (slice_set now n u)
next_fetched n old now d u inside s f has = record {
  seen = each_join AsSeen seen_join old now (slice_set now n u) s.seen seen;
  met = met;
  fetched = fetched;
}
  where
    at_place : (o p : Option Parts) → o ≡ Some (get_or now n d) → p ≡ Some u → Alike AsSeen o p
    at_place o p e g = subst (λ (q : Option Parts). Alike AsSeen q p) (sym e) (subst (λ (q : Option Parts). Alike AsSeen (Some (get_or now n d)) q) (sym g) f.seen)

    seen : EachIs AsSeen now (slice_set now n u)
    seen k = elim (cases_eq k n) [
      | inl at ↦ subst (λ (j : ℕ). Alike AsSeen (slice_get now j) (slice_get (slice_set now n u) j)) (sym at)
          (at_place (slice_get now n) (slice_get (slice_set now n u) n) (slice_get-get_or now n d inside) (set_here now n u inside))
      | inr apart ↦ subst (λ (o : Option Parts). Alike AsSeen (slice_get now k) o) (sym (set_other now n u k apart)) (each_self AsSeen seen_self now k)
    ]

    met : AreMet AnyTwo (slice_set now n u)
    met a b x y pass apart ea eb =
        let wa = was_at now n d u inside f a x ea in
        let wb = was_at now n d u inside f b y eb in
        wb.met a wa.was x (wa.outs b) (s.met a b wa.was wb.was tt apart wa.here wb.here)

    fetched : HaveFetched (n + 1) (slice_set now n u)
    fetched k p below e = elim (cases_eq k n) [
      | inl at ↦ subst (λ (q : Parts). HasFetched q) (same (sym (set_here now n u inside) ∙ ap (slice_get (slice_set now n u)) (sym at) ∙ e)) has
      | inr apart ↦ s.fetched k p (omega (arith, below, apart)) (sym (set_other now n u k apart) ∙ e)
    ]

pub fetching_starts : (rs : List Parts) → AreMet AnyTwo rs → Fetching 0 rs rs
fetching_starts rs met = record { seen = each_self AsSeen seen_self rs; met = met; fetched = λ k p below e. absurd (omega (arith, below)) }
