-- The letters on their way after some were sent, and after one was taken.
use Rattle.std.proofs.Common.{◌≡◌, ◌≢◌, ℕ, zero, suc, ◌+◌, ◌<◌, ◌≤◌, inl, inr, List, [], ◌∷◌, ◌++◌, Bool, true, false, refl, sym, subst, arith, ap, ◌∙◌, ◌==◌, if◌then◌else◌, filter_map, sum_by, Contains, drop, ◌⊎◌, eq-eqb, ne_eqb, append-nil}
use Rattle.std.specs.List.{AllByRecursion}
use Rattle.std.proofs.lemmas.Bool.{cases_eq, and_from, and_left, and_right}
use Rattle.std.proofs.lemmas.List.Elements.{All-contains, All-from_recursion, Contains-append_cases, Contains-append_left, Contains-append_right}
use Rattle.std.proofs.lemmas.List.Sums.{sum_by-append, sum_by-cons, get_or-le-sum_by}
use Rattle.lt_modes.specs.State.{Letter, Post}
use Rattle.lt_lists.specs.Below.{sum_below}
use Rattle.lt_spec.specs.World.{sent, put_mail, letter_for}
use Rattle.lt_model.specs.PathEffects.{posts_weight}
use Rattle.lt_lists.proofs.Sums.{sum_below-same, sum_below-none, sum_below-add, sum_below-change, sum_below-at}

-- those of the letters that go to b
abbrev pub letters_to : ℕ → List Post → List Letter
letters_to b posts = filter_map (letter_for b) posts

pub letters_to-same : (b : ℕ) (post : Post) (rest : List Post) → post.to ≡ b → letters_to b (post ∷ rest) ≡ post.letter ∷ letters_to b rest
letters_to-same b post rest e = rw (eq-eqb post.to b e) refl

pub letters_to-other : (b : ℕ) (post : Post) (rest : List Post) → post.to ≢ b → letters_to b (post ∷ rest) ≡ letters_to b rest
letters_to-other b post rest d = rw (ne_eqb post.to b d) refl

all_letters_to : (Q : ℕ → Letter → Type 0) (b : ℕ) (posts : List Post)
    → AllByRecursion (λ (post : Post). Q post.to post.letter) posts → AllByRecursion (Q b) (letters_to b posts)
all_letters_to Q b [] h = tt
all_letters_to Q b (post ∷ rest) h = elim (cases_eq post.to b) [
  | inl e ↦ subst (AllByRecursion (Q b)) (sym (letters_to-same b post rest e))
      (subst (λ (to : ℕ). Q to post.letter) e h.0, all_letters_to Q b rest h.1)
  | inr d ↦ subst (AllByRecursion (Q b)) (sym (letters_to-other b post rest d)) (all_letters_to Q b rest h.1)
]

-- what holds of the letters that were on their way and of those sent holds of all
pub all_sent : (Q : ℕ → ℕ → Letter → Type 0) (p : ℕ) (posts : List Post) (mail : ℕ → ℕ → List Letter)
    → ((a b : ℕ) (letter : Letter) → Contains (mail a b) letter → Q a b letter)
    → AllByRecursion (λ (post : Post). Q p post.to post.letter) posts
    → (a b : ℕ) (letter : Letter) → Contains (sent p posts mail a b) letter → Q a b letter
all_sent Q p posts mail before new a b letter h = elim (cases_eq a p) [
  | inl e ↦
      let among : Contains (mail a b ++ letters_to b posts) letter =
      subst (λ (t : Bool). Contains (mail a b ++ (if t then letters_to b posts else [])) letter) (eq-eqb a p e) h in
      elim (Contains-append_cases (mail a b) (letters_to b posts) letter among) [
        | inl old ↦ before a b letter old
        | inr fresh ↦ subst (λ (x : ℕ). Q x b letter) (sym e)
            (All-contains (Q p b) (letters_to b posts) letter
            (All-from_recursion (Q p b) (letters_to b posts) (all_letters_to (Q p) b posts new)) fresh)
      ]
  | inr d ↦
      let among : Contains (mail a b ++ []) letter =
      subst (λ (t : Bool). Contains (mail a b ++ (if t then letters_to b posts else [])) letter) (ne_eqb a p d) h in
      elim (Contains-append_cases (mail a b) [] letter among) [
        | inl old ↦ before a b letter old
        | inr none ↦ absurd (omega (arith, none.1))
      ]
]

-- what was on its way still is
pub still_on_way : (p : ℕ) (posts : List Post) (mail : ℕ → ℕ → List Letter) (a b : ℕ) (letter : Letter)
    → Contains (mail a b) letter → Contains (sent p posts mail a b) letter
still_on_way p posts mail a b letter h = Contains-append_left (mail a b) _ letter h

in_rest : (letters : List Letter) (letter : Letter) → Contains (drop 1 letters) letter → Contains letters letter
in_rest [] letter h = absurd (omega (arith, h.1))
in_rest (first ∷ rest) letter h = (suc h.0, omega (arith, h.1), h.2)

-- what is on its way after a take was so before
pub before_take : (mail : ℕ → ℕ → List Letter) (p q a b : ℕ) (letter : Letter)
    → Contains (put_mail mail p q (drop 1 (mail p q)) a b) letter → Contains (mail a b) letter
before_take mail p q a b letter h = elim (cases_eq a p) [
  | inl e ↦ elim (cases_eq b q) [
    | inl f ↦
        let among : Contains (drop 1 (mail p q)) letter =
        subst (λ (t : Bool). Contains (if t then drop 1 (mail p q) else mail a b) letter) (and_from _ _ (eq-eqb a p e) (eq-eqb b q f)) h in
        subst (λ (x : ℕ). Contains (mail x b) letter) (sym e)
        (subst (λ (y : ℕ). Contains (mail p y) letter) (sym f) (in_rest (mail p q) letter among))
    | inr d ↦ subst (λ (t : Bool). Contains (if t then drop 1 (mail p q) else mail a b) letter) (and_right (a == p) _ (ne_eqb b q d)) h
  ]
  | inr d ↦ subst (λ (t : Bool). Contains (if t then drop 1 (mail p q) else mail a b) letter) (and_left _ (b == q) (ne_eqb a p d)) h
]

-- what the letters on their way between the nodes weigh together
abbrev pub mail_weight : ℕ → (Letter → ℕ) → (ℕ → ℕ → List Letter) → ℕ
mail_weight n of_letter mail = sum_below n (λ a. sum_below n (λ b. sum_by of_letter (mail a b)))

-- the post goes to a node that counts, or weighs nothing
abbrev pub IsCounted : ℕ → (Letter → ℕ) → Post → Type 0
IsCounted n of_letter post = (post.to < n) ⊎ (of_letter post.letter ≡ 0)

letters_weight : (n : ℕ) (of_letter : Letter → ℕ) (posts : List Post) → AllByRecursion (IsCounted n of_letter) posts
    → sum_below n (λ b. sum_by of_letter (letters_to b posts)) ≡ posts_weight of_letter posts
letters_weight n of_letter [] h = sum_below-none n _ (λ b below. refl)
letters_weight n of_letter (post ∷ rest) h =
    let f : ℕ → ℕ = λ b. sum_by of_letter (letters_to b (post ∷ rest)) in
    let g : ℕ → ℕ = λ b. sum_by of_letter (letters_to b rest) in
    let here : f post.to ≡ of_letter post.letter + g post.to =
    ap (sum_by of_letter) (letters_to-same post.to post rest refl) ∙ sum_by-cons of_letter post.letter (letters_to post.to rest) in
    let more : sum_below n f ≡ sum_below n g + of_letter post.letter = by_case post.to h.0 f g here
    (λ b d. ap (sum_by of_letter) (letters_to-other b post rest (λ e. d (sym e)))) (of_letter post.letter) refl in
    omega (arith, more, letters_weight n of_letter rest h.1, sum_by-cons (λ (p : Post). of_letter p.letter) post rest)
  where
    by_case : (to : ℕ) → (to < n) ⊎ (of_letter post.letter ≡ 0) → (f g : ℕ → ℕ) → f to ≡ of_letter post.letter + g to → ((b : ℕ) → b ≢ to → f b ≡ g b)
        → (k : ℕ) → k ≡ of_letter post.letter → sum_below n f ≡ sum_below n g + k
    by_case to (inl below) f g here others k e =
        omega (arith, sum_below-change n to f g below (λ b under d. others b d), here, e)
    by_case to (inr none) f g here others k e =
        omega (
          arith,
          e,
          none,
          sum_below-same n f g (λ b under. elim (cases_eq b to) [
            | inl same ↦ omega (arith, ap f same, ap g same, here, none)
            | inr d ↦ others b d
          ]),
        )

row_weight : (n p : ℕ) (of_letter : Letter → ℕ) (posts : List Post) (mail : ℕ → ℕ → List Letter) → AllByRecursion (IsCounted n of_letter) posts
    → sum_below n (λ b. sum_by of_letter (sent p posts mail p b)) ≡ sum_below n (λ b. sum_by of_letter (mail p b)) + posts_weight of_letter posts
row_weight n p of_letter posts mail h =
    let each = sum_below-same n (λ b. sum_by of_letter (sent p posts mail p b))
    (λ b. sum_by of_letter (mail p b) + sum_by of_letter (letters_to b posts))
    (λ b below. rw (eq-eqb p p refl) (sum_by-append of_letter (mail p b) (letters_to b posts))) in
    omega (
      arith,
      each,
      sum_below-add n (λ b. sum_by of_letter (mail p b)) (λ b. sum_by of_letter (letters_to b posts)),
      letters_weight n of_letter posts h,
    )

-- a letter that is sent is among those to its receiver
pub among_letters : (posts : List Post) (post : Post) → Contains posts post → Contains (letters_to post.to posts) post.letter
among_letters [] post h = absurd (omega (arith, h.1))
among_letters (first ∷ rest) post (zero, within, e) =
    subst (λ (p : Post). Contains (letters_to p.to (first ∷ rest)) p.letter) e
    (subst (λ (l : List Letter). Contains l first.letter) (sym (letters_to-same first.to first rest refl)) (0, omega arith, refl))
among_letters (first ∷ rest) post (suc k, within, e) =
    let found = among_letters rest post (k, omega (arith, within), e) in
    elim (cases_eq first.to post.to) [
      | inl same ↦ subst (λ (l : List Letter). Contains l post.letter) (sym (letters_to-same post.to first rest same)) (suc found.0, omega (arith, found.1), found.2)
      | inr d ↦ subst (λ (l : List Letter). Contains l post.letter) (sym (letters_to-other post.to first rest d)) found
    ]

-- and so it is on its way
pub sent_on_way : (p : ℕ) (posts : List Post) (mail : ℕ → ℕ → List Letter) (post : Post) → Contains posts post → Contains (sent p posts mail p post.to) post.letter
sent_on_way p posts mail post h =
    subst (λ (t : Bool). Contains (mail p post.to ++ (if t then letters_to post.to posts else [])) post.letter) (sym (eq-eqb p p refl))
    (Contains-append_right (mail p post.to) (letters_to post.to posts) post.letter (among_letters posts post h))

-- letters that are sent add their weight
pub mail_weight-sent : (n p : ℕ) (of_letter : Letter → ℕ) (posts : List Post) (mail : ℕ → ℕ → List Letter)
    → p < n → AllByRecursion (IsCounted n of_letter) posts
    → mail_weight n of_letter (sent p posts mail) ≡ mail_weight n of_letter mail + posts_weight of_letter posts
mail_weight-sent n p of_letter posts mail below h =
    let f : ℕ → ℕ = λ a. sum_below n (λ b. sum_by of_letter (sent p posts mail a b)) in
    let g : ℕ → ℕ = λ a. sum_below n (λ b. sum_by of_letter (mail a b)) in
    let change = sum_below-change n p f g below (λ a under d. sum_below-same n _ _
    (λ b under_too. rw (ne_eqb a p d) (ap (sum_by of_letter) (append-nil (mail a b))))) in
    omega (arith, change, row_weight n p of_letter posts mail h)

none_to : (of_letter : Letter → ℕ) (b : ℕ) (posts : List Post) → AllByRecursion (λ (post : Post). of_letter post.letter ≡ 0) posts
    → sum_by of_letter (letters_to b posts) ≡ 0
none_to of_letter b [] h = refl
none_to of_letter b (post ∷ rest) h = elim (cases_eq post.to b) [
  | inl e ↦ omega (
    arith,
    ap (sum_by of_letter) (letters_to-same b post rest e),
    sum_by-cons of_letter post.letter (letters_to b rest),
    h.0,
    none_to of_letter b rest h.1,
  )
  | inr d ↦ omega (arith, ap (sum_by of_letter) (letters_to-other b post rest d), none_to of_letter b rest h.1)
]

-- letters that weigh nothing add nothing
pub mail_weight-none : (n p : ℕ) (of_letter : Letter → ℕ) (posts : List Post) (mail : ℕ → ℕ → List Letter)
    → AllByRecursion (λ (post : Post). of_letter post.letter ≡ 0) posts
    → mail_weight n of_letter (sent p posts mail) ≡ mail_weight n of_letter mail
mail_weight-none n p of_letter posts mail h = sum_below-same n _ _ (λ a below. sum_below-same n _ _ (λ b under. each a b (a == p)))
  where
    each : (a b : ℕ) (own : Bool) → sum_by of_letter (mail a b ++ (if own then letters_to b posts else [])) ≡ sum_by of_letter (mail a b)
    each a b true = omega (arith, sum_by-append of_letter (mail a b) (letters_to b posts), none_to of_letter b posts h)
    each a b false = ap (sum_by of_letter) (append-nil (mail a b))

-- letters of a node that isn't counted add nothing
pub mail_weight-beyond : (n p : ℕ) (of_letter : Letter → ℕ) (posts : List Post) (mail : ℕ → ℕ → List Letter)
    → n ≤ p → mail_weight n of_letter (sent p posts mail) ≡ mail_weight n of_letter mail
mail_weight-beyond n p of_letter posts mail h = sum_below-same n _ _ (λ a below. sum_below-same n _ _ (λ b under.
    rw (ne_eqb a p (λ e. omega (arith, e, below, h))) (ap (sum_by of_letter) (append-nil (mail a b)))))

-- a letter on its way is a part of the weight
pub mail_weight-at : (n a b : ℕ) (of_letter : Letter → ℕ) (mail : ℕ → ℕ → List Letter) (letter : Letter)
    → a < n → b < n → Contains (mail a b) letter → of_letter letter ≤ mail_weight n of_letter mail
mail_weight-at n a b of_letter mail letter ha hb h =
    let part : of_letter letter ≤ sum_by of_letter (mail a b) =
    subst (λ (l : Letter). of_letter l ≤ sum_by of_letter (mail a b)) h.2 (get_or-le-sum_by of_letter (mail a b) h.0 letter h.1) in
    omega (
      arith,
      part,
      sum_below-at n b (λ j. sum_by of_letter (mail a j)) hb,
      sum_below-at n a (λ i. sum_below n (λ j. sum_by of_letter (mail i j))) ha,
    )

-- a letter that is taken takes its weight away
pub mail_weight-taken : (n p q : ℕ) (of_letter : Letter → ℕ) (mail : ℕ → ℕ → List Letter) (letter : Letter) (rest : List Letter)
    → p < n → q < n → mail p q ≡ letter ∷ rest
    → mail_weight n of_letter (put_mail mail p q rest) + of_letter letter ≡ mail_weight n of_letter mail
mail_weight-taken n p q of_letter mail letter rest hp hq front =
    let f : ℕ → ℕ = λ a. sum_below n (λ b. sum_by of_letter (put_mail mail p q rest a b)) in
    let g : ℕ → ℕ = λ a. sum_below n (λ b. sum_by of_letter (mail a b)) in
    let rows = sum_below-change n p f g hp (λ a under d. sum_below-same n _ _ (λ b under_too. rw (ne_eqb a p d) refl)) in
    let row = sum_below-change n q (λ b. sum_by of_letter (put_mail mail p q rest p b)) (λ b. sum_by of_letter (mail p b)) hq
    (λ b under d. rw (eq-eqb p p refl, ne_eqb b q d) refl) in
    let here : sum_by of_letter (put_mail mail p q rest p q) ≡ sum_by of_letter rest = rw (eq-eqb p p refl, eq-eqb q q refl) refl in
    omega (arith, rows, row, here, ap (sum_by of_letter) front, sum_by-cons of_letter letter rest)
