-- A letter is taken, and its link learnt: what is left of what is on its way.
use Rattle.std.proofs.Common.{◌≡◌, ℕ, ◌<◌, inl, inr, List, [], ◌∷◌, Option, None, Bool, true, false, refl, sym, ap, subst, arith, ◌∙◌, ◌==◌, ◌⊎◌, ◌&&◌, if◌then◌else◌, Contains, nat_lt, drop, filter_map, eq-eqb, ne_eqb}
use Rattle.std.specs.List.{cons_option}
use Rattle.std.proofs.lemmas.Bool.{cases_eq, and_from, and_left, and_right}
use Rattle.lt_modes.specs.declared.parts.Link.{Link}
use Rattle.lt_modes.specs.Script.{ScriptData}
use Rattle.lt_modes.specs.State.{SetState, Tell, Body, Letter, TellBody, CopyBody, FreezeBody, Parked, ParkedTell, Made, silent}
use Rattle.lt_modes.specs.Routing.{learn}
use Rattle.lt_modes.specs.declared.moves.Step.TheVariants.{Take}
use Rattle.lt_spec.specs.World.{World, put_mail, opened}
use Rattle.lt_spec.specs.Facts.{state_at, Comes}
use Rattle.lt_model.specs.OnWay.{in_set, tell_in, tell_parked, copy_in, freeze_in, tells_of, copies_to, freezes_to}
use Rattle.lt_model.proofs.Letters.{before_take}
use Rattle.lt_lists.proofs.Members.{contains_cases}
use Rattle.lt_modes.specs.declared.ask.Ask.{Ask}
use Rattle.lt_lists.proofs.Gathering.{gather_same}
use Rattle.lt_law_accounts.specs.AccountSteps.{IsLoss}
use Rattle.lt_law_accounts.specs.News.{Notice}
use Rattle.lt_model.proofs.StandingBegins.{tells_alike, tells_are_on_way, copies_are_on_way, freezes_are_on_way}
use Rattle.lt_law_invariant.specs.InvariantLaws.{after_effect}
use Rattle.lt_law_invariant.proofs.AfterEffect.{read_stays, says_none, part_stays, clock_stays, comes_still, comes_or_sent}
use Rattle.lt_law_invariant.proofs.Seen.{SameOwn, SameFrozen, SameHeard, own_stays, frozen_stays}

-- in the later world node q has this letter of the set in hand, and has learnt its link
pub record InHand (script : ScriptData) (w later : World) (s q : ℕ) (body : Body) : Type 0 where
  pub clocks : (x : ℕ) → (later.node x).clock ≡ (w.node x).clock
  pub own : (x : ℕ) → SameOwn (state_at w s x) (state_at later s x)
  pub frozen : (x : ℕ) → SameFrozen (state_at w s x) (state_at later s x)
  pub parked : (x : ℕ) → (state_at later s x).parked ≡ (state_at w s x).parked
  pub desk : (x : ℕ) → (state_at later s x).desk ≡ (state_at w s x).desk
  pub came : Comes script w s q body
  pub left : (x : ℕ) (b : Body) → Comes script w s x b → Comes script later s x b ⊎ ((x ≡ q) × (b ≡ body))
  pub before : (x : ℕ) (b : Body) → Comes script later s x b → Comes script w s x b
  pub tells : (x : ℕ) → tell_in x body ≡ None → tells_of script later s x ≡ tells_of script w s x
  pub copies : (x : ℕ) → (x ≡ q → copy_in body ≡ None) → copies_to script later s x ≡ copies_to script w s x
  pub freezes : (x : ℕ) → (x ≡ q → freeze_in body ≡ None) → freezes_to script later s x ≡ freezes_to script w s x

-- learning changes links alone
pub record Learnt (t u : SetState) : Type 0 where
  pub own : SameOwn t u
  pub frozen : SameFrozen t u
  pub parked : u.parked ≡ t.parked
  pub desk : u.desk ≡ t.desk

learns : (link : Link) (t : SetState) → Learnt t (learn link t)
learns link t = by_test (nat_lt t.firm.epoch link.epoch)
  where
    by_test : (greater : Bool) → Learnt t (if greater then record t { firm = link; hoped = None } else t)
    by_test true = record { own = record { held = refl; charge = refl; pending = refl }; frozen = record { number = refl; frozen = refl }; parked = refl; desk = refl }
    by_test false = record { own = record { held = refl; charge = refl; pending = refl }; frozen = record { number = refl; frozen = refl }; parked = refl; desk = refl }

-- what is read of the letters that are left
read_taken : {X : Type 0} (f : Letter → Option X) (mail : ℕ → ℕ → List Letter) (p q a b : ℕ) (letter : Letter) (rest : List Letter)
    → mail p q ≡ letter ∷ rest
    → (b ≡ q → f letter ≡ None) → filter_map f (put_mail mail p q (drop 1 (mail p q)) a b) ≡ filter_map f (mail a b)
read_taken {X = X} f mail p q a b letter rest front none = elim (cases_eq a p) [
  | inl e ↦ elim (cases_eq b q) [
    | inl g ↦ ap (λ (t : Bool). filter_map f (if t then drop 1 (mail p q) else mail a b)) (and_from _ _ (eq-eqb a p e) (eq-eqb b q g))
        ∙ ap (λ (l : List Letter). filter_map f (drop 1 l)) front
        ∙ ap (λ (o : Option X). cons_option o (filter_map f rest)) (sym (none g))
        ∙ ap (filter_map f) (sym front) ∙ (λ i. filter_map f (mail (sym e i) (sym g i)))
    | inr d ↦ ap (λ (t : Bool). filter_map f (if t then drop 1 (mail p q) else mail a b)) (and_right (a == p) _ (ne_eqb b q d))
  ]
  | inr d ↦ ap (λ (t : Bool). filter_map f (if t then drop 1 (mail p q) else mail a b)) (and_left _ (b == q) (ne_eqb a p d))
]

pub in_hand : (script : ScriptData) (w : World) (s p q : ℕ) (letter : Letter) (rest : List Letter) → p < script.nodes
    → w.mail p q ≡ letter ∷ rest → letter.set ≡ s
    → InHand script w (after_effect (opened w q (Take p)) q s (silent (learn letter.link (state_at w s q)))) s q letter.body
in_hand script w s p q letter rest below front set = record {
  clocks = clock_stays base q s m;
  own = λ x. own_stays base q s m x learnt.own;
  frozen = λ x. frozen_stays base q s m x learnt.frozen;
  parked = part_stays (λ (u : SetState). u.parked) base q s m learnt.parked;
  desk = part_stays (λ (u : SetState). u.desk) base q s m learnt.desk;
  came = (p, letter, below, record { among = subst (λ (l : List Letter). Contains l letter) (sym front) (0, omega arith, refl); set = set }, refl);
  left = λ x b comes. elim (leaves x b comes) [ inl old ↦ inl (comes_still script base q s m x b old) | inr taken ↦ inr taken ];
  before = λ x b comes. elim (comes_or_sent script base q s m x b comes) [
    | inl (from, other, under, on, says) ↦ (from, other, under, record { among = before_take w.mail p q from x other on.among; set = on.set }, says)
    | inr sent ↦ absurd (omega (arith, sent.1.1))
  ];
  tells = λ x none. tells_alike script w later s x
      (λ a b. read_stays s (tell_in x) q [] base.mail a b tt ∙ read_taken (in_set s (tell_in x)) w.mail p q a b letter rest front (λ e. says_none s (tell_in x) letter none))
      (λ b. ap (filter_map (tell_parked x)) (part_stays (λ (u : SetState). u.parked) base q s m learnt.parked b));
  copies = λ x none. gather_same script.nodes (λ a. filter_map (in_set s copy_in) (later.mail a x)) (λ a. filter_map (in_set s copy_in) (w.mail a x))
      (λ a. read_stays s copy_in q [] base.mail a x tt ∙ read_taken (in_set s copy_in) w.mail p q a x letter rest front (λ e. says_none s copy_in letter (none e)));
  freezes = λ x none. gather_same script.nodes (λ a. filter_map (in_set s freeze_in) (later.mail a x)) (λ a. filter_map (in_set s freeze_in) (w.mail a x))
      (λ a. read_stays s freeze_in q [] base.mail a x tt ∙ read_taken (in_set s freeze_in) w.mail p q a x letter rest front (λ e. says_none s freeze_in letter (none e)));
}
  where
    t : SetState
    t = state_at w s q

    base : World
    base = opened w q (Take p)

    m : Made
    m = silent (learn letter.link t)

    later : World
    later = after_effect base q s m

    learnt : Learnt t (learn letter.link t)
    learnt = learns letter.link t

    leaves : (x : ℕ) (b : Body) → Comes script w s x b → Comes script base s x b ⊎ ((x ≡ q) × (b ≡ letter.body))
    leaves x b (from, other, under, on, says) = elim (cases_eq from p) [
      | inl e ↦ elim (cases_eq x q) [
        | inl g ↦
            let among : Contains (letter ∷ rest) other = subst (λ (l : List Letter). Contains l other) ((λ i. w.mail (e i) (g i)) ∙ front) on.among in
            elim (contains_cases letter other rest among) [
              | inl same ↦ inr (g, sym says ∙ ap (λ (l : Letter). l.body) (sym same))
              | inr there ↦ still true (and_from _ _ (eq-eqb from p e) (eq-eqb x q g)) (subst (λ (l : List Letter). Contains (drop 1 l) other) (sym front) there)
            ]
        | inr d ↦ still false (and_right (from == p) _ (ne_eqb x q d)) on.among
      ]
      | inr d ↦ still false (and_left _ (x == q) (ne_eqb from p d)) on.among
    ]
      where
        still : (taken : Bool) → (from == p && x == q) ≡ taken → Contains (if taken then drop 1 (w.mail p q) else w.mail from x) other
            → Comes script base s x b ⊎ ((x ≡ q) × (b ≡ letter.body))
        still taken e c =
            inl (from, other, under, record { among = subst (λ (k : Bool). Contains (if k then drop 1 (w.mail p q) else w.mail from x) other) (sym e) c; set = on.set }, says)

-- what is heard of node x
pub hand_heard : (script : ScriptData) (w base : World) (s q x : ℕ) (body : Body) → InHand script w base s q body
    → tell_in x body ≡ None → (x ≡ q → copy_in body ≡ None) → (x ≡ q → freeze_in body ≡ None) → SameHeard script w base s x
hand_heard script w base s q x body hand no_tell no_copy no_freeze = record {
  clock = hand.clocks x;
  tells = hand.tells x no_tell;
  copies = hand.copies x no_copy;
  freezes = hand.freezes x no_freeze;
}

-- what it says is one less on its way
pub tell_in_hand : (script : ScriptData) (w base : World) (s q : ℕ) (tell : Tell) → q < script.nodes → InHand script w base s q (TellBody tell)
    → Contains (tells_of script w s tell.node) tell × IsLoss tell (tells_of script w s tell.node) (tells_of script base s tell.node)
tell_in_hand script w base s q tell below hand = (
  (tells_are_on_way script w s v tell).1 (refl, q, below, inl hand.came),
  record {
    only = λ y c.
        let on = (tells_are_on_way script base s v y).0 c in
        (tells_are_on_way script w s v y).1 (
          on.0,
          on.1,
          on.2,
          elim on.3 [
            | inl comes ↦ inl (hand.before on.1 (TellBody y) comes)
            | inr parked ↦ inr (subst (λ (l : List Parked). Contains l (ParkedTell y)) (hand.parked on.1) parked)
          ],
        );
    kept = λ y c.
        let on = (tells_are_on_way script w s v y).0 c in
        elim on.3 [
          | inl comes ↦ elim (hand.left on.1 (TellBody y) comes) [
            | inl old ↦ inl ((tells_are_on_way script base s v y).1 (on.0, on.1, on.2, inl old))
            | inr taken ↦ inr (same_tell y taken.1)
          ]
          | inr parked ↦ inl ((tells_are_on_way script base s v y).1 (on.0, on.1, on.2, inr (subst (λ (l : List Parked). Contains l (ParkedTell y)) (sym (hand.parked on.1)) parked)))
        ];
  },
)
  where
    v : ℕ
    v = tell.node

    same_tell : (y : Tell) → TellBody y ≡ TellBody tell → y ≡ tell
    same_tell y e = cc

pub copy_in_hand : (script : ScriptData) (w base : World) (s q : ℕ) (ask : Ask) → InHand script w base s q (CopyBody ask)
    → Contains (copies_to script w s q) ask × IsLoss ask (copies_to script w s q) (copies_to script base s q)
copy_in_hand script w base s q ask hand = (
  (copies_are_on_way script w s q ask).1 hand.came,
  record {
    only = λ x c. (copies_are_on_way script w s q x).1 (hand.before q (CopyBody x) ((copies_are_on_way script base s q x).0 c));
    kept = λ x c. elim (hand.left q (CopyBody x) ((copies_are_on_way script w s q x).0 c)) [
      | inl old ↦ inl ((copies_are_on_way script base s q x).1 old)
      | inr taken ↦ inr (same_copy x taken.1)
    ];
  },
)
  where
    same_copy : (x : Ask) → CopyBody x ≡ CopyBody ask → x ≡ ask
    same_copy x e = cc

pub freeze_in_hand : (script : ScriptData) (w base : World) (s q : ℕ) (notice : Notice)
    → InHand script w base s q (FreezeBody notice.number notice.modes)
    → Contains (freezes_to script w s q) notice × IsLoss notice (freezes_to script w s q) (freezes_to script base s q)
freeze_in_hand script w base s q notice hand = (
  (freezes_are_on_way script w s q notice).1 hand.came,
  record {
    only = λ y c. (freezes_are_on_way script w s q y).1 (hand.before q (FreezeBody y.number y.modes) ((freezes_are_on_way script base s q y).0 c));
    kept = λ y c. elim (hand.left q (FreezeBody y.number y.modes) ((freezes_are_on_way script w s q y).0 c)) [
      | inl old ↦ inl ((freezes_are_on_way script base s q y).1 old)
      | inr taken ↦ inr (same_notice y taken.1)
    ];
  },
)
  where
    same_notice : (y : Notice) → FreezeBody y.number y.modes ≡ FreezeBody notice.number notice.modes → y ≡ notice
    same_notice y e =
        let numbers : y.number ≡ notice.number = cc in
        let modes : y.modes ≡ notice.modes = cc in
        λ i. record { number = numbers i; modes = modes i }
