-- A freeze that is taken keeps the ledgers.
use Rattle.std.proofs.Common.{◌≡◌, ℕ, ◌<◌, inl, inr, Option, Bool, true, false, refl, sym, ap, subst, ◌∙◌, zero, suc, ◌+◌, List, [], ◌∷◌, length, arith, ◌≢◌, ◌≤◌, Some, None, ◌==◌, if◌then◌else◌, Contains, nat_lt, slice_index_or, ◌⊎◌, ◌||◌, not, IsTrue, filter_map, eq-eqb, ne_eqb}
use Rattle.std.specs.List.{AllByRecursion}
use Rattle.std.proofs.lemmas.Bool.{cases_eq, and_parts, false≢true}
use Rattle.std.proofs.lemmas.List.Elements.{recursion_from_All, Contains-get_or}
use Rattle.lt_modes.specs.Modes.{Modes}
use Rattle.lt_modes.specs.Script.{ScriptData}
use Rattle.lt_modes.specs.State.{SetState, Desk, FreezeBody, Made, silent, entry_of, Entry, Body, first_entry, Post, post_of}
use Rattle.lt_modes.specs.Taking.{take_freeze}
use Rattle.lt_modes.specs.Freezing.{places_from, cons_if, frozen_by, is_target, targets, number_after, freeze_at}
use Rattle.lt_modes.specs.declared.stamp.Stamp.{Stamp}
use Rattle.lt_lists.proofs.Members.{contains_first, contains_later, contains_cases, contains_map, contains_mapped}
use Rattle.lt_lists.proofs.AllLemmas.{all_map, all_any}
use Rattle.lt_spec.specs.World.{World}
use Rattle.lt_spec.specs.Facts.{state_at}
use Rattle.lt_law_accounts.specs.News.{NewsKept, Notice, taking, News}
use Rattle.lt_law_accounts.specs.AccountSteps.{IsLoss, IsGain, freezing}
use Rattle.lt_law_accounts.proofs.NewsLemmas.{takes_kept, keeps_kept, sends_kept, spares_kept}
use Rattle.lt_law_accounts.proofs.AccountPlay.{same_kept, some_frozen}
use Rattle.lt_law_accounts.specs.Account.{Account}
use Rattle.lt_law_accounts.specs.AccountPlay.{AllKept}
use Rattle.lt_model.specs.OnWay.{Acting, is_at, tell_parked, freezes_to, account_of, news_of, Frozen, tell_in, copy_in, freeze_in, tells_of, copies_to}
use Rattle.lt_model.specs.Invariant.{DeskKept}
use Rattle.lt_model.proofs.NewsRules.{freezes_are_taken, freezing_is_steps}
use Rattle.lt_model.specs.NewsRules.{news_with, number_by, frozen_desk}
use Rattle.lt_model.proofs.AccountRules.{freezes_are_steps}
use Rattle.lt_model.proofs.StandingBegins.{freezes_are_on_way}
use Rattle.lt_model.specs.AccountRules.{account_with}
use Rattle.lt_law_invariant.specs.InvariantLaws.{after_effect, IsDeskAt}
use Rattle.lt_law_invariant.proofs.AfterEffect.{state_here, state_there, SaysNone, says_none, copies_stay, freezes_stay, clock_stays, comes_or_sent, comes_still, comes_sent}
use Rattle.lt_law_invariant.proofs.Seen.{SameHeard, SameOwn, all_kept, kept_by, news_as, news_seen, own_then, own_stays, frozen_as, frozen_then, QuietMade, quiet_heard, account_as, tells_stay}
use Rattle.lt_law_invariant.proofs.InHand.{InHand, freeze_in_hand}

-- it is kept where its number is greater
pub take_freeze_keeps : (script : ScriptData) (w base : World) (s q number : ℕ) (modes : Modes) (place : Option ℕ) (desk : Desk) → q < script.nodes
    → InHand script w base s q (FreezeBody number modes) → DeskKept script (Acting q) w s place desk
    → DeskKept script (Acting q) (after_effect base q s (silent (take_freeze number modes (state_at base s q)))) s place desk
take_freeze_keeps script w base s q number modes place desk below hand h =
    kept_by script (Acting q) later s place desk
    (same_kept script.nodes (account_of script (Acting q) w s place desk) (account_of script (Acting q) later s place desk) (all_kept script (Acting q) w s place desk h)
    (λ x under. account_is x (own_then (state_at w s x) (state_at base s x) (state_at later s x) (hand.own x) (own_stays base q s m x same))))
    (λ x under. elim (cases_eq x q) [
      | inl e ↦ subst (λ (y : ℕ). NewsKept (news_of script (Acting q) later s place desk y)) (sym e) own_news
      | inr d ↦ subst NewsKept (sym (news_seen script (Acting q) w later s place desk x ((heard x).freezes ∙ hand.freezes x (λ e. absurd (d e)))
          (frozen_then (state_at w s x) (state_at base s x) (state_at later s x) (hand.frozen x) (frozen_as (state_at base s x) (state_at later s x) (state_there base q s m x d))))) (h.news x under)
    ])
  where
    t : SetState
    t = state_at base s q

    m : Made
    m = silent (take_freeze number modes t)

    later : World
    later = after_effect base q s m

    fields : (newer : Bool)
        → SameOwn t (if newer then record t { frozen = modes; number = number } else t) × ((if newer then record t { frozen = modes; number = number } else t).parked ≡ t.parked)
    fields true = (record { held = refl; charge = refl; pending = refl }, refl)
    fields false = (record { held = refl; charge = refl; pending = refl }, refl)

    same : SameOwn t m.state
    same = (fields (nat_lt t.number number)).0

    quiet : QuietMade t m
    quiet = record { posts = tt; parked = λ x. ap (filter_map (tell_parked x)) (fields (nat_lt t.number number)).1 }

    heard : (x : ℕ) → SameHeard script base later s x
    heard x = quiet_heard script base q s m x quiet

    account_is : (x : ℕ) → SameOwn (state_at w s x) (state_at later s x)
        → account_of script (Acting q) later s place desk x ≡ account_of script (Acting q) w s place desk x
    account_is x own = λ i. record {
      clock = ((heard x).clock ∙ hand.clocks x) i;
      held = own.held i;
      charge = own.charge i;
      pending = own.pending i;
      entry = entry_of desk x;
      tells = ((heard x).tells ∙ hand.tells x refl) i;
      copies = ((heard x).copies ∙ hand.copies x (λ e. refl)) i;
      here = is_at place x;
      moving = x == q;
    }

    notice : Notice
    notice = record { number = number; modes = modes }

    taken : Contains (freezes_to script w s q) notice × IsLoss notice (freezes_to script w s q) (freezes_to script base s q)
    taken = freeze_in_hand script w base s q notice hand

    own_news : NewsKept (news_of script (Acting q) later s place desk q)
    own_news =
        subst NewsKept (sym (
        ap (λ (u : SetState). news_with u (freezes_to script later s q) (entry_of desk q) desk (is_at place q) (is_at place q)) (state_here base q s m)
        ∙ ap (λ l. news_with m.state l (entry_of desk q) desk (is_at place q) (is_at place q)) (heard q).freezes
        ∙ freezes_are_taken number modes t (freezes_to script w s q) (freezes_to script base s q) (entry_of desk q) desk (is_at place q) (is_at place q)
        ∙ ap (taking notice (freezes_to script base s q)) (news_as (freezes_to script w s q) (entry_of desk q) desk (is_at place q) (is_at place q) (state_at w s q) t (hand.frozen q))))
        (takes_kept (news_of script (Acting q) w s place desk q) notice (freezes_to script base s q) (h.news q below) (record { came = taken.0; left = taken.1 }))

-- The places of a list whose items pass a test.

pub places-which : {X : Type 0} (test : ℕ → X → Bool) (first : ℕ) (xs : List X) (d : X) (y : ℕ) → Contains (places_from test first xs) y
    → (i : ℕ) × (y ≡ first + i) × (i < length xs) × (test y (slice_index_or xs i d) ≡ true)
places-which test first [] d y h = absurd (omega (arith, h.1))
places-which {X = X} test first (x ∷ xs) d y h = by_test (test first x) refl h (λ later. places-which test (first + 1) xs d y later)
  where
    by_test : (here : Bool) → test first x ≡ here → Contains (cons_if here first (places_from test (first + 1) xs)) y
        → (Contains (places_from test (first + 1) xs) y → (i : ℕ) × (y ≡ first + 1 + i) × (i < length xs) × (test y (slice_index_or xs i d) ≡ true))
        → (i : ℕ) × (y ≡ first + i) × (i < length (x ∷ xs)) × (test y (slice_index_or (x ∷ xs) i d) ≡ true)
    by_test true e found again = elim (contains_cases first y (places_from test (first + 1) xs) found) [
      | inl same ↦ (0, omega (arith, same), omega arith, ap (λ (k : ℕ). test k x) (sym same) ∙ e)
      | inr later ↦ let more = again later in (suc more.0, omega (arith, more.1), omega (arith, more.2), more.3)
    ]
    by_test false e found again = let more = again found in (suc more.0, omega (arith, more.1), omega (arith, more.2), more.3)

pub places-at : {X : Type 0} (test : ℕ → X → Bool) (first : ℕ) (xs : List X) (d : X) (i : ℕ) → i < length xs
    → test (first + i) (slice_index_or xs i d) ≡ true
    → Contains (places_from test first xs) (first + i)
places-at test first [] d i within e = absurd (omega (arith, within))
places-at test first (x ∷ xs) d zero within e =
    let here : test first x ≡ true = ap (λ (k : ℕ). test k x) (omega arith) ∙ e in
    subst (λ (b : Bool). Contains (cons_if b first (places_from test (first + 1) xs)) (first + 0)) (sym here) (contains_first first (first + 0) (places_from test (first + 1) xs) (omega arith))
places-at test first (x ∷ xs) d (suc i) within e =
    let later = places-at test (first + 1) xs d i (omega (arith, within)) (ap (λ (k : ℕ). test k (slice_index_or xs i d)) (omega arith) ∙ e) in
    by_test (test first x) (subst (Contains (places_from test (first + 1) xs)) (omega arith) later)
  where
    by_test : (here : Bool) → Contains (places_from test (first + 1) xs) (first + suc i)
        → Contains (cons_if here first (places_from test (first + 1) xs)) (first + suc i)
    by_test true later = contains_later first (first + suc i) (places_from test (first + 1) xs) later
    by_test false later = later

-- Freezing keeps the ledgers of the set.

number_after-later : (told : List ℕ) (number : ℕ) → number ≤ number_after told number
number_after-later [] number = omega arith
number_after-later (x ∷ rest) number = omega arith

-- what freezing leads to
pub record FreezeLeads (script : ScriptData) (w : World) (s : ℕ) (stamp : Stamp) (desk : Desk) : Type 0 where
  pub kept : DeskKept script (Frozen stamp.node) (after_effect w stamp.node s (freeze_at s stamp (state_at w s stamp.node) (Some desk))) s (Some stamp.node) (frozen_desk stamp.node desk)
  pub knows : (entry_of (frozen_desk stamp.node desk) stamp.node).frozen_told ≡ frozen_by (frozen_desk stamp.node desk).queue

pub freeze_keeps : (script : ScriptData) (w : World) (s : ℕ) (stamp : Stamp) (desk : Desk) → IsDeskAt script w s stamp.node desk
    → DeskKept script (Acting stamp.node) w s (Some stamp.node) desk → FreezeLeads script w s stamp desk
freeze_keeps script w s stamp desk at h = record {
  kept = kept_by script (Frozen q) later s (Some q) left kept (λ x below. news_kept x below (cases_eq x q));
  knows = ap (λ (e : Entry). e.frozen_told) (freezes_are_steps.entries q q desk (within q at.node))
      ∙ ap (λ (b : Bool). (if b || is_target q frozen q (entry_of desk q) then record (entry_of desk q) { frozen_told = frozen } else entry_of desk q).frozen_told) (eq-eqb q q refl);
}
  where
    q : ℕ
    q = stamp.node

    t : SetState
    t = state_at w s q

    frozen : Modes
    frozen = frozen_by desk.queue

    told : List ℕ
    told = targets q frozen desk

    m : Made
    m = freeze_at s stamp t (Some desk)

    later : World
    later = after_effect w q s m

    left : Desk
    left = frozen_desk q desk

    post : ℕ → Post
    post x = post_of s stamp t x (FreezeBody (number_by q desk) frozen)

    within : (x : ℕ) → x < script.nodes → x < length desk.entries
    within x below = subst (λ (n : ℕ). x < n) (sym at.entries) below

    says : {X : Type 0} (read : Body → Option X) (b : ℕ) → read (FreezeBody (number_by q desk) frozen) ≡ None
        → AllByRecursion (SaysNone s read b) m.posts
    says read b none = all_map (SaysNone s read b) post told (all_any (λ (x : ℕ). SaysNone s read b (post x)) (λ x e. says_none s read (post x).letter none) told)

    heard_tells : (x : ℕ) → tells_of script later s x ≡ tells_of script w s x
    heard_tells x = tells_stay script w q s m x (λ b. says (tell_in x) b refl) refl

    heard_copies : (x : ℕ) → copies_to script later s x ≡ copies_to script w s x
    heard_copies x = copies_stay script w q s m x (says copy_in x refl)

    accounts : ℕ → Account
    accounts x = account_of script (Acting q) w s (Some q) desk x

    account_is : (x : ℕ) → account_of script (Frozen q) later s (Some q) left x ≡ record (accounts x) { entry = entry_of left x }
    account_is x =
        (λ i. account_with (clock_stays w q s m x i) (x == q) (x == q) (entry_of left x) (state_at later s x) (heard_tells x i) (heard_copies x i))
        ∙ account_as (w.node x).clock (x == q) (x == q) (entry_of left x) (tells_of script w s x) (copies_to script w s x) (state_at w s x) (state_at later s x)
        (own_stays w q s m x (record { held = refl; charge = refl; pending = refl }))

    by_test : (x : ℕ) (b : Bool) (entry : Entry) → entry ≡ (if b then record (entry_of desk x) { frozen_told = frozen } else entry_of desk x)
        → (record (accounts x) { entry = entry } ≡ accounts x) ⊎ ((f : Modes) × (record (accounts x) { entry = entry } ≡ freezing f (accounts x)))
    by_test x true entry e = inr (frozen, ap (λ (en : Entry). record (accounts x) { entry = en }) e)
    by_test x false entry e = inl (ap (λ (en : Entry). record (accounts x) { entry = en }) e)

    kept : AllKept script.nodes (account_of script (Frozen q) later s (Some q) left)
    kept = some_frozen script.nodes accounts (account_of script (Frozen q) later s (Some q) left) (all_kept script (Acting q) w s (Some q) desk h) (λ x below.
        elim (by_test x (x == q || is_target q frozen x (entry_of desk x)) (entry_of left x) (freezes_are_steps.entries q x desk (within x below))) [
          | inl e ↦ inl (account_is x ∙ e)
          | inr e ↦ inr (e.0, account_is x ∙ e.1)
        ])

    -- nothing new comes to a node that isn't told
    spared : (x : ℕ) → (Contains told x → ⊥) → freezes_to script later s x ≡ freezes_to script w s x
    spared x none = freezes_stay script w q s m x (all_map (SaysNone s freeze_in x) post told
        (recursion_from_All (λ (y : ℕ). SaysNone s freeze_in x (post y)) told
        (λ k d inside e. absurd (none (subst (Contains told) e (Contains-get_or told k d inside))))))

    is_told : (x : ℕ) → Contains told x → IsTrue (is_target q frozen x (entry_of desk x))
    is_told x c =
        let found = places-which (is_target q frozen) 0 desk.entries first_entry x c in
        subst (λ (i : ℕ). IsTrue (is_target q frozen x (slice_index_or desk.entries i first_entry))) (omega (arith, found.1)) found.3

    told_is : (x : ℕ) → x < script.nodes → IsTrue (is_target q frozen x (entry_of desk x)) → Contains told x
    told_is x below e = subst (Contains told) (omega arith)
        (places-at (is_target q frozen) 0 desk.entries first_entry x (within x below) (ap (λ (k : ℕ). is_target q frozen k (entry_of desk x)) (omega arith) ∙ e))

    notice : Notice
    notice = record { number = number_by q desk; modes = frozen }

    sent_notice : (x : ℕ) → Contains told x → IsGain notice (freezes_to script w s x) (freezes_to script later s x)
    sent_notice x c = record {
      gained = (freezes_are_on_way script later s x notice).1 (comes_sent script w q s m (post x) at.node (contains_map post told x c) refl);
      kept = λ y d. (freezes_are_on_way script later s x y).1 (comes_still script w q s m x (FreezeBody y.number y.modes) ((freezes_are_on_way script w s x y).0 d));
      only = λ y d. elim (comes_or_sent script w q s m x (FreezeBody y.number y.modes) ((freezes_are_on_way script later s x y).0 d)) [
        | inl old ↦ inl ((freezes_are_on_way script w s x y).1 old)
        | inr new ↦
            let from = contains_mapped post told new.0 new.1 in
            inr (says_notice y (sym new.4 ∙ ap (λ (p : Post). p.letter.body) (sym from.2)))
      ];
    }
      where
        says_notice : (y : Notice) → FreezeBody y.number y.modes ≡ FreezeBody notice.number notice.modes → y ≡ notice
        says_notice y e =
            let number : y.number ≡ notice.number = cc in
            let modes : y.modes ≡ notice.modes = cc in
            λ i. record { number = number i; modes = modes i }

    later_number : desk.number ≤ number_by q desk
    later_number = number_after-later told desk.number

    before : (x : ℕ) (b : Bool) → (x == q) ≡ b
        → news_of script (Acting q) w s (Some q) desk x ≡ news_with (state_at w s x) (freezes_to script w s x) (entry_of desk x) desk b true
    before x b e = λ i. news_with (state_at w s x) (freezes_to script w s x) (entry_of desk x) desk (e i) (eq-eqb q q refl i)

    news_kept : (x : ℕ) → x < script.nodes → (x ≡ q) ⊎ (x ≢ q) → NewsKept (news_of script (Frozen q) later s (Some q) left x)
    news_kept x below (inl e) =
        subst (λ (y : ℕ). NewsKept (news_of script (Frozen q) later s (Some q) left y)) (sym e)
        (subst NewsKept (sym (
        ap (λ (u : SetState). news_with u (freezes_to script later s q) (entry_of left q) left (q == q) false) (state_here w q s m)
        ∙ (λ i. news_with m.state (spared q (λ c. own_target (is_told q c)) i) (entry_of left q) left (eq-eqb q q refl i) false)
        ∙ freezing_is_steps.keeps s stamp t desk (freezes_to script w s q) (within q at.node)))
        (keeps_kept (news_with t (freezes_to script w s q) (entry_of desk q) desk true true) (number_by q desk)
        (subst NewsKept (before q true (eq-eqb q q refl)) (h.news q at.node)) (record { here = refl; later = later_number })))
      where
        own_target : IsTrue (is_target q frozen q (entry_of desk q)) → ⊥
        own_target target = false≢true (sym (ap not (eq-eqb q q refl)) ∙ (and_parts (not (q == q)) _ target).0)
    news_kept x below (inr d) = by_target (is_target q frozen x (entry_of desk x)) refl
      where
        there : news_of script (Frozen q) later s (Some q) left x ≡ news_with (state_at w s x) (freezes_to script later s x) (entry_of left x) left false false
        there = λ i. news_with (state_there w q s m x d i) (freezes_to script later s x) (entry_of left x) left (ne_eqb x q d i) false

        old : NewsKept (news_with (state_at w s x) (freezes_to script w s x) (entry_of desk x) desk false true)
        old = subst NewsKept (before x false (ne_eqb x q d)) (h.news x below)

        by_target : (b : Bool) → is_target q frozen x (entry_of desk x) ≡ b → NewsKept (news_of script (Frozen q) later s (Some q) left x)
        by_target true e =
            subst NewsKept (sym (there ∙ freezing_is_steps.sends q x (state_at w s x) desk (freezes_to script w s x) (freezes_to script later s x) (within x below) e))
            (sends_kept (news_with (state_at w s x) (freezes_to script w s x) (entry_of desk x) desk false true) (freezes_to script later s x) old
            (record {
              away = refl;
              sent = subst (λ (k : ℕ). IsGain (record { number = k; modes = frozen }) (freezes_to script w s x) (freezes_to script later s x))
                  (ap (λ (n : News). n.last) (freezing_is_steps.sends q x (state_at w s x) desk (freezes_to script w s x) (freezes_to script later s x) (within x below) e))
                  (sent_notice x (told_is x below e));
            }))
        by_target false e =
            subst NewsKept (sym (there ∙ ap (λ l. news_with (state_at w s x) l (entry_of left x) left false false) (spared x (λ c. let yes = is_told x c in let no : true ≡ false = sym yes ∙ e in cc))
            ∙ freezing_is_steps.spares q x (state_at w s x) desk (freezes_to script w s x) (within x below) d e))
            (spares_kept (news_with (state_at w s x) (freezes_to script w s x) (entry_of desk x) desk false true) (number_by q desk) old
            (record { away = refl; later = later_number; knows = freezing_is_steps.knows q x desk d e }))
