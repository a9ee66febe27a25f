-- Handing over keeps the ledgers of the set.
use Rattle.std.proofs.Common.{◌≡◌, ◌≢◌, ℕ, ◌+◌, ◌<◌, inl, inr, length, Some, None, Bool, false, refl, sym, ap, subst, ◌∙◌, List, [], ◌∷◌, ◌++◌, Option, true, arith, ◌⊎◌, ◌==◌, if◌then◌else◌, Contains, fold, eq-eqb, ne_eqb, filter_map, append-nil}
use Rattle.std.proofs.lemmas.Bool.{cases_eq}
use Rattle.std.specs.List.{AllByRecursion, cons_option}
use Rattle.std.proofs.lemmas.List.Elements.{Contains-append_left, Contains-append_right, Contains-append_cases}
use Rattle.lt_modes.specs.State.{SetState, Desk, Made, entry_of, record_of, Entry, Tell, TellBody, Parked, ParkedAsk, ParkedTell, silent}
use Rattle.lt_modes.specs.HandingOver.{settled, leaving, hand_over_to}
use Rattle.lt_modes.specs.Telling.{told, is_newer}
use Rattle.lt_modes.specs.Script.{ScriptData}
use Rattle.lt_modes.specs.Freezing.{frozen_by}
use Rattle.lt_modes.specs.Routing.{dealt}
use Rattle.lt_modes.specs.Taking.{take_token}
use Rattle.lt_lists.proofs.Members.{filter_map-which, filter_map-at, contains_first, contains_later, contains_cases}
use Rattle.lt_spec.specs.World.{World}
use Rattle.lt_spec.specs.Facts.{state_at}
use Rattle.lt_law_accounts.specs.Account.{Account}
use Rattle.lt_law_accounts.specs.AccountSteps.{settling, IsLoss, reordering}
use Rattle.lt_law_accounts.specs.AccountPlay.{Settle, AllKept, Arrive, Apply}
use Rattle.lt_law_accounts.specs.News.{News, NewsKept, news_leaving as leaving_news, beginning, changing, arriving as arriving_news}
use Rattle.lt_law_accounts.proofs.AccountPlay.{one_changes, same_kept, all_reordered}
use Rattle.lt_law_accounts.proofs.NewsLemmas.{leaves_kept, begins_kept, changes_kept, news_arrive}
use Rattle.lt_model.specs.OnWay.{Between, Frozen, tells_of, copies_to, freezes_to, account_of, news_of, Acting, tell_if, tell_parked}
use Rattle.lt_model.specs.AccountRules.{account_with, IsParkedOf, told_by_parked}
use Rattle.lt_model.specs.NewsRules.{news_with}
use Rattle.lt_model.proofs.AccountRules.{handing_over_settles, tokens_arrive}
use Rattle.lt_model.proofs.NewsRules.{desks_come_and_go}
use Rattle.lt_model.specs.Invariant.{DeskKept}
use Rattle.lt_model.proofs.StandingBegins.{tells_are_on_way, tell_item, tell_if-at, tell_if-other}
use Rattle.lt_law_invariant.specs.InvariantLaws.{after_effect, HandOverKeeps}
use Rattle.lt_law_invariant.proofs.AfterEffect.{state_here, state_there, clock_stays, copies_stay, freezes_stay, comes_or_sent, comes_still}
use Rattle.lt_law_invariant.proofs.Seen.{SameHeard, all_kept, kept_by, account_heard, account_seen, news_seen, frozen_as, QuietMade, quiet_heard, quiet_seen, own_stays, frozen_stays}

pub hand_over_keeps : HandOverKeeps
hand_over_keeps script w s v stamp desk at now knows h =
    kept_by script Between later s None left
    (one_changes script.nodes accounts (account_of script Between later s None left) q (Settle stamp)
    (all_kept script (Frozen q) w s (Some q) desk h) at.node
    (record { moves = eq-eqb q q refl; here = eq-eqb q q refl; now = now })
    (λ x under d. account_seen script Between (Frozen q) w later s None (Some q) left desk x (quiet_seen script w q s m x d quiet)
    (handing_over_settles.others_stay x stamp t desk d) (sym (ne_eqb x q d)) (sym (ne_eqb x q d)))
    own)
    (λ x under. news_kept x under (cases_eq x q))
  where
    q : ℕ
    q = stamp.node

    t : SetState
    t = state_at w s q

    m : Made
    m = hand_over_to s stamp t v (Some desk)

    later : World
    later = after_effect w q s m

    left : Desk
    left = leaving stamp t desk

    accounts : ℕ → Account
    accounts x = account_of script (Frozen q) w s (Some q) desk x

    news : ℕ → News
    news x = news_of script (Frozen q) w s (Some q) desk x

    within : q < length desk.entries
    within = subst (λ (n : ℕ). q < n) (sym at.entries) at.node

    quiet : QuietMade t m
    quiet = record { posts = ((λ x. refl, refl, refl), tt); parked = λ x. refl }

    heard : (x : ℕ) → SameHeard script w later s x
    heard x = quiet_heard script w q s m x quiet

    own : account_of script Between later s None left q ≡ settling stamp (accounts q)
    own =
        account_heard script Between w later s None left q (heard q)
        ∙ ap (λ (u : SetState). account_with (w.node q).clock false false (entry_of left q) u (tells_of script w s q) (copies_to script w s q)) (state_here w q s m)
        ∙ handing_over_settles.settles (w.node q).clock v (desk.epoch + 1) stamp t desk (tells_of script w s q) (copies_to script w s q) within

    own_news : news_of script Between later s None left q ≡ leaving_news (record_of (settled stamp t (entry_of desk q))) (news q)
    own_news =
        (λ i. news_with (state_here w q s m i) ((heard q).freezes i) (entry_of left q) left false false)
        ∙ desks_come_and_go.leaves v (desk.epoch + 1) stamp t desk (freezes_to script w s q) within
        ∙ ap (λ (b : Bool). leaving_news (record_of (settled stamp t (entry_of desk q))) (record (news q) { here = b })) (sym (eq-eqb q q refl))

    other_news : (x : ℕ) → x ≢ q → news_of script Between later s None left x ≡ news x
    other_news x d =
        news_seen script Between w later s None left x (heard x).freezes (frozen_as (state_at w s x) (state_at later s x) (state_there w q s m x d))
        ∙ λ i. news_with (state_at w s x) (freezes_to script w s x) (handing_over_settles.others_stay x stamp t desk d i) desk (sym (ne_eqb x q d) i) false

    news_kept : (x : ℕ) → x < script.nodes → (x ≡ q) ⊎ (x ≢ q) → NewsKept (news_of script Between later s None left x)
    news_kept x below (inl e) = subst (λ (y : ℕ). NewsKept (news_of script Between later s None left y)) (sym e)
        (subst NewsKept (sym own_news) (leaves_kept (news q) (record_of (settled stamp t (entry_of desk q))) (h.news q at.node)
        (record { here = eq-eqb q q refl; frozen = refl; knows = knows })))
    news_kept x below (inr d) = subst NewsKept (sym (other_news x d)) (h.news x below)

-- The token comes, and the parked letters are dealt with: the ledgers stay kept.

-- the tells of these parked letters are applied in order
applied : (n : ℕ) (items : List Parked) (accounts : ℕ → Account) (tells : ℕ → List Tell) → AllByRecursion (IsParkedOf n) items → AllKept n accounts
    → ((x : ℕ) → (accounts x).tells ≡ tells x ++ filter_map (tell_parked x) items)
    → AllKept n (λ x. record (accounts x) { entry = told_by_parked x items (accounts x).entry; tells = tells x })
applied n [] accounts tells named h same =
    same_kept n accounts (λ x. record (accounts x) { tells = tells x }) h (λ x below. ap (λ l. record (accounts x) { tells = l }) (sym (same x ∙ append-nil (tells x))))
applied n (ParkedAsk ask ∷ rest) accounts tells named h same = applied n rest accounts tells named.1 h same
applied n (ParkedTell tell ∷ rest) accounts tells named h same =
    same_kept n (λ x. record (next x) { entry = told_by_parked x rest (next x).entry; tells = tells x })
    (λ x. record (accounts x) { entry = told_by_parked x (ParkedTell tell ∷ rest) (accounts x).entry; tells = tells x })
    (applied n rest next tells named.1 next_kept (λ x. refl))
    (λ x below. ap (λ (e : Entry). record (accounts x) { entry = e; tells = tells x }) (by_node x (cases_eq tell.node x)))
  where
    v : ℕ
    v = tell.node

    next : ℕ → Account
    next x = record (accounts x) { entry = if x == v then told tell (accounts x).entry else (accounts x).entry; tells = tells x ++ filter_map (tell_parked x) rest }

    by_node : (x : ℕ) → (tell.node ≡ x) ⊎ (tell.node ≢ x)
        → fold (λ e t. told t e) (accounts x).entry (cons_option (tell_if x tell) (filter_map (tell_parked x) rest)) ≡ told_by_parked x rest (next x).entry
    by_node x (inl e) =
        ap (λ (o : Option Tell). fold (λ e t. told t e) (accounts x).entry (cons_option o (filter_map (tell_parked x) rest))) (tell_if-at x tell e)
        ∙ ap (λ (b : Bool). told_by_parked x rest (if b then told tell (accounts x).entry else (accounts x).entry)) (sym (eq-eqb x v (sym e)))
    by_node x (inr d) =
        ap (λ (o : Option Tell). fold (λ e t. told t e) (accounts x).entry (cons_option o (filter_map (tell_parked x) rest))) (tell_if-other x tell d)
        ∙ ap (λ (b : Bool). told_by_parked x rest (if b then told tell (accounts x).entry else (accounts x).entry)) (sym (ne_eqb x v (λ e. d (sym e))))

    at_v : (accounts v).tells ≡ tells v ++ tell ∷ filter_map (tell_parked v) rest
    at_v = same v ∙ ap (λ (o : Option Tell). tells v ++ cons_option o (filter_map (tell_parked v) rest)) (tell_if-at v tell refl)

    loss : IsLoss tell (accounts v).tells (tells v ++ filter_map (tell_parked v) rest)
    loss = record {
      only = λ y c. subst (λ l. Contains l y) (sym at_v) (elim (Contains-append_cases (tells v) (filter_map (tell_parked v) rest) y c) [
        | inl first ↦ Contains-append_left (tells v) (tell ∷ filter_map (tell_parked v) rest) y first
        | inr later ↦ Contains-append_right (tells v) (tell ∷ filter_map (tell_parked v) rest) y (contains_later tell y (filter_map (tell_parked v) rest) later)
      ]);
      kept = λ y c. elim (Contains-append_cases (tells v) (tell ∷ filter_map (tell_parked v) rest) y (subst (λ l. Contains l y) at_v c)) [
        | inl first ↦ inl (Contains-append_left (tells v) (filter_map (tell_parked v) rest) y first)
        | inr later ↦ elim (contains_cases tell y (filter_map (tell_parked v) rest) later) [
          | inl own ↦ inr (sym own)
          | inr other ↦ inl (Contains-append_right (tells v) (filter_map (tell_parked v) rest) y other)
        ]
      ];
    }

    next_kept : AllKept n next
    next_kept = one_changes n accounts next v (Apply tell (tells v ++ filter_map (tell_parked v) rest)) h named.0
        (record {
          came = subst (λ l. Contains l tell) (sym at_v) (Contains-append_right (tells v) (tell ∷ filter_map (tell_parked v) rest) tell (contains_first tell tell (filter_map (tell_parked v) rest) refl));
          left = loss;
        })
        (λ x below d. (λ i. record (accounts x) {
          entry = (ap (λ (b : Bool). if b then told tell (accounts x).entry else (accounts x).entry) (ne_eqb x v d)) i;
          tells = (sym (same x ∙ ap (λ (o : Option Tell). tells x ++ cons_option o (filter_map (tell_parked x) rest)) (tell_if-other x tell (λ e. d (sym e))))) i;
        }))
        (ap (λ (b : Bool). record (accounts v) { entry = if b then told tell (accounts v).entry else (accounts v).entry; tells = tells v ++ filter_map (tell_parked v) rest }) (eq-eqb v v refl))

-- tells leave what was told of frozen modes
told_leaves : (tells : List Tell) (entry : Entry) → (fold (λ e tell. told tell e) entry tells).frozen_told ≡ entry.frozen_told
told_leaves [] entry = refl
told_leaves (tell ∷ rest) entry = told_leaves rest (told tell entry) ∙ by_test (is_newer tell.stamp entry.told_at) _ refl
  where
    by_test : (newer : Bool) (changed : Entry) → changed.frozen_told ≡ entry.frozen_told
        → (if newer then changed else entry).frozen_told ≡ entry.frozen_told
    by_test true changed e = e
    by_test false changed e = refl

number_leaves : (items : List Parked) (desk : Desk) → (fold dealt desk items).number ≡ desk.number
number_leaves [] desk = refl
number_leaves (ParkedAsk ask ∷ rest) desk = number_leaves rest (dealt desk (ParkedAsk ask))
number_leaves (ParkedTell tell ∷ rest) desk = number_leaves rest (dealt desk (ParkedTell tell))

-- the token is taken
pub token_keeps : (script : ScriptData) (w : World) (s q : ℕ) (desk : Desk) → q < script.nodes → length desk.entries ≡ script.nodes
    → AllByRecursion (IsParkedOf script.nodes) (state_at w s q).parked → DeskKept script (Acting q) w s None desk
    → DeskKept script (Acting q) (after_effect w q s (silent (take_token q desk (state_at w s q)))) s (Some q) (fold dealt desk (state_at w s q).parked)
token_keeps script w s q desk below entries named h =
    kept_by script (Acting q) later s (Some q) left
    (same_kept script.nodes (λ x. record (second x) { entry = told_by_parked x t.parked (entry_of desk x); tells = tells_of script later s x })
    (account_of script (Acting q) later s (Some q) left)
    (applied script.nodes t.parked second (λ x. tells_of script later s x) named second_kept (λ x. refl)) (λ x under. is_account x))
    (λ x under. news_kept x under (cases_eq x q))
  where
    t : SetState
    t = state_at w s q

    m : Made
    m = silent (take_token q desk t)

    later : World
    later = after_effect w q s m

    left : Desk
    left = fold dealt desk t.parked

    first : ℕ → Account
    first x = record (account_of script (Acting q) w s None desk x) { here = x == q }

    first_kept : AllKept script.nodes first
    first_kept = one_changes script.nodes (account_of script (Acting q) w s None desk) first q Arrive (all_kept script (Acting q) w s None desk h) below refl
        (λ x under d. ap (λ (b : Bool). record (account_of script (Acting q) w s None desk x) { here = b }) (ne_eqb x q d))
        (ap (λ (b : Bool). record (account_of script (Acting q) w s None desk q) { here = b }) (eq-eqb q q refl))

    second : ℕ → Account
    second x = reordering (tells_of script later s x ++ filter_map (tell_parked x) t.parked) (copies_to script w s x) (first x)

    was : (x : ℕ) (y : Tell) → Contains (tells_of script later s x ++ filter_map (tell_parked x) t.parked) y → Contains (tells_of script w s x) y
    was x y c = elim (Contains-append_cases (tells_of script later s x) (filter_map (tell_parked x) t.parked) y c) [
      | inl there ↦
          let on = (tells_are_on_way script later s x y).0 there in
          (tells_are_on_way script w s x y).1 (
            on.0,
            on.1,
            on.2,
            elim on.3 [
              | inl comes ↦ inl (elim (comes_or_sent script w q s m on.1 (TellBody y) comes) [ inl old ↦ old | inr sent ↦ absurd (omega (arith, sent.1.1)) ])
              | inr parked ↦ inr (elim (cases_eq on.1 q) [
                | inl e ↦ absurd (omega (arith, (subst (λ (u : SetState). Contains u.parked (ParkedTell y)) (state_here w q s m) (subst (λ (k : ℕ). Contains (state_at later s k).parked (ParkedTell y)) e parked)).1))
                | inr d ↦ subst (λ (u : SetState). Contains u.parked (ParkedTell y)) (state_there w q s m on.1 d) parked
              ])
            ],
          )
      | inr here ↦
          let item = filter_map-which (tell_parked x) t.parked y here in
          let tell = tell_item x y item.0 item.2 in
          (tells_are_on_way script w s x y).1 (tell.1, q, below, inr (subst (Contains t.parked) tell.0 item.1))
    ]

    is : (x : ℕ) (y : Tell) → Contains (tells_of script w s x) y → Contains (tells_of script later s x ++ filter_map (tell_parked x) t.parked) y
    is x y c =
        let on = (tells_are_on_way script w s x y).0 c in
        elim on.3 [
          | inl comes ↦ Contains-append_left (tells_of script later s x) (filter_map (tell_parked x) t.parked) y
              ((tells_are_on_way script later s x y).1 (on.0, on.1, on.2, inl (comes_still script w q s m on.1 (TellBody y) comes)))
          | inr parked ↦ elim (cases_eq on.1 q) [
            | inl e ↦ Contains-append_right (tells_of script later s x) (filter_map (tell_parked x) t.parked) y
                (filter_map-at (tell_parked x) t.parked (ParkedTell y) y (subst (λ (k : ℕ). Contains (state_at w s k).parked (ParkedTell y)) e parked) (tell_if-at x y on.0))
            | inr d ↦ Contains-append_left (tells_of script later s x) (filter_map (tell_parked x) t.parked) y
                ((tells_are_on_way script later s x y).1 (on.0, on.1, on.2, inr (subst (λ (u : SetState). Contains u.parked (ParkedTell y)) (sym (state_there w q s m on.1 d)) parked)))
          ]
        ]

    second_kept : AllKept script.nodes second
    second_kept = all_reordered script.nodes first (λ x. tells_of script later s x ++ filter_map (tell_parked x) t.parked) (copies_to script w s) first_kept
        (λ x under. (record { only = was x; kept = is x }, record { only = λ y c. c; kept = λ y c. c }))

    is_account : (x : ℕ)
        → account_of script (Acting q) later s (Some q) left x ≡ record (second x) { entry = told_by_parked x t.parked (entry_of desk x); tells = tells_of script later s x }
    is_account x =
        let own = own_stays w q s m x (record { held = refl; charge = refl; pending = refl }) in
        let entry = tokens_arrive.parked x t.parked desk (subst (λ (n : ℕ). AllByRecursion (IsParkedOf n) t.parked) (sym entries) named) in
        λ i. record {
          clock = clock_stays w q s m x i;
          held = own.held i;
          charge = own.charge i;
          pending = own.pending i;
          entry = entry i;
          tells = tells_of script later s x;
          copies = copies_stay script w q s m x tt i;
          here = x == q;
          moving = x == q;
        }

    told_same : (x : ℕ) → (entry_of left x).frozen_told ≡ (entry_of desk x).frozen_told
    told_same x =
        ap (λ (e : Entry). e.frozen_told) (tokens_arrive.parked x t.parked desk (subst (λ (n : ℕ). AllByRecursion (IsParkedOf n) t.parked) (sym entries) named))
        ∙ told_leaves (filter_map (tell_parked x) t.parked) (entry_of desk x)

    old : ℕ → News
    old x = news_of script (Acting q) w s None desk x

    -- news by what was there before
    is_news : (x : ℕ) (b : Bool) → (x == q) ≡ b
        → news_of script (Acting q) later s (Some q) left x ≡ changing (record_of (entry_of left x)) (frozen_by left.queue) (record (old x) { here = b; serving = true })
    is_news x b e =
        news_seen script (Acting q) w later s (Some q) left x (freezes_stay script w q s m x tt) (frozen_stays w q s m x (record { number = refl; frozen = refl }))
        ∙ (λ i. record (changing (record_of (entry_of left x)) (frozen_by left.queue) (old x)) { told = told_same x i; last = number_leaves t.parked desk i; here = e i; serving = eq-eqb q q refl i })

    news_kept : (x : ℕ) → x < script.nodes → (x ≡ q) ⊎ (x ≢ q) → NewsKept (news_of script (Acting q) later s (Some q) left x)
    news_kept x under (inl e) =
        subst NewsKept (sym (is_news x true (eq-eqb x q e)))
        (changes_kept (arriving_news (old x)) (record_of (entry_of left x)) (frozen_by left.queue) (news_arrive (old x) (h.news x under)) refl)
    news_kept x under (inr d) =
        subst NewsKept (sym (is_news x false (ne_eqb x q d)))
        (changes_kept (beginning (old x)) (record_of (entry_of left x)) (frozen_by left.queue) (begins_kept (old x) (h.news x under)) refl)
