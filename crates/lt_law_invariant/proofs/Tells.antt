-- A tell that is parked or sent on, and a tell that is made.
use Rattle.std.proofs.Common.{◌≡◌, ◌≢◌, ℕ, ◌<◌, inl, inr, [], ◌∷◌, ◌++◌, Option, None, Bool, true, false, refl, sym, ap, subst, arith, ◌∙◌, ◌==◌, ◌⊎◌, if◌then◌else◌, Contains, filter_map, eq-eqb, ne_eqb, append-nil}
use Rattle.std.specs.List.{AllByRecursion, cons_option}
use Rattle.std.proofs.lemmas.Bool.{cases_eq}
use Rattle.std.proofs.lemmas.List.Elements.{filter_map-append, Contains-push, Contains-push_cases, Contains-append_left}
use Rattle.lt_modes.specs.declared.stamp.Stamp.{Stamp}
use Rattle.lt_modes.specs.Modes.{bars, same_modes, held_modes}
use Rattle.lt_modes.specs.Script.{ScriptData}
use Rattle.lt_modes.specs.State.{SetState, Desk, Tell, Body, TellBody, Parked, ParkedTell, Made, Post, entry_of}
use Rattle.lt_modes.specs.SetMove.{make_tell}
use Rattle.lt_modes.specs.Routing.{Parks, Goes, sent_on, route, route_by}
use Rattle.lt_modes.specs.Telling.{tell_of}
use Rattle.lt_spec.specs.World.{World}
use Rattle.lt_spec.specs.Facts.{state_at, Comes}
use Rattle.lt_model.specs.OnWay.{Between, Acting, is_at, is_moving, tell_in, tell_parked, copy_in, freeze_in, tells_of, copies_to, account_of, news_of}
use Rattle.lt_law_accounts.specs.AccountSteps.{IsGain}
use Rattle.lt_law_accounts.specs.AccountPlay.{AllKept, Say, Rest}
use Rattle.lt_law_accounts.specs.News.{NewsKept}
use Rattle.lt_model.specs.Invariant.{DeskKept}
use Rattle.lt_modes.proofs.ModeAlgebra.{same_modes-true}
use Rattle.lt_model.proofs.StandingBegins.{tells_are_on_way, tell_if-other}
use Rattle.lt_lists.proofs.Members.{contains_cases}
use Rattle.lt_model.specs.AccountRules.{account_with}
use Rattle.lt_law_accounts.proofs.AccountPlay.{one_changes}
use Rattle.lt_law_invariant.specs.InvariantLaws.{after_effect}
use Rattle.lt_law_invariant.proofs.AfterEffect.{SaysNone, says_none, state_here, state_there, clock_stays, copies_stay, freezes_stay, comes_or_sent, comes_still, comes_sent}
use Rattle.lt_law_invariant.proofs.Seen.{SameHeard, SameOwn, all_kept, kept_by, account_seen, account_as, news_seen, own_as, frozen_stays, tells_stay}
use Rattle.lt_law_invariant.proofs.OwnSteps.{route_same}

-- the tell was parked or sent to a node of the script, and nothing else was said
pub record TellRouted (nodes s : ℕ) (tell : Tell) (t : SetState) (m : Made) : Type 0 where
  pub others : (x b : ℕ) → tell.node ≢ x → AllByRecursion (SaysNone s (tell_in x) b) m.posts
  pub parked_others : (x : ℕ) → tell.node ≢ x → filter_map (tell_parked x) m.state.parked ≡ filter_map (tell_parked x) t.parked
  pub copies : (b : ℕ) → AllByRecursion (SaysNone s copy_in b) m.posts
  pub freezes : (b : ℕ) → AllByRecursion (SaysNone s freeze_in b) m.posts
  pub gone : ((post : Post) × Contains m.posts post × (post.to < nodes) × (post.letter.set ≡ s) × (post.letter.body ≡ TellBody tell)) ⊎ Contains m.state.parked (ParkedTell tell)
  pub parked_kept : (item : Parked) → Contains t.parked item → Contains m.state.parked item
  pub parked_only : (item : Parked) → Contains m.state.parked item → Contains t.parked item ⊎ (item ≡ ParkedTell tell)
  pub posts_only : (post : Post) → Contains m.posts post → post.letter.body ≡ TellBody tell

-- a node whose hoped link may lead to a node is no matter: tells go by the firm link
pub tell_routed : (nodes s : ℕ) (stamp : Stamp) (marked : Bool) (tell : Tell) (t : SetState) → t.desk ≡ None → t.firm.node < nodes
    → TellRouted nodes s tell t (route s stamp marked (ParkedTell tell) t)
tell_routed nodes s stamp marked tell t away named =
    subst (λ (o : Option Desk). TellRouted nodes s tell t (route_by s stamp marked (ParkedTell tell) t o)) (sym away) (by_own (t.firm.node == stamp.node))
  where
    parks : TellRouted nodes s tell t (sent_on s stamp (ParkedTell tell) t Parks)
    parks = record {
      others = λ x b d. tt;
      parked_others = λ x d. filter_map-append (tell_parked x) t.parked (ParkedTell tell ∷ [])
          ∙ ap (λ o. filter_map (tell_parked x) t.parked ++ cons_option o []) (tell_if-other x tell d) ∙ append-nil (filter_map (tell_parked x) t.parked);
      copies = λ b. tt;
      freezes = λ b. tt;
      gone = inr (Contains-push t.parked (ParkedTell tell));
      parked_kept = λ item c. Contains-append_left t.parked (ParkedTell tell ∷ []) item c;
      parked_only = λ item c. elim (Contains-push_cases t.parked (ParkedTell tell) item c) [ inl old ↦ inl old | inr new ↦ inr (sym new) ];
      posts_only = λ post c. absurd (omega (arith, c.1));
    }

    goes : TellRouted nodes s tell t (sent_on s stamp (ParkedTell tell) t (Goes t.firm.node false))
    goes =
        let post : Post = record { to = t.firm.node; letter = record { stamp = stamp; set = s; link = t.firm; body = TellBody tell } } in
        record {
          others = λ x b d. (λ e. says_none s (tell_in x) post.letter (tell_if-other x tell d), tt);
          parked_others = λ x d. refl;
          copies = λ b. (λ e. says_none s copy_in post.letter refl, tt);
          freezes = λ b. (λ e. says_none s freeze_in post.letter refl, tt);
          gone = inl (post, (0, omega arith, refl), named, refl, refl);
          parked_kept = λ item c. c;
          parked_only = λ item c. inl c;
          posts_only = λ other c. elim (contains_cases post other [] c) [
            | inl same ↦ ap (λ (p : Post). p.letter.body) (sym same)
            | inr none ↦ absurd (omega (arith, none.1))
          ];
        }

    by_own : (own : Bool) → TellRouted nodes s tell t (sent_on s stamp (ParkedTell tell) t (if own then Parks else Goes t.firm.node false))
    by_own true = parks
    by_own false = goes

-- what tells there are once it was routed
pub tells_gain : (script : ScriptData) (w : World) (q s : ℕ) (m : Made) (tell : Tell) → q < script.nodes
    → TellRouted script.nodes s tell (state_at w s q) m
    → IsGain tell (tells_of script w s tell.node) (tells_of script (after_effect w q s m) s tell.node)
tells_gain script w q s m tell below r = record {
  gained = (tells_are_on_way script later s tell.node tell).1 (elim r.gone [
    | inl sent ↦ (refl, sent.0.to, sent.2, inl (subst (λ (b : Body). Comes script later s sent.0.to b) sent.4 (comes_sent script w q s m sent.0 below sent.1 sent.3)))
    | inr parked ↦ (refl, q, below, inr (subst (λ (t : SetState). Contains t.parked (ParkedTell tell)) (sym (state_here w q s m)) parked))
  ]);
  kept = λ y c.
      let old = (tells_are_on_way script w s tell.node y).0 c in
      (tells_are_on_way script later s tell.node y).1 (
        old.0,
        old.1,
        old.2,
        elim old.3 [
          | inl comes ↦ inl (comes_still script w q s m old.1 (TellBody y) comes)
          | inr parked ↦ inr (still_parked old.1 y parked (cases_eq old.1 q))
        ],
      );
  only = λ y c.
      let new = (tells_are_on_way script later s tell.node y).0 c in
      elim new.3 [
        | inl comes ↦ elim (comes_or_sent script w q s m new.1 (TellBody y) comes) [
          | inl old ↦ inl ((tells_are_on_way script w s tell.node y).1 (new.0, new.1, new.2, inl old))
          | inr sent ↦ inr (same_tell y (sym sent.4 ∙ r.posts_only sent.0 sent.1))
        ]
        | inr parked ↦ elim (was_parked new.1 y parked (cases_eq new.1 q)) [
          | inl old ↦ inl ((tells_are_on_way script w s tell.node y).1 (new.0, new.1, new.2, inr old))
          | inr same ↦ inr same
        ]
      ];
}
  where
    later : World
    later = after_effect w q s m

    same_tell : (y : Tell) → TellBody y ≡ TellBody tell → y ≡ tell
    same_tell y e = cc

    same_item : (y : Tell) → ParkedTell y ≡ ParkedTell tell → y ≡ tell
    same_item y e = cc

    still_parked : (b : ℕ) (y : Tell) → Contains (state_at w s b).parked (ParkedTell y) → (b ≡ q) ⊎ (b ≢ q)
        → Contains (state_at later s b).parked (ParkedTell y)
    still_parked b y c (inl e) =
        subst (λ (k : ℕ). Contains (state_at later s k).parked (ParkedTell y)) (sym e)
        (subst (λ (t : SetState). Contains t.parked (ParkedTell y)) (sym (state_here w q s m))
        (r.parked_kept (ParkedTell y) (subst (λ (k : ℕ). Contains (state_at w s k).parked (ParkedTell y)) e c)))
    still_parked b y c (inr d) = subst (λ (t : SetState). Contains t.parked (ParkedTell y)) (sym (state_there w q s m b d)) c

    was_parked : (b : ℕ) (y : Tell) → Contains (state_at later s b).parked (ParkedTell y) → (b ≡ q) ⊎ (b ≢ q)
        → Contains (state_at w s b).parked (ParkedTell y) ⊎ (y ≡ tell)
    was_parked b y c (inl e) =
        elim (r.parked_only (ParkedTell y) (subst (λ (t : SetState). Contains t.parked (ParkedTell y)) (state_here w q s m) (subst (λ (k : ℕ). Contains (state_at later s k).parked (ParkedTell y)) e c))) [
          | inl old ↦ inl (subst (λ (k : ℕ). Contains (state_at w s k).parked (ParkedTell y)) (sym e) old)
          | inr new ↦ inr (same_item y new)
        ]
    was_parked b y c (inr d) = inl (subst (λ (t : SetState). Contains t.parked (ParkedTell y)) (state_there w q s m b d) c)

-- what is heard of others than the tell's node
pub routed_heard : (script : ScriptData) (w : World) (q s : ℕ) (m : Made) (tell : Tell) (x : ℕ) → tell.node ≢ x
    → TellRouted script.nodes s tell (state_at w s q) m
    → SameHeard script w (after_effect w q s m) s x
routed_heard script w q s m tell x d r = record {
  clock = clock_stays w q s m x;
  tells = tells_stay script w q s m x (λ b. r.others x b d) (r.parked_others x d);
  copies = copies_stay script w q s m x (r.copies x);
  freezes = freezes_stay script w q s m x (r.freezes x);
}

-- a node without the desk makes a tell
pub tell_keeps : (script : ScriptData) (w : World) (s : ℕ) (stamp : Stamp) (place : Option ℕ) (desk : Desk) → stamp.node < script.nodes
    → (state_at w s stamp.node).desk ≡ None → is_at place stamp.node ≡ false → stamp.clock ≡ (w.node stamp.node).clock
    → (state_at w s stamp.node).firm.node < script.nodes
    → DeskKept script (Acting stamp.node) w s place desk
    → DeskKept script Between (after_effect w stamp.node s (make_tell s stamp (state_at w s stamp.node))) s place desk
tell_keeps script w s stamp place desk below away elsewhere now named h =
    kept_by script Between later s place desk kept
    (λ x under. subst NewsKept (sym (news_seen script Between w later s place desk x (freezes_stay script w q s m x (r.freezes x))
    (frozen_stays w q s m x (let same = (route_same s stamp false (ParkedTell tell) u).0 in record { number = same.number; frozen = same.frozen }))
    ∙ ap (λ (b : Bool). record (news_of script Between w s place desk x) { serving = b }) (sym elsewhere)))
    (h.news x under))
  where
    q : ℕ
    q = stamp.node

    t : SetState
    t = state_at w s q

    tell : Tell
    tell = tell_of stamp t

    u : SetState
    u = record t { charge = held_modes t.held }

    m : Made
    m = make_tell s stamp t

    later : World
    later = after_effect w q s m

    r : TellRouted script.nodes s tell t m
    r = let routed = tell_routed script.nodes s stamp false tell u away named in record {
      others = routed.others;
      parked_others = routed.parked_others;
      copies = routed.copies;
      freezes = routed.freezes;
      gone = routed.gone;
      parked_kept = routed.parked_kept;
      parked_only = routed.parked_only;
      posts_only = routed.posts_only;
    }

    own : SameOwn u m.state
    own = (route_same s stamp false (ParkedTell tell) u).1

    moves : is_moving (Acting q) q ≡ true
    moves = eq-eqb q q refl

    kept : AllKept script.nodes (account_of script Between later s place desk)
    kept = one_changes script.nodes (account_of script (Acting q) w s place desk) (account_of script Between later s place desk) q (Say stamp (tells_of script later s q))
        (all_kept script (Acting q) w s place desk h) below
        (record { moves = moves; away = elsewhere; now = now; made = tells_gain script w q s m tell below r })
        (λ x under d. account_seen script Between (Acting q) w later s place place desk desk x
        (record { heard = routed_heard script w q s m tell x (λ e. d (sym e)) r; own = own_as (state_at w s x) (state_at later s x) (state_there w q s m x d) }) refl refl (sym (ne_eqb x q d)))
        ((λ i. account_with (clock_stays w q s m q i) (is_at place q) false (entry_of desk q) (state_here w q s m i) (tells_of script later s q) (copies_stay script w q s m q (r.copies q) i))
        ∙ account_as (w.node q).clock (is_at place q) false (entry_of desk q) (tells_of script later s q) (copies_to script w s q) u m.state own)

-- or no tell is due
pub no_tell_keeps : (script : ScriptData) (w : World) (s q : ℕ) (place : Option ℕ) (desk : Desk) → q < script.nodes → is_at place q ≡ false
    → same_modes (bars (held_modes (state_at w s q).held)) (bars (state_at w s q).charge) ≡ true
    → DeskKept script (Acting q) w s place desk → DeskKept script Between w s place desk
no_tell_keeps script w s q place desk below elsewhere same h =
    kept_by script Between w s place desk
    (one_changes script.nodes (account_of script (Acting q) w s place desk) (account_of script Between w s place desk) q Rest
    (all_kept script (Acting q) w s place desk h) below
    (λ away. same_modes-true (bars (held_modes (state_at w s q).held)) (bars (state_at w s q).charge) same)
    (λ x under d. ap (λ (b : Bool). record (account_of script Between w s place desk x) { moving = b }) (sym (ne_eqb x q d))) refl)
    (λ x under. subst NewsKept (ap (λ (b : Bool). record (news_of script Between w s place desk x) { serving = b }) elsewhere) (h.news x under))
