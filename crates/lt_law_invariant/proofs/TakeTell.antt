-- A letter in hand that accounts and news don't read, and a copy that is taken, keep the ledgers.
use Rattle.lt_model.proofs.Voids.{copy_by}
use Rattle.std.proofs.Common.{◌≡◌, ℕ, ◌<◌, Option, None, refl, sym, subst, ◌∙◌, inl, inr, length, Some, Bool, true, false, ap, ◌==◌, if◌then◌else◌, Contains, is_some, eq-eqb, ne_eqb}
use Rattle.lt_modes.specs.declared.ask.Ask.{Ask}
use Rattle.lt_modes.specs.Modes.{with_mode}
use Rattle.lt_modes.specs.Script.{ScriptData}
use Rattle.lt_modes.specs.State.{SetState, Desk, Body, CopyBody, Made, without, entry_of, Entry, Tell, TellBody, ParkedTell, silent}
use Rattle.lt_modes.specs.Serving.{answered, is_gone}
use Rattle.lt_modes.specs.Telling.{told, tell_applied}
use Rattle.lt_modes.specs.Taking.{take_copy}
use Rattle.lt_modes.specs.Routing.{route}
use Rattle.lt_modes.specs.declared.stamp.Stamp.{Stamp}
use Rattle.lt_spec.specs.World.{World}
use Rattle.lt_spec.specs.Facts.{state_at}
use Rattle.lt_law_accounts.specs.AccountPlay.{Deliver, Apply, Reorder, AccountStep, VoidCopy, after_step, MayStep, others_counted}
use Rattle.lt_law_accounts.specs.News.{NewsKept}
use Rattle.lt_law_accounts.specs.AccountSteps.{IsLoss, delivering, IsGain, applying, reordering}
use Rattle.lt_law_accounts.proofs.AccountPlay.{same_kept, one_changes}
use Rattle.lt_law_accounts.specs.Account.{Account}
use Rattle.lt_model.specs.OnWay.{Acting, is_at, tell_in, copy_in, freeze_in, tells_of, copies_to, account_of}
use Rattle.lt_model.specs.Invariant.{DeskKept}
use Rattle.lt_model.specs.AccountRules.{account_with}
use Rattle.lt_model.proofs.AccountRules.{tells_are_applied}
use Rattle.lt_model.proofs.StandingBegins.{tell_if-other}
use Rattle.lt_law_invariant.specs.InvariantLaws.{after_effect}
use Rattle.lt_law_invariant.proofs.AfterEffect.{state_here, state_there, clock_stays, copies_stay, freezes_stay}
use Rattle.lt_law_invariant.proofs.Seen.{SameHeard, all_kept, kept_by, account_seen, account_heard, news_seen, own_as, own_then, frozen_then, frozen_stays, heard_then, quiet_heard, SameOwn, SameFrozen, news_change, own_stays}
use Rattle.lt_law_invariant.proofs.OwnSteps.{HasDesk, here_is, route_same}
use Rattle.lt_law_invariant.proofs.InHand.{InHand, hand_heard, copy_in_hand, tell_in_hand}
use Rattle.lt_law_invariant.proofs.Tells.{TellRouted, tell_routed, tells_gain, routed_heard}

-- a letter that neither accounts nor news read is out of the way
pub nothing_in_hand : (script : ScriptData) (w base : World) (s q : ℕ) (body : Body) (place : Option ℕ) (desk : Desk) → InHand script w base s q body
    → ((x : ℕ) → tell_in x body ≡ None) → copy_in body ≡ None → freeze_in body ≡ None
    → DeskKept script (Acting q) w s place desk → DeskKept script (Acting q) base s place desk
nothing_in_hand script w base s q body place desk hand no_tell no_copy no_freeze h =
    kept_by script (Acting q) base s place desk
    (same_kept script.nodes (account_of script (Acting q) w s place desk) (account_of script (Acting q) base s place desk) (all_kept script (Acting q) w s place desk h)
    (λ x under. account_seen script (Acting q) (Acting q) w base s place place desk desk x (record { heard = heard x; own = hand.own x }) refl refl refl))
    (λ x under. subst NewsKept (sym (news_seen script (Acting q) w base s place desk x (heard x).freezes (hand.frozen x))) (h.news x under))
  where
    heard : (x : ℕ) → SameHeard script w base s x
    heard x = hand_heard script w base s q x body hand (no_tell x) (λ e. no_copy) (λ e. no_freeze)

-- a copy answers its ask, or is void where that was given up
take_copy_by : (script : ScriptData) (w base : World) (s q : ℕ) (ask : Ask) (place : Option ℕ) (desk : Desk) (gone : Bool) → q < script.nodes
    → InHand script w base s q (CopyBody ask) → HasDesk place desk q (state_at base s q).desk → (Contains (copies_to script base s q) ask → ⊥)
    → DeskKept script (Acting q) w s place desk
    → DeskKept script (Acting q) (after_effect base q s (copy_by s ask (state_at base s q) gone)) s place desk
take_copy_by script w base s q ask place desk gone below hand has_desk alone h =
    kept_by script (Acting q) later s place desk
    (one_changes script.nodes (account_of script (Acting q) w s place desk) (account_of script (Acting q) later s place desk) q (step gone)
    (all_kept script (Acting q) w s place desk h) below
    (may gone)
    (λ x under d. account_seen script (Acting q) (Acting q) w later s place place desk desk x (record {
      heard = heard_then script w base later s x (hand_heard script w base s q x (CopyBody ask) hand refl (λ e. absurd (d e)) (λ e. refl)) (heard x);
      own = own_then (state_at w s x) (state_at base s x) (state_at later s x) (hand.own x) (own_as (state_at base s x) (state_at later s x) (state_there base q s m x d));
    }) refl refl refl)
    own)
    (λ x under. subst NewsKept (sym (news_seen script (Acting q) w later s place desk x ((heard x).freezes ∙ hand.freezes x (λ e. refl))
    (frozen_then (state_at w s x) (state_at base s x) (state_at later s x) (hand.frozen x) (frozen_stays base q s m x (record { number = refl; frozen = refl }))))) (h.news x under))
  where
    t : SetState
    t = state_at base s q

    m : Made
    m = copy_by s ask t gone

    later : World
    later = after_effect base q s m

    heard : (x : ℕ) → SameHeard script base later s x
    heard x = quiet_heard script base q s m x (record { posts = tt; parked = λ y. refl })

    here : is_some t.desk ≡ is_at place q
    here = sym (here_is place desk q t.desk has_desk)

    taken : Contains (copies_to script w s q) ask × IsLoss ask (copies_to script w s q) (copies_to script base s q)
    taken = copy_in_hand script w base s q ask hand

    step : Bool → AccountStep
    step true = VoidCopy ask (copies_to script base s q)
    step false = Deliver ask (copies_to script base s q)

    may : (g : Bool) → MayStep (others_counted script.nodes (account_of script (Acting q) w s place desk) q) (step g) (account_of script (Acting q) w s place desk q)
    may true = record { moves = eq-eqb q q refl; came = taken.0; left = taken.1; once = alone }
    may false = record { moves = eq-eqb q q refl; came = taken.0; left = taken.1; once = alone }

    void_or_delivered : (g : Bool)
        → record (account_of script (Acting q) w s place desk q) {
          held = if g then (state_at w s q).held else answered (state_at w s q).held ask;
          charge = if is_at place q then (state_at w s q).charge else with_mode (state_at w s q).charge ask.mode;
          pending = without (state_at w s q).pending ask.stamp;
          copies = copies_to script base s q;
        }
        ≡ after_step (step g) (account_of script (Acting q) w s place desk q)
    void_or_delivered true = refl
    void_or_delivered false = refl

    own : account_of script (Acting q) later s place desk q ≡ after_step (step gone) (account_of script (Acting q) w s place desk q)
    own =
        account_heard script (Acting q) base later s place desk q (heard q)
        ∙ (λ i. account_with (hand.clocks q i) (is_at place q) (q == q) (entry_of desk q) (state_here base q s m i) (hand.tells q refl i) (copies_to script base s q))
        ∙ (λ i. record {
          clock = (w.node q).clock;
          held = if gone then (hand.own q).held i else answered ((hand.own q).held i) ask;
          charge = if here i then (hand.own q).charge i else with_mode ((hand.own q).charge i) ask.mode;
          pending = without ((hand.own q).pending i) ask.stamp;
          entry = entry_of desk q;
          tells = tells_of script w s q;
          copies = copies_to script base s q;
          here = is_at place q;
          moving = q == q;
        })
        ∙ void_or_delivered gone

-- a copy is taken
pub take_copy_keeps : (script : ScriptData) (w base : World) (s q : ℕ) (ask : Ask) (place : Option ℕ) (desk : Desk) → q < script.nodes
    → InHand script w base s q (CopyBody ask) → HasDesk place desk q (state_at base s q).desk → (Contains (copies_to script base s q) ask → ⊥)
    → DeskKept script (Acting q) w s place desk
    → DeskKept script (Acting q) (after_effect base q s (take_copy s ask (state_at base s q))) s place desk
take_copy_keeps script w base s q ask place desk below hand has_desk alone h =
    take_copy_by script w base s q ask place desk (is_gone (state_at base s q) ask.client) below hand has_desk alone h

-- A tell that is taken keeps the ledgers: applied at the desk, or parked or sent on.

-- a tell is applied at the desk
pub apply_keeps : (script : ScriptData) (w base : World) (s q : ℕ) (tell : Tell) (desk : Desk) → q < script.nodes
    → InHand script w base s q (TellBody tell) → tell.node < script.nodes → length desk.entries ≡ script.nodes
    → DeskKept script (Acting q) w s (Some q) desk
    → DeskKept script (Acting q) (after_effect base q s (silent (record (state_at base s q) { desk = Some (tell_applied tell desk) }))) s (Some q) (tell_applied tell desk)
apply_keeps script w base s q tell desk below hand named entries h =
    kept_by script (Acting q) later s (Some q) left
    (one_changes script.nodes accounts (account_of script (Acting q) later s (Some q) left) v (Apply tell (tells_of script base s v))
    (all_kept script (Acting q) w s (Some q) desk h) named (record { came = taken.0; left = taken.1 })
    (λ x under d. account_seen script (Acting q) (Acting q) w later s (Some q) (Some q) left desk x (record {
      heard = heard_then script w base later s x (hand_heard script w base s q x (TellBody tell) hand (tell_if-other x tell (λ e. d (sym e))) (λ e. refl) (λ e. refl)) (heard x);
      own = own x;
    }) (entry_left x ∙ ap (λ (b : Bool). if b then told tell (entry_of desk x) else entry_of desk x) (ne_eqb x v d)) refl refl)
    at_v)
    (λ x under. news_change script w later s q left desk x ((heard x).freezes ∙ hand.freezes x (λ e. refl))
    (frozen_then (state_at w s x) (state_at base s x) (state_at later s x) (hand.frozen x) (frozen_stays base q s m x (record { number = refl; frozen = refl })))
    (told_same x) refl (h.news x under))
  where
    v : ℕ
    v = tell.node

    t : SetState
    t = state_at base s q

    left : Desk
    left = tell_applied tell desk

    m : Made
    m = silent (record t { desk = Some left })

    later : World
    later = after_effect base q s m

    heard : (x : ℕ) → SameHeard script base later s x
    heard x = quiet_heard script base q s m x (record { posts = tt; parked = λ y. refl })

    entry_left : (x : ℕ) → entry_of left x ≡ (if x == v then told tell (entry_of desk x) else entry_of desk x)
    entry_left x = tells_are_applied x tell desk (subst (λ (n : ℕ). v < n) (sym entries) named)

    told_frozen : (newer : Bool) (entry : Entry) (changed : Entry) → changed.frozen_told ≡ entry.frozen_told
        → (if newer then changed else entry).frozen_told ≡ entry.frozen_told
    told_frozen true entry changed e = e
    told_frozen false entry changed e = refl

    told_same : (x : ℕ) → (entry_of left x).frozen_told ≡ (entry_of desk x).frozen_told
    told_same x = ap (λ (e : Entry). e.frozen_told) (entry_left x)
        ∙ told_frozen (x == v) (entry_of desk x) (told tell (entry_of desk x)) (told_frozen _ (entry_of desk x) _ refl)

    accounts : ℕ → Account
    accounts x = account_of script (Acting q) w s (Some q) desk x

    taken : Contains (tells_of script w s v) tell × IsLoss tell (tells_of script w s v) (tells_of script base s v)
    taken = tell_in_hand script w base s q tell below hand

    own : (x : ℕ) → SameOwn (state_at w s x) (state_at later s x)
    own x = own_then (state_at w s x) (state_at base s x) (state_at later s x) (hand.own x) (own_stays base q s m x (record { held = refl; charge = refl; pending = refl }))

    -- the account of the tell's node
    at_v : account_of script (Acting q) later s (Some q) left v ≡ applying tell (tells_of script base s v) (accounts v)
    at_v =
        let entry = entry_left v ∙ ap (λ (b : Bool). if b then told tell (entry_of desk v) else entry_of desk v) (eq-eqb v v refl) in
        λ i. record {
          clock = ((heard v).clock ∙ hand.clocks v) i;
          held = (own v).held i;
          charge = (own v).charge i;
          pending = (own v).pending i;
          entry = entry i;
          tells = (heard v).tells i;
          copies = ((heard v).copies ∙ hand.copies v (λ e. refl)) i;
          here = v == q;
          moving = v == q;
        }

-- a tell is parked or sent on
pub route_tell_keeps : (script : ScriptData) (w base : World) (s q : ℕ) (stamp : Stamp) (marked : Bool) (tell : Tell) (place : Option ℕ) (desk : Desk)
    → q < script.nodes
    → InHand script w base s q (TellBody tell) → tell.node < script.nodes → (state_at base s q).desk ≡ None
    → (state_at base s q).firm.node < script.nodes
    → DeskKept script (Acting q) w s place desk
    → DeskKept script (Acting q) (after_effect base q s (route s stamp marked (ParkedTell tell) (state_at base s q))) s place desk
route_tell_keeps script w base s q stamp marked tell place desk below hand named away firm h =
    kept_by script (Acting q) later s place desk
    (one_changes script.nodes accounts (account_of script (Acting q) later s place desk) v (Reorder (tells_of script later s v) (copies_to script w s v))
    (all_kept script (Acting q) w s place desk h) named
    (record {
      tells_same = record {
        only = λ y c. elim (gain.only y c) [
          | inl old ↦ taken.1.only y old
          | inr new ↦ subst (Contains (tells_of script w s v)) (sym new) taken.0
        ];
        kept = λ y c. elim (taken.1.kept y c) [
          | inl old ↦ gain.kept y old
          | inr same ↦ subst (Contains (tells_of script later s v)) (sym same) gain.gained
        ];
      };
      copies_same = record { only = λ y c. c; kept = λ y c. c };
    })
    (λ x under d. account_seen script (Acting q) (Acting q) w later s place place desk desk x (record {
      heard = heard_then script w base later s x (hand_heard script w base s q x (TellBody tell) hand (tell_if-other x tell (λ e. d (sym e))) (λ e. refl) (λ e. refl))
          (routed_heard script base q s m tell x (λ e. d (sym e)) r);
      own = own x;
    }) refl refl refl)
    at_v)
    (λ x under. subst NewsKept (sym (news_seen script (Acting q) w later s place desk x (freezes_stay script base q s m x (r.freezes x) ∙ hand.freezes x (λ e. refl))
    (frozen_then (state_at w s x) (state_at base s x) (state_at later s x) (hand.frozen x) (frozen_stays base q s m x same.0)))) (h.news x under))
  where
    t : SetState
    t = state_at base s q

    m : Made
    m = route s stamp marked (ParkedTell tell) t

    later : World
    later = after_effect base q s m

    same : SameFrozen t m.state × SameOwn t m.state
    same = route_same s stamp marked (ParkedTell tell) t

    r : TellRouted script.nodes s tell t m
    r = tell_routed script.nodes s stamp marked tell t away firm

    v : ℕ
    v = tell.node

    accounts : ℕ → Account
    accounts x = account_of script (Acting q) w s place desk x

    taken : Contains (tells_of script w s v) tell × IsLoss tell (tells_of script w s v) (tells_of script base s v)
    taken = tell_in_hand script w base s q tell below hand

    gain : IsGain tell (tells_of script base s v) (tells_of script later s v)
    gain = tells_gain script base q s m tell below r

    own : (x : ℕ) → SameOwn (state_at w s x) (state_at later s x)
    own x = own_then (state_at w s x) (state_at base s x) (state_at later s x) (hand.own x) (own_stays base q s m x same.1)

    at_v : account_of script (Acting q) later s place desk v ≡ reordering (tells_of script later s v) (copies_to script w s v) (accounts v)
    at_v = λ i. record {
      clock = (clock_stays base q s m v ∙ hand.clocks v) i;
      held = (own v).held i;
      charge = (own v).charge i;
      pending = (own v).pending i;
      entry = entry_of desk v;
      tells = tells_of script later s v;
      copies = (copies_stay script base q s m v (r.copies v) ∙ hand.copies v (λ e. refl)) i;
      here = is_at place v;
      moving = v == q;
    }
