-- Effects of a node on its own account keep the ledgers: grants, unlocks, drops, asks, and answers at the desk.
use Rattle.lt_model.proofs.Voids.{local_by}
use Rattle.std.proofs.Common.{◌≡◌, ℕ, ◌<◌, [], ◌∷◌, ◌++◌, length, Option, Some, None, Bool, true, false, refl, sym, ap, subst, ◌∙◌, ◌==◌, ◌&&◌, not, if◌then◌else◌, Contains, IsFalse, is_some, remove, filter_map, eq-eqb, ne_eqb, append-nil, List}
use Rattle.std.proofs.lemmas.List.Elements.{filter_map-append}
use Rattle.lt_modes.specs.declared.mode.Mode.{Mode}
use Rattle.lt_modes.specs.declared.stamp.Stamp.{Stamp}
use Rattle.lt_modes.specs.declared.ask.Ask.{Ask}
use Rattle.lt_modes.specs.declared.parts.Hoped.{Hoped}
use Rattle.lt_modes.specs.Modes.{Modes, excludes_itself, has, bars, held_modes, take_lock}
use Rattle.lt_modes.specs.Script.{ScriptData}
use Rattle.lt_modes.specs.State.{SetState, Desk, Parked, ParkedAsk, ParkedTell, Made, silent, entry_of, others}
use Rattle.lt_modes.specs.Granting.{can_grant}
use Rattle.lt_modes.specs.Serving.{ask_at, queue_of, serve_local, is_gone}
use Rattle.lt_modes.specs.SetMove.{given, asked, dropped}
use Rattle.lt_modes.specs.Routing.{Way, Parks, Goes, dealt, reversed, sent_on, route}
use Rattle.lt_spec.specs.World.{World}
use Rattle.lt_spec.specs.Facts.{state_at}
use Rattle.lt_model.specs.OnWay.{Between, Acting, Frozen, is_at, tell_parked, tells_of, copies_to, account_of, news_of}
use Rattle.lt_law_accounts.specs.AccountSteps.{MayGrant, MayAnswer}
use Rattle.lt_law_accounts.specs.AccountPlay.{AllKept, Wait, Grant, Unlock, Drop, Answer, Rest, others_counted, Void}
use Rattle.lt_model.specs.AccountRules.{own_account, IsLocallyFree, account_with}
use Rattle.lt_law_accounts.specs.News.{NewsKept}
use Rattle.lt_model.specs.Invariant.{DeskKept}
use Rattle.lt_model.proofs.AccountRules.{rules_count}
use Rattle.lt_model.proofs.NewsRules.{grants_by_rule}
use Rattle.lt_model.proofs.Effects.{route_ways}
use Rattle.lt_law_invariant.specs.InvariantLaws.{after_effect}
use Rattle.lt_law_accounts.proofs.AccountPlay.{one_changes}
use Rattle.lt_law_invariant.proofs.Seen.{SameOwn, SameFrozen, all_kept, kept_by, account_as, news_change, frozen_stays, QuietMade, quiet_heard, own_happens, accounts_stay, news_stay}

-- the desk is at node q, which keeps this of it, or the desk is elsewhere
abbrev pub HasDesk : Option ℕ → Desk → ℕ → Option Desk → Type 0
HasDesk place desk q (Some kept) = (place ≡ Some q) × (kept ≡ desk)
HasDesk place desk q None = is_at place q ≡ false

pub here_is : (place : Option ℕ) (desk : Desk) (q : ℕ) (o : Option Desk) → HasDesk place desk q o → is_at place q ≡ is_some o
here_is place desk q (Some kept) h = ap (λ (p : Option ℕ). is_at p q) h.0 ∙ eq-eqb q q refl
here_is place desk q None h = h

-- the account of the node in its move is what it keeps
pub own_is : (script : ScriptData) (w : World) (s q : ℕ) (place : Option ℕ) (desk : Desk) → HasDesk place desk q (state_at w s q).desk
    → account_of script (Acting q) w s place desk q
    ≡ own_account true (w.node q).clock (entry_of desk q) (tells_of script w s q) (copies_to script w s q) (state_at w s q)
own_is script w s q place desk has_desk =
    let here = here_is place desk q (state_at w s q).desk has_desk in
    let moving = eq-eqb q q refl in
    λ i. account_with (w.node q).clock (here i) (moving i) (entry_of desk q) (state_at w s q) (tells_of script w s q) (copies_to script w s q)

-- a grant at once
pub grant_keeps : (script : ScriptData) (w : World) (s q client : ℕ) (mode : Mode) (gives_up : Option Mode) (place : Option ℕ) (desk : Desk)
    → q < script.nodes
    → HasDesk place desk q (state_at w s q).desk → length desk.entries ≡ script.nodes → can_grant q (state_at w s q) client mode ≡ true
    → ((state_at w s q).desk ≡ None → bars (held_modes (state_at w s q).held) ≡ bars (state_at w s q).charge)
    → DeskKept script (Acting q) w s place desk
    → DeskKept script (Acting q) (after_effect w q s (silent (given client mode gives_up (state_at w s q)))) s place desk
grant_keeps script w s q client mode gives_up place desk below has_desk entries can charge h =
    kept_by script (Acting q) (after_effect w q s m) s place desk
    (own_happens script (Acting q) w q s m place desk desk (Grant client mode gives_up) quiet (λ x. refl) below (all_kept script (Acting q) w s place desk h)
    (eq-eqb q q refl, may) refl) (λ x under. news_stay script (Acting q) w q s m place desk x quiet (record { number = refl; frozen = refl }) (h.news x under))
  where
    t : SetState
    t = state_at w s q

    m : Made
    m = silent (given client mode gives_up t)

    quiet : QuietMade t m
    quiet = record { posts = tt; parked = λ x. refl }

    against : Modes
    against = others_counted script.nodes (account_of script (Acting q) w s place desk) q

    by_desk : (kept : Desk) → t.desk ≡ Some kept → HasDesk place desk q (Some kept)
        → (entry_of desk q ≡ entry_of kept q) × (against ≡ others q t kept q)
    by_desk kept e (at, same) = (
      ap (λ (d : Desk). entry_of d q) (sym same),
      ap (λ (p : Option ℕ). others_counted script.nodes (account_of script (Acting q) w s p desk) q) at
          ∙ sym (rules_count.others script (Acting q) w s q q desk entries) ∙ ap (λ (d : Desk). others q t d q) (sym same),
    )

    may : MayGrant against client mode (account_of script (Acting q) w s place desk q)
    may = subst (MayGrant against client mode) (sym (own_is script w s q place desk has_desk))
        (grants_by_rule q (w.node q).clock client mode t (entry_of desk q) (tells_of script w s q) (copies_to script w s q) against can
        (λ kept e. by_desk kept e (subst (HasDesk place desk q) e has_desk)) charge)

-- a lock is given up
pub unlock_keeps : (script : ScriptData) (w : World) (s q client : ℕ) (mode : Mode) (place : Option ℕ) (desk : Desk) → q < script.nodes
    → DeskKept script (Acting q) w s place desk
    → DeskKept script (Acting q) (after_effect w q s (silent (record (state_at w s q) { held = take_lock (state_at w s q).held client mode }))) s place desk
unlock_keeps script w s q client mode place desk below h =
    kept_by script (Acting q) (after_effect w q s m) s place desk
    (own_happens script (Acting q) w q s m place desk desk (Unlock client mode) quiet (λ x. refl) below (all_kept script (Acting q) w s place desk h) (eq-eqb q q refl) refl)
    (λ x under. news_stay script (Acting q) w q s m place desk x quiet (record { number = refl; frozen = refl }) (h.news x under))
  where
    m : Made
    m = silent (record (state_at w s q) { held = take_lock (state_at w s q).held client mode })

    quiet : QuietMade (state_at w s q) m
    quiet = record { posts = tt; parked = λ x. refl }

-- all locks of a client are given up
pub drop_keeps : (script : ScriptData) (w : World) (s q client : ℕ) (place : Option ℕ) (desk : Desk) → q < script.nodes
    → DeskKept script (Acting q) w s place desk
    → DeskKept script (Acting q) (after_effect w q s (silent (dropped client (state_at w s q)))) s place desk
drop_keeps script w s q client place desk below h =
    kept_by script (Acting q) (after_effect w q s m) s place desk
    (own_happens script (Acting q) w q s m place desk desk (Drop client) quiet (λ x. refl) below (all_kept script (Acting q) w s place desk h) (eq-eqb q q refl) refl)
    (λ x under. news_stay script (Acting q) w q s m place desk x quiet (record { number = refl; frozen = refl }) (h.news x under))
  where
    m : Made
    m = silent (dropped client (state_at w s q))

    quiet : QuietMade (state_at w s q) m
    quiet = record { posts = tt; parked = λ x. refl }

-- which asks were given up no account and no news reads
pub gone_keeps : (script : ScriptData) (w : World) (s q : ℕ) (gone : List ℕ) (place : Option ℕ) (desk : Desk) → DeskKept script (Acting q) w s place desk
    → DeskKept script (Acting q) (after_effect w q s (silent (record (state_at w s q) { gone = gone }))) s place desk
gone_keeps script w s q gone place desk h =
    kept_by script (Acting q) (after_effect w q s m) s place desk
    (accounts_stay script (Acting q) w q s m place desk desk quiet (record { held = refl; charge = refl; pending = refl }) (λ x. refl) (all_kept script (Acting q) w s place desk h))
    (λ x under. news_stay script (Acting q) w q s m place desk x quiet (record { number = refl; frozen = refl }) (h.news x under))
  where
    m : Made
    m = silent (record (state_at w s q) { gone = gone })

    quiet : QuietMade (state_at w s q) m
    quiet = record { posts = tt; parked = λ x. refl }

-- a routed ask says nothing that an account or news read
pub ask_quiet : (set : ℕ) (stamp : Stamp) (marked : Bool) (ask : Ask) (t : SetState) → QuietMade t (route set stamp marked (ParkedAsk ask) t)
ask_quiet set stamp marked ask t = route_ways (QuietMade t) set stamp marked (ParkedAsk ask) t (λ desk e. record { posts = tt; parked = λ x. refl }) (λ away w e. by_way w)
  where
    turned : (x : ℕ) (turns : Bool) (hoped : Option Hoped)
        → filter_map (tell_parked x) (if turns then record t { hoped = hoped } else t).parked ≡ filter_map (tell_parked x) t.parked
    turned x true hoped = refl
    turned x false hoped = refl

    by_way : (w : Way) → QuietMade t (sent_on set stamp (ParkedAsk ask) t w)
    by_way Parks = record {
      posts = tt;
      parked = λ x. filter_map-append (tell_parked x) t.parked (ParkedAsk ask ∷ []) ∙ append-nil (filter_map (tell_parked x) t.parked);
    }
    by_way (Goes to mark) = record {
      posts = ((λ x. refl, refl, refl), tt);
      parked = λ x. turned x (excludes_itself ask.mode && not (ask.node == stamp.node)) (Some (record { node = ask.node; stamp = ask.stamp }));
    }

-- and changes nothing that they keep
pub route_same : (set : ℕ) (stamp : Stamp) (marked : Bool) (item : Parked) (t : SetState)
    → SameFrozen t (route set stamp marked item t).state × SameOwn t (route set stamp marked item t).state
route_same set stamp marked item t = route_ways (λ (m : Made). SameFrozen t m.state × SameOwn t m.state) set stamp marked item t
    (λ desk e. (record { number = refl; frozen = refl }, record { held = refl; charge = refl; pending = refl })) (λ away w e. by_way w)
  where
    turned : (turns : Bool) (hoped : Option Hoped)
        → SameFrozen t (if turns then record t { hoped = hoped } else t) × SameOwn t (if turns then record t { hoped = hoped } else t)
    turned true hoped = (record { number = refl; frozen = refl }, record { held = refl; charge = refl; pending = refl })
    turned false hoped = (record { number = refl; frozen = refl }, record { held = refl; charge = refl; pending = refl })

    by_item : (i : Parked) → SameFrozen t (reversed stamp.node i t) × SameOwn t (reversed stamp.node i t)
    by_item (ParkedTell tell) = (record { number = refl; frozen = refl }, record { held = refl; charge = refl; pending = refl })
    by_item (ParkedAsk ask) = turned (excludes_itself ask.mode && not (ask.node == stamp.node)) (Some (record { node = ask.node; stamp = ask.stamp }))

    by_way : (w : Way) → SameFrozen t (sent_on set stamp item t w).state × SameOwn t (sent_on set stamp item t w).state
    by_way Parks = (record { number = refl; frozen = refl }, record { held = refl; charge = refl; pending = refl })
    by_way (Goes to mark) = by_item item

-- the desk once the node has dealt with this, where it is here
abbrev pub desk_with : Option Desk → Desk → Parked → Desk
desk_with None desk item = desk
desk_with (Some kept) desk item = dealt desk item

entries_with : (o : Option Desk) (desk : Desk) (ask : Ask) (x : ℕ) → entry_of (desk_with o desk (ParkedAsk ask)) x ≡ entry_of desk x
entries_with None desk ask x = refl
entries_with (Some kept) desk ask x = refl

-- the news after an ask was routed
ask_news : (script : ScriptData) (w : World) (s q : ℕ) (m : Made) (place : Option ℕ) (desk : Desk) (ask : Ask) (o : Option Desk)
    → HasDesk place desk q o
    → QuietMade (state_at w s q) m → SameFrozen (state_at w s q) m.state → (x : ℕ) → NewsKept (news_of script (Acting q) w s place desk x)
    → NewsKept (news_of script (Acting q) (after_effect w q s m) s place (desk_with o desk (ParkedAsk ask)) x)
ask_news script w s q m place desk ask None away quiet frozen x h = news_stay script (Acting q) w q s m place desk x quiet frozen h
ask_news script w s q m place desk ask (Some kept) (at, same) quiet frozen x h =
    subst (λ (p : Option ℕ). NewsKept (news_of script (Acting q) (after_effect w q s m) s p (dealt desk (ParkedAsk ask)) x)) (sym at)
    (news_change script w (after_effect w q s m) s q (dealt desk (ParkedAsk ask)) desk x (quiet_heard script w q s m x quiet).freezes (frozen_stays w q s m x frozen) refl refl
    (subst (λ (p : Option ℕ). NewsKept (news_of script (Acting q) w s p desk x)) at h))

-- an ask in hand is routed
pub route_ask_keeps : (script : ScriptData) (w : World) (s q : ℕ) (stamp : Stamp) (marked : Bool) (ask : Ask) (place : Option ℕ) (desk : Desk)
    → HasDesk place desk q (state_at w s q).desk → DeskKept script (Acting q) w s place desk
    → DeskKept script (Acting q) (after_effect w q s (route s stamp marked (ParkedAsk ask) (state_at w s q))) s place (desk_with (state_at w s q).desk desk (ParkedAsk ask))
route_ask_keeps script w s q stamp marked ask place desk has_desk h =
    let t = state_at w s q in
    let m = route s stamp marked (ParkedAsk ask) t in
    let same = route_same s stamp marked (ParkedAsk ask) t in
    kept_by script (Acting q) (after_effect w q s m) s place (desk_with t.desk desk (ParkedAsk ask))
    (accounts_stay script (Acting q) w q s m place (desk_with t.desk desk (ParkedAsk ask)) desk (ask_quiet s stamp marked ask t) same.1 (entries_with t.desk desk ask)
    (all_kept script (Acting q) w s place desk h))
    (λ x under. ask_news script w s q m place desk ask t.desk has_desk (ask_quiet s stamp marked ask t) same.0 x (h.news x under))

-- a client waits, and its ask is routed
pub asked_keeps : (script : ScriptData) (w : World) (s q : ℕ) (stamp : Stamp) (ask : Ask) (place : Option ℕ) (desk : Desk) → q < script.nodes
    → HasDesk place desk q (state_at w s q).desk → ask.stamp.clock ≡ (w.node q).clock
    → ((own : Ask) → Contains (state_at w s q).pending own → own.stamp.clock < (w.node q).clock)
    → DeskKept script (Acting q) w s place desk
    → DeskKept script (Acting q) (after_effect w q s (asked s stamp ask (state_at w s q))) s place (desk_with (state_at w s q).desk desk (ParkedAsk ask))
asked_keeps script w s q stamp ask place desk below has_desk now first h =
    kept_by script (Acting q) (after_effect w q s m) s place (desk_with t.desk desk (ParkedAsk ask)) kept
    (λ x under. ask_news script w s q m place desk ask t.desk has_desk quiet frozen x (h.news x under))
  where
    t : SetState
    t = state_at w s q

    more : SetState
    more = record t { pending = t.pending ++ ask ∷ [] }

    m : Made
    m = asked s stamp ask t

    quiet : QuietMade t m
    quiet = let routed = ask_quiet s stamp false ask more in record { posts = routed.posts; parked = routed.parked }

    frozen : SameFrozen t m.state
    frozen = let routed = (route_same s stamp false (ParkedAsk ask) more).0 in record { number = routed.number; frozen = routed.frozen }

    own : SameOwn more m.state
    own = (route_same s stamp false (ParkedAsk ask) more).1

    kept : AllKept script.nodes (account_of script (Acting q) (after_effect w q s m) s place (desk_with t.desk desk (ParkedAsk ask)))
    kept = own_happens script (Acting q) w q s m place (desk_with t.desk desk (ParkedAsk ask)) desk (Wait ask) quiet (entries_with t.desk desk ask) below
        (all_kept script (Acting q) w s place desk h) (record { moves = eq-eqb q q refl; now = now; first = first })
        (account_as (w.node q).clock (is_at place q) (q == q) (entry_of desk q) (tells_of script w s q) (copies_to script w s q) more m.state own)

-- the desk's node grants an ask of its own, or answers one that was given up
pub local_service_keeps : (script : ScriptData) (w : World) (s q k : ℕ) (desk : Desk) → q < script.nodes → (state_at w s q).desk ≡ Some desk
    → length desk.entries ≡ script.nodes
    → (is_gone (state_at w s q) (ask_at (state_at w s q) k).client ≡ false → IsLocallyFree q (state_at w s q) desk (ask_at (state_at w s q) k))
    → Contains (state_at w s q).pending (ask_at (state_at w s q) k) → (Contains (copies_to script w s q) (ask_at (state_at w s q) k) → ⊥)
    → DeskKept script (Acting q) w s (Some q) desk
    → DeskKept script (Acting q) (after_effect w q s (serve_local s k (state_at w s q))) s (Some q) (record desk { queue = remove (queue_of (state_at w s q)) k })
local_service_keeps script w s q k desk below at entries free waits alone h =
    kept_by script (Acting q) (after_effect w q s m) s (Some q) left kept
    (λ x under. news_change script w (after_effect w q s m) s q left desk x (quiet_heard script w q s m x quiet).freezes
    (frozen_stays w q s m x (record { number = refl; frozen = refl })) refl refl (h.news x under))
  where
    t : SetState
    t = state_at w s q

    ask : Ask
    ask = ask_at t k

    m : Made
    m = serve_local s k t

    left : Desk
    left = record desk { queue = remove (queue_of t) k }

    quiet : QuietMade t m
    quiet = record { posts = tt; parked = λ x. refl }

    against : Modes
    against = others_counted script.nodes (account_of script (Acting q) w s (Some q) desk) q

    same_others : others q t desk q ≡ against
    same_others = rules_count.others script (Acting q) w s q q desk entries

    may : is_gone t ask.client ≡ false → MayAnswer against ask (account_of script (Acting q) w s (Some q) desk q)
    may live = record {
      here = eq-eqb q q refl;
      waits = waits;
      alone = alone;
      free = subst (λ (o : Modes). IsFalse (has ask.mode (bars o))) same_others (free live).free;
      local = (free live).local;
    }

    by_gone : (gone : Bool) → is_gone t ask.client ≡ gone → AllKept script.nodes (account_of script (Acting q) (after_effect w q s (local_by s k t gone)) s (Some q) left)
    by_gone true e = own_happens script (Acting q) w q s (local_by s k t true) (Some q) left desk (Void ask) (record { posts = tt; parked = λ x. refl }) (λ x. refl) below
        (all_kept script (Acting q) w s (Some q) desk h) (record { waits = waits; alone = alone }) refl
    by_gone false e = own_happens script (Acting q) w q s (local_by s k t false) (Some q) left desk (Answer ask) (record { posts = tt; parked = λ x. refl }) (λ x. refl) below
        (all_kept script (Acting q) w s (Some q) desk h) (may e) refl

    kept : AllKept script.nodes (account_of script (Acting q) (after_effect w q s m) s (Some q) left)
    kept = by_gone (is_gone t ask.client) refl

-- the move ends at the desk's node
pub stays_keeps : (script : ScriptData) (w : World) (s q : ℕ) (desk : Desk) → q < script.nodes
    → DeskKept script (Frozen q) w s (Some q) desk → DeskKept script Between w s (Some q) desk
stays_keeps script w s q desk below h =
    kept_by script Between w s (Some q) desk
    (one_changes script.nodes (account_of script (Frozen q) w s (Some q) desk) (account_of script Between w s (Some q) desk) q Rest
    (all_kept script (Frozen q) w s (Some q) desk h) below (λ away. let no : true ≡ false = sym (eq-eqb q q refl) ∙ away in cc)
    (λ x under d. ap (λ (b : Bool). record (account_of script Between w s (Some q) desk x) { moving = b }) (sym (ne_eqb x q d))) refl)
    h.news
