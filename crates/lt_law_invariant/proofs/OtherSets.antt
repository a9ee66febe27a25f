-- What is made of other sets in the same move leaves the ledgers of a set.
use Rattle.std.proofs.Common.{◌≡◌, ◌≢◌, ℕ, List, [], ◌∷◌, Option, refl, sym, ap, subst, inl, inr, Some, None, ◌∙◌, filter_map, ne_eqb, ◌⊎◌}
use Rattle.std.specs.List.{AllByRecursion}
use Rattle.std.proofs.lemmas.Bool.{cases_eq}
use Rattle.lt_modes.specs.Script.{ScriptData}
use Rattle.lt_modes.specs.State.{SetState, Desk, Body, Tell, Post}
use Rattle.lt_lists.specs.Below.{put}
use Rattle.lt_lists.proofs.Puts.{put-same, put-other}
use Rattle.lt_spec.specs.World.{World}
use Rattle.lt_spec.specs.Facts.{state_at, DeskIs}
use Rattle.lt_spec.specs.NodeMove.{NodeState, at_clock}
use Rattle.lt_law_accounts.specs.News.{NewsKept}
use Rattle.lt_law_accounts.proofs.AccountPlay.{same_kept}
use Rattle.lt_model.specs.OnWay.{Moment, Between, Acting, tell_parked, account_of}
use Rattle.lt_model.specs.Invariant.{DeskKept}
use Rattle.lt_model.proofs.NodeEffects.{IsOfSet}
use Rattle.lt_model.specs.Laws.{begun}
use Rattle.lt_law_invariant.proofs.AfterEffect.{SaysNone, state_here, part_stays, clock_stays, copies_stay, freezes_stay, state_there}
use Rattle.lt_law_invariant.proofs.Seen.{SameHeard, all_kept, kept_by, account_seen, news_seen, own_as, frozen_as, tells_stay}
use Rattle.lt_law_invariant.proofs.Ledgers.{Ledger, Ended, desk_stays}
use Rattle.lt_law_invariant.proofs.MidMove.{made_of, world_of, again}
use Rattle.lt_law_invariant.proofs.MoveEffects.{begins, ended_fact}

-- letters of other sets are no matter
none_of_set : {X : Type 0} (s : ℕ) (read : Body → Option X) (b : ℕ) (posts : List Post) → AllByRecursion (λ (post : Post). post.letter.set ≢ s) posts
    → AllByRecursion (SaysNone s read b) posts
none_of_set s read b [] h = tt
none_of_set s read b (post ∷ rest) h = (λ e. rw (ne_eqb post.letter.set s h.0) refl, none_of_set s read b rest h.1)

others_heard : (script : ScriptData) (w : World) (q s : ℕ) (t : SetState) (posts : List Post) (x : ℕ) → state_at w s q ≡ t
    → AllByRecursion (λ (post : Post). post.letter.set ≢ s) posts
    → SameHeard script w (world_of w q s t posts) s x
others_heard script w q s t posts x e others = record {
  clock = clock_stays w q s (made_of t posts) x;
  tells = tells_stay script w q s (made_of t posts) x (λ b. none_of_set s _ b posts others) (ap (λ (u : SetState). filter_tells u) (sym e));
  copies = copies_stay script w q s (made_of t posts) x (none_of_set s _ x posts others);
  freezes = freezes_stay script w q s (made_of t posts) x (none_of_set s _ x posts others);
}
  where
    filter_tells : SetState → List Tell
    filter_tells u = filter_map (tell_parked x) u.parked

others_state : (w : World) (q s : ℕ) (t : SetState) (posts : List Post) (x : ℕ) → state_at w s q ≡ t
    → state_at (world_of w q s t posts) s x ≡ state_at w s x
others_state w q s t posts x e = part_stays (λ (u : SetState). u) w q s (made_of t posts) (sym e) x

others_kept : (script : ScriptData) (moment : Moment) (w : World) (q s : ℕ) (t : SetState) (posts : List Post) (place : Option ℕ) (desk : Desk)
    → state_at w s q ≡ t
    → AllByRecursion (λ (post : Post). post.letter.set ≢ s) posts → DeskKept script moment w s place desk
    → DeskKept script moment (world_of w q s t posts) s place desk
others_kept script moment w q s t posts place desk e others h =
    kept_by script moment later s place desk
    (same_kept script.nodes (account_of script moment w s place desk) (account_of script moment later s place desk) (all_kept script moment w s place desk h)
    (λ x below. account_seen script moment moment w later s place place desk desk x
    (record { heard = others_heard script w q s t posts x e others; own = own_as (state_at w s x) (state_at later s x) (others_state w q s t posts x e) }) refl refl refl))
    (λ x below. subst NewsKept (sym (news_seen script moment w later s place desk x (others_heard script w q s t posts x e others).freezes
    (frozen_as (state_at w s x) (state_at later s x) (others_state w q s t posts x e)))) (h.news x below))
  where
    later : World
    later = world_of w q s t posts

others_desk : (script : ScriptData) (w : World) (q s : ℕ) (t : SetState) (posts : List Post) (place : Option ℕ) (desk : Desk)
    → state_at w s q ≡ t → DeskIs script w s place desk
    → DeskIs script (world_of w q s t posts) s place desk
others_desk script w q s t posts place desk e h = desk_stays script w q s (made_of t posts) place desk (ap (λ (u : SetState). u.desk) (sym e)) h

pub ledger_of_set : (script : ScriptData) (moment : Moment) (w : World) (q s : ℕ) (t : SetState) (posts : List Post) (o : Option Desk)
    → state_at w s q ≡ t
    → AllByRecursion (λ (post : Post). post.letter.set ≢ s) posts → Ledger script moment w s q o → Ledger script moment (world_of w q s t posts) s q o
ledger_of_set script moment w q s t posts o e others l = record {
  place = l.place;
  desk = l.desk;
  there = others_desk script w q s t posts l.place l.desk e l.there;
  has = l.has;
  entries = l.entries;
  kept = others_kept script moment w q s t posts l.place l.desk e others l.kept;
}

pub begins_of_set : (script : ScriptData) (base : World) (s q : ℕ) → IsOfSet s (begins script base s q)
begins_of_set script base s q t posts more others h = record {
  mid = record {
    ledger = subst (λ (w : World). Ledger script (Acting q) w s q t.desk) (again base q s t posts (made_of t more))
        (ledger_of_set script (Acting q) (world_of base q s t posts) q s t more t.desk (state_here base q s (made_of t posts)) others h.mid.ledger);
    firm = h.mid.firm;
  };
  charge = h.charge;
  asks = h.asks;
}

pub ended_of_set : (script : ScriptData) (base : World) (s q : ℕ) → IsOfSet s (ended_fact script base s q)
ended_of_set script base s q t posts more others h =
    subst (λ (w : World). Ended script w s) (again base q s t posts (made_of t more))
    (record {
      place = h.place;
      desk = h.desk;
      there = others_desk script (world_of base q s t posts) q s t more h.place h.desk (state_here base q s (made_of t posts)) h.there;
      kept = others_kept script Between (world_of base q s t posts) q s t more h.place h.desk (state_here base q s (made_of t posts)) others h.kept;
    })

-- Worlds that a set sees the same: ledgers read clocks, the states of the set and the mail alone.

-- the world as a set sees it
abbrev seen_world : World → ℕ → World
seen_world w s = record { node = λ x. record { clock = (w.node x).clock; made = λ c. 0; set = λ k. state_at w s x }; mail = w.mail; went = λ k. [] }

ended_seen : (script : ScriptData) (w : World) (s : ℕ) → Ended script w s → Ended script (seen_world w s) s
ended_seen script w s e = record {
  place = e.place;
  desk = e.desk;
  there = seen_desk e.place e.there;
  kept = record { accounts = e.kept.accounts; clear = e.kept.clear; news = e.kept.news };
}
  where
    seen_desk : (place : Option ℕ) → DeskIs script w s place e.desk → DeskIs script (seen_world w s) s place e.desk
    seen_desk (Some t) h = h
    seen_desk None (q, below, (p, letter, under, on, says)) = (q, below, (p, letter, under, record { among = on.among; set = on.set }, says))

seen_ended : (script : ScriptData) (w : World) (s : ℕ) → Ended script (seen_world w s) s → Ended script w s
seen_ended script w s e = record {
  place = e.place;
  desk = e.desk;
  there = seen_desk e.place e.there;
  kept = record { accounts = e.kept.accounts; clear = e.kept.clear; news = e.kept.news };
}
  where
    seen_desk : (place : Option ℕ) → DeskIs script (seen_world w s) s place e.desk → DeskIs script w s place e.desk
    seen_desk (Some t) h = h
    seen_desk None (q, below, (p, letter, under, on, says)) = (q, below, (p, letter, under, record { among = on.among; set = on.set }, says))

-- worlds that a set sees the same
pub ended_same : (script : ScriptData) (w later : World) (s : ℕ) → ((x : ℕ) → (later.node x).clock ≡ (w.node x).clock)
    → ((x : ℕ) → state_at later s x ≡ state_at w s x)
    → later.mail ≡ w.mail → Ended script w s → Ended script later s
ended_same script w later s clocks states mail e =
    seen_ended script later s (subst (λ (v : World). Ended script v s)
    (λ i. record { node = λ x. record { clock = sym (clocks x) i; made = λ c. 0; set = λ k. sym (states x) i }; mail = sym mail i; went = λ k. [] })
    (ended_seen script w s e))

pub begun_clock : (w : World) (q clock : ℕ) → ((begun w q clock).node q).clock ≡ clock
begun_clock w q clock = ap (λ (n : NodeState). n.clock) (put-same w.node q (at_clock clock (w.node q)))

-- a node that has made its move, beside the middle of the move: the same clocks, and the same states of the set
pub clocks_as : (w base : World) (q s clock : ℕ) (node : NodeState) (t : SetState) (posts : List Post) → base.node ≡ (begun w q clock).node
    → node.clock ≡ clock
    → (x : ℕ) → (put w.node q node x).clock ≡ ((world_of base q s t posts).node x).clock
clocks_as w base q s clock node t posts begins made x = by_node (cases_eq x q) ∙ ap (λ (f : ℕ → NodeState). (f x).clock) (sym begins) ∙ sym (clock_stays base q s (made_of t posts) x)
  where
    by_node : (x ≡ q) ⊎ (x ≢ q) → (put w.node q node x).clock ≡ ((begun w q clock).node x).clock
    by_node (inl e) = ap (λ (y : ℕ). (put w.node q node y).clock) e ∙ ap (λ (k : NodeState). k.clock) (put-same w.node q node) ∙ made
        ∙ sym (begun_clock w q clock) ∙ ap (λ (y : ℕ). ((begun w q clock).node y).clock) (sym e)
    by_node (inr d) = ap (λ (k : NodeState). k.clock) (put-other w.node q node x d ∙ sym (put-other w.node q (at_clock clock (w.node q)) x d))

pub states_as : (w base : World) (q s clock : ℕ) (node : NodeState) (t : SetState) (posts : List Post) → base.node ≡ (begun w q clock).node
    → node.set s ≡ t
    → (x : ℕ) → (put w.node q node x).set s ≡ state_at (world_of base q s t posts) s x
states_as w base q s clock node t posts begins made x = elim (cases_eq x q) [
  | inl e ↦ ap (λ (y : ℕ). (put w.node q node y).set s) e ∙ ap (λ (k : NodeState). k.set s) (put-same w.node q node) ∙ made
      ∙ sym (state_here base q s (made_of t posts)) ∙ ap (λ (y : ℕ). state_at (world_of base q s t posts) s y) (sym e)
  | inr d ↦ ap (λ (k : NodeState). k.set s) (put-other w.node q node x d ∙ sym (put-other w.node q (at_clock clock (w.node q)) x d))
      ∙ ap (λ (f : ℕ → NodeState). (f x).set s) (sym begins) ∙ sym (state_there base q s (made_of t posts) x d)
]
