-- The desk stays with a mode that excludes itself as a letter arrives.
use Rattle.std.proofs.Common.{◌≡◌, ℕ, inl, inr, List, [], ◌∷◌, length, Some, None, Bool, true, false, refl, sym, ap, subst, ◌∙◌, ◌+◌, ◌<◌, ◌++◌, Option, arith, nat_lt, if◌then◌else◌, fold, Contains, is_some, ◌⊎◌, ◌==◌, ◌&&◌, IsTrue, remove, slice_index_or, eq-eqb, eqb-true, length-set}
use Rattle.std.proofs.lemmas.Bool.{false≢true, and_parts, and_from}
use Rattle.std.proofs.lemmas.List.Elements.{All-contains, Contains-append_right, Contains-get_or}
use Rattle.lt_modes.specs.declared.stamp.Stamp.{Stamp}
use Rattle.lt_modes.specs.declared.ask.Ask.{Ask}
use Rattle.lt_modes.specs.Modes.{excludes_itself, held_modes, has, any_mode}
use Rattle.lt_modes.specs.State.{SetState, Desk, Body, AskBody, TellBody, CopyBody, TokenBody, FreezeBody, Letter, Parked, ParkedAsk, ParkedTell, no_ask, without, entry_of, Post, post_of}
use Rattle.lt_modes.specs.SetMove.{make_tell}
use Rattle.lt_modes.specs.Routing.{dealt, learn}
use Rattle.lt_modes.specs.Taking.{arrive, take_body}
use Rattle.lt_modes.specs.Telling.{tell_of}
use Rattle.lt_modes.specs.Serving.{is_gone, queue_of_desk, answered, queue_of, ask_at, put_queue, owed_at, owing, next_service, serve_local, serve_copy}
use Rattle.lt_modes.specs.HandingOver.{next_draw, leaving, without_desk, hand_over_to}
use Rattle.lt_modes.specs.declared.mode.Mode.{Mode}
use Rattle.lt_modes.specs.Freezing.{freeze_at, frozen_entry, frozen_by}
use Rattle.lt_modes.proofs.ModeAlgebra.{any_mode-which, any_mode-at}
use Rattle.lt_modes.proofs.ServingLemmas.{queue_of-serve_one}
use Rattle.lt_lists.proofs.Members.{contains_first}
use Rattle.lt_law_accounts.proofs.AccountFacts.{has-with_mode}
use Rattle.lt_law_accounts.proofs.Rows.{held_one_more, rows_granted, held-at}
use Rattle.lt_law_accounts.proofs.Asks.{without_only, times_in-some, without_gone}
use Rattle.lt_model.specs.Invariant.{IsMadeBy}
use Rattle.lt_model.proofs.Effects.{Fact, EndEffects, next_service-within, both}
use Rattle.lt_model.proofs.PathsQuiet.{next_service-freeze, put_queue_some, owed_at_some, length-map_from}
use Rattle.lt_model.proofs.PathsGoing.{route-idle}
use Rattle.lt_model.proofs.StandingEffects.{found_here}
use Rattle.lt_law_invariant.proofs.ClientEffects.{GivenBy}
use Rattle.lt_law_invariant.proofs.OwnSteps.{route_same}
use Rattle.lt_law_lines.proofs.KeptLines.{row_of}
use Rattle.lt_law_upgrades.proofs.DeskStays.{HasEntries, KeepsDesk, AreLive, IsSettled, live_where_none, same_keeps, queued_here, not_here, HasLeft, place_here, later_removed, drawn_conflicts, left_records}
use Rattle.lt_law_upgrades.proofs.DeskAsks.{item_entries, routed_keeps}
use Rattle.lt_law_upgrades.proofs.Balance.{with_balance, balance_ends}

-- the same rows, asks and desk
record SameKept (t v : SetState) : Type 0 where
  held : v.held ≡ t.held
  pending : v.pending ≡ t.pending
  desk : v.desk ≡ t.desk

-- a letter arrives; a token comes where no desk is; the ask of a copy waits, and doesn't exclude itself
pub arrived_keeps : (nodes : ℕ) (stamp : Stamp) (letter : Letter) (t : SetState) → KeepsDesk nodes t
    → ((ask : Ask) → letter.body ≡ CopyBody ask → Contains t.pending ask × (excludes_itself ask.mode ≡ false))
    → ((desk : Desk) → letter.body ≡ TokenBody desk → (t.desk ≡ None) × (length desk.entries ≡ nodes))
    → KeepsDesk nodes (arrive stamp letter t).state
arrived_keeps nodes stamp letter t h copies tokens = by_body letter.body refl
  where
    u : SetState
    u = learn letter.link t

    learnt : (newer : Bool) → SameKept t (if newer then record t { firm = letter.link; hoped = None } else t)
    learnt true = record { held = refl; pending = refl; desk = refl }
    learnt false = record { held = refl; pending = refl; desk = refl }

    same : SameKept t u
    same = learnt (nat_lt t.firm.epoch letter.link.epoch)

    kept : KeepsDesk nodes u
    kept = same_keeps nodes t u (subst (HasEntries nodes) (sym same.desk) h.entries) same.held same.pending (ap is_some same.desk) (ap queue_of_desk same.desk) h

    by_body : (body : Body) → letter.body ≡ body → KeepsDesk nodes (take_body letter.set stamp body u).state
    by_body (AskBody ask marked) says = routed_keeps nodes letter.set stamp marked (ParkedAsk ask) u kept
    by_body (TellBody tell) says = routed_keeps nodes letter.set stamp false (ParkedTell tell) u kept
    by_body (CopyBody ask) says = record {
      entries = kept.entries;
      desk = λ m there taking. by_gone (is_gone u ask.client) m taking there;
      fresh = λ a there none. kept.fresh a (without_only u.pending ask.stamp a there) none;
      next = λ a g there e.
          let n = kept.next a g (without_only u.pending ask.stamp a there) e in
          record { taking = n.taking; higher = n.higher; holder = n.holder; rest = n.rest; queue = n.queue };
    }
      where
        by_gone : (gone : Bool) (m : Mode) → IsTrue (excludes_itself m) → IsTrue (has m (held_modes (if gone then u.held else answered u.held ask))) → IsTrue (is_some u.desk)
        by_gone true m taking there = kept.desk m there taking
        by_gone false m taking there =
            elim (has-with_mode m ask.mode (held_modes u.held) (held_one_more ask.client ask.mode u.held (answered u.held ask) (rows_granted u.held ask.client ask.mode ask.gives_up) m there)) [
              | inl old ↦ kept.desk m old taking
              | inr is ↦ absurd (false≢true (sym (copies ask says).1 ∙ ap excludes_itself is ∙ taking))
            ]
    by_body (TokenBody desk) says = record {
      entries = all_entries u.parked desk (tokens desk says).1;
      desk = λ m there taking. refl;
      fresh = kept.fresh;
      next = λ a g there e.
          let n = kept.next a g there e in
          not_here u.desk (same.desk ∙ (tokens desk says).0) (queued_here u a n.rest n.queue);
    }
      where
        all_entries : (items : List Parked) (d : Desk) → length d.entries ≡ nodes → length (fold dealt d items).entries ≡ nodes
        all_entries [] d e = e
        all_entries (item ∷ rest) d e = all_entries rest (dealt d item) (item_entries nodes (Some d) item e)
    by_body (FreezeBody number modes) says = by_test (nat_lt u.number number)
      where
        by_test : (newer : Bool) → KeepsDesk nodes (if newer then record u { frozen = modes; number = number } else u)
        by_test true = same_keeps nodes u (record u { frozen = modes; number = number }) kept.entries refl refl refl refl kept
        by_test false = kept

-- The desk stays with a mode that excludes itself through the end of a move.

-- a mode that a client's ask gives up is held
pub given_held : (t : SetState) (client : ℕ) (gives_up : Mode) (o : Option Mode) → o ≡ Some gives_up → GivenBy t.held client o → IsTrue (has gives_up (held_modes t.held))
given_held t client gives_up o e given =
    let found = row_of t.held client gives_up (subst (GivenBy t.held client) e given) in
    subst (λ (m : Mode). IsTrue (has m (held_modes t.held))) found.3 (held-at t.held found.0 found.1)

put_entries : (nodes : ℕ) (queue : List Ask) (o : Option Desk) → HasEntries nodes o → HasEntries nodes (put_queue queue o)
put_entries nodes queue None h = tt
put_entries nodes queue (Some desk) h = h

owed_entries : (nodes : ℕ) (ask : Ask) (k : ℕ) (o : Option Desk) → HasEntries nodes o → HasEntries nodes (owed_at ask k o)
owed_entries nodes ask k None h = tt
owed_entries nodes ask k (Some desk) h = length-set desk.entries ask.node (owing ask (entry_of desk ask.node)) ∙ h

abbrev pub keeps_desk : ℕ → Fact
keeps_desk nodes t posts = KeepsDesk nodes t

abbrev pub none_next : ℕ → Fact
none_next me t posts = next_service me t ≡ None

-- or the token left though it could not
abbrev pub settled_or_left : ℕ → ℕ → ℕ → Fact
settled_or_left nodes s me t posts = IsSettled nodes t ⊎ HasLeft s me posts

pub desk_ends : (nodes s : ℕ) (stamp : Stamp) (elsewhere unanswered : Ask → ℕ) (first : SetState) → stamp.node < nodes → ((a : Ask) → a.node ≡ stamp.node → unanswered a ≡ 0)
    → EndEffects s stamp (both (with_balance s stamp elsewhere unanswered first) (keeps_desk nodes))
    (both (both (with_balance s stamp elsewhere unanswered first) (keeps_desk nodes)) (none_next stamp.node))
    (both (with_balance s stamp elsewhere unanswered first) (settled_or_left nodes s stamp.node))
desk_ends nodes s stamp elsewhere unanswered first below only = record {
  serves = λ t posts k e h. (base.serves t posts k e h.0, served t posts k e h ((ask_at t k).node == stamp.node) refl);
  freezes = λ t posts desk here none h. ((base.freezes t posts desk here none h.0, frozen t h.1 t.desk refl), next_service-freeze s stamp t ∙ none);
  leaves = λ t posts k e h. (base.leaves t posts k e h.0.0, left t posts k e h t.desk refl);
  stays = λ t posts e h. (base.stays t posts e h.0.0, inl (settled t posts h));
  tells = λ t posts away differs h. (base.tells t posts away differs h.0, inl (record { keeps = told t away h.1; live = told_live t away h.1 }));
  tells_not = λ t posts away same h. (base.tells_not t posts away same h.0, inl (record { keeps = h.1; live = none_away t away h.1 }));
}
  where
    base : EndEffects s stamp (with_balance s stamp elsewhere unanswered first) (with_balance s stamp elsewhere unanswered first)
        (with_balance s stamp elsewhere unanswered first)
    base = balance_ends s stamp elsewhere unanswered first only

    queue_after : (t : SetState) (k : ℕ) → k < length (queue_of t) → (own : Bool) → ((ask_at t k).node == stamp.node) ≡ own
        → queue_of (if own then serve_local s k t else serve_copy s stamp k (ask_at t k) t).state ≡ remove (queue_of t) k
    queue_after t k within own e =
        subst (λ (b : Bool). queue_of (if b then serve_local s k t else serve_copy s stamp k (ask_at t k) t).state ≡ remove (queue_of t) k) e (queue_of-serve_one s stamp k t within)

    served : (t : SetState) (posts : List Post) (k : ℕ) → next_service stamp.node t ≡ Some k
        → both (with_balance s stamp elsewhere unanswered first) (keeps_desk nodes) t posts → (own : Bool)
        → ((ask_at t k).node == stamp.node) ≡ own → KeepsDesk nodes (if own then serve_local s k t else serve_copy s stamp k (ask_at t k) t).state
    served t posts k e h true me =
        let within = next_service-within stamp.node t k e in
        let b = ask_at t k in
        let among = Contains-get_or (queue_of t) k no_ask within in
        let found =
        found_here s stamp.node stamp.clock elsewhere unanswered t posts b h.0.0 (only b (eqb-true b.node stamp.node me))
        (omega (arith, times_in-some b (queue_of t) among)) in
        let here : is_some (put_queue (remove (queue_of t) k) t.desk) ≡ true = put_queue_some (remove (queue_of t) k) t.desk ∙ place_here t k within in
        record {
          entries = put_entries nodes (remove (queue_of t) k) t.desk h.1.entries;
          desk = λ mode there taking. here;
          fresh = λ ask there none. h.1.fresh ask (without_only t.pending b.stamp ask there) none;
          next = λ ask gives_up there f.
              let n = h.1.next ask gives_up (without_only t.pending b.stamp ask there) f in
              let more = later_removed ask n.rest k (λ same.
              let is_b : b ≡ ask = ap (λ (l : List Ask). slice_index_or l k no_ask) n.queue ∙ same in
              without_gone t.pending b h.0.0.apart found (subst (Contains (without t.pending b.stamp)) (sym is_b) there)) in
              record { taking = n.taking; higher = n.higher; holder = n.holder; rest = more.0; queue = queue_after t k within true me ∙ ap (λ (l : List Ask). remove l k) n.queue ∙ more.1 };
        }
    served t posts k e h false me =
        let within = next_service-within stamp.node t k e in
        let b = ask_at t k in
        record {
          entries = owed_entries nodes b k t.desk h.1.entries;
          desk = λ mode there taking. owed_at_some b k t.desk ∙ place_here t k within;
          fresh = h.1.fresh;
          next = λ ask gives_up there f.
              let n = h.1.next ask gives_up there f in
              let own = (All-contains (IsMadeBy stamp.node stamp.clock) t.pending ask h.0.0.own there).0 in
              let more = later_removed ask n.rest k (λ same.
              let is_b : b ≡ ask = ap (λ (l : List Ask). slice_index_or l k no_ask) n.queue ∙ same in
              false≢true (sym me ∙ eq-eqb b.node stamp.node (ap (λ (a : Ask). a.node) is_b ∙ own))) in
              record { taking = n.taking; higher = n.higher; holder = n.holder; rest = more.0; queue = queue_after t k within false me ∙ ap (λ (l : List Ask). remove l k) n.queue ∙ more.1 };
        }

    frozen : (t : SetState) → KeepsDesk nodes t → (o : Option Desk) → t.desk ≡ o → KeepsDesk nodes (freeze_at s stamp t o).state
    frozen t h None e = h
    frozen t h (Some desk) e = same_keeps nodes t (freeze_at s stamp t (Some desk)).state
        (length-map_from (frozen_entry stamp.node (frozen_by desk.queue)) 0 desk.entries ∙ subst (HasEntries nodes) e h.entries)
        refl refl (ap is_some (sym e)) (ap queue_of_desk (sym e)) h

    -- where no service is left no change that waits was given up
    settled : (t : SetState) (posts : List Post) → both (both (with_balance s stamp elsewhere unanswered first) (keeps_desk nodes)) (none_next stamp.node) t posts → IsSettled nodes t
    settled t posts h = record {
      keeps = h.0.1;
      live = live_where_none nodes stamp.node t (λ ask there. (All-contains (IsMadeBy stamp.node stamp.clock) t.pending ask h.0.0.0.own there).0) h.0.1 h.1;
    }

    -- away from the desk none waits
    none_away : (t : SetState) → t.desk ≡ None → KeepsDesk nodes t → AreLive t
    none_away t away h ask gives_up there e = let n = h.next ask gives_up there e in not_here t.desk away (queued_here t ask n.rest n.queue)

    told : (t : SetState) → t.desk ≡ None → KeepsDesk nodes t → KeepsDesk nodes (make_tell s stamp t).state
    told t away h =
        let same = (route_same s stamp false (ParkedTell (tell_of stamp t)) (record t { charge = held_modes t.held })).1 in
        let gone = (route-idle s stamp false (ParkedTell (tell_of stamp t)) (record t { charge = held_modes t.held }) away).away in
        same_keeps nodes t (make_tell s stamp t).state (subst (HasEntries nodes) (sym gone) tt) same.held same.pending (ap is_some (gone ∙ sym away)) (ap queue_of_desk (gone ∙ sym away)) h

    told_live : (t : SetState) → t.desk ≡ None → KeepsDesk nodes t → AreLive (make_tell s stamp t).state
    told_live t away h = none_away (make_tell s stamp t).state
        (route-idle s stamp false (ParkedTell (tell_of stamp t)) (record t { charge = held_modes t.held }) away).away (told t away h)

    left : (t : SetState) (posts : List Post) (k : ℕ) → next_draw stamp.node t ≡ Some k
        → both (both (with_balance s stamp elsewhere unanswered first) (keeps_desk nodes)) (none_next stamp.node) t posts
        → (o : Option Desk) → t.desk ≡ o
        → settled_or_left nodes s stamp.node (hand_over_to s stamp t (ask_at t k).node o).state (posts ++ (hand_over_to s stamp t (ask_at t k).node o).posts)
    left t posts k e h None away = inl (settled t posts h)
    left t posts k e h (Some desk) here = by_test (any_mode (λ m. has m (held_modes t.held) && excludes_itself m)) refl
      where
        v : ℕ
        v = (ask_at t k).node

        u : SetState
        u = without_desk t v (desk.epoch + 1)

        post : Post
        post = post_of s stamp u v (TokenBody (leaving stamp t desk))

        by_test : (some : Bool) → any_mode (λ m. has m (held_modes t.held) && excludes_itself m) ≡ some → IsSettled nodes u ⊎ HasLeft s stamp.node (posts ++ post ∷ [])
        by_test false none = inl (record {
          keeps = record {
            entries = tt;
            desk = λ mode there taking. absurd (nothing mode there taking);
            fresh = h.0.1.fresh;
            next = λ ask gives_up there f.
                absurd (nothing gives_up (given_held t ask.client gives_up ask.gives_up f (h.0.0.1.clients.gives ask there ((settled t posts h).live ask gives_up there f))) (h.0.1.next ask gives_up there f).taking);
          };
          live = (settled t posts h).live;
        })
          where
            nothing : (mode : Mode) → IsTrue (has mode (held_modes t.held)) → IsTrue (excludes_itself mode) → ⊥
            nothing mode there taking = false≢true (sym none ∙ any_mode-at (λ m. has m (held_modes t.held) && excludes_itself m) mode (and_from _ _ there taking))
        by_test true some =
            let mode = any_mode-which (λ m. has m (held_modes t.held) && excludes_itself m) some in
            let parts = and_parts (has mode.0 (held_modes t.held)) (excludes_itself mode.0) mode.1 in
            let all : length desk.entries ≡ nodes = subst (HasEntries nodes) here h.0.1.entries in
            let inside : stamp.node < length desk.entries = omega (arith, all, below) in
            let drawn = drawn_conflicts stamp.node t desk mode.0 k here inside parts.0 parts.1 h.1 e in
            let records = left_records stamp t desk mode.0 v inside drawn.1 parts.0 drawn.0 in
            inr (record {
              post = post;
              desk = leaving stamp t desk;
              among = Contains-append_right posts (post ∷ []) post (contains_first post post [] refl);
              set = refl;
              body = refl;
              away = drawn.1;
              own = mode.0;
              theirs = records.1.theirs;
              own_there = records.0;
              theirs_there = records.1.there;
              conflict = records.1.conflict;
            })
