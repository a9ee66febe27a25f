-- The desk stays where a mode that excludes itself is held, and who changes one stands first in its queue.
use Rattle.std.proofs.Common.{◌≡◌, ◌≢◌, ℕ, zero, suc, ◌+◌, ◌<◌, inl, inr, List, [], ◌∷◌, length, Option, Some, None, Bool, true, false, refl, sym, ap, subst, arith, take, ◌∙◌, ◌==◌, ◌&&◌, ◌||◌, not, if◌then◌else◌, fold, Contains, IsTrue, IsFalse, is_some, remove, slice_index_or, eq-eqb, ne_eqb, get_or-set_same, get_or-set_other}
use Rattle.std.proofs.lemmas.Bool.{cases_eq, false≢true}
use Rattle.lt_modes.specs.declared.mode.Mode.{Mode}
use Rattle.lt_modes.specs.declared.stamp.Stamp.{Stamp}
use Rattle.lt_modes.specs.declared.ask.Ask.{Ask}
use Rattle.lt_modes.specs.declared.parts.Row.{Row}
use Rattle.lt_modes.specs.Modes.{Modes, conflicts, excludes_itself, has, one, bars, covers, union, with_mode, no_modes, same_mode, held_modes}
use Rattle.lt_modes.specs.State.{no_ask, modes_of_asks, SetState, Desk, TokenBody, Entry, first_entry, entry_of, record_of, own_owed, modes_at, others_below, others, Post}
use Rattle.lt_modes.specs.Serving.{queue_of, queue_of_desk, ask_at, is_free, is_local, is_clear_at_home, is_served, is_ready, is_void, is_gone, next_from, next_at, next_service}
use Rattle.lt_modes.specs.HandingOver.{next_draw, leaving, settled}
use Rattle.lt_modes.proofs.ModeAlgebra.{bars_by_table, covers_by_table, conflicts-sym, has-modes_by, same_mode-true}
use Rattle.lt_law_accounts.specs.Account.{MayDraw, IsFirstDrawing}
use Rattle.lt_law_accounts.proofs.Drawing.{drawn_by_first}
use Rattle.lt_law_accounts.proofs.AccountFacts.{has-union, has-left, has-right, mode_which}
use Rattle.lt_law_ordered.proofs.ChangeLoans.{cover_more}
use Rattle.lt_law_upgrades.proofs.TakingModes.{taking_covers}

-- the desk has an entry for each node
abbrev pub HasEntries : ℕ → Option Desk → Type 0
HasEntries nodes None = Unit {0}
HasEntries nodes (Some desk) = length desk.entries ≡ nodes

-- the ask changes a mode that excludes itself to one that it doesn't cover, and stands first in the queue here
pub record IsNext (t : SetState) (ask : Ask) (gives_up : Mode) : Type 0 where
  pub taking : IsTrue (excludes_itself gives_up)
  pub higher : IsFalse (covers (one gives_up) ask.mode)
  pub holder : IsTrue ask.holder
  pub rest : List Ask
  pub queue : queue_of t ≡ ask ∷ rest

-- the desk is here where a mode that excludes itself is held; a holder's ask changes such a mode, and is next
pub record KeepsDesk (nodes : ℕ) (t : SetState) : Type 0 where
  pub entries : HasEntries nodes t.desk
  pub desk : (mode : Mode) → IsTrue (has mode (held_modes t.held)) → IsTrue (excludes_itself mode) → IsTrue (is_some t.desk)
  pub fresh : (ask : Ask) → Contains t.pending ask → ask.gives_up ≡ None → IsFalse ask.holder
  pub next : (ask : Ask) (gives_up : Mode) → Contains t.pending ask → ask.gives_up ≡ Some gives_up → IsNext t ask gives_up

-- no change that waits was given up
abbrev pub AreLive : SetState → Type 0
AreLive t = (ask : Ask) (gives_up : Mode) → Contains t.pending ask → ask.gives_up ≡ Some gives_up → is_gone t ask.client ≡ false

-- between moves one that was given up has left the queue
pub record IsSettled (nodes : ℕ) (t : SetState) : Type 0 where
  pub keeps : KeepsDesk nodes t
  pub live : AreLive t

-- the token left node me, which holds a mode that conflicts with one on record for the node to which it went
pub record HasLeft (s me : ℕ) (posts : List Post) : Type 0 where
  pub post : Post
  pub desk : Desk
  pub among : Contains posts post
  pub set : post.letter.set ≡ s
  pub body : post.letter.body ≡ TokenBody desk
  pub away : post.to ≢ me
  pub own : Mode
  pub theirs : Mode
  pub own_there : IsTrue (has own (record_of (entry_of desk me)))
  pub theirs_there : IsTrue (has theirs (record_of (entry_of desk post.to)))
  pub conflict : IsTrue (conflicts own theirs)

-- rows, asks, queue and desk as they were
pub same_keeps : (nodes : ℕ) (t u : SetState) → HasEntries nodes u.desk → u.held ≡ t.held → u.pending ≡ t.pending → is_some u.desk ≡ is_some t.desk → queue_of u ≡ queue_of t
    → KeepsDesk nodes t → KeepsDesk nodes u
same_keeps nodes t u entries held pending desk queue h = record {
  entries = entries;
  desk = λ mode there taking. desk ∙ h.desk mode (subst (λ (r : List Row). IsTrue (has mode (held_modes r))) held there) taking;
  fresh = λ ask there none. h.fresh ask (subst (λ (l : List Ask). Contains l ask) pending there) none;
  next = λ ask gives_up there e.
      let n = h.next ask gives_up (subst (λ (l : List Ask). Contains l ask) pending there) e in
      record { taking = n.taking; higher = n.higher; holder = n.holder; rest = n.rest; queue = queue ∙ n.queue };
}

-- where an ask is in the queue the desk is here
pub queued_here : (t : SetState) (ask : Ask) (rest : List Ask) → queue_of t ≡ ask ∷ rest → is_some t.desk ≡ true
queued_here t ask rest e = by_desk t.desk e
  where
    by_desk : (o : Option Desk) → queue_of_desk o ≡ ask ∷ rest → is_some o ≡ true
    by_desk None f = cc
    by_desk (Some desk) f = refl

pub place_here : (t : SetState) (k : ℕ) → k < length (queue_of t) → is_some t.desk ≡ true
place_here t k within = by_desk t.desk within
  where
    by_desk : (o : Option Desk) → k < length (queue_of_desk o) → is_some o ≡ true
    by_desk None f = absurd (omega (arith, f))
    by_desk (Some desk) f = refl

-- an ask later in the queue is taken out
pub later_removed : (ask : Ask) (rest : List Ask) (k : ℕ) → slice_index_or (ask ∷ rest) k no_ask ≢ ask → (left : List Ask) × (remove (ask ∷ rest) k ≡ ask ∷ left)
later_removed ask rest zero d = absurd (d refl)
later_removed ask rest (suc k) d = (remove rest k, refl)

first_false : (a b : Bool) → (a || b) ≡ false → a ≡ false
first_false true b e = e
first_false false b e = refl

last_false : (a b : Bool) → (a || b) ≡ false → b ≡ false
last_false true b e = absurd (false≢true (sym e))
last_false false b e = e

second_false : (a b : Bool) → a ≡ true → (a && b) ≡ false → b ≡ false
second_false true b e f = f
second_false false b e f = cc

-- no ask of the queue is served where none is next
none_served : (me : ℕ) (s : SetState) (desk : Desk) (before : Modes) (place : ℕ) (queue : List Ask) (i : ℕ) → i < length queue → next_from me s desk before place queue ≡ None
    → is_served me s desk (fold (λ modes (a : Ask). with_mode modes a.mode) before (take i queue)) (slice_index_or queue i no_ask) ≡ false
none_served me s desk before place [] i within e = absurd (omega (arith, within))
none_served me s desk before place (ask ∷ rest) i within e =
    by_test (is_served me s desk before ask) refl e
    (λ j inside f. none_served me s desk (with_mode before ask.mode) (place + 1) rest j inside f) i within
  where
    by_test : (here : Bool) → is_served me s desk before ask ≡ here → (if here then Some place else next_from me s desk (with_mode before ask.mode) (place + 1) rest) ≡ None
        → ((j : ℕ) → j < length rest → next_from me s desk (with_mode before ask.mode) (place + 1) rest ≡ None
        → is_served me s desk (fold (λ modes (a : Ask). with_mode modes a.mode) (with_mode before ask.mode) (take j rest)) (slice_index_or rest j no_ask) ≡ false)
        → (i : ℕ) → i < length (ask ∷ rest)
        → is_served me s desk (fold (λ modes (a : Ask). with_mode modes a.mode) before (take i (ask ∷ rest))) (slice_index_or (ask ∷ rest) i no_ask) ≡ false
    by_test true f g again i within = cc
    by_test false f g again zero within = f
    by_test false f g again (suc j) within = again j (omega (arith, within)) g

-- so no change that waits was given up
pub live_where_none : (nodes me : ℕ) (t : SetState) → ((ask : Ask) → Contains t.pending ask → ask.node ≡ me) → KeepsDesk nodes t → next_service me t ≡ None → AreLive t
live_where_none nodes me t own h none ask gives_up there e = by_desk t.desk refl none
  where
    n : IsNext t ask gives_up
    n = h.next ask gives_up there e

    by_desk : (o : Option Desk) → t.desk ≡ o → next_at me t o ≡ None → is_gone t ask.client ≡ false
    by_desk None away f = absurd (false≢true (sym (ap is_some away) ∙ queued_here t ask n.rest n.queue))
    by_desk (Some desk) here f =
        let queue : desk.queue ≡ ask ∷ n.rest = ap queue_of_desk (sym here) ∙ n.queue in
        let unserved = none_served me t desk no_modes 0 (ask ∷ n.rest) 0 (omega arith) (ap (next_from me t desk no_modes 0) (sym queue) ∙ f) in
        second_false (ask.node == me) (is_gone t ask.client) (eq-eqb ask.node me (own ask there)) (first_false _ _ unserved)

-- what counts of a node counts among the others of each other node
others_at : (n me : ℕ) (s : SetState) (desk : Desk) (v x : ℕ) (mode : Mode) → x < n → x ≢ v → IsTrue (has mode (modes_at me s desk x)) → IsTrue (has mode (others_below n me s desk v))
others_at zero me s desk v x mode within d there = absurd (omega (arith, within))
others_at (suc n) me s desk v x mode within d there = elim (cases_eq x n) [
  | inl same ↦ has-right mode (others_below n me s desk v) _
      (subst (λ (b : Bool). IsTrue (has mode (if b then no_modes else modes_at me s desk n))) (sym (ne_eqb n v (λ e. d (same ∙ e))))
      (subst (λ (y : ℕ). IsTrue (has mode (modes_at me s desk y))) same there))
  | inr other ↦ has-left mode (others_below n me s desk v) _ (others_at n me s desk v x mode (omega (arith, within, other)) d there)
]

-- where a mode that excludes itself is held, an ask that could draw the desk, and isn't served, has a node with which it conflicts
pub record Conflicts (desk : Desk) (mode : Mode) (v : ℕ) : Type 0 where
  pub theirs : Mode
  pub there : IsTrue (has theirs (record_of (entry_of desk v)))
  pub conflict : IsTrue (conflicts mode theirs)

not_false : (b : Bool) → not b ≡ false → b ≡ true
not_false true e = refl
not_false false e = cc

-- free, of another node, covered and not served: it isn't clear at home
not_clear : (free local own covered clear : Bool) → free ≡ true → own ≡ false → covered ≡ true → (free && (local || (not own && (covered && clear)))) ≡ false → clear ≡ false
not_clear true local false true true e f g h = by_local local h
  where
    by_local : (l : Bool) → (l || true) ≡ false → true ≡ false
    by_local true h = h
    by_local false h = h
not_clear true local false true false e f g h = refl
not_clear free local true covered clear e f g h = cc
not_clear free local own false clear e f g h = cc
not_clear false local own covered clear e f g h = cc

draw_conflicts : (me : ℕ) (s : SetState) (desk : Desk) (mode : Mode) (k : ℕ) (earlier : List Ask) (ask : Ask) → me < length desk.entries
    → IsTrue (has mode (held_modes s.held)) → IsTrue (excludes_itself mode) → MayDraw me s desk k earlier ask
    → is_served me s desk (modes_of_asks earlier) ask ≡ false → Conflicts desk mode ask.node
draw_conflicts me s desk mode k earlier ask inside held taking draw unserved =
    record {
      theirs = found.0;
      there = subst (λ (b : Bool). IsTrue (has found.0 (if b then union (held_modes s.held) (own_owed me s desk) else record_of (entry_of desk ask.node)))) away found.2;
      conflict = conflicts-sym mode found.0 ∙ subst (λ (m : Mode). conflicts found.0 m ≡ true) (sym is_mode) by_cover.1;
    }
  where
    away : (ask.node == me) ≡ false
    away = ne_eqb ask.node me draw.elsewhere

    own_there : IsTrue (has mode (modes_at me s desk me))
    own_there = subst (λ (b : Bool). IsTrue (has mode (if b then union (held_modes s.held) (own_owed me s desk) else record_of (entry_of desk me)))) (sym (eq-eqb me me refl))
        (has-left mode (held_modes s.held) (own_owed me s desk) held)

    among : IsTrue (has mode (others me s desk ask.node))
    among = others_at (length desk.entries) me s desk ask.node me mode inside (λ e. draw.elsewhere (sym e)) own_there

    covered : covers (one mode) ask.mode ≡ true
    covered = taking_covers mode ask.mode taking (draw.others_agree mode among)

    by_free : (b : Bool) → has ask.mode (bars (union (others me s desk ask.node) (modes_of_asks earlier))) ≡ b → not b ≡ true
    by_free false e = refl
    by_free true e =
        let bar = (bars_by_table (union (others me s desk ask.node) (modes_of_asks earlier)) ask.mode).0 e in
        elim (has-union bar.0 (others me s desk ask.node) (modes_of_asks earlier) bar.2) [
          | inl other ↦ absurd (false≢true (sym (draw.others_agree bar.0 other) ∙ bar.1))
          | inr before ↦
              let from = mode_which (λ (a : Ask). a.mode) earlier bar.0 before in
              absurd (false≢true (sym (draw.earlier_agree from.0 from.1) ∙ ap (conflicts ask.mode) from.2 ∙ bar.1))
        ]

    clear : is_clear_at_home me s desk ask ≡ false
    clear = not_clear (is_free me s desk (modes_of_asks earlier) ask) (is_local me s desk ask) (ask.node == me) (covers (others me s desk ask.node) ask.mode) (is_clear_at_home me s desk ask)
        (by_free (has ask.mode (bars (union (others me s desk ask.node) (modes_of_asks earlier)))) refl) away (cover_more (others me s desk ask.node) mode ask.mode covered among)
        (last_false (is_void me s ask) (is_ready me s desk (modes_of_asks earlier) ask) unserved)

    found : (m : Mode) × IsTrue (conflicts ask.mode m) × IsTrue (has m (modes_at me s desk ask.node))
    found = (bars_by_table (modes_at me s desk ask.node) ask.mode).0 (not_false _ clear)

    by_cover : (m : Mode) × IsTrue (conflicts found.0 m) × IsTrue (has m (one mode))
    by_cover = covers_by_table (one mode) ask.mode covered found.0 (conflicts-sym found.0 ask.mode ∙ found.1)

    is_mode : mode ≡ by_cover.0
    is_mode = same_mode-true mode by_cover.0 (sym (has-modes_by (same_mode mode) by_cover.0) ∙ by_cover.2)

-- so it is of the ask that draws the desk
pub drawn_conflicts : (me : ℕ) (t : SetState) (desk : Desk) (mode : Mode) (k : ℕ) → t.desk ≡ Some desk → me < length desk.entries → IsTrue (has mode (held_modes t.held)) → IsTrue (excludes_itself mode)
    → next_service me t ≡ None → next_draw me t ≡ Some k → (Conflicts desk mode (ask_at t k).node) × ((ask_at t k).node ≢ me)
drawn_conflicts me t desk mode k here inside held taking none drawn =
    let is_first = subst (λ (o : Option ℕ). IsFirstDrawing me t desk o) drawn (drawn_by_first me t desk here) in
    let same : slice_index_or desk.queue k no_ask ≡ ask_at t k = ap (λ (o : Option Desk). slice_index_or (queue_of_desk o) k no_ask) (sym here) in
    let unserved = none_served me t desk no_modes 0 desk.queue k is_first.0 (ap (next_at me t) (sym here) ∙ none) in (
      subst (λ (a : Ask). Conflicts desk mode a.node) same (draw_conflicts me t desk mode k (take k desk.queue) (slice_index_or desk.queue k no_ask) inside held taking is_first.1 unserved),
      subst (λ (a : Ask). a.node ≢ me) same is_first.1.elsewhere,
    )

-- what the desk says of the two as it leaves
pub left_records : (stamp : Stamp) (t : SetState) (desk : Desk) (mode : Mode) (v : ℕ) → stamp.node < length desk.entries → v ≢ stamp.node
    → IsTrue (has mode (held_modes t.held)) → Conflicts desk mode v
    → IsTrue (has mode (record_of (entry_of (leaving stamp t desk) stamp.node))) × Conflicts (leaving stamp t desk) mode v
left_records stamp t desk mode v inside d held c = (
  subst (λ (e : Entry). IsTrue (has mode (record_of e))) (sym (get_or-set_same desk.entries stamp.node (settled stamp t (entry_of desk stamp.node)) first_entry inside))
      (has-left mode (held_modes t.held) _ held),
  record {
    theirs = c.theirs;
    there = subst (λ (e : Entry). IsTrue (has c.theirs (record_of e))) (sym (get_or-set_other desk.entries stamp.node v (settled stamp t (entry_of desk stamp.node)) first_entry d)) c.there;
    conflict = c.conflict;
  },
)

-- where the desk is here it isn't away
pub not_here : {A : Type 0} (o : Option Desk) → o ≡ None → is_some o ≡ true → A
not_here None e f = cc
not_here (Some desk) e f = cc
