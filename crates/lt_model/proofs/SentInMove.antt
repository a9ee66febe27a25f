-- The letters of a rule are of its set and have the stamp of its move.
use Rattle.lt_model.proofs.Voids.{withdraws_ways}
use Rattle.std.proofs.Common.{◌≡◌, ℕ, Option, Some, None, Bool, false, refl, ◌≢◌, ◌+◌, List, [], ◌∷◌, ◌++◌, true, sym, ap, subst, arith, eq-eqb, ◌==◌, ◌&&◌, not, if◌then◌else◌, All, AllPairs, fold, sum_by}
use Rattle.std.specs.List.{AllByRecursion}
use Rattle.std.proofs.lemmas.Bool.{cond_both}
use Rattle.std.proofs.lemmas.List.Sums.{sum_by-append, sum_by-cons}
use Rattle.lt_modes.specs.declared.mode.Mode.{Mode}
use Rattle.lt_modes.specs.declared.stamp.Stamp.{Stamp}
use Rattle.lt_modes.specs.declared.ask.Ask.{Ask}
use Rattle.lt_modes.specs.State.{SetState, Desk, Body, AskBody, TellBody, CopyBody, TokenBody, FreezeBody, Letter, Parked, ParkedAsk, ParkedTell, Made, Post, then_do, times_in}
use Rattle.lt_modes.specs.Serving.{ask_at, serve_one, serve_local, serve_copy, queue_of_desk}
use Rattle.lt_modes.specs.HandingOver.{hand_over_to}
use Rattle.lt_modes.specs.Freezing.{freeze, freeze_at, frozen_by, targets}
use Rattle.lt_modes.specs.SetMove.{tell, make_tell, finish, ask_of, asked, dropped, lock, try, unlock, change, drop, withdrawn, withdraw}
use Rattle.lt_modes.specs.Routing.{Way, Parks, Goes, route, route_by, sent_on, way, learn, dealt, body_of, reversed}
use Rattle.lt_modes.specs.Telling.{tell_of}
use Rattle.lt_modes.specs.Taking.{take_body, arrive, take}
use Rattle.lt_modes.specs.Modes.{excludes_itself}
use Rattle.lt_lists.proofs.AllLemmas.{all_append, all_map, all_any}
use Rattle.lt_spec.specs.Facts.{times_parked, places_in_state, places_in_body}
use Rattle.lt_law_accounts.proofs.Asks.{times_in-entered}
use Rattle.lt_model.proofs.TryEffects.{Between, EndRules, CommandRules, finish_rule, command_rules}
use Rattle.lt_model.specs.Invariant.{IsMadeBy}
use Rattle.lt_model.specs.PathEffects.{posts_weight}
use Rattle.lt_model.proofs.Effects.{Fact}

-- the post is of the set and of the move with the stamp
abbrev pub IsSentIn : ℕ → Stamp → Post → Type 0
IsSentIn set stamp post = (post.letter.set ≡ set) × (post.letter.stamp ≡ stamp)

abbrev pub AreSentIn : ℕ → Stamp → Made → Type 0
AreSentIn set stamp m = AllByRecursion (IsSentIn set stamp) m.posts

sent_then : (set : ℕ) (stamp : Stamp) (m : Made) (rule : SetState → Made)
    → AreSentIn set stamp m → AreSentIn set stamp (rule m.state) → AreSentIn set stamp (then_do m rule)
sent_then set stamp m rule first second = all_append _ m.posts (rule m.state).posts first second

sent_on-sent : (set : ℕ) (stamp : Stamp) (item : Parked) (s : SetState) (w : Way) → AreSentIn set stamp (sent_on set stamp item s w)
sent_on-sent set stamp item s Parks = tt
sent_on-sent set stamp item s (Goes to marked) = ((refl, refl), tt)

pub route-sent : (set : ℕ) (stamp : Stamp) (marked : Bool) (item : Parked) (s : SetState) → AreSentIn set stamp (route set stamp marked item s)
route-sent set stamp marked item s = by_desk s.desk
  where
    by_desk : (desk : Option Desk) → AreSentIn set stamp (route_by set stamp marked item s desk)
    by_desk (Some desk) = tt
    by_desk None = sent_on-sent set stamp item s (way stamp.node marked item s)

serve_one-sent : (set : ℕ) (stamp : Stamp) (k : ℕ) (s : SetState) → AreSentIn set stamp (serve_one set stamp k s)
serve_one-sent set stamp k s = cond_both _ (serve_local set k s) (serve_copy set stamp k (ask_at s k) s) (AreSentIn set stamp) (λ e. tt) (λ e. ((refl, refl), tt))

freeze-sent : (set : ℕ) (stamp : Stamp) (s : SetState) → AreSentIn set stamp (freeze set stamp s)
freeze-sent set stamp s = by_desk s.desk
  where
    by_desk : (desk : Option Desk) → AreSentIn set stamp (freeze_at set stamp s desk)
    by_desk None = tt
    by_desk (Some desk) = all_map _ _ (targets stamp.node (frozen_by desk.queue) desk) (all_any _ (λ x. (refl, refl)) _)

make_tell-sent : (set : ℕ) (stamp : Stamp) (s : SetState) → AreSentIn set stamp (make_tell set stamp s)
make_tell-sent set stamp s = route-sent set stamp false (ParkedTell (tell_of stamp s)) _

asked-sent : (set : ℕ) (stamp : Stamp) (ask : Ask) (s : SetState) → AreSentIn set stamp (asked set stamp ask s)
asked-sent set stamp ask s = route-sent set stamp false (ParkedAsk ask) _

-- so it is of what was made, whatever it was made of
abbrev sent : ℕ → Stamp → Between
sent set stamp t m = AreSentIn set stamp m

sent_ends : (set : ℕ) (stamp : Stamp) → EndRules set stamp (sent set stamp)
sent_ends set stamp = record {
  silent = λ t. tt;
  joined = λ t m rule first second. sent_then set stamp m rule first second;
  serves = λ t k within. serve_one-sent set stamp k t;
  freezes = λ t. freeze-sent set stamp t;
  leaves = λ t v. leaves_to t.desk v t;
  tells = λ t. make_tell-sent set stamp t;
}
  where
    leaves_to : (desk : Option Desk) (v : ℕ) (t : SetState) → AreSentIn set stamp (hand_over_to set stamp t v desk)
    leaves_to None v t = tt
    leaves_to (Some desk) v t = ((refl, refl), tt)

pub finish-sent : (set : ℕ) (stamp : Stamp) (s : SetState) → AreSentIn set stamp (finish set stamp s)
finish-sent set stamp s = finish_rule set stamp (sent set stamp) (sent_ends set stamp) s

-- one rule and then the end of the move
ends-sent : (set : ℕ) (stamp : Stamp) (m : Made) → AreSentIn set stamp m → AreSentIn set stamp (then_do m (finish set stamp))
ends-sent set stamp m h = sent_then set stamp m (finish set stamp) h (finish-sent set stamp m.state)

sent_commands : (set : ℕ) (stamp : Stamp) (client : ℕ) → CommandRules set stamp client (sent set stamp)
sent_commands set stamp client = command_rules set stamp client (sent set stamp) (record {
  tries_not = λ mode t. tt;
  holds_not = λ mode t. tt;
  grants = λ mode t. tt;
  tries = λ mode t. tt;
  changes = λ gives_up mode t. tt;
  releases = λ mode t. tt;
  asks = λ mode gives_up t. asked-sent set stamp (ask_of stamp client mode gives_up t) t;
  retakes = λ mode t. tt;
  withheld = λ mode t. tt;
  ended = λ t m h. ends-sent set stamp m h;
})

pub lock-sent : (set : ℕ) (stamp : Stamp) (client : ℕ) (mode : Mode) (s : SetState) → AreSentIn set stamp (lock set stamp client mode s)
lock-sent set stamp client = (sent_commands set stamp client).locks

pub try-sent : (set : ℕ) (stamp : Stamp) (client : ℕ) (mode : Mode) (s : SetState) → AreSentIn set stamp (try set stamp client mode s)
try-sent set stamp client = (sent_commands set stamp client).tries

pub unlock-sent : (set : ℕ) (stamp : Stamp) (client : ℕ) (mode : Mode) (s : SetState) → AreSentIn set stamp (unlock set stamp client mode s)
unlock-sent set stamp client = (sent_commands set stamp client).unlocks

pub change-sent : (set : ℕ) (stamp : Stamp) (client : ℕ) (gives_up mode : Mode) (s : SetState) → AreSentIn set stamp (change set stamp client gives_up mode s)
change-sent set stamp client = (sent_commands set stamp client).changes

pub withdraw-sent : (set : ℕ) (stamp : Stamp) (client other : ℕ) (s : SetState) → AreSentIn set stamp (withdraw set stamp client other s)
withdraw-sent set stamp client other s =
    ends-sent set stamp (withdrawn set client other s) (withdraws_ways (AreSentIn set stamp) set client other s (λ waiting. tt) (λ idle. tt))

pub drop-sent : (set : ℕ) (stamp : Stamp) (client : ℕ) (s : SetState) → AreSentIn set stamp (drop set stamp client s)
drop-sent set stamp client s = finish-sent set stamp (dropped client s)

pub take-sent : (stamp : Stamp) (letter : Letter) (s : SetState) → AreSentIn letter.set stamp (take stamp letter s)
take-sent stamp letter s = ends-sent letter.set stamp (arrive stamp letter s) (by_body letter.body (learn letter.link s))
  where
    by_body : (body : Body) (t : SetState) → AreSentIn letter.set stamp (take_body letter.set stamp body t)
    by_body (AskBody ask marked) t = route-sent letter.set stamp marked (ParkedAsk ask) t
    by_body (TellBody tell) t = route-sent letter.set stamp false (ParkedTell tell) t
    by_body (CopyBody ask) t = tt
    by_body (TokenBody desk) t = tt
    by_body (FreezeBody number modes) t = tt

-- What stands at a node in the middle of its move.

-- how often the ask stands in a letter of the set
abbrev pub places_weight : ℕ → Ask → Letter → ℕ
places_weight s a letter = if letter.set == s then places_in_body a letter.body else 0

abbrev pub places_sent : ℕ → Ask → List Post → ℕ
places_sent s a posts = posts_weight (places_weight s a) posts

-- a copy goes to the node of its ask
abbrev pub IsCopyHome : ℕ → Body → Type 0
IsCopyHome q (CopyBody ask) = ask.node ≡ q
IsCopyHome q (AskBody ask marked) = Unit {0}
IsCopyHome q (TellBody tell) = Unit {0}
IsCopyHome q (TokenBody desk) = Unit {0}
IsCopyHome q (FreezeBody number modes) = Unit {0}

abbrev pub AreHome : ℕ → List Post → Type 0
AreHome s posts = AllByRecursion (λ (post : Post). post.letter.set ≡ s → IsCopyHome post.to post.letter.body) posts

abbrev pub AreApart : List Ask → Type 0
AreApart asks = AllPairs (λ (a b : Ask). a.stamp ≢ b.stamp) asks

-- with what stands elsewhere, each ask stands here and in these letters as often as it is unanswered here and elsewhere
pub record Stands (s me clock : ℕ) (elsewhere unanswered : Ask → ℕ) (t : SetState) (posts : List Post) : Type 0 where
  pub once : (a : Ask) → places_in_state a t + places_sent s a posts + elsewhere a ≡ times_in a t.pending + unanswered a
  pub own : All (IsMadeBy me clock) t.pending
  pub apart : AreApart t.pending
  pub copies : AreHome s posts

abbrev pub stands : ℕ → ℕ → ℕ → (Ask → ℕ) → (Ask → ℕ) → Fact
stands s me clock elsewhere unanswered t posts = Stands s me clock elsewhere unanswered t posts

pub places_sent-append : (s : ℕ) (a : Ask) (posts more : List Post) → places_sent s a (posts ++ more) ≡ places_sent s a posts + places_sent s a more
places_sent-append s a posts more = sum_by-append (λ (post : Post). places_weight s a post.letter) posts more

pub places_sent-one : (s : ℕ) (a : Ask) (post : Post) → post.letter.set ≡ s → places_sent s a (post ∷ []) ≡ places_in_body a post.letter.body
places_sent-one s a post e =
    let here : places_weight s a post.letter ≡ places_in_body a post.letter.body = rw (eq-eqb post.letter.set s e) refl in
    omega (arith, sum_by-cons (λ (p : Post). places_weight s a p.letter) post [], here)

pub places_sent-none : (s : ℕ) (a : Ask) (posts : List Post) → AllByRecursion (λ (post : Post). places_weight s a post.letter ≡ 0) posts → places_sent s a posts ≡ 0
places_sent-none s a [] h = refl
places_sent-none s a (post ∷ rest) h =
    omega (arith, sum_by-cons (λ (p : Post). places_weight s a p.letter) post rest, h.0, places_sent-none s a rest h.1)

-- a step that changes no unanswered ask
pub moved_on : (s me clock : ℕ) (before elsewhere unanswered : Ask → ℕ) (t u : SetState) (posts more : List Post) → Stands s me clock before unanswered t posts
    → u.pending ≡ t.pending → ((a : Ask) → places_in_state a u + places_sent s a more + elsewhere a ≡ places_in_state a t + before a) → AreHome s more
    → Stands s me clock elsewhere unanswered u (posts ++ more)
moved_on s me clock before elsewhere unanswered t u posts more h same even home = record {
  once = λ a. omega (arith, h.once a, even a, places_sent-append s a posts more, ap (times_in a) same);
  own = subst (λ (l : List Ask). All (IsMadeBy me clock) l) (sym same) h.own;
  apart = subst AreApart (sym same) h.apart;
  copies = all_append _ posts more h.copies home;
}

pub dealt_times : (a : Ask) (desk : Desk) (item : Parked) → times_in a (dealt desk item).queue ≡ times_in a desk.queue + times_parked a item
dealt_times a desk (ParkedAsk ask) = times_in-entered a ask desk.queue
dealt_times a desk (ParkedTell tell) = omega arith

pub all_dealt_times : (a : Ask) (items : List Parked) (desk : Desk) → times_in a (fold dealt desk items).queue ≡ times_in a desk.queue + sum_by (times_parked a) items
all_dealt_times a [] desk = omega arith
all_dealt_times a (item ∷ rest) desk =
    omega (arith, all_dealt_times a rest (dealt desk item), dealt_times a desk item, sum_by-cons (times_parked a) item rest)

pub item_places : (a : Ask) (item : Parked) (mark : Bool) → places_in_body a (body_of item mark) ≡ times_parked a item
item_places a (ParkedAsk ask) mark = refl
item_places a (ParkedTell tell) mark = refl

pub item_home : (q : ℕ) (item : Parked) (mark : Bool) → IsCopyHome q (body_of item mark)
item_home q (ParkedAsk ask) mark = tt
item_home q (ParkedTell tell) mark = tt

-- path reversal changes the hoped link alone
pub record SameAsks (t u : SetState) : Type 0 where
  pub pending : u.pending ≡ t.pending
  pub parked : u.parked ≡ t.parked
  pub desk : u.desk ≡ t.desk

pub reversed_asks : (me : ℕ) (item : Parked) (t : SetState) → SameAsks t (reversed me item t)
reversed_asks me (ParkedTell tell) t = record { pending = refl; parked = refl; desk = refl }
reversed_asks me (ParkedAsk ask) t = by_test (excludes_itself ask.mode && not (ask.node == me))
  where
    by_test : (other : Bool) → SameAsks t (if other then record t { hoped = Some (record { node = ask.node; stamp = ask.stamp }) } else t)
    by_test true = record { pending = refl; parked = refl; desk = refl }
    by_test false = record { pending = refl; parked = refl; desk = refl }

pub same_places : (a : Ask) (t u : SetState) → SameAsks t u → places_in_state a u ≡ places_in_state a t
same_places a t u h =
    omega (arith, ap (λ (l : List Parked). sum_by (times_parked a) l) h.parked, ap (λ (o : Option Desk). times_in a (queue_of_desk o)) h.desk)
