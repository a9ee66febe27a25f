-- A node without the desk sends no token and stays without it, unless a token comes.
use Rattle.lt_model.proofs.Voids.{asks_ways, withdraws_ways}
use Rattle.std.proofs.Common.{◌≡◌, ℕ, [], ◌∷◌, ◌++◌, Option, Some, None, Bool, true, false, ◌∙◌, ◌≢◌, ◌+◌, ◌<◌, ◌≤◌, inl, inr, List, refl, sym, ap, subst, arith, ◌==◌, if◌then◌else◌, is_some, filter_map, append-nil, append_assoc}
use Rattle.std.specs.List.{AllByRecursion}
use Rattle.std.proofs.Math.Path.{fun_ext}
use Rattle.std.proofs.lemmas.Bool.{cases_eq, cases_lt}
use Rattle.std.proofs.lemmas.List.Elements.{filter_map-append}
use Rattle.lt_modes.specs.declared.mode.Mode.{Mode}
use Rattle.lt_modes.specs.declared.stamp.Stamp.{Stamp}
use Rattle.lt_modes.specs.declared.ask.Ask.{Ask}
use Rattle.lt_modes.specs.declared.event.Event.TheVariants.{Try, Unlock, NotHeld, Change}
use Rattle.lt_modes.specs.Modes.{bars, same_modes, count_of, take_lock, held_modes}
use Rattle.lt_modes.specs.State.{SetState, Desk, Parked, ParkedAsk, ParkedTell, Made, Post, silent, then_do, Letter}
use Rattle.lt_modes.specs.Granting.{can_grant}
use Rattle.lt_modes.specs.SetMove.{make_tell, finish, finish_by, answers, given, granted, ask_of, asked, locked, tried, unlocked, change_held, changed, dropped, lock, try, unlock, change, drop, asked_or_not, withdrawn, withdraw}
use Rattle.lt_modes.specs.Routing.{Way, Parks, Goes, way, sent_on, route, route_by}
use Rattle.lt_modes.specs.Telling.{tell_of}
use Rattle.lt_lists.proofs.AllLemmas.{all_append, all_weaker}
use Rattle.lt_lists.proofs.Puts.{put-put, put-same, put-other}
use Rattle.lt_lists.specs.Below.{put, one_if}
use Rattle.lt_spec.specs.Facts.{tokens_in}
use Rattle.lt_spec.specs.NodeMove.{NodeState, touched, each_touched}
use Rattle.lt_spec.specs.World.{letter_for, sent, token_to}
use Rattle.lt_model.proofs.PathsRoutes.{reversed_desk, item_tokens}
use Rattle.lt_model.specs.Invariant.{StateOnPath}
use Rattle.lt_model.proofs.Letters.{letters_to}
use Rattle.lt_model.proofs.SentInMove.{IsSentIn, AreSentIn}
use Rattle.lt_model.specs.PathEffects.{Ground, Moved}
use Rattle.lt_model.proofs.PathsHandOver.{finish-moved, lock-moved, try-moved, unlock-moved, change-moved, drop-moved, withdraw-moved}
use Rattle.lt_model.proofs.PathsWorld.{no_token, PathsOf, after_moved, after_others, after_beyond}

-- no desk is there afterwards, and no letter carries a token
pub record Idle (m : Made) : Type 0 where
  pub away : m.state.desk ≡ None
  pub posts : AllByRecursion (λ (post : Post). tokens_in post.letter.body ≡ 0) m.posts

idle_then : (m : Made) (rule : SetState → Made) → Idle m → Idle (rule m.state) → Idle (then_do m rule)
idle_then m rule first second = record { away = second.away; posts = all_append _ m.posts (rule m.state).posts first.posts second.posts }

sent_on-idle : (set : ℕ) (stamp : Stamp) (item : Parked) (s : SetState) → s.desk ≡ None → (w : Way) → Idle (sent_on set stamp item s w)
sent_on-idle set stamp item s away Parks = record { away = away; posts = tt }
sent_on-idle set stamp item s away (Goes to marked) =
    record { away = reversed_desk stamp.node item s ∙ away; posts = (item_tokens item marked, tt) }

pub route-idle : (set : ℕ) (stamp : Stamp) (marked : Bool) (item : Parked) (s : SetState) → s.desk ≡ None → Idle (route set stamp marked item s)
route-idle set stamp marked item s away = by_desk s.desk away
  where
    by_desk : (desk : Option Desk) → desk ≡ None → Idle (route_by set stamp marked item s desk)
    by_desk None e = sent_on-idle set stamp item s away (way stamp.node marked item s)
    by_desk (Some desk) e = cc

pub finish-idle : (set : ℕ) (stamp : Stamp) (s : SetState) → s.desk ≡ None → Idle (finish set stamp s)
finish-idle set stamp s away = by_desk s.desk away
  where
    made : Idle (make_tell set stamp s)
    made = route-idle set stamp false (ParkedTell (tell_of stamp s)) (record s { charge = held_modes s.held }) away

    by_test : (same : Bool) → Idle (if same then silent s else make_tell set stamp s)
    by_test true = record { away = away; posts = tt }
    by_test false = made

    by_desk : (desk : Option Desk) → desk ≡ None → Idle (finish_by set stamp s desk)
    by_desk None e = by_test (same_modes (bars (held_modes s.held)) (bars s.charge))
    by_desk (Some desk) e = cc

ends-idle : (set : ℕ) (stamp : Stamp) (m : Made) → Idle m → Idle (then_do m (finish set stamp))
ends-idle set stamp m h = idle_then m (finish set stamp) h (finish-idle set stamp m.state h.away)

asked-idle : (set : ℕ) (stamp : Stamp) (ask : Ask) (s : SetState) → s.desk ≡ None → Idle (asked set stamp ask s)
asked-idle set stamp ask s away =
    let made = route-idle set stamp false (ParkedAsk ask) (record s { pending = s.pending ++ ask ∷ [] }) away in
    record { away = made.away; posts = made.posts }

asked_or_not-idle : (set : ℕ) (stamp : Stamp) (ask : Ask) (s : SetState) → s.desk ≡ None → Idle (asked_or_not set stamp ask s)
asked_or_not-idle set stamp ask s away =
    asks_ways Idle set stamp ask s (λ free. asked-idle set stamp ask s away) (λ gone same. record { away = away; posts = tt }) (record { away = away; posts = tt })

pub withdraw-idle : (set : ℕ) (stamp : Stamp) (client other : ℕ) (s : SetState) → s.desk ≡ None → Idle (withdraw set stamp client other s)
withdraw-idle set stamp client other s away =
    ends-idle set stamp (withdrawn set client other s)
    (withdraws_ways Idle set client other s (λ waiting. record { away = away; posts = tt }) (λ idle. record { away = away; posts = tt }))

pub lock-idle : (set : ℕ) (stamp : Stamp) (client : ℕ) (mode : Mode) (s : SetState) → s.desk ≡ None → Idle (lock set stamp client mode s)
lock-idle set stamp client mode s away = ends-idle set stamp (locked set stamp client mode s) (by_test (can_grant stamp.node s client mode))
  where
    by_test : (can : Bool) → Idle (if can then granted set client mode s else asked_or_not set stamp (ask_of stamp client mode None s) s)
    by_test true = record { away = away; posts = tt }
    by_test false = asked_or_not-idle set stamp (ask_of stamp client mode None s) s away

pub try-idle : (set : ℕ) (stamp : Stamp) (client : ℕ) (mode : Mode) (s : SetState) → s.desk ≡ None → Idle (try set stamp client mode s)
try-idle set stamp client mode s away = ends-idle set stamp (tried set stamp client mode s) (by_test (can_grant stamp.node s client mode))
  where
    by_test : (can : Bool) → Idle (if can then answers (Try client set mode true) (given client mode None s) else answers (Try client set mode false) s)
    by_test true = record { away = away; posts = tt }
    by_test false = record { away = away; posts = tt }

pub unlock-idle : (set : ℕ) (stamp : Stamp) (client : ℕ) (mode : Mode) (s : SetState) → s.desk ≡ None → Idle (unlock set stamp client mode s)
unlock-idle set stamp client mode s away = ends-idle set stamp (unlocked set client mode s) (by_test (count_of s.held client mode == 0))
  where
    by_test : (none : Bool) → Idle (if none then answers (NotHeld client set mode) s else answers (Unlock client set mode) (record s { held = take_lock s.held client mode }))
    by_test true = record { away = away; posts = tt }
    by_test false = record { away = away; posts = tt }

pub change-idle : (set : ℕ) (stamp : Stamp) (client : ℕ) (gives_up mode : Mode) (s : SetState) → s.desk ≡ None → Idle (change set stamp client gives_up mode s)
change-idle set stamp client gives_up mode s away = ends-idle set stamp (changed set stamp client gives_up mode s) (by_count (count_of s.held client gives_up == 0))
  where
    by_test : (can : Bool) → Idle (if can then answers (Change client set gives_up mode) (given client mode (Some gives_up) s) else asked_or_not set stamp (ask_of stamp client mode (Some gives_up) s) s)
    by_test true = record { away = away; posts = tt }
    by_test false = asked_or_not-idle set stamp (ask_of stamp client mode (Some gives_up) s) s away

    by_count : (none : Bool) → Idle (if none then answers (NotHeld client set gives_up) s else change_held set stamp client gives_up mode s)
    by_count true = record { away = away; posts = tt }
    by_count false = by_test (can_grant stamp.node s client mode)

pub drop-idle : (set : ℕ) (stamp : Stamp) (client : ℕ) (s : SetState) → s.desk ≡ None → Idle (drop set stamp client s)
drop-idle set stamp client s away = finish-idle set stamp (dropped client s) away

-- A move that goes on from a world on the path, set by set.

pub sent-sent : (q : ℕ) (first second : List Post) (mail : ℕ → ℕ → List Letter) → sent q second (sent q first mail) ≡ sent q (first ++ second) mail
sent-sent q first second mail = fun_ext (λ a. fun_ext (λ b. by_test a b (a == q)))
  where
    by_test : (a b : ℕ) (own : Bool)
        → (mail a b ++ (if own then letters_to b first else [])) ++ (if own then letters_to b second else [])
        ≡ mail a b ++ (if own then letters_to b (first ++ second) else [])
    by_test a b true = append_assoc (mail a b) (letters_to b first) (letters_to b second)
        ∙ ap (λ (l : List Letter). mail a b ++ l) (sym (filter_map-append (letter_for b) first second))
    by_test a b false = append_assoc (mail a b) [] []

pub sent-none : (q : ℕ) (mail : ℕ → ℕ → List Letter) → mail ≡ sent q [] mail
sent-none q mail = fun_ext (λ a. fun_ext (λ b. by_test a b (a == q)))
  where
    by_test : (a b : ℕ) (own : Bool) → mail a b ≡ mail a b ++ (if own then [] else [])
    by_test a b true = sym (append-nil (mail a b))
    by_test a b false = sym (append-nil (mail a b))

pub gone-gone : (s : ℕ) (gone : List ℕ) (first second : List Post)
    → (gone ++ filter_map (token_to s) first) ++ filter_map (token_to s) second ≡ gone ++ filter_map (token_to s) (first ++ second)
gone-gone s gone first second =
    append_assoc gone (filter_map (token_to s) first) (filter_map (token_to s) second)
    ∙ ap (λ (l : List ℕ). gone ++ l) (sym (filter_map-append (token_to s) first second))

pub same_parts : (nodes s hand : ℕ) (state state' : ℕ → SetState) (mail mail' : ℕ → ℕ → List Letter) (gone gone' : List ℕ)
    → state ≡ state' → mail ≡ mail' → gone ≡ gone' → PathsOf nodes s hand state mail gone → PathsOf nodes s hand state' mail' gone'
same_parts nodes s hand state state' mail mail' gone gone' es em eg h =
    subst (λ (f : ℕ → SetState). PathsOf nodes s hand f mail' gone') es
    (subst (λ (f : ℕ → ℕ → List Letter). PathsOf nodes s hand state f gone') em
    (subst (λ (l : List ℕ). PathsOf nodes s hand state mail l) eg h))

-- the paths while node q makes its move: it keeps t by now, and has sent these letters
abbrev pub Going : ℕ → ℕ → ℕ → (ℕ → SetState) → (ℕ → ℕ → List Letter) → List ℕ → SetState → List Post → Type 0
Going nodes s q state mail gone t posts = PathsOf nodes s 0 (put state q t) (sent q posts mail) (gone ++ filter_map (token_to s) posts)

-- the rule keeps them at any moment of a move
abbrev pub KeepsGoing : ℕ → ℕ → ℕ → (ℕ → SetState) → (ℕ → ℕ → List Letter) → List ℕ → (SetState → Made) → Type 0
KeepsGoing nodes s q state mail gone rule = (t : SetState) (posts : List Post) → Going nodes s q state mail gone t posts
    → Going nodes s q state mail gone (rule t).state (posts ++ (rule t).posts)

pub going_on : (nodes s q : ℕ) (state : ℕ → SetState) (mail : ℕ → ℕ → List Letter) (gone : List ℕ) (t u : SetState) (posts more : List Post)
    → PathsOf nodes s 0 (put (put state q t) q u) (sent q more (sent q posts mail)) ((gone ++ filter_map (token_to s) posts) ++ filter_map (token_to s) more)
    → Going nodes s q state mail gone u (posts ++ more)
going_on nodes s q state mail gone t u posts more h =
    same_parts nodes s 0 _ _ _ _ _ _ (put-put state q t u) (sent-sent q posts more mail) (gone-gone s gone posts more) h

pub going_by_rule : (nodes s q : ℕ) (state : ℕ → SetState) (mail : ℕ → ℕ → List Letter) (gone : List ℕ) (rule : SetState → Made) → q < nodes
    → ((t : SetState) (went : List ℕ) → Ground nodes went → StateOnPath nodes went q t → Moved nodes went s q (one_if (is_some t.desk)) (rule t))
    → KeepsGoing nodes s q state mail gone rule
going_by_rule nodes s q state mail gone rule hq moves t posts h =
    let here = put-same state q t in
    let now = gone ++ filter_map (token_to s) posts in
    let on_path : StateOnPath nodes now q t = subst (λ (u : SetState). StateOnPath nodes now q u) here (h.states q hq) in
    let same : one_if (is_some t.desk) ≡ one_if (is_some (put state q t q).desk) + 0 =
    omega (arith, ap (λ (u : SetState). one_if (is_some u.desk)) here) in
    let moved = subst (λ (k : ℕ). Moved nodes now s q k (rule t)) same (moves t now h.ground on_path) in
    going_on nodes s q state mail gone t (rule t).state posts (rule t).posts
    (after_moved nodes s 0 q (put state q t) (sent q posts mail) now (rule t) h hq moved)

pub going_beyond : (nodes s q : ℕ) (state : ℕ → SetState) (mail : ℕ → ℕ → List Letter) (gone : List ℕ) (rule : SetState → Made) → nodes ≤ q
    → ((t : SetState) → t.desk ≡ None → Idle (rule t)) → KeepsGoing nodes s q state mail gone rule
going_beyond nodes s q state mail gone rule above idles t posts h =
    let away : t.desk ≡ None = sym (ap (λ (u : SetState). u.desk) (put-same state q t)) ∙ h.beyond q above in
    let idle = idles t away in
    going_on nodes s q state mail gone t (rule t).state posts (rule t).posts
    (after_beyond nodes s q (put state q t) (sent q posts mail) (gone ++ filter_map (token_to s) posts) (rule t).state (rule t).posts h above idle.away
    (all_weaker _ _ (λ (post : Post) e. no_token s post e) (rule t).posts idle.posts))

-- letters of another set keep them too
pub going_aside : (nodes s set q : ℕ) (stamp : Stamp) (state : ℕ → SetState) (mail : ℕ → ℕ → List Letter) (gone : List ℕ) (t : SetState) (posts more : List Post)
    → set ≢ s → AllByRecursion (IsSentIn set stamp) more → Going nodes s q state mail gone t posts → Going nodes s q state mail gone t (posts ++ more)
going_aside nodes s set q stamp state mail gone t posts more d from h =
    same_parts nodes s 0 _ _ _ _ _ _ refl (sent-sent q posts more mail) (gone-gone s gone posts more)
    (after_others nodes s 0 q (put state q t) (sent q posts mail) (gone ++ filter_map (token_to s) posts) more h
    (all_weaker _ _ (λ (post : Post) sent_in. λ e. d (sym sent_in.0 ∙ e)) more from))

-- the rule on one set of the node
pub touched_going : (nodes s set q : ℕ) (stamp : Stamp) (state : ℕ → SetState) (mail : ℕ → ℕ → List Letter) (gone : List ℕ) (rule : SetState → Made) (n : NodeState) (posts : List Post)
    → (set ≡ s → KeepsGoing nodes s q state mail gone rule) → AreSentIn set stamp (rule (n.set set))
    → Going nodes s q state mail gone (n.set s) posts
    → Going nodes s q state mail gone ((touched n set (rule (n.set set))).node.set s) (posts ++ (rule (n.set set)).posts)
touched_going nodes s set q stamp state mail gone rule n posts keeps from h = elim (cases_eq set s) [
  | inl e ↦
      let m = rule (n.set set) in
      let made = keeps e (n.set set) posts (subst (λ (k : ℕ). Going nodes s q state mail gone (n.set k) posts) (sym e) h) in
      subst (λ (t : SetState). Going nodes s q state mail gone t (posts ++ m.posts)) (sym (ap (put n.set set m.state) (sym e) ∙ put-same n.set set m.state)) made
  | inr d ↦
      let m = rule (n.set set) in
      subst (λ (t : SetState). Going nodes s q state mail gone t (posts ++ m.posts)) (sym (put-other n.set set m.state s (λ e. d (sym e))))
      (going_aside nodes s set q stamp state mail gone (n.set s) posts m.posts d from h)
]

-- the rule on each of these sets
pub each_going : (nodes s q : ℕ) (stamp : Stamp) (state : ℕ → SetState) (mail : ℕ → ℕ → List Letter) (gone : List ℕ) (rule : ℕ → SetState → Made)
    → KeepsGoing nodes s q state mail gone (rule s) → ((set : ℕ) (t : SetState) → AreSentIn set stamp (rule set t))
    → (sets : List ℕ) (n : NodeState) (posts : List Post) → Going nodes s q state mail gone (n.set s) posts
    → Going nodes s q state mail gone ((each_touched rule sets n).node.set s) (posts ++ (each_touched rule sets n).posts)
each_going nodes s q stamp state mail gone rule keeps from [] n posts h =
    subst (λ (l : List Post). Going nodes s q state mail gone (n.set s) l) (sym (append-nil posts)) h
each_going nodes s q stamp state mail gone rule keeps from (set ∷ rest) n posts h =
    let m = rule set (n.set set) in
    let first = touched_going nodes s set q stamp state mail gone (rule set) n posts
    (λ e. subst (λ (k : ℕ). KeepsGoing nodes s q state mail gone (rule k)) (sym e) keeps) (from set (n.set set)) h in
    let later = (each_touched rule rest (touched n set m).node) in
    subst (λ (l : List Post). Going nodes s q state mail gone (later.node.set s) l) (append_assoc posts m.posts later.posts)
    (each_going nodes s q stamp state mail gone rule keeps from rest (touched n set m).node (posts ++ m.posts) first)

-- each command of a client keeps them
pub record ActsKeep (nodes s : ℕ) (stamp : Stamp) (state : ℕ → SetState) (mail : ℕ → ℕ → List Letter) (gone : List ℕ) : Type 0 where
  pub locks : (client : ℕ) (mode : Mode) → KeepsGoing nodes s stamp.node state mail gone (lock s stamp client mode)
  pub tries : (client : ℕ) (mode : Mode) → KeepsGoing nodes s stamp.node state mail gone (try s stamp client mode)
  pub unlocks : (client : ℕ) (mode : Mode) → KeepsGoing nodes s stamp.node state mail gone (unlock s stamp client mode)
  pub changes : (client : ℕ) (gives_up mode : Mode) → KeepsGoing nodes s stamp.node state mail gone (change s stamp client gives_up mode)
  pub drops : (client : ℕ) → KeepsGoing nodes s stamp.node state mail gone (drop s stamp client)
  pub withdraws : (client other : ℕ) → KeepsGoing nodes s stamp.node state mail gone (withdraw s stamp client other)
  pub finishes : KeepsGoing nodes s stamp.node state mail gone (finish s stamp)

pub acts_keep : (nodes s : ℕ) (stamp : Stamp) (state : ℕ → SetState) (mail : ℕ → ℕ → List Letter) (gone : List ℕ) → ActsKeep nodes s stamp state mail gone
acts_keep nodes s stamp state mail gone = elim (cases_lt stamp.node nodes) [
  | inl below ↦ record {
    locks = λ client mode. going_by_rule nodes s stamp.node state mail gone (lock s stamp client mode) below
        (λ t went g on. lock-moved nodes went s stamp client mode t below g on);
    tries = λ client mode. going_by_rule nodes s stamp.node state mail gone (try s stamp client mode) below
        (λ t went g on. try-moved nodes went s stamp client mode t g on);
    unlocks = λ client mode. going_by_rule nodes s stamp.node state mail gone (unlock s stamp client mode) below
        (λ t went g on. unlock-moved nodes went s stamp client mode t g on);
    changes = λ client gives_up mode. going_by_rule nodes s stamp.node state mail gone (change s stamp client gives_up mode) below
        (λ t went g on. change-moved nodes went s stamp client gives_up mode t below g on);
    drops = λ client. going_by_rule nodes s stamp.node state mail gone (drop s stamp client) below
        (λ t went g on. drop-moved nodes went s stamp client t g on);
    withdraws = λ client other. going_by_rule nodes s stamp.node state mail gone (withdraw s stamp client other) below
        (λ t went g on. withdraw-moved nodes went s stamp client other t g on);
    finishes = going_by_rule nodes s stamp.node state mail gone (finish s stamp) below
        (λ t went g on. finish-moved nodes went (one_if (is_some t.desk)) s stamp t g on refl);
  }
  | inr above ↦ record {
    locks = λ client mode. going_beyond nodes s stamp.node state mail gone (lock s stamp client mode) above (lock-idle s stamp client mode);
    tries = λ client mode. going_beyond nodes s stamp.node state mail gone (try s stamp client mode) above (try-idle s stamp client mode);
    unlocks = λ client mode. going_beyond nodes s stamp.node state mail gone (unlock s stamp client mode) above (unlock-idle s stamp client mode);
    changes = λ client gives_up mode.
        going_beyond nodes s stamp.node state mail gone (change s stamp client gives_up mode) above (change-idle s stamp client gives_up mode);
    drops = λ client. going_beyond nodes s stamp.node state mail gone (drop s stamp client) above (drop-idle s stamp client);
    withdraws = λ client other. going_beyond nodes s stamp.node state mail gone (withdraw s stamp client other) above (withdraw-idle s stamp client other);
    finishes = going_beyond nodes s stamp.node state mail gone (finish s stamp) above (finish-idle s stamp);
  }
]
