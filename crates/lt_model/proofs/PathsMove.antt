-- A set that is kept, in the words of the laws on places and on time.
use Rattle.std.proofs.Common.{ℕ, ◌≤◌, Option, Some, None, false, ◌≡◌, ◌≢◌, ◌+◌, ◌<◌, inl, inr, List, [], ◌∷◌, ◌++◌, Bool, true, refl, sym, ap, subst, arith, ◌∙◌, suc, length, IfSome, ◌==◌, not, nat_lt, if◌then◌else◌, IsTrue, Contains, is_some, filter_map, drop as drop_front, slice_index, sum_by, eq-eqb, ne_eqb, ltb-true, eqb-true, append-nil}
use Rattle.std.proofs.Math.Path.{fun_ext}
use Rattle.std.proofs.lemmas.Bool.{cases_eq, and_parts}
use Rattle.std.proofs.lemmas.List.Sums.{sum_by-cons}
use Rattle.lt_modes.specs.Script.{ScriptData}
use Rattle.lt_modes.specs.State.{Desk, SetState, Letter, Post, Body, AskBody, TellBody, CopyBody, TokenBody, FreezeBody}
use Rattle.lt_modes.specs.Sound.{SoundDesk}
use Rattle.lt_modes.specs.Fits.{numbers_of}
use Rattle.lt_modes.specs.declared.stamp.Stamp.{Stamp}
use Rattle.lt_modes.specs.declared.command.Command.{Command}
use Rattle.lt_modes.specs.declared.command.Command.TheVariants.{Lock, Unlock, Try, Change, DropAll, Withdraw}
use Rattle.lt_modes.specs.declared.moves.Step.{Step}
use Rattle.lt_modes.specs.declared.moves.Step.TheVariants.{Act, Take}
use Rattle.lt_modes.specs.SetMove.{finish, lock, try, unlock, change, drop, withdraw}
use Rattle.lt_modes.specs.Taking.{take}
use Rattle.lt_lists.proofs.Puts.{put-itself, put-same, put-other}
use Rattle.lt_lists.specs.Below.{put, one_if, sum_below}
use Rattle.lt_lists.proofs.Sums.{sum_below-at, sum_below-some}
use Rattle.lt_lists.proofs.AllLemmas.{all_weaker}
use Rattle.lt_spec.specs.World.{World, has_mail, is_some_letter, is_enabled, take_front, put_mail, opened, sent, token_to, after_made, after}
use Rattle.lt_spec.specs.Facts.{state_at, tokens_in, Comes, DeskIs}
use Rattle.lt_spec.specs.NodeMove.{related, NodeState, NodeMade, node_waits, next_command, act_stamp, take_stamp, drop_all, obey, at_clock, one_made, node_act, node_take}
use Rattle.lt_model.specs.OnWay.{Between}
use Rattle.lt_model.specs.Invariant.{AsksStand, Timed, SetKept, StateOnPath, LetterOnPath, Paths, DeskOnPath, HasWay, BodyOnPath}
use Rattle.lt_model.proofs.PathsGoing.{sent-none, same_parts, Going, KeepsGoing, touched_going, each_going, ActsKeep, acts_keep}
use Rattle.lt_model.proofs.SentInMove.{finish-sent, lock-sent, try-sent, unlock-sent, change-sent, drop-sent, take-sent, withdraw-sent}
use Rattle.lt_model.specs.PathEffects.{token_weight, Moved}
use Rattle.lt_model.proofs.PathsHandOver.{take-moved}
use Rattle.lt_model.proofs.PathsWorld.{PathsOf, after_moved, after_others, opened_for, desks}
use Rattle.lt_model.specs.Laws.{DeskSomewhere, TokenComes}

-- its asks stand where they should
pub kept_stands : (script : ScriptData) (w : World) (s : ℕ) → SetKept script Between w s → AsksStand script w s
kept_stands script w s h = record {
  places = h.places;
  own = λ x below k d within. (((h.states x below).pending k d within).node, (h.states x below).made k d within);
  apart = λ x below. (h.states x below).stamps_apart;
}

-- and nothing of it is younger than its clock
pub kept_timed : (script : ScriptData) (w : World) (s : ℕ) → SetKept script Between w s → Timed script w s
kept_timed script w s h = record {
  states = λ x below. record {
    epoch = (h.states x below).epoch;
    number = (h.states x below).number;
    desk = by_desk x (state_at w s x).desk (h.states x below).desk;
  };
  letters = λ p q letter below on. h.letters p q letter below (h.paths.letters p q letter below on).to on;
}
  where
    by_desk : (x : ℕ) (o : Option Desk) → SoundDesk (numbers_of script) false false (w.node x).clock (state_at w s x) o
        → IfSome o (λ (desk : Desk). (desk.epoch ≤ (w.node x).clock) × (desk.number ≤ (w.node x).clock))
    by_desk x None sound = tt
    by_desk x (Some desk) sound = (sound.1, sound.2)

-- Each enabled move keeps the token's paths.

obey_going : (script : ScriptData) (s client : ℕ) (stamp : Stamp) (state : ℕ → SetState) (mail : ℕ → ℕ → List Letter) (gone : List ℕ) (command : Option Command) (n : NodeState)
    → ActsKeep script.nodes s stamp state mail gone → Going script.nodes s stamp.node state mail gone (n.set s) []
    → Going script.nodes s stamp.node state mail gone ((obey script stamp client command n).node.set s) (obey script stamp client command n).posts
obey_going script s client stamp state mail gone None n keep h = h
obey_going script s client stamp state mail gone (Some (Lock set mode)) n keep h =
    touched_going script.nodes s set stamp.node stamp state mail gone (lock set stamp client mode) n []
    (λ e. subst (λ (k : ℕ). KeepsGoing script.nodes s stamp.node state mail gone (lock k stamp client mode)) (sym e) (keep.locks client mode))
    (lock-sent set stamp client mode (n.set set)) h
obey_going script s client stamp state mail gone (Some (Try set mode)) n keep h =
    touched_going script.nodes s set stamp.node stamp state mail gone (try set stamp client mode) n []
    (λ e. subst (λ (k : ℕ). KeepsGoing script.nodes s stamp.node state mail gone (try k stamp client mode)) (sym e) (keep.tries client mode))
    (try-sent set stamp client mode (n.set set)) h
obey_going script s client stamp state mail gone (Some (Unlock set mode)) n keep h =
    touched_going script.nodes s set stamp.node stamp state mail gone (unlock set stamp client mode) n []
    (λ e. subst (λ (k : ℕ). KeepsGoing script.nodes s stamp.node state mail gone (unlock k stamp client mode)) (sym e) (keep.unlocks client mode))
    (unlock-sent set stamp client mode (n.set set)) h
obey_going script s client stamp state mail gone (Some (Change set gives_up mode)) n keep h =
    touched_going script.nodes s set stamp.node stamp state mail gone (change set stamp client gives_up mode) n []
    (λ e. subst (λ (k : ℕ). KeepsGoing script.nodes s stamp.node state mail gone (change k stamp client gives_up mode)) (sym e) (keep.changes client gives_up mode))
    (change-sent set stamp client gives_up mode (n.set set)) h
obey_going script s client stamp state mail gone (Some (Withdraw other set)) n keep h =
    touched_going script.nodes s set stamp.node stamp state mail gone (withdraw set stamp client other) n []
    (λ e. subst (λ (k : ℕ). KeepsGoing script.nodes s stamp.node state mail gone (withdraw k stamp client other)) (sym e) (keep.withdraws client other))
    (withdraw-sent set stamp client other (n.set set)) h
obey_going script s client stamp state mail gone (Some (DropAll other set)) n keep h = by_test (node_waits script n other)
  where
    by_test : (waiting : Bool) → Going script.nodes s stamp.node state mail gone
        ((drop_all waiting stamp client other set (related script set) n).node.set s) (drop_all waiting stamp client other set (related script set) n).posts
    by_test true = each_going script.nodes s stamp.node stamp state mail gone (λ k. finish k stamp) keep.finishes
        (λ k t. finish-sent k stamp t) (related script set) n [] h
    by_test false = each_going script.nodes s stamp.node stamp state mail gone (λ k. drop k stamp other) (keep.drops other)
        (λ k t. drop-sent k stamp other t) (related script set) n [] h

paths_of : (script : ScriptData) (w : World) (s : ℕ) → 0 < script.nodes → Paths script w s → PathsOf script.nodes s 0 (state_at w s) w.mail (w.went s)
paths_of script w s some h = record {
  ground = record { some = some; known = h.went };
  begun = h.some;
  states = h.states;
  beyond = h.beyond;
  letters = λ p q letter below on set. h.letters p q letter below (record { among = on; set = set });
  count = omega (arith, h.one_token);
}

-- the world after what node q made
after_going : (script : ScriptData) (w : World) (s q : ℕ) (made : NodeMade)
    → Going script.nodes s q (state_at w s) w.mail (w.went s) (made.node.set s) made.posts → Paths script (after_made q made w) s
after_going script w s q made going =
    let same : put (state_at w s) q (made.node.set s) ≡ state_at (after_made q made w) s = fun_ext (λ x. by_test x (x == q)) in
    let h = same_parts script.nodes s 0 _ _ _ _ _ _ same refl refl going in
    record {
      went = h.ground.known;
      some = h.begun;
      states = h.states;
      beyond = h.beyond;
      letters = λ p r letter below on. h.letters p r letter below on.among on.set;
      one_token = omega (arith, h.count);
    }
  where
    by_test : (x : ℕ) (here : Bool) → (if here then made.node.set s else (w.node x).set s) ≡ (if here then made.node else w.node x).set s
    by_test x true = refl
    by_test x false = refl

act_kept : (script : ScriptData) (w : World) (s q client : ℕ) → 0 < script.nodes → Paths script w s → Paths script (after script w q (Act client)) s
act_kept script w s q client some h =
    let n = w.node q in
    let begins : Going script.nodes s q (state_at w s) w.mail (w.went s) (n.set s) [] =
    same_parts script.nodes s 0 _ _ _ _ _ _ (put-itself (state_at w s) q) (sent-none q w.mail) (sym (append-nil (w.went s))) (paths_of script w s some h) in
    after_going script w s q (node_act script q client n)
    (obey_going script s client (act_stamp q n) (state_at w s) w.mail (w.went s) (next_command script n client) (one_made client (at_clock (n.clock + 1) n))
    (acts_keep script.nodes s (act_stamp q n) (state_at w s) w.mail (w.went s)) begins)

front_of : (letters : List Letter) (letter : Letter) (rest : List Letter) → letters ≡ letter ∷ rest → Contains letters letter
front_of letters letter rest e = subst (λ (l : List Letter). Contains l letter) (sym e) (0, omega arith, refl)

-- a letter of the set is taken
take_own : (nodes s p q : ℕ) (stamp : Stamp) (state : ℕ → SetState) (mail : ℕ → ℕ → List Letter) (gone : List ℕ) (letter : Letter) (rest : List Letter)
    → stamp.node ≡ q → PathsOf nodes s 0 state mail gone → p < nodes → q < nodes → mail p q ≡ letter ∷ rest → letter.set ≡ s
    → Going nodes s q state (put_mail mail p q (drop_front 1 (mail p q))) gone (take stamp letter (state q)).state (take stamp letter (state q)).posts
take_own nodes s p q stamp state mail gone letter rest me h hp hq front set =
    let before = opened_for nodes s p q state mail gone letter rest h hp hq front in
    let on = h.letters p q letter hp (front_of (mail p q) letter rest front) set in
    let weighs : token_weight s letter ≡ tokens_in letter.body = rw (eq-eqb letter.set s set) refl in
    let few : one_if (is_some (state q).desk) + tokens_in letter.body ≤ 1 =
    omega (arith, before.count, weighs, sum_below-at nodes q (λ k. one_if (is_some (state k).desk)) hq) in
    let at_stamp = take-moved nodes gone p stamp letter (state q) h.ground
    (subst (λ (x : ℕ). StateOnPath nodes gone x (state q)) (sym me) (h.states q hq))
    (subst (λ (x : ℕ). LetterOnPath nodes gone p x letter) (sym me) on) few in
    let at_node = subst (λ (x : ℕ). Moved nodes gone letter.set x (one_if (is_some (state q).desk) + tokens_in letter.body) (take stamp letter (state q))) me at_stamp in
    let of_set = subst (λ (x : ℕ). Moved nodes gone x q (one_if (is_some (state q).desk) + tokens_in letter.body) (take stamp letter (state q))) set at_node in
    after_moved nodes s (token_weight s letter) q state (put_mail mail p q (drop_front 1 (mail p q))) gone (take stamp letter (state q)) before hq
    (subst (λ (k : ℕ). Moved nodes gone s q (one_if (is_some (state q).desk) + k) (take stamp letter (state q))) (sym weighs) of_set)

-- a letter of another set is taken
take_other : (nodes s p q : ℕ) (stamp : Stamp) (state : ℕ → SetState) (mail : ℕ → ℕ → List Letter) (gone : List ℕ) (letter : Letter) (rest : List Letter) (t : SetState)
    → PathsOf nodes s 0 state mail gone → p < nodes → q < nodes → mail p q ≡ letter ∷ rest → letter.set ≢ s
    → Going nodes s q state (put_mail mail p q (drop_front 1 (mail p q))) gone (state q) (take stamp letter t).posts
take_other nodes s p q stamp state mail gone letter rest t h hp hq front d =
    let before = opened_for nodes s p q state mail gone letter rest h hp hq front in
    let none : token_weight s letter ≡ 0 = rw (ne_eqb letter.set s d) refl in
    let left = put_mail mail p q (drop_front 1 (mail p q)) in
    let posts = (take stamp letter t).posts in
    let kept = after_others nodes s (token_weight s letter) q state left gone posts before
    (all_weaker _ _ (λ (post : Post) from. λ e. d (sym from.0 ∙ e)) posts (take-sent stamp letter t)) in
    same_parts nodes s 0 _ _ _ _ _ _ (put-itself state q) refl refl
    (subst (λ (k : ℕ). PathsOf nodes s k state (sent q posts left) (gone ++ filter_map (token_to s) posts)) none kept)

-- what it means that a letter is on its way
pub record HasMail (script : ScriptData) (w : World) (p q : ℕ) : Type 0 where
  pub sender : p < script.nodes
  pub receiver : q < script.nodes
  pub letter : is_some_letter (w.mail p q) ≡ true

pub has_mail_parts : (script : ScriptData) (w : World) (p q : ℕ) → IsTrue (has_mail script w p q) → HasMail script w p q
has_mail_parts script w p q h =
    let first = and_parts (nat_lt p script.nodes) _ h in
    let second = and_parts (nat_lt q script.nodes) _ first.1 in
    let third = and_parts (not (p == q)) _ second.1 in
    record { sender = ltb-true p script.nodes first.0; receiver = ltb-true q script.nodes second.0; letter = third.1 }

take_kept : (script : ScriptData) (w : World) (s p q : ℕ) → 0 < script.nodes → Paths script w s
    → IsTrue (has_mail script w p q) → Paths script (after script w q (Take p)) s
take_kept script w s p q some h enabled = by_letters (w.mail p q) refl
  where
    left : ℕ → ℕ → List Letter
    left = put_mail w.mail p q (drop_front 1 (w.mail p q))

    is_there : HasMail script w p q
    is_there = has_mail_parts script w p q enabled

    taken : (letter : Letter) (rest : List Letter) → w.mail p q ≡ letter ∷ rest
        → Going script.nodes s q (state_at w s) left (w.went s) ((node_take q letter (w.node q)).node.set s) (node_take q letter (w.node q)).posts
    taken letter rest front =
        let n = w.node q in
        let stamp = take_stamp q n letter in
        let m = take stamp letter (n.set letter.set) in
        let paths = paths_of script w s some h in
        elim (cases_eq letter.set s) [
          | inl e ↦
              let own = take_own script.nodes s p q stamp (state_at w s) w.mail (w.went s) letter rest refl paths is_there.sender is_there.receiver front e in
              let same : (put n.set letter.set m.state) s ≡ m.state = ap (put n.set letter.set m.state) (sym e) ∙ put-same n.set letter.set m.state in
              let at_set = subst (λ (k : ℕ). Going script.nodes s q (state_at w s) left (w.went s) (take stamp letter (n.set k)).state (take stamp letter (n.set k)).posts) (sym e) own in
              subst (λ (t : SetState). Going script.nodes s q (state_at w s) left (w.went s) t m.posts) (sym same) at_set
          | inr d ↦
              subst (λ (t : SetState). Going script.nodes s q (state_at w s) left (w.went s) t m.posts)
              (sym (put-other n.set letter.set m.state s (λ e. d (sym e))))
              (take_other script.nodes s p q stamp (state_at w s) w.mail (w.went s) letter rest (n.set letter.set) paths is_there.sender is_there.receiver front d)
        ]

    by_letters : (letters : List Letter) → w.mail p q ≡ letters → Paths script (after_made q (take_front q (w.node q) letters) (opened w q (Take p))) s
    by_letters [] e = let none : is_some_letter [] ≡ true = subst (λ (l : List Letter). is_some_letter l ≡ true) e is_there.letter in cc
    by_letters (letter ∷ rest) e = after_going script (opened w q (Take p)) s q (node_take q letter (w.node q)) (taken letter rest e)

-- each enabled move keeps the paths of a set
pub move_kept : (script : ScriptData) (w : World) (s : ℕ) → 0 < script.nodes → Paths script w s
    → (q : ℕ) (step : Step) → IsTrue (is_enabled script w q step) → Paths script (after script w q step) s
move_kept script w s some h q (Act client) enabled = act_kept script w s q client some h
move_kept script w s some h q (Take p) enabled = take_kept script w s p q some h enabled

-- Where the token of a set is.

-- a sum that isn't 0 has an item that isn't 0
sum_by-some : {X : Type 0} (f : X → ℕ) (xs : List X) → 0 < sum_by f xs → (x : X) × Contains xs x × (0 < f x)
sum_by-some f [] h = absurd (omega (arith, h))
sum_by-some f (x ∷ rest) h = elim (cases_eq (f x) 0) [
  | inl none ↦
      let found = sum_by-some f rest (omega (arith, h, none, sum_by-cons f x rest)) in
      (found.0, (suc found.1.0, omega (arith, found.1.1), found.1.2), found.2)
  | inr some ↦ (x, (0, omega arith, refl), omega (arith, some))
]

token_letter : (s : ℕ) (letter : Letter) → 0 < token_weight s letter → (letter.set ≡ s) × ((desk : Desk) × (letter.body ≡ TokenBody desk))
token_letter s letter h = by_test (letter.set == s) refl h
  where
    by_body : (body : Body) → 0 < tokens_in body → (desk : Desk) × (body ≡ TokenBody desk)
    by_body (TokenBody desk) some = (desk, refl)
    by_body (AskBody ask marked) some = absurd (omega (arith, some))
    by_body (TellBody tell) some = absurd (omega (arith, some))
    by_body (CopyBody ask) some = absurd (omega (arith, some))
    by_body (FreezeBody number modes) some = absurd (omega (arith, some))

    by_test : (own : Bool) → (letter.set == s) ≡ own → 0 < (if own then tokens_in letter.body else 0) → (letter.set ≡ s) × ((desk : Desk) × (letter.body ≡ TokenBody desk))
    by_test true e some = (eqb-true letter.set s e, by_body letter.body some)
    by_test false e some = absurd (omega (arith, some))

some_desk : (desk : Option Desk) → 0 < one_if (is_some desk) → (d : Desk) × (desk ≡ Some d)
some_desk None h = absurd (omega (arith, h))
some_desk (Some desk) h = (desk, refl)

pub desk_somewhere : DeskSomewhere
desk_somewhere script w s h = elim (cases_eq (desks script.nodes (state_at w s)) 0) [
  | inr at_node ↦
      let found = sum_below-some script.nodes (λ x. one_if (is_some (state_at w s x).desk)) (omega (arith, at_node)) in
      let here = some_desk (state_at w s found.0).desk found.2 in
      (Some found.0, here.0, (found.1, here.1))
  | inl none ↦
      let rows = sum_below-some script.nodes (λ a. sum_below script.nodes (λ b. sum_by (token_weight s) (w.mail a b))) (omega (arith, none, h.one_token)) in
      let row = sum_below-some script.nodes (λ b. sum_by (token_weight s) (w.mail rows.0 b)) rows.2 in
      let found = sum_by-some (token_weight s) (w.mail rows.0 row.0) row.2 in
      let token = token_letter s found.0 found.2 in
      (None, token.1.0, (row.0, row.1, (rows.0, found.0, rows.1, record { among = found.1; set = token.0 }, token.1.1)))
]

-- wherever the desk is or goes is the node of the last token move
desk_last : (script : ScriptData) (w : World) (s x : ℕ) → Paths script w s → (state_at w s x).desk ≡ None
    → ((epoch : ℕ) → epoch + 1 ≡ length (w.went s) → slice_index (w.went s) epoch ≡ x)
    → (place : Option ℕ) (desk : Desk) → DeskIs script w s place desk → (d : Desk) × Comes script w s x (TokenBody d)
desk_last script w s x h away last (Some t) desk is_desk =
    let on = subst (HasWay script.nodes (w.went s) t (state_at w s t).firm) is_desk.1 (h.states t is_desk.0).way in
    let same : t ≡ x = sym on.0.node ∙ last desk.epoch on.0.epoch in
    let here : (state_at w s x).desk ≡ Some desk = subst (λ (y : ℕ). (state_at w s y).desk ≡ Some desk) same is_desk.1 in
    let none : Some desk ≡ None = sym here ∙ away in cc
desk_last script w s x h away last None desk is_desk =
    let comes = is_desk.2 in
    let on_path = h.letters comes.0 is_desk.0 comes.1 comes.2 comes.3 in
    let on : DeskOnPath script.nodes (w.went s) is_desk.0 desk = subst (BodyOnPath script.nodes (w.went s) is_desk.0) comes.4 on_path.body in
    let same : is_desk.0 ≡ x = sym on.node ∙ last desk.epoch on.epoch in
    (desk, subst (λ (y : ℕ). Comes script w s y (TokenBody desk)) same comes)

pub token_comes : TokenComes
token_comes script w s x h below away me =
    let state = h.states x below in
    let known = subst (HasWay script.nodes (w.went s) x (state_at w s x).firm) away state.way in
    let at_link : slice_index (w.went s) (state_at w s x).firm.epoch ≡ x = state.link.node ∙ me in
    let at_end : (state_at w s x).firm.epoch + 1 ≡ length (w.went s) = elim (known (state_at w s x).firm.epoch state.link.epoch at_link) [
      | inl before ↦ absurd (omega (arith, before))
      | inr last ↦ last
    ] in
    let somewhere = desk_somewhere script w s h in
    desk_last script w s x h away
    (λ epoch e. let same : (state_at w s x).firm.epoch ≡ epoch = omega (arith, e, at_end) in
    subst (λ (k : ℕ). slice_index (w.went s) k ≡ x) same at_link)
    somewhere.0 somewhere.1 somewhere.2
