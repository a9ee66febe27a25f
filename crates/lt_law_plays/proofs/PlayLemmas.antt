-- Plays: of one move, one after the other, and how clocks rise in them.
use Rattle.std.proofs.Common.{◌≡◌, ℕ, ◌+◌, ◌<◌, ◌≤◌, inl, inr, List, [], ◌∷◌, ◌++◌, Bool, true, refl, sym, ap, subst, arith, ◌∙◌, Option, Some, None, length, ◌&&◌, ◌==◌, not, nat_lt, IsTrue, drop, slice_get, eq-eqb, ne_eqb, ltb-true, append-nil, append_assoc, drop_at}
use Rattle.std.specs.List.{AllByRecursion}
use Rattle.std.proofs.lemmas.Bool.{cases_eq, and_parts}
use Rattle.std.proofs.lemmas.Option.{slice_get_cases, slice_get_past}
use Rattle.lt_modes.specs.declared.stamp.Stamp.{Stamp}
use Rattle.lt_modes.specs.Script.{ScriptData}
use Rattle.lt_modes.specs.State.{Letter, Post}
use Rattle.lt_modes.specs.Taking.{take}
use Rattle.lt_modes.proofs.StampOrder.{newer_by_clock}
use Rattle.lt_lists.proofs.AllLemmas.{all_append, all_weaker}
use Rattle.lt_spec.specs.World.{Logged, start}
use Rattle.lt_spec.specs.NodeMove.{NodeState, next_command, act_stamp, take_stamp, at_clock, one_made}
use Rattle.lt_spec.specs.Plays.{Cause, OfClient, OfLetter, can_make_move, made_of, stamp_of, logged_of, used_by, letters_for, Plays}
use Rattle.lt_merge.specs.Merging.{IsBefore}
use Rattle.lt_model.proofs.Letters.{letters_to-same, letters_to-other}
use Rattle.lt_model.proofs.NodeEffects.{obey-stamped}
use Rattle.lt_model.proofs.SentInMove.{take-sent}
use Rattle.lt_law_plays.specs.Merged.{OneMovePlays, PlaysJoin, PlaysGrow, PlaysRise, PlaysSendStamped, TakesNothingOfItself, TakesNothingFromBeyond, Part, part_or, part_at, JoinedArePlays}

pub one_move_plays : OneMovePlays
one_move_plays script x n cause can = record {
  cause = cause;
  can = can;
  logged = refl;
  left = λ a. [];
  later = λ b. [];
  uses = λ a. sym (append-nil (used_by cause a));
  sends = λ b. sym (append-nil (letters_for b (made_of script x n cause).posts));
  goes_on = ((λ a. refl), (λ b. refl), refl);
}

-- the letters are compared node by node
pub plays_same : (script : ScriptData) (x : ℕ) (log : List Logged) (n last : NodeState) (used sent used_too sent_too : ℕ → List Letter)
    → ((a : ℕ) → used_too a ≡ used a) → ((b : ℕ) → sent_too b ≡ sent b)
    → Plays script x n log used sent last → Plays script x n log used_too sent_too last
plays_same script x [] n last used sent used_too sent_too same_used same_sent h =
    ((λ a. same_used a ∙ h.0 a), (λ b. same_sent b ∙ h.1 b), h.2)
plays_same script x (entry ∷ rest) n last used sent used_too sent_too same_used same_sent h = record {
  cause = h.cause;
  can = h.can;
  logged = h.logged;
  left = h.left;
  later = h.later;
  uses = λ a. same_used a ∙ h.uses a;
  sends = λ b. same_sent b ∙ h.sends b;
  goes_on = h.goes_on;
}

pub plays_join : PlaysJoin
plays_join script x [] second n mid last used sent used_after sent_after used_all sent_all h after all_used all_sent =
    plays_same script x second n last used_after sent_after used_all sent_all
    (λ a. all_used a ∙ ap (λ letters. letters ++ used_after a) (h.0 a))
    (λ b. all_sent b ∙ ap (λ letters. letters ++ sent_after b) (h.1 b))
    (subst (λ (state : NodeState). Plays script x state second used_after sent_after last) (sym h.2) after)
plays_join script x (entry ∷ first) second n mid last used sent used_after sent_after used_all sent_all h after all_used all_sent = record {
  cause = h.cause;
  can = h.can;
  logged = h.logged;
  left = λ a. h.left a ++ used_after a;
  later = λ b. h.later b ++ sent_after b;
  uses = λ a. all_used a ∙ (ap (λ letters. letters ++ used_after a) (h.uses a) ∙ append_assoc (used_by h.cause a) (h.left a) (used_after a));
  sends = λ b. all_sent b ∙ (ap (λ letters. letters ++ sent_after b) (h.sends b)
      ∙ append_assoc (letters_for b (made_of script x n h.cause).posts) (h.later b) (sent_after b));
  goes_on = plays_join script x first second (made_of script x n h.cause).node mid last h.left h.later used_after sent_after
      (λ a. h.left a ++ used_after a) (λ b. h.later b ++ sent_after b) h.goes_on after (λ a. refl) (λ b. refl);
}

pub plays_grow : PlaysGrow
plays_grow script x log n mid cause used sent used_all sent_all h can all_used all_sent =
    plays_join script x log (logged_of script x mid cause ∷ []) n mid (made_of script x mid cause).node used sent (used_by cause)
    (λ b. letters_for b (made_of script x mid cause).posts) used_all sent_all h (one_move_plays script x mid cause can) all_used all_sent

-- the clock after a move is that of its stamp, and its letters have the stamp
pub record IsStampedMove (script : ScriptData) (x : ℕ) (n : NodeState) (cause : Cause) : Type 0 where
  pub node : (stamp_of x n cause).node ≡ x
  pub later : n.clock < (stamp_of x n cause).clock
  pub clock : (made_of script x n cause).node.clock ≡ (stamp_of x n cause).clock
  pub stamps : AllByRecursion (λ (post : Post). post.letter.stamp ≡ stamp_of x n cause) (made_of script x n cause).posts

pub stamped_move : (script : ScriptData) (x : ℕ) (n : NodeState) (cause : Cause) → IsStampedMove script x n cause
stamped_move script x n (OfClient client) =
    let h = obey-stamped script (act_stamp x n) client (next_command script n client) (one_made client (at_clock (n.clock + 1) n)) in
    record { node = refl; later = omega arith; clock = h.clock; stamps = h.stamps }
stamped_move script x n (OfLetter p letter) = record {
  node = refl;
  later = omega arith;
  clock = refl;
  stamps = all_weaker _ _ (λ post from. from.1) (take (take_stamp x n letter) letter (n.set letter.set)).posts
      (take-sent (take_stamp x n letter) letter (n.set letter.set));
}

-- entries of the node, at clocks from the one up to the other
abbrev pub IsIn : ℕ → ℕ → ℕ → Logged → Type 0
IsIn x low high entry = (entry.made.stamp.node ≡ x) × (low < entry.made.stamp.clock) × (entry.made.stamp.clock ≤ high)

pub clocks_rise : (script : ScriptData) (x : ℕ) (log : List Logged) (n last : NodeState) (used sent : ℕ → List Letter)
    → Plays script x n log used sent last → n.clock ≤ last.clock
clocks_rise script x [] n last used sent h = omega (arith, ap (λ (state : NodeState). state.clock) h.2)
clocks_rise script x (entry ∷ rest) n last used sent h =
    let move = stamped_move script x n h.cause in
    let more = clocks_rise script x rest (made_of script x n h.cause).node last h.left h.later h.goes_on in
    omega (arith, move.later, move.clock, more)

pub plays_rise : PlaysRise
plays_rise script x [] n last used sent h = (tt, tt)
plays_rise script x (entry ∷ rest) n last used sent h =
    let made = made_of script x n h.cause in
    let move = stamped_move script x n h.cause in
    let more = plays_rise script x rest made.node last h.left h.later h.goes_on in
    let ends = clocks_rise script x rest made.node last h.left h.later h.goes_on in
    let clock : entry.made.stamp.clock ≡ (stamp_of x n h.cause).clock = ap (λ (e : Logged). e.made.stamp.clock) h.logged in
    let node : entry.made.stamp.node ≡ x = ap (λ (e : Logged). e.made.stamp.node) h.logged ∙ move.node in (
      (all_weaker _ (IsBefore entry) (λ (e : Logged) in_rest. newer_by_clock e.made.stamp entry.made.stamp (omega (arith, in_rest.1, move.clock, clock))) rest more.1, more.0),
      (
        (node, omega (arith, move.later, clock), omega (arith, ends, move.clock, clock)),
        all_weaker (IsIn x made.node.clock last.clock) (IsIn x n.clock last.clock)
            (λ (e : Logged) in_rest. (in_rest.0, omega (arith, in_rest.1, move.later, move.clock), in_rest.2)) rest more.1,
      ),
    )

-- what holds of all letters that are sent holds of those to one node
pub all_letters_for : (P : Letter → Type 0) (b : ℕ) (posts : List Post)
    → AllByRecursion (λ (post : Post). P post.letter) posts → AllByRecursion P (letters_for b posts)
all_letters_for P b [] h = tt
all_letters_for P b (post ∷ rest) h = elim (cases_eq post.to b) [
  | inl e ↦ subst (AllByRecursion P) (sym (letters_to-same b post rest e)) (h.0, all_letters_for P b rest h.1)
  | inr d ↦ subst (AllByRecursion P) (sym (letters_to-other b post rest d)) (all_letters_for P b rest h.1)
]

-- letters of the node, at clocks from the one up to the other
abbrev pub IsSentIn : ℕ → ℕ → ℕ → Letter → Type 0
IsSentIn x low high letter = (letter.stamp.node ≡ x) × (low < letter.stamp.clock) × (letter.stamp.clock ≤ high)

pub plays_send_stamped : PlaysSendStamped
plays_send_stamped script x [] n last used sent h b = subst (AllByRecursion (IsSentIn x n.clock last.clock)) (sym (h.1 b)) tt
plays_send_stamped script x (entry ∷ rest) n last used sent h b =
    let made = made_of script x n h.cause in
    let move = stamped_move script x n h.cause in
    let more = plays_send_stamped script x rest made.node last h.left h.later h.goes_on b in
    let ends = clocks_rise script x rest made.node last h.left h.later h.goes_on in
    let P = IsSentIn x n.clock last.clock in
    let new = all_letters_for P b made.posts (all_weaker _ _ (λ (post : Post) e. (
      ap (λ (s : Stamp). s.node) e ∙ move.node,
      omega (arith, ap (λ (s : Stamp). s.clock) e, move.later),
      omega (arith, ap (λ (s : Stamp). s.clock) e, move.clock, ends),
    )) made.posts move.stamps) in
    subst (AllByRecursion P) (sym (h.sends b)) (all_append P (letters_for b made.posts) (h.later b) new
    (all_weaker (IsSentIn x made.node.clock last.clock) P
    (λ (l : Letter) in_rest. (in_rest.0, omega (arith, in_rest.1, move.later, move.clock), in_rest.2)) (h.later b) more))

-- a letter that is taken comes from another node of the script
pub record IsFromOther (script : ScriptData) (p x : ℕ) : Type 0 where
  pub sender : IsTrue (nat_lt p script.nodes)
  pub receiver : IsTrue (nat_lt x script.nodes)
  pub other : IsTrue (not (p == x))
  pub differ : p ≡ x → ⊥

pub from_other : (script : ScriptData) (p x : ℕ) (n : NodeState) (letter : Letter) → IsTrue (can_make_move script x n (OfLetter p letter)) → IsFromOther script p x
from_other script p x n letter can =
    let first = and_parts (nat_lt p script.nodes) (nat_lt x script.nodes && not (p == x)) can in
    let second = and_parts (nat_lt x script.nodes) (not (p == x)) first.1 in
    record {
      sender = first.0;
      receiver = second.0;
      other = second.1;
      differ = λ e. (subst (λ (t : Bool). not t ≡ true → ⊥) (sym (eq-eqb p x e)) (λ wrong. cc)) second.1;
    }

none_of_itself : (script : ScriptData) (x : ℕ) (n : NodeState) (cause : Cause) → IsTrue (can_make_move script x n cause) → used_by cause x ≡ []
none_of_itself script x n (OfClient client) can = refl
none_of_itself script x n (OfLetter p letter) can = rw (ne_eqb x p (λ e. (from_other script p x n letter can).differ (sym e))) refl

pub takes_nothing_of_itself : TakesNothingOfItself
takes_nothing_of_itself script x [] n last used sent h = h.0 x
takes_nothing_of_itself script x (entry ∷ rest) n last used sent h =
    h.uses x ∙ (ap (λ letters. letters ++ h.left x) (none_of_itself script x n h.cause h.can)
    ∙ takes_nothing_of_itself script x rest (made_of script x n h.cause).node last h.left h.later h.goes_on)

-- A list of plays, one for each node, as the logs of a script.

none_from_beyond : (script : ScriptData) (x a : ℕ) (n : NodeState) (cause : Cause) → IsTrue (can_make_move script x n cause) → script.nodes ≤ a → used_by cause a ≡ []
none_from_beyond script x a n (OfClient client) can beyond = refl
none_from_beyond script x a n (OfLetter p letter) can beyond =
    let below = ltb-true p script.nodes (from_other script p x n letter can).sender in
    rw (ne_eqb a p (λ e. omega (arith, beyond, below, e))) refl

pub takes_nothing_from_beyond : TakesNothingFromBeyond
takes_nothing_from_beyond script x [] n last used sent h a beyond = h.0 a
takes_nothing_from_beyond script x (entry ∷ rest) n last used sent h a beyond =
    h.uses a ∙ (ap (λ letters. letters ++ h.left a) (none_from_beyond script x a n h.cause h.can beyond)
    ∙ takes_nothing_from_beyond script x rest (made_of script x n h.cause).node last h.left h.later h.goes_on a beyond)

-- where some letters are left after those that were used, they stand after them
left_after : (sent used rest : List Letter) → sent ≡ used ++ rest → sent ≡ used ++ drop (length used) sent
left_after sent used rest e =
    subst (λ (s : List Letter). s ≡ used ++ drop (length used) s) (sym e) (ap (λ letters. used ++ letters) (sym (drop_at used rest (length used) refl)))

pub joined_are_plays : JoinedArePlays
joined_are_plays script parts h = record { plays = plays; letters = letters; beyond = beyond }
  where
    play_or : (x : ℕ) (o : Option Part) → slice_get parts x ≡ o
        → Plays script x ((start script).node x) (part_or script x o).log (part_or script x o).used (part_or script x o).sent (part_or script x o).last
    play_or x (Some part) e = h.plays x part e
    play_or x None e = ((λ a. refl), (λ b. refl), refl)

    plays : (x : ℕ) → Plays script x ((start script).node x) (part_at script parts x).log (part_at script parts x).used (part_at script parts x).sent (part_at script parts x).last
    plays x = play_or x (slice_get parts x) refl

    own : (x : ℕ) → (part_at script parts x).used x ≡ []
    own x = takes_nothing_of_itself script x (part_at script parts x).log ((start script).node x) (part_at script parts x).last (part_at script parts x).used (part_at script parts x).sent (plays x)

    past : (x : ℕ) → slice_get parts x ≡ None → script.nodes ≤ x
    past x none = elim (slice_get_cases parts x).1 [
      | inl found ↦ absurd (not_both found.0 (sym found.2 ∙ none))
      | inr above ↦ omega (arith, above.0, h.count)
    ]
      where
        not_both : (part : Part) → Some part ≡ None → ⊥
        not_both part e = absurd (cc)

    beyond : (x : ℕ) → script.nodes ≤ x → (part_at script parts x).log ≡ []
    beyond x above = ap (λ (o : Option Part). (part_or script x o).log) (slice_get_past parts x (omega (arith, above, h.count)))

    both : (p q : ℕ) (a b : Option Part) → slice_get parts p ≡ a → slice_get parts q ≡ b → (p ≡ q → ⊥)
        → (script.nodes ≤ p → (part_or script q b).used p ≡ [])
        → (rest : List Letter) × ((part_or script p a).sent q ≡ (part_or script q b).used p ++ rest)
    both p q (Some a) (Some b) is_a is_b d none = h.letters p q a b is_a is_b d
    both p q (Some a) None is_a is_b d none = (a.sent q, refl)
    both p q None b is_a is_b d none = ([], sym (ap (λ letters. letters ++ []) (none (past p is_a))))

    letters : (p q : ℕ) → (part_at script parts p).sent q ≡ (part_at script parts q).used p ++ drop (length ((part_at script parts q).used p)) ((part_at script parts p).sent q)
    letters p q = elim (cases_eq p q) [
      | inl e ↦
          let none : (part_at script parts q).used p ≡ [] = ap (part_at script parts q).used e ∙ own q in
          left_after ((part_at script parts p).sent q) ((part_at script parts q).used p) ((part_at script parts p).sent q) (sym (ap (λ l. l ++ (part_at script parts p).sent q) none))
      | inr d ↦
          let found = both p q (slice_get parts p) (slice_get parts q) refl refl d
          (λ above. takes_nothing_from_beyond script q (part_at script parts q).log ((start script).node q) (part_at script parts q).last (part_at script parts q).used (part_at script parts q).sent (plays q) p above) in
          left_after ((part_at script parts p).sent q) ((part_at script parts q).used p) found.0 found.1
    ]
