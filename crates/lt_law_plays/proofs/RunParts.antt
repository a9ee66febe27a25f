-- A move of a play, as a move of the world.
use Rattle.std.proofs.Common.{◌≡◌, ℕ, List, [], ◌∷◌, ◌++◌, length, Bool, true, false, refl, sym, ap, subst, ◌∙◌, inl, inr, ◌&&◌, ◌==◌, not, nat_lt, if◌then◌else◌, IsTrue, filter_map, drop, filter, eqb-true, eq-eqb, ne_eqb, append-nil, append_assoc}
use Rattle.std.proofs.lemmas.Bool.{and_from, and_parts, cases_eq}
use Rattle.lt_modes.specs.declared.moves.Step.TheVariants.{Act, Take}
use Rattle.lt_modes.specs.Script.{ScriptData}
use Rattle.lt_modes.specs.State.{Letter, Post}
use Rattle.lt_modes.specs.declared.moves.Step.{Step}
use Rattle.lt_lists.specs.Below.{put}
use Rattle.lt_lists.proofs.Puts.{put-same, put-other}
use Rattle.lt_spec.specs.World.{Logged, World, token_to, is_some_letter, is_enabled, take_front, front_stamp, put_mail, logged, after_made, after, start, after_run, IsRunFrom, is_of_node}
use Rattle.lt_spec.specs.NodeMove.{home, has_command, node_waits, NodeState, is_free_at}
use Rattle.lt_spec.specs.Plays.{Cause, OfClient, OfLetter, can_make_move, made_of, cause_step, logged_of, used_by, letters_for, Plays}
use Rattle.lt_merge.proofs.MergedLists.{filter_yes, filter_no}
use Rattle.lt_law_plays.proofs.PlayLemmas.{IsFromOther, from_other, plays_same}
use Rattle.lt_law_plays.specs.MergeLaws.{RunsArePlays}

-- what a move needs of the world: the letter that it takes is in front
abbrev pub IsFront : World → ℕ → Cause → Type 0
IsFront w q (OfClient client) = Unit {0}
IsFront w q (OfLetter p letter) = (others : List Letter) × (w.mail p q ≡ letter ∷ others)

-- the letters from a to b that the move of q takes away, and those that it adds
abbrev pub gone : ℕ → Cause → ℕ → ℕ → List Letter
gone q cause a b = if b == q then used_by cause a else []

abbrev pub added : ℕ → List Post → ℕ → ℕ → List Letter
added q posts a b = if a == q then letters_for b posts else []

-- the move of the play is a move of the world
pub record IsStep (script : ScriptData) (w : World) (q : ℕ) (cause : Cause) (later : World) : Type 0 where
  pub enabled : IsTrue (is_enabled script w q (cause_step cause))
  pub logged : logged_of script q (w.node q) cause ≡ logged script w q (cause_step cause)
  pub node : (x : ℕ) → later.node x ≡ put w.node q (made_of script q (w.node q) cause).node x
  pub mail : (a b : ℕ) → (mid : List Letter) × (w.mail a b ≡ gone q cause a b ++ mid)
      × (later.mail a b ≡ mid ++ added q (made_of script q (w.node q) cause).posts a b)
  pub went : (s : ℕ) → later.went s ≡ w.went s ++ filter_map (token_to s) (made_of script q (w.node q) cause).posts

client_enabled : (script : ScriptData) (w : World) (q client : ℕ) → IsTrue (can_make_move script q (w.node q) (OfClient client)) → IsTrue (is_enabled script w q (Act client))
client_enabled script w q client can =
    let runs : ℕ → Bool = λ x. is_free_at script (w.node x) client && has_command script (w.node x) client in
    let first = and_parts (nat_lt client (length script.clients)) (home script client == q && runs q) can in
    let second = and_parts (home script client == q) (runs q) first.1 in
    and_from (nat_lt client (length script.clients)) (home script client == q && runs (home script client)) first.0
    (and_from (home script client == q) (runs (home script client)) second.0
    (subst (λ (x : ℕ). runs x ≡ true) (sym (eqb-true (home script client) q second.0)) second.1))

one_less : (taker sender : Bool) (letter : Letter) (mail others : List Letter) → (sender ≡ true → taker ≡ true → mail ≡ letter ∷ others)
    → mail ≡ (if taker then (if sender then letter ∷ [] else []) else []) ++ (if sender && taker then others else mail)
one_less true true letter mail others front = front refl refl
one_less true false letter mail others front = refl
one_less false true letter mail others front = refl
one_less false false letter mail others front = refl

-- the entry and the world of a take of the front one of these letters
abbrev entry_with : World → ℕ → ℕ → List Letter → Logged
entry_with w q p letters = record {
  made = record { stamp = front_stamp q (w.node q) letters; step = Take p };
  events = (take_front q (w.node q) letters).events;
}

abbrev world_with : World → ℕ → ℕ → List Letter → World
world_with w q p letters = after_made q (take_front q (w.node q) letters) (record w { mail = put_mail w.mail p q (drop 1 letters) })

other : (script : ScriptData) (w : World) (q p : ℕ) (letter : Letter) → IsTrue (can_make_move script q (w.node q) (OfLetter p letter)) → IsFromOther script p q
other script w q p letter can = from_other script p q (w.node q) letter can

pub is_step : (script : ScriptData) (w : World) (q : ℕ) (cause : Cause) → IsTrue (can_make_move script q (w.node q) cause) → IsFront w q cause
    → IsStep script w q cause (after script w q (cause_step cause))
is_step script w q (OfClient client) can front = record {
  enabled = client_enabled script w q client can;
  logged = refl;
  node = λ x. refl;
  mail = λ a b. (w.mail a b, nothing_gone (b == q) (w.mail a b), refl);
  went = λ s. refl;
}
  where
    nothing_gone : (t : Bool) (letters : List Letter) → letters ≡ (if t then [] else []) ++ letters
    nothing_gone true letters = refl
    nothing_gone false letters = refl
is_step script w q (OfLetter p letter) can front = record {
  enabled = and_from (nat_lt p script.nodes) _ (other script w q p letter can).sender (and_from (nat_lt q script.nodes) _ (other script w q p letter can).receiver
      (and_from (not (p == q)) (is_some_letter (w.mail p q)) (other script w q p letter can).other (subst (λ letters. is_some_letter letters ≡ true) (sym front.1) refl)));
  logged = subst (λ letters. logged_of script q (w.node q) (OfLetter p letter) ≡ entry_with w q p letters) (sym front.1) refl;
  node = λ x. subst (λ letters. (world_with w q p letters).node x ≡ put w.node q (made_of script q (w.node q) (OfLetter p letter)).node x) (sym front.1) refl;
  mail = λ a b. (
    put_mail w.mail p q front.0 a b,
    one_less (b == q) (a == p) letter (w.mail a b) front.0
        (λ sender taker. ap (λ x. w.mail x b) (eqb-true a p sender) ∙ (ap (w.mail p) (eqb-true b q taker) ∙ front.1)),
    subst (λ letters. (world_with w q p letters).mail a b ≡ put_mail w.mail p q front.0 a b ++ added q (made_of script q (w.node q) (OfLetter p letter)).posts a b) (sym front.1) refl,
  );
  went = λ s. subst (λ letters. (world_with w q p letters).went s ≡ w.went s ++ filter_map (token_to s) (made_of script q (w.node q) (OfLetter p letter)).posts) (sym front.1) refl;
}

-- What each node logs in a run is a play.

-- an enabled step has a cause
record HasCause (script : ScriptData) (w : World) (q : ℕ) (step : Step) : Type 0 where
  cause : Cause
  is_step : cause_step cause ≡ step
  can : IsTrue (can_make_move script q (w.node q) cause)
  front : IsFront w q cause

has_cause : (script : ScriptData) (w : World) (q : ℕ) (step : Step) → IsTrue (is_enabled script w q step) → HasCause script w q step
has_cause script w q (Act client) enabled =
    let runs : ℕ → Bool = λ x. is_free_at script (w.node x) client && has_command script (w.node x) client in
    let first = and_parts (nat_lt client (length script.clients)) (home script client == q && runs (home script client)) enabled in
    let second = and_parts (home script client == q) (runs (home script client)) first.1 in
    record {
      cause = OfClient client;
      is_step = refl;
      can = and_from (nat_lt client (length script.clients)) (home script client == q && runs q) first.0
          (and_from (home script client == q) (runs q) second.0 (subst (λ (x : ℕ). runs x ≡ true) (eqb-true (home script client) q second.0) second.1));
      front = tt;
    }
has_cause script w q (Take p) enabled =
    let first = and_parts (nat_lt p script.nodes) _ enabled in
    let second = and_parts (nat_lt q script.nodes) _ first.1 in
    let third = and_parts (not (p == q)) (is_some_letter (w.mail p q)) second.1 in
    by_letters (w.mail p q) refl third.1 (and_from (nat_lt p script.nodes) (nat_lt q script.nodes && not (p == q)) first.0
    (and_from (nat_lt q script.nodes) (not (p == q)) second.0 third.0))
  where
    by_letters : (letters : List Letter) → w.mail p q ≡ letters → is_some_letter letters ≡ true
        → nat_lt p script.nodes && (nat_lt q script.nodes && not (p == q)) ≡ true → HasCause script w q (Take p)
    by_letters [] e some can = cc
    by_letters (letter ∷ others) e some can = record { cause = OfLetter p letter; is_step = refl; can = can; front = (others, e) }

-- the parts of the nodes in a run from this world
record HasParts (script : ScriptData) (w : World) (run : List Logged) (final : World) : Type 0 where
  used : ℕ → ℕ → List Letter
  sent : ℕ → ℕ → List Letter
  plays : (x : ℕ) → Plays script x (w.node x) (filter (is_of_node x) run) (used x) (sent x) (final.node x)
  letters : (p q : ℕ) → w.mail p q ++ sent p q ≡ used q p ++ final.mail p q

-- in front of the list of node q
abbrev in_front : (ℕ → ℕ → List Letter) → ℕ → (ℕ → List Letter) → ℕ → ℕ → List Letter
in_front f q first = put f q (λ a. first a ++ f q a)

in_front-at : (f : ℕ → ℕ → List Letter) (q : ℕ) (first : ℕ → List Letter) (a : ℕ) → in_front f q first q a ≡ first a ++ f q a
in_front-at f q first a = ap (λ (g : ℕ → List Letter). g a) (put-same f q (λ c. first c ++ f q c))

in_front-splits : (f : ℕ → ℕ → List Letter) (q : ℕ) (first : ℕ → List Letter) (b a : ℕ) → in_front f q first b a ≡ (if b == q then first a else []) ++ f b a
in_front-splits f q first b a = by_test (b == q) (λ e. ap (λ y. f y a) (sym (eqb-true b q e)))
  where
    by_test : (t : Bool) → (t ≡ true → f q a ≡ f b a) → (if t then (λ c. first c ++ f q c) else f b) a ≡ (if t then first a else []) ++ f b a
    by_test true e = ap (λ letters. first a ++ letters) (e refl)
    by_test false e = refl

rejoin : (u v mid sent used final : List Letter) → (mid ++ v) ++ sent ≡ used ++ final → (u ++ mid) ++ (v ++ sent) ≡ (u ++ used) ++ final
rejoin u v mid sent used final h =
    append_assoc u mid (v ++ sent) ∙ (ap (λ letters. u ++ letters) (sym (append_assoc mid v sent) ∙ h) ∙ sym (append_assoc u used final))

-- first the move with this cause, and then the others
parts_first : (script : ScriptData) (w : World) (q : ℕ) (cause : Cause) (run : List Logged) (final : World) → IsTrue (can_make_move script q (w.node q) cause)
    → IsStep script w q cause (after script w q (cause_step cause)) → HasParts script (after script w q (cause_step cause)) run final
    → HasParts script w (logged_of script q (w.node q) cause ∷ run) final
parts_first script w q cause run final can step more = record {
  used = in_front more.used q (used_by cause);
  sent = in_front more.sent q (λ b. letters_for b (made_of script q (w.node q) cause).posts);
  plays = λ x. elim (cases_eq x q) [
    | inl e ↦ subst (λ (y : ℕ). Plays script y (w.node y) (filter (is_of_node y) ((logged_of script q (w.node q) cause) ∷ run)) (in_front more.used q (used_by cause) y)
        (in_front more.sent q (λ b. letters_for b (made_of script q (w.node q) cause).posts) y) (final.node y)) (sym e) own
    | inr d ↦ subst (λ (log : List Logged). Plays script x (w.node x) log (in_front more.used q (used_by cause) x)
        (in_front more.sent q (λ b. letters_for b (made_of script q (w.node q) cause).posts) x) (final.node x))
        (sym (filter_no (is_of_node x) (logged_of script q (w.node q) cause) run (ne_eqb q x (λ e. d (sym e)))))
        (plays_same script x (filter (is_of_node x) run) (w.node x) (final.node x) (more.used x) (more.sent x) _ _
        (λ a. ap (λ (g : ℕ → List Letter). g a) (put-other more.used q (λ c. used_by cause c ++ more.used q c) x d))
        (λ b. ap (λ (g : ℕ → List Letter). g b) (put-other more.sent q (λ c. letters_for c (made_of script q (w.node q) cause).posts ++ more.sent q c) x d))
        (subst (λ (n : NodeState). Plays script x n (filter (is_of_node x) run) (more.used x) (more.sent x) (final.node x))
        (step.node x ∙ put-other w.node q (made_of script q (w.node q) cause).node x d) (more.plays x)))
  ];
  letters = λ a b.
      let parts = step.mail a b in
      let old : (gone q cause a b ++ parts.0) ++ (added q (made_of script q (w.node q) cause).posts a b ++ more.sent a b) ≡ (gone q cause a b ++ more.used b a) ++ final.mail a b =
      rejoin (gone q cause a b) (added q (made_of script q (w.node q) cause).posts a b) parts.0 (more.sent a b) (more.used b a) (final.mail a b)
      (ap (λ letters. letters ++ more.sent a b) (sym parts.2) ∙ more.letters a b) in
      ap (λ letters. letters ++ in_front more.sent q (λ r. letters_for r (made_of script q (w.node q) cause).posts) a b) parts.1
      ∙ (ap (λ letters. (gone q cause a b ++ parts.0) ++ letters) (in_front-splits more.sent q (λ r. letters_for r (made_of script q (w.node q) cause).posts) a b)
      ∙ (old ∙ ap (λ letters. letters ++ final.mail a b) (sym (in_front-splits more.used q (used_by cause) b a))));
}
  where
    own : Plays script q (w.node q) (filter (is_of_node q) (logged_of script q (w.node q) cause ∷ run)) (in_front more.used q (used_by cause) q)
        (in_front more.sent q (λ b. letters_for b (made_of script q (w.node q) cause).posts) q) (final.node q)
    own =
        let entry = logged_of script q (w.node q) cause in
        let made = made_of script q (w.node q) cause in
        subst (λ (log : List Logged). Plays script q (w.node q) log (in_front more.used q (used_by cause) q) (in_front more.sent q (λ b. letters_for b made.posts) q) (final.node q))
        (sym (filter_yes (is_of_node q) entry run (eq-eqb q q refl))) (record {
          cause = cause;
          can = can;
          logged = refl;
          left = more.used q;
          later = more.sent q;
          uses = in_front-at more.used q (used_by cause);
          sends = in_front-at more.sent q (λ b. letters_for b made.posts);
          goes_on = subst (λ (n : NodeState). Plays script q n (filter (is_of_node q) run) (more.used q) (more.sent q) (final.node q))
              (step.node q ∙ put-same w.node q made.node) (more.plays q);
        })

parts_in_run : (script : ScriptData) (run : List Logged) (w : World) → IsRunFrom script w run → HasParts script w run (after_run script w run)
parts_in_run script [] w h = record {
  used = λ x a. [];
  sent = λ x b. [];
  plays = λ x. ((λ a. refl), (λ b. refl), refl);
  letters = λ p q. append-nil (w.mail p q);
}
parts_in_run script (entry ∷ run) w h =
    let q = entry.made.stamp.node in
    let by = has_cause script w q entry.made.step h.0.enabled in
    let step = is_step script w q by.cause by.can by.front in
    let later : HasParts script (after script w q (cause_step by.cause)) run (after_run script (after script w q entry.made.step) run) =
    subst (λ (s : Step). HasParts script (after script w q s) run (after_run script (after script w q entry.made.step) run)) (sym by.is_step)
    (parts_in_run script run (after script w q entry.made.step) h.1) in
    let is_entry : entry ≡ logged_of script q (w.node q) by.cause = h.0.made ∙ (ap (λ (s : Step). logged script w q s) (sym by.is_step) ∙ sym step.logged) in
    subst (λ (e : Logged). HasParts script w (e ∷ run) (after_run script (after script w q entry.made.step) run)) (sym is_entry)
    (parts_first script w q by.cause run (after_run script (after script w q entry.made.step) run) by.can step later)

pub runs_are_plays : RunsArePlays
runs_are_plays script run h beyond =
    let parts = parts_in_run script run (start script) h in
    (parts.used, parts.sent, record { plays = parts.plays; letters = parts.letters; beyond = beyond })
