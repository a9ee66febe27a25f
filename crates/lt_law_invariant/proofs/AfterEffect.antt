-- The world after one effect of node q on a set: what states, clocks and letters it leaves, and what comes after it.
use Rattle.std.proofs.Common.{◌≡◌, ◌≢◌, ℕ, ◌<◌, inl, inr, List, [], ◌∷◌, ◌++◌, Option, None, Bool, true, false, refl, sym, ap, ◌∙◌, ◌==◌, ◌⊎◌, if◌then◌else◌, Contains, slice_index_or, filter_map, append-nil}
use Rattle.std.specs.List.{AllByRecursion, cons_option}
use Rattle.std.proofs.lemmas.Bool.{cases_eq}
use Rattle.std.proofs.lemmas.List.Elements.{filter_map-append, recursion_from_All, Contains-get_or}
use Rattle.lt_modes.specs.Script.{ScriptData}
use Rattle.lt_modes.specs.State.{SetState, Body, Letter, Made, Post}
use Rattle.lt_spec.specs.NodeMove.{NodeState, touched}
use Rattle.lt_spec.specs.World.{World, sent}
use Rattle.lt_spec.specs.Facts.{state_at, Comes}
use Rattle.lt_model.specs.OnWay.{in_set, copy_in, freeze_in, copies_to, freezes_to}
use Rattle.lt_model.proofs.Letters.{letters_to, letters_to-same, letters_to-other, all_sent, still_on_way, sent_on_way}
use Rattle.lt_lists.proofs.Puts.{put-same, put-other}
use Rattle.lt_lists.proofs.Gathering.{gather_same}
use Rattle.lt_law_invariant.specs.InvariantLaws.{after_effect}

pub state_here : (w : World) (q s : ℕ) (m : Made) → state_at (after_effect w q s m) s q ≡ m.state
state_here w q s m = ap (λ (n : NodeState). n.set s) (put-same w.node q (touched (w.node q) s m).node) ∙ put-same (w.node q).set s m.state

pub state_there : (w : World) (q s : ℕ) (m : Made) (x : ℕ) → x ≢ q → state_at (after_effect w q s m) s x ≡ state_at w s x
state_there w q s m x d = ap (λ (n : NodeState). n.set s) (put-other w.node q (touched (w.node q) s m).node x d)

-- a part of the states that the effect leaves
pub part_stays : {X : Type 0} (part : SetState → X) (w : World) (q s : ℕ) (m : Made) → part m.state ≡ part (state_at w s q)
    → (x : ℕ) → part (state_at (after_effect w q s m) s x) ≡ part (state_at w s x)
part_stays part w q s m same x = elim (cases_eq x q) [
  | inl e ↦ ap (λ (y : ℕ). part (state_at (after_effect w q s m) s y)) e ∙ ap part (state_here w q s m) ∙ same ∙ ap (λ (y : ℕ). part (state_at w s y)) (sym e)
  | inr d ↦ ap part (state_there w q s m x d)
]

pub clock_stays : (w : World) (q s : ℕ) (m : Made) (x : ℕ) → ((after_effect w q s m).node x).clock ≡ (w.node x).clock
clock_stays w q s m x = elim (cases_eq x q) [
  | inl e ↦ ap (λ (y : ℕ). ((after_effect w q s m).node y).clock) e ∙ ap (λ (n : NodeState). n.clock) (put-same w.node q (touched (w.node q) s m).node)
      ∙ ap (λ (y : ℕ). (w.node y).clock) (sym e)
  | inr d ↦ ap (λ (n : NodeState). n.clock) (put-other w.node q (touched (w.node q) s m).node x d)
]

-- a letter to b of these says nothing of this
abbrev pub SaysNone : {X : Type 0} → ℕ → (Body → Option X) → ℕ → Post → Type 0
SaysNone s read b post = post.to ≡ b → in_set s read post.letter ≡ None

-- a letter whose body says nothing of this
pub says_none : {X : Type 0} (s : ℕ) (read : Body → Option X) (letter : Letter) → read letter.body ≡ None → in_set s read letter ≡ None
says_none {X = X} s read letter none = by_set (letter.set == s)
  where
    by_set : (own : Bool) → (if own then read letter.body else None) ≡ None
    by_set true = none
    by_set false = refl

none_read : {X : Type 0} (s : ℕ) (read : Body → Option X) (b : ℕ) (posts : List Post) → AllByRecursion (SaysNone s read b) posts
    → filter_map (in_set s read) (letters_to b posts) ≡ []
none_read s read b [] h = refl
none_read s read b (post ∷ rest) h = elim (cases_eq post.to b) [
  | inl e ↦ ap (filter_map (in_set s read)) (letters_to-same b post rest e)
      ∙ ap (λ o. cons_option o (filter_map (in_set s read) (letters_to b rest))) (h.0 e) ∙ none_read s read b rest h.1
  | inr d ↦ ap (filter_map (in_set s read)) (letters_to-other b post rest d) ∙ none_read s read b rest h.1
]

-- what is read of letters to b stays
pub read_stays : {X : Type 0} (s : ℕ) (read : Body → Option X) (q : ℕ) (posts : List Post) (mail : ℕ → ℕ → List Letter) (a b : ℕ)
    → AllByRecursion (SaysNone s read b) posts → filter_map (in_set s read) (sent q posts mail a b) ≡ filter_map (in_set s read) (mail a b)
read_stays s read q posts mail a b h = by_own (a == q)
  where
    by_own : (own : Bool) → filter_map (in_set s read) (mail a b ++ (if own then letters_to b posts else [])) ≡ filter_map (in_set s read) (mail a b)
    by_own true = filter_map-append (in_set s read) (mail a b) (letters_to b posts)
        ∙ ap (λ l. filter_map (in_set s read) (mail a b) ++ l) (none_read s read b posts h) ∙ append-nil (filter_map (in_set s read) (mail a b))
    by_own false = ap (filter_map (in_set s read)) (append-nil (mail a b))

pub copies_stay : (script : ScriptData) (w : World) (q s : ℕ) (m : Made) (x : ℕ) → AllByRecursion (SaysNone s copy_in x) m.posts
    → copies_to script (after_effect w q s m) s x ≡ copies_to script w s x
copies_stay script w q s m x none = gather_same script.nodes (λ a. filter_map (in_set s copy_in) (sent q m.posts w.mail a x)) (λ a. filter_map (in_set s copy_in) (w.mail a x))
    (λ a. read_stays s copy_in q m.posts w.mail a x none)

pub freezes_stay : (script : ScriptData) (w : World) (q s : ℕ) (m : Made) (x : ℕ) → AllByRecursion (SaysNone s freeze_in x) m.posts
    → freezes_to script (after_effect w q s m) s x ≡ freezes_to script w s x
freezes_stay script w q s m x none = gather_same script.nodes (λ a. filter_map (in_set s freeze_in) (sent q m.posts w.mail a x)) (λ a. filter_map (in_set s freeze_in) (w.mail a x))
    (λ a. read_stays s freeze_in q m.posts w.mail a x none)

-- what comes after the effect came before, or was sent in it
pub comes_or_sent : (script : ScriptData) (w : World) (q s : ℕ) (m : Made) (x : ℕ) (body : Body) → Comes script (after_effect w q s m) s x body
    → Comes script w s x body ⊎ ((post : Post) × Contains m.posts post × (post.to ≡ x) × (post.letter.set ≡ s) × (post.letter.body ≡ body))
comes_or_sent script w q s m x body (p, letter, below, on, says) =
    elim (all_sent (λ a b l. Contains (w.mail a b) l ⊎ ((post : Post) × Contains m.posts post × (post.to ≡ b) × (post.letter ≡ l))) q m.posts w.mail
    (λ a b l old. inl old)
    (recursion_from_All (λ (post : Post). Contains (w.mail q post.to) post.letter ⊎ ((other : Post) × Contains m.posts other × (other.to ≡ post.to) × (other.letter ≡ post.letter))) m.posts
    (λ k d within. inr (slice_index_or m.posts k d, Contains-get_or m.posts k d within, refl, refl)))
    p x letter on.among) [
      | inl old ↦ inl (p, letter, below, record { among = old; set = on.set }, says)
      | inr new ↦ inr (new.0, new.1, new.2, ap (λ (l : Letter). l.set) new.3 ∙ on.set, ap (λ (l : Letter). l.body) new.3 ∙ says)
    ]

pub comes_still : (script : ScriptData) (w : World) (q s : ℕ) (m : Made) (x : ℕ) (body : Body) → Comes script w s x body
    → Comes script (after_effect w q s m) s x body
comes_still script w q s m x body (p, letter, below, on, says) =
    (p, letter, below, record { among = still_on_way q m.posts w.mail p x letter on.among; set = on.set }, says)

pub comes_sent : (script : ScriptData) (w : World) (q s : ℕ) (m : Made) (post : Post) → q < script.nodes → Contains m.posts post → post.letter.set ≡ s
    → Comes script (after_effect w q s m) s post.to post.letter.body
comes_sent script w q s m post below among set =
    (q, post.letter, below, record { among = sent_on_way q m.posts w.mail post among; set = set }, refl)
