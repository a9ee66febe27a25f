-- What is parked at a node is held up, or the token is on its way there; and so it is after an enabled move.
use Rattle.std.proofs.Common.{◌≡◌, ℕ, ◌<◌, inl, inr, List, [], ◌∷◌, Option, Some, None, Bool, true, false, refl, sym, ap, subst, arith, ◌∙◌, ◌⊎◌, ◌&&◌, ◌==◌, if◌then◌else◌, Contains, is_some, All, IsTrue, drop, slice_index, eq-eqb, ne_eqb}
use Rattle.std.proofs.lemmas.Bool.{cases_eq, and_from, and_left, and_right}
use Rattle.std.proofs.lemmas.List.Elements.{All-weaker, All-nil}
use Rattle.lt_modes.specs.declared.moves.Step.{Step}
use Rattle.lt_modes.specs.declared.moves.Step.TheVariants.{Act, Take}
use Rattle.lt_modes.specs.Script.{ScriptData}
use Rattle.lt_modes.specs.State.{SetState, Desk, Body, TokenBody, Letter, Parked, ParkedAsk, ParkedTell}
use Rattle.lt_modes.specs.Routing.{learn}
use Rattle.lt_modes.specs.Taking.{arrive, take_body}
use Rattle.lt_modes.specs.Sound.{SoundDesk}
use Rattle.lt_modes.specs.Fits.{numbers_of}
use Rattle.lt_spec.specs.NodeMove.{NodeState, take_stamp, IsWhole}
use Rattle.lt_spec.specs.World.{World, is_enabled, put_mail, node_move, opened, take_front, after}
use Rattle.lt_spec.specs.Facts.{state_at, Comes, DeskIs}
use Rattle.lt_model.specs.OnWay.{Between}
use Rattle.lt_model.specs.Invariant.{Paths, DeskOnPath, BodyOnPath, IsParkedFor, SetKept}
use Rattle.lt_model.proofs.Letters.{still_on_way}
use Rattle.lt_lists.proofs.Members.{contains_cases}
use Rattle.lt_lists.proofs.Puts.{put-same}
use Rattle.lt_model.proofs.PathsMove.{desk_somewhere, token_comes}
use Rattle.lt_law_invariant.specs.InvariantLaws.{IsHeldUp, HeldUp}
use Rattle.lt_law_invariant.proofs.HeldUps.{none_held}
use Rattle.lt_law_invariant.proofs.HeldUpMoves.{other_state, moves_hold_up, taken_held}
use Rattle.lt_law_invariant.proofs.OneDesk.{one_desk}

-- the token is on its way to x
abbrev pub TokenTo : ScriptData → World → ℕ → ℕ → Type 0
TokenTo script w s x = (desk : Desk) × Comes script w s x (TokenBody desk)

-- what is parked at x is held up, if the token isn't on its way there
abbrev pub HeldOrComes : ScriptData → World → ℕ → ℕ → Type 0
HeldOrComes script w s x = HeldUp x (state_at w s x) ⊎ TokenTo script w s x

-- the token is on its way to one node alone
token_to_one : (script : ScriptData) (w : World) (s x y : ℕ) (desk more : Desk) → Paths script w s → Comes script w s x (TokenBody desk)
    → Comes script w s y (TokenBody more) → x ≡ y
token_to_one script w s x y desk more paths first second =
    let a = on_path x desk first in
    let b = on_path y more second in
    let epochs : desk.epoch ≡ more.epoch = omega (arith, a.epoch, b.epoch) in
    sym a.node ∙ ap (λ (k : ℕ). slice_index (w.went s) k) epochs ∙ b.node
  where
    on_path : (q : ℕ) (d : Desk) → Comes script w s q (TokenBody d) → DeskOnPath script.nodes (w.went s) q d
    on_path q d (p, letter, under, on, says) = subst (BodyOnPath script.nodes (w.went s) q) says (paths.letters p q letter under on).body

-- the token isn't on its way where its desk is at a node
pub not_both : {A : Type 0} (script : ScriptData) (w : World) (s t : ℕ) (desk : Desk) → Paths script w s → DeskIs script w s (Some t) desk → (x : ℕ)
    → TokenTo script w s x → A
not_both script w s t desk paths here x (more, comes) = no_place (one_desk script w s paths (Some t) None desk more here (x, to comes, comes)).0
  where
    to : Comes script w s x (TokenBody more) → x < script.nodes
    to (p, letter, under, on, says) = (paths.letters p x letter under on).to

    no_place : {A : Type 0} → Some t ≡ None → A
    no_place e = cc

-- in a set that is kept
pub kept_held : (script : ScriptData) (w : World) (s x : ℕ) → SetKept script Between w s → x < script.nodes → HeldOrComes script w s x
kept_held script w s x h below = by_place (desk_somewhere script w s h.paths)
  where
    t : SetState
    t = state_at w s x

    none : (o : Option Desk) → SoundDesk (numbers_of script) false false (w.node x).clock t o → IsTrue (is_some o) → t.parked ≡ []
    none None sound here = cc
    none (Some desk) sound here = sound.0

    by_item : (TokenTo script w s x → ⊥) → (item : Parked) → IsParkedFor script w s x item → IsHeldUp x t item
    by_item away (ParkedTell tell) waits = absurd (away waits)
    by_item away (ParkedAsk ask) waits = elim waits [ inl comes ↦ absurd (away comes) | inr behind ↦ inr behind ]

    held : (TokenTo script w s x → ⊥) → HeldUp x t
    held away = record {
      none = none t.desk (h.states x below).desk;
      held = All-weaker (IsParkedFor script w s x) (IsHeldUp x t) (by_item away) t.parked (h.parked x below);
    }

    by_place : (place : Option ℕ) × (desk : Desk) × DeskIs script w s place desk → HeldOrComes script w s x
    by_place (Some r, desk, here) = inl (held (λ comes. not_both script w s r desk h.paths here x comes))
    by_place (None, desk, (y, under, comes)) = elim (cases_eq x y) [
      | inl same ↦ inr (desk, subst (λ (k : ℕ). Comes script w s k (TokenBody desk)) (sym same) comes)
      | inr other ↦ inl (held (λ more. other (token_to_one script w s x y more.0 desk h.paths more.1 comes)))
    ]

-- a letter is still there, or it is the one that is taken
front_or_still : (mail : ℕ → ℕ → List Letter) (p q a b : ℕ) (letter : Letter) → Contains (mail a b) letter
    → Contains (put_mail mail p q (drop 1 (mail p q)) a b) letter ⊎ ((b ≡ q) × (rest : List Letter) × (mail p q ≡ letter ∷ rest))
front_or_still mail p q a b letter h = elim (cases_eq a p) [
  | inr d ↦ inl (subst (λ (t : Bool). Contains (if t then drop 1 (mail p q) else mail a b) letter) (sym (and_left (a == p) (b == q) (ne_eqb a p d))) h)
  | inl e ↦ elim (cases_eq b q) [
    | inr d ↦ inl (subst (λ (t : Bool). Contains (if t then drop 1 (mail p q) else mail a b) letter) (sym (and_right (a == p) (b == q) (ne_eqb b q d))) h)
    | inl f ↦
        by_list (and_from (a == p) (b == q) (eq-eqb a p e) (eq-eqb b q f)) f (mail p q) refl
        (subst (λ (l : List Letter). Contains l letter) (λ i. mail (e i) (f i)) h)
  ]
]
  where
    by_list : (a == p && b == q) ≡ true → b ≡ q → (letters : List Letter) → mail p q ≡ letters → Contains letters letter
        → Contains (put_mail mail p q (drop 1 (mail p q)) a b) letter ⊎ ((b ≡ q) × (rest : List Letter) × (mail p q ≡ letter ∷ rest))
    by_list own f [] e c = absurd (omega (arith, c.1))
    by_list own f (front ∷ rest) e c = elim (contains_cases front letter rest c) [
      | inl same ↦ inr (f, rest, e ∙ ap (λ (l : Letter). l ∷ rest) same)
      | inr later ↦
          inl (subst (λ (t : Bool). Contains (if t then drop 1 (mail p q) else mail a b) letter) (sym own)
          (subst (λ (l : List Letter). Contains (drop 1 l) letter) (sym e) later))
    ]

-- through an enabled move
pub held_or_comes_kept : (script : ScriptData) (w : World) (s q : ℕ) (step : Step) (x : ℕ) → IsWhole script → SetKept script Between w s → x < script.nodes
    → IsTrue (is_enabled script w q step) → HeldOrComes script (after script w q step) s x
held_or_comes_kept script w s q step x whole h below enabled = by_held (kept_held script w s x h below)
  where
    by_step : (step : Step) → TokenTo script w s x → HeldOrComes script (after script w q step) s x
    by_step (Act client) (desk, (a, letter, under, on, says)) =
        inr (desk, (a, letter, under, record { among = still_on_way q (node_move script w q (Act client)).posts w.mail a x letter on.among; set = on.set }, says))
    by_step (Take p) (desk, (a, letter, under, on, says)) = elim (front_or_still w.mail p q a x letter on.among) [
      | inl still ↦
          inr (
            desk,
            (
              a,
              letter,
              under,
              record {
                among = still_on_way q (node_move script w q (Take p)).posts
                    (opened w q (Take p)).mail a x letter still;
                set = on.set;
              },
              says,
            ),
          )
      | inr front ↦
          let n = w.node q in
          inl (subst (λ (y : ℕ). HeldUp y (state_at (after script w q (Take p)) s y)) (sym front.0)
          (subst (λ (k : NodeState). HeldUp q (k.set s)) (sym (put-same w.node q (take_front q n (w.mail p q)).node))
          (subst (λ (l : List Letter). HeldUp q ((take_front q n l).node.set s)) (sym front.2)
          (taken_held s q letter n on.set (none_held q (arrive (take_stamp q n letter) letter (n.set s)).state
          (ap (λ (b : Body). (take_body letter.set (take_stamp q n letter) b (learn letter.link (n.set s))).state.parked) says))))))
    ]

    by_held : HeldOrComes script w s x → HeldOrComes script (after script w q step) s x
    by_held (inr comes) = by_step step comes
    by_held (inl held) = inl (elim (cases_eq x q) [
      | inl e ↦ subst (λ (y : ℕ). HeldUp y (state_at (after script w q step) s y)) (sym e)
          (moves_hold_up script w s q step whole h (subst (λ (y : ℕ). HeldUp y (state_at w s y)) e held) enabled)
      | inr d ↦ subst (HeldUp x) (sym (other_state script w s q step x d)) held
    ])

-- so what is parked waits as it should
pub parked_for : (script : ScriptData) (w : World) (s x : ℕ) → Paths script w s → x < script.nodes → HeldOrComes script w s x
    → All (IsParkedFor script w s x) (state_at w s x).parked
parked_for script w s x paths below (inr comes) = λ k d within. by_item comes _
  where
    by_item : TokenTo script w s x → (item : Parked) → IsParkedFor script w s x item
    by_item comes (ParkedTell tell) = comes
    by_item comes (ParkedAsk ask) = inl comes
parked_for script w s x paths below (inl h) = by_desk (state_at w s x).desk refl
  where
    by_item : (state_at w s x).desk ≡ None → (item : Parked) → IsHeldUp x (state_at w s x) item → IsParkedFor script w s x item
    by_item away (ParkedTell tell) me = token_comes script w s x paths below away me
    by_item away (ParkedAsk ask) waits = elim waits [
      | inl me ↦ inl (token_comes script w s x paths below away me)
      | inr behind ↦ inr behind
    ]

    by_desk : (o : Option Desk) → (state_at w s x).desk ≡ o → All (IsParkedFor script w s x) (state_at w s x).parked
    by_desk (Some desk) here = subst (λ (l : List Parked). All (IsParkedFor script w s x) l) (sym (h.none (ap is_some here))) (All-nil (IsParkedFor script w s x))
    by_desk None away = All-weaker (IsHeldUp x (state_at w s x)) (IsParkedFor script w s x) (by_item away) (state_at w s x).parked h.held

-- and nothing is parked where the desk is
pub none_parked : (script : ScriptData) (w : World) (s x : ℕ) (desk : Desk) → Paths script w s → x < script.nodes → (state_at w s x).desk ≡ Some desk
    → HeldOrComes script w s x → (state_at w s x).parked ≡ []
none_parked script w s x desk paths below here (inl h) = h.none (ap is_some here)
none_parked script w s x desk paths below here (inr comes) = not_both script w s x desk paths (below, here) x comes
