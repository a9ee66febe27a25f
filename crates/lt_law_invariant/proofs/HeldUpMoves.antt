-- Each enabled move keeps the ledgers of each set that is kept; and locks on such a set agree.
use Rattle.std.proofs.Common.{◌≡◌, ◌≢◌, ℕ, ◌<◌, inl, inr, List, [], ◌∷◌, Option, true, refl, sym, subst, arith, ◌+◌, Some, None, false, ap, ◌∙◌, Contains, All, ◌⊎◌, is_some, IsTrue, nat_lt, le-ltb}
use Rattle.std.proofs.lemmas.Bool.{cases_eq, false≢true}
use Rattle.std.proofs.lemmas.List.Elements.{All-from_recursion, recursion_from_All}
use Rattle.lt_modes.specs.declared.moves.Step.{Step}
use Rattle.lt_modes.specs.declared.moves.Step.TheVariants.{Act, Take}
use Rattle.lt_modes.specs.Script.{ScriptData}
use Rattle.lt_modes.specs.State.{Letter, Parked, ParkedAsk, ParkedTell, SetState, Desk, CopyBody, without}
use Rattle.lt_modes.specs.Fits.{numbers_of}
use Rattle.lt_modes.specs.Sound.{SoundParked}
use Rattle.lt_modes.specs.declared.ask.Ask.{Ask}
use Rattle.lt_modes.specs.Modes.{excludes_itself}
use Rattle.lt_modes.specs.Taking.{take as take_letter, arrive}
use Rattle.lt_lists.proofs.AllLemmas.{all_weaker}
use Rattle.lt_lists.specs.Below.{put}
use Rattle.lt_lists.proofs.Puts.{put-same, put-other}
use Rattle.lt_spec.specs.NodeMove.{next_command, node_take, NodeState, act_stamp, take_stamp, at_clock, one_made, node_act}
use Rattle.lt_spec.specs.World.{World, is_some_letter, opened, take_front, after_made, after}
use Rattle.lt_spec.specs.Facts.{state_at, OnWay}
use Rattle.lt_spec.specs.Promised.{IsAside, sets_of_command, sets_of_front}
use Rattle.lt_law_accounts.proofs.AccountPlay.{any_order}
use Rattle.lt_law_accounts.proofs.AccountFacts.{same_by_stamp}
use Rattle.lt_law_accounts.proofs.Asks.{without_kept}
use Rattle.lt_model.specs.OnWay.{Between, account_of, IsCopyTo}
use Rattle.lt_model.specs.Invariant.{Paths, DeskKept, BodyKept, HasWay}
use Rattle.lt_model.specs.AccountRules.{IsParkedOf}
use Rattle.lt_model.proofs.ExactTry.{others_stay}
use Rattle.lt_model.proofs.ClocksGrow.{clocks_grow}
use Rattle.lt_model.proofs.PathsMove.{desk_somewhere, has_mail_parts, move_kept, kept_stands}
use Rattle.lt_model.proofs.HomesMove.{maker}
use Rattle.lt_model.proofs.NodeEffects.{once_or_aside, IsOfSet, obey_by_effects}
use Rattle.lt_model.proofs.BeginsMove.{desk_same, ledger_goes}
use Rattle.lt_model.proofs.Effects.{take_by_effects}
use Rattle.lt_model.proofs.StandingBegins.{copies_are_on_way}
use Rattle.lt_law_invariant.specs.InvariantLaws.{LedgersKept, MovesKeepLedgers, AllLocksAgree, HeldUp, MovesHoldUp}
use Rattle.lt_law_invariant.proofs.Seen.{all_kept}
use Rattle.lt_law_invariant.proofs.Ledgers.{Ended}
use Rattle.lt_law_invariant.proofs.OneDesk.{one_desk}
use Rattle.lt_law_invariant.proofs.TakeMove.{act_ended, take_ended}
use Rattle.lt_law_invariant.proofs.HeldUps.{held_up, held_ends, held_moves, arrive_held}

-- the ledgers once a move has ended
ledgers_once_ended : (script : ScriptData) (w : World) (s : ℕ) → Paths script w s → Ended script w s → LedgersKept script w s
ledgers_once_ended script w s paths e place desk there =
    let same = one_desk script w s paths e.place place e.desk desk e.there there in
    subst (λ (p : Option ℕ). DeskKept script Between w s p desk) same.0 (subst (DeskKept script Between w s e.place) same.1 e.kept)

-- a move that doesn't touch the set
ledgers_aside : (script : ScriptData) (w : World) (s q : ℕ) (step : Step) → LedgersKept script w s → IsAside script w q step s
    → LedgersKept script (after script w q step) s
ledgers_aside script w s q step known aside place desk there =
    let same = others_stay script w s q step aside in
    ledger_goes script Between w (after script w q step) s place desk same (λ x. clocks_grow script w q step x)
    (known place desk (desk_same script w (after script w q step) s place desk same there))

-- a parked tell of a kept set is of a node of the script
parked_named : (script : ScriptData) (item : Parked) → SoundParked (numbers_of script) item → IsParkedOf script.nodes item
parked_named script (ParkedAsk ask) h = tt
parked_named script (ParkedTell tell) h = h

pub moves_keep_ledgers : MovesKeepLedgers
moves_keep_ledgers script w s q (Act client) whole h enabled =
    let own = maker script w q client enabled in
    let below = subst (λ (x : ℕ). x < script.nodes) own.own (whole.homes client own.known) in
    elim (once_or_aside script s (next_command script (w.node q) client)) [
      | inl once ↦ ledgers_once_ended script (after script w q (Act client)) s (move_kept script w s whole.some_node h.paths q (Act client) enabled)
          (act_ended script w s q client whole.some_node h.paths (kept_stands script w s h) h.known below once)
      | inr aside ↦ ledgers_aside script w s q (Act client) h.known
          (All-from_recursion (λ set. set ≢ s) (sets_of_command script (next_command script (w.node q) client)) aside)
    ]
moves_keep_ledgers script w s q (Take p) whole h enabled =
    let is_there = has_mail_parts script w p q enabled in
    by_letters (w.mail p q) refl is_there.letter is_there.sender is_there.receiver
  where
    taken : (letter : Letter) (rest : List Letter) → w.mail p q ≡ letter ∷ rest → letter.set ≡ s → p < script.nodes → q < script.nodes
        → Ended script (after_made q (node_take q letter (w.node q)) (opened w q (Take p))) s
    taken letter rest front set from below =
        let on : OnWay w s p q letter = record { among = subst (λ (l : List Letter). Contains l letter) (sym front) (0, omega arith, refl); set = set } in
        take_ended script w s p q letter rest whole.some_node h.paths (kept_stands script w s h) h.known from below front set
        (λ tell says. (subst (BodyKept script letter.stamp.clock) says (h.letters p q letter from below on).body).1)
        (all_weaker (SoundParked (numbers_of script)) (IsParkedOf script.nodes) (parked_named script) (state_at w s q).parked
        (recursion_from_All (SoundParked (numbers_of script)) (state_at w s q).parked (h.states q below).parked))

    by_letters : (letters : List Letter) → w.mail p q ≡ letters → is_some_letter letters ≡ true → p < script.nodes → q < script.nodes
        → LedgersKept script (after script w q (Take p)) s
    by_letters [] e none from below = cc
    by_letters (letter ∷ rest) e there from below = elim (cases_eq letter.set s) [
      | inl own ↦ ledgers_once_ended script (after script w q (Take p)) s (move_kept script w s whole.some_node h.paths q (Take p) enabled)
          (subst (λ (l : List Letter). Ended script (after_made q (take_front q (w.node q) l) (opened w q (Take p))) s) (sym e) (taken letter rest e own from below))
      | inr other ↦ ledgers_aside script w s q (Take p) h.known
          (subst (λ (l : List Letter). All (λ set. set ≢ s) (sets_of_front l)) (sym e) (All-from_recursion (λ set. set ≢ s) (letter.set ∷ []) (other, tt)))
    ]

-- where a set is kept its locks agree
pub locks_agree : AllLocksAgree
locks_agree script w s h x y a b hx hy here there differ =
    let found = desk_somewhere script w s h.paths in
    let kept = h.known found.0 found.1 found.2 in
    (any_order script.nodes (account_of script Between w s found.0 found.1) [] (all_kept script Between w s found.0 found.1 kept) tt).1 x y a b hx hy here there differ

-- A move leaves what is parked at its node held up.

held_of_set : (s q : ℕ) → IsOfSet s (held_up q)
held_of_set s q t posts more others h = h

-- a move leaves the states of other nodes
pub other_state : (script : ScriptData) (w : World) (s q : ℕ) (step : Step) (x : ℕ) → x ≢ q → state_at (after script w q step) s x ≡ state_at w s x
other_state script w s q (Act client) x d = ap (λ (k : NodeState). k.set s) (put-other w.node q (node_act script q client (w.node q)).node x d)
other_state script w s q (Take p) x d = ap (λ (k : NodeState). k.set s) (put-other w.node q (take_front q (w.node q) (w.mail p q)).node x d)

-- no copy is for a taking mode
copy_not_taking : (script : ScriptData) (w : World) (s q : ℕ) (ask : Ask) → Paths script w s → LedgersKept script w s → q < script.nodes
    → IsCopyTo script w s q ask → excludes_itself ask.mode ≡ false
copy_not_taking script w s q ask paths known below comes =
    let found = desk_somewhere script w s paths in
    let copy = (copies_are_on_way script w s q ask).1 comes in
    ((known found.0 found.1 found.2).accounts q below).clear.copies_clear ask ask copy copy

-- a node without the desk that its own firm link names learns no more
settled : (script : ScriptData) (w : World) (s p q : ℕ) (letter : Letter) → Paths script w s → p < script.nodes → q < script.nodes
    → OnWay w s p q letter → (state_at w s q).firm.node ≡ q
    → IsTrue (is_some (state_at w s q).desk) ⊎ (nat_lt (state_at w s q).firm.epoch letter.link.epoch ≡ false)
settled script w s p q letter paths from below on me = by_desk (state_at w s q).desk (paths.states q below).way
  where
    t : SetState
    t = state_at w s q

    by_desk : (o : Option Desk) → HasWay script.nodes (w.went s) q t.firm o → IsTrue (is_some o) ⊎ (nat_lt t.firm.epoch letter.link.epoch ≡ false)
    by_desk (Some desk) way = inl refl
    by_desk None way =
        let own = (paths.states q below).link in
        let theirs = (paths.letters p q letter from on).link in
        inr (le-ltb t.firm.epoch letter.link.epoch (elim (way t.firm.epoch own.epoch (own.node ∙ me)) [
          | inl before ↦ absurd (omega (arith, before))
          | inr last ↦ omega (arith, last, theirs.epoch)
        ]))

-- the mover takes a letter that leaves what is parked held up as it arrives
pub taken_held : (s q : ℕ) (letter : Letter) (n : NodeState) → letter.set ≡ s → HeldUp q (arrive (take_stamp q n letter) letter (n.set s)).state
    → HeldUp q ((node_take q letter n).node.set s)
taken_held s q letter n set arrived =
    let stamp = take_stamp q n letter in
    let t = n.set s in
    let ended = take_by_effects stamp letter (held_up q) (held_up q) (held_up q) (held_ends letter.set stamp) t [] arrived in
    let m = take_letter stamp letter (n.set letter.set) in
    let here : (node_take q letter n).node.set s ≡ (take_letter stamp letter t).state =
    ap (put n.set letter.set m.state) (sym set) ∙ put-same n.set letter.set m.state ∙ ap (λ (k : ℕ). (take_letter stamp letter (n.set k)).state) set in
    subst (HeldUp q) (sym here) ended

-- what is parked at the mover stays held up
pub moves_hold_up : MovesHoldUp
moves_hold_up script w s q (Act client) whole h held enabled =
    let n = w.node q in
    let stamp = act_stamp q n in
    let made = node_act script q client n in
    elim (once_or_aside script s (next_command script n client)) [
      | inl once ↦ subst (λ (k : NodeState). HeldUp q (k.set s)) (sym (put-same w.node q made.node))
          (obey_by_effects script s client stamp (held_up q) (held_up q) (held_of_set s q) (held_of_set s q) (held_moves s stamp) (next_command script n client)
          (one_made client (at_clock (n.clock + 1) n)) once held)
      | inr aside ↦ subst (HeldUp q)
          (sym ((others_stay script w s q (Act client) (All-from_recursion (λ set. set ≢ s) (sets_of_command script (next_command script n client)) aside)).states q)) held
    ]
moves_hold_up script w s q (Take p) whole h held enabled =
    let is_there = has_mail_parts script w p q enabled in
    by_letters (w.mail p q) refl is_there.letter is_there.sender is_there.receiver
  where
    n : NodeState
    n = w.node q

    stays : (letter : Letter) → OnWay w s p q letter → p < script.nodes → q < script.nodes → (ask : Ask) → letter.body ≡ CopyBody ask
        → (older : Ask) → Contains (n.set s).pending older
        → IsTrue (excludes_itself older.mode) → Contains (without (n.set s).pending ask.stamp) older
    stays letter on from below ask says older c taking =
        let comes : IsCopyTo script w s q ask = (p, letter, from, on, says) in
        let not_taking = copy_not_taking script w s q ask h.paths h.known below comes in
        let found = desk_somewhere script w s h.paths in
        let waits = ((h.known found.0 found.1 found.2).accounts q below).owed.waits ask ((copies_are_on_way script w s q ask).1 comes) in
        without_kept (n.set s).pending ask.stamp older c (λ e. different ask older not_taking taking
        (same_by_stamp (n.set s).pending older ask ((h.known found.0 found.1 found.2).accounts q below).clocks.apart c waits e))
      where
        different : (a b : Ask) → excludes_itself a.mode ≡ false → excludes_itself b.mode ≡ true → b ≡ a → ⊥
        different a b gentle takes same = false≢true (sym gentle ∙ ap (λ (k : Ask). excludes_itself k.mode) (sym same) ∙ takes)

    taken : (letter : Letter) (rest : List Letter) → w.mail p q ≡ letter ∷ rest → letter.set ≡ s → p < script.nodes → q < script.nodes
        → HeldUp q ((node_take q letter n).node.set s)
    taken letter rest front set from below =
        let on : OnWay w s p q letter = record { among = subst (λ (l : List Letter). Contains l letter) (sym front) (0, omega arith, refl); set = set } in
        taken_held s q letter n set (arrive_held (take_stamp q n letter) letter (n.set s) (settled script w s p q letter h.paths from below on)
        (λ ask says older c taking. stays letter on from below ask says older c taking) held)

    by_letters : (letters : List Letter) → w.mail p q ≡ letters → is_some_letter letters ≡ true → p < script.nodes → q < script.nodes
        → HeldUp q (state_at (after script w q (Take p)) s q)
    by_letters [] e none hp hq = cc
    by_letters (letter ∷ rest) e there hp hq = elim (cases_eq letter.set s) [
      | inl own ↦ subst (λ (k : NodeState). HeldUp q (k.set s)) (sym (put-same w.node q (take_front q n (w.mail p q)).node))
          (subst (λ (l : List Letter). HeldUp q ((take_front q n l).node.set s)) (sym e) (taken letter rest e own hp hq))
      | inr other ↦ subst (HeldUp q)
          (sym ((others_stay script w s q (Take p) (subst (λ (l : List Letter). All (λ set. set ≢ s) (sets_of_front l)) (sym e) (All-from_recursion (λ set. set ≢ s) (letter.set ∷ []) (other, tt)))).states q)) held
    ]
