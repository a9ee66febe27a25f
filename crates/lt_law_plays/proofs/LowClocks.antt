-- How far clocks get in plays, and what is enabled after them.
use Rattle.std.proofs.Common.{◌≡◌, ℕ, List, length, Bool, true, false, refl, ap, arith, ◌∙◌, take as take_first, ◌+◌, ◌<◌, subst, ◌&&◌, ◌==◌, not, nat_lt, nat_le, eqb-true, lt-ltb, le-leb, take_all}
use Rattle.std.proofs.lemmas.Bool.{and_from}
use Rattle.std.proofs.lemmas.List.Elements.{All-contains, All-from_recursion}
use Rattle.lt_modes.specs.Script.{ScriptData}
use Rattle.lt_spec.specs.World.{Logged, World, start, is_some_letter, is_runnable, world_after}
use Rattle.lt_spec.specs.NodeMove.{home, has_command, node_waits, is_free_at}
use Rattle.lt_spec.specs.Facts.{OnWay}
use Rattle.lt_model.proofs.ClocksGrow.{clocks_in_runs}
use Rattle.lt_model.proofs.HomesMove.{homes_in_runs}
use Rattle.lt_model.proofs.Runs.{paths_in_runs}
use Rattle.lt_model.proofs.TimedMove.{timed_in_runs}
use Rattle.lt_law_plays.specs.Merged.{merged}
use Rattle.lt_law_plays.specs.MergeLaws.{joined_world, EnabledIsSeen, ClocksAreCounted, LettersAreCounted, HeadsFit}
use Rattle.lt_law_plays.proofs.PlayLemmas.{IsSentIn, plays_send_stamped}
use Rattle.lt_law_plays.proofs.MergedLogs.{merged_exists, merged_has_all}
use Rattle.lt_law_plays.proofs.MergedRun.{merged_is_run, merged_ends, sent_were_on_way}

pub clocks_are_counted : ClocksAreCounted
clocks_are_counted script l h x =
    let run = merged script.nodes l.log in
    let is_merged = merged_exists script l h in
    let bound = (clocks_in_runs script run (merged_is_run script l run h is_merged) (length run)).1 x in
    let whole : take_first (length run) run ≡ run = take_all (length run) run (omega arith) in
    let clock : ((world_after script (take_first (length run) run)).node x).clock ≡ (l.last x).clock =
    ap (λ (r : List Logged). ((world_after script r).node x).clock) whole ∙ ap (λ (w : World). (w.node x).clock) (merged_ends script l run h is_merged) in
    omega (arith, bound, clock, merged_has_all script l run h is_merged)

pub letters_are_counted : LettersAreCounted
letters_are_counted script l h p q letter among =
    let sent = plays_send_stamped script p (l.log p) ((start script).node p) (l.last p) (l.used p) (l.sent p) (h.plays p) q in
    let here : IsSentIn p 0 (l.last p).clock letter = All-contains (IsSentIn p 0 (l.last p).clock) (l.sent p q) letter
    (All-from_recursion (IsSentIn p 0 (l.last p).clock) (l.sent p q) sent) among in
    omega (arith, here.2, clocks_are_counted script l h p)

pub same_runnable : (script : ScriptData) (w : World) (q client : ℕ)
    → home script client == q && is_runnable script w client ≡ (home script client == q && (is_free_at script (w.node q) client && has_command script (w.node q) client))
same_runnable script w q client = by_test (home script client == q) (λ e. eqb-true (home script client) q e)
  where
    by_test : (t : Bool) → (t ≡ true → home script client ≡ q)
        → t && is_runnable script w client ≡ (t && (is_free_at script (w.node q) client && has_command script (w.node q) client))
    by_test true e = ap (λ x. is_free_at script (w.node x) client && has_command script (w.node x) client) (e refl)
    by_test false e = refl

pub enabled_is_seen : EnabledIsSeen
enabled_is_seen script l run h is_merged = (
  (λ q client. ap (λ (t : Bool). nat_lt client (length script.clients) && t)
      (same_runnable script (world_after script run) q client
      ∙ ap (λ (w : World). home script client == q && (is_free_at script (w.node q) client && has_command script (w.node q) client)) ends)),
  (λ p q letter others front. ap (λ (t : Bool). nat_lt p script.nodes && (nat_lt q script.nodes && t))
      (ap (λ (t : Bool). not (p == q) && t) (ap is_some_letter (ap (λ (w : World). w.mail p q) ends ∙ front)) ∙ and_true (not (p == q)))),
)
  where
    ends : world_after script run ≡ joined_world script l run
    ends = merged_ends script l run h is_merged

    and_true : (t : Bool) → t && true ≡ t
    and_true true = refl
    and_true false = refl

-- What each node tests first of a letter holds of every letter that was sent to it.

pub heads_fit : HeadsFit
heads_fit script l whole h few p q letter below among =
    let run = merged script.nodes l.log in
    let is_merged = merged_exists script l h in
    let is_run = merged_is_run script l run h is_merged in
    let found = sent_were_on_way script l run h is_merged p q letter among in
    let w = world_after script (take_first found.0 run) in
    let on : OnWay w letter.set p q letter = record { among = found.1; set = refl } in
    let home = (homes_in_runs script run whole is_run found.0).letters p q letter found.1 in
    let paths = paths_in_runs script run whole.some_node is_run found.0 letter.set in
    let link = (paths.letters p q letter below on).link in
    let named = paths.went letter.link.epoch 0 link.epoch in
    let timed = (timed_in_runs script run is_run found.0 letter.set).letters p q letter below on in
    let low = letters_are_counted script l h p q letter among in
    let clock = clocks_are_counted script l h q in
    and_from (nat_lt letter.set (length script.sets)) _ (lt-ltb letter.set (length script.sets) home.set)
    (and_from (nat_lt letter.link.node script.nodes) _ (lt-ltb letter.link.node script.nodes (subst (λ x. x < script.nodes) link.node named))
    (and_from (nat_le letter.link.epoch letter.stamp.clock) _ (le-leb letter.link.epoch letter.stamp.clock timed.epoch)
    (and_from (nat_lt (letter.stamp.clock + 1) 4611686018427387904) _ (lt-ltb (letter.stamp.clock + 1) 4611686018427387904 (omega (arith, low, few)))
    (lt-ltb ((l.last q).clock + 1) 4611686018427387904 (omega (arith, clock, few))))))
