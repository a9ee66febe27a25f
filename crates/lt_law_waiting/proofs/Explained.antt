-- Who waits at rest, and why; and what the report tells of it.
use Rattle.std.proofs.Common.{◌≡◌, ℕ, ◌<◌, inl, inr, List, [], ◌∷◌, length, Bool, true, false, refl, sym, subst, take, ◌∙◌, ◌⊎◌, ◌↔◌, Contains, IsTrue}
use Rattle.std.proofs.lemmas.Bool.{false≢true}
use Rattle.lt_modes.specs.declared.event.Event.{Event}
use Rattle.lt_modes.specs.Script.{ScriptData}
use Rattle.lt_modes.specs.Waiting.{waits}
use Rattle.lt_lists.proofs.Searches.{any_below_at}
use Rattle.lt_spec.specs.Holdings.{Holding, holdings, lines_of, waits_for, waits_behind_void}
use Rattle.lt_spec.specs.World.{Logged, World, world_after, IsRun, is_waiting, is_at_rest, anyone_waits}
use Rattle.lt_spec.specs.NodeMove.{IsWhole}
use Rattle.lt_law_lines.proofs.KeptLines.{lines_kept_in_runs}
use Rattle.lt_spec.specs.Rings.{Graph, ring_set, walk_end, WaitsLine, EndsLine, VoidLine, waits_report}
use Rattle.lt_law_waiting.specs.WaitingLaws.{EndedHoldsUp, WaitersHaveReasons, WaitersAreExplained, PairsAreReported, VoidPairsAreReported, EndsHaveReasons, EndsAreReported, WaitersHaveLines, WaitersAreReported}
use Rattle.lt_spec.specs.Promised.{HasEnded, HoldsUp, WaitInRing, WaitBehindVoid}
use Rattle.lt_law_waiting.proofs.RingWalks.{cons_some, ring_in_set, ring_some, ring_waits, walks_end}
use Rattle.lt_law_waiting.proofs.KeptAsks.{any_below_which, ask_waits, only_waiters_wait, only_waiters_are_behind}
use Rattle.lt_law_waiting.proofs.Unmarked.{none_behind}
use Rattle.lt_law_waiting.proofs.Reports.{waits_are_told, ends_are_told, ends_are_all}
use Rattle.lt_law_waiting.proofs.VoidReports.{waits_is_told, ends_is_told, told_before, void_told, void_at}
use Rattle.lt_law_waiting.proofs.WaitsAtRest.{each_has_reason, ended_hold}

-- the client waits behind a void ask of some client
abbrev IsBehindSome : ScriptData → World → ℕ → Type 0
IsBehindSome script w client = (other : ℕ) × (other < length script.clients) × (waits_behind_void script w client other ≡ true)

-- who ends a walk doesn't wait, or waits behind a void ask
end_waits_not : (script : ScriptData) (run : List Logged) → IsWhole script → IsRun script run → (k last : ℕ) → IsTrue (is_at_rest script (world_after script (take k run))) → last < length script.clients
    → ((d : ℕ) → d < length script.clients → waits_for script (world_after script (take k run)) last d ≡ false)
    → IsBehindSome script (world_after script (take k run)) last ⊎ (is_waiting script (world_after script (take k run)) last ≡ false)
end_waits_not script run whole is_run k last rest known none = by_test (is_waiting script (world_after script (take k run)) last) refl
  where
    by_test : (t : Bool) → is_waiting script (world_after script (take k run)) last ≡ t
        → IsBehindSome script (world_after script (take k run)) last ⊎ (is_waiting script (world_after script (take k run)) last ≡ false)
    by_test false e = inr e
    by_test true e =
        let some = each_has_reason script run whole is_run k last known rest e in
        elim some.2 [
          | inl waits ↦ absurd (false≢true (sym (none some.0 some.1) ∙ waits))
          | inr behind ↦ inl (some.0, some.1, behind)
        ]

-- where no clients wait in a ring, the walk of a client that waits for some client ends
module _ (script : ScriptData) (run : List Logged) (whole : IsWhole script) (is_run : IsRun script run) (k : ℕ) (rest : IsTrue (is_at_rest script (world_after script (take k run)))) where
  abbrev world : World
  world = world_after script (take k run)

  abbrev graph : Graph
  graph = waits_for script world

  abbrev last_of : ℕ → ℕ
  last_of client = walk_end (length script.clients) graph client

  walk_ends : ring_set (length script.clients) graph ≡ [] → (client other : ℕ) → client < length script.clients → other < length script.clients → graph client other ≡ true
      → (last_of client < length script.clients) × (IsBehindSome script world (last_of client)
      ⊎ (HasEnded script world (last_of client) × (waiter : ℕ) × (waiter < length script.clients)
      × HoldsUp script (lines_of (take k run)) world waiter (last_of client)))
  walk_ends none client other known also on =
      let walk = walks_end (length script.clients) graph none client known in
      let waiter = walk.2 other also on in (
        walk.0,
        elim (end_waits_not script run whole is_run k (last_of client) rest walk.0 walk.1) [
          | inl behind ↦ inl behind
          | inr waits_not ↦
              let hold = ended_hold script run whole is_run k waiter.0 (last_of client) waiter.1 walk.0 rest waiter.2 waits_not in
              inr (hold.0, waiter.0, waiter.1, hold.1)
        ],
      )

  pub reason_found : anyone_waits script world ≡ true
      → WaitInRing script world ⊎ (EndedHoldsUp script (lines_of (take k run)) world ⊎ WaitBehindVoid script world)
  reason_found someone = by_set (ring_set (length script.clients) graph) refl
    where
      by_set : (set : List ℕ) → ring_set (length script.clients) graph ≡ set
          → WaitInRing script world ⊎ (EndedHoldsUp script (lines_of (take k run)) world ⊎ WaitBehindVoid script world)
      by_set (c ∷ others) e = inl (ring_in_set (length script.clients) graph (λ none. cons_some c others (sym e ∙ none)))
      by_set [] e =
          let client = any_below_which (length script.clients) (is_waiting script world) someone in
          let next = each_has_reason script run whole is_run k client.0 client.1 rest client.2 in
          inr (elim next.2 [
            | inl waits ↦
                let ends = walk_ends e client.0 next.0 client.1 next.1 waits in
                elim ends.1 [
                  | inl behind ↦ inr (last_of client.0, behind.0, ends.0, behind.1, behind.2)
                  | inr hold ↦ inl (hold.1, last_of client.0, hold.2, ends.0, hold.0, hold.3)
                ]
            | inr behind ↦ inr (client.0, next.0, client.1, next.1, behind)
          ])

pub ends_have_reasons : EndsHaveReasons
ends_have_reasons script run whole is_run k client last rest told =
    let w = world_after script (take k run) in
    let n = length script.clients in
    let line = ends_are_told n (waits_for script w) client last (ends_is_told n (waits_for script w) (waits_behind_void script w) client last told) in
    let is : walk_end n (waits_for script w) client ≡ last = sym line.2 in
    let ends = walk_ends script run whole is_run k rest line.0 client line.3 line.1 line.4 line.5 in (
      only_waiters_wait script w client line.3 line.5,
      subst (λ (x : ℕ). ((other : ℕ) × Contains (waits_report script w) (VoidLine x other))
          ⊎ (HasEnded script w x × (waiter : ℕ) × (waiter < n) × HoldsUp script (lines_of (take k run)) w waiter x)) is
          (elim ends.1 [
            | inl behind ↦ inl (behind.0, void_at n (waits_for script w) (waits_behind_void script w) (walk_end n (waits_for script w) client) behind.0 (ends.0, behind.1, behind.2))
            | inr hold ↦ inr hold
          ]),
    )

pub ends_are_reported : EndsAreReported
ends_are_reported script run whole is_run k client last rest unmarked told =
    let w = world_after script (take k run) in
    let n = length script.clients in
    let ends = ends_have_reasons script run whole is_run k client last rest told in
    elim ends.1 [
      | inl void ↦
          let behind = void_told n (waits_for script w) (waits_behind_void script w) last void.0 void.1 in
          absurd (false≢true (sym (none_behind script w unmarked last void.0) ∙ behind.2))
      | inr hold ↦ (ends.0, hold.0, hold.1, hold.2, hold.3)
    ]

-- somebody waits where clients wait in a ring, or one that has ended holds a lock against one that waits, or one waits behind
-- a void ask
ring_has_waiter : (script : ScriptData) (w : World) → WaitInRing script w → anyone_waits script w ≡ true
ring_has_waiter script w (ring, under, is_ring) =
    let first = ring_some (waits_for script w) ring is_ring in
    let next = ring_waits (waits_for script w) ring is_ring first.0 first.1 in
    any_below_at (length script.clients) first.0 (is_waiting script w) (under first.0 first.1) (only_waiters_wait script w first.0 next.0 next.2)

held_up_waits : (script : ScriptData) (w : World) (lines : List Event) → ((lock : Holding) → Contains (holdings script lines) lock → lock.set < length script.sets)
    → EndedHoldsUp script lines w → anyone_waits script w ≡ true
held_up_waits script w lines named (waiter, last, waits, known, ended, holds) =
    any_below_at (length script.clients) waiter (is_waiting script w) waits
    (ask_waits script w holds.lock.set waiter holds.wanted.0 (named holds.lock holds.held) holds.wanted.1 holds.wanted.2 holds.wanted.4)

behind_has_waiter : (script : ScriptData) (w : World) → WaitBehindVoid script w → anyone_waits script w ≡ true
behind_has_waiter script w (client, other, known, also, behind) =
    any_below_at (length script.clients) client (is_waiting script w) known (only_waiters_are_behind script w client other behind)

pub waiters_have_reasons : WaitersHaveReasons
waiters_have_reasons script run whole is_run k rest = (
  reason_found script run whole is_run k rest,
  λ cause. elim cause [
    | inl ring ↦ ring_has_waiter script (world_after script (take k run)) ring
    | inr other ↦ elim other [
      | inl held ↦ held_up_waits script (world_after script (take k run)) (lines_of (take k run)) (λ lock there. ((lines_kept_in_runs script run whole is_run k).named lock there).1) held
      | inr behind ↦ behind_has_waiter script (world_after script (take k run)) behind
    ]
  ],
)

pub waiters_are_explained : WaitersAreExplained
waiters_are_explained script run whole is_run k rest unmarked = (
  λ someone. elim (all.0 someone) [
    | inl ring ↦ inl ring
    | inr other ↦ elim other [
      | inl held ↦ inr held
      | inr (client, other, known, also, behind) ↦
          absurd (false≢true (sym (none_behind script (world_after script (take k run)) unmarked client other) ∙ behind))
    ]
  ],
  λ cause. elim cause [
    | inl ring ↦ all.1 (inl ring)
    | inr held ↦ all.1 (inr (inl held))
  ],
)
  where
    all : (anyone_waits script (world_after script (take k run)) ≡ true)
        ↔ (WaitInRing script (world_after script (take k run))
        ⊎ (EndedHoldsUp script (lines_of (take k run)) (world_after script (take k run)) ⊎ WaitBehindVoid script (world_after script (take k run))))
    all = waiters_have_reasons script run whole is_run k rest

pub pairs_are_reported : PairsAreReported
pairs_are_reported script w client other =
    let told = waits_are_told (length script.clients) (waits_for script w) client other in (
      λ there. told.0 (waits_is_told (length script.clients) (waits_for script w) (waits_behind_void script w) client other there),
      λ pair. told_before (length script.clients) (waits_for script w) (waits_behind_void script w) (WaitsLine client other) (told.1 pair),
    )

pub void_pairs_are_reported : VoidPairsAreReported
void_pairs_are_reported script w client other = (
  void_told (length script.clients) (waits_for script w) (waits_behind_void script w) client other,
  void_at (length script.clients) (waits_for script w) (waits_behind_void script w) client other,
)

pub waiters_have_lines : WaitersHaveLines
waiters_have_lines script run whole is_run k client known rest no_cycle waiting = by_set (ring_set n graph) refl
  where
    w : World
    w = world_after script (take k run)

    n : ℕ
    n = length script.clients

    graph : Graph
    graph = waits_for script w

    by_set : (set : List ℕ) → ring_set n graph ≡ set
        → (other : ℕ) × (Contains (waits_report script w) (EndsLine client other) ⊎ Contains (waits_report script w) (VoidLine client other))
    by_set (c ∷ others) e = absurd (no_cycle (ring_in_set n graph (λ none. cons_some c others (sym e ∙ none))))
    by_set [] e =
        let next = each_has_reason script run whole is_run k client known rest waiting in
        elim next.2 [
          | inl waits ↦ (
            walk_end n graph client,
            inl (told_before n graph (waits_behind_void script w) (EndsLine client (walk_end n graph client)) (ends_are_all n graph e client next.0 known next.1 waits)),
          )
          | inr behind ↦ (next.0, inr (void_at n graph (waits_behind_void script w) client next.0 (known, next.1, behind)))
        ]

pub waiters_are_reported : WaitersAreReported
waiters_are_reported script run whole is_run k client known rest unmarked no_cycle waiting =
    let w = world_after script (take k run) in
    let line = waiters_have_lines script run whole is_run k client known rest no_cycle waiting in
    elim line.1 [
      | inl ends ↦ (line.0, ends)
      | inr void ↦
          let behind = void_told (length script.clients) (waits_for script w) (waits_behind_void script w) client line.0 void in
          absurd (false≢true (sym (none_behind script w unmarked client line.0) ∙ behind.2))
    ]
