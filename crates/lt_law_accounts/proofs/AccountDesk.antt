-- An account as the desk leaves its node, comes to it, or sends a copy there.
use Rattle.std.proofs.Common.{◌≡◌, ℕ, ◌≤◌, inl, inr, List, [], ◌∷◌, ◌++◌, Bool, true, false, sym, ap, subst, arith, ◌∙◌, ◌⊎◌, Contains, IsTrue, IsFalse, if◌then◌else◌}
use Rattle.std.proofs.lemmas.Bool.{false_from_ne_true}
use Rattle.std.proofs.lemmas.List.Elements.{Contains-append_left, Contains-push, Contains-push_cases}
use Rattle.lt_modes.specs.declared.mode.Mode.{Mode}
use Rattle.lt_modes.specs.declared.ask.Ask.{Ask}
use Rattle.lt_modes.specs.declared.parts.Owed.{Owed}
use Rattle.lt_modes.specs.Modes.{Modes, conflicts, has, with_mode, bars, held_modes}
use Rattle.lt_modes.specs.State.{Entry, Tell, modes_of_asks, record_of, modes_of_owed}
use Rattle.lt_modes.specs.Serving.{owing}
use Rattle.lt_modes.specs.Telling.{is_open, left_owed}
use Rattle.lt_modes.specs.Sound.{IsNoLater}
use Rattle.lt_modes.proofs.ModeAlgebra.{conflicts-sym, covers_by_table, copy_is_not_taking}
use Rattle.lt_law_accounts.specs.Account.{AsksKnown, Covers, Bars, IsBelow, left_after, now_modes, own_of}
use Rattle.lt_law_accounts.specs.AccountSteps.{IsGain, owing_copy}
use Rattle.lt_law_accounts.specs.AccountPlay.{Owes}
use Rattle.lt_law_accounts.proofs.AccountFacts.{has-union, has-left, has-right, has-kept, has-added, same_by_stamp, owed_mode-which, owed_mode-at, left_owed-which, left_owed-at, below_by_members, bars_not, not_bars, held_below_record, one_more_below, asks_which, asks_at}

-- the modes of owed asks with one more
owed_more-cases : (owed : List Owed) (copy : Owed) (mode : Mode) → IsTrue (has mode (modes_of_owed (owed ++ copy ∷ [])))
    → IsTrue (has mode (modes_of_owed owed)) ⊎ (mode ≡ copy.mode)
owed_more-cases owed copy mode m =
    let found = owed_mode-which (owed ++ copy ∷ []) mode m in
    elim (Contains-push_cases owed copy found.0 found.1) [
      | inl before ↦ inl (subst (λ (x : Mode). IsTrue (has x (modes_of_owed owed))) found.2 (owed_mode-at owed found.0 before))
      | inr new ↦ inr (sym found.2 ∙ ap (λ (x : Owed). x.mode) (sym new))
    ]

owed_more-kept : (owed : List Owed) (copy : Owed) (mode : Mode) → IsTrue (has mode (modes_of_owed owed)) → IsTrue (has mode (modes_of_owed (owed ++ copy ∷ [])))
owed_more-kept owed copy mode m =
    let found = owed_mode-which owed mode m in
    subst (λ (x : Mode). IsTrue (has x (modes_of_owed (owed ++ copy ∷ [])))) found.2
    (owed_mode-at (owed ++ copy ∷ []) found.0 (Contains-append_left owed (copy ∷ []) found.0 found.1))

-- the copy that is owed for the ask
abbrev pub copy_for : Ask → Owed
copy_for ask = record { stamp = ask.stamp; mode = ask.mode }

record_cases : (ask : Ask) (entry : Entry) (mode : Mode) → IsTrue (has mode (record_of (owing ask entry))) → IsTrue (has mode (record_of entry)) ⊎ (mode ≡ ask.mode)
record_cases ask entry mode m = elim (has-union mode entry.reported (modes_of_owed (entry.owed ++ copy_for ask ∷ [])) m) [
  | inl reported ↦ inl (has-left mode entry.reported (modes_of_owed entry.owed) reported)
  | inr owed ↦ elim (owed_more-cases entry.owed (copy_for ask) mode owed) [
    | inl before ↦ inl (has-right mode entry.reported (modes_of_owed entry.owed) before)
    | inr new ↦ inr new
  ]
]

record_keeps : (ask : Ask) (entry : Entry) (mode : Mode) → IsTrue (has mode (record_of entry)) → IsTrue (has mode (record_of (owing ask entry)))
record_keeps ask entry mode m = elim (has-union mode entry.reported (modes_of_owed entry.owed) m) [
  | inl reported ↦ has-left mode entry.reported (modes_of_owed (entry.owed ++ copy_for ask ∷ [])) reported
  | inr owed ↦ has-right mode entry.reported (modes_of_owed (entry.owed ++ copy_for ask ∷ [])) (owed_more-kept entry.owed (copy_for ask) mode owed)
]

record_gains : (ask : Ask) (entry : Entry) → IsTrue (has ask.mode (record_of (owing ask entry)))
record_gains ask entry = has-right ask.mode entry.reported (modes_of_owed (entry.owed ++ copy_for ask ∷ []))
    (owed_mode-at (entry.owed ++ copy_for ask ∷ []) (copy_for ask) (Contains-push entry.owed (copy_for ask)))

left_cases : (ask : Ask) (entry : Entry) (tell : Tell) (mode : Mode) → IsTrue (has mode (left_after (owing ask entry) tell))
    → IsTrue (has mode (left_after entry tell)) ⊎ (mode ≡ ask.mode)
left_cases ask entry tell mode m = elim (has-union mode tell.modes (modes_of_owed (left_owed tell (entry.owed ++ copy_for ask ∷ []))) m) [
  | inl told ↦ inl (has-left mode tell.modes (modes_of_owed (left_owed tell entry.owed)) told)
  | inr owed ↦
      let found = owed_mode-which (left_owed tell (entry.owed ++ copy_for ask ∷ [])) mode owed in
      let parts = left_owed-which tell (entry.owed ++ copy_for ask ∷ []) found.0 found.1 in
      elim (Contains-push_cases entry.owed (copy_for ask) found.0 parts.0) [
        | inl before ↦ inl (has-right mode tell.modes (modes_of_owed (left_owed tell entry.owed))
            (subst (λ (x : Mode). IsTrue (has x (modes_of_owed (left_owed tell entry.owed)))) found.2
            (owed_mode-at (left_owed tell entry.owed) found.0 (left_owed-at tell entry.owed found.0 before parts.1))))
        | inr new ↦ inr (sym found.2 ∙ ap (λ (x : Owed). x.mode) (sym new))
      ]
]

left_keeps : (ask : Ask) (entry : Entry) (tell : Tell) (mode : Mode) → IsTrue (has mode (left_after entry tell)) → IsTrue (has mode (left_after (owing ask entry) tell))
left_keeps ask entry tell mode m = elim (has-union mode tell.modes (modes_of_owed (left_owed tell entry.owed)) m) [
  | inl told ↦ has-left mode tell.modes (modes_of_owed (left_owed tell (entry.owed ++ copy_for ask ∷ []))) told
  | inr owed ↦
      let found = owed_mode-which (left_owed tell entry.owed) mode owed in
      let parts = left_owed-which tell entry.owed found.0 found.1 in
      has-right mode tell.modes (modes_of_owed (left_owed tell (entry.owed ++ copy_for ask ∷ [])))
      (subst (λ (x : Mode). IsTrue (has x (modes_of_owed (left_owed tell (entry.owed ++ copy_for ask ∷ []))))) found.2
      (owed_mode-at (left_owed tell (entry.owed ++ copy_for ask ∷ [])) found.0
      (left_owed-at tell (entry.owed ++ copy_for ask ∷ []) found.0 (Contains-append_left entry.owed (copy_for ask ∷ []) found.0 parts.0) parts.1)))
]

left_gains : (ask : Ask) (entry : Entry) (tell : Tell) → IsTrue (is_open tell.pending tell.stamp ask.stamp) → IsTrue (has ask.mode (left_after (owing ask entry) tell))
left_gains ask entry tell open_there = has-right ask.mode tell.modes (modes_of_owed (left_owed tell (entry.owed ++ copy_for ask ∷ [])))
    (owed_mode-at (left_owed tell (entry.owed ++ copy_for ask ∷ [])) (copy_for ask)
    (left_owed-at tell (entry.owed ++ copy_for ask ∷ []) (copy_for ask) (Contains-push entry.owed (copy_for ask)) open_there))

now_cases : (charge : Modes) (ask : Ask) (former later : List Ask) → IsGain ask former later → (mode : Mode) → IsTrue (has mode (now_modes charge later))
    → IsTrue (has mode (now_modes charge former)) ⊎ (mode ≡ ask.mode)
now_cases charge ask former later gain mode m = elim (has-union mode charge (modes_of_asks later) m) [
  | inl own ↦ inl (has-left mode charge (modes_of_asks former) own)
  | inr brought ↦
      let found = asks_which later mode brought in
      elim (gain.only found.0 found.1) [
        | inl before ↦ inl (has-right mode charge (modes_of_asks former) (subst (λ (x : Mode). IsTrue (has x (modes_of_asks former))) found.2 (asks_at former found.0 before)))
        | inr new ↦ inr (sym found.2 ∙ ap (λ (x : Ask). x.mode) new)
      ]
]

now_keeps : (charge : Modes) (ask : Ask) (former later : List Ask) → IsGain ask former later → (mode : Mode) → IsTrue (has mode (now_modes charge former))
    → IsTrue (has mode (now_modes charge later))
now_keeps charge ask former later gain mode m = elim (has-union mode charge (modes_of_asks former) m) [
  | inl own ↦ has-left mode charge (modes_of_asks later) own
  | inr brought ↦
      let found = asks_which former mode brought in
      has-right mode charge (modes_of_asks later) (subst (λ (x : Mode). IsTrue (has x (modes_of_asks later))) found.2 (asks_at later found.0 (gain.kept found.0 found.1)))
]

now_gains : (charge : Modes) (ask : Ask) (former later : List Ask) → IsGain ask former later → IsTrue (has ask.mode (now_modes charge later))
now_gains charge ask former later gain = has-right ask.mode charge (modes_of_asks later) (asks_at later ask gain.gained)

-- the record, what tells would leave, and what is on its way gain one mode together
covers_owing : (charge : Modes) (pending : List Ask) (entry : Entry) (tells : List Tell) (former later : List Ask) (ask : Ask) → AsksKnown pending entry tells
    → Contains pending ask → IsGain ask former later → Covers charge entry tells former → Covers charge (owing ask entry) tells later
covers_owing charge pending entry tells former later ask known waits gain c = record {
  record_bound = one_more_below (now_modes charge former) (now_modes charge later) (record_of entry) (record_of (owing ask entry)) ask.mode
      (now_cases charge ask former later gain) (record_keeps ask entry) (record_gains ask entry) c.record_bound;
  left_bound = λ u n. one_more_below (now_modes charge former) (now_modes charge later) (left_after entry u) (left_after (owing ask entry) u) ask.mode
      (now_cases charge ask former later gain) (left_keeps ask entry u) (left_gains ask entry u (known.in_tells ask u waits n.0)) (c.left_bound u n);
  record_shrinks = λ u n. one_more_below (left_after entry u) (left_after (owing ask entry) u) (record_of entry) (record_of (owing ask entry)) ask.mode
      (left_cases ask entry u) (record_keeps ask entry) (record_gains ask entry) (c.record_shrinks u n);
  left_shrinks = λ u v n m not_newer. one_more_below (left_after entry u) (left_after (owing ask entry) u) (left_after entry v) (left_after (owing ask entry) v) ask.mode
      (left_cases ask entry u) (left_keeps ask entry v) (left_gains ask entry v (known.in_tells ask v waits m.0)) (c.left_shrinks u v n m not_newer);
  exact = elim c.exact [
    | inl e ↦ inl (one_more_below (record_of entry) (record_of (owing ask entry)) (now_modes charge former) (now_modes charge later) ask.mode
        (record_cases ask entry) (now_keeps charge ask former later gain) (now_gains charge ask former later gain) e)
    | inr e ↦ inr (
      e.0,
      e.1,
      one_more_below (left_after entry e.0) (left_after (owing ask entry) e.0) (now_modes charge former) (now_modes charge later) ask.mode
          (left_cases ask entry e.0) (now_keeps charge ask former later gain) (now_gains charge ask former later gain) e.2,
    )
  ];
}

between_moves : (moving : Bool) (clock k : ℕ) → moving ≡ false → k ≤ clock → IsNoLater moving clock k
between_moves false clock k e h = h
between_moves true clock k e h = cc

pub owes_kept : Owes
owes_kept a others ask copies h may = (
  record {
    clocks = record {
      asks = h.clocks.asks;
      apart = h.clocks.apart;
      tells_made = h.clocks.tells_made;
      tells_apart = h.clocks.tells_apart;
      told = h.clocks.told;
      owed = λ copy c. elim (Contains-push_cases a.entry.owed (copy_for ask) copy c) [
        | inl before ↦ h.clocks.owed copy before
        | inr new ↦ between_moves a.moving a.clock copy.stamp.clock may.between (omega (arith, h.clocks.asks ask may.waits, ap (λ (x : Owed). x.stamp.clock) new))
      ];
    };
    known = record {
      in_entry = h.known.in_entry;
      in_tells = h.known.in_tells;
      lists = h.known.lists;
      entry_list = h.known.entry_list;
    };
    owed = record {
      waits = λ x c. elim (may.sent.only x c) [
        | inl before ↦ h.owed.waits x before
        | inr new ↦ subst (λ (y : Ask). Contains a.pending y) (sym new) may.waits
      ];
      owed = λ x c. elim (may.sent.only x c) [
        | inl before ↦ Contains-append_left a.entry.owed (copy_for ask ∷ []) (copy_for x) (h.owed.owed x before)
        | inr new ↦ subst (λ (y : Ask). Contains (a.entry.owed ++ copy_for ask ∷ []) (copy_for y)) (sym new) (Contains-push a.entry.owed (copy_for ask))
      ];
      on_way = λ copy x c p same. elim (Contains-push_cases a.entry.owed (copy_for ask) copy c) [
        | inl before ↦ let way = h.owed.on_way copy x before p same in (may.sent.kept x way.0, way.1)
        | inr new ↦
            let one : x ≡ ask = same_by_stamp a.pending x ask h.clocks.apart p may.waits (same ∙ ap (λ (y : Owed). y.stamp) (sym new)) in
            (subst (λ (y : Ask). Contains copies y) (sym one) may.sent.gained, ap (λ (y : Ask). y.mode) one ∙ ap (λ (y : Owed). y.mode) new)
      ];
      open_still = λ copy c. elim (Contains-push_cases a.entry.owed (copy_for ask) copy c) [
        | inl before ↦ h.owed.open_still copy before
        | inr new ↦ subst (λ (y : Owed). IsTrue (is_open a.entry.pending a.entry.told_at y.stamp)) new (h.known.in_entry ask may.waits)
      ];
    };
    charge = h.charge;
    cover = λ away. covers_owing a.charge a.pending a.entry a.tells a.copies copies ask h.known may.waits may.sent (h.cover away);
    clear = record {
      copies_clear = λ x y cx cy. elim (may.sent.only x cx) [
        | inl x_before ↦ elim (may.sent.only y cy) [
          | inl y_before ↦ h.clear.copies_clear x y x_before y_before
          | inr y_new ↦ conflicts-sym x.mode y.mode ∙ subst (λ (z : Ask). IsFalse (conflicts z.mode x.mode)) (sym y_new) (with_old x x_before)
        ]
        | inr x_new ↦ elim (may.sent.only y cy) [
          | inl y_before ↦ subst (λ (z : Ask). IsFalse (conflicts z.mode y.mode)) (sym x_new) (with_old y y_before)
          | inr y_new ↦ subst (λ (z : Ask). IsFalse (conflicts z.mode y.mode)) (sym x_new) (subst (λ (z : Ask). IsFalse (conflicts ask.mode z.mode)) (sym y_new) with_itself)
        ]
      ];
      copy_and_held = λ x c. elim (may.sent.only x c) [
        | inl before ↦ h.clear.copy_and_held x before
        | inr new ↦ subst (λ (z : Ask). IsFalse (has z.mode (bars (held_modes a.held)))) (sym new)
            (not_bars (held_modes a.held) ask.mode (λ bar. free_here (held_below_record a h may.away ask.mode bar)))
      ];
      clients = h.clear.clients;
    };
  },
  inr (
    subst (λ (here : Bool). IsBelow (if here then own_of (owing_copy ask copies a) else record_of (owing ask a.entry)) (with_mode (if here then own_of a else record_of a.entry) ask.mode))
        (sym may.away)
        (below_by_members (record_of (owing ask a.entry)) (with_mode (record_of a.entry) ask.mode) (λ mode m. elim (record_cases ask a.entry mode m) [
          | inl before ↦ has-kept mode ask.mode (record_of a.entry) before
          | inr new ↦ subst (λ (x : Mode). IsTrue (has x (with_mode (record_of a.entry) ask.mode))) (sym new) (has-added ask.mode (record_of a.entry))
        ])),
    bars_not others ask.mode may.free,
  ),
)
  where
    free_here : Bars (record_of a.entry) ask.mode → ⊥
    free_here = bars_not (record_of a.entry) ask.mode may.clear

    with_itself : IsFalse (conflicts ask.mode ask.mode)
    with_itself = copy_is_not_taking conflicts others ask.mode (covers_by_table others ask.mode may.covered) (bars_not others ask.mode may.free)

    with_old : (y : Ask) → Contains a.copies y → IsFalse (conflicts ask.mode y.mode)
    with_old y c = false_from_ne_true (conflicts ask.mode y.mode) (λ conflict.
        free_here (y.mode, conflict, has-right y.mode a.entry.reported (modes_of_owed a.entry.owed) (owed_mode-at a.entry.owed (copy_for y) (h.owed.owed y c))))
