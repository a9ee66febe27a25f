-- An account as the desk takes a tell of its node, and as the node makes one.
use Rattle.std.proofs.Common.{◌≡◌, ◌<◌, inl, inr, List, true, false, refl, sym, ap, subst, arith, ◌∙◌, ℕ, [], Bool, Contains, IsTrue, IsFalse}
use Rattle.lt_modes.specs.declared.mode.Mode.{Mode}
use Rattle.lt_modes.specs.declared.stamp.Stamp.{Stamp}
use Rattle.lt_modes.specs.declared.ask.Ask.{Ask}
use Rattle.lt_modes.specs.declared.parts.Owed.{Owed}
use Rattle.lt_modes.specs.Modes.{conflicts, has, held_modes, no_modes}
use Rattle.lt_modes.specs.State.{Entry, Tell, modes_of_asks, record_of, modes_of_owed, first_entry}
use Rattle.lt_modes.specs.Telling.{is_newer, is_open, left_owed, stamps_of}
use Rattle.lt_modes.proofs.ModeAlgebra.{union_bars_both}
use Rattle.lt_modes.proofs.StampOrder.{newer_by_clock, newer_not_before, not_after_itself}
use Rattle.lt_lists.proofs.Members.{contains_map, contains_mapped, none_in}
use Rattle.lt_law_accounts.proofs.AccountApplies.{told_stale}
use Rattle.lt_law_accounts.specs.Account.{Account, AccountKept, Covers, IsBelow, left_after, now_modes, counted}
use Rattle.lt_law_accounts.specs.AccountSteps.{MayApply, tell_by}
use Rattle.lt_law_accounts.specs.AccountPlay.{AppliesStale, TellsKeep}
use Rattle.lt_law_accounts.proofs.AccountFacts.{has-union, has-left, has-right, owed_mode-which, owed_mode-at, left_owed-which, left_owed-at, below_by_members, held_below_charge, no_later_at_all, before_in_move, open-cases, open_listed, asks_which, asks_at}

stale : (a : Account) (tell : Tell) (tells : List Tell) → AccountKept a → MayApply tell tells a → IsFalse (is_newer tell.stamp a.entry.told_at)
    → AccountKept (record a { tells = tells })
stale a tell tells h may old = record {
  clocks = record {
    asks = h.clocks.asks;
    apart = h.clocks.apart;
    tells_made = λ u c. h.clocks.tells_made u (may.left.only u c);
    tells_apart = λ x y cx cy. h.clocks.tells_apart x y (may.left.only x cx) (may.left.only y cy);
    told = h.clocks.told;
    owed = h.clocks.owed;
  };
  known = record {
    in_entry = h.known.in_entry;
    in_tells = λ ask u c t. h.known.in_tells ask u c (may.left.only u t);
    lists = λ later older l o. h.known.lists later older (may.left.only later l) (may.left.only older o);
    entry_list = λ u n. h.known.entry_list u (may.left.only u n.0, n.1);
  };
  owed = h.owed;
  charge = h.charge;
  cover = λ away. let c = h.cover away in record {
    record_bound = c.record_bound;
    left_bound = λ u n. c.left_bound u (may.left.only u n.0, n.1);
    record_shrinks = λ u n. c.record_shrinks u (may.left.only u n.0, n.1);
    left_shrinks = λ later older l o. c.left_shrinks later older (may.left.only later l.0, l.1) (may.left.only older o.0, o.1);
    exact = elim c.exact [
      | inl e ↦ inl e
      | inr e ↦ elim (may.left.kept e.0 e.1.0) [
        | inl still ↦ inr (e.0, (still, e.1.1), e.2)
        | inr same ↦ let no : true ≡ false = sym e.1.1 ∙ ap (λ (t : Tell). is_newer t.stamp a.entry.told_at) same ∙ old in cc
      ]
    ];
  };
  clear = h.clear;
}

pub stale_kept : AppliesStale
stale_kept a tell tells h may old = (
  subst (λ (e : Entry). AccountKept (record a { entry = e; tells = tells })) (sym (told_stale tell a.entry old)) (stale a tell tells h may old),
  (
    subst (λ (e : Entry). IsBelow (counted (record a { entry = e })) (counted a)) (sym (told_stale tell a.entry old)) (λ mode b. b),
    subst (λ (e : Entry). IsBelow (counted a) (counted (record a { entry = e }))) (sym (told_stale tell a.entry old)) (λ mode b. b),
  ),
)

-- what a new tell would leave is what is held now, with what copies bring
left_is_now : (a : Account) (stamp : Stamp) → AccountKept a → a.moving ≡ true → stamp.clock ≡ a.clock
    → IsBelow (left_after a.entry (tell_by stamp a)) (now_modes (held_modes a.held) a.copies)
left_is_now a stamp h moves now = below_by_members (left_after a.entry (tell_by stamp a)) (now_modes (held_modes a.held) a.copies)
    (λ mode m. elim (has-union mode (held_modes a.held) (modes_of_owed (left_owed (tell_by stamp a) a.entry.owed)) m) [
      | inl own ↦ has-left mode (held_modes a.held) (modes_of_asks a.copies) own
      | inr owed ↦
          let found = owed_mode-which (left_owed (tell_by stamp a) a.entry.owed) mode owed in
          let parts = left_owed-which (tell_by stamp a) a.entry.owed found.0 found.1 in
          has-right mode (held_modes a.held) (modes_of_asks a.copies)
          (elim (open-cases (stamps_of a.pending) stamp found.0.stamp parts.1) [
            | inl listed ↦
                let ask = contains_mapped (λ (x : Ask). x.stamp) a.pending found.0.stamp listed in
                let way = h.owed.on_way found.0 ask.0 parts.0 ask.1 ask.2 in
                subst (λ (x : Mode). IsTrue (has x (modes_of_asks a.copies))) (way.1 ∙ found.2) (asks_at a.copies ask.0 way.0)
            | inr after ↦ absurd (omega (arith, newer_not_before found.0.stamp stamp after, before_in_move a found.0.stamp.clock moves (h.clocks.owed found.0 parts.0), now))
          ])
    ])

now_is_left : (a : Account) (stamp : Stamp) → AccountKept a → IsBelow (now_modes (held_modes a.held) a.copies) (left_after a.entry (tell_by stamp a))
now_is_left a stamp h = below_by_members (now_modes (held_modes a.held) a.copies) (left_after a.entry (tell_by stamp a))
    (λ mode m. elim (has-union mode (held_modes a.held) (modes_of_asks a.copies) m) [
      | inl own ↦ has-left mode (held_modes a.held) (modes_of_owed (left_owed (tell_by stamp a) a.entry.owed)) own
      | inr brought ↦
          let found = asks_which a.copies mode brought in
          let copy : Owed = record { stamp = found.0.stamp; mode = found.0.mode } in
          has-right mode (held_modes a.held) (modes_of_owed (left_owed (tell_by stamp a) a.entry.owed))
          (subst (λ (x : Mode). IsTrue (has x (modes_of_owed (left_owed (tell_by stamp a) a.entry.owed)))) found.2
          (owed_mode-at (left_owed (tell_by stamp a) a.entry.owed) copy
          (left_owed-at (tell_by stamp a) a.entry.owed copy (h.owed.owed found.0 found.1)
          (open_listed (stamps_of a.pending) stamp found.0.stamp (contains_map (λ (x : Ask). x.stamp) a.pending found.0 (h.owed.waits found.0 found.1))))))
    ])

pub tells_kept : TellsKeep
tells_kept a stamp tells h may = (
  record {
    clocks = record {
      asks = h.clocks.asks;
      apart = h.clocks.apart;
      tells_made = λ u c. elim (may.made.only u c) [
        | inl before ↦ no_later_at_all a.moving a.clock u.stamp.clock (h.clocks.tells_made u before)
        | inr new ↦ omega (arith, may.now, ap (λ (t : Tell). t.stamp.clock) new)
      ];
      tells_apart = λ x y cx cy same. elim (may.made.only x cx) [
        | inl x_before ↦ elim (may.made.only y cy) [
          | inl y_before ↦ h.clocks.tells_apart x y x_before y_before same
          | inr y_new ↦ absurd (omega (arith, made x x_before, ap (λ (t : Tell). t.stamp.clock) y_new, ap (λ (z : Stamp). z.clock) same, may.now))
        ]
        | inr x_new ↦ elim (may.made.only y cy) [
          | inl y_before ↦ absurd (omega (arith, made y y_before, ap (λ (t : Tell). t.stamp.clock) x_new, ap (λ (z : Stamp). z.clock) same, may.now))
          | inr y_new ↦ x_new ∙ sym y_new
        ]
      ];
      told = no_later_at_all a.moving a.clock a.entry.told_at.clock h.clocks.told;
      owed = λ copy c. no_later_at_all a.moving a.clock copy.stamp.clock (h.clocks.owed copy c);
    };
    known = record {
      in_entry = h.known.in_entry;
      in_tells = λ ask u c t. elim (may.made.only u t) [
        | inl before ↦ h.known.in_tells ask u c before
        | inr new ↦ subst (λ (v : Tell). IsTrue (is_open v.pending v.stamp ask.stamp)) (sym new)
            (open_listed (stamps_of a.pending) stamp ask.stamp (contains_map (λ (x : Ask). x.stamp) a.pending ask c))
      ];
      lists = λ later older l o newer z c. elim (may.made.only older o) [
        | inl before ↦ elim (may.made.only later l) [
          | inl earlier ↦ h.known.lists later older earlier before newer z c
          | inr new ↦
              let ask = contains_mapped (λ (x : Ask). x.stamp) a.pending z (subst (λ (v : Tell). Contains v.pending z) new c) in
              subst (λ (s : Stamp). IsTrue (is_open older.pending older.stamp s)) ask.2 (h.known.in_tells ask.0 older ask.1 before)
        ]
        | inr last ↦ elim (may.made.only later l) [
          | inl earlier ↦ absurd (omega (arith, newer_not_before later.stamp older.stamp newer, ap (λ (t : Tell). t.stamp.clock) last, may.now, made later earlier))
          | inr new ↦ let one : later.stamp ≡ older.stamp = ap (λ (t : Tell). t.stamp) (new ∙ sym last) in
              absurd (not_after_itself older.stamp (subst (λ (s : Stamp). IsTrue (is_newer s older.stamp)) one newer))
        ]
      ];
      entry_list = λ u n z c. elim (may.made.only u n.0) [
        | inl before ↦ h.known.entry_list u (before, n.1) z c
        | inr new ↦
            let ask = contains_mapped (λ (x : Ask). x.stamp) a.pending z (subst (λ (v : Tell). Contains v.pending z) new c) in
            subst (λ (s : Stamp). IsTrue (is_open a.entry.pending a.entry.told_at s)) ask.2 (h.known.in_entry ask.0 ask.1)
      ];
    };
    owed = h.owed;
    charge = λ away. refl;
    cover = λ away. record {
      record_bound = λ mode bar. c.record_bound mode (shrinks mode bar);
      left_bound = λ u n. elim (may.made.only u n.0) [
        | inl before ↦ λ mode bar. c.left_bound u (before, n.1) mode (shrinks mode bar)
        | inr new ↦ subst (λ (v : Tell). IsBelow (now_modes (held_modes a.held) a.copies) (left_after a.entry v)) (sym new) (now_is_left a stamp h)
      ];
      record_shrinks = λ u n. elim (may.made.only u n.0) [
        | inl before ↦ c.record_shrinks u (before, n.1)
        | inr new ↦ subst (λ (v : Tell). IsBelow (left_after a.entry v) (record_of a.entry)) (sym new)
            (λ mode bar. c.record_bound mode (shrinks mode (left_is_now a stamp h may.moves may.now mode bar)))
      ];
      left_shrinks = λ later older l o not_newer. elim (may.made.only older o.0) [
        | inl before ↦ elim (may.made.only later l.0) [
          | inl earlier ↦ c.left_shrinks later older (earlier, l.1) (before, o.1) not_newer
          | inr new ↦ subst (λ (v : Tell). IsBelow (left_after a.entry v) (left_after a.entry older)) (sym new)
              (λ mode bar. c.left_bound older (before, o.1) mode (shrinks mode (left_is_now a stamp h may.moves may.now mode bar)))
        ]
        | inr last ↦ elim (may.made.only later l.0) [
          | inl earlier ↦
              let after : IsTrue (is_newer older.stamp later.stamp) = newer_by_clock older.stamp later.stamp (omega (arith, ap (λ (t : Tell). t.stamp.clock) last, may.now, made later earlier)) in
              let no : true ≡ false = sym after ∙ not_newer in cc
          | inr new ↦ subst (λ (v : Tell). IsBelow (left_after a.entry later) (left_after a.entry v)) (new ∙ sym last) (λ mode bar. bar)
        ]
      ];
      exact = inr (
        tell_by stamp a,
        (may.made.gained, newer_by_clock stamp a.entry.told_at (omega (arith, before_in_move a a.entry.told_at.clock may.moves h.clocks.told, may.now))),
        left_is_now a stamp h may.moves may.now,
      );
    };
    clear = h.clear;
  },
  ((λ mode b. b), (λ mode b. b)),
)
  where
    c : Covers a.charge a.entry a.tells a.copies
    c = h.cover may.away

    made : (u : Tell) → Contains a.tells u → u.stamp.clock < a.clock
    made u t = before_in_move a u.stamp.clock may.moves (h.clocks.tells_made u t)

    shrinks : IsBelow (now_modes (held_modes a.held) a.copies) (now_modes a.charge a.copies)
    shrinks mode bar = (union_bars_both conflicts a.charge (modes_of_asks a.copies) mode).1
        (elim ((union_bars_both conflicts (held_modes a.held) (modes_of_asks a.copies) mode).0 bar) [
          | inl own ↦ inl (held_below_charge a.moving (held_modes a.held) a.charge (h.charge may.away) mode own)
          | inr brought ↦ inr brought
        ])

-- The account of a node at the start is kept.

-- an account in which nothing is
abbrev pub empty_account : ℕ → Bool → Account
empty_account clock here = record {
  clock = clock;
  held = [];
  charge = no_modes;
  pending = [];
  entry = first_entry;
  tells = [];
  copies = [];
  here = here;
  moving = false;
}

pub empty_is_kept : (clock : ℕ) (here : Bool) → AccountKept (empty_account clock here)
empty_is_kept clock here = record {
  clocks = record {
    asks = λ ask h. none_in ask h;
    apart = λ i j d before below. absurd (omega (arith, below));
    tells_made = λ tell t. none_in tell t;
    tells_apart = λ x y h. none_in x h;
    told = omega arith;
    owed = λ copy h. none_in copy h;
  };
  known = record {
    in_entry = λ ask h. none_in ask h;
    in_tells = λ ask tell h. none_in ask h;
    lists = λ later older t. none_in later t;
    entry_list = λ tell t. none_in tell t.0;
  };
  owed = record {
    waits = λ ask h. none_in ask h;
    owed = λ ask h. none_in ask h;
    on_way = λ copy ask h. none_in copy h;
    open_still = λ copy h. none_in copy h;
  };
  charge = λ away. refl;
  cover = λ away. record {
    record_bound = λ mode bar. bar;
    left_bound = λ tell t. none_in tell t.0;
    record_shrinks = λ tell t. none_in tell t.0;
    left_shrinks = λ later older t. none_in later t.0;
    exact = inl (λ mode bar. bar);
  };
  clear = record {
    copies_clear = λ x y h. none_in x h;
    copy_and_held = λ ask h. none_in ask h;
    clients = λ x y h. none_in x h;
  };
}
