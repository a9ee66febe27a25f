-- An account as the clock of its node goes on, as a client asks, as a move ends, and as letters are elsewhere on their way.
use Rattle.std.proofs.Common.{◌≡◌, ◌≢◌, ℕ, ◌<◌, ◌≤◌, inl, inr, [], ◌∷◌, ◌++◌, Bool, true, false, ap, subst, arith, Contains, IsTrue, if◌then◌else◌, slice_index_or}
use Rattle.std.proofs.lemmas.List.Elements.{Contains-append_left, Contains-push_cases, Contains-get_or}
use Rattle.std.proofs.lemmas.List.Quantifiers.{all_pairs_push}
use Rattle.lt_modes.specs.declared.mode.Mode.{Mode}
use Rattle.lt_modes.specs.declared.stamp.Stamp.{Stamp}
use Rattle.lt_modes.specs.declared.ask.Ask.{Ask}
use Rattle.lt_modes.specs.declared.parts.Owed.{Owed}
use Rattle.lt_modes.specs.Modes.{Modes, has, union, held_modes}
use Rattle.lt_modes.specs.State.{modes_of_asks, record_of, modes_of_owed, still_owed}
use Rattle.lt_modes.specs.Sound.{IsNoLater}
use Rattle.lt_law_accounts.specs.Account.{Account, IsBelow, own_of}
use Rattle.lt_law_accounts.specs.AccountSteps.{asking}
use Rattle.lt_law_accounts.specs.AccountPlay.{Ticks, Ages, Asks, Rests, Freezes, Reorders}
use Rattle.lt_law_accounts.proofs.AccountFacts.{has-union, has-left, has-right, still_owed-which, still_owed-at, below_by_members, held_below_charge, no_later_at_all, before_in_move, open_later, now_with}
use Rattle.lt_modes.proofs.StampOrder.{newer_by_clock}

later_still : (moving : Bool) (old new k : ℕ) → old < new → IsNoLater moving old k → k < new
later_still moving old new k l h = omega (arith, no_later_at_all moving old k h, l)

pub ticks_kept : Ticks
ticks_kept a clock h may = (
  record {
    clocks = record {
      asks = λ ask c. omega (arith, h.clocks.asks ask c, may.later);
      apart = h.clocks.apart;
      tells_made = λ tell c. later_still a.moving a.clock clock tell.stamp.clock may.later (h.clocks.tells_made tell c);
      tells_apart = h.clocks.tells_apart;
      told = later_still a.moving a.clock clock a.entry.told_at.clock may.later h.clocks.told;
      owed = λ copy c. later_still a.moving a.clock clock copy.stamp.clock may.later (h.clocks.owed copy c);
    };
    known = h.known;
    owed = h.owed;
    charge = λ away. held_below_charge a.moving (held_modes a.held) a.charge (h.charge away);
    cover = h.cover;
    clear = h.clear;
  },
  ((λ mode b. b), (λ mode b. b)),
)

no_later_on : (moving : Bool) (old new k : ℕ) → moving ≡ false → old ≤ new → IsNoLater moving old k → IsNoLater moving new k
no_later_on false old new k e l h = omega (arith, h, l)
no_later_on true old new k e l h = cc

pub ages_kept : Ages
ages_kept a clock h between later = record {
  clocks = record {
    asks = λ ask c. omega (arith, h.clocks.asks ask c, later);
    apart = h.clocks.apart;
    tells_made = λ tell c. no_later_on a.moving a.clock clock tell.stamp.clock between later (h.clocks.tells_made tell c);
    tells_apart = h.clocks.tells_apart;
    told = no_later_on a.moving a.clock clock a.entry.told_at.clock between later h.clocks.told;
    owed = λ copy c. no_later_on a.moving a.clock clock copy.stamp.clock between later (h.clocks.owed copy c);
  };
  known = h.known;
  owed = h.owed;
  charge = h.charge;
  cover = h.cover;
  clear = h.clear;
}

-- no owed ask is as late as an ask that is made in this move
asked_waiting : (a : Account) (ask : Ask) → ((copy : Owed) → Contains a.entry.owed copy → copy.stamp.clock < ask.stamp.clock)
    → (mode : Mode) → IsTrue (has mode (modes_of_owed (still_owed (a.pending ++ ask ∷ []) a.entry.owed)))
    → IsTrue (has mode (modes_of_owed (still_owed a.pending a.entry.owed)))
asked_waiting a ask older mode m =
    let w = still_owed-which (a.pending ++ ask ∷ []) a.entry.owed mode m in
    elim (Contains-push_cases a.pending ask w.ask w.waits) [
      | inl before ↦ subst (λ (x : Mode). IsTrue (has x (modes_of_owed (still_owed a.pending a.entry.owed)))) w.is_mode
          (still_owed-at a.pending a.entry.owed w.copy w.ask w.owes before w.same)
      | inr new ↦ absurd (omega (arith, older w.copy w.owes, ap (λ (x : Ask). x.stamp.clock) new, ap (λ (z : Stamp). z.clock) w.same))
    ]

waiting_asked : (a : Account) (ask : Ask) (mode : Mode) → IsTrue (has mode (modes_of_owed (still_owed a.pending a.entry.owed)))
    → IsTrue (has mode (modes_of_owed (still_owed (a.pending ++ ask ∷ []) a.entry.owed)))
waiting_asked a ask mode m =
    let w = still_owed-which a.pending a.entry.owed mode m in
    subst (λ (x : Mode). IsTrue (has x (modes_of_owed (still_owed (a.pending ++ ask ∷ []) a.entry.owed)))) w.is_mode
    (still_owed-at (a.pending ++ ask ∷ []) a.entry.owed w.copy w.ask w.owes (Contains-append_left a.pending (ask ∷ []) w.ask w.waits) w.same)

pub union_members : (x y z : Modes) → ((mode : Mode) → IsTrue (has mode y) → IsTrue (has mode z)) → IsBelow (union x y) (union x z)
union_members x y z within = below_by_members (union x y) (union x z) (λ mode m. elim (has-union mode x y m) [
  | inl left ↦ has-left mode x z left
  | inr right ↦ has-right mode x z (within mode right)
])

pub asks_kept : Asks
asks_kept a ask h may = (
  record {
    clocks = record {
      asks = λ own c. elim (Contains-push_cases a.pending ask own c) [
        | inl before ↦ h.clocks.asks own before
        | inr new ↦ omega (arith, may.now, ap (λ (x : Ask). x.stamp.clock) new)
      ];
      apart = all_pairs_push (λ (x y : Ask). x.stamp ≢ y.stamp) a.pending ask h.clocks.apart
          (λ k d below same. omega (arith, may.first (slice_index_or a.pending k d) (Contains-get_or a.pending k d below), ap (λ (z : Stamp). z.clock) same, may.now));
      tells_made = h.clocks.tells_made;
      tells_apart = h.clocks.tells_apart;
      told = h.clocks.told;
      owed = h.clocks.owed;
    };
    known = record {
      in_entry = λ own c. elim (Contains-push_cases a.pending ask own c) [
        | inl before ↦ h.known.in_entry own before
        | inr new ↦ open_later a.entry.pending a.entry.told_at own.stamp (newer_by_clock own.stamp a.entry.told_at
            (omega (arith, before_in_move a a.entry.told_at.clock may.moves h.clocks.told, may.now, ap (λ (x : Ask). x.stamp.clock) new)))
      ];
      in_tells = λ own tell c t. elim (Contains-push_cases a.pending ask own c) [
        | inl before ↦ h.known.in_tells own tell before t
        | inr new ↦ open_later tell.pending tell.stamp own.stamp (newer_by_clock own.stamp tell.stamp
            (omega (arith, before_in_move a tell.stamp.clock may.moves (h.clocks.tells_made tell t), may.now, ap (λ (x : Ask). x.stamp.clock) new)))
      ];
      lists = h.known.lists;
      entry_list = h.known.entry_list;
    };
    owed = record {
      waits = λ own c. Contains-append_left a.pending (ask ∷ []) own (h.owed.waits own c);
      owed = h.owed.owed;
      on_way = λ copy own c p same. elim (Contains-push_cases a.pending ask own p) [
        | inl before ↦ h.owed.on_way copy own c before same
        | inr new ↦ absurd (omega (arith, older copy c, ap (λ (x : Ask). x.stamp.clock) new, ap (λ (z : Stamp). z.clock) same))
      ];
      open_still = h.owed.open_still;
    };
    charge = h.charge;
    cover = h.cover;
    clear = h.clear;
  },
  (by_desk_less a.here, by_desk_more a.here),
)
  where
    older : (copy : Owed) → Contains a.entry.owed copy → copy.stamp.clock < ask.stamp.clock
    older copy c = omega (arith, before_in_move a copy.stamp.clock may.moves (h.clocks.owed copy c), may.now)

    by_desk_less : (here : Bool) → IsBelow (if here then own_of (asking ask a) else record_of a.entry) (if here then own_of a else record_of a.entry)
    by_desk_less true = union_members (held_modes a.held) (modes_of_owed (still_owed (a.pending ++ ask ∷ []) a.entry.owed)) (modes_of_owed (still_owed a.pending a.entry.owed)) (asked_waiting a ask older)
    by_desk_less false = λ mode b. b

    by_desk_more : (here : Bool) → IsBelow (if here then own_of a else record_of a.entry) (if here then own_of (asking ask a) else record_of a.entry)
    by_desk_more true = union_members (held_modes a.held) (modes_of_owed (still_owed a.pending a.entry.owed)) (modes_of_owed (still_owed (a.pending ++ ask ∷ []) a.entry.owed)) (waiting_asked a ask)
    by_desk_more false = λ mode b. b

pub rests_kept : Rests
rests_kept a h may = (
  record {
    clocks = record {
      asks = h.clocks.asks;
      apart = h.clocks.apart;
      tells_made = λ tell c. no_later_at_all a.moving a.clock tell.stamp.clock (h.clocks.tells_made tell c);
      tells_apart = h.clocks.tells_apart;
      told = no_later_at_all a.moving a.clock a.entry.told_at.clock h.clocks.told;
      owed = λ copy c. no_later_at_all a.moving a.clock copy.stamp.clock (h.clocks.owed copy c);
    };
    known = h.known;
    owed = h.owed;
    charge = may;
    cover = h.cover;
    clear = h.clear;
  },
  ((λ mode b. b), (λ mode b. b)),
)

pub reorders_kept : Reorders
reorders_kept a tells copies h may = (
  record {
    clocks = record {
      asks = h.clocks.asks;
      apart = h.clocks.apart;
      tells_made = λ tell c. h.clocks.tells_made tell (may.tells_same.only tell c);
      tells_apart = λ x y cx cy. h.clocks.tells_apart x y (may.tells_same.only x cx) (may.tells_same.only y cy);
      told = h.clocks.told;
      owed = h.clocks.owed;
    };
    known = record {
      in_entry = h.known.in_entry;
      in_tells = λ own tell c t. h.known.in_tells own tell c (may.tells_same.only tell t);
      lists = λ later older l o. h.known.lists later older (may.tells_same.only later l) (may.tells_same.only older o);
      entry_list = λ tell n. h.known.entry_list tell (may.tells_same.only tell n.0, n.1);
    };
    owed = record {
      waits = λ own c. h.owed.waits own (may.copies_same.only own c);
      owed = λ own c. h.owed.owed own (may.copies_same.only own c);
      on_way = λ copy own c p same. let found = h.owed.on_way copy own c p same in (may.copies_same.kept own found.0, found.1);
      open_still = h.owed.open_still;
    };
    charge = h.charge;
    cover = λ away. let c = h.cover away in record {
      record_bound = λ mode b. c.record_bound mode (now_less mode b);
      left_bound = λ tell n mode b. c.left_bound tell (may.tells_same.only tell n.0, n.1) mode (now_less mode b);
      record_shrinks = λ tell n. c.record_shrinks tell (may.tells_same.only tell n.0, n.1);
      left_shrinks = λ later older l o. c.left_shrinks later older (may.tells_same.only later l.0, l.1) (may.tells_same.only older o.0, o.1);
      exact = elim c.exact [
        | inl e ↦ inl (λ mode b. now_more mode (e mode b))
        | inr e ↦ inr (e.0, (may.tells_same.kept e.0 e.1.0, e.1.1), λ mode b. now_more mode (e.2 mode b))
      ];
    };
    clear = record {
      copies_clear = λ x y cx cy. h.clear.copies_clear x y (may.copies_same.only x cx) (may.copies_same.only y cy);
      copy_and_held = λ own c. h.clear.copy_and_held own (may.copies_same.only own c);
      clients = h.clear.clients;
    };
  },
  ((λ mode b. b), (λ mode b. b)),
)
  where
    now_less : IsBelow (union a.charge (modes_of_asks copies)) (union a.charge (modes_of_asks a.copies))
    now_less mode b = now_with a.charge copies a.copies may.copies_same.only mode b

    now_more : IsBelow (union a.charge (modes_of_asks a.copies)) (union a.charge (modes_of_asks copies))
    now_more mode b = now_with a.charge a.copies copies may.copies_same.kept mode b

-- the frozen modes that an entry says were told are read by no part
pub freezes_kept : Freezes
freezes_kept a frozen h = (
  record {
    clocks = record {
      asks = h.clocks.asks;
      apart = h.clocks.apart;
      tells_made = h.clocks.tells_made;
      tells_apart = h.clocks.tells_apart;
      told = h.clocks.told;
      owed = h.clocks.owed;
    };
    known = record { in_entry = h.known.in_entry; in_tells = h.known.in_tells; lists = h.known.lists; entry_list = h.known.entry_list };
    owed = record { waits = h.owed.waits; owed = h.owed.owed; on_way = h.owed.on_way; open_still = h.owed.open_still };
    charge = h.charge;
    cover = λ away. let c = h.cover away in record {
      record_bound = c.record_bound;
      left_bound = c.left_bound;
      record_shrinks = c.record_shrinks;
      left_shrinks = c.left_shrinks;
      exact = c.exact;
    };
    clear = h.clear;
  },
  ((λ mode b. b), (λ mode b. b)),
)
