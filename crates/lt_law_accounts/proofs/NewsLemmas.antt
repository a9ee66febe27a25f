-- The news of a node, as the desk freezes, as freezes arrive, and as the desk comes and goes.
use Rattle.std.proofs.Common.{◌≡◌, ◌+◌, ◌<◌, ◌≤◌, inl, inr, List, Bool, true, false, refl, sym, ap, subst, arith, ◌∙◌, nat_lt, Contains, if◌then◌else◌, ltb-true, lt-ltb}
use Rattle.std.proofs.lemmas.Bool.{both_ways, cases_lt}
use Rattle.lt_modes.specs.Modes.{has_none}
use Rattle.lt_modes.proofs.ModeAlgebra.{same_modes-true}
use Rattle.lt_law_accounts.specs.News.{News, Notice, NewsKept, MayTake, BeginsKeep, Changes, Sends, Spares, Keeps, TakesKeep, Leaves, Arrives, Reorders, FrozenAtRest}
use Rattle.lt_lists.proofs.Members.{none_in}

pub begins_kept : BeginsKeep
begins_kept n h = record {
  kept = h.kept;
  sent = h.sent;
  here = λ at between. cc;
  last_notice = h.last_notice;
  told = λ away between some. cc;
}

pub changes_kept : Changes
changes_kept n recorded wanted h serving = record {
  kept = h.kept;
  sent = h.sent;
  here = λ at between. absurd (both_ways n.serving between serving);
  last_notice = h.last_notice;
  told = λ away between some. absurd (both_ways n.serving between serving);
}

pub sends_kept : Sends
sends_kept n coming h may = record {
  kept = omega (arith, h.kept);
  sent = λ notice c. elim (may.sent.only notice c) [
    | inl before ↦ omega (arith, h.sent notice before)
    | inr new ↦ omega (arith, ap (λ (x : Notice). x.number) new)
  ];
  here = λ at between. absurd (both_ways n.here may.away at);
  last_notice = λ away notice last. elim last.0 [
    | inl own ↦ absurd (omega (
      arith,
      ap (λ (x : Notice). x.number) own,
      h.kept,
      last.1 (record { number = n.last + 1; modes = n.wanted }) (inr (may.sent.gained, omega (arith, h.kept))),
    ))
    | inr coming_notice ↦ elim (may.sent.only notice coming_notice.0) [
      | inl before ↦ absurd (omega (
        arith,
        h.sent notice before,
        last.1 (record { number = n.last + 1; modes = n.wanted }) (inr (may.sent.gained, omega (arith, h.kept))),
      ))
      | inr new ↦ ap (λ (x : Notice). x.modes) new
    ]
  ];
  told = λ away between some. refl;
}

pub spares_kept : Spares
spares_kept n last h may = record {
  kept = omega (arith, h.kept, may.later);
  sent = λ notice c. omega (arith, h.sent notice c, may.later);
  here = λ at between. absurd (both_ways n.here may.away at);
  last_notice = h.last_notice;
  told = λ away between some. elim may.knows [
    | inl none ↦ absurd (both_ways (has_none n.recorded) some none)
    | inr same ↦ same_modes-true n.told n.wanted same
  ];
}

pub keeps_kept : Keeps
keeps_kept n last h may = record {
  kept = omega arith;
  sent = λ notice c. omega (arith, h.sent notice c, may.later);
  here = λ at between. (refl, refl);
  last_notice = λ away. absurd (both_ways n.here away may.here);
  told = λ away between some. refl;
}

-- a freeze with a greater number takes the place of what is kept
taken_newer : (n : News) (notice : Notice) (coming : List Notice) → NewsKept n → MayTake notice coming n → n.number < notice.number
    → NewsKept (record n { number = notice.number; frozen = notice.modes; coming = coming })
taken_newer n notice coming h may newer = record {
  kept = h.sent notice may.came;
  sent = λ other c. h.sent other (may.left.only other c);
  here = λ at between. absurd (omega (arith, (h.here at between).0, h.sent notice may.came, newer));
  last_notice = λ away last_one last. h.last_notice away last_one (
    elim last.0 [
      | inl own ↦ inr (subst (λ (x : Notice). Contains n.coming x) (sym own) may.came, omega (arith, newer, ap (λ (x : Notice). x.number) own))
      | inr later ↦ inr (may.left.only last_one later.0, omega (arith, newer, later.1))
    ],
    λ other is_notice. elim is_notice [
      | inl own ↦ omega (arith, ap (λ (x : Notice). x.number) own, newer, last.1 notice (inl refl))
      | inr coming_notice ↦ elim (may.left.kept other coming_notice.0) [
        | inl still ↦ elim (cases_lt notice.number other.number) [
          | inl above ↦ last.1 other (inr (still, above))
          | inr under ↦ omega (arith, under, last.1 notice (inl refl))
        ]
        | inr same ↦ omega (arith, ap (λ (x : Notice). x.number) same, last.1 notice (inl refl))
      ]
    ],
  );
  told = h.told;
}

taken_older : (n : News) (notice : Notice) (coming : List Notice) → NewsKept n → MayTake notice coming n → notice.number ≤ n.number
    → NewsKept (record n { coming = coming })
taken_older n notice coming h may older = record {
  kept = h.kept;
  sent = λ other c. h.sent other (may.left.only other c);
  here = h.here;
  last_notice = λ away last_one last. h.last_notice away last_one (
    elim last.0 [
      | inl own ↦ inl own
      | inr later ↦ inr (may.left.only last_one later.0, later.1)
    ],
    λ other is_notice. elim is_notice [
      | inl own ↦ last.1 other (inl own)
      | inr coming_notice ↦ elim (may.left.kept other coming_notice.0) [
        | inl still ↦ last.1 other (inr (still, coming_notice.1))
        | inr same ↦ absurd (omega (arith, ap (λ (x : Notice). x.number) same, coming_notice.1, older))
      ]
    ],
  );
  told = h.told;
}

pub takes_kept : TakesKeep
takes_kept n notice coming h may = by_test (nat_lt n.number notice.number) refl
  where
    by_test : (newer : Bool) → nat_lt n.number notice.number ≡ newer
        → NewsKept (record n {
          number = if newer then notice.number else n.number;
          frozen = if newer then notice.modes else n.frozen;
          coming = coming;
        })
    by_test true e = taken_newer n notice coming h may (ltb-true n.number notice.number e)
    by_test false e = elim (cases_lt n.number notice.number) [
      | inl newer ↦ absurd (both_ways (nat_lt n.number notice.number) e (lt-ltb n.number notice.number newer))
      | inr older ↦ taken_older n notice coming h may older
    ]

pub leaves_kept : Leaves
leaves_kept n recorded h may = record {
  kept = h.kept;
  sent = h.sent;
  here = λ at. cc;
  last_notice = λ away notice last. elim last.0 [
    | inl own ↦ ap (λ (x : Notice). x.modes) own ∙ (h.here may.here may.frozen).1 ∙ sym may.knows
    | inr later ↦ absurd (omega (arith, (h.here may.here may.frozen).0, h.sent notice later.0, later.1))
  ];
  told = λ away between some. may.knows;
}

pub news_arrive : Arrives
news_arrive n h = record {
  kept = h.kept;
  sent = h.sent;
  here = λ at between. cc;
  last_notice = λ away. cc;
  told = λ away between some. cc;
}

pub news_reorder : Reorders
news_reorder n coming h same = record {
  kept = h.kept;
  sent = λ notice c. h.sent notice (same.only notice c);
  here = h.here;
  last_notice = λ away notice last. h.last_notice away notice (
    elim last.0 [
      | inl own ↦ inl own
      | inr later ↦ inr (same.only notice later.0, later.1)
    ],
    λ other is_notice. elim is_notice [
      | inl own ↦ last.1 other (inl own)
      | inr later ↦ last.1 other (inr (same.kept other later.0, later.1))
    ],
  );
  told = h.told;
}

pub frozen_at_rest : FrozenAtRest
frozen_at_rest n h between none known = by_desk n.here refl
  where
    by_desk : (here : Bool) → n.here ≡ here → n.frozen ≡ n.wanted
    by_desk true at = (h.here at between).1
    by_desk false away =
        h.last_notice away (record { number = n.number; modes = n.frozen }) (
          inl refl,
          λ other is_notice. elim is_notice [
            | inl own ↦ omega (arith, ap (λ (x : Notice). x.number) own)
            | inr later ↦ none_in other (subst (λ (l : List Notice). Contains l other) none later.0)
          ],
        )
        ∙ elim known [
          | inl at ↦ absurd (both_ways n.here away at)
          | inr some ↦ h.told away between some
        ]
