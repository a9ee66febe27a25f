use Rattle.std.proofs.Common.{◌≡◌, ◌∷◌, ◌+◌, ◌<◌, List, length, drop, ap, sym, subst, refl, rules, arith, ◌∙◌, slice_set, remove}
use Rattle.std.proofs.lemmas.Option.{slice_get_read}
use Rattle.lt_merge.specs.declared.heads.Head.{Head}
use Rattle.lt_merge.specs.Heads.{AreHeads, Advances, IsHeadAt, entries_in, placed, settled_heads}
use Rattle.lt_merge.proofs.Taking.{first_inside, log_inside, advanced, ended}
use Rattle.lt_merge.proofs.heads.advance.Goals as goal

pub bounds-logs-head : goal.bounds-logs-head
bounds-logs-head c =
    let logs = c.args.logs.now in
    let head = c.args.head in
    let h = subst (AreHeads logs) c.requires.first c.requires.heads in
    log_inside logs head.log head.place (first_inside logs head (drop 1 c.args.heads.now.items) h)

pub offset_bounds-logs-head : goal.offset_bounds-logs-head
offset_bounds-logs-head c =
    let inside : c.args.head.log < length c.args.logs.now = bounds-logs-head c in
    search rules

pub overflow_add-head : goal.overflow_add-head
overflow_add-head c =
    let logs = c.args.logs.now in
    let head = c.args.head in
    let h = subst (AreHeads logs) c.requires.first c.requires.heads in
    let inside = first_inside logs head (drop 1 c.args.heads.now.items) h in
    let found = slice_get_read logs (length logs) head.log c.index-logs-head.result refl (log_inside logs head.log head.place inside) c.index-logs-head.is in
    omega (
      arith,
      inside,
      ap (λ o. length (entries_in o)) found,
      c.len-length.ensures,
      c.len-length.type_inv,
    )

pub head_at-requires : goal.head_at-requires
head_at-requires c =
    let logs = c.args.logs.now in
    let head = c.args.head in
    let h = subst (AreHeads logs) c.requires.first c.requires.heads in
    log_inside logs head.log head.place (first_inside logs head (drop 1 c.args.heads.now.items) h)

pub returns-in-Some : goal.returns-in-Some
returns-in-Some c =
    let logs = c.args.logs.now in
    let head = c.args.head in
    let others = drop 1 c.args.heads.now.items in
    let e = c.requires.first in
    let at = subst (IsHeadAt logs head.log (head.place + 1)) c.in-Some.is c.head_at.ensures in
    let now : c.settle.new.heads.items ≡ placed c.in-Some.next others = c.settle.ensures ∙ ap (λ (l : List Head). settled_heads (slice_set l 0 c.in-Some.next)) e in
    subst (λ (l : List Head). Advances logs head l c.settle.new.heads.items) (sym e) (subst (λ (l : List Head). Advances logs head (head ∷ others) l) (sym now)
    (advanced logs head c.in-Some.next others (subst (AreHeads logs) e c.requires.heads) at))

pub returns-in-None : goal.returns-in-None
returns-in-None c =
    let logs = c.args.logs.now in
    let head = c.args.head in
    let others = drop 1 c.args.heads.now.items in
    let e = c.requires.first in
    let at = subst (IsHeadAt logs head.log (head.place + 1)) c.in-None.is c.head_at.ensures in
    let now : c.remove.new.self.items ≡ others = c.remove.ensures.items ∙ ap (λ (l : List Head). remove l 0) e in
    subst (λ (l : List Head). Advances logs head l c.remove.new.self.items) (sym e) (subst (λ (l : List Head). Advances logs head (head ∷ others) l) (sym now)
    (ended logs head others (subst (AreHeads logs) e c.requires.heads) at))
