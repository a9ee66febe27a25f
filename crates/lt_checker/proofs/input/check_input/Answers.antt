use Rattle.std.proofs.Common.{rules, ◌≡◌, ◌∙◌, ◌==◌, ◌<◌, ◌≤◌, false, ℕ, zero, suc, List, length, vec_len, sym, subst, arith}
use Rattle.lt_checker.specs.declared.limits.TheConstants.{MAX_JOURNAL}
use Rattle.lt_journal.specs.Split.{ArePassed}
use Rattle.lt_checker.specs.Heads.{IsHeadCut, IsReadTo}
use Rattle.lt_checker.proofs.Inputs.{fails_empty, told_ok, whole_ok, wants_ok}
use Rattle.lt_checker.proofs.input.check_input.Goals as goal

some_of : (n : ℕ) → n == 0 ≡ false → 0 < n
some_of zero none = absurd (cc)
some_of (suc n) none = omega arith

pub returns-then-is_empty-clause-err : goal.returns-then-is_empty-clause-err
returns-then-is_empty-clause-err g c =
    let none : length c.in_ok-head.head.bytes.items ≡ 0 = search rules in
    fails_empty c.in_ok-head.head.bytes.items c.in_ok-head.head.room _ _ none c.in_ok-head.ensures.cut c.in_ok-head.ensures.head

pub returns-clause-told : goal.returns-clause-told
returns-clause-told g c =
    let first = c.deref.result.now in
    let room = c.in_ok-head.head.room in
    let before = g.S.Source.state c.args.source.now in
    let read = g.S.Source.state c.read_head.new.source in
    let head = subst (λ (b : List ℕ). IsReadTo b room before read) (sym c.deref.ensures.value) c.in_ok-head.ensures.head in
    let answer = c.in_ok-judged.ensures.answer in
    told_ok first answer.0 room before read (g.S.Source.state c.judged.new.source) c.in_ok-judged.field-0 head answer.2 answer.1

pub returns-clause-whole : goal.returns-clause-whole
returns-clause-whole g c =
    let first = c.deref.result.now in
    let room = c.in_ok-head.head.room in
    let before = g.S.Source.state c.args.source.now in
    let read = g.S.Source.state c.read_head.new.source in
    let head = subst (λ (b : List ℕ). IsReadTo b room before read) (sym c.deref.ensures.value) c.in_ok-head.ensures.head in
    let few : length first ≤ MAX_JOURNAL = subst (λ (b : List ℕ). length b ≤ MAX_JOURNAL) (sym c.deref.ensures.value) c.in_ok-head.ensures.few in
    let answer = c.in_ok-judged.ensures.answer in
    whole_ok first answer.0 room before read (g.S.Source.state c.judged.new.source) c.in_ok-judged.field-0 few head answer.2

pub returns-clause-memory : goal.returns-clause-memory
returns-clause-memory g c =
    let first = c.deref.result.now in
    let room = c.in_ok-head.head.room in
    let before = g.S.Source.state c.args.source.now in
    let read = g.S.Source.state c.read_head.new.source in
    let head = subst (λ (b : List ℕ). IsReadTo b room before read) (sym c.deref.ensures.value) c.in_ok-head.ensures.head in
    let filled : 0 < vec_len c.in_ok-head.head.bytes = some_of (vec_len c.in_ok-head.head.bytes) (sym c.is_empty.ensures ∙ c.if-is_empty.false) in
    let kept : 0 < length c.in_ok-head.head.bytes.items = search (rules, filled) in
    let some : 0 < length first = subst (λ (b : List ℕ). 0 < length b) (sym c.deref.ensures.value) kept in
    let answer = c.in_ok-judged.ensures.answer in
    wants_ok first answer.0 room before read (g.S.Source.state c.judged.new.source) c.in_ok-judged.field-0 some head answer.2
    c.in_ok-judged.ensures.kept c.in_ok-judged.ensures.short answer.1

pub judged-requires-clause-few : goal.judged-requires-clause-few
judged-requires-clause-few g c =
    subst (λ (b : List ℕ). length b ≤ MAX_JOURNAL) (sym c.deref.ensures.value) c.in_ok-head.ensures.few

pub judged-requires-clause-cut : goal.judged-requires-clause-cut
judged-requires-clause-cut g c =
    subst (λ (b : List ℕ). IsHeadCut b c.in_ok-head.head.room) (sym c.deref.ensures.value) c.in_ok-head.ensures.cut

pub judged-requires-clause-passed : goal.judged-requires-clause-passed
judged-requires-clause-passed g c =
    let last = c.in_ok-head.head.last in
    subst (λ (b : List ℕ). ArePassed b last.place last.before) (sym c.deref.ensures.value) c.in_ok-head.ensures.passed

pub judged-requires-clause-room : goal.judged-requires-clause-room
judged-requires-clause-room g c = c.in_ok-head.ensures.room

pub returns-clause-kept : goal.returns-clause-kept
returns-clause-kept g c = c.in_ok-judged.ensures.kept

pub returns-clause-short : goal.returns-clause-short
returns-clause-short g c = c.in_ok-judged.ensures.short
