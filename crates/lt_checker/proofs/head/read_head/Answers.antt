use Rattle.std.proofs.Common.{rules, append-nil, [], ◌≡◌, ◌≢◌, ◌≤◌, ◌<◌, ◌+◌, ◌-◌, ◌++◌, ◌∙◌, ℕ, List, length, take, ap, sym, subst, vec_len, arith, length-take, length-append}
use Rattle.std.proofs.Math.Seq.{take-length}
use Rattle.std.proofs.lemmas.List.{take-append-le}
use Rattle.lt_io.proofs.Pieces.{nothing_read, read_more, read_out, fails_later, gives_up}
use Rattle.lt_io.specs.Streams.{ReadsOn, ReadsOut}
use Rattle.lt_text.specs.Text.{lines}
use Rattle.lt_law_journals.proofs.Inputs.{no_lines}
use Rattle.lt_checker.proofs.Passed.{last_passed}
use Rattle.lt_checker.specs.declared.limits.TheConstants.{MAX_JOURNAL}
use Rattle.lt_law_journals.specs.Checking.{IsSettled}
use Rattle.lt_journal.specs.Split.{ArePassed}
use Rattle.lt_checker.specs.Heads.{IsLastLine}
use Rattle.lt_checker.proofs.LastLines.{all_script, no_line}
use Rattle.lt_checker.proofs.head.read_head.Goals as goal

taken : (count : ℕ) (buf : List ℕ) → length (take count buf) ≤ count
taken count buf = omega (arith, length-take count buf)

taken_all : (count : ℕ) (buf : List ℕ) → count ≤ length buf → length (take count buf) ≡ count
taken_all count buf inside = omega (arith, inside, length-take count buf)

-- the bytes are no more than may come
few_bytes : (old new size count len : ℕ) → new ≡ old + size → size ≤ count → count ≤ MAX_JOURNAL - len → len ≡ old → old ≤ MAX_JOURNAL → new ≤ MAX_JOURNAL
few_bytes old new size count len grown size_few count_few len_is few = omega arith

within : (place seen old new size all : ℕ) → place ≤ old → seen ≡ old → new ≡ old + size → all ≡ new → (place ≤ seen) × (seen ≤ all)
within place seen old new size all inside seen_is grown all_is = (omega arith, omega arith)

fewer_left : (old new size count : ℕ) → new ≡ old + size → size ≡ count → count ≢ 0 → new ≤ MAX_JOURNAL → MAX_JOURNAL - new < MAX_JOURNAL - old
fewer_left old new size count grown size_is some few = omega (arith, some)

room_left : (all len room_len : ℕ) → len ≡ all → room_len ≡ len → len ≤ MAX_JOURNAL → all + (MAX_JOURNAL - room_len) ≡ MAX_JOURNAL
room_left all len room_len len_is room_is few = omega arith

-- the bytes that were seen before
seen_bytes : (old piece new all : List ℕ) (seen len : ℕ) → seen ≡ len → len ≡ length old → new ≡ old ++ piece → all ≡ new → take seen all ≡ old
seen_bytes old piece new all seen len seen_is len_is new_is all_is =
    ap (take seen) (all_is ∙ new_is)
    ∙ (ap (λ (n : ℕ). take n (old ++ piece)) (seen_is ∙ len_is) ∙ (take-append-le (length old) old piece (omega arith) ∙ take-length old))

-- and those before a place in them
front_bytes : (old piece new all : List ℕ) (place len : ℕ) → place ≤ len → len ≡ length old → new ≡ old ++ piece → all ≡ new → take place all ≡ take place old
front_bytes old piece new all place len inside len_is new_is all_is =
    ap (take place) (all_is ∙ new_is) ∙ take-append-le place old piece (omega (arith, inside, len_is))

pub returns-in_err-count-clause-err : goal.returns-in_err-count-clause-err
returns-in_err-count-clause-err g c =
    let read = c.loop-bytes.invariant in
    let fails = fails_later _ c.loop-bytes.bytes.items _ MAX_JOURNAL _ _ _ (omega (arith, read.no_longer)) read.read c.in_err-count.ensures.err in
    search (rules, fails)

pub returns-in_err-extend_from_slice-clause-err : goal.returns-in_err-extend_from_slice-clause-err
returns-in_err-extend_from_slice-clause-err g c =
    let read = c.loop-bytes.invariant in
    let bytes = c.loop-bytes.bytes.items in
    let piece = take c.in_ok-count.count c.read_piece.new.buf in
    let more = read_more bytes piece _ _ _ read.read (c.in_ok-count.ensures.piece (omega (arith, c.if-count-eq0.false))) in
    let fails = gives_up (bytes ++ piece) MAX_JOURNAL _ _
    (omega (arith, length-append bytes piece, length-take c.in_ok-count.count c.read_piece.new.buf, read.no_longer, c.in_ok-count.ensures.within.0)) more in
    search (rules, fails)

pub loop-bytes-init : goal.loop-bytes-init
loop-bytes-init g c =
    let none : vec_len c.new-bytes.result ≡ 0 = search rules in
    let state = g.S.Source.state c.args.source.now in
    record {
      read = subst (λ (bytes : List ℕ). ReadsOn bytes state state) (sym c.new-bytes.ensures.items) (nothing_read state);
      no_longer = omega (arith, none);
      place = omega arith;
      line = subst (λ (bytes : List ℕ). IsLastLine bytes 0) (sym c.new-bytes.ensures.items) no_line;
      before = subst (λ (bytes : List ℕ). 0 ≡ length (lines (take 0 bytes))) (sym c.new-bytes.ensures.items) (sym (ap length no_lines));
    }

pub returns-then-count-eq0-clause-cut : goal.returns-then-count-eq0-clause-cut
returns-then-count-eq0-clause-cut g c = all_script c.loop-bytes.bytes.items c.loop-bytes.last.place c.loop-bytes.invariant.line

pub returns-then-count-eq0-clause-passed : goal.returns-then-count-eq0-clause-passed
returns-then-count-eq0-clause-passed g c =
    let kept = c.loop-bytes.invariant in
    last_passed c.loop-bytes.bytes.items c.loop-bytes.last.place c.loop-bytes.last.before kept.line kept.before

pub loop-bytes-preserved : goal.loop-bytes-preserved
loop-bytes-preserved g c =
    let found = c.last_line-has_come in
    let place = found.result.0.place in
    let count = found.result.0.before in
    let bytes = c.loop-bytes.bytes.items in
    let piece = take c.in_ok-count.count c.read_piece.new.buf in
    let more = read_more bytes piece _ _ _ c.loop-bytes.invariant.read (c.in_ok-count.ensures.piece (omega (arith, c.if-count-eq0.false))) in
    let all = c.extend_from_slice.new.self.items in
    let within : place ≤ length all = subst (λ (b : List ℕ). place ≤ length b) c.deref.ensures.value found.ensures.passed.within in
    record {
      read = search (rules, more);
      no_longer = search rules;
      place = search (rules, within);
      line = subst (λ (b : List ℕ). IsLastLine b place) c.deref.ensures.value (found.ensures.line c.if-has_come.false);
      before = subst (λ (b : List ℕ). count ≡ length (lines (take place b))) c.deref.ensures.value found.ensures.before;
    }

pub last_line-has_come-requires-clause-few : goal.last_line-has_come-requires-clause-few
last_line-has_come-requires-clause-few g c =
    let old = c.loop-bytes.bytes in
    let new = c.extend_from_slice.new.self in
    let count = c.in_ok-count.count in
    let few = few_bytes (vec_len old) (vec_len new) _ count _ c.in_ok-extend_from_slice.ensures.len (taken count c.read_piece.new.buf) c.in_ok-count.ensures.within.0 c.len.ensures c.loop-bytes.invariant.no_longer in
    subst (λ (n : ℕ). n ≤ MAX_JOURNAL) (sym c.deref.ensures.len) few

pub last_line-has_come-requires-clause-places : goal.last_line-has_come-requires-clause-places
last_line-has_come-requires-clause-places g c =
    within c.loop-bytes.last.place c.len-seen.result (vec_len c.loop-bytes.bytes) (vec_len c.extend_from_slice.new.self) _ (length c.deref.result.now) c.loop-bytes.invariant.place
    c.len-seen.ensures c.in_ok-extend_from_slice.ensures.len c.deref.ensures.len

pub last_line-has_come-requires-clause-line : goal.last_line-has_come-requires-clause-line
last_line-has_come-requires-clause-line g c =
    let old = c.loop-bytes.bytes in
    let place = c.loop-bytes.last.place in
    let seen = seen_bytes old.items (take c.in_ok-count.count c.read_piece.new.buf) c.extend_from_slice.new.self.items c.deref.result.now c.len-seen.result (vec_len old) c.len-seen.ensures old.ok.0
    c.in_ok-extend_from_slice.ensures.items c.deref.ensures.value in
    subst (λ (b : List ℕ). IsLastLine b place) (sym seen) c.loop-bytes.invariant.line

pub last_line-has_come-requires-clause-before : goal.last_line-has_come-requires-clause-before
last_line-has_come-requires-clause-before g c =
    let old = c.loop-bytes.bytes in
    let front = front_bytes old.items (take c.in_ok-count.count c.read_piece.new.buf) c.extend_from_slice.new.self.items c.deref.result.now c.loop-bytes.last.place (vec_len old) c.loop-bytes.invariant.place
    old.ok.0 c.in_ok-extend_from_slice.ensures.items c.deref.ensures.value in
    c.loop-bytes.invariant.before ∙ ap (λ (b : List ℕ). length (lines b)) (sym front)

pub returns-then-has_come-clause-few : goal.returns-then-has_come-clause-few
returns-then-has_come-clause-few g c =
    let old = c.loop-bytes.bytes in
    let new = c.extend_from_slice.new.self in
    let count = c.in_ok-count.count in
    let few = few_bytes (vec_len old) (vec_len new) _ count _ c.in_ok-extend_from_slice.ensures.len (taken count c.read_piece.new.buf) c.in_ok-count.ensures.within.0 c.len.ensures c.loop-bytes.invariant.no_longer in
    subst (λ (n : ℕ). n ≤ MAX_JOURNAL) new.ok.0 few

pub returns-then-has_come-clause-cut : goal.returns-then-has_come-clause-cut
returns-then-has_come-clause-cut g c =
    subst IsSettled c.deref.ensures.value (c.last_line-has_come.ensures.settled c.if-has_come.true)

pub returns-then-has_come-clause-passed : goal.returns-then-has_come-clause-passed
returns-then-has_come-clause-passed g c =
    let next = c.last_line-has_come.result.0 in
    subst (λ (b : List ℕ). ArePassed b next.place next.before) c.deref.ensures.value c.last_line-has_come.ensures.passed

pub returns-then-has_come-clause-head : goal.returns-then-has_come-clause-head
returns-then-has_come-clause-head g c =
    let before = g.S.Source.state c.args.source.now in
    let after = g.S.Source.state c.read_piece.new.source in
    let old = c.loop-bytes.bytes in
    let new = c.extend_from_slice.new.self in
    let count = c.in_ok-count.count in
    let few = few_bytes (vec_len old) (vec_len new) _ count _ c.in_ok-extend_from_slice.ensures.len (taken count c.read_piece.new.buf) c.in_ok-count.ensures.within.0 c.len.ensures c.loop-bytes.invariant.no_longer in
    let more = read_more old.items (take count c.read_piece.new.buf) _ _ _ c.loop-bytes.invariant.read (c.in_ok-count.ensures.piece (omega (arith, c.if-count-eq0.false))) in (
      room_left (length new.items) (vec_len new) c.len-room.result new.ok.0 c.len-room.ensures few,
      subst (λ (b : List ℕ). ReadsOn b before after) (sym c.in_ok-extend_from_slice.ensures.items) more,
    )

pub returns-then-count-eq0-clause-few : goal.returns-then-count-eq0-clause-few
returns-then-count-eq0-clause-few g c =
    subst (λ (n : ℕ). n ≤ MAX_JOURNAL) c.loop-bytes.bytes.ok.0 c.loop-bytes.invariant.no_longer

pub returns-then-count-eq0-clause-head : goal.returns-then-count-eq0-clause-head
returns-then-count-eq0-clause-head g c =
    let before = g.S.Source.state c.args.source.now in
    let after = g.S.Source.state c.read_piece.new.source in
    let items = c.loop-bytes.bytes.items in
    subst (λ (b : List ℕ). ReadsOut b before after) (append-nil items) (read_out items [] _ _ _ c.loop-bytes.invariant.read (c.in_ok-count.ensures.end c.if-count-eq0.true))

pub loop-bytes-smaller : goal.loop-bytes-smaller
loop-bytes-smaller g c =
    let old = c.loop-bytes.bytes in
    let new = c.extend_from_slice.new.self in
    let count = c.in_ok-count.count in
    let size = taken_all count c.read_piece.new.buf c.in_ok-count.ensures.within.1 in
    let few = few_bytes (vec_len old) (vec_len new) _ count _ c.in_ok-extend_from_slice.ensures.len (taken count c.read_piece.new.buf) c.in_ok-count.ensures.within.0 c.len.ensures c.loop-bytes.invariant.no_longer in
    fewer_left (vec_len old) (vec_len new) _ count c.in_ok-extend_from_slice.ensures.len size c.if-count-eq0.false few
