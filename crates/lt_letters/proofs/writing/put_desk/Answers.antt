use Rattle.std.proofs.Common.{rules, ◌≡◌, ◌≤◌, ◌++◌, vec_capacity}
use Rattle.lt_letters.specs.Spelling.{number64, asks_bytes, entries_bytes}
use Rattle.lt_letters.proofs.Puts.{four}
use Rattle.lt_letters.proofs.writing.put_desk.Goals as goal

pub returns : goal.returns
returns c =
    let d = c.args.desk.now.desk in
    let one : c.extend_from_slice.new.self.items ≡ c.args.out.now.items ++ number64 d.epoch = search rules in
    let two : c.extend_from_slice-2.new.self.items ≡ c.extend_from_slice.new.self.items ++ number64 d.number = search rules in
    let three : c.put_asks.new.out.items ≡ c.extend_from_slice-2.new.self.items ++ asks_bytes d.queue = search rules in
    let last : c.put_entries.new.out.items ≡ c.put_asks.new.out.items ++ entries_bytes d.entries = search rules in
    let room : vec_capacity c.args.out.now ≤ vec_capacity c.put_entries.new.out = search rules in (
      four c.args.out.now.items _ _ _ _ (number64 d.epoch) (number64 d.number) (asks_bytes d.queue) (entries_bytes d.entries) one two three last,
      room,
    )
