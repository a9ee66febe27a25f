use Rattle.std.proofs.Common.{rules, ◌≡◌, ◌≤◌, ◌++◌, vec_capacity}
use Rattle.lt_letters.specs.Spelling.{byte, ask_bytes, desk_bytes}
use Rattle.lt_letters.proofs.Puts.{two_put}
use Rattle.lt_letters.proofs.writing.put_body.Goals as goal

pub returns-in_ok-put_ask-in-Copy : goal.returns-in_ok-put_ask-in-Copy
returns-in_ok-put_ask-in-Copy c =
    let one : c.push-in-Copy.new.self.items ≡ c.args.out.now.items ++ byte 2 = search rules in
    let last : c.put_ask-in-Copy.new.out.items ≡ c.push-in-Copy.new.self.items ++ ask_bytes c.in-Copy.ask = search rules in
    let room : vec_capacity c.args.out.now ≤ vec_capacity c.put_ask-in-Copy.new.out = search rules in
    rw c.in-Copy.is (two_put c.args.out.now.items c.push-in-Copy.new.self.items c.put_ask-in-Copy.new.out.items (byte 2) (ask_bytes c.in-Copy.ask) one last, room)

pub returns-in_ok-put_desk-in-Token : goal.returns-in_ok-put_desk-in-Token
returns-in_ok-put_desk-in-Token c =
    let one : c.push-in-Token.new.self.items ≡ c.args.out.now.items ++ byte 3 = search rules in
    let last : c.put_desk.new.out.items ≡ c.push-in-Token.new.self.items ++ desk_bytes c.in-Token.desk.desk = search rules in
    let room : vec_capacity c.args.out.now ≤ vec_capacity c.put_desk.new.out = search rules in
    rw c.in-Token.is (two_put c.args.out.now.items c.push-in-Token.new.self.items c.put_desk.new.out.items (byte 3) (desk_bytes c.in-Token.desk.desk) one last, room)
