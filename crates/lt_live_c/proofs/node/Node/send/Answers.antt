-- The frame went out, or finds no room; or none waits.
use Rattle.std.proofs.Common.{◌<◌, length, subst, rules, refl, slice_set}
use Rattle.lt_live_c.specs.OwnNode.{OwnNode}
use Rattle.lt_live_c.specs.Nodes.{SendsFrames}
use Rattle.lt_live_c.proofs.Sending.{FrameAt, sends_none, sends_frame}
use Rattle.lt_live_c.proofs.node.Node.send.Goals as goal

pub returns-in-Err : goal.returns-in-Err
returns-in-Err c =
    let to = c.args.to in
    let was = c.index_mut-frame.result.now in
    let now = c.next_frame.new.frame in
    let a : OwnNode = record { remote = c.self.inside.remote; sessions = c.self.inside.sessions.items; ready = c.self.inside.ready.items } in
    let b : OwnNode = record { remote = c.next_frame.new.remote; sessions = c.self.inside.sessions.items; ready = slice_set c.self.inside.ready.items c.from.result now } in
    let below : to < length c.self.inside.ready.items = search rules in
    let at : FrameAt c.from.result to was now a b = record { below = below; at = c.from.ensures; was_is = search rules; now_is = refl; sessions = refl } in
    subst (λ (n : OwnNode). SendsFrames c.in-Err.code to c.args.length.now c.args.length.now c.args.buffer.now c.args.buffer.now n b) c.self.view_is
    (sends_none c.in-Err.code c.from.result to c.args.length.now c.args.buffer.now was now a b at c.in-Err.ensures.gives c.in-Err.ensures.none.0
    c.in-Err.ensures.none.1)

pub returns : goal.returns
returns c =
    let to = c.args.to in
    let was = c.index_mut-frame.result.now in
    let now = c.hand_over.new.frame in
    let a : OwnNode = record { remote = c.self.inside.remote; sessions = c.self.inside.sessions.items; ready = c.self.inside.ready.items } in
    let b : OwnNode = record { remote = c.next_frame.new.remote; sessions = c.self.inside.sessions.items; ready = slice_set c.self.inside.ready.items c.from.result now } in
    let below : to < length c.self.inside.ready.items = search rules in
    let at : FrameAt c.from.result to was now a b = record { below = below; at = c.from.ensures; was_is = search rules; now_is = refl; sessions = refl } in
    let some : 0 < length c.next_frame.new.frame.items = search rules in
    subst (λ (n : OwnNode). SendsFrames c.hand_over.result to c.args.length.now c.hand_over.new.length c.args.buffer.now c.hand_over.new.buffer n b) c.self.view_is
    (sends_frame c.hand_over.result c.from.result to c.args.length.now c.hand_over.new.length c.next_frame.new.frame.items c.args.buffer.now
    c.hand_over.new.buffer was now a b at c.in_default.ensures.gives some c.hand_over.ensures)
