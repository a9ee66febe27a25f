use Rattle.std.proofs.Common.{◌≡◌, ◌∙◌, ◌+◌, ◌≤◌, ◌<◌, ◌++◌, [], ◌∷◌, Some, ap, length, refl, slice_index_or, subst, sym}
use Rattle.lt_modes.specs.Serving.{ask_at, owed_at, queue_of_desk}
use Rattle.lt_modes.specs.State.{SetState, CopyBody, no_ask, post_of}
use Rattle.lt_modes.specs.declared.event.Event.TheVariants as event
use Rattle.lt_desk.specs.DeskData.{OutData}
use Rattle.lt_core.specs.CoreData.{CoreData, desk_seen, room_by}
use Rattle.lt_core.proofs.StepLemmas.{line_left, post_left, owed_left, desk_room}
use Rattle.lt_core.proofs.StateSeen.{state_of}
use Rattle.lt_core.proofs.one_set.Core.send_copy.Goals as goal

pub copy-ask-requires-clause-place : goal.copy-ask-requires-clause-place
copy-ask-requires-clause-place c =
    subst (λ o. c.args.k < length (queue_of_desk o)) (sym (ap (λ (k : CoreData). k.state.desk) c.self.view_is) ∙ ap desk_seen c.in-Some.is) c.requires.within

pub copy-ask-requires-clause-spare : goal.copy-ask-requires-clause-spare
copy-ask-requires-clause-spare c =
    owed_left c.self.inside.desk c.in-Some.desk c.self.inside.held.spare c.in-Some.is (subst (λ (k : CoreData). 0 < k.room) (sym c.self.view_is) c.requires.room)

pub push_event-requires : goal.push_event-requires
push_event-requires c =
    let core = c.args.self.now in
    let ask = ask_at core.state c.args.k in
    line_left (event.Copy core.set ask.node ask.client ask.mode) c.args.out.now c.requires.fits.events

pub push_letter-requires : goal.push_letter-requires
push_letter-requires c =
    let core = c.args.self.now in
    let ask = ask_at core.state c.args.k in
    subst (λ (out : OutData). length out.posts < out.post_room) (sym c.push_event.ensures)
    (post_left (post_of core.set c.args.stamp core.state ask.node (CopyBody ask)) c.args.out.now c.requires.fits.posts)

pub returns-clause-does : goal.returns-clause-does
returns-clause-does c =
    let before = c.self.inside in
    let stamp = c.args.stamp in
    let out : OutData = c.args.out.now in
    let k = c.args.k in
    let s : SetState = state_of before in
    let here : s.desk ≡ Some c.in-Some.desk.desk = ap desk_seen c.in-Some.is in
    let is : c.copy-ask.result ≡ ask_at s k = c.copy-ask.ensures.ask ∙ ap (λ o. slice_index_or (queue_of_desk o) k no_ask) (sym here) in
    let pushed = c.push_event.ensures in
    rw (← c.self.view_is)
    (record {
      node = refl;
      set = refl;
      state = (λ i. record s { desk = c.copy-ask.ensures.desk i }) ∙ (λ i. record s { desk = owed_at (is i) k (sym here i) });
      sent = c.push_letter.ensures ∙ (λ i. record (pushed i) { posts = (pushed i).posts ++ c.post-post.ensures i ∷ [] })
          ∙ (λ i. record out {
            posts = out.posts ++ post_of before.set stamp s (is i).node (CopyBody (is i)) ∷ [];
            events = out.events ++ event.Copy before.set (is i).node (is i).client (is i).mode ∷ [];
          });
    })

pub returns-clause-room : goal.returns-clause-room
returns-clause-room c =
    let before = c.self.inside in (
      subst (λ (core : CoreData). core.room ≤ room_by (Some c.copy-ask.new.self) before.held.spare + 1) c.self.view_is
          (desk_room before.desk c.in-Some.desk c.copy-ask.new.self 1 before.held.spare c.in-Some.is c.copy-ask.ensures.room c.copy-ask.ensures.spare),
      ap (λ (core : CoreData). core.parked_room) c.self.view_is,
    )

pub returns-clause-tells : goal.returns-clause-tells
returns-clause-tells c = ap (λ (core : CoreData). core.tell_room) c.self.view_is
