use Rattle.std.proofs.Common.{◌≡◌, ◌∙◌, ◌++◌, [], ◌∷◌, ap, append-nil, subst, sym}
use Rattle.lt_modes.specs.Routing.{body_of, reversed}
use Rattle.lt_modes.specs.State.{post_of}
use Rattle.lt_desk.specs.DeskData.{OutData}
use Rattle.lt_desk.specs.LetterSeen.{parked_seen}
use Rattle.lt_core.specs.CoreData.{CoreData, HasRoom}
use Rattle.lt_core.proofs.StepLemmas.{post_left, room_reversed}
use Rattle.lt_core.proofs.one_set.Core.send_on.Goals as goal

pub push_letter-requires : goal.push_letter-requires
push_letter-requires c =
    let core = c.args.self.now in
    post_left (post_of core.set c.args.stamp core.state c.args.to (body_of (parked_seen c.args.item) c.args.marked)) c.args.out.now c.requires.fits.posts

pub returns-clause-does : goal.returns-clause-does
returns-clause-does c =
    let core = c.args.self.now in
    let stamp = c.args.stamp in
    let out : OutData = c.args.out.now in
    let is = c.reverse.ensures in
    let set : c.self.inside.set ≡ core.set = ap (λ (k : CoreData). k.set) c.self.view_is ∙ ap (λ (k : CoreData). k.set) is in
    record {
      node = ap (λ (k : CoreData). k.node) is;
      set = ap (λ (k : CoreData). k.set) is;
      state = ap (λ (k : CoreData). k.state) is ∙ ap (λ me. reversed me (parked_seen c.args.item) core.state) (sym c.requires.node);
      sent = c.push_letter.ensures
          ∙ (λ i. record out {
            posts = out.posts ++ record { to = c.args.to; letter = record { stamp = stamp; set = set i; link = c.firm-link.ensures i; body = c.into_body.ensures i } } ∷ [];
            events = sym (append-nil out.events) i;
          });
    }

pub returns-clause-room : goal.returns-clause-room
returns-clause-room c = λ k clock room.
    subst (HasRoom k clock) (sym c.reverse.ensures) (room_reversed k clock c.args.self.now.node c.args.self.now (parked_seen c.args.item) room)
