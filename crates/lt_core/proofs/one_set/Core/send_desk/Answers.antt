use Rattle.std.proofs.Common.{◌≡◌, ◌∙◌, ◌+◌, ◌<◌, [], ◌∷◌, ◌++◌, Some, None, length, slice_index_or, ap, refl, subst, sym}
use Rattle.lt_modes.specs.declared.event.Event.TheVariants.{Token}
use Rattle.lt_modes.specs.State.{SetState, Desk, TokenBody, post_of, no_ask}
use Rattle.lt_modes.specs.HandingOver.{leaving, without_desk}
use Rattle.lt_link.specs.LinksData.{LinksData}
use Rattle.lt_desk.specs.DeskData.{OutData}
use Rattle.lt_core.specs.CoreData.{CoreData}
use Rattle.lt_core.proofs.StepLemmas.{line_left, post_left}
use Rattle.lt_core.proofs.StateSeen.{state_of}
use Rattle.lt_core.proofs.one_set.Core.send_desk.Goals as goal

pub hand_over-requires-clause-epoch : goal.hand_over-requires-clause-epoch
hand_over-requires-clause-epoch c = c.requires.epoch

pub push_event-requires : goal.push_event-requires
push_event-requires c = line_left _ c.args.out.now c.requires.fits.events

pub push_letter-requires : goal.push_letter-requires
push_letter-requires c =
    subst (λ (out : OutData). length out.posts < out.post_room) (sym c.push_event.ensures) (post_left _ c.args.out.now c.requires.fits.posts)

pub returns : goal.returns
returns c =
    let before = c.self.inside in
    let stamp = c.args.stamp in
    let desk : Desk = c.args.desk.desk in
    let out : OutData = c.args.out.now in
    let v = (slice_index_or desk.queue c.args.k no_ask).node in
    let s : SetState = state_of before in
    let to : c.ask-to.result.node ≡ v = ap (λ ask. ask.node) c.ask-to.ensures in
    let left : c.hand_over.new.self.desk ≡ leaving stamp s desk =
    c.hand_over.ensures.desk (record s { desk = Some desk }) (record { here = refl; rows = refl; unanswered = c.stamps.ensures }) in
    let epoch : c.epoch-epoch.result ≡ desk.epoch + 1 = c.epoch-epoch.ensures ∙ ap (λ (d : Desk). d.epoch) left in
    let gone : s.desk ≡ None = ap (λ (core : CoreData). core.state.desk) c.self.view_is ∙ c.requires.gone in
    let links = c.set.ensures.links in
    let state : record s { charge = c.modes-self-inside.result; firm = c.set.new.self.firm; hoped = c.set.new.self.hoped } ≡ without_desk s v (desk.epoch + 1) =
    (λ i. record s { charge = c.modes-self-inside.result; firm = (links i).firm; hoped = (links i).hoped })
    ∙ (λ i. record s { charge = c.modes-self-inside.ensures i; firm = record { node = to i; epoch = epoch i }; hoped = None; desk = gone i }) in
    let pushed = c.push_event.ensures in
    rw (← c.self.view_is)
    (record {
      does = record {
        node = ap (λ (l : LinksData). l.me) links;
        set = refl;
        state = state;
        sent = c.push_letter.ensures ∙ (λ i. record (pushed i) { posts = (pushed i).posts ++ c.post-post.ensures i ∷ [] })
            ∙ (λ i. record out {
              posts = out.posts ++ post_of before.set stamp (state i) (to i) (TokenBody (left i)) ∷ [];
              events = out.events ++ Token before.set (to i) (epoch i) ∷ [];
            });
      };
    })
