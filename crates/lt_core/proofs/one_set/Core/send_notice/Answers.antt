use Rattle.std.proofs.Common.{◌≡◌, ◌≢◌, ◌∙◌, ◌==◌, ◌<◌, ◌++◌, ◌%◌, ℕ, [], ◌∷◌, List, ap, append-nil, arith, length, subst, sym}
use Rattle.std.specs.Int.{bit_at}
use Rattle.lt_modes.specs.Freezing.{cons_if}
use Rattle.lt_modes.specs.Modes.{Modes}
use Rattle.lt_modes.specs.State.{SetState, FreezeBody, post_of}
use Rattle.lt_modes.specs.declared.event.Event.TheVariants.{Freeze}
use Rattle.lt_modes.specs.declared.stamp.Stamp.{Stamp}
use Rattle.lt_desk.specs.DeskData.{OutData, FitsOut, out_after}
use Rattle.lt_core.specs.Bound.{notices, node_if}
use Rattle.lt_core.specs.CoreData.{CoreData}
use Rattle.lt_core.proofs.StepLemmas.{line_left, post_left}
use Rattle.lt_core.proofs.one_set.Core.send_notice.Goals as goal

-- where the mask has no such node, nothing is sent
none_sent : (set : ℕ) (stamp : Stamp) (s : SetState) (frozen : Modes) (number mask x : ℕ) (out : OutData) → bit_at mask x ≡ 0
    → out ≡ out_after (notices set stamp s frozen number (node_if mask x)) out
none_sent set stamp s frozen number mask x out none =
    sym (ap (λ (b : ℕ). out_after (notices set stamp s frozen number (cons_if (b == 1) x [])) out) none
    ∙ (λ i. record out { posts = append-nil out.posts i; events = append-nil out.events i }))

odd : (n : ℕ) → n % 2 ≢ 0 → n % 2 ≡ 1
odd n h = omega (arith, h)

has_node : (mask x : ℕ) → bit_at mask x ≢ 0 → node_if mask x ≡ x ∷ []
has_node mask x h = ap (λ (b : ℕ). cons_if (b == 1) x []) (odd _ h)

pub overflow_shr-targets : goal.overflow_shr-targets
overflow_shr-targets c = c.requires.node

pub returns-then-targets-to-eq0 : goal.returns-then-targets-to-eq0
returns-then-targets-to-eq0 c =
    let core = c.args.self.now in
    let targets = c.args.targets.now in
    none_sent core.set c.args.stamp core.state targets.modes targets.number targets.nodes c.args.to c.args.out.now c.if-targets-to-eq0.true

pub push_event-requires : goal.push_event-requires
push_event-requires c =
    let core = c.args.self.now in
    let targets = c.args.targets.now in
    let fits = subst (λ (told : List ℕ). FitsOut (notices core.set c.args.stamp core.state targets.modes targets.number told) c.args.out.now) (has_node targets.nodes c.args.to c.if-targets-to-eq0.false) c.requires.fits in
    line_left (Freeze core.set c.args.to targets.number targets.modes) c.args.out.now fits.events

pub push_letter-requires : goal.push_letter-requires
push_letter-requires c =
    let core = c.args.self.now in
    let targets = c.args.targets.now in
    let fits = subst (λ (told : List ℕ). FitsOut (notices core.set c.args.stamp core.state targets.modes targets.number told) c.args.out.now) (has_node targets.nodes c.args.to c.if-targets-to-eq0.false) c.requires.fits in
    subst (λ (out : OutData). length out.posts < out.post_room) (sym c.push_event.ensures)
    (post_left (post_of core.set c.args.stamp core.state c.args.to (FreezeBody targets.number targets.modes)) c.args.out.now fits.posts)

pub returns : goal.returns
returns c =
    let core = c.args.self.now in
    let targets = c.args.targets.now in
    let out : OutData = c.args.out.now in
    let pushed = c.push_event.ensures in
    c.push_letter.ensures
    ∙ (λ i. record (pushed i) { posts = (pushed i).posts ++ c.post-post.ensures i ∷ [] })
    ∙ (λ i. record out {
      posts = out.posts ++ post_of core.set c.args.stamp core.state c.args.to (FreezeBody targets.number targets.modes) ∷ [];
      events = out.events ++ Freeze (ap (λ (k : CoreData). k.set) c.self.view_is i) c.args.to targets.number targets.modes ∷ [];
    })
    ∙ ap (λ (told : List ℕ). out_after (notices core.set c.args.stamp core.state targets.modes targets.number told) out) (sym (has_node targets.nodes c.args.to c.if-targets-to-eq0.false))
