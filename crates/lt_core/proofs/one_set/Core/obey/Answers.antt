use Rattle.std.proofs.Common.{◌∙◌, ap, subst, sym}
use Rattle.lt_modes.specs.SetMove.{dropped}
use Rattle.lt_desk.specs.DeskData.{FitsOut}
use Rattle.lt_core.specs.CoreData.{Does, RoomForCommand, answer_of, commanded}
use Rattle.lt_core.specs.declared.set_command.Answer.TheVariants as told
use Rattle.lt_core.specs.declared.set_command.SetCommand.{SetCommand}
use Rattle.lt_core.proofs.NoticeLemmas.{out_silent}
use Rattle.lt_core.proofs.one_set.Core.obey.Goals as goal

pub lock-requires-clause-room : goal.lock-requires-clause-room
lock-requires-clause-room c = subst (RoomForCommand c.args.client c.args.stamp.clock c.args.self.now) c.in-Lock.is c.requires.room

pub lock-requires-clause-fits : goal.lock-requires-clause-fits
lock-requires-clause-fits c =
    let core = c.args.self.now in
    subst (λ (command : SetCommand). FitsOut (commanded c.args.stamp c.args.client command core.set core.state) c.args.out.now) c.in-Lock.is c.requires.fits

pub returns-in-Lock-clause-answer : goal.returns-in-Lock-clause-answer
returns-in-Lock-clause-answer c =
    c.lock.ensures.answer ∙ ap (λ (command : SetCommand). answer_of c.args.stamp.node c.args.client command c.args.self.now.state) (sym c.in-Lock.is)

pub returns-in-Lock-clause-does : goal.returns-in-Lock-clause-does
returns-in-Lock-clause-does c =
    let core = c.args.self.now in
    subst (λ (command : SetCommand). Does (commanded c.args.stamp c.args.client command core.set core.state) core c.args.out.now c.lock.new.self c.lock.new.out)
    (sym c.in-Lock.is) c.lock.ensures.does

pub returns-in-Lock-clause-room : goal.returns-in-Lock-clause-room
returns-in-Lock-clause-room c = c.lock.ensures.room

pub try_lock-requires-clause-room : goal.try_lock-requires-clause-room
try_lock-requires-clause-room c = subst (RoomForCommand c.args.client c.args.stamp.clock c.args.self.now) c.in-Try.is c.requires.room

pub try_lock-requires-clause-fits : goal.try_lock-requires-clause-fits
try_lock-requires-clause-fits c =
    let core = c.args.self.now in
    subst (λ (command : SetCommand). FitsOut (commanded c.args.stamp c.args.client command core.set core.state) c.args.out.now) c.in-Try.is c.requires.fits

pub returns-in-Try-clause-answer : goal.returns-in-Try-clause-answer
returns-in-Try-clause-answer c =
    c.try_lock.ensures.answer ∙ ap (λ (command : SetCommand). answer_of c.args.stamp.node c.args.client command c.args.self.now.state) (sym c.in-Try.is)

pub returns-in-Try-clause-does : goal.returns-in-Try-clause-does
returns-in-Try-clause-does c =
    let core = c.args.self.now in
    subst (λ (command : SetCommand). Does (commanded c.args.stamp c.args.client command core.set core.state) core c.args.out.now c.try_lock.new.self c.try_lock.new.out)
    (sym c.in-Try.is) c.try_lock.ensures.does

pub returns-in-Try-clause-room : goal.returns-in-Try-clause-room
returns-in-Try-clause-room c = c.try_lock.ensures.room

pub unlock-requires-clause-room : goal.unlock-requires-clause-room
unlock-requires-clause-room c = subst (RoomForCommand c.args.client c.args.stamp.clock c.args.self.now) c.in-Unlock.is c.requires.room

pub unlock-requires-clause-fits : goal.unlock-requires-clause-fits
unlock-requires-clause-fits c =
    let core = c.args.self.now in
    subst (λ (command : SetCommand). FitsOut (commanded c.args.stamp c.args.client command core.set core.state) c.args.out.now) c.in-Unlock.is c.requires.fits

pub returns-in-Unlock-clause-answer : goal.returns-in-Unlock-clause-answer
returns-in-Unlock-clause-answer c =
    c.unlock.ensures.answer ∙ ap (λ (command : SetCommand). answer_of c.args.stamp.node c.args.client command c.args.self.now.state) (sym c.in-Unlock.is)

pub returns-in-Unlock-clause-does : goal.returns-in-Unlock-clause-does
returns-in-Unlock-clause-does c =
    let core = c.args.self.now in
    subst (λ (command : SetCommand). Does (commanded c.args.stamp c.args.client command core.set core.state) core c.args.out.now c.unlock.new.self c.unlock.new.out)
    (sym c.in-Unlock.is) c.unlock.ensures.does

pub returns-in-Unlock-clause-room : goal.returns-in-Unlock-clause-room
returns-in-Unlock-clause-room c = c.unlock.ensures.room

pub change-requires-clause-room : goal.change-requires-clause-room
change-requires-clause-room c = subst (RoomForCommand c.args.client c.args.stamp.clock c.args.self.now) c.in-Change.is c.requires.room

pub change-requires-clause-fits : goal.change-requires-clause-fits
change-requires-clause-fits c =
    let core = c.args.self.now in
    subst (λ (command : SetCommand). FitsOut (commanded c.args.stamp c.args.client command core.set core.state) c.args.out.now) c.in-Change.is c.requires.fits

pub returns-in-Change-clause-answer : goal.returns-in-Change-clause-answer
returns-in-Change-clause-answer c =
    c.change.ensures.answer ∙ ap (λ (command : SetCommand). answer_of c.args.stamp.node c.args.client command c.args.self.now.state) (sym c.in-Change.is)

pub returns-in-Change-clause-does : goal.returns-in-Change-clause-does
returns-in-Change-clause-does c =
    let core = c.args.self.now in
    subst (λ (command : SetCommand). Does (commanded c.args.stamp c.args.client command core.set core.state) core c.args.out.now c.change.new.self c.change.new.out)
    (sym c.in-Change.is) c.change.ensures.does

pub returns-in-Change-clause-room : goal.returns-in-Change-clause-room
returns-in-Change-clause-room c = c.change.ensures.room

pub drop_all-requires : goal.drop_all-requires
drop_all-requires c = record { room = subst (RoomForCommand c.args.client c.args.stamp.clock c.args.self.now) c.in-DropAll.is c.requires.room }

pub returns-in-DropAll-clause-answer : goal.returns-in-DropAll-clause-answer
returns-in-DropAll-clause-answer c =
    ap told.Dropped c.drop_all.ensures.count ∙ ap (λ (command : SetCommand). answer_of c.args.stamp.node c.args.client command c.args.self.now.state) (sym c.in-DropAll.is)

pub returns-in-DropAll-clause-does : goal.returns-in-DropAll-clause-does
returns-in-DropAll-clause-does c =
    let core = c.args.self.now in
    let out = c.args.out.now in
    subst (λ (command : SetCommand). Does (commanded c.args.stamp c.args.client command core.set core.state) core out c.drop_all.new.self out) (sym c.in-DropAll.is)
    (record { node = c.drop_all.ensures.place.0; set = c.drop_all.ensures.place.1; state = c.drop_all.ensures.state; sent = sym (out_silent (dropped c.args.client core.state) out) })

pub returns-in-DropAll-clause-room : goal.returns-in-DropAll-clause-room
returns-in-DropAll-clause-room c = c.drop_all.ensures.room
