use Rattle.std.proofs.Common.{◌≡◌, ◌∙◌, ℕ, Bool, true, false, None, ap, nat_lt, if◌then◌else◌, subst, sym}
use Rattle.lt_modes.specs.Modes.{Modes}
use Rattle.lt_modes.specs.State.{Made}
use Rattle.lt_modes.specs.Taking.{arrive, take_body, take_freeze, take_token}
use Rattle.lt_modes.specs.Routing.{learn}
use Rattle.lt_modes.specs.declared.parts.Link.{Link}
use Rattle.lt_modes.specs.declared.stamp.Stamp.{Stamp}
use Rattle.lt_desk.specs.DeskData.{DeskData, OutData, FitsOut, out_after}
use Rattle.lt_desk.specs.LetterSeen.{letter_seen, body_seen}
use Rattle.lt_desk.specs.declared.letter.Body.{Body}
use Rattle.lt_desk.specs.declared.letter.Body.TheVariants.{Ask, Copy, Token, Freeze}
use Rattle.lt_desk.specs.declared.letter.Letter.{Letter}
use Rattle.lt_core.specs.CoreData.{CoreData, Does, HasRoom, RoomForBody, RoomForDesk}
use Rattle.lt_core.proofs.NoticeLemmas.{out_silent, room_less}
use Rattle.lt_core.proofs.one_set.Core.arrive.Goals as goal

-- the core once it learnt the link
abbrev learnt : CoreData → Link → CoreData
learnt core link = record core { state = learn link core.state }

-- what is left to do then
body_is : (stamp : Stamp) (letter : Letter) (body : Body) (old after : CoreData) → after ≡ learnt old letter.link → letter.set ≡ old.set → letter.body ≡ body
    → arrive stamp (letter_seen letter) old.state ≡ take_body after.set stamp (body_seen body) after.state
body_is stamp letter body old after left set is =
    (λ i. take_body (set i) stamp (body_seen (is i)) (learn letter.link old.state))
    ∙ ap (λ (core : CoreData). take_body core.set stamp (body_seen body) core.state) (sym left)

body_done : (stamp : Stamp) (letter : Letter) (body : Body) (old after new : CoreData) (had out : OutData)
    → after ≡ learnt old letter.link → letter.set ≡ old.set → letter.body ≡ body
    → Does (take_body after.set stamp (body_seen body) after.state) after had new out → Does (arrive stamp (letter_seen letter) old.state) old had new out
body_done stamp letter body old after new had out left set is done =
    let same = sym (body_is stamp letter body old after left set is) in
    record {
      node = done.node ∙ ap (λ (core : CoreData). core.node) left;
      set = done.set ∙ ap (λ (core : CoreData). core.set) left;
      state = done.state ∙ ap (λ (made : Made). made.state) same;
      sent = done.sent ∙ ap (λ (made : Made). out_after made had) same;
    }

body_fits : (stamp : Stamp) (letter : Letter) (body : Body) (old after : CoreData) (out : OutData)
    → after ≡ learnt old letter.link → letter.set ≡ old.set → letter.body ≡ body
    → FitsOut (arrive stamp (letter_seen letter) old.state) out → FitsOut (take_body after.set stamp (body_seen body) after.state) out
body_fits stamp letter body old after out left set is = subst (λ (made : Made). FitsOut made out) (body_is stamp letter body old after left set is)

-- the room for a desk doesn't depend on links
desk_by : (clock : ℕ) (core : CoreData) (d : DeskData) (link : Link) (b : Bool) → RoomForDesk clock core d
    → RoomForDesk clock (record core { state = if b then record core.state { firm = link; hoped = None } else core.state }) d
desk_by clock core d link true h = record { places = h.places; owed = h.owed; rows = h.rows; locks = h.locks; epoch = h.epoch; number = h.number }
desk_by clock core d link false h = record { places = h.places; owed = h.owed; rows = h.rows; locks = h.locks; epoch = h.epoch; number = h.number }

-- nor does other room depend on freezes
frozen_by : (k clock : ℕ) (core : CoreData) (number : ℕ) (modes : Modes) (b : Bool) → HasRoom k clock core
    → HasRoom k clock (record core { state = if b then record core.state { frozen = modes; number = number } else core.state })
frozen_by k clock core number modes true h = record { rows = h.rows; parked = h.parked; locks = h.locks; epoch = h.epoch; number = h.number; tells = h.tells }
frozen_by k clock core number modes false h = record { rows = h.rows; parked = h.parked; locks = h.locks; epoch = h.epoch; number = h.number; tells = h.tells }

same_node : (stamp : Stamp) (link : Link) (old after : CoreData) → stamp.node ≡ old.node → after ≡ learnt old link → stamp.node ≡ after.node
same_node stamp link old after node left = node ∙ ap (λ (core : CoreData). core.node) (sym left)

pub route-requires-clause-node : goal.route-requires-clause-node
route-requires-clause-node c = same_node c.args.stamp c.args.letter.link c.args.self.now c.learn.new.self c.requires.node c.learn.ensures.core

pub route-requires-clause-rows : goal.route-requires-clause-rows
route-requires-clause-rows c = (room_less 1 c.args.stamp.clock c.learn.new.self (c.learn.ensures.room 2 c.args.stamp.clock c.requires.room)).rows

pub route-requires-clause-parked : goal.route-requires-clause-parked
route-requires-clause-parked c = (room_less 1 c.args.stamp.clock c.learn.new.self (c.learn.ensures.room 2 c.args.stamp.clock c.requires.room)).parked

pub route-requires-clause-fits : goal.route-requires-clause-fits
route-requires-clause-fits c =
    body_fits c.args.stamp c.args.letter (Ask c.in-Ask.ask c.in-Ask.by_hoped) c.args.self.now c.learn.new.self c.args.out.now c.learn.ensures.core c.requires.set c.in-Ask.is c.requires.fits

pub route-requires-in-Tell-clause-node : goal.route-requires-in-Tell-clause-node
route-requires-in-Tell-clause-node c = same_node c.args.stamp c.args.letter.link c.args.self.now c.learn.new.self c.requires.node c.learn.ensures.core

pub route-requires-in-Tell-clause-rows : goal.route-requires-in-Tell-clause-rows
route-requires-in-Tell-clause-rows c = (room_less 1 c.args.stamp.clock c.learn.new.self (c.learn.ensures.room 2 c.args.stamp.clock c.requires.room)).rows

pub route-requires-in-Tell-clause-parked : goal.route-requires-in-Tell-clause-parked
route-requires-in-Tell-clause-parked c = (room_less 1 c.args.stamp.clock c.learn.new.self (c.learn.ensures.room 2 c.args.stamp.clock c.requires.room)).parked

pub take_copy-requires-clause-room : goal.take_copy-requires-clause-room
take_copy-requires-clause-room c = c.learn.ensures.room 2 c.args.stamp.clock c.requires.room

pub take_copy-requires-clause-fits : goal.take_copy-requires-clause-fits
take_copy-requires-clause-fits c =
    body_fits c.args.stamp c.args.letter (Copy c.in-Copy.ask) c.args.self.now c.learn.new.self c.args.out.now c.learn.ensures.core c.requires.set c.in-Copy.is c.requires.fits

pub take_token-requires-clause-node : goal.take_token-requires-clause-node
take_token-requires-clause-node c = same_node c.args.stamp c.args.letter.link c.args.self.now c.learn.new.self c.requires.node c.learn.ensures.core

pub take_token-requires-clause-core : goal.take_token-requires-clause-core
take_token-requires-clause-core c = c.learn.ensures.room 2 c.args.stamp.clock c.requires.room

pub take_token-requires-clause-desk : goal.take_token-requires-clause-desk
take_token-requires-clause-desk c =
    let core = c.args.self.now in
    let link = c.args.letter.link in
    rw c.in-Token.is
    (subst (λ (k : CoreData). RoomForDesk c.args.stamp.clock k c.in-Token.desk) (sym c.learn.ensures.core)
    (desk_by c.args.stamp.clock core c.in-Token.desk link (nat_lt core.state.firm.epoch link.epoch) (subst (RoomForBody c.args.stamp.clock core) c.in-Token.is c.requires.desk)))

pub returns-in-Ask-clause-does : goal.returns-in-Ask-clause-does
returns-in-Ask-clause-does c =
    body_done c.args.stamp c.args.letter (Ask c.in-Ask.ask c.in-Ask.by_hoped) c.args.self.now c.learn.new.self c.route.new.self c.args.out.now c.route.new.out
    c.learn.ensures.core c.requires.set c.in-Ask.is c.route.ensures.does

pub returns-in-Ask-clause-room : goal.returns-in-Ask-clause-room
returns-in-Ask-clause-room c = c.route.ensures.room 1 c.args.stamp.clock (c.learn.ensures.room 2 c.args.stamp.clock c.requires.room)

pub returns-in-Tell-clause-room : goal.returns-in-Tell-clause-room
returns-in-Tell-clause-room c = c.route-in-Tell.ensures.room 1 c.args.stamp.clock (c.learn.ensures.room 2 c.args.stamp.clock c.requires.room)

pub returns-in-Copy-clause-does : goal.returns-in-Copy-clause-does
returns-in-Copy-clause-does c =
    body_done c.args.stamp c.args.letter (Copy c.in-Copy.ask) c.args.self.now c.learn.new.self c.take_copy.new.self c.args.out.now c.take_copy.new.out
    c.learn.ensures.core c.requires.set c.in-Copy.is c.take_copy.ensures.does

pub returns-in-Copy-clause-room : goal.returns-in-Copy-clause-room
returns-in-Copy-clause-room c = c.take_copy.ensures.room

pub returns-in-Token-clause-does : goal.returns-in-Token-clause-does
returns-in-Token-clause-does c =
    let after = c.learn.new.self in
    let stamp = c.args.stamp in
    let desk = c.in-Token.desk.desk in
    let same = same_node stamp c.args.letter.link c.args.self.now after c.requires.node c.learn.ensures.core in
    body_done stamp c.args.letter (Token c.in-Token.desk) c.args.self.now after c.take_token.new.self c.args.out.now c.args.out.now c.learn.ensures.core c.requires.set c.in-Token.is
    (record {
      node = c.take_token.ensures.place.0;
      set = c.take_token.ensures.place.1;
      state = (rw c.in-Token.is at c.take_token.ensures.state) ∙ ap (λ me. take_token me desk after.state) (sym same);
      sent = sym (out_silent (take_token stamp.node desk after.state) c.args.out.now);
    })

pub returns-in-Token-clause-room : goal.returns-in-Token-clause-room
returns-in-Token-clause-room c = c.take_token.ensures.room

pub returns-in-Freeze-clause-does : goal.returns-in-Freeze-clause-does
returns-in-Freeze-clause-does c =
    let after = c.learn.new.self in
    let news = c.in-Freeze.news in
    let is = rw c.in-Freeze.is at c.take_freeze.ensures in
    body_done c.args.stamp c.args.letter (Freeze news) c.args.self.now after c.take_freeze.new.self c.args.out.now c.args.out.now c.learn.ensures.core c.requires.set c.in-Freeze.is
    (record {
      node = ap (λ (core : CoreData). core.node) is;
      set = ap (λ (core : CoreData). core.set) is;
      state = ap (λ (core : CoreData). core.state) is;
      sent = sym (out_silent (take_freeze news.number news.modes after.state) c.args.out.now);
    })

pub returns-in-Freeze-clause-room : goal.returns-in-Freeze-clause-room
returns-in-Freeze-clause-room c =
    let after = c.learn.new.self in
    let news = c.in-Freeze.news in
    let is = rw c.in-Freeze.is at c.take_freeze.ensures in
    subst (HasRoom 1 c.args.stamp.clock) (sym is)
    (frozen_by 1 c.args.stamp.clock after news.number news.modes (nat_lt after.state.number news.number)
    (room_less 1 c.args.stamp.clock after (c.learn.ensures.room 2 c.args.stamp.clock c.requires.room)))
