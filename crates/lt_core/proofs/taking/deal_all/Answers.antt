use Rattle.std.proofs.Common.{◌≡◌, ◌∙◌, ◌∷◌, List, ap, fold, map, refl, sym}
use Rattle.lt_modes.specs.Routing.{dealt}
use Rattle.lt_modes.specs.State.{Parked}
use Rattle.lt_desk.specs.LetterSeen.{parked_seen}
use Rattle.lt_core.proofs.StepLemmas.{no_longer, same_least, queue_dealt, room_to_deal, fewer_left, nothing_left, all_dealt}
use Rattle.lt_core.proofs.taking.deal_all.Goals as goal

pub loop-item-init : goal.loop-item-init
loop-item-init c = record {
  desk = refl;
  capacity = refl;
  queue = refl;
  epoch = refl;
  number = refl;
  room = refl;
  spare = same_least c.args.desk.now.spare;
}

pub deal-requires : goal.deal-requires
deal-requires c =
    let split = ap (map parked_seen) c.in-Some.ensures.items in
    record {
      room = room_to_deal _ _ _ _ (parked_seen c.in-Some.item) (map parked_seen c.loop-item.parked.items) (map parked_seen c.pop_front.new.self.items) split
          c.loop-item.invariant.queue c.requires.room c.loop-item.invariant.room;
    }

pub loop-item-smaller : goal.loop-item-smaller
loop-item-smaller c = fewer_left c.in-Some.item c.loop-item.parked.items c.pop_front.new.self.items c.in-Some.ensures.items

pub loop-item-preserved : goal.loop-item-preserved
loop-item-preserved c =
    let inv = c.loop-item.invariant in
    let before = c.loop-item.desk.desk in
    let item = parked_seen c.in-Some.item in
    let rest = map parked_seen c.pop_front.new.self.items in
    let split : map parked_seen c.loop-item.parked.items ≡ item ∷ rest = ap (map parked_seen) c.in-Some.ensures.items in
    record {
      desk = ap (λ d. fold dealt d rest) c.deal.ensures.desk ∙ (sym (ap (λ (items : List Parked). fold dealt before items) split) ∙ inv.desk);
      capacity = c.in-Some.ensures.capacity ∙ inv.capacity;
      queue = queue_dealt _ _ _ item (map parked_seen c.loop-item.parked.items) rest split c.deal.ensures.queue inv.queue;
      epoch = c.deal.ensures.numbers.0 ∙ inv.epoch;
      number = c.deal.ensures.numbers.1 ∙ inv.number;
      room = c.deal.ensures.room ∙ inv.room;
      spare = no_longer _ _ _ inv.spare c.deal.ensures.spare;
    }

pub returns-clause-desk : goal.returns-clause-desk
returns-clause-desk c =
    let none = ap (map parked_seen) (nothing_left c.loop-item.parked.items c.pop_front.new.self.items c.in_default.ensures.items c.in_default.ensures.rest) in
    sym (ap (λ (items : List Parked). fold dealt c.loop-item.desk.desk items) none) ∙ c.loop-item.invariant.desk

pub returns-clause-parked : goal.returns-clause-parked
returns-clause-parked c =
    let none = nothing_left c.loop-item.parked.items c.pop_front.new.self.items c.in_default.ensures.items c.in_default.ensures.rest in
    (sym c.in_default.ensures.items ∙ none, c.in_default.ensures.capacity ∙ c.loop-item.invariant.capacity)

pub returns-clause-queue : goal.returns-clause-queue
returns-clause-queue c =
    let none = ap (map parked_seen) (nothing_left c.loop-item.parked.items c.pop_front.new.self.items c.in_default.ensures.items c.in_default.ensures.rest) in
    all_dealt _ _ (map parked_seen c.loop-item.parked.items) none c.loop-item.invariant.queue

pub returns-clause-numbers : goal.returns-clause-numbers
returns-clause-numbers c = (c.loop-item.invariant.epoch, c.loop-item.invariant.number)

pub returns-clause-room : goal.returns-clause-room
returns-clause-room c = c.loop-item.invariant.room

pub returns-clause-spare : goal.returns-clause-spare
returns-clause-spare c = c.loop-item.invariant.spare
