-- What is left where a step leaves places for asks, letters and lines.
use Rattle.std.proofs.Common.{◌≡◌, ◌∙◌, refl, ℕ, ◌+◌, ◌≤◌, ◌<◌, Bool, true, false, List, [], ◌∷◌, ◌++◌, length, drop, sym, ap, subst, arith, length-append, Option, Some, None, if◌then◌else◌, filter_map, ◌&&◌, ◌==◌, not}
use Rattle.lt_modes.specs.Modes.{excludes_itself}
use Rattle.lt_modes.specs.State.{Parked, ParkedAsk, ParkedTell, Post}
use Rattle.lt_modes.specs.Fits.{ask_if}
use Rattle.lt_modes.specs.Routing.{reversed}
use Rattle.lt_modes.specs.declared.event.Event.{Event}
use Rattle.lt_modes.specs.declared.parts.Hoped.{Hoped}
use Rattle.lt_desk.specs.DeskData.{DeskData, OutData}
use Rattle.lt_core.specs.CoreData.{CoreData, HasRoom, room_by, desk_seen}
use Rattle.lt_core.specs.Steps.{ask_count}
use Rattle.lt_modes.specs.Serving.{queue_of_desk}
use Rattle.lt_core.proofs.BoundLemmas.{asks_first, count_few}

-- room for a line more, or a letter more
pub line_left : (line : Event) (out : OutData) → length (out.events ++ line ∷ []) ≤ out.event_room → length out.events < out.event_room
line_left line out h = omega (arith, h, length-append out.events (line ∷ []))

pub post_left : (post : Post) (out : OutData) → length (out.posts ++ post ∷ []) ≤ out.post_room → length out.posts < out.post_room
post_left post out h = omega (arith, h, length-append out.posts (post ∷ []))

-- where there is room for an ask, a row is spare, and the desk's nodes may owe word of one
pub row_left : (d : Option DeskData) (rows : ℕ) → 0 < room_by d rows → 1 ≤ rows
row_left None rows h = h
row_left (Some d) rows h = omega (arith, h)

pub owed_left : (o : Option DeskData) (d : DeskData) (rows : ℕ) → o ≡ Some d → 0 < room_by o rows → 0 < d.spare
owed_left o d rows here h = let room : 0 < room_by (Some d) rows = subst (λ x. 0 < room_by x rows) here h in omega (arith, room)

-- the room of a desk that keeps its places
pub desk_room : (o : Option DeskData) (d after : DeskData) (n rows : ℕ) → o ≡ Some d → after.room ≡ d.room → d.spare ≤ after.spare + n
    → room_by o rows ≤ room_by (Some after) rows + n
desk_room o d after n rows here room spare = subst (λ x. room_by x rows ≤ room_by (Some after) rows + n) (sym here) (omega (arith, room, spare))

pub no_longer : (a b c : ℕ) → a ≤ b → b ≤ c → a ≤ c
no_longer a b c h k = omega (arith, h, k)

pub same_least : (a : ℕ) → a ≤ a
same_least a = omega arith

-- the first of what is parked is dealt with
pub queue_dealt : (before after total : ℕ) (item : Parked) (items rest : List Parked) → items ≡ item ∷ rest → after ≡ before + ask_count item
    → before + length (filter_map ask_if items) ≡ total → after + length (filter_map ask_if rest) ≡ total
queue_dealt before after total item items rest split is e =
    omega (arith, is, e, ap (λ l. length (filter_map ask_if l)) split, asks_first item rest)

pub room_to_deal : (before total room places : ℕ) (item : Parked) (items rest : List Parked) → items ≡ item ∷ rest
    → before + length (filter_map ask_if items) ≡ total → total ≤ places → room ≡ places → before + ask_count item ≤ room
room_to_deal before total room places item items rest split e h same =
    omega (arith, e, h, same, ap (λ l. length (filter_map ask_if l)) split, asks_first item rest)

pub fewer_left : {X : Type 0} (x : X) (items rest : List X) → items ≡ x ∷ rest → length rest < length items
fewer_left x items rest split = omega (arith, ap length split)

-- where nothing came off, nothing is left
pub nothing_left : {X : Type 0} (items rest : List X) → items ≡ rest → rest ≡ drop 1 items → items ≡ []
nothing_left [] rest same less = refl
nothing_left (x ∷ items) rest same less = absurd (omega (arith, ap length (same ∙ less)))

pub all_dealt : (n total : ℕ) (items : List Parked) → items ≡ [] → n + length (filter_map ask_if items) ≡ total → n ≡ total
all_dealt n total items none e = omega (arith, e, ap (λ l. length (filter_map ask_if l)) none)

-- hoped links take no room
reversed_by : (k clock : ℕ) (core : CoreData) (hoped : Option Hoped) (b : Bool) → HasRoom k clock core
    → HasRoom k clock (record core { state = if b then record core.state { hoped = hoped } else core.state })
reversed_by k clock core hoped true h = record { rows = h.rows; parked = h.parked; locks = h.locks; epoch = h.epoch; number = h.number; tells = h.tells }
reversed_by k clock core hoped false h = record { rows = h.rows; parked = h.parked; locks = h.locks; epoch = h.epoch; number = h.number; tells = h.tells }

pub room_reversed : (k clock me : ℕ) (core : CoreData) (item : Parked) → HasRoom k clock core → HasRoom k clock (record core { state = reversed me item core.state })
room_reversed k clock me core (ParkedAsk ask) h =
    reversed_by k clock core (Some (record { node = ask.node; stamp = ask.stamp })) (excludes_itself ask.mode && not (ask.node == me)) h
room_reversed k clock me core (ParkedTell tell) h = record { rows = h.rows; parked = h.parked; locks = h.locks; epoch = h.epoch; number = h.number; tells = h.tells }

-- the desk has a place for one that comes, and what is left then
pub place_left : (o : Option DeskData) (d : DeskData) (rows : ℕ) (parked : List Parked) (item : Parked) → o ≡ Some d
    → length (queue_of_desk (desk_seen o)) + length (filter_map ask_if parked) + 1 ≤ room_by o rows → length d.desk.queue + ask_count item ≤ d.room
place_left o d rows parked item here h =
    let room : length d.desk.queue + length (filter_map ask_if parked) + 1 ≤ room_by (Some d) rows =
    subst (λ x. length (queue_of_desk (desk_seen x)) + length (filter_map ask_if parked) + 1 ≤ room_by x rows) here h in
    omega (arith, room, count_few item)

-- the core with this desk and this room
abbrev pub with_desk : CoreData → Option DeskData → ℕ → CoreData
with_desk core o rows = record core { state = record core.state { desk = desk_seen o }; room = room_by o rows }

dealt_room : (k clock : ℕ) (core : CoreData) (d after : DeskData) (rows : ℕ) (item : Parked) → HasRoom (k + 1) clock (with_desk core (Some d) rows)
    → length after.desk.queue ≡ length d.desk.queue + ask_count item → after.desk.epoch ≡ d.desk.epoch → after.desk.number ≡ d.desk.number
    → after.room ≡ d.room → d.spare ≤ after.spare → HasRoom k clock (with_desk core (Some after) rows)
dealt_room k clock core d after rows item h queue epoch number room spare = record {
  rows = omega (arith, h.rows, queue, count_few item, room, spare);
  parked = omega (arith, h.parked);
  locks = omega (arith, h.locks, queue, count_few item);
  epoch = omega (arith, h.epoch, epoch);
  number = omega (arith, h.number, number);
  tells = h.tells;
}

pub room_dealt : (k clock : ℕ) (core : CoreData) (o : Option DeskData) (d after : DeskData) (rows : ℕ) (item : Parked) → HasRoom (k + 1) clock (with_desk core o rows)
    → o ≡ Some d → length after.desk.queue ≡ length d.desk.queue + ask_count item → (after.desk.epoch ≡ d.desk.epoch) × (after.desk.number ≡ d.desk.number)
    → after.room ≡ d.room → d.spare ≤ after.spare → HasRoom k clock (with_desk core (Some after) rows)
room_dealt k clock core o d after rows item h here queue numbers room spare =
    dealt_room k clock core d after rows item (subst (λ x. HasRoom (k + 1) clock (with_desk core x rows)) here h) queue numbers.0 numbers.1 room spare
