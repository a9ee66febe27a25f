-- Counting the asks among what is parked.
use Rattle.std.proofs.Common.{◌≡◌, ℕ, ◌+◌, ◌≤◌, List, [], ◌∷◌, ◌++◌, length, arith, refl, Bool, true, false, length-append, Option, Some, None, sym, ap, subst, if◌then◌else◌, ◌==◌, ◌∙◌, ◌<◌, drop, ◌||◌, filter_map, insert, ◌&&◌, not, fold, nat_lt, slice_index_or, is_some, find}
use Rattle.std.proofs.lemmas.List.Edits.{length-insert}
use Rattle.std.specs.List.{list_any}
use Rattle.std.proofs.lemmas.List.{drop_more}
use Rattle.lt_modes.specs.State.{Parked, ParkedAsk, ParkedTell, SetState, then_do, Letter, Body, AskBody, TellBody, CopyBody, TokenBody, FreezeBody, Desk, place, after_holders_from, entry_of, silent, Made, no_ask}
use Rattle.lt_modes.specs.Fits.{ask_if, has_client}
use Rattle.lt_modes.specs.declared.stamp.Stamp.{Stamp}
use Rattle.lt_modes.specs.SetMove.{finish, make_tell, finish_by, attend, granted, asked, asked_or_not, ask_of, answers, given, given_up, locked, tried, unlocked, changed, change_held, dropped, retaken, same_wish}
use Rattle.lt_modes.specs.Routing.{dealt, Way, Parks, Goes, way, sent_on, route_by, learn}
use Rattle.lt_modes.specs.Telling.{tell_of, told}
use Rattle.lt_modes.specs.Taking.{take_body, arrive}
use Rattle.lt_modes.specs.declared.mode.Mode.{Mode}
use Rattle.lt_modes.specs.declared.parts.Hoped.{Hoped}
use Rattle.lt_modes.specs.Modes.{bars, same_modes, excludes_itself, Modes, held_modes, count_of, take_lock}
use Rattle.lt_modes.specs.Serving.{queue_of_desk, queue_of, is_gone, without_gone, ask_at, serve}
use Rattle.lt_modes.specs.Waiting.{waits, pending_ask, is_before, has_older}
use Rattle.lt_modes.specs.HandingOver.{next_draw, hand_over, hand_over_to, hand_over_for}
use Rattle.lt_modes.specs.Freezing.{freeze}
use Rattle.lt_modes.specs.Granting.{can_grant}
use Rattle.lt_modes.specs.declared.event.Event.TheVariants as event
use Rattle.lt_modes.specs.declared.parts.Link.{Link}
use Rattle.lt_modes.specs.declared.ask.Ask.{Ask}
use Rattle.lt_desk.specs.DeskData.{OutData, FitsOut}
use Rattle.lt_core.specs.Steps.{ask_count, is_ask_of}
use Rattle.lt_core.specs.declared.set_command.SetCommand.{SetCommand}
use Rattle.lt_core.specs.declared.set_command.SetCommand.TheVariants.{Lock, Try, Unlock, Change, DropAll, Withdraw}
use Rattle.lt_core.specs.CoreData.{commanded, move_of}
use Rattle.lt_core.proofs.BoundServices.{AtMost, most_then, most_served, length_set, nodes_served, most_frozen}
use Rattle.lt_core.specs.Bound.{RoomToSend, brought, EndsFit, CommandsFit, TakesFit, most, nodes_of}
use Rattle.lt_core.specs.Behind.{is_behind_older}

pub count_few : (item : Parked) → ask_count item ≤ 1
count_few (ParkedAsk ask) = omega arith
count_few (ParkedTell tell) = omega arith

pub asks_first : (item : Parked) (rest : List Parked) → length (filter_map ask_if (item ∷ rest)) ≡ ask_count item + length (filter_map ask_if rest)
asks_first (ParkedAsk ask) rest = omega arith
asks_first (ParkedTell tell) rest = omega arith

pub asks_last : (items : List Parked) (item : Parked) → length (filter_map ask_if (items ++ item ∷ [])) ≡ length (filter_map ask_if items) + ask_count item
asks_last [] item = omega (arith, asks_first item [])
asks_last (first ∷ rest) item = omega (arith, asks_first first (rest ++ item ∷ []), asks_first first rest, asks_last rest item)

pub client_first : (client : ℕ) (item : Parked) (rest : List Parked)
    → has_client client (filter_map ask_if (item ∷ rest)) ≡ (is_ask_of client item || has_client client (filter_map ask_if rest))
client_first client (ParkedAsk ask) rest = refl
client_first client (ParkedTell tell) rest = refl

-- A client's move is what its command does, and then the end of the move.

pub move_is : (stamp : Stamp) (client : ℕ) (command : SetCommand) (set : ℕ) (s : SetState)
    → move_of stamp client command set s ≡ then_do (commanded stamp client command set s) (finish set stamp)
move_is stamp client (Lock mode) set s = refl
move_is stamp client (Try mode) set s = refl
move_is stamp client (Unlock mode) set s = refl
move_is stamp client (Change gives_up mode) set s = refl
move_is stamp client DropAll set s = refl
move_is stamp client (Withdraw other) set s = refl

-- No move sends out more than its bound.

most_to : (set : ℕ) (stamp : Stamp) (s : SetState) (v : ℕ) (d : Option Desk) → AtMost 1 (hand_over_to set stamp s v d)
most_to set stamp s v None = (omega arith, omega arith)
most_to set stamp s v (Some d) = (omega arith, omega arith)

most_for : (set : ℕ) (stamp : Stamp) (s : SetState) (pick : Option ℕ) → AtMost 1 (hand_over_for set stamp s pick)
most_for set stamp s None = (omega arith, omega arith)
most_for set stamp s (Some k) = most_to set stamp s (ask_at s k).node s.desk

most_attended : (set : ℕ) (stamp : Stamp) (s : SetState) → AtMost (length (queue_of s) + nodes_of s.desk + 1) (attend set stamp s)
most_attended set stamp s =
    let first = serve set stamp s in
    let second = freeze set stamp first.state in
    let frozen : AtMost (nodes_of s.desk) second = subst (λ n. AtMost n second) (nodes_served (length (queue_of s)) set stamp s) (most_frozen set stamp first.state first.state.desk) in
    most_then (length (queue_of s) + nodes_of s.desk) 1 (then_do first (freeze set stamp)) (hand_over set stamp)
    (most_then (length (queue_of s)) (nodes_of s.desk) first (freeze set stamp) (most_served (length (queue_of s)) set stamp s) frozen)
    (most_for set stamp second.state (next_draw stamp.node second.state))

-- one letter at most leads an ask or a tell on
most_way : (set : ℕ) (stamp : Stamp) (item : Parked) (s : SetState) (w : Way) → (length (sent_on set stamp item s w).posts ≤ 1) × (length (sent_on set stamp item s w).events ≤ 0)
most_way set stamp item s Parks = (omega arith, omega arith)
most_way set stamp item s (Goes to marked) = (omega arith, omega arith)

most_routed : (set : ℕ) (stamp : Stamp) (marked : Bool) (item : Parked) (s : SetState) (d : Option Desk)
    → (length (route_by set stamp marked item s d).posts ≤ 1) × (length (route_by set stamp marked item s d).events ≤ 0)
most_routed set stamp marked item s None = most_way set stamp item s (way stamp.node marked item s)
most_routed set stamp marked item s (Some d) = (omega arith, omega arith)

most_told : (set : ℕ) (stamp : Stamp) (s : SetState) (b : Bool) → AtMost 1 (if b then silent s else make_tell set stamp s)
most_told set stamp s true = (omega arith, omega arith)
most_told set stamp s false =
    let t : SetState = record s { charge = held_modes s.held } in
    let m = most_routed set stamp false (ParkedTell (tell_of stamp s)) t t.desk in
    (m.0, omega (arith, m.1))

-- the end of a move
most_ended : (set : ℕ) (stamp : Stamp) (s : SetState) (d : Option Desk) → s.desk ≡ d → AtMost (most s) (finish_by set stamp s d)
most_ended set stamp s None e =
    let m = most_told set stamp s (same_modes (bars (held_modes s.held)) (bars s.charge)) in
    (omega (arith, m.0), omega (arith, m.1))
most_ended set stamp s (Some d) e =
    let m = most_attended set stamp s in
    (omega (arith, m.0), omega (arith, m.1))

most_finished : (set : ℕ) (stamp : Stamp) (s : SetState) → AtMost (most s) (finish set stamp s)
most_finished set stamp s = most_ended set stamp s s.desk refl

-- one ask more waits at most, where an ask or a tell is dealt with
within_by : (k found : ℕ) (b : Bool) → found ≤ k → (if b then k + 1 else found) ≤ k + 1
within_by k found true h = omega arith
within_by k found false h = omega (arith, h)

within_from : (k found : ℕ) (queue : List Ask) → found ≤ k → after_holders_from k found queue ≤ k + length queue
within_from k found [] h = omega (arith, h)
within_from k found (ask ∷ rest) h =
    omega (arith, within_from (k + 1) (if ask.holder then k + 1 else found) rest (within_by k found ask.holder h))

place_within : (queue : List Ask) (holder : Bool) → place queue holder ≤ length queue
place_within queue true = omega (arith, within_from 0 0 queue (omega arith))
place_within queue false = omega arith

entered_by : (queue : List Ask) (ask : Ask) (holder : Bool) → length (insert queue (place queue holder) ask) ≤ length queue + 1
entered_by queue ask holder = omega (arith, length-insert queue (place queue holder) ask (place_within queue holder))

waits_dealt : (desk : Desk) (item : Parked) → (length (dealt desk item).queue ≤ length desk.queue + ask_count item) × (length (dealt desk item).entries ≡ length desk.entries)
waits_dealt desk (ParkedAsk ask) = (entered_by desk.queue ask ask.holder, refl)
waits_dealt desk (ParkedTell tell) = (omega arith, length_set desk.entries tell.node (told tell (entry_of desk tell.node)))

waits_reversed : (me : ℕ) (item : Parked) (s : SetState) (b : Bool) (hoped : Option Hoped) → most (if b then record s { hoped = hoped } else s) ≤ most s + 1
waits_reversed me item s true hoped = omega arith
waits_reversed me item s false hoped = omega arith

waits_sent : (set : ℕ) (stamp : Stamp) (item : Parked) (s : SetState) (w : Way) → most (sent_on set stamp item s w).state ≤ most s + 1
waits_sent set stamp item s Parks = omega (arith, asks_last s.parked item, count_few item)
waits_sent set stamp (ParkedAsk ask) s (Goes to marked) =
    waits_reversed stamp.node (ParkedAsk ask) s (excludes_itself ask.mode && not (ask.node == stamp.node)) (Some (record { node = ask.node; stamp = ask.stamp }))
waits_sent set stamp (ParkedTell tell) s (Goes to marked) = omega arith

waits_routed : (set : ℕ) (stamp : Stamp) (marked : Bool) (item : Parked) (s : SetState) (d : Option Desk) → s.desk ≡ d → most (route_by set stamp marked item s d).state ≤ most s + 1
waits_routed set stamp marked item s None e = waits_sent set stamp item s (way stamp.node marked item s)
waits_routed set stamp marked item s (Some d) e =
    omega (arith, (waits_dealt d item).0, (waits_dealt d item).1, count_few item, ap (λ o. length (queue_of_desk o)) e, ap nodes_of e)

-- a first part of a move: at most one letter and one line, and n places more for its end
abbrev Starts : ℕ → SetState → Made → Type 0
Starts n s first = AtMost 1 first × (most first.state ≤ most s + n)

most_move : (n set : ℕ) (stamp : Stamp) (s : SetState) (first : Made) → Starts n s first → AtMost (most s + n + 1) (then_do first (finish set stamp))
most_move n set stamp s first h =
    let m = most_then 1 (most first.state) first (finish set stamp) h.0 (most_finished set stamp first.state) in
    (omega (arith, m.0, h.1), omega (arith, m.1, h.1))

-- what a command does before the end of its move
most_routed_ask : (set : ℕ) (stamp : Stamp) (ask : Ask) (s : SetState) → Starts 1 s (asked set stamp ask s)
most_routed_ask set stamp ask s =
    let t : SetState = record s { pending = s.pending ++ ask ∷ [] } in
    let m = most_routed set stamp false (ParkedAsk ask) t t.desk in
    ((omega (arith, m.0), omega (arith, m.1)), waits_routed set stamp false (ParkedAsk ask) t t.desk refl)

most_retaken : (set : ℕ) (ask : Ask) (s : SetState) (b : Bool)
    → Starts 1 s (if b
    then answers (event.Wait ask.client set ask.mode) (record s { gone = without_gone s.gone ask.client })
    else answers (event.Withheld ask.client set ask.mode) s)
most_retaken set ask s true = ((omega arith, omega arith), omega arith)
most_retaken set ask s false = ((omega arith, omega arith), omega arith)

most_asked : (set : ℕ) (stamp : Stamp) (ask : Ask) (s : SetState) (b : Bool)
    → Starts 1 s (if b then retaken set ask s else asked set stamp ask s)
most_asked set stamp ask s true = most_retaken set ask s (same_wish ask (pending_ask s ask.client))
most_asked set stamp ask s false = most_routed_ask set stamp ask s

most_locked : (set : ℕ) (stamp : Stamp) (client : ℕ) (mode : Mode) (s : SetState) (b : Bool)
    → Starts 1 s (if b then granted set client mode s else asked_or_not set stamp (ask_of stamp client mode None s) s)
most_locked set stamp client mode s true = ((omega arith, omega arith), omega arith)
most_locked set stamp client mode s false = most_asked set stamp (ask_of stamp client mode None s) s (is_gone s client)

most_tried : (set client : ℕ) (mode : Mode) (s : SetState) (b : Bool)
    → Starts 1 s (if b then answers (event.Try client set mode true) (given client mode None s) else answers (event.Try client set mode false) s)
most_tried set client mode s true = ((omega arith, omega arith), omega arith)
most_tried set client mode s false = ((omega arith, omega arith), omega arith)

most_unlocked : (set client : ℕ) (mode : Mode) (s : SetState) (b : Bool)
    → Starts 1 s (if b then answers (event.NotHeld client set mode) s else answers (event.Unlock client set mode) (record s { held = take_lock s.held client mode }))
most_unlocked set client mode s true = ((omega arith, omega arith), omega arith)
most_unlocked set client mode s false = ((omega arith, omega arith), omega arith)

most_change_held : (set : ℕ) (stamp : Stamp) (client : ℕ) (gives_up mode : Mode) (s : SetState) (b : Bool)
    → Starts 1 s (if b then answers (event.Change client set gives_up mode) (given client mode (Some gives_up) s) else asked_or_not set stamp (ask_of stamp client mode (Some gives_up) s) s)
most_change_held set stamp client gives_up mode s true = ((omega arith, omega arith), omega arith)
most_change_held set stamp client gives_up mode s false = most_asked set stamp (ask_of stamp client mode (Some gives_up) s) s (is_gone s client)

most_changed : (set : ℕ) (stamp : Stamp) (client : ℕ) (gives_up mode : Mode) (s : SetState) (b : Bool)
    → Starts 1 s (if b then answers (event.NotHeld client set gives_up) s else change_held set stamp client gives_up mode s)
most_changed set stamp client gives_up mode s true = ((omega arith, omega arith), omega arith)
most_changed set stamp client gives_up mode s false = most_change_held set stamp client gives_up mode s (can_grant stamp.node s client mode)

-- so much comes of the whole move of a command that tells one line first
one_line : (set : ℕ) (stamp : Stamp) (s : SetState) (first : Made) → Starts 1 s first → AtMost (most s + 2) (then_do first (finish set stamp))
one_line set stamp s first h =
    let m = most_move 1 set stamp s first h in
    (omega (arith, m.0), omega (arith, m.1))

-- a `withdraw` tells two lines first, and no ask more waits
most_withdrawn : (set : ℕ) (stamp : Stamp) (client other : ℕ) (s : SetState) (b : Bool)
    → AtMost (most s + 2) (then_do (if b then given_up set client other s else answers (event.Withdraw client other set false) s) (finish set stamp))
most_withdrawn set stamp client other s true =
    let first = given_up set client other s in
    let m = most_then 2 (most s) first (finish set stamp) (omega arith, omega arith) (most_finished set stamp first.state) in
    (omega (arith, m.0), omega (arith, m.1))
most_withdrawn set stamp client other s false =
    one_line set stamp s (answers (event.Withdraw client other set false) s) ((omega arith, omega arith), omega arith)

most_commanded : (stamp : Stamp) (client : ℕ) (command : SetCommand) (set : ℕ) (s : SetState)
    → AtMost (most s + 2) (then_do (commanded stamp client command set s) (finish set stamp))
most_commanded stamp client (Lock mode) set s =
    one_line set stamp s (locked set stamp client mode s) (most_locked set stamp client mode s (can_grant stamp.node s client mode))
most_commanded stamp client (Try mode) set s =
    one_line set stamp s (tried set stamp client mode s) (most_tried set client mode s (can_grant stamp.node s client mode))
most_commanded stamp client (Unlock mode) set s =
    one_line set stamp s (unlocked set client mode s) (most_unlocked set client mode s (count_of s.held client mode == 0))
most_commanded stamp client (Change gives_up mode) set s =
    one_line set stamp s (changed set stamp client gives_up mode s)
    (most_changed set stamp client gives_up mode s (count_of s.held client gives_up == 0))
most_commanded stamp client DropAll set s = one_line set stamp s (silent (dropped client s)) ((omega arith, omega arith), omega arith)
most_commanded stamp client (Withdraw other) set s = most_withdrawn set stamp client other s (waits s other)

-- what a letter does before the end of its move
waits_fold : (items : List Parked) (desk : Desk)
    → (length (fold dealt desk items).queue ≤ length desk.queue + length (filter_map ask_if items)) × (length (fold dealt desk items).entries ≡ length desk.entries)
waits_fold [] desk = (omega arith, refl)
waits_fold (item ∷ rest) desk =
    let now = waits_dealt desk item in
    let later = waits_fold rest (dealt desk item) in
    (omega (arith, later.0, now.0, asks_first item rest), later.1 ∙ now.1)

most_frozen_by : (number : ℕ) (modes : Modes) (s : SetState) (b : Bool) → most (if b then record s { frozen = modes; number = number } else s) ≤ most s
most_frozen_by number modes s true = omega arith
most_frozen_by number modes s false = omega arith

most_learnt : (link : Link) (s : SetState) (b : Bool) → most (if b then record s { firm = link; hoped = None } else s) ≤ most s
most_learnt link s true = omega arith
most_learnt link s false = omega arith

most_body : (set : ℕ) (stamp : Stamp) (body : Body) (s : SetState) → Starts (brought body + 1) s (take_body set stamp body s)
most_body set stamp (AskBody ask marked) s =
    let m = most_routed set stamp marked (ParkedAsk ask) s s.desk in
    ((omega (arith, m.0), omega (arith, m.1)), omega (arith, waits_routed set stamp marked (ParkedAsk ask) s s.desk refl))
most_body set stamp (TellBody tell) s =
    let m = most_routed set stamp false (ParkedTell tell) s s.desk in
    ((omega (arith, m.0), omega (arith, m.1)), omega (arith, waits_routed set stamp false (ParkedTell tell) s s.desk refl))
most_body set stamp (CopyBody ask) s = ((omega arith, omega arith), omega arith)
most_body set stamp (TokenBody desk) s =
    let m = waits_fold s.parked desk in
    ((omega arith, omega arith), omega (arith, m.0, m.1))
most_body set stamp (FreezeBody number modes) s = ((omega arith, omega arith), omega (arith, most_frozen_by number modes s (nat_lt s.number number)))

most_arrived : (stamp : Stamp) (letter : Letter) (s : SetState) → Starts (brought letter.body + 1) s (arrive stamp letter s)
most_arrived stamp letter s =
    let m = most_body letter.set stamp letter.body (learn letter.link s) in
    (m.0, omega (arith, m.1, most_learnt letter.link s (nat_lt s.firm.epoch letter.link.epoch)))

-- what is within the bound fits where there is room for so much
fits_most : (n : ℕ) (made : Made) (out : OutData) → AtMost n made → RoomToSend n out → FitsOut made out
fits_most n made out a room = record {
  posts = omega (arith, a.0, room.posts, length-append out.posts made.posts);
  events = omega (arith, a.1, room.events, length-append out.events made.events);
}

pub ends_fit : EndsFit
ends_fit set stamp s out room = fits_most (most s) (finish set stamp s) out (most_finished set stamp s) room

pub commands_fit : CommandsFit
commands_fit stamp client command set s out room =
    let whole = then_do (commanded stamp client command set s) (finish set stamp) in
    subst (λ (made : Made). FitsOut made out) (sym (move_is stamp client command set s))
    (fits_most (most s + 2) whole out (most_commanded stamp client command set s) room)

pub takes_fit : TakesFit
takes_fit stamp letter s out room =
    let first = arrive stamp letter s in
    fits_most (most s + (brought letter.body + 1) + 1) (then_do first (finish letter.set stamp)) out
    (most_move (brought letter.body + 1) letter.set stamp s first (most_arrived stamp letter s))
    (record { posts = omega (arith, room.posts); events = omega (arith, room.events) })

-- Which ask a client has, and which asks stand before others.

-- a search finds something exactly where something passes
pub find_some : {X : Type 0} (test : X → Bool) (xs : List X) → is_some (find test xs) ≡ list_any test xs
find_some test [] = refl
find_some test (x ∷ rest) = elim (test x) as (λ t. is_some (if t then Some x else find test rest) ≡ (t || list_any test rest)) [
  | true ↦ refl
  | false ↦ find_some test rest
]

pub before_step : (first second : ℕ) (queue : List Ask) (k : ℕ) → k < length queue
    → is_before first second (drop k queue)
    ≡ (((slice_index_or queue k no_ask).client == first && has_client second (drop (k + 1) queue)) || is_before first second (drop (k + 1) queue))
before_step first second queue k h = ap (is_before first second) (drop_more queue k no_ask h)

pub behind_first : (s : SetState) (other client : ℕ) (item : Parked) (rest : List Parked)
    → list_any (λ (ask : Ask). ask.client == client && has_older s other ask) (filter_map ask_if (item ∷ rest))
    ≡ (is_behind_older s other client item || list_any (λ (ask : Ask). ask.client == client && has_older s other ask) (filter_map ask_if rest))
behind_first s other client (ParkedAsk ask) rest = refl
behind_first s other client (ParkedTell tell) rest = refl
