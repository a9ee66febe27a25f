-- A letter that fits brings few asks, and so there is room for what it says.
use Rattle.std.proofs.Common.{Result, Ok, Err, OnOk, ◌≡◌, ◌+◌, ◌≤◌, ◌<◌, ◌==◌, ◌++◌, ◌&&◌, ◌||◌, ◌^◌, true, false, ℕ, List, [], ◌∷◌, length, nat_lt, nat_le, refl, sym, arith, ap, subst, not, is_none, slice_index, leb-true, ltb-true, eq-eqb, ne_eqb}
use Rattle.std.specs.List.{list_all}
use Rattle.std.proofs.lemmas.Bool.{and_parts, not-true}
use Rattle.std.proofs.lemmas.List.{length-map}
use Rattle.lt_modes.specs.declared.ask.Ask.{Ask}
use Rattle.lt_modes.specs.State.{SetState, Desk, Post}
use Rattle.lt_modes.specs.declared.event.Event.{Event}
use Rattle.lt_modes.specs.Fits.{Numbers, fits, head_fits, body_fits, token_fits, queue_fits, are_apart, has_client, is_at_home, parked_asks, numbers_of}
use Rattle.lt_modes.specs.declared.stamp.Stamp.{Stamp}
use Rattle.lt_modes.specs.Script.{ClientData}
use Rattle.lt_modes.specs.Taking.{take}
use Rattle.lt_lists.specs.Below.{count_below}
use Rattle.lt_lists.proofs.Searches.{one_less}
use Rattle.lt_spec.specs.NodeMove.{at_clock, node_take, take_stamp, touched}
use Rattle.lt_spec.specs.declared.limits.TheConstants.{MAX_CLIENTS}
use Rattle.lt_desk.specs.declared.letter.Letter.{Letter}
use Rattle.lt_desk.specs.declared.letter.Body.{Body}
use Rattle.lt_desk.specs.declared.letter.Body.TheVariants as bodies
use Rattle.lt_desk.specs.LetterSeen.{body_seen, letter_seen, asks_in, RoomIn}
use Rattle.lt_desk.specs.DeskData.{OutData, FitsOut}
use Rattle.lt_core.specs.Bound.{brought}
use Rattle.lt_core.specs.CoreData.{CoreData, HasMemory, RoomForBody, waiting_here, HasRoom}
use Rattle.lt_core.proofs.BoundLemmas.{takes_fit}
use Rattle.lt_node.specs.NodeData.{NodeData, NodeDoes, IsNode, RoomForLetter, state_of, core_at, most_sent, RoomToTake}
use Rattle.lt_node.specs.Sets.{AreSetsOf, SetDoes, SetsData, core_in}
use Rattle.lt_node.specs.Touched.{leaves_room_to_take}
use Rattle.lt_node.proofs.CountLemmas.{count_most}
use Rattle.lt_node.proofs.NodeLemmas.{IsWithin, node_is, room_later, set_numbers}
use Rattle.lt_node.proofs.NodeSets.{core_held, set_done}

-- asks of different clients are no more than the clients
few_apart : (numbers : Numbers) (asks : List Ask) → list_all (is_at_home numbers) asks ≡ true → are_apart asks ≡ true
    → length asks ≤ count_below (length numbers.homes) (λ client. has_client client asks)
few_apart numbers [] home apart = omega arith
few_apart numbers (ask ∷ rest) home apart =
    let homes = and_parts (is_at_home numbers ask) (list_all (is_at_home numbers) rest) home in
    let aparts = and_parts (not (has_client ask.client rest)) (are_apart rest) apart in
    let client = and_parts (nat_lt ask.client (length numbers.homes)) (slice_index numbers.homes ask.client == ask.node)
    (and_parts (nat_lt ask.node numbers.nodes) (nat_lt ask.client (length numbers.homes) && slice_index numbers.homes ask.client == ask.node) homes.0).1 in
    omega (
      arith,
      few_apart numbers rest homes.1 aparts.1,
      one_less (length numbers.homes) ask.client (λ k. has_client k (ask ∷ rest)) (λ k. has_client k rest)
          (ltb-true ask.client (length numbers.homes) client.0)
          (rw (eq-eqb ask.client ask.client refl) refl)
          (not-true (has_client ask.client rest) aparts.0)
          (λ k within other. rw (ne_eqb ask.client k (λ same. other (sym same))) refl),
    )

not_among : (client : ℕ) (asks more : List Ask) → has_client client (asks ++ more) ≡ false → has_client client asks ≡ false
not_among client [] more h = refl
not_among client (ask ∷ rest) more h =
    elim (ask.client == client) as (λ t. (t || has_client client (rest ++ more)) ≡ false → (t || has_client client rest) ≡ false) [
      | true ↦ λ h. h
      | false ↦ λ h. not_among client rest more h
    ] h

apart_front : (asks more : List Ask) → are_apart (asks ++ more) ≡ true → are_apart asks ≡ true
apart_front [] more h = refl
apart_front (ask ∷ rest) more h =
    let parts = and_parts (not (has_client ask.client (rest ++ more))) (are_apart (rest ++ more)) h in
    rw (not_among ask.client rest more (not-true (has_client ask.client (rest ++ more)) parts.0), apart_front rest more parts.1) refl

-- what the token brings: few asks, and no number above its letter's clock
record IsSmall (clock : ℕ) (desk : Desk) : Type 0 where
  queue : length desk.queue ≤ MAX_CLIENTS
  epoch : desk.epoch ≤ clock
  number : desk.number ≤ clock

small : (numbers : Numbers) (q : ℕ) (s : SetState) (clock : ℕ) (desk : Desk) → length numbers.homes ≤ MAX_CLIENTS → token_fits numbers q s clock desk ≡ true → IsSmall clock desk
small numbers q s clock desk few h =
    let firm = and_parts (is_none s.desk) _ h in
    let epoch = and_parts (nat_le s.firm.epoch desk.epoch) _ firm.1 in
    let number = and_parts (nat_le desk.epoch clock) _ epoch.1 in
    let entries = and_parts (nat_le desk.number clock) _ number.1 in
    let queue = and_parts (length desk.entries == numbers.nodes) (queue_fits numbers q s desk.queue) entries.1 in
    let homes = and_parts (list_all (is_at_home numbers) desk.queue) _ queue.1 in
    let apart = and_parts (are_apart (desk.queue ++ parked_asks s)) _ homes.1 in
    record {
      queue = omega (
        arith,
        few,
        few_apart numbers desk.queue homes.0 (apart_front desk.queue (parked_asks s) apart.0),
        count_most (length numbers.homes) (λ client. has_client client desk.queue),
      );
      epoch = leb-true desk.epoch clock number.0;
      number = leb-true desk.number clock entries.0;
    }

-- a letter brings few asks
pub few_brought : (numbers : Numbers) (q clock : ℕ) (s : SetState) (body : Body) → length numbers.homes ≤ MAX_CLIENTS → body_fits numbers q s clock (body_seen body) ≡ true → asks_in body ≤ MAX_CLIENTS
few_brought numbers q clock s (bodies.Ask ask marked) few h = omega arith
few_brought numbers q clock s (bodies.Tell tell) few h = omega arith
few_brought numbers q clock s (bodies.Copy ask) few h = omega arith
few_brought numbers q clock s (bodies.Token d) few h = (small numbers q s clock d.desk few h).queue
few_brought numbers q clock s (bodies.Freeze news) few h = omega arith

-- there is room for what it says, with memory
pub room_for_body : (numbers : Numbers) (q before sent now : ℕ) (core : CoreData) (body : Body) → length numbers.homes ≤ MAX_CLIENTS → body_fits numbers q core.state sent (body_seen body) ≡ true
    → IsWithin before core.state → sent < now → HasMemory (asks_in body) core → RoomIn (waiting_here core.state + asks_in body + 2) body → RoomForBody now core body
room_for_body numbers q before sent now core (bodies.Ask ask marked) few h within later memory room = tt
room_for_body numbers q before sent now core (bodies.Tell tell) few h within later memory room = tt
room_for_body numbers q before sent now core (bodies.Copy ask) few h within later memory room = tt
room_for_body numbers q before sent now core (bodies.Token d) few h within later memory room =
    let brings = small numbers q core.state sent d.desk few h in
    record {
      places = omega (arith, room.0);
      owed = omega (arith, room.1);
      rows = omega (arith, memory.rows);
      locks = omega (arith, within.locks, within.asks, brings.queue);
      epoch = omega (arith, brings.epoch, later);
      number = omega (arith, brings.number, later);
    }
room_for_body numbers q before sent now core (bodies.Freeze news) few h within later memory room = tt

-- the letter's set is of the script, its clock is small, and what it says fits
pub record IsFitting (numbers : Numbers) (q clock : ℕ) (s : SetState) (letter : Letter) : Type 0 where
  pub set : letter.set < numbers.sets
  pub clock_small : letter.stamp.clock + 1 < 2 ^ 62
  pub body : body_fits numbers q s letter.stamp.clock (body_seen letter.body) ≡ true

pub fitting : (numbers : Numbers) (q clock : ℕ) (s : SetState) (letter : Letter) → fits numbers q clock s (letter_seen letter) ≡ true → IsFitting numbers q clock s letter
fitting numbers q clock s letter h =
    let head = and_parts (head_fits numbers clock (letter_seen letter)) (body_fits numbers q s letter.stamp.clock (body_seen letter.body)) h in
    let set = and_parts (nat_lt letter.set numbers.sets) _ head.0 in
    let node = and_parts (nat_lt letter.link.node numbers.nodes) _ set.1 in
    let epoch = and_parts (nat_le letter.link.epoch letter.stamp.clock) _ node.1 in
    let small = and_parts (nat_lt (letter.stamp.clock + 1) (2 ^ 62)) _ epoch.1 in
    record { set = ltb-true letter.set numbers.sets set.0; clock_small = ltb-true (letter.stamp.clock + 1) (2 ^ 62) small.0; body = head.1 }

-- What a node's take asks of the set.

few_homes : (n : NodeData) → IsNode n → length (numbers_of n.script).homes ≤ MAX_CLIENTS
few_homes n node = omega (arith, length-map n.script.clients (λ (client : ClientData). client.node), node.is_script.few_clients)

-- the letter fits its set, which keeps no more than it may
pub record IsTakenBy (n : NodeData) (letter : Letter) : Type 0 where
  pub set : letter.set < length n.script.sets
  pub within : IsWithin n.clock (core_at n letter.set).state
  pub fit : IsFitting (numbers_of n.script) n.me n.clock (core_at n letter.set).state letter
  pub few : asks_in letter.body ≤ MAX_CLIENTS

pub taken_by : (n : NodeData) (letter : Letter) → IsNode n → fits (numbers_of n.script) n.me n.clock ((state_of n).set letter.set) (letter_seen letter) ≡ true
    → leaves_room_to_take (state_of n) (letter_seen letter) ≡ true → IsTakenBy n letter
taken_by n letter node h within =
    let fit = fitting (numbers_of n.script) n.me n.clock ((state_of n).set letter.set) letter h in
    record {
      set = fit.set;
      within = set_numbers n.clock (core_at n letter.set).state within;
      fit = fit;
      few = few_brought (numbers_of n.script) n.me letter.stamp.clock ((state_of n).set letter.set) letter.body (few_homes n node) fit.body;
    }

-- the premises of the set's take
pub record CanTake (stamp : Stamp) (core : CoreData) (letter : Letter) (out : OutData) : Type 0 where
  pub room : HasRoom 2 stamp.clock core
  pub desk : RoomForBody stamp.clock core letter.body
  pub fits : FitsOut (take stamp (letter_seen letter) core.state) out

can_take : (n : NodeData) (letter : Letter) (out : OutData) (stamp : Stamp) → IsNode n → IsTakenBy n letter → RoomToTake n letter out
    → n.clock < stamp.clock → letter.stamp.clock < stamp.clock → CanTake stamp (core_at n letter.set) letter out
can_take n letter out stamp node taken room later after = record {
  room = room_later n.clock stamp.clock (asks_in letter.body) (core_at n letter.set) taken.within later room.memory;
  desk = room_for_body (numbers_of n.script) n.me n.clock letter.stamp.clock stamp.clock (core_at n letter.set) letter.body (few_homes n node) taken.fit.body taken.within after room.memory room.desk;
  fits = takes_fit stamp (letter_seen letter) (core_at n letter.set).state out
      (record { posts = omega (arith, room.send.posts); events = omega (arith, room.send.events) });
}

-- the same of what the code has in hand
pub can_take_here : (m n : NodeData) (sets : SetsData) (letter : Letter) (out : OutData) (stamp : Stamp) → m ≡ n → IsNode m → m.cores ≡ sets.cores → AreSetsOf m.script m.me sets
    → IsTakenBy n letter → RoomToTake n letter out → stamp ≡ take_stamp n.me (state_of n) (letter_seen letter) → CanTake stamp (core_in sets letter.set) letter out
can_take_here m n sets letter out stamp same node cores of taken room stamped =
    let clock = ap (λ (s : Stamp). s.clock) stamped in
    subst (λ (f : ℕ → CoreData). CanTake stamp (f letter.set) letter out) (core_held m n sets same cores of)
    (can_take n letter out stamp (node_is m n same node) taken room (omega (arith, clock)) (omega (arith, clock)))

-- the set's take is the node's
pub take_does : (m n : NodeData) (sets new : SetsData) (letter : Letter) (stamp : Stamp) (had out : OutData) → m ≡ n → m.cores ≡ sets.cores → AreSetsOf m.script m.me sets → letter.set < length sets.cores
    → stamp ≡ take_stamp n.me (state_of n) (letter_seen letter) → SetDoes letter.set (take stamp (letter_seen letter) (core_in sets letter.set).state) sets had new out
    → NodeDoes (node_take n.me (letter_seen letter) (state_of n)) n had (record m { clock = stamp.clock; cores = new.cores }) out
take_does m n sets new letter stamp had out same cores of inside stamped does =
    let L = letter_seen letter in
    let at = record m { clock = stamp.clock } in
    let done = set_done at at sets new letter.set (λ set state. take stamp L state) had out refl cores of inside does in
    let here : NodeDoes (touched (at_clock stamp.clock (state_of m)) letter.set (take stamp L (core_at m letter.set).state)) m had (record m { clock = stamp.clock; cores = new.cores }) out =
    record { script = refl; gone = refl; me = refl; state = done.state; sent = done.sent } in
    subst (λ (n : NodeData). stamp ≡ take_stamp n.me (state_of n) L → NodeDoes (node_take n.me L (state_of n)) n had (record m { clock = stamp.clock; cores = new.cores }) out) same
    (λ is. subst (λ (s : Stamp). NodeDoes (touched (at_clock s.clock (state_of m)) letter.set (take s L (core_at m letter.set).state)) m had (record m { clock = stamp.clock; cores = new.cores }) out) is here)
    stamped

-- with room for what it sends there is room for it
pub room_for : {T E : Type 0} (r : Result T E) (sets : SetsData) (s : ℕ) (letter : Letter) (sent : ℕ) (had out : OutData) → letter.set ≡ s → HasMemory (asks_in letter.body) (core_in sets s)
    → RoomIn (waiting_here (core_in sets s).state + asks_in letter.body + 2) letter.body → sent ≡ most_sent (core_in sets s) + brought (body_seen letter.body)
    → out.posts ≡ had.posts → out.events ≡ had.events → OnOk r (length had.posts + sent ≤ out.post_room) → OnOk r (length had.events + sent ≤ out.event_room)
    → OnOk r (RoomForLetter (core_in sets letter.set) letter out)
room_for (Err e) sets s letter sent had out at memory desk is posts events letters lines = record {}
room_for (Ok x) sets s letter sent had out at memory desk is posts events letters lines =
    subst (λ (k : ℕ). RoomForLetter (core_in sets k) letter out) (sym at) (record {
      memory = memory;
      desk = desk;
      send = record {
        posts = subst (λ (l : List Post). length l + (most_sent (core_in sets s) + brought (body_seen letter.body)) ≤ out.post_room) (sym posts)
            (subst (λ (n : ℕ). length had.posts + n ≤ out.post_room) is letters);
        events = subst (λ (l : List Event). length l + (most_sent (core_in sets s) + brought (body_seen letter.body)) ≤ out.event_room) (sym events)
            (subst (λ (n : ℕ). length had.events + n ≤ out.event_room) is lines);
      };
    })
