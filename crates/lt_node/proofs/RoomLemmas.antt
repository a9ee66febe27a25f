-- Memory in the sets that a move touches.
use Rattle.std.proofs.Common.{◌≡◌, ◌<◌, ◌≤◌, ◌+◌, ◌∙◌, ◌==◌, ◌≢◌, ◌*◌, Result, Ok, Err, OnOk, ℕ, zero, suc, inl, inr, All, Bool, true, false, List, [], ◌∷◌, Some, IsTrue, length, arith, refl, sym, ap, subst, sum_by, ◌⊎◌}
use Rattle.std.specs.List.{AllByRecursion}
use Rattle.std.proofs.Math.Path.{fun_ext}
use Rattle.std.proofs.lemmas.Bool.{cases_eq, cases_lt, and_parts}
use Rattle.std.proofs.lemmas.List.{length-map}
use Rattle.std.proofs.lemmas.List.Elements.{All-from_recursion, recursion_from_All}
use Rattle.std.proofs.lemmas.List.Sums.{sum_by-cons}
use Rattle.lt_modes.specs.declared.command.Command.{Command}
use Rattle.lt_modes.specs.declared.event.Event.{Event}
use Rattle.lt_modes.specs.declared.command.Command.TheVariants as commands
use Rattle.lt_modes.specs.declared.mode.Mode.{Mode}
use Rattle.lt_modes.specs.Script.{ScriptData, SetData, ClientData, family_at}
use Rattle.lt_modes.specs.Fits.{fits, numbers_of}
use Rattle.lt_modes.specs.State.{SetState, Letter, Post, Body as RulesBody, AskBody, TellBody, CopyBody, TokenBody, FreezeBody}
use Rattle.lt_lists.proofs.AllLemmas.{all_weaker}
use Rattle.lt_spec.specs.NodeMove.{NodeState, next_command, family, related}
use Rattle.lt_spec.specs.Limits.{set_within}
use Rattle.lt_spec.specs.declared.limits.TheConstants.{MAX_CLIENTS, MAX_NODES}
use Rattle.lt_desk.specs.DeskData.{OutData}
use Rattle.lt_desk.specs.declared.letter.Letter.{Letter as AnyLetter}
use Rattle.lt_desk.specs.declared.letter.Body.{Body}
use Rattle.lt_desk.specs.declared.letter.Body.TheVariants as bodies
use Rattle.lt_desk.specs.LetterSeen.{letter_seen, body_seen, asks_in}
use Rattle.lt_core.specs.CoreData.{CoreData, HasMemory, waiting_here}
use Rattle.lt_core.specs.Bound.{most, brought}
use Rattle.lt_node.specs.NodeData.{NodeData, KeptData, IsNode, SameNode, HasFewAsks, core_at, most_sent, state_of}
use Rattle.lt_node.specs.Sets.{SetsData, AreSetsOf, SameSets, core_in}
use Rattle.lt_node.specs.Clients.{Progress, next_of}
use Rattle.lt_node.specs.Forgetting.{without_first}
use Rattle.lt_node.specs.Touched.{LeavesMark, touched_sets, touched_by, named_set, sets_within, leaves_room_to_act, leaves_room_to_take, RoomToAct, HaveFewAsks, HaveMemory, sent_by, touches}
use Rattle.lt_node.proofs.AdvanceLemmas.{HasNext, next_is, next_targets}
use Rattle.lt_node.proofs.NodeLemmas.{node_is, set_numbers}
use Rattle.lt_node.proofs.TokenLemmas.{few_brought, fitting}
use Rattle.lt_node.proofs.FamilyLemmas.{GoesOn, related_from, related_in, related_out, related_gap}
use Rattle.lt_node.proofs.StoredLemmas.{same_core, same_then}
use Rattle.lt_node.proofs.NodeSets.{core_held}
use Rattle.lt_node.proofs.TouchedLemmas.{all_true_each, named_inside, related_none}

-- Sets that stand in the same states.

pub few_still : (old new : SetsData) (s : ℕ) → SameSets old new → HasFewAsks (core_in old s) → HasFewAsks (core_in new s)
few_still old new s same few =
    subst (λ (x : SetState). waiting_here x ≤ MAX_CLIENTS) (sym (ap (λ (k : KeptData). k.state) (same_core old new s same))) few

pub sent_still : (old new : SetsData) (s : ℕ) → SameSets old new → most_sent (core_in new s) ≡ most_sent (core_in old s)
sent_still old new s same = ap (λ (k : KeptData). most k.state + 2) (same_core old new s same)

same_sent : (old new : SetsData) (numbers : List ℕ) → SameSets old new → sent_by new numbers ≡ sent_by old numbers
same_sent old new numbers same = ap (λ (f : ℕ → ℕ). sum_by f numbers) (fun_ext (λ s. sent_still old new s same))

-- the sets of the family before place k have memory, and may send so much
pub record IsReservedTo (script : ScriptData) (set k sent : ℕ) (old now : SetsData) : Type 0 where
  pub same : SameSets old now
  pub rest : (s : ℕ) → k ≤ s → core_in now s ≡ core_in old s
  pub asks : AllByRecursion (λ s. HasFewAsks (core_in old s)) (related_from script set k)
  pub room : (s : ℕ) → s < k → (family_at script.sets s == family script set) ≡ true → HasMemory 0 (core_in now s)
  pub had : AllByRecursion (λ s. HasMemory 0 (core_in old s)) (related script set) → AllByRecursion (λ s. HasMemory 0 (core_in old s)) (related_from script set k)
  pub left : sent + sent_by old (related_from script set k) ≡ sent_by old (related script set)
  pub few : sent ≤ k * (MAX_CLIENTS + MAX_NODES + 3)

pub reserved_none : (script : ScriptData) (set : ℕ) (sets : SetsData) → HaveFewAsks sets (related script set) → IsReservedTo script set 0 0 sets sets
reserved_none script set sets few =
    record {
      same = record { nodes = refl; me = refl; kept = refl };
      rest = λ s above. refl;
      asks = recursion_from_All (λ s. HasFewAsks (core_in sets s)) (related script set) few;
      room = λ s below mine. absurd (omega (arith, below));
      had = λ memory. memory;
      left = omega arith;
      few = omega arith;
    }

pub reserved_past : (script : ScriptData) (set sent : ℕ) (old now : SetsData) → GoesOn script.sets (family script set) (λ k. IsReservedTo script set k sent old now)
reserved_past script set sent old now from to gap reserved =
    let same = related_gap script set from to gap in
    record {
      same = reserved.same;
      rest = λ s above. reserved.rest s (omega (arith, above, gap.later));
      asks = subst (AllByRecursion (λ s. HasFewAsks (core_in old s))) same reserved.asks;
      room = λ s below mine. elim (cases_lt s from) [
        | inl before ↦ reserved.room s before mine
        | inr behind ↦ cc (gap.none s behind below, mine)
      ];
      had = λ memory. subst (AllByRecursion (λ s. HasMemory 0 (core_in old s))) same (reserved.had memory);
      left = ap (λ (l : List ℕ). sent + sent_by old l) (sym same) ∙ reserved.left;
      few = omega (arith, reserved.few, gap.later);
    }

-- the next set of the family
pub reserved_asks : (script : ScriptData) (set k sent : ℕ) (old now : SetsData) → IsReservedTo script set k sent old now
    → k < length script.sets → (family_at script.sets k == family script set) ≡ true → HasFewAsks (core_in now k)
reserved_asks script set k sent old now to inside mine =
    few_still old now k to.same (subst (AllByRecursion (λ s. HasFewAsks (core_in old s))) (related_in script set k inside mine) to.asks).0

pub reserved_had : (script : ScriptData) (set k sent : ℕ) (old now : SetsData) → IsReservedTo script set k sent old now
    → k < length script.sets → (family_at script.sets k == family script set) ≡ true → HaveMemory old (related script set) → HasMemory 0 (core_in now k)
reserved_had script set k sent old now to inside mine memory =
    let has = to.had (recursion_from_All (λ s. HasMemory 0 (core_in old s)) (related script set) memory) in
    subst (HasMemory 0) (sym (to.rest k (omega arith))) (subst (AllByRecursion (λ s. HasMemory 0 (core_in old s))) (related_in script set k inside mine) has).0

pub reserved_more : (script : ScriptData) (set k sent most : ℕ) (old now new : SetsData) → IsReservedTo script set k sent old now
    → k < length script.sets → (family_at script.sets k == family script set) ≡ true
    → SameSets now new → ((s : ℕ) → s ≢ k → core_in new s ≡ core_in now s) → HasMemory 0 (core_in new k) → most ≡ most_sent (core_in new k) → most ≤ MAX_CLIENTS + MAX_NODES + 3
    → IsReservedTo script set (k + 1) (sent + most) old new
reserved_more script set k sent most old now new to inside mine same others memory is few =
    let first = related_in script set k inside mine in
    let all = same_then old now new to.same same in
    let rest = related_from script set (k + 1) in
    record {
      same = all;
      rest = λ s above. others s (λ e. absurd (omega (arith, above, e))) ∙ to.rest s (omega (arith, above));
      asks = (subst (AllByRecursion (λ s. HasFewAsks (core_in old s))) first to.asks).1;
      room = λ s below own. elim (cases_eq s k) [
        | inl here ↦ subst (λ (i : ℕ). HasMemory 0 (core_in new i)) (sym here) memory
        | inr apart ↦ subst (HasMemory 0) (sym (others s apart)) (to.room s (omega (arith, below, apart)) own)
      ];
      had = λ has. (subst (AllByRecursion (λ s. HasMemory 0 (core_in old s))) first (to.had has)).1;
      left = omega (arith, to.left, ap (λ (l : List ℕ). sent_by old l) first, sum_by-cons (λ s. most_sent (core_in old s)) k rest, is, sent_still old new k all);
      few = omega (arith, to.few, few);
    }

-- what holds of each set of the family holds of all
each_from : (P : ℕ → Type 0) (script : ScriptData) (set m k : ℕ) → ((s : ℕ) → s < length script.sets → (family_at script.sets s == family script set) ≡ true → P s)
    → k + m ≡ length script.sets → AllByRecursion P (related_from script set k)
each_from P script set zero k each count = subst (AllByRecursion P) (sym (related_none script set k (omega (arith, count)))) (record {})
each_from P script set (suc m) k each count = by_test (family_at script.sets k == family script set) refl (each_from P script set m (k + 1) each (omega (arith, count)))
  where
    by_test : (b : Bool) → (family_at script.sets k == family script set) ≡ b → AllByRecursion P (related_from script set (k + 1)) → AllByRecursion P (related_from script set k)
    by_test true mine later = subst (AllByRecursion P) (sym (related_in script set k (omega (arith, count)) mine)) (each k (omega (arith, count)) mine, later)
    by_test false other later = subst (AllByRecursion P) (sym (related_out script set k (omega (arith, count)) other)) later

pub reserved_room : (script : ScriptData) (set sent : ℕ) (old now : SetsData) → IsReservedTo script set (length script.sets) sent old now → HaveMemory now (related script set)
reserved_room script set sent old now to =
    All-from_recursion (λ s. HasMemory 0 (core_in now s)) (related script set)
    (each_from (λ s. HasMemory 0 (core_in now s)) script set (length script.sets) 0 to.room (omega arith))

pub reserved_sent : (script : ScriptData) (set sent : ℕ) (old now : SetsData) → IsReservedTo script set (length script.sets) sent old now → sent ≡ sent_by now (related script set)
reserved_sent script set sent old now to =
    omega (arith, to.left, ap (λ (l : List ℕ). sent_by old l) (related_none script set (length script.sets) (omega arith)), same_sent old now (related script set) to.same)

-- one set
pub one_of : (P : ℕ → Type 0) (s : ℕ) → All P (s ∷ []) → P s
one_of P s h = (recursion_from_All P (s ∷ []) h).0

pub all_one : (P : ℕ → Type 0) (s : ℕ) → P s → All P (s ∷ [])
all_one P s here = All-from_recursion P (s ∷ []) (here, tt)

pub sent_by_one : (sets : SetsData) (s : ℕ) → most_sent (core_in sets s) ≡ sent_by sets (s ∷ [])
sent_by_one sets s = omega arith

-- the command names this set, and touches it alone
abbrev NamesOne : Command → ℕ → Type 0
NamesOne command s =
    ((m : Mode) × (command ≡ commands.Lock s m)) ⊎ (((m : Mode) × (command ≡ commands.Try s m)) ⊎ (((m : Mode) × (command ≡ commands.Unlock s m)) ⊎ ((g : Mode) × (m : Mode) × (command ≡ commands.Change s g m))))

pub touches_one : (script : ScriptData) (command : Command) (s : ℕ) → NamesOne command s → touched_sets script command ≡ s ∷ []
touches_one script command s names = elim names [
  | inl h ↦ ap (touched_sets script) h.1
  | inr more ↦ elim more [
    | inl h ↦ ap (touched_sets script) h.1
    | inr rest ↦ elim rest [
      | inl h ↦ ap (touched_sets script) h.1
      | inr h ↦ ap (touched_sets script) h.2
    ]
  ]
]

pub names_one : (command : Command) (s : ℕ) → NamesOne command s → named_set command ≡ s
names_one command s names = elim names [
  | inl h ↦ ap named_set h.1
  | inr more ↦ elim more [
    | inl h ↦ ap named_set h.1
    | inr rest ↦ elim rest [
      | inl h ↦ ap named_set h.1
      | inr h ↦ ap named_set h.2
    ]
  ]
]

-- such a command leaves no mark
pub mark_one : (core : ℕ → CoreData) (command : Command) (s : ℕ) → NamesOne command s → LeavesMark core (Some command)
mark_one core command s names = elim names [
  | inl h ↦ subst (λ (c : Command). LeavesMark core (Some c)) (sym h.1) tt
  | inr more ↦ elim more [
    | inl h ↦ subst (λ (c : Command). LeavesMark core (Some c)) (sym h.1) tt
    | inr rest ↦ elim rest [
      | inl h ↦ subst (λ (c : Command). LeavesMark core (Some c)) (sym h.1) tt
      | inr h ↦ subst (λ (c : Command). LeavesMark core (Some c)) (sym h.2) tt
    ]
  ]
]

-- a node, and the storage of its sets: commands that were forgotten change no set
touched_same : (script : ScriptData) (gone : ℕ) (command : Command) → touched_sets (without_first gone script) command ≡ touched_sets script command
touched_same script gone (commands.Lock s mode) = refl
touched_same script gone (commands.Try s mode) = refl
touched_same script gone (commands.Unlock s mode) = refl
touched_same script gone (commands.Change s gives_up mode) = refl
touched_same script gone (commands.DropAll other s) = refl
touched_same script gone (commands.Withdraw other s) = refl

-- the client's next command is this one, which a node reads in this script, and its sets in this storage
pub record IsNextHere (n : NodeData) (client : ℕ) (script : ScriptData) (command : Command) (sets : SetsData) : Type 0 where
  pub cores : core_at n ≡ core_in sets
  pub next : next_command n.script (state_of n) client ≡ Some command
  pub touched : touches n.script (state_of n) client ≡ touched_sets script command
  pub named : named_set command < length script.sets
  pub few : HaveFewAsks sets (touched_sets script command)

few_touched : (n : NodeData) (sets : SetsData) (numbers : List ℕ) → core_at n ≡ core_in sets → sets_within (state_of n) numbers ≡ true → HaveFewAsks sets numbers
few_touched n sets numbers cores within =
    subst (λ (core : ℕ → CoreData). All (λ s. HasFewAsks (core s)) numbers) cores
    (All-from_recursion (λ s. HasFewAsks (core_at n s)) numbers
    (all_weaker (λ s. set_within n.clock (core_at n s).state ≡ true) (λ s. HasFewAsks (core_at n s)) (λ s h. (set_numbers n.clock (core_at n s).state h).asks) numbers
    (all_true_each (λ s. set_within n.clock (core_at n s).state) numbers within)))

pub next_here : (m n : NodeData) (client : ℕ) (progress : Progress) (script : ScriptData) (command : Command) (sets : SetsData) → m ≡ n → IsNode m → AreSetsOf m.script m.me sets → m.cores ≡ sets.cores
    → HasNext n client progress → command ≡ next_of progress → script ≡ without_first m.gone m.script → IsTrue (leaves_room_to_act n.script (state_of n) client)
    → IsNextHere n client script command sets
next_here m n client progress script command sets same node are kept next is read room =
    let cores = core_held m n sets same kept are in
    let asked : next_command n.script (state_of n) client ≡ Some command = next_is n client progress next ∙ ap Some (sym is) in
    let whole : touched_sets script command ≡ touched_sets n.script command =
    ap (λ (s : ScriptData). touched_sets s command) read ∙ touched_same m.script m.gone command ∙ ap (λ (n : NodeData). touched_sets n.script command) same in
    let touched : touches n.script (state_of n) client ≡ touched_sets script command = ap (touched_by n.script) asked ∙ sym whole in
    let within : sets_within (state_of n) (touches n.script (state_of n) client) ≡ true = (and_parts (sets_within (state_of n) (touches n.script (state_of n) client)) _ room).0 in
    let inside : named_set (next_of progress) < length n.script.sets = named_inside n.script client (next_of progress) (next_targets n client progress (node_is m n same node) next) in
    record {
      cores = cores;
      next = asked;
      touched = touched;
      named = subst (λ (command : Command). named_set command < length script.sets) (sym is)
          (subst (λ (sets : List SetData). named_set (next_of progress) < length sets) (sym (ap (λ (s : ScriptData). s.sets) read ∙ ap (λ (n : NodeData). n.script.sets) same)) inside);
      few = subst (HaveFewAsks sets) touched (few_touched n sets (touches n.script (state_of n) client) cores within);
    }

-- what was there before
pub had_memory : (n : NodeData) (client : ℕ) (script : ScriptData) (command : Command) (sets : SetsData) (out : OutData) → IsNextHere n client script command sets → RoomToAct client n out
    → HaveMemory sets (touched_sets script command)
had_memory n client script command sets out here room =
    subst (λ (numbers : List ℕ). HaveMemory sets numbers) here.touched
    (subst (λ (core : ℕ → CoreData). All (λ s. HasMemory 0 (core s)) (touches n.script (state_of n) client)) here.cores room.cores)

pub had_mark : (n : NodeData) (client : ℕ) (script : ScriptData) (command : Command) (sets : SetsData) (out : OutData) → IsNextHere n client script command sets → RoomToAct client n out
    → LeavesMark (core_in sets) (Some command)
had_mark n client script command sets out here room =
    subst (λ (core : ℕ → CoreData). LeavesMark core (Some command)) here.cores (subst (LeavesMark (core_at n)) here.next room.mark)

pub had_to_send : (n : NodeData) (client sent : ℕ) (script : ScriptData) (command : Command) (old new : SetsData) → IsNextHere n client script command old → SameSets old new
    → sent ≡ sent_by new (touched_sets script command) → sent ≡ sum_by (λ s. most_sent (core_at n s)) (touches n.script (state_of n) client)
had_to_send n client sent script command old new here same is =
    is ∙ same_sent old new (touched_sets script command) same ∙ sym (ap (sent_by old) here.touched)
    ∙ sym (ap (λ (core : ℕ → CoreData). sum_by (λ s. most_sent (core s)) (touches n.script (state_of n) client)) here.cores)

-- and what was made
pub room_made : {T E : Type 0} (r : Result T E) (n new : NodeData) (client touched : ℕ) (script : ScriptData) (command : Command) (sets : SetsData) (had out : OutData)
    → touches n.script (state_of n) client ≡ touched_sets script command → next_command n.script (state_of n) client ≡ Some command
    → LeavesMark (core_in sets) (Some command) → SameNode n new → AreSetsOf new.script new.me sets → new.cores ≡ sets.cores → HaveMemory sets (touched_sets script command)
    → touched ≡ sent_by sets (touched_sets script command) → out.posts ≡ had.posts → out.events ≡ had.events
    → OnOk r (length had.posts + (touched + 1) ≤ out.post_room) → OnOk r (length had.events + (touched + 1) ≤ out.event_room) → OnOk r (RoomToAct client new out)
room_made (Err e) n new client touched script command sets had out asked next mark same are kept memory is posts events letters lines = record {}
room_made (Ok x) n new client touched script command sets had out asked next mark same are kept memory is posts events letters lines =
    let cores = core_held new new sets refl kept are in
    let numbers : touches new.script (state_of new) client ≡ touched_sets script command =
    ap (λ (s : ScriptData). touches s (state_of new) client) same.script ∙ ap (λ (s : NodeState). touches n.script s client) same.state ∙ asked in
    let sent : touched ≡ sum_by (λ s. most_sent (core_at new s)) (touches new.script (state_of new) client) =
    is ∙ sym (ap (sent_by sets) numbers) ∙ sym (ap (λ (core : ℕ → CoreData). sum_by (λ s. most_sent (core s)) (touches new.script (state_of new) client)) cores) in
    record {
      cores = subst (λ (core : ℕ → CoreData). All (λ s. HasMemory 0 (core s)) (touches new.script (state_of new) client)) (sym cores)
          (subst (λ (l : List ℕ). HaveMemory sets l) (sym numbers) memory);
      mark = subst (LeavesMark (core_at new))
          (sym (ap (λ (s : ScriptData). next_command s (state_of new) client) same.script ∙ ap (λ (s : NodeState). next_command n.script s client) same.state ∙ next))
          (subst (λ (core : ℕ → CoreData). LeavesMark core (Some command)) (sym cores) mark);
      send = record {
        posts = omega (arith, letters, sent, ap (λ (l : List Post). length l) posts);
        events = omega (arith, lines, sent, ap (λ (l : List Event). length l) events);
      };
    }

-- A letter.

abbrev seen_asks : RulesBody → ℕ
seen_asks (AskBody ask marked) = 1
seen_asks (TellBody tell) = 0
seen_asks (CopyBody ask) = 1
seen_asks (TokenBody desk) = length desk.queue
seen_asks (FreezeBody number modes) = 0

asks_seen : (body : Body) → asks_in body ≡ seen_asks (body_seen body)
asks_seen (bodies.Ask ask by_hoped) = refl
asks_seen (bodies.Tell tell) = refl
asks_seen (bodies.Copy ask) = refl
asks_seen (bodies.Token d) = refl
asks_seen (bodies.Freeze news) = refl

pub same_asks : (old new : AnyLetter) → letter_seen new ≡ letter_seen old → asks_in new.body ≡ asks_in old.body
same_asks old new same = asks_seen new.body ∙ ap (λ (l : Letter). seen_asks l.body) same ∙ sym (asks_seen old.body)

-- as much may be sent as before
pub letter_sent : (old new : SetsData) (s : ℕ) (before after : AnyLetter) → SameSets old new → letter_seen after ≡ letter_seen before
    → most_sent (core_in new s) + brought (body_seen after.body) ≡ most_sent (core_in old s) + brought (body_seen before.body)
letter_sent old new s before after same seen = omega (arith, sent_still old new s same, ap (λ (l : Letter). brought l.body) seen)

-- the letter's set, which a node reads in this storage
pub record IsLetterHere (n : NodeData) (letter : AnyLetter) (sets : SetsData) : Type 0 where
  pub cores : core_at n ≡ core_in sets
  pub inside : letter.set < length sets.cores
  pub few : HasFewAsks (core_in sets letter.set)
  pub asks : asks_in letter.body ≤ MAX_CLIENTS

pub letter_here : (m n : NodeData) (letter : AnyLetter) (sets : SetsData) → m ≡ n → IsNode m → AreSetsOf m.script m.me sets → m.cores ≡ sets.cores
    → fits (numbers_of n.script) n.me n.clock ((state_of n).set letter.set) (letter_seen letter) ≡ true → leaves_room_to_take (state_of n) (letter_seen letter) ≡ true
    → IsLetterHere n letter sets
letter_here m n letter sets same node are kept fit room =
    let cores = core_held m n sets same kept are in
    let here = node_is m n same node in
    let fits_here = fitting (numbers_of n.script) n.me n.clock ((state_of n).set letter.set) letter fit in
    record {
      cores = cores;
      inside = omega (arith, fits_here.set, are.count, ap (λ (n : NodeData). length n.script.sets) same);
      few = subst (λ (core : ℕ → CoreData). HasFewAsks (core letter.set)) cores (set_numbers n.clock (core_at n letter.set).state room).asks;
      asks = few_brought (numbers_of n.script) n.me letter.stamp.clock ((state_of n).set letter.set) letter.body
          (omega (arith, length-map n.script.clients (λ (client : ClientData). client.node), here.is_script.few_clients)) fits_here.body;
    }
