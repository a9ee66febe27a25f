-- A move of a node leaves a client that no line names waiting as before.
use Rattle.std.proofs.Common.{◌≡◌, ◌≢◌, ℕ, suc, ◌+◌, ◌<◌, inl, inr, List, [], ◌∷◌, ◌++◌, length, Option, Some, None, Bool, true, false, refl, sym, ap, subst, arith, ◌∙◌, ◌==◌, ◌||◌, not, nat_le, if◌then◌else◌, is_none, AllPairs, Contains, IsTrue, eq-eqb, ne_eqb}
use Rattle.std.specs.List.{list_all}
use Rattle.std.proofs.lemmas.Bool.{cases_eq, and_parts}
use Rattle.std.proofs.lemmas.List.Elements.{All-contains, Contains-append_left, Contains-append_right, recursion_from_All}
use Rattle.std.proofs.lemmas.List.Sums.{AllPass-from_list_all}
use Rattle.lt_modes.specs.declared.stamp.Stamp.{Stamp}
use Rattle.lt_modes.specs.declared.ask.Ask.{Ask}
use Rattle.lt_modes.specs.declared.command.Command.{Command}
use Rattle.lt_modes.specs.declared.command.Command.TheVariants.{Lock, Unlock, Try, Change, DropAll, Withdraw}
use Rattle.lt_modes.specs.Script.{ScriptData}
use Rattle.lt_modes.specs.State.{SetState, Body, AskBody, TellBody, CopyBody, TokenBody, FreezeBody, Parked, ParkedAsk, ParkedTell, Made, has_stamp}
use Rattle.lt_modes.specs.Fits.{Numbers, ask_if, parked_asks, asks_here, is_at_home, is_pending, is_known, are_apart, body_fits}
use Rattle.lt_modes.specs.Serving.{queue_of}
use Rattle.lt_modes.specs.Waiting.{waits}
use Rattle.lt_modes.specs.SetMove.{finish, drop}
use Rattle.lt_modes.specs.Taking.{take}
use Rattle.lt_lists.specs.Below.{put}
use Rattle.lt_lists.proofs.AllLemmas.{all_front, all_back}
use Rattle.lt_lists.proofs.Members.{contains_cases, list_any-which, filter_map-at, none_in, all_of}
use Rattle.lt_lists.proofs.Puts.{put-same, put-other}
use Rattle.lt_lists.proofs.Searches.{any_below_same}
use Rattle.lt_spec.specs.NodeMove.{related, NodeState, NodeMade, node_waits, next_command, touched, each_touched, drop_all, act_stamp, take_stamp, at_clock, one_made, obey}
use Rattle.lt_law_accounts.proofs.Asks.{has_stamp-true, has_stamp-own, same_ask-true}
use Rattle.lt_model.proofs.TryEffects.{command_rules, CommandRules}
use Rattle.lt_law_own_lines.specs.WaitingLaws.{OwnAsksKnown, WaitingInCommands, WaitingInTakes, WaitingInActs, WaitingInNodeTakes, KnownWhereSound}
use Rattle.lt_law_own_lines.proofs.Ends.{Maker, IsMadeBy, IsOwnMadeBy, IsParkedMadeBy, AreMadeBy, OthersLines}
use Rattle.lt_law_own_lines.proofs.WaitingEffects.{BringsMadeBy, Leaves, leaves, leaving_acts, finish_leaves, drop_leaves, take_leaves, withdraw_leaves}

-- the client of the first ask with the stamp
abbrev named : List Ask → Maker
named [] stamp = 0
named (own ∷ rest) stamp = if has_stamp stamp own then own.client else named rest stamp

named-at : (pending : List Ask) (own : Ask) → AllPairs (λ (a b : Ask). a.stamp ≢ b.stamp) pending → Contains pending own → named pending own.stamp ≡ own.client
named-at [] own apart there = none_in own there
named-at (first ∷ rest) own apart there = elim (contains_cases first own rest there) [
  | inl e ↦ ap (λ (b : Bool). if b then first.client else named rest own.stamp) (has_stamp-own own.stamp first (ap (λ (a : Ask). a.stamp) e))
      ∙ ap (λ (a : Ask). a.client) e
  | inr later ↦ by_test (has_stamp own.stamp first) refl
      (λ same. apart 0 (suc later.0) own (omega arith) (omega (arith, later.1)) (same ∙ ap (λ (a : Ask). a.stamp) (sym later.2)))
      (named-at rest own (λ i j d before within. apart (suc i) (suc j) d (omega (arith, before)) (omega (arith, within))) later)
]
  where
    by_test : (here : Bool) → has_stamp own.stamp first ≡ here → (first.stamp ≢ own.stamp) → named rest own.stamp ≡ own.client
        → (if here then first.client else named rest own.stamp) ≡ own.client
    by_test true e other again = absurd (other (has_stamp-true own.stamp first e))
    by_test false e other again = again

-- a new stamp is this client's; the others are of those who made the unanswered asks
abbrev maker_of : Stamp → ℕ → List Ask → Maker
maker_of new client pending stamp = if stamp.clock == new.clock then client else named pending stamp

maker-new : (new : Stamp) (client : ℕ) (pending : List Ask) → maker_of new client pending new ≡ client
maker-new new client pending = ap (λ (b : Bool). if b then client else named pending new) (eq-eqb new.clock new.clock refl)

maker-own : (stamp : Stamp) (client : ℕ) (s : SetState) (own : Ask) → OwnAsksKnown stamp s → Contains s.pending own
    → IsMadeBy (maker_of stamp client s.pending) own
maker-own stamp client s own known there =
    let before = All-contains (λ (ask : Ask). ask.stamp.clock < stamp.clock) s.pending own known.earlier there in
    ap (λ (b : Bool). if b then client else named s.pending own.stamp) (ne_eqb own.stamp.clock stamp.clock (λ e. omega (arith, before, e)))
    ∙ named-at s.pending own known.apart there

pending-which : (s : SetState) (ask : Ask) → IsTrue (is_pending s ask) → Contains s.pending ask
pending-which s ask e =
    let found = list_any-which _ s.pending e in
    subst (λ (a : Ask). Contains s.pending a) (sym (same_ask-true ask found.0 found.2)) found.1

known-which : (q : ℕ) (s : SetState) (ask : Ask) → ask.node ≡ q → IsTrue (is_known q s ask) → Contains s.pending ask
known-which q s ask own e =
    pending-which s ask (subst (λ (b : Bool). (not b || is_pending s ask) ≡ true) (eq-eqb ask.node q own) e)

known-made : (stamp : Stamp) (client : ℕ) (s : SetState) (ask : Ask) → OwnAsksKnown stamp s → IsTrue (is_known stamp.node s ask)
    → IsOwnMadeBy (maker_of stamp client s.pending) stamp.node ask
known-made stamp client s ask known e own = maker-own stamp client s ask known (known-which stamp.node s ask own e)

made_by : (stamp : Stamp) (client : ℕ) (s : SetState) → OwnAsksKnown stamp s → AreMadeBy (maker_of stamp client s.pending) stamp.node s
made_by stamp client s known = record {
  pending = all_of _ s.pending (λ own there. maker-own stamp client s own known there);
  parked = all_of _ s.parked (λ item there. by_item item there);
  queue = all_of _ (queue_of s)
      (λ ask there. known-made stamp client s ask known
      (All-contains (λ (own : Ask). IsTrue (is_known stamp.node s own)) (asks_here s) ask known.known
      (Contains-append_right (parked_asks s) (queue_of s) ask there)));
}
  where
    by_item : (item : Parked) → Contains s.parked item → IsParkedMadeBy (maker_of stamp client s.pending) stamp.node item
    by_item (ParkedAsk ask) there = known-made stamp client s ask known
        (All-contains (λ (own : Ask). IsTrue (is_known stamp.node s own)) (asks_here s) ask known.known
        (Contains-append_left (parked_asks s) (queue_of s) ask (filter_map-at ask_if s.parked (ParkedAsk ask) ask there refl)))
    by_item (ParkedTell tell) there = tt

brings : (numbers : Numbers) (stamp : Stamp) (client clock : ℕ) (s : SetState) (body : Body) → OwnAsksKnown stamp s
    → IsTrue (body_fits numbers stamp.node s clock body) → BringsMadeBy (maker_of stamp client s.pending) stamp.node body
brings numbers stamp client clock s (AskBody ask marked) known fits =
    known-made stamp client s ask known (and_parts _ _ (and_parts _ _ fits).1).0
brings numbers stamp client clock s (TellBody tell) known fits = tt
brings numbers stamp client clock s (CopyBody ask) known fits =
    maker-own stamp client s ask known (pending-which s ask (and_parts _ _ (and_parts _ _ (and_parts _ _ fits).1).1).0)
brings numbers stamp client clock s (TokenBody desk) known fits =
    let p1 = and_parts (is_none s.desk) _ fits in
    let p2 = and_parts (nat_le s.firm.epoch desk.epoch) _ p1.1 in
    let p3 = and_parts (nat_le desk.epoch clock) _ p2.1 in
    let p4 = and_parts (nat_le desk.number clock) _ p3.1 in
    let p5 = and_parts (length desk.entries == numbers.nodes) _ p4.1 in
    let asks = desk.queue ++ parked_asks s in
    let q1 = and_parts (list_all (is_at_home numbers) desk.queue) _ p5.1 in
    let q2 = and_parts (are_apart asks) _ q1.1 in
    all_of _ desk.queue
    (λ ask there. known-made stamp client s ask known
    (All-contains (λ (own : Ask). IsTrue (is_known stamp.node s own)) asks ask (AllPass-from_list_all (is_known stamp.node s) asks q2.1)
    (Contains-append_left desk.queue (parked_asks s) ask there)))
brings numbers stamp client clock s (FreezeBody number modes) known fits = tt

pub waiting_in_commands : WaitingInCommands
waiting_in_commands set stamp s known = record {
  locks = λ client mode other lines. ((rules client other).locks mode s (made_by stamp client s known)).waiting (recursion_from_All _ _ lines);
  tries = λ client mode other lines. ((rules client other).tries mode s (made_by stamp client s known)).waiting (recursion_from_All _ _ lines);
  unlocks = λ client mode other lines. ((rules client other).unlocks mode s (made_by stamp client s known)).waiting (recursion_from_All _ _ lines);
  changes = λ client gives_up mode other lines.
      ((rules client other).changes gives_up mode s (made_by stamp client s known)).waiting (recursion_from_All _ _ lines);
  drops = λ client other lines.
      (drop_leaves (maker_of stamp client s.pending) other set stamp client s (made_by stamp client s known)).waiting (recursion_from_All _ _ lines);
  withdraws = λ client whose other lines.
      (withdraw_leaves (maker_of stamp client s.pending) other set stamp client whose s (made_by stamp client s known)).waiting (recursion_from_All _ _ lines);
  finishes = λ other lines. (finish_leaves (maker_of stamp 0 s.pending) other set stamp s (made_by stamp 0 s known)).waiting (recursion_from_All _ _ lines);
}
  where
    rules : (client other : ℕ) → CommandRules set stamp client (leaves (maker_of stamp client s.pending) stamp.node other)
    rules client other = command_rules set stamp client _ (leaving_acts _ other set stamp client (maker-new stamp client s.pending))

pub waiting_in_takes : WaitingInTakes
waiting_in_takes numbers stamp letter s known fits other lines =
    (take_leaves (maker_of stamp 0 s.pending) other stamp letter (brings numbers stamp 0 letter.stamp.clock s letter.body known fits) s
    (made_by stamp 0 s known)).waiting (recursion_from_All _ _ lines)

-- in each set of the script the asks were made by these clients
abbrev EachMadeBy : ScriptData → (ℕ → Maker) → ℕ → NodeState → Type 0
EachMadeBy script makers q n = (s : ℕ) → s < length script.sets → AreMadeBy (makers s) q (n.set s)

-- so it stays, and in each set a client that no line names waits as before
record NodeLeaves (script : ScriptData) (makers : ℕ → Maker) (q other : ℕ) (n : NodeState) (m : NodeMade) : Type 0 where
  each : EachMadeBy script makers q m.node
  waiting : OthersLines other m.events → (s : ℕ) → s < length script.sets → waits (m.node.set s) other ≡ waits (n.set s) other
  made : m.node.made ≡ n.made

touched_leaves : (script : ScriptData) (makers : ℕ → Maker) (q other set : ℕ) (n : NodeState) (m : Made) → EachMadeBy script makers q n
    → (set < length script.sets → Leaves (makers set) q other (n.set set) m) → NodeLeaves script makers q other n (touched n set m)
touched_leaves script makers q other set n m h leads = record {
  each = λ s within. elim (cases_eq s set) [
    | inl e ↦ subst (λ (k : ℕ). AreMadeBy (makers k) q (put n.set set m.state k)) (sym e)
        (subst (AreMadeBy (makers set) q) (sym (put-same n.set set m.state)) (leads (subst (λ (k : ℕ). k < length script.sets) e within)).made)
    | inr d ↦ subst (AreMadeBy (makers s) q) (sym (put-other n.set set m.state s d)) (h s within)
  ];
  waiting = λ lines s within. elim (cases_eq s set) [
    | inl e ↦ subst (λ (k : ℕ). waits (put n.set set m.state k) other ≡ waits (n.set k) other) (sym e)
        (ap (λ (t : SetState). waits t other) (put-same n.set set m.state) ∙ (leads (subst (λ (k : ℕ). k < length script.sets) e within)).waiting lines)
    | inr d ↦ ap (λ (t : SetState). waits t other) (put-other n.set set m.state s d)
  ];
  made = refl;
}

each_leaves : (script : ScriptData) (makers : ℕ → Maker) (q other : ℕ) (rule : ℕ → SetState → Made)
    → ((set : ℕ) (t : SetState) → leaves (makers set) q other t (rule set t)) → (sets : List ℕ) (n : NodeState) → EachMadeBy script makers q n
    → NodeLeaves script makers q other n (each_touched rule sets n)
each_leaves script makers q other rule leads [] n h = record { each = h; waiting = λ lines s within. refl; made = refl }
each_leaves script makers q other rule leads (set ∷ rest) n h =
    let m = rule set (n.set set) in
    let next = (touched n set m).node in
    let first = touched_leaves script makers q other set n m h (λ within. leads set (n.set set) (h set within)) in
    let again = each_leaves script makers q other rule leads rest next first.each in
    record {
      each = again.each;
      waiting = λ lines s within.
          again.waiting (all_back _ m.events (each_touched rule rest next).events lines) s within
          ∙ first.waiting (all_front _ m.events (each_touched rule rest next).events lines) s within;
      made = again.made;
    }

drop_all_leaves : (script : ScriptData) (makers : ℕ → Maker) (stamp : Stamp) (client dropped other s : ℕ) (n : NodeState) (waiting : Bool)
    → EachMadeBy script makers stamp.node n
    → NodeLeaves script makers stamp.node other n (drop_all waiting stamp client dropped s (related script s) n)
drop_all_leaves script makers stamp client dropped other s n true h =
    let each = each_leaves script makers stamp.node other (λ k. finish k stamp) (λ k t. finish_leaves (makers k) other k stamp t) (related script s) n h in
    record { each = each.each; waiting = λ lines. each.waiting lines.1; made = each.made }
drop_all_leaves script makers stamp client dropped other s n false h =
    let each = each_leaves script makers stamp.node other (λ k. drop k stamp dropped) (λ k t. drop_leaves (makers k) other k stamp dropped t) (related script s) n h in
    record { each = each.each; waiting = λ lines. each.waiting lines.1; made = each.made }

obey_leaves : (script : ScriptData) (makers : ℕ → Maker) (stamp : Stamp) (client other : ℕ) (command : Option Command) (n : NodeState)
    → ((s : ℕ) → makers s stamp ≡ client) → EachMadeBy script makers stamp.node n
    → NodeLeaves script makers stamp.node other n (obey script stamp client command n)
obey_leaves script makers stamp client other command n by h = by_command command
  where
    rules : (s : ℕ) → CommandRules s stamp client (leaves (makers s) stamp.node other)
    rules s = command_rules s stamp client _ (leaving_acts (makers s) other s stamp client (by s))

    by_command : (command : Option Command) → NodeLeaves script makers stamp.node other n (obey script stamp client command n)
    by_command None = record { each = h; waiting = λ lines s within. refl; made = refl }
    by_command (Some (Lock s mode)) =
        touched_leaves script makers stamp.node other s n _ h (λ within. (rules s).locks mode (n.set s) (h s within))
    by_command (Some (Try s mode)) =
        touched_leaves script makers stamp.node other s n _ h (λ within. (rules s).tries mode (n.set s) (h s within))
    by_command (Some (Unlock s mode)) =
        touched_leaves script makers stamp.node other s n _ h (λ within. (rules s).unlocks mode (n.set s) (h s within))
    by_command (Some (Change s gives_up mode)) =
        touched_leaves script makers stamp.node other s n _ h (λ within. (rules s).changes gives_up mode (n.set s) (h s within))
    by_command (Some (Withdraw whose s)) =
        touched_leaves script makers stamp.node other s n _ h (λ within. withdraw_leaves (makers s) other s stamp client whose (n.set s) (h s within))
    by_command (Some (DropAll dropped s)) =
        drop_all_leaves script makers stamp client dropped other s n (node_waits script n dropped) h

pub waiting_in_acts : WaitingInActs
waiting_in_acts script q client other n known differ lines =
    let stamp = act_stamp q n in
    let ready = one_made client (at_clock (n.clock + 1) n) in
    let left = obey_leaves script (λ s. maker_of stamp client (n.set s).pending) stamp client other (next_command script n client) ready
    (λ s. maker-new stamp client (n.set s).pending) (λ s within. made_by stamp client (n.set s) (known s within)) in
    let each = left.waiting (recursion_from_All _ _ lines) in
    record {
      in_each = each;
      in_some = any_below_same (length script.sets) _ _ each;
      made = ap (λ (f : ℕ → ℕ). f other) left.made ∙ put-other n.made client (n.made client + 1) other differ;
    }

pub waiting_in_node_takes : WaitingInNodeTakes
waiting_in_node_takes script numbers q other letter n known fits lines =
    let stamp = take_stamp q n letter in
    let ready = at_clock stamp.clock n in
    let left = touched_leaves script (λ s. maker_of stamp 0 (n.set s).pending) q other letter.set ready (take stamp letter (n.set letter.set))
    (λ s within. made_by stamp 0 (n.set s) (known s within))
    (λ within. take_leaves (maker_of stamp 0 (n.set letter.set).pending) other stamp letter
    (brings numbers stamp 0 letter.stamp.clock (n.set letter.set) letter.body (known letter.set within) fits) (n.set letter.set)
    (made_by stamp 0 (n.set letter.set) (known letter.set within))) in
    let each = left.waiting (recursion_from_All _ _ lines) in
    record { in_each = each; in_some = any_below_same (length script.sets) _ _ each; made = refl }

pub known_where_sound : KnownWhereSound
known_where_sound numbers clock stamp s sound later = record {
  known = λ k d within. (sound.here k d within).known;
  apart = sound.stamps_apart;
  earlier = λ k d within. omega (arith, sound.made k d within, later);
}
