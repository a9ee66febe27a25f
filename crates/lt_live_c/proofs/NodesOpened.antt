-- What follows where a node in a process of its own is opened, asked or ended.
use Rattle.std.proofs.Common.{◌≡◌, ◌≢◌, ◌<◌, ◌≤◌, inl, inr, ℕ, zero, suc, List, [], ◌∷◌, Ok, Option, Some, None, Vec, length, refl, sym, ap, subst, arith, ◌∙◌, slice_get}
use Rattle.std.specs.Global.{Global}
use Rattle.std.specs.List.{AllByRecursion}
use Rattle.std.proofs.lemmas.Bool.{false≢true}
use Rattle.std.proofs.lemmas.List.Elements.{recursion_from_All}
use Rattle.lt_modes.specs.Script.{ScriptData}
use Rattle.lt_frames.specs.Sealing.{service_number}
use Rattle.lt_script.specs.Reading.{read_of}
use Rattle.lt_apart.specs.Remote.{IsOpenRemote}
use Rattle.lt_live.specs.Stations.{most_share}
use Rattle.lt_live_c.specs.declared.content.Content.{Content}
use Rattle.lt_live_c.specs.declared.content.Content.TheVariants as contents
use Rattle.lt_live_c.specs.declared.journal.Journal.{Journal}
use Rattle.lt_live_c.specs.OwnNode.{OwnNode}
use Rattle.lt_live_c.specs.Nodes.{bytes_of, IsOpenedNode, NodeOpenRefused, TellsPending}
use Rattle.lt_live_c.specs.NodeCalls.{HandleOpenedNode, WithPeer, AtNode, HandleFinishesNode, HandleNotFinishedNode, IsJournalOfOwnNode}
use Rattle.lt_live_c.specs.Told.{kind_of, IsOfKind}
use Rattle.lt_live_c.specs.ServicesTold.{client_text, client_script, OfJournal}
use Rattle.lt_live_c.specs.NodesTold.{OfNode, AfterNodeOpen, NodeOpensTold, AfterPending, PendingTold, NodeFinishesTold}
use Rattle.lt_live_c.proofs.ServicesOpened.{with_command, client_read, nothing_read, no_nodes, same_script, script_or_fault, fits}

-- What is opened.

opened_as : (Told : List ℕ → OwnNode → Type 0) → ((key : List ℕ) (n : OwnNode) → IsOpenedNode client_text 0 key 5 9 2 n → Told key n)
    → AfterNodeOpen Told
opened_as Told told key None h = absurd h
opened_as Told told key (Some (contents.Service other)) h = absurd h
opened_as Told told key (Some (contents.Station other)) h = absurd h
opened_as Told told key (Some (contents.Session other)) h = absurd h
opened_as Told told key (Some (contents.Journal other)) h = absurd h
opened_as Told told key (Some (contents.Node n)) h = told key n h

opened_remote : (key : List ℕ) (n : OwnNode) → IsOpenedNode client_text 0 key 5 9 2 n
    → IsOpenRemote client_script 0 (service_number client_text 5) key 9 2 576460752303423488 n.remote n.sessions
opened_remote key n h =
    let same = same_script h.script with_command (read_of client_text) h.read client_read in
    subst (λ (script : ScriptData). IsOpenRemote (record script { commands = [] }) 0 (service_number client_text 5) key 9 2 (most_share script) n.remote n.sessions)
    same h.opened

none_unsent : (ready : List (Vec ℕ Global)) (to : ℕ) → AllByRecursion (λ (bytes : Vec ℕ Global). bytes.items ≡ []) ready
    → bytes_of (slice_get ready to) ≡ []
none_unsent [] to all = refl
none_unsent (bytes ∷ ready) zero all = all.0
none_unsent (bytes ∷ ready) (suc to) all = none_unsent ready to all.1

-- nothing is opened of another kind, so that only nodes count
only_nodes : (text : List ℕ) (node : ℕ) (key : List ℕ) (new : Option Content) → HandleOpenedNode text node key 5 9 2 new
    → (n : OwnNode) × IsOpenedNode text node key 5 9 2 n
only_nodes text node key None h = absurd h
only_nodes text node key (Some (contents.Service other)) h = absurd h
only_nodes text node key (Some (contents.Station other)) h = absurd h
only_nodes text node key (Some (contents.Session other)) h = absurd h
only_nodes text node key (Some (contents.Journal other)) h = absurd h
only_nodes text node key (Some (contents.Node n)) h = (n, h)

never_opened : (key : List ℕ) (new : Option Content) → HandleOpenedNode [] 0 key 5 9 2 new → ⊥
never_opened key new h =
    let found = only_nodes [] 0 key new h in
    script_or_fault found.1.script no_nodes (read_of []) found.1.read nothing_read

no_such_node : (key : List ℕ) (new : Option Content) → HandleOpenedNode client_text 1 key 5 9 2 new → ⊥
no_such_node key new h =
    let found = only_nodes client_text 1 key new h in
    let same = same_script found.1.script with_command (read_of client_text) found.1.read client_read in
    omega (arith, found.1.inside, ap (λ (script : ScriptData). script.nodes) same)

in_range : (text : List ℕ) (node limit places : ℕ) (script : ScriptData)
    → length text ≤ 1048576 → 0 < limit → limit ≤ 36028797018963968 → 0 < places → places ≤ 4096
    → read_of text ≡ Ok script → node < script.nodes → NodeOpenRefused 4 text node limit places → ⊥
in_range text node limit places script few some_moves few_moves some_places few_places read inside h = elim (h.bad_argument refl) [
  | inl unfit ↦ false≢true (sym unfit ∙ fits text limit places few some_moves few_moves some_places few_places)
  | inr beyond ↦
      let same = same_script script beyond.0 (read_of text) read beyond.1.0 in
      omega (arith, inside, beyond.1.1, ap (λ (one : ScriptData). one.nodes) same)
]

pub node_opens_told : NodeOpensTold
node_opens_told = record {
  opened = opened_as _ opened_remote;
  service = opened_as _ (λ key n h. (opened_remote key n h).service_is);
  key = opened_as _ (λ key n h. (opened_remote key n h).key_is);
  number = opened_as _ (λ key n h. (opened_remote key n h).station.starts.me);
  script = opened_as _ (λ key n h. (opened_remote key n h).station.starts.script_is);
  nothing_made = opened_as _ (λ key n h. (opened_remote key n h).station.starts.log);
  nothing_brought = opened_as _ (λ key n h. (opened_remote key n h).brought_none);
  nothing_given = opened_as _ (λ key n h. (opened_remote key n h).given_none);
  nothing_unsent = opened_as _ (λ key n h to.
      none_unsent n.ready to (recursion_from_All (λ (bytes : Vec ℕ Global). bytes.items ≡ []) n.ready h.unsent_none));
  never_opened = never_opened;
  no_such_node = no_such_node;
  in_range = in_range;
  out_of_range = λ code text node limit places not h. h.unfit not;
  no_fault = λ text node limit places script read h.
      let fault = h.bad_script refl in
      script_or_fault script fault.0 (read_of text) read fault.1;
  open_codes = λ code text node limit places h. h.only;
}

-- What a call on a node does.

pub of_node : (code peer : ℕ) (Does : OwnNode → OwnNode → Type 0) (Told : OwnNode → Type 0) (a : OwnNode) (new : Option Content)
    → AtNode code peer Does (Some (contents.Node a)) new → ((b : OwnNode) → WithPeer code peer Does a b → Told b) → OfNode new Told
of_node code peer Does Told a None h told = absurd h
of_node code peer Does Told a (Some (contents.Service other)) h told = absurd h
of_node code peer Does Told a (Some (contents.Station other)) h told = absurd h
of_node code peer Does Told a (Some (contents.Session other)) h told = absurd h
of_node code peer Does Told a (Some (contents.Journal other)) h told = absurd h
of_node code peer Does Told a (Some (contents.Node b)) h told = told b h

-- it is done with the node, where the code is another one than that of a number which is no other node's
pub done : (code peer : ℕ) (Does : OwnNode → OwnNode → Type 0) (a b : OwnNode) → code ≢ 4 → WithPeer code peer Does a b → Does a b
done code peer Does a b other (inl both) = both.1
done code peer Does a b other (inr none) = absurd (other none.0)

both : (code : ℕ) (content b : Content) → (code ≡ 2) × (b ≡ content) → (code ≡ 2) × (Some b ≡ Some content)
both code content b h = (h.0, ap (λ (c : Content). Some c) h.1)

pub at_node : (peer : ℕ) (Calls : ℕ → OwnNode → OwnNode → Type 0) → IsOfKind 4 (λ code old new. AtNode code peer (Calls code) old new)
at_node peer Calls (contents.Service s) other code None h = absurd h
at_node peer Calls (contents.Service s) other code (Some b) h = both code (contents.Service s) b h
at_node peer Calls (contents.Station x) other code None h = absurd h
at_node peer Calls (contents.Station x) other code (Some b) h = both code (contents.Station x) b h
at_node peer Calls (contents.Session s) other code None h = absurd h
at_node peer Calls (contents.Session s) other code (Some b) h = both code (contents.Session s) b h
at_node peer Calls (contents.Journal journal) other code None h = absurd h
at_node peer Calls (contents.Journal journal) other code (Some b) h = both code (contents.Journal journal) b h
at_node peer Calls (contents.Node node) other code new h = absurd (other refl)

-- What waits.

pending_as : (code : ℕ) (Told : ℕ → OwnNode → OwnNode → Type 0)
    → ((to : ℕ) (a b : OwnNode) → WithPeer code to (TellsPending code to) a b → Told to a b) → AfterPending code Told
pending_as code Told told to a new h = of_node code to (TellsPending code to) (Told to a) a new h (told to a)

-- what is so where nothing happens, and where it is told what waits
pending_any : (code : ℕ) (Told : ℕ → OwnNode → OwnNode → Type 0) → ((to : ℕ) (a b : OwnNode) → TellsPending code to a b → Told to a b)
    → ((to : ℕ) (a : OwnNode) → Told to a a) → AfterPending code Told
pending_any code Told told same = pending_as code Told by_case
  where
    by_case : (to : ℕ) (a b : OwnNode) → WithPeer code to (TellsPending code to) a b → Told to a b
    by_case to a b (inl does) = told to a b does.1
    by_case to a b (inr none) = subst (λ (n : OwnNode). Told to a n) (sym none.1.1) (same to a)

pub pending_told : PendingTold
pending_told = record {
  waits = pending_as 0 _ (λ to a b h. elim ((done 0 to (TellsPending 0 to) a b (λ e. omega (arith, e)) h).tells) [
    | inl waits ↦ waits.1
    | inr none ↦ absurd (omega (arith, none.0))
  ]);
  all_given = pending_as 1 _ (λ to a b h. elim ((done 1 to (TellsPending 1 to) a b (λ e. omega (arith, e)) h).tells) [
    | inl waits ↦ absurd (omega (arith, waits.0))
    | inr none ↦ none.1.1
  ]);
  nothing_unsent = pending_as 1 _ (λ to a b h. elim ((done 1 to (TellsPending 1 to) a b (λ e. omega (arith, e)) h).tells) [
    | inl waits ↦ absurd (omega (arith, waits.0))
    | inr none ↦ none.1.0
  ]);
  no_peer = pending_as 4 _ (λ to a b h. elim h [
    | inl does ↦ absurd (elim does.1.tells [ inl waits ↦ omega (arith, waits.0) | inr none ↦ omega (arith, none.0) ])
    | inr none ↦ λ below apart. none.1.0 (below, apart)
  ]);
  same = pending_as 4 _ (λ to a b h. elim h [
    | inl does ↦ absurd (elim does.1.tells [ inl waits ↦ omega (arith, waits.0) | inr none ↦ omega (arith, none.0) ])
    | inr none ↦ none.1.1
  ]);
  given_stays = λ code. pending_any code _ (λ to a b h. h.looks.keeps.carried.given_stays) (λ to a node. refl);
  brought_stays = λ code. pending_any code _ (λ to a b h. h.looks.keeps.carried.brought_stays) (λ to a node. refl);
  unsent_stays = λ code. pending_any code _
      (λ to a b h node. ap (λ (ready : List (Vec ℕ Global)). bytes_of (slice_get ready node)) h.looks.keeps.ready) (λ to a node. refl);
  log_stays = λ code. pending_any code _ (λ to a b h. h.looks.only.runner.log) (λ to a. refl);
  others = λ to. at_node to (λ code. TellsPending code to);
  only = λ code. pending_as code _ (λ to a b h. elim h [
    | inl does ↦ elim does.1.tells [ inl waits ↦ inl waits.0 | inr none ↦ inr (inl none.0) ]
    | inr none ↦ inr (inr none.0)
  ]);
}

-- What is ended.

journal_as : (Told : OwnNode → Journal → Type 0) → ((n : OwnNode) (journal : Journal) → IsJournalOfOwnNode n journal → Told n journal)
    → (n : OwnNode) (new : Option Content) → HandleFinishesNode (Some (contents.Node n)) new → OfJournal new (Told n)
journal_as Told told n None h = absurd h
journal_as Told told n (Some (contents.Service other)) h = absurd h
journal_as Told told n (Some (contents.Station other)) h = absurd h
journal_as Told told n (Some (contents.Session other)) h = absurd h
journal_as Told told n (Some (contents.Node other)) h = absurd h
journal_as Told told n (Some (contents.Journal journal)) h = told n journal h

never_of_others : (content : Content) (new : Option Content) → kind_of content ≢ 4 → HandleFinishesNode (Some content) new → ⊥
never_of_others (contents.Service s) None other h = h
never_of_others (contents.Service s) (Some b) other h = h
never_of_others (contents.Station x) None other h = h
never_of_others (contents.Station x) (Some b) other h = h
never_of_others (contents.Session s) None other h = h
never_of_others (contents.Session s) (Some b) other h = h
never_of_others (contents.Journal journal) None other h = h
never_of_others (contents.Journal journal) (Some b) other h = h
never_of_others (contents.Node n) new other h = other refl

forgotten_of_others : (content : Content) → kind_of content ≢ 4 → HandleNotFinishedNode 9 (Some content) → ⊥
forgotten_of_others (contents.Service s) other h = h.forgotten refl
forgotten_of_others (contents.Station x) other h = h.forgotten refl
forgotten_of_others (contents.Session s) other h = h.forgotten refl
forgotten_of_others (contents.Journal journal) other h = h.forgotten refl
forgotten_of_others (contents.Node n) other h = other refl

pub node_finishes_told : NodeFinishesTold
node_finishes_told = record {
  script = journal_as _ (λ n journal h. h.script);
  text = journal_as _ (λ n journal h. h.text);
  held = journal_as _ (λ n journal h. h.held);
  waiting = journal_as _ (λ n journal h. h.waiting);
  never_of_others = never_of_others;
  forgotten = λ n all h. h.forgotten refl all;
  forgotten_of_others = forgotten_of_others;
  wrong = λ n h. h.wrong refl tt;
  finish_codes = λ code content h. h.only;
}
