-- A whole move of a node names nodes of the script, and its letters are for other nodes of it.
use Rattle.std.proofs.Common.{◌≡◌, ℕ, ◌+◌, ◌<◌, inl, inr, List, [], ◌∷◌, length, Option, Some, None, Bool, true, false, refl, sym, subst, arith, ◌==◌, if◌then◌else◌, nat_lt, nat_le, All, is_none, eqb-true, ltb-true}
use Rattle.std.specs.List.{AllByRecursion, list_all}
use Rattle.std.proofs.lemmas.Bool.{cases_eq, and_parts}
use Rattle.std.proofs.lemmas.List.{length-replicate}
use Rattle.std.proofs.lemmas.List.Elements.{All-nil, All-cons, All-from_recursion}
use Rattle.lt_lists.proofs.AllLemmas.{all_append}
use Rattle.lt_lists.proofs.Puts.{put-same, put-other}
use Rattle.lt_modes.specs.declared.stamp.Stamp.{Stamp}
use Rattle.lt_modes.specs.declared.ask.Ask.{Ask}
use Rattle.lt_modes.specs.declared.command.Command.{Command}
use Rattle.lt_modes.specs.declared.command.Command.TheVariants.{Lock, Unlock, Try, Change, DropAll, Withdraw}
use Rattle.lt_modes.specs.Script.{ScriptData}
use Rattle.lt_modes.specs.State.{SetState, Body, AskBody, TellBody, CopyBody, TokenBody, FreezeBody, ParkedAsk, ParkedTell, first_entry, first_state, first_desk, Made, silent}
use Rattle.lt_modes.specs.Fits.{Numbers, head_fits, body_fits, is_at_home, numbers_of}
use Rattle.lt_modes.specs.SetMove.{finish, drop}
use Rattle.lt_modes.specs.Routing.{learn}
use Rattle.lt_modes.specs.Taking.{take_copy, take_body, take}
use Rattle.lt_spec.specs.NodeMove.{related, NodeState, NodeMade, node_waits, next_command, touched, each_touched, drop_all, obey, act_stamp, take_stamp, at_clock, one_made}
use Rattle.lt_lists.specs.Below.{put}
use Rattle.lt_model.proofs.Effects.{HoldsOf, ByEffects, acts_by_effects, take_by_effects}
use Rattle.lt_model.specs.Invariant.{IsNamed, IsParkedNamed}
use Rattle.lt_law_own_lines.specs.WaitingLaws.{IsForPeer, NamesNodes, NodeNames, ReachesPeers, NamesAtStart, ActsReachPeers, TakesReachPeers}
use Rattle.lt_law_own_lines.proofs.Routes.{named, DeskNames, all_dealt, route_named, learn_named}
use Rattle.lt_law_own_lines.proofs.Ends.{same_names, named_ends, named_acts}

-- what a node made, with letters by recursion
record Reached (nodes me : ℕ) (made : NodeMade) : Type 0 where
  node : NodeNames nodes me made.node
  posts : AllByRecursion (IsForPeer nodes me) made.posts

as_said : (nodes me : ℕ) (made : NodeMade) → Reached nodes me made → ReachesPeers nodes me made
as_said nodes me made h = record { node = h.node; posts = All-from_recursion (IsForPeer nodes me) made.posts h.posts }

touched_reached : (nodes me s : ℕ) (n : NodeState) (m : Made) → NodeNames nodes me n → named nodes me m.state m.posts → Reached nodes me (touched n s m)
touched_reached nodes me s n m h made = record {
  node = λ k. elim (cases_eq k s) [
    | inl e ↦ subst (λ (x : ℕ). NamesNodes nodes me (put n.set s m.state x)) (sym e) (subst (NamesNodes nodes me) (sym (put-same n.set s m.state)) made.0)
    | inr d ↦ subst (NamesNodes nodes me) (sym (put-other n.set s m.state k d)) (h k)
  ];
  posts = made.1;
}

each_reached : (nodes me : ℕ) (rule : ℕ → SetState → Made) → ((s : ℕ) (t : SetState) → NamesNodes nodes me t → named nodes me (rule s t).state (rule s t).posts)
    → (sets : List ℕ) (n : NodeState) → NodeNames nodes me n → Reached nodes me (each_touched rule sets n)
each_reached nodes me rule each [] n h = record { node = h; posts = tt }
each_reached nodes me rule each (s ∷ rest) n h =
    let m = rule s (n.set s) in
    let first = touched_reached nodes me s n m h (each s (n.set s) (h s)) in
    let later = each_reached nodes me rule each rest (touched n s m).node first.node in
    record { node = later.node; posts = all_append (IsForPeer nodes me) m.posts (each_touched rule rest (touched n s m).node).posts first.posts later.posts }

commands : (nodes set : ℕ) (stamp : Stamp) → stamp.node < nodes → ByEffects set stamp (named nodes stamp.node) (named nodes stamp.node)
commands nodes set stamp here =
    let fact = named nodes stamp.node in
    acts_by_effects set stamp fact fact fact fact (named_acts nodes set stamp here) (named_ends nodes set stamp)

obey_reached : (nodes : ℕ) (script : ScriptData) (stamp : Stamp) → stamp.node < nodes → (client : ℕ) (command : Option Command) (n : NodeState)
    → NodeNames nodes stamp.node n → Reached nodes stamp.node (obey script stamp client command n)
obey_reached nodes script stamp here client None n h = record { node = h; posts = tt }
obey_reached nodes script stamp here client (Some (Lock s mode)) n h =
    touched_reached nodes stamp.node s n _ h ((commands nodes s stamp here).locks client mode (n.set s) [] (h s, tt))
obey_reached nodes script stamp here client (Some (Try s mode)) n h =
    touched_reached nodes stamp.node s n _ h ((commands nodes s stamp here).tries client mode (n.set s) [] (h s, tt))
obey_reached nodes script stamp here client (Some (Unlock s mode)) n h =
    touched_reached nodes stamp.node s n _ h ((commands nodes s stamp here).unlocks client mode (n.set s) [] (h s, tt))
obey_reached nodes script stamp here client (Some (Change s gives_up mode)) n h =
    touched_reached nodes stamp.node s n _ h ((commands nodes s stamp here).changes client gives_up mode (n.set s) [] (h s, tt))
obey_reached nodes script stamp here client (Some (Withdraw other s)) n h =
    touched_reached nodes stamp.node s n _ h ((commands nodes s stamp here).withdraws client other (n.set s) [] (h s, tt))
obey_reached nodes script stamp here client (Some (DropAll other s)) n h = by_test (node_waits script n other)
  where
    by_test : (waiting : Bool) → Reached nodes stamp.node (drop_all waiting stamp client other s (related script s) n)
    by_test true =
        let all = each_reached nodes stamp.node (λ k. finish k stamp) (λ k t names. (commands nodes k stamp here).finishes t [] (names, tt)) (related script s) n h in
        record { node = all.node; posts = all.posts }
    by_test false =
        let all = each_reached nodes stamp.node (λ k. drop k stamp other) (λ k t names. (commands nodes k stamp here).drops other t [] (names, tt)) (related script s) n h in
        record { node = all.node; posts = all.posts }

pub acts_reach_peers : ActsReachPeers
acts_reach_peers script q client n below h =
    as_said script.nodes q _
    (obey_reached script.nodes script (act_stamp q n) below client (next_command script n client) (one_made client (at_clock (n.clock + 1) n)) (λ s. h s))

-- an ask at home is of a node of the script
home_named : (numbers : Numbers) (ask : Ask) → is_at_home numbers ask ≡ true → ask.node < numbers.nodes
home_named numbers ask h = ltb-true ask.node numbers.nodes (and_parts (nat_lt ask.node numbers.nodes) _ h).0

all_named : (numbers : Numbers) (asks : List Ask) → list_all (is_at_home numbers) asks ≡ true → All (IsNamed numbers.nodes) asks
all_named numbers [] h = All-nil (IsNamed numbers.nodes)
all_named numbers (ask ∷ rest) h =
    let parts = and_parts (is_at_home numbers ask) (list_all (is_at_home numbers) rest) h in
    All-cons (IsNamed numbers.nodes) ask rest (home_named numbers ask parts.0) (all_named numbers rest parts.1)

body_named : (numbers : Numbers) (set clock : ℕ) (stamp : Stamp) (body : Body) (s t : SetState) → stamp.node < numbers.nodes
    → body_fits numbers stamp.node s clock body ≡ true → NamesNodes numbers.nodes stamp.node t
    → HoldsOf (named numbers.nodes stamp.node) [] (take_body set stamp body t)
body_named numbers set clock stamp (AskBody ask marked) s t here f h =
    route_named numbers.nodes set stamp marked (ParkedAsk ask) t [] (home_named numbers ask (and_parts (is_at_home numbers ask) _ f).0) (h, tt)
body_named numbers set clock stamp (TellBody tell) s t here f h = route_named numbers.nodes set stamp false (ParkedTell tell) t [] tt (h, tt)
body_named numbers set clock stamp (CopyBody ask) s t here f h =
    (same_names numbers.nodes stamp.node t (take_copy set ask t).state refl refl refl refl h, tt)
body_named numbers set clock stamp (TokenBody desk) s t here f h =
    let away = and_parts (is_none s.desk) _ f in
    let firm = and_parts (nat_le s.firm.epoch desk.epoch) _ away.1 in
    let epoch = and_parts (nat_le desk.epoch clock) _ firm.1 in
    let number = and_parts (nat_le desk.number clock) _ epoch.1 in
    let entries = and_parts (length desk.entries == numbers.nodes) _ number.1 in
    let queue = and_parts (list_all (is_at_home numbers) desk.queue) _ entries.1 in
    let brought : DeskNames numbers.nodes desk = record {
      queue = all_named numbers desk.queue queue.0;
      entries = omega (arith, eqb-true (length desk.entries) numbers.nodes entries.0);
    } in
    let dealt = all_dealt numbers.nodes t.parked desk brought h.parked in
    (record { queue = dealt.queue; parked = All-nil (IsParkedNamed numbers.nodes); firm = here; hoped = tt; entries = dealt.entries }, tt)
body_named numbers set clock stamp (FreezeBody number frozen) s t here f h = by_test (nat_lt t.number number)
  where
    by_test : (later : Bool) → HoldsOf (named numbers.nodes stamp.node) [] (silent (if later then record t { frozen = frozen; number = number } else t))
    by_test true = (same_names numbers.nodes stamp.node t (record t { frozen = frozen; number = number }) refl refl refl refl h, tt)
    by_test false = (h, tt)

pub takes_reach_peers : TakesReachPeers
takes_reach_peers script q clock letter n below h f =
    let numbers = numbers_of script in
    let stamp = take_stamp q n letter in
    let s = n.set letter.set in
    let parts = and_parts (head_fits numbers clock letter) (body_fits numbers q s letter.stamp.clock letter.body) f in
    let set = and_parts (nat_lt letter.set numbers.sets) _ parts.0 in
    let link = and_parts (nat_lt letter.link.node numbers.nodes) _ set.1 in
    let learnt = learn_named script.nodes q letter.link s (ltb-true letter.link.node numbers.nodes link.0) (h letter.set) in
    let arrived = body_named numbers letter.set letter.stamp.clock stamp letter.body s (learn letter.link s) below parts.1 learnt in
    let fact = named script.nodes q in
    as_said script.nodes q _
    (touched_reached script.nodes q letter.set (at_clock stamp.clock n) (take stamp letter s) (λ k. h k)
    (take_by_effects stamp letter fact fact fact (named_ends script.nodes letter.set stamp) s [] arrived))

pub names_at_start : NamesAtStart
names_at_start script q below s = by_test (q == 0)
  where
    by_test : (here : Bool) → NamesNodes script.nodes q (record (first_state script.nodes q) { desk = if here then Some (first_desk script.nodes) else None })
    by_test true = record {
      queue = All-nil (IsNamed script.nodes);
      parked = All-nil (IsParkedNamed script.nodes);
      firm = omega (arith, below);
      hoped = tt;
      entries = omega (arith, length-replicate script.nodes first_entry);
    }
    by_test false = record {
      queue = All-nil (IsNamed script.nodes);
      parked = All-nil (IsParkedNamed script.nodes);
      firm = omega (arith, below);
      hoped = tt;
      entries = tt;
    }
