-- The sets of a node, as its moves see them.
use Rattle.std.proofs.Common.{◌≡◌, ◌≢◌, ◌<◌, ◌∙◌, ℕ, List, length, inl, inr, arith, sym, ap, subst, slice_index_or, slice_set, get_or-set_other, length-set}
use Rattle.std.proofs.lemmas.Bool.{cases_eq}
use Rattle.std.proofs.lemmas.List.{get_or_default}
use Rattle.lt_modes.specs.Script.{ScriptData}
use Rattle.lt_modes.specs.State.{SetState, Made}
use Rattle.lt_spec.specs.NodeMove.{touched}
use Rattle.lt_desk.specs.DeskData.{OutData}
use Rattle.lt_core.specs.CoreData.{CoreData, Does}
use Rattle.lt_node.specs.Forgetting.{without_first}
use Rattle.lt_node.specs.NodeData.{IsCoreOf, IsNode, KeptData, NodeData, NodeDoes, core_at, state_of, untouched}
use Rattle.lt_node.specs.Sets.{AreSetsOf, SameSets, SetDoes, SetsData, core_in}
use Rattle.lt_node.proofs.NodeLemmas.{touch_does}
use Rattle.lt_node.proofs.StoredLemmas.{same_core, same_count}

-- a set that a move doesn't touch
pub other_core : (s : ℕ) (made : Made) (old new : SetsData) (had out : OutData) → SetDoes s made old had new out → (other : ℕ) → other ≢ s → core_in new other ≡ core_in old other
other_core s made old new had out does other differ =
    ap (λ (d : SetsData). core_in d other) does.others ∙ get_or-set_other old.cores s other (core_in new s) (untouched old.nodes old.me other) differ

-- after a move they are the sets of the node still
pub sets_moved : (script : ScriptData) (me s : ℕ) (made : Made) (old new : SetsData) (had out : OutData) → AreSetsOf script me old → SetDoes s made old had new out → s < length old.cores
    → AreSetsOf script me new
sets_moved script me s made old new had out of does inside = record {
  nodes = ap (λ (d : SetsData). d.nodes) does.others ∙ of.nodes;
  node = ap (λ (d : SetsData). d.me) does.others ∙ of.node;
  count = ap (λ (d : SetsData). length d.cores) does.others ∙ length-set old.cores s (core_in new s) ∙ of.count;
  places = λ k. elim (cases_eq k s) [
    | inl same ↦
        subst (λ (i : ℕ). IsCoreOf me i (core_in new i)) (sym same)
        (record { node = does.does.node ∙ (of.places s).node; set = does.does.set ∙ (of.places s).set })
    | inr differ ↦ subst (λ (c : CoreData). IsCoreOf me k c) (sym (other_core s made old new had out does k differ)) (of.places k)
  ];
}

-- and where memory was taken
pub sets_same : (script : ScriptData) (me : ℕ) (old new : SetsData) → AreSetsOf script me old → SameSets old new → AreSetsOf script me new
sets_same script me old new of same = record {
  nodes = same.nodes ∙ of.nodes;
  node = same.me ∙ of.node;
  count = same_count old new same ∙ of.count;
  places = λ s.
      let kept = same_core old new s same in
      record { node = ap (λ (k : KeptData). k.node) kept ∙ (of.places s).node; set = ap (λ (k : KeptData). k.set) kept ∙ (of.places s).set };
}

-- they are those of the script without its first commands, too
pub sets_left : (script kept : ScriptData) (me q k : ℕ) (sets : SetsData) → kept ≡ without_first k script → q ≡ me → AreSetsOf script me sets → AreSetsOf kept q sets
sets_left script kept me q k sets same here of =
    subst (λ (s : ScriptData). AreSetsOf s q sets) (sym same)
    (subst (λ (p : ℕ). AreSetsOf (without_first k script) p sets) (sym here)
    (record { nodes = of.nodes; node = of.node; count = of.count; places = of.places }))

-- so the node is one
pub node_of_sets : (m : NodeData) (clock : ℕ) (sets : SetsData) → IsNode m → AreSetsOf m.script m.me sets → IsNode (record m { clock = clock; cores = sets.cores })
node_of_sets m clock sets node of = record {
  is_script = node.is_script;
  within = node.within;
  clients = node.clients;
  sets = of.count;
  places = λ s inside.
      subst (λ (c : CoreData). IsCoreOf m.me s c) (get_or_default sets.cores s (untouched sets.nodes sets.me s) (untouched m.script.nodes m.me s) inside) (of.places s);
}

-- what is kept for each set
pub cores_same : (n : NodeData) (sets : SetsData) → n.cores ≡ sets.cores → AreSetsOf n.script n.me sets → core_at n ≡ core_in sets
cores_same n sets same of = λ i s. slice_index_or (same i) s (untouched (sym of.nodes i) (sym of.node i) s)

-- the same in terms of what the code has in hand
pub core_held : (m n : NodeData) (sets : SetsData) → m ≡ n → m.cores ≡ sets.cores → AreSetsOf m.script m.me sets → core_at n ≡ core_in sets
core_held m n sets same cores of = ap core_at (sym same) ∙ cores_same m sets cores of

pub set_inside : (m n : NodeData) (sets : SetsData) (s : ℕ) → m ≡ n → AreSetsOf m.script m.me sets → s < length n.script.sets → s < length sets.cores
set_inside m n sets s same of inside = omega (arith, inside, of.count, ap (λ (n : NodeData). length n.script.sets) same)

-- the move of the set is that of the node
pub set_done : (m n : NodeData) (sets new : SetsData) (s : ℕ) (rule : ℕ → SetState → Made) (had out : OutData) → m ≡ n → m.cores ≡ sets.cores → AreSetsOf m.script m.me sets → s < length sets.cores
    → SetDoes s (rule s (core_in sets s).state) sets had new out
    → NodeDoes (touched (state_of n) s (rule s (core_at n s).state)) n had (record m { cores = new.cores }) out
set_done m n sets new s rule had out same cores of inside does =
    let here : core_at m s ≡ core_in sets s = ap (λ (f : ℕ → CoreData). f s) (cores_same m sets cores of) in
    let done : Does (rule s (core_at m s).state) (core_at m s) had (core_in new s) out = subst (λ (c : CoreData). Does (rule s c.state) c had (core_in new s) out) (sym here) does.does in
    let list : slice_set m.cores s (core_in new s) ≡ new.cores = ap (λ (l : List CoreData). slice_set l s (core_in new s)) cores ∙ sym (ap (λ (d : SetsData). d.cores) does.others) in
    subst (λ (n : NodeData). NodeDoes (touched (state_of n) s (rule s (core_at n s).state)) n had (record m { cores = new.cores }) out) same
    (subst (λ (l : List CoreData). NodeDoes (touched (state_of m) s (rule s (core_at m s).state)) m had (record m { cores = l }) out) list
    (touch_does m had out s (rule s (core_at m s).state) (core_in new s) (omega (arith, inside, ap (λ (l : List CoreData). length l) cores)) done))
