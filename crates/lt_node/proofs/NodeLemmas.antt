-- One set or one client of a node changes.
use Rattle.std.proofs.Common.{◌≡◌, ◌<◌, true, ℕ, List, length, inl, inr, refl, sym, ap, subst, arith, ◌∙◌, slice_index_or, slice_set, ◌≤◌, Option, Some, None, nat_le, length-append, map, eq-eqb, ne_eqb, leb-true, get_or-set_other}
use Rattle.std.proofs.Math.Path.{fun_ext}
use Rattle.std.proofs.lemmas.Bool.{cases_eq, and_parts}
use Rattle.std.proofs.lemmas.List.{length-map}
use Rattle.std.proofs.lemmas.Grind.{get_or-set_at}
use Rattle.std.proofs.Math.ListN.{get_or-map as map_read}
use Rattle.lt_modes.specs.State.{SetState, Made, Desk}
use Rattle.lt_modes.specs.Modes.{locks_in}
use Rattle.lt_modes.specs.Serving.{queue_of}
use Rattle.lt_modes.specs.Fits.{parked_asks, asks_here}
use Rattle.lt_lists.specs.Below.{put}
use Rattle.lt_spec.specs.NodeMove.{NodeState, touched}
use Rattle.lt_spec.specs.Limits.{desk_within, set_within}
use Rattle.lt_spec.specs.declared.limits.TheConstants.{MAX_CLIENTS, MAX_COMMANDS_OF_SERVICE}
use Rattle.lt_desk.specs.DeskData.{OutData}
use Rattle.lt_core.specs.CoreData.{CoreData, Does, HasRoom, HasMemory, waiting_here, epoch_of, freeze_number_of}
use Rattle.lt_node.specs.NodeData.{NodeData, NodeDoes, IsNode, state_of, core_at, first_core, SameNode, KeptData, kept_of}

-- a list written at one place is a function changed at one number
pub put_read : {X Y : Type 0} (f : X → Y) (xs : List X) (d : ℕ → X) (i : ℕ) (x : X) → i < length xs
    → (λ (k : ℕ). f (slice_index_or (slice_set xs i x) k (d k))) ≡ put (λ k. f (slice_index_or xs k (d k))) i (f x)
put_read f xs d i x inside = fun_ext (λ k. elim (cases_eq k i) [
  | inl same ↦ rw (eq-eqb k i same) (ap f (get_or-set_at xs i k x (d k) same inside))
  | inr other ↦ rw (ne_eqb k i other) (ap f (get_or-set_other xs i k x (d k) other))
])

-- a node of which one set made this
pub touch_does : (old : NodeData) (had out : OutData) (s : ℕ) (made : Made) (core : CoreData) → s < length old.cores → Does made (core_at old s) had core out
    → NodeDoes (touched (state_of old) s made) old had (record old { cores = slice_set old.cores s core }) out
touch_does old had out s made core inside does =
    let states = put_read (λ (c : CoreData). c.state) old.cores (first_core old.script old.me) s core inside in
    record {
      script = refl;
      gone = refl;
      me = refl;
      state = ap (λ (f : ℕ → SetState). let n : NodeState = record { clock = old.clock; made = λ client. slice_index_or old.made client 0; set = f } in n)
          (states ∙ ap (λ (v : SetState). put (λ k. (slice_index_or old.cores k (first_core old.script old.me k)).state) s v) does.state);
      sent = does.sent;
    }

pub node_is : (m n : NodeData) → m ≡ n → IsNode m → IsNode n
node_is m n same node = subst IsNode same node

-- What the limits of a node give of the premises of its moves.

-- what a set keeps, in numbers
pub record IsWithin (clock : ℕ) (s : SetState) : Type 0 where
  pub locks : locks_in s.held ≤ MAX_COMMANDS_OF_SERVICE
  pub asks : waiting_here s ≤ MAX_CLIENTS
  pub epoch : epoch_of s.desk ≤ clock
  pub number : freeze_number_of s.desk ≤ clock

desk_numbers : (clock : ℕ) (desk : Option Desk) → desk_within clock desk ≡ true → (epoch_of desk ≤ clock) × (freeze_number_of desk ≤ clock)
desk_numbers clock None h = (omega arith, omega arith)
desk_numbers clock (Some desk) h =
    let parts = and_parts (nat_le desk.epoch clock) (nat_le desk.number clock) h in
    (leb-true desk.epoch clock parts.0, leb-true desk.number clock parts.1)

pub set_numbers : (clock : ℕ) (s : SetState) → set_within clock s ≡ true → IsWithin clock s
set_numbers clock s h =
    let first = and_parts (nat_le (locks_in s.held) MAX_COMMANDS_OF_SERVICE) _ h in
    let second = and_parts (nat_le (length (asks_here s)) MAX_CLIENTS) (desk_within clock s.desk) first.1 in
    let desk = desk_numbers clock s.desk second.1 in
    record {
      locks = leb-true (locks_in s.held) MAX_COMMANDS_OF_SERVICE first.0;
      asks = omega (arith, leb-true (length (asks_here s)) MAX_CLIENTS second.0, length-append (parked_asks s) (queue_of s));
      epoch = desk.0;
      number = desk.1;
    }

-- with memory there is room for a later move
pub room_later : (clock now more : ℕ) (core : CoreData) → IsWithin clock core.state → clock < now → HasMemory more core → HasRoom 2 now core
room_later clock now more core within later memory = record {
  rows = omega (arith, memory.asks);
  parked = memory.parked;
  locks = omega (arith, within.locks, within.asks);
  epoch = omega (arith, within.epoch, later);
  number = omega (arith, within.number, later);
  tells = memory.tells;
}

-- Where memory is taken, all else stays.

pub kept_one : (old new : CoreData) → new.state ≡ old.state → (new.node ≡ old.node) × (new.set ≡ old.set) → kept_of new ≡ kept_of old
kept_one old new state place = λ i. record { node = place.0 i; set = place.1 i; state = state i }

pub kept_at : (xs ys : List CoreData) (k : ℕ) (d : CoreData) → map kept_of xs ≡ map kept_of ys → kept_of (slice_index_or xs k d) ≡ kept_of (slice_index_or ys k d)
kept_at xs ys k d same = sym (map_read kept_of xs k d) ∙ ap (λ (l : List KeptData). slice_index_or l k (kept_of d)) same ∙ map_read kept_of ys k d

pub kept_length : (xs ys : List CoreData) → map kept_of xs ≡ map kept_of ys → length xs ≡ length ys
kept_length xs ys same = sym (length-map xs kept_of) ∙ ap (λ (l : List KeptData). length l) same ∙ length-map ys kept_of

-- it is the same node, still
pub node_same : (m : NodeData) (cores : List CoreData) → IsNode m → map kept_of cores ≡ map kept_of m.cores → IsNode (record m { cores = cores })
node_same m cores node same = record {
  is_script = node.is_script;
  within = node.within;
  clients = node.clients;
  sets = kept_length cores m.cores same ∙ node.sets;
  places = λ s inside.
      let place = node.places s (subst (λ (n : ℕ). s < n) (kept_length cores m.cores same) inside) in
      let kept = kept_at cores m.cores s (first_core m.script m.me s) same in
      record { node = ap (λ (x : KeptData). x.node) kept ∙ place.node; set = ap (λ (x : KeptData). x.set) kept ∙ place.set };
}

pub same_node : (m n : NodeData) (cores : List CoreData) → m ≡ n → map kept_of cores ≡ map kept_of m.cores → SameNode n (record m { cores = cores })
same_node m n cores same kept =
    subst (λ (n : NodeData). SameNode n (record m { cores = cores })) same
    (record {
      script = refl;
      gone = refl;
      me = refl;
      made = refl;
      state = ap (λ (f : ℕ → SetState). let s : NodeState = record { clock = m.clock; made = λ c. slice_index_or m.made c 0; set = f } in s)
          (fun_ext (λ s. ap (λ (x : KeptData). x.state) (kept_at cores m.cores s (first_core m.script m.me s) kept)));
    })
