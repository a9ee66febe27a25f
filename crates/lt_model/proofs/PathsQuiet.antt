-- A node's rules keep it on the token's path while the token stays where it is.
use Rattle.std.proofs.Common.{◌≡◌, ◌≢◌, ℕ, zero, suc, ◌+◌, ◌<◌, inl, inr, List, [], ◌∷◌, length, Option, Some, None, Bool, true, false, refl, sym, ap, subst, arith, ◌∙◌, ◌==◌, if◌then◌else◌, All, is_some, remove, ◌&&◌, ◌||◌, not, slice_index_or, length-set}
use Rattle.std.specs.List.{AllByRecursion}
use Rattle.std.proofs.lemmas.Bool.{eqb-false, not-true, and_parts, cases_lt}
use Rattle.std.proofs.lemmas.List.{get_or_past}
use Rattle.std.proofs.lemmas.List.Elements.{recursion_from_All, All-nil}
use Rattle.lt_modes.specs.declared.stamp.Stamp.{Stamp}
use Rattle.lt_modes.specs.declared.ask.Ask.{Ask}
use Rattle.lt_modes.specs.declared.parts.Link.{Link}
use Rattle.lt_modes.specs.Modes.{bars, same_modes, held_modes, Modes, no_modes, has, union, covers, with_mode, other_modes}
use Rattle.lt_modes.specs.State.{SetState, Desk, Entry, ParkedTell, place, no_ask, silent, first_entry, modes_of_owed, still_owed, own_owed, modes_at, others_below, others}
use Rattle.lt_modes.specs.Freezing.{cons_if, places_from, map_from, freeze, freeze_at, frozen_by, frozen_entry, is_target, targets}
use Rattle.lt_modes.specs.Serving.{queue_of, queue_of_desk, put_queue, owed_at, ask_at, next_service, serve, serve_up_to, serve_step, serve_one, serve_local, serve_copy, is_served, next_from, next_at, is_void}
use Rattle.lt_modes.specs.SetMove.{tell, make_tell}
use Rattle.lt_modes.specs.Routing.{way}
use Rattle.lt_modes.specs.Telling.{tell_of}
use Rattle.lt_modes.specs.Taking.{take_token}
use Rattle.lt_modes.specs.declared.parts.Owed.{Owed}
use Rattle.lt_lists.specs.Below.{one_if}
use Rattle.lt_lists.proofs.AllLemmas.{all_map, all_weaker}
use Rattle.lt_model.proofs.PathsRoutes.{quiet_then, removed_named, all_dealt_on_path, all_dealt_epoch, route-quiet}
use Rattle.lt_model.specs.Invariant.{IsNamed, IsParkedNamed, DeskOnPath, HasWay, StateOnPath}
use Rattle.lt_model.specs.PathEffects.{Ground, Quiet}
use Rattle.lt_model.specs.NewsRules.{number_by, frozen_desk}

-- the token comes, and the parked letters are dealt with
pub token_on_path : (nodes : ℕ) (went : List ℕ) (x : ℕ) (desk : Desk) (s : SetState)
    → DeskOnPath nodes went x desk → StateOnPath nodes went x s → StateOnPath nodes went x (take_token x desk s)
token_on_path nodes went x desk s d h = record {
  link = record { epoch = omega (arith, d.epoch); node = d.node };
  way = (
    all_dealt_on_path nodes went x s.parked desk (recursion_from_All (IsParkedNamed nodes) s.parked h.parked) d,
    refl,
    sym (all_dealt_epoch s.parked desk),
  );
  hoped = tt;
  parked = All-nil _;
}

queue_named : (nodes : ℕ) (went : List ℕ) (x : ℕ) (firm : Link) (desk : Option Desk) → HasWay nodes went x firm desk → All (IsNamed nodes) (queue_of_desk desk)
queue_named nodes went x firm None way = All-nil _
queue_named nodes went x firm (Some desk) way = way.0.queue

-- an ask in the queue is of a node of the script
pub ask_at-named : (nodes : ℕ) (went : List ℕ) (x : ℕ) (s : SetState) (k : ℕ) → Ground nodes went → StateOnPath nodes went x s → (ask_at s k).node < nodes
ask_at-named nodes went x s k g h = elim (cases_lt k (length (queue_of s))) [
  | inl below ↦ queue_named nodes went x s.firm s.desk h.way k no_ask below
  | inr past ↦ subst (λ (ask : Ask). ask.node < nodes) (sym (get_or_past (queue_of s) k no_ask past)) g.some
]

put_queue_way : (nodes : ℕ) (went : List ℕ) (x : ℕ) (firm : Link) (queue : List Ask) (desk : Option Desk)
    → HasWay nodes went x firm desk → All (IsNamed nodes) queue → HasWay nodes went x firm (put_queue queue desk)
put_queue_way nodes went x firm queue None way named = way
put_queue_way nodes went x firm queue (Some desk) way named =
    (record { epoch = way.0.epoch; node = way.0.node; entries = way.0.entries; queue = named }, way.1, way.2)

pub put_queue_some : (queue : List Ask) (desk : Option Desk) → is_some (put_queue queue desk) ≡ is_some desk
put_queue_some queue None = refl
put_queue_some queue (Some desk) = refl

owed_at_way : (nodes : ℕ) (went : List ℕ) (x : ℕ) (firm : Link) (ask : Ask) (k : ℕ) (desk : Option Desk)
    → HasWay nodes went x firm desk → HasWay nodes went x firm (owed_at ask k desk)
owed_at_way nodes went x firm ask k None way = way
owed_at_way nodes went x firm ask k (Some desk) way = (
  record {
    epoch = way.0.epoch;
    node = way.0.node;
    entries = length-set desk.entries ask.node _ ∙ way.0.entries;
    queue = removed_named nodes desk.queue k way.0.queue;
  },
  way.1,
  way.2,
)

pub owed_at_some : (ask : Ask) (k : ℕ) (desk : Option Desk) → is_some (owed_at ask k desk) ≡ is_some desk
owed_at_some ask k None = refl
owed_at_some ask k (Some desk) = refl

-- one service
serve_one-quiet : (nodes : ℕ) (went : List ℕ) (k set : ℕ) (stamp : Stamp) (place : ℕ) (s : SetState)
    → Ground nodes went → StateOnPath nodes went stamp.node s → one_if (is_some s.desk) ≡ k
    → Quiet nodes went stamp.node k (serve_one set stamp place s)
serve_one-quiet nodes went k set stamp place s g h here = by_test ((ask_at s place).node == stamp.node) refl
  where
    by_test : (own : Bool) → ((ask_at s place).node == stamp.node) ≡ own
        → Quiet nodes went stamp.node k (if own then serve_local set place s else serve_copy set stamp place (ask_at s place) s)
    by_test true e = record {
      state = record {
        link = h.link;
        way = put_queue_way nodes went stamp.node s.firm (remove (queue_of s) place) s.desk h.way
            (removed_named nodes (queue_of s) place (queue_named nodes went stamp.node s.firm s.desk h.way));
        hoped = h.hoped;
        parked = h.parked;
      };
      posts = tt;
      desk = ap one_if (put_queue_some (remove (queue_of s) place) s.desk) ∙ here;
    }
    by_test false e = record {
      state = record {
        link = h.link;
        way = owed_at_way nodes went stamp.node s.firm (ask_at s place) place s.desk h.way;
        hoped = h.hoped;
        parked = h.parked;
      };
      posts = (
        (record { to = ask_at-named nodes went stamp.node s place g h; other = eqb-false _ _ e; link = h.link; body = tt }, refl),
        tt,
      );
      desk = ap one_if (owed_at_some (ask_at s place) place s.desk) ∙ here;
    }

serve-quiet_up_to : (n nodes : ℕ) (went : List ℕ) (k set : ℕ) (stamp : Stamp) (s : SetState)
    → Ground nodes went → StateOnPath nodes went stamp.node s → one_if (is_some s.desk) ≡ k
    → Quiet nodes went stamp.node k (serve_up_to n set stamp s)
serve-quiet_up_to zero nodes went k set stamp s g h here = record { state = h; posts = tt; desk = here }
serve-quiet_up_to (suc n) nodes went k set stamp s g h here =
    step (λ t ht here_too. serve-quiet_up_to n nodes went k set stamp t g ht here_too) (next_service stamp.node s)
  where
    step : ((t : SetState) → StateOnPath nodes went stamp.node t → one_if (is_some t.desk) ≡ k → Quiet nodes went stamp.node k (serve_up_to n set stamp t))
        → (o : Option ℕ) → Quiet nodes went stamp.node k (serve_step set stamp (serve_up_to n set stamp) s o)
    step again None = record { state = h; posts = tt; desk = here }
    step again (Some place) =
        let one = serve_one-quiet nodes went k set stamp place s g h here in
        quiet_then nodes went stamp.node k (serve_one set stamp place s) (serve_up_to n set stamp) one (again _ one.state one.desk)

pub serve-quiet : (nodes : ℕ) (went : List ℕ) (k set : ℕ) (stamp : Stamp) (s : SetState)
    → Ground nodes went → StateOnPath nodes went stamp.node s → one_if (is_some s.desk) ≡ k
    → Quiet nodes went stamp.node k (serve set stamp s)
serve-quiet nodes went k set stamp s g h here = serve-quiet_up_to (length (queue_of s)) nodes went k set stamp s g h here

pub length-map_from : {X Y : Type 0} (f : ℕ → X → Y) (k : ℕ) (xs : List X) → length (map_from f k xs) ≡ length xs
length-map_from f k [] = refl
length-map_from f k (x ∷ xs) = ap suc (length-map_from f (k + 1) xs)

-- the places of the items that pass
places_on : (x : ℕ) (test : ℕ → Entry → Bool) → ((i : ℕ) (entry : Entry) → test i entry ≡ true → i ≢ x)
    → (k : ℕ) (entries : List Entry) → AllByRecursion (λ i. (i < k + length entries) × (i ≢ x)) (places_from test k entries)
places_on x test other k [] = tt
places_on x test other k (entry ∷ rest) =
    by_test (all_weaker _ _ (λ i h. (omega (arith, h.0), h.1)) (places_from test (k + 1) rest) (places_on x test other (k + 1) rest))
    (test k entry) refl
  where
    by_test : AllByRecursion (λ i. (i < k + length (entry ∷ rest)) × (i ≢ x)) (places_from test (k + 1) rest)
        → (wanted : Bool) → test k entry ≡ wanted
        → AllByRecursion (λ i. (i < k + length (entry ∷ rest)) × (i ≢ x)) (cons_if wanted k (places_from test (k + 1) rest))
    by_test later true e = ((omega arith, other k entry e), later)
    by_test later false e = later

-- the targets learn the frozen modes
pub freeze-quiet : (nodes : ℕ) (went : List ℕ) (k set : ℕ) (stamp : Stamp) (s : SetState)
    → StateOnPath nodes went stamp.node s → one_if (is_some s.desk) ≡ k → Quiet nodes went stamp.node k (freeze set stamp s)
freeze-quiet nodes went k set stamp s h here = by_desk s.desk h.way here
  where
    by_desk : (desk : Option Desk) → HasWay nodes went stamp.node s.firm desk → one_if (is_some desk) ≡ k
        → Quiet nodes went stamp.node k (freeze_at set stamp s desk)
    by_desk None way e = record { state = h; posts = tt; desk = here }
    by_desk (Some desk) way e =
        let frozen = frozen_by desk.queue in
        let found = places_on stamp.node (is_target stamp.node frozen)
        (λ i entry t. eqb-false i stamp.node (not-true _ (and_parts _ _ t).0)) 0 desk.entries in
        record {
          state = record {
            link = h.link;
            way = (
              record {
                epoch = way.0.epoch;
                node = way.0.node;
                entries = length-map_from (frozen_entry stamp.node frozen) 0 desk.entries ∙ way.0.entries;
                queue = way.0.queue;
              },
              way.1,
              way.2,
            );
            hoped = h.hoped;
            parked = h.parked;
          };
          posts = all_map _ _ (targets stamp.node frozen desk) (all_weaker _ _
              (λ i ok. (record { to = omega (arith, ok.0, way.0.entries); other = ok.1; link = h.link; body = tt }, refl))
              (targets stamp.node frozen desk) found);
          desk = e;
        }

-- a tell is made where it is due
pub tell-quiet : (nodes : ℕ) (went : List ℕ) (k set : ℕ) (stamp : Stamp) (s : SetState)
    → Ground nodes went → StateOnPath nodes went stamp.node s → one_if (is_some s.desk) ≡ k
    → Quiet nodes went stamp.node k (tell set stamp s)
tell-quiet nodes went k set stamp s g h here = by_test (same_modes (bars (held_modes s.held)) (bars s.charge))
  where
    made : Quiet nodes went stamp.node k (make_tell set stamp s)
    made = route-quiet nodes went k set stamp false (ParkedTell (tell_of stamp s)) (record s { charge = held_modes s.held }) g
        (record { link = h.link; way = h.way; hoped = h.hoped; parked = h.parked }) tt here

    by_test : (same : Bool) → Quiet nodes went stamp.node k (if same then silent s else make_tell set stamp s)
    by_test true = record { state = h; posts = tt; desk = here }
    by_test false = made

-- A freeze changes nothing that services read.

-- the entries have the same record
record SameRecord (a b : Entry) : Type 0 where
  reported : b.reported ≡ a.reported
  owed : b.owed ≡ a.owed

same_entry : (me : ℕ) (frozen : Modes) (x : ℕ) (entry : Entry) → SameRecord entry (frozen_entry me frozen x entry)
same_entry me frozen x entry = by_test (x == me || is_target me frozen x entry)
  where
    by_test : (told : Bool) → SameRecord entry (if told then record entry { frozen_told = frozen } else entry)
    by_test true = record { reported = refl; owed = refl }
    by_test false = record { reported = refl; owed = refl }

same_entries : (me : ℕ) (frozen : Modes) (k : ℕ) (entries : List Entry) (x : ℕ)
    → SameRecord (slice_index_or entries x first_entry) (slice_index_or (map_from (frozen_entry me frozen) k entries) x first_entry)
same_entries me frozen k [] x = record { reported = refl; owed = refl }
same_entries me frozen k (entry ∷ rest) zero = same_entry me frozen k entry
same_entries me frozen k (entry ∷ rest) (suc x) = same_entries me frozen (k + 1) rest x

-- the state after the freeze
abbrev frozen_state : ℕ → SetState → Desk → SetState
frozen_state me s desk = record s { frozen = frozen_by desk.queue; number = number_by me desk; desk = Some (frozen_desk me desk) }

same_own : (me : ℕ) (s : SetState) (desk : Desk)
    → own_owed me (frozen_state me s desk) (frozen_desk me desk) ≡ own_owed me s desk
same_own me s desk = ap (λ (owed : List Owed). modes_of_owed (still_owed s.pending owed)) (same_entries me (frozen_by desk.queue) 0 desk.entries me).owed

same_at : (me : ℕ) (s : SetState) (desk : Desk) (x : ℕ)
    → modes_at me (frozen_state me s desk) (frozen_desk me desk) x ≡ modes_at me s desk x
same_at me s desk x =
    let own = same_own me s desk in
    let same = same_entries me (frozen_by desk.queue) 0 desk.entries x in
    let reported = same.reported in
    let owed = same.owed in
    λ i. if x == me then union (held_modes s.held) (own i) else union (reported i) (modes_of_owed (owed i))

same_below : (n me : ℕ) (s : SetState) (desk : Desk) (v : ℕ)
    → others_below n me (frozen_state me s desk) (frozen_desk me desk) v ≡ others_below n me s desk v
same_below zero me s desk v = refl
same_below (suc n) me s desk v =
    let rest = same_below n me s desk v in
    let here = same_at me s desk n in
    λ i. union (rest i) (if n == v then no_modes else here i)

same_others : (me : ℕ) (s : SetState) (desk : Desk) (v : ℕ)
    → others me (frozen_state me s desk) (frozen_desk me desk) v ≡ others me s desk v
same_others me s desk v =
    ap (λ (n : ℕ). others_below n me (frozen_state me s desk) (frozen_desk me desk) v)
    (length-map_from (frozen_entry me (frozen_by desk.queue)) 0 desk.entries)
    ∙ same_below (length desk.entries) me s desk v

same_served : (me : ℕ) (s : SetState) (desk : Desk) (before : Modes) (ask : Ask)
    → is_served me (frozen_state me s desk) (frozen_desk me desk) before ask ≡ is_served me s desk before ask
same_served me s desk before ask =
    let rest = same_others me s desk ask.node in
    let own = same_own me s desk in
    let home = same_at me s desk ask.node in
    λ i. is_void me s ask || (not (has ask.mode (bars (union (rest i) before)))
    && ((ask.node == me && not (has ask.mode (bars (union (other_modes s.held ask.client) (own i)))))
    || (not (ask.node == me) && (covers (rest i) ask.mode && not (has ask.mode (bars (home i)))))))

same_next : (me : ℕ) (s : SetState) (desk : Desk) (before : Modes) (k : ℕ) (queue : List Ask)
    → next_from me (frozen_state me s desk) (frozen_desk me desk) before k queue ≡ next_from me s desk before k queue
same_next me s desk before k [] = refl
same_next me s desk before k (ask ∷ rest) =
    let here = same_served me s desk before ask in
    let later = same_next me s desk (with_mode before ask.mode) (k + 1) rest in
    λ i. if here i then Some k else later i

-- the next service stays
pub next_service-freeze : (set : ℕ) (stamp : Stamp) (s : SetState) → next_service stamp.node (freeze set stamp s).state ≡ next_service stamp.node s
next_service-freeze set stamp s = by_desk s.desk refl
  where
    by_desk : (desk : Option Desk) → s.desk ≡ desk → next_service stamp.node (freeze_at set stamp s desk).state ≡ next_at stamp.node s desk
    by_desk None e = ap (next_at stamp.node s) e
    by_desk (Some desk) e =
        same_next stamp.node s desk no_modes 0 desk.queue
