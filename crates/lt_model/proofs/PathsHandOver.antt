-- A move of a node on one set: it stays on the token's path, also where the token leaves.
use Rattle.lt_model.proofs.Voids.{asks_ways, withdraws_ways}
use Rattle.std.proofs.Common.{◌≡◌, ◌≢◌, ℕ, suc, ◌+◌, ◌<◌, ◌≤◌, inl, inr, List, [], ◌∷◌, ◌++◌, length, Option, Some, None, Bool, true, false, refl, sym, ap, subst, arith, ◌∙◌, ◌==◌, nat_lt, if◌then◌else◌, ◌⊎◌, is_some, slice_index, slice_index_or, eq-eqb, length-set}
use Rattle.std.proofs.lemmas.Bool.{eqb-false, not-true, and_parts, cases_lt}
use Rattle.std.proofs.lemmas.List.{get_or_push, length_push}
use Rattle.lt_modes.specs.declared.mode.Mode.{Mode}
use Rattle.lt_modes.specs.declared.stamp.Stamp.{Stamp}
use Rattle.lt_modes.specs.declared.ask.Ask.{Ask}
use Rattle.lt_modes.specs.declared.event.Event.TheVariants.{Try, Unlock, NotHeld, Change}
use Rattle.lt_modes.specs.Modes.{Modes, with_mode, count_of, take_lock}
use Rattle.lt_modes.specs.State.{SetState, Desk, Body, AskBody, TellBody, CopyBody, TokenBody, FreezeBody, Letter, ParkedAsk, ParkedTell, no_ask, Made, silent, then_do}
use Rattle.lt_modes.specs.Freezing.{freeze}
use Rattle.lt_modes.specs.Granting.{can_grant}
use Rattle.lt_modes.specs.Serving.{queue_of_desk, ask_at, serve, without_gone}
use Rattle.lt_modes.specs.HandingOver.{may_draw, draw_from, move_at, next_draw, hand_over, hand_over_for, hand_over_to}
use Rattle.lt_modes.specs.SetMove.{tell, attend, finish, finish_by, answers, given, granted, ask_of, asked, locked, tried, unlocked, change_held, changed, dropped, lock, try, unlock, change, drop, asked_or_not, withdrawn, withdraw}
use Rattle.lt_modes.specs.Routing.{learn}
use Rattle.lt_modes.specs.Taking.{take_body, arrive, take}
use Rattle.lt_lists.specs.Below.{one_if}
use Rattle.lt_spec.specs.Facts.{tokens_in}
use Rattle.lt_model.proofs.PathsWorld.{quiet-moved, moved_then}
use Rattle.lt_model.specs.Invariant.{IsTrueLink, DeskOnPath, HasWay, StateOnPath, BodyOnPath, LetterOnPath}
use Rattle.lt_model.specs.PathEffects.{Ground, Quiet, Moved, EffectsOnPath}
use Rattle.lt_model.proofs.PathsQuiet.{ask_at-named, token_on_path, serve-quiet, freeze-quiet, tell-quiet}
use Rattle.lt_model.proofs.PathsRoutes.{quiet_then, route-quiet, learn_on_path, learn_desk}

-- the ask that draws the desk is of another node
drawn_from : (me : ℕ) (s : SetState) (desk : Desk) (before : Modes) (place : ℕ) (queue : List Ask) (k : ℕ) → draw_from me s desk before place queue ≡ Some k
    → (j : ℕ) × (k ≡ place + j) × ((slice_index_or queue j no_ask).node ≢ me)
drawn_from me s desk before place [] k e = cc
drawn_from me s desk before place (ask ∷ rest) k e =
    by_test (λ f. drawn_from me s desk (with_mode before ask.mode) (place + 1) rest k f) (may_draw me s desk before place ask) refl e
  where
    by_test : (draw_from me s desk (with_mode before ask.mode) (place + 1) rest ≡ Some k
        → (j : ℕ) × (k ≡ place + 1 + j) × ((slice_index_or rest j no_ask).node ≢ me))
        → (draws : Bool) → may_draw me s desk before place ask ≡ draws
        → (if draws then Some place else draw_from me s desk (with_mode before ask.mode) (place + 1) rest) ≡ Some k
        → (j : ℕ) × (k ≡ place + j) × ((slice_index_or (ask ∷ rest) j no_ask).node ≢ me)
    by_test again true t f = let same : place ≡ k = cc in (0, omega (arith, same), eqb-false ask.node me (not-true _ (and_parts _ _ t).0))
    by_test again false t f = let found = again f in (suc found.0, omega (arith, found.1), found.2)

drawn_other : (me : ℕ) (s : SetState) (k : ℕ) → next_draw me s ≡ Some k → (ask_at s k).node ≢ me
drawn_other me s k e = by_desk s.desk e
  where
    by_desk : (desk : Option Desk) → move_at me s desk ≡ Some k → (slice_index_or (queue_of_desk desk) k no_ask).node ≢ me
    by_desk None f = cc
    by_desk (Some desk) f =
        let found = drawn_from me s desk _ 0 desk.queue k f in
        let same : k ≡ found.0 = omega (arith, found.1) in
        subst (λ (j : ℕ). (slice_index_or desk.queue j no_ask).node ≢ me) (sym same) found.2

-- the desk leaves for node v
leaves : (nodes : ℕ) (went : List ℕ) (set : ℕ) (stamp : Stamp) (s : SetState) (v : ℕ) (desk : Desk) → v < nodes → v ≢ stamp.node
    → StateOnPath nodes went stamp.node s → DeskOnPath nodes went stamp.node desk
    → Moved nodes went set stamp.node 1 (hand_over_to set stamp s v (Some desk))
leaves nodes went set stamp s v desk named other h d = record {
  now = went ++ v ∷ [];
  grown = rw (eq-eqb set set refl) refl;
  state = record {
    link = new_link;
    way = known;
    hoped = tt;
    parked = h.parked;
  };
  posts = (
    record {
      to = named;
      other = other;
      link = new_link;
      body = record {
        epoch = omega (arith, d.epoch, length_push went v);
        node = get_or_push went v 0 (desk.epoch + 1) (sym d.epoch);
        entries = length-set desk.entries stamp.node _ ∙ d.entries;
        queue = d.queue;
      };
    },
    tt,
  );
  count = rw (eq-eqb set set refl) refl;
  others = inr (record {
    to = v;
    grown = refl;
    named = named;
    here = refl;
    last = λ epoch e. let same : desk.epoch ≡ epoch = omega (arith, e, d.epoch) in subst (λ (k : ℕ). slice_index went k ≡ stamp.node) same d.node;
  });
}
  where
    new_link : IsTrueLink (went ++ v ∷ []) (record { node = v; epoch = desk.epoch + 1 })
    new_link = record {
      epoch = omega (arith, d.epoch, length_push went v);
      node = get_or_push went v 0 (desk.epoch + 1) (sym d.epoch);
    }

    known : (epoch : ℕ) → epoch < length (went ++ v ∷ []) → slice_index (went ++ v ∷ []) epoch ≡ stamp.node
        → (epoch < desk.epoch + 1) ⊎ (epoch + 1 ≡ length (went ++ v ∷ []))
    known epoch below node = elim (cases_lt epoch (length went)) [
      | inl old ↦ inl (omega (arith, old, d.epoch))
      | inr new ↦
          let last : length went ≡ epoch = omega (arith, below, new, length_push went v) in
          absurd (other (sym (get_or_push went v 0 epoch last) ∙ node))
    ]

pub hand_over-moved : (nodes : ℕ) (went : List ℕ) (k set : ℕ) (stamp : Stamp) (s : SetState)
    → Ground nodes went → StateOnPath nodes went stamp.node s → one_if (is_some s.desk) ≡ k
    → Moved nodes went set stamp.node k (hand_over set stamp s)
hand_over-moved nodes went k set stamp s g h here = by_place (next_draw stamp.node s) refl
  where
    stays : Moved nodes went set stamp.node k (silent s)
    stays = quiet-moved nodes went set stamp.node k (silent s) (record { state = h; posts = tt; desk = here })

    by_desk : (v : ℕ) → v < nodes → v ≢ stamp.node → (desk : Option Desk) → HasWay nodes went stamp.node s.firm desk → one_if (is_some desk) ≡ k
        → Moved nodes went set stamp.node k (hand_over_to set stamp s v desk)
    by_desk v named other None way e = stays
    by_desk v named other (Some desk) way e =
        subst (λ (n : ℕ). Moved nodes went set stamp.node n (hand_over_to set stamp s v (Some desk))) e
        (leaves nodes went set stamp s v desk named other h way.0)

    by_place : (o : Option ℕ) → next_draw stamp.node s ≡ o → Moved nodes went set stamp.node k (hand_over_for set stamp s o)
    by_place None e = stays
    by_place (Some j) e =
        by_desk (ask_at s j).node (ask_at-named nodes went stamp.node s j g h) (drawn_other stamp.node s j e) s.desk h.way here

-- the end of a move
pub finish-moved : (nodes : ℕ) (went : List ℕ) (k set : ℕ) (stamp : Stamp) (s : SetState)
    → Ground nodes went → StateOnPath nodes went stamp.node s → one_if (is_some s.desk) ≡ k
    → Moved nodes went set stamp.node k (finish set stamp s)
finish-moved nodes went k set stamp s g h here = by_desk s.desk
  where
    attended : Moved nodes went set stamp.node k (attend set stamp s)
    attended =
        let services = serve-quiet nodes went k set stamp s g h here in
        let freezes = freeze-quiet nodes went k set stamp (serve set stamp s).state services.state services.desk in
        let both = quiet_then nodes went stamp.node k (serve set stamp s) (freeze set stamp) services freezes in
        moved_then nodes went set stamp.node k (then_do (serve set stamp s) (freeze set stamp)) (hand_over set stamp) both
        (hand_over-moved nodes went k set stamp _ g both.state both.desk)

    by_desk : (desk : Option Desk) → Moved nodes went set stamp.node k (finish_by set stamp s desk)
    by_desk None = quiet-moved nodes went set stamp.node k (tell set stamp s) (tell-quiet nodes went k set stamp s g h here)
    by_desk (Some desk) = attended

-- a quiet rule and then the end of the move
ends-moved : (nodes : ℕ) (went : List ℕ) (k set : ℕ) (stamp : Stamp) (m : Made)
    → Ground nodes went → Quiet nodes went stamp.node k m → Moved nodes went set stamp.node k (then_do m (finish set stamp))
ends-moved nodes went k set stamp m g quiet =
    moved_then nodes went set stamp.node k m (finish set stamp) quiet (finish-moved nodes went k set stamp m.state g quiet.state quiet.desk)

asked-quiet : (nodes : ℕ) (went : List ℕ) (set : ℕ) (stamp : Stamp) (ask : Ask) (s : SetState) → ask.node < nodes
    → Ground nodes went → StateOnPath nodes went stamp.node s → Quiet nodes went stamp.node (one_if (is_some s.desk)) (asked set stamp ask s)
asked-quiet nodes went set stamp ask s named g h =
    let made = route-quiet nodes went (one_if (is_some s.desk)) set stamp false (ParkedAsk ask) (record s { pending = s.pending ++ ask ∷ [] }) g
    (record { link = h.link; way = h.way; hoped = h.hoped; parked = h.parked }) named refl in
    record { state = made.state; posts = made.posts; desk = made.desk }

asked_or_not-quiet : (nodes : ℕ) (went : List ℕ) (set : ℕ) (stamp : Stamp) (ask : Ask) (s : SetState) → ask.node < nodes
    → Ground nodes went → StateOnPath nodes went stamp.node s → Quiet nodes went stamp.node (one_if (is_some s.desk)) (asked_or_not set stamp ask s)
asked_or_not-quiet nodes went set stamp ask s named g h =
    asks_ways (Quiet nodes went stamp.node (one_if (is_some s.desk))) set stamp ask s (λ free. asked-quiet nodes went set stamp ask s named g h)
    (λ gone same. record { state = record { link = h.link; way = h.way; hoped = h.hoped; parked = h.parked }; posts = tt; desk = refl })
    (record { state = h; posts = tt; desk = refl })

pub withdraw-moved : (nodes : ℕ) (went : List ℕ) (set : ℕ) (stamp : Stamp) (client other : ℕ) (s : SetState)
    → Ground nodes went → StateOnPath nodes went stamp.node s → Moved nodes went set stamp.node (one_if (is_some s.desk)) (withdraw set stamp client other s)
withdraw-moved nodes went set stamp client other s g h =
    ends-moved nodes went (one_if (is_some s.desk)) set stamp (withdrawn set client other s) g
    (withdraws_ways (Quiet nodes went stamp.node (one_if (is_some s.desk))) set client other s
    (λ waiting. record { state = record { link = h.link; way = h.way; hoped = h.hoped; parked = h.parked }; posts = tt; desk = refl })
    (λ idle. record { state = h; posts = tt; desk = refl }))

pub lock-moved : (nodes : ℕ) (went : List ℕ) (set : ℕ) (stamp : Stamp) (client : ℕ) (mode : Mode) (s : SetState) → stamp.node < nodes
    → Ground nodes went → StateOnPath nodes went stamp.node s → Moved nodes went set stamp.node (one_if (is_some s.desk)) (lock set stamp client mode s)
lock-moved nodes went set stamp client mode s named g h =
    ends-moved nodes went _ set stamp (locked set stamp client mode s) g (by_test (can_grant stamp.node s client mode))
  where
    by_test : (can : Bool) → Quiet nodes went stamp.node (one_if (is_some s.desk))
        (if can then granted set client mode s else asked_or_not set stamp (ask_of stamp client mode None s) s)
    by_test true = record { state = record { link = h.link; way = h.way; hoped = h.hoped; parked = h.parked }; posts = tt; desk = refl }
    by_test false = asked_or_not-quiet nodes went set stamp (ask_of stamp client mode None s) s named g h

pub try-moved : (nodes : ℕ) (went : List ℕ) (set : ℕ) (stamp : Stamp) (client : ℕ) (mode : Mode) (s : SetState)
    → Ground nodes went → StateOnPath nodes went stamp.node s → Moved nodes went set stamp.node (one_if (is_some s.desk)) (try set stamp client mode s)
try-moved nodes went set stamp client mode s g h =
    ends-moved nodes went _ set stamp (tried set stamp client mode s) g (by_test (can_grant stamp.node s client mode))
  where
    by_test : (can : Bool) → Quiet nodes went stamp.node (one_if (is_some s.desk))
        (if can then answers (Try client set mode true) (given client mode None s) else answers (Try client set mode false) s)
    by_test true = record { state = record { link = h.link; way = h.way; hoped = h.hoped; parked = h.parked }; posts = tt; desk = refl }
    by_test false = record { state = h; posts = tt; desk = refl }

pub unlock-moved : (nodes : ℕ) (went : List ℕ) (set : ℕ) (stamp : Stamp) (client : ℕ) (mode : Mode) (s : SetState)
    → Ground nodes went → StateOnPath nodes went stamp.node s → Moved nodes went set stamp.node (one_if (is_some s.desk)) (unlock set stamp client mode s)
unlock-moved nodes went set stamp client mode s g h =
    ends-moved nodes went _ set stamp (unlocked set client mode s) g (by_test (count_of s.held client mode == 0))
  where
    by_test : (none : Bool) → Quiet nodes went stamp.node (one_if (is_some s.desk))
        (if none then answers (NotHeld client set mode) s else answers (Unlock client set mode) (record s { held = take_lock s.held client mode }))
    by_test true = record { state = h; posts = tt; desk = refl }
    by_test false = record { state = record { link = h.link; way = h.way; hoped = h.hoped; parked = h.parked }; posts = tt; desk = refl }

pub change-moved : (nodes : ℕ) (went : List ℕ) (set : ℕ) (stamp : Stamp) (client : ℕ) (gives_up mode : Mode) (s : SetState) → stamp.node < nodes
    → Ground nodes went → StateOnPath nodes went stamp.node s → Moved nodes went set stamp.node (one_if (is_some s.desk)) (change set stamp client gives_up mode s)
change-moved nodes went set stamp client gives_up mode s named g h =
    ends-moved nodes went _ set stamp (changed set stamp client gives_up mode s) g (by_count (count_of s.held client gives_up == 0))
  where
    by_test : (can : Bool) → Quiet nodes went stamp.node (one_if (is_some s.desk))
        (if can then answers (Change client set gives_up mode) (given client mode (Some gives_up) s) else asked_or_not set stamp (ask_of stamp client mode (Some gives_up) s) s)
    by_test true = record { state = record { link = h.link; way = h.way; hoped = h.hoped; parked = h.parked }; posts = tt; desk = refl }
    by_test false = asked_or_not-quiet nodes went set stamp (ask_of stamp client mode (Some gives_up) s) s named g h

    by_count : (none : Bool) → Quiet nodes went stamp.node (one_if (is_some s.desk))
        (if none then answers (NotHeld client set gives_up) s else change_held set stamp client gives_up mode s)
    by_count true = record { state = h; posts = tt; desk = refl }
    by_count false = by_test (can_grant stamp.node s client mode)

pub drop-moved : (nodes : ℕ) (went : List ℕ) (set : ℕ) (stamp : Stamp) (client : ℕ) (s : SetState)
    → Ground nodes went → StateOnPath nodes went stamp.node s → Moved nodes went set stamp.node (one_if (is_some s.desk)) (drop set stamp client s)
drop-moved nodes went set stamp client s g h =
    finish-moved nodes went (one_if (is_some s.desk)) set stamp (dropped client s) g
    (record { link = h.link; way = h.way; hoped = h.hoped; parked = h.parked }) refl

-- a letter that is taken, with its token in hand
pub take-moved : (nodes : ℕ) (went : List ℕ) (p : ℕ) (stamp : Stamp) (letter : Letter) (s : SetState)
    → Ground nodes went → StateOnPath nodes went stamp.node s → LetterOnPath nodes went p stamp.node letter
    → one_if (is_some s.desk) + tokens_in letter.body ≤ 1
    → Moved nodes went letter.set stamp.node (one_if (is_some s.desk) + tokens_in letter.body) (take stamp letter s)
take-moved nodes went p stamp letter s g h on one =
    let same = ap (λ (o : Option Desk). one_if (is_some o)) (learn_desk letter.link s) in
    ends-moved nodes went _ letter.set stamp (arrive stamp letter s) g
    (by_body letter.body (learn letter.link s) on.body (learn_on_path nodes went stamp.node letter.link s on.link h)
    (one_if (is_some s.desk) + tokens_in letter.body) (omega (arith, same)) one)
  where
    by_body : (body : Body) (t : SetState) → BodyOnPath nodes went stamp.node body → StateOnPath nodes went stamp.node t
        → (k : ℕ) → one_if (is_some t.desk) + tokens_in body ≡ k → k ≤ 1 → Quiet nodes went stamp.node k (take_body letter.set stamp body t)
    by_body (AskBody ask marked) t named ht k e few =
        route-quiet nodes went k letter.set stamp marked (ParkedAsk ask) t g ht named (omega (arith, e))
    by_body (TellBody tell) t named ht k e few =
        route-quiet nodes went k letter.set stamp false (ParkedTell tell) t g ht tt (omega (arith, e))
    by_body (CopyBody ask) t named ht k e few =
        record { state = record { link = ht.link; way = ht.way; hoped = ht.hoped; parked = ht.parked }; posts = tt; desk = omega (arith, e) }
    by_body (TokenBody desk) t d ht k e few =
        record { state = token_on_path nodes went stamp.node desk t d ht; posts = tt; desk = omega (arith, e, few) }
    by_body (FreezeBody number modes) t named ht k e few = by_test (nat_lt t.number number)
      where
        by_test : (newer : Bool) → Quiet nodes went stamp.node k (silent (if newer then record t { frozen = modes; number = number } else t))
        by_test true = record { state = record { link = ht.link; way = ht.way; hoped = ht.hoped; parked = ht.parked }; posts = tt; desk = omega (arith, e) }
        by_test false = record { state = ht; posts = tt; desk = omega (arith, e) }

-- Each effect of a move on a set keeps the token's path.

pub effects_on_path : EffectsOnPath
effects_on_path = record {
  routes = λ nodes went set stamp marked item s g h named. route-quiet nodes went _ set stamp marked item s g h named refl;
  serves = λ set nodes went stamp s g h. serve-quiet nodes went _ set stamp s g h refl;
  freezes = λ set nodes went stamp s g h. freeze-quiet nodes went _ set stamp s h refl;
  tells = λ set nodes went stamp s g h. tell-quiet nodes went _ set stamp s g h refl;
  hands_over = λ set nodes went stamp s named g h. hand_over-moved nodes went _ set stamp s g h refl;
  finishes = λ set nodes went stamp s named g h. finish-moved nodes went _ set stamp s g h refl;
  learns = learn_on_path;
  takes_token = token_on_path;
  locks = λ set client mode nodes went stamp s named g h. lock-moved nodes went set stamp client mode s named g h;
  tries = λ set client mode nodes went stamp s named g h. try-moved nodes went set stamp client mode s g h;
  unlocks = λ set client mode nodes went stamp s named g h. unlock-moved nodes went set stamp client mode s g h;
  changes = λ set client gives_up mode nodes went stamp s named g h. change-moved nodes went set stamp client gives_up mode s named g h;
  drops = λ set client nodes went stamp s named g h. drop-moved nodes went set stamp client s g h;
  withdraws = λ set client other nodes went stamp s named g h. withdraw-moved nodes went set stamp client other s g h;
  takes = take-moved;
}
