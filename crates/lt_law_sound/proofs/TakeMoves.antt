-- The take of a letter that fits leaves a sound set sound.
use Rattle.std.proofs.Common.{◌≡◌, ℕ, ◌+◌, ◌<◌, ◌≤◌, inl, inr, List, [], ◌∷◌, ◌++◌, length, Option, Some, None, Bool, true, false, refl, sym, ap, subst, arith, ◌∙◌, ◌==◌, not, nat_lt, nat_le, if◌then◌else◌, Contains, IsTrue, is_none, is_some, eqb-true, leb-true, ltb-true, append-nil}
use Rattle.std.specs.List.{list_all}
use Rattle.std.proofs.lemmas.Bool.{and_parts, and_from}
use Rattle.std.proofs.lemmas.List.Elements.{All-contains, Contains-append_cases}
use Rattle.std.proofs.lemmas.List.Sums.{AllPass-from_list_all}
use Rattle.lt_modes.specs.declared.stamp.Stamp.{Stamp}
use Rattle.lt_modes.specs.declared.ask.Ask.{Ask}
use Rattle.lt_modes.specs.Script.{ScriptData}
use Rattle.lt_modes.specs.State.{SetState, Desk, Body, AskBody, TellBody, CopyBody, TokenBody, FreezeBody, Letter, ParkedAsk, ParkedTell, same_ask, times_in}
use Rattle.lt_modes.specs.Serving.{queue_of_desk}
use Rattle.lt_modes.specs.Routing.{learn}
use Rattle.lt_modes.specs.Taking.{take_body, arrive, take}
use Rattle.lt_modes.specs.Fits.{is_at_home, has_client, is_pending, is_known, are_apart, asks_here, parked_asks, body_fits, head_fits, numbers_of}
use Rattle.lt_modes.specs.Sound.{SoundSet}
use Rattle.lt_lists.specs.Below.{one_if}
use Rattle.lt_lists.proofs.Members.{contains_cases}
use Rattle.lt_spec.specs.NodeMove.{IsWhole}
use Rattle.lt_spec.specs.Facts.{places_in_body, tokens_in}
use Rattle.lt_model.proofs.Effects.{HoldsOf, take_by_effects}
use Rattle.lt_model.proofs.SentInMove.{Stands, IsCopyHome}
use Rattle.lt_model.proofs.StandingEffects.{stands_later, arrives-stands}
use Rattle.lt_law_invariant.proofs.ClientEffects.{Clients}
use Rattle.lt_law_invariant.proofs.ClientsKept.{clients_arrived}
use Rattle.lt_law_sound.proofs.Around.{IsNamedHome, home_named, pending_among, known_among_own, one_of_each, AreKnown, asked_elsewhere, stood_elsewhere, own_asked, stands_first}
use Rattle.lt_law_sound.proofs.KeptParts.{Kept, route_kept}
use Rattle.lt_law_sound.proofs.KeptActs.{learn_kept, copy_kept, token_kept, freeze_kept}
use Rattle.lt_law_sound.proofs.SoundParts.{Outcome, outcome, opened, own_asks, known_here, made_here}
use Rattle.lt_law_sound.proofs.SetMoves.{sound_ends}

-- the asks that a letter brings
abbrev pub brought_by : Body → List Ask
brought_by (AskBody ask marked) = ask ∷ []
brought_by (CopyBody ask) = ask ∷ []
brought_by (TokenBody desk) = desk.queue
brought_by (TellBody tell) = []
brought_by (FreezeBody number modes) = []

one_ask : (same : Bool) → one_if same ≡ 0 + (if same then 1 else 0)
one_ask true = refl
one_ask false = refl

brought_times : (a : Ask) (body : Body) → places_in_body a body ≡ times_in a (brought_by body)
brought_times a (AskBody ask marked) = one_ask (same_ask a ask)
brought_times a (CopyBody ask) = one_ask (same_ask a ask)
brought_times a (TokenBody desk) = refl
brought_times a (TellBody tell) = refl
brought_times a (FreezeBody number modes) = refl

-- one ask more, of a client that has none here
with_one : (script : ScriptData) (q : ℕ) (t : SetState) (ask : Ask) → AreKnown script q t.pending (asks_here t) → IsTrue (are_apart (asks_here t))
    → IsNamedHome script ask → (ask.node ≡ q → Contains t.pending ask) → not (has_client ask.client (asks_here t)) ≡ true
    → AreKnown script q t.pending (ask ∷ asks_here t)
with_one script q t ask known apart named own free = record {
  named = λ a there. elim (contains_cases ask a (asks_here t) there) [
    | inl e ↦ subst (IsNamedHome script) e named
    | inr later ↦ known.named a later
  ];
  own = λ a there. elim (contains_cases ask a (asks_here t) there) [
    | inl e ↦ subst (λ (x : Ask). x.node ≡ q → Contains t.pending x) e own
    | inr later ↦ known.own a later
  ];
  few = one_of_each (ask ∷ asks_here t) (and_from _ _ free apart);
}

-- what the tests of a token say
record TokenTold (script : ScriptData) (q clock : ℕ) (t : SetState) (desk : Desk) : Type 0 where
  away : t.desk ≡ None
  epoch : desk.epoch ≤ clock
  number : desk.number ≤ clock
  entries : length desk.entries ≡ script.nodes
  homes : list_all (is_at_home (numbers_of script)) desk.queue ≡ true
  apart : are_apart (desk.queue ++ parked_asks t) ≡ true
  own : list_all (is_known q t) (desk.queue ++ parked_asks t) ≡ true

token_told : (script : ScriptData) (q clock : ℕ) (t : SetState) (desk : Desk) → body_fits (numbers_of script) q t clock (TokenBody desk) ≡ true
    → TokenTold script q clock t desk
token_told script q clock t desk e =
    let p1 = and_parts (is_none t.desk) _ e in
    let p2 = and_parts (nat_le t.firm.epoch desk.epoch) _ p1.1 in
    let p3 = and_parts (nat_le desk.epoch clock) _ p2.1 in
    let p4 = and_parts (nat_le desk.number clock) _ p3.1 in
    let p5 = and_parts (length desk.entries == script.nodes) _ p4.1 in
    let p6 = and_parts (list_all (is_at_home (numbers_of script)) desk.queue) _ p5.1 in
    let p7 = and_parts (are_apart (desk.queue ++ parked_asks t)) _ p6.1 in
    record {
      away = none_is t.desk p1.0;
      epoch = leb-true desk.epoch clock p3.0;
      number = leb-true desk.number clock p4.0;
      entries = eqb-true (length desk.entries) script.nodes p5.0;
      homes = p6.0;
      apart = p7.0;
      own = p7.1;
    }
  where
    none_is : (o : Option Desk) → is_none o ≡ true → o ≡ None
    none_is None h = refl
    none_is (Some d) h = cc

-- what the letter brings and what stands here is known together
known_with : (script : ScriptData) (q clock : ℕ) (t : SetState) (body : Body) → AreKnown script q t.pending (asks_here t) → IsTrue (are_apart (asks_here t))
    → body_fits (numbers_of script) q t clock body ≡ true → AreKnown script q t.pending (brought_by body ++ asks_here t)
known_with script q clock t (AskBody ask marked) known apart e =
    let p1 = and_parts (is_at_home (numbers_of script) ask) _ e in
    let p2 = and_parts (is_known q t ask) _ p1.1 in
    with_one script q t ask known apart (home_named script ask p1.0) (known_among_own q t ask p2.0) p2.1
known_with script q clock t (CopyBody ask) known apart e =
    let p1 = and_parts (is_at_home (numbers_of script) ask) _ e in
    let p2 = and_parts (ask.node == q) _ p1.1 in
    let p3 = and_parts (is_pending t ask) _ p2.1 in
    with_one script q t ask known apart (home_named script ask p1.0) (λ own. pending_among t ask p3.0) p3.1
known_with script q clock t (TellBody tell) known apart e = known
known_with script q clock t (FreezeBody number modes) known apart e = known
known_with script q clock t (TokenBody desk) known apart e =
    subst (λ (asks : List Ask). AreKnown script q t.pending (desk.queue ++ asks)) (sym here_is) (record {
      named = λ a there. elim (Contains-append_cases desk.queue (parked_asks t) a there) [
        | inl first ↦ home_named script a
            (All-contains (λ (x : Ask). is_at_home (numbers_of script) x ≡ true) desk.queue a (AllPass-from_list_all (is_at_home (numbers_of script)) desk.queue told.homes) first)
        | inr later ↦ known.named a (subst (λ (asks : List Ask). Contains asks a) (sym here_is) later)
      ];
      own = λ a there. known_among_own q t a
          (All-contains (λ (x : Ask). is_known q t x ≡ true) (desk.queue ++ parked_asks t) a
          (AllPass-from_list_all (is_known q t) (desk.queue ++ parked_asks t) told.own) there);
      few = one_of_each (desk.queue ++ parked_asks t) told.apart;
    })
  where
    told : TokenTold script q clock t desk
    told = token_told script q clock t desk e

    here_is : asks_here t ≡ parked_asks t
    here_is = ap (λ (o : Option Desk). parked_asks t ++ queue_of_desk o) told.away ∙ append-nil (parked_asks t)

-- What the letter says, once its link is learnt.

-- the numbers of the letter are the script's and no later than it
pub record HeadTold (script : ScriptData) (letter : Letter) : Type 0 where
  pub set : letter.set < length script.sets
  pub node : letter.link.node < script.nodes
  pub epoch : letter.link.epoch ≤ letter.stamp.clock

pub head_told : (script : ScriptData) (clock : ℕ) (letter : Letter) → head_fits (numbers_of script) clock letter ≡ true → HeadTold script letter
head_told script clock letter e =
    let p1 = and_parts (nat_lt letter.set (length script.sets)) _ e in
    let p2 = and_parts (nat_lt letter.link.node script.nodes) _ p1.1 in
    let p3 = and_parts (nat_le letter.link.epoch letter.stamp.clock) _ p2.1 in
    record {
      set = ltb-true letter.set (length script.sets) p1.0;
      node = ltb-true letter.link.node script.nodes p2.0;
      epoch = leb-true letter.link.epoch letter.stamp.clock p3.0;
    }

-- the sets's own asks are as they were
learn_pending : (letter : Letter) (t : SetState) → (learn letter.link t).pending ≡ t.pending
learn_pending letter t = by_test (nat_lt t.firm.epoch letter.link.epoch)
  where
    by_test : (greater : Bool) → (if greater then record t { firm = letter.link; hoped = None } else t).pending ≡ t.pending
    by_test true = refl
    by_test false = refl

body_kept : (script : ScriptData) (stamp : Stamp) (set clock : ℕ) (body : Body) (t u : SetState) → stamp.node < script.nodes → clock < stamp.clock
    → u.pending ≡ t.pending → body_fits (numbers_of script) stamp.node t clock body ≡ true → Kept script stamp.node true true stamp.clock u
    → Kept script stamp.node true true stamp.clock (take_body set stamp body u).state
body_kept script stamp set clock (AskBody ask marked) t u below later same e h =
    route_kept script stamp.clock set true true stamp marked (ParkedAsk ask) u
    (home_named script ask (and_parts (is_at_home (numbers_of script) ask) _ e).0).node h
body_kept script stamp set clock (TellBody tell) t u below later same e h =
    route_kept script stamp.clock set true true stamp false (ParkedTell tell) u
    (ltb-true tell.node script.nodes (and_parts (nat_lt tell.node script.nodes) _ e).0) h
body_kept script stamp set clock (CopyBody ask) t u below later same e h =
    let p1 = and_parts (is_at_home (numbers_of script) ask) _ e in
    let p2 = and_parts (ask.node == stamp.node) _ p1.1 in
    let p3 = and_parts (is_pending t ask) _ p2.1 in
    copy_kept script stamp.node stamp.clock set ask u (subst (λ (l : List Ask). Contains l ask) (sym same) (pending_among t ask p3.0)) h
body_kept script stamp set clock (TokenBody desk) t u below later same e h =
    let told = token_told script stamp.node clock t desk e in
    token_kept script stamp.node stamp.clock desk u below (omega (arith, told.epoch, later)) (omega (arith, told.number, later)) told.entries h
body_kept script stamp set clock (FreezeBody number modes) t u below later same e h =
    freeze_kept script stamp.node stamp.clock number modes u (omega (arith, leb-true number clock e, later)) h

copy_is_home : (script : ScriptData) (q clock : ℕ) (t : SetState) (body : Body) → body_fits (numbers_of script) q t clock body ≡ true → IsCopyHome q body
copy_is_home script q clock t (CopyBody ask) e =
    eqb-true ask.node q (and_parts (ask.node == q) _ (and_parts (is_at_home (numbers_of script) ask) _ e).1).0
copy_is_home script q clock t (AskBody ask marked) e = tt
copy_is_home script q clock t (TellBody tell) e = tt
copy_is_home script q clock t (TokenBody desk) e = tt
copy_is_home script q clock t (FreezeBody number modes) e = tt

one_most : (b : Bool) → one_if b + 0 ≤ 1
one_most true = omega arith
one_most false = omega arith

one_desk : (script : ScriptData) (q clock : ℕ) (t : SetState) (body : Body) → body_fits (numbers_of script) q t clock body ≡ true
    → one_if (is_some t.desk) + tokens_in body ≤ 1
one_desk script q clock t (TokenBody desk) e =
    let told = token_told script q clock t desk e in
    omega (arith, ap (λ (o : Option Desk). one_if (is_some o)) told.away)
one_desk script q clock t (AskBody ask marked) e = one_most (is_some t.desk)
one_desk script q clock t (TellBody tell) e = one_most (is_some t.desk)
one_desk script q clock t (CopyBody ask) e = one_most (is_some t.desk)
one_desk script q clock t (FreezeBody number modes) e = one_most (is_some t.desk)

-- what a take begins with
pub record Taken (script : ScriptData) (before : ℕ) (stamp : Stamp) (letter : Letter) (t : SetState) : Type 0 where
  pub whole : IsWhole script
  pub below : stamp.node < script.nodes
  pub later : before < stamp.clock
  pub letter_before : letter.stamp.clock < stamp.clock
  pub sound : SoundSet (numbers_of script) stamp.node false false before t
  pub clients : Clients (λ c. 0) t t
  pub head : HeadTold script letter
  pub body : IsTrue (body_fits (numbers_of script) stamp.node t letter.stamp.clock letter.body)

pub take_outcome : (script : ScriptData) (before : ℕ) (stamp : Stamp) (letter : Letter) (t : SetState) → Taken script before stamp letter t
    → Outcome script stamp.node stamp.clock (λ c. 0) t (take stamp letter t).state
take_outcome script before stamp letter t h =
    outcome script letter.set stamp others t.pending asks (λ c. 0) t (take stamp letter t).state _ h.whole known
    (take_by_effects stamp letter _ _ _ (sound_ends script letter.set stamp others t.pending asks (λ c. 0) t h.whole h.below known) t []
    ((stood, clients_arrived stamp letter t h.clients h.sound.stamps_apart waits), kept))
  where
    asks : List Ask
    asks = brought_by letter.body ++ asks_here t

    known : AreKnown script stamp.node t.pending asks
    known = known_with script stamp.node letter.stamp.clock t letter.body (known_here script stamp.node before t h.sound) h.sound.apart h.body

    others : Ask → ℕ
    others = stood_elsewhere t.pending asks

    begun : Stands letter.set stamp.node before (λ a. others a + places_in_body a letter.body) (asked_elsewhere stamp.node asks) t []
    begun = stands_first script stamp.node letter.set before t (brought_by letter.body) (λ a. places_in_body a letter.body)
        (λ a. brought_times a letter.body) known (own_asks script stamp.node before t h.sound) (made_here script stamp.node before t h.sound)
        h.sound.stamps_apart

    stood : HoldsOf (λ u posts. Stands letter.set stamp.node stamp.clock others (asked_elsewhere stamp.node asks) u posts) [] (arrive stamp letter t)
    stood = arrives-stands letter.set stamp.clock others (asked_elsewhere stamp.node asks) stamp letter t refl (λ a. own_asked stamp.node asks a)
        (copy_is_home script stamp.node letter.stamp.clock t letter.body h.body) (one_desk script stamp.node letter.stamp.clock t letter.body h.body)
        (stands_later letter.set stamp.node before stamp.clock (λ a. others a + places_in_body a letter.body) (asked_elsewhere stamp.node asks) t []
        (omega (arith, h.later)) begun)

    kept : Kept script stamp.node true true stamp.clock (arrive stamp letter t).state
    kept = body_kept script stamp letter.set letter.stamp.clock letter.body t (learn letter.link t) h.below h.letter_before (learn_pending letter t) h.body
        (learn_kept script stamp.node stamp.clock letter.link t h.head.node (omega (arith, h.head.epoch, h.letter_before))
        (opened script stamp.node before stamp.clock t h.later h.sound))

    waits : (ask : Ask) → letter.body ≡ CopyBody ask → Contains t.pending ask
    waits ask says = by_fits (subst (λ (body : Body). body_fits (numbers_of script) stamp.node t letter.stamp.clock body ≡ true) says h.body)
      where
        by_fits : body_fits (numbers_of script) stamp.node t letter.stamp.clock (CopyBody ask) ≡ true → Contains t.pending ask
        by_fits e =
            let p1 = and_parts (is_at_home (numbers_of script) ask) _ e in
            let p2 = and_parts (ask.node == stamp.node) _ p1.1 in
            pending_among t ask (and_parts (is_pending t ask) _ p2.1).0
