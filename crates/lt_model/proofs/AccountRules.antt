-- Rules of a node are steps of accounts.
use Rattle.lt_law_accounts.specs.AccountSteps.{answering, delivering, voiding, voiding_copy}
use Rattle.lt_model.proofs.NewsRules.{fails_within, routed, frozen_at}
use Rattle.std.proofs.Common.{◌≡◌, ◌≢◌, ℕ, zero, suc, ◌+◌, ◌<◌, inl, inr, List, [], ◌∷◌, length, Option, Some, None, Bool, true, false, refl, sym, ap, subst, arith, ◌∙◌, ◌⊎◌, ◌||◌, ◌&&◌, ◌==◌, not, IsTrue, IsFalse, if◌then◌else◌, nat_lt, fold, is_some, remove, slice_index_or, slice_set, eq-eqb, ne_eqb, eqb-true, filter_map, get_or-set_same, get_or-set_other, length-set}
use Rattle.std.proofs.lemmas.Bool.{both_ways, not-true, and_parts, or_cases, cases_eq}
use Rattle.std.specs.List.{AllByRecursion, cons_option}
use Rattle.lt_modes.specs.declared.ask.Ask.{Ask}
use Rattle.lt_modes.specs.Modes.{no_modes, Modes, has, union, bars, covers, with_mode, other_modes, held_modes}
use Rattle.lt_modes.specs.State.{SetState, Desk, Entry, Tell, Parked, ParkedAsk, ParkedTell, first_entry, no_ask, entry_of, record_of, own_owed, own_part, modes_at, others_below, others, without}
use Rattle.lt_modes.specs.Serving.{ask_at, queue_of, queue_of_desk, next_at, next_from, is_served, is_free, is_local, is_copy, is_clear_at_home, served, owed_at, owing, is_gone, is_void, is_ready, answered}
use Rattle.lt_modes.specs.Telling.{told, tell_of}
use Rattle.lt_modes.specs.HandingOver.{settled, without_desk}
use Rattle.lt_modes.specs.declared.stamp.Stamp.{Stamp}
use Rattle.lt_modes.specs.Freezing.{freeze_at}
use Rattle.lt_modes.specs.Routing.{dealt}
use Rattle.lt_modes.specs.Taking.{charged}
use Rattle.lt_modes.proofs.ModeAlgebra.{same_modes-true}
use Rattle.lt_modes.specs.Script.{ScriptData}
use Rattle.lt_modes.specs.declared.parts.Link.{Link}
use Rattle.lt_spec.specs.World.{World}
use Rattle.lt_spec.specs.Facts.{state_at}
use Rattle.lt_model.specs.OnWay.{Moment, tell_parked, account_of}
use Rattle.lt_law_accounts.specs.AccountPlay.{others_counted}
use Rattle.lt_law_accounts.specs.Account.{counted}
use Rattle.lt_model.specs.AccountRules.{own_account, IsLocallyFree, IsCopyFree, ServesByRule, ServicesAreSteps, CopiesAreDelivered, TellsAreApplied, TellsAreMade, HandingOverSettles, IsParkedOf, told_by_parked, TokensArrive, FreezesAreSteps, OthersChangeNothing, RulesCount}
use Rattle.lt_law_accounts.proofs.AccountFacts.{has-left}
use Rattle.lt_model.proofs.PathsQuiet.{put_queue_some, owed_at_some}

-- the ask that is next was tested against the asks before it
next_tested : (me : ℕ) (s : SetState) (desk : Desk) (before : Modes) (first : ℕ) (queue : List Ask) (k : ℕ) → next_from me s desk before first queue ≡ Some k
    → (i : ℕ) × (k ≡ first + i) × (seen : Modes) × (is_served me s desk seen (slice_index_or queue i no_ask) ≡ true)
next_tested me s desk before first [] k e = cc
next_tested me s desk before first (ask ∷ rest) k e =
    by_test (is_served me s desk before ask) refl e (λ f. next_tested me s desk (with_mode before ask.mode) (first + 1) rest k f)
  where
    by_test : (now : Bool) → is_served me s desk before ask ≡ now
        → (if now then Some first else next_from me s desk (with_mode before ask.mode) (first + 1) rest) ≡ Some k
        → (next_from me s desk (with_mode before ask.mode) (first + 1) rest ≡ Some k
        → (i : ℕ) × (k ≡ first + 1 + i) × (seen : Modes) × (is_served me s desk seen (slice_index_or rest i no_ask) ≡ true))
        → (i : ℕ) × (k ≡ first + i) × (seen : Modes) × (is_served me s desk seen (slice_index_or (ask ∷ rest) i no_ask) ≡ true)
    by_test true test f again = let same : first ≡ k = cc in (0, omega (arith, same), before, test)
    by_test false test f again = let found = again f in (suc found.0, omega (arith, found.1), found.2, found.3)

served_by_kind : (me : ℕ) (s : SetState) (desk : Desk) (seen : Modes) (ask : Ask) → is_ready me s desk seen ask ≡ true
    → IsLocallyFree me s desk ask ⊎ IsCopyFree me s desk ask
served_by_kind me s desk seen ask e =
    elim (or_cases (is_local me s desk ask) (is_copy me s desk ask) parts.1) [
      | inl local ↦
          let tests = and_parts (ask.node == me) (not (has ask.mode (bars (union (other_modes s.held ask.client) (own_owed me s desk))))) local in
          let same = eqb-true ask.node me tests.0 in
          inl (record {
            node = same;
            free = subst (λ (v : ℕ). IsFalse (has ask.mode (bars (others me s desk v)))) same free;
            local = not-true (has ask.mode (bars (union (other_modes s.held ask.client) (own_owed me s desk)))) tests.1;
          })
      | inr copy ↦
          let tests = and_parts (not (ask.node == me)) (covers (others me s desk ask.node) ask.mode && is_clear_at_home me s desk ask) copy in
          let more = and_parts (covers (others me s desk ask.node) ask.mode) (is_clear_at_home me s desk ask) tests.1 in
          let other : (ask.node == me) ≡ false = not-true (ask.node == me) tests.0 in
          inr (record {
            node = λ same. both_ways (ask.node == me) other (eq-eqb ask.node me same);
            free = free;
            covered = more.0;
            clear = subst (λ (b : Bool). IsFalse (has ask.mode (bars (if b then own_part me s desk else record_of (entry_of desk ask.node))))) other
                (not-true (has ask.mode (bars (if ask.node == me then own_part me s desk else record_of (entry_of desk ask.node)))) more.1);
          })
    ]
  where
    parts : IsTrue (is_free me s desk seen ask) × IsTrue (is_local me s desk ask || is_copy me s desk ask)
    parts = and_parts (is_free me s desk seen ask) (is_local me s desk ask || is_copy me s desk ask) e

    free : IsFalse (has ask.mode (bars (others me s desk ask.node)))
    free = fails_within ask.mode (union (others me s desk ask.node) seen) (others me s desk ask.node) (λ m member. has-left m (others me s desk ask.node) seen member)
        (not-true (has ask.mode (bars (union (others me s desk ask.node) seen))) parts.0)

pub serves_by_rule : ServesByRule
serves_by_rule me k s desk here e =
    let at_desk : next_at me s (Some desk) ≡ Some k = ap (next_at me s) (sym here) ∙ e in
    let found = next_tested me s desk _ 0 desk.queue k at_desk in
    let place : found.0 ≡ k = omega (arith, found.1) in
    let queue : desk.queue ≡ queue_of s = ap queue_of_desk (sym here) in
    let ask : slice_index_or desk.queue found.0 no_ask ≡ ask_at s k =
    ap (λ (i : ℕ). slice_index_or desk.queue i no_ask) place ∙ ap (λ (l : List Ask). slice_index_or l k no_ask) queue in
    by_void desk found.2 (is_void me s (ask_at s k)) refl (ap (is_served me s desk found.2) (sym ask) ∙ found.3)
  where
    by_void : (d : Desk) (seen : Modes) (void : Bool) → is_void me s (ask_at s k) ≡ void → (void || is_ready me s d seen (ask_at s k)) ≡ true
        → IsTrue (is_void me s (ask_at s k)) ⊎ (IsLocallyFree me s d (ask_at s k) ⊎ IsCopyFree me s d (ask_at s k))
    by_void d seen true is ready = inl is
    by_void d seen false is ready = inr (served_by_kind me s d seen (ask_at s k) ready)

-- an entry after one was put
entry_put : (desk : Desk) (v x : ℕ) (entry : Entry) → v < length desk.entries
    → slice_index_or (slice_set desk.entries v entry) x first_entry ≡ (if x == v then entry else entry_of desk x)
entry_put desk v x entry within = by_place (cases_eq x v)
  where
    by_place : (x ≡ v) ⊎ (x ≢ v) → slice_index_or (slice_set desk.entries v entry) x first_entry ≡ (if x == v then entry else entry_of desk x)
    by_place (inl same) =
        ap (λ (i : ℕ). slice_index_or (slice_set desk.entries v entry) i first_entry) same
        ∙ get_or-set_same desk.entries v entry first_entry within
        ∙ ap (λ (b : Bool). if b then entry else entry_of desk x) (sym (eq-eqb x v same))
    by_place (inr other) =
        get_or-set_other desk.entries v x entry first_entry other
        ∙ ap (λ (b : Bool). if b then entry else entry_of desk x) (sym (ne_eqb x v other))

-- the same with an entry that is made of the one before
entry_made : (desk : Desk) (v x : ℕ) (make : Entry → Entry) → v < length desk.entries
    → slice_index_or (slice_set desk.entries v (make (entry_of desk v))) x first_entry ≡ (if x == v then make (entry_of desk x) else entry_of desk x)
entry_made desk v x make within = entry_put desk v x (make (entry_of desk v)) within ∙ by_place (cases_eq x v)
  where
    by_place : (x ≡ v) ⊎ (x ≢ v) → (if x == v then make (entry_of desk v) else entry_of desk x) ≡ (if x == v then make (entry_of desk x) else entry_of desk x)
    by_place (inl same) = ap (λ (i : ℕ). if x == v then make (entry_of desk i) else entry_of desk x) (sym same)
    by_place (inr other) = rw (ne_eqb x v other) refl

pub services_are_steps : ServicesAreSteps
services_are_steps = record {
  stays = λ set clock k stamp ask s entry tells copies.
      ap (λ (b : Bool). record (own_account true clock entry tells copies s) { here = b }) (owed_at_some ask k s.desk);
  answers = λ clock k s entry tells copies.
      ap (λ (b : Bool). record (own_account true clock entry tells copies (served s k)) { here = b }) (put_queue_some (remove (queue_of s) k) s.desk)
      ∙ void_or_answered clock k s entry tells copies (is_gone s (ask_at s k).client);
  owes = λ set k x stamp ask s desk left here there within.
      let one : owed_at ask k (Some desk) ≡ Some left = ap (owed_at ask k) (sym here) ∙ there in
      let same = some_desk _ left one in
      ap (λ (d : Desk). entry_of d x) (sym same) ∙ entry_made desk ask.node x (owing ask) within;
}
  where
    some_desk : (a b : Desk) → Some a ≡ Some b → a ≡ b
    some_desk a b e = cc

    void_or_answered : (clock k : ℕ) (s : SetState) (entry : Entry) (tells : List Tell) (copies : List Ask) (gone : Bool)
        → record (own_account true clock entry tells copies s) {
          held = if gone then s.held else answered s.held (ask_at s k);
          pending = without s.pending (ask_at s k).stamp;
        }
        ≡ (if gone
        then voiding (ask_at s k) (own_account true clock entry tells copies s)
        else answering (ask_at s k) (own_account true clock entry tells copies s))
    void_or_answered clock k s entry tells copies true = refl
    void_or_answered clock k s entry tells copies false = refl

pub copies_are_delivered : CopiesAreDelivered
copies_are_delivered set clock ask s entry tells copies left = by_gone (is_gone s ask.client)
  where
    by_gone : (gone : Bool)
        → record (own_account true clock entry tells copies s) {
          held = if gone then s.held else answered s.held ask;
          pending = without s.pending ask.stamp;
          charge = charged s ask;
          copies = left;
        }
        ≡ (if gone
        then voiding_copy ask left (own_account true clock entry tells copies s)
        else delivering ask left (own_account true clock entry tells copies s))
    by_gone true = refl
    by_gone false = refl

pub tells_are_applied : TellsAreApplied
tells_are_applied x tell desk within = entry_made desk tell.node x (told tell) within

pub tells_are_made : TellsAreMade
tells_are_made = record {
  says = λ clock stamp s entry tells copies. refl;
  made = λ set clock stamp s entry tells more copies.
      routed false set clock stamp false (ParkedTell (tell_of stamp s)) (record s { charge = held_modes s.held }) entry more copies;
  none = λ clock s entry tells copies same away. same_modes-true (bars (held_modes s.held)) (bars s.charge) same;
}

pub handing_over_settles : HandingOverSettles
handing_over_settles = record {
  settles = λ clock v epoch stamp s desk tells copies within.
      ap (λ (x : Entry). own_account false clock x tells copies (without_desk s v epoch))
      (get_or-set_same desk.entries stamp.node (settled stamp s (entry_of desk stamp.node)) first_entry within);
  others_stay = λ x stamp s desk other.
      get_or-set_other desk.entries stamp.node x (settled stamp s (entry_of desk stamp.node)) first_entry other;
}

dealt_length : (desk : Desk) (item : Parked) → length (dealt desk item).entries ≡ length desk.entries
dealt_length desk (ParkedAsk ask) = refl
dealt_length desk (ParkedTell tell) = length-set desk.entries tell.node (told tell (entry_of desk tell.node))

-- one parked letter, and then the rest
parked_tells : (x : ℕ) (items : List Parked) (desk : Desk) → AllByRecursion (IsParkedOf (length desk.entries)) items
    → entry_of (fold dealt desk items) x ≡ told_by_parked x items (entry_of desk x)
parked_tells x [] desk h = refl
parked_tells x (ParkedAsk ask ∷ rest) desk h = parked_tells x rest (dealt desk (ParkedAsk ask)) h.1
parked_tells x (ParkedTell tell ∷ rest) desk h =
    parked_tells x rest (dealt desk (ParkedTell tell)) (subst (λ (n : ℕ). AllByRecursion (IsParkedOf n) rest) (sym (dealt_length desk (ParkedTell tell))) h.1)
    ∙ by_node (cases_eq x tell.node)
  where
    later : Entry → Entry
    later entry = told_by_parked x rest entry

    by_node : (x ≡ tell.node) ⊎ (x ≢ tell.node)
        → later (entry_of (dealt desk (ParkedTell tell)) x) ≡ told_by_parked x (ParkedTell tell ∷ rest) (entry_of desk x)
    by_node (inl same) =
        ap later (tells_are_applied x tell desk h.0 ∙ ap (λ (b : Bool). if b then told tell (entry_of desk x) else entry_of desk x) (eq-eqb x tell.node same))
        ∙ ap (λ (b : Bool). fold (λ e t. told t e) (entry_of desk x) (cons_option (if b then Some tell else None) (filter_map (tell_parked x) rest)))
        (sym (eq-eqb tell.node x (sym same)))
    by_node (inr other) =
        ap later (tells_are_applied x tell desk h.0 ∙ ap (λ (b : Bool). if b then told tell (entry_of desk x) else entry_of desk x) (ne_eqb x tell.node other))
        ∙ ap (λ (b : Bool). fold (λ e t. told t e) (entry_of desk x) (cons_option (if b then Some tell else None) (filter_map (tell_parked x) rest)))
        (sym (ne_eqb tell.node x (λ e. other (sym e))))

pub tokens_arrive : TokensArrive
tokens_arrive = record {
  arrives = λ me clock desk s entry tells copies. refl;
  parked = parked_tells;
}

pub freezes_are_steps : FreezesAreSteps
freezes_are_steps = record {
  entries = λ me x desk within. frozen_at me x desk within;
  stays = λ set clock stamp s entry tells copies. by_desk set clock stamp s entry tells copies s.desk refl;
}
  where
    by_desk : (set clock : ℕ) (stamp : Stamp) (s : SetState) (entry : Entry) (tells : List Tell) (copies : List Ask) (o : Option Desk) → s.desk ≡ o
        → own_account true clock entry tells copies (freeze_at set stamp s o).state ≡ own_account true clock entry tells copies s
    by_desk set clock stamp s entry tells copies None away = refl
    by_desk set clock stamp s entry tells copies (Some desk) here =
        ap (λ (o : Option Desk). record (own_account true clock entry tells copies s) { here = is_some o }) (sym here)

pub others_change_nothing : OthersChangeNothing
others_change_nothing = record {
  learns = λ clock link s entry tells copies. by_epoch clock link s entry tells copies (nat_lt s.firm.epoch link.epoch);
  routes = routed;
  keeps_freeze = λ clock number frozen s entry tells copies. by_number clock number frozen s entry tells copies (nat_lt s.number number);
}
  where
    by_epoch : (clock : ℕ) (link : Link) (s : SetState) (entry : Entry) (tells : List Tell) (copies : List Ask) (newer : Bool)
        → own_account true clock entry tells copies (if newer then record s { firm = link; hoped = None } else s) ≡ own_account true clock entry tells copies s
    by_epoch clock link s entry tells copies true = refl
    by_epoch clock link s entry tells copies false = refl

    by_number : (clock number : ℕ) (frozen : Modes) (s : SetState) (entry : Entry) (tells : List Tell) (copies : List Ask) (newer : Bool)
        → own_account true clock entry tells copies (if newer then record s { frozen = frozen; number = number } else s) ≡ own_account true clock entry tells copies s
    by_number clock number frozen s entry tells copies true = refl
    by_number clock number frozen s entry tells copies false = refl

-- what the desk's node counts of a node, its account counts
modes_counted : (script : ScriptData) (moment : Moment) (w : World) (s t x : ℕ) (desk : Desk)
    → modes_at t (state_at w s t) desk x ≡ counted (account_of script moment w s (Some t) desk x)
modes_counted script moment w s t x desk = by_node (x == t) refl
  where
    by_node : (own : Bool) → (x == t) ≡ own
        → (if own then own_part t (state_at w s t) desk else record_of (entry_of desk x))
        ≡ (if own then own_part x (state_at w s x) desk else record_of (entry_of desk x))
    by_node true e = ap (λ (y : ℕ). own_part y (state_at w s y) desk) (sym (eqb-true x t e))
    by_node false e = refl

others_counted_below : (script : ScriptData) (moment : Moment) (w : World) (s t v : ℕ) (desk : Desk) (n : ℕ)
    → others_below n t (state_at w s t) desk v ≡ others_counted n (account_of script moment w s (Some t) desk) v
others_counted_below script moment w s t v desk zero = refl
others_counted_below script moment w s t v desk (suc n) =
    ap (λ (m : Modes). union m (if n == v then no_modes else modes_at t (state_at w s t) desk n)) (others_counted_below script moment w s t v desk n)
    ∙ ap (λ (m : Modes). union (others_counted n (account_of script moment w s (Some t) desk) v) (if n == v then no_modes else m)) (modes_counted script moment w s t n desk)

pub rules_count : RulesCount
rules_count = record {
  modes = modes_counted;
  others = λ script moment w s t v desk entries.
      ap (λ (n : ℕ). others_below n t (state_at w s t) desk v) entries ∙ others_counted_below script moment w s t v desk script.nodes;
}
