-- What rules of a node do to accounts, as statements: what a rule tests of modes is what the account's step asks of them,
-- and what it changes is that step.
use Rattle.std.specs.Prelude.{◌≡◌, ◌≢◌, ◌⊎◌, ◌||◌, ◌==◌, ◌<◌, Bool, true, false, ℕ, List, Option, Some, None, fold, if◌then◌else◌, is_some, IsTrue, IsFalse, length, filter_map}
use Rattle.std.specs.List.{AllByRecursion}
use Rattle.lt_modes.specs.declared.mode.Mode.{Mode}
use Rattle.lt_modes.specs.declared.stamp.Stamp.{Stamp}
use Rattle.lt_modes.specs.declared.ask.Ask.{Ask}
use Rattle.lt_modes.specs.Modes.{Modes, has, union, bars, covers, same_modes, count_of, own_modes, other_modes, held_modes}
use Rattle.lt_modes.specs.declared.parts.Link.{Link}
use Rattle.lt_modes.specs.Script.{ScriptData}
use Rattle.lt_modes.specs.State.{SetState, Desk, Entry, Tell, Parked, ParkedAsk, ParkedTell, entry_of, record_of, own_owed, modes_at, others}
use Rattle.lt_modes.specs.Serving.{ask_at, next_service, served, serve_copy, owing, is_gone, is_void}
use Rattle.lt_modes.specs.Telling.{told, tell_applied, tell_of}
use Rattle.lt_modes.specs.HandingOver.{leaving, without_desk}
use Rattle.lt_modes.specs.Freezing.{frozen_by, is_target, freeze}
use Rattle.lt_modes.specs.Granting.{can_grant}
use Rattle.lt_modes.specs.SetMove.{make_tell, given, unlocked, asked, dropped, withdrawn, retaken}
use Rattle.lt_modes.specs.Taking.{take_copy, take_freeze, take_token}
use Rattle.lt_modes.specs.Routing.{learn, dealt, route}
use Rattle.lt_spec.specs.World.{World}
use Rattle.lt_spec.specs.Facts.{state_at}
use Rattle.lt_model.specs.OnWay.{Moment, tell_parked, account_of}
use Rattle.lt_law_accounts.specs.Account.{Account, counted}
use Rattle.lt_law_accounts.specs.AccountPlay.{others_counted}
use Rattle.lt_model.specs.NewsRules.{frozen_desk}
use Rattle.lt_law_accounts.specs.AccountSteps.{MayGrant, granting, unlocking, dropping, asking, answering, delivering, tell_by, telling, settling, arriving, MayRest, voiding, voiding_copy}

-- the account of a node with this clock that keeps this for the set, with the desk here or not, in its move or not,
-- and with this entry in the desk
abbrev pub account_with : ℕ → Bool → Bool → Entry → SetState → List Tell → List Ask → Account
account_with clock here moving entry s tells copies = record {
  clock = clock;
  held = s.held;
  charge = s.charge;
  pending = s.pending;
  entry = entry;
  tells = tells;
  copies = copies;
  here = here;
  moving = moving;
}

-- the same, where the desk is here if the node keeps one
abbrev pub own_account : Bool → ℕ → Entry → List Tell → List Ask → SetState → Account
own_account moving clock entry tells copies s = account_with clock (is_some s.desk) moving entry s tells copies

-- where the node can grant the mode, a grant may happen, as long as the charge bars what is held;
-- at the desk, against what counts of all other nodes there
abbrev pub GrantsByRule : Type 0
GrantsByRule = (me clock client : ℕ) (mode : Mode) (s : SetState) (entry : Entry) (tells : List Tell) (copies : List Ask) (against : Modes)
    → IsTrue (can_grant me s client mode)
    → ((desk : Desk) → s.desk ≡ Some desk → (entry ≡ entry_of desk me) × (against ≡ others me s desk me))
    → (s.desk ≡ None → bars (held_modes s.held) ≡ bars s.charge)
    → MayGrant against client mode (own_account true clock entry tells copies s)

-- without the desk no frozen mode is granted, unless the client's own modes cover it
abbrev pub FrozenIsNotGranted : Type 0
FrozenIsNotGranted = (me client : ℕ) (mode : Mode) (s : SetState) → s.desk ≡ None → IsTrue (can_grant me s client mode)
    → IsTrue (covers (own_modes s.held client) mode) ⊎ IsFalse (has mode s.frozen)

-- the commands of a client; an ask is routed in the same effect, and an unlock of a lock that isn't held changes nothing
pub record CommandsAreSteps : Type 0 where
  pub gives : (clock client : ℕ) (mode : Mode) (gives_up : Option Mode) (s : SetState) (entry : Entry) (tells : List Tell) (copies : List Ask)
      → own_account true clock entry tells copies (given client mode gives_up s) ≡ granting client mode gives_up (own_account true clock entry tells copies s)
  pub unlocks : (set clock client : ℕ) (mode : Mode) (s : SetState) (entry : Entry) (tells : List Tell) (copies : List Ask)
      → own_account true clock entry tells copies (unlocked set client mode s).state
      ≡ (if count_of s.held client mode == 0 then own_account true clock entry tells copies s else unlocking client mode (own_account true clock entry tells copies s))
  pub asks : (set clock : ℕ) (stamp : Stamp) (ask : Ask) (s : SetState) (entry : Entry) (tells : List Tell) (copies : List Ask)
      → own_account true clock entry tells copies (asked set stamp ask s).state ≡ asking ask (own_account true clock entry tells copies s)
  pub drops : (clock client : ℕ) (s : SetState) (entry : Entry) (tells : List Tell) (copies : List Ask)
      → own_account true clock entry tells copies (dropped client s) ≡ dropping client (own_account true clock entry tells copies s)
  pub withdraws : (set clock client other : ℕ) (s : SetState) (entry : Entry) (tells : List Tell) (copies : List Ask)
      → own_account true clock entry tells copies (withdrawn set client other s).state ≡ own_account true clock entry tells copies s
  pub retakes : (set clock : ℕ) (ask : Ask) (s : SetState) (entry : Entry) (tells : List Tell) (copies : List Ask)
      → own_account true clock entry tells copies (retaken set ask s).state ≡ own_account true clock entry tells copies s

-- an ask of node `me` with the desk: no other node, no lock of another client here and no copy on its way here conflicts
pub record IsLocallyFree (me : ℕ) (s : SetState) (desk : Desk) (ask : Ask) : Type 0 where
  pub node : ask.node ≡ me
  pub free : IsFalse (has ask.mode (bars (others me s desk me)))
  pub local : IsFalse (has ask.mode (bars (union (other_modes s.held ask.client) (own_owed me s desk))))

-- an ask of another node: all other nodes cover it, and neither they nor its own node's record bar it
pub record IsCopyFree (me : ℕ) (s : SetState) (desk : Desk) (ask : Ask) : Type 0 where
  pub node : ask.node ≢ me
  pub free : IsFalse (has ask.mode (bars (others me s desk ask.node)))
  pub covered : IsTrue (covers (others me s desk ask.node) ask.mode)
  pub clear : IsFalse (has ask.mode (bars (record_of (entry_of desk ask.node))))

-- the next ask that is served is void, or the one or the other
abbrev pub ServesByRule : Type 0
ServesByRule = (me k : ℕ) (s : SetState) (desk : Desk) → s.desk ≡ Some desk → next_service me s ≡ Some k
    → IsTrue (is_void me s (ask_at s k)) ⊎ (IsLocallyFree me s desk (ask_at s k) ⊎ IsCopyFree me s desk (ask_at s k))

-- a local service is an answer, or void where the ask was given up; a copy is owed at the entry of its node alone, and changes nothing of what the desk's node keeps
pub record ServicesAreSteps : Type 0 where
  pub stays : (set clock k : ℕ) (stamp : Stamp) (ask : Ask) (s : SetState) (entry : Entry) (tells : List Tell) (copies : List Ask)
      → own_account true clock entry tells copies (serve_copy set stamp k ask s).state ≡ own_account true clock entry tells copies s
  pub answers : (clock k : ℕ) (s : SetState) (entry : Entry) (tells : List Tell) (copies : List Ask)
      → own_account true clock entry tells copies (served s k)
      ≡ (if is_gone s (ask_at s k).client
      then voiding (ask_at s k) (own_account true clock entry tells copies s)
      else answering (ask_at s k) (own_account true clock entry tells copies s))
  pub owes : (set k x : ℕ) (stamp : Stamp) (ask : Ask) (s : SetState) (desk left : Desk) → s.desk ≡ Some desk
      → (serve_copy set stamp k ask s).state.desk ≡ Some left → ask.node < length desk.entries
      → entry_of left x ≡ (if x == ask.node then owing ask (entry_of desk x) else entry_of desk x)

-- a copy that is taken is delivered, or void where its ask was given up, and the charge rises by it where the desk isn't here
abbrev pub CopiesAreDelivered : Type 0
CopiesAreDelivered = (set clock : ℕ) (ask : Ask) (s : SetState) (entry : Entry) (tells : List Tell) (copies left : List Ask)
    → own_account true clock entry tells left (take_copy set ask s).state
    ≡ (if is_gone s ask.client
    then voiding_copy ask left (own_account true clock entry tells copies s)
    else delivering ask left (own_account true clock entry tells copies s))

-- a tell that the desk takes changes the entry of its node alone
abbrev pub TellsAreApplied : Type 0
TellsAreApplied = (x : ℕ) (tell : Tell) (desk : Desk) → tell.node < length desk.entries
    → entry_of (tell_applied tell desk) x ≡ (if x == tell.node then told tell (entry_of desk x) else entry_of desk x)

-- a tell says what is held and waited for, and the charge is what is held; where none is due, the move may end
pub record TellsAreMade : Type 0 where
  pub says : (clock : ℕ) (stamp : Stamp) (s : SetState) (entry : Entry) (tells : List Tell) (copies : List Ask)
      → tell_of stamp s ≡ tell_by stamp (own_account true clock entry tells copies s)
  pub made : (set clock : ℕ) (stamp : Stamp) (s : SetState) (entry : Entry) (tells more : List Tell) (copies : List Ask)
      → own_account false clock entry more copies (make_tell set stamp s).state ≡ telling more (own_account true clock entry tells copies s)
  pub none : (clock : ℕ) (s : SetState) (entry : Entry) (tells : List Tell) (copies : List Ask)
      → IsTrue (same_modes (bars (held_modes s.held)) (bars s.charge)) → MayRest (own_account true clock entry tells copies s)

-- handing over settles the entry of this node alone
pub record HandingOverSettles : Type 0 where
  pub settles : (clock v epoch : ℕ) (stamp : Stamp) (s : SetState) (desk : Desk) (tells : List Tell) (copies : List Ask)
      → stamp.node < length desk.entries
      → own_account false clock (entry_of (leaving stamp s desk) stamp.node) tells copies (without_desk s v epoch)
      ≡ settling stamp (own_account true clock (entry_of desk stamp.node) tells copies s)
  pub others_stay : (x : ℕ) (stamp : Stamp) (s : SetState) (desk : Desk) → x ≢ stamp.node
      → entry_of (leaving stamp s desk) x ≡ entry_of desk x

-- the tells of node x among parked letters, applied in order
abbrev pub told_by_parked : ℕ → List Parked → Entry → Entry
told_by_parked x items entry = fold (λ e tell. told tell e) entry (filter_map (tell_parked x) items)

-- a parked tell is of one of the first nodes
abbrev pub IsParkedOf : ℕ → Parked → Type 0
IsParkedOf nodes (ParkedTell tell) = tell.node < nodes
IsParkedOf nodes (ParkedAsk ask) = Unit {0}

-- a token that is taken arrives; its desk takes the parked tells in order
pub record TokensArrive : Type 0 where
  pub arrives : (me clock : ℕ) (desk : Desk) (s : SetState) (entry : Entry) (tells : List Tell) (copies : List Ask)
      → own_account true clock entry tells copies (take_token me desk s) ≡ arriving (own_account true clock entry tells copies s)
  pub parked : (x : ℕ) (items : List Parked) (desk : Desk) → AllByRecursion (IsParkedOf (length desk.entries)) items
      → entry_of (fold dealt desk items) x ≡ told_by_parked x items (entry_of desk x)

-- freezing says in entries what was told, and changes nothing of what the desk's node keeps but its frozen modes
pub record FreezesAreSteps : Type 0 where
  pub entries : (me x : ℕ) (desk : Desk) → x < length desk.entries
      → entry_of (frozen_desk me desk) x
      ≡ (if x == me || is_target me (frozen_by desk.queue) x (entry_of desk x) then record (entry_of desk x) { frozen_told = frozen_by desk.queue } else entry_of desk x)
  pub stays : (set clock : ℕ) (stamp : Stamp) (s : SetState) (entry : Entry) (tells : List Tell) (copies : List Ask)
      → own_account true clock entry tells copies (freeze set stamp s).state ≡ own_account true clock entry tells copies s

-- a learnt link, a routed letter and a freeze that is taken change nothing of what an account reads at the node
pub record OthersChangeNothing : Type 0 where
  pub learns : (clock : ℕ) (link : Link) (s : SetState) (entry : Entry) (tells : List Tell) (copies : List Ask)
      → own_account true clock entry tells copies (learn link s) ≡ own_account true clock entry tells copies s
  pub routes : (moving : Bool) (set clock : ℕ) (stamp : Stamp) (marked : Bool) (item : Parked) (s : SetState) (entry : Entry) (tells : List Tell) (copies : List Ask)
      → own_account moving clock entry tells copies (route set stamp marked item s).state ≡ own_account moving clock entry tells copies s
  pub keeps_freeze : (clock number : ℕ) (frozen : Modes) (s : SetState) (entry : Entry) (tells : List Tell) (copies : List Ask)
      → own_account true clock entry tells copies (take_freeze number frozen s) ≡ own_account true clock entry tells copies s

-- what the rules count of a node is what its account counts, and what they count of all others is what the accounts of all
-- others count
pub record RulesCount : Type 0 where
  pub modes : (script : ScriptData) (moment : Moment) (w : World) (s t x : ℕ) (desk : Desk)
      → modes_at t (state_at w s t) desk x ≡ counted (account_of script moment w s (Some t) desk x)
  pub others : (script : ScriptData) (moment : Moment) (w : World) (s t v : ℕ) (desk : Desk) → length desk.entries ≡ script.nodes
      → others t (state_at w s t) desk v ≡ others_counted script.nodes (account_of script moment w s (Some t) desk) v
