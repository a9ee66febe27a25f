-- Moments at which a set is looked at.
use Rattle.std.specs.Prelude.{Bool, false, ◌==◌, ℕ, Option, Some, None, ◌≡◌, ◌⊎◌, ◌<◌, List, ◌++◌, if◌then◌else◌, Contains, ◌↔◌, filter_map}
use Rattle.lt_modes.specs.declared.ask.Ask.{Ask}
use Rattle.lt_modes.specs.Modes.{Modes}
use Rattle.lt_modes.specs.Script.{ScriptData}
use Rattle.lt_modes.specs.State.{Desk, Tell, Body, AskBody, TellBody, CopyBody, TokenBody, FreezeBody, Letter, Parked, ParkedAsk, ParkedTell, entry_of, record_of}
use Rattle.lt_modes.specs.Freezing.{frozen_by}
use Rattle.lt_lists.specs.Below.{gather_below}
use Rattle.lt_spec.specs.World.{World}
use Rattle.lt_spec.specs.Facts.{state_at, Comes}
use Rattle.lt_law_accounts.specs.Account.{Account}
use Rattle.lt_law_accounts.specs.News.{News, Notice}

-- between moves; or in the middle of a move of a node on the set, after its clock was set: before it has frozen, or, where
-- the desk is there, after it has frozen and before the desk leaves
pub data Moment : Type 0 where
  Between : Moment
  Acting : ℕ → Moment
  Frozen : ℕ → Moment

-- the desk is at node x
abbrev pub is_at : Option ℕ → ℕ → Bool
is_at None x = false
is_at (Some t) x = x == t

-- node x is in the middle of a move
abbrev pub is_moving : Moment → ℕ → Bool
is_moving Between x = false
is_moving (Acting q) x = x == q
is_moving (Frozen q) x = x == q

-- and it hasn't frozen yet
abbrev pub is_unfrozen : Moment → ℕ → Bool
is_unfrozen Between x = false
is_unfrozen (Acting q) x = x == q
is_unfrozen (Frozen q) x = false

-- the desk, at this place, is at the node that is in its move and hasn't frozen yet
abbrev pub is_serving : Moment → Option ℕ → Bool
is_serving Between place = false
is_serving (Acting q) place = is_at place q
is_serving (Frozen q) place = false

-- Where the desk of a set is, and which letters are on their way.

-- the tell is parked at q or on its way to q
abbrev pub IsTellAt : ScriptData → World → ℕ → ℕ → Tell → Type 0
IsTellAt script w s q tell =
    Comes script w s q (TellBody tell) ⊎ Contains (state_at w s q).parked (ParkedTell tell)

-- the tell is one of node x, in a letter or parked
abbrev pub IsTellOf : ScriptData → World → ℕ → ℕ → Tell → Type 0
IsTellOf script w s x tell = (tell.node ≡ x) × (q : ℕ) × (q < script.nodes) × IsTellAt script w s q tell

-- a copy for the ask is on its way to x
abbrev pub IsCopyTo : ScriptData → World → ℕ → ℕ → Ask → Type 0
IsCopyTo script w s x ask = Comes script w s x (CopyBody ask)

-- a freeze with this number and these modes is on its way to x
abbrev pub IsFreezeTo : ScriptData → World → ℕ → ℕ → ℕ → Modes → Type 0
IsFreezeTo script w s x number modes = Comes script w s x (FreezeBody number modes)

-- what this reads from letters of the set
abbrev pub in_set : {X : Type 0} → ℕ → (Body → Option X) → Letter → Option X
in_set s read letter = if letter.set == s then read letter.body else None

abbrev pub tell_if : ℕ → Tell → Option Tell
tell_if x tell = if tell.node == x then Some tell else None

-- the tell of node x that a letter says
abbrev pub tell_in : ℕ → Body → Option Tell
tell_in x (TellBody tell) = tell_if x tell
tell_in x (AskBody ask marked) = None
tell_in x (CopyBody ask) = None
tell_in x (TokenBody desk) = None
tell_in x (FreezeBody number modes) = None

abbrev pub tell_parked : ℕ → Parked → Option Tell
tell_parked x (ParkedTell tell) = tell_if x tell
tell_parked x (ParkedAsk ask) = None

-- the tells of node x, in letters and parked
abbrev pub tells_of : ScriptData → World → ℕ → ℕ → List Tell
tells_of script w s x =
    gather_below script.nodes (λ p. gather_below script.nodes (λ q. filter_map (in_set s (tell_in x)) (w.mail p q)))
    ++ gather_below script.nodes (λ q. filter_map (tell_parked x) (state_at w s q).parked)

abbrev pub copy_in : Body → Option Ask
copy_in (CopyBody ask) = Some ask
copy_in (AskBody ask marked) = None
copy_in (TellBody tell) = None
copy_in (TokenBody desk) = None
copy_in (FreezeBody number modes) = None

-- the asks for which copies are on their way to x
abbrev pub copies_to : ScriptData → World → ℕ → ℕ → List Ask
copies_to script w s x = gather_below script.nodes (λ p. filter_map (in_set s copy_in) (w.mail p x))

abbrev pub freeze_in : Body → Option Notice
freeze_in (FreezeBody number modes) = Some (record { number = number; modes = modes })
freeze_in (AskBody ask marked) = None
freeze_in (TellBody tell) = None
freeze_in (CopyBody ask) = None
freeze_in (TokenBody desk) = None

-- the freezes that are on their way to x
abbrev pub freezes_to : ScriptData → World → ℕ → ℕ → List Notice
freezes_to script w s x = gather_below script.nodes (λ p. filter_map (in_set s freeze_in) (w.mail p x))

-- the account of node x at this moment, with the desk at this place
abbrev pub account_of : ScriptData → Moment → World → ℕ → Option ℕ → Desk → ℕ → Account
account_of script moment w s place desk x = record {
  clock = (w.node x).clock;
  held = (state_at w s x).held;
  charge = (state_at w s x).charge;
  pending = (state_at w s x).pending;
  entry = entry_of desk x;
  tells = tells_of script w s x;
  copies = copies_to script w s x;
  here = is_at place x;
  moving = is_moving moment x;
}

-- what node x is told of frozen modes
abbrev pub news_of : ScriptData → Moment → World → ℕ → Option ℕ → Desk → ℕ → News
news_of script moment w s place desk x = record {
  number = (state_at w s x).number;
  frozen = (state_at w s x).frozen;
  coming = freezes_to script w s x;
  recorded = record_of (entry_of desk x);
  told = (entry_of desk x).frozen_told;
  last = desk.number;
  wanted = frozen_by desk.queue;
  here = is_at place x;
  serving = is_serving moment place;
}

-- What is gathered for a node is what is on its way, as statements.

-- the tells of a node are in letters on their way between nodes of the script, or parked at one
abbrev pub TellsAreOnWay : Type 0
TellsAreOnWay = (script : ScriptData) (w : World) (s x : ℕ) (tell : Tell) → Contains (tells_of script w s x) tell ↔ IsTellOf script w s x tell

abbrev pub CopiesAreOnWay : Type 0
CopiesAreOnWay = (script : ScriptData) (w : World) (s x : ℕ) (ask : Ask) → Contains (copies_to script w s x) ask ↔ IsCopyTo script w s x ask

abbrev pub FreezesAreOnWay : Type 0
FreezesAreOnWay = (script : ScriptData) (w : World) (s x : ℕ) (notice : Notice)
    → Contains (freezes_to script w s x) notice ↔ Comes script w s x (FreezeBody notice.number notice.modes)
