-- What rules of a node do to news, as statements.
use Rattle.std.specs.Prelude.{◌≡◌, ◌≢◌, ◌⊎◌, ◌<◌, Bool, true, false, ℕ, List, Some, IsTrue, IsFalse, length}
use Rattle.lt_modes.specs.declared.stamp.Stamp.{Stamp}
use Rattle.lt_modes.specs.Modes.{Modes, has_none, same_modes}
use Rattle.lt_modes.specs.State.{SetState, Desk, Entry, entry_of, record_of}
use Rattle.lt_modes.specs.Freezing.{map_from, frozen_by, is_target, targets, number_after, frozen_entry, freeze_at}
use Rattle.lt_modes.specs.HandingOver.{settled, leaving, without_desk}
use Rattle.lt_modes.specs.Taking.{take_freeze, take_token}
use Rattle.lt_law_accounts.specs.News.{News, Notice, sending, sparing, keeping, taking, news_leaving as leaving_news, arriving}

-- the news of a node that keeps this for the set, with this entry in the desk
abbrev pub news_with : SetState → List Notice → Entry → Desk → Bool → Bool → News
news_with s coming entry desk here serving = record {
  number = s.number;
  frozen = s.frozen;
  coming = coming;
  recorded = record_of entry;
  told = entry.frozen_told;
  last = desk.number;
  wanted = frozen_by desk.queue;
  here = here;
  serving = serving;
}

-- the number of the freeze by node `me`
abbrev pub number_by : ℕ → Desk → ℕ
number_by me desk = number_after (targets me (frozen_by desk.queue) desk) desk.number

-- the desk once its node has frozen
abbrev pub frozen_desk : ℕ → Desk → Desk
frozen_desk me desk = record desk {
  number = number_by me desk;
  entries = map_from (frozen_entry me (frozen_by desk.queue)) 0 desk.entries;
}

-- freezing: the desk's node keeps the frozen modes, targets are sent them, and all others are spared
pub record FreezingIsSteps : Type 0 where
  pub desk : (set : ℕ) (stamp : Stamp) (s : SetState) (desk : Desk)
      → (freeze_at set stamp s (Some desk)).state.desk ≡ Some (frozen_desk stamp.node desk)
  pub keeps : (set : ℕ) (stamp : Stamp) (s : SetState) (desk : Desk) (coming : List Notice) → stamp.node < length desk.entries
      → news_with (freeze_at set stamp s (Some desk)).state coming (entry_of (frozen_desk stamp.node desk) stamp.node) (frozen_desk stamp.node desk) true false
      ≡ keeping (number_by stamp.node desk) (news_with s coming (entry_of desk stamp.node) desk true true)
  pub sends : (me x : ℕ) (s : SetState) (desk : Desk) (former coming : List Notice) → x < length desk.entries
      → IsTrue (is_target me (frozen_by desk.queue) x (entry_of desk x))
      → news_with s coming (entry_of (frozen_desk me desk) x) (frozen_desk me desk) false false
      ≡ sending coming (news_with s former (entry_of desk x) desk false true)
  pub spares : (me x : ℕ) (s : SetState) (desk : Desk) (coming : List Notice) → x < length desk.entries → x ≢ me
      → IsFalse (is_target me (frozen_by desk.queue) x (entry_of desk x))
      → news_with s coming (entry_of (frozen_desk me desk) x) (frozen_desk me desk) false false
      ≡ sparing (number_by me desk) (news_with s coming (entry_of desk x) desk false true)
  pub knows : (me x : ℕ) (desk : Desk) → x ≢ me → IsFalse (is_target me (frozen_by desk.queue) x (entry_of desk x))
      → IsTrue (has_none (record_of (entry_of desk x))) ⊎ IsTrue (same_modes (entry_of desk x).frozen_told (frozen_by desk.queue))

-- a freeze that comes is taken
abbrev pub FreezesAreTaken : Type 0
FreezesAreTaken = (number : ℕ) (modes : Modes) (s : SetState) (former coming : List Notice) (entry : Entry) (desk : Desk) (here serving : Bool)
    → news_with (take_freeze number modes s) coming entry desk here serving
    ≡ taking (record { number = number; modes = modes }) coming (news_with s former entry desk here serving)

-- the desk leaves with the settled entry, and comes
pub record DesksComeAndGo : Type 0 where
  pub leaves : (v epoch : ℕ) (stamp : Stamp) (s : SetState) (desk : Desk) (coming : List Notice) → stamp.node < length desk.entries
      → news_with (without_desk s v epoch) coming (entry_of (leaving stamp s desk) stamp.node) (leaving stamp s desk) false false
      ≡ leaving_news (record_of (settled stamp s (entry_of desk stamp.node))) (news_with s coming (entry_of desk stamp.node) desk true false)
  pub arrives : (me : ℕ) (s : SetState) (desk : Desk) (coming : List Notice) (entry : Entry) (serving : Bool)
      → news_with (take_token me desk s) coming entry desk true true ≡ arriving (news_with s coming entry desk false serving)
