-- Accounts and news of a later world, by what is seen of their nodes.
use Rattle.std.proofs.Common.{◌≡◌, ℕ, ◌<◌, List, Option, Some, Bool, refl, sym, ap, subst, ◌∙◌, ◌≢◌, [], ◌∷◌, None, eq-eqb, filter_map}
use Rattle.std.specs.List.{AllByRecursion}
use Rattle.lt_modes.specs.declared.ask.Ask.{Ask}
use Rattle.lt_modes.specs.Script.{ScriptData}
use Rattle.lt_modes.specs.State.{SetState, Desk, Entry, Tell, Made, entry_of, record_of, Body, Post}
use Rattle.lt_modes.specs.Freezing.{frozen_by}
use Rattle.lt_spec.specs.World.{World}
use Rattle.lt_spec.specs.Facts.{state_at}
use Rattle.lt_law_accounts.specs.AccountPlay.{AllKept, AccountStep, MayStep, after_step, others_counted}
use Rattle.lt_law_accounts.specs.News.{NewsKept, Notice, changing}
use Rattle.lt_law_accounts.proofs.NewsLemmas.{changes_kept}
use Rattle.lt_law_accounts.proofs.AccountPlay.{same_kept, one_changes}
use Rattle.lt_model.specs.OnWay.{Moment, Acting, is_at, is_moving, is_serving, tells_of, copies_to, freezes_to, account_of, news_of, tell_in, tell_parked, copy_in, freeze_in}
use Rattle.lt_model.specs.AccountRules.{account_with}
use Rattle.lt_model.specs.NewsRules.{news_with}
use Rattle.lt_model.specs.Invariant.{DeskKept}
use Rattle.lt_model.proofs.StandingBegins.{tells_alike}
use Rattle.lt_law_invariant.specs.InvariantLaws.{after_effect}
use Rattle.lt_law_invariant.proofs.AfterEffect.{part_stays, SaysNone, says_none, read_stays, state_here, state_there, clock_stays, copies_stay, freezes_stay}

-- the accounts of a ledger are kept
pub all_kept : (script : ScriptData) (moment : Moment) (w : World) (s : ℕ) (place : Option ℕ) (desk : Desk) → DeskKept script moment w s place desk
    → AllKept script.nodes (account_of script moment w s place desk)
all_kept script moment w s place desk h = record { kept = h.accounts; clear = h.clear }

-- and a ledger is kept by its accounts and its news
pub kept_by : (script : ScriptData) (moment : Moment) (w : World) (s : ℕ) (place : Option ℕ) (desk : Desk)
    → AllKept script.nodes (account_of script moment w s place desk)
    → ((x : ℕ) → x < script.nodes → NewsKept (news_of script moment w s place desk x))
    → DeskKept script moment w s place desk
kept_by script moment w s place desk h news = record { accounts = h.kept; clear = h.clear; news = news }

-- rows, charge and unanswered asks are the same
pub record SameOwn (t u : SetState) : Type 0 where
  pub held : u.held ≡ t.held
  pub charge : u.charge ≡ t.charge
  pub pending : u.pending ≡ t.pending

pub own_as : (t u : SetState) → u ≡ t → SameOwn t u
own_as t u e = record { held = ap (λ (v : SetState). v.held) e; charge = ap (λ (v : SetState). v.charge) e; pending = ap (λ (v : SetState). v.pending) e }

pub own_then : (t u v : SetState) → SameOwn t u → SameOwn u v → SameOwn t v
own_then t u v first second = record { held = second.held ∙ first.held; charge = second.charge ∙ first.charge; pending = second.pending ∙ first.pending }

pub own_stays : (w : World) (q s : ℕ) (m : Made) (x : ℕ) → SameOwn (state_at w s q) m.state
    → SameOwn (state_at w s x) (state_at (after_effect w q s m) s x)
own_stays w q s m x same = record {
  held = part_stays (λ t. t.held) w q s m same.held x;
  charge = part_stays (λ t. t.charge) w q s m same.charge x;
  pending = part_stays (λ t. t.pending) w q s m same.pending x;
}

-- what a node keeps of freezes is the same
pub record SameFrozen (t u : SetState) : Type 0 where
  pub number : u.number ≡ t.number
  pub frozen : u.frozen ≡ t.frozen

pub frozen_as : (t u : SetState) → u ≡ t → SameFrozen t u
frozen_as t u e = record { number = ap (λ (v : SetState). v.number) e; frozen = ap (λ (v : SetState). v.frozen) e }

pub frozen_then : (t u v : SetState) → SameFrozen t u → SameFrozen u v → SameFrozen t v
frozen_then t u v first second = record { number = second.number ∙ first.number; frozen = second.frozen ∙ first.frozen }

pub frozen_stays : (w : World) (q s : ℕ) (m : Made) (x : ℕ) → SameFrozen (state_at w s q) m.state
    → SameFrozen (state_at w s x) (state_at (after_effect w q s m) s x)
frozen_stays w q s m x same =
    record { number = part_stays (λ t. t.number) w q s m same.number x; frozen = part_stays (λ t. t.frozen) w q s m same.frozen x }

-- the clock of node x, and what is on its way from it and to it, are as they were
pub record SameHeard (script : ScriptData) (w later : World) (s x : ℕ) : Type 0 where
  pub clock : (later.node x).clock ≡ (w.node x).clock
  pub tells : tells_of script later s x ≡ tells_of script w s x
  pub copies : copies_to script later s x ≡ copies_to script w s x
  pub freezes : freezes_to script later s x ≡ freezes_to script w s x

pub heard_then : (script : ScriptData) (w base later : World) (s x : ℕ) → SameHeard script w base s x → SameHeard script base later s x
    → SameHeard script w later s x
heard_then script w base later s x first second = record {
  clock = second.clock ∙ first.clock;
  tells = second.tells ∙ first.tells;
  copies = second.copies ∙ first.copies;
  freezes = second.freezes ∙ first.freezes;
}

-- and so is what it keeps for itself
pub record SameSeen (script : ScriptData) (w later : World) (s x : ℕ) : Type 0 where
  pub heard : SameHeard script w later s x
  pub own : SameOwn (state_at w s x) (state_at later s x)

-- the account by what was heard before
pub account_heard : (script : ScriptData) (moment : Moment) (w later : World) (s : ℕ) (place : Option ℕ) (desk : Desk) (x : ℕ)
    → SameHeard script w later s x
    → account_of script moment later s place desk x
    ≡ account_with (w.node x).clock (is_at place x) (is_moving moment x) (entry_of desk x) (state_at later s x) (tells_of script w s x) (copies_to script w s x)
account_heard script moment w later s place desk x same =
    λ i. account_with (same.clock i) (is_at place x) (is_moving moment x) (entry_of desk x) (state_at later s x) (same.tells i) (same.copies i)

-- accounts by states that keep the same for themselves
pub account_as : (clock : ℕ) (here moving : Bool) (entry : Entry) (tells : List Tell) (copies : List Ask) (t u : SetState) → SameOwn t u
    → account_with clock here moving entry u tells copies ≡ account_with clock here moving entry t tells copies
account_as clock here moving entry tells copies t u same = λ i. record {
  clock = clock;
  held = same.held i;
  charge = same.charge i;
  pending = same.pending i;
  entry = entry;
  tells = tells;
  copies = copies;
  here = here;
  moving = moving;
}

-- the account of a node that is seen as before, with the same entry
pub account_seen : (script : ScriptData) (moment former : Moment) (w later : World) (s : ℕ) (place before : Option ℕ) (desk old : Desk) (x : ℕ)
    → SameSeen script w later s x
    → entry_of desk x ≡ entry_of old x → is_at place x ≡ is_at before x → is_moving moment x ≡ is_moving former x
    → account_of script moment later s place desk x ≡ account_of script former w s before old x
account_seen script moment former w later s place before desk old x seen entry here moving =
    account_heard script moment w later s place desk x seen.heard
    ∙ account_as (w.node x).clock (is_at place x) (is_moving moment x) (entry_of desk x) (tells_of script w s x) (copies_to script w s x) (state_at w s x) (state_at later s x) seen.own
    ∙ λ i. account_with (w.node x).clock (here i) (moving i) (entry i) (state_at w s x) (tells_of script w s x) (copies_to script w s x)

-- news of states that keep the same of freezes
pub news_as : (coming : List Notice) (entry : Entry) (desk : Desk) (here serving : Bool) (t u : SetState) → SameFrozen t u
    → news_with u coming entry desk here serving ≡ news_with t coming entry desk here serving
news_as coming entry desk here serving t u same = λ i. record {
  number = same.number i;
  frozen = same.frozen i;
  coming = coming;
  recorded = record_of entry;
  told = entry.frozen_told;
  last = desk.number;
  wanted = frozen_by desk.queue;
  here = here;
  serving = serving;
}

-- the news by what its node kept of freezes before, and what came to it
pub news_seen : (script : ScriptData) (moment : Moment) (w later : World) (s : ℕ) (place : Option ℕ) (desk : Desk) (x : ℕ)
    → freezes_to script later s x ≡ freezes_to script w s x → SameFrozen (state_at w s x) (state_at later s x)
    → news_of script moment later s place desk x ≡ news_with (state_at w s x) (freezes_to script w s x) (entry_of desk x) desk (is_at place x) (is_serving moment place)
news_seen script moment w later s place desk x coming same =
    ap (λ l. news_with (state_at later s x) l (entry_of desk x) desk (is_at place x) (is_serving moment place)) coming
    ∙ news_as (freezes_to script w s x) (entry_of desk x) desk (is_at place x) (is_serving moment place) (state_at w s x) (state_at later s x) same

-- in the move of the desk's node records and the queue change
pub news_change : (script : ScriptData) (w later : World) (s q : ℕ) (desk old : Desk) (x : ℕ)
    → freezes_to script later s x ≡ freezes_to script w s x → SameFrozen (state_at w s x) (state_at later s x)
    → (entry_of desk x).frozen_told ≡ (entry_of old x).frozen_told → desk.number ≡ old.number
    → NewsKept (news_of script (Acting q) w s (Some q) old x) → NewsKept (news_of script (Acting q) later s (Some q) desk x)
news_change script w later s q desk old x coming same told number h =
    subst NewsKept
    (sym (news_seen script (Acting q) w later s (Some q) desk x coming same
    ∙ λ i. record (changing (record_of (entry_of desk x)) (frozen_by desk.queue) (news_of script (Acting q) w s (Some q) old x)) { told = told i; last = number i }))
    (changes_kept (news_of script (Acting q) w s (Some q) old x) (record_of (entry_of desk x)) (frozen_by desk.queue) h (eq-eqb q q refl))

-- Effects that say no tells, copies or freezes and leave the parked tells: what they do to accounts and news.

-- the letters say no tells, copies or freezes, and the same tells are parked
abbrev pub SaysNothing : Post → Type 0
SaysNothing post = ((x : ℕ) → tell_in x post.letter.body ≡ None) × (copy_in post.letter.body ≡ None) × (freeze_in post.letter.body ≡ None)

pub record QuietMade (t : SetState) (m : Made) : Type 0 where
  pub posts : AllByRecursion SaysNothing m.posts
  pub parked : (x : ℕ) → filter_map (tell_parked x) m.state.parked ≡ filter_map (tell_parked x) t.parked

none_said : {X : Type 0} (s : ℕ) (read : Body → Option X) (b : ℕ) (posts : List Post)
    → ((post : Post) → SaysNothing post → read post.letter.body ≡ None)
    → AllByRecursion SaysNothing posts → AllByRecursion (SaysNone s read b) posts
none_said s read b [] none h = tt
none_said s read b (post ∷ rest) none h = (λ e. says_none s read post.letter (none post h.0), none_said s read b rest none h.1)

-- tells of node x that an effect neither says nor parks nor takes from what is parked
pub tells_stay : (script : ScriptData) (w : World) (q s : ℕ) (m : Made) (x : ℕ) → ((b : ℕ) → AllByRecursion (SaysNone s (tell_in x) b) m.posts)
    → filter_map (tell_parked x) m.state.parked ≡ filter_map (tell_parked x) (state_at w s q).parked
    → tells_of script (after_effect w q s m) s x ≡ tells_of script w s x
tells_stay script w q s m x none parked = tells_alike script w (after_effect w q s m) s x
    (λ a b. read_stays s (tell_in x) q m.posts w.mail a b (none b)) (part_stays (λ t. filter_map (tell_parked x) t.parked) w q s m parked)

pub quiet_heard : (script : ScriptData) (w : World) (q s : ℕ) (m : Made) (x : ℕ) → QuietMade (state_at w s q) m
    → SameHeard script w (after_effect w q s m) s x
quiet_heard script w q s m x quiet = record {
  clock = clock_stays w q s m x;
  tells = tells_stay script w q s m x (λ b. none_said s (tell_in x) b m.posts (λ post none. none.0 x) quiet.posts) (quiet.parked x);
  copies = copies_stay script w q s m x (none_said s copy_in x m.posts (λ post none. none.1) quiet.posts);
  freezes = freezes_stay script w q s m x (none_said s freeze_in x m.posts (λ post none. none.2) quiet.posts);
}

pub quiet_seen : (script : ScriptData) (w : World) (q s : ℕ) (m : Made) (x : ℕ) → x ≢ q → QuietMade (state_at w s q) m
    → SameSeen script w (after_effect w q s m) s x
quiet_seen script w q s m x d quiet = record {
  heard = quiet_heard script w q s m x quiet;
  own = own_as (state_at w s x) (state_at (after_effect w q s m) s x) (state_there w q s m x d);
}

-- the node's own account makes a step that it may; entries stay
pub own_happens : (script : ScriptData) (moment : Moment) (w : World) (q s : ℕ) (m : Made) (place : Option ℕ) (desk old : Desk) (step : AccountStep)
    → QuietMade (state_at w s q) m
    → ((x : ℕ) → entry_of desk x ≡ entry_of old x) → q < script.nodes → AllKept script.nodes (account_of script moment w s place old)
    → MayStep (others_counted script.nodes (account_of script moment w s place old) q) step (account_of script moment w s place old q)
    → account_with (w.node q).clock (is_at place q) (is_moving moment q) (entry_of old q) m.state (tells_of script w s q) (copies_to script w s q)
    ≡ after_step step (account_of script moment w s place old q)
    → AllKept script.nodes (account_of script moment (after_effect w q s m) s place desk)
own_happens script moment w q s m place desk old step quiet entries below h may own =
    one_changes script.nodes (account_of script moment w s place old) (account_of script moment (after_effect w q s m) s place desk) q step h below may
    (λ x under d. account_seen script moment moment w (after_effect w q s m) s place place desk old x (quiet_seen script w q s m x d quiet) (entries x) refl refl)
    (account_heard script moment w (after_effect w q s m) s place desk q (quiet_heard script w q s m q quiet)
    ∙ (λ i. account_with (w.node q).clock (is_at place q) (is_moving moment q) (entries q i) (state_here w q s m i) (tells_of script w s q) (copies_to script w s q)) ∙ own)

-- nothing changes in any account; entries stay
pub accounts_stay : (script : ScriptData) (moment : Moment) (w : World) (q s : ℕ) (m : Made) (place : Option ℕ) (desk old : Desk)
    → QuietMade (state_at w s q) m
    → SameOwn (state_at w s q) m.state → ((x : ℕ) → entry_of desk x ≡ entry_of old x) → AllKept script.nodes (account_of script moment w s place old)
    → AllKept script.nodes (account_of script moment (after_effect w q s m) s place desk)
accounts_stay script moment w q s m place desk old quiet same entries h =
    same_kept script.nodes (account_of script moment w s place old) (account_of script moment (after_effect w q s m) s place desk) h
    (λ x under. account_seen script moment moment w (after_effect w q s m) s place place desk old x
    (record { heard = quiet_heard script w q s m x quiet; own = own_stays w q s m x same }) (entries x) refl refl)

-- with the same desk and nothing of freezes changed the news stay
pub news_stay : (script : ScriptData) (moment : Moment) (w : World) (q s : ℕ) (m : Made) (place : Option ℕ) (desk : Desk) (x : ℕ)
    → QuietMade (state_at w s q) m
    → SameFrozen (state_at w s q) m.state → NewsKept (news_of script moment w s place desk x)
    → NewsKept (news_of script moment (after_effect w q s m) s place desk x)
news_stay script moment w q s m place desk x quiet same h =
    subst NewsKept (sym (news_seen script moment w (after_effect w q s m) s place desk x (quiet_heard script w q s m x quiet).freezes (frozen_stays w q s m x same))) h
