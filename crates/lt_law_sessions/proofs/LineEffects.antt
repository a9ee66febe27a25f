-- Which lines give a lock, and which take it away.
use Rattle.std.proofs.Common.{◌≡◌, ◌≤◌, ◌+◌, ◌-◌, ℕ, Bool, true, false, Option, Some, None, refl, sym, ap, ◌∙◌, arith, if◌then◌else◌, inl, inr, ◌≢◌, ◌<◌, zero, suc, List, [], ◌∷◌, subst, slice_get, ◌&&◌, not, fold, eq-eqb}
use Rattle.std.proofs.lemmas.Bool.{false≢true, cases_eq}
use Rattle.std.proofs.lemmas.Option.{same_Some}
use Rattle.lt_modes.specs.declared.command.Command.{Command}
use Rattle.lt_modes.specs.declared.command.Command.TheVariants as c
use Rattle.lt_modes.specs.declared.event.Event.{Event}
use Rattle.lt_modes.specs.declared.event.Event.TheVariants.{Grant, Wait, Try, Unlock, NotHeld, Change, DropAll, Busy, Withdraw, Withdrawn, Void, Withheld, Copy, Freeze, Token}
use Rattle.lt_modes.specs.Script.{ScriptData}
use Rattle.lt_spec.specs.Holdings.{Holding, holding, same_holding, is_dropped}
use Rattle.lt_spec.specs.Script.{AnswersCommand}
use Rattle.lt_spec.specs.World.{is_reply_to, replies_of}
use Rattle.lt_law_lines.proofs.LineCounts.{count_after}
use Rattle.lt_live.specs.declared.reply.Reply.{Reply}
use Rattle.lt_live.specs.declared.reply.Reply.TheVariants as r
use Rattle.lt_live.specs.Seats.{told_if, reply_to}
use Rattle.lt_law_sessions.specs.SessionLaws.{may_take_away, leaves_locks, took_away, gives}

-- the line takes the lock away, or may
abbrev pub takes : ScriptData → Holding → Event → Bool
takes script lock (Unlock client set mode) = same_holding lock (holding client set mode)
takes script lock (Change client set gives_up mode) = same_holding lock (holding client set gives_up)
takes script lock (DropAll client other set count) = is_dropped script other set lock
takes script lock line = false

-- the line gives the lock
abbrev pub line_gives : Holding → Event → Bool
line_gives lock (Grant client set mode) = same_holding lock (holding client set mode)
line_gives lock (Try client set mode got) = got && same_holding lock (holding client set mode)
line_gives lock (Change client set gives_up mode) = same_holding lock (holding client set mode)
line_gives lock line = false

-- a lock that is held stays held after a line that doesn't take it
pub stays : (script : ScriptData) (lock : Holding) (n : ℕ) (line : Event) → 1 ≤ n → takes script lock line ≡ false → 1 ≤ count_after script lock n line
stays script lock n (Grant client set mode) some e = by_test (same_holding lock (holding client set mode))
  where
    by_test : (same : Bool) → 1 ≤ (if same then n + 1 else n)
    by_test true = omega (arith, some)
    by_test false = some
stays script lock n (Try client set mode got) some e = by_tests got (same_holding lock (holding client set mode))
  where
    by_tests : (got same : Bool) → 1 ≤ (if got then (if same then n + 1 else n) else n)
    by_tests true true = omega (arith, some)
    by_tests true false = some
    by_tests false same = some
stays script lock n (Unlock client set mode) some e = by_test (same_holding lock (holding client set mode)) e
  where
    by_test : (same : Bool) → same ≡ false → 1 ≤ (if same then n - 1 else n)
    by_test true barred = absurd (false≢true (sym barred))
    by_test false barred = some
stays script lock n (Change client set gives_up mode) some e = by_tests (same_holding lock (holding client set mode)) (same_holding lock (holding client set gives_up)) e
  where
    by_tests : (new old : Bool) → old ≡ false → 1 ≤ (if new then (if old then n - 1 else n) + 1 else (if old then n - 1 else n))
    by_tests new true barred = absurd (false≢true (sym barred))
    by_tests true false barred = omega (arith, some)
    by_tests false false barred = some
stays script lock n (DropAll client other set count) some e = by_test (is_dropped script other set lock) e
  where
    by_test : (own : Bool) → own ≡ false → 1 ≤ (if own then 0 else n)
    by_test true barred = absurd (false≢true (sym barred))
    by_test false barred = some
stays script lock n (Wait client set mode) some e = some
stays script lock n (NotHeld client set mode) some e = some
stays script lock n (Busy client other set) some e = some
stays script lock n (Withdraw client other set got) some e = some
stays script lock n (Withdrawn client set mode) some e = some
stays script lock n (Void client set mode) some e = some
stays script lock n (Withheld client set mode) some e = some
stays script lock n (Copy set to client mode) some e = some
stays script lock n (Freeze set to number modes) some e = some
stays script lock n (Token set to epoch) some e = some

-- after a line that gives it the lock is held
pub given : (script : ScriptData) (lock : Holding) (n : ℕ) (line : Event) → line_gives lock line ≡ true → 1 ≤ count_after script lock n line
given script lock n (Grant client set mode) e = by_test (same_holding lock (holding client set mode)) e
  where
    by_test : (same : Bool) → same ≡ true → 1 ≤ (if same then n + 1 else n)
    by_test true holds = omega arith
    by_test false holds = absurd (false≢true holds)
given script lock n (Try client set mode got) e = by_tests got (same_holding lock (holding client set mode)) e
  where
    by_tests : (got same : Bool) → (got && same) ≡ true → 1 ≤ (if got then (if same then n + 1 else n) else n)
    by_tests true true holds = omega arith
    by_tests true false holds = absurd (false≢true holds)
    by_tests false same holds = absurd (false≢true holds)
given script lock n (Change client set gives_up mode) e = by_tests (same_holding lock (holding client set mode)) (same_holding lock (holding client set gives_up)) e
  where
    by_tests : (new old : Bool) → new ≡ true → 1 ≤ (if new then (if old then n - 1 else n) + 1 else (if old then n - 1 else n))
    by_tests true old holds = omega arith
    by_tests false old holds = absurd (false≢true holds)
given script lock n (Unlock client set mode) e = absurd (false≢true e)
given script lock n (DropAll client other set count) e = absurd (false≢true e)
given script lock n (Wait client set mode) e = absurd (false≢true e)
given script lock n (NotHeld client set mode) e = absurd (false≢true e)
given script lock n (Busy client other set) e = absurd (false≢true e)
given script lock n (Withdraw client other set got) e = absurd (false≢true e)
given script lock n (Withdrawn client set mode) e = absurd (false≢true e)
given script lock n (Void client set mode) e = absurd (false≢true e)
given script lock n (Withheld client set mode) e = absurd (false≢true e)
given script lock n (Copy set to client mode) e = absurd (false≢true e)
given script lock n (Freeze set to number modes) e = absurd (false≢true e)
given script lock n (Token set to epoch) e = absurd (false≢true e)

-- the answer to a command that may not take the lock doesn't take it
pub not_taken : (script : ScriptData) (client : ℕ) (lock : Holding) (command : Command) (line : Event) → AnswersCommand client command line
    → may_take_away script client lock command ≡ false → takes script lock line ≡ false
not_taken script client lock (c.Lock set mode) line (inl is) barred = ap (takes script lock) is
not_taken script client lock (c.Lock set mode) line (inr (inl is)) barred = ap (takes script lock) is
not_taken script client lock (c.Lock set mode) line (inr (inr is)) barred = ap (takes script lock) is
not_taken script client lock (c.Try set mode) line is barred = ap (takes script lock) is.1
not_taken script client lock (c.Unlock set mode) line (inl is) barred = ap (takes script lock) is ∙ barred
not_taken script client lock (c.Unlock set mode) line (inr is) barred = ap (takes script lock) is
not_taken script client lock (c.Change set gives_up mode) line (inl is) barred = ap (takes script lock) is ∙ barred
not_taken script client lock (c.Change set gives_up mode) line (inr (inl is)) barred = ap (takes script lock) is
not_taken script client lock (c.Change set gives_up mode) line (inr (inr (inl is))) barred = ap (takes script lock) is
not_taken script client lock (c.Change set gives_up mode) line (inr (inr (inr is))) barred = ap (takes script lock) is
not_taken script client lock (c.DropAll other set) line (inl is) barred = ap (takes script lock) is.1 ∙ barred
not_taken script client lock (c.DropAll other set) line (inr is) barred = ap (takes script lock) is
not_taken script client lock (c.Withdraw other set) line is barred = ap (takes script lock) is.1

-- what a line of the client's own says to it
own_word : (client : ℕ) (reply : Reply) → told_if client client reply ≡ Some reply
own_word client reply = ap (λ (b : Bool). if b then Some reply else None) (eq-eqb client client refl)

some_is : (x y : Reply) → Some x ≡ Some y → x ≡ y
some_is x y e = ap (λ (o : Option Reply). or_else o) e
  where
    or_else : Option Reply → Reply
    or_else None = x
    or_else (Some z) = z

-- what another reply says isn't said
no_word : {A : Type 0} (client : ℕ) (lock : Holding) (command : Command) (line : Event) (told reply : Reply) → reply_to client line ≡ Some told
    → reply_to client line ≡ Some reply → gives client lock command reply ≡ true → gives client lock command told ≡ false → A
no_word client lock command line told reply is said holds none =
    absurd (false≢true (sym none ∙ (ap (gives client lock command) (some_is told reply (sym is ∙ said)) ∙ holds)))

-- the line with which a command is answered doesn't take the lock either where its reply says that it left all locks
pub not_taken_by : (script : ScriptData) (client : ℕ) (lock : Holding) (command : Command) (line : Event) (reply : Reply) → AnswersCommand client command line
    → reply_to client line ≡ Some reply → took_away script client lock command reply ≡ false → takes script lock line ≡ false
not_taken_by script client lock command line reply is said barred = by_command command is barred
  where
    -- another reply may be one to a command that takes the lock
    alone : (asked : Command) (told : Reply) → reply_to client line ≡ Some told → leaves_locks told ≡ false → took_away script client lock asked reply ≡ false
        → may_take_away script client lock asked ≡ false
    alone asked told there none free =
        sym (ap (λ (b : Bool). not b && may_take_away script client lock asked) none)
        ∙ (ap (λ (word : Reply). took_away script client lock asked word) (some_is told reply (sym there ∙ said)) ∙ free)

    by_command : (asked : Command) → AnswersCommand client asked line → took_away script client lock asked reply ≡ false → takes script lock line ≡ false
    by_command (c.Lock set mode) answers free = not_taken script client lock (c.Lock set mode) line answers refl
    by_command (c.Try set mode) answers free = not_taken script client lock (c.Try set mode) line answers refl
    by_command (c.Unlock set mode) (inl answers) free = ap (takes script lock) answers
        ∙ alone (c.Unlock set mode) r.Unlocked (ap (reply_to client) answers ∙ own_word client r.Unlocked) refl free
    by_command (c.Unlock set mode) (inr answers) free = ap (takes script lock) answers
    by_command (c.Change set gives_up mode) (inl answers) free = ap (takes script lock) answers
        ∙ alone (c.Change set gives_up mode) r.Changed (ap (reply_to client) answers ∙ own_word client r.Changed) refl free
    by_command (c.Change set gives_up mode) (inr (inl answers)) free = ap (takes script lock) answers
    by_command (c.Change set gives_up mode) (inr (inr (inl answers))) free = ap (takes script lock) answers
    by_command (c.Change set gives_up mode) (inr (inr (inr answers))) free = ap (takes script lock) answers
    by_command (c.DropAll other set) (inl answers) free = ap (takes script lock) answers.1
        ∙ alone (c.DropAll other set) (r.Dropped answers.0) (ap (reply_to client) answers.1 ∙ own_word client (r.Dropped answers.0)) refl free
    by_command (c.DropAll other set) (inr answers) free = ap (takes script lock) answers
    by_command (c.Withdraw other set) answers free = not_taken script client lock (c.Withdraw other set) line answers refl

-- the line with which a command is answered gives the lock, where its reply says so
pub line_given : (client : ℕ) (lock : Holding) (command : Command) (line : Event) (reply : Reply) → AnswersCommand client command line
    → reply_to client line ≡ Some reply → gives client lock command reply ≡ true → line_gives lock line ≡ true
line_given client lock (c.Lock set mode) line reply (inl is) said holds =
    let word : r.Granted ≡ reply = some_is r.Granted reply (sym (ap (reply_to client) is ∙ own_word client r.Granted) ∙ said) in
    ap (line_gives lock) is ∙ (ap (gives client lock (c.Lock set mode)) word ∙ holds)
line_given client lock (c.Lock set mode) line reply (inr (inl is)) said holds =
    no_word client lock (c.Lock set mode) line r.Withdrawn reply (ap (reply_to client) is ∙ own_word client r.Withdrawn) said holds refl
line_given client lock (c.Lock set mode) line reply (inr (inr is)) said holds =
    no_word client lock (c.Lock set mode) line r.Withheld reply (ap (reply_to client) is ∙ own_word client r.Withheld) said holds refl
line_given client lock (c.Try set mode) line reply (true, is) said holds =
    let word : r.True ≡ reply = some_is r.True reply (sym (ap (reply_to client) is ∙ own_word client r.True) ∙ said) in
    ap (line_gives lock) is ∙ (ap (gives client lock (c.Try set mode)) word ∙ holds)
line_given client lock (c.Try set mode) line reply (false, is) said holds =
    no_word client lock (c.Try set mode) line r.False reply (ap (reply_to client) is ∙ own_word client r.False) said holds refl
line_given client lock (c.Unlock set mode) line reply is said holds = absurd (false≢true holds)
line_given client lock (c.Change set gives_up mode) line reply (inl is) said holds =
    let word : r.Changed ≡ reply = some_is r.Changed reply (sym (ap (reply_to client) is ∙ own_word client r.Changed) ∙ said) in
    ap (line_gives lock) is ∙ (ap (gives client lock (c.Change set gives_up mode)) word ∙ holds)
line_given client lock (c.Change set gives_up mode) line reply (inr (inl is)) said holds =
    no_word client lock (c.Change set gives_up mode) line r.NotHeld reply (ap (reply_to client) is ∙ own_word client r.NotHeld) said holds refl
line_given client lock (c.Change set gives_up mode) line reply (inr (inr (inl is))) said holds =
    no_word client lock (c.Change set gives_up mode) line r.Withdrawn reply (ap (reply_to client) is ∙ own_word client r.Withdrawn) said holds refl
line_given client lock (c.Change set gives_up mode) line reply (inr (inr (inr is))) said holds =
    no_word client lock (c.Change set gives_up mode) line r.Withheld reply (ap (reply_to client) is ∙ own_word client r.Withheld) said holds refl
line_given client lock (c.DropAll other set) line reply is said holds = absurd (false≢true holds)
line_given client lock (c.Withdraw other set) line reply is said holds = absurd (false≢true holds)

-- A lock that a reply gave stays held while no line takes it.

-- no reply to the client takes the lock
abbrev pub NoReplyTakes : ScriptData → Holding → ℕ → List Event → Type 0
NoReplyTakes script lock client lines = (q : ℕ) (line : Event) → slice_get (replies_of client lines) q ≡ Some line → takes script lock line ≡ false

-- none after this place does
abbrev pub NoneTakesAfter : ScriptData → Holding → ℕ → List Event → ℕ → Type 0
NoneTakesAfter script lock client lines place =
    (q : ℕ) (line : Event) → place < q → slice_get (replies_of client lines) q ≡ Some line → takes script lock line ≡ false

-- the first line's client, where it is a reply
first_reply : (client : ℕ) (line : Event) (rest : List Event) → is_reply_to client line ≡ true → slice_get (replies_of client (line ∷ rest)) 0 ≡ Some line
first_reply client line rest e = ap (λ (b : Bool). slice_get (if b then line ∷ replies_of client rest else replies_of client rest) 0) e

-- a later reply stands at a place among all
later_reply : (client : ℕ) (line : Event) (rest : List Event) (q : ℕ) (found : Event) → slice_get (replies_of client rest) q ≡ Some found
    → (p : ℕ) × (q ≤ p) × (slice_get (replies_of client (line ∷ rest)) p ≡ Some found)
later_reply client line rest q found e = by_test (is_reply_to client line) refl
  where
    by_test : (b : Bool) → is_reply_to client line ≡ b → (p : ℕ) × (q ≤ p) × (slice_get (replies_of client (line ∷ rest)) p ≡ Some found)
    by_test true is = (suc q, omega arith, ap (λ (b : Bool). slice_get (if b then line ∷ replies_of client rest else replies_of client rest) (suc q)) is ∙ e)
    by_test false is = (q, omega arith, ap (λ (b : Bool). slice_get (if b then line ∷ replies_of client rest else replies_of client rest) q) is ∙ e)

-- a line takes no lock where no reply to anyone does: what takes one is a reply
first_takes_not : (script : ScriptData) (lock : Holding) (line : Event) (rest : List Event) → ((client : ℕ) → NoReplyTakes script lock client (line ∷ rest))
    → takes script lock line ≡ false
first_takes_not script lock (Unlock client set mode) rest none = none client 0 (Unlock client set mode) (first_reply client (Unlock client set mode) rest (eq-eqb client client refl))
first_takes_not script lock (Change client set gives_up mode) rest none =
    none client 0 (Change client set gives_up mode) (first_reply client (Change client set gives_up mode) rest (eq-eqb client client refl))
first_takes_not script lock (DropAll client other set count) rest none =
    none client 0 (DropAll client other set count) (first_reply client (DropAll client other set count) rest (eq-eqb client client refl))
first_takes_not script lock (Grant client set mode) rest none = refl
first_takes_not script lock (Wait client set mode) rest none = refl
first_takes_not script lock (Try client set mode got) rest none = refl
first_takes_not script lock (NotHeld client set mode) rest none = refl
first_takes_not script lock (Busy client other set) rest none = refl
first_takes_not script lock (Withdraw client other set got) rest none = refl
first_takes_not script lock (Withdrawn client set mode) rest none = refl
first_takes_not script lock (Void client set mode) rest none = refl
first_takes_not script lock (Withheld client set mode) rest none = refl
first_takes_not script lock (Copy set to client mode) rest none = refl
first_takes_not script lock (Freeze set to number modes) rest none = refl
first_takes_not script lock (Token set to epoch) rest none = refl

rest_takes_not : (script : ScriptData) (lock : Holding) (line : Event) (rest : List Event) (client : ℕ) → NoReplyTakes script lock client (line ∷ rest)
    → NoReplyTakes script lock client rest
rest_takes_not script lock line rest client none q found e =
    let at = later_reply client line rest q found e in none at.0 found at.2

-- what is held stays held while no reply takes it
pub stays_held : (script : ScriptData) (lock : Holding) (n : ℕ) (lines : List Event) → 1 ≤ n → ((client : ℕ) → NoReplyTakes script lock client lines)
    → 1 ≤ fold (count_after script lock) n lines
stays_held script lock n [] some none = some
stays_held script lock n (line ∷ rest) some none =
    stays_held script lock (count_after script lock n line) rest
    (stays script lock n line some (first_takes_not script lock line rest none))
    (λ client. rest_takes_not script lock line rest client (none client))

-- what a reply gave is held after all lines, where no later reply to the client takes it, and no reply to another
pub held_after : (script : ScriptData) (lock : Holding) (client : ℕ) (lines : List Event) (place n : ℕ) (line : Event)
    → slice_get (replies_of client lines) place ≡ Some line → line_gives lock line ≡ true
    → NoneTakesAfter script lock client lines place
    → ((other : ℕ) → other ≢ client → NoReplyTakes script lock other lines)
    → 1 ≤ fold (count_after script lock) n lines
held_after script lock client [] zero n line at gives own others = absurd (cc)
held_after script lock client [] (suc place) n line at gives own others = absurd (cc)
held_after script lock client (first ∷ rest) place n line at gives own others =
    by_test (is_reply_to client first) refl
    (λ p at_p own_p. held_after script lock client rest p (count_after script lock n first) line at_p gives own_p later)
  where
    m : ℕ
    m = count_after script lock n first

    later : (other : ℕ) → other ≢ client → NoReplyTakes script lock other rest
    later other apart = rest_takes_not script lock first rest other (others other apart)

    among : (b : Bool) → is_reply_to client first ≡ b → (q : ℕ) → slice_get (replies_of client (first ∷ rest)) q ≡ slice_get (if b then first ∷ replies_of client rest else replies_of client rest) q
    among b is q = ap (λ (c : Bool). slice_get (if c then first ∷ replies_of client rest else replies_of client rest) q) is

    by_place : (p : ℕ) → place ≡ p → is_reply_to client first ≡ true
        → ((p : ℕ) → slice_get (replies_of client rest) p ≡ Some line → NoneTakesAfter script lock client rest p → 1 ≤ fold (count_after script lock) m rest)
        → 1 ≤ fold (count_after script lock) m rest
    by_place zero is own_line again =
        let here : Some first ≡ Some line = sym (among true own_line 0) ∙ (ap (λ q. slice_get (replies_of client (first ∷ rest)) q) (sym is) ∙ at) in
        let same : first ≡ line = same_Some first line here in
        stays_held script lock m rest (given script lock n first (ap (line_gives lock) same ∙ gives))
        (λ other. elim (cases_eq other client) [
          | inl one ↦ subst (λ (j : ℕ). NoReplyTakes script lock j rest) (sym one)
              (λ q found e. own (suc q) found (omega (arith, is)) (among true own_line (suc q) ∙ e))
          | inr apart ↦ later other apart
        ])
    by_place (suc p) is own_line again =
        again p (sym (among true own_line (suc p)) ∙ (ap (λ q. slice_get (replies_of client (first ∷ rest)) q) (sym is) ∙ at))
        (λ q found past e. own (suc q) found (omega (arith, is, past)) (among true own_line (suc q) ∙ e))

    by_test : (b : Bool) → is_reply_to client first ≡ b
        → ((p : ℕ) → slice_get (replies_of client rest) p ≡ Some line → NoneTakesAfter script lock client rest p → 1 ≤ fold (count_after script lock) m rest)
        → 1 ≤ fold (count_after script lock) m rest
    by_test true own_line again = by_place place refl own_line again
    by_test false not_own again =
        again place (sym (among false not_own place) ∙ at) (λ q found past e. own q found past (among false not_own q ∙ e))
