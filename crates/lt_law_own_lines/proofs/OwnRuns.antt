-- The lines of a run are of clients of the nodes that move, and so are replies.
use Rattle.std.proofs.Common.{◌≡◌, ℕ, List, [], ◌∷◌, ◌++◌, Bool, true, false, refl, sym, ap, subst, ◌∙◌, zero, suc, take, ◌==◌, if◌then◌else◌, filter, eq-eqb, eqb-true}
use Rattle.std.specs.List.{AllByRecursion}
use Rattle.std.proofs.lemmas.List.Elements.{All-from_recursion}
use Rattle.lt_modes.specs.declared.event.Event.{Event}
use Rattle.lt_modes.specs.declared.event.Event.TheVariants.{Grant, Wait, Try, Unlock, NotHeld, Change, DropAll, Busy, Copy, Freeze, Token, Withdraw, Withdrawn, Void, Withheld}
use Rattle.lt_modes.specs.Script.{ScriptData}
use Rattle.lt_spec.specs.NodeMove.{home, IsWhole}
use Rattle.lt_spec.specs.Holdings.{lines_of}
use Rattle.lt_spec.specs.World.{Logged, World, start, is_of_node, after, IsRunFrom, IsOwnLine, HasOwnLines, is_reply_to, replies_of}
use Rattle.lt_model.specs.Homes.{Homes}
use Rattle.lt_model.proofs.HomesMove.{homes_kept, homes_start}
use Rattle.lt_law_own_lines.specs.OwnLaws.{OwnLinesInRuns, RepliesAtHome, RepliesOfLog, RepliesSoFar, RepliesGrow}
use Rattle.lt_law_own_lines.proofs.OwnEffects.{own_lines_of_moves}

own_from : (script : ScriptData) (run : List Logged) (w : World) → IsWhole script → Homes script w → IsRunFrom script w run
    → AllByRecursion (HasOwnLines script) run
own_from script [] w whole h is_run = tt
own_from script (entry ∷ rest) w whole h is_run =
    let q = entry.made.stamp.node in
    let step = entry.made.step in (
      subst (λ (lines : List Event). AllByRecursion (IsOwnLine script q) lines) (sym (ap (λ (e : Logged). e.events) is_run.0.made))
          (own_lines_of_moves script w whole h q step is_run.0.enabled),
      own_from script rest (after script w q step) whole (homes_kept script w whole h q step is_run.0.enabled) is_run.1,
    )

pub own_lines_in_runs : OwnLinesInRuns
own_lines_in_runs script run whole is_run =
    All-from_recursion (HasOwnLines script) run (own_from script run (start script) whole (homes_start script) is_run)

pub replies_append : RepliesGrow
replies_append client [] later = refl
replies_append client (line ∷ rest) later = by_test (is_reply_to client line) (replies_append client rest later)
  where
    by_test : (own : Bool) → replies_of client (rest ++ later) ≡ replies_of client rest ++ replies_of client later
        → (if own then line ∷ replies_of client (rest ++ later) else replies_of client (rest ++ later))
        ≡ (if own then line ∷ replies_of client rest else replies_of client rest) ++ replies_of client later
    by_test true e = ap (λ (l : List Event). line ∷ l) e
    by_test false e = e

-- a line of clients of another node isn't a reply
not_reply : (script : ScriptData) (q client : ℕ) (line : Event) → IsOwnLine script q line → (home script client ≡ q → ⊥) → is_reply_to client line ≡ false
not_reply script q client line own away = by_line line own
  where
    not_same : (c : ℕ) → home script c ≡ q → (c == client) ≡ false
    not_same c e = by_test (c == client) refl
      where
        by_test : (same : Bool) → (c == client) ≡ same → same ≡ false
        by_test true f = absurd (away (subst (λ (x : ℕ). home script x ≡ q) (eqb-true c client f) e))
        by_test false f = refl

    by_line : (l : Event) → IsOwnLine script q l → is_reply_to client l ≡ false
    by_line (Grant c s mode) e = not_same c e
    by_line (Wait c s mode) e = refl
    by_line (Try c s mode got) e = not_same c e
    by_line (Unlock c s mode) e = not_same c e
    by_line (NotHeld c s mode) e = not_same c e
    by_line (Change c s gives_up mode) e = not_same c e
    by_line (DropAll c other s count) e = not_same c e
    by_line (Busy c other s) e = not_same c e
    by_line (Withdraw c other s got) e = not_same c e
    by_line (Withdrawn c s mode) e = not_same c e
    by_line (Void c s mode) e = refl
    by_line (Withheld c s mode) e = not_same c e
    by_line (Copy s to c mode) e = refl
    by_line (Freeze s to number modes) e = refl
    by_line (Token s to epoch) e = refl

pub no_replies : (script : ScriptData) (q client : ℕ) (lines : List Event) → AllByRecursion (IsOwnLine script q) lines → (home script client ≡ q → ⊥)
    → replies_of client lines ≡ []
no_replies script q client [] own away = refl
no_replies script q client (line ∷ rest) own away =
    ap (λ (b : Bool). if b then line ∷ replies_of client rest else replies_of client rest) (not_reply script q client line own.0 away)
    ∙ no_replies script q client rest own.1 away

replies_from : (script : ScriptData) (client : ℕ) (run : List Logged) → AllByRecursion (HasOwnLines script) run
    → replies_of client (lines_of run) ≡ replies_of client (lines_of (filter (is_of_node (home script client)) run))
replies_from script client [] own = refl
replies_from script client (entry ∷ rest) own =
    replies_append client entry.events (lines_of rest)
    ∙ (ap (λ (l : List Event). replies_of client entry.events ++ l) (replies_from script client rest own.1) ∙ by_test (is_of_node (home script client) entry) refl)
  where
    here : List Logged
    here = filter (is_of_node (home script client)) rest

    away : (entry.made.stamp.node == home script client) ≡ false → home script client ≡ entry.made.stamp.node → ⊥
    away f e = absurd (false_true (sym f ∙ eq-eqb entry.made.stamp.node (home script client) (sym e)))
      where
        false_true : false ≡ true → ⊥
        false_true e = cc

    by_test : (same : Bool) → is_of_node (home script client) entry ≡ same
        → replies_of client entry.events ++ replies_of client (lines_of here) ≡ replies_of client (lines_of (if same then entry ∷ here else here))
    by_test true e = sym (replies_append client entry.events (lines_of here))
    by_test false e =
        ap (λ (l : List Event). l ++ replies_of client (lines_of here)) (no_replies script entry.made.stamp.node client entry.events own.0 (away e))

pub replies_at_home : RepliesAtHome
replies_at_home script run whole is_run client =
    replies_from script client run (own_from script run (start script) whole (homes_start script) is_run)

own_so_far : (script : ScriptData) (k : ℕ) (run : List Logged) → AllByRecursion (HasOwnLines script) run → AllByRecursion (HasOwnLines script) (take k run)
own_so_far script zero run own = tt
own_so_far script (suc k) [] own = tt
own_so_far script (suc k) (entry ∷ rest) own = (own.0, own_so_far script k rest own.1)

pub replies_so_far : RepliesSoFar
replies_so_far script run whole is_run client k =
    replies_from script client (take k run) (own_so_far script k run (own_from script run (start script) whole (homes_start script) is_run))

pub replies_of_log : RepliesOfLog
replies_of_log script run log whole is_run client own =
    replies_at_home script run whole is_run client ∙ ap (λ (entries : List Logged). replies_of client (lines_of entries)) own
