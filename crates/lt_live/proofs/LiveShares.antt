-- Runners that each append commands stay runners of one script.
use Rattle.std.proofs.Common.{◌≡◌, ◌≤◌, ℕ, List, [], Option, Some, None, refl, sym, ap, subst, ◌∙◌, ◌<◌, slice_get}
use Rattle.lt_modes.specs.declared.command.Command.{Command}
use Rattle.lt_modes.specs.Script.{ScriptData}
use Rattle.lt_spec.specs.NodeMove.{with_commands, AreAt}
use Rattle.lt_spec.specs.declared.moves.TheConstants.{MAX_MOVES_OF_SERVICE}
use Rattle.lt_mail.specs.Words.{OutLane, out_at, in_at, Alike, Both, IsOpenLink, SameOut, SameIn}
use Rattle.lt_mail.specs.declared.lane.InLane.{InLane}
use Rattle.lt_mail.proofs.LookLemmas.{ends_join}
use Rattle.lt_runner.specs.declared.parts.Parts.{Parts}
use Rattle.lt_threads.specs.Meeting.{EachIs, AreShares, InShares}
use Rattle.lt_threads.specs.Pushes.{IsFirstCrew}
use Rattle.lt_threads.proofs.Each.{ends_same, each_before, each_len}
use Rattle.lt_live.specs.Live.{GoesOn}

pub goes_itself : (a : Parts) → GoesOn a a
goes_itself a = record { script = refl; own = λ own. own; me = refl; limit = refl; ends = ends_same a.mail }

pub goes_join : (a b c : Parts) → GoesOn a b → GoesOn b c → GoesOn a c
goes_join a b c h k =
    let commands = b.node.script.commands in
    let later = c.node.script.commands in
    let to_b : AreAt a.node.script a.node.me commands → AreAt b.node.script b.node.me commands = λ own.
    subst (λ (me : ℕ). AreAt b.node.script me commands) (sym h.me) (subst (λ (s : ScriptData). AreAt s a.node.me commands) (sym h.script) own) in
    let of_b : AreAt b.node.script b.node.me later → AreAt a.node.script a.node.me later = λ own.
    subst (λ (s : ScriptData). AreAt s a.node.me later) h.script (subst (λ (me : ℕ). AreAt b.node.script me later) h.me own) in
    record {
      script = k.script ∙ ap (λ (s : ScriptData). with_commands s later) h.script;
      own = λ own. of_b (k.own (to_b (h.own own)));
      me = k.me ∙ h.me;
      limit = k.limit ∙ h.limit;
      ends = ends_join a.mail b.mail c.mail h.ends k.ends;
    }

-- at the start of a script without commands
pub first_shares : (script : ScriptData) (capacity limit : ℕ) (rs : List Parts) → IsFirstCrew script capacity limit rs → script.commands ≡ [] → AreShares script rs
first_shares script capacity limit rs first none = record {
  some = first.crew.is_script.some_node;
  count = first.crew.count;
  each = each;
  links = first.crew.links;
}
  where
    each : (k : ℕ) (p : Parts) → slice_get rs k ≡ Some p → InShares script k p
    each k p here =
        let is = first.scripts k p here in
        let empty : [] ≡ p.node.script.commands = sym (ap (λ (s : ScriptData). s.commands) is ∙ none) in
        record {
          script_is = subst (λ (s : ScriptData). s ≡ with_commands script s.commands) (sym is) refl;
          own = subst (λ (commands : List (ℕ × Command)). AreAt script k commands) empty tt;
          me = (first.crew.each k p here).me;
          limit = (first.crew.each k p here).limit;
        }

links_stay : (o p : Option OutLane) (i j : Option InLane) → Alike SameOut o p → Alike SameIn i j → Both IsOpenLink o i → Both IsOpenLink p j
links_stay None p i j u v e = absurd e
links_stay (Some o) p None j u v e = absurd e
links_stay (Some o) None (Some i) j u v e = absurd u
links_stay (Some o) (Some p) (Some i) None u v e = absurd v
links_stay (Some o) (Some p) (Some i) (Some j) u v e =
    ((v.0.0 ∙ e.0.0 ∙ sym u.0.0, v.0.1 ∙ e.0.1 ∙ sym u.0.1, v.0.2 ∙ e.0.2 ∙ sym u.0.2, v.0.3 ∙ e.0.3 ∙ sym u.0.3), subst (λ (n : ℕ). 0 < n) (sym u.1) e.1)

-- while each appends commands of its own node's clients and makes moves
pub shares_last : (script : ScriptData) (old new : List Parts) → EachIs GoesOn old new → AreShares script old → AreShares script new
shares_last script old new on shares = record {
  some = shares.some;
  count = each_len GoesOn old new on ∙ shares.count;
  each = each;
  links = λ a b x y ea eb apart.
      let was_a = each_before GoesOn old new on a x ea in
      let was_b = each_before GoesOn old new on b y eb in
      let sends : GoesOn was_a.0 x = was_a.2 in
      let takes : GoesOn was_b.0 y = was_b.2 in
      links_stay (out_at was_a.0.mail b) (out_at x.mail b) (in_at was_b.0.mail a) (in_at y.mail a) (sends.ends.outs b) (takes.ends.ins a)
      (shares.links a b was_a.0 was_b.0 was_a.1 was_b.1 apart);
}
  where
    each : (k : ℕ) (p : Parts) → slice_get new k ≡ Some p → InShares script k p
    each k p here =
        let was = each_before GoesOn old new on k p here in
        let is : GoesOn was.0 p = was.2 in
        let before : InShares script k was.0 = shares.each k was.0 was.1 in
        let commands = p.node.script.commands in
        let own : AreAt was.0.node.script was.0.node.me was.0.node.script.commands =
        subst (λ (q : ℕ). AreAt was.0.node.script q was.0.node.script.commands) (sym before.me)
        (subst (λ (s : ScriptData). AreAt s k was.0.node.script.commands) (sym before.script_is) before.own) in
        record {
          script_is = is.script ∙ ap (λ (s : ScriptData). with_commands s commands) before.script_is;
          own = subst (λ (q : ℕ). AreAt script q commands) before.me
              (subst (λ (s : ScriptData). AreAt s was.0.node.me commands) before.script_is (is.own own));
          me = is.me ∙ before.me;
          limit = subst (λ (n : ℕ). n ≤ MAX_MOVES_OF_SERVICE) (sym is.limit) before.limit;
        }
