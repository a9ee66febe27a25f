-- Sessions in different processes were served in one run.
use Rattle.std.proofs.Common.{◌≡◌, ℕ, List, length, Some, refl, sym, subst, arith, slice_get, ◌<◌}
use Rattle.std.proofs.lemmas.Option.{slice_get_within}
use mathlib.Core.List.{IsPrefix}
use Rattle.lt_modes.specs.declared.command.Command.{Command}
use Rattle.lt_spec.specs.NodeMove.{commands_of, home}
use Rattle.lt_spec.specs.Holdings.{lines_of}
use Rattle.lt_spec.specs.Script.{IsScript}
use Rattle.lt_law_invariant.proofs.FewAsks.{whole}
use Rattle.lt_law_apart.specs.Apart.{script_apart, run_apart, IsApartRun}
use Rattle.lt_law_apart.proofs.Apart.{apart_run, apart_script, element_at}
use Rattle.lt_live.specs.declared.ends.Session.{Session}
use Rattle.lt_live.specs.declared.reply.Reply.{Reply}
use Rattle.lt_live.specs.Words.{submitted, polled}
use Rattle.lt_live.specs.Seats.{IsServedSession, replies_in}
use Rattle.lt_live.proofs.Finished.{replies_in_log}
use Rattle.lt_live.proofs.Telling.{polled_in_turn}
use Rattle.lt_law_sessions.proofs.Excluding.{still_is_held, sessions_exclude}
use Rattle.lt_law_apart_sessions.specs.ApartSessions.{ServedApart, ApartInTurn, HeldApart, ApartExclude}

pub served_apart : ServedApart
served_apart first nodes sessions h = record {
  is_script = is_script;
  same = refl;
  is_run = run.is_run;
  rising = run.rising;
  each = each;
}
  where
    run : IsApartRun first nodes (run_apart first nodes)
    run = apart_run first nodes h.apart

    is_script : IsScript (script_apart first nodes)
    is_script = apart_script first nodes h.apart h.few

    each : (client : ℕ) (s : Session) → slice_get sessions client ≡ Some s → IsServedSession (commands_of (script_apart first nodes) client) (lines_of (run_apart first nodes)) client s
    each client s e =
        let known : client < length first.clients = omega (arith, slice_get_within sessions client s e, h.count) in
        let below : home first client < first.nodes = is_script.homes client known in
        let (n, here) = element_at nodes (home first client) (omega (arith, below, h.apart.count)) in
        let served = h.each client s n e here in
        let listed = run.commands client n here in
        let told : replies_in client (lines_of (run_apart first nodes)) ≡ replies_in client (lines_of n.part.log) =
        replies_in_log (script_apart first nodes) (run_apart first nodes) n.part.log (whole (script_apart first nodes) is_script) run.is_run client (run.moves (home first client) n here) in
        record {
          commands = subst (λ (list : List Command). IsPrefix list (submitted s)) (sym listed) served.commands;
          replies = subst (λ (list : List Reply). IsPrefix (polled s) list) (sym told) served.replies;
        }

pub apart_in_turn : ApartInTurn
apart_in_turn first nodes sessions h client s e =
    polled_in_turn first (script_apart first nodes) sessions (run_apart first nodes) (served_apart first nodes sessions h) client s e

pub held_apart : HeldApart
held_apart first nodes sessions h client s lock e holds =
    still_is_held first (script_apart first nodes) sessions (run_apart first nodes) (served_apart first nodes sessions h) h.count client s lock e holds

pub apart_exclude : ApartExclude
apart_exclude first nodes sessions h a b s t other e f set m n holds also =
    sessions_exclude first (script_apart first nodes) sessions (run_apart first nodes) (served_apart first nodes sessions h) h.count a b s t other e f set m n holds also
