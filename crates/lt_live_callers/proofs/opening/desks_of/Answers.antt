-- One desk more.
use Rattle.std.proofs.Common.{rules, refl, sym, subst, List, None, false, length, ◌<◌}
use Rattle.lt_live_callers.specs.declared.desk.Desk.{Desk}
use Rattle.lt_live_callers.specs.Desks.{caller_of, session_of}
use Rattle.lt_live_callers.specs.Served.{NoneRefused}
use Rattle.lt_live_callers.proofs.Made.{one_more, took_one}
use Rattle.lt_live_callers.proofs.opening.desks_of.Goals as goal

pub loop-callers-preserved : goal.loop-callers-preserved
loop-callers-preserved g c =
    let more-callers : 0 < length c.loop-callers.callers.items = search rules in
    let more-sessions : 0 < length c.loop-callers.sessions.items = search rules in
    let desk : Desk g.row.C.Denot = record { caller = c.remove-caller.result; session = c.remove-session.result; refused = None; done = false } in
    record {
      same = search rules;
      callers = took_one caller_of c.loop-callers.desks.items c.push.new.self.items desk c.loop-callers.callers.items c.remove-caller.new.self.items
          c.args.callers.items c.in_ok-push.ensures.items c.remove-caller.ensures.value c.remove-caller.ensures.items more-callers c.loop-callers.invariant.callers;
      sessions = took_one session_of c.loop-callers.desks.items c.push.new.self.items desk c.loop-callers.sessions.items c.remove-session.new.self.items
          c.args.sessions.items c.in_ok-push.ensures.items c.remove-session.ensures.value c.remove-session.ensures.items more-sessions c.loop-callers.invariant.sessions;
      free = subst (λ (ds : List (Desk g.row.C.Denot)). NoneRefused ds) (sym c.in_ok-push.ensures.items)
          (one_more c.loop-callers.desks.items desk refl c.loop-callers.invariant.free);
    }
