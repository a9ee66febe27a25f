-- The session of a client of the station's node.
use Rattle.std.proofs.Common.{◌≡◌, ◌+◌, List, subst, sym, rules}
use Rattle.lt_spec.specs.NodeMove.{home}
use Rattle.lt_live.specs.declared.ends.Session.{Session}
use Rattle.lt_live.specs.OneNode.{OpensHere}
use Rattle.lt_live.proofs.OpensHere.{AddsHere, one_opened, others_here}
use Rattle.lt_live.proofs.one_node.add_own.Goals as goal

pub add_seat-requires-clause-others : goal.add_seat-requires-clause-others
add_seat-requires-clause-others c =
    others_here c.args.script.now c.args.capacity c.args.share c.args.client c.in_ok-session.seat.client c.args.station.now
    c.args.sessions.now.items c.requires.opening c.in_ok-session.ensures.seat.client_is

pub returns : goal.returns
returns c =
    let new = c.in_ok-session.ensures.session in
    let at : home c.args.script.now c.args.client ≡ c.args.station.now.runner.node.me = search rules in
    let adds : AddsHere c.args.script.now c.args.capacity c.args.share c.args.client c.args.station.now c.add_seat.new.self c.in_ok-session.session c.in_ok-session.seat = record {
      at_home = at;
      inside = c.requires.client;
      runner = c.in_ok-add_seat.ensures.runner;
      seats = c.in_ok-add_seat.ensures.seats;
      new = record {
        script_is = new.0;
        client_is = new.1;
        share = (new.4, new.3);
        places = c.in_ok-session.ensures.places.0;
        commands = c.in_ok-session.ensures.fresh.0;
        replies = (c.in_ok-session.ensures.fresh.1, c.in_ok-session.ensures.fresh.2);
      };
      place_is = search rules;
      link = c.in_ok-session.ensures.link;
      places = c.in_ok-session.ensures.places.1;
      commands = c.in_ok-session.ensures.empty.0;
      waits = c.in_ok-session.ensures.empty.1;
    } in
    record {
      runner = c.in_ok-add_seat.ensures.runner;
      own = subst (λ (sessions : List Session). OpensHere c.args.script.now c.args.capacity c.args.share (c.args.client + 1) c.add_seat.new.self sessions)
          (sym c.in_ok-push.ensures.items)
          (one_opened c.args.script.now c.args.capacity c.args.share c.args.client c.args.station.now c.add_seat.new.self c.args.sessions.now.items
          c.in_ok-session.session c.in_ok-session.seat c.requires.opening adds);
    }
