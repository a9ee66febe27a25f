-- One session more.
use Rattle.std.proofs.Common.{◌≡◌, ◌+◌, List, [], ◌∷◌, ◌++◌, length, subst, sym, ap, ◌∙◌, slice_set, slice_index_or}
use Rattle.lt_spec.specs.NodeMove.{home}
use Rattle.lt_live.specs.declared.ends.Session.{Session}
use Rattle.lt_live.specs.Stations.{StationData, Opens}
use Rattle.lt_live.proofs.OpenedStations.{Adds, opening_more, found_once, others_there, seat_there, station_there}
use Rattle.lt_live.proofs.starting.add_session.Goals as goal

pub add_seat-requires-clause-seat : goal.add_seat-requires-clause-seat
add_seat-requires-clause-seat c =
    let at : c.from-home.result ≡ home c.args.script.now c.args.client = c.from-home.ensures ∙ c.home.ensures in
    let stations = c.args.stations.now.items in
    let inside = station_there c.args.script.now c.args._limit c.args.capacity c.args.share c.args.client c.from-home.result stations c.args.sessions.now.items c.requires.opening c.requires.client at in
    seat_there c.args.script.now c.args._limit c.args.capacity c.args.share c.args.client c.from-home.result stations c.args.sessions.now.items c.index_mut.result.now c.in_ok-session.seat
    c.requires.opening inside c.index_mut.ensures.value c.requires.commands at c.requires.client c.in_ok-session.ensures.seat c.in_ok-session.ensures.places.1 c.requires.capacity

pub add_seat-requires-clause-others : goal.add_seat-requires-clause-others
add_seat-requires-clause-others c =
    let at : c.from-home.result ≡ home c.args.script.now c.args.client = c.from-home.ensures ∙ c.home.ensures in
    let stations = c.args.stations.now.items in
    let inside = station_there c.args.script.now c.args._limit c.args.capacity c.args.share c.args.client c.from-home.result stations c.args.sessions.now.items c.requires.opening c.requires.client at in
    others_there c.args.script.now c.args._limit c.args.capacity c.args.share c.args.client c.from-home.result c.in_ok-session.seat.client stations c.args.sessions.now.items c.index_mut.result.now
    c.requires.opening inside c.index_mut.ensures.value c.in_ok-session.ensures.seat.client_is

pub returns : goal.returns
returns c =
    let at : c.from-home.result ≡ home c.args.script.now c.args.client = c.from-home.ensures ∙ c.home.ensures in
    let stations = c.args.stations.now.items in
    let d = c.index_mut.result.now in
    let x : StationData = slice_index_or stations c.from-home.result d in
    let value : d ≡ x = c.index_mut.ensures.value in
    let inside = station_there c.args.script.now c.args._limit c.args.capacity c.args.share c.args.client c.from-home.result stations c.args.sessions.now.items c.requires.opening c.requires.client at in
    let first : c.index.result.now ≡ d = found_once stations c.from-home.result c.index.result.now d inside c.index.ensures value in
    let new = c.in_ok-session.ensures.session in
    let adds : Adds c.args.script.now c.args.capacity c.args.share c.args.client c.from-home.result x c.add_seat.new.self c.in_ok-session.session c.in_ok-session.seat = record {
      at_home = at;
      runner = c.in_ok-add_seat.ensures.runner ∙ ap (λ (s : StationData). s.runner) value;
      seats = c.in_ok-add_seat.ensures.seats ∙ ap (λ (s : StationData). s.seats ++ c.in_ok-session.seat ∷ []) value;
      new = record {
        script_is = new.0;
        client_is = new.1;
        share = (new.4, new.3);
        places = c.in_ok-session.ensures.places.0;
        commands = c.in_ok-session.ensures.fresh.0;
        replies = (c.in_ok-session.ensures.fresh.1, c.in_ok-session.ensures.fresh.2);
      };
      place_is = new.2 ∙ c.seats-place.ensures ∙ ap (λ (s : StationData). length s.seats) (first ∙ value);
      link = c.in_ok-session.ensures.link;
      places = c.in_ok-session.ensures.places.1;
      commands = c.in_ok-session.ensures.empty.0;
      waits = c.in_ok-session.ensures.empty.1;
    } in
    subst (λ (sessions : List Session). Opens c.args.script.now c.args._limit c.args.capacity c.args.share (c.args.client + 1) (slice_set stations c.from-home.result c.add_seat.new.self) sessions)
    (sym c.in_ok-push.ensures.items)
    (opening_more c.args.script.now c.args._limit c.args.capacity c.args.share c.args.client c.from-home.result stations c.args.sessions.now.items d c.add_seat.new.self
    c.in_ok-session.session c.in_ok-session.seat c.requires.opening inside adds)
