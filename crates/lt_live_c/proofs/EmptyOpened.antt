-- What calls do with a handle that stands for nothing.
use Rattle.std.proofs.Common.{◌≡◌, ℕ, Option, Some, None, refl}
use Rattle.lt_live_c.specs.declared.content.Content.{Content}
use Rattle.lt_live_c.specs.declared.content.Content.TheVariants as contents
use Rattle.lt_live_c.specs.Taking.{HandleTakesStation, HandleTakesSession, HandleGives, HandleGiveRefused}
use Rattle.lt_live_c.specs.EmptyTold.{EmptyTold}

never_station : (taken new : Option Content) → HandleTakesStation taken None new → ⊥
never_station None new h = h
never_station (Some (contents.Service s)) new h = h
never_station (Some (contents.Station x)) new h = h
never_station (Some (contents.Session s)) new h = h
never_station (Some (contents.Journal journal)) new h = h
never_station (Some (contents.Node node)) new h = h

never_session : (taken new : Option Content) → HandleTakesSession taken None new → ⊥
never_session None new h = h
never_session (Some (contents.Service s)) new h = h
never_session (Some (contents.Station x)) new h = h
never_session (Some (contents.Session s)) new h = h
never_session (Some (contents.Journal journal)) new h = h
never_session (Some (contents.Node node)) new h = h

never_given_to : (given new : Option Content) → HandleGives given None new → ⊥
never_given_to None new h = h
never_given_to (Some x) new h = h

not_given_to : (code : ℕ) (given : Option Content) → HandleGiveRefused code given None → code ≡ 2
not_given_to code None h = h
not_given_to code (Some x) h = h

pub empty_told : EmptyTold
empty_told = record {
  turn = λ code new h. h;
  forget = λ code new h. h;
  submit = λ code new h. h;
  poll = λ was count code new h. h;
  goes_on = λ new h. h;
  send = λ to was now buffer after code new h. h;
  receive = λ from was now bytes code new h. h;
  pending = λ to code new h. h;
  set = λ name code was set h. h;
  left = refl;
  client = refl;
  home = refl;
  never_station = never_station;
  never_session = never_session;
  no_station = λ code h. h;
  no_session = λ code h. h;
  never_given = λ to new h. h;
  never_given_to = never_given_to;
  not_given = λ code to h. h;
  not_given_to = not_given_to;
  keeps = λ new h. h;
  may_be_served = tt;
  never_served = λ submits polls new h. h;
  not_served = λ code h. h;
  may_be_finished = tt;
  whole_finished = λ first s live. (first, live);
  no_service = tt;
  never_finished = λ new h. h;
  not_finished = λ code h. h;
  never_finished_node = λ new h. h;
  not_finished_node = λ code h. h;
  text = refl;
  script = refl;
  ends = λ code was held waited waiting h. h;
}
