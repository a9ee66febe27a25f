-- A station that goes on twice goes on.
use Rattle.lt_live.specs.Live.{StationGoesOn}
use Rattle.lt_live.specs.Stations.{StationData}
use Rattle.lt_live.proofs.LiveShares.{goes_join}

pub goes_on_join : (a b c : StationData) → StationGoesOn a b → StationGoesOn b c → StationGoesOn a c
goes_on_join a b c h k = record {
  runner = goes_join a.runner b.runner c.runner h.runner k.runner;
  seated = λ s seated. k.seated s (h.seated s seated);
}
