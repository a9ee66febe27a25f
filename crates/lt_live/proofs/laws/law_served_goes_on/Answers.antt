use Rattle.lt_live.proofs.LaterMoments.{served_goes_on, moments_follow}
use Rattle.lt_live.proofs.laws.law_served_goes_on.Goals as goal

pub returns : goal.returns
returns c = record { on = served_goes_on; follow = moments_follow }
