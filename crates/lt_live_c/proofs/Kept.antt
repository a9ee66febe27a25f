-- What a call keeps that does nothing.
use Rattle.std.proofs.Common.{◌≡◌, Option, Some, None, refl}
use Rattle.lt_live_c.specs.declared.content.Content.{Content}
use Rattle.lt_live_c.specs.declared.content.Content.TheVariants as contents
use Rattle.lt_live_c.specs.Taking.{KeepsAll}

pub keeps_itself : (content : Content) → KeepsAll content content
keeps_itself (contents.Service s) = (refl, refl)
keeps_itself (contents.Station x) = refl
keeps_itself (contents.Session s) = refl
keeps_itself (contents.Journal journal) = refl
keeps_itself (contents.Node node) = refl
