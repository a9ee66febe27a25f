-- The links that a node keeps for a lock set.
use Rattle.std.specs.Prelude.{ℕ, Option, None}
use Rattle.lt_modes.specs.declared.parts.Link.{Link}
use Rattle.lt_modes.specs.declared.parts.Hoped.{Hoped}
use Rattle.lt_modes.specs.State.{SetState}

pub record LinksData : Type 0 where
  -- the node that keeps them
  pub me : ℕ
  pub firm : Link
  pub hoped : Option Hoped

-- at the start the token is at node 0, and nothing is hoped
abbrev pub first_links : ℕ → LinksData
first_links me = record { me = me; firm = record { node = 0; epoch = 0 }; hoped = None }

-- the links with this firm link, and nothing hoped
abbrev pub with_link : LinksData → ℕ → ℕ → LinksData
with_link links node epoch = record links { firm = record { node = node; epoch = epoch }; hoped = None }

-- the links of node `me` in this state
abbrev pub links_of : ℕ → SetState → LinksData
links_of me s = record { me = me; firm = s.firm; hoped = s.hoped }

-- the state with these links
abbrev pub with_links : LinksData → SetState → SetState
with_links links s = record s { firm = links.firm; hoped = links.hoped }
