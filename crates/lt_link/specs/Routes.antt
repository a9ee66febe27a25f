-- The way of an ask or a tell, from what the links tell and what its kind says.
use Rattle.std.specs.Prelude.{◌≡◌, Bool, true, false, ◌==◌, ℕ, Option, Some, None, if◌then◌else◌}
use Rattle.lt_modes.specs.declared.mode.Mode.{Mode}
use Rattle.lt_modes.specs.declared.stamp.Stamp.{Stamp}
use Rattle.lt_modes.specs.declared.ask.Ask.{Ask as AnyAsk}
use Rattle.lt_modes.specs.declared.parts.Hoped.{Hoped as HopedLink}
use Rattle.lt_modes.specs.State.{SetState, Parked, ParkedAsk, ParkedTell}
use Rattle.lt_modes.specs.Telling.{is_newer}
use Rattle.lt_modes.specs.Routing.{Way, Parks, Goes, is_behind}
use Rattle.lt_link.specs.LinksData.{LinksData}
use Rattle.lt_link.specs.declared.kind.Kind.{Kind}
use Rattle.lt_link.specs.declared.kind.Kind.TheVariants.{Ask, Tell}
use Rattle.lt_link.specs.declared.kind.Route.{Route}
use Rattle.lt_link.specs.declared.kind.Route.TheVariants.{Park, Firm, Hoped}

-- an unmarked ask goes by the hoped link where that is older, and else by the firm link
abbrev pub unmarked_route : ℕ → Option HopedLink → Stamp → Route
unmarked_route firm None stamp = Firm firm
unmarked_route firm (Some hoped) stamp = if is_newer stamp hoped.stamp then Hoped hoped.node else Firm firm

-- the way from a node whose firm link names another
abbrev pub route_onward : LinksData → Kind → Route
route_onward links (Ask stamp true older_taking) = if older_taking then Park else Firm links.firm.node
route_onward links (Ask stamp false older_taking) = unmarked_route links.firm.node links.hoped stamp
route_onward links Tell = Firm links.firm.node

-- the way from a node that hasn't the desk
abbrev pub route_of : LinksData → Kind → Route
route_of links kind = if links.firm.node == links.me then Park else route_onward links kind

-- the same in the words of the rules
abbrev pub way_of : Route → Way
way_of Park = Parks
way_of (Firm node) = Goes node false
way_of (Hoped node) = Goes node true

-- the kind is that of this ask or tell, marked or not, in this state
abbrev pub IsKindOf : Kind → Bool → Parked → SetState → Type 0
IsKindOf (Ask stamp by_hoped older_taking) marked (ParkedAsk ask) s = (stamp ≡ ask.stamp) × (by_hoped ≡ marked) × (older_taking ≡ is_behind s.pending ask)
IsKindOf (Ask stamp by_hoped older_taking) marked (ParkedTell tell) s = ⊥
IsKindOf Tell marked (ParkedAsk ask) s = ⊥
IsKindOf Tell marked (ParkedTell tell) s = Unit {0}

-- the ask is of this node, and has this mode and this stamp
pub record IsAskFrom (node : ℕ) (mode : Mode) (stamp : Stamp) (ask : AnyAsk) : Type 0 where
  pub of_node : ask.node ≡ node
  pub has_mode : ask.mode ≡ mode
  pub has_stamp : ask.stamp ≡ stamp
