-- What a letter in hand brings.
use Rattle.std.specs.Prelude.{ℕ, ◌≤◌, length}
use Rattle.lt_modes.specs.State as rules
use Rattle.lt_modes.specs.State.{Post as PlainPost}
use Rattle.lt_desk.specs.declared.letter.Body.{Body}
use Rattle.lt_desk.specs.declared.letter.Body.TheVariants.{Ask, Tell, Copy, Token, Freeze}
use Rattle.lt_desk.specs.declared.parked.Tell.{Tell as CodeTell}
use Rattle.lt_desk.specs.declared.parked.Parked.{Parked}
use Rattle.lt_desk.specs.declared.parked.Parked.TheVariants.{Ask as WaitingAsk, Tell as WaitingTell}
use Rattle.lt_desk.specs.declared.letter.Letter.{Letter}
use Rattle.lt_desk.specs.declared.letter.Post.{Post}

-- how many asks it brings
abbrev pub asks_in : Body → ℕ
asks_in (Ask ask by_hoped) = 1
asks_in (Tell tell) = 0
asks_in (Copy ask) = 1
asks_in (Token d) = length d.desk.queue
asks_in (Freeze news) = 0

-- the desk that it brings has places for so many asks in all, and each node may owe word of so many more
abbrev pub RoomIn : ℕ → Body → Type 0
RoomIn asks (Ask ask by_hoped) = Unit {0}
RoomIn asks (Tell tell) = Unit {0}
RoomIn asks (Copy ask) = Unit {0}
RoomIn asks (Token d) = (asks ≤ d.room) × (asks ≤ d.spare)
RoomIn asks (Freeze news) = Unit {0}

-- how many asks the desk that it brings has places for, and how many more each node may owe word of
abbrev pub places_in : Body → ℕ
places_in (Token d) = d.room
places_in body = 0

abbrev pub body_spare : Body → ℕ
body_spare (Token d) = d.spare
body_spare body = 0

-- Letters as the rules speak of them.

abbrev pub tell_seen : CodeTell → rules.Tell
tell_seen t = record { node = t.node; modes = t.modes; pending = t.pending.value; stamp = t.stamp }

abbrev pub parked_seen : Parked → rules.Parked
parked_seen (WaitingAsk ask) = rules.ParkedAsk ask
parked_seen (WaitingTell tell) = rules.ParkedTell (tell_seen tell)

abbrev pub body_seen : Body → rules.Body
body_seen (Ask ask by_hoped) = rules.AskBody ask by_hoped
body_seen (Tell tell) = rules.TellBody (tell_seen tell)
body_seen (Copy ask) = rules.CopyBody ask
body_seen (Token desk) = rules.TokenBody desk.desk
body_seen (Freeze news) = rules.FreezeBody news.number news.modes

abbrev pub letter_seen : Letter → rules.Letter
letter_seen l = record { stamp = l.stamp; set = l.set; link = l.link; body = body_seen l.body }

abbrev pub post_seen : Post → PlainPost
post_seen p = record { to = p.to; letter = letter_seen p.letter }
