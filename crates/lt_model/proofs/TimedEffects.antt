-- The effects of a move write no number above the move's clock.
use Rattle.std.proofs.Common.{◌≡◌, ℕ, ◌+◌, ◌<◌, ◌≤◌, List, [], ◌∷◌, ◌++◌, Option, Some, None, Bool, true, false, sym, subst, arith, ◌==◌, ◌&&◌, not, nat_lt, if◌then◌else◌, IfSome, fold, remove}
use Rattle.std.specs.List.{AllByRecursion}
use Rattle.lt_modes.specs.declared.stamp.Stamp.{Stamp}
use Rattle.lt_modes.specs.declared.ask.Ask.{Ask}
use Rattle.lt_modes.specs.declared.parts.Link.{Link}
use Rattle.lt_modes.specs.Modes.{excludes_itself, held_modes}
use Rattle.lt_modes.specs.Script.{ScriptData}
use Rattle.lt_modes.specs.State.{SetState, Desk, Body, AskBody, TellBody, CopyBody, TokenBody, FreezeBody, Letter, Parked, ParkedAsk, ParkedTell, Post, silent}
use Rattle.lt_modes.specs.Serving.{put_queue, owed_at, ask_at, queue_of, serve_one, serve_local, serve_copy}
use Rattle.lt_modes.specs.HandingOver.{hand_over_to}
use Rattle.lt_modes.specs.Freezing.{freeze, freeze_at, frozen_by, targets, number_after}
use Rattle.lt_modes.specs.SetMove.{ask_of, asked}
use Rattle.lt_modes.specs.Routing.{Way, Parks, Goes, learn, dealt, body_of, reversed, sent_on, route}
use Rattle.lt_modes.specs.Telling.{tell_of}
use Rattle.lt_modes.specs.Taking.{take_body, arrive, take}
use Rattle.lt_model.specs.Invariant.{BodyKept}
use Rattle.lt_lists.proofs.AllLemmas.{all_append, all_map, all_any}
use Rattle.lt_model.proofs.Effects.{Fact, HoldsOf, EndEffects, ActEffects, route_ways, holds_silent, acts_by_effects, take_by_effects, ByEffects}

-- the desk's epoch is up to one bound, its freeze number up to another
abbrev IsDeskUpTo : ℕ → ℕ → Option Desk → Type 0
IsDeskUpTo epoch number desk = IfSome desk (λ (d : Desk). (d.epoch ≤ epoch) × (d.number ≤ number))

-- what is kept for the set is up to these bounds
pub record IsUpTo (epoch number : ℕ) (t : SetState) : Type 0 where
  pub link : t.firm.epoch ≤ epoch
  pub kept : t.number ≤ number
  pub desk : IsDeskUpTo epoch number t.desk

-- a letter of the set that a move of this stamp sends
pub record IsTold (script : ScriptData) (stamp : Stamp) (post : Post) : Type 0 where
  pub link : post.letter.link.epoch ≤ stamp.clock
  pub body : BodyKept script stamp.clock post.letter.body

abbrev pub AreTold : ScriptData → ℕ → Stamp → List Post → Type 0
AreTold script s stamp posts = AllByRecursion (λ (post : Post). post.letter.set ≡ s → IsTold script stamp post) posts

-- the fact that the effects keep, with room for `room` more below the clock
abbrev pub upto : ScriptData → ℕ → Stamp → ℕ → ℕ → Fact
upto script s stamp epoch number t posts = IsUpTo epoch number t × AreTold script s stamp posts

told_more : (script : ScriptData) (s : ℕ) (stamp : Stamp) (posts more : List Post) → AreTold script s stamp posts → AreTold script s stamp more
    → AreTold script s stamp (posts ++ more)
told_more script s stamp posts more first second = all_append _ posts more first second

desk_higher : (epoch number epoch' number' : ℕ) (desk : Option Desk) → epoch ≤ epoch' → number ≤ number' → IsDeskUpTo epoch number desk → IsDeskUpTo epoch' number' desk
desk_higher epoch number epoch' number' None he hn h = tt
desk_higher epoch number epoch' number' (Some desk) he hn h = (omega (arith, h.0), omega (arith, h.1))

higher : (epoch number epoch' number' : ℕ) (t : SetState) → epoch ≤ epoch' → number ≤ number' → IsUpTo epoch number t → IsUpTo epoch' number' t
higher epoch number epoch' number' t he hn h = record {
  link = omega (arith, h.link);
  kept = omega (arith, h.kept);
  desk = desk_higher epoch number epoch' number' t.desk he hn h.desk;
}

queue_upto : (epoch number : ℕ) (queue : List Ask) (desk : Option Desk) → IsDeskUpTo epoch number desk → IsDeskUpTo epoch number (put_queue queue desk)
queue_upto epoch number queue None h = tt
queue_upto epoch number queue (Some desk) h = h

owed_upto : (epoch number : ℕ) (ask : Ask) (k : ℕ) (desk : Option Desk) → IsDeskUpTo epoch number desk → IsDeskUpTo epoch number (owed_at ask k desk)
owed_upto epoch number ask k None h = tt
owed_upto epoch number ask k (Some desk) h = h

dealt_upto : (epoch number : ℕ) (item : Parked) (desk : Desk) → IsDeskUpTo epoch number (Some desk) → IsDeskUpTo epoch number (Some (dealt desk item))
dealt_upto epoch number (ParkedAsk ask) desk h = h
dealt_upto epoch number (ParkedTell tell) desk h = h

all_dealt_upto : (epoch number : ℕ) (items : List Parked) (desk : Desk) → IsDeskUpTo epoch number (Some desk) → IsDeskUpTo epoch number (Some (fold dealt desk items))
all_dealt_upto epoch number [] desk h = h
all_dealt_upto epoch number (item ∷ rest) desk h = all_dealt_upto epoch number rest (dealt desk item) (dealt_upto epoch number item desk h)

reversed_upto : (epoch number me : ℕ) (item : Parked) (t : SetState) → IsUpTo epoch number t → IsUpTo epoch number (reversed me item t)
reversed_upto epoch number me (ParkedTell tell) t h = h
reversed_upto epoch number me (ParkedAsk ask) t h = by_test (excludes_itself ask.mode && not (ask.node == me))
  where
    by_test : (other : Bool) → IsUpTo epoch number (if other then record t { hoped = Some (record { node = ask.node; stamp = ask.stamp }) } else t)
    by_test true = record { link = h.link; kept = h.kept; desk = h.desk }
    by_test false = h

-- an ask or a tell that isn't younger than the move
route-upto : (script : ScriptData) (s epoch number : ℕ) (stamp : Stamp) (marked : Bool) (item : Parked) (t : SetState) (posts : List Post)
    → epoch ≤ stamp.clock → ((mark : Bool) → BodyKept script stamp.clock (body_of item mark)) → upto script s stamp epoch number t posts
    → HoldsOf (upto script s stamp epoch number) posts (route s stamp marked item t)
route-upto script s epoch number stamp marked item t posts low kept h =
    route_ways (HoldsOf (upto script s stamp epoch number) posts) s stamp marked item t
    (λ desk e. holds_silent (upto script s stamp epoch number) posts (record t { desk = Some (dealt desk item) }) (
      record {
        link = h.0.link;
        kept = h.0.kept;
        desk = dealt_upto epoch number item desk (subst (IsDeskUpTo epoch number) e h.0.desk);
      },
      h.1,
    ))
    (λ away w e. goes w)
  where
    goes : (w : Way) → HoldsOf (upto script s stamp epoch number) posts (sent_on s stamp item t w)
    goes Parks = holds_silent (upto script s stamp epoch number) posts (record t { parked = t.parked ++ item ∷ [] })
        (record { link = h.0.link; kept = h.0.kept; desk = h.0.desk }, h.1)
    goes (Goes to mark) = (
      reversed_upto epoch number stamp.node item t h.0,
      told_more script s stamp posts _ h.1 ((λ e. record { link = omega (arith, h.0.link, low); body = kept mark }), tt),
    )

asks-upto : (script : ScriptData) (s epoch number : ℕ) (stamp : Stamp) (ask : Ask) (t : SetState) (posts : List Post) → epoch ≤ stamp.clock
    → upto script s stamp epoch number t posts → HoldsOf (upto script s stamp epoch number) posts (asked s stamp ask t)
asks-upto script s epoch number stamp ask t posts low h =
    route-upto script s epoch number stamp false (ParkedAsk ask) (record t { pending = t.pending ++ ask ∷ [] }) posts low (λ mark. tt)
    (record { link = h.0.link; kept = h.0.kept; desk = h.0.desk }, h.1)

serves-upto : (script : ScriptData) (s epoch number : ℕ) (stamp : Stamp) (t : SetState) (posts : List Post) (k : ℕ) → epoch ≤ stamp.clock
    → upto script s stamp epoch number t posts → HoldsOf (upto script s stamp epoch number) posts (serve_one s stamp k t)
serves-upto script s epoch number stamp t posts k low h = by_test ((ask_at t k).node == stamp.node)
  where
    by_test : (own : Bool) → HoldsOf (upto script s stamp epoch number) posts (if own then serve_local s k t else serve_copy s stamp k (ask_at t k) t)
    by_test true = (
      record { link = h.0.link; kept = h.0.kept; desk = queue_upto epoch number (remove (queue_of t) k) t.desk h.0.desk },
      told_more script s stamp posts [] h.1 tt,
    )
    by_test false = (
      record { link = h.0.link; kept = h.0.kept; desk = owed_upto epoch number (ask_at t k) k t.desk h.0.desk },
      told_more script s stamp posts _ h.1 ((λ e. record { link = omega (arith, h.0.link, low); body = tt }), tt),
    )

next_number : (told : List ℕ) (number : ℕ) → number_after told number ≤ number + 1
next_number [] number = omega arith
next_number (x ∷ rest) number = omega arith

freezes-upto : (script : ScriptData) (s epoch number : ℕ) (stamp : Stamp) (t : SetState) (posts : List Post) → epoch ≤ stamp.clock → number < stamp.clock
    → upto script s stamp epoch number t posts → HoldsOf (upto script s stamp epoch (number + 1)) posts (freeze s stamp t)
freezes-upto script s epoch number stamp t posts low room h = by_desk t.desk h.0.desk
  where
    by_desk : (desk : Option Desk) → IsDeskUpTo epoch number desk → HoldsOf (upto script s stamp epoch (number + 1)) posts (freeze_at s stamp t desk)
    by_desk None d = (higher epoch number epoch (number + 1) t (omega arith) (omega arith) h.0, told_more script s stamp posts [] h.1 tt)
    by_desk (Some desk) d =
        let told = targets stamp.node (frozen_by desk.queue) desk in
        let next = next_number told desk.number in (
          record {
            link = h.0.link;
            kept = omega (arith, next, d.1);
            desk = (omega (arith, d.0), omega (arith, next, d.1));
          },
          told_more script s stamp posts _ h.1 (all_map _ _ told (all_any _ (λ x. λ e. record { link = omega (arith, h.0.link, low); body = omega (arith, next, d.1, room) }) told)),
        )

leaves-upto : (script : ScriptData) (s v epoch number : ℕ) (stamp : Stamp) (t : SetState) (posts : List Post) → epoch < stamp.clock → number ≤ stamp.clock
    → upto script s stamp epoch number t posts → HoldsOf (upto script s stamp (epoch + 1) number) posts (hand_over_to s stamp t v t.desk)
leaves-upto script s v epoch number stamp t posts room low h = by_desk t.desk h.0.desk
  where
    by_desk : (desk : Option Desk) → IsDeskUpTo epoch number desk → HoldsOf (upto script s stamp (epoch + 1) number) posts (hand_over_to s stamp t v desk)
    by_desk None d = (higher epoch number (epoch + 1) number t (omega arith) (omega arith) h.0, told_more script s stamp posts [] h.1 tt)
    by_desk (Some desk) d = (
      record { link = omega (arith, d.0); kept = h.0.kept; desk = tt },
      told_more script s stamp posts _ h.1
          ((λ e. record { link = omega (arith, d.0, room); body = (omega (arith, d.0, room), omega (arith, d.1, low)) }), tt),
    )

-- below the clock before the end of the move, up to the clock after it
pub timed_ends : (script : ScriptData) (s below : ℕ) (stamp : Stamp) → stamp.clock ≡ below + 1 → stamp.node < script.nodes
    → EndEffects s stamp (upto script s stamp below below) (upto script s stamp below stamp.clock) (upto script s stamp stamp.clock stamp.clock)
timed_ends script s below stamp clock named = record {
  serves = λ t posts k e h. serves-upto script s below below stamp t posts k (omega (arith, clock)) h;
  freezes = λ t posts desk here none h.
      subst (λ (n : ℕ). HoldsOf (upto script s stamp below n) posts (freeze s stamp t)) (sym clock)
      (freezes-upto script s below below stamp t posts (omega (arith, clock)) (omega (arith, clock)) h);
  leaves = λ t posts k e h.
      subst (λ (n : ℕ). HoldsOf (upto script s stamp n stamp.clock) posts (hand_over_to s stamp t (ask_at t k).node t.desk)) (sym clock)
      (leaves-upto script s (ask_at t k).node below stamp.clock stamp t posts (omega (arith, clock)) (omega arith) h);
  stays = λ t posts e h. (higher below stamp.clock stamp.clock stamp.clock t (omega (arith, clock)) (omega arith) h.0, h.1);
  tells = λ t posts away differs h.
      route-upto script s stamp.clock stamp.clock stamp false (ParkedTell (tell_of stamp t)) (record t { charge = held_modes t.held }) posts (omega arith)
      (λ mark. (omega arith, named)) (
        record {
          link = omega (arith, h.0.link, clock);
          kept = omega (arith, h.0.kept, clock);
          desk = desk_higher below below stamp.clock stamp.clock t.desk (omega (arith, clock)) (omega (arith, clock)) h.0.desk;
        },
        h.1,
      );
  tells_not = λ t posts away same h. (higher below below stamp.clock stamp.clock t (omega (arith, clock)) (omega (arith, clock)) h.0, h.1);
}

pub timed_acts : (script : ScriptData) (s below : ℕ) (stamp : Stamp) → stamp.clock ≡ below + 1
    → ActEffects s stamp (upto script s stamp below below) (upto script s stamp below below)
timed_acts script s below stamp clock = record {
  nothing = λ t posts h. h;
  grants = λ client mode t posts e h. (record { link = h.0.link; kept = h.0.kept; desk = h.0.desk }, h.1);
  changes = λ client gives_up mode t posts holds e h. (record { link = h.0.link; kept = h.0.kept; desk = h.0.desk }, h.1);
  releases = λ client mode t posts e h. (record { link = h.0.link; kept = h.0.kept; desk = h.0.desk }, h.1);
  drops = λ client t posts h. (record { link = h.0.link; kept = h.0.kept; desk = h.0.desk }, h.1);
  withdraws = λ other t posts waiting h. (record { link = h.0.link; kept = h.0.kept; desk = h.0.desk }, h.1);
  retakes = λ ask t posts gone same h. (record { link = h.0.link; kept = h.0.kept; desk = h.0.desk }, h.1);
  asks = λ client mode t posts e free h. asks-upto script s below below stamp (ask_of stamp client mode None t) t posts (omega (arith, clock)) h;
  change_asks = λ client gives_up mode t posts holds e free h.
      asks-upto script s below below stamp (ask_of stamp client mode (Some gives_up) t) t posts (omega (arith, clock)) h;
}

-- the commands of a client
pub timed_moves : (script : ScriptData) (s below : ℕ) (stamp : Stamp) → stamp.clock ≡ below + 1 → stamp.node < script.nodes
    → ByEffects s stamp (upto script s stamp below below) (upto script s stamp stamp.clock stamp.clock)
timed_moves script s below stamp clock named =
    acts_by_effects s stamp _ _ _ _ (timed_acts script s below stamp clock) (timed_ends script s below stamp clock named)

learn_upto : (epoch number : ℕ) (link : Link) (t : SetState) → link.epoch ≤ epoch → IsUpTo epoch number t → IsUpTo epoch number (learn link t)
learn_upto epoch number link t low h = by_test (nat_lt t.firm.epoch link.epoch)
  where
    by_test : (greater : Bool) → IsUpTo epoch number (if greater then record t { firm = link; hoped = None } else t)
    by_test true = record { link = low; kept = h.kept; desk = h.desk }
    by_test false = h

-- a letter that is older than the move
arrives-upto : (script : ScriptData) (below : ℕ) (stamp : Stamp) (letter : Letter) (t : SetState) → stamp.clock ≡ below + 1
    → letter.stamp.clock ≤ below → letter.link.epoch ≤ letter.stamp.clock → BodyKept script letter.stamp.clock letter.body → IsUpTo below below t
    → HoldsOf (upto script letter.set stamp below below) [] (arrive stamp letter t)
arrives-upto script below stamp letter t clock older link body h =
    by_body letter.body body (learn letter.link t) (learn_upto below below letter.link t (omega (arith, link, older)) h)
  where
    by_body : (b : Body) → BodyKept script letter.stamp.clock b → (u : SetState) → IsUpTo below below u
        → HoldsOf (upto script letter.set stamp below below) [] (take_body letter.set stamp b u)
    by_body (AskBody ask marked) kept u hu =
        route-upto script letter.set below below stamp marked (ParkedAsk ask) u [] (omega (arith, clock)) (λ mark. tt) (hu, tt)
    by_body (TellBody tell) kept u hu =
        route-upto script letter.set below below stamp false (ParkedTell tell) u [] (omega (arith, clock))
        (λ mark. (omega (arith, kept.0, older, clock), kept.1)) (hu, tt)
    by_body (CopyBody ask) kept u hu = (record { link = hu.link; kept = hu.kept; desk = hu.desk }, tt)
    by_body (TokenBody desk) kept u hu = (
      record {
        link = omega (arith, kept.0, older);
        kept = hu.kept;
        desk = all_dealt_upto below below u.parked desk (omega (arith, kept.0, older), omega (arith, kept.1, older));
      },
      tt,
    )
    by_body (FreezeBody number modes) kept u hu = by_test (nat_lt u.number number)
      where
        by_test : (newer : Bool) → HoldsOf (upto script letter.set stamp below below) [] (silent (if newer then record u { frozen = modes; number = number } else u))
        by_test true = (record { link = hu.link; kept = omega (arith, kept, older); desk = hu.desk }, tt)
        by_test false = (hu, tt)

-- the take of a letter
pub timed_take : (script : ScriptData) (below : ℕ) (stamp : Stamp) (letter : Letter) (t : SetState) → stamp.clock ≡ below + 1 → stamp.node < script.nodes
    → letter.stamp.clock ≤ below → letter.link.epoch ≤ letter.stamp.clock → BodyKept script letter.stamp.clock letter.body → IsUpTo below below t
    → HoldsOf (upto script letter.set stamp stamp.clock stamp.clock) [] (take stamp letter t)
timed_take script below stamp letter t clock named older link body h =
    take_by_effects stamp letter _ _ _ (timed_ends script letter.set below stamp clock named) t []
    (arrives-upto script below stamp letter t clock older link body h)
