-- What is at home is sound, as far as homes go, and was made there.
use Rattle.std.proofs.Common.{◌≡◌, ℕ, zero, suc, ◌<◌, List, [], ◌∷◌, length, map, refl, sym, ap, subst, arith, ◌∙◌, IsTrue, All, Contains, slice_get, slice_index, filter_map, eq-eqb, lt-ltb}
use Rattle.std.specs.List.{AllByRecursion}
use Rattle.std.proofs.lemmas.Bool.{and_from}
use Rattle.std.proofs.lemmas.List.{length-map}
use Rattle.std.proofs.lemmas.List.Elements.{All-append, All-contains, All-weaker, All-from_recursion, recursion_from_All}
use Rattle.lt_modes.specs.declared.stamp.Stamp.{Stamp}
use Rattle.lt_modes.specs.declared.ask.Ask.{Ask}
use Rattle.lt_modes.specs.declared.parts.Row.{Row}
use Rattle.lt_modes.specs.Fits.{is_at_home, ask_if, parked_asks, numbers_of}
use Rattle.lt_modes.specs.Script.{ScriptData, ClientData, node_of_client}
use Rattle.lt_modes.specs.Serving.{queue_of}
use Rattle.lt_modes.specs.Sound.{SoundRow, SoundParked}
use Rattle.lt_modes.specs.State.{SetState, Parked, ParkedAsk, ParkedTell}
use Rattle.lt_model.specs.Homes.{IsRowAtHome, IsAskAtHome, IsAskOf, IsParkedAtHome, IsStateAtHome, IsSoundOwn, HasSoundHomes, HomesSound, StampsApart}
use Rattle.lt_spec.specs.NodeMove.{IsWhole}
use Rattle.lt_model.proofs.HomesMove.{homes_in_runs}

pub home_among : (clients : List ClientData) (k : ℕ) → k < length clients
    → slice_index (map (λ (client : ClientData). client.node) clients) k ≡ node_of_client (slice_get clients k)
home_among [] k h = absurd (omega (arith, h))
home_among (client ∷ rest) zero h = refl
home_among (client ∷ rest) (suc k) h = home_among rest k (omega (arith, h))

pub known_among : (script : ScriptData) (client : ℕ) → client < length script.clients → client < length (numbers_of script).homes
known_among script client h = omega (arith, h, length-map script.clients (λ (data_of : ClientData). data_of.node))

sound_row : (script : ScriptData) (q : ℕ) (row : Row) → IsRowAtHome script q row → SoundRow (numbers_of script) q row
sound_row script q row h = record {
  client = known_among script row.client h.client;
  home = home_among script.clients row.client h.client ∙ h.home;
  count = h.count;
}

pub sound_ask : (script : ScriptData) (ask : Ask) → IsWhole script → IsAskAtHome script ask → IsTrue (is_at_home (numbers_of script) ask)
sound_ask script ask whole h =
    let named : ask.node < script.nodes = subst (λ (x : ℕ). x < script.nodes) h.home (whole.homes ask.client h.client) in
    and_from _ _ (lt-ltb ask.node script.nodes named)
    (and_from _ _ (lt-ltb ask.client (length (numbers_of script).homes) (known_among script ask.client h.client))
    (eq-eqb _ ask.node (home_among script.clients ask.client h.client ∙ h.home)))

sound_parked : (script : ScriptData) (item : Parked) → IsParkedAtHome script item → SoundParked (numbers_of script) item
sound_parked script (ParkedAsk ask) h = tt
sound_parked script (ParkedTell tell) h = h

parked_home : (script : ScriptData) (items : List Parked) → AllByRecursion (IsParkedAtHome script) items
    → AllByRecursion (IsAskAtHome script) (filter_map ask_if items)
parked_home script [] h = tt
parked_home script (ParkedAsk ask ∷ rest) h = (h.0, parked_home script rest h.1)
parked_home script (ParkedTell tell ∷ rest) h = parked_home script rest h.1

pub sound_state : (script : ScriptData) (q : ℕ) (s : SetState) → IsWhole script → IsStateAtHome script q s → HasSoundHomes script q s
sound_state script q s whole h = record {
  rows = All-weaker (IsRowAtHome script q) _ (sound_row script q) s.held h.rows;
  pending = All-weaker (IsAskOf script q) (IsSoundOwn script q) (λ ask own. (sound_ask script ask whole own.0, own.1, own.0.maker ∙ own.1)) s.pending h.pending;
  here = All-weaker (IsAskAtHome script) _ (λ ask own. sound_ask script ask whole own) _
      (All-append (IsAskAtHome script) (parked_asks s) (queue_of s)
      (All-from_recursion (IsAskAtHome script) (parked_asks s)
      (parked_home script s.parked (recursion_from_All (IsParkedAtHome script) s.parked h.parked))) h.queue);
  parked = All-weaker (IsParkedAtHome script) _ (sound_parked script) s.parked h.parked;
}

pub homes_sound : HomesSound
homes_sound script w whole h x s = sound_state script x _ whole (h.states x s)

-- an unanswered ask of node q was made in a move of q
maker_of : (script : ScriptData) (q : ℕ) (asks : List Ask) (ask : Ask) → All (IsAskOf script q) asks → Contains asks ask → ask.stamp.node ≡ q
maker_of script q asks ask each among = let own = All-contains (IsAskOf script q) asks ask each among in own.0.maker ∙ own.1

pub stamps_apart : StampsApart
stamps_apart script run whole is_run k s t x y a b first second d e =
    let homes = homes_in_runs script run whole is_run k in
    d (sym (maker_of script x _ a (homes.states x s).pending first)
    ∙ (ap (λ (stamp : Stamp). stamp.node) e ∙ maker_of script y _ b (homes.states y t).pending second))
