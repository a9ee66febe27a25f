-- What follows where a service is opened with sets for keys, where a key's set is told, and the first fault of a text.
use Rattle.std.proofs.Common.{◌≡◌, ◌≢◌, ◌≤◌, ◌⊎◌, ◌*◌, ◌∷◌, [], inl, inr, ℕ, List, Ok, Err, Option, Some, None, refl, sym, ap, subst, arith, length, ◌∙◌}
use Rattle.std.proofs.lemmas.Option.{same_Some}
use Rattle.lt_modes.specs.declared.command.Command.TheVariants.{Lock}
use Rattle.lt_modes.specs.declared.mode.Mode.TheVariants.{Write}
use Rattle.lt_modes.specs.Script.{ScriptData}
use Rattle.lt_text.specs.Text as text
use Rattle.lt_script.specs.declared.fault.Fault.TheVariants as faults
use Rattle.lt_script.specs.declared.fault.ScriptFault.{ScriptFault}
use Rattle.lt_script.specs.Fault.{number_of}
use Rattle.lt_script.specs.Reading as reading
use Rattle.lt_script.specs.Reading.{read_of}
use Rattle.lt_live.specs.Stations.{IsOpen}
use Rattle.lt_live_c.specs.declared.content.Content.{Content}
use Rattle.lt_live_c.specs.declared.content.Content.TheVariants as contents
use Rattle.lt_live_c.specs.declared.service.Service.{Service}
use Rattle.lt_live_c.specs.KeySets.{key_sets, TellsKey}
use Rattle.lt_live_c.specs.NewSets.{with_next_sets}
use Rattle.lt_live_c.specs.Opening.{IsOpenedOf, IsOpenedWith, HandleOpenedWith, OpenSetsRefused, TellsFault}
use Rattle.lt_live_c.specs.ServicesTold.{OfService, client_text}
use Rattle.lt_live_c.specs.KeysTold.{four_keys_script, KeysTold, unnamed_text, FaultsTold}
use Rattle.lt_live_c.proofs.AddedKeys.{count_all}
use Rattle.lt_live_c.proofs.KeyFamilies.{families_so}
use Rattle.lt_live_c.proofs.ServicesOpened.{with_command, client_read, same_script, script_or_fault}
use Rattle.lt_live_c.proofs.SetsOpened.{added_to, some_or_none}

abbrev keys_with_command : ScriptData
keys_with_command = record four_keys_script { commands = (0, Lock 0 Write) ∷ [] }

four_added : with_next_sets with_command (key_sets 2 2) ≡ Some keys_with_command
four_added = refl

opened_so : (s : Service) → IsOpenedWith client_text (key_sets 2 2) 9 2 s
    → IsOpen four_keys_script 9 2 576460752303423488 s.stations.items s.sessions.items
opened_so s h =
    let whole : h.1 ≡ keys_with_command =
    same_Some h.1 keys_with_command (sym h.3 ∙ added_to h.0 (key_sets 2 2) (Some keys_with_command) h.2 four_added) in
    subst (λ (x : ScriptData). IsOpenedOf x 9 2 s) whole h.4

opened : (new : Option Content) → HandleOpenedWith client_text (key_sets 2 2) 9 2 new
    → OfService new (λ s. IsOpen four_keys_script 9 2 576460752303423488 s.stations.items s.sessions.items)
opened None h = absurd h
opened (Some (contents.Service s)) h = opened_so s h
opened (Some (contents.Station other)) h = absurd h
opened (Some (contents.Session other)) h = absurd h
opened (Some (contents.Journal other)) h = absurd h
opened (Some (contents.Node other)) h = absurd h

few_keys : (families members limit places : ℕ) → members * families ≤ 65535
    → OpenSetsRefused 10 client_text (key_sets families members) limit places → ⊥
few_keys families members limit places few h =
    let many = h.too_many refl in
    let same = same_script many.0 with_command (read_of client_text) many.1 client_read in
    let one = ap (λ (x : ScriptData). length x.sets) same in
    omega (arith, many.2, one, few, count_all families members)

good_keys : (limit places : ℕ) → OpenSetsRefused 11 client_text (key_sets 2 2) limit places → ⊥
good_keys limit places h =
    let bad = h.bad_set refl in
    some_or_none keys_with_command (with_next_sets bad.0 (key_sets 2 2))
    (added_to bad.0 (key_sets 2 2) (Some keys_with_command) bad.1 four_added) bad.2

key_so : (found : Option ℕ) (code was set : ℕ) → TellsKey found code was set → code ≡ 0 → found ≡ Some set
key_so None code was set h e = absurd (omega (arith, h.0, e))
key_so (Some number) code was set h e = ap (λ (n : ℕ). Some n) (sym h.1)

no_key_so : (found : Option ℕ) (code was set : ℕ) → TellsKey found code was set → code ≡ 4 → (found ≡ None) × (set ≡ was)
no_key_so None code was set h e = (refl, h.1)
no_key_so (Some number) code was set h e = absurd (omega (arith, h.0, e))

key_code : (found : Option ℕ) (code was set : ℕ) → TellsKey found code was set → (code ≡ 0) ⊎ (code ≡ 4)
key_code None code was set h = inr h.0
key_code (Some number) code was set h = inl h.0

pub keys_told : KeysTold
keys_told = record {
  opened = opened;
  count = count_all;
  families = families_so;
  few_keys = few_keys;
  good_keys = good_keys;
  key = λ first families members parent key code was set. key_so _ code was set;
  no_key = λ first families members parent key code was set. no_key_so _ code was set;
  key_codes = λ first families members parent key code was set. key_code _ code was set;
}

-- Faults.

abbrev no_name : ScriptFault
no_name = record { line = 2; fault = faults.Name }

unnamed_read : read_of unnamed_text ≡ Err no_name
unfolding reading.script_body reading.read_from text.lines text.cut_at reading.line_step text.words
unnamed_read = refl

same_fault : (a b : ScriptFault) (bytes : List ℕ) → read_of bytes ≡ Err a → read_of bytes ≡ Err b → a ≡ b
same_fault a b bytes e f = cc

line_so : (line_was line fault_was fault : ℕ) → TellsFault unnamed_text 5 line_was line fault_was fault → line ≡ 2
line_so line_was line fault_was fault h =
    let is = h.bad_script refl in
    is.line_is ∙ ap (λ (x : ScriptFault). x.line) (same_fault is.found no_name unnamed_text is.read unnamed_read)

number_so : (line_was line fault_was fault : ℕ) → TellsFault unnamed_text 5 line_was line fault_was fault → fault ≡ 6
number_so line_was line fault_was fault h =
    let is = h.bad_script refl in
    is.number_is ∙ ap (λ (x : ScriptFault). number_of x.fault) (same_fault is.found no_name unnamed_text is.read unnamed_read)

pub faults_told : FaultsTold
faults_told = record {
  line = line_so;
  number = number_so;
  no_script = λ line_was line fault_was fault h.
      let is = h.ok refl in script_or_fault is.0 no_name (read_of unnamed_text) is.1 unnamed_read;
  script = λ bytes script line_was line fault_was fault read h.
      let is = h.bad_script refl in script_or_fault script is.found (read_of bytes) read is.read;
  short = λ bytes line_was line fault_was fault few h. omega (arith, h.too_many refl, few);
  long = λ bytes code line_was line fault_was fault many h. h.long many;
  stays = λ bytes code line_was line fault_was fault other h. h.untold other;
  fault_codes = λ bytes code line_was line fault_was fault h. h.only;
}
