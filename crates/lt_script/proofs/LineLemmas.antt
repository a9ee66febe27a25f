-- What a line of a command comes to by what its words are found to be, and what a client's line without a fault says.
use Rattle.std.proofs.Common.{◌≡◌, ℕ, ◌<◌, ◌||◌, Bool, true, false, not, nat_le, List, length, Option, Some, None, unwrap_or, Ok, Err, if◌then◌else◌, refl}
use Rattle.std.proofs.lemmas.Bool.{lt-leb, leb-false, ltb-true, or_parts}
use Rattle.lt_modes.specs.declared.mode.Mode.{Mode}
use Rattle.lt_modes.specs.declared.command.Command.{Command}
use Rattle.lt_modes.specs.Script.{ScriptData}
use Rattle.lt_spec.specs.declared.limits.TheConstants.{MAX_COMMANDS, MAX_CLIENTS_OF_NODE}
use Rattle.lt_spec.specs.Script.{is_name, most_clients, load_of, client_number, is_declared}
use Rattle.lt_text.specs.Number.{number}
use Rattle.lt_script.specs.declared.fault.Fault.{Fault}
use Rattle.lt_script.specs.declared.fault.Fault.TheVariants as faults
use Rattle.lt_script.specs.declared.one_mode.Verb.{Verb}
use Rattle.lt_script.specs.declared.one_mode.Verb.TheVariants.{Lock, Try, Unlock}
use Rattle.lt_script.specs.Forms.{ClientForm, CommandForm}
use Rattle.lt_script.specs.Faults.{is_below, form_fault}
use Rattle.lt_script.specs.OneMode.{verb_words, one_mode_command}
use Rattle.lt_script.specs.Steps.{Resolves, FindsSetAndMode}

-- a verb with a set and a mode that are found
pub verb_found : (s : ScriptData) (name set word : List ℕ) (verb : Verb) (client found : ℕ) (mode : Mode) (command : Command) → client_number s name ≡ Some client → client < length s.clients
    → FindsSetAndMode s set word (Ok (found, mode)) → command ≡ one_mode_command verb found mode → Resolves s (CommandForm name (verb_words verb set word)) (Ok (client, command))
verb_found s name set word Lock client found mode command known inside h is =
    rw is (rw (known, h.0, lt-leb MAX_COMMANDS (length s.commands) h.2, h.3) refl, rw (known, h.0, h.4) refl, h.2, (inside, h.1), h.5)
verb_found s name set word Try client found mode command known inside h is =
    rw is (rw (known, h.0, lt-leb MAX_COMMANDS (length s.commands) h.2, h.3) refl, rw (known, h.0, h.4) refl, h.2, (inside, h.1), h.5)
verb_found s name set word Unlock client found mode command known inside h is =
    rw is (rw (known, h.0, lt-leb MAX_COMMANDS (length s.commands) h.2, h.3) refl, rw (known, h.0, h.4) refl, h.2, (inside, h.1), h.5)

-- a verb with a set or a mode that is not
pub verb_fault : (s : ScriptData) (name set word : List ℕ) (verb : Verb) (client : ℕ) (fault : Fault) → client_number s name ≡ Some client → FindsSetAndMode s set word (Err fault)
    → Resolves s (CommandForm name (verb_words verb set word)) (Err fault)
verb_fault s name set word Lock client fault known h = rw known h
verb_fault s name set word Try client fault known h = rw known h
verb_fault s name set word Unlock client fault known h = rw known h

-- what a line that declares a client says if it has no fault
pub record IsCleanClient (s : ScriptData) (name node : List ℕ) : Type 0 where
  pub below : unwrap_or (number node) 0 < s.nodes
  pub named : is_name name ≡ true
  pub new : is_declared s name ≡ false
  pub room : length s.clients < most_clients s.version
  pub load : load_of s.clients (unwrap_or (number node) 0) < MAX_CLIENTS_OF_NODE

none_true : (bad unnamed again full : Bool)
    → (if bad then Some faults.Number else if unnamed then Some faults.Name else if again then Some faults.Repeated else if full then Some faults.Limit else None) ≡ None
    → (bad ≡ false) × (unnamed ≡ false) × (again ≡ false) × (full ≡ false)
none_true true unnamed again full e = absurd (cc)
none_true false true again full e = absurd (cc)
none_true false false true full e = absurd (cc)
none_true false false false true e = absurd (cc)
none_true false false false false e = (refl, refl, refl, refl)

not_false : (b : Bool) → not b ≡ false → b ≡ true
not_false true e = refl
not_false false e = absurd (cc)

below_found : (bound : ℕ) (o : Option ℕ) → is_below bound o ≡ true → unwrap_or o 0 < bound
below_found bound (Some n) e = ltb-true n bound e
below_found bound None e = absurd (cc)

pub client_clean : (s : ScriptData) (name node : List ℕ) → form_fault s.version (Some s) (ClientForm name node) ≡ None → IsCleanClient s name node
client_clean s name node clean =
    let load = load_of s.clients (unwrap_or (number node) 0) in
    let none = none_true (not (is_below s.nodes (number node))) (not (is_name name)) (is_declared s name) (nat_le (most_clients s.version) (length s.clients) || nat_le MAX_CLIENTS_OF_NODE load) clean in
    let full = or_parts (nat_le (most_clients s.version) (length s.clients)) (nat_le MAX_CLIENTS_OF_NODE load) none.3 in
    record {
      below = below_found s.nodes (number node) (not_false (is_below s.nodes (number node)) none.0);
      named = not_false (is_name name) none.1;
      new = none.2;
      room = leb-false (most_clients s.version) (length s.clients) full.0;
      load = leb-false MAX_CLIENTS_OF_NODE load full.1;
    }
