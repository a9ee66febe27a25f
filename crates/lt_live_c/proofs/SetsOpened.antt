-- What follows where C is told the number of a set, and where a service is opened with further sets.
use Rattle.std.proofs.Common.{◌≡◌, ◌≢◌, ◌≤◌, ◌∷◌, [], ℕ, List, Ok, Option, Some, None, refl, sym, ap, subst, arith, codes, length, ◌∙◌}
use Rattle.std.proofs.lemmas.Bool.{false≢true}
use Rattle.std.proofs.lemmas.Option.{same_Some}
use Rattle.lt_modes.specs.declared.command.Command.TheVariants.{Lock}
use Rattle.lt_modes.specs.declared.mode.Mode.TheVariants.{Write}
use Rattle.lt_modes.specs.Script.{ScriptData}
use Rattle.lt_spec.specs.Script.{set_number}
use Rattle.lt_script.specs.Reading.{read_of}
use Rattle.lt_live.specs.Stations.{IsOpen}
use Rattle.lt_live_c.specs.declared.content.Content.{Content}
use Rattle.lt_live_c.specs.declared.content.Content.TheVariants as contents
use Rattle.lt_live_c.specs.declared.service.Service.{Service}
use Rattle.lt_live_c.specs.Calls.{TellsNumber, HandleTellsSet}
use Rattle.lt_live_c.specs.NewSets.{SetWords, with_next_sets}
use Rattle.lt_live_c.specs.Opening.{IsOpenedOf, IsOpenedWith, HandleOpenedWith, OpenSetsRefused}
use Rattle.lt_live_c.specs.Told.{kind_of}
use Rattle.lt_live_c.specs.ServicesTold.{OfService, client_text}
use Rattle.lt_live_c.specs.SetsTold.{set_with, set_alone, two_more, three_set_script, AfterName, NamesTold, NeverOpened, OpensSetsTold}
use Rattle.lt_live_c.proofs.ServicesOpened.{with_command, client_read, same_script, script_or_fault, fits}

-- The number of a name.

told_of : (name : List ℕ) (found : Option ℕ) → set_number three_set_script name ≡ found
    → AfterName name (λ code was set. TellsNumber found code was set)
told_of name found e s code was set is h =
    subst (λ (o : Option ℕ). TellsNumber o code was set) (ap (λ (x : ScriptData). set_number x name) is ∙ e) h

no_session : (content : Content) (name : List ℕ) (code was set : ℕ) → kind_of content ≢ 2
    → HandleTellsSet (Some content) name code was set → (code ≡ 2) × (set ≡ was)
no_session (contents.Service s) name code was set other h = h
no_session (contents.Station x) name code was set other h = h
no_session (contents.Session s) name code was set other h = absurd (other refl)
no_session (contents.Journal journal) name code was set other h = h
no_session (contents.Node node) name code was set other h = h

pub names_told : NamesTold
names_told = record {
  first = told_of (codes "s") (Some 0) refl;
  third = told_of (codes "u") (Some 2) refl;
  no_set = told_of (codes "a") None refl;
  no_session = no_session;
}

-- Further sets.

abbrev three_with_command : ScriptData
three_with_command = record three_set_script { commands = (0, Lock 0 Write) ∷ [] }

two_added : with_next_sets with_command two_more ≡ Some three_with_command
two_added = refl

-- the script of the text is this one, and so the further sets are added to it
pub added_to : (script : ScriptData) (sets : List SetWords) (o : Option ScriptData) → read_of client_text ≡ Ok script
    → with_next_sets with_command sets ≡ o → with_next_sets script sets ≡ o
added_to script sets o read added =
    ap (λ (x : ScriptData). with_next_sets x sets) (same_script script with_command (read_of client_text) read client_read) ∙ added

pub some_or_none : (script : ScriptData) (o : Option ScriptData) → o ≡ Some script → o ≡ None → ⊥
some_or_none script o e f = cc

opened_so : (s : Service) → IsOpenedWith client_text two_more 9 2 s
    → IsOpen three_set_script 9 2 576460752303423488 s.stations.items s.sessions.items
opened_so s h =
    let whole : h.1 ≡ three_with_command =
    same_Some h.1 three_with_command (sym h.3 ∙ added_to h.0 two_more (Some three_with_command) h.2 two_added) in
    subst (λ (x : ScriptData). IsOpenedOf x 9 2 s) whole h.4

opened : (new : Option Content) → HandleOpenedWith client_text two_more 9 2 new
    → OfService new (λ s. IsOpen three_set_script 9 2 576460752303423488 s.stations.items s.sessions.items)
opened None h = absurd h
opened (Some (contents.Service s)) h = opened_so s h
opened (Some (contents.Station other)) h = absurd h
opened (Some (contents.Session other)) h = absurd h
opened (Some (contents.Journal other)) h = absurd h
opened (Some (contents.Node other)) h = absurd h

never : (sets : List SetWords) → with_next_sets with_command sets ≡ None → NeverOpened sets
never sets none None h = h
never sets none (Some (contents.Service s)) h = some_or_none h.1 (with_next_sets h.0 sets) h.3 (added_to h.0 sets None h.2 none)
never sets none (Some (contents.Station other)) h = h
never sets none (Some (contents.Session other)) h = h
never sets none (Some (contents.Journal other)) h = h
never sets none (Some (contents.Node other)) h = h

few_sets : (sets : List SetWords) (limit places : ℕ) → length sets ≤ 65535 → OpenSetsRefused 10 client_text sets limit places → ⊥
few_sets sets limit places few h =
    let many = h.too_many refl in
    let same = same_script many.0 with_command (read_of client_text) many.1 client_read in
    let one = ap (λ (x : ScriptData). length x.sets) same in
    omega (arith, many.2, one, few)

good_sets : (limit places : ℕ) → OpenSetsRefused 11 client_text two_more limit places → ⊥
good_sets limit places h =
    let bad = h.bad_set refl in
    some_or_none three_with_command (with_next_sets bad.0 two_more) (added_to bad.0 two_more (Some three_with_command) bad.1 two_added) bad.2

no_fault : (bytes : List ℕ) (sets : List SetWords) (limit places : ℕ) (script : ScriptData)
    → read_of bytes ≡ Ok script → OpenSetsRefused 5 bytes sets limit places → ⊥
no_fault bytes sets limit places script read h =
    let fault = h.bad_script refl in
    script_or_fault script fault.0 (read_of bytes) read fault.1

pub opens_sets_told : OpensSetsTold
opens_sets_told = record {
  opened = opened;
  name_of_set = never (set_alone (codes "s") ∷ []) refl;
  name_of_client = never (set_alone (codes "a") ∷ []) refl;
  no_name = never (set_alone (codes "7") ∷ []) refl;
  same_name = never (set_alone (codes "t") ∷ set_alone (codes "t") ∷ []) refl;
  no_parent = never (set_with (codes "t") (codes "a") ∷ []) refl;
  later_parent = never (set_with (codes "t") (codes "u") ∷ set_alone (codes "u") ∷ []) refl;
  sets_in_range = λ bytes sets limit places few some_moves few_moves some_places few_places h.
      false≢true (sym (h.bad_argument refl) ∙ fits bytes limit places few some_moves few_moves some_places few_places);
  sets_out_of_range = λ code bytes sets limit places not h. h.unfit not;
  sets_no_fault = no_fault;
  few_sets = few_sets;
  good_sets = good_sets;
  sets_codes = λ code bytes sets limit places h. h.only;
}
