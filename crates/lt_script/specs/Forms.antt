-- The forms of a script's lines, with their words.
use Rattle.std.specs.Prelude.{ℕ, ◌==◌, Bool, true, List, [], ◌∷◌, Option, Some, None, codes, if◌then◌else◌, option_map, bytes_eq}
use Rattle.lt_script.specs.declared.form.Form.{Form}
use Rattle.lt_script.specs.declared.form.Form.TheVariants.{Version2, Version3, Nodes, Set, SetWith, Client, Command}
use Rattle.lt_script.specs.declared.form.CommandWords.{CommandWords}
use Rattle.lt_script.specs.declared.form.CommandWords.TheVariants.{Lock, Try, Unlock, Change, Drop, Withdraw}

-- what a client asks for: words of sets, clients and modes
pub data CommandWordsData : Type 0 where
  LockWords : List ℕ → List ℕ → CommandWordsData
  TryWords : List ℕ → List ℕ → CommandWordsData
  UnlockWords : List ℕ → List ℕ → CommandWordsData
  ChangeWords : List ℕ → List ℕ → List ℕ → CommandWordsData
  DropWords : List ℕ → List ℕ → CommandWordsData
  WithdrawWords : List ℕ → List ℕ → CommandWordsData

-- a line by its form
pub data FormData : Type 0 where
  Version2Form : FormData
  Version3Form : FormData
  NodesForm : List ℕ → FormData
  SetForm : List ℕ → FormData
  SetWithForm : List ℕ → List ℕ → FormData
  ClientForm : List ℕ → List ℕ → FormData
  CommandForm : List ℕ → CommandWordsData → FormData

-- `version 2` and `version 3`
abbrev pub version_form : List (List ℕ) → Option FormData
version_form (n ∷ []) = if bytes_eq n (codes "2") then Some Version2Form else if bytes_eq n (codes "3") then Some Version3Form else None
version_form words = None

-- `nodes N`
abbrev pub nodes_form : List (List ℕ) → Option FormData
nodes_form (n ∷ []) = Some (NodesForm n)
nodes_form words = None

-- `set S` and `set S with T`
abbrev pub set_form : List (List ℕ) → Option FormData
set_form (s ∷ []) = Some (SetForm s)
set_form (s ∷ w ∷ t ∷ []) = if bytes_eq w (codes "with") then Some (SetWithForm s t) else None
set_form words = None

-- `client C at N`
abbrev pub client_form : List (List ℕ) → Option FormData
client_form (c ∷ w ∷ n ∷ []) = if bytes_eq w (codes "at") then Some (ClientForm c n) else None
client_form words = None

-- `lock S M`, `try S M`, `unlock S M`, `drop D S` and `withdraw D S`
abbrev pub asked_in_two : List ℕ → List ℕ → List ℕ → Option CommandWordsData
asked_in_two verb a b =
    if bytes_eq verb (codes "lock") then Some (LockWords a b)
    else if bytes_eq verb (codes "try") then Some (TryWords a b)
    else if bytes_eq verb (codes "unlock") then Some (UnlockWords a b)
    else if bytes_eq verb (codes "drop") then Some (DropWords a b)
    else if bytes_eq verb (codes "withdraw") then Some (WithdrawWords a b)
    else None

-- these, and `change S G M`
abbrev pub asked_of : List (List ℕ) → Option CommandWordsData
asked_of (verb ∷ a ∷ b ∷ []) = asked_in_two verb a b
asked_of (verb ∷ a ∷ b ∷ c ∷ []) = if bytes_eq verb (codes "change") then Some (ChangeWords a b c) else None
asked_of words = None

-- the form of a line with these words, in a script of any version: the first word decides whether it declares something
-- or is a command
abbrev pub form_of : List (List ℕ) → Option FormData
form_of [] = None
form_of (w ∷ ws) =
    if bytes_eq w (codes "version") then version_form ws
    else if bytes_eq w (codes "nodes") then nodes_form ws
    else if bytes_eq w (codes "set") then set_form ws
    else if bytes_eq w (codes "client") then client_form ws
    else option_map (CommandForm w) (asked_of ws)

-- `withdraw` came with version 3
abbrev pub is_asked_in : ℕ → CommandWordsData → Bool
is_asked_in version (LockWords set mode) = true
is_asked_in version (TryWords set mode) = true
is_asked_in version (UnlockWords set mode) = true
is_asked_in version (ChangeWords set gives_up mode) = true
is_asked_in version (DropWords other set) = true
is_asked_in version (WithdrawWords other set) = version == 3

-- so did the line `version 3`; the other forms are of each version
abbrev pub is_form_in : ℕ → FormData → Bool
is_form_in version Version2Form = true
is_form_in version Version3Form = version == 3
is_form_in version (NodesForm n) = true
is_form_in version (SetForm s) = true
is_form_in version (SetWithForm s t) = true
is_form_in version (ClientForm c n) = true
is_form_in version (CommandForm c asked) = is_asked_in version asked

-- the form, where it is one of this version
abbrev pub of_version : ℕ → Option FormData → Option FormData
of_version version None = None
of_version version (Some form) = if is_form_in version form then Some form else None

-- the form of a line with these words in a script of this version
abbrev pub form_in : ℕ → List (List ℕ) → Option FormData
form_in version words = of_version version (form_of words)

-- what the code's values stand for

abbrev pub asked_seen : CommandWords → CommandWordsData
asked_seen (Lock set mode) = LockWords set.now mode.now
asked_seen (Try set mode) = TryWords set.now mode.now
asked_seen (Unlock set mode) = UnlockWords set.now mode.now
asked_seen (Change set gives_up mode) = ChangeWords set.now gives_up.now mode.now
asked_seen (Drop client set) = DropWords client.now set.now
asked_seen (Withdraw client set) = WithdrawWords client.now set.now

abbrev pub form_seen : Form → FormData
form_seen Version2 = Version2Form
form_seen Version3 = Version3Form
form_seen (Nodes nodes) = NodesForm nodes.now
form_seen (Set name) = SetForm name.now
form_seen (SetWith name first) = SetWithForm name.now first.now
form_seen (Client name node) = ClientForm name.now node.now
form_seen (Command client asked) = CommandForm client.now (asked_seen asked)
