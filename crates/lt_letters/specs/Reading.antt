-- Reading a letter from left to right, with the first fault that is met.
use Rattle.std.specs.Prelude.{ℕ, zero, suc, Bool, true, false, List, [], ◌∷◌, length, take, drop, Option, Some, None, Result, Ok, Err, nat_lt, ◌==◌, if◌then◌else◌}
use Rattle.std.specs.Int.{Width, w16, w32, w64, byte_len, from_le_bytes}
use Rattle.lt_modes.specs.declared.stamp.Stamp.{Stamp}
use Rattle.lt_modes.specs.declared.ask.Ask.{Ask}
use Rattle.lt_modes.specs.declared.mode.Mode.{Mode}
use Rattle.lt_modes.specs.declared.mode.Mode.TheVariants.{IntentionRead, Read, Upgrade, IntentionWrite, ReadIntentionWrite, Write}
use Rattle.lt_modes.specs.declared.parts.Link.{Link}
use Rattle.lt_modes.specs.declared.parts.Owed.{Owed}
use Rattle.lt_modes.specs.Modes.{Modes}
use Rattle.lt_modes.specs.FiveModes.{modes_of_mask}
use Rattle.lt_modes.specs.State.{Entry, Desk, Tell, Body, AskBody, TellBody, CopyBody, TokenBody, FreezeBody, Letter}
use Rattle.lt_letters.specs.declared.fault.Fault.{Fault}
use Rattle.lt_letters.specs.declared.fault.Fault.TheVariants.{Short, Unknown, TooMany, Trailing}

infixl 10 ◌>>=◌
abbrev pub ◌>>=◌ : {A B : Type 0} → Result A Fault → (A → Result B Fault) → Result B Fault
(Ok x) >>= f = f x
(Err e) >>= f = Err e

-- A field is a value and the bytes after it.

unfoldable pub byte_from : List ℕ → Result (ℕ × List ℕ) Fault
byte_from [] = Err Short
byte_from (b ∷ rest) = Ok (b, rest)

-- a byte that is no greater than this one
unfoldable pub byte_to : ℕ → List ℕ → Result (ℕ × List ℕ) Fault
byte_to most bytes = do
  b ← byte_from bytes
  if nat_lt most b.0 then Err TooMany else Ok (b.0, b.1)

unfoldable pub number_from : Width → List ℕ → Result (ℕ × List ℕ) Fault
number_from w bytes =
    if nat_lt (length bytes) (byte_len w)
    then Err Short
    else Ok (from_le_bytes w (take (byte_len w) bytes), drop (byte_len w) bytes)

abbrev pub mode_with : ℕ → Option Mode
mode_with b =
    if b == 0 then Some IntentionRead
    else if b == 1 then Some Read
    else if b == 2 then Some Upgrade
    else if b == 3 then Some IntentionWrite
    else if b == 4 then Some ReadIntentionWrite
    else if b == 5 then Some Write
    else None

abbrev pub choice_with : ℕ → Option (Option Mode)
choice_with b =
    if b == 0 then Some (Some IntentionRead)
    else if b == 1 then Some (Some Read)
    else if b == 2 then Some (Some Upgrade)
    else if b == 3 then Some (Some IntentionWrite)
    else if b == 4 then Some (Some ReadIntentionWrite)
    else if b == 5 then Some (Some Write)
    else if b == 6 then Some None
    else None

abbrev pub flag_with : ℕ → Option Bool
flag_with b = if b == 0 then Some false else if b == 1 then Some true else None

abbrev pub modes_with : ℕ → Option Modes
modes_with b = if nat_lt b 64 then Some (modes_of_mask b) else None

abbrev pub known_value : {A : Type 0} → List ℕ → Option A → Result (A × List ℕ) Fault
known_value rest None = Err Unknown
known_value rest (Some x) = Ok (x, rest)

-- a byte that stands for one of a few values
unfoldable pub one_of : {A : Type 0} → (ℕ → Option A) → List ℕ → Result (A × List ℕ) Fault
one_of value bytes = do
  b ← byte_from bytes
  known_value b.1 (value b.0)

-- so many values, one after the other
unfoldable pub many_from : {A : Type 0} → (List ℕ → Result (A × List ℕ) Fault) → ℕ → List ℕ
    → Result (List A × List ℕ) Fault
many_from read zero bytes = Ok ([], bytes)
many_from read (suc n) bytes = do
  first ← read bytes
  others ← many_from read n first.1
  Ok (first.0 ∷ others.0, others.1)

unfoldable pub list_from : {A : Type 0} → (List ℕ → Result (ℕ × List ℕ) Fault)
    → (List ℕ → Result (A × List ℕ) Fault) → List ℕ → Result (List A × List ℕ) Fault
list_from count read bytes = do
  n ← count bytes
  many_from read n.0 n.1

unfoldable pub stamp_from : List ℕ → Result (Stamp × List ℕ) Fault
stamp_from bytes = do
  clock ← number_from w64 bytes
  node ← byte_from clock.1
  Ok (record { clock = clock.0; node = node.0 }, node.1)

unfoldable pub link_from : List ℕ → Result (Link × List ℕ) Fault
link_from bytes = do
  node ← byte_from bytes
  epoch ← number_from w64 node.1
  Ok (record { node = node.0; epoch = epoch.0 }, epoch.1)

unfoldable pub owed_from : List ℕ → Result (Owed × List ℕ) Fault
owed_from bytes = do
  stamp ← stamp_from bytes
  mode ← one_of mode_with stamp.1
  Ok (record { stamp = stamp.0; mode = mode.0 }, mode.1)

unfoldable pub ask_from : List ℕ → Result (Ask × List ℕ) Fault
ask_from bytes = do
  client ← number_from w16 bytes
  node ← byte_from client.1
  mode ← one_of mode_with node.1
  gives_up ← one_of choice_with mode.1
  holder ← one_of flag_with gives_up.1
  stamp ← stamp_from holder.1
  Ok (
    record {
      client = client.0;
      node = node.0;
      mode = mode.0;
      gives_up = gives_up.0;
      holder = holder.0;
      stamp = stamp.0;
    },
    stamp.1,
  )

unfoldable pub stamps_from : List ℕ → Result (List Stamp × List ℕ) Fault
stamps_from bytes = list_from (byte_to 16) stamp_from bytes

unfoldable pub all_owed_from : List ℕ → Result (List Owed × List ℕ) Fault
all_owed_from bytes = list_from (number_from w64) owed_from bytes

unfoldable pub asks_from : List ℕ → Result (List Ask × List ℕ) Fault
asks_from bytes = list_from (number_from w32) ask_from bytes

unfoldable pub entry_from : List ℕ → Result (Entry × List ℕ) Fault
entry_from bytes = do
  reported ← one_of modes_with bytes
  owed ← all_owed_from reported.1
  told_at ← stamp_from owed.1
  pending ← stamps_from told_at.1
  frozen_told ← one_of modes_with pending.1
  Ok (
    record {
      reported = reported.0;
      owed = owed.0;
      told_at = told_at.0;
      pending = pending.0;
      frozen_told = frozen_told.0;
    },
    frozen_told.1,
  )

unfoldable pub entries_from : List ℕ → Result (List Entry × List ℕ) Fault
entries_from bytes = list_from (byte_to 64) entry_from bytes

unfoldable pub desk_from : List ℕ → Result (Desk × List ℕ) Fault
desk_from bytes = do
  epoch ← number_from w64 bytes
  number ← number_from w64 epoch.1
  queue ← asks_from number.1
  entries ← entries_from queue.1
  Ok (record { epoch = epoch.0; number = number.0; queue = queue.0; entries = entries.0 }, entries.1)

unfoldable pub tell_from : List ℕ → Result (Tell × List ℕ) Fault
tell_from bytes = do
  node ← byte_from bytes
  modes ← one_of modes_with node.1
  pending ← stamps_from modes.1
  stamp ← stamp_from pending.1
  Ok (record { node = node.0; modes = modes.0; pending = pending.0; stamp = stamp.0 }, stamp.1)

unfoldable pub asking_from : List ℕ → Result (Body × List ℕ) Fault
asking_from bytes = do
  ask ← ask_from bytes
  by_hoped ← one_of flag_with ask.1
  Ok (AskBody ask.0 by_hoped.0, by_hoped.1)

unfoldable pub telling_from : List ℕ → Result (Body × List ℕ) Fault
telling_from bytes = do
  tell ← tell_from bytes
  Ok (TellBody tell.0, tell.1)

unfoldable pub copy_from : List ℕ → Result (Body × List ℕ) Fault
copy_from bytes = do
  ask ← ask_from bytes
  Ok (CopyBody ask.0, ask.1)

unfoldable pub token_from : List ℕ → Result (Body × List ℕ) Fault
token_from bytes = do
  desk ← desk_from bytes
  Ok (TokenBody desk.0, desk.1)

unfoldable pub freeze_from : List ℕ → Result (Body × List ℕ) Fault
freeze_from bytes = do
  number ← number_from w64 bytes
  modes ← one_of modes_with number.1
  Ok (FreezeBody number.0 modes.0, modes.1)

unfoldable pub body_of_kind : ℕ → List ℕ → Result (Body × List ℕ) Fault
body_of_kind kind bytes =
    if kind == 0 then asking_from bytes
    else if kind == 1 then telling_from bytes
    else if kind == 2 then copy_from bytes
    else if kind == 3 then token_from bytes
    else if kind == 4 then freeze_from bytes
    else Err Unknown

unfoldable pub body_from : List ℕ → Result (Body × List ℕ) Fault
body_from bytes = do
  kind ← byte_from bytes
  body_of_kind kind.0 kind.1

unfoldable pub letter_from : List ℕ → Result (Letter × List ℕ) Fault
letter_from bytes = do
  stamp ← stamp_from bytes
  set ← number_from w32 stamp.1
  link ← link_from set.1
  body ← body_from link.1
  Ok (record { stamp = stamp.0; set = set.0; link = link.0; body = body.0 }, body.1)

-- all of the bytes
unfoldable pub whole_from : List ℕ → Result Letter Fault
whole_from bytes = do
  letter ← letter_from bytes
  if length letter.1 == 0 then Ok letter.0 else Err Trailing
