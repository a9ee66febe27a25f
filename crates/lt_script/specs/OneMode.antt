-- What a command of one mode in one set asks for.
use Rattle.std.specs.Prelude.{ℕ, List, codes}
use Rattle.lt_modes.specs.declared.mode.Mode.{Mode}
use Rattle.lt_modes.specs.declared.command.Command.{Command}
use Rattle.lt_modes.specs.declared.command.Command.TheVariants as commands
use Rattle.lt_modes.specs.Modes.{word_of}
use Rattle.lt_script.specs.declared.one_mode.OneMode.{OneMode}
use Rattle.lt_script.specs.declared.one_mode.Verb.{Verb}
use Rattle.lt_script.specs.declared.one_mode.Verb.TheVariants.{Lock, Try, Unlock}
use Rattle.lt_script.specs.Forms.{CommandWordsData, LockWords, TryWords, UnlockWords}

abbrev pub verb_word : Verb → List ℕ
verb_word Lock = codes "lock"
verb_word Try = codes "try"
verb_word Unlock = codes "unlock"

abbrev pub verb_words : Verb → List ℕ → List ℕ → CommandWordsData
verb_words Lock set mode = LockWords set mode
verb_words Try set mode = TryWords set mode
verb_words Unlock set mode = UnlockWords set mode

abbrev pub one_mode_command : Verb → ℕ → Mode → Command
one_mode_command Lock set mode = commands.Lock set mode
one_mode_command Try set mode = commands.Try set mode
one_mode_command Unlock set mode = commands.Unlock set mode

abbrev pub one_mode_seen : OneMode → CommandWordsData
one_mode_seen asked = verb_words asked.verb asked.set.now (word_of asked.mode)
