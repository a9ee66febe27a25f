-- The names of a script as a journal has them.
use Rattle.std.specs.Prelude.{◌≡◌, ◌++◌, List, IfSome, All}
use Rattle.lt_modes.specs.Modes.{word_of}
use Rattle.lt_modes.specs.Script.{ScriptData, set_name, client_name}
use Rattle.lt_text.specs.Text.{after_space}
use Rattle.lt_journal.specs.declared.wording.ClientWord.{ClientWord}
use Rattle.lt_journal.specs.declared.wording.SetWord.{SetWord}
use Rattle.lt_journal.specs.declared.wording.LockWords.{LockWords}

-- each client's word that is kept is its name behind a space
abbrev pub AreClientWords : ScriptData → List ClientWord → Type 0
AreClientWords script = All (λ own. IfSome own.word (λ word. word ≡ after_space (client_name script own.client)))

-- each set's word that is kept is its name behind a space
abbrev pub AreSetWords : ScriptData → List SetWord → Type 0
AreSetWords script = All (λ own. IfSome own.word (λ word. word ≡ after_space (set_name script own.set)))

-- the words that are kept of each set and mode are theirs, each behind a space
abbrev pub AreLockWords : ScriptData → List LockWords → Type 0
AreLockWords script =
    All (λ own. IfSome own.words (λ words. words ≡ after_space (set_name script own.set) ++ after_space (word_of own.mode)))
