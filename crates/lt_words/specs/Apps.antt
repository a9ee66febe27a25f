-- What the functions that build the commands for `clap` make.
use Rattle.std.specs.Prelude.{◌≡◌, false}
use Rattle.clap.specs.Words.{App, Rule, app_of, with_rule, with_subcommand}
use Rattle.clap.specs.declared.builder.command.Command.{Command}
use Rattle.clap.specs.declared.builder.command.Command.TheViews.{out-Command}
use Rattle.lt_words.specs.Grammar.{lockrun}

-- `clap` knows the command as this one, and none of its arguments is global
pub record IsApp (command : Command) (app : App) : Type 0 where
  pub is : app_of command ≡ app
  pub local : (out-Command command).has_globals ≡ false

-- `new` is `old` with one more argument, which isn't global
pub record AddsRule (old new : Command) (rule : Rule) : Type 0 where
  pub is : app_of new ≡ with_rule (app_of old) rule
  pub local : (out-Command old).has_globals ≡ false → (out-Command new).has_globals ≡ false

-- `new` is `old` with one more subcommand
pub record AddsApp (old new : Command) (app : App) : Type 0 where
  pub is : app_of new ≡ with_subcommand (app_of old) app.top

-- `clap` knows the command as the program with all its subcommands
pub record IsLockrun (command : Command) : Type 0 where
  pub is : app_of command ≡ lockrun
