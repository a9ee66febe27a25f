-- What is printed of an error.
use Rattle.std.specs.Prelude.{ℕ, List, codes}
use Rattle.lt_live_callers.specs.declared.error.CallersError.{CallersError}
use Rattle.lt_live_callers.specs.declared.error.CallersError.TheVariants.{Count, Limit, NoMemory}

abbrev pub error_text : CallersError → List ℕ
error_text Count = codes "there isn't one caller for each client"
error_text Limit = codes "a node may make no move, or more than it ever may"
error_text NoMemory = codes "no memory"
