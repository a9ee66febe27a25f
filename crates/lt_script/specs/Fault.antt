-- The numbers and the texts of the faults.
use Rattle.std.specs.Prelude.{ℕ, List, ◌++◌, codes, decimal}
use Rattle.lt_script.specs.declared.fault.Fault.{Fault}
use Rattle.lt_script.specs.declared.fault.ScriptFault.{ScriptFault}
use Rattle.lt_script.specs.declared.fault.ReadError.{ReadError}
use Rattle.lt_script.specs.declared.fault.ReadError.TheVariants as errors
use Rattle.lt_script.specs.declared.fault.Fault.TheVariants.{Bytes, Length, Form, Number, Nodes, Name, Repeated, Unknown, Limit, Mode, Node}

abbrev pub number_of : Fault → ℕ
number_of Bytes = 1
number_of Length = 2
number_of Form = 3
number_of Number = 4
number_of Nodes = 5
number_of Name = 6
number_of Repeated = 7
number_of Unknown = 8
number_of Limit = 9
number_of Mode = 10
number_of Node = 11

-- the text of a script's first fault
abbrev pub text_of_fault : ScriptFault → List ℕ
text_of_fault found = codes "line " ++ decimal found.line ++ codes ": S" ++ decimal (number_of found.fault)

-- the text of what keeps a script from being read
abbrev pub text_of_error : ReadError → List ℕ
text_of_error errors.Memory = codes "no memory"
text_of_error (errors.Fault found) = text_of_fault found
