-- What the exit statuses, their texts, the limits and what `soak` makes and writes are.
use Rattle.std.specs.Prelude.{◌≡◌, ℕ, [], codes}
use Rattle.lt_script.specs.declared.fault.Fault.TheVariants as faults
use Rattle.lt_io.specs.declared.piece.TheConstants.{MAX_PIECE}
use Rattle.lt_call.specs.Outcomes.{exit_code}
use Rattle.lt_held.specs.HeldData.{most_locks}
use Rattle.lt_gen.specs.Generator.{HasSizes}
use Rattle.lt_tally.specs.Summary.{summary_text}
use Rattle.lt_spec.specs.declared.moves.TheConstants.{MAX_MOVES}
use Rattle.lt_mail.specs.declared.opening.TheConstants.{MAX_CAPACITY}
use Rattle.lt_checker.specs.declared.limits.TheConstants.{MAX_JOURNAL}
use Rattle.lt_serve.specs.declared.limits.TheConstants.{MAX_INPUT}
use Rattle.lt_serve.specs.declared.status.Status.{Status}
use Rattle.lt_serve.specs.declared.status.Status.TheVariants.{Done, Stuck, Usage, Refused, TooLong, ReadFault, WriteFault, NoMemory, Cut, BadJournal}
use Rattle.lt_serve.specs.Status.{outcome_of, status_text}
use Rattle.lt_serve.specs.TopCall.{greatest_script}

-- the fault that a script of nothing has
abbrev pub fault_of_nothing : Status
fault_of_nothing = Refused (record { line = 1; fault = faults.Nodes })

pub record CodesAre : Type 0 where
  pub done : exit_code (outcome_of Done) ≡ 0
  pub usage : exit_code (outcome_of Usage) ≡ 1
  pub refused : exit_code (outcome_of fault_of_nothing) ≡ 2
  pub too_long : exit_code (outcome_of TooLong) ≡ 2
  pub stuck : exit_code (outcome_of Stuck) ≡ 3
  pub read_fault : exit_code (outcome_of ReadFault) ≡ 4
  pub write_fault : exit_code (outcome_of WriteFault) ≡ 5
  pub no_memory : exit_code (outcome_of NoMemory) ≡ 6
  pub cut : exit_code (outcome_of (Cut 7)) ≡ 7
  pub bad_journal : exit_code (outcome_of (BadJournal 4)) ≡ 8

pub record TextsAre : Type 0 where
  pub done : status_text Done ≡ []
  pub stuck : status_text Stuck ≡ []
  pub usage : status_text Usage ≡ codes "lockrun: usage: run | sim first | sim SEED | check | make NODES CLIENTS COMMANDS SEED | soak SEED | order"
  pub refused : status_text fault_of_nothing ≡ codes "lockrun: line 1: S5"
  pub too_long : status_text TooLong ≡ codes "lockrun: input too long"
  pub read_fault : status_text ReadFault ≡ codes "lockrun: read fault"
  pub write_fault : status_text WriteFault ≡ codes "lockrun: write fault"
  pub no_memory : status_text NoMemory ≡ codes "lockrun: no memory"
  pub cut : status_text (Cut 7) ≡ codes "lockrun: cut at node 7"
  pub bad_journal : status_text (BadJournal 4) ≡ codes "lockrun: line 4: journal"

pub record SoakLimitsAre : Type 0 where
  pub input : MAX_INPUT ≡ 1048576
  pub journal : MAX_JOURNAL ≡ 67108864
  pub capacity : MAX_CAPACITY ≡ 1024
  pub moves : MAX_MOVES ≡ 1073741824
  -- a piece of an input, in bytes
  pub piece : MAX_PIECE ≡ 4096
  -- locks of one mode that a client holds in a set
  pub locks : most_locks ≡ 1152921504606846976

pub record SoakIs : Type 0 where
  -- the script that is made from each seed
  pub sizes : (seed : ℕ) → HasSizes 16 4 64 4096 (greatest_script seed)
  -- the six lines of what a run came to
  pub text :
      summary_text (record { nodes = 16; sets = 4; clients = 64; commands = 4096; held = 1; waiting = 2 })
      ≡ codes "nodes 16\nsets 4\nclients 64\ncommands 4096\nheld 1\nwaiting 2\n"
