-- What a process exits with, by what the machine under it gave and holds.
use Rattle.std.specs.Prelude.{◌≡◌, ◌≢◌, ◌⊎◌, ℕ, false, List, Option, None, IfSome, IsSome, option_and_then}
use Rattle.mono_io.specs.Faults.{counted}
use Rattle.mono_io.specs.FileShelf.{FileState}
use Rattle.mono_io.specs.Shelf.{ShelfView, Texts}
use Rattle.mono_io.specs.StdSink.{WriterState}
use Rattle.mono_words.specs.declared.command.Command.{Command}
use Rattle.mono_forms.specs.declared.status.Status.{Status}
use Rattle.mono_forms.specs.declared.status.Status.TheVariants.{Memory, WriteFault}
use Rattle.mono_words.specs.Commands.{command_of}
use Rattle.mono_cmd.specs.Promises.{IsRun}
use Rattle.mono_forms.specs.Statuses.{code_of}

-- what contracts see of a run over a machine at its end
pub record MachineEnd : Type 0 where
  pub code : ℕ
  pub shelf : FileState
  pub out : WriterState

-- a machine's files as a shelf, what its output holds where that is told, and how often a write failed
pub record Machine : Type 0 where
  pub shelf : ShelfView
  pub written : Option (List ℕ)
  pub faults : ℕ

-- a machine before the run, by what its files give, the name of the open one, how often one was opened, and what the output holds
abbrev pub untouched : Option Texts → List ℕ → ℕ → Option (List ℕ) → Machine
untouched texts opened opens written = record {
  shelf = record { texts = texts; chosen = opened; place = None; begun = opens; faults = 0; steady = false };
  written = written;
  faults = 0;
}

-- A run of this command, and the number of its status. A write failed exactly where the status is that of a write fault.
pub record HasRun (command : Option Command) (old new : Machine) (code : ℕ) : Type 0 where
  pub status : Status
  pub number : code ≡ code_of status
  pub run : IsRun (record { command = command; old = old.shelf; new = new.shelf; status = status; before = old.written; now = new.written })
  pub write_fault : status ≡ WriteFault → new.faults ≡ counted old.faults
  pub no_write_fault : status ≢ WriteFault → new.faults ≡ old.faults

-- The process exits with the number of a run of the command that the words are, where they are told: words that aren't text are none.
-- Or no memory was found for the words, which are text where they are told, and nothing was opened or written.
pub record HasExited (told : Option (Option (List (List ℕ)))) (old new : Machine) (code : ℕ) : Type 0 where
  pub command : Option Command
  pub given : IfSome told (λ words. command ≡ option_and_then command_of words)
  pub exits : ((code ≡ code_of Memory) × (new ≡ old) × IfSome told (λ words. IsSome words)) ⊎ HasRun command old new code
