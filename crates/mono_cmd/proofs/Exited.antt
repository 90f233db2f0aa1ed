-- What a process exits with, once its words are listed or no memory was found for them.
use Rattle.std.proofs.Common.{◌≡◌, ◌≢◌, ℕ, List, map, Option, Some, None, IfSome, IsSome, refl, sym, subst, inl, inr}
use Rattle.std.specs.Prelude.{option_and_then}
use Rattle.mono_io.specs.Faults.{counted}
use Rattle.mono_io.specs.FileShelf.{FileState, shown_by}
use Rattle.mono_io.specs.StdSink.{WriterState}
use Rattle.mono_words.specs.declared.command.Command.{Command}
use Rattle.mono_forms.specs.declared.status.Status.{Status}
use Rattle.mono_forms.specs.declared.status.Status.TheVariants.{Memory, WriteFault}
use Rattle.mono_words.specs.Commands.{command_of}
use Rattle.mono_cmd.specs.Machines.{Machine, HasExited}
use Rattle.mono_cmd.specs.Promises.{IsRun}
use Rattle.mono_forms.specs.Statuses.{code_of}

pub exited_by_run : (told : Option (Option (List (List ℕ)))) (found : Option Command) (old new : Machine) (s : Status) (code : ℕ)
    → IfSome told (λ words. found ≡ option_and_then command_of words) → code ≡ code_of s
    → IsRun (record { command = found; old = old.shelf; new = new.shelf; status = s; before = old.written; now = new.written })
    → (s ≡ WriteFault → new.faults ≡ counted old.faults) → (s ≢ WriteFault → new.faults ≡ old.faults) → HasExited told old new code
exited_by_run told found old new s code given number is_run write_fault no_write_fault = record {
  command = found;
  given = given;
  exits = inr (record { status = s; number = number; run = is_run; write_fault = write_fault; no_write_fault = no_write_fault });
}

pub exited_without_words : (told : Option (Option (List (List ℕ)))) (old : Machine) (code : ℕ) → code ≡ code_of Memory → IfSome told (λ words. IsSome words) → HasExited told old old code
exited_without_words None old code number text = record { command = None; given = tt; exits = inl (number, refl, tt) }
exited_without_words (Some words) old code number text = record { command = option_and_then command_of words; given = refl; exits = inl (number, refl, text) }

-- a shelf over files and a sink over a writer that were just made are the machine before the run
pub exited_over : (told : Option (Option (List (List ℕ)))) (shelf made_shelf : FileState) (out made_out : WriterState) (new : Machine) (code : ℕ)
    → shelf ≡ made_shelf → out ≡ made_out → HasExited told (record { shelf = shown_by shelf; written = out.contents; faults = out.faults }) new code
    → HasExited told (record { shelf = shown_by made_shelf; written = made_out.contents; faults = made_out.faults }) new code
exited_over told shelf made_shelf out made_out new code same_shelf same_out exited =
    subst (λ (w : WriterState). HasExited told (record { shelf = shown_by made_shelf; written = w.contents; faults = w.faults }) new code) same_out
    (subst (λ (s : FileState). HasExited told (record { shelf = shown_by s; written = out.contents; faults = out.faults }) new code) same_shelf exited)

-- ---- the command of the words, where they are told

-- the words in a slice are those of the list that it shows
pub same_command : {X : Type 0} (bytes : X → List ℕ) (told : Option (Option (List (List ℕ)))) (list slice : List X) → slice ≡ list
    → IfSome told (λ given. command_of (map bytes list) ≡ option_and_then command_of given) → IfSome told (λ given. command_of (map bytes slice) ≡ option_and_then command_of given)
same_command bytes told list slice same is = subst (λ xs. IfSome told (λ given. command_of (map bytes xs) ≡ option_and_then command_of given)) (sym same) is
