-- What a run that ends with `Refused` wrote, by the text that is told of FILE.
use Rattle.std.specs.Prelude.{◌≡◌, ◌⊎◌, ℕ, List, Option, Some}
use Rattle.mono_problem.specs.Assuming.{HasRoom}
use Rattle.mono_problem.specs.Instance.{Instance}
use Rattle.mono_gnf.specs.Faults.{first_fault}
use Rattle.mono_gnf.specs.Stands.{Stands}
use Rattle.mono_gnf.specs.declared.fault.GnfFault.{GnfFault}
use Rattle.mono_gnf.specs.declared.fault.GnfFault.TheVariants as fault
use Rattle.mono_best.specs.Asking.{predicate_of}
use Rattle.mono_best.specs.Bounds.{IsBoundOf}
use Rattle.mono_forms.specs.declared.asking.AskRefusal.{AskRefusal}
use Rattle.mono_words.specs.declared.command.Command.{Command}
use Rattle.mono_words.specs.declared.command.Command.TheVariants as command
use Rattle.mono_forms.specs.declared.ending.Ending.TheVariants as ending
use Rattle.mono_forms.specs.BestTexts.{refusal_text}
use Rattle.mono_forms.specs.Endings.{text_of}
use Rattle.mono_forms.specs.Runs.{IsUnasked}

-- the line and the name of the text's first fault
pub record NamesFault (text written : List ℕ) : Type 0 where
  pub line : ℕ
  pub fault : GnfFault
  pub first : first_fault text ≡ Some (line, fault)
  pub is : written ≡ text_of (ending.Refused line fault)

-- why a bound can't be asked for, the first reason that applies, and its line
pub record NamesRefusal (p : Instance) (n : ℕ) (Fits : Type 0) (written : List ℕ) : Type 0 where
  pub refusal : AskRefusal
  pub right : IsUnasked p n Fits refusal
  pub is : written ≡ refusal_text refusal

-- there is no room for the assumptions, or the bound can't be asked for
abbrev pub IsUnaskedBy : Option Command → Instance → List ℕ → Type 0
IsUnaskedBy (Some (command.Core file lits)) p written = (¬ HasRoom p lits) × (written ≡ text_of (ending.Refused 0 fault.TooMany))
IsUnaskedBy (Some (command.CheckWith file answer lits)) p written = (¬ HasRoom p lits) × (written ≡ text_of (ending.Refused 0 fault.TooMany))
IsUnaskedBy (Some (command.Best file n)) p written = NamesRefusal p n (Unit {0}) written
IsUnaskedBy (Some (command.Ask file n b)) p written = NamesRefusal p n (IsBoundOf (predicate_of p n) b) written
IsUnaskedBy found p written = ⊥

-- the text stands for a problem, of which this can't be asked
pub record IsUnaskable (found : Option Command) (text written : List ℕ) : Type 0 where
  pub problem : Instance
  pub stands : Stands text problem
  pub unasked : IsUnaskedBy found problem written

-- FILE's first fault is named; or it has none, and what can't be asked of it
abbrev pub IsRefusal : Option Command → List ℕ → List ℕ → Type 0
IsRefusal found text written = NamesFault text written ⊎ IsUnaskable found text written
