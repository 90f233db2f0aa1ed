-- Commands over a file whose text the shelf tells, and which stands for a problem.
use Rattle.std.specs.Prelude.{◌≡◌, ◌++◌, ℕ, List, Option, Some}
use Rattle.mono_io.specs.Shelf.{Texts, told_text}
use Rattle.mono_problem.specs.Instance.{Instance}
use Rattle.mono_gnf.specs.Stands.{Stands}
use Rattle.mono_words.specs.declared.command.Command.{Command}

-- the command that `over` makes of FILE runs, and FILE is told and stands for the problem
pub record RunsOver (found : Option Command) (over : List ℕ → Command) (texts : Option Texts) (p : Instance) : Type 0 where
  pub file : List ℕ
  pub is : found ≡ Some (over file)
  pub text : List ℕ
  pub told : told_text texts file ≡ Some text
  pub stands : Stands text p

-- the command that `over` makes of FILE and ANSWER runs, FILE is told and stands for the problem, and this is the text that is told of
-- ANSWER
pub record JudgesOver (found : Option Command) (over : List ℕ → List ℕ → Command) (texts : Option Texts) (p : Instance) (given : List ℕ) : Type 0 where
  pub file : List ℕ
  pub answer : List ℕ
  pub is : found ≡ Some (over file answer)
  pub text : List ℕ
  pub told : told_text texts file ≡ Some text
  pub stands : Stands text p
  pub answered : told_text texts answer ≡ Some given

-- the command that `over` makes of FILE and ANSWER wrote this behind what was there, and FILE is told and stands for the problem
pub record WroteOver (found : Option Command) (over : List ℕ → List ℕ → Command) (texts : Option Texts) (before now : Option (List ℕ))
    (p : Instance) (written : List ℕ) : Type 0 where
  pub file : List ℕ
  pub answer : List ℕ
  pub is : found ≡ Some (over file answer)
  pub text : List ℕ
  pub told : told_text texts file ≡ Some text
  pub stands : Stands text p
  pub there : List ℕ
  pub held : before ≡ Some there
  pub wrote : now ≡ Some (there ++ written)
