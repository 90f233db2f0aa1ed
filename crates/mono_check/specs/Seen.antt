-- What the checker keeps of the lines so far, and what a line adds to it.
use Rattle.std.specs.Prelude.{◌≡◌, ℕ, ◌+◌, ◌≤◌, nat_le, Bool, ◌&&◌, ◌||◌, if◌then◌else◌, ℤ, List, [], ◌∷◌, ◌++◌, Option, Some, None, length, All, IsTrue, unwrap_or}
use Rattle.std.specs.Option.{option_or}
use Rattle.mono_base.specs.LitSet.{LiteralSet}
use Rattle.mono_base.specs.Literal.{has_lit, var_of, IsLitWithin}
use Rattle.mono_base.specs.Partial.{is_open_in}
use Rattle.mono_problem.specs.Instance.{Instance}
use Rattle.mono_steps.specs.Checkers.{problem_size}
use Rattle.mono_steps.specs.declared.step.Step.{Step}
use Rattle.mono_steps.specs.Steps.{clause_of, is_empty_chain}
use Rattle.mono_answer.specs.declared.item.Item.{Item}
use Rattle.mono_check.specs.declared.values.Values.{Values}
use Rattle.mono_check.specs.declared.step_lines.StepLines.{StepLines}
use Rattle.mono_check.specs.Values.{are_values, is_end, lits_in, ends_in}
use Rattle.mono_check.specs.StepLines.{is_chain}
use Rattle.mono_check.specs.SoFar.{ModelSoFar, StepsSoFar}

-- ---- the lines of a model

-- the set has these literals, which are values
pub record AreMembers (p : Instance) (lits : List ℤ) (set : LiteralSet) : Type 0 where
  pub vars : set.vars ≡ p.vars
  pub has : (m : ℤ) → has_lit set.members m ≡ has_lit lits m
  pub values : IsTrue (are_values p lits)

-- as a list of literals, whatever the order in which the set tells them
abbrev pub model_kept : ℕ → Values → ModelSoFar
model_kept status v = record { lits = v.set.members; end = v.end; last = unwrap_or v.last status }

-- the literals are over the problem's variables, each variable at most once
pub record AreValuesKept (p : Instance) (v : Values) : Type 0 where
  pub vars : v.set.vars ≡ p.vars
  pub values : IsTrue (are_values p v.set.members)

-- behind a `v` line without a fault
pub record AreValuesAfter (p : Instance) (lits : List ℤ) (v : Values) (n : ℕ) (i : Option Item) (after : Values) : Type 0 where
  pub set : AreMembers p (lits ++ lits_in i) after.set
  pub end : after.end ≡ option_or v.end (if ends_in i then Some n else None)
  pub last : after.last ≡ Some n

-- the literal is over a variable of the problem, and over none of these literals
abbrev pub is_new : Instance → List ℤ → ℤ → Bool
is_new p lits l = (nat_le 1 (var_of l) && nat_le (var_of l) p.vars) && is_open_in lits l

-- the number is a 0, or such a literal
abbrev pub fits : Instance → List ℤ → ℤ → Bool
fits p lits z = is_end z || is_new p lits z

-- ---- the lines of steps

abbrev pub steps_kept : ℕ → StepLines → StepsSoFar
steps_kept status s = record { clauses = s.earlier.items; chains = s.chains; ends_empty = s.ends_empty; last = unwrap_or s.last status }

-- the clauses are over the problem's variables
pub record AreStepsKept (p : Instance) (s : StepLines) : Type 0 where
  pub size : s.checker ≡ problem_size p
  pub known : All (All (IsLitWithin p.vars)) s.earlier.items
  pub few : s.chains ≤ length s.earlier.items

-- behind a step without a fault
pub record AreStepsAfter (s : StepLines) (n : ℕ) (r : Step) (after : StepLines) : Type 0 where
  pub checker : after.checker ≡ s.checker
  pub earlier : after.earlier.items ≡ s.earlier.items ++ clause_of r ∷ []
  pub chains : after.chains ≡ (if is_chain r then s.chains + 1 else s.chains)
  pub last : after.last ≡ Some n
  pub ends : after.ends_empty ≡ is_empty_chain r
