-- What an accepted answer is.
use Rattle.std.specs.Prelude.{◌≡◌, ◌≤◌, ℕ, ℤ, pos, Bool, List, [], ◌∷◌, ◌++◌, length, map, flat_map, Option, Some, IsTrue}
use Rattle.mono_base.specs.Partial.{has_var, is_partial}
use Rattle.mono_problem.specs.Instance.{Instance}
use Rattle.mono_steps.specs.ChainSteps.{names_vars}
use Rattle.mono_steps.specs.declared.step.Step.{Step}
use Rattle.mono_answer.specs.declared.kind.Kind.{Kind}
use Rattle.mono_answer.specs.declared.kind.Kind.TheVariants as kind
use Rattle.mono_answer.specs.declared.item.Item.{Item}
use Rattle.mono_answer.specs.declared.item.Item.TheVariants as says
use Rattle.mono_answer.specs.Items.{items_of}
use Rattle.mono_check.specs.Values.{model_of}

-- the text, of either version, is a status line of the kind and these lines behind it, for a problem of c clauses
abbrev pub HasLines : ℕ → Kind → List ℕ → List (ℕ × Option Item) → Type 0
HasLines c k text ls = (n : ℕ) × (items_of c text ≡ (n, Some (says.Status k)) ∷ ls)

-- the item of a step's line
abbrev pub step_item : Step → Option Item
step_item s = Some (says.Step s)

-- the text is of this kind, and gives these steps, one a line
abbrev pub HasSteps : ℕ → Kind → List ℕ → List Step → Type 0
HasSteps c k text steps = (ls : List (ℕ × Option Item)) × HasLines c k text ls × (map (λ l. l.1) ls ≡ map step_item steps)

-- a `v` line with these numbers
abbrev pub values_item : List ℤ → Option Item
values_item zs = Some (says.Values zs)

-- literals over the problem's variables, one over each
pub record AreValues (p : Instance) (lits : List ℤ) : Type 0 where
  pub known : IsTrue (names_vars p lits)
  pub once : IsTrue (is_partial lits)
  pub each : (x : ℕ) → 1 ≤ x → x ≤ p.vars → IsTrue (has_var lits x)

-- The text says that the problem's variables have these values: behind the status line there are `v` lines alone, whose numbers are in
-- sum a literal over each variable, in any order, and then the ending 0. A variable is true exactly where it is one of the literals.
pub record SaysModel (p : Instance) (text : List ℕ) (values : List Bool) : Type 0 where
  pub lines : List (ℕ × Option Item)
  pub rows : List (List ℤ)
  pub lits : List ℤ
  pub behind : HasLines (length p.clauses) kind.Model text lines
  pub alone : map (λ l. l.1) lines ≡ map values_item rows
  pub numbers : flat_map (λ zs. zs) rows ≡ lits ++ pos 0 ∷ []
  pub one_each : AreValues p lits
  pub true_where : values ≡ model_of p lits
