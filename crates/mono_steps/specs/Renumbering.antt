-- Steps whose numbers are exchanged, and when they stay justified.
use Rattle.std.specs.Prelude.{◌≡◌, ℕ, zero, suc, ◌+◌, ◌-◌, ◌<◌, ◌≤◌, Bool, true, false, ◌==◌, if◌then◌else◌, ℤ, List, [], ◌∷◌, length, map, Some, slice_get, slice_index_or, IsTrue}
use Rattle.std.specs.List.{list_any}
use Rattle.mono_problem.specs.Instance.{Instance, numbered}
use Rattle.mono_steps.specs.ChainSteps.{names_vars}
use Rattle.mono_steps.specs.declared.step.Step.{Step}
use Rattle.mono_steps.specs.declared.step.Step.TheVariants as step
use Rattle.mono_steps.specs.Steps.{clause_of}

-- the items whose flag is set
abbrev pub pick : {A : Type 0} → List Bool → List A → List A
pick [] xs = []
pick (b ∷ bs) [] = []
pick (b ∷ bs) (x ∷ xs) = if b then x ∷ pick bs xs else pick bs xs

-- how many of the first k flags are set
abbrev pub rank : List Bool → ℕ → ℕ
rank [] k = 0
rank (b ∷ bs) zero = 0
rank (b ∷ bs) (suc k) = if b then suc (rank bs k) else rank bs k

-- the step names the clause of the number
abbrev pub has_number : List ℕ → ℕ → Bool
has_number ns n = list_any (λ m. m == n) ns

abbrev pub names_number : Step → ℕ → Bool
names_number (step.Lemma l) n = false
names_number (step.Chain d) n = has_number d.used n

-- the step is a chain that names the step at place k
abbrev pub names_step : ℕ → Step → ℕ → Bool
names_step c (step.Lemma l) k = false
names_step c (step.Chain d) k = has_number d.used (c + 1 + k)

-- the step, with each number exchanged
abbrev pub with_numbers : (ℕ → ℕ) → Step → Step
with_numbers f (step.Lemma l) = step.Lemma l
with_numbers f (step.Chain d) = step.Chain (record { clause = d.clause; used = map f d.used })

-- the steps whose flag is set, with each number exchanged
abbrev pub steps_with_numbers : (ℕ → ℕ) → List Bool → List Step → List Step
steps_with_numbers f flags steps = pick flags (map (with_numbers f) steps)

-- the numbers are exchanged by a table: the first c keep theirs, and those behind them have the ones in the table
pub record IsTable (c : ℕ) (numbers : List ℕ) (f : ℕ → ℕ) : Type 0 where
  pub low : (n : ℕ) → n ≤ c → f n ≡ n
  pub high : (n : ℕ) → c < n → n ≤ c + length numbers → slice_index_or numbers (n - c - 1) 0 ≡ f n

-- ---- steps behind one list of clauses, carried to another

-- what a step names has its place there: its clause is over the problem's variables, each of the first clauses that it names is
-- exchanged for an equal one, and each step that it names comes along
pub record KeepsNamed (q : Instance) (old new : List (List ℤ)) (flags : List Bool) (f : ℕ → ℕ) (s : Step) : Type 0 where
  pub vars : IsTrue (names_vars q (clause_of s))
  pub clauses : (n : ℕ) → IsTrue (names_number s n) → n ≤ length old → numbered new (f n) ≡ numbered old n
  pub steps : (k : ℕ) → IsTrue (names_step (length old) s k) → slice_index_or flags k false ≡ true

-- the steps whose flag is set may be carried from behind the clauses `old` of p to behind the clauses `new` of q: the graphs
-- and predicates are the same, what the steps name has its place there, and each gets the number of its place
pub record MayBeCarried (p q : Instance) (old new : List (List ℤ)) (flags : List Bool) (f : ℕ → ℕ) (steps : List Step) : Type 0 where
  pub graphs : q.graphs ≡ p.graphs
  pub atoms : q.atoms ≡ p.atoms
  pub named : (k : ℕ) (s : Step) → slice_index_or flags k false ≡ true → slice_get steps k ≡ Some s → KeepsNamed q old new flags f s
  pub places : (k : ℕ) → k < length steps → f (length old + 1 + k) ≡ length new + 1 + rank flags k
