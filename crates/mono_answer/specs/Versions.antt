-- The versions of the answer format. In version 2 a chain's numbers count backwards from the number of its own step.
use Rattle.std.specs.Prelude.{ℕ, ◌+◌, ◌-◌, Bool, true, false, ◌&&◌, nat_le, nat_lt, List, [], ◌∷◌, map, Option, Some, codes, bytes_eq}
use Rattle.std.specs.List.{list_all}
use Rattle.mono_steps.specs.declared.step.Step.{Step}
use Rattle.mono_steps.specs.declared.step.Step.TheVariants as step
use Rattle.mono_answer.specs.declared.version.Version.{Version}
use Rattle.mono_answer.specs.declared.version.Version.TheVariants as version
use Rattle.mono_answer.specs.declared.item.Item.{Item}
use Rattle.mono_answer.specs.declared.item.Item.TheVariants as item
use Rattle.mono_answer.specs.declared.answer.Answer.{Answer}
use Rattle.mono_answer.specs.declared.answer.Answer.TheVariants as answer

-- exactly the tokens `version` and `2`
abbrev pub is_version_two : List (List ℕ) → Bool
is_version_two (t ∷ u ∷ []) = bytes_eq t (codes "version") && bytes_eq u (codes "2")
is_version_two ts = false

-- ---- numbers that count backwards

-- in the chain of the step of number m, d stands for m - d, and for 0 where d is above m
abbrev pub turned_numbers : ℕ → List ℕ → List ℕ
turned_numbers m ds = map (λ d. m - d) ds

-- the step of number m with its chain's numbers counted the other way
abbrev pub turned : ℕ → Step → Step
turned m (step.Chain c) = step.Chain (record { clause = c.clause; used = turned_numbers m c.used })
turned m (step.Lemma l) = step.Lemma l

-- steps, of which the first has the number m
abbrev pub turned_steps : ℕ → List Step → List Step
turned_steps m [] = []
turned_steps m (s ∷ ss) = turned m s ∷ turned_steps (m + 1) ss

-- an answer to a problem of c clauses
abbrev pub turned_answer : ℕ → Answer → Answer
turned_answer c (answer.Model values) = answer.Model values
turned_answer c (answer.Refutation steps) = answer.Refutation (turned_steps (c + 1) steps)
turned_answer c (answer.Progress steps) = answer.Progress (turned_steps (c + 1) steps)

-- ---- items by the version, where m is the number of the next step

abbrev pub step_by : Version → ℕ → Step → Step
step_by version.One m s = s
step_by version.Two m s = turned m s

abbrev pub item_by : Version → ℕ → Option Item → Option Item
item_by v m (Some (item.Step s)) = Some (item.Step (step_by v m s))
item_by v m i = i

-- the number of the next step behind an item
abbrev pub number_behind : ℕ → Option Item → ℕ
number_behind m (Some (item.Step s)) = m + 1
number_behind m i = m

abbrev pub items_by : Version → ℕ → List (ℕ × Option Item) → List (ℕ × Option Item)
items_by v m [] = []
items_by v m ((n, i) ∷ ls) = (n, item_by v m i) ∷ items_by v (number_behind m i) ls

-- ---- answers whose chains name earlier clauses

-- the step of number m names numbers from 1 to the one before m
abbrev pub names_earlier : ℕ → Step → Bool
names_earlier m (step.Chain c) = list_all (λ d. nat_le 1 d && nat_lt d m) c.used
names_earlier m (step.Lemma l) = true

abbrev pub all_name_earlier : ℕ → List Step → Bool
all_name_earlier m [] = true
all_name_earlier m (s ∷ ss) = names_earlier m s && all_name_earlier (m + 1) ss

-- an answer to a problem of c clauses
abbrev pub answer_names_earlier : ℕ → Answer → Bool
answer_names_earlier c (answer.Model values) = true
answer_names_earlier c (answer.Refutation steps) = all_name_earlier (c + 1) steps
answer_names_earlier c (answer.Progress steps) = all_name_earlier (c + 1) steps
