use Rattle.std.proofs.Common.{◌≡◌, [], ◌∷◌, Some, None, ap, arith, codes, inl, inr}
use Rattle.mono_io.specs.Shelf.{ShelfView}
use Rattle.mono_io.specs.Worked.{steady_shelf}
use Rattle.mono_words.specs.declared.command.Command.TheVariants as command
use Rattle.mono_forms.specs.Runs.{IsOutOfMemory}
use Rattle.mono_cmd.proofs.UnknownWord.{faulty}
use Rattle.mono_cmd.proofs.worked_runs.worked_memory.Goals as goal

pub returns-clause-file_begun : goal.returns-clause-file_begun
returns-clause-file_begun c = λ same. let once : 1 ≡ 0 = ap (λ (s : ShelfView). s.begun) same in absurd (omega (arith, once))

-- the file `f` is at fault
abbrev before : ShelfView
before = steady_shelf ((codes "f", codes "x") ∷ []) [] None 0 0

abbrev after : ShelfView
after = steady_shelf ((codes "f", codes "x") ∷ []) (codes "g") (Some 0) 2 0

pub returns-clause-answer_begun : goal.returns-clause-answer_begun
returns-clause-answer_begun c = by_case
  where
    by_case : IsOutOfMemory (Some (command.Check (codes "f") (codes "g"))) before after → ⊥
    by_case (inl (inl same)) = let twice : 2 ≡ 0 = ap (λ (s : ShelfView). s.begun) same in omega (arith, twice)
    by_case (inl (inr given)) = let twice : 2 ≡ 1 = given.once.begun in omega (arith, twice)
    by_case (inr (p, read, has, given)) = faulty p has.text has.read.whole has.stands
