use Rattle.std.proofs.Common.{◌≡◌, ◌<◌, ℕ, true, List, [], ◌∷◌, Some, codes, refl, ap, arith, pos}
use Rattle.std.specs.Prelude.{slice_index}
use Rattle.mono_problem.specs.Instance.{Instance}
use Rattle.mono_gnf.specs.Stands.{Stands}
use Rattle.mono_gen.specs.Generated.{generated}
use Rattle.mono_gen.specs.declared.kind.GenKind.{GenKind}
use Rattle.mono_words.specs.declared.command.Command.{Command}
use Rattle.mono_words.specs.declared.command.Command.TheVariants as command
use Rattle.mono_forms.specs.Runs.{SolvesGenerated, summary_of}
use Rattle.mono_forms.specs.Told.{RunsOver}
use Rattle.mono_cmd.specs.Worked.{empty_problem, one_file}
use Rattle.mono_cmd.proofs.worked_counted.worked_answering.Goals as goal

-- the command runs over `f`, which is told
over_f : (make : List ℕ → Command) (text : List ℕ) (p : Instance) → Stands text p → RunsOver (Some (make (codes "f"))) make (Some (one_file text)) p
over_f make text p stands = record { file = codes "f"; is = refl; text = text; told = refl; stands = stands }

nothing : Stands (codes "") empty_problem
nothing = (refl, refl)

solves : (k : GenKind) (size seed : ℕ) (p : Instance) → Stands (generated k size seed) p → SolvesGenerated (Some (command.Gen k size seed true)) p
solves k size seed p stands = record { kind = k; size = size; seed = seed; is = refl; stands = stands }

-- ---- `solve`

pub returns-clause-solved_without_a_model : goal.returns-clause-solved_without_a_model
returns-clause-solved_without_a_model c = λ text p stands none h.
    let model = h.satisfiable p 1 (over_f (λ file. command.Solve file 1) text p stands) refl in none model.0 model.1

pub returns-clause-refuted_with_a_model : goal.returns-clause-refuted_with_a_model
returns-clause-refuted_with_a_model c = λ text p a stands model h. h.unsatisfiable p 1 (over_f (λ file. command.Solve file 1) text p stands) refl a model

pub returns-clause-spent_on_everything : goal.returns-clause-spent_on_everything
returns-clause-spent_on_everything c = λ h.
    let few : 1 < 1 = h.unknown empty_problem 1 (over_f (λ file. command.Solve file 1) (codes "") empty_problem nothing) refl in omega (arith, few)

pub returns-clause-text_of_no_model : goal.returns-clause-text_of_no_model
returns-clause-text_of_no_model c = λ text written p stands other h.
    other (h.verdict p 1 written (over_f (λ file. command.Solve file 1) text p stands) (record { there = codes "a"; held = refl; wrote = refl }))

-- ---- `gen` with `--solve`

pub returns-clause-summed_without_a_model : goal.returns-clause-summed_without_a_model
returns-clause-summed_without_a_model c = λ k size seed p stands none h.
    let model = h.satisfiable p (solves k size seed p stands) refl in none model.0 model.1

pub returns-clause-summed_with_a_model : goal.returns-clause-summed_with_a_model
returns-clause-summed_with_a_model c = λ k size seed p a stands model h. h.unsatisfiable p (solves k size seed p stands) refl a model

pub returns-clause-summed_behind_everything : goal.returns-clause-summed_behind_everything
returns-clause-summed_behind_everything c = λ k size seed p stands small h. let few = h.unknown p (solves k size seed p stands) refl in omega (arith, few, small)

pub returns-clause-no_summary : goal.returns-clause-no_summary
returns-clause-no_summary c = λ k size seed p stands h.
    let is : codes "x" ≡ summary_of p (codes "satisfiable") (codes "accepted model\n") =
    h.summary p (codes "x") (solves k size seed p stands) (record { there = codes "a"; held = refl; wrote = refl }) in
    let byte : 120 ≡ 118 = ap (λ (t : List ℕ). slice_index t 0) is in
    omega (arith, byte)

-- ---- `core`

pub returns-clause-narrowed_without_a_model : goal.returns-clause-narrowed_without_a_model
returns-clause-narrowed_without_a_model c = λ text p lits stands none h.
    let model = h.satisfiable p lits (over_f (λ file. command.Core file lits) text p stands) refl in none model.0 model.1

pub returns-clause-core_with_a_model : goal.returns-clause-core_with_a_model
returns-clause-core_with_a_model c = λ text p lits a stands model h. h.unsatisfiable p lits (over_f (λ file. command.Core file lits) text p stands) refl a model

pub returns-clause-narrowed_behind_everything : goal.returns-clause-narrowed_behind_everything
returns-clause-narrowed_behind_everything c = λ h.
    let few : 100000 < 3 = h.unknown empty_problem (pos 1 ∷ []) (over_f (λ file. command.Core file (pos 1 ∷ [])) (codes "") empty_problem nothing) refl in
    omega (arith, few)

pub returns-clause-text_of_no_model_under_assumptions : goal.returns-clause-text_of_no_model_under_assumptions
returns-clause-text_of_no_model_under_assumptions c = λ text written p lits stands other h.
    other (h.core p lits written (over_f (λ file. command.Core file lits) text p stands) (record { there = codes "a"; held = refl; wrote = refl }))

-- ---- `best`

pub returns-clause-never_though_met : goal.returns-clause-never_though_met
returns-clause-never_though_met c = λ text p n stands met h. met (h.never_met p n (over_f (λ file. command.Best file n) text p stands) refl)

pub returns-clause-bounded_behind_everything : goal.returns-clause-bounded_behind_everything
returns-clause-bounded_behind_everything c = λ h.
    let few : 100000 < 3 = h.unknown empty_problem 1 (over_f (λ file. command.Best file 1) (codes "") empty_problem nothing) refl in omega (arith, few)

pub returns-clause-no_bound : goal.returns-clause-no_bound
returns-clause-no_bound c = λ text p n stands h.
    let bound = h.bound p n (codes "x") (over_f (λ file. command.Best file n) text p stands) (record { there = codes "a"; held = refl; wrote = refl }) in
    let byte : 120 ≡ 99 = ap (λ (t : List ℕ). slice_index t 0) bound.2 in
    omega (arith, byte)

-- ---- `team`

pub returns-clause-team_without_a_model : goal.returns-clause-team_without_a_model
returns-clause-team_without_a_model c = λ text p stands none h.
    let model = h.satisfiable p 2 1 (over_f (λ file. command.Team file 2 1) text p stands) refl in none model.0 model.1

pub returns-clause-team_refuted_with_a_model : goal.returns-clause-team_refuted_with_a_model
returns-clause-team_refuted_with_a_model c = λ text p a stands model h. h.unsatisfiable p 2 1 (over_f (λ file. command.Team file 2 1) text p stands) refl a model

pub returns-clause-slice_of_everything : goal.returns-clause-slice_of_everything
returns-clause-slice_of_everything c = λ h.
    let rounds = h.unknown empty_problem 2 1 (over_f (λ file. command.Team file 2 1) (codes "") empty_problem nothing) refl in
    let few : 1000 < 1 = rounds.1.few in
    omega (arith, few)

pub returns-clause-no_board : goal.returns-clause-no_board
returns-clause-no_board c = λ text p stands h.
    let board = h.board p 2 1 (codes "x") (over_f (λ file. command.Team file 2 1) text p stands) (record { there = codes "a"; held = refl; wrote = refl }) in
    let byte : 120 ≡ 115 = ap (λ (t : List ℕ). slice_index t 0) board.2 in
    omega (arith, byte)
