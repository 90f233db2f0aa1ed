use Rattle.std.proofs.Common.{◌≡◌, ◌∙◌, ◌-◌, ℕ, List, All, length, sym, subst, ap}
use Rattle.std.specs.Prelude.{slice_get, Some}
use Rattle.mono_base.specs.Literal.{IsLitWithin}
use Rattle.mono_steps.specs.declared.step.Step.{Step}
use Rattle.mono_steps.specs.declared.step.Step.TheVariants as step
use Rattle.mono_steps.specs.Steps.{clauses_after}
use Rattle.mono_search.proofs.Resolved.{clauses_within, used_numbers, IsNumber}
use Rattle.mono_search.proofs.learning.bump_resolved.Goals as goal

pub bump_clauses-requires-clause-within : goal.bump_clauses-requires-clause-within
bump_clauses-requires-clause-within c =
    subst (λ (n : ℕ). All (All (IsLitWithin n)) (clauses_after c.args.problem.now c.args.journal.now)) (sym c.requires.vars) (clauses_within c.args.problem.now c.args.journal.now c.known.ensures.problem c.requires.justified)

pub bump_clauses-requires-clause-held : goal.bump_clauses-requires-clause-held
bump_clauses-requires-clause-held c =
    let steps = c.args.journal.now in
    let last : slice_get steps (length steps - 1) ≡ Some (step.Chain c.in-Some-Chain.chain) =
    subst (λ (ss : List Step). slice_get ss (length ss - 1) ≡ Some (step.Chain c.in-Some-Chain.chain)) c.steps.ensures (sym c.in-Some-Chain.ensures.value ∙ ap Some c.in-Some-Chain.field-0-is) in
    subst (λ (ns : List ℕ). All (IsNumber (length (clauses_after c.args.problem.now steps))) ns) (sym c.as_slice.ensures) (used_numbers c.args.problem.now steps (length steps - 1) c.in-Some-Chain.chain c.requires.justified last)
