use Rattle.std.proofs.Common.{◌≡◌, ℕ, zero, suc, ◌<◌, [], ◌∷◌, arith}
use Rattle.std.specs.Prelude.{Some, slice_get}
use Rattle.mono_steps.specs.declared.step.Step.{Step}
use Rattle.mono_steps.specs.WorkedLemmas.{chain, edge_1_reaches}
use Rattle.mono_steps.proofs.WorkedTrimmed.{lemma_named, second_named, first_not_named, last_not_named}
use Rattle.mono_rows.proofs.trimmed.steps_named_later.Goals as goal

pub returns-clause-lemma : goal.returns-clause-lemma
returns-clause-lemma c = lemma_named

pub returns-clause-second : goal.returns-clause-second
returns-clause-second c = second_named

pub returns-clause-first : goal.returns-clause-first
returns-clause-first c = first_not_named

pub returns-clause-last : goal.returns-clause-last
returns-clause-last c = last_not_named

-- there is no third step
none_behind : (later : ℕ) (s : Step) → 1 < later → slice_get (edge_1_reaches ∷ chain [] (4 ∷ []) ∷ []) later ≡ Some s → ⊥
none_behind zero s after is = omega (arith, after)
none_behind (suc zero) s after is = omega (arith, after)
none_behind (suc (suc j)) s after is = cc

pub returns-clause-by_itself : goal.returns-clause-by_itself
returns-clause-by_itself c = λ n. none_behind n.later n.step n.after n.is
