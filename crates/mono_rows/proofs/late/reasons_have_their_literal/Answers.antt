use Rattle.std.proofs.Common.{[], ◌∷◌, List, ℤ, pos, ap}
use Rattle.mono_base.specs.Literal.{has_lit}
use Rattle.mono_steps.specs.WorkedLemmas.{minus}
use Rattle.mono_learn.proofs.LitSets.{true_false}
use Rattle.mono_rows.proofs.ReasonRows.{same_clause}
use Rattle.mono_rows.proofs.late.reasons_have_their_literal.Goals as goal

pub returns : goal.returns
returns c = λ u. true_false (has_lit u.clause (pos 4)) u.has (ap (λ (d : List ℤ). has_lit d (pos 4)) (same_clause (minus 3 ∷ []) u.clause u.is))
