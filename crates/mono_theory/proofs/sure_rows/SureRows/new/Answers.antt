use Rattle.std.proofs.Common.{ap, ◌∙◌}
use Rattle.mono_theory.specs.SureRows.{nodes_of}
use Rattle.mono_theory.proofs.sure_rows.SureRows.new.Goals as goal

pub invariant_of-result : goal.invariant_of-result
invariant_of-result g c = c.in_ok-lasts.ensures ∙ ap nodes_of c.as_slice.ensures.value
