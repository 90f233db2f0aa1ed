use Rattle.std.proofs.Common.{ℕ, List, subst}
use Rattle.mono_gnf.specs.Stands.{Stands}
use Rattle.mono_forms.proofs.forms.read_problem.Goals as goal

-- the text was read whole, and has no fault
pub returns : goal.returns
returns g c = record {
  text = c.in_ok-text.text.items;
  read = c.in_ok-text.ensures.ok;
  stands = subst (λ (text : List ℕ). Stands text c.in_ok-read_gnf.field-0) c.as_slice.ensures.value c.in_ok-read_gnf.ensures;
}
