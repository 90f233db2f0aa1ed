-- Which atoms are due, as rows change.
use Rattle.std.proofs.Common.{ℕ, Bool, List, refl, ◌∙◌}
use Rattle.mono_theory.specs.DueAtoms.{PutsDue}

-- nothing has changed
pub due_none : (n : ℕ) (shown : ℕ → Bool) (due : List Bool) → PutsDue n shown shown due due
due_none n shown due = record { size = refl; stay = λ a off. off; newly = λ a lt off on. on }

-- one change after the other
pub due_more : {n : ℕ} {first second third : ℕ → Bool} {before between after : List Bool} → PutsDue n first second before between → PutsDue n second third between after → PutsDue n first third before after
due_more h k = record {
  size = k.size ∙ h.size;
  stay = λ a off. h.stay a (k.stay a off);
  newly = λ a lt off on. h.newly a lt (k.stay a off) (k.newly a lt off on);
}
