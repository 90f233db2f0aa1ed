use Rattle.std.proofs.Common.{◌≡◌, ◌⊎◌, ℕ, List, Option, Some, None, inl, inr, refl}
use Rattle.mono_text.specs.Text.{token_lines}
use Rattle.mono_problem.specs.Instance.{Instance}
use Rattle.mono_gnf.specs.declared.fault.GnfFault.{GnfFault}
use Rattle.mono_gnf.specs.Faults.{first_fault}
use Rattle.mono_gnf.specs.Stands.{Stands, instance_of}
use Rattle.mono_gnf.proofs.laws.fault_or_problem.Goals as goal

cases : (text : List ℕ) (o : Option (ℕ × GnfFault)) → first_fault text ≡ o → ((line : ℕ) × (f : GnfFault) × (first_fault text ≡ Some (line, f))) ⊎ ((p : Instance) × Stands text p)
cases text None h = inr (instance_of (token_lines text), (h, refl))
cases text (Some e) h = inl (e.0, e.1, h)

pub returns-clause-either : goal.returns-clause-either
returns-clause-either c = λ text. cases text (first_fault text) refl

pub returns-clause-not_both : goal.returns-clause-not_both
returns-clause-not_both c = λ text p line f h k. let none = h.0 in absurd (cc)
