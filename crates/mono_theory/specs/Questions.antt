-- Why a literal was forced.
use Rattle.std.specs.Prelude.{take}
use Rattle.mono_problem.specs.declared.atom.Predicate.{Predicate}
use Rattle.mono_theory.specs.declared.evidence.Evidence.{Evidence}
use Rattle.mono_theory.specs.declared.question.Question.{Question}
use Rattle.mono_theory.specs.Evidences.{IsEvidence, side}
use Rattle.mono_theory.specs.Sound.{atom_at}
use Rattle.mono_theory.specs.Theories.{Facts}

-- the predicate of the atom
abbrev pub predicate_in : Facts → Question → Predicate
predicate_in f q = (atom_at f.atoms q.place).predicate

-- evidence for or against it with the edges by which the literal is forced, under the first literals
abbrev pub IsAnswer : Facts → Question → Evidence → Type 0
IsAnswer f q e = IsEvidence f.graph (side f.graph (predicate_in f q) (take q.kept f.seen) q.lit) (predicate_in f q) e
