use Rattle.std.proofs.Common.{◌≡◌, ℕ, length}
use Rattle.std.specs.Prelude.{None}
use Rattle.mono_theory.specs.Sound.{evidence_at}
use Rattle.mono_theory.proofs.kept_evidence.KeptEvidence.new.Given as goal

abbrev pub invariant-loop-atom : goal.invariant-loop-atom
invariant-loop-atom l = record {
  len : length l.evidence.items ≡ l._atom;
  none : (a : ℕ) → evidence_at l.evidence.items a ≡ None;
}
