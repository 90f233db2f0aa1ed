use Rattle.std.proofs.Common.{sym, ap, subst}
use Rattle.mono_theory.specs.Supports.{AreCovered}
use Rattle.mono_theory.specs.Theories.{Facts}
use Rattle.mono_theory.proofs.AtomsByNumber.{atoms_covered}
use Rattle.mono_theory.proofs.graph_theory.GraphTheory.new.Goals as goal

pub parts_of-requires-clause-covered : goal.parts_of-requires-clause-covered
parts_of-requires-clause-covered g c =
    subst (λ (h : Facts). AreCovered g.K.Kind.covers h.atoms) (sym c.in_ok-frame.ensures) (atoms_covered g.K.Kind.covers c.args.problem.now c.args.graph c.args.atoms.now c.requires.atoms)

pub parts_of-requires-clause-unseen : goal.parts_of-requires-clause-unseen
parts_of-requires-clause-unseen g c = ap (λ (h : Facts). h.seen) c.in_ok-frame.ensures

pub invariant_of-result : goal.invariant_of-result
invariant_of-result g c =
    let its = c.in_ok-kind.ensures in
    record {
      covered = subst (λ (h : Facts). AreCovered g.K.Kind.covers h.atoms) (sym c.in_ok-frame.ensures) (atoms_covered g.K.Kind.covers c.args.problem.now c.args.graph c.args.atoms.now c.requires.atoms);
      size = its.size;
      surely = its.surely;
      possibly = its.possibly;
    }
