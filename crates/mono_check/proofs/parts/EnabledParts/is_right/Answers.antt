use Rattle.std.proofs.Common.{◌≡◌, ◌↔◌, true, false, sym, subst}
use Rattle.std.specs.Prelude.{IfSome, IsTrue}
use Rattle.mono_base.specs.Literal.{value_in}
use Rattle.mono_problem.specs.declared.atom.Atom.{Atom}
use Rattle.mono_problem.specs.Read.{atom_numbered}
use Rattle.mono_problem.specs.Holds.{HoldsAtom}
use Rattle.mono_check.proofs.WrongAtoms.{is_true_judged, is_false_judged}
use Rattle.mono_check.proofs.parts.EnabledParts.is_right.Goals as goal

pub truth-requires-clause-known : goal.truth-requires-clause-known
truth-requires-clause-known c =
    subst (λ (x : Atom). IfSome c.args.known (λ b. IsTrue b ↔ HoldsAtom c.args.problem.now (value_in c.args.model.now) x)) (sym c.atom-atom.ensures) c.requires.known

pub returns-then-value_of-clause-right : goal.returns-then-value_of-clause-right
returns-then-value_of-clause-right c =
    let p = c.args.problem.now in
    let a = value_in c.args.model.now in
    let holds = subst (λ (y : Atom). IsTrue c.in_ok-holds.holds ↔ HoldsAtom p a y) c.atom-atom.ensures c.in_ok-holds.ensures.holds in
    is_true_judged p a (atom_numbered p c.args.number) c.in_ok-holds.holds (subst (λ (y : Atom). a y.var ≡ true) c.atom-atom.ensures (sym c.if-value_of.ensures)) holds

pub returns-else-value_of-clause-right : goal.returns-else-value_of-clause-right
returns-else-value_of-clause-right c =
    let p = c.args.problem.now in
    let a = value_in c.args.model.now in
    let holds = subst (λ (y : Atom). IsTrue c.in_ok-holds.holds ↔ HoldsAtom p a y) c.atom-atom.ensures c.in_ok-holds.ensures.holds in
    is_false_judged p a (atom_numbered p c.args.number) c.in_ok-holds.holds (subst (λ (y : Atom). a y.var ≡ false) c.atom-atom.ensures (sym c.if-value_of.ensures)) holds
