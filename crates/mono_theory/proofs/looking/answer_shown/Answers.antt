use Rattle.std.proofs.Common.{◌≡◌, false, not, refl, sym, subst}
use Rattle.std.specs.Prelude.{IfSome}
use Rattle.mono_base.specs.Partial.{is_true_in}
use Rattle.mono_problem.specs.declared.atom.Atom.{Atom}
use Rattle.mono_steps.specs.Switching.{literal_of}
use Rattle.mono_theory.specs.Evidences.{shown_by}
use Rattle.mono_theory.specs.Sound.{IsSound, evidence_at}
use Rattle.mono_theory.proofs.NoneWaiting.{shown_forces}
use Rattle.mono_theory.proofs.looking.answer_shown.Goals as goal

pub returns-clause-answer : goal.returns-clause-answer
returns-clause-answer c =
    let f = c.args.frame.now in
    let b = c.args.side.now.possible in
    let a = c.args.place in
    let x = c.atom_at-atom.result in
    let at = c.atom_at-atom.ensures.atom in (
      rw (c.literal.ensures, c.shown_by.ensures, c.is_possible.ensures) (shown_forces f.graph f.atoms f.seen x b (evidence_at c.args.side.now.shown a) c.known.ensures.graph c.atom_at-atom.ensures.over c.atom_at-atom.ensures.found
          (subst (λ (y : Atom). IfSome (evidence_at c.args.side.now.shown a) (IsSound f.graph y.predicate (not b))) (sym at) (c.requires.side.shown.each a c.requires.place)) c.requires.right
          (subst (λ (y : Atom). is_true_in f.seen (literal_of (shown_by y.predicate (not b)) y.var) ≡ false) (sym at) (c.is_settled.ensures.open c.if-is_settled.false))),
      record { sign = refl; thorough = refl },
    )
