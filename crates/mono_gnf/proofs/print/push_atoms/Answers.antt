use Rattle.std.proofs.Common.{◌≡◌, ◌++◌, ◌∙◌, ap, List, ℕ, ◌+◌, ◌-◌, ◌<◌, length, get_or, arith}
use Rattle.mono_text.specs.Text.{spaced}
use Rattle.mono_problem.specs.Read.{no_atom}
use Rattle.mono_gnf.specs.Printed.{atom_line}
use Rattle.mono_gnf.proofs.Printing.{lines-take}
use Rattle.mono_gnf.proofs.print.push_atoms.Goals as goal

pub loop-done-preserved : goal.loop-done-preserved
loop-done-preserved c =
    let p = c.args.problem.now in
    let k = c.loop-done.done in
    let less : k < length p.atoms = omega (arith, c.loop-done-test.true, c.atom_count-done-end.ensures) in
    let back : k + 1 - 1 ≡ k = omega arith in
    let read = ap (λ (k : ℕ). c.loop-done.out.items ++ spaced (atom_line p (get_or p.atoms k no_atom))) back in
    let before = ap (λ (t : List ℕ). t ++ spaced (atom_line p (get_or p.atoms k no_atom))) c.loop-done.invariant in
    c.in_ok-push_atom.ensures ∙ (read ∙ (before ∙ lines-take (atom_line p) c.args.out.now.items p.atoms k no_atom less))
