use Rattle.std.proofs.Common.{◌++◌, ◌∷◌, [], List, ℕ, sym, ap, ◌∙◌, get_or}
use Rattle.std.proofs.lemmas.List.{map_more, take_all}
use Rattle.std.specs.Prelude.{map}
use Rattle.mono_problem.specs.declared.atom.Atom.{Atom}
use Rattle.mono_problem.specs.Read.{atom_numbered}
use Rattle.mono_theory.proofs.graph_theory.atoms_of.Goals as goal

pub loop-number-preserved : goal.loop-number-preserved
loop-number-preserved c =
    let p = c.args.problem.now in
    let ns : List ℕ = c.args.numbers.now in
    let i = c.loop-number.number-index in
    c.in_ok-push.ensures.items ∙ ap (λ (x : Atom). c.loop-number.atoms.items ++ x ∷ []) c.atom-atom.ensures
    ∙ ap (λ (xs : List Atom). xs ++ atom_numbered p (get_or ns i 0) ∷ []) c.loop-number.invariant ∙ sym (map_more (atom_numbered p) ns i 0 c.loop-number-test.true)

pub returns : goal.returns
returns c = c.loop-number.invariant ∙ ap (λ (ns : List ℕ). map (atom_numbered c.args.problem.now) ns) (take_all c.loop-number.number-index c.args.numbers.now c.loop-number-test.false)
