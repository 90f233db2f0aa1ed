use Rattle.std.proofs.Common.{◌≡◌, ◌∙◌, ◌++◌, ℕ, List, ap, eqb}
use Rattle.std.proofs.lemmas.List.Folds.{list_any-append}
use Rattle.mono_graph.specs.Digraph.{has}
use Rattle.mono_bounds.specs.Bound.{edge_vars}
use Rattle.mono_theory.specs.Frames.{atom_vars}
use Rattle.mono_theory.proofs.FramesStay.{has-both}
use Rattle.mono_theory.proofs.frame.variables_of.Goals as goal

pub returns : goal.returns
returns c =
    let edges = edge_vars c.args.graph.now in
    let own = atom_vars c.args.atoms.now in
    let both : c.extend_from_slice.new.self.items ≡ edges ++ own =
    c.in_ok-extend_from_slice.ensures.items ∙ ap (λ (xs : List ℕ). xs ++ c.as_slice.result.now) c.in_ok-vars.ensures.vars
    ∙ ap (λ (xs : List ℕ). edges ++ xs) (c.as_slice.ensures.value ∙ c.in_ok-own.ensures) in
    record {
      rising = c.sort_once.ensures.rising;
      exact = λ v. c.sort_once.ensures.same v ∙ ap (λ (xs : List ℕ). has xs v) both ∙ list_any-append (λ x. eqb x v) edges own ∙ has-both c.args.graph.now c.args.atoms.now v;
    }
