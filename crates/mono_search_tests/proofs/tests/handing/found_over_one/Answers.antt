use Rattle.std.proofs.Common.{◌≡◌, ◌∙◌, ℕ, [], ◌∷◌, length, refl, sym, ap, subst, arith, All}
use Rattle.std.specs.Prelude.{Some, count_by}
use Rattle.std.proofs.lemmas.Bool.{eq-eqb}
use Rattle.std.proofs.lemmas.List.Elements.{All-nil, All-cons}
use Rattle.mono_problem.specs.declared.atom.Atom.{Atom}
use Rattle.mono_problem.specs.Instance.{Instance, graph_at, numbered}
use Rattle.mono_problem.specs.Read.{atom_numbered}
use Rattle.mono_problem.specs.WellFormed.{IsInstance}
use Rattle.mono_theory.specs.Theories.{Facts, owns_of}
use Rattle.mono_theory.specs.Owners.{OwnsEach}
use Rattle.mono_theory.proofs.AtomsByNumber.{own_number}
use Rattle.mono_theory.proofs.LemmasAreJustified.{numbered_is}
use Rattle.mono_search_tests.proofs.tests.handing.found_over_one.Goals as goal

all_of_one : {X : Type 0} (P : X → Type 0) (x : X) → P x → All P (x ∷ [])
all_of_one P x h = All-cons P x [] h (All-nil P)

-- the only theory, over the first graph with the only atom
abbrev own : Instance → Facts
own p = record { graph = graph_at p 0; atoms = atom_numbered p 1 ∷ []; seen = [] }

owns_each : (p : Instance) → IsInstance p → length p.atoms ≡ 1 → (atom_numbered p 1).graph ≡ 0 → OwnsEach p (own p ∷ [])
owns_each p ok one graph =
    let number : (atom_numbered p 1).number ≡ 1 = own_number p 1 ok (omega arith, omega (arith, one)) in
    record {
      once = λ n low high.
          let is : n ≡ 1 = omega (arith, one, low, high) in
          subst (λ (m : ℕ). count_by (λ (f : Facts). owns_of f.atoms m) (own p ∷ []) ≡ 1) (sym is) (rw (eq-eqb (atom_numbered p 1).number 1 number) refl);
      exact = all_of_one (λ (f : Facts). All (λ (x : Atom). numbered p.atoms x.number ≡ Some x) f.atoms) (own p)
          (all_of_one (λ (x : Atom). numbered p.atoms x.number ≡ Some x) (atom_numbered p 1) (ap (numbered p.atoms) number ∙ numbered_is p 1 (omega arith) (omega (arith, one))));
      graphs = all_of_one (λ (f : Facts). All (λ (x : Atom). f.graph ≡ graph_at p x.graph) f.atoms) (own p)
          (all_of_one (λ (x : Atom). graph_at p 0 ≡ graph_at p x.graph) (atom_numbered p 1) (ap (graph_at p) (sym graph)));
    }

pub new-requires-2-clause-owns : goal.new-requires-2-clause-owns
new-requires-2-clause-owns c =
    let owned : OwnsEach c.args.problem.now (own c.args.problem.now ∷ []) = owns_each c.args.problem.now c.known.ensures.problem c.requires.one c.requires.graph in
    rw c.in_ok-push.ensures.items (rw c.new-theories.ensures.items (subst (λ (f : Facts). OwnsEach c.args.problem.now (f ∷ [])) (sym c.in_ok-theory.ensures) owned))
