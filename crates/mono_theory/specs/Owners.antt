-- Lists of theories as plain records, and whether they own the atoms of a problem.
use Rattle.std.specs.Prelude.{◌≡◌, ℕ, ◌<◌, ◌≤◌, ℤ, List, length, map, count_by, Some, All}
use Rattle.mono_graph.specs.Digraph.{Digraph}
use Rattle.mono_problem.specs.declared.atom.Atom.{Atom}
use Rattle.mono_problem.specs.Instance.{Instance, graph_at, numbered}
use Rattle.mono_theory.specs.Theories.{Facts, owns_of}

-- the theories as plain records, from what each of them means
abbrev pub fact_of : {T : Type 0} → (T → Digraph) → (T → List Atom) → (T → List ℤ) → T → Facts
fact_of graph atoms seen t = record { graph = graph t; atoms = atoms t; seen = seen t }

abbrev pub facts_of : {T : Type 0} → (T → Digraph) → (T → List Atom) → (T → List ℤ) → List T → List Facts
facts_of graph atoms seen ts = map (fact_of graph atoms seen) ts

-- each atom of the problem is one theory's; each theory's atoms are the problem's, and its graph is theirs
pub record OwnsEach (p : Instance) (fs : List Facts) : Type 0 where
  pub once : (n : ℕ) → 0 < n → n ≤ length p.atoms → count_by (λ f. owns_of f.atoms n) fs ≡ 1
  pub exact : All (λ f. All (λ x. numbered p.atoms x.number ≡ Some x) f.atoms) fs
  pub graphs : All (λ f. All (λ x. f.graph ≡ graph_at p x.graph) f.atoms) fs
