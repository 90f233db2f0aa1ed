-- A small theory for the worked rows.
use Rattle.std.specs.Prelude.{ℕ, Bool, true, ℤ, pos, List, [], ◌∷◌, None, Some}
use Rattle.mono_graph.specs.Worked.{parallel}
use Rattle.mono_dynamic.specs.declared.walk_target.WalkTarget.{WalkTarget}
use Rattle.mono_dynamic.specs.Worked.{known_by, with_way, without_way}
use Rattle.mono_problem.specs.declared.atom.Atom.{Atom}
use Rattle.mono_problem.specs.declared.atom.Predicate.TheVariants as kind
use Rattle.mono_steps.specs.declared.lemma.Lemma.{Lemma}
use Rattle.mono_steps.specs.declared.lemma.Witness.TheVariants as by
use Rattle.mono_steps.specs.WorkedLemmas.{minus, of_1}
use Rattle.mono_theory.specs.declared.evidence.Evidence.{Evidence}
use Rattle.mono_theory.specs.declared.stage.Stage.{Stage}
use Rattle.mono_theory.specs.declared.threat.Threat.{Threat}
use Rattle.mono_bounds.specs.Bound.{Bound}
use Rattle.mono_theory.specs.PossibleRows.{PossibleView}
use Rattle.mono_theory.specs.Supports.{SideView}
use Rattle.mono_theory.specs.Theories.{Facts}

-- node 1 can be reached from node 0 exactly where variable 3 is true
abbrev pub reaches : List Atom
reaches = record { number = 1; graph = 0; var = 3; predicate = kind.Reach 0 1 } ∷ []

-- two atoms of that predicate and variable, by the numbers 1 and 2
abbrev pub twice : List Atom
twice = record { number = 1; graph = 0; var = 3; predicate = kind.Reach 0 1 } ∷ record { number = 2; graph = 0; var = 3; predicate = kind.Reach 0 1 } ∷ []

-- the walk along edge k, whose variable is k, shows it
abbrev pub walk_along : ℕ → Lemma
walk_along k = of_1 (minus k ∷ pos 3 ∷ []) (by.Path (k ∷ []))

-- a cut around node 0 that rests on these edges
abbrev pub cut_on : List ℕ → Evidence
cut_on edges = record { witness = by.Cut (0 ∷ []); edges = edges }

-- the edge at a place would break the atom, by the walk along the edge of a number, which stands at another place
abbrev pub along : ℕ → ℕ → ℕ → Threat
along edge place number = record { atom = 0; edge = edge; evidence = record { witness = by.Path (number ∷ []); edges = place ∷ [] } }

-- over two edges from node 0 to node 1 these literals were seen
abbrev pub seen_so_far : List ℤ → Facts
seen_so_far t = record { graph = parallel 1 1; atoms = reaches; seen = t }

-- three places, the first and the last of which are of variable 1
abbrev pub bound_by : List Bool → List Bool → Bound
bound_by under over = record { vars = 1 ∷ 2 ∷ 1 ∷ []; places = 0 ∷ 2 ∷ 1 ∷ []; under = under; over = over }

-- the side of the possibly present edges, where atoms are at these stages
abbrev pub side_with : List Stage → SideView
side_with stages = record { possible = true; supports = None ∷ []; shown = None ∷ []; watchers = [] ∷ []; stages = stages; thorough = true }

-- a row with a way to node 1 that weighs 1, and one that lacks it. By place of an atom its row and its target
abbrev pub two_rows : List ℕ → List WalkTarget → PossibleView
two_rows row_of targets = record {
  rows = record { nodes = 2; rows = known_by (with_way 0 1) (Some 0) None ∷ known_by (without_way 4) (Some 0) None ∷ [] };
  row_of = row_of;
  targets = targets;
}
