-- Small sides of flows for the worked rows.
use Rattle.std.specs.Prelude.{true, false, pos, List, [], ◌∷◌, None, Some}
use Rattle.mono_graph.specs.declared.amount.Amount.{Amount}
use Rattle.mono_graph.specs.Worked.{edge, single}
use Rattle.mono_problem.specs.declared.atom.Predicate.TheVariants as kind
use Rattle.mono_steps.specs.declared.lemma.Witness.TheVariants as by
use Rattle.mono_theory.specs.declared.stage.Stage.{Stage}
use Rattle.mono_theory.specs.declared.stage.Stage.TheVariants as stage
use Rattle.mono_theory.specs.Supports.{GraphTheoryView, SideView}

-- the only atom stands on a flow of these amounts, which rests on the edge at place 0, of the possibly present edges
abbrev pub standing : List Amount → SideView
standing amounts = record {
  possible = true;
  supports = Some (record { witness = by.Flow amounts; edges = 0 ∷ [] }) ∷ [];
  shown = [];
  watchers = (record { atom = 0; place = 0 } ∷ []) ∷ [];
  stages = stage.Stands ∷ [];
  thorough = true;
}

-- the only atom is at this stage, with such a flow as its support
abbrev pub at_stage : Stage → List Amount → SideView
at_stage at amounts = record (standing amounts) { stages = at ∷ [] }

-- the only atom is at this stage; the amounts of its support, and of what is shown of it
abbrev pub side_of : Stage → List Amount → List Amount → SideView
side_of at support shown = record {
  possible = true;
  supports = Some (record { witness = by.Flow support; edges = [] }) ∷ [];
  shown = Some (record { witness = by.Flow shown; edges = [] }) ∷ [];
  watchers = [] ∷ [];
  stages = at ∷ [];
  thorough = true;
}

-- what a theory over one edge keeps of an atom with the number 4, each on its own side
abbrev pub keeping : SideView → SideView → GraphTheoryView SideView SideView
keeping surely possibly = record {
  graph = single (edge 1 0 1 5);
  atoms = record { number = 4; graph = 0; var = 3; predicate = kind.Flow 0 1 (pos 5) } ∷ [];
  seen = [];
  surely = record surely { possible = false };
  possibly = record possibly { possible = true };
}

-- an atom that waits, and of which nothing is kept, stands before those of the side
abbrev pub behind_another : SideView → SideView
behind_another side = record side {
  supports = None ∷ side.supports;
  shown = None ∷ side.shown;
  watchers = [] ∷ side.watchers;
  stages = stage.Waits ∷ side.stages;
}

-- what a theory over one edge keeps of two atoms with the numbers 2 and 4: of the second one each on its own side
abbrev pub keeping_second : SideView → SideView → GraphTheoryView SideView SideView
keeping_second surely possibly = record (keeping (behind_another surely) (behind_another possibly)) {
  atoms = record { number = 2; graph = 0; var = 2; predicate = kind.Flow 0 1 (pos 5) } ∷ (keeping surely possibly).atoms;
}
