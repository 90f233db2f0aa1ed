-- What is kept of the labels of nodes along the surely present edges: a row for each first node and measure of an atom.
use Rattle.std.specs.Prelude.{ℕ, Bool, length}
use Rattle.mono_dynamic.specs.Costs.{Costs, label_of}
use Rattle.mono_dynamic.specs.LeastRows.{costs_at}
use Rattle.mono_dynamic.specs.RowsAlong.{shows_least, IsLeastRow}
pub use Rattle.mono_theory.specs.Asked.{first_node, last_node, limit_of}
use Rattle.mono_theory.specs.SureRows.{row_of_atom, shows_walk, AreSureRows, SureRowsView}
use Rattle.mono_theory.specs.Theories.{Facts}
use Rattle.mono_distance.specs.Distances.{is_distance}

-- rows of labels, which the atoms share, and by place of an atom its row, its last node and its limit
abbrev pub SureLabels : Type 0
SureLabels = SureRowsView Costs

-- the label of a node in the row of an atom
abbrev pub under_label : SureLabels → ℕ → ℕ → ℕ
under_label s a v = label_of (costs_at s.rows (row_of_atom s a)).labels v

-- whether the label of the last node of the atom at a place is within its limit
abbrev pub shows_last : SureLabels → ℕ → Bool
shows_last s a = shows_walk shows_least s a

-- each row has the least costs after each number of literals up to n, and each atom has one
abbrev pub AreLabelsAfter : Facts → ℕ → SureLabels → Type 0
AreLabelsAfter f n s = AreSureRows is_distance IsLeastRow f n s

-- each row has the least costs after each number of literals up to all of them, and each atom has one
abbrev pub AreSureLabels : SureLabels → Facts → Type 0
AreSureLabels s f = AreLabelsAfter f (length f.seen) s
