-- What is kept of the nodes that are reached along the surely present edges: a row for each first node of an atom.
use Rattle.std.specs.Prelude.{ℕ, Bool, length}
use Rattle.mono_dynamic.specs.Arrivals.{is_reached}
use Rattle.mono_dynamic.specs.Reached.{Reached}
use Rattle.mono_dynamic.specs.Rows.{row_at}
use Rattle.mono_dynamic.specs.RowsAlong.{shows_reached, IsReachedRow}
pub use Rattle.mono_theory.specs.Asked.{first_node, last_node}
pub use Rattle.mono_theory.specs.SureRows.{row_of_atom}
use Rattle.mono_theory.specs.SureRows.{shows_walk, AreSureRows, SureRowsView}
use Rattle.mono_theory.specs.Theories.{Facts}
use Rattle.mono_reach.specs.Reaches.{is_reach}

-- the rows, and by place of an atom its row and its last node
abbrev pub SureMarks : Type 0
SureMarks = SureRowsView Reached

-- whether the node is known to be reached from the atom's first node
abbrev pub under_mark : SureMarks → ℕ → ℕ → Bool
under_mark s a v = is_reached (row_at s.rows (row_of_atom s a)).arrivals v

-- whether the last node of the atom at a place is
abbrev pub shows_last : SureMarks → ℕ → Bool
shows_last s a = shows_walk shows_reached s a

-- each row has what is reached after each number of literals up to the first n
abbrev pub AreMarks : Facts → ℕ → SureMarks → Type 0
AreMarks f n s = AreSureRows is_reach IsReachedRow f n s

-- they are right for all literals seen
abbrev pub AreMarksOf : SureMarks → Facts → Type 0
AreMarksOf s f = AreMarks f (length f.seen) s
