-- Rows of what was found along the edges of one side, and of which literals they are.
use Rattle.std.specs.Prelude.{◌≡◌, ℕ, ◌<◌, ◌≤◌, Bool, true, false, ℤ, List, take, length}
use Rattle.mono_base.specs.Worklist.{is_listed}
use Rattle.mono_problem.specs.declared.atom.Atom.{Atom}
use Rattle.mono_problem.specs.declared.atom.Predicate.{Predicate}
use Rattle.mono_theory.specs.Evidences.{Decides, shown_by}
use Rattle.mono_theory.specs.Supports.{AreCovered, IsSettled, atom_at, part_of}
use Rattle.mono_theory.specs.Theories.{Facts, cut_to}

-- The rows are of the first `looked` literals seen, and so is the part of the side. Some atoms are due.
pub record RowsView (R : Type 0) : Type 0 where
  pub part : List Bool
  pub looked : ℕ
  pub rows : R
  pub due : List Bool

-- what rows don't show of an atom is decided the other way: it owes nothing on the side
pub record DecidesRest (f : Facts) (possible : Bool) (shown : ℕ → Bool) : Type 0 where
  pub each : (a : ℕ) → a < length f.atoms → shown a ≡ false
      → Decides f.graph (part_of f.graph f.seen possible) (atom_at f.atoms a).predicate (shown_by (atom_at f.atoms a).predicate possible)

-- each atom that isn't due is settled by the literals, if the rows show something of it
pub record AreSettledBut (t : List ℤ) (possible : Bool) (atoms : List Atom) (shown : ℕ → Bool) (due : List Bool) : Type 0 where
  pub size : length due ≡ length atoms
  pub each : (a : ℕ) → a < length atoms → is_listed due a ≡ false → shown a ≡ true → IsSettled t possible (atom_at atoms a)

-- The atoms are of the kind, and the rows are right for the literals that were looked at. The part is that of the side under
-- these, and each atom of which the rows show something is due or settled by them.
pub record AreRowsFor {R : Type 0} (covers : Predicate → Bool) (possible : Bool) (are_right : R → Facts → Type 0)
    (shown : R → ℕ → Bool) (f : Facts) (s : RowsView R) : Type 0 where
  pub covered : AreCovered covers f.atoms
  pub part : s.part ≡ part_of f.graph (take s.looked f.seen) possible
  pub looked : s.looked ≤ length f.seen
  pub rows : are_right s.rows (cut_to s.looked f)
  pub due : AreSettledBut (take s.looked f.seen) possible f.atoms (shown s.rows) s.due

-- rows that change with each literal are always up to date
abbrev pub AlwaysStand : {R : Type 0} → R → Facts → Type 0
AlwaysStand s f = Unit {0}

-- all literals were looked at, and the rows are up to date
pub record AreUpToDate {R : Type 0} (stands : R → Facts → Type 0) (f : Facts) (s : RowsView R) : Type 0 where
  pub looked : s.looked ≡ length f.seen
  pub stand : stands s.rows (cut_to s.looked f)
