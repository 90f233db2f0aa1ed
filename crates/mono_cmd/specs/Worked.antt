-- A problem, texts, shelves and runs for the worked rows.
use Rattle.std.specs.Prelude.{ℕ, List, [], ◌∷◌, ◌++◌, Option, Some, None, codes}
use Rattle.mono_io.specs.Shelf.{ShelfView, Texts}
use Rattle.mono_io.specs.Worked.{steady_shelf}
use Rattle.mono_problem.specs.Instance.{Instance}
use Rattle.mono_words.specs.declared.command.Command.{Command}
use Rattle.mono_forms.specs.declared.status.Status.{Status}
use Rattle.mono_cmd.specs.Promises.{RunView}

-- the problem of an empty file
abbrev pub empty_problem : Instance
empty_problem = record { vars = 0; graphs = []; atoms = []; clauses = [] }

-- ---- texts

-- `f` alone, with this text
abbrev pub one_file : List ℕ → Texts
one_file text = (codes "f", text) ∷ []

-- `f`, and `a` with another text
abbrev pub with_answer : List ℕ → List ℕ → Texts
with_answer text given = (codes "f", text) ∷ (codes "a", given) ∷ []

-- `f` stands for the empty problem, and `b` has a first fault
abbrev pub two_files : Texts
two_files = (codes "f", codes "") ∷ (codes "b", codes "x") ∷ []

-- ---- shelves

-- a steady shelf of those two: this name is chosen, so much of it was read, after so many begins and failed calls
abbrev pub read_in : List ℕ → Option ℕ → ℕ → ℕ → ShelfView
read_in name place begun faults = steady_shelf two_files name place begun faults

-- no name was begun
abbrev pub fresh : ShelfView
fresh = read_in [] None 0 0

-- one was begun that isn't there
abbrev pub missed : ShelfView
missed = read_in [] None 1 1

abbrev pub read_f : ShelfView
read_f = read_in (codes "f") (Some 0) 1 0

abbrev pub read_b : ShelfView
read_b = read_in (codes "b") (Some 1) 1 0

-- `f` was read, and behind it a name was begun that isn't there
abbrev pub missed_behind : ShelfView
missed_behind = read_in [] None 2 1

-- ---- runs

-- a run over a steady shelf of these texts, which ends with this shelf and status and wrote this behind `a`
abbrev pub run_of : Texts → Option Command → ShelfView → Status → List ℕ → RunView
run_of texts found new s written = record {
  command = found;
  old = steady_shelf texts [] None 0 0;
  new = new;
  status = s;
  before = Some (codes "a");
  now = Some (codes "a" ++ written);
}

-- the same over an output that isn't told
abbrev pub untold_run : Texts → Option Command → ShelfView → Status → RunView
untold_run texts found new s = record {
  command = found;
  old = steady_shelf texts [] None 0 0;
  new = new;
  status = s;
  before = None;
  now = None;
}
