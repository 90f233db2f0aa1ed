use Rattle.std.proofs.Common.{arith, length, refl}
use Rattle.mono_theory.specs.PossibleRows.{IsRenewedRow, lacks_by}
use Rattle.mono_theory.proofs.DueStay.{due_none}
use Rattle.mono_theory.proofs.PossibleDue.{one_renewed, one_same, part_due, unknown_due, whole_due}
use Rattle.mono_theory.proofs.possible_rows.settle_row.Goals as goal

pub returns-then-is_settled-clause-renewed : goal.returns-then-is_settled-clause-renewed
returns-then-is_settled-clause-renewed c = record {
  nodes = refl;
  size = refl;
  rows = one_same c.args.graph.now c.args.part.now c.args.number c.args.rows.now.rows c.args.row;
  due = λ targets asked. due_none (length c.args.atoms.now.keys) (lacks_by c.args.rows.now.rows c.args.atoms.now.keys targets) c.args.due.now.listed;
}

pub returns-in_err-search-clause-renewed : goal.returns-in_err-search-clause-renewed
returns-in_err-search-clause-renewed c = record {
  nodes = c.search.ensures.nodes;
  size = refl;
  rows = one_renewed c.args.graph.now c.args.part.now c.args.number c.args.rows.now.rows c.search.new.self.rows c.args.row c.search.ensures.searched;
  due = λ targets asked.
      unknown_due c.args.graph.now c.args.part.now c.args.number c.args.rows.now.rows c.search.new.self.rows c.args.row c.args.atoms.now.keys targets c.args.due.now.listed c.search.ensures.searched c.in_err-search.ensures.forgotten;
}

pub returns-then-branch-clause-renewed : goal.returns-then-branch-clause-renewed
returns-then-branch-clause-renewed c = record {
  nodes = c.search.ensures.nodes;
  size = refl;
  rows = one_renewed c.args.graph.now c.args.part.now c.args.number c.args.rows.now.rows c.search.new.self.rows c.args.row c.search.ensures.searched;
  due = λ targets asked.
      whole_due c.args.graph.now c.args.part.now c.args.number c.args.rows.now.rows c.search.new.self.rows c.args.row c.args.atoms.now.keys targets c.args.due.now.listed c.search.ensures.searched
      (c.in_ok-search.ensures.settled.all.0 c.if-branch.true) asked;
}

pub overflow_cast-row : goal.overflow_cast-row
overflow_cast-row c = omega (arith, c.requires.row, c.requires.few)

pub returns-clause-renewed : goal.returns-clause-renewed
returns-clause-renewed c =
    let puts = c.insert_places.ensures in
    let rows = one_renewed c.args.graph.now c.args.part.now c.args.number c.args.rows.now.rows c.search.new.self.rows c.args.row c.search.ensures.searched in
    record {
      nodes = c.search.ensures.nodes;
      size = puts.size;
      rows = rows;
      due = λ targets asked. part_due (IsRenewedRow c.args.graph.now c.args.part.now c.args.number) c.args.rows.now.rows c.search.new.self.rows c.args.row c.args.atoms.now.keys targets c.args.due.now.listed _ rows puts;
    }
