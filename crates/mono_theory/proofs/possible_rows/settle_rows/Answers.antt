use Rattle.std.proofs.Common.{◌∙◌, arith, length, refl}
use Rattle.mono_theory.specs.PossibleRows.{lacks_by}
use Rattle.mono_theory.proofs.DueStay.{due_none}
use Rattle.mono_theory.proofs.PossibleDue.{each_same, one_row_more, settled_more}
use Rattle.mono_theory.proofs.possible_rows.settle_rows.Goals as goal

pub loop-row-init : goal.loop-row-init
loop-row-init c = record {
  end = c.count-row-end.ensures.count;
  renewed = record {
    nodes = refl;
    size = refl;
    rows = each_same c.args.graph.now c.args.part.now c.args.number c.args.rows.now.rows;
    due = λ targets asked. due_none (length c.args.atoms.now.keys) (lacks_by c.args.rows.now.rows c.args.atoms.now.keys targets) c.args.due.now.listed;
  };
  settled = λ j lt. absurd (omega (arith, lt));
}

pub settle_row-requires-clause-row : goal.settle_row-requires-clause-row
settle_row-requires-clause-row c = (let inv = c.loop-row.invariant in let len = inv.renewed.rows.len in omega (arith, inv.end, len, c.loop-row-test.true))

pub settle_row-requires-clause-few : goal.settle_row-requires-clause-few
settle_row-requires-clause-few c = (let len = c.loop-row.invariant.renewed.rows.len in omega (arith, len, c.requires.few))

pub settle_row-requires-clause-nodes : goal.settle_row-requires-clause-nodes
settle_row-requires-clause-nodes c = c.loop-row.invariant.renewed.nodes ∙ c.requires.nodes

pub settle_row-requires-clause-size : goal.settle_row-requires-clause-size
settle_row-requires-clause-size c = c.loop-row.invariant.renewed.size ∙ c.requires.size

pub loop-row-preserved : goal.loop-row-preserved
loop-row-preserved c = record {
  end = c.loop-row.invariant.end;
  renewed = one_row_more c.loop-row.row c.loop-row.invariant.renewed c.settle_row.ensures.renewed;
  settled = settled_more c.args.graph.now c.args.part.now c.args.number c.loop-row.row c.loop-row.rows.rows c.settle_row.new.rows.rows c.loop-row.invariant.settled c.settle_row.ensures.renewed.rows c.in_ok-settle_row.ensures.settled;
}

pub returns-in_err-settle_row-clause-renewed : goal.returns-in_err-settle_row-clause-renewed
returns-in_err-settle_row-clause-renewed c = one_row_more c.loop-row.row c.loop-row.invariant.renewed c.settle_row.ensures.renewed

pub returns-clause-settled : goal.returns-clause-settled
returns-clause-settled c = record {
  each = λ j lt. c.loop-row.invariant.settled j (let inv = c.loop-row.invariant in let len = inv.renewed.rows.len in omega (arith, lt, inv.end, len, c.loop-row-test.false));
}
