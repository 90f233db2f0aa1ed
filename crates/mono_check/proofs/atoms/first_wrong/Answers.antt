use Rattle.std.proofs.Common.{◌≡◌, length, arith}
use Rattle.std.specs.Prelude.{None}
use Rattle.std.proofs.lemmas.List.{get_or_read}
use Rattle.mono_check.proofs.Questions.{known_at}
use Rattle.mono_base.specs.Literal.{value_in}
use Rattle.mono_check.proofs.WrongAtoms.{one_right, one_wrong, all_right}
use Rattle.mono_check.proofs.atoms.first_wrong.Goals as goal

pub is_right-requires-clause-known : goal.is_right-requires-clause-known
is_right-requires-clause-known c =
    let truths = c.in_ok-truths.ensures.truths in
    let known : length c.in_ok-truths.truths.items ≡ length c.args.problem.now.atoms = truths.len in
    known_at c.args.problem.now (value_in c.args.model.now) c.in_ok-truths.truths.items c.loop-place.place c.index.result.now truths (omega arith)
    (get_or_read c.in_ok-truths.truths.items c.loop-place.place c.index.result.now (omega arith) c.index.ensures None)

pub returns-then-not-branch : goal.returns-then-not-branch
returns-then-not-branch c =
    one_wrong c.args.problem.now (value_in c.args.model.now) c.loop-place.place c.in_ok-is_right.field-0 (omega arith) c.loop-place.invariant.1 c.in_ok-is_right.ensures.right c.if-not-branch.true

pub loop-place-preserved : goal.loop-place-preserved
loop-place-preserved c = (
  c.in_ok-is_right.ensures.parts,
  one_right c.args.problem.now (value_in c.args.model.now) c.loop-place.place c.in_ok-is_right.field-0 (omega arith) c.loop-place.invariant.1 c.in_ok-is_right.ensures.right c.if-not-branch.false,
)

pub returns : goal.returns
returns c = all_right c.args.problem.now (value_in c.args.model.now) c.loop-place.place (omega arith) c.loop-place.invariant.1
