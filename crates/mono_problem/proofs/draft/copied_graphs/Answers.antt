use Rattle.std.proofs.Common.{◌<◌, length, arith, ◌∙◌}
use Rattle.mono_problem.proofs.Copies.{copied_entry}
use Rattle.mono_problem.proofs.draft.copied_graphs.Goals as goal

pub loop-place-preserved : goal.loop-place-preserved
loop-place-preserved c =
    let gs = c.args.graphs.now.entries in
    let within : c.loop-place.place < length gs = omega (arith, c.loop-place-test.true, c.len-place-end.ensures.len) in
    c.in_ok-insert.ensures.entries
    ∙ rw (c.loop-place.invariant, c.id_at.ensures, c.in_ok-copy.ensures ∙ c.held_at.ensures) (copied_entry gs c.loop-place.place c.requires within)
