use Rattle.std.proofs.Common.{◌++◌, ◌∙◌, ap, List, ℕ}
use Rattle.mono_gen.specs.Generated.{wall_clause}
use Rattle.mono_gen.proofs.Joining.{joined_more, joined_none}
use Rattle.mono_gen.proofs.input.push_wall_clauses.Goals as goal

pub loop-place-init : goal.loop-place-init
loop-place-init c = joined_none c.args.out.now.items (wall_clause c.args.size c.args.column c.args.edges.now)

pub loop-place-preserved : goal.loop-place-preserved
loop-place-preserved c =
    c.in_ok-push_wall_clause.ensures
    ∙ (ap (λ (t : List ℕ). t ++ wall_clause c.args.size c.args.column c.args.edges.now c.loop-place.place) c.loop-place.invariant
    ∙ joined_more c.args.out.now.items (wall_clause c.args.size c.args.column c.args.edges.now) c.loop-place.place)
