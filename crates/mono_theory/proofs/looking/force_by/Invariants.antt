use Rattle.std.proofs.Common.{◌≡◌}
use Rattle.mono_theory.specs.Stages.{waiting_count}
use Rattle.mono_theory.specs.Supports.{IsAlike, IsSide}
use Rattle.mono_theory.proofs.looking.force_by.Given as goal

abbrev pub invariant-waiting : goal.invariant-waiting
invariant-waiting g l = record {
  size : g.K.Kind.nodes l.kind ≡ g.K.Kind.nodes l.initial.kind;
  side : IsSide l.frame l.side.possible l.side;
  alike : IsAlike l.initial.side l.side;
}

abbrev pub decreases-waiting : goal.decreases-waiting
decreases-waiting g l = waiting_count l.side.stages
