use Rattle.std.proofs.Common.{subst}
use Rattle.mono_portfolio.specs.TeamView.{IsTeam}
use Rattle.mono_portfolio.proofs.Kept.{team_of}
use Rattle.mono_portfolio.proofs.team.Team.known.Goals as goal

pub returns : goal.returns
returns c = record { team = subst IsTeam c.self.view_is (team_of c.self.inside.problem.now c.self.inside.board.items c.self.inside.workers.items c.self.inside.built c.self.invariant) }
