use Rattle.std.proofs.Common.{ℕ, ap}
use Rattle.mono_theory.specs.Owners.{facts_of}
use Rattle.mono_search.specs.Theories.{TheoriesView}
use Rattle.mono_search.proofs.theories.Theories.count_given.Goals as goal

pub one_more-self-inside-requires : goal.one_more-self-inside-requires
one_more-self-inside-requires g c = rw (← c.self.view_is) at c.requires

pub returns : goal.returns
returns g c =
    let t = g.T.Theory in
    let now : ℕ → TheoriesView = λ (n : ℕ). record { problem = c.self.inside.problem.now; facts = facts_of t.graph t.atoms t.seen c.self.inside.theories.items; handed = c.self.inside.handed; given = n } in
    rw (← c.self.view_is) (ap now c.one_more-self-inside.ensures)
