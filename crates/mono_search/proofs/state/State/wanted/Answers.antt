use Rattle.std.proofs.Common.{◌<◌, ℕ, length}
use Rattle.std.specs.Prelude.{Option, Some, None, OnSome}
use Rattle.mono_search.proofs.state.State.wanted.Goals as goal

on_some : (r : Option ℕ) (P : Type 0) → P → OnSome r P
on_some None P h = tt
on_some (Some v) P h = h

pub returns-clause-open : goal.returns-clause-open
returns-clause-open g c = rw (← c.self.view_is) c.open_var.ensures

pub returns-clause-theories : goal.returns-clause-theories
returns-clause-theories g c = rw (← c.self.view_is) (on_some c.open_var.result (0 < length c.self.inside.theories.facts) c.in_ok-var.ensures)
