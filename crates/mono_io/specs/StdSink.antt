-- What a sink over a writer shows.
use Rattle.std.specs.Prelude.{ℕ, List, Option}

-- what the writer holds, where it tells that, and how often a call failed
pub record WriterState : Type 0 where
  pub contents : Option (List ℕ)
  pub faults : ℕ
