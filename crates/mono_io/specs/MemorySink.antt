-- What a sink in memory holds.
use Rattle.std.specs.Prelude.{◌-◌, ℕ, List, length}
use Rattle.mono_io.specs.FaultPlan.{Plan}

-- the bytes written, how many there is room for, the most that a write takes, and the calls that fail
pub record SinkState : Type 0 where
  pub bytes : List ℕ
  pub room : ℕ
  pub most : ℕ
  pub plan : Plan

-- how many more bytes fit
abbrev pub free_room : SinkState → ℕ
free_room sink = sink.room - length sink.bytes
