-- What a sink holds after a write.
use Rattle.std.specs.Prelude.{◌<◌, ℕ, List, length, take, Option}
use Rattle.std.specs.Io.KnownBytes.{Appends}

-- the first bytes were appended, and not all of them
pub record AppendsPrefix (before now : Option (List ℕ)) (bytes : List ℕ) : Type 0 where
  pub count : ℕ
  pub within : count < length bytes
  pub appended : Appends before now (take count bytes)
