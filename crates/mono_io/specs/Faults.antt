-- What a count of faults says of the answers of a call.
use Rattle.std.specs.Prelude.{◌≡◌, ◌+◌, ◌-◌, ◌^◌, ℕ, min, max, Result, OnOk, OnErr}

-- one more, up to the last value of a `u64`
abbrev pub counted : ℕ → ℕ
counted n = max n (min (n + 1) (2 ^ 64 - 1))

-- A call that fails raises the count by one, and one that succeeds leaves it.
pub record HasCause {T E : Type 0} (before now : ℕ) (result : Result T E) : Type 0 where
  pub failed : OnErr result (now ≡ counted before)
  pub succeeded : OnOk result (now ≡ before)
