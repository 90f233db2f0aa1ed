-- Which calls of an object in memory fail.
use Rattle.std.specs.Prelude.{◌+◌, ◌-◌, ◌^◌, ◌==◌, ◌&&◌, ℕ, Bool, List, nat_lt, nat_le}
use Rattle.std.specs.List.{list_any, list_all}
use Rattle.mono_io.specs.Faults.{counted}

-- the calls so far, the numbers of the calls that are to fail, and how many have failed
pub record Plan : Type 0 where
  pub calls : ℕ
  pub listed : List ℕ
  pub faults : ℕ

-- the next call is listed; beyond the last value of a `u64` calls have no number
abbrev pub next_is_listed : Plan → Bool
next_is_listed plan = nat_lt plan.calls (2 ^ 64 - 1) && list_any (λ call. call == plan.calls + 1) plan.listed

-- no call still to come is listed
abbrev pub is_over : Plan → Bool
is_over plan = list_all (λ call. nat_le call plan.calls) plan.listed

-- after a call that succeeded
abbrev pub succeeded : Plan → Plan
succeeded plan = record plan { calls = counted plan.calls }

-- after a call that failed
abbrev pub failed : Plan → Plan
failed plan = record plan { calls = counted plan.calls; faults = counted plan.faults }
