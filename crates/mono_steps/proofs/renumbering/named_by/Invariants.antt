use Rattle.std.proofs.Common.{◌≡◌, ℕ, ◌+◌, ◌<◌, length, take}
use Rattle.std.specs.List.{list_any}
use Rattle.mono_steps.specs.Needed.{is_set}
use Rattle.mono_steps.specs.Renumbering.{names_step}
use Rattle.mono_steps.proofs.renumbering.named_by.Given as goal

abbrev pub invariant-loop-step : goal.invariant-loop-step
invariant-loop-step l = record {
  as_many : length l.named.items ≡ l.len + length l.steps;
  each : (k : ℕ) → k < length l.named.items → is_set l.named.items k ≡ list_any (λ s. names_step l.count s k) (take l.step-index l.steps);
}
