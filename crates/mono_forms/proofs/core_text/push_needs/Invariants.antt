use Rattle.std.proofs.Common.{◌≡◌, ◌++◌, drop}
use Rattle.mono_forms.specs.CoreTexts.{needs_text}
use Rattle.mono_forms.proofs.core_text.push_needs.Given as goal

abbrev pub invariant-loop-place : goal.invariant-loop-place
invariant-loop-place l = l.out.items ++ needs_text (drop l.place l.lits) (drop l.place l.needs) ≡ l.initial.out.items ++ needs_text l.lits l.needs
