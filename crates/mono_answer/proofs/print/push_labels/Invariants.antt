use Rattle.std.proofs.Common.{◌≡◌, ◌++◌, take}
use Rattle.mono_answer.specs.Printed.{labels_text}
use Rattle.mono_answer.specs.Behind.{behind}
use Rattle.mono_answer.proofs.print.push_labels.Given as goal

abbrev pub invariant-loop-label : goal.invariant-loop-label
invariant-loop-label l = l.out.items ≡ l.initial.out.items ++ behind (labels_text (take l.label-index l.labels))
