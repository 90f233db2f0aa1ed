use Rattle.std.proofs.Common.{◌∙◌, [], List, ap}
use Rattle.mono_base.specs.Buckets.{lists_in}
use Rattle.mono_base.proofs.ListsByKey.{none_lists}
use Rattle.mono_base.proofs.buckets.Buckets.new.Goals as goal

pub returns : goal.returns
returns g c = ap (λ (xs : List _). lists_in xs c.in_ok-stretches.stretches.items) c.new.ensures.items ∙ ap (lists_in []) c.in_ok-stretches.ensures ∙ none_lists c.args.keys
