use Rattle.std.proofs.Common.{◌≡◌, ◌<◌, ◌-◌, [], List, length, get_or, set, take, ap, subst, arith}
use Rattle.std.proofs.lemmas.List.{get_or_read, length-map}
use Rattle.mono_base.specs.declared.buckets.Stretch.{Stretch}
use Rattle.mono_base.specs.Buckets.{lists_in, listed_in, no_stretch, stretch_at}
use Rattle.mono_base.proofs.ListsByKey.{popped_lists}
use Rattle.mono_base.proofs.buckets.Buckets.pop.Goals as goal

pub returns : goal.returns
returns g c =
    let ss = c.self.inside.stretches.items in
    let xs = c.self.inside.items.items in
    let lt : c.args.key < length ss = omega (arith, c.requires, ap length c.self.view_is, length-map ss (listed_in xs)) in
    let at : c.index-at.result.now ≡ stretch_at ss c.args.key = get_or_read ss c.args.key c.index-at.result.now lt c.index-at.ensures no_stretch in
    let s : Stretch = record { start = c.index-at.result.now.start; len = c.saturating_sub.result; room = c.index-at.result.now.room } in
    subst (λ (ls : List (List _)). lists_in xs (set ss c.args.key s) ≡ set ls c.args.key (take (length (get_or ls c.args.key []) - 1) (get_or ls c.args.key []))) c.self.view_is
    (popped_lists xs ss c.args.key s c.self.invariant lt (ap (λ s. s.start) at) (let less = c.saturating_sub.ensures in omega (arith, less, ap (λ s. s.len) at)))
