use Rattle.std.proofs.Common.{◌≡◌, subst}
use Rattle.std.proofs.lemmas.List.{get_or_read}
use Rattle.mono_base.specs.Buckets.{IsBehind, no_stretch, stretch_at}
use Rattle.mono_base.proofs.ListsByKey.{apart_more, moved_lists, same_lists}
use Rattle.mono_base.proofs.buckets.make_room.Goals as goal

pub returns-in_err-behind-clause-apart : goal.returns-in_err-behind-clause-apart
returns-in_err-behind-clause-apart g c = apart_more c.args.items.now.items c.copy_behind.new.items.items c.args.stretches.now.items c.requires.apart c.copy_behind.ensures.kept

pub returns-in_err-behind-clause-same : goal.returns-in_err-behind-clause-same
returns-in_err-behind-clause-same g c = same_lists c.args.items.now.items c.copy_behind.new.items.items c.args.stretches.now.items c.requires.apart c.copy_behind.ensures.kept

pub returns-clause-same : goal.returns-clause-same
returns-clause-same g c =
    let ss = c.args.stretches.now.items in
    let at : c.index-at.result.now ≡ stretch_at ss c.args.key = get_or_read ss c.args.key c.index-at.result.now c.requires.key c.index-at.ensures no_stretch in
    moved_lists c.args.items.now.items c.copy_behind.new.items.items ss c.args.key c.in_ok-behind.behind c.requires.apart c.requires.key c.copy_behind.ensures.kept
    (subst (λ t. IsBehind c.args.items.now.items c.copy_behind.new.items.items t c.in_ok-behind.behind) at c.in_ok-behind.ensures.behind)
