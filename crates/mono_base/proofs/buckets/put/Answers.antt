use Rattle.std.proofs.Common.{◌≡◌, ◌+◌, ◌++◌, ◌∷◌, [], get_or, set, subst, sym, refl}
use Rattle.std.proofs.lemmas.List.{get_or_read}
use Rattle.mono_base.specs.declared.buckets.Stretch.{Stretch}
use Rattle.mono_base.specs.Buckets.{lists_in, no_stretch, stretch_at}
use Rattle.mono_base.proofs.ListsByKey.{put_lists}
use Rattle.mono_base.proofs.buckets.put.Goals as goal

pub returns-clause-added : goal.returns-clause-added
returns-clause-added g c =
    let ss = c.args.stretches.now.items in
    let xs = c.args.items.now.items in
    let at : c.index-at.result.now ≡ stretch_at ss c.args.key = get_or_read ss c.args.key c.index-at.result.now c.requires.key c.index-at.ensures no_stretch in
    subst (λ (t : Stretch). lists_in (set xs (t.start + t.len) c.args.item) (set ss c.args.key (record { start = t.start; len = t.len + 1; room = t.room })) ≡ set (lists_in xs ss) c.args.key (get_or (lists_in xs ss) c.args.key [] ++ c.args.item ∷ [])) (sym at)
    (put_lists xs ss c.args.key c.args.item _ c.requires.apart c.requires.key c.requires.room refl refl)
