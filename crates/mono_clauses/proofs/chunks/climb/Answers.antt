use Rattle.std.proofs.Common.{◌≡◌, ◌+◌, ◌∷◌, [], arith, ap, refl, ◌∙◌}
use Rattle.mono_clauses.proofs.ChunkStacks.{times-append, one_same}
use Rattle.mono_clauses.specs.Lists.{times}
use Rattle.mono_clauses.proofs.chunks.climb.Goals as goal

pub index_mut-requires : goal.index_mut-requires
index_mut-requires c =
    let o = one_same c.in-Some.place c.in-Some.place refl in
    let e : times c.in-Some.place c.args.free_chunks.now.items ≡ times c.in-Some.place c.pop.new.self.items + times c.in-Some.place (c.in-Some.place ∷ []) = ap (times c.in-Some.place) c.in-Some.ensures.items ∙ times-append c.in-Some.place c.pop.new.self.items (c.in-Some.place ∷ []) in
    let q = c.requires.free_chunks c.in-Some.place (omega (arith, e, o)) in
    omega (arith, q.1)
