use Rattle.std.proofs.Common.{◌≡◌, ◌%◌, ◌∙◌, ap, ℕ, get_or, arith}
use Rattle.std.proofs.lemmas.List.{get_or_read}
use Rattle.mono_clauses.proofs.PlacesAhead.{climbed_within}
use Rattle.mono_clauses.proofs.chunks.Chunks.put.Goals as goal

pub index_mut-requires : goal.index_mut-requires
index_mut-requires c =
    let top : c.index-top.result.now ≡ get_or c.args.heads.now.items c.args.slot 4294967295 = get_or_read c.args.heads.now.items c.args.slot c.index-top.result.now c.requires.in_range c.index-top.ensures 4294967295 in
    let lt = climbed_within c.args.self.now.links.items c.args.self.now.free.items c.index-top.result.now _ _ c.climb-place.result c.climb-place.ensures.is (λ n. (let q = c.requires.top (λ z. n (ap (λ (y : ℕ). y % 8) top ∙ z)) in omega (arith, q, top))) c.requires.free_chunks in
    omega (arith, lt, c.requires.size)
