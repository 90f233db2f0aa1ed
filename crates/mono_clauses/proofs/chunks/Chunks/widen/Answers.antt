use Rattle.std.proofs.Common.{◌≡◌, ◌+◌, ◌*◌, ◌++◌, ◌∷◌, [], List, ℕ, length, arith, ap, length-append}
use Rattle.std.specs.Prelude.{replicate}
use Rattle.mono_clauses.proofs.ChunkPool.{room_for_two}
use Rattle.mono_clauses.proofs.PlacesAhead.{chunk_added}
use Rattle.mono_clauses.proofs.chunks.Chunks.widen.Goals as goal

pub add-requires-2-clause-cells : goal.add-requires-2-clause-cells
add-requires-2-clause-cells c = omega (arith, c.requires.cells, ap (λ (xs : List ℕ). length xs) c.add.ensures.cells, length-append c.args.self.now.cells.items (replicate 8 0), c.add.ensures.capacity.0)

pub add-requires-2-clause-links : goal.add-requires-2-clause-links
add-requires-2-clause-links c = omega (arith, c.requires.links, ap (λ (xs : List ℕ). length xs) c.add.ensures.links, length-append c.args.self.now.links.items (4294967295 ∷ []), c.add.ensures.capacity.1)

pub add-requires-2-clause-free_chunks : goal.add-requires-2-clause-free_chunks
add-requires-2-clause-free_chunks c =
    omega (arith, c.requires.free_chunks, ap (λ (xs : List ℕ). length xs) c.add.ensures.free_chunks, length-append c.args.self.now.free.items ((8 * length c.args.self.now.links.items) ∷ []), c.add.ensures.capacity.2)

pub add-requires-2-clause-few : goal.add-requires-2-clause-few
add-requires-2-clause-few c = omega (arith, c.requires.few, ap (λ (xs : List ℕ). length xs) c.add.ensures.links, length-append c.args.self.now.links.items (4294967295 ∷ []))

-- how many chunks there are behind each of the two
one_more : (links more : List ℕ) → more ≡ links ++ 4294967295 ∷ [] → length more ≡ length links + 1
one_more links more is = omega (arith, ap (λ (xs : List ℕ). length xs) is, length-append links (4294967295 ∷ []))

two_more : (links more most : List ℕ) → more ≡ links ++ 4294967295 ∷ [] → most ≡ more ++ 4294967295 ∷ [] → length most ≡ length links + 2
two_more links more most once twice = omega (arith, one_more links more once, one_more more most twice)

pub returns-clause-chunked : goal.returns-clause-chunked
returns-clause-chunked c = λ vars list heads ahead watched i.
    let once = chunk_added c.add.new.self.links.items c.add.new.self.cells.items c.add.new.self.free.items i c.add.ensures.cells c.add.ensures.links c.add.ensures.free_chunks (omega (arith, c.requires.few)) in
    chunk_added c.add-2.new.self.links.items c.add-2.new.self.cells.items c.add-2.new.self.free.items once c.add-2.ensures.cells c.add-2.ensures.links c.add-2.ensures.free_chunks
    (omega (arith, c.requires.few, one_more c.args.self.now.links.items c.add.new.self.links.items c.add.ensures.links))

pub returns-clause-room : goal.returns-clause-room
returns-clause-room c = λ watchers slots most least room.
    room_for_two watchers slots (length c.args.self.now.links.items) (length c.add-2.new.self.links.items) (two_more c.args.self.now.links.items c.add.new.self.links.items c.add-2.new.self.links.items c.add.ensures.links c.add-2.ensures.links) room

pub returns-clause-two : goal.returns-clause-two
returns-clause-two c = omega (arith, two_more c.args.self.now.links.items c.add.new.self.links.items c.add-2.new.self.links.items c.add.ensures.links c.add-2.ensures.links)

pub returns-clause-few : goal.returns-clause-few
returns-clause-few c = λ low. omega (arith, two_more c.args.self.now.links.items c.add.new.self.links.items c.add-2.new.self.links.items c.add.ensures.links c.add-2.ensures.links, c.requires.size)
