use Rattle.std.proofs.Common.{◌≡◌, ◌∙◌, ap, sym, List, [], ℕ, arith, Some}
use Rattle.std.proofs.lemmas.List.{get_or_read}
use Rattle.mono_clauses.proofs.PlacesAhead.{some_place, no_place}
use Rattle.mono_clauses.specs.Lists.{first_of}
use Rattle.mono_clauses.specs.Stacks.{watcher_at, watchers_at}
use Rattle.mono_clauses.specs.Watching.{WatchesView}
use Rattle.mono_clauses.proofs.watches.Watches.first.Goals as goal

pub index-requires : goal.index-requires
index-requires c =
    let b = some_place c.self.inside.chunks.links.items c.self.inside.here c.self.inside.rest (λ z. omega (arith, z, c.if-self.false)) in
    omega (arith, b.place.within, c.self.invariant.0.size)

pub returns-then-self : goal.returns-then-self
returns-then-self c =
    let e : c.self.inside.rest.places ≡ [] = no_place c.self.inside.chunks.links.items c.self.inside.here c.self.inside.rest (omega (arith, c.if-self.true)) in
    sym (ap (λ (v : WatchesView). first_of v.ahead) (sym c.self.view_is) ∙ ap (λ (xs : List ℕ). first_of (watchers_at c.self.inside.chunks.cells.items xs)) e)

pub returns-else-self : goal.returns-else-self
returns-else-self c =
    let b = some_place c.self.inside.chunks.links.items c.self.inside.here c.self.inside.rest (λ z. omega (arith, z, c.if-self.false)) in
    let n : c.index.result.now ≡ watcher_at c.self.inside.chunks.cells.items c.self.inside.here = get_or_read c.self.inside.chunks.cells.items c.self.inside.here c.index.result.now (omega (arith, b.place.within, c.self.invariant.0.size)) c.index.ensures 0 in
    ap Some n ∙ sym (ap (λ (v : WatchesView). first_of v.ahead) (sym c.self.view_is) ∙ ap (λ (xs : List ℕ). first_of (watchers_at c.self.inside.chunks.cells.items xs)) b.was)
