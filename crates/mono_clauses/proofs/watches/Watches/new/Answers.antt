use Rattle.std.proofs.Common.{◌≡◌, ◌+◌, ◌*◌, ◌∙◌, ap, sym, refl, subst, List, [], ℕ, length, arith, Bool}
use Rattle.std.specs.Prelude.{ℤ}
use Rattle.mono_clauses.proofs.PlacesAhead.{chunk_eq}
use Rattle.mono_clauses.proofs.WatchLists.{chunk_none}
use Rattle.mono_clauses.proofs.ChunkStacks.{rest_is}
use Rattle.mono_clauses.specs.Stacks.{IsChunked, watchers_at}
use Rattle.mono_clauses.specs.Watching.{watched_of, WatchesView}
use Rattle.mono_clauses.proofs.watches.Watches.new.Goals as goal

pub invariant_of-result-2 : goal.invariant_of-result-2
invariant_of-result-2 c =
    let links = c.new-links.ensures.items in
    let heads : IsChunked c.args.vars [] [] [] c.in_ok-heads.heads.items [] 0 [] = subst (λ (hs : List ℕ). IsChunked c.args.vars [] [] [] hs [] 0 []) (sym c.in_ok-heads.ensures) (chunk_none c.args.vars (2 * c.args.vars + 2) refl) in
    let watched : watched_of c.new.result.items c.new-2.result.items ≡ [] = ap (λ (bs : List Bool). watched_of bs c.new-2.result.items) c.new.ensures.items in
    let none : length c.new-links.result.items ≡ 0 = ap (λ (xs : List ℕ). length xs) links in
    (chunk_eq _ _ _ _ _ heads links c.new-cells.ensures.items c.new-free.ensures.items watched (rest_is _ _ c.result-1.given.0 [] refl), omega (arith, none), omega (arith, ap (λ (bs : List Bool). length bs) c.new.ensures.items, ap (λ (ls : List ℤ). length ls) c.new-2.ensures.items), omega (arith, none))

pub returns : goal.returns
returns c =
    ap (λ (xs : List ℕ). let v : WatchesView = record { vars = c.args.vars; watched = watched_of c.new.result.items c.new-2.result.items; ahead = watchers_at c.new-cells.result.items xs } in v) (rest_is _ _ c.result-1.given.0 [] refl)
    ∙ ap (λ (bs : List Bool). let v : WatchesView = record { vars = c.args.vars; watched = watched_of bs c.new-2.result.items; ahead = [] } in v) c.new.ensures.items
