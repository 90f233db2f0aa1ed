use Rattle.std.proofs.Common.{◌≡◌, ◌+◌, ◌*◌, ◌∙◌, ap, sym, refl, subst, List, [], ◌∷◌, ◌++◌, ℕ, length, arith, None, length-append, Bool, false}
use Rattle.std.specs.Prelude.{ℤ, pos, Option}
use Rattle.std.proofs.lemmas.Result.{err_from_is_err_and}
use Rattle.mono_clauses.proofs.PlacesAhead.{chunk_eq}
use Rattle.mono_clauses.proofs.WatchLists.{chunk_close, chunk_grow}
use Rattle.mono_clauses.proofs.ChunkStacks.{rest_is}
use Rattle.mono_clauses.proofs.Watched.{length_watched, watched_more}
use Rattle.mono_clauses.specs.Stacks.{IsStack, watchers_at}
use Rattle.mono_clauses.specs.Watching.{watched_of, WatchesView, more_watches}
use Rattle.mono_clauses.proofs.watches.Watches.grow.Goals as goal

pub invariant_of-self : goal.invariant_of-self
invariant_of-self c =
    let e = c.reserve_watchers.ensures in
    let r = rest_is _ _ c.in_err-reserve_watchers.self-1-own.given.0 c.self.inside.rest.places (subst (λ (ls : List ℕ). IsStack ls c.self.inside.here c.self.inside.rest.places) (sym e.links) c.self.inside.rest.is) in
    let w : watched_of c.reserve_watchers.new.busy.items c.reserve_watchers.new.lits.items ≡ watched_of c.self.inside.busy.items c.self.inside.lits.items = cc in
    (chunk_eq _ _ _ _ _ c.self.invariant.0 e.links e.cells e.free_chunks w r, omega (arith, ap (λ (xs : List ℕ). length xs) e.links, e.capacity, c.self.invariant.1), ap (λ (xs : List Bool). length xs) e.busy ∙ c.self.invariant.2 ∙ sym (ap (λ (xs : List ℤ). length xs) e.lits), omega (arith, c.self.invariant.3, ap (λ (xs : List ℕ). length xs) e.links, ap (λ (xs : List ℤ). length xs) e.lits))

pub returns-in_err-reserve_watchers-clause-err : goal.returns-in_err-reserve_watchers-clause-err
returns-in_err-reserve_watchers-clause-err c =
    let e = c.reserve_watchers.ensures in
    let r = rest_is _ _ c.in_err-reserve_watchers.self-1-own.given.0 c.self.inside.rest.places (subst (λ (ls : List ℕ). IsStack ls c.self.inside.here c.self.inside.rest.places) (sym e.links) c.self.inside.rest.is) in
    let w : watched_of c.reserve_watchers.new.busy.items c.reserve_watchers.new.lits.items ≡ watched_of c.self.inside.busy.items c.self.inside.lits.items = cc in
    let p = err_from_is_err_and c.from_residual.result c.from_residual.ensures.1 in
    rw (p.1)
    (ap (λ (xs : List ℕ). let v : WatchesView = record { vars = c.self.inside.vars; watched = watched_of c.reserve_watchers.new.busy.items c.reserve_watchers.new.lits.items; ahead = watchers_at c.reserve_watchers.new.chunks.cells.items xs } in v) r
    ∙ ap (λ (cs : List ℕ). let v : WatchesView = record { vars = c.self.inside.vars; watched = watched_of c.reserve_watchers.new.busy.items c.reserve_watchers.new.lits.items; ahead = watchers_at cs c.self.inside.rest.places } in v) e.cells
    ∙ ap (λ (ws : List (Option ℤ)). let v : WatchesView = record { vars = c.self.inside.vars; watched = ws; ahead = watchers_at c.self.inside.chunks.cells.items c.self.inside.rest.places } in v) w
    ∙ c.self.view_is)

pub widen-requires-clause-size : goal.widen-requires-clause-size
widen-requires-clause-size c =
    let e = c.reserve_watchers.ensures in
    omega (arith, c.self.invariant.0.size, ap (λ (xs : List ℕ). length xs) e.cells, ap (λ (xs : List ℕ). length xs) e.links)

more : (bs bs₁ bs₂ : List Bool) (ls ls₁ ls₂ : List ℤ) → length bs ≡ length ls → bs₁ ≡ bs ++ false ∷ [] → ls₁ ≡ ls ++ pos 1 ∷ [] → bs₂ ≡ bs₁ ++ false ∷ [] → ls₂ ≡ ls₁ ++ pos 1 ∷ [] → watched_of bs₂ ls₂ ≡ (watched_of bs ls ++ None ∷ []) ++ None ∷ []
more bs bs₁ bs₂ ls ls₁ ls₂ e a b f g =
    let l : length (bs ++ false ∷ []) ≡ length (ls ++ pos 1 ∷ []) = omega (arith, e, length-append bs (false ∷ []), length-append ls (pos 1 ∷ [])) in
    let h : bs₂ ≡ (bs ++ false ∷ []) ++ false ∷ [] = f ∙ ap (λ (xs : List Bool). xs ++ false ∷ []) a in
    let k : ls₂ ≡ (ls ++ pos 1 ∷ []) ++ pos 1 ∷ [] = g ∙ ap (λ (xs : List ℤ). xs ++ pos 1 ∷ []) b in
    ap (λ (xs : List Bool). watched_of xs ls₂) h ∙ ap (λ (xs : List ℤ). watched_of ((bs ++ false ∷ []) ++ false ∷ []) xs) k
    ∙ watched_more (bs ++ false ∷ []) (ls ++ pos 1 ∷ []) (pos 1) l ∙ ap (λ (ws : List (Option ℤ)). ws ++ None ∷ []) (watched_more bs ls (pos 1) e)

as_many : (bs bs₁ bs₂ : List Bool) (ls ls₁ ls₂ : List ℤ) → length bs ≡ length ls → bs₁ ≡ bs ++ false ∷ [] → ls₁ ≡ ls ++ pos 1 ∷ [] → bs₂ ≡ bs₁ ++ false ∷ [] → ls₂ ≡ ls₁ ++ pos 1 ∷ [] → length bs₂ ≡ length ls₂
as_many bs bs₁ bs₂ ls ls₁ ls₂ e a b f g =
    omega (arith, e, ap (λ (xs : List Bool). length xs) a, ap (λ (xs : List ℤ). length xs) b, ap (λ (xs : List Bool). length xs) f, ap (λ (xs : List ℤ). length xs) g, length-append bs (false ∷ []), length-append ls (pos 1 ∷ []), length-append bs₁ (false ∷ []), length-append ls₁ (pos 1 ∷ []))

pub invariant_of-self-2 : goal.invariant_of-self-2
invariant_of-self-2 c =
    let e = c.reserve_watchers.ensures in
    let w : watched_of c.reserve_watchers.new.busy.items c.reserve_watchers.new.lits.items ≡ watched_of c.self.inside.busy.items c.self.inside.lits.items = cc in
    let l : length c.reserve_watchers.new.busy.items ≡ length c.reserve_watchers.new.lits.items = ap (λ (xs : List Bool). length xs) e.busy ∙ c.self.invariant.2 ∙ sym (ap (λ (xs : List ℤ). length xs) e.lits) in
    let base = chunk_eq c.reserve_watchers.new.chunks.links.items c.reserve_watchers.new.chunks.cells.items c.reserve_watchers.new.chunks.free.items (watched_of c.reserve_watchers.new.busy.items c.reserve_watchers.new.lits.items) [] (chunk_close c.self.inside.list c.self.invariant.0) e.links e.cells e.free_chunks w refl in
    let most : c.len-watchers.result + 2 ≡ length (watched_of c.reserve_watchers.new.busy.items c.reserve_watchers.new.lits.items) + 2 = omega (arith, length_watched c.reserve_watchers.new.busy.items c.reserve_watchers.new.lits.items l) in
    let chunked = c.widen.ensures.chunked c.self.inside.vars c.self.inside.list c.self.inside.heads.items [] (watched_of c.reserve_watchers.new.busy.items c.reserve_watchers.new.lits.items) base in
    let wide = c.widen.ensures.room (length (watched_of c.reserve_watchers.new.busy.items c.reserve_watchers.new.lits.items)) (2 * c.self.inside.vars + 2) most (omega arith) base.room in
    let grown = chunk_grow chunked wide in
    let watched = more _ _ _ _ _ _ l c.add_idle.ensures.busy c.add_idle.ensures.lits c.add_idle-2.ensures.busy c.add_idle-2.ensures.lits in
    let room = c.in_ok-reserve_watchers.ensures.room in
    let longer = c.widen.ensures.two in
    let fewer = c.widen.ensures.few (omega (arith, c.self.invariant.3, ap (λ (xs : List ℕ). length xs) e.links, ap (λ (xs : List ℤ). length xs) e.lits)) in
    let more_lits : length c.add_idle-2.new.lits.items ≡ length c.reserve_watchers.new.lits.items + 2 = omega (arith, ap (λ (xs : List ℤ). length xs) c.add_idle-2.ensures.lits, ap (λ (xs : List ℤ). length xs) c.add_idle.ensures.lits, length-append c.add_idle.new.lits.items (pos 1 ∷ []), length-append c.reserve_watchers.new.lits.items (pos 1 ∷ [])) in
    (chunk_eq _ _ _ _ _ grown refl refl refl watched (rest_is _ _ c.self-2-1.given.0 [] refl), omega (arith, longer, room.4, c.widen.ensures.capacity), as_many _ _ _ _ _ _ l c.add_idle.ensures.busy c.add_idle.ensures.lits c.add_idle-2.ensures.busy c.add_idle-2.ensures.lits, omega (arith, fewer, more_lits))

pub returns-clause-ok : goal.returns-clause-ok
returns-clause-ok c =
    let e = c.reserve_watchers.ensures in
    let empty = rw (← c.self.view_is) at c.requires.empty in
    let w : watched_of c.reserve_watchers.new.busy.items c.reserve_watchers.new.lits.items ≡ watched_of c.self.inside.busy.items c.self.inside.lits.items = cc in
    let l : length c.reserve_watchers.new.busy.items ≡ length c.reserve_watchers.new.lits.items = ap (λ (xs : List Bool). length xs) e.busy ∙ c.self.invariant.2 ∙ sym (ap (λ (xs : List ℤ). length xs) e.lits) in
    let watched = more _ _ _ _ _ _ l c.add_idle.ensures.busy c.add_idle.ensures.lits c.add_idle-2.ensures.busy c.add_idle-2.ensures.lits ∙ ap (λ (ws : List (Option ℤ)). (ws ++ None ∷ []) ++ None ∷ []) w in
    ap (λ (xs : List ℕ). let v : WatchesView = record { vars = c.self.inside.vars; watched = watched_of c.add_idle-2.new.busy.items c.add_idle-2.new.lits.items; ahead = watchers_at c.widen.new.self.cells.items xs } in v) (rest_is _ _ c.self-2-1.given.0 [] refl)
    ∙ ap (λ (ws : List (Option ℤ)). let v : WatchesView = record { vars = c.self.inside.vars; watched = ws; ahead = [] } in v) watched
    ∙ ap (λ (xs : List ℕ). let v : WatchesView = record { vars = c.self.inside.vars; watched = (watched_of c.self.inside.busy.items c.self.inside.lits.items ++ None ∷ []) ++ None ∷ []; ahead = xs } in v) (sym empty)
    ∙ ap (λ (v : WatchesView). more_watches v) c.self.view_is
