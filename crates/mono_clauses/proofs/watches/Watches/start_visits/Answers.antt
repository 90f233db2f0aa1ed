use Rattle.std.proofs.Common.{◌≡◌, ◌<◌, ◌+◌, ◌*◌, ◌∙◌, ap, sym, refl, subst, List, ℕ, get_or, arith}
use Rattle.std.proofs.lemmas.List.{get_or_read}
use Rattle.mono_base.specs.Literal.{slot}
use Rattle.mono_base.proofs.Sparse.{slot_bound}
use Rattle.mono_clauses.proofs.WatchLists.{chunk_as, chunk_take, ahead_those, ahead_others}
use Rattle.mono_clauses.proofs.ChunkStacks.{rest_is}
use Rattle.mono_clauses.specs.Lists.{list_at, times}
use Rattle.mono_clauses.specs.Stacks.{IsStack, watchers_at}
use Rattle.mono_clauses.specs.Watching.{watched_of, WatchesView, StartsVisits}
use Rattle.mono_clauses.proofs.watches.Watches.start_visits.Goals as goal
use Rattle.mono_clauses.proofs.watches.Watches.start_visits.Goals.{After-index}

in_slots : (c : After-index) → c.slot-self-inside.result < 2 * c.self.inside.vars + 2
in_slots c = let in_range = rw (← c.self.view_is) at c.requires.in_range in omega (arith, slot_bound c.args.lit c.self.inside.vars in_range.1, c.slot-self-inside.ensures.value)

stack : (c : After-index) → IsStack c.self.inside.chunks.links.items c.index.result.now (list_at c.self.invariant.0.lists c.slot-self-inside.result)
stack c =
    let e : c.index.result.now ≡ get_or c.self.inside.heads.items c.slot-self-inside.result 4294967295 = get_or_read c.self.inside.heads.items c.slot-self-inside.result c.index.result.now (omega (arith, in_slots c, c.self.invariant.0.pool.many)) c.index.ensures 4294967295 in
    subst (λ (h : ℕ). IsStack c.self.inside.chunks.links.items h (list_at c.self.invariant.0.lists c.slot-self-inside.result)) (sym e) (c.self.invariant.0.pool.stacks c.slot-self-inside.result (in_slots c))

pub invariant_of-self-inside : goal.invariant_of-self-inside
invariant_of-self-inside c = (record { places = list_at c.self.invariant.0.lists c.slot-self-inside.result; is = stack (goal.at.invariant_of-self-inside c).After-index }, tt)

pub invariant_of-self : goal.invariant_of-self
invariant_of-self c =
    let at = (goal.at.invariant_of-self c).After-index in
    (chunk_as _ (chunk_take c.slot-self-inside.result c.self.invariant.0 (in_slots at)) (rest_is _ _ c.self-1.given.0 _ (stack at)), c.self.invariant.1, c.self.invariant.2, c.self.invariant.3)

pub returns : goal.returns
returns c =
    let at = (goal.at.returns c).After-index in
    let e : c.self-1.given.0.places ≡ list_at c.self.invariant.0.lists (slot c.args.lit) = rest_is _ _ c.self-1.given.0 _ (stack at) ∙ ap (list_at c.self.invariant.0.lists) c.slot-self-inside.ensures.value in
    subst (λ (v : WatchesView). StartsVisits v (record { vars = c.self.inside.vars; watched = watched_of c.self.inside.busy.items c.self.inside.lits.items; ahead = watchers_at c.self.inside.chunks.cells.items c.self-1.given.0.places }) c.args.lit) c.self.view_is (record {
      vars = refl;
      watched = refl;
      those = λ w s. ap (λ (xs : List ℕ). times w (watchers_at c.self.inside.chunks.cells.items xs)) e ∙ ahead_those c.args.lit w c.self.invariant.0 s;
      others = λ w n. ap (λ (xs : List ℕ). times w (watchers_at c.self.inside.chunks.cells.items xs)) e ∙ ahead_others c.args.lit w c.self.invariant.0 n;
    })
