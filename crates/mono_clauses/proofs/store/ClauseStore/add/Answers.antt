use Rattle.std.proofs.Common.{◌≡◌, ◌∙◌, ◌++◌, ◌∷◌, [], ap, sym, subst, List, ℕ, refl, arith}
use Rattle.std.proofs.lemmas.Grind.{common_steps}
use Rattle.mono_clauses.proofs.WholeStore.{store_added, store_watched, added_follows, following_of, follows_of, idle_more}
use Rattle.mono_clauses.specs.Store.{Follows}
use Rattle.mono_clauses.specs.Visits.{IsStore, IsFollowing, Watched}
use Rattle.mono_clauses.specs.Watching.{WatchesView, more_watches}
use Rattle.mono_clauses.proofs.store.ClauseStore.add.Goals as goal
use Rattle.mono_clauses.proofs.store.ClauseStore.add.Goals.{In_default, Then-try_watch}

-- with the clause, and two watchers that watch nothing
added : (c : In_default) → IsStore c.add.new.self c.grow.new.self (c.self.inside.due.items ++ c.len-place.result ∷ [])
added c =
    let grown : c.grow.new.self ≡ more_watches c.self.inside.watches = c.in_default.ensures.ok in
    rw (c.in_ok-add.ensures.ok, grown, c.len-place.ensures) (store_added c.self.inside.clauses c.self.inside.watches c.self.inside.due.items c.args.number c.args.lits.now c.self.invariant)

follows : (c : In_default) → Follows (record { vars = c.add.new.self.vars; clauses = c.add.new.self.list; watched = c.grow.new.self.watched }) c.args.trail.now
follows c =
    let grown : c.grow.new.self ≡ more_watches c.self.inside.watches = c.in_default.ensures.ok in
    added_follows c.self.inside.clauses c.add.new.self c.self.inside.watches c.grow.new.self c.args.self.now c.args.trail.now c.args.number c.args.lits.now c.self.view_is c.in_ok-add.ensures.ok grown c.requires.follows

following : (c : In_default) → IsFollowing c.add.new.self.list c.grow.new.self c.args.trail.now
following c = following_of c.add.new.self c.grow.new.self (c.self.inside.due.items ++ c.len-place.result ∷ []) _ c.args.trail.now (added c) refl (follows c)

pub try_watch-requires-clause-following : goal.try_watch-requires-clause-following
try_watch-requires-clause-following c = following (goal.at.try_watch-requires-clause-following c).In_default

pub try_watch-requires-clause-idle : goal.try_watch-requires-clause-idle
try_watch-requires-clause-idle c = idle_more c.self.inside.clauses.list c.self.inside.watches c.grow.new.self c.len-place.result c.self.invariant.paired c.len-place.ensures c.in_default.ensures.ok

watched : (c : Then-try_watch) → Watched c.add.new.self.list c.grow.new.self c.try_watch.new.watches c.args.trail.now c.len-place.result
watched c = c.if-try_watch.ensures.yes

pub invariant_of-self-then-try_watch : goal.invariant_of-self-then-try_watch
invariant_of-self-then-try_watch c =
    let at = (goal.at.invariant_of-self-then-try_watch c).In_default in
    rw c.reserve.ensures.items (store_watched c.add.new.self c.grow.new.self c.try_watch.new.watches c.self.inside.due.items c.args.trail.now c.len-place.result (added at) (following at).vars (watched c))

pub returns-then-try_watch-clause-follows : goal.returns-then-try_watch-clause-follows
returns-then-try_watch-clause-follows c =
    let at = (goal.at.returns-then-try_watch-clause-follows c).In_default in
    follows_of c.add.new.self c.try_watch.new.watches c.args.trail.now ((added at).vars ∙ (following at).vars ∙ sym (watched c).following.vars) (watched c).following

pub invariant_of-self-2 : goal.invariant_of-self-2
invariant_of-self-2 c =
    let at = (goal.at.invariant_of-self-2 c).In_default in
    let same : c.try_watch.new.watches ≡ c.grow.new.self = c.if-try_watch.ensures.no in
    let due : c.push_reserved.new.self.items ≡ c.self.inside.due.items ++ c.len-place.result ∷ [] = c.push_reserved.ensures.items ∙ ap (λ (xs : List ℕ). xs ++ c.len-place.result ∷ []) c.reserve.ensures.items in
    subst (λ (v : WatchesView). IsStore c.add.new.self v c.push_reserved.new.self.items) (sym same) (subst (λ (xs : List ℕ). IsStore c.add.new.self c.grow.new.self xs) (sym due) (added at))

pub returns-clause-follows : goal.returns-clause-follows
returns-clause-follows c =
    let at = (goal.at.returns-clause-follows c).In_default in
    let same : c.try_watch.new.watches ≡ c.grow.new.self = c.if-try_watch.ensures.no in
    subst (λ (v : WatchesView). Follows (record { vars = c.add.new.self.vars; clauses = c.add.new.self.list; watched = v.watched }) c.args.trail.now) (sym same) (follows at)

pub invariant_of-self-in-Err : goal.invariant_of-self-in-Err
invariant_of-self-in-Err c = grind (arith, common_steps)
