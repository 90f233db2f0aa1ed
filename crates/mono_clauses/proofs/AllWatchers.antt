-- The visits along a list, and the lists of all literals given.
use Rattle.std.proofs.Common.{◌≡◌, ℕ, ◌+◌, ◌-◌, ◌<◌, ◌≤◌, List, length, arith, refl, sym, ◌∙◌, ap, subst}
use Rattle.std.specs.Prelude.{ℤ, pos, neg_ℤ, Option}
use Rattle.mono_base.specs.Literal.{IsLitWithin, lit_at}
use Rattle.mono_base.proofs.Partials.{var-neg}
use Rattle.mono_clauses.proofs.Growth.{Grows-then, Grows-vars}
use Rattle.mono_clauses.specs.Lists.{Stands}
use Rattle.mono_clauses.specs.Propagation.{Grows, gives}
use Rattle.mono_clauses.specs.Store.{Held, watch_at}
use Rattle.mono_clauses.specs.Visits.{Guarded, NoneBefore, IsFollowing, IsVisiting, Looked, FoundFalse, Visited, Failed}
use Rattle.mono_clauses.specs.Watching.{WatchesView, StartsVisits, emptied}
use Rattle.mono_trail.specs.Moves.{gave}
use Rattle.mono_trail.specs.TrailView.{TrailView, IsSoundTrail}

pub NoneBefore-same : (ws : List (Option ℤ)) → NoneBefore ws ws
NoneBefore-same ws = record { back = λ w e. e }

pub NoneBefore-then : (ws us xs : List (Option ℤ)) → NoneBefore ws us → NoneBefore us xs → NoneBefore ws xs
NoneBefore-then ws us xs a b = record { back = λ w e. a.back w (b.back w e) }

pub NoneBefore-visits : (v u : WatchesView) (l : ℤ) → StartsVisits v u l → NoneBefore v.watched u.watched
NoneBefore-visits v u l h = record { back = λ w e. ap (λ (ws : List (Option ℤ)). watch_at ws w) (sym h.watched) ∙ e }

pub looked_vars : (cs : List Held) (v u : WatchesView) (t s : TrailView) (l : ℤ) → IsVisiting cs v t l → Looked cs v u t s l → u.vars ≡ v.vars
looked_vars cs v u t s l i k = k.visiting.vars ∙ Grows-vars cs t s k.grows ∙ sym i.vars

-- a false clause was found in the walk
pub failed_of : (cs : List Held) (o v u e : WatchesView) (r t s : TrailView) (l : ℤ) (n : ℕ) → NoneBefore o.watched v.watched → Grows cs r t → IsVisiting cs v t l → FoundFalse cs v u t s n → e ≡ emptied u → Failed cs o e r s n
failed_of cs o v u e r t s l n b g i f z =
    let ev : e ≡ emptied v = z ∙ ap emptied f.watches in
    subst (λ (q : WatchesView). Failed cs o q r s n) (sym ev) (record {
      vars = i.vars ∙ ap (λ (q : TrailView). q.vars) (sym f.trail);
      paired = i.paired;
      empty = refl;
      ahead = v.ahead;
      guarded = subst (λ (q : TrailView). Guarded v.watched q v.ahead) (sym f.trail) i.guarded;
      grows = subst (λ (q : TrailView). Grows cs r q) (sym f.trail) g;
      before = b;
      is_false = f.is_false;
    })

pub failed_from : (cs : List Held) (o v u : WatchesView) (r t s : TrailView) (n : ℕ) → NoneBefore o.watched v.watched → Grows cs r t → Failed cs v u t s n → Failed cs o u r s n
failed_from cs o v u r t s n b g f = record { vars = f.vars; paired = f.paired; empty = f.empty; ahead = f.ahead; guarded = f.guarded; grows = Grows-then cs r t s g f.grows; before = NoneBefore-then o.watched v.watched u.watched b f.before; is_false = f.is_false }

-- a literal of the trail is over its variables, and so is its negation
pub due_range : (u : TrailView) (p : ℤ) → IsSoundTrail u → Stands u.lits p → IsLitWithin u.vars (neg_ℤ p)
due_range u p sound s =
    let r : IsLitWithin u.vars p = subst (IsLitWithin u.vars) s.there (sound.within s.place (pos 0) s.within) in
    subst (λ (n : ℕ). (0 < n) × (n ≤ u.vars)) (sym (var-neg p)) r

pub given_stands : (t u : TrailView) (p : ℤ) → u ≡ gave t → t.given < length t.lits → lit_at t.lits t.given ≡ p → Stands u.lits p
given_stands t u p e lt at = subst (λ (q : TrailView). Stands q.lits p) (sym e) (record { place = t.given; within = lt; there = at })

pub queue_falls : (cs : List Held) (t u s : TrailView) → IsSoundTrail u → u ≡ gave t → t.given < length t.lits → Grows cs u s → s.given ≡ u.given → s.vars - s.given < t.vars - t.given
queue_falls cs t u s sound e lt g same_given =
    let v : s.vars ≡ u.vars = Grows-vars cs u s g in
    let w : u.vars ≡ t.vars = ap (λ (q : TrailView). q.vars) e in
    let n : u.given ≡ t.given + 1 = ap (λ (q : TrailView). q.given) e in
    let m : length u.lits ≡ length t.lits = ap (λ (q : TrailView). length q.lits) e in
    omega (arith, v, w, n, m, same_given, lt, sound.few_lits)

pub gave_grows : (cs : List Held) (r t u : TrailView) → Grows cs r t → t.given < length t.lits → u ≡ gave t → Grows cs r u
gave_grows cs r t u g lt e = gives t u g lt e

pub visited_vars : (cs : List Held) (v w : WatchesView) (t u s : TrailView) → IsFollowing cs v t → u ≡ gave t → Visited cs v w u s → w.vars ≡ v.vars
visited_vars cs v w t u s i e k = k.following.vars ∙ Grows-vars cs u s k.grows ∙ ap (λ (q : TrailView). q.vars) e ∙ sym i.vars
