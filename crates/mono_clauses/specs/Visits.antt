-- While watched clauses, and those that are due, are looked at.
use Rattle.std.specs.Prelude.{◌≡◌, ◌≢◌, ℕ, ℤ, neg_ℤ, ◌+◌, ◌-◌, ◌*◌, ◌/◌, ◌<◌, ◌≤◌, List, [], Option, Some, None, length, slice_index_or, ◌⊎◌}
use Rattle.mono_base.specs.Literal.{lit_at}
use Rattle.mono_base.specs.Partial.{value_by}
use Rattle.mono_base.specs.declared.value.Value.TheVariants.{No}
use Rattle.mono_trail.specs.Places.{level_at}
use Rattle.mono_trail.specs.TrailView.{TrailView}
use Rattle.mono_clauses.specs.ClauseList.{ClausesView}
use Rattle.mono_clauses.specs.ClauseValues.{HasTrue}
use Rattle.mono_clauses.specs.Lists.{Stands, times}
use Rattle.mono_clauses.specs.Propagation.{Grows, IsFalseOf}
use Rattle.mono_clauses.specs.Store.{Held, clause_at, watch_at, other, IsTrueBy, Guards}
use Rattle.mono_clauses.specs.Watching.{WatchesView}

-- each watched literal guards the other, where the watchers ahead were not looked at for the last literal given
pub record Guarded (ws : List (Option ℤ)) (t : TrailView) (ahead : List ℕ) : Type 0 where
  pub at : (w : ℕ) (a b : ℤ) → watch_at ws w ≡ Some a → watch_at ws (other w) ≡ Some b → Guards t (t.given - times w ahead) a b
  pub alone : (w : ℕ) (a : ℤ) → watch_at ws w ≡ Some a → watch_at ws (other w) ≡ Some a → IsTrueBy t a 0

-- a watched literal is one of its clause, and the other watcher watches one too
pub record Pair (c : List ℤ) (a : ℤ) (q : Option ℤ) : Type 0 where
  pub has : Stands c a
  pub mate : ℤ
  pub is : q ≡ Some mate

pub record Paired (cs : List Held) (ws : List (Option ℤ)) : Type 0 where
  pub count : length ws ≡ 2 * length cs
  pub watcher : (w : ℕ) (a : ℤ) → watch_at ws w ≡ Some a → Pair (clause_at cs (w / 2)).lits a (watch_at ws (other w))

-- a watcher that watches nothing watched nothing before
pub record NoneBefore (ws us : List (Option ℤ)) : Type 0 where
  pub back : (w : ℕ) → watch_at us w ≡ None → watch_at ws w ≡ None

-- all watches are looked at
pub record IsFollowing (cs : List Held) (v : WatchesView) (t : TrailView) : Type 0 where
  pub vars : v.vars ≡ t.vars
  pub paired : Paired cs v.watched
  pub empty : v.ahead ≡ []
  pub guarded : Guarded v.watched t []

-- the watchers ahead, which watch l, are still to be looked at
pub record IsVisiting (cs : List Held) (v : WatchesView) (t : TrailView) (l : ℤ) : Type 0 where
  pub vars : v.vars ≡ t.vars
  pub paired : Paired cs v.watched
  pub members : (w : ℕ) → 0 < times w v.ahead → watch_at v.watched w ≡ Some l
  pub is_false : value_by t.lits l ≡ No
  pub guarded : Guarded v.watched t v.ahead

-- before the list of l is visited
pub record IsDue (cs : List Held) (v : WatchesView) (t : TrailView) (l : ℤ) : Type 0 where
  pub vars : v.vars ≡ t.vars
  pub paired : Paired cs v.watched
  pub empty : v.ahead ≡ []
  pub is_false : value_by t.lits l ≡ No
  pub alone : (w : ℕ) (a : ℤ) → watch_at v.watched w ≡ Some a → watch_at v.watched (other w) ≡ Some a → IsTrueBy t a 0
  pub own : (w : ℕ) (b : ℤ) → watch_at v.watched w ≡ Some l → watch_at v.watched (other w) ≡ Some b → Guards t (t.given - 1) l b
  pub rest : (w : ℕ) (a b : ℤ) → a ≢ l → watch_at v.watched w ≡ Some a → watch_at v.watched (other w) ≡ Some b → Guards t t.given a b

-- the first watcher ahead was looked at
pub record Looked (cs : List Held) (v u : WatchesView) (t s : TrailView) (l : ℤ) : Type 0 where
  pub visiting : IsVisiting cs u s l
  pub grows : Grows cs t s
  pub given : s.given ≡ t.given
  pub before : NoneBefore v.watched u.watched
  pub less : length u.ahead + 1 ≡ length v.ahead

-- nothing changed, and the clause is false
pub record FoundFalse (cs : List Held) (v u : WatchesView) (t s : TrailView) (n : ℕ) : Type 0 where
  pub watches : u ≡ v
  pub trail : s ≡ t
  pub is_false : IsFalseOf cs s.lits n

-- the watchers that watched l are looked at
pub record Visited (cs : List Held) (v u : WatchesView) (t s : TrailView) : Type 0 where
  pub following : IsFollowing cs u s
  pub grows : Grows cs t s
  pub given : s.given ≡ t.given
  pub before : NoneBefore v.watched u.watched

-- or a false clause was found
pub record Failed (cs : List Held) (v u : WatchesView) (t s : TrailView) (n : ℕ) : Type 0 where
  pub vars : u.vars ≡ s.vars
  pub paired : Paired cs u.watched
  pub empty : u.ahead ≡ []
  pub ahead : List ℕ
  pub guarded : Guarded u.watched s ahead
  pub grows : Grows cs t s
  pub before : NoneBefore v.watched u.watched
  pub is_false : IsFalseOf cs s.lits n

-- the trail has given all its literals
pub record Followed (cs : List Held) (v u : WatchesView) (t s : TrailView) : Type 0 where
  pub following : IsFollowing cs u s
  pub grows : Grows cs t s
  pub all_given : s.given ≡ length s.lits
  pub before : NoneBefore v.watched u.watched

-- a clause that was due was looked at: it is watched now, or has a true literal
pub record Tried (cs : List Held) (v u : WatchesView) (t s : TrailView) (k : ℕ) : Type 0 where
  pub following : IsFollowing cs u s
  pub grows : Grows cs t s
  pub before : NoneBefore v.watched u.watched
  pub done : watch_at u.watched (2 * k) ≡ None → HasTrue s.lits (clause_at cs k).lits

-- the clause is watched
pub record Watched (cs : List Held) (v u : WatchesView) (t : TrailView) (k : ℕ) : Type 0 where
  pub following : IsFollowing cs u t
  pub before : NoneBefore v.watched u.watched
  pub busy : watch_at u.watched (2 * k) ≢ None

-- the places of the due clauses
pub record AreDue (cs : List Held) (due : List ℕ) : Type 0 where
  pub at : (j : ℕ) → j < length due → slice_index_or due j 0 < length cs

-- so were all that were due
pub record DueVisited (cs : List Held) (v u : WatchesView) (t s : TrailView) (due : List ℕ) : Type 0 where
  pub following : IsFollowing cs u s
  pub grows : Grows cs t s
  pub before : NoneBefore v.watched u.watched
  pub done : (j : ℕ) → j < length due → watch_at u.watched (2 * slice_index_or due j 0) ≡ None → HasTrue s.lits (clause_at cs (slice_index_or due j 0)).lits

-- the list has every clause that is due, and only clauses held
pub record DueKept (cs : List Held) (v : WatchesView) (due : List ℕ) : Type 0 where
  pub are_due : AreDue cs due
  pub has_due : (k : ℕ) → k < length cs → watch_at v.watched (2 * k) ≡ None → 0 < times k due

-- the entry at an index stays and is passed, or leaves because its clause is watched
pub record WatchedDropped (cs : List Held) (v : WatchesView) (xs ys : List ℕ) (n m : ℕ) : Type 0 where
  pub due : DueKept cs v ys
  pub before : (j : ℕ) → j < n → slice_index_or ys j 0 ≡ slice_index_or xs j 0
  pub here : m ≡ n ⊎ ((m ≡ n + 1) × (ys ≡ xs))
  pub falls : length ys - m < length xs - n

-- where the negation of a literal stands on the trail, its level is no lower
pub record FellAt (t : TrailView) (level : ℕ) (x : ℤ) : Type 0 where
  pub at : (p : ℕ) → p < length t.lits → lit_at t.lits p ≡ neg_ℤ x → level ≤ level_at t.marks p

-- another literal of the clause, which fell at that level or later
pub record IsLate (t : TrailView) (c : List ℤ) (skip : ℤ) (level : ℕ) (x : ℤ) : Type 0 where
  pub has : Stands c x
  pub other : x ≢ skip
  pub fell : FellAt t level x

-- each clause is watched, or among those that may be due
pub record IsStore (c : ClausesView) (v : WatchesView) (due : List ℕ) : Type 0 where
  pub vars : c.vars ≡ v.vars
  pub paired : Paired c.list v.watched
  pub empty : v.ahead ≡ []
  pub kept : DueKept c.list v due
