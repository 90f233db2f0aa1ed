-- The watch lists, as contracts see them.
use Rattle.std.specs.Prelude.{◌≡◌, ◌≢◌, ℕ, ℤ, ◌<◌, ◌==◌, Bool, false, List, [], ◌∷◌, ◌++◌, Option, Some, None, length, slice_index_or, slice_set, if◌then◌else◌}
use Rattle.mono_base.specs.Literal.{slot}
use Rattle.mono_clauses.specs.Lists.{times}

-- what each watcher watches, and the watchers that are still ahead on the list that is walked
pub record WatchesView : Type 0 where
  pub vars : ℕ
  pub watched : List (Option ℤ)
  pub ahead : List ℕ

-- what each watcher watches, by the two arrays that hold it: one that is busy watches its literal
abbrev pub watched_of : List Bool → List ℤ → List (Option ℤ)
watched_of [] ls = []
watched_of (b ∷ bs) [] = []
watched_of (b ∷ bs) (l ∷ ls) = (if b then Some l else None) ∷ watched_of bs ls

-- whether a watcher stands in the list of that slot
abbrev pub is_watching : Option ℤ → ℕ → Bool
is_watching None k = false
is_watching (Some a) k = slot a == k

abbrev pub no_watches : ℕ → WatchesView
no_watches vars = record { vars = vars; watched = []; ahead = [] }

abbrev pub more_watches : WatchesView → WatchesView
more_watches v = record v { watched = (v.watched ++ None ∷ []) ++ None ∷ [] }

abbrev pub attached : WatchesView → ℕ → ℤ → WatchesView
attached v w l = record v { watched = slice_set v.watched w (Some l) }

-- no watcher is ahead
abbrev pub emptied : WatchesView → WatchesView
emptied v = record v { ahead = [] }

-- the watchers of the literal are ahead, each once
pub record StartsVisits (v u : WatchesView) (l : ℤ) : Type 0 where
  pub vars : u.vars ≡ v.vars
  pub watched : u.watched ≡ v.watched
  pub those : (w : ℕ) → slice_index_or v.watched w None ≡ Some l → times w u.ahead ≡ 1
  pub others : (w : ℕ) → slice_index_or v.watched w None ≢ Some l → times w u.ahead ≡ 0

-- the first watcher ahead was passed
pub record Kept (v u : WatchesView) : Type 0 where
  pub watcher : ℕ
  pub rest : List ℕ
  pub was : v.ahead ≡ watcher ∷ rest
  pub now : u ≡ record v { ahead = rest }

-- the first watcher ahead left the list, and watches another literal
pub record Placed (v u : WatchesView) (l : ℤ) : Type 0 where
  pub watcher : ℕ
  pub rest : List ℕ
  pub was : v.ahead ≡ watcher ∷ rest
  pub now : u ≡ record v { watched = slice_set v.watched watcher (Some l); ahead = rest }
  pub within : watcher < length v.watched
  pub gone : times watcher rest ≡ 0
