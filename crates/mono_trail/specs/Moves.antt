-- What each call does to a trail.
use Rattle.std.specs.Prelude.{◌≡◌, ℕ, ◌+◌, ◌≤◌, ℤ, [], ◌∷◌, ◌++◌, take, min, slice_set, Option, Some, None}
use Rattle.mono_trail.specs.declared.reason.Reason.{Reason}
use Rattle.mono_trail.specs.declared.reason.Reason.TheVariants.{Clause, Late}
use Rattle.mono_trail.specs.Places.{place_in, level_at, reason_at}
use Rattle.mono_trail.specs.TrailView.{TrailView, count_to, next_level}

-- a variable from 1 to `vars`
abbrev pub IsVar : ℕ → ℕ → Type 0
IsVar vars v = (1 ≤ v) × (v ≤ vars)

-- the literal joins the trail for that reason
abbrev pub joined : TrailView → ℤ → Reason → TrailView
joined t l why =
    record t { lits = t.lits ++ l ∷ []; marks = t.marks ++ record { level = next_level why t.level; reason = why } ∷ []; level = next_level why t.level }

-- literals above the level are dropped, and count as not given
abbrev pub lowered : ℕ → TrailView → TrailView
lowered level t =
    let n = count_to level t.marks in
    record t { lits = take n t.lits; marks = take n t.marks; level = level; given = min t.given n }

-- one literal more is given
abbrev pub gave : TrailView → TrailView
gave t = record t { given = t.given + 1 }

-- the reason of the literal at a place is the clause of that number
abbrev pub settled_at : TrailView → ℕ → ℕ → TrailView
settled_at t k n = record t { marks = slice_set t.marks k (record { level = level_at t.marks k; reason = Clause n }) }

-- the reason of the literal of a variable is the clause of that number
abbrev pub settled_where : TrailView → Option ℕ → ℕ → TrailView
settled_where t None n = t
settled_where t (Some k) n = settled_at t k n

abbrev pub settled : TrailView → ℕ → ℕ → TrailView
settled t v n = settled_where t (place_in t.lits v) n

-- the variable's literal stands on the trail for a late reason
pub record HasLate (t : TrailView) (v : ℕ) : Type 0 where
  pub place : ℕ
  pub is : place_in t.lits v ≡ Some place
  pub atom : ℕ
  pub kept : ℕ
  pub late : reason_at t.marks place ≡ Late atom kept
