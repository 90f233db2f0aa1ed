-- The trail: the literals that are true, in order, each with its level and its reason.
use Rattle.std.specs.Prelude.{◌≡◌, ℕ, ◌+◌, ◌<◌, ◌≤◌, ℤ, List, [], ◌∷◌, length, All, if◌then◌else◌, nat_le, IsTrue}
use Rattle.mono_base.specs.declared.limits.TheConstants.{MAX_VARS}
use Rattle.mono_base.specs.Literal.{IsLitWithin, lit_at}
use Rattle.mono_base.specs.Partial.{is_partial}
use Rattle.mono_trail.specs.declared.reason.Mark.{Mark}
use Rattle.mono_trail.specs.declared.reason.Reason.{Reason}
use Rattle.mono_trail.specs.declared.reason.Reason.TheVariants.{Decided, Clause, Late}
use Rattle.mono_trail.specs.Places.{level_at}

-- a trail, as contracts see it. The first `given` of its literals were given by `next_due`
pub record TrailView : Type 0 where
  pub vars : ℕ
  pub lits : List ℤ
  pub marks : List Mark
  pub level : ℕ
  pub given : ℕ

abbrev pub no_literals : ℕ → TrailView
no_literals vars = record { vars = vars; lits = []; marks = []; level = 0; given = 0 }

-- how many literals stand before the first one above the level
abbrev pub count_to : ℕ → List Mark → ℕ
count_to level [] = 0
count_to level (m ∷ ms) = if nat_le m.level level then count_to level ms + 1 else 0

-- the level after a literal with this reason, from the level before it
abbrev pub next_level : Reason → ℕ → ℕ
next_level Decided low = low + 1
next_level (Clause n) low = low
next_level (Late atom kept) low = low

-- the levels of the marks climb from low to top, by one at each decision and nowhere else
abbrev pub Climbs : ℕ → List Mark → ℕ → Type 0
Climbs low [] top = top ≡ low
Climbs low (m ∷ ms) top = (m.level ≡ next_level m.reason low) × Climbs m.level ms top

-- what every trail keeps
pub record IsSoundTrail (t : TrailView) : Type 0 where
  pub partial : IsTrue (is_partial t.lits)
  pub within : All (IsLitWithin t.vars) t.lits
  pub as_many : length t.marks ≡ length t.lits
  pub climbs : Climbs 0 t.marks t.level
  pub few : t.vars ≤ MAX_VARS
  pub few_lits : length t.lits ≤ t.vars
  pub given_in : t.given ≤ length t.lits

-- the literal stands on the trail at this level
pub record StandsAt (t : TrailView) (l : ℤ) (level : ℕ) : Type 0 where
  pub place : ℕ
  pub within : place < length t.lits
  pub there : lit_at t.lits place ≡ l
  pub at : level_at t.marks place ≡ level
