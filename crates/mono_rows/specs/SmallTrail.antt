-- A small trail and a small order for the worked rows. On the trail 3 is decided, and atom 2 forces 4 once it has been shown
-- that literal; then -5 is decided and implies 6 by clause 7.
use Rattle.std.specs.Prelude.{ℕ, Bool, true, false, pos, List, [], ◌∷◌}
use Rattle.mono_steps.specs.WorkedLemmas.{minus}
use Rattle.mono_trail.specs.declared.reason.Mark.{Mark}
use Rattle.mono_trail.specs.declared.reason.Reason.{Reason}
use Rattle.mono_trail.specs.declared.reason.Reason.TheVariants.{Decided, Clause, Late}
use Rattle.mono_trail.specs.Order.{OrderView}
use Rattle.mono_trail.specs.TrailView.{TrailView}

abbrev pub mark : ℕ → Reason → Mark
mark level why = record { level = level; reason = why }

-- up to level 1, of which so many literals were given
abbrev pub first_level : ℕ → TrailView
first_level given = record { vars = 6; lits = pos 3 ∷ pos 4 ∷ []; marks = mark 1 Decided ∷ mark 1 (Late 2 1) ∷ []; level = 1; given = given }

-- the whole trail
abbrev pub both_levels : ℕ → TrailView
both_levels given = record {
  vars = 6;
  lits = pos 3 ∷ pos 4 ∷ minus 5 ∷ pos 6 ∷ [];
  marks = mark 1 Decided ∷ mark 1 (Late 2 1) ∷ mark 2 Decided ∷ mark 2 (Clause 7) ∷ [];
  level = 2;
  given = given;
}

-- an order of three variables, the first two of which have the sign true
abbrev pub order : List Bool → OrderView
order waits = record { waits = waits; phases = true ∷ true ∷ false ∷ [] }
