-- How the fields of a trail hold it.
use Rattle.std.specs.Prelude.{◌≡◌, ℕ, ◌+◌, ◌*◌, ◌<◌, ◌≤◌, ℤ, List, [], ◌∷◌, ◌++◌, length, slice_index_or, slice_set, neg_ℤ}
use Rattle.mono_base.specs.declared.value.Value.{Value}
use Rattle.mono_base.specs.declared.value.Value.TheVariants.{Unset}
use Rattle.mono_base.specs.Literal.{IsLitWithin, lit_at, slot, var_of}
use Rattle.mono_base.specs.Partial.{value_by}
use Rattle.mono_trail.specs.declared.reason.Mark.{Mark}
use Rattle.mono_trail.specs.declared.reason.Reason.{Reason}
use Rattle.mono_trail.specs.declared.reason.Reason.TheVariants.{Decided, Clause, Late}
use Rattle.mono_trail.specs.TrailView.{TrailView, IsSoundTrail, count_to}

-- the table has the value of each literal
pub record AreValues (vars : ℕ) (lits : List ℤ) (values : List Value) : Type 0 where
  pub slots : length values ≡ 2 * vars + 2
  pub are : (l : ℤ) → IsLitWithin vars l → slice_index_or values (slot l) Unset ≡ value_by lits l

-- the table has the place of each variable that has a value. What it says of the others counts for nothing
pub record ArePlaces (vars : ℕ) (lits : List ℤ) (places : List ℕ) : Type 0 where
  pub slots : length places ≡ vars + 1
  pub are : (k : ℕ) → k < length lits → slice_index_or places (var_of (lit_at lits k)) 0 ≡ k

-- each level begins where the lower ones end
pub record AreStarts (starts : List ℕ) (marks : List Mark) (level : ℕ) : Type 0 where
  pub levels : length starts ≡ level
  pub at : (j : ℕ) → j < level → slice_index_or starts j 0 ≡ count_to j marks

-- the places of the decisions, after a literal with this reason came to a place
abbrev pub starts_after : Reason → List ℕ → ℕ → List ℕ
starts_after Decided starts place = starts ++ place ∷ []
starts_after (Clause n) starts place = starts
starts_after (Late atom kept) starts place = starts

-- what the fields keep
pub record HoldTrail (t : TrailView) (values : List Value) (places starts : List ℕ) (lit_room mark_room start_room : ℕ) : Type 0 where
  pub sound : IsSoundTrail t
  pub values_are : AreValues t.vars t.lits values
  pub places_are : ArePlaces t.vars t.lits places
  pub starts_are : AreStarts starts t.marks t.level
  pub lits_fit : t.vars ≤ lit_room
  pub marks_fit : t.vars ≤ mark_room
  pub starts_fit : t.vars ≤ start_room

-- without the values of the literals and their negations
abbrev pub unvalued : List ℤ → List Value → List Value
unvalued [] vs = vs
unvalued (l ∷ t) vs = unvalued t (slice_set (slice_set vs (slot l) Unset) (slot (neg_ℤ l)) Unset)
