-- The order of decision, as contracts see it: of each variable, variable 1 first, whether it stands in the order, and the
-- sign last saved. Activities are no part of it.
use Rattle.std.specs.Prelude.{◌≡◌, ◌≢◌, ℕ, Bool, true, false, ℤ, pos, List, length, replicate, IsTrue}
use Rattle.mono_base.specs.Literal.{value_in}
use Rattle.mono_base.specs.Partial.{is_open_in}
use Rattle.mono_trail.specs.Moves.{IsVar}

pub record OrderView : Type 0 where
  pub waits : List Bool
  pub phases : List Bool

-- every variable from 1 to `vars` stands in it, and each sign is false
abbrev pub all_wait : ℕ → OrderView
all_wait vars = record { waits = replicate vars true; phases = replicate vars false }

-- every open variable stands in the order
pub record AllOpenWait (o : OrderView) (t : List ℤ) : Type 0 where
  pub at : (v : ℕ) → IsVar (length o.waits) v → IsTrue (is_open_in t (pos v)) → IsTrue (value_in o.waits v)

-- the open variable v leaves the order, and of the others only some that have values
pub record Leaves (o r : OrderView) (t : List ℤ) (v : ℕ) : Type 0 where
  pub as_many : length r.waits ≡ length o.waits
  pub phases : r.phases ≡ o.phases
  pub is_var : IsVar (length o.waits) v
  pub is_open : IsTrue (is_open_in t (pos v))
  pub waited : IsTrue (value_in o.waits v)
  pub gone : value_in r.waits v ≡ false
  pub stay : (w : ℕ) → w ≢ v → IsTrue (is_open_in t (pos w)) → IsTrue (value_in o.waits w) → IsTrue (value_in r.waits w)
  pub none_new : (w : ℕ) → IsTrue (value_in r.waits w) → IsTrue (value_in o.waits w)

-- no variable stands in the order any more
pub record AllLeave (o r : OrderView) : Type 0 where
  pub waits : r.waits ≡ replicate (length o.waits) false
  pub phases : r.phases ≡ o.phases

-- every variable from 1 to `vars` has a value
pub record NoneOpen (vars : ℕ) (t : List ℤ) : Type 0 where
  pub at : (v : ℕ) → IsVar vars v → is_open_in t (pos v) ≡ false
