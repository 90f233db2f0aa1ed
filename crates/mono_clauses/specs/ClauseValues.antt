-- What a trail's literals say of a clause, place by place.
use Rattle.std.specs.Prelude.{◌≡◌, ◌≢◌, ℕ, ◌<◌, ℤ, List, length}
use Rattle.mono_base.specs.Literal.{IsLitWithin, lit_at}
use Rattle.mono_base.specs.Partial.{value_by}
use Rattle.mono_base.specs.declared.value.Value.TheVariants.{Yes, No}
use Rattle.mono_clauses.specs.Lists.{Stands}

-- the literals are over the variables from 1 to `vars`
pub record AllVars (vars : ℕ) (c : List ℤ) : Type 0 where
  pub at : (k : ℕ) → k < length c → IsLitWithin vars (lit_at c k)

-- a literal of the clause is true
pub record HasTrue (t c : List ℤ) : Type 0 where
  pub lit : ℤ
  pub has : Stands c lit
  pub holds : value_by t lit ≡ Yes

-- the clause is false
pub record AllFalse (t c : List ℤ) : Type 0 where
  pub at : (k : ℕ) → k < length c → value_by t (lit_at c k) ≡ No

-- each other literal of the clause is false
pub record FalseBut (t c : List ℤ) (x : ℤ) : Type 0 where
  pub at : (k : ℕ) → k < length c → lit_at c k ≢ x → value_by t (lit_at c k) ≡ No

-- a literal of the clause that is not false
pub record IsUnfalse (t c : List ℤ) (x : ℤ) : Type 0 where
  pub has : Stands c x
  pub unfalse : value_by t x ≢ No

-- and that is another
pub record IsAnotherUnfalse (t c : List ℤ) (skip x : ℤ) : Type 0 where
  pub has : Stands c x
  pub unfalse : value_by t x ≢ No
  pub other : x ≢ skip
