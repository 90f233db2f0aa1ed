-- The verdict on an answer that is read from a shelf.
use Rattle.std.specs.Prelude.{◌≡◌, ℕ, ◌+◌, List, ◌++◌, length, IsTrue}
use Rattle.mono_io.specs.declared.refusal.ReadRefusal.{ReadRefusal}
use Rattle.mono_io.specs.declared.refusal.ReadRefusal.TheVariants as why
use Rattle.mono_io.specs.Reading.{IsRead}
use Rattle.mono_io.specs.Shelf.{ShelfView}
use Rattle.mono_problem.specs.Instance.{Instance}
use Rattle.mono_check.specs.declared.refusal.CheckRefusal.{CheckRefusal}
use Rattle.mono_check.specs.declared.refusal.CheckRefusal.TheVariants as check
use Rattle.mono_check.specs.declared.verdict.Verdict.{Verdict}
use Rattle.mono_check.specs.Checking.{Checking, later}
use Rattle.mono_check.specs.Verdicts.{IsVerdict}

-- the text of that name was read whole, and this is the verdict on it
pub record IsVerdictFrom (p : Instance) (name : List ℕ) (limit : ℕ) (old new : ShelfView) (v : Verdict) : Type 0 where
  pub text : List ℕ
  pub read : IsRead name limit old new text
  pub verdict : IsVerdict p text v

-- why the answer wasn't read is why there is no verdict
abbrev pub refusal_of : ReadRefusal → CheckRefusal
refusal_of why.Memory = check.Memory
refusal_of why.Fault = check.Fault
refusal_of why.TooLong = check.TooLong

-- ---- on the way

-- a live checker that was fed nothing
pub record IsUnfed (c : Checking) : Type 0 where
  pub live : IsTrue c.is_live
  pub none : c.fed ≡ 0

-- the one checker is the other after these bytes
pub record Feeds (before : Checking) (bytes : List ℕ) (after : Checking) : Type 0 where
  pub problem : after.problem ≡ before.problem
  pub fed : after.fed ≡ before.fed + length bytes
  pub live : IsTrue before.is_live → IsTrue after.is_live
  pub later : (rest : List ℕ) → later after rest ≡ later before (bytes ++ rest)
