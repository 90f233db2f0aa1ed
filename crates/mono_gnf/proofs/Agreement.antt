-- A fault and what is read agree.
use Rattle.std.proofs.Common.{◌≡◌, Bool, true, false, cond, List, [], ◌∷◌, Option, Some, None, Result, Ok, Err, refl}
use Rattle.mono_gnf.specs.declared.fault.GnfFault.{GnfFault}
use Rattle.mono_gnf.specs.Faults.{first_failed}
use Rattle.mono_gnf.specs.Reading.{Seen, ◌>>=◌}
use Rattle.std.specs.Option.{option_or}

-- there is the same fault, or there is none and Q holds of what is seen then
abbrev pub SameOutcome : (Seen → Type 0) → Option GnfFault → Result Seen GnfFault → Type 0
SameOutcome Q None (Ok s) = Q s
SameOutcome Q None (Err g) = ⊥
SameOutcome Q (Some f) (Ok s) = ⊥
SameOutcome Q (Some f) (Err g) = f ≡ g

pub SameOutcome-along : (Q : Seen → Type 0) (o o' : Option GnfFault) (r r' : Result Seen GnfFault) → o ≡ o' → r ≡ r' → SameOutcome Q o' r' → SameOutcome Q o r
SameOutcome-along Q o o' r r' e k h = rw (e, k) h

pub SameOutcome-weaker : (P Q : Seen → Type 0) (o : Option GnfFault) (r : Result Seen GnfFault) → ((s : Seen) → P s → Q s) → SameOutcome P o r → SameOutcome Q o r
SameOutcome-weaker P Q None (Ok s) more h = more s h
SameOutcome-weaker P Q None (Err g) more h = absurd h
SameOutcome-weaker P Q (Some f) (Ok s) more h = absurd h
SameOutcome-weaker P Q (Some f) (Err g) more h = h

-- one step, and then another
pub SameOutcome-then : (P Q : Seen → Type 0) (o more : Option GnfFault) (r : Result Seen GnfFault) (next : Seen → Result Seen GnfFault)
    → SameOutcome P o r → ((s : Seen) → P s → SameOutcome Q more (next s)) → SameOutcome Q (option_or o more) (r >>= next)
SameOutcome-then P Q None more (Ok s) next h k = k s h
SameOutcome-then P Q None more (Err g) next h k = absurd h
SameOutcome-then P Q (Some f) more (Ok s) next h k = absurd h
SameOutcome-then P Q (Some f) more (Err g) next h k = h

-- ---- checks, one after the other

abbrev pub run : List (Bool × GnfFault) → Seen → Result Seen GnfFault
run [] s = Ok s
run (check ∷ checks) s = cond check.0 (Err check.1) (run checks s)

abbrev pub AllPassed : List (Bool × GnfFault) → Type 0
AllPassed [] = Unit {0}
AllPassed (check ∷ checks) = (check.0 ≡ false) × AllPassed checks

pub one_check : (Q : Seen → Type 0) (b : Bool) (f : GnfFault) (o : Option GnfFault) (r : Result Seen GnfFault) → (b ≡ false → SameOutcome Q o r) → SameOutcome Q (cond b (Some f) o) (cond b (Err f) r)
one_check Q true f o r h = refl
one_check Q false f o r h = h refl

pub SameOutcome-checks : (Q : Seen → Type 0) (checks : List (Bool × GnfFault)) (s : Seen) → (AllPassed checks → Q s) → SameOutcome Q (first_failed checks) (run checks s)
SameOutcome-checks Q [] s h = h tt
SameOutcome-checks Q (check ∷ checks) s h =
    one_check Q check.0 check.1 (first_failed checks) (run checks s) (λ passed. SameOutcome-checks Q checks s (λ others. h (passed, others)))
