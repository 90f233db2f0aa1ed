-- Lines that are put together in a buffer: how long a name is, and what a token appends.
use Rattle.std.proofs.Common.{◌≡◌, ◌≤◌, ℕ, List, [], ◌∷◌, ◌++◌, length, codes, decimal, refl, sym, ap, ◌∙◌, append_assoc, arith}
use Rattle.std.proofs.lemmas.List.{append-nil}
use Rattle.mono_answer.specs.Behind.{behind}
use Rattle.mono_answer.proofs.Printing.{behind_pair}
use Rattle.mono_gnf.specs.Names.{fault_name}
use Rattle.mono_gnf.specs.declared.fault.GnfFault.{GnfFault}
use Rattle.mono_gnf.specs.declared.fault.GnfFault.TheVariants as fault
use Rattle.mono_check.specs.Names.{reason_name}
use Rattle.mono_check.specs.declared.reason.Reason.{Reason}
use Rattle.mono_check.specs.declared.reason.Reason.TheVariants as reason
use Rattle.mono_forms.specs.Endings.{reason_words}

-- a space and a token
pub token_behind : (out token : List ℕ) → (out ++ codes " ") ++ token ≡ out ++ behind (token ∷ [])
token_behind out token = append_assoc out (codes " ") token ∙ ap (λ (t : List ℕ). out ++ 32 ∷ t) (sym (append-nil token))

-- a name, and behind it the number that a reason carries
pub with_number : (out named after : List ℕ) (r : Reason) (name : List ℕ) (n : ℕ) → reason_words r ≡ name ∷ decimal n ∷ [] → named ≡ out ++ behind (name ∷ []) → after ≡ named ++ behind (decimal n ∷ [])
    → after ≡ out ++ behind (reason_words r)
with_number out named after r name n words is more =
    more ∙ (ap (λ (t : List ℕ). t ++ behind (decimal n ∷ [])) is ∙ (behind_pair out name (decimal n) ∙ ap (λ (ts : List (List ℕ)). out ++ behind ts) (sym words)))

-- no other reason carries one
pub without_number : (r : Reason) → ((n : ℕ) → r ≡ reason.ClauseFalse n → ⊥) → ((n : ℕ) → r ≡ reason.AtomWrong n → ⊥) → reason_words r ≡ reason_name r ∷ []
without_number (reason.ClauseFalse n) no_clause no_atom = absurd (no_clause n refl)
without_number (reason.AtomWrong n) no_clause no_atom = absurd (no_atom n refl)
without_number r no_clause no_atom = refl

-- ---- names have at most 20 bytes

pub short_fault : (f : GnfFault) → length (fault_name f) ≤ 20
short_fault fault.UnknownWord = omega arith
short_fault fault.NotNumber = omega arith
short_fault fault.TooLarge = omega arith
short_fault fault.FieldCount = omega arith
short_fault fault.UnknownGraph = omega arith
short_fault fault.DuplicateGraph = omega arith
short_fault fault.NodeOutOfRange = omega arith
short_fault fault.BadVariable = omega arith
short_fault fault.WeightWord = omega arith
short_fault fault.SecondHeader = omega arith
short_fault fault.OpenClause = omega arith
short_fault fault.UnfinishedClause = omega arith
short_fault fault.SameEnds = omega arith
short_fault fault.TooMany = omega arith

pub short_reason : (r : Reason) → length (reason_name r) ≤ 20
short_reason reason.NotAnswer = omega arith
short_reason reason.BadLine = omega arith
short_reason reason.UnknownAtom = omega arith
short_reason reason.WrongKind = omega arith
short_reason reason.UnknownNumber = omega arith
short_reason reason.MissingLiteral = omega arith
short_reason reason.WitnessFails = omega arith
short_reason reason.ChainStuck = omega arith
short_reason reason.NotCovered = omega arith
short_reason reason.NoEmptyClause = omega arith
short_reason reason.ModelVariables = omega arith
short_reason (reason.ClauseFalse n) = omega arith
short_reason (reason.AtomWrong n) = omega arith
