-- What values with an ending 0 come to.
use Rattle.std.proofs.Common.{◌≡◌, ℕ, Bool, List, Option, Some, None, refl, sym, subst}
use Rattle.mono_base.specs.Literal.{value_in}
use Rattle.mono_problem.specs.Holds.{Agrees}
use Rattle.mono_problem.specs.Instance.{Instance}
use Rattle.mono_check.specs.declared.reason.Reason.TheVariants as reason
use Rattle.mono_check.specs.declared.verdict.Verdict.{Verdict}
use Rattle.mono_check.specs.declared.verdict.Verdict.TheVariants as verdict
use Rattle.mono_check.specs.Atoms.{IsFirstWrong}
use Rattle.mono_check.specs.Values.{false_clause}
use Rattle.mono_check.specs.Verdicts.{IsVerdictOf, ended_outcome, values_outcome}

at_end : (p : Instance) (end : Option ℕ) (n line : ℕ) (o : Option ℕ) (values : List Bool) (v : Verdict) → end ≡ Some line → false_clause p values ≡ o → IsVerdictOf p (values_outcome line o values) v → IsVerdictOf p (ended_outcome p end n values) v
at_end p end n line o values v e f h =
    subst (λ (q : Option ℕ). IsVerdictOf p (ended_outcome p q n values) v) (sym e) (subst (λ (q : Option ℕ). IsVerdictOf p (values_outcome line q values) v) (sym f) h)

pub clause_is_false : (p : Instance) (end : Option ℕ) (n line k : ℕ) (values given : List Bool) → end ≡ Some line → given ≡ values → Some k ≡ false_clause p given → IsVerdictOf p (ended_outcome p end n values) (verdict.Rejected line (reason.ClauseFalse k))
clause_is_false p end n line k values given e same f =
    at_end p end n line (Some k) values (verdict.Rejected line (reason.ClauseFalse k)) e (subst (λ (v : List Bool). false_clause p v ≡ Some k) same (sym f)) refl

pub atom_is_wrong : (p : Instance) (end : Option ℕ) (n line k : ℕ) (values given : List Bool) → end ≡ Some line → given ≡ values → None ≡ false_clause p given → IsFirstWrong p (value_in given) k → IsVerdictOf p (ended_outcome p end n values) (verdict.Rejected line (reason.AtomWrong k))
atom_is_wrong p end n line k values given e same f w =
    at_end p end n line None values (verdict.Rejected line (reason.AtomWrong k)) e (subst (λ (v : List Bool). false_clause p v ≡ None) same (sym f)) (refl, subst (λ (v : List Bool). IsFirstWrong p (value_in v) k) same w)

pub all_agree : (p : Instance) (end : Option ℕ) (n line : ℕ) (values given : List Bool) → end ≡ Some line → given ≡ values → None ≡ false_clause p given → Agrees p (value_in given) → IsVerdictOf p (ended_outcome p end n values) verdict.Model
all_agree p end n line values given e same f agrees =
    at_end p end n line None values verdict.Model e (subst (λ (v : List Bool). false_clause p v ≡ None) same (sym f)) (subst (λ (v : List Bool). Agrees p (value_in v)) same agrees)
