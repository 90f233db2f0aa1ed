use Rattle.std.proofs.Common.{◌≡◌, ◌∙◌, ℕ, List, ap, sym, refl}
use Rattle.std.specs.Prelude.{slice_index, length, codes, []}
use Rattle.std.specs.Fmt.{digits}
use Rattle.std.proofs.lemmas.Bool.{eqb-false}
use Rattle.mono_gnf.specs.Statements.{statement_of}
use Rattle.mono_text.specs.Text.{token_lines}
use Rattle.mono_gnf.specs.Stands.{instance_of}
use Rattle.mono_gnf.specs.Printed.{printed}
use Rattle.mono_gnf.specs.Prints.{Prints}
use Rattle.mono_gnf.proofs.print_worked.worked_others.Goals as goal

-- where the text prints `out`, its own problem does
abbrev Same : List ℕ → List ℕ → Type 0
Same text out = printed (instance_of (token_lines text)) ≡ out

same : (text out : List ℕ) → Prints text out → Same text out
same text out (p, stands, e) = ap printed (sym stands.1) ∙ e

pub returns : goal.returns
unfolding statement_of digits
returns c = record {
  sign = λ h. eqb-false 45 49 refl (ap (λ (t : List ℕ). slice_index t 10) (same (codes "-1 0") (codes "p gnf 1 1\n1 0\n") h));
  variables = λ h. eqb-false 49 50 refl (ap (λ (t : List ℕ). slice_index t 6) (same (codes "1 0") (codes "p gnf 2 1\n1 0\n") h));
  nothing = λ h. eqb-false 14 0 refl (ap (λ (t : List ℕ). length t) (same (codes "1 0") [] h));
  fault = λ h. absurd (let none = h.1.0 in cc);
}
