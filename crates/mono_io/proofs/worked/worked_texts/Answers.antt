use Rattle.std.proofs.Common.{◌≡◌, ℕ, List, Option, Some, None, codes, refl, ap}
use Rattle.std.specs.Prelude.{slice_index}
use Rattle.std.proofs.lemmas.Bool.{eqb-false}
use Rattle.mono_io.proofs.worked.worked_texts.Goals as goal

-- the text of the name `f` was lost
pub returns-clause-kept : goal.returns-clause-kept
returns-clause-kept c = λ puts.
    let lost : ◌≡◌ {A = Option (List ℕ)} None (Some (codes "ab")) = puts.others (codes "f") (λ same. eqb-false 102 104 refl (ap (λ (t : List ℕ). slice_index t 0) same)) in
    absurd cc
