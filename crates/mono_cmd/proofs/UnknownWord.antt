-- An input with a first fault, for rows that are worked out: a line of a word that is none.
use Rattle.std.proofs.Common.{◌≡◌, ℕ, List, [], ◌∷◌, Option, Some, None, codes, subst, sym}
use Rattle.mono_io.specs.Shelf.{text_named}
use Rattle.mono_problem.specs.Instance.{Instance}
use Rattle.mono_gnf.specs.Stands.{Stands}
use Rattle.mono_gnf.specs.Faults.{first_fault}
use Rattle.mono_gnf.specs.Statements.{statement_of}
use Rattle.mono_gnf.specs.declared.fault.GnfFault.{GnfFault}
use Rattle.mono_gnf.specs.declared.fault.GnfFault.TheVariants as fault

pub unknown : first_fault (codes "x") ≡ None → ⊥
unfolding statement_of
unknown none = let is : ◌≡◌ {A = Option (ℕ × GnfFault)} (Some (1, fault.UnknownWord)) None = none in cc

-- no problem stands behind a file of this text alone
pub faulty : (p : Instance) (text : List ℕ) → text_named (codes "f") ((codes "f", codes "x") ∷ []) ≡ Some text → Stands text p → ⊥
faulty p text read stands =
    let there : Some (codes "x") ≡ Some text = read in
    let same : codes "x" ≡ text = cc in
    unknown (subst (λ (t : List ℕ). first_fault t ≡ None) (sym same) stands.0)
