-- An atom stands at the place of its number.
use Rattle.std.proofs.Common.{◌≡◌, ℕ, ◌<◌, Bool, ◌==◌, Option, None, List, length, inl, inr, sym, subst, ◌∙◌}
use Rattle.std.specs.Prelude.{IsSome}
use Rattle.std.proofs.lemmas.Bool.{cases_lt, eqb-true}
use Rattle.std.proofs.lemmas.List.Folds.{find_at}
use Rattle.std.proofs.lemmas.List.Sums.{passes_at_first}
use Rattle.std.proofs.lemmas.Option.{slice_get_past}
use Rattle.mono_problem.specs.declared.atom.Atom.{Atom}
use Rattle.mono_problem.specs.Read.{no_atom}
use Rattle.mono_theory.specs.AtomPlaces.{place_of_atom}
use Rattle.mono_theory.specs.Sound.{atom_at}
use Rattle.mono_theory.specs.Theories.{atom_of}

-- where an atom has the number, one does that stands at its place
pub place_held : (atoms : List Atom) (n : ℕ) → IsSome (atom_of atoms n) → (place_of_atom atoms n < length atoms) × ((atom_at atoms (place_of_atom atoms n)).number ≡ n)
place_held atoms n some =
    let test : Atom → Bool = λ x. x.number == n in
    elim (cases_lt (place_of_atom atoms n) (length atoms)) [
      | inl lt ↦ (lt, eqb-true (atom_at atoms (place_of_atom atoms n)).number n (passes_at_first test atoms no_atom lt))
      | inr past ↦ absurd (none (atom_of atoms n) (find_at test atoms ∙ slice_get_past atoms (place_of_atom atoms n) past) some)
    ]
  where
    none : (o : Option Atom) → o ≡ None → IsSome o → ⊥
    none o e h = subst (λ (p : Option Atom). IsSome p → ⊥) (sym e) (λ s. absurd cc) h

-- it is the one place that has the number
pub place_is : (atoms : List Atom) (n a : ℕ) → IsSome (atom_of atoms n) → ((k : ℕ) → k < length atoms → (atom_at atoms k).number ≡ n → k ≡ a) → place_of_atom atoms n ≡ a
place_is atoms n a some alone = let held = place_held atoms n some in alone (place_of_atom atoms n) held.0 held.1
