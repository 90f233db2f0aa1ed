use Rattle.std.proofs.Common.{◌≡◌, ℕ, zero, suc, ◌<◌, true, false, [], ◌∷◌, get_or, refl, arith}
use Rattle.mono_graph.specs.Digraph.{present}
use Rattle.mono_graph.specs.Worked.{first_alone, last_alone}
use Rattle.mono_theory.proofs.worked.edges_that_break_an_atom.Goals as goal

first : (i d : ℕ) → i < 1 → (get_or (0 ∷ []) i d < 2) × (present first_alone (get_or (0 ∷ []) i d) ≡ true)
first zero d lt = (omega arith, refl)
first (suc i) d lt = absurd (omega (arith, lt))

last : (i d : ℕ) → i < 1 → (get_or (1 ∷ []) i d < 2) × (present last_alone (get_or (1 ∷ []) i d) ≡ true)
last zero d lt = (omega arith, refl)
last (suc i) d lt = absurd (omega (arith, lt))

pub returns-clause-walk : goal.returns-clause-walk
returns-clause-walk c = record {
  atom = omega arith;
  edge = omega arith;
  is_open = refl;
  rests = refl;
  used = refl;
  right = record { known = refl; small = refl; sided = first; used = λ i d lt. refl; passes = refl };
  denied = refl;
}

pub returns-clause-other_walk : goal.returns-clause-other_walk
returns-clause-other_walk c = record {
  atom = omega arith;
  edge = omega arith;
  is_open = refl;
  rests = refl;
  used = refl;
  right = record { known = refl; small = refl; sided = last; used = λ i d lt. refl; passes = refl };
  denied = refl;
}

pub returns-clause-not_denied : goal.returns-clause-not_denied
returns-clause-not_denied c = λ h. let e : false ≡ true = h.denied in cc

pub returns-clause-there_already : goal.returns-clause-there_already
returns-clause-there_already c = λ h. let e : false ≡ true = h.is_open in cc

pub returns-clause-never_there : goal.returns-clause-never_there
returns-clause-never_there c = λ h. let e : false ≡ true = h.is_open in cc

pub returns-clause-beside_the_evidence : goal.returns-clause-beside_the_evidence
returns-clause-beside_the_evidence c = λ h. let e : false ≡ true = h.used in cc

pub returns-clause-wrong_witness : goal.returns-clause-wrong_witness
returns-clause-wrong_witness c = λ h. let e : false ≡ true = h.right.passes in cc

pub returns-clause-on_the_other_side : goal.returns-clause-on_the_other_side
returns-clause-on_the_other_side c = λ h. let e : true ≡ false = h.rests in cc

pub returns-clause-no_atom : goal.returns-clause-no_atom
returns-clause-no_atom c = λ h. let lt : 0 < 0 = h.atom in absurd (omega (arith, lt))
