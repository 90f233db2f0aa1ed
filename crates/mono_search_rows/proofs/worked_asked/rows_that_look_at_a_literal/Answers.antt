use Rattle.std.proofs.Common.{◌≡◌, ℕ, zero, suc, ◌<◌, ◌||◌, true, false, [], ◌∷◌, refl, inr, arith, pos}
use Rattle.std.proofs.lemmas.Grind.{common_steps}
use Rattle.mono_base.specs.Worklist.{is_listed}
use Rattle.mono_graph.specs.Digraph.{has, present}
use Rattle.mono_graph.specs.Worked.{last_alone, neither}
use Rattle.mono_theory.specs.SureParts.{sure_parts}
use Rattle.mono_theory.specs.Worked.{seen_so_far}
use Rattle.mono_search_rows.proofs.worked_asked.rows_that_look_at_a_literal.Goals as goal

still : (m : ℕ) → m < 1 → sure_parts (seen_so_far (pos 2 ∷ [])) m ≡ neither
still zero lt = refl
still (suc m) lt = absurd (omega (arith, lt))

comes : (k : ℕ) → present last_alone k ≡ (present neither k || has (1 ∷ []) k)
comes zero = refl
comes (suc zero) = refl
comes (suc (suc k)) = grind (arith, common_steps)

stays : (a : ℕ) → is_listed (true ∷ []) a ≡ false → is_listed (false ∷ []) a ≡ false
stays zero e = refl
stays (suc a) e = refl

due : (a : ℕ) → a < 1 → is_listed (true ∷ []) a ≡ true
due zero lt = refl
due (suc a) lt = absurd (omega (arith, lt))

pub returns-clause-edge : goal.returns-clause-edge
returns-clause-edge c = inr (record {
  part = last_alone;
  places = 1 ∷ [];
  grows = record { later = omega arith; still = λ m le lt. still m lt; is = refl; grown = record { each = comes } };
  grown = (refl, tt);
  same = refl;
  due = record { size = refl; stay = stays; each = λ i a d li la there. due a la };
})
