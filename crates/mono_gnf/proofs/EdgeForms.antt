-- An edge line by its first four fields and what stands behind them.
use Rattle.std.proofs.Common.{◌≡◌, ℕ, ◌≤◌, false, eqb, List, [], ◌∷◌, length, length-drop, drop, Result, Ok, Err, refl, ap, arith}
use Rattle.std.proofs.lemmas.Bool.Decides.{nat_tests}
use Rattle.mono_text.specs.Numbers.{natural, within}
use Rattle.mono_text.specs.Fields.{onto, fields_from, first_fields}
use Rattle.mono_text.specs.declared.number.NumberRefusal.{NumberRefusal}
use Rattle.mono_text.specs.declared.number.NumberRefusal.TheVariants as number
use Rattle.mono_text.specs.declared.field.FieldRefusal.{FieldRefusal}
use Rattle.mono_gnf.specs.declared.fault.GnfFault.TheVariants as fault
use Rattle.mono_gnf.specs.declared.statement.Statement.TheVariants as says
use Rattle.mono_gnf.specs.Statements.{MAX_WIDE, field, with_fields, edge_of, edge_from}
use Rattle.mono_base.specs.declared.limits.TheConstants.{MAX_VARS, MAX_WEIGHT}

abbrev ends : List ℕ
ends = MAX_WIDE ∷ MAX_WIDE ∷ MAX_WIDE ∷ MAX_VARS ∷ []

light_from : (r : Result (List ℕ) FieldRefusal) → edge_from r (Ok 1) ≡ with_fields r (λ fs. says.Edge (field fs 0) (field fs 1) (field fs 2) (field fs 3) 1)
light_from (Ok fs) = refl
light_from (Err e) = refl

-- the line ends behind the variable
pub edge_light : (ts : List (List ℕ)) → drop 4 ts ≡ [] → edge_from (first_fields ends ts) (Ok 1) ≡ edge_of ts
edge_light [] e = refl
edge_light (a ∷ []) e = refl
edge_light (a ∷ b ∷ []) e = refl
edge_light (a ∷ b ∷ c ∷ []) e = refl
edge_light (a ∷ b ∷ c ∷ d ∷ []) e = light_from (fields_from 0 ends (a ∷ b ∷ c ∷ d ∷ []))
edge_light (a ∷ b ∷ c ∷ d ∷ f ∷ more) e = absurd cc

abbrev Number : Type 0
Number = Result ℕ NumberRefusal

weighted : (a b c d w : Number) → edge_from (onto 0 a (onto 1 b (onto 2 c (onto 3 d (Ok []))))) w ≡ with_fields (onto 0 a (onto 1 b (onto 2 c (onto 3 d (onto 4 w (Ok [])))))) (λ fs. says.Edge (field fs 0) (field fs 1) (field fs 2) (field fs 3) (field fs 4))
weighted (Err e) b c d w = refl
weighted (Ok k) (Err e) c d w = refl
weighted (Ok k) (Ok l) (Err e) d w = refl
weighted (Ok k) (Ok l) (Ok m) (Err e) w = refl
weighted (Ok k) (Ok l) (Ok m) (Ok n) (Err number.NotNumber) = refl
weighted (Ok k) (Ok l) (Ok m) (Ok n) (Err number.TooLarge) = refl
weighted (Ok k) (Ok l) (Ok m) (Ok n) (Ok w) = refl

-- one token stands behind the variable
edge_heavy : (ts : List (List ℕ)) (t : List ℕ) → drop 4 ts ≡ t ∷ [] → edge_from (first_fields ends ts) (within MAX_WEIGHT (natural t)) ≡ edge_of ts
edge_heavy [] t e = absurd cc
edge_heavy (a ∷ []) t e = absurd cc
edge_heavy (a ∷ b ∷ []) t e = absurd cc
edge_heavy (a ∷ b ∷ c ∷ []) t e = absurd cc
edge_heavy (a ∷ b ∷ c ∷ d ∷ []) t e = absurd cc
edge_heavy (a ∷ b ∷ c ∷ d ∷ f ∷ []) t e =
    let same : f ≡ t = cc in
    rw (← same) (weighted (within MAX_WIDE (natural a)) (within MAX_WIDE (natural b)) (within MAX_WIDE (natural c)) (within MAX_VARS (natural d)) (within MAX_WEIGHT (natural f)))
edge_heavy (a ∷ b ∷ c ∷ d ∷ f ∷ g ∷ more) t e = absurd cc

-- more tokens stand behind it
pub edge_long : (ts : List (List ℕ)) (t u : List ℕ) (more : List (List ℕ)) → drop 4 ts ≡ t ∷ u ∷ more → Err fault.FieldCount ≡ edge_of ts
edge_long ts t u more e =
    let long : 6 ≤ length ts = omega (arith, ap length e, length-drop 4 ts) in
    let five : eqb (length ts) 5 ≡ false = grind (arith, nat_tests) in
    let four : eqb (length ts) 4 ≡ false = grind (arith, nat_tests) in
    rw (five, four) refl

pub edge_weighted : (ts : List (List ℕ)) (t : List ℕ) (r : Result (List ℕ) FieldRefusal) (w : Number) → drop 4 ts ≡ t ∷ [] → r ≡ first_fields ends ts → w ≡ within MAX_WEIGHT (natural t) → edge_from r w ≡ edge_of ts
edge_weighted ts t r w e h k = rw (h, k) (edge_heavy ts t e)
