-- What is kept on a side, and on both, as the list grows and shrinks.
use Rattle.std.proofs.Common.{◌≡◌, ℕ, Bool, ℤ, List, length, sym, ap, subst, ◌∙◌}
use Rattle.std.specs.Prelude.{Result, Ok, Err, IfOk}
use Rattle.mono_problem.specs.declared.atom.Predicate.{Predicate}
use Rattle.mono_theory.specs.Supports.{SideView, IsSide, IsSideFor, IsRightTheory, gone_back}
use Rattle.mono_theory.specs.Theories.{Facts, cut_to}

-- ---- one side

-- by its own sign
pub own_side : {f : Facts} {b : Bool} {s : SideView} → IsSide f b s → IsSide f s.possible s
own_side {f = f} {s = s} h = subst (λ (c : Bool). IsSide f c s) (sym h.sign) h

pub new_side : {E : Type 0} (f : Facts) (b asked given : Bool) (atoms edges : ℕ) (r : Result SideView E) → length f.atoms ≡ atoms → length f.graph.edges ≡ edges → given ≡ asked
    → IfOk r (λ s. (h : Facts) → length h.atoms ≡ atoms → length h.graph.edges ≡ edges → IsSide h b s) → IfOk r (λ s. s.thorough ≡ given) → IfOk r (λ s. IsSideFor f s.possible asked s)
new_side f b asked given atoms edges (Ok s) few size same right is = record { side = own_side (right f few size); thorough = is ∙ same }
new_side f b asked given atoms edges (Err e) few size same right is = tt

pub new_sign : {E : Type 0} (f : Facts) (b : Bool) (atoms edges : ℕ) (r : Result SideView E) → length f.atoms ≡ atoms → length f.graph.edges ≡ edges
    → IfOk r (λ s. (h : Facts) → length h.atoms ≡ atoms → length h.graph.edges ≡ edges → IsSide h b s) → IfOk r (λ s. s.possible ≡ b)
new_sign f b atoms edges (Ok s) few size right = (right f few size).sign
new_sign f b atoms edges (Err e) few size right = tt

pub side_gone_back : {f : Facts} {thorough : Bool} {s : SideView} (kept : ℕ) (r : SideView) → IsSide (cut_to kept f) r.possible r → r ≡ gone_back kept s → IsSideFor f s.possible thorough s → IsSideFor (cut_to kept f) r.possible thorough r
side_gone_back kept r side is h = record { side = side; thorough = ap (λ (x : SideView). x.thorough) is ∙ h.thorough }

-- ---- both sides

-- what is kept is right with other literals, on the same sides
pub kept_with : {covers : Predicate → Bool} {nodes : ℕ} {f : Facts} {surely later possibly after : Facts → Type 0} {a c b d : Bool} (t : List ℤ) → later (record { graph = f.graph; atoms = f.atoms; seen = t }) → c ≡ a → after (record { graph = f.graph; atoms = f.atoms; seen = t }) → d ≡ b
    → IsRightTheory covers nodes f surely a possibly b → IsRightTheory covers nodes (record { graph = f.graph; atoms = f.atoms; seen = t }) later c after d
kept_with t low low_sign high high_sign h = record {
  covered = record { each = h.covered.each };
  size = h.size;
  surely = record { right = low; sign = low_sign ∙ h.surely.sign };
  possibly = record { right = high; sign = high_sign ∙ h.possibly.sign };
}
