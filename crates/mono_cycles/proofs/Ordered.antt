-- A place that is put into a part, and taken out again.
use Rattle.std.proofs.Common.{◌≡◌, ℕ, Bool, true, false, not, ◌&&◌, ◌||◌, List, refl, sym, ap, ◌∙◌, inl, inr}
use Rattle.std.specs.Prelude.{IsTrue, ◌==◌}
use Rattle.std.proofs.lemmas.Bool.{cases_eq, eq-eqb, ne_eqb, and_parts}
use Rattle.mono_graph.specs.Digraph.{Digraph, IsSubpart, present}
use Rattle.mono_graph.specs.Cycles.{is_order}
use Rattle.mono_cycles.specs.Kept.{IsGrownBy}
use Rattle.mono_graph.proofs.RisingRanks.{is_order-smaller}

or_swap : (a b : Bool) → (a || b) ≡ (b || a)
or_swap true true = refl
or_swap true false = refl
or_swap false true = refl
or_swap false false = refl

pub put_grown : (P Q : List Bool) (place : ℕ) → ((k : ℕ) → present Q k ≡ (k == place || present P k)) → IsGrownBy P Q place
put_grown P Q place put = record { each = λ k. put k ∙ or_swap (k == place) (present P k) }

pub same_grown : (P Q R : List Bool) (place : ℕ) → IsGrownBy P Q place → IsGrownBy P R place → IsSubpart Q R
same_grown P Q R place q r = record { keeps = λ k here. r.each k ∙ (sym (q.each k) ∙ here) }

pub put_here : (P Q : List Bool) (place : ℕ) → ((k : ℕ) → present Q k ≡ (k == place || present P k)) → IsTrue (present Q place)
put_here P Q place put = put place ∙ ap (λ (b : Bool). b || present P place) (eq-eqb place place refl)

pub put_taken : (P Q R : List Bool) (place : ℕ) → ((k : ℕ) → present Q k ≡ (k == place || present P k)) → ((k : ℕ) → present R k ≡ (not (k == place) && present Q k)) → present P place ≡ false → (k : ℕ) → present R k ≡ present P k
put_taken P Q R place put taken absent k = elim (cases_eq k place) [
  | inl e ↦ taken k ∙ (ap (λ (b : Bool). not b && present Q k) (eq-eqb k place e) ∙ (sym absent ∙ ap (λ (j : ℕ). present P j) (sym e)))
  | inr ne ↦ taken k ∙ (ap (λ (b : Bool). not b && present Q k) (ne_eqb k place ne) ∙ (put k ∙ ap (λ (b : Bool). b || present P k) (ne_eqb k place ne)))
]

-- an order of a part is one of what is left of it
pub order_left : (g : Digraph) (P Q : List Bool) (place : ℕ) (ns : List ℕ) → ((k : ℕ) → present Q k ≡ (not (k == place) && present P k)) → IsTrue (is_order g P ns) → IsTrue (is_order g Q ns)
order_left g P Q place ns taken h = is_order-smaller g Q P (record { keeps = λ k here. (and_parts (not (k == place)) (present P k) (sym (taken k) ∙ here)).1 }) ns h
