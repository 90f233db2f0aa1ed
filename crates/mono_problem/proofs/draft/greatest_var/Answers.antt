use Rattle.std.proofs.Common.{◌≡◌, ◌≤◌, ◌<◌, ℕ, List, take, get_or, All, arith, sym, ap, ◌∙◌, length, max, ◌+◌, subst}
use Rattle.std.specs.Prelude.{ℤ, nat_abs}
use Rattle.std.proofs.lemmas.List.Sums.{fold_more}
use Rattle.std.proofs.lemmas.List.Elements.{All-more, All-weaker}
use Rattle.mono_problem.specs.Growth.{greatest_var}
use Rattle.mono_base.specs.Literal.{IsLitWithin}
use Rattle.mono_problem.proofs.draft.greatest_var.Goals as goal

value_more : (v : ℕ) (xs : List ℤ) (i : ℕ) (x : ℤ) → i < length xs → x ≡ get_or xs i x → greatest_var v (take (i + 1) xs) ≡ max (greatest_var v (take i xs)) (nat_abs x)
value_more v xs i x low is = fold_more (λ (a : ℕ) (l : ℤ). max a (nat_abs l)) v xs i x low ∙ ap (λ (l : ℤ). max (greatest_var v (take i xs)) (nat_abs l)) (sym is)

wider_lit : (m n : ℕ) → m ≤ n → (l : ℤ) → IsLitWithin m l → IsLitWithin n l
wider_lit m n up l h = (h.0, omega (arith, h.1))

within_more : (m n : ℕ) (xs : List ℤ) (i : ℕ) (x : ℤ) → i < length xs → x ≡ get_or xs i x → m ≤ n → IsLitWithin n x → All (IsLitWithin m) (take i xs) → All (IsLitWithin n) (take (i + 1) xs)
within_more m n xs i x low is up here before =
    let P : ℤ → Type 0 = IsLitWithin n in
    All-more (IsLitWithin n) xs i x low (All-weaker (IsLitWithin m) (IsLitWithin n) (wider_lit m n up) (take i xs) before) (subst P is here)

pub loop-lit-preserved : goal.loop-lit-preserved
loop-lit-preserved c =
    let more = value_more c.args.vars c.args.lits.now c.loop-lit.lit-index c.lit-item.result c.loop-lit-test.true c.lit-item.is in
    let up : c.loop-lit.most ≤ c.max-most.result = omega arith in
    let high : nat_abs c.lit-item.result ≤ c.max-most.result = omega (arith, c.var.ensures.value) in
    let low : 0 < nat_abs c.lit-item.result = omega (arith, c.var.ensures.value, c.var.ensures.low) in (
      rw more (omega (arith, c.loop-lit.invariant.0, c.var.ensures.value)),
      omega (arith, c.loop-lit.invariant.1),
      omega (arith, c.loop-lit.invariant.2, c.var.ensures.high),
      within_more c.loop-lit.most c.max-most.result c.args.lits.now c.loop-lit.lit-index c.lit-item.result c.loop-lit-test.true c.lit-item.is up (low, high) c.loop-lit.invariant.3,
    )
