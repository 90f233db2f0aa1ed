use Rattle.std.proofs.Common.{◌≡◌, ◌||◌, ◌==◌, ◌∙◌, ap, sym, subst, not, true, false, Bool, ℕ, List, ℤ, pos, neg_ℤ, nat_abs, Some, option_map}
use Rattle.std.specs.List.{list_all}
use Rattle.mono_base.specs.Literal.{has_lit, var_of}
use Rattle.mono_steps.proofs.Clashes.{no_clash, clash_of}
use Rattle.mono_steps.proofs.resolving.clash.Goals as goal

pub returns-in-None-clause-value : goal.returns-in-None-clause-value
returns-in-None-clause-value c = sym (ap (option_map pos) (no_clash (λ l. has_lit c.args.set.now.members (neg_ℤ l)) c.args.next.now (sym c.in-None.ensures.value)))

only : (s d : List ℤ) (l : ℤ) (v : ℕ) (b : Bool) → v ≡ nat_abs l → b ≡ list_all (λ m. not (has_lit s (neg_ℤ m)) || (var_of m == v)) d → list_all (λ m. not (has_lit s (neg_ℤ m)) || (var_of m == var_of l)) d ≡ b
only s d l v b e h = subst (λ (w : ℕ). list_all (λ m. not (has_lit s (neg_ℤ m)) || (var_of m == w)) d ≡ b) e (sym h)

pub returns-then-clashes_only_in-clause-value : goal.returns-then-clashes_only_in-clause-value
returns-then-clashes_only_in-clause-value c =
    let s = c.args.set.now.members in
    let all = only s c.args.next.now c.in-Some.lit c.var.result true c.var.ensures.value c.if-clashes_only_in.ensures in
    ap (λ (l : ℤ). Some l) c.positive.ensures ∙ sym (ap (option_map pos) (clash_of (λ l. has_lit s (neg_ℤ l)) c.args.next.now c.in-Some.lit true (sym c.in-Some.ensures.value) all))

pub returns-else-clashes_only_in-clause-value : goal.returns-else-clashes_only_in-clause-value
returns-else-clashes_only_in-clause-value c =
    let s = c.args.set.now.members in
    let all = only s c.args.next.now c.in-Some.lit c.var.result false c.var.ensures.value c.if-clashes_only_in.ensures in
    sym (ap (option_map pos) (clash_of (λ l. has_lit s (neg_ℤ l)) c.args.next.now c.in-Some.lit false (sym c.in-Some.ensures.value) all))
