use Rattle.std.proofs.Common.{◌≡◌, ◌≤◌, ◌^◌, ℕ, ◌-◌, ◌*◌, ◌%◌, arith, subst, sym, ◌∙◌, ap}
use Rattle.std.specs.Int.Count.{count_leading_zeros}
use Rattle.std.proofs.lemmas.Nat.{leading_top, one_shl}
use Rattle.mono_trail.proofs.luby_sequence.highest_power.Goals as goal

pub returns : goal.returns
returns c =
    let top = leading_top 64 c.args.k (omega (arith, c.requires)) c.ranges.k.fits in
    let digits : 63 - count_leading_zeros 64 c.args.k ≡ top.0 = omega (arith, top.1) in
    let value : (1 * 2 ^ (63 - count_leading_zeros 64 c.args.k)) % 2 ^ 64 ≡ 2 ^ top.0 = ap (λ (i : ℕ). (1 * 2 ^ i) % 2 ^ 64) digits ∙ one_shl top.0 64 (omega (arith, top.1)) in
    (top.0, value, subst (λ (n : ℕ). n ≤ c.args.k) (sym value) top.2, top.3)
