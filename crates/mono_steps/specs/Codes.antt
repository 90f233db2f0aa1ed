-- Clauses as numbers to base 3.
use Rattle.std.specs.Prelude.{ℕ, zero, suc, ◌+◌, ◌*◌, ◌^◌, ℤ, pos, neg_ℤ, if◌then◌else◌, List}
use Rattle.mono_base.specs.Literal.{has_lit}

-- the digit of a variable: 1 where the clause has it, 2 where it has its negation, and else 0
abbrev pub digit : List ℤ → ℕ → ℕ
digit c x = if has_lit c (pos x) then 1 else if has_lit c (neg_ℤ (pos x)) then 2 else 0

-- the sum over the variables x from 1 to `vars` of the digit of x times 3^(x - 1)
abbrev pub code : ℕ → List ℤ → ℕ
code zero c = 0
code (suc v) c = digit c (suc v) * 3 ^ v + code v c
