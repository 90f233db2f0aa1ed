-- Draws: the words of the PCG generator with 64 bits of state and words of 32 bits, by their remainders.
use Rattle.std.specs.Prelude.{ℕ, zero, suc, ◌%◌}
use Rattle.rand_pcg.specs.Lcg.{Lcg, started, increment_of}
use Rattle.rand_pcg.specs.Pcg.{multiplier_64, pcg32}

-- the generator of a seed, on stream 0
abbrev pub seeded : ℕ → Lcg
seeded seed = started 64 multiplier_64 seed (increment_of 64 0)

-- the generator after so many words
unfoldable pub after : ℕ → Lcg → Lcg
after zero g = g
after (suc k) g = (pcg32 (after k g)).1

-- a draw below m is the remainder of the generator's next word
unfoldable pub draw : ℕ → Lcg → ℕ
draw m g = (pcg32 g).0 % m
