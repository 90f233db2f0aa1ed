use Rattle.std.proofs.Common.{◌≡◌, ◌++◌, drop, map, option_map, string_bytes}
use Rattle.mono_words.specs.Commands.{lits_of}
use Rattle.mono_words.proofs.words.literals.Given as goal

abbrev pub invariant-loop-place : goal.invariant-loop-place
invariant-loop-place l = option_map (λ ls. l.lits.items ++ ls) (lits_of (map string_bytes (drop l.place l.words))) ≡ lits_of (map string_bytes l.words)
