use Rattle.std.proofs.Common.{◌≡◌, ◌<◌, ◌≤◌, ℕ, List, [], ◌∷◌, Option, None, length, map, string_bytes, refl, arith}
use Rattle.std.proofs.lemmas.List.{length-map}
use Rattle.std.proofs.lemmas.Bool.Decides.{nat_tests}
use Rattle.mono_words.specs.declared.command.Command.{Command}
use Rattle.mono_words.specs.Commands.{short_command}
use Rattle.mono_words.proofs.words.short_command.Goals.{in_default-via-then-words-lt2, in_default-via-else-words-lt2+else-words-lt3+else-words-lt4+else-words-lt5+else-words-lt6}
use Rattle.mono_words.proofs.words.short_command.Goals as goal

few : (ws : List (List ℕ)) → length ws < 2 → ◌≡◌ {A = Option Command} None (short_command ws)
few [] less = refl
few (a ∷ []) less = refl
few (a ∷ b ∷ ws) less = absurd (omega (arith, less))

many : (ws : List (List ℕ)) → 6 ≤ length ws → ◌≡◌ {A = Option Command} None (short_command ws)
many [] more = absurd (omega (arith, more))
many (a ∷ []) more = absurd (omega (arith, more))
many (a ∷ b ∷ []) more = absurd (omega (arith, more))
many (a ∷ b ∷ d ∷ []) more = absurd (omega (arith, more))
many (a ∷ b ∷ d ∷ e ∷ []) more = absurd (omega (arith, more))
many (a ∷ b ∷ d ∷ e ∷ f ∷ []) more = absurd (omega (arith, more))
many (a ∷ b ∷ d ∷ e ∷ f ∷ g ∷ ws) more = refl

pub returns-in_default : goal.returns-in_default
returns-in_default c =
    let same = length-map c.args.words.now string_bytes in
    record {
      form = elim c.in_default.branch [
        | in_default-via-then-words-lt2 w ↦ few (map string_bytes c.args.words.now) (grind (arith, nat_tests, same))
        | in_default-via-else-words-lt2+else-words-lt3+else-words-lt4+else-words-lt5+else-words-lt6 w ↦ many (map string_bytes c.args.words.now) (grind (arith, nat_tests, same))
      ];
      ranges = tt;
      memory = tt;
    }
