-- Lines of a text that comes in pieces.
use Rattle.std.proofs.Common.{◌≡◌, ℕ, ◌+◌, ◌<◌, false, List, [], ◌∷◌, ◌++◌, length, refl, sym, ap, ◌∙◌, arith, append_assoc, append-nil}
use Rattle.std.proofs.lemmas.List.Elements.{All-append}
use Rattle.std.proofs.lemmas.List.Splits.{slice_split_at, slice_split_none}
use Rattle.mono_text.specs.Text.{is_line_feed, lines_of, without_empty_end, numbered_from}
use Rattle.mono_text.proofs.Splits.{more_lines}
use Rattle.mono_problem.specs.Instance.{Instance}
use Rattle.mono_check.specs.Checking.{later_by}
use Rattle.mono_check.specs.Judges.{IsOneLine}
use Rattle.mono_check.specs.SoFar.{SoFar, behind}

-- a line that a line feed ends, and the lines behind it
lines_cut : (line rest : List ℕ) → IsOneLine line → lines_of (line ++ 10 ∷ rest) ≡ line ∷ lines_of rest
lines_cut line rest one = ap without_empty_end (slice_split_at is_line_feed line 10 rest one refl) ∙ more_lines line rest

-- a last line, which no line feed ends
last_line : (line : List ℕ) → 0 < length line → IsOneLine line → lines_of line ≡ line ∷ []
last_line [] some one = absurd (omega arith)
last_line (b ∷ bs) some one = ap without_empty_end (slice_split_none is_line_feed (b ∷ bs) one)

-- behind a line that has ended
pub line_ended : (p : Instance) (old new : SoFar) (lines : ℕ) (unfinished end line left : List ℕ) → IsOneLine unfinished → IsOneLine end → line ≡ unfinished ++ end → left ≡ []
    → ((ls : List (ℕ × List ℕ)) → behind p new ls ≡ behind p old ((lines + 1, line) ∷ ls))
    → (rest : List ℕ) → later_by p (record { so_far = new; lines = lines + 1; unfinished = left }) rest ≡ later_by p (record { so_far = old; lines = lines; unfinished = unfinished }) (end ++ 10 ∷ rest)
line_ended p old new lines unfinished end line left one other is_line none judged rest =
    let cut : numbered_from (lines + 1) (lines_of (unfinished ++ (end ++ 10 ∷ rest))) ≡ (lines + 1, unfinished ++ end) ∷ numbered_from (lines + 1 + 1) (lines_of rest) =
    ap (λ (t : List ℕ). numbered_from (lines + 1) (lines_of t)) (sym (append_assoc unfinished end (10 ∷ rest)))
    ∙ ap (numbered_from (lines + 1)) (lines_cut (unfinished ++ end) rest (All-append (λ b. is_line_feed b ≡ false) unfinished end one other)) in
    ap (λ (l : List ℕ). behind p new (numbered_from (lines + 1 + 1) (lines_of (l ++ rest)))) none
    ∙ judged (numbered_from (lines + 1 + 1) (lines_of rest))
    ∙ ap (λ (l : List ℕ). behind p old ((lines + 1, l) ∷ numbered_from (lines + 1 + 1) (lines_of rest))) is_line
    ∙ ap (λ (ls : List (ℕ × List ℕ)). behind p old ls) (sym cut)

-- behind the end of the text
pub text_ended : (p : Instance) (old new : SoFar) (lines : ℕ) (unfinished line : List ℕ) → 0 < length unfinished → IsOneLine unfinished → line ≡ unfinished
    → ((ls : List (ℕ × List ℕ)) → behind p new ls ≡ behind p old ((lines + 1, line) ∷ ls))
    → behind p new [] ≡ later_by p (record { so_far = old; lines = lines; unfinished = unfinished }) []
text_ended p old new lines unfinished line some one is_line judged =
    judged []
    ∙ ap (λ (l : List ℕ). behind p old ((lines + 1, l) ∷ [])) is_line
    ∙ ap (λ (ls : List (List ℕ)). behind p old (numbered_from (lines + 1) ls)) (sym (ap lines_of (append-nil unfinished) ∙ last_line unfinished some one))

pub nothing_left : (p : Instance) (so_far : SoFar) (lines : ℕ) (unfinished : List ℕ) → length unfinished ≡ 0 → behind p so_far [] ≡ later_by p (record { so_far = so_far; lines = lines; unfinished = unfinished }) []
nothing_left p so_far lines [] none = refl
nothing_left p so_far lines (b ∷ bs) none = absurd (omega (arith, none))
