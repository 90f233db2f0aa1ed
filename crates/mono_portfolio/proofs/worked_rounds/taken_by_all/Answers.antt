use Rattle.std.proofs.Common.{ℕ, List, [], ◌∷◌, ap, ◌∙◌}
use Rattle.std.proofs.lemmas.Bool.{cond-true, cond-false}
use Rattle.mono_portfolio.specs.Extended.{extended, passes_limits}
use Rattle.mono_portfolio.specs.Rounds.{taking}
use Rattle.mono_portfolio.proofs.worked_rounds.taken_by_all.Goals as goal

pub returns-clause-no_room : goal.returns-clause-no_room
returns-clause-no_room c = λ p board n h. cond-true (passes_limits (extended p board (n ∷ []))) [] (n ∷ []) h

pub returns-clause-room : goal.returns-clause-room
returns-clause-room c = λ p board n h. cond-false (passes_limits (extended p board (n ∷ []))) [] (n ∷ []) h

pub returns-clause-no_room_beside : goal.returns-clause-no_room_beside
returns-clause-no_room_beside c = λ p board m n h. cond-true (passes_limits (extended p board (m ∷ n ∷ []))) (m ∷ []) (m ∷ n ∷ []) h

pub returns-clause-passed_over : goal.returns-clause-passed_over
returns-clause-passed_over c = λ p board m n k full free.
    ap (λ (taken : List ℕ). taking p board taken (k ∷ [])) (cond-true (passes_limits (extended p board (m ∷ n ∷ []))) (m ∷ []) (m ∷ n ∷ []) full)
    ∙ cond-false (passes_limits (extended p board (m ∷ k ∷ []))) (m ∷ []) (m ∷ k ∷ []) free
