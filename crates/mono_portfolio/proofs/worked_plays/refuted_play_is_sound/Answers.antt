use Rattle.std.proofs.Common.{◌≡◌, false, ℕ, zero, suc, ◌+◌, List, [], ◌∷◌, take, Some, refl}
use Rattle.std.specs.Prelude.{IsTrue, slice_get}
use Rattle.std.specs.List.{list_any}
use Rattle.std.proofs.lemmas.List.Elements.{All-nil, All-cons}
use Rattle.mono_steps.specs.declared.step.Step.{Step}
use Rattle.mono_steps.specs.Steps.{is_refutation}
use Rattle.mono_steps.specs.WorkedLemmas.{chain}
use Rattle.mono_portfolio.specs.declared.event.Event.{Event}
use Rattle.mono_portfolio.specs.declared.event.Event.TheVariants as event
use Rattle.mono_portfolio.specs.declared.event.Reply.{Reply}
use Rattle.mono_portfolio.specs.declared.event.Reply.TheVariants as reply
use Rattle.mono_portfolio.specs.Soundness.{is_model, is_unsat, IsTrueModel, given}
use Rattle.mono_search.specs.Worked.{both_signs}
use Rattle.mono_portfolio.proofs.worked_plays.refuted_play_is_sound.Goals as goal

abbrev asked : List Event
asked = event.Run 0 1 ∷ event.Give 0 ∷ []

abbrev replied : List Reply
replied = reply.Unsat ∷ reply.Given 1 ∷ []

abbrev board : List Step
board = chain [] (1 ∷ 2 ∷ []) ∷ []

at_give : (k w : ℕ) → slice_get asked k ≡ Some (event.Give w) → IsTrue (is_refutation both_signs (take (given (take (k + 1) replied)) board))
at_give zero w is = absurd cc
at_give (suc zero) w is = refl
at_give (suc (suc k)) w is = absurd cc

no_model : IsTrue (list_any is_model replied) → list_any is_unsat replied ≡ false
no_model none = absurd cc

pub returns : goal.returns
returns c = record {
  justified = refl;
  models = All-cons (IsTrueModel both_signs) reply.Unsat (reply.Given 1 ∷ []) tt (All-cons (IsTrueModel both_signs) (reply.Given 1) [] tt (All-nil (IsTrueModel both_signs)));
  refutes = λ k w is last. at_give k w is;
  one_answer = no_model;
}
