use Rattle.std.proofs.Common.{◌≡◌, ◌++◌, ◌+◌, ◌∷◌, [], List, take, get_or, sym, subst, ◌∙◌, arith}
use Rattle.std.proofs.lemmas.List.{take_more, take_all}
use Rattle.mono_steps.specs.declared.step.Step.{Step}
use Rattle.mono_portfolio.specs.declared.event.Event.{Event}
use Rattle.mono_portfolio.specs.declared.event.Reply.{Reply}
use Rattle.mono_portfolio.specs.declared.event.Event.TheVariants as event
use Rattle.mono_portfolio.specs.TeamView.{TeamView, start}
use Rattle.mono_portfolio.specs.Plays.{Plays}
use Rattle.mono_portfolio.specs.Soundness.{IsSoundPlay}
use Rattle.mono_portfolio.proofs.Playing.{plays_more, play_sound}
use Rattle.mono_portfolio.proofs.whole_plays.play.Goals as goal

pub loop-event-preserved : goal.loop-event-preserved
loop-event-preserved g c =
    let s : TeamView = start c.args.problem.now c.args.workers in
    let i = c.loop-event.event-index in
    let e : Event = get_or c.args.events.now i (event.Run 0 0) in
    let more : Plays s (take i c.args.events.now ++ e ∷ []) (c.loop-event.replies.items ++ c.in_ok-step.field-0 ∷ []) c.step.new.self =
    plays_more s (take i c.args.events.now) c.loop-event.replies.items c.loop-event.team e c.in_ok-step.field-0 c.step.new.self c.loop-event.invariant c.in_ok-step.ensures.ok in
    let events : take i c.args.events.now ++ e ∷ [] ≡ take (i + 1) c.args.events.now = sym (take_more c.args.events.now i (event.Run 0 0) c.loop-event-test.true) in
    let replies : c.loop-event.replies.items ++ c.in_ok-step.field-0 ∷ [] ≡ c.push.new.self.items = sym c.in_ok-push.ensures.items in
    subst (λ (rs : List Reply). Plays s (take (i + 1) c.args.events.now) rs c.step.new.self) replies
    (subst (λ (es : List Event). Plays s es (c.loop-event.replies.items ++ c.in_ok-step.field-0 ∷ []) c.step.new.self) events more)

pub returns-clause-sound : goal.returns-clause-sound
returns-clause-sound g c =
    let s : TeamView = start c.args.problem.now c.args.workers in
    let all : take c.loop-event.event-index c.args.events.now ≡ c.args.events.now = take_all c.loop-event.event-index c.args.events.now (omega arith) in
    let plays : Plays s c.args.events.now c.loop-event.replies.items c.loop-event.team = subst (λ (es : List Event). Plays s es c.loop-event.replies.items c.loop-event.team) all c.loop-event.invariant in
    subst (λ (rs : List Reply). IsSoundPlay c.args.problem.now c.args.events.now rs c.from_vec.result) (sym c.from_vec-2.ensures)
    (subst (λ (b : List Step). IsSoundPlay c.args.problem.now c.args.events.now c.loop-event.replies.items b) (sym (c.from_vec.ensures ∙ c.into_board.ensures))
    (play_sound c.args.problem.now c.args.workers c.args.events.now c.loop-event.replies.items c.loop-event.team c.known.ensures.problem plays))
