use Rattle.std.proofs.Common.{◌≡◌, ◌+◌, ◌∙◌, ◌++◌, ◌∷◌, [], sym, ap, map, length, List, Bool, ℕ, arith}
use Rattle.std.specs.Prelude.{pos}
use Rattle.std.specs.List.{range_with_len}
use Rattle.std.proofs.lemmas.List.FromFn.{map-range_with_len_more, length-map-range_with_len}
use Rattle.mono_base.specs.Literal.{has_lit}
use Rattle.mono_check.proofs.values.model.Goals as goal

pub loop-place-preserved : goal.loop-place-preserved
loop-place-preserved c =
    let f : ℕ → Bool = λ x. has_lit c.args.set.now.members (pos x) in
    let at : 1 + c.loop-place.place ≡ c.loop-place.place + 1 = omega arith in
    c.in_ok-push.ensures.items ∙ ap (λ (xs : List Bool). xs ++ c.is_true.result ∷ []) c.loop-place.invariant
    ∙ ap (λ (b : Bool). map f (range_with_len 1 c.loop-place.place) ++ b ∷ []) c.is_true.ensures
    ∙ sym (map-range_with_len_more f 1 c.loop-place.place (c.loop-place.place + 1) at)

pub returns-clause-len : goal.returns-clause-len
returns-clause-len c =
    let f : ℕ → Bool = λ x. has_lit c.args.set.now.members (pos x) in
    let all : c.loop-place.place ≡ c.args.problem.now.vars = omega (arith, c.loop-place-test.false, c.vars-place-end.ensures.vars, c.loop-place.auto.place-end) in
    ap length c.loop-place.invariant ∙ length-map-range_with_len f 1 c.loop-place.place ∙ all
