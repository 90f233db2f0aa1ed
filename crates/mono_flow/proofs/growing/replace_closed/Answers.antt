use Rattle.std.proofs.Common.{◌≡◌, ◌<◌, ℕ, false, length, get_or, sym, ◌∙◌, subst, arith}
use Rattle.std.proofs.lemmas.List.{get_or_read}
use Rattle.mono_flow.specs.Growing.{is_open}
use Rattle.mono_flow.proofs.ReplacedEdges.{replacing_step, replaced_all}
use Rattle.mono_flow.proofs.growing.replace_closed.Goals as goal

pub loop-place-preserved : goal.loop-place-preserved
loop-place-preserved c =
    let g = c.args.graph.now in
    let rest = c.loop-place.rest.items in
    let place = c.loop-place.place in
    let lt : place < length rest = (let t = c.loop-place-test.true in let len = c.len.ensures in omega arith) in
    let shut : is_open g c.args.part.now c.args.marks.now (get_or rest place 0) ≡ false =
    subst (λ (k : ℕ). is_open g c.args.part.now c.args.marks.now k ≡ false) (get_or_read rest place c.index.result.now lt c.index.ensures 0) (sym c.is_still_open.ensures ∙ c.if-is_still_open.false) in
    replacing_step lt shut c.requires.fresh c.replace_at-place.ensures c.loop-place.invariant

pub returns : goal.returns
returns c = replaced_all (let t = c.loop-place-test.false in let len = c.len.ensures in omega arith) c.loop-place.invariant
