use Rattle.std.proofs.Common.{◌≡◌, ◌∙◌, ◌+◌, ap, arith, pos, ◌∷◌, [], length-append}
use Rattle.mono_base.specs.Partial.{value_by}
use Rattle.mono_search.proofs.Decisions.{values_more, is_value}
use Rattle.mono_search.proofs.deciding.values_of.Goals as goal

pub loop-place-preserved : goal.loop-place-preserved
loop-place-preserved c =
    let t = c.args.trail.now.lits in
    let w = c.loop-place.values.items in
    let value : c.value-value.result ≡ value_by t (pos (c.loop-place.place + 1)) = c.value-value.ensures ∙ ap (value_by t) c.of.ensures.value in
    let b = is_value t (pos (c.loop-place.place + 1)) c.value-value.result c.is_yes.result value c.is_yes.ensures in
    let more = values_more t w c.is_yes.result c.loop-place.place c.loop-place.invariant.len c.loop-place.invariant.values b in
    record {
      len = rw c.in_ok-push.ensures.items (omega (arith, c.loop-place.invariant.len, length-append w (c.is_yes.result ∷ [])));
      values = λ v is. rw c.in_ok-push.ensures.items (more v is);
    }
