use Rattle.std.proofs.Common.{◌∙◌, ap, sym, length, arith}
use Rattle.mono_text.proofs.FieldSteps.{drop-one}
use Rattle.mono_text.proofs.field.pass.Goals as goal

pub loop-passed-preserved : goal.loop-passed-preserved
loop-passed-preserved c =
    let first = c.in-Some.ensures.steps in
    record {
      cut = omega (arith, ap length first, c.loop-passed.invariant.cut);
      left = drop-one c.loop-passed._passed _ c.next.new.self c.args.tokens.now (sym first ∙ c.loop-passed.invariant.left);
    }
