use Rattle.std.proofs.Common.{◌<◌, Option, length, sym, subst, arith}
use Rattle.std.specs.Prelude.{IfSome}
use Rattle.mono_base.specs.Literal.{value_in}
use Rattle.mono_check.specs.declared.enabled.EnabledPart.{EnabledPart}
use Rattle.mono_check.specs.Enabled.{IsPartAt}
use Rattle.mono_check.proofs.PartsByGraph.{exchanged, held_there}
use Rattle.mono_check.proofs.parts.EnabledParts.take.Goals as goal

pub returns-in-Some-clause-part : goal.returns-in-Some-clause-part
returns-in-Some-clause-part c =
    let len = c.requires.parts.len in
    let low : c.args.place < length c.args.self.now.parts.items = omega (arith, len, c.requires.place) in
    held_there c.args.problem.now (value_in c.args.model.now) c.args.self.now.parts.items c.args.place c.index_mut.result.now c.in-Some.part c.requires.parts low c.index_mut.ensures.value (sym c.in-Some.ensures.value)

pub returns-in-Some-clause-parts : goal.returns-in-Some-clause-parts
returns-in-Some-clause-parts c =
    let p = c.args.problem.now in
    let a = value_in c.args.model.now in
    let len = c.requires.parts.len in
    let low : c.args.place < length c.args.self.now.parts.items = omega (arith, len, c.requires.place) in
    exchanged p a c.args.self.now.parts.items c.args.place c.take.new.self c.requires.parts low
    (subst (λ (x : Option EnabledPart). IfSome x (IsPartAt p a c.args.place)) (sym c.in-Some.ensures.after) tt)
