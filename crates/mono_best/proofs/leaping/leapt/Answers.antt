use Rattle.std.proofs.Common.{◌≡◌, ◌+◌, ◌∙◌, ap, subst, sym, arith, length, rules, All, List, Bool, Option, ℕ}
use Rattle.std.specs.Prelude.{IfSome}
use Rattle.std.proofs.lemmas.Grind.{common_steps}
use Rattle.mono_base.specs.Literal.{IsLitWithin}
use Rattle.mono_best.specs.Best.{IsReply}
use Rattle.mono_best.specs.Leaps.{IsFound}
use Rattle.mono_best.specs.declared.gap.Found.{Found}
use Rattle.mono_best.specs.declared.questions.Reply.{Reply}
use Rattle.mono_best.specs.declared.questions.Reply.TheVariants as reply
use Rattle.mono_best.proofs.leaping.leapt.Goals as goal

pub last_found-requires-clause-signs : goal.last_found-requires-clause-signs
last_found-requires-clause-signs g c =
    let p = c.args.problem.now in
    let n = c.args.atom in
    let met : IsReply p n c.args.budget c.args.number (reply.Met c.in-Met.model c.in-Met.last) =
    subst (λ (r : Reply). IsReply p n c.args.budget c.args.number r) c.in-Met.is c.in_ok-steps.ensures in
    let len : length c.as_slice.result.now ≡ p.vars + 1 = ap (λ (xs : List Bool). length xs) c.as_slice.ensures ∙ met.2.len in
    let within : All (IsLitWithin (p.vars + 1)) c.in_ok-near-in-Met.near.items = subst (λ (v : ℕ). All (IsLitWithin v) c.in_ok-near-in-Met.near.items) len c.in_ok-near-in-Met.ensures.within in
    first_of (search rules, grind (arith, common_steps))

pub last_found-requires-clause-gap : goal.last_found-requires-clause-gap
last_found-requires-clause-gap g c =
    let p = c.args.problem.now in
    let n = c.args.atom in
    let met : IsReply p n c.args.budget c.args.number (reply.Met c.in-Met.model c.in-Met.last) =
    subst (λ (r : Reply). IsReply p n c.args.budget c.args.number r) c.in-Met.is c.in_ok-steps.ensures in
    let new = c.new-gap.ensures in
    record {
      found = subst (λ (o : Option Found). IfSome o (IsFound p n c.args.number)) (sym new.found) tt;
      from = omega (arith, met.0, new.low);
      to = omega (arith, c.requires.limit, new.high);
    }

pub last_found-requires-in-Spent-clause-gap : goal.last_found-requires-in-Spent-clause-gap
last_found-requires-in-Spent-clause-gap g c =
    let new = c.new-gap-in-Spent.ensures in
    record {
      found = subst (λ (o : Option Found). IfSome o (IsFound c.args.problem.now c.args.atom c.args.number)) (sym new.found) tt;
      from = omega (arith, new.low);
      to = omega (arith, c.requires.limit, new.high);
    }

pub returns-in_ok-found-in-Met : goal.returns-in_ok-found-in-Met
returns-in_ok-found-in-Met g c =
    let p = c.args.problem.now in
    let n = c.args.atom in
    let met : IsReply p n c.args.budget c.args.number (reply.Met c.in-Met.model c.in-Met.last) =
    subst (λ (r : Reply). IsReply p n c.args.budget c.args.number r) c.in-Met.is c.in_ok-steps.ensures in
    c.met_or.ensures p n c.args.budget c.args.number c.in_ok-found-in-Met.ensures met

pub returns-in_ok-found-in-Spent : goal.returns-in_ok-found-in-Spent
returns-in_ok-found-in-Spent g c =
    let p = c.args.problem.now in
    let n = c.args.atom in
    let spent : IsReply p n c.args.budget c.args.number (reply.Spent c.in-Spent.steps) =
    subst (λ (r : Reply). IsReply p n c.args.budget c.args.number r) c.in-Spent.is c.in_ok-steps.ensures in
    c.met_or-in-Spent.ensures p n c.args.budget c.args.number c.in_ok-found-in-Spent.ensures spent
