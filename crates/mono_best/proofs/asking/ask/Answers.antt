use Rattle.std.proofs.Common.{◌≡◌, ◌+◌, ◌∙◌, ap, ℕ, pos, refl, to_z, of_z, w64}
use Rattle.std.proofs.lemmas.Result.{IfOk-weaker}
use Rattle.mono_best.specs.Asking.{asking, predicate_of}
use Rattle.mono_best.proofs.Numbers.{bound_within, held_bound}
use Rattle.mono_best.proofs.Asked.{asking_grows}
use Rattle.mono_best.proofs.asking.ask.Goals as goal

pub returns : goal.returns
returns c =
    let p = c.args.problem.now in
    let n = c.args.atom in
    let b = c.args.bound in
    let range = bound_within (predicate_of p n) b c.requires.bound in
    let held : to_z w64 (of_z w64 b) ≡ b = held_bound b b refl range.0 range.1 in
    let lit : c.of-lit.result ≡ pos (p.vars + 1) = c.of-lit.ensures.value ∙ ap (λ (n : ℕ). pos (n + 1)) c.vars-var.ensures.vars in
    let grown : c.add_clause.new.self ≡ asking p n b = rw (c.in_ok-add_clause.ensures.ok, c.in_ok-add_atom.ensures.ok, c.in_ok-add_atom.ensures.number, c.in_ok-draft.ensures, c.with_bound.ensures, c.atom-asked.ensures, c.vars-var.ensures.vars, lit, held) (asking_grows p n b) in
    IfOk-weaker c.finish.result _ _ (λ q is. is ∙ grown) c.finish.ensures
