use Rattle.std.proofs.Common.{◌≡◌, true}
use Rattle.mono_forms.proofs.asking.ask_refusal.Goals as goal

-- the problem has no such predicate
pub returns-then-not-has_bounded_atom-clause-some : goal.returns-then-not-has_bounded_atom-clause-some
returns-then-not-has_bounded_atom-clause-some c = λ has.
    let yes : c.has_bounded_atom.result ≡ true = c.has_bounded_atom.ensures.1 has in
    let no = c.if-not-has_bounded_atom.true in
    absurd cc
