use Rattle.std.proofs.Common.{◌≡◌, ◌≤◌, ◌+◌, ◌++◌, ◌∷◌, [], length, sum_by, ap, ◌∙◌, arith, length-append}
use Rattle.mono_problem.proofs.FlatLists.{total-lists_from, lists_from-append, AreEnds-append}
use Rattle.mono_problem.proofs.clause_list.ClauseList.push.Goals as goal

pub overflow_cast-as_slice : goal.overflow_cast-as_slice
overflow_cast-as_slice c =
    let lits = c.self.inside.lits.items in
    let counted = total-lists_from 0 lits c.self.inside.ends.items c.self.invariant in
    let total : sum_by (λ list. length list) c.args.self.now + 0 ≡ length lits = rw (← c.self.view_is) counted in
    rw (c.as_slice.ensures.value, c.in_ok-extend_from_slice.ensures.items, length-append) (omega (arith, total, c.requires))

all_lits : (c : goal.In-Ok) → c.extend_from_slice.new.self.items ≡ c.self.inside.lits.items ++ c.args.clause.now
all_lits c = c.in_ok-extend_from_slice.ensures.items

all_ends : (c : goal.In-Ok) → c.push.new.self.items ≡ c.self.inside.ends.items ++ length (c.self.inside.lits.items ++ c.args.clause.now) ∷ []
all_ends c = c.in-Ok.ensures.items ∙ ap (λ s. c.self.inside.ends.items ++ length s ∷ []) (c.as_slice.ensures.value ∙ all_lits c)

pub invariant_of-self-in-Ok : goal.invariant_of-self-in-Ok
invariant_of-self-in-Ok c =
    let lits = c.self.inside.lits.items in
    let more : length lits ≤ length (lits ++ c.args.clause.now) = simp length-append (omega arith) in
    rw (all_lits c, all_ends c) (AreEnds-append 0 c.self.inside.ends.items (length lits) (length (lits ++ c.args.clause.now)) c.self.invariant more)

pub returns-in-Ok-clause-ok : goal.returns-in-Ok-clause-ok
returns-in-Ok-clause-ok c =
    rw (all_lits c, all_ends c, ← c.self.view_is) (lists_from-append 0 c.self.inside.lits.items c.args.clause.now c.self.inside.ends.items c.self.invariant)
