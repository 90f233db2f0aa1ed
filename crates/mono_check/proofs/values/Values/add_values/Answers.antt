use Rattle.std.proofs.Common.{◌≡◌, ◌&&◌, ◌++◌, true, false, length, is_some, sym, ap, refl, arith}
use Rattle.std.specs.Prelude.{nat_lt}
use Rattle.std.proofs.lemmas.Bool.{and_from, and_left, and_right, lt-ltb, le-ltb}
use Rattle.mono_check.specs.Values.{are_values, has_end, literals_among, passes_end}
use Rattle.mono_check.proofs.Literals.{as_many}
use Rattle.mono_check.proofs.ValueFaults.{some_missing, no_fault}
use Rattle.mono_check.proofs.values.Values.add_values.Goals.{then-has_end+else-members-vars, else-has_end}
use Rattle.mono_check.proofs.values.Values.add_values.Goals as goal

pub returns-then-members-vars-clause-fault : goal.returns-then-members-vars-clause-fault
returns-then-members-vars-clause-fault c = λ lits m.
    let p = c.args.problem.now in
    let zs = c.args.values.now in
    let before : passes_end (is_some c.args.self.now.end) zs ≡ false = cc in
    let values : are_values p (lits ++ literals_among zs) ≡ true = sym (c.if-not-add_literals.ensures.values lits m) in
    let ends : has_end zs ≡ true = sym c.if-has_end.ensures in
    let many = as_many p (lits ++ literals_among zs) c.add_literals.new.set (c.if-not-add_literals.ensures.members lits m refl) c.members.ensures.distinct in
    let few : nat_lt (length (lits ++ literals_among zs)) p.vars ≡ true = lt-ltb (length (lits ++ literals_among zs)) p.vars (omega (arith, many, c.if-members-vars.true, ap length c.members.ensures.value, c.vars.ensures.vars)) in
    some_missing p lits (is_some c.args.self.now.end) zs before values (and_from (has_end zs) (nat_lt (length (lits ++ literals_among zs)) p.vars) ends few)

pub returns-clause-fault : goal.returns-clause-fault
returns-clause-fault c = λ lits m.
    let p = c.args.problem.now in
    let zs = c.args.values.now in
    let before : passes_end (is_some c.args.self.now.end) zs ≡ false = cc in
    let values : are_values p (lits ++ literals_among zs) ≡ true = sym (c.if-not-add_literals.ensures.values lits m) in
    let given = c.if-not-add_literals.ensures.members lits m refl in
    let none : (has_end zs && nat_lt (length (lits ++ literals_among zs)) p.vars) ≡ false = elim c.if-has_end.branch [
      | then-has_end+else-members-vars w ↦
          let many = as_many p (lits ++ literals_among zs) c.add_literals.new.set given w.members.ensures.distinct in
          and_right (has_end zs) (nat_lt (length (lits ++ literals_among zs)) p.vars) (le-ltb (length (lits ++ literals_among zs)) p.vars (omega (arith, many, w.if-members-vars.false, ap length w.members.ensures.value, w.vars.ensures.vars)))
      | else-has_end w ↦ and_left (has_end zs) (nat_lt (length (lits ++ literals_among zs)) p.vars) (sym w.if-has_end.ensures)
    ] in
    no_fault p lits (is_some c.args.self.now.end) zs before values none
