use Rattle.std.proofs.Common.{rules, ◌≡◌, ◌∙◌, ◌+◌, ℕ, Bool, List, true, false, length, replicate, get_or, ap, arith}
use Rattle.std.specs.Prelude.{None}
use Rattle.std.proofs.lemmas.List.{length-map, length-replicate, get_or-replicate}
use Rattle.mono_base.specs.Worklist.{WorklistView}
use Rattle.mono_theory.specs.Owners.{fact_of, facts_of}
use Rattle.mono_search.proofs.KnownOwners.{none_known}
use Rattle.mono_search.proofs.QuietOthers.{all_listed}
use Rattle.mono_search.proofs.theories.Theories.new.Goals as goal

pub invariant_of-result : goal.invariant_of-result
invariant_of-result g c =
    let fact = fact_of g.T.Theory.graph g.T.Theory.atoms g.T.Theory.seen in
    let facts = facts_of g.T.Theory.graph g.T.Theory.atoms g.T.Theory.seen c.args.theories.items in
    let all = length-map c.args.theories.items fact in
    let on : c.in_ok-worklist.worklist.listed ≡ replicate c.len-2.result true = ap (λ (w : WorklistView). w.listed) c.in_ok-worklist.ensures in
    record {
      owns = c.requires.owns;
      concerned = search rules;
      known = none_known c.args.problem.now facts c.in_ok-owners.owners.items c.requires.owns (c.in_ok-owners.ensures ∙ ap (λ (n : ℕ). replicate (n + 1) None) c.atom_count.ensures);
      zero = c.in_ok-counts.ensures ∙ ap (λ (n : ℕ). replicate n 0) (omega (arith, c.len.ensures, all));
      others = all_listed facts c.in_ok-worklist.worklist.listed (ap length on ∙ length-replicate c.len-2.result true ∙ omega (arith, c.len-2.ensures, all))
          (λ i lt. ap (λ (bs : List Bool). get_or bs i false) on ∙ get_or-replicate c.len-2.result i true false (omega (arith, lt, c.len-2.ensures, all)));
    }
