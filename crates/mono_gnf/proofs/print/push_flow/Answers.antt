use Rattle.std.proofs.Common.{◌≡◌, ◌++◌, ◌∷◌, ◌∙◌, [], List, ℕ, map, decimal, refl, subst, codes, ap, w64, to_z, of_z, SFits, rules}
use Rattle.std.specs.Prelude.{OnOk}
use Rattle.std.proofs.lemmas.Int.{to_z-of_z}
use Rattle.mono_text.specs.Text.{spaced}
use Rattle.mono_problem.specs.declared.atom.Predicate.TheVariants as kind
use Rattle.mono_gnf.specs.Printed.{predicate_line, least_word, least_number}
use Rattle.mono_gnf.proofs.print.push_flow.Goals as goal

pub returns : goal.returns
returns c =
    let fits : SFits w64 c.args.least = search rules in
    let kept : to_z w64 (of_z w64 c.args.least) ≡ c.args.least = to_z-of_z w64 c.args.least fits in
    let word = c.word_of_least-word.ensures ∙ ap (least_word (codes "maximum_flow_geq") (codes "maximum_flow_gt")) kept in
    let bound = c.number_of_least-bound.ensures ∙ ap least_number kept in
    let line : c.word_of_least-word.result.now ∷ map decimal (c.args.id ∷ c.args.source ∷ c.args.sink ∷ c.args.var ∷ c.number_of_least-bound.result ∷ []) ≡ predicate_line c.args.id c.args.var (kind.Flow c.args.source c.args.sink c.args.least) =
    rw (word, bound) refl in
    let P : List (List ℕ) → Type 0 = λ l. OnOk c.push_line.result (c.push_line.new.out.items ≡ c.args.out.now.items ++ spaced l) in
    subst P line c.push_line.ensures.ok
