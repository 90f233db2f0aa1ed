use Rattle.std.proofs.Common.{◌≡◌, ◌<◌, ◌∙◌, ◌++◌, ◌∷◌, [], ℕ, List, Some, length, get_or, sym, ap, subst}
use Rattle.std.proofs.lemmas.List.Elements.{All-push}
use Rattle.std.specs.Prelude.{is_some, Option, All}
use Rattle.mono_graph.specs.declared.amount.Amount.{Amount}
use Rattle.mono_graph.specs.Digraph.{place_of}
use Rattle.mono_steps.proofs.Placed.{not_all, entry_more, amount_more}
use Rattle.mono_steps.proofs.placing.place_amounts.Goals as goal

abbrev no_amount : Amount
no_amount = record { edge = 0; amount = 0 }

pub returns-in_default-clause-known : goal.returns-in_default-clause-known
returns-in_default-clause-known c =
    let g = c.args.graph.now in
    sym (not_all (λ (m : Amount). is_some (place_of g m.edge)) c.args.listed.now c.loop-entry.entry-index no_amount c.loop-entry-test.true (ap (λ (o : Option ℕ). is_some o) (sym c.place.ensures.place ∙ c.in_default.is)))

pub loop-entry-preserved : goal.loop-entry-preserved
loop-entry-preserved c =
    let g = c.args.graph.now in
    let ms = c.args.listed.now in
    let i = c.loop-entry.entry-index in
    let new : Amount = record { edge = c.in-Some.place; amount = (get_or ms i no_amount).amount } in
    let found : Some c.in-Some.place ≡ place_of g (get_or ms i no_amount).edge = sym c.in-Some.is ∙ c.place.ensures.place in
    let pushed : c.push.new.self.items ≡ c.loop-entry.amounts.items ++ new ∷ [] = c.in_ok-push.ensures.items in
    record {
      known = entry_more g ms i c.in-Some.place no_amount c.loop-entry-test.true found c.loop-entry.invariant.known;
      amounts = amount_more g ms c.loop-entry.amounts.items c.push.new.self.items i c.in-Some.place no_amount c.loop-entry-test.true found c.loop-entry.invariant.amounts pushed;
      held = subst (λ (new : List Amount). All (λ (m : Amount). m.edge < length g.edges) new) (sym pushed) (All-push (λ (m : Amount). m.edge < length g.edges) c.loop-entry.amounts.items new c.loop-entry.invariant.held (c.in-Some.ensures.known));
    }
