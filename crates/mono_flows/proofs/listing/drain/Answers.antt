use Rattle.std.proofs.Common.{◌≡◌, ◌<◌, ℕ, List, [], ◌∷◌, ◌+◌, ◌++◌, Vec, length, get_or, take, ap, ◌∙◌, arith}
use Rattle.std.specs.declared.alloc.Global.{Global}
use Rattle.std.proofs.lemmas.List.{get_or_read, length-set, take_more}
use Rattle.mono_graph.specs.declared.amount.Amount.{Amount}
use Rattle.mono_flows.specs.Residual.{amount_of}
use Rattle.mono_flows.proofs.Draining.{drained_as, drained_some, drained_zero}
use Rattle.mono_flows.proofs.listing.drain.Goals as goal
use Rattle.mono_flows.proofs.listing.drain.Goals.{then-amount-gt0+in_ok-push, else-amount-gt0}

pub loop-place-preserved : goal.loop-place-preserved
loop-place-preserved c =
    let i = c.loop-place.place-index in
    let place : ℕ = get_or c.args.touched.now i 0 in
    let now : List ℕ = c.loop-place.amounts.items in
    let held = c.loop-place.invariant in
    let next : take (i + 1) c.args.touched.now ≡ take i c.args.touched.now ++ place ∷ [] = take_more c.args.touched.now i 0 c.loop-place-test.true in
    let low : place < length now = let known = c.requires i 0 c.loop-place-test.true in omega (arith, known, held.len) in
    let is : c.index-amount.result.now ≡ amount_of now place = get_or_read now place c.index-amount.result.now low c.index-amount.ensures 0 in
    elim c.if-amount-gt0.branch [
      | then-amount-gt0+in_ok-push w ↦
          let amounts = ap (λ (v : Vec ℕ Global). v.items) w.amounts-is in
          let listed = ap (λ (v : Vec Amount Global). v.items) w.listed-is ∙ w.in_ok-push.ensures.items in
          record {
            len = ap (λ (fs : List ℕ). length fs) amounts ∙ (length-set now place 0 ∙ held.len);
            drained = drained_as amounts next listed (drained_some (record { edge = place; amount = c.index-amount.result.now }) low held.len is w.if-amount-gt0.true held.drained);
          }
      | else-amount-gt0 w ↦
          let amounts = ap (λ (v : Vec ℕ Global). v.items) w.amounts-is in
          let some = w.if-amount-gt0.false in
          record {
            len = ap (λ (fs : List ℕ). length fs) amounts ∙ held.len;
            drained = drained_as amounts next (ap (λ (v : Vec Amount Global). v.items) w.listed-is) (drained_zero place (omega (arith, is, some)) held.drained);
          }
    ]
