use Rattle.std.proofs.Common.{◌≡◌, ◌-◌, ℕ, length, arith, sym, subst, get_or, vec_len}
use Rattle.mono_clauses.proofs.DueClauses.{dropped_watched, dropped_none, Swapped}
use Rattle.mono_clauses.proofs.due.drop_watched.Goals as goal

pub returns-in-Some : goal.returns-in-Some
returns-in-Some c =
    let e : vec_len c.args.due.now ≡ length c.args.due.now.items = omega arith in
    let s : Swapped c.args.due.now.items c.swap_remove.new.self.items c.args.next = record {
      len = omega (arith, c.swap_remove.ensures.len);
      at = λ h. subst (λ (m : ℕ). get_or c.swap_remove.new.self.items c.args.next 0 ≡ get_or c.args.due.now.items (m - 1) 0) e (c.swap_remove.ensures.by_index.0 0 (omega (arith, h)));
      others = λ k n h. c.swap_remove.ensures.by_index.1 k 0 n (omega (arith, h));
    } in
    dropped_watched c.args.clauses.now.list c.args.watches.now c.args.due.now.items c.swap_remove.new.self.items c.args.next c.args.place c.in-Some.field-0 (omega (arith, c.requires.within)) c.requires.place s (sym c.in-Some.ensures) c.requires.due

pub returns : goal.returns
returns c = dropped_none c.args.clauses.now.list c.args.watches.now c.args.due.now.items c.args.next (omega (arith, c.requires.within)) c.requires.due
