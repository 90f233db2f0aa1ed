-- Marks by node and lists of nodes, as two searches change them.
use Rattle.std.proofs.Common.{◌≡◌, ℕ, ◌<◌, List, [], ◌∷◌, ◌++◌, length, get_or, set, replicate, sym, subst, ◌∙◌, inl, inr, arith}
use Rattle.std.specs.Prelude.{IsTrue, All}
use Rattle.std.proofs.lemmas.Bool.{both_ways, cases_eq, cases_lt}
use Rattle.std.proofs.lemmas.List.{get_or_default, get_or_past, get_or-replicate, get_or-set_other, length-replicate, length-set}
use Rattle.std.proofs.lemmas.List.Elements.{All-push, All-set}
use Rattle.mono_graph.specs.Digraph.{Digraph, has}
use Rattle.mono_graph.proofs.Prefixes.{has_new, has_other}
use Rattle.mono_mend.specs.declared.way.Mark.{Mark}
use Rattle.mono_mend.specs.Growing.{no_mark, IsWayIn, AreMarksListed, AreGrown}

-- where no node has a mark, none needs to be listed
pub none_listed : (marks : List Mark) → ((u : ℕ) → get_or marks u no_mark ≡ no_mark) → AreMarksListed marks []
none_listed marks none = record {
  within = λ i d lt. absurd (omega arith);
  unlisted = λ u _. none u;
}

pub none_marked : (count u : ℕ) → get_or (replicate count no_mark) u no_mark ≡ no_mark
none_marked count u = elim (cases_lt u count) [
  | inl lt ↦ get_or-replicate count u no_mark no_mark lt
  | inr past ↦ get_or_past (replicate count no_mark) u no_mark (omega (arith, length-replicate count no_mark))
]

pub grown_none : (g : Digraph) (marks : List Mark) → length marks ≡ g.nodes → ((u : ℕ) → get_or marks u no_mark ≡ no_mark) → AreGrown g marks [] [] []
grown_none g marks count none = record {
  count = count;
  ways = λ i d lt. subst (λ (m : Mark). IsWayIn g m.way) (sym (get_or_default marks i d no_mark lt ∙ none i)) tt;
  listed = none_listed marks none;
  onward = λ i d lt. absurd (omega arith);
  back = λ i d lt. absurd (omega arith);
}

listed_more : (marks : List Mark) (reached : List ℕ) (u : ℕ) (m : Mark) → u < length marks → AreMarksListed marks reached → AreMarksListed (set marks u m) (reached ++ u ∷ [])
listed_more marks reached u m lt old = record {
  within = subst (λ (n : ℕ). All (λ v. v < n) (reached ++ u ∷ [])) (sym (length-set marks u m)) (All-push (λ (v : ℕ). v < length marks) reached u old.within lt);
  unlisted = λ v off. elim (cases_eq u v) [
    | inl e ↦ absurd (both_ways (has (reached ++ u ∷ []) v) off (subst (λ (k : ℕ). IsTrue (has (reached ++ u ∷ []) k)) e (has_new reached u)))
    | inr ne ↦ get_or-set_other marks u v m no_mark (λ q. ne (sym q)) ∙ old.unlisted v (sym (has_other reached u v ne) ∙ off)
  ];
}

-- a node is reached
pub grown_mark : (g : Digraph) (marks : List Mark) (reached front behind : List ℕ) (u : ℕ) (m : Mark) → u < length marks → IsWayIn g m.way → AreGrown g marks reached front behind
    → AreGrown g (set marks u m) (reached ++ u ∷ []) front behind
grown_mark g marks reached front behind u m lt way old = record {
  count = length-set marks u m ∙ old.count;
  ways = All-set (λ (m : Mark). IsWayIn g m.way) marks u m way old.ways;
  listed = listed_more marks reached u m lt old.listed;
  onward = old.onward;
  back = old.back;
}

-- a search goes on from a node
pub grown_front : (g : Digraph) (marks : List Mark) (reached front behind : List ℕ) (u : ℕ) → u < g.nodes → AreGrown g marks reached front behind → AreGrown g marks reached (front ++ u ∷ []) behind
grown_front g marks reached front behind u lt old = record {
  count = old.count;
  ways = old.ways;
  listed = old.listed;
  onward = All-push (λ (v : ℕ). v < g.nodes) front u old.onward lt;
  back = old.back;
}

pub grown_behind : (g : Digraph) (marks : List Mark) (reached front behind : List ℕ) (u : ℕ) → u < g.nodes → AreGrown g marks reached front behind → AreGrown g marks reached front (behind ++ u ∷ [])
grown_behind g marks reached front behind u lt old = record {
  count = old.count;
  ways = old.ways;
  listed = old.listed;
  onward = old.onward;
  back = All-push (λ (v : ℕ). v < g.nodes) behind u old.back lt;
}
