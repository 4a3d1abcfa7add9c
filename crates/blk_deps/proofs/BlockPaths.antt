-- A path through basic blocks is a path through their nodes, and the other way round.
use Rattle.std.proofs.Common.{◌≡◌, ◌⊎◌, inl, inr, ℕ, zero, suc, ◌+◌, ◌-◌, ◌<◌, ◌≤◌, List, [], ◌∷◌, length, Bool, true, ◌↔◌, refl, sym, ap, subst, ◌∙◌, arith}
use Rattle.std.proofs.lemmas.Bool.{cases_lt}
use Rattle.std.proofs.lemmas.List.{get_or_past}
use Rattle.dataflow.specs.Cause.{IsSingle, HasOneCause}
use Rattle.dataflow.specs.Causes.{through}
use Rattle.dataflow.specs.Paths.{IsPathTo, facts_along, OnSomePath, IsOfAllPaths}
use Rattle.dataflow.proofs.Paths.{from_rows, to_rows}
use Rattle.blk_deps.specs.Blocks.{first_of, count_of, goes_of, AreBlocks, facts_through, facts_behind}
use Rattle.blk_deps.specs.FlowFacts.{IsInBlock}
use Rattle.blk_deps.specs.FlowLaws.{through_law}
use Rattle.blk_deps.specs.declared.blocks.BasicBlock.{BasicBlock}

module _ {F : Type 0} (size : ℕ) (goes : ℕ → ℕ → ℕ) (start : F → Bool) (after : ℕ → (F → Bool) → F → Bool)
    (blocks : List BasicBlock)
    (are : AreBlocks size goes blocks) where
  abbrev first : ℕ → ℕ
  first b = first_of size blocks b

  abbrev count : ℕ → ℕ
  count b = count_of size blocks b

  abbrev behind : ℕ → (F → Bool) → F → Bool
  behind b = facts_behind size blocks after b

  -- ---- where blocks lie

  first_at_end : first (length blocks) ≡ size
  first_at_end = ap (λ (x : BasicBlock). x.first) (get_or_past blocks (length blocks) _ (omega arith))

  below_end : (b c : ℕ) → c < count b → b < length blocks
  below_end b c within = elim (cases_lt b (length blocks)) [
    | inl lt ↦ lt
    | inr ge ↦ let none : count b ≡ 0 = ap (λ (x : BasicBlock). x.count) (get_or_past blocks b _ ge) in
        absurd (omega (arith, none, within))
  ]

  firsts_rise : (b d : ℕ) → b + d ≤ length blocks → first b ≤ first (b + d)
  firsts_rise b zero within = let same : b ≡ b + 0 = omega arith in subst (λ n. first b ≤ first n) same (omega arith)
  firsts_rise b (suc d) within =
      let before = firsts_rise b d (omega arith) in
      let same : b + suc d ≡ b + d + 1 = omega arith in
      let step : first (b + suc d) ≡ first (b + d) + count (b + d) =
      ap first same ∙ are.follows (b + d) (omega arith) in
      omega (arith, before, step)

  ends_before : (b next : ℕ) → b < next → next ≤ length blocks → first b + count b ≤ first next
  ends_before b next lt within =
      let step = are.follows b (omega arith) in
      let rise = firsts_rise (b + 1) (next - (b + 1)) (omega arith) in
      let same : b + 1 + (next - (b + 1)) ≡ next = omega arith in
      let up : first (b + 1) ≤ first next = subst (λ n. first (b + 1) ≤ first n) same rise in
      omega (arith, step, up)

  pub within_size : (b c : ℕ) → b < length blocks → c < count b → first b + c < size
  within_size b c lt within =
      let ends = ends_before b (length blocks) lt (omega arith) in
      omega (arith, ends, first_at_end, within)

  -- ---- from blocks to nodes

  -- a path through nodes that shows these facts
  pub record Reaches (j : ℕ) (facts : F → Bool) : Type 0 where
    pub path : List ℕ
    pub is : IsPathTo size goes path j
    pub shows : facts_along start after path ≡ facts

  goes_on : (i j : ℕ) (facts : F → Bool) → Reaches i facts → i < size → (j ≡ goes i 0) ⊎ (j ≡ goes i 1)
      → Reaches j (after i facts)
  goes_on i j facts r lt way = record { path = i ∷ r.path; is = (r.is, lt, way); shows = ap (after i) r.shows }

  through_block : (b c : ℕ) (facts : F → Bool) → b < length blocks → c < count b → Reaches (first b) facts
      → Reaches (first b + c) (facts_through after (first b) c facts)
  through_block b zero facts lt within r = let same : first b ≡ first b + 0 = omega arith in
      subst (λ n. Reaches n facts) same r
  through_block b (suc c) facts lt within r =
      let before = through_block b c facts lt (omega (arith, within)) r in
      let step : first b + suc c ≡ goes (first b + c) 0 = let on = are.inside b c lt (omega (arith, within)) in
      omega (arith, on.0) in
      goes_on (first b + c) (first b + suc c) _ before (within_size b c lt (omega (arith, within))) (inl step)

  -- the last node of a block
  last_of : (b : ℕ) → b < length blocks → (c : ℕ) × (count b ≡ suc c)
  last_of b lt = let some = are.some b lt in (count b - 1, omega (arith, some))

  leaves : (b next : ℕ) (facts : F → Bool) → b < length blocks → (next ≡ goes_of size blocks b 0)
      ⊎ (next ≡ goes_of size blocks b 1)
      → Reaches (first b) facts → Reaches (first next) (behind b facts)
  leaves b next facts lt way r =
      let last = last_of b lt in
      let c = last.0 in
      let full : c + 1 ≡ count b = omega (arith, last.1) in
      let before = through_block b c facts lt (omega (arith, full)) r in
      let inside = within_size b c lt (omega (arith, full)) in
      let goal : (first next ≡ goes (first b + c) 0) ⊎ (first next ≡ goes (first b + c) 1) = elim way [
        | inl on ↦ inl (ap first on ∙ are.next b c lt full)
        | inr on ↦ inr (ap first on ∙ are.goal b c lt full)
      ] in
      let there = goes_on (first b + c) (first next) _ before inside goal in
      subst (λ n. Reaches (first next) (facts_through after (first b) n facts)) (sym last.1) there

  pub blocks_to_nodes : (path : List ℕ) (b : ℕ) → IsPathTo (length blocks) (goes_of size blocks) path b
      → Reaches (first b) (facts_along start behind path)
  blocks_to_nodes [] b is = record { path = []; is = ap first is ∙ are.begins; shows = refl }
  blocks_to_nodes (a ∷ path) b is = leaves a b (facts_along start behind path) is.1 is.2 (blocks_to_nodes path a is.0)

  -- ---- from nodes to blocks

  -- a path through blocks to that of node j, and then to it, shows these facts
  pub record Passes (j : ℕ) (facts : F → Bool) : Type 0 where
    pub block : ℕ
    pub offset : ℕ
    pub inside : IsInBlock size blocks block offset
    pub at : j ≡ first block + offset
    pub path : List ℕ
    pub is : IsPathTo (length blocks) (goes_of size blocks) path block
    pub shows : facts ≡ facts_through after (first block) offset (facts_along start behind path)

  at_first : (b : ℕ) → b ≤ length blocks → IsInBlock size blocks b 0
  at_first b within = elim (cases_lt b (length blocks)) [
    | inl lt ↦ inl (are.some b lt)
    | inr ge ↦ inr (omega arith, refl)
  ]

  begins_block : (b : ℕ) (path : List ℕ) (facts : F → Bool) (j : ℕ) → b ≤ length blocks → j ≡ first b
      → IsPathTo (length blocks) (goes_of size blocks) path b → facts ≡ facts_along start behind path → Passes j facts
  begins_block b path facts j within at is shows =
      record {
        block = b;
        offset = 0;
        inside = at_first b within;
        at = omega (arith, at);
        path = path;
        is = is;
        shows =
            shows;
      }

  module _ (i j : ℕ) (facts : F → Bool) (lt : i < size) (way : (j ≡ goes i 0) ⊎ (j ≡ goes i 1))
      (r : Passes i facts) where
    -- the next node of the same block
    stays : r.offset + 1 < count r.block → Passes j (after i facts)
    stays more =
        let b = r.block in
        let c = r.offset in
        let below = below_end b c (omega (arith, more)) in
        let on = are.inside b c below more in
        let next : j ≡ first b + suc c = elim way [
          | inl is ↦ is ∙ ap (λ n. goes n 0) r.at ∙ on.0 ∙ omega arith
          | inr is ↦ is ∙ ap (λ n. goes n 1) r.at ∙ on.1 ∙ omega arith
        ] in
        record {
          block = b;
          offset = suc c;
          inside = inl (omega (arith, more));
          at = next;
          path = r.path;
          is = r.is;
          shows = ap (λ n. after n facts) r.at ∙ ap (after (first b + c)) r.shows;
        }

    -- the first one of another
    moves : r.offset + 1 ≡ count r.block → Passes j (after i facts)
    moves full =
        let b = r.block in
        let c = r.offset in
        let below = below_end b c (omega (arith, full)) in
        let whole : after i facts ≡ behind b (facts_along start behind r.path) =
        ap (λ n. after n facts) r.at ∙ ap (after (first b + c)) r.shows
        ∙ ap (λ n. facts_through after (first b) n (facts_along start behind r.path))
        (let e : suc c ≡ count b = omega (arith, full) in e) in
        let within = are.within b below in
        elim way [
          | inl is ↦ begins_block (goes_of size blocks b 0) (b ∷ r.path) (after i facts) j within.0
              (is ∙ ap (λ n. goes n 0) r.at ∙ sym (are.next b c below full)) (r.is, below, inl refl) whole
          | inr is ↦ begins_block (goes_of size blocks b 1) (b ∷ r.path) (after i facts) j within.1
              (is ∙ ap (λ n. goes n 1) r.at ∙ sym (are.goal b c below full)) (r.is, below, inr refl) whole
        ]

    passes_on : Passes j (after i facts)
    passes_on = elim r.inside [
      | inl within ↦ elim (cases_lt (r.offset + 1) (count r.block))
          [ inl more ↦ stays more | inr full ↦ moves (omega (arith, within, full)) ]
      | inr at_end ↦
          let here : i ≡ size = r.at ∙ ap (λ n. first n + r.offset) at_end.0
          ∙ ap (λ n. first (length blocks) + n) at_end.1
          ∙ (let e : first (length blocks) + 0 ≡ first (length blocks) = omega arith in e) ∙ first_at_end in
          absurd (omega (arith, here, lt))
    ]

  pub nodes_to_blocks : (path : List ℕ) (j : ℕ) → IsPathTo size goes path j → Passes j (facts_along start after path)
  nodes_to_blocks [] j is = begins_block 0 [] start j (omega arith) (is ∙ sym are.begins) refl refl
  nodes_to_blocks (i ∷ path) j is = passes_on i j (facts_along start after path) is.1 is.2 (nodes_to_blocks path i is.0)

  -- ---- a node is in one block alone

  apart : (a c b d : ℕ) → c < count a → a < b → b ≤ length blocks → first a + c ≡ first b + d → ⊥
  apart a c b d within lt below same = let ends = ends_before a b lt below in omega (arith, ends, within, same)

  at_most : (b c : ℕ) → IsInBlock size blocks b c → b ≤ length blocks
  at_most b c (inl within) = let lt = below_end b c within in omega (arith, lt)
  at_most b c (inr at_end) = omega (arith, at_end.0)

  not_before : (a c b d : ℕ) → IsInBlock size blocks a c → IsInBlock size blocks b d → first a + c ≡ first b + d
      → a < b → ⊥
  not_before a c b d (inl within) other same lt = apart a c b d within lt (at_most b d other) same
  not_before a c b d (inr at_end) other same lt = let most = at_most b d other in omega (arith, at_end.0, most, lt)

  same_block : (a c b d : ℕ) → IsInBlock size blocks a c → IsInBlock size blocks b d → first a + c ≡ first b + d → a ≡ b
  same_block a c b d one other same = elim (cases_lt a b) [
    | inl lt ↦ absurd (not_before a c b d one other same lt)
    | inr ge ↦ elim (cases_lt b a) [
      | inl lt ↦ absurd (not_before b d a c other one (sym same) lt)
      | inr le ↦ omega (arith, ge, le)
    ]
  ]

  -- ---- rows at blocks

  module _ (found : ℕ → F → Bool) (is : IsOfAllPaths (length blocks) (goes_of size blocks) start behind found)
      (one_cause : (n : ℕ) → HasOneCause (after n)) (b c : ℕ) (inside : IsInBlock size blocks b c)
      (test : (F → Bool) → Bool) (single : IsSingle test) where
    abbrev moved : (F → Bool) → F → Bool
    moved facts = facts_through after (first b) c facts

    moved_single : IsSingle (λ facts. test (moved facts))
    moved_single = through single (through_law one_cause (first b) c)

    reaches_there : (facts : F → Bool) → Reaches (first b) facts → Reaches (first b + c) (moved facts)
    reaches_there facts r = elim inside [
      | inl within ↦ through_block b c facts (below_end b c within) within r
      | inr at_end ↦
          let there : Reaches (first b + 0) facts = let same : first b ≡ first b + 0 = omega arith in
          subst (λ n. Reaches n facts) same r in
          subst (λ n. Reaches (first b + n) (facts_through after (first b) n facts)) (sym at_end.1) there
    ]

    pub from_heads : test (moved (found b)) ≡ true → OnSomePath size goes start after (first b + c) test
    from_heads holds =
        let q = from_rows is moved_single b holds in
        let r = reaches_there _ (blocks_to_nodes q.0 b q.1) in
        (r.path, r.is, subst (λ facts. test facts ≡ true) (sym r.shows) q.2)

    pub to_heads : OnSomePath size goes start after (first b + c) test → test (moved (found b)) ≡ true
    to_heads p =
        let r = nodes_to_blocks p.0 (first b + c) p.1 in
        let same = same_block r.block r.offset b c r.inside inside (sym r.at) in
        let offset : r.offset ≡ c = let e = ap first same in omega (arith, e, r.at) in
        let held = subst (λ facts. test facts ≡ true) r.shows p.2 in
        let here : test (facts_through after (first b) c (facts_along start behind r.path)) ≡ true =
        subst (λ n. test (facts_through after (first b) n (facts_along start behind r.path)) ≡ true) offset
        (subst (λ n. test (facts_through after (first n) r.offset (facts_along start behind r.path)) ≡ true) same
        held) in
        to_rows is moved_single b (
          r.path,
          subst (λ n. IsPathTo (length blocks) (goes_of size blocks) r.path n) same
              r.is,
          here,
        )

    pub at_heads : (test (moved (found b)) ≡ true) ↔ OnSomePath size goes start after (first b + c) test
    at_heads = (from_heads, to_heads)
