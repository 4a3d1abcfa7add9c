-- The nodes that begin a block cut a graph into basic blocks.
use Rattle.std.proofs.Common.{◌≡◌, inl, inr, ℕ, zero, suc, ◌+◌, ◌-◌, ◌<◌, ◌≤◌, List, [], ◌∷◌, ◌++◌, length, Bool, true, Some, slice_get, slice_index, refl, sym, ap, subst, ◌∙◌, arith, length-append}
use Rattle.std.proofs.Math.Seq.{get_or-append_seam}
use Rattle.std.proofs.lemmas.Bool.{cases_lt, cases_eq}
use Rattle.std.proofs.lemmas.Option.{slice_get-get_or, get_or_from_slice_get}
use Rattle.std.proofs.lemmas.List.{get_or_past}
use Rattle.asm_core.specs.declared.lines.Graph.{Graph}
use Rattle.blk_deps.specs.Ways.{size_of, goes, IsGraph}
use Rattle.blk_deps.specs.Blocks.{block_in, first_of, count_of, goes_of, AreBlocks}
use Rattle.blk_deps.specs.Heads.{is_head, IsMarked, AreHeads, grown, firsts_to, number_of, AreNumbered, IsNumbering, block_from, AreMade}
use Rattle.blk_deps.specs.declared.blocks.BasicBlock.{BasicBlock}
use Rattle.blk_deps.specs.declared.blocks.Numbering.{Numbering}
use Rattle.x86_rows.proofs.Appended.{slice_get-append_first}
use Rattle.blk_deps.proofs.HeadLemmas.{are_marked, rise, numbered, goes_within}

-- ---- the blocks

module _ (g : Graph) (is : IsGraph g) (heads : List Bool) (marked : AreHeads g heads) (numbers : List ℕ)
    (told : (n : ℕ) → n < length heads → slice_index numbers n ≡ number_of heads n) (blocks : List BasicBlock) where
  abbrev size : ℕ
  size = size_of g

  abbrev firsts : List ℕ
  firsts = firsts_to heads (length heads)

  module _ (made : AreMade g firsts numbers (length firsts - 1) blocks) where
    -- the end has the last number
    last_number : (length firsts ≡ number_of heads size + 1) × (slice_index firsts (number_of heads size) ≡ size)
    last_number =
        let one = numbered heads (length heads) size (omega (arith, marked.count)) marked.last in
        let same : length heads ≡ suc size = omega (arith, marked.count) in
        let whole : length firsts ≡ length (grown (is_head heads size) (firsts_to heads size) size) =
        ap (λ n. length (firsts_to heads n)) same in
        let grew : length (grown (is_head heads size) (firsts_to heads size) size) ≡ number_of heads size + 1 =
        ap (λ b. length (grown b (firsts_to heads size) size)) marked.last
        ∙ length-append (firsts_to heads size) (size ∷ []) in
        (whole ∙ grew, one.1)

    total : length blocks ≡ number_of heads size
    total = let last = last_number.0 in omega (arith, made.count, last)

    block_is : (b : ℕ) → b < length blocks → block_in size blocks b
        ≡ block_from g numbers (slice_index firsts b) (slice_index firsts (b + 1))
    block_is b below = get_or_from_slice_get blocks b _ _ (made.each b (omega (arith, below, made.count)))

    first_is : (b : ℕ) → b ≤ length blocks → first_of size blocks b ≡ slice_index firsts b
    first_is b within = elim (cases_lt b (length blocks)) [
      | inl below ↦ ap (λ (x : BasicBlock). x.first) (block_is b below)
      | inr past ↦
          let same : number_of heads size ≡ b = omega (arith, within, past, total) in
          ap (λ (x : BasicBlock). x.first) (get_or_past blocks b _ past)
          ∙ sym (sym (ap (slice_index firsts) same) ∙ last_number.1)
    ]

    count_is : (b : ℕ) → b < length blocks → count_of size blocks b ≡ slice_index firsts (b + 1) - slice_index firsts b
    count_is b below = ap (λ (x : BasicBlock). x.count) (block_is b below)

    rises : (b : ℕ) → b < length blocks → slice_index firsts b < slice_index firsts (b + 1)
    rises b below = let last = last_number.0 in rise heads (length heads) b (b + 1) (omega arith)
        (omega (arith, below, total, last))

    follows : (b : ℕ) → b < length blocks → first_of size blocks (b + 1)
        ≡ first_of size blocks b + count_of size blocks b
    follows b below =
        let up = rises b below in
        let here = first_is b (omega (arith, below)) in
        let there = first_is (b + 1) (omega (arith, below)) in
        let many = count_is b below in
        omega (arith, up, here, there, many)

    -- each first node is marked, and lies within
    first_marked : (b : ℕ) → b ≤ length blocks → (slice_index firsts b ≤ size)
        × (is_head heads (slice_index firsts b) ≡ true)
    first_marked b within =
        let last = last_number.0 in
        let m = are_marked heads (length heads) b (omega (arith, within, total, last)) in
        (omega (arith, m.0, marked.count), m.1)

    -- no node between two first ones is marked
    unmarked : (b m : ℕ) → b < length blocks → slice_index firsts b < m → m < slice_index firsts (b + 1)
        → is_head heads m ≡ true → ⊥
    unmarked b m below above under is =
        let last = last_number.0 in
        let end = (first_marked (b + 1) (omega (arith, below))).0 in
        let own = numbered heads (length heads) m (omega (arith, under, end, marked.count)) is in
        let j = number_of heads m in
        elim (cases_lt j (b + 1)) [
          | inl low ↦ elim (cases_eq j b) [
            | inl same ↦ let e = ap (slice_index firsts) same in omega (arith, e, own.1, above)
            | inr differs ↦
                let up = rise heads (length heads) j b (omega (arith, low, differs))
                (omega (arith, below, total, last)) in
                omega (arith, up, own.1, above)
          ]
          | inr high ↦ elim (cases_eq j (b + 1)) [
            | inl same ↦ let e = ap (slice_index firsts) same in omega (arith, e, own.1, under)
            | inr differs ↦
                let up = rise heads (length heads) (b + 1) j (omega (arith, high, differs)) own.0 in
                omega (arith, up, own.1, under)
          ]
        ]

    module _ (b c : ℕ) (below : b < length blocks) where
      -- where its first node is, and its last one
      here : first_of size blocks b ≡ slice_index firsts b
      here = first_is b (omega (arith, below))

      node : c < count_of size blocks b → first_of size blocks b + c < size
      node within =
          let end = (first_marked (b + 1) (omega (arith, below))).0 in
          let many = count_is b below in
          omega (arith, end, here, many, within)

      straight : c + 1 < count_of size blocks b → IsMarked g heads (first_of size blocks b + c)
          → (goes g (first_of size blocks b + c) 0 ≡ first_of size blocks b + c + 1)
          × (goes g (first_of size blocks b + c) 1 ≡ first_of size blocks b + c + 1)
      straight more (inl on) = on
      straight more (inr jump) =
          let many = count_is b below in
          absurd (unmarked b (first_of size blocks b + c + 1) below (omega (arith, here))
          (omega (arith, here, many, more)) jump.0)

      module _ (full : c + 1 ≡ count_of size blocks b) where
        behind : first_of size blocks b + c + 1 ≡ slice_index firsts (b + 1)
        behind = let many = count_is b below in let up = rises b below in omega (arith, here, many, up, full)

        -- a goal that is marked is the first node of the block with its number
        goal_is : (h : ℕ) → h ≤ size → is_head heads h ≡ true
            → (slice_index numbers h ≤ length blocks) × (first_of size blocks (slice_index numbers h) ≡ h)
        goal_is h within head =
            let last = last_number.0 in
            let own = numbered heads (length heads) h (omega (arith, within, marked.count)) head in
            let number = told h (omega (arith, within, marked.count)) in
            let most : slice_index numbers h ≤ length blocks = omega (arith, number, own.0, total, last) in
            (most, first_is (slice_index numbers h) most ∙ ap (slice_index firsts) number ∙ own.1)

        marked_goal : (h : ℕ) → h ≡ first_of size blocks b + c + 1 → is_head heads h ≡ true
        marked_goal h same =
            let e : slice_index firsts (b + 1) ≡ h = sym (same ∙ behind) in
            subst (λ n. is_head heads n ≡ true) e (first_marked (b + 1) (omega (arith, below))).1

        goals_marked : IsMarked g heads (first_of size blocks b + c)
            → (is_head heads (goes g (first_of size blocks b + c) 0) ≡ true)
            × (is_head heads (goes g (first_of size blocks b + c) 1) ≡ true)
        goals_marked (inl on) = (marked_goal _ on.0, marked_goal _ on.1)
        goals_marked (inr jump) = (jump.1, jump.2)

        end_is : slice_index firsts (b + 1) - 1 ≡ first_of size blocks b + c
        end_is = omega (arith, behind)

        leaves : (way : ℕ) → goes_of size blocks b way ≡ slice_index numbers
            (goes g (slice_index firsts (b + 1) - 1) way)
        leaves zero = ap (λ (x : BasicBlock). x.next) (block_is b below)
        leaves (suc way) = ap (λ (x : BasicBlock). x.goal) (block_is b below)

        ends_at : (way : ℕ) → goes g (first_of size blocks b + c) way ≤ size
            → is_head heads (goes g (first_of size blocks b + c) way) ≡ true
            → (goes_of size blocks b way ≤ length blocks)
            × (first_of size blocks (goes_of size blocks b way) ≡ goes g (first_of size blocks b + c) way)
        ends_at way within head =
            let same = leaves way ∙ ap (λ n. slice_index numbers (goes g n way)) end_is in
            let goal = goal_is (goes g (first_of size blocks b + c) way) within head in
            (subst (λ n. n ≤ length blocks) (sym same) goal.0, ap (first_of size blocks) same ∙ goal.1)

        ends : ((goes_of size blocks b 0 ≤ length blocks)
            × (first_of size blocks (goes_of size blocks b 0) ≡ goes g (first_of size blocks b + c) 0))
            × ((goes_of size blocks b 1 ≤ length blocks)
            × (first_of size blocks (goes_of size blocks b 1) ≡ goes g (first_of size blocks b + c) 1))
        ends =
            let inside = node (omega (arith, full)) in
            let within = goes_within g is (first_of size blocks b + c) inside in
            let heads = goals_marked (marked.marked (first_of size blocks b + c) inside) in
            (ends_at 0 within.0 heads.0, ends_at 1 within.1 heads.1)

    some : (b : ℕ) → b < length blocks → 0 < count_of size blocks b
    some b below = let up = rises b below in let many = count_is b below in omega (arith, up, many)

    last_node : (b : ℕ) → b < length blocks → (count_of size blocks b - 1) + 1 ≡ count_of size blocks b
    last_node b below = let one = some b below in omega (arith, one)

    begins : first_of size blocks 0 ≡ 0
    begins =
        let own = numbered heads (length heads) 0 (omega (arith, marked.count)) marked.first in
        first_is 0 (omega arith) ∙ own.1

    pub are_blocks : AreBlocks size (goes g) blocks
    are_blocks = record {
      begins = begins;
      some = some;
      follows = follows;
      inside = λ b c below more. straight b c below more (marked.marked _ (node b c below (omega (arith, more))));
      next = λ b c below full. (ends b c below full).0.1;
      goal = λ b c below full. (ends b c below full).1.1;
      within = λ b below. let e = ends b (count_of size blocks b - 1) below (last_node b below) in (e.0.0, e.1.0);
    }

-- ---- one block after the other

module _ (g : Graph) (is : IsGraph g) (heads slice : List Bool) (same : slice ≡ heads) (marked : AreHeads g heads)
    (x : Numbering) (numbering : IsNumbering slice x)
    (firsts numbers : List ℕ) (f : firsts ≡ x.firsts) (n : numbers ≡ x.numbers) where
  numbered_heads : AreNumbered heads (length heads) firsts numbers
  numbered_heads =
      subst (λ xs. AreNumbered heads (length heads) firsts xs) (sym n)
      (subst (λ xs. AreNumbered heads (length heads) xs x.numbers) (sym f)
      (subst (λ xs. AreNumbered xs (length xs) x.firsts x.numbers) same numbering))

  pub many : 1 ≤ length firsts
  many =
      let own = numbered heads (length heads) 0 (omega (arith, marked.count)) marked.first in
      let long = ap length numbered_heads.are_firsts in
      omega (arith, own.0, long)

  pub at_rise : (number : ℕ) → 1 ≤ number → number < length firsts
      → slice_index firsts (number - 1) < slice_index firsts number
  at_rise number one below =
      let fs = numbered_heads.are_firsts in
      let long = ap length fs in
      let up = rise heads (length heads) (number - 1) number (omega (arith, one)) (omega (arith, below, long)) in
      let low = ap (λ xs. slice_index xs (number - 1)) fs in
      let high = ap (λ xs. slice_index xs number) fs in
      omega (arith, up, low, high)

  pub at_within : (number : ℕ) → number < length firsts → slice_index firsts number ≤ size_of g
  at_within number below =
      let fs = numbered_heads.are_firsts in
      let long = ap length fs in
      let m = are_marked heads (length heads) number (omega (arith, below, long)) in
      let at = ap (λ xs. slice_index xs number) fs in
      omega (arith, m.0, at, marked.count)

  pub all_made : (blocks : List BasicBlock) (number : ℕ) → AreMade g firsts numbers (number - 1) blocks
      → length firsts ≤ number → number ≤ length firsts
      → AreBlocks (size_of g) (goes g) blocks
  all_made blocks number made ge le =
      let whole : number ≡ length firsts = omega (arith, ge, le) in
      are_blocks g is heads marked numbers numbered_heads.are_numbers blocks
      (subst (λ xs. AreMade g xs numbers (length xs - 1) blocks) numbered_heads.are_firsts
      (subst (λ k. AreMade g firsts numbers (k - 1) blocks) whole made))

pub none_made : (g : Graph) (firsts numbers : List ℕ) → AreMade g firsts numbers 0 []
none_made g firsts numbers = record { count = refl; each = λ b below. absurd (omega (arith, below)) }

pub made_on : (g : Graph) (firsts numbers : List ℕ) (number : ℕ) (blocks longer : List BasicBlock) (block : BasicBlock)
    → 1 ≤ number
    → AreMade g firsts numbers (number - 1) blocks → block ≡ block_from g numbers (slice_index firsts (number - 1))
    (slice_index firsts number)
    → longer ≡ blocks ++ block ∷ [] → AreMade g firsts numbers (number + 1 - 1) longer
made_on g firsts numbers number blocks longer block one made is pushed =
    let long : length longer ≡ length blocks + 1 = ap length pushed ∙ length-append blocks (block ∷ []) in
    record {
      count = omega (arith, long, made.count, one);
      each = λ b below. elim (cases_eq b (number - 1)) [
        | inl same ↦
            let next : number ≡ b + 1 = omega (arith, same, one) in
            let at : b ≡ length blocks = same ∙ sym made.count in
            ap (λ xs. slice_get xs b) pushed ∙ ap (slice_get (blocks ++ block ∷ [])) at ∙ slice_get_seam blocks block
            ∙ ap (λ (y : BasicBlock). Some y)
            (is ∙ ap (λ k. block_from g numbers (slice_index firsts k) (slice_index firsts number)) (sym same)
            ∙ ap (λ k. block_from g numbers (slice_index firsts b) (slice_index firsts k)) next)
        | inr differs ↦
            ap (λ xs. slice_get xs b) pushed ∙ slice_get-append_first blocks (block ∷ []) b
            (omega (arith, below, differs, made.count))
            ∙ made.each b (omega (arith, below, differs))
      ];
    } where
      slice_get_seam : (xs : List BasicBlock) (y : BasicBlock) → slice_get (xs ++ y ∷ []) (length xs) ≡ Some y
      slice_get_seam xs y =
          let long = length-append xs (y ∷ []) in
          slice_get-get_or (xs ++ y ∷ []) (length xs) y (omega (arith, long))
          ∙ ap (λ (z : BasicBlock). Some z) (get_or-append_seam xs y [] y)
