-- Basic blocks: nodes that follow one another, of which only the first is entered from elsewhere, and only the last
-- goes on elsewhere.
use Rattle.std.specs.Prelude.{◌≡◌, ℕ, zero, suc, ◌+◌, ◌<◌, ◌≤◌, List, length, Bool, slice_index_or}
use Rattle.blk_deps.specs.declared.blocks.BasicBlock.{BasicBlock}

-- behind the last block, where a graph of so many nodes ends
abbrev end_block : ℕ → BasicBlock
end_block size = record { first = size; count = 0; next = 0; goal = 0 }

abbrev pub block_in : ℕ → List BasicBlock → ℕ → BasicBlock
block_in size blocks b = slice_index_or blocks b (end_block size)

-- the first node of a block, and the end of the graph behind the last block
abbrev pub first_of : ℕ → List BasicBlock → ℕ → ℕ
first_of size blocks b = (block_in size blocks b).first

abbrev pub count_of : ℕ → List BasicBlock → ℕ → ℕ
count_of size blocks b = (block_in size blocks b).count

-- the block to which a way goes
abbrev pub goes_of : ℕ → List BasicBlock → ℕ → ℕ → ℕ
goes_of size blocks b zero = (block_in size blocks b).next
goes_of size blocks b (suc way) = (block_in size blocks b).goal

-- The basic blocks of a graph of so many nodes, two ways on from each.
pub record AreBlocks (size : ℕ) (goes : ℕ → ℕ → ℕ) (blocks : List BasicBlock) : Type 0 where
  pub begins : first_of size blocks 0 ≡ 0
  pub some : (b : ℕ) → b < length blocks → 0 < count_of size blocks b
  pub follows : (b : ℕ) → b < length blocks → first_of size blocks (b + 1)
      ≡ first_of size blocks b + count_of size blocks b
  pub inside : (b c : ℕ) → b < length blocks → c + 1 < count_of size blocks b
      → (goes (first_of size blocks b + c) 0 ≡ first_of size blocks b + c + 1)
      × (goes (first_of size blocks b + c) 1 ≡ first_of size blocks b + c + 1)
  pub next : (b c : ℕ) → b < length blocks → c + 1 ≡ count_of size blocks b
      → first_of size blocks (goes_of size blocks b 0) ≡ goes (first_of size blocks b + c) 0
  pub goal : (b c : ℕ) → b < length blocks → c + 1 ≡ count_of size blocks b
      → first_of size blocks (goes_of size blocks b 1) ≡ goes (first_of size blocks b + c) 1
  pub within : (b : ℕ) → b < length blocks
      → (goes_of size blocks b 0 ≤ length blocks) × (goes_of size blocks b 1 ≤ length blocks)

-- the facts behind so many nodes from that one on, of those before it
abbrev pub facts_through : {F : Type 0} → (ℕ → (F → Bool) → F → Bool) → ℕ → ℕ → (F → Bool) → F → Bool
facts_through after first zero facts = facts
facts_through after first (suc count) facts = after (first + count) (facts_through after first count facts)

-- those behind a whole block
abbrev pub facts_behind : {F : Type 0} → ℕ → List BasicBlock → (ℕ → (F → Bool) → F → Bool) → ℕ → (F → Bool) → F → Bool
facts_behind size blocks after b = facts_through after (first_of size blocks b) (count_of size blocks b)
