-- Which nodes begin a basic block, and how they are numbered.
use Rattle.std.specs.Prelude.{◌≡◌, ◌⊎◌, ℕ, zero, suc, ◌+◌, ◌-◌, ◌<◌, Some, slice_get, List, [], ◌∷◌, ◌++◌, length, Bool, true, false, if◌then◌else◌, slice_index, slice_index_or}
use Rattle.asm_core.specs.declared.lines.Graph.{Graph}
use Rattle.blk_deps.specs.Ways.{size_of, goes}
use Rattle.blk_deps.specs.declared.blocks.BasicBlock.{BasicBlock}
use Rattle.blk_deps.specs.declared.blocks.Numbering.{Numbering}

abbrev pub is_head : List Bool → ℕ → Bool
is_head heads n = slice_index_or heads n false

-- node n goes on at the next one alone, or else that and its goals are marked
abbrev pub IsMarked : Graph → List Bool → ℕ → Type 0
IsMarked g heads n =
    ((goes g n 0 ≡ n + 1) × (goes g n 1 ≡ n + 1))
    ⊎ ((is_head heads (n + 1) ≡ true) × (is_head heads (goes g n 0) ≡ true) × (is_head heads (goes g n 1) ≡ true))

pub record MarksHeads (g : Graph) (n : ℕ) (old new : List Bool) : Type 0 where
  pub count : length new ≡ length old
  pub kept : (m : ℕ) → is_head old m ≡ true → is_head new m ≡ true
  pub marked : IsMarked g new n

-- node 0 and the end are marked, and of the first n nodes each goal of a jump and what follows a jump
pub record AreHeadsTo (g : Graph) (n : ℕ) (heads : List Bool) : Type 0 where
  pub count : length heads ≡ size_of g + 1
  pub first : is_head heads 0 ≡ true
  pub last : is_head heads (size_of g) ≡ true
  pub marked : (m : ℕ) → m < n → IsMarked g heads m

abbrev pub AreHeads : Graph → List Bool → Type 0
AreHeads g = AreHeadsTo g (size_of g)

-- a list with a number behind it, if it is to be
abbrev pub grown : Bool → List ℕ → ℕ → List ℕ
grown b xs k = if b then xs ++ k ∷ [] else xs

-- those that are marked below n, upwards
abbrev pub firsts_to : List Bool → ℕ → List ℕ
firsts_to heads zero = []
firsts_to heads (suc n) = grown (is_head heads n) (firsts_to heads n) n

-- how many are marked before node n
abbrev pub number_of : List Bool → ℕ → ℕ
number_of heads n = length (firsts_to heads n)

-- the first n nodes are numbered
pub record AreNumbered (heads : List Bool) (n : ℕ) (firsts numbers : List ℕ) : Type 0 where
  pub are_firsts : firsts ≡ firsts_to heads n
  pub count : length numbers ≡ n
  pub are_numbers : (m : ℕ) → m < n → slice_index numbers m ≡ number_of heads m

abbrev pub IsNumbering : List Bool → Numbering → Type 0
IsNumbering heads x = AreNumbered heads (length heads) x.firsts x.numbers

-- the block between two nodes that begin one
abbrev pub block_from : Graph → List ℕ → ℕ → ℕ → BasicBlock
block_from g numbers first end = record {
  first = first;
  count = end - first;
  next = slice_index numbers (goes g (end - 1) 0);
  goal = slice_index numbers (goes g (end - 1) 1);
}

-- the first n blocks
pub record AreMade (g : Graph) (firsts numbers : List ℕ) (n : ℕ) (blocks : List BasicBlock) : Type 0 where
  pub count : length blocks ≡ n
  pub each : (b : ℕ) → b < n → slice_get blocks b
      ≡ Some (block_from g numbers (slice_index firsts b) (slice_index firsts (b + 1)))
