-- What the steps of the search do with its rows and marks.
use Rattle.std.specs.Prelude.{◌≡◌, ◌≢◌, ℕ, ◌+◌, ◌*◌, ◌<◌, ◌≤◌, ◌||◌, List, length, Bool, true, false, slice_index, slice_index_or, slice_set}
use Rattle.std.specs.List.{sum_by}
use Rattle.dataflow.specs.declared.work.Work.{Work}
use Rattle.dataflow.specs.Bits.{facts_in, row_of}
use Rattle.dataflow.specs.Joining.{room, one_if}

-- the row of node j; that of the end has the number of nodes
abbrev pub row_in : Work → ℕ → List ℕ
row_in work j = row_of work.rows.width work.rows.words.items j

-- the facts in the rows
abbrev pub found_in : {F : Type 0} → (F → ℕ) → Work → ℕ → F → Bool
found_in number work j fact = facts_in (row_in work j) (number fact)

-- made for so many nodes and for rows of so many words
abbrev pub IsWorkFor : ℕ → ℕ → Work → Type 0
IsWorkFor size width work = (length work.pending.items ≡ size) × (work.rows.width ≡ width)

-- node i is to be visited
abbrev pub is_pending : Work → ℕ → Bool
is_pending work i = slice_index_or work.pending.items i false

-- what falls with each visit
abbrev pub left_to_do : Work → ℕ
left_to_do work = 2 * room work.rows.words.items + sum_by one_if work.pending.items

pub record IsSameShape (old new : Work) : Type 0 where
  pub width : new.rows.width ≡ old.rows.width
  pub words : length new.rows.words.items ≡ length old.rows.words.items
  pub nodes : length new.pending.items ≡ length old.pending.items

-- no fact stands in any row, and no node is to be visited
pub record IsBlank (work : Work) : Type 0 where
  pub rows : (j n : ℕ) → facts_in (row_in work j) n ≡ false
  pub pending : (i : ℕ) → is_pending work i ≡ false

-- node `at` is no longer to be visited, and `next` is its row
pub record Takes (at : ℕ) (old new : Work) : Type 0 where
  pub rows : new.rows ≡ old.rows
  pub pending : new.pending.items ≡ slice_set old.pending.items at false
  pub next : new.next.items ≡ row_in old at

-- the facts of `next` are joined to the row of node `to`, which is to be visited if it grew
pub record Flows (to : ℕ) (old new : Work) : Type 0 where
  pub shape : IsSameShape old new
  pub next : new.next.items ≡ old.next.items
  pub each : (n : ℕ) → facts_in (row_in new to) n ≡ (facts_in (row_in old to) n || facts_in old.next.items n)
  pub others : (j : ℕ) → j ≢ to → row_in new j ≡ row_in old j
  pub kept : (i : ℕ) → is_pending old i ≡ true → is_pending new i ≡ true
  pub noted : (i : ℕ) → i < length old.pending.items → is_pending new i ≡ false → row_in new i ≡ row_in old i
  pub left : left_to_do new ≤ left_to_do old

-- they flow to the goals of both ways
pub record FlowsAlong (goals : List ℕ) (old new : Work) : Type 0 where
  pub between : Work
  pub first : Flows (slice_index goals 0) old between
  pub second : Flows (slice_index goals 1) between new
