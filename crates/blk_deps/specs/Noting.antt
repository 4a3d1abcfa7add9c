-- The least line at which each rule is broken, as lines come in: 0 where none has come.
use Rattle.std.specs.Prelude.{◌≡◌, ◌≢◌, ◌⊎◌, ℕ, ◌==◌, ◌||◌, ◌<◌, ◌≤◌, nat_lt, Bool, true, List, [], ◌∷◌, map, length, Option, None, Some, slice_get, slice_index, slice_set, if◌then◌else◌}
use Rattle.asm_core.specs.declared.finding.Finding.{Finding}
use Rattle.blk_deps.specs.Findings.{finding_of, IsLeast}
use Rattle.blk_deps.specs.StackTable.{IsLeastOf as IsLeastIn}
use Rattle.blk_deps.specs.declared.violation.Violation.{Violation}

-- ---- entries

-- The entry becomes the least of what it was and of these lines.
pub record IsLeastOf (P : ℕ → Type 0) (old new : ℕ) : Type 0 where
  pub from : new ≢ 0 → (new ≡ old) ⊎ P new
  pub kept : old ≢ 0 → (new ≢ 0) × (new ≤ old)
  pub least : (line : ℕ) → P line → (new ≢ 0) × (new ≤ line)

-- The entries of the first of these violations do, so many; the others stay.
pub record IsNotedTo (P : Violation → ℕ → Type 0) (violations : List Violation) (count : ℕ) (old new : List ℕ) : Type 0 where
  pub same_length : length new ≡ length old
  pub each : (t : ℕ) (v : Violation) → t < count → slice_get violations t ≡ Some v → IsLeastOf (P v) (slice_index old t) (slice_index new t)
  pub rest : (t : ℕ) → count ≤ t → slice_index new t ≡ slice_index old t

-- The entries of all do.
pub record IsNoted (P : Violation → ℕ → Type 0) (violations : List Violation) (old new : List ℕ) : Type 0 where
  pub count : length new ≡ length old
  pub each : (t : ℕ) (v : Violation) → slice_get violations t ≡ Some v → IsLeastOf (P v) (slice_index old t) (slice_index new t)

-- what is broken on that line alone
abbrev pub BreaksOn : (Violation → Bool) → ℕ → Violation → ℕ → Type 0
BreaksOn test line v at = (at ≡ line) × (test v ≡ true)

abbrev pub is_earlier : ℕ → ℕ → Bool
is_earlier line entry = entry == 0 || nat_lt line entry

abbrev pub entered : Bool → ℕ → ℕ → List ℕ → List ℕ
entered broken t line lines = if broken then slice_set lines t line else lines

-- ---- lists

-- the line of an entry
abbrev pub line_of : ℕ → Option ℕ
line_of entry = if entry == 0 then None else Some entry

abbrev pub with_finding : Violation → Option ℕ → List Finding → List Finding
with_finding v None found = found
with_finding v (Some line) found = finding_of v line ∷ found

-- the findings of the violations that have a line
abbrev pub findings_at : List Violation → List (Option ℕ) → List Finding
findings_at (v ∷ vs) (line ∷ lines) = with_finding v line (findings_at vs lines)
findings_at vs lines = []

-- those of entries
abbrev pub listed_of : List Violation → List ℕ → List Finding
listed_of violations entries = findings_at violations (map line_of entries)

-- each line is the least on which the rule is broken, if there is any
pub record AreLeast (Broken : Violation → ℕ → Type 0) (violations : List Violation) (lines : List (Option ℕ)) : Type 0 where
  pub count : length lines ≡ length violations
  pub each : (t : ℕ) (v : Violation) (line : Option ℕ) → slice_get violations t ≡ Some v → slice_get lines t ≡ Some line → IsLeastIn (Broken v) line
