-- The targets of operands one by one, and the table of names.
use Rattle.std.proofs.Common.{◌≡◌, ◌∙◌, map, ◌<◌, ◌≤◌, ◌+◌, ℕ, List, [], ◌∷◌, ◌++◌, length, drop, get_or, Option, None, Some, refl, append_assoc}
use Rattle.std.proofs.lemmas.List.{drop_more, drop_all, append-nil}
use Rattle.asm_core.specs.Reading.Line.{label_in, line_of, target_in}
use Rattle.asm_core.specs.Reading.Names.{names}
use Rattle.asm_core.specs.declared.lines.JumpTarget.{JumpTarget}
use Rattle.asm_core.specs.declared.names.Prefix.{Prefix}
use Rattle.asm_core.specs.declared.reading.Atom.{Atom}
use Rattle.asm_core.specs.declared.reading.LineOperand.{LineOperand}
use Rattle.att_reader.proofs.Names.{names-same}
use Rattle.att_reader.specs.Table.{row_of}
use Rattle.att_reader.specs.declared.table.TheConstants.{NAMES}

pub target_found : (ts : List JumpTarget) (n : ℕ) (os : List LineOperand) (i : ℕ) (d : LineOperand) (goal : Option ℕ)
    → i < length os → label_in (get_or os i d) ≡ Some goal
    → ts ++ target_in n (drop i os) ≡ (ts ++ record { inst = n; goal = goal } ∷ []) ++ target_in n (drop (i + 1) os)
target_found ts n os i d goal lt e = rw (drop_more os i d lt, e, append_assoc) refl

pub target_passed : (n : ℕ) (os : List LineOperand) (i : ℕ) (d : LineOperand) → i < length os
    → label_in (get_or os i d) ≡ None → target_in n (drop i os) ≡ target_in n (drop (i + 1) os)
target_passed n os i d lt e = rw (drop_more os i d lt, e) refl

pub target_none : (n : ℕ) (os : List LineOperand) (i : ℕ) → length os ≤ i → target_in n (drop i os) ≡ []
target_none n os i le = rw (drop_all i os le) refl

pub ruleset target_steps = (target_found, target_passed, target_none, append-nil)

pub line_named : (goal : List ℕ → Option (Option ℕ)) (before : List Prefix) (place : ℕ) (xs : List Atom)
    → line_of (map row_of NAMES) goal before place xs ≡ line_of names goal before place xs
line_named goal before place xs = rw names-same refl

pub ruleset table_steps = (line_named)
