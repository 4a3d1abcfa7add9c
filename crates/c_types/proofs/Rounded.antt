-- The least multiple of an alignment from a number on.
use Rattle.std.proofs.Common.{◌≡◌, ℕ, zero, suc, ◌+◌, ◌%◌, ◌≤◌, ◌<◌, arith}
use Rattle.std.specs.Int.{next_multiple_of}
use Rattle.c_types.specs.Extents.{IsAlignment}

alignment_cases : (P : ℕ → Type 0) → P 1 → P 2 → P 3 → P 4 → (a : ℕ) → IsAlignment a → P a
alignment_cases P p1 p2 p3 p4 zero h = absurd (omega arith)
alignment_cases P p1 p2 p3 p4 (suc zero) h = p1
alignment_cases P p1 p2 p3 p4 (suc (suc zero)) h = p2
alignment_cases P p1 p2 p3 p4 (suc (suc (suc zero))) h = p3
alignment_cases P p1 p2 p3 p4 (suc (suc (suc (suc zero)))) h = p4
alignment_cases P p1 p2 p3 p4 (suc (suc (suc (suc (suc a))))) h = absurd (omega arith)

pub le-next_multiple : (n align : ℕ) → n ≤ next_multiple_of n align
le-next_multiple n align = omega arith

pub next_multiple-lt : (n align : ℕ) → IsAlignment align → next_multiple_of n align < n + 4
next_multiple-lt n = alignment_cases (λ align. next_multiple_of n align < n + 4) (omega arith) (omega arith) (omega arith) (omega arith)

pub next_multiple-mod : (n align : ℕ) → IsAlignment align → next_multiple_of n align % align ≡ 0
next_multiple-mod n = alignment_cases (λ align. next_multiple_of n align % align ≡ 0) (omega arith) (omega arith) (omega arith) (omega arith)

pub next_multiple-least : (n m align : ℕ) → IsAlignment align → n ≤ m → m % align ≡ 0 → next_multiple_of n align ≤ m
next_multiple-least n m =
    alignment_cases (λ align. n ≤ m → m % align ≡ 0 → next_multiple_of n align ≤ m)
    (λ le multiple. omega arith) (λ le multiple. omega arith) (λ le multiple. omega arith) (λ le multiple. omega arith)
