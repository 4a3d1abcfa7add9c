-- A step that is repeated along the tokens of a file.
use Rattle.std.specs.Prelude.{ℕ, zero, suc, ◌+◌, ◌-◌, nat_lt, if◌then◌else◌}
use Rattle.c_reader.specs.declared.next.Next.{Next}
use Rattle.c_reader.specs.declared.next.Next.TheVariants.{Done, More}

-- From the index i on, of which `left` are left; those before `until` are passed over. Behind the last token `stop` has the result.
unfoldable pub repeated_from : {S R : Type 0} → (ℕ → S → Next S R) → (ℕ → S → R) → ℕ → ℕ → ℕ → S → R
repeated_from step stop zero until i s = stop until s
repeated_from step stop (suc left) until i s =
    if nat_lt i until then repeated_from step stop left until (i + 1) s
    else elim (step i s) [
      | Done r ↦ r
      | More s' j ↦ repeated_from step stop left j (i + 1) s'
    ]

-- The step is taken at the index i, and again at each index to which it leads, up to one that ends it; there are `count` tokens.
abbrev pub repeated : {S R : Type 0} → (ℕ → S → Next S R) → (ℕ → S → R) → ℕ → ℕ → S → R
repeated step stop count i s = repeated_from step stop (count - i) i i s
