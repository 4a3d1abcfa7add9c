-- Where every place in a byte of a register has its own value of the entry, the byte is the entry's.
use Rattle.std.proofs.Common.{◌≡◌, ℕ, ◌/◌, ◌%◌, ◌^◌, ◌<◌, true, sym, ap, ◌∙◌, arith}
use Rattle.asm_core.specs.RowLaws as laws
use Rattle.blk_deps.specs.Cells.{place_of, byte_of}
use Rattle.blk_deps.specs.Facts.{Facts}
use Rattle.blk_frame.specs.World.{Placed, World, is_register_byte, in_register_byte}
use Rattle.blk_frame.specs.Matches.{IsKept, IsShadowed, Matches, IsBeside, HasTop}

module _ (x : Placed) (entry : World) (shadowed : IsShadowed x entry) (s : Facts) (w : World)
    (matches : Matches x entry s w) where
  pub kept_value : (c : ℕ) → IsKept x s c → w.cells c ≡ entry.cells c
  kept_value c kept = matches.copies c c kept.good kept.own

  pub kept_byte : HasTop x s → (c : ℕ) → is_register_byte x c ≡ true → ((d : ℕ) → IsBeside x c d → IsKept x s d)
      → in_register_byte x c w ≡ in_register_byte x c entry
  kept_byte tops c is kept =
      let top = tops.each c is in
      let d = top.0 in
      let beside = top.1 in
      let same_in : (v : World) → in_register_byte x c v ≡ in_register_byte x d v = λ v. ap
      (λ q. v.registers q (byte_of c)) (sym beside.register)
      ∙ ap (v.registers (x.register_of (place_of d))) (sym beside.byte) in
      same_in w ∙ matches.intact d beside.in_register top.2 ∙ kept_value d (kept d beside)
      ∙ shadowed.each d beside.in_register ∙ sym (same_in entry)

-- a number of 32 bits is its four bytes
pub same_bytes : (v w : ℕ) → v < 2 ^ 32 → w < 2 ^ 32 → ((b : ℕ) → b < 4 → laws.byte_of b v ≡ laws.byte_of b w) → v ≡ w
same_bytes v w fits other same = from_four (same 0 (omega arith)) (same 1 (omega arith)) (same 2 (omega arith))
    (same 3 (omega arith))
  where
    from_four : v % 256 ≡ w % 256 → v / 256 % 256 ≡ w / 256 % 256 → v / 65536 % 256 ≡ w / 65536 % 256
        → v / 16777216 % 256 ≡ w / 16777216 % 256 → v ≡ w
    from_four a b c d = omega (arith, fits, other, a, b, c, d)
