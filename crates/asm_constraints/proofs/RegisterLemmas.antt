-- The letters of an alternative stand for some of the seven registers.
use Rattle.std.proofs.Common.{ℕ, ◌<◌, ◌^◌, List, [], ◌∷◌, fold, bit_or, arith}
use Rattle.std.proofs.lemmas.Nat.{or_lt}
use Rattle.asm_core.specs.Interface.{letter_bits, symbol_bits, registers_of}
use Rattle.asm_core.specs.declared.reg.Reg.{Reg}
use Rattle.asm_core.specs.declared.reg.Reg.TheVariants.{Eax, Ebx, Ecx, Edx, Esi, Edi, Ebp}
use Rattle.asm_core.specs.declared.constraint.Letter.{Letter}
use Rattle.asm_core.specs.declared.constraint.Letter.TheVariants as letters
use Rattle.asm_core.specs.declared.constraint.Symbol.{Symbol}
use Rattle.asm_core.specs.declared.constraint.Symbol.TheVariants as symbols

below_letter : (l : Letter) → letter_bits l < 2 ^ 7
below_letter (letters.One Eax) = omega arith
below_letter (letters.One Ebx) = omega arith
below_letter (letters.One Ecx) = omega arith
below_letter (letters.One Edx) = omega arith
below_letter (letters.One Esi) = omega arith
below_letter (letters.One Edi) = omega arith
below_letter (letters.One Ebp) = omega arith
below_letter letters.Pair = omega arith
below_letter letters.ByteRegister = omega arith
below_letter letters.AnyRegister = omega arith
below_letter letters.Memory = omega arith
below_letter letters.Number = omega arith
below_letter letters.WordShift = omega arith
below_letter letters.LongShift = omega arith
below_letter letters.SignedByte = omega arith
below_letter letters.AddressShift = omega arith
below_letter letters.UnsignedByte = omega arith
below_letter letters.General = omega arith

below_symbol : (s : Symbol) → symbol_bits s < 2 ^ 7
below_symbol (symbols.Letter letter) = below_letter letter
below_symbol symbols.Early = omega arith
below_symbol (symbols.Tie output) = omega arith
below_symbol symbols.Sign = omega arith
below_symbol symbols.Other = omega arith

below_all : (alternative : List Symbol) (bits : ℕ) → bits < 2 ^ 7 → fold (λ bits s. bit_or bits (symbol_bits s)) bits alternative < 2 ^ 7
below_all [] bits below = below
below_all (s ∷ ss) bits below = below_all ss (bit_or bits (symbol_bits s)) (or_lt 7 bits (symbol_bits s) below (below_symbol s))

pub registers_of-below : (alternative : List Symbol) → (registers_of alternative).0 < 128
unfolding registers_of
registers_of-below alternative = below_all alternative 0 (omega arith)
