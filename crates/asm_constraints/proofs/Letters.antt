-- Each constraint letter for values of 1, 2, 4 and 8 bytes (GCC manual, "Simple Constraints", "Machine Constraints" for x86),
-- worked out by hand.
use Rattle.std.proofs.Common.{◌≡◌, ℕ, ℤ, pos, negsuc, List, [], ◌∷◌, map, codes, Bool, true, false, None, Some, refl}
use Rattle.asm_core.specs.Reg.{no_regs}
use Rattle.asm_core.specs.Constraint.{alternatives_in, symbols_from, symbol_at, byte_symbol, letter_of}
use Rattle.asm_core.specs.Size.{is_broken_pair, is_broken_word}
use Rattle.asm_core.specs.Interface.{alternative_of, registers_of, range_of, numbers_of, tie_of}
use Rattle.asm_core.specs.declared.constraint.ConstrainedOperand.{ConstrainedOperand}
use Rattle.asm_core.specs.declared.interface.AltIface.{AltIface}
use Rattle.asm_core.specs.declared.interface.Role.{Role}

-- what an input of that size is allowed by the text of one alternative
abbrev allowed : ℕ → List ℕ → AltIface
allowed size text = alternative_of false size None (symbols_from [] 0 text)

abbrev nothing : AltIface
nothing = record { early = false; tied = None; regs = no_regs; pair = false; mem = false; numbers = None }

abbrev registers : ℕ → AltIface
registers bits = record nothing { regs = record { 0 = bits } }

abbrev memory : AltIface
memory = record nothing { mem = true }

abbrev numbers : ℤ → ℤ → AltIface
numbers low high = record nothing { numbers = Some (low, high) }

abbrev anything : ℤ → ℤ → AltIface
anything low high = record nothing { regs = record { 0 = 127 }; mem = true; numbers = Some (low, high) }

of_1 :
    map (allowed 1)
    (codes "a"
    ∷ codes "b"
    ∷ codes "c"
    ∷ codes "d"
    ∷ codes "S"
    ∷ codes "D"
    ∷ codes "q"
    ∷ codes "Q"
    ∷ codes "r"
    ∷ codes "m"
    ∷ codes "i"
    ∷ codes "n"
    ∷ codes "I"
    ∷ codes "J"
    ∷ codes "K"
    ∷ codes "M"
    ∷ codes "N"
    ∷ codes "g"
    ∷ [])
    ≡ registers 1
    ∷ registers 2
    ∷ registers 4
    ∷ registers 8
    ∷ registers 16
    ∷ registers 32
    ∷ registers 15
    ∷ registers 15
    ∷ registers 127
    ∷ memory
    ∷ numbers (negsuc 127) (pos 127)
    ∷ numbers (negsuc 127) (pos 127)
    ∷ numbers (pos 0) (pos 31)
    ∷ numbers (pos 0) (pos 63)
    ∷ numbers (negsuc 127) (pos 127)
    ∷ numbers (pos 0) (pos 3)
    ∷ numbers (pos 0) (pos 127)
    ∷ anything (negsuc 127) (pos 127)
    ∷ []
unfolding symbols_from symbol_at byte_symbol letter_of alternative_of tie_of registers_of range_of numbers_of
of_1 = refl

of_2 :
    map (allowed 2)
    (codes "a"
    ∷ codes "b"
    ∷ codes "c"
    ∷ codes "d"
    ∷ codes "S"
    ∷ codes "D"
    ∷ codes "q"
    ∷ codes "Q"
    ∷ codes "r"
    ∷ codes "m"
    ∷ codes "i"
    ∷ codes "n"
    ∷ codes "I"
    ∷ codes "J"
    ∷ codes "K"
    ∷ codes "M"
    ∷ codes "N"
    ∷ codes "g"
    ∷ [])
    ≡ registers 1
    ∷ registers 2
    ∷ registers 4
    ∷ registers 8
    ∷ registers 16
    ∷ registers 32
    ∷ registers 15
    ∷ registers 15
    ∷ registers 127
    ∷ memory
    ∷ numbers (negsuc 32767) (pos 32767)
    ∷ numbers (negsuc 32767) (pos 32767)
    ∷ numbers (pos 0) (pos 31)
    ∷ numbers (pos 0) (pos 63)
    ∷ numbers (negsuc 127) (pos 127)
    ∷ numbers (pos 0) (pos 3)
    ∷ numbers (pos 0) (pos 255)
    ∷ anything (negsuc 32767) (pos 32767)
    ∷ []
unfolding symbols_from symbol_at byte_symbol letter_of alternative_of tie_of registers_of range_of numbers_of
of_2 = refl

of_4 :
    map (allowed 4)
    (codes "a"
    ∷ codes "b"
    ∷ codes "c"
    ∷ codes "d"
    ∷ codes "S"
    ∷ codes "D"
    ∷ codes "q"
    ∷ codes "Q"
    ∷ codes "r"
    ∷ codes "m"
    ∷ codes "i"
    ∷ codes "n"
    ∷ codes "I"
    ∷ codes "J"
    ∷ codes "K"
    ∷ codes "M"
    ∷ codes "N"
    ∷ codes "g"
    ∷ [])
    ≡ registers 1
    ∷ registers 2
    ∷ registers 4
    ∷ registers 8
    ∷ registers 16
    ∷ registers 32
    ∷ registers 15
    ∷ registers 15
    ∷ registers 127
    ∷ memory
    ∷ numbers (negsuc 2147483647) (pos 2147483647)
    ∷ numbers (negsuc 2147483647) (pos 2147483647)
    ∷ numbers (pos 0) (pos 31)
    ∷ numbers (pos 0) (pos 63)
    ∷ numbers (negsuc 127) (pos 127)
    ∷ numbers (pos 0) (pos 3)
    ∷ numbers (pos 0) (pos 255)
    ∷ anything (negsuc 2147483647) (pos 2147483647)
    ∷ []
unfolding symbols_from symbol_at byte_symbol letter_of alternative_of tie_of registers_of range_of numbers_of
of_4 = refl

the_pair : allowed 8 (codes "A") ≡ record nothing { pair = true }
unfolding symbols_from symbol_at byte_symbol letter_of alternative_of tie_of registers_of range_of numbers_of
the_pair = refl

of_8_in_memory : allowed 8 (codes "m") ≡ memory
unfolding symbols_from symbol_at byte_symbol letter_of alternative_of tie_of registers_of range_of numbers_of
of_8_in_memory = refl

-- an input with that constraint
abbrev input : List ℕ → ConstrainedOperand
input text = record {
  number = 0;
  output = false;
  role = Role.In;
  flag = None;
  alternatives = alternatives_in [] text;
  constraint = 0;
  expression = 0;
  typed = None;
}

-- every letter but `A` and `m` puts an operand of 8 bytes outside the tables
no_other_of_8 :
    map (λ text. is_broken_word (input text) 8)
    (codes "a"
    ∷ codes "b"
    ∷ codes "c"
    ∷ codes "d"
    ∷ codes "S"
    ∷ codes "D"
    ∷ codes "q"
    ∷ codes "Q"
    ∷ codes "r"
    ∷ codes "i"
    ∷ codes "n"
    ∷ codes "I"
    ∷ codes "J"
    ∷ codes "K"
    ∷ codes "M"
    ∷ codes "N"
    ∷ codes "g"
    ∷ codes "m"
    ∷ codes "A"
    ∷ [])
    ≡ true
    ∷ true
    ∷ true
    ∷ true
    ∷ true
    ∷ true
    ∷ true
    ∷ true
    ∷ true
    ∷ true
    ∷ true
    ∷ true
    ∷ true
    ∷ true
    ∷ true
    ∷ true
    ∷ true
    ∷ false
    ∷ false
    ∷ []
unfolding alternatives_in symbols_from symbol_at byte_symbol letter_of is_broken_word
no_other_of_8 = refl

-- and `A` one of another size
no_pair_of : map (is_broken_pair (input (codes "A"))) (1 ∷ 2 ∷ 4 ∷ 8 ∷ []) ≡ true ∷ true ∷ true ∷ false ∷ []
unfolding alternatives_in symbols_from symbol_at byte_symbol letter_of is_broken_pair
no_pair_of = refl
