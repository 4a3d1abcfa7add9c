-- One step of what collects names, and where the bodies of instructions come from.
use Rattle.std.proofs.Common.{◌≡◌, ℕ, ◌+◌, ◌<◌, ◌==◌, true, false, bit_or, ◌^◌, List, ◌∷◌, length, take, drop, get_or, Option, None, Some, refl, ◌∙◌, arith}
use Rattle.std.proofs.lemmas.List.{drop_more, drop_all}
use Rattle.std.proofs.lemmas.Bool.Decides.{nat_tests}
use Rattle.std.proofs.lemmas.Nat.Bits.{bit_at_or, same_from_bits}
use Rattle.std.specs.Int.Bits.{or_zero_r}
use Rattle.std.specs.List.{prefix_len}
use Rattle.asm_core.specs.Pieces.{NamesOneOf}
use Rattle.asm_core.specs.Reading.Cut.{is_word}
use Rattle.asm_core.specs.Reading.Written.{register_named}
use Rattle.asm_core.specs.Reading.Line.{set_of, written_registers, hole_bits}
use Rattle.asm_core.specs.declared.reading.Atom.{Atom}
use Rattle.asm_core.specs.declared.reg.Reg.{Reg}
use Rattle.asm_core.specs.declared.reg.Slice.{Slice}
use Rattle.asm_core.specs.declared.piece.Piece.{Piece}
use Rattle.att_reader.specs.Named.{HolesBelow, register_bit, named_bit, hole_bit}

pub or_assoc : (a b c : ℕ) → bit_or (bit_or a b) c ≡ bit_or a (bit_or b c)
or_assoc a b c = same_from_bits (bit_or (bit_or a b) c) (bit_or a (bit_or b c)) (λ i. rw (bit_at_or (bit_or a b) c i, bit_at_or a b i, bit_at_or a (bit_or b c) i, bit_at_or b c i) (omega arith))

onto_set : (o : Option (Reg × Slice)) (others : List Reg) → set_of (elim o [ None ↦ others | Some r ↦ r.0 ∷ others ]) ≡ bit_or (register_bit o) (set_of others)
onto_set None others = refl
onto_set (Some r) others = refl

pub written_register : (cs : List ℕ) (i : ℕ) → i < length cs → get_or cs i 0 ≡ 37 → set_of (written_registers (drop i cs)) ≡ bit_or (named_bit (drop (i + 1) cs)) (set_of (written_registers (drop (i + 1) cs)))
unfolding named_bit
written_register cs i lt e =
    let is : (get_or cs i 0 == 37) ≡ true = grind (arith, nat_tests) in
    let rest = drop (i + 1) cs in
    rw (drop_more cs i 0 lt, is) (onto_set (register_named (take (prefix_len is_word rest) rest)) (written_registers rest))

pub written_other : (cs : List ℕ) (i : ℕ) → i < length cs → (get_or cs i 0 ≡ 37 → ⊥) → set_of (written_registers (drop i cs)) ≡ set_of (written_registers (drop (i + 1) cs))
written_other cs i lt n =
    let is : (get_or cs i 0 == 37) ≡ false = grind (arith, nat_tests) in
    rw (drop_more cs i 0 lt, is) refl

pub written_more : (cs : List ℕ) (i bits bit whole : ℕ) → i < length cs → get_or cs i 0 ≡ 37 → bit_or bits (set_of (written_registers (drop i cs))) ≡ whole → bit ≡ named_bit (drop (i + 1) cs)
    → bit_or (bit_or bits bit) (set_of (written_registers (drop (i + 1) cs))) ≡ whole
written_more cs i bits bit whole lt is before e = or_assoc bits bit (set_of (written_registers (drop (i + 1) cs))) ∙ rw (e, ← written_register cs i lt is) before

pub ruleset written_steps = (written_other, or_zero_r, drop_all)

by_piece : (xs : List Atom) (p : Piece) → (elim p [ Piece.Byte b at ↦ hole_bits xs | Piece.Hole k m at ↦ bit_or (2 ^ k) (hole_bits xs) | Piece.Unique at ↦ hole_bits xs ]) ≡ bit_or (hole_bit p) (hole_bits xs)
by_piece xs (Piece.Byte b at) = refl
by_piece xs (Piece.Hole k m at) = refl
by_piece xs (Piece.Unique at) = refl

hole_step : (xs : List Atom) (i : ℕ) (x : Atom) → i < length xs → hole_bits (drop i xs) ≡ bit_or (hole_bit (get_or xs i x).piece) (hole_bits (drop (i + 1) xs))
hole_step xs i x lt = rw (drop_more xs i x lt) (by_piece (drop (i + 1) xs) (get_or xs i x).piece)

pub hole_below : (xs : List Atom) (i : ℕ) (x : Atom) → i < length xs → HolesBelow 32 (drop i xs) → NamesOneOf 32 (get_or xs i x).piece × HolesBelow 32 (drop (i + 1) xs)
hole_below xs i x lt below = rw (drop_more xs i x lt) at below

pub hole_more : (xs : List Atom) (i bits bit : ℕ) (x : Atom) → i < length xs → bit_or bits (hole_bits (drop i xs)) ≡ hole_bits xs → bit ≡ hole_bit (get_or xs i x).piece
    → bit_or (bit_or bits bit) (hole_bits (drop (i + 1) xs)) ≡ hole_bits xs
hole_more xs i bits bit x lt before e = or_assoc bits bit (hole_bits (drop (i + 1) xs)) ∙ rw (e, ← hole_step xs i x lt) before

pub ruleset hole_steps = (hole_below, or_zero_r, drop_all)
