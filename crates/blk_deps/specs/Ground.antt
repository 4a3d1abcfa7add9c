-- The bits of what is known of a shape before any path.
use Rattle.std.specs.Prelude.{◌≡◌, ℕ, ◌+◌, ◌*◌, ◌/◌, ◌%◌, ◌==◌, ◌<◌, ◌&&◌, Bool, List, length, Some, slice_get, slice_index}
use Rattle.std.specs.List.{list_any, flat_map}
use Rattle.std.specs.Int.{bit_at}
use Rattle.asm_core.specs.Flag.{flag_number}
use Rattle.asm_core.specs.declared.flag.Flag.{Flag}
use Rattle.asm_core.specs.declared.shape.Shape.{Shape}
use Rattle.asm_core.specs.declared.interface.Interface.{Interface}
use Rattle.blk_deps.specs.Operands.{numbers_in, is_output_at, is_place, is_lone, is_input_place, name_of, covers, is_output_byte, is_byte_above, is_unseen, is_changing}
use Rattle.blk_deps.specs.Rules.{is_kept, flags_of_output}
use Rattle.blk_deps.specs.declared.ground.Ground.{Ground}
use Rattle.blk_deps.specs.declared.context.Context.{Context}

abbrev pub has_bit : ℕ → ℕ → Bool
has_bit word n = bit_at word n == 1

abbrev pub has_cell_bit : List ℕ → ℕ → Bool
has_cell_bit words c = has_bit (slice_index words (c / 64)) (c % 64)

-- the cell is a byte of an output in a register
abbrev pub is_result_byte : Interface → Shape → ℕ → Bool
is_result_byte i s c = list_any (λ j. covers i s c j && is_output_at i j) (numbers_in i)

abbrev pub is_result_flag : Interface → ℕ → Bool
is_result_flag i f = list_any (λ (g : Flag). flag_number g == f) (flat_map flags_of_output i.operands)

pub record IsGround (i : Interface) (live : List Shape) (s : Shape) (g : Ground) : Type 0 where
  pub places : (p : ℕ) → p < 64 → has_bit g.places p ≡ is_place i s p
  pub lone : (p : ℕ) → p < 64 → has_bit g.lone p ≡ is_lone i s p
  pub kept : (p : ℕ) → p < 37 → has_bit g.kept p ≡ is_kept i s p
  pub input_places : (p : ℕ) → p < 37 → has_bit g.input_places p ≡ is_input_place i s p
  pub names : (p : ℕ) → p < 7 + length i.operands → slice_get g.names p ≡ Some (name_of i s p)
  pub name_count : length g.names ≡ 7 + length i.operands
  pub output_bytes : (c : ℕ) → c < 148 → has_cell_bit g.output_bytes c ≡ is_output_byte i s c
  pub bytes_above : (c : ℕ) → c < 148 → has_cell_bit g.bytes_above c ≡ is_byte_above i s c
  pub results : (c : ℕ) → c < 148 → has_cell_bit g.results c ≡ is_result_byte i s c
  pub unseen : (k : ℕ) → k < 32 → has_bit g.unseen k ≡ is_unseen i live s k
  pub changing : (k : ℕ) → k < length i.operands → has_bit g.changing k ≡ is_changing live k
  pub result_flags : (f : ℕ) → f < 6 → has_bit g.result_flags f ≡ is_result_flag i f

abbrev pub IsContext : Context → Type 0
IsContext x = IsGround x.interface.now x.live.now x.shape.now x.ground.now
