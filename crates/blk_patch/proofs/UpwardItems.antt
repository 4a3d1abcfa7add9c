-- A statement with more items tells the compiler more: what the items leave as it is, and what they add.
use Rattle.std.proofs.Common.{◌≡◌, ◌⊎◌, ℕ, ◌+◌, ◌<◌, ◌==◌, is_some, List, [], ◌∷◌, ◌++◌, Bool, true, false, Option, None, Some, slice_get, refl, sym, ap, ◌∙◌, if◌then◌else◌}
use Rattle.std.specs.Option.{option_map}
use Rattle.std.specs.List.{flat_map}
use Rattle.std.specs.Int.{bit_at}
use Rattle.std.proofs.lemmas.Bool.{eqb-true, eq-eqb}
use Rattle.std.proofs.lemmas.Option.{slice_get-map}
use Rattle.asm_core.specs.Lists.{IsMember}
use Rattle.asm_core.specs.Placement.{tie_root, is_output, is_input, IsAllowed}
use Rattle.asm_core.specs.Reading.Facts.{fixed_register, alternative_at}
use Rattle.asm_core.specs.Company.{is_pair_alone, fixed_place, register_places, kind_places, places_by, places_of}
use Rattle.asm_core.specs.declared.company.Places.{Places}
use Rattle.asm_core.specs.declared.shape.Kind.{Kind}
use Rattle.asm_core.specs.declared.shape.Shape.{Shape}
use Rattle.asm_core.specs.declared.placement.Placement.{Placement}
use Rattle.asm_core.specs.declared.interface.AltIface.{AltIface}
use Rattle.asm_core.specs.declared.interface.OperandIface.{OperandIface}
use Rattle.asm_core.specs.declared.interface.Interface.{Interface}
use Rattle.blk_deps.specs.Operands.{is_output_at, is_input_at}
use Rattle.blk_deps.specs.Rules.{flags_of_output}
use Rattle.blk_patch.specs.Items.{has, alternative_with, operand_with, operands_with, registers, clobbers_with, with_items}
use Rattle.blk_patch.specs.Least.{AreWithin}
use Rattle.blk_patch.specs.Upward.{TellsMore, LeavesPlaces}
use Rattle.blk_patch.specs.declared.item.Item.{Item}
use Rattle.blk_patch.proofs.UpwardTests.{Up}
use Rattle.blk_patch.proofs.MoreItems.{input_more, bits_more, with_more}
use Rattle.blk_patch.proofs.SmallLaws.{root_same, numbers_same, size_same}
use Rattle.blk_patch.proofs.UpwardLetters.{letters_left}
use Rattle.blk_patch.proofs.WithLaws.{output_with, with_at}

abbrev pub output_found : Option OperandIface → Bool
output_found found = elim found [ None ↦ false | Some o ↦ is_output o.role ]

abbrev input_found : Option OperandIface → Bool
input_found found = elim found [ None ↦ false | Some o ↦ is_input o.role ]

-- ---- what the items leave as it is

module _ (items : List Item) where
  flags_same : (k : ℕ) (os : List OperandIface)
      → flat_map flags_of_output (operands_with items k os) ≡ flat_map flags_of_output os
  unfolding operands_with
  flags_same k [] = refl
  flags_same k (o ∷ os) = ap (λ rest. flags_of_output o ++ rest) (flags_same (k + 1) os)

  module _ (i : Interface) where
    abbrev patched : Interface
    patched = with_items items i

    result_flags_same : flat_map flags_of_output patched.operands ≡ flat_map flags_of_output i.operands
    unfolding with_items
    result_flags_same = flags_same 0 i.operands

    there_same : (k : ℕ) → is_some (slice_get patched.operands k) ≡ is_some (slice_get i.operands k)
    there_same k = rw (with_at items i k) (by (slice_get i.operands k))
      where
        by : (o : Option OperandIface) → is_some (option_map (operand_with items k) o) ≡ is_some o
        by None = refl
        by (Some o) = refl

    output_same : (k : ℕ) → is_output_at patched k ≡ is_output_at i k
    output_same k = ap output_found (with_at items i k) ∙ by (slice_get i.operands k)
      where
        by : (found : Option OperandIface)
            → output_found (option_map (operand_with items k) found) ≡ output_found found
        by None = refl
        by (Some o) = output_with items k o.role

  -- ---- places

  register_places_same : (root k : ℕ) (output : Bool) (alt : AltIface)
      → (has items (Item.Byte k) ≡ true → (alt.regs.0 < 16) ⊎ (alt.regs.0 ≡ 127))
      → register_places root (alternative_with items k output alt) ≡ register_places root alt
  register_places_same root k output alt leaves =
      let left = letters_left items k output alt leaves in
      ap (λ alone. if alone then Places.Pair
      else Places.One (fixed_place root (fixed_register (alternative_with items k output alt)))) left.alone
      ∙ ap (λ r. if is_pair_alone alt then Places.Pair else Places.One (fixed_place root r)) left.fixed

  kind_places_same : (root k : ℕ) (output : Bool) (alt : AltIface) (kind : Kind)
      → (has items (Item.Byte k) ≡ true → (alt.regs.0 < 16) ⊎ (alt.regs.0 ≡ 127))
      → kind_places root (alternative_with items k output alt) kind ≡ kind_places root alt kind
  kind_places_same root k output alt Kind.Register leaves = register_places_same root k output alt leaves
  kind_places_same root k output alt Kind.Memory leaves = refl
  kind_places_same root k output alt Kind.Number leaves = refl

  module _ (i : Interface) (leaves : LeavesPlaces items i) (s : Shape) where
    by_alternative : (root : ℕ) (o : OperandIface) → slice_get i.operands root ≡ Some o → (found : Option AltIface)
        → slice_get o.alts s.alternative ≡ found → (kind : Option Kind)
        → places_by root (option_map (alternative_with items root (is_output o.role)) found) kind
        ≡ places_by root found kind
    by_alternative root o e None f kind = refl
    by_alternative root o e (Some alt) f None = refl
    by_alternative root o e (Some alt) f (Some kind) =
        kind_places_same root root (is_output o.role) alt kind
        (λ byte. leaves.each root s.alternative o alt byte (record { is_operand = e; is_alternative = f }))

    by_operand : (root : ℕ) (found : Option OperandIface) → slice_get i.operands root ≡ found → (kind : Option Kind)
        → places_by root (alternative_at (option_map (operand_with items root) found) s.alternative) kind
        ≡ places_by root (alternative_at found s.alternative) kind
    by_operand root None e kind = refl
    by_operand root (Some o) e kind =
        ap (λ alt. places_by root alt kind)
        (slice_get-map (alternative_with items root (is_output o.role)) o.alts s.alternative)
        ∙ by_alternative root o e (slice_get o.alts s.alternative) refl kind

    place_same : (k : ℕ) → places_of (with_items items i) s k ≡ places_of i s k
    unfolding places_of
    place_same k =
        ap (λ root. places_by root (alternative_at (slice_get (with_items items i).operands root) s.alternative)
        (slice_get s.kinds root)) (root_same items i s k)
        ∙ ap (λ o. places_by (tie_root i s k) (alternative_at o s.alternative) (slice_get s.kinds (tie_root i s k)))
        (with_at items i (tie_root i s k))
        ∙ by_operand (tie_root i s k) (slice_get i.operands (tie_root i s k)) refl (slice_get s.kinds (tie_root i s k))

-- ---- what more items add

module _ (some items : List Item) (within : AreWithin some items) where
  inputs_up : (i : Interface) (k : ℕ) → Up (is_input_at (with_items some i) k) (is_input_at (with_items items i) k)
  inputs_up i k is =
      ap input_found (with_at items i k)
      ∙ by (slice_get i.operands k) (sym (ap input_found (with_at some i k)) ∙ is)
    where
      by : (found : Option OperandIface)
          → Up (input_found (option_map (operand_with some k) found))
          (input_found (option_map (operand_with items k) found))
      by None read = read
      by (Some o) read = input_more some items within k o.role read

  clobbered_up : (i : Interface) (p : ℕ)
      → Up (bit_at (with_items some i).clobbers.0 p == 1) (bit_at (with_items items i).clobbers.0 p == 1)
  unfolding with_items
  clobbered_up i p is =
      eq-eqb (bit_at (clobbers_with items i.clobbers).0 p) 1
      (bits_more some items within registers i.clobbers.0 i.clobbers.0 (λ k e. e) p
      (eqb-true (bit_at (clobbers_with some i.clobbers).0 p) 1 is))

  pub fewer_leave : (i : Interface) → LeavesPlaces items i → LeavesPlaces some i
  fewer_leave i leaves = record {
    each = λ k a o alt byte there. leaves.each k a o alt (within (Item.Byte k) byte) there;
  }

  pub tells_more : (i : Interface) (live fewer : List Shape) (s : Shape) → LeavesPlaces items i
      → ((at : Placement) → IsAllowed (with_items items i) s at → IsAllowed (with_items some i) s at)
      → ((t : Shape) → IsMember t fewer → IsMember t live)
      → TellsMore (with_items some i) (with_items items i) live fewer s
  tells_more i live fewer s leaves allowed shapes = record {
    there = λ k. there_same items i k ∙ sym (there_same some i k);
    numbers = numbers_same items i s ∙ sym (numbers_same some i s);
    outputs = λ k. output_same items i k ∙ sym (output_same some i k);
    sizes = λ k. size_same items i s k ∙ sym (size_same some i s k);
    result_flags = result_flags_same items i ∙ sym (result_flags_same some i);
    roots = λ k. root_same items i s k ∙ sym (root_same some i s k);
    places = λ k. place_same items i leaves s k ∙ sym (place_same some i (fewer_leave i leaves) s k);
    inputs = inputs_up i;
    clobbers = clobbered_up i;
    flags_clobbered = (with_more some items within i).cc;
    memory_clobbered = (with_more some items within i).memory;
    allowed = allowed;
    shapes = shapes;
  }
