-- What operands are under a shape is the same for both interfaces, but that with more told fewer bytes are an output's
-- alone, fewer operands are changing and less memory isn't seen.
use Rattle.std.proofs.Common.{◌≡◌, ℕ, ◌-◌, ◌==◌, ◌&&◌, ◌||◌, nat_lt, not, List, [], ◌∷◌, filter, find, is_some, Bool, None, Some, slice_get, refl, sym, ap, ◌∙◌, if◌then◌else◌}
use Rattle.std.specs.List.{list_any}
use Rattle.std.proofs.Math.Path.{fun_ext}
use Rattle.asm_core.specs.Placement.{tie_root}
use Rattle.asm_core.specs.Company.{places_of, held_at}
use Rattle.asm_core.specs.declared.company.Held.{Held}
use Rattle.asm_core.specs.declared.shape.Shape.{Shape}
use Rattle.asm_core.specs.declared.interface.Interface.{Interface}
use Rattle.asm_core.specs.declared.finding.Cell.{Cell}
use Rattle.blk_deps.specs.Cells.{place_at, place_of, byte_of}
use Rattle.blk_deps.specs.Operands.{in_register, in_memory, is_output_at, is_input_at, size_at, numbers_in, held_in, is_held, holds, holders, is_own, has_own_register, has_address, is_operand_place, is_place, is_none_held, is_lone, is_input_place, first_output, bare_name, name_of, byte_held, covers, is_input_byte, is_output_byte, is_byte_above, has_tied, is_written_only, is_changing, is_unseen}
use Rattle.blk_patch.specs.Upward.{TellsMore}
use Rattle.blk_patch.proofs.UpwardTests.{Up, same_up, and_up, or_up, not_up, any_up, any_more}

both_same : (a b c d : Bool) → a ≡ c → b ≡ d → (a && b) ≡ (c && d)
both_same a b c d first second = rw (first, second) refl

place_parts : (a b c d e f : Bool) → a ≡ d → b ≡ e → c ≡ f → (a && (b || c)) ≡ (d && (e || f))
place_parts a b c d e f first second third = rw (first, second, third) refl

module _ (old new : Interface) (live fewer : List Shape) (s : Shape) (more : TellsMore old new live fewer s) where
  -- ---- places

  pub address_same : (k : ℕ) → has_address new s k ≡ has_address old s k
  address_same k = ap (λ root. in_memory s k && root == k) (more.roots k)

  own_same : (k : ℕ) → has_own_register new s k ≡ has_own_register old s k
  own_same k =
      ap (λ root. (in_register s k && root == k) && is_own k (places_of new s k)) (more.roots k)
      ∙ ap (λ at. (in_register s k && tie_root old s k == k) && is_own k at) (more.places k)

  operand_place_same : (k : ℕ) → is_operand_place new s k ≡ is_operand_place old s k
  operand_place_same k =
      place_parts (is_some (slice_get new.operands k)) (has_own_register new s k) (has_address new s k)
      (is_some (slice_get old.operands k)) (has_own_register old s k) (has_address old s k)
      (more.there k) (own_same k) (address_same k)

  pub place_same : (p : ℕ) → is_place new s p ≡ is_place old s p
  place_same p = ap (λ b. nat_lt p 7 || b) (operand_place_same (p - 7))

  held_same : (p k : ℕ) → held_in new s p k ≡ held_in old s p k
  held_same p k = ap (λ at. if in_register s k then held_at (place_at p) at else Held.Nothing) (more.places k)

  holds_same : (p : ℕ) → holds new s p ≡ holds old s p
  holds_same p = fun_ext (λ k. ap is_held (held_same p k))

  holders_same : (p : ℕ) → holders new s p ≡ holders old s p
  holders_same p =
      ap (λ test. filter test (numbers_in new)) (holds_same p) ∙ ap (filter (holds old s p)) more.numbers

  pub lone_same : (p : ℕ) → is_lone new s p ≡ is_lone old s p
  lone_same p = ap (λ js. nat_lt p 7 && is_none_held js) (holders_same p)

  outputs_same : is_output_at new ≡ is_output_at old
  outputs_same = fun_ext more.outputs

  pub input_place_same : (p : ℕ) → is_input_place new s p ≡ is_input_place old s p
  input_place_same p =
      ap (λ js. not (is_none_held js) && not (list_any (is_output_at new) js)) (holders_same p)
      ∙ ap (λ test. not (is_none_held (holders old s p)) && not (list_any test (holders old s p))) outputs_same

  first_same : (js hs : List ℕ) (none : Cell) → first_output new js hs none ≡ first_output old js hs none
  first_same js [] none = refl
  first_same js (h ∷ rest) none =
      ap (λ test. elim (find test js) [ None ↦ Cell.Operand h | Some output ↦ Cell.Operand output ]) outputs_same

  pub name_same : (p : ℕ) → name_of new s p ≡ name_of old s p
  name_same p =
      ap (λ js. first_output new js js (bare_name p)) (holders_same p)
      ∙ first_same (holders old s p) (holders old s p) (bare_name p)

  -- ---- bytes of places

  pub covers_same : (c k : ℕ) → covers new s c k ≡ covers old s c k
  covers_same c k =
      ap (λ held. is_held held && nat_lt (byte_held held (byte_of c)) (size_at new k)) (held_same (place_of c) k)
      ∙ ap (λ size. holds old s (place_of c) k && nat_lt (byte_held (held_in old s (place_of c) k) (byte_of c)) size)
      (more.sizes k)

  pub result_byte_same : (c : ℕ)
      → list_any (λ k. covers new s c k && is_output_at new k) (numbers_in new)
      ≡ list_any (λ k. covers old s c k && is_output_at old k) (numbers_in old)
  result_byte_same c =
      ap (λ test. list_any test (numbers_in new)) (fun_ext (λ k.
      both_same (covers new s c k) (is_output_at new k) (covers old s c k) (is_output_at old k) (covers_same c k)
      (more.outputs k)))
      ∙ ap (list_any (λ k. covers old s c k && is_output_at old k)) more.numbers

  input_byte_up : (c : ℕ) → Up (is_input_byte old s c) (is_input_byte new s c)
  input_byte_up c is =
      ap (list_any (λ k. covers new s c k && is_input_at new k)) more.numbers
      ∙ any_up (λ k. covers old s c k && is_input_at old k) (λ k. covers new s c k && is_input_at new k)
      (λ k. and_up (covers old s c k) (is_input_at old k) (covers new s c k) (is_input_at new k)
      (same_up (covers old s c k) (covers new s c k) (sym (covers_same c k))) (more.inputs k))
      (numbers_in old) is

  pub output_byte_up : (c : ℕ) → Up (is_output_byte new s c) (is_output_byte old s c)
  output_byte_up c =
      and_up (list_any (λ k. covers new s c k && is_output_at new k) (numbers_in new)) (not (is_input_byte new s c))
      (list_any (λ k. covers old s c k && is_output_at old k) (numbers_in old)) (not (is_input_byte old s c))
      (same_up _ _ (result_byte_same c)) (not_up (is_input_byte new s c) (is_input_byte old s c) (input_byte_up c))

  covered_same : (c : ℕ) → list_any (covers new s c) (numbers_in new) ≡ list_any (covers old s c) (numbers_in old)
  covered_same c =
      ap (λ test. list_any test (numbers_in new)) (fun_ext (covers_same c))
      ∙ ap (list_any (covers old s c)) more.numbers

  pub byte_above_same : (c : ℕ) → is_byte_above new s c ≡ is_byte_above old s c
  byte_above_same c =
      ap (λ js. not (is_none_held js) && not (list_any (covers new s c) (numbers_in new))) (holders_same (place_of c))
      ∙ ap (λ b. not (is_none_held (holders old s (place_of c))) && not b) (covered_same c)

  -- ---- memory

  tied_same : (k : ℕ) → has_tied new s k ≡ has_tied old s k
  tied_same k =
      ap (λ root. list_any (λ t. not (t == k) && root t == k) (numbers_in new)) (fun_ext more.roots)
      ∙ ap (list_any (λ t. not (t == k) && tie_root old s t == k)) more.numbers

  written_only_up : (k : ℕ) → Up (is_written_only new s k) (is_written_only old s k)
  written_only_up k =
      and_up (not (is_input_at new k)) (not (has_tied new s k)) (not (is_input_at old k)) (not (has_tied old s k))
      (not_up (is_input_at new k) (is_input_at old k) (more.inputs k))
      (same_up (not (has_tied new s k)) (not (has_tied old s k)) (ap not (tied_same k)))

  pub changing_up : (k : ℕ) → Up (is_changing fewer k) (is_changing live k)
  changing_up k =
      and_up (list_any (λ (t : Shape). in_memory t k) fewer) (list_any (λ (t : Shape). not (in_memory t k)) fewer)
      (list_any (λ (t : Shape). in_memory t k) live) (list_any (λ (t : Shape). not (in_memory t k)) live)
      (any_more (λ (t : Shape). in_memory t k) fewer live more.shapes)
      (any_more (λ (t : Shape). not (in_memory t k)) fewer live more.shapes)

  pub unseen_up : (k : ℕ) → Up (is_unseen new fewer s k) (is_unseen old live s k)
  unseen_up k =
      and_up (has_address new s k && is_written_only new s k) (not new.memory || is_changing fewer k)
      (has_address old s k && is_written_only old s k) (not old.memory || is_changing live k)
      (and_up (has_address new s k) (is_written_only new s k) (has_address old s k) (is_written_only old s k)
      (same_up (has_address new s k) (has_address old s k) (address_same k)) (written_only_up k))
      (or_up (not new.memory) (is_changing fewer k) (not old.memory) (is_changing live k)
      (not_up new.memory old.memory more.memory_clobbered) (changing_up k))
