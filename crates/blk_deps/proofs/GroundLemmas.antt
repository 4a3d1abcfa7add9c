-- What is gathered of operands, as the definitions of classes say it.
use Rattle.std.proofs.Common.{◌≡◌, ℕ, ◌<◌, ◌||◌, ◌&&◌, ◌==◌, nat_lt, List, [], ◌∷◌, Bool, true, false, not, refl, sym, ap, ◌∙◌, arith, if◌then◌else◌}
use Rattle.std.specs.List.{list_any, filter}
use Rattle.std.specs.Int.{bit_at}
use Rattle.std.proofs.Math.Bool.{and-true, and-false}
use Rattle.std.proofs.lemmas.Bool.{lt-ltb, le-ltb}
use Rattle.asm_core.specs.Company.{held_at, places_of}
use Rattle.asm_core.specs.declared.company.Held.{Held}
use Rattle.asm_core.specs.declared.shape.Shape.{Shape}
use Rattle.asm_core.specs.declared.interface.Interface.{Interface}
use Rattle.blk_deps.specs.Cells.{place_at, place_of, byte_of}
use Rattle.blk_deps.specs.Operands.{numbers_in, in_register, is_output_at, is_input_at, size_at, is_held, byte_held, holds, holders, is_none_held, is_lone, is_input_place, covers, is_input_byte, is_output_byte, is_byte_above}
use Rattle.blk_deps.specs.Rules.{is_kept}
use Rattle.blk_deps.specs.Ground.{is_result_byte}
use Rattle.blk_deps.specs.Holding.{is_holding, is_byte_below, is_in_class}
use Rattle.blk_deps.specs.declared.ground.registers.Of.{Of}
use Rattle.blk_deps.specs.declared.ground.bytes.Class.{Class}

-- ---- lists

any_same : (f g : ℕ → Bool) (xs : List ℕ) → ((x : ℕ) → f x ≡ g x) → list_any f xs ≡ list_any g xs
any_same f g [] same = refl
any_same f g (x ∷ xs) same = ap (λ b. b || list_any f xs) (same x) ∙ ap (λ b. g x || b) (any_same f g xs same)

none_kept : (q : ℕ → Bool) (xs : List ℕ) → is_none_held (filter q xs) ≡ not (list_any q xs)
none_kept q [] = refl
none_kept q (x ∷ xs) = go (q x) refl (none_kept q xs)
  where
    go : (b : Bool) → q x ≡ b → is_none_held (filter q xs) ≡ not (list_any q xs)
        → is_none_held (filter q (x ∷ xs)) ≡ not (list_any q (x ∷ xs))
    go true e rest = rw e refl
    go false e rest = rw e rest

any_kept : (p q : ℕ → Bool) (xs : List ℕ) → list_any p (filter q xs) ≡ list_any (λ x. p x && q x) xs
any_kept p q [] = refl
any_kept p q (x ∷ xs) = go (q x) (p x) refl refl (any_kept p q xs)
  where
    go : (b a : Bool) → q x ≡ b → p x ≡ a → list_any p (filter q xs) ≡ list_any (λ x. p x && q x) xs
        → list_any p (filter q (x ∷ xs)) ≡ list_any (λ x. p x && q x) (x ∷ xs)
    go true true e f rest = rw (e, f) refl
    go true false e f rest = rw (e, f) rest
    go false true e f rest = rw (e, f) rest
    go false false e f rest = rw (e, f) rest

not_not : (b : Bool) → not (not b) ≡ b
not_not true = refl
not_not false = refl

-- ---- places

module _ (i : Interface) (s : Shape) (p : ℕ) where
  some_held : not (is_none_held (holders i s p)) ≡ is_holding Of.Operands i s p
  some_held = ap not (none_kept (holds i s p) (numbers_in i)) ∙ not_not _

  pub lone_is : (held lone : Bool) → held ≡ is_holding Of.Operands i s p → lone ≡ (nat_lt p 7 && not held)
      → lone ≡ is_lone i s p
  lone_is held lone some is = is ∙ ap (λ b. nat_lt p 7 && not b) some
      ∙ sym (ap (λ b. nat_lt p 7 && b) (none_kept (holds i s p) (numbers_in i)))

  pub input_is : (held outputs input : Bool) → held ≡ is_holding Of.Operands i s p
      → outputs ≡ is_holding Of.Outputs i s p → input ≡ (held && not outputs) → input ≡ is_input_place i s p
  input_is held outputs input some out is =
      is ∙ ap (λ b. b && not outputs) (some ∙ sym some_held)
      ∙ ap (λ b. not (is_none_held (holders i s p)) && not b)
      (out ∙ sym (any_kept (is_output_at i) (holds i s p) (numbers_in i)))

  pub kept_is : (lone clobbered undeclared input kept : Bool) → lone ≡ is_lone i s p
      → clobbered ≡ (bit_at i.clobbers.0 p == 1) → undeclared ≡ (lone && not clobbered) → input ≡ is_input_place i s p
      → kept ≡ (undeclared || input) → kept ≡ is_kept i s p
  kept_is lone clobbered undeclared input kept alone clobber is inputs all =
      all ∙ ap (λ b. undeclared || b) inputs ∙ ap (λ b. b || is_input_place i s p)
      (is ∙ ap (λ b. b && not clobbered) alone ∙ ap (λ b. is_lone i s p && not b) clobber)

-- ---- bytes

-- a byte of an operand that counts, if it is in a register
counted : (b o : Bool) (h : Held) (size n : ℕ) → (b && is_byte_below (if o then size else 0) h n)
    ≡ ((is_held (if b then h else Held.Nothing) && nat_lt (byte_held (if b then h else Held.Nothing) n) size) && o)
counted false o h size n = refl
counted true true h size n = sym (and-true _)
counted true false h size n = ap (λ b. is_held h && b) (le-ltb (byte_held h n) 0 (omega arith)) ∙ and-false (is_held h)
    ∙ sym (and-false _)

covered : (b : Bool) (h : Held) (size n : ℕ)
    → (b && is_byte_below size h n) ≡ (is_held (if b then h else Held.Nothing)
    && nat_lt (byte_held (if b then h else Held.Nothing) n) size)
covered false h size n = refl
covered true h size n = refl

byte_below : (h : Held) (n : ℕ) → n < 4 → byte_held h n < 8
byte_below Held.Nothing n lt = omega arith
byte_below Held.All n lt = omega arith
byte_below Held.Low n lt = omega arith
byte_below Held.High n lt = omega arith

whole : (b : Bool) (h : Held) (n : ℕ) → n < 4 → (b && is_byte_below 8 h n) ≡ is_held (if b then h else Held.Nothing)
whole false h n lt = refl
whole true h n lt = ap (λ b. is_held h && b) (lt-ltb (byte_held h n) 8 (byte_below h n lt)) ∙ and-true (is_held h)

module _ (i : Interface) (s : Shape) (c : ℕ) where
  outputs_are : is_in_class Class.OfOutputs i s c ≡ is_result_byte i s c
  outputs_are = any_same _ _ (numbers_in i)
      (λ k. counted (in_register s k) (is_output_at i k) (held_at (place_at (place_of c)) (places_of i s k))
      (size_at i k) (byte_of c))

  inputs_are : is_in_class Class.OfInputs i s c ≡ is_input_byte i s c
  inputs_are = any_same _ _ (numbers_in i)
      (λ k. counted (in_register s k) (is_input_at i k) (held_at (place_at (place_of c)) (places_of i s k))
      (size_at i k) (byte_of c))

  covered_are : is_in_class Class.Covered i s c ≡ list_any (covers i s c) (numbers_in i)
  covered_are = any_same _ _ (numbers_in i)
      (λ k. covered (in_register s k) (held_at (place_at (place_of c)) (places_of i s k)) (size_at i k) (byte_of c))

  whole_are : is_in_class Class.Held i s c ≡ list_any (holds i s (place_of c)) (numbers_in i)
  whole_are = any_same _ _ (numbers_in i) (λ k. whole (in_register s k)
      (held_at (place_at (place_of c)) (places_of i s k)) (byte_of c) (omega arith))

  pub result_is : (results : Bool) → results ≡ is_in_class Class.OfOutputs i s c → results ≡ is_result_byte i s c
  result_is results is = is ∙ outputs_are

  pub output_is : (results inputs all : Bool) → results ≡ is_in_class Class.OfOutputs i s c
      → inputs ≡ is_in_class Class.OfInputs i s c → all ≡ (results && not inputs) → all ≡ is_output_byte i s c
  output_is results inputs all out inp is = is ∙ ap (λ b. b && not inputs) (out ∙ outputs_are)
      ∙ ap (λ b. is_result_byte i s c && not b) (inp ∙ inputs_are)

  pub above_is : (held some all : Bool) → held ≡ is_in_class Class.Held i s c → some ≡ is_in_class Class.Covered i s c
      → all ≡ (held && not some) → all ≡ is_byte_above i s c
  above_is held some all there value is =
      is ∙ ap (λ b. b && not some) (there ∙ whole_are
      ∙ sym (ap not (none_kept (holds i s (place_of c)) (numbers_in i)) ∙ not_not _))
      ∙ ap (λ b. not (is_none_held (holders i s (place_of c))) && not b) (value ∙ covered_are)
