-- What the operands of a statement keep as they are read.
use Rattle.std.proofs.Common.{◌≡◌, ℕ, zero, suc, ◌+◌, ◌<◌, ◌==◌, ◌||◌, nat_lt, List, [], ◌∷◌, length, take, Bool, true, false, cond, Option, Some, None, slice_get, if◌then◌else◌, refl, sym, subst, arith}
use Rattle.std.specs.Char.{is_ascii_digit}
use Rattle.std.specs.List.{position, position_or_len, prefix_len}
use Rattle.std.proofs.lemmas.Bool.{ltb-true}
use Rattle.asm_core.specs.Lists.{optional_at}
use Rattle.asm_core.specs.Constraint.{number_of, output_numbered, has_name, output_named, is_close_bracket, bracketed, letter_of, letter_symbol, byte_symbol, symbol_at, symbols_from, alternatives_in, is_signed, flag_of, alternatives_unless_flag, behind_sign, constrained_output, constrained_input, constrained_operand, constrained_from}
use Rattle.asm_core.specs.declared.cond.Cond.{Cond}
use Rattle.asm_core.specs.declared.operand.Operand.{Operand}
use Rattle.asm_core.specs.declared.statement.Part.{Part}
use Rattle.asm_core.specs.declared.constraint.Letter.{Letter}
use Rattle.asm_core.specs.declared.constraint.Symbol.{Symbol}
use Rattle.asm_core.specs.declared.constraint.Symbol.TheVariants as symbols
use Rattle.asm_core.specs.declared.constraint.ConstrainedOperand.{ConstrainedOperand}
use Rattle.asm_constraints.proofs.ListLemmas.{slice_get_mapped}

-- ---- a tie names one of the outputs

abbrev pub IsBelow : ℕ → Option ℕ → Type 0
IsBelow n None = Unit {0}
IsBelow n (Some m) = m < n

abbrev pub TiesBelow : ℕ → Symbol → Type 0
TiesBelow n (symbols.Letter letter) = Unit {0}
TiesBelow n symbols.Early = Unit {0}
TiesBelow n (symbols.Tie output) = IsBelow n output
TiesBelow n symbols.Sign = Unit {0}
TiesBelow n symbols.Other = Unit {0}

choose : {A : Type 0} (P : A → Type 0) (b : Bool) (x y : A) → P x → P y → P (if b then x else y)
choose P true x y p q = p
choose P false x y p q = q

below_at : (b : Bool) (m n : ℕ) → nat_lt m n ≡ b → IsBelow n (cond b (Some m) None)
below_at true m n e = ltb-true m n e
below_at false m n e = tt

module _ (outputs : List (Option (List ℕ))) where
  output_numbered-below : (digits : List ℕ) → IsBelow (length outputs) (output_numbered outputs digits)
  unfolding output_numbered
  output_numbered-below digits = below_at _ (number_of digits) (length outputs) refl

  output_named-below : (text : List ℕ) → IsBelow (length outputs) (output_named outputs text)
  unfolding output_named
  output_named-below text = below_at _ (position_or_len (has_name text) outputs) (length outputs) refl

  bracketed-below : (bs : List ℕ) (close : Option ℕ) → TiesBelow (length outputs) (bracketed outputs bs close).0
  bracketed-below bs None = tt
  bracketed-below bs (Some close) = output_named-below (take close bs)

  letter_symbol-below : (letter : Option Letter) → TiesBelow (length outputs) (letter_symbol letter)
  letter_symbol-below None = tt
  letter_symbol-below (Some letter) = tt

  byte_symbol-below : (b : ℕ) → TiesBelow (length outputs) (byte_symbol b)
  unfolding byte_symbol
  byte_symbol-below b =
      choose (TiesBelow (length outputs)) (b == 38) symbols.Early _ tt
      (choose (TiesBelow (length outputs)) (b == 61 || b == 43) symbols.Sign (letter_symbol (letter_of b)) tt (letter_symbol-below (letter_of b)))

  symbol_at-below : (b : ℕ) (bs : List ℕ) → TiesBelow (length outputs) (symbol_at outputs b bs).0
  unfolding symbol_at
  symbol_at-below b bs =
      let P : Symbol × ℕ → Type 0 = λ x. TiesBelow (length outputs) x.0 in
      choose P (is_ascii_digit b) (symbols.Tie (output_numbered outputs (b ∷ take (prefix_len is_ascii_digit bs) bs)), prefix_len is_ascii_digit bs) _
      (output_numbered-below (b ∷ take (prefix_len is_ascii_digit bs) bs))
      (choose P (b == 91) (bracketed outputs bs (position is_close_bracket bs)) (byte_symbol b, 0) (bracketed-below bs (position is_close_bracket bs)) (byte_symbol-below b))

  symbols_from-below : (taken : ℕ) (bs : List ℕ) (j : ℕ) (s : Symbol) → slice_get (symbols_from outputs taken bs) j ≡ Some s → TiesBelow (length outputs) s
  unfolding symbols_from
  symbols_from-below zero [] j s at = cc
  symbols_from-below (suc taken) [] j s at = cc
  symbols_from-below zero (b ∷ bs) zero s at = let same : (symbol_at outputs b bs).0 ≡ s = cc in subst (TiesBelow (length outputs)) same (symbol_at-below b bs)
  symbols_from-below zero (b ∷ bs) (suc j) s at = symbols_from-below (symbol_at outputs b bs).1 bs j s at
  symbols_from-below (suc taken) (b ∷ bs) j s at = symbols_from-below taken bs j s at

  alternatives_in-below : (text : List ℕ) (a j : ℕ) (alternative : List Symbol) (s : Symbol) → slice_get (alternatives_in outputs text) a ≡ Some alternative
      → slice_get alternative j ≡ Some s → TiesBelow (length outputs) s
  unfolding alternatives_in
  alternatives_in-below text a j alternative s at there =
      let of = slice_get_mapped (symbols_from outputs 0) _ a alternative at in
      symbols_from-below 0 of.0 j s (subst (λ (ss : List Symbol). slice_get ss j ≡ Some s) of.2 there)

  unless_flag-below : (flag : Option Cond) (text : List ℕ) (a j : ℕ) (alternative : List Symbol) (s : Symbol)
      → slice_get (alternatives_unless_flag flag (alternatives_in outputs text)) a ≡ Some alternative → slice_get alternative j ≡ Some s → TiesBelow (length outputs) s
  unless_flag-below None text a j alternative s at there = alternatives_in-below text a j alternative s at there
  unless_flag-below (Some condition) text a j alternative s at there = cc

-- ---- operands

-- an operand as it is read in a statement with n outputs
pub record IsRead (n number : ℕ) (w : ConstrainedOperand) : Type 0 where
  pub numbered : w.number ≡ number
  pub output : w.output ≡ nat_lt number n
  pub input_alone : w.output ≡ false → is_signed w.role ≡ false
  pub below : (a j : ℕ) (alternative : List Symbol) (s : Symbol) → slice_get w.alternatives a ≡ Some alternative → slice_get alternative j ≡ Some s → TiesBelow n s

module _ (outputs : List (Option (List ℕ))) where
  read_at : (b : Bool) (number : ℕ) (part : Part) (typed : Option Operand) → nat_lt number (length outputs) ≡ b
      → IsRead (length outputs) number (if b then constrained_output outputs number part typed else constrained_input outputs number part typed)
  read_at true number part typed e = record {
    numbered = refl;
    output = sym e;
    input_alone = λ f. cc;
    below = unless_flag-below outputs (flag_of part.constraint.bytes) (behind_sign part.constraint.bytes);
  }
  read_at false number part typed e = record {
    numbered = refl;
    output = sym e;
    input_alone = λ f. refl;
    below = alternatives_in-below outputs part.constraint.bytes;
  }

  constrained_operand-read : (number : ℕ) (part : Part) (typed : Option Operand) → IsRead (length outputs) number (constrained_operand outputs number part typed)
  unfolding constrained_operand
  constrained_operand-read number part typed = read_at (nat_lt number (length outputs)) number part typed refl

  pub constrained_from-read : (types : List (Option Operand)) (first : ℕ) (parts : List Part) (k number : ℕ) (w : ConstrainedOperand) → number ≡ first + k
      → slice_get (constrained_from outputs types first parts) k ≡ Some w → IsRead (length outputs) number w
  unfolding constrained_from
  constrained_from-read types first [] k number w e at = cc
  constrained_from-read types first (p ∷ ps) zero number w e at =
      let same : constrained_operand outputs first p (optional_at types first) ≡ w = cc in
      let place : first ≡ number = omega (arith, e) in
      subst (λ m. IsRead (length outputs) m w) place (subst (IsRead (length outputs) first) same (constrained_operand-read first p (optional_at types first)))
  constrained_from-read types first (p ∷ ps) (suc k) number w e at = constrained_from-read types (first + 1) ps k number w (omega (arith, e)) at
