-- Every range of numbers has 0, and one that is kept has the known number, and only numbers that an instruction can hold.
use Rattle.std.proofs.Common.{◌≡◌, ℕ, ◌==◌, ℤ, pos, negsuc, ◌≤ℤ◌, int_lt, List, [], ◌∷◌, Bool, true, false, cond, Option, Some, None, fold, if◌then◌else◌, refl, subst, arith}
use borrow.Author.Tests.{tests}
use Rattle.std.specs.Int.{int_min, int_max}
use Rattle.std.proofs.lemmas.Int.{ints}
use Rattle.asm_core.specs.Interface.{letter_range, symbol_range, joined, range_of, numbers_of_size, cut_to, has_known, kept_range, range_in, numbers_of}
use Rattle.asm_core.specs.declared.constraint.Letter.{Letter}
use Rattle.asm_core.specs.declared.constraint.Letter.TheVariants.{One, Pair, ByteRegister, AnyRegister, Memory, Number, WordShift, LongShift, SignedByte, AddressShift, UnsignedByte, General}
use Rattle.asm_core.specs.declared.constraint.Symbol.{Symbol}
use Rattle.asm_core.specs.declared.constraint.Symbol.TheVariants as symbols

-- the range has 0
pub record HasZero (range : ℤ × ℤ) : Type 0 where
  pub low : range.0 ≤ℤ pos 0
  pub high : pos 0 ≤ℤ range.1

abbrev EachHasZero : Option (ℤ × ℤ) → Type 0
EachHasZero None = Unit {0}
EachHasZero (Some range) = HasZero range

letter_range-zero : (letter : Letter) → EachHasZero (letter_range letter)
letter_range-zero (One r) = tt
letter_range-zero Pair = tt
letter_range-zero ByteRegister = tt
letter_range-zero AnyRegister = tt
letter_range-zero Memory = tt
letter_range-zero Number = record { low = omega (arith, ints); high = omega (arith, ints) }
letter_range-zero WordShift = record { low = omega (arith, ints); high = omega (arith, ints) }
letter_range-zero LongShift = record { low = omega (arith, ints); high = omega (arith, ints) }
letter_range-zero SignedByte = record { low = omega (arith, ints); high = omega (arith, ints) }
letter_range-zero AddressShift = record { low = omega (arith, ints); high = omega (arith, ints) }
letter_range-zero UnsignedByte = record { low = omega (arith, ints); high = omega (arith, ints) }
letter_range-zero General = record { low = omega (arith, ints); high = omega (arith, ints) }

symbol_range-zero : (s : Symbol) → EachHasZero (symbol_range s)
symbol_range-zero (symbols.Letter letter) = letter_range-zero letter
symbol_range-zero symbols.Early = tt
symbol_range-zero (symbols.Tie output) = tt
symbol_range-zero symbols.Sign = tt
symbol_range-zero symbols.Other = tt

min_low : (a b : ℤ) → a ≤ℤ pos 0 → b ≤ℤ pos 0 → int_min a b ≤ℤ pos 0
min_low a b x y = choose (int_lt b a)
  where
    choose : (c : Bool) → (cond c b a) ≤ℤ pos 0
    choose true = y
    choose false = x

max_high : (a b : ℤ) → pos 0 ≤ℤ a → pos 0 ≤ℤ b → pos 0 ≤ℤ int_max a b
max_high a b x y = choose (int_lt b a)
  where
    choose : (c : Bool) → pos 0 ≤ℤ (cond c a b)
    choose true = x
    choose false = y

max_low : (a b : ℤ) → a ≤ℤ pos 0 → b ≤ℤ pos 0 → int_max a b ≤ℤ pos 0
max_low a b x y = choose (int_lt b a)
  where
    choose : (c : Bool) → (cond c a b) ≤ℤ pos 0
    choose true = x
    choose false = y

min_high : (a b : ℤ) → pos 0 ≤ℤ a → pos 0 ≤ℤ b → pos 0 ≤ℤ int_min a b
min_high a b x y = choose (int_lt b a)
  where
    choose : (c : Bool) → pos 0 ≤ℤ (cond c b a)
    choose true = y
    choose false = x

joined-zero : (a b : Option (ℤ × ℤ)) → EachHasZero a → EachHasZero b → EachHasZero (joined a b)
joined-zero None b x y = y
joined-zero (Some r) None x y = x
joined-zero (Some r) (Some q) x y = record { low = min_low r.0 q.0 x.low y.low; high = max_high r.1 q.1 x.high y.high }

fold-zero : (alternative : List Symbol) (range : Option (ℤ × ℤ)) → EachHasZero range → EachHasZero (fold (λ range s. joined range (symbol_range s)) range alternative)
fold-zero [] range x = x
fold-zero (s ∷ ss) range x = fold-zero ss (joined range (symbol_range s)) (joined-zero range (symbol_range s) x (symbol_range-zero s))

range_of-zero : (alternative : List Symbol) → EachHasZero (range_of alternative)
unfolding range_of
range_of-zero alternative = fold-zero alternative None tt

choose_zero : (b : Bool) (r q : ℤ × ℤ) → HasZero r → HasZero q → HasZero (if b then r else q)
choose_zero true r q x y = x
choose_zero false r q x y = y

numbers_of_size-zero : (size : ℕ) → HasZero (numbers_of_size size)
numbers_of_size-zero size =
    choose_zero (size == 1) (negsuc 127, pos 127) _ (record { low = omega (arith, ints); high = omega (arith, ints) })
    (choose_zero (size == 2) (negsuc 32767, pos 32767) (negsuc 2147483647, pos 2147483647)
    (record { low = omega (arith, ints); high = omega (arith, ints) }) (record { low = omega (arith, ints); high = omega (arith, ints) }))

cut_to-zero : (whole range : ℤ × ℤ) → HasZero whole → HasZero range → HasZero (cut_to whole range)
cut_to-zero whole range x y = record { low = max_low range.0 whole.0 y.low x.low; high = min_high range.1 whole.1 y.high x.high }

-- a range that is kept is that range, and has the known number
kept_at : (b : Bool) (range kept : ℤ × ℤ) → (if b then Some range else None) ≡ Some kept → (b ≡ true) × (range ≡ kept)
kept_at true range kept e = let same : range ≡ kept = cc in (refl, same)
kept_at false range kept e = cc

known_in_range : (n : ℤ) (range : ℤ × ℤ) → has_known (Some n) range ≡ true → (range.0 ≤ℤ n) × (n ≤ℤ range.1)
known_in_range n range e = (grind (arith, ints, tests), grind (arith, ints, tests))

-- the range has only numbers that an instruction can hold
pub record HasWords (range : ℤ × ℤ) : Type 0 where
  pub low : negsuc 2147483647 ≤ℤ range.0
  pub high : range.1 ≤ℤ pos 4294967295

choose_words : (b : Bool) (r q : ℤ × ℤ) → HasWords r → HasWords q → HasWords (if b then r else q)
choose_words true r q x y = x
choose_words false r q x y = y

numbers_of_size-words : (size : ℕ) → HasWords (numbers_of_size size)
numbers_of_size-words size =
    choose_words (size == 1) (negsuc 127, pos 127) _ (record { low = omega (arith, ints); high = omega (arith, ints) })
    (choose_words (size == 2) (negsuc 32767, pos 32767) (negsuc 2147483647, pos 2147483647)
    (record { low = omega (arith, ints); high = omega (arith, ints) }) (record { low = omega (arith, ints); high = omega (arith, ints) }))

cut_low : (b : Bool) (a c : ℤ) → int_lt c a ≡ b → negsuc 2147483647 ≤ℤ c → negsuc 2147483647 ≤ℤ (cond b a c)
cut_low true a c e low = grind (arith, ints, tests)
cut_low false a c e low = low

cut_high : (b : Bool) (a c : ℤ) → int_lt c a ≡ b → c ≤ℤ pos 4294967295 → (cond b c a) ≤ℤ pos 4294967295
cut_high true a c e high = high
cut_high false a c e high = grind (arith, ints, tests)

-- whatever the range is, what is cut lies in the whole
cut_to-words : (whole range : ℤ × ℤ) → HasWords whole → HasWords (cut_to whole range)
cut_to-words whole range x = record { low = cut_low (int_lt whole.0 range.0) range.0 whole.0 refl x.low; high = cut_high (int_lt whole.1 range.1) range.1 whole.1 refl x.high }

-- what a kept range has
pub record IsKept (known : Option ℤ) (range : ℤ × ℤ) : Type 0 where
  pub word : HasWords range
  pub zero_in : HasZero range
  pub known_in : (n : ℤ) → known ≡ Some n → (range.0 ≤ℤ n) × (n ≤ℤ range.1)

kept_range-kept : (known : Option ℤ) (range kept : ℤ × ℤ) → HasWords range → HasZero range → kept_range known range ≡ Some kept → IsKept known kept
kept_range-kept known range kept words x e =
    let both = kept_at (has_known known range) range kept e in
    subst (IsKept known) both.1 (record {
      word = words;
      zero_in = x;
      known_in = λ n k. known_in_range n range (subst (λ (o : Option ℤ). has_known o range ≡ true) k both.0);
    })

range_in-kept : (size : ℕ) (known : Option ℤ) (range : Option (ℤ × ℤ)) (kept : ℤ × ℤ) → EachHasZero range → range_in size known range ≡ Some kept → IsKept known kept
range_in-kept size known None kept x e = cc
range_in-kept size known (Some range) kept x e =
    kept_range-kept known (cut_to (numbers_of_size size) range) kept (cut_to-words (numbers_of_size size) range (numbers_of_size-words size)) (cut_to-zero (numbers_of_size size) range (numbers_of_size-zero size) x) e

pub numbers_of-kept : (output : Bool) (size : ℕ) (known : Option ℤ) (alternative : List Symbol) (kept : ℤ × ℤ) → numbers_of output size known alternative ≡ Some kept → IsKept known kept
unfolding numbers_of
numbers_of-kept true size known alternative kept e = cc
numbers_of-kept false size known alternative kept e = range_in-kept size known (range_of alternative) kept (range_of-zero alternative) e
