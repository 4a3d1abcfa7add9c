-- A constant's digits and suffix.
use Rattle.std.proofs.Common.{◌≡◌, ℕ, ◌^◌, ◌<◌, ◌≤◌, ◌⊎◌, arith, Option, Some, None, nat_lt, Bool, true, false, cond, List, [], ◌∷◌, take, drop, slice_range, length, refl, sym, ◌∙◌, inl, inr, IfSome}
use Rattle.std.specs.List.{take_while, prefix_len}
use Rattle.std.specs.Option.{option_and_then}
use Rattle.std.proofs.lemmas.Grind.{common_steps}
use Rattle.std.proofs.lemmas.Bool.{le-ltb, ltb-true}
use Rattle.std.proofs.lemmas.List.{length-take-le}
use Rattle.std.proofs.lemmas.List.Folds.{length-prefix_len}
use Rattle.c_literals.specs.declared.base.Base.{Base}
use Rattle.c_literals.specs.declared.integer.IntegerConstant.{IntegerConstant}
use Rattle.c_literals.specs.declared.suffix.Suffix.{Suffix}
use Rattle.c_literals.specs.declared.suffix.Rank.{Rank}
use Rattle.c_literals.specs.declared.suffix.Rank.TheVariants.{Int, Long, LongLong}
use Rattle.c_literals.specs.Digits.{fitting, is_decimal, is_digit, number}
use Rattle.c_literals.specs.Suffixes.{suffix_of}
use Rattle.c_literals.specs.Integers.{IntegerType, IsOfItsType, base_of, body_of, constant, constant_of, decimal_types, first_fit, integer_constant, other_types, types_of, unsigned_types, value_bits}
use Rattle.c_literals.proofs.NumberLemmas.{fitting-none, value-is}

-- a number of more than 64 bits fits in no type
beyond_columns : (value : ℕ) (r : Rank) → nat_lt value 4294967296 ≡ false → nat_lt value 2147483648 ≡ false → nat_lt value 18446744073709551616 ≡ false → nat_lt value 9223372036854775808 ≡ false
    → (first_fit value (unsigned_types r) ≡ None) × (first_fit value (decimal_types r) ≡ None) × (first_fit value (other_types r) ≡ None)
unfolding first_fit
beyond_columns value Int a b c d = (rw (a, c) refl, rw (b, d) refl, rw (a, b, c, d) refl)
beyond_columns value Long a b c d = (rw (a, c) refl, rw (b, d) refl, rw (a, b, c, d) refl)
beyond_columns value LongLong a b c d = (rw c refl, rw d refl, rw (c, d) refl)

beyond : (value : ℕ) (base : Base) (s : Suffix) → 18446744073709551616 ≤ value → first_fit value (types_of base s) ≡ None
beyond value base s great =
    let all = beyond_columns value s.rank (le-ltb value 4294967296 (omega arith)) (le-ltb value 2147483648 (omega arith)) (le-ltb value 18446744073709551616 (omega arith)) (le-ltb value 9223372036854775808 (omega arith)) in
    elim s.unsigned as (λ v. first_fit value (cond v (unsigned_types s.rank) (cond (is_decimal base) (decimal_types s.rank) (other_types s.rank))) ≡ None) [
      | true ↦ all.0
      | false ↦ elim (is_decimal base) as (λ v. first_fit value (cond v (decimal_types s.rank) (other_types s.rank)) ≡ None) [ true ↦ all.1 | false ↦ all.2 ]
    ]

-- each type of the table has 4 or 8 bytes
abbrev AreSized : List IntegerType → Type 0
AreSized [] = Unit {0}
AreSized (t ∷ ts) = ((t.size ≡ 4) ⊎ (t.size ≡ 8)) × AreSized ts

fit-fits : (value : ℕ) (ts : List IntegerType) → AreSized ts → IfSome (first_fit value ts) IsOfItsType
unfolding first_fit
fit-fits value [] sized = tt
fit-fits value (t ∷ ts) (sized, rest) =
    let test = nat_lt value (2 ^ value_bits t.size t.signed) in
    (elim test as (λ v. test ≡ v → IfSome (cond v (Some (constant t.size t.signed value)) (first_fit value ts)) IsOfItsType) [
      | true ↦ λ e. record { sized = sized; fits = ltb-true value (2 ^ value_bits t.size t.signed) e }
      | false ↦ λ e. fit-fits value ts rest
    ]) refl

columns_sized : (r : Rank) → AreSized (unsigned_types r) × AreSized (decimal_types r) × AreSized (other_types r)
columns_sized Int = ((inl refl, (inl refl, (inr refl, tt))), (inl refl, (inl refl, (inr refl, tt))), (inl refl, (inl refl, (inl refl, (inl refl, (inr refl, (inr refl, tt)))))))
columns_sized Long = ((inl refl, (inr refl, tt)), (inl refl, (inr refl, tt)), (inl refl, (inl refl, (inr refl, (inr refl, tt)))))
columns_sized LongLong = ((inr refl, tt), (inr refl, tt), (inr refl, (inr refl, tt)))

table_sized : (base : Base) (s : Suffix) → AreSized (types_of base s)
table_sized base s =
    let all = columns_sized s.rank in
    elim s.unsigned as (λ v. AreSized (cond v (unsigned_types s.rank) (cond (is_decimal base) (decimal_types s.rank) (other_types s.rank)))) [
      | true ↦ all.0
      | false ↦ elim (is_decimal base) as (λ v. AreSized (cond v (decimal_types s.rank) (other_types s.rank))) [ true ↦ all.1 | false ↦ all.2 ]
    ]

pub constant-fits : (value : ℕ) (base : Base) (s : Suffix) (found : Option IntegerConstant) → found ≡ first_fit value (types_of base s) → IfSome found IsOfItsType
constant-fits value base s found is = rw is (fit-fits value (types_of base s) (table_sized base s))

-- the digits are as many as stand there
taken : (p : ℕ → Bool) (bs : List ℕ) → length (take_while p bs) ≡ prefix_len p bs
taken p bs = length-prefix_len p bs

-- a constant with digits, by their number and its suffix
some_digits : (base : Base) (ds suffix : List ℕ) → 0 < length ds
    → constant_of base ds suffix ≡ option_and_then (λ s. first_fit (number base ds) (types_of base s)) (suffix_of suffix)
some_digits base [] suffix lt = absurd (omega arith)
some_digits base (d ∷ ds) suffix lt = refl

no_value : (n : ℕ) (base : Base) (s : Option Suffix) → 18446744073709551616 ≤ n → option_and_then (λ s. first_fit n (types_of base s)) s ≡ None
no_value n base None great = refl
no_value n base (Some s) great = beyond n base s great

-- what a constant is, by how many digits it has
pub constant-counted : (base : Base) (bs body : List ℕ) (count : ℕ) → base ≡ base_of bs → body ≡ body_of bs → count ≡ prefix_len (is_digit base) body
    → integer_constant bs ≡ constant_of base (take count body) (drop count body)
unfolding integer_constant
constant-counted base bs body count is_base is_body counted =
    rw (counted, is_base, is_body) (rw (taken (is_digit (base_of bs)) (body_of bs)) refl)

pub behind : (body : List ℕ) (count : ℕ) → count ≤ length body → slice_range body count (length body) ≡ drop count body
behind body count le = grind (arith, common_steps)

pub constant-empty : (base : Base) (bs body : List ℕ) (count : ℕ) → base ≡ base_of bs → body ≡ body_of bs → count ≡ prefix_len (is_digit base) body → count ≡ 0
    → None ≡ integer_constant bs
constant-empty base bs body count is_base is_body counted none =
    sym (constant-counted base bs body count is_base is_body counted ∙ rw none refl)

constant-read : (base : Base) (bs body ds suffix : List ℕ) (count : ℕ) → base ≡ base_of bs → body ≡ body_of bs → count ≡ prefix_len (is_digit base) body → 0 < count → count ≤ length body
    → ds ≡ take count body → suffix ≡ drop count body
    → integer_constant bs ≡ option_and_then (λ s. first_fit (number base ds) (types_of base s)) (suffix_of suffix)
constant-read base bs body ds suffix count is_base is_body counted some within is_digits is_suffix =
    let long : 0 < length (take count body) = omega (arith, length-take-le count body within) in
    constant-counted base bs body count is_base is_body counted ∙ rw (is_digits, is_suffix) (some_digits base (take count body) (drop count body) long)

pub constant-great : (base : Base) (bs body ds suffix : List ℕ) (count : ℕ) → base ≡ base_of bs → body ≡ body_of bs → count ≡ prefix_len (is_digit base) body → 0 < count → count ≤ length body
    → ds ≡ take count body → suffix ≡ drop count body → fitting 64 (number base ds) ≡ None
    → None ≡ integer_constant bs
constant-great base bs body ds suffix count is_base is_body counted some within is_digits is_suffix none =
    sym (constant-read base bs body ds suffix count is_base is_body counted some within is_digits is_suffix
    ∙ no_value (number base ds) base (suffix_of suffix) (fitting-none (number base ds) none))

pub constant-spelt : (base : Base) (bs body ds suffix : List ℕ) (count value : ℕ) (read : Option Suffix) → base ≡ base_of bs → body ≡ body_of bs → count ≡ prefix_len (is_digit base) body → 0 < count → count ≤ length body
    → ds ≡ take count body → suffix ≡ drop count body → fitting 64 (number base ds) ≡ Some value → suffix_of suffix ≡ read
    → option_and_then (λ s. first_fit value (types_of base s)) read ≡ integer_constant bs
constant-spelt base bs body ds suffix count value read is_base is_body counted some within is_digits is_suffix valued spelt =
    let is : number base ds ≡ value = value-is (number base ds) value valued in
    sym (constant-read base bs body ds suffix count is_base is_body counted some within is_digits is_suffix ∙ rw (is, spelt) refl)
