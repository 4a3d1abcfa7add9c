-- One digit of a number.
use Rattle.std.proofs.Common.{◌≡◌, ℕ, ◌+◌, ◌*◌, ◌^◌, ◌<◌, ◌≤◌, ◌∙◌, arith, sym, inl, inr, true, false, lt-ltb, Some, None, nat_lt, List, [], ◌∷◌, length, refl, lit<}
use Rattle.std.proofs.Math.Nat.{add-mul, mul_assoc, pow-succ', one-le-pow, pow-zero, mul-le-mul_left}
use Rattle.std.proofs.lemmas.Bool.{le-ltb, ltb-true, cases_lt}
use Rattle.std.proofs.lemmas.Option.{none-some, cond_some}
use Rattle.c_literals.specs.declared.base.Base.{Base}
use Rattle.c_literals.specs.declared.base.Base.TheVariants.{Octal, Decimal, Hexadecimal}
use Rattle.c_literals.specs.Digits.{digit_value, fitting, number, radix}

-- what the digits make behind a number that was read already
abbrev pub number_behind : Base → ℕ → List ℕ → ℕ
number_behind base value ds = value * radix base ^ length ds + number base ds

-- one digit more, over plain numbers
shifted : (value radix digit power rest : ℕ) → value * (radix * power) + (digit * power + rest) ≡ (value * radix + digit) * power + rest
shifted value radix digit power rest =
    let apart : (value * radix + digit) * power ≡ value * radix * power + digit * power = add-mul (value * radix) digit power in
    let grouped : value * radix * power ≡ value * (radix * power) = mul_assoc value radix power in
    omega (arith, apart, grouped)

number-digit : (base : Base) (value d : ℕ) (ds : List ℕ) → number_behind base value (d ∷ ds) ≡ number_behind base (value * radix base + digit_value d) ds
unfolding number
number-digit base value d ds = rw (pow-succ' (radix base) (length ds)) (shifted value (radix base) (digit_value d) (radix base ^ length ds) (number base ds))

pub number-start : (base : Base) (ds : List ℕ) → number_behind base 0 ds ≡ number base ds
number-start base ds = grind arith

radix-positive : (base : Base) → 0 < radix base
radix-positive Octal = lit< tt
radix-positive Decimal = lit< tt
radix-positive Hexadecimal = lit< tt

-- no digits make a number smaller
pub number-grows : (base : Base) (value : ℕ) (ds : List ℕ) → value ≤ number_behind base value ds
number-grows base value ds =
    let some : 1 ≤ radix base ^ length ds = one-le-pow (length ds) (radix base) (radix-positive base) in
    let further : value * 1 ≤ value * radix base ^ length ds = mul-le-mul_left value some in
    omega (arith, further)

-- a number that is 2^64 at least
pub fitting-none : (n : ℕ) → fitting 64 n ≡ None → 18446744073709551616 ≤ n
fitting-none n none = elim (cases_lt n 18446744073709551616) [
  | inl small ↦ (let fits : nat_lt n 18446744073709551616 ≡ true = lt-ltb n 18446744073709551616 small in
      let there : fitting 64 n ≡ Some n = rw fits refl in let clash : Some n ≡ None = sym there ∙ none in absurd (none-some n (sym clash)))
  | inr big ↦ big
]

-- all digits are read
pub number_whole : (base : Base) (value : ℕ) (digits rest : List ℕ) → rest ≡ [] → value < 18446744073709551616
    → number_behind base value rest ≡ number base digits → Some value ≡ fitting 64 (number base digits)
unfolding number
number_whole base value digits rest done lt same =
    let one : radix base ^ 0 ≡ 1 = pow-zero (radix base) in
    let here : number_behind base value [] ≡ value = rw one (omega arith) in
    let whole : number base digits ≡ value = rw done at (sym same) ∙ here in
    let fits : nat_lt value 18446744073709551616 ≡ true = lt-ltb value 18446744073709551616 lt in
    rw (whole, fits) refl

-- one more digit goes past 64 bits
pub number_past : (base : Base) (value d : ℕ) (digits rest later : List ℕ) → rest ≡ d ∷ later → fitting 64 (value * radix base + digit_value d) ≡ None
    → number_behind base value rest ≡ number base digits → None ≡ fitting 64 (number base digits)
number_past base value d digits rest later more none same =
    let great : 18446744073709551616 ≤ value * radix base + digit_value d = fitting-none (value * radix base + digit_value d) none in
    let grown : value * radix base + digit_value d ≤ number_behind base (value * radix base + digit_value d) later = number-grows base (value * radix base + digit_value d) later in
    let step : number base digits ≡ number_behind base (value * radix base + digit_value d) later = (rw more at (sym same)) ∙ number-digit base value d later in
    let past : nat_lt (number base digits) 18446744073709551616 ≡ false = le-ltb (number base digits) 18446744073709551616 (omega arith) in
    rw past refl

pub value-is : (n v : ℕ) → fitting 64 n ≡ Some v → n ≡ v
value-is n v some = (cond_some (nat_lt n 18446744073709551616) n v some).1

pub fitting-below : (n v : ℕ) → fitting 64 n ≡ Some v → v < 18446744073709551616
fitting-below n v some =
    let both = cond_some (nat_lt n 18446744073709551616) n v some in
    let small = ltb-true n 18446744073709551616 both.0 in
    omega (arith, small, both.1)

-- one more digit is read
pub number_more : (base : Base) (value d next : ℕ) (digits rest later : List ℕ) → rest ≡ d ∷ later → fitting 64 (value * radix base + digit_value d) ≡ Some next
    → number_behind base value rest ≡ number base digits → number_behind base next later ≡ number base digits
number_more base value d next digits rest later more some same =
    let is : value * radix base + digit_value d ≡ next = (cond_some (nat_lt (value * radix base + digit_value d) 18446744073709551616) (value * radix base + digit_value d) next some).1 in
    let here : number_behind base value (d ∷ later) ≡ number base digits = rw more at same in
    rw (← is) (sym (number-digit base value d later) ∙ here)

pub ruleset number_steps = (number-start)
