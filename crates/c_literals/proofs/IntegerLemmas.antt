-- The first type in which a constant fits.
use Rattle.std.proofs.Common.{◌≡◌, ℕ, ◌<◌, ◌≤◌, arith, Option, Some, None, nat_lt, lt-ltb, Bool, true, false, cond, refl, ◌∙◌}
use Rattle.std.proofs.lemmas.Bool.{le-ltb}
use Rattle.c_literals.specs.declared.integer.IntegerConstant.{IntegerConstant}
use Rattle.c_literals.specs.declared.suffix.Rank.{Rank}
use Rattle.c_literals.specs.declared.suffix.Rank.TheVariants.{Int, Long, LongLong}
use Rattle.c_literals.specs.Suffixes.{is_short}
use Rattle.c_literals.specs.Integers.{constant, first_fit, unsigned_types, decimal_types, other_types}

-- a type that is tried again
twice : {A : Type 0} (b : Bool) (x y : A) → cond b x (cond b x y) ≡ cond b x y
twice true x y = refl
twice false x y = refl

both_twice : {A : Type 0} (a b : Bool) (x y z : A) → cond a x (cond b y (cond a x (cond b y z))) ≡ cond a x (cond b y z)
both_twice true b x y z = refl
both_twice false true x y z = refl
both_twice false false x y z = refl

either : {A : Type 0} (b : Bool) (x : A) → cond b x x ≡ x
either true x = refl
either false x = refl

all_fits : (value : ℕ) → value < 18446744073709551616 → nat_lt value 18446744073709551616 ≡ true
all_fits value lt = lt-ltb value 18446744073709551616 lt

-- each column of the table as tests of the value

unsigned-fit : (value : ℕ) (r : Rank) → nat_lt value 18446744073709551616 ≡ true
    → first_fit value (unsigned_types r) ≡ cond (is_short r) (cond (nat_lt value 4294967296) (Some (constant 4 false value)) (Some (constant 8 false value))) (Some (constant 8 false value))
unfolding first_fit
unsigned-fit value Int e = rw e (simp twice)
unsigned-fit value Long e = rw e refl
unsigned-fit value LongLong e = rw e refl

pub unsigned-short : (value : ℕ) (r : Rank) → is_short r ≡ true → value ≤ 4294967295 → first_fit value (unsigned_types r) ≡ Some (constant 4 false value)
unsigned-short value r short le =
    let fits : nat_lt value 4294967296 ≡ true = lt-ltb value 4294967296 (omega arith) in
    unsigned-fit value r (all_fits value (omega arith)) ∙ rw (short, fits) refl

pub unsigned-long : (value : ℕ) (r : Rank) → is_short r ≡ false → value < 18446744073709551616 → first_fit value (unsigned_types r) ≡ Some (constant 8 false value)
unsigned-long value r long lt = unsigned-fit value r (all_fits value lt) ∙ rw long refl

pub unsigned-great : (value : ℕ) (r : Rank) → 4294967295 < value → value < 18446744073709551616 → first_fit value (unsigned_types r) ≡ Some (constant 8 false value)
unsigned-great value r great lt =
    let past : nat_lt value 4294967296 ≡ false = le-ltb value 4294967296 (omega arith) in
    unsigned-fit value r (all_fits value lt) ∙ rw past (either (is_short r) (Some (constant 8 false value)))

pub ruleset unsigned_steps = (unsigned-short, unsigned-long, unsigned-great)

decimal-fit : (value : ℕ) (r : Rank)
    → first_fit value (decimal_types r) ≡ cond (is_short r) (cond (nat_lt value 2147483648) (Some (constant 4 true value)) (cond (nat_lt value 9223372036854775808) (Some (constant 8 true value)) None)) (cond (nat_lt value 9223372036854775808) (Some (constant 8 true value)) None)
unfolding first_fit
decimal-fit value Int = simp twice
decimal-fit value Long = refl
decimal-fit value LongLong = refl

pub decimal-short : (value : ℕ) (r : Rank) → is_short r ≡ true → value ≤ 2147483647 → first_fit value (decimal_types r) ≡ Some (constant 4 true value)
decimal-short value r short le =
    let fits : nat_lt value 2147483648 ≡ true = lt-ltb value 2147483648 (omega arith) in
    decimal-fit value r ∙ rw (short, fits) refl

pub decimal-long : (value : ℕ) (r : Rank) → is_short r ≡ false → value ≤ 9223372036854775807 → first_fit value (decimal_types r) ≡ Some (constant 8 true value)
decimal-long value r long le =
    let fits : nat_lt value 9223372036854775808 ≡ true = lt-ltb value 9223372036854775808 (omega arith) in
    decimal-fit value r ∙ rw (long, fits) refl

pub decimal-great : (value : ℕ) (r : Rank) → 2147483647 < value → value ≤ 9223372036854775807 → first_fit value (decimal_types r) ≡ Some (constant 8 true value)
decimal-great value r great le =
    let past : nat_lt value 2147483648 ≡ false = le-ltb value 2147483648 (omega arith) in
    let fits : nat_lt value 9223372036854775808 ≡ true = lt-ltb value 9223372036854775808 (omega arith) in
    decimal-fit value r ∙ rw (past, fits) (either (is_short r) (Some (constant 8 true value)))

pub decimal-none : (value : ℕ) (r : Rank) → 9223372036854775807 < value → first_fit value (decimal_types r) ≡ None
decimal-none value r great =
    let past : nat_lt value 2147483648 ≡ false = le-ltb value 2147483648 (omega arith) in
    let beyond : nat_lt value 9223372036854775808 ≡ false = le-ltb value 9223372036854775808 (omega arith) in
    decimal-fit value r ∙ rw (past, beyond) (either (is_short r) None)

pub ruleset decimal_steps = (decimal-short, decimal-long, decimal-great, decimal-none)

-- the types of 8 bytes
abbrev longs : ℕ → Option IntegerConstant
longs value = cond (nat_lt value 9223372036854775808) (Some (constant 8 true value)) (Some (constant 8 false value))

other-fit : (value : ℕ) (r : Rank) → nat_lt value 18446744073709551616 ≡ true
    → first_fit value (other_types r) ≡ cond (is_short r) (cond (nat_lt value 2147483648) (Some (constant 4 true value)) (cond (nat_lt value 4294967296) (Some (constant 4 false value)) (longs value))) (longs value)
unfolding first_fit
other-fit value Int e = rw e (simp both_twice)
other-fit value Long e = rw e refl
other-fit value LongLong e = rw e refl

pub other-short : (value : ℕ) (r : Rank) → is_short r ≡ true → value ≤ 2147483647 → first_fit value (other_types r) ≡ Some (constant 4 true value)
other-short value r short le =
    let fits : nat_lt value 2147483648 ≡ true = lt-ltb value 2147483648 (omega arith) in
    other-fit value r (all_fits value (omega arith)) ∙ rw (short, fits) refl

pub other-unsigned : (value : ℕ) (r : Rank) → is_short r ≡ true → 2147483647 < value → value ≤ 4294967295 → first_fit value (other_types r) ≡ Some (constant 4 false value)
other-unsigned value r short great le =
    let past : nat_lt value 2147483648 ≡ false = le-ltb value 2147483648 (omega arith) in
    let fits : nat_lt value 4294967296 ≡ true = lt-ltb value 4294967296 (omega arith) in
    other-fit value r (all_fits value (omega arith)) ∙ rw (short, past, fits) refl

pub other-long : (value : ℕ) (r : Rank) → is_short r ≡ false → value ≤ 9223372036854775807 → first_fit value (other_types r) ≡ Some (constant 8 true value)
other-long value r long le =
    let fits : nat_lt value 9223372036854775808 ≡ true = lt-ltb value 9223372036854775808 (omega arith) in
    other-fit value r (all_fits value (omega arith)) ∙ rw (long, fits) refl

other-beyond : (value : ℕ) (r : Rank) → 4294967295 < value → value < 18446744073709551616 → first_fit value (other_types r) ≡ longs value
other-beyond value r great lt =
    let past : nat_lt value 2147483648 ≡ false = le-ltb value 2147483648 (omega arith) in
    let beyond : nat_lt value 4294967296 ≡ false = le-ltb value 4294967296 (omega arith) in
    other-fit value r (all_fits value lt) ∙ rw (past, beyond) (either (is_short r) (longs value))

pub other-great : (value : ℕ) (r : Rank) → 4294967295 < value → value ≤ 9223372036854775807 → first_fit value (other_types r) ≡ Some (constant 8 true value)
other-great value r great le =
    let fits : nat_lt value 9223372036854775808 ≡ true = lt-ltb value 9223372036854775808 (omega arith) in
    other-beyond value r great (omega arith) ∙ rw fits refl

pub other-greatest : (value : ℕ) (r : Rank) → 9223372036854775807 < value → value < 18446744073709551616 → first_fit value (other_types r) ≡ Some (constant 8 false value)
other-greatest value r great lt =
    let past : nat_lt value 9223372036854775808 ≡ false = le-ltb value 9223372036854775808 (omega arith) in
    other-beyond value r (omega arith) lt ∙ rw past refl

pub ruleset other_steps = (other-short, other-unsigned, other-long, other-great, other-greatest)
