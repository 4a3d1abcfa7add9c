-- The numbers that labels are.
use Rattle.std.proofs.Common.{◌≡◌, ℕ, suc, ◌+◌, ◌-◌, ◌*◌, ◌^◌, ◌<◌, ◌≤◌, nat_le, nat_lt, Bool, true, false, cond, ◌&&◌, List, [], ◌∷◌, ◌++◌, length, map, reverse, take, drop, get_or, Option, None, Some, refl, sym, ap, ◌∙◌, arith, append_assoc, find}
use Rattle.std.proofs.lemmas.List.{append-nil}
use Rattle.std.proofs.lemmas.Bool.{le-leb, leb-true, lt-ltb}
use Rattle.std.proofs.lemmas.Bool.Decides.{nat_tests}
use Rattle.std.proofs.lemmas.Int.Digits.{digits_value-lt}
use Rattle.std.proofs.Math.Nat.{pow-le-pow_right}
use Rattle.std.specs.Char.{digit_value}
use Rattle.std.specs.List.{list_all}
use Rattle.std.specs.Str.Parse.{digits_value, AllDigits}
use Rattle.asm_core.specs.Reading.Cut.{is_digit, is_number_label}
use Rattle.asm_core.specs.Reading.Written.{not_above, numeral_value}

digit_is : (c : ℕ) → is_digit c ≡ true → digit_value c < 10
digit_is c e = grind (arith, nat_tests)

and_both : (a b : Bool) → (a && b) ≡ true → (a ≡ true) × (b ≡ true)
and_both true b e = (refl, e)
and_both false b e = cc

all_digits : (w : List ℕ) → list_all is_digit w ≡ true → AllDigits 10 w × (list_all (λ d. nat_lt (digit_value d) 10) w ≡ true)
all_digits [] e = (tt, refl)
all_digits (c ∷ cs) e =
    let first = and_both (is_digit c) (list_all is_digit cs) e in
    let rest = all_digits cs first.1 in
    let small = digit_is c first.0 in
    let tested : nat_lt (digit_value c) 10 ≡ true = lt-ltb (digit_value c) 10 small in
    ((small, rest.0), rw (tested, rest.1) refl)

pub label_number_is : (w : List ℕ) → is_number_label w ≡ true → not_above (numeral_value 10 w) 9999 ≡ Some (digits_value 10 w)
label_number_is w e =
    let some = and_both (nat_lt 0 (length w)) (nat_le (length w) 4 && list_all is_digit w) e in
    let few = and_both (nat_le (length w) 4) (list_all is_digit w) some.1 in
    let digits = all_digits w few.1 in
    let less : digits_value 10 w < 10 ^ length w = digits_value-lt 10 w digits.0 in
    let most : 10 ^ length w ≤ 10 ^ 4 = pow-le-pow_right (omega arith) (leb-true (length w) 4 few.0) in
    let small : digits_value 10 w ≤ 9999 = omega arith in
    rw (some.0, digits.1, le-leb (digits_value 10 w) 9999 small) refl

pub ruleset label_steps = (append_assoc, append-nil)
