-- Digits one by one.
use Rattle.std.proofs.Common.{◌≡◌, ◌∙◌, ◌<◌, ◌≤◌, ◌+◌, ◌*◌, nat_lt, nat_le, ℕ, List, [], ◌∷◌, length, drop, get_or, Option, Some, None, Bool, true, false, if◌then◌else◌, lt-ltb, refl, arith}
use Rattle.std.proofs.lemmas.List.{drop_more, drop_all}
use Rattle.std.proofs.Math.Nat.{le-mul_of_pos_right}
use Rattle.std.proofs.lemmas.Bool.{le-leb, lt-leb}
use Rattle.std.proofs.lemmas.Bool.Decides.{nat_tests}
use Rattle.std.specs.List.{list_all}
use Rattle.std.specs.Char.{digit_value}
use Rattle.std.specs.Str.Parse.{digits_value_after}
use Rattle.asm_core.specs.Reading.Written.{not_above, numeral_value}
use Rattle.att_reader.specs.Number.{more_digits}

abbrev pub all_digits : ℕ → List ℕ → Bool
all_digits radix ds = list_all (λ d. nat_lt (digit_value d) radix) ds

-- what the digits write behind those of n
unfoldable pub value_behind : ℕ → ℕ → ℕ → List ℕ → Option ℕ
value_behind radix limit n ds =
    not_above (if all_digits radix ds then Some (digits_value_after radix n ds) else None) limit

-- more digits write no lesser number
grows : (radix n : ℕ) (ds : List ℕ) → 1 ≤ radix → n ≤ digits_value_after radix n ds
grows radix n [] some = omega arith
grows radix n (d ∷ ds) some =
    let rest = grows radix (n * radix + digit_value d) ds some in
    let more : n ≤ n * radix = le-mul_of_pos_right n (omega arith) in
    omega (arith, rest)

above : (limit n : ℕ) (b : Bool) → limit < n → not_above (if b then Some n else None) limit ≡ None
above limit n false lt = refl
above limit n true lt = rw (lt-leb n limit lt) refl

-- the value where both tests hold
abbrev pub where_both : Bool → Bool → Option ℕ → Option ℕ
where_both b small value = if b then (if small then value else None) else None

digit_by : (radix limit n d : ℕ) (ds : List ℕ) (b small : Bool) → 1 ≤ radix → nat_lt (digit_value d) radix ≡ b
    → nat_le (n * radix + digit_value d) limit ≡ small
    → value_behind radix limit n (d ∷ ds) ≡ where_both b small (value_behind radix limit (n * radix + digit_value d) ds)
unfolding value_behind
digit_by radix limit n d ds false small some is le = rw is refl
digit_by radix limit n d ds true true some is le = rw is refl
digit_by radix limit n d ds true false some is le =
    let more = n * radix + digit_value d in
    let past : limit < more = grind (arith, nat_tests) in
    let rest = grows radix more ds some in
    let far : limit < digits_value_after radix more ds = omega (arith, rest) in
    rw is (above limit (digits_value_after radix more ds) (all_digits radix ds) far)

abbrev is_in : ℕ → ℕ → Bool
is_in radix d = nat_lt (digit_value d) radix

abbrev is_small : ℕ → ℕ → ℕ → ℕ → Bool
is_small radix limit n d = nat_le (n * radix + digit_value d) limit

digit_step : (radix limit n d : ℕ) (ds : List ℕ) → 1 ≤ radix
    → value_behind radix limit n (d ∷ ds)
    ≡ where_both (is_in radix d) (is_small radix limit n d) (value_behind radix limit (n * radix + digit_value d) ds)
digit_step radix limit n d ds some =
    digit_by radix limit n d ds (is_in radix d) (is_small radix limit n d) some refl refl

taken_by : (b small : Bool) (more m : ℕ) (P : ℕ → Option ℕ) → where_both b small (Some more) ≡ Some m
    → where_both b small (P more) ≡ P m
taken_by true true more m P e = let same : more ≡ m = cc in rw same refl
taken_by true false more m P e = cc
taken_by false small more m P e = cc

refused_by : (b small : Bool) (more : ℕ) (P : ℕ → Option ℕ) → where_both b small (Some more) ≡ None
    → where_both b small (P more) ≡ None
refused_by true true more P e = cc
refused_by true false more P e = refl
refused_by false small more P e = refl

pub digit_taken : (radix limit n m : ℕ) (ds : List ℕ) (i : ℕ) → 2 ≤ radix → i < length ds
    → more_digits radix limit n (get_or ds i 0) ≡ Some m
    → value_behind radix limit n (drop i ds) ≡ value_behind radix limit m (drop (i + 1) ds)
digit_taken radix limit n m ds i some lt e =
    let d = get_or ds i 0 in
    let rest : ℕ → Option ℕ = λ k. value_behind radix limit k (drop (i + 1) ds) in
    rw (drop_more ds i 0 lt) (digit_step radix limit n d (drop (i + 1) ds) (omega arith)
    ∙ taken_by (is_in radix d) (is_small radix limit n d) (n * radix + digit_value d) m rest e)

pub digit_refused : (radix limit n : ℕ) (ds : List ℕ) (i : ℕ) → 2 ≤ radix → i < length ds
    → more_digits radix limit n (get_or ds i 0) ≡ None → value_behind radix limit n (drop i ds) ≡ None
digit_refused radix limit n ds i some lt e =
    let d = get_or ds i 0 in
    let rest : ℕ → Option ℕ = λ k. value_behind radix limit k (drop (i + 1) ds) in
    rw (drop_more ds i 0 lt) (digit_step radix limit n d (drop (i + 1) ds) (omega arith)
    ∙ refused_by (is_in radix d) (is_small radix limit n d) (n * radix + digit_value d) rest e)

pub digits_over : (radix limit n : ℕ) (ds : List ℕ) (i : ℕ) → length ds ≤ i → n ≤ limit
    → value_behind radix limit n (drop i ds) ≡ Some n
unfolding value_behind
digits_over radix limit n ds i le within = rw (drop_all i ds le, le-leb n limit within) refl

pub digits_all : (radix limit : ℕ) (ds : List ℕ) → 0 < length ds
    → not_above (numeral_value radix ds) limit ≡ value_behind radix limit 0 ds
unfolding value_behind
digits_all radix limit [] some = absurd (omega arith)
digits_all radix limit (d ∷ ds) some = rw (lt-ltb 0 (length (d ∷ ds)) some) refl

within_by : (b small : Bool) (more m limit : ℕ) → nat_le more limit ≡ small → where_both b small (Some more) ≡ Some m
    → m ≤ limit
within_by true true more m limit le e = let same : more ≡ m = cc in grind (arith, nat_tests)
within_by true false more m limit le e = absurd (cc)
within_by false small more m limit le e = absurd (cc)

pub digits_within : (radix limit n d m : ℕ) → more_digits radix limit n d ≡ Some m → m ≤ limit
digits_within radix limit n d m e =
    within_by (is_in radix d) (is_small radix limit n d) (n * radix + digit_value d) m limit refl e

pub ruleset numeral_steps = (digit_taken, digit_refused, digits_over, digits_all, digits_within)
