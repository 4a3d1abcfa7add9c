-- The digits of an escape.
use Rattle.std.proofs.Common.{◌≡◌, ℕ, ◌+◌, ◌<◌, ◌≤◌, ◌&&◌, Bool, Some, None, arith, nat_lt, nat_le, lt-ltb, slice_range, true, false, List, drop, length, length-drop, refl}
use Rattle.std.specs.List.{prefix_len}
use Rattle.std.proofs.lemmas.Bool.{le-ltb, le-leb, lt-leb}
use Rattle.std.proofs.lemmas.Grind.{common_steps}
use Rattle.std.proofs.lemmas.List.Sums.{prefix_len-le-length}
use Rattle.c_literals.specs.declared.base.Base.{Base}
use Rattle.c_literals.specs.Digits.{fitting, number}
use Rattle.c_literals.specs.Escapes.{numbered}
use Rattle.c_literals.proofs.NumberLemmas.{fitting-none, value-is}

pub behind : (bs : List ℕ) (start : ℕ) → start ≤ length bs → slice_range bs start (length bs) ≡ drop start bs
behind bs start le = grind (arith, common_steps)

pub count-le : (p : ℕ → Bool) (bs : List ℕ) (start : ℕ) → start ≤ length bs → start + prefix_len p (drop start bs) ≤ length bs
count-le p bs start le = omega (arith, prefix_len-le-length p (drop start bs), length-drop start bs)

pub ruleset digit_steps = (behind, count-le)

and-no : (a : Bool) → (a && false) ≡ false
and-no true = refl
and-no false = refl

over : (bs : List ℕ) (base : Base) (from end : ℕ) → 255 < number base (slice_range bs from end) → numbered bs base from end ≡ None
over bs base from end great =
    let past : nat_le (number base (slice_range bs from end)) 255 ≡ false = lt-leb (number base (slice_range bs from end)) 255 great in
    rw (past, and-no (nat_lt from end)) refl

pub numbered-empty : (bs : List ℕ) (base : Base) (end : ℕ) → numbered bs base end end ≡ None
numbered-empty bs base end = let here : nat_lt end end ≡ false = le-ltb end end (omega arith) in rw here refl

pub numbered-beyond : (bs : List ℕ) (base : Base) (from end : ℕ) → fitting 64 (number base (slice_range bs from end)) ≡ None → numbered bs base from end ≡ None
numbered-beyond bs base from end none =
    let great = fitting-none (number base (slice_range bs from end)) none in
    over bs base from end (omega arith)

pub numbered-great : (bs : List ℕ) (base : Base) (from end value : ℕ) → fitting 64 (number base (slice_range bs from end)) ≡ Some value → 255 < value
    → numbered bs base from end ≡ None
numbered-great bs base from end value some great =
    let is = value-is (number base (slice_range bs from end)) value some in
    over bs base from end (omega arith)

pub numbered-byte : (bs : List ℕ) (base : Base) (from end value : ℕ) → fitting 64 (number base (slice_range bs from end)) ≡ Some value → value ≤ 255 → from < end
    → numbered bs base from end ≡ Some (record { byte = value; end = end })
numbered-byte bs base from end value some small lt =
    let is = value-is (number base (slice_range bs from end)) value some in
    let here : nat_lt from end ≡ true = lt-ltb from end lt in
    let fits : nat_le value 255 ≡ true = le-leb value 255 small in
    rw (is, here, fits) refl

pub ruleset numbered_steps = (numbered-empty, numbered-beyond, numbered-great, numbered-byte)
