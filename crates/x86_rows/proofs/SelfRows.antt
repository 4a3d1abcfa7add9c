-- Where both operands are read alike, the row of an operation on one register gives the values that its row on any two
-- does.
use Rattle.std.proofs.Common.{◌≡◌, ℕ, ◌+◌, ◌*◌, ◌%◌, ◌==◌, nat_lt, List, [], ◌∷◌, count_ones, arith, ap, subst, sym, ◌∙◌}
use Rattle.std.proofs.lemmas.Bool.Decides.{nat_tests}
use Rattle.std.specs.Int.Bits.{xor_self, bit_xor}
use Rattle.asm_core.specs.Function.{modulus_of, bit, differ, sign_of, difference_of, borrow_of, difference_overflow_of}
use Rattle.asm_core.specs.MicroOps.{values_of}
use Rattle.asm_core.specs.RowTerms.{arg, flag}
use Rattle.asm_core.specs.Table.Arithmetic.{xor_row, xor_self_row, sub_row, sub_self_row, sbb_row, sbb_self_row}
use Rattle.asm_core.specs.declared.flag.Flag.{Flag}
use Rattle.asm_core.specs.declared.inst.Width.{Width}
use Rattle.asm_core.specs.declared.micro_op.Input.{Input}

difference_alike : (w : Width) (x z : ℕ) → difference_of (modulus_of w) x x z ≡ difference_of (modulus_of w) 0 0 z
difference_alike Width.B x z = omega arith
difference_alike Width.W x z = omega arith
difference_alike Width.L x z = omega arith
difference_alike Width.Q x z = omega arith

less_alike : (a b : ℕ) → nat_lt a (a + b) ≡ nat_lt 0 (0 + b)
less_alike a b = grind (arith, nat_tests)

borrow_alike : (w : Width) (x z : ℕ) → borrow_of (modulus_of w) x x z ≡ borrow_of (modulus_of w) 0 0 z
borrow_alike Width.B x z = ap bit (less_alike (x % 256) (z % 2))
borrow_alike Width.W x z = ap bit (less_alike (x % 65536) (z % 2))
borrow_alike Width.L x z = ap bit (less_alike (x % 4294967296) (z % 2))
borrow_alike Width.Q x z = ap bit (less_alike (x % 18446744073709551616) (z % 2))

adjust_alike : (x z : ℕ) → borrow_of 16 x x z ≡ borrow_of 16 0 0 z
adjust_alike x z = ap bit (less_alike (x % 16) (z % 2))

never_differs : (s t u : ℕ) → differ s s * differ s t ≡ differ 0 0 * u
never_differs s t u =
    let none : differ s s ≡ 0 = omega arith in
    let gone : 0 * differ s t ≡ 0 * u = omega arith in
    ap (λ d. d * differ s t) none ∙ gone

differs_alike : (m x z : ℕ) → difference_overflow_of m x x z ≡ differ 0 0 * differ 0 (sign_of m (difference_of m 0 0 z))
differs_alike m x z =
    never_differs (sign_of m x) (sign_of m (difference_of m x x z)) (differ 0 (sign_of m (difference_of m 0 0 z)))

overflow_alike : (w : Width) (x z : ℕ)
    → difference_overflow_of (modulus_of w) x x z ≡ difference_overflow_of (modulus_of w) 0 0 z
overflow_alike Width.B x z = differs_alike 256 x z
overflow_alike Width.W x z = differs_alike 65536 x z
overflow_alike Width.L x z = differs_alike 4294967296 x z
overflow_alike Width.Q x z = differs_alike 18446744073709551616 x z

-- the seven values of a difference and its flags, given four of them
abbrev seven : Width → ℕ → ℕ → ℕ → ℕ → List ℕ
seven w v carry adjust overflow =
    v ∷ carry ∷ (count_ones (v % 256) + 1) % 2 ∷ adjust ∷ bit (v % modulus_of w == 0) ∷ sign_of (modulus_of w) v ∷ overflow ∷ []

abbrev less : Width → ℕ → ℕ → ℕ → List ℕ
less w x y z =
    seven w (difference_of (modulus_of w) x y z) (borrow_of (modulus_of w) x y z) (borrow_of 16 x y z)
    (difference_overflow_of (modulus_of w) x y z)

seven_alike : (w : Width) (v v' c c' a a' o o' : ℕ) → v ≡ v' → c ≡ c' → a ≡ a' → o ≡ o'
    → seven w v c a o ≡ seven w v' c' a' o'
seven_alike w v v' c c' a a' o o' value carry adjust overflow = cc (value, carry, adjust, overflow)

less_itself : (w : Width) (x y z : ℕ) → y ≡ x → less w x y z ≡ less w 0 0 z
less_itself w x y z e =
    subst (λ y. less w x y z ≡ less w 0 0 z) (sym e)
    (seven_alike w _ _ _ _ _ _ _ _ (difference_alike w x z) (borrow_alike w x z) (adjust_alike x z) (overflow_alike w x z))

pub sub_itself : (w : Width) (env : Input → ℕ) → env (arg 0) ≡ env (arg 1)
    → values_of w env sub_row ≡ values_of w env sub_self_row
sub_itself w env e = less_itself w (env (arg 1)) (env (arg 0)) 0 e

pub sbb_itself : (w : Width) (env : Input → ℕ) → env (arg 0) ≡ env (arg 1)
    → values_of w env sbb_row ≡ values_of w env sbb_self_row
sbb_itself w env e = less_itself w (env (arg 1)) (env (arg 0)) (env (flag Flag.Cf)) e

-- the seven values of a bitwise operation and its flags, given the undefined bit
abbrev bitwise : Width → ℕ → ℕ → List ℕ
bitwise w v undefined =
    v ∷ 0 ∷ (count_ones (v % 256) + 1) % 2 ∷ undefined ∷ bit (v % modulus_of w == 0) ∷ sign_of (modulus_of w) v ∷ 0 ∷ []

pub xor_itself : (w : Width) (env : Input → ℕ) → env (arg 0) ≡ env (arg 1)
    → values_of w env xor_row ≡ values_of w env xor_self_row
xor_itself w env e =
    ap (λ v. bitwise w v (env (Input.Undefined 2)))
    (same (env (arg 1) % modulus_of w) (env (arg 0) % modulus_of w) (ap (λ n. n % modulus_of w) e))
  where
    same : (a b : ℕ) → b ≡ a → bit_xor a b ≡ 0
    same a b alike = subst (λ b. bit_xor a b ≡ 0) (sym alike) (xor_self a)
