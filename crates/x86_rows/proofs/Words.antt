-- Numbers of several bytes.
use Rattle.std.proofs.Common.{ℕ, zero, suc, ◌+◌, ◌-◌, ◌*◌, ◌^◌, ◌<◌, ◌≤◌, arith}

-- one byte more below a number of at most 7 bytes
pub byte_below : (n b x : ℕ) → 0 < n → n ≤ 8 → b < 256 → x < 256 ^ (n - 1) → b + 256 * x < 256 ^ n
byte_below zero b x some few byte rest = absurd (omega arith)
byte_below (suc zero) b x some few byte rest = omega arith
byte_below (suc (suc zero)) b x some few byte rest = omega arith
byte_below (suc (suc (suc zero))) b x some few byte rest = omega arith
byte_below (suc (suc (suc (suc zero)))) b x some few byte rest = omega arith
byte_below (suc (suc (suc (suc (suc zero))))) b x some few byte rest = omega arith
byte_below (suc (suc (suc (suc (suc (suc zero)))))) b x some few byte rest = omega arith
byte_below (suc (suc (suc (suc (suc (suc (suc zero))))))) b x some few byte rest = omega arith
byte_below (suc (suc (suc (suc (suc (suc (suc (suc zero)))))))) b x some few byte rest = omega arith
byte_below (suc (suc (suc (suc (suc (suc (suc (suc (suc n))))))))) b x some few byte rest = absurd (omega arith)

pub bytes_small : (n x : ℕ) → n ≤ 8 → x < 256 ^ n → x < 2 ^ 64
bytes_small zero x few h = omega arith
bytes_small (suc zero) x few h = omega arith
bytes_small (suc (suc zero)) x few h = omega arith
bytes_small (suc (suc (suc zero))) x few h = omega arith
bytes_small (suc (suc (suc (suc zero)))) x few h = omega arith
bytes_small (suc (suc (suc (suc (suc zero))))) x few h = omega arith
bytes_small (suc (suc (suc (suc (suc (suc zero)))))) x few h = omega arith
bytes_small (suc (suc (suc (suc (suc (suc (suc zero))))))) x few h = omega arith
bytes_small (suc (suc (suc (suc (suc (suc (suc (suc zero)))))))) x few h = omega arith
bytes_small (suc (suc (suc (suc (suc (suc (suc (suc (suc n))))))))) x few h = absurd (omega arith)
