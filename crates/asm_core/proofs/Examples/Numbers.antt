-- Numbers read to a width.
use Rattle.std.proofs.Common.{◌≡◌, pos, negsuc, refl}
use Rattle.asm_core.specs.Memory.{modulo}

minus_one : modulo (negsuc 0) 32 ≡ 4294967295
minus_one = refl

minus_one_byte : modulo (negsuc 0) 8 ≡ 255
minus_one_byte = refl

minus_256_byte : modulo (negsuc 255) 8 ≡ 0
minus_256_byte = refl

least : modulo (negsuc 2147483647) 32 ≡ 2147483648
least = refl

greatest_byte : modulo (pos 4294967295) 8 ≡ 255
greatest_byte = refl
