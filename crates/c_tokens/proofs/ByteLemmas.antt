-- Which bytes begin tokens of which kind: the classes are apart, and each byte is of one.
use Rattle.std.proofs.Common.{◌≡◌, ℕ, ◌<◌, ◌⊎◌, inl, inr, Bool, true, false, [], ◌∷◌, refl, arith, ◌==◌, ◌||◌, ◌&&◌, nat_le}
use Rattle.std.proofs.lemmas.Bool.{eqb-true, leb-true, leb-false, agree_below_at, false_from_ne_true, and_parts, or_cases, or_parts}
use Rattle.c_tokens.specs.Bytes.{is_space, is_digit, begins_name, continues_name, is_quote}
use Rattle.c_tokens.specs.Puncts.{ones, one_of}
use Rattle.c_tokens.specs.Cut.{is_bad}

-- the first byte of the prefixes of literals
abbrev pub begins_prefix : ℕ → Bool
begins_prefix b = (b == 76) || (b == 117) || (b == 85)

abbrev pub begins_literal : ℕ → Bool
begins_literal b = is_quote b || begins_prefix b

abbrev pub digit_or_dot : ℕ → Bool
digit_or_dot b = is_digit b || (b == 46)

pub quote_cases : (k : ℕ) → is_quote k ≡ true → (k ≡ 34) ⊎ (k ≡ 39)
quote_cases k e =
    elim (or_cases (k == 34) (k == 39) e) [ inl f ↦ inl (eqb-true k 34 f) | inr g ↦ inr (eqb-true k 39 g) ]

pub quote_some : (k : ℕ) → is_quote k ≡ true → 0 < k
quote_some k e = elim (quote_cases k e) [ inl is ↦ omega (arith, is) | inr is ↦ omega (arith, is) ]

pub digit_some : (b : ℕ) → is_digit b ≡ true → 0 < b
digit_some b e =
    let parts = and_parts (nat_le 48 b) (nat_le b 57) e in
    let low = leb-true 48 b parts.0 in
    omega (arith, low)

-- a name has no quote in it
pub quote_ends_name : (b : ℕ) → continues_name b ≡ true → is_quote b ≡ false
quote_ends_name b h = false_from_ne_true (is_quote b) (λ q. elim (quote_cases b q) [
  | inl is ↦ let no_name : continues_name 34 ≡ true = rw is at h in cc
  | inr is ↦ let no_name : continues_name 39 ≡ true = rw is at h in cc
])

prefix_cases : (b : ℕ) → begins_prefix b ≡ true → (b ≡ 76) ⊎ ((b ≡ 117) ⊎ (b ≡ 85))
prefix_cases b h = elim (or_cases ((b == 76) || (b == 117)) (b == 85) h) [
  | inl two ↦ elim (or_cases (b == 76) (b == 117) two)
      [ inl e ↦ inl (eqb-true b 76 e) | inr e ↦ inr (inl (eqb-true b 117 e)) ]
  | inr e ↦ inr (inr (eqb-true b 85 e))
]

pub prefix_no_quote : (b : ℕ) → begins_prefix b ≡ true → is_quote b ≡ false
prefix_no_quote b h = false_from_ne_true (is_quote b) (λ q. elim (quote_cases b q) [
  | inl is ↦ let no_prefix : begins_prefix 34 ≡ true = rw is at h in cc
  | inr is ↦ let no_prefix : begins_prefix 39 ≡ true = rw is at h in cc
])

pub prefix_some : (b : ℕ) → begins_prefix b ≡ true → 0 < b
prefix_some b h = elim (prefix_cases b h) [
  | inl is ↦ omega (arith, is)
  | inr two ↦ elim two [ inl is ↦ omega (arith, is) | inr is ↦ omega (arith, is) ]
]

digit_or_dot_low : (b : ℕ) → digit_or_dot b ≡ true → b < 128
digit_or_dot_low b h = elim (or_cases (is_digit b) (b == 46) h) [
  | inl e ↦
      let parts = and_parts (nat_le 48 b) (nat_le b 57) e in
      let high = leb-true b 57 parts.1 in
      omega (arith, high)
  | inr e ↦ let is = eqb-true b 46 e in omega (arith, is)
]

bad_low : (b : ℕ) → is_bad b ≡ true → b < 128
bad_low b h =
    elim (or_cases (nat_le b 8 || (nat_le 14 b && nat_le b 31) || (b == 64) || (b == 92) || (b == 96)) (b == 127) h) [
      | inr e ↦ let is = eqb-true b 127 e in omega (arith, is)
      | inl h4 ↦ elim (or_cases (nat_le b 8 || (nat_le 14 b && nat_le b 31) || (b == 64) || (b == 92)) (b == 96) h4) [
        | inr e ↦ let is = eqb-true b 96 e in omega (arith, is)
        | inl h3 ↦ elim (or_cases (nat_le b 8 || (nat_le 14 b && nat_le b 31) || (b == 64)) (b == 92) h3) [
          | inr e ↦ let is = eqb-true b 92 e in omega (arith, is)
          | inl h2 ↦ elim (or_cases (nat_le b 8 || (nat_le 14 b && nat_le b 31)) (b == 64) h2) [
            | inr e ↦ let is = eqb-true b 64 e in omega (arith, is)
            | inl h1 ↦ elim (or_cases (nat_le b 8) (nat_le 14 b && nat_le b 31) h1) [
              | inl e ↦ let high = leb-true b 8 e in omega (arith, high)
              | inr e ↦
                  let parts = and_parts (nat_le 14 b) (nat_le b 31) e in
                  let high = leb-true b 31 parts.1 in
                  omega (arith, high)
            ]
          ]
        ]
      ]
    ]

-- what begins a number begins no name and no literal
pub number_begins_no_other : (b : ℕ) → digit_or_dot b ≡ true → (begins_name b ≡ false) × (begins_literal b ≡ false)
number_begins_no_other b h =
    let apart : (digit_or_dot b && (begins_name b || begins_literal b)) ≡ false =
    agree_below_at (λ x. digit_or_dot x && (begins_name x || begins_literal x)) (λ x. false) 128 b refl
    (digit_or_dot_low b h) in
    or_parts (begins_name b) (begins_literal b) (rw h at apart)

-- no literal begins with a bad byte
pub bad_begins_no_literal : (b : ℕ) → is_bad b ≡ true → begins_literal b ≡ false
bad_begins_no_literal b h =
    let apart : (is_bad b && begins_literal b) ≡ false =
    agree_below_at (λ x. is_bad x && begins_literal x) (λ x. false) 128 b refl (bad_low b h) in
    rw h at apart

-- each byte below 128 is of one of these classes
abbrev is_known : ℕ → Bool
is_known b = is_space b || begins_name b || is_digit b || is_quote b || one_of ones (b ∷ []) || is_bad b

known : (b : ℕ) → b < 128 → is_known b ≡ true
known b lt = agree_below_at is_known (λ x. true) 128 b refl lt

-- a byte that is of no other class is bad
pub bad : (b : ℕ) → is_space b ≡ false → begins_name b ≡ false → is_digit b ≡ false → is_quote b ≡ false
    → one_of ones (b ∷ []) ≡ false → is_bad b ≡ true
bad b s n d q o =
    let high = or_parts _ (nat_le 128 b) n in
    let low : b < 128 = leb-false 128 b high.1 in
    last (is_space b) (begins_name b) (is_digit b) (is_quote b) (one_of ones (b ∷ [])) (is_bad b) s n d q o
    (known b low)
  where
    last : (s n d q o r : Bool) → s ≡ false → n ≡ false → d ≡ false → q ≡ false → o ≡ false
        → (s || n || d || q || o || r) ≡ true → r ≡ true
    last s n d q o r e1 e2 e3 e4 e5 h = rw (e1, e2, e3, e4, e5) at h
