-- Depths as bits of a word.
use Rattle.std.proofs.Common.{◌≡◌, ◌≢◌, ℕ, zero, suc, ◌+◌, ◌-◌, ◌*◌, ◌/◌, ◌%◌, ◌^◌, ◌==◌, ◌&&◌, ◌<◌, ◌≤◌, nat_lt, nat_le, inl, inr, List, [], ◌∷◌, length, true, false, slice_index, slice_set, slice_get, get_or, min, bit_and, map, replicate, not, nat_eq, Some, ◌↔◌, w64, refl, sym, ap, ◌∙◌, arith}
use Rattle.std.specs.Int.{bit_at}
use Rattle.std.proofs.lemmas.Bool.{cases_lt, cases_eq}
use Rattle.std.proofs.lemmas.Bool.Decides.{nat_tests}
use Rattle.std.proofs.lemmas.List.{get_or_past, get_or-set_same, length-set}
use Rattle.std.proofs.lemmas.Option.{slice_get-map, get_or_from_slice_get}
use Rattle.std.specs.Option.{option_map}
use Rattle.std.proofs.lemmas.Nat.{and_le_l}
use Rattle.std.specs.Int.{bit_not, trailing_zeros}
use Rattle.asm_core.specs.declared.sym.Sym.{Sym}
use Rattle.asm_core.specs.declared.lines.Graph.{Graph}
use Rattle.asm_core.proofs.ShapeLaws.{inside_get}
use Rattle.std.proofs.lemmas.Nat.Bits.{bit_at-suc, bit_at-lt, bit_at_ones, bit_at_ones_above, bit_at_and, bit_at_lowest, bit_at-zero, bit_at_above, bit_at-trailing_zeros, bit_at_clear_same, bit_at_clear_other}
use Rattle.dataflow.specs.Bits.{facts_in}
use Rattle.blk_deps.specs.Ground.{has_bit}
use Rattle.blk_deps.specs.Ways.{size_of}
use Rattle.blk_deps.specs.Stack.{depths_behind, depths_by, depths_after}
use Rattle.blk_deps.specs.StackTable.{effect_of, HasDeep, HasTwo, depths_in, depth_number}
use Rattle.blk_deps.specs.MoveLaws.{depths_law}
use Rattle.blk_deps.proofs.FlowLemmas.{alike}
use Rattle.blk_deps.specs.declared.depth.Depth.{Depth}
use Rattle.blk_deps.specs.declared.effect.StackEffect.{StackEffect}

bit_of_double : (x n : ℕ) → bit_at (x * 2) (suc n) ≡ bit_at x n
bit_of_double x n = bit_at-suc (x * 2) n ∙ ap (λ y. bit_at y n) (let e : x * 2 / 2 ≡ x = omega arith in e)

low : (w n : ℕ) → has_bit (bit_and w 65535) n ≡ (nat_lt n 16 && has_bit w n)
low w n = elim (cases_lt n 16) [
  | inl lt ↦
      let below = bit_at-lt w n in
      let one : bit_at 65535 n ≡ 1 = bit_at_ones 16 n lt in
      let same : bit_at (bit_and w 65535) n ≡ bit_at w n = bit_at_and w 65535 n ∙ ap (min (bit_at w n)) one
      ∙ (let e : min (bit_at w n) 1 ≡ bit_at w n = omega (arith, below) in e) in
      ap (λ b. b == 1) same ∙ sym (ap (λ b. b && has_bit w n) (lt_yes n 16 lt))
  | inr ge ↦
      let none : bit_at 65535 n ≡ 0 = bit_at_ones_above 16 n ge in
      let same : bit_at (bit_and w 65535) n ≡ 0 = bit_at_and w 65535 n ∙ ap (min (bit_at w n)) none
      ∙ (let e : min (bit_at w n) 0 ≡ 0 = omega arith in e) in
      ap (λ b. b == 1) same ∙ sym (ap (λ b. b && has_bit w n) (lt_no n 16 ge))
] where
  lt_yes : (m k : ℕ) → m < k → nat_lt m k ≡ true
  lt_yes m k lt = grind (arith, nat_tests)

  lt_no : (m k : ℕ) → k ≤ m → nat_lt m k ≡ false
  lt_no m k le = grind (arith, nat_tests)

pub bits_pushed : (w n : ℕ) → has_bit (bit_and w 65535 * 2) n ≡ ((nat_lt 0 n && nat_le n 16) && has_bit w (n - 1))
bits_pushed w zero = ap (λ b. b == 1)
    (bit_at_lowest (bit_and w 65535 * 2) ∙ (let e : bit_and w 65535 * 2 % 2 ≡ 0 = omega arith in e))
bits_pushed w (suc n) =
    ap (λ b. b == 1) (bit_of_double (bit_and w 65535) n) ∙ low w n
    ∙ ap (λ b. b && has_bit w n) (tests n) ∙ ap (λ m. (nat_lt 0 (suc n) && nat_le (suc n) 16) && has_bit w m)
    (let e : n ≡ suc n - 1 = omega arith in e) where
      tests : (n : ℕ) → nat_lt n 16 ≡ (nat_lt 0 (suc n) && nat_le (suc n) 16)
      tests n = grind (arith, nat_tests)

pub bits_popped : (w n : ℕ) → has_bit (bit_and (w / 2) 65535) n ≡ (nat_lt n 16 && has_bit w (n + 1))
bits_popped w n =
    low (w / 2) n
    ∙ ap (λ b. nat_lt n 16 && (b == 1))
    (sym (bit_at-suc w n) ∙ ap (bit_at w) (let e : suc n ≡ n + 1 = omega arith in e))

-- a row of one word
pub one_word : (row : List ℕ) (n : ℕ) → length row ≡ 1 → slice_index row 0 < 2 ^ 64 → facts_in row n
    ≡ has_bit (slice_index row 0) n
one_word row n one small = elim (cases_lt n 64) [
  | inl lt ↦
      let quotient : n / 64 ≡ 0 = omega (arith, lt) in
      let rest : n % 64 ≡ n = omega (arith, lt) in
      ap (λ q. bit_at (slice_index row q) (n % 64) == 1) quotient ∙ ap (λ k. bit_at (slice_index row 0) k == 1) rest
  | inr ge ↦
      let past : length row ≤ n / 64 = omega (arith, ge, one) in
      ap (λ w. bit_at w (n % 64) == 1) (get_or_past row (n / 64) 0 past) ∙ ap (λ b. b == 1) (bit_at-zero (n % 64))
      ∙ sym (ap (λ b. b == 1) (bit_at_above (slice_index row 0) 64 n small ge))
]

-- ---- some bit, and two

bit_is_one : (w n : ℕ) → has_bit w n ≡ true → bit_at w n ≡ 1
bit_is_one w n has = grind (arith, nat_tests)

one_is_bit : (w n : ℕ) → bit_at w n ≡ 1 → has_bit w n ≡ true
one_is_bit w n is = ap (λ b. b == 1) is

pub deep_is : (w : ℕ) → w < 2 ^ 64 → (nat_lt 1 w ≡ true) ↔ HasDeep w
deep_is w small = (to, from) where
  to : nat_lt 1 w ≡ true → HasDeep w
  to more =
      let above : 1 < w = grind (arith, nat_tests) in
      let half : 0 < w / 2 = omega (arith, above) in
      let t = bit_at-trailing_zeros w64 (w / 2) half (omega (arith, small)) in
      record {
        depth = suc (trailing_zeros w64 (w / 2));
        deep = omega arith;
        has =
            one_is_bit w _ (bit_at-suc w _ ∙ t.1);
      }

  from : HasDeep w → nat_lt 1 w ≡ true
  from deep = elim (cases_lt 1 w) [
    | inl above ↦ grind (arith, nat_tests)
    | inr low ↦
        let none = bit_at_above w 1 deep.depth (omega (arith, low)) (omega (arith, deep.deep)) in
        let some = bit_is_one w deep.depth deep.has in
        absurd (omega (arith, none, some))
  ]

module _ (w k cleared : ℕ) (small : w < 2 ^ 64) (small_cleared : cleared < 2 ^ 64)
    (same : bit_at cleared k ≡ 0) (others : (i : ℕ) → i < 64 → i ≢ k → bit_at cleared i ≡ bit_at w i)
    (at : bit_at w k ≡ 1) where
  left_over : 0 < cleared → HasTwo w
  left_over some =
      let t = bit_at-trailing_zeros w64 cleared some small_cleared in
      let i = trailing_zeros w64 cleared in
      let differs : i ≢ k = λ e. let wrong = sym t.1 ∙ ap (bit_at cleared) e ∙ same in absurd (omega (arith, wrong)) in
      record {
        one = k;
        other = i;
        differ = λ e. differs (sym e);
        has_one = one_is_bit w k at;
        has_other = one_is_bit w i (sym (others i t.0 differs) ∙ t.1);
      }

  stays : (i : ℕ) → i ≢ k → has_bit w i ≡ true → 0 < cleared
  stays i differs has =
      let one = bit_is_one w i has in
      elim (cases_lt i 64) [
        | inl within ↦
            let kept = others i within differs ∙ one in
            elim (cases_lt 0 cleared) [
              | inl some ↦ some
              | inr none ↦
                  let zero_cleared : cleared ≡ 0 = omega (arith, none) in
                  let wrong = sym kept ∙ ap (λ c. bit_at c i) zero_cleared ∙ bit_at-zero i in
                  absurd (omega (arith, wrong))
            ]
        | inr past ↦ let none = bit_at_above w 64 i small past in absurd (omega (arith, one, none))
      ]

  pub two_left : HasTwo w → 0 < cleared
  two_left two = elim (cases_eq two.one k) [
    | inl first ↦ stays two.other (λ e. two.differ (first ∙ sym e)) two.has_other
    | inr differs ↦ stays two.one differs two.has_one
  ]

pub two_is : (w cleared : ℕ) → 0 < w → w < 2 ^ 64 → cleared ≡ bit_and w
    (bit_not w64 (1 * 2 ^ trailing_zeros w64 w % 2 ^ 64))
    → (not (nat_eq cleared 0) ≡ true) ↔ HasTwo w
two_is w cleared some small is = (to, from) where
  k : ℕ
  k = trailing_zeros w64 w

  t : (trailing_zeros w64 w < 64) × (bit_at w (trailing_zeros w64 w) ≡ 1)
      × ((i : ℕ) → i < trailing_zeros w64 w → bit_at w i ≡ 0)
  t = bit_at-trailing_zeros w64 w some small

  same : bit_at cleared k ≡ 0
  same = ap (λ c. bit_at c k) is ∙ bit_at_clear_same w64 w k t.0

  others : (i : ℕ) → i < 64 → i ≢ k → bit_at cleared i ≡ bit_at w i
  others i within differs = ap (λ c. bit_at c i) is ∙ bit_at_clear_other w64 w k t.0 i within differs

  small_cleared : cleared < 2 ^ 64
  small_cleared = let le = and_le_l w (bit_not w64 (1 * 2 ^ trailing_zeros w64 w % 2 ^ 64)) in
      omega (arith, is, le, small)

  to : not (nat_eq cleared 0) ≡ true → HasTwo w
  to nonzero = left_over w k cleared small small_cleared same others t.1 (grind (arith, nat_tests))

  from : HasTwo w → not (nat_eq cleared 0) ≡ true
  from two = let left = two_left w k cleared small small_cleared same others t.1 two in grind (arith, nat_tests)

pub least_has : (w : ℕ) → 0 < w → w < 2 ^ 64 → has_bit w (trailing_zeros w64 w) ≡ true
least_has w some small = one_is_bit w _ (bit_at-trailing_zeros w64 w some small).1

-- ---- the row of one word

pub begins_word : (row : List ℕ) (n : ℕ) → row ≡ replicate 1 0 → facts_in (slice_set row 0 1) n ≡ (n == 0)
begins_word row n blank = ap (λ r. facts_in (slice_set r 0 1) n) blank ∙ one_word (1 ∷ []) n refl (omega arith)
    ∙ only n where
      only : (n : ℕ) → has_bit 1 n ≡ (n == 0)
      only zero = refl
      only (suc m) = ap (λ b. b == 1) (bit_at-suc 1 m ∙ bit_at-zero m)
          ∙ (let e : false ≡ (suc m == 0) = grind (arith, nat_tests) in e)

module _ (g : Graph) (effects : List StackEffect) (are : effects ≡ map effect_of g.insts) (at : ℕ)
    (below : at < size_of g) (d : StackEffect)
    (row : List ℕ) (one : length row ≡ 1) (first_word : ℕ) (is_first : first_word ≡ slice_index row 0)
    (small_first : first_word < 2 ^ 64)
    (word : ℕ) (small_word : word < 2 ^ 64)
    (pushed : (depth : Depth) → depths_in word depth
    ≡ depths_behind (get_or effects at d).pushes (get_or effects at d).pops (depths_in first_word) depth) where
  small : slice_index row 0 < 2 ^ 64
  small = omega (arith, is_first, small_first)

  own : (line : Sym) → slice_get g.insts at ≡ Some line → get_or effects at d ≡ effect_of line
  own line is =
      ap (λ xs. get_or xs at d) are
      ∙ get_or_from_slice_get (map effect_of g.insts) at (effect_of line) d
      (slice_get-map effect_of g.insts at ∙ ap (option_map effect_of) is)

  moved : (line : Sym) → slice_get g.insts at ≡ Some line → (depth : Depth) → depths_in word depth
      ≡ depths_after g at (depths_in (slice_index row 0)) depth
  moved line is depth =
      pushed depth ∙ ap (λ w. depths_behind (get_or effects at d).pushes (get_or effects at d).pops
      (depths_in w) depth) is_first
      ∙ ap (λ (e : StackEffect). depths_behind e.pushes e.pops (depths_in (slice_index row 0)) depth) (own line is)
      ∙ sym (ap (λ o. depths_by o (depths_in (slice_index row 0)) depth) is)

  pub applies : (depth : Depth) → facts_in (slice_set row 0 word) (depth_number depth)
      ≡ depths_after g at (λ one. facts_in row (depth_number one)) depth
  applies depth =
      let line = inside_get g.insts at below in
      let first = get_or-set_same row 0 word 0 (omega (arith, one)) in
      one_word (slice_set row 0 word) (depth_number depth) (length-set row 0 word ∙ one)
      (omega (arith, first, small_word))
      ∙ ap (λ w. has_bit w (depth_number depth)) first
      ∙ moved line.0 line.1 depth
      ∙ alike ((depths_law g at).each depth) (depths_in (slice_index row 0))
      (λ other. facts_in row (depth_number other))
      (λ other. sym (one_word row (depth_number other) one small))
