-- Which origins a number of bits names, its lowest bit first.
use Rattle.std.proofs.Common.{◌≡◌, ℕ, suc, ◌+◌, ◌/◌, ◌%◌, ◌==◌, List, [], ◌∷◌, ◌++◌, ◌<◌, map, length, filter, drop, get_or, Bool, true, false, if◌then◌else◌, refl, ap, ap₂, sym, ◌∙◌, arith}
use Rattle.std.specs.List.{range_with_len}
use Rattle.std.specs.Int.{bit_at}
use Rattle.std.proofs.lemmas.Bool.Decides.{nat_tests}
use Rattle.std.proofs.lemmas.List.{append-nil, drop_more}
use Rattle.std.proofs.lemmas.Nat.Bits.{bit_at-suc}
use Rattle.asm_core.specs.Entries.{origin_rank, origins, has_name, source_in, sources_of}
use Rattle.asm_core.specs.declared.sym.Sym.{Sym}
use Rattle.asm_core.specs.declared.row.Source.{Source}
use Rattle.asm_core.specs.declared.micro_op.Origin.{Origin}

-- those whose bit is set, the first having the lowest one
abbrev pub by_bits : ℕ → List Origin → List Origin
by_bits bits [] = []
by_bits bits (o ∷ os) = if bits % 2 == 1 then o ∷ by_bits (bits / 2) os else by_bits (bits / 2) os

pub by_no_bits : (os : List Origin) → by_bits 0 os ≡ []
by_no_bits [] = refl
by_no_bits (o ∷ os) = by_no_bits os

ranks : map origin_rank origins ≡ range_with_len 0 51
unfolding origins
ranks = refl

lowest : (n : ℕ) → bit_at n 0 ≡ n % 2
lowest n = omega arith

module _ (names : ℕ) where
  same_test : (o : Origin) (base bits : ℕ) → origin_rank o ≡ base → bit_at names (base + 0) ≡ bit_at bits 0
      → has_name names o ≡ (bits % 2 == 1)
  same_test o base bits rank same =
      let first : base ≡ base + 0 = omega arith in
      ap (λ bit. bit == 1) (ap (bit_at names) (rank ∙ first) ∙ same ∙ lowest bits)

  chosen : (o : Origin) (t u : Bool) (os ps : List Origin) → t ≡ u → os ≡ ps → (if t then o ∷ os else os)
      ≡ (if u then o ∷ ps else ps)
  chosen o t u os ps tests rest = ap₂ (λ t os. if t then o ∷ os else os) tests rest

  filtered : (o : Origin) (os : List Origin) (t : Bool) → has_name names o ≡ t → filter (has_name names) (o ∷ os)
      ≡ (if t then o ∷ filter (has_name names) os else filter (has_name names) os)
  filtered o os true e = rw e refl
  filtered o os false e = rw e refl

  named_by_bits : (os : List Origin) (base bits : ℕ) → map origin_rank os ≡ range_with_len base (length os)
      → ((j : ℕ) → bit_at names (base + j) ≡ bit_at bits j) → filter (has_name names) os ≡ by_bits bits os
  named_by_bits [] base bits are same = refl
  named_by_bits (o ∷ os) base bits are same =
      let rank : origin_rank o ≡ base = cc (are) in
      let more : map origin_rank os ≡ range_with_len (base + 1) (length os) = cc (are) in
      let next : (j : ℕ) → base + 1 + j ≡ base + suc j = λ j. omega arith in
      filtered o os (has_name names o) refl
      ∙ chosen o (has_name names o) (bits % 2 == 1) (filter (has_name names) os) (by_bits (bits / 2) os)
      (same_test o base bits rank (same 0))
      (named_by_bits os (base + 1) (bits / 2) more (λ j. ap (bit_at names) (next j) ∙ same (suc j) ∙ bit_at-suc bits j))

-- the origins of these names are those of its bits
pub origins_by_bits : (names : ℕ) → filter (has_name names) origins ≡ by_bits names origins
unfolding origins
origins_by_bits names = named_by_bits names origins 0 names ranks same
  where
    same : (j : ℕ) → bit_at names (0 + j) ≡ bit_at names j
    same j = ap (bit_at names) zero_more
      where
        zero_more : 0 + j ≡ j
        zero_more = omega arith

pub sources_by_bits : (s : Sym) (names : ℕ) (found : List Source) → found ≡ [] → sources_of s names ≡ found
    ++ map (source_in s) (by_bits names origins)
sources_by_bits s names found none = ap (map (source_in s)) (origins_by_bits names)
    ∙ ap (λ (sources : List Source). sources ++ map (source_in s) (by_bits names origins)) (sym none)

-- where no bit is left
pub none_left : {X : Type 0} (f : Origin → X) (all found : List X) (bits : ℕ) (os : List Origin) → all ≡ found
    ++ map f (by_bits bits os) → bits ≡ 0 → found ≡ all
none_left f all found bits os is none =
    sym (is ∙ ap (λ b. found ++ map f (by_bits b os)) none ∙ ap (λ os. found ++ map f os) (by_no_bits os)
    ∙ append-nil found)

pub test_apart : (a b : ℕ) → (a ≡ b → ⊥) → (a == b) ≡ false
test_apart a b apart = by_test (a == b) refl
  where
    by_test : (t : Bool) → (a == b) ≡ t → (a == b) ≡ false
    by_test true e = absurd (apart (grind (arith, nat_tests, e)))
    by_test false e = e

-- an origin that isn't named is passed
pub passed : {X : Type 0} (f : Origin → X) (all found : List X) (bits i : ℕ) (os : List Origin) → all ≡ found
    ++ map f (by_bits bits (drop i os)) → i < length os
    → (bits % 2 ≡ 1 → ⊥) → all ≡ found ++ map f (by_bits (bits / 2) (drop (i + 1) os))
passed f all found bits i os is within unnamed =
    is ∙ ap (λ os. found ++ map f (by_bits bits os)) (drop_more os i Origin.Top within)
    ∙ ap (λ (t : Bool). found
    ++ map f (if t then get_or os i Origin.Top
    ∷ by_bits (bits / 2) (drop (i + 1) os) else by_bits (bits / 2) (drop (i + 1) os)))
    (test_apart (bits % 2) 1 unnamed)
