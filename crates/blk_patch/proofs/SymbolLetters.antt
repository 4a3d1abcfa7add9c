-- The registers of an alternative's letters where no letter but `r` allows a register without byte names: registers with
-- byte names alone, or all seven.
use Rattle.std.proofs.Common.{◌≡◌, ◌⊎◌, inl, inr, ℕ, zero, suc, ◌+◌, ◌<◌, ◌≤◌, ◌==◌, ◌||◌, not, nat_lt, List, [], ◌∷◌, length, take, fold, bit_or, Bool, true, false, cond, Option, None, Some, refl, sym, ap, subst, ◌∙◌, arith, if◌then◌else◌}
use Rattle.std.specs.List.{prefix_len, position, position_or_len, slice_split, onto_first}
use Rattle.std.specs.Char.{is_ascii_digit}
use Rattle.std.proofs.lemmas.Bool.{eqb-true, ltb-true, or_parts}
use Rattle.std.proofs.lemmas.List.Splits.{slice_split-cons_yes, slice_split-cons_no, length-slice_split}
use Rattle.std.proofs.lemmas.Nat.{or_lt, le_or_l, le_or_r}
use Rattle.asm_core.specs.Constraint.{letters, entry_of, letter_of, is_close_bracket, bracketed, letter_symbol, byte_symbol, output_numbered, symbol_at, symbols_from, is_comma}
use Rattle.asm_core.specs.Interface.{letter_bits, symbol_bits, registers_of}
use Rattle.asm_core.specs.Malformed.{is_other}
use Rattle.asm_core.specs.declared.constraint.Letter.{Letter}
use Rattle.asm_core.specs.declared.constraint.Symbol.{Symbol}
use Rattle.asm_core.specs.declared.constraint.Symbol.TheVariants as symbols
use Rattle.blk_patch.specs.Suggested.{is_high_letter, is_inside_after, has_high_from}
use Rattle.blk_patch.proofs.UpwardLetters.{HasAllOrNone}

-- ---- sets of registers

low_bits : (a b : ℕ) → a < 16 → b < 16 → bit_or a b < 16
low_bits a b la lb = or_lt 4 a b la lb

seven_bits : (a b : ℕ) → a < 128 → b < 128 → (127 ≤ a) ⊎ (127 ≤ b) → bit_or a b ≡ 127
seven_bits a b la lb (inl more) =
    let below : bit_or a b < 128 = or_lt 7 a b la lb in
    let above = le_or_l a b in
    omega (arith, below, above, more)
seven_bits a b la lb (inr more) =
    let below : bit_or a b < 128 = or_lt 7 a b la lb in
    let above = le_or_r a b in
    omega (arith, below, above, more)

below_seven : (a : ℕ) → HasAllOrNone a → a < 128
below_seven a (inl low) = omega (arith, low)
below_seven a (inr all) = omega (arith, all)

both_suit : (a b : ℕ) → HasAllOrNone a → HasAllOrNone b → HasAllOrNone (bit_or a b)
both_suit a b (inl la) (inl lb) = inl (low_bits a b la lb)
both_suit a b (inr all) second = inr (seven_bits a b (omega (arith, all)) (below_seven b second) (inl (omega (arith, all))))
both_suit a b (inl la) (inr all) = inr (seven_bits a b (omega (arith, la)) (omega (arith, all)) (inr (omega (arith, all))))

-- ---- symbols

abbrev pub IsSuited : Symbol → Type 0
IsSuited s = HasAllOrNone (symbol_bits s)

abbrev pub IsKnown : Symbol → Type 0
IsKnown s = is_other s ≡ false

abbrev pub Each : (Symbol → Type 0) → List Symbol → Type 0
Each P [] = Unit {0}
Each P (s ∷ ss) = P s × Each P ss

all_suit : (ss : List Symbol) (bits : ℕ) → HasAllOrNone bits → Each IsSuited ss
    → HasAllOrNone (fold (λ bits s. bit_or bits (symbol_bits s)) bits ss)
all_suit [] bits suits each = suits
all_suit (s ∷ ss) bits suits each =
    all_suit ss (bit_or bits (symbol_bits s)) (both_suit bits (symbol_bits s) suits each.0) each.1

none_suits : HasAllOrNone 0
none_suits = inl (omega arith)

pub registers_suit : (ss : List Symbol) → Each IsSuited ss → HasAllOrNone (registers_of ss).0
unfolding registers_of
registers_suit ss each = all_suit ss 0 none_suits each

-- ---- letters

-- each row is of a letter that allows a register without byte names and isn't `r`, or its registers suit
abbrev AreSuited : List (ℕ × Letter) → Type 0
AreSuited [] = Unit {0}
AreSuited (row ∷ rows) = ((is_high_letter row.0 ≡ true) ⊎ HasAllOrNone (letter_bits row.1)) × AreSuited rows

letters_suited : AreSuited letters
letters_suited = (
  inr (inl (omega arith)),
  (
    inr (inl (omega arith)),
    (
      inr (inl (omega arith)),
      (
        inr (inl (omega arith)),
        (
          inl refl,
          (
            inl refl,
            (
              inr (inl (omega arith)),
              (
                inr (inl (omega arith)),
                (
                  inr (inl (omega arith)),
                  (
                    inr (inr refl),
                    (
                      inr (inl (omega arith)),
                      (
                        inr (inl (omega arith)),
                        (
                          inr (inl (omega arith)),
                          (
                            inr (inl (omega arith)),
                            (
                              inr (inl (omega arith)),
                              (
                                inr (inl (omega arith)),
                                (
                                  inr (inl (omega arith)),
                                  (
                                    inr (inl (omega arith)),
                                    (
                                      inl refl,
                                      tt,
                                    ),
                                  ),
                                ),
                              ),
                            ),
                          ),
                        ),
                      ),
                    ),
                  ),
                ),
              ),
            ),
          ),
        ),
      ),
    ),
  ),
)

module _ (b : ℕ) (low : is_high_letter b ≡ false) where
  row_suits : (row : ℕ × Letter) → (is_high_letter row.0 ≡ true) ⊎ HasAllOrNone (letter_bits row.1) → b ≡ row.0
      → HasAllOrNone (letter_bits row.1)
  row_suits row (inl high) same =
      let wrong : true ≡ false = sym high ∙ sym (ap is_high_letter same) ∙ low in
      cc
  row_suits row (inr suits) same = suits

  entry_suits : (rows : List (ℕ × Letter)) → AreSuited rows → IsSuited (letter_symbol (entry_of b rows))
  entry_suits [] are = none_suits
  entry_suits (row ∷ rows) are = by (b == row.0) refl (entry_suits rows are.1)
    where
      by : (t : Bool) → (b == row.0) ≡ t → IsSuited (letter_symbol (entry_of b rows))
          → IsSuited (letter_symbol (if t then Some row.1 else entry_of b rows))
      by true e later = row_suits row are.0 (eqb-true b row.0 e)
      by false e later = later

  byte_suits : IsSuited (byte_symbol b)
  unfolding byte_symbol letter_of
  byte_suits = by (b == 38) (b == 61 || b == 43)
    where
      by : (t u : Bool)
          → IsSuited (if t then symbols.Early else if u then symbols.Sign else letter_symbol (entry_of b letters))
      by true u = none_suits
      by false true = none_suits
      by false false = entry_suits letters letters_suited

-- ---- the bytes of a symbol

-- The first bytes belong to the symbol before: up to a closing bracket, where one is open, or else digits.
abbrev Fits : Bool → ℕ → List ℕ → Type 0
Fits true n part = (position_or_len is_close_bracket part < length part) × (n ≡ position_or_len is_close_bracket part + 1)
Fits false n part = n ≤ prefix_len is_ascii_digit part

-- a byte that begins a symbol, and what its symbol takes of those behind it
record Begins (inside : Bool) (part : List ℕ) (s : Symbol) (n : ℕ) : Type 0 where
  suits : IsSuited s
  fits : Fits inside n part

digit_opens : (b : ℕ) → is_ascii_digit b ≡ true → (b == 91) ≡ false
digit_opens b digit = by (b == 91) refl
  where
    by : (t : Bool) → (b == 91) ≡ t → (b == 91) ≡ false
    by false e = e
    by true e =
        let same = eqb-true b 91 e in
        let wrong : is_ascii_digit 91 ≡ true = subst (λ n. is_ascii_digit n ≡ true) same digit in
        cc

found_at : (n m k : ℕ) (b : Bool) → nat_lt n m ≡ b → cond b (Some n) None ≡ Some k → (n ≡ k) × (n < m)
found_at n m k true e f = (cc, ltb-true n m e)
found_at n m k false e f = cc

module _ (outputs : List (Option (List ℕ))) (b : ℕ) (part : List ℕ) where
  bracket_begins : (found : Option ℕ) → position is_close_bracket part ≡ found
      → IsKnown (bracketed outputs part found).0
      → Begins true part (bracketed outputs part found).0 (bracketed outputs part found).1
  bracket_begins None e known = cc
  bracket_begins (Some close) e known =
      let is = found_at (position_or_len is_close_bracket part) (length part) close
      (nat_lt (position_or_len is_close_bracket part) (length part)) refl e in
      let at : close + 1 ≡ position_or_len is_close_bracket part + 1 = ap (λ n. n + 1) (sym is.0) in
      record { suits = none_suits; fits = (is.1, at) }

  abbrev number : Option ℕ
  number = output_numbered outputs (b ∷ take (prefix_len is_ascii_digit part) part)

  abbrev symbol_by : Bool → Bool → Symbol × ℕ
  symbol_by digit opens =
      if digit then (symbols.Tie number, prefix_len is_ascii_digit part)
      else if opens then bracketed outputs part (position is_close_bracket part)
      else (byte_symbol b, 0)

  begins_by : is_high_letter b ≡ false → (digit opens : Bool) → is_ascii_digit b ≡ digit → (b == 91) ≡ opens
      → IsKnown (symbol_by digit opens).0
      → Begins opens part (symbol_by digit opens).0 (symbol_by digit opens).1
  begins_by low true true d o known = let wrong : true ≡ false = sym o ∙ digit_opens b d in cc
  begins_by low true false d o known =
      record { suits = none_suits; fits = same_long (prefix_len is_ascii_digit part) }
    where
      same_long : (n : ℕ) → n ≤ n
      same_long n = omega arith
  begins_by low false true d o known = bracket_begins (position is_close_bracket part) refl known
  begins_by low false false d o known =
      record { suits = byte_suits b low; fits = none_taken (prefix_len is_ascii_digit part) }
    where
      none_taken : (n : ℕ) → 0 ≤ n
      none_taken n = omega arith

  begins : is_high_letter b ≡ false → IsKnown (symbol_at outputs b part).0
      → Begins (b == 91) part (symbol_at outputs b part).0 (symbol_at outputs b part).1
  unfolding symbol_at
  begins low known = begins_by low (is_ascii_digit b) (b == 91) refl refl known

-- a byte that belongs to the symbol before
module _ (b : ℕ) (part : List ℕ) (n : ℕ) where
  abbrev closes_at : Bool → ℕ
  closes_at closes = cond (not closes) (1 + position_or_len is_close_bracket part) 0

  goes_inside : Fits true (suc n) (b ∷ part) → Fits (is_inside_after true b) n part
  goes_inside fits = by (is_close_bracket b) fits
    where
      by : (t : Bool) → (closes_at t < suc (length part)) × (suc n ≡ closes_at t + 1) → Fits (not t) n part
      by true f = let long : suc n ≡ 0 + 1 = f.1 in omega (arith, long)
      by false f =
          let before : 1 + position_or_len is_close_bracket part < suc (length part) = f.0 in
          let long : suc n ≡ 1 + position_or_len is_close_bracket part + 1 = f.1 in
          (omega (arith, before), omega (arith, long))

  goes_outside : Fits false (suc n) (b ∷ part) → Fits (is_inside_after false b) n part
  goes_outside fits = by (is_ascii_digit b) refl fits
    where
      by : (t : Bool) → is_ascii_digit b ≡ t → suc n ≤ cond t (1 + prefix_len is_ascii_digit part) 0
          → Fits (b == 91) n part
      by true e f =
          let more : suc n ≤ 1 + prefix_len is_ascii_digit part = f in
          let fits : Fits false n part = omega (arith, more) in
          subst (λ inside. Fits inside n part) (sym (digit_opens b e)) fits
      by false e f = let none : suc n ≤ 0 = f in absurd (omega (arith, none))

-- ---- all alternatives

least : (n : ℕ) → 0 ≤ n
least n = omega arith

module _ (outputs : List (Option (List ℕ))) where
  -- of each part's symbols, where the first bytes of the first belong to a symbol before
  abbrev pub AllIn : (Symbol → Type 0) → ℕ → List (List ℕ) → Type 0
  AllIn P n [] = Unit {0}
  AllIn P n (part ∷ parts) = Each P (symbols_from outputs n part) × AllIn P 0 parts

  abbrev first_of : List (List ℕ) → List ℕ
  first_of parts = elim parts [ [] ↦ [] | part ∷ rest ↦ part ]

  abbrev Leads : List ℕ → Type 0
  Leads bs = (inside : Bool) (n : ℕ) → Fits inside n (first_of (slice_split is_comma bs))
      → has_high_from inside bs ≡ false → AllIn IsKnown n (slice_split is_comma bs)
      → AllIn IsSuited n (slice_split is_comma bs)

  comma_opens : (b : ℕ) → is_comma b ≡ true → (b == 91) ≡ false
  comma_opens b comma = let same = eqb-true b 44 comma in rw same refl

  at_comma : (b : ℕ) (bs : List ℕ) → is_comma b ≡ true → Leads bs → (inside : Bool) (n : ℕ) → Fits inside n []
      → has_high_from inside (b ∷ bs) ≡ false → AllIn IsKnown n ([] ∷ slice_split is_comma bs)
      → AllIn IsSuited n ([] ∷ slice_split is_comma bs)
  unfolding has_high_from symbols_from
  at_comma b bs comma leads true n fits high known = let wrong = fits.0 in absurd (omega (arith, wrong))
  at_comma b bs comma leads false n fits high known =
      let rest : has_high_from (b == 91) bs ≡ false = (or_parts (is_high_letter b) (has_high_from (b == 91) bs) high).1 in (
        tt,
        leads false 0 (least (prefix_len is_ascii_digit (first_of (slice_split is_comma bs))))
            (subst (λ inside. has_high_from inside bs ≡ false) (comma_opens b comma) rest) known.1,
      )

  -- a byte in an alternative, whose rest is the first part of what follows
  at_byte : (b : ℕ) (bs part : List ℕ) (parts : List (List ℕ)) → slice_split is_comma bs ≡ part ∷ parts → Leads bs
      → (inside : Bool) (n : ℕ) → Fits inside n (b ∷ part) → has_high_from inside (b ∷ bs) ≡ false
      → AllIn IsKnown n ((b ∷ part) ∷ parts) → AllIn IsSuited n ((b ∷ part) ∷ parts)
  unfolding has_high_from symbols_from
  at_byte b bs part parts split leads true zero fits high known =
      let wrong = fits.1 in absurd (omega (arith, wrong))
  at_byte b bs part parts split leads true (suc n) fits high known =
      subst (AllIn IsSuited n) split
      (leads (is_inside_after true b) n
      (subst (λ ps. Fits (is_inside_after true b) n (first_of ps)) (sym split) (goes_inside b part n fits)) high
      (subst (AllIn IsKnown n) (sym split) known))
  at_byte b bs part parts split leads false (suc n) fits high known =
      subst (AllIn IsSuited n) split
      (leads (is_inside_after false b) n
      (subst (λ ps. Fits (is_inside_after false b) n (first_of ps)) (sym split) (goes_outside b part n fits))
      (or_parts (is_high_letter b) (has_high_from (is_inside_after false b) bs) high).1
      (subst (AllIn IsKnown n) (sym split) known))
  at_byte b bs part parts split leads false zero fits high known =
      let low = (or_parts (is_high_letter b) (has_high_from (is_inside_after false b) bs) high).0 in
      let is = begins outputs b part low known.0.0 in
      let n = (symbol_at outputs b part).1 in
      let rest = subst (AllIn IsSuited n) split
      (leads (is_inside_after false b) n
      (subst (λ ps. Fits (is_inside_after false b) n (first_of ps)) (sym split) is.fits)
      (or_parts (is_high_letter b) (has_high_from (is_inside_after false b) bs) high).1
      (subst (AllIn IsKnown n) (sym split) (known.0.1, known.1))) in
      ((is.suits, rest.0), rest.1)

  -- there is a first part
  some_part : (bs : List ℕ) → (part : List ℕ) × (parts : List (List ℕ)) × (slice_split is_comma bs ≡ part ∷ parts)
  some_part bs = by (slice_split is_comma bs) refl
    where
      by : (ps : List (List ℕ)) → slice_split is_comma bs ≡ ps
          → (part : List ℕ) × (parts : List (List ℕ)) × (slice_split is_comma bs ≡ part ∷ parts)
      by [] e =
          let long = length-slice_split is_comma bs in
          let none : length (slice_split is_comma bs) ≡ 0 = ap length e in
          absurd (omega (arith, long, none))
      by (part ∷ parts) e = (part, parts, e)

  all_lead : (bs : List ℕ) → Leads bs
  unfolding symbols_from
  all_lead [] = λ inside n fits high known. (tt, tt)
  all_lead (b ∷ bs) = by (is_comma b) refl (all_lead bs)
    where
      by : (t : Bool) → is_comma b ≡ t → Leads bs → Leads (b ∷ bs)
      by true comma leads =
          subst (λ ps. (inside : Bool) (n : ℕ) → Fits inside n (first_of ps) → has_high_from inside (b ∷ bs) ≡ false
          → AllIn IsKnown n ps → AllIn IsSuited n ps) (sym (slice_split-cons_yes is_comma b bs comma))
          (at_comma b bs comma leads)
      by false other leads =
          let some = some_part bs in
          let split : slice_split is_comma (b ∷ bs) ≡ (b ∷ some.0) ∷ some.1 =
          slice_split-cons_no is_comma b bs other ∙ ap (onto_first b) some.2 in
          subst (λ ps. (inside : Bool) (n : ℕ) → Fits inside n (first_of ps) → has_high_from inside (b ∷ bs) ≡ false
          → AllIn IsKnown n ps → AllIn IsSuited n ps) (sym split)
          (at_byte b bs some.0 some.1 some.2 leads)

  -- the symbols of a constraint without such letters suit
  pub symbols_suit : (text : List ℕ) → has_high_from false text ≡ false
      → AllIn IsKnown 0 (slice_split is_comma text) → AllIn IsSuited 0 (slice_split is_comma text)
  symbols_suit text high known =
      all_lead text false 0 (least (prefix_len is_ascii_digit (first_of (slice_split is_comma text)))) high known
