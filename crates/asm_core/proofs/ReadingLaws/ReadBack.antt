-- What an operand prints is read back.
use Rattle.std.proofs.Common.{◌≡◌, ℕ, zero, suc, ◌==◌, ◌&&◌, ◌<◌, ◌≤◌, ◌^◌, nat_lt, not, ℤ, pos, negsuc, List, [], ◌∷◌, ◌++◌, length, Bool, true, false, Option, None, Some, decimal, refl, ap, ◌∙◌, inl, inr, eq-eqb, slice_index, unwrap_or, arith}
use Rattle.std.proofs.lemmas.Int.{ints}
use Rattle.std.proofs.lemmas.Bool.{ne_eqb, lt-ltb, le-leb}
use Rattle.std.proofs.lemmas.Fmt.{decimal_is_IsNumeral, decimal_digit, first_decimal}
use Rattle.std.proofs.lemmas.Str.Parse.{digit_from_value}
use Rattle.std.specs.Fmt.{signed_decimal}
use Rattle.std.specs.Char.{digit_value}
use Rattle.std.specs.Str.Parse.{AllDigits}
use Rattle.std.specs.Option.{option_map, option_and_then}
use Rattle.std.specs.List.{list_all, slice_split}
use Rattle.asm_core.specs.Reg.{reg_name}
use Rattle.asm_core.specs.Lists.{IsMember}
use Rattle.asm_core.specs.Placement.{IsForm}
use Rattle.asm_core.specs.Reading.Written.{register_named, numeral_value, magnitude_of, not_above, number_of}
use Rattle.asm_core.specs.Reading.Text.{base_in, index_in, form_with, form_read}
use Rattle.asm_core.specs.Reading.Placed.{IsWordNumber}
use Rattle.asm_core.specs.Expansion.{name_of, base_text, index_text, disp_text, address_text, form_text}
use Rattle.asm_core.specs.declared.reg.Reg.{Reg}
use Rattle.asm_core.specs.declared.reg.Reg.TheVariants.{Eax, Ebx, Ecx, Edx, Esi, Edi, Ebp}
use Rattle.asm_core.specs.declared.reg.Slice.{Slice}
use Rattle.asm_core.specs.declared.reg.Slice.TheVariants.{Low8, High8, Low16, All}
use Rattle.asm_core.specs.declared.placement.Base.{Base}
use Rattle.asm_core.specs.declared.placement.Form.{Form}

-- each name is that of its register
names_back : (r : Reg) (s : Slice) → option_and_then register_named (name_of r s) ≡ option_map (λ (name : List ℕ). (r, s)) (name_of r s)
names_back Eax All = refl
names_back Eax Low16 = refl
names_back Eax Low8 = refl
names_back Eax High8 = refl
names_back Ebx All = refl
names_back Ebx Low16 = refl
names_back Ebx Low8 = refl
names_back Ebx High8 = refl
names_back Ecx All = refl
names_back Ecx Low16 = refl
names_back Ecx Low8 = refl
names_back Ecx High8 = refl
names_back Edx All = refl
names_back Edx Low16 = refl
names_back Edx Low8 = refl
names_back Edx High8 = refl
names_back Esi All = refl
names_back Esi Low16 = refl
names_back Esi Low8 = refl
names_back Esi High8 = refl
names_back Edi All = refl
names_back Edi Low16 = refl
names_back Edi Low8 = refl
names_back Edi High8 = refl
names_back Ebp All = refl
names_back Ebp Low16 = refl
names_back Ebp Low8 = refl
names_back Ebp High8 = refl

pub register_back : (r : Reg) (s : Slice) (name : List ℕ) → name_of r s ≡ Some name → register_named name ≡ Some (r, s)
register_back r s name e = let h = rw e at (names_back r s) in h

digits_tell : (ds : List ℕ) → AllDigits 10 ds → list_all (λ d. nat_lt (digit_value d) 10) ds ≡ true
digits_tell [] h = refl
digits_tell (d ∷ ds) h = rw (lt-ltb (digit_value d) 10 h.0, digits_tell ds h.1) refl

numeral_back : (n : ℕ) → n < 2 ^ 64 → numeral_value 10 (decimal n) ≡ Some n
numeral_back n small =
    let h = decimal_is_IsNumeral n small in
    rw (lt-ltb 0 (length (decimal n)) h.0.0, digits_tell (decimal n) h.0.1, h.1) refl

-- a decimal number other than 0 begins with no 0
magnitude_back : (n : ℕ) → 0 < n → n < 2 ^ 64 → magnitude_of (decimal n) ≡ Some n
unfolding magnitude_of
magnitude_back n some small =
    let first = first_decimal n some small in
    rw (ne_eqb (slice_index (decimal n) 0) 48 (λ e. absurd (omega (arith, e)))) (numeral_back n small)

pub digit_first : (n : ℕ) (c : ℕ) → 0 < n → n < 2 ^ 64 → c < 48 → (slice_index (decimal n) 0 == c) ≡ false
digit_first n c some small low = let first = first_decimal n some small in ne_eqb (slice_index (decimal n) 0) c (λ e. absurd (omega (arith, e)))

below : (n limit : ℕ) → n ≤ limit → not_above (Some n) limit ≡ Some n
below n limit h = rw (le-leb n limit h) refl

zero_back : number_of (decimal 0) ≡ Some (pos 0)
unfolding number_of magnitude_of
zero_back = let h : 0 < 10 = omega arith in rw (decimal_digit 0 h) refl

-- a number is read back
pub number_back : (z : ℤ) → IsWordNumber z → number_of (signed_decimal z) ≡ Some z
unfolding number_of
number_back (pos zero) word = unfold number_of in zero_back
number_back (pos (suc n)) word =
    let high : suc n ≤ 4294967295 = omega (arith, ints, word.high) in
    let small : suc n < 2 ^ 64 = omega arith in
    let some : 0 < suc n = omega arith in
    rw (digit_first (suc n) 45 some small (omega arith), magnitude_back (suc n) some small, le-leb (suc n) 4294967295 high) refl
number_back (negsuc n) word =
    let low : suc n ≤ 2147483648 = omega (arith, ints, word.low) in
    let small : suc n < 2 ^ 64 = omega arith in
    let some : 0 < suc n = omega arith in
    rw (magnitude_back (suc n) some small, le-leb (suc n) 2147483648 low) refl

-- the byte does not occur
abbrev pub lacks : ℕ → List ℕ → Bool
lacks c [] = true
lacks c (x ∷ xs) = not (x == c) && lacks c xs

pub lacks_case : (b : Bool) (rest : Bool) → (not b && rest) ≡ true → (b ≡ false) × (rest ≡ true)
lacks_case true rest h = absurd (cc)
lacks_case false rest h = (refl, h)

split_none : (c : ℕ) (xs : List ℕ) → lacks c xs ≡ true → slice_split (λ x. x == c) xs ≡ xs ∷ []
split_none c [] h = refl
split_none c (x ∷ xs) h = let parts = lacks_case (x == c) (lacks c xs) h in rw (parts.0, split_none c xs parts.1) refl

split_at : (c : ℕ) (xs ys : List ℕ) → lacks c xs ≡ true → slice_split (λ x. x == c) (xs ++ c ∷ ys) ≡ xs ∷ slice_split (λ x. x == c) ys
split_at c [] ys h = rw (eq-eqb c c refl) refl
split_at c (x ∷ xs) ys h = let parts = lacks_case (x == c) (lacks c xs) h in rw (parts.0, split_at c xs ys parts.1) refl

pub lacks-append : (c : ℕ) (xs ys : List ℕ) → lacks c xs ≡ true → lacks c ys ≡ true → lacks c (xs ++ ys) ≡ true
lacks-append c [] ys hx hy = hy
lacks-append c (x ∷ xs) ys hx hy = let parts = lacks_case (x == c) (lacks c xs) hx in rw (parts.0, lacks-append c xs ys parts.1 hy) refl

digits_lack : (c : ℕ) → c < 45 → (ds : List ℕ) → AllDigits 10 ds → lacks c ds ≡ true
digits_lack c low [] h = refl
digits_lack c low (d ∷ ds) h =
    let range = digit_from_value d h.0 in
    rw (ne_eqb d c (λ e. absurd (omega (arith, e, range))), digits_lack c low ds h.1) refl

pub decimal_lacks : (c n : ℕ) → c < 45 → n < 2 ^ 64 → lacks c (decimal n) ≡ true
decimal_lacks c n low small = let h = decimal_is_IsNumeral n small in digits_lack c low (decimal n) h.0.1

pub signed_lacks : (c : ℕ) (z : ℤ) → c < 45 → IsWordNumber z → lacks c (signed_decimal z) ≡ true
signed_lacks c (pos n) low word = let high : n ≤ 4294967295 = omega (arith, ints, word.high) in decimal_lacks c n low (omega arith)
signed_lacks c (negsuc n) low word =
    let high : suc n ≤ 2147483648 = omega (arith, ints, word.low) in
    rw (ne_eqb 45 c (λ e. absurd (omega (arith, e))), decimal_lacks c (suc n) low (omega arith)) refl

pub disp_lacks : (c : ℕ) (z : ℤ) → c < 45 → IsWordNumber z → lacks c (disp_text z) ≡ true
disp_lacks c (pos zero) low word = refl
disp_lacks c (pos (suc n)) low word = signed_lacks c (pos (suc n)) low word
disp_lacks c (negsuc n) low word = signed_lacks c (negsuc n) low word

pub disp_back : (z : ℤ) → IsWordNumber z → unwrap_or (number_of (disp_text z)) (pos 0) ≡ z
disp_back (pos zero) word = unfold number_of in unfold magnitude_of in refl
disp_back (pos (suc n)) word = rw (number_back (pos (suc n)) word) refl
disp_back (negsuc n) word = rw (number_back (negsuc n) word) refl

-- `(`, `)` and `,`
pub data Cutter : Type 0 where
  Open : Cutter
  Close : Cutter
  Comma : Cutter

abbrev pub cutter_code : Cutter → ℕ
cutter_code Cutter.Open = 40
cutter_code Cutter.Close = 41
cutter_code Cutter.Comma = 44

cutter_low : (c : Cutter) → cutter_code c < 45
cutter_low Cutter.Open = omega arith
cutter_low Cutter.Close = omega arith
cutter_low Cutter.Comma = omega arith

pub register_lacks : (c : Cutter) (r : Reg) → lacks (cutter_code c) (37 ∷ reg_name r) ≡ true
register_lacks Cutter.Open Eax = refl
register_lacks Cutter.Open Ebx = refl
register_lacks Cutter.Open Ecx = refl
register_lacks Cutter.Open Edx = refl
register_lacks Cutter.Open Esi = refl
register_lacks Cutter.Open Edi = refl
register_lacks Cutter.Open Ebp = refl
register_lacks Cutter.Close Eax = refl
register_lacks Cutter.Close Ebx = refl
register_lacks Cutter.Close Ecx = refl
register_lacks Cutter.Close Edx = refl
register_lacks Cutter.Close Esi = refl
register_lacks Cutter.Close Edi = refl
register_lacks Cutter.Close Ebp = refl
register_lacks Cutter.Comma Eax = refl
register_lacks Cutter.Comma Ebx = refl
register_lacks Cutter.Comma Ecx = refl
register_lacks Cutter.Comma Edx = refl
register_lacks Cutter.Comma Esi = refl
register_lacks Cutter.Comma Edi = refl
register_lacks Cutter.Comma Ebp = refl

pub base_lacks : (c : Cutter) (b : Base) → lacks (cutter_code c) (base_text b) ≡ true
base_lacks Cutter.Open Base.Esp = refl
base_lacks Cutter.Close Base.Esp = refl
base_lacks Cutter.Comma Base.Esp = refl
base_lacks c (Base.Reg r) = register_lacks c r

base_back : (b : Base) → base_in (base_text b) ≡ Some b
base_back Base.Esp = refl
base_back (Base.Reg Eax) = refl
base_back (Base.Reg Ebx) = refl
base_back (Base.Reg Ecx) = refl
base_back (Base.Reg Edx) = refl
base_back (Base.Reg Esi) = refl
base_back (Base.Reg Edi) = refl
base_back (Base.Reg Ebp) = refl

-- 1, 2, 4 or 8
abbrev pub IsScale : ℕ → Type 0
IsScale n = IsMember n (1 ∷ 2 ∷ 4 ∷ 8 ∷ [])

pub scale_word : (n : ℕ) → IsScale n → IsWordNumber (pos n)
scale_word n (inl e) = record { low = omega (arith, ints); high = omega (arith, ints, e) }
scale_word n (inr (inl e)) = record { low = omega (arith, ints); high = omega (arith, ints, e) }
scale_word n (inr (inr (inl e))) = record { low = omega (arith, ints); high = omega (arith, ints, e) }
scale_word n (inr (inr (inr (inl e)))) = record { low = omega (arith, ints); high = omega (arith, ints, e) }
scale_word n (inr (inr (inr (inr h)))) = absurd h

pub scale_small : (n : ℕ) → IsScale n → n < 2 ^ 64
scale_small n (inl e) = omega (arith, e)
scale_small n (inr (inl e)) = omega (arith, e)
scale_small n (inr (inr (inl e))) = omega (arith, e)
scale_small n (inr (inr (inr (inl e)))) = omega (arith, e)
scale_small n (inr (inr (inr (inr h)))) = absurd h

pub index_lacks : (c : Cutter) (x : Reg × ℕ) → (44 == cutter_code c) ≡ false → IsScale x.1 → lacks (cutter_code c) (index_text x) ≡ true
index_lacks c x other h =
    let scale : x.1 < 2 ^ 64 = scale_small x.1 h in
    let number : lacks (cutter_code c) (44 ∷ decimal x.1) ≡ true = rw (other, decimal_lacks (cutter_code c) x.1 (cutter_low c) scale) refl in
    rw (other, lacks-append (cutter_code c) (37 ∷ reg_name x.0) (44 ∷ decimal x.1) (register_lacks c x.0) number) refl

address_back : (d : ℤ) (registers : List ℕ) → IsWordNumber d → lacks 40 registers ≡ true → lacks 41 registers ≡ true → form_read (address_text d registers) ≡ form_with d (slice_split (λ x. x == 44) registers)
unfolding form_read
address_back d registers word no_open no_close =
    rw (
      split_at 40 (disp_text d) (registers ++ 41 ∷ []) (disp_lacks 40 d (omega arith) word),
      split_none 40 (registers ++ 41 ∷ []) (lacks-append 40 registers (41 ∷ []) no_open refl),
      split_at 41 registers [] no_close,
      disp_back d word,
    ) refl

pub name_back : (r : Reg) → register_named (reg_name r) ≡ Some (r, All)
name_back r = register_back r All (reg_name r) refl

index_back : (x : Reg × ℕ) → IsScale x.1 → index_in ((37 ∷ reg_name x.0) ∷ decimal x.1 ∷ []) ≡ Some x
index_back x h = rw (name_back x.0, number_back (pos x.1) (scale_word x.1 h)) refl

index_parts : (x : Reg × ℕ) → IsScale x.1 → slice_split (λ c. c == 44) ((37 ∷ reg_name x.0) ++ 44 ∷ decimal x.1) ≡ (37 ∷ reg_name x.0) ∷ decimal x.1 ∷ []
index_parts x h =
    rw (split_at 44 (37 ∷ reg_name x.0) (decimal x.1) (register_lacks Cutter.Comma x.0), split_none 44 (decimal x.1) (decimal_lacks 44 x.1 (omega arith) (scale_small x.1 h))) refl

abbrev form : ℤ → Option Base → Option (Reg × ℕ) → Form
form d base index = record { disp = d; base = base; index = index }

both_parts : (b : Base) (x : Reg × ℕ) → IsScale x.1 → slice_split (λ c. c == 44) (base_text b ++ index_text x) ≡ base_text b ∷ (37 ∷ reg_name x.0) ∷ decimal x.1 ∷ []
both_parts b x h = rw (split_at 44 (base_text b) ((37 ∷ reg_name x.0) ++ 44 ∷ decimal x.1) (base_lacks Cutter.Comma b), index_parts x h) refl

index_part : (x : Reg × ℕ) → IsScale x.1 → slice_split (λ c. c == 44) (index_text x) ≡ [] ∷ (37 ∷ reg_name x.0) ∷ decimal x.1 ∷ []
index_part x h = rw (split_at 44 [] ((37 ∷ reg_name x.0) ++ 44 ∷ decimal x.1) refl, index_parts x h) refl

pair_back : (d : ℤ) (b : Base) (x : Reg × ℕ) → IsWordNumber d → IsScale x.1 → form_read (address_text d (base_text b ++ index_text x)) ≡ form d (Some b) (Some x)
pair_back d b x word h =
    address_back d (base_text b ++ index_text x) word
    (lacks-append 40 (base_text b) (index_text x) (base_lacks Cutter.Open b) (index_lacks Cutter.Open x refl h))
    (lacks-append 41 (base_text b) (index_text x) (base_lacks Cutter.Close b) (index_lacks Cutter.Close x refl h))
    ∙ rw (both_parts b x h, base_back b, index_back x h) refl

forms_back : (d : ℤ) (base : Option Base) (index : Option (Reg × ℕ)) → IsWordNumber d → ((x : Reg × ℕ) → index ≡ Some x → IsScale x.1) → form_read (form_text (form d base index)) ≡ form d base index
forms_back d None None word scale = unfold form_read in rw (split_none 40 (signed_decimal d) (signed_lacks 40 d (omega arith) word), number_back d word) refl
forms_back d (Some b) None word scale =
    address_back d (base_text b) word (base_lacks Cutter.Open b) (base_lacks Cutter.Close b) ∙ rw (split_none 44 (base_text b) (base_lacks Cutter.Comma b), base_back b) refl
forms_back d (Some b) (Some x) word scale = pair_back d b x word (scale x refl)
forms_back d None (Some x) word scale =
    let h = scale x refl in
    address_back d (index_text x) word (index_lacks Cutter.Open x refl h) (index_lacks Cutter.Close x refl h) ∙ ap (form_with d) (index_part x h) ∙ rw (index_back x h) refl

-- an address is read back
pub form_back : (f : Form) → IsForm f → form_read (form_text f) ≡ f
form_back f is = forms_back f.disp f.base f.index (record { low = is.low; high = is.high }) is.scale

-- a number begins with no `$`
pub signed_first : (z : ℤ) → IsWordNumber z → (slice_index (signed_decimal z) 0 == 36) ≡ false
signed_first (pos zero) word = let h : 0 < 10 = omega arith in rw (decimal_digit 0 h) refl
signed_first (pos (suc n)) word =
    let high : suc n ≤ 4294967295 = omega (arith, ints, word.high) in
    digit_first (suc n) 36 (omega arith) (omega arith) (omega arith)
signed_first (negsuc n) word = refl
