-- Whether a line opens at an offset, one byte further.
use Rattle.std.proofs.Common.{◌≡◌, ℕ, ◌+◌, ◌-◌, ◌<◌, ◌≤◌, true, false, List, [], ◌∷◌, take, length, get_or, cond, refl, arith, ◌==◌, sym, ◌∙◌, not, reverse, subst, Some}
use Rattle.std.specs.List.{find}
use Rattle.std.proofs.lemmas.List.{take_more, reverse-append}
use Rattle.c_tokens.specs.Bytes.{is_blank}
use Rattle.c_tokens.specs.Items.{opens_line, is_newline_or_none}

first_of : (b : ℕ) (bs : List ℕ) → is_newline_or_none (find (λ x. not (is_blank x)) (b ∷ bs)) ≡ cond (is_blank b) (is_newline_or_none (find (λ x. not (is_blank x)) bs)) (b == 10)
first_of b bs = elim (is_blank b) as (λ t. is_newline_or_none (cond (not t) (Some b) (find (λ x. not (is_blank x)) bs)) ≡ cond t (is_newline_or_none (find (λ x. not (is_blank x)) bs)) (b == 10)) [ true ↦ refl | false ↦ refl ]

opens_line-more : (text : List ℕ) (i : ℕ) → i < length text → opens_line text (i + 1) ≡ cond (is_blank (get_or text i 0)) (opens_line text i) (get_or text i 0 == 10)
unfolding opens_line
opens_line-more text i lt = rw (take_more text i 0 lt, reverse-append (take i text) (get_or text i 0 ∷ [])) (first_of (get_or text i 0) (reverse (take i text)))

pub opens_line-none : (text : List ℕ) (i : ℕ) → i ≤ 0 → opens_line text i ≡ true
unfolding opens_line
opens_line-none text i e = let z : i ≡ 0 = omega arith in rw z refl

pub opens_line-blank : (text : List ℕ) (i : ℕ) → 0 < i → i ≤ length text → is_blank (get_or text (i - 1) 0) ≡ true → opens_line text i ≡ opens_line text (i - 1)
opens_line-blank text i lt le b =
    let back : i ≡ i - 1 + 1 = omega arith in
    let short : i - 1 < length text = omega arith in
    let P : ℕ → Type 0 = λ k. opens_line text k ≡ opens_line text (i - 1) in
    subst P (sym back) (opens_line-more text (i - 1) short ∙ rw b refl)

pub opens_line-other : (text : List ℕ) (i : ℕ) → 0 < i → i ≤ length text → is_blank (get_or text (i - 1) 0) ≡ false → opens_line text i ≡ (get_or text (i - 1) 0 == 10)
opens_line-other text i lt le b =
    let back : i ≡ i - 1 + 1 = omega arith in
    let short : i - 1 < length text = omega arith in
    let P : ℕ → Type 0 = λ k. opens_line text k ≡ (get_or text (i - 1) 0 == 10) in
    subst P (sym back) (opens_line-more text (i - 1) short ∙ rw b refl)

pub ruleset opening_steps = (opens_line-none, opens_line-blank, opens_line-other)
