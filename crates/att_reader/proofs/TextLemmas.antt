-- Parts of texts, and the blanks at their ends.
use Rattle.std.proofs.Common.{◌≡◌, ◌∙◌, ◌<◌, ◌≤◌, ◌-◌, ℕ, zero, suc, List, [], ◌∷◌, map, length, take, drop, get_or, Bool, true, false, cond, refl, ap, sym, arith}
use Rattle.std.proofs.Math.Dec.{eqb-suc-zero}
use Rattle.std.proofs.lemmas.List.{drop-map, take-map, length-map}
use Rattle.asm_core.specs.Reading.Operands.{atom_code, content_len}
use Rattle.asm_core.specs.Reading.Cut.{is_blank}
use Rattle.asm_core.specs.declared.reading.Atom.{Atom}

pub codes_rest : (cs : List ℕ) (xs : List Atom) (n : ℕ) → cs ≡ map atom_code xs → drop n cs ≡ map atom_code (drop n xs)
codes_rest cs xs n e = rw e (drop-map atom_code n xs)

pub codes_front : (cs : List ℕ) (xs : List Atom) (n : ℕ) → cs ≡ map atom_code xs → take n cs ≡ map atom_code (take n xs)
codes_front cs xs n e = rw e (take-map atom_code n xs)

pub codes_len : (cs : List ℕ) (xs : List Atom) → cs ≡ map atom_code xs → length cs ≡ length xs
codes_len cs xs e = rw e (length-map xs atom_code)

content_suc : (cs : List ℕ) (n : ℕ) (b : Bool) → n < length cs → is_blank (get_or cs n 0) ≡ b
    → content_len (take (suc n) cs) ≡ cond b (content_len (take n cs)) (suc n)
content_suc [] n b lt e = absurd (omega arith)
content_suc (c ∷ cs) zero b lt e = rw e refl
content_suc (c ∷ cs) (suc n) true lt e =
    let shorter : n < length cs = omega arith in
    rw (content_suc cs n true shorter e) refl
content_suc (c ∷ cs) (suc n) false lt e =
    let shorter : n < length cs = omega arith in
    rw (content_suc cs n false shorter e, eqb-suc-zero n) (omega arith)

pub content_blank : (cs : List ℕ) (n : ℕ) → 0 < n → n ≤ length cs → is_blank (get_or cs (n - 1) 0) ≡ true
    → content_len (take (n - 1) cs) ≡ content_len (take n cs)
content_blank cs n some within e =
    let here : n ≡ suc (n - 1) = omega arith in
    let step = content_suc cs (n - 1) true (omega arith) e in
    rw (ap (λ k. content_len (take k cs)) here ∙ step) refl

pub content_stop : (cs : List ℕ) (n : ℕ) → 0 < n → n ≤ length cs → is_blank (get_or cs (n - 1) 0) ≡ false
    → content_len (take n cs) ≡ n
content_stop cs n some within e =
    let here : n ≡ suc (n - 1) = omega arith in
    ap (λ k. content_len (take k cs)) here ∙ (content_suc cs (n - 1) false (omega arith) e ∙ sym here)

pub content_none : (cs : List ℕ) → content_len (take 0 cs) ≡ 0
content_none cs = refl

pub ruleset text_steps = (codes_rest, codes_front, codes_len)

pub ruleset content_steps = (content_blank, content_stop, content_none)
