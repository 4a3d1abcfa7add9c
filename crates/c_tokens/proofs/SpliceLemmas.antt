-- One edit.
use Rattle.std.proofs.Common.{◌≡◌, ℕ, ◌+◌, ◌-◌, ◌<◌, ◌≤◌, List, [], ◌∷◌, ◌++◌, take, drop, length, get_or, refl, arith, subst, ◌∙◌, append_assoc, length-drop}
use Rattle.std.proofs.Math.Seq.{take-length}
use Rattle.std.proofs.lemmas.List.{drop_more, drop_all}
use Rattle.asm_core.specs.declared.edit.Edit.{Edit}
use Rattle.c_tokens.specs.Splice.{AreApart, spliced_from}

splice-none : (text : List ℕ) (from : ℕ) (es : List Edit) (k : ℕ) → length es ≤ k → spliced_from text from (drop k es) ≡ drop from text
unfolding spliced_from
splice-none text from es k le = rw (drop_all k es le) refl

pub splice-end : (text out : List ℕ) (from : ℕ) (es : List Edit) (k : ℕ) (whole : List ℕ) → length es ≤ k
    → out ++ spliced_from text from (drop k es) ≡ whole → out ++ take (length text - from) (drop from text) ≡ whole
splice-end text out from es k whole le so_far =
    let all : take (length text - from) (drop from text) ≡ drop from text = rw (← length-drop from text) (take-length (drop from text)) in
    rw all (rw (splice-none text from es k le) at so_far)

pub splice-more : (text out later : List ℕ) (from : ℕ) (es : List Edit) (k : ℕ) (e : Edit) (whole : List ℕ) → k < length es → e ≡ get_or es k e
    → later ≡ out ++ take (e.span.from - from) (drop from text) ++ e.text
    → out ++ spliced_from text from (drop k es) ≡ whole → later ++ spliced_from text e.span.to (drop (k + 1) es) ≡ whole
unfolding spliced_from
splice-more text out later from es k e whole lt is grown so_far =
    let here : drop k es ≡ e ∷ drop (k + 1) es = drop_more es k e lt ∙ rw (← is) refl in
    let before : out ++ (take (e.span.from - from) (drop from text) ++ e.text ++ spliced_from text e.span.to (drop (k + 1) es)) ≡ whole = rw here at so_far in
    rw grown (simp append_assoc (simp append_assoc at before))

pub apart-le : (from : ℕ) (es : List Edit) (end : ℕ) → AreApart from es end → from ≤ end
apart-le from [] end h = h
apart-le from (e ∷ es) end h = let more = apart-le e.span.to es end h.2 in omega (arith, h.0, h.1, more)

pub apart-more : (from : ℕ) (es : List Edit) (end k : ℕ) (e : Edit) → k < length es → e ≡ get_or es k e → AreApart from (drop k es) end
    → (from ≤ e.span.from) × (e.span.from ≤ e.span.to) × AreApart e.span.to (drop (k + 1) es) end
apart-more from es end k e lt is h =
    let here : drop k es ≡ e ∷ drop (k + 1) es = drop_more es k e lt ∙ rw (← is) refl in
    let P : List Edit → Type 0 = λ xs. AreApart from xs end in
    subst P here h
