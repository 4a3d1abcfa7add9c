-- The symbols of what is left of an alternative, and the alternatives of what is left of a constraint.
use Rattle.std.proofs.Common.{◌≡◌, ℕ, zero, suc, ◌+◌, ◌<◌, ◌≤◌, List, [], ◌∷◌, ◌++◌, map, length, take, drop, get_or, Bool, true, false, cond, nat_lt, Option, Some, None, refl, sym, ◌∙◌, ap, subst, append_assoc, arith}
use Rattle.std.specs.List.{position, position_or_len, slice_split}
use Rattle.std.proofs.lemmas.Bool.{ltb-true, ltb-false}
use Rattle.std.proofs.lemmas.List.{append-nil, drop_more, drop_all, drop-drop}
use Rattle.std.proofs.lemmas.List.Sums.{fails_before_first}
use Rattle.std.proofs.lemmas.List.Splits.{slice_split_first, slice_split_none}
use Rattle.asm_core.specs.Constraint.{symbol_at, symbols_from, is_comma}
use Rattle.asm_core.specs.declared.constraint.Symbol.{Symbol}

-- the bytes of the symbol before are passed over
symbols_from-taken : (outputs : List (Option (List ℕ))) (n : ℕ) (bs : List ℕ) → symbols_from outputs n bs ≡ symbols_from outputs 0 (drop n bs)
unfolding symbols_from
symbols_from-taken outputs zero [] = refl
symbols_from-taken outputs (suc n) [] = refl
symbols_from-taken outputs zero (b ∷ bs) = refl
symbols_from-taken outputs (suc n) (b ∷ bs) = symbols_from-taken outputs n bs

symbols_from-first : (outputs : List (Option (List ℕ))) (b : ℕ) (bs : List ℕ)
    → symbols_from outputs 0 (b ∷ bs) ≡ (symbol_at outputs b bs).0 ∷ symbols_from outputs 0 (drop (symbol_at outputs b bs).1 bs)
unfolding symbols_from
symbols_from-first outputs b bs = ap (λ rest. (symbol_at outputs b bs).0 ∷ rest) (symbols_from-taken outputs (symbol_at outputs b bs).1 bs)

-- the next symbol, and those behind it
symbols_from-at : (outputs : List (Option (List ℕ))) (text : List ℕ) (at next : ℕ) (found : Symbol × ℕ) → at < length text
    → found ≡ symbol_at outputs (get_or text at 0) (drop (at + 1) text) → next ≡ at + (1 + found.1)
    → symbols_from outputs 0 (drop at text) ≡ found.0 ∷ symbols_from outputs 0 (drop next text)
symbols_from-at outputs text at next found inside e n =
    let begins : drop at text ≡ get_or text at 0 ∷ drop (at + 1) text = drop_more text at 0 inside in
    let first : symbols_from outputs 0 (drop at text) ≡ symbols_from outputs 0 (get_or text at 0 ∷ drop (at + 1) text) = ap (symbols_from outputs 0) begins in
    let step = symbols_from-first outputs (get_or text at 0) (drop (at + 1) text) in
    let again : drop found.1 (drop (at + 1) text) ≡ drop (at + 1 + found.1) text = drop-drop found.1 (at + 1) text in
    let place : next ≡ at + 1 + found.1 = omega (arith, n) in
    cc

symbols_from-all : (outputs : List (Option (List ℕ))) (text : List ℕ) (at : ℕ) → length text ≤ at → symbols_from outputs 0 (drop at text) ≡ []
unfolding symbols_from
symbols_from-all outputs text at e = rw (drop_all at text e) refl

-- one more symbol is made, the bytes behind its first being `behind`
pub symbols_from-more : (outputs : List (Option (List ℕ))) (text behind : List ℕ) (at next : ℕ) (found : Symbol × ℕ) (before made all : List Symbol) → at < length text
    → behind ≡ drop (at + 1) text → found ≡ symbol_at outputs (get_or text at 0) behind → next ≡ at + (1 + found.1)
    → made ≡ before ++ found.0 ∷ [] → before ++ symbols_from outputs 0 (drop at text) ≡ all → made ++ symbols_from outputs 0 (drop next text) ≡ all
symbols_from-more outputs text behind at next found before made all inside b e n m invariant =
    let whole : found ≡ symbol_at outputs (get_or text at 0) (drop (at + 1) text) = cc in
    let step : symbols_from outputs 0 (drop at text) ≡ found.0 ∷ symbols_from outputs 0 (drop next text) = symbols_from-at outputs text at next found inside whole n in
    rw (m, append_assoc) (rw (← step) invariant)

-- no more are left
pub symbols_from-end : (outputs : List (Option (List ℕ))) (text : List ℕ) (at : ℕ) (made all : List Symbol) → length text ≤ at
    → made ++ symbols_from outputs 0 (drop at text) ≡ all → made ≡ all
symbols_from-end outputs text at made all e invariant =
    sym (append-nil made) ∙ (ap (λ rest. made ++ rest) (sym (symbols_from-all outputs text at e)) ∙ invariant)

found_at : (b : Bool) (n m k : ℕ) → nat_lt n m ≡ b → cond b (Some n) None ≡ Some k → (n ≡ k) × (n < m)
found_at true n m k e f = (cc, ltb-true n m e)
found_at false n m k e f = cc

none_before : (b : Bool) (n m : ℕ) → nat_lt n m ≡ b → cond b (Some n) None ≡ None → m ≤ n
none_before true n m e f = cc
none_before false n m e f = ltb-false n m e

-- the alternative before the first comma, and those behind it
slice_split-comma : (text : List ℕ) (at k next : ℕ) → position is_comma (drop at text) ≡ Some k → next ≡ at + (k + 1)
    → slice_split is_comma (drop at text) ≡ take k (drop at text) ∷ slice_split is_comma (drop next text)
slice_split-comma text at k next e n =
    let there = found_at _ (position_or_len is_comma (drop at text)) (length (drop at text)) k refl e in
    let place : position_or_len is_comma (drop at text) ≡ k = there.0 in
    let parts = slice_split_first is_comma (drop at text) 0 there.1 in
    let again : drop (k + 1) (drop at text) ≡ drop (at + (k + 1)) text = drop-drop (k + 1) at text in
    parts ∙ rw (place, again, ← n) refl

slice_split-no_comma : (text : List ℕ) → position is_comma text ≡ None → slice_split is_comma text ≡ text ∷ []
slice_split-no_comma text e =
    let whole : length text ≤ position_or_len is_comma text = none_before _ (position_or_len is_comma text) (length text) refl e in
    slice_split_none is_comma text (λ k d h. fails_before_first is_comma text k d (omega (arith, whole, h)))

-- one more alternative is made
pub alternatives-more : (outputs : List (Option (List ℕ))) (text rest alternative : List ℕ) (at k next : ℕ) (before made all : List (List Symbol))
    → rest ≡ drop at text → position is_comma rest ≡ Some k → next ≡ at + (k + 1) → alternative ≡ take k (drop at text)
    → made ≡ before ++ symbols_from outputs 0 alternative ∷ []
    → before ++ map (symbols_from outputs 0) (slice_split is_comma (drop at text)) ≡ all
    → made ++ map (symbols_from outputs 0) (slice_split is_comma (drop next text)) ≡ all
alternatives-more outputs text rest alternative at k next before made all r e n a m invariant =
    let found : position is_comma (drop at text) ≡ Some k = subst (λ (xs : List ℕ). position is_comma xs ≡ Some k) r e in
    let step = slice_split-comma text at k next found n in
    let all_of : map (symbols_from outputs 0) (slice_split is_comma (drop at text)) ≡ symbols_from outputs 0 alternative ∷ map (symbols_from outputs 0) (slice_split is_comma (drop next text)) =
    ap (map (symbols_from outputs 0)) step ∙ rw a refl in
    rw (m, append_assoc) (rw (← all_of) invariant)

-- the last one
pub alternatives-last : (outputs : List (Option (List ℕ))) (text rest : List ℕ) (at : ℕ) (before made all : List (List Symbol))
    → rest ≡ drop at text → position is_comma rest ≡ None → made ≡ before ++ symbols_from outputs 0 rest ∷ []
    → before ++ map (symbols_from outputs 0) (slice_split is_comma (drop at text)) ≡ all → made ≡ all
alternatives-last outputs text rest at before made all r e m invariant =
    let found : position is_comma (drop at text) ≡ None = subst (λ (xs : List ℕ). position is_comma xs ≡ None) r e in
    let all_of : map (symbols_from outputs 0) (slice_split is_comma (drop at text)) ≡ symbols_from outputs 0 rest ∷ [] =
    ap (map (symbols_from outputs 0)) (slice_split-no_comma (drop at text) found) ∙ rw r refl in
    m ∙ rw (← all_of) invariant
