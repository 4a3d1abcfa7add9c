-- Where statements end, from the last token to the first.
use Rattle.std.proofs.Common.{◌≡◌, ℕ, zero, suc, ◌+◌, ◌-◌, ◌<◌, ◌≤◌, false, List, [], ◌∷◌, length, take, drop, codes, nat_eq, refl, ◌∙◌, sym, subst, ap, arith, length-drop, take_all}
use Rattle.std.specs.Cmp.Lexicographic.{pointwise}
use Rattle.std.proofs.lemmas.List.{drop-drop, drop-set}
use Rattle.std.proofs.lemmas.Option.{slice_get_past}
use Rattle.std.proofs.Math.Seq.{drop-length}
use Rattle.std.proofs.Math.ListN.{set}
use Rattle.c_tokens.specs.declared.token.Token.{Token}
use Rattle.c_words.specs.File.{File}
use Rattle.c_words.specs.Words.{bytes_at}
use Rattle.c_decls.specs.declared.ends.Stop.TheVariants.{Semicolon}
use Rattle.c_decls.specs.Ends.{level_end}
use Rattle.c_decls.specs.Statements.{end_among, level_ends, statement_end_by, statement_ends}
use Rattle.c_decls.proofs.EndLemmas.{level-stop}

-- what the list of ends says of an index that lies so far behind the list's first
among_levels : (f : File) (ts : List Token) (first j k : ℕ) → first + length ts ≡ length f.tokens → first + k ≡ j
    → end_among first (level_ends f first ts) j ≡ level_end f Semicolon j
unfolding level_ends
among_levels f [] first j k e at = sym (level-stop f Semicolon j (omega arith))
among_levels f (t ∷ ts) first j zero e at = let here : j - first ≡ 0 = omega arith in let same : first ≡ j = omega arith in rw (here, same) refl
among_levels f (t ∷ ts) first j (suc k) e at = let there : j - first ≡ suc (j - (first + 1)) = omega arith in
    rw there (among_levels f ts (first + 1) j k (omega arith) (omega arith))

pub level_later : (f : File) (i j : ℕ) (later : List ℕ) → later ≡ level_ends f (i + 1) (drop (i + 1) f.tokens) → i < length f.tokens → i < j
    → end_among (i + 1) later j ≡ level_end f Semicolon j
level_later f i j later e lt behind = let count : i + 1 + length (drop (i + 1) f.tokens) ≡ length f.tokens = grind (arith, length-drop) in
    rw e (among_levels f (drop (i + 1) f.tokens) (i + 1) j (j - (i + 1)) count (omega arith))

pub level_all : (f : File) (j : ℕ) (levels : List ℕ) → levels ≡ level_ends f 0 f.tokens → end_among 0 levels j ≡ level_end f Semicolon j
level_all f j levels e = rw e (among_levels f f.tokens 0 j j (omega arith) (omega arith))

-- ---- one token more

levels-cons : (f : File) (i : ℕ) (ts : List Token) → 0 < length ts → level_ends f i ts ≡ level_end f Semicolon i ∷ level_ends f (i + 1) (drop 1 ts)
unfolding level_ends
levels-cons f i [] lt = elim lt [ ]
levels-cons f i (t ∷ ts) lt = refl

ends-cons : (f : File) (i : ℕ) (ts : List Token) → 0 < length ts
    → statement_ends f i ts ≡ statement_end_by (end_among (i + 1) (statement_ends f (i + 1) (drop 1 ts))) f i ∷ statement_ends f (i + 1) (drop 1 ts)
unfolding statement_ends
ends-cons f i [] lt = elim lt [ ]
ends-cons f i (t ∷ ts) lt = refl

pub level-backward : (f : File) (i : ℕ) → i < length f.tokens
    → level_ends f i (drop i f.tokens) ≡ level_end f Semicolon i ∷ level_ends f (i + 1) (drop (i + 1) f.tokens)
level-backward f i lt = let some : 0 < length (drop i f.tokens) = grind (arith, length-drop) in
    let next : drop 1 (drop i f.tokens) ≡ drop (i + 1) f.tokens = drop-drop 1 i f.tokens in
    levels-cons f i (drop i f.tokens) some ∙ rw next refl

pub end-backward : (f : File) (i : ℕ) → i < length f.tokens
    → statement_ends f i (drop i f.tokens) ≡ statement_end_by (end_among (i + 1) (statement_ends f (i + 1) (drop (i + 1) f.tokens))) f i ∷ statement_ends f (i + 1) (drop (i + 1) f.tokens)
end-backward f i lt = let some : 0 < length (drop i f.tokens) = grind (arith, length-drop) in
    let next : drop 1 (drop i f.tokens) ≡ drop (i + 1) f.tokens = drop-drop 1 i f.tokens in
    ends-cons f i (drop i f.tokens) some ∙ rw next refl

levels-none : (f : File) (i : ℕ) → i ≡ length f.tokens → level_ends f i (drop i f.tokens) ≡ []
unfolding level_ends
levels-none f i e = rw (e, drop-length f.tokens) refl

ends-none : (f : File) (i : ℕ) → i ≡ length f.tokens → statement_ends f i (drop i f.tokens) ≡ []
unfolding statement_ends
ends-none f i e = rw (e, drop-length f.tokens) refl

pub levels_begun : (f : File) (ends : List ℕ) (i : ℕ) → i ≡ length f.tokens → length ends ≡ i → drop i ends ≡ level_ends f i (drop i f.tokens)
levels_begun f ends i e count = rw (levels-none f i e) (rw (sym count) (drop-length ends))

pub ends_begun : (f : File) (ends : List ℕ) (i : ℕ) → i ≡ length f.tokens → length ends ≡ i → drop i ends ≡ statement_ends f i (drop i f.tokens)
ends_begun f ends i e count = rw (ends-none f i e) (rw (sym count) (drop-length ends))

pub levels_more : (f : File) (ends : List ℕ) (i j end : ℕ) → j + 1 ≡ i → i ≤ length f.tokens → length ends ≡ length f.tokens
    → drop i ends ≡ level_ends f i (drop i f.tokens) → end ≡ level_end f Semicolon j → drop j (set ends j end) ≡ level_ends f j (drop j f.tokens)
levels_more f ends i j end before le count e here =
    let now : i ≡ j + 1 = omega arith in
    let later : drop (j + 1) ends ≡ level_ends f (j + 1) (drop (j + 1) f.tokens) = subst (λ (k : ℕ). drop k ends ≡ level_ends f k (drop k f.tokens)) now e in
    drop-set ends j _ (omega arith) ∙ rw (here, later) (sym (level-backward f j (omega arith)))

pub ends_more : (f : File) (ends : List ℕ) (i j end : ℕ) → j + 1 ≡ i → i ≤ length f.tokens → length ends ≡ length f.tokens
    → drop i ends ≡ statement_ends f i (drop i f.tokens) → end ≡ statement_end_by (end_among (j + 1) (drop (j + 1) ends)) f j → drop j (set ends j end) ≡ statement_ends f j (drop j f.tokens)
ends_more f ends i j end before le count e here =
    let now : i ≡ j + 1 = omega arith in
    let later : drop (j + 1) ends ≡ statement_ends f (j + 1) (drop (j + 1) f.tokens) = subst (λ (k : ℕ). drop k ends ≡ statement_ends f k (drop k f.tokens)) now e in
    drop-set ends j _ (omega arith) ∙ rw (here, later) (sym (end-backward f j (omega arith)))

none_past : (f : File) (i : ℕ) → length f.tokens ≤ i → bytes_at f i ≡ []
unfolding bytes_at
none_past f i le = rw (slice_get_past f.tokens i le, bytes_at) refl

pub else_past : (f : File) (i : ℕ) → length f.tokens ≤ i → pointwise nat_eq (bytes_at f i) (codes "else") ≡ false
else_past f i le = ap (λ (bytes : List ℕ). pointwise nat_eq bytes (codes "else")) (none_past f i le)

-- a slice from an index on
pub rest : (xs : List ℕ) (k : ℕ) → take (length xs - k) (drop k xs) ≡ drop k xs
rest xs k = let all : length (drop k xs) ≤ length xs - k = grind (arith, length-drop) in take_all _ _ all

pub ruleset backward_steps = (levels_begun, ends_begun, levels_more, ends_more)
