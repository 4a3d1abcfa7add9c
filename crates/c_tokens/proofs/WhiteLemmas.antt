-- Where comments and lines end.
use Rattle.std.proofs.Common.{◌≡◌, ℕ, zero, suc, ◌+◌, ◌-◌, ◌<◌, ◌≤◌, inl, inr, Bool, true, false, List, [], ◌∷◌, drop, length, get_or, cond, refl, arith, ◌==◌, sym, ◌∙◌, subst, Option, Some, None}
use Rattle.std.proofs.lemmas.Bool.{cases_lt, eqb-true}
use Rattle.std.proofs.lemmas.Bool.Decides.{nat_tests}
use Rattle.c_tokens.specs.Bytes.{is_pair_at}
use Rattle.c_tokens.specs.Ends.{comment_end, line_end}
use Rattle.c_tokens.specs.White.{IsCommentEnd, EndsLine, IsLineEnd}
use Rattle.c_tokens.proofs.EndSteps.{comment_end-step, comment_end-done, line_end-step, line_end-done}

pub past : (text : List ℕ) (k : ℕ) → length text ≤ k → get_or text k 0 ≡ 0
past [] k le = refl
past (b ∷ bs) zero le = absurd (omega arith)
past (b ∷ bs) (suc k) le = past bs k (omega arith)

abbrev pub CommentEnds : List ℕ → ℕ → Option ℕ → Type 0
CommentEnds text i (Some e) = IsCommentEnd text i e
CommentEnds text i None = (k : ℕ) → i ≤ k → is_pair_at text k 42 47 ≡ false

earlier : (text : List ℕ) (i : ℕ) (r : Option ℕ) → is_pair_at text i 42 47 ≡ false → CommentEnds text (i + 1) r → CommentEnds text i r
earlier text i None absent rest = λ k le. elim (cases_lt i k) [ inl lt ↦ rest k (omega arith) | inr ge ↦ let same : k ≡ i = omega arith in rw same absent ]
earlier text i (Some e) absent rest =
    let long = rest.long_enough in
    record {
      long_enough = omega arith;
      closed = rest.closed;
      first = λ k le lt. elim (cases_lt i k) [ inl above ↦ rest.first k (omega arith) lt | inr ge ↦ let same : k ≡ i = omega arith in rw same absent ];
    }

pub comment_ends : (text : List ℕ) (n i : ℕ) → length text ≤ i + n → CommentEnds text i (comment_end i (drop i text))
comment_ends text zero i le = rw (comment_end-done text i (omega arith)) (λ k ge. rw (past text k (omega arith)) refl)
comment_ends text (suc n) i le = elim (cases_lt i (length text)) [
  | inr ge ↦ rw (comment_end-done text i ge) (λ k above. rw (past text k (omega arith)) refl)
  | inl lt ↦ rw (comment_end-step text i lt) (
      elim (is_pair_at text i 42 47) as (λ t. is_pair_at text i 42 47 ≡ t → CommentEnds text i (cond t (Some (i + 2)) (comment_end (i + 1) (drop (i + 1) text)))) [
        | true ↦ λ e. record {
          long_enough = omega arith;
          closed = let back : i + 2 - 2 ≡ i = omega arith in rw back e;
          first = λ k ge below. absurd (omega arith);
        }
        | false ↦ λ e. earlier text i (comment_end (i + 1) (drop (i + 1) text)) e (comment_ends text n (i + 1) (omega arith))
      ] refl)
]

-- a flag tells whether the byte before is a backslash
abbrev pub Spliced : List ℕ → ℕ → Bool → Type 0
Spliced text i s = s ≡ (get_or text (i - 1) 0 == 92)

onward : (text : List ℕ) (i e : ℕ) → (EndsLine text i → ⊥) → IsLineEnd text (i + 1) e → IsLineEnd text i e
onward text i e other rest =
    let behind = rest.behind in
    record {
      behind = omega arith;
      inside = rest.inside;
      first = λ k ge lt ends. elim (cases_lt i k) [ inl above ↦ rest.first k (omega arith) lt ends | inr here ↦ let same : k ≡ i = omega arith in other (let P : ℕ → Type 0 = λ n. EndsLine text n in subst P same ends) ];
      ends = rest.ends;
    }

next_flag : (text : List ℕ) (i : ℕ) → Spliced text (i + 1) (get_or text i 0 == 92)
next_flag text i = let back : i + 1 - 1 ≡ i = omega arith in rw back refl

pub line_ends : (text : List ℕ) (n i : ℕ) (s : Bool) → i + n ≡ length text → Spliced text i s → IsLineEnd text i (line_end s i (drop i text))
line_ends text zero i s le flag = rw (line_end-done s text i (omega arith)) (record {
  behind = omega arith;
  inside = omega arith;
  first = λ k ge lt. absurd (omega arith);
  ends = inl (omega arith);
})
line_ends text (suc n) i s le flag =
    let lt : i < length text = omega arith in
    let rest = line_ends text n (i + 1) (get_or text i 0 == 92) (omega arith) (next_flag text i) in
    rw (line_end-step s text i lt) (
    elim s as (λ t. s ≡ t → IsLineEnd text i (cond t (line_end (get_or text i 0 == 92) (i + 1) (drop (i + 1) text)) (cond (get_or text i 0 == 10) i (line_end (get_or text i 0 == 92) (i + 1) (drop (i + 1) text))))) [
      | true ↦ λ e. onward text i _ (λ ends. ends.unspliced (eqb-true _ _ (sym flag ∙ e))) rest
      | false ↦ λ e. elim (get_or text i 0 == 10) as (λ t. (get_or text i 0 == 10) ≡ t → IsLineEnd text i (cond t i (line_end (get_or text i 0 == 92) (i + 1) (drop (i + 1) text)))) [
        | true ↦ λ f. record {
          behind = omega arith;
          inside = omega arith;
          first = λ k ge below. absurd (omega arith);
          ends = inr (record { newline = eqb-true _ _ f; unspliced = λ back. differ 92 (rw back at (sym flag ∙ e)) });
        }
        | false ↦ λ f. onward text i _ (λ ends. differ 10 (rw ends.newline at f)) rest
      ] refl
    ] refl)
  where
    differ : (n : ℕ) → (n == n) ≡ false → ⊥
    differ n e = absurd (grind (arith, nat_tests))
