-- The beginnings of lines, cut at an offset.
use Rattle.std.proofs.Common.{◌≡◌, ℕ, zero, suc, ◌+◌, ◌-◌, ◌<◌, ◌≤◌, Bool, true, false, List, [], ◌∷◌, ◌++◌, take, drop, length, get_or, cond, refl, arith, ◌==◌, not, reverse, ap, sym, ◌∙◌, subst, append_assoc, add-one, length-append, count_by, sum_by, inl, inr, nat_le}
use Rattle.std.specs.List.{prefix_len}
use Rattle.std.specs.List.Sorted.{IsPartitionedBy, IsPartitionPoint}
use Rattle.std.proofs.lemmas.List.{drop_more, drop_all, take_more, reverse-append, append-nil, get_or_append_left, get_or-append-add, length-take-le}
use Rattle.std.proofs.lemmas.Bool.{cases_lt, le-leb, lt-leb}
use Rattle.std.proofs.lemmas.Bool.Decides.{nat_tests}
use Rattle.std.proofs.lemmas.List.Sums.{sum_by-append, count_by-le-length}
use Rattle.c_tokens.specs.Lines.{starts_after, starts_of, newlines_before, bytes_since_newline}

pub start-none : (text : List ℕ) (i : ℕ) → length text ≤ i → starts_after i (drop i text) ≡ []
unfolding starts_after
start-none text i le = rw (drop_all i text le) refl

start-step : (text : List ℕ) (i : ℕ) → i < length text
    → starts_after i (drop i text) ≡ cond (get_or text i 0 == 10) ((i + 1) ∷ starts_after (i + 1) (drop (i + 1) text)) (starts_after (i + 1) (drop (i + 1) text))
unfolding starts_after
start-step text i lt = rw (drop_more text i 0 lt) refl

pub start-newline : (text : List ℕ) (i : ℕ) → i < length text → get_or text i 0 ≡ 10 → starts_after i (drop i text) ≡ (i + 1) ∷ starts_after (i + 1) (drop (i + 1) text)
start-newline text i lt e = start-step text i lt ∙ rw e refl

pub start-other : (text : List ℕ) (i : ℕ) → i < length text → (get_or text i 0 ≡ 10 → ⊥) → starts_after i (drop i text) ≡ starts_after (i + 1) (drop (i + 1) text)
start-other text i lt n = grind (arith, nat_tests, start-step)

pub append_assoc_rule : (a b c : List ℕ) → (a ++ b) ++ c ≡ a ++ (b ++ c)
append_assoc_rule a b c = append_assoc a b c

pub ruleset start_steps = (start-none, start-newline, start-other, append_assoc_rule, append-nil)

-- what begins up to an offset, and what begins behind it
pub record Split (text starts : List ℕ) (k : ℕ) : Type 0 where
  pub whole : starts_of text ≡ starts ++ starts_after k (drop k text)
  pub some : 0 < length starts
  pub count : length starts ≡ newlines_before text k + 1
  pub last : (d : ℕ) → get_or starts (length starts - 1) d + bytes_since_newline text k ≡ k
  pub up_to : (j d : ℕ) → j < length starts → get_or starts j d ≤ k

count-more : (text : List ℕ) (k : ℕ) → k < length text → newlines_before text (k + 1) ≡ newlines_before text k + cond (get_or text k 0 == 10) 1 0
count-more text k lt = rw (take_more text k 0 lt) (sum_by-append (λ b. cond (b == 10) 1 0) (take k text) (get_or text k 0 ∷ []) ∙ one)
  where
    one : sum_by (λ b. cond (b == 10) 1 0) (take k text) + sum_by (λ b. cond (b == 10) 1 0) (get_or text k 0 ∷ []) ≡ newlines_before text k + cond (get_or text k 0 == 10) 1 0
    one = omega arith

since-more : (text : List ℕ) (k : ℕ) → k < length text → bytes_since_newline text (k + 1) ≡ cond (get_or text k 0 == 10) 0 (bytes_since_newline text k + 1)
since-more text k lt = rw (take_more text k 0 lt, reverse-append (take k text) (get_or text k 0 ∷ [])) (one (get_or text k 0) (reverse (take k text)))
  where
    one : (b : ℕ) (bs : List ℕ) → cond (not (b == 10)) (1 + prefix_len (λ x. not (x == 10)) bs) 0 ≡ cond (b == 10) 0 (prefix_len (λ x. not (x == 10)) bs + 1)
    one b bs = elim (b == 10) as (λ t. cond (not t) (1 + prefix_len (λ x. not (x == 10)) bs) 0 ≡ cond t 0 (prefix_len (λ x. not (x == 10)) bs + 1)) [ true ↦ refl | false ↦ omega arith ]

up_to_more : (starts : List ℕ) (k j d : ℕ) → j < length starts + 1 → ((x y : ℕ) → x < length starts → get_or starts x y ≤ k) → get_or (starts ++ k ∷ []) j d ≤ k
up_to_more starts k j d h before =
    elim (cases_lt j (length starts)) [
      | inl under ↦ rw (get_or_append_left starts (k ∷ []) d j under) (before j d under)
      | inr over ↦
          let here : j ≡ length starts + 0 = omega arith in
          rw here (rw (get_or-append-add starts (k ∷ []) 0 d) (omega arith))
    ]

-- one byte further
split_more : (text starts : List ℕ) (k : ℕ) → k < length text → Split text starts k → (later : List ℕ) × Split text later (k + 1)
split_more text starts k lt s =
    elim (get_or text k 0 == 10) as (λ t. (get_or text k 0 == 10) ≡ t → (later : List ℕ) × Split text later (k + 1)) [
      | true ↦ λ e.
          let longer : length (starts ++ (k + 1) ∷ []) ≡ length starts + 1 = simp length-append (omega arith) in
          let counted : newlines_before text (k + 1) ≡ newlines_before text k + 1 = count-more text k lt ∙ rw e refl in
          let none : bytes_since_newline text (k + 1) ≡ 0 = since-more text k lt ∙ rw e refl in (
            starts ++ (k + 1) ∷ [],
            record {
              whole = s.whole ∙ ap (λ (xs : List ℕ). starts ++ xs) (start-step text k lt ∙ rw e refl) ∙ sym (append_assoc starts ((k + 1) ∷ []) (starts_after (k + 1) (drop (k + 1) text)));
              some = omega arith;
              count = omega (arith, s.count);
              last = λ d.
                  let end : get_or (starts ++ (k + 1) ∷ []) (length starts + 0) d ≡ k + 1 = get_or-append-add starts ((k + 1) ∷ []) 0 d in
                  let there : length starts + 1 - 1 ≡ length starts + 0 = omega arith in
                  rw (longer, none, there) (omega (arith, end));
              up_to = λ j d h. up_to_more starts (k + 1) j d (omega arith) (λ x y z. let before = s.up_to x y z in omega arith);
            },
          )
      | false ↦ λ e.
          let counted : newlines_before text (k + 1) ≡ newlines_before text k = count-more text k lt ∙ rw e (omega arith) in
          let one_more : bytes_since_newline text (k + 1) ≡ bytes_since_newline text k + 1 = since-more text k lt ∙ rw e refl in (
            starts,
            record {
              whole = s.whole ∙ ap (λ (xs : List ℕ). starts ++ xs) (start-step text k lt ∙ rw e refl);
              some = s.some;
              count = omega (arith, s.count);
              last = λ d. omega (arith, s.last d);
              up_to = λ j d h. let before = s.up_to j d h in omega arith;
            },
          )
    ] refl

pub split_at : (text : List ℕ) (k : ℕ) → k ≤ length text → (starts : List ℕ) × Split text starts k
split_at text zero le = (0 ∷ [], record { whole = refl; some = omega arith; count = refl; last = λ d. refl; up_to = λ j d h. up_to_more [] 0 j d h (λ x y z. absurd (omega arith)) })
split_at text (suc k) le =
    let before = split_at text k (omega arith) in
    let P : ℕ → Type 0 = λ n. (starts : List ℕ) × Split text starts n in
    subst P (add-one k) (split_more text before.0 k (omega arith) before.1)

-- what is left begins behind the offset
after_above : (i : ℕ) (bs : List ℕ) (j d : ℕ) → j < length (starts_after i bs) → i < get_or (starts_after i bs) j d
unfolding starts_after
after_above i [] j d h = absurd (omega arith)
after_above i (b ∷ bs) j d h =
    elim (b == 10) as (λ t. j < length (cond t ((i + 1) ∷ starts_after (i + 1) bs) (starts_after (i + 1) bs)) → i < get_or (cond t ((i + 1) ∷ starts_after (i + 1) bs) (starts_after (i + 1) bs)) j d) [
      | true ↦ λ h. first_above i (starts_after (i + 1) bs) j d h (λ k l. after_above (i + 1) bs k d l)
      | false ↦ λ h. let later = after_above (i + 1) bs j d h in omega arith
    ] h
  where
    first_above : (i : ℕ) (xs : List ℕ) (j d : ℕ) → j < length ((i + 1) ∷ xs) → ((k : ℕ) → k < length xs → i + 1 < get_or xs k d) → i < get_or ((i + 1) ∷ xs) j d
    first_above i xs zero d h later = omega arith
    first_above i xs (suc k) d h later = let more = later k (omega arith) in omega arith

abbrev begun : ℕ → ℕ → Bool
begun offset s = nat_le s offset

-- what a binary search finds
pub record Place (text starts : List ℕ) (offset line : ℕ) : Type 0 where
  pub some : 0 < line
  pub is_line : line ≡ newlines_before text offset + 1
  pub is_start : (d : ℕ) → get_or starts (line - 1) d + bytes_since_newline text offset ≡ offset

place_in : (text before behind : List ℕ) (offset line : ℕ) → Split text before offset → ((j d : ℕ) → j < length behind → offset < get_or behind j d)
    → line ≤ length (before ++ behind)
    → (IsPartitionedBy (begun offset) (before ++ behind) → IsPartitionPoint (λ s. begun offset s ≡ true) (λ s. begun offset s ≡ false) (before ++ behind) line)
    → Place text (before ++ behind) offset line
place_in text before behind offset line s above le point =
    let whole : length (before ++ behind) ≡ length before + length behind = length-append before behind in
    let parted : IsPartitionedBy (begun offset) (before ++ behind) = λ i j d low within holds.
    elim (cases_lt j (length before)) [
      | inl under ↦ yes i d (omega arith)
      | inr over ↦ absurd (differ _ holds (not_yet j d over within))
    ] in
    let found = point parted in
    let exact : line ≡ length before =
    elim (cases_lt line (length before)) [
      | inl under ↦ absurd (differ _ (yes line 0 under) (found.1 line 0 (omega arith) (omega arith)))
      | inr over ↦ elim (cases_lt (length before) line) [
        | inl less ↦ absurd (differ _ (found.0 (length before) 0 (omega arith) less) (not_yet (length before) 0 (omega arith) (omega arith)))
        | inr more ↦ omega arith
      ]
    ] in
    let some = s.some in
    let there : line - 1 < length before = omega arith in
    record {
      some = omega arith;
      is_line = exact ∙ s.count;
      is_start = λ d. rw (get_or_append_left before behind d (line - 1) there, exact) (s.last d);
    }
  where
    yes : (j d : ℕ) → j < length before → begun offset (get_or (before ++ behind) j d) ≡ true
    yes j d h = rw (get_or_append_left before behind d j h) (le-leb _ _ (s.up_to j d h))

    not_yet : (j d : ℕ) → length before ≤ j → j < length (before ++ behind) → begun offset (get_or (before ++ behind) j d) ≡ false
    not_yet j d over h =
        let whole : length (before ++ behind) ≡ length before + length behind = length-append before behind in
        let there : j ≡ length before + (j - length before) = omega arith in
        let P : ℕ → Type 0 = λ k. begun offset (get_or (before ++ behind) k d) ≡ false in
        subst P (sym there) (rw (get_or-append-add before behind (j - length before) d) (lt-leb _ _ (above (j - length before) d (omega arith))))

    differ : (b : Bool) → b ≡ true → b ≡ false → ⊥
    differ b t f = cc

pub place : (text starts : List ℕ) (offset line : ℕ) → starts ≡ starts_of text → offset ≤ length text → line ≤ length starts
    → (IsPartitionedBy (begun offset) starts → IsPartitionPoint (λ s. begun offset s ≡ true) (λ s. begun offset s ≡ false) starts line)
    → Place text starts offset line
place text starts offset line is le within point =
    let split = split_at text offset le in
    let cut : starts ≡ split.0 ++ starts_after offset (drop offset text) = is ∙ split.1.whole in
    let P : List ℕ → Type 0 = λ xs. line ≤ length xs → (IsPartitionedBy (begun offset) xs → IsPartitionPoint (λ s. begun offset s ≡ true) (λ s. begun offset s ≡ false) xs line) → Place text xs offset line in
    subst P (sym cut) (place_in text split.0 (starts_after offset (drop offset text)) offset line split.1 (after_above offset (drop offset text))) within point

-- the line is no greater than the length of the text and 1
pub place_fits : (text starts : List ℕ) (offset line : ℕ) → Place text starts offset line → offset ≤ length text → line ≤ length text + 1
place_fits text starts offset line p le =
    let few = count_by-le-length (λ b. b == 10) (take offset text) in
    let cut = length-take-le offset text le in
    let is = p.is_line in
    omega (arith, few, cut, is)
