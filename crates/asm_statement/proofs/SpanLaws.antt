-- Where tokens of a text that is cut in order stand, by their index.
use Rattle.std.proofs.Common.{◌≡◌, ℕ, zero, suc, ◌+◌, ◌-◌, ◌<◌, ◌≤◌, List, [], ◌∷◌, length, take, drop, slice_range, map, refl, sym, ◌∙◌, subst, arith, Result, Ok, Err, inl, inr}
use Rattle.std.proofs.lemmas.List.{length-map}
use Rattle.std.proofs.lemmas.Bool.{cases_lt}
use Rattle.c_tokens.specs.declared.token.Token.{Token}
use Rattle.c_tokens.specs.Cut.{IsOrdered}
use Rattle.c_literals.specs.declared.raw.Raw.{Raw}
use Rattle.c_literals.specs.Raws.{raws_between}
use Rattle.asm_core.specs.declared.span.Span.{Span}
use Rattle.asm_statement.specs.Source.{start_at, end_at, span_of}
use Rattle.asm_statement.specs.Literals.{raws_of, quoted, quoted_at, name_at}
use Rattle.asm_statement.specs.Templates.{template_of}
use Rattle.asm_statement.specs.Parts.{template_read, template_at}
use Rattle.asm_statement.specs.Laws.{IsPlaced}
use Rattle.asm_statement.proofs.RisingLaws.{offsets, raws_rise, raws_of_rise, DoRise, template_rise}

-- a token has a byte at least, and stands between the offsets
token_in : (xs : List Token) (a z i : ℕ) → IsOrdered a xs z → i < length xs
    → (a ≤ start_at xs i) × (start_at xs i < end_at xs i) × (end_at xs i ≤ z)
token_in [] a z i o lt = absurd (omega arith)
token_in (x ∷ xs) a z zero o lt = let rest = ordered_low xs x.span.to z o.2 in (o.0, o.1, rest)
  where
    ordered_low : (ys : List Token) (b z : ℕ) → IsOrdered b ys z → b ≤ z
    ordered_low [] b z p = p
    ordered_low (y ∷ ys) b z p = let more = ordered_low ys y.span.to z p.2 in omega (arith, p.0, p.1, more)
token_in (x ∷ xs) a z (suc i) o lt =
    let more = token_in xs x.span.to z i o.2 (omega arith) in
    (omega (arith, o.0, o.1, more.0), more.1, more.2)

-- each stands behind those before it
token_behind : (xs : List Token) (a z i j : ℕ) → IsOrdered a xs z → i < j → j < length xs
    → end_at xs i ≤ start_at xs j
token_behind [] a z i j o lt within = absurd (omega arith)
token_behind (x ∷ xs) a z i zero o lt within = absurd (omega arith)
token_behind (x ∷ xs) a z zero (suc j) o lt within = (token_in xs x.span.to z j o.2 (omega arith)).0
token_behind (x ∷ xs) a z (suc i) (suc j) o lt within = token_behind xs x.span.to z i j o.2 (omega arith)
    (omega arith)

taken_ordered : (xs : List Token) (a z k : ℕ) → IsOrdered a xs z → k < length xs
    → IsOrdered a (take (suc k) xs) (end_at xs k)
taken_ordered [] a z k o lt = absurd (omega arith)
taken_ordered (x ∷ xs) a z zero o lt = (o.0, o.1, omega arith)
taken_ordered (x ∷ xs) a z (suc k) o lt = (o.0, o.1, taken_ordered xs x.span.to z k o.2 (omega arith))

range_ordered : (xs : List Token) (a z i k : ℕ) → IsOrdered a xs z → i + k < length xs
    → IsOrdered (start_at xs i) (take (suc k) (drop i xs)) (end_at xs (i + k))
range_ordered [] a z i k o lt = absurd (omega arith)
range_ordered (x ∷ xs) a z zero k o lt =
    let same : 0 + k ≡ k = omega arith in
    rw same (taken_ordered (x ∷ xs) x.span.from z k (omega arith, o.1, o.2) (omega arith))
range_ordered (x ∷ xs) a z (suc i) k o lt =
    let same : suc i + k ≡ suc (i + k) = omega arith in
    rw same (range_ordered xs x.span.to z i k o.2 (omega arith))

quoted_many : (raws : List Raw) → length (offsets raws) ≡ length (map (λ (r : Raw). r.byte) raws)
quoted_many raws = length-map raws (λ (r : Raw). r.at) ∙ sym (length-map raws (λ (r : Raw). r.byte))

module _ (text : List ℕ) (ts : List Token) (n : ℕ) (ordered : IsOrdered 0 ts n) where
  pub here : (i : ℕ) → i < length ts → (start_at ts i < end_at ts i) × (end_at ts i ≤ n)
  here i lt = let is = token_in ts 0 n i ordered lt in (is.1, is.2)

  pub behind : (i j : ℕ) → i < j → j < length ts → end_at ts i ≤ start_at ts j
  behind i j lt within = token_behind ts 0 n i j ordered lt within

  -- the offset stands before each token from the index on, at the end of the one before at most
  pub record IsUpTo (z e : ℕ) : Type 0 where
    pub some : 0 < e
    pub within : e ≤ length ts
    pub low : z ≤ end_at ts (e - 1)

  pub before : (z e j : ℕ) → IsUpTo z e → e ≤ j → j < length ts → z ≤ start_at ts j
  before z e j up le lt =
      let some = up.some in
      let low = up.low in
      let next = behind (e - 1) j (omega (arith, some, le)) lt in
      omega (arith, low, next)

  pub further : (z e f : ℕ) → IsUpTo z e → e ≤ f → f ≤ length ts → IsUpTo z f
  further z e f up le within = elim (cases_lt e f) [
    | inl less ↦
        let some = up.some in
        let low = before z e (f - 1) up (omega (arith, less)) (omega (arith, some, less, within)) in
        let last = here (f - 1) (omega (arith, some, less, within)) in
        record {
          some = omega (arith, some, less);
          within = within;
          low = (let long = last.0 in omega
              (arith, low, long));
        }
    | inr ge ↦
        let same : e ≡ f = omega (arith, le, ge) in
        subst (IsUpTo z) same up
  ]

  pub up_to_end : (i : ℕ) → i < length ts → IsUpTo (end_at ts i) (i + 1)
  up_to_end i lt =
      let same : i + 1 - 1 ≡ i = omega arith in
      record { some = omega arith; within = omega (arith, lt); low = rw same (omega arith) }

  -- ---- literals and names

  range_at : (first end : ℕ) → first < end → end ≤ length ts
      → IsOrdered (start_at ts first) (slice_range ts first end) (end_at ts (end - 1))
  range_at first end lt within =
      let count : end - first ≡ suc (end - first - 1) = omega (arith, lt) in
      let last : end - 1 ≡ first + (end - first - 1) = omega (arith, lt) in
      rw (count, last) (range_ordered ts 0 n first (end - first - 1) ordered (omega (arith, lt, within)))

  pub quoted_placed : (a z first end : ℕ) → first < end → end ≤ length ts → a ≤ start_at ts first
      → end_at ts (end - 1) ≤ z
      → IsPlaced a (quoted_at text ts first end) z
  quoted_placed a z first end lt within low high =
      let raws = raws_of text (slice_range ts first end) in
      record {
        many = quoted_many raws;
        behind = low;
        rising = raws_of_rise text (start_at ts first) (end_at ts (end - 1)) (slice_range ts first end)
            (range_at first end lt within);
        before = high;
      }

  pub name_placed : (a z i : ℕ) → i < length ts → a ≤ start_at ts i → end_at ts i ≤ z
      → IsPlaced a (name_at text ts i) z
  name_placed a z i lt low high =
      let span = span_of ts i i in
      let is = here i lt in
      let long = is.0 in
      record {
        many = quoted_many (raws_between text span.from span.to);
        behind = low;
        rising = raws_rise span.from span.to span.from span.to (drop span.from text) (omega arith) (omega
            (arith, long)) (omega arith);
        before = high;
      }

  read_placed : (a : ℕ) (span : Span) (r : Result (List Raw) ℕ) → a ≤ span.from → span.from ≤ span.to
      → DoRise span.from r span.to
      → IsPlaced a (template_read span r).quoted span.to
  read_placed a span (Ok raws) low long rise = record {
    many = quoted_many raws;
    behind = low;
    rising = rise;
    before
        = omega arith;
  }
  read_placed a span (Err o) low long rise = record { many = refl; behind = low; rising = long; before = omega arith }

  pub template_placed : (a first end : ℕ) → first < end → end ≤ length ts → a ≤ start_at ts first
      → IsPlaced a (template_at text ts first end).quoted (end_at ts (end - 1))
  unfolding template_at
  template_placed a first end lt within low =
      let rise = template_rise text (start_at ts first) (end_at ts (end - 1)) (slice_range ts first end)
      (range_at first end lt within) in
      let begin = here first (omega (arith, lt, within)) in
      read_placed a (span_of ts first (end - 1)) (template_of text (slice_range ts first end)) low
      (long_enough first end lt within) rise
    where
      long_enough : (first end : ℕ) → first < end → end ≤ length ts → start_at ts first ≤ end_at ts (end - 1)
      long_enough first end lt within =
          let begin = here first (omega (arith, lt, within)) in
          elim (cases_lt first (end - 1)) [
            | inl less ↦
                let next = behind first (end - 1) less (omega (arith, lt, within)) in
                let last = here (end - 1) (omega (arith, lt, within)) in
                omega (arith, begin.0, next, last.0)
            | inr ge ↦
                let same : first ≡ end - 1 = omega (arith, lt, ge) in
                let P : ℕ → Type 0 = λ k. start_at ts first ≤ end_at ts k in
                subst P same (let long = begin.0 in omega (arith, long))
          ]

  read_span : (span : Span) (r : Result (List Raw) ℕ) → (template_read span r).quoted.span ≡ span
  read_span span (Ok raws) = refl
  read_span span (Err o) = refl

  pub template_span : (first end : ℕ) → (template_at text ts first end).quoted.span ≡ span_of ts first (end - 1)
  unfolding template_at
  template_span first end = read_span (span_of ts first (end - 1)) (template_of text (slice_range ts first end))
