-- One byte of a source.
use Rattle.std.proofs.Common.{◌≡◌, ℕ, ◌+◌, ◌-◌, ◌<◌, ◌≤◌, Bool, true, false, List, [], ◌∷◌, ◌++◌, drop, length, get_or, cond, refl, inl, inr, slice_index, ◌∙◌, arith, nat_lt, lt-ltb, add-zero, get_or-drop, append_assoc}
use Rattle.std.proofs.lemmas.List.{drop_more, drop_all, append-nil}
use Rattle.std.proofs.lemmas.Bool.{le-ltb, cases_lt}
use Rattle.c_literals.specs.Raws.{is_splice, raws_from}

next_byte : (text : List ℕ) (i : ℕ) → get_or (drop (i + 1) text) 0 0 ≡ get_or text (i + 1) 0
next_byte text i = rw (get_or-drop (i + 1) text 0 0, add-zero) refl

raws-step : (to i : ℕ) (text : List ℕ) → i < length text → i < to
    → raws_from to i (drop i text) ≡ cond (is_splice (get_or text i 0) (get_or text (i + 1) 0)) (raws_from to (i + 1) (drop (i + 1) text)) ((record { byte = get_or text i 0; at = i }) ∷ raws_from to (i + 1) (drop (i + 1) text))
unfolding raws_from
raws-step to i text lt below =
    let here : nat_lt i to ≡ true = lt-ltb i to below in
    rw (drop_more text i 0 lt, here, next_byte text i) refl

pub raws-end : (to i : ℕ) (text : List ℕ) → length text ≤ i → raws_from to i (drop i text) ≡ []
unfolding raws_from
raws-end to i text le = rw (drop_all i text le) refl

raws_past : (to i : ℕ) (bs : List ℕ) → to ≤ i → raws_from to i bs ≡ []
unfolding raws_from
raws_past to i [] le = refl
raws_past to i (b ∷ bs) le = let here : nat_lt i to ≡ false = le-ltb i to le in rw here refl

pub raws-past : (to i : ℕ) (text : List ℕ) → to ≤ i → raws_from to i (drop i text) ≡ []
raws-past to i text le = raws_past to i (drop i text) le

pub raws-splice : (to i : ℕ) (text : List ℕ) → i < length text → i < to → is_splice (get_or text i 0) (get_or text (i + 1) 0) ≡ true
    → raws_from to i (drop i text) ≡ raws_from to (i + 1) (drop (i + 1) text)
raws-splice to i text lt below e = raws-step to i text lt below ∙ rw e refl

pub raws-byte : (to i : ℕ) (text : List ℕ) → i < length text → i < to → is_splice (get_or text i 0) (get_or text (i + 1) 0) ≡ false
    → raws_from to i (drop i text) ≡ (record { byte = get_or text i 0; at = i }) ∷ raws_from to (i + 1) (drop (i + 1) text)
raws-byte to i text lt below e = raws-step to i text lt below ∙ rw e refl

pub ruleset raw_steps = (raws-end, raws-past, raws-splice, raws-byte, append-nil, append_assoc)

-- no more bytes than there are offsets
pub raws-few : (to i : ℕ) (bs : List ℕ) → length (raws_from to i bs) ≤ to - i
unfolding raws_from
raws-few to i [] = omega arith
raws-few to i (b ∷ bs) =
    let rest = raws-few to (i + 1) bs in
    elim (cases_lt i to) [
      | inl below ↦ (let here : nat_lt i to ≡ true = lt-ltb i to below in
          rw here (elim (is_splice b (slice_index bs 0)) as (λ v. length (cond v (raws_from to (i + 1) bs) ((record { byte = b; at = i }) ∷ raws_from to (i + 1) bs)) ≤ to - i) [
            | true ↦ omega (arith, rest)
            | false ↦ omega (arith, rest)
          ]))
      | inr past ↦ (let here : nat_lt i to ≡ false = le-ltb i to past in rw here (omega arith))
    ]

pub ruleset raws_few = (raws-few)
