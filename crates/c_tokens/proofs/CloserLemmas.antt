-- One token of the pass that finds what closes each bracket.
use Rattle.std.proofs.Common.{◌≡◌, ℕ, ◌+◌, ◌-◌, ◌<◌, ◌≤◌, ◌⊎◌, inl, inr, true, false, List, [], ◌∷◌, ◌++◌, take, drop, length, get_or, set, cond, refl, arith, ◌==◌, ap, sym, ◌∙◌, subst, Option, Some, None, length-append, length-set, get_or-set_same, get_or-set_other}
use Rattle.std.proofs.lemmas.List.{drop_more, drop_all, get_or_append_left, get_or-append-add, get_or-take, length-take-le}
use Rattle.std.proofs.lemmas.Bool.{cases_lt, cases_eq, ne_eqb}
use Rattle.c_tokens.specs.declared.token.Token.{Token}
use Rattle.c_tokens.specs.Brackets.{mark_of, opens, closes}
use Rattle.c_tokens.proofs.BalanceLemmas.{last_of, take_but_last}
use Rattle.c_tokens.specs.Closers.{closing_from, closer_at, AreClosers}

closing-none : (text : List ℕ) (d : ℕ) (ts : List Token) (k : ℕ) → length ts ≤ k → closing_from text d k (drop k ts) ≡ None
unfolding closing_from
closing-none text d ts k le = rw (drop_all k ts le) refl

closing-step : (text : List ℕ) (d : ℕ) (ts : List Token) (k : ℕ) (t : Token) → k < length ts
    → closing_from text d k (drop k ts) ≡ cond (opens (mark_of text (get_or ts k t))) (closing_from text (d + 1) (k + 1) (drop (k + 1) ts))
    (cond (closes (mark_of text (get_or ts k t))) (cond (d == 0) (Some k) (closing_from text (d - 1) (k + 1) (drop (k + 1) ts))) (closing_from text d (k + 1) (drop (k + 1) ts)))
unfolding closing_from
closing-step text d ts k t lt = rw (drop_more ts k t lt) refl

closer-here : (text : List ℕ) (ts : List Token) (k : ℕ) (t : Token) → k < length ts
    → closer_at text ts k ≡ cond (opens (mark_of text (get_or ts k t))) (closing_from text 0 (k + 1) (drop (k + 1) ts)) None
closer-here text ts k t lt = rw (drop_more ts k t lt) refl

-- a bracket that is still open
pub record IsOpenAt (closers : List (Option ℕ)) (opened : List ℕ) (i : ℕ) : Type 0 where
  pub place : ℕ
  pub within : place < length opened
  pub index : get_or opened place 0 ≡ i
  pub unset : get_or closers i None ≡ None

pub record IsClosing (text : List ℕ) (ts : List Token) (closers : List (Option ℕ)) (opened : List ℕ) (k : ℕ) : Type 0 where
  pub many : length closers ≡ k
  pub within : k ≤ length ts
  pub before : (p : ℕ) → p < length opened → get_or opened p 0 < k
  pub left : (p : ℕ) → p < length opened → closer_at text ts (get_or opened p 0) ≡ closing_from text (length opened - 1 - p) k (drop k ts)
  pub each : (i : ℕ) → i < k → (get_or closers i None ≡ closer_at text ts i) ⊎ IsOpenAt closers opened i

pub at_start : (text : List ℕ) (ts : List Token) (closers : List (Option ℕ)) (opened : List ℕ) → closers ≡ [] → opened ≡ [] → IsClosing text ts closers opened 0
at_start text ts closers opened c o =
    let P : List (Option ℕ) → List ℕ → Type 0 = λ xs ys. IsClosing text ts xs ys 0 in
    rw (c, o) (record { many = refl; within = omega arith; before = λ p lt. absurd (omega arith); left = λ p lt. absurd (omega arith); each = λ i lt. absurd (omega arith) })

pub at_end : (text : List ℕ) (ts : List Token) (closers : List (Option ℕ)) (opened : List ℕ) (k : ℕ) → IsClosing text ts closers opened k → length ts ≤ k → AreClosers text ts closers
at_end text ts closers opened k c ge =
    let within = c.within in
    let many = c.many in
    record {
      many = omega arith;
      each = λ i lt. elim (c.each i (omega arith)) [
        | inl is ↦ is
        | inr open_at ↦
            let left = rw open_at.index at (c.left open_at.place open_at.within) in
            open_at.unset ∙ sym (left ∙ closing-none text (length opened - 1 - open_at.place) ts k ge)
      ];
    }

kept : (closers : List (Option ℕ)) (i k : ℕ) → length closers ≡ k → i < k → get_or (closers ++ None ∷ []) i None ≡ get_or closers i None
kept closers i k many lt = get_or_append_left closers (None ∷ []) None i (omega arith)

fresh : (closers : List (Option ℕ)) (k : ℕ) → length closers ≡ k → get_or (closers ++ None ∷ []) k None ≡ None
fresh closers k many = let there : k ≡ length closers + 0 = omega arith in rw there (get_or-append-add closers (None ∷ []) 0 None)

one_more : (closers : List (Option ℕ)) (k : ℕ) → length closers ≡ k → length (closers ++ None ∷ []) ≡ k + 1
one_more closers k many = let more = length-append closers (None ∷ []) in omega (arith, more)

-- a token that is no bracket, or closes none
pub at_other : (text : List ℕ) (ts : List Token) (closers : List (Option ℕ)) (opened : List ℕ) (k : ℕ) (t : Token) → IsClosing text ts closers opened k → k < length ts
    → opens (mark_of text (get_or ts k t)) ≡ false → (closes (mark_of text (get_or ts k t)) ≡ false) ⊎ (length opened ≡ 0) → IsClosing text ts (closers ++ None ∷ []) opened (k + 1)
at_other text ts closers opened k t c lt a b = record {
  many = one_more closers k c.many;
  within = omega arith;
  before = λ p h. let low = c.before p h in omega arith;
  left = λ p h. c.left p h ∙ elim b [
    | inl none ↦ closing-step text (length opened - 1 - p) ts k t lt ∙ rw (a, none) refl
    | inr empty ↦ absurd (omega arith)
  ];
  each = λ i h. elim (cases_lt i k) [
    | inl below ↦ elim (c.each i below) [
      | inl is ↦ inl (kept closers i k c.many below ∙ is)
      | inr open_at ↦ inr (record { place = open_at.place; within = open_at.within; index = open_at.index; unset = kept closers i k c.many below ∙ open_at.unset })
    ]
    | inr ge ↦ let here : i ≡ k = omega arith in rw here (inl (fresh closers k c.many ∙ sym (closer-here text ts k t lt ∙ rw a refl)))
  ];
}

pub at_open : (text : List ℕ) (ts : List Token) (closers : List (Option ℕ)) (opened : List ℕ) (k : ℕ) (t : Token) → IsClosing text ts closers opened k → k < length ts
    → opens (mark_of text (get_or ts k t)) ≡ true → IsClosing text ts (closers ++ None ∷ []) (opened ++ k ∷ []) (k + 1)
at_open text ts closers opened k t c lt a =
    let longer = length-append opened (k ∷ []) in
    let there : get_or (opened ++ k ∷ []) (length opened + 0) 0 ≡ k = get_or-append-add opened (k ∷ []) 0 0 in
    record {
      many = one_more closers k c.many;
      within = omega arith;
      before = λ p h. elim (cases_lt p (length opened)) [
        | inl below ↦ rw (get_or_append_left opened (k ∷ []) 0 p below) (let low = c.before p below in omega arith)
        | inr ge ↦ let last : p ≡ length opened + 0 = omega (arith, longer) in rw (last, there) (omega arith)
      ];
      left = λ p h. elim (cases_lt p (length opened)) [
        | inl below ↦
            let depth : length (opened ++ k ∷ []) - 1 - p ≡ length opened - 1 - p + 1 = omega (arith, longer) in
            rw (get_or_append_left opened (k ∷ []) 0 p below, depth) (c.left p below ∙ closing-step text (length opened - 1 - p) ts k t lt ∙ rw a refl)
        | inr ge ↦
            let last : p ≡ length opened + 0 = omega (arith, longer) in
            let depth : length (opened ++ k ∷ []) - 1 - (length opened + 0) ≡ 0 = omega (arith, longer) in
            rw (last, there, depth) (closer-here text ts k t lt ∙ rw a refl)
      ];
      each = λ i h. elim (cases_lt i k) [
        | inl below ↦ elim (c.each i below) [
          | inl is ↦ inl (kept closers i k c.many below ∙ is)
          | inr open_at ↦ inr (record { place = open_at.place; within = (let w = open_at.within in omega (arith, longer, w)); index = get_or_append_left opened (k ∷ []) 0 open_at.place open_at.within ∙ open_at.index; unset = kept closers i k c.many below ∙ open_at.unset })
        ]
        | inr ge ↦ let here : i ≡ k = omega arith in rw here (inr (record { place = length opened + 0; within = omega (arith, longer); index = there; unset = fresh closers k c.many }))
      ];
    }

pub at_close : (text : List ℕ) (ts : List Token) (closers : List (Option ℕ)) (opened : List ℕ) (k : ℕ) (t : Token) → IsClosing text ts closers opened k → k < length ts
    → opens (mark_of text (get_or ts k t)) ≡ false → closes (mark_of text (get_or ts k t)) ≡ true → 0 < length opened
    → IsClosing text ts (set (closers ++ None ∷ []) (get_or opened (length opened - 1) 0) (Some k)) (take (length opened - 1) opened) (k + 1)
at_close text ts closers opened k t c lt a b some =
    let o = get_or opened (length opened - 1) 0 in
    let top = c.before (length opened - 1) (omega arith) in
    let size = one_more closers k c.many in
    let cut : length (take (length opened - 1) opened) ≡ length opened - 1 = length-take-le (length opened - 1) opened (omega arith) in
    let depth : length opened - 1 - (length opened - 1) ≡ 0 = omega arith in
    let closed : closer_at text ts o ≡ Some k = c.left (length opened - 1) (omega arith) ∙ closing-step text (length opened - 1 - (length opened - 1)) ts k t lt ∙ rw (a, b, depth) refl in
    record {
      many = length-set (closers ++ None ∷ []) o (Some k) ∙ size;
      within = omega arith;
      before = λ p h. rw (get_or-take (length opened - 1) opened p 0 (omega (arith, cut))) (let low = c.before p (omega (arith, cut)) in omega arith);
      left = λ p h.
          let under : p < length opened - 1 = omega (arith, cut) in
          let deep : (length opened - 1 - p == 0) ≡ false = ne_eqb _ _ (λ e. omega arith) in
          let less : length (take (length opened - 1) opened) - 1 - p ≡ length opened - 1 - p - 1 = omega (arith, cut) in
          rw (get_or-take (length opened - 1) opened p 0 under, less) (c.left p (omega arith) ∙ closing-step text (length opened - 1 - p) ts k t lt ∙ rw (a, b, deep) refl);
      each = λ i h. elim (cases_eq i o) [
        | inl same ↦ inl (rw same (get_or-set_same (closers ++ None ∷ []) o (Some k) None (omega (arith, top, size)) ∙ sym closed))
        | inr other ↦
            let unchanged : get_or (set (closers ++ None ∷ []) o (Some k)) i None ≡ get_or (closers ++ None ∷ []) i None = get_or-set_other (closers ++ None ∷ []) o i (Some k) None other in
            elim (cases_lt i k) [
              | inl below ↦ elim (c.each i below) [
                | inl is ↦ inl (unchanged ∙ kept closers i k c.many below ∙ is)
                | inr open_at ↦
                    let w = open_at.within in
                    let not_last : open_at.place ≡ length opened - 1 → ⊥ = λ e. other (sym open_at.index ∙ ap (λ n. get_or opened n 0) e) in
                    let under : open_at.place < length opened - 1 = omega (arith, not_last, w) in
                    inr (record { place = open_at.place; within = omega (arith, cut, under); index = get_or-take (length opened - 1) opened open_at.place 0 under ∙ open_at.index; unset = unchanged ∙ kept closers i k c.many below ∙ open_at.unset })
              ]
              | inr ge ↦ let here : i ≡ k = omega arith in inl (unchanged ∙ rw here (fresh closers k c.many ∙ sym (closer-here text ts k t lt ∙ rw a refl)))
            ]
      ];
    }

-- the same in the code's own words: `list` are the tokens, `b` is the mark of this one
mark_here : (text : List ℕ) (ts list : List Token) (k : ℕ) (t : Token) (b : ℕ) → list ≡ ts → b ≡ mark_of text (get_or list k t) → b ≡ mark_of text (get_or ts k t)
mark_here text ts list k t b same is = is ∙ ap (λ (xs : List Token). mark_of text (get_or xs k t)) same

pub step_open : (text : List ℕ) (ts list : List Token) (closers later : List (Option ℕ)) (opened grown : List ℕ) (k : ℕ) (t : Token) (b : ℕ) → IsClosing text ts closers opened k → k < length list → list ≡ ts
    → b ≡ mark_of text (get_or list k t) → true ≡ opens b → later ≡ closers ++ None ∷ [] → grown ≡ opened ++ k ∷ [] → IsClosing text ts later grown (k + 1)
step_open text ts list closers later opened grown k t b c lt same mark a l g =
    let lt' : k < length ts = rw (← same) lt in
    let a' = sym (a ∙ ap opens (mark_here text ts list k t b same mark)) in
    rw (l, g) (at_open text ts closers opened k t c lt' a')

pub step_other : (text : List ℕ) (ts list : List Token) (closers later : List (Option ℕ)) (opened : List ℕ) (k : ℕ) (t : Token) (b : ℕ) → IsClosing text ts closers opened k → k < length list → list ≡ ts
    → b ≡ mark_of text (get_or list k t) → false ≡ opens b → (false ≡ closes b) ⊎ (length opened ≡ 0) → later ≡ closers ++ None ∷ [] → IsClosing text ts later opened (k + 1)
step_other text ts list closers later opened k t b c lt same mark a d l =
    let lt' : k < length ts = rw (← same) lt in
    let here = mark_here text ts list k t b same mark in
    rw l (at_other text ts closers opened k t c lt' (sym (a ∙ ap opens here)) (elim d [ inl e ↦ inl (sym (e ∙ ap closes here)) | inr e ↦ inr e ]))

pub step_close : (text : List ℕ) (ts list : List Token) (closers later : List (Option ℕ)) (opened rest : List ℕ) (o k : ℕ) (t : Token) (b : ℕ) → IsClosing text ts closers opened k → k < length list → list ≡ ts
    → b ≡ mark_of text (get_or list k t) → false ≡ opens b → true ≡ closes b → later ≡ closers ++ None ∷ [] → opened ≡ rest ++ o ∷ [] → IsClosing text ts (set later o (Some k)) rest (k + 1)
step_close text ts list closers later opened rest o k t b c lt same mark a d l is =
    let lt' : k < length ts = rw (← same) lt in
    let here = mark_here text ts list k t b same mark in
    let P : List ℕ → Type 0 = λ xs. IsClosing text ts closers xs k in
    let some : 0 < length (rest ++ o ∷ []) = (let more = length-append rest (o ∷ []) in omega (arith, more)) in
    let next = at_close text ts closers (rest ++ o ∷ []) k t (subst P is c) lt' (sym (a ∙ ap opens here)) (sym (d ∙ ap closes here)) some in
    rw l (rw (last_of rest o, take_but_last rest o) at next)

pub step_end : (text : List ℕ) (ts list : List Token) (closers result : List (Option ℕ)) (opened : List ℕ) (k : ℕ) → IsClosing text ts closers opened k → length list ≤ k → list ≡ ts → result ≡ closers → AreClosers text ts result
step_end text ts list closers result opened k c ge same is =
    let ge' : length ts ≤ k = rw (← same) ge in
    rw is (at_end text ts closers opened k c ge')

-- a closing bracket's bracket stands before it
pub index_fits : (text : List ℕ) (ts : List Token) (closers later : List (Option ℕ)) (opened rest : List ℕ) (o k : ℕ) → IsClosing text ts closers opened k → later ≡ closers ++ None ∷ [] → opened ≡ rest ++ o ∷ [] → o < length later
index_fits text ts closers later opened rest o k c l is =
    let P : List ℕ → Type 0 = λ xs. IsClosing text ts closers xs k in
    let c' = subst P is c in
    let longer = length-append rest (o ∷ []) in
    let low = rw (last_of rest o) at (c'.before (length (rest ++ o ∷ []) - 1) (omega (arith, longer))) in
    let size = one_more closers k c.many in
    rw l (omega (arith, low, size))
