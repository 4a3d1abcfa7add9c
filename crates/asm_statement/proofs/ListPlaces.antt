-- Where the operands and clobbers of a statement stand, and that their brackets match.
use Rattle.std.proofs.Common.{◌≡◌, ℕ, zero, suc, ◌+◌, ◌-◌, ◌<◌, ◌≤◌, Bool, true, false, List, [], ◌∷◌, ◌&&◌, length, refl, sym, ap, ◌∙◌, subst, arith, nat_lt, Option, Some, None, get_or, if◌then◌else◌, inl, inr}
use Rattle.std.proofs.lemmas.Bool.{and_parts, ltb-true, ltb-false, cases_lt}
use Rattle.std.proofs.lemmas.Option.{slice_get-get_or}
use Rattle.c_tokens.specs.declared.token.Token.{Token}
use Rattle.c_tokens.specs.Cut.{IsOrdered}
use Rattle.c_tokens.specs.Closers.{closer_at}
use Rattle.asm_core.specs.declared.statement.Quoted.{Quoted}
use Rattle.asm_statement.specs.declared.class.Class.{Class}
use Rattle.asm_statement.specs.declared.class.Class.TheVariants.{Keyword, Qualifier, Goto, Lead, Head, Extension, Attribute, Name, Literal, Prefixed, OpenParen, CloseParen, OpenBracket, CloseBracket, Colon, Comma}
use Rattle.asm_statement.specs.declared.operand.Operand.{Operand}
use Rattle.asm_statement.specs.declared.list.Operands.{Operands}
use Rattle.asm_statement.specs.Classes.{is_name, is_literal, is_open_paren, is_close_paren, is_open_bracket, is_close_bracket, is_comma, is_colon}
use Rattle.asm_statement.specs.Source.{class_of, class_at, start_at, end_at}
use Rattle.asm_statement.specs.Literals.{name_at}
use Rattle.asm_statement.specs.Operands.{literals_end_at, expressed, constrained, operand_at, with_operand, operands_from}
use Rattle.asm_statement.specs.Laws.{IsNamePlaced, IsPartPlaced, ArePartsPlaced}
use Rattle.asm_statement.proofs.OperandLemmas.{literals-more, literals-stop, literals-done}
use Rattle.asm_statement.proofs.MarkLaws.{opens_class, closes_class}
use Rattle.asm_statement.proofs.ClosingLaws.{no_token, class_known, class_there, left, left_open, left_other, left_close, Passes, pass_other, pass_pair, closer_inside}
use Rattle.asm_statement.proofs.SpanLaws.{here, behind, IsUpTo, before, further, up_to_end, quoted_placed, name_placed}

-- neither opens a bracket nor closes one
abbrev pub IsQuiet : Class → Type 0
IsQuiet c = (opens_class c ≡ false) × (closes_class c ≡ false)

literal_quiet : (prefixed : Bool) (c : Class) → is_literal prefixed c ≡ true → IsQuiet c
literal_quiet p Literal h = (refl, refl)
literal_quiet p Prefixed h = (refl, refl)
literal_quiet p _ h = absurd (let no : false ≡ true = h in cc)

name_quiet : (c : Class) → is_name c ≡ true → IsQuiet c
name_quiet Keyword h = (refl, refl)
name_quiet Qualifier h = (refl, refl)
name_quiet Goto h = (refl, refl)
name_quiet Lead h = (refl, refl)
name_quiet Head h = (refl, refl)
name_quiet Extension h = (refl, refl)
name_quiet Attribute h = (refl, refl)
name_quiet Name h = (refl, refl)
name_quiet _ h = absurd (let no : false ≡ true = h in cc)

pub comma_quiet : (c : Class) → is_comma c ≡ true → IsQuiet c
comma_quiet Comma h = (refl, refl)
comma_quiet _ h = absurd (let no : false ≡ true = h in cc)

pub colon_quiet : (c : Class) → is_colon c ≡ true → IsQuiet c
colon_quiet Colon h = (refl, refl)
colon_quiet _ h = absurd (let no : false ≡ true = h in cc)

pub paren_opens : (c : Class) → is_open_paren c ≡ true → opens_class c ≡ true
paren_opens OpenParen h = refl
paren_opens _ h = absurd (let no : false ≡ true = h in cc)

pub paren_closes : (c : Class) → is_close_paren c ≡ true → (opens_class c ≡ false) × (closes_class c ≡ true)
paren_closes CloseParen h = (refl, refl)
paren_closes _ h = absurd (let no : false ≡ true = h in cc)

bracket_opens : (c : Class) → is_open_bracket c ≡ true → opens_class c ≡ true
bracket_opens OpenBracket h = refl
bracket_opens _ h = absurd (let no : false ≡ true = h in cc)

bracket_closes : (c : Class) → is_close_bracket c ≡ true → (opens_class c ≡ false) × (closes_class c ≡ true)
bracket_closes CloseBracket h = (refl, refl)
bracket_closes _ h = absurd (let no : false ≡ true = h in cc)

pub if_some : {A : Type 0} (b : Bool) (o : Option A) (x : A) → (if b then o else None) ≡ Some x
    → (b ≡ true) × (o ≡ Some x)
if_some true o x e = (refl, e)
if_some {A} false o x e = absurd (let no : ◌≡◌ {A = Option A} None (Some x) = e in cc)

pub same_some : {A : Type 0} (x y : A) → Some x ≡ Some y → x ≡ y
same_some x y e = cc

pub none_some : {A : Type 0} (x : A) → None ≡ Some x → ⊥
none_some x e = cc

module _ (text : List ℕ) (ts : List Token) (n : ℕ) (ordered : IsOrdered 0 ts n) where
  abbrev Up : ℕ → ℕ → Type 0
  Up z e = IsUpTo text ts n ordered z e

  abbrev Over : ℕ → ℕ → Type 0
  Over i j = Passes text ts i j

  passed : (i j k : ℕ) → Over i j → Over j k → Over i k
  passed i j k p q = λ d. p d ∙ q d

  pub quiet_passed : (i : ℕ) → i < length ts → IsQuiet (class_at text ts i) → Over i (i + 1)
  quiet_passed i lt q = pass_other text ts i lt q.0 q.1

  -- ---- literals

  pub record AreLiterals (first end : ℕ) : Type 0 where
    pub low : first ≤ end
    pub within : end ≤ length ts
    pub over : Over first end

  one_literal : (i : ℕ) (p : Bool) → i < length ts → (b : Bool)
      → is_literal p (class_of text (get_or ts i no_token)) ≡ b
      → AreLiterals (i + 1) (literals_end_at p text ts (i + 1)) → AreLiterals i (literals_end_at p text ts i)
  one_literal i p lt true e rest =
      let same : class_at text ts i ≡ class_of text (get_or ts i no_token) =
      class_known text ts i (get_or ts i no_token) (slice_get-get_or ts i no_token lt) in
      let quiet : IsQuiet (class_at text ts i) = literal_quiet p (class_at text ts i) (ap (is_literal p) same ∙ e) in
      rw (literals-more p text ts i no_token lt e) (record {
        low = (let low = rest.low in omega (arith, low));
        within = rest.within;
        over = passed i (i + 1) (literals_end_at p text ts (i + 1)) (quiet_passed i lt quiet) rest.over;
      })
  one_literal i p lt false e rest =
      rw (literals-stop p text ts i no_token lt e) (record {
        low = omega arith;
        within = omega
            (arith, lt);
        over = λ d. refl;
      })

  literals_over : (k i : ℕ) (p : Bool) → length ts ≡ i + k → AreLiterals i (literals_end_at p text ts i)
  literals_over zero i p size =
      rw (literals-done p text ts i (omega arith))
      (record { low = omega arith; within = omega arith; over = λ d. refl })
  literals_over (suc k) i p size =
      one_literal i p (omega arith) (is_literal p (class_of text (get_or ts i no_token))) refl (literals_over k
      (i + 1) p (omega arith))

  -- where there is one at least
  pub literals_read : (p : Bool) (first end : ℕ) → end ≡ literals_end_at p text ts first → first < end
      → AreLiterals first end
  literals_read p first end is some = elim (cases_lt first (length ts)) [
    | inl inside ↦ rw is (literals_over (length ts - first) first p (omega (arith, inside)))
    | inr past ↦
        let none : end ≡ first = is ∙ literals-done p text ts first past in
        absurd (omega (arith, none, some))
  ]

  -- ---- operands

  -- an operand whose name, if it has one, or constraint stands behind the offset `a`, from the index i on
  pub record ReadsPart (a i : ℕ) (x : Operand) : Type 0 where
    pub placed : IsPartPlaced a x.part
    pub up : Up x.part.expr.to x.end
    pub low : i < x.end
    pub over : Over i x.end

  in_parentheses : (a first end : ℕ) (name : Option Quoted) (x : Operand) → AreLiterals first end → first < end
      → Up a first
      → (first < length ts → IsNamePlaced a name (start_at ts first)) → is_open_paren (class_at text ts end) ≡ true
      → (o : Option ℕ) → closer_at text ts end ≡ o → expressed text ts name first end o ≡ Some x → ReadsPart a first x
  in_parentheses a first end name x literals some up named paren None closed e = absurd (none_some x e)
  in_parentheses a first end name x literals some up named paren (Some close) closed e =
      let parts = if_some (nat_lt (end + 1) close) _ x e in
      let wide : end + 1 < close = ltb-true (end + 1) close parts.0 in
      let there : end < length ts = class_there text ts is_open_paren refl end paren in
      let opening : opens_class (class_at text ts end) ≡ true = paren_opens (class_at text ts end) paren in
      let over : Over end (close + 1) = pass_pair text ts end close there opening closed in
      let within : close < length ts = closer_inside text ts end close there opening closed in
      let low : a ≤ start_at ts first = before text ts n ordered a first first up (omega arith) (omega
      (arith, some, there)) in
      let last = behind text ts n ordered (end - 1) (end + 1) (omega arith) (omega (arith, wide, within)) in
      let inside = here text ts n ordered (end + 1) (omega (arith, wide, within)) in
      let expr : start_at ts (end + 1) < end_at ts (close - 1) =
      spans (end + 1) (close - 1) (omega (arith, wide)) (omega (arith, wide, within)) in
      subst (ReadsPart a first) (same_some _ x parts.1) (record {
        placed = record {
          name = named (omega (arith, some, there));
          constraint = quoted_placed text ts n ordered a (start_at ts
              (end + 1)) first end some literals.within low last;
          expr = expr;
        };
        up = further text ts n ordered (end_at ts (close - 1)) (close - 1 + 1) (close + 1)
            (up_to_end text ts n ordered (close - 1) (omega (arith, within))) (omega (arith, wide)) (omega
            (arith, within));
        low = (let lit = literals.low in omega (arith, lit, wide));
        over = passed first end (close + 1) literals.over over;
      })
    where
      spans : (i j : ℕ) → i ≤ j → j < length ts → start_at ts i < end_at ts j
      spans i j le lt = elim (cases_lt i j) [
        | inl less ↦
            let first = here text ts n ordered i (omega (arith, less, lt)) in
            let next = behind text ts n ordered i j less lt in
            let last = here text ts n ordered j lt in
            omega (arith, first.0, next, last.0)
        | inr ge ↦
            let same : i ≡ j = omega (arith, le, ge) in
            let P : ℕ → Type 0 = λ k. start_at ts i < end_at ts k in
            subst P same (here text ts n ordered i (omega (arith, same, lt))).0
      ]

  constrained_read : (a first : ℕ) (name : Option Quoted) (x : Operand) → Up a first
      → (first < length ts → IsNamePlaced a name
      (start_at ts first)) → constrained text ts name first ≡ Some x → ReadsPart a first x
  unfolding constrained
  constrained_read a first name x up named e =
      let end = literals_end_at false text ts first in
      let parts = if_some (nat_lt first end && is_open_paren (class_at text ts end)) _ x e in
      let both = and_parts (nat_lt first end) (is_open_paren (class_at text ts end)) parts.0 in
      let some : first < end = ltb-true first end both.0 in
      in_parentheses a first end name x (literals_read false first end refl some) some up named both.1
      (closer_at text ts end) refl parts.1

  -- with a name before it
  named_read : (a i : ℕ) (x : Operand) → Up a i → is_open_bracket (class_at text ts i) ≡ true
      → (if is_name (class_at text ts (i + 1)) && is_close_bracket (class_at text ts
      (i + 2)) then constrained text ts (Some (name_at text ts (i + 1))) (i + 3) else None) ≡ Some x
      → ReadsPart a i x
  named_read a i x up opened e =
      let parts = if_some (is_name (class_at text ts (i + 1)) && is_close_bracket (class_at text ts (i + 2))) _ x e in
      let both = and_parts (is_name (class_at text ts (i + 1))) (is_close_bracket (class_at text ts
      (i + 2))) parts.0 in
      let first : i < length ts = class_there text ts is_open_bracket refl i opened in
      let second : i + 1 < length ts = class_there text ts is_name refl (i + 1) both.0 in
      let third : i + 2 < length ts = class_there text ts is_close_bracket refl (i + 2) both.1 in
      let low : a ≤ start_at ts (i + 1) = before text ts n ordered a i (i + 1) up (omega arith) second in
      let up' : Up a (i + 3) = further text ts n ordered a i (i + 3) up (omega arith) (omega (arith, third)) in
      let quiet : IsQuiet (class_at text ts (i + 1)) = name_quiet (class_at text ts (i + 1)) both.0 in
      let closed = bracket_closes (class_at text ts (i + 2)) both.1 in
      let over : Over i (i + 3) = λ d.
      left_open text ts d i first (bracket_opens (class_at text ts i) opened)
      ∙ next (i + 1 + 1) (i + 2) (omega arith) (i + 2 + 1) (i + 3) (omega arith) (d + 1) d
      (left_other text ts (d + 1) (i + 1) second quiet.0 quiet.1) (left_close text ts d
      (i + 2) third closed.0 closed.1) in
      let rest = constrained_read a (i + 3) (Some (name_at text ts (i + 1))) x up'
      (λ there. name_placed text ts n ordered a (start_at ts (i + 3)) (i + 1) second low
      (behind text ts n ordered (i + 1) (i + 3) (omega arith) there)) parts.1 in
      record {
        placed = rest.placed;
        up = rest.up;
        low = (let less = rest.low in omega (arith, less));
        over = passed i (i + 3) x.end over rest.over;
      }
    where
      next : (j k : ℕ) → j ≡ k → (l m : ℕ) → l ≡ m → (d e : ℕ) → left text ts d (i + 1) ≡ left text ts d j
          → left text ts d k ≡ left text ts e l → left text ts d (i + 1) ≡ left text ts e m
      next j k jk l m lm d e p q = p ∙ ap (left text ts d) jk ∙ q ∙ ap (left text ts e) lm

  operand_read : (a i : ℕ) (x : Operand) → Up a i → operand_at text ts i ≡ Some x → ReadsPart a i x
  unfolding operand_at
  operand_read a i x up e = by_bracket (is_open_bracket (class_at text ts i)) refl e
    where
      by_bracket : (b : Bool) → is_open_bracket (class_at text ts i) ≡ b
          → (if b then (if is_name (class_at text ts (i + 1)) && is_close_bracket (class_at text ts
          (i + 2)) then constrained text ts (Some (name_at text ts (i + 1)))
          (i + 3) else None) else constrained text ts None i) ≡ Some x
          → ReadsPart a i x
      by_bracket true opened e = named_read a i x up opened e
      by_bracket false _ e = constrained_read a i None x up (λ there. before text ts n ordered a i i up
          (omega arith) there) e

  -- a list of operands behind the offset `a`, from the index i on
  pub record ReadsParts (a i : ℕ) (r : Operands) : Type 0 where
    pub last : ℕ
    pub placed : ArePartsPlaced a r.list last
    pub up : Up last r.end
    pub low : i ≤ r.end
    pub over : Over i r.end

  -- the operands behind a comma are read
  Further : ℕ → List Token → Type 0
  Further i rest = (u b : ℕ) (r : Operands) → operands_from text ts u i rest ≡ Some r → i ≤ u → Up b u
      → ReadsParts b u r

  with_more : (a i : ℕ) (x : Operand) (r : Operands) (o : Option Operands) → with_operand x.part o ≡ Some r
      → ReadsPart a i x → is_comma (class_at text ts x.end) ≡ true
      → ((s : Operands) → o ≡ Some s → ReadsParts x.part.expr.to (x.end + 1) s) → ReadsParts a i r
  with_more a i x r None e one comma more = absurd (none_some r e)
  with_more a i x r (Some s) e one comma more =
      let rest = more s refl in
      let there : x.end < length ts = class_there text ts is_comma refl x.end comma in
      subst (ReadsParts a i) (same_some _ r e) (record {
        last = rest.last;
        placed = (one.placed, rest.placed);
        up = rest.up;
        low = (let l = one.low in let m = rest.low in omega (arith, l, m));
        over = passed i x.end s.end one.over (passed x.end (x.end + 1) s.end (quiet_passed x.end there (comma_quiet
            (class_at text ts x.end) comma)) rest.over);
      })

  alone : (a i : ℕ) (x : Operand) → ReadsPart a i x → ReadsParts a i (record { list = x.part ∷ []; end = x.end })
  alone a i x one = record {
    last = x.part.expr.to;
    placed = (one.placed, omega arith);
    up = one.up;
    low = (let l = one.low in omega (arith, l));
    over = one.over;
  }

  operands_here : (a i : ℕ) (rest : List Token) (r : Operands) → Up a i → Further (i + 1) rest
      → (o : Option Operand) → operand_at text ts i ≡ o
      → (elim o [
        | None ↦ None
        | Some x ↦ if is_comma (class_at text ts x.end) then with_operand x.part (operands_from text ts (x.end + 1)
            (i + 1) rest)
            else Some (record { list = x.part ∷ []; end = x.end })
      ]) ≡ Some r → ReadsParts a i r
  unfolding Further
  operands_here a i rest r up more None is e = absurd (none_some r e)
  operands_here a i rest r up more (Some x) is e = by_comma (is_comma (class_at text ts x.end)) refl e
    where
      one : ReadsPart a i x
      one = operand_read a i x up is

      by_comma : (b : Bool) → is_comma (class_at text ts x.end) ≡ b
          → (if b then with_operand x.part (operands_from text ts (x.end + 1) (i + 1) rest) else Some
          (record { list = x.part ∷ []; end = x.end })) ≡ Some r
          → ReadsParts a i r
      by_comma true comma e =
          let there : x.end < length ts = class_there text ts is_comma refl x.end comma in
          let up' : Up x.part.expr.to (x.end + 1) = further text ts n ordered x.part.expr.to x.end
          (x.end + 1) one.up (omega arith) (omega (arith, there)) in
          with_more a i x r (operands_from text ts (x.end + 1) (i + 1) rest) e one comma
          (λ s got. more (x.end + 1) x.part.expr.to s got (let l = one.low in omega (arith, l)) up')
      by_comma false _ e = subst (ReadsParts a i) (same_some _ r e) (alone a i x one)

  pub operands_read : (rest : List Token) (i u a : ℕ) (r : Operands) → operands_from text ts u i rest ≡ Some r
      → i ≤ u → Up a u → ReadsParts a u r
  unfolding operands_from Further
  operands_read [] i u a r e le up = absurd (none_some r e)
  operands_read (t ∷ rest) i u a r e le up = by_test (nat_lt i u) refl e (λ v b s got more up'. operands_read rest
      (i + 1) v b s got more up')
    where
      by_test : (b : Bool) → nat_lt i u ≡ b
          → (if b then operands_from text ts u (i + 1) rest else elim (operand_at text ts i) [
            | None ↦ None
            | Some x ↦ if is_comma (class_at text ts x.end) then with_operand x.part (operands_from text ts
                (x.end + 1) (i + 1) rest)
                else Some (record { list = x.part ∷ []; end = x.end })
          ]) ≡ Some r
          → Further (i + 1) rest → ReadsParts a u r
      by_test true test e more = more u a r e (let lt = ltb-true i u test in omega (arith, lt)) up
      by_test false test e more =
          let same : i ≡ u = (let ge = ltb-false i u test in omega (arith, ge, le)) in
          let P : ℕ → Type 0 = λ k. ReadsParts a k r in
          subst P same (operands_here a i rest r (subst (Up a) (sym same) up) more (operand_at text ts i) refl e)
