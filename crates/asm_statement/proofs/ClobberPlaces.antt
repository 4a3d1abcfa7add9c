-- Where the clobbers of a statement stand.
use Rattle.std.proofs.Common.{◌≡◌, ℕ, ◌+◌, ◌-◌, ◌<◌, ◌≤◌, Bool, true, false, List, [], ◌∷◌, length, refl, sym, ◌∙◌, subst, arith, nat_lt, Option, Some, None, if◌then◌else◌}
use Rattle.std.proofs.lemmas.Bool.{ltb-true, ltb-false}
use Rattle.c_tokens.specs.declared.token.Token.{Token}
use Rattle.c_tokens.specs.Cut.{IsOrdered}
use Rattle.asm_statement.specs.declared.operand.Clobber.{Clobber}
use Rattle.asm_statement.specs.declared.list.Clobbers.{Clobbers}
use Rattle.asm_statement.specs.Classes.{is_comma}
use Rattle.asm_statement.specs.Source.{class_at, start_at, end_at}
use Rattle.asm_statement.specs.Operands.{literals_end_at, clobber_at, with_clobber, clobbers_from}
use Rattle.asm_statement.specs.Laws.{IsPlaced, AreClobbersPlaced}
use Rattle.asm_statement.proofs.ClosingLaws.{class_there, Passes}
use Rattle.asm_statement.proofs.SpanLaws.{IsUpTo, before, further, quoted_placed}
use Rattle.asm_statement.proofs.ListPlaces.{comma_quiet, if_some, same_some, none_some, quiet_passed, literals_read}

module _ (text : List ℕ) (ts : List Token) (n : ℕ) (ordered : IsOrdered 0 ts n) where
  abbrev Up : ℕ → ℕ → Type 0
  Up z e = IsUpTo text ts n ordered z e

  abbrev Over : ℕ → ℕ → Type 0
  Over i j = Passes text ts i j

  passed : (i j k : ℕ) → Over i j → Over j k → Over i k
  passed i j k p q = λ d. p d ∙ q d

  -- a clobber behind the offset `a`, from the index i on
  pub record ReadsClobber (a i : ℕ) (x : Clobber) : Type 0 where
    pub placed : IsPlaced a x.quoted x.quoted.span.to
    pub up : Up x.quoted.span.to x.end
    pub low : i < x.end
    pub over : Over i x.end

  clobber_read : (a i : ℕ) (x : Clobber) → Up a i → clobber_at text ts i ≡ Some x → ReadsClobber a i x
  unfolding clobber_at
  clobber_read a i x up e =
      let end = literals_end_at false text ts i in
      let parts = if_some (nat_lt i end) _ x e in
      let some : i < end = ltb-true i end parts.0 in
      let literals = literals_read text ts n ordered false i end refl some in
      let within = literals.within in
      let low : a ≤ start_at ts i = before text ts n ordered a i i up (omega arith) (omega (arith, some, within)) in
      subst (ReadsClobber a i) (same_some _ x parts.1) (record {
        placed = quoted_placed text ts n ordered a (end_at ts (end - 1)) i end some within low (omega arith);
        up = record { some = omega (arith, some); within = within; low = omega arith };
        low = some;
        over = literals.over;
      })

  -- a list of clobbers behind the offset `a`, from the index i on
  pub record ReadsClobbers (a i : ℕ) (r : Clobbers) : Type 0 where
    pub last : ℕ
    pub placed : AreClobbersPlaced a r.list last
    pub up : Up last r.end
    pub low : i ≤ r.end
    pub over : Over i r.end

  -- the clobbers behind a comma are read
  Further : ℕ → List Token → Type 0
  Further i rest = (u b : ℕ) (r : Clobbers) → clobbers_from text ts u i rest ≡ Some r → i ≤ u → Up b u
      → ReadsClobbers b u r

  with_more : (a i : ℕ) (x : Clobber) (r : Clobbers) (o : Option Clobbers) → with_clobber x.quoted o ≡ Some r
      → ReadsClobber a i x
      → is_comma (class_at text ts x.end) ≡ true
      → ((s : Clobbers) → o ≡ Some s → ReadsClobbers x.quoted.span.to (x.end + 1) s) → ReadsClobbers a i r
  with_more a i x r None e one comma more = absurd (none_some r e)
  with_more a i x r (Some s) e one comma more =
      let rest = more s refl in
      let there : x.end < length ts = class_there text ts is_comma refl x.end comma in
      let quiet = comma_quiet (class_at text ts x.end) comma in
      subst (ReadsClobbers a i) (same_some _ r e) (record {
        last = rest.last;
        placed = (one.placed, rest.placed);
        up = rest.up;
        low = (let l = one.low in let m = rest.low in omega (arith, l, m));
        over = passed i x.end s.end one.over (passed x.end (x.end + 1) s.end
            (quiet_passed text ts n ordered x.end there quiet) rest.over);
      })

  alone : (a i : ℕ) (x : Clobber) → ReadsClobber a i x
      → ReadsClobbers a i (record { list = x.quoted ∷ []; end = x.end })
  alone a i x one = record {
    last = x.quoted.span.to;
    placed = (one.placed, omega arith);
    up = one.up;
    low = (let l = one.low in omega (arith, l));
    over = one.over;
  }

  clobbers_here : (a i : ℕ) (rest : List Token) (r : Clobbers) → Up a i → Further (i + 1) rest
      → (o : Option Clobber) → clobber_at text ts i ≡ o
      → (elim o [
        | None ↦ None
        | Some x ↦ if is_comma (class_at text ts x.end) then with_clobber x.quoted (clobbers_from text ts
            (x.end + 1) (i + 1) rest)
            else Some (record { list = x.quoted ∷ []; end = x.end })
      ]) ≡ Some r → ReadsClobbers a i r
  unfolding Further
  clobbers_here a i rest r up more None is e = absurd (none_some r e)
  clobbers_here a i rest r up more (Some x) is e = by_comma (is_comma (class_at text ts x.end)) refl e
    where
      one : ReadsClobber a i x
      one = clobber_read a i x up is

      by_comma : (b : Bool) → is_comma (class_at text ts x.end) ≡ b
          → (if b then with_clobber x.quoted (clobbers_from text ts (x.end + 1) (i + 1) rest) else Some
          (record { list = x.quoted ∷ []; end = x.end })) ≡ Some r
          → ReadsClobbers a i r
      by_comma true comma e =
          let there : x.end < length ts = class_there text ts is_comma refl x.end comma in
          let up' : Up x.quoted.span.to (x.end + 1) = further text ts n ordered x.quoted.span.to x.end
          (x.end + 1) one.up (omega arith) (omega (arith, there)) in
          with_more a i x r (clobbers_from text ts (x.end + 1) (i + 1) rest) e one comma
          (λ s got. more (x.end + 1) x.quoted.span.to s got (let l = one.low in omega (arith, l)) up')
      by_comma false _ e = subst (ReadsClobbers a i) (same_some _ r e) (alone a i x one)

  pub clobbers_read : (rest : List Token) (i u a : ℕ) (r : Clobbers) → clobbers_from text ts u i rest ≡ Some r
      → i ≤ u → Up a u → ReadsClobbers a u r
  unfolding clobbers_from Further
  clobbers_read [] i u a r e le up = absurd (none_some r e)
  clobbers_read (t ∷ rest) i u a r e le up = by_test (nat_lt i u) refl e (λ v b s got more up'. clobbers_read rest
      (i + 1) v b s got more up')
    where
      by_test : (b : Bool) → nat_lt i u ≡ b
          → (if b then clobbers_from text ts u (i + 1) rest else elim (clobber_at text ts i) [
            | None ↦ None
            | Some x ↦ if is_comma (class_at text ts x.end) then with_clobber x.quoted (clobbers_from text ts
                (x.end + 1) (i + 1) rest)
                else Some (record { list = x.quoted ∷ []; end = x.end })
          ]) ≡ Some r
          → Further (i + 1) rest → ReadsClobbers a u r
      by_test true test e more = more u a r e (let lt = ltb-true i u test in omega (arith, lt)) up
      by_test false test e more =
          let same : i ≡ u = (let ge = ltb-false i u test in omega (arith, ge, le)) in
          let P : ℕ → Type 0 = λ k. ReadsClobbers a k r in
          subst P same (clobbers_here a i rest r (subst (Up a) (sym same) up) more (clobber_at text ts i) refl e)
