-- What stands at an offset, in the words of the grammar: white space, a token, or a fault.
use Rattle.std.proofs.Common.{◌≡◌, ℕ, zero, suc, ◌+◌, ◌-◌, ◌<◌, ◌≤◌, inl, inr, true, false, List, drop, length, get_or, cond, refl, arith, ◌==◌, ◌&&◌, subst, Option, Some, None, length-drop}
use Rattle.std.specs.Prelude.{slice_range}
use Rattle.std.proofs.lemmas.List.{drop_more}
use Rattle.std.proofs.lemmas.Bool.{eqb-true, eq-eqb, cases_lt, eqb-false, both_ways, false_from_ne_true, and_from, or_parts}
use Rattle.c_tokens.specs.declared.token.TokenKind.{TokenKind}
use Rattle.c_tokens.specs.declared.token.TokenKind.TheVariants.{Name, Number, Punct}
use Rattle.c_tokens.specs.declared.item.Item.{Item}
use Rattle.c_tokens.specs.declared.item.Item.TheVariants as items
use Rattle.c_tokens.specs.Bytes.{is_space, begins_name, is_digit, is_quote, is_pair_at}
use Rattle.c_tokens.specs.Ends.{name_end, number_end, literal_end, comment_end, line_end}
use Rattle.c_tokens.specs.Puncts.{punctuator_len}
use Rattle.c_tokens.specs.Items.{item_at, piece_at, literal_or_word, literal_at, closed_literal, literal_kind, word_at, punctuator_item, closed_comment, begins_number, opening_at, opens_line}
use Rattle.c_tokens.specs.Spelling.{spells}
use Rattle.c_tokens.specs.White.{IsLineEnd, IsWhitePiece, space, splice, comment, line_comment, directive}
use Rattle.c_tokens.specs.Cut.{IsToken, IsOpenLiteral, IsOpenComment, IsBadByte}
use Rattle.c_tokens.proofs.PunctLemmas.{and_left, and_right, punctuator_fits}
use Rattle.c_tokens.proofs.ByteLemmas.{bad}
use Rattle.c_tokens.proofs.LongestLemmas.{Closing, IsClosed, closing}
use Rattle.c_tokens.proofs.WhiteLemmas.{CommentEnds, comment_ends, line_ends, Spliced, past}
use Rattle.c_tokens.proofs.PieceLemmas.{IsLongest, longest_name, longest_number, number_of_two, Opens, Opening, opening, longest_literal, open_literal}
use Rattle.c_tokens.proofs.WordLemmas.{IsWord, punctuator}
use Rattle.c_tokens.proofs.KindLemmas.{IsAlone, alone_name, alone_number, alone_punctuator, alone_literal, no_token}

-- no white space begins here
abbrev pub NoWhite : List ℕ → ℕ → Type 0
NoWhite text i = (end : ℕ) → IsWhitePiece text i end → ⊥

-- a token, whose bytes are one of no other kind
pub record IsPiece (text : List ℕ) (kind : TokenKind) (from to : ℕ) : Type 0 where
  pub token : IsToken text kind from to
  pub only : (other : TokenKind) → spells other (slice_range text from to) ≡ true → other ≡ kind

abbrev pub ItemLaw : List ℕ → ℕ → Item → Type 0
ItemLaw text i (items.White e) = IsWhitePiece text i e
ItemLaw text i (items.Piece k e) = IsPiece text k i e
ItemLaw text i items.OpenString = NoWhite text i × IsOpenLiteral text i
ItemLaw text i items.OpenComment = NoWhite text i × IsOpenComment text i
ItemLaw text i items.BadByte = NoWhite text i × IsBadByte text i

-- none of the tests for white space holds
record IsFree (text : List ℕ) (i : ℕ) : Type 0 where
  no_space : is_space (get_or text i 0) ≡ false
  no_splice : is_pair_at text i 92 10 ≡ false
  no_comment : is_pair_at text i 47 42 ≡ false
  no_line : is_pair_at text i 47 47 ≡ false
  no_directive : ((get_or text i 0 == 35) && opens_line text i) ≡ false

not_white : (text : List ℕ) (i e : ℕ) → IsFree text i → IsWhitePiece text i e → ⊥
not_white text i e f (space _ s) = both_ways (is_space (get_or text i 0)) f.no_space s
not_white text i e f (splice _ p) = both_ways (is_pair_at text i 92 10) f.no_splice p
not_white text i e f (comment _ _ p c) = both_ways (is_pair_at text i 47 42) f.no_comment p
not_white text i e f (line_comment _ _ p l) = both_ways (is_pair_at text i 47 47) f.no_line p
not_white text i e f (directive _ _ h o l) =
    both_ways ((get_or text i 0 == 35) && opens_line text i) f.no_directive
    (and_from (get_or text i 0 == 35) (opens_line text i) (eq-eqb (get_or text i 0) 35 h) o)

-- where a comment opens that nothing closes, no white space begins
open_not_white : (text : List ℕ) (i e : ℕ) → is_space (get_or text i 0) ≡ false → is_pair_at text i 92 10 ≡ false
    → IsOpenComment text i → IsWhitePiece text i e → ⊥
open_not_white text i e s p o (space _ t) = both_ways (is_space (get_or text i 0)) s t
open_not_white text i e s p o (splice _ t) = both_ways (is_pair_at text i 92 10) p t
open_not_white text i e s p o (comment _ _ t c) =
    let long = c.long_enough in
    both_ways (is_pair_at text (e - 2) 42 47) (o.unclosed (e - 2) (omega (arith, long))) c.closed
open_not_white text i e s p o (line_comment _ _ t l) =
    let star =
    eqb-true (get_or text (i + 1) 0) 42 (and_right (get_or text i 0 == 47) (get_or text (i + 1) 0 == 42) o.opens) in
    let slash =
    eqb-true (get_or text (i + 1) 0) 47 (and_right (get_or text i 0 == 47) (get_or text (i + 1) 0 == 47) t) in
    omega (arith, star, slash)
open_not_white text i e s p o (directive _ _ h t l) =
    let slash =
    eqb-true (get_or text i 0) 47 (and_left (get_or text i 0 == 47) (get_or text (i + 1) 0 == 42) o.opens) in
    omega (arith, slash, h)

piece : (text : List ℕ) (kind : TokenKind) (from to : ℕ) → IsFree text from → (IsOpenLiteral text from → ⊥)
    → IsLongest text kind from to → IsAlone text kind from to → IsPiece text kind from to
piece text kind from to f not_open l a = record {
  token = record {
    inside = l.inside;
    spelt = l.spelt;
    longest = λ other later gt le. false_from_ne_true (spells other (slice_range text from later)) (λ s.
        let is : other ≡ kind = a other later (omega arith) s in
        let P : TokenKind → Type 0 = λ k. spells k (slice_range text from later) ≡ true in
        both_ways (spells kind (slice_range text from later)) (l.longest later gt le) (subst P is s));
    no_white = λ end w. not_white text from end f w;
    no_comment = λ o. both_ways (is_pair_at text from 47 42) f.no_comment o.opens;
    no_literal = not_open;
  };
  only = λ other s. a other to (omega arith) s;
}

no_opening_here : (text : List ℕ) (i : ℕ) → opening_at text i ≡ None → IsOpenLiteral text i → ⊥
no_opening_here text i o w = let opens = w.opens in cc

above : (n : ℕ) → (n ≡ 0 → ⊥) → 0 < n
above zero h = absurd (h refl)
above (suc n) h = omega arith

word_law : (text : List ℕ) (i : ℕ) → i < length text → IsFree text i → opening_at text i ≡ None
    → is_quote (get_or text i 0) ≡ false → ItemLaw text i (word_at text i)
unfolding word_at
word_law text i lt free o q =
    elim (begins_name (get_or text i 0)) as
    (λ t. begins_name (get_or text i 0) ≡ t → ItemLaw text i
    (cond t (items.Piece Name (name_end text (i + 1)))
    (cond (begins_number text i) (items.Piece Number (number_end false (i + 1) (drop (i + 1) text)))
    (punctuator_item i (punctuator_len (drop i text)))))) [
      | true ↦ λ e.
          let l = longest_name text i lt e in
          piece text Name i _ free not_open l (alone_name text i _ l.some o e)
      | false ↦ λ e. elim (begins_number text i) as
          (λ t. begins_number text i ≡ t → ItemLaw text i
          (cond t (items.Piece Number (number_end false (i + 1) (drop (i + 1) text)))
          (punctuator_item i (punctuator_len (drop i text))))) [
            | true ↦ λ f.
                let l = longest_number text i lt f in
                piece text Number i _ free not_open l (alone_number text i _ l.some (number_of_two text i f) f)
            | false ↦ λ f. punct_law (punctuator_len (drop i text)) (punctuator_fits text i lt)
                (punctuator (drop i text)) e f
          ] refl
    ] refl
  where
    not_open : IsOpenLiteral text i → ⊥
    not_open = no_opening_here text i o

    punct_law : (n : ℕ) → i + n ≤ length text → IsWord (drop i text) n → begins_name (get_or text i 0) ≡ false
        → begins_number text i ≡ false → ItemLaw text i (punctuator_item i n)
    punct_law n fits w e f =
        elim (n == 0) as (λ t. (n == 0) ≡ t → ItemLaw text i (cond t items.BadByte (items.Piece Punct (i + n)))) [
          | true ↦ λ z.
              let absent = rw (drop_more text i 0 lt) at w.none (eqb-true n 0 z) in
              let digit = or_parts (is_digit (get_or text i 0)) _ f in (
                λ end p. not_white text i end free p,
                record {
                  listed = bad (get_or text i 0) free.no_space e digit.0 q absent;
                  no_token = no_token text i o e f absent;
                },
              )
          | false ↦ λ z.
              let some : 0 < n = above n (eqb-false n 0 z) in
              let size = length-drop i text in
              let back : i + n - i ≡ n = omega arith in
              let l : IsLongest text Punct i (i + n) = record {
                some = omega arith;
                inside = fits;
                spelt = rw back (w.spelt some);
                longest = λ later gt le. w.longest (later - i) (omega arith) (omega (arith, size));
              } in
              piece text Punct i (i + n) free not_open l (alone_punctuator text i (i + n) (omega arith) o e f)
        ] refl

-- a literal that is closed isn't open
closed_not_open : (text : List ℕ) (i q e : ℕ) → opening_at text i ≡ Some q
    → IsLongest text (literal_kind (get_or text q 0)) i e → IsOpenLiteral text i → ⊥
closed_not_open text i q e is l w =
    let opens = w.opens in
    let same : w.quote ≡ q = cc in
    both_ways (spells (literal_kind (get_or text q 0)) (slice_range text i e)) (rw same at (w.unclosed e l.inside))
    l.spelt

literal_law : (text : List ℕ) (i q : ℕ) → IsFree text i → opening_at text i ≡ Some q → Opening text i q
    → ItemLaw text i (literal_at text q)
unfolding literal_at
literal_law text i q free is o =
    elim (literal_end (get_or text q 0) false (q + 1) (drop (q + 1) text)) as
    (λ r. Closing (get_or text q 0) false (q + 1) (drop (q + 1) text) r → ItemLaw text i
    (closed_literal (get_or text q 0) r)) [
      | Some e ↦ λ c. closed e c
      | None ↦ λ c. (λ end p. not_white text i end free p, open_literal text i q is o c)
    ] (closing (get_or text q 0) false (q + 1) (drop (q + 1) text))
  where
    closed : (e : ℕ) → IsClosed (get_or text q 0) false (q + 1) (drop (q + 1) text) e
        → IsPiece text (literal_kind (get_or text q 0)) i e
    closed e c =
        let l = longest_literal text i q e o c in
        let there = o.there in
        let behind = c.behind in
        piece text (literal_kind (get_or text q 0)) i e free (closed_not_open text i q e is l) l
        (alone_literal text i q e (omega arith) (omega arith) is o.quoted)

piece_law : (text : List ℕ) (i : ℕ) → i < length text → IsFree text i → ItemLaw text i (piece_at text i)
unfolding piece_at
piece_law text i lt free =
    elim (opening_at text i) as
    (λ r. opening_at text i ≡ r → Opens text i r → ItemLaw text i (literal_or_word text i r)) [
      | Some q ↦ λ is o. literal_law text i q free is o
      | None ↦ λ is o. word_law text i lt free is o
    ] refl (opening text i lt)

inside : (text : List ℕ) (k b : ℕ) → (get_or text k 0 == b) ≡ true → 0 < b → k < length text
inside text k b e some = elim (cases_lt k (length text)) [
  | inl lt ↦ lt
  | inr ge ↦ let is = eqb-true (get_or text k 0) b e in let none = past text k ge in absurd (omega (arith, is, none))
]

-- where a comment and a directive end
pub line_comment_end : (text : List ℕ) (i : ℕ) → is_pair_at text i 47 47 ≡ true
    → IsLineEnd text (i + 2) (line_end false (i + 2) (drop (i + 2) text))
line_comment_end text i e =
    let slash = and_right (get_or text i 0 == 47) (get_or text (i + 1) 0 == 47) e in
    let there = inside text (i + 1) 47 slash (omega arith) in
    let back : i + 2 - 1 ≡ i + 1 = omega arith in
    let flag : Spliced text (i + 2) false = rw (back, eqb-true (get_or text (i + 1) 0) 47 slash) refl in
    line_ends text (length text - (i + 2)) (i + 2) false (omega arith) flag

pub directive_end : (text : List ℕ) (i : ℕ) → i < length text → get_or text i 0 ≡ 35
    → IsLineEnd text (i + 1) (line_end false (i + 1) (drop (i + 1) text))
directive_end text i lt hash =
    let back : i + 1 - 1 ≡ i = omega arith in
    let flag : Spliced text (i + 1) false = rw (back, hash) refl in
    line_ends text (length text - (i + 1)) (i + 1) false (omega arith) flag

pub item_law : (text : List ℕ) (i : ℕ) → i < length text → ItemLaw text i (item_at text i)
unfolding item_at
item_law text i lt =
    elim (is_space (get_or text i 0)) as
    (λ t. is_space (get_or text i 0) ≡ t → ItemLaw text i (cond t (items.White (i + 1)) (behind_space))) [
      | true ↦ λ e. space i e
      | false ↦ λ s. elim (is_pair_at text i 92 10) as
          (λ t. is_pair_at text i 92 10 ≡ t → ItemLaw text i (cond t (items.White (i + 2)) behind_splice)) [
            | true ↦ λ e. splice i e
            | false ↦ λ p. elim (is_pair_at text i 47 42) as
                (λ t. is_pair_at text i 47 42 ≡ t → ItemLaw text i
                (cond t (closed_comment (comment_end (i + 2) (drop (i + 2) text))) behind_comment)) [
                  | true ↦ λ e. comment_law s p e (comment_end (i + 2) (drop (i + 2) text))
                      (comment_ends text (length text) (i + 2) (omega arith))
                  | false ↦ λ c. elim (is_pair_at text i 47 47) as
                      (λ t. is_pair_at text i 47 47 ≡ t → ItemLaw text i
                      (cond t (items.White (line_end false (i + 2) (drop (i + 2) text))) behind_line)) [
                        | true ↦ λ e. line_law e
                        | false ↦ λ l. elim ((get_or text i 0 == 35) && opens_line text i) as
                            (λ t. ((get_or text i 0 == 35) && opens_line text i) ≡ t → ItemLaw text i
                            (cond t (items.White (line_end false (i + 1) (drop (i + 1) text))) (piece_at text i))) [
                              | true ↦ λ e. directive_law e
                              | false ↦ λ d. piece_law text i lt (record {
                                no_space = s;
                                no_splice = p;
                                no_comment = c;
                                no_line = l;
                                no_directive = d;
                              })
                            ] refl
                      ] refl
                ] refl
          ] refl
    ] refl
  where
    behind_line : Item
    behind_line =
        cond ((get_or text i 0 == 35) && opens_line text i)
        (items.White (line_end false (i + 1) (drop (i + 1) text))) (piece_at text i)

    behind_comment : Item
    behind_comment =
        cond (is_pair_at text i 47 47) (items.White (line_end false (i + 2) (drop (i + 2) text))) behind_line

    behind_splice : Item
    behind_splice =
        cond (is_pair_at text i 47 42) (closed_comment (comment_end (i + 2) (drop (i + 2) text))) behind_comment

    behind_space : Item
    behind_space = cond (is_pair_at text i 92 10) (items.White (i + 2)) behind_splice

    comment_law : is_space (get_or text i 0) ≡ false → is_pair_at text i 92 10 ≡ false
        → is_pair_at text i 47 42 ≡ true → (r : Option ℕ) → CommentEnds text (i + 2) r
        → ItemLaw text i (closed_comment r)
    comment_law s p e (Some end) c = comment i end e c
    comment_law s p e None c =
        let o : IsOpenComment text i = record { opens = e; unclosed = c } in
        (λ end w. open_not_white text i end s p o w, o)

    line_law : is_pair_at text i 47 47 ≡ true → IsWhitePiece text i (line_end false (i + 2) (drop (i + 2) text))
    line_law e = line_comment i _ e (line_comment_end text i e)

    directive_law : ((get_or text i 0 == 35) && opens_line text i) ≡ true
        → IsWhitePiece text i (line_end false (i + 1) (drop (i + 1) text))
    directive_law e =
        let hash = eqb-true (get_or text i 0) 35 (and_left (get_or text i 0 == 35) (opens_line text i) e) in
        directive i _ hash (and_right (get_or text i 0 == 35) (opens_line text i) e) (directive_end text i lt hash)
