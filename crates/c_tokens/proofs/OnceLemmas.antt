-- What explains a text is what reading gives, so that there is one answer.
use Rattle.std.proofs.Common.{◌≡◌, ℕ, ◌+◌, ◌-◌, ◌<◌, ◌≤◌, inl, inr, true, false, List, [], ◌∷◌, ◌++◌, drop, length, get_or, refl, arith, ◌==◌, ap, sym, ◌∙◌, Option, Some, None, Result, Ok, Err, length-take}
use Rattle.std.specs.Prelude.{slice_range}
use Rattle.std.proofs.lemmas.List.{append-nil}
use Rattle.std.proofs.lemmas.Bool.{eqb-true, cases_order, both_ways}
use Rattle.c_tokens.specs.declared.token.Token.{Token}
use Rattle.c_tokens.specs.declared.token.Tokens.{Tokens}
use Rattle.c_tokens.specs.declared.token.TokenKind.{TokenKind}
use Rattle.c_tokens.specs.declared.item.Item.{Item}
use Rattle.c_tokens.specs.declared.item.Item.TheVariants as items
use Rattle.c_tokens.specs.declared.token_end.TokenEnd.{TokenEnd}
use Rattle.c_tokens.specs.declared.token_end.TokenEnd.TheVariants as ends
use Rattle.c_tokens.specs.Bytes.{is_pair_at}
use Rattle.c_tokens.specs.Ends.{comment_end, line_end}
use Rattle.c_tokens.specs.Items.{item_at, closed_comment}
use Rattle.c_tokens.specs.Spelling.{spells}
use Rattle.c_tokens.specs.White.{IsCommentEnd, IsLineEnd, IsWhitePiece, IsWhite, space, splice, comment, line_comment, directive, none, more}
use Rattle.c_tokens.specs.Brackets.{unbalanced_at}
use Rattle.c_tokens.specs.Cut.{IsToken, IsCut, IsReadUpTo, IsOpenLiteral, IsOpenComment, IsBadByte, is_bad, Explains, HasOneAnswer}
use Rattle.c_tokens.specs.Tokens.{tokens_from, tokens_of, with_first, balanced, Gives}
use Rattle.c_tokens.proofs.PunctLemmas.{and_left, and_right}
use Rattle.c_tokens.proofs.ByteLemmas.{bad_begins_no_literal}
use Rattle.c_tokens.proofs.BeginLemmas.{no_opening}
use Rattle.c_tokens.proofs.KindLemmas.{not_empty}
use Rattle.c_tokens.proofs.WhiteLemmas.{CommentEnds, comment_ends}
use Rattle.c_tokens.proofs.ItemLemmas.{ItemLaw, item_law, line_comment_end, directive_end}
use Rattle.c_tokens.proofs.ScanLemmas.{after, after-none, on-none, on-white, on-piece, on-string, on-comment, on-byte}
use Rattle.c_tokens.proofs.BalanceLemmas.{none_if_balanced}

-- a comment and a line end at one place
comment_once : (text : List ℕ) (i e f : ℕ) → IsCommentEnd text i e → IsCommentEnd text i f → e < f → ⊥
comment_once text i e f c d lt =
    let long = c.long_enough in
    both_ways (is_pair_at text (e - 2) 42 47) (d.first (e - 2) (omega (arith, long)) (omega (arith, long, lt))) c.closed

line_once : (text : List ℕ) (i e f : ℕ) → IsLineEnd text i e → IsLineEnd text i f → e < f → ⊥
line_once text i e f c d lt =
    let within = d.inside in
    elim c.ends [
      | inl whole ↦ omega (arith, whole, within, lt)
      | inr ends ↦ d.first e c.behind lt ends
    ]

one_of_both : (e f : ℕ) → (e < f → ⊥) → (f < e → ⊥) → e ≡ f
one_of_both e f a b = elim (cases_order e f) [
  | inl same ↦ same
  | inr other ↦ elim other [ inl lt ↦ absurd (a lt) | inr gt ↦ absurd (b gt) ]
]

same_comment : (text : List ℕ) (i e f : ℕ) → IsCommentEnd text i e → IsCommentEnd text i f → e ≡ f
same_comment text i e f c d = one_of_both e f (comment_once text i e f c d) (comment_once text i f e d c)

same_line : (text : List ℕ) (i e f : ℕ) → IsLineEnd text i e → IsLineEnd text i f → e ≡ f
same_line text i e f c d = one_of_both e f (line_once text i e f c d) (line_once text i f e d c)

closed_once : (text : List ℕ) (i e : ℕ) (r : Option ℕ) → CommentEnds text (i + 2) r → IsCommentEnd text (i + 2) e
    → closed_comment r ≡ items.White e
closed_once text i e None c d =
    let long = d.long_enough in
    absurd (both_ways (is_pair_at text (e - 2) 42 47) (c (e - 2) (omega (arith, long))) d.closed)
closed_once text i e (Some f) c d = ap items.White (same_comment text (i + 2) f e c d)

-- where white space stands, it is read
white_item : (text : List ℕ) (i e : ℕ) → i < length text → IsWhitePiece text i e → item_at text i ≡ items.White e
unfolding item_at
white_item text i e lt (space _ s) = rw s refl
white_item text i e lt (splice _ p) =
    let first = eqb-true (get_or text i 0) 92 (and_left (get_or text i 0 == 92) (get_or text (i + 1) 0 == 10) p) in
    let second =
    eqb-true (get_or text (i + 1) 0) 10 (and_right (get_or text i 0 == 92) (get_or text (i + 1) 0 == 10) p) in
    rw (first, second) refl
white_item text i e lt (comment _ _ p c) =
    let first = eqb-true (get_or text i 0) 47 (and_left (get_or text i 0 == 47) (get_or text (i + 1) 0 == 42) p) in
    let second =
    eqb-true (get_or text (i + 1) 0) 42 (and_right (get_or text i 0 == 47) (get_or text (i + 1) 0 == 42) p) in
    rw (first, second)
    (closed_once text i e (comment_end (i + 2) (drop (i + 2) text))
    (comment_ends text (length text) (i + 2) (omega arith)) c)
white_item text i e lt (line_comment _ _ p l) =
    let first = eqb-true (get_or text i 0) 47 (and_left (get_or text i 0 == 47) (get_or text (i + 1) 0 == 47) p) in
    let second =
    eqb-true (get_or text (i + 1) 0) 47 (and_right (get_or text i 0 == 47) (get_or text (i + 1) 0 == 47) p) in
    rw (first, second)
    (ap items.White
    (same_line text (i + 2) (line_end false (i + 2) (drop (i + 2) text)) e (line_comment_end text i p) l))
white_item text i e lt (directive _ _ h o l) =
    rw (h, o)
    (ap items.White
    (same_line text (i + 1) (line_end false (i + 1) (drop (i + 1) text)) e (directive_end text i lt h) l))

-- where a token stands, it is read
piece_is : (text : List ℕ) (i e : ℕ) (k : TokenKind) (item : Item) → IsToken text k i e → ItemLaw text i item
    → item ≡ items.Piece k e
piece_is text i e k (items.White f) t law = absurd (t.no_white f law)
piece_is text i e k (items.Piece j f) t law =
    let other = law.token in
    let same : f ≡ e = one_of_both f e
    (λ lt. both_ways (spells k (slice_range text i e)) (other.longest k e lt t.inside) t.spelt)
    (λ lt. both_ways (spells j (slice_range text i f)) (t.longest j f lt other.inside) other.spelt) in
    let there : spells k (slice_range text i f) ≡ true = rw same t.spelt in
    let kind : k ≡ j = law.only k there in
    rw (same, kind) refl
piece_is text i e k items.OpenString t law = absurd (t.no_literal law.1)
piece_is text i e k items.OpenComment t law = absurd (t.no_comment law.1)
piece_is text i e k items.BadByte t law =
    let bad = law.1 in
    absurd (both_ways (spells k (slice_range text i e)) (bad.no_token k e) t.spelt)

token_some : (text : List ℕ) (k : TokenKind) (i e : ℕ) → IsToken text k i e → i < e
token_some text k i e t =
    let long = not_empty k (slice_range text i e) t.spelt in
    let few = length-take (e - i) (drop i text) in
    omega (arith, long, few)

token_item : (text : List ℕ) (k : TokenKind) (i e : ℕ) → IsToken text k i e → item_at text i ≡ items.Piece k e
token_item text k i e t =
    let some = token_some text k i e t in
    let within = t.inside in
    piece_is text i e k (item_at text i) t (item_law text i (omega (arith, some, within)))

-- where a fault stands, it is read
comment_no_opening : (text : List ℕ) (i : ℕ) → IsOpenComment text i → IsOpenLiteral text i → ⊥
comment_no_opening text i c o =
    let first =
    eqb-true (get_or text i 0) 47 (and_left (get_or text i 0 == 47) (get_or text (i + 1) 0 == 42) c.opens) in
    let gone = no_opening text i (rw first refl) in
    let opens = o.opens in
    cc

bad_no_opening : (text : List ℕ) (i : ℕ) → IsBadByte text i → IsOpenLiteral text i → ⊥
bad_no_opening text i b o =
    let gone = no_opening text i (bad_begins_no_literal (get_or text i 0) b.listed) in
    let opens = o.opens in
    cc

bad_no_comment : (text : List ℕ) (i : ℕ) → IsBadByte text i → IsOpenComment text i → ⊥
bad_no_comment text i b c =
    let first =
    eqb-true (get_or text i 0) 47 (and_left (get_or text i 0 == 47) (get_or text (i + 1) 0 == 42) c.opens) in
    let gone : is_bad 47 ≡ true = rw first at b.listed in
    cc

string_is : (text : List ℕ) (i : ℕ) (item : Item) → IsReadUpTo text i → IsOpenLiteral text i → ItemLaw text i item
    → item ≡ items.OpenString
string_is text i (items.White f) r o law = absurd (r.no_white f law)
string_is text i (items.Piece j f) r o law = let t = law.token in absurd (t.no_literal o)
string_is text i items.OpenString r o law = refl
string_is text i items.OpenComment r o law = absurd (comment_no_opening text i law.1 o)
string_is text i items.BadByte r o law = absurd (bad_no_opening text i law.1 o)

comment_is : (text : List ℕ) (i : ℕ) (item : Item) → IsReadUpTo text i → IsOpenComment text i → ItemLaw text i item
    → item ≡ items.OpenComment
comment_is text i (items.White f) r c law = absurd (r.no_white f law)
comment_is text i (items.Piece j f) r c law = let t = law.token in absurd (t.no_comment c)
comment_is text i items.OpenString r c law = absurd (comment_no_opening text i c law.1)
comment_is text i items.OpenComment r c law = refl
comment_is text i items.BadByte r c law = absurd (bad_no_comment text i law.1 c)

bad_is : (text : List ℕ) (i : ℕ) (item : Item) → IsReadUpTo text i → IsBadByte text i → ItemLaw text i item
    → item ≡ items.BadByte
bad_is text i (items.White f) r b law = absurd (r.no_white f law)
bad_is text i (items.Piece j f) r b law =
    let t = law.token in
    absurd (both_ways (spells j (slice_range text i f)) (b.no_token j f) t.spelt)
bad_is text i items.OpenString r b law = absurd (bad_no_opening text i b law.1)
bad_is text i items.OpenComment r b law = absurd (bad_no_comment text i b law.1)
bad_is text i items.BadByte r b law = refl

-- a text that is cut is read so
white_further : (text : List ℕ) (i e : ℕ) → IsWhitePiece text i e → i < e
white_further text i e (space _ s) = omega arith
white_further text i e (splice _ p) = omega arith
white_further text i e (comment _ _ p c) = let long = c.long_enough in omega (arith, long)
white_further text i e (line_comment _ _ p l) = let behind = l.behind in omega (arith, behind)
white_further text i e (directive _ _ h o l) = let behind = l.behind in omega (arith, behind)

white_le : (text : List ℕ) (i to : ℕ) → IsWhite text i to → i ≤ to
white_le text i to (none _) = omega arith
white_le text i to (more _ e _ p rest) =
    let first = white_further text i e p in
    let others = white_le text e to rest in
    omega (arith, first, others)

read_white : (text : List ℕ) (i to : ℕ) → IsWhite text i to → to ≤ length text
    → tokens_from text i i (drop i text) ≡ tokens_from text to to (drop to text)
read_white text i to (none _) le = refl
read_white text i to (more _ e _ p rest) le =
    let first = white_further text i e p in
    let others = white_le text e to rest in
    let lt : i < length text = omega (arith, first, others, le) in
    on-white text i e lt (white_item text i e lt p) first (omega (arith, others, le)) ∙ read_white text e to rest le

after-with : (t : Token) (ts : List Token) (r : Result (List Token) TokenEnd)
    → with_first t (after ts r) ≡ after (t ∷ ts) r
after-with t ts (Ok us) = refl
after-with t ts (Err e) = refl

read_cut : (text : List ℕ) (from to : ℕ) (ts : List Token) → IsCut text from ts to → to ≤ length text
    → tokens_from text from from (drop from text) ≡ after ts (tokens_from text to to (drop to text))
read_cut text from to [] c le = read_white text from to c le ∙ sym (after-none (tokens_from text to to (drop to text)))
read_cut text from to (t ∷ ts) c le =
    let it = c.1 in
    let some = token_some text t.kind t.span.from t.span.to it in
    let within = it.inside in
    let lt : t.span.from < length text = omega (arith, some, within) in
    read_white text from t.span.from c.0 (omega (arith, lt))
    ∙ on-piece text t.span.from t.span.to t.kind lt (token_item text t.kind t.span.from t.span.to it) some within
    ∙ ap (with_first t) (read_cut text t.span.to to ts c.2 le)
    ∙ after-with t ts (tokens_from text to to (drop to text))

read_fault : (text : List ℕ) (i : ℕ) (e : TokenEnd) → IsReadUpTo text i → tokens_from text i i (drop i text) ≡ Err e
    → tokens_of text ≡ Err e
unfolding tokens_of
read_fault text i e r is =
    let within = r.inside in
    let whole : tokens_from text 0 0 text ≡ Err e =
    read_cut text 0 i r.list r.cut (omega (arith, within)) ∙ ap (after r.list) is in
    rw whole refl

read_whole : (text : List ℕ) (ts : List Token) → IsCut text 0 ts (length text)
    → tokens_of text ≡ balanced ts (unbalanced_at text [] ts)
unfolding tokens_of
read_whole text ts c =
    let whole : tokens_from text 0 0 text ≡ Ok (ts ++ []) =
    read_cut text 0 (length text) ts c (omega arith) ∙ ap (after ts) (on-none text (length text) (omega arith)) in
    rw (whole, append-nil ts) refl

-- what explains a text is what reading it gives, or want of memory
pub explains_reads : (text : List ℕ) (r : Result Tokens TokenEnd) → Explains text r
    → Gives (λ (t : Tokens). t.list) r (tokens_of text)
explains_reads text (Ok t) h = read_whole text t.list h.0 ∙ rw (none_if_balanced text t.list h.1) refl
explains_reads text (Err (ends.OpenString o)) h =
    let r = h.0 in
    read_fault text o (ends.OpenString o) r
    (on-string text o r.inside (string_is text o (item_at text o) r h.1 (item_law text o r.inside)))
explains_reads text (Err (ends.OpenComment o)) h =
    let r = h.0 in
    read_fault text o (ends.OpenComment o) r
    (on-comment text o r.inside (comment_is text o (item_at text o) r h.1 (item_law text o r.inside)))
explains_reads text (Err (ends.BadByte o)) h =
    let r = h.0 in
    read_fault text o (ends.BadByte o) r
    (on-byte text o r.inside (bad_is text o (item_at text o) r h.1 (item_law text o r.inside)))
explains_reads text (Err (ends.Unbalanced o)) h = read_whole text h.list h.cut ∙ rw h.first refl
explains_reads text (Err ends.Memory) h = tt

-- an answer without its type for lists
abbrev listed : Result Tokens TokenEnd → Result (List Token) TokenEnd
listed (Ok t) = Ok t.list
listed (Err e) = Err e

given : (r : Result Tokens TokenEnd) (read : Result (List Token) TokenEnd) → Gives (λ (t : Tokens). t.list) r read
    → (r ≡ Err ends.Memory → ⊥) → read ≡ listed r
given (Ok t) read g m = g
given (Err (ends.OpenString o)) read g m = g
given (Err (ends.OpenComment o)) read g m = g
given (Err (ends.BadByte o)) read g m = g
given (Err (ends.Unbalanced o)) read g m = g
given (Err ends.Memory) read g m = absurd (m refl)

listed_once : (r s : Result Tokens TokenEnd) → listed r ≡ listed s → r ≡ s
listed_once (Ok t) (Ok u) h = let same : t.list ≡ u.list = cc in ap Ok (of_list t u same)
  where
    of_list : (t u : Tokens) → t.list ≡ u.list → t ≡ u
    of_list t u same = ap (λ (ts : List Token). record { list = ts }) same
listed_once (Ok t) (Err e) h = cc
listed_once (Err e) (Ok u) h = cc
listed_once (Err e) (Err f) h = let same : e ≡ f = cc in ap Err same

-- two answers that both explain the text are one
pub explains_once : (text : List ℕ) → HasOneAnswer text
explains_once text = record {
  same = λ one other a b m n.
      listed_once one other
      (sym (given one (tokens_of text) (explains_reads text one a) m) ∙ given other (tokens_of text)
      (explains_reads text other b) n);
}

pub ruleset one_answer = (explains_once)
