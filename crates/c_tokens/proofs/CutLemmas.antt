-- The text is cut into tokens and white space, from the left.
use Rattle.std.proofs.Common.{◌≡◌, ℕ, ◌+◌, ◌<◌, ◌≤◌, List, [], ◌∷◌, ◌++◌, drop, length, refl, arith, ap, sym, ◌∙◌, subst, Some, None, Ok}
use Rattle.c_tokens.specs.declared.token.Token.{Token}
use Rattle.c_tokens.specs.declared.token.TokenKind.{TokenKind}
use Rattle.c_tokens.specs.declared.item.Item.{Item}
use Rattle.c_tokens.specs.declared.item.Item.TheVariants as items
use Rattle.c_tokens.specs.Items.{item_at}
use Rattle.c_tokens.specs.White.{IsWhitePiece, IsWhite, none, more}
use Rattle.c_tokens.specs.Cut.{ExplainsScan, IsToken, IsUnbalanced, IsCut, IsOrdered, IsReadUpTo, IsOpenLiteral, IsOpenComment, IsBadByte}
use Rattle.c_tokens.specs.Tokens.{token, tokens_from}
use Rattle.c_tokens.specs.Brackets.{unbalanced_at}
use Rattle.c_tokens.specs.Balance.{IsBalanced}
use Rattle.c_tokens.proofs.ScanLemmas.{after, after-none, on-white, read_piece}
use Rattle.c_tokens.proofs.BalanceLemmas.{none_if_balanced, balanced_if_none}
use Rattle.c_tokens.proofs.ItemLemmas.{NoWhite, ItemLaw, item_law}
use Rattle.c_tokens.proofs.FaultLemmas.{unbalanced_inside}

white_ends : (text : List ℕ) (from i e : ℕ) → IsWhite text from i → IsWhitePiece text i e → IsWhite text from e
white_ends text from i e (none _) p = more from e e p (none e)
white_ends text from i e (more _ to _ q rest) p = more from to e q (white_ends text to i e rest p)

pub cut_white : (text : List ℕ) (from i e : ℕ) (ts : List Token) → IsCut text from ts i → IsWhitePiece text i e → IsCut text from ts e
cut_white text from i e [] c p = white_ends text from i e c p
cut_white text from i e (t ∷ ts) c p = (c.0, c.1, cut_white text t.span.to i e ts c.2 p)

pub cut_piece : (text : List ℕ) (from i e : ℕ) (k : TokenKind) (ts : List Token) → IsCut text from ts i
    → IsToken text k i e → IsCut text from (ts ++ token k i e ∷ []) e
cut_piece text from i e k [] c p = (c, p, none e)
cut_piece text from i e k (t ∷ ts) c p = (c.0, c.1, cut_piece text t.span.to i e k ts c.2 p)

pub order_further : (from i e : ℕ) (ts : List Token) → IsOrdered from ts i → i ≤ e → IsOrdered from ts e
order_further from i e [] o le = omega arith
order_further from i e (t ∷ ts) o le = (o.0, o.1, order_further t.span.to i e ts o.2 le)

pub order_piece : (from i e : ℕ) (k : TokenKind) (ts : List Token) → IsOrdered from ts i → i < e → IsOrdered from (ts ++ token k i e ∷ []) e
order_piece from i e k [] o lt = (o, lt, omega arith)
order_piece from i e k (t ∷ ts) o lt = (o.0, o.1, order_piece t.span.to i e k ts o.2 lt)

-- the text is read up to an offset
pub record IsScanned (text : List ℕ) (list : List Token) (i : ℕ) : Type 0 where
  pub within : i ≤ length text
  pub same : after list (tokens_from text i i (drop i text)) ≡ tokens_from text 0 0 text
  pub cut : IsCut text 0 list i
  pub ordered : IsOrdered 0 list i

law_at : (text : List ℕ) (i : ℕ) (item : Item) → i < length text → item ≡ item_at text i → ItemLaw text i item
law_at text i item lt is = let P : Item → Type 0 = λ it. ItemLaw text i it in subst P (sym is) (item_law text i lt)

pub at_start : (text : List ℕ) (list : List Token) → list ≡ [] → IsScanned text list 0
at_start text list empty =
    let P : List Token → Type 0 = λ ts. IsScanned text ts 0 in
    subst P (sym empty) (record { within = omega arith; same = after-none (tokens_from text 0 0 text); cut = none 0; ordered = omega arith })

pub at_white : (text : List ℕ) (list : List Token) (i e : ℕ) → IsScanned text list i → i < length text → items.White e ≡ item_at text i → i < e → e ≤ length text → IsScanned text list e
at_white text list i e s lt is further le = record {
  within = le;
  same = ap (after list) (sym (on-white text i e lt (sym is) further le)) ∙ s.same;
  cut = cut_white text 0 i e list s.cut (law_at text i (items.White e) lt is);
  ordered = order_further 0 i e list s.ordered (omega arith);
}

pub at_piece : (text : List ℕ) (list later : List Token) (t : Token) (i e : ℕ) (k : TokenKind) → IsScanned text list i → i < length text → items.Piece k e ≡ item_at text i → i < e → e ≤ length text
    → t ≡ token k i e → later ≡ list ++ t ∷ [] → IsScanned text later e
at_piece text list later t i e k s lt is further le same grown =
    let whole : later ≡ list ++ token k i e ∷ [] = grown ∙ ap (λ (x : Token). list ++ x ∷ []) same in
    let P : List Token → Type 0 = λ ts. IsScanned text ts e in
    subst P (sym whole) (record {
      within = le;
      same = read_piece text list (list ++ token k i e ∷ []) (token k i e) i e k (tokens_from text 0 0 text) lt (sym is) further le refl refl s.same;
      cut = cut_piece text 0 i e k list s.cut (law_at text i (items.Piece k e) lt is).token;
      ordered = order_piece 0 i e k list s.ordered further;
    })

read_up_to : (text : List ℕ) (list : List Token) (i : ℕ) → IsScanned text list i → i < length text → NoWhite text i
    → IsReadUpTo text i
read_up_to text list i s lt free = record { list = list; cut = s.cut; inside = lt; no_white = free }

pub at_string : (text : List ℕ) (list : List Token) (i : ℕ) → IsScanned text list i → i < length text → items.OpenString ≡ item_at text i → IsReadUpTo text i × IsOpenLiteral text i
at_string text list i s lt is =
    let law = law_at text i items.OpenString lt is in
    (read_up_to text list i s lt law.0, law.1)

pub at_comment : (text : List ℕ) (list : List Token) (i : ℕ) → IsScanned text list i → i < length text → items.OpenComment ≡ item_at text i → IsReadUpTo text i × IsOpenComment text i
at_comment text list i s lt is =
    let law = law_at text i items.OpenComment lt is in
    (read_up_to text list i s lt law.0, law.1)

pub at_byte : (text : List ℕ) (list : List Token) (i : ℕ) → IsScanned text list i → i < length text
    → items.BadByte ≡ item_at text i → IsReadUpTo text i × IsBadByte text i
at_byte text list i s lt is = let law = law_at text i items.BadByte lt is in (read_up_to text list i s lt law.0, law.1)

pub at_end : (text : List ℕ) (list : List Token) (i : ℕ) → IsScanned text list i → length text ≤ i → IsCut text 0 list (length text) × IsOrdered 0 list (length text)
at_end text list i s ge =
    let within = s.within in
    let same : i ≡ length text = omega arith in
    let P : ℕ → Type 0 = λ n. IsCut text 0 list n × IsOrdered 0 list n in
    subst P same (s.cut, s.ordered)

-- from the scan to the whole
pub unbalanced_law : (text : List ℕ) (ts : List Token) (o : ℕ) → ExplainsScan text (Ok ts) → Some o ≡ unbalanced_at text [] ts → IsUnbalanced text o
unbalanced_law text ts o h is = record {
  list = ts;
  cut = h.0;
  first = sym is;
  inside = unbalanced_inside text ts o h.1 (sym is);
  unbalanced = λ b. let none = is ∙ none_if_balanced text ts b in cc;
}

pub balanced_law : (text : List ℕ) (ts : List Token) → ExplainsScan text (Ok ts) → None ≡ unbalanced_at text [] ts → IsCut text 0 ts (length text) × IsBalanced text ts
balanced_law text ts h is = (h.0, balanced_if_none text ts (sym is))

ordered_few : (from to : ℕ) (ts : List Token) → IsOrdered from ts to → from + length ts ≤ to
ordered_few from to [] o = omega arith
ordered_few from to (t ∷ ts) o = let rest = ordered_few t.span.to to ts o.2 in omega (arith, o.0, o.1, rest)

pub few_law : (text : List ℕ) (ts : List Token) → ExplainsScan text (Ok ts) → length ts ≤ length text
few_law text ts h = let few = ordered_few 0 (length text) ts h.1 in omega (arith, few)
