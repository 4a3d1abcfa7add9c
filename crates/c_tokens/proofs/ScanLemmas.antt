-- One item of the text, by what stands there.
use Rattle.std.proofs.Common.{◌≡◌, ℕ, zero, suc, ◌+◌, ◌-◌, ◌<◌, ◌≤◌, Bool, true, false, List, [], ◌∷◌, ◌++◌, drop, length, get_or, cond, refl, arith, nat_lt, ap, sym, ◌∙◌, subst, append_assoc, Result, Ok, Err, lt-ltb}
use Rattle.std.proofs.lemmas.List.{drop_more, drop_all, append-nil}
use Rattle.std.proofs.lemmas.Bool.{le-ltb}
use Rattle.c_tokens.specs.declared.token.Token.{Token}
use Rattle.c_tokens.specs.declared.token.TokenKind.{TokenKind}
use Rattle.c_tokens.specs.declared.item.Item.{Item}
use Rattle.c_tokens.specs.declared.item.Item.TheVariants as items
use Rattle.c_tokens.specs.declared.token_end.TokenEnd.{TokenEnd}
use Rattle.c_tokens.specs.declared.token_end.TokenEnd.TheVariants as ends
use Rattle.c_tokens.specs.Items.{item_at}
use Rattle.c_tokens.specs.Tokens.{token, tokens_from, with_first}

-- what is read after these tokens
abbrev pub after : List Token → Result (List Token) TokenEnd → Result (List Token) TokenEnd
after before (Ok ts) = Ok (before ++ ts)
after before (Err e) = Err e

pub after-first : (before : List Token) (t : Token) (r : Result (List Token) TokenEnd) → after before (with_first t r) ≡ after (before ++ t ∷ []) r
after-first before t (Ok ts) = ap Ok (sym (append_assoc before (t ∷ []) ts))
after-first before t (Err e) = refl

pub after-none : (r : Result (List Token) TokenEnd) → after [] r ≡ r
after-none (Ok ts) = refl
after-none (Err e) = refl

-- the bytes of an item are passed over
pub skip : (text : List ℕ) (until : ℕ) (k i : ℕ) → i + k ≡ until → until ≤ length text → tokens_from text until i (drop i text) ≡ tokens_from text until until (drop until text)
unfolding tokens_from
skip text until zero i e le = let same : i ≡ until = omega arith in rw same refl
skip text until (suc k) i e le =
    let short : i < length text = omega arith in
    let below : nat_lt i until ≡ true = lt-ltb i until (omega arith) in
    let next : i + 1 + k ≡ until = omega arith in
    rw (drop_more text i 0 short, below) (skip text until k (i + 1) next le)

-- what the item at an offset leads to
abbrev led_to : List ℕ → ℕ → Item → Result (List Token) TokenEnd
led_to text i (items.White e) = tokens_from text e (i + 1) (drop (i + 1) text)
led_to text i (items.Piece kind e) = with_first (token kind i e) (tokens_from text e (i + 1) (drop (i + 1) text))
led_to text i items.OpenString = Err (ends.OpenString i)
led_to text i items.OpenComment = Err (ends.OpenComment i)
led_to text i items.BadByte = Err (ends.BadByte i)

scan-step : (text : List ℕ) (i : ℕ) → i < length text → tokens_from text i i (drop i text) ≡ led_to text i (item_at text i)
unfolding tokens_from
scan-step text i lt =
    let here : nat_lt i i ≡ false = le-ltb i i (omega arith) in
    rw (drop_more text i 0 lt, here) (elim (item_at text i) as (λ v. elim v [
      | items.White e ↦ tokens_from text e (i + 1) (drop (i + 1) text)
      | items.Piece kind e ↦ with_first (token kind i e) (tokens_from text e (i + 1) (drop (i + 1) text))
      | items.OpenString ↦ Err (ends.OpenString i)
      | items.OpenComment ↦ Err (ends.OpenComment i)
      | items.BadByte ↦ Err (ends.BadByte i)
    ] ≡ led_to text i v) [ items.White e ↦ refl | items.Piece kind e ↦ refl | items.OpenString ↦ refl | items.OpenComment ↦ refl | items.BadByte ↦ refl ])

pub on-none : (text : List ℕ) (i : ℕ) → length text ≤ i → tokens_from text i i (drop i text) ≡ Ok []
unfolding tokens_from
on-none text i le = rw (drop_all i text le) refl

pub on-white : (text : List ℕ) (i e : ℕ) → i < length text → item_at text i ≡ items.White e → i < e → e ≤ length text
    → tokens_from text i i (drop i text) ≡ tokens_from text e e (drop e text)
on-white text i e lt is further le = scan-step text i lt ∙ rw is (skip text e (e - (i + 1)) (i + 1) (omega arith) le)

pub on-piece : (text : List ℕ) (i e : ℕ) (kind : TokenKind) → i < length text → item_at text i ≡ items.Piece kind e → i < e → e ≤ length text
    → tokens_from text i i (drop i text) ≡ with_first (token kind i e) (tokens_from text e e (drop e text))
on-piece text i e kind lt is further le = scan-step text i lt ∙ rw is (ap (with_first (token kind i e)) (skip text e (e - (i + 1)) (i + 1) (omega arith) le))

-- a token is read, and stands behind those before it
pub read_piece : (text : List ℕ) (before later : List Token) (t : Token) (i e : ℕ) (kind : TokenKind) (whole : Result (List Token) TokenEnd)
    → i < length text → item_at text i ≡ items.Piece kind e → i < e → e ≤ length text → t ≡ token kind i e → later ≡ before ++ t ∷ []
    → after before (tokens_from text i i (drop i text)) ≡ whole → after later (tokens_from text e e (drop e text)) ≡ whole
read_piece text before later t i e kind whole lt is further le same grown so_far =
    let step : after before (tokens_from text i i (drop i text)) ≡ after before (with_first t (tokens_from text e e (drop e text))) = rw (on-piece text i e kind lt is further le, same) refl in
    let more = after-first before t (tokens_from text e e (drop e text)) in
    rw grown (sym more ∙ sym step ∙ so_far)

pub on-string : (text : List ℕ) (i : ℕ) → i < length text → item_at text i ≡ items.OpenString → tokens_from text i i (drop i text) ≡ Err (ends.OpenString i)
on-string text i lt is = scan-step text i lt ∙ rw is refl

pub on-comment : (text : List ℕ) (i : ℕ) → i < length text → item_at text i ≡ items.OpenComment → tokens_from text i i (drop i text) ≡ Err (ends.OpenComment i)
on-comment text i lt is = scan-step text i lt ∙ rw is refl

pub on-byte : (text : List ℕ) (i : ℕ) → i < length text → item_at text i ≡ items.BadByte → tokens_from text i i (drop i text) ≡ Err (ends.BadByte i)
on-byte text i lt is = scan-step text i lt ∙ rw is refl

pub ruleset scan_steps = (after-first, after-none, append-nil, on-none, on-white, on-piece, on-string, on-comment, on-byte)
