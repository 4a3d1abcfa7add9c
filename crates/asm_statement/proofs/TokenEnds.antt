-- Each token ends behind its beginning and inside the text.
use Rattle.std.proofs.Common.{◌≡◌, ℕ, suc, ◌+◌, ◌-◌, ◌<◌, ◌≤◌, Bool, true, false, List, [], ◌∷◌, drop, length, refl, sym, ◌∙◌, subst, arith, ◌==◌, ◌||◌, ◌&&◌, Option, Some, None, IfSome, if◌then◌else◌, length-drop, inl, inr, get_or}
use Rattle.std.proofs.lemmas.Bool.{cases_lt}
use Rattle.c_tokens.specs.declared.token.TokenKind.{TokenKind}
use Rattle.c_tokens.specs.declared.token.TokenKind.TheVariants.{Name, Number, Char, Text, Punct}
use Rattle.c_tokens.specs.declared.item.Item.{Item}
use Rattle.c_tokens.specs.declared.item.Item.TheVariants as items
use Rattle.c_tokens.specs.Bytes.{is_space, begins_name, is_pair_at, continues_name, continues_number, is_exponent, is_sign}
use Rattle.c_tokens.specs.Ends.{name_end, number_end, literal_end, comment_end}
use Rattle.c_tokens.specs.Puncts.{punctuator_len}
use Rattle.c_tokens.specs.Items.{item_at, piece_at, literal_or_word, literal_at, closed_literal, word_at, punctuator_item, closed_comment, begins_number, opening_at, opens_line}
use Rattle.c_tokens.specs.Spelling.{spells}
use Rattle.c_tokens.proofs.ItemLemmas.{ItemLaw, item_law}
use Rattle.c_tokens.proofs.EndSteps.{take_while-le}
use Rattle.c_tokens.proofs.PunctLemmas.{punctuator_fits}

-- a token ends at the offset at most
abbrev pub EndsBy : ℕ → Item → Type 0
EndsBy n (items.Piece k e) = e ≤ n
EndsBy n (items.White e) = Unit {0}
EndsBy n items.OpenString = Unit {0}
EndsBy n items.OpenComment = Unit {0}
EndsBy n items.BadByte = Unit {0}

either : (n : ℕ) (b : Bool) (x y : Item) → EndsBy n x → EndsBy n y → EndsBy n (if b then x else y)
either n true x y here there = here
either n false x y here there = there

comment_ends : (n : ℕ) (o : Option ℕ) → EndsBy n (closed_comment o)
comment_ends n None = tt
comment_ends n (Some e) = tt

some_or : (n : ℕ) (b : Bool) (o p : Option ℕ) → IfSome o (λ e. e ≤ n) → IfSome p (λ e. e ≤ n)
    → IfSome (if b then o else p) (λ e. e ≤ n)
some_or n true o p here there = here
some_or n false o p here there = there

literal_ends : (quote : ℕ) (taken : Bool) (i n : ℕ) (bs : List ℕ) → (0 < length bs → i + length bs ≤ n)
    → IfSome (literal_end quote taken i bs) (λ e. e ≤ n)
unfolding literal_end
literal_ends quote taken i n [] fits = tt
literal_ends quote taken i n (b ∷ bs) fits =
    let all : i + suc (length bs) ≤ n = fits (omega arith) in
    let more : (t : Bool) → IfSome (literal_end quote t (i + 1) bs) (λ e. e ≤ n) =
    λ t. literal_ends quote t (i + 1) n bs (λ _. omega arith) in
    some_or n taken _ _ (more false)
    (some_or n (b == quote) (Some (i + 1)) _ (omega arith)
    (some_or n (b == 92) _ _ (more true) (some_or n (b == 10) None _ tt (more false))))

literal_fits : (n quote : ℕ) (o : Option ℕ) → IfSome o (λ e. e ≤ n) → EndsBy n (closed_literal quote o)
literal_fits n quote None h = tt
literal_fits n quote (Some e) h = h

rest_fits : (text : List ℕ) (i : ℕ) → 0 < length (drop i text) → i + length (drop i text) ≤ length text
rest_fits text i some = let size = length-drop i text in omega (arith, size, some)

number_ends : (x : Bool) (i : ℕ) (bs : List ℕ) → number_end x i bs ≤ i + length bs
unfolding number_end
number_ends x i [] = omega arith
number_ends x i (b ∷ bs) =
    let more = number_ends (is_exponent b) (i + 1) bs in
    elim (continues_number b || (x && is_sign b)) as (λ t. (if t then number_end (is_exponent b)
    (i + 1) bs else i) ≤ i + suc (length bs)) [
      | true ↦ omega arith
      | false ↦ omega arith
    ]

name_ends : (text : List ℕ) (i : ℕ) → i < length text → name_end text (i + 1) ≤ length text
unfolding name_end
name_ends text i lt =
    let size = length-drop (i + 1) text in
    let some = take_while-le continues_name (drop (i + 1) text) in
    omega (arith, size, some)

mark_ends : (n i len : ℕ) → i + len ≤ n → EndsBy n (punctuator_item i len)
mark_ends n i len fits = either n (len == 0) items.BadByte (items.Piece Punct (i + len)) tt fits

word_ends : (text : List ℕ) (i : ℕ) → i < length text → EndsBy (length text) (word_at text i)
unfolding word_at
word_ends text i lt =
    let size = length-drop (i + 1) text in
    let number = number_ends false (i + 1) (drop (i + 1) text) in
    either (length text) (begins_name (get_or text i 0)) _ _ (name_ends text i lt)
    (either (length text) (begins_number text i) _ _ (omega (arith, size, number))
    (mark_ends (length text) i (punctuator_len (drop i text)) (punctuator_fits text i lt)))

piece_ends : (text : List ℕ) (i : ℕ) → i < length text → EndsBy (length text) (piece_at text i)
unfolding piece_at literal_at
piece_ends text i lt = by_quote (opening_at text i)
  where
    by_quote : (o : Option ℕ) → EndsBy (length text) (literal_or_word text i o)
    by_quote None = word_ends text i lt
    by_quote (Some q) =
        literal_fits (length text) (get_or text q 0) (literal_end (get_or text q 0) false (q + 1) (drop (q + 1) text))
        (literal_ends (get_or text q 0) false (q + 1) (length text) (drop (q + 1) text) (rest_fits text (q + 1)))

pub item_ends : (text : List ℕ) (i : ℕ) → i < length text → EndsBy (length text) (item_at text i)
unfolding item_at
item_ends text i lt =
    let n = length text in
    either n (is_space (get_or text i 0)) _ _ tt
    (either n (is_pair_at text i 92 10) _ _ tt
    (either n (is_pair_at text i 47 42) _ _ (comment_ends n (comment_end (i + 2) (drop (i + 2) text)))
    (either n (is_pair_at text i 47 47) _ _ tt
    (either n ((get_or text i 0 == 35) && opens_line text i) _ _ tt (piece_ends text i lt)))))

nothing_spelt : (k : TokenKind) → spells k [] ≡ false
nothing_spelt Name = refl
nothing_spelt Number = refl
nothing_spelt Char = refl
nothing_spelt Text = refl
nothing_spelt Punct = refl

-- a token has a byte at least
pub piece_further : (text : List ℕ) (i e : ℕ) (k : TokenKind) → i < length text → item_at text i ≡ items.Piece k e
    → i < e
piece_further text i e k lt is =
    let law : ItemLaw text i (items.Piece k e) = subst (ItemLaw text i) is (item_law text i lt) in
    elim (cases_lt i e) [
      | inl further ↦ further
      | inr back ↦
          let none : e - i ≡ 0 = omega arith in
          let nothing : spells k [] ≡ true = rw none at law.token.spelt in
          let no = nothing_spelt k in
          absurd (let f : false ≡ true = sym no ∙ nothing in cc)
    ]
