-- Names, and only names, have the words of names; and no token is missing.
use Rattle.std.proofs.Common.{◌≡◌, ◌≢◌, ℕ, ◌<◌, ◌≤◌, ◌==◌, ◌&&◌, Bool, true, false, List, [], ◌∷◌, Option, Some, None, IfSome, unwrap_or, slice_get, slice_index, slice_range, length, map, find, nat_eq, cond, if◌then◌else◌, refl, inl, inr, arith}
use Rattle.std.specs.List.{list_all}
use Rattle.std.specs.Cmp.Lexicographic.{pointwise}
use Rattle.std.specs.Option.{option_map}
use Rattle.std.proofs.lemmas.Option.{slice_get_cases, slice_get-map, slice_get_past}
use Rattle.std.proofs.lemmas.Bool.{cases_lt}
use Rattle.c_tokens.specs.declared.token.Token.{Token}
use Rattle.c_tokens.specs.declared.token.TokenKind.TheVariants as kinds
use Rattle.c_words.specs.declared.word.Word.{Word}
use Rattle.c_words.specs.declared.word.Word.TheVariants as words
use Rattle.c_words.specs.Spellings.{found, listed_word, name_word, is_uncovered}
use Rattle.c_words.specs.File.{File}
use Rattle.c_words.specs.Words.{word_of, word_at, is_name_kind, is_name_word, is_name_at}
use Rattle.c_words.specs.declared.spelling.TheConstants.{NAMES}

both : (a b : Bool) → (a && b) ≡ true → (a ≡ true) × (b ≡ true)
both true b h = (refl, h)
both false b h = absurd (cc)

-- what holds of each row's word holds of the one that is found
found-all : (test : Word → Bool) (rows : List (List ℕ × Word)) (spelling : List ℕ) → list_all (λ row. test row.1) rows ≡ true → IfSome (found rows spelling) (λ w. test w ≡ true)
unfolding found
found-all test [] spelling all = tt
found-all test (row ∷ rows) spelling all =
    let parts = both (test row.1) (list_all (λ r. test r.1) rows) all in
    elim (pointwise nat_eq row.0 spelling) as (λ b. IfSome (option_map (λ (r : List ℕ × Word). r.1) (cond b (Some row) (find (λ r. pointwise nat_eq r.0 spelling) rows))) (λ w. test w ≡ true)) [
      | true ↦ parts.0
      | false ↦ found-all test rows spelling parts.1
    ]

listed : (name : List ℕ) → IfSome (listed_word name) (λ w. is_name_word w ≡ true)
unfolding listed_word
listed name = found-all is_name_word (map (λ row. (row.0.now, row.1)) NAMES) name refl

chosen : (b : Bool) → is_name_word (if b then words.Uncovered else words.Name) ≡ true
chosen true = refl
chosen false = refl

or_else : (o : Option Word) (w : Word) → IfSome o (λ v. is_name_word v ≡ true) → is_name_word w ≡ true → is_name_word (unwrap_or o w) ≡ true
or_else None w some other = other
or_else (Some v) w some other = some

named : (name : List ℕ) → is_name_word (name_word name) ≡ true
unfolding name_word
named name = or_else (listed_word name) _ (listed name) (chosen (is_uncovered name))

unnamed : (b : Bool) → is_name_word (if b then words.Text else words.PrefixedText) ≡ false
unnamed true = refl
unnamed false = refl

literal_there : (b : Bool) → (if b then words.Text else words.PrefixedText) ≢ words.Missing
literal_there true = λ missing. cc
literal_there false = λ missing. cc

abbrev word_from : List ℕ → Option Token → Word
word_from text None = words.Missing
word_from text (Some t) = word_of text t

abbrev is_name_from : Option Token → Bool
is_name_from None = false
is_name_from (Some t) = is_name_kind t.kind

-- a token has a name's word where its kind is that of names
pub is_name_word-word_of : (text : List ℕ) (t : Token) → is_name_word (word_of text t) ≡ is_name_kind t.kind
is_name_word-word_of text t = elim t.kind as (λ k. is_name_word (word_of text (record { kind = k; span = t.span })) ≡ is_name_kind k) [
  | kinds.Name ↦ named (slice_range text t.span.from t.span.to)
  | kinds.Number ↦ refl
  | kinds.Char ↦ refl
  | kinds.Text ↦ unnamed (slice_index (slice_range text t.span.from t.span.to) 0 == 34)
  | kinds.Punct ↦ refl
]

pub is_name_word-word_at : (file : File) (i : ℕ) → is_name_word (word_at file i) ≡ is_name_at file i
unfolding word_at is_name_at
is_name_word-word_at file i = elim (slice_get file.tokens i) as (λ o. is_name_word (word_from file.text o) ≡ is_name_from o) [
  | None ↦ refl
  | Some t ↦ is_name_word-word_of file.text t
]

-- no token is missing
word_of-there : (text : List ℕ) (t : Token) → word_of text t ≢ words.Missing
word_of-there text t = elim t.kind as (λ k. word_of text (record { kind = k; span = t.span }) ≢ words.Missing) [
  | kinds.Name ↦ λ missing. absurd (let name = named (slice_range text t.span.from t.span.to) in let none = rw missing at name in cc)
  | kinds.Number ↦ λ missing. cc
  | kinds.Char ↦ λ missing. cc
  | kinds.Text ↦ λ missing. literal_there (slice_index (slice_range text t.span.from t.span.to) 0 == 34) missing
  | kinds.Punct ↦ λ missing. cc
]

pub word_at-there : (file : File) (i : ℕ) → i < length file.tokens → word_at file i ≢ words.Missing
unfolding word_at
word_at-there file i inside = elim ((slice_get_cases file.tokens i).1) [
  | inl found ↦ rw (found.2, word_at) (word_of-there file.text found.0)
  | inr past ↦ absurd (omega arith)
]

pub word_at-past : (file : File) (i : ℕ) → length file.tokens ≤ i → word_at file i ≡ words.Missing
unfolding word_at
word_at-past file i past = rw (slice_get_past file.tokens i past, word_at) refl

pub word_at-inside : (file : File) (i : ℕ) → word_at file i ≢ words.Missing → i < length file.tokens
word_at-inside file i there = elim (cases_lt i (length file.tokens)) [
  | inl inside ↦ inside
  | inr past ↦ absurd (there (word_at-past file i past))
]

-- what stands in the list of words
pub there-get : (text : List ℕ) (tokens : List Token) (list : List Word) (i : ℕ) → list ≡ map (word_of text) tokens → i < length tokens → unwrap_or (slice_get list i) words.Missing ≢ words.Missing
there-get text tokens list i same inside = elim ((slice_get_cases tokens i).1) [
  | inl found ↦ rw (same, slice_get-map (word_of text) tokens i, found.2) (word_of-there text found.0)
  | inr past ↦ absurd (omega arith)
]

pub ruleset name_rules = (is_name_word-word_at, word_at-there)
