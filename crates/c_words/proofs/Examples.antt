-- The tables in the subject's words: what each spelling is.
use Rattle.std.proofs.Common.{◌≡◌, ℕ, List, [], ◌∷◌, length, map, codes, refl}
use Rattle.c_words.specs.declared.punct.Punct.TheVariants as punct
use Rattle.c_words.specs.declared.punct.TheConstants.{PUNCTUATORS}
use Rattle.c_words.specs.declared.spelling.TheConstants.{NAMES}
use Rattle.c_words.specs.declared.word.Basic.TheVariants as basic
use Rattle.c_words.specs.declared.word.TagWord.TheVariants as tag
use Rattle.c_words.specs.declared.word.Word.{Word}
use Rattle.c_words.specs.declared.word.Word.TheVariants as words
use Rattle.c_words.specs.Spellings.{found, listed_word, name_word, punct_of}
use Rattle.c_words.specs.Words.{text_word}

-- each of the names is this word
abbrev Are : List (List ℕ) → Word → Type 0
Are names word = map name_word names ≡ map (λ _. word) names

specifiers : Are (codes "extern" ∷ codes "static" ∷ codes "auto" ∷ codes "inline" ∷ codes "__inline" ∷ codes "__inline__" ∷ codes "_Noreturn" ∷ []) words.Specifier
unfolding name_word listed_word found
specifiers = refl

qualifiers : Are (codes "const" ∷ codes "volatile" ∷ codes "restrict" ∷ codes "__const" ∷ codes "__const__" ∷ codes "__volatile" ∷ codes "__volatile__" ∷ codes "__restrict" ∷ codes "__restrict__" ∷ []) words.Qualifier
unfolding name_word listed_word found
qualifiers = refl

basic_types : map name_word (codes "void" ∷ codes "char" ∷ codes "short" ∷ codes "int" ∷ codes "long"
    ∷ codes "float" ∷ codes "double" ∷ codes "signed" ∷ codes "__signed" ∷ codes "__signed__" ∷ codes "unsigned"
    ∷ codes "_Bool" ∷ [])
    ≡ map words.Basic (basic.Void ∷ basic.Char ∷ basic.Short ∷ basic.Int ∷ basic.Long ∷ basic.Float ∷ basic.Double
    ∷ basic.Signed ∷ basic.Signed ∷ basic.Signed ∷ basic.Unsigned ∷ basic.Bool ∷ [])
unfolding name_word listed_word found
basic_types = refl

tags : map name_word (codes "struct" ∷ codes "union" ∷ codes "enum" ∷ []) ≡ map words.Tag (tag.Struct ∷ tag.Union ∷ tag.Enum ∷ [])
unfolding name_word listed_word found
tags = refl

in_declarations : map name_word (codes "typedef" ∷ codes "register" ∷ codes "__extension__"
    ∷ codes "__builtin_va_list" ∷ codes "__attribute" ∷ codes "__attribute__" ∷ codes "_Static_assert" ∷ [])
    ≡ words.Typedef ∷ words.Register ∷ words.Extension ∷ words.VaList ∷ words.Attribute ∷ words.Attribute
    ∷ words.StaticAssert ∷ []
unfolding name_word listed_word found
in_declarations = refl

typeofs : Are (codes "typeof" ∷ codes "__typeof" ∷ codes "__typeof__" ∷ []) words.Typeof
unfolding name_word listed_word found
typeofs = refl

asms : Are (codes "asm" ∷ codes "__asm" ∷ codes "__asm__" ∷ []) words.Asm
unfolding name_word listed_word found
asms = refl

in_statements : map name_word (codes "for" ∷ codes "case" ∷ codes "default" ∷ codes "sizeof" ∷ []) ≡ words.For ∷ words.Case ∷ words.Default ∷ words.Sizeof ∷ []
unfolding name_word listed_word found
in_statements = refl

heads : Are (codes "if" ∷ codes "while" ∷ codes "switch" ∷ []) words.Head
unfolding name_word listed_word found
heads = refl

leads : Are (codes "else" ∷ codes "do" ∷ []) words.Lead
unfolding name_word listed_word found
leads = refl

jumps : Are (codes "goto" ∷ codes "return" ∷ codes "break" ∷ codes "continue" ∷ []) words.Jump
unfolding name_word listed_word found
jumps = refl

uncovered : Are (codes "_Atomic" ∷ codes "_Thread_local" ∷ codes "__thread" ∷ codes "_Alignas" ∷ codes "_Complex"
    ∷ codes "__complex" ∷ codes "__complex__" ∷ codes "_Imaginary" ∷ codes "__int128" ∷ codes "__int128_t"
    ∷ codes "__uint128_t" ∷ [])
    words.Uncovered
unfolding name_word listed_word found
uncovered = refl

uncovered_others : Are (codes "__auto_type" ∷ codes "__label__" ∷ codes "_BitInt" ∷ codes "typeof_unqual"
    ∷ codes "__typeof_unqual" ∷ codes "__typeof_unqual__" ∷ codes "_Float128" ∷ codes "_Float32x"
    ∷ codes "__float80" ∷ codes "_Decimal64" ∷ [])
    words.Uncovered
unfolding name_word listed_word found
uncovered_others = refl

keywords : Are (codes "_Alignof" ∷ codes "_Generic" ∷ []) words.Keyword
unfolding name_word listed_word found
keywords = refl

names : Are (codes "x" ∷ codes "Int" ∷ codes "ints" ∷ codes "in" ∷ codes "_float" ∷ codes "__asm_" ∷ codes "" ∷ []) words.Name
unfolding name_word listed_word found
names = refl

-- the table has no other name
no_other_name : length NAMES ≡ 76
no_other_name = refl

brackets : map punct_of (codes "(" ∷ codes ")" ∷ codes "[" ∷ codes "]" ∷ codes "{" ∷ codes "}" ∷ []) ≡ punct.OpenParen ∷ punct.CloseParen ∷ punct.OpenBracket ∷ punct.CloseBracket ∷ punct.OpenBrace ∷ punct.CloseBrace ∷ []
unfolding punct_of found
brackets = refl

marks : map punct_of (codes "." ∷ codes "->" ∷ codes "?" ∷ codes ":" ∷ codes ";" ∷ codes "..." ∷ codes "," ∷ codes "#" ∷ codes "##" ∷ [])
    ≡ punct.Dot ∷ punct.Arrow ∷ punct.Question ∷ punct.Colon ∷ punct.Semicolon ∷ punct.Ellipsis ∷ punct.Comma ∷ punct.Hash ∷ punct.Hash ∷ []
unfolding punct_of found
marks = refl

unaries : map punct_of (codes "++" ∷ codes "--" ∷ codes "&" ∷ codes "*" ∷ codes "+" ∷ codes "-" ∷ codes "~" ∷ codes "!" ∷ [])
    ≡ punct.Increment ∷ punct.Decrement ∷ punct.Ampersand ∷ punct.Star ∷ punct.Plus ∷ punct.Minus ∷ punct.Tilde ∷ punct.Exclamation ∷ []
unfolding punct_of found
unaries = refl

binaries : map punct_of (codes "/" ∷ codes "%" ∷ codes "<<" ∷ codes ">>" ∷ codes "<" ∷ codes ">" ∷ codes "<=" ∷ codes ">=" ∷ codes "==" ∷ codes "!=" ∷ codes "^" ∷ codes "|" ∷ codes "&&" ∷ codes "||" ∷ [])
    ≡ punct.Slash ∷ punct.Percent ∷ punct.ShiftLeft ∷ punct.ShiftRight ∷ punct.Less ∷ punct.Greater ∷ punct.LessEqual ∷ punct.GreaterEqual ∷ punct.Equal ∷ punct.NotEqual ∷ punct.Caret ∷ punct.Bar ∷ punct.And ∷ punct.Or ∷ []
unfolding punct_of found
binaries = refl

assignments : map punct_of (codes "=" ∷ codes "*=" ∷ codes "/=" ∷ codes "%=" ∷ codes "+=" ∷ codes "-=" ∷ codes "<<=" ∷ codes ">>=" ∷ codes "&=" ∷ codes "^=" ∷ codes "|=" ∷ [])
    ≡ punct.Assign ∷ punct.StarAssign ∷ punct.SlashAssign ∷ punct.PercentAssign ∷ punct.PlusAssign ∷ punct.MinusAssign ∷ punct.ShiftLeftAssign ∷ punct.ShiftRightAssign ∷ punct.AndAssign ∷ punct.XorAssign ∷ punct.OrAssign ∷ []
unfolding punct_of found
assignments = refl

-- the table has no other punctuator
no_other_punctuator : length PUNCTUATORS ≡ 46
no_other_punctuator = refl

literals : map text_word ((34 ∷ 34 ∷ []) ∷ (76 ∷ 34 ∷ 34 ∷ []) ∷ []) ≡ words.Text ∷ words.PrefixedText ∷ []
literals = refl
