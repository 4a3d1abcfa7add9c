-- What a token is to the grammar of asm statements (GCC manual, "Extended Asm", "Alternate Keywords").
use Rattle.std.specs.Prelude.{ℕ, Bool, true, false, List, ◌==◌, ◌||◌, nat_eq, if◌then◌else◌, codes}
use Rattle.std.specs.Cmp.Lexicographic.{pointwise}
use Rattle.asm_statement.specs.declared.class.Class.{Class}
use Rattle.asm_statement.specs.declared.class.Class.TheVariants.{Keyword, Qualifier, Goto, Lead, Head, Extension, Attribute, Name, Literal, Prefixed, OpenParen, CloseParen, OpenBracket, CloseBracket, OpenBrace, CloseBrace, Semicolon, Colon, Comma, Other}

abbrev pub same : List ℕ → List ℕ → Bool
same name word = pointwise nat_eq name word

abbrev pub is_keyword : List ℕ → Bool
is_keyword name = same name (codes "asm") || same name (codes "__asm__") || same name (codes "__asm")

abbrev pub is_qualifier : List ℕ → Bool
is_qualifier name = same name (codes "volatile") || same name (codes "__volatile__") || same name (codes "__volatile")
    || same name (codes "inline") || same name (codes "__inline__") || same name (codes "__inline")

abbrev pub is_goto : List ℕ → Bool
is_goto name = same name (codes "goto")

-- what a statement may directly follow
abbrev pub is_lead : List ℕ → Bool
is_lead name = same name (codes "else") || same name (codes "do")

-- what has parentheses that a statement may follow
abbrev pub is_head : List ℕ → Bool
is_head name = same name (codes "if") || same name (codes "while") || same name (codes "for") || same name (codes "switch")

abbrev pub is_extension : List ℕ → Bool
is_extension name = same name (codes "__extension__")

-- what has parentheses that a statement may follow as one that is outside (C11 6.10.9; GCC manual, "Statement
-- Attributes")
abbrev pub is_attribute : List ℕ → Bool
is_attribute name = same name (codes "__attribute__") || same name (codes "__attribute") || same name (codes "_Pragma")

unfoldable pub name_class : List ℕ → Class
name_class name =
    if is_keyword name then Keyword
    else if is_qualifier name then Qualifier
    else if is_goto name then Goto
    else if is_lead name then Lead
    else if is_head name then Head
    else if is_extension name then Extension
    else if is_attribute name then Attribute
    else Name

-- The class of a punctuator by its first byte: no longer punctuator begins with one of these.
unfoldable pub mark_class : ℕ → Class
mark_class b =
    if b == 40 then OpenParen
    else if b == 41 then CloseParen
    else if b == 91 then OpenBracket
    else if b == 93 then CloseBracket
    else if b == 123 then OpenBrace
    else if b == 125 then CloseBrace
    else if b == 59 then Semicolon
    else if b == 58 then Colon
    else if b == 44 then Comma
    else Other

-- a string literal begins with its quote, or with a prefix
abbrev pub literal_class : ℕ → Class
literal_class b = if b == 34 then Literal else Prefixed

-- keywords are names too
abbrev pub is_name : Class → Bool
is_name Keyword = true
is_name Qualifier = true
is_name Goto = true
is_name Lead = true
is_name Head = true
is_name Extension = true
is_name Attribute = true
is_name Name = true
is_name _ = false

abbrev pub is_open_paren : Class → Bool
is_open_paren OpenParen = true
is_open_paren _ = false

abbrev pub is_close_paren : Class → Bool
is_close_paren CloseParen = true
is_close_paren _ = false

abbrev pub is_open_bracket : Class → Bool
is_open_bracket OpenBracket = true
is_open_bracket _ = false

abbrev pub is_close_bracket : Class → Bool
is_close_bracket CloseBracket = true
is_close_bracket _ = false

abbrev pub is_colon : Class → Bool
is_colon Colon = true
is_colon _ = false

abbrev pub is_comma : Class → Bool
is_comma Comma = true
is_comma _ = false

-- a string literal, with a prefix only where that is asked for
abbrev pub is_literal : Bool → Class → Bool
is_literal prefixed Literal = true
is_literal prefixed Prefixed = prefixed
is_literal prefixed _ = false

-- a list may be empty: what stands there is a colon or the closing parenthesis
abbrev pub ends_list : Class → Bool
ends_list Colon = true
ends_list CloseParen = true
ends_list _ = false

-- a word that may follow the keyword, `goto` only where that is asked for
abbrev pub is_word : Bool → Class → Bool
is_word goto Qualifier = true
is_word goto Goto = goto
is_word goto _ = false
