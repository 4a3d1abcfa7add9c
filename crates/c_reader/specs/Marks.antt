-- Which mark of the grammar a word is.
use Rattle.std.specs.Prelude.{Bool, true, false}
use Rattle.c_words.specs.declared.word.Word.{Word}
use Rattle.c_words.specs.declared.word.Word.TheVariants as words
use Rattle.c_words.specs.declared.word.Basic.{Basic}
use Rattle.c_words.specs.declared.word.Basic.TheVariants as basic
use Rattle.c_words.specs.declared.punct.Punct.{Punct}
use Rattle.c_words.specs.declared.punct.Punct.TheVariants as puncts

-- a name that is none of the grammar's words
abbrev pub is_name : Word → Bool
is_name words.Name = true
is_name _ = false

abbrev is_void_word : Basic → Bool
is_void_word basic.Void = true
is_void_word _ = false

abbrev pub is_attribute : Word → Bool
is_attribute words.Attribute = true
is_attribute _ = false

-- `void`
abbrev pub is_void : Word → Bool
is_void (words.Basic b) = is_void_word b
is_void _ = false

-- the word is a punctuator that passes the test
abbrev pub is_mark : (Punct → Bool) → Word → Bool
is_mark test (words.Punct p) = test p
is_mark test _ = false

abbrev open_paren : Punct → Bool
open_paren puncts.OpenParen = true
open_paren _ = false

abbrev pub is_open_paren : Word → Bool
is_open_paren w = is_mark open_paren w

abbrev close_paren : Punct → Bool
close_paren puncts.CloseParen = true
close_paren _ = false

abbrev pub is_close_paren : Word → Bool
is_close_paren w = is_mark close_paren w

abbrev open_bracket : Punct → Bool
open_bracket puncts.OpenBracket = true
open_bracket _ = false

abbrev pub is_open_bracket : Word → Bool
is_open_bracket w = is_mark open_bracket w

abbrev close_bracket : Punct → Bool
close_bracket puncts.CloseBracket = true
close_bracket _ = false

abbrev pub is_close_bracket : Word → Bool
is_close_bracket w = is_mark close_bracket w

abbrev open_brace : Punct → Bool
open_brace puncts.OpenBrace = true
open_brace _ = false

abbrev pub is_open_brace : Word → Bool
is_open_brace w = is_mark open_brace w

abbrev close_brace : Punct → Bool
close_brace puncts.CloseBrace = true
close_brace _ = false

abbrev pub is_close_brace : Word → Bool
is_close_brace w = is_mark close_brace w

abbrev comma : Punct → Bool
comma puncts.Comma = true
comma _ = false

abbrev pub is_comma : Word → Bool
is_comma w = is_mark comma w

abbrev colon : Punct → Bool
colon puncts.Colon = true
colon _ = false

abbrev pub is_colon : Word → Bool
is_colon w = is_mark colon w

abbrev semicolon : Punct → Bool
semicolon puncts.Semicolon = true
semicolon _ = false

abbrev pub is_semicolon : Word → Bool
is_semicolon w = is_mark semicolon w

abbrev question : Punct → Bool
question puncts.Question = true
question _ = false

abbrev pub is_question : Word → Bool
is_question w = is_mark question w

abbrev star : Punct → Bool
star puncts.Star = true
star _ = false

abbrev pub is_star : Word → Bool
is_star w = is_mark star w

abbrev assign : Punct → Bool
assign puncts.Assign = true
assign _ = false

abbrev pub is_assign : Word → Bool
is_assign w = is_mark assign w

abbrev ellipsis : Punct → Bool
ellipsis puncts.Ellipsis = true
ellipsis _ = false

abbrev pub is_ellipsis : Word → Bool
is_ellipsis w = is_mark ellipsis w
