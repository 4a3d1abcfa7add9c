-- What the laws of tokens rule out, on one text each.
use Rattle.std.proofs.Common.{inl, [], ◌∷◌, refl, arith}
use Rattle.std.specs.Prelude.{codes}
use Rattle.std.proofs.lemmas.List.{get_or_past}
use Rattle.c_tokens.specs.declared.token.TokenKind.TheVariants.{Name, Number, Char, Punct}
use Rattle.c_tokens.specs.Spelling.{is_rest_of_number, is_rest_of_literal}
use Rattle.c_tokens.specs.White.{splice, line_comment}
use Rattle.c_tokens.specs.Cut.{IsToken, IsReadUpTo}

-- a point before a digit is no punctuator
pub point : IsToken (codes ".5") Punct 0 1 → ⊥
unfolding is_rest_of_number
point t = let number = t.longest Number 2 (omega arith) (omega arith) in cc

-- a prefix is no name
pub prefix : IsToken (codes "L'a'") Name 0 1 → ⊥
unfolding is_rest_of_literal
prefix t = let literal = t.longest Char 4 (omega arith) (omega arith) in cc

-- a slash that begins a comment is no punctuator
pub slash : IsToken (codes "//") Punct 0 1 → ⊥
slash t =
    t.no_white 2
    (line_comment 0 2 refl
    (record { behind = omega arith; inside = omega arith; first = λ k ge lt ends. omega arith; ends = inl refl }))

-- also where nothing closes it
pub open_slash : IsToken (codes "/*") Punct 0 1 → ⊥
open_slash t = t.no_comment (record { opens = refl; unclosed = λ k le. rw (get_or_past (codes "/*") k 0 le) refl })

-- a backslash before a newline is no fault
pub spliced : IsReadUpTo (92 ∷ 10 ∷ []) 0 → ⊥
spliced r = r.no_white 2 (splice 0 refl)

-- and nothing behind the end is
pub behind_end : IsReadUpTo (codes "x") 1 → ⊥
behind_end r = let inside = r.inside in omega (arith, inside)
