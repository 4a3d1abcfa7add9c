-- The parameters of a function.
use Rattle.std.proofs.Common.{◌≡◌, ℕ, ◌+◌, ◌<◌, ◌≤◌, List, [], ◌∷◌, None, length, slice_get, get_or, drop, refl, ◌∙◌, sym, ap, arith}
use Rattle.c_words.specs.File.{File}
use Rattle.c_words.specs.Words.{word_at}
use Rattle.c_scopes.specs.Seen.{Declared}
use Rattle.c_reader.specs.declared.grammar.Context.TheVariants as contexts
use Rattle.c_reader.specs.Nesting.{inner}
use Rattle.c_words.specs.declared.word.Word.TheVariants as words
use Rattle.std.proofs.lemmas.Option.{slice_get_past}
use Rattle.std.proofs.lemmas.List.{drop_more, drop_all}
use Rattle.c_reader.specs.declared.grammar.Parameter.{Parameter}
use Rattle.c_reader.specs.Grammar.{Inner}
use Rattle.c_reader.specs.Declarators.{no_parameters, parameters_at, parameters_step}
use Rattle.c_reader.proofs.RepeatLemmas.{repeated_stop}
use Rattle.c_decls.specs.Declarations.{parameter_declared, parameter_hidden, parameters_hidden, parameters_listed, parameters_in}

listed-none : (f : File) (brace : ℕ) (seen : Declared) → parameters_listed f brace [] seen ≡ seen
unfolding parameters_listed
listed-none f brace seen = refl

listed-next : (f : File) (brace : ℕ) (p : Parameter) (ps : List Parameter) (seen : Declared)
    → parameters_listed f brace (p ∷ ps) seen ≡ parameters_listed f brace ps (parameter_declared f brace p seen)
unfolding parameters_listed
listed-next f brace p ps seen = refl

pub listed-more : (f : File) (brace : ℕ) (p : Parameter) (ps : List Parameter) (i : ℕ) (seen : Declared) → i < length ps → p ≡ get_or ps i p
    → parameters_listed f brace (drop i ps) seen ≡ parameters_listed f brace (drop (i + 1) ps) (parameter_declared f brace p seen)
listed-more f brace p ps i seen lt e =
    let first : drop i ps ≡ p ∷ drop (i + 1) ps = drop_more ps i p lt ∙ ap (λ x. x ∷ drop (i + 1) ps) (sym e) in
    rw first (listed-next f brace p (drop (i + 1) ps) seen)

pub listed-end : (f : File) (brace : ℕ) (ps : List Parameter) (i : ℕ) (seen : Declared) → length ps ≤ i → parameters_listed f brace (drop i ps) seen ≡ seen
listed-end f brace ps i seen le = let none : drop i ps ≡ [] = drop_all i ps le in rw none (listed-none f brace seen)

pub ruleset listed_steps = (listed-more, listed-end)

hidden-none : (f : File) (paren : ℕ) (seen : Declared) → parameters_hidden f paren [] seen ≡ seen
unfolding parameters_hidden
hidden-none f paren seen = refl

hidden-next : (f : File) (paren : ℕ) (p : Parameter) (ps : List Parameter) (seen : Declared)
    → parameters_hidden f paren (p ∷ ps) seen ≡ parameters_hidden f paren ps (parameter_hidden f paren p seen)
unfolding parameters_hidden
hidden-next f paren p ps seen = refl

pub hidden-more : (f : File) (paren : ℕ) (p : Parameter) (ps : List Parameter) (i : ℕ) (seen : Declared) → i < length ps → p ≡ get_or ps i p
    → parameters_hidden f paren (drop i ps) seen ≡ parameters_hidden f paren (drop (i + 1) ps) (parameter_hidden f paren p seen)
hidden-more f paren p ps i seen lt e =
    let first : drop i ps ≡ p ∷ drop (i + 1) ps = drop_more ps i p lt ∙ ap (λ x. x ∷ drop (i + 1) ps) (sym e) in
    rw first (hidden-next f paren p (drop (i + 1) ps) seen)

pub hidden-end : (f : File) (paren : ℕ) (ps : List Parameter) (i : ℕ) (seen : Declared) → length ps ≤ i → parameters_hidden f paren (drop i ps) seen ≡ seen
hidden-end f paren ps i seen le = let none : drop i ps ≡ [] = drop_all i ps le in rw none (hidden-none f paren seen)

pub ruleset hidden_steps = (hidden-more, hidden-end)

-- ---- no parameters begin past the last token

word-past : (f : File) (i : ℕ) → length f.tokens ≤ i → word_at f i ≡ words.Missing
unfolding word_at
word-past f i le = let none : slice_get f.tokens i ≡ None = slice_get_past f.tokens i le in rw (none, word_at) refl

none-past : (f : File) (n : Inner) (paren : ℕ) (seen : Declared) → length f.tokens ≤ paren → parameters_at f seen n contexts.Declaration paren ≡ None
unfolding parameters_at
none-past f n paren seen le =
    let behind : length f.tokens ≤ paren + 1 = omega (arith, le) in
    let missing : word_at f (paren + 1) ≡ words.Missing = word-past f (paren + 1) behind in
    rw missing (repeated_stop (parameters_step f seen n contexts.Declaration) no_parameters (length f.tokens) (paren + 1) [] behind)

pub parameters-past : (f : File) (paren : ℕ) (seen : Declared) → length f.tokens ≤ paren → parameters_in f paren seen ≡ None
parameters-past f paren seen le = none-past f (inner f seen 64) paren seen le

pub ruleset parameter_rules = (parameters-past)
