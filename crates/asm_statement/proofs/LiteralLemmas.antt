-- One literal of several.
use Rattle.std.proofs.Common.{◌≡◌, ℕ, ◌+◌, ◌<◌, ◌≤◌, List, [], ◌∷◌, ◌++◌, drop, length, get_or, refl, append_assoc}
use Rattle.std.proofs.lemmas.List.{drop_more, drop_all, append-nil}
use Rattle.c_tokens.specs.declared.token.Token.{Token}
use Rattle.c_literals.specs.Raws.{raws_in}
use Rattle.asm_statement.specs.Literals.{raws_of}

pub literals-none : (text : List ℕ) (ts : List Token) (k : ℕ) → length ts ≤ k → raws_of text (drop k ts) ≡ []
unfolding raws_of
literals-none text ts k le = rw (drop_all k ts le) refl

pub literals-step : (text : List ℕ) (ts : List Token) (k : ℕ) (d : Token) → k < length ts → raws_of text (drop k ts) ≡ raws_in text (get_or ts k d) ++ raws_of text (drop (k + 1) ts)
unfolding raws_of
literals-step text ts k d lt = rw (drop_more ts k d lt) refl

pub ruleset literal_steps = (literals-none, literals-step, append-nil, append_assoc)
