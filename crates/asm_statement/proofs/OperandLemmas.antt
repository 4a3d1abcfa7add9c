-- One token of an operand, one operand of several.
use Rattle.std.proofs.Common.{◌≡◌, ℕ, ◌+◌, ◌<◌, ◌≤◌, Bool, true, false, List, drop, length, get_or, cond, refl, ◌∙◌}
use Rattle.std.proofs.lemmas.List.{drop_more, drop_all}
use Rattle.c_tokens.specs.declared.token.Token.{Token}
use Rattle.asm_statement.specs.Classes.{is_literal}
use Rattle.asm_statement.specs.Source.{class_of}
use Rattle.asm_statement.specs.Operands.{literals_end}

literals-step : (p : Bool) (text : List ℕ) (ts : List Token) (i : ℕ) (d : Token) → i < length ts
    → literals_end p text i (drop i ts) ≡ cond (is_literal p (class_of text (get_or ts i d))) (literals_end p text (i + 1) (drop (i + 1) ts)) i
unfolding literals_end
literals-step p text ts i d lt = rw (drop_more ts i d lt) refl

pub literals-more : (p : Bool) (text : List ℕ) (ts : List Token) (i : ℕ) (d : Token) → i < length ts → is_literal p (class_of text (get_or ts i d)) ≡ true
    → literals_end p text i (drop i ts) ≡ literals_end p text (i + 1) (drop (i + 1) ts)
literals-more p text ts i d lt e = literals-step p text ts i d lt ∙ rw e refl

pub literals-stop : (p : Bool) (text : List ℕ) (ts : List Token) (i : ℕ) (d : Token) → i < length ts → is_literal p (class_of text (get_or ts i d)) ≡ false
    → literals_end p text i (drop i ts) ≡ i
literals-stop p text ts i d lt e = literals-step p text ts i d lt ∙ rw e refl

pub literals-done : (p : Bool) (text : List ℕ) (ts : List Token) (i : ℕ) → length ts ≤ i → literals_end p text i (drop i ts) ≡ i
unfolding literals_end
literals-done p text ts i le = rw (drop_all i ts le) refl

pub ruleset literals_steps = (literals-more, literals-stop, literals-done)
