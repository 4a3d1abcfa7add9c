-- One step of each end, by the code's own tests.
use Rattle.std.proofs.Common.{◌≡◌, ℕ, ◌+◌, ◌<◌, ◌≤◌, Bool, true, false, List, drop, length, get_or, Some, None, cond, refl, arith, ◌==◌, ◌||◌, ◌&&◌, add-zero, get_or-drop}
use Rattle.std.proofs.lemmas.List.{drop_more, drop_all}
use Rattle.std.specs.List.{take_while}
use Rattle.std.proofs.lemmas.List.Folds.{length-prefix_len}
use Rattle.std.proofs.lemmas.List.Sums.{prefix_len-le-length}
use Rattle.std.proofs.lemmas.Bool.Decides.{nat_tests}
use Rattle.c_tokens.specs.Bytes.{continues_number, is_exponent, is_sign}
use Rattle.c_tokens.specs.Ends.{number_end, literal_end, comment_end, line_end}

pub number_end-step : (x : Bool) (text : List ℕ) (i : ℕ) → i < length text
    → number_end x i (drop i text) ≡ cond (continues_number (get_or text i 0) || (x && is_sign (get_or text i 0))) (number_end (is_exponent (get_or text i 0)) (i + 1) (drop (i + 1) text)) i
unfolding number_end
number_end-step x text i lt = rw (drop_more text i 0 lt) refl

pub number_end-done : (x : Bool) (text : List ℕ) (i : ℕ) → length text ≤ i → number_end x i (drop i text) ≡ i
unfolding number_end
number_end-done x text i e = rw (drop_all i text e) refl

pub ruleset number_steps = (number_end-step, number_end-done)

pub literal_end-step : (q : ℕ) (taken : Bool) (text : List ℕ) (i : ℕ) → i < length text
    → literal_end q taken i (drop i text) ≡ cond taken (literal_end q false (i + 1) (drop (i + 1) text))
    (cond (get_or text i 0 == q) (Some (i + 1)) (cond (get_or text i 0 == 92) (literal_end q true (i + 1) (drop (i + 1) text))
    (cond (get_or text i 0 == 10) None (literal_end q false (i + 1) (drop (i + 1) text)))))
unfolding literal_end
literal_end-step q taken text i lt = rw (drop_more text i 0 lt) refl

pub literal_end-done : (q : ℕ) (taken : Bool) (text : List ℕ) (i : ℕ) → length text ≤ i → literal_end q taken i (drop i text) ≡ None
unfolding literal_end
literal_end-done q taken text i e = rw (drop_all i text e) refl

pub literal_end-taken : (q : ℕ) (taken : Bool) (text : List ℕ) (i : ℕ) → i < length text → taken ≡ true
    → literal_end q taken i (drop i text) ≡ literal_end q false (i + 1) (drop (i + 1) text)
literal_end-taken q taken text i lt t = grind (arith, nat_tests, literal_end-step)

pub literal_end-close : (q : ℕ) (taken : Bool) (text : List ℕ) (i : ℕ) → i < length text → taken ≡ false → get_or text i 0 ≡ q
    → literal_end q taken i (drop i text) ≡ Some (i + 1)
literal_end-close q taken text i lt t e = grind (arith, nat_tests, literal_end-step)

pub literal_end-escape : (q : ℕ) (taken : Bool) (text : List ℕ) (i : ℕ) → i < length text → taken ≡ false → (get_or text i 0 ≡ q → ⊥) → get_or text i 0 ≡ 92
    → literal_end q taken i (drop i text) ≡ literal_end q true (i + 1) (drop (i + 1) text)
literal_end-escape q taken text i lt t n e = grind (arith, nat_tests, literal_end-step)

pub literal_end-newline : (q : ℕ) (taken : Bool) (text : List ℕ) (i : ℕ) → i < length text → taken ≡ false → (get_or text i 0 ≡ q → ⊥) → (get_or text i 0 ≡ 92 → ⊥) → get_or text i 0 ≡ 10
    → literal_end q taken i (drop i text) ≡ None
literal_end-newline q taken text i lt t n m e = grind (arith, nat_tests, literal_end-step)

pub literal_end-other : (q : ℕ) (taken : Bool) (text : List ℕ) (i : ℕ) → i < length text → taken ≡ false → (get_or text i 0 ≡ q → ⊥) → (get_or text i 0 ≡ 92 → ⊥) → (get_or text i 0 ≡ 10 → ⊥)
    → literal_end q taken i (drop i text) ≡ literal_end q false (i + 1) (drop (i + 1) text)
literal_end-other q taken text i lt t n m e = grind (arith, nat_tests, literal_end-step)

pub ruleset literal_steps = (literal_end-done, literal_end-taken, literal_end-close, literal_end-escape, literal_end-newline, literal_end-other)

next_byte : (text : List ℕ) (i : ℕ) → get_or (drop (i + 1) text) 0 0 ≡ get_or text (i + 1) 0
next_byte text i = rw (get_or-drop (i + 1) text 0 0, add-zero) refl

pub comment_end-step : (text : List ℕ) (i : ℕ) → i < length text
    → comment_end i (drop i text) ≡ cond ((get_or text i 0 == 42) && (get_or text (i + 1) 0 == 47)) (Some (i + 2)) (comment_end (i + 1) (drop (i + 1) text))
unfolding comment_end
comment_end-step text i lt = rw (drop_more text i 0 lt, next_byte text i) refl

pub comment_end-done : (text : List ℕ) (i : ℕ) → length text ≤ i → comment_end i (drop i text) ≡ None
unfolding comment_end
comment_end-done text i e = rw (drop_all i text e) refl

pub ruleset comment_steps = (comment_end-step, comment_end-done)

pub line_end-step : (s : Bool) (text : List ℕ) (i : ℕ) → i < length text
    → line_end s i (drop i text) ≡ cond s (line_end (get_or text i 0 == 92) (i + 1) (drop (i + 1) text))
    (cond (get_or text i 0 == 10) i (line_end (get_or text i 0 == 92) (i + 1) (drop (i + 1) text)))
unfolding line_end
line_end-step s text i lt = rw (drop_more text i 0 lt) refl

pub line_end-done : (s : Bool) (text : List ℕ) (i : ℕ) → length text ≤ i → line_end s i (drop i text) ≡ i
unfolding line_end
line_end-done s text i e = rw (drop_all i text e) refl

pub line_end-stop : (s : Bool) (text : List ℕ) (i : ℕ) → i < length text → s ≡ false → get_or text i 0 ≡ 10 → line_end s i (drop i text) ≡ i
line_end-stop s text i lt f e = grind (arith, nat_tests, line_end-step)

pub line_end-spliced : (s : Bool) (text : List ℕ) (i : ℕ) → i < length text → s ≡ true
    → line_end s i (drop i text) ≡ line_end (get_or text i 0 == 92) (i + 1) (drop (i + 1) text)
line_end-spliced s text i lt f = grind (arith, nat_tests, line_end-step)

pub line_end-other : (s : Bool) (text : List ℕ) (i : ℕ) → i < length text → (get_or text i 0 ≡ 10 → ⊥)
    → line_end s i (drop i text) ≡ line_end (get_or text i 0 == 92) (i + 1) (drop (i + 1) text)
line_end-other s text i lt n = grind (arith, nat_tests, line_end-step)

pub ruleset line_steps = (line_end-done, line_end-stop, line_end-spliced, line_end-other)

pub take_while-le : (p : ℕ → Bool) (bs : List ℕ) → length (take_while p bs) ≤ length bs
take_while-le p bs = rw (length-prefix_len p bs) (prefix_len-le-length p bs)

pub ruleset name_rules = (take_while-le)
