-- Chains of operands.
use Rattle.std.proofs.Common.{◌≡◌, ℕ, suc, ◌-◌, ◌<◌, ◌≤◌, Option, Some, None, length, refl, ◌∙◌, ap, arith}
use Rattle.c_words.specs.File.{File}
use Rattle.c_scopes.specs.Seen.{Declared}
use Rattle.c_values.specs.declared.value.Value.{Value}
use Rattle.c_reader.specs.declared.next.Next.TheVariants.{Done, More}
use Rattle.c_reader.specs.Repeat.{repeated}
use Rattle.c_reader.specs.Grammar.{Inner}
use Rattle.c_reader.proofs.RepeatLemmas.{repeated_done, repeated_more, repeated_stop}
use Rattle.c_reader.specs.declared.grammar.Typed.{Typed}
use Rattle.c_reader.specs.Expressions.{unended, comma_step, comma_at, assignment_at, binary_step, binary_at, cast_at, postfix_step, postfix_at, primary_at, sized, Reads}

abbrev pub commas_from : (f : File) (seen : Declared) → (n : Inner) → ℕ → Value → Option Typed
commas_from f seen n i s = repeated (comma_step f seen n) unended (length f.tokens) i s

pub commas_from-done : (f : File) (seen : Declared) (n : Inner) (i : ℕ) (s : Value) (r : Option Typed) → i < length f.tokens → comma_step f seen n i s ≡ Done r → commas_from f seen n i s ≡ r
commas_from-done f seen n i s r lt e = repeated_done (comma_step f seen n) unended (length f.tokens) i s r lt e

pub commas_from-more : (f : File) (seen : Declared) (n : Inner) (i j : ℕ) (s t : Value) → i < length f.tokens → i < j → comma_step f seen n i s ≡ More t j → commas_from f seen n i s ≡ commas_from f seen n j t
commas_from-more f seen n i j s t lt further e = repeated_more (comma_step f seen n) unended (length f.tokens) i j s t lt further e

pub commas_from-stop : (f : File) (seen : Declared) (n : Inner) (i : ℕ) (s : Value) → length f.tokens ≤ i → commas_from f seen n i s ≡ unended i s
commas_from-stop f seen n i s le = repeated_stop (comma_step f seen n) unended (length f.tokens) i s le

pub commas-none : (f : File) (seen : Declared) (n : Inner) (i : ℕ) → assignment_at f seen n i ≡ None → comma_at f seen n i ≡ None
unfolding comma_at
commas-none f seen n i e = rw e refl

pub commas-first : (f : File) (seen : Declared) (n : Inner) (i : ℕ) (x : Typed) → assignment_at f seen n i ≡ Some x → comma_at f seen n i ≡ commas_from f seen n x.end x.value
unfolding comma_at
commas-first f seen n i x e = rw e refl

pub ruleset comma_steps = (commas_from-done, commas_from-more, commas_from-stop, commas-none, commas-first)

abbrev pub operators_from : (f : File) → (operand : Reads) → (level : ℕ) → ℕ → Value → Option Typed
operators_from f operand level i s = repeated (binary_step f operand level) unended (length f.tokens) i s

pub operators_from-done : (f : File) (operand : Reads) (level : ℕ) (i : ℕ) (s : Value) (r : Option Typed) → i < length f.tokens → binary_step f operand level i s ≡ Done r → operators_from f operand level i s ≡ r
operators_from-done f operand level i s r lt e = repeated_done (binary_step f operand level) unended (length f.tokens) i s r lt e

pub operators_from-more : (f : File) (operand : Reads) (level : ℕ) (i j : ℕ) (s t : Value) → i < length f.tokens → i < j → binary_step f operand level i s ≡ More t j → operators_from f operand level i s ≡ operators_from f operand level j t
operators_from-more f operand level i j s t lt further e = repeated_more (binary_step f operand level) unended (length f.tokens) i j s t lt further e

pub operators_from-stop : (f : File) (operand : Reads) (level : ℕ) (i : ℕ) (s : Value) → length f.tokens ≤ i → operators_from f operand level i s ≡ unended i s
operators_from-stop f operand level i s le = repeated_stop (binary_step f operand level) unended (length f.tokens) i s le

pub binary-tightest : (f : File) (seen : Declared) (n : Inner) (level i : ℕ) → level ≡ 0 → binary_at f seen n level i ≡ cast_at f seen n i
unfolding binary_at
binary-tightest f seen n level i e = rw e refl

binary-suc : (f : File) (seen : Declared) (n : Inner) (level i : ℕ) (x : Typed) → binary_at f seen n level i ≡ Some x
    → binary_at f seen n (suc level) i ≡ operators_from f (binary_at f seen n level) level x.end x.value
unfolding binary_at
binary-suc f seen n level i x e = rw e refl

binary-suc_none : (f : File) (seen : Declared) (n : Inner) (level i : ℕ) → binary_at f seen n level i ≡ None → binary_at f seen n (suc level) i ≡ None
unfolding binary_at
binary-suc_none f seen n level i e = rw e refl

pub binary-first : (f : File) (seen : Declared) (n : Inner) (level i : ℕ) (x : Typed) → 0 < level → binary_at f seen n (level - 1) i ≡ Some x
    → binary_at f seen n level i ≡ operators_from f (binary_at f seen n (level - 1)) (level - 1) x.end x.value
binary-first f seen n level i x lt e = let s : level ≡ suc (level - 1) = omega arith in ap (λ k. binary_at f seen n k i) s ∙ binary-suc f seen n (level - 1) i x e

pub binary-none : (f : File) (seen : Declared) (n : Inner) (level i : ℕ) → 0 < level → binary_at f seen n (level - 1) i ≡ None → binary_at f seen n level i ≡ None
binary-none f seen n level i lt e = let s : level ≡ suc (level - 1) = omega arith in ap (λ k. binary_at f seen n k i) s ∙ binary-suc_none f seen n (level - 1) i e

pub ruleset operator_steps = (operators_from-done, operators_from-more, operators_from-stop)

pub ruleset binary_steps = (binary-tightest, binary-first, binary-none)

abbrev pub parts_from : (f : File) (seen : Declared) → (n : Inner) → ℕ → Value → Option Typed
parts_from f seen n i s = repeated (postfix_step f seen n) unended (length f.tokens) i s

pub parts_from-done : (f : File) (seen : Declared) (n : Inner) (i : ℕ) (s : Value) (r : Option Typed) → i < length f.tokens → postfix_step f seen n i s ≡ Done r → parts_from f seen n i s ≡ r
parts_from-done f seen n i s r lt e = repeated_done (postfix_step f seen n) unended (length f.tokens) i s r lt e

pub parts_from-more : (f : File) (seen : Declared) (n : Inner) (i j : ℕ) (s t : Value) → i < length f.tokens → i < j → postfix_step f seen n i s ≡ More t j → parts_from f seen n i s ≡ parts_from f seen n j t
parts_from-more f seen n i j s t lt further e = repeated_more (postfix_step f seen n) unended (length f.tokens) i j s t lt further e

pub parts_from-stop : (f : File) (seen : Declared) (n : Inner) (i : ℕ) (s : Value) → length f.tokens ≤ i → parts_from f seen n i s ≡ unended i s
parts_from-stop f seen n i s le = repeated_stop (postfix_step f seen n) unended (length f.tokens) i s le

pub postfix-none : (f : File) (seen : Declared) (n : Inner) (i : ℕ) → primary_at f seen n i ≡ None → postfix_at f seen n i ≡ None
unfolding postfix_at
postfix-none f seen n i e = rw e refl

pub postfix-first : (f : File) (seen : Declared) (n : Inner) (i : ℕ) (x : Typed) → primary_at f seen n i ≡ Some x → postfix_at f seen n i ≡ parts_from f seen n x.end x.value
unfolding postfix_at
postfix-first f seen n i x e = rw e refl

pub ruleset postfix_steps = (parts_from-done, parts_from-more, parts_from-stop, postfix-none, postfix-first)

-- ---- sizeof

pub sized-none : (seen : Declared) (place : ℕ) → sized seen place None ≡ None
unfolding sized
sized-none seen place = refl

pub ruleset size_steps = (sized-none)
