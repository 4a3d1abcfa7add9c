-- What is hidden, step by step.
use Rattle.std.proofs.Common.{◌≡◌, ℕ, zero, suc, true, false, ◌-◌, ◌<◌, ◌≤◌, length, refl, sym, arith}
use Rattle.c_words.specs.File.{File}
use Rattle.c_words.specs.Words.{word_at}
use Rattle.c_scopes.specs.Seen.{Declared}
use Rattle.c_decls.specs.declared.hiding.Hidden.{Hidden}
use Rattle.c_reader.specs.declared.next.Next.TheVariants.{Done, More}
use Rattle.c_reader.specs.Repeat.{repeated}
use Rattle.c_reader.proofs.RepeatLemmas.{repeated_done, repeated_more, repeated_stop}
use Rattle.c_reader.specs.Marks.{is_star}
use Rattle.c_decls.specs.Hiding.{enumerators_step, bodies_step, names_step, outer_step, sealed_step, hidden_at_end, is_qualifier, follows_star}

-- ---- the enumerators of a body

abbrev pub enumerators_from : File → ℕ → ℕ → ℕ → Declared → Declared
enumerators_from f from to i seen = repeated (enumerators_step f from to) hidden_at_end (length f.tokens) i seen

pub enumerators-done : (f : File) (from to i : ℕ) (seen r : Declared) → i < length f.tokens → Done r ≡ enumerators_step f from to i seen
    → enumerators_from f from to i seen ≡ r
enumerators-done f from to i seen r lt e = repeated_done (enumerators_step f from to) hidden_at_end (length f.tokens) i seen r lt (sym e)

pub enumerators-more : (f : File) (from to i j : ℕ) (seen now : Declared) → i < length f.tokens → i < j → More now j ≡ enumerators_step f from to i seen
    → enumerators_from f from to i seen ≡ enumerators_from f from to j now
enumerators-more f from to i j seen now lt further e = repeated_more (enumerators_step f from to) hidden_at_end (length f.tokens) i j seen now lt further (sym e)

pub enumerators-stop : (f : File) (from to i : ℕ) (seen : Declared) → length f.tokens ≤ i → enumerators_from f from to i seen ≡ seen
enumerators-stop f from to i seen le = repeated_stop (enumerators_step f from to) hidden_at_end (length f.tokens) i seen le

pub ruleset enumerators_steps = (enumerators-done, enumerators-more, enumerators-stop)

-- ---- bodies in expressions and initialisers

abbrev pub bodies_from : File → ℕ → ℕ → ℕ → Declared → Declared
bodies_from f to end i seen = repeated (bodies_step f to end) hidden_at_end (length f.tokens) i seen

pub bodies-done : (f : File) (to end i : ℕ) (seen r : Declared) → i < length f.tokens → Done r ≡ bodies_step f to end i seen → bodies_from f to end i seen ≡ r
bodies-done f to end i seen r lt e = repeated_done (bodies_step f to end) hidden_at_end (length f.tokens) i seen r lt (sym e)

pub bodies-more : (f : File) (to end i j : ℕ) (seen now : Declared) → i < length f.tokens → i < j → More now j ≡ bodies_step f to end i seen
    → bodies_from f to end i seen ≡ bodies_from f to end j now
bodies-more f to end i j seen now lt further e = repeated_more (bodies_step f to end) hidden_at_end (length f.tokens) i j seen now lt further (sym e)

pub bodies-stop : (f : File) (to end i : ℕ) (seen : Declared) → length f.tokens ≤ i → bodies_from f to end i seen ≡ seen
bodies-stop f to end i seen le = repeated_stop (bodies_step f to end) hidden_at_end (length f.tokens) i seen le

pub ruleset bodies_steps = (bodies-done, bodies-more, bodies-stop)

-- ---- stars before an index

pub star-none : (f : File) (i : ℕ) → i ≤ 0 → follows_star f i ≡ false
unfolding follows_star
star-none f zero le = refl
star-none f (suc i) le = absurd (omega arith)

star-behind_qualifier : (f : File) (i : ℕ) → is_qualifier (word_at f i) ≡ true → follows_star f (suc i) ≡ follows_star f i
unfolding follows_star
star-behind_qualifier f i e = rw e refl

star-behind_other : (f : File) (i : ℕ) → is_qualifier (word_at f i) ≡ false → follows_star f (suc i) ≡ is_star (word_at f i)
unfolding follows_star
star-behind_other f i e = rw e refl

pub star-further : (f : File) (i : ℕ) → 0 < i → is_qualifier (word_at f (i - 1)) ≡ true → follows_star f i ≡ follows_star f (i - 1)
star-further f zero lt e = absurd (omega arith)
star-further f (suc i) lt e = let back : suc i - 1 ≡ i = omega arith in let here = rw back at e in rw back (star-behind_qualifier f i here)

pub star-here : (f : File) (i : ℕ) → 0 < i → is_qualifier (word_at f (i - 1)) ≡ false → follows_star f i ≡ is_star (word_at f (i - 1))
star-here f zero lt e = absurd (omega arith)
star-here f (suc i) lt e = let back : suc i - 1 ≡ i = omega arith in let here = rw back at e in rw back (star-behind_other f i here)

pub ruleset star_steps = (star-none, star-further, star-here)

-- ---- the names of a declaration that isn't covered

abbrev pub names_from : (f : File) (h : Hidden) → ℕ → Declared → Declared
names_from f h i seen = repeated (names_step f h) hidden_at_end (length f.tokens) i seen

pub names-done : (f : File) (h : Hidden) (i : ℕ) (seen r : Declared) → i < length f.tokens → Done r ≡ names_step f h i seen → names_from f h i seen ≡ r
names-done f h i seen r lt e = repeated_done (names_step f h) hidden_at_end (length f.tokens) i seen r lt (sym e)

pub names-more : (f : File) (h : Hidden) (i j : ℕ) (seen now : Declared) → i < length f.tokens → i < j → More now j ≡ names_step f h i seen
    → names_from f h i seen ≡ names_from f h j now
names-more f h i j seen now lt further e = repeated_more (names_step f h) hidden_at_end (length f.tokens) i j seen now lt further (sym e)

pub names-stop : (f : File) (h : Hidden) (i : ℕ) (seen : Declared) → length f.tokens ≤ i → names_from f h i seen ≡ seen
names-stop f h i seen le = repeated_stop (names_step f h) hidden_at_end (length f.tokens) i seen le

pub ruleset names_steps = (names-done, names-more, names-stop)

-- ---- the typedef names that it declares

abbrev pub outer_from : (f : File) (h : Hidden) → ℕ → Declared → Declared
outer_from f h i seen = repeated (outer_step f h) hidden_at_end (length f.tokens) i seen

pub outer-done : (f : File) (h : Hidden) (i : ℕ) (seen r : Declared) → i < length f.tokens → Done r ≡ outer_step f h i seen → outer_from f h i seen ≡ r
outer-done f h i seen r lt e = repeated_done (outer_step f h) hidden_at_end (length f.tokens) i seen r lt (sym e)

pub outer-more : (f : File) (h : Hidden) (i j : ℕ) (seen now : Declared) → i < length f.tokens → i < j → More now j ≡ outer_step f h i seen
    → outer_from f h i seen ≡ outer_from f h j now
outer-more f h i j seen now lt further e = repeated_more (outer_step f h) hidden_at_end (length f.tokens) i j seen now lt further (sym e)

pub outer-stop : (f : File) (h : Hidden) (i : ℕ) (seen : Declared) → length f.tokens ≤ i → outer_from f h i seen ≡ seen
outer-stop f h i seen le = repeated_stop (outer_step f h) hidden_at_end (length f.tokens) i seen le

pub ruleset outer_steps = (outer-done, outer-more, outer-stop)

-- ---- the names in the body of a function

abbrev pub sealed_from : (f : File) (brace : ℕ) → ℕ → Declared → Declared
sealed_from f brace i seen = repeated (sealed_step f brace) hidden_at_end (length f.tokens) i seen

pub sealed-done : (f : File) (brace : ℕ) (i : ℕ) (seen r : Declared) → i < length f.tokens → Done r ≡ sealed_step f brace i seen → sealed_from f brace i seen ≡ r
sealed-done f brace i seen r lt e = repeated_done (sealed_step f brace) hidden_at_end (length f.tokens) i seen r lt (sym e)

pub sealed-more : (f : File) (brace : ℕ) (i j : ℕ) (seen now : Declared) → i < length f.tokens → i < j → More now j ≡ sealed_step f brace i seen
    → sealed_from f brace i seen ≡ sealed_from f brace j now
sealed-more f brace i j seen now lt further e = repeated_more (sealed_step f brace) hidden_at_end (length f.tokens) i j seen now lt further (sym e)

pub sealed-stop : (f : File) (brace : ℕ) (i : ℕ) (seen : Declared) → length f.tokens ≤ i → sealed_from f brace i seen ≡ seen
sealed-stop f brace i seen le = repeated_stop (sealed_step f brace) hidden_at_end (length f.tokens) i seen le

pub ruleset sealed_steps = (sealed-done, sealed-more, sealed-stop)
