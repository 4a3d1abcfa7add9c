-- One declarator of several.
use Rattle.std.proofs.Common.{◌≡◌, ℕ, ◌<◌, ◌≤◌, length}
use Rattle.c_words.specs.File.{File}
use Rattle.c_scopes.specs.Seen.{Declared}
use Rattle.c_reader.specs.declared.next.Next.TheVariants.{Done, More}
use Rattle.c_reader.specs.declared.grammar.Specifiers.{Specifiers}
use Rattle.c_reader.specs.Repeat.{repeated}
use Rattle.c_reader.proofs.RepeatLemmas.{repeated_done, repeated_more, repeated_stop}
use Rattle.c_decls.specs.Declarations.{Found, declarator_step, unended}

abbrev pub declarators_from : File → ℕ → Specifiers → ℕ → Declared → Found
declarators_from f to s j seen = repeated (declarator_step f to s) unended (length f.tokens) j seen

pub declarators-done : (f : File) (to : ℕ) (s : Specifiers) (j : ℕ) (seen : Declared) (r : Found) → j < length f.tokens
    → declarator_step f to s j seen ≡ Done r → declarators_from f to s j seen ≡ r
declarators-done f to s j seen r lt e = repeated_done (declarator_step f to s) unended (length f.tokens) j seen r lt e

pub declarators-more : (f : File) (to : ℕ) (s : Specifiers) (j next : ℕ) (seen now : Declared) → j < length f.tokens → j < next
    → declarator_step f to s j seen ≡ More now next → declarators_from f to s j seen ≡ declarators_from f to s next now
declarators-more f to s j next seen now lt further e = repeated_more (declarator_step f to s) unended (length f.tokens) j next seen now lt further e

pub declarators-stop : (f : File) (to : ℕ) (s : Specifiers) (j : ℕ) (seen : Declared) → length f.tokens ≤ j
    → declarators_from f to s j seen ≡ unended j seen
declarators-stop f to s j seen le = repeated_stop (declarator_step f to s) unended (length f.tokens) j seen le

pub ruleset declarator_steps = (declarators-done, declarators-more, declarators-stop)
