-- One specifier of several.
use Rattle.std.proofs.Common.{◌≡◌, ℕ, ◌<◌, ◌≤◌, Option, length}
use Rattle.c_words.specs.File.{File}
use Rattle.c_scopes.specs.Seen.{Declared}
use Rattle.c_reader.specs.declared.next.Next.TheVariants.{Done, More}
use Rattle.c_reader.specs.Repeat.{repeated}
use Rattle.c_reader.specs.Grammar.{Inner}
use Rattle.c_reader.proofs.RepeatLemmas.{repeated_done, repeated_more, repeated_stop}
use Rattle.c_reader.specs.declared.grammar.Context.{Context}
use Rattle.c_reader.specs.declared.grammar.Specifiers.{Specifiers}
use Rattle.c_reader.specs.declared.found.Found.{Found}
use Rattle.c_reader.specs.Specifiers.{specifier_step, nothing_read}

abbrev pub specifiers_from : (f : File) (seen : Declared) → (n : Inner) → (context : Context) → ℕ → Found → Option Specifiers
specifiers_from f seen n context i s = repeated (specifier_step f seen n context) nothing_read (length f.tokens) i s

pub specifiers_from-done : (f : File) (seen : Declared) (n : Inner) (context : Context) (i : ℕ) (s : Found) (r : Option Specifiers) → i < length f.tokens → specifier_step f seen n context i s ≡ Done r → specifiers_from f seen n context i s ≡ r
specifiers_from-done f seen n context i s r lt e = repeated_done (specifier_step f seen n context) nothing_read (length f.tokens) i s r lt e

pub specifiers_from-more : (f : File) (seen : Declared) (n : Inner) (context : Context) (i j : ℕ) (s t : Found) → i < length f.tokens → i < j → specifier_step f seen n context i s ≡ More t j → specifiers_from f seen n context i s ≡ specifiers_from f seen n context j t
specifiers_from-more f seen n context i j s t lt further e = repeated_more (specifier_step f seen n context) nothing_read (length f.tokens) i j s t lt further e

pub specifiers_from-stop : (f : File) (seen : Declared) (n : Inner) (context : Context) (i : ℕ) (s : Found) → length f.tokens ≤ i → specifiers_from f seen n context i s ≡ nothing_read i s
specifiers_from-stop f seen n context i s le = repeated_stop (specifier_step f seen n context) nothing_read (length f.tokens) i s le

pub ruleset specifier_steps = (specifiers_from-done, specifiers_from-more, specifiers_from-stop)
