-- One part behind a name of several.
use Rattle.std.proofs.Common.{◌≡◌, ℕ, ◌+◌, ◌<◌, ◌≤◌, List, Option, length, true, false, refl, arith}
use Rattle.c_words.specs.File.{File}
use Rattle.c_words.specs.Words.{word_at}
use Rattle.c_reader.specs.declared.next.Next.TheVariants.{Done, More}
use Rattle.c_reader.specs.Repeat.{repeated}
use Rattle.c_reader.specs.Grammar.{Inner}
use Rattle.c_reader.proofs.RepeatLemmas.{repeated_done, repeated_more, repeated_stop}
use Rattle.c_reader.specs.declared.grammar.Context.{Context}
use Rattle.c_reader.specs.declared.suffix.Suffix.{Suffix}
use Rattle.c_reader.specs.declared.suffix.Suffixes.{Suffixes}
use Rattle.c_reader.specs.Declarators.{suffix_step, no_suffixes, is_array_word, qualifier_step, qualifier_stop, behind_qualifiers}

abbrev pub suffixes_from : (f : File) → (n : Inner) → (context : Context) → ℕ → List Suffix → Option Suffixes
suffixes_from f n context i s = repeated (suffix_step f n context) no_suffixes (length f.tokens) i s

pub suffixes_from-done : (f : File) (n : Inner) (context : Context) (i : ℕ) (s : List Suffix) (r : Option Suffixes) → i < length f.tokens → suffix_step f n context i s ≡ Done r → suffixes_from f n context i s ≡ r
suffixes_from-done f n context i s r lt e = repeated_done (suffix_step f n context) no_suffixes (length f.tokens) i s r lt e

pub suffixes_from-more : (f : File) (n : Inner) (context : Context) (i j : ℕ) (s t : List Suffix) → i < length f.tokens → i < j → suffix_step f n context i s ≡ More t j → suffixes_from f n context i s ≡ suffixes_from f n context j t
suffixes_from-more f n context i j s t lt further e = repeated_more (suffix_step f n context) no_suffixes (length f.tokens) i j s t lt further e

pub suffixes_from-stop : (f : File) (n : Inner) (context : Context) (i : ℕ) (s : List Suffix) → length f.tokens ≤ i → suffixes_from f n context i s ≡ no_suffixes i s
suffixes_from-stop f n context i s le = repeated_stop (suffix_step f n context) no_suffixes (length f.tokens) i s le

pub ruleset suffixes_steps = (suffixes_from-done, suffixes_from-more, suffixes_from-stop)

qualifier-more : (f : File) (i : ℕ) → is_array_word (word_at f i) ≡ true → qualifier_step f i tt ≡ More tt (i + 1)
qualifier-more f i e = rw e refl

qualifier-done : (f : File) (i : ℕ) → is_array_word (word_at f i) ≡ false → qualifier_step f i tt ≡ Done i
qualifier-done f i e = rw e refl

pub qualifiers-done : (f : File) (i : ℕ) → i < length f.tokens → is_array_word (word_at f i) ≡ false → behind_qualifiers f i ≡ i
qualifiers-done f i lt e = repeated_done (qualifier_step f) qualifier_stop (length f.tokens) i tt i lt (qualifier-done f i e)

pub qualifiers-more : (f : File) (i : ℕ) → i < length f.tokens → is_array_word (word_at f i) ≡ true → behind_qualifiers f i ≡ behind_qualifiers f (i + 1)
qualifiers-more f i lt e = repeated_more (qualifier_step f) qualifier_stop (length f.tokens) i (i + 1) tt tt lt (omega arith) (qualifier-more f i e)

pub qualifiers-stop : (f : File) (i : ℕ) → length f.tokens ≤ i → behind_qualifiers f i ≡ i
qualifiers-stop f i le = repeated_stop (qualifier_step f) qualifier_stop (length f.tokens) i tt le

pub ruleset qualifier_steps = (qualifiers-done, qualifiers-more, qualifiers-stop)
