-- One parameter of several.
use Rattle.std.proofs.Common.{◌≡◌, ℕ, ◌<◌, ◌≤◌, List, Option, length}
use Rattle.c_words.specs.File.{File}
use Rattle.c_scopes.specs.Seen.{Declared}
use Rattle.c_reader.specs.declared.next.Next.TheVariants.{Done, More}
use Rattle.c_reader.specs.Repeat.{repeated}
use Rattle.c_reader.specs.Grammar.{Inner}
use Rattle.c_reader.proofs.RepeatLemmas.{repeated_done, repeated_more, repeated_stop}
use Rattle.c_reader.specs.declared.grammar.Context.{Context}
use Rattle.c_reader.specs.declared.grammar.Parameter.{Parameter}
use Rattle.c_reader.specs.declared.grammar.Parameters.{Parameters}
use Rattle.c_reader.specs.Declarators.{parameters_step, no_parameters}

abbrev pub listed_from : (f : File) (seen : Declared) → (n : Inner) → (context : Context) → ℕ → List Parameter → Option Parameters
listed_from f seen n context i s = repeated (parameters_step f seen n context) no_parameters (length f.tokens) i s

pub listed_from-done : (f : File) (seen : Declared) (n : Inner) (context : Context) (i : ℕ) (s : List Parameter) (r : Option Parameters) → i < length f.tokens → parameters_step f seen n context i s ≡ Done r → listed_from f seen n context i s ≡ r
listed_from-done f seen n context i s r lt e = repeated_done (parameters_step f seen n context) no_parameters (length f.tokens) i s r lt e

pub listed_from-more : (f : File) (seen : Declared) (n : Inner) (context : Context) (i j : ℕ) (s t : List Parameter) → i < length f.tokens → i < j → parameters_step f seen n context i s ≡ More t j → listed_from f seen n context i s ≡ listed_from f seen n context j t
listed_from-more f seen n context i j s t lt further e = repeated_more (parameters_step f seen n context) no_parameters (length f.tokens) i j s t lt further e

pub listed_from-stop : (f : File) (seen : Declared) (n : Inner) (context : Context) (i : ℕ) (s : List Parameter) → length f.tokens ≤ i → listed_from f seen n context i s ≡ no_parameters i s
listed_from-stop f seen n context i s le = repeated_stop (parameters_step f seen n context) no_parameters (length f.tokens) i s le

pub ruleset listed_steps = (listed_from-done, listed_from-more, listed_from-stop)
