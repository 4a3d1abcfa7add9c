-- The stars of a declarator, and the parts behind its name.
use Rattle.std.proofs.Common.{◌≡◌, ℕ, ◌<◌, ◌≤◌, List, [], ◌∷◌, ◌++◌, length, refl, ap}
use Rattle.c_types.specs.declared.ctype.CType.{CType}
use Rattle.c_words.specs.File.{File}
use Rattle.c_reader.specs.declared.next.Next.TheVariants.{Done, More}
use Rattle.c_reader.specs.declared.pointers.Pointers.{Pointers}
use Rattle.c_reader.specs.declared.suffix.Suffix.{Suffix}
use Rattle.c_reader.specs.Repeat.{repeated}
use Rattle.c_reader.specs.Declarators.{pointer_step, pointers_end, pointed, suffixed, suffixed_by}
use Rattle.c_reader.proofs.RepeatLemmas.{repeated_done, repeated_more, repeated_stop}

abbrev pub pointers_from : File → ℕ → Pointers → Pointers
pointers_from f i p = repeated (pointer_step f) pointers_end (length f.tokens) i p

pub pointers-done : (f : File) (i : ℕ) (p r : Pointers) → i < length f.tokens → pointer_step f i p ≡ Done r → pointers_from f i p ≡ r
pointers-done f i p r lt e = repeated_done (pointer_step f) pointers_end (length f.tokens) i p r lt e

pub pointers-more : (f : File) (i j : ℕ) (p q : Pointers) → i < length f.tokens → i < j → pointer_step f i p ≡ More q j → pointers_from f i p ≡ pointers_from f j q
pointers-more f i j p q lt further e = repeated_more (pointer_step f) pointers_end (length f.tokens) i j p q lt further e

pub pointers-stop : (f : File) (i : ℕ) (p : Pointers) → length f.tokens ≤ i → pointers_from f i p ≡ pointed p i
pointers-stop f i p le = repeated_stop (pointer_step f) pointers_end (length f.tokens) i p le

pub ruleset pointer_steps = (pointers-done, pointers-more, pointers-stop)

-- ---- the parts behind the name, from the last to the first

pub suffixed_by-none : (t : CType) → suffixed_by [] t ≡ t
unfolding suffixed_by
suffixed_by-none t = refl

pub suffixed_by-last : (xs : List Suffix) (x : Suffix) (t : CType) → suffixed_by (xs ++ x ∷ []) t ≡ suffixed_by xs (suffixed x t)
unfolding suffixed_by
suffixed_by-last [] x t = refl
suffixed_by-last (y ∷ ys) x t = ap (suffixed y) (suffixed_by-last ys x t)

pub ruleset suffix_steps = (suffixed_by-none, suffixed_by-last)
