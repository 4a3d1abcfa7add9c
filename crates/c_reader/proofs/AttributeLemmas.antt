-- Groups of attributes.
use Rattle.std.proofs.Common.{◌≡◌, ℕ, ◌<◌, ◌≤◌, length, refl}
use Rattle.c_words.specs.File.{File}
use Rattle.c_words.specs.Words.{past_group}
use Rattle.c_reader.specs.declared.attributes.Attributes.{Attributes}
use Rattle.c_reader.specs.declared.attributes.Asked.{Asked}
use Rattle.c_reader.specs.declared.next.Next.TheVariants.{Done, More}
use Rattle.c_reader.specs.Attributes.{both, asked_by, asked_step, asked_stop, asked_until, attributes_from, attributes_step, asked_at_end}
use Rattle.c_reader.proofs.RepeatLemmas.{repeated_done, repeated_more, repeated_stop}

-- ---- one attribute more

pub asked-more : (f : File) (end i : ℕ) (asked : Attributes) → i < end → i < past_group f i
    → asked_until f end i asked ≡ asked_until f end (past_group f i) (both asked (asked_by f i))
asked-more f end i asked lt further =
    repeated_more (asked_step f) asked_stop end i (past_group f i) asked (both asked (asked_by f i)) lt further refl

pub asked-stop : (f : File) (end i : ℕ) (asked : Attributes) → end ≤ i → asked_until f end i asked ≡ asked
asked-stop f end i asked le = repeated_stop (asked_step f) asked_stop end i asked le

-- ---- one group more

pub attributes-done : (f : File) (asked : Attributes) (i : ℕ) (r : Asked) → i < length f.tokens
    → attributes_step f i asked ≡ Done r
    → attributes_from f asked i ≡ r
attributes-done f asked i r lt e = repeated_done (attributes_step f) asked_at_end (length f.tokens) i asked r lt e

pub attributes-more : (f : File) (asked more : Attributes) (i j : ℕ) → i < length f.tokens → i < j
    → attributes_step f i asked ≡ More more j
    → attributes_from f asked i ≡ attributes_from f more j
attributes-more f asked more i j lt further e = repeated_more (attributes_step f) asked_at_end
    (length f.tokens) i j asked more lt further e

pub attributes-stop : (f : File) (asked : Attributes) (i : ℕ) → length f.tokens ≤ i → attributes_from f asked i ≡ record { attributes = asked; end = i }
attributes-stop f asked i le = repeated_stop (attributes_step f) asked_at_end (length f.tokens) i asked le

pub ruleset asked_steps = (asked-more, asked-stop)

pub ruleset attribute_steps = (attributes-done, attributes-more, attributes-stop)
