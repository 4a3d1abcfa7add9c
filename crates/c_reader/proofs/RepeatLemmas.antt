-- What one turn of a repetition gives.
use Rattle.std.proofs.Common.{◌≡◌, ℕ, zero, suc, ◌+◌, ◌-◌, ◌<◌, ◌≤◌, true, false, refl, ◌∙◌, arith, nat_lt, lt-ltb}
use Rattle.std.proofs.lemmas.Bool.{le-ltb}
use Rattle.c_reader.specs.declared.next.Next.{Next}
use Rattle.c_reader.specs.declared.next.Next.TheVariants.{Done, More}
use Rattle.c_reader.specs.Repeat.{repeated, repeated_from}

none_left : {S R : Type 0} → (step : ℕ → S → Next S R) (stop : ℕ → S → R) (k until i : ℕ) (s : S)
    → repeated_from step stop zero until i s ≡ repeated_from step stop (zero - k) until until s
unfolding repeated_from
none_left step stop k until i s = let nothing : 0 - k ≡ 0 = omega arith in rw nothing refl

-- the indices before `until` are passed over
passed : {S R : Type 0} → (step : ℕ → S → Next S R) (stop : ℕ → S → R) (k left until i : ℕ) (s : S) → i + k ≡ until
    → repeated_from step stop left until i s ≡ repeated_from step stop (left - k) until until s
unfolding repeated_from
passed step stop zero left until i s e = let same : i ≡ until = omega arith in let whole : left - 0 ≡ left = omega arith in rw (same, whole) refl
passed step stop (suc k) zero until i s e = none_left step stop (suc k) until i s
passed step stop (suc k) (suc left) until i s e =
    let below : nat_lt i until ≡ true = lt-ltb i until (omega arith) in
    let fewer : suc left - suc k ≡ left - k = omega arith in
    rw (below, fewer) (passed step stop k left until (i + 1) s (omega arith))

-- ---- one turn

turn_done : {S R : Type 0} → (step : ℕ → S → Next S R) (stop : ℕ → S → R) (left i : ℕ) (s : S) (r : R) → step i s ≡ Done r
    → repeated_from step stop (suc left) i i s ≡ r
unfolding repeated_from
turn_done step stop left i s r e = let here : nat_lt i i ≡ false = le-ltb i i (omega arith) in rw (here, e) refl

turn_more : {S R : Type 0} → (step : ℕ → S → Next S R) (stop : ℕ → S → R) (left i j : ℕ) (s t : S) → step i s ≡ More t j
    → repeated_from step stop (suc left) i i s ≡ repeated_from step stop left j (i + 1) t
unfolding repeated_from
turn_more step stop left i j s t e = let here : nat_lt i i ≡ false = le-ltb i i (omega arith) in rw (here, e) refl

turn_stop : {S R : Type 0} → (step : ℕ → S → Next S R) (stop : ℕ → S → R) (i : ℕ) (s : S) → repeated_from step stop zero i i s ≡ stop i s
unfolding repeated_from
turn_stop step stop i s = refl

-- the step ends the repetition
pub repeated_done : {S R : Type 0} → (step : ℕ → S → Next S R) (stop : ℕ → S → R) (count i : ℕ) (s : S) (r : R) → i < count → step i s ≡ Done r
    → repeated step stop count i s ≡ r
repeated_done step stop count i s r lt e =
    let some : count - i ≡ suc (count - i - 1) = omega arith in
    rw some (turn_done step stop (count - i - 1) i s r e)

-- it goes on
pub repeated_more : {S R : Type 0} → (step : ℕ → S → Next S R) (stop : ℕ → S → R) (count i j : ℕ) (s t : S) → i < count → i < j → step i s ≡ More t j
    → repeated step stop count i s ≡ repeated step stop count j t
repeated_more step stop count i j s t lt further e =
    let some : count - i ≡ suc (count - i - 1) = omega arith in
    let left : count - i - 1 - (j - i - 1) ≡ count - j = omega arith in
    let over : repeated_from step stop (count - i - 1) j (i + 1) t ≡ repeated_from step stop (count - i - 1 - (j - i - 1)) j j t =
    passed step stop (j - i - 1) (count - i - 1) j (i + 1) t (omega arith) in
    rw some (turn_more step stop (count - i - 1) i j s t e ∙ over ∙ rw left refl)

-- there is no token left
pub repeated_stop : {S R : Type 0} → (step : ℕ → S → Next S R) (stop : ℕ → S → R) (count i : ℕ) (s : S) → count ≤ i
    → repeated step stop count i s ≡ stop i s
repeated_stop step stop count i s le =
    let none : count - i ≡ 0 = omega arith in
    rw none (turn_stop step stop i s)
