-- How many bytes literals stand for.
use Rattle.std.proofs.Common.{◌≡◌, ℕ, ◌+◌, ◌-◌, ◌<◌, ◌≤◌, ◌==◌, arith, refl, sym, ap, ◌∙◌, Option, Some, None, Result, Ok, Err, nat_lt, lt-ltb, true, false, cond, List, [], ◌∷◌, drop, length, get_or, slice_index, IfSome}
use Rattle.std.proofs.lemmas.Bool.{le-ltb}
use Rattle.std.proofs.lemmas.List.{drop_more, drop_all}
use Rattle.c_tokens.specs.declared.token.Token.{Token}
use Rattle.c_tokens.specs.Cut.{IsOrdered}
use Rattle.c_literals.specs.declared.plain.Plain.{Plain}
use Rattle.c_literals.specs.declared.plain.Plain.TheVariants.{Every}
use Rattle.c_literals.specs.declared.raw.Raw.{Raw}
use Rattle.c_literals.specs.Raws.{bytes_of, raws_in}
use Rattle.c_literals.proofs.RawLemmas.{raws-few}
use Rattle.c_literals.specs.Escapes.{read_at}
use Rattle.c_literals.specs.Literals.{with_raw, read_from, read_all, unprefixed, length_read, string_length, added, total_length, capped_length}

-- how many bytes there are; none where there is no answer
abbrev pub count_of : Result (List Raw) ℕ → ℕ
count_of (Ok rs) = length rs
count_of (Err o) = 0

with_raw-few : (r : Raw) (read : Result (List Raw) ℕ) → count_of (with_raw r read) ≤ count_of read + 1
with_raw-few r (Ok rs) = omega arith
with_raw-few r (Err o) = omega arith

read-few : (plain : Plain) (bs : List ℕ) (until i : ℕ) (rs : List Raw) → count_of (read_from plain bs until i rs) ≤ length rs
unfolding read_from
read-few plain bs until i [] = omega arith
read-few plain bs until i (r ∷ rs) =
    elim (nat_lt i until) as (λ v. count_of (cond v (read_from plain bs until (i + 1) rs) (elim (read_at plain bs i) [
      | None ↦ Err r.at
      | Some x ↦ with_raw (record { byte = x.byte; at = r.at }) (read_from plain bs x.end (i + 1) rs)
    ])) ≤ length (r ∷ rs)) [
      | true ↦ (let rest = read-few plain bs until (i + 1) rs in omega (arith, rest))
      | false ↦ elim (read_at plain bs i) as (λ w. count_of (elim w [
        | None ↦ Err r.at
        | Some x ↦ with_raw (record { byte = x.byte; at = r.at }) (read_from plain bs x.end (i + 1) rs)
      ]) ≤ length (r ∷ rs)) [
        | None ↦ omega arith
        | Some x ↦ (let rest = read-few plain bs x.end (i + 1) rs in let one = with_raw-few (record { byte = x.byte; at = r.at }) (read_from plain bs x.end (i + 1) rs) in omega (arith, rest, one))
      ]
    ]

pub unprefixed-few : (quote : ℕ) (text : List ℕ) (t : Token) → count_of (unprefixed quote text t) ≤ t.span.to - t.span.from
unprefixed-few quote text t =
    let inside = raws-few (t.span.to - 1) (t.span.from + 1) (drop (t.span.from + 1) text) in
    let read = read-few Every (bytes_of (raws_in text t)) 0 0 (raws_in text t) in
    elim (slice_index text t.span.from == quote) as (λ v. count_of (cond v (read_all Every (raws_in text t)) (Err t.span.from)) ≤ t.span.to - t.span.from) [
      | true ↦ omega (arith, inside, read)
      | false ↦ omega arith
    ]

-- no byte more than there were
pub read_all-few : (plain : Plain) (raws rs : List Raw) → read_all plain raws ≡ Ok rs → length rs ≤ length raws
read_all-few plain raws rs is = let few = read-few plain (bytes_of raws) 0 0 raws in rw is at few

-- the length, or 0 where there is none
abbrev pub length_or : Option ℕ → ℕ
length_or (Some n) = n
length_or None = 0

length_read-few : (read : Result (List Raw) ℕ) → length_or (length_read read) ≡ count_of read
length_read-few (Ok rs) = refl
length_read-few (Err o) = refl

added-few : (m n : Option ℕ) → length_or (added m n) ≤ length_or m + length_or n
added-few None n = omega arith
added-few (Some m) None = omega arith
added-few (Some m) (Some n) = omega arith

-- tokens one behind the other stand for no more bytes than there are between the offsets
pub total-few : (text : List ℕ) (from : ℕ) (ts : List Token) (to : ℕ) → IsOrdered from ts to → from + length_or (total_length text ts) ≤ to
unfolding total_length
total-few text from [] to le = omega arith
total-few text from (t ∷ ts) to (first, some, rest) =
    let here : length_or (string_length text t) ≤ t.span.to - t.span.from = rw (length_read-few (unprefixed 34 text t)) (unprefixed-few 34 text t) in
    let behind = total-few text t.span.to ts to rest in
    let both = added-few (string_length text t) (total_length text ts) in
    omega (arith, here, behind, both)

capped-small : (total : Option ℕ) → length_or total < 4294967296 → capped_length total ≡ total
capped-small None lt = refl
capped-small (Some n) lt = let fits : nat_lt n 4294967296 ≡ true = lt-ltb n 4294967296 lt in rw fits refl

capped-few : (total : Option ℕ) → length_or (capped_length total) ≤ length_or total
capped-few None = omega arith
capped-few (Some n) = elim (nat_lt n 4294967296) as (λ v. length_or (cond v (Some n) None) ≤ n) [ true ↦ omega arith | false ↦ omega arith ]

if_some : (found : Option ℕ) (n : ℕ) → length_or found ≤ n → IfSome found (λ m. m ≤ n)
if_some None n le = tt
if_some (Some m) n le = le

pub concatenated-whole : (text : List ℕ) (ts : List Token) (found : Option ℕ) → found ≡ capped_length (total_length text ts) → IsOrdered 0 ts (length text) → length text < 4294967296
    → found ≡ total_length text ts
concatenated-whole text ts found is ordered short =
    let few = total-few text 0 ts (length text) ordered in
    is ∙ capped-small (total_length text ts) (omega (arith, few))

pub concatenated-few : (text : List ℕ) (ts : List Token) (found : Option ℕ) → found ≡ capped_length (total_length text ts) → IsOrdered 0 ts (length text)
    → IfSome found (λ n. n ≤ length text)
concatenated-few text ts found is ordered =
    let few = total-few text 0 ts (length text) ordered in
    let less = capped-few (total_length text ts) in
    if_some found (length text) (rw is (omega (arith, few, less)))

-- what one more literal adds
pub total-none : (text : List ℕ) (ts : List Token) (k : ℕ) (d : Token) (total : ℕ) (whole : Option ℕ) → k < length ts → None ≡ string_length text (get_or ts k d)
    → added (Some total) (total_length text (drop k ts)) ≡ whole → None ≡ capped_length whole
unfolding total_length
total-none text ts k d total whole lt none same = rw (← same, drop_more ts k d lt, ← none) refl

adds : (m n : ℕ) (rest : Option ℕ) → added (Some m) (added (Some n) rest) ≡ added (Some (m + n)) rest
adds m n None = refl
adds m n (Some k) = ap Some (omega arith)

too_many : (n : ℕ) (rest : Option ℕ) → 4294967296 ≤ n → None ≡ capped_length (added (Some n) rest)
too_many n None le = refl
too_many n (Some m) le = let past : nat_lt (n + m) 4294967296 ≡ false = le-ltb (n + m) 4294967296 (omega arith) in rw past refl

pub total-more : (text : List ℕ) (ts : List Token) (k : ℕ) (d : Token) (total n : ℕ) (whole : Option ℕ) → k < length ts → Some n ≡ string_length text (get_or ts k d)
    → added (Some total) (total_length text (drop k ts)) ≡ whole → added (Some (total + n)) (total_length text (drop (k + 1) ts)) ≡ whole
unfolding total_length
total-more text ts k d total n whole lt some same =
    sym (adds total n (total_length text (drop (k + 1) ts))) ∙ rw (drop_more ts k d lt, ← some) at same

pub total-great : (text : List ℕ) (ts : List Token) (k : ℕ) (d : Token) (total n : ℕ) (whole : Option ℕ) → k < length ts → Some n ≡ string_length text (get_or ts k d) → 4294967296 ≤ total + n
    → added (Some total) (total_length text (drop k ts)) ≡ whole → None ≡ capped_length whole
total-great text ts k d total n whole lt some great same =
    rw (← total-more text ts k d total n whole lt some same) (too_many (total + n) (total_length text (drop (k + 1) ts)) great)

pub total-done : (text : List ℕ) (ts : List Token) (k : ℕ) (total : ℕ) (whole : Option ℕ) → length ts ≤ k → total < 4294967296
    → added (Some total) (total_length text (drop k ts)) ≡ whole → Some total ≡ capped_length whole
unfolding total_length
total-done text ts k total whole le lt same =
    let fits : nat_lt (total + 0) 4294967296 ≡ true = lt-ltb (total + 0) 4294967296 (omega arith) in
    rw (← same, drop_all k ts le, fits) (ap Some (omega arith))
