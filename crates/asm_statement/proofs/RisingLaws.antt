-- The offsets of the bytes of literals and names go upwards.
use Rattle.std.proofs.Common.{◌≡◌, ℕ, ◌+◌, ◌-◌, ◌<◌, ◌≤◌, Bool, true, false, List, [], ◌∷◌, ◌++◌, map, drop, refl, sym, subst, arith, nat_lt, Option, Some, None, Result, Ok, Err, if◌then◌else◌, slice_index}
use Rattle.std.proofs.lemmas.List.{map-append}
use Rattle.std.proofs.lemmas.Bool.{ltb-true}
use Rattle.c_tokens.specs.declared.token.Token.{Token}
use Rattle.c_tokens.specs.Cut.{IsOrdered}
use Rattle.c_literals.specs.declared.raw.Raw.{Raw}
use Rattle.c_literals.specs.declared.escape.Read.{Read}
use Rattle.c_literals.specs.declared.plain.Plain.{Plain}
use Rattle.c_literals.specs.declared.plain.Plain.TheVariants.{Printable}
use Rattle.c_literals.specs.Raws.{is_splice, raws_from, raws_in, bytes_of}
use Rattle.c_literals.specs.Escapes.{read_at}
use Rattle.c_literals.specs.Literals.{with_raw, read_from, read_all}
use Rattle.asm_statement.specs.Source.{class_of}
use Rattle.asm_statement.specs.Literals.{raws_of}
use Rattle.asm_statement.specs.Templates.{is_prefixed, joined, literal_of, template_of}
use Rattle.asm_statement.specs.Laws.{IsRising}

abbrev pub offsets : List Raw → List ℕ
offsets raws = map (λ (r : Raw). r.at) raws

pub from_lower : (a b c : ℕ) (os : List ℕ) → a ≤ b → IsRising b os c → IsRising a os c
from_lower a b c [] le h = omega arith
from_lower a b c (o ∷ os) le h = (let low = h.0 in omega arith, h.1)

pub to_higher : (a b c : ℕ) (os : List ℕ) → b ≤ c → IsRising a os b → IsRising a os c
to_higher a b c [] le h = omega arith
to_higher a b c (o ∷ os) le h = (h.0, to_higher (o + 1) b c os le h.1)

pub one_after_other : (a b c : ℕ) (os ps : List ℕ) → IsRising a os b → IsRising b ps c → IsRising a (os ++ ps) c
one_after_other a b c [] ps h k = from_lower a b c ps h k
one_after_other a b c (o ∷ os) ps h k = (h.0, one_after_other (o + 1) b c os ps h.1 k)

-- ---- bytes as they stand

raws_if : (a to i b hi : ℕ) (rest : List Raw) (here splice : Bool) → nat_lt i to ≡ here → a ≤ i → a ≤ hi → to ≤ hi
    → ((c : ℕ) → c ≤ i + 1 → c ≤ hi → IsRising c (offsets rest) hi)
    → IsRising a (offsets (if here then (if splice then rest else (record { byte = b; at = i }) ∷ rest) else [])) hi
raws_if a to i b hi rest false splice test low le fits further = le
raws_if a to i b hi rest true true test low le fits further = further a (omega arith) le
raws_if a to i b hi rest true false test low le fits further =
    let short : i < to = ltb-true i to test in
    (low, further (i + 1) (omega arith) (omega arith))

pub raws_rise : (a to i hi : ℕ) (bs : List ℕ) → a ≤ i → a ≤ hi → to ≤ hi → IsRising a (offsets (raws_from to i bs)) hi
unfolding raws_from
raws_rise a to i hi [] low le fits = le
raws_rise a to i hi (b ∷ bs) low le fits =
    raws_if a to i b hi (raws_from to (i + 1) bs) (nat_lt i to) (is_splice b (slice_index bs 0)) refl low le fits
    (λ c more within. raws_rise c to (i + 1) hi bs more within fits)

-- what stands between a literal's quotes
raws_in_rise : (text : List ℕ) (t : Token) → t.span.from < t.span.to
    → IsRising t.span.from (offsets (raws_in text t)) t.span.to
raws_in_rise text t some =
    raws_rise t.span.from (t.span.to - 1) (t.span.from + 1) t.span.to (drop (t.span.from + 1) text) (omega arith)
    (omega arith) (omega arith)

pub raws_of_rise : (text : List ℕ) (a n : ℕ) (ts : List Token) → IsOrdered a ts n
    → IsRising a (offsets (raws_of text ts)) n
unfolding raws_of
raws_of_rise text a n [] o = o
raws_of_rise text a n (t ∷ ts) o =
    let here : IsRising a (offsets (raws_in text t)) t.span.to =
    from_lower a t.span.from t.span.to (offsets (raws_in text t)) o.0 (raws_in_rise text t o.1) in
    subst (λ (os : List ℕ). IsRising a os n) (sym (map-append (λ (r : Raw). r.at) (raws_in text t) (raws_of text ts)))
    (one_after_other a t.span.to n (offsets (raws_in text t)) (offsets (raws_of text ts)) here
    (raws_of_rise text t.span.to n ts o.2))

-- ---- bytes that literals stand for

-- those of an answer rise
abbrev pub DoRise : ℕ → Result (List Raw) ℕ → ℕ → Type 0
DoRise a (Ok raws) hi = IsRising a (offsets raws) hi
DoRise a (Err o) hi = Unit {0}

raw_first : (a hi byte at : ℕ) (r : Result (List Raw) ℕ) → a ≤ at → DoRise (at + 1) r hi
    → DoRise a (with_raw (record { byte = byte; at = at }) r) hi
raw_first a hi byte at (Ok rs) low h = (low, h)
raw_first a hi byte at (Err o) low h = tt

lower_ones : (a b hi : ℕ) (r : Result (List Raw) ℕ) → a ≤ b → DoRise b r hi → DoRise a r hi
lower_ones a b hi (Ok rs) le h = from_lower a b hi (offsets rs) le h
lower_ones a b hi (Err o) le h = tt

module _ (plain : Plain) (bs : List ℕ) where
  abbrev led_to : ℕ → Raw → List Raw → Option Read → Result (List Raw) ℕ
  led_to i r rs None = Err r.at
  led_to i r rs (Some x) = with_raw (record { byte = x.byte; at = r.at }) (read_from plain bs x.end (i + 1) rs)

  led_step : (until i : ℕ) (r : Raw) (rs : List Raw)
      → read_from plain bs until i (r ∷ rs) ≡ (if nat_lt i until then read_from plain bs until
      (i + 1) rs else led_to i r rs (read_at plain bs i))
  unfolding read_from
  led_step until i r rs = elim (read_at plain bs i) as (λ v. (if nat_lt i until then read_from plain bs until
      (i + 1) rs else elim v [
        | None ↦ Err r.at
        | Some x ↦ with_raw (record { byte = x.byte; at = r.at }) (read_from plain bs x.end (i + 1) rs)
      ]) ≡ (if nat_lt i until then read_from plain bs until
      (i + 1) rs else led_to i r rs v)) [ None ↦ refl | Some x ↦ refl ]

  led_rise : (a hi i : ℕ) (r : Raw) (rs : List Raw) (v : Option Read) → a ≤ r.at
      → ((u : ℕ) → DoRise (r.at + 1) (read_from plain bs u (i + 1) rs) hi) → DoRise a (led_to i r rs v) hi
  led_rise a hi i r rs None low rest = tt
  led_rise a hi i r rs (Some x) low rest = raw_first a hi x.byte r.at (read_from plain bs x.end (i + 1) rs) low
      (rest x.end)

  read_if : (a hi until i : ℕ) (r : Raw) (rs : List Raw) (s : Bool) → a ≤ r.at
      → ((u : ℕ) → DoRise (r.at + 1) (read_from plain bs u (i + 1) rs) hi)
      → DoRise a (if s then read_from plain bs until (i + 1) rs else led_to i r rs (read_at plain bs i)) hi
  read_if a hi until i r rs true low rest = lower_ones a (r.at + 1) hi (read_from plain bs until (i + 1) rs)
      (omega arith) (rest until)
  read_if a hi until i r rs false low rest = led_rise a hi i r rs (read_at plain bs i) low rest

  read_rise : (rs : List Raw) (a hi until i : ℕ) → IsRising a (offsets rs) hi
      → DoRise a (read_from plain bs until i rs) hi
  unfolding read_from
  read_rise [] a hi until i h = h
  read_rise (r ∷ rs) a hi until i h =
      subst (λ v. DoRise a v hi) (sym (led_step until i r rs))
      (read_if a hi until i r rs (nat_lt i until) h.0 (λ u. read_rise rs (r.at + 1) hi u (i + 1) h.1))

joined_rise : (a b c : ℕ) (r s : Result (List Raw) ℕ) → DoRise a r b → DoRise b s c → DoRise a (joined r s) c
joined_rise a b c (Err o) s h k = tt
joined_rise a b c (Ok rs) (Err o) h k = tt
joined_rise a b c (Ok rs) (Ok ss) h k =
    subst (λ (os : List ℕ). IsRising a os c) (sym (map-append (λ (r : Raw). r.at) rs ss)) (one_after_other a b c
    (offsets rs) (offsets ss) h k)

literal_if : (a hi o : ℕ) (r : Result (List Raw) ℕ) (prefixed : Bool) → DoRise a r hi
    → DoRise a (if prefixed then Err o else r) hi
literal_if a hi o r true h = tt
literal_if a hi o r false h = h

literal_rise : (text : List ℕ) (a : ℕ) (t : Token) → a ≤ t.span.from → t.span.from < t.span.to
    → DoRise a (literal_of text t) t.span.to
literal_rise text a t low some =
    literal_if a t.span.to t.span.from (read_all Printable (raws_in text t)) (is_prefixed (class_of text t))
    (read_rise Printable (bytes_of (raws_in text t)) (raws_in text t) a t.span.to 0 0
    (from_lower a t.span.from t.span.to (offsets (raws_in text t)) low (raws_in_rise text t some)))

pub template_rise : (text : List ℕ) (a n : ℕ) (ts : List Token) → IsOrdered a ts n → DoRise a (template_of text ts) n
unfolding template_of
template_rise text a n [] o = o
template_rise text a n (t ∷ ts) o =
    joined_rise a t.span.to n (literal_of text t) (template_of text ts) (literal_rise text a t o.0 o.1)
    (template_rise text t.span.to n ts o.2)
