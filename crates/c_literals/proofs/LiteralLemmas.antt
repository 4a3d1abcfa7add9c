-- One byte of a literal.
use Rattle.std.proofs.Common.{◌≡◌, ℕ, zero, suc, ◌+◌, ◌-◌, ◌<◌, ◌≤◌, arith, sym, ap, append_assoc, ◌++◌, Option, Some, None, Result, Ok, Err, nat_lt, lt-ltb, Bool, true, false, List, [], ◌∷◌, drop, length, get_or, refl, ◌∙◌}
use Rattle.std.proofs.lemmas.List.{drop_more, drop_all, append-nil}
use Rattle.std.proofs.lemmas.Bool.{le-ltb}
use Rattle.c_literals.specs.declared.escape.Read.{Read}
use Rattle.c_literals.specs.declared.plain.Plain.{Plain}
use Rattle.c_literals.specs.declared.raw.Raw.{Raw}
use Rattle.c_literals.specs.Escapes.{read_at}
use Rattle.c_literals.specs.Literals.{with_raw, read_from}

-- what is read after these bytes
abbrev pub after : List Raw → Result (List Raw) ℕ → Result (List Raw) ℕ
after before (Ok rs) = Ok (before ++ rs)
after before (Err o) = Err o

pub after-first : (before : List Raw) (r : Raw) (read : Result (List Raw) ℕ) → after before (with_raw r read) ≡ after (before ++ r ∷ []) read
after-first before r (Ok rs) = ap Ok (sym (append_assoc before (r ∷ []) rs))
after-first before r (Err o) = refl

pub after-none : (read : Result (List Raw) ℕ) → after [] read ≡ read
after-none (Ok rs) = refl
after-none (Err o) = refl

-- the bytes of an escape are passed over
skip : (plain : Plain) (bs : List ℕ) (raws : List Raw) (until : ℕ) (k i : ℕ) → i + k ≡ until → until ≤ length raws → read_from plain bs until i (drop i raws) ≡ read_from plain bs until until (drop until raws)
unfolding read_from
skip plain bs raws until zero i e le = let same : i ≡ until = omega arith in rw same refl
skip plain bs raws until (suc k) i e le =
    let short : i < length raws = omega arith in
    let below : nat_lt i until ≡ true = lt-ltb i until (omega arith) in
    let next : i + 1 + k ≡ until = omega arith in
    rw (drop_more raws i (record { byte = 0; at = 0 }) short, below) (skip plain bs raws until k (i + 1) next le)

-- what the form at an index leads to
abbrev led_to : Plain → List ℕ → List Raw → ℕ → Raw → Option Read → Result (List Raw) ℕ
led_to plain bs raws i r None = Err r.at
led_to plain bs raws i r (Some x) = with_raw (record { byte = x.byte; at = r.at }) (read_from plain bs x.end (i + 1) (drop (i + 1) raws))

read-step : (plain : Plain) (bs : List ℕ) (raws : List Raw) (i : ℕ) (d : Raw) → i < length raws → read_from plain bs i i (drop i raws) ≡ led_to plain bs raws i (get_or raws i d) (read_at plain bs i)
unfolding read_from
read-step plain bs raws i d lt =
    let here : nat_lt i i ≡ false = le-ltb i i (omega arith) in
    rw (drop_more raws i d lt, here) (elim (read_at plain bs i) as (λ v. elim v [
      | None ↦ Err (get_or raws i d).at
      | Some x ↦ with_raw (record { byte = x.byte; at = (get_or raws i d).at }) (read_from plain bs x.end (i + 1) (drop (i + 1) raws))
    ] ≡ led_to plain bs raws i (get_or raws i d) v) [ None ↦ refl | Some x ↦ refl ])

pub read-none : (plain : Plain) (bs : List ℕ) (raws : List Raw) (i : ℕ) → length raws ≤ i → read_from plain bs i i (drop i raws) ≡ Ok []
unfolding read_from
read-none plain bs raws i le = rw (drop_all i raws le) refl

pub read-bad : (plain : Plain) (bs : List ℕ) (raws : List Raw) (i : ℕ) (d : Raw) → i < length raws → read_at plain bs i ≡ None → read_from plain bs i i (drop i raws) ≡ Err (get_or raws i d).at
read-bad plain bs raws i d lt is = read-step plain bs raws i d lt ∙ rw is refl

pub read-byte : (plain : Plain) (bs : List ℕ) (raws : List Raw) (i : ℕ) (d : Raw) (x : Read) → i < length raws → read_at plain bs i ≡ Some x → i < x.end → x.end ≤ length raws
    → read_from plain bs i i (drop i raws) ≡ with_raw (record { byte = x.byte; at = (get_or raws i d).at }) (read_from plain bs x.end x.end (drop x.end raws))
read-byte plain bs raws i d x lt is further le =
    read-step plain bs raws i d lt ∙ rw is (ap (with_raw (record { byte = x.byte; at = (get_or raws i d).at })) (skip plain bs raws x.end (x.end - (i + 1)) (i + 1) (omega arith) le))

pub ruleset read_steps = (after-first, after-none, append-nil, read-none, read-bad, read-byte)

-- a byte is read, and stands behind those before it
pub read_one : (plain : Plain) (bs : List ℕ) (raws : List Raw) (i : ℕ) (d : Raw) (x : Read) (r : Raw) (before later : List Raw) (whole : Result (List Raw) ℕ)
    → i < length raws → read_at plain bs i ≡ Some x → i < x.end → x.end ≤ length raws → r ≡ record { byte = x.byte; at = (get_or raws i d).at } → later ≡ before ++ r ∷ []
    → after before (read_from plain bs i i (drop i raws)) ≡ whole → after later (read_from plain bs x.end x.end (drop x.end raws)) ≡ whole
read_one plain bs raws i d x r before later whole lt is further le same grown so_far =
    let rest = read_from plain bs x.end x.end (drop x.end raws) in
    let step : after before (read_from plain bs i i (drop i raws)) ≡ after before (with_raw r rest) = rw (read-byte plain bs raws i d x lt is further le, same) refl in
    rw grown (sym (after-first before r rest) ∙ sym step ∙ so_far)
