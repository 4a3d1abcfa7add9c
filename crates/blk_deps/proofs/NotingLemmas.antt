-- Least lines, as they come in, and the list of them.
use Rattle.std.proofs.Common.{◌≡◌, ◌≢◌, ◌⊎◌, inl, inr, ℕ, zero, suc, ◌+◌, ◌<◌, ◌≤◌, ◌==◌, ◌&&◌, ◌||◌, nat_lt, List, [], ◌∷◌, ◌++◌, append_assoc, map, drop, length, replicate, Bool, true, false, Option, None, Some, option_map, slice_get, slice_index, slice_set, get_or, if◌then◌else◌, refl, sym, ap, subst, ◌∙◌, arith}
use Rattle.std.proofs.lemmas.Bool.{cases_eq, cases_lt, ne_eqb, false≢true}
use Rattle.std.proofs.lemmas.Bool.Decides.{nat_tests}
use Rattle.std.proofs.lemmas.List.{length-set, get_or-set_same, get_or-set_other, length-map, get_or-map, length-replicate, get_or-replicate, drop_more, append-nil}
use Rattle.std.proofs.lemmas.Option.{slice_get-map, slice_get_within, get_or_from_slice_get, slice_get-get_or}
use Rattle.asm_core.specs.declared.finding.Finding.{Finding}
use Rattle.blk_deps.specs.Findings.{IsLeast, finding_of, AreFindings}
use Rattle.blk_deps.specs.StackTable.{IsLeastOf as IsLeastIn}
use Rattle.blk_deps.specs.Noting.{IsLeastOf, IsNotedTo, IsNoted, BreaksOn, is_earlier, entered, line_of, with_finding, findings_at, listed_of, AreLeast}
use Rattle.blk_deps.specs.declared.violation.Violation.{Violation}

-- ---- one entry

module _ {P : ℕ → Type 0} where
  pub same_entry : (e : ℕ) → ((line : ℕ) → P line → ⊥) → IsLeastOf P e e
  same_entry e none = record { from = λ some. inl refl; kept = λ some. (some, omega arith); least = λ line p. absurd (none line p) }

  pub entry_then : {Q : ℕ → Type 0} (a b c : ℕ) → IsLeastOf P a b → IsLeastOf Q b c → IsLeastOf (λ line. P line ⊎ Q line) a c
  entry_then {Q = Q} a b c one other = record { from = from; kept = kept; least = least }
    where
      earlier : (b ≡ a) ⊎ P b → c ≡ b → (c ≡ a) ⊎ (P c ⊎ Q c)
      earlier (inl same) is = inl (is ∙ same)
      earlier (inr p) is = inr (inl (subst P (sym is) p))

      from_last : c ≢ 0 → (c ≡ b) ⊎ Q c → (c ≡ a) ⊎ (P c ⊎ Q c)
      from_last some (inl is) = earlier (one.from (λ none. some (is ∙ none))) is
      from_last some (inr q) = inr (inr q)

      from : c ≢ 0 → (c ≡ a) ⊎ (P c ⊎ Q c)
      from some = from_last some (other.from some)

      below : (line : ℕ) → (b ≢ 0) × (b ≤ line) → (c ≢ 0) × (c ≤ line)
      below line is = let kept = other.kept is.0 in let first = kept.1 in let second = is.1 in (kept.0, omega (arith, first, second))

      kept : a ≢ 0 → (c ≢ 0) × (c ≤ a)
      kept some = below a (one.kept some)

      least : (line : ℕ) → P line ⊎ Q line → (c ≢ 0) × (c ≤ line)
      least line (inl p) = below line (one.least line p)
      least line (inr q) = other.least line q

  pub entry_as : {Q : ℕ → Type 0} (a b : ℕ) → ((line : ℕ) → P line → Q line) → ((line : ℕ) → Q line → P line) → IsLeastOf P a b → IsLeastOf Q a b
  entry_as {Q = Q} a b up down is = record { from = λ some. from (is.from some); kept = is.kept; least = λ line q. is.least line (down line q) }
    where
      from : (b ≡ a) ⊎ P b → (b ≡ a) ⊎ Q b
      from (inl same) = inl same
      from (inr p) = inr (up b p)

not_zero : (n : ℕ) → 0 < n → n ≢ 0
not_zero n lt is = omega (arith, lt, is)

-- a line comes to an entry, if the rule is broken there
pub one_entry : (b : Bool) (line e : ℕ) → 0 < line → IsLeastOf (λ at. (at ≡ line) × (b ≡ true)) e (if is_earlier line e && b then line else e)
one_entry b line e some_line = by b (is_earlier line e) refl
  where
    less : is_earlier line e ≡ true → e ≢ 0 → line < e
    less is some = grind (arith, nat_tests, is, some)

    there : is_earlier line e ≡ false → e ≢ 0
    there is none = grind (arith, nat_tests, is, none)

    more : is_earlier line e ≡ false → e ≤ line
    more is = grind (arith, nat_tests, is)

    by : (b early : Bool) → is_earlier line e ≡ early → IsLeastOf (λ at. (at ≡ line) × (b ≡ true)) e (if early && b then line else e)
    by false true is = same_entry e (λ line p. false≢true p.1)
    by false false is = same_entry e (λ line p. false≢true p.1)
    by true true is = record {
      from = λ some. inr (refl, refl);
      kept = λ some. (not_zero line some_line, let lt = less is some in omega (arith, lt));
      least = λ at p. (not_zero line some_line, let same = p.0 in omega (arith, same));
    }
    by true false is = record {
      from = λ some. inl refl;
      kept = λ some. (some, omega arith);
      least = λ at p. (there is, let same = p.0 in let le = more is in omega (arith, same, le));
    }

-- ---- all entries

module _ {P : Violation → ℕ → Type 0} {vs : List Violation} where
  pub noted_none : (xs : List ℕ) → ((v : Violation) (line : ℕ) → P v line → ⊥) → IsNoted P vs xs xs
  noted_none xs none = record { count = refl; each = λ t v at. same_entry (slice_index xs t) (none v) }

  pub noted_then : {Q : Violation → ℕ → Type 0} (old mid new : List ℕ) → IsNoted P vs old mid → IsNoted Q vs mid new
      → IsNoted (λ v line. P v line ⊎ Q v line) vs old new
  noted_then old mid new one other = record {
    count = other.count ∙ one.count;
    each = λ t v at. entry_then (slice_index old t) (slice_index mid t) (slice_index new t) (one.each t v at) (other.each t v at);
  }

  pub noted_as : {Q : Violation → ℕ → Type 0} (old new : List ℕ) → ((v : Violation) (line : ℕ) → P v line → Q v line) → ((v : Violation) (line : ℕ) → Q v line → P v line)
      → IsNoted P vs old new → IsNoted Q vs old new
  noted_as old new up down is = record {
    count = is.count;
    each = λ t v at. entry_as (slice_index old t) (slice_index new t) (up v) (down v) (is.each t v at);
  }

  pub noted_first : (xs : List ℕ) → IsNotedTo P vs 0 xs xs
  noted_first xs = record { same_length = refl; each = λ t v below at. absurd (omega (arith, below)); rest = λ t le. refl }

  pub noted_all : (k : ℕ) (old new : List ℕ) → length vs ≤ k → IsNotedTo P vs k old new → IsNoted P vs old new
  noted_all k old new le is = record {
    count = is.same_length;
    each = λ t v at. let inside = slice_get_within vs t v at in is.each t v (omega (arith, inside, le)) at;
  }

entered_length : (b : Bool) (t line : ℕ) (xs : List ℕ) → length (entered b t line xs) ≡ length xs
entered_length true t line xs = length-set xs t line
entered_length false t line xs = refl

entered_there : (b : Bool) (t line : ℕ) (xs : List ℕ) → t < length xs → slice_index (entered b t line xs) t ≡ (if b then line else slice_index xs t)
entered_there true t line xs inside = get_or-set_same xs t line 0 inside
entered_there false t line xs inside = refl

entered_other : (b : Bool) (t line u : ℕ) (xs : List ℕ) → u ≢ t → slice_index (entered b t line xs) u ≡ slice_index xs u
entered_other true t line u xs other = get_or-set_other xs t u line 0 other
entered_other false t line u xs other = refl

module _ (test : Violation → Bool) (line : ℕ) (some_line : 0 < line) (vs : List Violation) where
  pub noted_next : (k : ℕ) (v : Violation) (old mid new : List ℕ) (broken : Bool)
      → slice_get vs k ≡ Some v → k < length mid → broken ≡ (is_earlier line (slice_index mid k) && test v) → new ≡ entered broken k line mid
      → IsNotedTo (BreaksOn test line) vs k old mid → IsNotedTo (BreaksOn test line) vs (k + 1) old new
  noted_next k v old mid new broken at inside is makes so = record { same_length = same_length; each = each; rest = rest }
    where
      same_length : length new ≡ length old
      same_length = ap length makes ∙ entered_length broken k line mid ∙ so.same_length

      other : (t : ℕ) → t ≢ k → slice_index new t ≡ slice_index mid t
      other t differ = ap (λ xs. slice_index xs t) makes ∙ entered_other broken k line t mid differ

      here : slice_index new k ≡ (if is_earlier line (slice_index mid k) && test v then line else slice_index mid k)
      here = ap (λ xs. slice_index xs k) makes ∙ entered_there broken k line mid inside ∙ ap (λ b. if b then line else slice_index mid k) is

      entry : IsLeastOf (BreaksOn test line v) (slice_index old k) (slice_index new k)
      entry =
          subst (λ e. IsLeastOf (BreaksOn test line v) e (slice_index new k)) (so.rest k (omega arith))
          (subst (IsLeastOf (BreaksOn test line v) (slice_index mid k)) (sym here) (one_entry (test v) line (slice_index mid k) some_line))

      last : (t : ℕ) (w : Violation) → t ≡ k → slice_get vs t ≡ Some w → IsLeastOf (BreaksOn test line w) (slice_index old t) (slice_index new t)
      last t w same there = by w same_v
        where
          same_v : v ≡ w
          same_v = let one : Some v ≡ Some w = sym at ∙ ap (slice_get vs) (sym same) ∙ there in cc

          by : (w : Violation) → v ≡ w → IsLeastOf (BreaksOn test line w) (slice_index old t) (slice_index new t)
          by w is_v = subst (λ u. IsLeastOf (BreaksOn test line u) (slice_index old t) (slice_index new t)) is_v
              (subst (λ u. IsLeastOf (BreaksOn test line v) (slice_index old u) (slice_index new u)) (sym same) entry)

      each : (t : ℕ) (w : Violation) → t < k + 1 → slice_get vs t ≡ Some w → IsLeastOf (BreaksOn test line w) (slice_index old t) (slice_index new t)
      each t w below there = elim (cases_lt t k) [
        | inl lt ↦ subst (IsLeastOf (BreaksOn test line w) (slice_index old t)) (sym (other t (λ e. omega (arith, e, lt)))) (so.each t w lt there)
        | inr ge ↦ last t w (omega (arith, below, ge)) there
      ]

      rest : (t : ℕ) → k + 1 ≤ t → slice_index new t ≡ slice_index old t
      rest t le = other t (λ e. omega (arith, e, le)) ∙ so.rest t (omega (arith, le))

  -- those that aren't broken are passed over
  pub noted_over : (k next : ℕ) (old mid : List ℕ) → k ≤ next
      → ((t : ℕ) (v : Violation) → k ≤ t → t < next → slice_get vs t ≡ Some v → test v ≡ false)
      → IsNotedTo (BreaksOn test line) vs k old mid → IsNotedTo (BreaksOn test line) vs next old mid
  noted_over k next old mid le none so = record {
    same_length = so.same_length;
    each = each;
    rest = λ t past. so.rest t (omega (arith, le, past));
  }
    where
      each : (t : ℕ) (v : Violation) → t < next → slice_get vs t ≡ Some v
          → IsLeastOf (BreaksOn test line v) (slice_index old t) (slice_index mid t)
      each t v below at = elim (cases_lt t k) [
        | inl lt ↦ so.each t v lt at
        | inr ge ↦ subst (IsLeastOf (BreaksOn test line v) (slice_index old t)) (sym (so.rest t ge))
            (same_entry (slice_index old t) (λ on p. false≢true (sym (none t v ge below at) ∙ p.1)))
      ]

-- ---- the list

pub least_in : (P : ℕ → Type 0) (e : ℕ) → IsLeastOf P 0 e → IsLeastIn P (line_of e)
least_in P e is = elim (cases_eq e 0) [
  | inl none ↦ subst (λ n. IsLeastIn P (line_of n)) (sym none) (λ line p. (is.least line p).0 none)
  | inr some ↦ subst (IsLeastIn P) (sym (ap (λ b. if b then None else Some e) (ne_eqb e 0 some))) (least some)
]
  where
    seen : e ≢ 0 → (e ≡ 0) ⊎ P e → P e
    seen some (inl none) = absurd (some none)
    seen some (inr p) = p

    least : e ≢ 0 → IsLeast P e
    least some = record { broken = seen some (is.from some); least = λ earlier lt p. let le = (is.least earlier p).1 in omega (arith, lt, le) }

module _ (P : Violation → ℕ → Type 0) where
  are_rest : (v : Violation) (vs : List Violation) (line : Option ℕ) (lines : List (Option ℕ)) → AreLeast P (v ∷ vs) (line ∷ lines) → AreLeast P vs lines
  are_rest v vs line lines are = record { count = let count = are.count in omega (arith, count); each = λ t w found at there. are.each (suc t) w found at there }

  one_more : (v : Violation) (vs : List Violation) (line : Option ℕ) (found : List Finding) → IsLeastIn (P v) line → AreFindings P vs found
      → AreFindings P (v ∷ vs) (with_finding v line found)
  unfolding AreFindings
  one_more v vs None found none rest = inr (none, rest)
  one_more v vs (Some n) found least rest = inl (n, least, found, refl, rest)

  pub least_found : (vs : List Violation) (lines : List (Option ℕ)) → AreLeast P vs lines → AreFindings P vs (findings_at vs lines)
  unfolding AreFindings
  least_found [] lines are = refl
  least_found (v ∷ vs) [] are = absurd (let count = are.count in omega (arith, count))
  least_found (v ∷ vs) (line ∷ lines) are = one_more v vs line (findings_at vs lines) (are.each 0 v line refl refl) (least_found vs lines (are_rest v vs line lines are))

  pub found : (vs : List Violation) (entries : List ℕ) → IsNoted P vs (replicate (length vs) 0) entries → AreFindings P vs (listed_of vs entries)
  found vs entries noted = least_found vs (map line_of entries) (record { count = count; each = each })
    where
      as_many : length entries ≡ length vs
      as_many = noted.count ∙ length-replicate (length vs) 0

      count : length (map line_of entries) ≡ length vs
      count = length-map entries line_of ∙ as_many

      each : (t : ℕ) (v : Violation) (line : Option ℕ) → slice_get vs t ≡ Some v → slice_get (map line_of entries) t ≡ Some line → IsLeastIn (P v) line
      each t v line at there = subst (IsLeastIn (P v)) is (least_in (P v) (slice_index entries t) entry)
        where
          inside : t < length vs
          inside = slice_get_within vs t v at

          entry : IsLeastOf (P v) 0 (slice_index entries t)
          entry = subst (λ e. IsLeastOf (P v) e (slice_index entries t)) (get_or-replicate (length vs) t 0 0 inside) (noted.each t v at)

          mapped : slice_get (map line_of entries) t ≡ Some (line_of (slice_index entries t))
          mapped = slice_get-map line_of entries t ∙ ap (λ o. option_map line_of o) (slice_get-get_or entries t 0 (omega (arith, inside, as_many)))

          is : line_of (slice_index entries t) ≡ line
          is = let same : Some (line_of (slice_index entries t)) ≡ Some line = sym mapped ∙ there in cc

-- ---- the list as it is made

with_more : (v : Violation) (line : Option ℕ) (rest : List Finding) → with_finding v line rest ≡ with_finding v line [] ++ rest
with_more v None rest = refl
with_more v (Some line) rest = refl

pub line_at : (entries : List ℕ) (t entry : ℕ) → t < length entries → entry ≡ get_or entries t entry → line_of entry ≡ get_or (map line_of entries) t None
line_at entries t entry inside is =
    ap line_of (is ∙ get_or_from_slice_get entries t (get_or entries t 0) entry (slice_get-get_or entries t 0 inside))
    ∙ sym (get_or-map line_of entries t 0 None inside)

pub found_next : (vs : List Violation) (lines : List (Option ℕ)) (t : ℕ) (d : Violation) (line e : Option ℕ) (old new all : List Finding)
    → t < length vs → t < length lines → line ≡ get_or lines t e → old ++ findings_at (drop t vs) (drop t lines) ≡ all
    → new ≡ old ++ with_finding (get_or vs t d) line [] → new ++ findings_at (drop (t + 1) vs) (drop (t + 1) lines) ≡ all
found_next vs lines t d line e old new all inside there is so makes =
    let v = get_or vs t d in let rest = findings_at (drop (t + 1) vs) (drop (t + 1) lines) in
    ap (λ xs. xs ++ rest) makes ∙ append_assoc old (with_finding v line []) rest ∙ ap (λ xs. old ++ xs) (sym (with_more v line rest))
    ∙ ap (λ o. old ++ with_finding v o rest) is
    ∙ ap (λ xs. old ++ xs) (sym (ap (λ xs. findings_at xs (drop t lines)) (drop_more vs t d inside) ∙ ap (findings_at (v ∷ drop (t + 1) vs)) (drop_more lines t e there)))
    ∙ so
