-- Places by their numbers.
use Rattle.std.proofs.Common.{◌≡◌, inl, inr, ℕ, zero, suc, ◌+◌, ◌-◌, ◌<◌, ◌≤◌, ◌||◌, ◌&&◌, ◌==◌, nat_lt, List, [], ◌∷◌, length, map, get_or, slice_get, is_some, Bool, true, false, refl, sym, ap, subst, ◌∙◌, arith, if◌then◌else◌}
use Rattle.std.proofs.lemmas.List.{length-map}
use Rattle.std.proofs.lemmas.Bool.{cases_eq, cases_lt, eq-eqb, ne_eqb, lt-ltb, le-ltb}
use Rattle.asm_core.specs.Reg.{reg_number}
use Rattle.asm_core.specs.Rows.{same_place}
use Rattle.asm_core.specs.Lists.{count_from}
use Rattle.asm_core.specs.Company.{held_at, pair_at, places_of, all_places}
use Rattle.asm_core.specs.declared.reg.Reg.{Reg}
use Rattle.asm_core.specs.declared.sym.Place.{Place}
use Rattle.asm_core.specs.declared.company.Places.{Places}
use Rattle.asm_core.specs.declared.company.Held.{Held}
use Rattle.asm_core.specs.declared.shape.Shape.{Shape}
use Rattle.asm_core.specs.declared.interface.Interface.{Interface}
use Rattle.blk_deps.specs.Cells.{place_number, place_at, reg_at}
use Rattle.std.proofs.Math.Bool.{or-false}
use Rattle.std.proofs.lemmas.Option.{slice_get_past}
use Rattle.asm_core.proofs.ShapeLaws.{inside_get}
use Rattle.blk_deps.specs.Operands.{is_held, holds, in_register, is_root, is_own, has_address, has_own_register, is_operand_place, is_place}
use Rattle.blk_deps.specs.Ground.{has_bit}
use Rattle.blk_deps.specs.Holding.{holds_at, is_of}
use Rattle.blk_deps.specs.declared.ground.registers.Of.{Of}
use Rattle.blk_deps.proofs.GroundBits.{bit_above}
use Rattle.blk_deps.proofs.Gathering.{counted_at, counted_length}

-- one by one
pub below_seven : (P : ℕ → Type 0) → P 0 → P 1 → P 2 → P 3 → P 4 → P 5 → P 6 → (n : ℕ) → n < 7 → P n
below_seven P a b c d e f g n lt = elim (cases_eq n 0) [
  | inl is ↦ subst P (sym is) a
  | inr n0 ↦ elim (cases_eq n 1) [
    | inl is ↦ subst P (sym is) b
    | inr n1 ↦ elim (cases_eq n 2) [
      | inl is ↦ subst P (sym is) c
      | inr n2 ↦ elim (cases_eq n 3) [
        | inl is ↦ subst P (sym is) d
        | inr n3 ↦ elim (cases_eq n 4) [
          | inl is ↦ subst P (sym is) e
          | inr n4 ↦ elim (cases_eq n 5) [
            | inl is ↦ subst P (sym is) f
            | inr n5 ↦ let is : n ≡ 6 = omega arith in subst P (sym is) g
          ]
        ]
      ]
    ]
  ]
]

pub lt_true : (a b : ℕ) → a < b → nat_lt a b ≡ true
lt_true a b lt = lt-ltb a b lt

pub lt_false : (a b : ℕ) → b ≤ a → nat_lt a b ≡ false
lt_false a b le = le-ltb a b le

pub is_register : (p : ℕ) → p < 7 → place_at p ≡ Place.Reg (reg_at p)
is_register p lt = ap (λ b. if b then Place.Reg (reg_at p) else Place.Operand (p - 7)) (lt_true p 7 lt)

pub is_operand : (p : ℕ) → 7 ≤ p → place_at p ≡ Place.Operand (p - 7)
is_operand p le = ap (λ b. if b then Place.Reg (reg_at p) else Place.Operand (p - 7)) (lt_false p 7 le)

number_of : (p : ℕ) → p < 7 → reg_number (reg_at p) ≡ p
number_of p lt = below_seven (λ n. reg_number (reg_at n) ≡ n) refl refl refl refl refl refl refl p lt

number_below : (r : Reg) → reg_number r < 7
number_below Reg.Eax = omega arith
number_below Reg.Ebx = omega arith
number_below Reg.Ecx = omega arith
number_below Reg.Edx = omega arith
number_below Reg.Esi = omega arith
number_below Reg.Edi = omega arith
number_below Reg.Ebp = omega arith

pub same_number : (p : ℕ) (q : Place) → same_place (place_at p) q ≡ (p == place_number q)
same_number p (Place.Reg r) = elim (cases_lt p 7) [
  | inl lt ↦ ap (λ x. same_place x (Place.Reg r)) (is_register p lt) ∙ ap (λ n. n == reg_number r) (number_of p lt)
  | inr le ↦ let below = number_below r in
      ap (λ x. same_place x (Place.Reg r)) (is_operand p le) ∙ sym (ne_eqb p (reg_number r) (omega arith))
]
same_number p (Place.Operand k) = elim (cases_lt p 7) [
  | inl lt ↦ ap (λ x. same_place x (Place.Operand k)) (is_register p lt) ∙ sym (ne_eqb p (7 + k) (omega arith))
  | inr le ↦ ap (λ x. same_place x (Place.Operand k)) (is_operand p le) ∙ shifted le
]
  where
    shifted : 7 ≤ p → ((p - 7) == k) ≡ (p == 7 + k)
    shifted le = elim (cases_eq p (7 + k)) [
      | inl same ↦ eq-eqb (p - 7) k (omega arith) ∙ sym (eq-eqb p (7 + k) same)
      | inr other ↦ ne_eqb (p - 7) k (λ e. other (omega arith)) ∙ sym (ne_eqb p (7 + k) other)
    ]

-- eax and edx
pub pair_bits : (p : ℕ) → has_bit 9 p ≡ is_held (pair_at (place_at p))
pair_bits p = elim (cases_lt p 7) [
  | inl lt ↦ below_seven (λ n. has_bit 9 n ≡ is_held (pair_at (place_at n))) refl refl refl refl refl refl refl p lt
  | inr le ↦ bit_above 9 4 p (omega arith) (omega arith) ∙ sym (ap (λ x. is_held (pair_at x)) (is_operand p le))
]

is_there : (b : Bool) → is_held (if b then Held.All else Held.Nothing) ≡ b
is_there true = refl
is_there false = refl

pub held_one : (p : ℕ) (q : Place) → is_held (held_at (place_at p) (Places.One q)) ≡ (p == place_number q)
held_one p q = is_there (same_place (place_at p) q) ∙ same_number p q

-- ---- an operand of the list

mapped_at : (f : ℕ → Places) (xs : List ℕ) (k : ℕ) (d : Places) → k < length xs
    → get_or (map f xs) k d ≡ f (get_or xs k 0)
mapped_at f [] k d lt = absurd (omega arith)
mapped_at f (x ∷ xs) zero d lt = refl
mapped_at f (x ∷ xs) (suc k) d lt = mapped_at f xs k d (let below : k < length xs = omega arith in below)

pub places_count : (i : Interface) (s : Shape) → length (all_places i s) ≡ length i.operands
places_count i s = length-map (count_from 0 i.operands) (places_of i s) ∙ counted_length i.operands 0

pub listed : (i : Interface) (s : Shape) (places : List Places) (k : ℕ) (d : Places) → places ≡ all_places i s
    → k < length places → get_or places k d ≡ places_of i s k
listed i s places k d is lt =
    let inside : k < length i.operands = omega (arith, ap length is, places_count i s) in
    let counted : k < length (count_from 0 i.operands) = omega (arith, counted_length i.operands 0) in
    ap (λ xs. get_or xs k d) is ∙ mapped_at (places_of i s) (count_from 0 i.operands) k d counted
    ∙ ap (places_of i s) (omega (arith, counted_at i.operands 0 k 0 inside))

pub holds_is : (i : Interface) (s : Shape) (p k : ℕ) → holds i s p k ≡ holds_at s k (places_of i s k) p
holds_is i s p k = go (in_register s k)
  where
    go : (b : Bool) → is_held (if b then held_at (place_at p) (places_of i s k) else Held.Nothing)
        ≡ (b && is_held (held_at (place_at p) (places_of i s k)))
    go true = refl
    go false = refl

-- the seven registers
pub first_seven : (p : ℕ) → has_bit 127 p ≡ nat_lt p 7
first_seven p = elim (cases_lt p 7) [
  | inl lt ↦ below_seven (λ n. has_bit 127 n ≡ nat_lt n 7) refl refl refl refl refl refl refl p lt
  | inr le ↦ bit_above 127 7 p (omega arith) le ∙ sym (lt_false p 7 le)
]

-- one more operand, of those that count
pub held_more : (i : Interface) (s : Shape) (of : Of) (places : List Places) (k : ℕ) (d : Places) (p : ℕ)
    (counted has next : Bool) → places ≡ all_places i s → k < length places
    → counted ≡ (is_of of i k && holds_at s k (get_or places k d) p) → next ≡ (has || counted)
    → next ≡ (has || (is_of of i k && holds i s p k))
held_more i s of places k d p counted has next is lt here joined =
    let same : holds_at s k (get_or places k d) p
    ≡ holds i s p k = ap (λ x. holds_at s k x p) (listed i s places k d is lt) ∙ sym (holds_is i s p k) in
    joined ∙ ap (λ b. has || b) (here ∙ ap (λ b. is_of of i k && b) same)

-- ---- the places of a shape

-- the registers, and the places of the first k operands
pub record ArePlacesBelow (i : Interface) (s : Shape) (has : ℕ → Bool) (k : ℕ) : Type 0 where
  pub each : (p : ℕ) → p < 64 → has p ≡ (nat_lt p 7 || (nat_lt p (7 + k) && is_operand_place i s (p - 7)))

pub places_start : (i : Interface) (s : Shape) → ArePlacesBelow i s (has_bit 127) 0
places_start i s = record { each = λ p within. first_seven p ∙ start p (is_operand_place i s (p - 7)) }
  where
    start : (p : ℕ) (b : Bool) → nat_lt p 7 ≡ (nat_lt p 7 || (nat_lt p 7 && b))
    start p b = go (nat_lt p 7)
      where
        go : (a : Bool) → a ≡ (a || (a && b))
        go true = refl
        go false = refl

operand_there : (i : Interface) (k : ℕ) → k < length i.operands → is_some (slice_get i.operands k) ≡ true
operand_there i k lt = let found = inside_get i.operands k lt in ap is_some found.1

nobody_there : (i : Interface) (k : ℕ) → length i.operands ≤ k → is_some (slice_get i.operands k) ≡ false
nobody_there i k le = ap is_some (slice_get_past i.operands k le)

pub places_more : (i : Interface) (s : Shape) (places : List Places) (k : ℕ) (d : Places) (has next : ℕ → Bool)
    (on : Bool) → places ≡ all_places i s → k < length places
    → on ≡ (((in_register s k && is_root i s k) && is_own k (get_or places k d)) || has_address i s k)
    → ArePlacesBelow i s has k
    → ((p : ℕ) → p < 64 → next p ≡ (has p || (p == 7 + k && on))) → ArePlacesBelow i s next (k + 1)
places_more i s places k d has next on is lt here so_far more = record
    { each = λ p within. more p within ∙ ap (λ b. b || (p == 7 + k && on)) (so_far.each p within) ∙ step p }
  where
    inside : k < length i.operands
    inside = omega (arith, ap length is, places_count i s)

    own : on ≡ is_operand_place i s k
    own = here ∙ ap (λ x. ((in_register s k && is_root i s k) && is_own k x) || has_address i s k)
        (listed i s places k d is lt)
        ∙ sym (ap (λ b. b && (has_own_register i s k || has_address i s k)) (operand_there i k inside))

    step : (p : ℕ) → ((nat_lt p 7 || (nat_lt p (7 + k) && is_operand_place i s (p - 7))) || (p == 7 + k && on))
        ≡ (nat_lt p 7 || (nat_lt p (7 + (k + 1)) && is_operand_place i s (p - 7)))
    step p = elim (cases_eq p (7 + k)) [
      | inl same ↦
          let other : p - 7 ≡ k = omega arith in
          rw (
            lt_false p 7 (omega arith),
            lt_false p (7 + k) (omega arith),
            lt_true p (7 + (k + 1)) (omega arith),
            eq-eqb p (7 + k) same,
          ) (own ∙ ap (is_operand_place i s) (sym other))
      | inr differ ↦ elim (cases_lt p (7 + k)) [
        | inl below ↦ rw (lt_true p (7 + k) below, lt_true p (7 + (k + 1)) (omega arith), ne_eqb p (7 + k) differ)
            (or-false _)
        | inr above ↦ rw (
          lt_false p 7 (omega arith),
          lt_false p (7 + k) above,
          lt_false p (7 + (k + 1)) (omega arith),
          ne_eqb p (7 + k) differ,
        ) refl
      ]
    ]

pub places_all : (i : Interface) (s : Shape) (has : ℕ → Bool) (k : ℕ) → length i.operands ≤ k → ArePlacesBelow i s has k
    → (p : ℕ) → p < 64 → has p ≡ is_place i s p
places_all i s has k le so_far p within = so_far.each p within ∙ end
  where
    end : (nat_lt p 7 || (nat_lt p (7 + k) && is_operand_place i s (p - 7)))
        ≡ (nat_lt p 7 || is_operand_place i s (p - 7))
    end = elim (cases_lt p (7 + k)) [
      | inl below ↦ rw (lt_true p (7 + k) below) refl
      | inr above ↦ rw (lt_false p (7 + k) above, nobody_there i (p - 7) (omega arith)) refl
    ]

-- the same of a test of one operand
pub tested_at : (i : Interface) (s : Shape) (of : Of) (places : List Places) (k : ℕ) (d : Places) (p : ℕ)
    (tested answer : Bool) → places ≡ all_places i s → k < length places
    → tested ≡ (is_of of i k && holds_at s k (get_or places k d) p) → tested ≡ answer
    → (is_of of i k && holds i s p k) ≡ answer
tested_at i s of places k d p tested answer is lt here e =
    ap (λ b. is_of of i k && b) (holds_is i s p k ∙ sym (ap (λ x. holds_at s k x p) (listed i s places k d is lt)))
    ∙ sym here ∙ e
