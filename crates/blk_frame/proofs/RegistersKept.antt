-- Where the end breaks no rule, each register that isn't declared is as at the entry.
use Rattle.std.proofs.Common.{◌≡◌, inl, inr, ℕ, zero, suc, ◌+◌, ◌-◌, ◌<◌, ◌≤◌, ◌==◌, ◌&&◌, ◌||◌, nat_lt, not, Bool, true, false, List, [], ◌∷◌, length, Option, None, Some, slice_get, is_some, if◌then◌else◌, refl, sym, ap, subst, ◌∙◌, arith}
use Rattle.std.specs.List.{list_any}
use Rattle.std.specs.Int.{bit_at}
use Rattle.std.proofs.lemmas.Bool.{both_ways, cases_lt, and_from, and_parts, or_left, or_right, or_cases, eqb-true, ne_eqb, lt-ltb, le-ltb, false_from_ne_true}
use Rattle.asm_core.specs.Lists.{IsMember, count_from}
use Rattle.asm_core.specs.Reg.{reg_number, IsIn}
use Rattle.asm_core.specs.Company.{places_of, held_at}
use Rattle.asm_core.specs.Frame.{HoldsOutput}
use Rattle.asm_core.specs.Machine.{reg_in}
use Rattle.asm_core.specs.Placement.{spot_of, Fits, tie_root, is_output, IsAllowed}
use Rattle.asm_core.specs.Reading.Placed.{spot_place, placed_place}
use Rattle.asm_core.specs.Shape.{shapes_of}
use Rattle.asm_core.specs.WellFormed.{IsInterface}
use Rattle.asm_core.specs.declared.reg.Reg.{Reg}
use Rattle.asm_core.specs.declared.sym.Place.{Place}
use Rattle.asm_core.specs.declared.shape.Kind.{Kind}
use Rattle.asm_core.specs.declared.shape.Shape.{Shape}
use Rattle.asm_core.specs.declared.interface.AltIface.{AltIface}
use Rattle.asm_core.specs.declared.interface.OperandIface.{OperandIface}
use Rattle.asm_core.specs.declared.interface.Interface.{Interface}
use Rattle.asm_core.specs.declared.placement.Spot.{Spot}
use Rattle.asm_core.specs.declared.placement.Placement.{Placement}
use Rattle.asm_core.specs.declared.company.Places.{Places}
use Rattle.asm_core.specs.declared.machine.Machine.{Machine}
use Rattle.asm_core.proofs.MachineLaws.{reg_number_small}
use Rattle.asm_core.proofs.RegisterLaws.{same_reg}
use Rattle.asm_core.proofs.ShapeLaws.{is_shape}
use Rattle.blk_deps.specs.Cells.{reg_at, place_at, byte_cell, place_of, byte_of}
use Rattle.blk_deps.specs.Facts.{Facts}
use Rattle.blk_deps.specs.Operands.{numbers_in, is_output_at, in_register, in_memory, is_none_held, is_held, holds, holders, is_lone, is_input_place, is_own, is_root, has_own_register, has_address, is_operand_place, is_place}
use Rattle.blk_deps.specs.Rules.{is_undeclared, is_kept}
use Rattle.blk_frame.specs.Accepted.{EndsSound}
use Rattle.blk_frame.specs.Laws.{Holds, AreStates}
use Rattle.blk_frame.specs.Matches.{IsKept, IsBeside}
use Rattle.blk_frame.specs.Shown.{place_register, register_under, number_or, placed_by}
use Rattle.blk_frame.specs.World.{Placed}
use Rattle.blk_frame.proofs.Basics.{by_truth, byte_placed, same_some}
use Rattle.blk_frame.proofs.ByteWrites.{LiesIn, cell_place}
use Rattle.blk_frame.proofs.EndRules.{reg_back, place_kept}
use Rattle.blk_frame.proofs.HeldLaws.{same_register}
use Rattle.blk_frame.proofs.Members.{in_filter, from_filter}
use Rattle.blk_frame.proofs.Places.{place_small, there_below, lies_in}
use Rattle.blk_frame.proofs.PlacedOutputs.{held_value, root_untied}

-- ---- lists

record IsFound {A : Type 0} (test : A → Bool) (xs : List A) : Type 0 where
  item : A
  member : IsMember item xs
  holds : test item ≡ true

found : {A : Type 0} (test : A → Bool) (xs : List A) → list_any test xs ≡ true → IsFound test xs
found test [] is = cc
found test (x ∷ xs) is = elim (or_cases (test x) (list_any test xs) is) [
  | inl here ↦ record { item = x; member = inl refl; holds = here }
  | inr later ↦
      let rest = found test xs later in
      record { item = rest.item; member = inr rest.member; holds = rest.holds }
]

some_held : (j : ℕ) (js : List ℕ) → IsMember j js → is_none_held js ≡ false
some_held j [] is = absurd is
some_held j (k ∷ js) is = refl

-- ---- operands that have a place of their own

own_held : (k : ℕ) (places : Places) → is_own k places ≡ true → is_held (held_at (Place.Operand k) places) ≡ true
own_held k (Places.One (Place.Operand j)) is = rw is refl
own_held k (Places.One (Place.Reg r)) is = cc
own_held k Places.Pair is = cc

-- an operand in memory is of that kind
memory_kind : (s : Shape) (k : ℕ) → in_memory s k ≡ true → slice_get s.kinds k ≡ Some Kind.Memory
memory_kind s k is = by (slice_get s.kinds k) refl
  where
    by : (kind : Option Kind) → slice_get s.kinds k ≡ kind → kind ≡ Some Kind.Memory
    by None e = let no : false ≡ true = rw e at is in cc
    by (Some Kind.Register) e = let no : false ≡ true = rw e at is in cc
    by (Some Kind.Memory) e = refl
    by (Some Kind.Number) e = let no : false ≡ true = rw e at is in cc

in_no_register : (i : Interface) (o : OperandIface) (alt : AltIface) (k : ℕ) (spot : Spot) (r : Reg)
    → Fits i o alt Kind.Memory spot → place_register (spot_place k spot) ≡ Some r → ⊥
in_no_register i o alt k (Spot.Memory form) r fits is = cc
in_no_register i o alt k (Spot.Register q) r fits is = absurd fits
in_no_register i o alt k Spot.Pair r fits is = absurd fits
in_no_register i o alt k (Spot.Number n) r fits is = absurd fits

listed : {A : Type 0} (xs : List A) (from k : ℕ) → k < length xs → IsMember (from + k) (count_from from xs)
listed [] from k lt = absurd (omega (arith, lt))
listed (x ∷ xs) from zero lt = inl (omega arith)
listed (x ∷ xs) from (suc k) lt = inr (subst (λ n. IsMember n (count_from (from + 1) xs)) (omega arith)
    (listed xs (from + 1) k (omega (arith, lt))))

module _ (i : Interface) (s : Shape) (p : Placement) (interface : IsInterface i)
    (member : IsMember s (shapes_of i)) (allowed : IsAllowed i s p) where
  abbrev x : Placed
  x = placed_by i s p

  -- an operand in memory is in no register
  memory_apart : (k : ℕ) (r : Reg) → is_some (slice_get i.operands k) ≡ true → has_address i s k ≡ true
      → place_register (placed_place p (Place.Operand k)) ≡ Some r → ⊥
  memory_apart k r some address at = by_operand (slice_get i.operands k) refl some
    where
      by_operand : (o : Option OperandIface) → slice_get i.operands k ≡ o → is_some o ≡ true → ⊥
      by_operand None e is = cc
      by_operand (Some o) e is =
          let there = (is_shape i s interface member).each k o e in
          let parts = and_parts (in_memory s k) (is_root i s k) address in
          let root : tie_root i s k ≡ k = eqb-true (tie_root i s k) k parts.1 in
          let kind : slice_get s.kinds k ≡ Some Kind.Memory = memory_kind s k parts.0 in
          in_no_register i o there.allowed k (spot_of p k) r
          (allowed.fits k o there.allowed Kind.Memory
          (record { is_operand = e; is_alternative = there.is_allowed; is_kind = kind })
          (root_untied i s interface k k o there.allowed root e there.is_allowed)) at

  -- a place in a register that no operand holds is that register
  bare_register : (u : ℕ) (r : Reg) → is_place i s u ≡ true → register_under p u ≡ Some r
      → is_none_held (holders i s u) ≡ true → u < 7
  bare_register u r is at none = elim (cases_lt u 7) [
    | inl lt ↦ lt
    | inr le ↦ absurd (no_operand le)
  ]
    where
      no_operand : 7 ≤ u → ⊥
      no_operand le = elim (or_cases (has_own_register i s k) (has_address i s k) operand.1) [
        | inl own ↦
            let parts = and_parts (in_register s k && is_root i s k) (is_own k (places_of i s k)) own in
            let inside = (and_parts (in_register s k) (is_root i s k) parts.0).0 in
            let held : holds i s u k ≡ true = rw (inside, here) (own_held k (places_of i s k) parts.1) in
            both_ways _ (some_held k (holders i s u) (in_filter (holds i s u) (numbers_in i) k
            (subst (λ n. IsMember n (numbers_in i)) (omega arith)
            (listed i.operands 0 k (there_below i.operands k operand.0))) held)) none
        | inr address ↦ memory_apart k r operand.0 address
            (ap (λ q. place_register (placed_place p q)) (sym here) ∙ at)
      ] where
        k : ℕ
        k = u - 7

        here : place_at u ≡ Place.Operand k
        here = let gone : nat_lt u 7 ≡ false = le-ltb u 7 le in rw gone refl

        operand : (is_some (slice_get i.operands k) ≡ true) × ((has_own_register i s k || has_address i s k) ≡ true)
        operand = and_parts (is_some (slice_get i.operands k)) (has_own_register i s k || has_address i s k)
            (ap (λ b. b || is_operand_place i s k) (sym (le-ltb u 7 le)) ∙ is)

  -- the place is one of an output
  output_held : (u : ℕ) (r : Reg) → register_under p u ≡ Some r
      → list_any (is_output_at i) (holders i s u) ≡ true → HoldsOutput i p r
  output_held u r at some =
      let one = found (is_output_at i) (holders i s u) some in
      by one.item (from_filter (holds i s u) (numbers_in i) one.item one.member).1 (slice_get i.operands one.item) refl
      one.holds
    where
      by : (j : ℕ) → holds i s u j ≡ true → (o : Option OperandIface) → slice_get i.operands j ≡ o
          → elim o [ None ↦ false | Some q ↦ is_output q.role ] ≡ true → HoldsOutput i p r
      by j held None e is = cc
      by j held (Some q) e is = record {
        number = j;
        operand = q;
        is_operand = e;
        output = is;
        here = held_value i s interface p allowed u j r held at;
      }

  module _ (r : Reg) (no_output : HoldsOutput i p r → ⊥) (unclobbered : IsIn i.clobbers r → ⊥) where
    kept_place : (u : ℕ) → is_place i s u ≡ true → register_under p u ≡ Some r → is_kept i s u ≡ true
    kept_place u is at = by_truth (is_none_held (holders i s u)) bare held
      where
        bare : is_none_held (holders i s u) ≡ true → is_kept i s u ≡ true
        bare none =
            let low = bare_register u r is at none in
            let below : nat_lt u 7 ≡ true = lt-ltb u 7 low in
            let here : place_at u ≡ Place.Reg (reg_at u) = rw below refl in
            let same : reg_at u ≡ r = same_some (reg_at u) r (ap (λ q. place_register (placed_place p q)) (sym here)
            ∙ at) in
            let number : reg_number r ≡ u = ap reg_number (sym same) ∙ reg_back u low in
            let clear : (bit_at i.clobbers.0 u == 1) ≡ false = ne_eqb (bit_at i.clobbers.0 u) 1
            (λ one. unclobbered (subst (λ n. bit_at i.clobbers.0 n ≡ 1) (sym number) one)) in
            or_left (is_undeclared i s u) (is_input_place i s u)
            (and_from (is_lone i s u) (not (bit_at i.clobbers.0 u == 1)) (and_from _ _ below none) (ap not clear))

        held : is_none_held (holders i s u) ≡ false → is_kept i s u ≡ true
        held some =
            let none = false_from_ne_true (list_any (is_output_at i) (holders i s u))
            (λ output. no_output (output_held u r at output)) in
            or_right (is_undeclared i s u) (is_input_place i s u)
            (and_from (not (is_none_held (holders i s u))) (not (list_any (is_output_at i) (holders i s u)))
            (ap not some) (ap not none))

    module _ (facts : Facts) (sound : EndsSound i s facts) where
      -- a cell beside the register's is one of a kept place
      beside_kept : (b d : ℕ) → b < 4 → IsBeside x (byte_cell (reg_number r) b) d → IsKept x facts d
      beside_kept b d lt beside = by (register_under p (place_of d)) refl inside.1
        where
          inside : (is_place i s (place_of d) ≡ true) × (is_some (register_under p (place_of d)) ≡ true)
          inside = and_parts (is_place i s (place_of d)) (is_some (register_under p (place_of d)))
              (byte_placed x d beside.in_register)

          there : is_place i s (place_of d) ≡ true
          there = inside.0

          register_place : is_place i s (reg_number r) ≡ true
          register_place = ap (λ b. b || is_operand_place i s (reg_number r - 7))
              (lt-ltb (reg_number r) 7 (reg_number_small r))

          lies : LiesIn x (reg_number r) r
          lies = lies_in i s p interface (Place.Reg r) r register_place refl

          number : x.register_of (place_of d) ≡ reg_number r
          number = beside.register ∙ ap x.register_of (cell_place (reg_number r) b lt) ∙ lies.register

          kept : is_kept i s (place_of d) ≡ true → IsKept x facts d
          kept is =
              let low = place_small i s (place_of d) interface there in
              let same : byte_cell (place_of d) (byte_of d) ≡ d = omega arith in
              subst (IsKept x facts) same
              (place_kept i s (place_of d) (byte_of d) low (omega arith) facts sound p is)

          by : (own : Option Reg) → register_under p (place_of d) ≡ own → is_some own ≡ true → IsKept x facts d
          by None e is = cc
          by (Some q) e is =
              let at : number_or (Some q) ≡ reg_number r = ap number_or (sym e)
              ∙ sym (ap (λ b. if b then number_or (register_under p (place_of d)) else 7) there) ∙ number in
              kept (kept_place (place_of d) there (e ∙ ap Some (same_reg q r at)))

-- A register that holds no output and isn't clobbered is as at the entry where the end breaks no rule.
pub registers_kept : (i : Interface) (s : Shape) (p : Placement) (entry m : Machine) (facts : Facts) → IsInterface i
    → IsMember s (shapes_of i) → IsAllowed i s p → AreStates entry m → Holds (placed_by i s p) entry facts m
    → EndsSound i s facts → (r : Reg) → (HoldsOutput i p r → ⊥) → (IsIn i.clobbers r → ⊥)
    → reg_in r m ≡ reg_in r entry
registers_kept i s p entry m facts interface member allowed states holds sound r no_output unclobbered =
    same_register i s p entry m facts holds interface states r
    (beside_kept i s p interface member allowed r no_output unclobbered facts sound)
