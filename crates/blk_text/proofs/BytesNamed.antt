-- Where no instruction breaks U2, each byte that one of them names has a name under every allowed placement.
use Rattle.std.proofs.Common.{◌≡◌, inl, ℕ, suc, ◌+◌, ◌==◌, ◌&&◌, ◌||◌, ◌<◌, nat_lt, not, All, List, [], ◌∷◌, ◌++◌, length, Bool, true, false, cond, is_some, is_none, Option, None, Some, slice_get, refl, ap, sym, subst, ◌∙◌, eq-eqb, le-ltb, arith}
use Rattle.std.proofs.lemmas.Bool.{and_from, eqb-true}
use Rattle.std.proofs.lemmas.Option.{slice_get_within}
use Rattle.std.proofs.lemmas.List.Elements.{All-head, All-tail}
use Rattle.std.specs.List.{list_all, list_any}
use Rattle.asm_core.specs.Lists.{IsMember}
use Rattle.asm_core.specs.Roomy.{ShareRegister, place_registers}
use Rattle.asm_core.specs.Placement.{spot_of, tie_root, value_registers, address_registers, IsAllowed}
use Rattle.asm_core.specs.Company.{fixed_place, register_places, places_by, places_of}
use Rattle.asm_core.specs.Reading.Facts.{fixed_register, only_register, alternative_at, is_byte_slice}
use Rattle.asm_core.proofs.ReadingLaws.CutWhole.{first_true, both_true}
use Rattle.asm_core.proofs.ReadingLaws.NamesPrinted.{lacks_bytes, spot_lacks_bytes}
use Rattle.asm_core.proofs.ReadingLaws.PlacesThere.{is_free, has_own_place, is_arg_own, IsFit}
use Rattle.asm_core.proofs.ReadingLaws.TextThere.{is_arg_named, are_bytes_named}
use Rattle.asm_core.specs.declared.reg.Reg.{Reg}
use Rattle.asm_core.specs.declared.reg.Slice.{Slice}
use Rattle.asm_core.specs.declared.sym.Place.{Place}
use Rattle.asm_core.specs.declared.sym.Arg.{Arg}
use Rattle.asm_core.specs.declared.sym.Sym.{Sym}
use Rattle.asm_core.specs.declared.placement.Spot.{Spot}
use Rattle.asm_core.specs.declared.placement.Placement.{Placement}
use Rattle.asm_core.specs.declared.shape.Kind.{Kind}
use Rattle.asm_core.specs.declared.shape.Shape.{Shape}
use Rattle.asm_core.specs.declared.company.Places.{Places}
use Rattle.asm_core.specs.declared.interface.AltIface.{AltIface}
use Rattle.asm_core.specs.declared.interface.OperandIface.{OperandIface}
use Rattle.asm_core.specs.declared.interface.Interface.{Interface}
use Rattle.asm_core.specs.declared.lines.Graph.{Graph}
use Rattle.blk_deps.specs.Cells.{place_at}
use Rattle.blk_deps.specs.Operands.{in_register, is_own, is_root, has_own_register, is_operand_place, is_place}
use Rattle.blk_deps.specs.Rules.{is_byte_name, asks_byte_of}
use Rattle.blk_deps.specs.Start.{TellsSharing}
use Rattle.blk_text.specs.Text.{KeepsU2}

or_first : (a b : Bool) → a ≡ true → (a || b) ≡ true
or_first a b h = rw h refl

or_second : (a b : Bool) → b ≡ true → (a || b) ≡ true
or_second true b h = refl
or_second false b h = h

-- ---- the place of an operand

module _ (i : Interface) (s : Shape) (k : ℕ) where
  no_pair : (alt : AltIface) → is_none (fixed_register alt) ≡ true
      → register_places k alt ≡ Places.One (Place.Operand k)
  no_pair alt h = by alt.pair (alt.regs.0 == 0) h
    where
      other : (o : Option Reg) → is_none o ≡ true → Places.One (fixed_place k o) ≡ Places.One (Place.Operand k)
      other None h = refl
      other (Some r) h = cc

      by : (b c : Bool) → is_none (cond b (cond c (Some Reg.Eax) None) (only_register alt.regs)) ≡ true
          → cond (b && c) Places.Pair
          (Places.One (fixed_place k (cond b (cond c (Some Reg.Eax) None) (only_register alt.regs))))
          ≡ Places.One (Place.Operand k)
      by true true h = cc
      by true false h = refl
      by false c h = other (only_register alt.regs) h

  free_parts : (o : Option OperandIface) (alt : Option AltIface) (kind : Option Kind) → is_free o alt kind ≡ true
      → (is_some o ≡ true) × ((places_by k alt kind ≡ Places.One (Place.Operand k)) × (kind ≡ Some Kind.Register))
  free_parts None alt kind h = cc
  free_parts (Some o) None kind h = cc
  free_parts (Some o) (Some alt) None h = cc
  free_parts (Some o) (Some alt) (Some Kind.Register) h = (refl, (no_pair alt h, refl))
  free_parts (Some o) (Some alt) (Some Kind.Memory) h = cc
  free_parts (Some o) (Some alt) (Some Kind.Number) h = cc

  abbrev at_root : ℕ → Places
  at_root r = places_by r (alternative_at (slice_get i.operands r) s.alternative) (slice_get s.kinds r)

  own_parts : has_own_place i s k ≡ true
      → (is_some (slice_get i.operands k) ≡ true)
      × ((at_root k ≡ Places.One (Place.Operand k)) × (slice_get s.kinds k ≡ Some Kind.Register))
  own_parts own =
      free_parts (slice_get i.operands k) (alternative_at (slice_get i.operands k) s.alternative) (slice_get s.kinds k)
      (both_true (tie_root i s k == k) _ own)

  -- the operand is a place of the shape
  own_place : has_own_place i s k ≡ true → is_operand_place i s k ≡ true
  unfolding places_of
  own_place own =
      let root = eqb-true (tie_root i s k) k (first_true (tie_root i s k == k) _ own) in
      let parts = own_parts own in
      let here : is_own k (at_root k) ≡ true = subst (λ q. is_own k q ≡ true) (sym parts.1.0) (eq-eqb k k refl) in
      let at : is_own k (places_of i s k) ≡ true = subst (λ r. is_own k (at_root r) ≡ true) (sym root) here in
      let kind : in_register s k ≡ true = rw parts.1.1 refl in
      let rooted = and_from (in_register s k) (is_root i s k) kind (eq-eqb (tie_root i s k) k root) in
      let register = and_from (in_register s k && is_root i s k) (is_own k (places_of i s k)) rooted at in
      and_from (is_some (slice_get i.operands k)) _ parts.0 (or_first (has_own_register i s k) _ register)

  number_below : has_own_place i s k ≡ true → k < length i.operands
  number_below own =
      by (slice_get i.operands k) refl (own_parts own).0
    where
      by : (o : Option OperandIface) → slice_get i.operands k ≡ o → is_some o ≡ true → k < length i.operands
      by None e h = cc
      by (Some o) e h = slice_get_within i.operands k o e

operand_at : (k : ℕ) → place_at (7 + k) ≡ Place.Operand k
operand_at k = rw (le-ltb (7 + k) 7 (omega arith)) (ap Place.Operand (omega arith))

-- ---- a register that it may share

module _ (i : Interface) (s : Shape) (p : Placement) (allowed : IsAllowed i s p) (shares : ℕ → ℕ → Bool)
    (tells : TellsSharing i s shares) (k : ℕ) (own : has_own_place i s k ≡ true) where
  shares_it : (r : Reg) (n : ℕ) → spot_of p k ≡ Spot.Register r → nat_lt n 7 ≡ true → place_at n ≡ Place.Reg r
      → shares (7 + k) n ≡ true
  shares_it r n spot below at =
      let first : is_place i s (7 + k) ≡ true = or_second (nat_lt (7 + k) 7) _
      (subst (λ m. is_operand_place i s m ≡ true) (omega arith) (own_place i s k own)) in
      let here : IsMember r (place_registers p (Place.Operand k)) =
      subst (λ x. IsMember r (value_registers x ++ address_registers x)) (sym spot) (inl refl) in
      let there : IsMember r (place_registers p (Place.Reg r)) = inl refl in
      let shared : ShareRegister i s (place_at (7 + k)) (place_at n) p = record {
        allowed = allowed;
        register = r;
        in_first = subst (λ q. IsMember r (place_registers p q)) (sym (operand_at k)) here;
        in_second = subst (λ q. IsMember r (place_registers p q)) (sym at) there;
      } in
      (tells (7 + k) n).1 (record { first = first; second = or_first (nat_lt n 7) _ below; at = p; shared = shared })

  some_shared : spot_lacks_bytes (spot_of p k) ≡ true
      → (shares (7 + k) 4 || (shares (7 + k) 5 || shares (7 + k) 6)) ≡ true
  some_shared lacks = by (spot_of p k) refl lacks
    where
      by_register : (r : Reg) → spot_of p k ≡ Spot.Register r → lacks_bytes r ≡ true
          → (shares (7 + k) 4 || (shares (7 + k) 5 || shares (7 + k) 6)) ≡ true
      by_register Reg.Eax e h = cc
      by_register Reg.Ebx e h = cc
      by_register Reg.Ecx e h = cc
      by_register Reg.Edx e h = cc
      by_register Reg.Esi e h = or_first (shares (7 + k) 4) _ (shares_it Reg.Esi 4 e refl refl)
      by_register Reg.Edi e h =
          or_second (shares (7 + k) 4) _ (or_first (shares (7 + k) 5) _ (shares_it Reg.Edi 5 e refl refl))
      by_register Reg.Ebp e h =
          or_second (shares (7 + k) 4) _ (or_second (shares (7 + k) 5) _ (shares_it Reg.Ebp 6 e refl refl))

      by : (spot : Spot) → spot_of p k ≡ spot → spot_lacks_bytes spot ≡ true
          → (shares (7 + k) 4 || (shares (7 + k) 5 || shares (7 + k) 6)) ≡ true
      by (Spot.Register r) e h = by_register r e h
      by Spot.Pair e h = cc
      by (Spot.Memory form) e h = cc
      by (Spot.Number n) e h = cc

-- ---- operands of an instruction

byte_name : (slice : Slice) → is_byte_name slice ≡ is_byte_slice slice
byte_name Slice.Low8 = refl
byte_name Slice.High8 = refl
byte_name Slice.Low16 = refl
byte_name Slice.All = refl

module _ (i : Interface) (s : Shape) (p : Placement) where
  -- none of these operands names a byte that isn't there
  abbrev AsksNone : List Arg → Type 0
  AsksNone args =
      (k : ℕ) → has_own_place i s k ≡ true → list_any (asks_byte_of k) args ≡ true → spot_lacks_bytes (spot_of p k)
      ≡ true → ⊥

  part_named : (k : ℕ) (slice : Slice) (args : List Arg) → AsksNone (Arg.Register (Place.Operand k) slice ∷ args)
      → has_own_place i s k ≡ true
      → (byte lacks : Bool) → is_byte_slice slice ≡ byte → spot_lacks_bytes (spot_of p k) ≡ lacks
      → not (byte && lacks) ≡ true
  part_named k slice args none own false lacks eb el = refl
  part_named k slice args none own true false eb el = refl
  part_named k slice args none own true true eb el =
      let asks = and_from (k == k) (is_byte_name slice) (eq-eqb k k refl) (byte_name slice ∙ eb) in
      absurd (none k own (or_first (asks_byte_of k (Arg.Register (Place.Operand k) slice)) _ asks) el)

  arg_named : (arg : Arg) (args : List Arg) → AsksNone (arg ∷ args) → is_arg_own i s arg ≡ true
      → is_arg_named p arg ≡ true
  arg_named (Arg.Register (Place.Reg r) slice) args none own = refl
  arg_named (Arg.Register (Place.Operand k) slice) args none own =
      part_named k slice args none own (is_byte_slice slice) (spot_lacks_bytes (spot_of p k)) refl refl
  arg_named (Arg.Number n) args none own = refl
  arg_named (Arg.Hole k) args none own = refl
  arg_named (Arg.Memory k) args none own = refl
  arg_named (Arg.Address d base index) args none own = refl
  arg_named (Arg.Label n) args none own = refl

  args_named : (args : List Arg) → AsksNone args → list_all (is_arg_own i s) args ≡ true
      → list_all (is_arg_named p) args ≡ true
  args_named [] none own = refl
  args_named (arg ∷ args) none own =
      and_from (is_arg_named p arg) _ (arg_named arg args none (first_true (is_arg_own i s arg) _ own))
      (args_named args (λ k there asks. none k there (or_second (asks_byte_of k arg) _ asks))
      (both_true (is_arg_own i s arg) _ own))

  lines_named : (lines : List Sym) → All (IsFit i s p) lines
      → ((n : ℕ) (line : Sym) → slice_get lines n ≡ Some line → AsksNone line.args)
      → list_all (are_bytes_named p) lines ≡ true
  lines_named [] fit none = refl
  lines_named (line ∷ lines) fit none =
      and_from (are_bytes_named p line) _
      (args_named line.args (none 0 line refl) (All-head (IsFit i s p) line lines fit).own)
      (lines_named lines (All-tail (IsFit i s p) line lines fit) (λ n x e. none (suc n) x e))

-- where U2 isn't broken all bytes have names
pub bytes_named : (i : Interface) (s : Shape) (p : Placement) (shares : ℕ → ℕ → Bool) (g : Graph) → IsAllowed i s p
    → TellsSharing i s shares → KeepsU2 i shares g → All (IsFit i s p) g.insts
    → list_all (are_bytes_named p) g.insts ≡ true
bytes_named i s p shares g allowed tells keeps fit =
    lines_named i s p g.insts fit
    (λ n line e k own asks lacks. keeps.each n line k e (number_below i s k own)
    (and_from (list_any (asks_byte_of k) line.args) _ asks (some_shared i s p allowed shares tells k own lacks)))
