-- What the facts say of registers, flags and addresses.
use Rattle.std.proofs.Common.{◌≡◌, inl, inr, ℕ, ◌+◌, ◌*◌, ◌%◌, ◌^◌, ◌<◌, ◌-◌, ◌||◌, Bool, true, false, List, [], ◌∷◌, ◌++◌, Option, None, Some, refl, sym, ap, subst, ◌∙◌, arith}
use Rattle.std.proofs.lemmas.Bool.{both_ways, and_from, lt-ltb, eq-eqb, or_left, or_right}
use Rattle.asm_core.specs.Lists.{IsMember}
use Rattle.asm_core.specs.Reg.{reg_number}
use Rattle.asm_core.specs.Flag.{flag_number, flag_in}
use Rattle.asm_core.specs.Function.{bit}
use Rattle.asm_core.specs.Machine.{reg_in}
use Rattle.asm_core.specs.Memory.{modulo, base_in, index_in, address_of}
use Rattle.asm_core.specs.Placement.{spot_of, form_registers}
use Rattle.asm_core.specs.Reading.Placed.{placed_place}
use Rattle.asm_core.specs.RowLaws.{Component}
use Rattle.asm_core.specs.WellFormed.{IsInterface}
use Rattle.asm_core.specs.declared.reg.Reg.{Reg}
use Rattle.asm_core.specs.declared.flag.Flag.{Flag}
use Rattle.asm_core.specs.declared.sym.Place.{Place}
use Rattle.asm_core.specs.declared.shape.Shape.{Shape}
use Rattle.asm_core.specs.declared.interface.Interface.{Interface}
use Rattle.asm_core.specs.declared.placement.Base.{Base}
use Rattle.asm_core.specs.declared.placement.Form.{Form}
use Rattle.asm_core.specs.declared.placement.Spot.{Spot}
use Rattle.asm_core.specs.declared.placement.Placement.{Placement}
use Rattle.asm_core.specs.declared.machine.Machine.{Machine}
use Rattle.asm_core.proofs.MachineLaws.{reg_number_small, word_small}
use Rattle.blk_deps.specs.Cells.{place_at, byte_cell, flag_cell, place_of}
use Rattle.blk_deps.specs.Facts.{Facts}
use Rattle.blk_deps.specs.Operands.{is_place, is_operand_place}
use Rattle.blk_deps.specs.declared.fact.Fact.TheVariants.{Overwrites}
use Rattle.blk_frame.specs.World.{Placed, World, is_address_byte, in_register_byte}
use Rattle.blk_frame.specs.Matches.{IsKept, IsBeside}
use Rattle.blk_frame.specs.Shown.{place_register, register_under, address_under, is_memory_place, is_numbered, placed_by, world_of}
use Rattle.blk_frame.specs.Laws.{Holds, AreStates}
use Rattle.blk_frame.proofs.Basics.{by_truth}
use Rattle.blk_frame.proofs.ByteWrites.{LiesIn, cell_in_register, cell_place, cell_byte}
use Rattle.blk_frame.proofs.Places.{place_back, place_small, lies_in}
use Rattle.blk_frame.proofs.Starts.{shadowed, entry_shows}
use Rattle.blk_frame.proofs.Ends.{kept_value, kept_byte, same_bytes}

same_bit : (a b : Bool) → bit a ≡ bit b → a ≡ b
same_bit true true e = refl
same_bit false false e = refl
same_bit true false e = absurd (omega (arith, e))
same_bit false true e = absurd (omega (arith, e))

in_numbered : (r : Reg) (rs : List Reg) → IsMember r rs → is_numbered (reg_number r) rs ≡ true
in_numbered r [] is = absurd is
in_numbered r (q ∷ rs) (inl same) = or_left _ _ (eq-eqb (reg_number q) (reg_number r) (ap reg_number (sym same)))
in_numbered r (q ∷ rs) (inr later) = or_right _ _ (in_numbered r rs later)

member_back : (r : Reg) (front back : List Reg) → IsMember r back → IsMember r (front ++ back)
member_back r [] back is = is
member_back r (q ∷ front) back is = inr (member_back r front back is)

module _ (i : Interface) (s : Shape) (p : Placement) (entry m : Machine) (facts : Facts)
    (holds : Holds (placed_by i s p) entry facts m) where
  abbrev x : Placed
  x = placed_by i s p

  pub same_flag : (f : Flag) → flag_number f < 6 → IsKept x facts (flag_cell f)
      → flag_in f m.flags ≡ flag_in f entry.flags
  same_flag f low kept = same_bit _ _ (sym (holds.shows.each (Component.FlagBit f) low)
      ∙ kept_value x (world_of x entry) (shadowed x entry) facts holds.world holds.matches (flag_cell f) kept
      ∙ (entry_shows x entry).each (Component.FlagBit f) low)

  module _ (interface : IsInterface i) (states : AreStates entry m) where
    same_word : (r : Reg) → ((b : ℕ) → b < 4
        → holds.world.registers (reg_number r) b ≡ (world_of x entry).registers (reg_number r) b)
        → reg_in r m ≡ reg_in r entry
    same_word r same = same_bytes (reg_in r m) (reg_in r entry) (word_small m r (record { words = states.now }))
        (word_small entry r (record { words = states.before }))
        (λ b lt. sym (holds.shows.each (Component.RegisterByte r b) lt) ∙ same b lt)

    register_place : (r : Reg) → is_place i s (reg_number r) ≡ true
    register_place r = ap (λ b. b || is_operand_place i s (reg_number r - 7))
        (lt-ltb (reg_number r) 7 (reg_number_small r))

    pub same_register : (r : Reg) → ((b d : ℕ) → b < 4 → IsBeside x (byte_cell (reg_number r) b) d → IsKept x facts d)
        → reg_in r m ≡ reg_in r entry
    same_register r kept = same_word r byte
      where
        lies : LiesIn x (reg_number r) r
        lies = lies_in i s p interface (Place.Reg r) r (register_place r) refl

        at_byte : (v : World) (b : ℕ) → b < 4
            → v.registers (reg_number r) b ≡ in_register_byte x (byte_cell (reg_number r) b) v
        at_byte v b lt =
            let place : x.register_of (place_of (byte_cell (reg_number r) b)) ≡ reg_number r = ap x.register_of
            (cell_place (reg_number r) b lt) ∙ lies.register in
            ap (λ q. v.registers q b) (sym place)
            ∙ ap (v.registers (x.register_of (place_of (byte_cell (reg_number r) b))))
            (sym (cell_byte (reg_number r) b lt))

        byte : (b : ℕ) → b < 4 → holds.world.registers (reg_number r) b ≡ (world_of x entry).registers (reg_number r) b
        byte b lt =
            at_byte holds.world b lt
            ∙ kept_byte x (world_of x entry) (shadowed x entry) facts holds.world holds.matches holds.tops
            (byte_cell (reg_number r) b) (cell_in_register x (reg_number r) r lies b lt)
            (λ d beside. kept b d lt beside)
            ∙ sym (at_byte (world_of x entry) b lt)

    module _ (k : ℕ) (form : Form) (is : is_place i s (7 + k) ≡ true) (spot : spot_of p k ≡ Spot.Memory form)
        (none : (b d : ℕ) → b < 4 → d < 37 → is_place i s d ≡ true → facts (Overwrites d (byte_cell (7 + k) b)) ≡ false)
      where
        in_memory : is_memory_place p (Place.Operand k) ≡ true
        in_memory = rw spot refl

        no_register : register_under p (7 + k) ≡ None
        no_register = ap (λ q. place_register (placed_place p q)) (place_back (Place.Operand k)) ∙ rw spot refl

        address_cell : (b : ℕ) → b < 4 → is_address_byte x (byte_cell (7 + k) b) ≡ true
        address_cell b lt =
            let low = place_small i s (7 + k) interface is in
            and_from _ _ (lt-ltb (byte_cell (7 + k) b) 148 (omega (arith, lt, low)))
            (ap x.is_address (cell_place (7 + k) b lt)
            ∙ and_from _ _ is (ap (is_memory_place p) (place_back (Place.Operand k)) ∙ in_memory))

        has_register : (r : Reg) → IsMember r (form_registers form) → x.has (7 + k) (reg_number r) ≡ true
        has_register r member =
            let at : address_under p (place_at (7 + k)) ≡ form_registers form = ap (address_under p)
            (place_back (Place.Operand k)) ∙ rw spot refl in
            and_from _ _ is (rw no_register (rw at (in_numbered r (form_registers form) member)))

        overwritten : (r : Reg) (b : ℕ) → b < 4 → (d : ℕ) → d < 37 → facts (Overwrites d (byte_cell (7 + k) b)) ≡ true
            → x.register_of d ≡ reg_number r → ⊥
        overwritten r b lt d dlt over same = by_truth (is_place i s d)
            (λ there. both_ways _ (none b d lt dlt there) over)
            (λ gone. let seven : 7 ≡ reg_number r = rw gone at same in let small = reg_number_small r in omega
            (arith, seven, small))

        form_register : (r : Reg) → IsMember r (form_registers form) → reg_in r m ≡ reg_in r entry
        form_register r member = same_word r (λ b lt.
            ap (holds.world.registers (reg_number r)) (sym (cell_byte (7 + k) b lt))
            ∙ holds.matches.addresses (byte_cell (7 + k) b) (reg_number r) (address_cell b lt)
            (ap (λ q. x.has q (reg_number r)) (cell_place (7 + k) b lt) ∙ has_register r member)
            (λ d dlt over same. overwritten r b lt d dlt over same)
            ∙ ap ((world_of x entry).registers (reg_number r)) (cell_byte (7 + k) b lt))

        pub same_address : m.esp ≡ entry.esp → address_of form m ≡ address_of form entry
        same_address esp = ap (λ n. (modulo form.disp 32 + n + index_in form.index m) % 2 ^ 32)
            (same_base form.base refl) ∙ ap (λ n. (modulo form.disp 32 + base_in form.base entry + n) % 2 ^ 32)
            (same_index form.index refl)
          where
            same_base : (base : Option Base) → form.base ≡ base → base_in form.base m ≡ base_in form.base entry
            same_base None e = rw e refl
            same_base (Some Base.Esp) e = rw e esp
            same_base (Some (Base.Reg r)) e = rw e
                (form_register r (subst (λ b. IsMember r (form_registers (record form { base = b }))) (sym e)
                (inl refl)))

            same_index : (index : Option (Reg × ℕ)) → form.index ≡ index
                → index_in form.index m ≡ index_in form.index entry
            same_index None e = rw e refl
            same_index (Some y) e = rw e (ap (λ v. v * y.1)
                (form_register y.0 (subst (λ n. IsMember y.0 (form_registers (record form { index = n }))) (sym e)
                (member_back y.0 _ (y.0 ∷ []) (inl refl)))))
