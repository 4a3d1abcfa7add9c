-- `"=rm"(y)`: an operand that is in memory in one shape and in a register in another one.
use Rattle.std.proofs.Common.{◌≡◌, inl, inr, ⊎_elim, ℕ, zero, suc, ◌+◌, ◌%◌, ◌^◌, ◌<◌, nat_le, nat_lt, ◌&&◌, pos, List, [], ◌∷◌, length, replicate, true, false, None, Some, slice_get, slice_index_or, refl, ap, sym, subst, ◌∙◌, arith}
use Rattle.std.proofs.lemmas.Bool.Decides.{nat_tests}
use Rattle.std.proofs.lemmas.Int.{ints}
use Rattle.asm_core.specs.Lists.{IsMember}
use Rattle.asm_core.specs.Machine.{IsMachine, IsRange, covers}
use Rattle.asm_core.specs.Placement.{spot_of, tie_root, Fits, HasOperand, IsForm, IsAllowed}
use Rattle.asm_core.specs.Entry.{IsChanging, HasObject, HoldsObjectByte, IsEntry}
use Rattle.asm_core.specs.Memory.{address_of}
use Rattle.asm_core.proofs.Examples.Machines.{fresh}
use Rattle.asm_core.proofs.Examples.Shapes.{interface, operand, shape, rm}
use Rattle.asm_core.proofs.Examples.Entries.{fresh_is_machine, all_below}
use Rattle.asm_core.specs.declared.reg.Reg.{Reg}
use Rattle.asm_core.specs.declared.shape.Kind.{Kind}
use Rattle.asm_core.specs.declared.shape.Shape.{Shape}
use Rattle.asm_core.specs.declared.interface.Role.{Role}
use Rattle.asm_core.specs.declared.interface.AltIface.{AltIface}
use Rattle.asm_core.specs.declared.interface.OperandIface.{OperandIface}
use Rattle.asm_core.specs.declared.interface.Interface.{Interface}
use Rattle.asm_core.specs.declared.placement.Form.{Form}
use Rattle.asm_core.specs.declared.placement.Spot.{Spot}
use Rattle.asm_core.specs.declared.placement.Placement.{Placement}
use Rattle.asm_core.specs.declared.machine.Range.{Range}
use Rattle.asm_core.specs.declared.machine.Machine.{Machine}

abbrev output : OperandIface
output = operand Role.Out (rm ∷ [])

abbrev writing : Interface
writing = interface (output ∷ [])

abbrev at : Spot → Placement
at spot = record { spots = spot ∷ replicate 29 (Spot.Number (pos 0)); count = 1 }

-- the absolute address 1048576
abbrev form : Form
form = record { disp = pos 1048576; base = None; index = None }

-- ---- both shapes have placements

of_operand : (kind found : Kind) (k : ℕ) (o : OperandIface) (alt : AltIface) → HasOperand writing (shape 0 (kind ∷ [])) k o alt found → (k ≡ 0) × (alt ≡ rm) × (found ≡ kind)
of_operand kind found zero o alt h =
    let same : output ≡ o = cc (h.is_operand) in
    let alternative : Some rm ≡ Some alt = ap (λ (x : OperandIface). slice_get x.alts 0) same ∙ h.is_alternative in
    (refl, cc, cc (h.is_kind))
of_operand kind found (suc k) o alt h = cc (h.is_operand)

only_operand : (k : ℕ) (o : OperandIface) → slice_get writing.operands k ≡ Some o → (k ≡ 0) × (output ≡ o)
only_operand zero o e = (refl, cc)
only_operand (suc k) o e = cc

untied : (kind : Kind) (k : ℕ) → tie_root writing (shape 0 (kind ∷ [])) k ≡ k
untied kind zero = refl
untied kind (suc k) = refl

allowed : (kind : Kind) (spot : Spot) → ((o : OperandIface) → Fits writing o rm kind spot) → IsAllowed writing (shape 0 (kind ∷ [])) (at spot)
allowed kind spot here = record {
  count = refl;
  fits = fits;
  ties = λ k. ap (spot_of (at spot)) (sym (untied kind k));
  outputs_apart = λ k j o q is_k is_j out_k out_j apart. absurd (apart ((only_operand k o is_k).0 ∙ sym (only_operand j q is_j).0));
  early_apart = λ k j o q alt found h is_j early apart. let wrong : false ≡ true = ap (λ (a : AltIface). a.early) (sym (of_operand kind found k o alt h).1) ∙ early in cc;
}
  where
    fits : (k : ℕ) (o : OperandIface) (alt : AltIface) (found : Kind) → HasOperand writing (shape 0 (kind ∷ [])) k o alt found → alt.tied ≡ None → Fits writing o alt found (spot_of (at spot) k)
    fits k o alt found h free =
        let c = of_operand kind found k o alt h in
        subst (λ n. Fits writing o alt found (spot_of (at spot) n)) (sym c.0)
        (subst (λ a. Fits writing o a found spot) (sym c.1) (subst (λ g. Fits writing o rm g spot) (sym c.2) (here o)))

in_register : IsAllowed writing (shape 0 (Kind.Register ∷ [])) (at (Spot.Register Reg.Ebp))
in_register = allowed Kind.Register (Spot.Register Reg.Ebp) (λ o. (refl, λ h. omega arith))

is_form : IsForm form
is_form = record { low = omega (arith, ints); high = omega (arith, ints); scale = λ x e. cc }

in_memory : IsAllowed writing (shape 0 (Kind.Memory ∷ [])) (at (Spot.Memory form))
in_memory = allowed Kind.Memory (Spot.Memory form) (λ o. (is_form, λ r member. absurd member))

changing : IsChanging writing 0
changing = record {
  in_memory = (shape 0 (Kind.Memory ∷ []), inr (inl refl), (at (Spot.Memory form), in_memory), refl);
  elsewhere = (shape 0 (Kind.Register ∷ []), inl refl, (at (Spot.Register Reg.Ebp), in_register), λ e. cc);
}

-- ---- in memory the object is a range of its own

abbrev owned_range : Range
owned_range = record { base = 1048576; bytes = 1 ∷ 2 ∷ 3 ∷ 4 ∷ []; writable = true; owner = Some 0 }

abbrev stored : Machine
stored = record fresh { ranges = owned_range ∷ [] }

abbrev memory_shape : Shape
memory_shape = shape 0 (Kind.Memory ∷ [])

abbrev memory_placement : Placement
memory_placement = at (Spot.Memory form)

one_range : (j : ℕ) (r : Range) → slice_get stored.ranges j ≡ Some r → j ≡ 0
one_range zero r e = refl
one_range (suc j) r e = cc

is_range : (k : ℕ) (d : Range) → k < 1 → IsRange (slice_index_or stored.ranges k d)
is_range zero d below = record { bytes = all_below 256 owned_range.bytes refl; within = omega arith }
is_range (suc k) d below = absurd (omega arith)

stored_is_machine : IsMachine stored
stored_is_machine = record {
  reg_count = refl;
  regs = fresh_is_machine.regs;
  esp = fresh_is_machine.esp;
  flags = fresh_is_machine.flags;
  ranges = is_range;
  apart = λ j k r q at_j at_k differ. absurd (differ (one_range j r at_j ∙ sym (one_range k q at_k)));
  scratch_count = refl;
  scratch = fresh_is_machine.scratch;
  pushed = fresh_is_machine.pushed;
  at = fresh_is_machine.at;
}

above_scratch : (a : ℕ) → a < 4096 → covers owned_range a ≡ false
above_scratch a below = let outside : nat_le 1048576 a ≡ false = grind (arith, nat_tests) in ap (λ b. b && nat_lt a 1048580) outside

covered : (j : ℕ) → j < 4 → covers owned_range ((1048576 + j) % 2 ^ 32) ≡ true
covered zero below = refl
covered (suc zero) below = refl
covered (suc (suc zero)) below = refl
covered (suc (suc (suc zero))) below = refl
covered (suc (suc (suc (suc j)))) below = absurd (omega arith)

object_at : (k : ℕ) (o : OperandIface) (address : ℕ) → HasObject writing memory_shape memory_placement stored k o address → address ≡ 1048576
object_at zero o address h =
    let same : form ≡ h.in_memory.0 = cc (h.in_memory.1) in
    h.in_memory.2 ∙ ap (λ f. address_of f stored) (sym same)
object_at (suc k) o address h = cc (h.is_operand)

the_byte : (o : OperandIface) (address j : ℕ) → output ≡ o → address ≡ 1048576 → j < o.size → HoldsObjectByte o ((address + j) % 2 ^ 32) (Some 0) stored.ranges
the_byte o address j same here below = record {
  range = owned_range;
  is_range = inl refl;
  holds = ap (λ n. covers owned_range ((n + j) % 2 ^ 32)) here ∙ covered j (subst (λ (x : OperandIface). j < x.size) (sym same) below);
  owned = refl;
  writable = λ out. refl;
}

the_object : HasObject writing memory_shape memory_placement stored 0 output 1048576
the_object = record { is_operand = refl; untied = refl; in_memory = (form, refl, refl) }

may_begin_in_memory : IsEntry writing memory_shape memory_placement stored
may_begin_in_memory = record {
  machine = stored_is_machine;
  start = refl;
  nothing_pushed = refl;
  direction = refl;
  scratch_within = omega arith;
  scratch_apart = λ r a member above below. subst (λ q. covers q a ≡ false) (sym (only_range r member)) (above_scratch a (omega arith));
  objects = objects;
  owned = owned;
}
  where
    only_range : (r : Range) → IsMember r stored.ranges → r ≡ owned_range
    only_range r (inl e) = e
    only_range r (inr e) = absurd e

    objects : (k : ℕ) (o : OperandIface) (address j : ℕ) → HasObject writing memory_shape memory_placement stored k o address → j < o.size
        → ((IsChanging writing k → ⊥) → HoldsObjectByte o ((address + j) % 2 ^ 32) None stored.ranges) × (IsChanging writing k → HoldsObjectByte o ((address + j) % 2 ^ 32) (Some k) stored.ranges)
    objects k o address j h below =
        let c = only_operand k o h.is_operand in
        let here = object_at k o address h in
        (λ still. absurd (still (subst (λ n. IsChanging writing n) (sym c.0) changing)), λ moves. subst (λ n. HoldsObjectByte o ((address + j) % 2 ^ 32) (Some n) stored.ranges) (sym c.0) (the_byte o address j c.1 here below))

    owned : (r : Range) (k : ℕ) → IsMember r stored.ranges → r.owner ≡ Some k → IsChanging writing k × ((o : OperandIface) × HasObject writing memory_shape memory_placement stored k o r.base × (length r.bytes ≡ o.size))
    owned r k member owner =
        let same = only_range r member in
        let is_owner : Some 0 ≡ Some k = sym (ap (λ (q : Range). q.owner) same) ∙ owner in
        let zeroth : k ≡ 0 = cc in (
          subst (λ n. IsChanging writing n) (sym zeroth) changing,
          (
            output,
            subst (λ n. HasObject writing memory_shape memory_placement stored n output r.base) (sym zeroth) (subst (λ (q : Range). HasObject writing memory_shape memory_placement stored 0 output q.base) (sym same) the_object),
            ap (λ (q : Range). length q.bytes) same,
          ),
        )

-- ---- states in which the block may not begin

-- with these ranges, the first byte of the object
first_byte : (rs : List Range) → IsEntry writing memory_shape memory_placement (record fresh { ranges = rs }) → HoldsObjectByte output 1048576 (Some 0) rs
first_byte rs h = (h.objects 0 output 1048576 0 (record { is_operand = refl; untied = refl; in_memory = (form, refl, refl) }) (omega arith)).1 changing

no_memory_there : IsEntry writing memory_shape memory_placement fresh → ⊥
no_memory_there h = (first_byte [] h).is_range

-- the object of an output can be written
not_writable : IsEntry writing memory_shape memory_placement (record fresh { ranges = record owned_range { writable = false } ∷ [] }) → ⊥
not_writable h =
    let b = first_byte (record owned_range { writable = false } ∷ []) h in
    ⊎_elim (λ e. let wrong : true ≡ false = sym (b.writable refl) ∙ ap (λ (r : Range). r.writable) e in cc) (λ none. none) b.is_range

-- the object of a changing operand is reached through it alone
not_its_own : IsEntry writing memory_shape memory_placement (record fresh { ranges = record owned_range { owner = None } ∷ [] }) → ⊥
not_its_own h =
    let b = first_byte (record owned_range { owner = None } ∷ []) h in
    ⊎_elim (λ e. let wrong : Some 0 ≡ None = sym b.owned ∙ ap (λ (r : Range). r.owner) e in cc) (λ none. none) b.is_range

-- an owned range is the object and nothing more
too_long : IsEntry writing memory_shape memory_placement (record fresh { ranges = record owned_range { bytes = 1 ∷ 2 ∷ 3 ∷ 4 ∷ 5 ∷ [] } ∷ [] }) → ⊥
too_long h =
    let found = (h.owned (record owned_range { bytes = 1 ∷ 2 ∷ 3 ∷ 4 ∷ 5 ∷ [] }) 0 (inl refl) refl).1 in
    let size : ◌≡◌ {A = ℕ} 5 4 = found.2 ∙ ap (λ (o : OperandIface). o.size) (sym (only_operand 0 found.0 found.1.is_operand).1) in
    omega arith
