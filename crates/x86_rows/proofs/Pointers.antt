-- A row that reads and writes nothing at an address in a register makes no access there.
use Rattle.std.proofs.Common.{◌≡◌, ℕ, ◌+◌, ◌<◌, ◌||◌, List, [], ◌∷◌, ◌++◌, Bool, true, false, if◌then◌else◌, None, Some, drop, length, get_or, refl, ap, sym, ◌∙◌, arith}
use Rattle.std.specs.List.{list_any, filter_map, cons_option}
use Rattle.std.proofs.lemmas.List.{drop_more}
use Rattle.asm_core.specs.Reg.{reg_number}
use Rattle.asm_core.specs.Entries.{site_origin, origin_rank, site_count, count_at, input_load, touched, target_store, op_access, row_access, access_at}
use Rattle.asm_core.specs.declared.reg.Reg.{Reg}
use Rattle.asm_core.specs.declared.inst.Width.{Width}
use Rattle.asm_core.specs.declared.sym.Sym.{Sym}
use Rattle.asm_core.specs.declared.row.Access.{Access}
use Rattle.asm_core.specs.declared.micro_op.Bytes.{Bytes}
use Rattle.asm_core.specs.declared.micro_op.Origin.{Origin}
use Rattle.asm_core.specs.declared.micro_op.Site.{Site}
use Rattle.asm_core.specs.declared.micro_op.Input.{Input}
use Rattle.asm_core.specs.declared.micro_op.Target.{Target}
use Rattle.asm_core.specs.declared.micro_op.MicroOp.{MicroOp}
use Rattle.x86_rows.specs.Entered.{is_pointed, at_pointer, input_points, target_points, points}
use Rattle.x86_rows.proofs.Halving.{test_apart}

below_seven : (r : Reg) → reg_number r < 7
below_seven Reg.Eax = omega arith
below_seven Reg.Ebx = omega arith
below_seven Reg.Ecx = omega arith
below_seven Reg.Edx = omega arith
below_seven Reg.Esi = omega arith
below_seven Reg.Edi = omega arith
below_seven Reg.Ebp = omega arith

no_count : (w : Width) (o : Origin) (site : Site) → (origin_rank (site_origin w site) ≡ origin_rank o → ⊥)
    → count_at w o site ≡ None
no_count w o site apart = ap (λ (t : Bool). if t then Some (site_count w site) else None)
    (test_apart (origin_rank (site_origin w site)) (origin_rank o) apart)

no_site : (w : Width) (r : Reg) (site : Site) → at_pointer site ≡ false → count_at w (Origin.Pointed r) site ≡ None
no_site w r (Site.Argument k bytes) other = no_count w (Origin.Pointed r) (Site.Argument k bytes) (λ same. omega arith)
no_site w r (Site.Register q bytes) other = let small = below_seven r in no_count w (Origin.Pointed r)
    (Site.Register q bytes) (λ same. omega arith)
no_site w r (Site.Flag f) other = let small = below_seven r in no_count w (Origin.Pointed r) (Site.Flag f)
    (λ same. omega arith)
no_site w r (Site.Pointed q) other = cc

no_input : (w : Width) (r : Reg) (x : Input) → input_points x ≡ false → input_load w (Origin.Pointed r) x ≡ None
no_input w r (Input.Read site) other = no_site w r site other
no_input w r x other = refl

no_touch : (w : Width) (r : Reg) (t : Target) → touched w (Origin.Pointed r) t ≡ None
no_touch w r (Target.Touch k) = no_site w r (Site.Argument k Bytes.Whole) refl
no_touch w r t = refl

no_target : (w : Width) (r : Reg) (t : Target) → target_points t ≡ false → target_store w (Origin.Pointed r) t ≡ None
no_target w r (Target.Site site) other = no_site w r site other
no_target w r (Target.Touch k) other = no_touch w r (Target.Touch k)
no_target w r t other = refl

neither_left : (a b : Bool) → (a || b) ≡ false → a ≡ false
neither_left true b h = cc
neither_left false b h = refl

neither_right : (a b : Bool) → (a || b) ≡ false → b ≡ false
neither_right true b h = cc
neither_right false b h = h

no_op : (store : Bool) (w : Width) (r : Reg) (op : MicroOp) → points op ≡ false
    → op_access store w (Origin.Pointed r) op ≡ None
no_op true w r op h = no_target w r op.target (neither_left (target_points op.target) _ h)
no_op false w r op h =
    let inputs = neither_right (target_points op.target) (input_points op.x || (input_points op.y || input_points op.z))
    h in
    let x = no_input w r op.x (neither_left (input_points op.x) (input_points op.y || input_points op.z) inputs) in
    let last = neither_right (input_points op.x) (input_points op.y || input_points op.z) inputs in
    let y = no_input w r op.y (neither_left (input_points op.y) (input_points op.z) last) in
    let z = no_input w r op.z (neither_right (input_points op.y) (input_points op.z) last) in
    rw (no_touch w r op.target) (rw x (rw y z))

no_row : (store : Bool) (w : Width) (r : Reg) (row : List MicroOp) → list_any points row ≡ false
    → row_access store w (Origin.Pointed r) row ≡ None
no_row store w r [] h = refl
no_row store w r (op ∷ ops) h =
    rw (no_op store w r op (neither_left (points op) (list_any points ops) h))
    (no_row store w r ops (neither_right (points op) (list_any points ops) h))

no_access : (store : Bool) (row : List MicroOp) (s : Sym) (o : Origin) → list_any points row ≡ false → is_pointed o
    ≡ true → access_at store row s o ≡ None
no_access store row s (Origin.Pointed r) none pointed = rw (no_row store s.width r row none) refl
no_access store row s o none pointed = cc

-- an origin at such an address is passed
pub pointer_passed : (store : Bool) (row : List MicroOp) (s : Sym) (all found : List Access) (items os : List Origin)
    (i : ℕ) (d : Origin) → items ≡ os
    → all ≡ found ++ filter_map (access_at store row s) (drop i os) → i < length items → false ≡ list_any points row
    → true ≡ is_pointed (get_or items i d)
    → all ≡ found ++ filter_map (access_at store row s) (drop (i + 1) os)
pointer_passed store row s all found items os i d same is within none pointed =
    is ∙ ap (λ os. found ++ filter_map (access_at store row s) (drop i os)) (sym same)
    ∙ ap (λ os. found ++ filter_map (access_at store row s) os) (drop_more items i d within)
    ∙ ap (λ x. found ++ cons_option x (filter_map (access_at store row s) (drop (i + 1) items)))
    (no_access store row s (get_or items i d) (sym none) (sym pointed))
    ∙ ap (λ os. found ++ filter_map (access_at store row s) (drop (i + 1) os)) same
