-- A step's end is a test of addresses before the step, then of the values that it uses.
use Rattle.std.proofs.Common.{◌≡◌, ℕ, zero, suc, ◌+◌, ◌-◌, ◌*◌, ◌/◌, ◌%◌, ◌^◌, nat_le, nat_lt, ◌&&◌, ◌||◌, not, List, [], ◌∷◌, Bool, true, false, if◌then◌else◌, Option, None, Some, refl, ap, ap₂, sym, ◌∙◌}
use Rattle.std.specs.List.{list_any, list_all}
use Rattle.asm_core.specs.Function.{bits_of}
use Rattle.asm_core.specs.Machine.{Layout, layouts_of, reg_in}
use Rattle.asm_core.specs.Memory.{address_of, is_open_to, lets_in, is_good_byte, is_good_access}
use Rattle.asm_core.specs.MicroOps.{Stepped, first_of, count_of, arg_at, read_in, values_of, is_good_arg, is_good_site, is_good_input, is_good_target, is_good_op, is_over, divides, takes_outside, next_of, moved, written, ended_by}
use Rattle.asm_core.specs.Steps.{Way, way_of, IsReachedAlike, Pair, SiteAlike, InputAlike, TargetAlike, AddressesAlike, IsAlike, EndsAlike}
use Rattle.asm_core.proofs.FactLaws.{names_decide}
use Rattle.asm_core.specs.declared.inst.Width.{Width}
use Rattle.asm_core.specs.declared.inst.Inst.{Inst}
use Rattle.asm_core.specs.declared.inst.InstArg.{InstArg}
use Rattle.asm_core.specs.declared.micro_op.Bytes.{Bytes}
use Rattle.asm_core.specs.declared.micro_op.Site.{Site}
use Rattle.asm_core.specs.declared.micro_op.Input.{Input}
use Rattle.asm_core.specs.declared.micro_op.Target.{Target}
use Rattle.asm_core.specs.declared.micro_op.MicroOp.{MicroOp}
use Rattle.asm_core.specs.declared.machine.Fault.{Fault}
use Rattle.asm_core.specs.declared.machine.Range.{Range}
use Rattle.asm_core.specs.declared.machine.Machine.{Machine}

-- ---- accesses

-- whether a range lets an access in is said by its layout
abbrev layout_lets_in : Option ℕ → Bool → ℕ → Layout → Bool
layout_lets_in through store a l = nat_le l.base a && nat_lt a (l.base + l.size) && is_open_to l.owner through && (not store || l.writable)

layouts_let_in : (through : Option ℕ) (store : Bool) (a : ℕ) (rs : List Range) → list_any (lets_in through store a) rs ≡ list_any (layout_lets_in through store a) (layouts_of rs)
layouts_let_in through store a [] = refl
layouts_let_in through store a (r ∷ rs) = ap (λ t. lets_in through store a r || t) (layouts_let_in through store a rs)

module _ (x : Pair) (alike : IsAlike x) where
  byte_alike : (through : Option ℕ) (store : Bool) (a : ℕ) → is_good_byte x.here through store a ≡ is_good_byte x.there through store a
  byte_alike through store a =
      ap₂ (λ b c. b && not c)
      (layouts_let_in through store a x.here.ranges ∙ ap (list_any (layout_lets_in through store a)) alike.layouts ∙ sym (layouts_let_in through store a x.there.ranges))
      (ap₂ (λ esp top. nat_lt ((a + 2 ^ 32 - (esp + 4 * top + 2 ^ 32 - 64) % 2 ^ 32) % 2 ^ 32) 64) alike.esp alike.depth)

  access_alike : (through : Option ℕ) (store : Bool) (n a : ℕ) → is_good_access x.here through store n a ≡ is_good_access x.there through store n a
  access_alike through store zero a = refl
  access_alike through store (suc n) a = ap₂ (λ b c. b && c) (byte_alike through store (a % 2 ^ 32)) (access_alike through store n (a + 1))

  reached_alike : (w : Width) (bytes : Bytes) (store : Bool) (a b : Option InstArg) → IsReachedAlike w bytes store a b x.here x.there → is_good_arg w bytes store a x.here ≡ is_good_arg w bytes store b x.there
  reached_alike w bytes store (Some (InstArg.Address form k)) (Some (InstArg.Address other j)) h =
      access_alike k store (count_of w bytes) (address_of form x.here + first_of bytes)
      ∙ ap₂ (λ a j. is_good_access x.there j store (count_of w bytes) (a + first_of bytes)) h.0 h.1
  reached_alike w bytes store (Some (InstArg.Address form k)) (Some (InstArg.Register r slice)) h = h
  reached_alike w bytes store (Some (InstArg.Address form k)) (Some (InstArg.Number n)) h = h
  reached_alike w bytes store (Some (InstArg.Address form k)) (Some (InstArg.Label n)) h = h
  reached_alike w bytes store (Some (InstArg.Address form k)) None h = h
  reached_alike w bytes store (Some (InstArg.Register r slice)) b h = h
  reached_alike w bytes store (Some (InstArg.Number n)) b h = h
  reached_alike w bytes store (Some (InstArg.Label n)) b h = h
  reached_alike w bytes store None b h = h

  site_alike : (store : Bool) (site : Site) → SiteAlike x store site → is_good_site x.first x.here store site ≡ is_good_site x.second x.there store site
  site_alike store (Site.Argument k bytes) h =
      reached_alike x.first.width bytes store (arg_at x.first k) (arg_at x.second k) h ∙ ap (λ w. is_good_arg w bytes store (arg_at x.second k) x.there) alike.width
  site_alike store (Site.Pointed r) h =
      access_alike None store (bits_of x.first.width / 8) (reg_in r x.here) ∙ ap₂ (λ w a. is_good_access x.there None store (bits_of w / 8) a) alike.width h
  site_alike store (Site.Register r bytes) h = refl
  site_alike store (Site.Flag f) h = refl

  input_alike : (a : Input) → InputAlike x a → is_good_input x.first x.here a ≡ is_good_input x.second x.there a
  input_alike (Input.Read site) h = site_alike false site h
  input_alike Input.Top h = ap (λ n. nat_lt 0 n) alike.depth
  input_alike (Input.Kept site) h = refl
  input_alike (Input.Address k) h = refl
  input_alike (Input.Undefined n) h = refl
  input_alike (Input.Outside k) h = refl
  input_alike (Input.Earlier k) h = refl
  input_alike (Input.Number n) h = refl

  target_alike : (t : Target) → TargetAlike x t → is_good_target x.first x.here t ≡ is_good_target x.second x.there t
  target_alike (Target.Site site) h = site_alike true site h
  target_alike (Target.Touch k) h = ap₂ (λ a b. a && b) (site_alike false (Site.Argument k Bytes.Whole) h.0) (site_alike true (Site.Argument k Bytes.Whole) h.1)
  target_alike Target.Push h = ap (λ n. nat_lt n 16) alike.depth
  target_alike Target.Pop h = ap (λ n. nat_lt 0 n) alike.depth
  target_alike t h = refl

  -- the accesses of a row are good in both states or in neither
  pub good_alike : (row : List MicroOp) → AddressesAlike x row → list_all (is_good_op x.first x.here) row ≡ list_all (is_good_op x.second x.there) row
  good_alike [] h = refl
  good_alike (op ∷ ops) h =
      ap₂ (λ a b. a && b)
      (ap₂ (λ a b. a && b) (ap₂ (λ a b. a && b) (ap₂ (λ a b. a && b) (input_alike op.x h.0) (input_alike op.y h.1.0)) (input_alike op.z h.1.1.0)) (target_alike op.target h.1.1.1.0))
      (good_alike ops h.1.1.1.1)

-- ---- the end

abbrev way_by : Bool → Bool → Bool → ℕ → ℕ → Way
way_by over good fails after next = if over then Way.Goes after else if not good then Way.Fails Fault.Access else if fails then Way.Fails Fault.Divide else Way.Goes next

way_is : (row : List MicroOp) (i : Inst) (goal : ℕ) (vs : List ℕ) (m : Machine) → way_of (ended_by row i goal vs m) ≡ way_by (is_over row vs) (list_all (is_good_op i m) row) (divides row vs) (m.at + 1) (next_of row vs goal m.at)
way_is row i goal vs m = by_tests (is_over row vs) (list_all (is_good_op i m) row) (divides row vs) (takes_outside row)
  where
    by_tests : (over good fails outside : Bool)
        → way_of (if over then Stepped.Moved (record m { at = m.at + 1 }) else if not good then Stepped.Faulted Fault.Access else if fails then Stepped.Faulted Fault.Divide else moved outside (written row i goal vs m))
        ≡ way_by over good fails (m.at + 1) (next_of row vs goal m.at)
    by_tests true good fails outside = refl
    by_tests false false fails outside = refl
    by_tests false true true outside = refl
    by_tests false true false true = refl
    by_tests false true false false = refl

pub ends_alike : (row : List MicroOp) (known : Input → Option ℕ) → EndsAlike row known
ends_alike row known x goal choice choice' words words' alike addresses knows knows' agrees =
    let ends = (names_decide row x.first.width known).ends (read_in x.first choice words x.here) (read_in x.second choice' words' x.there) knows knows' agrees in
    way_is row x.first goal (values_of x.first.width (read_in x.first choice words x.here) row) x.here
    ∙ together (is_over row (values_of x.first.width (read_in x.first choice words x.here) row)) _ (list_all (is_good_op x.first x.here) row) _ (divides row (values_of x.first.width (read_in x.first choice words x.here) row)) _
    (x.here.at + 1) _ (next_of row (values_of x.first.width (read_in x.first choice words x.here) row) goal x.here.at) _
    ends.0 (good_alike x alike row addresses) ends.1 (ap (λ n. n + 1) alike.at)
    (ends.2 goal x.here.at ∙ ap (next_of row (values_of x.first.width (read_in x.second choice' words' x.there) row) goal) alike.at)
    ∙ sym (way_is row x.second goal (values_of x.first.width (read_in x.second choice' words' x.there) row) x.there)
    ∙ ap (λ w. way_of (ended_by row x.second goal (values_of w (read_in x.second choice' words' x.there) row) x.there)) alike.width
  where
    together : (over over' good good' bad bad' : Bool) (after after' next next' : ℕ) → over ≡ over' → good ≡ good' → bad ≡ bad' → after ≡ after' → next ≡ next' → way_by over good bad after next ≡ way_by over' good' bad' after' next'
    together over over' good good' bad bad' after after' next next' a b c d e = cc
