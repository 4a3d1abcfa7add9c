-- At the entry the facts hold of the state, and each cell is the top of its byte.
use Rattle.std.proofs.Common.{◌≡◌, inl, inr, ℕ, ◌+◌, ◌-◌, ◌/◌, ◌%◌, ◌^◌, ◌<◌, ◌≤◌, ◌==◌, nat_lt, not, Bool, true, false, List, slice_index, refl, sym, ap, ◌∙◌, arith}
use Rattle.std.proofs.lemmas.Bool.{both_ways, cases_eq, eq-eqb, ne_eqb, eqb-true, lt-ltb, le-ltb, and_left}
use Rattle.asm_core.specs.Flag.{flag_number, flag_in}
use Rattle.asm_core.specs.Function.{bit}
use Rattle.asm_core.specs.RowLaws.{Component, component_in}
use Rattle.asm_core.specs.declared.flag.Flag.{Flag}
use Rattle.asm_core.specs.declared.shape.Shape.{Shape}
use Rattle.asm_core.specs.declared.interface.Interface.{Interface}
use Rattle.asm_core.specs.declared.machine.Machine.{Machine}
use Rattle.blk_deps.specs.Cells.{is_hand, flag_cell}
use Rattle.blk_deps.specs.Start.{at_entry}
use Rattle.blk_deps.specs.declared.fact.Property.TheVariants.{NotEntryOf}
use Rattle.blk_deps.specs.declared.fact.Fact.TheVariants.{Has, Overwrites}
use Rattle.blk_frame.specs.World.{Placed, World, is_register_byte}
use Rattle.blk_frame.specs.Matches.{IsShadowed, Matches, HasTop}
use Rattle.blk_frame.specs.Shown.{shown, IsSeen, Shows, plain_value, world_of}
use Rattle.blk_frame.proofs.Basics.{either_false}

as_bit : (n : ℕ) → n % 2 ≡ bit (n % 2 == 1)
as_bit n = elim (cases_eq (n % 2) 1) [
  | inl one ↦ rw (eq-eqb (n % 2) 1 one) one
  | inr other ↦ rw (ne_eqb (n % 2) 1 other) (omega (arith, other))
]

module _ (x : Placed) (m : Machine) where
  abbrev entry : World
  entry = world_of x m

  pub shadowed : IsShadowed x entry
  shadowed = record { each = λ c is. rw is refl }

  plain_cell : (c : ℕ) → 148 ≤ c → entry.cells c ≡ plain_value m c
  plain_cell c le = let none : is_register_byte x c ≡ false = and_left _ _ (le-ltb c 148 le) in rw none refl

  flag_shown : (f : Flag) → flag_number f < 6 → entry.cells (flag_cell f) ≡ bit (flag_in f m.flags)
  flag_shown f low =
      let below : nat_lt (flag_cell f) 154 ≡ true = lt-ltb (flag_cell f) 154 (omega (arith, low)) in
      let above : nat_lt (flag_cell f) 148 ≡ false = le-ltb (flag_cell f) 148 (omega arith) in
      let number : flag_cell f - 148 ≡ flag_number f = omega arith in
      plain_cell (flag_cell f) (omega arith)
      ∙ rw (below, above) (ap (λ n. m.flags.0 / 2 ^ n % 2) number ∙ as_bit (m.flags.0 / 2 ^ flag_number f))

  word_shown : (j : ℕ) → entry.cells (154 + j) ≡ slice_index m.scratch j
  word_shown j =
      let above : nat_lt (154 + j) 154 ≡ false = le-ltb (154 + j) 154 (omega arith) in
      plain_cell (154 + j) (omega arith) ∙ rw above (ap (slice_index m.scratch) (omega arith))

  pub entry_shows : Shows m entry
  entry_shows = record { each = each } where
    each : (c : Component) → IsSeen c → shown (world_of x m) c ≡ component_in c m
    each (Component.RegisterByte r j) seen = refl
    each (Component.FlagBit f) seen = flag_shown f seen
    each (Component.ScratchByte j) seen = word_shown j
    each (Component.WholeRegister r) seen = absurd seen
    each (Component.MemoryByte a) seen = absurd seen
    each Component.Depth seen = absurd seen
    each Component.Esp seen = absurd seen

  module _ (i : Interface) (live : List Shape) (s : Shape) where
    own : (c e : ℕ) → at_entry i live s (Has c (NotEntryOf e)) ≡ false → c ≡ e
    own c e none = eqb-true c e (double (c == e) (either_false (is_hand c) (not (c == e)) none).1)
      where
        double : (b : Bool) → not b ≡ false → b ≡ true
        double true h = refl
        double false h = absurd (both_ways true h refl)

    pub entry_matches : Matches x entry (at_entry i live s) entry
    entry_matches = record {
      here = refl;
      intact = λ c is sound. sym (shadowed.each c is);
      copies = λ c e good none. ap entry.cells (own c e none);
      addresses = λ c q is has sound. refl;
    }

    pub entry_tops : HasTop x (at_entry i live s)
    entry_tops = record {
      each = λ c is. (
        c,
        record { in_register = is; register = refl; byte = refl },
        λ d lt over.
            absurd (both_ways (at_entry i live s (Overwrites d c)) refl over),
      );
    }
