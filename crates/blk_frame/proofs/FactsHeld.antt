-- What the facts of a path say holds.
use Rattle.std.proofs.Common.{◌≡◌, inl, inr, ℕ, ◌-◌, ◌<◌, nat_lt, Bool, true, List, [], ◌∷◌, Option, None, Some, slice_get, slice_index, refl, sym, ap, subst, ◌∙◌}
use Rattle.std.proofs.lemmas.Bool.{lt-ltb}
use Rattle.asm_core.specs.Lists.{IsMember}
use Rattle.asm_core.specs.Reg.{reg_number}
use Rattle.asm_core.specs.Roomy.{place_registers}
use Rattle.asm_core.specs.declared.reg.Reg.{Reg}
use Rattle.asm_core.specs.declared.sym.Place.{Place}
use Rattle.asm_core.specs.declared.inst.Repeat.{Repeat}
use Rattle.asm_core.specs.declared.placement.Placement.{Placement}
use Rattle.asm_core.specs.Steps.{Stand}
use Rattle.asm_core.specs.declared.sym.Sym.{Sym}
use Rattle.asm_core.specs.declared.shape.Shape.{Shape}
use Rattle.asm_core.specs.declared.interface.Interface.{Interface}
use Rattle.asm_core.specs.declared.machine.Machine.{Machine}
use Rattle.x86_table.specs.TableLaws.{IsPlain, ObeysTable}
use Rattle.x86_table.proofs.EntryLaws.{obeys_table}
use Rattle.blk_deps.specs.Cells.{reg_at, place_at, hand_cell}
use Rattle.blk_deps.specs.Facts.{Facts, in_hand, after_reads, after_puts, after_moves}
use Rattle.blk_deps.specs.declared.fact.Property.TheVariants.{NotEntryOf}
use Rattle.blk_deps.specs.declared.fact.Fact.TheVariants.{Here}
use Rattle.blk_deps.specs.declared.step.Read.{Read}
use Rattle.blk_deps.specs.declared.step.Put.{Put}
use Rattle.blk_deps.specs.Line.{line_reads, line_puts}
use Rattle.blk_deps.specs.Start.{TellsSharing}
use Rattle.blk_deps.specs.Findings.{Setting, IsSetting, moved_by}
use Rattle.blk_frame.specs.Accepted.{facts_on}
use Rattle.blk_frame.specs.World.{ArePlaced}
use Rattle.blk_frame.specs.Shown.{placed_by, world_of}
use Rattle.blk_frame.specs.Lines.{IsStepOfLine}
use Rattle.blk_frame.specs.Laws.{Holds, IsTableStep, FactsHold}
use Rattle.blk_frame.proofs.Placings.{are_placed}
use Rattle.blk_frame.proofs.Starts.{shadowed, entry_shows, entry_matches, entry_tops}
use Rattle.blk_frame.proofs.Hands.{hand_is}
use Rattle.blk_frame.proofs.Turns.{HandsComputed, turn_matches}
use Rattle.blk_frame.proofs.Repeats.{computed_at, turn_writes, turn_reads, turn_apart}
use Rattle.blk_frame.proofs.LineSteps.{given, writable, next, next_shows, next_matches, next_top}
use Rattle.blk_frame.proofs.TableSteps.{table_step}
use Rattle.blk_frame.proofs.StackKept.{stack_kept}
use Rattle.blk_frame.proofs.EndRules.{reg_back, place_kept}
use Rattle.blk_frame.proofs.AccessRules.{not_overwritten}
use Rattle.blk_frame.proofs.PathRules.{end_sound, pass_sound}
use Rattle.blk_frame.proofs.HeldLaws.{same_flag, same_register, same_address}

module _ (table : ObeysTable) (i : Interface) (s : Shape) (shares : ℕ → ℕ → Bool) (depth : ℕ) (line : Sym) (x : Stand)
    (entry : Machine) (facts : Facts)
    (tells : TellsSharing i s shares) (step : IsTableStep i s depth line x)
    (holds : Holds (placed_by i s x.at) entry facts x.before) where
  of_line : IsStepOfLine i s x.at depth line x.before x.after
  of_line = table_step table i s depth line x step.interface step.placed step.of_shape step.plain step.stepped
      step.copies step.at_depth step.few step.room

  placed : ArePlaced (placed_by i s x.at) shares
  placed = are_placed i s x.at step.allowed shares tells

  holds_behind : Holds (placed_by i s x.at) entry
      (after_moves shares (line_reads i s depth line) (line_puts i s depth line) facts) x.after
  holds_behind = record {
    world = next i s x.at depth line x.before x.after of_line holds.world holds.shows;
    shows = next_shows i s x.at depth line x.before x.after of_line holds.world holds.shows;
    matches = next_matches i s x.at depth line x.before x.after of_line holds.world holds.shows shares placed
        (world_of (placed_by i s x.at) entry) (shadowed (placed_by i s x.at) entry) facts holds.matches;
    tops = next_top i s x.at depth line x.before x.after of_line holds.world holds.shows shares placed
        (world_of (placed_by i s x.at) entry) (shadowed (placed_by i s x.at) entry) facts holds.tops;
  }

-- ---- further turns

here_kept : (shares : ℕ → ℕ → Bool) (puts : List Put) (s : Facts) → after_puts shares puts s Here ≡ s Here
here_kept shares [] s = refl
here_kept shares (Put.Place u hand ∷ puts) s = here_kept shares puts _
here_kept shares (Put.Plain u hand ∷ puts) s = here_kept shares puts _
here_kept shares (Put.Store operand first count ∷ puts) s = here_kept shares puts _
here_kept shares (Put.Direction on ∷ puts) s = here_kept shares puts _

only_register : (u : ℕ) (at : Placement) (r : Reg) → u < 7 → IsMember r (place_registers at (place_at u))
    → reg_number r ≡ u
only_register u at r low is = one (subst (λ place. IsMember r (place_registers at place)) named is)
  where
    named : place_at u ≡ Place.Reg (reg_at u)
    named = let below : nat_lt u 7 ≡ true = lt-ltb u 7 low in rw below refl

    one : IsMember r (reg_at u ∷ []) → reg_number r ≡ u
    one (inl same) = ap reg_number same ∙ reg_back u low
    one (inr more) = absurd more

-- two registers are one only if they are the same
alone_told : (i : Interface) (s : Shape) (shares : ℕ → ℕ → Bool) → TellsSharing i s shares → (p q : ℕ) → p < 7 → q < 7
    → shares p q ≡ true → p ≡ q
alone_told i s shares tells p q low high told =
    let may = (tells p q).0 told in
    sym (only_register p may.at may.shared.register low may.shared.in_first)
    ∙ only_register q may.at may.shared.register high may.shared.in_second

computed_hand : (s : Facts) (read : Option Read) (e : ℕ) → s Here ≡ true → ((u : ℕ) → read ≡ Some (Read.Copy u) → ⊥)
    → in_hand s read (NotEntryOf e) ≡ true
computed_hand s None e here none = here
computed_hand s (Some (Read.Copy u)) e here none = absurd (none u refl)
computed_hand s (Some (Read.Compute of)) e here none = here

module _ (table : ObeysTable) (i : Interface) (s : Shape) (shares : ℕ → ℕ → Bool) (depth : ℕ) (line : Sym) (x : Stand)
    (entry : Machine) (facts : Facts)
    (tells : TellsSharing i s shares) (step : IsTableStep i s depth line x) (more : line.repeat ≡ Repeat.No → ⊥)
    (holds : Holds (placed_by i s x.at) entry
    (after_moves shares (line_reads i s depth line) (line_puts i s depth line) facts) x.before) where
  bare : line.args ≡ []
  bare = by_plain step.plain
    where
      by_plain : IsPlain line → line.args ≡ []
      by_plain (inl none) = absurd (more none)
      by_plain (inr none) = none

  facts_here : facts Here ≡ true
  facts_here = sym (here_kept shares (line_puts i s depth line) (after_reads (line_reads i s depth line) facts))
      ∙ holds.matches.here

  computed : HandsComputed shares (after_reads (line_reads i s depth line) facts)
  computed = record {
    each = λ h e. rw (hand_is h)
        (computed_hand facts (slice_get (line_reads i s depth line) (hand_cell h - 218)) e facts_here
        (computed_at (line_reads i s depth line) (turn_reads i s depth line (turn_writes line bare more))
        (hand_cell h - 218)));
  }

  turn_of_line : IsStepOfLine i s x.at depth line x.before x.after
  turn_of_line = table_step table i s depth line x step.interface step.placed step.of_shape step.plain step.stepped
      step.copies step.at_depth step.few step.room

  holds_again : Holds (placed_by i s x.at) entry
      (after_moves shares (line_reads i s depth line) (line_puts i s depth line) facts) x.after
  holds_again = record {
    world = next i s x.at depth line x.before x.after turn_of_line holds.world holds.shows;
    shows = next_shows i s x.at depth line x.before x.after turn_of_line holds.world holds.shows;
    matches = turn_matches (placed_by i s x.at) shares (are_placed i s x.at step.allowed shares tells)
        (world_of (placed_by i s x.at) entry) (shadowed (placed_by i s x.at) entry) (line_reads i s depth line)
        (line_puts i s depth line) facts
        (given i s x.at depth line x.before x.after turn_of_line holds.world holds.shows) holds.world computed
        (turn_apart i s depth line shares (alone_told i s shares tells) (turn_writes line bare more))
        (writable i s x.at depth line x.before x.after turn_of_line holds.world holds.shows) holds.matches;
    tops = holds.tops;
  }

-- ---- along a path

module _ (table : ObeysTable) (x : Setting) (path : List ℕ) (n : ℕ) (line : Sym) (stand : Stand) (entry : Machine)
    (setting : IsSetting x) (at : slice_get x.graph.insts n ≡ Some line)
    (step : IsTableStep x.interface x.shape (slice_index x.depths n) line stand) where
  abbrev HoldsBy : Option Sym → Machine → Type 0
  HoldsBy o m = Holds (placed_by x.interface x.shape stand.at) entry (moved_by x n o (facts_on x path)) m

  along_path : Holds (placed_by x.interface x.shape stand.at) entry (facts_on x path) stand.before
      → Holds (placed_by x.interface x.shape stand.at) entry (facts_on x (n ∷ path)) stand.after
  along_path holds = subst (λ o. HoldsBy o stand.after) (sym at)
      (holds_behind table x.interface x.shape x.shares (slice_index x.depths n) line stand entry
      (facts_on x path) setting.shares step holds)

  again_path : (line.repeat ≡ Repeat.No → ⊥)
      → Holds (placed_by x.interface x.shape stand.at) entry (facts_on x (n ∷ path)) stand.before
      → Holds (placed_by x.interface x.shape stand.at) entry (facts_on x (n ∷ path)) stand.after
  again_path more holds = subst (λ o. HoldsBy o stand.after) (sym at)
      (holds_again table x.interface x.shape x.shares (slice_index x.depths n) line stand entry
      (facts_on x path) setting.shares step more
      (subst (λ o. HoldsBy o stand.before) at holds))

pub facts_held : ObeysTable → FactsHold
facts_held table = record {
  start = λ i live s p m. record {
    world = world_of (placed_by i s p) m;
    shows = entry_shows (placed_by i s p) m;
    matches = entry_matches (placed_by i s p) m i live s;
    tops = entry_tops (placed_by i s p) m i live s;
  };
  step = holds_behind table;
  stack = λ i s depth line x step. stack_kept i s x.at depth line x.before x.after
      (table_step table i s depth line x step.interface step.placed step.of_shape step.plain step.stepped step.copies
      step.at_depth
      step.few step.room);
  turn = holds_again table;
  registers = λ i s p entry m facts r interface states holds kept. same_register i s p entry m facts holds interface
      states r kept;
  flags = λ i s p entry m facts f low holds kept. same_flag i s p entry m facts holds f low kept;
  addresses = λ i s p entry m facts k form interface states holds is spot esp none. same_address i s p entry m facts
      holds interface states k form is spot none esp;
  kept = λ i s p facts u b below lt sound is. place_kept i s u b below lt facts sound p is;
  reached = λ i live s depth line facts a k interface sound accessed is there. not_overwritten i live s depth line
      facts sound interface a k accessed is there;
  passes = λ x graphs number is none. pass_sound x graphs number is none;
  ends = λ x graphs number is none. end_sound x graphs number is none;
  along = λ x path n line stand entry setting at step holds. along_path table x path n line stand entry setting at
      step holds;
  again = λ x path n line stand entry setting at step more holds. again_path table x path n line stand entry setting
      at step more holds;
}

pub table_facts_held : FactsHold
table_facts_held = facts_held obeys_table
