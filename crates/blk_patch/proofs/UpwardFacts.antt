-- What a path shows with more told it shows with less told too: at the start, behind each instruction, and so along the
-- path.
use Rattle.std.proofs.Common.{◌≡◌, ℕ, ◌==◌, ◌&&◌, nat_lt, Bool, true, false, List, [], ◌∷◌, Option, None, Some, slice_get, slice_index, sym, ◌∙◌, ap, if◌then◌else◌}
use Rattle.asm_core.specs.declared.sym.Sym.{Sym}
use Rattle.asm_core.specs.declared.lines.Graph.{Graph}
use Rattle.asm_core.specs.declared.shape.Shape.{Shape}
use Rattle.asm_core.specs.declared.interface.Interface.{Interface}
use Rattle.dataflow.specs.Paths.{facts_along}
use Rattle.blk_deps.specs.Cells.{is_byte, place_of, byte_of, is_hand}
use Rattle.blk_deps.specs.Operands.{is_unseen, size_at}
use Rattle.blk_deps.specs.Facts.{Facts, is_overwriting, overwrites_after, after_reads, after_put, after_puts, dropped, after_moves}
use Rattle.blk_deps.specs.MoveLaws.{puts_law, moves_law}
use Rattle.blk_deps.specs.Start.{at_entry, TellsSharing, MayShare}
use Rattle.blk_deps.specs.Line.{line_reads, line_puts}
use Rattle.blk_deps.specs.Findings.{Setting, moved_by, facts_after, start_of}
use Rattle.blk_deps.specs.declared.fact.Provenance.TheVariants.{EntryOf, Old, Undefined, Outside}
use Rattle.blk_deps.specs.declared.fact.Property.TheVariants.{NotEntryOf, ComesFrom, Pair}
use Rattle.blk_deps.specs.declared.fact.Fact.{Fact}
use Rattle.blk_deps.specs.declared.fact.Fact.TheVariants.{Here, Has, Overwrites, Unwritten, DirectionSet}
use Rattle.blk_deps.specs.declared.step.Read.{Read}
use Rattle.blk_deps.specs.declared.step.Put.{Put}
use Rattle.blk_patch.specs.Upward.{TellsMore}
use Rattle.blk_patch.proofs.UpwardTests.{Up, same_up, and_up, chosen_up}
use Rattle.blk_patch.proofs.UpwardPlaces.{place_same, unseen_up}
use Rattle.blk_patch.proofs.UpwardMoves.{reads_same, puts_same}

-- each fact of the first is one of the second
abbrev pub AllUp : Facts → Facts → Type 0
AllUp one other = (fact : Fact) → Up (one fact) (other fact)

-- ---- one instruction

-- places that share more
module _ (less shares : ℕ → ℕ → Bool) (sharing : (p q : ℕ) → Up (less p q) (shares p q)) where
  overwrites_up : (s : Facts) (u hand d c : ℕ)
      → Up (overwrites_after less s u hand d c) (overwrites_after shares s u hand d c)
  overwrites_up s u hand d c =
      chosen_up (c == u) false
      (if d == place_of u && byte_of c == byte_of u
      then is_byte c && (less d (place_of c) && is_overwriting s u hand c) else s (Overwrites d c))
      false
      (if d == place_of u && byte_of c == byte_of u
      then is_byte c && (shares d (place_of c) && is_overwriting s u hand c) else s (Overwrites d c))
      (λ is. is)
      (chosen_up (d == place_of u && byte_of c == byte_of u)
      (is_byte c && (less d (place_of c) && is_overwriting s u hand c)) (s (Overwrites d c))
      (is_byte c && (shares d (place_of c) && is_overwriting s u hand c)) (s (Overwrites d c))
      (and_up (is_byte c) (less d (place_of c) && is_overwriting s u hand c)
      (is_byte c) (shares d (place_of c) && is_overwriting s u hand c) (λ is. is)
      (and_up (less d (place_of c)) (is_overwriting s u hand c) (shares d (place_of c)) (is_overwriting s u hand c)
      (sharing d (place_of c)) (λ is. is)))
      (λ is. is))

  put_up : (put : Put) (s : Facts) → AllUp (after_put less put s) (after_put shares put s)
  put_up (Put.Place u hand) s (Overwrites d c) = overwrites_up s u hand d c
  put_up (Put.Place u hand) s Here = λ is. is
  put_up (Put.Place u hand) s (Has c property) = λ is. is
  put_up (Put.Place u hand) s (Unwritten k b) = λ is. is
  put_up (Put.Place u hand) s DirectionSet = λ is. is
  put_up (Put.Plain u hand) s fact = λ is. is
  put_up (Put.Store operand first count) s Here = λ is. is
  put_up (Put.Store operand first count) s (Has c property) = λ is. is
  put_up (Put.Store operand first count) s (Overwrites d c) = λ is. is
  put_up (Put.Store operand first count) s (Unwritten k b) = λ is. is
  put_up (Put.Store operand first count) s DirectionSet = λ is. is
  put_up (Put.Direction on) s Here = λ is. is
  put_up (Put.Direction on) s (Has c property) = λ is. is
  put_up (Put.Direction on) s (Overwrites d c) = λ is. is
  put_up (Put.Direction on) s (Unwritten k b) = λ is. is
  put_up (Put.Direction on) s DirectionSet = λ is. is

  puts_up : (puts : List Put) (s : Facts) → AllUp (after_puts less puts s) (after_puts shares puts s)
  puts_up [] s fact is = is
  puts_up (put ∷ puts) s fact is =
      let cause = ((puts_law shares puts).each fact).cause (after_put less put s)
      (puts_up puts (after_put less put s) fact is) in
      cause.enough (after_put shares put s) (put_up put s cause.fact cause.holds)

  dropped_up : (one other : Facts) → AllUp one other → AllUp (dropped one) (dropped other)
  dropped_up one other up (Has c property) =
      chosen_up (is_hand c) (one Here) (one (Has c property)) (other Here) (other (Has c property)) (up Here)
      (up (Has c property))
  dropped_up one other up Here = up Here
  dropped_up one other up (Overwrites d c) = up (Overwrites d c)
  dropped_up one other up (Unwritten k b) = up (Unwritten k b)
  dropped_up one other up DirectionSet = up DirectionSet

  pub moved_up : (reads : List Read) (puts : List Put) (one other : Facts) → AllUp one other
      → AllUp (after_moves less reads puts one) (after_moves shares reads puts other)
  moved_up reads puts one other up fact is =
      let cause = ((moves_law shares reads puts).each fact).cause one
      (dropped_up (after_puts less puts (after_reads reads one)) (after_puts shares puts (after_reads reads one))
      (puts_up puts (after_reads reads one)) fact is) in
      cause.enough other (up cause.fact cause.holds)

-- ---- paths

module _ (old new : Interface) (live fewer : List Shape) (s : Shape) (more : TellsMore old new live fewer s) where
  pub start_up : AllUp (at_entry new fewer s) (at_entry old live s)
  start_up Here = λ is. is
  start_up (Has c (NotEntryOf e)) = λ is. is
  start_up (Has c (ComesFrom (EntryOf e))) = λ is. is
  start_up (Has c (ComesFrom (Old k))) = λ is. is
  start_up (Has c (ComesFrom Undefined)) = λ is. is
  start_up (Has c (ComesFrom Outside)) = λ is. is
  start_up (Has c (Pair d p)) = λ is. is
  start_up (Overwrites d c) = λ is. is
  start_up (Unwritten k b) =
      and_up (is_unseen new fewer s k) (nat_lt b (size_at new k)) (is_unseen old live s k) (nat_lt b (size_at old k))
      (unseen_up old new live fewer s more k)
      (same_up (nat_lt b (size_at new k)) (nat_lt b (size_at old k)) (ap (nat_lt b) (more.sizes k)))
  start_up DirectionSet = λ is. is

  share_up : (p q : ℕ) → MayShare new s p q → MayShare old s p q
  share_up p q may = record {
    first = sym (place_same old new live fewer s more p) ∙ may.first;
    second = sym (place_same old new live fewer s more q) ∙ may.second;
    at = may.at;
    shared = record {
      allowed = more.allowed may.at may.shared.allowed;
      register = may.shared.register;
      in_first = may.shared.in_first;
      in_second = may.shared.in_second;
    };
  }

  pub sharing_up : (less shares : ℕ → ℕ → Bool) → TellsSharing new s less → TellsSharing old s shares → (p q : ℕ)
      → Up (less p q) (shares p q)
  sharing_up less shares tells_new tells_old p q is = (tells_old p q).1 (share_up p q ((tells_new p q).0 is))

  module _ (g : Graph) (depths : List ℕ) (less shares : ℕ → ℕ → Bool)
      (sharing : (p q : ℕ) → Up (less p q) (shares p q)) where
    abbrev pub before : Setting
    before = record { interface = old; live = live; shape = s; graph = g; depths = depths; shares = shares }

    abbrev pub after : Setting
    after = record { interface = new; live = fewer; shape = s; graph = g; depths = depths; shares = less }

    by_up : (n : ℕ) (line : Option Sym) (one other : Facts) → AllUp one other
        → AllUp (moved_by after n line one) (moved_by before n line other)
    by_up n None one other up fact is = up fact is
    by_up n (Some line) one other up fact is =
        let depth = slice_index depths n in
        let same = place_same old new live fewer s more in
        let reads : after_moves less (line_reads old s depth line) (line_puts new s depth line) one fact ≡ true =
        ap (λ reads. after_moves less reads (line_puts new s depth line) one fact)
        (sym (reads_same old new s same depth line)) ∙ is in
        let puts : after_moves less (line_reads old s depth line) (line_puts old s depth line) one fact ≡ true =
        ap (λ puts. after_moves less (line_reads old s depth line) puts one fact)
        (sym (puts_same old new s same depth line)) ∙ reads in
        moved_up less shares sharing (line_reads old s depth line) (line_puts old s depth line) one other up fact puts

    pub along_up : (path : List ℕ)
        → AllUp (facts_along (start_of after) (facts_after after) path)
        (facts_along (start_of before) (facts_after before) path)
    along_up [] = start_up
    along_up (n ∷ path) =
        by_up n (slice_get g.insts n) (facts_along (start_of after) (facts_after after) path)
        (facts_along (start_of before) (facts_after before) path) (along_up path)
