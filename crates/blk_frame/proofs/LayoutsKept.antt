-- A step of a line leaves its ranges where they are.
use Rattle.std.proofs.Common.{◌≡◌, refl}
use Rattle.asm_core.specs.Machine.{layouts_of}
use Rattle.asm_core.specs.MicroOps.{destinations_of}
use Rattle.asm_core.specs.Reading.Placed.{inst_under}
use Rattle.asm_core.specs.Rows.{line_row}
use Rattle.asm_core.specs.Steps.{Stand}
use Rattle.asm_core.specs.declared.sym.Sym.{Sym}
use Rattle.asm_core.specs.declared.machine.Machine.{Machine}
use Rattle.asm_core.proofs.Puts.{put_all_layouts}
use Rattle.x86_table.specs.TableLaws.{IsStepped}
use Rattle.blk_frame.proofs.LineEnds.{values_at, line_ended}

pub layouts_kept : (line : Sym) (x : Stand) → IsStepped line x → layouts_of x.after.ranges ≡ layouts_of x.before.ranges
layouts_kept line x stepped =
    line_ended (λ (m : Machine). layouts_of m.ranges ≡ layouts_of x.before.ranges) line x stepped (λ over. refl)
    (λ more. put_all_layouts (destinations_of (inst_under x.at line) x.before (line_row line)) 0
    (values_at line x) x.before)
