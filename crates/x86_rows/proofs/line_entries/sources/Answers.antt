use Rattle.std.proofs.Common.{◌<◌, length, subst}
use Rattle.asm_core.specs.Entries.{source_in, origins, sources_of}
use Rattle.x86_rows.proofs.Halving.{sources_by_bits, none_left, passed}
use Rattle.x86_rows.proofs.line_entries.sources.Goals as goal

pub loop-origin-init : goal.loop-origin-init
loop-origin-init c = sources_by_bits c.args.s.now c.args.names c.new-found.result c.new-found.ensures

pub returns-then-bits-eq0 : goal.returns-then-bits-eq0
returns-then-bits-eq0 c = none_left (source_in c.args.s.now) (sources_of c.args.s.now c.args.names) c.loop-origin.found
    c.loop-origin.bits _ c.loop-origin.invariant c.if-bits-eq0.true

pub loop-origin-preserved-then-not-is_named : goal.loop-origin-preserved-then-not-is_named
loop-origin-preserved-then-not-is_named c =
    passed (source_in c.args.s.now) (sources_of c.args.s.now c.args.names) c.loop-origin.found c.loop-origin.bits
    c.loop-origin.origin-index origins c.loop-origin.invariant
    (subst (λ os. c.loop-origin.origin-index < length os) c.all_origins-origin-items.ensures c.loop-origin-test.true)
    c.if-not-is_named.true
