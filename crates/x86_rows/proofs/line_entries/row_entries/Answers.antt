use Rattle.std.proofs.Common.{◌∙◌, ap}
use Rattle.asm_core.specs.Entries.{sources_of}
use Rattle.x86_rows.proofs.Naming.{entered}
use Rattle.x86_rows.proofs.line_entries.row_entries.Goals as goal

pub returns : goal.returns
returns c =
    let s = c.args.s.now in
    entered c.args.row.now s c.as_slice-facts.result.now _ (c.as_slice-facts.ensures.value ∙ c.facts-facts.ensures)
    c.in_ok-writes.ensures c.in_ok-all_named.ensures
    (c.in_ok-sources.ensures ∙ ap (sources_of s) c.names_where.ensures)
    (c.in_ok-sources-2.ensures ∙ ap (sources_of s) c.names_where-2.ensures)
    c.in_ok-accesses.ensures
