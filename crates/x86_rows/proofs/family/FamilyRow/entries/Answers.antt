use Rattle.std.proofs.Common.{◌∙◌}
use Rattle.x86_rows.proofs.Bounds.{few_entries, narrow_entries}
use Rattle.x86_rows.proofs.family.FamilyRow.entries.Goals as goal

pub returns-clause-few : goal.returns-clause-few
returns-clause-few g c =
    few_entries c.args.s.now c.row.result.now _ c.row_entries.result c.row.ensures.few
    (c.as_slice-2.ensures ∙ c.entry-row.ensures.is) c.row_entries.ensures

pub returns-clause-narrow : goal.returns-clause-narrow
returns-clause-narrow g c = narrow_entries c.args.s.now _ c.row_entries.result c.row_entries.ensures
