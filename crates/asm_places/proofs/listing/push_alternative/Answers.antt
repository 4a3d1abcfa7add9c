use Rattle.std.proofs.Common.{◌++◌, sym, ap, ◌∙◌}
use Rattle.std.proofs.lemmas.List.{append-nil}
use Rattle.asm_places.proofs.ListLaws.{no_shapes}
use Rattle.asm_places.proofs.listing.push_alternative.Goals as goal

pub returns-then-list_count-eq0 : goal.returns-then-list_count-eq0
returns-then-list_count-eq0 c =
    sym (ap (λ l. c.args.list.now ++ l) (no_shapes c.args.i.now c.requires.interface c.args.a c.requires.there (sym c.list_count.ensures ∙ c.if-list_count-eq0.true)) ∙ append-nil c.args.list.now)
