use Rattle.std.proofs.Common.{◌≡◌, length}
use Rattle.blk_deps.specs.Ruling.{AreMasksBelow}
use Rattle.blk_deps.proofs.rules.names.PlaceNames.of.Lts.Given.{Live-loop-p}

abbrev pub invariant-loop-p : Live-loop-p → Type 0
invariant-loop-p l = AreMasksBelow l.names l.p l.masks
