use Rattle.blk_deps.proofs.SharingLaws.{registers_share, answered}
use Rattle.blk_deps.proofs.sharing.share.Goals as goal

pub returns-then-q-lt7 : goal.returns-then-q-lt7
returns-then-q-lt7 c =
    registers_share _ _ _ _ c.if-p-lt7.true c.if-q-lt7.true c.requires.live c.requires.is_first c.requires.is_second

pub returns : goal.returns
returns c =
    answered _ _ _ _ _ _ _ c.place_at.ensures c.place_at-2.ensures c.requires.is_first c.requires.is_second
    c.can_share.ensures
