use Rattle.blk_deps.proofs.SceneLemmas.{scene_mask}
use Rattle.blk_deps.proofs.rules.scene.Scene.places.Goals as goal

pub returns : goal.returns
returns c = rw c.places.ensures (scene_mask c.args.self.now c.args.cell c.requires.scene c.requires.cell)
