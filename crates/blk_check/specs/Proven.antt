-- What an accepted statement was judged by.
use Rattle.asm_core.specs.declared.statement.Statement.{Statement}
use Rattle.asm_core.specs.declared.interface.Interface.{Interface}
use Rattle.asm_core.specs.declared.shape.Shape.{Shape}
use Rattle.asm_core.specs.declared.lines.Graph.{Graph}

pub record Proven : Type 0 where
  pub statement : Statement
  pub interface : Interface
  pub shape : Shape
  pub graph : Graph
