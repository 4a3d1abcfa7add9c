-- The elements of a template outside comments.
use Rattle.std.specs.Prelude.{List, map}
use Rattle.asm_core.specs.Comments.{uncommented}
use Rattle.asm_core.specs.Pieces.{piece_code}
use Rattle.asm_core.specs.Reading.Facts.{facts_of, atom_of}
use Rattle.asm_core.specs.declared.interface.Interface.{Interface}
use Rattle.asm_core.specs.declared.shape.Shape.{Shape}
use Rattle.asm_core.specs.declared.piece.Piece.{Piece}
use Rattle.asm_core.specs.declared.reading.Atom.{Atom}

-- each piece outside comments with what it stands for under a shape
abbrev pub atoms_under : Interface → Shape → List Piece → List Atom
atoms_under i s ps = map (atom_of (facts_of i s)) (uncommented piece_code ps)
