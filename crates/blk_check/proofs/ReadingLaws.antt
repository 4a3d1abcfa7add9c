-- The lines under each shape, one shape at a time.
use Rattle.std.proofs.Common.{◌≡◌, ℕ, ◌+◌, ◌<◌, ◌≤◌, List, [], ◌∷◌, ◌++◌, length, get_or, drop, Result, Ok, Err, refl, sym, ap, ◌∙◌}
use Rattle.std.proofs.lemmas.List.{append-nil, append_assoc, drop_more, drop_all}
use Rattle.asm_core.specs.Reading.Names.{names}
use Rattle.asm_core.specs.Reading.Line.{lines_under}
use Rattle.asm_core.specs.declared.piece.Piece.{Piece}
use Rattle.asm_core.specs.declared.shape.Shape.{Shape}
use Rattle.asm_core.specs.declared.interface.Interface.{Interface}
use Rattle.asm_core.specs.declared.lines.Lines.{Lines}
use Rattle.asm_core.specs.declared.lines.LinesEnd.{LinesEnd}
use Rattle.blk_check.specs.Readable.{with_lines, readings_under}

-- lines that are read already, before those of the other shapes
abbrev pub behind : List Lines → Result (List Lines) LinesEnd → Result (List Lines) LinesEnd
behind xs (Ok ys) = Ok (xs ++ ys)
behind xs (Err end) = Err end

behind_one : (xs : List Lines) (x : Lines) (r : Result (List Lines) LinesEnd) → behind xs (with_lines (Ok x) r) ≡ behind (xs ++ x ∷ []) r
behind_one xs x (Ok ys) = ap Ok (sym (append_assoc xs (x ∷ []) ys))
behind_one xs x (Err end) = refl

pub behind_none : (r : Result (List Lines) LinesEnd) → behind [] r ≡ r
behind_none (Ok ys) = refl
behind_none (Err end) = refl

module _ (i : Interface) (ps : List Piece) where
  pub one_read : (ss : List Shape) (k : ℕ) (d : Shape) (xs : List Lines) (x : Lines) → k < length ss → lines_under names i (get_or ss k d) ps ≡ Ok x
      → behind xs (readings_under i ps (drop k ss)) ≡ behind (xs ++ x ∷ []) (readings_under i ps (drop (k + 1) ss))
  unfolding readings_under
  one_read ss k d xs x lt is =
      ap (λ l. behind xs (readings_under i ps l)) (drop_more ss k d lt)
      ∙ ap (λ r. behind xs (with_lines r (readings_under i ps (drop (k + 1) ss)))) is
      ∙ behind_one xs x (readings_under i ps (drop (k + 1) ss))

  pub one_failed : (ss : List Shape) (k : ℕ) (d : Shape) (xs : List Lines) (end : LinesEnd) → k < length ss → lines_under names i (get_or ss k d) ps ≡ Err end
      → behind xs (readings_under i ps (drop k ss)) ≡ Err end
  unfolding readings_under
  one_failed ss k d xs end lt is =
      ap (λ l. behind xs (readings_under i ps l)) (drop_more ss k d lt)
      ∙ ap (λ r. behind xs (with_lines r (readings_under i ps (drop (k + 1) ss)))) is

  pub all_read : (ss : List Shape) (k : ℕ) (xs : List Lines) → length ss ≤ k → behind xs (readings_under i ps (drop k ss)) ≡ Ok xs
  unfolding readings_under
  all_read ss k xs le = ap (λ l. behind xs (readings_under i ps l)) (drop_all k ss le) ∙ ap Ok (append-nil xs)

pub ruleset reading_steps = (behind_none, one_read, one_failed, all_read)
