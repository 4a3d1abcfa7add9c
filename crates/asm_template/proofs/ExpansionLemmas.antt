-- One step through the pieces of a text.
use Rattle.std.proofs.Common.{◌≡◌, sym, ℕ, ◌+◌, ◌<◌, ◌≤◌, Bool, false, List, [], ◌++◌, drop, length, get_or, Result, Ok, Err, refl, ap, arith}
use Rattle.std.proofs.lemmas.List.{append-nil, append_assoc, drop_more, drop_all}
use Rattle.asm_core.specs.declared.piece.Piece.{Piece}
use Rattle.asm_core.specs.declared.placement.Placement.{Placement}
use Rattle.asm_core.specs.declared.interface.Interface.{Interface}
use Rattle.asm_core.specs.declared.reading.Sign.{Sign}
use Rattle.asm_core.specs.Expansion.{expansion_with, onto_text, piece_text}

onto-onto : (before after : List Sign) (piece rest : Result (List Sign) ℕ) → onto_text (Ok before) piece ≡ Ok after → onto_text (Ok before) (onto_text piece rest) ≡ onto_text (Ok after) rest
onto-onto before after (Err k) rest e = cc
onto-onto before after (Ok text) (Err k) e = refl
onto-onto before after (Ok text) (Ok more) e = let same : before ++ text ≡ after = cc in rw (← same) (ap Ok (sym (append_assoc before text more)))

pub onto-none : (text : Result (List Sign) ℕ) → onto_text (Ok []) text ≡ text
onto-none (Ok text) = refl
onto-none (Err k) = refl

onto-fails : (before : List Sign) (k : ℕ) (piece rest : Result (List Sign) ℕ) → piece ≡ Err k → onto_text (Ok before) (onto_text piece rest) ≡ Err k
onto-fails before k piece rest e = rw e refl

module _ (i : Interface) (p : Placement) (unique : ℕ) (ps : List Piece) (marks : List Bool) (k : ℕ) (before : List Sign) where
  expansion-step : (d : Piece) → length marks ≡ length ps → k < length ps
      → expansion_with i p unique (drop k ps) (drop k marks)
      ≡ onto_text (piece_text i p unique (get_or marks k false) (get_or ps k d)) (expansion_with i p unique (drop (k + 1) ps) (drop (k + 1) marks))
  unfolding expansion_with
  expansion-step d long lt = let short : k < length marks = omega arith in rw (drop_more ps k d lt, drop_more marks k false short) refl

  pub expansion-done : length ps ≤ k → onto_text (Ok before) (expansion_with i p unique (drop k ps) (drop k marks)) ≡ Ok before
  unfolding expansion_with
  expansion-done le = rw (drop_all k ps le) (ap Ok (append-nil before))

  pub expansion-passed : (d : Piece) (after : List Sign) → length marks ≡ length ps → k < length ps → onto_text (Ok before) (piece_text i p unique (get_or marks k false) (get_or ps k d)) ≡ Ok after
      → onto_text (Ok before) (expansion_with i p unique (drop k ps) (drop k marks)) ≡ onto_text (Ok after) (expansion_with i p unique (drop (k + 1) ps) (drop (k + 1) marks))
  expansion-passed d after long lt e = rw (expansion-step d long lt) (onto-onto before after _ _ e)

  pub expansion-failed : (d : Piece) (n : ℕ) → length marks ≡ length ps → k < length ps → piece_text i p unique (get_or marks k false) (get_or ps k d) ≡ Err n
      → onto_text (Ok before) (expansion_with i p unique (drop k ps) (drop k marks)) ≡ Err n
  expansion-failed d n long lt e = rw (expansion-step d long lt) (onto-fails before n _ _ e)

pub ruleset expansion_steps = (onto-none, expansion-done, expansion-passed, expansion-failed)
