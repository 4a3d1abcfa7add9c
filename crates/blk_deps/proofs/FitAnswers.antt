-- The answer to whether moves fit a layout is right.
use Rattle.std.proofs.Common.{◌↔◌, Bool, IsTrue, All, List, [], ◌∷◌, length, refl}
use Rattle.std.specs.List.{list_all}
use Rattle.std.proofs.lemmas.List.Elements.{All-nil, All-cons, All-head, All-tail}
use Rattle.blk_deps.proofs.FitLists.{both_true, true_both}
use Rattle.blk_deps.specs.Fits.{fits_name, fits_put, FitsRead, FitsLayout}
use Rattle.blk_deps.specs.Fitting.{fits_read, fits, fits_moves, FitsMoves}
use Rattle.blk_deps.specs.declared.layout.Layout.{Layout}
use Rattle.blk_deps.specs.declared.line.LineMoves.{LineMoves}
use Rattle.blk_deps.specs.declared.step.Read.{Read}
use Rattle.blk_deps.specs.declared.step.Put.{Put}

-- a test that answers a question of each item answers that of all
pub all_answered : {X : Type 0} (P : X → Type 0) (test : X → Bool) → ((x : X) → IsTrue (test x) ↔ P x) → (xs : List X) → IsTrue (list_all test xs) ↔ All P xs
all_answered P test each [] = ((λ h. All-nil P), (λ h. refl))
all_answered P test each (x ∷ xs) = (
  (λ h. let parts = both_true (test x) (list_all test xs) h in
      All-cons P x xs ((each x).0 parts.0) ((all_answered P test each xs).0 parts.1)),
  (λ h. true_both (test x) (list_all test xs) ((each x).1 (All-head P x xs h)) ((all_answered P test each xs).1 (All-tail P x xs h))),
)

same_answer : (b : Bool) → IsTrue b ↔ IsTrue b
same_answer b = ((λ h. h), (λ h. h))

read_answered : (l : Layout) (read : Read) → IsTrue (fits_read l read) ↔ FitsRead l read
read_answered l (Read.Copy u) = same_answer _
read_answered l (Read.Compute of) = all_answered (λ name. IsTrue (fits_name l name)) (fits_name l) (λ name. same_answer (fits_name l name)) of

pub fits_answered : (l : Layout) (reads : List Read) (puts : List Put) → IsTrue (fits l reads puts) ↔ FitsLayout l reads puts
fits_answered l reads puts =
    let of_reads = all_answered (FitsRead l) (fits_read l) (read_answered l) reads in
    let of_puts = all_answered (λ put. IsTrue (fits_put l (length reads) put)) (fits_put l (length reads)) (λ put. same_answer (fits_put l (length reads) put)) puts in (
      (λ h. let parts = both_true (list_all (fits_read l) reads) (list_all (fits_put l (length reads)) puts) h in
          record { of_reads = of_reads.0 parts.0; of_puts = of_puts.0 parts.1 }),
      (λ h. true_both (list_all (fits_read l) reads) (list_all (fits_put l (length reads)) puts) (of_reads.1 h.of_reads) (of_puts.1 h.of_puts)),
    )

pub moves_answered : (l : Layout) (m : LineMoves) → IsTrue (fits_moves l m) ↔ FitsMoves l m
moves_answered l m = fits_answered l m.reads m.puts

pub all_moves_answered : (l : Layout) (moves : List LineMoves) → IsTrue (list_all (fits_moves l) moves) ↔ All (FitsMoves l) moves
all_moves_answered l moves = all_answered (FitsMoves l) (fits_moves l) (moves_answered l) moves
