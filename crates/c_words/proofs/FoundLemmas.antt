-- A table is searched where its rows hold references to the spellings.
use Rattle.std.proofs.Common.{◌≡◌, ℕ, nat_eq, true, false, List, [], ◌∷◌, Some, map, find, cond, refl}
use Rattle.std.specs.Borrow.{Bor}
use Rattle.std.specs.Cmp.Lexicographic.{pointwise}
use Rattle.std.specs.Option.{option_map}
use Rattle.c_words.specs.Spellings.{found}

pub found-rows : {T : Type 0} (table : List (Bor (List ℕ) × T)) (spelling : List ℕ)
    → found (map (λ row. (row.0.now, row.1)) table) spelling ≡ option_map (λ (row : Bor (List ℕ) × T). row.1) (find (λ row. pointwise nat_eq row.0.now spelling) table)
unfolding found
found-rows [] spelling = refl
found-rows {T} (row ∷ rows) spelling =
    elim (pointwise nat_eq row.0.now spelling) as (λ b. option_map (λ (r : List ℕ × T). r.1) (cond b (Some (row.0.now, row.1)) (find (λ r. pointwise nat_eq r.0 spelling) (map (λ r. (r.0.now, r.1)) rows)))
    ≡ option_map (λ (r : Bor (List ℕ) × T). r.1) (cond b (Some row) (find (λ r. pointwise nat_eq r.0.now spelling) rows))) [
      | true ↦ refl
      | false ↦ found-rows rows spelling
    ]

pub ruleset found_rows = (found-rows)
