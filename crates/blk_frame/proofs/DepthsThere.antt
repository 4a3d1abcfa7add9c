-- What the depths of a block say of paths, where no rule on the stack is broken.
use Rattle.std.proofs.Common.{◌≡◌, ◌⊎◌, inl, inr, ℕ, ◌+◌, ◌-◌, ◌<◌, ◌≤◌, ◌&&◌, ◌||◌, nat_lt, nat_le, Bool, true, false, List, [], ◌∷◌, Option, None, Some, slice_get, slice_index, refl, sym, ap, subst, ◌∙◌, arith}
use Rattle.std.proofs.lemmas.Bool.{cases_eq, or_left, or_right, and_from}
use Rattle.std.proofs.lemmas.Bool.Decides.{nat_tests}
use Rattle.std.proofs.lemmas.Option.{slice_get_within}
use Rattle.asm_core.specs.declared.sym.Sym.{Sym}
use Rattle.asm_core.specs.declared.lines.Graph.{Graph}
use Rattle.dataflow.specs.Paths.{IsPathTo, facts_along}
use Rattle.blk_deps.specs.Ways.{size_of, goes}
use Rattle.blk_deps.specs.Stack.{pushes, pops, no_words, depths_behind, depths_by, depths_after, overruns_by, BreaksStack, AreDepths}
use Rattle.blk_deps.specs.StackTable.{IsSound}
use Rattle.blk_deps.specs.declared.depth.Depth.{Depth}
use Rattle.blk_deps.proofs.StackLemmas.{depth_small}
use Rattle.blk_frame.proofs.StackMoves.{depth_by, depth_behind}

abbrev depth_of : ℕ → Depth
depth_of d = record { 0 = d }

-- where a depth doesn't overrun, there is one behind it
fits_behind : (push pop : Bool) (depths : Depth → Bool) (d : ℕ) → d ≤ 16 → depths (depth_of d) ≡ true
    → (((push && depths (depth_of 16)) || (pop && depths (depth_of 0))) ≡ true → ⊥)
    → depths_behind push pop depths (depth_of (depth_by push pop d)) ≡ true
fits_behind true pop depths d most has none = elim (cases_eq d 16) [
  | inl full ↦ absurd (none (or_left _ _ (sym (ap (λ k. depths (depth_of k)) full) ∙ has)))
  | inr more ↦
      let room : (nat_lt 0 (d + 1) && nat_le (d + 1) 16) ≡ true = let lt : d < 16 = omega (arith, most, more) in
      grind (arith, nat_tests) in
      let back : d ≡ d + 1 - 1 = omega arith in
      and_from _ _ room (sym (ap (λ k. depths (depth_of k)) back) ∙ has)
]
fits_behind false true depths d most has none = elim (cases_eq d 0) [
  | inl empty ↦ absurd (none (sym (ap (λ k. depths (depth_of k)) empty) ∙ has))
  | inr some ↦
      let room : nat_lt (d - 1) 16 ≡ true = grind (arith, nat_tests, most, some) in
      let back : d ≡ d - 1 + 1 = omega (arith, some) in
      and_from _ _ room (sym (ap (λ k. depths (depth_of k)) back) ∙ has)
]
fits_behind false false depths d most has none = has

by_line : (line : Option Sym) (depths : Depth → Bool) (d : ℕ) → d ≤ 16 → depths (depth_of d) ≡ true
    → (overruns_by line depths ≡ true → ⊥) → (e : ℕ) × (depths_by line depths (depth_of e) ≡ true)
by_line None depths d most has none = (d, has)
by_line (Some line) depths d most has none =
    (depth_behind line d, fits_behind (pushes line) (pops line) depths d most has none)

module _ (g : Graph) (sound : IsSound g) (depths : List ℕ) (are : AreDepths g depths) where
  -- the depths that a path shows
  abbrev shown : List ℕ → ℕ → Bool
  shown path d = facts_along no_words (depths_after g) path (depth_of d)

  path_depth : (path : List ℕ) (n : ℕ) → IsPathTo (size_of g) (goes g) path n → (d : ℕ) × (shown path d ≡ true)
  path_depth [] n is = (0, refl)
  path_depth (i ∷ path) n is =
      let before = path_depth path i is.0 in
      by_line (slice_get g.insts i) (facts_along no_words (depths_after g) path) before.0
      (depth_small g path before.0 before.1) before.1
      (λ over. sound.overrun i (BreaksStack.overrun i is.1 (path, is.0, over)))

  at_path : (path : List ℕ) (n : ℕ) → IsPathTo (size_of g) (goes g) path n → shown path (slice_index depths n) ≡ true
  at_path path n is =
      let own = path_depth path n is in
      subst (λ d. shown path d ≡ true) (sym (are.reached n own.0 (path, is, own.1))) own.1

  overrun_at : (path : List ℕ) (n : ℕ) (line : Sym) → IsPathTo (size_of g) (goes g) path n
      → slice_get g.insts n ≡ Some line
      → ((pushes line && shown path 16) || (pops line && shown path 0)) ≡ true → ⊥
  overrun_at path n line is at over =
      sound.overrun n (BreaksStack.overrun n (slice_get_within g.insts n line at)
      (path, is, ap (λ o. overruns_by o (facts_along no_words (depths_after g) path)) at ∙ over))

  pub depth_start : slice_index depths 0 ≡ 0
  depth_start = are.reached 0 0 ([], refl, refl)

  pub depth_few : (path : List ℕ) (n : ℕ) → IsPathTo (size_of g) (goes g) path n → slice_index depths n ≤ 16
  depth_few path n is = depth_small g path (slice_index depths n) (at_path path n is)

  pub depth_room : (path : List ℕ) (n : ℕ) (line : Sym) → IsPathTo (size_of g) (goes g) path n
      → slice_get g.insts n ≡ Some line → pushes line ≡ true → slice_index depths n < 16
  depth_room path n line is at push = elim (cases_eq (slice_index depths n) 16) [
    | inl full ↦ absurd (overrun_at path n line is at (or_left _ _ (and_from _ _ push
        (sym (ap (shown path) full) ∙ at_path path n is))))
    | inr more ↦ let most = depth_few path n is in omega (arith, most, more)
  ]

  pub depth_pop : (path : List ℕ) (n : ℕ) (line : Sym) → IsPathTo (size_of g) (goes g) path n
      → slice_get g.insts n ≡ Some line → pops line ≡ true → 0 < slice_index depths n
  depth_pop path n line is at pop = elim (cases_eq (slice_index depths n) 0) [
    | inl empty ↦ absurd (overrun_at path n line is at (or_right (pushes line && shown path 16) _ (and_from _ _ pop
        (sym (ap (shown path) empty) ∙ at_path path n is))))
    | inr some ↦ omega (arith, some)
  ]

  pub depth_on : (path : List ℕ) (n : ℕ) (line : Sym) → IsPathTo (size_of g) (goes g) path n
      → slice_get g.insts n ≡ Some line → (j : ℕ) → (j ≡ goes g n 0) ⊎ (j ≡ goes g n 1)
      → slice_index depths j ≡ depth_behind line (slice_index depths n)
  depth_on path n line is at j way =
      let before = facts_along no_words (depths_after g) path in
      let d = slice_index depths n in
      are.reached j (depth_behind line d) (
        (n ∷ path),
        (is, slice_get_within g.insts n line at, way),
        ap (λ o. depths_by o before (depth_of (depth_behind line d))) at
            ∙ fits_behind (pushes line) (pops line) before d (depth_few path n is) (at_path path n is)
            (overrun_at path n line is at),
      )

  pub depth_end : (path : List ℕ) → IsPathTo (size_of g) (goes g) path (size_of g)
      → slice_index depths (size_of g) ≡ 0
  depth_end path is = elim (cases_eq (slice_index depths (size_of g)) 0) [
    | inl none ↦ none
    | inr some ↦ absurd (sound.left (size_of g) (BreaksStack.left (slice_index depths (size_of g))
        (omega (arith, some)) (path, is, at_path path (size_of g) is)))
  ]
