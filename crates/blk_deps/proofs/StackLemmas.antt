-- What the words of depths tell of paths.
use Rattle.std.proofs.Common.{◌≡◌, ◌≢◌, ◌↔◌, inl, inr, ℕ, ◌+◌, ◌-◌, ◌<◌, ◌≤◌, ◌==◌, ◌&&◌, ◌||◌, nat_lt, nat_le, List, [], ◌∷◌, ◌++◌, map, length, length-append, Bool, true, false, Option, None, Some, slice_get, slice_index, get_or, refl, sym, ap, subst, ◌∙◌, arith}
use Rattle.std.proofs.Math.ListN.{get_or-append}
use Rattle.std.proofs.Math.Seq.{get_or-append_seam}
use Rattle.std.proofs.lemmas.Bool.{cases_lt, cases_eq}
use Rattle.std.proofs.lemmas.Bool.Decides.{nat_tests}
use Rattle.std.proofs.lemmas.List.{get_or_past}
use Rattle.std.proofs.lemmas.Option.{slice_get_within, slice_get-map, get_or_from_slice_get}
use Rattle.std.specs.Option.{option_map}
use Rattle.std.proofs.lemmas.Nat.Bits.{bit_at-zero}
use Rattle.asm_core.specs.declared.sym.Sym.{Sym}
use Rattle.asm_core.specs.declared.lines.Graph.{Graph}
use Rattle.asm_core.specs.declared.finding.Rule.{Rule}
use Rattle.asm_core.proofs.ShapeLaws.{inside_get}
use Rattle.dataflow.specs.Paths.{IsPathTo, facts_along, OnSomePath}
use Rattle.dataflow.specs.Working.{found_in}
use Rattle.dataflow.proofs.Paths.{from_rows, to_rows}
use Rattle.blk_deps.specs.Ways.{size_of, goes, line_number, IsGraph}
use Rattle.blk_deps.specs.Ground.{has_bit}
use Rattle.blk_deps.specs.Stack.{pushes, pops, no_words, depths_behind, depths_by, depths_after, HasDepth, overruns_by, overruns, BreaksStack, AreDepths}
use Rattle.blk_deps.specs.StackTable.{effect_of, HasDeep, HasTwo, depths_in, depth_number, IsStack, IsBrokenOn, IsDepthAt, IsSound, FitDepths}
use Rattle.blk_deps.specs.Findings.{IsLeast}
use Rattle.blk_deps.specs.MoveLaws.{overruns_single}
use Rattle.blk_deps.proofs.HeadLemmas.{goes_within}
use Rattle.blk_deps.specs.declared.depth.Depth.{Depth}
use Rattle.blk_deps.specs.declared.effect.StackEffect.{StackEffect}
use Rattle.blk_deps.specs.declared.stack.Stack.{Stack}

abbrev depth_of : ℕ → Depth
depth_of d = record { 0 = d }

-- ---- what breaks the rules, read back

abbrev Told : Graph → Rule → ℕ → Type 0
Told g Rule.S1 n = (n ≡ size_of g) × (depth : ℕ) × (0 < depth) × HasDepth g (size_of g) depth
Told g Rule.S2 n = (one : ℕ) × (other : ℕ) × (one ≢ other) × HasDepth g n one × HasDepth g n other
Told g Rule.S3 n = (n < size_of g) × OnSomePath (size_of g) (goes g) no_words (depths_after g) n (overruns g n)
Told g rule n = ⊥

told : (g : Graph) (rule : Rule) (n : ℕ) → BreaksStack g rule n → Told g rule n
told g rule n (BreaksStack.left depth deep has) = (refl, depth, deep, has)
told g rule n (BreaksStack.two m one other within differ first second) = (one, other, differ, first, second)
told g rule n (BreaksStack.overrun m below on) = (below, on)

-- a rule is broken at a node or at the end
pub breaks_within : (g : Graph) (rule : Rule) (n : ℕ) → BreaksStack g rule n → n ≤ size_of g
breaks_within g rule n (BreaksStack.left depth deep has) = omega arith
breaks_within g rule n (BreaksStack.two m one other within differ first second) = within
breaks_within g rule n (BreaksStack.overrun m below on) = omega (arith, below)

-- ---- a node

module _ (g : Graph) (x : Stack) (is : IsStack g x) (n : ℕ) (within : n ≤ size_of g) (word : ℕ)
    (shows : (depth : Depth) → depths_in word depth ≡ found_in depth_number x.work n depth) where
  has_depth : (d : ℕ) → has_bit word d ≡ true → HasDepth g n d
  has_depth d has = is.found.shown n (depth_of d) (sym (shows (depth_of d)) ∙ has)

  has_word_bit : (d : ℕ) → HasDepth g n d → has_bit word d ≡ true
  has_word_bit d p = shows (depth_of d) ∙ is.found.complete p.0 n (depth_of d) p.1 p.2

  pub leaves_is : n ≡ size_of g → (b : Bool) → (b ≡ true) ↔ HasDeep word → (b ≡ true) ↔ BreaksStack g Rule.S1 n
  leaves_is end b deep = (
    λ yes. let d = deep.0 yes in
        subst (BreaksStack g Rule.S1) (sym end)
        (BreaksStack.left d.depth d.deep (subst (λ m. HasDepth g m d.depth) end (has_depth d.depth d.has))),
    λ breaks. let t = told g Rule.S1 n breaks in
        deep.1 (record {
          depth = t.1;
          deep = t.2;
          has = has_word_bit t.1
              (subst (λ m. HasDepth g m t.1) (sym end) t.3);
        }),
  )

  pub differs_is : (b : Bool) → (b ≡ true) ↔ HasTwo word → (b ≡ true) ↔ BreaksStack g Rule.S2 n
  differs_is b two = (
    λ yes. let t = two.0 yes in BreaksStack.two n t.one t.other within t.differ (has_depth t.one t.has_one)
        (has_depth t.other t.has_other),
    λ breaks. let t = told g Rule.S2 n breaks in
        two.1 (record {
          one = t.0;
          other = t.1;
          differ = t.2;
          has_one = has_word_bit t.0 t.3;
          has_other =
              has_word_bit t.1 t.4;
        }),
  )

  module _ (below : n < size_of g) (effects : List StackEffect) (all : effects ≡ x.effects) (d : StackEffect) where
    abbrev effect : StackEffect
    effect = get_or effects n d

    tests : (line : Sym) → slice_get g.insts n ≡ Some line → (b : Bool) → b
        ≡ ((effect.pushes && has_bit word 16) || (effect.pops && has_bit word 0))
        → b ≡ overruns g n (found_in depth_number x.work n)
    tests line at b is_test =
        let found = found_in depth_number x.work n in
        let own : effect ≡ effect_of line = ap (λ xs. get_or xs n d) (all ∙ is.effects)
        ∙ get_or_from_slice_get (map effect_of g.insts) n (effect_of line) d
        (slice_get-map effect_of g.insts n ∙ ap (option_map effect_of) at) in
        is_test
        ∙ ap (λ (e : StackEffect). (e.pushes && has_bit word 16) || (e.pops && has_bit word 0)) own
        ∙ ap (λ c. (pushes line && c) || (pops line && has_bit word 0)) (shows (depth_of 16))
        ∙ ap (λ c. (pushes line && found (depth_of 16)) || (pops line && c)) (shows (depth_of 0))
        ∙ sym (ap (λ o. overruns_by o found) at)

    pub overruns_is : (b : Bool) → b ≡ ((effect.pushes && has_bit word 16) || (effect.pops && has_bit word 0))
        → (b ≡ true) ↔ BreaksStack g Rule.S3 n
    overruns_is b is_test =
        let line = inside_get g.insts n below in
        let same = tests line.0 line.1 b is_test in (
          λ yes. BreaksStack.overrun n below (from_rows is.found (overruns_single g n) n (sym same ∙ yes)),
          λ breaks. same ∙ to_rows is.found (overruns_single g n) n (told g Rule.S3 n breaks).1,
        )

  pub depth_is : (d : ℕ) → has_bit word d ≡ true → IsDepthAt g n d
  depth_is d has = inl (has_depth d has)

  pub none_is : word ≡ 0 → IsDepthAt g n 0
  none_is zero_word = inr (
    refl,
    λ d p. let bit = sym (has_word_bit d p) ∙ ap (λ w. has_bit w d) zero_word
        ∙ ap (λ b. b == 1) (bit_at-zero d) in cc,
  )

pub not_end : (g : Graph) (n : ℕ) → n ≢ size_of g → (false ≡ true) ↔ BreaksStack g Rule.S1 n
not_end g n differs = (λ wrong. cc, λ breaks. absurd (differs (told g Rule.S1 n breaks).0))

pub not_below : (g : Graph) (n : ℕ) → size_of g ≤ n → (false ≡ true) ↔ BreaksStack g Rule.S3 n
not_below g n past = (λ wrong. cc, λ breaks. let t = told g Rule.S3 n breaks in absurd (omega (arith, past, t.0)))

-- ---- the least line

line_rises : (g : Graph) (n m : ℕ) → size_of g ≤ 512 → n ≤ size_of g → m ≤ size_of g
    → line_number g n < line_number g m → n < m
line_rises g n m few in_n in_m lt = grind (arith, nat_tests)

pub least_is : (g : Graph) (rule : Rule) (n line : ℕ) → IsGraph g → n ≤ size_of g
    → ((k : ℕ) → k < n → BreaksStack g rule k → ⊥) → BreaksStack g rule n
    → line ≡ line_number g n → IsLeast (IsBrokenOn g rule) line
least_is g rule n line graph within earlier breaks is_line = record {
  broken = record { node = n; breaks = breaks; is_line = is_line };
  least = λ before lt b. earlier b.node
      (line_rises g b.node n graph.few (breaks_within g rule b.node b.breaks) within
      (subst (λ k. k < line_number g n) b.is_line (subst (λ k. before < k) is_line lt)))
      b.breaks;
}

pub none_breaks : (g : Graph) (rule : Rule) (past : ℕ) → size_of g < past
    → ((k : ℕ) → k < past → BreaksStack g rule k → ⊥)
    → (line : ℕ) → IsBrokenOn g rule line → ⊥
none_breaks g rule past over earlier line b =
    earlier b.node (let w = breaks_within g rule b.node b.breaks in omega (arith, w, over)) b.breaks

-- ---- depths along paths

both_true : (a b : Bool) → (a && b) ≡ true → a ≡ true
both_true true b is = refl
both_true false b is = cc

small_behind : (before : Depth → Bool) (d : ℕ) → (before (depth_of d) ≡ true → d ≤ 16) → (push pop : Bool)
    → depths_behind push pop before (depth_of d) ≡ true → d ≤ 16
small_behind before d small true pop has = let first = both_true (nat_lt 0 d && nat_le d 16)
    (before (depth_of (d - 1))) has in grind (arith, nat_tests, first)
small_behind before d small false true has = let first = both_true (nat_lt d 16) (before (depth_of (d + 1))) has in
    grind (arith, nat_tests, first)
small_behind before d small false false has = small has

small_by : (before : Depth → Bool) (d : ℕ) → (before (depth_of d) ≡ true → d ≤ 16) → (line : Option Sym)
    → depths_by line before (depth_of d) ≡ true → d ≤ 16
small_by before d small None has = small has
small_by before d small (Some line) has = small_behind before d small (pushes line) (pops line) has

pub depth_small : (g : Graph) (path : List ℕ) (d : ℕ) → facts_along no_words (depths_after g) path (depth_of d) ≡ true
    → d ≤ 16
depth_small g [] d has = grind (arith, nat_tests)
depth_small g (i ∷ path) d has = small_by (facts_along no_words (depths_after g) path) d (depth_small g path d)
    (slice_get g.insts i) has

pub path_within : (g : Graph) → IsGraph g → (path : List ℕ) (n : ℕ) → IsPathTo (size_of g) (goes g) path n → n ≤ size_of g
path_within g graph [] n is = omega (arith, is)
path_within g graph (i ∷ path) n is =
    let w = goes_within g graph i is.1 in elim is.2 [ inl e ↦ omega (arith, e, w.0) | inr e ↦ omega (arith, e, w.1) ]

-- Where nothing overruns, each path has a depth.
module _ (g : Graph) (graph : IsGraph g) (sound : IsSound g) where
  fits_behind : (push pop : Bool) (depths : Depth → Bool) (d : ℕ) → d ≤ 16 → depths (depth_of d) ≡ true
      → (((push && depths (depth_of 16)) || (pop && depths (depth_of 0))) ≡ true → ⊥)
      → (e : ℕ) × (depths_behind push pop depths (depth_of e) ≡ true)
  fits_behind true pop depths d most has none = elim (cases_eq d 16) [
    | inl full ↦ absurd (none (ap (λ b. b || (pop && depths (depth_of 0)))
        (sym (ap (λ k. depths (depth_of k)) full) ∙ has)))
    | inr more ↦
        let room : (nat_lt 0 (d + 1) && nat_le (d + 1) 16) ≡ true = let lt : d < 16 = omega (arith, most, more) in
        grind (arith, nat_tests) in
        let back : d ≡ d + 1 - 1 = omega arith in
        (d + 1, ap (λ b. b && depths (depth_of (d + 1 - 1))) room ∙ sym (ap (λ k. depths (depth_of k)) back) ∙ has)
  ]
  fits_behind false true depths d most has none = elim (cases_eq d 0) [
    | inl empty ↦ absurd (none (sym (ap (λ k. depths (depth_of k)) empty) ∙ has))
    | inr some ↦
        let room : nat_lt (d - 1) 16 ≡ true = grind (arith, nat_tests, most, some) in
        let back : d ≡ d - 1 + 1 = omega (arith, some) in
        (d - 1, ap (λ b. b && depths (depth_of (d - 1 + 1))) room ∙ sym (ap (λ k. depths (depth_of k)) back) ∙ has)
  ]
  fits_behind false false depths d most has none = (d, has)

  by_line : (line : Option Sym) (depths : Depth → Bool) (d : ℕ) → d ≤ 16 → depths (depth_of d) ≡ true
      → (overruns_by line depths ≡ true → ⊥)
      → (e : ℕ) × (depths_by line depths (depth_of e) ≡ true)
  by_line None depths d most has none = (d, has)
  by_line (Some line) depths d most has none = fits_behind (pushes line) (pops line) depths d most has none

  path_depth : (path : List ℕ) (n : ℕ) → IsPathTo (size_of g) (goes g) path n → (d : ℕ)
      × (facts_along no_words (depths_after g) path (depth_of d) ≡ true)
  path_depth [] n is = (0, refl)
  path_depth (i ∷ path) n is =
      let before = path_depth path i is.0 in
      by_line (slice_get g.insts i) (facts_along no_words (depths_after g) path) before.0
      (depth_small g path before.0 before.1) before.1
      (λ over. sound.overrun i (BreaksStack.overrun i is.1 (path, is.0, over)))

  one_depth : (n one other : ℕ) → HasDepth g n one → HasDepth g n other → one ≡ other
  one_depth n one other first second = elim (cases_eq one other) [
    | inl same ↦ same
    | inr differ ↦ absurd (sound.two n
        (BreaksStack.two n one other (path_within g graph first.0 n first.1) differ first second))
  ]

  overrun_at : (n : ℕ) (line : Sym) (path : List ℕ) → slice_get g.insts n ≡ Some line
      → IsPathTo (size_of g) (goes g) path n
      → ((pushes line && facts_along no_words (depths_after g) path (depth_of 16)) ||
      (pops line && facts_along no_words (depths_after g) path (depth_of 0))) ≡ true → ⊥
  overrun_at n line path at is over =
      sound.overrun n (BreaksStack.overrun n (slice_get_within g.insts n line at)
      (path, is, ap (λ o. overruns_by o (facts_along no_words (depths_after g) path)) at ∙ over))

  module _ (depths : List ℕ) (count : length depths ≡ size_of g + 1)
      (each : (n : ℕ) → n < length depths → IsDepthAt g n (slice_index depths n)) where
    at_node : (n : ℕ) → IsDepthAt g n (slice_index depths n)
    at_node n = elim (cases_lt n (length depths)) [
      | inl below ↦ each n below
      | inr past ↦ inr (
        get_or_past depths n 0 past,
        λ d p. let w = path_within g graph p.0 n p.1 in
            absurd (omega (arith, w, past, count)),
      )
    ]

    reached : (n depth d : ℕ) → IsDepthAt g n d → HasDepth g n depth → d ≡ depth
    reached n depth d (inl own) has = one_depth n d depth own has
    reached n depth d (inr none) has = absurd (none.1 depth has)

    unreached : (n d : ℕ) → IsDepthAt g n d → ((depth : ℕ) → HasDepth g n depth → ⊥) → d ≡ 0
    unreached n d (inl own) none = absurd (none d own)
    unreached n d (inr none) no_path = none.0

    pub are_depths : AreDepths g depths
    are_depths = record {
      count = count;
      reached = λ n depth has. reached n depth _ (at_node n) has;
      unreached = λ n none. unreached n _ (at_node n) none;
    }

    few : (n d : ℕ) → IsDepthAt g n d → d ≤ 16
    few n d (inl own) = depth_small g own.0 d own.2
    few n d (inr none) = omega (arith, none.0)

    room : (n d : ℕ) (line : Sym) → slice_get g.insts n ≡ Some line → pushes line ≡ true → IsDepthAt g n d → d < 16
    room n d line at push (inl own) = elim (cases_eq d 16) [
      | inl full ↦ absurd (overrun_at n line own.0 at own.1
          (ap (λ b. (b && facts_along no_words (depths_after g) own.0 (depth_of 16)) ||
          (pops line && facts_along no_words (depths_after g) own.0 (depth_of 0))) push
          ∙ ap (λ b. b || (pops line && facts_along no_words (depths_after g) own.0 (depth_of 0)))
          (sym (ap (λ k. facts_along no_words (depths_after g) own.0 (depth_of k)) full) ∙ own.2)))
      | inr more ↦ let most = depth_small g own.0 d own.2 in omega (arith, most, more)
    ]
    room n d line at push (inr none) = omega (arith, none.0)

    or_last : (a b : Bool) → b ≡ true → (a || b) ≡ true
    or_last true b is = refl
    or_last false b is = is

    something : (n : ℕ) (line : Sym) (path : List ℕ) → slice_get g.insts n ≡ Some line → pops line ≡ true
        → IsPathTo (size_of g) (goes g) path n
        → 0 < slice_index depths n
    something n line path at pop is =
        let own = path_depth path n is in
        let same = reached n own.0 _ (at_node n) (path, is, own.1) in
        elim (cases_eq own.0 0) [
          | inl empty ↦ absurd (overrun_at n line path at is
              (or_last _ _ (ap (λ b. b && facts_along no_words (depths_after g) path (depth_of 0)) pop
              ∙ (sym (ap (λ k. facts_along no_words (depths_after g) path (depth_of k)) empty) ∙ own.1))))
          | inr some ↦ omega (arith, same, some)
        ]

    pub fit_depths : FitDepths g depths
    fit_depths = record {
      few = λ n. few n _ (at_node n);
      push = λ n line at push. room n _ line at push (at_node n);
      pop = something;
    }

-- ---- a table

pub none_at : (g : Graph) (n : ℕ) → n < 0 → IsDepthAt g n (slice_index [] n)
none_at g n below = absurd (omega (arith, below))

pub one_more : (g : Graph) (depths longer : List ℕ) (node d : ℕ) → (length depths ≡ node)
    × ((n : ℕ) → n < node → IsDepthAt g n (slice_index depths n))
    → IsDepthAt g node d → longer ≡ depths ++ d ∷ []
    → (length longer ≡ node + 1) × ((n : ℕ) → n < node + 1 → IsDepthAt g n (slice_index longer n))
one_more g depths longer node d so_far own pushed = (
  ap length pushed ∙ length-append depths (d ∷ []) ∙ ap (λ k. k + 1) so_far.0,
  λ n below. subst (λ xs. IsDepthAt g n (slice_index xs n)) (sym pushed) (elim (cases_eq n node) [
    | inl same ↦
        let at : n ≡ length depths = same ∙ sym so_far.0 in
        let value : d ≡ slice_index (depths ++ d ∷ []) n = sym
        (ap (slice_index (depths ++ d ∷ [])) at ∙ get_or-append_seam depths d [] 0) in
        subst (IsDepthAt g n) value (subst (λ k. IsDepthAt g k d) (sym same) own)
    | inr differs ↦
        let before : n < node = omega (arith, below, differs) in
        let value = sym (get_or-append depths (d ∷ []) 0 n (omega (arith, before, so_far.0))) in
        subst (IsDepthAt g n) value (so_far.1 n before)
  ]),
)

-- a node more breaks nothing
pub still_none : (g : Graph) (rule : Rule) (n : ℕ) → ((k : ℕ) → k < n → BreaksStack g rule k → ⊥)
    → (BreaksStack g rule n → ⊥)
    → (k : ℕ) → k < n + 1 → BreaksStack g rule k → ⊥
still_none g rule n before own k below breaks = elim (cases_eq k n) [
  | inl same ↦ own (subst (BreaksStack g rule) same breaks)
  | inr differs ↦ before k (omega (arith, below, differs)) breaks
]
