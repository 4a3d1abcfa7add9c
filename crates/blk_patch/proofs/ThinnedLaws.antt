-- Of the items that a statement is accepted with, those that stay are the same whoever drops the others, and it is
-- accepted with them.
use Rattle.std.proofs.Common.{◌≡◌, ◌⊎◌, inl, inr, List, [], ◌∷◌, ◌++◌, Bool, true, false, refl, sym, ap, subst, ◌∙◌}
use Rattle.std.proofs.lemmas.List.{append-nil, append_assoc}
use Rattle.asm_core.specs.declared.statement.Statement.{Statement}
use Rattle.asm_core.specs.declared.interface.Interface.{Interface}
use Rattle.blk_check.specs.Judged.{IsVerdict}
use Rattle.blk_check.specs.declared.verdict.Verdict.{Verdict}
use Rattle.blk_check.proofs.Unique.{verdict_unique}
use Rattle.blk_patch.specs.Items.{with_items}
use Rattle.blk_patch.specs.Rounds.{IsThinned, TellsOk, is_ok}
use Rattle.blk_patch.specs.declared.item.Item.{Item}

module _ (s : Statement) (i : Interface) where
  -- the verdict with these items tells whether it is accepted
  abbrev pub Tells : List Item → Bool → Type 0
  Tells items accepted = TellsOk s (with_items items i) accepted

  pub told : (items : List Item) (v : Verdict) (accepted : Bool) → IsVerdict s (with_items items i) v
      → is_ok v ≡ accepted → Tells items accepted
  told items v accepted is tells = record { verdict = v; is_verdict = is; tells = tells }

  -- it is accepted or not
  pub told_once : (items : List Item) → Tells items true → Tells items false → ⊥
  told_once items ok refused =
      let same = verdict_unique s (with_items items i) ok.verdict refused.verdict ok.is_verdict refused.is_verdict in
      let wrong : true ≡ false = sym ok.tells ∙ ap is_ok same ∙ refused.tells in
      cc

  -- what is left, by the rest
  abbrev pub Left : List Item → List Item → List Item → Type 0
  Left kept [] left = left ≡ kept
  Left kept (x ∷ rest) left =
      (Tells (kept ++ rest) true × Left kept rest left) ⊎ (Tells (kept ++ rest) false × Left (kept ++ x ∷ []) rest left)

  pub left_by : (kept rest left : List Item) → IsThinned s i kept rest left → Left kept rest left
  left_by kept rest left (IsThinned.done k) = refl
  left_by kept rest left (IsThinned.drops k x others l v verdict ok more) =
      inl (told (k ++ others) v true verdict ok, left_by k others l more)
  left_by kept rest left (IsThinned.keeps k x others l v verdict refused more) =
      inr (told (k ++ others) v false verdict refused, left_by (k ++ x ∷ []) others l more)

  left_once : (rest kept a b : List Item) → Left kept rest a → Left kept rest b → a ≡ b
  left_once [] kept a b g h = g ∙ sym h
  left_once (x ∷ rest) kept a b (inl g) (inl h) = left_once rest kept a b g.1 h.1
  left_once (x ∷ rest) kept a b (inl g) (inr h) = absurd (told_once (kept ++ rest) g.0 h.0)
  left_once (x ∷ rest) kept a b (inr g) (inl h) = absurd (told_once (kept ++ rest) h.0 g.0)
  left_once (x ∷ rest) kept a b (inr g) (inr h) = left_once rest (kept ++ x ∷ []) a b g.1 h.1

  -- there is one list of what is left
  pub thinned_once : (items a b : List Item) → IsThinned s i [] items a → IsThinned s i [] items b → a ≡ b
  thinned_once items a b g h = left_once items [] a b (left_by [] items a g) (left_by [] items b h)

  pub left_accepted : (rest kept left : List Item) → Left kept rest left → Tells (kept ++ rest) true → Tells left true
  left_accepted [] kept left is whole =
      subst (λ l. Tells l true) (append-nil kept ∙ sym is) whole
  left_accepted (x ∷ rest) kept left (inl h) whole = left_accepted rest kept left h.1 h.0
  left_accepted (x ∷ rest) kept left (inr h) whole =
      left_accepted rest (kept ++ x ∷ []) left h.1
      (subst (λ l. Tells l true) (sym (append_assoc kept (x ∷ []) rest)) whole)

  -- it is accepted with what is left
  pub thinned_accepted : (items left : List Item) → IsThinned s i [] items left → Tells items true → Tells left true
  thinned_accepted items left is whole = left_accepted items [] left (left_by [] items left is) whole
