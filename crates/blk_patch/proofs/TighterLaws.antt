-- A statement is accepted with the items of its patch, and they only tighten what it tells the compiler.
use Rattle.std.proofs.Common.{List, [], ◌∷◌, Bool, true, false, Result, Ok, Err, IfOk, refl, sym, subst, ◌∙◌}
use Rattle.asm_core.specs.declared.memory.Memory.{Memory}
use Rattle.asm_core.specs.declared.finding.Finding.{Finding}
use Rattle.asm_core.specs.declared.statement.Body.{Body}
use Rattle.asm_core.specs.declared.statement.Statement.{Statement}
use Rattle.asm_core.specs.declared.interface.Interface.{Interface}
use Rattle.blk_check.specs.Judged.{IsVerdict}
use Rattle.blk_check.specs.declared.verdict.Verdict.{Verdict}
use Rattle.blk_patch.specs.Items.{with_items}
use Rattle.blk_patch.specs.Rounds.{is_without_room, IsRefusedEnd, IsEnd, IsPatch, TellsOk}
use Rattle.blk_patch.specs.Tighter.{IsTighter, IsMended, OnlyTightens}
use Rattle.blk_patch.specs.declared.item.Item.{Item}
use Rattle.blk_patch.specs.declared.patches.PatchEnd.{PatchEnd}
use Rattle.blk_patch.proofs.MoreItems.{IsMore, with_some}
use Rattle.blk_patch.proofs.RoomDown.{allowed_down, more_operand}
use Rattle.blk_patch.proofs.ThinnedLaws.{told, thinned_accepted}

pub more_is_tighter : (old new : Interface) → IsMore old new → IsTighter old new
more_is_tighter old new is = record {
  placements = allowed_down old new is;
  inputs = λ k h.
      let found = more_operand old new is k h.operand h.is_operand in
      record { operand = found.0; is_operand = found.1; input = found.2.input h.input };
  outputs = λ k h.
      let found = more_operand old new is k h.operand h.is_operand in
      record { operand = found.0; is_operand = found.1; output = found.2.output ∙ h.output };
  clobbers = is.clobbers;
  cc = is.cc;
  memory = is.memory;
}

module _ (s : Statement) (i : Interface) where
  mended : (items : List Item) → TellsOk s (with_items items i) true → IsMended s i (with_items items i)
  mended items ok = record { tighter = more_is_tighter i (with_items items i) (with_some items i); accepted = ok }

  refused_tightens : (body : Body) (w : Interface) (items : List Item) (fs : List Finding) (full : Bool)
      (end : PatchEnd) → IsRefusedEnd body w items fs full end → OnlyTightens s i end
  refused_tightens body w items [] true end h = subst (OnlyTightens s i) (sym h) tt
  refused_tightens body w items (f ∷ fs) true end h = subst (OnlyTightens s i) (sym h) tt
  refused_tightens body w items [] false end h = absurd h
  refused_tightens body w items (f ∷ fs) false end h = subst (OnlyTightens s i) (sym h) tt

  end_tightens : (items : List Item) (v : Verdict) (end : PatchEnd) → IsVerdict s (with_items items i) v
      → IsEnd s i items v end → OnlyTightens s i end
  end_tightens [] (Verdict.Ok proof) end verdict h = subst (OnlyTightens s i) (sym h) tt
  end_tightens (x ∷ xs) (Verdict.Ok proof) end verdict h =
      subst (OnlyTightens s i) (sym h.2)
      (mended h.0 (thinned_accepted s i (x ∷ xs) h.0 h.1 (told s i (x ∷ xs) (Verdict.Ok proof) true verdict refl)))
  end_tightens items (Verdict.Broken fs) end verdict h =
      refused_tightens s.body (with_items items i) items fs (is_without_room items fs) end h
  end_tightens items (Verdict.Outside mark) end verdict h = subst (OnlyTightens s i) (sym h) tt

  pub tightens : (end : PatchEnd) → IsPatch s i end → OnlyTightens s i end
  tightens end p = end_tightens p.reached.items p.reached.verdict end p.is_reached.is_verdict p.is_end

  pub tightens_answer : (r : Result PatchEnd Memory) → IfOk r (IsPatch s i) → IfOk r (OnlyTightens s i)
  tightens_answer (Ok end) p = tightens end p
  tightens_answer (Err memory) p = tt
