-- What is accepted with less told is accepted with more told, as long as there is room.
use Rattle.std.proofs.Common.{◌≡◌, inl, inr, ◌≤◌, List, [], length, map, true, None, refl, sym, subst, ◌∙◌, arith}
use Rattle.asm_core.specs.Lists.{IsMember}
use Rattle.asm_core.specs.Placement.{IsAllowed}
use Rattle.asm_core.specs.Company.{all_places}
use Rattle.asm_core.specs.Reading.Cut.{instruction_count}
use Rattle.asm_core.specs.Reading.UnderShape.{statements_of}
use Rattle.asm_core.specs.Reading.Names.{names}
use Rattle.asm_core.specs.Reading.Line.{lines_under}
use Rattle.asm_core.specs.Shape.{IsLive, shapes_of}
use Rattle.asm_core.specs.declared.shape.Shape.{Shape}
use Rattle.asm_core.specs.declared.placement.Placement.{Placement}
use Rattle.asm_core.specs.declared.statement.Statement.{Statement}
use Rattle.asm_core.specs.declared.interface.Interface.{Interface}
use Rattle.asm_core.specs.declared.lines.Lines.{Lines}
use Rattle.blk_deps.specs.Findings.{IsBroken, IsStackBroken, stack_violations, violations_of}
use Rattle.blk_check.specs.Judged.{AnyHasRoom, IsVerdict, IsShapesVerdict, IsReadingsVerdict, IsReadVerdict, IsFoundVerdict, IsBlocksVerdict, IsStackVerdict, IsPathsVerdict, IsAccepted, graphs_of}
use Rattle.blk_check.specs.Readable.{AreLive, readings_under, pieces_in, u1_line}
use Rattle.blk_check.specs.declared.verdict.Verdict.{Verdict}
use Rattle.blk_check.proofs.AcceptedLaws.{IsClean, accepted_cleared, under_each}
use Rattle.blk_check.proofs.ReadLaws.{AreRead, AreFound, judged_read, none_found_lost, readings_counted}
use Rattle.blk_check.proofs.GoalLaws.{IsCounted}
use Rattle.blk_check.proofs.Unique.{findings_unique}
use Rattle.blk_patch.specs.Least.{AreWithin}
use Rattle.blk_patch.specs.Rounds.{is_ok}
use Rattle.blk_patch.specs.Items.{with_items}
use Rattle.blk_patch.specs.Upward.{TellsMore, TellsMoreOfAll, LeavesPlaces}
use Rattle.blk_patch.specs.declared.item.Item.{Item}
use Rattle.blk_patch.proofs.MoreItems.{IsMore, with_more}
use Rattle.blk_patch.proofs.RoomDown.{allowed_down}
use Rattle.blk_patch.proofs.ShapesDown.{shapes_down, live_member, member_live}
use Rattle.blk_patch.proofs.ShapesFewer.{shapes_fewer}
use Rattle.blk_patch.proofs.UpwardBlocks.{AreMade, all_made, stack_up}
use Rattle.blk_patch.proofs.UpwardFindings.{findings_up}
use Rattle.blk_patch.proofs.UpwardRead.{all_member, line_among, IsGood, none_unread, none_lost, none_found_of_shapes, none_lost_before, none_differs_before}
use Rattle.blk_patch.proofs.UpwardAgree.{u1_stays, u1_same}
use Rattle.blk_patch.proofs.UpwardItems.{tells_more, fewer_leave}
use Rattle.blk_patch.proofs.UpwardReadings.{lines_same}

-- a shape of no operands
any_shape : Shape
any_shape = record { alternative = 0; kinds = [] }

accepted_ok : (s : Statement) (i : Interface) (v : Verdict) → IsAccepted s i v → is_ok v ≡ true
accepted_ok s i (Verdict.Ok p) is = refl
accepted_ok s i (Verdict.Broken fs) is = absurd is
accepted_ok s i (Verdict.Outside mark) is = absurd is

module _ (s : Statement) (old new : Interface)
    (more : (live fewer : List Shape) (t : Shape) → ((q : Shape) → IsMember q fewer → IsMember q live)
    → TellsMore old new live fewer t)
    (allowed : (t : Shape) (at : Placement) → IsAllowed new t at → IsAllowed old t at)
    (shapes : (t : Shape) → IsMember t (shapes_of new) → IsMember t (shapes_of old))
    (same : (t : Shape) → lines_under names new t (pieces_in s.body) ≡ lines_under names old t (pieces_in s.body))
    (c : IsClean s old) where
  was_live : (fewer : List Shape) → AreLive new (shapes_of new) fewer → (t : Shape) → IsMember t fewer
      → IsMember t (shapes_of old) × IsLive old t
  was_live fewer are t member =
      let found = live_member new (shapes_of new) fewer are t member in
      (shapes t found.0, (found.1.0, allowed t found.1.0 found.1.1))

  module _ (fewer : List Shape) (are : AreLive new (shapes_of new) fewer) (v : Verdict) where
    within : (t : Shape) → IsMember t fewer → IsMember t c.live
    within t member =
        let found = was_live fewer are t member in
        member_live old (shapes_of old) c.live c.are_live t found.0 found.1

    abbrev Made : Type 0
    Made = AreMade s old new c.live c.graphs same fewer

    made : Made
    made =
        all_made s old new c.live c.graphs same fewer
        (λ t member. let found = was_live fewer are t member in under_each s old c t found.0 found.1)

    among : (m : Made) (x : Lines) → IsMember x m.lines → IsMember x c.lines
    among m x member =
        let is = m.from x member in
        line_among old (pieces_in s.body) c.live is.shape x is.under c.lines c.readings is.number is.is_shape

    good : (m : Made) (x : Lines) → IsMember x m.lines → IsGood old (pieces_in s.body) x
    good m x member =
        let is = m.from x member in
        let there = among m x member in
        record {
          shape = is.shape;
          under = is.under;
          read =
              all_member AreRead c.lines
              (judged_read old (pieces_in s.body) c.live c.lines c.readings c.read c.alike) x there;
          found = all_member AreFound c.lines (none_found_lost c.lines (none_lost_before old c.live c.lines c.alike))
              x there;
        }

    -- what is told of operands is told under each shape
    under : (t : Shape) → TellsMore old new c.live fewer t
    under t = more c.live fewer t within

    alike : (m : Made) → u1_line new (map (all_places new) fewer) m.lines ≡ None
    alike m =
        u1_same old new (under any_shape).numbers (under any_shape).outputs (λ t. (under t).places) fewer m.lines
        ∙ u1_stays old c.live fewer within c.lines m.lines (among m)
        (instruction_count (statements_of (pieces_in s.body)))
        (λ x member. (all_member (IsCounted (instruction_count (statements_of (pieces_in s.body)))) c.lines
        (readings_counted old (pieces_in s.body) c.live c.lines c.readings) x member).count)
        (none_differs_before old c.live c.lines c.alike)

    tells : (m : Made) → TellsMoreOfAll old new c.live fewer c.graphs m.others
    tells m = record { blocks = m.each; tells = λ t member. under t }

    paths_ok : (m : Made) → IsPathsVerdict s new fewer m.others v → is_ok v ≡ true
    paths_ok m is =
        let none = findings_up old new c.live fewer c.graphs m.others (tells m) c.kept in
        let empty = findings_unique (IsBroken new fewer m.others) (violations_of new) is.found [] is.findings none in
        accepted_ok s new v (subst (λ fs. IsFoundVerdict (IsAccepted s new) fs v) empty is.verdict)

    stack_ok : (m : Made) → IsStackVerdict s new fewer m.others v → is_ok v ≡ true
    stack_ok m is =
        let none = stack_up c.graphs m.others m.among c.level in
        let empty = findings_unique (IsStackBroken m.others) stack_violations is.found [] is.findings none in
        paths_ok m (subst (λ fs. IsFoundVerdict (IsPathsVerdict s new fewer m.others) fs v) empty is.verdict)

    readings_ok : (m : Made) → IsReadingsVerdict s new fewer (readings_under new (pieces_in s.body) fewer) v
        → is_ok v ≡ true
    readings_ok m is =
        let read = subst (λ r. IsReadingsVerdict s new fewer r v) m.readings is in
        let unread = subst (λ mark. IsReadVerdict s new fewer m.lines mark v)
        (none_unread old (pieces_in s.body) m.lines (good m)) read in
        let blocks = subst (λ fs. IsFoundVerdict (IsBlocksVerdict s new fewer (graphs_of m.lines)) fs v)
        (none_found_of_shapes new fewer m.lines (alike m)
        (none_lost old (pieces_in s.body) m.lines (good m))) unread in
        stack_ok m (subst (λ gs. IsBlocksVerdict s new fewer gs v) m.blocks blocks)

  -- the verdict with more told
  pub verdict_up : length (shapes_of new) ≤ 64 → AnyHasRoom new (shapes_of new) → (v : Verdict) → IsVerdict s new v
      → is_ok v ≡ true
  verdict_up few room v (inl h) = let many = h.0 in absurd (omega (arith, many, few))
  verdict_up few room v (inr h) = by h.1
    where
      by : IsShapesVerdict s new (shapes_of new) v → is_ok v ≡ true
      by (inl none) = absurd (none.0 room)
      by (inr some) = readings_ok some.1.live some.1.are_live v (made some.1.live some.1.are_live v) some.1.verdict

clean_of : (s : Statement) (i : Interface) (v : Verdict) → IsVerdict s i v → is_ok v ≡ true → IsClean s i
clean_of s i (Verdict.Ok p) is ok = (accepted_cleared s i p is).clean
clean_of s i (Verdict.Broken fs) is ok = cc
clean_of s i (Verdict.Outside mark) is ok = cc

-- with items
module _ (s : Statement) (i : Interface) (part items : List Item) (within : AreWithin part items)
    (leaves : LeavesPlaces items i) where
  abbrev some : Interface
  some = with_items part i

  abbrev all : Interface
  all = with_items items i

  more : IsMore some all
  more = with_more part items within i

  -- A statement that is accepted with some items is accepted with more of them, where these leave room.
  pub accepted_up : AnyHasRoom all (shapes_of all) → (v w : Verdict) → IsVerdict s some v → is_ok v ≡ true
      → IsVerdict s all w → is_ok w ≡ true
  accepted_up room v w is ok verdict =
      let fewer = shapes_fewer some all more in
      let clean = clean_of s some v is ok in
      let few = clean.few in
      verdict_up s some all
      (λ live fewer t among. tells_more part items within i live fewer t leaves (allowed_down some all more t) among)
      (allowed_down some all more) (shapes_down some all more)
      (λ t. lines_same items i leaves t names (pieces_in s.body)
      ∙ sym (lines_same part i (fewer_leave part items within i leaves) t names (pieces_in s.body)))
      clean (omega (arith, fewer, few)) room w verdict
