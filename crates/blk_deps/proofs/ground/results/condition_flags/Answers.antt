use Rattle.std.proofs.Common.{refl}
use Rattle.asm_core.specs.declared.cond.Cond.TheVariants.{O, No, B, Ae, E, Ne, Be, A, S, Ns, P, Np, L, Ge, Le, G}
use Rattle.blk_deps.proofs.GroundFlags.{tells, by_either}
use Rattle.blk_deps.proofs.ground.results.condition_flags.Goals as goal

pub returns-in-O : goal.returns-in-O
returns-in-O c = by_either 32 c.args.condition O No c.in-O.is (tells 32 O refl refl refl refl refl refl)
    (tells 32 No refl refl refl refl refl refl)

pub returns-in-B : goal.returns-in-B
returns-in-B c = by_either 1 c.args.condition B Ae c.in-B.is (tells 1 B refl refl refl refl refl refl)
    (tells 1 Ae refl refl refl refl refl refl)

pub returns-in-E : goal.returns-in-E
returns-in-E c = by_either 8 c.args.condition E Ne c.in-E.is (tells 8 E refl refl refl refl refl refl)
    (tells 8 Ne refl refl refl refl refl refl)

pub returns-in-Be : goal.returns-in-Be
returns-in-Be c = by_either 9 c.args.condition Be A c.in-Be.is (tells 9 Be refl refl refl refl refl refl)
    (tells 9 A refl refl refl refl refl refl)

pub returns-in-S : goal.returns-in-S
returns-in-S c = by_either 16 c.args.condition S Ns c.in-S.is (tells 16 S refl refl refl refl refl refl)
    (tells 16 Ns refl refl refl refl refl refl)

pub returns-in-P : goal.returns-in-P
returns-in-P c = by_either 2 c.args.condition P Np c.in-P.is (tells 2 P refl refl refl refl refl refl)
    (tells 2 Np refl refl refl refl refl refl)

pub returns-in-L : goal.returns-in-L
returns-in-L c = by_either 48 c.args.condition L Ge c.in-L.is (tells 48 L refl refl refl refl refl refl)
    (tells 48 Ge refl refl refl refl refl refl)

pub returns-in-Le : goal.returns-in-Le
returns-in-Le c = by_either 56 c.args.condition Le G c.in-Le.is (tells 56 Le refl refl refl refl refl refl)
    (tells 56 G refl refl refl refl refl refl)
