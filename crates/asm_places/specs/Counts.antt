-- How many lists of kinds an alternative allows, and the lists made operand by operand.
use Rattle.std.specs.Prelude.{ℕ, min, ◌*◌, ◌==◌, ◌||◌, not, Bool, is_some, List, [], ◌∷◌, ◌++◌, length, map, Option, None, Some, slice_get, option_to_list}
use Rattle.std.specs.List.{flat_map}
use Rattle.asm_core.specs.Shape.{letter_kinds, kinds_after, kind_lists, alternative_of}
use Rattle.asm_core.specs.declared.shape.Kind.{Kind}
use Rattle.asm_core.specs.declared.shape.Shape.{Shape}
use Rattle.asm_core.specs.declared.interface.Interface.{Interface}
use Rattle.asm_core.specs.declared.interface.AltIface.{AltIface}
use Rattle.asm_core.specs.declared.interface.OperandIface.{OperandIface}

-- how many kinds an operand may have; a tied one has its output's alone
abbrev pub kind_count : AltIface → ℕ
kind_count alt = elim alt.tied [ None ↦ length (letter_kinds alt) | Some output ↦ 1 ]

unfoldable pub list_count : List AltIface → ℕ
list_count [] = 1
list_count (alt ∷ alts) = kind_count alt * list_count alts

-- each list with each kind that may follow
abbrev pub one_longer : AltIface → List Kind → List (List Kind)
one_longer alt begun = map (λ kind. begun ++ kind ∷ []) (kinds_after begun alt)

abbrev pub all_longer : AltIface → List (List Kind) → List (List Kind)
all_longer alt lists = flat_map (one_longer alt) lists

-- what alternative a allows these operands
abbrev pub allowed_in : ℕ → List OperandIface → List AltIface
allowed_in a operands = flat_map (λ (o : OperandIface). option_to_list (slice_get o.alts a)) operands

-- the count with one more operand, cut at 65
abbrev pub count_with : Option AltIface → ℕ → ℕ
count_with None count = count
count_with (Some alt) count = min (count * kind_count alt) 65

-- the lists with one more operand
abbrev pub lists_with : Option AltIface → List (List Kind) → List (List Kind)
lists_with None lists = lists
lists_with (Some alt) lists = all_longer alt lists

-- the shapes of one alternative
abbrev pub shape_of : ℕ → List Kind → Shape
shape_of a kinds = record { alternative = a; kinds = kinds }

abbrev pub of_alternative : Interface → ℕ → List Shape
of_alternative i a = map (shape_of a) (kind_lists [] (alternative_of i a))

-- the letters allow the kind
abbrev pub allows : AltIface → Kind → Bool
allows alt Kind.Register = alt.pair || not (alt.regs.0 == 0)
allows alt Kind.Memory = alt.mem
allows alt Kind.Number = is_some alt.numbers
