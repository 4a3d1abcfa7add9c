-- What the cut of a template is so far, in the words of its definition.
use Rattle.std.specs.Prelude.{◌≡◌, List, [], ◌++◌, map}
use Rattle.asm_core.specs.Reading.Cut.{Raw, Item, Waiting, raws_from}
use Rattle.asm_core.specs.declared.reading.Atom.{Atom}
use Rattle.att_reader.specs.Seen.{names_seen}
use Rattle.att_reader.specs.declared.text.Text.{Text}
use Rattle.att_reader.specs.declared.raw.Raw as code
use Rattle.att_reader.specs.declared.raw.Raw.TheVariants as raws
use Rattle.att_reader.specs.declared.cut.Cut.{Cut}

-- a label or an instruction
abbrev pub raw_as : code.Raw → Raw Atom
raw_as (raws.Label name) = Raw.Named name.now
raw_as (raws.Dead from) = Raw.Dead from.atoms.now
raw_as (raws.Live i) = Raw.Live i.before.items i.from.atoms.now i.body.atoms.now

abbrev pub raws_as : List code.Raw → List (Raw Atom)
raws_as rs = map raw_as rs

abbrev pub atoms_of : List Text → List (List Atom)
atoms_of ts = map (λ t. t.atoms.now) ts

-- instructions without a reading
abbrev pub dead_from : List Text → List (Raw Atom)
dead_from ts = map Raw.Dead (atoms_of ts)

abbrev pub waiting_in : Cut → Waiting Atom
waiting_in c = record { prefixes = c.waiting.items; froms = atoms_of c.froms.items }

-- what is cut so far, with what those items give behind it
unfoldable pub cut_with : Cut → List (Item Atom) → List (Raw Atom)
cut_with c items = raws_as c.raws.items ++ raws_from (waiting_in c) (names_seen c.seen) items

-- the items are added
pub record Adds (old new : Cut) (more : List (Item Atom)) : Type 0 where
  pub each : (items : List (Item Atom)) → cut_with new items ≡ cut_with old (more ++ items)

-- the prefixes that wait have no instruction
pub record EndsWaiting (old new : Cut) : Type 0 where
  pub raws : raws_as new.raws.items ≡ raws_as old.raws.items ++ dead_from old.froms.items
  pub prefixes : new.waiting.items ≡ []
  pub froms : new.froms.items ≡ []
  pub seen : new.seen ≡ old.seen

-- nothing is cut yet
pub record IsEmpty (c : Cut) : Type 0 where
  pub raws : c.raws.items ≡ []
  pub prefixes : c.waiting.items ≡ []
  pub froms : c.froms.items ≡ []
  pub seen : names_seen c.seen ≡ []
