-- What is promised of the fields and words holds: computed.
use mathlib.Core.Path.{refl}
use Rattle.names.specs.Scan.{byte_at, digit_of, is_of, run_on, run_end, word_at, with_digit, value_on, value}
use Rattle.names.specs.Listing.{bytes, row, general, fields, row_of, text}
use Rattle.names.specs.Rows as rowed
use Rattle.names.specs.Table as tables
use Rattle.lesson_promises.specs.Told.{looked_up, all_of, is_layout, FieldNames, counted, Words, NoNames}

-- what a lookup unfolds to
unfoldable pub lookups : Unit {0}
unfolding byte_at digit_of is_of run_on run_end word_at with_digit value_on value bytes row general fields row_of text rowed.numbers rowed.same_on rowed.is_named rowed.find_on rowed.indexed rowed.index_at rowed.register_on tables.rows_of tables.named tables.register_at tables.place looked_up all_of
lookups = tt

pub field-names : FieldNames
unfolding lookups is_layout
field-names = record { placed = refl }

pub words : Words
unfolding lookups counted
words = record {
  steps = refl;
  results = refl;
  lines = refl;
  expectations = refl;
}

pub no_names : NoNames
unfolding lookups
no_names = record {
  registers = refl;
  control = refl;
  modes = refl;
  steps = refl;
}
