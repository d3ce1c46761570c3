-- Each line is computed.
use mathlib.Core.Path.{refl}
use Rattle.lines.specs.Numbers as numbers
use Rattle.lines.specs.Frames as frames
use Rattle.lines.specs.Parts as parts
use Rattle.lines.specs.Meanings as meanings
use Rattle.lines.specs.Expectations as expectations
use Rattle.lines.specs.Lines as lines
use Rattle.lesson_promises.specs.Reading.{Lines}
use Rattle.lesson_promises.proofs.ToldNames.{lookups}

pub lines-read : Lines
unfolding lookups numbers.sense_of numbers.numeral numbers.named_sense numbers.by_name parts.with_bits parts.amount_of parts.field parts.words_on parts.all_words meanings.alone frames.pairs frames.finished frames.remote frames.with_data frames.behind_identifier frames.frame_line expectations.with_lines expectations.lines_behind expectations.refused expectations.expect_line lines.number_line lines.written lines.write_line lines.bytes_on lines.bytes_line lines.line_of lines.meaning_of
lines-read = record {
  empty = refl;
  comment = refl;
  reset = refl;
  read = refl;
  read_offset = refl;
  idle = refl;
  bits = refl;
  activity = refl;
  start = refl;
  good = refl;
  lost = refl;
  alone = refl;
  result = refl;
  error = refl;
  number = refl;
  fields = refl;
  both = refl;
  numbers = refl;
  request = refl;
  extended = refl;
  banks = refl;
  standard = refl;
  extended_frame = refl;
  no_data = refl;
  remote = refl;
  remote_length = refl;
  remote_code = refl;
  data_code = refl;
  word = refl;
  refusal = refl;
  lines = refl;
  word_and_lines = refl;
  no_lines = refl;
  repeat = refl;
  done = refl;
  hex_bytes = refl;
  no_step = refl;
  capital = refl;
  more = refl;
  range = refl;
  no_number = refl;
  byte_range = refl;
  field_range = refl;
  field_number = refl;
  word_range = refl;
  register = refl;
  offset = refl;
  value = refl;
  field = refl;
  no_field = refl;
  twice = refl;
  overlap = refl;
  lines_twice = refl;
  other_value = refl;
  no_result = refl;
  result_range = refl;
  digits = refl;
  identifier = refl;
  identifier_range = refl;
  hash = refl;
  fd = refl;
  odd_digits = refl;
  nine_bytes = refl;
  wrong_byte = refl;
  remote_range = refl;
  code_of_seven = refl;
  code = refl;
  code_ends = refl;
  pairs = refl;
  no_pairs = refl;
  expectation = refl;
  no_line = refl;
  line_name = refl;
  refusal_range = refl;
  behind_word = refl;
}
