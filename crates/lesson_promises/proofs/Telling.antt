-- Each line is computed.
use mathlib.Core.Path.{refl}
use Rattle.model.specs.Records.{field_bytes, bytes_of}
use Rattle.model.specs.Reception.{malformed, data_bytes, bytes_kept}
use Rattle.text.specs.Numbers.{digits, decimal_on}
use Rattle.phrases.specs.Names.{letter_text, name_on, name_text, register_text, amount_text, field_text, row_on, row_fields, fields_on, fields_of, all_text, rest_of, fields_text, is_said}
use Rattle.phrases.specs.Frames.{pair_text, pairs_text, bytes_text, is_worded, identifier_text, remote_text, data_text, payload_text, code_text, worded_text, remark_text, unworded_text, frame_text}
use Rattle.phrases.specs.Steps.{written_text, write_text, result_text, error_text, step_text}
use Rattle.phrases.specs.Lines.{line_text, lines_on, lines_text}
use Rattle.lesson_promises.specs.Telling.{Steps, Registers, Writes, Fields, Frames, Bytes, Lines, Samples}
use Rattle.lesson_promises.proofs.ToldNames.{lookups}

-- what a text unfolds to
unfoldable texts : Unit {0}
unfolding lookups digits decimal_on letter_text name_on name_text register_text amount_text field_text row_on row_fields fields_on fields_of all_text rest_of fields_text is_said written_text write_text result_text error_text step_text line_text lines_on lines_text pair_text pairs_text bytes_text is_worded identifier_text remote_text data_text payload_text code_text worded_text remark_text unworded_text frame_text malformed data_bytes bytes_kept field_bytes bytes_of
texts = tt

steps : Steps
unfolding texts
steps = record {
  reset = refl;
  idle = refl;
  activity = refl;
  start = refl;
  none = refl;
  some = refl;
  most = refl;
  good = refl;
  stuff = refl;
  form = refl;
  ack = refl;
  bit1 = refl;
  bit0 = refl;
  crc = refl;
  lost = refl;
  alone = refl;
  unknown = refl;
  large = refl;
  error = refl;
  odd = refl;
}

registers : Registers
unfolding texts
registers = record {
  first = refl;
  mailbox = refl;
  fifo = refl;
  bank = refl;
  behind = refl;
  between = refl;
  last = refl;
  alone = refl;
  no_row = refl;
}

writes : Writes
unfolding texts
writes = record {
  flags = refl;
  reserved = refl;
  nothing = refl;
  no_fields = refl;
  absent = refl;
  full_flags = refl;
  full_reserved = refl;
  full_nothing = refl;
  full_absent = refl;
}

fields : Fields
unfolding texts
fields = record {
  decimals = refl;
  hexes = refl;
  times = refl;
  standard = refl;
  remote = refl;
  extended = refl;
  widest = refl;
  mixed = refl;
  full_mixed = refl;
  modes = refl;
  past_banks = refl;
  alone = refl;
}

frames : Frames
unfolding texts
frames = record {
  standard = refl;
  low = refl;
  extended = refl;
  low_extended = refl;
  empty = refl;
  zeros = refl;
  eight = refl;
  nine = refl;
  fifteen = refl;
  remote = refl;
  remote_five = refl;
  remote_eight = refl;
  remote_eleven = refl;
  remote_extended = refl;
  bit0 = refl;
  lowest_bit = refl;
  highest_bit = refl;
  code = refl;
  past = refl;
  past_four = refl;
  remote_data = refl;
}

bytes : Bytes
unfolding texts
bytes = record {
  some = refl;
  none = refl;
}

lines : Lines
unfolding texts
lines = record {
  none = refl;
  first = refl;
  some = refl;
  all = refl;
  past = refl;
}

pub samples : Samples
samples = record { steps = steps; registers = registers; writes = writes; fields = fields; frames = frames; bytes = bytes; lines = lines }
