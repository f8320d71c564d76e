use Rattle.py_lines.proofs.Fields.OneReading.{one_fielded_reading, one_fielded_reading_of_text}
use Rattle.py_lines.proofs.laws.one_reading.Goals as goal

pub returns : goal.returns
returns c = record {
  of_characters = one_fielded_reading;
  of_text = one_fielded_reading_of_text;
}
