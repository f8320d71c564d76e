use Rattle.py_lines.proofs.Fields.Nesting.{field_is, field_of, shallow_is, shallow_of}
use Rattle.py_lines.proofs.laws.fields_hold_fields.Goals as goal

pub returns : goal.returns
returns c = record {
  whole = field_is;
  parts = field_of;
  shallow_whole = shallow_is;
  shallow_parts = shallow_of;
}
