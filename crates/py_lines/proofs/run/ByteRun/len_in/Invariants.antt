use Rattle.py_lines.proofs.Prelude.{prefix_len, ◌≡◌, ◌≤◌, ◌+◌, ◌-◌, drop, length}
use Rattle.py_lines.specs.Private.Run.{is_in_run}
use Rattle.py_lines.proofs.run.ByteRun.len_in.Given as goal

abbrev pub invariant-loop-len : goal.invariant-loop-len
invariant-loop-len l = record {
  within : l.len ≤ length l.bytes;
  counted : prefix_len (is_in_run l.self) l.bytes ≡ l.len + prefix_len (is_in_run l.self) (drop l.len l.bytes);
}

abbrev pub decreases-loop-len : goal.decreases-loop-len
decreases-loop-len l = length l.bytes - l.len
