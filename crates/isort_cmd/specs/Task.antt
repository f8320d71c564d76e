-- What an action comes to for one file.
use Rattle.std.specs.Prelude.{ℕ, true, false, List, codes, bytes_eq, if◌then◌else◌}
use Rattle.isort_cmd.specs.declared.job.Action.{Action}
use Rattle.isort_cmd.specs.declared.job.Action.TheVariants.{Identify, Sort}
use Rattle.isort_cmd.specs.declared.job.Task.{Task}
use Rattle.isort_cmd.specs.declared.job.Task.TheVariants as task

-- what is done with the file at a path: a check wins over printing, and standard input is never rewritten
abbrev pub task_of : List ℕ → Action → Task
task_of path (Identify options) = task.List options
task_of path (Sort true to_stdout settings_file profile line_length multi_line) = task.Check
task_of path (Sort false true settings_file profile line_length multi_line) = task.Print
task_of path (Sort false false settings_file profile line_length multi_line) =
    if bytes_eq path (codes "-") then task.Print else task.Rewrite
