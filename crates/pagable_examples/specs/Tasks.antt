-- How tasks and their states are encoded.
use Rattle.pagable_examples.specs.declared.task.{State.State, Task.Task}
use Rattle.pagable_nodes.specs.{
  Cases.{CaseOf, Cases, case, in_case, no_more, one_of},
  Collections.sorted_map,
  Encoding.{Encoding, empty, fields, number, one, text, three},
}
use Rattle.pagable_value_spec.specs.Keys.{text_order}
use Rattle.std.specs.Int.{w64}
use Rattle.pagable_examples.specs.declared.task.State.TheVariants as states

-- the fields of each case, and which case a state is
abbrev pub state_cases : Cases
state_cases = case empty (case text (case (one 1) no_more))

abbrev pub state_case : State → CaseOf state_cases
state_case states.Open = in_case state_cases 0 tt
state_case (states.Done note) = in_case state_cases 1 note
state_case (states.Replaced by) = in_case state_cases 2 by

abbrev pub state_encoding : Encoding State
state_encoding = one_of state_cases state_case

abbrev pub task_encoding : Encoding Task
task_encoding = fields (λ t. (t.title, t.state, t.hours))
    (three text state_encoding (sorted_map text_order text (number w64)))
