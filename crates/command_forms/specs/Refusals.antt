-- How refusals of the parts become those of a command.
use Rattle.refusals.specs.declared.refusal.Refusal.{Refusal}
use Rattle.refusals.specs.declared.refusal.Refusal.TheVariants as part
use Rattle.command_forms.specs.declared.fault.Fault.{Fault}
use Rattle.command_forms.specs.declared.fault.StepRefusal.{StepRefusal}
use Rattle.command_forms.specs.declared.fault.StepRefusal.TheVariants as step
use Rattle.command_forms.specs.declared.status.Status.{Status}
use Rattle.command_forms.specs.declared.status.Status.TheVariants as status
use Rattle.command_forms.specs.Outcome.{answer_of}

-- the refusal of a part, as one of a step
abbrev pub step_refusal_of : Refusal Fault → StepRefusal
step_refusal_of (part.Fault f) = step.Fault f
step_refusal_of part.Memory = step.Memory

-- what the refusal of a step is answered with
abbrev pub status_of : StepRefusal → Status
status_of (step.Fault f) = answer_of f
status_of step.Failure = status.Read
status_of step.Memory = status.Memory
