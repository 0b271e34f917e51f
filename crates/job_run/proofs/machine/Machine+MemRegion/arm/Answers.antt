use Rattle.job_run.specs.Done.{task_path}
use Rattle.job_run.specs.Jobs.{goal_tree}
use Rattle.job_run.proofs.machine.Machine+MemRegion.arm.Goals as goal

pub returns-clause-job : goal.returns-clause-job
returns-clause-job c =
    let j = c.args.self.now in
    record {
      stands = c.arm_stage.ensures.stands (task_path j.card.task) (goal_tree j.goal.value) c.requires.stands;
      kind = c.requires.kind;
      counts = c.arm_stage.ensures.counts c.requires.counts;
    }
